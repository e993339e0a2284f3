-- The motions of the panel.
--     numbered z n    the motion with the number n on a panel of size z
--     offered z k m   where the motion m lands from the cursor k, if it is offered there
--     spelled m       the bytes of m: numbers are decimal without leading zeros, and a 1 is left out but in an address
--     takes m         the milliseconds that m takes
--     answers z       all that a panel of size z answers
use Rattle.std.specs.Prelude.{ℕ, ◌+◌, ◌-◌, ◌*◌, true, cond, List, [], ◌∷◌, ◌++◌, Some, None, decimal, Option, ◌==◌, nat_le}
use Rattle.std.specs.Option.{option_map}
use Rattle.display.specs.Steps.{above, below, left_of, placed, right_of}
use Rattle.display.specs.Surface.{place_of, unless_held}
use Rattle.display.specs.declared.place.Cursor.{Cursor}
use Rattle.display.specs.declared.place.Place.{Place}
use Rattle.display.specs.declared.size.Size.{Size}
use Rattle.panel.specs.Answers.{Answers, answered}
use Rattle.dec_rules.specs.Pens.{pen_bytes, wipe}
use Rattle.dec_rules.specs.Rules.{after}
use Rattle.dec_rules.specs.declared.motion.Motion.{Motion}
use Rattle.dec_rules.specs.declared.motion.Motion.TheVariants.{Return, Back, Feed, Up, Down, Right, Left, Address}

abbrev pub numbered : Size → ℕ → Option Motion
numbered z n =
    cond (n == 0) (Some Return) (
    cond (n == 1) (Some Back) (
    cond (n == 2) (Some Feed) (
    cond (nat_le n 25) (Some (Up (n - 2))) (
    cond (nat_le n 48) (Some (Down (n - 25))) (
    cond (nat_le n 127) (Some (Right (n - 48))) (
    cond (nat_le n 206) (Some (Left (n - 127))) (
    option_map Address (placed z (n - 207)))))))))

abbrev pub offered : Size → Cursor → Motion → Option Place
offered z k Return = Some (place_of k.place.row 0)
offered z k Back = unless_held k (left_of k.place 1)
offered z k Feed = unless_held k (below z k.place 1)
offered z k (Up n) = unless_held k (above k.place n)
offered z k (Down n) = unless_held k (below z k.place n)
offered z k (Right n) = unless_held k (right_of z k.place n)
offered z k (Left n) = unless_held k (left_of k.place n)
offered z k (Address p) = Some p

-- 1Bh 5Bh is ESC [: a number that is left out where it is 1, and a letter
abbrev pub relative : ℕ → ℕ → List ℕ
relative n letter = (0x1b ∷ 0x5b ∷ []) ++ (cond (n == 1) [] (decimal n) ++ (letter ∷ []))

-- 0Dh is the carriage return, 08h the backspace, 0Ah the line feed, 41h to 44h are A to D, 3Bh is ;, 48h is H
abbrev pub spelled : Motion → List ℕ
spelled Return = 0x0d ∷ []
spelled Back = 0x08 ∷ []
spelled Feed = 0x0a ∷ []
spelled (Up n) = relative n 0x41
spelled (Down n) = relative n 0x42
spelled (Right n) = relative n 0x43
spelled (Left n) = relative n 0x44
spelled (Address p) =
    (0x1b ∷ 0x5b ∷ []) ++ (decimal (p.row + 1) ++ ((0x3b ∷ []) ++ (decimal (p.column + 1) ++ (0x48 ∷ []))))

abbrev pub takes : Motion → ℕ
takes Return = 0
takes Back = 0
takes Feed = 0
takes (Up n) = 2
takes (Down n) = 2
takes (Right n) = 2
takes (Left n) = 2
takes (Address p) = 5

abbrev pub answers : Size → Answers
answers z = record {
  size = z;
  pens = 16;
  corner_safe = true;
  motions = 207 + z.rows * z.columns;
  lands = λ n k. answered None (offered z k) (numbered z n);
  motion_bytes = λ n. answered [] spelled (numbered z n);
  delay = λ n. answered 0 takes (numbered z n);
  after = after z;
  pen_bytes = pen_bytes;
  wipe = wipe;
}
