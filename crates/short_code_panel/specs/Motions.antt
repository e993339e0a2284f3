-- The motions of the panel, its pens and its wipe.
--     numbered z n    the motion with the number n on a panel of size z
--     Reaches z m     the place that the motion m addresses, if it does, is on a panel of size z
--     offered z k m   where the motion m lands from the cursor k, if it is offered there
--     spelled m       the bytes of m
--     takes m         the milliseconds that m takes
--     pen_bytes p     the byte that sets the pen p
--     answers z       all that a panel of size z answers
use Rattle.std.specs.Prelude.{ℕ, ◌+◌, ◌-◌, ◌*◌, false, cond, List, [], ◌∷◌, Some, None, Option, ◌==◌}
use Rattle.std.specs.Option.{option_map}
use Rattle.display.specs.Place.{On}
use Rattle.display.specs.Steps.{above, below, left_of, placed, right_of}
use Rattle.display.specs.Surface.{place_of, unless_held}
use Rattle.display.specs.declared.place.Cursor.{Cursor}
use Rattle.display.specs.declared.place.Place.{Place}
use Rattle.display.specs.declared.size.Size.{Size}
use Rattle.panel.specs.Answers.{Answers, answered}
use Rattle.short_code_panel.specs.Rules.{after}
use Rattle.short_code_panel.specs.declared.motions.Motion.{Motion}
use Rattle.short_code_panel.specs.declared.motions.Motion.TheVariants.{Return, Back, Feed, Up, Right, Home, Address}

abbrev pub numbered : Size → ℕ → Option Motion
numbered z n =
    cond (n == 0) (Some Return) (
    cond (n == 1) (Some Back) (
    cond (n == 2) (Some Feed) (
    cond (n == 3) (Some Up) (
    cond (n == 4) (Some Right) (
    cond (n == 5) (Some Home) (
    option_map Address (placed z (n - 6))))))))

abbrev pub Reaches : Size → Motion → Type 0
Reaches z Return = Unit {0}
Reaches z Back = Unit {0}
Reaches z Feed = Unit {0}
Reaches z Up = Unit {0}
Reaches z Right = Unit {0}
Reaches z Home = Unit {0}
Reaches z (Address p) = On z p

abbrev pub offered : Size → Cursor → Motion → Option Place
offered z k Return = unless_held k (Some (place_of k.place.row 0))
offered z k Back = unless_held k (left_of k.place 1)
offered z k Feed = unless_held k (below z k.place 1)
offered z k Up = unless_held k (above k.place 1)
offered z k Right = unless_held k (right_of z k.place 1)
offered z k Home = unless_held k (Some (place_of 0 0))
offered z k (Address p) = unless_held k (Some p)

-- 1Bh 3Dh is ESC =
abbrev pub spelled : Motion → List ℕ
spelled Return = 0x0d ∷ []
spelled Back = 0x08 ∷ []
spelled Feed = 0x0a ∷ []
spelled Up = 0x0b ∷ []
spelled Right = 0x0c ∷ []
spelled Home = 0x1e ∷ []
spelled (Address p) = 0x1b ∷ 0x3d ∷ (0x20 + p.row) ∷ (0x20 + p.column) ∷ []

abbrev pub takes : Motion → ℕ
takes Return = 0
takes Back = 0
takes Feed = 0
takes Up = 0
takes Right = 0
takes Home = 0
takes (Address p) = 3

abbrev pub pen_bytes : ℕ → List ℕ
pen_bytes p = cond (p == 0) (0x0f ∷ []) (0x0e ∷ [])

abbrev pub answers : Size → Answers
answers z = record {
  size = z;
  pens = 2;
  corner_safe = false;
  motions = 6 + z.rows * z.columns;
  lands = λ n k. answered None (offered z k) (numbered z n);
  motion_bytes = λ n. answered [] spelled (numbered z n);
  delay = λ n. answered 0 takes (numbered z n);
  after = after z;
  pen_bytes = pen_bytes;
  wipe = 0x1a ∷ [];
}
