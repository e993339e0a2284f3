-- The motions of the panel.
--     numbered n      the motion with the number n
--     offered z k m   where the motion m lands from the cursor k, if it is offered there
--     spelled m       the bytes of m
--     answers z       all that a panel of size z answers
use Rattle.std.specs.Prelude.{ℕ, true, cond, List, [], ◌∷◌, Some, None, Option, ◌==◌}
use Rattle.display.specs.Steps.{below, left_of}
use Rattle.display.specs.Surface.{place_of, unless_held}
use Rattle.display.specs.declared.place.Cursor.{Cursor}
use Rattle.display.specs.declared.place.Place.{Place}
use Rattle.display.specs.declared.size.Size.{Size}
use Rattle.panel.specs.Answers.{Answers, answered}
use Rattle.sticking_panel.specs.Rules.{after}
use Rattle.sticking_panel.specs.declared.motions.Motion.{Motion}
use Rattle.sticking_panel.specs.declared.motions.Motion.TheVariants.{Return, Back, Feed}

abbrev pub numbered : ℕ → Option Motion
numbered n =
    cond (n == 0) (Some Return) (
    cond (n == 1) (Some Back) (
    cond (n == 2) (Some Feed) None))

abbrev pub offered : Size → Cursor → Motion → Option Place
offered z k Return = unless_held k (Some (place_of k.place.row 0))
offered z k Back = unless_held k (left_of k.place 1)
offered z k Feed = unless_held k (below z k.place 1)

-- 0Dh is the carriage return, 08h the backspace, 0Ah the line feed
abbrev pub spelled : Motion → List ℕ
spelled Return = 0x0d ∷ []
spelled Back = 0x08 ∷ []
spelled Feed = 0x0a ∷ []

abbrev pub answers : Size → Answers
answers z = record {
  size = z;
  pens = 1;
  corner_safe = true;
  motions = 3;
  lands = λ n k. answered None (offered z k) (numbered n);
  motion_bytes = λ n. answered [] spelled (numbered n);
  delay = λ n. 0;
  after = after z;
  pen_bytes = λ p. [];
  wipe = 0x0c ∷ [];
}
