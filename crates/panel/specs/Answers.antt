-- What a panel answers, for its whole life.
--     Answers          one field for each question
--     Bounded a        the limits that the answers keep
--     answered x f o   what f says of the motion o, or x where there is no such motion
use Rattle.std.specs.Prelude.{◌≡◌, ℕ, ◌+◌, ◌<◌, ◌≤◌, Bool, List, length, Some, None, Option}
use Rattle.display.specs.Place.{On}
use Rattle.display.specs.Surface.{place_of, resting}
use Rattle.display.specs.declared.place.Cursor.{Cursor}
use Rattle.display.specs.declared.place.Place.{Place}
use Rattle.display.specs.declared.size.Size.{Size}

pub record Answers : Type 0 where
  pub size : Size
  -- the number of pens
  pub pens : ℕ
  -- whether the last place of the last row can be printed on
  pub corner_safe : Bool
  -- the number of motions, which are numbered from 0
  pub motions : ℕ
  -- where a motion lands from a cursor, if it is offered there
  pub lands : ℕ → Cursor → Option Place
  pub motion_bytes : ℕ → List ℕ
  -- the milliseconds that a motion takes
  pub delay : ℕ → ℕ
  -- the after-state: the cursor once a code was printed at a place
  pub after : Place → Cursor
  pub pen_bytes : ℕ → List ℕ
  pub wipe : List ℕ

abbrev pub most_pens : ℕ
most_pens = 16

abbrev pub most_motions : ℕ
most_motions = 4096

abbrev pub most_bytes : ℕ
most_bytes = 16

abbrev pub most_delay : ℕ
most_delay = 1000

pub record Bounded (a : Answers) : Type 0 where
  pub some_pen : 1 ≤ a.pens
  pub few_pens : a.pens ≤ most_pens
  pub few_motions : a.motions ≤ most_motions
  -- no motion is offered under another number
  pub numbered : (n : ℕ) (k : Cursor) → a.motions ≤ n → a.lands n k ≡ None
  pub lands_on : (n : ℕ) (k : Cursor) (p : Place) → On a.size k.place → a.lands n k ≡ Some p → On a.size p
  pub some_bytes : (n : ℕ) → n < a.motions → 1 ≤ length (a.motion_bytes n)
  pub few_bytes : (n : ℕ) → n < a.motions → length (a.motion_bytes n) ≤ most_bytes
  pub short_delay : (n : ℕ) → n < a.motions → a.delay n ≤ most_delay
  -- before the last column the next column follows, unheld
  pub after_next : (p : Place) → On a.size p → p.column + 1 < a.size.columns
      → a.after p ≡ resting (place_of p.row (p.column + 1))
  pub after_on : (p : Place) → On a.size p → On a.size (a.after p).place
  pub few_pen_bytes : (p : ℕ) → p < a.pens → length (a.pen_bytes p) ≤ most_bytes
  pub few_wipe_bytes : length a.wipe ≤ most_bytes

abbrev pub answered : {M X : Type 0} → X → (M → X) → Option M → X
answered x f None = x
answered x f (Some m) = f m
