-- What follows of places and their numbers. Assumes nothing.
use Rattle.std.proofs.Common.{◌≡◌, ℕ, ◌*◌, ◌/◌, ◌%◌, ◌<◌, ◌≤◌, Bool, true, cond, Some, None, Option, rules}
use Rattle.display.specs.Place.{Numbered, On, number}
use Rattle.display.specs.Steps.{above, below, left_of, placed, right_of, standing}
use Rattle.display.specs.Surface.{place_of, stepped, unless_held}
use Rattle.display.specs.declared.place.Cursor.{Cursor}
use Rattle.display.specs.declared.place.Place.{Place}
use Rattle.display.specs.declared.size.Size.{Size}

pub number_below : (z : Size) (p : Place) → On z p → number z p < z.rows * z.columns
number_below z p on = search rules

-- the place with the number n
pub numbered_place : (z : Size) (n : ℕ) → n < z.rows * z.columns
    → Numbered z n (place_of (n / z.columns) (n % z.columns))
numbered_place z n h = search rules

-- what was found under a test is what stands there, and the test holds
pub found : {X : Type 0} (t : Bool) (q p : X) → cond t (Some q) None ≡ Some p → (t ≡ true) × (q ≡ p)
found t q p e = search rules

pub placed_is : (z : Size) (n : ℕ) (p : Place) → Numbered z n p → placed z n ≡ Some p
placed_is z n p is = search (rules, number_below)

pub placed_past : (z : Size) (n : ℕ) → z.rows * z.columns ≤ n → placed z n ≡ None
placed_past z n h = search rules

pub placed_on : (z : Size) (n : ℕ) (p : Place) → placed z n ≡ Some p → On z p
placed_on z n p e = search (rules, numbered_place)

pub standing_is : (z : Size) (r c : ℕ) → r < z.rows → c < z.columns → standing z r c ≡ Some (place_of r c)
standing_is z r c h w = search rules

-- what is there unless the cursor is held is there
pub when_unheld : {X : Type 0} (k : Cursor) (o : Option X) (p : X) → unless_held k o ≡ Some p → o ≡ Some p
when_unheld k o p e = search rules

-- a place that is found from one of the panel's places is one of them
module _ (z : Size) (p : Place) (on : On z p) (n : ℕ) (q : Place) where
  pub above_on : above p n ≡ Some q → On z q
  above_on e = search rules

  pub below_on : below z p n ≡ Some q → On z q
  below_on e = search rules

  pub left_on : left_of p n ≡ Some q → On z q
  left_on e = search rules

  pub right_on : right_of z p n ≡ Some q → On z q
  right_on e = search rules

-- a step to the right stays on the panel, if the cursor in its last column does
pub stepped_on : (z : Size) (p : Place) (k : Cursor) → On z p → On z k.place → On z (stepped z p k).place
stepped_on z p k on last = search rules
