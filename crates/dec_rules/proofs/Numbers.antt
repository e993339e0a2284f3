-- The motions by their numbers. Assumes nothing.
--     Good z m     what holds of each motion that has a number on a panel of size z
use Rattle.std.proofs.Common.{◌≡◌, ℕ, ◌+◌, ◌-◌, ◌*◌, ◌<◌, ◌≤◌, Some, None, Option, refl, ap, ◌∙◌, subst, arith, rules}
use Rattle.std.specs.Option.{option_map}
use Rattle.display.specs.Place.{Numbered, On}
use Rattle.display.specs.Steps.{placed}
use Rattle.display.specs.declared.place.Place.{Place}
use Rattle.display.specs.declared.size.Size.{Size}
use Rattle.display.proofs.Places.{placed_is, placed_on, placed_past}
use Rattle.dec_rules.specs.Motions.{numbered}
use Rattle.dec_rules.specs.declared.motion.Motion.{Motion}
use Rattle.dec_rules.specs.declared.motion.Motion.TheVariants.{Return, Back, Feed, Up, Down, Right, Left, Address}

abbrev pub Good : Size → Motion → Type 0
Good z Return = Unit {0}
Good z Back = Unit {0}
Good z Feed = Unit {0}
Good z (Up n) = (1 ≤ n) × (n < 100)
Good z (Down n) = (1 ≤ n) × (n < 100)
Good z (Right n) = (1 ≤ n) × (n < 100)
Good z (Left n) = (1 ≤ n) × (n < 100)
Good z (Address p) = On z p

abbrev GoodIf : Size → Option Motion → Type 0
GoodIf z None = Unit {0}
GoodIf z (Some m) = Good z m

good_if : (z : Size) (n : ℕ) → GoodIf z (numbered z n)
good_if z n = grind (arith, placed_on)

pub good : (z : Size) (n : ℕ) (m : Motion) → numbered z n ≡ Some m → Good z m
good z n m e = subst (GoodIf z) e (good_if z n)

-- the numbers from 207 on are the addresses of the places
past_relative : (z : Size) (n : ℕ) → 207 ≤ n → numbered z n ≡ option_map Address (placed z (n - 207))
past_relative z n h = search rules

pub numbered_address : (z : Size) (n : ℕ) (p : Place) → 207 ≤ n → Numbered z (n - 207) p
    → numbered z n ≡ Some (Address p)
numbered_address z n p h is = past_relative z n h ∙ ap (option_map Address) (placed_is z (n - 207) p is)

-- past the last number there is no motion
pub numbered_past : (z : Size) (n : ℕ) → 207 + z.rows * z.columns ≤ n → numbered z n ≡ None
numbered_past z n h = past_relative z n (omega arith) ∙ ap (option_map Address) (placed_past z (n - 207) (omega arith))

abbrev IsSome : Option Motion → Type 0
IsSome None = ⊥
IsSome (Some m) = Unit {0}

some_if : (z : Size) (n : ℕ) → n < 207 + z.rows * z.columns → IsSome (numbered z n)
some_if z n h = search rules

-- each number below the last has a motion
pub numbered_some : (z : Size) (n : ℕ) → n < 207 + z.rows * z.columns → (m : Motion) × (numbered z n ≡ Some m)
numbered_some z n h = go (numbered z n) (some_if z n h) refl
  where
    go : (o : Option Motion) → IsSome o → numbered z n ≡ o → (m : Motion) × (numbered z n ≡ Some m)
    go None none e = absurd none
    go (Some m) some e = (m, e)

pub numbered_not_none : (z : Size) (n : ℕ) → n < 207 + z.rows * z.columns → numbered z n ≡ None → ⊥
numbered_not_none z n h e = subst IsSome e (some_if z n h)
