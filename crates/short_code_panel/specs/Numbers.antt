-- The motions by their numbers. Assumes nothing.
use Rattle.std.specs.Prelude.{◌≡◌, ℕ, ◌+◌, ◌-◌, ◌*◌, ◌<◌, ◌≤◌, IfSome, IfNone, Some, None, Option, ◌≢◌}
use Rattle.std.proofs.Common.{subst, ap, ◌∙◌, arith, rules}
use Rattle.std.specs.Option.{option_map}
use Rattle.display.specs.Place.{Numbered}
use Rattle.display.specs.Steps.{placed}
use Rattle.display.specs.declared.place.Place.{Place}
use Rattle.display.specs.declared.size.Size.{Size}
use Rattle.display.proofs.Places.{placed_is, placed_on, placed_past}
use Rattle.short_code_panel.specs.Motions.{Reaches, numbered}
use Rattle.short_code_panel.specs.declared.motions.Motion.{Motion}
use Rattle.short_code_panel.specs.declared.motions.Motion.TheVariants.{Address}

reaches_if : (z : Size) (n : ℕ) → IfSome (numbered z n) (Reaches z)
reaches_if z n = grind (arith, placed_on)

pub reaches : (z : Size) (n : ℕ) (m : Motion) → numbered z n ≡ Some m → Reaches z m
reaches z n m e = subst (λ o. IfSome o (Reaches z)) e (reaches_if z n)

-- the numbers from 6 on are the addresses of the places
past_first : (z : Size) (n : ℕ) → 6 ≤ n → numbered z n ≡ option_map Address (placed z (n - 6))
past_first z n h = search rules

pub numbered_address : (z : Size) (n : ℕ) (p : Place) → 6 ≤ n → Numbered z (n - 6) p → numbered z n ≡ Some (Address p)
numbered_address z n p h is = past_first z n h ∙ ap (option_map Address) (placed_is z (n - 6) p is)

-- past the last number there is no motion
pub numbered_past : (z : Size) (n : ℕ) → 6 + z.rows * z.columns ≤ n → numbered z n ≡ None
numbered_past z n h = past_first z n (omega arith) ∙ ap (option_map Address) (placed_past z (n - 6) (omega arith))

abbrev IsSome : Option Motion → Type 0
IsSome o = IfNone o ⊥

-- each number below the last has a motion
pub numbered_some : (z : Size) (n : ℕ) → n < 6 + z.rows * z.columns → numbered z n ≢ None
numbered_some z n h e = subst IsSome e (search rules)
