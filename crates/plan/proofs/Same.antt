-- The scene of a search is the scene of a leg of a plan, and what a search tells is the leg that a plan takes.
use Rattle.std.proofs.Common.{◌≡◌, ℕ, Bool, true, false, cond, List, map, nat_lt, slice_index_or, refl, ap}
use Rattle.cost.specs.Costs.{Costs}
use Rattle.display.specs.Cell.{blank}
use Rattle.display.specs.Place.{number}
use Rattle.display.specs.declared.cell.Glyph.{Glyph}
use Rattle.display.specs.declared.place.Cursor.{Cursor}
use Rattle.display.specs.declared.place.Place.{Place}
use Rattle.labels.specs.declared.label.Label.{Label}
use Rattle.leg_search.specs.Answer.{Tells}
use Rattle.leg_search.specs.declared.leg.Leg.{Leg as Told}
use Rattle.legs.specs.Glass.{glass_glyph}
use Rattle.legs.specs.Scene.{Scene, scene_of}
use Rattle.panel.specs.Answers.{Answers}
use Rattle.plan.specs.Plan.{Chosen, leg_scene}

parted : {C : Type 0} (f : C → Glyph) (t : Bool) (xs ys : List C) → map f (cond t ys xs) ≡ cond t (map f ys) (map f xs)
parted f true xs ys = refl
parted f false xs ys = refl

pub same_scene : {C : Type 0} (a : Answers) (f : C → Glyph) (xs ys : List C) (s p : ℕ)
    → scene_of a f ys xs s p ≡ leg_scene a (map f xs) (map f ys) s p
same_scene a f xs ys s p = λ i. record { answers = a; glass = λ q. same (number a.size q) i; pen = p }
  where
    same : (n : ℕ) → glass_glyph f ys xs s n ≡ slice_index_or (cond (nat_lt n s) (map f ys) (map f xs)) n blank
    same n = ap (λ gs. slice_index_or gs n blank) (parted f (nat_lt n s) xs ys)

pub chosen_of_tells : {K V : Type 0} (c : Costs V) (v : K → V) (s : Scene) (k : Cursor) (q : Place)
    (ls : List (Label K)) (l : Told K) (h : Tells c v s k q ls l) → Chosen c s k q h.way
chosen_of_tells c v s k q ls l h = record { leg = h.leg; only = h.only; least = h.least }
