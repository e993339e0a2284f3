-- A column put in a row keeps every row sane: what is told of the row is widened by a column of the panel.
use Rattle.std.proofs.Common.{◌≡◌, ℕ, zero, suc, ◌<◌, Bool, Option, true, false, cond, List, [], ◌∷◌, refl, sym, subst, arith}
use Rattle.std.specs.List.{AllByRecursion}
use Rattle.damage.specs.Damage.{added, greatest, least, widened}
use Rattle.damage.specs.declared.damage.PutColumns.{PutColumns}
use Rattle.damage.proofs.Hulls.{greatest_right, least_left}
use Rattle.std.proofs.lemmas.Bool.Decides.{nat_tests}
use Rattle.display.specs.declared.place.Place.{Place}
use Rattle.display.specs.declared.size.Size.{Size}
use Rattle.plan.specs.declared.stand.Stand.{Stand}
use Rattle.screen.specs.State.{Kept, Sane}

greatest_below : (w m n : ℕ) → m < w → n < w → greatest m n < w
greatest_below w m n h i = grind (arith, nat_tests)

widened_sane : (w : ℕ) (p : PutColumns) (c : ℕ) → c < w → Sane w p → Sane w (widened p c)
widened_sane w p c lt h = by_cases p.any refl
  where
    by_cases : (b : Bool) → p.any ≡ b → Sane w (cond b
        (record { first = least c p.first; last = greatest p.last c; any = true })
        (record { first = c; last = c; any = true }))
    by_cases true e = record {
      ordered = λ _. let x = least_left c p.first in let y = greatest_right p.last c in omega arith;
      inside = λ _. greatest_below w p.last c (h.inside e) lt;
    }
    by_cases false e = record { ordered = λ _. omega arith; inside = λ _. lt }

added_sane : (w : ℕ) (ps : List PutColumns) (r c : ℕ) → c < w → AllByRecursion (Sane w) ps
    → AllByRecursion (Sane w) (added ps r c)
added_sane w [] r c lt h = h
added_sane w (p ∷ ps) zero c lt h = (widened_sane w p c lt h.0, h.1)
added_sane w (p ∷ ps) (suc r) c lt h = (h.0, added_sane w ps r c lt h.1)

pub put_kept : (z : Size) (q : Place) (l : Option Stand) (ps qs : List PutColumns) (r c : ℕ) → qs ≡ added ps r c
    → c < z.columns → Kept z q l ps → Kept z q l qs
put_kept z q l ps qs r c e lt h = record {
  rest = h.rest;
  left = h.left;
  rows = subst (AllByRecursion (Sane z.columns)) (sym e) (added_sane z.columns ps r c lt h.rows);
}
