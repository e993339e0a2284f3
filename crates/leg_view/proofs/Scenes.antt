-- One picture on the whole glass. Assumes nothing.
use Rattle.std.proofs.Common.{◌≡◌, ◌∙◌, ℕ, Bool, true, false, cond, List, map, nat_lt, slice_index_or, refl, ap}
use Rattle.display.specs.Cell.{blank}
use Rattle.display.specs.Place.{number}
use Rattle.display.specs.Surface.{Surface}
use Rattle.display.specs.declared.cell.Glyph.{Glyph}
use Rattle.display.specs.declared.place.Place.{Place}
use Rattle.leg_view.specs.Report.{scene_now}
use Rattle.legs.specs.Glass.{glass_glyph}
use Rattle.legs.specs.Scene.{scene_of}
use Rattle.panel.specs.Answers.{Answers}

either : {X : Type 0} (b : Bool) (x : X) → cond b x x ≡ x
either true x = refl
either false x = refl

pub one_picture : {C : Type 0} (a : Answers) (f : C → Glyph) (xs : List C) (n p : ℕ) (s : Surface)
    → map f xs ≡ s.picture → p ≡ s.pen → scene_of a f xs xs n p ≡ scene_now a s
one_picture a f xs n p s e h = λ i. record { answers = a; glass = λ q. shown q i; pen = h i }
  where
    shown : (q : Place)
        → glass_glyph f xs xs n (number a.size q) ≡ slice_index_or s.picture (number a.size q) blank
    shown q = ap (λ ys. slice_index_or (map f ys) (number a.size q) blank) (either (nat_lt (number a.size q) n) xs)
        ∙ ap (λ gs. slice_index_or gs (number a.size q) blank) e
