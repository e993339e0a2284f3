-- What a search tells of a leg is what a plan needs of it: there is no way, or the leg's bytes are laid, and they are
-- few, since it has no more motions than there are places.
use Rattle.std.proofs.Common.{◌≡◌, ◌∙◌, ℕ, ◌*◌, ◌≤◌, None, Some, Option, List, length, map, refl, sym, ap, subst, arith}
use Rattle.std.proofs.Math.Nat.{mul-le-mul_right}
use Rattle.cost.specs.Costs.{Costs}
use Rattle.display.specs.Surface.{resting}
use Rattle.display.specs.declared.cell.Glyph.{Glyph}
use Rattle.display.specs.declared.place.Place.{Place}
use Rattle.display.specs.declared.size.Size.{Size}
use Rattle.labels.specs.Label.{step_of}
use Rattle.labels.specs.declared.label.Label.{Label}
use Rattle.leg_search.specs.Answer.{Answered, Tells}
use Rattle.leg_search.specs.Memory.{held_labels}
use Rattle.leg_search.specs.declared.leg.Leg.{Leg as Told}
use Rattle.legs.specs.Scene.{NoWay, Scene, scene_of, sent}
use Rattle.legs.specs.Sequence.{sequence}
use Rattle.panel.specs.Answers.{Answers, Bounded}
use Rattle.plan.specs.Plan.{Chosen, leg_scene}
use Rattle.legs.proofs.Sends.{sent_few}
use Rattle.legs.proofs.Sequences.{sequence_listed}
use Rattle.plan.proofs.Same.{chosen_of_tells, same_scene}
use Rattle.plan.proofs.Unique.{chosen_leads}
use Rattle.planning.specs.Pours.{Pours, most_leg}
use Rattle.planning.specs.Walks.{Goes, Gone}
use Rattle.planning.specs.declared.go.Progress.{Progress}

pub few_places : (z : Size) → z.rows * z.columns ≤ 1920
few_places z =
    let a : z.rows * z.columns ≤ 24 * z.columns = mul-le-mul_right z.columns z.rows_most in
    let b = z.columns_most in omega arith

module _ {K V C : Type 0} (c : Costs V) (v : K → V) (a : Answers) (f : C → Glyph) (shown wanted : List C) (s : ℕ)
    (d : Progress) (q : Place) (ls : List (Label K)) where
  abbrev over : Answers → Scene
  over b = scene_of b f wanted shown s d.pen

  abbrev planned : Scene
  planned = leg_scene a (map f shown) (map f wanted) s d.pen

  no_leg : (o : Option (Told K)) → o ≡ None → Answered c v (over a) d.cursor q ls o → NoWay c planned d.cursor q
  no_leg o is h =
      subst (λ (x : Scene). NoWay c x d.cursor q) (same_scene a f shown wanted s d.pen)
      (subst (λ (x : Option (Told K)). Answered c v (over a) d.cursor q ls x) is h)

  pub goes_nowhere : (o : Option (Told K)) → o ≡ None → Answered c v (over a) d.cursor q ls o
      → (xs : List ℕ) (r : Option ℕ) → r ≡ None → Goes c a (map f shown) (map f wanted) s d q xs xs r
  goes_nowhere o is h xs r e =
      subst (λ (x : Option ℕ). Goes c a (map f shown) (map f wanted) s d q xs xs x) (sym e) (no_leg o is h, refl)

  module _ (l : Told K) (o : Option (Told K)) (is : o ≡ Some l) (h : Answered c v (over a) d.cursor q ls o)
      (steps : List (Label K)) (e : steps ≡ held_labels ls l.first l.end) (b : Answers) (same : b ≡ a) where
    told : Tells c v (over a) d.cursor q ls l
    told = subst (λ (x : Option (Told K)). Answered c v (over a) d.cursor q ls x) is h

    chosen : Chosen c (over a) d.cursor q told.way
    chosen = chosen_of_tells c v (over a) d.cursor q ls l told

    bytes : sent (over b) d.cursor (sequence (map step_of steps)) ≡ sent (over a) d.cursor told.way
    bytes = ap (λ (x : Answers). sent (over x) d.cursor (sequence (map step_of steps))) same
        ∙ (ap (λ ns. sent (over a) d.cursor (sequence ns)) (ap (map step_of) e ∙ told.motions)
        ∙ ap (sent (over a) d.cursor) (sequence_listed told.way))

    pub few_sent : Bounded a → length (sent (over b) d.cursor (sequence (map step_of steps))) ≤ most_leg
    few_sent bounded =
        let all = sent_few c (over a) bounded d.cursor told.way (resting q)
        (chosen_leads c (over a) d.cursor q told.way chosen) in
        let short = told.short in
        let places = few_places a.size in
        let same_length = ap length bytes in omega arith

    pub gone : Bounded a → (xs ys : List ℕ) (n : ℕ)
        → Pours (sent (over b) d.cursor (sequence (map step_of steps))) xs ys d.count n
        → Gone c a (map f shown) (map f wanted) s d q xs ys n
    gone bounded xs ys n pours = record {
      way = told.way;
      chosen = subst (λ (x : Scene). Chosen c x d.cursor q told.way) (same_scene a f shown wanted s d.pen) chosen;
      pours = subst (λ (bs : List ℕ). Pours bs xs ys d.count n)
          (bytes ∙ ap (λ (x : Scene). sent x d.cursor told.way) (same_scene a f shown wanted s d.pen)) pours;
      few = let x = few_sent bounded in let y = pours.end in omega arith;
    }
