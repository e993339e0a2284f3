-- What a search tells, as text. Assumes nothing.
use Rattle.std.proofs.Common.{◌≡◌, ◌∙◌, inl, inr, ℕ, ◌+◌, ◌*◌, ◌<◌, None, Option, Err, List, ◌++◌, drop, length, map, take, ap, subst, sym, arith}
use Rattle.std.proofs.Math.Seq.{take-append_seam}
use Rattle.std.proofs.lemmas.List.{length-map}
use Rattle.cost.specs.Costs.{Costs}
use Rattle.display.specs.Place.{On}
use Rattle.display.specs.Surface.{Surface, Within, resting}
use Rattle.display.specs.declared.cell.Glyph.{Glyph}
use Rattle.display.specs.declared.place.Cursor.{Cursor}
use Rattle.display.specs.declared.place.Place.{Place}
use Rattle.display.specs.declared.size.Size.{Size}
use Rattle.labels.specs.Label.{step_of}
use Rattle.labels.specs.declared.label.Label.{Label}
use Rattle.leg_search.specs.Answer.{Answered, Tells}
use Rattle.leg_search.specs.Find.{Astray, Covered, Finds}
use Rattle.leg_search.specs.Memory.{held_labels}
use Rattle.leg_search.specs.declared.leg.Leg.{Leg as Told}
use Rattle.leg_search.specs.declared.leg.Refusal.{Refusal}
use Rattle.leg_search.specs.declared.leg.Refusal.TheVariants.{TooShort, Outside}
use Rattle.leg_view.specs.Report.{ToldLeg, leg_lines, scene_now}
use Rattle.legs.proofs.Sends.{sent_few}
use Rattle.legs.proofs.Unique.{leg_leads}
use Rattle.legs.proofs.Sequences.{sequence_listed}
use Rattle.legs.specs.Graph.{Graph, Leads}
use Rattle.legs.specs.Leg.{Leg}
use Rattle.legs.specs.Scene.{NoWay, Scene, graph, scene_of, sent}
use Rattle.legs.specs.Seen.{scened}
use Rattle.legs.specs.Sequence.{Sequence, listed, none, sequence, then}
use Rattle.legs.specs.declared.scene.Scene.{Scene as Seen}
use Rattle.panel.specs.Answers.{Answers, Bounded}

-- what stands before the rest of an output
pub laid : (bs xs ys : List ℕ) (n : ℕ) → n ≡ length bs → ys ≡ bs ++ drop n xs → take n ys ≡ bs
laid bs xs ys n e h = ap (take n) h ∙ (ap (λ (m : ℕ). take m (bs ++ drop n xs)) e ∙ take-append_seam bs (drop n xs))

module _ {K V : Type 0} (c : Costs V) (f : K → V) (s : Scene) (k : Cursor) (q : Place) (ls : List (Label K))
    (l : Told K) (t : Tells c f s k q ls l) (steps : List (Label K)) (e : steps ≡ held_labels ls l.first l.end) where
  motions : map step_of steps ≡ listed t.way
  motions = ap (map step_of) e ∙ t.motions

  pub bytes : sent s k (sequence (map step_of steps)) ≡ sent s k t.way
  bytes = ap (λ ns. sent s k (sequence ns)) motions ∙ ap (sent s k) (sequence_listed t.way)

  -- sixteen bytes for each place are room enough
  pub has_room : Bounded s.answers → (n : ℕ) → n ≡ 16 * (s.answers.size.rows * s.answers.size.columns)
      → n < length (sent s k (sequence (map step_of steps))) → ⊥
  has_room b n is less =
      let few = sent_few c s b k t.way (resting q) (leg_leads (graph c s) k t.way (resting q) t.leg) in
      let short = t.short in
      let same = ap length bytes in omega arith

  pub told : (w : K → List ℕ) (laid out : List ℕ) → laid ≡ sent s k (sequence (map step_of steps))
      → out ≡ leg_lines (map step_of steps) laid (w l.cost) → ToldLeg c f w s k q out
  told w laid out h i = record {
    way = t.way;
    leg = t.leg;
    only = t.only;
    cost = l.cost;
    spends = t.cost;
    lines = i ∙ (ap (λ ns. leg_lines ns laid (w l.cost)) motions
        ∙ ap (λ bs. leg_lines (listed t.way) bs (w l.cost)) (h ∙ bytes));
  }

module _ {K V : Type 0} (c : Costs V) (f : K → V) (s : Scene) (k : Cursor) (q : Place) where
  pub no_way : (ls : List (Label K)) (o : Option (Told K)) (r : Scene) (j : Cursor) → o ≡ None → s ≡ r → k ≡ j
      → Answered c f s k q ls o → NoWay c r j q
  no_way ls o r j e h i a =
      subst (λ (x : Cursor). NoWay c r x q) i
      (subst (λ (x : Scene). NoWay c x k q) h
      (subst (λ (x : Option (Told K)). Answered c f s k q ls x) e a))

  -- memory enough, and two places of the panel, are not refused
  pub not_refused : (ls ms : List (Label K)) (why : Refusal) → Covered s.answers.size (length ls)
      → On s.answers.size k.place → On s.answers.size q → Finds c f s k q ls ms (Err why) → ⊥
  not_refused ls ms TooShort covered start goal h = h.because covered
  not_refused ls ms (Outside p) covered start goal h = by_cases h.because.1
    where
      by_cases : Astray s.answers.size k q p → ⊥
      by_cases (inl a) = a.0 start
      by_cases (inr a) = a.1 goal

-- the panel of a scene is the one that is told
pub scene_same : {P C : Type 0} (a : P → Answers) (m : P → Surface) (h : C → Glyph) (x : Seen P C) (p r : P)
    → x.panel.now ≡ p → p ≡ r → scened a h x ≡ scene_now (a p) (m p)
    → scene_of (a r) h x.glass.below.now x.glass.from.now x.glass.split x.pen ≡ scene_now (a r) (m r)
scene_same a m h x p r e i j =
    ap (λ z. scene_of (a z) h x.glass.below.now x.glass.from.now x.glass.split x.pen) (sym (e ∙ i))
    ∙ (j ∙ ap (λ z. scene_now (a z) (m z)) i)

-- a label for each place and one more is memory enough for a search on a panel, and its cursor stands on it
pub covers : (z : Size) (labels : ℕ) → labels ≡ z.rows * z.columns + 1 → Covered z labels
covers z labels n = record { memory = omega arith }

module _ (P : ℕ) (m : Surface) (w : Within P m) (z : Size) (e : m.size ≡ z) where
  pub stands : (k : Cursor) → k ≡ m.cursor → On z k.place
  stands k i = subst (λ (y : Size). On y k.place) e (subst (λ (x : Cursor). On m.size x.place) (sym i) w.place)
