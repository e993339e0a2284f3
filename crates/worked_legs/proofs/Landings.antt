-- The certificate for the legs of a scene, in terms of the places where motions land. Assumes nothing.
--     Met k d          d is unheld, or the start k
--     Bounds c s k h   h bounds what sequences from k cost in the scene s
--     First c s k h n d p
--                      n from d comes before every motion that lands on p and costs no more than it raises the bound
--     Landed s n d u   the place where the motion n lands, if it leads from d to u
use Rattle.std.proofs.Common.{◌≡◌, ◌∙◌, ◌⊎◌, inl, inr, ℕ, List, true, false, Some, None, Option, option_map, refl, ap}
use Rattle.std.proofs.Common.{subst}
use Rattle.cost.specs.Costs.{CostLaws, Costs}
use Rattle.display.specs.Surface.{resting}
use Rattle.display.specs.declared.place.Cursor.{Cursor}
use Rattle.display.specs.declared.place.Place.{Place}
use Rattle.legs.specs.Leg.{Earlier}
use Rattle.legs.specs.Scene.{Scene, graph, lands, numbered, priced, sent, steps}
use Rattle.legs.specs.Sequence.{Sequence, none, then}
use Rattle.worked_legs.specs.Established.{Sends}
use Rattle.worked_legs.proofs.Certificate.{Bound, Tight, at_start, goes_on}

abbrev pub Met : Cursor → Cursor → Type 0
Met k d = (d.held ≡ false) ⊎ (d ≡ k)

pub record Bounds {V : Type 0} (c : Costs V) (s : Scene) (k : Cursor) (h : Cursor → V) : Type 0 where
  pub laws : CostLaws c
  pub zero : c.at_most (h k) c.zero ≡ true
  pub raises : (n : ℕ) (d : Cursor) (p : Place) → Met k d → lands s n d ≡ Some p
      → c.at_most (h (resting p)) (c.plus (h d) (priced c s.answers n)) ≡ true

abbrev pub First : {V : Type 0} → Costs V → Scene → Cursor → (Cursor → V) → ℕ → Cursor → Place → Type 0
First c s k h n d p = (m : ℕ) (e : Cursor) → Met k e → lands s m e ≡ Some p
    → c.at_most (c.plus (h e) (priced c s.answers m)) (h (resting p)) ≡ true
    → Earlier n (numbered s.answers.size d) m (numbered s.answers.size e)

pub record Landed (s : Scene) (n : ℕ) (d u : Cursor) : Type 0 where
  pub place : Place
  pub lands : lands s n d ≡ Some place
  pub is : resting place ≡ u

pub landed : (s : Scene) (n : ℕ) (d u : Cursor) → steps s n d ≡ Some u → Landed s n d u
landed s n d u e = go (lands s n d) refl e
  where
    go : (o : Option Place) → lands s n d ≡ o → option_map resting o ≡ Some u → Landed s n d u
    go None f e = absurd (cc)
    go (Some p) f e = record { place = p; lands = f; is = cc }

module _ {V : Type 0} {c : Costs V} {s : Scene} {k : Cursor} {h : Cursor → V} (b : Bounds c s k h) where
  bound : Bound (graph c s) k (Met k) h
  bound = record {
    laws = b.laws;
    begins = inr refl;
    zero = b.zero;
    keeps = λ n d u ok e. let l = landed s n d u e in subst (Met k) l.is (inl refl);
    raises = λ n d u ok e.
        let l = landed s n d u e in
        subst (λ u. c.at_most (h u) (c.plus (h d) (priced c s.answers n)) ≡ true) l.is
        (b.raises n d l.place ok l.lands);
  }

  pub start : c.at_most c.zero (h k) ≡ true → Tight (graph c s) k h none k
  start r = at_start (graph c s) k (Met k) h bound r refl

  pub onward : {w : Sequence} {d : Cursor} (n : ℕ) (p : Place) → Tight (graph c s) k h w d → lands s n d ≡ Some p
      → c.at_most (c.plus (h d) (priced c s.answers n)) (h (resting p)) ≡ true
      → First c s k h n d p → Tight (graph c s) k h (then w n) (resting p)
  onward {w} {d} n p t l r first =
      goes_on (graph c s) k (Met k) h bound w d n (resting p) t (ap (option_map resting) l) r
      (λ e m ok f q.
      let at = landed s m e (resting p) f in
      let same = ap (λ (x : Cursor). x.place) at.is in
      first m e ok (at.lands ∙ ap Some same) q)

pub sends : {V : Type 0} {c : Costs V} {s : Scene} {k u : Cursor} {h : Cursor → V} {w : Sequence} {bs : List ℕ}
    → Tight (graph c s) k h w u → sent s k w ≡ bs → Sends c s k u bs
sends {w = w} t e = record { sequence = w; leg = t.leg; bytes = e }
