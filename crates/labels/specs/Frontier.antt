-- What holds of the notes of a search, where a note is kept of each state by its number.
--     Known a v n r       the note a is of a reached state, and at least as good as reaching at the cost v by the
--                         motion n from the state with the number r
--     Beyond c N t j v    the state j is not the goal t, which is known at the cost v or less
--     Handled N t j v n r reaching the state j at the cost v by n from r is dealt with: j is settled; it is known as
--                         well; or it is beyond the goal t: another state, while t is known at that cost or less
--     Back N u w n        the note of u tells the last motion n, and a settled state before it, to which w leads
--     Traced N u          the settled state u has its leg, and its note tells the leg's cost, its last motion and the
--                         settled state before it
--     Labelled N u        the note of the reached state u is of a motion from a settled state
--     DueAt i             all motions of the state with the number i are due
--     Dearer N D v        every motion of a settled state that is due, by D, and every motion of a reached one comes to more
--                         than the cost v
--     Frontier N t D      the beginning is settled; what is settled is traced; each motion of a settled state is dealt
--                         with, but for those that are still due, where D d n says that n is due at d; what is reached
--                         is labelled
use Rattle.std.specs.Prelude.{◌≡◌, ◌≢◌, ◌⊎◌, ℕ, true, false, Some}
use Rattle.cost.specs.Costs.{Costs}
use Rattle.legs.specs.Graph.{Graph, Leads, spent}
use Rattle.legs.specs.Leg.{Earlier, Leg}
use Rattle.legs.specs.Sequence.{Sequence, then}
use Rattle.labels.specs.Note.{Note}
use Rattle.labels.specs.declared.label.Stage.TheVariants.{Reached, Settled}

pub record Beyond {V : Type 0} (c : Costs V) (N : ℕ → Note V) (t j : ℕ) (v : V) : Type 0 where
  pub apart : j ≢ t
  pub reached : (N t).stage ≡ Reached
  pub below : c.at_most (N t).cost v ≡ true

module _ {A V : Type 0} (g : Graph A V) where
  pub record Known (a : Note V) (v : V) (n r : ℕ) : Type 0 where
    pub reached : a.stage ≡ Reached
    pub cost : g.costs.at_most a.cost v ≡ true
    pub tie : g.costs.at_most v a.cost ≡ true → Earlier a.motion a.from n r

  pub data Handled (N : ℕ → Note V) (t j : ℕ) (v : V) (n r : ℕ) : Type 0 where
    done : (N j).stage ≡ Settled → Handled N t j v n r
    known : Known (N j) v n r → Handled N t j v n r
    beyond : Beyond g.costs N t j v → Handled N t j v n r

abbrev pub DueAt : ℕ → ℕ → ℕ → Type 0
DueAt i d n = d ≡ i

module _ {A V : Type 0} (g : Graph A V) (k : A) (ok : A → Type 0) where
  pub record Back (N : ℕ → Note V) (u : A) (w : Sequence) (n : ℕ) : Type 0 where
    pub motion : (N (g.number u)).motion ≡ n
    pub state : A
    pub leads : Leads g k w state
    pub from : (N (g.number u)).from ≡ g.number state
    pub settled : (N (g.number state)).stage ≡ Settled

  pub record Traced (N : ℕ → Note V) (u : A) : Type 0 where
    pub way : Sequence
    pub leg : Leg g k way u
    pub cost : spent g way ≡ (N (g.number u)).cost
    pub back : (w : Sequence) (n : ℕ) → way ≡ then w n → Back N u w n

  pub record Labelled (N : ℕ → Note V) (u : A) : Type 0 where
    pub state : A
    pub is_ok : ok state
    pub settled : (N (g.number state)).stage ≡ Settled
    pub step : g.step (N (g.number u)).motion state ≡ Some u
    pub from : (N (g.number u)).from ≡ g.number state
    pub cost : (N (g.number u)).cost ≡ g.costs.plus (N (g.number state)).cost (g.weight (N (g.number u)).motion)

  pub record Dearer (N : ℕ → Note V) (D : ℕ → ℕ → Type 0) (v : V) : Type 0 where
    pub due : (d u : A) (n : ℕ) → ok d → (N (g.number d)).stage ≡ Settled → g.step n d ≡ Some u → D (g.number d) n
        → g.costs.at_most (g.costs.plus (N (g.number d)).cost (g.weight n)) v ≡ false
    pub waiting : (d u : A) (n : ℕ) → ok d → (N (g.number d)).stage ≡ Reached → g.step n d ≡ Some u
        → g.costs.at_most (g.costs.plus (N (g.number d)).cost (g.weight n)) v ≡ false

  pub record Frontier (N : ℕ → Note V) (t : ℕ) (D : ℕ → ℕ → Type 0) : Type 0 where
    pub root : (N (g.number k)).stage ≡ Settled
    pub traced : (u : A) → ok u → (N (g.number u)).stage ≡ Settled → Traced N u
    pub handled : (d u : A) (n : ℕ) → ok d → (N (g.number d)).stage ≡ Settled → g.step n d ≡ Some u
        → Handled g N t (g.number u) (g.costs.plus (N (g.number d)).cost (g.weight n)) n (g.number d) ⊎ D (g.number d) n
    pub labelled : (u : A) → ok u → (N (g.number u)).stage ≡ Reached → Labelled N u
