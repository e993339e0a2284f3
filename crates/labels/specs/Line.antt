-- The settled and the reached states in a line, the cheapest first, and which motions of them are due. Motions come in
-- classes of one cost; of each class the places of the line from some place on are due, and those before it are dealt with.
--     Classes g ok K Of P     there are K classes: Of c p says that the motion p is of the class c, and P c is what it
--                             costs; each motion that is offered is of one
--     Class g K Of P p        the class of the motion p, which is one of the K
--     Due L e next Of d p     the motion p of the state with the number d is due: d stands in the line L before its end e,
--                             at a place from which on the class of p is due
--     Stands L i e j          the state j stands in the line L, at the place i or later and before e
--     Line g N L e s t        each of the e places of the line L has a state other than the goal t, and each reached or
--                             settled state other than t has a place; those before the place s are settled, the others
--                             are reached; and none costs more than a later one
--     Early K next s          no class is taken beyond the settled states
--     Ahead c P K N L e next v   of each class the next that is due comes to more than the cost v
use Rattle.std.specs.Prelude.{◌≡◌, ◌≢◌, ℕ, ◌<◌, ◌≤◌, true, false, Some}
use Rattle.cost.specs.Costs.{Costs}
use Rattle.legs.specs.Graph.{Graph}
use Rattle.labels.specs.Note.{Note}
use Rattle.labels.specs.declared.label.Stage.TheVariants.{Reached, Settled}

pub record Class {A V : Type 0} (g : Graph A V) (K : ℕ) (Of : ℕ → ℕ → Type 0) (P : ℕ → V) (p : ℕ) : Type 0 where
  pub class : ℕ
  pub below : class < K
  pub is_of : Of class p
  pub price : g.weight p ≡ P class

pub record Classes {A V : Type 0} (g : Graph A V) (ok : A → Type 0) (K : ℕ) (Of : ℕ → ℕ → Type 0) (P : ℕ → V)
    : Type 0 where
  pub classed : (d u : A) (p : ℕ) → ok d → g.step p d ≡ Some u → Class g K Of P p
  pub priced : (c p : ℕ) (d u : A) → ok d → g.step p d ≡ Some u → Of c p → (c < K) × (g.weight p ≡ P c)

pub record Due (L : ℕ → ℕ) (e : ℕ) (next : ℕ → ℕ) (Of : ℕ → ℕ → Type 0) (d p : ℕ) : Type 0 where
  pub place : ℕ
  pub within : place < e
  pub is : L place ≡ d
  pub class : ℕ
  pub is_of : Of class p
  pub from : next class ≤ place

pub record Stands (L : ℕ → ℕ) (i e j : ℕ) : Type 0 where
  pub place : ℕ
  pub from : i ≤ place
  pub below : place < e
  pub is : L place ≡ j

pub record Line {V : Type 0} (c : Costs V) (N : ℕ → Note V) (L : ℕ → ℕ) (e s t : ℕ) : Type 0 where
  pub within : s ≤ e
  pub settled : (i : ℕ) → i < s → (N (L i)).stage ≡ Settled
  pub reached : (i : ℕ) → s ≤ i → i < e → (N (L i)).stage ≡ Reached
  pub others : (i : ℕ) → i < e → L i ≢ t
  pub of_settled : (j : ℕ) → (N j).stage ≡ Settled → j ≢ t → Stands L 0 s j
  pub of_reached : (j : ℕ) → (N j).stage ≡ Reached → j ≢ t → Stands L s e j
  pub sorted : (i j : ℕ) → i ≤ j → j < e → c.at_most (N (L i)).cost (N (L j)).cost ≡ true

pub record Early (K : ℕ) (next : ℕ → ℕ) (s : ℕ) : Type 0 where
  pub early : (c : ℕ) → c < K → next c ≤ s

pub record Ahead {V : Type 0} (c : Costs V) (P : ℕ → V) (K : ℕ) (N : ℕ → Note V) (L : ℕ → ℕ) (e : ℕ) (next : ℕ → ℕ)
    (v : V) : Type 0 where
  pub more : (d : ℕ) → d < K → next d < e → c.at_most (c.plus (N (L (next d))).cost (P d)) v ≡ false
