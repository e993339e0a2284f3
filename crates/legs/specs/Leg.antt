-- Legs: least sequences, made unique by the order rule.
--     Least g k w u      w leads from k to u, and every sequence that does costs at least as much
--     Earlier m r n s    the motion m from the state with the number r comes before n from s, or is the same: by the
--                        motion's number first
--     Last g k w d n u   n is the last motion of the least sequence 'w then n' to u, from the state d, and no least
--                        sequence to u has an earlier one
--     Leg g k w u        w is the leg from k to u: none, where nothing is least; else its last motion is the earliest
--                        that a least sequence can have, and the part before it is the leg to where that departs
use Rattle.std.specs.Prelude.{◌≡◌, ◌⊎◌, ℕ, ◌<◌, ◌≤◌, true}
use Rattle.legs.specs.Graph.{Graph, Leads, spent}
use Rattle.legs.specs.Sequence.{Sequence, none, then}

pub record Least {A V : Type 0} (g : Graph A V) (k : A) (w : Sequence) (u : A) : Type 0 where
  pub leads : Leads g k w u
  pub least : (x : Sequence) → Leads g k x u → g.costs.at_most (spent g w) (spent g x) ≡ true

abbrev pub Earlier : ℕ → ℕ → ℕ → ℕ → Type 0
Earlier m r n s = (m < n) ⊎ ((m ≡ n) × (r ≤ s))

pub record Last {A V : Type 0} (g : Graph A V) (k : A) (w : Sequence) (d : A) (n : ℕ) (u : A) : Type 0 where
  pub least : Least g k (then w n) u
  pub departs : Leads g k w d
  pub first : (x : Sequence) (e : A) (m : ℕ) → Leads g k x e → Least g k (then x m) u
      → Earlier n (g.number d) m (g.number e)

abbrev pub Leg : {A V : Type 0} → Graph A V → A → Sequence → A → Type 0
Leg g k none u = Least g k none u
Leg {A} g k (then w n) u = (d : A) × Last g k w d n u × Leg g k w d
