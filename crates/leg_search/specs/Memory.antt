-- The memory of a search.
--     Prepared c N b        the beginning b is settled at no cost, and no other state is reached
--     held_labels ls i e, held ls i e
--                           the labels from i to below e, and the motions that they hold
--     HoldsMore ls xs i n   the labels xs hold the motion n before those that ls hold from i + 1 on
--     Trailed N b t m       the notes from the state t back to b tell a sequence of at most m motions, by states that
--                           have labels
--     Traces N b t m hs     of whatever such sequence they tell, hs are the motions
--     Cleared N i           no state below i is reached
--     Tracing N M b t m i j hs
--                           the way back has come to the state j: of a sequence that the notes N tell, hs are the last
--                           motions, and the others, which they tell from j, are not more than i. M tells the same as N
use Rattle.std.specs.Prelude.{◌≡◌, ◌≢◌, ℕ, ◌+◌, ◌<◌, ◌≤◌, List, ◌∷◌, ◌++◌, length, drop, map, take}
use Rattle.cost.specs.Costs.{Costs}
use Rattle.labels.specs.Label.{step_of}
use Rattle.labels.specs.Note.{Note}
use Rattle.labels.specs.Trail.{Trail}
use Rattle.labels.specs.declared.label.Label.{Label}
use Rattle.labels.specs.declared.label.Stage.TheVariants.{Unreached, Settled}
use Rattle.legs.specs.Sequence.{Sequence, count, listed}

pub record Prepared {V : Type 0} (c : Costs V) (N : ℕ → Note V) (b : ℕ) : Type 0 where
  pub settled : (N b).stage ≡ Settled
  pub cost : (N b).cost ≡ c.zero
  pub others : (j : ℕ) → j ≢ b → (N j).stage ≡ Unreached

abbrev pub held_labels : {K : Type 0} → List (Label K) → ℕ → ℕ → List (Label K)
held_labels ls i e = drop i (take e ls)

abbrev pub held : {K : Type 0} → List (Label K) → ℕ → ℕ → List ℕ
held ls i e = map step_of (held_labels ls i e)

pub record HoldsMore {K : Type 0} (ls xs : List (Label K)) (i n : ℕ) : Type 0 where
  pub more : (m : ℕ) → i < m → m ≤ length ls → held xs i m ≡ n ∷ held ls (i + 1) m

pub record Trailed {V : Type 0} (N : ℕ → Note V) (b t m : ℕ) : Type 0 where
  pub way : Sequence
  pub trail : Trail N b m way t
  pub short : count way ≤ m

pub record Traces {V : Type 0} (N : ℕ → Note V) (b t m : ℕ) (hs : List ℕ) : Type 0 where
  pub traces : (w : Sequence) → Trail N b m w t → hs ≡ listed w

pub record Cleared {V : Type 0} (N : ℕ → Note V) (i : ℕ) : Type 0 where
  pub unreached : (j : ℕ) → j < i → (N j).stage ≡ Unreached

pub record Tracing {V : Type 0} (N M : ℕ → Note V) (b t m i j : ℕ) (hs : List ℕ) : Type 0 where
  pub notes : M ≡ N
  pub way : Sequence
  pub trail : Trail N b m way t
  pub rest : Sequence
  pub rest_trail : Trail N b m rest j
  pub told : listed way ≡ listed rest ++ hs
  pub room : count rest ≤ i
  pub inside : i ≤ m
