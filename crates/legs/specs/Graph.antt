-- States and the motions between them.
--     Graph A V      for states A and costs of values V: where a motion lands from a state, if it is offered there;
--                    what a motion costs; the numbers of the states; how costs add up and which is less
--     ends f k w     where the sequence w ends that begins at the state k, if each motion is offered where the one
--                    before it landed; f n d is where the motion n lands from the state d
--     spent g w      what w costs: the sum of its motions, zero if there is none
--     Leads g k w u  w leads from k to u
use Rattle.std.specs.Prelude.{◌≡◌, ℕ, Some, Option, option_and_then}
use Rattle.cost.specs.Costs.{Costs}
use Rattle.legs.specs.Sequence.{Sequence, none, then}

pub record Graph (A V : Type 0) : Type 0 where
  pub step : ℕ → A → Option A
  pub weight : ℕ → V
  pub number : A → ℕ
  pub costs : Costs V

abbrev pub ends : {A : Type 0} → (ℕ → A → Option A) → A → Sequence → Option A
ends f k none = Some k
ends f k (then w n) = option_and_then (f n) (ends f k w)

abbrev pub spent : {A V : Type 0} → Graph A V → Sequence → V
spent g none = g.costs.zero
spent g (then w n) = g.costs.plus (spent g w) (g.weight n)

abbrev pub Leads : {A V : Type 0} → Graph A V → A → Sequence → A → Type 0
Leads g k w u = ends g.step k w ≡ Some u
