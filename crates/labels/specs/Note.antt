-- What a label says.
--     Note V               what is known of a state: its stage, and the cost, the last motion and the number of the
--                          state before it on the best sequence that is known, in values V
--     reached v n r        reached at the cost v by the motion n from the state with the number r
--     settled a            a, with its state settled
--     beats c v n r a      reaching at the cost v by n from r is better than the note a: cheaper, or as cheap and with
--                          an earlier last motion
--     improved c a v n r   the better of a and that; a settled state stays
--     improved_at s c a v n r
--                          the same, where s is the stage of a
--     Updated N N' i x     where N tells the notes by the states' numbers, N' tells the same but x for i
use Rattle.std.specs.Prelude.{◌≡◌, ◌≢◌, ℕ, Bool, true, cond, ◌&&◌, ◌||◌, ◌==◌, nat_lt}
use Rattle.cost.specs.Costs.{Costs}
use Rattle.labels.specs.declared.label.Stage.{Stage}
use Rattle.labels.specs.declared.label.Stage.TheVariants.{Unreached, Reached, Settled}

pub record Note (V : Type 0) : Type 0 where
  pub stage : Stage
  pub cost : V
  pub motion : ℕ
  pub from : ℕ

abbrev pub reached : {V : Type 0} → V → ℕ → ℕ → Note V
reached v n r = record { stage = Reached; cost = v; motion = n; from = r }

abbrev pub settled : {V : Type 0} → Note V → Note V
settled a = record { stage = Settled; cost = a.cost; motion = a.motion; from = a.from }

abbrev pub beats : {V : Type 0} → Costs V → V → ℕ → ℕ → Note V → Bool
beats c v n r a = cond (c.at_most a.cost v)
    (c.at_most v a.cost && (nat_lt n a.motion || (n == a.motion && nat_lt r a.from)))
    true

abbrev pub improved_at : {V : Type 0} → Stage → Costs V → Note V → V → ℕ → ℕ → Note V
improved_at Unreached c a v n r = reached v n r
improved_at Reached c a v n r = cond (beats c v n r a) (reached v n r) a
improved_at Settled c a v n r = a

abbrev pub improved : {V : Type 0} → Costs V → Note V → V → ℕ → ℕ → Note V
improved c a v n r = improved_at a.stage c a v n r

pub record Updated {V : Type 0} (N N' : ℕ → Note V) (i : ℕ) (x : Note V) : Type 0 where
  pub here : N' i ≡ x
  pub there : (j : ℕ) → j ≢ i → N' j ≡ N j
