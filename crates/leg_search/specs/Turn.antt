-- One turn of a search: the class that is due first is taken from the states of one cost.
--     Rests z n u           the cursor u rests, unheld, on the place with the number n of a panel of size z
--     Settles N M n         the state n is settled by M if it was reached, and else M tells the same as N
--     Turned x r s v d      it is the turn of v still, once r has become s and the class d may be due later
--     remaining m w         how many places of a line of at most m + 1 the classes have not been taken from, all together
use Rattle.std.specs.Prelude.{◌≡◌, ◌≢◌, ℕ, ◌+◌, ◌-◌, false}
use Rattle.std.specs.List.{sum_by}
use Rattle.display.specs.Place.{On, number}
use Rattle.display.specs.declared.place.Cursor.{Cursor}
use Rattle.display.specs.declared.size.Size.{Size}
use Rattle.labels.specs.Note.{Note, Updated, settled}
use Rattle.labels.specs.declared.label.Stage.TheVariants.{Reached}
use Rattle.leg_search.specs.Noting.{Grown}
use Rattle.leg_search.specs.Reach.{Reach}
use Rattle.leg_search.specs.Take.{InTurn}
use Rattle.leg_search.specs.Task.{Task}
use Rattle.leg_search.specs.declared.front.Front.{Front}

pub record Rests (z : Size) (n : ℕ) (u : Cursor) : Type 0 where
  pub on : On z u.place
  pub free : u.held ≡ false
  pub is : number z u.place ≡ n

pub data Settles {V : Type 0} (N M : ℕ → Note V) (n : ℕ) : Type 0 where
  was : (N n).stage ≢ Reached → M ≡ N → Settles N M n
  turned : (N n).stage ≡ Reached → Updated N M n (settled (N n)) → Settles N M n

pub record Turned {V : Type 0} (x : Task V) (r s : Reach V) (v : V) (d : ℕ) : Type 0 where
  pub in_turn : InTurn x s v
  pub grown : Grown r s
  pub others : (c : ℕ) → c ≢ d → s.next c ≡ r.next c

unfoldable pub remaining : ℕ → Front → ℕ
remaining m w = sum_by (λ n. m + 1 - n) w.next
