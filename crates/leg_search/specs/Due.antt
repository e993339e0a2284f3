-- Which class is due first.
--     DueOf x r d        the class d is due
--     sooner_of x r d e  d is due at a cost that is at most that of e
--     Reckons F m x r    it can be reckoned at which cost each class is due, where F n v says that v is no more than n
--                        motions cost, and there are m labels
--     First f x r due    due is a class that is due at the least cost, with that cost; f tells the value of a cost
--     NextDue f x r q o  o is such a class, or there is none; and q answered it last
--     rank_laws          the classes that are due have an order by their costs
use Rattle.std.specs.Prelude.{◌≡◌, ℕ, ◌<◌, ◌≤◌, Bool, true, Some, None, Option}
use Rattle.cost.specs.Costs.{Addable, CostLaws}
use Rattle.due_queue.specs.Queue.{Answered, Places}
use Rattle.due_queue.specs.Rank.{RankLaws}
use Rattle.leg_search.specs.Reach.{Reach, due_at}
use Rattle.leg_search.specs.Task.{Task, price}
use Rattle.leg_search.specs.declared.due.Due.{Due}

abbrev pub DueOf : {V : Type 0} → Task V → Reach V → ℕ → Type 0
DueOf x r d = (d < x.count) × (r.next d < r.end)

abbrev pub sooner_of : {V : Type 0} → Task V → Reach V → ℕ → ℕ → Bool
sooner_of x r d e = x.costs.at_most (due_at x r d) (due_at x r e)

pub record Reckons {V : Type 0} (F : ℕ → V → Type 0) (m : ℕ) (x : Task V) (r : Reach V) : Type 0 where
  pub few : x.count ≤ 4097
  pub labelled : r.end ≤ m
  pub states : (i : ℕ) → i < r.end → r.line i < m
  pub sums : (d : ℕ) → d < x.count → r.next d < r.end → Addable F (r.notes (r.line (r.next d))).cost (price x d)

pub record First {K V : Type 0} (f : K → V) (x : Task V) (r : Reach V) (due : Due K) : Type 0 where
  pub below : due.class < x.count
  pub within : r.next due.class < r.end
  pub cost : f due.cost ≡ due_at x r due.class
  pub least : (d : ℕ) → d < x.count → r.next d < r.end
      → x.costs.at_most (due_at x r due.class) (due_at x r d) ≡ true

abbrev pub NextDue : {K V : Type 0} → (K → V) → Task V → Reach V → Places → Option (Due K) → Type 0
NextDue f x r q None = Answered (DueOf x r) (sooner_of x r) q None
    × ((d : ℕ) → d < x.count → r.end ≤ r.next d)
NextDue f x r q (Some due) = Answered (DueOf x r) (sooner_of x r) q (Some due.class) × First f x r due

pub rank_laws : {V : Type 0} (x : Task V) → CostLaws x.costs → (r : Reach V) → RankLaws (DueOf x r) (sooner_of x r)
rank_laws x l r = record {
  total = λ a b _ _ h. l.total _ _ h;
  transitive = λ a b c _ _ _ h k. l.transitive _ _ _ h k;
}
