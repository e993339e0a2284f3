-- What motions cost.
--     Costs V        zero, the cost of a motion from its bytes and milliseconds, the sum, and the order, on values V
--     Motion n t     a motion may have n bytes and take t milliseconds: 1 to 16, and at most 1,000
--     most_steps     the motions whose sum a machine's cost holds: as many as the largest panel has places
--     Addable F a b  a and b together are no more than so many motions cost, where F n v says that v is no more than n
--                    motions cost
--     CostLaws c     the laws: a total order in which only equal costs tie, an associative sum with zero neutral,
--                    raised by raising either side, and strictly by a motion
--     FewLaws c F    what F keeps: nothing costs no more than no motion, a motion no more than one, and sums add up
use Rattle.std.specs.Prelude.{◌≡◌, ℕ, ◌+◌, ◌≤◌, Bool, true, false}

pub record Costs (V : Type 0) : Type 0 where
  pub zero : V
  pub motion : ℕ → ℕ → V
  pub plus : V → V → V
  pub at_most : V → V → Bool

pub record Motion (n t : ℕ) : Type 0 where
  pub some : 1 ≤ n
  pub few : n ≤ 16
  pub short : t ≤ 1000

abbrev pub most_steps : ℕ
most_steps = 1920

pub record Addable {V : Type 0} (F : ℕ → V → Type 0) (a b : V) : Type 0 where
  pub left : ℕ
  pub right : ℕ
  pub left_few : F left a
  pub right_few : F right b
  pub together : left + right ≤ most_steps

pub record CostLaws {V : Type 0} (c : Costs V) : Type 0 where
  pub total : (a b : V) → c.at_most a b ≡ false → c.at_most b a ≡ true
  pub transitive : (a b d : V) → c.at_most a b ≡ true → c.at_most b d ≡ true → c.at_most a d ≡ true
  pub ties : (a b : V) → c.at_most a b ≡ true → c.at_most b a ≡ true → a ≡ b
  pub associative : (a b d : V) → c.plus (c.plus a b) d ≡ c.plus a (c.plus b d)
  pub zero_left : (a : V) → c.plus c.zero a ≡ a
  pub zero_right : (a : V) → c.plus a c.zero ≡ a
  pub raises_left : (a b d : V) → c.at_most a b ≡ true → c.at_most (c.plus a d) (c.plus b d) ≡ true
  pub raises_right : (a b d : V) → c.at_most a b ≡ true → c.at_most (c.plus d a) (c.plus d b) ≡ true
  pub strict : (a : V) (n t : ℕ) → Motion n t → c.at_most (c.plus a (c.motion n t)) a ≡ false

pub record FewLaws {V : Type 0} (c : Costs V) (F : ℕ → V → Type 0) : Type 0 where
  pub none : F 0 c.zero
  pub one : (n t : ℕ) → Motion n t → F 1 (c.motion n t)
  pub sums : (n m : ℕ) (a b : V) → F n a → F m b → F (n + m) (c.plus a b)
