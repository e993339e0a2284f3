-- The byte cost: the number of bytes.
--     byte_costs     a motion costs its bytes, whatever time it takes
--     FewBytes n v   v is no more than n motions have bytes
--     byte_laws, byte_few
--                    the byte cost keeps the laws of costs
use Rattle.std.specs.Prelude.{ℕ, ◌+◌, ◌*◌, ◌≤◌, nat_le}
use Rattle.std.proofs.Common.{arith}
use Rattle.std.proofs.lemmas.Bool.Decides.{nat_tests}
use Rattle.cost.specs.Costs.{CostLaws, Costs, FewLaws}

abbrev pub byte_costs : Costs ℕ
byte_costs = record { zero = 0; motion = λ n t. n; plus = ◌+◌; at_most = nat_le }

abbrev pub FewBytes : ℕ → ℕ → Type 0
FewBytes n v = v ≤ 16 * n

pub byte_laws : CostLaws byte_costs
byte_laws = record {
  total = λ a b h. grind (arith, nat_tests);
  transitive = λ a b d h k. grind (arith, nat_tests);
  ties = λ a b h k. grind (arith, nat_tests);
  associative = λ a b d. omega arith;
  zero_left = λ a. omega arith;
  zero_right = λ a. omega arith;
  raises_left = λ a b d h. grind (arith, nat_tests);
  raises_right = λ a b d h. grind (arith, nat_tests);
  strict = λ a n t h. grind (arith, nat_tests);
}

pub byte_few : FewLaws byte_costs FewBytes
byte_few = record {
  none = omega arith;
  one = λ n t h. omega arith;
  sums = λ n m a b h k. omega arith;
}
