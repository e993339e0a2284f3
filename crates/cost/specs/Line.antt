-- The line cost: milliseconds, then bytes.
--     Line            milliseconds and bytes
--     line t n        t milliseconds and n bytes
--     line_at_most a b
--                     a has no more milliseconds than b, and where it has as many no more bytes
--     line_costs      a motion costs its milliseconds and its bytes; they add part by part, and fewer milliseconds come
--                     before fewer bytes
--     FewOnLine n v   v is no more than n motions take milliseconds and have bytes
--     line_laws, line_few
--                     the line cost keeps the laws of costs
use Rattle.std.proofs.Common.{arith}
use Rattle.std.proofs.lemmas.Bool.Decides.{nat_tests}
use Rattle.std.specs.Prelude.{◌≡◌, ℕ, ◌+◌, ◌*◌, ◌≤◌, Bool, true, cond, ◌==◌, nat_le, nat_lt}
use Rattle.cost.specs.Costs.{CostLaws, Costs, FewLaws}

pub record Line : Type 0 where
  pub milliseconds : ℕ
  pub bytes : ℕ

abbrev pub line : ℕ → ℕ → Line
line t n = record { milliseconds = t; bytes = n }

abbrev pub line_at_most : Line → Line → Bool
line_at_most a b = cond (a.milliseconds == b.milliseconds)
    (nat_le a.bytes b.bytes)
    (nat_lt a.milliseconds b.milliseconds)

abbrev pub line_costs : Costs Line
line_costs = record {
  zero = line 0 0;
  motion = λ n t. line t n;
  plus = λ a b. line (a.milliseconds + b.milliseconds) (a.bytes + b.bytes);
  at_most = line_at_most;
}

pub record FewOnLine (n : ℕ) (v : Line) : Type 0 where
  pub milliseconds : v.milliseconds ≤ 1000 * n
  pub bytes : v.bytes ≤ 16 * n

line_same : {a b : Line} → a.milliseconds ≡ b.milliseconds → a.bytes ≡ b.bytes → a ≡ b
line_same {a} {b} p q = let h : line a.milliseconds a.bytes ≡ line b.milliseconds b.bytes = cc in h

line_ties : (a b : Line) → line_at_most a b ≡ true → line_at_most b a ≡ true → a ≡ b
line_ties a b h k = line_same (grind (arith, nat_tests)) (grind (arith, nat_tests))

pub line_laws : CostLaws line_costs
line_laws = record {
  total = λ a b h. grind (arith, nat_tests);
  transitive = λ a b d h k. grind (arith, nat_tests);
  ties = λ a b h k. line_ties a b h k;
  associative = λ a b d. line_same (omega arith) (omega arith);
  zero_left = λ a. line_same (omega arith) (omega arith);
  zero_right = λ a. line_same (omega arith) (omega arith);
  raises_left = λ a b d h. grind (arith, nat_tests);
  raises_right = λ a b d h. grind (arith, nat_tests);
  strict = λ a n t h. grind (arith, nat_tests);
}

pub line_few : FewLaws line_costs FewOnLine
line_few = record {
  none = record { milliseconds = omega arith; bytes = omega arith };
  one = λ n t h. record { milliseconds = omega arith; bytes = omega arith };
  sums = λ n m a b h k. record { milliseconds = omega arith; bytes = omega arith };
}
