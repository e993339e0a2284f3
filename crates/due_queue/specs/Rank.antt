-- The order in which numbers are due.
--     RankLaws D s   among the due numbers the order s is total and transitive; D says which numbers are due, and s a b
--                    whether a comes at most as late as b
use Rattle.std.specs.Prelude.{◌≡◌, ℕ, Bool, true, false}

pub record RankLaws (D : ℕ → Type 0) (s : ℕ → ℕ → Bool) : Type 0 where
  pub total : (a b : ℕ) → D a → D b → s a b ≡ false → s b a ≡ true
  pub transitive : (a b c : ℕ) → D a → D b → D c → s a b ≡ true → s b c ≡ true → s a c ≡ true
