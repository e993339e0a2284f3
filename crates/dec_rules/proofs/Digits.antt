-- A small number in decimal, digit by digit. Assumes nothing.
use Rattle.std.proofs.Common.{◌≡◌, ℕ, ◌+◌, ◌/◌, ◌%◌, ◌<◌, ◌≤◌, List, [], ◌∷◌, ◌++◌, decimal, ap, ◌∙◌, arith}
use Rattle.std.proofs.lemmas.Fmt.{decimal_digit, decimal_step}

abbrev pub digit : ℕ → List ℕ
digit d = (48 + d) ∷ []

pub one_digit : (n : ℕ) → n < 10 → decimal n ≡ digit (n % 10)
one_digit n h = let e : n ≡ n % 10 = omega arith in decimal_digit n h ∙ ap digit e

pub two_digits : (n : ℕ) → 10 ≤ n → n < 100 → decimal n ≡ digit (n / 10 % 10) ++ digit (n % 10)
two_digits n low high =
    decimal_step n low (omega arith) ∙ ap (λ (l : List ℕ). l ++ digit (n % 10)) (one_digit (n / 10) (omega arith))

pub three_digits : (n : ℕ) → 100 ≤ n → n < 1000
    → decimal n ≡ digit (n / 100) ++ (digit (n / 10 % 10) ++ digit (n % 10))
three_digits n low high =
    let e : n / 10 / 10 % 10 ≡ n / 100 = omega arith in
    decimal_step n (omega arith) (omega arith)
    ∙ ap (λ (l : List ℕ). l ++ digit (n % 10)) (two_digits (n / 10) (omega arith) (omega arith))
    ∙ ap (λ d. digit d ++ (digit (n / 10 % 10) ++ digit (n % 10))) e
