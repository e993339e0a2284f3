-- Heaps. f i is the number at the place i, and s a b whether the number a comes at most as late as b.
--     Child p i               the place i is that of a child of the place p
--     Heap s f e              at the first e places no number comes later than its children
--     SinksAt s f e p         so it is but for the number at p, which may come later than its children; what is over p
--                             comes no later than these
--     RisesAt s f e p         so it is but for the number at p, which may come before its parent; this comes no later
--                             than the children of p
--     FirstChild s f e p c    c is the child of p that comes first, of those at the first e places
--     SinksTo s f e p o       o is the child of p with which the number at p has to change places, if it is too early
--     RisesTo s f p o         o is the parent of p with which the number at p has to change places, if it is too late
use Rattle.std.specs.Prelude.{◌≡◌, ◌≢◌, ℕ, ◌+◌, ◌*◌, ◌<◌, ◌≤◌, Bool, true, Option, MatchOption}

pub record Child (p i : ℕ) : Type 0 where
  pub from : 2 * p + 1 ≤ i
  pub to : i ≤ 2 * p + 2

pub record Heap (s : ℕ → ℕ → Bool) (f : ℕ → ℕ) (e : ℕ) : Type 0 where
  pub order : (p i : ℕ) → Child p i → i < e → s (f p) (f i) ≡ true

pub record SinksAt (s : ℕ → ℕ → Bool) (f : ℕ → ℕ) (e p : ℕ) : Type 0 where
  pub others : (q i : ℕ) → Child q i → i < e → q ≢ p → s (f q) (f i) ≡ true
  pub past : (q i : ℕ) → Child q p → Child p i → i < e → s (f q) (f i) ≡ true

pub record RisesAt (s : ℕ → ℕ → Bool) (f : ℕ → ℕ) (e p : ℕ) : Type 0 where
  pub others : (q i : ℕ) → Child q i → i < e → i ≢ p → s (f q) (f i) ≡ true
  pub past : (q i : ℕ) → Child q p → Child p i → i < e → s (f q) (f i) ≡ true

pub record FirstChild (s : ℕ → ℕ → Bool) (f : ℕ → ℕ) (e p c : ℕ) : Type 0 where
  pub child : Child p c
  pub within : c < e
  pub first : (i : ℕ) → Child p i → i < e → s (f c) (f i) ≡ true

abbrev pub SinksTo : (ℕ → ℕ → Bool) → (ℕ → ℕ) → ℕ → ℕ → Option ℕ → Type 0
SinksTo s f e p o = MatchOption o ((i : ℕ) → Child p i → i < e → s (f p) (f i) ≡ true)
    (λ c. FirstChild s f e p c × (s (f c) (f p) ≡ true))

abbrev pub RisesTo : (ℕ → ℕ → Bool) → (ℕ → ℕ) → ℕ → Option ℕ → Type 0
RisesTo s f p o = MatchOption o ((q : ℕ) → Child q p → s (f q) (f p) ≡ true)
    (λ q. Child q p × (s (f p) (f q) ≡ true))
