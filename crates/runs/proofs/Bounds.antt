-- The first differing place and the first after it in its row that does not differ bound the next run: a stretch that
-- has all of it has no more, since the place after it is in the next row or does not differ, and the place before it is
-- among those that were passed over or is where no run goes on.
use Rattle.std.proofs.Common.{◌≡◌, ◌⊎◌, inl, inr, ◌∙◌, ℕ, ◌+◌, ◌-◌, ◌*◌, ◌/◌, ◌%◌, ◌<◌, ◌≤◌, Bool, true, false, refl, sym, ap, subst, arith}
use Rattle.std.proofs.Math.Nat.{div-eq_of_lt-le, div-lt_iff_lt-mul, mul-div_cancel, mul-mod_left, mul-le-mul_right}
use Rattle.runs.specs.Runs.{Begins, Clear, FirstWhere, In, Next, Stretch, Within}
use Rattle.runs.specs.declared.run.Run.{Run}

-- the stretch from a to below b
abbrev pub from_to : ℕ → ℕ → Run
from_to a b = record { first = a; end = b }

-- stretches that begin and end at the same places are the same
pub same_run : (r t : Run) → r.first ≡ t.first → r.end ≡ t.end → r ≡ t
same_run r t a b = ap (λ (x : ℕ). from_to x r.end) a ∙ ap (λ (x : ℕ). from_to t.first x) b

-- of two numbers in order, the one is less or they are the same
pub less_or_same : (a b : ℕ) → a ≤ b → (a < b) ⊎ (a ≡ b)
less_or_same a b h = grind arith

-- a number is at least another or less
pub at_least_or_less : (a b : ℕ) → (a ≤ b) ⊎ (b < a)
at_least_or_less a b = grind arith

module _ (W : ℕ) (wide : 1 ≤ W) where
  row_begins : (n : ℕ) → n / W * W ≤ n
  row_begins n = omega arith

  row_ends : (n : ℕ) → n < (n / W + 1) * W
  row_ends n = omega arith

  in_one_row : (a n : ℕ) → a ≤ n → n < (a / W + 1) * W → n / W ≡ a / W
  in_one_row a n h l = let b = row_begins a in div-eq_of_lt-le {k = a / W} W (omega arith) l

  -- the first place of a row is not in one row with a place before it
  before_row : (n p : ℕ) → p < n → n % W ≡ 0 → n / W ≡ p / W → ⊥
  before_row n p lt h e =
      let b = row_ends p in let f : n / W * W ≡ p / W * W = ap (λ (x : ℕ). x * W) e in
      absurd (omega arith)

  row_below : (n rows : ℕ) → n < rows * W → (n / W + 1) * W ≤ rows * W
  row_below n rows h =
      let b : n / W < rows = (div-lt_iff_lt-mul wide).1 h in
      mul-le-mul_right W (omega arith)

  module _ (D : ℕ → Bool) (first end : ℕ) where
    -- the stretch that begins at first goes on to the end of its row, or to what does not differ
    record Closed : Type 0 where
      some : first < end
      within : end ≤ (first / W + 1) * W
      all : (n : ℕ) → first ≤ n → n < end → D n ≡ true
      after : ((end % W ≡ 0) × (end / W ≡ first / W + 1)) ⊎ (D end ≡ false)

    abbrev RowEnd : ℕ
    RowEnd = (first / W + 1) * W

    closed : D first ≡ true → FirstWhere D first RowEnd false end → Closed
    closed d f = by_cases f.is
      where
        by_cases : ((end < RowEnd) × (first ≤ end) × (D end ≡ false)) ⊎ (end ≡ RowEnd) → Closed
        by_cases (inl h) = record {
          some = further (less_or_same first end h.1);
          within = let q = h.0 in omega arith;
          all = f.others;
          after = inr h.2;
        }
          where
            further : (first < end) ⊎ (first ≡ end) → first < end
            further (inl lt) = lt
            further (inr e) = absurd (let x = ap D e in let y = h.2 in cc)
        by_cases (inr e) = record {
          some = let q = row_ends first in omega arith;
          within = omega arith;
          all = f.others;
          after = inl (
            ap (λ (x : ℕ). x % W) e ∙ mul-mod_left (first / W + 1) W,
            ap (λ (x : ℕ). x / W) e ∙ mul-div_cancel (first / W + 1) wide,
          );
        }

    module _ (c : Closed) where
      stretch : (m rows : ℕ) → m ≡ rows * W → first < m → Stretch W m D (from_to first end)
      stretch m rows is lt = record {
        some = c.some;
        below = let b = row_below first rows (omega arith) in let q = c.within in omega arith;
        in_row = λ n h. in_one_row first n h.0 (let q = c.within in let l = h.1 in omega arith);
        differ = λ n h. c.all n h.0 h.1;
      }

      begins : Begins W D end
      begins n h = by_cases c.after
        where
          by_cases : ((end % W ≡ 0) × (end / W ≡ first / W + 1)) ⊎ (D end ≡ false)
              → (end % W ≡ 0) ⊎ (D n ≡ false) ⊎ (D end ≡ false)
          by_cases (inl a) = inl a.0
          by_cases (inr b) = inr (inr b)

      module _ (m : ℕ) (t : Run) (s : Stretch W m D t) (w : Within (from_to first end) t) where
        has_first : In first t
        has_first = (w.0, let a = c.some in let b = w.1 in omega arith)

        no_more : end ≡ t.end
        no_more = by_cases (less_or_same end t.end w.1) c.after
          where
            by_cases : (end < t.end) ⊎ (end ≡ t.end)
                → ((end % W ≡ 0) × (end / W ≡ first / W + 1)) ⊎ (D end ≡ false)
                → end ≡ t.end
            by_cases (inl lt) (inl a) = absurd (
                let x = s.in_row end (let p = w.0 in let q = c.some in omega arith, lt) in
                let y = s.in_row first has_first in
                let z = a.1 in omega arith)
            by_cases (inl lt) (inr b) = absurd (
                let x = s.differ end (let p = w.0 in let q = c.some in omega arith, lt) in cc)
            by_cases (inr e) h = e

        no_less : (i : ℕ) → i ≤ first → Clear D i first → Begins W D i → t.first ≡ first
        no_less i from clear b = by_cases (less_or_same t.first first w.0)
          where
            one_row : (p : ℕ) → In p t → first / W ≡ p / W
            one_row p h = s.in_row first has_first ∙ sym (s.in_row p h)

            parted : (p : ℕ) → p < first → In p t → (first % W ≡ 0) ⊎ (D p ≡ false) ⊎ (D first ≡ false) → ⊥
            parted p h k (inl a) = before_row first p h a (one_row p k)
            parted p h k (inr (inl d)) = let x = s.differ p k in cc
            parted p h k (inr (inr d)) = let x = s.differ first has_first in cc

            held : (p : ℕ) → p + 1 ≡ first → In p t → (i ≤ p) ⊎ (p < i) → ⊥
            held p e k (inl a) = let x = clear.same p a (omega arith) in let y = s.differ p k in cc
            held p e k (inr a) =
                let same : i ≡ first = omega arith in
                parted p (omega arith) k (subst (λ (j : ℕ). (j % W ≡ 0) ⊎ (D p ≡ false) ⊎ (D j ≡ false)) same
                (b p (omega arith)))

            by_cases : (t.first < first) ⊎ (t.first ≡ first) → t.first ≡ first
            by_cases (inl lt) = absurd (held (first - 1) (omega arith)
                (omega arith, let x = has_first.1 in omega arith) (at_least_or_less i (first - 1)))
            by_cases (inr e) = e

module _ (W rows : ℕ) (D : ℕ → Bool) (i m first end : ℕ) (wide : 2 ≤ W) (is : m ≡ rows * W)
    (f : FirstWhere D i m true first) (lt : first < m) (g : FirstWhere D first ((first / W + 1) * W) false end) where
  some_wide : 1 ≤ W
  some_wide = omega arith

  here : (i ≤ first) × (D first ≡ true)
  here = by_cases f.is
    where
      by_cases : ((first < m) × (i ≤ first) × (D first ≡ true)) ⊎ (first ≡ m) → (i ≤ first) × (D first ≡ true)
      by_cases (inl h) = (h.1, h.2)
      by_cases (inr e) = absurd (omega arith)

  passed : Clear D i first
  passed = record { same = f.others }

  abbrev c : Closed W some_wide D first end
  c = closed W some_wide D first end here.1 g

  whole : Stretch W (rows * W) D (from_to first end)
  whole = stretch W some_wide D first end c (rows * W) rows refl (omega arith)

  pub next_is : Next W (rows * W) D i (from_to first end)
  next_is = record {
    from = here.0;
    clear = passed;
    stretch = whole;
    run = λ b. record {
      stretch = whole;
      longest = λ t s w. same_run t (from_to first end)
          (no_less W some_wide D first end c (rows * W) t s w i here.0 passed b)
          (sym (no_more W some_wide D first end c (rows * W) t s w));
    };
    begins = begins W some_wide D first end c;
  }
