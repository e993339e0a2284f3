-- The runs in their order are the same as what is left of them from the first place on. Two runs are apart, since what
-- they hold together is a stretch; so in a list that rises each begins where the one before it has ended, or later.
use Rattle.std.proofs.Common.{◌≡◌, ◌⊎◌, inl, inr, ◌∙◌, ℕ, ◌+◌, ◌/◌, ◌<◌, ◌≤◌, Bool, true, false, List, [], ◌∷◌, refl, sym, ap, subst, arith}
use Rattle.std.specs.List.{AllByRecursion}
use Rattle.runs.proofs.Bounds.{at_least_or_less, from_to}
use Rattle.runs.specs.Runs.{Begins, Chain, Clear, HeldBy, In, Rising, RunOf, Runs, Stretch}
use Rattle.runs.specs.declared.run.Run.{Run}

-- what rises from a number on rises from each that is not above it
rises_earlier : (i j : ℕ) (rs : List Run) → j ≤ i → Rising i rs → Rising j rs
rises_earlier i j [] le h = tt
rises_earlier i j (r ∷ rs) le h = (let a = h.0 in omega arith, h.1)

-- what is held by rising stretches is not before them
held_after : (i : ℕ) (rs : List Run) → Rising i rs → (n : ℕ) → HeldBy n rs → i ≤ n
held_after i [] h n x = elim x [ ]
held_after i (r ∷ rs) h n (inl a) = let x = h.0 in let y = a.0 in omega arith
held_after i (r ∷ rs) h n (inr b) = let x = h.0 in let y = held_after (r.first + 1) rs h.1 n b in omega arith

-- no place is before the first
pub begins_first : (W : ℕ) (D : ℕ → Bool) → Begins W D 0
begins_first W D n e = absurd (omega arith)

module _ (W m : ℕ) (D : ℕ → Bool) where
  -- two runs of which one begins within the other, and ends later, are one stretch
  module _ (r s : Run) (a : RunOf W m D r) (b : RunOf W m D s) (lt : r.first < s.first) where
    of_either : (n : ℕ) → s.first < r.end → r.first ≤ n → n < s.end → (r.end ≤ n) ⊎ (n < r.end)
        → (n / W ≡ r.first / W) × (D n ≡ true)
    of_either n h l u (inl past) = (
      b.stretch.in_row n (omega arith, u) ∙ (sym (b.stretch.in_row s.first (omega arith, b.stretch.some))
          ∙ a.stretch.in_row s.first (omega arith, h)),
      b.stretch.differ n (omega arith, u),
    )
    of_either n h l u (inr before) = (a.stretch.in_row n (l, before), a.stretch.differ n (l, before))

    both : s.first < r.end → Stretch W m D (from_to r.first s.end)
    both h = record {
      some = let x = b.stretch.some in omega arith;
      below = b.stretch.below;
      in_row = λ n q. (of_either n h q.0 q.1 (at_least_or_less r.end n)).0;
      differ = λ n q. (of_either n h q.0 q.1 (at_least_or_less r.end n)).1;
    }

    not_part : s.end ≤ r.end → ⊥
    not_part h =
        let e = ap (λ (x : Run). x.first) (b.longest r a.stretch (omega arith, h)) in absurd (omega arith)

    -- so a run that begins after another begins where that one has ended, or later
    apart : r.end ≤ s.first
    apart = by_cases (at_least_or_less r.end s.first) (at_least_or_less s.end r.end)
      where
        by_cases : (r.end ≤ s.first) ⊎ (s.first < r.end) → (s.end ≤ r.end) ⊎ (r.end < s.end) → r.end ≤ s.first
        by_cases (inl h) k = h
        by_cases (inr h) (inl k) = absurd (not_part k)
        by_cases (inr h) (inr k) =
            let e : s.end ≡ r.end = ap (λ (x : Run). x.end)
            (a.longest (from_to r.first s.end) (both h) (omega arith, omega arith)) in absurd (omega arith)

  -- two runs that begin together are the same
  same_first : (r s : Run) → RunOf W m D r → RunOf W m D s → r.first ≡ s.first → r ≡ s
  same_first r s a b e = by_cases (at_least_or_less r.end s.end)
    where
      by_cases : (r.end ≤ s.end) ⊎ (s.end < r.end) → r ≡ s
      by_cases (inl h) = sym (a.longest s b.stretch (omega arith, h))
      by_cases (inr h) = b.longest r a.stretch (omega arith, omega arith)

  -- two runs that hold a common place are the same
  pub one_run : (r s : Run) → RunOf W m D r → RunOf W m D s → (n : ℕ) → In n r → In n s → r ≡ s
  one_run r s a b n h k = by_cases (at_least_or_less r.first s.first) (at_least_or_less s.first r.first)
    where
      by_cases : (r.first ≤ s.first) ⊎ (s.first < r.first) → (s.first ≤ r.first) ⊎ (r.first < s.first) → r ≡ s
      by_cases (inl x) (inl y) = same_first r s a b (omega arith)
      by_cases (inl x) (inr y) =
          let z = apart r s a b y in let u = h.1 in let v = k.0 in absurd (omega arith)
      by_cases (inr x) y =
          let z = apart s r b a x in let u = k.1 in let v = h.0 in absurd (omega arith)

  -- what is left of the runs rises
  chain_rises : (i : ℕ) (rs : List Run) → Chain W m D i rs → Rising i rs
  chain_rises i [] h = tt
  chain_rises i (r ∷ rs) h = (
    h.0,
    let a = h.2.stretch.some in rises_earlier r.end (r.first + 1) rs (omega arith) (chain_rises r.end rs h.3),
  )

  chain_each : (i : ℕ) (rs : List Run) → Chain W m D i rs → AllByRecursion (RunOf W m D) rs
  chain_each i [] h = tt
  chain_each i (r ∷ rs) h = (h.2, chain_each r.end rs h.3)

  chain_every : (i : ℕ) (rs : List Run) → Chain W m D i rs → (n : ℕ) → i ≤ n → n < m → D n ≡ true → HeldBy n rs
  chain_every i [] h n le lt d = absurd (let x = h.same n le lt in cc)
  chain_every i (r ∷ rs) h n le lt d =
      by_cases (at_least_or_less r.first n) (at_least_or_less r.end n) (λ q. chain_every r.end rs h.3 n q lt d)
    where
      by_cases : (r.first ≤ n) ⊎ (n < r.first) → (r.end ≤ n) ⊎ (n < r.end) → (r.end ≤ n → HeldBy n rs)
          → In n r ⊎ HeldBy n rs
      by_cases (inr x) y ih = absurd (let z = h.1.same n le x in cc)
      by_cases (inl x) (inl y) ih = inr (ih y)
      by_cases (inl x) (inr y) ih = inl (x, y)

  pub runs_of_chain : (rs : List Run) → Chain W m D 0 rs → Runs W m D rs
  runs_of_chain rs h = record {
    each = chain_each 0 rs h;
    every = λ n lt d. chain_every 0 rs h n (omega arith) lt d;
    rising = chain_rises 0 rs h;
  }

  -- a place that cannot differ does not
  does_not : (n : ℕ) → (D n ≡ true → ⊥) → D n ≡ false
  does_not n h = by_cases (D n) refl
    where
      by_cases : (b : Bool) → D n ≡ b → D n ≡ false
      by_cases true e = absurd (h e)
      by_cases false e = e

  -- runs that come after another rise from its end on
  rises_past : (r : Run) (rs : List Run) → RunOf W m D r → AllByRecursion (RunOf W m D) rs
      → Rising (r.first + 1) rs → Rising r.end rs
  rises_past r [] a each h = tt
  rises_past r (s ∷ rs) a each h = (apart r s a each.0 (let x = h.0 in omega arith), h.1)

  chain_from : (i : ℕ) (rs : List Run) → AllByRecursion (RunOf W m D) rs → Rising i rs
      → ((n : ℕ) → i ≤ n → n < m → D n ≡ true → HeldBy n rs) → Chain W m D i rs
  chain_from i [] each h every = record { same = λ n le lt. does_not n (λ d. every n le lt d) }
  chain_from i (r ∷ rs) each h every = (
    h.0,
    record { same = λ n le lt. does_not n (λ d. before n lt (every n le (below n lt) d)) },
    each.0,
    chain_from r.end rs each.1 (rises_past r rs each.0 each.1 h.1)
        (λ n le lt d. after n le (every n (let x = each.0.stretch.some in let y = h.0 in omega arith) lt d)),
  )
    where
      below : (n : ℕ) → n < r.first → n < m
      below n lt = let x = each.0.stretch.some in let y = each.0.stretch.below in omega arith

      before : (n : ℕ) → n < r.first → In n r ⊎ HeldBy n rs → ⊥
      before n lt (inl x) = let y = x.0 in absurd (omega arith)
      before n lt (inr x) = let y = held_after (r.first + 1) rs h.1 n x in absurd (omega arith)

      after : (n : ℕ) → r.end ≤ n → In n r ⊎ HeldBy n rs → HeldBy n rs
      after n le (inl x) = let y = x.1 in absurd (omega arith)
      after n le (inr x) = x

  pub chain_of_runs : (rs : List Run) → Runs W m D rs → Chain W m D 0 rs
  chain_of_runs rs h = chain_from 0 rs h.each h.rising (λ n le lt d. h.every n lt d)

  -- no run begins before what is left of the runs
  not_before : (i a : ℕ) (t : Run) → Clear D i a → i ≤ t.first → t.first < m → RunOf W m D t → t.first < a → ⊥
  not_before i a t c le lt q h =
      let x = c.same t.first le h in
      let y = q.stretch.differ t.first (let z = q.stretch.some in omega arith, q.stretch.some) in cc

  none_left : (i : ℕ) (t : Run) (ts : List Run) → Clear D i m → Chain W m D i (t ∷ ts) → ⊥
  none_left i t ts c h =
      let x : t.first < m = let y = h.2.stretch.some in let z = h.2.stretch.below in omega arith in
      not_before i m t c h.0 x h.2 x

  pub chain_one : (i : ℕ) (rs ts : List Run) → Chain W m D i rs → Chain W m D i ts → rs ≡ ts
  chain_one i [] [] a b = refl
  chain_one i [] (t ∷ ts) a b = absurd (none_left i t ts a b)
  chain_one i (r ∷ rs) [] a b = absurd (none_left i r rs b a)
  chain_one i (r ∷ rs) (t ∷ ts) a b = cons same (chain_one t.end rs ts
      (subst (λ (x : Run). Chain W m D x.end rs) same a.3) b.3)
    where
      below : (s : Run) → RunOf W m D s → s.first < m
      below s q = let y = q.stretch.some in let z = q.stretch.below in omega arith

      by_cases : (r.first ≤ t.first) ⊎ (t.first < r.first) → (t.first ≤ r.first) ⊎ (r.first < t.first) → r ≡ t
      by_cases (inl x) (inl y) = same_first r t a.2 b.2 (omega arith)
      by_cases (inl x) (inr y) = absurd (not_before i t.first r b.1 a.0 (below r a.2) a.2 y)
      by_cases (inr x) y = absurd (not_before i r.first t a.1 b.0 (below t b.2) b.2 x)

      same : r ≡ t
      same = by_cases (at_least_or_less r.first t.first) (at_least_or_less t.first r.first)

      cons : r ≡ t → rs ≡ ts → r ∷ rs ≡ t ∷ ts
      cons p q = cc

  pub runs_one : (rs ts : List Run) → Runs W m D rs → Runs W m D ts → rs ≡ ts
  runs_one rs ts a b = chain_one 0 rs ts (chain_of_runs rs a) (chain_of_runs ts b)
