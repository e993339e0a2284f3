-- What is left of the runs from a place on can always be listed: the first differing place and the end of its run are
-- found by going through the places, and what is left from that end on is listed the same way, nearer the last place.
use Rattle.std.proofs.Common.{◌≡◌, ◌⊎◌, inl, inr, ℕ, zero, suc, ◌+◌, ◌*◌, ◌/◌, ◌<◌, ◌≤◌, Bool, true, false, not, List, [], ◌∷◌, refl, sym, subst, arith}
use Rattle.runs.proofs.Bounds.{at_least_or_less, from_to, less_or_same, next_is}
use Rattle.runs.specs.Runs.{Begins, Chain, FirstWhere, Next}
use Rattle.runs.specs.declared.run.Run.{Run}

-- a test is as told or not
as_told : (x b : Bool) → (x ≡ b) ⊎ (x ≡ not b)
as_told true true = inl refl
as_told true false = inr refl
as_told false true = inr refl
as_told false false = inl refl

module _ (D : ℕ → Bool) (e : ℕ) (b : Bool) where
  -- where no number is left to look at, it is the end
  at_end : (i : ℕ) → e ≤ i → FirstWhere D i e b e
  at_end i h = record { others = λ j l u. absurd (omega arith); is = inr refl }

  at_once : (i : ℕ) → i < e → D i ≡ b → FirstWhere D i e b i
  at_once i h p = record { others = λ j l u. absurd (omega arith); is = inl (h, omega arith, p) }

  -- what is first after a number that is not as told is first from that number on
  passed : (i n : ℕ) → D i ≡ not b → FirstWhere D (i + 1) e b n → FirstWhere D i e b n
  passed i n p f = record { others = λ j l u. other j u (less_or_same i j l); is = here f.is }
    where
      other : (j : ℕ) → j < n → (i < j) ⊎ (i ≡ j) → D j ≡ not b
      other j u (inl lt) = f.others j (omega arith) u
      other j u (inr q) = cc

      here : ((n < e) × (i + 1 ≤ n) × (D n ≡ b)) ⊎ (n ≡ e) → ((n < e) × (i ≤ n) × (D n ≡ b)) ⊎ (n ≡ e)
      here (inl h) = inl (h.0, let x = h.1 in omega arith, h.2)
      here (inr q) = inr q

  -- the numbers left to look at are no more than k
  first_within : (k i : ℕ) → e ≤ i + k → (n : ℕ) × FirstWhere D i e b n
  first_within zero i h = (e, at_end i (omega arith))
  first_within (suc k) i h =
      by_cases (at_least_or_less e i) (as_told (D i) b) (first_within k (i + 1) (omega arith))
    where
      by_cases : (e ≤ i) ⊎ (i < e) → (D i ≡ b) ⊎ (D i ≡ not b) → ((n : ℕ) × FirstWhere D (i + 1) e b n)
          → (n : ℕ) × FirstWhere D i e b n
      by_cases (inl le) p later = (e, at_end i le)
      by_cases (inr lt) (inl p) later = (i, at_once i lt p)
      by_cases (inr lt) (inr p) later = (later.0, passed i later.0 p later.1)

-- there is a first number where a test is as told, or else there is the end
pub first_where_exists : (D : ℕ → Bool) (i e : ℕ) (b : Bool) → (n : ℕ) × FirstWhere D i e b n
first_where_exists D i e b = first_within D e b e i (omega arith)

module _ (W m : ℕ) (D : ℕ → Bool) where
  -- the next run and what is left from its end on are what is left
  with_next : (i : ℕ) (r : Run) (rs : List Run) → Begins W D i → Next W m D i r → Chain W m D r.end rs
      → Chain W m D i (r ∷ rs)
  with_next i r rs b x c = (x.from, x.clear, x.run b, c)

  module _ (rows : ℕ) (wide : 2 ≤ W) (is : m ≡ rows * W) where
    -- where a place differs there is a next run, from the first such place on
    found : (i first : ℕ) → FirstWhere D i m true first → first < m → (r : Run) × Next W m D i r
    found i first f lt = ended (first_where_exists D first ((first / W + 1) * W) false)
      where
        ended : (n : ℕ) × FirstWhere D first ((first / W + 1) * W) false n → (r : Run) × Next W m D i r
        ended x = (
          from_to first x.0,
          subst (λ (k : ℕ). Next W k D i (from_to first x.0)) (sym is)
              (next_is W rows D i m first x.0 wide is f lt x.1),
        )

    -- the places left to look at are no more than k
    chain_within : (k i : ℕ) → m ≤ i + k → Begins W D i → (rs : List Run) × Chain W m D i rs
    chain_within zero i h b = ([], record { same = λ n l u. absurd (omega arith) })
    chain_within (suc k) i h b =
        by_cases (first_where_exists D i m true) (λ j q. chain_within k j q)
      where
        go_on : ((j : ℕ) → m ≤ j + k → Begins W D j → (rs : List Run) × Chain W m D j rs)
            → (r : Run) × Next W m D i r → (rs : List Run) × Chain W m D i rs
        go_on later x = joined (later x.0.end further x.1.begins)
          where
            further : m ≤ x.0.end + k
            further = let p = x.1.from in let q = x.1.stretch.some in omega arith

            joined : (rs : List Run) × Chain W m D x.0.end rs → (rs : List Run) × Chain W m D i rs
            joined y = (x.0 ∷ y.0, with_next i x.0 y.0 b x.1 y.1)

        by_cases : (n : ℕ) × FirstWhere D i m true n
            → ((j : ℕ) → m ≤ j + k → Begins W D j → (rs : List Run) × Chain W m D j rs)
            → (rs : List Run) × Chain W m D i rs
        by_cases x later = reached (at_least_or_less m x.0)
          where
            reached : (m ≤ x.0) ⊎ (x.0 < m) → (rs : List Run) × Chain W m D i rs
            reached (inl le) = ([], record { same = λ n l u. x.1.others n l (omega arith) })
            reached (inr lt) = go_on later (found i x.0 x.1 lt)

    -- from each place where a run may begin on, what is left of the runs can be listed
    pub chain_exists : (i : ℕ) → Begins W D i → (rs : List Run) × Chain W m D i rs
    chain_exists i b = chain_within m i (omega arith) b

    -- it begins with the next run
    pub chain_with : (i : ℕ) (r : Run) → Begins W D i → Next W m D i r
        → (rs : List Run) × Chain W m D i (r ∷ rs)
    chain_with i r b x = joined (chain_exists r.end x.begins)
      where
        joined : (rs : List Run) × Chain W m D r.end rs → (rs : List Run) × Chain W m D i (r ∷ rs)
        joined y = (y.0, with_next i r y.0 b x y.1)
