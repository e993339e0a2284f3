-- Where a search stands, as labels and their line change.
use Rattle.std.proofs.Common.{◌≡◌, ◌≢◌, ◌⊎◌, inl, inr, ◌∙◌, ℕ, ◌+◌, ◌<◌, ◌≤◌, List, replicate, length, get_or, get_or-set_other, get_or-set_same, map, refl, sym, ap, subst, arith, slice_index_or}
use Rattle.std.proofs.Math.ListN.{set}
use Rattle.std.proofs.Math.Seq.{map-set_same}
use Rattle.std.proofs.lemmas.List.{get_or-map, get_or-replicate, get_or_past, length-map, length-replicate, map-set}
use Rattle.cost.specs.Costs.{Costs}
use Rattle.labels.specs.Label.{note, noted, step_of}
use Rattle.labels.specs.Note.{Note, Updated, improved}
use Rattle.labels.specs.declared.label.Stage.TheVariants.{Unreached, Reached}
use Rattle.labels.specs.declared.label.Label.{Label}
use Rattle.leg_search.proofs.Memories.{same_notes}
use Rattle.leg_search.proofs.Writes.{improves}
use Rattle.leg_search.specs.Noting.{Appends, Noted, known, new}
use Rattle.leg_search.specs.Reach.{Reach}
use Rattle.leg_search.specs.Reading.{lined, reach_of}
use Rattle.leg_search.specs.declared.front.Front.{Front}

pub all_zero : (n i : ℕ) → get_or {A = ℕ} (replicate {A = ℕ} n 0) i 0 ≡ 0
all_zero n i = by_cases (either i n)
  where
    either : (j m : ℕ) → (j < m) ⊎ (m ≤ j)
    either j m = grind arith

    by_cases : (i < n) ⊎ (n ≤ i) → get_or {A = ℕ} (replicate {A = ℕ} n 0) i 0 ≡ 0
    by_cases (inl h) = get_or-replicate n i 0 0 h
    by_cases (inr h) = get_or_past (replicate {A = ℕ} n 0) i 0
        (let m : length (replicate {A = ℕ} n 0) ≡ n = length-replicate n 0 in omega arith)

-- a label that holds the same state as before
pub same_line : {K : Type 0} (ls : List (Label K)) (i : ℕ) (l d : Label K) → step_of l ≡ step_of (get_or ls i d)
    → lined (set ls i l) ≡ lined ls
same_line ls i l d e = ap (λ (xs : List ℕ). λ (j : ℕ). get_or xs j 0) (map-set_same step_of ls i l d e)

-- the state that the label at a place of the line holds
pub lined_at : {K : Type 0} (ls : List (Label K)) (i : ℕ) (l : Label K) → i < length ls → l ≡ get_or ls i l
    → lined ls i ≡ step_of l
lined_at ls i l h e = get_or-map step_of ls i l 0 h ∙ ap step_of (sym e)

module _ {K V : Type 0} (f : K → V) (c : Costs V) where
  pub appends : (ls : List (Label K)) (w : Front) (l d : Label K) (n : ℕ) → w.count < length ls
      → note f l ≡ note f (get_or ls w.count d) → step_of l ≡ n
      → Appends (reach_of f c.zero ls w)
      (reach_of f c.zero (set ls w.count l) (record { count = w.count + 1; next = w.next })) n
  appends ls w l d n lt e h = record {
    notes = same_notes f c ls w.count l d e;
    at_end = ap (λ (xs : List ℕ). get_or xs w.count 0) (map-set step_of ls w.count l)
        ∙ (get_or-set_same (map step_of ls) w.count (step_of l) 0 (let m = length-map ls step_of in omega arith) ∙ h);
    elsewhere = λ i ne. ap (λ (xs : List ℕ). get_or xs i 0) (map-set step_of ls w.count l)
        ∙ get_or-set_other (map step_of ls) w.count i (step_of l) 0 ne;
    end = refl;
    next = refl;
  }

  module _ (t : ℕ) (w : Front) (v : V) (p q n : ℕ) where
    -- note is taken of what was known, or of the goal
    pub noted_known : (ls : List (Label K)) (i : ℕ) (l x : Label K) → i ≡ n → i < length ls → l ≡ get_or ls i l
        → note f x ≡ improved c (note f (get_or ls i l)) v p q → step_of x ≡ step_of (get_or ls i l)
        → (n ≡ t) ⊎ ((noted f c.zero ls n).stage ≢ Unreached)
        → Noted c t (reach_of f c.zero ls w) (reach_of f c.zero (set ls i x) w) v p q n
    noted_known ls i l x d lt e u h old = known old (noted f c.zero (set ls i x))
        (improves f c ls i n l x v p q d lt e u)
        (ap (λ (L : ℕ → ℕ). let r : Reach V = record {
          notes = noted f c.zero (set ls i x);
          line = L;
          end = w.count;
          next = λ d. slice_index_or w.next d 0;
        } in r) (same_line ls i x l h))

    -- and of a new state
    pub noted_new : (ls ms : List (Label K)) (z : Front) (i : ℕ) (l x : Label K)
        → Appends (reach_of f c.zero ls w) (reach_of f c.zero ms z) n → i ≡ n → i < length ms → l ≡ get_or ms i l
        → note f x ≡ improved c (note f (get_or ms i l)) v p q → step_of x ≡ step_of (get_or ms i l)
        → n ≢ t → (noted f c.zero ls n).stage ≡ Unreached → (noted f c.zero ls t).stage ≢ Reached
        → Noted c t (reach_of f c.zero ls w) (reach_of f c.zero (set ms i x) z) v p q n
    noted_new ls ms z i l x ap2 d lt e u h ne fresh not_yet = new fresh ne not_yet (noted f c.zero (set ms i x))
        (subst (λ (N : ℕ → Note V). Updated N (noted f c.zero (set ms i x)) n (improved c (N n) v p q)) ap2.notes
        (improves f c ms i n l x v p q d lt e u))
        (reach_of f c.zero ms z) ap2
        (ap (λ (L : ℕ → ℕ). let r : Reach V = record {
          notes = noted f c.zero (set ms i x);
          line = L;
          end = z.count;
          next = λ d. slice_index_or z.next d 0;
        } in r) (same_line ms i x l h))
