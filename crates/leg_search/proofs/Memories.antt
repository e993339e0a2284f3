-- Making labels ready, and following them back.
use Rattle.std.proofs.Common.{◌≡◌, ◌≢◌, ◌⊎◌, inl, inr, ◌∙◌, ℕ, ◌+◌, ◌-◌, ◌<◌, ◌≤◌, List, [], ◌∷◌, ◌++◌, length, get_or, map, take, drop, sym, ap, arith, append_assoc}
use Rattle.std.proofs.Math.ListN.{drop_of_length-le, set}
use Rattle.std.proofs.Math.Seq.{map-set_same, take-set-lt}
use Rattle.std.proofs.lemmas.List.{drop-set, get_or_past, length-map, length-take-le}
use Rattle.cost.specs.Costs.{Costs}
use Rattle.labels.specs.Label.{note, noted, step_of, unnoted}
use Rattle.labels.specs.Note.{Note, settled}
use Rattle.labels.specs.Trail.{Trail}
use Rattle.labels.specs.declared.label.Label.{Label}
use Rattle.labels.specs.declared.label.Stage.TheVariants.{Unreached}
use Rattle.labels.proofs.Improving.{same_or_not}
use Rattle.labels.proofs.Memory.{noted_set}
use Rattle.labels.proofs.Trails.{one_trail}
use Rattle.legs.specs.Sequence.{Sequence, count, listed, none, then}
use Rattle.leg_search.specs.Memory.{Cleared, HoldsMore, Prepared, Traces, Tracing, held}

module _ {K V : Type 0} (f : K → V) (c : Costs V) where
  pub clears : (ls : List (Label K)) (i : ℕ) (l : Label K) → i < length ls → note f l ≡ unnoted c.zero
      → Cleared (noted f c.zero ls) i → Cleared (noted f c.zero (set ls i l)) (i + 1)
  clears ls i l h e cl = record { unreached = λ j lt. by_cases j lt (same_or_not j i) }
    where
      by_cases : (j : ℕ) → j < i + 1 → (j ≡ i) ⊎ (j ≢ i) → (noted f c.zero (set ls i l) j).stage ≡ Unreached
      by_cases j lt (inl q) = ap (λ (x : ℕ). (noted f c.zero (set ls i l) x).stage) q
          ∙ ap (λ (a : Note V). a.stage) ((noted_set f c.zero ls i l h).here ∙ e)
      by_cases j lt (inr q) = ap (λ (a : Note V). a.stage) ((noted_set f c.zero ls i l h).there j q)
          ∙ cl.unreached j (omega arith)

  pub prepares : (ls : List (Label K)) (n b : ℕ) (l : Label K) → b < length ls → length ls ≤ n
      → note f l ≡ settled (unnoted c.zero) → Cleared (noted f c.zero ls) n → Prepared c (noted f c.zero (set ls b l)) b
  prepares ls n b l h i e cl =
      let up = noted_set f c.zero ls b l h in
      let p : noted f c.zero (set ls b l) b ≡ settled (unnoted c.zero) = up.here ∙ e in
      record {
        settled = ap (λ (a : Note V). a.stage) p;
        cost = ap (λ (a : Note V). a.cost) p;
        others = λ j ne. ap (λ (a : Note V). a.stage) (up.there j ne) ∙ by_cases j (either j n);
      }
    where
      either : (j m : ℕ) → (j < m) ⊎ (m ≤ j)
      either j m = grind arith

      by_cases : (j : ℕ) → (j < n) ⊎ (n ≤ j) → (noted f c.zero ls j).stage ≡ Unreached
      by_cases j (inl lt) = cl.unreached j lt
      by_cases j (inr le) = ap (λ (a : Note V). a.stage) (get_or_past (map (note f) ls) j (unnoted c.zero)
          (let m = length-map ls (note f) in omega arith))

  -- holding a motion changes no note
  pub same_notes : (ls : List (Label K)) (i : ℕ) (l d : Label K) → note f l ≡ note f (get_or ls i d)
      → noted f c.zero (set ls i l) ≡ noted f c.zero ls
  same_notes ls i l d e =
      ap (λ xs. λ j. get_or xs j (unnoted c.zero)) (map-set_same (note f) ls i l d e)

-- one motion more is held before the others
held_more : {K : Type 0} (ls : List (Label K)) (i m n : ℕ) (l : Label K) → i < m → m ≤ length ls → step_of l ≡ n
    → held (set ls i l) i m ≡ n ∷ held ls (i + 1) m
held_more ls i m n l h k e =
    let lt : i < length (take m ls) = let a = length-take-le m ls k in omega arith in
    ap (λ xs. map step_of (drop i xs)) (take-set-lt m ls i l h)
    ∙ (ap (map step_of) (drop-set (take m ls) i l lt) ∙ ap (λ x. x ∷ held ls (i + 1) m) e)

pub holds_more : {K : Type 0} (ls : List (Label K)) (i n : ℕ) (l : Label K) → step_of l ≡ n
    → HoldsMore ls (set ls i l) i n
holds_more ls i n l e = record { more = λ m h k. held_more ls i m n l h k e }

pub held_none : {K : Type 0} (ls : List (Label K)) (m : ℕ) → m ≤ length ls → held ls m m ≡ []
held_none ls m h = ap (map step_of) (drop_of_length-le (take m ls) (let a = length-take-le m ls h in omega arith))

module _ {V : Type 0} (N : ℕ → Note V) (b t m : ℕ) where
  pub trace_steps : (M M' : ℕ → Note V) (i j : ℕ) (hs hs' : List ℕ) → j ≢ b → Tracing N M b t m i j hs
      → M' ≡ M → (hs' ≡ (N j).motion ∷ hs) → Tracing N M' b t m (i - 1) (N j).from hs'
  trace_steps M M' i j hs hs' ne tr e h = by_rest tr.rest tr.rest_trail tr.told tr.room
    where
      by_rest : (r : Sequence) → Trail N b m r j → listed tr.way ≡ listed r ++ hs → count r ≤ i
          → Tracing N M' b t m (i - 1) (N j).from hs'
      by_rest none rt lw rm = absurd (ne rt)
      by_rest (then r n) rt lw rm = record {
        notes = e ∙ tr.notes;
        way = tr.way;
        trail = tr.trail;
        rest = r;
        rest_trail = rt.3;
        told = lw ∙ (append_assoc (listed r) (n ∷ []) hs ∙ ap (λ xs. listed r ++ xs)
            (ap (λ x. x ∷ hs) (sym rt.2) ∙ sym h));
        room = omega arith;
        inside = let a = tr.inside in omega arith;
      }

  -- a state on the way back has a label, and there is room for its motion
  pub record OnWay (i j : ℕ) : Type 0 where
    pub label : j < m
    pub room : 1 ≤ i

  pub on_way : (M : ℕ → Note V) (i j : ℕ) (hs : List ℕ) → j ≢ b → Tracing N M b t m i j hs → OnWay i j
  on_way M i j hs ne tr = by_rest tr.rest tr.rest_trail tr.room
    where
      by_rest : (r : Sequence) → Trail N b m r j → count r ≤ i → OnWay i j
      by_rest none rt rm = absurd (ne rt)
      by_rest (then r n) rt rm = record { label = rt.1; room = omega arith }

  pub trace_ends : (M : ℕ → Note V) (i j : ℕ) (hs : List ℕ) → j ≡ b → Tracing N M b t m i j hs → Traces N b t m hs
  trace_ends M i j hs e tr = record { traces = λ w h. ends_with tr.rest tr.rest_trail tr.told w h }
    where
      ends_with : (r : Sequence) → Trail N b m r j → listed tr.way ≡ listed r ++ hs → (w : Sequence) → Trail N b m w t
          → hs ≡ listed w
      ends_with none rt lw w h = sym lw ∙ ap listed (one_trail N b m tr.way w t tr.trail h)
      ends_with (then r n) rt lw w h = absurd (rt.0 e)
