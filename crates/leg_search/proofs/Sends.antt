-- The bytes of the first motions of some labels: one motion more adds its bytes, and more motions never have fewer.
use Rattle.std.proofs.Common.{◌≡◌, ◌∙◌, ℕ, ◌+◌, ◌<◌, ◌≤◌, List, [], ◌∷◌, ◌++◌, Option, length, get_or, map, take, drop, fold, option_and_then, sym, ap, subst, arith}
use Rattle.std.proofs.lemmas.List.{length-append, map-append, take-append-drop, take_more}
use Rattle.std.proofs.Math.Seq.{take-append_seam}
use Rattle.std.proofs.lemmas.Slice.{drop-append-drop}
use Rattle.std.proofs.lemmas.List.Sums.{fold-append}
use Rattle.std.specs.Option.{option_map_or}
use Rattle.display.specs.declared.place.Cursor.{Cursor}
use Rattle.labels.specs.Label.{step_of}
use Rattle.labels.specs.declared.label.Label.{Label}
use Rattle.legs.specs.Graph.{ends}
use Rattle.legs.specs.Scene.{Scene, motion_sent, sent, steps}
use Rattle.legs.specs.Sequence.{Sequence, none, sequence, then}

-- the sequence of the first i labels' motions
abbrev pub first : {K : Type 0} → List (Label K) → ℕ → Sequence
first ls i = sequence (map step_of (take i ls))

pub first_more : {K : Type 0} (ls : List (Label K)) (i : ℕ) (l : Label K) → i < length ls → l ≡ get_or ls i l
    → first ls (i + 1) ≡ then (first ls i) (step_of l)
first_more ls i l h e =
    ap (λ xs. sequence (map step_of xs)) (take_more ls i l h)
    ∙ (ap sequence (map-append step_of (take i ls) (get_or ls i l ∷ []))
    ∙ (fold-append then none (map step_of (take i ls)) (step_of (get_or ls i l) ∷ [])
    ∙ ap (λ x. then (first ls i) (step_of x)) (sym e)))

module _ (s : Scene) (k : Cursor) where
  pub sent_more : {K : Type 0} (ls : List (Label K)) (i : ℕ) (l : Label K) → i < length ls → l ≡ get_or ls i l
      → sent s k (first ls (i + 1))
      ≡ sent s k (first ls i) ++ option_map_or (λ d. motion_sent s d (step_of l)) (ends (steps s) k (first ls i)) []
  sent_more ls i l h e = ap (sent s k) (first_more ls i l h e)

  pub ends_more : {K : Type 0} (ls : List (Label K)) (i : ℕ) (l : Label K) → i < length ls → l ≡ get_or ls i l
      → ends (steps s) k (first ls (i + 1)) ≡ option_and_then (steps s (step_of l)) (ends (steps s) k (first ls i))
  ends_more ls i l h e = ap (ends (steps s) k) (first_more ls i l h e)

  longer : (w : Sequence) (ns : List ℕ) → length (sent s k w) ≤ length (sent s k (fold then w ns))
  longer w [] = omega arith
  longer w (n ∷ ns) =
      let a = longer (then w n) ns in
      let b = length-append (sent s k w) (option_map_or (λ d. motion_sent s d n) (ends (steps s) k w) []) in omega arith

  pub first_no_longer : {K : Type 0} (ls : List (Label K)) (i : ℕ)
      → length (sent s k (first ls i)) ≤ length (sent s k (sequence (map step_of ls)))
  first_no_longer ls i =
      subst (λ (w : Sequence). length (sent s k (first ls i)) ≤ length (sent s k w))
      (sym (fold-append then none (map step_of (take i ls)) (map step_of (drop i ls)))
      ∙ (ap sequence (sym (map-append step_of (take i ls) (drop i ls)))
      ∙ ap (λ xs. sequence (map step_of xs)) (take-append-drop i ls)))
      (longer (first ls i) (map step_of (drop i ls)))

  -- the same, as the code tells the bytes of one motion more
  pub sent_turn : {K : Type 0} (ls : List (Label K)) (i : ℕ) (l : Label K) (cursor : Option Cursor) (bytes : List ℕ)
      (n : ℕ)
      → i < length ls → l ≡ get_or ls i l → cursor ≡ ends (steps s) k (first ls i) → n ≡ step_of l
      → bytes ≡ option_map_or (λ d. motion_sent s d n) cursor []
      → sent s k (first ls (i + 1)) ≡ sent s k (first ls i) ++ bytes
  sent_turn ls i l cursor bytes n h e x y z = sent_more ls i l h e
      ∙ ap (λ bs. sent s k (first ls i) ++ bs)
      (sym (z ∙ (ap (λ (a : ℕ). option_map_or (λ d. motion_sent s d a) cursor []) y
      ∙ ap (λ o. option_map_or (λ d. motion_sent s d (step_of l)) o []) x)))

  pub ends_turn : {K : Type 0} (ls : List (Label K)) (i : ℕ) (l : Label K) (cursor after : Option Cursor) (n : ℕ)
      → i < length ls → l ≡ get_or ls i l → cursor ≡ ends (steps s) k (first ls i) → n ≡ step_of l
      → after ≡ option_and_then (steps s n) cursor → after ≡ ends (steps s) k (first ls (i + 1))
  ends_turn ls i l cursor after n h e x y z =
      z ∙ (ap (λ (a : ℕ). option_and_then (steps s a) cursor) y
      ∙ (ap (option_and_then (steps s (step_of l))) x ∙ sym (ends_more ls i l h e)))

  pub lengths_turn : {K : Type 0} (ls : List (Label K)) (i : ℕ) (bytes : List ℕ) (count : ℕ)
      → count ≡ length (sent s k (first ls i)) → sent s k (first ls (i + 1)) ≡ sent s k (first ls i) ++ bytes
      → count + length bytes ≤ length (sent s k (sequence (map step_of ls)))
  lengths_turn ls i bytes count e t =
      let a = first_no_longer ls (i + 1) in
      let b = ap length t in
      let d = length-append (sent s k (first ls i)) bytes in omega arith

-- what is laid behind the bytes so far, in an output whose rest is as it was
pub laid_more : (bs bytes old output : List ℕ) (count end : ℕ) → count ≡ length bs → end ≡ count + length bytes
    → output ≡ bs ++ drop count old
    → (take count output ++ bytes) ++ drop end output ≡ (bs ++ bytes) ++ drop end old
laid_more bs bytes old output count end e h o =
    ap (λ xs. (take count xs ++ bytes) ++ drop end xs) o
    ∙ (ap (λ xs. (xs ++ bytes) ++ drop end (bs ++ drop count old))
    (ap (λ (n : ℕ). take n (bs ++ drop count old)) e ∙ take-append_seam bs (drop count old))
    ∙ ap (λ xs. (bs ++ bytes) ++ xs) (drop-append-drop count old bs end (omega arith) (sym e)))
