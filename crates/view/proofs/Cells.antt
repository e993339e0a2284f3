-- Cells by their numbers, and rows one after the other. Assumes nothing.
use Rattle.std.proofs.Common.{◌≡◌, ℕ, ◌+◌, ◌<◌, true, false, List, [], ◌∷◌, ◌++◌, map, length, get_or, take, drop, Decides, eqb, refl, sym, ap, ◌∙◌, ◌≤◌, arith, rules}
use Rattle.std.specs.List.{range_with_len, AllByRecursion}
use Rattle.std.proofs.ByRecursion.{All-from_get_or, All-get_or, Decides-by_and}
use Rattle.std.proofs.lemmas.Bool.Decides.{Decides-eqb}
use Rattle.std.proofs.lemmas.Grind.{common_steps}
use Rattle.std.proofs.lemmas.List.{ext_get_or, get_or-drop, get_or-take, map-id, take_more}
use Rattle.std.proofs.lemmas.List.FromFn.{get_or-map-range_with_len, length-map-range_with_len, map-range_with_len_more}
use Rattle.std.proofs.Math.Seq.{take-add}
use Rattle.display.specs.Cell.{blank}
use Rattle.display.specs.Place.{On, number}
use Rattle.display.specs.Surface.{Surface, Within}
use Rattle.display.specs.declared.cell.Glyph.{Glyph}
use Rattle.display.specs.declared.place.Place.{Place}
use Rattle.display.proofs.Places.{number_below}
use Rattle.view.specs.Report.{plain}

-- a place of a panel is within its picture
pub cell_within : (P : ℕ) (s : Surface) → Within P s → (p : Place) → On s.size p
    → number s.size p < length s.picture
cell_within P s w p on = rw w.filled (number_below s.size p on)

-- one cell more of a row
pub row_more : (f : Glyph → ℕ) (xs : List Glyph) (from c : ℕ) (d : Glyph) → from + c < length xs
    → map f (take (c + 1) (drop from xs)) ≡ map f (take c (drop from xs)) ++ (f (get_or xs (from + c) d) ∷ [])
row_more f xs from c d h = grind (arith, common_steps, take_more (drop from xs) c d, get_or-drop)

counting_more : (n : ℕ) → range_with_len 0 (n + 1) ≡ range_with_len 0 n ++ (n ∷ [])
counting_more n = grind (arith, common_steps, map-range_with_len_more (λ k. k) 0 n n, map-id {A = ℕ})

decides_plain : (gs : List Glyph) → Decides (plain gs) (AllByRecursion (λ (g : Glyph). g.pen ≡ 0) gs)
decides_plain gs =
    Decides-by_and (λ g. eqb g.pen 0) (λ g. g.pen ≡ 0) plain (λ g. Decides-eqb g.pen 0) refl (λ _ _. refl) gs

pub plain_all : (gs : List Glyph) → ((k : ℕ) → k < length gs → (get_or gs k blank).pen ≡ 0) → plain gs ≡ true
plain_all gs each = (decides_plain gs).1 (All-from_get_or (λ (g : Glyph). g.pen ≡ 0) gs blank each)

pub plain_not : (gs : List Glyph) (k : ℕ) → k < length gs → ((get_or gs k blank).pen ≡ 0 → ⊥) → plain gs ≡ false
plain_not gs k h other = search (rules, decides_plain gs, All-get_or (λ (g : Glyph). g.pen ≡ 0) gs k blank h)

-- a stretch of a picture that is read cell by cell
pub read_on : (xs : List Glyph) (at n : ℕ) → at + n ≤ length xs
    → take at xs ++ map (λ k. get_or xs (at + k) blank) (range_with_len 0 n) ≡ take (at + n) xs
read_on xs at n h =
    let f : ℕ → Glyph = λ k. get_or xs (at + k) blank in
    let stretch = take n (drop at xs) in
    let long : length stretch ≡ n = grind (arith, common_steps) in
    let same = ext_get_or blank (map f (range_with_len 0 n)) stretch (length-map-range_with_len f 0 n ∙ sym long)
    (λ k h. let here : k < n = grind (arith, length-map-range_with_len f 0 n) in
    get_or-map-range_with_len f 0 n k k blank (omega arith) (omega arith)
    ∙ sym (get_or-take n (drop at xs) k blank here ∙ get_or-drop at xs k blank)) in
    ap (λ l. take at xs ++ l) same ∙ sym (take-add at n xs)

-- a picture that is read cell by cell
pub read_back : (xs : List Glyph) → map (λ k. get_or xs k blank) (range_with_len 0 (length xs)) ≡ xs
read_back xs =
    let f : ℕ → Glyph = λ k. get_or xs k blank in
    let whole = length-map-range_with_len f 0 (length xs) in
    ext_get_or blank (map f (range_with_len 0 (length xs))) xs whole
    (λ k h. get_or-map-range_with_len f 0 (length xs) k k blank (omega arith) (omega arith))
