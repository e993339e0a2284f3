-- A picture is the cells with which a list begins: a cell that is set there is set in it, and cells that are copied
-- there make it the picture that they come from; those past it stay.
use Rattle.std.proofs.Common.{◌≡◌, ◌∙◌, ℕ, zero, suc, ◌-◌, ◌*◌, ◌<◌, ◌≤◌, Bool, List, ◌∷◌, drop, length, length-append, length-drop, map, replicate, slice_set, take, refl, sym, ap, arith}
use Rattle.std.proofs.Math.Seq.{drop-append_seam, take-set-lt}
use Rattle.std.proofs.lemmas.List.{get_or-replicate, length-map, length-replicate, length-take-le, map-set, take-append-le, take_all}
use Rattle.std.proofs.lemmas.Nat.{mul-lt}
use Rattle.display.specs.Cell.{blank}
use Rattle.display.specs.Surface.{blanks}
use Rattle.display.specs.declared.cell.Glyph.{Glyph}
use Rattle.display.specs.declared.size.Size.{Size}
use Rattle.faults.specs.Causes.{AllGood}
use Rattle.faults.proofs.Good.{good_corner}
use Rattle.panel.specs.Answers.{Answers}
use Rattle.plan.specs.Drawn.{Apt}
use Rattle.planning.specs.Planned.{pictured}
use Rattle.screen.specs.Calls.{copied}

module _ {C : Type 0} (z : Size) (f : C → Glyph) where
  pub pictured_length : (ws : List C) → z.rows * z.columns ≤ length ws
      → length (pictured z f ws) ≡ z.rows * z.columns
  pictured_length ws le = length-map (take (z.rows * z.columns) ws) f ∙ length-take-le (z.rows * z.columns) ws le

  pub pictured_set : (ws : List C) (n : ℕ) (x : C) → n < z.rows * z.columns
      → pictured z f (slice_set ws n x) ≡ slice_set (pictured z f ws) n (f x)
  pictured_set ws n x lt =
      ap (map f) (take-set-lt (z.rows * z.columns) ws n x lt) ∙ map-set f (take (z.rows * z.columns) ws) n x

pub copied_begins : {C : Type 0} (n : ℕ) (ws gs : List C) → n ≤ length ws → take n (copied n ws gs) ≡ take n ws
copied_begins n ws gs le =
    let l = length-take-le n ws le in
    take-append-le n (take n ws) (drop n gs) (omega arith) ∙ take_all n (take n ws) (omega arith)

pub copied_length : {C : Type 0} (n : ℕ) (ws gs : List C) → n ≤ length ws → n ≤ length gs
    → length (copied n ws gs) ≡ length gs
copied_length n ws gs le lt =
    let l = length-take-le n ws le in
    let d = length-drop n gs in
    length-append (take n ws) (drop n gs) ∙ omega arith

pub copied_past : {C : Type 0} (n : ℕ) (ws gs : List C) → n ≤ length ws → drop n (copied n ws gs) ≡ drop n gs
copied_past n ws gs le =
    ap (λ (m : ℕ). drop m (copied n ws gs)) (sym (length-take-le n ws le))
    ∙ drop-append_seam (take n ws) (drop n gs)

map_replicate : {X Y : Type 0} (f : X → Y) (n : ℕ) (x : X) → map f (replicate n x) ≡ replicate n (f x)
map_replicate f zero x = refl
map_replicate f (suc n) x = ap (λ ys. f x ∷ ys) (map_replicate f n x)

pub blanked : {C : Type 0} (z : Size) (f : C → Glyph) (x : C) (xs : List C) → f x ≡ blank
    → pictured z f (copied (z.rows * z.columns) (replicate (z.rows * z.columns) x) xs) ≡ blanks z
blanked z f x xs e =
    let n = length-replicate (z.rows * z.columns) x in
    ap (map f) (copied_begins (z.rows * z.columns) (replicate (z.rows * z.columns) x) xs (omega arith)
    ∙ take_all (z.rows * z.columns) (replicate (z.rows * z.columns) x) (omega arith))
    ∙ (map_replicate f (z.rows * z.columns) x ∙ ap (replicate (z.rows * z.columns)) e)

some_place : (z : Size) → 0 < z.rows * z.columns
some_place z =
    let h = z.rows_least in
    let i = z.columns_least in
    mul-lt 0 0 z.rows z.columns (omega arith) (omega arith)

-- a picture of which every cell can be put has a blank in an unsafe corner
pub good_apt : (a : Answers) (A : ℕ → ℕ → Bool) (gs : List Glyph) → length gs ≡ a.size.rows * a.size.columns
    → AllGood a A gs → Apt a gs
good_apt a A gs filled h = record {
  filled = filled;
  corner = λ safe.
      let p = some_place a.size in
      good_corner a A gs (a.size.rows * a.size.columns - 1)
      (h.good (a.size.rows * a.size.columns - 1) (omega arith)) safe (omega arith);
}

pub blanks_apt : (a : Answers) → Apt a (blanks a.size)
blanks_apt a = record {
  filled = length-replicate (a.size.rows * a.size.columns) blank;
  corner = λ safe.
      let p = some_place a.size in
      get_or-replicate (a.size.rows * a.size.columns) (a.size.rows * a.size.columns - 1) blank blank (omega arith);
}
