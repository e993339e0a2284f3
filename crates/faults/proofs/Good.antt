-- No cause applies to a cell exactly where each one's test fails: what the tests say of the cell follows, and a blank
-- fails them all.
use Rattle.std.proofs.Common.{◌≡◌, ◌∙◌, ℕ, ◌+◌, ◌-◌, ◌*◌, ◌/◌, ◌%◌, ◌<◌, ◌≤◌, Bool, true, false, not, ◌&&◌, eqb, ltb, List, [], ◌∷◌, None, refl, sym, ap, subst, arith, slice_index_or}
use Rattle.std.specs.List.{AllByRecursion}
use Rattle.std.proofs.lemmas.Bool.Decides.{nat_tests}
use Rattle.std.proofs.lemmas.Nat.{div-mul-add, div_below, mod-mul-add, mod_below}
use Rattle.display.specs.Cell.{Code, blank, glyph_of, is_code}
use Rattle.display.specs.Surface.{Printed}
use Rattle.display.specs.declared.cell.Glyph.{Glyph}
use Rattle.display.specs.declared.size.Size.{Size}
use Rattle.display.proofs.Codes.{true_code}
use Rattle.faults.specs.Causes.{cell_cause, first_cause, is_blank, is_corner, is_on, put_cause, put_causes}
use Rattle.faults.specs.Told.{Told}
use Rattle.panel.specs.Answers.{Answers}

-- where no cause is the first, the tests of all of them fail; and the other way round
all_fail : (cs : List (Bool × Told)) → first_cause cs ≡ None → AllByRecursion (λ c. c.0 ≡ false) cs
all_fail [] h = tt
all_fail ((true, t) ∷ cs) h = absurd cc
all_fail ((false, t) ∷ cs) h = (refl, all_fail cs h)

none_first : (cs : List (Bool × Told)) → AllByRecursion (λ c. c.0 ≡ false) cs → first_cause cs ≡ None
none_first [] h = refl
none_first ((true, t) ∷ cs) h = absurd (let e = h.0 in cc)
none_first ((false, t) ∷ cs) h = none_first cs h.1

not_true : (b : Bool) → not b ≡ false → b ≡ true
not_true true e = refl
not_true false e = absurd cc

both : (b c : Bool) → b && c ≡ true → (b ≡ true) × (c ≡ true)
both true c e = (refl, e)
both false c e = absurd cc

-- the last place, by its row and its column
last_number : (rows columns : ℕ) → 1 ≤ rows → 2 ≤ columns → rows * columns - 1 ≡ (rows - 1) * columns + (columns - 1)
last_number rows columns h i =
    let e : rows ≡ (rows - 1) + 1 = omega arith in
    let f = ap (λ (q : ℕ). q * columns) e in omega arith

corner_row : (z : Size) (n : ℕ) → n ≡ z.rows * z.columns - 1 → n / z.columns ≡ z.rows - 1
corner_row z n e =
    ap (λ (m : ℕ). m / z.columns) (e ∙ last_number z.rows z.columns z.rows_least z.columns_least)
    ∙ div-mul-add (z.rows - 1) z.columns (z.columns - 1) (let h = z.columns_least in omega arith)

corner_column : (z : Size) (n : ℕ) → n ≡ z.rows * z.columns - 1 → n % z.columns ≡ z.columns - 1
corner_column z n e =
    ap (λ (m : ℕ). m % z.columns) (e ∙ last_number z.rows z.columns z.rows_least z.columns_least)
    ∙ mod-mul-add (z.rows - 1) z.columns (z.columns - 1) (let h = z.columns_least in omega arith)

eqb_same : (m n : ℕ) → m ≡ n → eqb m n ≡ true
eqb_same m n e = grind (arith, nat_tests)

blank_test : (n p : ℕ) → is_blank n p ≡ true → glyph_of n p ≡ blank
blank_test n p e =
    let b = both (eqb n 32) (eqb p 0) e in
    let x : n ≡ 32 = grind (arith, nat_tests, b.0) in
    let y : p ≡ 0 = grind (arith, nat_tests, b.1) in cc

both_true : (b c : Bool) → b ≡ true → c ≡ true → b && c ≡ true
both_true true c e f = f
both_true false c e f = absurd cc

-- a blank spoils no corner
never : (safe corner : Bool) → not safe && corner && false ≡ false
never true corner = refl
never false true = refl
never false false = refl

spoils : (safe corner blank : Bool) → not safe && corner && not blank ≡ false → safe ≡ false → corner ≡ true
    → blank ≡ true
spoils false true true e f g = refl
spoils false true false e f g = absurd cc
spoils false false b e f g = absurd cc
spoils true c b e f g = absurd cc

module _ (a : Answers) (A : ℕ → ℕ → Bool) where
  -- what a code in a pen is at a row and a column, where nothing is against it
  record Clear (r c n p : ℕ) : Type 0 where
    code : Code n
    pen : p < a.pens
    admitted : A n p ≡ true
    corner : a.corner_safe ≡ false → is_corner a.size r c ≡ true → glyph_of n p ≡ blank

  clear : (r c n p : ℕ) → put_cause a A r c n p ≡ None → Clear r c n p
  clear r c n p h =
      let f = all_fail (put_causes a A r c n p) h in
      let q = both (ltb p a.pens) (A n p) (not_true _ f.1.1.0) in
      record {
        code = true_code n (not_true (is_code n) f.1.0);
        pen = grind (arith, nat_tests, q.0);
        admitted = q.1;
        corner = λ safe here.
            blank_test n p (spoils a.corner_safe (is_corner a.size r c) (is_blank n p) f.1.1.1.0 safe here);
      }

  -- the cell with the number n of a picture, where it can be put
  module _ (gs : List Glyph) (n : ℕ) (h : cell_cause a A gs n ≡ None) where
    here : Clear (n / a.size.columns) (n % a.size.columns) (slice_index_or gs n blank).code
        (slice_index_or gs n blank).pen
    here = clear _ _ _ _ h

    pub good_printed : Printed a.pens (slice_index_or gs n blank)
    good_printed = record { code = here.code; pen = here.pen }

    pub good_admitted : A (slice_index_or gs n blank).code (slice_index_or gs n blank).pen ≡ true
    good_admitted = here.admitted

    -- in an unsafe corner
    pub good_corner : a.corner_safe ≡ false → n ≡ a.size.rows * a.size.columns - 1 → slice_index_or gs n blank ≡ blank
    good_corner safe last =
        let r = eqb_same _ _ (corner_row a.size n last) in
        let c = eqb_same _ _ (corner_column a.size n last) in
        here.corner safe (both_true _ _ r c)

  blank_clear : (r c : ℕ) → r < a.size.rows → c < a.size.columns → 1 ≤ a.pens → A 32 0 ≡ true
      → put_cause a A r c 32 0 ≡ None
  blank_clear r c i j pens admitted =
      let s : is_on a.size r c ≡ true = grind (arith, nat_tests) in
      let t : ltb 0 a.pens ≡ true = grind (arith, nat_tests) in
      none_first (put_causes a A r c 32 0)
      (ap not s, (refl, (ap not (both_true _ _ t admitted), (never a.corner_safe (is_corner a.size r c), tt))))

  -- a blank can be put everywhere
  pub blank_good : (gs : List Glyph) (n : ℕ) → slice_index_or gs n blank ≡ blank → n < a.size.rows * a.size.columns
      → 1 ≤ a.pens → A 32 0 ≡ true → cell_cause a A gs n ≡ None
  blank_good gs n e below pens admitted =
      let w = a.size.columns_least in
      let i : 0 < a.size.columns = omega arith in
      subst (λ (g : Glyph). put_cause a A (n / a.size.columns) (n % a.size.columns) g.code g.pen ≡ None) (sym e)
      (blank_clear (n / a.size.columns) (n % a.size.columns) (div_below n a.size.columns a.size.rows i below)
      (mod_below n a.size.columns i) pens admitted)
