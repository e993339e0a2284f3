-- Runs: where two pictures differ.
--     same_glyph g h      the glyphs g and h have the same code and the same pen
--     differs gs hs n     the cells with the number n of two pictures are not the same; where one ends before it, it
--                         has a blank there
--     FirstWhere D i e b n
--                         n is the first number from i to below e of which D is b, or else e
--     Clear D i e         D holds of no number from i to below e
--     In n r              the place with the number n is in the stretch r
--     Stretch W m D r     r is a stretch of neighbouring cells in one row of W columns, below the number m, and D holds
--                         of each of them
--     Within r t          the stretch r is part of t
--     RunOf W m D r       r is a run: a longest such stretch, so it is no part of another
--     HeldBy n rs         the place with the number n is in one of the stretches rs
--     Rising i rs         the stretches rs begin at i or later, each after the one before it
--     Runs W m D rs       rs are the runs, in the order of their first places
--     Begins W D i        no run holds both the places i - 1 and i
--     Chain W m D i rs    rs are what is left of the runs from i on, one after the other
--     Next W m D i r      r is the first stretch from i on, as long as can be, and a run where none holds i - 1 and i
--     NextRun W m D i o   o is that stretch, or there is none
use Rattle.std.specs.Prelude.{◌≡◌, ◌⊎◌, ℕ, ◌+◌, ◌/◌, ◌%◌, ◌<◌, ◌≤◌, Bool, true, false, not, ◌&&◌, ◌==◌, List, [], ◌∷◌, length, Some, None, Option, nat_lt, slice_index_or, ⊤}
use Rattle.std.specs.List.{AllByRecursion}
use Rattle.display.specs.Cell.{blank}
use Rattle.display.specs.declared.cell.Glyph.{Glyph}
use Rattle.runs.specs.declared.run.Run.{Run}

abbrev pub same_glyph : Glyph → Glyph → Bool
same_glyph g h = g.code == h.code && g.pen == h.pen

abbrev pub differs : List Glyph → List Glyph → ℕ → Bool
differs gs hs n = not (same_glyph (slice_index_or gs n blank) (slice_index_or hs n blank))

pub record FirstWhere (D : ℕ → Bool) (i e : ℕ) (b : Bool) (n : ℕ) : Type 0 where
  pub others : (j : ℕ) → i ≤ j → j < n → D j ≡ not b
  pub is : ((n < e) × (i ≤ n) × (D n ≡ b)) ⊎ (n ≡ e)

abbrev pub In : ℕ → Run → Type 0
In n r = (r.first ≤ n) × (n < r.end)

abbrev pub Within : Run → Run → Type 0
Within r t = (t.first ≤ r.first) × (r.end ≤ t.end)

abbrev pub HeldBy : ℕ → List Run → Type 0
HeldBy n [] = ⊥
HeldBy n (r ∷ rs) = In n r ⊎ HeldBy n rs

abbrev pub Rising : ℕ → List Run → Type 0
Rising i [] = ⊤
Rising i (r ∷ rs) = (i ≤ r.first) × Rising (r.first + 1) rs

pub record Clear (D : ℕ → Bool) (i e : ℕ) : Type 0 where
  pub same : (n : ℕ) → i ≤ n → n < e → D n ≡ false

abbrev pub Begins : ℕ → (ℕ → Bool) → ℕ → Type 0
Begins W D i = (n : ℕ) → n + 1 ≡ i → (i % W ≡ 0) ⊎ (D n ≡ false) ⊎ (D i ≡ false)

module _ (W m : ℕ) (D : ℕ → Bool) where
  pub record Stretch (r : Run) : Type 0 where
    pub some : r.first < r.end
    pub below : r.end ≤ m
    pub in_row : (n : ℕ) → In n r → n / W ≡ r.first / W
    pub differ : (n : ℕ) → In n r → D n ≡ true

  pub record RunOf (r : Run) : Type 0 where
    pub stretch : Stretch r
    pub longest : (t : Run) → Stretch t → Within r t → t ≡ r

  pub record Runs (rs : List Run) : Type 0 where
    pub each : AllByRecursion RunOf rs
    pub every : (n : ℕ) → n < m → D n ≡ true → HeldBy n rs
    pub rising : Rising 0 rs

  abbrev pub Chain : ℕ → List Run → Type 0
  Chain i [] = Clear D i m
  Chain i (r ∷ rs) = (i ≤ r.first) × Clear D i r.first × RunOf r × Chain r.end rs

  pub record Next (i : ℕ) (r : Run) : Type 0 where
    pub from : i ≤ r.first
    pub clear : Clear D i r.first
    pub stretch : Stretch r
    pub run : Begins W D i → RunOf r
    pub begins : Begins W D r.end

  abbrev pub NextRun : ℕ → Option Run → Type 0
  NextRun i None = Clear D i m
  NextRun i (Some r) = Next i r
