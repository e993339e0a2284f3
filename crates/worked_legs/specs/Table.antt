-- The table of worked legs.
--     TableRow                a row of the table, which tells the bytes as a list
--     from r c, held_at r c   the cursor at row r and column c, unheld or held
--     row p c k q bs          the bytes bs of the leg on the panel p, by the cost c, from the cursor k to the place q,
--                             or none where no sequence leads there
--     row_of l                the row that the worked leg l is
--     table                   the rows
use Rattle.std.specs.Prelude.{ℕ, true, List, [], ◌∷◌, Some, None, Option, option_map}
use Rattle.display.specs.Surface.{place_of, resting}
use Rattle.display.specs.declared.place.Cursor.{Cursor}
use Rattle.display.specs.declared.place.Place.{Place}
use Rattle.panel.specs.Bytes.{bytes_of}
use Rattle.worked_legs.specs.declared.row.CostKind.{CostKind}
use Rattle.worked_legs.specs.declared.row.CostKind.TheVariants.{Bytes, Line}
use Rattle.worked_legs.specs.declared.row.PanelKind.{PanelKind}
use Rattle.worked_legs.specs.declared.row.PanelKind.TheVariants.{Deferred, ShortCode, Sticking}
use Rattle.worked_legs.specs.declared.row.WorkedLeg.{WorkedLeg}

pub record TableRow : Type 0 where
  pub panel : PanelKind
  pub cost : CostKind
  pub start : Cursor
  pub goal : Place
  pub bytes : Option (List ℕ)

abbrev pub from : ℕ → ℕ → Cursor
from r c = resting (place_of r c)

abbrev pub held_at : ℕ → ℕ → Cursor
held_at r c = record { place = place_of r c; held = true }

abbrev pub row : PanelKind → CostKind → Cursor → Place → Option (List ℕ) → TableRow
row p c k q bs = record { panel = p; cost = c; start = k; goal = q; bytes = bs }

abbrev pub row_of : WorkedLeg → TableRow
row_of l = row l.panel l.cost l.start l.goal (option_map bytes_of l.bytes)

-- 1Bh 5Bh .. 43h is ESC [ .. C, 1Bh 3Dh is ESC =, and 20h is the blank on the glass
abbrev pub table : List TableRow
table =
    row Deferred Bytes (from 0 0) (place_of 0 4) (Some (0x1b ∷ 0x5b ∷ 0x34 ∷ 0x43 ∷ []))
    ∷ row Deferred Line (from 0 0) (place_of 0 5) (Some (0x20 ∷ 0x20 ∷ 0x20 ∷ 0x20 ∷ 0x20 ∷ []))
    ∷ row Deferred Bytes (held_at 0 79) (place_of 0 79) (Some (0x0d ∷ 0x1b ∷ 0x5b ∷ 0x37 ∷ 0x39 ∷ 0x43 ∷ []))
    ∷ row Deferred Bytes (held_at 0 79) (place_of 1 0) (Some (0x0d ∷ 0x0a ∷ []))
    ∷ row ShortCode Bytes (from 0 0) (place_of 2 3) (Some (0x1b ∷ 0x3d ∷ 0x22 ∷ 0x23 ∷ []))
    ∷ row ShortCode Line (from 0 0) (place_of 2 3) (Some (0x0c ∷ 0x0c ∷ 0x0c ∷ 0x0a ∷ 0x0a ∷ []))
    ∷ row Sticking Bytes (from 0 79) (place_of 1 0) (Some (0x0a ∷ 0x0d ∷ []))
    ∷ row Sticking Bytes (from 1 0) (place_of 0 0) None
    ∷ []
