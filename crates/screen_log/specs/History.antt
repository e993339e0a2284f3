-- What a log says in the words of its lines.
--     last_cell p ls     the cell last accepted at the place p in the lines ls, or a blank
--     last_rest ls       the rest place last accepted, or the first place
--     PutOn z l          if the line l is an accepted put, its place is on a panel of size z
--     Latest ls seen     seen are the lines of ls before the latest accepted showing
--     Trusted ls         a redraw was accepted in ls, and no byte has strayed since
--     Displays ready z seen m
--                        a panel of size z that means m shows at every place the cell last accepted there in the lines
--                        seen, or a blank; its cursor stands, unheld, on the rest place last accepted there, or on the
--                        first place; and it is ready
use Rattle.std.specs.Prelude.{◌≡◌, ⊤, ℕ, true, false, cond, ◌&&◌, ◌==◌, List, [], ◌∷◌, ◌++◌, Result, Ok, Err, fold, slice_index_or}
use Rattle.std.specs.List.{AllByRecursion}
use Rattle.display.specs.Cell.{blank, glyph_of}
use Rattle.display.specs.Place.{On, number}
use Rattle.display.specs.Surface.{place_of, resting}
use Rattle.display.specs.declared.cell.Glyph.{Glyph}
use Rattle.display.specs.declared.place.Place.{Place}
use Rattle.display.specs.declared.size.Size.{Size}
use Rattle.faults.specs.declared.fault.Fault.{Fault}
use Rattle.panel.specs.Meaning.{Meaning}
use Rattle.screen_log.specs.Line.{Line, is_redraw, is_showing, strayed}
use Rattle.screen_log.specs.declared.entry.Entry.{Entry}
use Rattle.screen_log.specs.declared.entry.Entry.TheVariants.{Put, Rest, Refresh, Redraw, Stray}

-- the cell at p after an entry and its answer, where it was g before
abbrev pub cell_after : Place → Entry → Result ℕ Fault → Glyph → Glyph
cell_after p (Put r c n q) (Ok k) g = cond (r == p.row && c == p.column) (glyph_of n q) g
cell_after p (Put r c n q) (Err why) g = g
cell_after p (Rest r c) a g = g
cell_after p (Refresh l m) a g = g
cell_after p (Redraw l m) a g = g
cell_after p (Stray bs) a g = g

abbrev pub rest_after : Entry → Result ℕ Fault → Place → Place
rest_after (Put r c n q) a p = p
rest_after (Rest r c) (Ok k) p = place_of r c
rest_after (Rest r c) (Err why) p = p
rest_after (Refresh l m) a p = p
rest_after (Redraw l m) a p = p
rest_after (Stray bs) a p = p

abbrev pub last_cell : Place → List Line → Glyph
last_cell p ls = fold (λ g l. cell_after p l.entry l.answer g) blank ls

abbrev pub last_rest : List Line → Place
last_rest ls = fold (λ p l. rest_after l.entry l.answer p) (place_of 0 0) ls

abbrev pub PutOnBy : Size → Entry → Result ℕ Fault → Type 0
PutOnBy z (Put r c n q) (Ok k) = On z (place_of r c)
PutOnBy z (Put r c n q) (Err why) = ⊤
PutOnBy z (Rest r c) a = ⊤
PutOnBy z (Refresh l m) a = ⊤
PutOnBy z (Redraw l m) a = ⊤
PutOnBy z (Stray bs) a = ⊤

abbrev pub PutOn : Size → Line → Type 0
PutOn z l = PutOnBy z l.entry l.answer

pub record Latest (ls seen : List Line) : Type 0 where
  pub showing : Line
  pub since : List Line
  pub are : ls ≡ seen ++ (showing ∷ since)
  pub accepted : is_showing showing ≡ true
  pub latest : AllByRecursion (λ l. is_showing l ≡ false) since

pub record Trusted (ls : List Line) : Type 0 where
  pub before : List Line
  pub redraw : Line
  pub since : List Line
  pub are : ls ≡ before ++ (redraw ∷ since)
  pub accepted : is_redraw redraw ≡ true
  pub quiet : AllByRecursion (λ l. strayed l.entry ≡ []) since

pub record Displays {Mode : Type 0} (ready : Mode) (z : Size) (seen : List Line) (m : Meaning Mode) : Type 0 where
  pub cells : (p : Place) → On z p → slice_index_or m.surface.picture (number z p) blank ≡ last_cell p seen
  pub cursor : m.surface.cursor ≡ resting (last_rest seen)
  pub is_ready : m.mode ≡ ready
