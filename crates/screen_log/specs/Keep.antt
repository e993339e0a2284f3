-- Keeping a log.
--     columns_in r ps      the columns of those of the places ps that are in the row r
--     Tied b s ws gs       the screen s and its pictures, wanted and shown, are as the book b says, and the panel shows
--                          what is owed where that says that it is clean
--     firsts n ls          where the bytes of each of the lines ls begin, the first ones at n
--     Unkept               no screen is opened, and nothing has changed
--     Keeps                what is kept of a list of entries: a log, of which the law holds
use Rattle.std.specs.Prelude.{◌≡◌, ℕ, ◌+◌, ◌<◌, ◌≤◌, Bool, true, cond, ◌==◌, List, [], ◌∷◌, ◌++◌, drop, length, map, slice_index_or, take}
use Rattle.cost.specs.Costs.{Costs}
use Rattle.damage.specs.Damage.{HullOf, hull, untouched}
use Rattle.display.specs.Surface.{resting}
use Rattle.display.specs.declared.cell.Glyph.{Glyph}
use Rattle.display.specs.declared.place.Place.{Place}
use Rattle.panel.specs.Answers.{Answers}
use Rattle.panel.specs.Meaning.{Meaning, feeds, of}
use Rattle.plan.specs.Drawn.{Apt, stands}
use Rattle.planning.specs.Planned.{pictured}
use Rattle.screen.specs.Calls.{Unopens, is_left, places, stand_of}
use Rattle.screen.specs.State.{State}
use Rattle.screen.specs.declared.screen.Unopened.{Unopened}
use Rattle.screen_log.specs.Book.{Book, book}
use Rattle.screen_log.specs.Line.{Line, heard_by, sent_by}
use Rattle.screen_log.specs.Log.{Law}
use Rattle.screen_log.specs.declared.entry.Entry.{Entry}
use Rattle.screen_log.specs.declared.entry.Line.{Line as Written}

abbrev pub columns_in : ℕ → List Place → List ℕ
columns_in r [] = []
columns_in r (p ∷ ps) = cond (p.row == r) (p.column ∷ columns_in r ps) (columns_in r ps)

abbrev pub firsts : ℕ → List Line → List ℕ
firsts n [] = []
firsts n (l ∷ ls) = n ∷ firsts (n + length l.bytes) ls

module _ {P C Mode : Type 0} (answers : P → Answers) (meaning : P → Meaning Mode) (ready : Mode) (f : C → Glyph)
    (a : Answers) where
  pub record Tied (b : Book) (s : State P) (ws gs : List C) : Type 0 where
    pub panel : answers s.panel ≡ a
    pub wanted_enough : places a ≤ length ws
    pub shown_enough : places a ≤ length gs
    pub wanted : pictured a.size f ws ≡ b.asked
    pub shown : pictured a.size f gs ≡ b.owed
    pub apt : Apt a b.owed
    pub rest : s.rest ≡ b.rest
    pub left : is_left s.left ≡ b.drawn
    pub stand : stand_of s.left ≡ record { place = b.owed_rest; pen = b.pen }
    pub begun : b.clean ≡ true → b.drawn ≡ true
    pub faces : b.clean ≡ true
        → meaning s.panel ≡ of (stands a.size b.owed (resting b.owed_rest) b.pen) ready
    pub rows : length s.rows ≡ 24
    -- the span of each row is that of the columns put in it since the latest accepted showing
    pub spans : (r : ℕ) → r < 24 → slice_index_or s.rows r untouched ≡ hull (columns_in r b.put)

pub record Unkept {P C : Type 0} (a : Answers) (panel : P) (ws ws' gs gs' : List C) (xs ys : List ℕ)
    (ks ks' : List Written) (u : Unopened P) : Type 0 where
  pub opening : Unopens a panel ws ws' gs gs' u
  pub output : ys ≡ xs
  pub lines : ks' ≡ ks

module _ {P C V Mode : Type 0} (c : Costs V) (answers : P → Answers) (meaning : P → Meaning Mode)
    (fed : Answers → Meaning Mode → ℕ → Meaning Mode) (ready : Mode) (f : C → Glyph) (A : ℕ → ℕ → Bool)
    (panel : P) (ws ws' gs gs' : List C) (labels : ℕ) (xs ys : List ℕ) (es : List Entry) (ks ks' : List Written) where
  pub record Keeps (s : State P) : Type 0 where
    pub log : List Line
    -- the log has the entries, as many as there are lines, and the answers that are written
    pub entries : map (λ l. l.entry) log ≡ take (length ks) es
    pub answers_are : map (λ l. l.answer) log ≡ map (λ k. k.answer) (take (length log) ks')
    pub begin : firsts 0 log ≡ map (λ k. k.first) (take (length log) ks')
    pub other_lines : drop (length log) ks' ≡ drop (length log) ks
    pub output : ys ≡ sent_by log ++ drop (length (sent_by log)) xs
    pub law : Law c (answers panel) A (length ws) (length gs) labels (length xs) (fed (answers panel)) ready
        (meaning panel) log
    -- what is left when all entries are made
    pub meaning_is : meaning s.panel ≡ feeds (fed (answers panel)) (meaning panel) (heard_by log)
    pub tied : Tied answers meaning ready f (answers panel) (book (answers panel).size log) s ws' gs'
    -- each row tells of the columns put in it since the latest accepted showing: whether any was, and between which
    pub spans : (r : ℕ) → r < (answers panel).size.rows
        → HullOf (columns_in r (book (answers panel).size log).put) (slice_index_or s.rows r untouched)
    pub wanted_past : drop (places (answers panel)) ws' ≡ drop (places (answers panel)) ws
    pub shown_past : drop (places (answers panel)) gs' ≡ drop (places (answers panel)) gs
