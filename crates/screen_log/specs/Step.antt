-- The steps of keeping a log.
--     Stepped e r    what an entry e and its answer r make of a log that was so far as the book b says: the line is
--                    right, and the screen and its pictures are as the book says with it
--     Keeping n k s  the first n entries are made, they have sent k bytes, and they leave the screen s: what is kept of
--                    them is a log, of which the law holds
use Rattle.std.specs.Prelude.{◌≡◌, ℕ, ◌≤◌, Bool, List, ◌++◌, Result, drop, length, map, take}
use Rattle.std.specs.Result.{result_unwrap_or}
use Rattle.cost.specs.Costs.{Costs}
use Rattle.display.specs.declared.cell.Glyph.{Glyph}
use Rattle.faults.specs.declared.fault.Fault.{Fault}
use Rattle.panel.specs.Answers.{Answers}
use Rattle.panel.specs.Meaning.{Meaning, feeds}
use Rattle.screen.specs.Calls.{places}
use Rattle.screen.specs.State.{State}
use Rattle.screen_log.specs.Book.{Book, book, note}
use Rattle.screen_log.specs.Keep.{Tied, firsts}
use Rattle.screen_log.specs.Line.{Line, heard_by, sent_by, strayed}
use Rattle.screen_log.specs.Log.{Law}
use Rattle.screen_log.specs.Right.{RightBy}
use Rattle.screen_log.specs.declared.entry.Entry.{Entry}
use Rattle.screen_log.specs.declared.entry.Line.{Line as Written}

module _ {P C V Mode : Type 0} (c : Costs V) (answers : P → Answers) (meaning : P → Meaning Mode)
    (fed : Answers → Meaning Mode → ℕ → Meaning Mode) (ready : Mode) (f : C → Glyph) (A : ℕ → ℕ → Bool) (a : Answers)
    (labels room : ℕ) (b : Book) (s s' : State P) (ws ws' gs gs' : List C) (xs ys : List ℕ) where
  pub record Stepped (e : Entry) (r : Result ℕ Fault) : Type 0 where
    pub bytes : List ℕ
    pub pen : ℕ
    pub right : RightBy c a A (length ws) (length gs) labels room b e r bytes pen
    pub count : result_unwrap_or r 0 ≡ length bytes
    pub fits : length bytes ≤ length xs
    pub output : ys ≡ bytes ++ drop (length bytes) xs
    pub fed_bytes : meaning s'.panel ≡ feeds (fed a) (meaning s.panel) (bytes ++ strayed e)
    pub tied : Tied answers meaning ready f a (note a.size e r pen b) s' ws' gs'
    pub wanted_length : length ws' ≡ length ws
    pub shown_length : length gs' ≡ length gs
    pub wanted_past : drop (places a) ws' ≡ drop (places a) ws
    pub shown_past : drop (places a) gs' ≡ drop (places a) gs

module _ {P C V Mode : Type 0} (c : Costs V) (answers : P → Answers) (meaning : P → Meaning Mode)
    (fed : Answers → Meaning Mode → ℕ → Meaning Mode) (ready : Mode) (f : C → Glyph) (A : ℕ → ℕ → Bool)
    (panel : P) (ws ws' gs gs' : List C) (labels : ℕ) (xs ys : List ℕ) (es : List Entry) (ks ks' : List Written) where
  pub record Keeping (index first : ℕ) (s : State P) : Type 0 where
    pub log : List Line
    pub count : length log ≡ index
    pub entries : map (λ l. l.entry) log ≡ take index es
    pub answers_are : map (λ l. l.answer) log ≡ map (λ k. k.answer) (take index ks')
    pub begin : firsts 0 log ≡ map (λ k. k.first) (take index ks')
    pub other_lines : drop index ks' ≡ drop index ks
    pub first_is : first ≡ length (sent_by log)
    pub room : first ≤ length xs
    pub output : ys ≡ sent_by log ++ drop first xs
    pub law : Law c (answers panel) A (length ws) (length gs) labels (length xs) (fed (answers panel)) ready
        (meaning panel) log
    pub meaning_is : meaning s.panel ≡ feeds (fed (answers panel)) (meaning panel) (heard_by log)
    pub tied : Tied answers meaning ready f (answers panel) (book (answers panel).size log) s ws' gs'
    pub wanted_length : length ws' ≡ length ws
    pub shown_length : length gs' ≡ length gs
    pub wanted_past : drop (places (answers panel)) ws' ≡ drop (places (answers panel)) ws
    pub shown_past : drop (places (answers panel)) gs' ≡ drop (places (answers panel)) gs
