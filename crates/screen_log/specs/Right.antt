-- What each line of a log has to be. All words depend on costs, on what the panel answers, on A, which says what codes
-- and pens the cells admit, on how many cells the pictures have, and on how many labels and bytes of output the log is
-- lent.
--     refresh_for b k n, redraw_for b k n
--                        what a refresh and a redraw depend on by the book b: what is asked for is wanted, what is owed
--                        is shown, and the plan begins where the last accepted one ended
--     Only s e r bs      r and bs are the answer to the showing s and the bytes that it sends, and no others are; and
--                        it answers that a leg has no sequence exactly where all else is well and some leg has none
--     Right b l          the line l, by the book b before it, tells the right answer and the right bytes
use Rattle.std.specs.Prelude.{◌≡◌, ℕ, ◌-◌, min, Bool, true, List, [], ◌∷◌, Result, Ok, Err, Some, None}
use Rattle.cost.specs.Costs.{Costs}
use Rattle.display.specs.Place.{On}
use Rattle.display.specs.Surface.{blanks, place_of, resting}
use Rattle.display.specs.declared.place.Place.{Place}
use Rattle.faults.specs.Causes.{put_cause}
use Rattle.faults.specs.Told.{tell, told}
use Rattle.faults.specs.declared.fault.Fault.{Fault}
use Rattle.faults.specs.declared.fault.Fault.TheVariants.{NoSequence}
use Rattle.panel.specs.Answers.{Answers}
use Rattle.plan.specs.Plan.{Blocked}
use Rattle.screen.specs.Showing.{Ready, Showing, Shows}
use Rattle.screen.specs.State.{first_stand}
use Rattle.screen_log.specs.Book.{Book}
use Rattle.screen_log.specs.Line.{Line}
use Rattle.screen_log.specs.declared.entry.Entry.{Entry}
use Rattle.screen_log.specs.declared.entry.Entry.TheVariants.{Put, Rest, Refresh, Redraw, Stray}

module _ {V : Type 0} (c : Costs V) (a : Answers) (A : ℕ → ℕ → Bool) (cells_wanted cells_shown labels room : ℕ) where
  abbrev pub refresh_for : Book → ℕ → ℕ → Showing
  refresh_for b k n = record {
    head = [];
    begun = b.drawn;
    shown = b.owed;
    wanted = b.asked;
    stand = record { place = b.owed_rest; pen = b.pen };
    rest = b.rest;
    labels = min k labels;
    cells_wanted = cells_wanted;
    cells_shown = cells_shown;
    room = min n (room - b.sent);
  }

  abbrev pub redraw_for : Book → ℕ → ℕ → Showing
  redraw_for b k n = record {
    head = a.wipe;
    begun = true;
    shown = blanks a.size;
    wanted = b.asked;
    stand = first_stand;
    rest = b.rest;
    labels = min k labels;
    cells_wanted = cells_wanted;
    cells_shown = cells_shown;
    room = min n (room - b.sent);
  }

  abbrev pub Lost : Showing → Place → Type 0
  Lost s q = Ready c a A s × Blocked c a s.shown s.wanted s.rest (resting s.stand.place) s.stand.pen q

  pub record Only (s : Showing) (e : ℕ) (r : Result ℕ Fault) (bs : List ℕ) : Type 0 where
    pub is : Shows c a A s e r bs
    pub only : (e' : ℕ) (r' : Result ℕ Fault) (bs' : List ℕ) → Shows c a A s e' r' bs' → (r' ≡ r) × (bs' ≡ bs)
    pub lost : (row column : ℕ) → r ≡ Err (NoSequence row column) → Lost s (place_of row column)
    pub lost_only : (q : Place) → Lost s q → r ≡ Err (NoSequence q.row q.column)

  abbrev pub PutRight : ℕ → ℕ → ℕ → ℕ → Result ℕ Fault → Type 0
  PutRight row column code pen (Ok k) = (put_cause a A row column code pen ≡ None) × (k ≡ 0)
  PutRight row column code pen (Err why) = put_cause a A row column code pen ≡ Some (told why)

  abbrev pub RestRight : ℕ → ℕ → Result ℕ Fault → Type 0
  RestRight row column (Ok k) = On a.size (place_of row column) × (k ≡ 0)
  RestRight row column (Err why) =
      (On a.size (place_of row column) → ⊥) × (told why ≡ tell 1 (row ∷ column ∷ []))

  -- by the entry, its answer, the bytes that it sent, and the pen at the end of its plan
  abbrev pub RightBy : Book → Entry → Result ℕ Fault → List ℕ → ℕ → Type 0
  RightBy b (Put row column code pen) r bs e = PutRight row column code pen r × (bs ≡ [])
  RightBy b (Rest row column) r bs e = RestRight row column r × (bs ≡ [])
  RightBy b (Refresh k n) r bs e = Only (refresh_for b k n) e r bs
  RightBy b (Redraw k n) r bs e = Only (redraw_for b k n) e r bs
  RightBy b (Stray noise) r bs e = (r ≡ Ok 0) × (bs ≡ [])

  abbrev pub Right : Book → Line → Type 0
  Right b l = RightBy b l.entry l.answer l.bytes l.pen
