-- What becomes of a screen, its pictures and the output by an entry.
--     unit_of r          the answer r without its count
--     NoneSent r         r is no acceptance with any count but 0
--     PutIn, RestIn, ShowIn, StrayIn
--                        what the call of an entry has done, by its kind
--     Enters e r         what it has done, whatever its kind: e is the entry, and r the answer
use Rattle.std.specs.Prelude.{◌≡◌, ⊤, ℕ, min, Bool, List, ◌++◌, Result, Ok, Err, OnOk, drop, length}
use Rattle.cost.specs.Costs.{Costs}
use Rattle.display.specs.declared.cell.Glyph.{Glyph}
use Rattle.faults.specs.declared.fault.Fault.{Fault}
use Rattle.panel.specs.Answers.{Answers}
use Rattle.panel.specs.Meaning.{Meaning, feeds}
use Rattle.planning.specs.Planned.{pictured}
use Rattle.screen.specs.Calls.{Puts, Rests, Strays, places, redraw_of, refresh_of, shown_after, state_after}
use Rattle.screen.specs.Showing.{Showing, Shows}
use Rattle.screen.specs.State.{Faces, State}
use Rattle.screen_log.specs.declared.entry.Entry.{Entry}
use Rattle.screen_log.specs.declared.entry.Entry.TheVariants.{Put, Rest, Refresh, Redraw, Stray}

abbrev pub unit_of : Result ℕ Fault → Result ⊤ Fault
unit_of (Ok k) = Ok tt
unit_of (Err why) = Err why

abbrev pub NoneSent : Result ℕ Fault → Type 0
NoneSent (Ok k) = k ≡ 0
NoneSent (Err why) = ⊤

module _ {P C V Mode : Type 0} (c : Costs V) (answers : P → Answers) (meaning : P → Meaning Mode)
    (fed : Answers → Meaning Mode → ℕ → Meaning Mode) (ready : Mode) (f : C → Glyph) (A : ℕ → ℕ → Bool)
    (s s' : State P) (ws ws' gs gs' : List C) (labels : ℕ) (xs ys : List ℕ) where
  pub record PutIn (row column code pen : ℕ) (r : Result ℕ Fault) : Type 0 where
    pub call : Puts (answers s.panel) f A row column code pen ws ws' s s' (unit_of r)
    pub none_sent : NoneSent r
    pub shown : gs' ≡ gs
    pub output : ys ≡ xs

  pub record RestIn (row column : ℕ) (r : Result ℕ Fault) : Type 0 where
    pub call : Rests (answers s.panel) row column s s' (unit_of r)
    pub none_sent : NoneSent r
    pub wanted : ws' ≡ ws
    pub shown : gs' ≡ gs
    pub output : ys ≡ xs

  -- what the panel shows before, or nothing, is asked of it for it to show the wanted picture after
  pub record ShowIn (q : Showing) (Before : Type 0) (r : Result ℕ Fault) : Type 0 where
    pub bytes : List ℕ
    pub pen : ℕ
    pub answer : Shows c (answers s.panel) A q pen r bytes
    pub fixed : answers s'.panel ≡ answers s.panel
    pub fed_bytes : meaning s'.panel ≡ feeds (fed (answers s.panel)) (meaning s.panel) bytes
    pub state : s' ≡ state_after s s'.panel pen r
    pub faces : OnOk r (Before
        → Faces ready (answers s.panel) s' (meaning s'.panel) (pictured (answers s.panel).size f ws))
    pub wanted : ws' ≡ ws
    pub shown : gs' ≡ shown_after (places (answers s.panel)) ws gs r
    pub output : ys ≡ bytes ++ drop (length bytes) xs

  pub record StrayIn (noise : List ℕ) (r : Result ℕ Fault) : Type 0 where
    pub call : Strays answers meaning fed s s' noise
    pub answer : r ≡ Ok 0
    pub wanted : ws' ≡ ws
    pub shown : gs' ≡ gs
    pub output : ys ≡ xs

  abbrev pub Enters : Entry → Result ℕ Fault → Type 0
  Enters (Put row column code pen) r = PutIn row column code pen r
  Enters (Rest row column) r = RestIn row column r
  Enters (Refresh k n) r = ShowIn
      (refresh_of (answers s.panel) f s ws gs (min k labels) (min n (length xs)))
      (Faces ready (answers s.panel) s (meaning s.panel) (pictured (answers s.panel).size f gs)) r
  Enters (Redraw k n) r = ShowIn
      (redraw_of (answers s.panel) f s ws gs (min k labels) (min n (length xs))) ⊤ r
  Enters (Stray noise) r = StrayIn noise.now r
