-- What the calls of a screen promise. Told of a panel are its answers and its meaning; of a cell what it means, f, and
-- what the type of cells admits, A.
--     places a         how many places a panel with the answers a has
--     is_left l        whether a showing was accepted, where l tells where it left the panel
--     stand_of l       where it left the panel, and the first stand where there was none
--     copied n ys xs   the cells xs with the first n of ys in front
--     Blanked a f xs ys
--                      ys are the cells xs with blanks in front, one for each place
--     Opens            a screen is opened on a panel: both pictures are blank within the panel's places, the rest place
--                      is the first one, nothing is put, and the panel is as it was
--     Unopens          it is not, since a picture is too short; nothing has changed, and the panel is handed back
--     Put, Unput, Puts a cell is put; it is not, and why; the one or the other
--     refresh_of, redraw_of
--                      what a refresh and a redraw depend on
--     Rested, Unrested, Rests
--                      the rest place is set; it is not, and why; the one or the other
--     Spared t ls ms   the labels are as they were, unless t tells that a leg has no sequence or that the output is too
--                      short
--     SparedIn r ls ms the same of a showing that is answered by r: nothing is told where it is accepted
--     shown_after n ws gs r
--                      the shown cells after it: the first n are those wanted, if it is accepted
--     state_after s p e r
--                      the state after it, with the panel p: if it is accepted, the panel is left at the rest place
--                      with the pen e, and nothing is put
--     Outcome          what a showing answers, and what it leaves in the screen and in every buffer
--     Strays           bytes are fed to the panel, and nothing else changes
--     SpanIs a r s o   o is the span of the columns put in the row r
--     TellsSpan        the span of the columns put in a row since the last accepted showing, or that there is none, or
--                      that there is no such row
use Rattle.std.specs.Prelude.{◌≡◌, ⊤, ℕ, ◌*◌, ◌<◌, ◌≤◌, Bool, true, false, List, [], ◌∷◌, ◌++◌, Some, None, Option, Result, Ok, Err, drop, length, replicate, slice_index_or, slice_set, take}
use Rattle.cost.specs.Costs.{Costs}
use Rattle.damage.specs.Damage.{added, untouched}
use Rattle.damage.specs.declared.span.Span.{Span}
use Rattle.display.specs.Cell.{blank, glyph_of}
use Rattle.display.specs.Place.{On, number}
use Rattle.display.specs.Surface.{blanks, place_of}
use Rattle.display.specs.declared.cell.Glyph.{Glyph}
use Rattle.faults.specs.Causes.{put_cause}
use Rattle.faults.specs.Told.{Told, tell, told}
use Rattle.faults.specs.declared.fault.Fault.{Fault}
use Rattle.labels.specs.declared.label.Label.{Label}
use Rattle.panel.specs.Answers.{Answers}
use Rattle.panel.specs.Meaning.{Meaning, feeds}
use Rattle.plan.specs.declared.stand.Stand.{Stand}
use Rattle.planning.specs.Planned.{pictured}
use Rattle.screen.specs.Showing.{Showing, Shows}
use Rattle.screen.specs.State.{State, first_stand, nothing_put}
use Rattle.screen.specs.declared.screen.Unopened.{Unopened}

abbrev pub places : Answers → ℕ
places a = a.size.rows * a.size.columns

abbrev pub is_left : Option Stand → Bool
is_left None = false
is_left (Some k) = true

abbrev pub stand_of : Option Stand → Stand
stand_of None = first_stand
stand_of (Some k) = k

-- the cells xs with the first n of ys in front
abbrev pub copied : {C : Type 0} → ℕ → List C → List C → List C
copied n ys xs = take n ys ++ drop n xs

module _ {C : Type 0} (a : Answers) (f : C → Glyph) where
  -- xs with blanks in front, as many as there are places
  pub record Blanked (xs ys : List C) : Type 0 where
    pub blank_cell : C
    pub means : f blank_cell ≡ blank
    pub is : ys ≡ copied (places a) (replicate (places a) blank_cell) xs

module _ {P C : Type 0} (a : Answers) where
  pub record Unopens (panel : P) (ws ws' gs gs' : List C) (u : Unopened P) : Type 0 where
    pub small : (places a ≤ length ws) × (places a ≤ length gs) → ⊥
    pub why : told u.fault ≡ tell 8 []
    pub panel_back : u.panel ≡ panel
    pub wanted : ws' ≡ ws
    pub shown : gs' ≡ gs

module _ {P C : Type 0} (a : Answers) (f : C → Glyph) where
  pub record Opens (panel : P) (ws ws' gs gs' : List C) (s : State P) : Type 0 where
    pub wanted_enough : places a ≤ length ws
    pub shown_enough : places a ≤ length gs
    pub state : s ≡ record { panel = panel; rest = place_of 0 0; left = None; rows = nothing_put }
    pub wanted : Blanked a f ws ws'
    pub shown : Blanked a f gs gs'

  module _ (A : ℕ → ℕ → Bool) (row column code pen : ℕ) (ws ws' : List C) (before after : State P) where
    pub record Put : Type 0 where
      pub enough : places a ≤ length ws
      pub nothing_against : put_cause a A row column code pen ≡ None
      pub cell : C
      pub means : f cell ≡ glyph_of code pen
      pub wanted : ws' ≡ slice_set ws (number a.size (place_of row column)) cell
      pub state : after ≡ record {
        panel = before.panel;
        rest = before.rest;
        left = before.left;
        rows = added before.rows row column;
      }

    pub record Unput (t : Told) : Type 0 where
      pub small : (places a ≤ length ws → ⊥) → t ≡ tell 8 []
      pub enough : places a ≤ length ws → put_cause a A row column code pen ≡ Some t
      pub wanted : ws' ≡ ws
      pub state : after ≡ before

    abbrev pub Puts : Result ⊤ Fault → Type 0
    Puts (Ok u) = Put
    Puts (Err why) = Unput (told why)

  abbrev pub refresh_of : State P → List C → List C → ℕ → ℕ → Showing
  refresh_of s ws gs labels room = record {
    head = [];
    begun = is_left s.left;
    shown = pictured a.size f gs;
    wanted = pictured a.size f ws;
    stand = stand_of s.left;
    rest = s.rest;
    labels = labels;
    cells_wanted = length ws;
    cells_shown = length gs;
    room = room;
  }

  abbrev pub redraw_of : State P → List C → List C → ℕ → ℕ → Showing
  redraw_of s ws gs labels room = record {
    head = a.wipe;
    begun = true;
    shown = blanks a.size;
    wanted = pictured a.size f ws;
    stand = first_stand;
    rest = s.rest;
    labels = labels;
    cells_wanted = length ws;
    cells_shown = length gs;
    room = room;
  }

module _ {P : Type 0} (a : Answers) (row column : ℕ) (before after : State P) where
  pub record Rested : Type 0 where
    pub on : On a.size (place_of row column)
    pub state : after ≡ record {
      panel = before.panel;
      rest = place_of row column;
      left = before.left;
      rows = before.rows;
    }

  pub record Unrested (t : Told) : Type 0 where
    pub off : On a.size (place_of row column) → ⊥
    pub why : t ≡ tell 1 (row ∷ column ∷ [])
    pub state : after ≡ before

  abbrev pub Rests : Result ⊤ Fault → Type 0
  Rests (Ok u) = Rested
  Rests (Err why) = Unrested (told why)

pub record Spared {K : Type 0} (t : Told) (ls ms : List (Label K)) : Type 0 where
  pub labels : (t.number ≡ 6 → ⊥) → (t.number ≡ 7 → ⊥) → ms ≡ ls

abbrev pub shown_after : {C : Type 0} → ℕ → List C → List C → Result ℕ Fault → List C
shown_after n ws gs (Ok count) = copied n ws gs
shown_after n ws gs (Err why) = gs

abbrev pub state_after : {P : Type 0} → State P → P → ℕ → Result ℕ Fault → State P
state_after s p e (Ok count) = record {
  panel = p;
  rest = s.rest;
  left = Some (record { place = s.rest; pen = e });
  rows = nothing_put;
}
state_after s p e (Err why) = s

abbrev pub SparedIn : {K : Type 0} → Result ℕ Fault → List (Label K) → List (Label K) → Type 0
SparedIn (Ok count) ls ms = ⊤
SparedIn (Err why) ls ms = Spared (told why) ls ms

module _ {P C K V Mode : Type 0} (c : Costs V) (answers : P → Answers) (meaning : P → Meaning Mode)
    (fed : Answers → Meaning Mode → ℕ → Meaning Mode) (A : ℕ → ℕ → Bool) where
  pub record Outcome (s : Showing) (before after : State P) (ws gs gs' : List C) (ls ms : List (Label K))
      (xs ys : List ℕ) (r : Result ℕ Fault) : Type 0 where
    pub bytes : List ℕ
    pub pen : ℕ
    pub answer : Shows c (answers before.panel) A s pen r bytes
    pub fixed : answers after.panel ≡ answers before.panel
    pub fed_bytes : meaning after.panel ≡ feeds (fed (answers before.panel)) (meaning before.panel) bytes
    pub state : after ≡ state_after before after.panel pen r
    pub output : ys ≡ bytes ++ drop (length bytes) xs
    pub shown : gs' ≡ shown_after (places (answers before.panel)) ws gs r
    -- of the labels no more is told than how many there are, unless they are spared
    pub labels : length ms ≡ length ls
    pub spared : SparedIn r ls ms

module _ {P Mode : Type 0} (answers : P → Answers) (meaning : P → Meaning Mode)
    (fed : Answers → Meaning Mode → ℕ → Meaning Mode) where
  pub record Strays (before after : State P) (bs : List ℕ) : Type 0 where
    pub fixed : answers after.panel ≡ answers before.panel
    pub fed_bytes : meaning after.panel ≡ feeds (fed (answers before.panel)) (meaning before.panel) bs
    pub state : after ≡ record {
      panel = after.panel;
      rest = before.rest;
      left = before.left;
      rows = before.rows;
    }

module _ {P : Type 0} (a : Answers) (row : ℕ) (s : State P) where
  pub record SpanIs (o : Span) : Type 0 where
    pub any : (slice_index_or s.rows row untouched).any ≡ true
    pub first : o.first ≡ (slice_index_or s.rows row untouched).first
    pub last : o.last ≡ (slice_index_or s.rows row untouched).last
    pub width : o.width ≡ a.size.columns

  abbrev pub TellsSpan : Result (Option Span) Fault → Type 0
  TellsSpan (Ok None) = (row < a.size.rows) × ((slice_index_or s.rows row untouched).any ≡ false)
  TellsSpan (Ok (Some o)) = (row < a.size.rows) × SpanIs o
  TellsSpan (Err why) = (a.size.rows ≤ row) × (told why ≡ tell 1 (row ∷ 0 ∷ []))
