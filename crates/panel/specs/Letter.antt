-- One letter on a wiped panel.
--     sent a n p c          the bytes that are fed: those of the wipe, of the motion n and of the pen p, and the code c
--     Possible a n p c q    the motion n is offered on the first place and leads to q, where a code may be printed; p
--                           is one of the pens, and c is a code
--     lettered a q p c      the surface then: blanks but for c in the pen p at q, the cursor after it, and p still set
--     Shown r a f n p c q m m' k
--                           a panel that meant m was fed what is sent, at most 49 bytes, and now shows the letter; its
--                           cursor is k. r is the reading state in which it is ready, and f the step of one byte
--     Shows r a f n p c m m' o
--                           what is answered where the panel means m before and m' after: the cursor then, or nothing
--                           and nothing changed
use Rattle.std.specs.Prelude.{◌≡◌, ℕ, ◌+◌, ◌*◌, ◌<◌, ◌≤◌, List, [], ◌∷◌, ◌++◌, length, Some, None, Option}
use Rattle.display.specs.Cell.{Code}
use Rattle.display.specs.Place.{On}
use Rattle.display.specs.Surface.{Surface, at_cursor, drawn, inked, moved, place_of, resting, wiped}
use Rattle.display.specs.declared.place.Cursor.{Cursor}
use Rattle.display.specs.declared.place.Place.{Place}
use Rattle.panel.specs.Answers.{Answers, most_bytes}
use Rattle.panel.specs.Lawful.{Free}
use Rattle.panel.specs.Meaning.{Meaning, feeds, of}

abbrev pub sent : Answers → ℕ → ℕ → ℕ → List ℕ
sent a n p c = a.wipe ++ (a.motion_bytes n ++ (a.pen_bytes p ++ (c ∷ [])))

pub record Possible (a : Answers) (n p c : ℕ) (q : Place) : Type 0 where
  pub lands : a.lands n (resting (place_of 0 0)) ≡ Some q
  pub free : Free a q
  pub pen : p < a.pens
  pub code : Code c

abbrev pub lettered : Answers → Place → ℕ → ℕ → Surface
lettered a q p c = at_cursor (drawn (inked (moved (wiped a.size) q) p) c) (a.after q)

module _ {Mode : Type 0} (ready : Mode) (a : Answers) (f : Meaning Mode → ℕ → Meaning Mode) where
  pub record Shown (n p c : ℕ) (q : Place) (before after : Meaning Mode) (k : Cursor) : Type 0 where
    pub possible : Possible a n p c q
    pub fed : after ≡ feeds f before (sent a n p c)
    pub few : length (sent a n p c) ≤ 3 * most_bytes + 1
    pub means : after ≡ of (lettered a q p c) ready
    pub cursor : k ≡ a.after q
    pub on : On a.size k.place

  abbrev pub Shows : ℕ → ℕ → ℕ → Meaning Mode → Meaning Mode → Option Cursor → Type 0
  Shows n p c before after None = (after ≡ before) × ((q : Place) → Possible a n p c q → ⊥)
  Shows n p c before after (Some k) = (q : Place) × Shown n p c q before after k
