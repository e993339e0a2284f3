-- The laws of a panel.
--     Sound a m          m is a meaning that a panel with the answers a can have
--     Free a p           a code may be printed at the place p: it is no unsafe corner
--     Open a s           a code may be printed at the cursor of the surface s
--     Lands r a m n m'   a panel that means m and is ready, fed the bytes of a motion n that is offered, means m': it
--                        lands where it was told, unheld and ready, and nothing else has changed
--     Prints r a m c m'  one that is ready and unheld, fed the code c, has set the cell at the cursor and taken the
--                        after-state, and nothing else has changed
--     Inks r a m p m'    one that is ready, fed the bytes of the pen p, has set that pen, and nothing else has changed
--     Wipes r a m'       one that is fed the wipe bytes means m': all blanks, the first place, unheld, pen 0, ready
--     Keeps a f bs       from every meaning that a panel with the answers a can have the bytes bs lead to another; f is
--                        the step of one byte
--     Lawful r a f       the laws of a panel with the answers a, the step f of one byte, and the reading state r in
--                        which it is ready
use Rattle.std.specs.Prelude.{◌≡◌, ℕ, ◌<◌, false, List, Some, ◌≢◌}
use Rattle.display.specs.Cell.{Code}
use Rattle.display.specs.Surface.{Surface, Within, at_cursor, corner, drawn, inked, moved, wiped}
use Rattle.display.specs.declared.place.Place.{Place}
use Rattle.panel.specs.Answers.{Answers, Bounded}
use Rattle.panel.specs.Meaning.{Meaning, feeds, of}

pub record Sound {Mode : Type 0} (a : Answers) (m : Meaning Mode) : Type 0 where
  pub sized : m.surface.size ≡ a.size
  pub within : Within a.pens m.surface

abbrev pub Free : Answers → Place → Type 0
Free a p = a.corner_safe ≡ false → p ≢ corner a.size

abbrev pub Open : Answers → Surface → Type 0
Open a s = Free a s.cursor.place

abbrev pub Lands : {Mode : Type 0} → Mode → Answers → Meaning Mode → ℕ → Meaning Mode → Type 0
Lands ready a m n after =
    (p : Place) → m.mode ≡ ready → a.lands n m.surface.cursor ≡ Some p → after ≡ of (moved m.surface p) ready

abbrev pub Prints : {Mode : Type 0} → Mode → Answers → Meaning Mode → ℕ → Meaning Mode → Type 0
Prints ready a m c after =
    m.mode ≡ ready → m.surface.cursor.held ≡ false → Code c → Open a m.surface
    → after ≡ of (at_cursor (drawn m.surface c) (a.after m.surface.cursor.place)) ready

abbrev pub Inks : {Mode : Type 0} → Mode → Answers → Meaning Mode → ℕ → Meaning Mode → Type 0
Inks ready a m p after = m.mode ≡ ready → p < a.pens → after ≡ of (inked m.surface p) ready

abbrev pub Wipes : {Mode : Type 0} → Mode → Answers → Meaning Mode → Type 0
Wipes ready a after = after ≡ of (wiped a.size) ready

unfoldable pub Keeps : {Mode : Type 0} → Answers → (Meaning Mode → ℕ → Meaning Mode) → List ℕ → Type 0
Keeps {Mode} a f bs = (m : Meaning Mode) → Sound a m → Sound a (feeds f m bs)

pub record Lawful {Mode : Type 0} (ready : Mode) (a : Answers) (f : Meaning Mode → ℕ → Meaning Mode) : Type 0 where
  pub bounded : Bounded a
  -- every byte leads from a meaning that the panel can have to another
  pub keeps : (m : Meaning Mode) (b : ℕ) → Sound a m → Sound a (f m b)
  pub moves : (m : Meaning Mode) (n : ℕ) → Sound a m → Lands ready a m n (feeds f m (a.motion_bytes n))
  pub prints : (m : Meaning Mode) (c : ℕ) → Sound a m → Prints ready a m c (f m c)
  pub inks : (m : Meaning Mode) (p : ℕ) → Sound a m → Inks ready a m p (feeds f m (a.pen_bytes p))
  -- from every meaning the wipe bytes give the same one
  pub wipes : (m : Meaning Mode) → Sound a m → Wipes ready a (feeds f m a.wipe)
