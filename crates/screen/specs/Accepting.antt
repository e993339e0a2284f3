-- The steps of a showing.
--     Sound a A f gs ws n       so much is lent that it is enough, and every cell of ws can be put
--     Unsound a A f gs ws n why the fault why tells what is first against it
--     Checked a A f gs ws n r   r is the answer to what is asked first of the pictures gs, shown, and ws, wanted, and
--                               of n labels: the one or the other
--     Accepts                   what is left when a plan has been sent: the panel is fed the bytes, the wanted picture
--                               is the shown one, and the screen knows where the panel stands
use Rattle.std.specs.Prelude.{◌≡◌, ⊤, ℕ, Bool, List, [], Some, Result, Ok, Err, length, take}
use Rattle.display.specs.declared.cell.Glyph.{Glyph}
use Rattle.faults.specs.Causes.{AllGood, FirstBad}
use Rattle.faults.specs.Told.{told, tell}
use Rattle.faults.specs.declared.fault.Fault.{Fault}
use Rattle.panel.specs.Answers.{Answers}
use Rattle.panel.specs.Meaning.{Meaning, feeds}
use Rattle.planning.specs.Planned.{pictured}
use Rattle.planning.specs.declared.walk.Sent.{Sent}
use Rattle.screen.specs.Calls.{copied, places}
use Rattle.screen.specs.Showing.{Lent}
use Rattle.screen.specs.State.{State, nothing_put}

module _ {C : Type 0} (a : Answers) (A : ℕ → ℕ → Bool) (f : C → Glyph) (gs ws : List C) (n : ℕ) where
  pub record Sound : Type 0 where
    pub enough : Lent a.size n (length ws) (length gs)
    pub good : AllGood a A (pictured a.size f ws)

  pub data Unsound (why : Fault) : Type 0 where
    small : (Lent a.size n (length ws) (length gs) → ⊥) → told why ≡ tell 8 [] → Unsound why
    bad : Lent a.size n (length ws) (length gs) → FirstBad a A (pictured a.size f ws) (told why) → Unsound why

  abbrev pub Checked : Result ⊤ Fault → Type 0
  Checked (Ok u) = Sound
  Checked (Err why) = Unsound why

module _ {P C Mode : Type 0} (answers : P → Answers) (meaning : P → Meaning Mode)
    (fed : Answers → Meaning Mode → ℕ → Meaning Mode) where
  pub record Accepts (ws gs gs' : List C) (xs : List ℕ) (sent : Sent) (before after : State P) (r : ℕ) : Type 0 where
    pub count : r ≡ sent.count
    pub fixed : answers after.panel ≡ answers before.panel
    pub fed_bytes : meaning after.panel
        ≡ feeds (fed (answers before.panel)) (meaning before.panel) (take sent.count xs)
    pub shown : gs' ≡ copied (places (answers before.panel)) ws gs
    pub state : after ≡ record {
      panel = after.panel;
      rest = before.rest;
      left = Some (record { place = before.rest; pen = sent.pen });
      rows = nothing_put;
    }
