-- What a refresh and a redraw answer. All words depend on costs, on what the panel answers, and on A, which says what
-- codes and pens the cells admit.
--     Showing            what a showing depends on
--     Lent z ls ws gs    on a panel of size z, so many labels, wanted cells and shown cells are enough: a label for
--                        each place and one more, and a cell of both pictures for each place
--     PlanOf s bs e      the plan of the showing s sends the bytes bs, and the pen e is set after it
--     Enough s           enough is lent to it
--     Ready s            the memory and the pictures are large enough, every wanted cell can be put, and there was a
--                        redraw where one is needed
--     Accepted s n e bs  the showing s is accepted: the bytes bs are sent, which are those ahead of the plan and those
--                        of the plan; there are n of them, which the output has room for; and the pen e is set after
--                        them
--     Denied s t         the showing s is refused, and t tells why: the first of the reasons, in their order
--     Shows s e r bs     r is the answer to s, bs are the bytes sent, and e is the pen set after them if any are
use Rattle.std.specs.Prelude.{◌≡◌, ℕ, ◌*◌, ◌<◌, ◌≤◌, Bool, true, false, List, [], ◌∷◌, ◌++◌, Result, Ok, Err, length}
use Rattle.cost.specs.Costs.{Costs}
use Rattle.display.specs.Surface.{resting}
use Rattle.display.specs.declared.cell.Glyph.{Glyph}
use Rattle.display.specs.declared.place.Place.{Place}
use Rattle.display.specs.declared.size.Size.{Size}
use Rattle.faults.specs.Causes.{AllGood, FirstBad}
use Rattle.faults.specs.Told.{Told, tell, told}
use Rattle.faults.specs.declared.fault.Fault.{Fault}
use Rattle.panel.specs.Answers.{Answers}
use Rattle.plan.specs.Plan.{Blocked, Plan}
use Rattle.plan.specs.declared.stand.Stand.{Stand}

pub record Showing : Type 0 where
  -- the bytes ahead of the plan: none in a refresh, the wipe bytes in a redraw
  pub head : List ℕ
  -- whether a redraw was accepted before, or none is needed
  pub begun : Bool
  pub shown : List Glyph
  pub wanted : List Glyph
  -- where the plan begins, unheld, and where it ends
  pub stand : Stand
  pub rest : Place
  -- how many labels, cells and bytes are lent
  pub labels : ℕ
  pub cells_wanted : ℕ
  pub cells_shown : ℕ
  pub room : ℕ

pub record Lent (z : Size) (labels cells_wanted cells_shown : ℕ) : Type 0 where
  pub memory : z.rows * z.columns < labels
  pub wanted : z.rows * z.columns ≤ cells_wanted
  pub shown : z.rows * z.columns ≤ cells_shown

module _ {V : Type 0} (c : Costs V) (a : Answers) (A : ℕ → ℕ → Bool) where
  abbrev pub PlanOf : Showing → List ℕ → ℕ → Type 0
  PlanOf s bs e = Plan c a s.shown s.wanted s.rest (resting s.stand.place) s.stand.pen bs e

  abbrev pub Enough : Showing → Type 0
  Enough s = Lent a.size s.labels s.cells_wanted s.cells_shown

  pub record Ready (s : Showing) : Type 0 where
    pub enough : Enough s
    pub good : AllGood a A s.wanted
    pub begun : s.begun ≡ true

  pub record Accepted (s : Showing) (n e : ℕ) (bs : List ℕ) : Type 0 where
    pub ready : Ready s
    pub planned : List ℕ
    pub plan : PlanOf s planned e
    pub bytes : bs ≡ s.head ++ planned
    pub count : n ≡ length bs
    pub fits : n ≤ s.room

  pub data Denied (s : Showing) (t : Told) : Type 0 where
    too_small : (Enough s → ⊥) → t ≡ tell 8 [] → Denied s t
    bad_cell : Enough s → FirstBad a A s.wanted t → Denied s t
    not_drawn : Enough s → AllGood a A s.wanted → s.begun ≡ false → t ≡ tell 5 [] → Denied s t
    no_sequence : Ready s → (q : Place)
        → Blocked c a s.shown s.wanted s.rest (resting s.stand.place) s.stand.pen q
        → t ≡ tell 6 (q.row ∷ q.column ∷ []) → Denied s t
    too_short : Ready s → (planned : List ℕ) (e : ℕ) → PlanOf s planned e
        → s.room < length (s.head ++ planned) → t ≡ tell 7 (length (s.head ++ planned) ∷ []) → Denied s t

  abbrev pub Shows : Showing → ℕ → Result ℕ Fault → List ℕ → Type 0
  Shows s e (Ok n) bs = Accepted s n e bs
  Shows s e (Err why) bs = Denied s (told why) × (bs ≡ [])
