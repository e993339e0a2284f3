-- What the legs on a panel depend on.
--     Scene          what the panel answers, the glass, and the pen now set
--     retype s k     where the retype lands: a column on, if k is unheld and before the last column, and the cell on
--                    the glass there has the pen now set
--     lands s n k    where the motion n lands from the cursor k, if it is offered there. The retype is the motion after
--                    the panel's own
--     priced c a n   what the motion n costs on a panel with the answers a. The retype sends one byte and takes no time
--     numbered z k   the number of a cursor in the order rule: its place's, and for a held one the number of places
--     steps s n k    the same as a cursor: every motion lands unheld
--     graph c s      the cursors, and the motions between them
--     NoWay c s k q  no sequence leads from the cursor k to the place q
--     motion_sent s k n, sent s k w
--                    the bytes of the motion n and of the sequence w from the cursor k. The retype sends the code of
--                    the cell on the glass
--     scene_of a f xs ys n p
--                    the scene of a panel with the answers a, two pictures of cells that f tells the meanings of,
--                    parted at the number n, and the pen p
use Rattle.std.specs.Prelude.{ℕ, ◌+◌, ◌*◌, cond, ◌&&◌, ◌==◌, List, [], ◌∷◌, ◌++◌, length, Some, None, Option, nat_lt, option_map}
use Rattle.std.specs.Option.{option_map_or}
use Rattle.cost.specs.Costs.{Costs}
use Rattle.display.specs.Place.{number}
use Rattle.display.specs.Surface.{place_of, resting, unless_held}
use Rattle.display.specs.declared.cell.Glyph.{Glyph}
use Rattle.display.specs.declared.place.Cursor.{Cursor}
use Rattle.display.specs.declared.place.Place.{Place}
use Rattle.display.specs.declared.size.Size.{Size}
use Rattle.legs.specs.Glass.{glass_glyph}
use Rattle.legs.specs.Graph.{Graph, Leads, ends}
use Rattle.legs.specs.Sequence.{Sequence, none, then}
use Rattle.panel.specs.Answers.{Answers}

pub record Scene : Type 0 where
  pub answers : Answers
  -- the glyph at each place
  pub glass : Place → Glyph
  pub pen : ℕ

abbrev pub retype : Scene → Cursor → Option Place
retype s k = unless_held k (cond
    (nat_lt (k.place.column + 1) s.answers.size.columns && ((s.glass k.place).pen == s.pen))
    (Some (place_of k.place.row (k.place.column + 1)))
    None)

abbrev pub lands : Scene → ℕ → Cursor → Option Place
lands s n k = cond (n == s.answers.motions) (retype s k) (s.answers.lands n k)

abbrev pub priced : {V : Type 0} → Costs V → Answers → ℕ → V
priced c a n = cond (n == a.motions)
    (c.motion 1 0)
    (c.motion (length (a.motion_bytes n)) (a.delay n))

abbrev pub numbered : Size → Cursor → ℕ
numbered z k = cond k.held (z.rows * z.columns) (number z k.place)

abbrev pub steps : Scene → ℕ → Cursor → Option Cursor
steps s n k = option_map resting (lands s n k)

abbrev pub graph : {V : Type 0} → Costs V → Scene → Graph Cursor V
graph c s = record {
  step = steps s;
  weight = priced c s.answers;
  number = numbered s.answers.size;
  costs = c;
}

abbrev pub NoWay : {V : Type 0} → Costs V → Scene → Cursor → Place → Type 0
NoWay c s k q = (x : Sequence) → Leads (graph c s) k x (resting q) → ⊥

abbrev pub motion_sent : Scene → Cursor → ℕ → List ℕ
motion_sent s k n = cond (n == s.answers.motions) ((s.glass k.place).code ∷ []) (s.answers.motion_bytes n)

abbrev pub sent : Scene → Cursor → Sequence → List ℕ
sent s k none = []
sent s k (then w n) = sent s k w ++ option_map_or (λ d. motion_sent s d n) (ends (steps s) k w) []

abbrev pub scene_of : {C : Type 0} → Answers → (C → Glyph) → List C → List C → ℕ → ℕ → Scene
scene_of a f xs ys n p = record {
  answers = a;
  glass = λ q. glass_glyph f xs ys n (number a.size q);
  pen = p;
}
