-- What a screen holds.
--     State           its panel; the rest place that is asked for; where the last accepted showing left the panel, if
--                     there was one; and the columns put in each row since
--     first_stand     the first place, and pen 0
--     nothing_put     no column is put in any row
--     Sane w p        the columns p are a span of a panel of width w, if any was put
--     LeftOn z l      the place in l, if there is one, is on a panel of size z
--     Kept z r l ps   the rest place r and the place in l are on a panel of size z, and each of the rows ps is sane
--     Faces ready a s m gs
--                     the panel means m: it shows the picture gs, its cursor is unheld where the state s tells that the
--                     last accepted showing left it, with the pen that s tells, and it is ready
use Rattle.std.specs.Prelude.{◌≡◌, ⊤, ℕ, ◌<◌, ◌≤◌, true, List, replicate, Some, None, Option}
use Rattle.std.specs.List.{AllByRecursion}
use Rattle.damage.specs.Damage.{untouched}
use Rattle.damage.specs.declared.damage.PutColumns.{PutColumns}
use Rattle.display.specs.Place.{On}
use Rattle.display.specs.Surface.{place_of, resting}
use Rattle.display.specs.declared.cell.Glyph.{Glyph}
use Rattle.display.specs.declared.place.Place.{Place}
use Rattle.display.specs.declared.size.Size.{Size}
use Rattle.panel.specs.Answers.{Answers}
use Rattle.panel.specs.Meaning.{Meaning, of}
use Rattle.plan.specs.Drawn.{Apt, stands}
use Rattle.plan.specs.declared.stand.Stand.{Stand}

pub record State (P : Type 0) : Type 0 where
  pub panel : P
  pub rest : Place
  pub left : Option Stand
  pub rows : List PutColumns

abbrev pub first_stand : Stand
first_stand = record { place = place_of 0 0; pen = 0 }

abbrev pub nothing_put : List PutColumns
nothing_put = replicate 24 untouched

pub record Sane (w : ℕ) (p : PutColumns) : Type 0 where
  pub ordered : p.any ≡ true → p.first ≤ p.last
  pub inside : p.any ≡ true → p.last < w

abbrev pub LeftOn : Size → Option Stand → Type 0
LeftOn z None = ⊤
LeftOn z (Some k) = On z k.place

pub record Kept (z : Size) (r : Place) (l : Option Stand) (ps : List PutColumns) : Type 0 where
  pub rest : On z r
  pub left : LeftOn z l
  pub rows : AllByRecursion (Sane z.columns) ps

pub record Faces {P Mode : Type 0} (ready : Mode) (a : Answers) (s : State P) (m : Meaning Mode) (gs : List Glyph)
    : Type 0 where
  pub stand : Stand
  pub left : s.left ≡ Some stand
  pub means : m ≡ of (stands a.size gs (resting stand.place) stand.pen) ready
  pub apt : Apt a gs
