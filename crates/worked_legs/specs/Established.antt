-- When a row of the table is true.
--     Sends c s k u bs      bs are the bytes of the leg by the costs c, from the cursor k to u, in the scene s
--     SendsIf c s k q o     o is the bytes of the leg to the place q, or none and no sequence leads there
--     Found c l, FoundBy c l
--                           what the row l says, by the costs c, or by the costs of the kind c
--     Established l         the same, by the row's own costs
--     Worked ls             the worked legs ls are the rows of the table, and each is established
use Rattle.std.specs.Prelude.{◌≡◌, ℕ, List, map, Some, None, Option}
use Rattle.std.specs.List.{AllByRecursion}
use Rattle.cost.specs.Bytes.{byte_costs}
use Rattle.cost.specs.Costs.{Costs}
use Rattle.cost.specs.Line.{line_costs}
use Rattle.display.specs.Surface.{resting}
use Rattle.display.specs.declared.place.Cursor.{Cursor}
use Rattle.display.specs.declared.place.Place.{Place}
use Rattle.legs.specs.Leg.{Leg}
use Rattle.legs.specs.Scene.{NoWay, Scene, graph, sent}
use Rattle.legs.specs.Sequence.{Sequence}
use Rattle.worked_legs.specs.Scenes.{blank_scene}
use Rattle.worked_legs.specs.Table.{TableRow, row_of, table}
use Rattle.worked_legs.specs.declared.row.CostKind.{CostKind}
use Rattle.worked_legs.specs.declared.row.CostKind.TheVariants.{Bytes, Line}
use Rattle.worked_legs.specs.declared.row.WorkedLeg.{WorkedLeg}

pub record Sends {V : Type 0} (c : Costs V) (s : Scene) (k u : Cursor) (bs : List ℕ) : Type 0 where
  pub sequence : Sequence
  pub leg : Leg (graph c s) k sequence u
  pub bytes : sent s k sequence ≡ bs

abbrev pub SendsIf : {V : Type 0} → Costs V → Scene → Cursor → Place → Option (List ℕ) → Type 0
SendsIf c s k q None = NoWay c s k q
SendsIf c s k q (Some bs) = Sends c s k (resting q) bs

abbrev pub Found : {V : Type 0} → Costs V → TableRow → Type 0
Found c l = SendsIf c (blank_scene l.panel) l.start l.goal l.bytes

abbrev pub FoundBy : CostKind → TableRow → Type 0
FoundBy Bytes l = Found byte_costs l
FoundBy Line l = Found line_costs l

abbrev pub Established : TableRow → Type 0
Established l = FoundBy l.cost l

pub record Worked (ls : List WorkedLeg) : Type 0 where
  pub whole : map row_of ls ≡ table
  pub established : AllByRecursion Established (map row_of ls)
