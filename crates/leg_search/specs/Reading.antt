-- What the code of a search is read as.
--     lined ls i         the state that stands at the place i of the line, which the label there holds
--     reach_of f v ls w  how far the search has come: ls are the labels, w says where the line ends and which classes are
--                        due; f tells the value of a cost, and v is that of no cost
--     task_of f h c t    the task t by the costs c, where f tells what a panel answers and h what a cell means
use Rattle.std.specs.Prelude.{ℕ, List, map, slice_index_or}
use Rattle.cost.specs.Costs.{Costs}
use Rattle.display.specs.declared.cell.Glyph.{Glyph}
use Rattle.labels.specs.Label.{noted, step_of}
use Rattle.labels.specs.declared.label.Label.{Label}
use Rattle.legs.specs.Seen.{scened}
use Rattle.leg_search.specs.Reach.{Reach}
use Rattle.leg_search.specs.Task.{Task}
use Rattle.leg_search.specs.declared.front.Front.{Front}
use Rattle.leg_search.specs.declared.task.Task.{Task as Asked}
use Rattle.motion_order.specs.Classes.{class_of, count_of}
use Rattle.panel.specs.Answers.{Answers}

abbrev pub lined : {K : Type 0} → List (Label K) → ℕ → ℕ
lined ls i = slice_index_or (map step_of ls) i 0

abbrev pub reach_of : {K V : Type 0} → (K → V) → V → List (Label K) → Front → Reach V
reach_of f v ls w = record {
  notes = noted f v ls;
  line = lined ls;
  end = w.count;
  next = λ d. slice_index_or w.next d 0;
}

abbrev pub task_of : {P C V : Type 0} → (P → Answers) → (C → Glyph) → Costs V → Asked P C → Task V
task_of f h c t = record {
  costs = c;
  scene = scened f h t.scene;
  start = t.start;
  goal = t.goal;
  count = count_of t.classes;
  class = class_of t.classes;
}
