-- The scene of a worked leg.
--     screen       24 rows and 80 columns
--     answers_of p what the panel p answers at that size
--     blank_scene p the panel p with a blank at every place and pen 0 set
use Rattle.std.proofs.Common.{arith}
use Rattle.display.specs.Cell.{blank}
use Rattle.display.specs.declared.size.Size.{Size}
use Rattle.legs.specs.Scene.{Scene}
use Rattle.panel.specs.Answers.{Answers}
use Rattle.dec_rules.specs.Motions.{answers as deferred_answers}
use Rattle.short_code_panel.specs.Motions.{answers as short_code_answers}
use Rattle.sticking_panel.specs.Motions.{answers as sticking_answers}
use Rattle.worked_legs.specs.declared.row.PanelKind.{PanelKind}
use Rattle.worked_legs.specs.declared.row.PanelKind.TheVariants.{Deferred, ShortCode, Sticking}

abbrev pub screen : Size
screen = record {
  rows = 24;
  columns = 80;
  rows_least = omega arith;
  rows_most = omega arith;
  columns_least = omega arith;
  columns_most = omega arith;
}

abbrev pub answers_of : PanelKind → Answers
answers_of Deferred = deferred_answers screen
answers_of ShortCode = short_code_answers screen
answers_of Sticking = sticking_answers screen

abbrev pub blank_scene : PanelKind → Scene
blank_scene p = record { answers = answers_of p; glass = λ q. blank; pen = 0 }
