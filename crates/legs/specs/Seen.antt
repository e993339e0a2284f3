-- What a scene of the library means.
--     scened f h s    the scene s, where f tells what a panel answers and h what a cell means
use Rattle.display.specs.declared.cell.Glyph.{Glyph}
use Rattle.legs.specs.Scene.{Scene, scene_of}
use Rattle.legs.specs.declared.scene.Scene.{Scene as Seen}
use Rattle.panel.specs.Answers.{Answers}

abbrev pub scened : {P C : Type 0} → (P → Answers) → (C → Glyph) → Seen P C → Scene
scened f h s = scene_of (f s.panel.now) h s.glass.below.now s.glass.from.now s.glass.split s.pen
