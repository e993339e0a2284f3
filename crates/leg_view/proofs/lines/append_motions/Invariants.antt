use Rattle.std.proofs.Common.{◌≡◌, ◌++◌, map, take, vec_items}
use Rattle.std.specs.List.{flat_map}
use Rattle.labels.specs.Label.{step_of}
use Rattle.leg_view.specs.Report.{motion_word}
use Rattle.leg_view.proofs.lines.append_motions.Given as goal

-- the motions so far are written
abbrev pub invariant-loop-label : goal.invariant-loop-label
invariant-loop-label g l =
    vec_items l.out ≡ vec_items l.initial.out ++ flat_map motion_word (map step_of (take l.label-index l.steps))
