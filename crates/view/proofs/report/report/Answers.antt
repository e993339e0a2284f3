-- The pieces one after the other. By hand: the search does not tell the two ways that a picture is written apart.
use Rattle.std.proofs.Common.{◌≡◌, [], ◌++◌, cond, codes, vec_items, append_assoc, arith, rules, sym, ◌∙◌}
use Rattle.std.proofs.lemmas.Grind.{common_steps}
use Rattle.view.specs.Report.{code_of, pen_digit, plain, rows_of}
use Rattle.view.proofs.report.report.Goals as goal
use Rattle.view.proofs.report.report.Goals.{then-not-is_plain+in_ok-append_rows-2, else-not-is_plain, then-is_ready, else-is_ready}

pub returns : goal.returns
returns g c b decides =
    let s = (g.P.Panel.meaning c.args.panel.now).surface in
    let sized : s.size ≡ c.size-size.result = (g.met.P.Panel.sound c.args.panel.now).sized ∙ sym c.size-size.ensures in
    let picture : s.picture ≡ c.deref.result.now = grind (arith, common_steps) in
    let rows = c.in_ok-append_rows.ensures s code_of sized picture (λ x r k. search rules) in
    let pens : vec_items c.if-not-is_plain.out ≡ vec_items c.append_rows.new.out ++ cond (plain s.picture) [] (rows_of pen_digit s) =
    elim c.if-not-is_plain.branch [
      | then-not-is_plain+in_ok-append_rows-2 w ↦
          let again : s.picture ≡ w.deref-then-not-is_plain.result.now = grind (arith, common_steps) in
          grind (arith, common_steps, w.in_ok-append_rows-2.ensures s pen_digit sized again (λ x r k. search rules))
      | else-not-is_plain w ↦ grind (arith, common_steps)
    ] in
    let state : c.if-is_ready.state.now ≡ cond b (codes "ready") (codes "reading") = grind (arith, common_steps) in
    search (rules, append_assoc, rows, pens, state)
