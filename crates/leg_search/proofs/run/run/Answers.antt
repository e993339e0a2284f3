-- Each turn is that of the class that is due first.
use Rattle.std.proofs.Common.{◌∙◌, ℕ, arith, subst}
use Rattle.due_queue.specs.Queue.{Fresh}
use Rattle.leg_search.proofs.Runs.{ends_beyond, ends_over, in_turn, queued_fresh, queued_on, reckons, searching_begun, searching_on}
use Rattle.leg_search.specs.Reading.{reach_of, task_of}
use Rattle.leg_search.proofs.run.run.Goals as goal

pub loop-due-init : goal.loop-due-init
loop-due-init g c = (
  c.append.ensures.same,
  searching_begun (task_of g.P.Panel.answers g.C.Cell.glyph g.K.Cost.costs c.args.task.now) g.met.K.Cost.laws
      (g.met.P.Panel.lawful c.args.task.now.scene.panel.now).bounded c.requires.asks
      (reach_of g.K.Cost.value g.K.Cost.costs.zero c.args.labels.now c.new-front.result)
      (reach_of g.K.Cost.value g.K.Cost.costs.zero c.append.new.labels c.append.new.self) c.args.beginning
      c.append.ensures.appends c.new-front.ensures.count c.new-front.ensures.next c.requires.beginning c.requires.apart
      c.requires.prepared,
  queued_fresh (task_of g.P.Panel.answers g.C.Cell.glyph g.K.Cost.costs c.args.task.now) g.met.K.Cost.laws
      (g.met.P.Panel.lawful c.args.task.now.scene.panel.now).bounded c.requires.asks
      (reach_of g.K.Cost.value g.K.Cost.costs.zero c.append.new.labels c.append.new.self) c.new-queue.result
      (subst (λ (n : ℕ). Fresh n c.new-queue.result) c.count.ensures c.new-queue.ensures)
      (let e = c.append.ensures.appends.end in let h = c.new-front.ensures.count in omega arith),
  omega arith,
)

pub next_due-requires-clause-reckons : goal.next_due-requires-clause-reckons
next_due-requires-clause-reckons g c = reckons (task_of g.P.Panel.answers g.C.Cell.glyph g.K.Cost.costs c.args.task.now) g.met.K.Cost.laws
    (g.met.P.Panel.lawful c.args.task.now.scene.panel.now).bounded c.requires.asks
    g.K.Cost.Few g.met.K.Cost.few_laws _ (c.loop-due.invariant.0 ∙ c.requires.memory)
    (reach_of g.K.Cost.value g.K.Cost.costs.zero c.loop-due.labels c.loop-due.front) c.loop-due.invariant.1

pub returns-then-is_beyond-clause-ends : goal.returns-then-is_beyond-clause-ends
returns-then-is_beyond-clause-ends g c = λ t. ends_beyond (task_of g.P.Panel.answers g.C.Cell.glyph g.K.Cost.costs c.args.task.now) g.met.K.Cost.laws
    (g.met.P.Panel.lawful c.args.task.now.scene.panel.now).bounded c.requires.asks
    (reach_of g.K.Cost.value g.K.Cost.costs.zero c.loop-due.labels c.loop-due.front) c.loop-due.invariant.1 g.K.Cost.value
    c.in-Some.due c.in-Some.ensures.next.1 (c.is_beyond.ensures.0 c.if-is_beyond.true)

pub turn-requires-clause-in_turn : goal.turn-requires-clause-in_turn
turn-requires-clause-in_turn g c = in_turn (task_of g.P.Panel.answers g.C.Cell.glyph g.K.Cost.costs c.args.task.now) g.met.K.Cost.laws
    (g.met.P.Panel.lawful c.args.task.now.scene.panel.now).bounded c.requires.asks
    (reach_of g.K.Cost.value g.K.Cost.costs.zero c.loop-due.labels c.loop-due.front) c.loop-due.invariant.1 g.K.Cost.value
    c.in-Some.due c.in-Some.ensures.next.1
    (λ e. let a = c.is_beyond.ensures.1 e in let b = c.if-is_beyond.false in absurd cc)

pub loop-due-preserved : goal.loop-due-preserved
loop-due-preserved g c = (
  c.turn.ensures.same ∙ c.loop-due.invariant.0,
  searching_on (task_of g.P.Panel.answers g.C.Cell.glyph g.K.Cost.costs c.args.task.now) g.met.K.Cost.laws
      (g.met.P.Panel.lawful c.args.task.now.scene.panel.now).bounded c.requires.asks
      (reach_of g.K.Cost.value g.K.Cost.costs.zero c.loop-due.labels c.loop-due.front)
      (reach_of g.K.Cost.value g.K.Cost.costs.zero c.turn.new.labels c.turn.new.front)
      (g.K.Cost.value c.in-Some.due.cost) c.in-Some.due.class c.turn.ensures.turned,
  queued_on (task_of g.P.Panel.answers g.C.Cell.glyph g.K.Cost.costs c.args.task.now) g.met.K.Cost.laws
      (g.met.P.Panel.lawful c.args.task.now.scene.panel.now).bounded c.requires.asks
      (reach_of g.K.Cost.value g.K.Cost.costs.zero c.loop-due.labels c.loop-due.front)
      (reach_of g.K.Cost.value g.K.Cost.costs.zero c.turn.new.labels c.turn.new.front)
      (g.K.Cost.value c.in-Some.due.cost) c.in-Some.due.class c.turn.ensures.turned c.next_due.new.queue
      (c.in-Some.ensures.same ∙ c.loop-due.invariant.2.classes) c.in-Some.ensures.next.0,
  (let a = c.loop-due.invariant.3 in omega arith),
)

pub returns-clause-ends : goal.returns-clause-ends
returns-clause-ends g c = λ t. ends_over (task_of g.P.Panel.answers g.C.Cell.glyph g.K.Cost.costs c.args.task.now) g.met.K.Cost.laws
    (g.met.P.Panel.lawful c.args.task.now.scene.panel.now).bounded c.requires.asks
    (reach_of g.K.Cost.value g.K.Cost.costs.zero c.loop-due.labels c.loop-due.front) c.loop-due.invariant.1 c.in_default.ensures.next.1
