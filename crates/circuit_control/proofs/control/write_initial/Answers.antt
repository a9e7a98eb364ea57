use Rattle.std.proofs.Common.{sym, ◌∙◌, arith}
use Rattle.std.proofs.lemmas.Result.{on_ok_weaker}
use Rattle.rtl_logic.specs.Making.{circuit}
use Rattle.datapath.specs.Cycles.{Cycle, bit}
use Rattle.datapath.specs.Control.{next_initial}
use Rattle.circuit_context.proofs.WantedLemmas.Joining.{logs_none, logs_behind}
use Rattle.circuit_control.proofs.Pieces.{logs_as, no_initial, some_initial}
use Rattle.circuit_control.proofs.control.write_initial.Goals as goal

pub returns-then-cycles-eq0 : goal.returns-then-cycles-eq0
returns-then-cycles-eq0 c = λ p names context begun.
    let d = circuit c.args.logic.now in
    let cycles = c.initial_length-cycles.ensures p names context in
    logs_as p names d d c.args.log.now.pushes.items c.args.log.now.pushes.items _ _ (no_initial p (sym cycles ∙ c.if-cycles-eq0.true)) (logs_none p names d c.args.log.now.pushes.items begun)

pub returns : goal.returns
returns c = λ p names context begun.
    let d = circuit c.args.logic.now in
    let e = circuit c.next_initial.new.logic in
    let before = c.args.log.now.pushes.items in
    let after = c.write_always.new.log.pushes.items in
    let cycles = c.initial_length-cycles.ensures p names context in
    let next = c.in_ok-next.ensures p names context begun cycles (omega (arith, c.if-cycles-eq0.false)) in
    on_ok_weaker c.write_always.result (λ h. logs_as p names d e before after _ _ (some_initial p (λ none. c.if-cycles-eq0.false (cycles ∙ none))) (logs_behind p names d e e before after _ next.appends h))
    (c.write_always.ensures p names e (λ (x : Cycle). bit (next_initial p x)) context next.begun next.carries)
