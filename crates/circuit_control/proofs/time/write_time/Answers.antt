use Rattle.std.proofs.Common.{sym, ◌∙◌, subst, arith}
use Rattle.std.proofs.lemmas.Result.{on_ok_weaker}
use Rattle.rtl_core.specs.Valid.{IsBetween}
use Rattle.rtl_logic.specs.Making.{circuit}
use Rattle.datapath.specs.Control.{next_time}
use Rattle.datapath.specs.CircuitWires.Carrying.{Carries}
use Rattle.circuit_context.proofs.WantedLemmas.Joining.{logs_none, logs_behind}
use Rattle.circuit_control.proofs.Pieces.{logs_as, no_time, some_time}
use Rattle.circuit_control.proofs.time.write_time.Goals as goal

pub returns-then-bits-eq0 : goal.returns-then-bits-eq0
returns-then-bits-eq0 c = λ p names context begun.
    let d = circuit c.args.logic.now in
    let bits = c.time_bits-bits.ensures p names context in
    logs_as p names d d c.args.log.now.pushes.items c.args.log.now.pushes.items _ _ (no_time p (sym bits.0 ∙ c.if-bits-eq0.true)) (logs_none p names d c.args.log.now.pushes.items begun)

pub returns : goal.returns
returns c = λ p names context begun.
    let d = circuit c.args.logic.now in
    let e = circuit c.next_time.new.logic in
    let before = c.args.log.now.pushes.items in
    let after = c.write_always.new.log.pushes.items in
    let bits = c.time_bits-bits.ensures p names context in
    let between : IsBetween 1 64 c.time_bits-bits.result = (omega (arith, c.if-bits-eq0.false), bits.1) in
    let next = c.in_ok-next.ensures p names context begun between bits.0 in
    on_ok_weaker c.write_always.result (λ h. logs_as p names d e before after _ _ (some_time p (λ none. c.if-bits-eq0.false (bits.0 ∙ none))) (logs_behind p names d e e before after _ next.appends h))
    (c.write_always.ensures p names e (next_time p) context next.begun (subst (λ n. Carries p names e n c.in_ok-next.next (next_time p)) bits.0 next.carries))
