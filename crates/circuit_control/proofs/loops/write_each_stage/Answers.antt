use Rattle.std.proofs.Common.{◌≡◌, ap, arith}
use Rattle.std.specs.Prelude.{◌||◌}
use Rattle.rtl_logic.specs.Making.{circuit}
use Rattle.datapath.specs.Cycles.{Cycle}
use Rattle.datapath.specs.Control.{is_loading, ends_interval}
use Rattle.circuit_context.specs.Wanted.Entries.{passed_entries}
use Rattle.circuit_context.proofs.WantedLemmas.Joining.{logs_none, logs_then}
use Rattle.circuit_control.proofs.Telling.{tells_later}
use Rattle.circuit_control.proofs.Pieces.{logs_as, stages_more}
use Rattle.circuit_control.proofs.loops.write_each_stage.Goals as goal

pub loop-before-init : goal.loop-before-init
loop-before-init c = λ p names context begun load enable. logs_none p names (circuit c.args.logic.now) c.args.log.now.pushes.items begun

pub loop-before-preserved : goal.loop-before-preserved
loop-before-preserved c = λ p names context begun load enable.
    let d = circuit c.args.logic.now in
    let e = circuit c.loop-before.logic in
    let f = circuit c.write_stage.new.logic in
    let k = c.loop-before.before in
    let h = c.loop-before.invariant p names context begun load enable in
    let one = c.in_ok-write_stage.ensures p names context h.begun (tells_later p names d e c.args.passing.load (is_loading p) h.appends load)
    (tells_later p names d e c.args.passing.enable (λ (x : Cycle). is_loading p x || ends_interval p x) h.appends enable) in
    logs_as p names d f c.args.log.now.pushes.items c.write_stage.new.log.pushes.items _ _ (stages_more p k)
    (logs_then p names d e f c.args.log.now.pushes.items c.loop-before.log.pushes.items c.write_stage.new.log.pushes.items (passed_entries p k) _ h one)

pub returns : goal.returns
returns c = λ p names context begun load enable.
    let last : c.loop-before.before ≡ c.args.of.now.bank.stages = omega arith in
    logs_as p names (circuit c.args.logic.now) (circuit c.loop-before.logic) c.args.log.now.pushes.items c.loop-before.log.pushes.items _ _ (ap (passed_entries p) last) (c.loop-before.invariant p names context begun load enable)
