use Rattle.std.proofs.Common.{sym, subst}
use Rattle.std.proofs.lemmas.Result.{on_ok_weaker}
use Rattle.rtl_logic.specs.Making.{circuit}
use Rattle.rtl_logic.proofs.Making.{appended}
use Rattle.datapath.specs.Control.{is_loading}
use Rattle.datapath.specs.CircuitWires.Carrying.{MakesTelling}
use Rattle.circuit_context.specs.Wanted.Entries.{moves_of, gate_entries, passed_entries, waited_entries, loop_entries}
use Rattle.circuit_context.proofs.WantedLemmas.Joining.{pushes_later, logs_then, logs_behind}
use Rattle.circuit_control.specs.Gathered.{TellTogether}
use Rattle.circuit_control.proofs.Telling.{tells_later}
use Rattle.circuit_control.proofs.Wanted.{any_tells}
use Rattle.circuit_control.proofs.loops.write_loops.Goals as goal

pub returns : goal.returns
returns c = λ p names pushes context begun named_ are holds_.
    let d = circuit c.args.logic.now in
    let e = circuit c.any.new.self in
    let f = circuit c.write_gates.new.logic in
    let g = circuit c.write_stages.new.logic in
    let h = circuit c.write_waited.new.logic in
    let first = c.args.log.now.pushes.items in
    let second = c.write_gates.new.log.pushes.items in
    let third = c.write_stages.new.log.pushes.items in
    let last = c.write_waited.new.log.pushes.items in
    let together : TellTogether p names d c.deref.result.now (is_loading p) =
    subst (λ l. TellTogether p names d l (is_loading p)) (sym c.deref.ensures.value) (c.in_ok-loads.ensures p names d context begun) in
    let load : MakesTelling p names d e c.in_ok-load.load (is_loading p) = any_tells p names d e c.deref.result.now c.in_ok-load.load (is_loading p) begun together (c.in_ok-load.ensures begun.sound together.fits) in
    let gates = c.in_ok-write_gates.ensures p names pushes context load.begun (pushes_later p names d e pushes (moves_of p) (appended d e load.appends) are) holds_ load.carries in
    let at_stages = tells_later p names e f c.in_ok-load.load (is_loading p) gates.appends load.carries in
    let stages = c.in_ok-write_stages.ensures p names context gates.begun at_stages in
    let at_waited = tells_later p names f g c.in_ok-load.load (is_loading p) stages.appends at_stages in
    on_ok_weaker c.write_waited.result
    (λ waited. logs_behind p names d e h first last (loop_entries p c.args.of.now.bank.gates c.args.of.now.bank.stages) load.appends
    (logs_then p names e f h first second last (gate_entries p c.args.of.now.bank.gates) _ gates
    (logs_then p names f g h second third last (passed_entries p c.args.of.now.bank.stages) (waited_entries p) stages waited))) (c.write_waited.ensures p names context stages.begun at_waited)
