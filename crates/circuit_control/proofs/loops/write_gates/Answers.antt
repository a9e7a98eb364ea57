use Rattle.std.proofs.Common.{◌-◌, sym, subst}
use Rattle.std.proofs.lemmas.Result.{on_ok_weaker}
use Rattle.rtl_logic.specs.Making.{circuit}
use Rattle.datapath.specs.Cycles.{Cycle}
use Rattle.datapath.specs.Control.{is_loading, is_any_tested}
use Rattle.circuit_context.specs.Wanted.Entries.{moves_of, gate_entries}
use Rattle.circuit_context.specs.declared.wanted.role.Target.TheVariants as t
use Rattle.circuit_context.specs.Wanted.Logs.{Logs}
use Rattle.circuit_context.proofs.WantedLemmas.Joining.{logs_none, logs_then, logs_behind}
use Rattle.circuit_control.specs.Gathered.{is_asked, moved_entries}
use Rattle.circuit_control.proofs.Gathered.{tested_asked}
use Rattle.circuit_control.proofs.Telling.{one_tells, tells_as}
use Rattle.circuit_control.proofs.Pieces.{logs_as, one_gate, all_gates}
use Rattle.circuit_control.proofs.loops.write_gates.Goals as goal

pub returns-then-of-eq1 : goal.returns-then-of-eq1
returns-then-of-eq1 c = λ p names pushes context begun are holds_ load.
    let d = circuit c.args.logic.now in
    logs_as p names d d c.args.log.now.pushes.items c.write.new.log.pushes.items _ _ (one_gate p c.args.of.now.bank.gates c.if-of-eq1.true)
    (c.in_ok-write.ensures p names d (is_loading p) (λ (x : Cycle). 1) context begun load (one_tells p names d c.constant.result c.constant.ensures))

pub returns : goal.returns
returns c = λ p names pushes context begun are holds_ load.
    let d = circuit c.args.logic.now in
    let e = circuit c.is_wanted.new.logic in
    let before = c.args.log.now.pushes.items in
    let middle = c.write.new.log.pushes.items in
    let after = c.write_earlier.new.log.pushes.items in
    let first = c.in_ok-write.ensures p names d (is_loading p) (λ (x : Cycle). 1) context begun load (one_tells p names d c.constant.result c.constant.ensures) in
    let tested = c.in_ok-tested.ensures p names pushes (moves_of p) begun are (holds_ t.Tested) in
    let tells = tells_as p names e c.in_ok-tested.tested (is_asked t.Tested (moves_of p)) (is_any_tested p) (tested_asked p) tested.carries in
    on_ok_weaker c.write_earlier.result
    (λ h. logs_as p names d e before after _ _ (all_gates p c.args.of.now.bank.gates c.if-of-eq0.false)
    (logs_then p names d d e before middle after _ (moved_entries (is_any_tested p) (c.args.of.now.bank.gates - 1)) first (logs_behind p names d e e middle after _ tested.appends h)))
    (c.write_earlier.ensures p names e (is_any_tested p) context tested.begun tells)

pub returns-then-of-eq0 : goal.returns-then-of-eq0
returns-then-of-eq0 c = λ p names pushes context begun are holds_ loading.
    let d = circuit c.args.logic.now in
    let l = c.args.log.now.pushes.items in
    subst (λ n. Logs p names d d l l (gate_entries p n)) (sym c.if-of-eq0.true) (logs_none p names d l begun)
