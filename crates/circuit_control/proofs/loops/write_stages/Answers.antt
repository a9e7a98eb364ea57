use Rattle.circuit_context.specs.Wanted.Logs.{Logs}
use Rattle.circuit_context.proofs.WantedLemmas.Joining.{logs_none}
use Rattle.std.proofs.Common.{sym, subst}
use Rattle.std.proofs.lemmas.Result.{on_ok_weaker}
use Rattle.rtl_logic.specs.Making.{circuit}
use Rattle.rtl_logic.proofs.Making.{appends_both}
use Rattle.datapath.specs.Control.{is_loading, ends_interval}
use Rattle.datapath.specs.CircuitWires.Carrying.{MakesTelling}
use Rattle.circuit_context.specs.Wanted.Entries.{passed_entries}
use Rattle.circuit_context.proofs.WantedLemmas.Joining.{logs_behind}
use Rattle.circuit_control.specs.Gathered.{MakesTogether}
use Rattle.circuit_control.proofs.Telling.{tells_later}
use Rattle.circuit_control.proofs.Wanted.{any_tells}
use Rattle.circuit_control.proofs.loops.write_stages.Goals as goal

pub returns : goal.returns
returns c = λ p names context begun load.
    let d = circuit c.args.logic.now in
    let e = circuit c.interval_ends.new.logic in
    let f = circuit c.any.new.self in
    let g = circuit c.either.new.logic in
    let all : MakesTogether p names d e c.deref.result.now (ends_interval p) = subst (λ l. MakesTogether p names d e l (ends_interval p)) (sym c.deref.ensures.value) (c.in_ok-all.ensures p names context begun) in
    let ends : MakesTelling p names e f c.in_ok-ends.ends (ends_interval p) =
    any_tells p names e f c.deref.result.now c.in_ok-ends.ends (ends_interval p) all.begun all.tell (c.in_ok-ends.ensures all.begun.sound all.tell.fits) in
    let first = appends_both d e f all.appends ends.appends in
    let here = tells_later p names d f c.args.load (is_loading p) first load in
    let enable = c.in_ok-enable.ensures p names (is_loading p) (ends_interval p) ends.begun here ends.carries in
    on_ok_weaker c.write_each_stage.result
    (λ h. logs_behind p names d g (circuit c.write_each_stage.new.logic) c.args.log.now.pushes.items c.write_each_stage.new.log.pushes.items (passed_entries p c.args.of.now.bank.stages) (appends_both d f g first enable.appends) h)
    (c.write_each_stage.ensures p names context enable.begun (tells_later p names f g c.args.load (is_loading p) enable.appends here) enable.carries)

pub returns-then-of-eq0 : goal.returns-then-of-eq0
returns-then-of-eq0 c = λ p names context begun loading.
    let d = circuit c.args.logic.now in
    let l = c.args.log.now.pushes.items in
    subst (λ n. Logs p names d d l l (passed_entries p n)) (sym c.if-of-eq0.true) (logs_none p names d l begun)
