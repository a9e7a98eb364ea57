use Rattle.std.proofs.lemmas.Result.{on_ok_weaker}
use Rattle.std.specs.Prelude.{◌&&◌}
use Rattle.rtl_logic.specs.Making.{circuit}
use Rattle.datapath.specs.Cycles.{Cycle}
use Rattle.datapath.proofs.Combining.{and_tells}
use Rattle.circuit_context.proofs.WantedLemmas.Joining.{logs_behind}
use Rattle.fsm_datapath.proofs.Pushing.{tells_as}
use Rattle.fsm_datapath.proofs.ways.write_way.Goals as goal

pub returns : goal.returns
returns c = λ p names left right both begun one other same.
    let d = circuit c.args.logic.now in
    let e = circuit c.and.new.self in
    let made = and_tells p names d e c.args.one c.args.other c.in_ok-taken.taken left right begun one other (c.in_ok-taken.ensures begun.sound one.fits other.fits) in
    let tells = tells_as p names e c.in_ok-taken.taken (λ (x : Cycle). left x && right x) both same made.carries in
    on_ok_weaker c.enter.result (logs_behind p names d e e _ _ _ made.appends) (c.enter.ensures p names e both made.begun tells)
