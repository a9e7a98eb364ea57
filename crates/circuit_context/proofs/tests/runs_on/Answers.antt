use Rattle.std.proofs.Common.{refl}
use Rattle.std.proofs.lemmas.Result.{IfOk-weaker}
use Rattle.rtl_logic.specs.Making.{circuit}
use Rattle.datapath.specs.Cycles.{Cycle, Gate, holds}
use Rattle.datapath.specs.Control as control
use Rattle.datapath.proofs.Combining.{and_tells}
use Rattle.circuit_context.proofs.Telling.{holds_tells}
use Rattle.circuit_context.proofs.tests.runs_on.Goals as goal

pub returns : goal.returns
returns c = λ p names h begun.
    let d = circuit c.args.logic.now in
    let i = c.args.node.0 in
    let l = c.in_ok-running.running in
    let r = c.in_ok-test.test in
    let running = holds_tells p names d l (Gate 0) begun refl (c.in_ok-running.ensures p names h) in
    let test = c.in_ok-test.ensures p names h begun in
    IfOk-weaker c.and.result _ _ (λ a made. and_tells p names d (circuit c.and.new.self) l r a (λ (x : Cycle). holds x (Gate 0)) (λ (x : Cycle). control.test_holds p x i) begun running test made)
    (c.and.ensures begun.sound running.fits test.fits)
