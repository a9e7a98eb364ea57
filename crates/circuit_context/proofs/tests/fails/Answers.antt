use Rattle.std.proofs.Common.{arith}
use Rattle.std.specs.Prelude.{not}
use Rattle.std.proofs.lemmas.Result.{IfOk-weaker}
use Rattle.rtl_logic.specs.Making.{circuit}
use Rattle.rtl_logic.proofs.Making.{appended, fits_later}
use Rattle.datapath.specs.Cycles.{Cycle}
use Rattle.datapath.specs.Control as control
use Rattle.datapath.proofs.Combining.{not_tells}
use Rattle.circuit_context.proofs.Gates.{both_made}
use Rattle.circuit_context.proofs.tests.fails.Goals as goal

pub returns : goal.returns
returns c = λ p names h begun.
    let d = circuit c.args.logic.now in
    let e = circuit c.is_tested.new.logic in
    let f = circuit c.not.new.self in
    let g = circuit c.and.new.self in
    let i = c.args.node.0 in
    let l = c.in_ok-tested.tested in
    let r = c.in_ok-failed.failed in
    let tested = c.in_ok-tested.ensures p names h begun in
    let test = c.in_ok-test.ensures p names h tested.begun in
    let failed = not_tells p names e f c.in_ok-test.test r (λ (x : Cycle). control.test_holds p x i) tested.begun test (c.in_ok-failed.ensures 1 tested.begun.sound (omega arith, omega arith) test.fits) in
    IfOk-weaker c.and.result _ _ (λ a made. both_made p names d e f g l r a (λ (x : Cycle). control.is_tested p x i) (λ (x : Cycle). not (control.test_holds p x i)) tested failed made)
    (c.and.ensures failed.begun.sound (fits_later e f (appended e f failed.appends) 1 l tested.carries.fits) failed.carries.fits)
