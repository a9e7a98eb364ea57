use Rattle.std.proofs.Common.{refl, arith}
use Rattle.std.specs.Prelude.{◌==◌, not}
use Rattle.std.proofs.lemmas.Result.{IfOk-weaker}
use Rattle.rtl_logic.specs.Making.{circuit}
use Rattle.rtl_logic.proofs.Making.{appended, fits_later}
use Rattle.datapath.specs.Cycles.{Cycle, Gate, Waited, holds}
use Rattle.datapath.proofs.Combining.{not_tells}
use Rattle.circuit_context.proofs.Telling.{holds_tells}
use Rattle.circuit_context.proofs.Gates.{both_made}
use Rattle.circuit_context.proofs.tests.has_failed.Goals as goal

pub returns : goal.returns
returns c = λ p names h begun.
    let d = circuit c.args.logic.now in
    let e = circuit c.not.new.self in
    let f = circuit c.has_waited.new.logic in
    let g = circuit c.and.new.self in
    let k = c.args.cycles in
    let b = c.in_ok-running.running in
    let l = c.in_ok-failed.failed in
    let r = c.in_ok-over.over in
    let running = holds_tells p names d b (Gate 0) begun refl (c.in_ok-running.ensures p names h) in
    let failed = not_tells p names d e b l (λ (x : Cycle). holds x (Gate 0)) begun running (c.in_ok-failed.ensures 1 begun.sound (omega arith, omega arith) running.fits) in
    let over = c.in_ok-over.ensures p names h failed.begun in
    IfOk-weaker c.and.result _ _ (λ a made. both_made p names d e f g l r a (λ (x : Cycle). not (holds x (Gate 0))) (λ (x : Cycle). x.regs Waited == k) failed over made)
    (c.and.ensures over.begun.sound (fits_later e f (appended e f over.appends) 1 l failed.carries.fits) over.carries.fits)
