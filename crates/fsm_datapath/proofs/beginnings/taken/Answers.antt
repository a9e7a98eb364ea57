use Rattle.std.proofs.Common.{refl}
use Rattle.std.proofs.lemmas.Result.{IfOk-weaker}
use Rattle.rtl_core.specs.declared.design.Atom.TheVariants as atom
use Rattle.rtl_logic.specs.Making.{circuit}
use Rattle.datapath.specs.Cycles.{Cycle, Ready, holds, starts}
use Rattle.datapath.proofs.Combining.{and_tells}
use Rattle.fsm_datapath.proofs.Beginning.{start_tells}
use Rattle.fsm_datapath.proofs.Pushing.{in_bank, holds_tells}
use Rattle.fsm_datapath.proofs.beginnings.taken.Goals as goal

pub returns : goal.returns
returns c = λ p names h begun.
    let d = circuit c.args.logic.now in
    let left = holds_tells p names d c.in_ok-ready.ready Ready begun refl (in_bank p names c.args.of.now c.in_ok-ready.ready Ready h c.in_ok-ready.ensures) in
    let right = start_tells p names d begun in
    IfOk-weaker c.and.result _ _ (λ a made. and_tells p names d (circuit c.and.new.self) c.in_ok-ready.ready (atom.Input 1) a (λ (x : Cycle). holds x Ready) starts begun left right made)
    (c.and.ensures begun.sound left.fits right.fits)
