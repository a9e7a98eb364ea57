use Rattle.std.proofs.Common.{refl}
use Rattle.std.specs.Prelude.{◌==◌}
use Rattle.std.proofs.lemmas.Result.{IfOk-weaker}
use Rattle.rtl_core.specs.declared.design.Atom.TheVariants as atom
use Rattle.rtl_core.specs.Interface.{enable_of, write_of}
use Rattle.rtl_logic.specs.Making.{circuit}
use Rattle.datapath.specs.Cycles.{Cycle}
use Rattle.datapath.proofs.Combining.{and_tells}
use Rattle.circuit_units.proofs.MemoriesLemmas.Chosen.{pin_tells, pin_wide}
use Rattle.circuit_units.proofs.memories.outside.writes.Goals as goal

pub returns : goal.returns
returns c = λ p names begun.
    let d = circuit c.args.logic.now in
    let enable = pin_tells p names d 2 (pin_wide p names d 2 1 begun refl) in
    let write = pin_tells p names d 3 (pin_wide p names d 3 1 begun refl) in
    IfOk-weaker c.and.result _ _ (λ a made.
    and_tells p names d (circuit c.and.new.self) (atom.Input 2) (atom.Input 3) a (λ (x : Cycle). enable_of x.pins == 1) (λ (x : Cycle). write_of x.pins == 1) begun enable write made)
    (c.and.ensures begun.sound enable.fits write.fits)
