use Rattle.std.proofs.Common.{arith}
use Rattle.std.proofs.lemmas.Result.{IfOk-weaker}
use Rattle.rtl_core.specs.Valid.{IsBetween}
use Rattle.rtl_logic.specs.Making.{circuit}
use Rattle.datapath.specs.Cycles.{Cycle, Time}
use Rattle.datapath.specs.Circuits.{width}
use Rattle.datapath.specs.Control.{greatest_time}
use Rattle.datapath.proofs.Carrying.{register}
use Rattle.circuit_units.proofs.MemoriesLemmas.Times.{few_bits}
use Rattle.circuit_units.proofs.MemoriesLemmas.Outer.{bank_register, resized_carries}
use Rattle.circuit_units.proofs.memories.outside.low_time.Goals as goal

pub returns : goal.returns
returns c = λ p names context begun counted between.
    let d = circuit c.args.logic.now in
    let n = width p Time in
    let time = register p names d c.in_ok-time.time Time begun.named (bank_register p names c.args.of.now c.in_ok-time.time Time context c.in_ok-time.ensures) in
    let few = few_bits (greatest_time p) in
    let wide : IsBetween 1 128 n = (omega (arith, counted), omega (arith, few)) in
    IfOk-weaker c.resized.result _ _ (λ a made. resized_carries p names d (circuit c.resized.new.self) n c.args.bits c.in_ok-time.time a (λ (x : Cycle). x.regs Time) begun time made)
    (c.resized.ensures n begun.sound time.fits wide between)
