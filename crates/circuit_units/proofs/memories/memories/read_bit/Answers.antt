use Rattle.std.proofs.Common.{Some, subst, arith}
use Rattle.std.proofs.lemmas.Result.{IfOk-weaker}
use Rattle.rtl_logic.specs.Making.{circuit}
use Rattle.datapath.specs.Ports.{is_enabled}
use Rattle.datapath.proofs.Combining.{not_tells}
use Rattle.circuit_units.specs.Memories.Places.{TellsOnly}
use Rattle.circuit_units.proofs.MemoriesLemmas.Chosen.{number_carries}
use Rattle.circuit_units.proofs.MemoriesLemmas.Only.{tells_reading, always_reading}
use Rattle.circuit_units.proofs.memories.memories.read_bit.Goals as goal

pub returns-in-Some : goal.returns-in-Some
returns-in-Some c = λ p names a begun tells.
    let d = circuit c.args.logic.now in
    let enable = c.in-Some.enable in
    let only : TellsOnly p names d a (Some enable) = subst (TellsOnly p names d a) c.in-Some.is tells in
    IfOk-weaker c.not.result _ _ (λ when made. tells_reading p names d (circuit c.not.new.self) a when only.0 only.1 (not_tells p names d (circuit c.not.new.self) enable when (λ x. is_enabled p x a 0) begun only.2 made))
    (c.not.ensures 1 begun.sound (omega arith, omega arith) only.2.fits)

pub returns-in-None : goal.returns-in-None
returns-in-None c = λ p names a begun tells.
    always_reading p names (circuit c.args.logic.now) a _ begun (subst (TellsOnly p names (circuit c.args.logic.now) a) c.in-None.is tells)
    (number_carries p names (circuit c.args.logic.now) 1 1 c.constant.result (omega arith, omega arith) (omega arith) c.constant.ensures)
