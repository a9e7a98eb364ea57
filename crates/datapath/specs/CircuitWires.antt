-- What is carried stays so while the circuit is made.
pub mod Carrying
use Rattle.std.specs.Prelude.{ℕ, List, ◌++◌}
use Rattle.rtl_core.specs.declared.design.Atom.{Atom}
use Rattle.rtl_core.specs.Netlist.{Netlist}
use Rattle.rtl_core.proofs.Stability.{Extends}
use Rattle.datapath.specs.Plans.{Plan}
use Rattle.datapath.specs.Cycles.{Register, Cycle}
use Rattle.datapath.specs.Circuits.{width}
use Rattle.datapath.specs.CircuitWires.Carrying.{AreNamed, IsRegister, Carries}

-- an atom goes on to carry its value where wires and registers are appended
abbrev pub CarriedStays : Type 0
CarriedStays = (p : Plan) (names more : List Register) (d e : Netlist) (bits : ℕ) (a : Atom) (value : Cycle → ℕ) → AreNamed p names d → AreNamed p (names ++ more) e → Extends d e
    → Carries p names d bits a value → Carries p (names ++ more) e bits a value

-- a register carries what the plan's register holds
abbrev pub RegistersCarry : Type 0
RegistersCarry = (p : Plan) (names : List Register) (d : Netlist) (a : Atom) (r : Register) → AreNamed p names d → IsRegister names a r → Carries p names d (width p r) a (λ c. c.regs r)
