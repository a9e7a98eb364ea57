-- The word that is shown to the host.
use Rattle.std.specs.Prelude.{◌≡◌, ◌<◌, ℕ, List, length}
use Rattle.rtl_core.specs.declared.design.Atom.{Atom}
use Rattle.rtl_core.specs.Netlist.{Netlist}
use Rattle.rtl_core.specs.ClockStep.{State, seen, widths}
use Rattle.rtl_core.specs.Valid.{HasBits}
use Rattle.rtl_logic.specs.Making.{Appends}
use Rattle.datapath.specs.Plans.{Plan, host_arrays}
use Rattle.datapath.specs.Cycles.{Register, Named, Word, Contents}
use Rattle.datapath.specs.CircuitWires.Carrying.{IsMoment, IsBegun}

-- An atom of 64 bits is made by appending wires. In each cycle it is the word that was read last at port 0 of the array that the host named, if the host reaches it.
pub record MakesElement (p : Plan) (names : List Register) (d e : Netlist) (a : Atom) : Type 0 where
  pub appends : Appends d e
  pub begun : IsBegun p names e
  pub fits : HasBits (widths e) 64 a
  pub shows : (f : Netlist) (s : State) (pins : List ℕ) (x : Contents) → IsMoment p names e f s pins x → x.regs Named < length (host_arrays p)
      → seen f s pins a ≡ x.regs (Word (x.regs Named) 0)
