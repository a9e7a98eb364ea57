use Rattle.std.proofs.Common.{◌≡◌, List, length, take}
use Rattle.rtl_core.specs.declared.design.Atom.{Atom}
use Rattle.rtl_logic.specs.Making.{circuit}
use Rattle.datapath.specs.Plans.{Plan}
use Rattle.datapath.specs.Cycles.{Register}
use Rattle.circuit_units.specs.Memories.Places.{IsReady, IsPlace, AreReadings, SetsWords}
use Rattle.circuit_units.proofs.memories.words.set_words.Given as goal

abbrev pub invariant-loop-port : goal.invariant-loop-port
invariant-loop-port l = (p : Plan) (names : List Register) (addresses : List Atom) → IsReady p names l.of l.groups (circuit l.initial.logic) → IsPlace p l.first
    → AreReadings p names (circuit l.initial.logic) l.first.array.0 addresses l.reads → length addresses ≡ length l.reads
    → SetsWords p names (circuit l.initial.logic) (circuit l.logic) l.first.array.0 (take l.port addresses)
