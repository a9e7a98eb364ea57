use Rattle.std.proofs.Common.{◌≡◌, take}
use Rattle.aig_graph.specs.Making.{gates_of}
use Rattle.aig_graph.specs.Words.{MakesWord, bits, number, bitwise_number}
use Rattle.aig_graph.proofs.bitwise.bitwise.Given as goal

abbrev pub invariant-loop-i : goal.invariant-loop-i
invariant-loop-i l = MakesWord (gates_of l.fn.graph) (gates_of l.graph) l.bits.items l.i (λ w bs. number bs ≡ bitwise_number l.op (number (bits w (take l.i l.xs))) (number (bits w (take l.i l.ys))))
