use Rattle.std.proofs.Common.{subst, sym}
use Rattle.ir_core.specs.Small.{IsSmallNode}
use Rattle.ir_core.proofs.numbers.node_numbers.Goals as goal

pub returns-in-Plain : goal.returns-in-Plain
returns-in-Plain c = record { small = subst IsSmallNode (sym c.in-Plain.is) c.word.ensures.small }

pub returns-in-Looped : goal.returns-in-Looped
returns-in-Looped c = record { small = subst IsSmallNode (sym c.in-Looped.is) (c.word-in-Looped.ensures.small, c.word-in-Looped-2.ensures.small) }
