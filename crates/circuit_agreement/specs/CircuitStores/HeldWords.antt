-- The words that a circuit shows.
use Rattle.std.specs.Prelude.{[]}
use Rattle.ir_core.specs.Bodies.{Words}
use Rattle.datapath.specs.Plans.{Plan, array_at}
use Rattle.datapath.specs.Cycles.{Variable, Contents, in_cycle}
use Rattle.datapath.specs.Ports.{word_of}

-- what the variables and the arrays hold; a table has its constants
abbrev pub words_in : Plan → Contents → Words
words_in p x = record {
  variables = λ v. x.regs (Variable v);
  memories = λ a address. word_of (in_cycle x (λ signal. 0) []) a (array_at p a) address;
}
