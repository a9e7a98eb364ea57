use Rattle.c_tree.specs.Terminals.{terminals}
use Rattle.c_tree.specs.Refusal.{IsFaultOf}
use Rattle.c_parser.proofs.Passed.{passed_on}
use Rattle.c_parser.proofs.parse.Goals as goal

pub returns-in_err-find_fault-clause-refused : goal.returns-in_err-find_fault-clause-refused
returns-in_err-find_fault-clause-refused c =
    passed_on (Unit {0}) _ c.in_err-find_fault.field-0.0 (IsFaultOf (terminals c.args.tokens.now) c.args.end) c.from_residual.ensures.1 (λ y e. e) c.in_err-find_fault.ensures.refused
