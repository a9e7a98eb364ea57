use Rattle.c_elaborate.proofs.ElaborateRuns.Grammar.{grammar_blocks}
use Rattle.c_elaborate.proofs.elaborate_runs.grammar_declares_in_blocks.Goals as goal

pub returns : goal.returns
returns c = grammar_blocks
