use Rattle.std.proofs.Common.{take}
use Rattle.std.specs.List.{All}
use Rattle.verilog_syntax.specs.Parsing.{FitsSome, IsReached, tokens_in}
use Rattle.verilog_syntax.proofs.parser.find_form.Given as goal

abbrev pub invariant-loop-form : goal.invariant-loop-form
invariant-loop-form l = All (FitsSome (tokens_in l.tokens) l.longest) (take l.form-index l.forms) × IsReached (tokens_in l.tokens) l.longest l.forms
