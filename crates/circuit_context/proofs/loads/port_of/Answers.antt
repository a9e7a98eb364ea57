use Rattle.std.proofs.Common.{◌∙◌, sym}
use Rattle.circuit_context.proofs.Loading.{counted_more}
use Rattle.circuit_context.proofs.loads.port_of.Goals as goal

pub returns-clause-counts : goal.returns-clause-counts
returns-clause-counts c = λ before counts m. counted_more c.args.span before c.args.op.now c.in-Some.array c.args.loads.now c.note_if.new.loads m (sym c.accessed.ensures ∙ c.in-Some.is) counts (c.in_ok-note_if.ensures m)
