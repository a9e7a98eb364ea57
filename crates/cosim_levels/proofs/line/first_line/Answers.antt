use Rattle.std.proofs.Common.{sym}
use Rattle.cosim_levels.proofs.TextLines.{lines-ended, lines-last}
use Rattle.cosim_levels.proofs.line.first_line.Goals as goal

pub returns-then-end-bytes-clause-some : goal.returns-then-end-bytes-clause-some
returns-then-end-bytes-clause-some c =
    lines-ended c.args.bytes.now c.without_return.result.now c.line_length-end.result c.line_length-end.ensures.value c.if-end-bytes.true c.without_return.ensures

pub returns-else-end-bytes-clause-some : goal.returns-else-end-bytes-clause-some
returns-else-end-bytes-clause-some c =
    lines-last c.args.bytes.now c.line_length-end.result c.line_length-end.ensures.value c.if-end-bytes.false (sym c.if-is_empty.ensures)
