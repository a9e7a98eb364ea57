use Rattle.std.proofs.Common.{◌≡◌, ◌++◌, map, drop}
use Rattle.cosim_levels.specs.Verdicts.{shown_of}
use Rattle.hls_cli.specs.VerdictLines.{array_lines}
use Rattle.hls_cli.proofs.verdict_lines.push_arrays.Given as goal

abbrev pub invariant-loop-array : goal.invariant-loop-array
invariant-loop-array l = l.lines.items ++ array_lines (map shown_of (drop l.array-index l.arrays)) ≡ l.initial.lines.items ++ array_lines (map shown_of l.arrays)
