use Rattle.std.proofs.Common.{◌≡◌, take}
use Rattle.hls_base.proofs.words.Arrays.copy.Given as goal

abbrev pub invariant-loop-row : goal.invariant-loop-row
invariant-loop-row l = l.arrays.items ≡ take l.row-index l.rows
