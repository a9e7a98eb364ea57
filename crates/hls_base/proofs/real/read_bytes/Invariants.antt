use Rattle.std.proofs.Common.{◌≡◌, ◌+◌, vec_len}
use Rattle.hls_base.proofs.real.read_bytes.Given as goal

abbrev pub invariant-loop-left : goal.invariant-loop-left
invariant-loop-left g l = vec_len l.bytes + l.left ≡ l.most

abbrev pub decreases-loop-left : goal.decreases-loop-left
decreases-loop-left g l = l.left
