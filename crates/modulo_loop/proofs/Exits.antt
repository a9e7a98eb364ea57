-- What is there stays there.
use Rattle.std.proofs.Common.{ℕ, ◌≤◌, List, Option, None, Some, arith}
use Rattle.ir_core.specs.declared.body.Op.{Op}
use Rattle.ir_core.specs.declared.stamp.Untimed.{Untimed}
use Rattle.hls_base.specs.declared.number.OpId.{OpId}
use Rattle.modulo_loop.specs.Lowest.{IsReadyBy}

pub ready_later : (ops : List (Op Untimed)) (times : List ℕ) (made : Option OpId) (a b : ℕ) → a ≤ b → IsReadyBy a ops times made → IsReadyBy b ops times made
ready_later ops times None a b h r = tt
ready_later ops times (Some op) a b h r = omega (arith, r)
