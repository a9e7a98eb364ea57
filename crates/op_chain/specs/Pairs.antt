-- When two operations of a body are a fusable pair.
use Rattle.std.specs.Prelude.{ℕ, ◌+◌, ◌==◌, ◌&&◌, not, nat_le, Bool, false, List, slice_get, Option, Some, None, is_none}
use Rattle.std.specs.List.{list_any}
use Rattle.ir_core.specs.declared.body.OpKind.{OpKind}
use Rattle.ir_core.specs.declared.body.OpKind.TheVariants as o
use Rattle.ir_core.specs.declared.body.Operand.{Operand}
use Rattle.ir_core.specs.declared.body.Simple.{Simple}
use Rattle.ir_core.specs.declared.body.Simple.TheVariants as s
use Rattle.ir_core.specs.Bodies.{OpTree}
use Rattle.ir_layout.specs.Nodes.{NodeTree}
use Rattle.op_chain.specs.Reads.{node_operands, is_result, is_result_now, reads}
use Rattle.op_chain.specs.Subscripts.{body_in, body_hands}

-- the operator of a kind that may be fused
abbrev pub simple_of : OpKind → Option Simple
simple_of o.Add = Some s.Add
simple_of o.Sub = Some s.Sub
simple_of o.And = Some s.And
simple_of o.Or = Some s.Or
simple_of o.Xor = Some s.Xor
simple_of kind = None

abbrev pub delay : Simple → ℕ → ℕ
delay s.Add bits = bits
delay s.Sub bits = bits
delay operator bits = 1

-- both operators exist, and the sum of their delays is at most the period
abbrev pub fit : ℕ → ℕ → Option Simple → Option Simple → Bool
fit period bits (Some first) (Some second) = nat_le (delay first bits + delay second bits) period
fit period bits (Some first) None = false
fit period bits None second = false

-- what the pairs of a body depend on: the period, the operands that the node reads, and those that reach a subscript
pub record Scope : Type 0 where
  pub period : ℕ
  pub operands : List Operand
  pub handed : List Operand

-- kinds, widths, guards and delays allow it
abbrev pub are_alike : ℕ → OpTree → OpTree → Bool
are_alike period one two =
    (one.bits == two.bits) && ((is_none one.guard && is_none two.guard) && fit period two.bits (simple_of one.kind) (simple_of two.kind))

-- Only this operation reads the result of operation u: once, and in the same iteration.
abbrev pub is_read_by : List Operand → ℕ → OpTree → Bool
is_read_by operands u two = (reads u operands == 1) && list_any (is_result_now u) two.args

abbrev pub reaches_none : List Operand → ℕ → Bool
reaches_none handed u = not (list_any (is_result u) handed)

-- the operations of numbers u and v are a fusable pair
abbrev pub is_pair : Scope → ℕ → OpTree → ℕ → OpTree → Bool
is_pair scope u one v two =
    are_alike scope.period one two && (is_read_by scope.operands u two && (reaches_none scope.handed u && reaches_none scope.handed v))

abbrev pub is_pair_if : Scope → ℕ → Option OpTree → ℕ → Option OpTree → Bool
is_pair_if scope u (Some one) v (Some two) = is_pair scope u one v two
is_pair_if scope u (Some one) v None = false
is_pair_if scope u None v two = false

-- the scope of a node's body if these variables reach a subscript
abbrev pub scope_of : ℕ → List Bool → NodeTree → Scope
scope_of period reaching node = record { period = period; operands = node_operands node; handed = body_hands reaching (body_in node) }

-- The operations u and v of a node's body are a fusable pair.
abbrev pub is_fusable : ℕ → List Bool → NodeTree → ℕ → ℕ → Bool
is_fusable period reaching node u v =
    is_pair_if (scope_of period reaching node) u (slice_get (body_in node).ops u) v (slice_get (body_in node).ops v)
