-- What a circuit leaves out, by the variables that are live.
use Rattle.std.specs.Prelude.{ℕ, ◌==◌, ◌&&◌, ◌||◌, not, Bool, true, false, List, [], ◌∷◌, slice_get, Option, Some, None, is_some}
use Rattle.std.specs.List.{list_any, list_all}
use Rattle.hls_base.specs.declared.number.NodeId.{NodeId}
use Rattle.ir_core.specs.declared.body.OpKind.{OpKind}
use Rattle.ir_core.specs.declared.body.OpKind.TheVariants as o
use Rattle.ir_core.specs.declared.body.Operand.{Operand}
use Rattle.ir_core.specs.declared.body.Source.{Source}
use Rattle.ir_core.specs.declared.body.Source.TheVariants as source
use Rattle.ir_core.specs.declared.cfg.Cfg.{Cfg}
use Rattle.ir_core.specs.declared.cfg.End.{End}
use Rattle.ir_core.specs.declared.cfg.End.TheVariants as end
use Rattle.ir_core.specs.declared.cfg.Node.{Node}
use Rattle.ir_core.specs.declared.timed.Timed.{Timed}
use Rattle.passes.specs.Numbering.Equal.{operand_eq}
use Rattle.reg_binding.specs.declared.live.Live.{Live}
use Rattle.reg_binding.specs.Liveness.{is_among, goes_by, is_behind, summary_of}
use Rattle.clock_ir.specs.Flows.{TimedOp, TimedBody}
use Rattle.clock_ir.specs.ClockRuns.{TimedNode, block, overlapped, timed_program}
use Rattle.datapath.specs.Plans.{Savings}

-- ---- variables

-- the variable is live behind the node
abbrev pub behind_if : Live → Option (Node Timed) → ℕ → Bool
behind_if live None v = false
behind_if live (Some node) v = is_behind live (summary_of node) v

-- A node reads the variable: in any case, or what goes into a variable that is live behind it.
abbrev pub is_read_in : Live → ℕ → Node Timed → Bool
is_read_in live v node = is_among v (summary_of node).reads || list_any (goes_by (is_behind live (summary_of node)) v) (summary_of node).outs

-- Some node reads the variable, or it stays for the next run.
abbrev pub is_read : Cfg Timed → Live → ℕ → Bool
is_read timed live v = list_any (is_read_in live v) timed.nodes.items || list_any (λ k. k.variable.0 == v) timed.frame.kept.items

-- ---- cases

-- what is compared with a number, and the number
abbrev pub with_number : Operand → Source → Option (Operand × ℕ)
with_number x (source.Constant number) = Some (x, number)
with_number x other = None

abbrev pub arguments_compared : List Operand → Option (Operand × ℕ)
arguments_compared (x ∷ y ∷ []) = with_number x y.value
arguments_compared args = None

abbrev pub compared_by : OpKind → List Operand → Option (Operand × ℕ)
compared_by o.Eq args = arguments_compared args
compared_by kind args = None

abbrev pub compared_if : Option TimedOp → Option (Operand × ℕ)
compared_if None = None
compared_if (Some it) = compared_by it.op.kind it.op.args

abbrev pub compared_in : TimedBody → Source → Option (Operand × ℕ)
compared_in body (source.Result op) = compared_if (slice_get body.ops op.0)
compared_in body other = None

abbrev pub compared : TimedBody → Operand × NodeId → Option (Operand × ℕ)
compared body case = compared_in body case.0.value

abbrev pub differ_as : Option (Operand × ℕ) → Option (Operand × ℕ) → Bool
differ_as (Some one) (Some other) = operand_eq one.0 other.0 && not (one.1 == other.1)
differ_as one other = false

-- two cases compare the same with different numbers
abbrev pub differ : TimedBody → Operand × NodeId → Operand × NodeId → Bool
differ body one other = differ_as (compared body one) (compared body other)

-- all cases compare the same with numbers, no two with one number
abbrev pub all_differ : TimedBody → List (Operand × NodeId) → Bool
all_differ body [] = true
all_differ body (case ∷ cases) = is_some (compared body case) && (list_all (differ body case) cases && all_differ body cases)

abbrev pub ends_exclusive : TimedBody → End → Bool
ends_exclusive body (end.Choose cases other) = all_differ body cases.items
ends_exclusive body other = false

abbrev pub is_exclusive : Option TimedNode → Bool
is_exclusive None = false
is_exclusive (Some (block body end_)) = ends_exclusive body end_
is_exclusive (Some (overlapped body exit next)) = false

-- ---- programs

-- what the circuit of a program leaves out where these variables are live
abbrev pub savings_of : Cfg Timed → Live → Savings
savings_of timed live = record {
  behind = λ i v. behind_if live (slice_get timed.nodes.items i) v;
  read = is_read timed live;
  exclusive = λ i. is_exclusive (slice_get (timed_program timed).nodes i);
}
