-- Validity asked of trees: what is valid of a program, in the same words, asked of its nodes without where they lie in memory.
use Rattle.std.specs.Prelude.{ℕ, ◌+◌, ◌^◌, ◌==◌, ◌&&◌, ◌||◌, not, nat_lt, Bool, true, false, List, [], ◌∷◌, ◌++◌, length, take, slice_get, Option, Some, None, is_some, is_none, if◌then◌else◌}
use Rattle.std.specs.List.{list_all, list_any, count_by}
use Rattle.std.specs.Option.{option_map}
use Rattle.hls_base.specs.declared.point.Point.{Point}
use Rattle.ir_core.specs.declared.body.OpKind.{OpKind}
use Rattle.ir_core.specs.declared.body.OpKind.TheVariants as o
use Rattle.ir_core.specs.declared.body.Operand.{Operand}
use Rattle.ir_core.specs.declared.body.Out.{Out}
use Rattle.ir_core.specs.declared.body.Source.{Source}
use Rattle.ir_core.specs.declared.body.Source.TheVariants as source
use Rattle.ir_core.specs.declared.cfg.Frame.{Frame}
use Rattle.ir_core.specs.declared.cfg.Memory.{Memory}
use Rattle.ir_core.specs.Bodies.{OpTree}
use Rattle.ir_core.specs.Timing.{result_bits}
use Rattle.ir_core.specs.TreeRuns.{tested}
use Rattle.ir_core.specs.Trees.{BodyTree}
use Rattle.ir_layout.specs.Nodes.{EndTree, jumps, branches, chooses, returns, NodeTree, plain, looped}
use Rattle.dep_graph.specs.Meetings.{is_store}
use Rattle.program_validity.specs.Widths.{is_word}
use Rattle.program_validity.specs.Frames.{is_frame}
use Rattle.program_validity.specs.Operands.{is_at, is_exactly, is_any_width}
use Rattle.program_validity.specs.Operations.{may_be_undefined, is_width_of, converts, memory_of}
use Rattle.program_validity.specs.Bodies.{is_result_out, name_different}
use Rattle.program_validity.specs.Targets.{is_end_of}

-- ---- operands, behind these operations

module _ (widths : List ℕ) (carried : List Out) (before : List OpTree) where
  abbrev pub width_at : Source → Option ℕ
  width_at (source.Constant c) = None
  width_at (source.Variable v) = slice_get widths v.0
  width_at (source.Result j) = option_map (λ (t : OpTree). result_bits t.kind t.bits) (slice_get before j.0)

  abbrev pub bits_fit : ℕ → Source → Bool
  bits_fit bits (source.Constant c) = is_word bits c
  bits_fit bits s = is_exactly bits (width_at s)

  abbrev pub operand_fits : ℕ → Operand → Bool
  operand_fits bits x = bits_fit bits x.value && is_at carried x.value x.distance

  abbrev pub operand_if_fits : ℕ → Option Operand → Bool
  operand_if_fits bits None = true
  operand_if_fits bits (Some x) = operand_fits bits x

  abbrev pub subscript_as_fits : Source → ℕ → Bool
  subscript_as_fits (source.Constant c) distance = true
  subscript_as_fits s distance = is_any_width (width_at s) && is_at carried s distance

  abbrev pub subscript_fits : Operand → Bool
  subscript_fits x = subscript_as_fits x.value x.distance

  -- ---- arguments

  abbrev pub one_fits : ℕ → List Operand → Bool
  one_fits bits (x ∷ []) = operand_fits bits x
  one_fits bits _ = false

  abbrev pub two_fit : ℕ → List Operand → Bool
  two_fit bits (x ∷ y ∷ []) = operand_fits bits x && operand_fits bits y
  two_fit bits _ = false

  abbrev pub three_fit : ℕ → ℕ → List Operand → Bool
  three_fit first bits (x ∷ y ∷ z ∷ []) = operand_fits first x && (operand_fits bits y && operand_fits bits z)
  three_fit first bits _ = false

  abbrev pub converted_fits : OpKind → ℕ → List Operand → Bool
  converted_fits kind bits (x ∷ []) = converts kind bits (width_at x.value) && is_at carried x.value x.distance
  converted_fits kind bits _ = false

  abbrev pub arguments_fit : OpKind → ℕ → List Operand → Bool
  arguments_fit o.Not bits args = one_fits bits args
  arguments_fit o.Neg bits args = one_fits bits args
  arguments_fit o.Copy bits args = one_fits bits args
  arguments_fit o.Widen bits args = converted_fits o.Widen bits args
  arguments_fit o.Narrow bits args = converted_fits o.Narrow bits args
  arguments_fit o.Truth bits args = converted_fits o.Truth bits args
  arguments_fit o.Select bits args = three_fit 1 bits args
  arguments_fit (o.Fused pairing) bits args = three_fit bits bits args
  arguments_fit kind bits args = two_fit bits args

  -- ---- accesses

  abbrev pub load_fits : OpTree → Memory → Bool
  load_fits op m = (m.bits == op.bits) && ((length op.args == length m.dims.items) && list_all subscript_fits op.args)

  abbrev pub stored_fits : ℕ → Option Operand → Bool
  stored_fits bits None = false
  stored_fits bits (Some x) = operand_fits bits x

  abbrev pub store_fits : OpTree → Memory → Bool
  store_fits op m =
      ((m.bits == op.bits) && (is_none m.table && (length op.args == length m.dims.items + 1)))
      && (list_all subscript_fits (take (length m.dims.items) op.args) && stored_fits op.bits (slice_get op.args (length m.dims.items)))

  abbrev pub access_fits : OpTree → Option Memory → Bool
  access_fits op None = false
  access_fits op (Some m) = if is_store op.kind then store_fits op m else load_fits op m

-- ---- operations and outs

abbrev pub is_flagged : OpTree → Bool
is_flagged op = if may_be_undefined op.kind op.signed then is_some op.flag else is_none op.flag

module _ (f : Frame) (carried : List Out) where
  abbrev pub acts_fit : List OpTree → OpTree → OpKind → Bool
  acts_fit before op o.Load = access_fits f.variables.items carried before op (memory_of f.memories.items op.array)
  acts_fit before op o.Store = access_fits f.variables.items carried before op (memory_of f.memories.items op.array)
  acts_fit before op kind = is_none op.array && arguments_fit f.variables.items carried before kind op.bits op.args

  abbrev pub operation_fits : List OpTree → OpTree → Bool
  operation_fits before op =
      (is_width_of op.kind op.bits && is_flagged op) && (operand_if_fits f.variables.items carried before 1 op.guard && acts_fit before op op.kind)

  abbrev pub operations_fit : List OpTree → List OpTree → Bool
  operations_fit before [] = true
  operations_fit before (op ∷ ops) = operation_fits before op && operations_fit (before ++ op ∷ []) ops

  abbrev pub set_fits : List OpTree → Out → Option ℕ → Bool
  set_fits ops out None = false
  set_fits ops out (Some bits) = operand_fits f.variables.items carried ops bits out.value

  abbrev pub out_fits : List OpTree → Out → Bool
  out_fits ops out = set_fits ops out (slice_get f.variables.items out.variable.0)

  abbrev pub body_fits : BodyTree → Bool
  body_fits b = nat_lt (length b.ops) (2 ^ 32) && (operations_fit [] b.ops && list_all (out_fits b.ops) b.outs)

-- ---- bodies

abbrev pub stores_none : OpTree → Bool
stores_none op = not (is_store op.kind)

abbrev pub stores_wait : BodyTree → Bool
stores_wait b = list_all stores_none (take (tested b.test) b.ops)

module _ (f : Frame) where
  abbrev pub block_body_fits : BodyTree → Bool
  block_body_fits b = is_none b.test && body_fits f [] b

  abbrev pub loop_body_fits : BodyTree → Bool
  loop_body_fits b =
      (body_fits f b.outs b && operand_if_fits f.variables.items b.outs b.ops 1 b.test)
      && ((list_all is_result_out b.outs && name_different b.outs) && stores_wait b)

  -- ---- nodes

  abbrev pub test_fits : List OpTree → Operand → Bool
  test_fits ops x = operand_fits f.variables.items [] ops 1 x

  abbrev pub case_fits : List OpTree → ℕ → Operand × ℕ → Bool
  case_fits ops count c = test_fits ops c.0 && nat_lt c.1 count

  abbrev pub end_fits : List OpTree → ℕ → EndTree → Bool
  end_fits ops count (jumps next) = nat_lt next count
  end_fits ops count (branches test left right) = test_fits ops test && (nat_lt left count && nat_lt right count)
  end_fits ops count (chooses cases other) = list_all (case_fits ops count) cases && nat_lt other count
  end_fits ops count (returns None) = f.ret == 0
  end_fits ops count (returns (Some x)) = nat_lt 0 f.ret && operand_fits f.variables.items [] ops f.ret x

  abbrev pub node_fits : ℕ → NodeTree → Bool
  node_fits count (plain point body end_) = block_body_fits body && end_fits body.ops count end_
  node_fits count (looped point body next) = loop_body_fits body && nat_lt next count

-- ---- where control goes behind loops

abbrev pub end_leads : ℕ → EndTree → Bool
end_leads n (jumps next) = next == n
end_leads n (branches test left right) = (left == n) || (right == n)
end_leads n (chooses cases other) = (other == n) || list_any (λ (c : Operand × ℕ). c.1 == n) cases
end_leads n (returns value) = false

abbrev pub node_leads : ℕ → NodeTree → Bool
node_leads n (plain point body end_) = end_leads n end_
node_leads n (looped point body next) = next == n

abbrev pub is_block_at_end : Point → Option NodeTree → Bool
is_block_at_end p None = false
is_block_at_end p (Some (plain point body end_)) = is_end_of point p
is_block_at_end p (Some (looped point body next)) = false

abbrev pub is_left : ℕ → List NodeTree → Point → ℕ → Bool
is_left first nodes point next =
    is_block_at_end point (slice_get nodes next) && (not (first == next) && (count_by (node_leads next) nodes == 1))

abbrev pub is_left_if : ℕ → List NodeTree → NodeTree → Bool
is_left_if first nodes (plain point body end_) = true
is_left_if first nodes (looped point body next) = is_left first nodes point next

-- ---- programs

-- a program with this frame, this first node and these nodes
abbrev pub program_fits : Frame → ℕ → List NodeTree → Bool
program_fits f first nodes =
    ((nat_lt (length nodes) (2 ^ 32) && is_frame f) && (nat_lt first (length nodes) && list_all (node_fits f (length nodes)) nodes))
    && list_all (is_left_if first nodes) nodes
