-- What is judged of the times of blocks and loops.
use Rattle.std.specs.Prelude.{ℕ, ◌+◌, nat_lt, nat_le, Bool, true, not, ◌&&◌, ◌||◌, List, Option, Some, None}
use Rattle.std.specs.List.{list_all}
use Rattle.ir_core.specs.declared.body.Op.{Op}
use Rattle.ir_core.specs.declared.body.Operand.{Operand}
use Rattle.ir_core.specs.declared.body.Out.{Out}
use Rattle.ir_core.specs.declared.cfg.Block.{Block}
use Rattle.ir_core.specs.declared.cfg.End.{End}
use Rattle.ir_core.specs.declared.cfg.End.TheVariants as e
use Rattle.ir_core.specs.declared.cfg.Loop.{Loop}
use Rattle.ir_core.specs.declared.cfg.Memory.{Memory}
use Rattle.ir_core.specs.declared.cfg.Node.{Node}
use Rattle.ir_core.specs.declared.cfg.Node.TheVariants as node
use Rattle.ir_core.specs.Timing.{latency}
use Rattle.ir_core.specs.declared.timed.Timed.{Timed}
use Rattle.dep_graph.specs.Offsets.{result_of}
use Rattle.dep_graph.specs.Meetings.{is_store}
use Rattle.dep_graph.specs.Dependences.{test_maker}
use Rattle.modulo_loop.specs.Rules.{known_first}
use Rattle.program_validity.specs.Checks.{op_at, body_in_time}

-- the cycle from which the value of an operation is there
abbrev pub ready : Op Timed → ℕ
ready op = op.stamp.start + latency op.kind op.bits

abbrev pub is_ready_by : ℕ → Option (Op Timed) → Bool
is_ready_by time None = true
is_ready_by time (Some op) = nat_le (ready op) time

abbrev pub is_ready_before : ℕ → Option (Op Timed) → Bool
is_ready_before time None = true
is_ready_before time (Some op) = nat_lt (ready op) time

-- what an operand names is there one cycle before the block of this length ends
abbrev pub is_there : List (Op Timed) → ℕ → Operand → Bool
is_there ops len x = is_ready_before len (op_at ops (result_of x.value))

abbrev pub end_in_time : List (Op Timed) → ℕ → End → Bool
end_in_time ops len (e.Jump next) = true
end_in_time ops len (e.Branch test left right) = is_there ops len test
end_in_time ops len (e.Choose cases other) = list_all (λ c. is_there ops len c.0) cases.items
end_in_time ops len (e.Return None) = true
end_in_time ops len (e.Return (Some value)) = is_there ops len value

abbrev pub block_in_time : List Memory → Block Timed → Bool
block_in_time memories block =
    nat_le 1 block.length
    && (body_in_time None memories block.body
    && (list_all (λ op. is_ready_by block.length (Some op)) block.body.ops.items && end_in_time block.body.ops.items block.length block.end))

-- no store changes its word at this time or later
abbrev pub is_stored_before : ℕ → Op Timed → Bool
is_stored_before time op = not (is_store op.kind) || nat_lt op.stamp.start time

abbrev pub is_out_ready : List (Op Timed) → ℕ → Out → Bool
is_out_ready ops time out = is_ready_by time (op_at ops (result_of out.value.value))

-- the loop can be left at its exit
abbrev pub exit_in_time : Loop Timed → Bool
exit_in_time region =
    is_ready_by region.exit (op_at region.body.ops.items (test_maker region.body.test))
    && (list_all (is_stored_before (region.exit + region.ii)) region.body.ops.items && list_all (is_out_ready region.body.ops.items (region.exit + region.ii)) region.body.outs.items)

abbrev pub loop_in_time : List Memory → Loop Timed → Bool
loop_in_time memories region =
    nat_le 1 region.ii
    && (body_in_time (Some region.ii) memories region.body
    && (is_ready_by region.ii (op_at region.body.ops.items (known_first region.body.outs.items region.body.test)) && exit_in_time region))

-- ---- programs

abbrev pub node_in_time : List Memory → Node Timed → Bool
node_in_time memories (node.Plain block) = block_in_time memories block
node_in_time memories (node.Looped region) = loop_in_time memories region
