-- When the results of operations are read, and from when until when they are to be held.
use Rattle.std.specs.Prelude.{ℕ, suc, ◌+◌, ◌-◌, ◌*◌, ◌/◌, ◌==◌, nat_lt, nat_le, Bool, false, if◌then◌else◌, List, [], ◌∷◌, ◌++◌, map, min, max, slice_get, Option, Some, None, option_to_list}
use Rattle.std.specs.List.{flat_map, list_any, range_with_len}
use Rattle.hls_base.specs.declared.number.NodeId.{NodeId}
use Rattle.ir_core.specs.declared.body.Op.{Op}
use Rattle.ir_core.specs.declared.body.Operand.{Operand}
use Rattle.ir_core.specs.declared.body.Out.{Out}
use Rattle.ir_core.specs.declared.body.Source.{Source}
use Rattle.ir_core.specs.declared.body.Source.TheVariants as source
use Rattle.ir_core.specs.declared.cfg.Block.{Block}
use Rattle.ir_core.specs.declared.cfg.End.{End}
use Rattle.ir_core.specs.declared.cfg.Loop.{Loop}
use Rattle.ir_core.specs.declared.cfg.End.TheVariants as end
use Rattle.ir_core.specs.declared.cfg.Node.{Node}
use Rattle.ir_core.specs.declared.cfg.Node.TheVariants as node
use Rattle.ir_core.specs.Timing.{latency, result_bits}
use Rattle.ir_core.specs.declared.timed.Timed.{Timed}
use Rattle.reg_binding.specs.declared.life.Life.{Life}
use Rattle.reg_binding.specs.declared.life.Read.{Read}

-- ---- what is read when

abbrev pub source_reads : ℕ → Source → List Read
source_reads time (source.Constant word) = []
source_reads time (source.Variable v) = []
source_reads time (source.Result op) = record { op = op.0; time = time } ∷ []

abbrev pub operand_reads : ℕ → Operand → List Read
operand_reads time x = source_reads time x.value

-- an operation reads its guard and its arguments as it starts
abbrev pub op_reads : Op Timed → List Read
op_reads op = flat_map (operand_reads op.stamp.start) (option_to_list op.guard) ++ flat_map (operand_reads op.stamp.start) op.args.items

abbrev pub case_reads : ℕ → Operand × NodeId → List Read
case_reads time c = operand_reads time c.0

abbrev pub end_reads : ℕ → End → List Read
end_reads time (end.Jump next) = []
end_reads time (end.Branch test left right) = operand_reads time test
end_reads time (end.Choose cases other) = flat_map (case_reads time) cases.items
end_reads time (end.Return x) = flat_map (operand_reads time) (option_to_list x)

-- variables that are not live behind the node take nothing over
abbrev pub out_reads : (ℕ → Bool) → ℕ → Out → List Read
out_reads behind time out = if behind out.variable.0 then operand_reads time out.value else []

-- the end and the outs of a block are read in its last cycle
abbrev pub last_cycle_reads : (ℕ → Bool) → Block Timed → List Read
last_cycle_reads behind block =
    if nat_lt 0 block.length then end_reads (block.length - 1) block.end ++ flat_map (out_reads behind (block.length - 1)) block.body.outs.items else []

abbrev pub block_reads : (ℕ → Bool) → Block Timed → List Read
block_reads behind block = flat_map op_reads block.body.ops.items ++ last_cycle_reads behind block

-- ---- the last read

abbrev pub later : Option ℕ → ℕ → ℕ
later None time = time
later (Some before) time = max before time

-- the last of these reads of an operation's result, and of one known before, if there is any
abbrev pub last_from : Option ℕ → List Read → ℕ → Option ℕ
last_from known [] k = known
last_from known (r ∷ rs) k = last_from (if r.op == k then Some (later known r.time) else known) rs k

abbrev pub last_read : List Read → ℕ → Option ℕ
last_read reads k = last_from None reads k

-- ---- lives

-- the cycle from which a result is there
abbrev pub ready : Op Timed → ℕ
ready op = op.stamp.start + latency op.kind op.bits

-- a result is held from the cycle in which it is there up to its last read
abbrev pub block_life : ℕ → Op Timed → Option ℕ → List Life
block_life k op None = []
block_life k op (Some last) =
    if nat_le (ready op) last
    then record { first = ready op; op = k; place = 0; width = result_bits op.kind op.bits; start = ready op; length = last - ready op + 1; entry = 0 } ∷ []
    else []

-- the lives of the results of these operations, of which the first has number k
abbrev pub lives_from : (ℕ → Op Timed → Option ℕ → List Life) → List Read → ℕ → List (Op Timed) → List Life
lives_from lives_of reads k [] = []
lives_from lives_of reads k (op ∷ ops) = lives_of k op (last_read reads k) ++ lives_from lives_of reads (suc k) ops

-- the lives of the results of a block, in the order of its operations
abbrev pub block_lives : (ℕ → Bool) → Block Timed → List Life
block_lives behind block = lives_from block_life (block_reads behind block) 0 block.body.ops.items

-- ---- what the iterations of a loop read when, counted from the beginning of the iteration that makes the value

abbrev pub result_or : Option ℕ → Source → Option ℕ
result_or known (source.Constant word) = known
result_or known (source.Variable v) = known
result_or known (source.Result op) = Some op.0

-- the operation whose result the variable takes over, or the one known before
abbrev pub maker_from : Option ℕ → List Out → ℕ → Option ℕ
maker_from known [] v = known
maker_from known (out ∷ outs) v = maker_from (if out.variable.0 == v then result_or known out.value.value else known) outs v

-- the operation whose result an operand names, of this iteration or an earlier one
abbrev pub source_maker : List Out → Source → Option ℕ
source_maker outs (source.Constant word) = None
source_maker outs (source.Variable v) = maker_from None outs v.0
source_maker outs (source.Result op) = Some op.0

abbrev pub read_of : Option ℕ → ℕ → List Read
read_of None time = []
read_of (Some op) time = record { op = op; time = time } ∷ []

-- a value of some iterations before is read so many intervals later
abbrev pub iteration_reads : List Out → ℕ → ℕ → Operand → List Read
iteration_reads outs ii time x = read_of (source_maker outs x.value) (time + x.distance * ii)

abbrev pub iteration_op_reads : List Out → ℕ → Op Timed → List Read
iteration_op_reads outs ii op =
    flat_map (iteration_reads outs ii op.stamp.start) (option_to_list op.guard) ++ flat_map (iteration_reads outs ii op.stamp.start) op.args.items

abbrev pub ready_in : Option (Op Timed) → ℕ
ready_in None = 0
ready_in (Some op) = ready op

-- the time at which a test is known
abbrev pub known : List (Op Timed) → Source → ℕ
known ops (source.Constant word) = 0
known ops (source.Variable v) = 0
known ops (source.Result op) = ready_in (slice_get ops op.0)

-- the test is read as soon as it is known
abbrev pub test_reads : Loop Timed → Operand → List Read
test_reads region test = iteration_reads region.body.outs.items region.ii (known region.body.ops.items test.value) test

abbrev pub left_reads : (ℕ → Bool) → List Out → ℕ → ℕ → Out → List Read
left_reads behind outs ii time out = if behind out.variable.0 then iteration_reads outs ii time out.value else []

-- the values of variables that are live behind the loop are read as it is left
abbrev pub loop_reads : (ℕ → Bool) → Loop Timed → List Read
loop_reads behind region =
    flat_map (iteration_op_reads region.body.outs.items region.ii) region.body.ops.items ++ flat_map (test_reads region) (option_to_list region.body.test)
    ++ flat_map (left_reads behind region.body.outs.items region.ii (region.ii + region.exit)) region.body.outs.items

-- ---- the lives of the results of a loop, in each place of their chains

-- so many cycles after an iteration the next one begins
abbrev pub period : Loop Timed → ℕ
period region = max 1 region.ii

abbrev pub is_result : ℕ → Source → Bool
is_result k (source.Constant word) = false
is_result k (source.Variable v) = false
is_result k (source.Result op) = op.0 == k

-- a variable takes over the result of this operation
abbrev pub is_taken_over : List Out → ℕ → Bool
is_taken_over outs k = list_any (λ out. is_result k out.value.value) outs

-- A result is in place 0 as it is there, and one period later in each further place; it is held there for a period, or up to its last read.
abbrev pub place_life : ℕ → ℕ → Op Timed → ℕ → ℕ → Life
place_life period k op last place = record {
  first = ready op + place * period;
  op = k;
  place = place;
  width = result_bits op.kind op.bits;
  start = ready op + place * period;
  length = min period (last - (ready op + place * period) + 1);
  entry = 0;
}

-- The value that a variable has at entry is that of the iteration before the first one. It is in place 0 from the first cycle on.
abbrev pub with_entry : ℕ → Life → Life
with_entry period life =
    if life.place == 0
    then record life { first = 0; entry = max 1 (life.start + life.length - period) }
    else record life { first = life.start - period; start = life.start - period }

abbrev pub chain_life : List Out → ℕ → ℕ → Op Timed → ℕ → ℕ → Life
chain_life outs period k op last place = if is_taken_over outs k then with_entry period (place_life period k op last place) else place_life period k op last place

-- the places through which a result passes up to its last read
abbrev pub chain_lives : List Out → ℕ → ℕ → Op Timed → Option ℕ → List Life
chain_lives outs period k op None = []
chain_lives outs period k op (Some last) =
    if nat_le (ready op) last then map (chain_life outs period k op last) (range_with_len 0 ((last - ready op) / period + 1)) else []

-- the lives of the results of a loop, in the order of its operations
abbrev pub loop_lives : (ℕ → Bool) → Loop Timed → List Life
loop_lives behind region = lives_from (chain_lives region.body.outs.items (period region)) (loop_reads behind region) 0 region.body.ops.items

-- ---- nodes

abbrev pub node_lives : (ℕ → Bool) → Node Timed → List Life
node_lives behind (node.Plain block) = block_lives behind block
node_lives behind (node.Looped region) = loop_lives behind region

-- where the cycles of a node come again, and after how many
abbrev pub node_period : Node Timed → Option ℕ
node_period (node.Plain block) = None
node_period (node.Looped region) = Some (period region)
