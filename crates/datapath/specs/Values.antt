-- What the registers of results, the variables and the result of a run take, and when.
use Rattle.std.specs.Prelude.{ℕ, zero, suc, ◌+◌, ◌-◌, ◌*◌, ◌==◌, ◌&&◌, nat_lt, nat_le, Bool, not, List, [], ◌∷◌, ◌++◌, map, filter, flat_map, count_by, slice_get, slice_index, Option, Some, None, if◌then◌else◌}
use Rattle.std.specs.List.{enumerate_from}
use Rattle.hls_base.specs.declared.number.ArrayId.{ArrayId}
use Rattle.hls_base.specs.declared.number.Kept.{Kept}
use Rattle.hls_base.specs.declared.number.VarId.{VarId}
use Rattle.ir_core.specs.declared.body.OpKind.{OpKind}
use Rattle.ir_core.specs.declared.body.OpKind.TheVariants as o
use Rattle.ir_core.specs.declared.body.Operand.{Operand}
use Rattle.ir_core.specs.declared.body.Out.{Out}
use Rattle.ir_core.specs.declared.body.Source.{Source}
use Rattle.ir_core.specs.declared.body.Source.TheVariants as source
use Rattle.ir_core.specs.declared.cfg.End.TheVariants as end
use Rattle.ir_core.specs.Value.{value}
use Rattle.reg_binding.specs.declared.registers.Held.{Held}
use Rattle.ir_core.specs.Bodies.{first_bits}
use Rattle.clock_ir.specs.Flows.{TimedOp, ready, is_result}
use Rattle.clock_ir.specs.ClockRuns.{TimedNode, block, overlapped, later}
use Rattle.datapath.specs.Plans.{Plan, Placed, body_at, span, numbered, unit_of}
use Rattle.datapath.specs.Cycles.{Initial, Load, Variable, Word, Cycle, holds}
use Rattle.rtl_logic.specs.Choosing.{Write, where_}
use Rattle.datapath.specs.Reading.{at, at_iteration, result_at, operand, arguments}
use Rattle.datapath.specs.Control.{is_taken, is_loop, leaves_as}
use Rattle.datapath.specs.Units.{product, quotient, remainder}
use Rattle.datapath.specs.Ports.{port_of}

-- ---- results

abbrev pub word_read : Plan → Cycle → Placed → Option ArrayId → ℕ
word_read p c x None = 0
word_read p c x (Some array) = c.regs (Word array.0 (port_of p array.0 x))

-- the patterns of the arguments, as an operation makes one of them
abbrev pub computed : Plan → Cycle → Placed → ℕ
computed p c x =
    value x.op.op.kind x.op.op.signed x.op.op.bits (first_bits p.program.shapes.widths (map (λ (o : TimedOp). o.op) (body_at p x.node).ops) x.op.op x.op.op.args)
    (arguments p c x)

abbrev pub arriving_as : OpKind → Plan → Cycle → Placed → ℕ
arriving_as o.Mul p c x = product c x.op.op.bits (unit_of p x)
arriving_as o.Div p c x = quotient p c x.op.op.bits (unit_of p x)
arriving_as o.Rem p c x = remainder p c x.op.op.bits (unit_of p x)
arriving_as o.Load p c x = word_read p c x x.op.op.array
arriving_as o.Store p c x = 0
arriving_as kind p c x = computed p c x

abbrev pub arriving_of : Plan → Cycle → ℕ → ℕ → Option TimedOp → ℕ
arriving_of p c i k None = 0
arriving_of p c i k (Some o) = arriving_as o.op.kind p c (record { node = i; number = k; op = o })

-- the result of operation k of a node, in the cycle before it is there
abbrev pub arriving : Plan → Cycle → ℕ → ℕ → ℕ
arriving p c i k = arriving_of p c i k (slice_get (body_at p i).ops k)

-- ---- registers for results

-- the variable whose next value an operation makes, if it is read
abbrev pub entry_in : Plan → List Out → ℕ → Option ℕ
entry_in p [] k = None
entry_in p (x ∷ xs) k = if is_result k x.value.value then (if p.savings.read x.variable.0 then Some x.variable.0 else None) else entry_in p xs k

abbrev pub entry_of : Plan → Held → Option ℕ
entry_of p h = if is_loop (slice_get p.program.nodes h.node.0) then entry_in p (body_at p h.node.0).outs h.op.0 else None

-- in this node the register holds nothing else
abbrev pub is_alone : Plan → Held → Bool
is_alone p h = nat_le (count_by (λ (g : Held). (g.node.0 == h.node.0) && (g.register == h.register)) p.held) 1

-- the cycle before the result of the operation is there
abbrev pub arrival : Plan → Held → ℕ
arrival p h = ready (body_at p h.node.0) h.op - 1

-- One iteration has this place later than another, and one iteration sooner where the first value is the variable's.
abbrev pub place_arrival : Plan → Held → ℕ → ℕ
place_arrival p h entries = arrival p h + (h.place - entries) * (body_at p h.node.0).interval

-- A place takes what the one before it has, once for each iteration. It takes real values alone where something else would be lost: a value of another place, or what the variable has at entry.
abbrev pub moves : Plan → Cycle → Held → Option ℕ → Bool
moves p c h None = if is_alone p h then at p c h.node.0 (arrival p h) else at_iteration p c h.node.0 (place_arrival p h 0)
moves p c h (Some v) = if is_alone p h && not (h.place == 0) then at p c h.node.0 (arrival p h) else at_iteration p c h.node.0 (place_arrival p h 1)

abbrev pub entry_writes : Cycle → Held → Option ℕ → List Write
entry_writes c h None = []
entry_writes c h (Some v) = if h.place == 0 then where_ (holds c (Load h.node.0)) (c.regs (Variable v)) ∷ [] else []

abbrev pub moved : Plan → Cycle → Held → ℕ → ℕ
moved p c h zero = arriving p c h.node.0 h.op.0
moved p c h (suc j) = result_at p c h.node.0 h.op.0 j

abbrev pub block_writes : Plan → Cycle → Held → List Write
block_writes p c h = where_ (at p c h.node.0 (arrival p h)) (arriving p c h.node.0 h.op.0) ∷ []

abbrev pub loop_writes : Plan → Cycle → Held → List Write
loop_writes p c h = entry_writes c h (entry_of p h) ++ where_ (moves p c h (entry_of p h)) (moved p c h h.place) ∷ []

abbrev pub held_writes : Plan → Cycle → Held → List Write
held_writes p c h = if is_loop (slice_get p.program.nodes h.node.0) then loop_writes p c h else block_writes p c h

abbrev pub value_writes : Plan → Cycle → ℕ → List Write
value_writes p c k = flat_map (held_writes p c) (filter (λ (h : Held). h.register == k) p.held)

-- ---- variables

abbrev pub argument_writes : Plan → Cycle → ℕ → List Write
argument_writes p c v =
    map (λ (x : ℕ × VarId). where_ (is_taken c) (slice_index c.pins (7 + x.0))) (filter (λ (x : ℕ × VarId). x.1.0 == v) (enumerate_from 0 p.parameters))

abbrev pub kept_writes : Plan → Cycle → ℕ → List Write
kept_writes p c v = map (λ (x : Kept). where_ (holds c Initial) x.value) (filter (λ (x : Kept). x.variable.0 == v) p.kept)

-- the value of a result that has only just come
abbrev pub last_value : Plan → Cycle → ℕ → Operand → Source → ℕ
last_value p c i x (source.Result op) = if nat_lt (span p i - 1) (ready (body_at p i) op) then arriving p c i op.0 else operand p c i (span p i - 1) x
last_value p c i x other = operand p c i (span p i - 1) x

-- A loop leaves the values of the iteration before the one that does not run.
abbrev pub out_value : Plan → Cycle → ℕ → TimedNode → Out → ℕ
out_value p c i (block body end_) x = last_value p c i x.value x.value.value
out_value p c i (overlapped body exit next) x = operand p c i exit (later x.value)

abbrev pub out_writes : Plan → Cycle → ℕ → ℕ × TimedNode → List Write
out_writes p c v n =
    if p.savings.behind n.0 v
    then map (λ (x : Out). where_ (leaves_as p c n.0 n.1) (out_value p c n.0 n.1 x)) (filter (λ (x : Out). x.variable.0 == v) (body_at p n.0).outs)
    else []

abbrev pub variable_writes : Plan → Cycle → ℕ → List Write
variable_writes p c v = argument_writes p c v ++ (kept_writes p c v ++ flat_map (out_writes p c v) (numbered p))

-- ---- the result

abbrev pub returned : Plan → Cycle → ℕ → TimedNode → List Write
returned p c i (block body (end.Return (Some x))) = where_ (leaves_as p c i (block body (end.Return (Some x)))) (operand p c i (span p i - 1) x) ∷ []
returned p c i n = []

abbrev pub result_writes : Plan → Cycle → List Write
result_writes p c = flat_map (λ (n : ℕ × TimedNode). returned p c n.0 n.1) (numbered p)
