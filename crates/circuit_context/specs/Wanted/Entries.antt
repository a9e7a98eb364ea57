-- What a plan wants of registers, of shared units and ports, and of the controller: for each target the guarded writes, in the order in which a circuit is made.
use Rattle.std.specs.Prelude.{ℕ, zero, suc, ◌+◌, ◌-◌, ◌==◌, ◌&&◌, nat_lt, Bool, true, false, not, List, [], ◌∷◌, ◌++◌, length, map, filter, flat_map, slice_get, slice_index, Option, Some, None, is_some, if◌then◌else◌, ◌%◌, ◌^◌}
use Rattle.std.specs.List.{enumerate_from, list_any, range_with_len}
use Rattle.hls_base.specs.declared.number.ArrayId.{ArrayId}
use Rattle.hls_base.specs.declared.number.NodeId.{NodeId}
use Rattle.hls_base.specs.declared.number.VarId.{VarId}
use Rattle.hls_base.specs.declared.number.Kept.{Kept}
use Rattle.ir_core.specs.declared.body.OpKind.{OpKind}
use Rattle.ir_core.specs.declared.body.OpKind.TheVariants as o
use Rattle.ir_core.specs.declared.body.Operand.{Operand}
use Rattle.ir_core.specs.declared.body.Out.{Out}
use Rattle.ir_core.specs.declared.cfg.End.{End}
use Rattle.ir_core.specs.declared.cfg.End.TheVariants as end
use Rattle.reg_binding.specs.declared.registers.Held.{Held}
use Rattle.clock_ir.specs.ClockRuns.{TimedNode, block, overlapped}
use Rattle.ir_core.specs.Bodies.{stored}
use Rattle.rtl_core.specs.Interface.{select_of}
use Rattle.rtl_logic.specs.Choosing.{Write, where_}
use Rattle.datapath.specs.Plans.{Plan, Placed, body_of, span, numbered, all_ops, unit_of, initial_cycles, host_arrays}
use Rattle.datapath.specs.Cycles.{Initial, Load, Gate, Variable, Cycle, holds, bit}
use Rattle.datapath.specs.Reading.{at, operand, is_starting, arguments}
use Rattle.datapath.specs.Control.{is_loop, is_tested, test_holds, leaves_as, is_taken, holds_case, is_loading, is_any_tested, passed_write, waited_write, wait_bits, time_bits, next_ready, next_done, next_initial, next_time, next_active, next_load}
use Rattle.datapath.specs.Units.{argument_write}
use Rattle.datapath.specs.Ports.{port_of, port_count, element_address, is_storing, is_refused}
use Rattle.datapath.specs.Values.{entry_of, moves, moved, arrival, arriving, out_value}
use Rattle.datapath.specs.Circuits.{named_bits}
use Rattle.circuit_context.specs.declared.wanted.role.Role.{Role}
use Rattle.circuit_context.specs.declared.wanted.role.Role.TheVariants as role
use Rattle.circuit_context.specs.declared.wanted.role.UnitKind.{UnitKind}
use Rattle.circuit_context.specs.declared.wanted.role.UnitKind.TheVariants as kind
use Rattle.circuit_context.specs.declared.wanted.role.SharedUnit.{SharedUnit}
use Rattle.circuit_context.specs.declared.wanted.role.Target.{Target}
use Rattle.circuit_context.specs.declared.wanted.role.Target.TheVariants as t

-- for this target a value is wanted, or not, in each cycle
pub record Entry : Type 0 where
  pub target : Target
  pub write : Cycle → Write

abbrev pub entry : Target → (Cycle → Write) → Entry
entry target write = record { target = target; write = write }

abbrev pub register_entry : Role → (Cycle → Write) → Entry
register_entry r write = entry (t.Register r) write

-- a bit that is 1 where this holds
abbrev pub bit_entry : Target → (Cycle → Bool) → Entry
bit_entry target holds_ = entry target (λ c. where_ (holds_ c) 1)

-- taken in each cycle
abbrev pub always_entry : Role → (Cycle → ℕ) → Entry
always_entry r value = register_entry r (λ c. where_ true (value c))

abbrev pub node_of : ℕ → NodeId
node_of i = record { 0 = i }

abbrev pub variable_of : ℕ → VarId
variable_of v = record { 0 = v }

-- ---- operations: what they give to units and ports

abbrev pub unit_at : Plan → UnitKind → Placed → SharedUnit
unit_at p k x = record { kind = k; bits = x.op.op.bits; number = unit_of p x }

abbrev pub operand_entries : Plan → SharedUnit → Placed → List Entry
operand_entries p unit x = entry (t.Left unit) (λ c. argument_write p c 0 x) ∷ entry (t.Right unit) (λ c. argument_write p c 1 x) ∷ []

-- the operands, and whether they have signs
abbrev pub shared_entries : Plan → SharedUnit → Placed → List Entry
shared_entries p unit x = operand_entries p unit x ++ entry (t.Signed unit) (λ c. where_ (is_starting p c x) (bit x.op.op.signed)) ∷ []

abbrev pub address_entry : Plan → ArrayId → Placed → Entry
address_entry p a x = entry (t.Address a (port_of p a.0 x)) (λ c. where_ (is_starting p c x) (element_address p c a.0 x))

-- a load with a guard may not be
abbrev pub refusal_entries : Plan → ArrayId → Placed → List Entry
refusal_entries p a x = if is_some x.op.op.guard then bit_entry (t.Refused a (port_of p a.0 x)) (λ c. is_refused p c x) ∷ [] else []

abbrev pub access_entries : Plan → OpKind → ArrayId → Placed → List Entry
access_entries p o.Load a x = address_entry p a x ∷ refusal_entries p a x
access_entries p o.Store a x =
    address_entry p a x ∷ entry (t.Stored a (port_of p a.0 x)) (λ c. where_ (is_storing p c x) (stored (arguments p c x))) ∷ []
access_entries p kind a x = []

abbrev pub entries_as : Plan → OpKind → Option ArrayId → Placed → List Entry
entries_as p o.Mul array x = shared_entries p (unit_at p kind.Multiplier x) x
entries_as p o.Div array x = shared_entries p (unit_at p kind.Divider x) x
entries_as p o.Rem array x = shared_entries p (unit_at p kind.Divider x) x
entries_as p k (Some a) x = access_entries p k a x
entries_as p k None x = []

abbrev pub demands_of : Plan → Placed → List Entry
demands_of p x = entries_as p x.op.op.kind x.op.op.array x

abbrev pub all_demands : Plan → List Entry
all_demands p = flat_map (demands_of p) (all_ops p)

-- ---- loops: when tests are known

abbrev pub exit_entries : Plan → ℕ × TimedNode → List Entry
exit_entries p n =
    if is_loop (Some n.1)
    then bit_entry t.Tested (λ c. is_tested p c n.0) ∷ register_entry (role.Gate 0) (λ c. where_ (is_tested p c n.0) (bit (holds c (Gate 0) && test_holds p c n.0))) ∷ []
    else []

abbrev pub all_exits : Plan → List Entry
all_exits p = flat_map (exit_entries p) (numbered p)

-- ---- the beginning of a run, and the first values of scalars that stay

abbrev pub parameter_entry : ℕ × VarId → Entry
parameter_entry x = register_entry (role.Variable x.1) (λ c. where_ (is_taken c) (slice_index c.pins (7 + x.0)))

abbrev pub kept_entry : Kept → Entry
kept_entry k = register_entry (role.Variable k.variable) (λ c. where_ (holds c Initial) k.value)

abbrev pub all_beginnings : Plan → List Entry
all_beginnings p = bit_entry (t.Entered (node_of p.program.first)) is_taken ∷ (map parameter_entry (enumerate_from 0 p.parameters) ++ map kept_entry p.kept)

-- ---- results in their registers

-- what the variable has at entry
abbrev pub load_entries : Held → Option ℕ → List Entry
load_entries h None = []
load_entries h (Some v) = if h.place == 0 then register_entry (role.Value h.register) (λ c. where_ (holds c (Load h.node.0)) (c.regs (Variable v))) ∷ [] else []

abbrev pub held_entries : Plan → Held → List Entry
held_entries p h =
    if is_loop (slice_get p.program.nodes h.node.0)
    then load_entries h (entry_of p h) ++ register_entry (role.Value h.register) (λ c. where_ (moves p c h (entry_of p h)) (moved p c h h.place)) ∷ []
    else register_entry (role.Value h.register) (λ c. where_ (at p c h.node.0 (arrival p h)) (arriving p c h.node.0 h.op.0)) ∷ []

abbrev pub all_places : Plan → List Entry
all_places p = flat_map (held_entries p) p.held

-- ---- the ends of nodes

-- a variable that is read again takes its value as the node is left
abbrev pub out_entry : Plan → ℕ × TimedNode → Out → Entry
out_entry p n x = register_entry (role.Variable x.variable) (λ c. where_ (leaves_as p c n.0 n.1) (out_value p c n.0 n.1 x))

abbrev pub out_entries : Plan → ℕ × TimedNode → List Entry
out_entries p n = map (out_entry p n) (filter (λ (x : Out). p.savings.behind n.0 x.variable.0) (body_of n.1).outs)

-- node j is entered where node i is left and this holds
abbrev pub way : Plan → ℕ × TimedNode → NodeId → (Cycle → Bool) → Entry
way p n j holds_ = bit_entry (t.Entered j) (λ c. leaves_as p c n.0 n.1 && holds_ c)

-- what an operand has in the last cycle of a block
abbrev pub last_operand : Plan → ℕ → Cycle → Operand → ℕ
last_operand p i c x = operand p c i (span p i - 1) x

abbrev pub case_holds : Plan → ℕ → Operand × NodeId → Cycle → Bool
case_holds p i case c = holds_case (last_operand p i c) case

abbrev pub no_case_holds : Plan → ℕ → List (Operand × NodeId) → Cycle → Bool
no_case_holds p i cases c = not (list_any (holds_case (last_operand p i c)) cases)

-- the first case that holds, behind those before
abbrev pub ordered_ways : Plan → ℕ × TimedNode → List (Operand × NodeId) → List (Operand × NodeId) → NodeId → List Entry
ordered_ways p n before [] other = way p n other (no_case_holds p n.0 before) ∷ []
ordered_ways p n before (case ∷ cases) other =
    way p n case.1 (λ c. no_case_holds p n.0 before c && case_holds p n.0 case c) ∷ ordered_ways p n (before ++ case ∷ []) cases other

-- cases of which no two can hold need no order
abbrev pub exclusive_ways : Plan → ℕ × TimedNode → List (Operand × NodeId) → NodeId → List Entry
exclusive_ways p n cases other = map (λ (case : Operand × NodeId). way p n case.1 (case_holds p n.0 case)) cases ++ way p n other (no_case_holds p n.0 cases) ∷ []

abbrev pub result_entries : Plan → ℕ × TimedNode → Option Operand → List Entry
result_entries p n None = []
result_entries p n (Some x) = register_entry role.Result (λ c. where_ (leaves_as p c n.0 n.1) (last_operand p n.0 c x)) ∷ []

abbrev pub ways : Plan → ℕ × TimedNode → End → List Entry
ways p n (end.Jump next) = bit_entry (t.Entered next) (λ c. leaves_as p c n.0 n.1) ∷ []
ways p n (end.Branch test left right) =
    way p n left (λ c. not (last_operand p n.0 c test == 0)) ∷ way p n right (λ c. last_operand p n.0 c test == 0) ∷ []
ways p n (end.Choose cases other) = if p.savings.exclusive n.0 then exclusive_ways p n cases.items other else ordered_ways p n [] cases.items other
ways p n (end.Return word) = bit_entry t.Ended (λ c. leaves_as p c n.0 n.1) ∷ result_entries p n word

abbrev pub ways_as : Plan → ℕ × TimedNode → TimedNode → List Entry
ways_as p n (block body end_) = ways p n end_
ways_as p n (overlapped body exit next) = bit_entry (t.Entered (node_of next)) (λ c. leaves_as p c n.0 n.1) ∷ []

abbrev pub end_entries : Plan → ℕ × TimedNode → List Entry
end_entries p n = out_entries p n ++ ways_as p n n.1

abbrev pub all_ends : Plan → List Entry
all_ends p = flat_map (end_entries p) (numbered p)

-- ---- the registers that all loops share, with so many gates and stages

abbrev pub gate_entries : Plan → ℕ → List Entry
gate_entries p zero = []
gate_entries p (suc gates) =
    register_entry (role.Gate 0) (λ c. where_ (is_loading p c) 1)
    ∷ map (λ (k : ℕ). register_entry (role.Gate k) (λ c. where_ (is_any_tested p c) (c.regs (Gate (k - 1))))) (range_with_len 1 gates)

abbrev pub passed_entries : Plan → ℕ → List Entry
passed_entries p stages = map (λ (n : ℕ). register_entry (role.Passed n) (λ c. passed_write p c n)) (range_with_len 1 stages)

abbrev pub waited_entries : Plan → List Entry
waited_entries p = if wait_bits p == 0 then [] else register_entry role.Waited (λ c. waited_write p c) ∷ []

abbrev pub loop_entries : Plan → ℕ → ℕ → List Entry
loop_entries p gates stages = gate_entries p gates ++ (passed_entries p stages ++ waited_entries p)

-- ---- the controller

abbrev pub initial_entries : Plan → List Entry
initial_entries p = if initial_cycles p == 0 then [] else always_entry role.Initial (λ c. bit (next_initial p c)) ∷ []

abbrev pub time_entries : Plan → List Entry
time_entries p = if time_bits p == 0 then [] else always_entry role.Time (λ c. next_time p c) ∷ []

abbrev pub state_entries : Plan → ℕ × TimedNode → List Entry
state_entries p n =
    (if is_loop (Some n.1) then always_entry (role.Load (node_of n.0)) (λ c. bit (next_load p c n.0)) ∷ [] else [])
    ++ always_entry (role.Active (node_of n.0)) (λ c. bit (next_active p c n.0)) ∷ []

abbrev pub control_entries : Plan → List Entry
control_entries p =
    flat_map (state_entries p) (numbered p)
    ++ (always_entry role.Done (λ c. bit (next_done p c)) ∷ always_entry role.Ready (λ c. bit (next_ready p c)) ∷ (initial_entries p ++ time_entries p))

-- ---- the host

-- with one array that the host reaches, or none, nothing is named
abbrev pub named_entries : Plan → List Entry
named_entries p = if nat_lt 1 (length (host_arrays p)) then always_entry role.Named (λ c. select_of c.pins % 2 ^ named_bits p) ∷ [] else []

-- ---- all together

-- where control goes, and what registers take but for those that depend on it
abbrev pub moves_of : Plan → List Entry
moves_of p = all_exits p ++ (all_beginnings p ++ (all_places p ++ all_ends p))

abbrev pub all_entries : Plan → ℕ → ℕ → List Entry
all_entries p gates stages = moves_of p ++ (loop_entries p gates stages ++ (control_entries p ++ named_entries p))

-- ---- the registers that a circuit has, but for those of units

abbrev pub roles_if : Bool → Role → List Role
roles_if true r = r ∷ []
roles_if false r = []

abbrev pub node_roles : ℕ × TimedNode → List Role
node_roles n = role.Active (node_of n.0) ∷ roles_if (is_loop (Some n.1)) (role.Load (node_of n.0))

abbrev pub word_roles : Plan → ℕ → List Role
word_roles p a = map (λ (n : ℕ). role.Word (record { 0 = a }) n) (range_with_len 0 (port_count p a))

abbrev pub control_roles : Plan → List Role
control_roles p =
    role.Ready ∷ role.Done ∷ (roles_if (nat_lt 0 (initial_cycles p)) role.Initial ++ (roles_if (nat_lt 0 (time_bits p)) role.Time ++ flat_map node_roles (numbered p)))

abbrev pub loop_roles : Plan → ℕ → ℕ → List Role
loop_roles p gates stages = map role.Gate (range_with_len 0 gates) ++ (map role.Passed (range_with_len 1 stages) ++ roles_if (nat_lt 0 (wait_bits p)) role.Waited)

abbrev pub value_roles : Plan → List Role
value_roles p =
    map (λ (v : ℕ). role.Variable (variable_of v)) (range_with_len 0 (length p.program.shapes.widths))
    ++ (map role.Value (range_with_len 0 (length p.widths)) ++ roles_if (nat_lt 0 p.result) role.Result)

abbrev pub port_roles : Plan → List Role
port_roles p = flat_map (word_roles p) (range_with_len 0 (length p.arrays)) ++ roles_if (nat_lt 1 (length (host_arrays p))) role.Named

abbrev pub all_roles : Plan → ℕ → ℕ → List Role
all_roles p gates stages = control_roles p ++ (loop_roles p gates stages ++ (value_roles p ++ port_roles p))
