-- The controller: which node is under way, when it is left and for which one, and the time within it.
use Rattle.std.specs.Prelude.{ℕ, zero, suc, ◌+◌, ◌-◌, ◌/◌, ◌%◌, ◌^◌, ◌==◌, ◌&&◌, ◌||◌, nat_lt, max, Bool, true, false, not, List, [], ◌∷◌, ◌++◌, flat_map, fold, slice_get, Option, Some, None, if◌then◌else◌}
use Rattle.std.specs.List.{list_any}
use Rattle.hls_base.specs.declared.number.NodeId.{NodeId}
use Rattle.ir_core.specs.declared.body.Operand.{Operand}
use Rattle.ir_core.specs.declared.body.Source.{Source}
use Rattle.ir_core.specs.declared.body.Source.TheVariants as source
use Rattle.ir_core.specs.declared.cfg.End.{End}
use Rattle.ir_core.specs.declared.cfg.End.TheVariants as end
use Rattle.ir_core.specs.FlatRuns.{Going, to, ends}
use Rattle.clock_ir.specs.Flows.{TimedBody, known}
use Rattle.clock_ir.specs.ClockRuns.{TimedNode, block, overlapped, going_by}
use Rattle.datapath.specs.Plans.{Plan, Placed, body_at, span, numbered, initial_cycles, bits_of}
use Rattle.datapath.specs.Cycles.{Register, Ready, Done, Initial, Time, Active, Load, Gate, Waited, Cycle, holds, resets, starts, bit}
use Rattle.rtl_logic.specs.Choosing.{Write, where_}
use Rattle.datapath.specs.Reading.{at, has_passed, at_iteration, operand, is_true}

-- ---- loops

-- the loop may be left
abbrev pub may_fail : Source → Bool
may_fail (source.Constant word) = word % 2 == 0
may_fail _ = true

abbrev pub has_test_as : Option Operand → Bool
has_test_as None = false
has_test_as (Some x) = may_fail x.value

abbrev pub has_test : Plan → ℕ → Bool
has_test p i = has_test_as (body_at p i).test

-- the test of an iteration becomes known in this cycle
abbrev pub is_tested : Plan → Cycle → ℕ → Bool
is_tested p c i = has_test p i && at_iteration p c i (known (body_at p i))

abbrev pub test_holds : Plan → Cycle → ℕ → Bool
test_holds p c i = is_true p c i (known (body_at p i)) (body_at p i).test

-- the cycles from the one in which the failing test is known to the last one of the loop
abbrev pub wait : TimedBody → ℕ → ℕ
wait b exit = exit - known b

abbrev pub leaves_loop : Plan → Cycle → ℕ → ℕ → Bool
leaves_loop p c i zero = is_tested p c i && not (test_holds p c i)
leaves_loop p c i (suc n) = has_test p i && (holds c (Active i) && (not (holds c (Gate 0)) && (c.regs Waited == n)))

-- ---- from node to node

abbrev pub leaves_as : Plan → Cycle → ℕ → TimedNode → Bool
leaves_as p c i (block body end_) = at p c i (span p i - 1)
leaves_as p c i (overlapped body exit next) = leaves_loop p c i (wait body exit)

-- this is the last cycle of the node
abbrev pub leaves : Plan → Cycle → ℕ × TimedNode → Bool
leaves p c n = leaves_as p c n.0 n.1

abbrev pub is_to : ℕ → Going → Bool
is_to j (to i) = i == j
is_to j (ends word) = false

abbrev pub holds_case : (Operand → ℕ) → Operand × NodeId → Bool
holds_case read case = not (read case.0 == 0)

-- Cases of which no two can hold need no order.
abbrev pub end_leads : (Operand → ℕ) → Bool → End → ℕ → Bool
end_leads read true (end.Choose cases other) j =
    list_any (λ (case : Operand × NodeId). holds_case read case && (case.1.0 == j)) cases.items
    || (not (list_any (holds_case read) cases.items) && (other.0 == j))
end_leads read exclusive e j = is_to j (going_by read e)

abbrev pub leads_as : Plan → Cycle → ℕ → TimedNode → ℕ → Bool
leads_as p c i (block body end_) j = end_leads (operand p c i (span p i - 1)) (p.savings.exclusive i) end_ j
leads_as p c i (overlapped body exit next) j = next == j

-- a start is taken
abbrev pub is_taken : Cycle → Bool
is_taken c = holds c Ready && starts c

-- node j is entered in the next cycle
abbrev pub is_entered : Plan → Cycle → ℕ → Bool
is_entered p c j =
    (is_taken c && (p.program.first == j)) || list_any (λ (n : ℕ × TimedNode). leaves p c n && leads_as p c n.0 n.1 j) (numbered p)

abbrev pub is_return : End → Bool
is_return (end.Return word) = true
is_return _ = false

abbrev pub returns_as : TimedNode → Bool
returns_as (block body end_) = is_return end_
returns_as (overlapped body exit next) = false

-- the run ends with this cycle
abbrev pub is_ending : Plan → Cycle → Bool
is_ending p c = list_any (λ (n : ℕ × TimedNode). leaves p c n && returns_as n.1) (numbered p)

-- ---- the registers of the controller

abbrev pub last_initial : Plan → Cycle → Bool
last_initial p c = holds c Initial && (c.regs Time == initial_cycles p - 1)

-- after a reset the initial sequence comes first, if there is one
abbrev pub next_initial : Plan → Cycle → Bool
next_initial p c = nat_lt 0 (initial_cycles p) && ((holds c Initial && not (last_initial p c)) || resets c)

abbrev pub waits_on : Cycle → Register → Bool
waits_on c r = holds c r && not (starts c)

abbrev pub next_ready : Plan → Cycle → Bool
next_ready p c =
    if initial_cycles p == 0 then is_ending p c || (waits_on c Ready || resets c)
    else (is_ending p c || (waits_on c Ready || last_initial p c)) && not (resets c)

abbrev pub next_done : Plan → Cycle → Bool
next_done p c = (is_ending p c || waits_on c Done) && not (resets c)

abbrev pub is_loop : Option TimedNode → Bool
is_loop (Some (overlapped body exit next)) = true
is_loop _ = false

abbrev pub leaves_if : Plan → Cycle → ℕ → Option TimedNode → Bool
leaves_if p c i None = false
leaves_if p c i (Some n) = leaves_as p c i n

abbrev pub begins_as : Plan → Cycle → ℕ → Option TimedNode → Bool
begins_as p c i None = false
begins_as p c i (Some (block body end_)) = is_entered p c i
begins_as p c i (Some (overlapped body exit next)) = holds c (Load i)

-- The time of a block begins with the cycle in which it is entered, that of a loop one cycle later.
abbrev pub begins : Plan → Cycle → ℕ → Bool
begins p c i = begins_as p c i (slice_get p.program.nodes i)

abbrev pub next_load : Plan → Cycle → ℕ → Bool
next_load p c i = is_loop (slice_get p.program.nodes i) && (is_entered p c i && not (resets c))

abbrev pub next_active : Plan → Cycle → ℕ → Bool
next_active p c i = (begins p c i || (holds c (Active i) && not (leaves_if p c i (slice_get p.program.nodes i)))) && not (resets c)

-- ---- time

abbrev pub stays_as : Plan → Cycle → ℕ → TimedNode → Bool
stays_as p c i (block body end_) = holds c (Active i)
stays_as p c i (overlapped body exit next) = holds c (Active i) && not (leaves_as p c i (overlapped body exit next))

-- this is one of so many cycles, and not the last one
abbrev pub is_within : Cycle → ℕ → Bool
is_within c cycles = nat_lt 1 cycles && not (c.regs Time == cycles - 1)

abbrev pub goes_on : Plan → Cycle → Bool
goes_on p c =
    (holds c Initial && is_within c (initial_cycles p)) || list_any (λ (n : ℕ × TimedNode). stays_as p c n.0 n.1 && is_within c (span p n.0)) (numbered p)

abbrev pub greatest_time : Plan → ℕ
greatest_time p = fold (λ t (n : ℕ × TimedNode). max t (span p n.0 - 1)) (initial_cycles p - 1) (numbered p)

abbrev pub time_bits : Plan → ℕ
time_bits p = bits_of (greatest_time p)

abbrev pub next_time : Plan → Cycle → ℕ
next_time p c = if goes_on p c && not (resets c) then (c.regs Time + 1) % 2 ^ time_bits p else 0

-- ---- the registers that all loops share

-- the first values of some loop are taken
abbrev pub is_loading : Plan → Cycle → Bool
is_loading p c = list_any (λ (n : ℕ × TimedNode). is_loop (Some n.1) && holds c (Load n.0)) (numbered p)

abbrev pub ends_interval : Plan → Cycle → Bool
ends_interval p c = list_any (λ (n : ℕ × TimedNode). is_loop (Some n.1) && at p c n.0 ((body_at p n.0).interval - 1)) (numbered p)

abbrev pub gate_write : Plan → Cycle → ℕ × TimedNode → List Write
gate_write p c n = if is_loop (Some n.1) then where_ (is_tested p c n.0) (bit (holds c (Gate 0) && test_holds p c n.0)) ∷ [] else []

abbrev pub is_any_tested : Plan → Cycle → Bool
is_any_tested p c = list_any (λ (n : ℕ × TimedNode). is_loop (Some n.1) && is_tested p c n.0) (numbered p)

-- A test that fails shuts the gate, and the next loop opens it. With each test all that was known before moves on by one.
abbrev pub gate_writes : Plan → Cycle → ℕ → List Write
gate_writes p c zero = flat_map (gate_write p c) (numbered p) ++ where_ (is_loading p c) 1 ∷ []
gate_writes p c (suc k) = where_ (is_any_tested p c) (c.regs (Gate k)) ∷ []

abbrev pub passed_write : Plan → Cycle → ℕ → Write
passed_write p c n = where_ (is_loading p c || ends_interval p c) (bit (not (is_loading p c) && has_passed c (n - 1)))

abbrev pub wait_as : TimedNode → ℕ
wait_as (block body end_) = 0
wait_as (overlapped body exit next) = wait body exit

abbrev pub greatest_wait : Plan → ℕ
greatest_wait p = fold (λ t (n : ℕ × TimedNode). max t (wait_as n.1)) 0 (numbered p)

abbrev pub wait_bits : Plan → ℕ
wait_bits p = bits_of (greatest_wait p - 1)

abbrev pub waited_write : Plan → Cycle → Write
waited_write p c = where_ (is_loading p c || not (holds c (Gate 0))) (if is_loading p c then 0 else (c.regs Waited + 1) % 2 ^ wait_bits p)

-- ---- stores

-- The gate of an iteration, so many cycles after its test is known: from the next cycle on its test is one of those that have moved on.
abbrev pub gate_after : Plan → Cycle → ℕ → ℕ → ℕ → Bool
gate_after p c i zero zero = holds c (Gate 0) && test_holds p c i
gate_after p c i (suc tests) zero = holds c (Gate tests)
gate_after p c i tests (suc rest) = holds c (Gate tests)

abbrev pub gate_at : Plan → Cycle → ℕ → ℕ → Bool
gate_at p c i since = gate_after p c i (since / span p i) (since % span p i)

-- A store is let through where its iteration runs: no test has failed, its own among them.
abbrev pub may_store : Plan → Cycle → Placed → Bool
may_store p c x =
    at_iteration p c x.node x.op.start
    && (not (is_loop (slice_get p.program.nodes x.node) && has_test p x.node) || gate_at p c x.node (x.op.start - known (body_at p x.node)))
