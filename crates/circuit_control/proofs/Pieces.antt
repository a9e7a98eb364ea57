-- What is logged of nodes, gates, stages and the rest of the controller, piece by piece.
use Rattle.std.proofs.Common.{◌≡◌, ◌≢◌, ◌<◌, ℕ, zero, suc, ◌+◌, ◌-◌, ◌^◌, ◌%◌, Bool, true, false, List, [], ◌∷◌, ◌++◌, length, get_or, slice_get, Some, refl, sym, ap, ◌∙◌, subst, arith}
use Rattle.std.specs.Prelude.{◌&&◌, ◌||◌, not, max, if◌then◌else◌}
use Rattle.std.proofs.lemmas.Bool.{ne_eqb, eq-eqb, lt-ltb, true≢false, false≢true}
use Rattle.std.proofs.lemmas.List.FromFn.{map-range_with_len_more}
use Rattle.std.proofs.lemmas.Option.{slice_get-get_or, same_Some}
use Rattle.ir_core.specs.declared.cfg.Node.{Node}
use Rattle.ir_core.specs.declared.timed.Timed.{Timed}
use Rattle.rtl_core.specs.declared.design.Atom.{Atom}
use Rattle.rtl_core.specs.declared.design.Atom.TheVariants as atom
use Rattle.rtl_core.specs.Netlist.{Netlist}
use Rattle.rtl_logic.specs.Choosing.{where_}
use Rattle.clock_ir.specs.ClockRuns.{TimedNode, timed_node, block, overlapped}
use Rattle.datapath.specs.Plans.{Plan, initial_cycles, body_of, body_if, body_at, span}
use Rattle.datapath.specs.Cycles.{Register, Ready, Gate, Passed, Initial, Active, Load, Cycle, holds, resets, bit}
use Rattle.datapath.specs.Reading.{has_passed}
use Rattle.datapath.specs.Control.{is_loop, is_entered, is_any_tested, is_loading, passed_write, waited_write, wait_bits, begins, begins_as, next_load, next_active, next_initial, next_ready, next_time, is_ending, waits_on, last_initial, time_bits, leaves_if, stays_as, is_within}
use Rattle.datapath.specs.CircuitWires.Carrying.{MakesTelling}
use Rattle.circuit_context.specs.declared.wanted.log.Push.{Push}
use Rattle.circuit_context.specs.declared.wanted.role.Role.TheVariants as role
use Rattle.circuit_context.specs.declared.wanted.role.Target.TheVariants as t
use Rattle.circuit_context.specs.Wanted.Entries.{Entry, bit_entry, register_entry, always_entry, exit_entries, gate_entries, passed_entries, waited_entries, state_entries, initial_entries, time_entries, node_of}
use Rattle.circuit_context.specs.Wanted.Logs.{Logs}
use Rattle.circuit_context.proofs.WantedLemmas.Joining.{logs_one}
use Rattle.circuit_context.specs.declared.context.Context.{Context}
use Rattle.circuit_context.specs.Contexts.{IsContext}
use Rattle.circuit_control.specs.Gathered.{test_entries, moved_entries}
use Rattle.circuit_control.specs.Spans.{initial_goes}
use Rattle.circuit_control.proofs.Telling.{one_tells}
use Rattle.circuit_control.proofs.Numbered.{node_stands}

-- the same entries, said in another way
pub logs_as : (p : Plan) (names : List Register) (d e : Netlist) (a b : List Push) (es fs : List Entry) → es ≡ fs → Logs p names d e a b es → Logs p names d e a b fs
logs_as p names d e a b es fs same h = subst (λ l. Logs p names d e a b l) same h

-- the node that stands at a number
pub node_found : (p : Plan) (names : List Register) (of : Context) (i : ℕ) (node : Node Timed) (n : TimedNode) → IsContext p names of → i < length of.cfg.now.nodes.items → node ≡ get_or of.cfg.now.nodes.items i node
    → slice_get p.program.nodes i ≡ Some n → timed_node node ≡ n
node_found p names of i node n context less is stands =
    same_Some (timed_node node) n (sym (node_stands p names of i node context (slice_get-get_or of.cfg.now.nodes.items i node less ∙ ap (λ (m : Node Timed). Some m) (sym is))) ∙ stands)

-- ---- tests

pub test_pushed : (p : Plan) (names : List Register) (d e : Netlist) (before after : List Push) (when one : Atom) (holds_ : Cycle → Bool) → MakesTelling p names d e when holds_ → one ≡ atom.Constant 1 (1 % 2 ^ 1)
    → after ≡ before ++ record { target = t.Tested; choice = record { when = when; value = one } } ∷ [] → Logs p names d e before after (bit_entry t.Tested holds_ ∷ [])
test_pushed p names d e before after when one holds_ made is pushed =
    logs_one p names d e before after (record { target = t.Tested; choice = record { when = when; value = one } }) (bit_entry t.Tested holds_) made.appends made.begun pushed
    (record { target = refl; there = tt; when = made.carries; value = one_tells p names e one is })

pub test_there : (p : Plan) (i : ℕ) (n : TimedNode) → is_loop (Some n) ≡ true → test_entries p i ≡ exit_entries p (i, n)
test_there p i n is = ap (λ b. if b then test_entries p i else []) (sym is)

pub no_test : (p : Plan) (i : ℕ) (n : TimedNode) → is_loop (Some n) ≡ false → [] ≡ exit_entries p (i, n)
no_test p i n is = ap (λ b. if b then test_entries p i else []) (sym is)

-- ---- gates

abbrev opened : Plan → Entry
opened p = register_entry (role.Gate 0) (λ c. where_ (is_loading p c) 1)

pub no_gate : (p : Plan) (gates : ℕ) → gates ≡ 0 → [] ≡ gate_entries p gates
no_gate p gates none = ap (gate_entries p) (sym none)

pub one_gate : (p : Plan) (gates : ℕ) → gates ≡ 1 → opened p ∷ [] ≡ gate_entries p gates
one_gate p gates one = ap (gate_entries p) (sym one)

pub all_gates : (p : Plan) (gates : ℕ) → gates ≢ 0 → opened p ∷ moved_entries (is_any_tested p) (gates - 1) ≡ gate_entries p gates
all_gates p zero some = absurd (some refl)
all_gates p (suc k) some = let rest : suc k - 1 ≡ k = omega arith in ap (λ m. opened p ∷ moved_entries (is_any_tested p) m) rest

pub moved_more : (moves : Cycle → Bool) (k : ℕ) → moved_entries moves k ++ register_entry (role.Gate (k + 1)) (λ c. where_ (moves c) (c.regs (Gate k))) ∷ [] ≡ moved_entries moves (k + 1)
moved_more moves k =
    let f : ℕ → Entry = λ (j : ℕ). register_entry (role.Gate j) (λ c. where_ (moves c) (c.regs (Gate (j - 1)))) in
    let next : 1 + k ≡ k + 1 = omega arith in
    let back : k ≡ k + 1 - 1 = omega arith in
    ap (λ m. moved_entries moves k ++ register_entry (role.Gate (k + 1)) (λ c. where_ (moves c) (c.regs (Gate m))) ∷ []) back ∙ sym (map-range_with_len_more f 1 k (k + 1) next)

-- ---- stages

pub stages_more : (p : Plan) (k : ℕ) → passed_entries p k ++ register_entry (role.Passed (k + 1)) (λ c. passed_write p c (k + 1)) ∷ [] ≡ passed_entries p (k + 1)
stages_more p k =
    let f : ℕ → Entry = λ (n : ℕ). register_entry (role.Passed n) (λ c. passed_write p c n) in
    let next : 1 + k ≡ k + 1 = omega arith in
    sym (map-range_with_len_more f 1 k (k + 1) next)

pub turned : (a b : Bool) → (a && not b) ≡ (not b && a)
turned true true = refl
turned true false = refl
turned false true = refl
turned false false = refl

-- what is taken behind so many intervals
pub stage_takes : (p : Plan) (c : Cycle) (k : ℕ) → (has_passed c k && not (is_loading p c)) ≡ (not (is_loading p c) && has_passed c (k + 1 - 1))
stage_takes p c k = let back : k ≡ k + 1 - 1 = omega arith in turned (has_passed c k) (is_loading p c) ∙ ap (λ m. not (is_loading p c) && has_passed c m) back

pub passed_some : (c : Cycle) (n : ℕ) → n ≢ 0 → holds c (Passed n) ≡ has_passed c n
passed_some c zero some = absurd (some refl)
passed_some c (suc n) some = refl

-- ---- the cycles since a test failed

abbrev waiting : Plan → Entry
waiting p = register_entry role.Waited (λ c. waited_write p c)

pub no_waiting : (p : Plan) → wait_bits p ≡ 0 → [] ≡ waited_entries p
no_waiting p none = ap (λ b. if b then [] else waiting p ∷ []) (sym (eq-eqb (wait_bits p) 0 none))

pub some_waiting : (p : Plan) → wait_bits p ≢ 0 → waiting p ∷ [] ≡ waited_entries p
some_waiting p some = ap (λ b. if b then [] else waiting p ∷ []) (sym (ne_eqb (wait_bits p) 0 some))

-- ---- nodes

pub load_state : (p : Plan) (i : ℕ) (n : TimedNode) → is_loop (Some n) ≡ true
    → always_entry (role.Load (node_of i)) (λ c. bit (next_load p c i)) ∷ always_entry (role.Active (node_of i)) (λ c. bit (next_active p c i)) ∷ [] ≡ state_entries p (i, n)
load_state p i n is = ap (λ b. (if b then always_entry (role.Load (node_of i)) (λ c. bit (next_load p c i)) ∷ [] else []) ++ always_entry (role.Active (node_of i)) (λ c. bit (next_active p c i)) ∷ []) (sym is)

pub block_state : (p : Plan) (i : ℕ) (n : TimedNode) → is_loop (Some n) ≡ false → always_entry (role.Active (node_of i)) (λ c. bit (next_active p c i)) ∷ [] ≡ state_entries p (i, n)
block_state p i n is = ap (λ b. (if b then always_entry (role.Load (node_of i)) (λ c. bit (next_load p c i)) ∷ [] else []) ++ always_entry (role.Active (node_of i)) (λ c. bit (next_active p c i)) ∷ []) (sym is)

loop_begins : (p : Plan) (c : Cycle) (i : ℕ) (n : TimedNode) → is_loop (Some n) ≡ true → holds c (Load i) ≡ begins_as p c i (Some n)
loop_begins p c i (block body end_) is = absurd (false≢true is)
loop_begins p c i (overlapped body exit next) is = refl

block_begins : (p : Plan) (c : Cycle) (i : ℕ) (n : TimedNode) → is_loop (Some n) ≡ false → is_entered p c i ≡ begins_as p c i (Some n)
block_begins p c i (block body end_) is = refl
block_begins p c i (overlapped body exit next) is = absurd (true≢false is)

pub begins_loaded : (p : Plan) (c : Cycle) (i : ℕ) (n : TimedNode) → slice_get p.program.nodes i ≡ Some n → is_loop (Some n) ≡ true → holds c (Load i) ≡ begins p c i
begins_loaded p c i n stands is = loop_begins p c i n is ∙ ap (λ o. begins_as p c i o) (sym stands)

pub begins_entered : (p : Plan) (c : Cycle) (i : ℕ) (n : TimedNode) → slice_get p.program.nodes i ≡ Some n → is_loop (Some n) ≡ false → is_entered p c i ≡ begins p c i
begins_entered p c i n stands is = block_begins p c i n is ∙ ap (λ o. begins_as p c i o) (sym stands)

pub load_next : (p : Plan) (c : Cycle) (i : ℕ) → is_loop (slice_get p.program.nodes i) ≡ true → (is_entered p c i && not (resets c)) ≡ next_load p c i
load_next p c i is = ap (λ b. b && (is_entered p c i && not (resets c))) (sym is)

-- ---- where no run is under way

pub initial_next : (p : Plan) (c : Cycle) → 0 < initial_cycles p → ((holds c Initial && not (last_initial p c)) || resets c) ≡ next_initial p c
initial_next p c some = ap (λ b. b && ((holds c Initial && not (last_initial p c)) || resets c)) (sym (lt-ltb 0 (initial_cycles p) some))

abbrev ready_if : Plan → Cycle → Bool → Bool
ready_if p c none = if none then is_ending p c || (waits_on c Ready || resets c) else (is_ending p c || (waits_on c Ready || last_initial p c)) && not (resets c)

pub ready_at_once : (p : Plan) (c : Cycle) → initial_cycles p ≡ 0 → (is_ending p c || (waits_on c Ready || resets c)) ≡ next_ready p c
ready_at_once p c none = ap (ready_if p c) (sym (eq-eqb (initial_cycles p) 0 none))

pub ready_behind : (p : Plan) (c : Cycle) → initial_cycles p ≢ 0 → ((is_ending p c || (waits_on c Ready || last_initial p c)) && not (resets c)) ≡ next_ready p c
ready_behind p c some = ap (ready_if p c) (sym (ne_eqb (initial_cycles p) 0 some))

pub no_initial : (p : Plan) → initial_cycles p ≡ 0 → [] ≡ initial_entries p
no_initial p none = ap (λ b. if b then [] else always_entry role.Initial (λ c. bit (next_initial p c)) ∷ []) (sym (eq-eqb (initial_cycles p) 0 none))

pub some_initial : (p : Plan) → initial_cycles p ≢ 0 → always_entry role.Initial (λ c. bit (next_initial p c)) ∷ [] ≡ initial_entries p
some_initial p some = ap (λ b. if b then [] else always_entry role.Initial (λ c. bit (next_initial p c)) ∷ []) (sym (ne_eqb (initial_cycles p) 0 some))

-- ---- the time

pub no_time : (p : Plan) → time_bits p ≡ 0 → [] ≡ time_entries p
no_time p none = ap (λ b. if b then [] else always_entry role.Time (λ c. next_time p c) ∷ []) (sym (eq-eqb (time_bits p) 0 none))

pub some_time : (p : Plan) → time_bits p ≢ 0 → always_entry role.Time (λ c. next_time p c) ∷ [] ≡ time_entries p
some_time p some = ap (λ b. if b then [] else always_entry role.Time (λ c. next_time p c) ∷ []) (sym (ne_eqb (time_bits p) 0 some))

pub node_span : (p : Plan) (i k : ℕ) (node : Node Timed) (n : TimedNode) → slice_get p.program.nodes i ≡ Some n → timed_node node ≡ n → k ≡ max 1 (body_of (timed_node node)).interval → k ≡ span p i
node_span p i k node n stands same is = is ∙ (ap (λ (m : TimedNode). max 1 (body_of m).interval) same ∙ sym (ap (λ o. max 1 (body_if o).interval) stands))

pub loop_stays : (p : Plan) (c : Cycle) (i : ℕ) (n : TimedNode) → slice_get p.program.nodes i ≡ Some n → is_loop (Some n) ≡ true
    → (holds c (Active i) && not (leaves_if p c i (slice_get p.program.nodes i))) ≡ stays_as p c i n
loop_stays p c i (block body end_) stands is = absurd (false≢true is)
loop_stays p c i (overlapped body exit next) stands is = ap (λ o. holds c (Active i) && not (leaves_if p c i o)) stands

pub block_stays : (p : Plan) (c : Cycle) (i : ℕ) (n : TimedNode) → is_loop (Some n) ≡ false → holds c (Active i) ≡ stays_as p c i n
block_stays p c i (block body end_) is = refl
block_stays p c i (overlapped body exit next) is = absurd (true≢false is)

pub never_initial : (p : Plan) (c : Cycle) → initial_cycles p ≡ 0 → false ≡ initial_goes p c
never_initial p c none = none_either (holds c Initial) ∙ sym (ap (λ n. holds c Initial && is_within c n) none)
  where
    none_either : (b : Bool) → false ≡ (b && false)
    none_either true = refl
    none_either false = refl

pub or_apart : (a b x : Bool) → ((a || b) || x) ≡ (a || (b || x))
or_apart true b x = refl
or_apart false b x = refl

pub interval_is : (p : Plan) (i : ℕ) (node : Node Timed) (n : TimedNode) → slice_get p.program.nodes i ≡ Some n → timed_node node ≡ n → (body_of (timed_node node)).interval ≡ (body_at p i).interval
interval_is p i node n stands same = ap (λ (m : TimedNode). (body_of m).interval) same ∙ sym (ap (λ o. (body_if o).interval) stands)
