-- What the tests of loops and their gates are, from what is found of a node.
use Rattle.std.proofs.Common.{◌≡◌, ◌<◌, ◌≤◌, ℕ, zero, suc, ◌-◌, ◌/◌, ◌%◌, Bool, true, false, List, slice_get, Option, Some, None, refl, sym, ap, ◌∙◌, arith}
use Rattle.std.specs.Prelude.{◌==◌, ◌&&◌, ◌||◌, not, bit_and}
use Rattle.std.proofs.Math.Bool.{and-true}
use Rattle.rtl_core.specs.declared.design.Atom.{Atom}
use Rattle.rtl_core.specs.Netlist.{Netlist}
use Rattle.ir_core.specs.declared.body.Body.{Body}
use Rattle.ir_core.specs.declared.body.Operand.{Operand}
use Rattle.ir_core.specs.declared.body.Source.TheVariants as source
use Rattle.ir_core.specs.declared.cfg.Block.{Block}
use Rattle.ir_core.specs.declared.cfg.Loop.{Loop}
use Rattle.ir_core.specs.declared.cfg.Node.{Node}
use Rattle.ir_core.specs.declared.cfg.Node.TheVariants as node
use Rattle.ir_core.specs.declared.timed.Timed.{Timed}
use Rattle.dep_graph.specs.Dependences.{maker_by, maker_of}
use Rattle.clock_ir.specs.Flows.{known, timed_body}
use Rattle.clock_ir.specs.ClockRuns.{timed_node}
use Rattle.rtl_logic.specs.Making.{Makes}
use Rattle.datapath.specs.Plans.{Plan, Placed, bits_of, body_at, body_of, span}
use Rattle.datapath.specs.Cycles.{Register, Active, Gate, Waited, Cycle, holds, bit}
use Rattle.datapath.specs.Circuits.{width}
use Rattle.datapath.specs.Reading.{at, at_iteration, read_by, read_from, is_true}
use Rattle.datapath.specs.Control.{has_test, has_test_as, is_tested, test_holds, wait, leaves_loop, leaves_if, is_loop, greatest_wait, gate_after, gate_at, may_store}
use Rattle.datapath.specs.CircuitWires.Carrying.{IsRegister, IsBegun, MakesTelling}
use Rattle.datapath.proofs.Combining.{carries_as, there_already}
use Rattle.circuit_context.specs.declared.context.Context.{Context}
use Rattle.circuit_context.specs.Contexts.{IsContext}
use Rattle.circuit_context.proofs.Telling.{holds_tells, made_behind, both_tell}
use Rattle.circuit_context.proofs.Standing.{body_there, node_there}

-- ---- bits

-- a number of one bit tells whether it is not 0
pub not_zero : (x : ℕ) → x < 2 → x ≡ bit (not (x == 0))
not_zero zero h = refl
not_zero (suc zero) h = refl
not_zero (suc (suc x)) h = absurd (omega (arith, h))

-- two bits that are made one after the other
pub both_made : (p : Plan) (names : List Register) (d e f g : Netlist) (l r a : Atom) (L R : Cycle → Bool) → MakesTelling p names d e l L → MakesTelling p names e f r R
    → Makes f g 1 a (λ v x. x ≡ bit_and (v l) (v r)) → MakesTelling p names d g a (λ c. L c && R c)
both_made p names d e f g l r a L R left right made =
    made_behind p names d e g 1 a (λ c. bit (L c && R c)) left.appends (both_tell p names e f g l r a L R left.carries right made)

-- a register of one bit, said in another way
pub register_tells : (p : Plan) (names : List Register) (d : Netlist) (a : Atom) (r : Register) (test : Cycle → Bool) → IsBegun p names d → width p r ≡ 1 → ((c : Cycle) → holds c r ≡ test c) → IsRegister names a r
    → MakesTelling p names d d a test
register_tells p names d a r test begun one same is =
    carries_as p names d d 1 a (λ c. bit (holds c r)) (λ c. bit (test c)) (λ c. ap bit (same c)) (there_already p names d 1 a (λ c. bit (holds c r)) begun (holds_tells p names d a r begun one is))

-- ---- tests

pub constant_is : (p : Plan) (c : Cycle) (i t : ℕ) (x : Operand) (word : ℕ) → x.value ≡ source.Constant word → not (word == 0) ≡ is_true p c i t (Some x)
constant_is p c i t x word is =
    let none : maker_of (body_at p i).outs x ≡ None = ap (maker_by (body_at p i).outs x.distance) is in
    sym (ap (λ n. not (n == 0)) (ap (read_by p c i t x) none ∙ ap (read_from c) is))

pub test_there : (p : Plan) (names : List Register) (of : Context) (i : ℕ) (n : Node Timed) (b : Body Timed) → IsContext p names of → slice_get of.cfg.now.nodes.items i ≡ Some n
    → timed_body (body_of (timed_node n)).interval b ≡ body_of (timed_node n) → b.test ≡ (body_at p i).test
test_there p names of i n b h is body = ap (λ y. y.test) body ∙ sym (ap (λ y. y.test) (body_there p names of i n h is))

pub known_there : (p : Plan) (names : List Register) (of : Context) (i t : ℕ) (n : Node Timed) → IsContext p names of → slice_get of.cfg.now.nodes.items i ≡ Some n → t ≡ known (body_of (timed_node n))
    → t ≡ known (body_at p i)
known_there p names of i t n h is time = time ∙ sym (ap known (body_there p names of i n h is))

pub test_is : (p : Plan) (names : List Register) (of : Context) (i : ℕ) (n : Node Timed) (b : Body Timed) (found value : Bool) → IsContext p names of → slice_get of.cfg.now.nodes.items i ≡ Some n
    → timed_body (body_of (timed_node n)).interval b ≡ body_of (timed_node n) → found ≡ has_test_as b.test → found ≡ value → has_test p i ≡ value
test_is p names of i n b found value h is body test tells = sym (ap has_test_as (test_there p names of i n b h is body)) ∙ (sym test ∙ tells)

pub not_tested : (p : Plan) (c : Cycle) (i : ℕ) → has_test p i ≡ false → false ≡ is_tested p c i
not_tested p c i none = sym (ap (λ b. b && at_iteration p c i (known (body_at p i))) none)

pub tested_at : (p : Plan) (c : Cycle) (i t : ℕ) → has_test p i ≡ true → t ≡ known (body_at p i) → at_iteration p c i t ≡ is_tested p c i
tested_at p c i t some time = ap (at_iteration p c i) time ∙ sym (ap (λ b. b && at_iteration p c i (known (body_at p i))) some)

pub holds_at : (p : Plan) (c : Cycle) (i t : ℕ) (test : Option Operand) → t ≡ known (body_at p i) → test ≡ (body_at p i).test → is_true p c i t test ≡ test_holds p c i
holds_at p c i t test time same = ap (λ n. is_true p c i n test) time ∙ ap (is_true p c i (known (body_at p i))) same

-- ---- gates

pub after_cycles : (p : Plan) (c : Cycle) (i tests rest : ℕ) → 0 < rest → holds c (Gate tests) ≡ gate_after p c i tests rest
after_cycles p c i tests zero h = absurd (omega (arith, h))
after_cycles p c i zero (suc rest) h = refl
after_cycles p c i (suc tests) (suc rest) h = refl

pub after_tests : (p : Plan) (c : Cycle) (i tests rest : ℕ) → rest ≤ 0 → 0 < tests → holds c (Gate (tests - 1)) ≡ gate_after p c i tests rest
after_tests p c i tests (suc rest) none h = absurd (omega (arith, none))
after_tests p c i zero zero none h = absurd (omega (arith, h))
after_tests p c i (suc tests) zero none h =
    let before : suc tests - 1 ≡ tests = omega arith in
    ap (λ n. holds c (Gate n)) before

pub after_none : (p : Plan) (c : Cycle) (i tests rest : ℕ) → rest ≤ 0 → tests ≤ 0 → gate_after p c i 0 0 ≡ gate_after p c i tests rest
after_none p c i tests (suc rest) none h = absurd (omega (arith, none))
after_none p c i (suc tests) zero none h = absurd (omega (arith, h))
after_none p c i zero zero none h = refl

pub gated_there : (p : Plan) (names : List Register) (of : Context) (i : ℕ) (n : Node Timed) (found value : Bool) → IsContext p names of → slice_get of.cfg.now.nodes.items i ≡ Some n
    → found ≡ (is_loop (Some (timed_node n)) && has_test_as (body_of (timed_node n)).test) → found ≡ value → (is_loop (slice_get p.program.nodes i) && has_test p i) ≡ value
gated_there p names of i n found value h is gated tells =
    ap (λ o. is_loop o && has_test p i) (node_there p names of i n h is)
    ∙ (ap (λ b. is_loop (Some (timed_node n)) && has_test_as b.test) (body_there p names of i n h is) ∙ (sym gated ∙ tells))

-- whether the node is a loop that may be left
abbrev gated : Plan → ℕ → Bool
gated p i = is_loop (slice_get p.program.nodes i) && has_test p i

-- the gate of a store
abbrev gate_of : Plan → Cycle → Placed → Bool
gate_of p c x = gate_at p c x.node (x.op.start - known (body_at p x.node))

pub stores_always : (p : Plan) (c : Cycle) (x : Placed) → gated p x.node ≡ false → at_iteration p c x.node x.op.start ≡ may_store p c x
stores_always p c x none =
    let now = at_iteration p c x.node x.op.start in
    sym (ap (λ b. now && (not b || gate_of p c x)) none ∙ and-true now)

pub stores_behind : (p : Plan) (c : Cycle) (x : Placed) (since k : ℕ) → gated p x.node ≡ true → since ≡ x.op.start - known (body_at p x.node) → k ≡ span p x.node
    → (at_iteration p c x.node x.op.start && gate_after p c x.node (since / k) (since % k)) ≡ may_store p c x
stores_behind p c x since k some time same =
    let now = at_iteration p c x.node x.op.start in
    ap (λ n. now && gate_after p c x.node (since / n) (since % n)) same ∙ (ap (λ n. now && gate_at p c x.node n) time ∙ sym (ap (λ b. now && (not b || gate_of p c x)) some))

-- ---- the last cycle

pub no_wait : (p : Plan) (k : ℕ) → k ≡ greatest_wait p → k ≤ 1 → width p Waited ≡ 0
no_wait p k same few =
    let none : greatest_wait p - 1 ≡ 0 = omega (arith, same, few) in
    ap bits_of none

pub never_leaves : (p : Plan) (c : Cycle) (i n : ℕ) → has_test p i ≡ false → false ≡ leaves_loop p c i n
never_leaves p c i zero none = sym (ap (λ b. (b && at_iteration p c i (known (body_at p i))) && not (test_holds p c i)) none)
never_leaves p c i (suc n) none = sym (ap (λ b. b && (holds c (Active i) && (not (holds c (Gate 0)) && (c.regs Waited == n)))) none)

pub leaves_late : (p : Plan) (c : Cycle) (i n : ℕ) → has_test p i ≡ true → (n ≡ 0 → ⊥) → (holds c (Active i) && (not (holds c (Gate 0)) && (c.regs Waited == n - 1))) ≡ leaves_loop p c i n
leaves_late p c i zero some h = absurd (h refl)
leaves_late p c i (suc n) some h =
    let before : suc n - 1 ≡ n = omega arith in
    ap (λ m. holds c (Active i) && (not (holds c (Gate 0)) && (c.regs Waited == m))) before
    ∙ sym (ap (λ b. b && (holds c (Active i) && (not (holds c (Gate 0)) && (c.regs Waited == n)))) some)

pub block_left : (p : Plan) (names : List Register) (of : Context) (c : Cycle) (i k : ℕ) (n : Node Timed) (b : Block Timed) → IsContext p names of → slice_get of.cfg.now.nodes.items i ≡ Some n → n ≡ node.Plain b → k ≡ span p i
    → at p c i (k - 1) ≡ leaves_if p c i (slice_get p.program.nodes i)
block_left p names of c i k n b h is plain same =
    ap (λ m. at p c i (m - 1)) same ∙ sym (ap (leaves_if p c i) (node_there p names of i n h is ∙ ap (λ m. Some (timed_node m)) plain))

pub loop_left : (p : Plan) (names : List Register) (of : Context) (c : Cycle) (i w : ℕ) (n : Node Timed) (r : Loop Timed) → IsContext p names of → slice_get of.cfg.now.nodes.items i ≡ Some n → n ≡ node.Looped r
    → w ≡ wait (timed_body r.ii r.body) r.exit → leaves_loop p c i w ≡ leaves_if p c i (slice_get p.program.nodes i)
loop_left p names of c i w n r h is looped same =
    ap (leaves_loop p c i) same ∙ sym (ap (leaves_if p c i) (node_there p names of i n h is ∙ ap (λ m. Some (timed_node m)) looped))
