-- What stands in the context of a circuit, and when a node's times have come.
use Rattle.std.proofs.Common.{◌≡◌, ◌<◌, ◌≤◌, ℕ, zero, suc, ◌/◌, ◌%◌, true, false, List, slice_get, Some, refl, sym, ap, ◌∙◌, subst, arith}
use Rattle.std.specs.Prelude.{◌==◌, ◌&&◌, ◌||◌, nat_le, max}
use Rattle.std.specs.Option.{option_map}
use Rattle.std.proofs.lemmas.Option.{slice_get-map}
use Rattle.std.proofs.lemmas.Bool.{le-leb, lt-leb}
use Rattle.std.proofs.Math.Bool.{and-true}
use Rattle.rtl_core.specs.declared.design.Atom.{Atom}
use Rattle.ir_core.specs.declared.cfg.Node.{Node}
use Rattle.ir_core.specs.declared.timed.Timed.{Timed}
use Rattle.clock_ir.specs.ClockRuns.{timed_node}
use Rattle.datapath.specs.Plans.{Plan, body_at, body_of, bits_of, span}
use Rattle.datapath.specs.Cycles.{Register, Cycle, Time, Active, Passed, holds}
use Rattle.datapath.specs.Circuits.{width}
use Rattle.datapath.specs.Control.{greatest_time}
use Rattle.datapath.specs.Reading.{at, has_passed, at_iteration}
use Rattle.datapath.proofs.Programs.{node_body}
use Rattle.datapath.specs.CircuitWires.Carrying.{IsRegister}
use Rattle.circuit_context.specs.Bank.Banks.{names_of}
use Rattle.circuit_context.specs.declared.context.Context.{Context}
use Rattle.circuit_context.specs.Contexts.{IsContext, IsProgramOf}
use Rattle.circuit_context.proofs.Telling.{register_later}

-- ---- the program

pub program_of : (p : Plan) (names : List Register) (of : Context) → IsContext p names of → IsProgramOf p of.cfg.now
program_of p names of h = subst (λ q. IsProgramOf q of.cfg.now) (sym h.plan) (record { program = refl; arrays = refl; kept = refl })

pub node_there : (p : Plan) (names : List Register) (of : Context) (i : ℕ) (n : Node Timed) → IsContext p names of → slice_get of.cfg.now.nodes.items i ≡ Some n
    → slice_get p.program.nodes i ≡ Some (timed_node n)
node_there p names of i n h is =
    ap (λ (q : Plan). slice_get q.program.nodes i) h.plan ∙ (slice_get-map timed_node of.cfg.now.nodes.items i ∙ ap (option_map timed_node) is)

pub body_there : (p : Plan) (names : List Register) (of : Context) (i : ℕ) (n : Node Timed) → IsContext p names of → slice_get of.cfg.now.nodes.items i ≡ Some n → body_at p i ≡ body_of (timed_node n)
body_there p names of i n h is = node_body p of.cfg.now.nodes.items i n (ap (λ (q : Plan). q.program.nodes) h.plan) is

pub span_there : (p : Plan) (names : List Register) (of : Context) (i k : ℕ) (n : Node Timed) → IsContext p names of → slice_get of.cfg.now.nodes.items i ≡ Some n
    → k ≡ max 1 (body_of (timed_node n)).interval → k ≡ span p i
span_there p names of i k n h is value = value ∙ sym (ap (λ b. max 1 b.interval) (body_there p names of i n h is))

-- ---- the bank

-- the registers of the bank are registers of the circuit
pub banked : (p : Plan) (names : List Register) (of : Context) (a : Atom) (r : Register) → IsContext p names of → IsRegister (names_of of.bank) a r → IsRegister names a r
banked p names of a r h is = subst (λ ns. IsRegister ns a r) (sym h.names_) (register_later (names_of of.bank) h.more a r is)

-- ---- times

-- the time of what begins again with each cycle
pub at_each : (p : Plan) (c : Cycle) (i t k : ℕ) → k ≡ span p i → k ≤ 1 → holds c (Active i) ≡ at p c i t
at_each p c i t k same short =
    let each : nat_le (span p i) 1 ≡ true = le-leb (span p i) 1 (subst (λ n. n ≤ 1) same short) in
    sym (ap (λ b. holds c (Active i) && (b || (c.regs Time == t % span p i))) each ∙ and-true (holds c (Active i)))

pub at_counted : (p : Plan) (c : Cycle) (i t k : ℕ) → k ≡ span p i → 1 < k → (holds c (Active i) && (c.regs Time == t % k)) ≡ at p c i t
at_counted p c i t k same long =
    let some : nat_le (span p i) 1 ≡ false = lt-leb (span p i) 1 (subst (λ n. 1 < n) same long) in
    ap (λ n. holds c (Active i) && (c.regs Time == t % n)) same ∙ sym (ap (λ b. holds c (Active i) && (b || (c.regs Time == t % span p i))) some)

-- in the first interval every iteration is one from the first on
pub at_first : (p : Plan) (c : Cycle) (i t k : ℕ) → k ≡ span p i → t / k ≡ 0 → at p c i t ≡ at_iteration p c i t
at_first p c i t k same none =
    sym (ap (λ n. at p c i t && has_passed c n) (ap (λ n. t / n) (sym same) ∙ none) ∙ and-true (at p c i t))

pub passed_is : (c : Cycle) (n : ℕ) → 0 < n → has_passed c n ≡ holds c (Passed n)
passed_is c zero h = absurd (omega (arith, h))
passed_is c (suc n) h = refl

pub at_later : (p : Plan) (c : Cycle) (i t k : ℕ) → k ≡ span p i → 0 < t / k → (at p c i t && holds c (Passed (t / k))) ≡ at_iteration p c i t
at_later p c i t k same some =
    ap (λ b. at p c i t && b) (sym (passed_is c (t / k) some)) ∙ ap (λ n. at p c i t && has_passed c (t / n)) same

-- ---- no times

pub no_time : (p : Plan) → greatest_time p ≡ 0 → width p Time ≡ 0
no_time p none = ap bits_of none
