-- Where operands stand.
use Rattle.std.proofs.Common.{◌≡◌, ◌<◌, ◌^◌, ℕ, ◌+◌, ◌-◌, ◌*◌, ◌/◌, List, Option, Some, None, Result, Ok, Err, refl, sym, ap, ◌∙◌, subst, arith}
use Rattle.std.specs.Prelude.{IfOk}
use Rattle.std.specs.declared.alloc.AllocError.{AllocError}
use Rattle.std.specs.Option.{option_map}
use Rattle.std.proofs.lemmas.Option.{none-some, same_Some}
use Rattle.hls_base.specs.declared.number.OpId.{OpId}
use Rattle.rtl_core.specs.declared.design.Atom.{Atom}
use Rattle.rtl_core.specs.declared.design.Atom.TheVariants as atom
use Rattle.rtl_core.specs.Netlist.{Netlist}
use Rattle.rtl_core.specs.Valid.{IsBetween}
use Rattle.ir_core.specs.declared.body.Operand.{Operand}
use Rattle.dep_graph.specs.Dependences.{maker_of}
use Rattle.clock_ir.specs.Flows.{TimedBody, place, ready}
use Rattle.datapath.specs.Plans.{Plan, body_at}
use Rattle.datapath.specs.Cycles.{Register, Value, Cycle}
use Rattle.datapath.specs.Reading.{held_by, result_at, read_from, read_by, operand}
use Rattle.datapath.specs.CircuitWires.Carrying.{Carries}
use Rattle.circuit_context.specs.Wanted.Logs.{CarriesSome}
use Rattle.datapath.specs.Held.{IsHeldBy}
use Rattle.circuit_context.proofs.Telling.{number_carries}

pub chain_some : (o : Option OpId) (n : ℕ) (op : OpId) (d : ℕ) → ◌≡◌ {A = Option (OpId × ℕ)} (Some (op, d)) (option_map (λ (q : OpId). (q, n)) o) → (o ≡ Some op) × (d ≡ n)
chain_some None n op d h = absurd (none-some (op, d) (sym h))
chain_some (Some q) n op d h =
    let same : ◌≡◌ {A = OpId × ℕ} (op, d) (q, n) = same_Some (op, d) (q, n) h in
    (ap Some (sym (ap (λ (x : OpId × ℕ). x.0) same)), ap (λ (x : OpId × ℕ). x.1) same)

pub chain_none : (o : Option OpId) (n : ℕ) → ◌≡◌ {A = Option (OpId × ℕ)} None (option_map (λ (q : OpId). (q, n)) o) → o ≡ None
chain_none None n h = refl
chain_none (Some q) n h = absurd (none-some (q, n) h)

over_none : (n : ℕ) → n / 0 ≡ 0
over_none n = omega arith

-- without an interval each place is the first one
pub no_interval : (interval a t distance : ℕ) → interval ≡ 0 → 0 ≡ place interval a t distance
no_interval interval a t distance none =
    sym (ap (λ n. (t + distance * interval - a) / n) none ∙ over_none (t + distance * interval - a))

-- an operand that a chain of results holds
pub chain_read : (p : Plan) (c : Cycle) (i t j : ℕ) (x : Operand) (op : OpId) (b : TimedBody) → body_at p i ≡ b → maker_of b.outs x ≡ Some op
    → j ≡ place b.interval (ready b op) t x.distance → result_at p c i op.0 j ≡ operand p c i t x
chain_read p c i t j x op b body made is =
    ap (result_at p c i op.0) (is ∙ ap (λ (b : TimedBody). place b.interval (ready b op) t x.distance) (sym body))
    ∙ sym (ap (read_by p c i t x) (ap (λ (b : TimedBody). maker_of b.outs x) body ∙ made))

-- an operand of which no chain is read
pub other_read : (p : Plan) (c : Cycle) (i t : ℕ) (x : Operand) (b : TimedBody) → body_at p i ≡ b → maker_of b.outs x ≡ None → read_from c x.value ≡ operand p c i t x
other_read p c i t x b body made = sym (ap (read_by p c i t x) (ap (λ (b : TimedBody). maker_of b.outs x) body ∙ made))

-- a register that holds a place
pub place_read : (p : Plan) (c : Cycle) (i op j r : ℕ) → IsHeldBy p.held i op j r → c.regs (Value r) ≡ result_at p c i op j
place_read p c i op j r h = ap (λ n. c.regs (Value n)) (sym h.register_) ∙ sym (ap (held_by c) h.found)

-- a constant
pub constant_read : (p : Plan) (names : List Register) (d : Netlist) (bits k : ℕ) (r : Result Atom AllocError) → IfOk r (λ a. a ≡ atom.Constant bits k) → IfOk r (λ a. IsBetween 1 64 bits)
    → IfOk r (λ a. k < 2 ^ bits) → IfOk r (λ a. CarriesSome p names d a (λ c. k))
constant_read p names d bits k (Ok a) is between less = record { bits = bits; carries = number_carries p names d bits k a is between less }
constant_read p names d bits k (Err e) is between less = tt

-- an atom that has so many bits
pub as_wide : (p : Plan) (names : List Register) (d : Netlist) (n bits : ℕ) (of : Atom) (r : Result Atom AllocError) (value : Cycle → ℕ) → Carries p names d n of value → IfOk r (λ a. a ≡ of) → IfOk r (λ a. n ≡ bits)
    → IfOk r (λ a. Carries p names d bits a value)
as_wide p names d n bits of (Ok a) value h is same = subst (λ b. Carries p names d bits b value) (sym is) (subst (λ m. Carries p names d m of value) same h)
as_wide p names d n bits of (Err e) value h is same = tt
