-- Each operation gives its result in the cycle before it is there.
use Rattle.std.proofs.Common.{◌≡◌, ◌≢◌, ℕ, zero, suc, ◌+◌, ◌-◌, ◌*◌, ◌%◌, ◌^◌, ◌≤◌, Bool, true, false, ◌&&◌, List, [], ◌∷◌, map, Some, refl, sym, ap, ap₂, ◌∙◌, subst, inl, inr, arith}
use Rattle.std.specs.Prelude.{slice_get, ◌==◌}
use Rattle.std.proofs.lemmas.Bool.{cases_Bool, and_left, and_right, and_from, eq-eqb}
use Rattle.hls_base.specs.declared.number.ArrayId.{ArrayId}
use Rattle.ir_core.specs.declared.body.OpKind.{OpKind}
use Rattle.ir_core.specs.declared.body.OpKind.TheVariants as o
use Rattle.ir_core.specs.declared.timing.UnitClass.TheVariants as u
use Rattle.ir_core.specs.Timing as timing
use Rattle.ir_core.specs.Value as v
use Rattle.ir_core.specs.Value.{value, number_of}
use Rattle.ir_core.specs.Bodies.{OpTree, Shapes, Words, effect, first_bits}
use Rattle.clock_ir.specs.Flows.{TimedOp, Flow, latency, is_at, pushed, operand_at, holds_at, given}
use Rattle.clock_ir.specs.ClockRuns.{TimedNode}
use Rattle.datapath.specs.Plans.{Plan, Placed, body_at, all_ops, unit_of}
use Rattle.datapath.specs.Cycles.{Register, Left, Right, Dividend, Remainder, QuotientSign, RemainderSign, Word, Contents, Cycle, bit, holds}
use Rattle.datapath.specs.Units.{users, is_of_class, negated_if, has_signs, quotient, remainder}
use Rattle.datapath.specs.Ports.{port_of}
use Rattle.datapath.specs.Values.{word_read, computed, arriving_as, arriving_of, arriving}
use Rattle.datapath.specs.Blocks.{IsSimple}
use Rattle.circuit_agreement.specs.CircuitFlow.Compiled.{IsCompiled, IsDivision}
use Rattle.circuit_agreement.specs.CircuitFlow.Flows.{Sees}
use Rattle.circuit_agreement.specs.UnitResults.Divisions.{is_negative, absolute, differ}
use Rattle.circuit_agreement.specs.UnitResults.UnderWay.{placed_at, HasStarted, HasUnderWay}
use Rattle.circuit_agreement.specs.UnitResults.{UnitsGive}
use Rattle.circuit_agreement.proofs.UnitResults.Dividing.{ends}
use Rattle.circuit_agreement.proofs.UnitResults.Signs.{signed_as, quotient_is, remainder_is}
use Rattle.circuit_agreement.proofs.UnitResults.Lists.{in_filter, any_true}
use Rattle.circuit_agreement.proofs.UnitResults.Times.{at_before}
use Rattle.circuit_agreement.proofs.UnitResults.Operations.{op_in}
use Rattle.circuit_agreement.proofs.UnitResults.Cycles.{reads_arguments}
use Rattle.circuit_agreement.proofs.UnitResults.DivisionSteps.{of_divider, bit_is}

-- ---- operations with a unit of their own

one_cycle : (kind : OpKind) (bits : ℕ) → IsSimple kind → timing.latency kind bits ≡ 1
one_cycle o.Mul bits h = absurd h
one_cycle o.Div bits h = absurd h
one_cycle o.Rem bits h = absurd h
one_cycle o.Load bits h = absurd h
one_cycle o.Store bits h = absurd h
one_cycle kind bits h = refl

arrives : (kind : OpKind) (p : Plan) (c : Cycle) (q : Placed) → IsSimple kind → arriving_as kind p c q ≡ computed p c q
arrives o.Mul p c q h = absurd h
arrives o.Div p c q h = absurd h
arrives o.Rem p c q h = absurd h
arrives o.Load p c q h = absurd h
arrives o.Store p c q h = absurd h
arrives kind p c q h = refl

performs : (kind : OpKind) (shapes : Shapes) (op : OpTree) (allowed : Bool) (from : ℕ) (args : List ℕ) (t : Words) → IsSimple kind
    → (effect shapes op kind allowed from args t).result ≡ value kind op.signed op.bits from args
performs o.Mul shapes op allowed from args t h = absurd h
performs o.Div shapes op allowed from args t h = absurd h
performs o.Rem shapes op allowed from args t h = absurd h
performs o.Load shapes op allowed from args t h = absurd h
performs o.Store shapes op allowed from args t h = absurd h
performs kind shapes op allowed from args t h = refl

module _ (p : Plan) (i : ℕ) (n : TimedNode) (f : Flow) (c : Cycle) (x : Contents) (compiled : IsCompiled p) (there : slice_get p.program.nodes i ≡ Some n) (same : c.regs ≡ x.regs)
    (under : HasUnderWay p i f x) (sees : Sees p i f c) (k : ℕ) (it : TimedOp) (is : slice_get (body_at p i).ops k ≡ Some it)
    (comes : is_at (body_at p i).interval (it.start + latency it) (suc f.time) ≡ true) where
  abbrev mine : Placed
  mine = placed_at i k it

  abbrev given_ : ℕ
  given_ = given p.program.shapes (body_at p i) f it

  abbrev Gives : OpKind → Type 0
  Gives kind = arriving_as kind p c (placed_at i k it) ≡ pushed (given p.program.shapes (body_at p i) f it) (f.under_way k) (latency it - 1)

  reg : (r : Register) → c.regs r ≡ x.regs r
  reg r = ap (λ (regs : Register → ℕ). regs r) same

  -- it started so many cycles ago, and one more
  started : (ago : ℕ) → latency it ≡ ago + 1 → is_at (body_at p i).interval (it.start + ago) f.time ≡ true
  started ago e =
      at_before (body_at p i).interval (it.start + ago) f.time
      (subst (λ (t : ℕ). is_at (body_at p i).interval t (suc f.time) ≡ true) (let z : it.start + latency it ≡ it.start + ago + 1 = omega (arith, e) in z) comes)

  behind : (ago : ℕ) → latency it ≡ suc ago + 1 → f.under_way k ago ≡ pushed given_ (f.under_way k) (latency it - 1)
  behind ago e = ap (pushed given_ (f.under_way k)) (let z : suc ago ≡ latency it - 1 = omega (arith, e) in z)

  simple : (kind : OpKind) → it.op.kind ≡ kind → IsSimple kind → Gives kind
  simple kind e h =
      let from : ℕ = first_bits p.program.shapes.widths (map (λ (q : TimedOp). q.op) (body_at p i).ops) it.op it.op.args in
      let once : latency it ≡ 1 = ap (λ (z : OpKind). timing.latency z it.op.bits) e ∙ one_cycle kind it.op.bits h in
      let now : is_at (body_at p i).interval it.start f.time ≡ true =
      subst (λ (t : ℕ). is_at (body_at p i).interval t f.time ≡ true) (let z : it.start + 0 ≡ it.start = omega arith in z) (started 0 (omega (arith, once))) in
      let h_ : IsSimple it.op.kind = subst IsSimple (sym e) h in
      let gives : given_ ≡ value it.op.kind it.op.signed it.op.bits from (map (operand_at (body_at p i) f it.start) it.op.args) =
      performs it.op.kind p.program.shapes it.op (holds_at (body_at p i) f it.start it.op.guard) from (map (operand_at (body_at p i) f it.start) it.op.args)
      (record { variables = f.entry; memories = f.memories }) h_ in
      arrives kind p c mine h
      ∙ (ap (value it.op.kind it.op.signed it.op.bits from) (reads_arguments p i f c k it sees is now)
      ∙ (sym gives ∙ ap (pushed given_ (f.under_way k)) (let z : zero ≡ latency it - 1 = omega (arith, once) in z)))

  multiplies : it.op.kind ≡ o.Mul → Gives o.Mul
  multiplies e =
      let twice : latency it ≡ 2 = ap (λ (z : OpKind). timing.latency z it.op.bits) e in
      ap₂ (λ (a b : ℕ). (a * b) % 2 ^ it.op.bits) (reg (Left it.op.bits (unit_of p mine))) (reg (Right it.op.bits (unit_of p mine)))
      ∙ (under.products k it is e (started 1 (omega (arith, twice))) ∙ behind 0 (omega (arith, twice)))

  loads_ : it.op.kind ≡ o.Load → Gives o.Load
  loads_ e =
      let twice : latency it ≡ 2 = ap (λ (z : OpKind). timing.latency z it.op.bits) e in
      let named = compiled.arrays.loads i k it is e in
      let array : ArrayId = named.0 in
      ap (word_read p c mine) named.1.0
      ∙ (reg (Word array.0 (port_of p array.0 mine)) ∙ (under.words k it array is e named.1.0 (started 1 (omega (arith, twice))) ∙ behind 0 (omega (arith, twice))))

  -- ---- divisions

  module _ (division : IsDivision it.op.kind) (long : latency it ≡ it.op.bits + 2) where
    abbrev bits : ℕ
    bits = it.op.bits

    abbrev unit_ : ℕ
    unit_ = unit_of p (placed_at i k it)

    few : it.op.bits ≤ 64
    few = compiled.fits.bits i k it is

    since : HasStarted p i f it (suc it.op.bits)
    since = started (suc it.op.bits) (omega (arith, long))

    -- a sign that only a signed division has
    sign_is : (b : Bool) (r : Register) → x.regs r ≡ bit b → (it.op.signed ≡ false → b ≡ false) → (has_signs p bits unit_ && holds c r) ≡ b
    sign_is b r e unsigned =
        let held : holds c r ≡ b = ap (λ (z : ℕ). z == 1) (reg r ∙ e) ∙ bit_is b in
        elim (cases_Bool it.op.signed) [
          | inl yes_ ↦
              let h = op_in p i k n it there is in
              let user = in_filter (λ (q : Placed). is_of_class (u.Divider bits) q.op.op.kind q.op.op.bits && (unit_of p q == unit_)) (all_ops p) h.place mine h.stands
              (and_from _ _ (of_divider it.op.kind bits division) (eq-eqb unit_ unit_ refl)) in
              let signs : has_signs p bits unit_ ≡ true = any_true (λ (q : Placed). q.op.op.signed) (users p (u.Divider bits) unit_) user.place mine user.stands yes_ in
              ap₂ (λ (s t : Bool). s && t) signs held
          | inr no_ ↦ and_right (has_signs p bits unit_) (holds c r) (held ∙ unsigned no_) ∙ sym (unsigned no_)
        ]

    divided : (it.op.kind ≡ o.Div → quotient p c bits unit_ ≡ f.under_way k bits) × (it.op.kind ≡ o.Rem → remainder p c bits unit_ ≡ f.under_way k bits)
    divided =
        let d = under.divisions k bits it is division (omega arith) since in
        let s : Bool = it.op.signed in
        let a = signed_as s bits d.dividend few d.dividend_fits in
        let b = signed_as s bits d.divisor few d.divisor_fits in
        let ln : Bool = is_negative s bits d.dividend in
        let rn : Bool = is_negative s bits d.divisor in
        let e = ends bits (absolute s bits d.dividend) (absolute s bits d.divisor) (x.regs (Dividend bits unit_)) (x.regs (Remainder bits unit_)) d.divides.divided in
        let left_none : s ≡ false → ln ≡ false = λ z. and_left s _ z in
        let right_none : s ≡ false → rn ≡ false = λ z. and_left s _ z in
        let sign_q = sign_is (differ ln rn) (QuotientSign bits unit_) d.divides.quotient_sign (λ z. ap₂ differ (left_none z) (right_none z)) in
        let sign_r = sign_is ln (RemainderSign bits unit_) d.divides.remainder_sign left_none in (
          λ kind.
              ap₂ (λ (t : Bool) (w : ℕ). negated_if t bits w) sign_q (reg (Dividend bits unit_))
              ∙ (quotient_is bits (absolute s bits d.dividend) (absolute s bits d.divisor) (x.regs (Dividend bits unit_)) (x.regs (Remainder bits unit_)) ln rn few a.some b.some e
              ∙ (sym (ap₂ (v.quotient bits) a.is b.is) ∙ sym (d.gives 0 ∙ ap (λ (z : OpKind). value z s bits 0 (d.dividend ∷ d.divisor ∷ [])) kind))),
          λ kind.
              ap₂ (λ (t : Bool) (w : ℕ). negated_if t bits w) sign_r (reg (Remainder bits unit_))
              ∙ (remainder_is bits (absolute s bits d.dividend) (absolute s bits d.divisor) (x.regs (Dividend bits unit_)) (x.regs (Remainder bits unit_)) ln rn few a.fits a.some b.some e
              ∙ (sym (ap₂ (v.remainder bits) a.is b.is) ∙ sym (d.gives 0 ∙ ap (λ (z : OpKind). value z s bits 0 (d.dividend ∷ d.divisor ∷ [])) kind))),
        )

  divides_ : it.op.kind ≡ o.Div → Gives o.Div
  divides_ e =
      let long : latency it ≡ it.op.bits + 2 = ap (λ (z : OpKind). timing.latency z it.op.bits) e in
      (divided (subst IsDivision (sym e) _) long).0 e ∙ behind it.op.bits (omega (arith, long))

  leaves_rest : it.op.kind ≡ o.Rem → Gives o.Rem
  leaves_rest e =
      let long : latency it ≡ it.op.bits + 2 = ap (λ (z : OpKind). timing.latency z it.op.bits) e in
      (divided (subst IsDivision (sym e) _) long).1 e ∙ behind it.op.bits (omega (arith, long))

  -- ---- all kinds

  gives_as : (kind : OpKind) → it.op.kind ≡ kind → kind ≢ o.Store → Gives kind
  gives_as o.Mul e h = multiplies e
  gives_as o.Div e h = divides_ e
  gives_as o.Rem e h = leaves_rest e
  gives_as o.Load e h = loads_ e
  gives_as o.Store e h = absurd (h refl)
  gives_as kind e h = simple kind e _

  pub gives : it.op.kind ≢ o.Store → arriving p c i k ≡ pushed (given p.program.shapes (body_at p i) f it) (f.under_way k) (latency it - 1)
  gives no_store = ap (arriving_of p c i k) is ∙ gives_as it.op.kind refl no_store

pub units_give : UnitsGive
units_give p i n f c x compiled there same under sees k it is no_store comes = gives p i n f c x compiled there same under sees k it is comes no_store
