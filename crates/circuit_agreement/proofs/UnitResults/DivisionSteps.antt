-- A divider begins with the operands of the division that starts, and goes on with them step by step.
use Rattle.std.proofs.Common.{◌≡◌, ◌≢◌, ℕ, suc, ◌+◌, ◌-◌, ◌%◌, ◌^◌, ◌<◌, ◌≤◌, Bool, true, false, not, ◌&&◌, List, [], ◌∷◌, map, Option, Some, None, refl, sym, ap, ap₂, ◌∙◌, subst, inl, inr, arith}
use Rattle.std.specs.Prelude.{slice_get, get_or, ◌==◌}
use Rattle.std.proofs.lemmas.Bool.{cases_Bool, eq-eqb, ne_eqb, cond-true, cond-false, or_left, or_right, or_from}
use Rattle.ir_core.specs.declared.body.OpKind.{OpKind}
use Rattle.ir_core.specs.declared.body.OpKind.TheVariants as o
use Rattle.ir_core.specs.declared.timing.UnitClass.{UnitClass}
use Rattle.ir_core.specs.declared.timing.UnitClass.TheVariants as u
use Rattle.ir_core.specs.Timing.{occupancy}
use Rattle.ir_core.specs.Value.{value}
use Rattle.ir_core.specs.Bodies.{OpTree, Shapes, Words, effect, first_bits}
use Rattle.clock_ir.specs.Flows.{TimedOp, Flow, is_at, operand_at, holds_at, tick}
use Rattle.datapath.specs.Plans.{Plan, Placed, body_at, unit_of}
use Rattle.datapath.specs.Cycles.{Steps, Dividend, Remainder, Divisor, QuotientSign, RemainderSign, LeftOf, RightOf, SignedOf, Contents, Signal, Cycle, in_cycle, bit}
use Rattle.rtl_logic.specs.Choosing.{where_, Takes}
use Rattle.datapath.specs.Reading.{is_starting, arguments}
use Rattle.datapath.specs.Units.{is_of_class, users, top_bit, negated_if, is_dividing, left_negative, right_negative, next_dividend, next_remainder, division_write}
use Rattle.datapath.specs.Circuits.{IsCycle, IsAfter}
use Rattle.circuit_agreement.specs.CircuitFlow.Compiled.{IsDivision}
use Rattle.circuit_agreement.specs.UnitResults.Divisions.{IsDivided, is_negative, absolute, differ}
use Rattle.circuit_agreement.specs.UnitResults.UnderWay.{placed_at, HasStarted, Divides}
use Rattle.circuit_agreement.specs.UnitResults.{HasWidths}
use Rattle.circuit_agreement.proofs.UnitResults.Dividing.{begins, steps_divide}
use Rattle.circuit_agreement.proofs.UnitResults.Signs.{signed_as}
use Rattle.circuit_agreement.proofs.UnitResults.Lists.{any_true, any_false}
use Rattle.circuit_agreement.proofs.UnitResults.Turns.{occupied}
use Rattle.circuit_agreement.proofs.UnitResults.Cycles.{Going, reads_arguments, ticked_under_way, starts_now, uses, one_user, is_given}
use Rattle.circuit_agreement.proofs.UnitResults.Widths.{argument_fits}

-- ---- divisions

pub of_divider : (kind : OpKind) (bits : ℕ) → IsDivision kind → is_of_class (u.Divider bits) kind bits ≡ true
of_divider o.Div bits h = eq-eqb bits bits refl
of_divider o.Rem bits h = eq-eqb bits bits refl
of_divider kind bits h = absurd h

occupied_for : (kind : OpKind) (bits : ℕ) → IsDivision kind → occupancy kind bits ≡ bits + 2
occupied_for o.Div bits h = refl
occupied_for o.Rem bits h = refl
occupied_for kind bits h = absurd h

division_gives : (kind : OpKind) (shapes : Shapes) (op : OpTree) (allowed : Bool) (from other : ℕ) (args : List ℕ) (t : Words) → IsDivision kind
    → (effect shapes op kind allowed from args t).result ≡ value kind op.signed op.bits other (get_or args 0 0 ∷ get_or args 1 0 ∷ [])
division_gives o.Div shapes op allowed from other args t h = refl
division_gives o.Rem shapes op allowed from other args t h = refl
division_gives kind shapes op allowed from other args t h = absurd h

pub bit_is : (b : Bool) → (bit b == 1) ≡ b
bit_is true = refl
bit_is false = refl

bits_differ : (a b : Bool) → (bit a + bit b) % 2 ≡ bit (differ a b)
bits_differ true true = refl
bits_differ true false = refl
bits_differ false true = refl
bits_differ false false = refl

-- ---- registers that change with each step, and those that do not

first_taken : (p : Plan) (c : Cycle) (bits n first next z : ℕ) (other : Option ℕ) → Takes (division_write p c bits n first next) other z → is_dividing p c bits n ≡ true → z ≡ first
first_taken p c bits n first next z other t now = t.wanted first (or_left _ false (or_left (is_dividing p c bits n) _ now)) ((λ w. cond-true _ _ _ now), _)

next_taken : (p : Plan) (c : Cycle) (bits n first next z : ℕ) (other : Option ℕ) → Takes (division_write p c bits n first next) other z → is_dividing p c bits n ≡ false
    → not (c.regs (Steps bits n) == 0) ≡ true → z ≡ next
next_taken p c bits n first next z other t none more = t.wanted next (or_left _ false (or_right (is_dividing p c bits n) _ more)) ((λ w. cond-false _ _ _ none), _)

once_taken : (b : Bool) (v z : ℕ) (other : Option ℕ) → Takes (where_ b v ∷ []) other z → b ≡ true → z ≡ v
once_taken b v z other t now = t.wanted v (or_left b false now) ((λ w. refl), _)

once_kept : (b : Bool) (v z before : ℕ) → Takes (where_ b v ∷ []) (Some before) z → b ≡ false → z ≡ before
once_kept b v z before t none = t.else_ (or_from b false none refl)

module _ (p : Plan) (i : ℕ) (f : Flow) (x y : Contents) (signals : Signal → ℕ) (pins : List ℕ) (g : Going p i f x signals pins) (is_cycle : IsCycle p (in_cycle x signals pins))
    (after : IsAfter p (in_cycle x signals pins) y) (k : ℕ) (it : TimedOp) (is : slice_get (body_at p i).ops k ≡ Some it) (division : IsDivision it.op.kind) where
  abbrev c : Cycle
  c = in_cycle x signals pins

  abbrev bits : ℕ
  bits = it.op.bits

  abbrev class : UnitClass
  class = u.Divider it.op.bits

  abbrev unit_ : ℕ
  unit_ = unit_of p (placed_at i k it)

  abbrev args : List ℕ
  args = map (operand_at (body_at p i) f it.start) it.op.args

  abbrev argument : ℕ → ℕ
  argument j = get_or (map (operand_at (body_at p i) f it.start) it.op.args) j 0

  of : is_of_class class it.op.kind it.op.bits ≡ true
  of = of_divider it.op.kind it.op.bits division

  few : it.op.bits ≤ 64
  few = g.compiled.fits.bits i k it is

  wide : occupied it ≡ bits + 2
  wide = occupied_for it.op.kind it.op.bits division

  -- ---- a division starts

  module _ (now : is_at (body_at p i).interval it.start f.time ≡ true) where
    taken : (j : ℕ) → get_or (arguments p c (placed_at i k it)) j 0 ≡ argument j
    taken j = ap (λ (l : List ℕ). get_or l j 0) (reads_arguments p i f c k it g.sees is now)

    early : 0 < occupied it
    early = omega (arith, wide)

    left : signals (LeftOf class unit_) ≡ argument 0
    left = is_given p i f x signals pins g k it is class of (λ (q : Placed). get_or (arguments p c q) 0 0) None (signals (LeftOf class unit_)) now early (is_cycle (LeftOf class unit_)) ∙ taken 0

    right : signals (RightOf class unit_) ≡ argument 1
    right = is_given p i f x signals pins g k it is class of (λ (q : Placed). get_or (arguments p c q) 1 0) None (signals (RightOf class unit_)) now early (is_cycle (RightOf class unit_)) ∙ taken 1

    sign : signals (SignedOf class unit_) ≡ bit it.op.signed
    sign = is_given p i f x signals pins g k it is class of (λ (q : Placed). bit q.op.op.signed) None (signals (SignedOf class unit_)) now early (is_cycle (SignedOf class unit_))

    dividing : is_dividing p c bits unit_ ≡ true
    dividing =
        let h = uses p i f x signals pins g k it is class of in
        any_true (is_starting p c) (users p class unit_) h.place (placed_at i k it) h.stands (starts_now p i f x signals pins g k it now)

    is_signed : (signals (SignedOf class unit_) == 1) ≡ it.op.signed
    is_signed = ap (λ (v : ℕ). v == 1) sign ∙ bit_is it.op.signed

    left_is : left_negative c bits unit_ ≡ is_negative it.op.signed bits (argument 0)
    left_is = ap₂ (λ (b : Bool) (v : ℕ). b && top_bit bits v) is_signed left

    right_is : right_negative c bits unit_ ≡ is_negative it.op.signed bits (argument 1)
    right_is = ap₂ (λ (b : Bool) (v : ℕ). b && top_bit bits v) is_signed right

    fits : HasWidths p x → (j : ℕ) → argument j < 2 ^ bits
    fits widths j =
        subst (λ (v : ℕ). v < 2 ^ bits) (taken j)
        (argument_fits p g.compiled i g.node g.there x widths signals pins bits it.start it.op.args (λ m z e. g.compiled.fits.operands i k m it z is division e) j)

    pub division_begins : HasWidths p x → Divides p i (tick p.program.shapes (body_at p i) f) y k 0 it
    division_begins widths =
        let a : ℕ = argument 0 in
        let b : ℕ = argument 1 in
        let from : ℕ = first_bits p.program.shapes.widths (map (λ (q : TimedOp). q.op) (body_at p i).ops) it.op it.op.args in
        let dividend_ : y.regs (Dividend bits unit_) ≡ absolute it.op.signed bits a =
        first_taken p c bits unit_ _ _ (y.regs (Dividend bits unit_)) _ (after.regs (Dividend bits unit_)) dividing ∙ ap₂ (λ (s : Bool) (v : ℕ). negated_if s bits v) left_is left in
        let remainder_ : y.regs (Remainder bits unit_) ≡ 0 = first_taken p c bits unit_ _ _ (y.regs (Remainder bits unit_)) _ (after.regs (Remainder bits unit_)) dividing in
        let s = signed_as it.op.signed bits a few (fits widths 0) in
        record {
          dividend = a;
          divisor = b;
          dividend_fits = fits widths 0;
          divisor_fits = fits widths 1;
          gives = λ other.
              ticked_under_way p i f k 0 it is
              ∙ division_gives it.op.kind p.program.shapes it.op (holds_at (body_at p i) f it.start it.op.guard) from other args (record { variables = f.entry; memories = f.memories }) division;
          divides = record {
            steps = first_taken p c bits unit_ _ _ (y.regs (Steps bits unit_)) _ (after.regs (Steps bits unit_)) dividing ∙ (let e : bits ≡ bits - 0 = omega arith in e);
            divisor_ = once_taken (is_dividing p c bits unit_) _ (y.regs (Divisor bits unit_)) _ (after.regs (Divisor bits unit_)) dividing ∙ ap₂ (λ (t : Bool) (v : ℕ). negated_if t bits v) right_is right;
            divided = subst (λ (v : ℕ). IsDivided bits 0 (absolute it.op.signed bits a) (absolute it.op.signed bits b) (y.regs (Dividend bits unit_)) v) (sym remainder_)
                (subst (λ (v : ℕ). IsDivided bits 0 (absolute it.op.signed bits a) (absolute it.op.signed bits b) v 0) (sym dividend_)
                (begins bits (absolute it.op.signed bits a) (absolute it.op.signed bits b) s.fits));
            quotient_sign = once_taken (is_dividing p c bits unit_) _ (y.regs (QuotientSign bits unit_)) _ (after.regs (QuotientSign bits unit_)) dividing
                ∙ (ap₂ (λ (l r : Bool). (bit l + bit r) % 2) left_is right_is ∙ bits_differ (is_negative it.op.signed bits a) (is_negative it.op.signed bits b));
            remainder_sign = once_taken (is_dividing p c bits unit_) _ (y.regs (RemainderSign bits unit_)) _ (after.regs (RemainderSign bits unit_)) dividing ∙ ap bit left_is;
          };
        }

  -- ---- a division goes on

  pub division_goes_on : (n : ℕ) → n < it.op.bits → HasStarted p i f it (suc n) → Divides p i f x k n it → Divides p i (tick p.program.shapes (body_at p i) f) y k (suc n) it
  division_goes_on n small started d =
      let early : suc n < occupied it = omega (arith, wide, small) in
      let none : is_dividing p c bits unit_ ≡ false =
      any_false (is_starting p c) (users p class unit_) (λ m q e.
      elim (cases_Bool (is_starting p c q)) [
        | inl start ↦ let h = (one_user p i f x signals pins g k it is class of (suc n) m q started early e start).0 in absurd (omega (arith, h))
        | inr quiet ↦ quiet
      ]) in
      let left_ : x.regs (Steps bits unit_) ≢ 0 = λ e. (let s = d.divides.steps in omega (arith, e, s, small)) in
      let more : not (x.regs (Steps bits unit_) == 0) ≡ true = ap not (ne_eqb (x.regs (Steps bits unit_)) 0 left_) in
      let a : ℕ = absolute it.op.signed bits d.dividend in
      let b : ℕ = absolute it.op.signed bits d.divisor in
      let b_fits : x.regs (Divisor bits unit_) < 2 ^ bits = let s = signed_as it.op.signed bits d.divisor few d.divisor_fits in subst (λ (v : ℕ). v < 2 ^ bits) (sym d.divides.divisor_) s.fits in
      let so_far : IsDivided bits n a (x.regs (Divisor bits unit_)) (x.regs (Dividend bits unit_)) (x.regs (Remainder bits unit_)) =
      subst (λ (v : ℕ). IsDivided bits n a v (x.regs (Dividend bits unit_)) (x.regs (Remainder bits unit_))) (sym d.divides.divisor_) d.divides.divided in
      let next_ : IsDivided bits (n + 1) a (x.regs (Divisor bits unit_)) (next_dividend c bits unit_) (next_remainder c bits unit_) =
      steps_divide bits n a (x.regs (Divisor bits unit_)) (x.regs (Dividend bits unit_)) (x.regs (Remainder bits unit_)) small b_fits so_far in
      let dividend_ : y.regs (Dividend bits unit_) ≡ next_dividend c bits unit_ = next_taken p c bits unit_ _ _ (y.regs (Dividend bits unit_)) _ (after.regs (Dividend bits unit_)) none more in
      let remainder_ : y.regs (Remainder bits unit_) ≡ next_remainder c bits unit_ = next_taken p c bits unit_ _ _ (y.regs (Remainder bits unit_)) _ (after.regs (Remainder bits unit_)) none more in
      let count : n + 1 ≡ suc n = omega arith in
      record {
        dividend = d.dividend;
        divisor = d.divisor;
        dividend_fits = d.dividend_fits;
        divisor_fits = d.divisor_fits;
        gives = λ from. ticked_under_way p i f k (suc n) it is ∙ d.gives from;
        divides = record {
          steps = next_taken p c bits unit_ _ _ (y.regs (Steps bits unit_)) _ (after.regs (Steps bits unit_)) none more ∙ (let s = d.divides.steps in omega (arith, s, small));
          divisor_ = once_kept (is_dividing p c bits unit_) _ (y.regs (Divisor bits unit_)) (x.regs (Divisor bits unit_)) (after.regs (Divisor bits unit_)) none ∙ d.divides.divisor_;
          divided = subst (λ (m : ℕ). IsDivided bits m a b (y.regs (Dividend bits unit_)) (y.regs (Remainder bits unit_))) count
              (subst (λ (v : ℕ). IsDivided bits (n + 1) a v (y.regs (Dividend bits unit_)) (y.regs (Remainder bits unit_))) d.divides.divisor_
              (subst (λ (v : ℕ). IsDivided bits (n + 1) a (x.regs (Divisor bits unit_)) (y.regs (Dividend bits unit_)) v) (sym remainder_)
              (subst (λ (v : ℕ). IsDivided bits (n + 1) a (x.regs (Divisor bits unit_)) v (next_remainder c bits unit_)) (sym dividend_) next_)));
          quotient_sign = once_kept (is_dividing p c bits unit_) _ (y.regs (QuotientSign bits unit_)) (x.regs (QuotientSign bits unit_)) (after.regs (QuotientSign bits unit_)) none
              ∙ d.divides.quotient_sign;
          remainder_sign = once_kept (is_dividing p c bits unit_) _ (y.regs (RemainderSign bits unit_)) (x.regs (RemainderSign bits unit_)) (after.regs (RemainderSign bits unit_)) none
              ∙ d.divides.remainder_sign;
        };
      }
