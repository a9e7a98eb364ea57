-- What the wires of a divider have.
use Rattle.std.proofs.Common.{◌≡◌, ◌≤◌, ℕ, ◌+◌, ◌-◌, ◌/◌, ◌%◌, ◌^◌, Bool, true, false, List, [], ◌∷◌, refl, subst, arith}
use Rattle.std.specs.Prelude.{◌==◌, ◌&&◌, ◌||◌, not, if◌then◌else◌}
use Rattle.std.proofs.lemmas.Bool.{false≢true}
use Rattle.std.proofs.lemmas.Nat.{pow_pos}
use Rattle.rtl_core.specs.declared.design.Atom.{Atom}
use Rattle.rtl_core.specs.declared.design.Atom.TheVariants as atom
use Rattle.rtl_core.specs.declared.design.Pair.TheVariants as pair
use Rattle.rtl_core.specs.declared.design.Net.TheVariants as net
use Rattle.rtl_core.specs.declared.design.Wire.{Wire}
use Rattle.rtl_core.specs.Netlist.{Netlist}
use Rattle.rtl_core.specs.Valid.{IsBetween}
use Rattle.rtl_units.specs.Fragments.{up, wire_of, zero_of}
use Rattle.rtl_units.specs.Division.{wider, step_bits, all_ones, sign_wires, negated_wires, state_at, subtract_wires, subtraction_at, choose_wires, step_wires}
use Rattle.datapath.specs.Plans.{Plan}
use Rattle.datapath.specs.Cycles.{Register, Steps, Dividend, Remainder, Divisor, Cycle, bit}
use Rattle.datapath.specs.Units.{is_dividing, negated, negated_if, top_bit, trial, difference, borrows, next_dividend, next_remainder}
use Rattle.datapath.proofs.Combining.{bit_and_tells, bit_or_tells, bit_not_tells, bit_same}
use Rattle.circuit_context.specs.Wanted.Driving.{Seen}
use Rattle.circuit_units.proofs.UnitsLemmas.Seeing.{Stand, stand_first, stand_second, Has, has_as, has_bounded, has_constant, has_copy, has_not, has_two, has_pick, has_join, has_part}
use Rattle.circuit_units.proofs.UnitsLemmas.Parts.{bit_is_one, wider_is, steps_fit, step_between, ones_fit, one_less, low_is, top_is, sign_is, borrow_is, negated_is, no_high}

-- the wires of a divider's work from number m on, where the registers stand from number r and the step's wires from number k on
abbrev pub work_of : ℕ → ℕ → Atom → Atom → ℕ → ℕ → List Wire
work_of m bits start left r k =
    wire_of 1 (net.Two pair.Equal (atom.Reg (r + 0)) (zero_of (step_bits bits)))
    ∷ wire_of 1 (net.Not (atom.Wire m))
    ∷ wire_of 1 (net.Two pair.Or start (atom.Wire (up 1 m)))
    ∷ wire_of (step_bits bits) (net.Two pair.Add (atom.Reg (r + 0)) (atom.Constant (step_bits bits) (all_ones (step_bits bits))))
    ∷ wire_of (step_bits bits) (net.Pick start (atom.Constant (step_bits bits) bits) (atom.Wire (up 3 m)))
    ∷ wire_of bits (net.Pick start left (atom.Wire (up 9 k)))
    ∷ wire_of bits (net.Pick start (zero_of bits) (atom.Wire (up 10 k)))
    ∷ []

module _ (p : Plan) (names : List Register) (sigs : List Seen) (e : Netlist) where
  abbrev pub Shown : ℕ → Atom → (Cycle → ℕ) → Type 0
  Shown bits a value = Has p names sigs e bits a value

  -- an operand that has signs and is below 0
  pub sign_shown : (m bits : ℕ) (signed operand : Atom) (S X : Cycle → ℕ) → 1 ≤ bits → Stand e m (sign_wires m bits signed operand) → Shown 1 signed S → Shown bits operand X
      → Shown 1 (atom.Wire (up 2 m)) (λ c. bit ((S c == 1) && top_bit bits (X c)))
  sign_shown m bits signed operand S X some stand s x =
      let copied : Shown bits (atom.Wire m) X = has_copy p names sigs e m bits bits operand X (stand 0 _ refl) x in
      let part = has_part p names sigs e (up 1 m) 1 bits (bits - 1) (bits - 1) (atom.Wire m) X (stand 1 _ refl) copied in
      let top : Shown 1 (atom.Wire (up 1 m)) (λ c. bit (top_bit bits (X c))) = has_as p names sigs e 1 (atom.Wire (up 1 m)) _ (λ c. bit (top_bit bits (X c))) (λ c. sign_is bits (X c) some) part in
      let one : Shown 1 signed (λ c. bit (S c == 1)) = has_bounded p names sigs e 1 signed S (λ c. bit (S c == 1)) 1 signed S s (λ c h. bit_is_one (S c) h) s in
      has_as p names sigs e 1 (atom.Wire (up 2 m)) _ (λ c. bit ((S c == 1) && top_bit bits (X c))) (λ c. bit_and_tells (S c == 1) (top_bit bits (X c)))
      (has_two p names sigs e (up 2 m) 1 1 1 pair.And signed (atom.Wire (up 1 m)) (λ c. bit (S c == 1)) (λ c. bit (top_bit bits (X c))) (stand 2 _ refl) one top)

  -- a value, or its negative
  pub negated_shown : (m bits : ℕ) (test operand : Atom) (T : Cycle → Bool) (X : Cycle → ℕ) → 1 ≤ bits → bits ≤ 64 → Stand e m (negated_wires m bits test operand) → Shown 1 test (λ c. bit (T c))
      → Shown bits operand X → Shown bits (atom.Wire (up 1 m)) (λ c. negated_if (T c) bits (X c))
  negated_shown m bits test operand T X some most stand t x =
      let none : Shown bits (zero_of bits) (λ c. 0) = has_constant p names sigs e bits 0 (some, omega (arith, most)) (pow_pos bits) in
      let less = has_two p names sigs e m bits bits bits pair.Sub (zero_of bits) operand (λ c. 0) X (stand 0 _ refl) none x in
      let negative : Shown bits (atom.Wire m) (λ c. negated bits (X c)) = has_as p names sigs e bits (atom.Wire m) _ (λ c. negated bits (X c)) (λ c. negated_is bits (X c)) less in
      has_pick p names sigs e (up 1 m) bits bits bits test (atom.Wire m) operand T (λ c. negated bits (X c)) X (stand 1 _ refl) t negative x

  -- the registers of a divider, from this number on
  pub record AreState (bits n r : ℕ) : Type 0 where
    pub steps : Shown (step_bits bits) (atom.Reg (r + 0)) (λ c. c.regs (Steps bits n))
    pub dividend : Shown bits (atom.Reg (r + 1)) (λ c. c.regs (Dividend bits n))
    pub remainder : Shown bits (atom.Reg (r + 2)) (λ c. c.regs (Remainder bits n))
    pub divisor : Shown bits (atom.Reg (r + 3)) (λ c. c.regs (Divisor bits n))

  -- the wires of a subtraction, from this number on
  record IsSubtraction (bits n m : ℕ) : Type 0 where
    trial_ : Shown (bits + 1) (atom.Wire (up 1 m)) (λ c. trial c bits n)
    difference_ : Shown (bits + 1) (atom.Wire (up 3 m)) (λ c. difference c bits n)
    borrow : Shown 1 (atom.Wire (up 4 m)) (λ c. bit (borrows c bits n))

  subtraction_shown : (m bits n r : ℕ) → 1 ≤ bits → bits ≤ 64 → Stand e m (subtract_wires m bits (state_at r)) → AreState bits n r → IsSubtraction bits n m
  subtraction_shown m bits n r some most stand are =
      let wide : wider bits ≡ bits + 1 = wider_is bits most in
      let D : Cycle → ℕ = λ c. c.regs (Dividend bits n) in
      let V : Cycle → ℕ = λ c. c.regs (Divisor bits n) in
      let part = has_part p names sigs e m 1 bits (bits - 1) (bits - 1) (atom.Reg (r + 1)) D (stand 0 _ refl) are.dividend in
      let top : Shown 1 (atom.Wire m) (λ c. D c / 2 ^ (bits - 1)) = has_bounded p names sigs e 1 (atom.Wire m) _ (λ c. D c / 2 ^ (bits - 1)) bits (atom.Reg (r + 1)) D are.dividend (λ c h. top_is bits (D c) some h) part in
      let tried : Shown (wider bits) (atom.Wire (up 1 m)) (λ c. trial c bits n) =
      has_join p names sigs e (up 1 m) (wider bits) bits 1 (atom.Reg (r + 2)) (atom.Wire m) (λ c. c.regs (Remainder bits n)) (λ c. D c / 2 ^ (bits - 1)) (stand 1 _ refl) are.remainder top in
      let none : Shown 1 (zero_of 1) (λ c. 0) = has_constant p names sigs e 1 0 (omega arith, omega arith) (omega arith) in
      let joined = has_join p names sigs e (up 2 m) (wider bits) 1 bits (zero_of 1) (atom.Reg (r + 3)) (λ c. 0) V (stand 2 _ refl) none are.divisor in
      let by : Shown (wider bits) (atom.Wire (up 2 m)) V = has_as p names sigs e (wider bits) (atom.Wire (up 2 m)) _ V (λ c. no_high bits (V c)) joined in
      let less = has_two p names sigs e (up 3 m) (wider bits) (wider bits) (wider bits) pair.Sub (atom.Wire (up 1 m)) (atom.Wire (up 2 m)) (λ c. trial c bits n) V (stand 3 _ refl) tried by in
      let left : Shown (bits + 1) (atom.Wire (up 3 m)) (λ c. difference c bits n) = subst (λ w. Shown w (atom.Wire (up 3 m)) (λ c. (trial c bits n + (2 ^ w - V c)) % 2 ^ w)) wide less in
      let taken = has_part p names sigs e (up 4 m) 1 (bits + 1) bits bits (atom.Wire (up 3 m)) (λ c. difference c bits n) (stand 4 _ refl) left in
      record {
        trial_ = subst (λ w. Shown w (atom.Wire (up 1 m)) (λ c. trial c bits n)) wide tried;
        difference_ = left;
        borrow = has_bounded p names sigs e 1 (atom.Wire (up 4 m)) _ (λ c. bit (borrows c bits n)) (bits + 1) (atom.Wire (up 3 m)) (λ c. difference c bits n) left
            (λ c h. borrow_is bits (difference c bits n) h) taken;
      }

  -- what a step gives, its wires from this number on
  pub record IsStep (bits n m : ℕ) : Type 0 where
    pub dividend : Shown bits (atom.Wire (up 9 m)) (λ c. next_dividend c bits n)
    pub remainder : Shown bits (atom.Wire (up 10 m)) (λ c. next_remainder c bits n)

  choice_shown : (m bits n r : ℕ) → 2 ≤ bits → Stand e (up 5 m) (choose_wires (up 5 m) bits (atom.Reg (r + 1)) (subtraction_at m)) → Shown bits (atom.Reg (r + 1)) (λ c. c.regs (Dividend bits n))
      → IsSubtraction bits n m → IsStep bits n m
  choice_shown m bits n r some stand has is =
      let k : ℕ = up 5 m in
      let D : Cycle → ℕ = λ c. c.regs (Dividend bits n) in
      let T : Cycle → ℕ = λ c. trial c bits n in
      let F : Cycle → ℕ = λ c. difference c bits n in
      let B : Cycle → Bool = λ c. borrows c bits n in
      let one : 1 ≤ bits = omega (arith, some) in
      let less : 1 ≤ bits - 1 = omega (arith, some) in
      let kept : Shown bits (atom.Wire k) (λ c. T c % 2 ^ bits) =
      has_as p names sigs e bits (atom.Wire k) _ (λ c. T c % 2 ^ bits) (λ c. low_is bits (T c) one) (has_part p names sigs e k bits (bits + 1) (bits - 1) 0 (atom.Wire (up 1 m)) T (stand 0 _ refl) is.trial_) in
      let left : Shown bits (atom.Wire (up 1 k)) (λ c. F c % 2 ^ bits) =
      has_as p names sigs e bits (atom.Wire (up 1 k)) _ (λ c. F c % 2 ^ bits) (λ c. low_is bits (F c) one)
      (has_part p names sigs e (up 1 k) bits (bits + 1) (bits - 1) 0 (atom.Wire (up 3 m)) F (stand 1 _ refl) is.difference_) in
      let digit : Shown 1 (atom.Wire (up 2 k)) (λ c. bit (not (B c))) =
      has_as p names sigs e 1 (atom.Wire (up 2 k)) _ (λ c. bit (not (B c))) (λ c. bit_not_tells (B c)) (has_not p names sigs e (up 2 k) 1 1 (atom.Wire (up 4 m)) (λ c. bit (B c)) (stand 2 _ refl) is.borrow) in
      let rest : Shown (bits - 1) (atom.Wire (up 3 k)) (λ c. D c % 2 ^ (bits - 1)) =
      has_as p names sigs e (bits - 1) (atom.Wire (up 3 k)) _ (λ c. D c % 2 ^ (bits - 1)) (λ c. low_is (bits - 1) (D c) less)
      (has_part p names sigs e (up 3 k) (bits - 1) bits (bits - 1 - 1) 0 (atom.Reg (r + 1)) D (stand 3 _ refl) has) in
      record {
        dividend = has_join p names sigs e (up 4 k) bits (bits - 1) 1 (atom.Wire (up 3 k)) (atom.Wire (up 2 k)) (λ c. D c % 2 ^ (bits - 1)) (λ c. bit (not (B c))) (stand 4 _ refl) rest digit;
        remainder = has_pick p names sigs e (up 5 k) bits bits bits (atom.Wire (up 4 m)) (atom.Wire k) (atom.Wire (up 1 k)) B (λ c. T c % 2 ^ bits) (λ c. F c % 2 ^ bits) (stand 5 _ refl) is.borrow kept left;
      }

  -- one step of a division
  pub step_shown : (m bits n r : ℕ) → 2 ≤ bits → bits ≤ 64 → Stand e m (step_wires m bits (state_at r)) → AreState bits n r → IsStep bits n m
  step_shown m bits n r some most stand are =
      let first = subtraction_shown m bits n r (omega (arith, some)) most (stand_first e m (subtract_wires m bits (state_at r)) (choose_wires (up 5 m) bits (atom.Reg (r + 1)) (subtraction_at m)) stand) are in
      choice_shown m bits n r some (stand_second e m (subtract_wires m bits (state_at r)) (choose_wires (up 5 m) bits (atom.Reg (r + 1)) (subtraction_at m)) stand) are.dividend first

  -- what the registers take that change with each step, and when
  pub record IsWork (bits n m : ℕ) (L : Cycle → ℕ) : Type 0 where
    pub enable : Shown 1 (atom.Wire (up 2 m)) (λ c. bit (is_dividing p c bits n || not (c.regs (Steps bits n) == 0)))
    pub steps : Shown (step_bits bits) (atom.Wire (up 4 m)) (λ c. if is_dividing p c bits n then bits else (if c.regs (Steps bits n) == 0 then 2 ^ step_bits bits - 1 else c.regs (Steps bits n) - 1))
    pub dividend : Shown bits (atom.Wire (up 5 m)) (λ c. if is_dividing p c bits n then L c else next_dividend c bits n)
    pub remainder : Shown bits (atom.Wire (up 6 m)) (λ c. if is_dividing p c bits n then 0 else next_remainder c bits n)

  pub work_shown : (m bits n r k : ℕ) (start left : Atom) (L : Cycle → ℕ) → 2 ≤ bits → bits ≤ 64 → Stand e m (work_of m bits start left r k) → Shown 1 start (λ c. bit (is_dividing p c bits n))
      → AreState bits n r → Shown bits left L → IsStep bits n k → IsWork bits n m L
  work_shown m bits n r k start left L some most stand starts are has is =
      let sb : ℕ = step_bits bits in
      let S : Cycle → Bool = λ c. is_dividing p c bits n in
      let Q : Cycle → ℕ = λ c. c.regs (Steps bits n) in
      let low : 6 ≤ sb = (step_between bits).0 in
      let high : sb ≤ 7 = (step_between bits).1 in
      let wide : IsBetween 1 128 sb = (omega (arith, low), omega (arith, high)) in
      let none : Shown sb (zero_of sb) (λ c. 0) = has_constant p names sigs e sb 0 wide (pow_pos sb) in
      let ended : Shown 1 (atom.Wire m) (λ c. bit (Q c == 0)) =
      has_as p names sigs e 1 (atom.Wire m) _ (λ c. bit (Q c == 0)) (λ c. bit_same (Q c == 0)) (has_two p names sigs e m 1 sb sb pair.Equal (atom.Reg (r + 0)) (zero_of sb) Q (λ c. 0) (stand 0 _ refl) are.steps none) in
      let going : Shown 1 (atom.Wire (up 1 m)) (λ c. bit (not (Q c == 0))) =
      has_as p names sigs e 1 (atom.Wire (up 1 m)) _ (λ c. bit (not (Q c == 0))) (λ c. bit_not_tells (Q c == 0)) (has_not p names sigs e (up 1 m) 1 1 (atom.Wire m) (λ c. bit (Q c == 0)) (stand 1 _ refl) ended) in
      let ones : Shown sb (atom.Constant sb (all_ones sb)) (λ c. all_ones sb) = has_constant p names sigs e sb (all_ones sb) wide (ones_fit bits) in
      let less : Shown sb (atom.Wire (up 3 m)) (λ c. if Q c == 0 then 2 ^ sb - 1 else Q c - 1) =
      has_bounded p names sigs e sb (atom.Wire (up 3 m)) _ (λ c. if Q c == 0 then 2 ^ sb - 1 else Q c - 1) sb (atom.Reg (r + 0)) Q are.steps (λ c h. one_less bits (Q c) h)
      (has_two p names sigs e (up 3 m) sb sb sb pair.Add (atom.Reg (r + 0)) (atom.Constant sb (all_ones sb)) Q (λ c. all_ones sb) (stand 3 _ refl) are.steps ones) in
      let count : Shown sb (atom.Constant sb bits) (λ c. bits) = has_constant p names sigs e sb bits wide (steps_fit bits most) in
      let empty : Shown bits (zero_of bits) (λ c. 0) = has_constant p names sigs e bits 0 (omega (arith, some), omega (arith, most)) (pow_pos bits) in
      record {
        enable = has_as p names sigs e 1 (atom.Wire (up 2 m)) _ (λ c. bit (S c || not (Q c == 0))) (λ c. bit_or_tells (S c) (not (Q c == 0)))
            (has_two p names sigs e (up 2 m) 1 1 1 pair.Or start (atom.Wire (up 1 m)) (λ c. bit (S c)) (λ c. bit (not (Q c == 0))) (stand 2 _ refl) starts going);
        steps = has_pick p names sigs e (up 4 m) sb sb sb start (atom.Constant sb bits) (atom.Wire (up 3 m)) S (λ c. bits) (λ c. if Q c == 0 then 2 ^ sb - 1 else Q c - 1) (stand 4 _ refl) starts count less;
        dividend = has_pick p names sigs e (up 5 m) bits bits bits start left (atom.Wire (up 9 k)) S L (λ c. next_dividend c bits n) (stand 5 _ refl) starts has is.dividend;
        remainder = has_pick p names sigs e (up 6 m) bits bits bits start (zero_of bits) (atom.Wire (up 10 k)) S (λ c. 0) (λ c. next_remainder c bits n) (stand 6 _ refl) starts empty is.remainder;
      }

-- what a register takes with a step where it takes anything
pub step_taken : (s : Bool) (q first m : ℕ) → (s || not (q == 0)) ≡ true → (if s then first else (if q == 0 then m else q - 1)) ≡ (if s then first else q - 1)
step_taken true q first m e = refl
step_taken false q first m e = by (q == 0) e where
  by : (b : Bool) → not b ≡ true → (if b then m else q - 1) ≡ q - 1
  by true f = absurd (false≢true f)
  by false f = refl
