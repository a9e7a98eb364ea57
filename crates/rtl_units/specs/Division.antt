-- A restoring divider: in the cycle of its start it takes the absolute values of its operands, and then one bit of the quotient in each cycle. Its wires are numbered from n on.
use Rattle.std.specs.Prelude.{◌≡◌, ℕ, zero, suc, ◌+◌, ◌-◌, Bool, true, false, List, [], ◌∷◌, ◌++◌, min, nat_lt, ◌==◌, if◌then◌else◌}
use Rattle.rtl_core.specs.declared.design.Atom.{Atom}
use Rattle.rtl_core.specs.declared.design.Atom.TheVariants as atom
use Rattle.rtl_core.specs.declared.design.Pair.TheVariants as pair
use Rattle.rtl_core.specs.declared.design.Net.TheVariants as net
use Rattle.rtl_core.specs.declared.design.Wire.{Wire}
use Rattle.rtl_core.specs.declared.design.Reg.{Reg}
use Rattle.rtl_units.specs.declared.divider.Division.{Division}
use Rattle.rtl_units.specs.declared.divider.Taken.{Taken}
use Rattle.rtl_units.specs.declared.divider.State.{State}
use Rattle.rtl_units.specs.declared.divider.Step.{Step}
use Rattle.rtl_units.specs.declared.divider.Subtraction.{Subtraction}
use Rattle.rtl_units.specs.Fragments.{wire_of, register_of, zero_of, up}

abbrev pub is_unsigned : Atom → Bool
is_unsigned (atom.Constant bits value) = value == 0
is_unsigned _ = false

-- one bit more, as far as a width goes
abbrev pub wider : ℕ → ℕ
wider bits = min (bits + 1) 255

-- the bits of a number of steps, and that number less 1 is the number plus this one
abbrev pub step_bits : ℕ → ℕ
step_bits bits = if nat_lt bits 64 then 6 else 7

abbrev pub all_ones : ℕ → ℕ
all_ones width = if nat_lt width 7 then 63 else 127

-- the registers from number r on
abbrev pub state_at : ℕ → State
state_at r = record {
  steps = atom.Reg (r + 0);
  dividend = atom.Reg (r + 1);
  remainder = atom.Reg (r + 2);
  divisor = atom.Reg (r + 3);
  quotient_negative = atom.Reg (r + 4);
  remainder_negative = atom.Reg (r + 5);
}

-- whether an operand counts as negative: the last of these wires
abbrev pub sign_wires : ℕ → ℕ → Atom → Atom → List Wire
sign_wires n bits signed operand =
    wire_of bits (net.Copy operand) ∷ wire_of 1 (net.Part (atom.Wire n) (bits - 1) (bits - 1)) ∷ wire_of 1 (net.Two pair.And signed (atom.Wire (up 1 n))) ∷ []

-- a value, or its negative where the test is 1: the last of these wires
abbrev pub negated_wires : ℕ → ℕ → Atom → Atom → List Wire
negated_wires n bits test value = wire_of bits (net.Two pair.Sub (zero_of bits) value) ∷ wire_of bits (net.Pick test (atom.Wire n) value) ∷ []

-- the signs of both operands
abbrev pub signs_wires : ℕ → Division → List Wire
signs_wires n d = sign_wires n d.bits d.signed d.left ++ sign_wires (up 3 n) d.bits d.signed d.right

abbrev pub absolute_wires : ℕ → Division → Atom → Atom → List Wire
absolute_wires n d left_sign right_sign = negated_wires n d.bits left_sign d.left ++ negated_wires (up 2 n) d.bits right_sign d.right

-- absolute values, and the signs of quotient and remainder
abbrev pub take_wires : ℕ → Division → List Wire
take_wires n d =
    signs_wires n d
    ++ (absolute_wires (up 6 n) d (atom.Wire (up 2 n)) (atom.Wire (up 5 n)) ++ wire_of 1 (net.Two pair.Xor (atom.Wire (up 2 n)) (atom.Wire (up 5 n))) ∷ [])

abbrev pub taken_at : ℕ → Taken
taken_at n = record { left = atom.Wire (up 7 n); right = atom.Wire (up 9 n); quotient_negative = atom.Wire (up 10 n); remainder_negative = atom.Wire (up 2 n) }

-- operands without signs
abbrev pub taken_unsigned : Division → Taken
taken_unsigned d = record { left = d.left; right = d.right; quotient_negative = zero_of 1; remainder_negative = zero_of 1 }

-- the remainder with the next bit of the dividend, less the divisor, and whether that leaves a borrow
abbrev pub subtract_wires : ℕ → ℕ → State → List Wire
subtract_wires n bits s =
    wire_of 1 (net.Part s.dividend (bits - 1) (bits - 1))
    ∷ wire_of (wider bits) (net.Join s.remainder (atom.Wire n))
    ∷ wire_of (wider bits) (net.Join (zero_of 1) s.divisor)
    ∷ wire_of (wider bits) (net.Two pair.Sub (atom.Wire (up 1 n)) (atom.Wire (up 2 n)))
    ∷ wire_of 1 (net.Part (atom.Wire (up 3 n)) bits bits)
    ∷ []

abbrev pub subtraction_at : ℕ → Subtraction
subtraction_at n = record { trial = atom.Wire (up 1 n); difference = atom.Wire (up 3 n); borrow = atom.Wire (up 4 n) }

-- the subtraction counts if it leaves no borrow, and the dividend takes a bit of the quotient
abbrev pub choose_wires : ℕ → ℕ → Atom → Subtraction → List Wire
choose_wires n bits dividend x =
    wire_of bits (net.Part x.trial (bits - 1) 0)
    ∷ wire_of bits (net.Part x.difference (bits - 1) 0)
    ∷ wire_of 1 (net.Not x.borrow)
    ∷ wire_of (bits - 1) (net.Part dividend (bits - 1 - 1) 0)
    ∷ wire_of bits (net.Join (atom.Wire (up 3 n)) (atom.Wire (up 2 n)))
    ∷ wire_of bits (net.Pick x.borrow (atom.Wire n) (atom.Wire (up 1 n)))
    ∷ []

abbrev pub chosen_at : ℕ → Step
chosen_at n = record { dividend = atom.Wire (up 4 n); remainder = atom.Wire (up 5 n) }

abbrev pub step_wires : ℕ → ℕ → State → List Wire
step_wires n bits s = subtract_wires n bits s ++ choose_wires (up 5 n) bits s.dividend (subtraction_at n)

abbrev pub step_at : ℕ → Step
step_at n = record { dividend = atom.Wire (up 9 n); remainder = atom.Wire (up 10 n) }

-- how many steps are left, and the next values of the registers that change with each step
abbrev pub work_wires : ℕ → Division → State → Taken → Step → List Wire
work_wires n d s taken step =
    wire_of 1 (net.Two pair.Equal s.steps (zero_of (step_bits d.bits)))
    ∷ wire_of 1 (net.Not (atom.Wire n))
    ∷ wire_of 1 (net.Two pair.Or d.start (atom.Wire (up 1 n)))
    ∷ wire_of (step_bits d.bits) (net.Two pair.Add s.steps (atom.Constant (step_bits d.bits) (all_ones (step_bits d.bits))))
    ∷ wire_of (step_bits d.bits) (net.Pick d.start (atom.Constant (step_bits d.bits) d.bits) (atom.Wire (up 3 n)))
    ∷ wire_of d.bits (net.Pick d.start taken.left step.dividend)
    ∷ wire_of d.bits (net.Pick d.start (zero_of d.bits) step.remainder)
    ∷ []

abbrev pub work_registers : ℕ → Division → List Reg
work_registers n d =
    register_of (step_bits d.bits) (atom.Wire (up 2 n)) (atom.Wire (up 4 n))
    ∷ register_of d.bits (atom.Wire (up 2 n)) (atom.Wire (up 5 n))
    ∷ register_of d.bits (atom.Wire (up 2 n)) (atom.Wire (up 6 n))
    ∷ []

-- the whole divider, its registers numbered from r on
abbrev pub unsigned_wires : ℕ → ℕ → Division → List Wire
unsigned_wires r n d = step_wires n d.bits (state_at r) ++ work_wires (up 11 n) d (state_at r) (taken_unsigned d) (step_at n)

abbrev pub unsigned_registers : ℕ → Division → List Reg
unsigned_registers n d = work_registers (up 11 n) d ++ register_of d.bits d.start d.right ∷ []

abbrev pub signed_wires : ℕ → ℕ → Division → List Wire
signed_wires r n d =
    take_wires n d
    ++ (step_wires (up 11 n) d.bits (state_at r)
    ++ (work_wires (up 22 n) d (state_at r) (taken_at n) (step_at (up 11 n))
    ++ (negated_wires (up 29 n) d.bits (atom.Reg (r + 4)) (atom.Reg (r + 1)) ++ negated_wires (up 31 n) d.bits (atom.Reg (r + 5)) (atom.Reg (r + 2)))))

abbrev pub signed_registers : ℕ → Division → List Reg
signed_registers n d =
    work_registers (up 22 n) d
    ++ register_of d.bits d.start (atom.Wire (up 9 n))
    ∷ register_of 1 d.start (atom.Wire (up 10 n))
    ∷ register_of 1 d.start (atom.Wire (up 2 n))
    ∷ []

abbrev pub divider_wires : ℕ → ℕ → Division → List Wire
divider_wires r n d = if is_unsigned d.signed then unsigned_wires r n d else signed_wires r n d

abbrev pub divider_registers : ℕ → Division → List Reg
divider_registers n d = if is_unsigned d.signed then unsigned_registers n d else signed_registers n d

abbrev pub quotient_atom : ℕ → ℕ → Division → Atom
quotient_atom r n d = if is_unsigned d.signed then atom.Reg (r + 1) else atom.Wire (up 30 n)

abbrev pub remainder_atom : ℕ → ℕ → Division → Atom
remainder_atom r n d = if is_unsigned d.signed then atom.Reg (r + 2) else atom.Wire (up 32 n)
