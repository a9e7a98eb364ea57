-- Multipliers and dividers, which operations share: what they are given, and what their registers take.
use Rattle.std.specs.Prelude.{ℕ, ◌+◌, ◌-◌, ◌*◌, ◌/◌, ◌%◌, ◌^◌, ◌==◌, ◌&&◌, ◌||◌, nat_le, Bool, false, not, List, [], ◌∷◌, map, filter, get_or, if◌then◌else◌}
use Rattle.std.specs.List.{list_any}
use Rattle.ir_core.specs.declared.body.OpKind.{OpKind}
use Rattle.ir_core.specs.declared.body.OpKind.TheVariants as o
use Rattle.ir_core.specs.declared.timing.UnitClass.{UnitClass}
use Rattle.ir_core.specs.declared.timing.UnitClass.TheVariants as u
use Rattle.datapath.specs.Plans.{Plan, Placed, all_ops, unit_of}
use Rattle.datapath.specs.Cycles.{Left, Right, Steps, Dividend, Remainder, Divisor, QuotientSign, RemainderSign, LeftOf, RightOf, SignedOf, Cycle, holds, bit}
use Rattle.rtl_logic.specs.Choosing.{Write, where_}
use Rattle.datapath.specs.Reading.{is_starting, arguments}

-- ---- who uses a unit

abbrev pub is_of_class : UnitClass → OpKind → ℕ → Bool
is_of_class (u.Multiplier w) o.Mul bits = w == bits
is_of_class (u.Divider w) o.Div bits = w == bits
is_of_class (u.Divider w) o.Rem bits = w == bits
is_of_class class kind bits = false

abbrev pub users : Plan → UnitClass → ℕ → List Placed
users p class n = filter (λ (x : Placed). is_of_class class x.op.op.kind x.op.op.bits && (unit_of p x == n)) (all_ops p)

-- argument k of the operation that starts in this cycle
abbrev pub argument_write : Plan → Cycle → ℕ → Placed → Write
argument_write p c k x = where_ (is_starting p c x) (get_or (arguments p c x) k 0)

abbrev pub argument_writes : Plan → Cycle → UnitClass → ℕ → ℕ → List Write
argument_writes p c class n k = map (argument_write p c k) (users p class n)

abbrev pub signed_writes : Plan → Cycle → UnitClass → ℕ → List Write
signed_writes p c class n = map (λ (x : Placed). where_ (is_starting p c x) (bit x.op.op.signed)) (users p class n)

-- ---- multipliers

-- what a multiplier gives, one cycle after it was given its factors
abbrev pub product : Cycle → ℕ → ℕ → ℕ
product c bits n = (c.regs (Left bits n) * c.regs (Right bits n)) % 2 ^ bits

-- ---- restoring dividers

abbrev pub negated : ℕ → ℕ → ℕ
negated bits x = (2 ^ bits - x) % 2 ^ bits

abbrev pub negated_if : Bool → ℕ → ℕ → ℕ
negated_if negative bits x = if negative then negated bits x else x

abbrev pub top_bit : ℕ → ℕ → Bool
top_bit bits x = nat_le 1 (x / 2 ^ (bits - 1) % 2)

-- the division begins in this cycle
abbrev pub is_dividing : Plan → Cycle → ℕ → ℕ → Bool
is_dividing p c bits n = list_any (is_starting p c) (users p (u.Divider bits) n)

-- an operand that is given counts as negative
abbrev pub left_negative : Cycle → ℕ → ℕ → Bool
left_negative c bits n = (c.signals (SignedOf (u.Divider bits) n) == 1) && top_bit bits (c.signals (LeftOf (u.Divider bits) n))

abbrev pub right_negative : Cycle → ℕ → ℕ → Bool
right_negative c bits n = (c.signals (SignedOf (u.Divider bits) n) == 1) && top_bit bits (c.signals (RightOf (u.Divider bits) n))

-- the remainder with the next bit of the dividend, and this less the divisor, with a borrow where that is below 0
abbrev pub trial : Cycle → ℕ → ℕ → ℕ
trial c bits n = c.regs (Remainder bits n) * 2 + c.regs (Dividend bits n) / 2 ^ (bits - 1)

abbrev pub difference : Cycle → ℕ → ℕ → ℕ
difference c bits n = (trial c bits n + (2 ^ (bits + 1) - c.regs (Divisor bits n))) % 2 ^ (bits + 1)

abbrev pub borrows : Cycle → ℕ → ℕ → Bool
borrows c bits n = nat_le (2 ^ bits) (difference c bits n)

abbrev pub next_dividend : Cycle → ℕ → ℕ → ℕ
next_dividend c bits n = c.regs (Dividend bits n) % 2 ^ (bits - 1) * 2 + bit (not (borrows c bits n))

abbrev pub next_remainder : Cycle → ℕ → ℕ → ℕ
next_remainder c bits n = if borrows c bits n then trial c bits n % 2 ^ bits else difference c bits n % 2 ^ bits

-- In the cycle in which a division begins a divider takes the absolute values of its operands, and then one bit of the quotient in each cycle.
abbrev pub division_write : Plan → Cycle → ℕ → ℕ → ℕ → ℕ → List Write
division_write p c bits n first next =
    where_ (is_dividing p c bits n || not (c.regs (Steps bits n) == 0)) (if is_dividing p c bits n then first else next) ∷ []

abbrev pub steps_writes : Plan → Cycle → ℕ → ℕ → List Write
steps_writes p c bits n = division_write p c bits n bits (c.regs (Steps bits n) - 1)

abbrev pub dividend_writes : Plan → Cycle → ℕ → ℕ → List Write
dividend_writes p c bits n = division_write p c bits n (negated_if (left_negative c bits n) bits (c.signals (LeftOf (u.Divider bits) n))) (next_dividend c bits n)

abbrev pub remainder_writes : Plan → Cycle → ℕ → ℕ → List Write
remainder_writes p c bits n = division_write p c bits n 0 (next_remainder c bits n)

abbrev pub divisor_writes : Plan → Cycle → ℕ → ℕ → List Write
divisor_writes p c bits n = where_ (is_dividing p c bits n) (negated_if (right_negative c bits n) bits (c.signals (RightOf (u.Divider bits) n))) ∷ []

abbrev pub quotient_sign_writes : Plan → Cycle → ℕ → ℕ → List Write
quotient_sign_writes p c bits n = where_ (is_dividing p c bits n) ((bit (left_negative c bits n) + bit (right_negative c bits n)) % 2) ∷ []

abbrev pub remainder_sign_writes : Plan → Cycle → ℕ → ℕ → List Write
remainder_sign_writes p c bits n = where_ (is_dividing p c bits n) (bit (left_negative c bits n)) ∷ []

-- a divider that only divides numbers without signs has none
abbrev pub has_signs : Plan → ℕ → ℕ → Bool
has_signs p bits n = list_any (λ (x : Placed). x.op.op.signed) (users p (u.Divider bits) n)

-- what a divider gives, from so many cycles on after a division began as it has bits, and one more
abbrev pub quotient : Plan → Cycle → ℕ → ℕ → ℕ
quotient p c bits n = negated_if (has_signs p bits n && holds c (QuotientSign bits n)) bits (c.regs (Dividend bits n))

abbrev pub remainder : Plan → Cycle → ℕ → ℕ → ℕ
remainder p c bits n = negated_if (has_signs p bits n && holds c (RemainderSign bits n)) bits (c.regs (Remainder bits n))
