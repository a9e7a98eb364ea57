-- What a circuit holds, and what is seen in one of its cycles.
use Rattle.std.specs.Prelude.{ℕ, ◌==◌, Bool, true, false, List}
use Rattle.ir_core.specs.declared.timing.UnitClass.{UnitClass}
use Rattle.rtl_core.specs.Interface.{reset_of, start_of}

-- ---- registers

pub data Register : Type 0 where
  -- no run is under way; the last run has ended; the initial sequence after a reset is under way
  Ready : Register
  Done : Register
  Initial : Register
  -- the cycles since the time of the node, or of the initial sequence, began
  Time : Register
  -- the node is under way; its first values are taken, one cycle before its time begins
  Active : (node : ℕ) → Register
  Load : (node : ℕ) → Register
  -- no test of the loop had failed before the last so many tests
  Gate : (tests : ℕ) → Register
  -- so many intervals of the loop, at least one, have passed
  Passed : (intervals : ℕ) → Register
  -- the cycles since a test failed
  Waited : Register
  -- what a variable holds, a register for results, the result of the run
  Variable : (number : ℕ) → Register
  Value : (number : ℕ) → Register
  Result : Register
  -- the factors of a multiplier of so many bits, and their product
  Left : (bits unit : ℕ) → Register
  Right : (bits unit : ℕ) → Register
  Product : (bits unit : ℕ) → Register
  -- A divider of so many bits: how many steps are left; the dividend, which loses its bits at the top and takes those of the quotient at the bottom; the remainder so far; the divisor; whether quotient and remainder are to be negative.
  Steps : (bits unit : ℕ) → Register
  Dividend : (bits unit : ℕ) → Register
  Remainder : (bits unit : ℕ) → Register
  Divisor : (bits unit : ℕ) → Register
  QuotientSign : (bits unit : ℕ) → Register
  RemainderSign : (bits unit : ℕ) → Register
  -- the word that was read last at a port of an array
  Word : (array port : ℕ) → Register
  -- the array that the host named in the cycle before
  Named : Register

pub record Contents : Type 0 where
  pub regs : Register → ℕ
  pub memories : ℕ → ℕ → ℕ

-- ---- signals

-- the operands that a unit is given, and whether they have signs; the address at a port of an array, and the word that is to be stored there
pub data Signal : Type 0 where
  LeftOf : (class : UnitClass) (unit : ℕ) → Signal
  RightOf : (class : UnitClass) (unit : ℕ) → Signal
  SignedOf : (class : UnitClass) (unit : ℕ) → Signal
  AddressOf : (array port : ℕ) → Signal
  StoredOf : (array port : ℕ) → Signal

-- registers, memories, signals and pins in one cycle
pub record Cycle : Type 0 where
  pub regs : Register → ℕ
  pub memories : ℕ → ℕ → ℕ
  pub signals : Signal → ℕ
  pub pins : List ℕ

abbrev pub in_cycle : Contents → (Signal → ℕ) → List ℕ → Cycle
in_cycle x signals pins = record { regs = x.regs; memories = x.memories; signals = signals; pins = pins }

abbrev pub holds : Cycle → Register → Bool
holds c r = c.regs r == 1

abbrev pub resets : Cycle → Bool
resets c = reset_of c.pins == 1

abbrev pub starts : Cycle → Bool
starts c = start_of c.pins == 1

abbrev pub bit : Bool → ℕ
bit true = 1
bit false = 0
