-- The shared units of a plan, with their registers and signals.
pub mod Uses
pub mod Adding
use Rattle.std.specs.Prelude.{◌≡◌, ◌<◌, ◌++◌, ℕ, Bool, true, false, List, [], ◌∷◌, length, map, flat_map, slice_get, Option, Some, None}
use Rattle.ir_core.specs.declared.body.OpKind.{OpKind}
use Rattle.ir_core.specs.declared.body.OpKind.TheVariants as o
use Rattle.rtl_core.specs.Netlist.{Netlist}
use Rattle.rtl_core.proofs.Stability.{Extends}
use Rattle.datapath.specs.Plans.{Plan, Placed, all_ops}
use Rattle.datapath.specs.Cycles.{Register, Left, Right, Product, Steps, Dividend, Remainder, Divisor, QuotientSign, RemainderSign, LeftOf, RightOf, SignedOf, Cycle}
use Rattle.datapath.specs.Units.{has_signs, product, quotient, remainder}
use Rattle.datapath.specs.CircuitWires.Carrying.{IsBegun}
use Rattle.circuit_context.specs.declared.wanted.role.UnitKind.{UnitKind}
use Rattle.circuit_context.specs.declared.wanted.role.UnitKind.TheVariants as kind
use Rattle.circuit_context.specs.declared.wanted.role.SharedUnit.{SharedUnit}
use Rattle.circuit_context.specs.Wanted.Roles.{class_of}
use Rattle.circuit_context.specs.Wanted.Entries.{unit_at}
use Rattle.circuit_context.specs.Wanted.Logs.{CarriesSome}
use Rattle.circuit_context.specs.Wanted.Driving.{Seen, AreDriven, ShowsSignal}
use Rattle.circuit_units.specs.declared.units.units.UnitWires.{UnitWires}
use Rattle.circuit_units.specs.declared.units.units.UnitTable.{UnitTable}

-- ---- registers and signals

abbrev pub sign_registers : Bool → ℕ → ℕ → List Register
sign_registers true bits n = QuotientSign bits n ∷ RemainderSign bits n ∷ []
sign_registers false bits n = []

abbrev pub registers_as : Plan → UnitKind → ℕ → ℕ → List Register
registers_as p kind.Multiplier bits n = Left bits n ∷ Right bits n ∷ Product bits n ∷ []
registers_as p kind.Divider bits n = Steps bits n ∷ Dividend bits n ∷ Remainder bits n ∷ Divisor bits n ∷ sign_registers (has_signs p bits n) bits n

abbrev pub unit_registers : Plan → SharedUnit → List Register
unit_registers p unit = registers_as p unit.kind unit.bits unit.number

abbrev pub unit_signals : UnitWires → List Seen
unit_signals w = (LeftOf (class_of w.unit) w.unit.number, w.left) ∷ (RightOf (class_of w.unit) w.unit.number, w.right) ∷ (SignedOf (class_of w.unit) w.unit.number, w.signed) ∷ []

abbrev pub registers_of : Plan → UnitTable → List Register
registers_of p table = flat_map (λ (w : UnitWires). unit_registers p w.unit) table.wires.items

abbrev pub signals_of : UnitTable → List Seen
signals_of table = flat_map unit_signals table.wires.items

-- ---- who uses which

abbrev pub used_as : Plan → OpKind → Placed → Option SharedUnit
used_as p o.Mul x = Some (unit_at p kind.Multiplier x)
used_as p o.Div x = Some (unit_at p kind.Divider x)
used_as p o.Rem x = Some (unit_at p kind.Divider x)
used_as p k x = None

abbrev pub used_by : Plan → Placed → Option SharedUnit
used_by p x = used_as p x.op.op.kind x

-- the units are those that operations use, each once
pub record AreUnitsOf (p : Plan) (units : List SharedUnit) : Type 0 where
  pub all : (k : ℕ) (x : Placed) (unit : SharedUnit) → slice_get (all_ops p) k ≡ Some x → used_by p x ≡ Some unit → (j : ℕ) × (slice_get units j ≡ Some unit)
  pub used : (j : ℕ) (unit : SharedUnit) → slice_get units j ≡ Some unit → (k : ℕ) × (x : Placed) × (slice_get (all_ops p) k ≡ Some x) × (used_by p x ≡ Some unit)
  pub once : (j k : ℕ) (unit : SharedUnit) → slice_get units j ≡ Some unit → slice_get units k ≡ Some unit → j ≡ k

-- ---- what is added

-- The units are added: their registers come behind those that are there, each is driven, and at the signals' atoms is seen what operations give. Registers that are there, memories and outputs stay as they are.
pub record AddsUnits (p : Plan) (names : List Register) (d e : Netlist) (table : UnitTable) : Type 0 where
  pub extends : Extends d e
  pub begun : IsBegun p (names ++ registers_of p table) e
  pub registers : (k : ℕ) → k < length d.regs → slice_get e.regs k ≡ slice_get d.regs k
  pub memories : e.mems ≡ d.mems
  pub outputs : e.outputs ≡ d.outputs
  pub driven : AreDriven p (names ++ registers_of p table) (signals_of table) e (length names) (registers_of p table)
  pub shown : (k : ℕ) (x : Seen) → slice_get (signals_of table) k ≡ Some x → ShowsSignal p (names ++ registers_of p table) e x
  pub units : AreUnitsOf p (map (λ (w : UnitWires). w.unit) table.wires.items)

-- ---- answers

abbrev pub answer_as : Plan → UnitKind → Bool → ℕ → ℕ → Cycle → ℕ
answer_as p kind.Multiplier second bits n c = product c bits n
answer_as p kind.Divider false bits n c = quotient p c bits n
answer_as p kind.Divider true bits n c = remainder p c bits n

-- what a unit gives: the product, the quotient or, second, the remainder
abbrev pub answer_of : Plan → SharedUnit → Bool → Cycle → ℕ
answer_of p unit second c = answer_as p unit.kind second unit.bits unit.number c

-- the atoms of a unit carry what it gives
abbrev pub CarriesAnswers : Plan → List Register → Netlist → UnitWires → Type 0
CarriesAnswers p names d w = CarriesSome p names d w.first (answer_of p w.unit false) × CarriesSome p names d w.second (answer_of p w.unit true)

-- so it is of each unit
abbrev pub HasAnswers : Plan → List Register → Netlist → UnitTable → Type 0
HasAnswers p names d table = (k : ℕ) (w : UnitWires) → slice_get table.wires.items k ≡ Some w → CarriesAnswers p names d w
