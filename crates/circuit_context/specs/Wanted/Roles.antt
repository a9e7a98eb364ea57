-- Which registers the roles name, and what is wanted of a target.
use Rattle.std.specs.Prelude.{◌≡◌, ℕ, ◌==◌, ◌&&◌, Bool, true, false, List, [], ◌∷◌, map, filter, length, if◌then◌else◌}
use Rattle.ir_core.specs.declared.timing.UnitClass.{UnitClass}
use Rattle.ir_core.specs.declared.timing.UnitClass.TheVariants as u
use Rattle.rtl_logic.specs.declared.select.Choice.{Choice}
use Rattle.datapath.specs.Cycles as c
use Rattle.datapath.specs.Cycles.{Register}
use Rattle.circuit_context.specs.declared.wanted.role.UnitRegister.{UnitRegister}
use Rattle.circuit_context.specs.declared.wanted.role.UnitRegister.TheVariants as of_unit
use Rattle.circuit_context.specs.declared.wanted.role.Role.{Role}
use Rattle.circuit_context.specs.declared.wanted.role.Role.TheVariants as role
use Rattle.circuit_context.specs.declared.wanted.role.UnitKind.{UnitKind}
use Rattle.circuit_context.specs.declared.wanted.role.UnitKind.TheVariants as kind
use Rattle.circuit_context.specs.declared.wanted.role.SharedUnit.{SharedUnit}
use Rattle.circuit_context.specs.declared.wanted.role.Target.{Target}
use Rattle.circuit_context.specs.declared.wanted.role.Target.TheVariants as t
use Rattle.circuit_context.specs.declared.wanted.log.Push.{Push}
use Rattle.circuit_context.specs.declared.wanted.log.Groups.{Groups}

-- ---- registers

abbrev pub named_of_unit : UnitRegister → Register
named_of_unit (of_unit.Left bits unit) = c.Left bits unit
named_of_unit (of_unit.Right bits unit) = c.Right bits unit
named_of_unit (of_unit.Product bits unit) = c.Product bits unit
named_of_unit (of_unit.Steps bits unit) = c.Steps bits unit
named_of_unit (of_unit.Dividend bits unit) = c.Dividend bits unit
named_of_unit (of_unit.Remainder bits unit) = c.Remainder bits unit
named_of_unit (of_unit.Divisor bits unit) = c.Divisor bits unit
named_of_unit (of_unit.QuotientSign bits unit) = c.QuotientSign bits unit
named_of_unit (of_unit.RemainderSign bits unit) = c.RemainderSign bits unit

abbrev pub named : Role → Register
named role.Ready = c.Ready
named role.Done = c.Done
named role.Initial = c.Initial
named role.Time = c.Time
named (role.Active node) = c.Active node.0
named (role.Load node) = c.Load node.0
named (role.Gate tests) = c.Gate tests
named (role.Passed intervals) = c.Passed intervals
named role.Waited = c.Waited
named (role.Variable v) = c.Variable v.0
named (role.Value k) = c.Value k
named role.Result = c.Result
named (role.Word array port) = c.Word array.0 port
named role.Named = c.Named
named (role.OfUnit r) = named_of_unit r

-- ---- units

abbrev pub class_as : UnitKind → ℕ → UnitClass
class_as kind.Multiplier bits = u.Multiplier bits
class_as kind.Divider bits = u.Divider bits

abbrev pub class_of : SharedUnit → UnitClass
class_of unit = class_as unit.kind unit.bits

-- ---- what is the same

abbrev pub same_unit_register : UnitRegister → UnitRegister → Bool
same_unit_register (of_unit.Left b n) (of_unit.Left c m) = (b == c) && (n == m)
same_unit_register (of_unit.Right b n) (of_unit.Right c m) = (b == c) && (n == m)
same_unit_register (of_unit.Product b n) (of_unit.Product c m) = (b == c) && (n == m)
same_unit_register (of_unit.Steps b n) (of_unit.Steps c m) = (b == c) && (n == m)
same_unit_register (of_unit.Dividend b n) (of_unit.Dividend c m) = (b == c) && (n == m)
same_unit_register (of_unit.Remainder b n) (of_unit.Remainder c m) = (b == c) && (n == m)
same_unit_register (of_unit.Divisor b n) (of_unit.Divisor c m) = (b == c) && (n == m)
same_unit_register (of_unit.QuotientSign b n) (of_unit.QuotientSign c m) = (b == c) && (n == m)
same_unit_register (of_unit.RemainderSign b n) (of_unit.RemainderSign c m) = (b == c) && (n == m)
same_unit_register a b = false

abbrev pub same_role : Role → Role → Bool
same_role role.Ready role.Ready = true
same_role role.Done role.Done = true
same_role role.Initial role.Initial = true
same_role role.Time role.Time = true
same_role (role.Active a) (role.Active b) = a.0 == b.0
same_role (role.Load a) (role.Load b) = a.0 == b.0
same_role (role.Gate a) (role.Gate b) = a == b
same_role (role.Passed a) (role.Passed b) = a == b
same_role role.Waited role.Waited = true
same_role (role.Variable a) (role.Variable b) = a.0 == b.0
same_role (role.Value a) (role.Value b) = a == b
same_role role.Result role.Result = true
same_role (role.Word a n) (role.Word b m) = (a.0 == b.0) && (n == m)
same_role role.Named role.Named = true
same_role (role.OfUnit a) (role.OfUnit b) = same_unit_register a b
same_role a b = false

abbrev pub same_kind : UnitKind → UnitKind → Bool
same_kind kind.Multiplier kind.Multiplier = true
same_kind kind.Divider kind.Divider = true
same_kind a b = false

abbrev pub same_unit : SharedUnit → SharedUnit → Bool
same_unit a b = same_kind a.kind b.kind && ((a.bits == b.bits) && (a.number == b.number))

abbrev pub same_target : Target → Target → Bool
same_target (t.Register a) (t.Register b) = same_role a b
same_target (t.Left a) (t.Left b) = same_unit a b
same_target (t.Right a) (t.Right b) = same_unit a b
same_target (t.Signed a) (t.Signed b) = same_unit a b
same_target (t.Address a n) (t.Address b m) = (a.0 == b.0) && (n == m)
same_target (t.Stored a n) (t.Stored b m) = (a.0 == b.0) && (n == m)
same_target (t.Refused a n) (t.Refused b m) = (a.0 == b.0) && (n == m)
same_target (t.Entered a) (t.Entered b) = a.0 == b.0
same_target t.Ended t.Ended = true
same_target t.Tested t.Tested = true
same_target a b = false

-- ---- what is wanted

-- the choices of the first of these targets that is this one
abbrev pub given_in : List Target → List (List Choice) → Target → List Choice
given_in [] choices target = []
given_in (t ∷ ts) [] target = []
given_in (t ∷ ts) (c ∷ cs) target = if same_target target t then c else given_in ts cs target

-- what the groups hold for this target
abbrev pub given : Groups → Target → List Choice
given groups target = given_in groups.targets.keys (map (λ c. c.items) groups.choices.items) target

-- each target has its choices
abbrev pub ArePaired : Groups → Type 0
ArePaired groups = length groups.choices.items ≡ length groups.targets.keys

-- what the log wants of this target, in order
abbrev pub choices_of : Target → List Push → List Choice
choices_of target pushes = map (λ (push : Push). push.choice) (filter (λ (push : Push). same_target target push.target) pushes)
