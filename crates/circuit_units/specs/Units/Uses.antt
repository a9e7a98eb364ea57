-- Which units a program's operations use.
use Rattle.std.specs.Prelude.{◌≡◌, ℕ, ◌&&◌, Bool, List, [], ◌∷◌, flat_map, slice_get, Some}
use Rattle.std.specs.List.{list_any}
use Rattle.ir_core.specs.declared.body.Op.{Op}
use Rattle.ir_core.specs.declared.body.OpKind.{OpKind}
use Rattle.ir_core.specs.declared.body.OpKind.TheVariants as o
use Rattle.ir_core.specs.declared.cfg.Cfg.{Cfg}
use Rattle.ir_core.specs.declared.cfg.Node.{Node}
use Rattle.ir_core.specs.declared.cfg.Node.TheVariants as node
use Rattle.ir_core.specs.declared.timed.Timed.{Timed}
use Rattle.circuit_context.specs.declared.wanted.role.UnitKind.{UnitKind}
use Rattle.circuit_context.specs.declared.wanted.role.UnitKind.TheVariants as kind
use Rattle.circuit_context.specs.declared.wanted.role.SharedUnit.{SharedUnit}
use Rattle.circuit_context.specs.Wanted.Roles.{same_unit}
use Rattle.circuit_units.specs.declared.units.uses.UnitUse.{UnitUse}

abbrev pub unit_with : UnitKind → ℕ → ℕ → SharedUnit
unit_with k bits number = record { kind = k; bits = bits; number = number }

abbrev pub use_with : UnitKind → ℕ → ℕ → Bool → UnitUse
use_with k bits number signed = record { unit = unit_with k bits number; signed = signed }

-- the use by an operation of this kind, if there is one
abbrev pub uses_as : OpKind → ℕ → ℕ → Bool → List UnitUse
uses_as o.Mul bits number signed = use_with kind.Multiplier bits number signed ∷ []
uses_as o.Div bits number signed = use_with kind.Divider bits number signed ∷ []
uses_as o.Rem bits number signed = use_with kind.Divider bits number signed ∷ []
uses_as k bits number signed = []

abbrev pub uses_in : Op Timed → List UnitUse
uses_in op = uses_as op.kind op.bits op.stamp.bound op.signed

abbrev pub node_uses : Node Timed → List UnitUse
node_uses (node.Plain b) = flat_map uses_in b.body.ops.items
node_uses (node.Looped r) = flat_map uses_in r.body.ops.items

abbrev pub all_uses : Cfg Timed → List UnitUse
all_uses cfg = flat_map node_uses cfg.nodes.items

-- the unit is used with signs
abbrev pub has_signed : SharedUnit → List UnitUse → Bool
has_signed unit uses = list_any (λ (u : UnitUse). same_unit unit u.unit && u.signed) uses

-- the units of these uses, each once
pub record AreUnits (uses : List UnitUse) (units : List SharedUnit) : Type 0 where
  pub all : (k : ℕ) (x : UnitUse) → slice_get uses k ≡ Some x → (j : ℕ) × (slice_get units j ≡ Some x.unit)
  pub used : (j : ℕ) (unit : SharedUnit) → slice_get units j ≡ Some unit → (k : ℕ) × (x : UnitUse) × (slice_get uses k ≡ Some x) × (x.unit ≡ unit)
  pub once : (j k : ℕ) (unit : SharedUnit) → slice_get units j ≡ Some unit → slice_get units k ≡ Some unit → j ≡ k
