-- Tables of places.
use Rattle.std.specs.Prelude.{◌≡◌, ℕ, zero, suc, ◌==◌, ◌&&◌, Bool, true, false, List, find, count_by, Option, Some, None}
use Rattle.std.specs.Map.{lookup}
use Rattle.reg_binding.specs.declared.registers.Held.{Held}
use Rattle.datapath.specs.Reading.{is_place}
use Rattle.datapath.specs.declared.places.Place.{Place}
use Rattle.datapath.specs.declared.places.Holder.{Holder}
use Rattle.datapath.specs.declared.places.Places.{Places}
use Rattle.datapath.specs.contracts.places.PlacePartialEq.TheImpl as place_impl
use Rattle.datapath.specs.contracts.places.HolderPartialEq.TheImpl as holder_impl

abbrev pub place_eq : Place → Place → Bool
place_eq = place_impl.eq-value.it

abbrev pub holder_eq : Holder → Holder → Bool
holder_eq = holder_impl.eq-value.it

-- the row tells of this place
abbrev pub tells_of : Place → Held → Bool
tells_of q row = is_place q.node.0 q.op.0 q.place row

-- the row tells of a place of this node in this register
abbrev pub is_held : Holder → Held → Bool
is_held q row = (row.node.0 == q.node.0) && (row.register == q.register)

abbrev pub register_of : Option Held → Option ℕ
register_of None = None
register_of (Some row) = Some row.register

-- each place has the register of the first row that tells of it
abbrev pub HaveRegisters : List Held → List (Place × ℕ) → Type 0
HaveRegisters held entries = (q : Place) → lookup (place_eq q) entries ≡ register_of (find (tells_of q) held)

-- what a table has for a register that holds so many places of a node: whether they are more than one
abbrev pub shared_by : ℕ → Option Bool
shared_by zero = None
shared_by (suc zero) = Some false
shared_by (suc (suc n)) = Some true

abbrev pub AreShared : List Held → List (Holder × Bool) → Type 0
AreShared held entries = (q : Holder) → lookup (holder_eq q) entries ≡ shared_by (count_by (is_held q) held)

-- the tables are those of these rows
pub record ArePlaces (held : List Held) (places : Places) : Type 0 where
  pub registers : HaveRegisters held places.registers.entries
  pub shared : AreShared held places.shared.entries
