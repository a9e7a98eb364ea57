-- Operations that have wires of their own.
use Rattle.std.proofs.Common.{◌≡◌, ℕ, [], Option, Some, None, refl}
use Rattle.hls_base.specs.declared.number.ArrayId.{ArrayId}
use Rattle.ir_core.specs.declared.body.OpKind.{OpKind}
use Rattle.ir_core.specs.declared.body.OpKind.TheVariants as o
use Rattle.rtl_core.specs.declared.design.Atom.{Atom}
use Rattle.rtl_core.specs.ClockStep.{Widths}
use Rattle.rtl_core.specs.Valid.{HasBits}
use Rattle.datapath.specs.Plans.{Plan, Placed}
use Rattle.datapath.specs.Cycles.{Cycle}
use Rattle.datapath.specs.Values.{computed, arriving_as}
use Rattle.circuit_context.specs.Wanted.Entries.{entries_as}
use Rattle.rtl_logic.specs.Arguments.{constant_bits, AreArguments}
use Rattle.rtl_logic.specs.declared.operations.Arguments.{Arguments}
use Rattle.circuit_units.specs.Demands.Placing.{FirstFits, HasWire}

-- arguments of the widths that an operation reads
pub arguments_fit : (w : Widths) (k : OpKind) (bits from : ℕ) (of : Arguments) → HasWire k → FirstFits w k bits from of.first → HasBits w (constant_bits k bits 1) of.second
    → HasBits w (constant_bits k bits 2) of.third → AreArguments w k bits from of
arguments_fit w o.Mul bits from of h a b c = absurd h
arguments_fit w o.Div bits from of h a b c = absurd h
arguments_fit w o.Rem bits from of h a b c = absurd h
arguments_fit w o.Load bits from of h a b c = absurd h
arguments_fit w o.Store bits from of h a b c = absurd h
arguments_fit w o.Add bits from of h a b c = (a, b)
arguments_fit w o.Sub bits from of h a b c = (a, b)
arguments_fit w o.And bits from of h a b c = (a, b)
arguments_fit w o.Or bits from of h a b c = (a, b)
arguments_fit w o.Xor bits from of h a b c = (a, b)
arguments_fit w o.Shl bits from of h a b c = (a, b)
arguments_fit w o.Shr bits from of h a b c = (a, b)
arguments_fit w o.Eq bits from of h a b c = (a, b)
arguments_fit w o.Ne bits from of h a b c = (a, b)
arguments_fit w o.Lt bits from of h a b c = (a, b)
arguments_fit w o.Le bits from of h a b c = (a, b)
arguments_fit w o.Not bits from of h a b c = a
arguments_fit w o.Neg bits from of h a b c = a
arguments_fit w o.Select bits from of h a b c = (a, b, c)
arguments_fit w o.Widen bits from of h a b c = a
arguments_fit w o.Narrow bits from of h a b c = a
arguments_fit w o.Truth bits from of h a b c = a
arguments_fit w o.Copy bits from of h a b c = a
arguments_fit w (o.Fused q) bits from of h a b c = (a, b, c)

-- what arrives is what is computed
pub wire_arrives : (k : OpKind) → HasWire k → (p : Plan) (c : Cycle) (x : Placed) → computed p c x ≡ arriving_as k p c x
wire_arrives o.Mul h p c x = absurd h
wire_arrives o.Div h p c x = absurd h
wire_arrives o.Rem h p c x = absurd h
wire_arrives o.Load h p c x = absurd h
wire_arrives o.Store h p c x = absurd h
wire_arrives o.Add h p c x = refl
wire_arrives o.Sub h p c x = refl
wire_arrives o.And h p c x = refl
wire_arrives o.Or h p c x = refl
wire_arrives o.Xor h p c x = refl
wire_arrives o.Shl h p c x = refl
wire_arrives o.Shr h p c x = refl
wire_arrives o.Eq h p c x = refl
wire_arrives o.Ne h p c x = refl
wire_arrives o.Lt h p c x = refl
wire_arrives o.Le h p c x = refl
wire_arrives o.Not h p c x = refl
wire_arrives o.Neg h p c x = refl
wire_arrives o.Select h p c x = refl
wire_arrives o.Widen h p c x = refl
wire_arrives o.Narrow h p c x = refl
wire_arrives o.Truth h p c x = refl
wire_arrives o.Copy h p c x = refl
wire_arrives (o.Fused q) h p c x = refl

-- nothing is given to a unit or port
pub no_entries : (k : OpKind) → HasWire k → (p : Plan) (a : Option ArrayId) (x : Placed) → entries_as p k a x ≡ []
no_entries o.Mul h p a x = absurd h
no_entries o.Div h p a x = absurd h
no_entries o.Rem h p a x = absurd h
no_entries o.Load h p a x = absurd h
no_entries o.Store h p a x = absurd h
no_entries o.Add h p None x = refl
no_entries o.Add h p (Some a) x = refl
no_entries o.Sub h p None x = refl
no_entries o.Sub h p (Some a) x = refl
no_entries o.And h p None x = refl
no_entries o.And h p (Some a) x = refl
no_entries o.Or h p None x = refl
no_entries o.Or h p (Some a) x = refl
no_entries o.Xor h p None x = refl
no_entries o.Xor h p (Some a) x = refl
no_entries o.Shl h p None x = refl
no_entries o.Shl h p (Some a) x = refl
no_entries o.Shr h p None x = refl
no_entries o.Shr h p (Some a) x = refl
no_entries o.Eq h p None x = refl
no_entries o.Eq h p (Some a) x = refl
no_entries o.Ne h p None x = refl
no_entries o.Ne h p (Some a) x = refl
no_entries o.Lt h p None x = refl
no_entries o.Lt h p (Some a) x = refl
no_entries o.Le h p None x = refl
no_entries o.Le h p (Some a) x = refl
no_entries o.Not h p None x = refl
no_entries o.Not h p (Some a) x = refl
no_entries o.Neg h p None x = refl
no_entries o.Neg h p (Some a) x = refl
no_entries o.Select h p None x = refl
no_entries o.Select h p (Some a) x = refl
no_entries o.Widen h p None x = refl
no_entries o.Widen h p (Some a) x = refl
no_entries o.Narrow h p None x = refl
no_entries o.Narrow h p (Some a) x = refl
no_entries o.Truth h p None x = refl
no_entries o.Truth h p (Some a) x = refl
no_entries o.Copy h p None x = refl
no_entries o.Copy h p (Some a) x = refl
no_entries (o.Fused q) h p None x = refl
no_entries (o.Fused q) h p (Some a) x = refl

-- an operation of no such kind has a wire
pub has_wire : (k : OpKind) → (k ≡ o.Mul → ⊥) → (k ≡ o.Div → ⊥) → (k ≡ o.Rem → ⊥) → (k ≡ o.Load → ⊥) → (k ≡ o.Store → ⊥) → HasWire k
has_wire o.Mul a b c d e = a refl
has_wire o.Div a b c d e = b refl
has_wire o.Rem a b c d e = c refl
has_wire o.Load a b c d e = d refl
has_wire o.Store a b c d e = e refl
has_wire o.Add a b c d e = tt
has_wire o.Sub a b c d e = tt
has_wire o.And a b c d e = tt
has_wire o.Or a b c d e = tt
has_wire o.Xor a b c d e = tt
has_wire o.Shl a b c d e = tt
has_wire o.Shr a b c d e = tt
has_wire o.Eq a b c d e = tt
has_wire o.Ne a b c d e = tt
has_wire o.Lt a b c d e = tt
has_wire o.Le a b c d e = tt
has_wire o.Not a b c d e = tt
has_wire o.Neg a b c d e = tt
has_wire o.Select a b c d e = tt
has_wire o.Widen a b c d e = tt
has_wire o.Narrow a b c d e = tt
has_wire o.Truth a b c d e = tt
has_wire o.Copy a b c d e = tt
has_wire (o.Fused q) a b c d e = tt

-- the first argument of an operation that changes no width
pub first_fits : (w : Widths) (k : OpKind) (bits from : ℕ) (a : Atom) → (k ≡ o.Widen → ⊥) → (k ≡ o.Narrow → ⊥) → HasBits w (constant_bits k bits 0) a → FirstFits w k bits from a
first_fits w o.Mul bits from a b n h = h
first_fits w o.Div bits from a b n h = h
first_fits w o.Rem bits from a b n h = h
first_fits w o.Load bits from a b n h = h
first_fits w o.Store bits from a b n h = h
first_fits w o.Add bits from a b n h = h
first_fits w o.Sub bits from a b n h = h
first_fits w o.And bits from a b n h = h
first_fits w o.Or bits from a b n h = h
first_fits w o.Xor bits from a b n h = h
first_fits w o.Shl bits from a b n h = h
first_fits w o.Shr bits from a b n h = h
first_fits w o.Eq bits from a b n h = h
first_fits w o.Ne bits from a b n h = h
first_fits w o.Lt bits from a b n h = h
first_fits w o.Le bits from a b n h = h
first_fits w o.Not bits from a b n h = h
first_fits w o.Neg bits from a b n h = h
first_fits w o.Select bits from a b n h = h
first_fits w o.Widen bits from a b n h = absurd (b refl)
first_fits w o.Narrow bits from a b n h = absurd (n refl)
first_fits w o.Truth bits from a b n h = h
first_fits w o.Copy bits from a b n h = h
first_fits w (o.Fused q) bits from a b n h = h
