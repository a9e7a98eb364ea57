-- Units that a comparison finds equal are the same.
use Rattle.std.proofs.Common.{◌≡◌, Bool, true, false, refl, ap, ◌∙◌}
use Rattle.std.specs.Prelude.{◌==◌, ◌&&◌, not}
use Rattle.std.specs.Bool.{beq}
use Rattle.std.proofs.lemmas.Bool.{false≢true, true≢false, eqb-true, eq-eqb}
use Rattle.circuit_context.specs.declared.wanted.role.UnitKind.{UnitKind}
use Rattle.circuit_context.specs.declared.wanted.role.UnitKind.TheVariants as kind
use Rattle.circuit_context.specs.declared.wanted.role.SharedUnit.{SharedUnit}
use Rattle.circuit_context.specs.contracts.wanted.role.UnitKindPartialEq.TheImpl as kind_impl
use Rattle.circuit_context.specs.contracts.wanted.role.SharedUnitPartialEq.TheImpl as unit_impl
use Rattle.circuit_units.specs.Units.Uses.{unit_with}
use Rattle.circuit_units.proofs.UnitsLemmas.Demands.{both_true}

abbrev pub kind_eq : UnitKind → UnitKind → Bool
kind_eq = kind_impl.eq-value.it

abbrev pub unit_eq : SharedUnit → SharedUnit → Bool
unit_eq = unit_impl.eq-value.it

kind_same : (a b : UnitKind) → kind_eq a b ≡ true → a ≡ b
kind_same kind.Multiplier kind.Multiplier e = refl
kind_same kind.Divider kind.Divider e = refl
kind_same a b e = absurd (false≢true e)

kind_itself : (a : UnitKind) → kind_eq a a ≡ true
kind_itself kind.Multiplier = refl
kind_itself kind.Divider = refl

pub unit_same : (a b : SharedUnit) → unit_eq a b ≡ true → a ≡ b
unit_same a b e =
    let one = both_true (kind_eq a.kind b.kind) ((a.bits == b.bits) && (a.number == b.number)) e in
    let two = both_true (a.bits == b.bits) (a.number == b.number) one.1 in
    let k : a.kind ≡ b.kind = kind_same a.kind b.kind one.0 in
    let w : a.bits ≡ b.bits = eqb-true a.bits b.bits two.0 in
    let n : a.number ≡ b.number = eqb-true a.number b.number two.1 in
    ap (λ x. unit_with x a.bits a.number) k ∙ (ap (λ x. unit_with b.kind x a.number) w ∙ ap (unit_with b.kind b.bits) n)

pub unit_itself : (a : SharedUnit) → unit_eq a a ≡ true
unit_itself a = ap (λ b. b && ((a.bits == a.bits) && (a.number == a.number))) (kind_itself a.kind) ∙ (ap (λ b. b && (a.number == a.number)) (eq-eqb a.bits a.bits refl) ∙ eq-eqb a.number a.number refl)

-- flags that differ
pub differ : (a b : Bool) → beq a b ≡ false → a ≡ not b
differ true true e = absurd (true≢false e)
differ false false e = absurd (true≢false e)
differ true false e = refl
differ false true e = refl

-- a unit of this kind
pub unit_of_kind : (unit : SharedUnit) (k : UnitKind) → unit.kind ≡ k → unit ≡ unit_with k unit.bits unit.number
unit_of_kind unit k e = ap (λ x. unit_with x unit.bits unit.number) e
