-- Operations that do the same are found equal.
use Rattle.std.proofs.Common.{◌≡◌, ◌∙◌, true, refl, ap, sym, List, [], ◌∷◌, None}
use Rattle.std.specs.Prelude.{slice_get, take}
use Rattle.ir_core.specs.declared.body.Operand.{Operand}
use Rattle.ir_core.specs.Bodies.{OpTree}
use Rattle.passes.specs.Numbering.{is_common}
use Rattle.passes.proofs.Equalities.{Alike}
use Rattle.passes.specs.DistinctOperations.{DoTheSame}

-- no guard stands at either, and they are of the same kind, no load and no store, on the same operands
pub record Same (x y : OpTree) : Type 0 where
  pub first_guard : x.guard ≡ None
  pub second_guard : y.guard ≡ None
  pub common : is_common y.kind ≡ true
  pub alike : Alike y x

first_taken : (xs : List Operand) → slice_get (take 3 xs) 0 ≡ slice_get xs 0
first_taken [] = refl
first_taken (x ∷ xs) = refl

second_taken : (xs : List Operand) → slice_get (take 3 xs) 1 ≡ slice_get xs 1
second_taken [] = refl
second_taken (x ∷ []) = refl
second_taken (x ∷ y ∷ xs) = refl

third_taken : (xs : List Operand) → slice_get (take 3 xs) 2 ≡ slice_get xs 2
third_taken [] = refl
third_taken (x ∷ []) = refl
third_taken (x ∷ y ∷ []) = refl
third_taken (x ∷ y ∷ z ∷ xs) = refl

pub same_alike : (x y : OpTree) → DoTheSame x y → Same x y
same_alike x y h = record {
  first_guard = h.first_guard;
  second_guard = h.second_guard;
  common = ap is_common (sym h.kind) ∙ h.common;
  alike = record {
    kind = sym h.kind;
    signed = sym h.signed;
    bits = sym h.bits;
    first = sym (first_taken y.args) ∙ ap (λ l. slice_get l 0) (sym h.operands) ∙ first_taken x.args;
    second = sym (second_taken y.args) ∙ ap (λ l. slice_get l 1) (sym h.operands) ∙ second_taken x.args;
    third = sym (third_taken y.args) ∙ ap (λ l. slice_get l 2) (sym h.operands) ∙ third_taken x.args;
  };
}

pub alike_through : (x y z : OpTree) → Alike x y → Alike y z → Alike x z
alike_through x y z h k = record { kind = h.kind ∙ k.kind; signed = h.signed ∙ k.signed; bits = h.bits ∙ k.bits; first = h.first ∙ k.first; second = h.second ∙ k.second; third = h.third ∙ k.third }
