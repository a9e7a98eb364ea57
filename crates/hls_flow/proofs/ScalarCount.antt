-- Inputs that fit have a number for each scalar parameter.
use Rattle.std.proofs.Common.{◌≡◌, ℕ, suc, true, List, [], ◌∷◌, length, ap, inl, inr}
use Rattle.std.proofs.lemmas.Bool.{cases_Bool, and_parts, eqb-true}
use Rattle.c_tree.specs.Tree.{ParamTree}
use Rattle.c_meaning.specs.Run.{is_array_parameter}
use Rattle.c_meaning.specs.FittingInputs.{word_fits, first_fits, scalars_fit, arrays_fit, inputs_fit}
use Rattle.cosim_levels.specs.Pins.FunctionPins.{scalar_bits}

module _ (p : ParamTree) (ps : List ParamTree) (others : (words : List ℕ) → scalars_fit ps words ≡ true → length words ≡ length (scalar_bits ps)) where
  scalar : (words : List ℕ) → first_fits words (word_fits p.object.kind) (scalars_fit ps) ≡ true → length words ≡ suc (length (scalar_bits ps))
  scalar [] e = absurd cc
  scalar (w ∷ words) e = ap suc (others words (and_parts (word_fits p.object.kind w) (scalars_fit ps words) e).1)

  either : (words : List ℕ) → scalars_fit (p ∷ ps) words ≡ true → length words ≡ length (scalar_bits (p ∷ ps))
  either words e =
      elim (cases_Bool (is_array_parameter p)) [
        | inl is ↦ rw is (others words (rw is at e))
        | inr is ↦ rw is (scalar words (rw is at e))
      ]

count : (ps : List ParamTree) (words : List ℕ) → scalars_fit ps words ≡ true → length words ≡ length (scalar_bits ps)
count [] words e = eqb-true (length words) 0 e
count (p ∷ ps) words e = either p ps (λ ws h. count ps ws h) words e

pub scalar_count : (ps : List ParamTree) (words : List ℕ) (arrays : List (List ℕ)) → inputs_fit ps words arrays ≡ true → length words ≡ length (scalar_bits ps)
scalar_count ps words arrays e = count ps words (and_parts (scalars_fit ps words) (arrays_fit ps arrays) e).0
