-- The elements of two lists, one after another.
use Rattle.std.proofs.Common.{◌≡◌, ℕ, zero, suc, ◌+◌, ◌<◌, ◌≤◌, min, true, false, List, [], ◌∷◌, length, get_or, drop, drop-cons, Option, Some, None, refl, sym, ap, ◌∙◌, arith, add-one}
use Rattle.std.specs.Prelude.{is_some}
use Rattle.std.specs.Option.{option_or}
use Rattle.c_tree.specs.Tree.{ObjectTree}
use Rattle.c_value.specs.Values.{number_of}
use Rattle.cosim_levels.specs.declared.verdict.Item.TheVariants as item
use Rattle.cosim_levels.specs.declared.verdict.Difference.{Difference}
use Rattle.cosim_levels.specs.Comparison.{difference_at, in_elements}

pub or_some : (d rest : Option Difference) → is_some d ≡ true → option_or d rest ≡ d
or_some (Some x) rest e = refl
or_some None rest e = absurd cc

pub or_none : (d rest : Option Difference) → is_some d ≡ false → option_or d rest ≡ rest
or_none (Some x) rest e = absurd cc
or_none None rest e = refl

module _ (o : ObjectTree) (k e f : ℕ) (expected found : List ℕ) (h : k < length expected) (g : k < length found) (is_e : e ≡ get_or expected k 0) (is_f : f ≡ get_or found k 0)
    (d : Option Difference) (is_d : d ≡ difference_at (item.Element o.name k) (number_of o.kind e) (number_of o.kind f)) where
  at_element : in_elements o k (drop k expected) (drop k found) ≡ option_or d (in_elements o (k + 1) (drop (k + 1) expected) (drop (k + 1) found))
  at_element =
      let there_e : drop k expected ≡ e ∷ drop (suc k) expected = drop-cons expected k 0 h ∙ ap (λ x. x ∷ drop (suc k) expected) (sym is_e) in
      let there_f : drop k found ≡ f ∷ drop (suc k) found = drop-cons found k 0 g ∙ ap (λ x. x ∷ drop (suc k) found) (sym is_f) in
      ap (λ x. in_elements o k x (drop k found)) there_e ∙ ap (in_elements o k (e ∷ drop (suc k) expected)) there_f
      ∙ ap (λ x. option_or x (in_elements o (suc k) (drop (suc k) expected) (drop (suc k) found))) (sym is_d)
      ∙ ap (λ n. option_or d (in_elements o n (drop n expected) (drop n found))) (sym (add-one k))

  -- element k differs
  pub element_differs : is_some d ≡ true → d ≡ in_elements o k (drop k expected) (drop k found)
  element_differs s = sym (at_element ∙ or_some d (in_elements o (k + 1) (drop (k + 1) expected) (drop (k + 1) found)) s)

  -- it does not
  pub element_agrees : is_some d ≡ false → in_elements o (k + 1) (drop (k + 1) expected) (drop (k + 1) found) ≡ in_elements o k (drop k expected) (drop k found)
  element_agrees s = sym (at_element ∙ or_none d (in_elements o (k + 1) (drop (k + 1) expected) (drop (k + 1) found)) s)

none_found : (o : ObjectTree) (n : ℕ) (expected : List ℕ) → in_elements o n expected [] ≡ None
none_found o n [] = refl
none_found o n (x ∷ expected) = refl

-- all are gone through
pub elements_over : (o : ObjectTree) (n k : ℕ) (expected found : List ℕ) → min (length expected) (length found) ≤ k → in_elements o n (drop k expected) (drop k found) ≡ None
elements_over o n zero [] found h = refl
elements_over o n zero (x ∷ expected) [] h = refl
elements_over o n zero (x ∷ expected) (y ∷ found) h = absurd (omega arith)
elements_over o n (suc k) [] found h = refl
elements_over o n (suc k) (x ∷ expected) [] h = none_found o n (drop k expected)
elements_over o n (suc k) (x ∷ expected) (y ∷ found) h = elements_over o n k expected found (omega arith)
