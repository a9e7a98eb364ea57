-- The array parameters among parameters that are gone through in order.
use Rattle.std.proofs.Common.{◌≡◌, ℕ, suc, ◌+◌, ◌<◌, true, false, List, ◌∷◌, map, filter, length, get_or, drop, drop-cons, refl, sym, ap, ◌∙◌, add-one}
use Rattle.c_tree.specs.Tree.{ParamTree}
use Rattle.c_tree.specs.declared.function.Param.{Param}
use Rattle.c_tree.specs.View.{param_of}
use Rattle.c_meaning.specs.Run.{is_array_parameter}

-- those from number k on
abbrev pub arrays_from : ℕ → List Param → List ParamTree
arrays_from k params = filter is_array_parameter (map param_of (drop k params))

pub arrays_next : (k : ℕ) (params : List Param) (p : Param) → k < length params → p ≡ get_or params k p → is_array_parameter (param_of p) ≡ true → arrays_from k params ≡ param_of p ∷ arrays_from (k + 1) params
arrays_next k params p h is e =
    let there : drop k params ≡ p ∷ drop (k + 1) params = drop-cons params k p h ∙ ap (λ b. b ∷ drop (suc k) params) (sym is) ∙ ap (λ m. p ∷ drop m params) (sym (add-one k)) in
    rw (there, e) refl

pub scalar_next : (k : ℕ) (params : List Param) (p : Param) → k < length params → p ≡ get_or params k p → is_array_parameter (param_of p) ≡ false → arrays_from k params ≡ arrays_from (k + 1) params
scalar_next k params p h is e =
    let there : drop k params ≡ p ∷ drop (k + 1) params = drop-cons params k p h ∙ ap (λ b. b ∷ drop (suc k) params) (sym is) ∙ ap (λ m. p ∷ drop m params) (sym (add-one k)) in
    rw (there, e) refl
