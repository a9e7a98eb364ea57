-- What is the same does not differ.
use Rattle.std.proofs.Common.{◌≡◌, ℕ, suc, ℤ, pos, List, [], ◌∷◌, Option, Some, None, if◌then◌else◌, refl, ap, ◌∙◌}
use Rattle.std.specs.Option.{option_map, option_or}
use Rattle.std.proofs.lemmas.Cmp.{int_eq_equiv}
use Rattle.std.proofs.Math.Nat.{mod-eq_of_lt}
use Rattle.c_token.specs.declared.ctype.CType.{CType}
use Rattle.c_tree.specs.Tree.{ObjectTree, ParamTree, FunctionTree}
use Rattle.c_value.specs.Values.{width, number_of}
use Rattle.cosim_levels.specs.declared.pins.drive.Shown.{Shown}
use Rattle.cosim_levels.specs.Pins.FunctionPins.{interface_of}
use Rattle.cosim_levels.specs.declared.verdict.Item.{Item}
use Rattle.cosim_levels.specs.declared.verdict.Item.TheVariants as item
use Rattle.cosim_levels.specs.Comparison.{result_number, difference_at, in_result, in_elements, in_arrays, array_parameters, first_difference}
use Rattle.driven_circuits.specs.Driven.{IsShownResult, ShowsAnswer}
use Rattle.driven_circuits.proofs.Ends.{ResultFits}

same_number : (it : Item) (n : ℤ) → difference_at it n n ≡ None
same_number it n = ap (λ b. if b then None else Some (record { item = it; expected = n; found = n })) (int_eq_equiv.refl n)

same_elements : (o : ObjectTree) (k : ℕ) (words : List ℕ) → in_elements o k words words ≡ None
same_elements o k [] = refl
same_elements o k (w ∷ words) = ap (λ d. option_or d (in_elements o (suc k) words words)) (same_number (item.Element o.name k) (number_of o.kind w)) ∙ same_elements o (suc k) words

same_arrays : (ps : List ParamTree) (arrays : List (List ℕ)) → in_arrays ps arrays arrays ≡ None
same_arrays [] arrays = refl
same_arrays (p ∷ ps) [] = refl
same_arrays (p ∷ ps) (words ∷ arrays) = ap (λ d. option_or d (in_arrays ps arrays arrays)) (same_elements p.object 0 words) ∙ same_arrays ps arrays

same_result : (kind : Option CType) (result ret : Option ℕ) → ResultFits kind result → IsShownResult (option_map width kind) result ret → in_result (result_number kind result) (result_number kind ret) ≡ None
same_result None result ret fits h = refl
same_result (Some kind) None ret fits h = refl
same_result (Some kind) (Some x) ret fits h =
    let whole : ret ≡ Some x = h ∙ ap (λ n. Some n) (mod-eq_of_lt fits) in
    ap (λ r. in_result (Some (number_of kind x)) (result_number (Some kind) r)) whole ∙ same_number item.Ret (number_of kind x)

pub none_differ : (f : FunctionTree) (count : ℕ) (result : Option ℕ) (elements : List (List ℕ)) (shown : Shown) → ResultFits f.result result → ShowsAnswer (interface_of f) count result elements shown → first_difference f result elements count shown ≡ None
none_differ f count result elements shown fits shows =
    let last : option_or (in_arrays (array_parameters f) elements shown.arrays) (difference_at item.Cycles (pos count) (pos shown.cycles)) ≡ None =
    ap (λ d. option_or d (difference_at item.Cycles (pos count) (pos shown.cycles))) (ap (in_arrays (array_parameters f) elements) shows.arrays ∙ same_arrays (array_parameters f) elements)
    ∙ ap (λ n. difference_at item.Cycles (pos count) (pos n)) shows.time ∙ same_number item.Cycles (pos count) in
    ap (λ d. option_or d (option_or (in_arrays (array_parameters f) elements shown.arrays) (difference_at item.Cycles (pos count) (pos shown.cycles)))) (same_result f.result result shown.ret fits shows.returned) ∙ last
