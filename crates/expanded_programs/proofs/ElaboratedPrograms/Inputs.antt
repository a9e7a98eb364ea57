-- Inputs that fit a program fit its core program.
use Rattle.std.proofs.Common.{◌≡◌, ℕ, ◌^◌, ◌==◌, not, ◌∙◌, sym, refl, ap, subst, Bool, true, false, true≢false, List, [], ◌∷◌, map, length, arith, if◌then◌else◌}
use Rattle.std.proofs.lemmas.Bool.{eqb-true, ltb-true}
use Rattle.hls_base.specs.ArrayAddress.{element_count}
use Rattle.c_token.specs.declared.ctype.CType.{CType}
use Rattle.c_tree.specs.Tree.{ObjectTree, ParamTree}
use Rattle.c_value.specs.Values.{width}
use Rattle.c_meaning.specs.Checks.Limits.{file_objects}
use Rattle.c_meaning.specs.Store.{lengths_in}
use Rattle.c_meaning.specs.Run.{is_array_parameter}
use Rattle.c_meaning.specs.FittingInputs.{word_fits, words_fit, array_fits, first_fits, scalars_fit, arrays_fit, inputs_fit}
use Rattle.c_elaborate.specs.Objects.{object_elaborated}
use Rattle.c_elaborate.specs.Programs.{file_object, objects_of_params, signatures, program_elaborated}
use Rattle.c_elaborate.specs.Homes.{Each}
use Rattle.c_elaborate.specs.Resolved.{HasLengths, file_scene_of}
use Rattle.c_elaborate.proofs.ElaborateRuns.Sizes.{both_true}
use Rattle.c_elaborate.proofs.ElaborateRuns.Files.{file_lengths}
use Rattle.c_elaborate.proofs.ElaborateRuns.FaultlessPrograms.{faultless_resolved}
use Rattle.c_elaborate.proofs.ElaborateRuns.Functions.{params_first}
use Rattle.c_elaborate.proofs.ElaborateRuns.Grammar.{grammar_blocks}
use Rattle.c_elaborate.proofs.ElaborateRuns.Runs.{topped}
use Rattle.expand_runs.specs.Laws.{OneOf, AreWords, FillsObject, FillObjects, kept_objects, params_in}
use Rattle.expanded_programs.specs.ElaboratedPrograms.Inputs.{given_objects, params_at}
use Rattle.expanded_programs.specs.ElaboratedPrograms.{ElaboratedInputsFit}
use Rattle.expanded_programs.proofs.ElaboratedPrograms.Naming.{no_lengths}

none_left : {A : Type 0} (xs : List A) → length xs == 0 ≡ true → xs ≡ []
none_left [] e = refl
none_left (x ∷ xs) e = let none : length (x ∷ xs) ≡ 0 = eqb-true (length (x ∷ xs)) 0 e in absurd (omega (arith, none))

are_words : (k : CType) (words : List ℕ) → words_fit k words ≡ true → AreWords k words
are_words k [] h = tt
are_words k (word ∷ words) h = let both = both_true (word_fits k word) (words_fit k words) h in (ltb-true word (2 ^ width k) both.0, are_words k words both.1)

array_filled : (o : ObjectTree) (words : List ℕ) → array_fits o words ≡ true → FillsObject (object_elaborated o) words
array_filled o words h = let both = both_true (length words == element_count (lengths_in o)) (words_fit o.kind words) h in (eqb-true (length words) (element_count (lengths_in o)) both.0, are_words o.kind words both.1)

scalar_filled : (o : ObjectTree) (word : ℕ) → lengths_in o ≡ [] → word_fits o.kind word ≡ true → FillsObject (object_elaborated o) (word ∷ [])
scalar_filled o word is h = (sym (ap element_count is), (ltb-true word (2 ^ width o.kind) h, tt))

-- the first of some is there, and the others are for what follows
first_there : {A : Type 0} (xs : List A) (fits : A → Bool) (others : List A → Bool) → first_fits xs fits others ≡ true → (x : A) × (rest : List A) × (xs ≡ x ∷ rest) × (fits x ≡ true) × (others rest ≡ true)
first_there [] fits others h = absurd (true≢false (sym h))
first_there (x ∷ rest) fits others h = let both = both_true (fits x) (others rest) h in (x, rest, refl, both.0, both.1)

not_back : (y : Bool) → not y ≡ false → y ≡ true
not_back true e = refl
not_back false e = absurd (true≢false e)

filled : (ps : List ParamTree) (scalars : List ℕ) (arrays : List (List ℕ)) → Each HasLengths (objects_of_params ps) → scalars_fit ps scalars ≡ true → arrays_fit ps arrays ≡ true → FillObjects (map object_elaborated (objects_of_params ps)) scalars arrays
filled [] scalars arrays has s a = (none_left scalars s, none_left arrays a)
filled (p ∷ ps) scalars arrays has s a = subst (λ y. OneOf y ((row : List ℕ) × (rows : List (List ℕ)) × (arrays ≡ row ∷ rows) × FillsObject (object_elaborated p.object) row × FillObjects (map object_elaborated (objects_of_params ps)) scalars rows)
    ((word : ℕ) × (words : List ℕ) × (scalars ≡ word ∷ words) × FillsObject (object_elaborated p.object) (word ∷ []) × FillObjects (map object_elaborated (objects_of_params ps)) words arrays)) (sym (ap not has.0)) (by (is_array_parameter p) refl s a (λ scalars1 arrays1. filled ps scalars1 arrays1 has.1))
  where
    by : (y : Bool) → is_array_parameter p ≡ y → (if y then scalars_fit ps scalars else first_fits scalars (word_fits p.object.kind) (scalars_fit ps)) ≡ true → (if y then first_fits arrays (array_fits p.object) (arrays_fit ps) else arrays_fit ps arrays) ≡ true
        → ((scalars1 : List ℕ) (arrays1 : List (List ℕ)) → scalars_fit ps scalars1 ≡ true → arrays_fit ps arrays1 ≡ true → FillObjects (map object_elaborated (objects_of_params ps)) scalars1 arrays1)
        → OneOf y ((row : List ℕ) × (rows : List (List ℕ)) × (arrays ≡ row ∷ rows) × FillsObject (object_elaborated p.object) row × FillObjects (map object_elaborated (objects_of_params ps)) scalars rows)
        ((word : ℕ) × (words : List ℕ) × (scalars ≡ word ∷ words) × FillsObject (object_elaborated p.object) (word ∷ []) × FillObjects (map object_elaborated (objects_of_params ps)) words arrays)
    by true e f g rest = let x = first_there arrays (array_fits p.object) (arrays_fit ps) g in (x.0, x.1, x.2, array_filled p.object x.0 x.3, rest scalars x.1 f x.4)
    by false e f g rest =
        let x = first_there scalars (word_fits p.object.kind) (scalars_fit ps) f in
        let is = no_lengths (lengths_in p.object) (has.0 ∙ not_back (length p.object.lengths == 0) e) in
        (x.0, x.1, x.2, scalar_filled p.object x.0 is x.3, rest x.1 arrays x.4 g)

all_filled : (ps : List ParamTree) (scalars : List ℕ) (arrays : List (List ℕ)) → Each HasLengths (objects_of_params ps) → inputs_fit ps scalars arrays ≡ true → FillObjects (map object_elaborated (objects_of_params ps)) scalars arrays
all_filled ps scalars arrays has h = let both = both_true (scalars_fit ps scalars) (arrays_fit ps arrays) h in filled ps scalars arrays has both.0 both.1

-- ---- file scope

same_kept : (os : List ObjectTree) → kept_objects (map file_object os) ≡ map object_elaborated (objects_of_params (given_objects os))
same_kept [] = refl
same_kept (o ∷ os) = by o.constant (same_kept os)
  where
    by : (y : Bool) → kept_objects (map file_object os) ≡ map object_elaborated (objects_of_params (given_objects os))
        → (if y then kept_objects (map file_object os) else object_elaborated o ∷ kept_objects (map file_object os)) ≡ map object_elaborated (objects_of_params (if y then given_objects os else record { object = o; named = true } ∷ given_objects os))
    by true h = h
    by false h = ap (λ l. object_elaborated o ∷ l) h

given_lengths : (os : List ObjectTree) → Each HasLengths os → Each HasLengths (objects_of_params (given_objects os))
given_lengths [] has = tt
given_lengths (o ∷ os) has = by o.constant (given_lengths os has.1)
  where
    by : (y : Bool) → Each HasLengths (objects_of_params (given_objects os)) → Each HasLengths (objects_of_params (if y then given_objects os else record { object = o; named = true } ∷ given_objects os))
    by true h = h
    by false h = (has.0, h)

pub inputs_there : ElaboratedInputsFit
inputs_there tokens end p top name derives is_top h kept scalars arrays fit =
    let items = p.items in
    let files = file_objects items in
    let known = faultless_resolved p name h (grammar_blocks tokens end p derives) in
    let t = topped items items top name known is_top in
    let core_ = program_elaborated p top in
    let ps : FillObjects (map object_elaborated (objects_of_params t.0.params)) scalars arrays = all_filled t.0.params scalars arrays t.5.0 (subst (λ q. inputs_fit (params_at q) scalars arrays ≡ true) t.2 fit.1) in (
      subst (λ l. FillObjects l kept.scalars kept.arrays) (sym (same_kept files)) (all_filled (given_objects files) kept.scalars kept.arrays (given_lengths files (file_lengths items known)) fit.0),
      subst (λ q. FillObjects (params_in q) scalars arrays) (sym t.4) (subst (λ l. FillObjects l scalars arrays) (sym (params_first (signatures items) (file_scene_of items) t.0 t.1)) ps),
    )
