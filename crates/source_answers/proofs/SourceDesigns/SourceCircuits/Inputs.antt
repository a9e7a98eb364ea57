-- Inputs that fill the expansion of a program without faults fit the program.
use Rattle.std.proofs.Common.{◌≡◌, ℕ, ◌^◌, ◌==◌, ◌&&◌, not, ◌∙◌, sym, refl, ap, subst, Bool, true, false, List, [], ◌∷◌, ◌++◌, map, length, slice_get, Some, if◌then◌else◌}
use Rattle.std.proofs.lemmas.Bool.{eq-eqb, lt-ltb}
use Rattle.hls_base.specs.FileScope.{FileScope}
use Rattle.hls_base.specs.ArrayAddress.{element_count}
use Rattle.hls_base.specs.declared.number.Kept.{Kept}
use Rattle.c_token.specs.declared.ctype.CType.{CType}
use Rattle.c_tree.specs.Terminals.{terminals}
use Rattle.c_tree.specs.Tree.{ObjectTree, ParamTree, ProgramTree}
use Rattle.c_value.specs.Values.{width}
use Rattle.c_meaning.specs.Checks.Limits.{file_objects}
use Rattle.c_meaning.specs.Store.{lengths_in}
use Rattle.c_meaning.specs.Run.{is_array_parameter}
use Rattle.c_meaning.specs.FittingInputs.{word_fits, words_fit, array_fits, first_fits, scalars_fit, arrays_fit, inputs_fit}
use Rattle.pieces.specs.Resolved.Core.{CoreFunctionTree, CoreProgramTree}
use Rattle.c_elaborate.specs.Objects.{object_elaborated}
use Rattle.c_elaborate.specs.Programs.{file_object, objects_of_params, signatures, program_elaborated}
use Rattle.c_expand.specs.Expansion as ex
use Rattle.c_expand.specs.Expansion.{expansion}
use Rattle.pieces.specs.Program.{ArrayTree}
use Rattle.c_meaning.specs.PieceRuns.Runs as pr
use Rattle.c_elaborate.specs.Homes.{Each}
use Rattle.c_elaborate.specs.Resolved.{HasLengths, file_scene_of}
use Rattle.c_elaborate.proofs.ElaborateRuns.Lists.{each-append}
use Rattle.c_elaborate.proofs.ElaborateRuns.Files.{file_lengths}
use Rattle.c_elaborate.proofs.ElaborateRuns.FaultlessPrograms.{faultless_resolved}
use Rattle.c_elaborate.proofs.ElaborateRuns.Functions.{params_first}
use Rattle.c_elaborate.proofs.ElaborateRuns.Grammar.{grammar_blocks}
use Rattle.c_elaborate.proofs.ElaborateRuns.Runs.{topped}
use Rattle.expand_runs.specs.Laws.{OneOf, AreWords, FillsObject, FillObjects, kept_objects, params_in, InputsFit}
use Rattle.expanded_programs.specs.Calls.Programs.{IsProgramSound}
use Rattle.expanded_programs.specs.Outlines.{keeps_from, files_of, hosts_of, tops_from}
use Rattle.expanded_programs.proofs.TopStores.{params, kept_count, outlined, made, kept_types, params_types, all_arrays}
use Rattle.expanded_programs.specs.ElaboratedPrograms.Inputs.{given_objects, params_at, ProgramInputsFit}
use Rattle.expanded_programs.proofs.ElaboratedPrograms.Tokens.{numbers_fit}
use Rattle.expanded_programs.proofs.ElaboratedPrograms.Whole.{elaborated_sound}
use Rattle.timed_pieces.specs.StartedWords.FirstWords.{FillVariables, FillHosts}
use Rattle.compile_steps.specs.BegunPrograms.{FillKept, InputsFill}
use Rattle.compile_steps.proofs.BegunPrograms.Arrays.{files_inner, plain_inner}
use Rattle.source_answers.specs.SourceRuns.{IsFaultless, expanded}
use Rattle.source_answers.proofs.SourceDesigns.SourceCircuits.Objects.{params_objects, kept_objects_fill, behind_hosts}

-- ---- core programs

module _ (p : CoreProgramTree) (sound : IsProgramSound p) (fn : CoreFunctionTree) (is_fn : slice_get p.functions p.top ≡ Some fn) where
  core_fit : (kept : FileScope) (scalars : List ℕ) (arrays : List (List ℕ)) → InputsFill (expansion p) kept scalars arrays → InputsFit p kept scalars arrays
  core_fit kept scalars arrays fill =
      let ps = params p sound fn is_fn in
      let more = (outlined p sound fn is_fn).more in
      let plain = (outlined p sound fn is_fn).plain in
      let inner = each-append (λ (a : ArrayTree). a.host ≡ false) (files_of p.file) more (files_inner p.file) (plain_inner more plain) in
      let vars : FillVariables (expansion p) (ex.variables_of (tops_from (kept_count p sound fn is_fn) 0 ps)) scalars =
      subst (λ vs. FillVariables (expansion p) vs scalars) ((made p sound fn is_fn).params ∙ ap ex.variables_of (outlined p sound fn is_fn).params) fill.params in
      let hosts : FillHosts (hosts_of ps ++ (files_of p.file ++ more)) arrays = subst (λ xs. FillHosts xs arrays) (all_arrays p sound fn is_fn) fill.hosts in
      let words : FillVariables (expansion p) (pr.variables_of (keeps_from 0 p.file)) kept.scalars =
      subst (λ (ks : List Kept). FillVariables (expansion p) (pr.variables_of ks) kept.scalars) ((made p sound fn is_fn).kept ∙ (outlined p sound fn is_fn).kept) fill.kept_scalars in
      let rows : FillKept (hosts_of ps ++ (files_of p.file ++ more)) kept.arrays = subst (λ xs. FillKept xs kept.arrays) (all_arrays p sound fn is_fn) fill.kept_arrays in
      let own : FillObjects ps scalars arrays = params_objects (expansion p) ps (kept_count p sound fn is_fn) 0 (files_of p.file ++ more) scalars arrays inner (params_types p sound fn is_fn) vars hosts in (
        kept_objects_fill (expansion p) p.file 0 more kept.scalars kept.arrays plain (kept_types p sound fn is_fn) words (behind_hosts ps (files_of p.file ++ more) kept.arrays rows),
        subst (λ o. FillObjects (params_in o) scalars arrays) (sym is_fn) own,
      )

-- ---- objects of C

both : (a b : Bool) → a ≡ true → b ≡ true → (a && b) ≡ true
both a b x y = ap (λ z. z && b) x ∙ y

words_are : (k : CType) (words : List ℕ) → AreWords k words → words_fit k words ≡ true
words_are k [] h = refl
words_are k (word ∷ words) h = both (word_fits k word) (words_fit k words) (lt-ltb word (2 ^ width k) h.0) (words_are k words h.1)

array_is : (o : ObjectTree) (words : List ℕ) → FillsObject (object_elaborated o) words → array_fits o words ≡ true
array_is o words h = both (length words == element_count (lengths_in o)) (words_fit o.kind words) (eq-eqb (length words) (element_count (lengths_in o)) h.0) (words_are o.kind words h.1)

abbrev Both : List ParamTree → List ℕ → List (List ℕ) → Type 0
Both ps scalars arrays = (scalars_fit ps scalars ≡ true) × (arrays_fit ps arrays ≡ true)

both_fit : (ps : List ParamTree) (scalars : List ℕ) (arrays : List (List ℕ)) → Each HasLengths (objects_of_params ps) → FillObjects (map object_elaborated (objects_of_params ps)) scalars arrays → Both ps scalars arrays
both_fit [] scalars arrays has f = (ap (λ (xs : List ℕ). length xs == 0) f.0, ap (λ (xs : List (List ℕ)). length xs == 0) f.1)
both_fit (p ∷ ps) scalars arrays has f =
    by (is_array_parameter p) (λ scalars1 arrays1. both_fit ps scalars1 arrays1 has.1)
    (subst (λ y. OneOf y ((row : List ℕ) × (rows : List (List ℕ)) × (arrays ≡ row ∷ rows) × FillsObject (object_elaborated p.object) row × FillObjects (map object_elaborated (objects_of_params ps)) scalars rows)
    ((word : ℕ) × (words : List ℕ) × (scalars ≡ word ∷ words) × FillsObject (object_elaborated p.object) (word ∷ []) × FillObjects (map object_elaborated (objects_of_params ps)) words arrays)) (ap not has.0) f)
  where
    by : (y : Bool) → ((scalars1 : List ℕ) (arrays1 : List (List ℕ)) → FillObjects (map object_elaborated (objects_of_params ps)) scalars1 arrays1 → Both ps scalars1 arrays1)
        → OneOf y ((row : List ℕ) × (rows : List (List ℕ)) × (arrays ≡ row ∷ rows) × FillsObject (object_elaborated p.object) row × FillObjects (map object_elaborated (objects_of_params ps)) scalars rows)
        ((word : ℕ) × (words : List ℕ) × (scalars ≡ word ∷ words) × FillsObject (object_elaborated p.object) (word ∷ []) × FillObjects (map object_elaborated (objects_of_params ps)) words arrays)
        → ((if y then scalars_fit ps scalars else first_fits scalars (word_fits p.object.kind) (scalars_fit ps)) ≡ true) × ((if y then first_fits arrays (array_fits p.object) (arrays_fit ps) else arrays_fit ps arrays) ≡ true)
    by true h g =
        let rest = h scalars g.1 g.4 in
        (rest.0, ap (λ l. first_fits l (array_fits p.object) (arrays_fit ps)) g.2 ∙ both (array_fits p.object g.0) (arrays_fit ps g.1) (array_is p.object g.0 g.3) rest.1)
    by false h g =
        let rest = h g.1 arrays g.4 in
        (ap (λ l. first_fits l (word_fits p.object.kind) (scalars_fit ps)) g.2 ∙ both (word_fits p.object.kind g.0) (scalars_fit ps g.1) (lt-ltb g.0 (2 ^ width p.object.kind) g.3.1.0) rest.0, rest.1)

all_fit : (ps : List ParamTree) (scalars : List ℕ) (arrays : List (List ℕ)) → Each HasLengths (objects_of_params ps) → FillObjects (map object_elaborated (objects_of_params ps)) scalars arrays → inputs_fit ps scalars arrays ≡ true
all_fit ps scalars arrays has f = (let q = both_fit ps scalars arrays has f in both (scalars_fit ps scalars) (arrays_fit ps arrays) q.0 q.1)

-- ---- file scope

same_kept : (os : List ObjectTree) → kept_objects (map file_object os) ≡ map object_elaborated (objects_of_params (given_objects os))
same_kept [] = refl
same_kept (o ∷ os) = by o.constant (same_kept os)
  where
    by : (y : Bool) → kept_objects (map file_object os) ≡ map object_elaborated (objects_of_params (given_objects os))
        → (if y then kept_objects (map file_object os) else object_elaborated o ∷ kept_objects (map file_object os)) ≡ map object_elaborated (objects_of_params (if y then given_objects os else record { object = o; named = true } ∷ given_objects os))
    by true h = h
    by false h = ap (λ l. object_elaborated o ∷ l) h

given_lengths : (os : List ObjectTree) → Each HasLengths os → Each HasLengths (objects_of_params (given_objects os))
given_lengths [] has = tt
given_lengths (o ∷ os) has = by o.constant (given_lengths os has.1)
  where
    by : (y : Bool) → Each HasLengths (objects_of_params (given_objects os)) → Each HasLengths (objects_of_params (if y then given_objects os else record { object = o; named = true } ∷ given_objects os))
    by true h = h
    by false h = (has.0, h)

-- ---- programs

pub inputs_are : (source : List ℕ) (p : ProgramTree) (top : ℕ) (name : List ℕ) → IsFaultless source p top name → (kept : FileScope) (scalars : List ℕ) (arrays : List (List ℕ)) → InputsFill (expanded p top) kept scalars arrays → ProgramInputsFit p top kept scalars arrays
inputs_are source p top name s kept scalars arrays fill =
    let items = p.items in
    let files = file_objects items in
    let known = faultless_resolved p name s.faultless (grammar_blocks (terminals s.replaced) s.end p s.derives) in
    let t = topped items items top name known s.named in
    let sound = elaborated_sound (terminals s.replaced) s.end p top name (numbers_fit source s.tokens s.replaced s.spelled s.becomes) s.derives s.named s.faultless in
    let fit = core_fit (program_elaborated p top) sound sound.top.0 sound.top.1 kept scalars arrays fill in
    let own : FillObjects (map object_elaborated (objects_of_params t.0.params)) scalars arrays =
    subst (λ l. FillObjects l scalars arrays) (params_first (signatures items) (file_scene_of items) t.0 t.1) (subst (λ q. FillObjects (params_in q) scalars arrays) t.4 fit.1) in (
      all_fit (given_objects files) kept.scalars kept.arrays (given_lengths files (file_lengths items known)) (subst (λ l. FillObjects l kept.scalars kept.arrays) (same_kept files) fit.0),
      subst (λ q. inputs_fit (params_at q) scalars arrays ≡ true) (sym t.2) (all_fit t.0.params scalars arrays t.5.0 own),
    )
