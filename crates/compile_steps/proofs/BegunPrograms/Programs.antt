-- What the expansions of sound programs begin and end with.
use Rattle.std.proofs.Common.{◌≡◌, ℕ, ◌+◌, ◌∙◌, le_refl, sym, refl, ap, subst, false, List, [], ◌++◌, length, map, slice_get, Option, Some, None, arith}
use Rattle.hls_base.specs.FileScope.{FileScope}
use Rattle.hls_base.specs.declared.number.VarId.{VarId}
use Rattle.hls_base.specs.declared.number.Kept.{Kept}
use Rattle.c_token.specs.declared.ctype.CType.{CType}
use Rattle.c_meaning.specs.Checks.Limits.{limit_faults, new_function_places, file_arrays, file_objects, kept_faults}
use Rattle.c_meaning.specs.Checks.Recursion.{callers, recursion_faults}
use Rattle.c_meaning.specs.Checks.Programs.{body_names, items_faults, top_faults}
use Rattle.pieces.specs.Resolved.Core.{CoreFunctionTree, CoreProgramTree}
use Rattle.c_elaborate.specs.Programs.{program_elaborated}
use Rattle.c_expand.specs.Expansion as ex
use Rattle.c_expand.specs.Expansion.{expansion}
use Rattle.pieces.specs.Program.{ArrayTree, ExpandedTree}
use Rattle.piece_making.specs.Making.{variable_number}
use Rattle.c_meaning.specs.PieceRuns.Runs as pr
use Rattle.c_meaning.specs.PieceRuns.Runs.{frame_of}
use Rattle.pass_runs.specs.LowerRuns.Holding.{IsThere}
use Rattle.c_elaborate.specs.Homes.{Each}
use Rattle.c_elaborate.proofs.ElaborateRuns.Lists.{each-append, each-get}
use Rattle.c_elaborate.proofs.ElaborateRuns.Sizes.{left_nil}
use Rattle.expand_runs.specs.Laws.{FillObjects, params_in, InputsFit}
use Rattle.expanded_programs.specs.Calls.Programs.{IsProgramSound}
use Rattle.expanded_programs.proofs.Calls.Callees.{ResultMade, result_made}
use Rattle.expanded_programs.specs.Outlines.{keeps_from, kept_kinds, files_of, hosts_of, tops_from, scalar_kinds}
use Rattle.expanded_programs.proofs.Outlines.{call_part, result_part}
use Rattle.expanded_programs.proofs.TopStores.{params, kept_count, outlined, made, later_result, kept_types, params_types, all_arrays}
use Rattle.expanded_pieces.proofs.Whole.{checked_fit}
use Rattle.expanded_programs.proofs.ElaboratedPrograms.Files.{constants_filled}
use Rattle.expanded_programs.proofs.ElaboratedPrograms.Inputs.{inputs_there}
use Rattle.expanded_programs.proofs.ElaboratedPrograms.Whole.{elaborated_sound}
use Rattle.timed_pieces.specs.StartedWords.Contents.{ResultIsThere, KeptAreThere}
use Rattle.timed_pieces.specs.StartedWords.FirstWords.{Differ, AreApart, FillVariables, FillHosts, HasContents, HasFirstContents}
use Rattle.compile_steps.specs.BegunPrograms.{HasEnds, FillKept, FilesFill, InputsFill, SoundProgramsBegin, SoundInputsFill, CheckedProgramsBegin, CheckedInputsFill}
use Rattle.compile_steps.proofs.BegunPrograms.Numbers.{AreOwn, apart_within, kept_own, params_own}
use Rattle.compile_steps.proofs.BegunPrograms.Variables.{kept_fill, kept_there, given_fill, params_fill}
use Rattle.compile_steps.proofs.BegunPrograms.Arrays.{hosts_have, files_have, plain_have, host_apart, files_inner, plain_inner, hosts_fill}
use Rattle.compile_steps.proofs.BegunPrograms.Arrays as rows

module _ (p : CoreProgramTree) (sound : IsProgramSound p) (fn : CoreFunctionTree) (is_fn : slice_get p.functions p.top ≡ Some fn) where
  abbrev e : ExpandedTree
  e = expansion p

  abbrev top_params : List VarId
  top_params = ex.variables_of (tops_from (kept_count p sound fn is_fn) 0 (params p sound fn is_fn))

  params_are : e.params ≡ top_params
  params_are = (made p sound fn is_fn).params ∙ ap ex.variables_of (outlined p sound fn is_fn).params

  kept_are : e.kept ≡ keeps_from 0 p.file
  kept_are = (made p sound fn is_fn).kept ∙ (outlined p sound fn is_fn).kept

  -- ---- the result

  result_there : (ret : Option CType) (result : Option VarId) → ((k : CType) → ret ≡ Some k → (v : VarId) × (result ≡ Some v) × (slice_get e.variables v.0 ≡ Some k)) → (ret ≡ None → result ≡ None) → ResultIsThere e.variables ret result
  result_there None result some_ none_ = subst (ResultIsThere e.variables None) (sym (none_ refl)) tt
  result_there (Some k) result some_ none_ = (let v = some_ k refl in subst (ResultIsThere e.variables (Some k)) (sym v.1) v.2)

  result_is : ResultIsThere e.variables e.ret e.result
  result_is =
      let calls = (call_part p fn).state in
      let there : ResultMade fn.result calls = result_made fn.result calls in
      let own = result_there fn.result (result_part p fn).value
      (λ k is. (let at = there.some_ k is in (variable_number (length calls.variables), at.0, later_result p sound fn is_fn (length calls.variables) k at.1))) there.none_ in
      subst (λ ret. ResultIsThere e.variables ret e.result) (sym (made p sound fn is_fn).ret) (subst (ResultIsThere e.variables fn.result) (sym (made p sound fn is_fn).result) own)

  -- ---- file scope and parameters

  kept_is : KeptAreThere e
  kept_is = subst (λ (kept : List Kept). (i : ℕ) (k : Kept) → slice_get kept i ≡ Some k → IsThere (frame_of e) k.variable) (sym kept_are) (kept_there e p.file 0 (kept_types p sound fn is_fn))

  module _ (fills : FilesFill p.file) where
    arrays_have : Each HasContents e.arrays
    arrays_have = subst (Each HasContents) (sym (all_arrays p sound fn is_fn))
        (each-append HasContents (hosts_of (params p sound fn is_fn)) (files_of p.file ++ (outlined p sound fn is_fn).more) (hosts_have (params p sound fn is_fn))
        (each-append HasContents (files_of p.file) (outlined p sound fn is_fn).more (files_have p.file fills) (plain_have (outlined p sound fn is_fn).more (outlined p sound fn is_fn).plain)))

    has_contents : HasFirstContents e
    has_contents =
        let count = kept_count p sound fn is_fn in
        let high = count + length (scalar_kinds (params p sound fn is_fn)) in
        let kept_ : AreOwn 0 count (pr.variables_of (keeps_from 0 p.file)) = kept_own p.file 0 (length (kept_kinds p.file)) (omega arith) in
        let params_ : AreOwn count high top_params = params_own (params p sound fn is_fn) count 0 high (le_refl high) in
        record {
          params = subst Differ (sym params_are) params_.1;
          kept = subst (λ (kept : List Kept). Differ (pr.variables_of kept)) (sym kept_are) kept_.1;
          apart = subst (λ (kept : List Kept). AreApart (pr.variables_of kept) e.params) (sym kept_are) (subst (AreApart (pr.variables_of (keeps_from 0 p.file))) (sym params_are) (apart_within 0 count high (pr.variables_of (keeps_from 0 p.file)) top_params kept_.0 params_.0));
          values = subst (λ (kept : List Kept). FillVariables e (pr.variables_of kept) (map (λ k. k.value) kept)) (sym kept_are) (kept_fill e p.file 0 fills (kept_types p sound fn is_fn));
          arrays = λ i a at. each-get HasContents e.arrays i a arrays_have at;
        }

    has_ends : HasEnds e
    has_ends = record { contents = has_contents; apart = λ i a at is. host_apart a (has_contents.arrays i a at) is; kept = kept_is; result = result_is }

  inputs_fill : (kept : FileScope) (scalars : List ℕ) (arrays : List (List ℕ)) → InputsFit p kept scalars arrays → InputsFill e kept scalars arrays
  inputs_fill kept scalars arrays fit =
      let ps = params p sound fn is_fn in
      let more = (outlined p sound fn is_fn).more in
      let plain = (outlined p sound fn is_fn).plain in
      let own : FillObjects ps scalars arrays = subst (λ o. FillObjects (params_in o) scalars arrays) is_fn fit.1 in
      let inner = each-append (λ (a : ArrayTree). a.host ≡ false) (files_of p.file) more (files_inner p.file) (plain_inner more plain) in
      record {
        params = subst (λ vs. FillVariables e vs scalars) (sym params_are) (params_fill e ps (kept_count p sound fn is_fn) 0 scalars arrays own (params_types p sound fn is_fn));
        hosts = subst (λ xs. FillHosts xs arrays) (sym (all_arrays p sound fn is_fn)) (hosts_fill ps (files_of p.file ++ more) scalars arrays inner own);
        kept_scalars = subst (λ (ks : List Kept). FillVariables e (pr.variables_of ks) kept.scalars) (sym kept_are) (given_fill e p.file 0 kept.scalars kept.arrays (kept_types p sound fn is_fn) fit.0);
        kept_arrays = subst (λ xs. FillKept xs kept.arrays) (sym (all_arrays p sound fn is_fn)) (rows.kept_fill ps p.file more kept.scalars kept.arrays plain fit.0);
      }

pub sound_begins : SoundProgramsBegin
sound_begins p sound fills = has_ends p sound sound.top.0 sound.top.1 fills

pub sound_inputs : SoundInputsFill
sound_inputs p sound kept scalars arrays fit = inputs_fill p sound sound.top.0 sound.top.1 kept scalars arrays fit

-- ---- programs of C

pub checked_begins : CheckedProgramsBegin
checked_begins tokens end p top name fits derives is_top h =
    let items = p.items in
    let a = items_faults (body_names items) [] [] items in
    let b = recursion_faults (callers [] items) (callers [] items) in
    let c = limit_faults 64 33 (new_function_places [] items) ++ (limit_faults 32 35 (file_arrays items) ++ (kept_faults 0 (file_objects items) ++ top_faults name p)) in
    let core = program_elaborated p top in (
      sound_begins core (elaborated_sound tokens end p top name fits derives is_top h) (λ i o at. constants_filled items (left_nil a (b ++ c) h) i o at),
      (checked_fit tokens end p top name derives h).lengths,
    )

pub checked_inputs : CheckedInputsFill
checked_inputs tokens end p top name fits derives is_top h kept scalars arrays inputs =
    sound_inputs (program_elaborated p top) (elaborated_sound tokens end p top name fits derives is_top h) kept scalars arrays (inputs_there tokens end p top name derives is_top h kept scalars arrays inputs)
