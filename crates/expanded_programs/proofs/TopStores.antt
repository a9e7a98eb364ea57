-- The stores that the runs of a program and of its expansion start with.
use Rattle.std.proofs.Common.{◌≡◌, ℕ, ◌+◌, ◌∙◌, sym, ap, subst, List, ◌++◌, length, take, drop, slice_get, Some, arith}
use Rattle.std.proofs.lemmas.List.{append_assoc}
use Rattle.std.proofs.lemmas.Option.{slice_get_within}
use Rattle.hls_base.specs.FileScope.{FileScope}
use Rattle.pieces.specs.Resolved.Core.{CoreObjectTree, CoreFunctionTree, CoreProgramTree}
use Rattle.pieces.specs.Program.{ExpandedTree}
use Rattle.c_meaning.specs.PieceRuns.Values.{Store}
use Rattle.c_meaning.specs.PieceRuns.Pieces.{Frame}
use Rattle.c_meaning.specs.PieceRuns.Runs as pr
use Rattle.c_meaning.specs.PieceRuns.Runs.{frame_of, with_words, with_arrays}
use Rattle.c_expand.specs.Expansion as ex
use Rattle.c_expand.specs.Expansion.{expansion}
use Rattle.expand_runs.specs.Growing.{Begins}
use Rattle.expand_runs.specs.Laws.{FillObjects, kept_objects, params_in, InputsFit}
use Rattle.expand_runs.specs.Reading.{IsTyped}
use Rattle.expanded_programs.specs.Calls.Programs.{IsProgramSound}
use Rattle.expanded_programs.specs.Outlines.{keeps_from, kept_kinds, files_of, hosts_of, tops_from, scalar_kinds}
use Rattle.expanded_programs.specs.Contents.{KeptHold, FilesHold, ScalarsHold, HostsHold}
use Rattle.expanded_programs.proofs.Calls.Lists.{get_before, get_behind}
use Rattle.expanded_programs.proofs.Calls.Homes.{locals_later}
use Rattle.expanded_programs.proofs.Calls.Callees.{result_made, run_grown}
use Rattle.expanded_programs.proofs.Calls.Frames.{call_later}
use Rattle.expanded_programs.proofs.Entries.{HasFrom}
use Rattle.expanded_programs.proofs.Outlines.{IsOutlined, is_outlined, IsExpansion, is_expansion, kept_part, params_part, file_part_of, homes_part, call_part, result_part}
use Rattle.expanded_programs.proofs.Started.{kept_set, scalars_set, hosts_set, files_set, plain_rest, kept_same, scalars_same, hosts_same}

module _ (p : CoreProgramTree) (sound : IsProgramSound p) (fn : CoreFunctionTree) (is_fn : slice_get p.functions p.top ≡ Some fn) where
  abbrev pub e : ExpandedTree
  e = expansion p

  abbrev pub f : Frame
  f = frame_of e

  abbrev pub params : List CoreObjectTree
  params = take fn.params fn.objects

  abbrev pub kept_count : ℕ
  kept_count = length (kept_kinds p.file)

  abbrev pub host_count : ℕ
  host_count = length (hosts_of params)

  abbrev pub outlined : IsOutlined p fn
  outlined = is_outlined p fn

  abbrev pub made : IsExpansion p fn e
  made = is_expansion p fn is_fn

  -- ---- variables and arrays

  pub later_result : Begins (result_part p fn).state.variables e.variables
  later_result i x h =
      let g = (run_grown p sound f (length p.functions) p.top fn (ex.outermost fn (file_part_of p fn).value (length (kept_part p fn).state.variables) (homes_part p fn).value (call_part p fn).value (result_part p fn).value) (result_part p fn).state is_fn).variables i x h in
      ap (λ z. slice_get z i) made.variables ∙ g

  pub later_homes : Begins (homes_part p fn).state.variables e.variables
  later_homes i x h = later_result i x ((result_made fn.result (call_part p fn).state).later.variables i x ((call_later (homes_part p fn).state).variables i x h))

  later_run : Begins (params_part p fn).state.variables e.variables
  later_run i x h = later_homes i x ((locals_later f (drop fn.params fn.objects) (params_part p fn).value (file_part_of p fn).state).variables i x (ap (λ z. slice_get z i) outlined.file_variables ∙ h))

  pub kept_types : HasFrom e.variables 0 (kept_kinds p.file)
  kept_types j m x e1 e2 =
      let lt = slice_get_within (kept_kinds p.file) j x e2 in
      later_run m x (ap (λ z. slice_get z m) outlined.params_variables ∙ ap (slice_get (kept_kinds p.file ++ scalar_kinds params)) (let z : m ≡ j = omega (arith, e1) in z) ∙ get_before (kept_kinds p.file) (scalar_kinds params) j lt ∙ e2)

  pub params_types : HasFrom e.variables kept_count (scalar_kinds params)
  params_types j m x e1 e2 = later_run m x (ap (λ z. slice_get z m) outlined.params_variables ∙ get_behind (kept_kinds p.file) (scalar_kinds params) j m e1 ∙ e2)

  pub all_arrays : e.arrays ≡ hosts_of params ++ (files_of p.file ++ outlined.more)
  all_arrays = made.arrays ∙ outlined.arrays ∙ append_assoc (hosts_of params) (files_of p.file) outlined.more

  pub host_arrays_ : HasFrom e.arrays 0 (hosts_of params)
  host_arrays_ j m x e1 e2 =
      let lt = slice_get_within (hosts_of params) j x e2 in
      ap (λ z. slice_get z m) all_arrays ∙ ap (slice_get (hosts_of params ++ (files_of p.file ++ outlined.more))) (let z : m ≡ j = omega (arith, e1) in z) ∙ get_before (hosts_of params) (files_of p.file ++ outlined.more) j lt ∙ e2

  pub file_arrays_ : HasFrom e.arrays host_count (files_of p.file)
  file_arrays_ j m x e1 e2 =
      let lt = slice_get_within (files_of p.file) j x e2 in
      ap (λ z. slice_get z m) all_arrays ∙ get_behind (hosts_of params) (files_of p.file ++ outlined.more) j m e1 ∙ get_before (files_of p.file) outlined.more j lt ∙ e2

  -- ---- the first store

  pub record IsStarted (kept : FileScope) (scalars : List ℕ) (arrays : List (List ℕ)) (t : Store) : Type 0 where
    pub file_fill : FillObjects (kept_objects p.file) kept.scalars kept.arrays
    pub param_fill : FillObjects params scalars arrays
    pub kept_hold : KeptHold 0 p.file kept.scalars t
    pub files_hold : FilesHold host_count p.file kept.arrays t
    pub scalars_hold : ScalarsHold kept_count params scalars t
    pub hosts_hold : HostsHold 0 params arrays t
    pub typed : IsTyped f t

  pub is_started : (first : Store) (kept : FileScope) (scalars : List ℕ) (arrays : List (List ℕ)) → IsTyped f first → InputsFit p kept scalars arrays → IsStarted kept scalars arrays (pr.started e first kept scalars arrays)
  is_started first kept scalars arrays typed fit =
      let fill1 = fit.0 in
      let fill2 : FillObjects params scalars arrays = subst (λ o. FillObjects (params_in o) scalars arrays) is_fn fit.1 in
      let t0 = with_words e (ex.variables_of (tops_from kept_count 0 params)) scalars first in
      let s0 = scalars_set e params kept_count 0 scalars arrays first params_types fill2 in
      let t1 = with_words e (pr.variables_of (keeps_from 0 p.file)) kept.scalars t0 in
      let s1 = kept_set e p.file 0 kept.scalars kept.arrays t0 kept_types fill1 in
      let h = hosts_set e params (files_of p.file ++ outlined.more) 0 scalars arrays kept.arrays t1 host_arrays_ fill2 in
      let g = files_set e p.file outlined.more host_count kept.scalars h.host_left kept.arrays h.after sound.constants file_arrays_ fill1 in
      let t = g.after in
      let is : pr.started e first kept scalars arrays ≡ t =
      ap (λ z. with_arrays e.arrays 0 arrays kept.arrays (with_words e (pr.variables_of e.kept) kept.scalars (with_words e z scalars first))) (made.params ∙ ap ex.variables_of outlined.params)
      ∙ ap (λ z. with_arrays e.arrays 0 arrays kept.arrays (with_words e (pr.variables_of z) kept.scalars t0)) (made.kept ∙ outlined.kept)
      ∙ ap (λ z. with_arrays z 0 arrays kept.arrays t1) all_arrays
      ∙ h.same
      ∙ ap (λ z. with_arrays (files_of p.file ++ outlined.more) (0 + host_count) h.host_left z h.after) (h.file_same tt)
      ∙ ap (λ z. with_arrays (files_of p.file ++ outlined.more) z h.host_left kept.arrays h.after) (let z : 0 + host_count ≡ host_count = omega arith in z)
      ∙ g.same
      ∙ plain_rest e outlined.more (host_count + length (files_of p.file)) g.host_left g.file_left g.after outlined.plain in
      let vars = λ (u : ℕ). g.variables u ∙ h.variables u in
      subst (IsStarted kept scalars arrays) (sym is) (record {
        file_fill = fill1;
        param_fill = fill2;
        kept_hold = kept_same e p.file 0 kept.scalars t1 t vars s1.holds;
        files_hold = g.holds;
        scalars_hold = scalars_same e params kept_count scalars t0 t (λ u le. vars u ∙ s1.above u (omega (arith, le))) s0.holds;
        hosts_hold = hosts_same e params 0 host_count arrays h.after t g.below (omega arith) h.holds;
        typed = g.typed (h.typed (s1.typed (s0.typed typed)));
      })
