-- The box of a plan is the box of the C function.
use Rattle.std.proofs.Common.{◌≡◌, ℕ, ◌∙◌, ap, ap₂, sym, refl, subst, false, List, [], ◌++◌, map, slice_get, slice_index, take, Option, Some, length, min}
use Rattle.std.specs.Prelude.{filter, is_some, option_map}
use Rattle.std.proofs.lemmas.Option.{same_Some}
use Rattle.hls_base.specs.FileScope.{FileScope}
use Rattle.hls_base.specs.declared.number.Kept.{Kept}
use Rattle.hls_base.specs.declared.number.VarId.{VarId}
use Rattle.c_tree.specs.Terminals.{terminals}
use Rattle.c_tree.specs.Tree.{FunctionTree, ProgramTree}
use Rattle.c_value.specs.Values.{width}
use Rattle.c_meaning.specs.Checks.Limits.{limit_faults, new_function_places, file_arrays, file_objects, kept_faults}
use Rattle.c_meaning.specs.Checks.Recursion.{callers, recursion_faults}
use Rattle.c_meaning.specs.Checks.Programs.{body_names, items_faults, top_faults}
use Rattle.c_meaning.specs.Run.{first_contents}
use Rattle.cosim_levels.specs.CAnswers.{c_answers}
use Rattle.cosim_levels.specs.Pins.FunctionPins.{scalar_bits, array_shapes, interface_of}
use Rattle.pieces.specs.Resolved.Core.{CoreFunctionTree, CoreProgramTree}
use Rattle.c_elaborate.specs.Programs.{function_elaborated, objects_of_params, signatures, program_elaborated}
use Rattle.c_expand.specs.Expansion as ex
use Rattle.pieces.specs.Program.{ArrayTree, ExpandedTree}
use Rattle.c_elaborate.specs.Homes.{Each}
use Rattle.c_elaborate.specs.Resolved.{HasLengths, file_scene_of}
use Rattle.c_elaborate.proofs.ElaborateRuns.Lists.{each-append}
use Rattle.c_elaborate.proofs.ElaborateRuns.Sizes.{left_nil}
use Rattle.c_elaborate.proofs.ElaborateRuns.FaultlessPrograms.{faultless_resolved}
use Rattle.c_elaborate.proofs.ElaborateRuns.Functions.{params_first}
use Rattle.c_elaborate.proofs.ElaborateRuns.Grammar.{grammar_blocks}
use Rattle.c_elaborate.proofs.ElaborateRuns.Runs.{topped}
use Rattle.expanded_programs.specs.Calls.Programs.{IsProgramSound}
use Rattle.expanded_programs.specs.Outlines.{files_of, hosts_of, tops_from, scalar_kinds}
use Rattle.expanded_programs.proofs.Entries.{HasFrom}
use Rattle.expanded_programs.proofs.TopStores.{params, kept_count, outlined, made, params_types, all_arrays}
use Rattle.expanded_programs.proofs.ElaboratedPrograms.Files.{constants_filled}
use Rattle.expanded_programs.proofs.ElaboratedPrograms.Tokens.{numbers_fit}
use Rattle.expanded_programs.proofs.ElaboratedPrograms.Whole.{elaborated_sound}
use Rattle.ir_core.specs.declared.cfg.Cfg.{Cfg}
use Rattle.ir_lower.specs.Frames.{FrameView, result_width, frame_view}
use Rattle.ir_core.specs.declared.timed.Timed.{Timed}
use Rattle.reg_binding.specs.declared.registers.Registers.{Registers}
use Rattle.rtl_core.specs.Interface.{ArrayShape, Interface}
use Rattle.rtl_core.specs.Agreement.{Agrees}
use Rattle.report_rows.specs.Initial as frames
use Rattle.compile_steps.specs.Resets.{expanded_frame}
use Rattle.ir_core.specs.FirstContents.{elements_or_none}
use Rattle.rtl_core.specs.FramePins.{result_bits}
use Rattle.compile_steps.specs.BegunPrograms.{FilesFill}
use Rattle.compile_steps.proofs.BegunPrograms.Arrays.{files_inner, plain_inner}
use Rattle.datapath.specs.Plans.{Plan, Array, Savings, plan_of, interface, initial_cycles}
use Rattle.datapath.specs.Answers.{first_file_scope}
use Rattle.source_answers.proofs.SourceDesigns.PlanWords.Whole.{arrays_same, params_same, kept_same, widths_same}
use Rattle.source_answers.specs.SourceRuns.{IsFaultless, expanded}
use Rattle.source_answers.proofs.SourceDesigns.SourceCircuits.Left.{shape_of, shapes, first_rows}
use Rattle.source_answers.proofs.SourceDesigns.SourceCircuits.Whole.{circuits_agree}
use Rattle.source_answers.specs.SourceDesigns.{SourceDesignsAgree}
use Rattle.source_answers.proofs.SourceDesigns.Pins.{objects, scalars_are, arrays_shaped, result_shown}
use Rattle.source_answers.proofs.SourceDesigns.Contents.{values_are, rows_are, cycles_are}

module _ (source : List ℕ) (p : ProgramTree) (top : ℕ) (name : List ℕ) (s : IsFaultless source p top name) (timed : Cfg Timed) (registers : Registers) (savings : Savings) (same : frame_view timed.frame ≡ expanded_frame (expanded p top)) where
  abbrev e : ExpandedTree
  e = expanded p top

  abbrev plan : Plan
  plan = plan_of timed registers savings

  abbrev core : CoreProgramTree
  core = program_elaborated p top

  sound : IsProgramSound core
  sound = elaborated_sound (terminals s.replaced) s.end p top name (numbers_fit source s.tokens s.replaced s.spelled s.becomes) s.derives s.named s.faultless

  -- ---- the top function, as it is elaborated

  module _ (fn : CoreFunctionTree) (is_fn : slice_get core.functions core.top ≡ Some fn) (function : FunctionTree) (first : take fn.params fn.objects ≡ objects function.params) (returns : fn.result ≡ function.result) (has : Each HasLengths (objects_of_params function.params)) where
    abbrev count : ℕ
    count = kept_count core sound fn is_fn

    abbrev more : List ArrayTree
    more = (outlined core sound fn is_fn).more

    abbrev pins : List ℕ → List ArrayShape → Option ℕ → Interface
    pins scalars arrays result = record { scalars = scalars; arrays = arrays; result = result }

    scalar_pins : (interface plan).scalars ≡ scalar_bits function.params
    scalar_pins =
        ap (λ widths. map (λ (v : VarId). slice_index widths v.0) plan.parameters) (widths_same e timed registers savings same)
        ∙ ap (λ vs. map (λ (v : VarId). slice_index (map width e.variables) v.0) vs) (params_same e timed registers savings same ∙ (made core sound fn is_fn).params ∙ ap ex.variables_of (outlined core sound fn is_fn).params)
        ∙ ap (λ os. map (λ (v : VarId). slice_index (map width e.variables) v.0) (ex.variables_of (tops_from count 0 os))) first
        ∙ scalars_are e function.params count 0 has (subst (λ os. HasFrom e.variables count (scalar_kinds os)) first (params_types core sound fn is_fn))

    array_pins : (interface plan).arrays ≡ array_shapes function.params
    array_pins =
        let inner = each-append (λ (a : ArrayTree). a.host ≡ false) (files_of core.file) more (files_inner core.file) (plain_inner more (outlined core sound fn is_fn).plain) in
        ap (λ (xs : List Array). map shape_of (filter (λ (b : Array). b.host) xs)) (arrays_same e timed registers savings same) ∙ ap shapes (all_arrays core sound fn is_fn)
        ∙ ap (λ os. shapes (hosts_of os ++ (files_of core.file ++ more))) first ∙ arrays_shaped function.params (files_of core.file ++ more) has inner

    result_pin : (interface plan).result ≡ option_map width function.result
    result_pin = ap (λ (v : FrameView). result_bits v.ret) same ∙ ap (λ r. result_bits (result_width r)) ((made core sound fn is_fn).ret ∙ returns) ∙ result_shown function.result

    pins_are : interface plan ≡ interface_of function
    pins_are =
        ap (λ x. pins x (interface plan).arrays (interface plan).result) scalar_pins ∙ ap (λ x. pins (scalar_bits function.params) x (interface plan).result) array_pins
        ∙ ap (pins (scalar_bits function.params) (array_shapes function.params)) result_pin

    contents_are : FilesFill core.file → first_file_scope plan ≡ first_contents p
    contents_are fills =
        ap₂ (λ xs rows. scope xs rows)
        (ap (λ (ks : List Kept). map (λ (k : Kept). k.value) ks) (kept_same e timed registers savings same ∙ (made core sound fn is_fn).kept ∙ (outlined core sound fn is_fn).kept) ∙ values_are (file_objects p.items) 0 fills)
        (ap (λ (xs : List Array). map (λ (b : Array). elements_or_none b.first) (filter (λ (b : Array). is_some b.first) xs)) (arrays_same e timed registers savings same) ∙ ap first_rows (all_arrays core sound fn is_fn)
        ∙ rows_are (params core sound fn is_fn) (file_objects p.items) more (outlined core sound fn is_fn).plain)
      where
        scope : List ℕ → List (List ℕ) → FileScope
        scope xs rows = record { scalars = xs; arrays = rows }

  reset_is : initial_cycles plan ≡ frames.initial_cycles timed.frame
  reset_is = cycles_are timed.frame.memories.items (min 1 (length timed.frame.kept.items))

-- ---- the whole

pub designs_agree : SourceDesignsAgree
designs_agree source p top name s function is start first_is choice cfg laid frame units timed loops times report base rows init counted registers savings d agrees =
    let items = p.items in
    let a = items_faults (body_names items) [] [] items in
    let b = recursion_faults (callers [] items) (callers [] items) in
    let c = limit_faults 64 33 (new_function_places [] items) ++ (limit_faults 32 35 (file_arrays items) ++ (kept_faults 0 (file_objects items) ++ top_faults name p)) in
    let fills : FilesFill (program_elaborated p top).file = λ i o at. constants_filled items (left_nil a (b ++ c) s.faultless) i o at in
    let known = faultless_resolved p name s.faultless (grammar_blocks (terminals s.replaced) s.end p s.derives) in
    let t = topped items items top name known s.named in
    let fn = function_elaborated (signatures items) (file_scene_of items) t.0 t.1 in
    let first = params_first (signatures items) (file_scene_of items) t.0 t.1 in
    let own : t.0 ≡ function = same_Some t.0 function (sym t.2 ∙ is) in
    let plan : Plan = plan_of timed registers savings in
    let same = times.frame ∙ frame in
    let one = circuits_agree source p top name s start first_is choice cfg laid frame units timed loops times report base rows counted registers savings d agrees in
    let pins_ : interface plan ≡ interface_of function = pins_are source p top name s timed registers savings same fn t.4 t.0 first refl t.5.0 ∙ ap interface_of own in
    let two = subst (λ k. Agrees d (interface plan) (initial_cycles plan) k (c_answers p top report)) (contents_are source p top name s timed registers savings same fn t.4 t.0 first refl t.5.0 fills) one in
    let three = subst (λ n. Agrees d (interface plan) n (first_contents p) (c_answers p top report)) (reset_is source p top name s timed registers savings same ∙ sym init) two in
    subst (λ i. Agrees d i report.init (first_contents p) (c_answers p top report)) pins_ three
