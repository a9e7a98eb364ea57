-- The first words of a program begin with the inputs of a run in C that ends.
use Rattle.std.proofs.Common.{◌≡◌, ◌∙◌, ℕ, ◌+◌, ◌≤◌, Bool, true, false, List, [], ◌∷◌, ◌++◌, length, filter, Option, ap, sym, subst, arith}
use Rattle.std.specs.Prelude.{cond}
use Rattle.hls_base.specs.FileScope.{FileScope}
use Rattle.hls_base.specs.declared.inputs.Inputs.{Inputs}
use Rattle.c_tree.specs.Terminals.{terminals}
use Rattle.c_tree.specs.Tree.{ProgramTree}
use Rattle.c_meaning.specs.Checks.Limits.{limit_faults, new_function_places, file_arrays, file_objects, kept_faults}
use Rattle.c_meaning.specs.Checks.Recursion.{callers, recursion_faults}
use Rattle.c_meaning.specs.Checks.Programs.{body_names, items_faults, top_faults}
use Rattle.c_meaning.specs.FittingInputs.{inputs_fit}
use Rattle.c_meaning.specs.Laws.{IsKept}
use Rattle.c_meaning.specs.Run.{c_run, first_contents}
use Rattle.c_meaning.proofs.MoreInRuns.{more_points_keep_answers}
use Rattle.pieces.specs.Resolved.Core.{CoreProgramTree}
use Rattle.c_elaborate.specs.Programs.{program_elaborated}
use Rattle.pieces.specs.declared.expanded.Expanded.{Expanded}
use Rattle.pieces.specs.Program.{ExpandedTree, expanded_of}
use Rattle.c_meaning.specs.PieceRuns.Runs.{frame_of}
use Rattle.c_elaborate.specs.Homes.{Each}
use Rattle.c_elaborate.specs.Resolved.{HasLengths}
use Rattle.c_elaborate.proofs.ElaborateRuns.Grammar.{grammar_blocks}
use Rattle.c_elaborate.proofs.ElaborateRuns.Sizes.{left_nil}
use Rattle.expanded_programs.specs.Calls.Programs.{IsProgramSound}
use Rattle.expanded_programs.specs.ElaboratedPrograms.Inputs.{ProgramInputsFit, params_at}
use Rattle.expanded_programs.specs.ElaboratedPrograms.Written.{NumbersFit}
use Rattle.expanded_programs.proofs.ElaboratedPrograms.Files.{constants_filled}
use Rattle.expanded_programs.proofs.ElaboratedPrograms.Tokens.{numbers_fit}
use Rattle.expanded_programs.proofs.ElaboratedPrograms.Whole.{elaborated_sound}
use Rattle.expanded_programs.proofs.ElaboratedPrograms.StoredNumbers.Starting.{file_has_lengths}
use Rattle.ir_core.specs.declared.cfg.Frame.{Frame}
use Rattle.ir_lower.specs.Frames as frames
use Rattle.ir_lower.specs.Frames.{frame_view}
use Rattle.ir_core.specs.FirstContents.{first_words}
use Rattle.pass_runs.specs.LowerRuns.Holding.{ArraysAreShort}
use Rattle.compile_steps.specs.Resets.{expanded_frame}
use Rattle.compile_steps.proofs.Resets.{frame_is}
use Rattle.timed_pieces.specs.StartedWords.Contents.{Begins}
use Rattle.timed_pieces.specs.StartedWords.FirstWords.{first_file, FillVariables, FillHosts, HasFirstContents}
use Rattle.timed_pieces.proofs.StartedWords.FirstWords.{first_words_begin}
use Rattle.timed_pieces.proofs.StartedWords.FirstWidths.{first_words_fit}
use Rattle.compile_steps.specs.BegunPrograms.{HasEnds, FilesFill, InputsFill}
use Rattle.compile_steps.proofs.BegunPrograms.Programs.{checked_begins, checked_inputs}
use Rattle.source_answers.specs.SourceRuns.{IsFaultless, expanded}
use Rattle.source_answers.specs.Laws.{HaveWidths}
use Rattle.promises.specs.EndedMachines.{most_points, EndsInC}
use Rattle.promises.proofs.EndedMachines.Contents.{first_fit, first_is}

-- ---- points that are kept

filter_step : {A : Type 0} (b : Bool) (x : A) (xs ys : List A) → length ys ≤ length xs → length (cond b (x ∷ ys) ys) ≤ length (x ∷ xs)
filter_step true x xs ys h = omega (arith, h)
filter_step false x xs ys h = omega (arith, h)

pub filter_low : {A : Type 0} (p : A → Bool) (xs : List A) → length (filter p xs) ≤ length xs
filter_low p [] = omega arith
filter_low p (x ∷ xs) = filter_step (p x) x xs (filter p xs) (filter_low p xs)

module _ (source : List ℕ) (p : ProgramTree) (top : ℕ) (name : List ℕ) (s : IsFaultless source p top name) where
  abbrev e : ExpandedTree
  e = expanded p top

  abbrev core : CoreProgramTree
  core = program_elaborated p top

  numbers : NumbersFit (terminals s.replaced)
  numbers = numbers_fit source s.tokens s.replaced s.spelled s.becomes

  sound : IsProgramSound core
  sound = elaborated_sound (terminals s.replaced) s.end p top name numbers s.derives s.named s.faultless

  pub begun : HasEnds e × ArraysAreShort (frame_of e)
  begun = checked_begins (terminals s.replaced) s.end p top name numbers s.derives s.named s.faultless

  fills : FilesFill core.file
  fills =
      let items = p.items in
      let a = items_faults (body_names items) [] [] items in
      let b = recursion_faults (callers [] items) (callers [] items) in
      let c = limit_faults 64 33 (new_function_places [] items) ++ (limit_faults 32 35 (file_arrays items) ++ (kept_faults 0 (file_objects items) ++ top_faults name p)) in
      λ i o at. constants_filled items (left_nil a (b ++ c) s.faultless) i o at

  lengths : Each HasLengths (file_objects p.items)
  lengths = file_has_lengths p name s.faultless (grammar_blocks (terminals s.replaced) s.end p s.derives)

  -- ---- a run in C that ends

  module _ (inputs : Inputs) (result : Option ℕ) (arrays : List (List ℕ)) (c : EndsInC p top inputs result arrays) where
    pub fit : ProgramInputsFit p top (first_contents p) inputs.scalars inputs.arrays
    fit = (first_fit (file_objects p.items) lengths fills, subst (λ f. inputs_fit (params_at f) inputs.scalars inputs.arrays ≡ true) (sym c.item) c.fit)

    filled : InputsFill e (first_contents p) inputs.scalars inputs.arrays
    filled = checked_inputs (terminals s.replaced) s.end p top name numbers s.derives s.named s.faultless (first_contents p) inputs.scalars inputs.arrays fit

    pub few_passed : length c.trace ≤ most_points
    few_passed =
        let kept = more_points_keep_answers p top (first_contents p) inputs.scalars inputs.arrays c.points 0 in
        let own = subst (λ a. IsKept c.points a (c_run p top (first_contents p) inputs.scalars inputs.arrays (c.points + 0))) c.ends kept in
        let passed = own.1 in
        let few = c.few in
        omega (arith, passed, few)

    module _ (x : Expanded) (is : expanded_of x ≡ e) (frame : Frame) (same : frame_view frame ≡ expanded_frame e) where
      of_frame : frame_view frame ≡ frames.frame_of x
      of_frame = same ∙ ap expanded_frame (sym is) ∙ sym (frame_is x)

      short : ArraysAreShort (frame_of (expanded_of x))
      short = subst (λ y. ArraysAreShort (frame_of y)) (sym is) begun.1

      contents : HasFirstContents (expanded_of x)
      contents = subst HasFirstContents (sym is) begun.0.contents

      scalars : FillVariables (expanded_of x) x.params.items inputs.scalars
      scalars = subst (λ (y : ExpandedTree). FillVariables y y.params inputs.scalars) (sym is) filled.params

      hosts : FillHosts (expanded_of x).arrays inputs.arrays
      hosts = subst (λ (y : ExpandedTree). FillHosts y.arrays inputs.arrays) (sym is) filled.hosts

      pub begins : Begins e (first_contents p) inputs.scalars inputs.arrays (first_words frame inputs)
      begins =
          subst (λ (kept : FileScope). Begins e kept inputs.scalars inputs.arrays (first_words frame inputs)) (first_is p top sound fills)
          (subst (λ (y : ExpandedTree). Begins y (first_file y) inputs.scalars inputs.arrays (first_words frame inputs)) is (first_words_begin x frame inputs of_frame short contents scalars hosts))

      pub widths : HaveWidths e (first_words frame inputs)
      widths = subst (λ (y : ExpandedTree). HaveWidths y (first_words frame inputs)) is (first_words_fit x frame inputs of_frame short contents scalars hosts)
