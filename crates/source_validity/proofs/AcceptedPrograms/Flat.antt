-- What an accepted source is compiled to, before and after operators are fused.
use Rattle.std.proofs.Common.{◌≡◌, ◌∙◌, ◌≤◌, ℕ, List, true, false, sym, ap}
use Rattle.std.specs.List.{All}
use Rattle.std.proofs.lemmas.Option.{same_Some}
use Rattle.hls_base.specs.declared.point.Point.{Point}
use Rattle.c_tree.specs.Tree.{ProgramTree}
use Rattle.c_elaborate.specs.Programs.{program_elaborated}
use Rattle.c_expand.specs.Expansion.{expanded_weight}
use Rattle.c_tree.specs.Terminals.{terminals}
use Rattle.c_meaning.specs.PieceRuns.Runs.{frame_of}
use Rattle.ir_core.specs.declared.cfg.Cfg.{Cfg}
use Rattle.ir_core.specs.declared.stamp.Untimed.{Untimed}
use Rattle.ir_lower.specs.Frames.{frame_view}
use Rattle.pass_runs.specs.LowerRuns.Suits.{scope_of}
use Rattle.program_validity.specs.Programs.{is_valid}
use Rattle.op_chain.proofs.ValidFusing.Whole.{keeps_validity}
use Rattle.report_rows.specs.ForwardNodes.{HasForwardBody}
use Rattle.program_sizes.specs.CompiledSizes.{IsSmallProgram}
use Rattle.compile_steps.specs.Flat.{Passes, IsFlatOf}
use Rattle.compile_steps.specs.Resets.{expanded_frame}
use Rattle.timed_pieces.specs.FlatRuns.{IsUnfused}
use Rattle.expanded_programs.proofs.ElaboratedPrograms.Tokens.{numbers_fit}
use Rattle.source_answers.proofs.CompiledAnswers.Whole.{choice_of, unfused_from}
use Rattle.source_answers.proofs.SourceRuns.ElaboratedSubscripts.Programs.{checked_fit}
use Rattle.source_answers.proofs.SourceRuns.SourceTypes.Whole.{sources_fine}
use Rattle.source_answers.specs.SourceRuns.{IsFaultless, expanded}
use Rattle.source_validity.proofs.SourceMachines.ForwardPrograms.Whole.{constants_near}
use Rattle.source_validity.proofs.FusedPrograms.Whole.{stay_small, stay_forward}
use Rattle.source_validity.proofs.AcceptedPrograms.Whole.{accepted_valid}

module _ (source : List ℕ) (p : ProgramTree) (top : ℕ) (name : List ℕ) (s : IsFaultless source p top name) (light : expanded_weight (program_elaborated p top) ≤ 8192)
    (passes : Passes) (cfg : Cfg Untimed) (flat_ : IsFlatOf (expanded p top) passes cfg) (frame : frame_view cfg.frame ≡ expanded_frame (expanded p top)) where
  unfused : IsUnfused (frame_of (expanded p top)) (choice_of passes) (expanded p top).pieces (accepted_valid source p top name s light).0 (expanded p top).result flat_.unfused
  unfused =
      let found = accepted_valid source p top name s light in
      unfused_from (expanded p top) passes cfg found.0 flat_ (same_Some flat_.start found.0 (sym flat_.starts ∙ found.1)) frame

  parts : (is_valid flat_.unfused ≡ true) × IsSmallProgram flat_.unfused × All HasForwardBody flat_.unfused.nodes.items
  parts = (accepted_valid source p top name s light).2 (choice_of passes) flat_.unfused unfused (ap frame_view (sym flat_.fused.frame) ∙ frame)

  -- before operators are fused
  pub flat_valid : is_valid flat_.unfused ≡ true
  flat_valid = parts.0

  -- behind that
  pub fused_parts : (is_valid cfg ≡ true) × IsSmallProgram cfg × All HasForwardBody cfg.nodes.items
  fused_parts =
      let e = expanded p top in
      let fine = sources_fine source s.tokens s.replaced s.end p top name s.spelled s.becomes s.derives s.named s.faultless in
      let subscripts = checked_fit (terminals s.replaced) s.end p top name (numbers_fit source s.tokens s.replaced s.spelled s.becomes) s.derives s.named s.faultless in
      let near = constants_near (scope_of (frame_of e)) false (choice_of passes).loops e.pieces (accepted_valid source p top name s light).0 e.result flat_.unfused fine.1.typed subscripts unfused.nodes in (
        keeps_validity passes.period flat_.unfused cfg parts.0 flat_.fused,
        stay_small passes.period flat_.unfused cfg flat_.fused parts.1,
        stay_forward passes.period flat_.unfused cfg parts.0 flat_.fused near parts.1,
      )
