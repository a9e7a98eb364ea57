-- The machines of programs whose runs in C end.
use Rattle.std.proofs.Common.{◌≡◌, ◌∙◌, ℕ, suc, Bool, ◌+◌, ◌*◌, ◌^◌, ◌<◌, ◌≤◌, List, [], ◌∷◌, length, filter, Option, Some, refl, sym, ap, subst, arith}
use Rattle.std.specs.Prelude.{slice_get}
use Rattle.std.specs.List.{All}
use Rattle.std.proofs.lemmas.List.{length-map}
use Rattle.std.proofs.lemmas.Option.{same_Some}
use Rattle.std.proofs.lemmas.Nat.{mul-le}
use Rattle.std.proofs.Math.Nat.{max-le}
use Rattle.hls_base.specs.FileScope.{FileScope}
use Rattle.hls_base.specs.declared.inputs.Inputs.{Inputs}
use Rattle.hls_base.specs.declared.point.Point.{Point}
use Rattle.hls_base.specs.declared.settings.Units.{Units}
use Rattle.c_value.specs.Values.{width}
use Rattle.c_tree.specs.Tree.{ProgramTree}
use Rattle.c_elaborate.specs.Programs.{program_elaborated}
use Rattle.c_expand.specs.Expansion.{expanded_weight}
use Rattle.c_meaning.specs.Run.{c_run, ended, first_contents}
use Rattle.pieces.specs.declared.expanded.Expanded.{Expanded}
use Rattle.pieces.specs.Program.{ArrayTree, ExpandedTree, expanded_of}
use Rattle.hls_base.specs.Steps.{Outcome, Ran, ran, went}
use Rattle.c_meaning.specs.PieceRuns.Values.{Store}
use Rattle.c_meaning.specs.PieceRuns.Pieces.{Way, pieces_run}
use Rattle.c_meaning.specs.PieceRuns.Runs.{frame_of, started, result_word, host_arrays, kept_of}
use Rattle.ir_core.specs.declared.cfg.Cfg.{Cfg}
use Rattle.ir_core.specs.declared.cfg.Frame.{Frame}
use Rattle.ir_core.specs.declared.cfg.Node.{Node}
use Rattle.ir_core.specs.declared.cfg.Node.TheVariants as node
use Rattle.ir_core.specs.declared.stamp.Untimed.{Untimed}
use Rattle.ir_lower.specs.Frames.{FrameView, frame_view}
use Rattle.ir_core.specs.declared.timed.Timed.{Timed}
use Rattle.cycle_report.specs.PlainReport.{PlainLoop}
use Rattle.ir_core.specs.Bodies.{Shapes, Words}
use Rattle.ir_core.specs.FirstContents.{first_words}
use Rattle.ir_core.specs.FlatRuns.{flat_run}
use Rattle.program_validity.specs.Programs.{body_in}
use Rattle.report_rows.specs.ForwardNodes.{HasForwardBody}
use Rattle.reg_binding.specs.SmallTimes.{HasSmallTimes}
use Rattle.program_sizes.specs.CompiledSizes.{IsSmallProgram}
use Rattle.source_validity.proofs.SourceMachines.SmallTimes.Whole.{times_small}
use Rattle.source_validity.proofs.NearOuts.Whole.{sources_near}
use Rattle.pass_runs.specs.LowerRuns.Suits.{scope_of}
use Rattle.passes.specs.Lowering.Blocks.{Scope}
use Rattle.timed_pieces.specs.FlatRuns.{Choice, IsFine, IsLaidOut, has_node}
use Rattle.timed_pieces.proofs.FlatRuns.Whole.{flat_runs}
use Rattle.timed_pieces.specs.Laws.{HasTimes, node_count}
use Rattle.expanded_pieces.specs.BegunPieces.Points.{begins_at}
use Rattle.clock_runs.specs.Laws.{run_cycles}
use Rattle.program_validity.proofs.Whole.{whole}
use Rattle.flat_programs.specs.There.{SequenceThere}
use Rattle.valid_trees.proofs.WholeTrees.Program as trees
use Rattle.sound_trees.specs.Laws.{tree_in}
use Rattle.flat_programs.specs.Machine.Rest.{IsWhole, memory_dims, EndsSo}
use Rattle.flat_programs.specs.Machine.Nearing.{operations_in, longest, whole_run_steps}
use Rattle.clock_machine.specs.Starts.{IsNamed}
use Rattle.timed_pieces.specs.StartedWords.Contents.{host_words, file_words}
use Rattle.timed_pieces.proofs.StartedWords.Starting.{started_words_hold}
use Rattle.timed_pieces.proofs.StartedWords.Ending.{ended_words_show}
use Rattle.compile_steps.specs.Flat.{Passes, IsFlatOf}
use Rattle.compile_steps.specs.Resets.{expanded_frame}
use Rattle.compile_steps.specs.Reports.{IsTimed}
use Rattle.source_answers.proofs.CompiledAnswers.Whole.{choice_of, laid_from, fine_from}
use Rattle.source_validity.proofs.AcceptedPrograms.Flat.{flat_valid, fused_parts}
use Rattle.source_answers.specs.SourceRuns.{IsFaultless, expanded}
use Rattle.source_answers.proofs.SourceRuns.Whole.{ends_as, ended_defined, same_answer}
use Rattle.source_answers.specs.Laws.{AnswersAs}
use Rattle.source_answers.proofs.Whole.{source_answers}
use Rattle.source_validity.specs.SourceMachines.{IsFrameOf, SourceProgramsAreReady}
use Rattle.source_validity.proofs.SourceMachines.Whole.{frames_named}
use Rattle.promises.specs.EndedMachines.{EndsInC, EndsInSteps, FlatRunsEndInTime, EndsInEdges, ClockedRunsEndInTime}
use Rattle.promises.proofs.EndedMachines.Cycles.{run_low}
use Rattle.promises.proofs.EndedMachines.Times.{nodes_short}
use Rattle.promises.proofs.EndedMachines.Starts.{filter_low, begun, fit, few_passed, begins, widths}

-- ---- steps

few_operations : (nodes : List (Node Untimed)) → ((i : ℕ) (n : Node Untimed) → slice_get nodes i ≡ Some n → length (body_in n).ops.items < 2 ^ 25) → longest nodes ≤ 2 ^ 25
few_operations [] few = omega arith
few_operations (n ∷ nodes) few = max-le (own n (few 0 n refl)) (few_operations nodes (λ i m at. few (suc i) m at))
  where
    own : (m : Node Untimed) → length (body_in m).ops.items < 2 ^ 25 → operations_in m ≤ 2 ^ 25
    own (node.Plain block) h = omega (arith, h)
    own (node.Looped region) h = omega arith

few_steps : (cfg : Cfg Untimed) (n : ℕ) → IsSmallProgram cfg → n ≤ 1000000000 → whole_run_steps cfg n < 2 ^ 64
few_steps cfg n small few =
    let each = few_operations cfg.nodes.items small.operations in
    let all : (2 * n + 2) * (longest cfg.nodes.items + 1) ≤ (2 * 1000000000 + 2) * (2 ^ 25 + 1) = mul-le (2 * n + 2) (longest cfg.nodes.items + 1) (2 * 1000000000 + 2) (2 ^ 25 + 1) (omega (arith, few)) (omega (arith, each)) in
    omega (arith, all, few)

-- ---- frames

frame_of_source : (e : ExpandedTree) (frame : Frame) → frame_view frame ≡ expanded_frame e → IsFrameOf e frame
frame_of_source e frame same = record {
  params = ap (λ (v : FrameView). v.params) same;
  kept = ap (λ (v : FrameView). v.kept) same;
  variables = ap (λ (v : FrameView). length v.variables) same ∙ length-map e.variables width;
}

-- ---- runs

run_is : {S A : Type 0} (r : Ran S A) (trace : List Point) (o : Outcome S A) → r.trace ≡ trace → r.outcome ≡ o → r ≡ ran trace o
run_is r trace o passed came = ap (λ (ps : List Point). ran ps r.outcome) passed ∙ ap (λ x. ran trace x) came

ends_so : (cfg : Cfg Untimed) (t : Words) (trace : List Point) (n : ℕ) (word result : Option ℕ) (words : Words) → n ≡ length trace + 0 → flat_run cfg t (length trace + 0) ≡ ran trace (went word words 0) → word ≡ result → EndsSo (flat_run cfg t n) result words
ends_so cfg t trace n word result words count ends same = (trace, 0, ap (flat_run cfg t) count ∙ (ends ∙ ap (λ w. ran trace (went w words 0)) same))

-- ---- programs

module _ (source : List ℕ) (p : ProgramTree) (top : ℕ) (name : List ℕ) (s : IsFaultless source p top name) (light : expanded_weight (program_elaborated p top) ≤ 8192) (x : Expanded) (is : expanded_of x ≡ expanded p top)
    (passes : Passes) (cfg : Cfg Untimed) (flat_ : IsFlatOf (expanded p top) passes cfg) (frame : frame_view cfg.frame ≡ expanded_frame (expanded p top))
    (inputs : Inputs) (result : Option ℕ) (arrays : List (List ℕ)) (c : EndsInC p top inputs result arrays) where
  abbrev e : ExpandedTree
  e = expanded p top

  abbrev start : Point
  start = flat_.start

  laid : IsLaidOut (frame_of e) (choice_of passes) e.pieces start e.result cfg
  laid = laid_from e passes cfg start flat_ refl frame (flat_valid source p top name s light passes cfg flat_ frame)

  fine : IsFine (frame_of e) (begins_at e.pieces) e.pieces start
  fine = fine_from source p top name s start flat_.starts

  shape : IsSmallProgram cfg × All HasForwardBody cfg.nodes.items
  shape = let parts = fused_parts source p top name s light passes cfg flat_ frame in (parts.1, parts.2)

  -- how often the run comes to points that have nodes
  abbrev count : ℕ
  count = node_count (frame_of e) (choice_of passes) (begins_at e.pieces) e.pieces start c.trace

  few : count ≤ 1000000000
  few = (let kept = filter_low (has_node (frame_of e) (choice_of passes) (begins_at e.pieces) e.pieces start) c.trace in let passed = few_passed source p top name s inputs result arrays c in omega (arith, kept, passed))

  -- ---- block by block

  ended_same : (a b : Option ℕ) (rows lines : List (List ℕ)) (kept left : FileScope) (trace : List Point) → ended a rows kept trace ≡ ended b lines left trace → (a ≡ b) × (rows ≡ lines)
  ended_same a b rows lines kept left trace h = (cc, cc)

  pub in_steps : EndsInSteps e cfg inputs result arrays
  in_steps =
      let t = first_words cfg.frame inputs in
      let fitting = fit source p top name s inputs result arrays c in
      let fits = widths source p top name s inputs result arrays c x is cfg.frame frame in
      let has = begun source p top name s in
      let found = started_words_hold e (first_contents p) inputs.scalars inputs.arrays t fine.short has.0.apart fits (begins source p top name s inputs result arrays c x is cfg.frame frame) in
      let first : Store = found.0 in
      let run : Ran Store Way = pieces_run (frame_of e) e.pieces (started e first (first_contents p) inputs.scalars inputs.arrays) c.points in
      let same = same_answer source p top name s first (first_contents p) inputs.scalars inputs.arrays c.points found.1 fitting
      (ended_defined (c_run p top (first_contents p) inputs.scalars inputs.arrays c.points) result arrays c.kept c.trace c.ends) in
      let y = ends_as e run.trace run.outcome result arrays c.kept c.trace (same ∙ c.ends) in
      let ran_ = run_is run c.trace (went y.way y.store y.left) y.trace_is y.at in
      let kept = flat_runs (frame_of e) (choice_of passes) (begins_at e.pieces) e.pieces start e.result cfg fine laid (started e first (first_contents p) inputs.scalars inputs.arrays) t found.2 fits in
      let z = kept.ends c.points y.left c.trace y.way y.store ran_ in
      let shown = ended_words_show e y.way y.store z.0 z.1 [] 0 fine.short has.0.kept has.0.result z.2 in
      let told = ended_same (result_word e e.ret e.result y.store) z.0 (host_arrays e.arrays 0 y.store) (host_words e.arrays 0 z.1.memories) (kept_of e y.store) (file_words e z.1) [] shown in
      let word : z.0 ≡ result = sym told.0 ∙ y.result_is in
      let trace = filter (has_node (frame_of e) (choice_of passes) (begins_at e.pieces) e.pieces start) c.trace in
      let none : count ≡ length trace + 0 = omega arith in
      record {
        whole = whole cfg (fused_parts source p top name s light passes cfg flat_ frame).0;
        points = count;
        few = few_steps cfg count shape.0 few;
        words = z.1;
        ends = ends_so cfg t trace count z.0 result z.1 none (z.3 0) word;
        hosts = sym told.1 ∙ y.arrays_are;
      }

  -- ---- cycle by cycle

  module _ (units : Units) (timed : Cfg Timed) (loops : List PlainLoop) (times : IsTimed units cfg timed loops) where
    timed_frame : frame_view timed.frame ≡ expanded_frame e
    timed_frame = times.frame ∙ frame

    small : HasSmallTimes timed
    small = times_small units cfg timed loops shape.0 shape.1 (sources_near source p top name s start (choice_of passes) cfg laid) times

    has_times : HasTimes units cfg timed loops
    has_times = record { frame = times.frame; first = times.first; nodes = times.nodes }

    pub in_edges : SourceProgramsAreReady → EndsInEdges e timed inputs result arrays
    in_edges ready =
        let t = first_words timed.frame inputs in
        let a : AnswersAs p top (choice_of passes) start cfg timed (first_contents p) inputs.scalars inputs.arrays t =
        source_answers source p top name s start flat_.starts (choice_of passes) cfg laid units timed loops has_times (first_contents p) inputs.scalars inputs.arrays t
        (fit source p top name s inputs result arrays c) (begins source p top name s inputs result arrays c x is timed.frame timed_frame) (widths source p top name s inputs result arrays c x is timed.frame timed_frame) in
        let low = run_low cfg timed t count (nodes_short cfg.frame.memories.items units cfg.nodes.items timed.nodes.items times.nodes.found shape.1 small.nodes times.nodes.each) in
        record {
          ready = ready source p top name s (choice_of passes) start cfg flat_.starts laid units timed loops has_times;
          named = frames_named source p top name s timed.frame (frame_of_source e timed.frame timed_frame);
          edges = 1 + run_cycles cfg timed t count;
          few = omega (arith, low, few);
          kept = c.kept;
          ends = a.finite c.points result arrays c.kept c.trace c.ends;
        }

pub flat_end : FlatRunsEndInTime
flat_end source p top name s light x is passes cfg flat_ frame inputs result arrays c = in_steps source p top name s light x is passes cfg flat_ frame inputs result arrays c

pub clocked_end : SourceProgramsAreReady → ClockedRunsEndInTime
clocked_end ready source p top name s light x is passes cfg flat_ units timed loops times frame inputs result arrays c =
    in_edges source p top name s light x is passes cfg flat_ (sym times.frame ∙ frame) inputs result arrays c units timed loops times ready
