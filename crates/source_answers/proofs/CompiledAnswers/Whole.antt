-- From the compiler's promises to the answers of the clocked run.
use Rattle.std.proofs.Common.{◌≡◌, ℕ, Bool, List, [], ◌∷◌, map, Option, Some, None, refl, sym, ap, ap₂, ◌∙◌, subst}
use Rattle.std.specs.Prelude.{true, false, not}
use Rattle.std.proofs.lemmas.Option.{same_Some}
use Rattle.hls_base.specs.FileScope.{FileScope}
use Rattle.hls_base.specs.declared.point.Point.{Point}
use Rattle.hls_base.specs.declared.settings.Units.{Units}
use Rattle.c_tree.specs.Terminals.{terminals}
use Rattle.c_tree.specs.Tree.{ProgramTree}
use Rattle.c_elaborate.specs.Programs.{program_elaborated}
use Rattle.c_value.specs.Values.{width}
use Rattle.pieces.specs.Program.{ArrayTree, ExpandedTree}
use Rattle.c_meaning.specs.PieceRuns.Runs.{frame_of, started}
use Rattle.expanded_programs.specs.ElaboratedPrograms.Inputs.{ProgramInputsFit}
use Rattle.expanded_programs.proofs.ElaboratedPrograms.Tokens.{numbers_fit}
use Rattle.source_answers.proofs.SourceRuns.ElaboratedSubscripts.Programs.{checked_fit}
use Rattle.ir_core.specs.declared.cfg.Cfg.{Cfg}
use Rattle.ir_core.specs.declared.cfg.Memory.{Memory}
use Rattle.ir_core.specs.declared.stamp.Untimed.{Untimed}
use Rattle.ir_lower.specs.Frames.{MemoryView, FrameView, memory_view, frame_view}
use Rattle.ir_core.specs.declared.timed.Timed.{Timed}
use Rattle.cycle_report.specs.declared.report.Cost.{Cost}
use Rattle.cycle_report.specs.PlainReport.{PlainLoop}
use Rattle.report_rows.specs.Costs.{AreRowsOf}
use Rattle.ir_core.specs.Bodies.{Words, Shapes}
use Rattle.ir_core.specs.FlatRuns as flat
use Rattle.pass_runs.specs.LowerRuns.Suits as suits
use Rattle.passes.specs.Lowering.Shapes.{first_point}
use Rattle.program_validity.specs.Programs.{is_valid}
use Rattle.timed_pieces.specs.FlatRuns.{Choice, IsFine, IsUnfused, IsLaidOut}
use Rattle.expanded_pieces.specs.BegunPieces.Points.{begins_at}
use Rattle.timed_pieces.specs.Laws.{HasTimes}
use Rattle.source_answers.proofs.SourceRuns.SourceTypes.Whole.{sources_fine}
use Rattle.expanded_pieces.specs.ApartPoints.Apart.{AreApart}
use Rattle.expanded_pieces.specs.ApartPoints.Points.{all_points}
use Rattle.expanded_pieces.proofs.ApartPoints.Sources.{source_points}
use Rattle.timed_pieces.proofs.FormulaCycles.LaidOut.{loops_lead}
use Rattle.source_answers.proofs.EndedLoops.Whole.{loops_end}
use Rattle.source_answers.proofs.NodePoints.Whole.{points_differ, passes_kept}
use Rattle.timed_pieces.specs.StartedWords.Contents.{Begins}
use Rattle.compile_steps.proofs.BegunPrograms.Programs.{checked_begins}
use Rattle.source_answers.specs.SourceRuns.{IsFaultless, expanded}
use Rattle.source_answers.specs.Laws.{HaveWidths, IsCounted, AnswersAs}
use Rattle.source_answers.proofs.Whole.{answers}
use Rattle.compile_steps.specs.Flat.{Passes, IsFlatOf}
use Rattle.compile_steps.specs.Resets.{array_memory, expanded_frame}
use Rattle.compile_steps.specs.Reports.{IsTimed}
use Rattle.source_answers.specs.CompiledAnswers.{AnswersAlways, CompiledProgramsAnswer}

-- ---- frames

abbrev lengths_of : List MemoryView → List (List ℕ)
lengths_of ms = map (λ (m : MemoryView). m.dims) ms

memory_lengths : (ms : List Memory) → lengths_of (map memory_view ms) ≡ map (λ (m : Memory). m.dims.items) ms
memory_lengths [] = refl
memory_lengths (m ∷ ms) = ap (λ l. m.dims.items ∷ l) (memory_lengths ms)

array_lengths : (arrays : List ArrayTree) → lengths_of (map array_memory arrays) ≡ map (λ (a : ArrayTree). a.lengths) arrays
array_lengths [] = refl
array_lengths (a ∷ arrays) = ap (λ l. a.lengths ∷ l) (array_lengths arrays)

-- a program with the frame of an expanded program has its shapes
same_shapes : {S : Type 0} (e : ExpandedTree) (cfg : Cfg S) → frame_view cfg.frame ≡ expanded_frame e → flat.shapes_of cfg.frame ≡ suits.shapes_of (frame_of e)
same_shapes e cfg h =
    let variables : cfg.frame.variables.items ≡ map width e.variables = ap (λ (f : FrameView). f.variables) h in
    let lengths : map (λ (m : Memory). m.dims.items) cfg.frame.memories.items ≡ map (λ (a : ArrayTree). a.lengths) e.arrays =
    sym (memory_lengths cfg.frame.memories.items) ∙ (ap (λ (f : FrameView). lengths_of f.memories) h ∙ array_lengths e.arrays) in
    ap₂ (λ (w : List ℕ) (d : List (List ℕ)). record { widths = w; dims = d }) variables lengths

-- ---- the flat program

abbrev pub choice_of : Passes → Choice
choice_of passes = record { apart = false; loops = not passes.plain; period = passes.period }

pub unfused_from : (e : ExpandedTree) (passes : Passes) (cfg : Cfg Untimed) (start : Point) (f : IsFlatOf e passes cfg) → f.start ≡ start → frame_view cfg.frame ≡ expanded_frame e
    → IsUnfused (frame_of e) (choice_of passes) e.pieces start e.result f.unfused
unfused_from e passes cfg start f same frame =
    subst (λ s. IsUnfused (frame_of e) (choice_of passes) e.pieces s e.result f.unfused) same (record { shapes = same_shapes e f.unfused (ap frame_view (sym f.fused.frame) ∙ frame); nodes = f.nodes; first = f.first })

pub laid_from : (e : ExpandedTree) (passes : Passes) (cfg : Cfg Untimed) (start : Point) (f : IsFlatOf e passes cfg) → f.start ≡ start → frame_view cfg.frame ≡ expanded_frame e → is_valid f.unfused ≡ true
    → IsLaidOut (frame_of e) (choice_of passes) e.pieces start e.result cfg
laid_from e passes cfg start f same frame valid = record { unfused = f.unfused; laid = unfused_from e passes cfg start f same frame; valid = valid; fused = f.fused }

-- the pieces of a source without faults are fine from where they begin
pub fine_from : (source : List ℕ) (p : ProgramTree) (top : ℕ) (name : List ℕ) → IsFaultless source p top name → (start : Point) → first_point (expanded p top).pieces ≡ Some start
    → IsFine (frame_of (expanded p top)) (begins_at (expanded p top).pieces) (expanded p top).pieces start
fine_from source p top name s start first =
    let e = expanded p top in
    let found = sources_fine source s.tokens s.replaced s.end p top name s.spelled s.becomes s.derives s.named s.faultless in
    subst (λ (q : Point). IsFine (frame_of e) (begins_at e.pieces) e.pieces q) (same_Some found.0 start (sym found.1.first ∙ first)) found.1

-- the points of the program are passed as the formula of its report counts them
pub counted : (source : List ℕ) (p : ProgramTree) (top : ℕ) (name : List ℕ) → IsFaultless source p top name → (passes : Passes) (untimed : Cfg Untimed) (start : Point) → first_point (expanded p top).pieces ≡ Some start
    → IsLaidOut (frame_of (expanded p top)) (choice_of passes) (expanded p top).pieces start (expanded p top).result untimed
    → (kept : FileScope) (scalars : List ℕ) (arrays : List (List ℕ)) → IsCounted p top (choice_of passes) start untimed kept scalars arrays
counted source p top name s passes untimed start first laid kept scalars arrays =
    let e = expanded p top in
    let fine = fine_from source p top name s start first in
    let differ : AreApart (all_points e.pieces) = source_points source s.tokens s.replaced s.end p top s.spelled s.becomes s.derives in
    record {
      loops = loops_lead (frame_of e) (choice_of passes) e.pieces start e.result untimed laid (points_differ (frame_of e) (choice_of passes) (begins_at e.pieces) e.pieces start e.result untimed fine laid differ) (loops_end (program_elaborated p top));
      passes = λ begun typed. passes_kept (frame_of e) (choice_of passes) (begins_at e.pieces) e.pieces start e.result untimed fine laid differ (started e begun kept scalars arrays);
    }

-- ---- the whole

pub answer : CompiledProgramsAnswer
answer source p top name s passes untimed flat_ valid units timed loops times frame rows are kept scalars arrays t fit begins widths =
    let e = expanded p top in
    let start = flat_.start in
    let numbers = numbers_fit source s.tokens s.replaced s.spelled s.becomes in
    let subscripts = checked_fit (terminals s.replaced) s.end p top name numbers s.derives s.named s.faultless in
    let has = checked_begins (terminals s.replaced) s.end p top name numbers s.derives s.named s.faultless in
    let laid : IsLaidOut (frame_of e) (choice_of passes) e.pieces start e.result untimed = laid_from e passes untimed start flat_ refl (sym times.frame ∙ frame) valid in
    let timed_ : HasTimes units untimed timed loops = record { frame = times.frame; first = times.first; nodes = times.nodes } in
    let a : AnswersAs p top (choice_of passes) start untimed timed kept scalars arrays t =
    answers source p top name s start (fine_from source p top name s start flat_.starts) subscripts has.0 (choice_of passes) untimed laid units timed loops timed_ kept scalars arrays t fit begins widths in record {
      finite = λ n result last left trace h. a.counted (counted source p top name s passes untimed start flat_.starts laid kept scalars arrays) rows are n result last left trace h;
      endless = a.endless;
    }
