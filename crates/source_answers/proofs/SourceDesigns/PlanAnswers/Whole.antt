-- Answers of sources are answers of the clocked runs of their plans.
use Rattle.std.proofs.Common.{◌≡◌, ◌∙◌, ◌⊎◌, ◌<◌, inl, inr, ℕ, List, refl, sym, subst, Option}
use Rattle.std.proofs.lemmas.Option.{same_Some}
use Rattle.hls_base.specs.FileScope.{FileScope}
use Rattle.hls_base.specs.declared.point.Point.{Point}
use Rattle.c_tree.specs.Terminals.{terminals}
use Rattle.c_tree.specs.Tree.{ProgramTree}
use Rattle.c_meaning.specs.Points.{tally_of}
use Rattle.c_meaning.specs.Run as c
use Rattle.c_meaning.specs.Run.{c_run}
use Rattle.cosim_levels.specs.CAnswers as box
use Rattle.cosim_levels.specs.CAnswers.{IsCAnswer}
use Rattle.pieces.specs.Program.{ExpandedTree}
use Rattle.c_meaning.specs.PieceRuns.Runs.{frame_of}
use Rattle.expanded_programs.proofs.ElaboratedPrograms.Tokens.{numbers_fit}
use Rattle.source_answers.proofs.SourceRuns.ElaboratedSubscripts.Programs.{checked_fit}
use Rattle.ir_core.specs.declared.cfg.Cfg.{Cfg}
use Rattle.ir_core.specs.declared.stamp.Untimed.{Untimed}
use Rattle.ir_lower.specs.Frames.{frame_view}
use Rattle.ir_core.specs.declared.timed.Timed.{Timed}
use Rattle.reg_binding.specs.declared.registers.Registers.{Registers}
use Rattle.rtl_core.specs.Box.{Answer, Undefined}
use Rattle.cycle_report.specs.FormulaValue.{cycles}
use Rattle.cycle_report.specs.PlainReport.{PlainReport}
use Rattle.report_rows.specs.Costs.{AreRowsOf}
use Rattle.compile_steps.specs.Resets.{expanded_frame}
use Rattle.ir_core.specs.Bodies.{Words}
use Rattle.timed_pieces.specs.FlatRuns.{Choice, IsFine}
use Rattle.pass_runs.specs.LowerRuns.Holding.{ArraysAreShort}
use Rattle.clock_ir.specs.Flows.{Flow}
use Rattle.clock_ir.specs.ClockRuns as clock
use Rattle.clock_ir.specs.ClockRuns.{Phase, clock_run}
use Rattle.clock_runs.specs.Laws.{IsEnded}
use Rattle.timed_pieces.specs.StartedWords.Contents as words
use Rattle.compile_steps.specs.BegunPrograms.{HasEnds, InputsFill}
use Rattle.compile_steps.proofs.BegunPrograms.Programs.{checked_begins, checked_inputs}
use Rattle.datapath.specs.Plans.{Plan, Savings, plan_of}
use Rattle.datapath.specs.Answers.{Begins, HasEnded}
use Rattle.circuit_agreement.specs.CircuitFlow.Flows.{StoresAreApart}
use Rattle.circuit_agreement.specs.Answers.{IsClear, EndsAfter, RunsOn, EndsSo, NeverEnds, machine_answers}
use Rattle.source_answers.proofs.SourceDesigns.PlanWords.Whole.{plans_begin, plans_hold}
use Rattle.expanded_pieces.specs.BegunPieces.Points.{begins_at}
use Rattle.timed_pieces.proofs.ScheduleRuns.Programs.{scheduled_well}
use Rattle.timed_pieces.proofs.SoundPrograms.Whole.{sound}
use Rattle.source_answers.proofs.SourceRuns.SourceTypes.Whole.{sources_fine}
use Rattle.circuit_agreement.specs.ApartStores.Apart.{HasMeaning}
use Rattle.circuit_agreement.proofs.ApartStores.Circuits.{planned}
use Rattle.source_answers.specs.SourceRuns.{IsFaultless, expanded}
use Rattle.source_answers.specs.Laws.{HaveWidths, EndsWith, IsCounted, AnswersAs}
use Rattle.source_answers.proofs.Whole.{answers}
use Rattle.source_answers.proofs.SourceDesigns.PlanAnswers.Meanings.{HasMeaningAs, has_meaning}
use Rattle.source_answers.specs.SourceDesigns.PlanAnswers.{SourcePlansAnswer}

is_ended : (phase : Phase) → HasEnded phase → IsEnded phase
is_ended (clock.starting t) h = absurd h
is_ended (clock.loading i t) h = absurd h
is_ended (clock.inside i f) h = absurd h
is_ended (clock.ended w t) h = tt

clear_in : (q : Plan) (phase : Phase) → ((i : ℕ) (f : Flow) → phase ≡ clock.inside i f → StoresAreApart q i f) → IsClear q phase
clear_in q (clock.starting t) h = tt
clear_in q (clock.loading i t) h = tt
clear_in q (clock.inside i f) h = h i f refl
clear_in q (clock.ended w t) h = tt

module _ (p : ProgramTree) (top : ℕ) (choice : Choice) (start : Point) (cfg : Cfg Untimed) (timed : Cfg Timed) (registers : Registers) (savings : Savings) (same : frame_view timed.frame ≡ expanded_frame (expanded p top))
    (has : HasEnds (expanded p top)) (short : ArraysAreShort (frame_of (expanded p top))) (kept : FileScope) (scalars : List ℕ) (arrays : List (List ℕ)) (fill : InputsFill (expanded p top) kept scalars arrays)
    (from : (t : Words) → words.Begins (expanded p top) kept scalars arrays t → HaveWidths (expanded p top) t → AnswersAs p top choice start cfg timed kept scalars arrays t × HasMeaningAs p top cfg kept scalars arrays t)
    (apart : (t : Words) → HasMeaning cfg t → (m i : ℕ) (f : Flow) → clock_run (plan_of timed registers savings).program t m ≡ clock.inside i f → StoresAreApart (plan_of timed registers savings) i f) where
  abbrev e : ExpandedTree
  e = expanded p top

  abbrev plan : Plan
  plan = plan_of timed registers savings

  -- what is answered from contents of the plan with which a run may begin
  answered : (t : Words) → Begins plan kept scalars arrays t → AnswersAs p top choice start cfg timed kept scalars arrays t × HasMeaningAs p top cfg kept scalars arrays t
  answered t begins = (let w = plans_begin e timed registers savings same short has.contents kept scalars arrays t fill begins in from t w.0 w.1)

  clear : (t : Words) → HasMeaning cfg t → (n : ℕ) → IsClear plan (clock_run plan.program t n)
  clear t means n = clear_in plan (clock_run plan.program t n) (λ i f at. apart t means n i f at)

  ends_after : (t : Words) (count : ℕ) (result : Option ℕ) (last : List (List ℕ)) (left : FileScope) → HasMeaning cfg t → EndsWith e timed t count result last left → EndsAfter plan t count result last left
  ends_after t count result last left means h = record {
    words = h.words;
    ends_ = h.run;
    not_sooner = λ n lt ended. h.sooner n lt (is_ended (clock_run plan.program t n) ended);
    clear = λ n lt. clear t means n;
    holds = plans_hold e timed registers savings same arrays fill.hosts left last h.words h.hosts h.file;
  }

  module _ (report : PlainReport) (base : report.base ≡ 1) (rows : AreRowsOf timed.nodes.items report.rows) (counted : IsCounted p top choice start cfg kept scalars arrays) where
    ends_so : (points : ℕ) (result : Option ℕ) (last : List (List ℕ)) (left : FileScope) (trace : List Point) → c_run p top kept scalars arrays points ≡ c.ended result last left trace
        → EndsSo plan kept scalars arrays (cycles report.base report.rows (tally_of trace)) result last left
    ends_so points result last left trace run =
        subst (λ b. EndsSo plan kept scalars arrays (cycles b report.rows (tally_of trace)) result last left) (sym base)
        (λ t begins. let a = answered t begins in ends_after t (cycles 1 report.rows (tally_of trace)) result last left (a.1.finite points result last left trace run) (a.0.counted counted report.rows rows points result last left trace run))

    never_ends : ((points : ℕ) → c_run p top kept scalars arrays points ≡ c.running) → NeverEnds plan kept scalars arrays
    never_ends waits t begins = let a = answered t begins in record {
      never = λ n ended. a.0.endless waits n (is_ended (clock_run plan.program t n) ended);
      clear = clear t (a.1.endless waits);
    }

    answers_so : (answer : Answer) → IsCAnswer p top report kept scalars arrays answer → (answer ≡ Undefined) ⊎ machine_answers plan kept scalars arrays answer
    answers_so answer (box.ends points result last left trace run is) = inr (subst (machine_answers plan kept scalars arrays) (sym is) (ends_so points result last left trace run))
    answers_so answer (box.is_undefined points rule at run is) = inl is
    answers_so answer (box.is_endless waits is) = inr (subst (machine_answers plan kept scalars arrays) (sym is) (never_ends waits))

pub plans_answer : SourcePlansAnswer
plans_answer source p top name s start first choice cfg laid frame units timed loops times report base rows registers savings kept scalars arrays fit counted answer is =
    let e = expanded p top in
    let numbers = numbers_fit source s.tokens s.replaced s.spelled s.becomes in
    let found = sources_fine source s.tokens s.replaced s.end p top name s.spelled s.becomes s.derives s.named s.faultless in
    let fine : IsFine (frame_of e) (begins_at e.pieces) e.pieces start = subst (λ (q : Point). IsFine (frame_of e) (begins_at e.pieces) e.pieces q) (same_Some found.0 start (sym found.1.first ∙ first)) found.1 in
    let subscripts = checked_fit (terminals s.replaced) s.end p top name numbers s.derives s.named s.faultless in
    let has = checked_begins (terminals s.replaced) s.end p top name numbers s.derives s.named s.faultless in
    let stays_apart = planned (plan_of timed registers savings) cfg timed refl (sound (frame_of e) choice (begins_at e.pieces) e.pieces start e.result cfg fine subscripts laid) (scheduled_well units cfg timed loops times.frame times.first times.nodes) in
    answers_so p top choice start cfg timed registers savings (times.frame ∙ frame) has.0 has.1 kept scalars arrays (checked_inputs (terminals s.replaced) s.end p top name numbers s.derives s.named s.faultless kept scalars arrays fit)
    (λ t begins fits. (
      answers source p top name s start fine subscripts has.0 choice cfg laid units timed loops times kept scalars arrays t fit begins fits,
      has_meaning source p top name s start fine has.0 choice cfg laid kept scalars arrays t fit begins fits,
    )) stays_apart report base rows counted answer is
