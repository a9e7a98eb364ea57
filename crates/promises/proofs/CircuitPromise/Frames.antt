-- Plans of programs that are laid out from an expanded program fit their frames.
use Rattle.std.proofs.Common.{◌≡◌, ◌≢◌, ◌∙◌, ◌<◌, ◌≤◌, ◌^◌, ℕ, zero, suc, refl, sym, ap, subst, arith, List, [], ◌∷◌, length, map, slice_get, Option, Some, None}
use Rattle.std.proofs.lemmas.Option.{none-some, same_Some}
use Rattle.hls_base.specs.declared.number.VarId.{VarId}
use Rattle.hls_base.specs.declared.point.Point.{Point}
use Rattle.c_token.specs.declared.ctype.CType.{CType}
use Rattle.c_value.specs.Values.{width}
use Rattle.pieces.specs.Program.{ArrayTree, ExpandedTree}
use Rattle.c_meaning.specs.PieceRuns.Runs.{frame_of}
use Rattle.ir_core.specs.declared.body.Operand.{Operand}
use Rattle.ir_core.specs.declared.cfg.Cfg.{Cfg}
use Rattle.ir_core.specs.declared.cfg.End.TheVariants as end
use Rattle.ir_core.specs.declared.stamp.Untimed.{Untimed}
use Rattle.ir_layout.specs.Nodes.{node_of}
use Rattle.ir_layout.specs.Layout.{finish}
use Rattle.ir_lower.specs.Frames.{FrameView, result_width, frame_view}
use Rattle.ir_core.specs.declared.timed.Timed.{Timed}
use Rattle.reg_binding.specs.declared.registers.Registers.{Registers}
use Rattle.compile_steps.specs.Resets.{expanded_frame}
use Rattle.passes.specs.Conversion.{converted_sequence}
use Rattle.expand_runs.specs.Laws.{AreWords}
use Rattle.timed_pieces.specs.FlatRuns.{Choice, IsLaidOut, conversion_of, numbered_of}
use Rattle.sound_trees.proofs.Adding.{width_positive}
use Rattle.sound_trees.proofs.Sound.{mapped_at}
use Rattle.timed_pieces.specs.StartedWords.Contents.{ResultIsThere}
use Rattle.timed_pieces.specs.StartedWords.FirstWords.{FillsArray, FillsIfAny, HasFirstContents}
use Rattle.compile_steps.specs.BegunPrograms.{HasEnds}
use Rattle.clock_ir.specs.Flows.{TimedBody}
use Rattle.clock_ir.specs.ClockRuns as clock
use Rattle.clock_ir.specs.WellTimed.{IsWellTimed}
use Rattle.clock_runs.specs.Premises.{Each}
use Rattle.datapath.specs.Plans.{Plan, Array, Savings, plan_of}
use Rattle.source_answers.proofs.SourceDesigns.PlanWords.Frames.{array_in}
use Rattle.source_answers.proofs.SourceDesigns.PlanWords.Whole.{arrays_same}
use Rattle.circuit_agreement.specs.Standing.{FitsFrame}
use Rattle.promises.specs.CircuitPromise.{PlansFitFrames}
use Rattle.promises.proofs.CircuitPromise.Returning.{HasNone, laid_none, fused_none, none_returned}

-- where there is a variable of the result, it has some bits
result_there : (variables : List CType) (ret : Option CType) (result : Option VarId) → ResultIsThere variables ret result → (result ≡ None → ⊥) → result_width ret ≢ 0
result_there variables None None h some_ = λ z. some_ refl
result_there variables None (Some v) h some_ = absurd h
result_there variables (Some k) None h some_ = absurd h
result_there variables (Some k) (Some v) h some_ = λ z. (let none : width k ≡ 0 = z in omega (arith, width_positive k, none))

words_below : (k : CType) (words : List ℕ) (n word : ℕ) → AreWords k words → slice_get words n ≡ Some word → word < 2 ^ width k
words_below k [] n word h at = absurd (none-some word at)
words_below k (x ∷ words) zero word h at = subst (λ y. y < 2 ^ width k) (same_Some x word at) h.0
words_below k (x ∷ words) (suc n) word h at = words_below k words n word h.1 at

module _ (e : ExpandedTree) (choice : Choice) (start : Point) (untimed : Cfg Untimed) (timed : Cfg Timed) (registers : Registers) (savings : Savings) (has : HasEnds e) (same : frame_view timed.frame ≡ expanded_frame e)
    (laid : IsLaidOut (frame_of e) choice e.pieces start e.result untimed) (well : IsWellTimed untimed timed) where
  abbrev plan : Plan
  plan = plan_of timed registers savings

  nothing_returned : e.result ≡ None → Each HasNone (map node_of untimed.nodes.items)
  nothing_returned none =
      subst (Each HasNone) (sym laid.fused.nodes) (fused_none choice.period (length laid.unfused.frame.variables.items) (map node_of laid.unfused.nodes.items)
      (subst (Each HasNone) (sym laid.laid.nodes) (laid_none (record { leave = None; again = None; lands = []; returned = e.result }) finish 0 (converted_sequence (conversion_of (frame_of e) choice) (numbered_of (frame_of e) choice e.pieces start)) none)))

  returns_ : (i : ℕ) (body : TimedBody) (x : Operand) → slice_get plan.program.nodes i ≡ Some (clock.block body (end.Return (Some x))) → plan.result ≢ 0
  returns_ i body x at =
      let width_is : plan.result ≡ result_width e.ret = ap (λ (v : FrameView). v.ret) same in
      let some_ : result_width e.ret ≢ 0 =
      result_there e.variables e.ret e.result has.result (λ none. none_returned untimed.frame.memories.items untimed.nodes.items timed.nodes.items well.nodes (nothing_returned none) i body x at) in
      λ z. some_ (sym width_is ∙ z)

  constants_ : (a n word : ℕ) (array : Array) (words : List ℕ) → slice_get plan.arrays a ≡ Some array → array.table ≡ Some words → slice_get words n ≡ Some word → word < 2 ^ array.bits
  constants_ a n word array words at table there =
      let m = mapped_at array_in e.arrays a array (ap (λ (xs : List Array). slice_get xs a) (sym (arrays_same e timed registers savings same)) ∙ at) in
      let contents = has.contents.arrays a m.0 m.1 in
      let filled : FillsArray m.0 words = subst (FillsIfAny m.0) (ap (λ (b : Array). b.table) m.2 ∙ table) contents.table in
      subst (λ (b : Array). word < 2 ^ b.bits) m.2 (words_below m.0.kind words n word filled.1 there)

  fits : FitsFrame plan
  fits = record { returns = returns_; constants = constants_ }

pub frames_fit : PlansFitFrames
frames_fit e choice start untimed timed registers savings has same laid well = fits e choice start untimed timed registers savings has same laid well
