-- A flat program has the run of its pieces.
use Rattle.std.proofs.Common.{◌≡◌, ◌∙◌, ℕ, ◌+◌, sym, ap, subst, Bool, List, ◌++◌, length, filter, Option, append_assoc}
use Rattle.std.specs.Option.{option_map}
use Rattle.hls_base.specs.declared.point.Point.{Point}
use Rattle.hls_base.specs.Steps.{Outcome, went, undefined, waiting, Ran}
use Rattle.c_meaning.specs.PieceRuns.Pieces.{pieces_run}
use Rattle.ir_core.specs.Bodies.{Words}
use Rattle.ir_core.specs.TreeRuns as trees
use Rattle.ir_core.specs.TreeRuns.{sequence_run}
use Rattle.ir_core.specs.FlatRuns.{flat_run}
use Rattle.passes.specs.Conversion.{converted_sequence}
use Rattle.pass_runs.specs.ConvertRuns.Kept.{Begins, Matches, IsKept, IsKeptOf, IsSameRun}
use Rattle.pass_runs.specs.ConvertRuns.Typed.{Fits}
use Rattle.pass_runs.specs.ConvertRuns.ConvertedTrees.Points.{AreApart, stays_in}
use Rattle.pass_runs.specs.ConvertRuns.LoweredConversions.Suiting as typing
use Rattle.pass_runs.specs.LowerRuns.Suits.{shapes_of, scope_of}
use Rattle.pass_runs.specs.LowerRuns.LoweredRuns as control
use Rattle.pass_runs.specs.LowerRuns.Following.{IsUndefined}
use Rattle.flat_programs.specs.Laws.{tree_run}
use Rattle.passes.proofs.NumberRuns.Blocks.{block_same}
use Rattle.passes.proofs.NumberRuns.Trees.{sequence_same}
use Rattle.pass_runs.proofs.LowerRuns.LoweredTrees.Trees.{lowered_ordered}
use Rattle.pass_runs.proofs.LowerRuns.LoweredTrees.Fitting.{lowered_fits}
use Rattle.pass_runs.proofs.ConvertRuns.LoweredConversions.Whole.{numbered_typed}
use Rattle.pass_runs.proofs.ConvertRuns.ConvertedTrees.Points as points
use Rattle.pass_runs.proofs.ConvertRuns.ConvertedTrees.Numbered as numbered
use Rattle.pass_runs.proofs.ConvertRuns.ConvertedTrees.Converted as converted
use Rattle.pass_runs.proofs.ConvertRuns.MergedBlocks.Whole as merged
use Rattle.flat_programs.proofs.Whole.{layout_kept}
use Rattle.pass_runs.proofs.LowerRuns.LoweredRuns.Whole.{lowered_runs}
use Rattle.hls_base.specs.declared.number.VarId.{VarId}
use Rattle.pieces.specs.Trees.{PieceTrees}
use Rattle.c_meaning.specs.PieceRuns.Values.{Store}
use Rattle.c_meaning.specs.PieceRuns.Pieces.{Frame}
use Rattle.ir_core.specs.declared.cfg.Cfg.{Cfg}
use Rattle.ir_core.specs.declared.stamp.Untimed.{Untimed}
use Rattle.pass_runs.specs.LowerRuns.Holding.{Holds, none_hidden}
use Rattle.op_chain.specs.Laws as fusing
use Rattle.op_chain.specs.Laws.{IsKeptBy}
use Rattle.op_chain.proofs.Kept.{runs_kept}
use Rattle.op_chain.proofs.ValidFusing.Forward.{valid_forward}
use Rattle.timed_pieces.specs.FlatRuns.Runs.{IsRunOf}
use Rattle.timed_pieces.specs.FlatRuns.{Choice, IsFine, IsUnfused, numbering_of, conversion_of, tree_of, numbered_of, has_node, AreDone, FlatProgramsKeepRuns}
use Rattle.timed_pieces.proofs.FlatRuns.Composing.{with_end, Shown, composed}

-- ---- runs that are given in another way

matches_of : {S A : Type 0} (R : List Point → List Point → Type 0) (known : A → S → Type 0) (r q : ℕ → Ran S A) → ((n : ℕ) → r n ≡ q n) → (trace : List Point) (o : Outcome S A)
    → Matches R known trace o r → Matches R known trace o q
matches_of R known r q e trace (went v s n) h = (h.0, h.1, h.2, λ k. sym (e (length h.1 + k)) ∙ h.3 k)
matches_of R known r q e trace (undefined rule at) h = (h.0, h.1, λ k. sym (e (length h.0 + k)) ∙ h.2 k)
matches_of {S} {A} R known r q e trace waiting h = (h.0, h.1, λ k. subst (λ (x : Ran S A). Begins h.0 x.trace) (e (length h.0 + k)) (h.2 k))

same_first : {S A : Type 0} (kept : Point → Bool) (known : A → S → Type 0) (r q second : ℕ → Ran S A) → ((n : ℕ) → r n ≡ q n) → IsSameRun kept known r second → IsSameRun kept known q second
same_first {S} {A} kept known r q second e h = record {
  forth = λ n. subst (λ (x : Ran S A). Matches (IsKept kept) known x.trace x.outcome second) (e n) (h.forth n);
  back = λ n. matches_of (IsKeptOf kept) known r q e (second n).trace (second n).outcome (h.back n);
}

same_second : {S T A B : Type 0} (kept : Point → Bool) (shows shows1 : A → S → B → T → Type 0) (first : ℕ → Ran S A) (r q : ℕ → Ran T B) → ((n : ℕ) → r n ≡ q n)
    → ((v : A) (s : S) (w : B) (t : T) → shows v s w t → shows1 v s w t) → IsRunOf kept shows first r → IsRunOf kept shows1 first q
same_second {S} {T} {A} {B} kept shows shows1 first r q e weaker h = record {
  comes = λ n. let x = h.comes n in (x.0, subst (λ (y : Ran T B). Begins (filter kept (first n).trace) y.trace) (e x.0) x.1);
  ends = λ n left trace v s is.
      let x = h.ends n left trace v s is in (x.0, x.1, weaker v s x.0 x.1 x.2, λ k. sym (e (length (filter kept trace) + k)) ∙ x.3 k);
  goes_on = λ w n. subst (λ (y : Ran T B). y.outcome ≡ waiting) (e n) (h.goes_on w n);
  faults = λ n u. h.faults n (subst (λ (y : Ran T B). IsUndefined y.outcome) (sym (e n)) u);
}

-- ---- the whole

unfused_runs : (f : Frame) (choice : Choice) (kept : Point → Bool) (pieces : PieceTrees) (point : Point) (returned : Option VarId) (cfg : Cfg Untimed)
    → IsFine f kept pieces point → IsUnfused f choice pieces point returned cfg
    → (s : Store) (t : Words) → Holds f none_hidden s t → Fits (typing.widths_of (scope_of f)) (typing.words_of (scope_of f)) t
    → IsRunOf (has_node f choice kept pieces point) (AreDone f returned) (λ n. pieces_run f pieces s n) (λ n. flat_run cfg t n)
unfused_runs f choice kept pieces point returned cfg fine laid s t holds fits =
    let scope = scope_of f in
    let words = typing.words_of scope in
    let tree = tree_of f pieces point in
    let small = numbered_of f choice pieces point in
    let blocks = converted_sequence (conversion_of f choice) small in
    let stays = stays_in (conversion_of f choice) small in
    let known : trees.Way → Words → Type 0 = λ w u. Fits (typing.widths_of scope) words u in
    let tell : trees.Way → Words → Option ℕ = λ w u. option_map (λ variable. u.variables variable.0) returned in
    let first = λ (n : ℕ). pieces_run f pieces s n in
    let second = λ (n : ℕ). sequence_run (shapes_of f) tree t n in
    let third = λ (n : ℕ). sequence_run (shapes_of f) blocks t n in
    let keeps = points.apart (conversion_of f choice) small (subst AreApart (sym (points.numbered (numbering_of f choice) tree)) fine.points) in
    let converts = merged.trees (shapes_of f) words choice.loops small stays (numbered_typed scope choice.apart pieces point fine.typed) keeps t fits in
    let numbers = λ (n : ℕ). sequence_same (shapes_of f) (block_same (shapes_of f)) choice.apart tree (lowered_ordered scope pieces point) t n in
    let formed = converted.well_formed (conversion_of f choice) small (numbered.well_formed (numbering_of f choice) tree (lowered_fits scope pieces point fine.fit)) in
    let lays = λ (n : ℕ). ap (λ z. tree_run z blocks returned t n) (sym laid.shapes) ∙ sym (layout_kept cfg blocks returned laid.nodes laid.first formed t n) in
    same_second (has_node f choice kept pieces point) (Shown kept stays (control.AreDone f) known tell first second third) (AreDone f returned) first (λ n. with_end tell (third n)) (λ n. flat_run cfg t n) lays
    (λ way store value u h. (h.1.0, h.3, h.1.2, h.2))
    (composed kept stays (control.AreDone f) known tell first second third (lowered_runs f kept pieces point fine.short fine.first fine.fit fine.begins s t holds)
    (same_first stays known (λ n. sequence_run (shapes_of f) small t n) second third numbers converts))

-- ---- fused programs

undefined_too : {S A : Type 0} (o : Outcome S A) → fusing.IsUndefined o → IsUndefined o
undefined_too (went v s n) h = h
undefined_too (undefined rule at) h = tt
undefined_too waiting h = h

begins_too : (xs ys zs : List Point) → Begins xs ys → fusing.Begins ys zs → Begins xs zs
begins_too xs ys zs h g = (h.0 ++ g.0, g.1 ∙ ap (λ l. l ++ g.0) h.1 ∙ append_assoc xs h.0 g.0)

undefined_before : {S A : Type 0} (o : Outcome S A) → IsUndefined o → fusing.IsUndefined o
undefined_before (went v s n) h = h
undefined_before (undefined rule at) h = tt
undefined_before waiting h = h

kept_through : {S T A B : Type 0} (kept : Point → Bool) (shows : A → S → B → T → Type 0) (first : ℕ → Ran S A) (second third : ℕ → Ran T B) → IsRunOf kept shows first second → IsKeptBy second third → IsRunOf kept shows first third
kept_through {S} {T} {A} {B} kept shows first second third h k = record {
  comes = λ n. let x = h.comes n in (x.0, begins_too (filter kept (first n).trace) (second x.0).trace (third x.0).trace x.1 (k.comes x.0));
  ends = λ n left trace v s is.
      let x = h.ends n left trace v s is in (x.0, x.1, x.2, λ m. k.ends (length (filter kept trace) + m) m (filter kept trace) x.0 x.1 (x.3 m));
  goes_on = λ w n. k.waits n (h.goes_on w n);
  faults = λ n u. h.faults n (undefined_too (second n).outcome (k.faults n (undefined_before (third n).outcome u)));
}

pub flat_runs : FlatProgramsKeepRuns
flat_runs f choice kept pieces point returned cfg fine laid s t holds fits =
    kept_through (has_node f choice kept pieces point) (AreDone f returned) (λ n. pieces_run f pieces s n) (flat_run laid.unfused t) (flat_run cfg t)
    (unfused_runs f choice kept pieces point returned laid.unfused fine laid.laid s t holds fits) (runs_kept choice.period laid.unfused cfg (valid_forward laid.unfused laid.valid) laid.fused t)
