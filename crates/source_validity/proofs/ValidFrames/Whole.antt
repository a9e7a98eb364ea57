-- The frame of an expanded program is valid.
use Rattle.std.proofs.Common.{◌≡◌, ◌∙◌, Bool, true, ◌&&◌, not, refl, ap, sym, subst, Option, Some, None}
use Rattle.std.specs.Prelude.{◌==◌, slice_get}
use Rattle.std.specs.List.{list_all}
use Rattle.std.proofs.lemmas.Bool.{and_from, or_right}
use Rattle.c_token.specs.declared.ctype.CType.{CType}
use Rattle.c_value.specs.Values.{width}
use Rattle.pieces.specs.Program.{ExpandedTree}
use Rattle.ir_lower.specs.Frames.{FrameView, frame_view, result_width}
use Rattle.compile_steps.specs.Resets.{expanded_frame}
use Rattle.program_validity.specs.Widths.{is_width, is_word_of}
use Rattle.program_validity.specs.Frames.{is_among, is_kept, are_variables, are_different, keep_different, is_result_width}
use Rattle.source_validity.specs.ValidFrames.{ExpandedFramesAreValid}
use Rattle.source_validity.proofs.ValidFrames.Variables.{below_test, width_is, widths_are, all_different, keep_apart, all_there, kept_are}
use Rattle.source_validity.proofs.ValidFrames.Memories.{IsMemory, views_hold, arrays_hold}

result_is : (ret : Option CType) → is_result_width (result_width ret) ≡ true
result_is None = refl
result_is (Some k) = or_right (width k == 0) (is_width (width k)) (width_is k)

-- the same of a frame without where it lies in memory
abbrev IsFrame : ExpandedTree → FrameView → Bool
IsFrame e v =
    (list_all is_width v.variables && is_result_width v.ret)
    && (((are_variables v.variables v.params && are_different v.params) && (list_all (λ k. is_word_of (slice_get v.variables k.variable.0) k.value && not (is_among k.variable v.params)) v.kept && keep_different v.kept)) && list_all IsMemory v.memories)

pub frame_valid : ExpandedFramesAreValid
frame_valid e f same contents kept params arrays few =
    let c = contents in
    let view : IsFrame e (expanded_frame e) ≡ true =
    and_from _ _ (and_from _ _ (widths_are e.variables) (result_is e.ret))
    (and_from _ _ (and_from _ _ (and_from _ _ (all_there e e.params params) (all_different e.params c.params)) (and_from _ _ (kept_are e e.params e.kept kept c.values c.apart) (keep_apart e.kept c.kept))) (arrays_hold e.arrays arrays c.arrays)) in
    let own : IsFrame e (frame_view f) ≡ true = ap (IsFrame e) same ∙ view in
    and_from _ _ (and_from _ _ (below_test _ _ few.variables) (below_test _ _ few.memories))
    (subst (λ b. ((list_all is_width f.variables.items && is_result_width f.ret)
    && (((are_variables f.variables.items f.params.items && are_different f.params.items) && (list_all (is_kept f) f.kept.items && keep_different f.kept.items)) && b)) ≡ true) (sym (views_hold f.memories.items)) own)
