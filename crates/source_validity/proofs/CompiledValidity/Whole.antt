-- The flat program that a source is compiled to is valid.
use Rattle.std.proofs.Common.{◌≡◌, ◌∙◌, ℕ, true, ◌&&◌, refl, ap, sym, subst, List, [], ◌∷◌, map, length, Option, Some, None}
use Rattle.std.specs.Prelude.{◌^◌, nat_lt, slice_get, is_some}
use Rattle.std.specs.List.{list_all}
use Rattle.std.specs.Option.{option_map}
use Rattle.std.proofs.lemmas.Bool.{and_from}
use Rattle.std.proofs.lemmas.Option.{slice_get-map}
use Rattle.hls_base.specs.declared.number.VarId.{VarId}
use Rattle.c_token.specs.declared.ctype.CType.{CType}
use Rattle.c_value.specs.Values.{width}
use Rattle.pieces.specs.Program.{ArrayTree, ExpandedTree}
use Rattle.c_meaning.specs.PieceRuns.Runs.{frame_of}
use Rattle.ir_core.specs.declared.cfg.Frame.{Frame}
use Rattle.ir_core.specs.declared.cfg.Memory.{Memory}
use Rattle.ir_lower.specs.Frames.{MemoryView, memory_view, FrameView, frame_view, result_width}
use Rattle.compile_steps.specs.Resets.{array_memory, expanded_frame}
use Rattle.ir_core.specs.Trees.{SequenceTree}
use Rattle.passes.specs.Lowering.Blocks.{Scope}
use Rattle.pass_runs.specs.LowerRuns.Suits.{scope_of}
use Rattle.pass_runs.specs.ConvertRuns.LoweredConversions.Suiting.{widths_of, words_of}
use Rattle.timed_pieces.specs.FlatRuns.{tree_of, numbered_of, numbering_of}
use Rattle.timed_pieces.specs.StartedWords.Contents.{ResultIsThere}
use Rattle.sound_trees.specs.Ready.{BlockIsReady}
use Rattle.sound_trees.specs.Laws.{shapes_in, tree_in}
use Rattle.sound_trees.proofs.Whole.{tree_ready}
use Rattle.program_validity.specs.Widths.{is_width}
use Rattle.program_validity.specs.Frames.{is_frame, is_result_width}
use Rattle.program_validity.proofs.Parts.{first_of_both, second_of_both, holds_at}
use Rattle.program_validity.proofs.EachOperation.{width_between}
use Rattle.valid_trees.specs.Shapes.{MemoryShape, memory_shape, FrameShape, frame_shape}
use Rattle.valid_trees.specs.Bodies.{BodyOverlaps}
use Rattle.valid_trees.specs.Trees.{TreeIsValid}
use Rattle.valid_trees.specs.ValidLowering.{memory_in, frame_in}
use Rattle.valid_trees.proofs.ValidLowering.Lowered.{lowered_valid}
use Rattle.valid_trees.proofs.ValidNumbering.Trees.{sequence_valid}
use Rattle.valid_trees.proofs.ValidConversion.Trees.{tree_valid}
use Rattle.valid_trees.specs.ValidLayout.{GivesResult}
use Rattle.valid_trees.proofs.ValidLayout.Whole.{laid_out_consistent}
use Rattle.source_validity.specs.CompiledValidity.{LaidOutExpansionsAreValid}
use Rattle.source_validity.proofs.CompiledValidity.Overlaps.{sound_overlaps, sequence_overlaps}
use Rattle.source_validity.proofs.CompiledValidity.Left.{loops_left}
use Rattle.passes.specs.Conversion.Overlapping.{iteration}

-- ---- frames

abbrev shape_of_view : MemoryView → MemoryShape
shape_of_view m = record { bits = m.bits; dims = m.dims; table = is_some m.table }

abbrev shapes_of_view : FrameView → FrameShape
shapes_of_view v = record { widths = v.variables; memories = map shape_of_view v.memories }

memories_viewed : (ms : List Memory) → map memory_shape ms ≡ map shape_of_view (map memory_view ms)
memories_viewed [] = refl
memories_viewed (m ∷ ms) = ap (λ l. memory_shape m ∷ l) (memories_viewed ms)

arrays_viewed : (arrays : List ArrayTree) → map shape_of_view (map array_memory arrays) ≡ map memory_in arrays
arrays_viewed [] = refl
arrays_viewed (a ∷ arrays) = ap (λ l. memory_in a ∷ l) (arrays_viewed arrays)

abbrev with_memories : List ℕ → List MemoryShape → FrameShape
with_memories widths memories = record { widths = widths; memories = memories }

same_shape : (f : Frame) (e : ExpandedTree) → frame_view f ≡ expanded_frame e → frame_shape f ≡ frame_in (scope_of (frame_of e))
same_shape f e same =
    ap (with_memories f.variables.items) (memories_viewed f.memories.items) ∙ ap shapes_of_view same ∙ ap (with_memories (map width e.variables)) (arrays_viewed e.arrays)

widths_valid : (f : Frame) → is_frame f ≡ true → list_all is_width f.variables.items ≡ true
widths_valid f h = first_of_both _ (is_result_width f.ret) (first_of_both _ _ (second_of_both (nat_lt (length f.variables.items) (2 ^ 32) && nat_lt (length f.memories.items) (2 ^ 32)) _ h))

-- ---- the variable of the result

result_at : (variables : List CType) (v : ℕ) (k : CType) → slice_get variables v ≡ Some k → slice_get (map width variables) v ≡ Some (width k)
result_at variables v k e = slice_get-map width variables v ∙ ap (option_map width) e

gives_result : (f : Frame) (e : ExpandedTree) → frame_view f ≡ expanded_frame e → is_frame f ≡ true → ResultIsThere e.variables e.ret e.result → GivesResult f e.result
gives_result f e same frame there = by e.ret e.result refl there where
  by : (ret : Option CType) (result : Option VarId) → e.ret ≡ ret → ResultIsThere e.variables ret result → GivesResult f result
  by None None r h = ap (λ (v : FrameView). v.ret) same ∙ ap result_width r
  by (Some k) (Some v) r h =
      let bits : f.ret ≡ width k = ap (λ (x : FrameView). x.ret) same ∙ ap result_width r in
      let at : slice_get f.variables.items v.0 ≡ Some f.ret = ap (λ (x : FrameView). slice_get x.variables v.0) same ∙ result_at e.variables v.0 k h ∙ ap Some (sym bits) in
      ((width_between f.ret (holds_at is_width f.variables.items v.0 f.ret (widths_valid f frame) at)).0, at)
  by None (Some v) r h = absurd h
  by (Some k) None r h = absurd h

-- ---- the whole

pub laid_out_valid : LaidOutExpansionsAreValid
laid_out_valid e choice point cfg laid same suits subscripts proper result ends frame numbers =
    let scope : Scope = scope_of (frame_of e) in
    let f = cfg.frame in
    let widths : list_all is_width (widths_of scope) ≡ true = ap (λ (v : FrameView). list_all is_width v.variables) (sym same) ∙ widths_valid f frame in
    let low = lowered_valid scope e.pieces point suits proper in
    let num = sequence_valid (frame_in scope) (numbering_of (frame_of e) choice) (tree_of (frame_of e) e.pieces point) low in
    let blocks : SequenceTree = tree_in scope choice.apart choice.loops e.pieces point in
    let ready = tree_ready BodyOverlaps scope choice.apart choice.loops e.pieces point suits subscripts (λ known b r s. sound_overlaps (shapes_in scope) (iteration known b) s) in
    let overlaps = sequence_overlaps (BlockIsReady (shapes_in scope) (words_of scope) true) BodyOverlaps blocks ready in
    let valid : TreeIsValid (frame_in scope) blocks = tree_valid (frame_in scope) choice.loops (numbered_of (frame_of e) choice e.pieces point) widths num overlaps in
    let here : TreeIsValid (frame_shape f) blocks = subst (λ x. TreeIsValid x blocks) (sym (same_shape f e same)) valid in
    and_from _ _ (laid_out_consistent cfg blocks e.result laid.nodes laid.first numbers frame (gives_result f e same frame result) here) (loops_left cfg ends)
