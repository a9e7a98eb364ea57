-- The nodes that pieces become are sound.
use Rattle.std.proofs.Common.{ℕ, Bool, true, List, [], None}
use Rattle.hls_base.specs.declared.point.Point.{Point}
use Rattle.ir_core.specs.declared.body.Operand.{Operand}
use Rattle.pieces.specs.Trees.{PieceTrees}
use Rattle.ir_core.specs.Bodies.{Shapes}
use Rattle.ir_core.specs.Trees.{BlockTree, BodyTree, SequenceTree}
use Rattle.passes.specs.Lowering.Blocks as lower
use Rattle.passes.specs.Lowering.Blocks.{begun}
use Rattle.passes.specs.Lowering.{last, lowered}
use Rattle.passes.specs.Numbering.{numbered_sequence}
use Rattle.passes.specs.Conversion.{Scope, converted_sequence}
use Rattle.passes.specs.Conversion.Merging.{opened, joined, first_of}
use Rattle.passes.specs.Conversion.Overlapping.{iteration}
use Rattle.ir_layout.specs.Layout.{finish, laid_out}
use Rattle.pass_runs.specs.ConvertRuns.LoweredConversions.Suiting.{widths_of, words_of, PiecesSuit}
use Rattle.sound_trees.specs.Trees.{SequenceHas}
use Rattle.sound_trees.specs.Ready.{BlockIsReady}
use Rattle.sound_trees.specs.Loops.{NumberedLoopIsReady, BodyIsSound}
use Rattle.sound_trees.specs.Subscripts.{PiecesSubscriptsFit}
use Rattle.sound_trees.specs.Laws.{shapes_in, tree_in, TreesBecomeSound}
use Rattle.sound_trees.proofs.Lowered.{lowered_ready}
use Rattle.sound_trees.proofs.NumberedTrees as numbered
use Rattle.sound_trees.proofs.Converted as converted
use Rattle.sound_trees.proofs.Converted.{LoopsFit}
use Rattle.sound_trees.proofs.Bodies.{body_own}
use Rattle.sound_trees.proofs.Merged.{opened_ready, joined_ready}
use Rattle.sound_trees.proofs.Overlapped.{head_ready, overlapped_sound}
use Rattle.sound_trees.proofs.LaidOut.{laid_sound, code_sound}

-- ---- loops that are overlapped

module _ (shapes : Shapes) (words : List ℕ) (loops : Bool) where
  abbrev N : SequenceTree → SequenceTree → Type 0
  N = NumberedLoopIsReady shapes words

  -- none is overlapped before conversion
  abbrev O : BodyTree → Type 0
  O b = ⊥

  first_has : (s : SequenceTree) → SequenceHas (BlockIsReady shapes words true) (λ t b. Unit {0}) (λ b. Unit {0}) s → BlockIsReady shapes words true (first_of s)
  first_has s h = converted.first_ready shapes words loops N O (λ b. Unit {0}) (λ b x. tt) (λ t b known x y z i. tt) s h

  all_ready : (s : SequenceTree) → SequenceHas (BlockIsReady shapes words true) N O s → SequenceHas (BlockIsReady shapes words true) (λ t b. Unit {0}) (λ b. Unit {0}) (converted_sequence (record { widths = shapes.widths; loops = loops }) s)
  all_ready s h = converted.sequence_ready shapes words loops N O (λ b. Unit {0}) (λ b x. tt) (λ t b known x y z i. tt) s h

  loops_fit : LoopsFit shapes words loops N O (BodyIsSound shapes)
  loops_fit t b known ht hb n i =
      let scope : Scope = record { widths = shapes.widths; loops = loops } in
      let own = body_own shapes words loops N O b hb n.ready.owns n.computed i.only_body in
      overlapped_sound shapes words loops (first_of (converted_sequence scope t)) (first_of (converted_sequence scope b)) known (head_ready shapes words loops t n.ready.tests i.alone)
      (first_has (converted_sequence scope t) (all_ready t ht)) i.exit_ i.tests (first_has (converted_sequence scope b) (all_ready b hb)) own.computed own.owns

  -- and what holds of iterations that are sound, of blocks that are ready
  others_fit : (P : BodyTree → Type 0) → ((known : Operand) (b : BlockTree) → BlockIsReady shapes words true b → BodyIsSound shapes (iteration known b) → P (iteration known b)) → LoopsFit shapes words loops N O P
  others_fit P holds t b known ht hb n i =
      let scope : Scope = record { widths = shapes.widths; loops = loops } in
      let head = first_of (converted_sequence scope t) in
      let body = first_of (converted_sequence scope b) in
      holds known (joined shapes.widths (opened head) body)
      (joined_ready shapes words (opened head) body (opened_ready shapes words true head (first_has (converted_sequence scope t) (all_ready t ht))) (first_has (converted_sequence scope b) (all_ready b hb)))
      (loops_fit t b known ht hb n i)

-- ---- the whole

-- The tree that pieces become is ready, and what holds of iterations that are sound, of blocks that are ready, holds of the bodies of loops that are overlapped.
pub tree_ready : (P : BodyTree → Type 0) (scope : lower.Scope) (apart loops : Bool) (pieces : PieceTrees) (point : Point) → PiecesSuit scope pieces → PiecesSubscriptsFit scope.arrays pieces
    → ((known : Operand) (b : BlockTree) → BlockIsReady (shapes_in scope) (words_of scope) true b → BodyIsSound (shapes_in scope) (iteration known b) → P (iteration known b))
    → SequenceHas (BlockIsReady (shapes_in scope) (words_of scope) true) (λ t b. Unit {0}) P (tree_in scope apart loops pieces point)
tree_ready P scope apart loops pieces point suits subscripts holds =
    let shapes = shapes_in scope in
    let words = words_of scope in
    let tree = lowered scope pieces last (begun point) in
    let low = lowered_ready (λ b. ⊥) scope pieces point suits subscripts in
    let num = numbered.sequence_ready shapes words (λ b. ⊥) (record { widths = widths_of scope; apart = apart }) tree low in
    converted.sequence_ready shapes words loops (NumberedLoopIsReady shapes words) (λ b. ⊥) P (λ b h. absurd h) (others_fit shapes words loops P holds) (numbered_sequence (record { widths = widths_of scope; apart = apart }) tree) num

pub sound : TreesBecomeSound
sound scope apart loops pieces point returned nodes suits subscripts laid =
    code_sound (shapes_in scope) nodes (laid_out (tree_in scope apart loops pieces point) returned) laid
    (laid_sound (shapes_in scope) (words_of scope) (λ t b. Unit {0}) (record { leave = None; again = None; lands = []; returned = returned }) finish 0 (tree_in scope apart loops pieces point)
    (tree_ready (BodyIsSound (shapes_in scope)) scope apart loops pieces point suits subscripts (λ known b h s. s)))
