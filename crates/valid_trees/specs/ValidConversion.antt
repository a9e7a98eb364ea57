-- What conversion keeps of valid trees.
use Rattle.std.specs.Prelude.{◌≡◌, Bool, true}
use Rattle.std.specs.List.{list_all}
use Rattle.ir_core.specs.Trees.{SequenceTree}
use Rattle.passes.specs.Conversion.{Scope, converted_sequence}
use Rattle.program_validity.specs.Widths.{is_width}
use Rattle.valid_trees.specs.Shapes.{FrameShape}
use Rattle.valid_trees.specs.Bodies.{BodyOverlaps}
use Rattle.valid_trees.specs.Trees.{SequenceHas, TreeIsValid}

-- Each loop that is overlapped has results of its own for what it sets, and stores nothing before its test.
abbrev pub LoopsOverlap : SequenceTree → Type 0
LoopsOverlap = SequenceHas (λ b. Unit {0}) BodyOverlaps

abbrev pub scope_of : FrameShape → Bool → Scope
scope_of frame loops = record { widths = frame.widths; loops = loops }

abbrev pub ConvertedTreesAreValid : Type 0
ConvertedTreesAreValid = (frame : FrameShape) (loops : Bool) (blocks : SequenceTree) → list_all is_width frame.widths ≡ true → TreeIsValid frame blocks
    → LoopsOverlap (converted_sequence (scope_of frame loops) blocks) → TreeIsValid frame (converted_sequence (scope_of frame loops) blocks)
