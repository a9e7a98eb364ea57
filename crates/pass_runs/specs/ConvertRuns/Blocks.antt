-- What blocks do without the points that they pass, and what is to be known of forks that are merged.
use Rattle.std.specs.Prelude.{◌≡◌, ℕ, false, List, [], ◌∷◌, Option, Some, None, if◌then◌else◌}
use Rattle.hls_base.specs.declared.point.Point.{Point}
use Rattle.ir_core.specs.declared.body.Out.{Out}
use Rattle.hls_base.specs.Steps.{Ran, goes, then_, reached}
use Rattle.hls_base.specs.Valued.{valued}
use Rattle.ir_core.specs.Bodies.{Shapes, Words, operations}
use Rattle.ir_core.specs.Trees.{next, branch, BlockTree}
use Rattle.ir_core.specs.TreeRuns.{Way, on, Turn, again, over, block_left, is_taken}
use Rattle.passes.specs.Conversion.Outs.{is_set}
use Rattle.passes.specs.Conversion.Merging.{Branches, merged}
use Rattle.pass_runs.specs.ConvertRuns.Typed.{BlockIsTyped, Fits}

-- each variable once
abbrev pub Once : List Out → Type 0
Once [] = Unit {0}
Once (o ∷ os) = (is_set os o.variable ≡ false) × Once os

-- a block to which others may be joined
pub record IsOpen (widths words : List ℕ) (block : BlockTree) : Type 0 where
  pub typed : BlockIsTyped widths words block
  pub once : Once block.outs

-- a block that may be there, and leads on
abbrev pub BranchIsTyped : List ℕ → List ℕ → Option BlockTree → Type 0
BranchIsTyped widths words None = Unit {0}
BranchIsTyped widths words (Some b) = BlockIsTyped widths words b × (b.exit ≡ next)

module _ (shapes : Shapes) where
  -- what a block does without the point that it passes
  abbrev pub naked : BlockTree → Words → ℕ → Ran Words Way
  naked b t n = valued (operations shapes b.ops b.ops [] t) (block_left b) t n

  abbrev pub part_or_on : Option BlockTree → Words → ℕ → Ran Words Way
  part_or_on None t n = goes on t n
  part_or_on (Some b) t n = naked b t n

  -- the branch that is taken
  abbrev pub branch_part : Branches → Way → Words → ℕ → Ran Words Way
  branch_part f w t n = if is_taken w then part_or_on f.yes_ t n else part_or_on f.no_ t n

  -- an iteration of a loop: its test, and where it holds a point and the body
  abbrev pub turn_of_blocks : BlockTree → BlockTree → Point → Words → ℕ → Ran Words Turn
  turn_of_blocks head body point t n =
      then_ (naked head t n) (λ w t1 n1. if is_taken w then reached point (λ t2 n2. then_ (naked body t2 n2) (λ w3 t3 n3. goes again t3 n3)) t1 n1 else goes over t1 n1)

-- A fork whose branches are one block each, merged into the block before it, does what that block and the branch that is taken do one after another.
abbrev pub MergesKeepBlocks : Shapes → List ℕ → Type 0
MergesKeepBlocks shapes words = (b : BlockTree) (f : Branches) → IsOpen shapes.widths words b → b.exit ≡ branch f.test → BranchIsTyped shapes.widths words f.yes_ → BranchIsTyped shapes.widths words f.no_
    → (t : Words) → Fits shapes.widths words t → (n : ℕ) → then_ (naked shapes b t n) (λ w t1 n1. branch_part shapes f w t1 n1) ≡ naked shapes (record (merged shapes.widths b f) { exit = next }) t n
