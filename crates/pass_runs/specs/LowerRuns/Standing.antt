-- Operations of a block that were performed, and operands among them.
use Rattle.std.specs.Prelude.{◌≡◌, ℕ, List, [], ◌++◌, length}
use Rattle.ir_core.specs.declared.body.Operand.{Operand}
use Rattle.ir_core.specs.declared.body.Source.{Source}
use Rattle.ir_core.specs.declared.body.Source.TheVariants as source
use Rattle.hls_base.specs.Valued.{is}
use Rattle.ir_core.specs.Bodies.{OpTree, Shapes, Words, Ranged, operand_bits, operations}
use Rattle.pass_runs.specs.LowerRuns.Early.{IsEarly}

module _ (shapes : Shapes) where
  -- whatever operations come behind these, the operand has so many bits; a constant has those of its operation
  abbrev pub HasBits : List OpTree → ℕ → Source → Type 0
  HasBits ops bits (source.Constant w) = Unit {0}
  HasBits ops bits s = (later : List OpTree) (d : ℕ) → operand_bits shapes.widths (ops ++ later) d s ≡ bits

  -- From this entry on the operations, whatever comes behind them, give these results and leave these words.
  pub record Stands (t : Words) (ops : List OpTree) (r : Ranged) : Type 0 where
    pub run : (later : List OpTree) → operations shapes (ops ++ later) ops [] t ≡ is r
    pub count : length r.results ≡ length ops

  -- an operand of so many bits among them
  pub record Fits (ops : List OpTree) (r : Ranged) (x : Operand) (bits : ℕ) : Type 0 where
    pub early : IsEarly (length r.results) x.value
    pub wide : HasBits ops bits x.value
