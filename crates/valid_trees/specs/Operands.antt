-- Operands that name what is there, of the widths that are asked of them.
use Rattle.std.specs.Prelude.{◌≡◌, ℕ, true, List, [], ◌∷◌, Option, Some, None}
use Rattle.ir_core.specs.declared.body.Operand.{Operand}
use Rattle.ir_core.specs.declared.body.Out.{Out}
use Rattle.ir_core.specs.declared.body.Source.{Source}
use Rattle.ir_core.specs.declared.body.Source.TheVariants as source
use Rattle.ir_core.specs.Bodies.{OpTree}
use Rattle.pass_runs.specs.ConvertRuns.Typed.{HasBits}
use Rattle.program_validity.specs.Widths.{is_width}
use Rattle.program_validity.specs.Operands.{is_at}
use Rattle.valid_trees.specs.Shapes.{FrameShape, words_in}

-- in a body that carries these outs to its next iteration, behind these operations
module _ (frame : FrameShape) (carried : List Out) (before : List OpTree) where
  -- a constant that fits the width, or a variable or result that has it, of the iteration in which it is there
  pub record IsOperand (bits : ℕ) (x : Operand) : Type 0 where
    pub has : HasBits frame.widths (words_in frame) before bits x.value
    pub distance : is_at carried x.value x.distance ≡ true

  abbrev pub IsOperandIf : ℕ → Option Operand → Type 0
  IsOperandIf bits None = Unit {0}
  IsOperandIf bits (Some x) = IsOperand bits x

  -- operands of these widths, one for each
  abbrev pub AreOperands : List ℕ → List Operand → Type 0
  AreOperands [] [] = Unit {0}
  AreOperands (n ∷ ns) (x ∷ xs) = IsOperand n x × AreOperands ns xs
  AreOperands ns xs = ⊥

  -- each of this width, however many
  abbrev pub AllAreOperands : ℕ → List Operand → Type 0
  AllAreOperands bits [] = Unit {0}
  AllAreOperands bits (x ∷ xs) = IsOperand bits x × AllAreOperands bits xs

  -- ---- subscripts

  -- A subscript has a width of its own. A constant is as wide as it needs.
  abbrev pub IsSubscriptAs : Operand → Source → Type 0
  IsSubscriptAs x (source.Constant w) = Unit {0}
  IsSubscriptAs x s = (n : ℕ) × (is_width n ≡ true) × IsOperand n x

  abbrev pub IsSubscript : Operand → Type 0
  IsSubscript x = IsSubscriptAs x x.value

  -- one for each dimension
  abbrev pub AreSubscripts : List ℕ → List Operand → Type 0
  AreSubscripts [] [] = Unit {0}
  AreSubscripts (len ∷ dims) (x ∷ xs) = IsSubscript x × AreSubscripts dims xs
  AreSubscripts dims xs = ⊥

  -- and then the value that is stored
  abbrev pub AreStored : ℕ → List ℕ → List Operand → Type 0
  AreStored bits [] (x ∷ []) = IsOperand bits x
  AreStored bits (len ∷ dims) (x ∷ xs) = IsSubscript x × AreStored bits dims xs
  AreStored bits dims xs = ⊥
