-- When an operation is valid behind those before it.
use Rattle.std.specs.Prelude.{◌≡◌, ℕ, ◌<◌, true, false, List, [], ◌∷◌, slice_get, Option, Some, None, is_some}
use Rattle.hls_base.specs.declared.number.ArrayId.{ArrayId}
use Rattle.ir_core.specs.declared.body.OpKind.{OpKind}
use Rattle.ir_core.specs.declared.body.OpKind.TheVariants as o
use Rattle.ir_core.specs.declared.body.Operand.{Operand}
use Rattle.ir_core.specs.declared.body.Out.{Out}
use Rattle.ir_core.specs.Bodies.{OpTree}
use Rattle.passes.specs.Numbering.Constants.{word_of}
use Rattle.program_validity.specs.Widths.{is_width}
use Rattle.program_validity.specs.Operations.{may_be_undefined, is_width_of}
use Rattle.valid_trees.specs.Shapes.{MemoryShape, FrameShape}
use Rattle.valid_trees.specs.Operands.{IsOperand, IsOperandIf, AreOperands, AreSubscripts, AreStored}

-- ---- arguments

-- the widths of the arguments of an operation that computes, where it is no conversion
abbrev pub argument_bits : OpKind → ℕ → List ℕ
argument_bits o.Not bits = bits ∷ []
argument_bits o.Neg bits = bits ∷ []
argument_bits o.Copy bits = bits ∷ []
argument_bits o.Select bits = 1 ∷ bits ∷ bits ∷ []
argument_bits (o.Fused pairing) bits = bits ∷ bits ∷ bits ∷ []
argument_bits kind bits = bits ∷ bits ∷ []

-- to this width, from this one
abbrev pub Converts : OpKind → ℕ → ℕ → Type 0
Converts o.Widen bits n = (is_width n ≡ true) × (n < bits)
Converts o.Narrow bits n = bits < n
Converts kind bits n = n ≡ bits

module _ (frame : FrameShape) (carried : List Out) (before : List OpTree) where
  -- one that is no constant
  pub record IsConverted (kind : OpKind) (bits : ℕ) (x : Operand) : Type 0 where
    pub from : ℕ
    pub converts : Converts kind bits from
    pub operand : IsOperand frame carried before from x
    pub unknown : word_of x.value ≡ None

  abbrev pub AreConverted : OpKind → ℕ → List Operand → Type 0
  AreConverted kind bits (x ∷ []) = IsConverted kind bits x
  AreConverted kind bits xs = ⊥

  abbrev pub Computes : OpKind → ℕ → List Operand → Type 0
  Computes o.Widen bits args = AreConverted o.Widen bits args
  Computes o.Narrow bits args = AreConverted o.Narrow bits args
  Computes o.Truth bits args = AreConverted o.Truth bits args
  Computes kind bits args = AreOperands frame carried before (argument_bits kind bits) args

  -- ---- accesses

  pub record Loads (op : OpTree) (m : MemoryShape) : Type 0 where
    pub bits : m.bits ≡ op.bits
    pub args : AreSubscripts frame carried before m.dims op.args

  -- no table is changed
  pub record Stores (op : OpTree) (m : MemoryShape) : Type 0 where
    pub bits : m.bits ≡ op.bits
    pub changes : m.table ≡ false
    pub args : AreStored frame carried before op.bits m.dims op.args

  abbrev pub AccessesIn : OpTree → OpKind → MemoryShape → Type 0
  AccessesIn op o.Load m = Loads op m
  AccessesIn op o.Store m = Stores op m
  AccessesIn op kind m = ⊥

  -- the array is there
  abbrev pub Accesses : OpTree → OpKind → Option ArrayId → Type 0
  Accesses op kind None = ⊥
  Accesses op kind (Some array) = (m : MemoryShape) × (slice_get frame.memories array.0 ≡ Some m) × AccessesIn op kind m

  -- ---- operations

  -- only accesses name an array
  abbrev pub Acts : OpTree → OpKind → Type 0
  Acts op o.Load = Accesses op o.Load op.array
  Acts op o.Store = Accesses op o.Store op.array
  Acts op kind = (op.array ≡ None) × Computes kind op.bits op.args

  -- It is flagged exactly where C may give it no value.
  pub record OpIsValid (op : OpTree) : Type 0 where
    pub width : is_width_of op.kind op.bits ≡ true
    pub flag : is_some op.flag ≡ may_be_undefined op.kind op.signed
    pub guard : IsOperandIf frame carried before 1 op.guard
    pub acts : Acts op op.kind
