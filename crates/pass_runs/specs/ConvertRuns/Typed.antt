-- Trees whose operands are there and have the widths that are asked of them.
use Rattle.std.specs.Prelude.{◌≡◌, ℕ, ◌<◌, Bool, true, false, List, [], ◌∷◌, ◌++◌, length, slice_get, Option, Some, None}
use Rattle.hls_base.specs.declared.number.ArrayId.{ArrayId}
use Rattle.ir_core.specs.declared.body.OpKind.{OpKind}
use Rattle.ir_core.specs.declared.body.OpKind.TheVariants as o
use Rattle.ir_core.specs.declared.body.Operand.{Operand}
use Rattle.ir_core.specs.declared.body.Out.{Out}
use Rattle.ir_core.specs.declared.body.Source.{Source}
use Rattle.ir_core.specs.declared.body.Source.TheVariants as source
use Rattle.ir_core.specs.Value.{count_of}
use Rattle.ir_core.specs.Timing.{result_bits}
use Rattle.ir_core.specs.Bodies.{OpTree, Words}
use Rattle.ir_core.specs.Trees.{ExitTree, branch, choose, BlockTree, SequenceTree, sequence, PartTrees, no_part, more_parts, ShapeTree, fork, loop, switch, land, overlapped, SideTree, no_side, side, ArmTrees, no_arm, more_arms}

-- ---- ways out

abbrev pub leads_on : ExitTree → Bool
leads_on (branch test) = false
leads_on (choose cases) = false
leads_on exit = true

-- whether the last block, which is this one where no part follows, does not end by a test or by cases
abbrev pub ends_plain : ExitTree → PartTrees → Bool
ends_plain exit no_part = leads_on exit
ends_plain exit (more_parts shape after rest) = ends_plain after.exit rest

abbrev pub EndsPlain : SequenceTree → Type 0
EndsPlain (sequence first rest) = ends_plain first.exit rest ≡ true

-- ---- operands

abbrev pub IsEarly : ℕ → Source → Type 0
IsEarly n (source.Result op) = op.0 < n
IsEarly n s = Unit {0}

abbrev pub AreEarly : ℕ → List Operand → Type 0
AreEarly n [] = Unit {0}
AreEarly n (x ∷ xs) = IsEarly n x.value × AreEarly n xs

-- the widths of the variables, and of the words of the memories
module _ (widths words : List ℕ) where
  -- an operand of so many bits, behind these operations
  abbrev pub HasBits : List OpTree → ℕ → Source → Type 0
  HasBits ops n (source.Constant word) = word < count_of n
  HasBits ops n (source.Variable variable) = slice_get widths variable.0 ≡ Some n
  HasBits ops n (source.Result i) = (op : OpTree) × (slice_get ops i.0 ≡ Some op) × (result_bits op.kind op.bits ≡ n)

  abbrev pub GuardIsTyped : List OpTree → Option Operand → Type 0
  GuardIsTyped ops None = Unit {0}
  GuardIsTyped ops (Some x) = HasBits ops 1 x.value

  abbrev pub LastHas : List OpTree → ℕ → List Operand → Type 0
  LastHas ops n [] = Unit {0}
  LastHas ops n (x ∷ []) = HasBits ops n x.value
  LastHas ops n (x ∷ y ∷ ys) = LastHas ops n (y ∷ ys)

  -- A load gives a word of its memory, and a store puts one.
  abbrev pub AccessIsTyped : List OpTree → OpTree → OpKind → Option ArrayId → Type 0
  AccessIsTyped ops op o.Load (Some array) = slice_get words array.0 ≡ Some op.bits
  AccessIsTyped ops op o.Store (Some array) = (n : ℕ) × (slice_get words array.0 ≡ Some n) × LastHas ops n op.args
  AccessIsTyped ops op kind array = Unit {0}

  -- ---- operations and blocks

  pub record OpIsTyped (before : List OpTree) (op : OpTree) : Type 0 where
    pub args : AreEarly (length before) op.args
    pub guard : GuardIsTyped before op.guard
    pub access : AccessIsTyped before op op.kind op.array

  -- operations behind others
  abbrev pub OpsAreTyped : List OpTree → List OpTree → Type 0
  OpsAreTyped before [] = Unit {0}
  OpsAreTyped before (op ∷ ops) = OpIsTyped before op × OpsAreTyped (before ++ op ∷ []) ops

  -- An out has the width of its variable.
  abbrev pub OutIsTyped : List OpTree → Out → Type 0
  OutIsTyped ops x = (n : ℕ) × (slice_get widths x.variable.0 ≡ Some n) × HasBits ops n x.value.value

  abbrev pub OutsAreTyped : List OpTree → List Out → Type 0
  OutsAreTyped ops [] = Unit {0}
  OutsAreTyped ops (x ∷ xs) = OutIsTyped ops x × OutsAreTyped ops xs

  abbrev pub ExitIsTyped : List OpTree → ExitTree → Type 0
  ExitIsTyped ops (branch test) = HasBits ops 1 test.value
  ExitIsTyped ops (choose cases) = AreEarly (length ops) cases
  ExitIsTyped ops exit = Unit {0}

  pub record BlockIsTyped (b : BlockTree) : Type 0 where
    pub ops : OpsAreTyped [] b.ops
    pub outs : OutsAreTyped b.ops b.outs
    pub exit : ExitIsTyped b.ops b.exit

  -- ---- trees in which no loop is overlapped yet

  -- Sides, bodies and arms do not end by a test or by cases. Of what never runs nothing is asked.
  abbrev mutual
    pub SequenceIsTyped : SequenceTree → Type 0
    SequenceIsTyped (sequence first rest) = BlockIsTyped first × PartsAreTyped rest

    pub PartsAreTyped : PartTrees → Type 0
    PartsAreTyped no_part = Unit {0}
    PartsAreTyped (more_parts shape after rest) = ShapeIsTyped shape × BlockIsTyped after × PartsAreTyped rest

    pub ShapeIsTyped : ShapeTree → Type 0
    ShapeIsTyped (fork yes_ no_ convertible) = SideIsTyped yes_ × SideIsTyped no_
    ShapeIsTyped (loop post test body step eligible) = SequenceIsTyped test × SequenceIsTyped body × EndsPlain body × SideIsTyped step
    ShapeIsTyped (switch dead targets other arms) = ArmsAreTyped arms
    ShapeIsTyped (land number) = Unit {0}
    ShapeIsTyped (overlapped point body) = ⊥

    pub SideIsTyped : SideTree → Type 0
    SideIsTyped no_side = Unit {0}
    SideIsTyped (side blocks) = SequenceIsTyped blocks × EndsPlain blocks

    pub ArmsAreTyped : ArmTrees → Type 0
    ArmsAreTyped no_arm = Unit {0}
    ArmsAreTyped (more_arms first rest) = SequenceIsTyped first × EndsPlain first × ArmsAreTyped rest

  -- ---- contents

  -- What variables and memories hold has their widths.
  pub record Fits (t : Words) : Type 0 where
    pub variables : (v n : ℕ) → slice_get widths v ≡ Some n → t.variables v < count_of n
    pub memories : (m n : ℕ) → slice_get words m ≡ Some n → (address : ℕ) → t.memories m address < count_of n
