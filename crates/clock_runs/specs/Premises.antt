-- What holds of a flat program whose times are looked for: what its operands name, and what its accesses and additions are like.
use Rattle.std.specs.Prelude.{◌≡◌, ◌≢◌, ℕ, ◌-◌, ◌<◌, ◌≤◌, ◌⊎◌, true, List, [], ◌∷◌, length, slice_get, Option, Some, None, is_some}
use Rattle.std.specs.Option.{option_map}
use Rattle.hls_base.specs.declared.number.ArrayId.{ArrayId}
use Rattle.hls_base.specs.declared.number.OpId.{OpId}
use Rattle.ir_core.specs.declared.body.OpKind.{OpKind}
use Rattle.ir_core.specs.declared.body.OpKind.TheVariants as o
use Rattle.ir_core.specs.declared.body.Operand.{Operand}
use Rattle.ir_core.specs.declared.body.Out.{Out}
use Rattle.ir_core.specs.declared.body.Source.{Source}
use Rattle.ir_core.specs.declared.body.Source.TheVariants as source
use Rattle.ir_core.specs.declared.cfg.Block.{Block}
use Rattle.ir_core.specs.declared.cfg.Cfg.{Cfg}
use Rattle.ir_core.specs.declared.cfg.End.{End}
use Rattle.ir_core.specs.declared.cfg.End.TheVariants as end
use Rattle.ir_core.specs.declared.cfg.Loop.{Loop}
use Rattle.ir_core.specs.declared.cfg.Node.{Node}
use Rattle.ir_core.specs.declared.cfg.Node.TheVariants as node
use Rattle.ir_core.specs.declared.stamp.Untimed.{Untimed}
use Rattle.ir_core.specs.Timing.{result_bits}
use Rattle.dep_graph.specs.Offsets.{maker}
use Rattle.ir_core.specs.Bodies.{OpTree, Shapes, dims_of}
use Rattle.ir_core.specs.TreeRuns.{tested}
use Rattle.ir_core.specs.FlatRuns.{body_of, shapes_of}

abbrev pub Each : {A : Type 0} → (A → Type 0) → List A → Type 0
Each P [] = Unit {0}
Each P (x ∷ xs) = P x × Each P xs

-- ---- operands

-- An operand names a constant; a variable, at distance 1 if these outs change it, else at distance 0; or one of the first k operations.
abbrev pub IsOperandAs : List Out → ℕ → Source → ℕ → Type 0
IsOperandAs outs k (source.Constant c) distance = Unit {0}
IsOperandAs outs k (source.Variable v) distance =
    ((distance ≡ 0) × (maker outs v.0 ≡ None)) ⊎ ((distance ≡ 1) × ((j : OpId) × (maker outs v.0 ≡ Some j)))
IsOperandAs outs k (source.Result j) distance = (distance ≡ 0) × (j.0 < k)

abbrev pub IsOperand : List Out → ℕ → Operand → Type 0
IsOperand outs k x = IsOperandAs outs k x.value x.distance

abbrev pub IsOperandIf : List Out → ℕ → Option Operand → Type 0
IsOperandIf outs k None = Unit {0}
IsOperandIf outs k (Some x) = IsOperand outs k x

-- ---- operations

-- a constant has any width
abbrev pub HasWidth : Shapes → List OpTree → ℕ → Source → Type 0
HasWidth shapes ops bits (source.Constant c) = Unit {0}
HasWidth shapes ops bits (source.Variable v) = slice_get shapes.widths v.0 ≡ Some bits
HasWidth shapes ops bits (source.Result j) = option_map (λ op. result_bits op.kind op.bits) (slice_get ops j.0) ≡ Some bits

-- an access is checked, and has no more subscripts than its array has dimensions
pub record IsSoundAccess (shapes : Shapes) (op : OpTree) (subscripts : ℕ) : Type 0 where
  pub flagged : is_some op.flag ≡ true
  pub subscripted : (array : ArrayId) → op.array ≡ Some array → subscripts ≤ length (dims_of shapes array)

-- An addition or subtraction that is checked is of a signed type, and its operands have its width.
pub record IsSoundSum (shapes : Shapes) (ops : List OpTree) (op : OpTree) : Type 0 where
  pub signed : op.signed ≡ true
  pub some : 1 ≤ op.bits
  pub widths : Each (λ (x : Operand). HasWidth shapes ops op.bits x.value) op.args

abbrev pub IsSoundAs : Shapes → List OpTree → OpTree → OpKind → Type 0
IsSoundAs shapes ops op o.Load = IsSoundAccess shapes op (length op.args)
IsSoundAs shapes ops op o.Store = IsSoundAccess shapes op (length op.args - 1)
IsSoundAs shapes ops op o.Add = is_some op.flag ≡ true → IsSoundSum shapes ops op
IsSoundAs shapes ops op o.Sub = is_some op.flag ≡ true → IsSoundSum shapes ops op
IsSoundAs shapes ops op kind = Unit {0}

-- operation k of these, in a body that carries these outs to its next iteration
pub record IsSoundOp (shapes : Shapes) (carried : List Out) (ops : List OpTree) (k : ℕ) (op : OpTree) : Type 0 where
  pub args : Each (IsOperand carried k) op.args
  pub guard : IsOperandIf carried k op.guard
  pub kind : IsSoundAs shapes ops op op.kind

abbrev pub AreSoundOps : Shapes → List Out → List OpTree → Type 0
AreSoundOps shapes carried ops = (k : ℕ) (op : OpTree) → slice_get ops k ≡ Some op → IsSoundOp shapes carried ops k op

-- ---- blocks

abbrev pub IsSoundEnd : ℕ → End → Type 0
IsSoundEnd k (end.Jump next) = Unit {0}
IsSoundEnd k (end.Branch test left right) = IsOperand [] k test
IsSoundEnd k (end.Choose cases other) = Each (λ c. IsOperand [] k c.0) cases.items
IsSoundEnd k (end.Return word) = IsOperandIf [] k word

-- a block names what its variables hold as it is entered
pub record IsSoundBlock (shapes : Shapes) (block : Block Untimed) : Type 0 where
  pub ops : AreSoundOps shapes [] (body_of block.body).ops
  pub outs : Each (λ (x : Out). IsOperand [] (length (body_of block.body).ops) x.value) block.body.outs.items
  pub ends : IsSoundEnd (length (body_of block.body).ops) block.end
  pub untested : block.body.test ≡ None

-- ---- loops

-- an out names one of k operations
abbrev pub NamesResult : ℕ → Out → Type 0
NamesResult k x = (j : OpId) × ((x.value.value ≡ source.Result j) × (x.value.distance ≡ 0) × (j.0 < k))

-- no two outs set one variable, or have one value
abbrev pub AreApart : List Out → Type 0
AreApart [] = Unit {0}
AreApart (x ∷ xs) = Each (λ (y : Out). (y.variable.0 ≢ x.variable.0) × (y.value.value ≢ x.value.value)) xs × AreApart xs

-- no store comes before the test is known
pub record IsSoundLoop (shapes : Shapes) (region : Loop Untimed) : Type 0 where
  pub ops : AreSoundOps shapes region.body.outs.items (body_of region.body).ops
  pub outs : Each (NamesResult (length (body_of region.body).ops)) region.body.outs.items
  pub apart : AreApart region.body.outs.items
  pub test : IsOperandIf region.body.outs.items (length (body_of region.body).ops) region.body.test
  pub stores : (k : ℕ) (op : OpTree) → slice_get (body_of region.body).ops k ≡ Some op → op.kind ≡ o.Store → tested region.body.test ≤ k

-- ---- programs

abbrev pub IsSoundNode : Shapes → Node Untimed → Type 0
IsSoundNode shapes (node.Plain block) = IsSoundBlock shapes block
IsSoundNode shapes (node.Looped region) = IsSoundLoop shapes region

-- a dimension has at most 65536 elements
pub record IsSoundProgram (cfg : Cfg Untimed) : Type 0 where
  pub dims : Each (λ (dims : List ℕ). Each (λ len. len ≤ 65536) dims) (shapes_of cfg.frame).dims
  pub nodes : Each (IsSoundNode (shapes_of cfg.frame)) cfg.nodes.items
