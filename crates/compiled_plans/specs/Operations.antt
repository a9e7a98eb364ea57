-- Operations whose operands name variables that are there, and whose accesses name arrays that are there; and blocks and nodes of these.
use Rattle.std.specs.Prelude.{◌≡◌, ℕ, ◌<◌, ◌≤◌, List, [], ◌∷◌, slice_get, Option, Some, None}
use Rattle.hls_base.specs.declared.number.ArrayId.{ArrayId}
use Rattle.ir_core.specs.declared.body.OpKind.{OpKind}
use Rattle.ir_core.specs.declared.body.OpKind.TheVariants as o
use Rattle.ir_core.specs.declared.body.Operand.{Operand}
use Rattle.ir_core.specs.declared.body.Out.{Out}
use Rattle.ir_core.specs.declared.body.Source.{Source}
use Rattle.ir_core.specs.declared.body.Source.TheVariants as source
use Rattle.pieces.specs.Trees as tree
use Rattle.pieces.specs.Trees.{PieceTree, PieceTrees}
use Rattle.pieces.specs.Program.{ArrayTree}
use Rattle.ir_core.specs.Bodies.{OpTree}
use Rattle.ir_core.specs.Trees.{ExitTree, branch, choose, BlockTree, BodyTree}
use Rattle.pass_runs.specs.ConvertRuns.Typed.{HasBits, OutsAreTyped}
use Rattle.pass_runs.specs.ConvertRuns.Blocks.{Once}
use Rattle.clock_runs.specs.Premises.{AreApart}
use Rattle.circuit_agreement.specs.CircuitFlow.Compiled.{IsDivision}
use Rattle.ir_layout.specs.Nodes.{EndTree, jumps, branches, chooses, returns, NodeTree, plain, looped}

-- ---- pieces

-- no element of a table is set
abbrev mutual
  pub PutsNoTable : List ArrayTree → PieceTree → Type 0
  PutsNoTable arrays (tree.put array subscripts value at) = (a : ArrayTree) → slice_get arrays array.0 ≡ Some a → a.table ≡ None
  PutsNoTable arrays (tree.fork test left right end) = PutNoTables arrays left × PutNoTables arrays right
  PutsNoTable arrays (tree.repeat_ id post before test body step end) = PutNoTables arrays before × PutNoTables arrays body × PutNoTables arrays step
  PutsNoTable arrays (tree.pick test labels body end) = PutNoTables arrays body
  PutsNoTable arrays piece = Unit {0}

  pub PutNoTables : List ArrayTree → PieceTrees → Type 0
  PutNoTables arrays tree.no_pieces = Unit {0}
  PutNoTables arrays (tree.then_ piece rest) = PutsNoTable arrays piece × PutNoTables arrays rest

-- ---- operands and operations

-- an array that is there, and one that is no table
abbrev pub IsArrayOf : List ArrayTree → Option ArrayId → Type 0
IsArrayOf arrays array = (name : ArrayId) × ((array ≡ Some name) × ((a : ArrayTree) × (slice_get arrays name.0 ≡ Some a)))

abbrev pub IsStoredOf : List ArrayTree → Option ArrayId → Type 0
IsStoredOf arrays array = (name : ArrayId) × ((array ≡ Some name) × ((a : ArrayTree) × ((slice_get arrays name.0 ≡ Some a) × (a.table ≡ None))))

-- so many variables, and these arrays
module _ (count : ℕ) (arrays : List ArrayTree) where
  abbrev pub IsNamedAs : Source → Type 0
  IsNamedAs (source.Variable v) = v.0 < count
  IsNamedAs s = Unit {0}

  abbrev pub IsNamed : Operand → Type 0
  IsNamed x = IsNamedAs x.value

  abbrev pub AllNamed : List Operand → Type 0
  AllNamed [] = Unit {0}
  AllNamed (x ∷ xs) = IsNamed x × AllNamed xs

  abbrev pub IsNamedIf : Option Operand → Type 0
  IsNamedIf None = Unit {0}
  IsNamedIf (Some x) = IsNamed x

  abbrev pub OutsNamed : List Out → Type 0
  OutsNamed [] = Unit {0}
  OutsNamed (x ∷ xs) = ((x.variable.0 < count) × IsNamed x.value) × OutsNamed xs

  abbrev pub Accesses : OpKind → Option ArrayId → Type 0
  Accesses o.Load array = IsArrayOf arrays array
  Accesses o.Store array = IsStoredOf arrays array
  Accesses kind array = Unit {0}

  -- of at most 64 bits
  pub record OpNamed (op : OpTree) : Type 0 where
    pub args : AllNamed op.args
    pub guard : IsNamedIf op.guard
    pub bits : op.bits ≤ 64
    pub access : Accesses op.kind op.array

  abbrev pub OpsNamed : List OpTree → Type 0
  OpsNamed [] = Unit {0}
  OpsNamed (op ∷ ops) = OpNamed op × OpsNamed ops

  -- ---- blocks and bodies

  abbrev pub ExitNamed : ExitTree → Type 0
  ExitNamed (branch test) = IsNamed test
  ExitNamed (choose cases) = AllNamed cases
  ExitNamed exit = Unit {0}

  pub record BlockNamed (b : BlockTree) : Type 0 where
    pub ops : OpsNamed b.ops
    pub outs : OutsNamed b.outs
    pub exit : ExitNamed b.exit

  pub record BodyNamed (b : BodyTree) : Type 0 where
    pub ops : OpsNamed b.ops
    pub outs : OutsNamed b.outs
    pub test : IsNamedIf b.test

  -- ---- nodes

  abbrev pub CasesNamed : List (Operand × ℕ) → Type 0
  CasesNamed [] = Unit {0}
  CasesNamed (c ∷ cs) = IsNamed c.0 × CasesNamed cs

  abbrev pub EndNamed : EndTree → Type 0
  EndNamed (jumps n) = Unit {0}
  EndNamed (branches test yes_ no_) = IsNamed test
  EndNamed (chooses cases other) = CasesNamed cases
  EndNamed (returns word) = IsNamedIf word

  abbrev pub NodeNamed : NodeTree → Type 0
  NodeNamed (plain point body end_) = BodyNamed body × EndNamed end_
  NodeNamed (looped point body n) = BodyNamed body

-- ---- divisions

-- What is divided, and by what, has the width of the division, among these operations.
abbrev pub DivisionsSuit : List ℕ → List ℕ → List OpTree → Type 0
DivisionsSuit widths words ops = (k n : ℕ) (op : OpTree) (x : Operand) → slice_get ops k ≡ Some op → IsDivision op.kind → slice_get op.args n ≡ Some x → HasBits widths words ops op.bits x.value

-- so it is in the body, whose outs have the widths of their variables
pub record BodyDivides (widths words : List ℕ) (b : BodyTree) : Type 0 where
  pub divisions : DivisionsSuit widths words b.ops
  pub outs : OutsAreTyped widths words b.ops b.outs

-- in a node of whose outs no two set one variable
abbrev pub NodeDivides : List ℕ → List ℕ → NodeTree → Type 0
NodeDivides widths words (plain point body end_) = BodyDivides widths words body × Once body.outs
NodeDivides widths words (looped point body n) = BodyDivides widths words body × AreApart body.outs
