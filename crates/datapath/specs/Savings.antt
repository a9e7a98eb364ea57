-- What a circuit may leave out: values of variables that are not read again, registers of variables that are read nowhere, and the order of cases of which no two hold.
use Rattle.std.specs.Prelude.{◌≡◌, ◌≢◌, ◌⊎◌, ℕ, true, List, [], ◌∷◌, slice_get, Some}
use Rattle.hls_base.specs.declared.number.NodeId.{NodeId}
use Rattle.hls_base.specs.declared.number.OpId.{OpId}
use Rattle.hls_base.specs.declared.number.VarId.{VarId}
use Rattle.hls_base.specs.declared.number.Kept.{Kept}
use Rattle.ir_core.specs.declared.body.OpKind.TheVariants as o
use Rattle.ir_core.specs.declared.body.Operand.{Operand}
use Rattle.ir_core.specs.declared.body.Out.{Out}
use Rattle.ir_core.specs.declared.body.Source.TheVariants as source
use Rattle.ir_core.specs.declared.cfg.End.{End}
use Rattle.ir_core.specs.declared.cfg.End.TheVariants as end
use Rattle.clock_ir.specs.Flows.{TimedOp, TimedBody}
use Rattle.clock_ir.specs.ClockRuns.{TimedNode, block, overlapped}
use Rattle.datapath.specs.Plans.{Plan, body_of}
use Rattle.datapath.specs.Blocks.{EndReads}

-- ---- nodes

abbrev pub EndReadsIn : TimedNode → Operand → Type 0
EndReadsIn (block body end_) x = EndReads end_ x
EndReadsIn (overlapped body exit next) x = ⊥

-- an operation, the test of an iteration or the end of a block reads the operand
pub data NodeReads (n : TimedNode) : Operand → Type 0 where
  by_argument : (k m : ℕ) (it : TimedOp) (x : Operand) → slice_get (body_of n).ops k ≡ Some it → slice_get it.op.args m ≡ Some x → NodeReads n x
  by_guard : (k : ℕ) (it : TimedOp) (x : Operand) → slice_get (body_of n).ops k ≡ Some it → it.op.guard ≡ Some x → NodeReads n x
  by_test : (x : Operand) → (body_of n).test ≡ Some x → NodeReads n x
  by_exit : (x : Operand) → EndReadsIn n x → NodeReads n x

abbrev pub EndLeads : End → ℕ → Type 0
EndLeads (end.Jump next) j = next.0 ≡ j
EndLeads (end.Branch test left right) j = (left.0 ≡ j) ⊎ (right.0 ≡ j)
EndLeads (end.Choose cases other) j = (other.0 ≡ j) ⊎ ((n : ℕ) × ((case : Operand × NodeId) × ((slice_get cases.items n ≡ Some case) × (case.1.0 ≡ j))))
EndLeads (end.Return word) j = ⊥

abbrev pub LeadsTo : TimedNode → ℕ → Type 0
LeadsTo (block body end_) j = EndLeads end_ j
LeadsTo (overlapped body exit next) j = next ≡ j

abbrev pub EndReturns : End → Type 0
EndReturns (end.Return word) = Unit {0}
EndReturns e = ⊥

abbrev pub Returns : TimedNode → Type 0
Returns (block body end_) = EndReturns end_
Returns (overlapped body exit next) = ⊥

abbrev pub SetsNot : ℕ → List Out → Type 0
SetsNot v [] = Unit {0}
SetsNot v (x ∷ xs) = (x.variable.0 ≢ v) × SetsNot v xs

-- A loop may run no iteration, and then a variable keeps the value that it has at entry.
abbrev pub Passes : TimedNode → ℕ → Type 0
Passes (block body end_) v = SetsNot v body.outs
Passes (overlapped body exit next) v = Unit {0}

pub record StaysForNextRun (p : Plan) (v : ℕ) : Type 0 where
  pub number : ℕ
  pub kept : Kept
  pub stands : slice_get p.kept number ≡ Some kept
  pub variable : kept.variable.0 ≡ v

pub record Moves (n : TimedNode) (from to : ℕ) : Type 0 where
  pub number : ℕ
  pub out : Out
  pub stands : slice_get (body_of n).outs number ≡ Some out
  pub source_ : (v : VarId) × ((out.value.value ≡ source.Variable v) × (v.0 ≡ from))
  pub target : out.variable.0 ≡ to

-- ---- variables that are read again

-- On some way from the beginning of node i the variable is read before it is set, or stays for the next run. One that only goes into a variable that is not read again is not read thereby.
pub data IsLive (p : Plan) : ℕ → ℕ → Type 0 where
  is_read : (v : VarId) (i : ℕ) (n : TimedNode) (x : Operand) → slice_get p.program.nodes i ≡ Some n → NodeReads n x → x.value ≡ source.Variable v → IsLive p v.0 i
  passes : (v i j : ℕ) (n : TimedNode) → slice_get p.program.nodes i ≡ Some n → Passes n v → LeadsTo n j → IsLive p v j → IsLive p v i
  moves : (v w i j : ℕ) (n : TimedNode) → slice_get p.program.nodes i ≡ Some n → Moves n v w → LeadsTo n j → IsLive p w j → IsLive p v i
  stays : (v i : ℕ) (n : TimedNode) → slice_get p.program.nodes i ≡ Some n → Passes n v → Returns n → StaysForNextRun p v → IsLive p v i
  moves_last : (v w i : ℕ) (n : TimedNode) → slice_get p.program.nodes i ≡ Some n → Moves n v w → Returns n → StaysForNextRun p w → IsLive p v i

-- so it is behind a node
pub data IsLiveBehind (p : Plan) (v i : ℕ) : Type 0 where
  goes_on : (j : ℕ) (n : TimedNode) → slice_get p.program.nodes i ≡ Some n → LeadsTo n j → IsLive p v j → IsLiveBehind p v i
  next_run : (n : TimedNode) → slice_get p.program.nodes i ≡ Some n → Returns n → StaysForNextRun p v → IsLiveBehind p v i

-- ---- cases of which no two hold

-- the case holds where the operand is this number
pub record Compares (body : TimedBody) (case : Operand × NodeId) (x : Operand) (number : ℕ) : Type 0 where
  pub op : OpId
  pub it : TimedOp
  pub other : Operand
  pub is : case.0.value ≡ source.Result op
  pub stands : slice_get body.ops op.0 ≡ Some it
  pub equal : it.op.kind ≡ o.Eq
  pub arguments : it.op.args ≡ x ∷ other ∷ []
  pub number_ : other.value ≡ source.Constant number

pub record AreDifferent (body : TimedBody) (one other : Operand × NodeId) : Type 0 where
  pub operand : Operand
  pub first : ℕ
  pub second : ℕ
  pub compares : Compares body one operand first
  pub compares_too : Compares body other operand second
  pub differ : first ≢ second

abbrev pub AreExclusive : TimedBody → End → Type 0
AreExclusive body (end.Choose cases other) =
    (n m : ℕ) (one two : Operand × NodeId) → n ≢ m → slice_get cases.items n ≡ Some one → slice_get cases.items m ≡ Some two → AreDifferent body one two
AreExclusive body e = Unit {0}

-- ---- what is left out is not needed

pub record AreSafe (p : Plan) : Type 0 where
  pub behind : (v i : ℕ) → IsLiveBehind p v i → p.savings.behind i v ≡ true
  pub read : (v i : ℕ) → IsLive p v i → p.savings.read v ≡ true
  pub exclusive : (i : ℕ) (body : TimedBody) (end_ : End) → slice_get p.program.nodes i ≡ Some (block body end_) → p.savings.exclusive i ≡ true → AreExclusive body end_
