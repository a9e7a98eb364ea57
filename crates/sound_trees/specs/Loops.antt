-- Loops that may be overlapped: each variable that an iteration sets has an operation of its own, and the test stores nothing.
use Rattle.std.specs.Prelude.{◌≡◌, ◌≢◌, ℕ, ◌≤◌, Bool, true, false, List, [], ◌∷◌, length, slice_get, get_or, Some, None}
use Rattle.hls_base.specs.declared.number.VarId.{VarId}
use Rattle.ir_core.specs.declared.body.OpKind.TheVariants as o
use Rattle.ir_core.specs.declared.body.Out.{Out}
use Rattle.ir_core.specs.declared.body.Source.{Source}
use Rattle.ir_core.specs.declared.body.Source.TheVariants as source
use Rattle.ir_core.specs.Bodies.{OpTree, Shapes}
use Rattle.ir_core.specs.Trees.{BlockTree, BodyTree, SequenceTree, sequence, PartTrees, no_part, more_parts, land}
use Rattle.ir_core.specs.TreeRuns.{tested}
use Rattle.passes.specs.Conversion.Joining.{is_conversion, first_word}
use Rattle.passes.specs.Conversion.Merging.{first_of}
use Rattle.passes.specs.Lowering.Copies.{Fixed, fixed_in, fixed_behind, fixed_behind_shape, parts_set}
use Rattle.sound_trees.specs.Ready.{BlockIsReady}
use Rattle.clock_runs.specs.Premises.{Each, IsOperandIf, AreSoundOps, NamesResult, AreApart}

-- ---- outs

-- the result of an operation that is not one on constants alone
abbrev pub NamesOwn : Fixed → Source → Type 0
NamesOwn fixed (source.Result op) = get_or fixed.ops op.0 false ≡ false
NamesOwn fixed s = ⊥

-- The variables that are not set again later have such results, each another one.
pub record OutsAreOwn (later : VarId → Bool) (fixed : Fixed) (outs : List Out) : Type 0 where
  pub named : (i : ℕ) (x : Out) → slice_get outs i ≡ Some x → later x.variable ≡ false → NamesOwn fixed x.value.value
  pub apart : (i k : ℕ) (x y : Out) → slice_get outs i ≡ Some x → slice_get outs k ≡ Some y → x.variable.0 ≢ y.variable.0
      → later x.variable ≡ false → later y.variable ≡ false → x.value.value ≢ y.value.value

-- in a block that is entered with these variables fixed
abbrev pub BlockOwns : PartTrees → (VarId → Bool) → BlockTree → Type 0
BlockOwns later variables b = OutsAreOwn (parts_set later) (fixed_in variables b) b.outs

abbrev pub PartsOwn : (VarId → Bool) → PartTrees → Type 0
PartsOwn variables no_part = Unit {0}
PartsOwn variables (more_parts shape after rest) =
    BlockOwns rest (fixed_behind_shape shape variables) after × PartsOwn (fixed_behind rest (fixed_behind_shape shape variables) after) rest

-- the blocks of a body
abbrev pub BodyOwns : SequenceTree → Type 0
BodyOwns (sequence first rest) = BlockOwns rest (λ v. false) first × PartsOwn (fixed_behind rest (λ v. false) first) rest

-- ---- loops

-- One block, which stores nothing. Where ends of calls stand between its blocks, the loop is not overlapped.
abbrev pub TestsAlone : Shapes → List ℕ → SequenceTree → Type 0
TestsAlone shapes words (sequence first no_part) = BlockIsReady shapes words false first
TestsAlone shapes words (sequence first (more_parts (land number) after rest)) = Unit {0}
TestsAlone shapes words (sequence first parts) = ⊥

-- the test and the body of a loop that may be overlapped
pub record LoopIsReady (shapes : Shapes) (words : List ℕ) (test body : SequenceTree) : Type 0 where
  pub tests : TestsAlone shapes words test
  pub owns : BodyOwns body

-- conversions of constants are computed
abbrev pub AreComputed : List OpTree → Type 0
AreComputed [] = Unit {0}
AreComputed (op ∷ ops) = (is_conversion op.kind ≡ true → first_word op.args ≡ None) × AreComputed ops

-- the same once its blocks are numbered
pub record NumberedLoopIsReady (shapes : Shapes) (words : List ℕ) (test body : SequenceTree) : Type 0 where
  pub ready : LoopIsReady shapes words test body
  pub computed : AreComputed (first_of body).ops

-- the body of a loop that is overlapped
pub record BodyIsSound (shapes : Shapes) (b : BodyTree) : Type 0 where
  pub ops : AreSoundOps shapes b.outs b.ops
  pub outs : Each (NamesResult (length b.ops)) b.outs
  pub apart : AreApart b.outs
  pub test : IsOperandIf b.outs (length b.ops) b.test
  pub stores : (k : ℕ) (op : OpTree) → slice_get b.ops k ≡ Some op → op.kind ≡ o.Store → tested b.test ≤ k
