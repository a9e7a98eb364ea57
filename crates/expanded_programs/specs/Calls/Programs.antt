-- Core programs as elaboration makes them.
use Rattle.std.specs.Prelude.{◌≡◌, ℕ, ◌<◌, ◌≤◌, true, false, length, slice_get, Some}
use Rattle.pieces.specs.Resolved.Core.{CoreObjectTree, FileObjectTree, CoreFunctionTree, CoreProgramTree}
use Rattle.expand_runs.specs.Laws.{FillsObject}
use Rattle.expanded_programs.specs.Statements.Scopes.{Setting, Reach, Among, IsScalar, AreNew, enter, StmtsSound}

-- Functions that have a lower rank may be called in the function.
abbrev pub setting_of : CoreProgramTree → (ℕ → Type 0) → CoreFunctionTree → Setting
setting_of p Callable fn = record { file = p.file; functions = p.functions; Callable = Callable; params = fn.params; objects = fn.objects; result = fn.result }

-- When a body begins, the parameters that are scalars live, and no declaration was reached.
abbrev pub at_start : Setting → Reach
at_start S = record { Lives = λ i. (o : CoreObjectTree) × (slice_get S.objects i ≡ Some o) × IsScalar o × (i < S.params); Ready = λ i. ⊥ }

-- The parameters are the first objects, and names stand for what elaboration makes of them.
pub record IsFunctionSound (S : Setting) (fn : CoreFunctionTree) : Type 0 where
  pub params : fn.params ≤ length fn.objects
  pub outermost : AreNew S (at_start S) fn.outermost
  pub body : StmtsSound S (enter fn.outermost (at_start S)) (λ i. Among fn.outermost i) false false false fn.body

-- No function calls itself, by way of others either: each has a rank, and calls only functions of lower ranks. A const object has as many bit patterns of its type as elements.
pub record IsProgramSound (p : CoreProgramTree) : Type 0 where
  pub rank : ℕ → ℕ
  pub ranked : (i : ℕ) (fn : CoreFunctionTree) → slice_get p.functions i ≡ Some fn → rank i < length p.functions
  pub functions : (i : ℕ) (fn : CoreFunctionTree) → slice_get p.functions i ≡ Some fn → IsFunctionSound (setting_of p (λ j. rank j < rank i) fn) fn
  pub top : (fn : CoreFunctionTree) × (slice_get p.functions p.top ≡ Some fn)
  pub constants : (i : ℕ) (o : FileObjectTree) → slice_get p.file i ≡ Some o → o.object.constant ≡ true → FillsObject o.object o.first
