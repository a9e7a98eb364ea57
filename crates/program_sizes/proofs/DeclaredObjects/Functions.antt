-- What holds of the functions that items become holds of each function of a program.
use Rattle.std.proofs.Common.{◌≡◌, ℕ, zero, suc, subst, List, ◌++◌, slice_get, Option, Some, None}
use Rattle.std.proofs.lemmas.Option.{same_Some}
use Rattle.c_tree.specs.Tree.{StmtTrees, FunctionTree}
use Rattle.pieces.specs.Resolved.Core.{CoreFunctionTree}
use Rattle.c_elaborate.specs.declared.blocks.Scene.{Scene}
use Rattle.c_elaborate.specs.declared.functions.Signature.{Signature}
use Rattle.c_elaborate.specs.Programs.{function_elaborated, function_of_item}

abbrev pub Each : (CoreFunctionTree → Type 0) → List CoreFunctionTree → Type 0
Each P fns = (i : ℕ) (fn : CoreFunctionTree) → slice_get fns i ≡ Some fn → P fn

pub function_first : (P : CoreFunctionTree → Type 0) (fs : List Signature) (file : Scene) (f : FunctionTree) (body : Option StmtTrees) (rest : List CoreFunctionTree) → ((b : StmtTrees) → P (function_elaborated fs file f b)) → Each P rest → Each P (function_of_item fs file f body ++ rest)
function_first P fs file f None rest one more i fn e = more i fn e
function_first P fs file f (Some body) rest one more zero fn e = subst P (same_Some (function_elaborated fs file f body) fn e) (one body)
function_first P fs file f (Some body) rest one more (suc i) fn e = more i fn e
