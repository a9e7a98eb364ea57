-- The core program of a program: C11 6.9.
use Rattle.std.specs.Prelude.{ℕ, ◌+◌, List, [], ◌∷◌, ◌++◌, length, map, take, Option, Some, None}
use Rattle.c_tree.specs.Tree as tree
use Rattle.c_tree.specs.Tree.{ObjectTree, StmtTrees, ParamTree, FunctionTree, ItemTree, ProgramTree}
use Rattle.c_meaning.specs.Checks.Limits.{file_objects}
use Rattle.c_meaning.specs.Store.{declared_in}
use Rattle.c_meaning.specs.Run.{first_object, patterns}
use Rattle.pieces.specs.declared.resolved.expression.Scope.TheVariants as scope
use Rattle.c_elaborate.specs.declared.names.Binding.{Binding}
use Rattle.c_elaborate.specs.declared.functions.Signature.{Signature}
use Rattle.pieces.specs.Resolved.Core.{stmt_row, FileObjectTree, CoreFunctionTree, CoreProgramTree}
use Rattle.c_elaborate.specs.Names.{binding_of, cell_of}
use Rattle.c_elaborate.specs.declared.blocks.Scene.{Scene}
use Rattle.c_elaborate.specs.Objects.{object_elaborated, objects_within, from}
use Rattle.c_elaborate.specs.Scenes.{file_scene, opened, all_declared}
use Rattle.c_elaborate.specs.Statements.{statements}

-- ---- file scope

abbrev pub file_object : ObjectTree → FileObjectTree
file_object o = record { object = object_elaborated o; first = patterns (first_object o) }

-- the names of file scope, of which the first of these is that of the object with this number
abbrev pub file_names : ℕ → List Binding → List ObjectTree → List Binding
file_names number names [] = names
file_names number names (o ∷ os) = file_names (number + 1) (binding_of o (cell_of scope.File number) ∷ names) os

-- ---- functions

abbrev pub objects_of_params : List ParamTree → List ObjectTree
objects_of_params params = map (λ p. p.object) params

abbrev pub function_elaborated : List Signature → Scene → FunctionTree → StmtTrees → CoreFunctionTree
function_elaborated fs file f body =
    let os = objects_of_params f.params in
    let scene : Scene = all_declared file os in
    record {
      name = f.name;
      at = f.at;
      result = f.result;
      params = length os;
      objects = map object_elaborated (os ++ (declared_in body ++ objects_within body));
      outermost = from (length os) (length (declared_in body));
      body = stmt_row (statements fs (opened scene (length os)) (length os + length (declared_in body)) body);
    }

-- the function of an item, if it has a body
abbrev pub function_of_item : List Signature → Scene → FunctionTree → Option StmtTrees → List CoreFunctionTree
function_of_item fs file f None = []
function_of_item fs file f (Some body) = function_elaborated fs file f body ∷ []

abbrev pub functions_of_item : List Signature → Scene → ItemTree → List CoreFunctionTree
functions_of_item fs file (tree.objects os) = []
functions_of_item fs file (tree.function f) = function_of_item fs file f f.body

abbrev pub functions_elaborated : List Signature → Scene → List ItemTree → List CoreFunctionTree
functions_elaborated fs file [] = []
functions_elaborated fs file (item ∷ items) = functions_of_item fs file item ++ functions_elaborated fs file items

-- what calls need of the functions with a body
abbrev pub signature_of : FunctionTree → Option StmtTrees → List Signature
signature_of f None = []
signature_of f (Some body) = record { name = f.name; result = f.result } ∷ []

abbrev pub signatures_of_item : ItemTree → List Signature
signatures_of_item (tree.objects os) = []
signatures_of_item (tree.function f) = signature_of f f.body

abbrev pub signatures : List ItemTree → List Signature
signatures [] = []
signatures (item ∷ items) = signatures_of_item item ++ signatures items

-- ---- programs

-- The core program of a program whose top function is the item with this index.
abbrev pub program_elaborated : ProgramTree → ℕ → CoreProgramTree
program_elaborated p top = record {
  file = map file_object (file_objects p.items);
  functions = functions_elaborated (signatures p.items) (file_scene (file_names 0 [] (file_objects p.items))) p.items;
  top = length (signatures (take top p.items));
}
