-- Small programs as trees, each place by its column in line 1.
use Rattle.std.specs.Prelude.{ℕ, true, false, List, [], ◌∷◌, codes, Option, Some, None, ◌&&◌, ◌==◌, count_by}
use Rattle.hls_base.specs.FileScope.{FileScope}
use Rattle.hls_base.specs.declared.place.Place.{Place}
use Rattle.hls_base.specs.declared.point.Point.{Point}
use Rattle.hls_base.specs.declared.point.PointKind.{PointKind}
use Rattle.hls_base.specs.declared.point.PointKind.TheVariants as point
use Rattle.hls_base.specs.declared.refusal.UbRule.{UbRule}
use Rattle.c_token.specs.declared.ctype.CType.{CType}
use Rattle.c_tree.specs.declared.operator.Binary.{Binary}
use Rattle.c_tree.specs.Tree as tree
use Rattle.c_tree.specs.Tree.{Tree, TargetTree, Trees, row, ActionTree, InitTree, init_row, ObjectTree, StmtTree, StmtTrees, stmt_row, ParamTree, FunctionTree, ItemTree, ProgramTree}
use Rattle.c_value.specs.Values.{int_type}
use Rattle.c_meaning.specs.Run as run
use Rattle.c_meaning.specs.Run.{Answer, c_run, first_contents}

abbrev pub at : ℕ → Place
at column = record { line = 1; column = column; part = 0 }

abbrev pub number : ℕ → Tree
number n = tree.number n int_type (at 0)

abbrev pub name : List ℕ → ℕ → Tree
name text column = tree.name text (at column)

abbrev pub element : List ℕ → Tree → ℕ → Tree
element text i column = tree.index text (row (i ∷ [])) (at column)

abbrev pub binary : Binary → Tree → Tree → ℕ → Tree
binary op left right column = tree.binary op left right (at column)

abbrev pub scalar_target : List ℕ → ℕ → TargetTree
scalar_target text column = tree.target text tree.none (at column)

abbrev pub element_target : List ℕ → Tree → ℕ → TargetTree
element_target text i column = tree.target text (row (i ∷ [])) (at column)

abbrev pub set : TargetTree → Tree → ℕ → StmtTree
set place value column = tree.act (tree.assignment place None value (at column) ∷ [])

abbrev pub object : CType → List ℕ → List (Option Tree) → Option InitTree → ObjectTree
object kind text lengths init = record { name = text; at = at 0; kind = kind; constant = false; lengths = lengths; init = init }

abbrev pub local : List ℕ → Option InitTree → StmtTree
local text init = tree.declare (object int_type text [] init ∷ [])

abbrev pub give : Tree → StmtTree
give value = tree.return_ (Some value) (at 0)

abbrev pub params_of : List ObjectTree → List ParamTree
params_of [] = []
params_of (o ∷ os) = record { object = o; named = true } ∷ params_of os

abbrev pub function_of : List ℕ → ℕ → Option CType → List ObjectTree → List StmtTree → ItemTree
function_of text column result params body = tree.function (record {
  name = text;
  at = at column;
  result = result;
  params = params_of params;
  body = Some (stmt_row body);
})

abbrev pub int_param : List ℕ → ObjectTree
int_param text = object int_type text [] None

abbrev pub program_of : List ItemTree → ProgramTree
program_of items = record { items = items; end = at 0 }

abbrev pub int_params : List (List ℕ) → List ObjectTree
int_params [] = []
int_params (text ∷ texts) = int_param text ∷ int_params texts

-- a function of int parameters and an int result, alone
abbrev pub int_function : List (List ℕ) → List StmtTree → ProgramTree
int_function params body = program_of (function_of (codes "f") 5 (Some int_type) (int_params params) body ∷ [])

abbrev pub nothing : FileScope
nothing = record { scalars = []; arrays = [] }

-- the run of the first item, from the initial contents of file scope
abbrev pub run_first : ProgramTree → List ℕ → List (List ℕ) → ℕ → Answer
run_first p scalars arrays n = c_run p 0 (first_contents p) scalars arrays n

-- what is asked of an answer
pub data Found : Type 0 where
  value : (result : Option ℕ) → Found
  fault : (rule : UbRule) (at : Place) → Found
  more : Found

abbrev pub found : Answer → Found
found (run.ended result arrays kept trace) = value result
found (run.undefined rule at) = fault rule at
found run.running = more

abbrev pub trace_of : Answer → List Point
trace_of (run.ended result arrays kept trace) = trace
trace_of _ = []

abbrev pub arrays_of : Answer → List (List ℕ)
arrays_of (run.ended result arrays kept trace) = arrays
arrays_of _ = []

abbrev pub kept_of : Answer → FileScope
kept_of (run.ended result arrays kept trace) = kept
kept_of _ = nothing

abbrev pub code_of : PointKind → ℕ
code_of point.Begin = 0
code_of point.Test = 1
code_of point.Body = 2
code_of point.Step = 3
code_of point.End = 4
code_of point.Arm = 5

-- how many points of this kind were passed at a column
abbrev pub passed : PointKind → ℕ → Answer → ℕ
passed kind column answer = count_by (λ (p : Point). (p.at.column == column) && (code_of p.kind == code_of kind)) (trace_of answer)

-- the columns of the points, in order
abbrev pub columns : List Point → List ℕ
columns [] = []
columns (p ∷ ps) = p.at.column ∷ columns ps
