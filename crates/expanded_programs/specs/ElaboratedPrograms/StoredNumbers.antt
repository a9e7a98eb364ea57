-- Laws of the numbers that objects hold. What is stored is converted to the type of the object.
pub mod Numbers
use Rattle.std.specs.Prelude.{◌≡◌, ℕ, ◌^◌, ◌<◌, Bool, true, List, [], length, slice_get, Option, Some, None}
use Rattle.hls_base.specs.FileScope.{FileScope}
use Rattle.hls_base.specs.declared.place.Place.{Place}
use Rattle.hls_base.specs.declared.point.Point.{Point}
use Rattle.c_token.specs.declared.ctype.CType.{CType}
use Rattle.c_tree.specs.Tree.{Tree, InitTree, ObjectTree, StmtTree, StmtTrees, ParamTree, FunctionTree, ItemTree, ProgramTree}
use Rattle.c_value.specs.Values.{width}
use Rattle.c_meaning.specs.Checks.Limits.{file_objects}
use Rattle.c_meaning.specs.Checks.Programs.{program_faults}
use Rattle.c_meaning.specs.declared.names.Binding.{Binding}
use Rattle.c_meaning.specs.declared.value.Argument.{Argument}
use Rattle.c_meaning.specs.Store.{State, Environment, entered}
use Rattle.c_meaning.specs.Expression.{expression_meaning}
use Rattle.c_meaning.specs.Statement.{initialise, declare_all, statement_meaning, items_meaning, jump_meaning}
use Rattle.c_meaning.specs.Run.{ended, file_names, top_arguments, parameters, function_meaning, calls, started, function_at, c_run}
use Rattle.c_elaborate.specs.Grammatical.{ProgramDeclaresInBlocks}
use Rattle.expanded_programs.specs.ElaboratedPrograms.Inputs.{ProgramInputsFit}
use Rattle.expanded_programs.specs.ElaboratedPrograms.StoredNumbers.Numbers.{HoldsNumbers, EndsWithNumbers, KeepsNumbers}

-- The stores that a run starts with, and that it ends with, if it ends.
pub record HoldsAtEnds (p : ProgramTree) (f : FunctionTree) (kept : FileScope) (scalars : List ℕ) (arrays : List (List ℕ)) (n : ℕ) : Type 0 where
  pub start : HoldsNumbers (started p.items f kept arrays n)
  pub end : EndsWithNumbers (function_meaning (calls n p.items (file_names p.items)) true f (top_arguments f.params scalars (length (file_objects p.items))) [] (file_names p.items) (started p.items f kept arrays n)).outcome

-- So it is in a program without faults, where the inputs fit.
abbrev pub RunsHoldNumbers : Type 0
RunsHoldNumbers = (p : ProgramTree) (top : ℕ) (name : List ℕ) (f : FunctionTree) → program_faults p name ≡ [] → ProgramDeclaresInBlocks p → function_at (slice_get p.items top) ≡ Some f
    → (kept : FileScope) (scalars : List ℕ) (arrays : List (List ℕ)) (n : ℕ) → ProgramInputsFit p top kept scalars arrays → HoldsAtEnds p f kept scalars arrays n

-- The stores that a block and a call begin with.
pub record Begins (s : State) : Type 0 where
  pub block : (os : List ObjectTree) → HoldsNumbers (entered os s)
  pub call : (ps : List ParamTree) (given : List Argument) (env : Environment) → HoldsNumbers (parameters ps given env s).1

-- They hold numbers of their types where the store before them does.
abbrev pub CallsAndBlocksBeginWithNumbers : Type 0
CallsAndBlocksBeginWithNumbers = (s : State) → HoldsNumbers s → Begins s

-- The parts of a run: expressions, initialisers of objects from an element on, declarations, statements, the items of a block, those of a switch from a label on, and calls.
pub record Kept (items : List ItemTree) (names : List Binding) (n : ℕ) (s : State) : Type 0 where
  pub expression : (used : Bool) (t : Tree) (env : Environment) → KeepsNumbers (expression_meaning (calls n items names) used t env) s
  pub initialiser : (object : ℕ) (lengths : List ℕ) (init : InitTree) (element : ℕ) (env : Environment) → KeepsNumbers (initialise (calls n items names) object lengths init element env) s
  pub declaration : (os : List ObjectTree) (env : Environment) → KeepsNumbers (declare_all (calls n items names) os env) s
  pub statement : (tail : Bool) (t : StmtTree) (env : Environment) → KeepsNumbers (statement_meaning (calls n items names) tail t env) s
  pub block_items : (tail : Bool) (ts : StmtTrees) (env : Environment) → KeepsNumbers (items_meaning (calls n items names) tail ts env) s
  pub switch_items : (wanted : Option Tree → Bool) (ts : StmtTrees) (env : Environment) → KeepsNumbers (jump_meaning (calls n items names) wanted ts env) s
  pub call : (used : Bool) (f : FunctionTree) (given : List Argument) (path : List Place) → KeepsNumbers (function_meaning (calls n items names) used f given path names) s

-- Each part of a run of any program, with calls that may be n deep, keeps numbers of their types.
abbrev pub PartsKeepNumbers : Type 0
PartsKeepNumbers = (items : List ItemTree) (names : List Binding) (n : ℕ) (s : State) → Kept items names n s

-- ---- the end of a run

-- no result, or a word of its type
abbrev pub ResultFits : Option CType → Option ℕ → Type 0
ResultFits kind None = Unit {0}
ResultFits None (Some word) = ⊥
ResultFits (Some kind) (Some word) = word < 2 ^ width kind

-- What a run that ends leaves: the elements and the contents are again what a run may be started with.
pub record Leaves (p : ProgramTree) (top : ℕ) (f : FunctionTree) (scalars : List ℕ) (result : Option ℕ) (elements : List (List ℕ)) (left : FileScope) : Type 0 where
  pub result_fits : ResultFits f.result result
  pub contents_fit : ProgramInputsFit p top left scalars elements

-- So it is in a program without faults, where the inputs fit.
abbrev pub RunsLeaveWords : Type 0
RunsLeaveWords = (p : ProgramTree) (top : ℕ) (name : List ℕ) (f : FunctionTree) → program_faults p name ≡ [] → ProgramDeclaresInBlocks p → function_at (slice_get p.items top) ≡ Some f
    → (kept : FileScope) (scalars : List ℕ) (arrays : List (List ℕ)) (n : ℕ) → ProgramInputsFit p top kept scalars arrays
    → (result : Option ℕ) (elements : List (List ℕ)) (left : FileScope) (trace : List Point) → c_run p top kept scalars arrays n ≡ ended result elements left trace
    → Leaves p top f scalars result elements left
