-- The configurations of a machine that runs programs step by step: what it does next, and the frames of what waits behind it.
use Rattle.std.specs.Prelude.{ℕ, Bool, List, [], ◌∷◌, ◌++◌, ℤ, Option, None}
use Rattle.hls_base.specs.declared.place.Place.{Place}
use Rattle.hls_base.specs.declared.point.PointKind.{PointKind}
use Rattle.hls_base.specs.declared.refusal.UbRule.{UbRule}
use Rattle.c_token.specs.declared.ctype.CType.{CType}
use Rattle.c_tree.specs.declared.operator.Unary.{Unary}
use Rattle.c_tree.specs.declared.operator.Binary.{Binary}
use Rattle.c_tree.specs.Tree.{Tree, Trees, ActionTree, InitTree, InitTrees, ObjectTree, StmtTree, ElseTree, StmtTrees, FunctionTree, ItemTree}
use Rattle.c_meaning.specs.declared.value.Value.{Value}
use Rattle.c_meaning.specs.declared.value.Argument.{Argument}
use Rattle.c_meaning.specs.declared.value.Completion.{Completion}
use Rattle.c_meaning.specs.declared.names.Binding.{Binding}
use Rattle.c_meaning.specs.Store.{Object, Environment}
use Rattle.c_meaning.specs.Names.{begun}
use Rattle.c_machine.specs.State.Reading.{Reading}
use Rattle.c_machine.specs.State.Lists.{head_or, tail, one_more}

-- a loop whose iterations begin with a test, or end with one
pub data Loop : Type 0 where
  tests_first : (test : Option Tree) (body : StmtTree) (step : List ActionTree) (at : Place) → Loop
  tests_last : (test : Tree) (body : StmtTree) (at : Place) → Loop

-- what subscripts are evaluated for
pub data Use : Type 0 where
  reading : (array : List ℕ) (at : Place) → Use
  assigning : (text : List ℕ) (op : Option Binary) (v : Tree) (place at : Place) → Use
  bumping : (text : List ℕ) (up post : Bool) (place at : Place) → Use

-- what waits for the value of an expression
pub data ValueFrame : Type 0 where
  unary : (op : Unary) (at : Place) → ValueFrame
  left : (op : Binary) (right : Tree) (at : Place) → ValueFrame
  right : (op : Binary) (x : Value) (at : Place) → ValueFrame
  reached : (fork : Bool) (at : Place) → ValueFrame
  choice : (first second : Tree) (at colon : Place) → ValueFrame
  chosen : (fork : Bool) (at : Place) (kind : CType) → ValueFrame
  cast : (to : CType) → ValueFrame
  comma : (right : Tree) → ValueFrame
  subscript : (others : Trees) (use_ : Use) → ValueFrame
  assigned_to : (text : List ℕ) (op : Option Binary) (place at : Place) → ValueFrame
  argument : (others : Trees) (callee : List ℕ) (used : Bool) (at : Place) → ValueFrame
  acting : (more : List ActionTree) → ValueFrame
  initial : (object element : ℕ) → ValueFrame
  if_test : (tail : Bool) (body : StmtTree) (other : ElseTree) (at : Place) → ValueFrame
  switch_test : (body : StmtTrees) (at : Place) → ValueFrame
  loop_test : (loop_ : Loop) (spent : ℕ) → ValueFrame
  returning : (tail : Bool) → ValueFrame

-- what waits for the end of a statement, of a declaration or of actions. A loop counts the points that were passed before it began and the iterations behind it.
pub data EndFrame : Type 0 where
  rows : (object count : ℕ) (lengths : List ℕ) (more : InitTrees) (element : ℕ) → EndFrame
  declaring : (more : List ObjectTree) → EndFrame
  items : (tail : Bool) (more : StmtTrees) (count : ℕ) → EndFrame
  behind_if : (at : Place) → EndFrame
  behind_switch : (at : Place) → EndFrame
  leaving : EndFrame
  loop_body : (loop_ : Loop) (spent : ℕ) → EndFrame
  loop_step : (loop_ : Loop) (spent : ℕ) → EndFrame
  for_first : (loop_ : Loop) → EndFrame
  called_by : (used : Bool) (fn : FunctionTree) (count : ℕ) → EndFrame
  top : (fn : FunctionTree) (count : ℕ) → EndFrame

pub data Frame : Type 0 where
  on_value : ValueFrame → Frame
  on_end : EndFrame → Frame

-- what is done next
pub data Step : Type 0 where
  evaluate : (used : Bool) (e : Tree) → Step
  give : (v : Value) → Step
  execute : (tail : Bool) (stmt : StmtTree) → Step
  complete : (r : Completion) → Step
  subscripts : (others : Trees) (use_ : Use) → Step
  arguments : (others : Trees) (callee : List ℕ) (used : Bool) (at : Place) → Step
  act : (actions : List ActionTree) → Step
  initialise : (object : ℕ) (lengths : List ℕ) (init : InitTree) (element : ℕ) → Step
  forget : (object : ℕ) → Step
  block : (tail : Bool) (body : StmtTrees) → Step
  jump : (x : Value) (body : StmtTrees) → Step
  finish : (n : Option ℤ) → Step

-- A step follows at once, or behind a point; or the run is over.
pub data Control : Type 0 where
  next : (step : Step) → Control
  before : (kind : PointKind) (at : Place) (step : Step) → Control
  ended : (n : Option ℤ) → Control
  undefined : (rule : UbRule) (at : Place) → Control
  stuck : Control

-- The names of file scope; the environment, and those to which control returns; the numbers of subscripts and the arguments of calls that are under way, the innermost first.
pub record Held : Type 0 where
  pub file : List Binding
  pub environment : Environment
  pub outer : List Environment
  pub numbers : List (List ℤ)
  pub given : List (List Argument)

-- a machine at a moment, with what its meter reads
pub record Configuration : Type 0 where
  pub items : List ItemTree
  pub stack : List Frame
  pub held : Held
  pub objects : List Object
  pub meter : Reading
  pub control : Control

-- ---- changes of what is held

-- a part of a run begins, whose names end with it
abbrev pub scope_opened : Held → Held
scope_opened h = record h { outer = h.environment ∷ h.outer }

abbrev pub scope_left : Held → Held
scope_left h = record h { environment = head_or (begun h.file [] None) h.outer; outer = tail h.outer }

abbrev pub in_environment : Environment → Held → Held
in_environment env h = record h { environment = env }

abbrev pub numbers_opened : Held → Held
numbers_opened h = record h { numbers = [] ∷ h.numbers }

abbrev pub number_added : ℤ → Held → Held
number_added n h = record h { numbers = one_more n h.numbers }

abbrev pub numbers_closed : Held → Held
numbers_closed h = record h { numbers = tail h.numbers }

abbrev pub given_opened : Held → Held
given_opened h = record h { given = [] ∷ h.given }

abbrev pub argument_added : Argument → Held → Held
argument_added a h = record h { given = one_more a h.given }

abbrev pub given_closed : Held → Held
given_closed h = record h { given = tail h.given }
