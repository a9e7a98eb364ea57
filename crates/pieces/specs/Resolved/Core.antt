-- Core programs without where they lie in memory.
use Rattle.std.specs.Prelude.{ℕ, Bool, List, [], ◌∷◌, Option}
use Rattle.hls_base.specs.declared.place.Place.{Place}
use Rattle.c_token.specs.declared.ctype.CType.{CType}
use Rattle.c_tree.specs.declared.operator.Unary.{Unary}
use Rattle.c_tree.specs.declared.operator.Binary.{Binary}
use Rattle.pieces.specs.declared.resolved.expression.Cell.{Cell}

mutual
  -- an expression with its type
  pub data CoreTree : Type 0 where
    number : (value : ℕ) (kind : CType) → CoreTree
    scalar : (cell : Cell) (kind : CType) (at : Place) → CoreTree
    element : (array : Cell) (subscripts : CoreTrees) (kind : CType) (at : Place) → CoreTree
    call : (callee : ℕ) (args : ArgumentTrees) (kind : Option CType) (at : Place) → CoreTree
    unary : (op : Unary) (arg : CoreTree) (kind : CType) (at : Place) → CoreTree
    binary : (op : Binary) (left right : CoreTree) (kind : CType) (at : Place) → CoreTree
    choice : (test left right : CoreTree) (kind : CType) (at colon : Place) → CoreTree
    cast : (to : CType) (arg : CoreTree) → CoreTree
    assign : (target : CoreTargetTree) (op : Option Binary) (value : CoreTree) (at : Place) → CoreTree
    bump : (target : CoreTargetTree) (up post : Bool) (at : Place) → CoreTree
    comma : (left right : CoreTree) → CoreTree

  -- what is assigned
  pub data CoreTargetTree : Type 0 where
    target : (cell : Cell) (subscripts : CoreTrees) (kind : CType) (at : Place) → CoreTargetTree

  -- the subscripts of an element
  pub data CoreTrees : Type 0 where
    none : CoreTrees
    more : (first : CoreTree) (rest : CoreTrees) → CoreTrees

  -- an argument of a call: a number, or an array
  pub data ArgumentTree : Type 0 where
    given : (value : CoreTree) → ArgumentTree
    array : (cell : Cell) → ArgumentTree

  pub data ArgumentTrees : Type 0 where
    no_argument : ArgumentTrees
    more_arguments : (first : ArgumentTree) (rest : ArgumentTrees) → ArgumentTrees

-- the same trees in a row
abbrev pub row : List CoreTree → CoreTrees
row [] = none
row (tree ∷ trees) = more tree (row trees)

abbrev pub argument_row : List ArgumentTree → ArgumentTrees
argument_row [] = no_argument
argument_row (first ∷ rest) = more_arguments first (argument_row rest)

-- what a declaration writes
pub data CoreInitTree : Type 0 where
  unwritten : CoreInitTree
  single : (value : CoreTree) → CoreInitTree
  elements : (items : List (Option CoreTree)) → CoreInitTree

-- an expression whose value is not used: an assignment, `++` or `--` as it stands, or another one
pub data CoreActionTree : Type 0 where
  change : (expression : CoreTree) → CoreActionTree
  value : (expression : CoreTree) → CoreActionTree

mutual
  -- a statement, or the declaration of an object; a `case` without a value is a `default`
  pub data CoreStmtTree : Type 0 where
    block : (objects : List ℕ) (body : CoreStmtTrees) → CoreStmtTree
    declare : (object : ℕ) (init : CoreInitTree) → CoreStmtTree
    act : (actions : List CoreActionTree) → CoreStmtTree
    if_ : (test : CoreTree) (body : CoreStmtTree) (other : CoreElseTree) (at : Place) → CoreStmtTree
    switch_ : (test : CoreTree) (objects : List ℕ) (body : CoreStmtTrees) (at : Place) → CoreStmtTree
    case_ : (value : Option ℕ) (body : CoreStmtTree) (at : Place) → CoreStmtTree
    while_ : (test : CoreTree) (body : CoreStmtTree) (at : Place) → CoreStmtTree
    do_ : (body : CoreStmtTree) (test : CoreTree) (at : Place) → CoreStmtTree
    for_ : (objects : List ℕ) (init : CoreStmtTrees) (test : Option CoreTree) (step : List CoreActionTree) (body : CoreStmtTree) (at : Place) → CoreStmtTree
    break_ : CoreStmtTree
    continue_ : CoreStmtTree
    return_ : (value : Option CoreTree) → CoreStmtTree

  -- the second branch of an `if`
  pub data CoreElseTree : Type 0 where
    no_else : CoreElseTree
    else_ : (at : Place) (body : CoreStmtTree) → CoreElseTree

  pub data CoreStmtTrees : Type 0 where
    no_stmt : CoreStmtTrees
    more_stmts : (first : CoreStmtTree) (rest : CoreStmtTrees) → CoreStmtTrees

abbrev pub stmt_row : List CoreStmtTree → CoreStmtTrees
stmt_row [] = no_stmt
stmt_row (stmt ∷ stmts) = more_stmts stmt (stmt_row stmts)

-- an object: a scalar without lengths, or an array
pub record CoreObjectTree : Type 0 where
  pub name : List ℕ
  pub kind : CType
  pub lengths : List ℕ
  pub constant : Bool

-- an object of file scope, with the bit patterns of its first elements
pub record FileObjectTree : Type 0 where
  pub object : CoreObjectTree
  pub first : List ℕ

-- a function with a body, whose first objects are its parameters
pub record CoreFunctionTree : Type 0 where
  pub name : List ℕ
  pub at : Place
  pub result : Option CType
  pub params : ℕ
  pub objects : List CoreObjectTree
  pub outermost : List ℕ
  pub body : CoreStmtTrees

pub record CoreProgramTree : Type 0 where
  pub file : List FileObjectTree
  pub functions : List CoreFunctionTree
  pub top : ℕ
