-- Syntax trees without where they lie in memory: C11 6.5 to 6.9.
use Rattle.std.specs.Prelude.{ℕ, Bool, List, [], ◌∷◌, Option}
use Rattle.hls_base.specs.declared.place.Place.{Place}
use Rattle.c_token.specs.declared.ctype.CType.{CType}
use Rattle.c_tree.specs.declared.operator.Unary.{Unary}
use Rattle.c_tree.specs.declared.operator.Binary.{Binary}

mutual
  -- an expression
  pub data Tree : Type 0 where
    number : (value : ℕ) (kind : CType) (at : Place) → Tree
    name : (text : List ℕ) (at : Place) → Tree
    index : (array : List ℕ) (subscripts : Trees) (at : Place) → Tree
    call : (callee : List ℕ) (args : Trees) (at : Place) → Tree
    unary : (op : Unary) (arg : Tree) (at : Place) → Tree
    binary : (op : Binary) (left right : Tree) (at : Place) → Tree
    choice : (test left right : Tree) (at colon : Place) → Tree
    cast : (to : CType) (arg : Tree) (at : Place) → Tree
    assign : (target : TargetTree) (op : Option Binary) (value : Tree) (at : Place) → Tree
    bump : (target : TargetTree) (up post : Bool) (at : Place) → Tree
    comma : (left right : Tree) (at : Place) → Tree

  -- what is assigned
  pub data TargetTree : Type 0 where
    target : (text : List ℕ) (subscripts : Trees) (at : Place) → TargetTree

  -- the subscripts of an element, or the arguments of a call
  pub data Trees : Type 0 where
    none : Trees
    more : (first : Tree) (rest : Trees) → Trees

-- the same trees in a row
abbrev pub row : List Tree → Trees
row [] = none
row (tree ∷ trees) = more tree (row trees)

-- an expression whose value is not used
pub data ActionTree : Type 0 where
  assignment : (target : TargetTree) (op : Option Binary) (value : Tree) (at : Place) → ActionTree
  bumping : (target : TargetTree) (up : Bool) (at : Place) → ActionTree
  evaluation : (value : Tree) → ActionTree

mutual
  -- an initialiser
  pub data InitTree : Type 0 where
    single : (value : Tree) → InitTree
    braced : (items : InitTrees) (at : Place) → InitTree

  pub data InitTrees : Type 0 where
    no_init : InitTrees
    more_inits : (first : InitTree) (rest : InitTrees) → InitTrees

abbrev pub init_row : List InitTree → InitTrees
init_row [] = no_init
init_row (init ∷ inits) = more_inits init (init_row inits)

-- an object that is declared
pub record ObjectTree : Type 0 where
  pub name : List ℕ
  pub at : Place
  pub kind : CType
  pub constant : Bool
  pub lengths : List (Option Tree)
  pub init : Option InitTree

mutual
  -- a statement, or a declaration in a block; a `case` without a value is a `default`
  pub data StmtTree : Type 0 where
    block : (body : StmtTrees) → StmtTree
    declare : (objects : List ObjectTree) → StmtTree
    act : (actions : List ActionTree) → StmtTree
    if_ : (test : Tree) (body : StmtTree) (other : ElseTree) (at : Place) → StmtTree
    switch_ : (test : Tree) (body : StmtTrees) (at : Place) → StmtTree
    case_ : (value : Option Tree) (body : StmtTree) (at : Place) → StmtTree
    while_ : (test : Tree) (body : StmtTree) (at : Place) → StmtTree
    do_ : (body : StmtTree) (test : Tree) (at : Place) → StmtTree
    for_ : (init : FirstTree) (test : Option Tree) (step : List ActionTree) (body : StmtTree) (at : Place) → StmtTree
    break_ : (at : Place) → StmtTree
    continue_ : (at : Place) → StmtTree
    return_ : (value : Option Tree) (at : Place) → StmtTree

  -- the second branch of an `if`
  pub data ElseTree : Type 0 where
    no_else : ElseTree
    else_ : (at : Place) (body : StmtTree) → ElseTree

  -- the first part of a `for`
  pub data FirstTree : Type 0 where
    no_first : FirstTree
    first : (part : StmtTree) → FirstTree

  pub data StmtTrees : Type 0 where
    no_stmt : StmtTrees
    more_stmts : (first : StmtTree) (rest : StmtTrees) → StmtTrees

abbrev pub stmt_row : List StmtTree → StmtTrees
stmt_row [] = no_stmt
stmt_row (stmt ∷ stmts) = more_stmts stmt (stmt_row stmts)

-- a parameter; one without a name has no bytes in its name
pub record ParamTree : Type 0 where
  pub object : ObjectTree
  pub named : Bool

-- a function: without a result it is `void`, and without a body it is declared only
pub record FunctionTree : Type 0 where
  pub name : List ℕ
  pub at : Place
  pub result : Option CType
  pub params : List ParamTree
  pub body : Option StmtTrees

pub data ItemTree : Type 0 where
  function : FunctionTree → ItemTree
  objects : List ObjectTree → ItemTree

pub record ProgramTree : Type 0 where
  pub items : List ItemTree
  pub end : Place
