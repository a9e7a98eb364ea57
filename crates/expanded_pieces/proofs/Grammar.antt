-- In what the grammar derives, loops begin with declarations or actions.
use Rattle.std.proofs.Common.{List, ◌∷◌, Option}
use Rattle.c_tree.specs.Tree.{StmtTree, FirstTree, StmtTrees, ItemTree}
use Rattle.c_tree.specs.Terminals.{Terminal}
use Rattle.c_tree.specs.Grammar as g
use Rattle.c_tree.specs.Grammar.{DerivesStatement, DerivesFirst, DerivesBlock, DerivesBody, DerivesDefinition, DerivesItem, DerivesItems, DerivesProgram}
use Rattle.expanded_pieces.specs.Beginning.{HasHead, LoopsBegin, AllLoopsBegin, BodyLoopsBegin, ItemsLoopsBegin}
use Rattle.expanded_pieces.specs.Laws.{GrammarBeginsLoops}

first_begins : {ts : List Terminal} {init : FirstTree} → DerivesFirst ts init → HasHead init
first_begins (g.nothing_first ends) = tt
first_begins (g.actions_first ends ts all a) = tt
first_begins (g.objects_first ts all a) = tt

mutual
  statement_begins : {ts : List Terminal} {stmt : StmtTree} → DerivesStatement ts stmt → LoopsBegin stmt
  statement_begins (g.a_block ts body b) = block_begins b
  statement_begins (g.an_act ends ts all a) = tt
  statement_begins (g.an_if at opens closes ts ys test body t b) = (statement_begins b, tt)
  statement_begins (g.an_if_else at opens closes other ts ys ns test body second t b open_ s) = (statement_begins b, statement_begins s)
  statement_begins (g.a_switch at opens closes ts us test body t b) = block_begins b
  statement_begins (g.a_case at colon ts us value body v b) = statement_begins b
  statement_begins (g.a_default at colon us body b) = statement_begins b
  statement_begins (g.a_while at opens closes ts us test body t b) = statement_begins b
  statement_begins (g.a_do at again opens closes ends us ts body test b t) = statement_begins b
  statement_begins (g.a_for at opens ends closes is ts ss us init test step body i t s b) = (first_begins i, statement_begins b)
  statement_begins (g.a_break at ends) = tt
  statement_begins (g.a_continue at ends) = tt
  statement_begins (g.a_return at ends ts value v) = tt

  block_begins : {ts : List Terminal} {body : StmtTrees} → DerivesBlock ts body → AllLoopsBegin body
  block_begins (g.braces opens closes ts body b) = body_begins b

  body_begins : {ts : List Terminal} {body : StmtTrees} → DerivesBody ts body → AllLoopsBegin body
  body_begins g.nothing = tt
  body_begins (g.a_statement ts us stmt rest s r) = (statement_begins s, body_begins r)
  body_begins (g.local_objects ts us all rest d r) = (tt, body_begins r)

definition_begins : {ts : List Terminal} {body : Option StmtTrees} → DerivesDefinition ts body → BodyLoopsBegin body
definition_begins (g.declared_only ends) = tt
definition_begins (g.defined ts body b) = block_begins b

item_begins : {ts : List Terminal} {item : ItemTree} → DerivesItem ts item → (items : List ItemTree) → ItemsLoopsBegin items → ItemsLoopsBegin (item ∷ items)
item_begins (g.a_static at ts item i) items h = item_begins i items h
item_begins (g.an_inline at ts item i) items h = item_begins i items h
item_begins (g.some_objects ts all d) items h = h
item_begins (g.a_function result constant ks ps bs text at opens closes all body k word_ p d) items h = (definition_begins d, h)

items_begin : {ts : List Terminal} {items : List ItemTree} → DerivesItems ts items → ItemsLoopsBegin items
items_begin g.no_item = tt
items_begin (g.more_items ts us item rest i r) = item_begins i rest (items_begin r)

pub grammar_begins : GrammarBeginsLoops
grammar_begins ts end p d = items_begin d.0
