-- In what the grammar derives, declarations stand in blocks.
use Rattle.std.proofs.Common.{refl, List, Option}
use Rattle.c_tree.specs.Tree.{StmtTree, FirstTree, StmtTrees, ItemTree}
use Rattle.c_tree.specs.Terminals.{Terminal}
use Rattle.c_tree.specs.Grammar as g
use Rattle.c_tree.specs.Grammar.{DerivesStatement, DerivesFirst, DerivesBlock, DerivesBody, DerivesDefinition, DerivesItem, DerivesItems, DerivesProgram}
use Rattle.c_elaborate.specs.Homes.{Each}
use Rattle.c_elaborate.specs.Grammatical.{DeclaresInBlocks, FirstDeclaresInBlocks, AllDeclareInBlocks, BodyDeclaresInBlocks, ItemDeclaresInBlocks}
use Rattle.c_elaborate.specs.Resolved.{DeclaresNothing}
use Rattle.c_elaborate.specs.Laws.{GrammarDeclaresInBlocks}

no_declaration : {ts : List Terminal} {stmt : StmtTree} → DerivesStatement ts stmt → DeclaresNothing stmt
no_declaration (g.a_block ts body b) = refl
no_declaration (g.an_act ends ts all a) = refl
no_declaration (g.an_if at opens closes ts ys test body t b) = refl
no_declaration (g.an_if_else at opens closes other ts ys ns test body second t b open_ s) = refl
no_declaration (g.a_switch at opens closes ts us test body t b) = refl
no_declaration (g.a_case at colon ts us value body v b) = refl
no_declaration (g.a_default at colon us body b) = refl
no_declaration (g.a_while at opens closes ts us test body t b) = refl
no_declaration (g.a_do at again opens closes ends us ts body test b t) = refl
no_declaration (g.a_for at opens ends closes is ts ss us init test step body i t s b) = refl
no_declaration (g.a_break at ends) = refl
no_declaration (g.a_continue at ends) = refl
no_declaration (g.a_return at ends ts value v) = refl

first_blocks : {ts : List Terminal} {init : FirstTree} → DerivesFirst ts init → FirstDeclaresInBlocks init
first_blocks (g.nothing_first ends) = tt
first_blocks (g.actions_first ends ts all a) = tt
first_blocks (g.objects_first ts all a) = tt

mutual
  statement_blocks : {ts : List Terminal} {stmt : StmtTree} → DerivesStatement ts stmt → DeclaresInBlocks stmt
  statement_blocks (g.a_block ts body b) = block_blocks b
  statement_blocks (g.an_act ends ts all a) = tt
  statement_blocks (g.an_if at opens closes ts ys test body t b) = (no_declaration b, statement_blocks b, tt)
  statement_blocks (g.an_if_else at opens closes other ts ys ns test body second t b open_ s) = (no_declaration b, statement_blocks b, (no_declaration s, statement_blocks s))
  statement_blocks (g.a_switch at opens closes ts us test body t b) = block_blocks b
  statement_blocks (g.a_case at colon ts us value body v b) = (no_declaration b, statement_blocks b)
  statement_blocks (g.a_default at colon us body b) = (no_declaration b, statement_blocks b)
  statement_blocks (g.a_while at opens closes ts us test body t b) = (no_declaration b, statement_blocks b)
  statement_blocks (g.a_do at again opens closes ends us ts body test b t) = (no_declaration b, statement_blocks b)
  statement_blocks (g.a_for at opens ends closes is ts ss us init test step body i t s b) = (first_blocks i, no_declaration b, statement_blocks b)
  statement_blocks (g.a_break at ends) = tt
  statement_blocks (g.a_continue at ends) = tt
  statement_blocks (g.a_return at ends ts value v) = tt

  block_blocks : {ts : List Terminal} {body : StmtTrees} → DerivesBlock ts body → AllDeclareInBlocks body
  block_blocks (g.braces opens closes ts body b) = body_blocks b

  body_blocks : {ts : List Terminal} {body : StmtTrees} → DerivesBody ts body → AllDeclareInBlocks body
  body_blocks g.nothing = tt
  body_blocks (g.a_statement ts us stmt rest s r) = (statement_blocks s, body_blocks r)
  body_blocks (g.local_objects ts us all rest d r) = (tt, body_blocks r)

definition_blocks : {ts : List Terminal} {body : Option StmtTrees} → DerivesDefinition ts body → BodyDeclaresInBlocks body
definition_blocks (g.declared_only ends) = tt
definition_blocks (g.defined ts body b) = block_blocks b

item_blocks : {ts : List Terminal} {item : ItemTree} → DerivesItem ts item → ItemDeclaresInBlocks item
item_blocks (g.a_static at ts item i) = item_blocks i
item_blocks (g.an_inline at ts item i) = item_blocks i
item_blocks (g.some_objects ts all d) = tt
item_blocks (g.a_function result constant ks ps bs text at opens closes all body k word_ p d) = definition_blocks d

items_blocks : {ts : List Terminal} {items : List ItemTree} → DerivesItems ts items → Each ItemDeclaresInBlocks items
items_blocks g.no_item = tt
items_blocks (g.more_items ts us item rest i r) = (item_blocks i, items_blocks r)

pub grammar_blocks : GrammarDeclaresInBlocks
grammar_blocks ts end p d = items_blocks d.0
