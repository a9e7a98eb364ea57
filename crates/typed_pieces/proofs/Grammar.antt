-- In what the grammar derives all types are types of C, where those of tokens are.
use Rattle.std.proofs.Common.{◌≡◌, ℕ, Bool, true, false, refl, subst, List, [], ◌∷◌, ◌++◌, Option, Some, if◌then◌else◌}
use Rattle.std.proofs.lemmas.Option.{none-some, same_Some}
use Rattle.c_token.specs.declared.ctype.CType.{CType}
use Rattle.c_token.specs.declared.punct.Punct.TheVariants as p
use Rattle.c_tree.specs.declared.specifier.Specifier.{Specifier}
use Rattle.c_tree.specs.Terminals.{Terminal, sign}
use Rattle.c_tree.specs.Kinds as kinds
use Rattle.c_tree.specs.Kinds.{Row, rows, row_with, same_words, DerivesKind}
use Rattle.c_tree.specs.Tree.{Tree, TargetTree, Trees, ActionTree, InitTree, InitTrees, ObjectTree, StmtTree, FirstTree, StmtTrees, ParamTree, ItemTree}
use Rattle.c_tree.specs.Grammar as g
use Rattle.c_tree.specs.Grammar.{Derives, DerivesTarget, DerivesSubscripts, DerivesArguments, DerivesList, DerivesOptional, DerivesChange, DerivesAction, DerivesActionList, DerivesActions, DerivesInit, DerivesInits, DerivesInitialiser, DerivesObject, DerivesObjects, DerivesDeclaration, DerivesStatement, DerivesFirst, DerivesBlock, DerivesBody, DerivesParam, DerivesParamList, DerivesParams, DerivesDefinition, DerivesItem, DerivesItems}
use Rattle.pass_runs.specs.LowerRuns.OperatorWords.Words.{IsType}
use Rattle.typed_pieces.specs.Sources.{TreeHasTypes, TargetTreeHasTypes, TreesHaveTypes, IfTreeHasTypes, ActionHasTypes, ActionsHaveTypes, InitHasTypes, InitsHaveTypes, IfInitHasTypes, ObjectsHaveTypes, StmtHasTypes, FirstHasTypes, StmtsHaveTypes, IfType, IfBodyHasTypes, ParamsHaveTypes, ItemHasTypes, ItemsHaveTypes, TokensHaveTypes}
use Rattle.typed_pieces.specs.Laws.{GrammarHasTypes}

tokens_before : (ts us : List Terminal) → TokensHaveTypes (ts ++ us) → TokensHaveTypes ts
tokens_before [] us h = tt
tokens_before (t ∷ ts) us h = (h.0, tokens_before ts us h.1)

tokens_behind : (ts us : List Terminal) → TokensHaveTypes (ts ++ us) → TokensHaveTypes us
tokens_behind [] us h = h
tokens_behind (t ∷ ts) us h = tokens_behind ts us h.1

-- ---- types

abbrev EachRow : List Row → Type 0
EachRow [] = Unit {0}
EachRow (row ∷ rest) = IfType row.1 × EachRow rest

row_type : (words : List Specifier) (all : List Row) → EachRow all → (kind : Option CType) → row_with words all ≡ Some kind → IfType kind
row_type words [] h kind e = absurd (none-some kind e)
row_type words (row ∷ rest) h kind e = either (λ q. row_type words rest h.1 kind q) (same_words words row.0) e where
  either : (row_with words rest ≡ Some kind → IfType kind) → (b : Bool) → (if b then Some row.1 else row_with words rest) ≡ Some kind → IfType kind
  either again true q = subst IfType (same_Some row.1 kind q) h.0
  either again false q = again q

each_row : EachRow rows
each_row = (tt, (tt, (refl, (refl, (refl, (refl, (refl, (refl, (refl, (refl, (refl, (refl, (refl, (refl, (refl, (refl, (refl, (refl, (refl, (refl, (refl, (refl, (refl, (refl, (refl, (refl, (refl, (refl, tt))))))))))))))))))))))))))))

kind_types : {ks : List Terminal} {kind : Option CType} {constant : Bool} → DerivesKind ks kind constant → TokensHaveTypes ks → IfType kind
kind_types (kinds.of_words ts words kind constant w e) h = row_type words rows each_row kind e
kind_types (kinds.of_name ls rs kind at before behind l r) h = (tokens_behind ls _ h).0

-- ---- expressions

mutual
  tree_types : {n : ℕ} {ts : List Terminal} {t : Tree} → Derives n ts t → TokensHaveTypes ts → TreeHasTypes t
  tree_types (g.a_number value kind at) h = h.0
  tree_types (g.a_name text at w) h = tt
  tree_types (g.an_element text at ts first rest w s) h = subscripts_types s h.1
  tree_types (g.a_call callee at opens closes ts args w a) h = arguments_types a (tokens_before ts _ h.1.1)
  tree_types (g.a_group opens closes ts inner d) h = tree_types d (tokens_before ts _ h.1)
  tree_types (g.a_bump_behind punct up at ts place e d) h = target_types d (tokens_before ts _ h)
  tree_types (g.a_prefix punct op at ts arg e d) h = tree_types d h.1
  tree_types (g.a_bump_before punct up at ts place e d) h = target_types d h.1
  tree_types (g.a_cast at closes ks ts kind constant arg k d) h = (kind_types k (tokens_before ks _ h.1), tree_types d (tokens_behind ks _ h.1).1)
  tree_types (g.an_operator punct op at n ls rs left right e l dl dr) h = (tree_types dl (tokens_before ls _ h), tree_types dr (tokens_behind ls _ h).1)
  tree_types (g.a_choice at colon ts ys ns test left right dt dl dr) h =
      let r = (tokens_behind ts _ h).1 in
      (tree_types dt (tokens_before ts _ h), tree_types dl (tokens_before ys _ r), tree_types dr (tokens_behind ys _ r).1)
  tree_types (g.an_assignment punct op at ts vs place value e dt dv) h = (target_types dt (tokens_before ts _ h), tree_types dv (tokens_behind ts _ h).1)
  tree_types (g.a_comma at ls rs left right dl dr) h = (tree_types dl (tokens_before ls _ h), tree_types dr (tokens_behind ls _ h).1)
  tree_types (g.a_tighter n ts inner d) h = tree_types d h

  target_types : {ts : List Terminal} {place : TargetTree} → DerivesTarget ts place → TokensHaveTypes ts → TargetTreeHasTypes place
  target_types (g.a_target text at ts subscripts w s) h = subscripts_types s h.1

  subscripts_types : {ts : List Terminal} {xs : Trees} → DerivesSubscripts ts xs → TokensHaveTypes ts → TreesHaveTypes xs
  subscripts_types g.no_subscript h = tt
  subscripts_types (g.a_subscript opens closes ts us first rest d s) h = (tree_types d (tokens_before ts _ h.1), subscripts_types s (tokens_behind ts _ h.1).1)

  arguments_types : {ts : List Terminal} {xs : Trees} → DerivesArguments ts xs → TokensHaveTypes ts → TreesHaveTypes xs
  arguments_types g.no_argument h = tt
  arguments_types (g.arguments ts args d) h = list_types d h

  list_types : {ts : List Terminal} {xs : Trees} → DerivesList ts xs → TokensHaveTypes ts → TreesHaveTypes xs
  list_types (g.last ts arg d) h = (tree_types d h, tt)
  list_types (g.and_more at ts us arg args d l) h = (tree_types d (tokens_before ts _ h), list_types l (tokens_behind ts _ h).1)

optional_types : {n : ℕ} {ts : List Terminal} {t : Option Tree} → DerivesOptional n ts t → TokensHaveTypes ts → IfTreeHasTypes t
optional_types (g.absent n) h = tt
optional_types (g.present n ts inner d) h = tree_types d h

-- ---- actions

change_types : {ts : List Terminal} {a : ActionTree} → DerivesChange ts a → TokensHaveTypes ts → ActionHasTypes a
change_types (g.assigned punct op at ts vs place value e dt dv) h = (target_types dt (tokens_before ts _ h), tree_types dv (tokens_behind ts _ h).1)
change_types (g.bumped_behind punct up at ts place e d) h = target_types d (tokens_before ts _ h)
change_types (g.bumped_before punct up at ts place e d) h = target_types d h.1

action_types : {ts : List Terminal} {a : ActionTree} → DerivesAction ts a → TokensHaveTypes ts → ActionHasTypes a
action_types (g.a_change ts action d) h = change_types d h
action_types (g.a_value ts value none d) h = tree_types d h

action_list_types : {ts : List Terminal} {all : List ActionTree} → DerivesActionList ts all → TokensHaveTypes ts → ActionsHaveTypes all
action_list_types (g.last_action ts action d) h = (action_types d h, tt)
action_list_types (g.more_actions at ts us action rest d r) h = (action_types d (tokens_before ts _ h), action_list_types r (tokens_behind ts _ h).1)

actions_types : {ts : List Terminal} {all : List ActionTree} → DerivesActions ts all → TokensHaveTypes ts → ActionsHaveTypes all
actions_types g.no_action h = tt
actions_types (g.actions ts all d) h = action_list_types d h

-- ---- objects

mutual
  init_types : {ts : List Terminal} {init : InitTree} → DerivesInit ts init → TokensHaveTypes ts → InitHasTypes init
  init_types (g.a_single ts value d) h = tree_types d h
  init_types (g.a_braced at closes ts items d) h = inits_types d (tokens_before ts _ h.1)

  inits_types : {ts : List Terminal} {inits : InitTrees} → DerivesInits ts inits → TokensHaveTypes ts → InitsHaveTypes inits
  inits_types (g.last_init ts init d) h = (init_types d h, tt)
  inits_types (g.last_init_comma at ts init d) h = (init_types d (tokens_before ts _ h), tt)
  inits_types (g.another_init at ts us init inits d r) h = (init_types d (tokens_before ts _ h), inits_types r (tokens_behind ts _ h).1)

initialiser_types : {ts : List Terminal} {init : Option InitTree} → DerivesInitialiser ts init → TokensHaveTypes ts → IfInitHasTypes init
initialiser_types g.no_initialiser h = tt
initialiser_types (g.an_initialiser at ts init d) h = init_types d h.1

object_types : {kind : CType} {constant : Bool} {ts : List Terminal} {o : ObjectTree} → DerivesObject kind constant ts o → IsType kind → TokensHaveTypes ts → IsType o.kind × IfInitHasTypes o.init
object_types (g.an_object kind constant text at ts us lengths init w l i) t h = (t, initialiser_types i (tokens_behind ts _ h.1))

objects_types : {kind : CType} {constant : Bool} {ts : List Terminal} {os : List ObjectTree} → DerivesObjects kind constant ts os → IsType kind → TokensHaveTypes ts → ObjectsHaveTypes os
objects_types (g.last_object kind constant ts object d) t h = (object_types d t h, tt)
objects_types (g.more_objects kind constant at ts us object rest d r) t h = (object_types d t (tokens_before ts _ h), objects_types r t (tokens_behind ts _ h).1)

declaration_types : {ts : List Terminal} {os : List ObjectTree} → DerivesDeclaration ts os → TokensHaveTypes ts → ObjectsHaveTypes os
declaration_types (g.a_declaration kind constant ks ts objects ends k d) h = objects_types d (kind_types k (tokens_before ks _ h)) (tokens_before ts _ (tokens_behind ks _ h))

-- ---- statements

mutual
  statement_types : {ts : List Terminal} {stmt : StmtTree} → DerivesStatement ts stmt → TokensHaveTypes ts → StmtHasTypes stmt
  statement_types (g.a_block ts body b) h = block_types b h
  statement_types (g.an_act ends ts all a) h = actions_types a (tokens_before ts _ h)
  statement_types (g.an_if at opens closes ts ys test body t b) h = (tree_types t (tokens_before ts _ h.1.1), statement_types b (tokens_behind ts _ h.1.1).1, tt)
  statement_types (g.an_if_else at opens closes other ts ys ns test body second t b open_ s) h =
      let r = (tokens_behind ts _ h.1.1).1 in
      (tree_types t (tokens_before ts _ h.1.1), statement_types b (tokens_before ys _ r), statement_types s (tokens_behind ys _ r).1)
  statement_types (g.a_switch at opens closes ts us test body t b) h = (tree_types t (tokens_before ts _ h.1.1), block_types b (tokens_behind ts _ h.1.1).1)
  statement_types (g.a_case at colon ts us value body v b) h = statement_types b (tokens_behind ts _ h.1).1
  statement_types (g.a_default at colon us body b) h = statement_types b h.1.1
  statement_types (g.a_while at opens closes ts us test body t b) h = (tree_types t (tokens_before ts _ h.1.1), statement_types b (tokens_behind ts _ h.1.1).1)
  statement_types (g.a_do at again opens closes ends us ts body test b t) h =
      let r = tokens_behind us _ h.1 in
      (statement_types b (tokens_before us _ h.1), tree_types t (tokens_before ts _ r.1.1))
  statement_types (g.a_for at opens ends closes is ts ss us init test step body i t s b) h =
      let heads = is ++ (ts ++ sign p.Semicolon ends ∷ ss) in
      let head = tokens_before heads (sign p.RightParen closes ∷ us) h.1.1 in
      let r = tokens_behind is (ts ++ sign p.Semicolon ends ∷ ss) head in
      (first_types i (tokens_before is (ts ++ sign p.Semicolon ends ∷ ss) head), optional_types t (tokens_before ts _ r), actions_types s (tokens_behind ts _ r).1, statement_types b (tokens_behind heads (sign p.RightParen closes ∷ us) h.1.1).1)
  statement_types (g.a_break at ends) h = tt
  statement_types (g.a_continue at ends) h = tt
  statement_types (g.a_return at ends ts value v) h = optional_types v (tokens_before ts _ h.1)

  first_types : {ts : List Terminal} {init : FirstTree} → DerivesFirst ts init → TokensHaveTypes ts → FirstHasTypes init
  first_types (g.nothing_first ends) h = tt
  first_types (g.actions_first ends ts all a) h = action_list_types a (tokens_before ts _ h)
  first_types (g.objects_first ts all d) h = declaration_types d h

  block_types : {ts : List Terminal} {body : StmtTrees} → DerivesBlock ts body → TokensHaveTypes ts → StmtsHaveTypes body
  block_types (g.braces opens closes ts body b) h = body_types b (tokens_before ts _ h.1)

  body_types : {ts : List Terminal} {body : StmtTrees} → DerivesBody ts body → TokensHaveTypes ts → StmtsHaveTypes body
  body_types g.nothing h = tt
  body_types (g.a_statement ts us stmt rest s r) h = (statement_types s (tokens_before ts _ h), body_types r (tokens_behind ts _ h))
  body_types (g.local_objects ts us all rest d r) h = (declaration_types d (tokens_before ts _ h), body_types r (tokens_behind ts _ h))

-- ---- functions and programs

param_types : {ts : List Terminal} {param : ParamTree} → DerivesParam ts param → TokensHaveTypes ts → IsType param.object.kind
param_types (g.named_param kind constant ks ls text at lengths k w l) h = kind_types k (tokens_before ks _ h)
param_types (g.unnamed_param kind constant t ks ls lengths k l) h = kind_types k (h.0, tokens_before ks _ h.1)

param_list_types : {ts : List Terminal} {all : List ParamTree} → DerivesParamList ts all → TokensHaveTypes ts → ParamsHaveTypes all
param_list_types (g.last_param ts param d) h = (param_types d h, tt)
param_list_types (g.more_params at ts us param rest d r) h = (param_types d (tokens_before ts _ h), param_list_types r (tokens_behind ts _ h).1)

params_types : {ts : List Terminal} {all : List ParamTree} → DerivesParams ts all → TokensHaveTypes ts → ParamsHaveTypes all
params_types g.no_param h = tt
params_types (g.void_alone at) h = tt
params_types (g.params ts all d) h = param_list_types d h

definition_types : {ts : List Terminal} {body : Option StmtTrees} → DerivesDefinition ts body → TokensHaveTypes ts → IfBodyHasTypes body
definition_types (g.declared_only ends) h = tt
definition_types (g.defined ts body b) h = block_types b h

item_types : {ts : List Terminal} {item : ItemTree} → DerivesItem ts item → TokensHaveTypes ts → ItemHasTypes item
item_types (g.a_static at ts item d) h = item_types d h.1
item_types (g.an_inline at ts item d) h = item_types d h.1
item_types (g.some_objects ts all d) h = declaration_types d h
item_types (g.a_function result constant ks ps bs text at opens closes all body k w a d) h =
    let r = (tokens_behind ks _ h).1.1 in
    (kind_types k (tokens_before ks _ h), params_types a (tokens_before ps _ r), definition_types d (tokens_behind ps _ r).1)

items_types : {ts : List Terminal} {items : List ItemTree} → DerivesItems ts items → TokensHaveTypes ts → ItemsHaveTypes items
items_types g.no_item h = tt
items_types (g.more_items ts us item rest i r) h = (item_types i (tokens_before ts _ h), items_types r (tokens_behind ts _ h))

pub grammar_types : GrammarHasTypes
grammar_types tokens end program d h = items_types d.0 h
