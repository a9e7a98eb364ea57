-- What the grammar derives from tokens whose numbers are of their types.
use Rattle.std.proofs.Common.{◌≡◌, refl, subst, List, [], ◌∷◌, ◌++◌, Option, Some, None}
use Rattle.c_token.specs.declared.ctype.CType.{CType}
use Rattle.c_token.specs.declared.punct.Punct.{Punct}
use Rattle.c_token.specs.declared.punct.Punct.TheVariants as p
use Rattle.c_tree.specs.declared.operator.Binary.{Binary}
use Rattle.c_tree.specs.Terminals.{Terminal, assignment_of}
use Rattle.c_tree.specs.Tree as tree
use Rattle.c_tree.specs.Tree.{Tree, TargetTree, Trees, ActionTree, InitTree, InitTrees, ObjectTree, StmtTree, FirstTree, StmtTrees, ItemTree, ProgramTree}
use Rattle.c_tree.specs.Grammar as g
use Rattle.c_tree.specs.Grammar.{Derives, DerivesTarget, DerivesSubscripts, DerivesArguments, DerivesList, DerivesOptional, DerivesChange, DerivesAction, DerivesActionList, DerivesActions, DerivesInit, DerivesInits, DerivesInitialiser, DerivesObject, DerivesObjects, DerivesDeclaration, DerivesStatement, DerivesFirst, DerivesBlock, DerivesBody, DerivesDefinition, DerivesItem, DerivesItems, DerivesProgram}
use Rattle.c_elaborate.specs.Homes.{Each}
use Rattle.c_elaborate.proofs.ElaborateRuns.Lists.{each-front}
use Rattle.expand_runs.specs.Sound.{IsPlain}
use Rattle.expanded_programs.specs.ElaboratedPrograms.Written.{NumberFits, NumbersFit, IsWritten, AreWritten, OptionWritten, ActionsWritten, InitWritten, InitsWritten, OptionInitWritten, ObjectsWritten, StmtWritten, HeadWritten, StmtsWritten, BodyWritten, ItemWritten, ProgramWritten}
use Rattle.expanded_programs.proofs.ElaboratedPrograms.Lists.{each_back}

-- ---- tokens

front : (xs ys : List Terminal) → NumbersFit (xs ++ ys) → NumbersFit xs
front xs ys h = each-front (λ (t : Terminal). NumberFits t.kind) xs ys h

back : (xs ys : List Terminal) → NumbersFit (xs ++ ys) → NumbersFit ys
back xs ys h = each_back (λ (t : Terminal). NumberFits t.kind) xs ys h

-- ---- operators

abbrev PlainIf : Option (Option Binary) → Type 0
PlainIf None = Unit {0}
PlainIf (Some op) = IsPlain op

plain_if : (punct : Punct) → PlainIf (assignment_of punct)
plain_if p.LeftParen = tt
plain_if p.RightParen = tt
plain_if p.LeftBracket = tt
plain_if p.RightBracket = tt
plain_if p.LeftBrace = tt
plain_if p.RightBrace = tt
plain_if p.Semicolon = tt
plain_if p.Comma = tt
plain_if p.Colon = tt
plain_if p.Question = tt
plain_if p.Tilde = tt
plain_if p.Bang = tt
plain_if p.Plus = tt
plain_if p.Minus = tt
plain_if p.Star = tt
plain_if p.Slash = tt
plain_if p.Percent = tt
plain_if p.Amp = tt
plain_if p.Bar = tt
plain_if p.Caret = tt
plain_if p.Less = tt
plain_if p.Greater = tt
plain_if p.Equal = tt
plain_if p.Dot = tt
plain_if p.Ellipsis = tt
plain_if p.Arrow = tt
plain_if p.PlusPlus = tt
plain_if p.MinusMinus = tt
plain_if p.ShiftLeft = tt
plain_if p.ShiftRight = tt
plain_if p.LessEqual = tt
plain_if p.GreaterEqual = tt
plain_if p.EqualEqual = tt
plain_if p.BangEqual = tt
plain_if p.AmpAmp = tt
plain_if p.BarBar = tt
plain_if p.PlusEqual = refl
plain_if p.MinusEqual = refl
plain_if p.StarEqual = refl
plain_if p.SlashEqual = refl
plain_if p.PercentEqual = refl
plain_if p.AmpEqual = refl
plain_if p.BarEqual = refl
plain_if p.CaretEqual = refl
plain_if p.ShiftLeftEqual = refl
plain_if p.ShiftRightEqual = refl
plain_if p.HashHash = tt
plain_if p.Hash = tt

plain : (punct : Punct) (op : Option Binary) → assignment_of punct ≡ Some op → IsPlain op
plain punct op e = subst PlainIf e (plain_if punct)

-- ---- expressions

abbrev TargetWritten : TargetTree → Type 0
TargetWritten (tree.target text subscripts at) = AreWritten subscripts

assign_written : (target : TargetTree) (op : Option Binary) (value : Tree) (at : _) → IsPlain op → TargetWritten target → IsWritten value → IsWritten (tree.assign target op value at)
assign_written (tree.target text subscripts place) op value at o t v = (o, t, v)

bump_written : (target : TargetTree) (up post : _) (at : _) → TargetWritten target → IsWritten (tree.bump target up post at)
bump_written (tree.target text subscripts place) up post at t = t

mutual
  written : {n : _} {ts : List Terminal} {e : Tree} → Derives n ts e → NumbersFit ts → IsWritten e
  written (g.a_number value kind at) h = h.0
  written (g.a_name text at k) h = tt
  written (g.an_element text at ts first rest k d) h = (tt, subscripts_written d h.1)
  written (g.a_call callee at opens closes ts args k d) h = arguments_written d (front ts _ h.1.1)
  written (g.a_group opens closes ts inner d) h = written d (front ts _ h.1)
  written (g.a_bump_behind punct up at ts place e d) h = bump_written place up _ at (target_written d (front ts _ h))
  written (g.a_prefix punct op at ts arg e d) h = written d h.1
  written (g.a_bump_before punct up at ts place e d) h = bump_written place up _ at (target_written d h.1)
  written (g.a_cast at closes ks ts kind constant arg k d) h = written d (back ks _ h.1).1
  written (g.an_operator punct op at n ls rs left right e l a b) h = (written a (front ls _ h), written b (back ls _ h).1)
  written (g.a_choice at colon ts ys ns test left right a b c) h = (written a (front ts _ h), written b (front ys _ (back ts _ h).1), written c (back ys _ (back ts _ h).1).1)
  written (g.an_assignment punct op at ts vs place value e a b) h = assign_written place op value at (plain punct op e) (target_written a (front ts _ h)) (written b (back ts _ h).1)
  written (g.a_comma at ls rs left right a b) h = (written a (front ls _ h), written b (back ls _ h).1)
  written (g.a_tighter n ts inner d) h = written d h

  target_written : {ts : List Terminal} {target : TargetTree} → DerivesTarget ts target → NumbersFit ts → TargetWritten target
  target_written (g.a_target text at ts subscripts k d) h = subscripts_written d h.1

  subscripts_written : {ts : List Terminal} {es : Trees} → DerivesSubscripts ts es → NumbersFit ts → AreWritten es
  subscripts_written g.no_subscript h = tt
  subscripts_written (g.a_subscript opens closes ts us first rest a b) h = (written a (front ts _ h.1), subscripts_written b (back ts _ h.1).1)

  arguments_written : {ts : List Terminal} {es : Trees} → DerivesArguments ts es → NumbersFit ts → AreWritten es
  arguments_written g.no_argument h = tt
  arguments_written (g.arguments ts args d) h = list_written d h

  list_written : {ts : List Terminal} {es : Trees} → DerivesList ts es → NumbersFit ts → AreWritten es
  list_written (g.last ts arg d) h = (written d h, tt)
  list_written (g.and_more at ts us arg args a b) h = (written a (front ts _ h), list_written b (back ts _ h).1)

option_written : {n : _} {ts : List Terminal} {q : Option Tree} → DerivesOptional n ts q → NumbersFit ts → OptionWritten q
option_written (g.absent n) h = tt
option_written (g.present n ts inner d) h = written d h

-- ---- actions

change_written : {ts : List Terminal} {a : ActionTree} → DerivesChange ts a → NumbersFit ts → ActionsWritten (a ∷ [])
change_written (g.assigned punct op at ts vs place value e a b) h = (assign_written place op value at (plain punct op e) (target_written a (front ts _ h)) (written b (back ts _ h).1), tt)
change_written (g.bumped_behind punct up at ts place e d) h = (bump_written place up _ at (target_written d (front ts _ h)), tt)
change_written (g.bumped_before punct up at ts place e d) h = (bump_written place up _ at (target_written d h.1), tt)

action_written : {ts : List Terminal} {a : ActionTree} → DerivesAction ts a → NumbersFit ts → ActionsWritten (a ∷ [])
action_written (g.a_change ts action d) h = change_written d h
action_written (g.a_value ts value none d) h = (written d h, tt)

action_list_written : {ts : List Terminal} {all : List ActionTree} → DerivesActionList ts all → NumbersFit ts → ActionsWritten all
action_list_written (g.last_action ts action d) h = action_written d h
action_list_written (g.more_actions at ts us action rest a b) h = ((action_written a (front ts _ h)).0, action_list_written b (back ts _ h).1)

actions_written : {ts : List Terminal} {all : List ActionTree} → DerivesActions ts all → NumbersFit ts → ActionsWritten all
actions_written g.no_action h = tt
actions_written (g.actions ts all d) h = action_list_written d h

-- ---- declarations

mutual
  init_written : {ts : List Terminal} {init : InitTree} → DerivesInit ts init → NumbersFit ts → InitWritten init
  init_written (g.a_single ts value d) h = written d h
  init_written (g.a_braced at closes ts items d) h = inits_written d (front ts _ h.1)

  inits_written : {ts : List Terminal} {inits : InitTrees} → DerivesInits ts inits → NumbersFit ts → InitsWritten inits
  inits_written (g.last_init ts init d) h = (init_written d h, tt)
  inits_written (g.last_init_comma at ts init d) h = (init_written d (front ts _ h), tt)
  inits_written (g.another_init at ts us init inits a b) h = (init_written a (front ts _ h), inits_written b (back ts _ h).1)

initialiser_written : {ts : List Terminal} {q : Option InitTree} → DerivesInitialiser ts q → NumbersFit ts → OptionInitWritten q
initialiser_written g.no_initialiser h = tt
initialiser_written (g.an_initialiser at ts init d) h = init_written d h.1

object_written : {kind : CType} {constant : _} {ts : List Terminal} {o : ObjectTree} → DerivesObject kind constant ts o → NumbersFit ts → OptionInitWritten o.init
object_written (g.an_object kind constant text at ts us lengths init k l d) h = initialiser_written d (back ts _ h.1)

objects_written : {kind : CType} {constant : _} {ts : List Terminal} {os : List ObjectTree} → DerivesObjects kind constant ts os → NumbersFit ts → ObjectsWritten os
objects_written (g.last_object kind constant ts object d) h = (object_written d h, tt)
objects_written (g.more_objects kind constant at ts us object rest a b) h = (object_written a (front ts _ h), objects_written b (back ts _ h).1)

declaration_written : {ts : List Terminal} {os : List ObjectTree} → DerivesDeclaration ts os → NumbersFit ts → ObjectsWritten os
declaration_written (g.a_declaration kind constant ks ts objects ends k d) h = objects_written d (front ts _ (back ks _ h))

-- ---- statements

first_written : {ts : List Terminal} {init : FirstTree} → DerivesFirst ts init → NumbersFit ts → HeadWritten init
first_written (g.nothing_first ends) h = tt
first_written (g.actions_first ends ts all d) h = action_list_written d (front ts _ h)
first_written (g.objects_first ts all d) h = declaration_written d h

mutual
  statement_written : {ts : List Terminal} {stmt : StmtTree} → DerivesStatement ts stmt → NumbersFit ts → StmtWritten stmt
  statement_written (g.a_block ts body b) h = block_written b h
  statement_written (g.an_act ends ts all a) h = actions_written a (front ts _ h)
  statement_written (g.an_if at opens closes ts ys test body t b) h = (written t (front ts _ h.1.1), statement_written b (back ts _ h.1.1).1, tt)
  statement_written (g.an_if_else at opens closes other ts ys ns test body second t b open_ s) h =
      let rest = (back ts _ h.1.1).1 in
      (written t (front ts _ h.1.1), statement_written b (front ys _ rest), statement_written s (back ys _ rest).1)
  statement_written (g.a_switch at opens closes ts us test body t b) h = (written t (front ts _ h.1.1), block_written b (back ts _ h.1.1).1)
  statement_written (g.a_case at colon ts us value body v b) h = statement_written b (back ts _ h.1).1
  statement_written (g.a_default at colon us body b) h = statement_written b h.1.1
  statement_written (g.a_while at opens closes ts us test body t b) h = (written t (front ts _ h.1.1), statement_written b (back ts _ h.1.1).1)
  statement_written (g.a_do at again opens closes ends us ts body test b t) h = (written t (front ts _ (back us _ h.1).1.1), statement_written b (front us _ h.1))
  statement_written (g.a_for at opens ends closes is ts ss us init test step body i t s b) h =
      let head = front (is ++ (ts ++ _ ∷ ss)) _ h.1.1 in
      let tail = back is _ head in
      (first_written i (front is _ head), option_written t (front ts _ tail), actions_written s (back ts _ tail).1, statement_written b (back (is ++ (ts ++ _ ∷ ss)) _ h.1.1).1)
  statement_written (g.a_break at ends) h = tt
  statement_written (g.a_continue at ends) h = tt
  statement_written (g.a_return at ends ts value v) h = option_written v (front ts _ h.1)

  block_written : {ts : List Terminal} {body : StmtTrees} → DerivesBlock ts body → NumbersFit ts → StmtsWritten body
  block_written (g.braces opens closes ts body b) h = body_written b (front ts _ h.1)

  body_written : {ts : List Terminal} {body : StmtTrees} → DerivesBody ts body → NumbersFit ts → StmtsWritten body
  body_written g.nothing h = tt
  body_written (g.a_statement ts us stmt rest s r) h = (statement_written s (front ts _ h), body_written r (back ts _ h))
  body_written (g.local_objects ts us all rest d r) h = (declaration_written d (front ts _ h), body_written r (back ts _ h))

-- ---- programs

definition_written : {ts : List Terminal} {body : Option StmtTrees} → DerivesDefinition ts body → NumbersFit ts → BodyWritten body
definition_written (g.declared_only ends) h = tt
definition_written (g.defined ts body b) h = block_written b h

item_written : {ts : List Terminal} {item : ItemTree} → DerivesItem ts item → NumbersFit ts → ItemWritten item
item_written (g.a_static at ts item i) h = item_written i h.1
item_written (g.an_inline at ts item i) h = item_written i h.1
item_written (g.some_objects ts all d) h = tt
item_written (g.a_function result constant ks ps bs text at opens closes all body k word_ ps_ d) h = definition_written d (back ps _ (back ks _ h).1.1).1

items_written : {ts : List Terminal} {items : List ItemTree} → DerivesItems ts items → NumbersFit ts → Each ItemWritten items
items_written g.no_item h = tt
items_written (g.more_items ts us item rest i r) h = (item_written i (front ts _ h), items_written r (back ts _ h))

pub program_written : (tokens : List Terminal) (end : _) (q : ProgramTree) → NumbersFit tokens → DerivesProgram tokens end q → ProgramWritten q
program_written tokens end q h d = items_written d.0 h
