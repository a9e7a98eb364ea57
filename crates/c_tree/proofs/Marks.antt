-- Each token of a derivation has one mark.
use Rattle.std.proofs.Common.{ℕ, suc, Bool, true, false, List, [], ◌∷◌, ◌++◌, Option}
use Rattle.std.specs.Prelude.{nat_le, if◌then◌else◌}
use Rattle.c_token.specs.declared.ctype.CType.{CType}
use Rattle.c_tree.specs.Tree.{Tree, TargetTree, Trees, ActionTree, InitTree, InitTrees, ObjectTree, StmtTree, FirstTree, StmtTrees, ParamTree, ItemTree}
use Rattle.c_tree.specs.Terminals.{Terminal}
use Rattle.c_tree.specs.Grammar as g
use Rattle.c_tree.specs.Grammar.{Derives, DerivesTarget, DerivesSubscripts, DerivesArguments, DerivesList, DerivesOptional, DerivesChange, DerivesAction, DerivesActionList, DerivesActions, DerivesInit, DerivesInits, DerivesInitialiser, DerivesLengths, DerivesObject, DerivesObjects, DerivesDeclaration, DerivesStatement, DerivesFirst, DerivesBlock, DerivesBody, DerivesParam, DerivesParamList, DerivesParams, DerivesDefinition, DerivesItem, DerivesItems}
use Rattle.c_tree.specs.Limits.{Mark, plain, closing, deeper, inside, held, pair, operator_limit, counted, whole, flat, marks, target_marks, subscript_marks, argument_marks, list_marks, optional_marks, change_marks, action_marks, action_list_marks, actions_marks, init_marks, inits_marks, initialiser_marks, length_marks, object_marks, objects_marks, declaration_marks, statement_marks, first_marks, block_marks, body_marks, param_marks, param_list_marks, params_marks, definition_marks, item_marks, item_list_marks}

pub data Beside : List Mark → List Terminal → Type 0 where
  nil : Beside [] []
  one : (m : Mark) (t : Terminal) (ms : List Mark) (ts : List Terminal) → Beside ms ts → Beside (m ∷ ms) (t ∷ ts)

put : {m : Mark} {t : Terminal} {ms : List Mark} {ts : List Terminal} → Beside ms ts → Beside (m ∷ ms) (t ∷ ts)
put b = one _ _ _ _ b

join : {ms ns : List Mark} {ts us : List Terminal} → Beside ms ts → Beside ns us → Beside (ms ++ ns) (ts ++ us)
join nil c = c
join (one m t ms ts b) c = put (join b c)

inside_beside : {ms : List Mark} {ts : List Terminal} → Beside ms ts → Beside (inside ms) ts
inside_beside nil = nil
inside_beside (one m t ms ts b) = put (inside_beside b)

held_beside : {ms : List Mark} {ts : List Terminal} → Beside ms ts → Beside (held ms) ts
held_beside nil = nil
held_beside (one m t ms ts b) = put (inside_beside b)

either_way : (b : Bool) (x y : Mark) (xs ys : List Mark) {t : Terminal} {ts : List Terminal} → Beside xs ts → Beside ys ts → Beside (if b then x ∷ xs else (y ∷ ys)) (t ∷ ts)
either_way true x y xs ys c d = put c
either_way false x y xs ys c d = put d

counted_beside : (n : ℕ) {ms : List Mark} {ts : List Terminal} → Beside ms ts → Beside (counted n ms) ts
counted_beside n nil = nil
counted_beside n (one m t ms ts b) =
    either_way m.counts (record m { counts = false; surplus = nat_le operator_limit n }) m (counted (suc n) ms) (counted n ms) (counted_beside (suc n) b) (counted_beside n b)

whole_beside : {ms : List Mark} {ts : List Terminal} → Beside ms ts → Beside (whole ms) ts
whole_beside b = counted_beside 0 b

pair_beside : {o : Terminal} (c : Terminal) {ms ns : List Mark} {ts us : List Terminal} → Beside ms ts → Beside ns us → Beside (pair ms ns) (o ∷ (ts ++ c ∷ us))
pair_beside c b d = put (join (inside_beside b) (one closing c _ _ d))

flat_beside : (ts : List Terminal) → Beside (flat ts) ts
flat_beside [] = nil
flat_beside (t ∷ ts) = put (flat_beside ts)

mutual
  pub marks_beside : {n : ℕ} {ts : List Terminal} {e : Tree} (d : Derives n ts e) → Beside (marks d) ts
  marks_beside (g.a_number _ _ _) = put nil
  marks_beside (g.a_name _ _ _) = put nil
  marks_beside (g.an_element _ _ _ _ _ _ d) = put (subscripts_beside d)
  marks_beside (g.a_call _ _ _ _ _ _ _ d) = put (pair_beside _ (arguments_beside d) nil)
  marks_beside (g.a_group _ _ _ _ d) = pair_beside _ (whole_beside (marks_beside d)) nil
  marks_beside (g.a_bump_behind _ _ _ _ _ _ d) = join (target_beside d) (put nil)
  marks_beside (g.a_prefix _ _ _ _ _ _ d) = put (inside_beside (marks_beside d))
  marks_beside (g.a_bump_before _ _ _ _ _ _ d) = put (inside_beside (target_beside d))
  marks_beside (g.a_cast _ _ ks _ _ _ _ _ d) = pair_beside _ (flat_beside ks) (inside_beside (marks_beside d))
  marks_beside (g.an_operator _ _ _ _ _ _ _ _ _ _ d e) = join (marks_beside d) (put (marks_beside e))
  marks_beside (g.a_choice _ _ _ _ _ _ _ _ d e f) = join (held_beside (marks_beside d)) (put (join (inside_beside (marks_beside e)) (put (inside_beside (marks_beside f)))))
  marks_beside (g.an_assignment _ _ _ _ _ _ _ _ d e) = join (target_beside d) (put (marks_beside e))
  marks_beside (g.a_comma _ _ _ _ _ d e) = join (marks_beside d) (put (marks_beside e))
  marks_beside (g.a_tighter _ _ _ d) = marks_beside d

  pub target_beside : {ts : List Terminal} {target : TargetTree} (d : DerivesTarget ts target) → Beside (target_marks d) ts
  target_beside (g.a_target _ _ _ _ _ d) = put (subscripts_beside d)

  pub subscripts_beside : {ts : List Terminal} {es : Trees} (d : DerivesSubscripts ts es) → Beside (subscript_marks d) ts
  subscripts_beside g.no_subscript = nil
  subscripts_beside (g.a_subscript _ _ _ _ _ _ d ds) = pair_beside _ (whole_beside (marks_beside d)) (subscripts_beside ds)

  pub arguments_beside : {ts : List Terminal} {es : Trees} (d : DerivesArguments ts es) → Beside (argument_marks d) ts
  arguments_beside g.no_argument = nil
  arguments_beside (g.arguments _ _ ds) = list_beside ds

  pub list_beside : {ts : List Terminal} {es : Trees} (d : DerivesList ts es) → Beside (list_marks d) ts
  list_beside (g.last _ _ d) = whole_beside (marks_beside d)
  list_beside (g.and_more _ _ _ _ _ d ds) = join (whole_beside (marks_beside d)) (put (list_beside ds))

optional_beside : {n : ℕ} {ts : List Terminal} {e : Option Tree} (d : DerivesOptional n ts e) → Beside (optional_marks d) ts
optional_beside (g.absent _) = nil
optional_beside (g.present _ _ _ d) = whole_beside (marks_beside d)

change_beside : {ts : List Terminal} {a : ActionTree} (d : DerivesChange ts a) → Beside (change_marks d) ts
change_beside (g.assigned _ _ _ _ _ _ _ _ d e) = join (target_beside d) (put (whole_beside (marks_beside e)))
change_beside (g.bumped_behind _ _ _ _ _ _ d) = join (target_beside d) (put nil)
change_beside (g.bumped_before _ _ _ _ _ _ d) = put (target_beside d)

action_beside : {ts : List Terminal} {a : ActionTree} (d : DerivesAction ts a) → Beside (action_marks d) ts
action_beside (g.a_change _ _ d) = change_beside d
action_beside (g.a_value _ _ _ d) = whole_beside (marks_beside d)

action_list_beside : {ts : List Terminal} {all : List ActionTree} (d : DerivesActionList ts all) → Beside (action_list_marks d) ts
action_list_beside (g.last_action _ _ d) = action_beside d
action_list_beside (g.more_actions _ _ _ _ _ d ds) = join (action_beside d) (put (action_list_beside ds))

actions_beside : {ts : List Terminal} {all : List ActionTree} (d : DerivesActions ts all) → Beside (actions_marks d) ts
actions_beside g.no_action = nil
actions_beside (g.actions _ _ ds) = action_list_beside ds

mutual
  init_beside : {ts : List Terminal} {init : InitTree} (d : DerivesInit ts init) → Beside (init_marks d) ts
  init_beside (g.a_single _ _ d) = whole_beside (marks_beside d)
  init_beside (g.a_braced _ _ _ _ ds) = pair_beside _ (inits_beside ds) nil

  inits_beside : {ts : List Terminal} {inits : InitTrees} (d : DerivesInits ts inits) → Beside (inits_marks d) ts
  inits_beside (g.last_init _ _ d) = init_beside d
  inits_beside (g.last_init_comma _ _ _ d) = join (init_beside d) (put nil)
  inits_beside (g.another_init _ _ _ _ _ d ds) = join (init_beside d) (put (inits_beside ds))

initialiser_beside : {ts : List Terminal} {init : Option InitTree} (d : DerivesInitialiser ts init) → Beside (initialiser_marks d) ts
initialiser_beside g.no_initialiser = nil
initialiser_beside (g.an_initialiser _ _ _ d) = put (init_beside d)

lengths_beside : {ts : List Terminal} {lengths : List (Option Tree)} (d : DerivesLengths ts lengths) → Beside (length_marks d) ts
lengths_beside g.no_length = nil
lengths_beside (g.a_length _ _ _ _ _ _ d ds) = pair_beside _ (optional_beside d) (lengths_beside ds)

object_beside : {kind : CType} {constant : Bool} {ts : List Terminal} {object : ObjectTree} (d : DerivesObject kind constant ts object) → Beside (object_marks d) ts
object_beside (g.an_object _ _ _ _ _ _ _ _ _ d e) = put (join (lengths_beside d) (initialiser_beside e))

objects_beside : {kind : CType} {constant : Bool} {ts : List Terminal} {all : List ObjectTree} (d : DerivesObjects kind constant ts all) → Beside (objects_marks d) ts
objects_beside (g.last_object _ _ _ _ d) = object_beside d
objects_beside (g.more_objects _ _ _ _ _ _ _ d ds) = join (object_beside d) (put (objects_beside ds))

declaration_beside : {ts : List Terminal} {all : List ObjectTree} (d : DerivesDeclaration ts all) → Beside (declaration_marks d) ts
declaration_beside (g.a_declaration _ _ ks _ _ _ _ d) = join (flat_beside ks) (join (objects_beside d) (put nil))

mutual
  statement_beside : {ts : List Terminal} {stmt : StmtTree} (d : DerivesStatement ts stmt) → Beside (statement_marks d) ts
  statement_beside (g.a_block _ _ d) = held_beside (block_beside d)
  statement_beside (g.an_act _ _ _ d) = held_beside (join (actions_beside d) (put nil))
  statement_beside (g.an_if _ _ _ _ _ _ _ d e) = held_beside (put (pair_beside _ (whole_beside (marks_beside d)) (statement_beside e)))
  statement_beside (g.an_if_else _ _ _ _ _ _ _ _ _ _ d e _ f) =
      held_beside (put (pair_beside _ (whole_beside (marks_beside d)) (join (statement_beside e) (put (statement_beside f)))))
  statement_beside (g.a_switch _ _ _ _ _ _ _ d e) = held_beside (put (pair_beside _ (whole_beside (marks_beside d)) (held_beside (block_beside e))))
  statement_beside (g.a_case _ _ _ _ _ _ d e) = held_beside (put (join (whole_beside (marks_beside d)) (put (statement_beside e))))
  statement_beside (g.a_default _ _ _ _ d) = held_beside (put (put (statement_beside d)))
  statement_beside (g.a_while _ _ _ _ _ _ _ d e) = held_beside (put (pair_beside _ (whole_beside (marks_beside d)) (statement_beside e)))
  statement_beside (g.a_do _ _ _ _ _ _ _ _ _ d e) = held_beside (put (join (statement_beside d) (put (pair_beside _ (whole_beside (marks_beside e)) (put nil)))))
  statement_beside (g.a_for _ _ _ _ _ _ _ _ _ _ _ _ d e f b) =
      held_beside (put (pair_beside _ (join (first_beside d) (join (optional_beside e) (put (actions_beside f)))) (statement_beside b)))
  statement_beside (g.a_break _ _) = held_beside (put (put nil))
  statement_beside (g.a_continue _ _) = held_beside (put (put nil))
  statement_beside (g.a_return _ _ _ _ d) = held_beside (put (join (optional_beside d) (put nil)))

  first_beside : {ts : List Terminal} {first : FirstTree} (d : DerivesFirst ts first) → Beside (first_marks d) ts
  first_beside (g.nothing_first _) = put nil
  first_beside (g.actions_first _ _ _ d) = join (action_list_beside d) (put nil)
  first_beside (g.objects_first _ _ d) = declaration_beside d

  block_beside : {ts : List Terminal} {body : StmtTrees} (d : DerivesBlock ts body) → Beside (block_marks d) ts
  block_beside (g.braces _ _ _ _ d) = put (join (body_beside d) (put nil))

  body_beside : {ts : List Terminal} {body : StmtTrees} (d : DerivesBody ts body) → Beside (body_marks d) ts
  body_beside g.nothing = nil
  body_beside (g.a_statement _ _ _ _ d ds) = join (statement_beside d) (body_beside ds)
  body_beside (g.local_objects _ _ _ _ d ds) = join (declaration_beside d) (body_beside ds)

param_beside : {ts : List Terminal} {param : ParamTree} (d : DerivesParam ts param) → Beside (param_marks d) ts
param_beside (g.named_param _ _ ks _ _ _ _ _ _ d) = join (flat_beside ks) (put (lengths_beside d))
param_beside (g.unnamed_param _ _ _ ks _ _ _ d) = put (join (flat_beside ks) (lengths_beside d))

param_list_beside : {ts : List Terminal} {all : List ParamTree} (d : DerivesParamList ts all) → Beside (param_list_marks d) ts
param_list_beside (g.last_param _ _ d) = param_beside d
param_list_beside (g.more_params _ _ _ _ _ d ds) = join (param_beside d) (put (param_list_beside ds))

params_beside : {ts : List Terminal} {all : List ParamTree} (d : DerivesParams ts all) → Beside (params_marks d) ts
params_beside g.no_param = nil
params_beside (g.void_alone _) = put nil
params_beside (g.params _ _ d) = param_list_beside d

definition_beside : {ts : List Terminal} {body : Option StmtTrees} (d : DerivesDefinition ts body) → Beside (definition_marks d) ts
definition_beside (g.declared_only _) = put nil
definition_beside (g.defined _ _ d) = block_beside d

item_beside : {ts : List Terminal} {item : ItemTree} (d : DerivesItem ts item) → Beside (item_marks d) ts
item_beside (g.a_static _ _ _ d) = put (item_beside d)
item_beside (g.an_inline _ _ _ d) = put (item_beside d)
item_beside (g.some_objects _ _ d) = declaration_beside d
item_beside (g.a_function _ _ ks _ _ _ _ _ _ _ _ _ _ d e) = join (flat_beside ks) (put (pair_beside _ (params_beside d) (definition_beside e)))

pub items_beside : {ts : List Terminal} {all : List ItemTree} (d : DerivesItems ts all) → Beside (item_list_marks d) ts
items_beside g.no_item = nil
items_beside (g.more_items _ _ _ _ d ds) = join (item_beside d) (items_beside ds)
