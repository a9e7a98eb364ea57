-- How deep the constructs of a program nest, and how many binary operators its expressions have. The limits of C11 5.2.4.1 are given there as minima; this compiler has its own.
use Rattle.std.specs.Prelude.{ℕ, zero, suc, nat_le, nat_lt, ◌||◌, Bool, true, false, List, [], ◌∷◌, ◌++◌, Option, map, if◌then◌else◌}
use Rattle.c_tree.specs.Tree.{Tree, TargetTree, Trees, ActionTree, InitTree, InitTrees, ObjectTree, StmtTree, FirstTree, StmtTrees, ParamTree, ItemTree}
use Rattle.c_token.specs.declared.ctype.CType.{CType}
use Rattle.c_tree.specs.Terminals.{Terminal}
use Rattle.c_tree.specs.Grammar as g
use Rattle.c_tree.specs.Grammar.{Derives, DerivesTarget, DerivesSubscripts, DerivesArguments, DerivesList, DerivesOptional, DerivesChange, DerivesAction, DerivesActionList, DerivesActions, DerivesInit, DerivesInits, DerivesInitialiser, DerivesLengths, DerivesObject, DerivesObjects, DerivesDeclaration, DerivesStatement, DerivesFirst, DerivesBlock, DerivesBody, DerivesParam, DerivesParamList, DerivesParams, DerivesDefinition, DerivesItem, DerivesItems}

-- What is counted at a token: the constructs that hold it, those that are open just before it, whether it is a binary operator of the expression at hand, and whether it is one too many in its expression.
pub record Mark : Type 0 where
  pub nesting : ℕ
  pub open_before : ℕ
  pub counts : Bool
  pub surplus : Bool

abbrev pub plain : Mark
plain = record { nesting = 0; open_before = 0; counts = false; surplus = false }

abbrev pub operator : Mark
operator = record { nesting = 0; open_before = 0; counts = true; surplus = false }

-- the end of a pair, which the pair does not hold
abbrev pub closing : Mark
closing = record { nesting = 0; open_before = 1; counts = false; surplus = false }

abbrev pub deeper : Mark → Mark
deeper m = record m { nesting = suc m.nesting; open_before = suc m.open_before }

-- behind what opens a construct
abbrev pub inside : List Mark → List Mark
inside ms = map deeper ms

-- a construct that opens with its own first token
abbrev pub held : List Mark → List Mark
held [] = []
held (m ∷ ms) = record m { nesting = suc m.nesting } ∷ inside ms

-- parentheses, brackets or braces, and what follows them
abbrev pub pair : List Mark → List Mark → List Mark
pair ms rest = plain ∷ (inside ms ++ closing ∷ rest)

abbrev pub operator_limit : ℕ
operator_limit = 256

-- a whole expression: its operators behind so many are counted here, and not in what it stands in
abbrev pub counted : ℕ → List Mark → List Mark
counted n [] = []
counted n (m ∷ ms) =
    if m.counts then record m { counts = false; surplus = nat_le operator_limit n } ∷ counted (suc n) ms
    else (m ∷ counted n ms)

abbrev pub whole : List Mark → List Mark
whole ms = counted 0 ms

-- tokens that are held by nothing of their own
abbrev pub flat : List Terminal → List Mark
flat ts = map (λ t. plain) ts

abbrev mutual
  -- Prefix operators, casts and the operands of `?:` hold the tokens of their operands. An assignment operator and a comma of an expression count as binary operators.
  pub marks : {n : ℕ} {ts : List Terminal} {e : Tree} → Derives n ts e → List Mark
  marks (g.a_number _ _ _) = plain ∷ []
  marks (g.a_name _ _ _) = plain ∷ []
  marks (g.an_element _ _ _ _ _ _ d) = plain ∷ subscript_marks d
  marks (g.a_call _ _ _ _ _ _ _ d) = plain ∷ pair (argument_marks d) []
  marks (g.a_group _ _ _ _ d) = pair (whole (marks d)) []
  marks (g.a_bump_behind _ _ _ _ _ _ d) = target_marks d ++ plain ∷ []
  marks (g.a_prefix _ _ _ _ _ _ d) = plain ∷ inside (marks d)
  marks (g.a_bump_before _ _ _ _ _ _ d) = plain ∷ inside (target_marks d)
  marks (g.a_cast _ _ ks _ _ _ _ _ d) = pair (flat ks) (inside (marks d))
  marks (g.an_operator _ _ _ _ _ _ _ _ _ _ d e) = marks d ++ operator ∷ marks e
  marks (g.a_choice _ _ _ _ _ _ _ _ d e f) = held (marks d) ++ plain ∷ (inside (marks e) ++ plain ∷ inside (marks f))
  marks (g.an_assignment _ _ _ _ _ _ _ _ d e) = target_marks d ++ operator ∷ marks e
  marks (g.a_comma _ _ _ _ _ d e) = marks d ++ operator ∷ marks e
  marks (g.a_tighter _ _ _ d) = marks d

  pub target_marks : {ts : List Terminal} {target : TargetTree} → DerivesTarget ts target → List Mark
  target_marks (g.a_target _ _ _ _ _ d) = plain ∷ subscript_marks d

  pub subscript_marks : {ts : List Terminal} {es : Trees} → DerivesSubscripts ts es → List Mark
  subscript_marks g.no_subscript = []
  subscript_marks (g.a_subscript _ _ _ _ _ _ d ds) = pair (whole (marks d)) (subscript_marks ds)

  pub argument_marks : {ts : List Terminal} {es : Trees} → DerivesArguments ts es → List Mark
  argument_marks g.no_argument = []
  argument_marks (g.arguments _ _ ds) = list_marks ds

  pub list_marks : {ts : List Terminal} {es : Trees} → DerivesList ts es → List Mark
  list_marks (g.last _ _ d) = whole (marks d)
  list_marks (g.and_more _ _ _ _ _ d ds) = whole (marks d) ++ plain ∷ list_marks ds

abbrev pub optional_marks : {n : ℕ} {ts : List Terminal} {e : Option Tree} → DerivesOptional n ts e → List Mark
optional_marks (g.absent _) = []
optional_marks (g.present _ _ _ d) = whole (marks d)

-- The operator of an action is none of an expression.
abbrev pub change_marks : {ts : List Terminal} {a : ActionTree} → DerivesChange ts a → List Mark
change_marks (g.assigned _ _ _ _ _ _ _ _ d e) = target_marks d ++ plain ∷ whole (marks e)
change_marks (g.bumped_behind _ _ _ _ _ _ d) = target_marks d ++ plain ∷ []
change_marks (g.bumped_before _ _ _ _ _ _ d) = plain ∷ target_marks d

abbrev pub action_marks : {ts : List Terminal} {a : ActionTree} → DerivesAction ts a → List Mark
action_marks (g.a_change _ _ d) = change_marks d
action_marks (g.a_value _ _ _ d) = whole (marks d)

abbrev pub action_list_marks : {ts : List Terminal} {all : List ActionTree} → DerivesActionList ts all → List Mark
action_list_marks (g.last_action _ _ d) = action_marks d
action_list_marks (g.more_actions _ _ _ _ _ d ds) = action_marks d ++ plain ∷ action_list_marks ds

abbrev pub actions_marks : {ts : List Terminal} {all : List ActionTree} → DerivesActions ts all → List Mark
actions_marks g.no_action = []
actions_marks (g.actions _ _ ds) = action_list_marks ds

abbrev mutual
  pub init_marks : {ts : List Terminal} {init : InitTree} → DerivesInit ts init → List Mark
  init_marks (g.a_single _ _ d) = whole (marks d)
  init_marks (g.a_braced _ _ _ _ ds) = pair (inits_marks ds) []

  pub inits_marks : {ts : List Terminal} {inits : InitTrees} → DerivesInits ts inits → List Mark
  inits_marks (g.last_init _ _ d) = init_marks d
  inits_marks (g.last_init_comma _ _ _ d) = init_marks d ++ plain ∷ []
  inits_marks (g.another_init _ _ _ _ _ d ds) = init_marks d ++ plain ∷ inits_marks ds

abbrev pub initialiser_marks : {ts : List Terminal} {init : Option InitTree} → DerivesInitialiser ts init → List Mark
initialiser_marks g.no_initialiser = []
initialiser_marks (g.an_initialiser _ _ _ d) = plain ∷ init_marks d

abbrev pub length_marks : {ts : List Terminal} {lengths : List (Option Tree)} → DerivesLengths ts lengths → List Mark
length_marks g.no_length = []
length_marks (g.a_length _ _ _ _ _ _ d ds) = pair (optional_marks d) (length_marks ds)

abbrev pub object_marks : {kind : CType} {constant : Bool} {ts : List Terminal} {object : ObjectTree} → DerivesObject kind constant ts object → List Mark
object_marks (g.an_object _ _ _ _ _ _ _ _ _ d e) = plain ∷ (length_marks d ++ initialiser_marks e)

abbrev pub objects_marks : {kind : CType} {constant : Bool} {ts : List Terminal} {all : List ObjectTree} → DerivesObjects kind constant ts all → List Mark
objects_marks (g.last_object _ _ _ _ d) = object_marks d
objects_marks (g.more_objects _ _ _ _ _ _ _ d ds) = object_marks d ++ plain ∷ objects_marks ds

-- A declaration is no statement.
abbrev pub declaration_marks : {ts : List Terminal} {all : List ObjectTree} → DerivesDeclaration ts all → List Mark
declaration_marks (g.a_declaration _ _ ks _ _ _ _ d) = flat ks ++ (objects_marks d ++ plain ∷ [])

abbrev mutual
  -- A statement holds all its tokens, and the block of a `switch` is one.
  pub statement_marks : {ts : List Terminal} {stmt : StmtTree} → DerivesStatement ts stmt → List Mark
  statement_marks (g.a_block _ _ d) = held (block_marks d)
  statement_marks (g.an_act _ _ _ d) = held (actions_marks d ++ plain ∷ [])
  statement_marks (g.an_if _ _ _ _ _ _ _ d e) = held (plain ∷ pair (whole (marks d)) (statement_marks e))
  statement_marks (g.an_if_else _ _ _ _ _ _ _ _ _ _ d e _ f) = held (plain ∷ pair (whole (marks d)) (statement_marks e ++ plain ∷ statement_marks f))
  statement_marks (g.a_switch _ _ _ _ _ _ _ d e) = held (plain ∷ pair (whole (marks d)) (held (block_marks e)))
  statement_marks (g.a_case _ _ _ _ _ _ d e) = held (plain ∷ (whole (marks d) ++ plain ∷ statement_marks e))
  statement_marks (g.a_default _ _ _ _ d) = held (plain ∷ plain ∷ statement_marks d)
  statement_marks (g.a_while _ _ _ _ _ _ _ d e) = held (plain ∷ pair (whole (marks d)) (statement_marks e))
  statement_marks (g.a_do _ _ _ _ _ _ _ _ _ d e) = held (plain ∷ (statement_marks d ++ plain ∷ pair (whole (marks e)) (plain ∷ [])))
  statement_marks (g.a_for _ _ _ _ _ _ _ _ _ _ _ _ d e f b) =
      held (plain ∷ pair (first_marks d ++ (optional_marks e ++ plain ∷ actions_marks f)) (statement_marks b))
  statement_marks (g.a_break _ _) = held (plain ∷ plain ∷ [])
  statement_marks (g.a_continue _ _) = held (plain ∷ plain ∷ [])
  statement_marks (g.a_return _ _ _ _ d) = held (plain ∷ (optional_marks d ++ plain ∷ []))

  pub first_marks : {ts : List Terminal} {first : FirstTree} → DerivesFirst ts first → List Mark
  first_marks (g.nothing_first _) = plain ∷ []
  first_marks (g.actions_first _ _ _ d) = action_list_marks d ++ plain ∷ []
  first_marks (g.objects_first _ _ d) = declaration_marks d

  pub block_marks : {ts : List Terminal} {body : StmtTrees} → DerivesBlock ts body → List Mark
  block_marks (g.braces _ _ _ _ d) = plain ∷ (body_marks d ++ plain ∷ [])

  pub body_marks : {ts : List Terminal} {body : StmtTrees} → DerivesBody ts body → List Mark
  body_marks g.nothing = []
  body_marks (g.a_statement _ _ _ _ d ds) = statement_marks d ++ body_marks ds
  body_marks (g.local_objects _ _ _ _ d ds) = declaration_marks d ++ body_marks ds

abbrev pub param_marks : {ts : List Terminal} {param : ParamTree} → DerivesParam ts param → List Mark
param_marks (g.named_param _ _ ks _ _ _ _ _ _ d) = flat ks ++ plain ∷ length_marks d
param_marks (g.unnamed_param _ _ _ ks _ _ _ d) = plain ∷ (flat ks ++ length_marks d)

abbrev pub param_list_marks : {ts : List Terminal} {all : List ParamTree} → DerivesParamList ts all → List Mark
param_list_marks (g.last_param _ _ d) = param_marks d
param_list_marks (g.more_params _ _ _ _ _ d ds) = param_marks d ++ plain ∷ param_list_marks ds

abbrev pub params_marks : {ts : List Terminal} {all : List ParamTree} → DerivesParams ts all → List Mark
params_marks g.no_param = []
params_marks (g.void_alone _) = plain ∷ []
params_marks (g.params _ _ d) = param_list_marks d

-- The block of a function's body is no statement.
abbrev pub definition_marks : {ts : List Terminal} {body : Option StmtTrees} → DerivesDefinition ts body → List Mark
definition_marks (g.declared_only _) = plain ∷ []
definition_marks (g.defined _ _ d) = block_marks d

abbrev pub item_marks : {ts : List Terminal} {item : ItemTree} → DerivesItem ts item → List Mark
item_marks (g.a_static _ _ _ d) = plain ∷ item_marks d
item_marks (g.an_inline _ _ _ d) = plain ∷ item_marks d
item_marks (g.some_objects _ _ d) = declaration_marks d
item_marks (g.a_function _ _ ks _ _ _ _ _ _ _ _ _ _ d e) = flat ks ++ plain ∷ pair (params_marks d) (definition_marks e)

-- the marks of the tokens, one after another
abbrev pub item_list_marks : {ts : List Terminal} {all : List ItemTree} → DerivesItems ts all → List Mark
item_list_marks g.no_item = []
item_list_marks (g.more_items _ _ _ _ d ds) = item_marks d ++ item_list_marks ds

-- ---- the limits

abbrev pub nesting_limit : ℕ
nesting_limit = 64

abbrev pub exceeds : Mark → Bool
exceeds m = nat_lt nesting_limit m.nesting || m.surplus

abbrev pub mark_at : List Mark → ℕ → Mark
mark_at [] i = plain
mark_at (m ∷ ms) zero = m
mark_at (m ∷ ms) (suc i) = mark_at ms i
