-- In what the grammar derives, the places of a function are places of its tokens, each taken once.
use Rattle.std.proofs.Common.{◌≡◌, ◌∙◌, ℕ, zero, suc, ◌+◌, ◌-◌, ◌*◌, refl, sym, ap, subst, append_assoc, List, [], ◌∷◌, ◌++◌, map, length, Option, Some, None}
use Rattle.std.specs.Prelude.{replicate, slice_get}
use Rattle.std.specs.Option.{option_map}
use Rattle.hls_base.specs.declared.place.Place.{Place}
use Rattle.hls_base.specs.ArrayAddress.{element_count}
use Rattle.c_token.specs.declared.ctype.CType.{CType}
use Rattle.c_tree.specs.Terminals.{Terminal, word}
use Rattle.c_tree.specs.Tree as tree
use Rattle.c_tree.specs.Tree.{Tree, TargetTree, Trees, ActionTree, InitTree, InitTrees, ObjectTree, StmtTree, ElseTree, FirstTree, StmtTrees, FunctionTree, ItemTree, ProgramTree}
use Rattle.c_tree.specs.Grammar as g
use Rattle.c_tree.specs.Grammar.{Derives, DerivesTarget, DerivesSubscripts, DerivesArguments, DerivesList, DerivesOptional, DerivesChange, DerivesAction, DerivesActionList, DerivesActions, DerivesInit, DerivesInits, DerivesInitialiser, DerivesObject, DerivesObjects, DerivesDeclaration, DerivesStatement, DerivesFirst, DerivesBlock, DerivesBody, DerivesDefinition, DerivesItem, DerivesItems, DerivesProgram}
use Rattle.c_meaning.specs.Checks.Limits.{file_objects}
use Rattle.c_meaning.specs.Store.{declared_by, declared_in, declared_first}
use Rattle.c_meaning.specs.Statement.{items_of, rows_of}
use Rattle.pieces.specs.declared.resolved.expression.Cell.{Cell}
use Rattle.pieces.specs.Resolved.Core as core
use Rattle.pieces.specs.Resolved.Core.{CoreTree, CoreInitTree, CoreStmtTree, CoreFunctionTree, stmt_row}
use Rattle.c_elaborate.specs.declared.names.Binding.{Binding}
use Rattle.c_elaborate.specs.declared.functions.Signature.{Signature}
use Rattle.c_elaborate.specs.declared.blocks.Scene.{Scene}
use Rattle.c_elaborate.specs.Objects.{first_objects}
use Rattle.c_elaborate.specs.Scenes.{file_scene, declared, opened, all_declared}
use Rattle.c_elaborate.specs.Expressions.{elaborated, target_elaborated, all_elaborated, arguments_elaborated, argument_of, array_given, action_elaborated}
use Rattle.c_elaborate.specs.Statements.{written, init_elaborated, declaration, declarations, item, statement, first_statements, statements}
use Rattle.c_elaborate.specs.Programs.{objects_of_params, function_elaborated, function_of_item, functions_of_item, functions_elaborated, file_names, signatures, program_elaborated}
use Rattle.expanded_pieces.specs.ApartPoints.Apart.{AreApart}
use Rattle.expanded_pieces.specs.ApartPoints.Places.{places, target_places, all_places, given_places, argument_places, optional_places, item_places, init_places, action_places, actions_places, stmt_places, body_places, function_places, places_of}
use Rattle.expanded_pieces.specs.ApartPoints.{GrammarPlacesDiffer}
use Rattle.expanded_pieces.proofs.ApartPoints.Apart.{split}
use Rattle.expanded_pieces.proofs.ApartPoints.Drawn.{Drawn, places_joined, draw_none, draw_all, draw_skip, draw_keep, draw_both, draw_left, draw_right, draw_nil}

-- ---- lists

items_joined : (xs ys : List (Option CoreTree)) → item_places (xs ++ ys) ≡ item_places xs ++ item_places ys
items_joined [] ys = refl
items_joined (x ∷ xs) ys = ap (λ l. optional_places x ++ l) (items_joined xs ys) ∙ sym (append_assoc (optional_places x) (item_places xs) (item_places ys))

bodies_joined : (xs ys : List CoreStmtTree) → body_places (stmt_row (xs ++ ys)) ≡ body_places (stmt_row xs) ++ body_places (stmt_row ys)
bodies_joined [] ys = refl
bodies_joined (x ∷ xs) ys = ap (λ l. stmt_places x ++ l) (bodies_joined xs ys) ∙ sym (append_assoc (stmt_places x) (body_places (stmt_row xs)) (body_places (stmt_row ys)))

-- ---- lists of functions

abbrev function_in : CoreFunctionTree → Option CoreFunctionTree → CoreFunctionTree
function_in d None = d
function_in d (Some fn) = fn

-- the name of a function and its body
named_apart : (ks ps bs : List Terminal) (name opens closes : Terminal) → AreApart (places_of (ks ++ name ∷ opens ∷ (ps ++ closes ∷ bs))) → AreApart (places_of (name ∷ bs))
named_apart ks ps bs name opens closes a =
    (draw_right ks (draw_keep {t = name} (draw_skip {t = opens} (draw_right ps (draw_skip {t = closes} (draw_all bs)))))).taken.apart a

abbrev EachApart : List CoreFunctionTree → Type 0
EachApart [] = Unit {0}
EachApart (fn ∷ fns) = AreApart (function_places fn) × EachApart fns

each_joined : (xs ys : List CoreFunctionTree) → EachApart xs → EachApart ys → EachApart (xs ++ ys)
each_joined [] ys h k = k
each_joined (x ∷ xs) ys h k = (h.0, each_joined xs ys h.1 k)

each_there : (fns : List CoreFunctionTree) → EachApart fns → (i : ℕ) (fn : CoreFunctionTree) → slice_get fns i ≡ Some fn → AreApart (function_places fn)
each_there [] h i fn e = absurd cc
each_there (x ∷ fns) h zero fn e = subst (λ y. AreApart (function_places y)) (ap (function_in x) e) h.0
each_there (x ∷ fns) h (suc i) fn e = each_there fns h.1 i fn e

module _ (fs : List Signature) where
  module _ (names : List Binding) where
    -- ---- expressions

    given_drawn : (cell : Option Cell) (e : CoreTree) {ts : List Terminal} → Drawn ts (places e) → Drawn ts (given_places (argument_of cell e))
    given_drawn (Some cell) e {ts} d = draw_none ts
    given_drawn None e d = d

    mutual
      tree_drawn : {n : ℕ} {ts : List Terminal} {t : Tree} → Derives n ts t → Drawn ts (places (elaborated fs names t))
      tree_drawn (g.a_number value kind at) = draw_none _
      tree_drawn (g.a_name text at k) = draw_none _
      tree_drawn (g.an_element text at ts first rest k s) = draw_skip (subscripts_drawn s)
      tree_drawn (g.a_call callee at opens closes ts args k a) = draw_keep (draw_skip (draw_left _ (arguments_drawn a)))
      tree_drawn (g.a_group opens closes ts inner d) = draw_skip (draw_left _ (tree_drawn d))
      tree_drawn (g.a_bump_behind punct up at ts changed b d) = draw_left _ (target_drawn d)
      tree_drawn (g.a_prefix punct op at ts arg p d) = draw_skip (tree_drawn d)
      tree_drawn (g.a_bump_before punct up at ts changed b d) = draw_skip (target_drawn d)
      tree_drawn (g.a_cast at closes ks ts kind constant arg k d) = draw_skip (draw_right _ (draw_skip (tree_drawn d)))
      tree_drawn (g.an_operator punct op at n ls rs left right o l d e) = draw_both (tree_drawn d) (draw_keep (tree_drawn e))
      tree_drawn (g.a_choice at colon ts ys ns test left right d e f) = draw_both (tree_drawn d) (draw_keep (draw_both (tree_drawn e) (draw_keep (tree_drawn f))))
      tree_drawn (g.an_assignment punct op at ts vs changed value o d e) = draw_both (target_drawn d) (draw_skip (tree_drawn e))
      tree_drawn (g.a_comma at ls rs left right d e) = draw_both (tree_drawn d) (draw_skip (tree_drawn e))
      tree_drawn (g.a_tighter n ts inner d) = tree_drawn d

      target_drawn : {ts : List Terminal} {t : TargetTree} → DerivesTarget ts t → Drawn ts (target_places (target_elaborated fs names t))
      target_drawn (g.a_target text at ts subscripts k s) = draw_skip (subscripts_drawn s)

      subscripts_drawn : {ts : List Terminal} {xs : Trees} → DerivesSubscripts ts xs → Drawn ts (all_places (all_elaborated fs names xs))
      subscripts_drawn g.no_subscript = draw_none _
      subscripts_drawn (g.a_subscript opens closes ts us first rest d r) = draw_skip (draw_both (tree_drawn d) (draw_skip (subscripts_drawn r)))

      arguments_drawn : {ts : List Terminal} {xs : Trees} → DerivesArguments ts xs → Drawn ts (argument_places (arguments_elaborated fs names xs))
      arguments_drawn g.no_argument = draw_none _
      arguments_drawn (g.arguments ts args d) = list_drawn d

      list_drawn : {ts : List Terminal} {xs : Trees} → DerivesList ts xs → Drawn ts (argument_places (arguments_elaborated fs names xs))
      list_drawn (g.last ts arg d) = draw_nil (given_drawn (array_given names arg) (elaborated fs names arg) (tree_drawn d))
      list_drawn (g.and_more at ts us arg args d r) = draw_both (given_drawn (array_given names arg) (elaborated fs names arg) (tree_drawn d)) (draw_skip (list_drawn r))

    optional_drawn : {n : ℕ} {ts : List Terminal} {t : Option Tree} → DerivesOptional n ts t → Drawn ts (optional_places (option_map (elaborated fs names) t))
    optional_drawn (g.absent n) = draw_none _
    optional_drawn (g.present n ts inner d) = tree_drawn d

    -- ---- actions

    change_drawn : {ts : List Terminal} {a : ActionTree} → DerivesChange ts a → Drawn ts (action_places (action_elaborated fs names a))
    change_drawn (g.assigned punct op at ts vs changed value o d e) = draw_both (target_drawn d) (draw_skip (tree_drawn e))
    change_drawn (g.bumped_behind punct up at ts changed b d) = draw_left _ (target_drawn d)
    change_drawn (g.bumped_before punct up at ts changed b d) = draw_skip (target_drawn d)

    action_drawn : {ts : List Terminal} {a : ActionTree} → DerivesAction ts a → Drawn ts (action_places (action_elaborated fs names a))
    action_drawn (g.a_change ts action c) = change_drawn c
    action_drawn (g.a_value ts value no_change d) = tree_drawn d

    action_list_drawn : {ts : List Terminal} {as_ : List ActionTree} → DerivesActionList ts as_ → Drawn ts (actions_places (map (action_elaborated fs names) as_))
    action_list_drawn (g.last_action ts action a) = draw_nil (action_drawn a)
    action_list_drawn (g.more_actions at ts us action rest a r) = draw_both (action_drawn a) (draw_skip (action_list_drawn r))

    actions_drawn : {ts : List Terminal} {as_ : List ActionTree} → DerivesActions ts as_ → Drawn ts (actions_places (map (action_elaborated fs names) as_))
    actions_drawn g.no_action = draw_none _
    actions_drawn (g.actions ts all a) = action_list_drawn a

    -- ---- initialisers

    abbrev elements : List (Option Tree) → List Place
    elements items = item_places (map (option_map (elaborated fs names)) items)

    elements_joined : (xs ys : List (Option Tree)) → elements (xs ++ ys) ≡ elements xs ++ elements ys
    elements_joined [] ys = refl
    elements_joined (x ∷ xs) ys = ap (λ l. optional_places (option_map (elaborated fs names) x) ++ l) (elements_joined xs ys) ∙ sym (append_assoc (optional_places (option_map (elaborated fs names) x)) (elements xs) (elements ys))

    none_left : (n : ℕ) → elements (replicate n None) ≡ []
    none_left zero = refl
    none_left (suc n) = none_left n

    last_drawn : (len : ℕ) (lengths : List ℕ) (init : InitTree) {ts : List Terminal} → Drawn ts (elements (items_of lengths init)) → Drawn ts (elements (rows_of len lengths (tree.more_inits init tree.no_init)))
    last_drawn len lengths init {ts} d =
        let n = (len - 1) * element_count lengths in
        let none = replicate n None in
        subst (Drawn ts) (sym (elements_joined (items_of lengths init) none ∙ ap (λ l. elements (items_of lengths init) ++ l) (none_left n))) (draw_nil d)

    mutual
      items_drawn : (lengths : List ℕ) {ts : List Terminal} {init : InitTree} → DerivesInit ts init → Drawn ts (elements (items_of lengths init))
      items_drawn lengths (g.a_single ts value d) = draw_nil (tree_drawn d)
      items_drawn [] (g.a_braced at closes ts items d) = draw_none _
      items_drawn (len ∷ lengths) (g.a_braced at closes ts items d) = draw_skip (draw_left _ (rows_drawn len lengths d))

      rows_drawn : (len : ℕ) (lengths : List ℕ) {ts : List Terminal} {items : InitTrees} → DerivesInits ts items → Drawn ts (elements (rows_of len lengths items))
      rows_drawn len lengths (g.last_init ts init d) = last_drawn len lengths init (items_drawn lengths d)
      rows_drawn len lengths (g.last_init_comma at ts init d) = draw_left _ (last_drawn len lengths init (items_drawn lengths d))
      rows_drawn len lengths (g.another_init at ts us init inits d r) =
          subst (Drawn _) (sym (elements_joined (items_of lengths init) (rows_of (len - 1) lengths inits))) (draw_both (items_drawn lengths d) (draw_skip (rows_drawn (len - 1) lengths r)))

    written_drawn : (lengths : List ℕ) {ts : List Terminal} {init : InitTree} → DerivesInit ts init → Drawn ts (init_places (written fs names lengths init))
    written_drawn [] (g.a_single ts value d) = tree_drawn d
    written_drawn [] (g.a_braced at closes ts items d) = draw_none _
    written_drawn (len ∷ lengths) d = items_drawn (len ∷ lengths) d

    init_drawn : (lengths : List ℕ) {ts : List Terminal} {init : Option InitTree} → DerivesInitialiser ts init → Drawn ts (init_places (init_elaborated fs names lengths init))
    init_drawn lengths g.no_initialiser = draw_none _
    init_drawn lengths (g.an_initialiser at ts init d) = draw_skip (written_drawn lengths d)

  -- ---- declarations

  object_drawn : (scene : Scene) {kind : CType} {constant : _} {ts : List Terminal} {o : ObjectTree} → DerivesObject kind constant ts o → Drawn ts (stmt_places (declaration fs scene o))
  object_drawn scene (g.an_object kind constant text at ts us lengths init k l i) = draw_skip (draw_right _ (init_drawn _ _ i))

  objects_drawn : (scene : Scene) {kind : CType} {constant : _} {ts : List Terminal} {os : List ObjectTree} → DerivesObjects kind constant ts os → Drawn ts (body_places (stmt_row (declarations fs scene os)))
  objects_drawn scene (g.last_object kind constant ts object o) = draw_nil (object_drawn scene o)
  objects_drawn scene (g.more_objects kind constant at ts us object rest o r) = draw_both (object_drawn scene o) (draw_skip (objects_drawn (declared scene object) r))

  item_drawn : (scene : Scene) (os : List ObjectTree) {ts : List Terminal} → Drawn ts (body_places (stmt_row (declarations fs scene os))) → Drawn ts (body_places (stmt_row (item fs scene os (core.act []))))
  item_drawn scene [] d = d
  item_drawn scene (o ∷ os) d = d

  declaration_drawn : (scene : Scene) {ts : List Terminal} {os : List ObjectTree} → DerivesDeclaration ts os → Drawn ts (body_places (stmt_row (item fs scene os (core.act []))))
  declaration_drawn scene (g.a_declaration kind constant ks ts objects ends k d) = item_drawn scene objects (draw_right _ (draw_left _ (objects_drawn scene d)))

  -- ---- statements

  declares_none : {ts : List Terminal} {stmt : StmtTree} → DerivesStatement ts stmt → declared_by stmt ≡ []
  declares_none (g.a_block ts body b) = refl
  declares_none (g.an_act ends ts all a) = refl
  declares_none (g.an_if at opens closes ts ys test body t b) = refl
  declares_none (g.an_if_else at opens closes other ts ys ns test body second t b open_ s) = refl
  declares_none (g.a_switch at opens closes ts us test body t b) = refl
  declares_none (g.a_case at colon ts us value body v b) = refl
  declares_none (g.a_default at colon us body b) = refl
  declares_none (g.a_while at opens closes ts us test body t b) = refl
  declares_none (g.a_do at again opens closes ends us ts body test b t) = refl
  declares_none (g.a_for at opens ends closes is ts ss us init test step body i t s b) = refl
  declares_none (g.a_break at ends) = refl
  declares_none (g.a_continue at ends) = refl
  declares_none (g.a_return at ends ts value v) = refl

  first_drawn : (scene : Scene) (free : ℕ) {ts : List Terminal} {init : FirstTree} → DerivesFirst ts init → Drawn ts (body_places (stmt_row (first_statements fs scene free init)))
  first_drawn scene free (g.nothing_first ends) = draw_none _
  first_drawn scene free (g.actions_first ends ts all a) = draw_left _ (draw_nil (action_list_drawn scene.names a))
  first_drawn scene free (g.objects_first ts all d) = declaration_drawn scene d

  draw_for : {is ts ss us : List Terminal} (ends closes : Terminal) {xs ys zs ws : List Place} → Drawn is xs → Drawn ts ys → Drawn ss zs → Drawn us ws → Drawn ((is ++ (ts ++ ends ∷ ss)) ++ closes ∷ us) (xs ++ (ys ++ (zs ++ ws)))
  draw_for ends closes {xs = xs} {ys = ys} {zs = zs} {ws = ws} i t s b =
      subst (Drawn _) (append_assoc xs (ys ++ zs) ws ∙ ap (λ l. xs ++ l) (append_assoc ys zs ws)) (draw_both (draw_both i (draw_both t (draw_skip s))) (draw_skip b))

  mutual
    statement_drawn : (scene : Scene) (free : ℕ) {ts : List Terminal} {stmt : StmtTree} → DerivesStatement ts stmt → Drawn ts (stmt_places (statement fs scene free stmt))
    statement_drawn scene free (g.a_block ts body b) = block_drawn _ _ b
    statement_drawn scene free (g.an_act ends ts all a) = draw_left _ (actions_drawn scene.names a)
    statement_drawn scene free (g.an_if at opens closes ts ys test body t b) = draw_keep (draw_skip (draw_both (tree_drawn scene.names t) (draw_skip (draw_nil (statement_drawn scene free b)))))
    statement_drawn scene free (g.an_if_else at opens closes other ts ys ns test body second t b open_ s) =
        draw_keep (draw_skip (draw_both (tree_drawn scene.names t) (draw_skip (draw_both (statement_drawn scene free b) (draw_keep (statement_drawn scene _ s))))))
    statement_drawn scene free (g.a_switch at opens closes ts us test body t b) = draw_keep (draw_skip (draw_both (tree_drawn scene.names t) (draw_skip (block_drawn _ _ b))))
    statement_drawn scene free (g.a_case at colon ts us value body v b) = draw_keep (draw_right _ (draw_skip (statement_drawn scene free b)))
    statement_drawn scene free (g.a_default at colon us body b) = draw_keep (draw_skip (statement_drawn scene free b))
    statement_drawn scene free (g.a_while at opens closes ts us test body t b) = draw_keep (draw_skip (draw_both (tree_drawn scene.names t) (draw_skip (statement_drawn scene free b))))
    statement_drawn scene free (g.a_do at again opens closes ends us ts body test b t) = draw_keep (draw_both (statement_drawn scene free b) (draw_skip (draw_skip (draw_left _ (tree_drawn scene.names t)))))
    statement_drawn scene free (g.a_for at opens ends closes is ts ss us init test step body i t s b) =
        let inner = opened scene free in
        let later = all_declared inner (declared_first init) in
        draw_keep (draw_skip (draw_for _ _ (first_drawn inner (free + length (declared_first init)) i) (optional_drawn later.names t) (actions_drawn later.names s) (statement_drawn later (free + length (declared_first init ++ first_objects init)) b)))
    statement_drawn scene free (g.a_break at ends) = draw_none _
    statement_drawn scene free (g.a_continue at ends) = draw_none _
    statement_drawn scene free (g.a_return at ends ts value v) = draw_skip (draw_left _ (optional_drawn scene.names v))

    block_drawn : (scene : Scene) (free : ℕ) {ts : List Terminal} {body : StmtTrees} → DerivesBlock ts body → Drawn ts (body_places (stmt_row (statements fs scene free body)))
    block_drawn scene free (g.braces opens closes ts body b) = draw_skip (draw_left _ (body_drawn scene free b))

    body_drawn : (scene : Scene) (free : ℕ) {ts : List Terminal} {body : StmtTrees} → DerivesBody ts body → Drawn ts (body_places (stmt_row (statements fs scene free body)))
    body_drawn scene free g.nothing = draw_none _
    body_drawn scene free (g.a_statement ts us stmt rest s r) =
        subst (Drawn _) (sym (bodies_joined (item fs scene (declared_by stmt) (statement fs scene free stmt)) _))
        (draw_both (subst (λ os. Drawn ts (body_places (stmt_row (item fs scene os (statement fs scene free stmt))))) (sym (declares_none s)) (draw_nil (statement_drawn scene free s))) (body_drawn _ _ r))
    body_drawn scene free (g.local_objects ts us all rest d r) = subst (Drawn _) (sym (bodies_joined (item fs scene all (core.act [])) _)) (draw_both (declaration_drawn scene d) (body_drawn _ _ r))

  -- ---- functions

  module _ (file : Scene) where
    definition_apart : {ts : List Terminal} {body : Option StmtTrees} → DerivesDefinition ts body → (f : FunctionTree) (t : Terminal) → f.at ≡ t.at → AreApart (places_of (t ∷ ts)) → EachApart (function_of_item fs file f body)
    definition_apart (g.declared_only ends) f t e a = tt
    definition_apart (g.defined ts body b) f t e a =
        let os = objects_of_params f.params in
        let inner = opened (all_declared file os) (length os) in
        let list = body_places (function_elaborated fs file f body).body in
        let drawn : Drawn (t ∷ ts) (t.at ∷ list) = draw_keep (block_drawn inner (length os + length (declared_in body)) b) in
        (subst (λ at. AreApart (at ∷ list)) (sym e) (drawn.taken.apart a), tt)

    item_apart : {ts : List Terminal} {item_ : ItemTree} → DerivesItem ts item_ → AreApart (places_of ts) → EachApart (functions_of_item fs file item_)
    item_apart (g.a_static at ts item_ i) a = item_apart i a.1
    item_apart (g.an_inline at ts item_ i) a = item_apart i a.1
    item_apart (g.some_objects ts all d) a = tt
    item_apart (g.a_function result constant ks ps bs text at opens closes all body k word_ p d) a =
        definition_apart d (record { name = text; at = at; result = result; params = all; body = body }) (word text at) refl (named_apart ks ps bs _ _ _ a)

    items_apart : {ts : List Terminal} {items : List ItemTree} → DerivesItems ts items → AreApart (places_of ts) → EachApart (functions_elaborated fs file items)
    items_apart g.no_item a = tt
    items_apart (g.more_items ts us item_ rest i r) a =
        let parts = split (places_of ts) (places_of us) (subst AreApart (places_joined ts us) a) in
        each_joined (functions_of_item fs file item_) (functions_elaborated fs file rest) (item_apart i parts.left) (items_apart r parts.right)

pub grammar_places : GrammarPlacesDiffer
grammar_places ts end p top d apart i fn there = each_there (program_elaborated p top).functions (items_apart (signatures p.items) (file_scene (file_names 0 [] (file_objects p.items))) d.0 apart) i fn there
