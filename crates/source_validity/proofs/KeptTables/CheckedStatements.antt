-- Statements without faults set no object that is const.
use Rattle.std.proofs.Common.{◌≡◌, ℕ, zero, suc, ◌+◌, ◌-◌, ◌*◌, sym, refl, ap, subst, Bool, true, false, append-nil, List, [], ◌∷◌, ◌++◌, map, length, replicate, slice_get, Option, Some, None, option_map}
use Rattle.std.proofs.lemmas.List.{map-append}
use Rattle.hls_base.specs.ArrayAddress.{element_count}
use Rattle.c_tree.specs.Tree as tree
use Rattle.c_tree.specs.Tree.{Tree, InitTree, InitTrees, ObjectTree, StmtTree, ElseTree, FirstTree, StmtTrees}
use Rattle.c_value.specs.Values.{promoted}
use Rattle.c_meaning.specs.Checks.Faults.{fault_if}
use Rattle.c_meaning.specs.Checks.Names.{Declared, is_declared_since, kind_of}
use Rattle.c_meaning.specs.Checks.Lengths.{form_faults}
use Rattle.c_meaning.specs.Checks.Labels.{Around, in_part, in_loop, in_switch, outside_faults, has_no_value, return_faults, repeated_faults, block_labels}
use Rattle.c_meaning.specs.Checks.Expressions.{expression_faults, actions_faults, optional_faults, lengths_faults, init_faults, inits_faults, optional_init_faults}
use Rattle.c_meaning.specs.Checks.Statements.{with_object, with_objects, object_faults, objects_faults, names_behind, names_in_for, statement_faults, else_faults, first_faults, block_faults}
use Rattle.c_meaning.specs.Store.{lengths_in, declared_by, declared_in, declared_first}
use Rattle.c_meaning.specs.Statement.{items_of, rows_of}
use Rattle.pieces.specs.declared.resolved.expression.Cell.{Cell}
use Rattle.pieces.specs.declared.resolved.expression.Scope.TheVariants as scope
use Rattle.pieces.specs.Resolved.Core.{CoreTree, CoreObjectTree, CoreFunctionTree, FileObjectTree, CoreStmtTree, stmt_row}
use Rattle.c_elaborate.specs.declared.blocks.Scene.{Scene}
use Rattle.c_elaborate.specs.declared.names.Binding.{Binding}
use Rattle.c_elaborate.specs.declared.functions.Signature.{Signature}
use Rattle.c_elaborate.specs.Names.{cell_of}
use Rattle.c_elaborate.specs.Objects.{object_elaborated, objects_of, else_objects, first_objects, objects_within}
use Rattle.c_elaborate.specs.Scenes.{opened, labelled_by, declared, all_declared}
use Rattle.c_elaborate.specs.Expressions as ee
use Rattle.c_elaborate.specs.Expressions.{elaborated}
use Rattle.c_elaborate.specs.Statements.{init_elaborated, declarations, item, statement, else_statement, first_statements, statements}
use Rattle.c_elaborate.specs.Homes.{Has}
use Rattle.c_elaborate.specs.Grammatical.{DeclaresInBlocks, ElseDeclaresInBlocks, FirstDeclaresInBlocks, AllDeclareInBlocks}
use Rattle.c_elaborate.proofs.ElaborateRuns.Sizes.{left_nil, right_nil}
use Rattle.c_elaborate.proofs.ElaborateRuns.FaultlessStatements.{behind}
use Rattle.expanded_programs.proofs.ElaboratedPrograms.Stages.{has_front, has_back, next_behind}
use Rattle.expanded_programs.specs.Statements.Each.{EachItem, InInit, InStmt, InElse, InStmts}
use Rattle.source_validity.specs.KeptTables.Programs.{own_constant, constant_of}
use Rattle.source_validity.proofs.KeptTables.Actions.{Nowhere}
use Rattle.source_validity.proofs.KeptTables.Marked.{objects_more, functions_more}
use Rattle.source_validity.proofs.KeptTables.CheckedExpressions.{Keeps, Seen, expression_keep, option_keep, actions_keep}

-- a statement that is no declaration declares nothing
declared_clean : (bodies : List (List ℕ)) (around : Around) (start : ℕ) (names : List Declared) (b : StmtTree) → statement_faults bodies around start names b ≡ [] → objects_faults bodies false start names (declared_by b) ≡ []
declared_clean bodies around start names (tree.declare os) h = h
declared_clean bodies around start names (tree.block body) h = refl
declared_clean bodies around start names (tree.act actions) h = refl
declared_clean bodies around start names (tree.if_ test body other at) h = refl
declared_clean bodies around start names (tree.switch_ test body at) h = refl
declared_clean bodies around start names (tree.case_ v body at) h = refl
declared_clean bodies around start names (tree.while_ test body at) h = refl
declared_clean bodies around start names (tree.do_ body test at) h = refl
declared_clean bodies around start names (tree.for_ init test step body at) h = refl
declared_clean bodies around start names (tree.break_ at) h = refl
declared_clean bodies around start names (tree.continue_ at) h = refl
declared_clean bodies around start names (tree.return_ v at) h = refl

module _ (P : CoreTree → Type 0) where
  items_append : (xs ys : List (Option CoreTree)) → EachItem P Nowhere xs → EachItem P Nowhere ys → EachItem P Nowhere (xs ++ ys)
  items_append [] ys h g = g
  items_append (x ∷ xs) ys h g = (h.0, items_append xs ys h.1 g)

  items_missing : (f : Tree → CoreTree) (n : ℕ) → EachItem P Nowhere (map (option_map f) (replicate n None))
  items_missing f zero = tt
  items_missing f (suc n) = (tt, items_missing f n)

module _ (functions : List CoreFunctionTree) (file : List FileObjectTree) (objects : List CoreObjectTree) (fs : List Signature) (bodies : List (List ℕ)) where
  abbrev D : Cell → Bool
  D = constant_of file objects

  abbrev pub KeepsHere : CoreTree → Type 0
  KeepsHere x = Keeps functions D fs bodies x

  abbrev pub SeenIn : List Declared → List Binding → Type 0
  SeenIn names rs = Seen functions D fs bodies names rs

  -- ---- declarations

  pub seen_declared : (names : List Declared) (scene : Scene) (o : ObjectTree) → SeenIn names scene.names → slice_get objects scene.next ≡ Some (object_elaborated o) → SeenIn (with_object o names) (declared scene o).names
  seen_declared names scene o seen at = record {
    objects = objects_more D names scene.names o (cell_of scope.Call scene.next) (ap own_constant at) seen.objects;
    functions_ = functions_more functions fs bodies names o seen.functions_;
  }

  pub seen_behind : (os : List ObjectTree) (names : List Declared) (scene : Scene) → SeenIn names scene.names → Has objects scene.next os → SeenIn (with_objects os names) (all_declared scene os).names
  seen_behind [] names scene seen has = seen
  seen_behind (o ∷ os) names scene seen has = seen_behind os (with_object o names) (declared scene o) (seen_declared names scene o seen has.0) has.1

  module _ (names : List Declared) (rs : List Binding) (seen : SeenIn names rs) where
    mutual
      items_keep : (ls : List ℕ) (init : InitTree) → init_faults bodies names init ≡ [] → EachItem KeepsHere Nowhere (map (option_map (elaborated fs rs)) (items_of ls init))
      items_keep ls (tree.single t) h = (expression_keep functions D fs bodies names rs seen true t h, tt)
      items_keep [] (tree.braced inits at) h = tt
      items_keep (l ∷ ls) (tree.braced inits at) h = rows_keep l ls inits h

      rows_keep : (l : ℕ) (ls : List ℕ) (inits : InitTrees) → inits_faults bodies names inits ≡ [] → EachItem KeepsHere Nowhere (map (option_map (elaborated fs rs)) (rows_of l ls inits))
      rows_keep l ls tree.no_init h = items_missing KeepsHere (elaborated fs rs) (l * element_count ls)
      rows_keep l ls (tree.more_inits first rest) h =
          let a = init_faults bodies names first in
          let b = inits_faults bodies names rest in
          subst (EachItem KeepsHere Nowhere) (sym (map-append (option_map (elaborated fs rs)) (items_of ls first) (rows_of (l - 1) ls rest)))
          (items_append KeepsHere (map (option_map (elaborated fs rs)) (items_of ls first)) (map (option_map (elaborated fs rs)) (rows_of (l - 1) ls rest)) (items_keep ls first (left_nil a b h)) (rows_keep (l - 1) ls rest (right_nil a b h)))

    init_keep : (ls : List ℕ) (q : Option InitTree) → optional_init_faults bodies names q ≡ [] → InInit KeepsHere Nowhere (init_elaborated fs rs ls q)
    init_keep ls None h = tt
    init_keep [] (Some (tree.single t)) h = expression_keep functions D fs bodies names rs seen true t h
    init_keep [] (Some (tree.braced inits at)) h = tt
    init_keep (l ∷ ls) (Some init) h = items_keep (l ∷ ls) init h

  declarations_keep : (start : ℕ) (os : List ObjectTree) (rest : List CoreStmtTree) (names : List Declared) (scene : Scene) → objects_faults bodies false start names os ≡ [] → SeenIn names scene.names → Has objects scene.next os → InStmts KeepsHere Nowhere (stmt_row rest)
      → InStmts KeepsHere Nowhere (stmt_row (declarations fs scene os ++ rest))
  declarations_keep start [] rest names scene h seen has next = next
  declarations_keep start (o ∷ os) rest names scene h seen has next =
      let a = object_faults bodies false start names o in
      let b = objects_faults bodies false start (with_object o names) os in
      let one = left_nil a b h in
      let d = fault_if (is_declared_since start o.name names) 8 o.at in
      let f = form_faults false o in
      let l = lengths_faults bodies names o.lengths in
      let i = optional_init_faults bodies (with_object o names) o.init in
      let inits = right_nil l i (right_nil f (l ++ i) (right_nil d (f ++ (l ++ i)) one)) in
      let seen1 = seen_declared names scene o seen has.0 in
      ((tt, init_keep (with_object o names) (declared scene o).names seen1 (lengths_in o) o.init inits), declarations_keep start os rest (with_object o names) (declared scene o) (right_nil a b h) seen1 has.1 next)

  item_keep : (start : ℕ) (os : List ObjectTree) (stmt : CoreStmtTree) (rest : List CoreStmtTree) (names : List Declared) (scene : Scene) → objects_faults bodies false start names os ≡ [] → SeenIn names scene.names → Has objects scene.next os → InStmt KeepsHere Nowhere stmt
      → InStmts KeepsHere Nowhere (stmt_row rest) → InStmts KeepsHere Nowhere (stmt_row (item fs scene os stmt ++ rest))
  item_keep start [] stmt rest names scene h seen has s next = (s, next)
  item_keep start (o ∷ os) stmt rest names scene h seen has s next = declarations_keep start (o ∷ os) rest names scene h seen has next

  -- ---- statements

  mutual
    pub statement_keep : (b : StmtTree) (around : Around) (start : ℕ) (names : List Declared) (scene : Scene) (free : ℕ) → statement_faults bodies around start names b ≡ [] → DeclaresInBlocks b → SeenIn names scene.names → Has objects free (objects_of b)
        → InStmt KeepsHere Nowhere (statement fs scene free b)
    statement_keep (tree.block body) around start names scene free h d seen has =
        let os = declared_in body in
        all_keep body (in_part around) (length names) names (opened scene free) (free + length os) h d seen (has_front objects free os (objects_within body) has) (has_back objects free os (objects_within body) has)
    statement_keep (tree.declare os) around start names scene free h d seen has = tt
    statement_keep (tree.act actions) around start names scene free h d seen has = actions_keep functions D fs bodies names scene.names seen actions h
    statement_keep (tree.if_ test body other at) around start names scene free h d seen has =
        let a = expression_faults true bodies names test in
        let b = statement_faults bodies (in_part around) (length names) names body in
        let e = else_faults bodies (in_part around) (length names) names other in
        let rest = right_nil a (b ++ e) h in (
          expression_keep functions D fs bodies names scene.names seen true test (left_nil a (b ++ e) h),
          statement_keep body (in_part around) (length names) names scene free (left_nil b e rest) d.1 seen (has_front objects free (objects_of body) (else_objects other) has),
          else_keep other (in_part around) (length names) names scene (free + length (objects_of body)) (right_nil b e rest) d.2 seen (has_back objects free (objects_of body) (else_objects other) has),
        )
    statement_keep (tree.switch_ test body at) around start names scene free h d seen has =
        let a = expression_faults true bodies names test in
        let b = repeated_faults [] (block_labels (promoted (kind_of names test)) body) in
        let e = block_faults bodies (in_switch around) (length names) names body in
        let os = declared_in body in
        let scene1 = labelled_by (promoted (ee.kind_of (elaborated fs scene.names test))) (opened scene free) in (
          expression_keep functions D fs bodies names scene.names seen true test (left_nil a (b ++ e) h),
          all_keep body (in_switch around) (length names) names scene1 (free + length os) (right_nil b e (right_nil a (b ++ e) h)) d seen (has_front objects free os (objects_within body) has) (has_back objects free os (objects_within body) has),
        )
    statement_keep (tree.case_ v body at) around start names scene free h d seen has =
        let a = outside_faults around.labels at in
        let b = fault_if (has_no_value v) 17 at in
        let e = optional_faults bodies names v in
        let f = statement_faults bodies around start names body in
        statement_keep body around start names scene free (right_nil e f (right_nil b (e ++ f) (right_nil a (b ++ (e ++ f)) h))) d.1 seen has
    statement_keep (tree.while_ test body at) around start names scene free h d seen has =
        let a = expression_faults true bodies names test in
        let b = statement_faults bodies (in_loop around) (length names) names body in
        (expression_keep functions D fs bodies names scene.names seen true test (left_nil a b h), statement_keep body (in_loop around) (length names) names scene free (right_nil a b h) d.1 seen has)
    statement_keep (tree.do_ body test at) around start names scene free h d seen has =
        let a = expression_faults true bodies names test in
        let b = statement_faults bodies (in_loop around) (length names) names body in
        (expression_keep functions D fs bodies names scene.names seen true test (right_nil b a h), statement_keep body (in_loop around) (length names) names scene free (left_nil b a h) d.1 seen has)
    statement_keep (tree.for_ init test step body at) around start names scene free h d seen has =
        let inner = names_in_for names init in
        let a = first_faults bodies (in_part around) (length names) names init in
        let b = optional_faults bodies inner test in
        let e = actions_faults bodies inner step in
        let f = statement_faults bodies (in_loop around) (length inner) inner body in
        let rest = right_nil a (b ++ (e ++ f)) h in
        let rest2 = right_nil b (e ++ f) rest in
        let os = declared_first init in
        let scene1 = opened scene free in
        let scene2 = all_declared scene1 os in
        let has1 = has_front objects free (os ++ first_objects init) (objects_of body) has in
        let head = first_keep init (in_part around) (length names) names scene1 (free + length os) (left_nil a (b ++ (e ++ f)) h) d.0 seen (has_front objects free os (first_objects init) has1) (has_back objects free os (first_objects init) has1) in (
          head.0,
          option_keep functions D fs bodies inner scene2.names head.1 test (left_nil b (e ++ f) rest),
          actions_keep functions D fs bodies inner scene2.names head.1 step (left_nil e f rest2),
          statement_keep body (in_loop around) (length inner) inner scene2 (free + length (os ++ first_objects init)) (right_nil e f rest2) d.2 head.1 (has_back objects free (os ++ first_objects init) (objects_of body) has),
        )
    statement_keep (tree.break_ at) around start names scene free h d seen has = tt
    statement_keep (tree.continue_ at) around start names scene free h d seen has = tt
    statement_keep (tree.return_ v at) around start names scene free h d seen has = option_keep functions D fs bodies names scene.names seen v (right_nil (return_faults around.result v at) (optional_faults bodies names v) h)

    else_keep : (b : ElseTree) (around : Around) (start : ℕ) (names : List Declared) (scene : Scene) (free : ℕ) → else_faults bodies around start names b ≡ [] → ElseDeclaresInBlocks b → SeenIn names scene.names → Has objects free (else_objects b)
        → InElse KeepsHere Nowhere (else_statement fs scene free b)
    else_keep tree.no_else around start names scene free h d seen has = tt
    else_keep (tree.else_ at body) around start names scene free h d seen has = statement_keep body around start names scene free h d.1 seen has

    -- the head of a `for`, and what is visible behind it
    first_keep : (b : FirstTree) (around : Around) (start : ℕ) (names : List Declared) (scene : Scene) (free : ℕ) → first_faults bodies around start names b ≡ [] → FirstDeclaresInBlocks b → SeenIn names scene.names → Has objects scene.next (declared_first b) → Has objects free (first_objects b)
        → InStmts KeepsHere Nowhere (stmt_row (first_statements fs scene free b)) × SeenIn (names_in_for names b) (all_declared scene (declared_first b)).names
    first_keep tree.no_first around start names scene free h d seen new has = (tt, seen)
    first_keep (tree.first part) around start names scene free h d seen new has =
        let os = declared_by part in
        let clean = declared_clean bodies around start names part h in
        let one = statement_keep part around start names scene free h d seen has in (
          subst (λ list. InStmts KeepsHere Nowhere (stmt_row list)) (append-nil (item fs scene os (statement fs scene free part))) (item_keep start os (statement fs scene free part) [] names scene clean seen new one tt),
          subst (λ l. SeenIn l (all_declared scene os).names) (sym (behind part names d)) (seen_behind os names scene seen new),
        )

    pub all_keep : (body : StmtTrees) (around : Around) (start : ℕ) (names : List Declared) (scene : Scene) (free : ℕ) → block_faults bodies around start names body ≡ [] → AllDeclareInBlocks body → SeenIn names scene.names → Has objects scene.next (declared_in body)
        → Has objects free (objects_within body) → InStmts KeepsHere Nowhere (stmt_row (statements fs scene free body))
    all_keep tree.no_stmt around start names scene free h d seen new has = tt
    all_keep (tree.more_stmts first rest) around start names scene free h d seen new has =
        let a = statement_faults bodies around start names first in
        let b = block_faults bodies around start (names_behind names first) rest in
        let os = declared_by first in
        let clean = declared_clean bodies around start names first (left_nil a b h) in
        let new1 = has_front objects scene.next os (declared_in rest) new in
        let seen1 = subst (λ l. SeenIn l (all_declared scene os).names) (sym (behind first names d.0)) (seen_behind os names scene seen new1) in
        let new2 = subst (λ n. Has objects n (declared_in rest)) (sym (next_behind scene os)) (has_back objects scene.next os (declared_in rest) new) in
        item_keep start os (statement fs scene free first) (statements fs (all_declared scene os) (free + length (objects_of first)) rest) names scene clean seen new1
        (statement_keep first around start names scene free (left_nil a b h) d.0 seen (has_front objects free (objects_of first) (objects_within rest) has))
        (all_keep rest around start (names_behind names first) (all_declared scene os) (free + length (objects_of first)) (right_nil a b h) d.1 seen1 new2 (has_back objects free (objects_of first) (objects_within rest) has))
