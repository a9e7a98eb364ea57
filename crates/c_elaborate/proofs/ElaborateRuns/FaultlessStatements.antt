-- Statements of programs without faults are resolved.
use Rattle.std.proofs.Common.{◌≡◌, ℕ, ◌+◌, ◌∙◌, sym, refl, ap, subst, Bool, true, false, if◌then◌else◌, List, [], ◌∷◌, ◌++◌, map, length, Option, Some, None}
use Rattle.c_tree.specs.Tree as tree
use Rattle.c_tree.specs.Tree.{Tree, InitTree, ObjectTree, StmtTree, ElseTree, FirstTree, StmtTrees, ParamTree, FunctionTree, ItemTree}
use Rattle.c_value.specs.Values.{promoted}
use Rattle.c_meaning.specs.Checks.Faults.{fault_if}
use Rattle.c_meaning.specs.Checks.Names.{Declared, is_declared_since, kind_of}
use Rattle.c_meaning.specs.Checks.Lengths.{lengths_of, usable, has_bad_shape, form_faults}
use Rattle.c_meaning.specs.Checks.Labels.{Around, in_part, in_loop, in_switch, in_function, outside_faults, has_no_value, return_faults, repeated_faults, block_labels}
use Rattle.c_meaning.specs.Checks.Expressions.{expression_faults, actions_faults, optional_faults, lengths_faults, optional_init_faults}
use Rattle.c_meaning.specs.Checks.Statements.{with_object, with_objects, object_faults, objects_faults, names_behind, names_in_for, statement_faults, else_faults, first_faults, block_faults, with_param, with_params, param_name_faults, param_faults, params_faults, body_faults}
use Rattle.c_meaning.specs.Store.{lengths_in, declared_by, declared_in, declared_first}
use Rattle.c_elaborate.specs.declared.names.Binding.{Binding}
use Rattle.c_elaborate.specs.declared.blocks.Scene.{Scene}
use Rattle.pieces.specs.declared.resolved.expression.Scope.TheVariants as scope
use Rattle.c_elaborate.specs.Names.{cell_of}
use Rattle.c_elaborate.specs.Objects.{objects_of, first_objects}
use Rattle.c_elaborate.specs.Scenes as scenes
use Rattle.c_elaborate.specs.Scenes.{opened}
use Rattle.c_elaborate.specs.Programs.{objects_of_params}
use Rattle.c_elaborate.specs.Homes.{Each}
use Rattle.c_elaborate.specs.Known.{Knows}
use Rattle.c_elaborate.specs.Grammatical.{DeclaresInBlocks, ElseDeclaresInBlocks, FirstDeclaresInBlocks, AllDeclareInBlocks}
use Rattle.c_elaborate.specs.Resolved.{HasLengths, IsInitResolved, DeclarationsResolved, StmtResolved, ElseResolved, FirstResolved, StmtsResolved, BodyResolved, switch_scene}
use Rattle.c_elaborate.proofs.ElaborateRuns.Sizes.{left_nil, right_nil, unbroken, sized, shaped, has_lengths}
use Rattle.c_elaborate.proofs.ElaborateRuns.Faultless.{knows_declared, resolved, option_resolved, actions_resolved, init_resolved}

-- the names behind a statement are those that it declares itself
pub behind : (b : StmtTree) (names : List Declared) → DeclaresInBlocks b → names_behind names b ≡ with_objects (declared_by b) names
behind (tree.declare os) names h = refl
behind (tree.case_ v body at) names h = behind body names h.1 ∙ ap (λ l. with_objects l names) h.0
behind (tree.block body) names h = refl
behind (tree.act actions) names h = refl
behind (tree.if_ test body other at) names h = refl
behind (tree.switch_ test body at) names h = refl
behind (tree.while_ test body at) names h = refl
behind (tree.do_ body test at) names h = refl
behind (tree.for_ init test step body at) names h = refl
behind (tree.break_ at) names h = refl
behind (tree.continue_ at) names h = refl
behind (tree.return_ v at) names h = refl

behind_first : (init : FirstTree) (names : List Declared) → FirstDeclaresInBlocks init → names_in_for names init ≡ with_objects (declared_first init) names
behind_first tree.no_first names h = refl
behind_first (tree.first part) names h = behind part names h

module _ (items : List ItemTree) (bodies : List (List ℕ)) where
  pub knows_all : (os : List ObjectTree) (names : List Declared) (scene : Scene) → Knows items bodies names scene.names → Knows items bodies (with_objects os names) (scenes.all_declared scene os).names
  knows_all [] names scene h = h
  knows_all (o ∷ os) names scene h = knows_all os (with_object o names) (scenes.declared scene o) (knows_declared items bodies names scene.names o (cell_of scope.Call scene.next) h)

  knows_behind : (b : StmtTree) (names : List Declared) (scene : Scene) → DeclaresInBlocks b → Knows items bodies names scene.names → Knows items bodies (names_behind names b) (scenes.all_declared scene (declared_by b)).names
  knows_behind b names scene d h = subst (λ l. Knows items bodies l (scenes.all_declared scene (declared_by b)).names) (sym (behind b names d)) (knows_all (declared_by b) names scene h)

  knows_first : (init : FirstTree) (names : List Declared) (scene : Scene) → FirstDeclaresInBlocks init → Knows items bodies names scene.names → Knows items bodies (names_in_for names init) (scenes.all_declared scene (declared_first init)).names
  knows_first init names scene d h = subst (λ l. Knows items bodies l (scenes.all_declared scene (declared_first init)).names) (sym (behind_first init names d)) (knows_all (declared_first init) names scene h)

  -- ---- declarations

  initialised : (o : ObjectTree) (q : Option InitTree) (names : List Declared) (rs : List Binding) → Knows items bodies names rs → map usable (lengths_of o) ≡ map (λ (n : ℕ). Some n) (lengths_in o)
      → has_bad_shape (map usable (lengths_of o)) q ≡ false → optional_init_faults bodies names q ≡ [] → IsInitResolved items rs (lengths_in o) q
  initialised o None names rs knows are shape h = tt
  initialised o (Some init) names rs knows are shape h = init_resolved items bodies names rs knows (lengths_in o) init (subst (λ l. has_bad_shape l (Some init) ≡ false) are shape) h

  pub form_of : (at_file : Bool) (start : ℕ) (names : List Declared) (o : ObjectTree) → object_faults bodies at_file start names o ≡ [] → form_faults at_file o ≡ []
  form_of at_file start names o h =
      left_nil (form_faults at_file o) (lengths_faults bodies names o.lengths ++ optional_init_faults bodies (with_object o names) o.init)
      (right_nil (fault_if (is_declared_since start o.name names) 8 o.at) (form_faults at_file o ++ (lengths_faults bodies names o.lengths ++ optional_init_faults bodies (with_object o names) o.init)) h)

  declarations_resolved : (start : ℕ) (os : List ObjectTree) (names : List Declared) (scene : Scene) → objects_faults bodies false start names os ≡ [] → Knows items bodies names scene.names → DeclarationsResolved items scene os
  declarations_resolved start [] names scene h knows = tt
  declarations_resolved start (o ∷ os) names scene h knows =
      let one = left_nil (object_faults bodies false start names o) (objects_faults bodies false start (with_object o names) os) h in
      let form = form_of false start names o one in
      let inits = right_nil (lengths_faults bodies names o.lengths) (optional_init_faults bodies (with_object o names) o.init)
      (right_nil (form_faults false o) (lengths_faults bodies names o.lengths ++ optional_init_faults bodies (with_object o names) o.init)
      (right_nil (fault_if (is_declared_since start o.name names) 8 o.at) (form_faults false o ++ (lengths_faults bodies names o.lengths ++ optional_init_faults bodies (with_object o names) o.init)) one)) in
      let s = sized false o form in
      let knows1 = knows_declared items bodies names scene.names o (cell_of scope.Call scene.next) knows in (
        has_lengths o s,
        initialised o o.init (with_object o names) (scenes.declared scene o).names knows1 s.are (shaped false o form) inits,
        declarations_resolved start os (with_object o names) (scenes.declared scene o) (right_nil (object_faults bodies false start names o) (objects_faults bodies false start (with_object o names) os) h) knows1,
      )

  -- ---- statements

  mutual
    pub statement_resolved : (b : StmtTree) (around : Around) (start : ℕ) (names : List Declared) (scene : Scene) (free : ℕ) → statement_faults bodies around start names b ≡ [] → DeclaresInBlocks b → Knows items bodies names scene.names → StmtResolved items scene free b
    statement_resolved (tree.block body) around start names scene free h d knows = all_resolved body (in_part around) (length names) names (opened scene free) (free + length (declared_in body)) h d knows
    statement_resolved (tree.declare os) around start names scene free h d knows = declarations_resolved start os names scene h knows
    statement_resolved (tree.act actions) around start names scene free h d knows = actions_resolved items bodies names scene.names knows actions h
    statement_resolved (tree.if_ test body other at) around start names scene free h d knows =
        let a = expression_faults true bodies names test in
        let b = statement_faults bodies (in_part around) (length names) names body in
        let e = else_faults bodies (in_part around) (length names) names other in
        let rest = right_nil a (b ++ e) h in (
          resolved items bodies names scene.names knows true test (left_nil a (b ++ e) h),
          d.0,
          statement_resolved body (in_part around) (length names) names scene free (left_nil b e rest) d.1 knows,
          else_resolved other (in_part around) (length names) names scene (free + length (objects_of body)) (right_nil b e rest) d.2 knows,
        )
    statement_resolved (tree.switch_ test body at) around start names scene free h d knows =
        let a = expression_faults true bodies names test in
        let b = repeated_faults [] (block_labels (promoted (kind_of names test)) body) in
        let e = block_faults bodies (in_switch around) (length names) names body in (
          resolved items bodies names scene.names knows true test (left_nil a (b ++ e) h),
          all_resolved body (in_switch around) (length names) names (switch_scene items scene free test) (free + length (declared_in body)) (right_nil b e (right_nil a (b ++ e) h)) d knows,
        )
    statement_resolved (tree.case_ v body at) around start names scene free h d knows =
        let a = outside_faults around.labels at in
        let b = fault_if (has_no_value v) 17 at in
        let e = optional_faults bodies names v in
        let f = statement_faults bodies around start names body in
        let rest = right_nil a (b ++ (e ++ f)) h in
        (unbroken (has_no_value v) 17 at (left_nil b (e ++ f) rest), d.0, statement_resolved body around start names scene free (right_nil e f (right_nil b (e ++ f) rest)) d.1 knows)
    statement_resolved (tree.while_ test body at) around start names scene free h d knows =
        let a = expression_faults true bodies names test in
        let b = statement_faults bodies (in_loop around) (length names) names body in
        (resolved items bodies names scene.names knows true test (left_nil a b h), d.0, statement_resolved body (in_loop around) (length names) names scene free (right_nil a b h) d.1 knows)
    statement_resolved (tree.do_ body test at) around start names scene free h d knows =
        let a = expression_faults true bodies names test in
        let b = statement_faults bodies (in_loop around) (length names) names body in
        (resolved items bodies names scene.names knows true test (right_nil b a h), d.0, statement_resolved body (in_loop around) (length names) names scene free (left_nil b a h) d.1 knows)
    statement_resolved (tree.for_ init test step body at) around start names scene free h d knows =
        let inner = names_in_for names init in
        let a = first_faults bodies (in_part around) (length names) names init in
        let b = optional_faults bodies inner test in
        let e = actions_faults bodies inner step in
        let f = statement_faults bodies (in_loop around) (length inner) inner body in
        let scene1 = opened scene free in
        let scene2 = scenes.all_declared scene1 (declared_first init) in
        let knows2 = knows_first init names scene1 d.0 knows in
        let rest = right_nil a (b ++ (e ++ f)) h in
        let rest2 = right_nil b (e ++ f) rest in (
          first_resolved init (in_part around) (length names) names scene1 (free + length (declared_first init)) (left_nil a (b ++ (e ++ f)) h) d.0 knows,
          option_resolved items bodies inner scene2.names knows2 test (left_nil b (e ++ f) rest),
          actions_resolved items bodies inner scene2.names knows2 step (left_nil e f rest2),
          d.1,
          statement_resolved body (in_loop around) (length inner) inner scene2 (free + length (declared_first init ++ first_objects init)) (right_nil e f rest2) d.2 knows2,
        )
    statement_resolved (tree.break_ at) around start names scene free h d knows = tt
    statement_resolved (tree.continue_ at) around start names scene free h d knows = tt
    statement_resolved (tree.return_ v at) around start names scene free h d knows =
        option_resolved items bodies names scene.names knows v (right_nil (return_faults around.result v at) (optional_faults bodies names v) h)

    else_resolved : (b : ElseTree) (around : Around) (start : ℕ) (names : List Declared) (scene : Scene) (free : ℕ) → else_faults bodies around start names b ≡ [] → ElseDeclaresInBlocks b → Knows items bodies names scene.names → ElseResolved items scene free b
    else_resolved tree.no_else around start names scene free h d knows = tt
    else_resolved (tree.else_ at body) around start names scene free h d knows = (d.0, statement_resolved body around start names scene free h d.1 knows)

    first_resolved : (b : FirstTree) (around : Around) (start : ℕ) (names : List Declared) (scene : Scene) (free : ℕ) → first_faults bodies around start names b ≡ [] → FirstDeclaresInBlocks b → Knows items bodies names scene.names → FirstResolved items scene free b
    first_resolved tree.no_first around start names scene free h d knows = tt
    first_resolved (tree.first part) around start names scene free h d knows = statement_resolved part around start names scene free h d knows

    pub all_resolved : (body : StmtTrees) (around : Around) (start : ℕ) (names : List Declared) (scene : Scene) (free : ℕ) → block_faults bodies around start names body ≡ [] → AllDeclareInBlocks body → Knows items bodies names scene.names → StmtsResolved items scene free body
    all_resolved tree.no_stmt around start names scene free h d knows = tt
    all_resolved (tree.more_stmts first rest) around start names scene free h d knows =
        let a = statement_faults bodies around start names first in
        let b = block_faults bodies around start (names_behind names first) rest in (
          statement_resolved first around start names scene free (left_nil a b h) d.0 knows,
          all_resolved rest around start (names_behind names first) (scenes.all_declared scene (declared_by first)) (free + length (objects_of first)) (right_nil a b h) d.1 (knows_behind first names scene d.0 knows),
        )

  -- ---- functions

  named_one : (p : ParamTree) (start : ℕ) (names : List Declared) (y : Bool) → p.named ≡ y → (if y then fault_if (is_declared_since start p.object.name names) 8 p.object.at else fault_if true 9 p.object.at) ≡ [] → with_param p names ≡ with_object p.object names
  named_one p start names true e h = ap (λ (z : Bool). if z then with_object p.object names else names) e
  named_one p start names false e h = absurd cc

  pub params_named : (ps : List ParamTree) (start : ℕ) (names : List Declared) → params_faults bodies true start names ps ≡ [] → (with_params ps names ≡ with_objects (objects_of_params ps) names) × Each HasLengths (objects_of_params ps)
  params_named [] start names h = (refl, tt)
  params_named (p ∷ ps) start names h =
      let a = param_faults bodies true start names p in
      let b = params_faults bodies true start (with_param p names) ps in
      let n = param_name_faults true start names p in
      let f = form_faults false p.object in
      let l = lengths_faults bodies names p.object.lengths in
      let one = left_nil a b h in
      let named = named_one p start names p.named refl (left_nil n (f ++ l) one) in
      let rest = params_named ps start (with_param p names) (right_nil a b h) in
      (rest.0 ∙ ap (λ z. with_objects (objects_of_params ps) z) named, (has_lengths p.object (sized false p.object (left_nil f l (right_nil n (f ++ l) one))), rest.1))

  pub body_resolved : (f : FunctionTree) (body : StmtTrees) (names : List Declared) (scene : Scene) → params_faults bodies true (length names) names f.params ≡ []
      → body_faults bodies f.result (length names) (with_params f.params names) (Some body) ≡ [] → AllDeclareInBlocks body → Knows items bodies names scene.names → BodyResolved items scene (objects_of_params f.params) (Some body)
  body_resolved f body names scene h g d knows =
      let os = objects_of_params f.params in
      let ps = params_named f.params (length names) names h in (
        ps.1,
        all_resolved body (in_function f.result) (length names) (with_params f.params names) (opened (scenes.all_declared scene os) (length os)) (length os + length (declared_in body)) g d
            (subst (λ l. Knows items bodies l (scenes.all_declared scene os).names) (sym ps.0) (knows_all os names scene knows)),
      )
