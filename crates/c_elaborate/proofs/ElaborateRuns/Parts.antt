-- Parts of statements that run as they do in the program: actions, tests, declarations and blocks.
use Rattle.std.proofs.Common.{◌≡◌, ℕ, ◌+◌, ◌≤◌, sym, refl, subst, Bool, true, false, if◌then◌else◌, List, [], ◌∷◌, ◌++◌, map, length, Option, Some, None, option_map, slice_get}
use Rattle.hls_base.specs.declared.place.Place.{Place}
use Rattle.hls_base.specs.declared.point.PointKind.TheVariants as point
use Rattle.c_tree.specs.Tree as tree
use Rattle.c_tree.specs.Tree.{Tree, ActionTree, ObjectTree, StmtTree, StmtTrees, ItemTree}
use Rattle.c_value.specs.Operators.{is_true}
use Rattle.c_meaning.specs.declared.names.Binding.{Binding}
use Rattle.c_meaning.specs.declared.value.Completion.{Completion}
use Rattle.c_meaning.specs.declared.value.Completion.TheVariants as end
use Rattle.c_meaning.specs.declared.value.Round.{Round}
use Rattle.c_meaning.specs.declared.value.Round.TheVariants as round
use Rattle.c_meaning.specs.Store as store
use Rattle.c_meaning.specs.Store.{Object, State, Environment, inside, lengths_in, declared, all_declared, declared_by, declared_in}
use Rattle.c_meaning.specs.Steps as c
use Rattle.c_meaning.specs.Expression as ce
use Rattle.c_meaning.specs.Expression.{Calls}
use Rattle.c_meaning.specs.Statement as cs
use Rattle.pieces.specs.Resolved.Core.{CoreObjectTree, CoreStmtTree, stmt_row}
use Rattle.hls_base.specs.Steps as r
use Rattle.c_meaning.specs.CoreRuns.Cells.{Spot, spot, Cells, entered}
use Rattle.c_meaning.specs.CoreRuns.Expressions as ke
use Rattle.c_meaning.specs.CoreRuns.Expressions.{CoreCalls, point_at}
use Rattle.c_meaning.specs.CoreRuns.Statements as ks
use Rattle.c_elaborate.specs.declared.names.Binding.{Binding as Resolution}
use Rattle.c_elaborate.specs.declared.blocks.Scene.{Scene}
use Rattle.c_elaborate.specs.declared.functions.Signature.{Signature}
use Rattle.c_elaborate.specs.Expressions.{kind_of, elaborated, action_elaborated}
use Rattle.c_elaborate.specs.Objects.{from}
use Rattle.c_elaborate.specs.Scenes as scenes
use Rattle.c_elaborate.specs.Statements.{init_elaborated, declarations, item, statement, statements}
use Rattle.c_elaborate.specs.Programs.{signatures}
use Rattle.c_elaborate.specs.Same.{Same, Equal, Valued}
use Rattle.c_elaborate.specs.Homes.{Home, Alike, placed, Named, Stands, Has, new_homes, Awaits, Each}
use Rattle.c_elaborate.specs.Resolved.{IsOptionResolved, ActionsResolved, HasLengths, DeclarationsResolved, StmtResolved}
use Rattle.c_elaborate.proofs.ElaborateRuns.Sames.{goes_equal, then_equal, then_valued, then_then, then_after, leaves_same, pass_same, reached_same, if_again_same, run_body_same}
use Rattle.c_elaborate.proofs.ElaborateRuns.Lifetimes.{block_begun, block_awaits, leave_alike, named_declared}
use Rattle.c_elaborate.proofs.ElaborateRuns.Expressions.{CallsSame, ResultsSame, if_same, expression_same}
use Rattle.c_elaborate.proofs.ElaborateRuns.Initialisers.{declare_same}

-- ---- which statements are last

item_last : (fs : List Signature) (scene : Scene) (os : List ObjectTree) (stmt : CoreStmtTree) (more : List CoreStmtTree) → ks.is_last (stmt_row (item fs scene os stmt ++ more)) ≡ false
item_last fs scene [] stmt more = refl
item_last fs scene (o ∷ os) stmt more = refl

pub last_same : (fs : List Signature) (scene : Scene) (free : ℕ) (rest : StmtTrees) → ks.is_last (stmt_row (statements fs scene free rest)) ≡ cs.is_last rest
last_same fs scene free tree.no_stmt = refl
last_same fs scene free (tree.more_stmts first rest) = item_last fs scene (declared_by first) (statement fs scene free first) _

-- ---- actions

same_action : (fs : List Signature) (names : List Resolution) (a : ActionTree) → ks.action_tree (action_elaborated fs names a) ≡ elaborated fs names (cs.action_tree a)
same_action fs names (tree.assignment place op v at) = refl
same_action fs names (tree.bumping place up at) = refl
same_action fs names (tree.evaluation v) = refl

declared_lengths : (items : List ItemTree) (scene : Scene) (os : List ObjectTree) → DeclarationsResolved items scene os → Each HasLengths os
declared_lengths items scene [] h = tt
declared_lengths items scene (o ∷ os) h = (h.0, declared_lengths items (scenes.declared scene o) os h.2)

-- what a statement declares has lengths
pub lengths_by : (items : List ItemTree) (scene : Scene) (free : ℕ) (b : StmtTree) → StmtResolved items scene free b → Each HasLengths (declared_by b)
lengths_by items scene free (tree.declare os) h = declared_lengths items scene os h
lengths_by items scene free (tree.block body) h = tt
lengths_by items scene free (tree.act actions) h = tt
lengths_by items scene free (tree.if_ test body other at) h = tt
lengths_by items scene free (tree.switch_ test body at) h = tt
lengths_by items scene free (tree.case_ v body at) h = tt
lengths_by items scene free (tree.while_ test body at) h = tt
lengths_by items scene free (tree.do_ body test at) h = tt
lengths_by items scene free (tree.for_ init test step body at) h = tt
lengths_by items scene free (tree.break_ at) h = tt
lengths_by items scene free (tree.continue_ at) h = tt
lengths_by items scene free (tree.return_ v at) h = tt

module _ (items : List ItemTree) (file : List Binding) (file_names : List Resolution) (c1 : Calls) (c2 : CoreCalls) (calls : CallsSame items file file_names c1 c2) (results : ResultsSame items c1)
    (frame params : ℕ) (spots : ℕ → Spot) (objects : List CoreObjectTree) where
  module _ (env : Environment) (names : List Resolution) (homes : List Home) (free : ℕ) (stands : Stands file file_names homes frame free) (named : Named homes (placed frame spots objects env) env.file env.names names) where
    pub act_all_same : (actions : List ActionTree) (s : State) (u : Cells) → ActionsResolved items names actions → Alike homes s.objects u
        → Same (Equal (Alike homes)) (cs.act_all c1 actions env s) (ks.act_all c2 (map (action_elaborated (signatures items) names) actions) (placed frame spots objects env) u s.left)
    act_all_same [] s u known h = goes_equal (Alike homes) tt s u h
    act_all_same (a ∷ more) s u known h =
        let kind = kind_of (elaborated (signatures items) names (cs.action_tree a)) in
        then_valued (Alike homes) kind (Equal (Alike homes)) _ _ _ _
        (subst (λ z. Same (Valued (Alike homes) kind) (ce.expression_meaning c1 false (cs.action_tree a) env s) (ke.expression c2 false z (placed frame spots objects env) u s.left)) (sym (same_action (signatures items) names a))
        (expression_same items file file_names c1 c2 calls results frame free spots objects homes stands env names named false (cs.action_tree a) s u known.0 h))
        (λ v s1 u1 h1. act_all_same more s1 u1 known.1 h1)

    holds_same : (test : Option Tree) (s : State) (u : Cells) → IsOptionResolved items names test → Alike homes s.objects u
        → Same (Equal (Alike homes)) (cs.test_holds c1 test env s) (ks.test_holds c2 (option_map (elaborated (signatures items) names) test) (placed frame spots objects env) u s.left)
    holds_same None s u known h = goes_equal (Alike homes) true s u h
    holds_same (Some t) s u known h =
        then_valued (Alike homes) (kind_of (elaborated (signatures items) names t)) (Equal (Alike homes)) _ _ _ _
        (expression_same items file file_names c1 c2 calls results frame free spots objects homes stands env names named true t s u known h) (λ x s1 u1 h1. goes_equal (Alike homes) (is_true x) s1 u1 h1)

    tested_same : (test : Option Tree) (at : Place) (s : State) (u : Cells) → IsOptionResolved items names test → Alike homes s.objects u
        → Same (Equal (Alike homes)) (cs.tested c1 test at env s) (ks.tested c2 (option_map (elaborated (signatures items) names) test) at (placed frame spots objects env) u s.left)
    tested_same test at s u known h =
        reached_same (Alike homes) frame spots objects (Equal (Alike homes)) point.Test at env (cs.test_holds c1 test env) (ks.test_holds c2 (option_map (elaborated (signatures items) names) test) (placed frame spots objects env))
        (λ s1 u1 h1. holds_same test s1 u1 known h1) s u h

    run_step_same : (step : List ActionTree) (at : Place) (s : State) (u : Cells) → ActionsResolved items names step → Alike homes s.objects u
        → Same (Equal (Alike homes)) (cs.run_step c1 step at env s) (ks.run_step c2 (map (action_elaborated (signatures items) names) step) at (placed frame spots objects env) u s.left)
    run_step_same [] at s u known h = goes_equal (Alike homes) round.Again s u h
    run_step_same (a ∷ more) at s u known h =
        let here = placed frame spots objects env in
        let g : Cells → ℕ → r.Ran Cells (Unit {0}) = ks.act_all c2 (map (action_elaborated (signatures items) names) (a ∷ more)) here in
        subst (λ (x : r.Ran Cells Round). Same (Equal (Alike homes)) (cs.run_step c1 (a ∷ more) at env s) x)
        (sym (then_then (r.pass (point_at point.Step at here) u s.left) (λ v u1 n1. g u1 n1) (λ v u1 n1. r.goes round.Again u1 n1)))
        (then_equal (Alike homes) (Equal (Alike homes)) _ _ _ (λ v u1 n1. r.then_ (g u1 n1) (λ w u2 n2. r.goes round.Again u2 n2)) (pass_same (Alike homes) (point_at point.Step at here) s.left s u h) (λ v s1 u1 h1.
        then_equal (Alike homes) (Equal (Alike homes)) (cs.act_all c1 (a ∷ more) env s1) (g u1 s1.left) _ _ (act_all_same (a ∷ more) s1 u1 known h1) (λ w s2 u2 h2. goes_equal (Alike homes) round.Again s2 u2 h2)))

    module _ (body : Environment → State → c.Ran Completion) (g : Cells → ℕ → r.Ran Cells Completion) (bodies : (s : State) (u : Cells) → Alike homes s.objects u → Same (Equal (Alike homes)) (body env s) (g u s.left)) where
      pub test_first_same : (test : Option Tree) (step : List ActionTree) (at : Place) (s : State) (u : Cells) → IsOptionResolved items names test → ActionsResolved items names step → Alike homes s.objects u
          → Same (Equal (Alike homes)) (cs.test_first c1 test body step at env s)
          (ks.test_first c2 (option_map (elaborated (signatures items) names) test) g (map (action_elaborated (signatures items) names) step) at (placed frame spots objects env) u s.left)
      test_first_same test step at s u known steps h =
          then_equal (Alike homes) (Equal (Alike homes)) _ _ _ _ (tested_same test at s u known h) (λ holds s1 u1 h1.
          if_same (Equal (Alike homes)) holds _ _ _ _
          (then_equal (Alike homes) (Equal (Alike homes)) _ _ _ _ (run_body_same (Alike homes) frame spots objects body g at env bodies s1 u1 h1) (λ v s2 u2 h2.
          if_again_same (Alike homes) frame spots objects v _ _ (λ s3 u3 h3. run_step_same step at s3 u3 steps h3) s2 u2 h2))
          (goes_equal (Alike homes) round.Over s1 u1 h1))

      pub test_last_same : (test : Tree) (at : Place) (s : State) (u : Cells) → IsOptionResolved items names (Some test) → Alike homes s.objects u
          → Same (Equal (Alike homes)) (cs.test_last c1 test body at env s) (ks.test_last c2 (elaborated (signatures items) names test) g at (placed frame spots objects env) u s.left)
      test_last_same test at s u known h =
          then_equal (Alike homes) (Equal (Alike homes)) _ _ _ _ (run_body_same (Alike homes) frame spots objects body g at env bodies s u h) (λ v s1 u1 h1.
          if_again_same (Alike homes) frame spots objects v _ _ (λ s2 u2 h2.
          then_equal (Alike homes) (Equal (Alike homes)) _ _ _ _ (tested_same (Some test) at s2 u2 known h2) (λ holds s3 u3 h3.
          goes_equal (Alike homes) (if holds then round.Again else round.Over) s3 u3 h3)) s1 u1 h1)

    pub returned_same : (v : Option Tree) (s : State) (u : Cells) → IsOptionResolved items names v → Alike homes s.objects u
        → Same (Equal (Alike homes)) (cs.returned_number c1 v env s) (ks.returned_number c2 (option_map (elaborated (signatures items) names) v) (placed frame spots objects env) u s.left)
    returned_same None s u known h = goes_equal (Alike homes) None s u h
    returned_same (Some t) s u known h =
        then_valued (Alike homes) (kind_of (elaborated (signatures items) names t)) (Equal (Alike homes)) _ _ _ _
        (expression_same items file file_names c1 c2 calls results frame free spots objects homes stands env names named true t s u known h) (λ x s1 u1 h1.
        converted_same env.result x s1 u1 h1)
      where
        converted_same : (kind : _) (x : _) (s1 : State) (u1 : Cells) → Alike homes s1.objects u1 → Same (Equal (Alike homes)) (c.goes (Some (cs.converted_result kind x)) s1) (r.goes (Some (ks.converted_result kind x)) u1 s1.left)
        converted_same None x s1 u1 h1 = goes_equal (Alike homes) (Some x) s1 u1 h1
        converted_same (Some kind) x s1 u1 h1 = goes_equal (Alike homes) _ s1 u1 h1

  -- ---- declarations

  module _ (homes : List Home) (free : ℕ) (stands : Stands file file_names homes frame free) (tail : Bool) (rest : List CoreStmtTree) (next : State → c.Ran Completion) where
    pub declarations_same : (os more : List ObjectTree) (env : Environment) (scene : Scene) (s : State) (u : Cells)
        → Awaits homes (placed frame spots objects env) env.next scene.next (os ++ more) → DeclarationsResolved items scene os → Named homes (placed frame spots objects env) env.file env.names scene.names → Alike homes s.objects u
        → ((s1 : State) (u1 : Cells) → Alike homes s1.objects u1 → Same (Equal (Alike homes)) (next s1) (ks.statements c2 tail (stmt_row rest) (placed frame spots objects env) u1 s1.left))
        → Same (Equal (Alike homes)) (c.then_ (cs.declare_all c1 os env s) (λ v s1. next s1)) (ks.statements c2 tail (stmt_row (declarations (signatures items) scene os ++ rest)) (placed frame spots objects env) u s.left)
    declarations_same [] more env scene s u awaits known named h then_next = then_next s u h
    declarations_same (o ∷ os) more env scene s u awaits known named h then_next =
        let here = placed frame spots objects env in
        let inner = scenes.declared scene o in
        let init = init_elaborated (signatures items) inner.names (lengths_in o) o.init in
        let named1 = named_declared homes here o (os ++ more) env.file env scene known.0 awaits named in
        let row_ = stmt_row (declarations (signatures items) inner os ++ rest) in
        subst (λ q. Same (Equal (Alike homes)) q (ks.statements c2 tail (stmt_row (declarations (signatures items) scene (o ∷ os) ++ rest)) here u s.left))
        (sym (then_after (cs.declare_object c1 env.next (lengths_in o) o.init (declared env o.name) s) (λ v s1. cs.declare_all c1 os (declared env o.name) s1) (λ v s1. next s1)))
        (subst (λ q. Same (Equal (Alike homes)) (c.then_ (cs.declare_object c1 env.next (lengths_in o) o.init (declared env o.name) s) (λ v s1. c.then_ (cs.declare_all c1 os (declared env o.name) s1) (λ v s1. next s1))) q)
        (sym (then_then (ks.declare c2 (spots scene.next) (ks.kind_in (slice_get objects scene.next)) init here u s.left) (λ v u1 n1. r.goes end.Normal u1 n1) (λ e u1 n1. ks.go_on e (ks.statements c2 tail row_ here) u1 n1)))
        (then_equal (Alike homes) (Equal (Alike homes)) _ _ _ (λ v u1 n1. r.then_ (r.goes end.Normal u1 n1) (λ e u2 n2. ks.go_on e (ks.statements c2 tail row_ here) u2 n2))
        (subst (λ q. Same (Equal (Alike homes)) (cs.declare_object c1 env.next (lengths_in o) o.init (declared env o.name) s) (ks.declare c2 (spots scene.next) (ks.kind_in q) init here u s.left)) (sym awaits.1)
        (declare_same items file file_names c1 c2 calls results frame free spots objects homes stands (declared env o.name) inner.names named1 env.next (spots scene.next) o.kind (lengths_in o) awaits.0 (lengths_in o) o.init s u known.1 h))
        (λ v s1 u1 h1. declarations_same os more (declared env o.name) inner s1 u1 awaits.2 known.2 named1 h1 then_next)))

  -- ---- blocks

  module _ (own : (i : ℕ) → params ≤ i → spots i ≡ spot frame i) where
    pub in_block_same : (os : List ObjectTree) (env : Environment) (homes : List Home) (free : ℕ) (s : State) (u : Cells) (part : Environment → State → c.Ran Completion) (g : Cells → ℕ → r.Ran Cells Completion)
        → params ≤ free → Has objects free os → Stands file file_names homes frame free → Alike homes s.objects u
        → (Stands file file_names (homes ++ new_homes frame free os) frame (free + length os) → Awaits (homes ++ new_homes frame free os) (placed frame spots objects env) (length s.objects) free os
        → (s1 : State) (u1 : Cells) → Alike (homes ++ new_homes frame free os) s1.objects u1 → Same (Equal (Alike (homes ++ new_homes frame free os))) (part (inside s env) s1) (g u1 s1.left))
        → Same (Equal (Alike homes)) (cs.in_block os part env s) (g (entered (placed frame spots objects env) (from free (length os)) u) s.left)
    in_block_same os env homes free s u part g le has stands h next =
        let here = placed frame spots objects env in
        let new = new_homes frame free os in
        let b = block_begun file file_names here params own os homes free s.objects u le has stands h in
        leaves_same (Equal (Alike (homes ++ new))) (Equal (Alike homes)) (part (inside s env) (store.entered os s)) (g (entered here (from free (length os)) u) s.left) (length s.objects)
        (λ v l w u1 a. (a.0, leave_alike homes new s.objects l u u1 h a.1))
        (next b.0 (block_awaits file file_names here params own os homes free s.objects u le has h) (store.entered os s) (entered here (from free (length os)) u) b.1)
