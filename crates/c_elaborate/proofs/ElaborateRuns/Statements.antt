-- Statements run as they do in the program.
use Rattle.std.proofs.Common.{◌≡◌, ℕ, ◌+◌, ◌≤◌, ◌&&◌, ◌||◌, ◌∙◌, sym, refl, ap₂, subst, Bool, true, false, if◌then◌else◌, List, [], ◌∷◌, ◌++◌, map, length, append-nil, Option, Some, option_map, arith}
use Rattle.hls_base.specs.declared.place.Place.{Place}
use Rattle.hls_base.specs.declared.point.PointKind.TheVariants as point
use Rattle.c_token.specs.declared.ctype.CType.{CType}
use Rattle.c_tree.specs.Tree as tree
use Rattle.c_tree.specs.Tree.{Tree, ActionTree, ObjectTree, StmtTree, ElseTree, FirstTree, StmtTrees, ItemTree}
use Rattle.c_value.specs.Values.{promoted, convert, pattern}
use Rattle.c_value.specs.Operators.{is_true}
use Rattle.c_meaning.specs.declared.names.Binding.{Binding}
use Rattle.c_meaning.specs.declared.value.Completion.{Completion}
use Rattle.c_meaning.specs.declared.value.Completion.TheVariants as end
use Rattle.c_meaning.specs.Store.{State, Environment, inside, all_declared, declared_by, declared_in, declared_first}
use Rattle.c_meaning.specs.Steps as c
use Rattle.c_meaning.specs.Expression.{Calls}
use Rattle.c_meaning.specs.Statement as cs
use Rattle.pieces.specs.Resolved.Core.{CoreObjectTree, CoreStmtTree, stmt_row}
use Rattle.hls_base.specs.Steps as r
use Rattle.c_meaning.specs.CoreRuns.Cells.{Spot, spot, Cells, Here, entered}
use Rattle.c_meaning.specs.CoreRuns.Expressions as ke
use Rattle.c_meaning.specs.CoreRuns.Expressions.{CoreCalls, point_at}
use Rattle.c_meaning.specs.CoreRuns.Statements as ks
use Rattle.c_elaborate.specs.declared.names.Binding.{Binding as Resolution}
use Rattle.c_elaborate.specs.declared.blocks.Scene.{Scene}
use Rattle.c_elaborate.specs.declared.functions.Signature.{Signature}
use Rattle.c_elaborate.specs.Expressions.{kind_of, elaborated, action_elaborated}
use Rattle.c_elaborate.specs.Objects.{objects_of, else_objects, first_objects, objects_within, from}
use Rattle.c_elaborate.specs.Scenes as scenes
use Rattle.c_elaborate.specs.Scenes.{opened, labelled_by}
use Rattle.c_elaborate.specs.Statements.{declarations, item, statement, else_statement, first_statements, statements}
use Rattle.c_elaborate.specs.Programs.{signatures}
use Rattle.c_elaborate.specs.Same.{Same, Equal}
use Rattle.c_elaborate.specs.Homes.{Home, Alike, placed, Named, Stands, Has, new_homes, Awaits, Each}
use Rattle.c_elaborate.specs.Resolved.{HasLengths, DeclaresNothing, StmtResolved, ElseResolved, FirstResolved, StmtsResolved}
use Rattle.c_elaborate.proofs.ElaborateRuns.Sames.{goes_equal, then_equal, then_valued, then_after, then_goes, reached_same, go_on_same, behind_if_same, behind_breakable_same, loop_same}
use Rattle.c_elaborate.proofs.ElaborateRuns.Naming.{named_more}
use Rattle.c_elaborate.proofs.ElaborateRuns.Lifetimes.{stands_more, has_front, has_back, placed_all, file_all, labels_all, named_all, awaits_all}
use Rattle.c_elaborate.proofs.ElaborateRuns.Labels.{Agree, label_agrees, default_agrees, either_agrees}
use Rattle.c_elaborate.proofs.ElaborateRuns.Expressions.{CallsSame, ResultsSame, if_same, same_kind, expression_same}
use Rattle.c_elaborate.proofs.ElaborateRuns.Initialisers.{appended}
use Rattle.c_elaborate.proofs.ElaborateRuns.Parts.{last_same, lengths_by, act_all_same, test_first_same, test_last_same, returned_same, declarations_same, in_block_same}

-- ---- labels

or_if : (a b : Bool) → (a || b) ≡ (if a then true else b)
or_if true b = refl
or_if false b = refl

module _ (items : List ItemTree) (fs : List Signature) (wanted : Option Tree → Bool) (wanted' : Option ℕ → Bool) where
  has_same : (b : StmtTree) (scene : Scene) (free : ℕ) → Agree scene.labels wanted wanted' → StmtResolved items scene free b → cs.has_label wanted b ≡ ks.has_label wanted' (statement fs scene free b)
  has_same (tree.case_ v body at) scene free agree known =
      or_if (wanted v) (cs.has_label wanted body) ∙ ap₂ (λ (a b : Bool). if a then true else b) (agree v known.0) (has_same body scene free agree known.2)
  has_same (tree.declare os) scene free agree known = refl
  has_same (tree.block body) scene free agree known = refl
  has_same (tree.act actions) scene free agree known = refl
  has_same (tree.if_ test body other at) scene free agree known = refl
  has_same (tree.switch_ test body at) scene free agree known = refl
  has_same (tree.while_ test body at) scene free agree known = refl
  has_same (tree.do_ body test at) scene free agree known = refl
  has_same (tree.for_ init test step body at) scene free agree known = refl
  has_same (tree.break_ at) scene free agree known = refl
  has_same (tree.continue_ at) scene free agree known = refl
  has_same (tree.return_ v at) scene free agree known = refl

  any_declared : (os : List ObjectTree) (scene : Scene) (more : List CoreStmtTree) → ks.any_label wanted' (stmt_row (declarations fs scene os ++ more)) ≡ ks.any_label wanted' (stmt_row more)
  any_declared [] scene more = refl
  any_declared (o ∷ os) scene more = any_declared os (scenes.declared scene o) more

  any_item : (b : StmtTree) (scene : Scene) (free : ℕ) (more : List CoreStmtTree)
      → ks.any_label wanted' (stmt_row (item fs scene (declared_by b) (statement fs scene free b) ++ more)) ≡ (if ks.has_label wanted' (statement fs scene free b) then true else ks.any_label wanted' (stmt_row more))
  any_item (tree.declare []) scene free more = refl
  any_item (tree.declare (o ∷ os)) scene free more = any_declared (o ∷ os) scene more
  any_item (tree.block body) scene free more = refl
  any_item (tree.act actions) scene free more = refl
  any_item (tree.if_ test body other at) scene free more = refl
  any_item (tree.switch_ test body at) scene free more = refl
  any_item (tree.case_ v body at) scene free more = refl
  any_item (tree.while_ test body at) scene free more = refl
  any_item (tree.do_ body test at) scene free more = refl
  any_item (tree.for_ init test step body at) scene free more = refl
  any_item (tree.break_ at) scene free more = refl
  any_item (tree.continue_ at) scene free more = refl
  any_item (tree.return_ v at) scene free more = refl

  any_same : (body : StmtTrees) (scene : Scene) (free : ℕ) → Agree scene.labels wanted wanted' → StmtsResolved items scene free body → cs.any_label wanted body ≡ ks.any_label wanted' (stmt_row (statements fs scene free body))
  any_same tree.no_stmt scene free agree known = refl
  any_same (tree.more_stmts first rest) scene free agree known =
      let inner = scenes.all_declared scene (declared_by first) in
      or_if (cs.has_label wanted first) (cs.any_label wanted rest)
      ∙ (ap₂ (λ (a b : Bool). if a then true else b) (has_same first scene free agree known.0)
      (any_same rest inner (free + length (objects_of first)) (subst (λ z. Agree z wanted wanted') (sym (labels_all scene (declared_by first))) agree) known.1)
      ∙ sym (any_item first scene free (statements fs inner (free + length (objects_of first)) rest)))

  -- a jump passes over declarations
  jump_declared : (c2 : CoreCalls) (os : List ObjectTree) (scene : Scene) (more : List CoreStmtTree) (here : Here) (u : Cells) (n : ℕ)
      → ks.jump c2 wanted' (stmt_row (declarations fs scene os ++ more)) here u n ≡ ks.jump c2 wanted' (stmt_row more) here u n
  jump_declared c2 [] scene more here u n = refl
  jump_declared c2 (o ∷ os) scene more here u n = jump_declared c2 os (scenes.declared scene o) more here u n

  jump_item : (c2 : CoreCalls) (b : StmtTree) (scene : Scene) (free : ℕ) (more : List CoreStmtTree) (here : Here) (u : Cells) (n : ℕ)
      → ks.jump c2 wanted' (stmt_row (item fs scene (declared_by b) (statement fs scene free b) ++ more)) here u n
      ≡ (if ks.has_label wanted' (statement fs scene free b)
      then r.then_ (ks.labelled c2 wanted' (statement fs scene free b) here u n) (λ e u1 n1. ks.go_on e (ks.statements c2 false (stmt_row more) here) u1 n1)
      else ks.jump c2 wanted' (stmt_row more) here u n)
  jump_item c2 (tree.declare []) scene free more here u n = refl
  jump_item c2 (tree.declare (o ∷ os)) scene free more here u n = jump_declared c2 (o ∷ os) scene more here u n
  jump_item c2 (tree.block body) scene free more here u n = refl
  jump_item c2 (tree.act actions) scene free more here u n = refl
  jump_item c2 (tree.if_ test body other at) scene free more here u n = refl
  jump_item c2 (tree.switch_ test body at) scene free more here u n = refl
  jump_item c2 (tree.case_ v body at) scene free more here u n = refl
  jump_item c2 (tree.while_ test body at) scene free more here u n = refl
  jump_item c2 (tree.do_ body test at) scene free more here u n = refl
  jump_item c2 (tree.for_ init test step body at) scene free more here u n = refl
  jump_item c2 (tree.break_ at) scene free more here u n = refl
  jump_item c2 (tree.continue_ at) scene free more here u n = refl
  jump_item c2 (tree.return_ v at) scene free more here u n = refl

-- the label to which a switch jumps
target_agrees : (items : List ItemTree) (kind : CType) (n : _) (body : StmtTrees) (scene : Scene) (free : ℕ) → scene.labels ≡ kind → StmtsResolved items scene free body
    → Agree kind (cs.target_label kind (convert kind n) body) (ks.target_label (pattern kind (convert kind n)) (stmt_row (statements (signatures items) scene free body)))
target_agrees items kind n body scene free is known =
    let f = cs.is_label kind (convert kind n) in
    let f' = ks.is_label (pattern kind (convert kind n)) in
    let e = any_same items (signatures items) f f' body scene free (subst (λ z. Agree z f f') (sym is) (label_agrees kind n)) known in
    subst (λ z. Agree kind (if cs.any_label f body then f else cs.is_default) (if z then f' else ks.is_default)) e
    (either_agrees kind (cs.any_label f body) f cs.is_default f' ks.is_default (label_agrees kind n) (default_agrees kind))

first_lengths : (items : List ItemTree) (scene : Scene) (free : ℕ) (init : FirstTree) → FirstResolved items scene free init → Each HasLengths (declared_first init)
first_lengths items scene free tree.no_first h = tt
first_lengths items scene free (tree.first part) h = lengths_by items scene free part h

first_below : (os more : List ObjectTree) (free : ℕ) → free + length os ≤ free + length (os ++ more)
first_below os more free = omega (arith, appended os more)

module _ (items : List ItemTree) (file : List Binding) (file_names : List Resolution) (c1 : Calls) (c2 : CoreCalls) (calls : CallsSame items file file_names c1 c2) (results : ResultsSame items c1)
    (frame params : ℕ) (spots : ℕ → Spot) (objects : List CoreObjectTree) where
  -- ---- one item and those behind it

  module _ (homes : List Home) where
    plain : (tail last : Bool) (q : c.Ran Completion) (stmt : CoreStmtTree) (next : State → c.Ran Completion) (more : List CoreStmtTree) (here : Here) (u : Cells) (n : ℕ) → ks.is_last (stmt_row more) ≡ last
        → Same (Equal (Alike homes)) q (ks.statement c2 (tail && last) stmt here u n)
        → ((s1 : State) (u1 : Cells) → Alike homes s1.objects u1 → Same (Equal (Alike homes)) (next s1) (ks.statements c2 tail (stmt_row more) here u1 s1.left))
        → Same (Equal (Alike homes)) (c.then_ q (λ e s1. cs.go_on e next s1)) (ks.statements c2 tail (stmt_row (stmt ∷ more)) here u n)
    plain tail last q stmt next more here u n is first then_next =
        subst (λ z. Same (Equal (Alike homes)) (c.then_ q (λ e s1. cs.go_on e next s1)) (r.then_ (ks.statement c2 (tail && z) stmt here u n) (λ e u1 n1. ks.go_on e (ks.statements c2 tail (stmt_row more) here) u1 n1))) (sym is)
        (then_equal (Alike homes) (Equal (Alike homes)) _ _ _ _ first (λ e s1 u1 h1. go_on_same (Alike homes) frame spots objects e next (ks.statements c2 tail (stmt_row more) here) then_next s1 u1 h1))

    alone : (q : c.Ran Completion) (stmt : CoreStmtTree) (here : Here) (u : Cells) (n : ℕ) → Same (Equal (Alike homes)) q (ks.statement c2 false stmt here u n)
        → Same (Equal (Alike homes)) q (ks.statements c2 false (stmt_row (stmt ∷ [])) here u n)
    alone q stmt here u n first =
        subst (λ z. Same (Equal (Alike homes)) z (ks.statements c2 false (stmt_row (stmt ∷ [])) here u n)) (then_goes q)
        (then_equal (Alike homes) (Equal (Alike homes)) _ _ _ _ first (λ e s1 u1 h1. ends e s1 u1 h1))
      where
        ends : (e : Completion) (s1 : State) (u1 : Cells) → Alike homes s1.objects u1 → Same (Equal (Alike homes)) (c.goes e s1) (ks.go_on e (λ u2 n2. r.goes end.Normal u2 n2) u1 s1.left)
        ends end.Normal s1 u1 h1 = goes_equal (Alike homes) end.Normal s1 u1 h1
        ends end.Broke s1 u1 h1 = goes_equal (Alike homes) end.Broke s1 u1 h1
        ends end.Continued s1 u1 h1 = goes_equal (Alike homes) end.Continued s1 u1 h1
        ends (end.Returned v tail) s1 u1 h1 = goes_equal (Alike homes) (end.Returned v tail) s1 u1 h1

    module _ (free : ℕ) (stands : Stands file file_names homes frame free) (env : Environment) (scene : Scene) (named : Named homes (placed frame spots objects env) env.file env.names scene.names)
        (s : State) (u : Cells) (h : Alike homes s.objects u) where
      abbrev ItemSame : Bool → StmtTrees → StmtTree → Type 0
      ItemSame tail rest b =
          Awaits homes (placed frame spots objects env) env.next scene.next (declared_by b ++ declared_in rest) → StmtResolved items scene free b
          → (DeclaresNothing b → Same (Equal (Alike homes)) (cs.statement_meaning c1 (tail && cs.is_last rest) b env s) (ks.statement c2 (tail && cs.is_last rest) (statement (signatures items) scene free b) (placed frame spots objects env) u s.left))
          → ((s1 : State) (u1 : Cells) → Alike homes s1.objects u1 → Same (Equal (Alike homes)) (cs.items_meaning c1 tail rest (all_declared env (declared_by b)) s1)
          (ks.statements c2 tail (stmt_row (statements (signatures items) (scenes.all_declared scene (declared_by b)) (free + length (objects_of b)) rest)) (placed frame spots objects env) u1 s1.left))
          → Same (Equal (Alike homes)) (cs.items_meaning c1 tail (tree.more_stmts b rest) env s)
          (ks.statements c2 tail (stmt_row (statements (signatures items) scene free (tree.more_stmts b rest))) (placed frame spots objects env) u s.left)

      item_same : (tail : Bool) (rest : StmtTrees) (b : StmtTree) → ItemSame tail rest b
      item_same tail rest (tree.declare []) awaits known first next = next s u h
      item_same tail rest (tree.declare (o ∷ os)) awaits known first next =
          let more = statements (signatures items) (scenes.all_declared scene (o ∷ os)) (free + 0) rest in
          let behind = cs.items_meaning c1 tail rest (all_declared env (o ∷ os)) in
          subst (λ q. Same (Equal (Alike homes)) q (ks.statements c2 tail (stmt_row (declarations (signatures items) scene (o ∷ os) ++ more)) (placed frame spots objects env) u s.left))
          (sym (then_after (cs.declare_all c1 (o ∷ os) env s) (λ v s1. c.goes end.Normal s1) (λ e s1. cs.go_on e behind s1)))
          (declarations_same items file file_names c1 c2 calls results frame params spots objects homes free stands tail more (λ s1. c.then_ (c.goes end.Normal s1) (λ e s2. cs.go_on e behind s2)) (o ∷ os) (declared_in rest) env scene s u awaits known named h next)
      item_same tail rest (tree.block body) awaits known first next =
          plain tail (cs.is_last rest) (cs.statement_meaning c1 (tail && cs.is_last rest) (tree.block body) env s) (statement (signatures items) scene free (tree.block body)) (cs.items_meaning c1 tail rest env) (statements (signatures items) scene (free + length (objects_of (tree.block body))) rest) (placed frame spots objects env) u s.left (last_same (signatures items) scene (free + length (objects_of (tree.block body))) rest) (first refl) next
      item_same tail rest (tree.act actions) awaits known first next =
          plain tail (cs.is_last rest) (cs.statement_meaning c1 (tail && cs.is_last rest) (tree.act actions) env s) (statement (signatures items) scene free (tree.act actions)) (cs.items_meaning c1 tail rest env) (statements (signatures items) scene (free + length (objects_of (tree.act actions))) rest) (placed frame spots objects env) u s.left (last_same (signatures items) scene (free + length (objects_of (tree.act actions))) rest) (first refl) next
      item_same tail rest (tree.if_ test body other at) awaits known first next =
          plain tail (cs.is_last rest) (cs.statement_meaning c1 (tail && cs.is_last rest) (tree.if_ test body other at) env s) (statement (signatures items) scene free (tree.if_ test body other at)) (cs.items_meaning c1 tail rest env) (statements (signatures items) scene (free + length (objects_of (tree.if_ test body other at))) rest) (placed frame spots objects env) u s.left (last_same (signatures items) scene (free + length (objects_of (tree.if_ test body other at))) rest) (first refl) next
      item_same tail rest (tree.switch_ test body at) awaits known first next =
          plain tail (cs.is_last rest) (cs.statement_meaning c1 (tail && cs.is_last rest) (tree.switch_ test body at) env s) (statement (signatures items) scene free (tree.switch_ test body at)) (cs.items_meaning c1 tail rest env) (statements (signatures items) scene (free + length (objects_of (tree.switch_ test body at))) rest) (placed frame spots objects env) u s.left (last_same (signatures items) scene (free + length (objects_of (tree.switch_ test body at))) rest) (first refl) next
      item_same tail rest (tree.case_ v body at) awaits known first next =
          plain tail (cs.is_last rest) (cs.statement_meaning c1 (tail && cs.is_last rest) (tree.case_ v body at) env s) (statement (signatures items) scene free (tree.case_ v body at)) (cs.items_meaning c1 tail rest env) (statements (signatures items) scene (free + length (objects_of (tree.case_ v body at))) rest) (placed frame spots objects env) u s.left (last_same (signatures items) scene (free + length (objects_of (tree.case_ v body at))) rest) (first refl) next
      item_same tail rest (tree.while_ test body at) awaits known first next =
          plain tail (cs.is_last rest) (cs.statement_meaning c1 (tail && cs.is_last rest) (tree.while_ test body at) env s) (statement (signatures items) scene free (tree.while_ test body at)) (cs.items_meaning c1 tail rest env) (statements (signatures items) scene (free + length (objects_of (tree.while_ test body at))) rest) (placed frame spots objects env) u s.left (last_same (signatures items) scene (free + length (objects_of (tree.while_ test body at))) rest) (first refl) next
      item_same tail rest (tree.do_ body test at) awaits known first next =
          plain tail (cs.is_last rest) (cs.statement_meaning c1 (tail && cs.is_last rest) (tree.do_ body test at) env s) (statement (signatures items) scene free (tree.do_ body test at)) (cs.items_meaning c1 tail rest env) (statements (signatures items) scene (free + length (objects_of (tree.do_ body test at))) rest) (placed frame spots objects env) u s.left (last_same (signatures items) scene (free + length (objects_of (tree.do_ body test at))) rest) (first refl) next
      item_same tail rest (tree.for_ init test step body at) awaits known first next =
          plain tail (cs.is_last rest) (cs.statement_meaning c1 (tail && cs.is_last rest) (tree.for_ init test step body at) env s) (statement (signatures items) scene free (tree.for_ init test step body at)) (cs.items_meaning c1 tail rest env) (statements (signatures items) scene (free + length (objects_of (tree.for_ init test step body at))) rest) (placed frame spots objects env) u s.left (last_same (signatures items) scene (free + length (objects_of (tree.for_ init test step body at))) rest) (first refl) next
      item_same tail rest (tree.break_ at) awaits known first next =
          plain tail (cs.is_last rest) (cs.statement_meaning c1 (tail && cs.is_last rest) (tree.break_ at) env s) (statement (signatures items) scene free (tree.break_ at)) (cs.items_meaning c1 tail rest env) (statements (signatures items) scene (free + length (objects_of (tree.break_ at))) rest) (placed frame spots objects env) u s.left (last_same (signatures items) scene (free + length (objects_of (tree.break_ at))) rest) (first refl) next
      item_same tail rest (tree.continue_ at) awaits known first next =
          plain tail (cs.is_last rest) (cs.statement_meaning c1 (tail && cs.is_last rest) (tree.continue_ at) env s) (statement (signatures items) scene free (tree.continue_ at)) (cs.items_meaning c1 tail rest env) (statements (signatures items) scene (free + length (objects_of (tree.continue_ at))) rest) (placed frame spots objects env) u s.left (last_same (signatures items) scene (free + length (objects_of (tree.continue_ at))) rest) (first refl) next
      item_same tail rest (tree.return_ v at) awaits known first next =
          plain tail (cs.is_last rest) (cs.statement_meaning c1 (tail && cs.is_last rest) (tree.return_ v at) env s) (statement (signatures items) scene free (tree.return_ v at)) (cs.items_meaning c1 tail rest env) (statements (signatures items) scene (free + length (objects_of (tree.return_ v at))) rest) (placed frame spots objects env) u s.left (last_same (signatures items) scene (free + length (objects_of (tree.return_ v at))) rest) (first refl) next

      abbrev HeadSame : StmtTree → Type 0
      HeadSame b =
          Awaits homes (placed frame spots objects env) env.next scene.next (declared_by b ++ []) → StmtResolved items scene free b
          → (DeclaresNothing b → Same (Equal (Alike homes)) (cs.statement_meaning c1 false b env s) (ks.statement c2 false (statement (signatures items) scene free b) (placed frame spots objects env) u s.left))
          → Same (Equal (Alike homes)) (cs.statement_meaning c1 false b env s) (ks.statements c2 false (stmt_row (item (signatures items) scene (declared_by b) (statement (signatures items) scene free b))) (placed frame spots objects env) u s.left)

      -- the head of a `for`
      head_same : (b : StmtTree) → HeadSame b
      head_same (tree.declare []) awaits known first = alone (cs.statement_meaning c1 false (tree.declare []) env s) (statement (signatures items) scene free (tree.declare [])) (placed frame spots objects env) u s.left (first refl)
      head_same (tree.declare (o ∷ os)) awaits known first =
          subst (λ l. Same (Equal (Alike homes)) (cs.statement_meaning c1 false (tree.declare (o ∷ os)) env s) (ks.statements c2 false (stmt_row l) (placed frame spots objects env) u s.left)) (append-nil (declarations (signatures items) scene (o ∷ os)))
          (declarations_same items file file_names c1 c2 calls results frame params spots objects homes free stands false [] (λ s1. c.goes end.Normal s1) (o ∷ os) [] env scene s u awaits known named h (λ s1 u1 h1. goes_equal (Alike homes) end.Normal s1 u1 h1))
      head_same (tree.block body) awaits known first = alone (cs.statement_meaning c1 false (tree.block body) env s) (statement (signatures items) scene free (tree.block body)) (placed frame spots objects env) u s.left (first refl)
      head_same (tree.act actions) awaits known first = alone (cs.statement_meaning c1 false (tree.act actions) env s) (statement (signatures items) scene free (tree.act actions)) (placed frame spots objects env) u s.left (first refl)
      head_same (tree.if_ test body other at) awaits known first = alone (cs.statement_meaning c1 false (tree.if_ test body other at) env s) (statement (signatures items) scene free (tree.if_ test body other at)) (placed frame spots objects env) u s.left (first refl)
      head_same (tree.switch_ test body at) awaits known first = alone (cs.statement_meaning c1 false (tree.switch_ test body at) env s) (statement (signatures items) scene free (tree.switch_ test body at)) (placed frame spots objects env) u s.left (first refl)
      head_same (tree.case_ v body at) awaits known first = alone (cs.statement_meaning c1 false (tree.case_ v body at) env s) (statement (signatures items) scene free (tree.case_ v body at)) (placed frame spots objects env) u s.left (first refl)
      head_same (tree.while_ test body at) awaits known first = alone (cs.statement_meaning c1 false (tree.while_ test body at) env s) (statement (signatures items) scene free (tree.while_ test body at)) (placed frame spots objects env) u s.left (first refl)
      head_same (tree.do_ body test at) awaits known first = alone (cs.statement_meaning c1 false (tree.do_ body test at) env s) (statement (signatures items) scene free (tree.do_ body test at)) (placed frame spots objects env) u s.left (first refl)
      head_same (tree.for_ init test step body at) awaits known first = alone (cs.statement_meaning c1 false (tree.for_ init test step body at) env s) (statement (signatures items) scene free (tree.for_ init test step body at)) (placed frame spots objects env) u s.left (first refl)
      head_same (tree.break_ at) awaits known first = alone (cs.statement_meaning c1 false (tree.break_ at) env s) (statement (signatures items) scene free (tree.break_ at)) (placed frame spots objects env) u s.left (first refl)
      head_same (tree.continue_ at) awaits known first = alone (cs.statement_meaning c1 false (tree.continue_ at) env s) (statement (signatures items) scene free (tree.continue_ at)) (placed frame spots objects env) u s.left (first refl)
      head_same (tree.return_ v at) awaits known first = alone (cs.statement_meaning c1 false (tree.return_ v at) env s) (statement (signatures items) scene free (tree.return_ v at)) (placed frame spots objects env) u s.left (first refl)

  -- ---- statements

  module _ (own : (i : ℕ) → params ≤ i → spots i ≡ spot frame i) where
    -- what is shown of the parts of a statement
    abbrev StmtSame : Bool → StmtTree → Type 0
    StmtSame tail b = (env : Environment) (scene : Scene) (homes : List Home) (free : ℕ) (s : State) (u : Cells)
        → params ≤ free → Stands file file_names homes frame free → Named homes (placed frame spots objects env) env.file env.names scene.names → Has objects free (objects_of b) → DeclaresNothing b → StmtResolved items scene free b → Alike homes s.objects u
        → Same (Equal (Alike homes)) (cs.statement_meaning c1 tail b env s) (ks.statement c2 tail (statement (signatures items) scene free b) (placed frame spots objects env) u s.left)

    abbrev FirstSame : FirstTree → Type 0
    FirstSame b = (env : Environment) (scene : Scene) (homes : List Home) (free : ℕ) (s : State) (u : Cells)
        → params ≤ free → Stands file file_names homes frame free → Named homes (placed frame spots objects env) env.file env.names scene.names → Has objects free (first_objects b) → Awaits homes (placed frame spots objects env) env.next scene.next (declared_first b ++ [])
        → FirstResolved items scene free b → Alike homes s.objects u
        → Same (Equal (Alike homes)) (cs.first_meaning c1 b env s) (ks.statements c2 false (stmt_row (first_statements (signatures items) scene free b)) (placed frame spots objects env) u s.left)

    abbrev ItemsSame : Bool → StmtTrees → Type 0
    ItemsSame tail body = (env : Environment) (scene : Scene) (homes : List Home) (free : ℕ) (s : State) (u : Cells)
        → params ≤ free → Stands file file_names homes frame free → Named homes (placed frame spots objects env) env.file env.names scene.names → Has objects free (objects_within body) → Awaits homes (placed frame spots objects env) env.next scene.next (declared_in body)
        → StmtsResolved items scene free body → Alike homes s.objects u
        → Same (Equal (Alike homes)) (cs.items_meaning c1 tail body env s) (ks.statements c2 tail (stmt_row (statements (signatures items) scene free body)) (placed frame spots objects env) u s.left)

    abbrev JumpSame : (Option Tree → Bool) → (Option ℕ → Bool) → StmtTrees → Type 0
    JumpSame wanted wanted' body = (env : Environment) (scene : Scene) (homes : List Home) (free : ℕ) (s : State) (u : Cells)
        → params ≤ free → Stands file file_names homes frame free → Named homes (placed frame spots objects env) env.file env.names scene.names → Has objects free (objects_within body) → Awaits homes (placed frame spots objects env) env.next scene.next (declared_in body)
        → StmtsResolved items scene free body → Agree scene.labels wanted wanted' → Alike homes s.objects u
        → Same (Equal (Alike homes)) (cs.jump_meaning c1 wanted body env s) (ks.jump c2 wanted' (stmt_row (statements (signatures items) scene free body)) (placed frame spots objects env) u s.left)

    -- a block with its objects
    block_step : (tail : Bool) (body : StmtTrees) → ItemsSame tail body → (env : Environment) (scene : Scene) (homes : List Home) (free : ℕ) (s : State) (u : Cells)
        → params ≤ free → Stands file file_names homes frame free → Named homes (placed frame spots objects env) env.file env.names scene.names → Has objects free (declared_in body ++ objects_within body)
        → StmtsResolved items (opened scene free) (free + length (declared_in body)) body → Alike homes s.objects u
        → Same (Equal (Alike homes)) (cs.in_block (declared_in body) (cs.items_meaning c1 tail body) env s)
        (ks.statements c2 tail (stmt_row (statements (signatures items) (opened scene free) (free + length (declared_in body)) body)) (placed frame spots objects env) (entered (placed frame spots objects env) (from free (length (declared_in body))) u) s.left)
    block_step tail body then_items env scene homes free s u le stands named has known h =
        let os = declared_in body in
        let here = placed frame spots objects env in
        in_block_same items file file_names c1 c2 calls results frame params spots objects own os env homes free s u (cs.items_meaning c1 tail body) (ks.statements c2 tail (stmt_row (statements (signatures items) (opened scene free) (free + length os) body)) here)
        le (has_front objects free os (objects_within body) has) stands h (λ stands1 awaits s1 u1 h1.
        then_items (inside s env) (opened scene free) (homes ++ new_homes frame free os) (free + length os) s1 u1 (omega arith) stands1 (named_more homes (new_homes frame free os) here env.file env.names scene.names named)
        (has_back objects free os (objects_within body) has) awaits known h1)

    switch_step : (tail : Bool) (test : Tree) (body : StmtTrees) (at : Place) → ((wanted : Option Tree → Bool) (wanted' : Option ℕ → Bool) → JumpSame wanted wanted' body) → (env : Environment) (scene : Scene) (homes : List Home) (free : ℕ) (s : State) (u : Cells)
        → params ≤ free → Stands file file_names homes frame free → Named homes (placed frame spots objects env) env.file env.names scene.names → Has objects free (declared_in body ++ objects_within body) → StmtResolved items scene free (tree.switch_ test body at) → Alike homes s.objects u
        → Same (Equal (Alike homes)) (cs.statement_meaning c1 tail (tree.switch_ test body at) env s) (ks.statement c2 tail (statement (signatures items) scene free (tree.switch_ test body at)) (placed frame spots objects env) u s.left)
    switch_step tail test body at then_jump env scene homes free s u le stands named has known h =
        let os = declared_in body in
        let here = placed frame spots objects env in
        let test' = elaborated (signatures items) scene.names test in
        let kind = promoted (kind_of test') in
        let inner = labelled_by kind (opened scene free) in
        let body' = stmt_row (statements (signatures items) inner (free + length os) body) in
        subst (λ z. Same (Equal (Alike homes)) (cs.statement_meaning c1 tail (tree.switch_ test body at) env s)
        (r.then_ (ke.expression c2 true test' here u s.left) (λ x u1 n1.
        r.then_ (ks.jump c2 (ks.target_label (ks.switch_word z x) body') body' here (entered here (from free (length os)) u1) n1) (λ e u2 n2. ks.behind_breakable e at here u2 n2)))) (sym (same_kind test'))
        (then_valued (Alike homes) (kind_of test') (Equal (Alike homes)) _ _ _ _
        (expression_same items file file_names c1 c2 calls results frame free spots objects homes stands env scene.names named true test s u known.0 h) (λ x s1 u1 h1.
        then_equal (Alike homes) (Equal (Alike homes)) _ _ _ _
        (in_block_same items file file_names c1 c2 calls results frame params spots objects own os env homes free s1 u1 (cs.jump_meaning c1 (cs.target_label kind (convert kind x) body) body) (ks.jump c2 (ks.target_label (pattern kind (convert kind x)) body') body' here)
        le (has_front objects free os (objects_within body) has) stands h1 (λ stands1 awaits s2 u2 h2.
        then_jump (cs.target_label kind (convert kind x) body) (ks.target_label (pattern kind (convert kind x)) body') (inside s1 env) inner (homes ++ new_homes frame free os) (free + length os) s2 u2 (omega arith) stands1
        (named_more homes (new_homes frame free os) here env.file env.names scene.names named) (has_back objects free os (objects_within body) has) awaits known.1 (target_agrees items kind x body inner (free + length os) refl known.1) h2))
        (λ e s2 u2 h2. behind_breakable_same (Alike homes) frame spots objects e at env s2 u2 h2)))

    for_step : (init : FirstTree) (test : Option Tree) (step : List ActionTree) (body : StmtTree) (at : Place) → FirstSame init → StmtSame false body → (env : Environment) (scene : Scene) (homes : List Home) (free : ℕ) (s : State) (u : Cells)
        → params ≤ free → Stands file file_names homes frame free → Named homes (placed frame spots objects env) env.file env.names scene.names → Has objects free ((declared_first init ++ first_objects init) ++ objects_of body)
        → StmtResolved items scene free (tree.for_ init test step body at) → Alike homes s.objects u
        → Same (Equal (Alike homes)) (cs.statement_meaning c1 false (tree.for_ init test step body at) env s) (ks.statement c2 false (statement (signatures items) scene free (tree.for_ init test step body at)) (placed frame spots objects env) u s.left)
    for_step init test step body at then_first then_body env scene homes free s u le stands named has known h =
        let os = declared_first init in
        let here = placed frame spots objects env in
        let new = homes ++ new_homes frame free os in
        let heads = has_front objects free (os ++ first_objects init) (objects_of body) has in
        let env1 = inside s env in
        let inner = opened scene free in
        let env2 = all_declared env1 os in
        let inner2 = scenes.all_declared inner os in
        let below = free + length (os ++ first_objects init) in
        let g : Cells → ℕ → r.Ran Cells Completion =
        (λ u1 n1. r.then_ (ks.statements c2 false (stmt_row (first_statements (signatures items) inner (free + length os) init)) here u1 n1) (λ v u2 n2.
        ks.loop at here (ks.test_first c2 (option_map (elaborated (signatures items) inner2.names) test) (ks.statement c2 false (statement (signatures items) inner2 below body) here) (map (action_elaborated (signatures items) inner2.names) step) at here) u2 n2)) in
        in_block_same items file file_names c1 c2 calls results frame params spots objects own os env homes free s u
        (λ env1 s1. c.then_ (cs.first_meaning c1 init env1 s1) (λ v s2. cs.loop at (all_declared env1 os) (cs.test_first c1 test (cs.statement_meaning c1 false body) step at (all_declared env1 os)) s2)) g
        le (has_front objects free os (first_objects init) heads) stands h (λ stands1 awaits s1 u1 h1.
        let awaits1 = subst (λ l. Awaits new here env1.next inner.next l) (sym (append-nil os)) awaits in
        let named1 = named_more homes (new_homes frame free os) here env.file env.names scene.names named in
        let same_place = placed_all frame spots objects env1 os in
        let more : free + length os ≤ below = first_below os (first_objects init) free in
        then_equal (Alike new) (Equal (Alike new)) _ _ _ _
        (then_first env1 inner new (free + length os) s1 u1 (omega arith) stands1 named1 (has_back objects free os (first_objects init) heads) awaits1 known.0 h1) (λ v s2 u2 h2.
        subst (λ (z : Here). Same (Equal (Alike new)) (cs.loop at env2 (cs.test_first c1 test (cs.statement_meaning c1 false body) step at env2) s2)
        (ks.loop at z (ks.test_first c2 (option_map (elaborated (signatures items) inner2.names) test) (ks.statement c2 false (statement (signatures items) inner2 below body) z) (map (action_elaborated (signatures items) inner2.names) step) at z) u2 s2.left)) same_place
        (let stands2 = stands_more file file_names new frame (free + length os) below more stands1 in
        let named2 : Named new (placed frame spots objects env2) env2.file env2.names inner2.names =
        subst (λ (z : Here). Named new z env2.file env2.names inner2.names) (sym same_place)
        (subst (λ l. Named new here l env2.names inner2.names) (sym (file_all env1 os)) (named_all new here os [] env.file env1 inner (first_lengths items inner (free + length os) init known.0) awaits1 named1)) in
        loop_same (Alike new) frame spots objects at env2 _ _ (λ s3 u3 h3.
        test_first_same items file file_names c1 c2 calls results frame params spots objects env2 inner2.names new below stands2 named2
        (cs.statement_meaning c1 false body) (ks.statement c2 false (statement (signatures items) inner2 below body) (placed frame spots objects env2))
        (λ s4 u4 h4. then_body env2 inner2 new below s4 u4 (omega (arith, more)) stands2 named2 (has_back objects free (os ++ first_objects init) (objects_of body) has) known.3 known.4 h4) test step at s3 u3 known.1 known.2 h3) s2 u2 h2)))

    rest_step : (tail : Bool) (first : StmtTree) (rest : StmtTrees) → ItemsSame tail rest → (env : Environment) (scene : Scene) (homes : List Home) (free : ℕ) (s : State) (u : Cells)
        → params ≤ free → Stands file file_names homes frame free → Named homes (placed frame spots objects env) env.file env.names scene.names → Has objects free (objects_of first ++ objects_within rest)
        → Awaits homes (placed frame spots objects env) env.next scene.next (declared_by first ++ declared_in rest) → StmtsResolved items scene free (tree.more_stmts first rest) → Alike homes s.objects u
        → Same (Equal (Alike homes)) (cs.items_meaning c1 tail rest (all_declared env (declared_by first)) s)
        (ks.statements c2 tail (stmt_row (statements (signatures items) (scenes.all_declared scene (declared_by first)) (free + length (objects_of first)) rest)) (placed frame spots objects env) u s.left)
    rest_step tail first rest then_items env scene homes free s u le stands named has awaits known h =
        let os = declared_by first in
        let here = placed frame spots objects env in
        let env1 = all_declared env os in
        let inner = scenes.all_declared scene os in
        let below = free + length (objects_of first) in
        let same_place = placed_all frame spots objects env os in
        subst (λ (z : Here). Same (Equal (Alike homes)) (cs.items_meaning c1 tail rest env1 s) (ks.statements c2 tail (stmt_row (statements (signatures items) inner below rest)) z u s.left)) same_place
        (then_items env1 inner homes below s u (omega arith) (stands_more file file_names homes frame free below (omega arith) stands)
        (subst (λ (z : Here). Named homes z env1.file env1.names inner.names) (sym same_place)
        (subst (λ l. Named homes here l env1.names inner.names) (sym (file_all env os)) (named_all homes here os (declared_in rest) env.file env scene (lengths_by items scene free first known.0) awaits named)))
        (has_back objects free (objects_of first) (objects_within rest) has)
        (subst (λ (z : Here). Awaits homes z env1.next inner.next (declared_in rest)) (sym same_place) (awaits_all homes here os (declared_in rest) env scene awaits))
        known.1 h)

    mutual
      pub statement_same : (tail : Bool) (b : StmtTree) (env : Environment) (scene : Scene) (homes : List Home) (free : ℕ) (s : State) (u : Cells)
          → params ≤ free → Stands file file_names homes frame free → Named homes (placed frame spots objects env) env.file env.names scene.names → Has objects free (objects_of b) → DeclaresNothing b → StmtResolved items scene free b → Alike homes s.objects u
          → Same (Equal (Alike homes)) (cs.statement_meaning c1 tail b env s) (ks.statement c2 tail (statement (signatures items) scene free b) (placed frame spots objects env) u s.left)
      statement_same tail (tree.declare os) env scene homes free s u le stands named has none known h =
          subst (λ l. Same (Equal (Alike homes)) (c.then_ (cs.declare_all c1 l env s) (λ v s1. c.goes end.Normal s1)) (r.goes end.Normal u s.left)) (sym none) (goes_equal (Alike homes) end.Normal s u h)
      statement_same tail (tree.block body) env scene homes free s u le stands named has none known h =
          block_step tail body (items_same tail body) env scene homes free s u le stands named has known h
      statement_same tail (tree.act actions) env scene homes free s u le stands named has none known h =
          then_equal (Alike homes) (Equal (Alike homes)) _ _ _ _ (act_all_same items file file_names c1 c2 calls results frame params spots objects env scene.names homes free stands named actions s u known h) (λ v s1 u1 h1.
          goes_equal (Alike homes) end.Normal s1 u1 h1)
      statement_same tail (tree.if_ test body other at) env scene homes free s u le stands named has none known h =
          let beside = free + length (objects_of body) in
          then_valued (Alike homes) (kind_of (elaborated (signatures items) scene.names test)) (Equal (Alike homes)) _ _ _ _
          (expression_same items file file_names c1 c2 calls results frame free spots objects homes stands env scene.names named true test s u known.0 h) (λ x s1 u1 h1.
          then_equal (Alike homes) (Equal (Alike homes)) _ _ _ _
          (if_same (Equal (Alike homes)) (is_true x) _ _ _ _
          (reached_same (Alike homes) frame spots objects (Equal (Alike homes)) point.Arm at env (cs.statement_meaning c1 tail body env) (ks.statement c2 tail (statement (signatures items) scene free body) (placed frame spots objects env))
          (λ s2 u2 h2. statement_same tail body env scene homes free s2 u2 le stands named (has_front objects free (objects_of body) (else_objects other) has) known.1 known.2 h2) s1 u1 h1)
          (else_same tail other env scene homes beside s1 u1 (omega arith) (stands_more file file_names homes frame free beside (omega arith) stands) named (has_back objects free (objects_of body) (else_objects other) has) known.3 h1))
          (λ e s2 u2 h2. behind_if_same (Alike homes) frame spots objects e at env s2 u2 h2))
      statement_same tail (tree.switch_ test body at) env scene homes free s u le stands named has none known h =
          switch_step tail test body at (λ wanted wanted'. jump_same wanted wanted' body) env scene homes free s u le stands named has known h
      statement_same tail (tree.case_ v body at) env scene homes free s u le stands named has none known h =
          reached_same (Alike homes) frame spots objects (Equal (Alike homes)) point.Arm at env (cs.statement_meaning c1 false body env) (ks.statement c2 false (statement (signatures items) scene free body) (placed frame spots objects env))
          (λ s2 u2 h2. statement_same false body env scene homes free s2 u2 le stands named has known.1 known.2 h2) s u h
      statement_same tail (tree.while_ test body at) env scene homes free s u le stands named has none known h =
          loop_same (Alike homes) frame spots objects at env _ _ (λ s1 u1 h1.
          test_first_same items file file_names c1 c2 calls results frame params spots objects env scene.names homes free stands named (cs.statement_meaning c1 false body) (ks.statement c2 false (statement (signatures items) scene free body) (placed frame spots objects env))
          (λ s2 u2 h2. statement_same false body env scene homes free s2 u2 le stands named has known.1 known.2 h2) (Some test) [] at s1 u1 known.0 tt h1) s u h
      statement_same tail (tree.do_ body test at) env scene homes free s u le stands named has none known h =
          loop_same (Alike homes) frame spots objects at env _ _ (λ s1 u1 h1.
          test_last_same items file file_names c1 c2 calls results frame params spots objects env scene.names homes free stands named (cs.statement_meaning c1 false body) (ks.statement c2 false (statement (signatures items) scene free body) (placed frame spots objects env))
          (λ s2 u2 h2. statement_same false body env scene homes free s2 u2 le stands named has known.1 known.2 h2) test at s1 u1 known.0 h1) s u h
      statement_same tail (tree.for_ init test step body at) env scene homes free s u le stands named has none known h =
          for_step init test step body at (first_same init) (statement_same false body) env scene homes free s u le stands named has known h
      statement_same tail (tree.break_ at) env scene homes free s u le stands named has none known h = goes_equal (Alike homes) end.Broke s u h
      statement_same tail (tree.continue_ at) env scene homes free s u le stands named has none known h = goes_equal (Alike homes) end.Continued s u h
      statement_same tail (tree.return_ v at) env scene homes free s u le stands named has none known h =
          then_equal (Alike homes) (Equal (Alike homes)) _ _ _ _ (returned_same items file file_names c1 c2 calls results frame params spots objects env scene.names homes free stands named v s u known h) (λ n s1 u1 h1.
          goes_equal (Alike homes) (end.Returned n tail) s1 u1 h1)

      else_same : (tail : Bool) (b : ElseTree) (env : Environment) (scene : Scene) (homes : List Home) (free : ℕ) (s : State) (u : Cells)
          → params ≤ free → Stands file file_names homes frame free → Named homes (placed frame spots objects env) env.file env.names scene.names → Has objects free (else_objects b) → ElseResolved items scene free b → Alike homes s.objects u
          → Same (Equal (Alike homes)) (cs.else_meaning c1 tail b env s) (ks.else_ c2 tail (else_statement (signatures items) scene free b) (placed frame spots objects env) u s.left)
      else_same tail tree.no_else env scene homes free s u le stands named has known h = goes_equal (Alike homes) end.Normal s u h
      else_same tail (tree.else_ at body) env scene homes free s u le stands named has known h =
          reached_same (Alike homes) frame spots objects (Equal (Alike homes)) point.Arm at env (cs.statement_meaning c1 tail body env) (ks.statement c2 tail (statement (signatures items) scene free body) (placed frame spots objects env))
          (λ s2 u2 h2. statement_same tail body env scene homes free s2 u2 le stands named has known.0 known.1 h2) s u h

      first_same : (b : FirstTree) (env : Environment) (scene : Scene) (homes : List Home) (free : ℕ) (s : State) (u : Cells)
          → params ≤ free → Stands file file_names homes frame free → Named homes (placed frame spots objects env) env.file env.names scene.names → Has objects free (first_objects b) → Awaits homes (placed frame spots objects env) env.next scene.next (declared_first b ++ [])
          → FirstResolved items scene free b → Alike homes s.objects u
          → Same (Equal (Alike homes)) (cs.first_meaning c1 b env s) (ks.statements c2 false (stmt_row (first_statements (signatures items) scene free b)) (placed frame spots objects env) u s.left)
      first_same tree.no_first env scene homes free s u le stands named has awaits known h = goes_equal (Alike homes) end.Normal s u h
      first_same (tree.first part) env scene homes free s u le stands named has awaits known h =
          head_same homes free stands env scene named s u h part awaits known (λ none. statement_same false part env scene homes free s u le stands named has none known h)

      pub items_same : (tail : Bool) (body : StmtTrees) (env : Environment) (scene : Scene) (homes : List Home) (free : ℕ) (s : State) (u : Cells)
          → params ≤ free → Stands file file_names homes frame free → Named homes (placed frame spots objects env) env.file env.names scene.names → Has objects free (objects_within body) → Awaits homes (placed frame spots objects env) env.next scene.next (declared_in body)
          → StmtsResolved items scene free body → Alike homes s.objects u
          → Same (Equal (Alike homes)) (cs.items_meaning c1 tail body env s) (ks.statements c2 tail (stmt_row (statements (signatures items) scene free body)) (placed frame spots objects env) u s.left)
      items_same tail tree.no_stmt env scene homes free s u le stands named has awaits known h = goes_equal (Alike homes) end.Normal s u h
      items_same tail (tree.more_stmts first rest) env scene homes free s u le stands named has awaits known h =
          item_same homes free stands env scene named s u h tail rest first awaits known.0
          (λ none. statement_same (tail && cs.is_last rest) first env scene homes free s u le stands named (has_front objects free (objects_of first) (objects_within rest) has) none known.0 h)
          (λ s1 u1 h1. rest_step tail first rest (items_same tail rest) env scene homes free s1 u1 le stands named has awaits known h1)

      jump_same : (wanted : Option Tree → Bool) (wanted' : Option ℕ → Bool) (body : StmtTrees) (env : Environment) (scene : Scene) (homes : List Home) (free : ℕ) (s : State) (u : Cells)
          → params ≤ free → Stands file file_names homes frame free → Named homes (placed frame spots objects env) env.file env.names scene.names → Has objects free (objects_within body) → Awaits homes (placed frame spots objects env) env.next scene.next (declared_in body)
          → StmtsResolved items scene free body → Agree scene.labels wanted wanted' → Alike homes s.objects u
          → Same (Equal (Alike homes)) (cs.jump_meaning c1 wanted body env s) (ks.jump c2 wanted' (stmt_row (statements (signatures items) scene free body)) (placed frame spots objects env) u s.left)
      jump_same wanted wanted' tree.no_stmt env scene homes free s u le stands named has awaits known agree h = goes_equal (Alike homes) end.Normal s u h
      jump_same wanted wanted' (tree.more_stmts first rest) env scene homes free s u le stands named has awaits known agree h =
          let os = declared_by first in
          let here = placed frame spots objects env in
          let env1 = all_declared env os in
          let inner = scenes.all_declared scene os in
          let below = free + length (objects_of first) in
          let same_place = placed_all frame spots objects env os in
          let first' = statement (signatures items) scene free first in
          let rest' = statements (signatures items) inner below rest in
          let q = cs.jump_meaning c1 wanted (tree.more_stmts first rest) env s in
          subst (λ z. Same (Equal (Alike homes)) q z) (sym (jump_item items (signatures items) wanted wanted' c2 first scene free rest' here u s.left))
          (subst (λ z. Same (Equal (Alike homes)) q
          (if z then r.then_ (ks.labelled c2 wanted' first' here u s.left) (λ e u1 n1. ks.go_on e (ks.statements c2 false (stmt_row rest') here) u1 n1) else ks.jump c2 wanted' (stmt_row rest') here u s.left))
          (has_same items (signatures items) wanted wanted' first scene free agree known.0)
          (if_same (Equal (Alike homes)) (cs.has_label wanted first) _ _ _ _
          (then_equal (Alike homes) (Equal (Alike homes)) _ _ _ _
          (labelled_same wanted wanted' first env scene homes free s u le stands named (has_front objects free (objects_of first) (objects_within rest) has) known.0 agree h) (λ e s1 u1 h1.
          go_on_same (Alike homes) frame spots objects e _ _ (λ s2 u2 h2. rest_step false first rest (items_same false rest) env scene homes free s2 u2 le stands named has awaits known h2) s1 u1 h1))
          (subst (λ (z : Here). Same (Equal (Alike homes)) (cs.jump_meaning c1 wanted rest env1 s) (ks.jump c2 wanted' (stmt_row rest') z u s.left)) same_place
          (jump_same wanted wanted' rest env1 inner homes below s u (omega arith) (stands_more file file_names homes frame free below (omega arith) stands)
          (subst (λ (z : Here). Named homes z env1.file env1.names inner.names) (sym same_place)
          (subst (λ l. Named homes here l env1.names inner.names) (sym (file_all env os)) (named_all homes here os (declared_in rest) env.file env scene (lengths_by items scene free first known.0) awaits named)))
          (has_back objects free (objects_of first) (objects_within rest) has)
          (subst (λ (z : Here). Awaits homes z env1.next inner.next (declared_in rest)) (sym same_place) (awaits_all homes here os (declared_in rest) env scene awaits))
          known.1 (subst (λ z. Agree z wanted wanted') (sym (labels_all scene os)) agree) h))))

      labelled_same : (wanted : Option Tree → Bool) (wanted' : Option ℕ → Bool) (b : StmtTree) (env : Environment) (scene : Scene) (homes : List Home) (free : ℕ) (s : State) (u : Cells)
          → params ≤ free → Stands file file_names homes frame free → Named homes (placed frame spots objects env) env.file env.names scene.names → Has objects free (objects_of b) → StmtResolved items scene free b → Agree scene.labels wanted wanted' → Alike homes s.objects u
          → Same (Equal (Alike homes)) (cs.labelled_meaning c1 wanted b env s) (ks.labelled c2 wanted' (statement (signatures items) scene free b) (placed frame spots objects env) u s.left)
      labelled_same wanted wanted' (tree.case_ v body at) env scene homes free s u le stands named has known agree h =
          let here = placed frame spots objects env in
          let body' = statement (signatures items) scene free body in
          subst (λ z. Same (Equal (Alike homes)) (cs.labelled_meaning c1 wanted (tree.case_ v body at) env s)
          (if z then ks.arm at here (ks.statement c2 false body' here) u s.left else ks.labelled c2 wanted' body' here u s.left)) (agree v known.0)
          (if_same (Equal (Alike homes)) (wanted v) _ _ _ _
          (reached_same (Alike homes) frame spots objects (Equal (Alike homes)) point.Arm at env (cs.statement_meaning c1 false body env) (ks.statement c2 false body' here)
          (λ s2 u2 h2. statement_same false body env scene homes free s2 u2 le stands named has known.1 known.2 h2) s u h)
          (labelled_same wanted wanted' body env scene homes free s u le stands named has known.2 agree h))
      labelled_same wanted wanted' (tree.declare os) env scene homes free s u le stands named has known agree h = goes_equal (Alike homes) end.Normal s u h
      labelled_same wanted wanted' (tree.block body) env scene homes free s u le stands named has known agree h = goes_equal (Alike homes) end.Normal s u h
      labelled_same wanted wanted' (tree.act actions) env scene homes free s u le stands named has known agree h = goes_equal (Alike homes) end.Normal s u h
      labelled_same wanted wanted' (tree.if_ test body other at) env scene homes free s u le stands named has known agree h = goes_equal (Alike homes) end.Normal s u h
      labelled_same wanted wanted' (tree.switch_ test body at) env scene homes free s u le stands named has known agree h = goes_equal (Alike homes) end.Normal s u h
      labelled_same wanted wanted' (tree.while_ test body at) env scene homes free s u le stands named has known agree h = goes_equal (Alike homes) end.Normal s u h
      labelled_same wanted wanted' (tree.do_ body test at) env scene homes free s u le stands named has known agree h = goes_equal (Alike homes) end.Normal s u h
      labelled_same wanted wanted' (tree.for_ init test step body at) env scene homes free s u le stands named has known agree h = goes_equal (Alike homes) end.Normal s u h
      labelled_same wanted wanted' (tree.break_ at) env scene homes free s u le stands named has known agree h = goes_equal (Alike homes) end.Normal s u h
      labelled_same wanted wanted' (tree.continue_ at) env scene homes free s u le stands named has known agree h = goes_equal (Alike homes) end.Normal s u h
      labelled_same wanted wanted' (tree.return_ v at) env scene homes free s u le stands named has known agree h = goes_equal (Alike homes) end.Normal s u h

    pub block_same : (tail : Bool) (body : StmtTrees) (env : Environment) (scene : Scene) (homes : List Home) (free : ℕ) (s : State) (u : Cells)
        → params ≤ free → Stands file file_names homes frame free → Named homes (placed frame spots objects env) env.file env.names scene.names → Has objects free (declared_in body ++ objects_within body)
        → StmtsResolved items (opened scene free) (free + length (declared_in body)) body → Alike homes s.objects u
        → Same (Equal (Alike homes)) (cs.in_block (declared_in body) (cs.items_meaning c1 tail body) env s)
        (ks.statements c2 tail (stmt_row (statements (signatures items) (opened scene free) (free + length (declared_in body)) body)) (placed frame spots objects env) (entered (placed frame spots objects env) (from free (length (declared_in body))) u) s.left)
    block_same tail body = block_step tail body (items_same tail body)
