use Rattle.std.proofs.Common.{◌≡◌, ◌++◌, ◌∙◌, [], map, length, Option, Box, Global, ap, sym, refl, rules}
use Rattle.std.specs.Option.{option_map}
use Rattle.c_tree.specs.declared.statement.Stmt.{Stmt}
use Rattle.c_tree.specs.Tree.{StmtTree, ObjectTree}
use Rattle.c_tree.specs.View.{tree_of, stmt_of, stmts_of, action_of, else_of, else_part, first_part, object_of}
use Rattle.c_meaning.specs.Store.{declared_by, declared_in, declared_first}
use Rattle.pieces.specs.Resolved.Core as core
use Rattle.pieces.specs.Resolved.CoreView.{core_of, core_object_of, core_stmt_of, core_action_of}
use Rattle.c_elaborate.specs.Objects.{object_elaborated, objects_of, first_objects}
use Rattle.c_elaborate.specs.Scenes.{opened, labelled_by, all_declared, returned}
use Rattle.c_elaborate.specs.Expressions.{elaborated, action_elaborated}
use Rattle.c_elaborate.specs.Statements.{statement}
use Rattle.c_elaborate.proofs.Bodies.{IsItem, statement_item, declared_item, turned}
use Rattle.c_elaborate.proofs.Entering.{head_statement, head_declared}
use Rattle.c_elaborate.proofs.Forms.{fused, while_is, if_is, for_is}
use Rattle.c_elaborate.proofs.Parts.{outer_declared, left_again, both, grown, ok_same, ok_always}
use Rattle.c_elaborate.proofs.Trees.{core_act, act_tree, while_tree, if_tree, for_tree}
use Rattle.c_elaborate.proofs.statements.+statements.Goals as goal
use Rattle.c_elaborate.proofs.statements.+statements.Goals.{all-then-is_empty+in_ok-statement+in_ok-push, all-else-is_empty+in_ok-add_declarations, head-in-Some+in_ok-add_objects+then-is_empty+in_ok-statement+in_ok-push, head-in-Some+in_ok-add_objects+else-is_empty+in_ok-add_declarations, head-in_default}

pub switch_block-returns-clause-scene : goal.switch_block-returns-clause-scene
switch_block-returns-clause-scene t c =
    let scene = c.args.scene.now in
    let inside = opened (labelled_by c.args.labels scene) (length c.args.objects.now.items) in
    let os = declared_in (stmts_of c.args.body.now) in
    c.leave.ensures ∙ (ap (returned c.mark-mark.result) c.in_ok-part.ensures.scene
    ∙ left_again scene (all_declared inside os) c.mark-mark.result c.mark-mark.ensures.names c.mark-mark.ensures.next c.mark-mark.ensures.labels (outer_declared scene inside os ([], refl)))

pub inner_block-returns-clause-scene : goal.inner_block-returns-clause-scene
inner_block-returns-clause-scene t c =
    let scene = c.args.scene.now in
    let inside = opened scene (length c.args.objects.now.items) in
    let os = declared_in (stmts_of c.args.body.now) in
    c.leave.ensures ∙ (ap (returned c.mark-mark.result) c.in_ok-part.ensures.scene
    ∙ left_again scene (all_declared inside os) c.mark-mark.result c.mark-mark.ensures.names c.mark-mark.ensures.next c.mark-mark.ensures.labels (outer_declared scene inside os ([], refl)))

pub statement-returns-in_ok-actions-in-Act-clause-stmt : goal.statement-returns-in_ok-actions-in-Act-clause-stmt
statement-returns-in_ok-actions-in-Act-clause-stmt t c =
    let fs = c.args.functions.now in
    let names = c.args.scene.now.names in
    core_act c.in_ok-actions-in-Act.field-0 ∙ ap core.act (c.in_ok-actions-in-Act.ensures ∙ (ap (map (λ a. action_elaborated fs names (action_of a))) c.deref-in-Act.ensures.value ∙ fused (action_elaborated fs names) action_of c.in-Act.list.items))
    ∙ sym (ap (statement fs c.args.scene.now (length c.args.objects.now.items)) (ap stmt_of c.in-Act.is ∙ act_tree c.in-Act.list))

pub statement-returns-in_ok-body-in-While-clause-stmt : goal.statement-returns-in_ok-body-in-While-clause-stmt
statement-returns-in_ok-body-in-While-clause-stmt t c =
    let here = statement c.args.functions.now c.args.scene.now (length c.args.objects.now.items) in
    ok_same core_stmt_of c.while_loop.result _ _
    (while_is c.args.functions.now c.args.scene.now (length c.args.objects.now.items) (tree_of c.in-While.test) (stmt_of c.in-While.body.value) c.in-While.at (core_of c.in_ok-test-in-While.test) (core_stmt_of c.in_ok-body-in-While.body)
    c.in_ok-test-in-While.ensures (c.in_ok-body-in-While.ensures.stmt ∙ ap (λ s. here (stmt_of s)) c.deref-in-While.ensures)
    ∙ sym (ap here (ap stmt_of c.in-While.is ∙ while_tree c.in-While.test c.in-While.body c.in-While.at)))
    c.while_loop.ensures

pub statement-returns-in_ok-no-in-If-clause-objects : goal.statement-returns-in_ok-no-in-If-clause-objects
statement-returns-in_ok-no-in-If-clause-objects t c =
    ok_always c.selection.result _
    (both core_object_of object_elaborated c.args.objects.now.items c.statement.new.objects.items _ (objects_of (stmt_of c.in-If.yes.value)) _
    (c.in_ok-yes-in-If.ensures.objects ∙ ap (λ s. map core_object_of c.args.objects.now.items ++ map object_elaborated (objects_of (stmt_of s))) c.deref-in-If.ensures)
    c.in_ok-no-in-If.ensures.objects
    ∙ ap (λ s. map core_object_of c.args.objects.now.items ++ map object_elaborated (objects_of s)) (sym (ap stmt_of c.in-If.is ∙ if_tree c.in-If.test c.in-If.yes c.in-If.no c.in-If.at)))

pub statement-returns-in_ok-no-in-If-clause-stmt : goal.statement-returns-in_ok-no-in-If-clause-stmt
statement-returns-in_ok-no-in-If-clause-stmt t c =
    let n = length c.args.objects.now.items in
    let here = statement c.args.functions.now c.args.scene.now n in
    let more = c.in_ok-yes-in-If.ensures.objects ∙ ap (λ s. map core_object_of c.args.objects.now.items ++ map object_elaborated (objects_of (stmt_of s))) c.deref-in-If.ensures in
    ok_same core_stmt_of c.selection.result _ _
    (if_is c.args.functions.now c.args.scene.now n (tree_of c.in-If.test) (stmt_of c.in-If.yes.value) (else_part (option_map else_of c.in-If.no)) c.in-If.at
    (length c.statement.new.objects.items) c.statement.new.scene (core_of c.in_ok-test-in-If.test) (core_stmt_of c.in_ok-yes-in-If.yes) _
    (grown core_object_of object_elaborated c.args.objects.now.items c.statement.new.objects.items (objects_of (stmt_of c.in-If.yes.value)) more) c.in_ok-yes-in-If.ensures.scene
    c.in_ok-test-in-If.ensures (c.in_ok-yes-in-If.ensures.stmt ∙ ap (λ s. here (stmt_of s)) c.deref-in-If.ensures) c.in_ok-no-in-If.ensures.stmt
    ∙ sym (ap here (ap stmt_of c.in-If.is ∙ if_tree c.in-If.test c.in-If.yes c.in-If.no c.in-If.at)))
    c.selection.ensures

pub statement-returns-in_ok-body-in-For-clause-scene : goal.statement-returns-in_ok-body-in-For-clause-scene
statement-returns-in_ok-body-in-For-clause-scene t c =
    let scene = c.args.scene.now in
    let inside = opened scene (length c.args.objects.now.items) in
    let os = declared_first (first_part (option_map (λ s. stmt_of s.value) c.in-For.init)) in
    ok_always c.for_loop.result _
    (c.leave.ensures ∙ (ap (returned c.mark-mark.result) (c.in_ok-body-in-For.ensures.scene ∙ c.in_ok-head-in-For.ensures.scene)
    ∙ left_again scene (all_declared inside os) c.mark-mark.result c.mark-mark.ensures.names c.mark-mark.ensures.next c.mark-mark.ensures.labels (outer_declared scene inside os ([], refl))))

pub statement-returns-in_ok-body-in-For-clause-objects : goal.statement-returns-in_ok-body-in-For-clause-objects
statement-returns-in_ok-body-in-For-clause-objects t c =
    ok_always c.for_loop.result _
    (both core_object_of object_elaborated c.args.objects.now.items c.head.new.objects.items c.statement-in-For.new.objects.items _ (objects_of (stmt_of c.in-For.body.value))
    c.in_ok-head-in-For.ensures.objects
    (c.in_ok-body-in-For.ensures.objects ∙ ap (λ s. map core_object_of c.head.new.objects.items ++ map object_elaborated (objects_of (stmt_of s))) c.deref-in-For-2.ensures)
    ∙ ap (λ s. map core_object_of c.args.objects.now.items ++ map object_elaborated (objects_of s)) (sym (ap stmt_of c.in-For.is ∙ for_tree c.in-For.init c.in-For.test c.in-For.step c.in-For.body c.in-For.at)))

pub statement-returns-in_ok-body-in-For-clause-stmt : goal.statement-returns-in_ok-body-in-For-clause-stmt
statement-returns-in_ok-body-in-For-clause-stmt t c =
    let fs = c.args.functions.now in
    let n = length c.args.objects.now.items in
    let names = c.head.new.scene.names in
    let init = first_part (option_map (λ s. stmt_of s.value) c.in-For.init) in
    ok_same core_stmt_of c.for_loop.result _ _
    (for_is fs c.args.scene.now n init (option_map tree_of c.in-For.test) (map action_of c.in-For.step.items) (stmt_of c.in-For.body.value) c.in-For.at
    (length c.head.new.objects.items) c.head.new.scene c.in_ok-head-in-For.head.objects.items (map core_stmt_of c.in_ok-head-in-For.head.body.items) (option_map core_of c.in_ok-test-in-For.test) (map core_action_of c.in_ok-step-in-For.step.items) (core_stmt_of c.in_ok-body-in-For.body)
    c.in_ok-head-in-For.ensures.scene
    (grown core_object_of object_elaborated c.args.objects.now.items c.head.new.objects.items _ c.in_ok-head-in-For.ensures.objects)
    c.in_ok-head-in-For.ensures.numbers c.in_ok-head-in-For.ensures.body c.in_ok-test-in-For.ensures
    (c.in_ok-step-in-For.ensures ∙ (ap (map (λ a. action_elaborated fs names (action_of a))) c.deref-in-For.ensures.value ∙ fused (action_elaborated fs names) action_of c.in-For.step.items))
    (c.in_ok-body-in-For.ensures.stmt ∙ ap (λ s. statement fs c.head.new.scene (length c.head.new.objects.items) (stmt_of s)) c.deref-in-For-2.ensures)
    ∙ sym (ap (statement fs c.args.scene.now n) (ap stmt_of c.in-For.is ∙ for_tree c.in-For.init c.in-For.test c.in-For.step c.in-For.body c.in-For.at)))
    c.for_loop.ensures

pub all-loop-stmt-preserved : goal.all-loop-stmt-preserved
all-loop-stmt-preserved t c =
    let fs = c.args.functions.now in
    let stmt = stmt_of c.stmt-item.result in
    let list = c.loop-stmt.list.items in
    let objects = c.loop-stmt.objects.items in
    let declared = c.declared_by-declared.result.now in
    let one : IsItem fs stmt list c.if-is_empty.list.items c.loop-stmt.scene c.if-is_empty.scene objects c.if-is_empty.objects.items = elim c.if-is_empty.branch [
      | all-then-is_empty+in_ok-statement+in_ok-push w ↦
          statement_item fs stmt list c.if-is_empty.list.items c.loop-stmt.scene c.if-is_empty.scene objects c.if-is_empty.objects.items declared _ c.declared_by-declared.ensures
          (sym c.is_empty.ensures ∙ w.if-is_empty.true) (ap (λ v. v.items) w.list-is ∙ w.in_ok-push.ensures.items) w.in_ok-statement.ensures.stmt (w.scene-is ∙ w.in_ok-statement.ensures.scene)
          (ap (λ v. map core_object_of v.items) w.objects-is ∙ w.in_ok-statement.ensures.objects)
      | all-else-is_empty+in_ok-add_declarations w ↦
          declared_item fs stmt list c.if-is_empty.list.items c.loop-stmt.scene c.if-is_empty.scene objects c.if-is_empty.objects.items declared c.declared_by-declared.ensures
          (sym c.is_empty.ensures ∙ w.if-is_empty.false) (ap (λ v. map core_stmt_of v.items) w.list-is ∙ w.in_ok-add_declarations.ensures.list) (w.scene-is ∙ w.in_ok-add_declarations.ensures.scene)
          (ap (λ v. v.items) w.objects-is)
    ] in
    turned fs _ _ _ c.args.body.now c.loop-stmt.stmt-index c.stmt-item.result list c.if-is_empty.list.items c.loop-stmt.scene c.if-is_empty.scene objects c.if-is_empty.objects.items
    c.loop-stmt-test.true c.stmt-item.is one c.loop-stmt.invariant

pub head-returns-clause-objects : goal.head-returns-clause-objects
head-returns-clause-objects t c =
    let before = c.args.objects.now.items in
    let whole = λ (o : Option (Box Stmt Global)). map core_object_of before ++ map object_elaborated (declared_first (first_part (option_map (λ s. stmt_of s.value) o)) ++ first_objects (first_part (option_map (λ s. stmt_of s.value) o))) in
    elim c.match-init.branch [
      | head-in-Some+in_ok-add_objects+then-is_empty+in_ok-statement+in_ok-push w ↦
          head_statement (stmt_of w.in-Some.part.value) w.declared_by-declared.result.now (w.declared_by-declared.ensures ∙ ap (λ s. declared_by (stmt_of s)) w.deref.ensures) before w.add_objects.new.all.items c.match-init.objects.items w.in_ok-add_objects.ensures.objects
          (ap (λ v. map core_object_of v.items) w.objects-is ∙ (w.in_ok-statement.ensures.objects ∙ ap (λ s. map core_object_of w.add_objects.new.all.items ++ map object_elaborated (objects_of (stmt_of s))) w.deref-then-is_empty.ensures))
          ∙ ap whole (sym w.in-Some.is)
      | head-in-Some+in_ok-add_objects+else-is_empty+in_ok-add_declarations w ↦
          head_declared (stmt_of w.in-Some.part.value) w.declared_by-declared.result.now (w.declared_by-declared.ensures ∙ ap (λ s. declared_by (stmt_of s)) w.deref.ensures) before w.add_objects.new.all.items c.match-init.objects.items w.in_ok-add_objects.ensures.objects
          (sym w.is_empty.ensures ∙ w.if-is_empty.false) (ap (λ v. v.items) w.objects-is)
          ∙ ap whole (sym w.in-Some.is)
      | head-in_default w ↦ search rules
    ]
