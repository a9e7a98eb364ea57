-- Moves of statements leave of a run what was left before.
use Rattle.std.proofs.Common.{◌≡◌, ℕ, ◌∙◌, sym, refl, List, [], ◌∷◌, ◌&&◌, length, Some, None, Bool, true, false}
use Rattle.hls_base.specs.declared.place.Place.{Place}
use Rattle.hls_base.specs.declared.point.PointKind.TheVariants as point
use Rattle.c_tree.specs.Tree as tree
use Rattle.c_tree.specs.Tree.{Tree, ObjectTree, StmtTree, StmtTrees, ElseTree, FirstTree}
use Rattle.c_value.specs.Operators.{is_true}
use Rattle.c_meaning.specs.declared.value.Completion.{Completion}
use Rattle.c_meaning.specs.declared.value.Completion.TheVariants as end
use Rattle.c_meaning.specs.Store.{State, Environment, all_declared, declared_by, declared_in, declared_first, entered, inside, left_block}
use Rattle.c_meaning.specs.Steps.{Ran, then_, goes, pass}
use Rattle.c_meaning.specs.Expression.{expression_meaning}
use Rattle.c_meaning.specs.Statement.{act_all, arm, behind_if, behind_breakable, branch_meaning, converted_result, declare_all, first_meaning, go_on, in_block, is_last, items_meaning, statement_meaning}
use Rattle.c_machine.specs.Frames as f
use Rattle.c_machine.specs.Frames.{Configuration, Loop, Held, in_environment, scope_left}
use Rattle.c_machine.specs.Rest as rest
use Rattle.c_machine.specs.Rest.{Setting, rest_of, rest_from, setting, state_with, calls_at, with_value, with_end, rounds}
use Rattle.c_machine.specs.Moves.{here, block_entered, first_begun, executed, block_begun, next_item, items_resumed, branched, if_left, switch_left}
use Rattle.c_machine.proofs.ThenLaws.{then_assoc, then_same}
use Rattle.c_machine.proofs.Nesting.{nest3}
use Rattle.c_machine.proofs.LoopMoves.{loop_begun-rest}

-- ---- blocks

-- where no items are left
no_items : (w : Setting) (tail : Bool) (count : ℕ) (k : List f.Frame) (h : Held) (r : Completion) (s : State)
    → with_end w (f.on_end (f.items tail tree.no_stmt count) ∷ k) h r s ≡ with_end w k (scope_left h) r (left_block count s)
no_items w tail count k h end.Normal s = refl
no_items w tail count k h end.Broke s = refl
no_items w tail count k h end.Continued s = refl
no_items w tail count k h (end.Returned n last) s = refl

pub block_begun-rest : (left : ℕ) (tail : Bool) (body : StmtTrees) (m : Configuration) → rest_of left (block_begun tail body m) ≡ rest_from left (f.block tail body) m
block_begun-rest left tail body m =
    sym (then_assoc (items_meaning (calls_at (setting left m) m.stack) tail body (inside (state_with left m) (here m)) (entered (declared_in body) (state_with left m)))
    (λ r s1. goes r (left_block (length m.objects) s1)) (with_end (setting left m) m.stack m.held))

next_item-rest : (left : ℕ) (tail : Bool) (items : StmtTrees) (count : ℕ) (m : Configuration)
    → rest_of left (next_item tail items count m)
    ≡ then_ (items_meaning (calls_at (setting left m) m.stack) tail items (here m) (state_with left m)) (λ r s1. with_end (setting left m) m.stack (scope_left m.held) r (left_block count s1))
next_item-rest left tail tree.no_stmt count m = refl
next_item-rest left tail (tree.more_stmts first others) count m =
    let c = calls_at (setting left m) m.stack in
    sym (then_assoc (statement_meaning c (tail && is_last others) first (here m) (state_with left m))
    (λ r s1. go_on r (items_meaning c tail others (all_declared (here m) (declared_by first))) s1) (λ r s1. with_end (setting left m) m.stack (scope_left m.held) r (left_block count s1)))

pub items_resumed-rest : (left : ℕ) (tail : Bool) (items : StmtTrees) (count : ℕ) (r : Completion) (m : Configuration)
    → rest_of left (items_resumed tail items count r m) ≡ with_end (setting left m) (f.on_end (f.items tail items count) ∷ m.stack) m.held r (state_with left m)
items_resumed-rest left tail items count end.Normal m = next_item-rest left tail items count m
items_resumed-rest left tail items count end.Broke m = refl
items_resumed-rest left tail items count end.Continued m = refl
items_resumed-rest left tail items count (end.Returned n last) m = refl

-- ---- behind an `if` and a switch

point_end : (left : ℕ) (at : Place) (r : Completion) (m : Configuration)
    → then_ (pass point.End at (here m) (state_with left m)) (λ p s1. with_end (setting left m) m.stack m.held r s1)
    ≡ then_ (then_ (pass point.End at (here m) (state_with left m)) (λ p s1. goes r s1)) (with_end (setting left m) m.stack m.held)
point_end left at r m = sym (then_assoc (pass point.End at (here m) (state_with left m)) (λ p s1. goes r s1) (with_end (setting left m) m.stack m.held))

pub if_left-rest : (left : ℕ) (at : Place) (r : Completion) (m : Configuration)
    → rest_of left (if_left at r m) ≡ then_ (behind_if r at (here m) (state_with left m)) (with_end (setting left m) m.stack m.held)
if_left-rest left at end.Normal m = point_end left at end.Normal m
if_left-rest left at end.Broke m = refl
if_left-rest left at end.Continued m = refl
if_left-rest left at (end.Returned n true) m = point_end left at (end.Returned n true) m
if_left-rest left at (end.Returned n false) m = refl

pub switch_left-rest : (left : ℕ) (at : Place) (r : Completion) (m : Configuration)
    → rest_of left (switch_left at r m) ≡ then_ (behind_breakable r at (here m) (state_with left m)) (with_end (setting left m) m.stack m.held)
switch_left-rest left at end.Normal m = point_end left at end.Normal m
switch_left-rest left at end.Broke m = point_end left at end.Normal m
switch_left-rest left at end.Continued m = refl
switch_left-rest left at (end.Returned n tail) m = refl

-- a branch of an `if`, and what comes behind it
branch_begun : (left : ℕ) (tail : Bool) (place : Place) (body : StmtTree) (at : Place) (m : Configuration)
    → then_ (pass point.Arm place (here m) (state_with left m)) (λ p s1. then_ (statement_meaning (calls_at (setting left m) m.stack) tail body (here m) s1)
    (λ r s2. then_ (behind_if r at (here m) s2) (with_end (setting left m) m.stack m.held)))
    ≡ then_ (then_ (arm place (statement_meaning (calls_at (setting left m) m.stack) tail body) (here m) (state_with left m)) (λ r s2. behind_if r at (here m) s2))
    (with_end (setting left m) m.stack m.held)
branch_begun left tail place body at m =
    let c = calls_at (setting left m) m.stack in
    let p = pass point.Arm place (here m) (state_with left m) in
    let part : Unit {0} → State → Ran Completion = λ u s1. statement_meaning c tail body (here m) s1 in
    let behind : Completion → State → Ran Completion = λ r s2. behind_if r at (here m) s2 in
    let k = with_end (setting left m) m.stack m.held in
    sym (nest3 p part behind k
    ∙ then_same p (λ u s1. then_ (then_ (part u s1) behind) k) (λ u s1. then_ (part u s1) (λ r s2. then_ (behind r s2) k)) (λ u s1. then_assoc (part u s1) behind k))

pub branched-rest : (left : ℕ) (tail holds : Bool) (body : StmtTree) (other : ElseTree) (at : Place) (m : Configuration)
    → rest_of left (branched tail holds body other at m)
    ≡ then_ (then_ (branch_meaning (calls_at (setting left m) m.stack) tail holds at body other (here m) (state_with left m)) (λ r s2. behind_if r at (here m) s2))
    (with_end (setting left m) m.stack m.held)
branched-rest left tail true body other at m = branch_begun left tail at body at m
branched-rest left tail false body tree.no_else at m = point_end left at end.Normal m
branched-rest left tail false body (tree.else_ place second) at m = branch_begun left tail place second at m

-- ---- statements

for_left : (left : ℕ) (count : ℕ) (env : Environment) (m : Configuration) (part : Ran Completion)
    → then_ part (with_end (setting left m) (f.on_end (f.items false tree.no_stmt count) ∷ m.stack) (record m.held { environment = env; outer = here m ∷ m.held.outer }))
    ≡ then_ (then_ part (λ r s1. goes r (left_block count s1))) (with_end (setting left m) m.stack m.held)
for_left left count env m part =
    then_same part (with_end (setting left m) (f.on_end (f.items false tree.no_stmt count) ∷ m.stack) (record m.held { environment = env; outer = here m ∷ m.held.outer }))
    (λ r s1. with_end (setting left m) m.stack m.held r (left_block count s1))
    (λ r s1. no_items (setting left m) false count m.stack (record m.held { environment = env; outer = here m ∷ m.held.outer }) r s1)
    ∙ sym (then_assoc part (λ r s1. goes r (left_block count s1)) (with_end (setting left m) m.stack m.held))

for_begun : (left : ℕ) (init : FirstTree) (l : Loop) (m : Configuration)
    → rest_of left (first_begun init l (block_entered (declared_first init) (f.items false tree.no_stmt) m))
    ≡ then_ (in_block (declared_first init) (λ env1 s1. then_ (first_meaning (calls_at (setting left m) m.stack) init env1 s1)
    (λ u s2. rounds (calls_at (setting left m) m.stack) l s2.left (all_declared env1 (declared_first init)) s2)) (here m) (state_with left m))
    (with_end (setting left m) m.stack m.held)
for_begun left tree.no_first l m =
    let m1 = block_entered [] (f.items false tree.no_stmt) m in
    loop_begun-rest left l m1
    ∙ for_left left (length m.objects) (here m1) m (rounds (calls_at (setting left m) m.stack) l left (here m1) (state_with left m1))
for_begun left (tree.first part) l m =
    let m1 = block_entered (declared_by part) (f.items false tree.no_stmt) m in
    let c = calls_at (setting left m) m.stack in
    let env2 = all_declared (here m1) (declared_by part) in
    let first = statement_meaning c false part (here m1) (state_with left m1) in
    let loops : Completion → State → Ran Completion = λ u s2. rounds c l s2.left env2 s2 in
    sym (then_assoc first loops (with_end (setting left m) (f.on_end (f.items false tree.no_stmt (length m.objects)) ∷ m.stack) (in_environment env2 m1.held)))
    ∙ for_left left (length m.objects) env2 m (then_ first loops)

pub executed-rest : (left : ℕ) (tail : Bool) (stmt : StmtTree) (m : Configuration) → rest_of left (executed tail stmt m) ≡ rest_from left (f.execute tail stmt) m
executed-rest left tail (tree.block body) m = refl
executed-rest left tail (tree.declare os) m =
    sym (then_assoc (declare_all (calls_at (setting left m) m.stack) os (here m) (state_with left m)) (λ u s1. goes end.Normal s1)
    (with_end (setting left m) m.stack (in_environment (all_declared (here m) os) m.held)))
executed-rest left tail (tree.act actions) m =
    sym (then_assoc (act_all (calls_at (setting left m) m.stack) actions (here m) (state_with left m)) (λ u s1. goes end.Normal s1) (with_end (setting left m) m.stack m.held))
executed-rest left tail (tree.if_ test body other at) m =
    let c = calls_at (setting left m) m.stack in
    sym (then_assoc (expression_meaning c true test (here m) (state_with left m))
    (λ x s1. then_ (branch_meaning c tail (is_true x.number) at body other (here m) s1) (λ r s2. behind_if r at (here m) s2)) (with_end (setting left m) m.stack m.held))
executed-rest left tail (tree.switch_ test body at) m =
    let c = calls_at (setting left m) m.stack in
    sym (then_assoc (expression_meaning c true test (here m) (state_with left m)) (λ x s1. rest.switched c x body at (here m) s1) (with_end (setting left m) m.stack m.held))
executed-rest left tail (tree.case_ v body at) m =
    sym (then_assoc (pass point.Arm at (here m) (state_with left m)) (λ p s1. statement_meaning (calls_at (setting left m) m.stack) false body (here m) s1)
    (with_end (setting left m) m.stack m.held))
executed-rest left tail (tree.while_ test body at) m = loop_begun-rest left (f.tests_first (Some test) body [] at) m
executed-rest left tail (tree.do_ body test at) m = loop_begun-rest left (f.tests_last test body at) m
executed-rest left tail (tree.for_ init test step body at) m = for_begun left init (f.tests_first test body step at) m
executed-rest left tail (tree.break_ at) m = refl
executed-rest left tail (tree.continue_ at) m = refl
executed-rest left tail (tree.return_ None at) m = refl
executed-rest left tail (tree.return_ (Some v) at) m =
    sym (nest3 (expression_meaning (calls_at (setting left m) m.stack) true v (here m) (state_with left m))
    (λ x s1. goes (Some (converted_result (here m).result x.number)) s1) (λ n s1. goes (end.Returned n tail) s1) (with_end (setting left m) m.stack m.held))
