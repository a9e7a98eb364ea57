-- Declarations and statements leave each object with its type, its lengths and numbers of its type.
use Rattle.std.proofs.Common.{ℕ, zero, suc, ◌+◌, ◌*◌, List, [], ◌∷◌, map, length, Bool, true, false, ◌&&◌, pos, Option, Some, None, if◌then◌else◌}
use Rattle.hls_base.specs.declared.place.Place.{Place}
use Rattle.hls_base.specs.declared.point.PointKind.TheVariants as point
use Rattle.hls_base.specs.ArrayAddress.{element_count}
use Rattle.c_tree.specs.Tree as tree
use Rattle.c_tree.specs.Tree.{Tree, ActionTree, InitTree, InitTrees, ObjectTree, StmtTree, ElseTree, FirstTree, StmtTrees}
use Rattle.c_value.specs.Values.{promoted, convert}
use Rattle.c_value.specs.Operators.{is_true}
use Rattle.c_meaning.specs.declared.value.Completion.{Completion}
use Rattle.c_meaning.specs.declared.value.Completion.TheVariants as end
use Rattle.c_meaning.specs.declared.value.Round.{Round}
use Rattle.c_meaning.specs.declared.value.Round.TheVariants as round
use Rattle.c_meaning.specs.Store.{State, Environment, unwritten, declared, all_declared, declared_by, declared_in, declared_first, entered, inside, left_block, lengths_in, forget, write_element}
use Rattle.c_meaning.specs.Steps.{Ran, goes, then_}
use Rattle.c_meaning.specs.Expression.{Calls, expression_meaning}
use Rattle.c_meaning.specs.Statement.{zeros, initialise, initialise_rows, declare_object, declare_all, action_tree, act_all, go_on, is_last, in_block, behind_if, arm, behind_breakable, has_label, target_label, round_of, if_again, repeat, completion_of, loop, test_holds, tested, run_body, run_step, test_first, test_last, converted_result, returned_number, statement_meaning, else_meaning, first_meaning, items_meaning, jump_meaning, labelled_meaning}
use Rattle.expanded_programs.proofs.ElaboratedPrograms.StoredNumbers.Keeping.{AllFollow, all_same, all_both, first_follow, forgotten_follows, zero_follows, Ends, goes_ends, changed_ends, waits_ends, then_follow, then_ends, pass_ends, if_ends, stored_ends}
use Rattle.expanded_programs.proofs.ElaboratedPrograms.StoredNumbers.Expressions.{EndsAll, Steady, expression_ends}

-- the same in every environment
abbrev pub EndsIn : {A : Type 0} → (Environment → State → Ran A) → Type 0
EndsIn f = (env : Environment) (s : State) → Ends s (f env s)

zeros_follow : (n object element : ℕ) (s : State) → AllFollow s.objects (zeros n object element s).objects
zeros_follow zero object element s = all_same s.objects
zeros_follow (suc n) object element s =
    let next = write_element s object element (pos 0) in
    all_both s.objects next.objects (zeros n object (element + 1) next).objects (zero_follows object element s) (zeros_follow n object (element + 1) next)

go_on_ends : (r : Completion) (f : State → Ran Completion) → EndsAll f → (s : State) → Ends s (go_on r f s)
go_on_ends end.Normal f h s = h s
go_on_ends r f h s = goes_ends r s

pub in_block_ends : (os : List ObjectTree) (part : Environment → State → Ran Completion) → EndsIn part → (env : Environment) (s : State) → Ends s (in_block os part env s)
in_block_ends os part h env s =
    record {
      follow = then_follow s.objects (entered os s).objects (part (inside s env) (entered os s)) (λ r s1. goes r (left_block (length s.objects) s1)) (h (inside s env) (entered os s)).follow
          (λ r s1 g. first_follow s.objects (map unwritten os) s1.objects g);
    }

behind_if_ends : (r : Completion) (at : Place) (env : Environment) (s : State) → Ends s (behind_if r at env s)
behind_if_ends end.Normal at env s = then_ends s _ _ (pass_ends point.End at env s) (λ p s1. goes_ends end.Normal s1)
behind_if_ends (end.Returned n true) at env s = then_ends s _ _ (pass_ends point.End at env s) (λ p s1. goes_ends (end.Returned n true) s1)
behind_if_ends r at env s = goes_ends r s

arm_ends : (at : Place) (part : Environment → State → Ran Completion) → EndsIn part → (env : Environment) (s : State) → Ends s (arm at part env s)
arm_ends at part h env s = then_ends s _ _ (pass_ends point.Arm at env s) (λ p s1. h env s1)

behind_breakable_ends : (r : Completion) (at : Place) (env : Environment) (s : State) → Ends s (behind_breakable r at env s)
behind_breakable_ends end.Normal at env s = then_ends s _ _ (pass_ends point.End at env s) (λ p s1. goes_ends end.Normal s1)
behind_breakable_ends end.Broke at env s = then_ends s _ _ (pass_ends point.End at env s) (λ p s1. goes_ends end.Normal s1)
behind_breakable_ends r at env s = goes_ends r s

if_again_ends : (r : Round) (f : State → Ran Round) → EndsAll f → (s : State) → Ends s (if_again r f s)
if_again_ends round.Again f h s = h s
if_again_ends r f h s = goes_ends r s

repeat_ends : (n : ℕ) (f : State → Ran Round) → EndsAll f → (s : State) → Ends s (repeat n f s)
repeat_ends zero f h s = waits_ends s
repeat_ends (suc n) f h s = then_ends s _ _ (h s) (λ r s1. if_again_ends r (repeat n f) (λ s2. repeat_ends n f h s2) s1)

loop_ends : (at : Place) (env : Environment) (f : State → Ran Round) → EndsAll f → (s : State) → Ends s (loop at env f s)
loop_ends at env f h s = then_ends s _ _ (repeat_ends s.left f h s) (λ r s1. behind_breakable_ends (completion_of r) at env s1)

run_body_ends : (body : Environment → State → Ran Completion) → EndsIn body → (at : Place) (env : Environment) (s : State) → Ends s (run_body body at env s)
run_body_ends body h at env s = then_ends s _ _ (pass_ends point.Body at env s) (λ p s1. then_ends s1 _ _ (h env s1) (λ r s2. goes_ends (round_of r) s2))

module _ (c : Calls) (steady : Steady c) where
  pub value_ends : (used : Bool) (t : Tree) (env : Environment) (s : State) → Ends s (expression_meaning c used t env s)
  value_ends used t env s = expression_ends c steady used t env s

  mutual
    pub initialise_ends : (object : ℕ) (lengths : List ℕ) (init : InitTree) (element : ℕ) (env : Environment) (s : State)
        → Ends s (initialise c object lengths init element env s)
    initialise_ends object lengths (tree.single v) element env s =
        then_ends s _ _ (value_ends true v env s) (λ x s1.
        stored_ends tt object element x.number s1)
    initialise_ends object [] (tree.braced items at) element env s = goes_ends tt s
    initialise_ends object (len ∷ lengths) (tree.braced items at) element env s = initialise_rows_ends object len lengths items element env s

    initialise_rows_ends : (object rows : ℕ) (lengths : List ℕ) (items : InitTrees) (element : ℕ) (env : Environment) (s : State)
        → Ends s (initialise_rows c object rows lengths items element env s)
    initialise_rows_ends object rows lengths tree.no_init element env s =
        changed_ends tt s (zeros (rows * element_count lengths) object element s) (zeros_follow (rows * element_count lengths) object element s)
    initialise_rows_ends object zero lengths (tree.more_inits first rest) element env s = goes_ends tt s
    initialise_rows_ends object (suc rows) lengths (tree.more_inits first rest) element env s =
        then_ends s _ _ (initialise_ends object lengths first element env s) (λ u s1. initialise_rows_ends object rows lengths rest (element + element_count lengths) env s1)

  declare_object_ends : (object : ℕ) (lengths : List ℕ) (init : Option InitTree) (env : Environment) (s : State) → Ends s (declare_object c object lengths init env s)
  declare_object_ends object lengths None env s = changed_ends tt s (forget s object) (forgotten_follows s.objects object)
  declare_object_ends object lengths (Some init) env s = initialise_ends object lengths init 0 env s

  pub declare_all_ends : (os : List ObjectTree) (env : Environment) (s : State) → Ends s (declare_all c os env s)
  declare_all_ends [] env s = goes_ends tt s
  declare_all_ends (o ∷ os) env s = then_ends s _ _ (declare_object_ends env.next (lengths_in o) o.init (declared env o.name) s) (λ u s1. declare_all_ends os (declared env o.name) s1)

  act_all_ends : (actions : List ActionTree) (env : Environment) (s : State) → Ends s (act_all c actions env s)
  act_all_ends [] env s = goes_ends tt s
  act_all_ends (a ∷ actions) env s = then_ends s _ _ (value_ends false (action_tree a) env s) (λ v s1. act_all_ends actions env s1)

  test_holds_ends : (test : Option Tree) (env : Environment) (s : State) → Ends s (test_holds c test env s)
  test_holds_ends None env s = goes_ends true s
  test_holds_ends (Some t) env s = then_ends s _ _ (value_ends true t env s) (λ x s1. goes_ends (is_true x.number) s1)

  tested_ends : (test : Option Tree) (at : Place) (env : Environment) (s : State) → Ends s (tested c test at env s)
  tested_ends test at env s = then_ends s _ _ (pass_ends point.Test at env s) (λ p s1. test_holds_ends test env s1)

  run_step_ends : (step : List ActionTree) (at : Place) (env : Environment) (s : State) → Ends s (run_step c step at env s)
  run_step_ends [] at env s = goes_ends round.Again s
  run_step_ends (a ∷ actions) at env s =
      then_ends s _ _ (pass_ends point.Step at env s) (λ p s1. then_ends s1 _ _ (act_all_ends (a ∷ actions) env s1) (λ u s2. goes_ends round.Again s2))

  test_first_ends : (test : Option Tree) (body : Environment → State → Ran Completion) → EndsIn body → (step : List ActionTree) (at : Place) (env : Environment) (s : State)
      → Ends s (test_first c test body step at env s)
  test_first_ends test body h step at env s =
      then_ends s _ _ (tested_ends test at env s) (λ holds s1. if_ends holds s1 _ _
      (then_ends s1 _ _ (run_body_ends body h at env s1) (λ r s2. if_again_ends r (run_step c step at env) (λ s3. run_step_ends step at env s3) s2))
      (goes_ends round.Over s1))

  test_last_ends : (test : Tree) (body : Environment → State → Ran Completion) → EndsIn body → (at : Place) (env : Environment) (s : State)
      → Ends s (test_last c test body at env s)
  test_last_ends test body h at env s =
      then_ends s _ _ (run_body_ends body h at env s) (λ r s1. if_again_ends r _
      (λ s2. then_ends s2 _ _ (tested_ends (Some test) at env s2) (λ holds s3. goes_ends (if holds then round.Again else round.Over) s3)) s1)

  returned_ends : (v : Option Tree) (env : Environment) (s : State) → Ends s (returned_number c v env s)
  returned_ends None env s = goes_ends None s
  returned_ends (Some t) env s = then_ends s _ _ (value_ends true t env s) (λ x s1. goes_ends (Some (converted_result env.result x.number)) s1)

  mutual
    pub statement_ends : (tail : Bool) (t : StmtTree) (env : Environment) (s : State) → Ends s (statement_meaning c tail t env s)
    statement_ends tail (tree.block body) env s = in_block_ends (declared_in body) (items_meaning c tail body) (λ env1 s1. items_ends tail body env1 s1) env s
    statement_ends tail (tree.declare objects) env s = then_ends s _ _ (declare_all_ends objects env s) (λ u s1. goes_ends end.Normal s1)
    statement_ends tail (tree.act actions) env s = then_ends s _ _ (act_all_ends actions env s) (λ u s1. goes_ends end.Normal s1)
    statement_ends tail (tree.if_ test body other at) env s =
        then_ends s _ _ (value_ends true test env s) (λ x s1. then_ends s1 _ _
        (if_ends (is_true x.number) s1 _ _ (arm_ends at (statement_meaning c tail body) (λ env1 s2. statement_ends tail body env1 s2) env s1) (else_ends tail other env s1))
        (λ r s2. behind_if_ends r at env s2))
    statement_ends tail (tree.switch_ test body at) env s =
        then_ends s _ _ (value_ends true test env s) (λ x s1.
        let wanted = target_label (promoted x.kind) (convert (promoted x.kind) x.number) body in
        then_ends s1 _ _ (in_block_ends (declared_in body) (jump_meaning c wanted body) (λ env1 s2. jump_ends wanted body env1 s2) env s1) (λ r s2. behind_breakable_ends r at env s2))
    statement_ends tail (tree.case_ v body at) env s = arm_ends at (statement_meaning c false body) (λ env1 s1. statement_ends false body env1 s1) env s
    statement_ends tail (tree.while_ test body at) env s =
        loop_ends at env _ (λ s1. test_first_ends (Some test) (statement_meaning c false body) (λ env1 s2. statement_ends false body env1 s2) [] at env s1) s
    statement_ends tail (tree.do_ body test at) env s =
        loop_ends at env _ (λ s1. test_last_ends test (statement_meaning c false body) (λ env1 s2. statement_ends false body env1 s2) at env s1) s
    statement_ends tail (tree.for_ init test step body at) env s =
        in_block_ends (declared_first init)
        (λ env1 s1. then_ (first_meaning c init env1 s1) (λ u s2.
        loop at (all_declared env1 (declared_first init)) (test_first c test (statement_meaning c false body) step at (all_declared env1 (declared_first init))) s2))
        (λ env1 s1. then_ends s1 _ _ (first_ends init env1 s1) (λ u s2.
        loop_ends at (all_declared env1 (declared_first init))
        (test_first c test (statement_meaning c false body) step at (all_declared env1 (declared_first init)))
        (λ s3. test_first_ends test (statement_meaning c false body) (λ env2 s4. statement_ends false body env2 s4) step at (all_declared env1 (declared_first init)) s3) s2)) env s
    statement_ends tail (tree.break_ at) env s = goes_ends end.Broke s
    statement_ends tail (tree.continue_ at) env s = goes_ends end.Continued s
    statement_ends tail (tree.return_ v at) env s = then_ends s _ _ (returned_ends v env s) (λ n s1. goes_ends (end.Returned n tail) s1)

    else_ends : (tail : Bool) (t : ElseTree) (env : Environment) (s : State) → Ends s (else_meaning c tail t env s)
    else_ends tail tree.no_else env s = goes_ends end.Normal s
    else_ends tail (tree.else_ at body) env s = arm_ends at (statement_meaning c tail body) (λ env1 s1. statement_ends tail body env1 s1) env s

    first_ends : (t : FirstTree) (env : Environment) (s : State) → Ends s (first_meaning c t env s)
    first_ends tree.no_first env s = goes_ends end.Normal s
    first_ends (tree.first part) env s = statement_ends false part env s

    pub items_ends : (tail : Bool) (ts : StmtTrees) (env : Environment) (s : State) → Ends s (items_meaning c tail ts env s)
    items_ends tail tree.no_stmt env s = goes_ends end.Normal s
    items_ends tail (tree.more_stmts first rest) env s =
        then_ends s _ _ (statement_ends (tail && is_last rest) first env s) (λ r s1. go_on_ends r (items_meaning c tail rest (all_declared env (declared_by first)))
        (λ s2. items_ends tail rest (all_declared env (declared_by first)) s2) s1)

    pub jump_ends : (wanted : Option Tree → Bool) (ts : StmtTrees) (env : Environment) (s : State) → Ends s (jump_meaning c wanted ts env s)
    jump_ends wanted tree.no_stmt env s = goes_ends end.Normal s
    jump_ends wanted (tree.more_stmts first rest) env s = if_ends (has_label wanted first) s _ _
        (then_ends s _ _ (labelled_ends wanted first env s) (λ r s1. go_on_ends r (items_meaning c false rest (all_declared env (declared_by first)))
        (λ s2. items_ends false rest (all_declared env (declared_by first)) s2) s1))
        (jump_ends wanted rest (all_declared env (declared_by first)) s)

    labelled_ends : (wanted : Option Tree → Bool) (t : StmtTree) (env : Environment) (s : State) → Ends s (labelled_meaning c wanted t env s)
    labelled_ends wanted (tree.case_ v body at) env s = if_ends (wanted v) s _ _
        (arm_ends at (statement_meaning c false body) (λ env1 s1. statement_ends false body env1 s1) env s)
        (labelled_ends wanted body env s)
    labelled_ends wanted t env s = goes_ends end.Normal s
