-- Statements where more points may be passed.
use Rattle.std.proofs.Common.{◌≡◌, ℕ, zero, suc, ◌+◌, ◌*◌, ◌<◌, ◌≤◌, refl, List, [], ◌∷◌, length, Bool, true, false, ◌&&◌, pos, Option, Some, None, if◌then◌else◌, arith}
use Rattle.hls_base.specs.declared.place.Place.{Place}
use Rattle.hls_base.specs.declared.point.PointKind.TheVariants as point
use Rattle.hls_base.specs.ArrayAddress.{element_count}
use Rattle.c_token.specs.declared.ctype.CType.{CType}
use Rattle.c_tree.specs.Tree as tree
use Rattle.c_tree.specs.Tree.{Tree, ActionTree, InitTree, InitTrees, ObjectTree, StmtTree, ElseTree, FirstTree, StmtTrees}
use Rattle.c_value.specs.Values.{promoted, convert}
use Rattle.c_value.specs.Operators.{is_true}
use Rattle.c_meaning.specs.declared.value.Completion.{Completion}
use Rattle.c_meaning.specs.declared.value.Completion.TheVariants as end
use Rattle.c_meaning.specs.declared.value.Argument.{Argument}
use Rattle.c_meaning.specs.declared.value.Round.{Round}
use Rattle.c_meaning.specs.declared.value.Round.TheVariants as round
use Rattle.c_meaning.specs.Store.{State, Environment, declared, all_declared, declared_by, declared_in, declared_first, entered, inside, left_block, lengths_in, forget, kind_of_object, write_element}
use Rattle.c_meaning.specs.Steps.{Ran, then_, pass}
use Rattle.c_meaning.specs.Expression.{Calls, expression_meaning}
use Rattle.c_meaning.specs.Statement.{zeros, initialise, initialise_rows, declare_object, declare_all, action_tree, act_all, go_on, is_last, in_block, behind_if, arm, behind_breakable, has_label, target_label, round_of, if_again, repeat, completion_of, loop, test_holds, tested, run_body, run_step, test_first, test_last, converted_result, returned_number, statement_meaning, else_meaning, first_meaning, items_meaning, jump_meaning, labelled_meaning}
use Rattle.c_meaning.specs.Laws.{more}
use Rattle.c_meaning.proofs.MorePoints.{IsMore, Passes, passes_then, passes_pass, goes_more, goes_changed, waits_more, then_more, then_fewer, pass_more, if_more}
use Rattle.c_meaning.proofs.MoreInExpressions.{Steady, Call, expression_more}

-- the same in every environment
abbrev pub SteadyIn : {A : Type 0} → ℕ → ℕ → (Environment → State → Ran A) → (Environment → State → Ran A) → Type 0
SteadyIn k limit f f' = (env : Environment) (s : State) → IsMore k limit s (f env s) (f' env (more k s))

zeros_more : (k n object element : ℕ) (s : State) → zeros n object element (more k s) ≡ more k (zeros n object element s)
zeros_more k zero object element s = refl
zeros_more k (suc n) object element s = zeros_more k n object (element + 1) (write_element s object element (pos 0))

zeros_left : (n object element : ℕ) (s : State) → (zeros n object element s).left ≡ s.left
zeros_left zero object element s = refl
zeros_left (suc n) object element s = zeros_left n object (element + 1) (write_element s object element (pos 0))

module _ (k limit : ℕ) where
  go_on_more : (r : Completion) (f f' : State → Ran Completion) → Steady k limit f f' → (s : State) → IsMore k limit s (go_on r f s) (go_on r f' (more k s))
  go_on_more end.Normal f f' h s = h s
  go_on_more r f f' h s = goes_more k limit r s

  pub in_block_more : (os : List ObjectTree) (part part' : Environment → State → Ran Completion) → SteadyIn k limit part part' → (env : Environment) (s : State) → IsMore k limit s (in_block os part env s) (in_block os part' env (more k s))
  in_block_more os part part' h env s =
      then_more k limit s _ _ _ _ (h (inside s env) (entered os s)) (λ r s1. goes_changed k limit r s1 (left_block (length s.objects) s1) (left_block (length s.objects) (more k s1)) refl refl)

  behind_if_more : (r : Completion) (at : Place) (env : Environment) (s : State) → IsMore k limit s (behind_if r at env s) (behind_if r at env (more k s))
  behind_if_more end.Normal at env s = then_more k limit s _ _ _ _ (pass_more k limit point.End at env s) (λ p s1. goes_more k limit end.Normal s1)
  behind_if_more (end.Returned n true) at env s = then_more k limit s _ _ _ _ (pass_more k limit point.End at env s) (λ p s1. goes_more k limit (end.Returned n true) s1)
  behind_if_more r at env s = goes_more k limit r s

  arm_more : (at : Place) (part part' : Environment → State → Ran Completion) → SteadyIn k limit part part' → (env : Environment) (s : State) → IsMore k limit s (arm at part env s) (arm at part' env (more k s))
  arm_more at part part' h env s = then_more k limit s _ _ _ _ (pass_more k limit point.Arm at env s) (λ p s1. h env s1)

  behind_breakable_more : (r : Completion) (at : Place) (env : Environment) (s : State) → IsMore k limit s (behind_breakable r at env s) (behind_breakable r at env (more k s))
  behind_breakable_more end.Normal at env s = then_more k limit s _ _ _ _ (pass_more k limit point.End at env s) (λ p s1. goes_more k limit end.Normal s1)
  behind_breakable_more end.Broke at env s = then_more k limit s _ _ _ _ (pass_more k limit point.End at env s) (λ p s1. goes_more k limit end.Normal s1)
  behind_breakable_more r at env s = goes_more k limit r s

  if_again_more : (r : Round) (f f' : State → Ran Round) → Steady k limit f f' → (s : State) → IsMore k limit s (if_again r f s) (if_again r f' (more k s))
  if_again_more round.Again f f' h s = h s
  if_again_more r f f' h s = goes_more k limit r s

  if_again_at : (r : Round) (f f' : State → Ran Round) (s : State) → IsMore k limit s (f s) (f' (more k s)) → IsMore k limit s (if_again r f s) (if_again r f' (more k s))
  if_again_at round.Again f f' s h = h
  if_again_at r f f' s h = goes_more k limit r s

  -- each round passes a point, so that there are as many as points may be passed
  repeat_more : (n m : ℕ) (f f' : State → Ran Round) → m ≡ n + k → Steady k limit f f' → ((s : State) → Passes (f s)) → (s : State) → s.left ≤ n → IsMore k limit s (repeat n f s) (repeat m f' (more k s))
  repeat_more zero m f f' e h p s le = waits_more k limit s (repeat m f' (more k s)) (λ lt. omega (arith, le))
  repeat_more (suc n) zero f f' e h p s le = absurd (omega (arith, e))
  repeat_more (suc n) (suc m) f f' e h p s le =
      then_fewer k limit s _ _ _ _ (h s) (p s) (λ r s1 less. if_again_at r (repeat n f) (repeat m f') s1 (repeat_more n m f f' (omega (arith, e)) h p s1 (omega (arith, less, le))))

  loop_more : (at : Place) (env : Environment) (f f' : State → Ran Round) → Steady k limit f f' → ((s : State) → Passes (f s)) → (s : State) → IsMore k limit s (loop at env f s) (loop at env f' (more k s))
  loop_more at env f f' h p s = then_more k limit s _ _ _ _ (repeat_more s.left (s.left + k) f f' refl h p s (omega arith)) (λ r s1. behind_breakable_more (completion_of r) at env s1)

  run_body_more : (body body' : Environment → State → Ran Completion) → SteadyIn k limit body body' → (at : Place) (env : Environment) (s : State) → IsMore k limit s (run_body body at env s) (run_body body' at env (more k s))
  run_body_more body body' h at env s = then_more k limit s _ _ _ _ (pass_more k limit point.Body at env s) (λ p s1. then_more k limit s1 _ _ _ _ (h env s1) (λ r s2. goes_more k limit (round_of r) s2))

test_first_passes : (c : Calls) (test : Option Tree) (body : Environment → State → Ran Completion) (step : List ActionTree) (at : Place) (env : Environment) (s : State) → Passes (test_first c test body step at env s)
test_first_passes c test body step at env s = passes_then (tested c test at env s) _ (passes_then (pass point.Test at env s) _ (passes_pass point.Test at env s))

test_last_passes : (c : Calls) (test : Tree) (body : Environment → State → Ran Completion) (at : Place) (env : Environment) (s : State) → Passes (test_last c test body at env s)
test_last_passes c test body at env s = passes_then (run_body body at env s) _ (passes_then (pass point.Body at env s) _ (passes_pass point.Body at env s))

module _ (k limit : ℕ) (call call' : Call) (results : List ℕ → CType) (steady : (used : Bool) (callee : List ℕ) (given : List Argument) (path : List Place) → Steady k limit (call used callee given path) (call' used callee given path)) where
  abbrev c : Calls
  c = record { call = call; result_of = results }

  abbrev c' : Calls
  c' = record { call = call'; result_of = results }

  value_more : (used : Bool) (t : Tree) (env : Environment) (s : State) → IsMore k limit s (expression_meaning c used t env s) (expression_meaning c' used t env (more k s))
  value_more used t env s = expression_more k limit call call' results steady used t env s

  mutual
    initialise_more : (object : ℕ) (lengths : List ℕ) (init : InitTree) (element : ℕ) (env : Environment) (s : State)
        → IsMore k limit s (initialise c object lengths init element env s) (initialise c' object lengths init element env (more k s))
    initialise_more object lengths (tree.single v) element env s =
        then_more k limit s _ _ _ _ (value_more true v env s) (λ x s1.
        let n = convert (kind_of_object s1 object) x.number in goes_changed k limit tt s1 (write_element s1 object element n) (write_element (more k s1) object element n) refl refl)
    initialise_more object [] (tree.braced items at) element env s = goes_more k limit tt s
    initialise_more object (len ∷ lengths) (tree.braced items at) element env s = initialise_rows_more object len lengths items element env s

    initialise_rows_more : (object rows : ℕ) (lengths : List ℕ) (items : InitTrees) (element : ℕ) (env : Environment) (s : State)
        → IsMore k limit s (initialise_rows c object rows lengths items element env s) (initialise_rows c' object rows lengths items element env (more k s))
    initialise_rows_more object rows lengths tree.no_init element env s =
        goes_changed k limit tt s (zeros (rows * element_count lengths) object element s) (zeros (rows * element_count lengths) object element (more k s))
        (zeros_more k (rows * element_count lengths) object element s) (zeros_left (rows * element_count lengths) object element s)
    initialise_rows_more object zero lengths (tree.more_inits first rest) element env s = goes_more k limit tt s
    initialise_rows_more object (suc rows) lengths (tree.more_inits first rest) element env s =
        then_more k limit s _ _ _ _ (initialise_more object lengths first element env s) (λ u s1. initialise_rows_more object rows lengths rest (element + element_count lengths) env s1)

  declare_object_more : (object : ℕ) (lengths : List ℕ) (init : Option InitTree) (env : Environment) (s : State) → IsMore k limit s (declare_object c object lengths init env s) (declare_object c' object lengths init env (more k s))
  declare_object_more object lengths None env s = goes_changed k limit tt s (forget s object) (forget (more k s) object) refl refl
  declare_object_more object lengths (Some init) env s = initialise_more object lengths init 0 env s

  declare_all_more : (os : List ObjectTree) (env : Environment) (s : State) → IsMore k limit s (declare_all c os env s) (declare_all c' os env (more k s))
  declare_all_more [] env s = goes_more k limit tt s
  declare_all_more (o ∷ os) env s = then_more k limit s _ _ _ _ (declare_object_more env.next (lengths_in o) o.init (declared env o.name) s) (λ u s1. declare_all_more os (declared env o.name) s1)

  act_all_more : (actions : List ActionTree) (env : Environment) (s : State) → IsMore k limit s (act_all c actions env s) (act_all c' actions env (more k s))
  act_all_more [] env s = goes_more k limit tt s
  act_all_more (a ∷ actions) env s = then_more k limit s _ _ _ _ (value_more false (action_tree a) env s) (λ v s1. act_all_more actions env s1)

  test_holds_more : (test : Option Tree) (env : Environment) (s : State) → IsMore k limit s (test_holds c test env s) (test_holds c' test env (more k s))
  test_holds_more None env s = goes_more k limit true s
  test_holds_more (Some t) env s = then_more k limit s _ _ _ _ (value_more true t env s) (λ x s1. goes_more k limit (is_true x.number) s1)

  tested_more : (test : Option Tree) (at : Place) (env : Environment) (s : State) → IsMore k limit s (tested c test at env s) (tested c' test at env (more k s))
  tested_more test at env s = then_more k limit s _ _ _ _ (pass_more k limit point.Test at env s) (λ p s1. test_holds_more test env s1)

  run_step_more : (step : List ActionTree) (at : Place) (env : Environment) (s : State) → IsMore k limit s (run_step c step at env s) (run_step c' step at env (more k s))
  run_step_more [] at env s = goes_more k limit round.Again s
  run_step_more (a ∷ actions) at env s =
      then_more k limit s _ _ _ _ (pass_more k limit point.Step at env s) (λ p s1. then_more k limit s1 _ _ _ _ (act_all_more (a ∷ actions) env s1) (λ u s2. goes_more k limit round.Again s2))

  test_first_more : (test : Option Tree) (body body' : Environment → State → Ran Completion) → SteadyIn k limit body body' → (step : List ActionTree) (at : Place) (env : Environment) (s : State)
      → IsMore k limit s (test_first c test body step at env s) (test_first c' test body' step at env (more k s))
  test_first_more test body body' h step at env s =
      then_more k limit s _ _ _ _ (tested_more test at env s) (λ holds s1. if_more k limit holds s1 _ _ _ _
      (then_more k limit s1 _ _ _ _ (run_body_more k limit body body' h at env s1) (λ r s2. if_again_more k limit r (run_step c step at env) (run_step c' step at env) (λ s3. run_step_more step at env s3) s2))
      (goes_more k limit round.Over s1))

  test_last_more : (test : Tree) (body body' : Environment → State → Ran Completion) → SteadyIn k limit body body' → (at : Place) (env : Environment) (s : State)
      → IsMore k limit s (test_last c test body at env s) (test_last c' test body' at env (more k s))
  test_last_more test body body' h at env s =
      then_more k limit s _ _ _ _ (run_body_more k limit body body' h at env s) (λ r s1. if_again_more k limit r _ _
      (λ s2. then_more k limit s2 _ _ _ _ (tested_more (Some test) at env s2) (λ holds s3. goes_more k limit (if holds then round.Again else round.Over) s3)) s1)

  returned_more : (v : Option Tree) (env : Environment) (s : State) → IsMore k limit s (returned_number c v env s) (returned_number c' v env (more k s))
  returned_more None env s = goes_more k limit None s
  returned_more (Some t) env s = then_more k limit s _ _ _ _ (value_more true t env s) (λ x s1. goes_more k limit (Some (converted_result env.result x.number)) s1)

  mutual
    statement_more : (tail : Bool) (t : StmtTree) (env : Environment) (s : State) → IsMore k limit s (statement_meaning c tail t env s) (statement_meaning c' tail t env (more k s))
    statement_more tail (tree.block body) env s = in_block_more k limit (declared_in body) (items_meaning c tail body) (items_meaning c' tail body) (λ env1 s1. items_more tail body env1 s1) env s
    statement_more tail (tree.declare objects) env s = then_more k limit s _ _ _ _ (declare_all_more objects env s) (λ u s1. goes_more k limit end.Normal s1)
    statement_more tail (tree.act actions) env s = then_more k limit s _ _ _ _ (act_all_more actions env s) (λ u s1. goes_more k limit end.Normal s1)
    statement_more tail (tree.if_ test body other at) env s =
        then_more k limit s _ _ _ _ (value_more true test env s) (λ x s1. then_more k limit s1 _ _ _ _
        (if_more k limit (is_true x.number) s1 _ _ _ _ (arm_more k limit at (statement_meaning c tail body) (statement_meaning c' tail body) (λ env1 s2. statement_more tail body env1 s2) env s1) (else_more tail other env s1))
        (λ r s2. behind_if_more k limit r at env s2))
    statement_more tail (tree.switch_ test body at) env s =
        then_more k limit s _ _ _ _ (value_more true test env s) (λ x s1.
        let wanted = target_label (promoted x.kind) (convert (promoted x.kind) x.number) body in
        then_more k limit s1 _ _ _ _ (in_block_more k limit (declared_in body) (jump_meaning c wanted body) (jump_meaning c' wanted body) (λ env1 s2. jump_more wanted body env1 s2) env s1) (λ r s2. behind_breakable_more k limit r at env s2))
    statement_more tail (tree.case_ v body at) env s = arm_more k limit at (statement_meaning c false body) (statement_meaning c' false body) (λ env1 s1. statement_more false body env1 s1) env s
    statement_more tail (tree.while_ test body at) env s =
        loop_more k limit at env _ _ (λ s1. test_first_more (Some test) (statement_meaning c false body) (statement_meaning c' false body) (λ env1 s2. statement_more false body env1 s2) [] at env s1)
        (λ s1. test_first_passes c (Some test) (statement_meaning c false body) [] at env s1) s
    statement_more tail (tree.do_ body test at) env s =
        loop_more k limit at env _ _ (λ s1. test_last_more test (statement_meaning c false body) (statement_meaning c' false body) (λ env1 s2. statement_more false body env1 s2) at env s1)
        (λ s1. test_last_passes c test (statement_meaning c false body) at env s1) s
    statement_more tail (tree.for_ init test step body at) env s =
        in_block_more k limit (declared_first init)
        (λ env1 s1. then_ (first_meaning c init env1 s1) (λ u s2.
        loop at (all_declared env1 (declared_first init)) (test_first c test (statement_meaning c false body) step at (all_declared env1 (declared_first init))) s2))
        (λ env1 s1. then_ (first_meaning c' init env1 s1) (λ u s2.
        loop at (all_declared env1 (declared_first init)) (test_first c' test (statement_meaning c' false body) step at (all_declared env1 (declared_first init))) s2))
        (λ env1 s1. then_more k limit s1 _ _ _ _ (first_more init env1 s1) (λ u s2.
        loop_more k limit at (all_declared env1 (declared_first init))
        (test_first c test (statement_meaning c false body) step at (all_declared env1 (declared_first init)))
        (test_first c' test (statement_meaning c' false body) step at (all_declared env1 (declared_first init)))
        (λ s3. test_first_more test (statement_meaning c false body) (statement_meaning c' false body) (λ env2 s4. statement_more false body env2 s4) step at (all_declared env1 (declared_first init)) s3)
        (λ s3. test_first_passes c test (statement_meaning c false body) step at (all_declared env1 (declared_first init)) s3) s2)) env s
    statement_more tail (tree.break_ at) env s = goes_more k limit end.Broke s
    statement_more tail (tree.continue_ at) env s = goes_more k limit end.Continued s
    statement_more tail (tree.return_ v at) env s = then_more k limit s _ _ _ _ (returned_more v env s) (λ n s1. goes_more k limit (end.Returned n tail) s1)

    else_more : (tail : Bool) (t : ElseTree) (env : Environment) (s : State) → IsMore k limit s (else_meaning c tail t env s) (else_meaning c' tail t env (more k s))
    else_more tail tree.no_else env s = goes_more k limit end.Normal s
    else_more tail (tree.else_ at body) env s = arm_more k limit at (statement_meaning c tail body) (statement_meaning c' tail body) (λ env1 s1. statement_more tail body env1 s1) env s

    first_more : (t : FirstTree) (env : Environment) (s : State) → IsMore k limit s (first_meaning c t env s) (first_meaning c' t env (more k s))
    first_more tree.no_first env s = goes_more k limit end.Normal s
    first_more (tree.first part) env s = statement_more false part env s

    pub items_more : (tail : Bool) (ts : StmtTrees) (env : Environment) (s : State) → IsMore k limit s (items_meaning c tail ts env s) (items_meaning c' tail ts env (more k s))
    items_more tail tree.no_stmt env s = goes_more k limit end.Normal s
    items_more tail (tree.more_stmts first rest) env s =
        then_more k limit s _ _ _ _ (statement_more (tail && is_last rest) first env s) (λ r s1. go_on_more k limit r (items_meaning c tail rest (all_declared env (declared_by first))) (items_meaning c' tail rest (all_declared env (declared_by first)))
        (λ s2. items_more tail rest (all_declared env (declared_by first)) s2) s1)

    jump_more : (wanted : Option Tree → Bool) (ts : StmtTrees) (env : Environment) (s : State) → IsMore k limit s (jump_meaning c wanted ts env s) (jump_meaning c' wanted ts env (more k s))
    jump_more wanted tree.no_stmt env s = goes_more k limit end.Normal s
    jump_more wanted (tree.more_stmts first rest) env s = if_more k limit (has_label wanted first) s _ _ _ _
        (then_more k limit s _ _ _ _ (labelled_more wanted first env s) (λ r s1. go_on_more k limit r (items_meaning c false rest (all_declared env (declared_by first))) (items_meaning c' false rest (all_declared env (declared_by first)))
        (λ s2. items_more false rest (all_declared env (declared_by first)) s2) s1))
        (jump_more wanted rest (all_declared env (declared_by first)) s)

    labelled_more : (wanted : Option Tree → Bool) (t : StmtTree) (env : Environment) (s : State) → IsMore k limit s (labelled_meaning c wanted t env s) (labelled_meaning c' wanted t env (more k s))
    labelled_more wanted (tree.case_ v body at) env s = if_more k limit (wanted v) s _ _ _ _
        (arm_more k limit at (statement_meaning c false body) (statement_meaning c' false body) (λ env1 s1. statement_more false body env1 s1) env s)
        (labelled_more wanted body env s)
    labelled_more wanted t env s = goes_more k limit end.Normal s
