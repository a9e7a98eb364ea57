-- What is left of a run at a configuration.
use Rattle.std.specs.Prelude.{ℕ, ◌+◌, ◌-◌, ◌||◌, Bool, true, false, List, [], ◌∷◌, ◌++◌, ℤ, Option, Some, if◌then◌else◌}
use Rattle.hls_base.specs.declared.place.Place.{Place}
use Rattle.hls_base.specs.declared.point.PointKind.TheVariants as point
use Rattle.c_tree.specs.Tree.{Tree, Trees, StmtTrees, ItemTree}
use Rattle.c_value.specs.Values.{int_type, promoted, convert, common}
use Rattle.c_value.specs.Operators.{truth, is_true, unary_kind, unary_value}
use Rattle.c_meaning.specs.declared.value.Value.{Value}
use Rattle.c_meaning.specs.declared.value.Argument.{Argument}
use Rattle.c_meaning.specs.declared.value.Argument.TheVariants as argument
use Rattle.c_meaning.specs.declared.value.Completion.{Completion}
use Rattle.c_meaning.specs.declared.value.Completion.TheVariants as end
use Rattle.c_meaning.specs.declared.value.Round.{Round}
use Rattle.c_meaning.specs.declared.value.Round.TheVariants as round
use Rattle.c_meaning.specs.declared.names.Binding.{Binding}
use Rattle.c_meaning.specs.Store.{State, Environment, object_named, kind_of_object, write_element, forget, declared_by, declared_in, all_declared, left_block}
use Rattle.c_meaning.specs.Steps.{Ran, goes, fails, waits, then_, pass}
use Rattle.c_meaning.specs.Expression.{Calls, value, acts, pass_if, computed, operated, joined, chosen, expression_kind, read_object, assigned, bumped, numbers, arguments, call_value, expression_meaning, number_or_zero}
use Rattle.c_meaning.specs.Statement.{initialise, initialise_rows, declare_all, act_all, go_on, in_block, behind_if, behind_breakable, branch_meaning, target_label, round_of, if_again, repeat, behind_loop, tested, run_body, run_step, test_first, test_last, converted_result, statement_meaning, items_meaning, jump_meaning}
use Rattle.c_meaning.specs.Run.{kind_or_int, function_left, calls}
use Rattle.c_machine.specs.Frames as f
use Rattle.c_machine.specs.Frames.{Loop, Use, ValueFrame, EndFrame, Frame, Step, Control, Held, Configuration, scope_left, in_environment, number_added, numbers_closed, argument_added, given_closed}
use Rattle.c_machine.specs.State.Lists.{latest}

-- the program, the names of file scope, and how many points the whole run may pass
pub record Setting : Type 0 where
  pub items : List ItemTree
  pub file : List Binding
  pub bound : ℕ

-- the calls within one another, the top function's aside
abbrev pub calls_in : List Frame → ℕ
calls_in [] = 0
calls_in (f.on_value v ∷ frames) = calls_in frames
calls_in (f.on_end (f.called_by used fn count) ∷ frames) = calls_in frames + 1
calls_in (f.on_end _ ∷ frames) = calls_in frames

abbrev pub calls_at : Setting → List Frame → Calls
calls_at w frames = calls (w.bound - calls_in frames) w.items w.file

-- ---- parts of the meaning of expressions and loops

-- behind the second operand of `&&` or `||`, or the chosen operand of `?:`
abbrev pub behind_operand : Bool → Place → Value → Environment → State → Ran Value
behind_operand fork at v env s = then_ (pass_if fork point.End at env s) (λ q s1. goes v s1)

abbrev pub picked : Calls → Tree → Tree → Place → Place → Value → Environment → State → Ran Value
picked c first second at colon x env s =
    if is_true x.number
    then chosen (acts first || acts second) at at (common (expression_kind c env s first) (expression_kind c env s second)) env (expression_meaning c true first env) s
    else chosen (acts first || acts second) colon at (common (expression_kind c env s first) (expression_kind c env s second)) env (expression_meaning c true second env) s

-- behind the subscripts
abbrev pub subscripted : Calls → Use → List ℤ → Environment → State → Ran Value
subscripted c (f.reading array at) is env s = read_object (object_named env array) is at s
subscripted c (f.assigning text op v place at) is env s = then_ (expression_meaning c true v env s) (λ x s1. assigned op (object_named env text) is place x at s1)
subscripted c (f.bumping text up post place at) is env s = bumped up post (object_named env text) is place at s

abbrev pub indexed : Calls → Trees → Use → List ℤ → Environment → State → Ran Value
indexed c others u before env s = then_ (numbers c others before env s) (λ is s1. subscripted c u is env s1)

abbrev pub argued : Calls → Trees → List ℕ → Bool → Place → List Argument → Environment → State → Ran Value
argued c others callee used at before env s = then_ (arguments c others before env s) (λ given s1. call_value c used callee given at env s1)

abbrev pub loop_place : Loop → Place
loop_place (f.tests_first test body step at) = at
loop_place (f.tests_last test body at) = at

abbrev pub round_meaning : Calls → Loop → Environment → State → Ran Round
round_meaning c (f.tests_first test body step at) env s = test_first c test (statement_meaning c false body) step at env s
round_meaning c (f.tests_last test body at) env s = test_last c test (statement_meaning c false body) at env s

-- so many iterations at most
abbrev pub rounds : Calls → Loop → ℕ → Environment → State → Ran Completion
rounds c l fuel env s = then_ (repeat fuel (round_meaning c l env) s) (λ r s1. behind_loop r (loop_place l) env s1)

-- behind an iteration
abbrev pub behind_round : Calls → Loop → ℕ → Environment → Round → State → Ran Completion
behind_round c l fuel env r s = then_ (if_again r (repeat fuel (round_meaning c l env)) s) (λ r1 s1. behind_loop r1 (loop_place l) env s1)

-- behind the test of an iteration
abbrev pub behind_test : Calls → Loop → Bool → Environment → State → Ran Round
behind_test c (f.tests_first test body step at) holds env s =
    if holds then then_ (run_body (statement_meaning c false body) at env s) (λ r s2. if_again r (run_step c step at env) s2) else goes round.Over s
behind_test c (f.tests_last test body at) holds env s = goes (if holds then round.Again else round.Over) s

-- behind the body of an iteration
abbrev pub behind_body : Calls → Loop → Round → Environment → State → Ran Round
behind_body c (f.tests_first test body step at) r env s = if_again r (run_step c step at env) s
behind_body c (f.tests_last test body at) r env s = if_again r (λ s2. then_ (tested c (Some test) at env s2) (λ holds s3. goes (if holds then round.Again else round.Over) s3)) s

abbrev pub jumped : Calls → Value → StmtTrees → Environment → State → Ran Completion
jumped c x body env s = in_block (declared_in body) (jump_meaning c (target_label (promoted x.kind) (convert (promoted x.kind) x.number) body) body) env s

abbrev pub switched : Calls → Value → StmtTrees → Place → Environment → State → Ran Completion
switched c x body at env s = then_ (jumped c x body env s) (λ r s2. behind_breakable r at env s2)

-- ---- behind a value and behind the end of a statement

abbrev mutual
  pub with_value : Setting → List Frame → Held → Value → State → Ran (Option ℤ)
  with_value w [] h x s = waits
  with_value w (f.on_value (f.unary op at) ∷ k) h x s = then_ (computed (unary_kind op x.kind) (unary_value op x.kind x.number) at s) (with_value w k h)
  with_value w (f.on_value (f.left op right at) ∷ k) h x s =
      then_ (joined op x (acts right) at h.environment (expression_meaning (calls_at w k) true right h.environment) s) (with_value w k h)
  with_value w (f.on_value (f.right op x at) ∷ k) h y s = then_ (operated op x y at s) (with_value w k h)
  with_value w (f.on_value (f.reached fork at) ∷ k) h y s = then_ (behind_operand fork at (value int_type (truth (is_true y.number))) h.environment s) (with_value w k h)
  with_value w (f.on_value (f.choice first second at colon) ∷ k) h x s = then_ (picked (calls_at w k) first second at colon x h.environment s) (with_value w k h)
  with_value w (f.on_value (f.chosen fork at kind) ∷ k) h y s = then_ (behind_operand fork at (value kind (convert kind y.number)) h.environment s) (with_value w k h)
  with_value w (f.on_value (f.cast to) ∷ k) h x s = with_value w k h (value to (convert to x.number)) s
  with_value w (f.on_value (f.comma right) ∷ k) h x s = then_ (expression_meaning (calls_at w k) true right h.environment s) (with_value w k h)
  with_value w (f.on_value (f.subscript others u) ∷ k) h x s =
      then_ (indexed (calls_at w k) others u (latest h.numbers ++ x.number ∷ []) h.environment s) (with_value w k (numbers_closed h))
  with_value w (f.on_value (f.assigned_to text op place at) ∷ k) h x s =
      then_ (assigned op (object_named h.environment text) (latest h.numbers) place x at s) (with_value w k (numbers_closed h))
  with_value w (f.on_value (f.argument others callee used at) ∷ k) h x s =
      then_ (argued (calls_at w k) others callee used at (latest h.given ++ argument.Number x.number ∷ []) h.environment s) (with_value w k (given_closed h))
  with_value w (f.on_value (f.acting more) ∷ k) h x s = then_ (act_all (calls_at w k) more h.environment s) (λ u s1. with_end w k h end.Normal s1)
  with_value w (f.on_value (f.initial object element) ∷ k) h x s = with_end w k h end.Normal (write_element s object element (convert (kind_of_object s object) x.number))
  with_value w (f.on_value (f.if_test tail body other at) ∷ k) h x s =
      then_ (then_ (branch_meaning (calls_at w k) tail (is_true x.number) at body other h.environment s) (λ r s2. behind_if r at h.environment s2)) (with_end w k h)
  with_value w (f.on_value (f.switch_test body at) ∷ k) h x s = then_ (switched (calls_at w k) x body at h.environment s) (with_end w k h)
  with_value w (f.on_value (f.loop_test l spent) ∷ k) h x s =
      then_ (then_ (behind_test (calls_at w k) l (is_true x.number) h.environment s) (behind_round (calls_at w k) l (w.bound - (spent + 1)) h.environment)) (with_end w k h)
  with_value w (f.on_value (f.returning tail) ∷ k) h x s = with_end w k h (end.Returned (Some (converted_result h.environment.result x.number)) tail) s
  with_value w (f.on_end e ∷ k) h x s = waits

  pub with_end : Setting → List Frame → Held → Completion → State → Ran (Option ℤ)
  with_end w [] h r s = waits
  with_end w (f.on_value v ∷ k) h r s = waits
  with_end w (f.on_end (f.rows object count lengths more element) ∷ k) h r s =
      then_ (initialise_rows (calls_at w k) object count lengths more element h.environment s) (λ u s1. with_end w k h end.Normal s1)
  with_end w (f.on_end (f.declaring more) ∷ k) h r s =
      then_ (declare_all (calls_at w k) more h.environment s) (λ u s1. with_end w k (in_environment (all_declared h.environment more) h) end.Normal s1)
  with_end w (f.on_end (f.items tail more count) ∷ k) h r s =
      then_ (go_on r (items_meaning (calls_at w k) tail more h.environment) s) (λ r1 s1. with_end w k (scope_left h) r1 (left_block count s1))
  with_end w (f.on_end (f.behind_if at) ∷ k) h r s = then_ (behind_if r at (scope_left h).environment s) (with_end w k (scope_left h))
  with_end w (f.on_end (f.behind_switch at) ∷ k) h r s = then_ (behind_breakable r at h.environment s) (with_end w k h)
  with_end w (f.on_end f.leaving ∷ k) h r s = with_end w k (scope_left h) r s
  with_end w (f.on_end (f.loop_body l spent) ∷ k) h r s =
      then_ (then_ (behind_body (calls_at w k) l (round_of r) (scope_left h).environment s) (behind_round (calls_at w k) l (w.bound - (spent + 1)) (scope_left h).environment))
      (with_end w k (scope_left h))
  with_end w (f.on_end (f.loop_step l spent) ∷ k) h r s = then_ (behind_round (calls_at w k) l (w.bound - (spent + 1)) h.environment round.Again s) (with_end w k h)
  with_end w (f.on_end (f.for_first l) ∷ k) h r s = then_ (rounds (calls_at w k) l s.left h.environment s) (with_end w k h)
  with_end w (f.on_end (f.called_by used fn count) ∷ k) h r s =
      then_ (function_left used fn r h.environment (left_block count s)) (λ n s1. with_value w k (scope_left h) (value (kind_or_int fn.result) (number_or_zero n)) s1)
  with_end w (f.on_end (f.top fn count) ∷ k) h r s = function_left true fn r h.environment (left_block count s)

abbrev pub with_step : Setting → Step → List Frame → Held → State → Ran (Option ℤ)
with_step w (f.evaluate used e) k h s = then_ (expression_meaning (calls_at w k) used e h.environment s) (with_value w k h)
with_step w (f.give v) k h s = with_value w k h v s
with_step w (f.execute tail stmt) k h s =
    then_ (statement_meaning (calls_at w k) tail stmt h.environment s) (with_end w k (in_environment (all_declared h.environment (declared_by stmt)) h))
with_step w (f.complete r) k h s = with_end w k h r s
with_step w (f.subscripts others u) k h s = then_ (indexed (calls_at w k) others u (latest h.numbers) h.environment s) (with_value w k (numbers_closed h))
with_step w (f.arguments others callee used at) k h s = then_ (argued (calls_at w k) others callee used at (latest h.given) h.environment s) (with_value w k (given_closed h))
with_step w (f.act actions) k h s = then_ (act_all (calls_at w k) actions h.environment s) (λ u s1. with_end w k h end.Normal s1)
with_step w (f.initialise object lengths init element) k h s =
    then_ (initialise (calls_at w k) object lengths init element h.environment s) (λ u s1. with_end w k h end.Normal s1)
with_step w (f.block tail body) k h s = then_ (in_block (declared_in body) (items_meaning (calls_at w k) tail body) h.environment s) (with_end w k h)
with_step w (f.forget object) k h s = with_end w k h end.Normal (forget s object)
with_step w (f.jump x body) k h s = then_ (jumped (calls_at w k) x body h.environment s) (with_end w k h)
with_step w (f.finish n) (f.on_end (f.called_by used fn count) ∷ k) h s = with_value w k (scope_left h) (value (kind_or_int fn.result) (number_or_zero n)) s
with_step w (f.finish n) (f.on_end (f.top fn count) ∷ k) h s = goes n s
with_step w (f.finish n) _ h s = waits

abbrev pub with_control : Setting → Control → List Frame → Held → State → Ran (Option ℤ)
with_control w (f.next step) k h s = with_step w step k h s
with_control w (f.before kind at step) k h s = then_ (pass kind at h.environment s) (λ p s1. with_step w step k h s1)
with_control w (f.ended n) k h s = goes n s
with_control w (f.undefined rule at) k h s = fails rule at
with_control w f.stuck k h s = waits

abbrev pub setting : ℕ → Configuration → Setting
setting left m = record { items = m.items; file = m.held.file; bound = m.meter.passed + left }

abbrev pub state_with : ℕ → Configuration → State
state_with left m = record { objects = m.objects; left = left }

-- what is left of a run that may pass so many points more
abbrev pub rest_of : ℕ → Configuration → Ran (Option ℤ)
rest_of left m = with_control (setting left m) m.control m.stack m.held (state_with left m)

-- the same where this step follows
abbrev pub rest_from : ℕ → Step → Configuration → Ran (Option ℤ)
rest_from left step m = with_step (setting left m) step m.stack m.held (state_with left m)
