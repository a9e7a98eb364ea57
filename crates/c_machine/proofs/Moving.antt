-- Each move of the machine leaves of a run what was left before.
use Rattle.std.proofs.Common.{◌≡◌, ℕ, ◌+◌, ◌<◌, ◌∙◌, sym, refl, List, [], ◌∷◌, ℤ, Option, Bool, true, arith}
use Rattle.hls_base.specs.declared.place.Place.{Place}
use Rattle.c_tree.specs.Tree as tree
use Rattle.c_tree.specs.Tree.{Trees}
use Rattle.c_value.specs.Values.{convert}
use Rattle.c_value.specs.Operators.{is_true, unary_kind, unary_value, truth}
use Rattle.c_value.specs.Values.{int_type}
use Rattle.c_meaning.specs.declared.value.Value.{Value}
use Rattle.c_meaning.specs.declared.value.Completion.{Completion}
use Rattle.c_meaning.specs.Store.{object_named, left_block}
use Rattle.c_meaning.specs.Expression.{value, computed, operated, assigned}
use Rattle.c_meaning.specs.Statement.{behind_breakable, round_of}
use Rattle.c_meaning.specs.Run.{function_left}
use Rattle.c_machine.specs.Frames as f
use Rattle.c_machine.specs.Frames.{ValueFrame, EndFrame, Frame, Step, Configuration, numbers_closed}
use Rattle.c_machine.specs.State.Lists.{latest}
use Rattle.c_machine.specs.Rest.{rest_of, rest_from, setting, state_with, calls_in, calls_at, jumped, with_value, with_end}
use Rattle.c_machine.specs.Sound.{value_fits, end_fits, within}
use Rattle.c_machine.specs.Moves.{here, holding, still, left_scope, pushed, resumed, ended, given_value, given_end, finished, stepped, next_argument}
use Rattle.c_machine.proofs.ThenLaws.{then_assoc, then_goes}
use Rattle.c_machine.proofs.Quiet.{computed-quiet, operated-quiet, assigned-quiet, concluded-rest}
use Rattle.c_machine.proofs.ExpressionMoves.{evaluated-rest, next_subscript-rest, next_argument-more, next_action-rest, joined-rest, picked-rest, behind_operand-rest}
use Rattle.c_machine.proofs.LoopMoves.{round_begun-rest, loop_begun-rest, tested-rest, body_left-rest}
use Rattle.c_machine.proofs.DeclarationMoves.{initialised-rest, next_row-rest, next_object-rest}
use Rattle.c_machine.proofs.CallMoves.{next_argument-last, call_left-rest}
use Rattle.c_machine.proofs.StatementMoves.{block_begun-rest, items_resumed-rest, if_left-rest, switch_left-rest, branched-rest, executed-rest}
use Rattle.c_machine.proofs.SwitchMoves.{jumped-rest}

resumed-rest : (left : ℕ) (frame : ValueFrame) (x : Value) (m : Configuration) → value_fits m.meter.passed frame
    → rest_of left (resumed frame x m) ≡ with_value (setting left m) (f.on_value frame ∷ m.stack) m.held x (state_with left m)
resumed-rest left (f.unary op at) x m h =
    concluded-rest left (computed (unary_kind op x.kind) (unary_value op x.kind x.number) at (state_with left m)) (computed (unary_kind op x.kind) (unary_value op x.kind x.number) at (still m)) m
    (computed-quiet left (unary_kind op x.kind) (unary_value op x.kind x.number) at (still m))
resumed-rest left (f.left op right at) x m h = joined-rest left op x right at m
resumed-rest left (f.right op x at) y m h = concluded-rest left (operated op x y at (state_with left m)) (operated op x y at (still m)) m (operated-quiet left op x y at (still m))
resumed-rest left (f.reached fork at) y m h = behind_operand-rest left fork at (value int_type (truth (is_true y.number))) m
resumed-rest left (f.choice first second at colon) x m h = picked-rest left first second at colon x m
resumed-rest left (f.chosen fork at kind) y m h = behind_operand-rest left fork at (value kind (convert kind y.number)) m
resumed-rest left (f.cast to) x m h = refl
resumed-rest left (f.comma right) x m h = refl
resumed-rest left (f.subscript others u) x m h = refl
resumed-rest left (f.assigned_to text op place at) x m h =
    concluded-rest left (assigned op (object_named (here m) text) (latest m.held.numbers) place x at (state_with left m))
    (assigned op (object_named (here m) text) (latest m.held.numbers) place x at (still m)) (holding (numbers_closed m.held) m)
    (assigned-quiet left op (object_named (here m) text) (latest m.held.numbers) place x at (still m))
resumed-rest left (f.argument others callee used at) x m h = refl
resumed-rest left (f.acting more) x m h = refl
resumed-rest left (f.initial object element) x m h = refl
resumed-rest left (f.if_test tail body other at) x m h = branched-rest left tail (is_true x.number) body other at m
resumed-rest left (f.switch_test body at) x m h =
    let c = calls_at (setting left m) m.stack in
    sym (then_assoc (jumped c x body (here m) (state_with left m)) (λ r s2. behind_breakable r at (here m) s2) (with_end (setting left m) m.stack m.held))
resumed-rest left (f.loop_test l spent) x m h = tested-rest left l spent (is_true x.number) m (omega arith)
resumed-rest left (f.returning tail) x m h = refl

ended-rest : (left : ℕ) (frame : EndFrame) (r : Completion) (m : Configuration) → end_fits m.meter.passed frame
    → rest_of left (ended frame r m) ≡ with_end (setting left m) (f.on_end frame ∷ m.stack) m.held r (state_with left m)
ended-rest left (f.rows object count lengths items element) r m h = next_row-rest left object count lengths items element m
ended-rest left (f.declaring os) r m h = next_object-rest left os m
ended-rest left (f.items tail items count) r m h = items_resumed-rest left tail items count r m
ended-rest left (f.behind_if at) r m h = if_left-rest left at r (left_scope m)
ended-rest left (f.behind_switch at) r m h = switch_left-rest left at r m
ended-rest left f.leaving r m h = refl
ended-rest left (f.loop_body l spent) r m h = body_left-rest left l spent (round_of r) (left_scope m) (omega arith)
ended-rest left (f.loop_step (f.tests_first test body step at) spent) r m h = round_begun-rest left (f.tests_first test body step at) (spent + 1) m (omega arith)
ended-rest left (f.loop_step (f.tests_last test body at) spent) r m h = round_begun-rest left (f.tests_last test body at) (spent + 1) m (omega arith)
ended-rest left (f.for_first l) r m h = loop_begun-rest left l m
ended-rest left (f.called_by used fn count) r m h = call_left-rest left used fn count r (pushed (f.on_end (f.called_by used fn count)) m)
ended-rest left (f.top fn count) r m h =
    call_left-rest left true fn count r (pushed (f.on_end (f.top fn count)) m) ∙ then_goes (function_left true fn r (here m) (left_block count (state_with left m)))

given_value-rest : (left : ℕ) (frames : List Frame) (v : Value) (m : Configuration) → within m.meter.passed frames
    → rest_of left (given_value frames v m) ≡ with_value (setting left m) frames m.held v (state_with left m)
given_value-rest left [] v m h = refl
given_value-rest left (f.on_value frame ∷ k) v m h = resumed-rest left frame v (record m { stack = k }) h.1.0
given_value-rest left (f.on_end frame ∷ k) v m h = refl

given_end-rest : (left : ℕ) (frames : List Frame) (r : Completion) (m : Configuration) → within m.meter.passed frames
    → rest_of left (given_end frames r m) ≡ with_end (setting left m) frames m.held r (state_with left m)
given_end-rest left [] r m h = refl
given_end-rest left (f.on_end frame ∷ k) r m h = ended-rest left frame r (record m { stack = k }) h.1.0
given_end-rest left (f.on_value frame ∷ k) r m h = refl

-- the stack is the machine's own
finished-rest : (left : ℕ) (frames : List Frame) (n : Option ℤ) (m : Configuration) → rest_of left (finished frames n (record m { stack = frames })) ≡ rest_from left (f.finish n) (record m { stack = frames })
finished-rest left [] n m = refl
finished-rest left (f.on_value frame ∷ k) n m = refl
finished-rest left (f.on_end (f.rows object count lengths items element) ∷ k) n m = refl
finished-rest left (f.on_end (f.declaring os) ∷ k) n m = refl
finished-rest left (f.on_end (f.items tail items count) ∷ k) n m = refl
finished-rest left (f.on_end (f.behind_if at) ∷ k) n m = refl
finished-rest left (f.on_end (f.behind_switch at) ∷ k) n m = refl
finished-rest left (f.on_end f.leaving ∷ k) n m = refl
finished-rest left (f.on_end (f.loop_body l spent) ∷ k) n m = refl
finished-rest left (f.on_end (f.loop_step l spent) ∷ k) n m = refl
finished-rest left (f.on_end (f.for_first l) ∷ k) n m = refl
finished-rest left (f.on_end (f.called_by used fn count) ∷ k) n m = refl
finished-rest left (f.on_end (f.top fn count) ∷ k) n m = refl

next_argument-rest : (left : ℕ) (others : Trees) (callee : List ℕ) (used : Bool) (at : Place) (m : Configuration) → calls_in m.stack < m.meter.passed
    → rest_of left (next_argument others callee used at m) ≡ rest_from left (f.arguments others callee used at) m
next_argument-rest left tree.none callee used at m h = next_argument-last left callee used at m h
next_argument-rest left (tree.more first others) callee used at m h = next_argument-more left first others callee used at m

pub stepped-rest : (left : ℕ) (step : Step) (m : Configuration) → within m.meter.passed m.stack → rest_of left (stepped step m) ≡ rest_from left step m
stepped-rest left (f.evaluate used e) m h = evaluated-rest left used e m
stepped-rest left (f.give v) m h = given_value-rest left m.stack v m h
stepped-rest left (f.execute tail stmt) m h = executed-rest left tail stmt m
stepped-rest left (f.complete r) m h = given_end-rest left m.stack r m h
stepped-rest left (f.subscripts others u) m h = next_subscript-rest left others u m
stepped-rest left (f.arguments others callee used at) m h = next_argument-rest left others callee used at m h.0
stepped-rest left (f.act actions) m h = next_action-rest left actions m
stepped-rest left (f.initialise object lengths init element) m h = initialised-rest left object lengths init element m
stepped-rest left (f.block tail body) m h = block_begun-rest left tail body m
stepped-rest left (f.forget object) m h = refl
stepped-rest left (f.jump x body) m h = jumped-rest left x body m
stepped-rest left (f.finish n) m h = finished-rest left m.stack n m
