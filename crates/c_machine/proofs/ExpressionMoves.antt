-- Moves of expressions leave of a run what was left before.
use Rattle.std.proofs.Common.{◌≡◌, ℕ, ◌∙◌, sym, refl, ap, List, [], ◌∷◌, ◌++◌, ◌||◌, Option, Some, None, Bool, true, false, if◌then◌else◌}
use Rattle.hls_base.specs.declared.place.Place.{Place}
use Rattle.hls_base.specs.declared.point.PointKind.{PointKind}
use Rattle.hls_base.specs.declared.point.PointKind.TheVariants as point
use Rattle.c_token.specs.declared.ctype.CType.{CType}
use Rattle.c_tree.specs.declared.operator.Binary.{Binary}
use Rattle.c_tree.specs.declared.operator.Binary.TheVariants as b
use Rattle.c_tree.specs.Tree as tree
use Rattle.c_tree.specs.Tree.{Tree, Trees, ActionTree}
use Rattle.c_value.specs.Values.{int_type, convert, common}
use Rattle.c_value.specs.Operators.{truth, is_true, unary_kind, unary_value}
use Rattle.c_meaning.specs.declared.value.Value.{Value}
use Rattle.c_meaning.specs.declared.value.Argument.{Argument}
use Rattle.c_meaning.specs.declared.value.Argument.TheVariants as argument
use Rattle.c_meaning.specs.declared.value.Completion.TheVariants as end
use Rattle.c_meaning.specs.Store.{State, object_named}
use Rattle.c_meaning.specs.Steps.{Ran, then_, goes}
use Rattle.c_meaning.specs.Expression as e
use Rattle.c_meaning.specs.Expression.{Calls, value, acts, expression_meaning, computed, operated, read_object, numbers, arguments}
use Rattle.c_meaning.specs.Statement.{act_all, action_tree}
use Rattle.c_machine.specs.Frames as f
use Rattle.c_machine.specs.Frames.{Configuration, Use, Step, numbers_closed, given_closed}
use Rattle.c_machine.specs.State.Lists.{latest}
use Rattle.c_machine.specs.Rest as rest
use Rattle.c_machine.specs.Rest.{rest_of, rest_from, setting, state_with, calls_at, with_value, with_end}
use Rattle.c_machine.specs.Moves.{evaluated, used_for, next_subscript, argument_begun, next_argument, next_action, at_fork, reached, not_reached, joined, chosen, picked, kind_here, pushed, holding, here, still}
use Rattle.c_machine.proofs.ThenLaws.{then_assoc}
use Rattle.c_machine.proofs.Nesting.{nest4, inner2}
use Rattle.c_machine.proofs.Quiet.{read_object-quiet, bumped-quiet, concluded-rest}

-- An expression whose value something waits for, and what follows behind that.
pub behind-expression : (left : ℕ) (used : Bool) (t : Tree) (m : Configuration) (next : Value → State → Ran Value)
    → then_ (expression_meaning (calls_at (setting left m) m.stack) used t (here m) (state_with left m)) (λ v s. then_ (next v s) (with_value (setting left m) m.stack m.held))
    ≡ then_ (then_ (expression_meaning (calls_at (setting left m) m.stack) used t (here m) (state_with left m)) next) (with_value (setting left m) m.stack m.held)
behind-expression left used t m next =
    sym (then_assoc (expression_meaning (calls_at (setting left m) m.stack) used t (here m) (state_with left m)) next (with_value (setting left m) m.stack m.held))

pub evaluated-rest : (left : ℕ) (used : Bool) (t : Tree) (m : Configuration) → rest_of left (evaluated used t m) ≡ rest_from left (f.evaluate used t) m
evaluated-rest left used (tree.number n kind at) m = refl
evaluated-rest left used (tree.name text at) m =
    concluded-rest left (read_object (object_named (here m) text) [] at (state_with left m)) (read_object (object_named (here m) text) [] at (still m)) m
    (read_object-quiet left (object_named (here m) text) [] at (still m))
evaluated-rest left used (tree.index array subscripts at) m = refl
evaluated-rest left used (tree.call callee args at) m = refl
evaluated-rest left used (tree.unary op arg at) m = behind-expression left true arg m (λ x s1. computed (unary_kind op x.kind) (unary_value op x.kind x.number) at s1)
evaluated-rest left used (tree.binary op first second at) m =
    behind-expression left true first m (λ x s1. e.joined op x (acts second) at (here m) (expression_meaning (calls_at (setting left m) m.stack) true second (here m)) s1)
evaluated-rest left used (tree.choice test first second at colon) m =
    behind-expression left true test m (λ x s1. rest.picked (calls_at (setting left m) m.stack) first second at colon x (here m) s1)
evaluated-rest left used (tree.cast to arg at) m = behind-expression left true arg m (λ x s1. goes (value to (convert to x.number)) s1)
evaluated-rest left used (tree.assign (tree.target text subscripts place) op v at) m = refl
evaluated-rest left used (tree.bump (tree.target text subscripts place) up post at) m = refl
evaluated-rest left used (tree.comma first second at) m =
    behind-expression left false first m (λ x s1. expression_meaning (calls_at (setting left m) m.stack) true second (here m) s1)

-- ---- subscripts and arguments

used_for-rest : (left : ℕ) (u : Use) (m : Configuration) → rest_of left (used_for u m) ≡ rest_from left (f.subscripts tree.none u) m
used_for-rest left (f.reading array at) m =
    concluded-rest left (read_object (object_named (here m) array) (latest m.held.numbers) at (state_with left m)) (read_object (object_named (here m) array) (latest m.held.numbers) at (still m))
    (holding (numbers_closed m.held) m) (read_object-quiet left (object_named (here m) array) (latest m.held.numbers) at (still m))
used_for-rest left (f.assigning text op v place at) m =
    sym (then_assoc (expression_meaning (calls_at (setting left m) m.stack) true v (here m) (state_with left m))
    (λ x s1. e.assigned op (object_named (here m) text) (latest m.held.numbers) place x at s1) (with_value (setting left m) m.stack (numbers_closed m.held)))
used_for-rest left (f.bumping text up post place at) m =
    concluded-rest left (e.bumped up post (object_named (here m) text) (latest m.held.numbers) place at (state_with left m))
    (e.bumped up post (object_named (here m) text) (latest m.held.numbers) place at (still m))
    (holding (numbers_closed m.held) m) (bumped-quiet left up post (object_named (here m) text) (latest m.held.numbers) place at (still m))

pub next_subscript-rest : (left : ℕ) (others : Trees) (u : Use) (m : Configuration) → rest_of left (next_subscript others u m) ≡ rest_from left (f.subscripts others u) m
next_subscript-rest left tree.none u m = used_for-rest left u m
next_subscript-rest left (tree.more first others) u m =
    let c = calls_at (setting left m) m.stack in
    let r = expression_meaning c true first (here m) (state_with left m) in
    let k = with_value (setting left m) m.stack (numbers_closed m.held) in
    let before = latest m.held.numbers in
    sym (then_assoc r (λ v s. rest.indexed c others u (before ++ v.number ∷ []) (here m) s) k)
    ∙ ap (λ (x : Ran Value). then_ x k) (sym (then_assoc r (λ v s. numbers c others (before ++ v.number ∷ []) (here m) s) (λ is s1. rest.subscripted c u is (here m) s1)))

array_given-same : (left : ℕ) (m : Configuration) (t : Tree) → e.array_given (here m) (still m) t ≡ e.array_given (here m) (state_with left m) t
array_given-same left m (tree.name text at) = refl
array_given-same left m _ = refl

argument_begun-rest : (left : ℕ) (o : Option ℕ) (first : Tree) (others : Trees) (callee : List ℕ) (used : Bool) (at : Place) (m : Configuration)
    → rest_of left (argument_begun o first others callee used at m)
    ≡ then_ (then_ (then_ (e.argument_of o (expression_meaning (calls_at (setting left m) m.stack) true first (here m)) (state_with left m))
    (λ a s1. arguments (calls_at (setting left m) m.stack) others (latest m.held.given ++ a ∷ []) (here m) s1))
    (λ given s1. e.call_value (calls_at (setting left m) m.stack) used callee given at (here m) s1)) (with_value (setting left m) m.stack (given_closed m.held))
argument_begun-rest left (Some object) first others callee used at m = refl
argument_begun-rest left None first others callee used at m =
    let c = calls_at (setting left m) m.stack in
    let k = with_value (setting left m) m.stack (given_closed m.held) in
    let before = latest m.held.given in
    let one : Argument → State → Ran (List Argument) = λ a s1. arguments c others (before ++ a ∷ []) (here m) s1 in
    let behind : List Argument → State → Ran Value = λ given s1. e.call_value c used callee given at (here m) s1 in
    let r = expression_meaning c true first (here m) (state_with left m) in
    sym (nest4 r (λ v s1. goes (argument.Number v.number) s1) one behind k)

pub next_argument-more : (left : ℕ) (first : Tree) (others : Trees) (callee : List ℕ) (used : Bool) (at : Place) (m : Configuration)
    → rest_of left (next_argument (tree.more first others) callee used at m) ≡ rest_from left (f.arguments (tree.more first others) callee used at) m
next_argument-more left first others callee used at m =
    ap (λ o. rest_of left (argument_begun o first others callee used at m)) (array_given-same left m first)
    ∙ argument_begun-rest left (e.array_given (here m) (state_with left m) first) first others callee used at m

-- ---- actions

pub next_action-rest : (left : ℕ) (actions : List ActionTree) (m : Configuration) → rest_of left (next_action actions m) ≡ rest_from left (f.act actions) m
next_action-rest left [] m = refl
next_action-rest left (a ∷ more) m =
    let c = calls_at (setting left m) m.stack in
    evaluated-rest left false (action_tree a) (pushed (f.on_value (f.acting more)) m)
    ∙ sym (then_assoc (expression_meaning c false (action_tree a) (here m) (state_with left m)) (λ v s1. act_all c more (here m) s1)
    (λ u s1. with_end (setting left m) m.stack m.held end.Normal s1))

-- ---- operators behind an operand

-- where an operator passes points, one stands in front of what it evaluates
at_fork-rest : (left : ℕ) (fork : Bool) (kind : PointKind) (at : Place) (step : Step) (m : Configuration)
    → rest_of left (at_fork fork kind at step m)
    ≡ then_ (e.pass_if fork kind at (here m) (state_with left m)) (λ p s1. rest.with_step (setting left m) step m.stack m.held s1)
at_fork-rest left true kind at step m = refl
at_fork-rest left false kind at step m = refl

forked-rest : (left : ℕ) (fork : Bool) (arm : Place) (operand : Tree) (m : Configuration) (q : Value → State → Ran Value)
    → then_ (e.pass_if fork point.Arm arm (here m) (state_with left m))
    (λ p s1. then_ (expression_meaning (calls_at (setting left m) m.stack) true operand (here m) s1) (λ v s2. then_ (q v s2) (with_value (setting left m) m.stack m.held)))
    ≡ then_ (then_ (e.pass_if fork point.Arm arm (here m) (state_with left m)) (λ p s1. then_ (expression_meaning (calls_at (setting left m) m.stack) true operand (here m) s1) q))
    (with_value (setting left m) m.stack m.held)
forked-rest left fork arm operand m q =
    sym (inner2 (e.pass_if fork point.Arm arm (here m) (state_with left m)) (λ p s1. expression_meaning (calls_at (setting left m) m.stack) true operand (here m) s1) q
    (with_value (setting left m) m.stack m.held))

reached-rest : (left : ℕ) (fork : Bool) (right : Tree) (at : Place) (m : Configuration)
    → rest_of left (reached fork right at m)
    ≡ then_ (e.reached fork at (here m) (expression_meaning (calls_at (setting left m) m.stack) true right (here m)) (state_with left m)) (with_value (setting left m) m.stack m.held)
reached-rest left fork right at m =
    at_fork-rest left fork point.Arm at (f.evaluate true right) (pushed (f.on_value (f.reached fork at)) m)
    ∙ forked-rest left fork at right m (λ y s2. rest.behind_operand fork at (value int_type (truth (is_true y.number))) (here m) s2)

not_reached-rest : (left : ℕ) (fork decided : Bool) (at : Place) (m : Configuration)
    → rest_of left (not_reached fork decided at m) ≡ then_ (e.not_reached fork at (here m) decided (state_with left m)) (with_value (setting left m) m.stack m.held)
not_reached-rest left fork decided at m =
    at_fork-rest left fork point.End at (f.give (value int_type (truth decided))) m
    ∙ sym (then_assoc (e.pass_if fork point.End at (here m) (state_with left m)) (λ q s1. goes (value int_type (truth decided)) s1) (with_value (setting left m) m.stack m.held))

and-rest : (left : ℕ) (holds : Bool) (right : Tree) (at : Place) (m : Configuration)
    → rest_of left (if holds then reached (acts right) right at m else not_reached (acts right) false at m)
    ≡ then_ (if holds then e.reached (acts right) at (here m) (expression_meaning (calls_at (setting left m) m.stack) true right (here m)) (state_with left m)
    else e.not_reached (acts right) at (here m) false (state_with left m)) (with_value (setting left m) m.stack m.held)
and-rest left true right at m = reached-rest left (acts right) right at m
and-rest left false right at m = not_reached-rest left (acts right) false at m

or-rest : (left : ℕ) (holds : Bool) (right : Tree) (at : Place) (m : Configuration)
    → rest_of left (if holds then not_reached (acts right) true at m else reached (acts right) right at m)
    ≡ then_ (if holds then e.not_reached (acts right) at (here m) true (state_with left m)
    else e.reached (acts right) at (here m) (expression_meaning (calls_at (setting left m) m.stack) true right (here m)) (state_with left m)) (with_value (setting left m) m.stack m.held)
or-rest left true right at m = not_reached-rest left (acts right) true at m
or-rest left false right at m = reached-rest left (acts right) right at m

pub joined-rest : (left : ℕ) (op : Binary) (x : Value) (right : Tree) (at : Place) (m : Configuration)
    → rest_of left (joined op x right at m)
    ≡ then_ (e.joined op x (acts right) at (here m) (expression_meaning (calls_at (setting left m) m.stack) true right (here m)) (state_with left m)) (with_value (setting left m) m.stack m.held)
joined-rest left b.LogAnd x right at m = and-rest left (is_true x.number) right at m
joined-rest left b.LogOr x right at m = or-rest left (is_true x.number) right at m
joined-rest left b.Mul x right at m = behind-expression left true right m (λ y s1. operated b.Mul x y at s1)
joined-rest left b.Div x right at m = behind-expression left true right m (λ y s1. operated b.Div x y at s1)
joined-rest left b.Rem x right at m = behind-expression left true right m (λ y s1. operated b.Rem x y at s1)
joined-rest left b.Add x right at m = behind-expression left true right m (λ y s1. operated b.Add x y at s1)
joined-rest left b.Sub x right at m = behind-expression left true right m (λ y s1. operated b.Sub x y at s1)
joined-rest left b.Shl x right at m = behind-expression left true right m (λ y s1. operated b.Shl x y at s1)
joined-rest left b.Shr x right at m = behind-expression left true right m (λ y s1. operated b.Shr x y at s1)
joined-rest left b.Lt x right at m = behind-expression left true right m (λ y s1. operated b.Lt x y at s1)
joined-rest left b.Gt x right at m = behind-expression left true right m (λ y s1. operated b.Gt x y at s1)
joined-rest left b.Le x right at m = behind-expression left true right m (λ y s1. operated b.Le x y at s1)
joined-rest left b.Ge x right at m = behind-expression left true right m (λ y s1. operated b.Ge x y at s1)
joined-rest left b.Eq x right at m = behind-expression left true right m (λ y s1. operated b.Eq x y at s1)
joined-rest left b.Ne x right at m = behind-expression left true right m (λ y s1. operated b.Ne x y at s1)
joined-rest left b.And x right at m = behind-expression left true right m (λ y s1. operated b.And x y at s1)
joined-rest left b.Xor x right at m = behind-expression left true right m (λ y s1. operated b.Xor x y at s1)
joined-rest left b.Or x right at m = behind-expression left true right m (λ y s1. operated b.Or x y at s1)

chosen-rest : (left : ℕ) (fork : Bool) (arm at : Place) (kind : CType) (operand : Tree) (m : Configuration)
    → rest_of left (chosen fork arm at kind operand m)
    ≡ then_ (e.chosen fork arm at kind (here m) (expression_meaning (calls_at (setting left m) m.stack) true operand (here m)) (state_with left m)) (with_value (setting left m) m.stack m.held)
chosen-rest left fork arm at kind operand m =
    at_fork-rest left fork point.Arm arm (f.evaluate true operand) (pushed (f.on_value (f.chosen fork at kind)) m)
    ∙ forked-rest left fork arm operand m (λ y s2. rest.behind_operand fork at (value kind (convert kind y.number)) (here m) s2)

picked_at : (left : ℕ) (holds : Bool) (first second : Tree) (at colon : Place) (kind : CType) (m : Configuration)
    → rest_of left (if holds then chosen (acts first || acts second) at at kind first m else chosen (acts first || acts second) colon at kind second m)
    ≡ then_ (if holds then e.chosen (acts first || acts second) at at kind (here m) (expression_meaning (calls_at (setting left m) m.stack) true first (here m)) (state_with left m)
    else e.chosen (acts first || acts second) colon at kind (here m) (expression_meaning (calls_at (setting left m) m.stack) true second (here m)) (state_with left m))
    (with_value (setting left m) m.stack m.held)
picked_at left true first second at colon kind m = chosen-rest left (acts first || acts second) at at kind first m
picked_at left false first second at colon kind m = chosen-rest left (acts first || acts second) colon at kind second m

pub picked-rest : (left : ℕ) (first second : Tree) (at colon : Place) (x : Value) (m : Configuration)
    → rest_of left (picked first second at colon x m)
    ≡ then_ (rest.picked (calls_at (setting left m) m.stack) first second at colon x (here m) (state_with left m)) (with_value (setting left m) m.stack m.held)
picked-rest left first second at colon x m = picked_at left (is_true x.number) first second at colon (common (kind_here m first) (kind_here m second)) m

pub behind_operand-rest : (left : ℕ) (fork : Bool) (at : Place) (v : Value) (m : Configuration)
    → rest_of left (at_fork fork point.End at (f.give v) m) ≡ then_ (rest.behind_operand fork at v (here m) (state_with left m)) (with_value (setting left m) m.stack m.held)
behind_operand-rest left fork at v m =
    at_fork-rest left fork point.End at (f.give v) m
    ∙ sym (then_assoc (e.pass_if fork point.End at (here m) (state_with left m)) (λ q s1. goes v s1) (with_value (setting left m) m.stack m.held))
