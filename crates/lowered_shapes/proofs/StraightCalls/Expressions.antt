-- No call ends among straight pieces of an expression, where none does in the calls in it.
use Rattle.std.proofs.Common.{ℕ, Bool, ◌&&◌, List, [], ◌∷◌, ◌++◌, Option}
use Rattle.hls_base.specs.declared.place.Place.{Place}
use Rattle.hls_base.specs.declared.number.VarId.{VarId}
use Rattle.c_token.specs.declared.ctype.CType.{CType}
use Rattle.c_tree.specs.declared.operator.Binary.{Binary}
use Rattle.pieces.specs.declared.resolved.expression.Cell.{Cell}
use Rattle.pieces.specs.Resolved.Core as core
use Rattle.pieces.specs.Resolved.Core.{CoreTree, CoreTargetTree, CoreTrees, ArgumentTree, ArgumentTrees}
use Rattle.pieces.specs.Trees as tree
use Rattle.pieces.specs.Trees.{PureTree, PureTrees, PieceTree, piece_row, row}
use Rattle.pieces.specs.Kind.{kind}
use Rattle.piece_making.specs.declared.effects.Effects.{Effects}
use Rattle.piece_making.specs.Acting.{acts, either, no_effects, effects, effects_of_all, effects_of_arguments}
use Rattle.piece_making.specs.Making.{State, Part, gives, then_, emit, fresh}
use Rattle.piece_making.specs.Saving.{save, is_logical}
use Rattle.piece_making.specs.Calls.{Call, variable}
use Rattle.piece_making.specs.Assigning.{Change, store_at, store, assigned, bumped, bumped_behind, new_value, target_read, one, step}
use Rattle.c_expand.specs.Expressions.{Given, Callee, is_call, may_be_unused, set_unused, discarded, comma_left, value_or_zero, arm, decided, to_bool, same, fork_of, is_or, forked, operated, chosen, expression, operands, targeted, argument, arguments}
use Rattle.lowered_shapes.proofs.StraightCalls.Parts.{IsApart, ApartThere, fork_apart, nothing_apart, then_at, then_apart, emit_apart, set_apart, put_apart, mark_apart, if_apart, fresh_apart, inside_apart, inner_apart, own_apart, save_apart}

-- what calls become
abbrev pub CalleesApart : Callee → Type 0
CalleesApart g = (callee : ℕ) (given : List Given) (c : Call) (at : Place) → ApartThere (g callee given c at)

-- ---- forks

arm_apart : (c : Call) (at : Place) (operand : State → Part PureTree) (converted : PureTree → PureTree) (name : VarId) → ApartThere operand → (s : State) → IsApart (arm c at operand converted name s).value.pieces
arm_apart c at operand converted name h s =
    inner_apart (λ s0. then_ (emit (tree.mark _) s0) (λ u s1. then_ (operand s1) (λ value s2. emit (tree.set name (converted value)) s2)))
    (λ s0. then_apart (emit (tree.mark _) s0) _ (mark_apart _ s0) (λ u s1. then_apart (operand s1) _ (h s1) (λ value s2. set_apart name (converted value) s2))) s

decided_apart : (is_one : Bool) (name : VarId) (s : State) → IsApart (decided is_one name s).value.pieces
decided_apart is_one name s = inner_apart (λ s0. emit (tree.set name _) s0) (λ s0. set_apart name _ s0) s

fork_of_apart : (c : Call) (at : Place) (test : PureTree) (left right : List PieceTree) (name : VarId) (k : CType) → IsApart left → IsApart right → ApartThere (fork_of c at test left right name k)
fork_of_apart c at test left right name k h g s = then_apart (emit (tree.fork test (piece_row left) (piece_row right) _) s) _ (emit_apart (tree.fork test (piece_row left) (piece_row right) _) (fork_apart test left right _ h g) s) (λ u s1. nothing_apart)

forked_apart : (c : Call) (op : Binary) (k : CType) (at : Place) (test : PureTree) (right : State → Part PureTree) → ApartThere right → ApartThere (forked c op k at test right)
forked_apart c op k at test right h s =
    let own = fresh k s in
    let reached = arm c at right to_bool own.value own.state in
    let r = arm_apart c at right to_bool own.value h own.state in
    let other = decided (is_or op) own.value reached.state in
    let o = decided_apart (is_or op) own.value reached.state in
    then_at own _ (fresh_apart k s)
    (then_at reached _ (inside_apart _ own.state)
    (then_at other _ (inside_apart _ reached.state)
    (if_apart (is_or op) (fork_of c at test other.value.pieces reached.value.pieces own.value k other.state) (fork_of c at test reached.value.pieces other.value.pieces own.value k other.state)
    (fork_of_apart c at test other.value.pieces reached.value.pieces own.value k o r other.state) (fork_of_apart c at test reached.value.pieces other.value.pieces own.value k r o other.state))))

operated_apart : (c : Call) (op : Binary) (k : CType) (at : Place) (x : PureTree) (later : Effects) (right : State → Part PureTree) → ApartThere right → ApartThere (operated c op k at x later right)
operated_apart c op k at x later right h s =
    then_apart (save c.file_variables x later s) _ (save_apart c.file_variables x later s)
    (λ left s1. if_apart (is_logical op && acts later) (forked c op k at left right s1) (then_ (right s1) (λ y s2. gives (tree.binary op left y k at) s2)) (forked_apart c op k at left right h s1)
    (then_apart (right s1) (λ y s2. gives (tree.binary op left y k at) s2) (h s1) (λ y s2. nothing_apart)))

-- a `?:` that becomes a fork
chosen_fork : (c : Call) (k : CType) (at colon : Place) (t : PureTree) (left right : State → Part PureTree) → ApartThere left → ApartThere right
    → ApartThere (λ s1. then_ (fresh k s1) (λ own s2. then_ (arm c at left same own s2) (λ first s3. then_ (arm c colon right same own s3) (λ second s4. fork_of c at t first.pieces second.pieces own k s4))))
chosen_fork c k at colon t left right h g s =
    let own = fresh k s in
    let first = arm c at left same own.value own.state in
    let a = arm_apart c at left same own.value h own.state in
    let second = arm c colon right same own.value first.state in
    let b = arm_apart c colon right same own.value g first.state in
    then_at own _ (fresh_apart k s)
    (then_at first _ (inside_apart _ own.state) (then_at second _ (inside_apart _ first.state) (fork_of_apart c at t first.value.pieces second.value.pieces own.value k a b second.state)))

chosen_apart : (c : Call) (k : CType) (at colon : Place) (test : PureTree) (later : Effects) (left right : State → Part PureTree) → ApartThere left → ApartThere right → ApartThere (chosen c k at colon test later left right)
unfolding chosen
chosen_apart c k at colon test later left right h g s =
    if_apart (acts later)
    (then_ (save c.file_variables test later s) (λ t s1. then_ (fresh k s1) (λ own s2. then_ (arm c at left same own s2) (λ first s3. then_ (arm c colon right same own s3) (λ second s4. fork_of c at t first.pieces second.pieces own k s4)))))
    (then_ (left s) (λ x s1. then_ (right s1) (λ y s2. gives (tree.choice test x y k) s2)))
    (then_apart (save c.file_variables test later s) _ (save_apart c.file_variables test later s) (λ t s1. chosen_fork c k at colon t left right h g s1))
    (then_apart (left s) (λ x s1. then_ (right s1) (λ y s2. gives (tree.choice test x y k) s2)) (h s)
    (λ x s1. then_apart (right s1) (λ y s2. gives (tree.choice test x y k) s2) (g s1) (λ y s2. nothing_apart)))

-- ---- assignments

store_at_apart : (c : Call) (cell : Cell) (at : Place) (subscripts : PureTrees) (v : PureTree) → ApartThere (store_at c cell at subscripts v)
store_at_apart c cell at tree.none v s = set_apart (variable c cell) v s
store_at_apart c cell at (tree.more first rest) v s = put_apart _ (tree.more first rest) v at s

pub store_apart : (c : Call) (t : Change) (v : PureTree) → ApartThere (store c t v)
store_apart c t v s = store_at_apart c t.cell t.target_at t.subscripts v s

assigned_apart : (c : Call) (t : Change) (by : PureTree) → ApartThere (assigned c t by)
assigned_apart c t by s =
    then_apart (fresh t.kind s) _ (fresh_apart t.kind s)
    (λ own s1. then_apart (emit (tree.set own (new_value t (target_read c t s) by)) s1) _ (set_apart own (new_value t (target_read c t s) by) s1)
    (λ u s2. then_apart (store c t (tree.variable own t.kind) s2) _ (store_apart c t (tree.variable own t.kind) s2) (λ v s3. nothing_apart)))

behind_apart : (c : Call) (t : Change) → ApartThere (bumped_behind c t)
behind_apart c t s =
    then_apart (fresh t.kind s) _ (fresh_apart t.kind s)
    (λ own s1. then_apart (emit (tree.set own (target_read c t s)) s1) _ (set_apart own (target_read c t s) s1)
    (λ u s2. then_apart (store c t (new_value t (tree.variable own t.kind) one) s2) _ (store_apart c t (new_value t (tree.variable own t.kind) one) s2) (λ v s3. nothing_apart)))

bumped_apart : (c : Call) (t : Change) (post : Bool) → ApartThere (bumped c t post)
bumped_apart c t post s = if_apart post (bumped_behind c t s) (assigned c t one s) (behind_apart c t s) (assigned_apart c t one s)

unused_apart : (x : PureTree) → ApartThere (set_unused x)
unused_apart x s = then_apart (_) _ (own_apart (kind x) x s) (λ own s1. nothing_apart)

pub discarded_apart : (b : Bool) (x : PureTree) → ApartThere (discarded b x)
discarded_apart b x s = if_apart b (gives tt s) (set_unused x s) (nothing_apart) (unused_apart x s)

comma_left_apart : (n : ℕ) (left : CoreTree) (x : PureTree) (later : Effects) → ApartThere (comma_left n left x later)
comma_left_apart n left x later s =
    if_apart (is_call left) (gives tt s) (then_ (save n x later s) (λ y s1. discarded (may_be_unused left) y s1)) (nothing_apart)
    (then_apart (save n x later s) _ (save_apart n x later s) (λ y s1. discarded_apart (may_be_unused left) y s1))

-- ---- expressions

module _ (g : Callee) (callees : CalleesApart g) (c : Call) where
  mutual
    pub expression_apart : (e : CoreTree) → ApartThere (expression g c e)
    expression_apart (core.number v k) s = nothing_apart
    expression_apart (core.scalar cell k at) s = nothing_apart
    expression_apart (core.element name subscripts k at) s = then_apart (operands g c subscripts no_effects [] s) _ (operands_apart subscripts no_effects [] s) (λ given s1. nothing_apart)
    expression_apart (core.call callee args k at) s =
        then_apart (then_ (arguments g c args [] s) (λ given s1. g callee given c at s1)) (λ v s2. gives (value_or_zero v) s2)
        (then_apart (arguments g c args [] s) (λ given s1. g callee given c at s1) (arguments_apart args [] s) (λ given s1. callees callee given c at s1)) (λ v s2. nothing_apart)
    expression_apart (core.unary op arg k at) s = then_apart (expression g c arg s) _ (expression_apart arg s) (λ x s1. nothing_apart)
    expression_apart (core.binary op left right k at) s =
        then_apart (expression g c left s) _ (expression_apart left s) (λ x s1. operated_apart c op k at x (effects right) (expression g c right) (λ s2. expression_apart right s2) s1)
    expression_apart (core.choice test left right k at colon) s =
        then_apart (expression g c test s) _ (expression_apart test s)
        (λ t s1. chosen_apart c k at colon t (either (effects left) (effects right)) (expression g c left) (expression g c right) (λ s2. expression_apart left s2) (λ s2. expression_apart right s2) s1)
    expression_apart (core.cast to arg) s = then_apart (expression g c arg s) _ (expression_apart arg s) (λ x s1. nothing_apart)
    expression_apart (core.assign left op value at) s =
        then_apart (targeted g c left (effects value) op at s) _ (target_apart left (effects value) op at s)
        (λ t s1. then_apart (expression g c value s1) _ (expression_apart value s1) (λ by s2. assigned_apart c t by s2))
    expression_apart (core.bump left up post at) s = then_apart (targeted g c left no_effects (step up) at s) _ (target_apart left no_effects (step up) at s) (λ t s1. bumped_apart c t post s1)
    expression_apart (core.comma left right) s =
        then_apart (expression g c left s) _ (expression_apart left s)
        (λ x s1. then_apart (comma_left c.file_variables left x (effects right) s1) _ (comma_left_apart c.file_variables left x (effects right) s1) (λ u s2. expression_apart right s2))

    operands_apart : (xs : CoreTrees) (later : Effects) (before : List PureTree) → ApartThere (operands g c xs later before)
    operands_apart core.none later before s = nothing_apart
    operands_apart (core.more first rest) later before s =
        then_apart (expression g c first s) _ (expression_apart first s)
        (λ x s1. then_apart (save c.file_variables x (either (effects_of_all rest) later) s1) _ (save_apart c.file_variables x (either (effects_of_all rest) later) s1) (λ y s2. operands_apart rest later (before ++ y ∷ []) s2))

    pub target_apart : (t : CoreTargetTree) (later : Effects) (op : Option Binary) (at : Place) → ApartThere (targeted g c t later op at)
    target_apart (core.target cell subscripts k place) later op at s =
        then_apart (operands g c subscripts later [] s) _ (operands_apart subscripts later [] s) (λ given s1. nothing_apart)

    argument_apart : (a : ArgumentTree) (later : Effects) → ApartThere (argument g c a later)
    argument_apart (core.given e) later s =
        then_apart (expression g c e s) _ (expression_apart e s) (λ x s1. then_apart (save c.file_variables x later s1) _ (save_apart c.file_variables x later s1) (λ y s2. nothing_apart))
    argument_apart (core.array cell) later s = nothing_apart

    arguments_apart : (args : ArgumentTrees) (before : List Given) → ApartThere (arguments g c args before)
    arguments_apart core.no_argument before s = nothing_apart
    arguments_apart (core.more_arguments first rest) before s =
        then_apart (argument g c first (effects_of_arguments rest) s) _ (argument_apart first (effects_of_arguments rest) s) (λ a s1. arguments_apart rest (before ++ a ∷ []) s1)
