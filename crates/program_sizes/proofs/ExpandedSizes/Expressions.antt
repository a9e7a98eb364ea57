-- What expressions become is paid for, where calls are.
use Rattle.std.proofs.Common.{ℕ, Bool, ◌&&◌, arith, List, [], ◌∷◌, ◌++◌, Option}
use Rattle.hls_base.specs.declared.place.Place.{Place}
use Rattle.hls_base.specs.declared.number.VarId.{VarId}
use Rattle.c_token.specs.declared.ctype.CType.{CType}
use Rattle.c_tree.specs.declared.operator.Binary.{Binary}
use Rattle.pieces.specs.declared.resolved.expression.Cell.{Cell}
use Rattle.pieces.specs.Resolved.Core as core
use Rattle.pieces.specs.Resolved.Core.{CoreTree, CoreTargetTree, CoreTrees, ArgumentTree, ArgumentTrees}
use Rattle.pieces.specs.Trees as tree
use Rattle.pieces.specs.Trees.{PureTree, PureTrees, PieceTree, piece_row, row}
use Rattle.pieces.specs.Kind.{kind}
use Rattle.piece_making.specs.declared.effects.Effects.{Effects}
use Rattle.piece_making.specs.Acting.{acts, either, no_effects, effects, effects_of_all, effects_of_arguments}
use Rattle.piece_making.specs.Making.{State, Part, gives, then_, emit, fresh}
use Rattle.piece_making.specs.Saving.{save, is_logical}
use Rattle.piece_making.specs.Calls.{Call}
use Rattle.piece_making.specs.Assigning.{Change, store_at, store, assigned, bumped, bumped_behind, apply, new_value, target_read, one}
use Rattle.c_expand.specs.Expressions.{Given, Callee, is_call, may_be_unused, set_unused, discarded, comma_left, arm, decided, to_bool, same, fork_of, is_or, forked, operated, chosen, expression, operands, targeted, argument, arguments}
use Rattle.program_sizes.proofs.ExpandedSizes.Accounts.{Account, IsPaid, owing, holding, gives_paid, then_paid, if_paid}
use Rattle.program_sizes.proofs.ExpandedSizes.Parts.{emit_paid, set_paid, own_set_paid, put_paid, mark_paid, inside_paid, fresh_paid, own_paid, save_paid}

-- calls at any place of this call are paid for
abbrev pub CalleesPaid : Callee → Call → Type 0
CalleesPaid g c = (o : Account) (callee : ℕ) (given : List Given) (at : Place) (s : State) → IsPaid o (λ x. o) s (g callee given c at s)

abbrev pub PaidThere : {A : Type 0} → Account → (State → Part A) → Type 0
PaidThere o part = (s : State) → IsPaid o (λ x. o) s (part s)

-- ---- forks

arm_paid : {o : Account} {s : State} (c : Call) (at : Place) (operand : State → Part PureTree) (converted : PureTree → PureTree) (name : VarId) → PaidThere o operand → IsPaid o (λ x. holding x.pieces o) s (arm c at operand converted name s)
arm_paid {o} {s} c at operand converted name h =
    inside_paid _ (λ s0. then_paid (mark_paid _) (λ u s1. then_paid (h s1) (λ value s2. set_paid name (converted value))))

decided_paid : {o : Account} {s : State} (is_one : Bool) (name : VarId) → IsPaid o (λ x. holding x.pieces o) s (decided is_one name s)
decided_paid is_one name = inside_paid _ (λ s0. set_paid name _)

-- a fork takes up the pieces of its branches, and pays for its variable
fork_paid : {o : Account} {s : State} (c : Call) (at : Place) (test : PureTree) (left right : List PieceTree) (name : VarId) (k : CType) → IsPaid (holding right (holding left (owing 1 0 o))) (λ x. o) s (fork_of c at test left right name k s)
fork_paid {o} c at test left right name k =
    then_paid (emit_paid (tree.fork test (piece_row left) (piece_row right) _) (omega arith) (omega arith) (omega arith) (omega arith)) (λ u s1. gives_paid)

swapped_paid : {o : Account} {s : State} (c : Call) (at : Place) (test : PureTree) (left right : List PieceTree) (name : VarId) (k : CType) → IsPaid (holding left (holding right (owing 1 0 o))) (λ x. o) s (fork_of c at test left right name k s)
swapped_paid {o} c at test left right name k =
    then_paid (emit_paid (tree.fork test (piece_row left) (piece_row right) _) (omega arith) (omega arith) (omega arith) (omega arith)) (λ u s1. gives_paid)

forked_paid : {o : Account} {s : State} (c : Call) (op : Binary) (k : CType) (at : Place) (test : PureTree) (right : State → Part PureTree) → PaidThere (owing 1 0 o) right → IsPaid o (λ x. o) s (forked c op k at test right s)
forked_paid c op k at test right h =
    then_paid (fresh_paid k)
    (λ own s1. then_paid (arm_paid c at right to_bool own h)
    (λ reached s2. then_paid (decided_paid (is_or op) own)
    (λ other s3. if_paid (is_or op) _ _ (swapped_paid c at test other.pieces reached.pieces own k) (fork_paid c at test reached.pieces other.pieces own k))))

operated_paid : {o : Account} {s : State} (c : Call) (op : Binary) (k : CType) (at : Place) (x : PureTree) (later : Effects) (right : State → Part PureTree) → ((n : Account) → PaidThere n right) → IsPaid o (λ y. o) s (operated c op k at x later right s)
operated_paid {o} {s} c op k at x later right h =
    then_paid (save_paid c.file_variables x later s)
    (λ left s1. if_paid (is_logical op && acts later) _ _ (forked_paid c op k at left right (h (owing 1 0 o))) (then_paid (h o s1) (λ y s2. gives_paid)))

chosen_paid : {o : Account} {s : State} (c : Call) (k : CType) (at colon : Place) (test : PureTree) (later : Effects) (left right : State → Part PureTree) → ((n : Account) → PaidThere n left) → ((n : Account) → PaidThere n right) → IsPaid o (λ y. o) s (chosen c k at colon test later left right s)
unfolding chosen
chosen_paid {o} {s} c k at colon test later left right h g =
    if_paid (acts later) _ _
    (then_paid (save_paid c.file_variables test later s)
    (λ t s1. then_paid (fresh_paid k)
    (λ own s2. then_paid (arm_paid c at left same own (h (owing 1 0 o)))
    (λ first s3. then_paid (arm_paid c colon right same own (g (holding first.pieces (owing 1 0 o))))
    (λ second s4. fork_paid c at t first.pieces second.pieces own k)))))
    (then_paid (h o s) (λ x s1. then_paid (g o s1) (λ y s2. gives_paid)))

-- ---- assignments

store_paid : {o : Account} {s : State} (c : Call) (cell : Cell) (at : Place) (subscripts : PureTrees) (v : PureTree) → IsPaid o (λ u. o) s (store_at c cell at subscripts v s)
store_paid c cell at tree.none v = set_paid _ v
store_paid c cell at (tree.more first rest) v = put_paid _ (tree.more first rest) v at

pub apply_paid : {o : Account} {s : State} (c : Call) (t : Change) (by : PureTree) → IsPaid o (λ u. o) s (apply c t by s)
apply_paid {o} {s} c t by = store_paid c t.cell t.target_at t.subscripts (new_value t (target_read c t s) by)

-- a variable of its own is set, and what is stored comes of it
kept_paid : {o : Account} {s : State} (c : Call) (t : Change) (x : PureTree) (stored : VarId → PureTree) → IsPaid o (λ y. o) s (then_ (fresh t.kind s) (λ own s1. then_ (emit (tree.set own x) s1) (λ u s2. then_ (store c t (stored own) s2) (λ v s3. gives (tree.variable own t.kind) s3))))
kept_paid c t x stored =
    then_paid (fresh_paid t.kind)
    (λ own s1. then_paid (own_set_paid own x)
    (λ u s2. then_paid (store_paid c t.cell t.target_at t.subscripts (stored own)) (λ v s3. gives_paid)))

assigned_paid : {o : Account} {s : State} (c : Call) (t : Change) (by : PureTree) → IsPaid o (λ y. o) s (assigned c t by s)
assigned_paid {o} {s} c t by = kept_paid c t (new_value t (target_read c t s) by) (λ own. tree.variable own t.kind)

bumped_paid : {o : Account} {s : State} (c : Call) (t : Change) (post : Bool) → IsPaid o (λ y. o) s (bumped c t post s)
bumped_paid {o} {s} c t post = if_paid post (bumped_behind c t s) (assigned c t one s) (kept_paid c t (target_read c t s) (λ own. new_value t (tree.variable own t.kind) one)) (assigned_paid c t one)

pub discarded_paid : {o : Account} {s : State} (is_let_go : Bool) (x : PureTree) → IsPaid o (λ u. o) s (discarded is_let_go x s)
discarded_paid {o} {s} is_let_go x = if_paid is_let_go (gives tt s) (set_unused x s) gives_paid (then_paid (own_paid (kind x) x) (λ own s1. gives_paid))

comma_left_paid : {o : Account} {s : State} (n : ℕ) (left : CoreTree) (x : PureTree) (later : Effects) → IsPaid o (λ u. o) s (comma_left n left x later s)
comma_left_paid {o} {s} n left x later =
    if_paid (is_call left) (gives tt s) (then_ (save n x later s) (λ y s1. discarded (may_be_unused left) y s1)) gives_paid
    (then_paid (save_paid n x later s) (λ y s1. discarded_paid (may_be_unused left) y))

-- ---- expressions

module _ (g : Callee) (c : Call) (callees : CalleesPaid g c) where
  mutual
    pub expression_paid : (o : Account) (e : CoreTree) (s : State) → IsPaid o (λ x. o) s (expression g c e s)
    expression_paid o (core.number v k) s = gives_paid
    expression_paid o (core.scalar cell k at) s = gives_paid
    expression_paid o (core.element name subscripts k at) s = then_paid (operands_paid o subscripts no_effects [] s) (λ given s1. gives_paid)
    expression_paid o (core.call callee args k at) s =
        then_paid (then_paid (arguments_paid o args [] s) (λ given s1. callees o callee given at s1)) (λ v s2. gives_paid)
    expression_paid o (core.unary op arg k at) s = then_paid (expression_paid o arg s) (λ x s1. gives_paid)
    expression_paid o (core.binary op left right k at) s =
        then_paid (expression_paid o left s) (λ x s1. operated_paid c op k at x (effects right) (expression g c right) (λ n s2. expression_paid n right s2))
    expression_paid o (core.choice test left right k at colon) s =
        then_paid (expression_paid o test s)
        (λ t s1. chosen_paid c k at colon t (either (effects left) (effects right)) (expression g c left) (expression g c right) (λ n s2. expression_paid n left s2) (λ n s2. expression_paid n right s2))
    expression_paid o (core.cast to arg) s = then_paid (expression_paid o arg s) (λ x s1. gives_paid)
    expression_paid o (core.assign (core.target cell subscripts k place) op v at) s =
        then_paid (then_paid (operands_paid o subscripts (effects v) [] s) (λ given s1. gives_paid)) (λ t s1. then_paid (expression_paid o v s1) (λ by s2. assigned_paid c t by))
    expression_paid o (core.bump (core.target cell subscripts k place) up post at) s =
        then_paid (then_paid (operands_paid o subscripts no_effects [] s) (λ given s1. gives_paid)) (λ t s1. bumped_paid c t post)
    expression_paid o (core.comma left right) s =
        then_paid (expression_paid o left s) (λ x s1. then_paid (comma_left_paid c.file_variables left x (effects right)) (λ u s2. expression_paid o right s2))

    -- operands from left to right
    operands_paid : (o : Account) (xs : CoreTrees) (later : Effects) (before : List PureTree) (s : State) → IsPaid o (λ x. o) s (operands g c xs later before s)
    operands_paid o core.none later before s = gives_paid
    operands_paid o (core.more first rest) later before s =
        then_paid (expression_paid o first s) (λ x s1. then_paid (save_paid c.file_variables x (either (effects_of_all rest) later) s1) (λ y s2. operands_paid o rest later (before ++ y ∷ []) s2))

    argument_paid : (o : Account) (a : ArgumentTree) (later : Effects) (s : State) → IsPaid o (λ x. o) s (argument g c a later s)
    argument_paid o (core.given e) later s = then_paid (expression_paid o e s) (λ x s1. then_paid (save_paid c.file_variables x later s1) (λ y s2. gives_paid))
    argument_paid o (core.array cell) later s = gives_paid

    arguments_paid : (o : Account) (args : ArgumentTrees) (before : List Given) (s : State) → IsPaid o (λ x. o) s (arguments g c args before s)
    arguments_paid o core.no_argument before s = gives_paid
    arguments_paid o (core.more_arguments first rest) before s =
        then_paid (argument_paid o first (effects_of_arguments rest) s) (λ x s1. arguments_paid o rest (before ++ x ∷ []) s1)

  pub target_paid : (o : Account) (t : CoreTargetTree) (later : Effects) (op : Option Binary) (at : Place) (s : State) → IsPaid o (λ x. o) s (targeted g c t later op at s)
  target_paid o (core.target cell subscripts k place) later op at s = then_paid (operands_paid o subscripts later [] s) (λ given s1. gives_paid)
