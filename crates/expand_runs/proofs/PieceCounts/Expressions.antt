-- What expressions become is counted, where calls are.
use Rattle.std.proofs.Common.{ℕ, Bool, ◌&&◌, List, [], ◌∷◌, ◌++◌, Option, if◌then◌else◌}
use Rattle.hls_base.specs.declared.place.Place.{Place}
use Rattle.hls_base.specs.declared.number.VarId.{VarId}
use Rattle.c_token.specs.declared.ctype.CType.{CType}
use Rattle.c_tree.specs.declared.operator.Binary.{Binary}
use Rattle.pieces.specs.declared.resolved.expression.Cell.{Cell}
use Rattle.pieces.specs.Resolved.Core as core
use Rattle.pieces.specs.Resolved.Core.{CoreTree, CoreTargetTree, CoreTrees, ArgumentTree, ArgumentTrees}
use Rattle.pieces.specs.Trees as tree
use Rattle.pieces.specs.Trees.{PureTree, PureTrees, PieceTree, piece_row, row}
use Rattle.pieces.specs.Kind.{kind}
use Rattle.piece_making.specs.declared.effects.Effects.{Effects}
use Rattle.piece_making.specs.Acting.{acts, either, no_effects, effects, effects_of_all, effects_of_arguments}
use Rattle.piece_making.specs.Making.{State, Part, gives, then_, emit, fresh, set_own}
use Rattle.piece_making.specs.Saving.{save, is_logical}
use Rattle.piece_making.specs.Calls.{Call, array}
use Rattle.piece_making.specs.Assigning.{Change, change, store_at, store, assigned, bumped, bumped_behind, apply, new_value, target_read, one, step}
use Rattle.c_expand.specs.Expressions.{Given, Callee, value_given, is_call, may_be_unused, set_unused, discarded, comma_left, value_or_zero, arm, decided, to_bool, same, fork_of, is_or, forked, operated, chosen, expression, operands, targeted, argument, arguments}
use Rattle.expand_runs.specs.Counting.{IsCounted, CalleesCount}
use Rattle.expand_runs.proofs.PieceCounts.Parts.{counted_gives, counted_then, counted_if, counted_emit, counted_inside, counted_fresh, counted_own, counted_save}

abbrev CountedThere : {A : Type 0} → (State → Part A) → Type 0
CountedThere part = (s : State) → IsCounted s (part s)

-- ---- forks

arm_counted : (c : Call) (at : Place) (operand : State → Part PureTree) (converted : PureTree → PureTree) (name : VarId) (s : State) → CountedThere operand → IsCounted s (arm c at operand converted name s)
arm_counted c at operand converted name s h =
    counted_inside (λ s0. then_ (emit (tree.mark _) s0) (λ u s1. then_ (operand s1) (λ value s2. emit (tree.set name (converted value)) s2))) s
    (λ s0.
    let s1 = (emit (tree.mark _) s0).state in
    counted_then s0 (emit (tree.mark _) s0) (λ u s1. then_ (operand s1) (λ value s2. emit (tree.set name (converted value)) s2)) (counted_emit _ s0)
    (counted_then s1 (operand s1) (λ value s2. emit (tree.set name (converted value)) s2) (h s1) (counted_emit _ _)))

fork_counted : (c : Call) (at : Place) (test : PureTree) (left right : List PieceTree) (name : VarId) (k : CType) (s : State) → IsCounted s (fork_of c at test left right name k s)
fork_counted c at test left right name k s = counted_then s (emit (tree.fork test (piece_row left) (piece_row right) _) s) (λ u s1. gives (tree.variable name k) s1) (counted_emit _ _) (counted_gives _ _)

forked_counted : (c : Call) (op : Binary) (k : CType) (at : Place) (test : PureTree) (right : State → Part PureTree) (s : State) → CountedThere right → IsCounted s (forked c op k at test right s)
forked_counted c op k at test right s h =
    let o = fresh k s in
    let reached = arm c at right to_bool o.value o.state in
    let other = decided (is_or op) o.value reached.state in
    counted_then s o (λ name s1. then_ (arm c at right to_bool name s1) (λ reached s2. then_ (decided (is_or op) name s2) (λ other s3.
    if is_or op then fork_of c at test other.pieces reached.pieces name k s3 else fork_of c at test reached.pieces other.pieces name k s3))) (counted_fresh k s)
    (counted_then o.state reached (λ reached s2. then_ (decided (is_or op) o.value s2) (λ other s3.
    if is_or op then fork_of c at test other.pieces reached.pieces o.value k s3 else fork_of c at test reached.pieces other.pieces o.value k s3)) (arm_counted c at right to_bool o.value o.state h)
    (counted_then reached.state other (λ other s3. if is_or op then fork_of c at test other.pieces reached.value.pieces o.value k s3 else fork_of c at test reached.value.pieces other.pieces o.value k s3)
    (counted_inside (λ s0. emit (tree.set o.value _) s0) reached.state (λ s0. counted_emit _ s0))
    (counted_if (is_or op) (fork_of c at test other.value.pieces reached.value.pieces o.value k other.state) (fork_of c at test reached.value.pieces other.value.pieces o.value k other.state) other.state
    (fork_counted c at test other.value.pieces reached.value.pieces o.value k other.state) (fork_counted c at test reached.value.pieces other.value.pieces o.value k other.state))))

operated_counted : (c : Call) (op : Binary) (k : CType) (at : Place) (x : PureTree) (later : Effects) (right : State → Part PureTree) (s : State) → CountedThere right → IsCounted s (operated c op k at x later right s)
operated_counted c op k at x later right s h =
    let left = save c.file_variables x later s in
    counted_then s left (λ y s1. if (is_logical op && acts later) then forked c op k at y right s1 else then_ (right s1) (λ z s2. gives (tree.binary op y z k at) s2)) (counted_save c.file_variables x later s)
    (counted_if (is_logical op && acts later) (forked c op k at left.value right left.state) (then_ (right left.state) (λ z s2. gives (tree.binary op left.value z k at) s2)) left.state
    (forked_counted c op k at left.value right left.state h)
    (counted_then left.state (right left.state) (λ z s2. gives (tree.binary op left.value z k at) s2) (h left.state) (counted_gives _ _)))

chosen_counted : (c : Call) (k : CType) (at colon : Place) (test : PureTree) (later : Effects) (left right : State → Part PureTree) (s : State) → CountedThere left → CountedThere right → IsCounted s (chosen c k at colon test later left right s)
unfolding chosen
chosen_counted c k at colon test later left right s h g =
    let t = save c.file_variables test later s in
    let o = fresh k t.state in
    let first = arm c at left same o.value o.state in
    let second = arm c colon right same o.value first.state in
    counted_if (acts later)
    (then_ (save c.file_variables test later s) (λ t s1. then_ (fresh k s1) (λ name s2. then_ (arm c at left same name s2) (λ first s3. then_ (arm c colon right same name s3) (λ second s4. fork_of c at t first.pieces second.pieces name k s4)))))
    (then_ (left s) (λ x s1. then_ (right s1) (λ y s2. gives (tree.choice test x y k) s2))) s
    (counted_then s t (λ t s1. then_ (fresh k s1) (λ name s2. then_ (arm c at left same name s2) (λ first s3. then_ (arm c colon right same name s3) (λ second s4. fork_of c at t first.pieces second.pieces name k s4)))) (counted_save c.file_variables test later s)
    (counted_then t.state o (λ name s2. then_ (arm c at left same name s2) (λ first s3. then_ (arm c colon right same name s3) (λ second s4. fork_of c at t.value first.pieces second.pieces name k s4))) (counted_fresh k t.state)
    (counted_then o.state first (λ first s3. then_ (arm c colon right same o.value s3) (λ second s4. fork_of c at t.value first.pieces second.pieces o.value k s4)) (arm_counted c at left same o.value o.state h)
    (counted_then first.state second (λ second s4. fork_of c at t.value first.value.pieces second.pieces o.value k s4) (arm_counted c colon right same o.value first.state g)
    (fork_counted c at t.value first.value.pieces second.value.pieces o.value k second.state)))))
    (counted_then s (left s) (λ x s1. then_ (right s1) (λ y s2. gives (tree.choice test x y k) s2)) (h s)
    (counted_then (left s).state (right (left s).state) (λ y s2. gives (tree.choice test (left s).value y k) s2) (g (left s).state) (counted_gives _ _)))

-- ---- assignments

store_counted : (c : Call) (cell : Cell) (at : Place) (subscripts : PureTrees) (v : PureTree) (s : State) → IsCounted s (store_at c cell at subscripts v s)
store_counted c cell at tree.none v s = counted_emit _ s
store_counted c cell at (tree.more first rest) v s = counted_emit _ s

pub apply_counted : (c : Call) (t : Change) (by : PureTree) (s : State) → IsCounted s (apply c t by s)
apply_counted c t by s = store_counted c t.cell t.target_at t.subscripts (new_value t (target_read c t s) by) s

-- a variable of its own is set, and what is stored comes of it
kept_counted : (c : Call) (t : Change) (x : PureTree) (stored : VarId → PureTree) (s : State) → IsCounted s (then_ (fresh t.kind s) (λ own s1. then_ (emit (tree.set own x) s1) (λ u s2. then_ (store c t (stored own) s2) (λ v s3. gives (tree.variable own t.kind) s3))))
kept_counted c t x stored s =
    let o = fresh t.kind s in
    let e = emit (tree.set o.value x) o.state in
    counted_then s o (λ own s1. then_ (emit (tree.set own x) s1) (λ u s2. then_ (store c t (stored own) s2) (λ v s3. gives (tree.variable own t.kind) s3))) (counted_fresh t.kind s)
    (counted_then o.state e (λ u s2. then_ (store c t (stored o.value) s2) (λ v s3. gives (tree.variable o.value t.kind) s3)) (counted_emit _ _)
    (counted_then e.state (store c t (stored o.value) e.state) (λ v s3. gives (tree.variable o.value t.kind) s3) (store_counted c t.cell t.target_at t.subscripts (stored o.value) e.state) (counted_gives _ _)))

assigned_counted : (c : Call) (t : Change) (by : PureTree) (s : State) → IsCounted s (assigned c t by s)
assigned_counted c t by s = kept_counted c t (new_value t (target_read c t s) by) (λ own. tree.variable own t.kind) s

bumped_counted : (c : Call) (t : Change) (post : Bool) (s : State) → IsCounted s (bumped c t post s)
bumped_counted c t post s = counted_if post (bumped_behind c t s) (assigned c t one s) s (kept_counted c t (target_read c t s) (λ own. new_value t (tree.variable own t.kind) one) s) (assigned_counted c t one s)

pub discarded_counted : (b : Bool) (x : PureTree) (s : State) → IsCounted s (discarded b x s)
discarded_counted b x s = counted_if b (gives tt s) (set_unused x s) s (counted_gives tt s) (counted_then s (set_own (kind x) x s) (λ own s1. gives tt s1) (counted_own (kind x) x s) (counted_gives _ _))

comma_left_counted : (n : ℕ) (left : CoreTree) (x : PureTree) (later : Effects) (s : State) → IsCounted s (comma_left n left x later s)
comma_left_counted n left x later s =
    let y = save n x later s in
    counted_if (is_call left) (gives tt s) (then_ y (λ z s1. discarded (may_be_unused left) z s1)) s (counted_gives tt s)
    (counted_then s y (λ z s1. discarded (may_be_unused left) z s1) (counted_save n x later s) (discarded_counted (may_be_unused left) y.value y.state))

-- ---- expressions

module _ (g : Callee) (c : Call) (callees : CalleesCount g c) where
  target_behind : (cell : Cell) (subscripts : CoreTrees) (k : CType) (place : Place) (later : Effects) (op : Option Binary) (at : Place) (s : State) → IsCounted s (operands g c subscripts later [] s)
      → IsCounted s (targeted g c (core.target cell subscripts k place) later op at s)
  target_behind cell subscripts k place later op at s h = counted_then s (operands g c subscripts later [] s) (λ given s1. gives (change cell k place (row given) op at) s1) h (counted_gives _ _)

  mutual
    unfolding then_

    pub expression_counted : (e : CoreTree) (s : State) → IsCounted s (expression g c e s)
    expression_counted (core.number v k) s = counted_gives _ s
    expression_counted (core.scalar cell k at) s = counted_gives _ s
    expression_counted (core.element name subscripts k at) s =
        let all = operands g c subscripts no_effects [] s in
        counted_then s all (λ given s1. gives (tree.element (array c name s1) (row given) k at) s1) (operands_counted subscripts no_effects [] s) (counted_gives _ _)
    expression_counted (core.call callee args k at) s =
        let all = arguments g c args [] s in
        counted_then s (then_ all (λ given s1. g callee given c at s1)) (λ v s2. gives (value_or_zero v) s2)
        (counted_then s all (λ given s1. g callee given c at s1) (arguments_counted args [] s) (callees callee all.value at all.state)) (counted_gives _ _)
    expression_counted (core.unary op arg k at) s = counted_then s (expression g c arg s) (λ x s1. gives (tree.unary op x k at) s1) (expression_counted arg s) (counted_gives _ _)
    expression_counted (core.binary op left right k at) s =
        let x = expression g c left s in
        counted_then s x (λ x s1. operated c op k at x (effects right) (expression g c right) s1) (expression_counted left s)
        (operated_counted c op k at x.value (effects right) (expression g c right) x.state (λ s1. expression_counted right s1))
    expression_counted (core.choice test left right k at colon) s =
        let t = expression g c test s in
        counted_then s t (λ t s1. chosen c k at colon t (either (effects left) (effects right)) (expression g c left) (expression g c right) s1) (expression_counted test s)
        (chosen_counted c k at colon t.value (either (effects left) (effects right)) (expression g c left) (expression g c right) t.state (λ s1. expression_counted left s1) (λ s1. expression_counted right s1))
    expression_counted (core.cast to arg) s = counted_then s (expression g c arg s) (λ x s1. gives (tree.cast to x) s1) (expression_counted arg s) (counted_gives _ _)
    expression_counted (core.assign (core.target cell subscripts k place) op v at) s =
        let t = targeted g c (core.target cell subscripts k place) (effects v) op at s in
        let by = expression g c v t.state in
        counted_then s t (λ t s1. then_ (expression g c v s1) (λ by s2. assigned c t by s2)) (target_behind cell subscripts k place (effects v) op at s (operands_counted subscripts (effects v) [] s))
        (counted_then t.state by (λ by s2. assigned c t.value by s2) (expression_counted v t.state) (assigned_counted c t.value by.value by.state))
    expression_counted (core.bump (core.target cell subscripts k place) up post at) s =
        let t = targeted g c (core.target cell subscripts k place) no_effects (step up) at s in
        counted_then s t (λ t s1. bumped c t post s1) (target_behind cell subscripts k place no_effects (step up) at s (operands_counted subscripts no_effects [] s)) (bumped_counted c t.value post t.state)
    expression_counted (core.comma left right) s =
        let x = expression g c left s in
        let u = comma_left c.file_variables left x.value (effects right) x.state in
        counted_then s x (λ x s1. then_ (comma_left c.file_variables left x (effects right) s1) (λ u s2. expression g c right s2)) (expression_counted left s)
        (counted_then x.state u (λ u s2. expression g c right s2) (comma_left_counted c.file_variables left x.value (effects right) x.state) (expression_counted right u.state))

    operands_counted : (xs : CoreTrees) (later : Effects) (before : List PureTree) (s : State) → IsCounted s (operands g c xs later before s)
    operands_counted core.none later before s = counted_gives before s
    operands_counted (core.more first rest) later before s =
        let x = expression g c first s in
        let y = save c.file_variables x.value (either (effects_of_all rest) later) x.state in
        counted_then s x (λ x s1. then_ (save c.file_variables x (either (effects_of_all rest) later) s1) (λ y s2. operands g c rest later (before ++ y ∷ []) s2)) (expression_counted first s)
        (counted_then x.state y (λ y s2. operands g c rest later (before ++ y ∷ []) s2) (counted_save c.file_variables x.value (either (effects_of_all rest) later) x.state) (operands_counted rest later (before ++ y.value ∷ []) y.state))

    argument_counted : (a : ArgumentTree) (later : Effects) (s : State) → IsCounted s (argument g c a later s)
    argument_counted (core.given e) later s =
        let x = expression g c e s in
        counted_then s x (λ x s1. then_ (save c.file_variables x later s1) (λ y s2. gives (value_given y) s2)) (expression_counted e s)
        (counted_then x.state (save c.file_variables x.value later x.state) (λ y s2. gives (value_given y) s2) (counted_save c.file_variables x.value later x.state) (counted_gives _ _))
    argument_counted (core.array cell) later s = counted_gives _ s

    arguments_counted : (args : ArgumentTrees) (before : List Given) (s : State) → IsCounted s (arguments g c args before s)
    arguments_counted core.no_argument before s = counted_gives before s
    arguments_counted (core.more_arguments first rest) before s =
        let x = argument g c first (effects_of_arguments rest) s in
        counted_then s x (λ a s1. arguments g c rest (before ++ a ∷ []) s1) (argument_counted first (effects_of_arguments rest) s) (arguments_counted rest (before ++ x.value ∷ []) x.state)

  pub target_counted : (cell : Cell) (subscripts : CoreTrees) (k : CType) (place : Place) (later : Effects) (op : Option Binary) (at : Place) (s : State) → IsCounted s (targeted g c (core.target cell subscripts k place) later op at s)
  target_counted cell subscripts k place later op at s = target_behind cell subscripts k place later op at s (operands_counted subscripts later [] s)
