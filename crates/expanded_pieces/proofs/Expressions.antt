-- The pieces of an expression fit anywhere.
use Rattle.std.proofs.Common.{ℕ, Bool, ◌&&◌, List, [], ◌∷◌, ◌++◌, Option}
use Rattle.hls_base.specs.declared.place.Place.{Place}
use Rattle.hls_base.specs.declared.number.VarId.{VarId}
use Rattle.c_token.specs.declared.ctype.CType.{CType}
use Rattle.c_tree.specs.declared.operator.Binary.{Binary}
use Rattle.pieces.specs.declared.resolved.expression.Cell.{Cell}
use Rattle.pieces.specs.Resolved.Core as core
use Rattle.pieces.specs.Resolved.Core.{CoreTree, CoreTargetTree, CoreTrees, ArgumentTree, ArgumentTrees}
use Rattle.pieces.specs.Trees as tree
use Rattle.pieces.specs.Trees.{PureTree, PureTrees, PieceTree, piece_row, row}
use Rattle.pieces.specs.Kind.{kind}
use Rattle.piece_making.specs.declared.effects.Effects.{Effects}
use Rattle.piece_making.specs.Acting.{acts, either, no_effects, effects, effects_of_all, effects_of_arguments}
use Rattle.piece_making.specs.Making.{State, Part, gives, then_, emit, fresh}
use Rattle.piece_making.specs.Saving.{save, is_logical}
use Rattle.piece_making.specs.Calls.{Call, variable}
use Rattle.piece_making.specs.Assigning.{Change, change, store_at, store, assigned, bumped, bumped_behind, new_value, target_read, one, step}
use Rattle.c_expand.specs.Expressions.{Given, Callee, value_given, is_call, may_be_unused, set_unused, discarded, comma_left, value_or_zero, arm, decided, to_bool, same, fork_of, is_or, forked, operated, chosen, expression, operands, targeted, argument, arguments}
use Rattle.expanded_pieces.proofs.Parts.{Needs, FitIf, FitsThere, Within, gives_fits, then_at, then_fits, emit_fits, set_fits, put_fits, mark_fits, fresh_fits, own_fits, if_fits, save_fits, inside_fits}

-- calls become pieces that fit anywhere
abbrev pub CalleesFit : (List ℕ → Type 0) → Callee → Type 0
CalleesFit Q g = (n : Needs) (callee : ℕ) (given : List Given) (c : Call) (at : Place) → FitsThere Q n (g callee given c at)

module _ (Q : List ℕ → Type 0) (n : Needs) where
  -- ---- forks

  arm_fits : (c : Call) (at : Place) (operand : State → Part PureTree) (converted : PureTree → PureTree) (name : VarId) → FitsThere Q n operand → (s : State) → Within Q n n s (arm c at operand converted name s)
  arm_fits c at operand converted name h s =
      inside_fits Q n n (λ s0. then_ (emit (tree.mark _) s0) (λ u s1. then_ (operand s1) (λ value s2. emit (tree.set name (converted value)) s2)))
      (λ s0. then_fits Q n s0 _ _ (mark_fits Q n _ s0) (λ u s1. then_fits Q n s1 _ _ (h s1) (λ value s2. set_fits Q n name (converted value) s2))) s

  decided_fits : (is_one : Bool) (name : VarId) (s : State) → Within Q n n s (decided is_one name s)
  decided_fits is_one name s = inside_fits Q n n (λ s0. emit (tree.set name _) s0) (λ s0. set_fits Q n name _ s0) s

  pub fork_fits : (c : Call) (at : Place) (test : PureTree) (left right : List PieceTree) (name : VarId) (k : CType) → FitIf n left → FitIf n right → FitsThere Q n (fork_of c at test left right name k)
  fork_fits c at test left right name k h g s = then_fits Q n s _ _ (emit_fits Q n (tree.fork test (piece_row left) (piece_row right) _) (λ inside m. (h inside m, g inside m)) s) (λ u s1. gives_fits Q n (tree.variable name k) s1)

  forked_fits : (c : Call) (op : Binary) (k : CType) (at : Place) (test : PureTree) (right : State → Part PureTree) → FitsThere Q n right → FitsThere Q n (forked c op k at test right)
  forked_fits c op k at test right h s =
      let own = fresh k s in
      let reached = arm c at right to_bool own.value own.state in
      let r = arm_fits c at right to_bool own.value h own.state in
      let other = decided (is_or op) own.value reached.state in
      let o = decided_fits (is_or op) own.value reached.state in
      then_at Q n s own _ (fresh_fits Q n k s)
      (then_at Q n own.state reached _ r.outside
      (then_at Q n reached.state other _ o.outside
      (if_fits Q n (is_or op) (fork_of c at test other.value.pieces reached.value.pieces own.value k other.state) (fork_of c at test reached.value.pieces other.value.pieces own.value k other.state) other.state
      (fork_fits c at test other.value.pieces reached.value.pieces own.value k o.inner r.inner other.state) (fork_fits c at test reached.value.pieces other.value.pieces own.value k r.inner o.inner other.state))))

  operated_fits : (c : Call) (op : Binary) (k : CType) (at : Place) (x : PureTree) (later : Effects) (right : State → Part PureTree) → FitsThere Q n right → FitsThere Q n (operated c op k at x later right)
  operated_fits c op k at x later right h s =
      then_fits Q n s _ _ (save_fits Q n c.file_variables x later s) (λ left s1. if_fits Q n (is_logical op && acts later) (forked c op k at left right s1) (then_ (right s1) (λ y s2. gives (tree.binary op left y k at) s2)) s1 (forked_fits c op k at left right h s1)
      (then_fits Q n s1 (right s1) (λ y s2. gives (tree.binary op left y k at) s2) (h s1) (λ y s2. gives_fits Q n (tree.binary op left y k at) s2)))

  -- a `?:` that becomes a fork
  chosen_fork : (c : Call) (k : CType) (at colon : Place) (t : PureTree) (left right : State → Part PureTree) → FitsThere Q n left → FitsThere Q n right
      → FitsThere Q n (λ s1. then_ (fresh k s1) (λ own s2. then_ (arm c at left same own s2) (λ first s3. then_ (arm c colon right same own s3) (λ second s4. fork_of c at t first.pieces second.pieces own k s4))))
  chosen_fork c k at colon t left right h g s =
      let own = fresh k s in
      let first = arm c at left same own.value own.state in
      let a = arm_fits c at left same own.value h own.state in
      let second = arm c colon right same own.value first.state in
      let b = arm_fits c colon right same own.value g first.state in
      then_at Q n s own _ (fresh_fits Q n k s)
      (then_at Q n own.state first _ a.outside (then_at Q n first.state second _ b.outside (fork_fits c at t first.value.pieces second.value.pieces own.value k a.inner b.inner second.state)))

  chosen_fits : (c : Call) (k : CType) (at colon : Place) (test : PureTree) (later : Effects) (left right : State → Part PureTree) → FitsThere Q n left → FitsThere Q n right → FitsThere Q n (chosen c k at colon test later left right)
  unfolding chosen
  chosen_fits c k at colon test later left right h g s =
      if_fits Q n (acts later)
      (then_ (save c.file_variables test later s) (λ t s1. then_ (fresh k s1) (λ own s2. then_ (arm c at left same own s2) (λ first s3. then_ (arm c colon right same own s3) (λ second s4. fork_of c at t first.pieces second.pieces own k s4)))))
      (then_ (left s) (λ x s1. then_ (right s1) (λ y s2. gives (tree.choice test x y k) s2))) s
      (then_fits Q n s _ _ (save_fits Q n c.file_variables test later s) (λ t s1. chosen_fork c k at colon t left right h g s1))
      (then_fits Q n s (left s) (λ x s1. then_ (right s1) (λ y s2. gives (tree.choice test x y k) s2)) (h s)
      (λ x s1. then_fits Q n s1 (right s1) (λ y s2. gives (tree.choice test x y k) s2) (g s1) (λ y s2. gives_fits Q n (tree.choice test x y k) s2)))

  -- ---- assignments

  pub store_at_fits : (c : Call) (cell : Cell) (at : Place) (subscripts : PureTrees) (v : PureTree) → FitsThere Q n (store_at c cell at subscripts v)
  store_at_fits c cell at tree.none v s = set_fits Q n (variable c cell) v s
  store_at_fits c cell at (tree.more first rest) v s = put_fits Q n _ (tree.more first rest) v at s

  pub store_fits : (c : Call) (t : Change) (v : PureTree) → FitsThere Q n (store c t v)
  store_fits c t v s = store_at_fits c t.cell t.target_at t.subscripts v s

  assigned_fits : (c : Call) (t : Change) (by : PureTree) → FitsThere Q n (assigned c t by)
  assigned_fits c t by s =
      then_fits Q n s _ _ (fresh_fits Q n t.kind s) (λ own s1. then_fits Q n s1 _ _ (set_fits Q n own (new_value t (target_read c t s) by) s1) (λ u s2. then_fits Q n s2 _ _ (store_fits c t (tree.variable own t.kind) s2) (λ v s3. gives_fits Q n (tree.variable own t.kind) s3)))

  behind_fits : (c : Call) (t : Change) → FitsThere Q n (bumped_behind c t)
  behind_fits c t s =
      then_fits Q n s _ _ (fresh_fits Q n t.kind s)
      (λ own s1. then_fits Q n s1 _ _ (set_fits Q n own (target_read c t s) s1) (λ u s2. then_fits Q n s2 _ _ (store_fits c t (new_value t (tree.variable own t.kind) one) s2) (λ v s3. gives_fits Q n (tree.variable own t.kind) s3)))

  bumped_fits : (c : Call) (t : Change) (post : Bool) → FitsThere Q n (bumped c t post)
  bumped_fits c t post s = if_fits Q n post (bumped_behind c t s) (assigned c t one s) s (behind_fits c t s) (assigned_fits c t one s)

  unused_fits : (x : PureTree) → FitsThere Q n (set_unused x)
  unused_fits x s = then_fits Q n s _ _ (own_fits Q n (kind x) x s) (λ own s1. gives_fits Q n tt s1)

  pub discarded_fits : (b : Bool) (x : PureTree) → FitsThere Q n (discarded b x)
  discarded_fits b x s = if_fits Q n b (gives tt s) (set_unused x s) s (gives_fits Q n tt s) (unused_fits x s)

  comma_left_fits : (low : ℕ) (left : CoreTree) (x : PureTree) (later : Effects) → FitsThere Q n (comma_left low left x later)
  comma_left_fits low left x later s =
      if_fits Q n (is_call left) (gives tt s) (then_ (save low x later s) (λ y s1. discarded (may_be_unused left) y s1)) s (gives_fits Q n tt s)
      (then_fits Q n s _ _ (save_fits Q n low x later s) (λ y s1. discarded_fits (may_be_unused left) y s1))

  -- ---- expressions

  module _ (g : Callee) (callees : CalleesFit Q g) (c : Call) where
    mutual
      pub expression_fits : (e : CoreTree) → FitsThere Q n (expression g c e)
      expression_fits (core.number v k) s = gives_fits Q n _ s
      expression_fits (core.scalar cell k at) s = gives_fits Q n _ s
      expression_fits (core.element name subscripts k at) s = then_fits Q n s _ _ (operands_fit subscripts no_effects [] s) (λ given s1. gives_fits Q n _ s1)
      expression_fits (core.call callee args k at) s =
          then_fits Q n s (then_ (arguments g c args [] s) (λ given s1. g callee given c at s1)) (λ v s2. gives (value_or_zero v) s2)
          (then_fits Q n s (arguments g c args [] s) (λ given s1. g callee given c at s1) (arguments_fit args [] s) (λ given s1. callees n callee given c at s1)) (λ v s2. gives_fits Q n (value_or_zero v) s2)
      expression_fits (core.unary op arg k at) s = then_fits Q n s _ _ (expression_fits arg s) (λ x s1. gives_fits Q n (tree.unary op x k at) s1)
      expression_fits (core.binary op left right k at) s =
          then_fits Q n s _ _ (expression_fits left s) (λ x s1. operated_fits c op k at x (effects right) (expression g c right) (λ s2. expression_fits right s2) s1)
      expression_fits (core.choice test left right k at colon) s =
          then_fits Q n s _ _ (expression_fits test s)
          (λ t s1. chosen_fits c k at colon t (either (effects left) (effects right)) (expression g c left) (expression g c right) (λ s2. expression_fits left s2) (λ s2. expression_fits right s2) s1)
      expression_fits (core.cast to arg) s = then_fits Q n s _ _ (expression_fits arg s) (λ x s1. gives_fits Q n (tree.cast to x) s1)
      expression_fits (core.assign left op value at) s =
          then_fits Q n s _ _ (target_fits left (effects value) op at s) (λ t s1. then_fits Q n s1 _ _ (expression_fits value s1) (λ by s2. assigned_fits c t by s2))
      expression_fits (core.bump left up post at) s = then_fits Q n s _ _ (target_fits left no_effects (step up) at s) (λ t s1. bumped_fits c t post s1)
      expression_fits (core.comma left right) s =
          then_fits Q n s _ _ (expression_fits left s) (λ x s1. then_fits Q n s1 _ _ (comma_left_fits c.file_variables left x (effects right) s1) (λ u s2. expression_fits right s2))

      pub operands_fit : (xs : CoreTrees) (later : Effects) (before : List PureTree) → FitsThere Q n (operands g c xs later before)
      operands_fit core.none later before s = gives_fits Q n before s
      operands_fit (core.more first rest) later before s =
          then_fits Q n s _ _ (expression_fits first s)
          (λ x s1. then_fits Q n s1 _ _ (save_fits Q n c.file_variables x (either (effects_of_all rest) later) s1) (λ y s2. operands_fit rest later (before ++ y ∷ []) s2))

      pub target_fits : (t : CoreTargetTree) (later : Effects) (op : Option Binary) (at : Place) → FitsThere Q n (targeted g c t later op at)
      target_fits (core.target cell subscripts k place) later op at s = then_fits Q n s _ _ (operands_fit subscripts later [] s) (λ given s1. gives_fits Q n (change cell k place (row given) op at) s1)

      argument_fits : (a : ArgumentTree) (later : Effects) → FitsThere Q n (argument g c a later)
      argument_fits (core.given e) later s = then_fits Q n s _ _ (expression_fits e s) (λ x s1. then_fits Q n s1 _ _ (save_fits Q n c.file_variables x later s1) (λ y s2. gives_fits Q n (value_given y) s2))
      argument_fits (core.array cell) later s = gives_fits Q n _ s

      arguments_fit : (args : ArgumentTrees) (before : List Given) → FitsThere Q n (arguments g c args before)
      arguments_fit core.no_argument before s = gives_fits Q n before s
      arguments_fit (core.more_arguments first rest) before s = then_fits Q n s _ _ (argument_fits first (effects_of_arguments rest) s) (λ a s1. arguments_fit rest (before ++ a ∷ []) s1)
