-- The loops of what an expression becomes.
use Rattle.std.proofs.Common.{Bool, ◌&&◌, List, [], ◌∷◌, ◌++◌, Option}
use Rattle.std.specs.Prelude.{ℕ}
use Rattle.hls_base.specs.declared.place.Place.{Place}
use Rattle.hls_base.specs.declared.number.VarId.{VarId}
use Rattle.hls_base.specs.declared.point.PointKind.TheVariants as point
use Rattle.c_token.specs.declared.ctype.CType.{CType}
use Rattle.c_tree.specs.declared.operator.Binary.{Binary}
use Rattle.pieces.specs.Resolved.Core as core
use Rattle.pieces.specs.Resolved.Core.{CoreTree, CoreTargetTree, CoreTrees, ArgumentTree, ArgumentTrees}
use Rattle.pieces.specs.Trees as tree
use Rattle.pieces.specs.Trees.{PureTree, PieceTree, piece_row}
use Rattle.piece_making.specs.declared.effects.Effects.{Effects}
use Rattle.piece_making.specs.Acting.{acts, either, no_effects, effects, effects_of_all, effects_of_arguments}
use Rattle.piece_making.specs.Making.{State, Part, gives, then_, emit, inside, fresh}
use Rattle.piece_making.specs.Saving.{save, is_logical}
use Rattle.piece_making.specs.Calls.{Call, point_in}
use Rattle.piece_making.specs.Assigning.{step, assigned, bumped}
use Rattle.c_expand.specs.Expressions.{Given, Callee, comma_left, value_or_zero, arm, decided, to_bool, same, fork_of, is_or, forked, operated, chosen, expression, operands, targeted, argument, arguments}
use Rattle.expanded_pieces.proofs.ApartPoints.Quiet.{fresh_quiet, inside_quiet, save_quiet, assigned_quiet, bumped_quiet}
use Rattle.expanded_pieces.proofs.ApartPoints.Expressions.{comma_left_quiet}
use Rattle.source_answers.proofs.EndedLoops.Parts.{RowEnds, Ends, EndsThere, EndsWithin, row_joined, then_ends, emit_ends, ends_if, quiet_ends}

-- so do those of calls
abbrev pub CalleesEnd : Callee → Type 0
CalleesEnd g = (callee : ℕ) (given : List Given) (c : Call) (at : Place) (s : State) → Ends (g callee given c at s)

module _ (c : Call) where
  -- ---- forks

  arm_ends : (at : Place) (operand : State → Part PureTree) (converted : PureTree → PureTree) (name : VarId) → EndsThere operand → (s : State) → EndsWithin (arm c at operand converted name s)
  unfolding inside emit then_
  arm_ends at operand converted name h s =
      let inner = operand (emit (tree.mark (point_in c point.Arm at)) (record s { made = 0 })).state in
      (tt, row_joined inner.pieces (tree.set name (converted inner.value) ∷ []) (h (emit (tree.mark (point_in c point.Arm at)) (record s { made = 0 })).state) (tt, tt))

  decided_ends : (is_one : Bool) (name : VarId) (s : State) → EndsWithin (decided is_one name s)
  unfolding inside emit
  decided_ends is_one name s = (tt, tt)

  fork_ends : (at : Place) (test : PureTree) (left right : List PieceTree) (name : VarId) (k : CType) (s : State) → RowEnds left → RowEnds right → Ends (fork_of c at test left right name k s)
  fork_ends at test left right name k s h g =
      let fork = tree.fork test (piece_row left) (piece_row right) (point_in c point.End at) in
      then_ends (emit fork s) (λ u s1. gives (tree.variable name k) s1) (emit_ends fork s (h, g)) tt

  forked_ends : (op : Binary) (k : CType) (at : Place) (test : PureTree) (right : State → Part PureTree) → EndsThere right → EndsThere (forked c op k at test right)
  forked_ends op k at test right h s =
      let own = fresh k s in
      let reached = arm c at right to_bool own.value own.state in
      let other = decided (is_or op) own.value reached.state in
      let first = arm_ends at right to_bool own.value h own.state in
      let second = decided_ends (is_or op) own.value reached.state in
      then_ends own _ (quiet_ends own (fresh_quiet k s))
      (then_ends reached _ (quiet_ends reached (inside_quiet _ own.state))
      (then_ends other _ (quiet_ends other (inside_quiet _ reached.state))
      (ends_if (is_or op) (fork_of c at test other.value.pieces reached.value.pieces own.value k other.state) (fork_of c at test reached.value.pieces other.value.pieces own.value k other.state)
      (fork_ends at test other.value.pieces reached.value.pieces own.value k other.state second first)
      (fork_ends at test reached.value.pieces other.value.pieces own.value k other.state first second))))

  operated_ends : (op : Binary) (k : CType) (at : Place) (x : PureTree) (later : Effects) (right : State → Part PureTree) → EndsThere right → EndsThere (operated c op k at x later right)
  operated_ends op k at x later right h s =
      let left = save c.file_variables x later s in
      then_ends left _ (quiet_ends left (save_quiet c.file_variables x later s))
      (ends_if (is_logical op && acts later) (forked c op k at left.value right left.state) (then_ (right left.state) (λ y s2. gives (tree.binary op left.value y k at) s2))
      (forked_ends op k at left.value right h left.state)
      (then_ends (right left.state) _ (h left.state) tt))

  -- a `?:` that becomes a fork
  chosen_fork : (k : CType) (at colon : Place) (t : PureTree) (left right : State → Part PureTree) → EndsThere left → EndsThere right
      → EndsThere (λ s1. then_ (fresh k s1) (λ own s2. then_ (arm c at left same own s2) (λ first s3. then_ (arm c colon right same own s3) (λ second s4. fork_of c at t first.pieces second.pieces own k s4))))
  chosen_fork k at colon t left right h g s =
      let own = fresh k s in
      let first = arm c at left same own.value own.state in
      let second = arm c colon right same own.value first.state in
      then_ends own _ (quiet_ends own (fresh_quiet k s))
      (then_ends first _ (quiet_ends first (inside_quiet _ own.state))
      (then_ends second _ (quiet_ends second (inside_quiet _ first.state))
      (fork_ends at t first.value.pieces second.value.pieces own.value k second.state (arm_ends at left same own.value h own.state) (arm_ends colon right same own.value g first.state))))

  chosen_ends : (k : CType) (at colon : Place) (test : PureTree) (later : Effects) (left right : State → Part PureTree) → EndsThere left → EndsThere right → EndsThere (chosen c k at colon test later left right)
  unfolding chosen
  chosen_ends k at colon test later left right h g s =
      let t = save c.file_variables test later s in
      ends_if (acts later)
      (then_ (save c.file_variables test later s) (λ t s1. then_ (fresh k s1) (λ own s2. then_ (arm c at left same own s2) (λ first s3. then_ (arm c colon right same own s3) (λ second s4. fork_of c at t first.pieces second.pieces own k s4)))))
      (then_ (left s) (λ x s1. then_ (right s1) (λ y s2. gives (tree.choice test x y k) s2)))
      (then_ends t _ (quiet_ends t (save_quiet c.file_variables test later s)) (chosen_fork k at colon t.value left right h g t.state))
      (then_ends (left s) _ (h s) (then_ends (right (left s).state) _ (g (left s).state) tt))

  -- ---- expressions

  module _ (g : Callee) (callees : CalleesEnd g) where
    mutual
      pub expression_ends : (e : CoreTree) → EndsThere (expression g c e)
      expression_ends (core.number v k) s = tt
      expression_ends (core.scalar cell k at) s = tt
      expression_ends (core.element name subscripts k at) s = then_ends (operands g c subscripts no_effects [] s) _ (operands_end subscripts no_effects [] s) tt
      expression_ends (core.call callee args k at) s =
          let given = arguments g c args [] s in
          then_ends (then_ (arguments g c args [] s) (λ given s1. g callee given c at s1)) (λ v s2. gives (value_or_zero v) s2)
          (then_ends given (λ given s1. g callee given c at s1) (arguments_end args [] s) (callees callee given.value c at given.state)) tt
      expression_ends (core.unary op arg k at) s = then_ends (expression g c arg s) _ (expression_ends arg s) tt
      expression_ends (core.binary op left right k at) s =
          let x = expression g c left s in
          then_ends x _ (expression_ends left s) (operated_ends op k at x.value (effects right) (expression g c right) (λ s2. expression_ends right s2) x.state)
      expression_ends (core.choice test left right k at colon) s =
          let t = expression g c test s in
          then_ends t _ (expression_ends test s) (chosen_ends k at colon t.value (either (effects left) (effects right)) (expression g c left) (expression g c right) (λ s2. expression_ends left s2) (λ s2. expression_ends right s2) t.state)
      expression_ends (core.cast to arg) s = then_ends (expression g c arg s) _ (expression_ends arg s) tt
      expression_ends (core.assign left op value at) s =
          let t = targeted g c left (effects value) op at s in
          let by = expression g c value t.state in
          let last = assigned c t.value by.value by.state in
          then_ends t _ (target_ends left (effects value) op at s) (then_ends by _ (expression_ends value t.state) (quiet_ends last (assigned_quiet c t.value by.value by.state)))
      expression_ends (core.bump left up post at) s =
          let t = targeted g c left no_effects (step up) at s in
          let last = bumped c t.value post t.state in
          then_ends t _ (target_ends left no_effects (step up) at s) (quiet_ends last (bumped_quiet c t.value post t.state))
      expression_ends (core.comma left right) s =
          let x = expression g c left s in
          let u = comma_left c.file_variables left x.value (effects right) x.state in
          then_ends x _ (expression_ends left s) (then_ends u _ (quiet_ends u (comma_left_quiet c.file_variables left x.value (effects right) x.state)) (expression_ends right u.state))

      operands_end : (xs : CoreTrees) (later : Effects) (before : List PureTree) → EndsThere (operands g c xs later before)
      operands_end core.none later before s = tt
      operands_end (core.more first rest) later before s =
          let x = expression g c first s in
          let y = save c.file_variables x.value (either (effects_of_all rest) later) x.state in
          then_ends x _ (expression_ends first s) (then_ends y _ (quiet_ends y (save_quiet c.file_variables x.value (either (effects_of_all rest) later) x.state)) (operands_end rest later (before ++ y.value ∷ []) y.state))

      pub target_ends : (t : CoreTargetTree) (later : Effects) (op : Option Binary) (at : Place) → EndsThere (targeted g c t later op at)
      target_ends (core.target cell subscripts k place) later op at s = then_ends (operands g c subscripts later [] s) _ (operands_end subscripts later [] s) tt

      argument_ends : (x : ArgumentTree) (later : Effects) → EndsThere (argument g c x later)
      argument_ends (core.given e) later s =
          let x = expression g c e s in
          let y = save c.file_variables x.value later x.state in
          then_ends x _ (expression_ends e s) (then_ends y _ (quiet_ends y (save_quiet c.file_variables x.value later x.state)) tt)
      argument_ends (core.array cell) later s = tt

      arguments_end : (args : ArgumentTrees) (before : List Given) → EndsThere (arguments g c args before)
      arguments_end core.no_argument before s = tt
      arguments_end (core.more_arguments first rest) before s =
          let x = argument g c first (effects_of_arguments rest) s in
          then_ends x _ (argument_ends first (effects_of_arguments rest) s) (arguments_end rest (before ++ x.value ∷ []) x.state)
