-- The points of an expression stand at the places of its operators and calls.
use Rattle.std.proofs.Common.{◌≡◌, ◌≢◌, ◌∙◌, ℕ, Bool, true, false, ◌&&◌, refl, sym, ap, subst, inr, append-nil, List, [], ◌∷◌, ◌++◌, Option, if◌then◌else◌}
use Rattle.hls_base.specs.declared.place.Place.{Place}
use Rattle.hls_base.specs.declared.number.VarId.{VarId}
use Rattle.hls_base.specs.declared.point.Point.{Point}
use Rattle.hls_base.specs.declared.point.PointKind.TheVariants as point
use Rattle.c_token.specs.declared.ctype.CType.{CType}
use Rattle.c_tree.specs.declared.operator.Binary.{Binary}
use Rattle.pieces.specs.Resolved.Core as core
use Rattle.pieces.specs.Resolved.Core.{CoreTree, CoreTargetTree, CoreTrees, ArgumentTree, ArgumentTrees}
use Rattle.pieces.specs.Trees as tree
use Rattle.pieces.specs.Trees.{PureTree, PieceTree, piece_row, row}
use Rattle.pieces.specs.Kind.{kind}
use Rattle.piece_making.specs.declared.effects.Effects.{Effects}
use Rattle.piece_making.specs.Acting.{acts, either, no_effects, effects, effects_of_all, effects_of_arguments}
use Rattle.piece_making.specs.Making.{State, Part, Inner, gives, then_, emit, inside, fresh, set_own}
use Rattle.piece_making.specs.Saving.{save, is_logical}
use Rattle.piece_making.specs.Calls.{Call, point_in}
use Rattle.piece_making.specs.Assigning.{step}
use Rattle.c_expand.specs.Expressions.{Given, Callee, is_call, may_be_unused, set_unused, discarded, comma_left, value_or_zero, arm, decided, to_bool, same, fork_of, is_or, forked, operated, chosen, expression, operands, targeted, argument, arguments}
use Rattle.expanded_pieces.specs.ApartPoints.Apart.{AreApart}
use Rattle.expanded_pieces.specs.ApartPoints.Points.{all_points}
use Rattle.expanded_pieces.specs.ApartPoints.Places.{places, target_places, all_places, given_places, argument_places}
use Rattle.expanded_pieces.proofs.ApartPoints.Apart.{split, moved_out, behind_first, swapped, turned, without}
use Rattle.expanded_pieces.proofs.ApartPoints.Standing.{Stand, point_at, stand_none, stand_more, around_stand, around_end, around_inner, around_own, around_only}
use Rattle.expanded_pieces.proofs.ApartPoints.Quiet.{points_of, points_append, QuietThere, points_then, quiet_then, stands_behind, stands_before, stands_both, quiet_if, emitted_points, fresh_quiet, inside_quiet, own_quiet, save_quiet, assigned_quiet, bumped_quiet}

-- a call's points lead to its place
abbrev pub CalleesStand : Callee → Type 0
CalleesStand g = (callee : ℕ) (given : List Given) (c : Call) (at : Place) (s : State) → Stand c.path (at ∷ []) (points_of (g callee given c at s))

-- points of pieces in a list of their own
abbrev pub inner_points : {A : Type 0} → Part (Inner A) → List Point
inner_points part = all_points (piece_row part.value.pieces)

unused_quiet : (x : PureTree) → QuietThere (set_unused x)
unused_quiet x s = quiet_then (set_own (kind x) x s) _ (own_quiet (kind x) x s) (λ own s1. refl)

pub discarded_quiet : (b : Bool) (x : PureTree) → QuietThere (discarded b x)
discarded_quiet b x s = quiet_if b (gives tt s) (set_unused x s) refl (unused_quiet x s)

pub comma_left_quiet : (low : ℕ) (left : CoreTree) (x : PureTree) (later : Effects) → QuietThere (comma_left low left x later)
comma_left_quiet low left x later s =
    quiet_if (is_call left) (gives tt s) (then_ (save low x later s) (λ y s1. discarded (may_be_unused left) y s1)) refl
    (quiet_then (save low x later s) _ (save_quiet low x later s) (λ y s1. discarded_quiet (may_be_unused left) y s1))

pub arm_differs_end : point.Arm ≢ point.End
arm_differs_end e = cc

pub stand_if : (path places : List Place) {A : Type 0} (b : Bool) (x y : Part A) → Stand path places (points_of x) → Stand path places (points_of y) → Stand path places (points_of (if b then x else y))
stand_if path places true x y h g = h
stand_if path places false x y h g = g

module _ (c : Call) where
  abbrev StandsThere : List Place → {A : Type 0} → (State → Part A) → Type 0
  StandsThere list part = (s : State) → Stand c.path list (points_of (part s))

  -- ---- forks

  abbrev ending : Place → List Point
  ending at = point_at c.path at point.End ∷ []

  abbrev behind_mark : Place → State → State
  behind_mark at s = (emit (tree.mark (point_in c point.Arm at)) (record s { made = 0 })).state

  -- the points of an arm are its own and those of its operand
  arm_points : (at : Place) (operand : State → Part PureTree) (converted : PureTree → PureTree) (name : VarId) (s : State)
      → inner_points (arm c at operand converted name s) ≡ point_at c.path at point.Arm ∷ points_of (operand (behind_mark at s))
  unfolding inside emit then_
  arm_points at operand converted name s =
      let inner = operand (behind_mark at s) in
      ap (λ l. point_at c.path at point.Arm ∷ l) (points_append inner.pieces (tree.set name (converted inner.value) ∷ []) ∙ append-nil (points_of inner))

  decided_points : (is_one : Bool) (name : VarId) (s : State) → inner_points (decided is_one name s) ≡ []
  unfolding inside emit
  decided_points is_one name s = refl

  fork_points : (at : Place) (test : PureTree) (left right : List PieceTree) (name : VarId) (k : CType) (s : State)
      → points_of (fork_of c at test left right name k s) ≡ all_points (piece_row left) ++ (all_points (piece_row right) ++ point_at c.path at point.End ∷ [])
  fork_points at test left right name k s =
      let fork = emit (tree.fork test (piece_row left) (piece_row right) (point_in c point.End at)) s in
      points_then fork (λ u s1. gives (tree.variable name k) s1) ∙ append-nil (points_of fork) ∙ emitted_points (tree.fork test (piece_row left) (piece_row right) (point_in c point.End at)) s

  forked_stands : (op : Binary) (k : CType) (at : Place) (test : PureTree) (right : State → Part PureTree) (list : List Place) → AreApart (at ∷ list) → StandsThere list right → StandsThere (at ∷ list) (forked c op k at test right)
  forked_stands op k at test right list apart h s =
      let own = fresh k s in
      let reached = arm c at right to_bool own.value own.state in
      let other = decided (is_or op) own.value reached.state in
      let whole = arm_stands (points_of (right (behind_mark at own.state))) (h (behind_mark at own.state)) in
      stands_behind own _ c.path (at ∷ list) (fresh_quiet k s)
      (stands_behind reached _ c.path (at ∷ list) (inside_quiet _ own.state)
      (stands_behind other _ c.path (at ∷ list) (inside_quiet _ reached.state)
      (stand_if c.path (at ∷ list) (is_or op) (fork_of c at test other.value.pieces reached.value.pieces own.value k other.state) (fork_of c at test reached.value.pieces other.value.pieces own.value k other.state)
      (subst (Stand c.path (at ∷ list)) (sym (reached_last own.value own.state reached.state other.state)) whole)
      (subst (Stand c.path (at ∷ list)) (sym (reached_first own.value own.state reached.state other.state)) whole))))
    where
      arm_stands : (qs : List Point) → Stand c.path list qs → Stand c.path (at ∷ list) (point_at c.path at point.Arm ∷ (qs ++ ending at))
      arm_stands qs q =
          around_stand c.path at (point.Arm ∷ point.End ∷ []) list (point_at c.path at point.Arm ∷ (qs ++ ending at))
          (around_own c.path at point.Arm (point.End ∷ []) list (qs ++ ending at) (arm_differs_end, tt) apart.0 (around_end c.path at point.End list qs apart q))

      reached_last : (name : VarId) (s0 s1 s2 : State)
          → points_of (fork_of c at test (decided (is_or op) name s1).value.pieces (arm c at right to_bool name s0).value.pieces name k s2) ≡ point_at c.path at point.Arm ∷ (points_of (right (behind_mark at s0)) ++ ending at)
      reached_last name s0 s1 s2 =
          fork_points at test (decided (is_or op) name s1).value.pieces (arm c at right to_bool name s0).value.pieces name k s2
          ∙ (λ i. decided_points (is_or op) name s1 i ++ (arm_points at right to_bool name s0 i ++ ending at))

      reached_first : (name : VarId) (s0 s1 s2 : State)
          → points_of (fork_of c at test (arm c at right to_bool name s0).value.pieces (decided (is_or op) name s1).value.pieces name k s2) ≡ point_at c.path at point.Arm ∷ (points_of (right (behind_mark at s0)) ++ ending at)
      reached_first name s0 s1 s2 =
          fork_points at test (arm c at right to_bool name s0).value.pieces (decided (is_or op) name s1).value.pieces name k s2
          ∙ (λ i. arm_points at right to_bool name s0 i ++ (decided_points (is_or op) name s1 i ++ ending at))

  operated_stands : (op : Binary) (k : CType) (at : Place) (x : PureTree) (later : Effects) (right : State → Part PureTree) (list : List Place) → AreApart (at ∷ list) → StandsThere list right
      → StandsThere (at ∷ list) (operated c op k at x later right)
  operated_stands op k at x later right list apart h s =
      let left = save c.file_variables x later s in
      stands_behind left _ c.path (at ∷ list) (save_quiet c.file_variables x later s)
      (stand_if c.path (at ∷ list) (is_logical op && acts later) (forked c op k at left.value right left.state) (then_ (right left.state) (λ y s2. gives (tree.binary op left.value y k at) s2))
      (forked_stands op k at left.value right list apart h left.state)
      (stands_before (right left.state) _ c.path (at ∷ list) (stand_more c.path list (at ∷ list) (points_of (right left.state)) (λ p i. inr i) (h left.state)) refl))

  -- a `?:` that becomes a fork
  chosen_fork : (k : CType) (at colon : Place) (t : PureTree) (left right : State → Part PureTree) (xs ys : List Place) → AreApart (at ∷ (xs ++ colon ∷ ys)) → StandsThere xs left → StandsThere ys right
      → StandsThere (at ∷ (xs ++ colon ∷ ys)) (λ s1. then_ (fresh k s1) (λ own s2. then_ (arm c at left same own s2) (λ first s3. then_ (arm c colon right same own s3) (λ second s4. fork_of c at t first.pieces second.pieces own k s4))))
  chosen_fork k at colon t left right xs ys apart h g s =
      let list = at ∷ (xs ++ colon ∷ ys) in
      let own = fresh k s in
      let first = arm c at left same own.value own.state in
      let second = arm c colon right same own.value first.state in
      let one = left (behind_mark at own.state) in
      let two = right (behind_mark colon first.state) in
      let other = point_at c.path colon point.Arm ∷ points_of two in
      stands_behind own _ c.path list (fresh_quiet k s)
      (stands_behind first _ c.path list (inside_quiet _ own.state)
      (stands_behind second _ c.path list (inside_quiet _ first.state)
      (subst (Stand c.path list)
      (sym (fork_points at t first.value.pieces second.value.pieces own.value k second.state ∙ (λ i. arm_points at left same own.value own.state i ++ (arm_points colon right same own.value first.state i ++ point_at c.path at point.End ∷ []))))
      (whole (points_of one) (points_of two) (h (behind_mark at own.state)) (g (behind_mark colon first.state))))))
    where
      -- the second arm
      arm_stands : (rs : List Point) → AreApart (colon ∷ ys) → Stand c.path ys rs → Stand c.path (colon ∷ ys) (point_at c.path colon point.Arm ∷ rs)
      arm_stands rs a r = around_stand c.path colon (point.Arm ∷ []) ys (point_at c.path colon point.Arm ∷ rs) (around_own c.path colon point.Arm [] ys rs tt a.0 (around_only c.path colon ys rs r))

      whole : (qs rs : List Point) → Stand c.path xs qs → Stand c.path ys rs → Stand c.path (at ∷ (xs ++ colon ∷ ys)) (point_at c.path at point.Arm ∷ (qs ++ ((point_at c.path colon point.Arm ∷ rs) ++ ending at)))
      whole qs rs q r =
          let second = point_at c.path colon point.Arm ∷ rs in
          let others = colon ∷ ys in
          let last = around_end c.path at point.End others second (behind_first at xs others apart) (arm_stands rs (split (at ∷ xs) others apart).right r) in
          around_stand c.path at (point.Arm ∷ point.End ∷ []) (xs ++ others) (point_at c.path at point.Arm ∷ (qs ++ (second ++ ending at)))
          (around_own c.path at point.Arm (point.End ∷ []) (xs ++ others) (qs ++ (second ++ ending at)) (arm_differs_end, tt) apart.0 (around_inner c.path at (point.End ∷ []) xs others qs (second ++ ending at) apart q last))

  chosen_stands : (k : CType) (at colon : Place) (test : PureTree) (later : Effects) (left right : State → Part PureTree) (xs ys : List Place) → AreApart (at ∷ (xs ++ colon ∷ ys)) → StandsThere xs left → StandsThere ys right
      → StandsThere (at ∷ (xs ++ colon ∷ ys)) (chosen c k at colon test later left right)
  unfolding chosen
  chosen_stands k at colon test later left right xs ys apart h g s =
      let list = at ∷ (xs ++ colon ∷ ys) in
      let both = xs ++ ys in
      let t = save c.file_variables test later s in
      stand_if c.path list (acts later)
      (then_ (save c.file_variables test later s) (λ t s1. then_ (fresh k s1) (λ own s2. then_ (arm c at left same own s2) (λ first s3. then_ (arm c colon right same own s3) (λ second s4. fork_of c at t first.pieces second.pieces own k s4)))))
      (then_ (left s) (λ x s1. then_ (right s1) (λ y s2. gives (tree.choice test x y k) s2)))
      (stands_behind t _ c.path list (save_quiet c.file_variables test later s) (chosen_fork k at colon t.value left right xs ys apart h g t.state))
      (stand_more c.path (xs ++ ys) list _ (without xs ys colon at)
      (stands_both (left s) _ c.path xs ys (moved_out colon xs ys apart.1).1 (h s) (stands_before (right (left s).state) _ c.path ys (g (left s).state) refl)))

  -- ---- expressions

  module _ (g : Callee) (callees : CalleesStand g) where
    mutual
      pub expression_stands : (e : CoreTree) → AreApart (places e) → StandsThere (places e) (expression g c e)
      expression_stands (core.number v k) a s = stand_none c.path
      expression_stands (core.scalar cell k at) a s = stand_none c.path
      expression_stands (core.element name subscripts k at) a s = stands_before (operands g c subscripts no_effects [] s) _ c.path (all_places subscripts) (operands_stand subscripts no_effects [] a s) refl
      expression_stands (core.call callee args k at) a s =
          let given = arguments g c args [] s in
          let opened = g callee given.value c at given.state in
          stands_before (then_ (arguments g c args [] s) (λ given s1. g callee given c at s1)) (λ v s2. gives (value_or_zero v) s2) c.path (at ∷ argument_places args)
          (stand_more c.path (argument_places args ++ at ∷ []) (at ∷ argument_places args) _ (turned at (argument_places args))
          (stands_both given (λ given s1. g callee given c at s1) c.path (argument_places args) (at ∷ []) (swapped (at ∷ []) (argument_places args) a) (arguments_stand args [] a.1 s) (callees callee given.value c at given.state))) refl
      expression_stands (core.unary op arg k at) a s = stands_before (expression g c arg s) _ c.path (places arg) (expression_stands arg a s) refl
      expression_stands (core.binary op left right k at) a s =
          let parts = split (places left) (at ∷ places right) a in
          let x = expression g c left s in
          stands_both x _ c.path (places left) (at ∷ places right) a (expression_stands left parts.left s) (operated_stands op k at x.value (effects right) (expression g c right) (places right) parts.right (λ s2. expression_stands right parts.right.1 s2) x.state)
      expression_stands (core.choice test left right k at colon) a s =
          let parts = split (places test) (at ∷ (places left ++ colon ∷ places right)) a in
          let sides = split (places left) (colon ∷ places right) parts.right.1 in
          let t = expression g c test s in
          stands_both t _ c.path (places test) (at ∷ (places left ++ colon ∷ places right)) a (expression_stands test parts.left s)
          (chosen_stands k at colon t.value (either (effects left) (effects right)) (expression g c left) (expression g c right) (places left) (places right) parts.right (λ s2. expression_stands left sides.left s2) (λ s2. expression_stands right sides.right.1 s2) t.state)
      expression_stands (core.cast to arg) a s = stands_before (expression g c arg s) _ c.path (places arg) (expression_stands arg a s) refl
      expression_stands (core.assign left op value at) a s =
          let parts = split (target_places left) (places value) a in
          let t = targeted g c left (effects value) op at s in
          let by = expression g c value t.state in
          stands_both t _ c.path (target_places left) (places value) a (target_stands left (effects value) op at parts.left s) (stands_before by _ c.path (places value) (expression_stands value parts.right t.state) (assigned_quiet c t.value by.value by.state))
      expression_stands (core.bump left up post at) a s =
          let t = targeted g c left no_effects (step up) at s in
          stands_before t _ c.path (target_places left) (target_stands left no_effects (step up) at a s) (bumped_quiet c t.value post t.state)
      expression_stands (core.comma left right) a s =
          let parts = split (places left) (places right) a in
          let x = expression g c left s in
          let u = comma_left c.file_variables left x.value (effects right) x.state in
          stands_both x _ c.path (places left) (places right) a (expression_stands left parts.left s) (stands_behind u _ c.path (places right) (comma_left_quiet c.file_variables left x.value (effects right) x.state) (expression_stands right parts.right u.state))

      pub operands_stand : (xs : CoreTrees) (later : Effects) (before : List PureTree) → AreApart (all_places xs) → StandsThere (all_places xs) (operands g c xs later before)
      operands_stand core.none later before a s = stand_none c.path
      operands_stand (core.more first rest) later before a s =
          let parts = split (places first) (all_places rest) a in
          let x = expression g c first s in
          let y = save c.file_variables x.value (either (effects_of_all rest) later) x.state in
          stands_both x _ c.path (places first) (all_places rest) a (expression_stands first parts.left s)
          (stands_behind y _ c.path (all_places rest) (save_quiet c.file_variables x.value (either (effects_of_all rest) later) x.state) (operands_stand rest later (before ++ y.value ∷ []) parts.right y.state))

      pub target_stands : (t : CoreTargetTree) (later : Effects) (op : Option Binary) (at : Place) → AreApart (target_places t) → StandsThere (target_places t) (targeted g c t later op at)
      target_stands (core.target cell subscripts k place) later op at a s = stands_before (operands g c subscripts later [] s) _ c.path (all_places subscripts) (operands_stand subscripts later [] a s) refl

      argument_stands : (x : ArgumentTree) (later : Effects) → AreApart (given_places x) → StandsThere (given_places x) (argument g c x later)
      argument_stands (core.given e) later a s =
          let x = expression g c e s in
          stands_before x _ c.path (places e) (expression_stands e a s) (quiet_then (save c.file_variables x.value later x.state) _ (save_quiet c.file_variables x.value later x.state) (λ y s2. refl))
      argument_stands (core.array cell) later a s = stand_none c.path

      arguments_stand : (args : ArgumentTrees) (before : List Given) → AreApart (argument_places args) → StandsThere (argument_places args) (arguments g c args before)
      arguments_stand core.no_argument before a s = stand_none c.path
      arguments_stand (core.more_arguments first rest) before a s =
          let parts = split (given_places first) (argument_places rest) a in
          let x = argument g c first (effects_of_arguments rest) s in
          stands_both x _ c.path (given_places first) (argument_places rest) a (argument_stands first (effects_of_arguments rest) parts.left s) (arguments_stand rest (before ++ x.value ∷ []) parts.right x.state)
