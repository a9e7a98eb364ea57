-- The pieces of expressions, whose values read nothing that is hidden.
use Rattle.std.proofs.Common.{◌≡◌, ◌≤◌, ℕ, Bool, false, ◌&&◌, List, [], ◌∷◌, ◌++◌, refl, sym, subst, arith, le_refl, Option, Some, None}
use Rattle.hls_base.specs.declared.place.Place.{Place}
use Rattle.hls_base.specs.declared.point.Point.{Point}
use Rattle.hls_base.specs.declared.point.PointKind.TheVariants as point
use Rattle.hls_base.specs.declared.number.VarId.{VarId}
use Rattle.c_token.specs.declared.ctype.CType.{CType}
use Rattle.c_tree.specs.declared.operator.Binary.{Binary}
use Rattle.c_value.specs.Values.{int_type}
use Rattle.pieces.specs.declared.resolved.expression.Cell.{Cell}
use Rattle.pieces.specs.Resolved.Core as core
use Rattle.pieces.specs.Resolved.Core.{CoreTree, CoreTargetTree, CoreTrees, ArgumentTree, ArgumentTrees}
use Rattle.pieces.specs.Trees as tree
use Rattle.pieces.specs.Trees.{PureTree, PureTrees, PieceTree, piece_row, row}
use Rattle.pieces.specs.Kind.{kind}
use Rattle.piece_making.specs.declared.effects.Effects.{Effects}
use Rattle.piece_making.specs.declared.frame.Home.{Home}
use Rattle.piece_making.specs.declared.frame.Home.TheVariants as home
use Rattle.piece_making.specs.Acting.{acts, either, no_effects, effects, effects_of_all, effects_of_arguments}
use Rattle.piece_making.specs.Making.{State, Part, gives, then_, fresh}
use Rattle.piece_making.specs.Saving.{save, is_logical}
use Rattle.piece_making.specs.Calls.{Call, home_of, read_of, scalar, variable, point_in}
use Rattle.piece_making.specs.Assigning.{Change, change, store_at, store, assigned, bumped, bumped_behind, new_value, computed, read_at, target_read, one, step}
use Rattle.c_expand.specs.Expressions as given
use Rattle.c_expand.specs.Expressions.{Given, Callee, value_given, is_call, may_be_unused, set_unused, discarded, comma_left, value_or_zero, arm, decided, to_bool, same, fork_of, is_or, forked, operated, chosen, expression, operands, targeted, argument, arguments}
use Rattle.pass_runs.specs.LowerRuns.LoweredTrees.Fitting.{PiecesFit}
use Rattle.pass_runs.specs.LowerRuns.Suiting.{shut, with_hidden}
use Rattle.expanded_pieces.proofs.Parts.{FitsThere}
use Rattle.expanded_pieces.proofs.Statements.{nothing}
use Rattle.expanded_pieces.proofs.Expressions.{CalleesFit, expression_fits}
use Rattle.expanded_pieces.specs.BegunPieces.Reads.{ReadsNone, EachReadsNone}
use Rattle.expanded_pieces.proofs.BegunPieces.Hiding.{AllRead, row_reads, all_read_more}
use Rattle.expanded_pieces.proofs.BegunPieces.Ends.{AllEnds, all_ends}
use Rattle.expanded_pieces.proofs.BegunPieces.Well.{Good, AllGood}
use Rattle.expanded_pieces.proofs.BegunPieces.Parts.{Between, Ready, ready_more, any, Begun, There, then_at, then_quiet, then_there, gives_begun, set_begun, put_begun, if_begun, fresh_begun, own_begun, save_begun, outside_begun}
use Rattle.expanded_pieces.proofs.BegunPieces.Forks.{anything, ready_hidden, fork_both, fork_second_alone, fork_first_alone, fork_begun, arm_begun, decided_begun}

-- what is given for parameters reads nothing that is hidden
abbrev pub GivenReads : (ℕ → Bool) → Given → Type 0
GivenReads hidden (given.value_given x) = ReadsNone hidden x
GivenReads hidden (given.array_given name) = Unit {0}

abbrev pub AllGiven : (ℕ → Bool) → List Given → Type 0
AllGiven hidden [] = Unit {0}
AllGiven hidden (x ∷ xs) = GivenReads hidden x × AllGiven hidden xs

given_more : (hidden : ℕ → Bool) (xs : List Given) (x : Given) → AllGiven hidden xs → GivenReads hidden x → AllGiven hidden (xs ++ x ∷ [])
given_more hidden [] x r q = (q, tt)
given_more hidden (y ∷ xs) x r q = (r.0, given_more hidden xs x r.1 q)

abbrev pub MayRead : (ℕ → Bool) → Option PureTree → Type 0
MayRead hidden None = Unit {0}
MayRead hidden (Some x) = ReadsNone hidden x

or_zero : (hidden : ℕ → Bool) (v : Option PureTree) → MayRead hidden v → ReadsNone hidden (value_or_zero v)
or_zero hidden None r = tt
or_zero hidden (Some x) r = r

-- calls become pieces that are well wherever the objects of the call round them stand
abbrev pub CalleesBegin : (Point → Bool) → Callee → Type 0
CalleesBegin kept g = (hidden : ℕ → Bool) (callee : ℕ) (given : List Given) (c : Call) (at : Place) → AllGiven hidden given → There kept hidden c (MayRead hidden) (g callee given c at)

pub widen : (low high low1 high1 : ℕ) (xs : List PieceTree) → low1 ≤ low → high ≤ high1 → AllEnds (Between low high) (piece_row xs) → AllEnds (Between low1 high1) (piece_row xs)
widen low high low1 high1 xs le ge h = all_ends (Between low high) (Between low1 high1) (λ j b. (let q = b.0 in omega (arith, q, le), let q = b.1 in omega (arith, q, ge))) (piece_row xs) h

module _ (kept : Point → Bool) (hidden : ℕ → Bool) (c : Call) where
  abbrev Reads : PureTree → Type 0
  Reads x = ReadsNone hidden x

  -- ---- forks

  forked_begun : (op : Binary) (k : CType) (at : Place) (test : PureTree) (right : State → Part PureTree) → Reads test → ((inner : ℕ → Bool) → There kept inner c (ReadsNone inner) right) → FitsThere anything nothing right → There kept hidden c Reads (forked c op k at test right)
  unfolding fresh
  forked_begun op k at test right t h f s r =
      let own = fresh k s in
      let shown = fresh_begun kept hidden c k s r in
      let inner = with_hidden hidden own.value.0 in
      let reached = arm c at right to_bool own.value own.state in
      let a = arm_begun kept inner c at right to_bool own.value (λ x q. q) (h inner) f own.state (ready_hidden hidden c k s r) in
      let other = decided (is_or op) own.value reached.state in
      let d = decided_begun kept inner (is_or op) own.value reached.state in
      let low = s.calls in
      let since = a.within.later in
      let last = d.within.later in
      let good = subst (λ xs. AllGood kept inner xs) a.shape a.within.good in
      let fits = subst (λ xs. PiecesFit shut (piece_row xs)) a.shape a.fits in
      let le : low ≤ other.state.calls = omega (arith, since, last) in
      let left = widen own.state.calls reached.state.calls low other.state.calls reached.value.pieces (le_refl low) last a.within.ends in
      let right_ends = widen reached.state.calls other.state.calls low other.state.calls other.value.pieces since (le_refl other.state.calls) d.within.ends in
      then_quiet kept hidden low s own _ refl shown
      (then_quiet kept hidden low own.state reached _ a.within.none (outside_begun kept hidden inner low own.state reached a.within)
      (then_quiet kept hidden low reached.state other _ d.within.none (outside_begun kept hidden inner low reached.state other d.within)
      (if_begun kept hidden low (is_or op) (fork_of c at test other.value.pieces reached.value.pieces own.value k other.state) (fork_of c at test reached.value.pieces other.value.pieces own.value k other.state) other.state
      (fork_begun kept hidden c at test other.value.pieces reached.value.pieces own.value k low other.state le
      (subst (λ ys. Good kept hidden (tree.fork test (piece_row ys) (piece_row reached.value.pieces) (point_in c point.End at))) (sym d.shape)
      (subst (λ xs. Good kept hidden (tree.fork test (piece_row (tree.set own.value (tree.number d.word int_type) ∷ [])) (piece_row xs) (point_in c point.End at))) (sym a.shape)
      (fork_first_alone kept hidden test a.at a.pieces own.value a.value d.word (point_in c point.End at) t good fits))) right_ends left shown.value)
      (fork_begun kept hidden c at test reached.value.pieces other.value.pieces own.value k low other.state le
      (subst (λ ys. Good kept hidden (tree.fork test (piece_row reached.value.pieces) (piece_row ys) (point_in c point.End at))) (sym d.shape)
      (subst (λ xs. Good kept hidden (tree.fork test (piece_row xs) (piece_row (tree.set own.value (tree.number d.word int_type) ∷ [])) (point_in c point.End at))) (sym a.shape)
      (fork_second_alone kept hidden test a.at a.pieces own.value a.value d.word (point_in c point.End at) t good fits))) left right_ends shown.value))))

  operated_begun : (op : Binary) (k : CType) (at : Place) (x : PureTree) (later : Effects) (right : State → Part PureTree) → Reads x → ((inner : ℕ → Bool) → There kept inner c (ReadsNone inner) right) → FitsThere anything nothing right
      → There kept hidden c Reads (operated c op k at x later right)
  operated_begun op k at x later right q h f s r =
      then_there kept hidden c s r _ _ (save_begun kept hidden c c.file_variables x later q s r)
      (λ left v s1 r1. if_begun kept hidden s1.calls (is_logical op && acts later) (forked c op k at left right s1) (then_ (right s1) (λ y s2. gives (tree.binary op left y k at) s2)) s1 (forked_begun op k at left right v h f s1 r1)
      (then_there kept hidden c s1 r1 (right s1) (λ y s2. gives (tree.binary op left y k at) s2) (h hidden s1 r1) (λ y w s2 r2. gives_begun kept hidden s2.calls (tree.binary op left y k at) (v, w) s2)))

  -- a `?:` that becomes a fork
  chosen_fork : (k : CType) (at colon : Place) (t : PureTree) (left right : State → Part PureTree) → Reads t → There kept hidden c Reads left → There kept hidden c Reads right → FitsThere anything nothing left → FitsThere anything nothing right
      → There kept hidden c Reads (λ s1. then_ (fresh k s1) (λ own s2. then_ (arm c at left same own s2) (λ first s3. then_ (arm c colon right same own s3) (λ second s4. fork_of c at t first.pieces second.pieces own k s4))))
  chosen_fork k at colon t left right q h g f1 f2 s r =
      let own = fresh k s in
      let shown = fresh_begun kept hidden c k s r in
      let r1 = ready_more hidden c s own.state shown.more r in
      let first = arm c at left same own.value own.state in
      let a = arm_begun kept hidden c at left same own.value (λ x v. v) h f1 own.state r1 in
      let second = arm c colon right same own.value first.state in
      let b = arm_begun kept hidden c colon right same own.value (λ x v. v) g f2 first.state (ready_more hidden c own.state first.state a.within.more r1) in
      let low = s.calls in
      let start = shown.later in
      let since = a.within.later in
      let last = b.within.later in
      let le : low ≤ second.state.calls = omega (arith, start, since, last) in
      let le1 : low ≤ first.state.calls = omega (arith, start, since) in
      let end = point_in c point.End at in
      then_at kept hidden low s own _ (le_refl low) shown
      (then_quiet kept hidden own.state.calls own.state first _ a.within.none (outside_begun kept hidden hidden own.state.calls own.state first a.within)
      (then_quiet kept hidden own.state.calls first.state second _ b.within.none (outside_begun kept hidden hidden own.state.calls first.state second b.within)
      (fork_begun kept hidden c at t first.value.pieces second.value.pieces own.value k own.state.calls second.state (omega (arith, since, last))
      (subst (λ ys. Good kept hidden (tree.fork t (piece_row first.value.pieces) (piece_row ys) end)) (sym {b = tree.mark b.at ∷ (b.pieces ++ tree.set own.value b.value ∷ [])} b.shape)
      (subst (λ xs. Good kept hidden (tree.fork t (piece_row xs) (piece_row (tree.mark b.at ∷ (b.pieces ++ tree.set own.value b.value ∷ []))) end)) (sym a.shape)
      (fork_both kept hidden t a.at b.at (a.pieces ++ tree.set own.value a.value ∷ []) (b.pieces ++ tree.set own.value b.value ∷ []) end q (subst (λ xs. AllGood kept hidden xs) a.shape a.within.good) (subst (λ xs. AllGood kept hidden xs) b.shape b.within.good))))
      (widen own.state.calls first.state.calls own.state.calls second.state.calls first.value.pieces (le_refl own.state.calls) last a.within.ends)
      (widen first.state.calls second.state.calls own.state.calls second.state.calls second.value.pieces since (le_refl second.state.calls) b.within.ends) shown.value)))

  chosen_begun : (k : CType) (at colon : Place) (test : PureTree) (later : Effects) (left right : State → Part PureTree) → Reads test → There kept hidden c Reads left → There kept hidden c Reads right → FitsThere anything nothing left → FitsThere anything nothing right
      → There kept hidden c Reads (chosen c k at colon test later left right)
  unfolding chosen
  chosen_begun k at colon test later left right q h g f1 f2 s r =
      if_begun kept hidden s.calls (acts later)
      (then_ (save c.file_variables test later s) (λ t s1. then_ (fresh k s1) (λ own s2. then_ (arm c at left same own s2) (λ first s3. then_ (arm c colon right same own s3) (λ second s4. fork_of c at t first.pieces second.pieces own k s4)))))
      (then_ (left s) (λ x s1. then_ (right s1) (λ y s2. gives (tree.choice test x y k) s2))) s
      (then_there kept hidden c s r _ _ (save_begun kept hidden c c.file_variables test later q s r) (λ t v s1 r1. chosen_fork k at colon t left right v h g f1 f2 s1 r1))
      (then_there kept hidden c s r (left s) (λ x s1. then_ (right s1) (λ y s2. gives (tree.choice test x y k) s2)) (h s r)
      (λ x v s1 r1. then_there kept hidden c s1 r1 (right s1) (λ y s2. gives (tree.choice test x y k) s2) (g s1 r1) (λ y w s2 r2. gives_begun kept hidden s2.calls (tree.choice test x y k) (q, v, w) s2)))

  -- ---- objects and assignments

  home_reads : (h : Option Home) (k : CType) → ((own : VarId) → h ≡ Some (home.Variable own) → hidden own.0 ≡ false) → Reads (read_of h k)
  home_reads (Some (home.Variable own)) k shown = shown own refl
  home_reads (Some (home.Constant v)) k shown = tt
  home_reads h k shown = tt

  scalar_reads : (cell : Cell) (k : CType) (s : State) → Ready hidden c s → Reads (scalar c cell k)
  scalar_reads cell k s r = home_reads (home_of c cell) k (λ own e. (r.homes cell own e).1)

  pub store_at_begun : (cell : Cell) (at : Place) (subscripts : PureTrees) (v : PureTree) → EachReadsNone hidden subscripts → Reads v → (s : State) → Begun kept hidden s.calls any s (store_at c cell at subscripts v s)
  store_at_begun cell at tree.none v q w s = set_begun kept hidden s.calls (variable c cell) v s w
  store_at_begun cell at (tree.more first rest) v q w s = put_begun kept hidden s.calls _ (tree.more first rest) v at s q w

  pub store_begun : (t : Change) (v : PureTree) → EachReadsNone hidden t.subscripts → Reads v → (s : State) → Begun kept hidden s.calls any s (store c t v s)
  store_begun t v q w s = store_at_begun t.cell t.target_at t.subscripts v q w s

  read_reads : (cell : Cell) (k : CType) (at : Place) (subscripts : PureTrees) (s : State) → Ready hidden c s → EachReadsNone hidden subscripts → Reads (read_at c cell k at subscripts s)
  read_reads cell k at tree.none s r q = scalar_reads cell k s r
  read_reads cell k at (tree.more first rest) s r q = q

  own_new : (t : Change) (own by : PureTree) → Reads own → Reads by → Reads (new_value t own by)
  own_new t own by v w = either t.op where
    either : (op : Option Binary) → Reads (computed op t.kind t.at own by)
    either None = w
    either (Some o) = (v, w)

  pub new_reads : (t : Change) (s : State) → Ready hidden c s → EachReadsNone hidden t.subscripts → (by : PureTree) → Reads by → Reads (new_value t (target_read c t s) by)
  new_reads t s r q by v = own_new t (target_read c t s) by (read_reads t.cell t.kind t.target_at t.subscripts s r q) v

  assigned_begun : (t : Change) (by : PureTree) → EachReadsNone hidden t.subscripts → Reads by → There kept hidden c Reads (assigned c t by)
  assigned_begun t by q v s r =
      then_there kept hidden c s r _ _ (fresh_begun kept hidden c t.kind s r)
      (λ own o s1 r1. then_there kept hidden c s1 r1 _ _ (set_begun kept hidden s1.calls own (new_value t (target_read c t s) by) s1 (new_reads t s r q by v))
      (λ u w s2 r2. then_there kept hidden c s2 r2 _ _ (store_begun t (tree.variable own t.kind) q o s2) (λ u1 w1 s3 r3. gives_begun kept hidden s3.calls (tree.variable own t.kind) o s3)))

  behind_begun : (t : Change) → EachReadsNone hidden t.subscripts → There kept hidden c Reads (bumped_behind c t)
  behind_begun t q s r =
      then_there kept hidden c s r _ _ (fresh_begun kept hidden c t.kind s r)
      (λ own o s1 r1. then_there kept hidden c s1 r1 _ _ (set_begun kept hidden s1.calls own (target_read c t s) s1 (read_reads t.cell t.kind t.target_at t.subscripts s r q))
      (λ u w s2 r2. then_there kept hidden c s2 r2 _ _ (store_begun t (new_value t (tree.variable own t.kind) one) q (own_new t (tree.variable own t.kind) one o tt) s2) (λ u1 w1 s3 r3. gives_begun kept hidden s3.calls (tree.variable own t.kind) o s3)))

  bumped_begun : (t : Change) (post : Bool) → EachReadsNone hidden t.subscripts → There kept hidden c Reads (bumped c t post)
  bumped_begun t post q s r = if_begun kept hidden s.calls post (bumped_behind c t s) (assigned c t one s) s (behind_begun t q s r) (assigned_begun t one q tt s r)

  unused_begun : (x : PureTree) → Reads x → There kept hidden c any (set_unused x)
  unused_begun x v s r = then_there kept hidden c s r _ _ (own_begun kept hidden c (kind x) x v s r) (λ own w s1 r1. gives_begun kept hidden s1.calls tt tt s1)

  pub discarded_begun : (b : Bool) (x : PureTree) → Reads x → There kept hidden c any (discarded b x)
  discarded_begun b x v s r = if_begun kept hidden s.calls b (gives tt s) (set_unused x s) s (gives_begun kept hidden s.calls tt tt s) (unused_begun x v s r)

  comma_left_begun : (low : ℕ) (left : CoreTree) (x : PureTree) (later : Effects) → Reads x → There kept hidden c any (comma_left low left x later)
  comma_left_begun low left x later v s r =
      if_begun kept hidden s.calls (is_call left) (gives tt s) (then_ (save low x later s) (λ y s1. discarded (may_be_unused left) y s1)) s (gives_begun kept hidden s.calls tt tt s)
      (then_there kept hidden c s r _ _ (save_begun kept hidden c low x later v s r) (λ y w s1 r1. discarded_begun (may_be_unused left) y w s1 r1))

-- a target whose subscripts read nothing that is hidden
abbrev pub TargetReads : (ℕ → Bool) → Change → Type 0
TargetReads hidden t = EachReadsNone hidden t.subscripts

-- ---- expressions

module _ (kept : Point → Bool) (g : Callee) (callees : CalleesBegin kept g) (fit : CalleesFit anything g) (c : Call) where
  mutual
    pub expression_begun : (e : CoreTree) (hidden : ℕ → Bool) → There kept hidden c (ReadsNone hidden) (expression g c e)
    expression_begun (core.number v k) hidden s r = gives_begun kept hidden s.calls _ tt s
    expression_begun (core.scalar cell k at) hidden s r = gives_begun kept hidden s.calls (scalar c cell k) (scalar_reads kept hidden c cell k s r) s
    expression_begun (core.element name subscripts k at) hidden s r =
        then_there kept hidden c s r _ _ (operands_begun subscripts no_effects [] hidden tt s r) (λ given v s1 r1. gives_begun kept hidden s1.calls _ (row_reads hidden given v) s1)
    expression_begun (core.call callee args k at) hidden s r =
        then_there kept hidden c s r (then_ (arguments g c args [] s) (λ given s1. g callee given c at s1)) (λ v s2. gives (value_or_zero v) s2)
        (then_there kept hidden c s r (arguments g c args [] s) (λ given s1. g callee given c at s1) (arguments_begun args [] hidden tt s r) (λ given v s1 r1. callees hidden callee given c at v s1 r1))
        (λ v w s2 r2. gives_begun kept hidden s2.calls (value_or_zero v) (or_zero hidden v w) s2)
    expression_begun (core.unary op arg k at) hidden s r = then_there kept hidden c s r _ _ (expression_begun arg hidden s r) (λ x v s1 r1. gives_begun kept hidden s1.calls (tree.unary op x k at) v s1)
    expression_begun (core.binary op left right k at) hidden s r =
        then_there kept hidden c s r _ _ (expression_begun left hidden s r)
        (λ x v s1 r1. operated_begun kept hidden c op k at x (effects right) (expression g c right) v (λ inner s2 r2. expression_begun right inner s2 r2) (λ s2. expression_fits anything nothing g fit c right s2) s1 r1)
    expression_begun (core.choice test left right k at colon) hidden s r =
        then_there kept hidden c s r _ _ (expression_begun test hidden s r)
        (λ t v s1 r1. chosen_begun kept hidden c k at colon t (either (effects left) (effects right)) (expression g c left) (expression g c right) v (λ s2 r2. expression_begun left hidden s2 r2) (λ s2 r2. expression_begun right hidden s2 r2)
        (λ s2. expression_fits anything nothing g fit c left s2) (λ s2. expression_fits anything nothing g fit c right s2) s1 r1)
    expression_begun (core.cast to arg) hidden s r = then_there kept hidden c s r _ _ (expression_begun arg hidden s r) (λ x v s1 r1. gives_begun kept hidden s1.calls (tree.cast to x) v s1)
    expression_begun (core.assign left op value at) hidden s r =
        then_there kept hidden c s r _ _ (target_begun left (effects value) op at hidden s r)
        (λ t v s1 r1. then_there kept hidden c s1 r1 _ _ (expression_begun value hidden s1 r1) (λ by w s2 r2. assigned_begun kept hidden c t by v w s2 r2))
    expression_begun (core.bump left up post at) hidden s r = then_there kept hidden c s r _ _ (target_begun left no_effects (step up) at hidden s r) (λ t v s1 r1. bumped_begun kept hidden c t post v s1 r1)
    expression_begun (core.comma left right) hidden s r =
        then_there kept hidden c s r _ _ (expression_begun left hidden s r)
        (λ x v s1 r1. then_there kept hidden c s1 r1 _ _ (comma_left_begun kept hidden c c.file_variables left x (effects right) v s1 r1) (λ u w s2 r2. expression_begun right hidden s2 r2))

    pub operands_begun : (xs : CoreTrees) (later : Effects) (before : List PureTree) (hidden : ℕ → Bool) → AllRead hidden before → There kept hidden c (AllRead hidden) (operands g c xs later before)
    operands_begun core.none later before hidden b s r = gives_begun kept hidden s.calls before b s
    operands_begun (core.more first rest) later before hidden b s r =
        then_there kept hidden c s r _ _ (expression_begun first hidden s r)
        (λ x v s1 r1. then_there kept hidden c s1 r1 _ _ (save_begun kept hidden c c.file_variables x (either (effects_of_all rest) later) v s1 r1)
        (λ y w s2 r2. operands_begun rest later (before ++ y ∷ []) hidden (all_read_more hidden before y b w) s2 r2))

    pub target_begun : (t : CoreTargetTree) (later : Effects) (op : Option Binary) (at : Place) (hidden : ℕ → Bool) → There kept hidden c (TargetReads hidden) (targeted g c t later op at)
    target_begun (core.target cell subscripts k place) later op at hidden s r =
        then_there kept hidden c s r _ _ (operands_begun subscripts later [] hidden tt s r) (λ given v s1 r1. gives_begun kept hidden s1.calls (change cell k place (row given) op at) (row_reads hidden given v) s1)

    argument_begun : (a : ArgumentTree) (later : Effects) (hidden : ℕ → Bool) → There kept hidden c (GivenReads hidden) (argument g c a later)
    argument_begun (core.given e) later hidden s r =
        then_there kept hidden c s r _ _ (expression_begun e hidden s r)
        (λ x v s1 r1. then_there kept hidden c s1 r1 _ _ (save_begun kept hidden c c.file_variables x later v s1 r1) (λ y w s2 r2. gives_begun kept hidden s2.calls (value_given y) w s2))
    argument_begun (core.array cell) later hidden s r = gives_begun kept hidden s.calls _ tt s

    arguments_begun : (args : ArgumentTrees) (before : List Given) (hidden : ℕ → Bool) → AllGiven hidden before → There kept hidden c (AllGiven hidden) (arguments g c args before)
    arguments_begun core.no_argument before hidden b s r = gives_begun kept hidden s.calls before b s
    arguments_begun (core.more_arguments first rest) before hidden b s r =
        then_there kept hidden c s r _ _ (argument_begun first (effects_of_arguments rest) hidden s r) (λ a v s1 r1. arguments_begun rest (before ++ a ∷ []) hidden (given_more hidden before a b v) s1 r1)
