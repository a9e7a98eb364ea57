-- Forks, assignments and values that are not used make pieces whose subscripts fit.
use Rattle.std.proofs.Common.{◌≡◌, ℕ, Bool, ◌&&◌, List, Option, Some, None, if◌then◌else◌}
use Rattle.hls_base.specs.declared.place.Place.{Place}
use Rattle.hls_base.specs.declared.point.PointKind.TheVariants as point
use Rattle.hls_base.specs.declared.number.VarId.{VarId}
use Rattle.c_token.specs.declared.ctype.CType.{CType}
use Rattle.c_tree.specs.declared.operator.Binary.{Binary}
use Rattle.c_value.specs.Values.{int_type}
use Rattle.pieces.specs.declared.resolved.expression.Cell.{Cell}
use Rattle.pieces.specs.Resolved.Core.{CoreTree}
use Rattle.pieces.specs.Trees as tree
use Rattle.pieces.specs.Trees.{PureTree, PureTrees, PieceTree, piece_row}
use Rattle.pieces.specs.Kind.{kind}
use Rattle.piece_making.specs.declared.effects.Effects.{Effects}
use Rattle.piece_making.specs.Acting.{acts}
use Rattle.piece_making.specs.Making.{State, Part, gives, then_, emit, fresh}
use Rattle.piece_making.specs.Saving.{save, is_logical}
use Rattle.piece_making.specs.Calls.{Call, variable, array, point_in, home_of}
use Rattle.piece_making.specs.Assigning.{Change, store, store_at, assigned, bumped, bumped_behind, new_value, computed, target_read, read_at, one}
use Rattle.c_expand.specs.Expressions.{is_call, may_be_unused, set_unused, discarded, comma_left, arm, decided, to_bool, same, fork_of, is_or, forked, operated, chosen}
use Rattle.expand_runs.specs.Sound.{Objects}
use Rattle.sound_trees.specs.Subscripts as pure
use Rattle.sound_trees.specs.Subscripts.{SubscriptsFit, AllSubscriptsFit, PiecesSubscriptsFit}
use Rattle.typed_pieces.specs.FittingSubscripts.Worlds.{World, Later, Makes, MakesLater, Value, Inside, Anything}
use Rattle.typed_pieces.specs.FittingSubscripts.Standing.{Names}
use Rattle.typed_pieces.proofs.FittingSubscripts.Fitting.{dimensions_same, read_fits}
use Rattle.typed_pieces.proofs.FittingSubscripts.Parts.{later_same, later_both, fits_later, each_later, pieces_later, then_makes, gives_makes, if_makes, emit_makes, fresh_makes, own_makes, inside_makes}
use Rattle.typed_pieces.proofs.FittingSubscripts.Saved.{save_makes}

-- ---- forks

module _ (c : Call) where
  arm_makes : (at : Place) (operand : State → Part PureTree) (converted : PureTree → PureTree) (own : VarId) (s : State) (w : World s) → ((s1 : State) (x : PureTree) → SubscriptsFit s1.arrays x → SubscriptsFit s1.arrays (converted x)) → MakesLater Value s w operand
      → Makes (Inside Anything) s w (arm c at operand converted own s)
  arm_makes at operand converted own s w conv h =
      inside_makes (λ s0. then_ (emit (tree.mark (point_in c point.Arm at)) s0) (λ u s1. then_ (operand s1) (λ value s2. emit (tree.set own (converted value)) s2))) s w (λ s1 w1 s2 w2 x l v. tt)
      (λ s0 w0 l0. then_makes (emit_makes (tree.mark (point_in c point.Arm at)) s0 w0 tt)
      (λ u s1 w1 l1 a. then_makes (h s1 w1 (later_both l0 l1)) (λ x s2 w2 l2 v. emit_makes (tree.set own (converted x)) s2 w2 (conv s2 x v))))

  decided_makes : (is_one : Bool) (own : VarId) (s : State) (w : World s) → Makes (Inside Anything) s w (decided is_one own s)
  decided_makes is_one own s w =
      inside_makes (λ s0. emit (tree.set own (tree.number (if is_one then 1 else 0) int_type)) s0) s w (λ s1 w1 s2 w2 x l v. tt) (λ s0 w0 l0. emit_makes (tree.set own (tree.number (if is_one then 1 else 0) int_type)) s0 w0 tt)

  fork_makes : (at : Place) (test : PureTree) (left right : List PieceTree) (own : VarId) (k : CType) (s : State) (w : World s) → SubscriptsFit s.arrays test → PiecesSubscriptsFit s.arrays (piece_row left) → PiecesSubscriptsFit s.arrays (piece_row right)
      → Makes Value s w (fork_of c at test left right own k s)
  fork_makes at test left right own k s w t x y = then_makes (emit_makes (tree.fork test (piece_row left) (piece_row right) (point_in c point.End at)) s w (t, x, y)) (λ u s1 w1 l v. gives_makes tt)

  forked_makes : (op : Binary) (k : CType) (at : Place) (test : PureTree) (right : State → Part PureTree) (s : State) (w : World s) → SubscriptsFit s.arrays test → MakesLater Value s w right → Makes Value s w (forked c op k at test right s)
  forked_makes op k at test right s w t h =
      then_makes (fresh_makes k s w)
      (λ own s1 w1 l1 there. then_makes (arm_makes at right to_bool own s1 w1 (λ s9 x v. v) (λ s2 w2 l2. h s2 w2 (later_both l1 l2)))
      (λ reached s2 w2 l2 r. then_makes (decided_makes (is_or op) own s2 w2)
      (λ other s3 w3 l3 o.
      (let t3 = fits_later l3 test (fits_later l2 test (fits_later l1 test t)) in
      let r3 = pieces_later l3 reached.pieces r.0 in
      if_makes (is_or op) (fork_of c at test other.pieces reached.pieces own k s3) (fork_of c at test reached.pieces other.pieces own k s3) s3 w3 (fork_makes at test other.pieces reached.pieces own k s3 w3 t3 o.0 r3)
      (fork_makes at test reached.pieces other.pieces own k s3 w3 t3 r3 o.0)))))

  pub operated_makes : (op : Binary) (k : CType) (at : Place) (x : PureTree) (later : Effects) (right : State → Part PureTree) (s : State) (w : World s) → SubscriptsFit s.arrays x → MakesLater Value s w right → Makes Value s w (operated c op k at x later right s)
  operated_makes op k at x later right s w t h =
      then_makes (save_makes c.file_variables x later s w t)
      (λ left s1 w1 l v. if_makes (is_logical op && acts later) (forked c op k at left right s1) (then_ (right s1) (λ y s2. gives (tree.binary op left y k at) s2)) s1 w1 (forked_makes op k at left right s1 w1 v (λ s2 w2 l2. h s2 w2 (later_both l l2)))
      (then_makes (h s1 w1 l) (λ y s2 w2 l2 u. gives_makes (fits_later l2 left v, u))))

  chosen_fork : (k : CType) (at colon : Place) (t : PureTree) (left right : State → Part PureTree) (s : State) (w : World s) → SubscriptsFit s.arrays t → MakesLater Value s w left → MakesLater Value s w right
      → Makes Value s w (then_ (fresh k s) (λ own s2. then_ (arm c at left same own s2) (λ first s3. then_ (arm c colon right same own s3) (λ second s4. fork_of c at t first.pieces second.pieces own k s4))))
  chosen_fork k at colon t left right s w h p q =
      then_makes (fresh_makes k s w)
      (λ own s1 w1 l1 there. then_makes (arm_makes at left same own s1 w1 (λ s9 x v. v) (λ s2 w2 l2. p s2 w2 (later_both l1 l2)))
      (λ first s2 w2 l2 a. then_makes (arm_makes colon right same own s2 w2 (λ s9 x v. v) (λ s3 w3 l3. q s3 w3 (later_both l1 (later_both l2 l3))))
      (λ second s3 w3 l3 b. fork_makes at t first.pieces second.pieces own k s3 w3 (fits_later l3 t (fits_later l2 t (fits_later l1 t h))) (pieces_later l3 first.pieces a.0) b.0)))

  pub chosen_makes : (k : CType) (at colon : Place) (test : PureTree) (later : Effects) (left right : State → Part PureTree) (s : State) (w : World s) → SubscriptsFit s.arrays test → MakesLater Value s w left → MakesLater Value s w right
      → Makes Value s w (chosen c k at colon test later left right s)
  unfolding chosen
  chosen_makes k at colon test later left right s w t p q =
      if_makes (acts later)
      (then_ (save c.file_variables test later s) (λ t1 s1. then_ (fresh k s1) (λ own s2. then_ (arm c at left same own s2) (λ first s3. then_ (arm c colon right same own s3) (λ second s4. fork_of c at t1 first.pieces second.pieces own k s4)))))
      (then_ (left s) (λ x s1. then_ (right s1) (λ y s2. gives (tree.choice test x y k) s2))) s w
      (then_makes (save_makes c.file_variables test later s w t) (λ t1 s1 w1 l v. chosen_fork k at colon t1 left right s1 w1 v (λ s2 w2 l2. p s2 w2 (later_both l l2)) (λ s2 w2 l2. q s2 w2 (later_both l l2))))
      (then_makes (p s w (later_same s w)) (λ x s1 w1 l v. then_makes (q s1 w1 l) (λ y s2 w2 l2 u. gives_makes (fits_later l2 test (fits_later l test t), fits_later l2 x v, u))))

-- ---- values that are not used

pub discarded_makes : (b : Bool) (x : PureTree) (s : State) (w : World s) → SubscriptsFit s.arrays x → Makes Anything s w (discarded b x s)
discarded_makes b x s w h = if_makes b (gives tt s) (set_unused x s) s w (gives_makes tt) (then_makes (own_makes (kind x) x s w h) (λ own s1 w1 l v. gives_makes tt))

pub comma_left_makes : (n : ℕ) (left : CoreTree) (x : PureTree) (later : Effects) (s : State) (w : World s) → SubscriptsFit s.arrays x → Makes Anything s w (comma_left n left x later s)
comma_left_makes n left x later s w h =
    if_makes (is_call left) (gives tt s) (then_ (save n x later s) (λ y s1. discarded (may_be_unused left) y s1)) s w (gives_makes tt)
    (then_makes (save_makes n x later s w h) (λ y s1 w1 l v. discarded_makes (may_be_unused left) y s1 w1 v))

-- ---- assignments

-- the new value of a target whose old one is this
computed_fits : (op : Option Binary) (k : CType) (at : Place) (s : State) (left by : PureTree) → SubscriptsFit s.arrays left → SubscriptsFit s.arrays by → SubscriptsFit s.arrays (computed op k at left by)
computed_fits None k at s left by h g = g
computed_fits (Some op) k at s left by h g = (h, g)

module _ (dimensions : Cell → ℕ) (o : Objects) (c : Call) (Scene : (s : State) → World s → Type 0) (N : Names dimensions o c Scene) where
  -- an array where there are subscripts
  abbrev pub TargetAs : Cell → PureTrees → CType → Type 0
  TargetAs cell tree.none k = Unit {0}
  TargetAs cell (tree.more first rest) k = o.Array cell k

  pub record IsChange (s : State) (t : Change) : Type 0 where
    pub subscripts : AllSubscriptsFit s.arrays t.subscripts
    pub count : pure.count t.subscripts ≡ dimensions t.cell
    pub target : TargetAs t.cell t.subscripts t.kind

  pub change_later : {s s1 : State} {w : World s} {w1 : World s1} {t : Change} → Later s w s1 w1 → IsChange s t → IsChange s1 t
  change_later {t = t} l h = record { subscripts = each_later l t.subscripts h.subscripts; count = h.count; target = h.target }

  read_at_fits : (cell : Cell) (k : CType) (at : Place) (given : PureTrees) (s : State) (w : World s) → Scene s w → AllSubscriptsFit s.arrays given → pure.count given ≡ dimensions cell → TargetAs cell given k → SubscriptsFit s.arrays (read_at c cell k at given s)
  read_at_fits cell k at tree.none s w scene h count t = read_fits s.arrays (home_of c cell) k
  read_at_fits cell k at (tree.more first rest) s w scene h count t = (dimensions_same s.arrays (array c cell s) (dimensions cell) (pure.count (tree.more first rest)) count (N.arrays s w scene cell k t), h)

  store_at_makes : (cell : Cell) (k : CType) (at : Place) (given : PureTrees) (v : PureTree) (s : State) (w : World s) → Scene s w → AllSubscriptsFit s.arrays given → pure.count given ≡ dimensions cell → TargetAs cell given k → SubscriptsFit s.arrays v
      → Makes Anything s w (store_at c cell at given v s)
  store_at_makes cell k at tree.none v s w scene h count t x = emit_makes (tree.set (variable c cell) v) s w x
  store_at_makes cell k at (tree.more first rest) v s w scene h count t x =
      emit_makes (tree.put (array c cell s) (tree.more first rest) v at) s w (dimensions_same s.arrays (array c cell s) (dimensions cell) (pure.count (tree.more first rest)) count (N.arrays s w scene cell k t), h, x)

  pub store_makes : (t : Change) (v : PureTree) (s : State) (w : World s) → Scene s w → IsChange s t → SubscriptsFit s.arrays v → Makes Anything s w (store c t v s)
  store_makes t v s w scene h x = store_at_makes t.cell t.kind t.target_at t.subscripts v s w scene h.subscripts h.count h.target x

  old_value : (t : Change) (s : State) (w : World s) → Scene s w → IsChange s t → SubscriptsFit s.arrays (target_read c t s)
  old_value t s w scene h = read_at_fits t.cell t.kind t.target_at t.subscripts s w scene h.subscripts h.count h.target

  pub new_fits : (t : Change) (by : PureTree) (s : State) (w : World s) → Scene s w → IsChange s t → SubscriptsFit s.arrays by → SubscriptsFit s.arrays (new_value t (target_read c t s) by)
  new_fits t by s w scene h x = computed_fits t.op t.kind t.at s (target_read c t s) by (old_value t s w scene h) x

  -- a value is set into a variable of its own, and then one into the target
  both_set : (t : Change) (x : PureTree) (y : VarId → PureTree) (s : State) (w : World s) → Scene s w → IsChange s t → SubscriptsFit s.arrays x → ((own : VarId) (s1 : State) → SubscriptsFit s1.arrays (y own))
      → Makes Value s w (then_ (fresh t.kind s) (λ own s1. then_ (emit (tree.set own x) s1) (λ set s2. then_ (store c t (y own) s2) (λ stored s3. gives (tree.variable own t.kind) s3))))
  both_set t x y s w scene h v z =
      then_makes (fresh_makes t.kind s w)
      (λ own s1 w1 l1 there. then_makes (emit_makes (tree.set own x) s1 w1 (fits_later l1 x v))
      (λ u s2 w2 l2 a. then_makes (store_makes t (y own) s2 w2 (N.stays s w s2 w2 scene (later_both l1 l2)) (change_later (later_both l1 l2) h) (z own s2)) (λ q s3 w3 l3 b. gives_makes tt)))

  pub assigned_makes : (t : Change) (by : PureTree) (s : State) (w : World s) → Scene s w → IsChange s t → SubscriptsFit s.arrays by → Makes Value s w (assigned c t by s)
  assigned_makes t by s w scene h v = both_set t (new_value t (target_read c t s) by) (λ own. tree.variable own t.kind) s w scene h (new_fits t by s w scene h v) (λ own s1. tt)

  behind_makes : (t : Change) (s : State) (w : World s) → Scene s w → IsChange s t → Makes Value s w (bumped_behind c t s)
  behind_makes t s w scene h =
      both_set t (target_read c t s) (λ own. new_value t (tree.variable own t.kind) one) s w scene h (old_value t s w scene h) (λ own s1. computed_fits t.op t.kind t.at s1 (tree.variable own t.kind) one tt tt)

  pub bumped_makes : (t : Change) (post : Bool) (s : State) (w : World s) → Scene s w → IsChange s t → Makes Value s w (bumped c t post s)
  bumped_makes t post s w scene h = if_makes post (bumped_behind c t s) (assigned c t one s) s w (behind_makes t s w scene h) (assigned_makes t one s w scene h tt)
