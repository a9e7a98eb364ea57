-- Forks, assignments and values that are not used become pieces that set no table.
use Rattle.std.proofs.Common.{◌≡◌, ℕ, Bool, false, ◌&&◌, List, if◌then◌else◌}
use Rattle.hls_base.specs.declared.place.Place.{Place}
use Rattle.hls_base.specs.declared.point.PointKind.TheVariants as point
use Rattle.hls_base.specs.declared.number.VarId.{VarId}
use Rattle.c_token.specs.declared.ctype.CType.{CType}
use Rattle.c_tree.specs.declared.operator.Binary.{Binary}
use Rattle.c_value.specs.Values.{int_type}
use Rattle.pieces.specs.declared.resolved.expression.Cell.{Cell}
use Rattle.pieces.specs.Resolved.Core.{CoreTree}
use Rattle.pieces.specs.Trees as tree
use Rattle.pieces.specs.Trees.{PureTree, PureTrees, PieceTree, piece_row}
use Rattle.pieces.specs.Kind.{kind}
use Rattle.piece_making.specs.declared.effects.Effects.{Effects}
use Rattle.piece_making.specs.Acting.{acts}
use Rattle.piece_making.specs.Making.{State, Part, gives, then_, emit, fresh}
use Rattle.piece_making.specs.Saving.{save, is_logical}
use Rattle.piece_making.specs.Calls.{Call, variable, array, point_in}
use Rattle.piece_making.specs.Assigning.{Change, store, store_at, assigned, bumped, bumped_behind, new_value, target_read, one}
use Rattle.c_expand.specs.Expressions.{is_call, may_be_unused, set_unused, discarded, comma_left, arm, decided, to_bool, same, fork_of, is_or, forked, operated, chosen}
use Rattle.expand_runs.specs.Sound.{Objects}
use Rattle.source_validity.specs.KeptTables.Worlds.{World, Makes, MakesLater, Whatever, Inside, KeepTables}
use Rattle.source_validity.specs.KeptTables.Standing.{Names}
use Rattle.source_validity.proofs.KeptTables.Parts.{put_keeps, later_same, later_both, pieces_later, then_makes, gives_makes, if_makes, emit_makes, fresh_makes, own_makes, inside_makes}
use Rattle.source_validity.proofs.KeptTables.Saved.{save_makes}

-- ---- forks

pub set_makes : (own : VarId) (x : PureTree) (s : State) → World s → Makes Whatever s (emit (tree.set own x) s)
set_makes own x s w = emit_makes (tree.set own x) s w (λ more b. tt)

module _ (c : Call) where
  arm_makes : (at : Place) (operand : State → Part PureTree) (converted : PureTree → PureTree) (own : VarId) (s : State) → World s → MakesLater Whatever s operand → Makes (Inside Whatever) s (arm c at operand converted own s)
  arm_makes at operand converted own s w h =
      inside_makes (λ s0. then_ (emit (tree.mark (point_in c point.Arm at)) s0) (λ u s1. then_ (operand s1) (λ value s2. emit (tree.set own (converted value)) s2))) s w
      (λ s0 w0 l0. then_makes (emit_makes (tree.mark (point_in c point.Arm at)) s0 w0 (λ more b. tt)) (λ u s1 w1 l1 a. then_makes (h s1 w1 (later_both l0 l1)) (λ x s2 w2 l2 v. set_makes own (converted x) s2 w2)))

  decided_makes : (is_one : Bool) (own : VarId) (s : State) → World s → Makes (Inside Whatever) s (decided is_one own s)
  decided_makes is_one own s w = inside_makes (λ s0. emit (tree.set own (tree.number (if is_one then 1 else 0) int_type)) s0) s w (λ s0 w0 l0. set_makes own (tree.number (if is_one then 1 else 0) int_type) s0 w0)

  fork_makes : (at : Place) (test : PureTree) (left right : List PieceTree) (own : VarId) (k : CType) (s : State) → World s → KeepTables s.arrays left → KeepTables s.arrays right → Makes Whatever s (fork_of c at test left right own k s)
  fork_makes at test left right own k s w x y = then_makes (emit_makes (tree.fork test (piece_row left) (piece_row right) (point_in c point.End at)) s w (λ more b. (x more b, y more b))) (λ u s1 w1 l v. gives_makes w1 tt)

  forked_makes : (op : Binary) (k : CType) (at : Place) (test : PureTree) (right : State → Part PureTree) (s : State) → World s → MakesLater Whatever s right → Makes Whatever s (forked c op k at test right s)
  forked_makes op k at test right s w h =
      then_makes (fresh_makes k s w)
      (λ own s1 w1 l1 there. then_makes (arm_makes at right to_bool own s1 w1 (λ s2 w2 l2. h s2 w2 (later_both l1 l2)))
      (λ reached s2 w2 l2 r. then_makes (decided_makes (is_or op) own s2 w2)
      (λ other s3 w3 l3 o.
      (let r3 = pieces_later l3 reached.pieces r.0 in
      if_makes (is_or op) (fork_of c at test other.pieces reached.pieces own k s3) (fork_of c at test reached.pieces other.pieces own k s3) s3 (fork_makes at test other.pieces reached.pieces own k s3 w3 o.0 r3)
      (fork_makes at test reached.pieces other.pieces own k s3 w3 r3 o.0)))))

  pub operated_makes : (op : Binary) (k : CType) (at : Place) (x : PureTree) (later : Effects) (right : State → Part PureTree) (s : State) → World s → MakesLater Whatever s right → Makes Whatever s (operated c op k at x later right s)
  operated_makes op k at x later right s w h =
      then_makes (save_makes c.file_variables x later s w)
      (λ left s1 w1 l v. if_makes (is_logical op && acts later) (forked c op k at left right s1) (then_ (right s1) (λ y s2. gives (tree.binary op left y k at) s2)) s1 (forked_makes op k at left right s1 w1 (λ s2 w2 l2. h s2 w2 (later_both l l2)))
      (then_makes (h s1 w1 l) (λ y s2 w2 l2 u. gives_makes w2 tt)))

  chosen_fork : (k : CType) (at colon : Place) (t : PureTree) (left right : State → Part PureTree) (s : State) → World s → MakesLater Whatever s left → MakesLater Whatever s right
      → Makes Whatever s (then_ (fresh k s) (λ own s2. then_ (arm c at left same own s2) (λ first s3. then_ (arm c colon right same own s3) (λ second s4. fork_of c at t first.pieces second.pieces own k s4))))
  chosen_fork k at colon t left right s w p q =
      then_makes (fresh_makes k s w)
      (λ own s1 w1 l1 there. then_makes (arm_makes at left same own s1 w1 (λ s2 w2 l2. p s2 w2 (later_both l1 l2)))
      (λ first s2 w2 l2 a. then_makes (arm_makes colon right same own s2 w2 (λ s3 w3 l3. q s3 w3 (later_both l1 (later_both l2 l3))))
      (λ second s3 w3 l3 b. fork_makes at t first.pieces second.pieces own k s3 w3 (pieces_later l3 first.pieces a.0) b.0)))

  pub chosen_makes : (k : CType) (at colon : Place) (test : PureTree) (later : Effects) (left right : State → Part PureTree) (s : State) → World s → MakesLater Whatever s left → MakesLater Whatever s right → Makes Whatever s (chosen c k at colon test later left right s)
  unfolding chosen
  chosen_makes k at colon test later left right s w p q =
      if_makes (acts later)
      (then_ (save c.file_variables test later s) (λ t1 s1. then_ (fresh k s1) (λ own s2. then_ (arm c at left same own s2) (λ first s3. then_ (arm c colon right same own s3) (λ second s4. fork_of c at t1 first.pieces second.pieces own k s4)))))
      (then_ (left s) (λ x s1. then_ (right s1) (λ y s2. gives (tree.choice test x y k) s2))) s
      (then_makes (save_makes c.file_variables test later s w) (λ t1 s1 w1 l v. chosen_fork k at colon t1 left right s1 w1 (λ s2 w2 l2. p s2 w2 (later_both l l2)) (λ s2 w2 l2. q s2 w2 (later_both l l2))))
      (then_makes (p s w (later_same s)) (λ x s1 w1 l v. then_makes (q s1 w1 l) (λ y s2 w2 l2 u. gives_makes w2 tt)))

-- ---- values that are not used

pub discarded_makes : (b : Bool) (x : PureTree) (s : State) → World s → Makes Whatever s (discarded b x s)
discarded_makes b x s w = if_makes b (gives tt s) (set_unused x s) s (gives_makes w tt) (then_makes (own_makes (kind x) x s w) (λ own s1 w1 l v. gives_makes w1 tt))

pub comma_left_makes : (n : ℕ) (left : CoreTree) (x : PureTree) (later : Effects) (s : State) → World s → Makes Whatever s (comma_left n left x later s)
comma_left_makes n left x later s w =
    if_makes (is_call left) (gives tt s) (then_ (save n x later s) (λ y s1. discarded (may_be_unused left) y s1)) s (gives_makes w tt)
    (then_makes (save_makes n x later s w) (λ y s1 w1 l v. discarded_makes (may_be_unused left) y s1 w1))

-- ---- changes

module _ (constant : Cell → Bool) (o : Objects) (c : Call) (Scene : State → Type 0) (N : Names constant o c Scene) where
  -- a target with subscripts is an array
  abbrev pub TargetAs : Cell → PureTrees → CType → Type 0
  TargetAs cell tree.none k = Unit {0}
  TargetAs cell (tree.more first rest) k = o.Array cell k

  -- a change of an object that is not const
  pub record IsChange (t : Change) : Type 0 where
    pub target : TargetAs t.cell t.subscripts t.kind
    pub free : constant t.cell ≡ false

  store_at_makes : (cell : Cell) (k : CType) (at : Place) (given : PureTrees) (v : PureTree) (s : State) → World s → Scene s → TargetAs cell given k → constant cell ≡ false → Makes Whatever s (store_at c cell at given v s)
  store_at_makes cell k at tree.none v s w scene t free = set_makes (variable c cell) v s w
  store_at_makes cell k at (tree.more first rest) v s w scene t free =
      emit_makes (tree.put (array c cell s) (tree.more first rest) v at) s w (λ more b. put_keeps s.arrays more b (array c cell s) (N.arrays s w scene cell k t free))

  pub store_makes : (t : Change) (v : PureTree) (s : State) → World s → Scene s → IsChange t → Makes Whatever s (store c t v s)
  store_makes t v s w scene h = store_at_makes t.cell t.kind t.target_at t.subscripts v s w scene h.target h.free

  -- a value is set into a variable of its own, and then one into the target
  both_set : (t : Change) (x : PureTree) (y : VarId → PureTree) (s : State) → World s → Scene s → IsChange t
      → Makes Whatever s (then_ (fresh t.kind s) (λ own s1. then_ (emit (tree.set own x) s1) (λ set s2. then_ (store c t (y own) s2) (λ stored s3. gives (tree.variable own t.kind) s3))))
  both_set t x y s w scene h =
      then_makes (fresh_makes t.kind s w)
      (λ own s1 w1 l1 there. then_makes (set_makes own x s1 w1) (λ u s2 w2 l2 a. then_makes (store_makes t (y own) s2 w2 (N.stays s s2 scene (later_both l1 l2)) h) (λ q s3 w3 l3 b. gives_makes w3 tt)))

  pub assigned_makes : (t : Change) (by : PureTree) (s : State) → World s → Scene s → IsChange t → Makes Whatever s (assigned c t by s)
  assigned_makes t by s w scene h = both_set t (new_value t (target_read c t s) by) (λ own. tree.variable own t.kind) s w scene h

  behind_makes : (t : Change) (s : State) → World s → Scene s → IsChange t → Makes Whatever s (bumped_behind c t s)
  behind_makes t s w scene h = both_set t (target_read c t s) (λ own. new_value t (tree.variable own t.kind) one) s w scene h

  pub bumped_makes : (t : Change) (post : Bool) (s : State) → World s → Scene s → IsChange t → Makes Whatever s (bumped c t post s)
  bumped_makes t post s w scene h = if_makes post (bumped_behind c t s) (assigned c t one s) s (behind_makes t s w scene h) (assigned_makes t one s w scene h)
