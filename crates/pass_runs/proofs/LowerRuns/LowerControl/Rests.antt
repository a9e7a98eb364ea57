-- What stands behind the block that is open.
use Rattle.std.proofs.Common.{◌≡◌, ◌∙◌, ℕ, ◌+◌, Bool, true, false, refl, ap, sym, subst, List, [], if◌then◌else◌}
use Rattle.std.specs.Prelude.{is_some}
use Rattle.ir_core.specs.declared.tree.LandId.{LandId}
use Rattle.pieces.specs.declared.piece.Label.{Label}
use Rattle.pieces.specs.Trees as tree
use Rattle.pieces.specs.Trees.{PureTree, PieceTree, PieceTrees}
use Rattle.c_value.specs.Values.{promoted}
use Rattle.pieces.specs.Kind.{kind}
use Rattle.passes.specs.Lowering.Expressions.{emitted}
use Rattle.ir_core.specs.Bodies.{Shapes, Words}
use Rattle.ir_core.specs.Trees.{ExitTree, BlockTree, SequenceTree, sequence, PartTrees, more_parts, ShapeTree, fork, loop, switch, land}
use Rattle.ir_core.specs.TreeRuns.{left, parts_run}
use Rattle.passes.specs.Lowering.Shapes.{first_point}
use Rattle.passes.specs.Lowering.Blocks.{Scope, begun, is_live, with_exit, set, put, all_set, set_before, forking, condition, with_ops, branching, switched, promoted_given, ends_by_test, ends_by_fork, ends_by_cases}
use Rattle.passes.specs.Lowering.{Rest, last, followed, is_named, lowered, lowered_piece, before_arm}

abbrev pub first_of : SequenceTree → BlockTree
first_of (sequence first rest) = first

abbrev pub rest_of : SequenceTree → PartTrees
rest_of (sequence first rest) = rest

-- a return in the pieces behind passes over a piece that is no end of a call
abbrev pub IsNoEnd : PieceTree → Type 0
IsNoEnd (tree.land call end) = ⊥
IsNoEnd piece = Unit {0}

module _ (shapes : Shapes) where
  -- It begins with the block, to which nothing is added where control does not come to its end; and what comes of a return into a later part does not hang on the block.
  pub record IsRest (rest : Rest) : Type 0 where
    pub point : (b : BlockTree) → (first_of (rest b)).point ≡ b.point
    pub dead : (b : BlockTree) → is_live b ≡ false → first_of (rest b) ≡ b
    pub away : (b c : BlockTree) (number : LandId) (t : Words) (n : ℕ) → parts_run shapes (rest_of (rest b)) (left number) t n ≡ parts_run shapes (rest_of (rest c)) (left number) t n

  pub last_rest : IsRest last
  last_rest = record { point = λ b. refl; dead = λ b e. refl; away = λ b c number t n. refl }

  -- the block is changed before
  pub record IsStep (step : BlockTree → BlockTree) : Type 0 where
    pub point : (b : BlockTree) → (step b).point ≡ b.point
    pub dead : (b : BlockTree) → is_live b ≡ false → step b ≡ b

  pub step_rest : (step : BlockTree → BlockTree) (rest : Rest) → IsStep step → IsRest rest → IsRest (λ b. rest (step b))
  step_rest step rest h g = record {
    point = λ b. (g.point (step b) ∙ h.point b);
    dead = λ b e. (g.dead (step b) (subst (λ c. is_live c ≡ false) (sym (h.dead b e)) e) ∙ h.dead b e);
    away = λ b c. g.away (step b) (step c);
  }

  pub followed_first : (b : BlockTree) (shape : ShapeTree) (q : SequenceTree) → first_of (followed b shape q) ≡ b
  followed_first b shape (sequence first rest) = refl

  pub followed_rest : (b : BlockTree) (shape : ShapeTree) (q : SequenceTree) → rest_of (followed b shape q) ≡ more_parts shape (first_of q) (rest_of q)
  followed_rest b shape (sequence first rest) = refl

  -- a return leads behind the shape
  abbrev pub IsPassedOver : ShapeTree → Type 0
  IsPassedOver shape = (after : BlockTree) (rest : PartTrees) (number : LandId) (t : Words) (n : ℕ) → parts_run shapes (more_parts shape after rest) (left number) t n ≡ parts_run shapes rest (left number) t n

  pub over : (b : BlockTree) (shape : ShapeTree) (q : SequenceTree) → IsPassedOver shape → (number : LandId) (t : Words) (n : ℕ) → parts_run shapes (rest_of (followed b shape q)) (left number) t n ≡ parts_run shapes (rest_of q) (left number) t n
  over b shape q h number t n = ap (λ x. parts_run shapes x (left number) t n) (followed_rest b shape q) ∙ h (first_of q) (rest_of q) number t n

  shape_rest : (step : BlockTree → BlockTree) (shape : BlockTree → ShapeTree) (q : SequenceTree) → IsStep step → ((b : BlockTree) → IsPassedOver (shape b)) → IsRest (λ b. followed (step b) (shape b) q)
  shape_rest step shape q h passed = record {
    point = λ b. (ap (λ (x : BlockTree). x.point) (followed_first (step b) (shape b) q) ∙ h.point b);
    dead = λ b e. (followed_first (step b) (shape b) q ∙ h.dead b e);
    away = λ b c number t n. (over (step b) (shape b) q (passed b) number t n ∙ sym (over (step c) (shape c) q (passed c) number t n));
  }

  land_rest : (number : LandId) (q : SequenceTree) → IsRest (λ b. followed b (land number) q)
  land_rest number q = record {
    point = λ b. ap (λ (x : BlockTree). x.point) (followed_first b (land number) q);
    dead = λ b e. followed_first b (land number) q;
    away = λ b c other t n. (ap (λ x. parts_run shapes x (left other) t n) (followed_rest b (land number) q ∙ sym (followed_rest c (land number) q)));
  }

  -- ---- what is done to the block

  if_step : (f : BlockTree → BlockTree) → ((b : BlockTree) → (f b).point ≡ b.point) → IsStep (λ b. if is_live b then f b else b)
  if_step f h = record {
    point = λ b. at b (is_live b);
    dead = λ b e. ap (λ c. if c then f b else b) e;
  } where
    at : (b : BlockTree) (c : Bool) → (if c then f b else b).point ≡ b.point
    at b true = h b
    at b false = refl

  pub no_step : IsStep (λ b. b)
  no_step = record { point = λ b. refl; dead = λ b e. refl }

  pub set_step : (scope : Scope) (variable : _) (value : PureTree) → IsStep (λ b. if is_live b then set scope variable value b else b)
  set_step scope variable value = if_step (λ b. set scope variable value b) (λ b. refl)

  pub put_step : (scope : Scope) (array : _) (subscripts : _) (value : PureTree) (at : _) → IsStep (λ b. if is_live b then put scope array subscripts value at b else b)
  put_step scope array subscripts value at = if_step (λ b. put scope array subscripts value at b) (λ b. refl)

  pub exit_step : (exit : ExitTree) → IsStep (λ b. with_exit exit b)
  exit_step exit = if_step (λ b. record b { exit = exit }) (λ b. refl)

  pub test_step : (test : PureTree) → IsStep (λ b. ends_by_test test b)
  test_step test = if_step (λ b. branching b (condition test b)) (λ b. refl)

  all_point : (scope : Scope) (pieces : PieceTrees) (b : BlockTree) → (all_set scope pieces b).point ≡ b.point
  all_point scope tree.no_pieces b = refl
  all_point scope (tree.then_ (tree.set variable value) rest) b = all_point scope rest (set scope variable value b)
  all_point scope (tree.then_ (tree.put array subscripts value at) rest) b = all_point scope rest b
  all_point scope (tree.then_ (tree.fork test yes_ no_ end) rest) b = all_point scope rest b
  all_point scope (tree.then_ (tree.repeat_ id post before test body step end) rest) b = all_point scope rest b
  all_point scope (tree.then_ (tree.pick test labels body end) rest) b = all_point scope rest b
  all_point scope (tree.then_ tree.break_ rest) b = all_point scope rest b
  all_point scope (tree.then_ tree.next_ rest) b = all_point scope rest b
  all_point scope (tree.then_ (tree.leave call) rest) b = all_point scope rest b
  all_point scope (tree.then_ (tree.land call end) rest) b = all_point scope rest b
  all_point scope (tree.then_ (tree.mark point) rest) b = all_point scope rest b

  set_before_point : (scope : Scope) (pieces : PieceTrees) (b : BlockTree) → (set_before scope pieces b).point ≡ b.point
  set_before_point scope pieces b = by (is_some (first_point pieces)) where
    by : (c : Bool) → (if c then b else all_set scope pieces b).point ≡ b.point
    by true = refl
    by false = all_point scope pieces b

  pub fork_step : (scope : Scope) (test : PureTree) (yes_ no_ : PieceTrees) → IsStep (λ b. ends_by_fork scope test yes_ no_ b)
  fork_step scope test yes_ no_ = if_step (λ b. forking scope yes_ no_ b (condition test b))
      (λ b. set_before_point scope no_ (set_before scope yes_ (with_ops (condition test b).ops b)) ∙ set_before_point scope yes_ (with_ops (condition test b).ops b))

  pub cases_step : (test : PureTree) (labels : List Label) → IsStep (λ b. ends_by_cases test labels b)
  cases_step test labels = if_step (λ b. switched (promoted (kind test)) labels b (promoted_given (promoted (kind test)) (emitted b.outs test b.ops []))) (λ b. refl)

  -- ---- what pieces leave behind them

  pub piece_rest : (scope : Scope) (piece : PieceTree) (rest : Rest) → IsRest rest → IsRest (λ b. lowered_piece scope piece rest b)
  piece_rest scope (tree.set variable value) rest h = step_rest (λ b. if is_live b then set scope variable value b else b) rest (set_step scope variable value) h
  piece_rest scope (tree.put array subscripts value at) rest h = step_rest (λ b. if is_live b then put scope array subscripts value at b else b) rest (put_step scope array subscripts value at) h
  piece_rest scope (tree.fork test yes_ no_ end) rest h = shape_rest (λ b. ends_by_fork scope test yes_ no_ b) (λ b. fork _ _ _) (rest (begun end)) (fork_step scope test yes_ no_) (λ b after more number t n. refl)
  piece_rest scope (tree.repeat_ id post before test body step end) rest h = shape_rest (λ b. b) (λ b. loop post _ _ _ _) (rest (begun end)) no_step (λ b after more number t n. refl)
  piece_rest scope (tree.pick test labels body end) rest h = shape_rest (λ b. ends_by_cases test labels b) (λ b. switch _ _ _ _) (rest (begun end)) (cases_step test labels) (λ b after more number t n. refl)
  piece_rest scope tree.break_ rest h = step_rest (λ b. with_exit _ b) rest (exit_step _) h
  piece_rest scope tree.next_ rest h = step_rest (λ b. with_exit _ b) rest (exit_step _) h
  piece_rest scope (tree.leave call) rest h = step_rest (λ b. with_exit _ b) rest (exit_step _) h
  piece_rest scope (tree.land call end) rest h = land_rest _ (rest (begun end))
  piece_rest scope (tree.mark point) rest h = h

  pub lowered_rest : (scope : Scope) (pieces : PieceTrees) (rest : Rest) → IsRest rest → IsRest (λ b. lowered scope pieces rest b)
  lowered_rest scope tree.no_pieces rest h = h
  lowered_rest scope (tree.then_ piece pieces) rest h = piece_rest scope piece (λ b. lowered scope pieces rest b) (lowered_rest scope pieces rest h)

  if_last : (c : Bool) (rest : Rest) → IsRest rest → IsRest (λ b. if c then last b else rest b)
  if_last true rest h = last_rest
  if_last false rest h = h

  pub arm_rest : (scope : Scope) (labels : List Label) (i : ℕ) (pieces : PieceTrees) → IsRest (λ b. before_arm scope labels i pieces b)
  arm_rest scope labels i tree.no_pieces = last_rest
  arm_rest scope labels i (tree.then_ piece pieces) = if_last (is_named labels i) (λ b. lowered_piece scope piece (λ b1. before_arm scope labels (i + 1) pieces b1) b)
      (piece_rest scope piece (λ b. before_arm scope labels (i + 1) pieces b) (arm_rest scope labels (i + 1) pieces))

  pub piece_away : (scope : Scope) (piece : PieceTree) (rest : Rest) → IsRest rest → IsNoEnd piece → (b c : BlockTree) (number : LandId) (t : Words) (n : ℕ)
      → parts_run shapes (rest_of (lowered_piece scope piece rest b)) (left number) t n ≡ parts_run shapes (rest_of (rest c)) (left number) t n
  piece_away scope (tree.set variable value) rest h no_end b c number t n = h.away (if is_live b then set scope variable value b else b) c number t n
  piece_away scope (tree.put array subscripts value at) rest h no_end b c number t n = h.away (if is_live b then put scope array subscripts value at b else b) c number t n
  piece_away scope (tree.fork test yes_ no_ end) rest h no_end b c number t n = over (ends_by_fork scope test yes_ no_ b) (fork _ _ _) (rest (begun end)) (λ after more number1 t1 n1. refl) number t n ∙ h.away (begun end) c number t n
  piece_away scope (tree.repeat_ id post before test body step end) rest h no_end b c number t n = over b (loop post _ _ _ _) (rest (begun end)) (λ after more number1 t1 n1. refl) number t n ∙ h.away (begun end) c number t n
  piece_away scope (tree.pick test labels body end) rest h no_end b c number t n = over (ends_by_cases test labels b) (switch _ _ _ _) (rest (begun end)) (λ after more number1 t1 n1. refl) number t n ∙ h.away (begun end) c number t n
  piece_away scope tree.break_ rest h no_end b c number t n = h.away (with_exit _ b) c number t n
  piece_away scope tree.next_ rest h no_end b c number t n = h.away (with_exit _ b) c number t n
  piece_away scope (tree.leave call) rest h no_end b c number t n = h.away (with_exit _ b) c number t n
  piece_away scope (tree.land call end) rest h no_end b c number t n = elim no_end [ ]
  piece_away scope (tree.mark point) rest h no_end b c number t n = h.away b c number t n
