-- Lowered trees name what is there.
use Rattle.std.proofs.Common.{◌≡◌, ◌<◌, ℕ, ◌+◌, Bool, true, false, refl, List, [], ◌∷◌, ◌++◌, length, Option, Some, None, if◌then◌else◌}
use Rattle.std.specs.Prelude.{◌==◌, nat_lt, is_some}
use Rattle.std.proofs.lemmas.Bool.{ltb-true}
use Rattle.hls_base.specs.declared.place.Place.{Place}
use Rattle.hls_base.specs.declared.point.Point.{Point}
use Rattle.hls_base.specs.declared.number.ArrayId.{ArrayId}
use Rattle.hls_base.specs.declared.number.VarId.{VarId}
use Rattle.c_token.specs.declared.ctype.CType.{CType}
use Rattle.c_value.specs.Values.{width, promoted}
use Rattle.pieces.specs.declared.piece.Label.{Label}
use Rattle.pieces.specs.Trees as tree
use Rattle.pieces.specs.Trees.{PureTree, PureTrees, PieceTree, PieceTrees}
use Rattle.pieces.specs.Kind.{kind}
use Rattle.pieces.specs.Weight.{weight}
use Rattle.ir_core.specs.declared.body.OpKind.TheVariants as o
use Rattle.ir_core.specs.declared.body.Operand.{Operand}
use Rattle.ir_core.specs.declared.body.Out.{Out}
use Rattle.ir_core.specs.Bodies.{OpTree}
use Rattle.ir_core.specs.Trees.{ExitTree, break_, continue_, leave, BlockTree, SequenceTree, sequence, PartTrees, no_part, more_parts, ShapeTree, more_arms}
use Rattle.passes.specs.Lowering.Operations.{added, constant, plain, flagged, assigned, balanced}
use Rattle.passes.specs.Lowering.Outs.{operand_eq, held, without, own_out, with_out}
use Rattle.passes.specs.Lowering.Shapes.{is_eligible, first_point, or_at, point_of}
use Rattle.passes.specs.Lowering.Expressions.{emitted, emitted_all}
use Rattle.passes.specs.Lowering.Blocks as lower
use Rattle.passes.specs.Lowering.Blocks.{Scope, variable_type, element_type, begun, is_live, with_exit, with_ops, value_as, set, put, condition, ends_by_test, all_set, set_before, forking, ends_by_fork, case_or, cases, ends_by_cases}
use Rattle.passes.specs.Lowering.Copies.{Fixed, Copied, needs_copy, own_operand, with_own, copied_out, copied_outs, copied_block, copied_parts, fixed_in, fixed_behind, fixed_behind_shape, parts_set}
use Rattle.passes.specs.Lowering.{Rest, last, followed, parts_of, land_of, side_from, with_copies, own_step, stepped, is_named, lowered, lowered_piece, before_arm, arms}
use Rattle.flat_programs.specs.Machine.States.{VariablesThere}
use Rattle.flat_programs.specs.There.{BodyThere, SequenceThere, PartsThere, ShapeThere, SideThere, ArmsThere}
use Rattle.pass_runs.specs.ConvertRuns.LoweredConversions.Suiting.{PureSuits, PieceSuits, PiecesSuit}
use Rattle.valid_trees.specs.WholeTrees.{LoweredIsThere}
use Rattle.valid_trees.proofs.WholeTrees.Expressions.{There, more, tested_there, assigned_there, balanced_there, array_there, emitted_there, each_there}

-- ---- outs

without_there : (n : ℕ) (outs : List Out) (v : VarId) → VariablesThere outs n → VariablesThere (without outs v) n
without_there n [] v h = tt
without_there n (x ∷ xs) v h = either (x.variable.0 == v.0) (without_there n xs v h.1) where
  either : (c : Bool) → VariablesThere (without xs v) n → VariablesThere (if c then without xs v else x ∷ without xs v) n
  either true q = q
  either false q = (h.0, q)

append_there : (n : ℕ) (xs ys : List Out) → VariablesThere xs n → VariablesThere ys n → VariablesThere (xs ++ ys) n
append_there n [] ys h k = k
append_there n (x ∷ xs) ys h k = (h.0, append_there n xs ys h.1 k)

own_there : (n : ℕ) (v : VarId) (x : Operand) → v.0 < n → VariablesThere (own_out v x) n
own_there n v x h = either (operand_eq x (held [] v)) where
  either : (c : Bool) → VariablesThere (if c then [] else record { variable = v; value = x } ∷ []) n
  either true = tt
  either false = (h, tt)

with_there : (n : ℕ) (outs : List Out) (v : VarId) (x : Operand) → VariablesThere outs n → v.0 < n → VariablesThere (with_out outs v x) n
with_there n outs v x h k = either (operand_eq (held outs v) x) where
  either : (c : Bool) → VariablesThere (if c then outs else without outs v ++ own_out v x) n
  either true = h
  either false = append_there n (without outs v) (own_out v x) (without_there n outs v h) (own_there n v x k)

module _ (scope : Scope) (dims : List (List ℕ)) (same : length dims ≡ length scope.arrays) where
  abbrev count : ℕ
  count = length scope.variables

  abbrev Ops : List OpTree → Type 0
  Ops = There count dims

  abbrev Block : BlockTree → Type 0
  Block b = BodyThere count dims b.ops b.outs

  -- ---- blocks

  set_there : (v : VarId) (x : PureTree) (b : BlockTree) → Block b → PureSuits scope x → Block (set scope v x b)
  set_there v x b h z = (
    either (nat_lt v.0 count) refl (value_as b x (variable_type scope v)).operand,
    assigned_there count dims (emitted b.outs x b.ops []).ops (emitted b.outs x b.ops []).given (variable_type scope v) (emitted_there count dims scope same b.outs x b.ops [] z h.1),
  ) where
    either : (c : Bool) → nat_lt v.0 (length scope.variables) ≡ c → (y : Operand) → VariablesThere (if c then with_out b.outs v y else b.outs) (length scope.variables)
    either true e y = with_there (length scope.variables) b.outs v y h.0 (ltb-true v.0 (length scope.variables) e)
    either false e y = h.0

  put_there : (a : ArrayId) (subs : PureTrees) (x : PureTree) (at : Place) (b : BlockTree) → Block b → PieceSuits scope (tree.put a subs x at) → Block (put scope a subs x at b)
  put_there a subs x at b h z =
      let k = element_type scope a in
      let s = emitted_all b.outs subs b.ops [] in
      let fs = each_there count dims scope same b.outs subs b.ops [] z.1 h.1 in
      let e = emitted b.outs x s.ops s.guards in
      let fe = emitted_there count dims scope same b.outs x s.ops s.guards z.2 fs in
      let y = assigned e.ops e.given k in
      (h.0, more count dims y.ops (flagged o.Store false (width k) (s.operands ++ y.operand ∷ []) (Some a) at None) (assigned_there count dims e.ops e.given k fe) (array_there count dims scope same a z.0.0 z.0.1))

  exit_there : (e : ExitTree) (b : BlockTree) → Block b → Block (with_exit e b)
  exit_there e b h = either (is_live b) where
    either : (c : Bool) → Block (if c then record b { exit = e } else b)
    either true = h
    either false = h

  test_ops : (x : PureTree) (b : BlockTree) → Block b → PureSuits scope x → Ops (condition x b).ops
  test_ops x b h z = tested_there count dims (emitted b.outs x b.ops []).ops (emitted b.outs x b.ops []).given (emitted_there count dims scope same b.outs x b.ops [] z h.1)

  test_there : (x : PureTree) (b : BlockTree) → Block b → PureSuits scope x → Block (ends_by_test x b)
  test_there x b h z = either (is_live b) where
    either : (c : Bool) → Block (if c then lower.branching b (condition x b) else b)
    either true = (h.0, test_ops x b h z)
    either false = h

  all_there : (parts : PieceTrees) (b : BlockTree) → PiecesSuit scope parts → Block b → Block (all_set scope parts b)
  all_there tree.no_pieces b z g = g
  all_there (tree.then_ (tree.set v x) rest) b z g = all_there rest (set scope v x b) z.1 (set_there v x b g z.0)
  all_there (tree.then_ (tree.put a s x at) rest) b z g = all_there rest b z.1 g
  all_there (tree.then_ (tree.fork t l r e) rest) b z g = all_there rest b z.1 g
  all_there (tree.then_ (tree.repeat_ i p f t y s e) rest) b z g = all_there rest b z.1 g
  all_there (tree.then_ (tree.pick t l y e) rest) b z g = all_there rest b z.1 g
  all_there (tree.then_ tree.break_ rest) b z g = all_there rest b z.1 g
  all_there (tree.then_ tree.next_ rest) b z g = all_there rest b z.1 g
  all_there (tree.then_ (tree.leave c) rest) b z g = all_there rest b z.1 g
  all_there (tree.then_ (tree.land c e) rest) b z g = all_there rest b z.1 g
  all_there (tree.then_ (tree.mark p) rest) b z g = all_there rest b z.1 g

  before_there : (parts : PieceTrees) (b : BlockTree) → PiecesSuit scope parts → Block b → Block (set_before scope parts b)
  before_there parts b z g = either (is_some (first_point parts)) where
    either : (c : Bool) → Block (if c then b else all_set scope parts b)
    either true = g
    either false = all_there parts b z g

  fork_there : (x : PureTree) (left right : PieceTrees) (b : BlockTree) → Block b → PureSuits scope x → PiecesSuit scope left → PiecesSuit scope right → Block (ends_by_fork scope x left right b)
  fork_there x left right b h z zl zr = either (is_live b) where
    either : (c : Bool) → Block (if c then forking scope left right b (condition x b) else b)
    either true = let y = condition x b in before_there right (set_before scope left (with_ops y.ops b)) zr (before_there left (with_ops y.ops b) zl (h.0, test_ops x b h z))
    either false = h

  cases_ops : (k : CType) (x : Operand) (labels : List Label) (ops : List OpTree) → Ops ops → Ops (cases k x labels ops).ops
  cases_ops k x [] ops h = h
  cases_ops k x (l ∷ ls) ops h = at l.value (λ ops1 h1. cases_ops k x ls ops1 h1) where
    at : (word : Option ℕ) → ((ops1 : List OpTree) → Ops ops1 → Ops (cases k x ls ops1).ops) → Ops (case_or k x ops word (λ ops1. cases k x ls ops1)).ops
    at None ih = ih ops h
    at (Some word) ih = ih (ops ++ plain o.Eq (width k) (x ∷ constant word ∷ []) ∷ []) (more count dims ops (plain o.Eq (width k) (x ∷ constant word ∷ [])) h tt)

  cases_there : (x : PureTree) (labels : List Label) (b : BlockTree) → Block b → PureSuits scope x → Block (ends_by_cases x labels b)
  cases_there x labels b h z = either (is_live b) where
    either : (c : Bool) → Block (if c then lower.switched (promoted (kind x)) labels b (lower.promoted_given (promoted (kind x)) (emitted b.outs x b.ops [])) else b)
    either true =
        let e = emitted b.outs x b.ops [] in
        let y = balanced e.ops e.given (promoted (kind x)) in
        (h.0, cases_ops (promoted (kind x)) y.operand labels y.ops (balanced_there count dims e.ops e.given (promoted (kind x)) (emitted_there count dims scope same b.outs x b.ops [] z h.1)))
    either false = h

  -- ---- copies

  own_ops : (fixed : Fixed) (s : Copied) (x : Out) → Ops s.ops → Ops (own_operand scope fixed s x).ops
  own_ops fixed s x h = either (needs_copy fixed s.taken x.value x.value.value) where
    either : (c : Bool) → Ops (if c then added s.ops (plain o.Copy (width (variable_type scope x.variable)) (x.value ∷ [])) else record { ops = s.ops; operand = x.value }).ops
    either true = more count dims s.ops (plain o.Copy (width (variable_type scope x.variable)) (x.value ∷ [])) h tt
    either false = h

  copy_there : (later : PartTrees) (fixed : Fixed) (s : Copied) (x : Out) → VariablesThere s.outs count → Ops s.ops → x.variable.0 < count → VariablesThere (copied_out scope later fixed s x).outs count × Ops (copied_out scope later fixed s x).ops
  copy_there later fixed s x h k e = either (parts_set later x.variable) where
    either : (c : Bool) → VariablesThere (if c then record s { outs = s.outs ++ x ∷ [] } else with_own x.variable s (own_operand scope fixed s x)).outs count
        × Ops (if c then record s { outs = s.outs ++ x ∷ [] } else with_own x.variable s (own_operand scope fixed s x)).ops
    either true = (append_there count s.outs (x ∷ []) h (e, tt), k)
    either false = (append_there count s.outs (record { variable = x.variable; value = (own_operand scope fixed s x).operand } ∷ []) h (e, tt), own_ops fixed s x k)

  copies_in : (later : PartTrees) (fixed : Fixed) (s : Copied) (xs : List Out) → VariablesThere s.outs count → Ops s.ops → VariablesThere xs count → VariablesThere (copied_outs scope later fixed s xs).outs count × Ops (copied_outs scope later fixed s xs).ops
  copies_in later fixed s [] h k e = (h, k)
  copies_in later fixed s (x ∷ xs) h k e = let r = copy_there later fixed s x h k e.0 in copies_in later fixed (copied_out scope later fixed s x) xs r.0 r.1 e.1

  block_there : (later : PartTrees) (variables : VarId → Bool) (b : BlockTree) → Block b → Block (copied_block scope later variables b)
  block_there later variables b h = copies_in later (fixed_in variables b) (record { ops = b.ops; outs = []; taken = [] }) b.outs tt h.1 h.0

  parts_there : (variables : VarId → Bool) (ps : PartTrees) → PartsThere count dims ps → PartsThere count dims (copied_parts scope variables ps)
  parts_there variables no_part h = tt
  parts_there variables (more_parts shape after rest) h =
      (h.0, block_there rest (fixed_behind_shape shape variables) after h.1, parts_there (fixed_behind rest (fixed_behind_shape shape variables) after) rest h.2)

  copies_there : (c : Bool) (s : SequenceTree) → SequenceThere count dims s → SequenceThere count dims (with_copies c scope s)
  copies_there false s h = h
  copies_there true (sequence first rest) h = (block_there rest (λ v. false) first h.0, parts_there (fixed_behind rest (λ v. false) first) rest h.1)

  -- ---- sequences

  abbrev In : SequenceTree → Type 0
  In = SequenceThere count dims

  -- what becomes of an open block
  abbrev RestThere : Rest → Type 0
  RestThere rest = (b : BlockTree) → Block b → In (rest b)

  last_there : RestThere last
  last_there b h = (h, tt)

  followed_there : (b : BlockTree) (shape : ShapeTree) (s : SequenceTree) → Block b → ShapeThere count dims shape → In s → In (followed b shape s)
  followed_there b shape (sequence first rest) h g k = (h, (g, k.0, k.1))

  side_there : (blocks : Rest) (point : Option Point) → RestThere blocks → SideThere count dims (side_from blocks point)
  side_there blocks None h = tt
  side_there blocks (Some point) h = h (begun point) (tt, tt)

  stepped_there : (step : Rest) (point : Option Point) → RestThere step → RestThere (stepped step point)
  stepped_there step None h b g = h b g
  stepped_there step (Some point) h b g = last_there b g

  behind_there : (s : SequenceTree) → In s → PartsThere count dims (parts_of s)
  behind_there (sequence first rest) h = h.1

  if_there : (c : Bool) (x y : BlockTree) → Block x → Block y → Block (if c then x else y)
  if_there true x y h g = h
  if_there false x y h g = g

  mutual
    pieces_there : (parts : PieceTrees) (rest : Rest) (b : BlockTree) → PiecesSuit scope parts → RestThere rest → Block b → In (lowered scope parts rest b)
    pieces_there tree.no_pieces rest b z r h = r b h
    pieces_there (tree.then_ piece parts) rest b z r h = piece_there piece (λ b1. lowered scope parts rest b1) b z.0 (λ b1 h1. pieces_there parts rest b1 z.1 r h1) h

    piece_there : (piece : PieceTree) (rest : Rest) (b : BlockTree) → PieceSuits scope piece → RestThere rest → Block b → In (lowered_piece scope piece rest b)
    piece_there (tree.set v x) rest b z r h = r (if is_live b then set scope v x b else b) (if_there (is_live b) (set scope v x b) b (set_there v x b h z) h)
    piece_there (tree.put a s x at) rest b z r h = r (if is_live b then put scope a s x at b else b) (if_there (is_live b) (put scope a s x at b) b (put_there a s x at b h z) h)
    piece_there (tree.fork test left right end) rest b z r h =
        followed_there _ _ (rest (begun end)) (fork_there test left right b h z.0 z.1 z.2) (
          side_there (λ b1. lowered scope left last b1) (first_point left) (λ b1 h1. pieces_there left last b1 z.1 last_there h1),
          side_there (λ b1. lowered scope right last b1) (first_point right) (λ b1 h1. pieces_there right last b1 z.2 last_there h1),
        )
        (r (begun end) (tt, tt))
    piece_there (tree.repeat_ id post before test body step end) rest b z r h =
        let own = own_step body (first_point step) in
        let steps : RestThere (λ b1. lowered scope step last b1) = λ b1 h1. pieces_there step last b1 z.3 last_there h1 in
        let around : Rest = λ b1. stepped (λ b2. lowered scope step last b2) own b1 in
        let at = or_at end (first_point body) in
        followed_there _ _ (rest (begun end)) h (
          pieces_there before (λ b1. last (ends_by_test test b1)) (begun (or_at end (first_point before))) z.0 (λ b1 h1. last_there (ends_by_test test b1) (test_there test b1 h1 z.1)) (tt, tt),
          copies_there (is_eligible post before (weight test) body step) (lowered scope body around (begun at)) (pieces_there body around (begun at) z.2 (stepped_there (λ b2. lowered scope step last b2) own steps) (tt, tt)),
          side_there (λ b1. lowered scope step last b1) own steps,
        )
        (r (begun end) (tt, tt))
    piece_there (tree.pick test labels body end) rest b z r h =
        followed_there _ _ (rest (begun end)) (cases_there test labels b h z.0) (
          behind_there (before_arm scope labels 0 body (record (begun end) { exit = break_ })) (arm_there labels 0 body (record (begun end) { exit = break_ }) z.1 (tt, tt)),
          arms_there labels 0 body end z.1,
        )
        (r (begun end) (tt, tt))
    piece_there tree.break_ rest b z r h = r (with_exit break_ b) (exit_there break_ b h)
    piece_there tree.next_ rest b z r h = r (with_exit continue_ b) (exit_there continue_ b h)
    piece_there (tree.leave call) rest b z r h = r (with_exit (leave (land_of call)) b) (exit_there (leave (land_of call)) b h)
    piece_there (tree.land call end) rest b z r h = followed_there _ _ (rest (begun end)) h tt (r (begun end) (tt, tt))
    piece_there (tree.mark point) rest b z r h = r b h

    arm_there : (labels : List Label) (i : ℕ) (parts : PieceTrees) (b : BlockTree) → PiecesSuit scope parts → Block b → In (before_arm scope labels i parts b)
    arm_there labels i tree.no_pieces b z h = last_there b h
    arm_there labels i (tree.then_ piece parts) b z h =
        either (is_named labels i) (piece_there piece (λ b1. before_arm scope labels (i + 1) parts b1) b z.0 (λ b1 h1. arm_there labels (i + 1) parts b1 z.1 h1) h)
      where
        either : (c : Bool) → In (lowered_piece scope piece (λ b1. before_arm scope labels (i + 1) parts b1) b) → In (if c then last b else lowered_piece scope piece (λ b1. before_arm scope labels (i + 1) parts b1) b)
        either true g = last_there b h
        either false g = g

    arms_there : (labels : List Label) (i : ℕ) (parts : PieceTrees) (end : Point) → PiecesSuit scope parts → ArmsThere count dims (arms scope labels i parts end)
    arms_there labels i tree.no_pieces end z = tt
    arms_there labels i (tree.then_ piece parts) end z =
        either (is_named labels i)
        (piece_there piece (λ b1. before_arm scope labels (i + 1) parts b1) (begun (or_at end (point_of piece))) z.0 (λ b1 h1. arm_there labels (i + 1) parts b1 z.1 h1) (tt, tt))
        (arms_there labels (i + 1) parts end z.1)
      where
        first : SequenceTree
        first = lowered_piece scope piece (λ b1. before_arm scope labels (i + 1) parts b1) (begun (or_at end (point_of piece)))

        either : (c : Bool) → In first → ArmsThere count dims (arms scope labels (i + 1) parts end) → ArmsThere count dims (if c then more_arms first (arms scope labels (i + 1) parts end) else arms scope labels (i + 1) parts end)
        either true g k = (g, k)
        either false g k = k

pub there : LoweredIsThere
there scope dims parts point same z = pieces_there scope dims same parts last (begun point) z (last_there scope dims same) (tt, tt)
