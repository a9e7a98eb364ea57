-- Lowered trees: in each block operands come before their uses.
use Rattle.std.proofs.Common.{◌≤◌, ℕ, ◌+◌, Bool, true, false, refl, arith, List, [], ◌∷◌, ◌++◌, length, Option, Some, None, if◌then◌else◌}
use Rattle.hls_base.specs.declared.point.Point.{Point}
use Rattle.hls_base.specs.declared.number.VarId.{VarId}
use Rattle.c_value.specs.Values.{width}
use Rattle.pieces.specs.declared.piece.Label.{Label}
use Rattle.pieces.specs.Trees as tree
use Rattle.pieces.specs.Trees.{PieceTree, PieceTrees}
use Rattle.pieces.specs.Weight.{weight}
use Rattle.ir_core.specs.declared.body.OpKind.TheVariants as o
use Rattle.ir_core.specs.declared.body.Out.{Out}
use Rattle.ir_core.specs.Trees.{break_, continue_, leave, BlockTree, SequenceTree, sequence, PartTrees, no_part, more_parts, ShapeTree, more_arms}
use Rattle.passes.specs.Lowering.Operations.{added, plain}
use Rattle.passes.specs.Lowering.Shapes.{is_eligible, first_point, or_at, point_of}
use Rattle.passes.specs.Lowering.Blocks.{Scope, variable_type, begun, is_live, with_exit, set, put, ends_by_test}
use Rattle.passes.specs.Lowering.Copies.{Fixed, Copied, needs_copy, own_operand, with_own, copied_out, copied_outs, copied_block, copied_parts, copied, fixed_in, fixed_behind, fixed_behind_shape, parts_set}
use Rattle.passes.specs.Lowering.{Rest, last, followed, land_of, side_from, with_copies, own_step, stepped, is_named, lowered, lowered_piece, before_arm, arms}
use Rattle.passes.specs.NumberRuns.Ordered.{IsEarly, OpsAreOrdered, OutsAreEarly, BlockIsOrdered, IsOrdered, PartsAreOrdered, ShapeIsOrdered, SideIsOrdered, ArmsAreOrdered}
use Rattle.pass_runs.proofs.LowerRuns.LoweredTrees.Adding.{early_more, Fine, added_fine, nothing_fine}
use Rattle.pass_runs.proofs.LowerRuns.LoweredTrees.Expressions.{outs_more}
use Rattle.pass_runs.proofs.LowerRuns.LoweredTrees.Blocks.{append_early, exit_more, set_ordered, put_ordered, exit_ordered, test_ordered, fork_ordered, cases_ordered}

-- ---- copies

record CopiedFine (n : ℕ) (s : Copied) : Type 0 where
  ordered : OpsAreOrdered 0 s.ops
  more : n ≤ length s.ops
  outs : OutsAreEarly (length s.ops) s.outs

module _ (scope : Scope) where
  own_fine : (fixed : Fixed) (s : Copied) (x : Out) → OpsAreOrdered 0 s.ops → IsEarly (length s.ops) x.value.value → Fine (length s.ops) (own_operand scope fixed s x)
  own_fine fixed s x h g = either (needs_copy fixed s.taken x.value x.value.value) where
    either : (c : Bool) → Fine (length s.ops) (if c then added s.ops (plain o.Copy (width (variable_type scope x.variable)) (x.value ∷ [])) else record { ops = s.ops; operand = x.value })
    either true = added_fine s.ops (plain o.Copy (width (variable_type scope x.variable)) (x.value ∷ [])) h (record { args = (g, tt); guard = tt; flag = refl; operands = tt })
    either false = nothing_fine s.ops x.value h g

  out_fine : (later : PartTrees) (fixed : Fixed) (n : ℕ) (s : Copied) (x : Out) → CopiedFine n s → IsEarly n x.value.value → CopiedFine n (copied_out scope later fixed s x)
  out_fine later fixed n s x f h = either (parts_set later x.variable) where
    here : IsEarly (length s.ops) x.value.value
    here = early_more n (length s.ops) f.more x.value.value h

    either : (c : Bool) → CopiedFine n (if c then record s { outs = s.outs ++ x ∷ [] } else with_own x.variable s (own_operand scope fixed s x))
    either true = record { ordered = f.ordered; more = f.more; outs = append_early (length s.ops) s.outs (x ∷ []) f.outs (here, tt) }
    either false =
        let y = own_operand scope fixed s x in
        let g = own_fine fixed s x f.ordered here in
        let m1 = f.more in
        let m2 = g.more in
        record { ordered = g.ordered; more = omega (arith, m1, m2); outs = append_early (length y.ops) s.outs (record { variable = x.variable; value = y.operand } ∷ []) (outs_more (length s.ops) (length y.ops) g.more s.outs f.outs) (g.early, tt) }

  outs_fine : (later : PartTrees) (fixed : Fixed) (n : ℕ) (s : Copied) (xs : List Out) → CopiedFine n s → OutsAreEarly n xs → CopiedFine n (copied_outs scope later fixed s xs)
  outs_fine later fixed n s [] f h = f
  outs_fine later fixed n s (x ∷ xs) f h = outs_fine later fixed n (copied_out scope later fixed s x) xs (out_fine later fixed n s x f h.0) h.1

  block_ordered : (later : PartTrees) (variables : VarId → Bool) (b : BlockTree) → BlockIsOrdered b → BlockIsOrdered (copied_block scope later variables b)
  block_ordered later variables b h =
      let s = copied_outs scope later (fixed_in variables b) (record { ops = b.ops; outs = []; taken = [] }) b.outs in
      let f = outs_fine later (fixed_in variables b) (length b.ops) (record { ops = b.ops; outs = []; taken = [] }) b.outs (record { ordered = h.ops; more = omega arith; outs = tt }) h.outs in
      record { ops = f.ordered; outs = f.outs; exit = exit_more (length b.ops) (length s.ops) f.more b.exit h.exit }

  parts_ordered : (variables : VarId → Bool) (ps : PartTrees) → PartsAreOrdered ps → PartsAreOrdered (copied_parts scope variables ps)
  parts_ordered variables no_part h = tt
  parts_ordered variables (more_parts shape after rest) h = (
    h.0,
    block_ordered rest (fixed_behind_shape shape variables) after h.1,
    parts_ordered (fixed_behind rest (fixed_behind_shape shape variables) after) rest h.2,
  )

  copied_ordered : (s : SequenceTree) → IsOrdered s → IsOrdered (copied scope s)
  copied_ordered (sequence first rest) h = (block_ordered rest (λ v. false) first h.0, parts_ordered (fixed_behind rest (λ v. false) first) rest h.1)

  copies_ordered : (eligible : Bool) (s : SequenceTree) → IsOrdered s → IsOrdered (with_copies eligible scope s)
  copies_ordered true s h = copied_ordered s h
  copies_ordered false s h = h

-- ---- sequences

-- what becomes of an open block
abbrev pub RestIsOrdered : Rest → Type 0
RestIsOrdered rest = (b : BlockTree) → BlockIsOrdered b → IsOrdered (rest b)

begun_ordered : (point : Point) → BlockIsOrdered (begun point)
begun_ordered point = record { ops = tt; outs = tt; exit = tt }

last_ordered : RestIsOrdered last
last_ordered b h = (h, tt)

followed_ordered : (b : BlockTree) (shape : ShapeTree) (s : SequenceTree) → BlockIsOrdered b → ShapeIsOrdered shape → IsOrdered s → IsOrdered (followed b shape s)
followed_ordered b shape (sequence first rest) h g k = (h, (g, k.0, k.1))

side_ordered : (blocks : Rest) (point : Option Point) → RestIsOrdered blocks → SideIsOrdered (side_from blocks point)
side_ordered blocks None h = tt
side_ordered blocks (Some point) h = h (begun point) (begun_ordered point)

stepped_ordered : (step : Rest) (point : Option Point) → RestIsOrdered step → RestIsOrdered (stepped step point)
stepped_ordered step None h b g = h b g
stepped_ordered step (Some point) h b g = last_ordered b g

if_ordered : (c : Bool) (x y : BlockTree) → BlockIsOrdered x → BlockIsOrdered y → BlockIsOrdered (if c then x else y)
if_ordered true x y h g = h
if_ordered false x y h g = g

-- ---- pieces

module _ (scope : Scope) where
  mutual
    pub pieces_ordered : (pieces : PieceTrees) (rest : Rest) (b : BlockTree) → RestIsOrdered rest → BlockIsOrdered b → IsOrdered (lowered scope pieces rest b)
    pieces_ordered tree.no_pieces rest b r h = r b h
    pieces_ordered (tree.then_ piece pieces) rest b r h = piece_ordered piece (λ b1. lowered scope pieces rest b1) b (λ b1 h1. pieces_ordered pieces rest b1 r h1) h

    piece_ordered : (piece : PieceTree) (rest : Rest) (b : BlockTree) → RestIsOrdered rest → BlockIsOrdered b → IsOrdered (lowered_piece scope piece rest b)
    piece_ordered (tree.set v x) rest b r h = r (if is_live b then set scope v x b else b) (if_ordered (is_live b) (set scope v x b) b (set_ordered scope v x b h) h)
    piece_ordered (tree.put a s x at) rest b r h = r (if is_live b then put scope a s x at b else b) (if_ordered (is_live b) (put scope a s x at b) b (put_ordered scope a s x at b h) h)
    piece_ordered (tree.fork test left right end) rest b r h =
        followed_ordered _ _ (rest (begun end)) (fork_ordered scope test left right b h) (
          side_ordered (λ b1. lowered scope left last b1) (first_point left) (λ b1 h1. pieces_ordered left last b1 last_ordered h1),
          side_ordered (λ b1. lowered scope right last b1) (first_point right) (λ b1 h1. pieces_ordered right last b1 last_ordered h1),
        )
        (r (begun end) (begun_ordered end))
    piece_ordered (tree.repeat_ id post before test body step end) rest b r h =
        let own = own_step body (first_point step) in
        let steps : RestIsOrdered (λ b1. lowered scope step last b1) = λ b1 h1. pieces_ordered step last b1 last_ordered h1 in
        followed_ordered _ _ (rest (begun end)) h (
          pieces_ordered before (λ b1. last (ends_by_test test b1)) (begun (or_at end (first_point before))) (λ b1 h1. last_ordered (ends_by_test test b1) (test_ordered test b1 h1)) (begun_ordered (or_at end (first_point before))),
          copies_ordered scope (is_eligible post before (weight test) body step) (lowered scope body (λ b1. stepped (λ b2. lowered scope step last b2) own b1) (begun (or_at end (first_point body))))
              (pieces_ordered body (λ b1. stepped (λ b2. lowered scope step last b2) own b1) (begun (or_at end (first_point body))) (stepped_ordered (λ b2. lowered scope step last b2) own steps) (begun_ordered (or_at end (first_point body)))),
          side_ordered (λ b1. lowered scope step last b1) own steps,
        )
        (r (begun end) (begun_ordered end))
    piece_ordered (tree.pick test labels body end) rest b r h = followed_ordered _ _ (rest (begun end)) (cases_ordered test labels b h) (arms_ordered labels 0 body end) (r (begun end) (begun_ordered end))
    piece_ordered tree.break_ rest b r h = r (with_exit break_ b) (exit_ordered break_ b h tt)
    piece_ordered tree.next_ rest b r h = r (with_exit continue_ b) (exit_ordered continue_ b h tt)
    piece_ordered (tree.leave call) rest b r h = r (with_exit (leave (land_of call)) b) (exit_ordered (leave (land_of call)) b h tt)
    piece_ordered (tree.land call end) rest b r h = followed_ordered _ _ (rest (begun end)) h tt (r (begun end) (begun_ordered end))
    piece_ordered (tree.mark point) rest b r h = r b h

    before_ordered : (labels : List Label) (i : ℕ) (pieces : PieceTrees) (b : BlockTree) → BlockIsOrdered b → IsOrdered (before_arm scope labels i pieces b)
    before_ordered labels i tree.no_pieces b h = last_ordered b h
    before_ordered labels i (tree.then_ piece pieces) b h =
        either (is_named labels i) (piece_ordered piece (λ b1. before_arm scope labels (i + 1) pieces b1) b (λ b1 h1. before_ordered labels (i + 1) pieces b1 h1) h)
      where
        either : (c : Bool) → IsOrdered (lowered_piece scope piece (λ b1. before_arm scope labels (i + 1) pieces b1) b) → IsOrdered (if c then last b else lowered_piece scope piece (λ b1. before_arm scope labels (i + 1) pieces b1) b)
        either true g = last_ordered b h
        either false g = g

    arms_ordered : (labels : List Label) (i : ℕ) (pieces : PieceTrees) (end : Point) → ArmsAreOrdered (arms scope labels i pieces end)
    arms_ordered labels i tree.no_pieces end = tt
    arms_ordered labels i (tree.then_ piece pieces) end =
        either (is_named labels i)
        (piece_ordered piece (λ b1. before_arm scope labels (i + 1) pieces b1) (begun (or_at end (point_of piece))) (λ b1 h1. before_ordered labels (i + 1) pieces b1 h1) (begun_ordered (or_at end (point_of piece))))
        (arms_ordered labels (i + 1) pieces end)
      where
        first : SequenceTree
        first = lowered_piece scope piece (λ b1. before_arm scope labels (i + 1) pieces b1) (begun (or_at end (point_of piece)))

        either : (c : Bool) → IsOrdered first → ArmsAreOrdered (arms scope labels (i + 1) pieces end) → ArmsAreOrdered (if c then more_arms first (arms scope labels (i + 1) pieces end) else arms scope labels (i + 1) pieces end)
        either true g k = (g, k)
        either false g k = k

pub lowered_ordered : (scope : Scope) (pieces : PieceTrees) (point : Point) → IsOrdered (lowered scope pieces last (begun point))
lowered_ordered scope pieces point = pieces_ordered scope pieces last (begun point) last_ordered (begun_ordered point)
