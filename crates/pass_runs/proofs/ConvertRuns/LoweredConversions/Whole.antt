-- Lowered trees: operands are there and have their widths.
use Rattle.std.specs.Prelude.{slice_get}
use Rattle.std.proofs.Common.{◌≡◌, ℕ, zero, suc, ◌+◌, Bool, true, false, refl, sym, subst, List, [], ◌∷◌, ◌++◌, map, Option, Some, None, if◌then◌else◌}
use Rattle.hls_base.specs.declared.point.Point.{Point}
use Rattle.hls_base.specs.declared.number.VarId.{VarId}
use Rattle.c_token.specs.declared.ctype.CType.{CType}
use Rattle.c_value.specs.Values.{width}
use Rattle.pieces.specs.declared.piece.Label.{Label}
use Rattle.pieces.specs.Trees as tree
use Rattle.pieces.specs.Trees.{PieceTree, PieceTrees}
use Rattle.pieces.specs.Weight.{weight}
use Rattle.ir_core.specs.declared.body.OpKind.TheVariants as o
use Rattle.ir_core.specs.declared.body.Out.{Out}
use Rattle.ir_core.specs.Bodies.{OpTree}
use Rattle.ir_core.specs.Trees.{break_, continue_, leave, BlockTree, SequenceTree, sequence, PartTrees, no_part, more_parts, ShapeTree, more_arms}
use Rattle.passes.specs.Lowering.Operations.{added, plain}
use Rattle.passes.specs.Lowering.Shapes.{is_eligible, first_point, or_at, point_of}
use Rattle.passes.specs.Lowering.Blocks.{Scope, type_of, variable_type, begun, is_live, with_exit, set, put, ends_by_test}
use Rattle.passes.specs.Lowering.Copies.{Fixed, Copied, needs_copy, own_operand, with_own, copied_out, copied_outs, copied_block, copied_parts, fixed_in, fixed_behind, fixed_behind_shape, parts_set}
use Rattle.passes.specs.Lowering.{Rest, last, followed, land_of, side_from, with_copies, own_step, stepped, is_named, lowered, lowered_piece, before_arm, arms}
use Rattle.pass_runs.specs.ConvertRuns.Typed.{HasBits, OutIsTyped, OpsAreTyped, OutsAreTyped, EndsPlain, SequenceIsTyped, PartsAreTyped, ShapeIsTyped, SideIsTyped, ArmsAreTyped}
use Rattle.pass_runs.proofs.ConvertRuns.ConvertedTrees.Typing as numbered
use Rattle.pass_runs.specs.ConvertRuns.LoweredConversions.Suiting.{widths_of, words_of, PieceSuits, PiecesSuit}
use Rattle.pass_runs.specs.ConvertRuns.LoweredConversions.{LoweredIsTyped, NumberedLoweredIsTyped}
use Rattle.pass_runs.proofs.ConvertRuns.LoweredConversions.Plain.{RestPlain, last_plain, stepped_plain, pieces_plain, piece_plain, before_plain, copies_plain}
use Rattle.pass_runs.proofs.ConvertRuns.LoweredConversions.Adding.{Grows, stays, grows_on, has_on, outs_on, Fine, added_fine, nothing_fine, one_early}
use Rattle.pass_runs.proofs.ConvertRuns.LoweredConversions.Expressions.{widths, words}
use Rattle.pass_runs.proofs.ConvertRuns.LoweredConversions.Blocks.{Typed, exit_on, append_typed, exit_typed, set_typed, put_typed, test_typed, fork_typed, cases_typed}

some_number : {x y : ℕ} → Some x ≡ Some y → x ≡ y
some_number e = cc

-- the width of a variable that is there
mapped_type : (ks : List CType) (i n : ℕ) → slice_get (map width ks) i ≡ Some n → n ≡ width (type_of (slice_get ks i))
mapped_type [] i n e = absurd cc
mapped_type (k ∷ ks) zero n e = sym (some_number e)
mapped_type (k ∷ ks) (suc i) n e = mapped_type ks i n e

module _ (scope : Scope) where
  -- ---- copies

  record CopiedFine (base : List OpTree) (s : Copied) : Type 0 where
    typed : OpsAreTyped (widths scope) (words scope) [] s.ops
    grows : Grows base s.ops
    outs : OutsAreTyped (widths scope) (words scope) s.ops s.outs

  own_fine : (fixed : Fixed) (s : Copied) (x : Out) (n : ℕ) → n ≡ width (variable_type scope x.variable) → OpsAreTyped (widths scope) (words scope) [] s.ops → HasBits (widths scope) (words scope) s.ops n x.value.value
      → Fine (widths scope) (words scope) s.ops n (own_operand scope fixed s x)
  own_fine fixed s x n e h g = either (needs_copy fixed s.taken x.value x.value.value) where
    op : OpTree
    op = plain o.Copy (width (variable_type scope x.variable)) (x.value ∷ [])

    either : (c : Bool) → Fine (widths scope) (words scope) s.ops n (if c then added s.ops (plain o.Copy (width (variable_type scope x.variable)) (x.value ∷ [])) else record { ops = s.ops; operand = x.value })
    either true =
        let copy = plain o.Copy (width (variable_type scope x.variable)) (x.value ∷ []) in
        subst (λ m. Fine (widths scope) (words scope) s.ops m (added s.ops copy)) (sym e) (added_fine (widths scope) (words scope) s.ops copy h (record { args = one_early (widths scope) (words scope) s.ops n x.value g; guard = tt; access = tt }))
    either false = nothing_fine (widths scope) (words scope) s.ops n x.value h g

  out_fine : (later : PartTrees) (fixed : Fixed) (base : List OpTree) (s : Copied) (x : Out) → CopiedFine base s → OutIsTyped (widths scope) (words scope) base x → CopiedFine base (copied_out scope later fixed s x)
  out_fine later fixed base s x f h = either (parts_set later x.variable) where
    here : HasBits (widths scope) (words scope) s.ops h.0 x.value.value
    here = has_on (widths scope) (words scope) base s.ops f.grows h.0 x.value.value h.2

    either : (c : Bool) → CopiedFine base (if c then record s { outs = s.outs ++ x ∷ [] } else with_own x.variable s (own_operand scope fixed s x))
    either true = record { typed = f.typed; grows = f.grows; outs = append_typed (widths scope) (words scope) s.ops s.outs (x ∷ []) f.outs ((h.0, h.1, here), tt) }
    either false =
        let y = own_operand scope fixed s x in
        let g = own_fine fixed s x h.0 (mapped_type scope.variables x.variable.0 h.0 h.1) f.typed here in
        record {
          typed = g.typed;
          grows = grows_on base s.ops y.ops f.grows g.grows;
          outs = append_typed (widths scope) (words scope) y.ops s.outs (record { variable = x.variable; value = y.operand } ∷ []) (outs_on (widths scope) (words scope) s.ops y.ops g.grows s.outs f.outs) ((h.0, h.1, g.has), tt);
        }

  outs_fine : (later : PartTrees) (fixed : Fixed) (base : List OpTree) (s : Copied) (xs : List Out) → CopiedFine base s → OutsAreTyped (widths scope) (words scope) base xs → CopiedFine base (copied_outs scope later fixed s xs)
  outs_fine later fixed base s [] f h = f
  outs_fine later fixed base s (x ∷ xs) f h = outs_fine later fixed base (copied_out scope later fixed s x) xs (out_fine later fixed base s x f h.0) h.1

  block_typed : (later : PartTrees) (variables : VarId → Bool) (b : BlockTree) → Typed scope b → Typed scope (copied_block scope later variables b)
  block_typed later variables b h =
      let s = copied_outs scope later (fixed_in variables b) (record { ops = b.ops; outs = []; taken = [] }) b.outs in
      let f = outs_fine later (fixed_in variables b) b.ops (record { ops = b.ops; outs = []; taken = [] }) b.outs (record { typed = h.ops; grows = stays b.ops; outs = tt }) h.outs in
      record { ops = f.typed; outs = f.outs; exit = exit_on (widths scope) (words scope) b.ops s.ops f.grows b.exit h.exit }

  abbrev IsTyped : SequenceTree → Type 0
  IsTyped = SequenceIsTyped (widths scope) (words scope)

  parts_typed : (variables : VarId → Bool) (ps : PartTrees) → PartsAreTyped (widths scope) (words scope) ps → PartsAreTyped (widths scope) (words scope) (copied_parts scope variables ps)
  parts_typed variables no_part h = tt
  parts_typed variables (more_parts shape after rest) h =
      (h.0, block_typed rest (fixed_behind_shape shape variables) after h.1, parts_typed (fixed_behind rest (fixed_behind_shape shape variables) after) rest h.2)

  copies_typed : (eligible : Bool) (s : SequenceTree) → IsTyped s → IsTyped (with_copies eligible scope s)
  copies_typed true (sequence first rest) h = (block_typed rest (λ v. false) first h.0, parts_typed (fixed_behind rest (λ v. false) first) rest h.1)
  copies_typed false s h = h

  -- ---- sequences

  -- what becomes of an open block
  abbrev RestTyped : Rest → Type 0
  RestTyped rest = (b : BlockTree) → Typed scope b → IsTyped (rest b)

  begun_typed : (point : Point) → Typed scope (begun point)
  begun_typed point = record { ops = tt; outs = tt; exit = tt }

  last_typed : RestTyped last
  last_typed b h = (h, tt)

  followed_typed : (b : BlockTree) (shape : ShapeTree) (s : SequenceTree) → Typed scope b → ShapeIsTyped (widths scope) (words scope) shape → IsTyped s → IsTyped (followed b shape s)
  followed_typed b shape (sequence first rest) h g k = (h, (g, k.0, k.1))

  side_typed : (blocks : Rest) (point : Option Point) → RestTyped blocks → RestPlain blocks → SideIsTyped (widths scope) (words scope) (side_from blocks point)
  side_typed blocks None h g = tt
  side_typed blocks (Some point) h g = (h (begun point) (begun_typed point), g (begun point) refl)

  stepped_typed : (step : Rest) (point : Option Point) → RestTyped step → RestTyped (stepped step point)
  stepped_typed step None h b g = h b g
  stepped_typed step (Some point) h b g = last_typed b g

  if_typed : (c : Bool) (x y : BlockTree) → Typed scope x → Typed scope y → Typed scope (if c then x else y)
  if_typed true x y h g = h
  if_typed false x y h g = g

  -- ---- pieces

  mutual
    pieces_typed : (parts : PieceTrees) (rest : Rest) (b : BlockTree) → PiecesSuit scope parts → RestTyped rest → Typed scope b → IsTyped (lowered scope parts rest b)
    pieces_typed tree.no_pieces rest b z r h = r b h
    pieces_typed (tree.then_ piece parts) rest b z r h = piece_typed piece (λ b1. lowered scope parts rest b1) b z.0 (λ b1 h1. pieces_typed parts rest b1 z.1 r h1) h

    piece_typed : (piece : PieceTree) (rest : Rest) (b : BlockTree) → PieceSuits scope piece → RestTyped rest → Typed scope b → IsTyped (lowered_piece scope piece rest b)
    piece_typed (tree.set v x) rest b z r h = r (if is_live b then set scope v x b else b) (if_typed (is_live b) (set scope v x b) b (set_typed scope v x b h z) h)
    piece_typed (tree.put a s x at) rest b z r h = r (if is_live b then put scope a s x at b else b) (if_typed (is_live b) (put scope a s x at b) b (put_typed scope a s x at b h z) h)
    piece_typed (tree.fork test left right end) rest b z r h =
        followed_typed _ _ (rest (begun end)) (fork_typed scope test left right b h z.0 z.1 z.2) (
          side_typed (λ b1. lowered scope left last b1) (first_point left) (λ b1 h1. pieces_typed left last b1 z.1 last_typed h1) (λ b1 h1. pieces_plain scope left last b1 last_plain h1),
          side_typed (λ b1. lowered scope right last b1) (first_point right) (λ b1 h1. pieces_typed right last b1 z.2 last_typed h1) (λ b1 h1. pieces_plain scope right last b1 last_plain h1),
        )
        (r (begun end) (begun_typed end))
    piece_typed (tree.repeat_ id post before test body step end) rest b z r h =
        let own = own_step body (first_point step) in
        let steps : RestTyped (λ b1. lowered scope step last b1) = λ b1 h1. pieces_typed step last b1 z.3 last_typed h1 in
        let plains : RestPlain (λ b1. lowered scope step last b1) = λ b1 h1. pieces_plain scope step last b1 last_plain h1 in
        let around : Rest = λ b1. stepped (λ b2. lowered scope step last b2) own b1 in
        let eligible = is_eligible post before (weight test) body step in
        let at = or_at end (first_point body) in
        followed_typed _ _ (rest (begun end)) h (
          pieces_typed before (λ b1. last (ends_by_test test b1)) (begun (or_at end (first_point before))) z.0 (λ b1 h1. last_typed (ends_by_test test b1) (test_typed scope test b1 h1 z.1)) (begun_typed (or_at end (first_point before))),
          copies_typed eligible (lowered scope body around (begun at)) (pieces_typed body around (begun at) z.2 (stepped_typed (λ b2. lowered scope step last b2) own steps) (begun_typed at)),
          copies_plain scope eligible (lowered scope body around (begun at)) (pieces_plain scope body around (begun at) (stepped_plain (λ b2. lowered scope step last b2) own plains) refl),
          side_typed (λ b1. lowered scope step last b1) own steps plains,
        )
        (r (begun end) (begun_typed end))
    piece_typed (tree.pick test labels body end) rest b z r h = followed_typed _ _ (rest (begun end)) (cases_typed scope test labels b h z.0) (arms_typed labels 0 body end z.1) (r (begun end) (begun_typed end))
    piece_typed tree.break_ rest b z r h = r (with_exit break_ b) (exit_typed (widths scope) (words scope) break_ b h tt)
    piece_typed tree.next_ rest b z r h = r (with_exit continue_ b) (exit_typed (widths scope) (words scope) continue_ b h tt)
    piece_typed (tree.leave call) rest b z r h = r (with_exit (leave (land_of call)) b) (exit_typed (widths scope) (words scope) (leave (land_of call)) b h tt)
    piece_typed (tree.land call end) rest b z r h = followed_typed _ _ (rest (begun end)) h tt (r (begun end) (begun_typed end))
    piece_typed (tree.mark point) rest b z r h = r b h

    before_typed : (labels : List Label) (i : ℕ) (parts : PieceTrees) (b : BlockTree) → PiecesSuit scope parts → Typed scope b → IsTyped (before_arm scope labels i parts b)
    before_typed labels i tree.no_pieces b z h = last_typed b h
    before_typed labels i (tree.then_ piece parts) b z h =
        either (is_named labels i) (piece_typed piece (λ b1. before_arm scope labels (i + 1) parts b1) b z.0 (λ b1 h1. before_typed labels (i + 1) parts b1 z.1 h1) h)
      where
        either : (c : Bool) → IsTyped (lowered_piece scope piece (λ b1. before_arm scope labels (i + 1) parts b1) b) → IsTyped (if c then last b else lowered_piece scope piece (λ b1. before_arm scope labels (i + 1) parts b1) b)
        either true g = last_typed b h
        either false g = g

    arms_typed : (labels : List Label) (i : ℕ) (parts : PieceTrees) (end : Point) → PiecesSuit scope parts → ArmsAreTyped (widths scope) (words scope) (arms scope labels i parts end)
    arms_typed labels i tree.no_pieces end z = tt
    arms_typed labels i (tree.then_ piece parts) end z =
        either (is_named labels i)
        (piece_typed piece (λ b1. before_arm scope labels (i + 1) parts b1) (begun (or_at end (point_of piece))) z.0 (λ b1 h1. before_typed labels (i + 1) parts b1 z.1 h1) (begun_typed (or_at end (point_of piece))))
        (piece_plain scope piece (λ b1. before_arm scope labels (i + 1) parts b1) (begun (or_at end (point_of piece))) (λ b1 h1. before_plain scope labels (i + 1) parts b1 h1) refl)
        (arms_typed labels (i + 1) parts end z.1)
      where
        first : SequenceTree
        first = lowered_piece scope piece (λ b1. before_arm scope labels (i + 1) parts b1) (begun (or_at end (point_of piece)))

        either : (c : Bool) → IsTyped first → EndsPlain first → ArmsAreTyped (widths scope) (words scope) (arms scope labels (i + 1) parts end)
            → ArmsAreTyped (widths scope) (words scope) (if c then more_arms first (arms scope labels (i + 1) parts end) else arms scope labels (i + 1) parts end)
        either true g p k = (g, p, k)
        either false g p k = k

pub typed : LoweredIsTyped
typed scope parts point z = pieces_typed scope parts last (begun point) z (last_typed scope) (begun_typed scope point)

pub numbered_typed : NumberedLoweredIsTyped
numbered_typed scope apart parts point z = numbered.typed (record { widths = widths_of scope; apart = apart }) (words_of scope) (lowered scope parts last (begun point)) (typed scope parts point z)
