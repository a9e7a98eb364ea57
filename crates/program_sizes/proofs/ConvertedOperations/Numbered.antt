-- Numbering leaves no more of a tree than there was.
use Rattle.std.proofs.Common.{◌≡◌, ◌≤◌, ℕ, zero, suc, ◌+◌, Bool, true, false, ◌&&◌, refl, ap, arith, List, [], ◌∷◌, length, length-append, Option, Some, None}
use Rattle.std.proofs.lemmas.List.{length-map}
use Rattle.ir_core.specs.declared.body.Out.{Out}
use Rattle.ir_core.specs.Bodies.{OpTree}
use Rattle.ir_core.specs.Trees.{BlockTree, SequenceTree, sequence, PartTrees, no_part, more_parts, ShapeTree, fork, loop, switch, land, overlapped, SideTree, no_side, side, ArmTrees, no_arm, more_arms}
use Rattle.passes.specs.Numbering.Constants.{computed}
use Rattle.passes.specs.Numbering.{Scope, Kept, Numbered, with_out, with_earlier, with_word, renamed_op, first_bits, earlier, makes_out, numbered_op, numbered_ops, nothing, renamed_out, numbered_block, in_loop, numbered_sequence, numbered_parts, numbered_shape, numbered_side, numbered_arms}
use Rattle.passes.specs.Totals.{operations, settings, sequence_total, parts_total, shape_total, side_total, arms_total}
use Rattle.passes.specs.OperationCount.Forks.{sequence_additions, parts_additions, shape_additions, side_additions, arms_additions}
use Rattle.program_sizes.specs.ConvertedOperations.{NumberedOperationsAreFewer}

-- ---- blocks

length-with_out : (is_out : Bool) (kept : List Kept) (i : ℕ) → length (with_out is_out kept i) ≡ length kept
length-with_out is_out [] i = refl
length-with_out is_out (k ∷ ks) zero = refl
length-with_out is_out (k ∷ ks) (suc i) = ap suc (length-with_out is_out ks i)

module _ (s : Numbered) (op : OpTree) (is_out : Bool) where
  earlier_adds : (found : Option ℕ) → length (with_earlier s op is_out found).ops ≤ length s.ops + 1
  earlier_adds (Some i) = let e = length-with_out is_out s.ops i in omega (arith, e)
  earlier_adds None = let e = length-append s.ops (record { op = op; makes_out = is_out } ∷ []) in omega (arith, e)

  word_adds : (apart : Bool) (word : Option ℕ) → length (with_word apart s op is_out word).ops ≤ length s.ops + 1
  word_adds apart (Some w) = omega arith
  word_adds apart None = earlier_adds (earlier (apart && is_out) op s.ops)

module _ (scope : Scope) (outs : List Out) where
  op_adds : (s : Numbered) (op : OpTree) → length (numbered_op scope outs s op).ops ≤ length s.ops + 1
  op_adds s op = word_adds s (renamed_op s.values op) (makes_out outs (length s.values)) scope.apart (computed (renamed_op s.values op) (first_bits scope.widths s.values op.bits op.args))

  ops_add : (s : Numbered) (ops : List OpTree) → length (numbered_ops scope outs s ops).ops ≤ length s.ops + length ops
  ops_add s [] = omega arith
  ops_add s (op ∷ ops) = let h = ops_add (numbered_op scope outs s op) ops in let e = op_adds s op in omega (arith, h, e)

-- ---- what is counted

-- operations, settings, and operations that the conversion of forks may add
record Tally : Type 0 where
  operations : ℕ
  settings : ℕ
  additions : ℕ

record IsLess (before after : Tally) : Type 0 where
  operations : after.operations ≤ before.operations
  settings : after.settings ≡ before.settings
  additions : after.additions ≤ before.additions

abbrev of_block : BlockTree → Tally
of_block b = record { operations = length b.ops; settings = length b.outs; additions = 0 }

abbrev of_sequence : SequenceTree → Tally
of_sequence s = record { operations = sequence_total operations s; settings = sequence_total settings s; additions = sequence_additions s }

abbrev of_parts : PartTrees → Tally
of_parts p = record { operations = parts_total operations p; settings = parts_total settings p; additions = parts_additions p }

abbrev of_shape : ShapeTree → Tally
of_shape shape = record { operations = shape_total operations shape; settings = shape_total settings shape; additions = shape_additions shape }

abbrev of_side : SideTree → Tally
of_side s = record { operations = side_total operations s; settings = side_total settings s; additions = side_additions s }

abbrev of_arms : ArmTrees → Tally
of_arms p = record { operations = arms_total operations p; settings = arms_total settings p; additions = arms_additions p }

abbrev together : Tally → Tally → Tally
together m n = record { operations = m.operations + n.operations; settings = m.settings + n.settings; additions = m.additions + n.additions }

same : (n : Tally) → IsLess n n
same n = record { operations = omega arith; settings = refl; additions = omega arith }

block_less : (scope : Scope) (b : BlockTree) → IsLess (of_block b) (of_block (numbered_block scope b))
block_less scope b =
    let s = numbered_ops scope b.outs nothing b.ops in
    let one = length-map s.ops (λ k. k.op) in
    let two = ops_add scope b.outs nothing b.ops in
    let three = length-map b.outs (renamed_out s.values) in
    record { operations = omega (arith, one, two); settings = omega (arith, three); additions = omega arith }

-- ---- trees

-- two that become less
joined_less : (m n m' n' : Tally) → IsLess m m' → IsLess n n' → IsLess (together m n) (together m' n')
joined_less m n m' n' x y =
    let a = x.operations in
    let b = x.settings in
    let c = x.additions in
    let d = y.operations in
    let e = y.settings in
    let f = y.additions in
    record { operations = omega (arith, a, d); settings = omega (arith, b, e); additions = omega (arith, c, f) }

-- what the conversion of a fork adds becomes less with its sides
fork_less : (yes_ yes' no_ no' : SideTree) (convertible : Bool) → IsLess (of_side yes_) (of_side yes') → IsLess (of_side no_) (of_side no') → IsLess (of_shape (fork yes_ no_ convertible)) (of_shape (fork yes' no' convertible))
fork_less yes_ yes' no_ no' true x y =
    let a = x.operations in
    let b = x.settings in
    let c = x.additions in
    let d = y.operations in
    let e = y.settings in
    let f = y.additions in
    record { operations = omega (arith, a, d); settings = omega (arith, b, e); additions = omega (arith, a, b, c, d, e, f) }
fork_less yes_ yes' no_ no' false x y =
    let a = x.operations in
    let b = x.settings in
    let c = x.additions in
    let d = y.operations in
    let e = y.settings in
    let f = y.additions in
    record { operations = omega (arith, a, d); settings = omega (arith, b, e); additions = omega (arith, c, f) }

mutual
  sequence_less : (scope : Scope) (s : SequenceTree) → IsLess (of_sequence s) (of_sequence (numbered_sequence scope s))
  sequence_less scope (sequence first rest) =
      let both = joined_less (of_block first) (of_parts rest) (of_block (numbered_block scope first)) (of_parts (numbered_parts scope rest)) (block_less scope first) (parts_less scope rest) in
      let adds = both.additions in
      record { operations = both.operations; settings = both.settings; additions = omega (arith, adds) }

  parts_less : (scope : Scope) (p : PartTrees) → IsLess (of_parts p) (of_parts (numbered_parts scope p))
  parts_less scope no_part = same (of_parts no_part)
  parts_less scope (more_parts shape after rest) =
      let before = joined_less (of_shape shape) (of_block after) (of_shape (numbered_shape scope shape)) (of_block (numbered_block scope after)) (shape_less scope shape) (block_less scope after) in
      let all = joined_less (together (of_shape shape) (of_block after)) (of_parts rest) (together (of_shape (numbered_shape scope shape)) (of_block (numbered_block scope after))) (of_parts (numbered_parts scope rest)) before (parts_less scope rest) in
      let adds = all.additions in
      record { operations = all.operations; settings = all.settings; additions = omega (arith, adds) }

  shape_less : (scope : Scope) (shape : ShapeTree) → IsLess (of_shape shape) (of_shape (numbered_shape scope shape))
  shape_less scope (fork yes_ no_ convertible) = fork_less yes_ (numbered_side scope yes_) no_ (numbered_side scope no_) convertible (side_less scope yes_) (side_less scope no_)
  shape_less scope (loop post test body step eligible) =
      let t = numbered_sequence (in_loop scope eligible) test in
      let b = numbered_sequence (in_loop scope eligible) body in
      joined_less (together (of_sequence test) (of_sequence body)) (of_side step) (together (of_sequence t) (of_sequence b)) (of_side (numbered_side (in_loop scope eligible) step))
      (joined_less (of_sequence test) (of_sequence body) (of_sequence t) (of_sequence b) (sequence_less (in_loop scope eligible) test) (sequence_less (in_loop scope eligible) body)) (side_less (in_loop scope eligible) step)
  shape_less scope (switch dead targets other arms) =
      joined_less (of_parts dead) (of_arms arms) (of_parts (numbered_parts scope dead)) (of_arms (numbered_arms scope arms)) (parts_less scope dead) (arms_less scope arms)
  shape_less scope (land number) = same (of_shape (land number))
  shape_less scope (overlapped point body) = same (of_shape (overlapped point body))

  side_less : (scope : Scope) (s : SideTree) → IsLess (of_side s) (of_side (numbered_side scope s))
  side_less scope no_side = same (of_side no_side)
  side_less scope (side blocks) = sequence_less scope blocks

  arms_less : (scope : Scope) (p : ArmTrees) → IsLess (of_arms p) (of_arms (numbered_arms scope p))
  arms_less scope no_arm = same (of_arms no_arm)
  arms_less scope (more_arms first rest) =
      joined_less (of_sequence first) (of_arms rest) (of_sequence (numbered_sequence scope first)) (of_arms (numbered_arms scope rest)) (sequence_less scope first) (arms_less scope rest)

pub numbered_fewer : NumberedOperationsAreFewer
numbered_fewer scope s = let h = sequence_less scope s in record { operations = h.operations; settings = h.settings; additions = h.additions }
