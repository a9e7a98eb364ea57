-- A numbered block does what the block does.
use Rattle.std.proofs.Common.{◌≡◌, ◌∙◌, ℕ, ◌+◌, Bool, ◌&&◌, not, refl, ap, ap₂, sym, subst, arith, List, [], ◌∷◌, ◌++◌, append_assoc, append-nil, map, length, length-append, Option, Some, None}
use Rattle.std.specs.Prelude.{slice_get, ◌==◌, if◌then◌else◌}
use Rattle.ir_core.specs.declared.body.Operand.{Operand}
use Rattle.ir_core.specs.declared.body.Out.{Out}
use Rattle.hls_base.specs.Steps.{goes, fails, then_, pass}
use Rattle.hls_base.specs.Valued.{Valued, is, faulty, valued}
use Rattle.ir_core.specs.Bodies.{OpTree, Shapes, Words, Ranged, operand, operations, with_word, with_outs, outs}
use Rattle.ir_core.specs.Trees.{ExitTree, next, branch, choose, break_, continue_, leave, BlockTree}
use Rattle.ir_core.specs.TreeRuns.{taken, cased, holds, first_case, way_of, block_left, block_run}
use Rattle.passes.specs.Numbering.Constants.{computed}
use Rattle.passes.specs.Numbering as n
use Rattle.passes.specs.Numbering.{Value, Scope, Kept, Numbered, renamed, renamed_op, renamed_out, renamed_exit, ops_of, earlier, makes_out, with_earlier, numbered_op, numbered_ops, numbered_block, nothing}
use Rattle.passes.proofs.Growing.{with_out_stays, counts}
use Rattle.passes.specs.NumberRuns.Ordered.{IsEarly, AreEarly, OutsAreEarly, ExitIsEarly, BlockIsOrdered}
use Rattle.passes.proofs.NumberRuns.Lists.{map_more}
use Rattle.passes.proofs.NumberRuns.Steps.{Known}
use Rattle.passes.proofs.NumberRuns.Ops.{adds_earlier, adds_word, adds, added, Related, runs}

-- ---- what a step leaves

one_more : {A : Type 0} (xs : List A) (x : A) → length (xs ++ x ∷ []) ≡ length xs + 1
one_more xs x = length-append xs (x ∷ [])

module _ (s : Numbered) (op : OpTree) (is_out : Bool) where
  earlier_grows : (d : Option ℕ) → ops_of (with_earlier s op is_out d).ops ≡ ops_of s.ops ++ adds_earlier op d
  earlier_grows (Some j) = with_out_stays is_out s.ops j ∙ sym (append-nil (ops_of s.ops))
  earlier_grows None = map_more (λ (k : Kept). k.op) s.ops (record { op = op; makes_out = is_out })

  word_grows : (apart : Bool) (c : Option ℕ) → ops_of (n.with_word apart s op is_out c).ops ≡ ops_of s.ops ++ adds_word apart s op is_out c
  word_grows apart (Some w) = sym (append-nil (ops_of s.ops))
  word_grows apart None = earlier_grows (earlier (apart && is_out) op s.ops)

module _ (scope : Scope) (outs_ : List Out) where
  op_grows : (s : Numbered) (op : OpTree) → ops_of (numbered_op scope outs_ s op).ops ≡ ops_of s.ops ++ adds scope outs_ s op
  op_grows s op = word_grows s (renamed_op s.values op) (makes_out outs_ (length s.values)) scope.apart (computed (renamed_op s.values op) (n.first_bits scope.widths s.values op.bits op.args))

  grows : (s : Numbered) (ops : List OpTree) → ops_of (numbered_ops scope outs_ s ops).ops ≡ ops_of s.ops ++ added scope outs_ s ops
  grows s [] = sym (append-nil (ops_of s.ops))
  grows s (op ∷ ops) =
      grows (numbered_op scope outs_ s op) ops ∙ ap (λ l. l ++ added scope outs_ (numbered_op scope outs_ s op) ops) (op_grows s op)
      ∙ append_assoc (ops_of s.ops) (adds scope outs_ s op) (added scope outs_ (numbered_op scope outs_ s op) ops)

-- ---- what a block leaves

module _ (values : List Value) (t : Words) (results others : List ℕ) (same : (x : Operand) → IsEarly (length values) x.value → operand t results x ≡ operand t others (renamed values x)) where
  outs_same : (xs : List Out) → OutsAreEarly (length values) xs → (f : ℕ → ℕ) → outs xs t results f ≡ outs (map (renamed_out values) xs) t others f
  outs_same [] h f = refl
  outs_same (x ∷ xs) h f =
      ap (λ w. outs xs t results (with_word f x.variable.0 w)) (same x.value h.0)
      ∙ outs_same xs h.1 (with_word f x.variable.0 (operand t others (renamed values x.value)))

  holds_same : (x : Operand) → IsEarly (length values) x.value → holds t results x ≡ holds t others (renamed values x)
  holds_same x h = ap (λ w. not (w == 0)) (same x h)

  case_same : (xs : List Operand) → AreEarly (length values) xs → (i : ℕ) → first_case t results xs i ≡ first_case t others (map (renamed values) xs) i
  case_same [] h i = refl
  case_same (x ∷ xs) h i = ap₂ (λ b r. if b then Some i else r) (holds_same x h.0) (case_same xs h.1 (i + 1))

  way_same : (exit : ExitTree) → ExitIsEarly (length values) exit → way_of exit t results ≡ way_of (renamed_exit values exit) t others
  way_same next h = refl
  way_same (branch test) h = ap taken (holds_same test h)
  way_same (choose cases) h = ap cased (case_same cases h 0)
  way_same break_ h = refl
  way_same continue_ h = refl
  way_same (leave number) h = refl

module _ (b : BlockTree) (s : Numbered) (outs_early : OutsAreEarly (length s.values) b.outs) (exit_early : ExitIsEarly (length s.values) b.exit) where
  left_same : (r q : Ranged) → Related s.values (is r) (is q) → (t : Words) (m : ℕ) → block_left b r t m ≡ block_left (n.block_with b s) q t m
  left_same r q h t m =
      let way = way_same s.values r.words r.results q.results h.1 b.exit exit_early in
      let sets = outs_same s.values r.words r.results q.results h.1 b.outs outs_early r.words.variables in
      let words = h.0 in
      (λ i. goes (way i) (record r.words { variables = sets i }) m)
      ∙ (λ i. goes (way_of (renamed_exit s.values b.exit) (words i) q.results) (with_outs (map (renamed_out s.values) b.outs) (record { results = q.results; words = words i })) m)

  pub valued_same : (p q : Valued Ranged) → Related s.values p q → (t : Words) (m : ℕ) → valued p (block_left b) t m ≡ valued q (block_left (n.block_with b s)) t m
  valued_same (is r) (is q) h t m = left_same r q h t m
  valued_same (faulty rule at) (faulty other place) h t m = let e = h.0 in let k = h.1 in λ i. fails (e i) (k i)
  valued_same (is r) (faulty rule at) h t m = absurd h
  valued_same (faulty rule at) (is r) h t m = absurd h

module _ (shapes : Shapes) (apart : Bool) (b : BlockTree) (ordered : BlockIsOrdered b) where
  abbrev scope : Scope
  scope = record { widths = shapes.widths; apart = apart }

  abbrev whole : Numbered
  whole = numbered_ops scope b.outs nothing b.ops

  counted : length b.ops ≡ length whole.values
  counted = let h = counts scope b.outs nothing b.ops in omega (arith, h)

  known : (t : Words) → Known shapes.widths b.ops (ops_of whole.ops) t.variables nothing [] []
  known t = record { count = refl; kept_count = refl; stand = λ j v e. absurd cc; keep = λ j k e. absurd cc }

  ops_related : (t : Words) → Related whole.values (operations shapes b.ops b.ops [] t) (operations shapes (ops_of whole.ops) (ops_of whole.ops) [] t)
  ops_related t =
      let e = grows scope b.outs nothing b.ops in
      subst (λ l. Related whole.values (operations shapes b.ops b.ops [] t) (operations shapes (ops_of whole.ops) l [] t)) (sym e)
      (runs shapes apart b.outs b.ops (ops_of whole.ops) t.variables b.ops nothing [] [] t (known t) refl ordered.ops (λ k. ap (slice_get b.ops) (omega arith)) e)

  part_same : (t : Words) (m : ℕ) → valued (operations shapes b.ops b.ops [] t) (block_left b) t m ≡ valued (operations shapes (ops_of whole.ops) (ops_of whole.ops) [] t) (block_left (numbered_block scope b)) t m
  part_same t m =
      valued_same b whole (subst (λ k. OutsAreEarly k b.outs) counted ordered.outs) (subst (λ k. ExitIsEarly k b.exit) counted ordered.exit)
      (operations shapes b.ops b.ops [] t) (operations shapes (ops_of whole.ops) (ops_of whole.ops) [] t) (ops_related t) t m

  pub block_same : (t : Words) (m : ℕ) → block_run shapes (numbered_block scope b) t m ≡ block_run shapes b t m
  block_same t m = λ i. then_ (pass b.point t m) (λ u t1 n1. sym (part_same t1 n1) i)
