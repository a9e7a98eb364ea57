-- What numbering has so far, as it grows.
use Rattle.std.proofs.Common.{◌≡◌, ◌∙◌, ℕ, zero, suc, ◌+◌, Bool, true, false, ◌&&◌, ◌||◌, not, refl, ap, sym, arith, List, [], ◌∷◌, ◌++◌, map, length, length-append, Option, Some, None}
use Rattle.std.specs.Prelude.{is_some, if◌then◌else◌}
use Rattle.std.specs.Option.{option_map}
use Rattle.ir_core.specs.declared.body.Out.{Out}
use Rattle.ir_core.specs.Bodies.{OpTree}
use Rattle.passes.specs.Numbering.Constants.{computed}
use Rattle.passes.specs.Numbering.Equal.{is_equal}
use Rattle.passes.specs.Numbering.{Scope, Kept, Numbered, First, first_equal, with_out, ops_of, renamed_op, first_bits, earlier, makes_out, with_earlier, with_word, numbered_op, numbered_ops}

pub with_out_stays : (is_out : Bool) (kept : List Kept) (i : ℕ) → ops_of (with_out is_out kept i) ≡ ops_of kept
with_out_stays is_out [] i = refl
with_out_stays is_out (k ∷ ks) zero = refl
with_out_stays is_out (k ∷ ks) (suc i) = ap (λ l. k.op ∷ l) (with_out_stays is_out ks i)

-- ---- the first equal operation, as another one stays

abbrev pub or_else : Option First → Option First → Option First
or_else None y = y
or_else (Some x) y = Some x

-- the operation at this number, if it is one to become one with
abbrev pub equal_at : OpTree → Kept → ℕ → Option First
equal_at op k i = if not (is_some k.op.guard) && is_equal op k.op then Some (record { op = i; makes_out = k.makes_out }) else None

pub first_more : (op : OpTree) (kept : List Kept) (k : Kept) (i : ℕ) → first_equal op (kept ++ k ∷ []) i ≡ or_else (first_equal op kept i) (equal_at op k (length kept + i))
first_more op [] k i = let e : 0 + i ≡ i = omega arith in ap (equal_at op k) (sym e)
first_more op (x ∷ kept) k i = by_test (first_more op kept k (i + 1)) (not (is_some x.op.guard) && is_equal op x.op) where
  further : length kept + (i + 1) ≡ length (x ∷ kept) + i
  further = omega arith

  found : Option First
  found = Some (record { op = i; makes_out = x.makes_out })

  by_test : first_equal op (kept ++ k ∷ []) (i + 1) ≡ or_else (first_equal op kept (i + 1)) (equal_at op k (length kept + (i + 1))) → (b : Bool)
      → (if b then Some (record { op = i; makes_out = x.makes_out }) else first_equal op (kept ++ k ∷ []) (i + 1))
      ≡ or_else (if b then Some (record { op = i; makes_out = x.makes_out }) else first_equal op kept (i + 1)) (equal_at op k (length (x ∷ kept) + i))
  by_test h true = refl
  by_test h false = h ∙ ap (λ j. or_else (first_equal op kept (i + 1)) (equal_at op k j)) further

abbrev number_of : First → ℕ
number_of first = first.op

-- an operation that makes an out too stays where it is
pub first_marked : (op : OpTree) (is_out : Bool) (kept : List Kept) (j i : ℕ) → option_map number_of (first_equal op (with_out is_out kept j) i) ≡ option_map number_of (first_equal op kept i)
first_marked op is_out [] j i = refl
first_marked op is_out (k ∷ ks) zero i = by_test (not (is_some k.op.guard) && is_equal op k.op) where
  by_test : (b : Bool) → option_map number_of (if b then Some (record { op = i; makes_out = k.makes_out || is_out }) else first_equal op ks (i + 1))
      ≡ option_map number_of (if b then Some (record { op = i; makes_out = k.makes_out }) else first_equal op ks (i + 1))
  by_test true = refl
  by_test false = refl
first_marked op is_out (k ∷ ks) (suc j) i = by_test (first_marked op is_out ks j (i + 1)) (not (is_some k.op.guard) && is_equal op k.op) where
  by_test : option_map number_of (first_equal op (with_out is_out ks j) (i + 1)) ≡ option_map number_of (first_equal op ks (i + 1)) → (b : Bool)
      → option_map number_of (if b then Some (record { op = i; makes_out = k.makes_out }) else first_equal op (with_out is_out ks j) (i + 1))
      ≡ option_map number_of (if b then Some (record { op = i; makes_out = k.makes_out }) else first_equal op ks (i + 1))
  by_test h true = refl
  by_test h false = h

-- ---- which make outs

or_true : (b : Bool) → (b || true) ≡ true
or_true true = refl
or_true false = refl

or_false : (b : Bool) → (b || false) ≡ b
or_false true = refl
or_false false = refl

abbrev pub flags_of : List Kept → List Bool
flags_of = map (λ k. k.makes_out)

pub flags_not_set : (kept : List Kept) (j : ℕ) → flags_of (with_out false kept j) ≡ flags_of kept
flags_not_set [] j = refl
flags_not_set (k ∷ ks) zero = ap (λ b. b ∷ flags_of ks) (or_false k.makes_out)
flags_not_set (k ∷ ks) (suc j) = ap (λ l. k.makes_out ∷ l) (flags_not_set ks j)

-- ---- one operation more

pub numbered_more : (scope : Scope) (outs : List Out) (s : Numbered) (ops : List OpTree) (op : OpTree) → numbered_ops scope outs s (ops ++ op ∷ []) ≡ numbered_op scope outs (numbered_ops scope outs s ops) op
numbered_more scope outs s [] op = refl
numbered_more scope outs s (o ∷ ops) op = numbered_more scope outs (numbered_op scope outs s o) ops op

-- ---- a value for each operation

module _ (s : Numbered) (op : OpTree) (is_out : Bool) where
  earlier_counts : (d : Option ℕ) → length (with_earlier s op is_out d).values ≡ length s.values + 1
  earlier_counts (Some j) = length-append s.values _
  earlier_counts None = length-append s.values _

  word_counts : (apart : Bool) (c : Option ℕ) → length (with_word apart s op is_out c).values ≡ length s.values + 1
  word_counts apart (Some w) = length-append s.values _
  word_counts apart None = earlier_counts (earlier (apart && is_out) op s.ops)

module _ (scope : Scope) (outs : List Out) where
  op_counts : (s : Numbered) (op : OpTree) → length (numbered_op scope outs s op).values ≡ length s.values + 1
  op_counts s op = word_counts s (renamed_op s.values op) (makes_out outs (length s.values)) scope.apart (computed (renamed_op s.values op) (first_bits scope.widths s.values op.bits op.args))

  pub counts : (s : Numbered) (ops : List OpTree) → length (numbered_ops scope outs s ops).values ≡ length s.values + length ops
  counts s [] = omega arith
  counts s (op ∷ ops) = let h = counts (numbered_op scope outs s op) ops in let e = op_counts s op in omega (arith, h, e)
