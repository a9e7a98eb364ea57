-- Operands that are valid in a tree are valid in a program.
use Rattle.std.proofs.Common.{◌≡◌, ◌∙◌, ◌+◌, ◌^◌, ◌<◌, ◌≤◌, ℕ, zero, suc, Bool, true, false, ◌&&◌, refl, ap, subst, arith, List, [], ◌∷◌, length, map, Option, Some, None}
use Rattle.std.specs.Prelude.{nat_lt, ◌==◌, slice_get, take, if◌then◌else◌}
use Rattle.std.specs.List.{list_all}
use Rattle.std.specs.Option.{option_map}
use Rattle.std.proofs.Math.Pow.{pow_mono}
use Rattle.std.proofs.lemmas.Bool.{and_from, ltb-false}
use Rattle.std.proofs.lemmas.Option.{none-some}
use Rattle.ir_core.specs.declared.body.Op.{Op}
use Rattle.ir_core.specs.declared.body.Operand.{Operand}
use Rattle.ir_core.specs.declared.body.Out.{Out}
use Rattle.ir_core.specs.declared.body.Source.{Source}
use Rattle.ir_core.specs.declared.body.Source.TheVariants as source
use Rattle.ir_core.specs.declared.cfg.Frame.{Frame}
use Rattle.ir_core.specs.Value.{count_of}
use Rattle.ir_core.specs.Timing.{result_bits}
use Rattle.ir_core.specs.Bodies.{OpTree, op_of}
use Rattle.pass_runs.specs.ConvertRuns.Typed.{HasBits}
use Rattle.passes.specs.Numbering.Constants.{word_of}
use Rattle.program_validity.specs.Widths.{is_width}
use Rattle.program_validity.specs.Operands.{is_at, width_of, is_exactly, is_any_width, has_bits, is_operand, is_operand_if, is_subscript_as, is_subscript}
use Rattle.program_validity.specs.Operations.{is_one, are_two, are_three, is_stored}
use Rattle.valid_trees.specs.Shapes.{frame_shape, words_in}
use Rattle.valid_trees.specs.Operands.{IsOperand, IsOperandIf, AreOperands, IsSubscriptAs, IsSubscript, AreSubscripts, AreStored}

-- ---- tests

pub same_test : (n : ℕ) → (n == n) ≡ true
same_test n = grind arith

pub equal_test : (n m : ℕ) → n ≡ m → (n == m) ≡ true
equal_test n m e = grind arith

pub below_test : (n m : ℕ) → n < m → nat_lt n m ≡ true
below_test n m h = grind arith

-- ---- words and widths

count_small : (n : ℕ) → count_of n ≤ 2 ^ n
count_small n = by (nat_lt n 64) refl where
  by : (c : Bool) → nat_lt n 64 ≡ c → (if c then 2 ^ n else 2 ^ 64) ≤ 2 ^ n
  by true e = omega arith
  by false e = pow_mono (ltb-false n 64 e)

abbrev result_width : OpTree → ℕ
result_width t = result_bits t.kind t.bits

width_at : {S : Type 0} (before : List (Op S)) (j : ℕ) (t : OpTree) → slice_get (map op_of before) j ≡ Some t → option_map (λ (op : Op S). result_bits op.kind op.bits) (slice_get before j) ≡ Some (result_width t)
width_at [] j t e = absurd (none-some t e)
width_at (op ∷ ops) zero t e = ap (option_map result_width) e
width_at (op ∷ ops) (suc j) t e = width_at ops j t e

module _ {S : Type 0} (f : Frame) (before : List (Op S)) where
  abbrev Has : ℕ → Source → Type 0
  Has n s = HasBits f.variables.items (words_in (frame_shape f)) (map op_of before) n s

  -- what is no constant has the width that it is said to have
  pub has_width : (s : Source) (n : ℕ) → Has n s → word_of s ≡ None → width_of f.variables.items before s ≡ Some n
  has_width (source.Constant c) n h e = absurd cc
  has_width (source.Variable v) n h e = h
  has_width (source.Result j) n h e = width_at before j.0 h.0 h.1 ∙ ap Some h.2

  pub bits_hold : (s : Source) (n : ℕ) → Has n s → has_bits f.variables.items before n s ≡ true
  bits_hold (source.Constant c) n h = let most = count_small n in below_test c (2 ^ n) (omega (arith, h, most))
  bits_hold (source.Variable v) n h = ap (is_exactly n) h ∙ same_test n
  bits_hold (source.Result j) n h = ap (is_exactly n) (width_at before j.0 h.0 h.1 ∙ ap Some h.2) ∙ same_test n

-- ---- operands, in a body that carries these outs, behind these operations

module _ {S : Type 0} (f : Frame) (carried : List Out) (before : List (Op S)) where
  abbrev Operand_ : ℕ → Operand → Type 0
  Operand_ n x = IsOperand (frame_shape f) carried (map op_of before) n x

  pub operand_holds : (n : ℕ) (x : Operand) → Operand_ n x → is_operand f.variables.items carried before n x ≡ true
  operand_holds n x h = and_from _ _ (bits_hold f before x.value n h.has) h.distance

  pub operand_if_holds : (n : ℕ) (x : Option Operand) → IsOperandIf (frame_shape f) carried (map op_of before) n x → is_operand_if f.variables.items carried before n x ≡ true
  operand_if_holds n None h = refl
  operand_if_holds n (Some x) h = operand_holds n x h

  pub one_holds : (n : ℕ) (xs : List Operand) → AreOperands (frame_shape f) carried (map op_of before) (n ∷ []) xs → is_one f.variables.items carried before n xs ≡ true
  one_holds n [] h = absurd h
  one_holds n (x ∷ []) h = operand_holds n x h.0
  one_holds n (x ∷ y ∷ ys) h = absurd h.1

  pub two_hold : (n : ℕ) (xs : List Operand) → AreOperands (frame_shape f) carried (map op_of before) (n ∷ n ∷ []) xs → are_two f.variables.items carried before n xs ≡ true
  two_hold n [] h = absurd h
  two_hold n (x ∷ []) h = absurd h.1
  two_hold n (x ∷ y ∷ []) h = and_from _ _ (operand_holds n x h.0) (operand_holds n y h.1.0)
  two_hold n (x ∷ y ∷ z ∷ zs) h = absurd h.1.1

  pub three_hold : (m n : ℕ) (xs : List Operand) → AreOperands (frame_shape f) carried (map op_of before) (m ∷ n ∷ n ∷ []) xs → are_three f.variables.items carried before m n xs ≡ true
  three_hold m n [] h = absurd h
  three_hold m n (x ∷ []) h = absurd h.1
  three_hold m n (x ∷ y ∷ []) h = absurd h.1.1
  three_hold m n (x ∷ y ∷ z ∷ []) h = and_from _ _ (operand_holds m x h.0) (and_from _ _ (operand_holds n y h.1.0) (operand_holds n z h.1.1.0))
  three_hold m n (x ∷ y ∷ z ∷ t ∷ ts) h = absurd h.1.1.1

  -- ---- subscripts

  subscript_holds : (x : Operand) → IsSubscript (frame_shape f) carried (map op_of before) x → is_subscript f.variables.items carried before x ≡ true
  subscript_holds x h = by x.value refl h where
    named : (s : Source) → x.value ≡ s → word_of s ≡ None → ((n : ℕ) × (is_width n ≡ true) × Operand_ n x) → (is_any_width (width_of f.variables.items before s) && is_at carried s x.distance) ≡ true
    named s e none k =
        and_from _ _ (ap is_any_width (has_width f before s k.0 (subst (λ r. HasBits f.variables.items (words_in (frame_shape f)) (map op_of before) k.0 r) e k.2.has) none) ∙ k.1)
        (subst (λ r. is_at carried r x.distance ≡ true) e k.2.distance)

    by : (s : Source) → x.value ≡ s → IsSubscriptAs (frame_shape f) carried (map op_of before) x s → is_subscript_as f.variables.items carried before s x.distance ≡ true
    by (source.Constant c) e k = refl
    by (source.Variable v) e k = named (source.Variable v) e refl k
    by (source.Result j) e k = named (source.Result j) e refl k

  pub subscripts_count : (dims : List ℕ) (xs : List Operand) → AreSubscripts (frame_shape f) carried (map op_of before) dims xs → length xs ≡ length dims
  subscripts_count [] [] h = refl
  subscripts_count [] (x ∷ xs) h = absurd h
  subscripts_count (len ∷ dims) [] h = absurd h
  subscripts_count (len ∷ dims) (x ∷ xs) h = ap suc (subscripts_count dims xs h.1)

  pub subscripts_hold : (dims : List ℕ) (xs : List Operand) → AreSubscripts (frame_shape f) carried (map op_of before) dims xs → list_all (is_subscript f.variables.items carried before) xs ≡ true
  subscripts_hold [] [] h = refl
  subscripts_hold [] (x ∷ xs) h = absurd h
  subscripts_hold (len ∷ dims) [] h = absurd h
  subscripts_hold (len ∷ dims) (x ∷ xs) h = and_from _ _ (subscript_holds x h.0) (subscripts_hold dims xs h.1)

  -- ---- and the value that is stored

  pub stored_count : (n : ℕ) (dims : List ℕ) (xs : List Operand) → AreStored (frame_shape f) carried (map op_of before) n dims xs → length xs ≡ length dims + 1
  stored_count n [] [] h = absurd h
  stored_count n [] (x ∷ []) h = refl
  stored_count n [] (x ∷ y ∷ ys) h = absurd h
  stored_count n (len ∷ dims) [] h = absurd h
  stored_count n (len ∷ dims) (x ∷ xs) h = let e = stored_count n dims xs h.1 in omega (arith, e)

  pub stored_subscripts : (n : ℕ) (dims : List ℕ) (xs : List Operand) → AreStored (frame_shape f) carried (map op_of before) n dims xs → list_all (is_subscript f.variables.items carried before) (take (length dims) xs) ≡ true
  stored_subscripts n [] [] h = absurd h
  stored_subscripts n [] (x ∷ []) h = refl
  stored_subscripts n [] (x ∷ y ∷ ys) h = absurd h
  stored_subscripts n (len ∷ dims) [] h = absurd h
  stored_subscripts n (len ∷ dims) (x ∷ xs) h = and_from _ _ (subscript_holds x h.0) (stored_subscripts n dims xs h.1)

  pub stored_value : (n : ℕ) (dims : List ℕ) (xs : List Operand) → AreStored (frame_shape f) carried (map op_of before) n dims xs → is_stored f.variables.items carried before n (slice_get xs (length dims)) ≡ true
  stored_value n [] [] h = absurd h
  stored_value n [] (x ∷ []) h = operand_holds n x h
  stored_value n [] (x ∷ y ∷ ys) h = absurd h
  stored_value n (len ∷ dims) [] h = absurd h
  stored_value n (len ∷ dims) (x ∷ xs) h = stored_value n dims xs h.1
