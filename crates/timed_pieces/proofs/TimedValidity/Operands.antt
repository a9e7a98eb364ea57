-- Operands are valid alike behind operations that are the same but for their times.
use Rattle.std.proofs.Common.{◌≡◌, ◌∙◌, ℕ, zero, suc, refl, sym, ap, ◌&&◌, List, [], ◌∷◌, map, Option, Some, None}
use Rattle.std.specs.Prelude.{slice_get}
use Rattle.std.specs.List.{list_all}
use Rattle.std.specs.Option.{option_map}
use Rattle.ir_core.specs.declared.body.Op.{Op}
use Rattle.ir_core.specs.declared.body.OpKind.{OpKind}
use Rattle.ir_core.specs.declared.body.OpKind.TheVariants as o
use Rattle.ir_core.specs.declared.body.Operand.{Operand}
use Rattle.ir_core.specs.declared.body.Out.{Out}
use Rattle.ir_core.specs.declared.body.Source.{Source}
use Rattle.ir_core.specs.declared.body.Source.TheVariants as source
use Rattle.ir_core.specs.Timing.{result_bits}
use Rattle.ir_core.specs.Bodies.{OpTree, op_of}
use Rattle.program_validity.specs.Operands.{is_at, width_of, is_exactly, is_any_width, has_bits, is_operand, is_operand_if, is_subscript_as, is_subscript}
use Rattle.program_validity.specs.Operations.{is_one, are_two, are_three, converts, is_converted, computes, is_stored}
use Rattle.timed_pieces.proofs.TimedValidity.Lists.{both_same, all_same}

abbrev result_width : OpTree → ℕ
result_width t = result_bits t.kind t.bits

bits_at : {S : Type 0} (ops : List (Op S)) (j : ℕ) → option_map (λ (op : Op S). result_bits op.kind op.bits) (slice_get ops j) ≡ option_map result_width (slice_get (map op_of ops) j)
bits_at [] j = refl
bits_at (op ∷ ops) zero = refl
bits_at (op ∷ ops) (suc j) = bits_at ops j

module _ {S T : Type 0} (v w : List ℕ) (widths : v ≡ w) (carried : List Out) (ls : List (Op S)) (rs : List (Op T)) (ops : map op_of ls ≡ map op_of rs) where
  width_same : (s : Source) → width_of v ls s ≡ width_of w rs s
  width_same (source.Constant c) = refl
  width_same (source.Variable x) = ap (λ (l : List ℕ). slice_get l x.0) widths
  width_same (source.Result j) = bits_at ls j.0 ∙ (ap (λ (l : List OpTree). option_map result_width (slice_get l j.0)) ops ∙ sym (bits_at rs j.0))

  bits_same : (bits : ℕ) (s : Source) → has_bits v ls bits s ≡ has_bits w rs bits s
  bits_same bits (source.Constant c) = refl
  bits_same bits (source.Variable x) = ap (is_exactly bits) (width_same (source.Variable x))
  bits_same bits (source.Result j) = ap (is_exactly bits) (width_same (source.Result j))

  -- ---- operands

  pub operand_same : (bits : ℕ) (x : Operand) → is_operand v carried ls bits x ≡ is_operand w carried rs bits x
  operand_same bits x = ap (λ b. b && is_at carried x.value x.distance) (bits_same bits x.value)

  pub operand_if_same : (bits : ℕ) (x : Option Operand) → is_operand_if v carried ls bits x ≡ is_operand_if w carried rs bits x
  operand_if_same bits None = refl
  operand_if_same bits (Some x) = operand_same bits x

  -- ---- subscripts, and the value that is stored

  subscript_as_same : (s : Source) (distance : ℕ) → is_subscript_as v carried ls s distance ≡ is_subscript_as w carried rs s distance
  subscript_as_same (source.Constant c) distance = refl
  subscript_as_same (source.Variable x) distance = ap (λ (n : Option ℕ). is_any_width n && is_at carried (source.Variable x) distance) (width_same (source.Variable x))
  subscript_as_same (source.Result j) distance = ap (λ (n : Option ℕ). is_any_width n && is_at carried (source.Result j) distance) (width_same (source.Result j))

  pub subscripts_same : (xs : List Operand) → list_all (is_subscript v carried ls) xs ≡ list_all (is_subscript w carried rs) xs
  subscripts_same xs = all_same (is_subscript v carried ls) (is_subscript w carried rs) (λ (x : Operand). subscript_as_same x.value x.distance) xs

  pub stored_same : (bits : ℕ) (x : Option Operand) → is_stored v carried ls bits x ≡ is_stored w carried rs bits x
  stored_same bits None = refl
  stored_same bits (Some x) = operand_same bits x

  -- ---- arguments

  one_same : (bits : ℕ) (xs : List Operand) → is_one v carried ls bits xs ≡ is_one w carried rs bits xs
  one_same bits [] = refl
  one_same bits (x ∷ []) = operand_same bits x
  one_same bits (x ∷ y ∷ ys) = refl

  two_same : (bits : ℕ) (xs : List Operand) → are_two v carried ls bits xs ≡ are_two w carried rs bits xs
  two_same bits [] = refl
  two_same bits (x ∷ []) = refl
  two_same bits (x ∷ y ∷ []) = both_same (operand_same bits x) (operand_same bits y)
  two_same bits (x ∷ y ∷ z ∷ zs) = refl

  three_same : (first bits : ℕ) (xs : List Operand) → are_three v carried ls first bits xs ≡ are_three w carried rs first bits xs
  three_same first bits [] = refl
  three_same first bits (x ∷ []) = refl
  three_same first bits (x ∷ y ∷ []) = refl
  three_same first bits (x ∷ y ∷ z ∷ []) = both_same (operand_same first x) (both_same (operand_same bits y) (operand_same bits z))
  three_same first bits (x ∷ y ∷ z ∷ t ∷ ts) = refl

  converted_same : (kind : OpKind) (bits : ℕ) (xs : List Operand) → is_converted v carried ls kind bits xs ≡ is_converted w carried rs kind bits xs
  converted_same kind bits [] = refl
  converted_same kind bits (x ∷ []) = ap (λ (n : Option ℕ). converts kind bits n && is_at carried x.value x.distance) (width_same x.value)
  converted_same kind bits (x ∷ y ∷ ys) = refl

  pub computes_same : (kind : OpKind) (bits : ℕ) (xs : List Operand) → computes v carried ls kind bits xs ≡ computes w carried rs kind bits xs
  computes_same o.Not bits xs = one_same bits xs
  computes_same o.Neg bits xs = one_same bits xs
  computes_same o.Copy bits xs = one_same bits xs
  computes_same o.Widen bits xs = converted_same o.Widen bits xs
  computes_same o.Narrow bits xs = converted_same o.Narrow bits xs
  computes_same o.Truth bits xs = converted_same o.Truth bits xs
  computes_same o.Select bits xs = three_same 1 bits xs
  computes_same (o.Fused pairing) bits xs = three_same bits bits xs
  computes_same o.Add bits xs = two_same bits xs
  computes_same o.Sub bits xs = two_same bits xs
  computes_same o.Mul bits xs = two_same bits xs
  computes_same o.Div bits xs = two_same bits xs
  computes_same o.Rem bits xs = two_same bits xs
  computes_same o.And bits xs = two_same bits xs
  computes_same o.Or bits xs = two_same bits xs
  computes_same o.Xor bits xs = two_same bits xs
  computes_same o.Shl bits xs = two_same bits xs
  computes_same o.Shr bits xs = two_same bits xs
  computes_same o.Eq bits xs = two_same bits xs
  computes_same o.Ne bits xs = two_same bits xs
  computes_same o.Lt bits xs = two_same bits xs
  computes_same o.Le bits xs = two_same bits xs
  computes_same o.Load bits xs = two_same bits xs
  computes_same o.Store bits xs = two_same bits xs
