-- The operands of a valid operation, in the words of sound programs.
use Rattle.std.proofs.Common.{◌≡◌, ◌∙◌, ℕ, zero, suc, ◌+◌, ◌<◌, sym, refl, ap, Bool, true, false, List, [], ◌∷◌, length, take, arith, inl, inr}
use Rattle.std.specs.Prelude.{◌==◌, ◌⊎◌, slice_get, Option, Some, None, is_some, if◌then◌else◌}
use Rattle.std.specs.Option.{option_map}
use Rattle.std.specs.List.{list_all}
use Rattle.std.proofs.lemmas.Bool.{eqb-true, false≢true}
use Rattle.std.proofs.lemmas.Option.{slice_get_within}
use Rattle.hls_base.specs.declared.number.OpId.{OpId}
use Rattle.ir_core.specs.declared.body.Op.{Op}
use Rattle.ir_core.specs.declared.body.OpKind.{OpKind}
use Rattle.ir_core.specs.declared.body.OpKind.TheVariants as o
use Rattle.ir_core.specs.declared.body.Operand.{Operand}
use Rattle.ir_core.specs.declared.body.Out.{Out}
use Rattle.ir_core.specs.declared.body.Source.{Source}
use Rattle.ir_core.specs.declared.body.Source.TheVariants as source
use Rattle.ir_core.specs.Bodies.{OpTree, Shapes, op_of}
use Rattle.ir_core.specs.Timing.{result_bits}
use Rattle.dep_graph.specs.Offsets.{maker}
use Rattle.program_validity.specs.Operands.{is_at, width_of, is_exactly, is_any_width, has_bits, is_operand, is_operand_if, is_subscript_as, is_subscript}
use Rattle.program_validity.specs.Operations.{is_one, are_two, are_three, converts, is_converted, computes, is_stored}
use Rattle.program_validity.proofs.Parts.{first_of_both, second_of_both}
use Rattle.clock_runs.specs.Premises.{Each, IsOperandAs, IsOperand, IsOperandIf, HasWidth}

-- no conversion is from no width
no_conversion : (kind : OpKind) (bits : ℕ) → converts kind bits None ≡ false
no_conversion o.Widen bits = refl
no_conversion o.Narrow bits = refl
no_conversion kind bits = refl

pub exactly : (bits : ℕ) (width : Option ℕ) → is_exactly bits width ≡ true → width ≡ Some bits
exactly bits None h = absurd (false≢true h)
exactly bits (Some n) h = ap (λ k. Some k) (eqb-true n bits h)

-- what passes a test that no missing width passes is there
some_width : (passes : Option ℕ → Bool) (width : Option ℕ) → passes None ≡ false → passes width ≡ true → (n : ℕ) × (width ≡ Some n)
some_width passes None none h = absurd (false≢true (sym none ∙ h))
some_width passes (Some n) none h = (n, refl)

-- in a body that carries these outs to its next iteration, behind these operations
module _ {S : Type 0} (widths : List ℕ) (carried : List Out) (before : List (Op S)) where
  -- a constant, or what has a width, at its distance
  abbrev pub NamesAs : Source → ℕ → Type 0
  NamesAs (source.Constant c) distance = Unit {0}
  NamesAs s distance = ((n : ℕ) × (width_of widths before s ≡ Some n)) × (is_at carried s distance ≡ true)

  abbrev pub Names : Operand → Type 0
  Names x = NamesAs x.value x.distance

  names_by : (s : Source) (distance : ℕ) (passes : Option ℕ → Bool) → passes None ≡ false → passes (width_of widths before s) ≡ true → is_at carried s distance ≡ true → NamesAs s distance
  names_by (source.Constant c) distance passes none h at = tt
  names_by (source.Variable v) distance passes none h at = (some_width passes (width_of widths before (source.Variable v)) none h, at)
  names_by (source.Result j) distance passes none h at = (some_width passes (width_of widths before (source.Result j)) none h, at)

  bits_name : (bits : ℕ) (s : Source) (distance : ℕ) → has_bits widths before bits s ≡ true → is_at carried s distance ≡ true → NamesAs s distance
  bits_name bits (source.Constant c) distance h at = tt
  bits_name bits (source.Variable v) distance h at = names_by (source.Variable v) distance (is_exactly bits) refl h at
  bits_name bits (source.Result j) distance h at = names_by (source.Result j) distance (is_exactly bits) refl h at

  pub operand_names : (bits : ℕ) (x : Operand) → is_operand widths carried before bits x ≡ true → Names x
  operand_names bits x h = (let has = has_bits widths before bits x.value in bits_name bits x.value x.distance (first_of_both has _ h) (second_of_both has _ h))

  -- ---- arguments

  one_names : (bits : ℕ) (xs : List Operand) → is_one widths carried before bits xs ≡ true → Each Names xs
  one_names bits [] h = absurd (false≢true h)
  one_names bits (x ∷ []) h = (operand_names bits x h, tt)
  one_names bits (x ∷ y ∷ ys) h = absurd (false≢true h)

  two_name : (bits : ℕ) (xs : List Operand) → are_two widths carried before bits xs ≡ true → Each Names xs
  two_name bits [] h = absurd (false≢true h)
  two_name bits (x ∷ []) h = absurd (false≢true h)
  two_name bits (x ∷ y ∷ []) h =
      let first = is_operand widths carried before bits x in
      (operand_names bits x (first_of_both first _ h), (operand_names bits y (second_of_both first _ h), tt))
  two_name bits (x ∷ y ∷ z ∷ zs) h = absurd (false≢true h)

  three_name : (first bits : ℕ) (xs : List Operand) → are_three widths carried before first bits xs ≡ true → Each Names xs
  three_name first bits [] h = absurd (false≢true h)
  three_name first bits (x ∷ []) h = absurd (false≢true h)
  three_name first bits (x ∷ y ∷ []) h = absurd (false≢true h)
  three_name first bits (x ∷ y ∷ z ∷ []) h =
      let leading = is_operand widths carried before first x in
      (operand_names first x (first_of_both leading _ h), two_name bits (y ∷ z ∷ []) (second_of_both leading _ h))
  three_name first bits (x ∷ y ∷ z ∷ t ∷ ts) h = absurd (false≢true h)

  converted_names : (kind : OpKind) (bits : ℕ) (xs : List Operand) → is_converted widths carried before kind bits xs ≡ true → Each Names xs
  converted_names kind bits [] h = absurd (false≢true h)
  converted_names kind bits (x ∷ []) h =
      let from = converts kind bits (width_of widths before x.value) in
      (names_by x.value x.distance (converts kind bits) (no_conversion kind bits) (first_of_both from _ h) (second_of_both from _ h), tt)
  converted_names kind bits (x ∷ y ∷ ys) h = absurd (false≢true h)

  pub arguments_name : (kind : OpKind) (bits : ℕ) (xs : List Operand) → computes widths carried before kind bits xs ≡ true → Each Names xs
  arguments_name o.Not bits xs h = one_names bits xs h
  arguments_name o.Neg bits xs h = one_names bits xs h
  arguments_name o.Copy bits xs h = one_names bits xs h
  arguments_name o.Widen bits xs h = converted_names o.Widen bits xs h
  arguments_name o.Narrow bits xs h = converted_names o.Narrow bits xs h
  arguments_name o.Truth bits xs h = converted_names o.Truth bits xs h
  arguments_name o.Select bits xs h = three_name 1 bits xs h
  arguments_name (o.Fused pairing) bits xs h = three_name bits bits xs h
  arguments_name kind bits xs h = two_name bits xs h

  -- ---- subscripts

  subscript_names : (s : Source) (distance : ℕ) → is_subscript_as widths carried before s distance ≡ true → NamesAs s distance
  subscript_names (source.Constant c) distance h = tt
  subscript_names (source.Variable v) distance h =
      let any = is_any_width (width_of widths before (source.Variable v)) in
      names_by (source.Variable v) distance is_any_width refl (first_of_both any _ h) (second_of_both any _ h)
  subscript_names (source.Result j) distance h =
      let any = is_any_width (width_of widths before (source.Result j)) in
      names_by (source.Result j) distance is_any_width refl (first_of_both any _ h) (second_of_both any _ h)

  pub subscripts_name : (xs : List Operand) → list_all (is_subscript widths carried before) xs ≡ true → Each Names xs
  subscripts_name [] h = tt
  subscripts_name (x ∷ xs) h =
      let first = is_subscript widths carried before x in
      (subscript_names x.value x.distance (first_of_both first _ h), subscripts_name xs (second_of_both first _ h))

  -- and the value that is stored behind so many of them
  pub stored_name : (bits count : ℕ) (xs : List Operand) → length xs ≡ count + 1 → list_all (is_subscript widths carried before) (take count xs) ≡ true → is_stored widths carried before bits (slice_get xs count) ≡ true → Each Names xs
  stored_name bits count [] e h k = tt
  stored_name bits zero (x ∷ []) e h k = (operand_names bits x k, tt)
  stored_name bits zero (x ∷ y ∷ ys) e h k = absurd (omega (arith, e))
  stored_name bits (suc count) (x ∷ xs) e h k =
      let first = is_subscript widths carried before x in
      (subscript_names x.value x.distance (first_of_both first _ h), stored_name bits count xs (omega (arith, e)) (second_of_both first _ h) k)

  -- ---- the same in the words of sound programs

  some_before : (j n : ℕ) → option_map (λ (op : Op S). result_bits op.kind op.bits) (slice_get before j) ≡ Some n → j < length before
  some_before j n e = by (slice_get before j) refl e where
    by : (op : Option (Op S)) → slice_get before j ≡ op → option_map (λ (op : Op S). result_bits op.kind op.bits) op ≡ Some n → j < length before
    by None at e = absurd cc
    by (Some op) at e = slice_get_within before j op at

  stands_as : (s : Source) (distance : ℕ) → NamesAs s distance → IsOperandAs carried (length before) s distance
  stands_as (source.Constant c) distance h = tt
  stands_as (source.Variable v) distance h = by (maker carried v.0) refl h.1 where
    by : (m : Option OpId) → maker carried v.0 ≡ m → (distance == (if is_some m then 1 else 0)) ≡ true → ((distance ≡ 0) × (maker carried v.0 ≡ None)) ⊎ ((distance ≡ 1) × ((j : OpId) × (maker carried v.0 ≡ Some j)))
    by None e at = inl (eqb-true distance 0 at, e)
    by (Some j) e at = inr (eqb-true distance 1 at, (j, e))
  stands_as (source.Result j) distance h = (eqb-true distance 0 h.1, some_before j.0 h.0.0 h.0.1)

  pub operand_stands : (bits : ℕ) (x : Operand) → is_operand widths carried before bits x ≡ true → IsOperand carried (length before) x
  operand_stands bits x h = stands_as x.value x.distance (operand_names bits x h)

  pub operand_if_stands : (bits : ℕ) (x : Option Operand) → is_operand_if widths carried before bits x ≡ true → IsOperandIf carried (length before) x
  operand_if_stands bits None h = tt
  operand_if_stands bits (Some x) h = operand_stands bits x h

  pub operands_stand : (xs : List Operand) → Each Names xs → Each (IsOperand carried (length before)) xs
  operands_stand [] h = tt
  operands_stand (x ∷ xs) h = (stands_as x.value x.distance h.0, operands_stand xs h.1)

-- ---- widths

-- among these operations, of which the first ones stand before
module _ {S : Type 0} (shapes : Shapes) (carried : List Out) (before : List (Op S)) (ops : List OpTree) (within : (j : ℕ) (op : Op S) → slice_get before j ≡ Some op → slice_get ops j ≡ Some (op_of op)) where
  result_width : (bits j : ℕ) → is_exactly bits (option_map (λ (op : Op S). result_bits op.kind op.bits) (slice_get before j)) ≡ true → option_map (λ (op : OpTree). result_bits op.kind op.bits) (slice_get ops j) ≡ Some bits
  result_width bits j h = by (slice_get before j) refl h where
    by : (found : Option (Op S)) → slice_get before j ≡ found → is_exactly bits (option_map (λ (op : Op S). result_bits op.kind op.bits) found) ≡ true → option_map (λ (op : OpTree). result_bits op.kind op.bits) (slice_get ops j) ≡ Some bits
    by None e k = absurd (false≢true k)
    by (Some op) e k = ap (option_map (λ (t : OpTree). result_bits t.kind t.bits)) (within j op e) ∙ exactly bits (Some (result_bits op.kind op.bits)) k

  has_width : (bits : ℕ) (s : Source) → has_bits shapes.widths before bits s ≡ true → HasWidth shapes ops bits s
  has_width bits (source.Constant c) h = tt
  has_width bits (source.Variable v) h = exactly bits (slice_get shapes.widths v.0) h
  has_width bits (source.Result j) h = result_width bits j.0 h

  pub two_wide : (bits : ℕ) (xs : List Operand) → are_two shapes.widths carried before bits xs ≡ true → Each (λ (x : Operand). HasWidth shapes ops bits x.value) xs
  two_wide bits [] h = absurd (false≢true h)
  two_wide bits (x ∷ []) h = absurd (false≢true h)
  two_wide bits (x ∷ y ∷ []) h =
      let wide = λ (z : Operand) (k : is_operand shapes.widths carried before bits z ≡ true). has_width bits z.value (first_of_both (has_bits shapes.widths before bits z.value) _ k) in
      let first = is_operand shapes.widths carried before bits x in
      (wide x (first_of_both first _ h), (wide y (second_of_both first _ h), tt))
  two_wide bits (x ∷ y ∷ z ∷ zs) h = absurd (false≢true h)
