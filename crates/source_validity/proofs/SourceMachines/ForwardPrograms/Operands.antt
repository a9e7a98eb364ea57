-- The operands of a valid operation name results of operations before it.
use Rattle.std.proofs.Common.{◌≡◌, ◌∙◌, ℕ, zero, suc, ◌+◌, ◌<◌, ◌≤◌, sym, refl, Bool, true, false, List, [], ◌∷◌, length, take, arith}
use Rattle.std.specs.Prelude.{◌==◌, slice_get, Option, Some, None, IfSome, is_some, if◌then◌else◌}
use Rattle.std.specs.Option.{option_map}
use Rattle.std.specs.List.{All, list_all}
use Rattle.std.proofs.lemmas.Bool.{eqb-true, false≢true}
use Rattle.std.proofs.lemmas.Option.{slice_get_within}
use Rattle.std.proofs.lemmas.List.Elements.{All-nil, All-cons, All-head, All-tail}
use Rattle.hls_base.specs.declared.number.OpId.{OpId}
use Rattle.ir_core.specs.declared.body.Op.{Op}
use Rattle.ir_core.specs.declared.body.OpKind.{OpKind}
use Rattle.ir_core.specs.declared.body.OpKind.TheVariants as o
use Rattle.ir_core.specs.declared.body.Operand.{Operand}
use Rattle.ir_core.specs.declared.body.Out.{Out}
use Rattle.ir_core.specs.declared.body.Source.{Source}
use Rattle.ir_core.specs.declared.body.Source.TheVariants as source
use Rattle.ir_core.specs.Timing.{result_bits}
use Rattle.dep_graph.specs.Offsets.{result_of, maker}
use Rattle.dep_graph.specs.ForwardBodies.{IsEarlier, IsForwardOperand}
use Rattle.program_validity.specs.Operands.{is_at, width_of, is_exactly, is_any_width, has_bits, is_operand, is_operand_if, is_subscript_as, is_subscript}
use Rattle.program_validity.specs.Operations.{is_one, are_two, are_three, converts, is_converted, is_stored}
use Rattle.program_validity.proofs.Parts.{first_of_both, second_of_both}
use Rattle.source_validity.specs.SourceMachines.ForwardPrograms.NearConstants.{IsNearConstant, HasNearConstant}

-- no conversion is from no width
no_conversion : (kind : OpKind) (bits : ℕ) → converts kind bits None ≡ false
no_conversion o.Widen bits = refl
no_conversion o.Narrow bits = refl
no_conversion kind bits = refl

all_one : {A : Type 0} (P : A → Type 0) (x : A) → P x → All P (x ∷ [])
all_one P x h = All-cons P x [] h (All-nil P)

-- in a body that carries these outs to its next iteration, behind these operations
module _ {S : Type 0} (widths : List ℕ) (carried : List Out) (before : List (Op S)) where
  -- ---- results

  -- a result whose width passes a test that no missing one passes
  result_before : (j : OpId) (passes : Option ℕ → Bool) → passes None ≡ false → passes (width_of widths before (source.Result j)) ≡ true → j.0 < length before
  result_before j passes none h = by (slice_get before j.0) refl h where
    by : (op : Option (Op S)) → slice_get before j.0 ≡ op → passes (option_map (λ op. result_bits op.kind op.bits) op) ≡ true → j.0 < length before
    by None e k = absurd (false≢true (sym none ∙ k))
    by (Some op) e k = slice_get_within before j.0 op e

  width_earlier : (s : Source) (passes : Option ℕ → Bool) → passes None ≡ false → passes (width_of widths before s) ≡ true → IsEarlier (length before) (result_of s)
  width_earlier (source.Constant c) passes none h = tt
  width_earlier (source.Variable v) passes none h = tt
  width_earlier (source.Result j) passes none h = result_before j passes none h

  pub bits_earlier : (bits : ℕ) (s : Source) → has_bits widths before bits s ≡ true → IsEarlier (length before) (result_of s)
  bits_earlier bits (source.Constant c) h = tt
  bits_earlier bits (source.Variable v) h = tt
  bits_earlier bits (source.Result j) h = result_before j (is_exactly bits) refl h

  -- ---- distances

  at_near : (s : Source) (distance : ℕ) → is_at carried s distance ≡ true → IsNearConstant s distance → distance ≤ 65536
  at_near (source.Constant c) distance h near = near
  at_near (source.Variable v) distance h near = by (is_some (maker carried v.0)) h where
    by : (t : Bool) → (distance == (if t then 1 else 0)) ≡ true → distance ≤ 65536
    by true e = let is = eqb-true distance 1 e in omega (arith, is)
    by false e = let is = eqb-true distance 0 e in omega (arith, is)
  at_near (source.Result j) distance h near = let is = eqb-true distance 0 h in omega (arith, is)

  -- ---- operands

  abbrev pub IsForward : Operand → Type 0
  IsForward = IsForwardOperand (length before)

  pub operand_forward : (bits : ℕ) (x : Operand) → is_operand widths carried before bits x ≡ true → HasNearConstant x → IsForward x
  operand_forward bits x h near = record {
    earlier = λ e. bits_earlier bits x.value (first_of_both (has_bits widths before bits x.value) _ h);
    near = at_near x.value x.distance (second_of_both (has_bits widths before bits x.value) _ h) near;
  }

  pub operand_if_forward : (bits : ℕ) (x : Option Operand) → is_operand_if widths carried before bits x ≡ true → IfSome x HasNearConstant → IfSome x IsForward
  operand_if_forward bits None h near = tt
  operand_if_forward bits (Some x) h near = operand_forward bits x h near

  -- ---- arguments

  pub one_forward : (bits : ℕ) (xs : List Operand) → is_one widths carried before bits xs ≡ true → All HasNearConstant xs → All IsForward xs
  one_forward bits [] h near = absurd (false≢true h)
  one_forward bits (x ∷ []) h near = all_one IsForward x (operand_forward bits x h (All-head HasNearConstant x [] near))
  one_forward bits (x ∷ y ∷ ys) h near = absurd (false≢true h)

  pub two_forward : (bits : ℕ) (xs : List Operand) → are_two widths carried before bits xs ≡ true → All HasNearConstant xs → All IsForward xs
  two_forward bits [] h near = absurd (false≢true h)
  two_forward bits (x ∷ []) h near = absurd (false≢true h)
  two_forward bits (x ∷ y ∷ []) h near =
      let rest = All-tail HasNearConstant x (y ∷ []) near in
      All-cons IsForward x (y ∷ []) (operand_forward bits x (first_of_both (is_operand widths carried before bits x) _ h) (All-head HasNearConstant x (y ∷ []) near))
      (all_one IsForward y (operand_forward bits y (second_of_both (is_operand widths carried before bits x) _ h) (All-head HasNearConstant y [] rest)))
  two_forward bits (x ∷ y ∷ z ∷ zs) h near = absurd (false≢true h)

  pub three_forward : (first bits : ℕ) (xs : List Operand) → are_three widths carried before first bits xs ≡ true → All HasNearConstant xs → All IsForward xs
  three_forward first bits [] h near = absurd (false≢true h)
  three_forward first bits (x ∷ []) h near = absurd (false≢true h)
  three_forward first bits (x ∷ y ∷ []) h near = absurd (false≢true h)
  three_forward first bits (x ∷ y ∷ z ∷ []) h near =
      let rest = second_of_both (is_operand widths carried before first x) _ h in
      All-cons IsForward x (y ∷ z ∷ []) (operand_forward first x (first_of_both (is_operand widths carried before first x) _ h) (All-head HasNearConstant x (y ∷ z ∷ []) near))
      (two_forward bits (y ∷ z ∷ []) rest (All-tail HasNearConstant x (y ∷ z ∷ []) near))
  three_forward first bits (x ∷ y ∷ z ∷ t ∷ ts) h near = absurd (false≢true h)

  pub converted_forward : (kind : OpKind) (bits : ℕ) (xs : List Operand) → is_converted widths carried before kind bits xs ≡ true → All HasNearConstant xs → All IsForward xs
  converted_forward kind bits [] h near = absurd (false≢true h)
  converted_forward kind bits (x ∷ []) h near =
      let from : converts kind bits (width_of widths before x.value) ≡ true = first_of_both (converts kind bits (width_of widths before x.value)) _ h in
      all_one IsForward x (record {
        earlier = λ e. width_earlier x.value (converts kind bits) (no_conversion kind bits) from;
        near = at_near x.value x.distance (second_of_both (converts kind bits (width_of widths before x.value)) _ h) (All-head HasNearConstant x [] near);
      })
  converted_forward kind bits (x ∷ y ∷ ys) h near = absurd (false≢true h)

  -- ---- subscripts

  subscript_earlier : (s : Source) (distance : ℕ) → is_subscript_as widths carried before s distance ≡ true → IsEarlier (length before) (result_of s)
  subscript_earlier (source.Constant c) distance h = tt
  subscript_earlier (source.Variable v) distance h = tt
  subscript_earlier (source.Result j) distance h = result_before j is_any_width refl (first_of_both (is_any_width (width_of widths before (source.Result j))) _ h)

  subscript_near : (s : Source) (distance : ℕ) → is_subscript_as widths carried before s distance ≡ true → IsNearConstant s distance → distance ≤ 65536
  subscript_near (source.Constant c) distance h near = near
  subscript_near (source.Variable v) distance h near = at_near (source.Variable v) distance (second_of_both (is_any_width (width_of widths before (source.Variable v))) _ h) near
  subscript_near (source.Result j) distance h near = at_near (source.Result j) distance (second_of_both (is_any_width (width_of widths before (source.Result j))) _ h) near

  subscript_forward : (x : Operand) → is_subscript widths carried before x ≡ true → HasNearConstant x → IsForward x
  subscript_forward x h near = record { earlier = λ e. subscript_earlier x.value x.distance h; near = subscript_near x.value x.distance h near }

  pub subscripts_forward : (xs : List Operand) → list_all (is_subscript widths carried before) xs ≡ true → All HasNearConstant xs → All IsForward xs
  subscripts_forward [] h near = All-nil IsForward
  subscripts_forward (x ∷ xs) h near =
      All-cons IsForward x xs (subscript_forward x (first_of_both (is_subscript widths carried before x) _ h) (All-head HasNearConstant x xs near))
      (subscripts_forward xs (second_of_both (is_subscript widths carried before x) _ h) (All-tail HasNearConstant x xs near))

  -- and the value that is stored behind so many of them
  pub stored_forward : (bits count : ℕ) (xs : List Operand) → length xs ≡ count + 1 → list_all (is_subscript widths carried before) (take count xs) ≡ true → is_stored widths carried before bits (slice_get xs count) ≡ true → All HasNearConstant xs → All IsForward xs
  stored_forward bits count [] e h k near = All-nil IsForward
  stored_forward bits zero (x ∷ []) e h k near = all_one IsForward x (operand_forward bits x k (All-head HasNearConstant x [] near))
  stored_forward bits zero (x ∷ y ∷ ys) e h k near = absurd (omega (arith, e))
  stored_forward bits (suc count) (x ∷ xs) e h k near =
      All-cons IsForward x xs (subscript_forward x (first_of_both (is_subscript widths carried before x) _ h) (All-head HasNearConstant x xs near))
      (stored_forward bits count xs (omega (arith, e)) (second_of_both (is_subscript widths carried before x) _ h) k (All-tail HasNearConstant x xs near))
