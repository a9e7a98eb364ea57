-- Operations on constants that are computed, and those that are not.
use Rattle.std.specs.Prelude.{slice_get, if◌then◌else◌}
use Rattle.std.proofs.Common.{◌≡◌, ◌∙◌, ◌<◌, ◌≤◌, ℕ, Bool, true, false, ◌&&◌, refl, ap, sym, subst, arith, List, [], ◌∷◌, length, Option, Some, None}
use Rattle.ir_core.specs.declared.body.OpKind.{OpKind}
use Rattle.ir_core.specs.declared.body.OpKind.TheVariants as o
use Rattle.ir_core.specs.declared.body.Operand.{Operand}
use Rattle.ir_core.specs.Value.{count_of, value, is_defined}
use Rattle.ir_core.specs.Timing.{result_bits}
use Rattle.ir_core.specs.Bodies.{OpTree}
use Rattle.passes.specs.Numbering.Constants.{word_of, word_in, is_computed, computed_on, computed}
use Rattle.passes.proofs.Equalities.{first}
use Rattle.passes.specs.Conversion.Joining.{is_conversion, first_word}
use Rattle.pass_runs.proofs.ConvertRuns.Fitting.{is_access, value_fits}

some_same : {A : Type 0} {x y : A} → Some x ≡ Some y → x ≡ y
some_same e = cc

none_some : {A B : Type 0} {x : A} → Some x ≡ None → B
none_some e = cc

true_false : {A : Type 0} → true ≡ false → A
true_false e = cc

-- ---- what is computed fits

no_access : (kind : OpKind) → is_computed kind ≡ true → is_access kind ≡ false
no_access o.Load e = absurd cc
no_access o.Store e = absurd cc
no_access kind e = refl

pub computed_fits : (op : OpTree) (from w : ℕ) → computed op from ≡ Some w → w < count_of (result_bits op.kind op.bits)
computed_fits op from w e = at (word_in (slice_get op.args 0)) (word_in (slice_get op.args 1)) (word_in (slice_get op.args 2)) e where
  at : (x y z : Option ℕ) → computed_on op from x y z ≡ Some w → w < count_of (result_bits op.kind op.bits)
  at (Some x) (Some y) (Some z) h = by (is_computed op.kind && is_defined op.kind op.signed op.bits (x ∷ y ∷ z ∷ [])) refl h where
    by : (b : Bool) → (is_computed op.kind && is_defined op.kind op.signed op.bits (x ∷ y ∷ z ∷ [])) ≡ b → (if b then Some (value op.kind op.signed op.bits from (x ∷ y ∷ z ∷ [])) else None) ≡ Some w → w < count_of (result_bits op.kind op.bits)
    by true q k =
        subst (λ j. j < count_of (result_bits op.kind op.bits)) (some_same k)
        (value_fits op.kind op.signed op.bits from (x ∷ y ∷ z ∷ []) (no_access op.kind (first (is_computed op.kind) (is_defined op.kind op.signed op.bits (x ∷ y ∷ z ∷ [])) q)))
    by false q k = absurd cc
  at None y z h = absurd cc
  at (Some x) None z h = absurd cc
  at (Some x) (Some y) None h = absurd cc

-- ---- conversions of constants are computed

-- C gives each conversion a value
conversion_defined : (kind : OpKind) (signed : Bool) (bits : ℕ) (args : List ℕ) → is_conversion kind ≡ true → (is_computed kind && is_defined kind signed bits args) ≡ true
conversion_defined o.Widen signed bits args e = refl
conversion_defined o.Narrow signed bits args e = refl
conversion_defined o.Truth signed bits args e = refl
conversion_defined kind signed bits args e = absurd cc

-- an operation that stays is no conversion of a constant
pub stays_open : (op : OpTree) (from : ℕ) → (is_conversion op.kind ≡ true → length op.args ≤ 1) → computed op from ≡ None → is_conversion op.kind ≡ true → first_word op.args ≡ None
stays_open op from few e c = at op.args (few c) e where
  by : (w : ℕ) (d : Bool) → (is_computed op.kind && is_defined op.kind op.signed op.bits (w ∷ 0 ∷ 0 ∷ [])) ≡ d → d ≡ true → (if d then Some (value op.kind op.signed op.bits from (w ∷ 0 ∷ 0 ∷ [])) else None) ≡ None → Some w ≡ None
  by w true q t k = none_some k
  by w false q t k = true_false (sym t)

  at : (xs : List Operand) → length xs ≤ 1 → computed_on op from (word_in (slice_get xs 0)) (word_in (slice_get xs 1)) (word_in (slice_get xs 2)) ≡ None → first_word xs ≡ None
  at [] l k = refl
  at (x ∷ []) l k = of (word_of x.value) refl k where
    of : (w : Option ℕ) → word_of x.value ≡ w → computed_on op from (word_of x.value) (Some 0) (Some 0) ≡ None → word_of x.value ≡ None
    of None q m = q
    of (Some w) q m =
        q ∙ by w (is_computed op.kind && is_defined op.kind op.signed op.bits (w ∷ 0 ∷ 0 ∷ [])) refl (conversion_defined op.kind op.signed op.bits (w ∷ 0 ∷ 0 ∷ []) c) (ap (λ z. computed_on op from z (Some 0) (Some 0)) (sym q) ∙ m)
  at (x ∷ y ∷ xs) l k = absurd (omega (arith, l))
