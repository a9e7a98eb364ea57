-- What an operation gives, and where C gives it a value, by its kind and its first three operands.
use Rattle.std.proofs.Common.{◌≡◌, ◌∙◌, ℕ, zero, suc, Bool, true, false, ◌&&◌, ◌||◌, refl, ap, ap₂, sym, List, [], ◌∷◌, map, Option, Some, None}
use Rattle.std.specs.Prelude.{slice_get, get_or, is_some, if◌then◌else◌}
use Rattle.hls_base.specs.declared.number.ArrayId.{ArrayId}
use Rattle.hls_base.specs.declared.place.Place.{Place}
use Rattle.hls_base.specs.declared.refusal.UbRule.{UbRule}
use Rattle.ir_core.specs.declared.body.OpKind.{OpKind}
use Rattle.ir_core.specs.declared.body.OpKind.TheVariants as o
use Rattle.ir_core.specs.declared.body.Operand.{Operand}
use Rattle.ir_core.specs.declared.body.Source.{Source}
use Rattle.ir_core.specs.declared.body.Source.TheVariants as source
use Rattle.ir_core.specs.Value.{value, value_at, number_of, is_defined, is_defined_at}
use Rattle.hls_base.specs.Valued.{is}
use Rattle.ir_core.specs.Bodies.{OpTree, Shapes, Words, Performed, performed, word, operand, first_bits, operand_bits, fault, fault_of, broken_rule, effect, fault_if, with_stored}
use Rattle.passes.specs.Numbering.Constants.{word_of, word_in, is_computed, computed, computed_on}
use Rattle.passes.specs.Numbering.{is_common}
use Rattle.passes.proofs.Equalities.{Alike, false_true, first, second}
use Rattle.passes.specs.NumberRuns.Ordered.{is_total}
use Rattle.passes.proofs.NumberRuns.Lists.{map_at}

-- ---- kinds

pub computed_common : (kind : OpKind) → is_computed kind ≡ true → is_common kind ≡ true
computed_common o.Load e = false_true e
computed_common o.Store e = false_true e
computed_common kind e = refl

pub total_defined : (kind : OpKind) (signed : Bool) (bits : ℕ) (args : List ℕ) → is_total kind signed ≡ true → is_defined kind signed bits args ≡ true
total_defined o.Add false bits args e = refl
total_defined o.Sub false bits args e = refl
total_defined o.Mul false bits args e = refl
total_defined o.Neg false bits args e = refl
total_defined o.Add true bits args e = false_true e
total_defined o.Sub true bits args e = false_true e
total_defined o.Mul true bits args e = false_true e
total_defined o.Neg true bits args e = false_true e
total_defined o.Div signed bits args e = false_true e
total_defined o.Rem signed bits args e = false_true e
total_defined o.Shl signed bits args e = false_true e
total_defined o.Shr signed bits args e = false_true e
total_defined kind signed bits args e = refl

-- ---- faults and effects of operations that are no loads and stores

module _ (shapes : Shapes) (op : OpTree) where
  fault_plain : (kind : OpKind) (args : List ℕ) → is_common kind ≡ true → fault_of shapes op kind args ≡ (if is_defined kind op.signed op.bits args then None else Some (broken_rule kind op.bits args))
  fault_plain o.Load args e = false_true e
  fault_plain o.Store args e = false_true e
  fault_plain kind args e = refl

  pub no_fault : (args : List ℕ) → is_common op.kind ≡ true → is_defined op.kind op.signed op.bits args ≡ true → fault shapes op args ≡ None
  no_fault args e d = fault_plain op.kind args e ∙ ap (λ b. if b then None else Some (broken_rule op.kind op.bits args)) d

  effect_plain : (kind : OpKind) (allowed : Bool) (from : ℕ) (args : List ℕ) (t : Words) → is_common kind ≡ true → effect shapes op kind allowed from args t ≡ performed (value kind op.signed op.bits from args) t
  effect_plain o.Load allowed from args t e = false_true e
  effect_plain o.Store allowed from args t e = false_true e
  effect_plain kind allowed from args t e = refl

  fault_none : (allowed : Bool) (flag : Option Place) (p : Performed) → fault_if allowed flag None p ≡ is p
  fault_none true None p = refl
  fault_none true (Some at) p = refl
  fault_none false flag p = refl

  -- an operation that C gives a value
  pub defined_performs : (allowed : Bool) (from : ℕ) (args : List ℕ) (t : Words) → is_common op.kind ≡ true → is_defined op.kind op.signed op.bits args ≡ true
      → fault_if allowed op.flag (fault shapes op args) (effect shapes op op.kind allowed from args t) ≡ is (performed (value op.kind op.signed op.bits from args) t)
  defined_performs allowed from args t e d =
      ap (λ r. fault_if allowed op.flag r (effect shapes op op.kind allowed from args t)) (no_fault args e d)
      ∙ fault_none allowed op.flag (effect shapes op op.kind allowed from args t) ∙ ap is (effect_plain op.kind allowed from args t e)

  defined_at : (b : Bool) (at : Place) (args : List ℕ) (from : ℕ) (t : Words) (p : Performed)
      → fault_if true (Some at) (if b then None else Some (broken_rule op.kind op.bits args)) (performed (value op.kind op.signed op.bits from args) t) ≡ is p → b ≡ true
  defined_at true at args from t p e = refl
  defined_at false at args from t p e = absurd cc

  flag_defined : (flag : Option Place) (from : ℕ) (args : List ℕ) (t : Words) (p : Performed) → (is_some flag || is_total op.kind op.signed) ≡ true
      → fault_if true flag (if is_defined op.kind op.signed op.bits args then None else Some (broken_rule op.kind op.bits args)) (performed (value op.kind op.signed op.bits from args) t) ≡ is p
      → is_defined op.kind op.signed op.bits args ≡ true
  flag_defined None from args t p h e = total_defined op.kind op.signed op.bits args h
  flag_defined (Some at) from args t p h e = defined_at (is_defined op.kind op.signed op.bits args) at args from t p e

  performs_as : (from : ℕ) (args : List ℕ) (t : Words) → is_common op.kind ≡ true
      → fault_if true op.flag (fault shapes op args) (effect shapes op op.kind true from args t)
      ≡ fault_if true op.flag (if is_defined op.kind op.signed op.bits args then None else Some (broken_rule op.kind op.bits args)) (performed (value op.kind op.signed op.bits from args) t)
  performs_as from args t e = ap₂ (λ r p. fault_if true op.flag r p) (fault_plain op.kind args e) (effect_plain op.kind true from args t e)

  some_is : (p q : Performed) → is p ≡ is q → p ≡ q
  some_is p q e = cc

  -- an operation without a guard that has no fault is defined, and gives its value
  pub performs_defined : (from : ℕ) (args : List ℕ) (t : Words) (p : Performed) → is_common op.kind ≡ true → (is_some op.flag || is_total op.kind op.signed) ≡ true
      → fault_if true op.flag (fault shapes op args) (effect shapes op op.kind true from args t) ≡ is p
      → (is_defined op.kind op.signed op.bits args ≡ true) × (value op.kind op.signed op.bits from args ≡ p.result)
  performs_defined from args t p c h e =
      let d = flag_defined op.flag from args t p h (sym (performs_as from args t c) ∙ e) in
      (d, ap (λ (q : Performed). q.result) (some_is (performed (value op.kind op.signed op.bits from args) t) p (sym (defined_performs true from args t c d) ∙ e)))

  fault_is : (allowed : Bool) (flag : Option Place) (rule : Option UbRule) (p q : Performed) → fault_if allowed flag rule p ≡ is q → p ≡ q
  fault_is true (Some at) (Some rule) p q e = absurd cc
  fault_is true (Some at) None p q e = some_is p q e
  fault_is true None rule p q e = some_is p q e
  fault_is false flag rule p q e = some_is p q e

  -- ---- variables stay

  stored_stays : (array : Option ArrayId) (args : List ℕ) (t : Words) → (with_stored shapes array args t).variables ≡ t.variables
  stored_stays None args t = refl
  stored_stays (Some array) args t = refl

  effect_stays : (kind : OpKind) (allowed : Bool) (from : ℕ) (args : List ℕ) (t : Words) → (effect shapes op kind allowed from args t).words.variables ≡ t.variables
  effect_stays o.Load true from args t = refl
  effect_stays o.Load false from args t = refl
  effect_stays o.Store true from args t = stored_stays op.array args t
  effect_stays o.Store false from args t = refl
  effect_stays kind allowed from args t = refl

  pub performs_stays : (allowed : Bool) (from : ℕ) (args : List ℕ) (t : Words) (p : Performed)
      → fault_if allowed op.flag (fault shapes op args) (effect shapes op op.kind allowed from args t) ≡ is p → p.words.variables ≡ t.variables
  performs_stays allowed from args t p e =
      ap (λ (q : Performed). q.words.variables) (sym (fault_is allowed op.flag (fault shapes op args) (effect shapes op op.kind allowed from args t) p e)) ∙ effect_stays op.kind allowed from args t

  effect_same : (kind : OpKind) (allowed : Bool) (m n : ℕ) (args : List ℕ) (t : Words) → value kind op.signed op.bits m args ≡ value kind op.signed op.bits n args
      → effect shapes op kind allowed m args t ≡ effect shapes op kind allowed n args t
  effect_same o.Load true m n args t e = refl
  effect_same o.Load false m n args t e = refl
  effect_same o.Store true m n args t e = refl
  effect_same o.Store false m n args t e = refl
  effect_same kind allowed m n args t e = ap (λ w. performed w t) e

  pub performs_same : (allowed : Bool) (m n : ℕ) (args : List ℕ) (t : Words) → value op.kind op.signed op.bits m args ≡ value op.kind op.signed op.bits n args
      → fault_if allowed op.flag (fault shapes op args) (effect shapes op op.kind allowed m args t) ≡ fault_if allowed op.flag (fault shapes op args) (effect shapes op op.kind allowed n args t)
  performs_same allowed m n args t e = ap (λ p. fault_if allowed op.flag (fault shapes op args) p) (effect_same op.kind allowed m n args t e)

-- ---- the width of the first operand counts where numbers are widened

abbrev pub is_widen : OpKind → Bool
is_widen o.Widen = true
is_widen kind = false

pub widens : (kind : OpKind) → is_widen kind ≡ true → kind ≡ o.Widen
widens o.Widen e = refl
widens kind e = false_true e

pub from_free : (kind : OpKind) (signed : Bool) (bits m n : ℕ) (args : List ℕ) → is_widen kind ≡ false → value kind signed bits m args ≡ value kind signed bits n args
from_free o.Widen signed bits m n args e = false_true (sym e)
from_free kind signed bits m n args e = refl

none_some : {A : Type 0} (x : A) → None ≡ Some x → ⊥
none_some x e = cc

widened_constant : (op : OpTree) (from x y z : ℕ) → op.kind ≡ o.Widen → computed_on op from (Some x) (Some y) (Some z) ≡ None → ⊥
widened_constant op from x y z e h =
    none_some (value o.Widen op.signed op.bits from (x ∷ y ∷ z ∷ []))
    (sym h ∙ ap (λ k. if is_computed k && is_defined k op.signed op.bits (x ∷ y ∷ z ∷ []) then Some (value k op.signed op.bits from (x ∷ y ∷ z ∷ [])) else None) e)

-- a number that is widened and not computed is no constant
pub no_constant : (op : OpTree) (from : ℕ) (x : Operand) → op.kind ≡ o.Widen → computed_on op from (word_of x.value) (Some 0) (Some 0) ≡ None → word_of x.value ≡ None
no_constant op from x e h = found (word_of x.value) h where
  found : (c : Option ℕ) → computed_on op from c (Some 0) (Some 0) ≡ None → c ≡ None
  found None k = refl
  found (Some w) k = absurd (widened_constant op from w 0 0 e k)

-- ---- operations that are computed

word_held : (t : Words) (results : List ℕ) (s : Source) (w : ℕ) → word_of s ≡ Some w → word t results s ≡ w
word_held t results (source.Constant c) w e = cc
word_held t results (source.Variable v) w e = absurd cc
word_held t results (source.Result op) w e = absurd cc

constant_at : (t : Words) (results : List ℕ) (xs : List Operand) (i w : ℕ) → word_in (slice_get xs i) ≡ Some w → get_or (map (operand t results) xs) i 0 ≡ w
constant_at t results [] i w e = cc
constant_at t results (x ∷ xs) zero w e = word_held t results x.value w e
constant_at t results (x ∷ xs) (suc i) w e = constant_at t results xs i w e

-- it is defined on what its operands hold, and gives the word
pub record Computes (op : OpTree) (from : ℕ) (args : List ℕ) (w : ℕ) : Type 0 where
  pub common : is_common op.kind ≡ true
  pub defined : is_defined op.kind op.signed op.bits args ≡ true
  pub gives : value op.kind op.signed op.bits from args ≡ w

computes_on : (op : OpTree) (from : ℕ) (args : List ℕ) (w x y z : ℕ) → get_or args 0 0 ≡ x → get_or args 1 0 ≡ y → get_or args 2 0 ≡ z
    → computed_on op from (Some x) (Some y) (Some z) ≡ Some w → Computes op from args w
computes_on op from args w x y z ex ey ez e = by_test (is_computed op.kind && is_defined op.kind op.signed op.bits (x ∷ y ∷ z ∷ [])) refl e where
  d : is_defined op.kind op.signed op.bits args ≡ is_defined op.kind op.signed op.bits (x ∷ y ∷ z ∷ [])
  d = ap₂ (λ p q. is_defined_at op.kind op.signed op.bits (number_of op.signed op.bits p) (number_of op.signed op.bits q) q) ex ey

  v : value op.kind op.signed op.bits from args ≡ value op.kind op.signed op.bits from (x ∷ y ∷ z ∷ [])
  v = λ i. value_at op.kind op.signed op.bits from (ex i) (ey i) (ez i)

  some_some : (m n : ℕ) → Some m ≡ Some n → m ≡ n
  some_some m n h = cc

  by_test : (b : Bool) → b ≡ (is_computed op.kind && is_defined op.kind op.signed op.bits (x ∷ y ∷ z ∷ []))
      → (if b then Some (value op.kind op.signed op.bits from (x ∷ y ∷ z ∷ [])) else None) ≡ Some w → Computes op from args w
  by_test true h k = record {
    common = computed_common op.kind (first (is_computed op.kind) (is_defined op.kind op.signed op.bits (x ∷ y ∷ z ∷ [])) (sym h));
    defined = d ∙ second (is_computed op.kind) (is_defined op.kind op.signed op.bits (x ∷ y ∷ z ∷ [])) (sym h);
    gives = v ∙ some_some (value op.kind op.signed op.bits from (x ∷ y ∷ z ∷ [])) w k;
  }
  by_test false h k = absurd (none_some w k)

pub computes : (op : OpTree) (from w : ℕ) (t : Words) (results : List ℕ) → computed op from ≡ Some w → Computes op from (map (operand t results) op.args) w
computes op from w t results e =
    by_words (word_in (slice_get op.args 0)) (word_in (slice_get op.args 1)) (word_in (slice_get op.args 2)) refl refl refl e where
      by_words : (x y z : Option ℕ) → word_in (slice_get op.args 0) ≡ x → word_in (slice_get op.args 1) ≡ y → word_in (slice_get op.args 2) ≡ z
          → computed_on op from x y z ≡ Some w → Computes op from (map (operand t results) op.args) w
      by_words (Some x) (Some y) (Some z) ex ey ez h =
          computes_on op from (map (operand t results) op.args) w x y z (constant_at t results op.args 0 x ex) (constant_at t results op.args 1 y ey) (constant_at t results op.args 2 z ez) h
      by_words None y z ex ey ez h = absurd (none_some w h)
      by_words (Some x) None z ex ey ez h = absurd (none_some w h)
      by_words (Some x) (Some y) None ex ey ez h = absurd (none_some w h)

-- ---- equal operations

module _ (x y : OpTree) (alike : Alike x y) (t : Words) (results : List ℕ) where
  abbrev xs : List ℕ
  xs = map (operand t results) x.args

  abbrev ys : List ℕ
  ys = map (operand t results) y.args

  first_at : get_or xs 0 0 ≡ get_or ys 0 0
  first_at = map_at (operand t results) x.args y.args 0 alike.first

  second_at : get_or xs 1 0 ≡ get_or ys 1 0
  second_at = map_at (operand t results) x.args y.args 1 alike.second

  third_at : get_or xs 2 0 ≡ get_or ys 2 0
  third_at = map_at (operand t results) x.args y.args 2 alike.third

  pub alike_defined : is_defined x.kind x.signed x.bits xs ≡ is_defined y.kind y.signed y.bits ys
  alike_defined = λ i. is_defined_at (alike.kind i) (alike.signed i) (alike.bits i) (number_of (alike.signed i) (alike.bits i) (first_at i)) (number_of (alike.signed i) (alike.bits i) (second_at i)) (second_at i)

  pub alike_value : (m n : ℕ) → m ≡ n → value x.kind x.signed x.bits m xs ≡ value y.kind y.signed y.bits n ys
  alike_value m n e = λ i. value_at (alike.kind i) (alike.signed i) (alike.bits i) (e i) (first_at i) (second_at i) (third_at i)

pub alike_first_bits : (widths : List ℕ) (ops : List OpTree) (x y : OpTree) → x.bits ≡ y.bits → (xs ys : List Operand) → slice_get xs 0 ≡ slice_get ys 0
    → first_bits widths ops x xs ≡ first_bits widths ops y ys
alike_first_bits widths ops x y e [] [] h = e
alike_first_bits widths ops x y e [] (b ∷ bs) h = absurd (none_some b h)
alike_first_bits widths ops x y e (a ∷ as_) [] h = absurd (none_some a (sym h))
alike_first_bits widths ops x y e (a ∷ as_) (b ∷ bs) h = let p = the_same a b h in λ i. operand_bits widths ops (e i) (p i).value where
  the_same : (a b : Operand) → Some a ≡ Some b → a ≡ b
  the_same a b k = cc
