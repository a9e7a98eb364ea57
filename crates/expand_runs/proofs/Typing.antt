-- Stores in which each number is of the type of its place.
use Rattle.std.proofs.Common.{◌≡◌, ◌≢◌, ℕ, ◌∙◌, sym, refl, ap, subst, inl, inr, ℤ, pos, List, Option, Some, None, Bool, true, false, true≢false, if◌then◌else◌}
use Rattle.std.proofs.lemmas.Bool.Decides.{eqb_tells}
use Rattle.std.proofs.lemmas.Bool.{eq-eqb}
use Rattle.c_token.specs.declared.ctype.CType.{CType}
use Rattle.c_tree.specs.declared.operator.Binary.{Binary}
use Rattle.c_tree.specs.declared.operator.Binary.TheVariants as b
use Rattle.std.specs.Ordering.{int_eq}
use Rattle.c_token.specs.declared.ctype.CType.TheVariants as t
use Rattle.c_value.specs.Values.{integer, int_type, convert, number_of}
use Rattle.c_value.specs.Operators as o
use Rattle.c_value.specs.Operators.{Computed, truth, is_true, unary_value, binary_value, binary_kind}
use Rattle.c_meaning.specs.ValueLaws.{IsCongruent}
use Rattle.c_meaning.proofs.Conversions.{conversions_are_congruent}
use Rattle.pieces.specs.Trees as tree
use Rattle.pieces.specs.Trees.{PureTree}
use Rattle.pieces.specs.Kind.{kind}
use Rattle.hls_base.specs.declared.refusal.UbRule.TheVariants as ub
use Rattle.piece_making.specs.Saving.{is_logical}
use Rattle.hls_base.specs.declared.place.Place.{Place}
use Rattle.hls_base.specs.declared.refusal.UbRule.{UbRule}
use Rattle.hls_base.specs.Valued.{Valued, is, faulty, and_then}
use Rattle.c_meaning.specs.PieceRuns.Values.{Store, with_number, with_variable, computed, joined, element_at, element_number, value, values}
use Rattle.c_meaning.specs.PieceRuns.Pieces.{Frame, kind_at}
use Rattle.expand_runs.specs.Reading.{IsNumber, IsTyped, HasTypes, variable_type, UnaryFits, BinaryFits}

pub number_here : (f : ℕ → ℤ) (i : ℕ) (v : ℤ) → with_number f i v i ≡ v
number_here f i v = ap (λ b. if b then v else f i) (eq-eqb i i refl)

pub number_other : (f : ℕ → ℤ) (i j : ℕ) (v : ℤ) → i ≢ j → with_number f i v j ≡ f j
number_other f i j v ne = elim (eqb_tells i j) [
  | inl e ↦ absurd (ne e.1)
  | inr e ↦ ap (λ b. if b then v else f j) e.0
]

pub typed_set : (f : Frame) (t : Store) (i : ℕ) (v : ℤ) → IsTyped f t → IsNumber (variable_type f i) v → IsTyped f (with_variable i v t)
typed_set f t i v h number = record {
  variables = λ j. elim (eqb_tells i j) [
    | inl e ↦ subst (λ z. IsNumber (variable_type f j) z) (sym (subst (λ z. with_number t.variables i v z ≡ v) e.1 (number_here t.variables i v))) (subst (λ z. IsNumber (variable_type f z) v) e.1 number)
    | inr e ↦ subst (λ z. IsNumber (variable_type f j) z) (sym (ap (λ b. if b then v else t.variables j) e.0)) (h.variables j)
  ];
  elements = h.elements;
}

-- ---- values that are there

abbrev IsThere : {A : Type 0} → Valued A → Type 0
IsThere (is x) = Unit {0}
IsThere (faulty rule at) = ⊥

pub not_faulty : {A : Type 0} (v : A) (rule : UbRule) (at : Place) → faulty rule at ≡ is v → ⊥
not_faulty v rule at e = subst IsThere (sym e) tt

abbrev value_or : {A : Type 0} → A → Valued A → A
value_or d (is x) = x
value_or d (faulty rule at) = d

pub same_value : {A : Type 0} (x y : A) → is x ≡ is y → x ≡ y
same_value x y e = ap (value_or x) e

-- a value that comes of another one
pub first_value : {A B : Type 0} (r : Valued A) (g : A → Valued B) (v : B) → and_then r g ≡ is v → (x : A) × (r ≡ is x)
first_value (is x) g v e = (x, refl)
first_value (faulty rule at) g v e = absurd (not_faulty v rule at e)

-- ---- operators that evaluate both operands

pub joined_plain : (op : Binary) (kl : CType) (x : ℤ) (kr : CType) (at : Place) (second : Valued ℤ) → is_logical op ≡ false
    → joined op kl x kr at second ≡ and_then second (λ y. computed (binary_value op kl x kr y) at)
joined_plain b.Mul kl x kr at second e = refl
joined_plain b.Div kl x kr at second e = refl
joined_plain b.Rem kl x kr at second e = refl
joined_plain b.Add kl x kr at second e = refl
joined_plain b.Sub kl x kr at second e = refl
joined_plain b.Shl kl x kr at second e = refl
joined_plain b.Shr kl x kr at second e = refl
joined_plain b.Lt kl x kr at second e = refl
joined_plain b.Gt kl x kr at second e = refl
joined_plain b.Le kl x kr at second e = refl
joined_plain b.Ge kl x kr at second e = refl
joined_plain b.Eq kl x kr at second e = refl
joined_plain b.Ne kl x kr at second e = refl
joined_plain b.And kl x kr at second e = refl
joined_plain b.Xor kl x kr at second e = refl
joined_plain b.Or kl x kr at second e = refl
joined_plain b.LogAnd kl x kr at second e = absurd (true≢false e)
joined_plain b.LogOr kl x kr at second e = absurd (true≢false e)

-- ---- conversions

-- A number that is converted is of the type.
pub converted_number : (k : CType) (n : ℤ) → IsNumber k (convert k n)
converted_number t.Bool n = bool_number (int_eq n (pos 0))
  where
    bool_number : (y : Bool) → convert t.Bool (if y then pos 0 else pos 1) ≡ (if y then pos 0 else pos 1)
    bool_number true = refl
    bool_number false = refl
converted_number (t.Int signed bits) n =
    let first = conversions_are_congruent signed bits n in
    let m = convert (t.Int signed bits) n in
    let again = conversions_are_congruent signed bits m in
    let same : IsCongruent (integer signed bits) m m = record { before = 0; behind = 0; same = refl } in
    sym (again.only m first.is_of same)

pub truth_number : (y : Bool) → IsNumber int_type (truth y)
truth_number true = refl
truth_number false = refl

-- ---- values of typed expressions

computed_is : (c : Computed) (at : Place) (v : ℤ) → computed c at ≡ is v → c ≡ o.defined v
computed_is (o.defined x) at v e = ap o.defined (same_value x v e)
computed_is (o.undefined rule) at v e = absurd (not_faulty v rule at e)

module _ (unary_fits : UnaryFits) (binary_fits : BinaryFits) where
  plain_number : (op : Binary) (kl : CType) (x : ℤ) (kr : CType) (at : Place) (second : Valued ℤ) (v : ℤ) → is_logical op ≡ false → joined op kl x kr at second ≡ is v → IsNumber (binary_kind op kl kr) v
  plain_number op kl x kr at second v l e =
      let whole = sym (joined_plain op kl x kr at second l) ∙ e in
      let y = first_value second (λ y. computed (binary_value op kl x kr y) at) v whole in
      binary_fits op kl kr x y.0 v (computed_is (binary_value op kl x kr y.0) at v (ap (λ r. and_then r (λ y. computed (binary_value op kl x kr y) at)) (sym y.1) ∙ whole))

  truth_of : (second : Valued ℤ) (v : ℤ) → and_then second (λ y. is (truth (is_true y))) ≡ is v → IsNumber int_type v
  truth_of (is y) v e = subst (IsNumber int_type) (same_value (truth (is_true y)) v e) (truth_number (is_true y))
  truth_of (faulty rule at) v e = absurd (not_faulty v rule at e)

  and_number : (b : Bool) (second : Valued ℤ) (v : ℤ) → (if b then and_then second (λ y. is (truth (is_true y))) else is (truth false)) ≡ is v → IsNumber int_type v
  and_number true second v e = truth_of second v e
  and_number false second v e = subst (IsNumber int_type) (same_value (truth false) v e) (truth_number false)

  or_number : (b : Bool) (second : Valued ℤ) (v : ℤ) → (if b then is (truth true) else and_then second (λ y. is (truth (is_true y)))) ≡ is v → IsNumber int_type v
  or_number true second v e = subst (IsNumber int_type) (same_value (truth true) v e) (truth_number true)
  or_number false second v e = truth_of second v e

  joined_number : (op : Binary) (kl : CType) (x : ℤ) (kr : CType) (at : Place) (second : Valued ℤ) (v : ℤ) → joined op kl x kr at second ≡ is v → IsNumber (binary_kind op kl kr) v
  joined_number b.Mul kl x kr at second v e = plain_number b.Mul kl x kr at second v refl e
  joined_number b.Div kl x kr at second v e = plain_number b.Div kl x kr at second v refl e
  joined_number b.Rem kl x kr at second v e = plain_number b.Rem kl x kr at second v refl e
  joined_number b.Add kl x kr at second v e = plain_number b.Add kl x kr at second v refl e
  joined_number b.Sub kl x kr at second v e = plain_number b.Sub kl x kr at second v refl e
  joined_number b.Shl kl x kr at second v e = plain_number b.Shl kl x kr at second v refl e
  joined_number b.Shr kl x kr at second v e = plain_number b.Shr kl x kr at second v refl e
  joined_number b.Lt kl x kr at second v e = plain_number b.Lt kl x kr at second v refl e
  joined_number b.Gt kl x kr at second v e = plain_number b.Gt kl x kr at second v refl e
  joined_number b.Le kl x kr at second v e = plain_number b.Le kl x kr at second v refl e
  joined_number b.Ge kl x kr at second v e = plain_number b.Ge kl x kr at second v refl e
  joined_number b.Eq kl x kr at second v e = plain_number b.Eq kl x kr at second v refl e
  joined_number b.Ne kl x kr at second v e = plain_number b.Ne kl x kr at second v refl e
  joined_number b.And kl x kr at second v e = plain_number b.And kl x kr at second v refl e
  joined_number b.Xor kl x kr at second v e = plain_number b.Xor kl x kr at second v refl e
  joined_number b.Or kl x kr at second v e = plain_number b.Or kl x kr at second v refl e
  joined_number b.LogAnd kl x kr at second v e = and_number (is_true x) second v e
  joined_number b.LogOr kl x kr at second v e = or_number (is_true x) second v e

  element_value : (f : Frame) (t : Store) (array : ℕ) (k : CType) (i : Option ℕ) (at : Place) (v : ℤ) → IsTyped f t → kind_at f.arrays array ≡ k → element_at array i at t ≡ is v → IsNumber k v
  element_value f t array k None at v typed type e = absurd (not_faulty v ub.Index at e)
  element_value f t array k (Some i) at v typed type e = subst (IsNumber k) (same_value (t.elements array i) v e) (subst (λ z. IsNumber z (t.elements array i)) type (typed.elements array i))

  converted_value : (k : CType) (r : Valued ℤ) (v : ℤ) → and_then r (λ y. is (convert k y)) ≡ is v → IsNumber k v
  converted_value k (is y) v e = subst (IsNumber k) (same_value (convert k y) v e) (converted_number k y)
  converted_value k (faulty rule at) v e = absurd (not_faulty v rule at e)

  -- The value of an expression is a number of its type.
  pub value_number : (f : Frame) (x : PureTree) (t : Store) (v : ℤ) → IsTyped f t → HasTypes f x → value f.arrays x t ≡ is v → IsNumber (kind x) v
  value_number f (tree.number w k) t v typed types e = subst (IsNumber k) (same_value (number_of k w) v e) types
  value_number f (tree.variable name k) t v typed types e = subst (IsNumber k) (same_value (t.variables name.0) v e) (subst (λ z. IsNumber z (t.variables name.0)) types (typed.variables name.0))
  value_number f (tree.element array subscripts k at) t v typed types e =
      let g = λ (is_ : List ℤ). element_at array.0 (element_number f.arrays array.0 is_) at t in
      let x = first_value (values f.arrays subscripts t) g v e in
      element_value f t array.0 k (element_number f.arrays array.0 x.0) at v typed types.0 (ap (λ r. and_then r g) (sym x.1) ∙ e)
  value_number f (tree.unary op arg k at) t v typed types e =
      let g = λ (x : ℤ). computed (unary_value op (kind arg) x) at in
      let x = first_value (value f.arrays arg t) g v e in
      subst (λ z. IsNumber z v) types.0 (unary_fits op (kind arg) x.0 v (computed_is (unary_value op (kind arg) x.0) at v (ap (λ r. and_then r g) (sym x.1) ∙ e)))
  value_number f (tree.binary op left right k at) t v typed types e =
      let g = λ (x : ℤ). joined op (kind left) x (kind right) at (value f.arrays right t) in
      let x = first_value (value f.arrays left t) g v e in
      subst (λ z. IsNumber z v) types.0 (joined_number op (kind left) x.0 (kind right) at (value f.arrays right t) v (ap (λ r. and_then r g) (sym x.1) ∙ e))
  value_number f (tree.choice test left right k) t v typed types e =
      let g = λ (x : ℤ). and_then (if is_true x then value f.arrays left t else value f.arrays right t) (λ y. is (convert k y)) in
      let x = first_value (value f.arrays test t) g v e in
      converted_value k (if is_true x.0 then value f.arrays left t else value f.arrays right t) v (ap (λ r. and_then r g) (sym x.1) ∙ e)
  value_number f (tree.cast to arg) t v typed types e = converted_value to (value f.arrays arg t) v e
