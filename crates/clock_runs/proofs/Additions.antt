-- What a checked operation gives that adds a constant.
use Rattle.std.proofs.Common.{◌≡◌, ℕ, ◌⊎◌, ◌∙◌, inl, inr, sym, refl, ap, ap₂, subst, Bool, true, false, List, [], ◌∷◌, map, Option, Some, None, is_some, ℤ, ◌+ℤ◌, ◌-ℤ◌, neg_ℤ, arith, if◌then◌else◌}
use Rattle.std.proofs.lemmas.Int.{ints}
use Rattle.hls_base.specs.declared.refusal.UbRule.{UbRule}
use Rattle.ir_core.specs.declared.body.OpKind.{OpKind}
use Rattle.ir_core.specs.declared.body.OpKind.TheVariants as o
use Rattle.ir_core.specs.declared.body.Operand.{Operand}
use Rattle.ir_core.specs.declared.body.Source.{Source}
use Rattle.ir_core.specs.declared.body.Source.TheVariants as source
use Rattle.ir_core.specs.Value as v
use Rattle.ir_core.specs.Value.{number_of}
use Rattle.dep_graph.specs.declared.counter.Addition.{Addition}
use Rattle.dep_graph.specs.Offsets.{constant_of, addition_by, negated, or_else, added_by, added}
use Rattle.ir_core.specs.Bodies.{OpTree, Shapes, fault, fault_of, broken_rule}
use Rattle.clock_runs.specs.Premises.{Each, HasWidth, IsSoundSum, IsSoundAs}
use Rattle.clock_runs.proofs.Effects.{Memories, computing, sort_of, value_by}
use Rattle.clock_runs.proofs.Signed.{sum_stands, difference_stands}
use Rattle.ir_core.specs.Timing.{result_bits}
use Rattle.clock_runs.proofs.Lists.{some_same, no_some, some_no}

-- ---- the constant

abbrev IsConstant : Source → ℕ → ℤ → Type 0
IsConstant x bits c = (w : ℕ) × ((x ≡ source.Constant w) × (c ≡ number_of true bits w))

constant_is : (x : Source) (bits : ℕ) (c : ℤ) → constant_of x bits ≡ Some c → IsConstant x bits c
constant_is (source.Constant w) bits c e = (w, (refl, sym (some_same e)))
constant_is (source.Variable v) bits c e = absurd (no_some e)
constant_is (source.Result j) bits c e = absurd (no_some e)

abbrev IsAddition : Operand → Option ℤ → Addition → Type 0
IsAddition x c a = (a.operand ≡ x) × (c ≡ Some a.constant)

addition_is : (x : Operand) (c : Option ℤ) (a : Addition) → addition_by x c ≡ Some a → IsAddition x c a
addition_is x None a e = absurd (no_some e)
addition_is x (Some c) a e = (let same : record { operand = x; constant = c } ≡ a = some_same e in (sym (ap (λ (z : Addition). z.operand) same), ap (λ (z : Addition). Some z.constant) same))

one_of : {A : Type 0} (p q : Option A) (a : A) → or_else p q ≡ Some a → (p ≡ Some a) ⊎ (q ≡ Some a)
one_of None q a e = inr e
one_of (Some x) q a e = inl e

-- which operand and which constant
abbrev Adds : ℕ → Operand → Operand → Addition → Type 0
Adds bits x y a = IsAddition x (constant_of y.value bits) a ⊎ IsAddition y (constant_of x.value bits) a

abbrev Terms : OpKind → ℕ → Operand → Operand → Addition → Type 0
Terms kind bits x y a = ((kind ≡ o.Add) × Adds bits x y a) ⊎ ((kind ≡ o.Sub) × IsAddition x (negated (constant_of y.value bits)) a)

terms_of : (kind : OpKind) (bits : ℕ) (x y : Operand) (a : Addition) → added_by kind bits x y ≡ Some a → Terms kind bits x y a
terms_of o.Add bits x y a e = inl (
  refl,
  elim (one_of (addition_by x (constant_of y.value bits)) (addition_by y (constant_of x.value bits)) a e) [
    | inl h ↦ inl (addition_is x (constant_of y.value bits) a h)
    | inr h ↦ inr (addition_is y (constant_of x.value bits) a h)
  ],
)
terms_of o.Sub bits x y a e = inr (refl, addition_is x (negated (constant_of y.value bits)) a e)
terms_of o.Mul bits x y a e = absurd (no_some e)
terms_of o.Div bits x y a e = absurd (no_some e)
terms_of o.Rem bits x y a e = absurd (no_some e)
terms_of o.And bits x y a e = absurd (no_some e)
terms_of o.Or bits x y a e = absurd (no_some e)
terms_of o.Xor bits x y a e = absurd (no_some e)
terms_of o.Shl bits x y a e = absurd (no_some e)
terms_of o.Shr bits x y a e = absurd (no_some e)
terms_of o.Eq bits x y a e = absurd (no_some e)
terms_of o.Ne bits x y a e = absurd (no_some e)
terms_of o.Lt bits x y a e = absurd (no_some e)
terms_of o.Le bits x y a e = absurd (no_some e)
terms_of o.Not bits x y a e = absurd (no_some e)
terms_of o.Neg bits x y a e = absurd (no_some e)
terms_of o.Select bits x y a e = absurd (no_some e)
terms_of o.Widen bits x y a e = absurd (no_some e)
terms_of o.Narrow bits x y a e = absurd (no_some e)
terms_of o.Truth bits x y a e = absurd (no_some e)
terms_of o.Copy bits x y a e = absurd (no_some e)
terms_of o.Load bits x y a e = absurd (no_some e)
terms_of o.Store bits x y a e = absurd (no_some e)
terms_of (o.Fused p) bits x y a e = absurd (no_some e)

abbrev TwoTerms : OpKind → ℕ → List Operand → Addition → Type 0
TwoTerms kind bits args a = (x : Operand) × ((y : Operand) × ((args ≡ x ∷ y ∷ []) × Terms kind bits x y a))

two_terms : (kind : OpKind) (bits : ℕ) (args : List Operand) (a : Addition) → added kind bits args ≡ Some a → TwoTerms kind bits args a
two_terms kind bits [] a e = absurd (no_some e)
two_terms kind bits (x ∷ []) a e = absurd (no_some e)
two_terms kind bits (x ∷ y ∷ []) a e = (x, (y, (refl, terms_of kind bits x y a e)))
two_terms kind bits (x ∷ y ∷ z ∷ rest) a e = absurd (no_some e)

negated_is : (x : Source) (bits : ℕ) (c : ℤ) → negated (constant_of x bits) ≡ Some c → (w : ℕ) × ((x ≡ source.Constant w) × (c ≡ neg_ℤ (number_of true bits w)))
negated_is (source.Constant w) bits c e = (w, (refl, sym (some_same e)))
negated_is (source.Variable v) bits c e = absurd (no_some e)
negated_is (source.Result j) bits c e = absurd (no_some e)

-- ---- the value

defined_then : (defined : Bool) (rule : UbRule) → (if defined then None else Some rule) ≡ None → defined ≡ true
defined_then true rule e = refl
defined_then false rule e = absurd (some_no e)

value_of_kind : (shapes : Shapes) (op : OpTree) (kind : OpKind) (allowed : Bool) (from : ℕ) (args : List ℕ) (memories : Memories) → op.kind ≡ kind → sort_of kind ≡ computing
    → value_by shapes op (sort_of op.kind) allowed from args memories ≡ v.value kind op.signed op.bits from args
value_of_kind shapes op kind allowed from args memories e sort =
    ap (λ so. value_by shapes op so allowed from args memories) (ap sort_of e ∙ sort) ∙ ap (λ k. v.value k op.signed op.bits from args) e

-- the number that it gives, and the width of the operand
abbrev pub Stands : Shapes → List OpTree → OpTree → (Operand → ℕ) → Addition → ℕ → Type 0
Stands shapes ops op read a value =
    (number_of true op.bits value ≡ number_of true op.bits (read a.operand) +ℤ a.constant) × HasWidth shapes ops op.bits a.operand.value

module _ (shapes : Shapes) (ops : List OpTree) (op : OpTree) (read : Operand → ℕ) (reads_constants : (x : Operand) (w : ℕ) → x.value ≡ source.Constant w → read x ≡ w) where
  sum_fits : (x y : ℕ) → op.kind ≡ o.Add → op.signed ≡ true → fault shapes op (x ∷ y ∷ []) ≡ None → v.is_of true op.bits (number_of true op.bits x +ℤ number_of true op.bits y) ≡ true
  sum_fits x y e signed none =
      ap (λ g. v.is_defined o.Add g op.bits (x ∷ y ∷ [])) (sym signed)
      ∙ defined_then (v.is_defined o.Add op.signed op.bits (x ∷ y ∷ [])) (broken_rule o.Add op.bits (x ∷ y ∷ [])) (ap (λ k. fault_of shapes op k (x ∷ y ∷ [])) (sym e) ∙ none)

  difference_fits : (x y : ℕ) → op.kind ≡ o.Sub → op.signed ≡ true → fault shapes op (x ∷ y ∷ []) ≡ None → v.is_of true op.bits (number_of true op.bits x -ℤ number_of true op.bits y) ≡ true
  difference_fits x y e signed none =
      ap (λ g. v.is_defined o.Sub g op.bits (x ∷ y ∷ [])) (sym signed)
      ∙ defined_then (v.is_defined o.Sub op.signed op.bits (x ∷ y ∷ [])) (broken_rule o.Sub op.bits (x ∷ y ∷ [])) (ap (λ k. fault_of shapes op k (x ∷ y ∷ [])) (sym e) ∙ none)

  module _ (allowed : Bool) (from : ℕ) (memories : Memories) (flagged : is_some op.flag ≡ true) (sound : IsSoundAs shapes ops op op.kind) where
    abbrev made : List Operand → ℕ
    made args = value_by shapes op (sort_of op.kind) allowed from (map read args) memories

    add_stands : (x y : Operand) (a : Addition) → op.args ≡ x ∷ y ∷ [] → op.kind ≡ o.Add → Adds op.bits x y a → fault shapes op (map read op.args) ≡ None → Stands shapes ops op read a (made op.args)
    add_stands x y a args e adds none =
        let sum : IsSoundSum shapes ops op = (subst (λ k. IsSoundAs shapes ops op k) e sound) flagged in
        let widths = subst (λ xs. Each (λ (z : Operand). HasWidth shapes ops op.bits z.value) xs) args sum.widths in
        let fits = sum_fits (read x) (read y) e sum.signed (ap (λ xs. fault shapes op (map read xs)) (sym args) ∙ none) in
        let total : number_of true op.bits (made op.args) ≡ number_of true op.bits (read x) +ℤ number_of true op.bits (read y) =
        ap (λ xs. number_of true op.bits (made xs)) args ∙ ap (number_of true op.bits) (value_of_kind shapes op o.Add allowed from (read x ∷ read y ∷ []) memories e refl) ∙ sum_stands op.bits (read x) (read y) sum.some fits in
        elim adds [
          | inl h ↦
              let c = constant_is y.value op.bits a.constant h.1 in
              let constant : number_of true op.bits (read y) ≡ a.constant = ap (number_of true op.bits) (reads_constants y c.0 c.1.0) ∙ sym c.1.1 in
              (total ∙ ap₂ (λ p q. p +ℤ q) (ap (λ z. number_of true op.bits (read z)) (sym h.0)) constant, subst (λ (z : Operand). HasWidth shapes ops op.bits z.value) (sym h.0) widths.0)
          | inr h ↦
              let c = constant_is x.value op.bits a.constant h.1 in
              let constant : number_of true op.bits (read x) ≡ a.constant = ap (number_of true op.bits) (reads_constants x c.0 c.1.0) ∙ sym c.1.1 in
              let turned : number_of true op.bits (read x) +ℤ number_of true op.bits (read y) ≡ number_of true op.bits (read y) +ℤ number_of true op.bits (read x) = omega (arith, ints) in
              (total ∙ turned ∙ ap₂ (λ p q. p +ℤ q) (ap (λ z. number_of true op.bits (read z)) (sym h.0)) constant, subst (λ (z : Operand). HasWidth shapes ops op.bits z.value) (sym h.0) widths.1.0)
        ]

    sub_stands : (x y : Operand) (a : Addition) → op.args ≡ x ∷ y ∷ [] → op.kind ≡ o.Sub → IsAddition x (negated (constant_of y.value op.bits)) a → fault shapes op (map read op.args) ≡ None → Stands shapes ops op read a (made op.args)
    sub_stands x y a args e h none =
        let sum : IsSoundSum shapes ops op = (subst (λ k. IsSoundAs shapes ops op k) e sound) flagged in
        let widths = subst (λ xs. Each (λ (z : Operand). HasWidth shapes ops op.bits z.value) xs) args sum.widths in
        let fits = difference_fits (read x) (read y) e sum.signed (ap (λ xs. fault shapes op (map read xs)) (sym args) ∙ none) in
        let total : number_of true op.bits (made op.args) ≡ number_of true op.bits (read x) -ℤ number_of true op.bits (read y) =
        ap (λ xs. number_of true op.bits (made xs)) args ∙ ap (number_of true op.bits) (value_of_kind shapes op o.Sub allowed from (read x ∷ read y ∷ []) memories e refl) ∙ difference_stands op.bits (read x) (read y) sum.some fits in
        let c = negated_is y.value op.bits a.constant h.1 in
        let constant : neg_ℤ (number_of true op.bits (read y)) ≡ a.constant = ap (λ w. neg_ℤ (number_of true op.bits w)) (reads_constants y c.0 c.1.0) ∙ sym c.1.1 in
        let turned : number_of true op.bits (read x) -ℤ number_of true op.bits (read y) ≡ number_of true op.bits (read x) +ℤ neg_ℤ (number_of true op.bits (read y)) = omega (arith, ints) in
        (total ∙ turned ∙ ap₂ (λ p q. p +ℤ q) (ap (λ z. number_of true op.bits (read z)) (sym h.0)) constant, subst (λ (z : Operand). HasWidth shapes ops op.bits z.value) (sym h.0) widths.0)

    pub stands : (a : Addition) → added op.kind op.bits op.args ≡ Some a → fault shapes op (map read op.args) ≡ None → Stands shapes ops op read a (made op.args)
    stands a e none =
        let t = two_terms op.kind op.bits op.args a e in
        elim t.1.1.1 [
          | inl h ↦ add_stands t.0 t.1.0 a t.1.1.0 h.0 h.1 none
          | inr h ↦ sub_stands t.0 t.1.0 a t.1.1.0 h.0 h.1 none
        ]

-- such an operation has the width of its result
pub addition_width : (op : OpTree) (a : Addition) → added op.kind op.bits op.args ≡ Some a → result_bits op.kind op.bits ≡ op.bits
addition_width op a e =
    let t = two_terms op.kind op.bits op.args a e in
    elim t.1.1.1 [
      | inl h ↦ ap (λ k. result_bits k op.bits) h.0
      | inr h ↦ ap (λ k. result_bits k op.bits) h.0
    ]

-- the operand to which the constant is added has it too
pub operand_width : (shapes : Shapes) (ops : List OpTree) (op : OpTree) (a : Addition) → is_some op.flag ≡ true → IsSoundAs shapes ops op op.kind → added op.kind op.bits op.args ≡ Some a → HasWidth shapes ops op.bits a.operand.value
operand_width shapes ops op a flagged sound e =
    let t = two_terms op.kind op.bits op.args a e in
    elim t.1.1.1 [
      | inl h ↦
          let widths = subst (λ xs. Each (λ (z : Operand). HasWidth shapes ops op.bits z.value) xs) t.1.1.0 ((subst (λ k. IsSoundAs shapes ops op k) h.0 sound) flagged).widths in
          elim h.1 [
            | inl l ↦ subst (λ (z : Operand). HasWidth shapes ops op.bits z.value) (sym l.0) widths.0
            | inr r ↦ subst (λ (z : Operand). HasWidth shapes ops op.bits z.value) (sym r.0) widths.1.0
          ]
      | inr h ↦
          let widths = subst (λ xs. Each (λ (z : Operand). HasWidth shapes ops op.bits z.value) xs) t.1.1.0 ((subst (λ k. IsSoundAs shapes ops op k) h.0 sound) flagged).widths in
          subst (λ (z : Operand). HasWidth shapes ops op.bits z.value) (sym h.1.0) widths.0
    ]

-- and is one of its operands
pub operand_in : (P : Operand → Type 0) (kind : OpKind) (bits : ℕ) (args : List Operand) (a : Addition) → added kind bits args ≡ Some a → Each P args → P a.operand
operand_in P kind bits args a e each =
    let t = two_terms kind bits args a e in
    let all = subst (λ xs. Each P xs) t.1.1.0 each in
    elim t.1.1.1 [
      | inl h ↦ elim h.1 [
        | inl l ↦ subst P (sym l.0) all.0
        | inr r ↦ subst P (sym r.0) all.1.0
      ]
      | inr h ↦ subst P (sym h.1.0) all.0
    ]
