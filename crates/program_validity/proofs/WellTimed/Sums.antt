-- The sum that an operation makes, reckoned from it backwards.
use Rattle.std.proofs.Common.{◌≡◌, ℕ, zero, suc, ◌+◌, ◌<◌, ◌≤◌, ◌∙◌, sym, refl, ap, ap₂, subst, Bool, true, false, ◌==◌, List, [], ◌∷◌, ◌++◌, take, length, append-nil, append_assoc, Option, Some, None, ℤ, pos, ◌+ℤ◌, if◌then◌else◌, inl, inr, arith}
use Rattle.std.proofs.lemmas.Int.{ints}
use Rattle.std.proofs.lemmas.Bool.{cases_Bool, and_parts, eqb-true, eq-eqb, and_from}
use Rattle.std.proofs.lemmas.List.{length-append, length-take, take_all}
use Rattle.hls_base.specs.declared.number.OpId.{OpId}
use Rattle.hls_base.specs.declared.number.VarId.{VarId}
use Rattle.ir_core.specs.declared.body.Body.{Body}
use Rattle.ir_core.specs.declared.body.Op.{Op}
use Rattle.ir_core.specs.declared.body.Operand.{Operand}
use Rattle.ir_core.specs.declared.body.Source.{Source}
use Rattle.ir_core.specs.declared.body.Source.TheVariants as source
use Rattle.ir_core.specs.declared.stamp.Untimed.{Untimed}
use Rattle.dep_graph.specs.declared.counter.Addition.{Addition}
use Rattle.dep_graph.specs.declared.counter.Offset.{Offset}
use Rattle.dep_graph.specs.declared.counter.Sum.{Sum}
use Rattle.dep_graph.specs.Offsets.{nth, flat, addition, step_of, source_sum, same_source, same_operand, is_covered, counter_sum, plus_constant, added_sum, op_sum, sums_from, sums_of, covered, offset_of}
use Rattle.program_validity.specs.Sums.{offset_by, shifted, offset_among, counted_from}
use Rattle.program_validity.proofs.WellTimed.Lists.{nth_past, nth_take, nth_middle, take_front}

-- ---- the sums of a body

abbrev Sums : Type 0
Sums = List (Option Sum)

extends : (b : Body Untimed) (sums : Sums) (ops : List (Op Untimed)) → (rest : Sums) × (sums_from b sums ops ≡ sums ++ rest)
extends b sums [] = ([], sym (append-nil sums))
extends b sums (op ∷ ops) =
    let e = extends b (sums ++ op_sum b sums op ∷ []) ops in
    (op_sum b sums op ∷ e.0, e.1 ∙ append_assoc sums (op_sum b sums op ∷ []) e.0)

sums_length : (b : Body Untimed) (sums : Sums) (ops : List (Op Untimed)) → length (sums_from b sums ops) ≡ length sums + length ops
sums_length b sums [] = omega arith
sums_length b sums (op ∷ ops) =
    let e = sums_length b (sums ++ op_sum b sums op ∷ []) ops in
    let one = length-append sums (op_sum b sums op ∷ []) in
    omega arith

pub sums_count : (b : Body Untimed) → length (sums_of b) ≡ length b.ops.items
sums_count b = (let e = sums_length b [] b.ops.items in omega arith)

-- the sum of an operation stands on those of the operations before it
abbrev IsSumAt : Body Untimed → Sums → ℕ → Op Untimed → Type 0
IsSumAt b all j op = nth all j ≡ Some (op_sum b (take j all) op)

sum_here : (b : Body Untimed) (sums rest : Sums) (op : Op Untimed) → IsSumAt b (sums ++ (op_sum b sums op ∷ rest)) (length sums) op
sum_here b sums rest op =
    nth_middle sums (op_sum b sums op) rest ∙ ap (λ known. Some (op_sum b known op)) (sym (take_front sums (op_sum b sums op ∷ rest)))

sums_are : (b : Body Untimed) (ops : List (Op Untimed)) (sums : Sums) (j : ℕ) (op : Op Untimed) → nth ops j ≡ Some op → IsSumAt b (sums_from b sums ops) (length sums + j) op
sums_are b [] sums j op e = absurd (cc)
sums_are b (first ∷ ops) sums zero op e =
    let rest = extends b (sums ++ op_sum b sums first ∷ []) ops in
    let same : first ≡ op = (cc) in
    let whole : sums ++ (op_sum b sums op ∷ rest.0) ≡ sums_from b sums (first ∷ ops) =
    ap (λ o. sums ++ (op_sum b sums o ∷ rest.0)) (sym same) ∙ sym (append_assoc sums (op_sum b sums first ∷ []) rest.0) ∙ sym rest.1 in
    let at : length sums ≡ length sums + 0 = omega arith in
    subst (λ j. IsSumAt b (sums_from b sums (first ∷ ops)) j op) at (subst (λ all. IsSumAt b all (length sums) op) whole (sum_here b sums rest.0 op))
sums_are b (first ∷ ops) sums (suc j) op e =
    let one = length-append sums (op_sum b sums first ∷ []) in
    let at : length (sums ++ op_sum b sums first ∷ []) + j ≡ length sums + suc j = omega arith in
    subst (λ k. IsSumAt b (sums_from b sums (first ∷ ops)) k op) at (sums_are b ops (sums ++ op_sum b sums first ∷ []) j op e)

sum_at : (b : Body Untimed) (j : ℕ) (op : Op Untimed) → nth b.ops.items j ≡ Some op → IsSumAt b (sums_of b) j op
sum_at b j op e = subst (λ k. IsSumAt b (sums_of b) k op) (let z : 0 + j ≡ j = omega arith in z) (sums_are b b.ops.items [] j op e)

-- ---- guards

same_source_true : (x y : Source) → same_source x y ≡ true → x ≡ y
same_source_true (source.Constant x) (source.Constant y) e = ap source.Constant (eqb-true x y e)
same_source_true (source.Constant x) (source.Variable y) e = absurd (cc)
same_source_true (source.Constant x) (source.Result y) e = absurd (cc)
same_source_true (source.Variable x) (source.Constant y) e = absurd (cc)
same_source_true (source.Variable x) (source.Variable y) e = ap (λ n. source.Variable (record { 0 = n })) (eqb-true x.0 y.0 e)
same_source_true (source.Variable x) (source.Result y) e = absurd (cc)
same_source_true (source.Result x) (source.Constant y) e = absurd (cc)
same_source_true (source.Result x) (source.Variable y) e = absurd (cc)
same_source_true (source.Result x) (source.Result y) e = ap (λ n. source.Result (record { 0 = n })) (eqb-true x.0 y.0 e)

same_operand_true : (x y : Operand) → same_operand x y ≡ true → x ≡ y
same_operand_true x y e =
    let parts = and_parts (x.distance == y.distance) (same_source x.value y.value) e in
    ap₂ (λ v d. record { value = v; distance = d }) (same_source_true x.value y.value parts.1) (eqb-true x.distance y.distance parts.0)

same_source_itself : (x : Source) → same_source x x ≡ true
same_source_itself (source.Constant x) = eq-eqb x x refl
same_source_itself (source.Variable x) = eq-eqb x.0 x.0 refl
same_source_itself (source.Result x) = eq-eqb x.0 x.0 refl

same_operand_itself : (x : Operand) → same_operand x x ≡ true
same_operand_itself x = and_from (x.distance == x.distance) (same_source x.value x.value) (eq-eqb x.distance x.distance refl) (same_source_itself x.value)

-- ---- a constant more

abbrev offset_if : Bool → Offset → Option Offset
offset_if b o = if b then Some o else None

abbrev plus_offset : Offset → ℤ → Offset
plus_offset o c = record { counter = o.counter; step = o.step; constant = o.constant +ℤ c }

more : (b : Bool) (o : Offset) (c k : ℤ) → shifted k (offset_if b (plus_offset o c)) ≡ shifted (k +ℤ c) (offset_if b o)
more true o c k = (let e : k +ℤ (o.constant +ℤ c) ≡ k +ℤ c +ℤ o.constant = omega (arith, ints) in ap (λ z. Some (record { counter = o.counter; step = o.step; constant = z })) e)
more false o c k = refl

abbrev sum_of : Offset → Option Operand → Sum
sum_of o x = record { offset = o; guard = x }

-- the guard of the sum is that of the operation that adds to it
agreed : (o : Offset) (c k : ℤ) (x y z : Operand) → x ≡ y → shifted k (offset_if (same_operand x z) (plus_offset o c)) ≡ (if same_operand y z then shifted (k +ℤ c) (offset_if (same_operand x z) o) else None)
agreed o c k x y z e =
    subst (λ w. shifted k (offset_if (same_operand x z) (plus_offset o c)) ≡ (if same_operand w z then shifted (k +ℤ c) (offset_if (same_operand x z) o) else None)) e
    (elim (same_operand x z) as (λ b. shifted k (offset_if b (plus_offset o c)) ≡ (if b then shifted (k +ℤ c) (offset_if b o) else None)) [
      | true ↦ more true o c k
      | false ↦ refl
    ])

-- it is not, so it cannot be that of the access too
differing : (o : Offset) (k : ℤ) (x y z : Operand) → same_operand x y ≡ false → None ≡ (if same_operand y z then shifted k (offset_if (same_operand x z) o) else None)
differing o k x y z off = elim (cases_Bool (same_operand y z)) [
  | inl on ↦
      let same = same_operand_true y z on in
      let not_so : same_operand x z ≡ false = ap (same_operand x) (sym same) ∙ off in
      let at_once : None ≡ (if true then shifted k (offset_if false o) else None) = refl in
      subst (λ b. None ≡ (if b then shifted k (offset_if (same_operand x z) o) else None)) (sym on) (subst (λ b. None ≡ (if true then shifted k (offset_if b o) else None)) (sym not_so) at_once)
  | inr no_guard ↦ subst (λ b. None ≡ (if b then shifted k (offset_if (same_operand x z) o) else None)) (sym no_guard) refl
]

plus_sum : (o : Offset) (x g guard : Option Operand) (c k : ℤ) → shifted k (covered (plus_constant (Some (sum_of o x)) c g) guard) ≡ (if is_covered g guard then shifted (k +ℤ c) (covered (Some (sum_of o x)) guard) else None)
plus_sum o None None guard c k = more true o c k
plus_sum o None (Some y) None c k = refl
plus_sum o None (Some y) (Some z) c k = elim (same_operand y z) as (λ b. shifted k (offset_if b (plus_offset o c)) ≡ (if b then shifted (k +ℤ c) (Some o) else None)) [
  | true ↦ more true o c k
  | false ↦ refl
]
plus_sum o (Some x) None None c k = refl
plus_sum o (Some x) None (Some z) c k = more (same_operand x z) o c k
plus_sum o (Some x) (Some y) None c k = elim (same_operand x y) as (λ b. shifted k (covered (if b then Some (sum_of (plus_offset o c) (Some x)) else None) None) ≡ None) [
  | true ↦ refl
  | false ↦ refl
]
plus_sum o (Some x) (Some y) (Some z) c k =
    let Goal : Bool → Type 0 = λ b. shifted k (covered (if b then Some (sum_of (plus_offset o c) (Some x)) else None) (Some z)) ≡ (if same_operand y z then shifted (k +ℤ c) (offset_if (same_operand x z) o) else None) in
    elim (cases_Bool (same_operand x y)) [
      | inl on ↦ subst Goal (sym on) (agreed o c k x y z (same_operand_true x y on))
      | inr off ↦ subst Goal (sym off) (differing o (k +ℤ c) x y z off)
    ]

plus : (sum : Option Sum) (g guard : Option Operand) (c k : ℤ) → shifted k (covered (plus_constant sum c g) guard) ≡ (if is_covered g guard then shifted (k +ℤ c) (covered sum guard) else None)
plus None g guard c k = elim (is_covered g guard) as (λ b. ◌≡◌ {A = Option Offset} None (if b then None else None)) [
  | true ↦ refl
  | false ↦ refl
]
plus (Some sum) g guard c k = plus_sum sum.offset sum.guard g guard c k

-- ---- one operation back

abbrev pub step_on : Body Untimed → ℕ → Option Addition → ℤ → Option Operand → Option Offset
step_on b j None k guard = None
step_on b j (Some a) k guard = offset_among b j a.operand.value (k +ℤ a.constant) guard

added_back : (b : Body Untimed) (j : ℕ) (a : Option Addition) (g guard : Option Operand) (k : ℤ) → shifted k (covered (added_sum b (take j (sums_of b)) a g) guard) ≡ step_on b j (if is_covered g guard then a else None) k guard
added_back b j None g guard k = elim (is_covered g guard) as (λ p. ◌≡◌ {A = Option Offset} None (step_on b j (if p then None else None) k guard)) [
  | true ↦ refl
  | false ↦ refl
]
added_back b j (Some a) g guard k =
    plus (source_sum b (take j (sums_of b)) a.operand.value) g guard a.constant k
    ∙ (elim (is_covered g guard) as (λ p. (if p then shifted (k +ℤ a.constant) (covered (source_sum b (take j (sums_of b)) a.operand.value) guard) else None) ≡ step_on b j (if p then Some a else None) k guard) [
      | true ↦ refl
      | false ↦ refl
    ])

pub back_on : (b : Body Untimed) (limit : ℕ) (j : OpId) (op : Op Untimed) (guard : Option Operand) (k : ℤ) → j.0 < limit → nth b.ops.items j.0 ≡ Some op
    → offset_among b limit (source.Result j) k guard ≡ step_on b j.0 (if is_covered op.guard guard then addition op else None) k guard
back_on b limit j op guard k lt e =
    ap (λ s. shifted k (covered (flat s) guard)) (nth_take limit (sums_of b) j.0 lt ∙ sum_at b j.0 op e) ∙ added_back b j.0 (addition op) op.guard guard k

-- none of the operations before the limit
pub back_past : (b : Body Untimed) (limit : ℕ) (j : OpId) (guard : Option Operand) (k : ℤ) → limit ≤ j.0 → offset_among b limit (source.Result j) k guard ≡ None
back_past b limit j guard k le =
    let short = length-take limit (sums_of b) in
    ap (λ s. shifted k (covered (flat s) guard)) (nth_past (take limit (sums_of b)) j.0 (omega arith))

shifted_none : (x : Option Offset) → shifted (pos 0) x ≡ x
shifted_none None = refl
shifted_none (Some o) = (let e : pos 0 +ℤ o.constant ≡ o.constant = omega (arith, ints) in ap (λ z. Some (record { counter = o.counter; step = o.step; constant = z })) e)

-- among all operations
pub among_all : (b : Body Untimed) (limit : ℕ) (x : Operand) (guard : Option Operand) → length b.ops.items ≤ limit → offset_among b limit x.value (pos 0) guard ≡ offset_of b (sums_of b) x guard
among_all b limit x guard le =
    let count = sums_count b in
    shifted_none (covered (source_sum b (take limit (sums_of b)) x.value) guard) ∙ ap (λ sums. covered (source_sum b sums x.value) guard) (take_all limit (sums_of b) (omega arith))

counted_at : (counter : VarId) (step : Option ℤ) (k : ℤ) (guard : Option Operand) → shifted k (covered (counter_sum counter step) guard) ≡ offset_by counter k step
counted_at counter None k guard = refl
counted_at counter (Some step) k guard = (let e : k +ℤ pos 0 ≡ k = omega (arith, ints) in ap (λ z. Some (record { counter = counter; step = step; constant = z })) e)

-- a source that is no result
pub at_end : (b : Body Untimed) (limit : ℕ) (x : Source) (k : ℤ) (guard : Option Operand) → ((op : OpId) → x ≡ source.Result op → ⊥) → offset_among b limit x k guard ≡ counted_from b x k
at_end b limit (source.Constant word) k guard h = refl
at_end b limit (source.Variable v) k guard h = counted_at v (step_of b v.0) k guard
at_end b limit (source.Result op) k guard h = absurd (h op refl)
