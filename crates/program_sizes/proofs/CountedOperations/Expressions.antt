-- The operations of expressions, and those that their guards may yet need: no more than are counted.
use Rattle.std.proofs.Common.{◌≤◌, ℕ, ◌+◌, Bool, true, false, refl, sym, subst, arith, List, [], ◌∷◌, length, Option, Some, None}
use Rattle.std.specs.Prelude.{if◌then◌else◌}
use Rattle.hls_base.specs.declared.place.Place.{Place}
use Rattle.c_token.specs.declared.ctype.CType.{CType}
use Rattle.c_tree.specs.declared.operator.Unary.{Unary}
use Rattle.c_tree.specs.declared.operator.Unary.TheVariants as u
use Rattle.c_tree.specs.declared.operator.Binary.{Binary}
use Rattle.c_tree.specs.declared.operator.Binary.TheVariants as b
use Rattle.c_value.specs.Values.{width, is_signed}
use Rattle.pieces.specs.Trees as tree
use Rattle.pieces.specs.Trees.{PureTree, PureTrees}
use Rattle.pieces.specs.Kind.{kind}
use Rattle.ir_core.specs.declared.body.OpKind.{OpKind}
use Rattle.ir_core.specs.declared.body.OpKind.TheVariants as o
use Rattle.ir_core.specs.declared.body.Operand.{Operand}
use Rattle.ir_core.specs.declared.body.Out.{Out}
use Rattle.ir_core.specs.Bodies.{OpTree}
use Rattle.passes.specs.Lowering.Operations.{Emitted, gives, added, defined, plain, flagged, Given, truth, value, kind_of, valued, tested, balanced}
use Rattle.passes.specs.Lowering.Guards.{Guard, only_where, outside, own_bit, under, bit_of, guarded}
use Rattle.passes.specs.Lowering.Expressions.{Evaluated, Next, Subscripts, with_value, with_truth, under_guard, is_total, computed, operated, left_type, right_type, junction, joined, binary, unary, choice, subscript, emitted, emitted_all}
use Rattle.passes.specs.OperationCount.Expressions.{compares, negates, gives_bit, given_kind, is_number, as_value, as_condition, as_operand, unary_count, binary_count, choice_count, count, subscript_count}
use Rattle.program_sizes.proofs.CountedOperations.Conversions.{one_more, IsGiven, given_kind_of, valued_counted, tested_counted, assigned_counted, balanced_counted}

-- ---- guards

-- so many operations the bit of a guard may yet need
abbrev pub wanted : Bool → Option Operand → ℕ
wanted holds (Some made) = 0
wanted true None = 1
wanted false None = 2

abbrev pub pending : List Guard → ℕ
pending [] = 0
pending (g ∷ gs) = wanted g.holds g.made + pending gs

wanted_at_most : (holds : Bool) (made : Option Operand) → wanted holds made ≤ 2
wanted_at_most holds (Some made) = omega arith
wanted_at_most true None = omega arith
wanted_at_most false None = omega arith

-- operations, and those that guards may yet need
abbrev pub load : List OpTree → List Guard → ℕ
load ops guards = length ops + pending guards

own_adds : (ops : List OpTree) (g : Guard) → length (own_bit ops g).ops + 1 ≤ length ops + wanted g.holds None
own_adds ops g = by g.holds where
  by : (holds : Bool) → length (if holds then gives ops g.test else added ops (plain o.Not 1 (g.test ∷ []))).ops + 1 ≤ length ops + wanted holds None
  by true = omega arith
  by false = let one = one_more ops (plain o.Not 1 (g.test ∷ [])) in omega (arith, one)

under_adds : (outer : Option Operand) (own : Emitted) → length (under outer own).ops ≤ length own.ops + 1
under_adds None own = omega arith
under_adds (Some outer) own = one_more own.ops _

bit_adds : (ops : List OpTree) (outer : Option Operand) (g : Guard) (made : Option Operand) → length (bit_of ops outer g made).ops ≤ length ops + wanted g.holds made
bit_adds ops outer g (Some made) = omega arith
bit_adds ops outer g None =
    let first = own_adds ops g in
    let second = under_adds outer (own_bit ops g) in
    omega (arith, first, second)

guarded_adds : (ops : List OpTree) (guards : List Guard) → load (guarded ops guards).ops (guarded ops guards).guards ≤ load ops guards
guarded_adds ops [] = omega arith
guarded_adds ops (g ∷ gs) =
    let around = guarded ops gs in
    let before = guarded_adds ops gs in
    let bit = bit_adds around.ops around.bit g g.made in
    omega (arith, before, bit)

outside_less : (guards : List Guard) → pending (outside guards) ≤ pending guards
outside_less [] = omega arith
outside_less (g ∷ gs) = omega arith

-- ---- what an expression comes to

-- Operations and guards come to at most n, and what an expression of type k gives is there.
pub record Comes (bit number : Bool) (k : CType) (n : ℕ) (x : Evaluated) : Type 0 where
  pub few : load x.ops x.guards ≤ n
  pub given : IsGiven bit number k x.given

abbrev pub Counts : PureTree → ℕ → Evaluated → Type 0
Counts t n x = Comes (gives_bit t) (is_number t) (kind t) n x

-- What comes next adds no more than is counted for this expression.
abbrev pub Adds : PureTree → Next → Type 0
Adds t next = (ops : List OpTree) (guards : List Guard) → Counts t (load ops guards + count t) (next ops guards)

more_room : (bit number : Bool) (k : CType) (n m : ℕ) (x : Evaluated) → n ≤ m → Comes bit number k n x → Comes bit number k m x
more_room bit number k n m x more h = let few = h.few in record { few = omega (arith, few, more); given = h.given }

-- a bit has no type of its own
any_type : (number : Bool) (k l : CType) (n : ℕ) (x : Evaluated) → Comes true number k n x → Comes true number l n x
any_type number k l n x h = record { few = h.few; given = by x.given h.given } where
  by : (g : Given) → IsGiven true number k g → IsGiven true number l g
  by (truth y) same = same
  by (value word own) none = absurd none

-- ---- operators

under_guard_adds : (k : CType) (op : Option Operand → OpTree) (ops : List OpTree) (guards : List Guard) → Comes false false k (load ops guards + 1) (under_guard k op (guarded ops guards))
under_guard_adds k op ops guards =
    let g = guarded ops guards in
    let before = guarded_adds ops guards in
    let one = one_more g.ops (op g.bit) in
    record { few = omega (arith, before, one); given = (refl, tt) }

computed_adds : (op : OpKind) (k : CType) (at : Place) (ops : List OpTree) (guards : List Guard) (args : List Operand) → Comes false false k (load ops guards + 1) (computed op k at ops guards args)
computed_adds op k at ops guards args = by (is_total op (is_signed k)) where
  by : (total : Bool)
      → Comes false false k (load ops guards + 1) (if total then with_value guards k (added ops (plain op (width k) args)) else under_guard k (flagged op (is_signed k) (width k) args None at) (guarded ops guards))
  by true = let one = one_more ops (plain op (width k) args) in record { few = omega (arith, one); given = (refl, tt) }
  by false = under_guard_adds k (flagged op (is_signed k) (width k) args None at) ops guards

bit_added : (k : CType) (ops : List OpTree) (guards : List Guard) (op : OpTree) → Comes true false k (load ops guards + 1) (with_truth guards (added ops op))
bit_added k ops guards op = let one = one_more ops op in record { few = omega (arith, one); given = refl }

-- the operation of an operator on two operands, which gives a bit or a value
abbrev Operates : Bool → Binary → Type 0
Operates bit op = (k : CType) (at : Place) (ops : List OpTree) (guards : List Guard) (x y : Operand) → Comes bit false k (load ops guards + 1) (operated op k at ops guards x y)

junction_adds : (both : Bool) (left right : PureTree) (k : CType) (n : ℕ) (second : Next) (first : Evaluated) → Counts left n first → Adds right second
    → Comes true false k (n + count right + (3 + as_condition left + as_condition right)) (junction both second first)
unfolding junction
junction_adds both left right k n second first h g =
    let x = tested first.ops first.given in
    let guards = only_where x.operand both first.guards in
    let other = second x.ops guards in
    let y = tested other.ops other.given in
    let after = g x.ops guards in
    let before = h.few in
    let one = tested_counted left first.ops first.given h.given in
    let two = after.few in
    let three = tested_counted right other.ops other.given after.given in
    let four = one_more y.ops (plain (if both then o.And else o.Or) 1 (x.operand ∷ y.operand ∷ [])) in
    let five = outside_less other.guards in
    let six = wanted_at_most both None in
    record { few = omega (arith, before, one, two, three, four, five, six); given = refl }

joined_adds : (bit : Bool) (op : Binary) (to to_right : CType) (left right : PureTree) (at : Place) (n : ℕ) (second : Next) (first : Evaluated) → Operates bit op → Counts left n first → Adds right second
    → Comes bit false to (n + count right + (1 + as_operand left to + as_operand right to_right)) (joined op to to_right at second first)
unfolding joined
joined_adds bit op to to_right left right at n second first works h g =
    let x = balanced first.ops first.given to in
    let other = second x.ops first.guards in
    let y = balanced other.ops other.given to_right in
    let after = g x.ops first.guards in
    let all = works to at y.ops other.guards x.operand y.operand in
    let before = h.few in
    let one = balanced_counted left first.ops first.given to h.given in
    let two = after.few in
    let three = balanced_counted right other.ops other.given to_right after.given in
    let four = all.few in
    record { few = omega (arith, before, one, two, three, four); given = all.given }

-- the types of the operands are those that are counted
typed_adds : (bit : Bool) (op : Binary) (k : CType) (left right : PureTree) (at : Place) (n : ℕ) (second : Next) (first : Evaluated) → Operates bit op → Counts left n first → Adds right second
    → Comes bit false (left_type op (given_kind left) (kind right) k)
    (n + count right + (1 + as_operand left (left_type op (given_kind left) (kind right) k) + as_operand right (right_type op (given_kind left) (kind right) k)))
    (joined op (left_type op (kind_of first.given) (kind right) k) (right_type op (kind_of first.given) (kind right) k) at second first)
typed_adds bit op k left right at n second first works h g =
    subst (λ from. Comes bit false (left_type op (given_kind left) (kind right) k)
    (n + count right + (1 + as_operand left (left_type op (given_kind left) (kind right) k) + as_operand right (right_type op (given_kind left) (kind right) k)))
    (joined op (left_type op from (kind right) k) (right_type op from (kind right) k) at second first))
    (sym (given_kind_of left first.given h.given))
    (joined_adds bit op (left_type op (given_kind left) (kind right) k) (right_type op (given_kind left) (kind right) k) left right at n second first works h g)

comparison_adds : (op : Binary) (k : CType) (left right : PureTree) (at : Place) (n : ℕ) (second : Next) (first : Evaluated) → Operates true op → Counts left n first → Adds right second
    → Comes true false k (n + count right + (1 + as_operand left (left_type op (given_kind left) (kind right) k) + as_operand right (right_type op (given_kind left) (kind right) k)))
    (joined op (left_type op (kind_of first.given) (kind right) k) (right_type op (kind_of first.given) (kind right) k) at second first)
comparison_adds op k left right at n second first works h g = any_type false _ k _ _ (typed_adds true op k left right at n second first works h g)

binary_adds : (op : Binary) (left right : PureTree) (k : CType) (at : Place) (n : ℕ) (second : Next) (first : Evaluated) → Counts left n first → Adds right second
    → Comes (compares op) false k (n + count right + binary_count op left right k) (binary op (kind right) k at second first)
binary_adds b.LogAnd left right k at n second first h g = junction_adds true left right k n second first h g
binary_adds b.LogOr left right k at n second first h g = junction_adds false left right k n second first h g
binary_adds b.Lt left right k at n second first h g =
    comparison_adds b.Lt k left right at n second first (λ to place ops guards x y. bit_added to ops guards (defined o.Lt (is_signed to) (width to) (x ∷ y ∷ []))) h g
binary_adds b.Gt left right k at n second first h g =
    comparison_adds b.Gt k left right at n second first (λ to place ops guards x y. bit_added to ops guards (defined o.Lt (is_signed to) (width to) (y ∷ x ∷ []))) h g
binary_adds b.Le left right k at n second first h g =
    comparison_adds b.Le k left right at n second first (λ to place ops guards x y. bit_added to ops guards (defined o.Le (is_signed to) (width to) (x ∷ y ∷ []))) h g
binary_adds b.Ge left right k at n second first h g =
    comparison_adds b.Ge k left right at n second first (λ to place ops guards x y. bit_added to ops guards (defined o.Le (is_signed to) (width to) (y ∷ x ∷ []))) h g
binary_adds b.Eq left right k at n second first h g =
    comparison_adds b.Eq k left right at n second first (λ to place ops guards x y. bit_added to ops guards (plain o.Eq (width to) (x ∷ y ∷ []))) h g
binary_adds b.Ne left right k at n second first h g =
    comparison_adds b.Ne k left right at n second first (λ to place ops guards x y. bit_added to ops guards (plain o.Ne (width to) (x ∷ y ∷ []))) h g
binary_adds b.Mul left right k at n second first h g =
    typed_adds false b.Mul k left right at n second first (λ to place ops guards x y. computed_adds o.Mul to place ops guards (x ∷ y ∷ [])) h g
binary_adds b.Div left right k at n second first h g =
    typed_adds false b.Div k left right at n second first (λ to place ops guards x y. computed_adds o.Div to place ops guards (x ∷ y ∷ [])) h g
binary_adds b.Rem left right k at n second first h g =
    typed_adds false b.Rem k left right at n second first (λ to place ops guards x y. computed_adds o.Rem to place ops guards (x ∷ y ∷ [])) h g
binary_adds b.Add left right k at n second first h g =
    typed_adds false b.Add k left right at n second first (λ to place ops guards x y. computed_adds o.Add to place ops guards (x ∷ y ∷ [])) h g
binary_adds b.Sub left right k at n second first h g =
    typed_adds false b.Sub k left right at n second first (λ to place ops guards x y. computed_adds o.Sub to place ops guards (x ∷ y ∷ [])) h g
binary_adds b.Shl left right k at n second first h g =
    typed_adds false b.Shl k left right at n second first (λ to place ops guards x y. computed_adds o.Shl to place ops guards (x ∷ y ∷ [])) h g
binary_adds b.Shr left right k at n second first h g =
    typed_adds false b.Shr k left right at n second first (λ to place ops guards x y. computed_adds o.Shr to place ops guards (x ∷ y ∷ [])) h g
binary_adds b.And left right k at n second first h g =
    typed_adds false b.And k left right at n second first (λ to place ops guards x y. computed_adds o.And to place ops guards (x ∷ y ∷ [])) h g
binary_adds b.Xor left right k at n second first h g =
    typed_adds false b.Xor k left right at n second first (λ to place ops guards x y. computed_adds o.Xor to place ops guards (x ∷ y ∷ [])) h g
binary_adds b.Or left right k at n second first h g =
    typed_adds false b.Or k left right at n second first (λ to place ops guards x y. computed_adds o.Or to place ops guards (x ∷ y ∷ [])) h g

unary_adds : (op : Unary) (arg : PureTree) (k : CType) (at : Place) (n : ℕ) (x : Evaluated) → Counts arg n x → Comes (negates op) false k (n + unary_count op arg k) (unary op k at x)
unary_adds u.LogNot arg k at n x h =
    let before = h.few in
    let one = tested_counted arg x.ops x.given h.given in
    let two = one_more (tested x.ops x.given).ops (plain o.Not 1 ((tested x.ops x.given).operand ∷ [])) in
    record { few = omega (arith, before, one, two); given = refl }
unary_adds u.Minus arg k at n x h =
    let y = balanced x.ops x.given k in
    let before = h.few in
    let one = balanced_counted arg x.ops x.given k h.given in
    let all = computed_adds o.Neg k at y.ops x.guards (y.operand ∷ []) in
    let two = all.few in
    record { few = omega (arith, before, one, two); given = all.given }
unary_adds u.Not arg k at n x h =
    let y = balanced x.ops x.given k in
    let before = h.few in
    let one = balanced_counted arg x.ops x.given k h.given in
    let two = one_more y.ops (plain o.Not (width k) (y.operand ∷ [])) in
    record { few = omega (arith, before, one, two); given = (refl, tt) }
unary_adds u.Plus arg k at n x h =
    let before = h.few in
    let one = balanced_counted arg x.ops x.given k h.given in
    record { few = omega (arith, before, one); given = (refl, tt) }

choice_adds : (test left right : PureTree) (k : CType) (n : ℕ) (first second : Next) (x : Evaluated) → Counts test n x → Adds left first → Adds right second
    → Comes false false k (n + count left + count right + choice_count test left right k) (choice k first second x)
unfolding choice
choice_adds test left right k n first second start h f g =
    let bit = tested start.ops start.given in
    let where_one = only_where bit.operand true start.guards in
    let one = first bit.ops where_one in
    let x = balanced one.ops one.given k in
    let where_zero = only_where bit.operand false (outside one.guards) in
    let other = second x.ops where_zero in
    let y = balanced other.ops other.given k in
    let after_one = f bit.ops where_one in
    let after_zero = g x.ops where_zero in
    let before = h.few in
    let a = tested_counted test start.ops start.given h.given in
    let c = after_one.few in
    let d = balanced_counted left one.ops one.given k after_one.given in
    let e = outside_less one.guards in
    let i = after_zero.few in
    let j = balanced_counted right other.ops other.given k after_zero.given in
    let l = outside_less other.guards in
    let m = one_more y.ops (plain o.Select (width k) (bit.operand ∷ x.operand ∷ y.operand ∷ [])) in
    record { few = omega (arith, before, a, c, d, e, i, j, l, m); given = (refl, tt) }

-- ---- subscripts

abbrev pub subscript_load : Subscripts → ℕ
subscript_load s = load s.ops s.guards

subscript_adds : (t : PureTree) (n m : ℕ) (rest : List OpTree → List Guard → Subscripts) (first : Evaluated) → Counts t n first → ((ops : List OpTree) (guards : List Guard) → subscript_load (rest ops guards) ≤ load ops guards + m)
    → subscript_load (subscript rest first) ≤ n + as_value t + m
unfolding subscript
subscript_adds t n m rest first h further =
    let x = valued first.ops first.given in
    let before = h.few in
    let one = valued_counted t first.ops first.given h.given in
    let two = further x.ops first.guards in
    omega (arith, before, one, two)

-- ---- expressions

mutual
  pub emitted_counts : (outs : List Out) (t : PureTree) (ops : List OpTree) (guards : List Guard) → Counts t (load ops guards + count t) (emitted outs t ops guards)
  emitted_counts outs (tree.number word k) ops guards = record { few = omega arith; given = (refl, tt) }
  emitted_counts outs (tree.variable name k) ops guards = record { few = omega arith; given = (refl, tt) }
  emitted_counts outs (tree.element array subscripts k at) ops guards =
      let s = emitted_all outs subscripts ops guards in
      let one = emitted_all_counts outs subscripts ops guards in
      more_room false false k _ _ _ (omega (arith, one)) (under_guard_adds k (flagged o.Load false (width k) s.operands (Some array) at) s.ops s.guards)
  emitted_counts outs (tree.unary op arg k at) ops guards =
      more_room (negates op) false k _ _ _ (omega arith) (unary_adds op arg k at (load ops guards + count arg) (emitted outs arg ops guards) (emitted_counts outs arg ops guards))
  emitted_counts outs (tree.binary op left right k at) ops guards =
      more_room (compares op) false k _ _ _ (omega arith)
      (binary_adds op left right k at (load ops guards + count left) (λ ops1 guards1. emitted outs right ops1 guards1) (emitted outs left ops guards) (emitted_counts outs left ops guards)
      (λ ops1 guards1. emitted_counts outs right ops1 guards1))
  emitted_counts outs (tree.choice test left right k) ops guards =
      more_room false false k _ _ _ (omega arith)
      (choice_adds test left right k (load ops guards + count test) (λ ops1 guards1. emitted outs left ops1 guards1) (λ ops1 guards1. emitted outs right ops1 guards1) (emitted outs test ops guards)
      (emitted_counts outs test ops guards) (λ ops1 guards1. emitted_counts outs left ops1 guards1) (λ ops1 guards1. emitted_counts outs right ops1 guards1))
  emitted_counts outs (tree.cast to arg) ops guards =
      let x = emitted outs arg ops guards in
      let h = emitted_counts outs arg ops guards in
      let before = h.few in
      let one = assigned_counted arg x.ops x.given to h.given in
      record { few = omega (arith, before, one); given = (refl, tt) }

  pub emitted_all_counts : (outs : List Out) (ts : PureTrees) (ops : List OpTree) (guards : List Guard) → subscript_load (emitted_all outs ts ops guards) ≤ load ops guards + subscript_count ts
  emitted_all_counts outs tree.none ops guards = omega arith
  emitted_all_counts outs (tree.more first rest) ops guards =
      let one = subscript_adds first (load ops guards + count first) (subscript_count rest) (λ ops1 guards1. emitted_all outs rest ops1 guards1) (emitted outs first ops guards) (emitted_counts outs first ops guards)
      (λ ops1 guards1. emitted_all_counts outs rest ops1 guards1) in
      omega (arith, one)
