-- What expressions give, and the operations that convert it: no more than are counted.
use Rattle.std.proofs.Common.{◌≡◌, ◌≤◌, ◌+◌, Bool, true, false, not, ◌&&◌, refl, sym, subst, arith, List, [], ◌∷◌, length, length-append}
use Rattle.std.specs.Prelude.{nat_eq, if◌then◌else◌}
use Rattle.c_token.specs.declared.ctype.CType.{CType}
use Rattle.c_token.specs.declared.ctype.CType.TheVariants as type
use Rattle.c_value.specs.Values.{int_type, width, promoted}
use Rattle.pieces.specs.Trees.{PureTree}
use Rattle.pieces.specs.Kind.{kind}
use Rattle.ir_core.specs.declared.body.Operand.{Operand}
use Rattle.ir_core.specs.declared.body.Source.{Source}
use Rattle.ir_core.specs.declared.body.Source.TheVariants as source
use Rattle.ir_core.specs.Bodies.{OpTree}
use Rattle.passes.specs.Lowering.Operations as lowered
use Rattle.passes.specs.Lowering.Operations.{gives, added, resized, converted_from, Given, truth, value, kind_of, valued, tested, assigned, promoted_value, balanced}
use Rattle.passes.specs.OperationCount.Expressions.{one_if, gives_bit, given_kind, is_number, is_bool, as_value, as_condition, conversion, as_assigned, as_operand}

pub one_more : (ops : List OpTree) (op : OpTree) → length (added ops op).ops ≤ length ops + 1
one_more ops op = let e = length-append ops (op ∷ []) in omega (arith, e)

-- ---- what expressions give

-- what is given for a number is a constant
abbrev pub IsConstantFor : Bool → Source → Type 0
IsConstantFor true (source.Constant word) = Unit {0}
IsConstantFor true (source.Variable v) = ⊥
IsConstantFor true (source.Result op) = ⊥
IsConstantFor false s = Unit {0}

-- what an expression of type k gives that gives a bit or not, and that is a number or not
abbrev pub IsGiven : Bool → Bool → CType → Given → Type 0
IsGiven true number k (truth x) = number ≡ false
IsGiven true number k (value word own) = ⊥
IsGiven false number k (truth x) = ⊥
IsGiven false number k (value word own) = (own ≡ k) × IsConstantFor number word.value

abbrev pub IsGivenFor : PureTree → Given → Type 0
IsGivenFor t g = IsGiven (gives_bit t) (is_number t) (kind t) g

kind_given : (bit number : Bool) (k : CType) (g : Given) → IsGiven bit number k g → kind_of g ≡ (if bit then int_type else k)
kind_given true number k (truth x) h = refl
kind_given true number k (value word own) h = absurd h
kind_given false number k (truth x) h = absurd h
kind_given false number k (value word own) h = h.0

pub given_kind_of : (t : PureTree) (g : Given) → IsGivenFor t g → kind_of g ≡ given_kind t
given_kind_of t g h = kind_given (gives_bit t) (is_number t) (kind t) g h

-- ---- values and conditions

valued_adds : (bit number : Bool) (k : CType) (ops : List OpTree) (g : Given) → IsGiven bit number k g → length (valued ops g).ops ≤ length ops + one_if bit
valued_adds true number k ops (truth x) h = one_more ops _
valued_adds true number k ops (value word own) h = absurd h
valued_adds false number k ops (truth x) h = absurd h
valued_adds false number k ops (value word own) h = omega arith

pub valued_counted : (t : PureTree) (ops : List OpTree) (g : Given) → IsGivenFor t g → length (valued ops g).ops ≤ length ops + as_value t
valued_counted t ops g h = valued_adds (gives_bit t) (is_number t) (kind t) ops g h

value_tested : (k : CType) (ops : List OpTree) (word : Operand) → length (tested ops (value word k)).ops ≤ length ops + one_if (not (is_bool k))
value_tested type.Bool ops word = omega arith
value_tested (type.Int signed bits) ops word = one_more ops _

tested_adds : (bit number : Bool) (k : CType) (ops : List OpTree) (g : Given) → IsGiven bit number k g → length (tested ops g).ops ≤ length ops + one_if (not bit && not (is_bool k))
tested_adds true number k ops (truth x) h = omega arith
tested_adds true number k ops (value word own) h = absurd h
tested_adds false number k ops (truth x) h = absurd h
tested_adds false number k ops (value word own) h = subst (λ to. length (tested ops (value word own)).ops ≤ length ops + one_if (not (is_bool to))) h.0 (value_tested own ops word)

pub tested_counted : (t : PureTree) (ops : List OpTree) (g : Given) → IsGivenFor t g → length (tested ops g).ops ≤ length ops + as_condition t
tested_counted t ops g h = tested_adds (gives_bit t) (is_number t) (kind t) ops g h

-- ---- conversions

resized_adds : (ops : List OpTree) (from to : CType) (x : Operand) → length (resized ops from to x).ops ≤ length ops + one_if (not (nat_eq (width from) (width to)))
resized_adds ops from to x = by (nat_eq (width from) (width to)) where
  by : (same : Bool) → length (if same then gives ops x else added ops (lowered.conversion from to x)).ops ≤ length ops + one_if (not same)
  by true = omega arith
  by false = one_more ops (lowered.conversion from to x)

converted_adds : (number : Bool) (ops : List OpTree) (from to : CType) (x : Operand) (s : Source) → IsConstantFor number s
    → length (converted_from ops from to x s).ops ≤ length ops + one_if (not number && not (nat_eq (width from) (width to)))
converted_adds number ops from to x (source.Constant word) h = omega arith
converted_adds true ops from to x (source.Variable v) h = absurd h
converted_adds false ops from to x (source.Variable v) h = resized_adds ops from to x
converted_adds true ops from to x (source.Result op) h = absurd h
converted_adds false ops from to x (source.Result op) h = resized_adds ops from to x

converted_constant : (number : Bool) (ops : List OpTree) (from to : CType) (x : Operand) (s : Source) → IsConstantFor number s → IsConstantFor number (converted_from ops from to x s).operand.value
converted_constant true ops from to x (source.Constant word) h = tt
converted_constant true ops from to x (source.Variable v) h = absurd h
converted_constant true ops from to x (source.Result op) h = absurd h
converted_constant false ops from to x s h = tt

valued_constant : (bit number : Bool) (k : CType) (ops : List OpTree) (g : Given) → IsGiven bit number k g → IsConstantFor number (valued ops g).operand.value
valued_constant true number k ops (truth x) h = subst (λ n. IsConstantFor n (valued ops (truth x)).operand.value) (sym h) tt
valued_constant true number k ops (value word own) h = absurd h
valued_constant false number k ops (truth x) h = absurd h
valued_constant false number k ops (value word own) h = h.1

pub assigned_counted : (t : PureTree) (ops : List OpTree) (g : Given) (to : CType) → IsGivenFor t g → length (assigned ops g to).ops ≤ length ops + as_assigned t to
assigned_counted t ops g to h =
    let x = valued ops g in
    let one = valued_counted t ops g h in
    let constant = valued_constant (gives_bit t) (is_number t) (kind t) ops g h in
    let two = converted_adds (is_number t) x.ops (kind_of g) to x.operand x.operand.value constant in
    let same : length (assigned ops g to).ops ≤ length x.ops + conversion t (given_kind t) to = subst (λ from. length (assigned ops g to).ops ≤ length x.ops + conversion t from to) (given_kind_of t g h) two in
    omega (arith, one, same)

pub balanced_counted : (t : PureTree) (ops : List OpTree) (g : Given) (to : CType) → IsGivenFor t g → length (balanced ops g to).ops ≤ length ops + as_operand t to
balanced_counted t ops g to h =
    let x = promoted_value ops g in
    let same = given_kind_of t g h in
    let one : length x.ops ≤ length ops + as_assigned t (promoted (given_kind t)) = subst (λ from. length x.ops ≤ length ops + as_assigned t (promoted from)) same (assigned_counted t ops g (promoted (kind_of g)) h) in
    let constant = converted_constant (is_number t) (valued ops g).ops (kind_of g) (promoted (kind_of g)) (valued ops g).operand (valued ops g).operand.value
    (valued_constant (gives_bit t) (is_number t) (kind t) ops g h) in
    let two = converted_adds (is_number t) x.ops (promoted (kind_of g)) to x.operand x.operand.value constant in
    let last : length (balanced ops g to).ops ≤ length x.ops + conversion t (promoted (given_kind t)) to
    = subst (λ from. length (balanced ops g to).ops ≤ length x.ops + conversion t (promoted from) to) same two in
    omega (arith, one, last)
