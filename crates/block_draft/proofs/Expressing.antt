-- What expressions become, step by step.
use Rattle.std.proofs.Common.{◌≡◌, ◌∙◌, Bool, true, false, ◌&&◌, refl, ap, ap₂, sym, subst, List, [], ◌∷◌, ◌++◌, Option, Some, None, if◌then◌else◌, append_assoc}
use denote.Ref.{Bor}
use Rattle.hls_base.specs.declared.place.Place.{Place}
use Rattle.c_token.specs.declared.ctype.CType.{CType}
use Rattle.c_tree.specs.declared.operator.Binary.{Binary}
use Rattle.c_tree.specs.declared.operator.Binary.TheVariants as b
use Rattle.c_value.specs.Values.{width, is_signed}
use Rattle.pieces.specs.Trees as tree
use Rattle.pieces.specs.Trees.{PureTree}
use Rattle.pieces.specs.Kind.{kind}
use Rattle.pieces.specs.View.{pure_of}
use Rattle.pieces.specs.declared.pure_expr.Pure.{Pure}
use Rattle.ir_core.specs.declared.body.OpKind.{OpKind}
use Rattle.ir_core.specs.declared.body.OpKind.TheVariants as o
use Rattle.ir_core.specs.declared.body.Operand.{Operand}
use Rattle.ir_core.specs.declared.body.Out.{Out}
use Rattle.ir_core.specs.Bodies.{OpTree}
use Rattle.passes.specs.Lowering.Operations.{Emitted, added, plain, defined, flagged, tested, balanced, valued}
use Rattle.passes.specs.Lowering.Guards.{Guard, only_where, outside, guarded}
use Rattle.passes.specs.Lowering.Expressions.{Evaluated, Subscripts, Next, with_value, with_truth, under_guard, is_total, computed, operated, operation, junction, joined, binary, choice, subscript, emitted}
use Rattle.block_draft.specs.declared.expression.Comparison.{Comparison}
use Rattle.block_draft.specs.Operators.{behind_left, unwound, with_front, junction_of, joined_by, joined_with, comparison_of, compared_as, Side, sided, chosen_other, chosen}

-- ---- operators that compute

pub computed_total : (op : OpKind) (k : CType) (at : Place) (ops : List OpTree) (guards : List Guard) (args : List Operand) → is_total op (is_signed k) ≡ true
    → with_value guards k (added ops (plain op (width k) args)) ≡ computed op k at ops guards args
computed_total op k at ops guards args e = sym (ap (λ t. if t then with_value guards k (added ops (plain op (width k) args)) else under_guard k (flagged op (is_signed k) (width k) args None at) (guarded ops guards)) e)

pub computed_partial : (op : OpKind) (k : CType) (at : Place) (ops : List OpTree) (guards : List Guard) (args : List Operand) → is_total op (is_signed k) ≡ false
    → under_guard k (flagged op (is_signed k) (width k) args None at) (guarded ops guards) ≡ computed op k at ops guards args
computed_partial op k at ops guards args e = sym (ap (λ t. if t then with_value guards k (added ops (plain op (width k) args)) else under_guard k (flagged op (is_signed k) (width k) args None at) (guarded ops guards)) e)

-- ---- binary operators

abbrev pub operated_by : Option Comparison → Binary → CType → Place → List OpTree → List Guard → Operand → Operand → Evaluated
operated_by (Some c) op k at ops guards x y = with_truth guards (added ops (compared_as c k x y))
operated_by None op k at ops guards x y = computed (operation op) k at ops guards (x ∷ y ∷ [])

and_true : (s : Bool) → (s && true) ≡ s
and_true true = refl
and_true false = refl

and_false : (s : Bool) → (s && false) ≡ false
and_false true = refl
and_false false = refl

pub operated_is : (op : Binary) (k : CType) (at : Place) (ops : List OpTree) (guards : List Guard) (x y : Operand) → operated_by (comparison_of op) op k at ops guards x y ≡ operated op k at ops guards x y
operated_is b.Mul k at ops guards x y = refl
operated_is b.Div k at ops guards x y = refl
operated_is b.Rem k at ops guards x y = refl
operated_is b.Add k at ops guards x y = refl
operated_is b.Sub k at ops guards x y = refl
operated_is b.Shl k at ops guards x y = refl
operated_is b.Shr k at ops guards x y = refl
operated_is b.And k at ops guards x y = refl
operated_is b.Xor k at ops guards x y = refl
operated_is b.Or k at ops guards x y = refl
operated_is b.LogAnd k at ops guards x y = refl
operated_is b.LogOr k at ops guards x y = refl
operated_is b.Lt k at ops guards x y = ap (λ s. with_truth guards (added ops (defined o.Lt s (width k) (x ∷ y ∷ [])))) (and_true (is_signed k))
operated_is b.Gt k at ops guards x y = ap (λ s. with_truth guards (added ops (defined o.Lt s (width k) (y ∷ x ∷ [])))) (and_true (is_signed k))
operated_is b.Le k at ops guards x y = ap (λ s. with_truth guards (added ops (defined o.Le s (width k) (x ∷ y ∷ [])))) (and_true (is_signed k))
operated_is b.Ge k at ops guards x y = ap (λ s. with_truth guards (added ops (defined o.Le s (width k) (y ∷ x ∷ [])))) (and_true (is_signed k))
operated_is b.Eq k at ops guards x y = ap (λ s. with_truth guards (added ops (defined o.Eq s (width k) (x ∷ y ∷ [])))) (and_false (is_signed k))
operated_is b.Ne k at ops guards x y = ap (λ s. with_truth guards (added ops (defined o.Ne s (width k) (x ∷ y ∷ [])))) (and_false (is_signed k))

-- `&&` and `||` where there is one, and else another operator
abbrev pub binary_by : Option Bool → Binary → CType → CType → Place → Next → Evaluated → Evaluated
binary_by (Some both) op right k at second first = joined_by both second first.guards (tested first.ops first.given)
binary_by None op right k at second first = joined_with (record { op = op; kind = k; at = at }) right second first

pub binary_is : (op : Binary) (right k : CType) (at : Place) (second : Next) (first : Evaluated) → binary_by (junction_of op) op right k at second first ≡ binary op right k at second first
unfolding junction
binary_is b.Mul right k at second first = refl
binary_is b.Div right k at second first = refl
binary_is b.Rem right k at second first = refl
binary_is b.Add right k at second first = refl
binary_is b.Sub right k at second first = refl
binary_is b.Shl right k at second first = refl
binary_is b.Shr right k at second first = refl
binary_is b.And right k at second first = refl
binary_is b.Xor right k at second first = refl
binary_is b.Or right k at second first = refl
binary_is b.LogAnd right k at second first = refl
binary_is b.LogOr right k at second first = refl
binary_is b.Lt right k at second first = refl
binary_is b.Gt right k at second first = refl
binary_is b.Le right k at second first = refl
binary_is b.Ge right k at second first = refl
binary_is b.Eq right k at second first = refl
binary_is b.Ne right k at second first = refl

-- the second operand of `&&` or `||`
pub junction_step : (both : Bool) (second : Next) (guards inner behind : List Guard) (x : Emitted) (other : Evaluated) (y z : Emitted)
    → inner ≡ only_where x.operand both guards → other ≡ second x.ops inner → behind ≡ outside other.guards → y ≡ tested other.ops other.given
    → z ≡ added y.ops (plain (if both then o.And else o.Or) 1 (x.operand ∷ y.operand ∷ [])) → with_truth behind z ≡ joined_by both second guards x
junction_step both second guards inner behind x other y z inside evaluated out test made_ =
    ap₂ with_truth out made_
    ∙ ap (λ (w : Emitted). with_truth (outside other.guards) (added w.ops (plain (if both then o.And else o.Or) 1 (x.operand ∷ w.operand ∷ [])))) test
    ∙ ap (λ (w : Evaluated). with_truth (outside w.guards) (added (tested w.ops w.given).ops (plain (if both then o.And else o.Or) 1 (x.operand ∷ (tested w.ops w.given).operand ∷ [])))) evaluated
    ∙ ap (λ l. joined_under (second x.ops l)) inside where
      joined_under : Evaluated → Evaluated
      joined_under w = with_truth (outside w.guards) (added (tested w.ops w.given).ops (plain (if both then o.And else o.Or) 1 (x.operand ∷ (tested w.ops w.given).operand ∷ [])))

-- the operands of another operator
pub joined_step : (op : Binary) (to to_right : CType) (at : Place) (second : Next) (first : Evaluated) (x : Emitted) (other : Evaluated) (y : Emitted) (z : Evaluated)
    → x ≡ balanced first.ops first.given to → other ≡ second x.ops first.guards → y ≡ balanced other.ops other.given to_right
    → z ≡ operated op to at y.ops other.guards x.operand y.operand → z ≡ joined op to to_right at second first
unfolding joined
joined_step op to to_right at second first x other y z first_ second_ third made_ =
    made_
    ∙ ap (λ (w : Emitted). operated op to at w.ops other.guards x.operand w.operand) third
    ∙ ap (λ (w : Evaluated). operated op to at (balanced w.ops w.given to_right).ops w.guards x.operand (balanced w.ops w.given to_right).operand) second_
    ∙ ap (λ (w : Emitted). (λ (v : Evaluated). operated op to at (balanced v.ops v.given to_right).ops v.guards w.operand (balanced v.ops v.given to_right).operand) (second w.ops first.guards)) first_

-- ---- choices

pub sided_step : (k : CType) (next : Next) (test : Operand) (holds : Bool) (ops : List OpTree) (guards inner behind : List Guard) (one : Evaluated) (x : Emitted)
    → inner ≡ only_where test holds guards → one ≡ next ops inner → behind ≡ outside one.guards → x ≡ balanced one.ops one.given k
    → record { ops = x.ops; guards = behind; operand = x.operand } ≡ sided k next test holds ops guards
sided_step k next test holds ops guards inner behind one x inside evaluated out made_ =
    ap₂ (λ (l : List Guard) (w : Emitted). side l w) out made_ ∙ ap (λ (w : Evaluated). side (outside w.guards) (balanced w.ops w.given k)) evaluated
    ∙ ap (λ l. (λ (w : Evaluated). side (outside w.guards) (balanced w.ops w.given k)) (next ops l)) inside where
      side : List Guard → Emitted → Side
      side l w = record { ops = w.ops; guards = l; operand = w.operand }

pub other_step : (k : CType) (second : Next) (test : Operand) (one other : Side) (z : Emitted)
    → other ≡ sided k second test false one.ops one.guards → z ≡ added other.ops (plain o.Select (width k) (test ∷ one.operand ∷ other.operand ∷ []))
    → with_value other.guards k z ≡ chosen_other k second test one
other_step k second test one other z second_ made_ =
    ap (with_value other.guards k) made_
    ∙ ap (λ (w : Side). with_value w.guards k (added w.ops (plain o.Select (width k) (test ∷ one.operand ∷ w.operand ∷ [])))) second_

pub choice_is : (k : CType) (first second : Next) (test : Evaluated) → chosen k first second test.guards (tested test.ops test.given) ≡ choice k first second test
unfolding choice
choice_is k first second test = refl

-- ---- rows

pub unwound_more : (outs : List Out) (operators : List (Bor Pure)) (operator : Bor Pure) (first : Evaluated) → unwound outs (operators ++ operator ∷ []) first ≡ unwound outs operators (behind_left outs (pure_of operator.now) first)
unwound_more outs [] operator first = refl
unwound_more outs (x ∷ xs) operator first = ap (behind_left outs (pure_of x.now)) (unwound_more outs xs operator first)

pub subscript_step : (xs : List Operand) (rest : List OpTree → List Guard → Subscripts) (first : Evaluated) (x : Emitted) → x ≡ valued first.ops first.given
    → with_front (xs ++ x.operand ∷ []) (rest x.ops first.guards) ≡ with_front xs (subscript rest first)
unfolding subscript
subscript_step xs rest first x e =
    ap (λ (l : List Operand). record (rest x.ops first.guards) { operands = l }) (append_assoc xs (x.operand ∷ []) (rest x.ops first.guards).operands)
    ∙ ap (λ (w : Emitted). with_front xs (record (rest w.ops first.guards) { operands = w.operand ∷ (rest w.ops first.guards).operands })) e

-- ---- behind a first operand

pub behind_left_is : (outs : List Out) (op : Binary) (left right : PureTree) (k : CType) (at : Place) (t : PureTree) (ops : List OpTree) (guards : List Guard)
    → t ≡ tree.binary op left right k at → behind_left outs t (emitted outs left ops guards) ≡ emitted outs t ops guards
behind_left_is outs op left right k at t ops guards e = subst (λ p. behind_left outs p (emitted outs left ops guards) ≡ emitted outs p ops guards) (sym e) refl

pub behind_is : (outs : List Out) (op : Binary) (left right : PureTree) (k : CType) (at : Place) (t : PureTree) (first : Evaluated) (j : Option Bool)
    → t ≡ tree.binary op left right k at → j ≡ junction_of op → binary_by j op (kind right) k at (emitted outs right) first ≡ behind_left outs t first
behind_is outs op left right k at t first j e h =
    ap (λ f. binary_by f op (kind right) k at (emitted outs right) first) h ∙ binary_is op (kind right) k at (emitted outs right) first ∙ sym (ap (λ p. behind_left outs p first) e)
