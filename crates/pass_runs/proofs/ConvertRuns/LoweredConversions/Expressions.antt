-- The operations of expressions: operands are there and have their widths.
use Rattle.std.specs.Prelude.{◌==◌, slice_get}
use Rattle.std.proofs.Common.{◌≡◌, ◌∙◌, ℕ, zero, suc, Bool, true, false, refl, ap, sym, subst, List, [], ◌∷◌, map, length, Option, Some, None, if◌then◌else◌}
use Rattle.hls_base.specs.declared.place.Place.{Place}
use Rattle.hls_base.specs.declared.number.ArrayId.{ArrayId}
use Rattle.hls_base.specs.declared.number.VarId.{VarId}
use Rattle.c_token.specs.declared.ctype.CType.{CType}
use Rattle.c_tree.specs.declared.operator.Unary.{Unary}
use Rattle.c_tree.specs.declared.operator.Unary.TheVariants as u
use Rattle.c_tree.specs.declared.operator.Binary.{Binary}
use Rattle.c_tree.specs.declared.operator.Binary.TheVariants as b
use Rattle.c_value.specs.Values.{width, is_signed}
use Rattle.pieces.specs.Trees as tree
use Rattle.pieces.specs.Trees.{PureTree, PureTrees}
use Rattle.pieces.specs.Kind.{kind}
use Rattle.ir_core.specs.declared.body.OpKind.{OpKind}
use Rattle.ir_core.specs.declared.body.OpKind.TheVariants as o
use Rattle.ir_core.specs.declared.body.Operand.{Operand}
use Rattle.ir_core.specs.declared.body.Out.{Out}
use Rattle.ir_core.specs.Timing.{result_bits}
use Rattle.ir_core.specs.Bodies.{OpTree}
use Rattle.passes.specs.Lowering.Operations.{Emitted, added, constant, plain, defined, flagged, kind_of, valued, tested, balanced, assigned}
use Rattle.passes.specs.Lowering.Outs.{held}
use Rattle.passes.specs.Lowering.Guards.{Guard, guarded, only_where, outside}
use Rattle.passes.specs.Lowering.Blocks.{Scope}
use Rattle.passes.specs.Lowering.Expressions.{Evaluated, Next, Subscripts, with_value, with_truth, under_guard, is_total, computed, operated, junction, joined, binary, unary, negated, choice, cast_to, subscript, loaded, emitted, emitted_all, left_type, right_type}
use Rattle.pass_runs.specs.ConvertRuns.Typed.{AreEarly, HasBits, GuardIsTyped, AccessIsTyped, OpIsTyped, OpsAreTyped, OutsAreTyped}
use Rattle.pass_runs.proofs.ConvertRuns.Opening.{same_number}
use Rattle.pass_runs.proofs.ConvertRuns.Joining.{has_early}
use Rattle.pass_runs.specs.ConvertRuns.LoweredConversions.Suiting.{widths_of, words_of, PureSuits, EachSuits}
use Rattle.pass_runs.proofs.ConvertRuns.LoweredConversions.Adding.{Grows, stays, grows_on, early_on, has_on, outs_on, Fine, added_fine, nothing_fine, one_early, two_early, GivenTyped, valued_fine, tested_fine, assigned_fine, balanced_fine, GuardsTyped, guards_on, outside_typed, guarded_fine}

some_number : {x y : ℕ} → Some x ≡ Some y → x ≡ y
some_number e = cc

pub mapped : {A : Type 0} (f : A → ℕ) (xs : List A) (i : ℕ) (x : A) → slice_get xs i ≡ Some x → slice_get (map f xs) i ≡ Some (f x)
mapped f [] i x e = absurd cc
mapped f (y ∷ xs) zero x e = ap (λ z. Some (f z)) (some_same e) where
  some_same : {B : Type 0} {p q : B} → Some p ≡ Some q → p ≡ q
  some_same h = cc
mapped f (y ∷ xs) (suc i) x e = mapped f xs i x e

module _ (widths words : List ℕ) where
  -- Operations were added.
  pub record EvalFine (base : List OpTree) (x : Evaluated) : Type 0 where
    pub typed : OpsAreTyped widths words [] x.ops
    pub grows : Grows base x.ops
    pub guards : GuardsTyped widths words x.ops x.guards
    pub given : GivenTyped widths words x.ops x.given

  eval_on : (base ops : List OpTree) (x : Evaluated) → Grows base ops → EvalFine ops x → EvalFine base x
  eval_on base ops x g h = record { typed = h.typed; grows = grows_on base ops x.ops g h.grows; guards = h.guards; given = h.given }

  value_fine : (base : List OpTree) (gs : List Guard) (k : CType) (x : Emitted) → GuardsTyped widths words base gs → Fine widths words base (width k) x → EvalFine base (with_value gs k x)
  value_fine base gs k x g h = record { typed = h.typed; grows = h.grows; guards = guards_on widths words base x.ops h.grows gs g; given = h.has }

  truth_fine : (base : List OpTree) (gs : List Guard) (x : Emitted) → GuardsTyped widths words base gs → Fine widths words base 1 x → EvalFine base (with_truth gs x)
  truth_fine base gs x g h = record { typed = h.typed; grows = h.grows; guards = guards_on widths words base x.ops h.grows gs g; given = h.has }

  -- What comes next is so behind these operations and more.
  abbrev pub NextFine : List OpTree → Next → Type 0
  NextFine base next = (ops : List OpTree) (gs : List Guard) → Grows base ops → OpsAreTyped widths words [] ops → GuardsTyped widths words ops gs → EvalFine ops (next ops gs)

  -- an operation with a flag
  under_guard_fine : (ops : List OpTree) (gs : List Guard) (k : CType) (op : Option Operand → OpTree) → OpsAreTyped widths words [] ops → GuardsTyped widths words ops gs
      → ((ops1 : List OpTree) (bit : Option Operand) → Grows ops ops1 → GuardIsTyped widths words ops1 bit → OpIsTyped widths words ops1 (op bit)) → ((bit : Option Operand) → result_bits (op bit).kind (op bit).bits ≡ width k)
      → EvalFine ops (under_guard k op (guarded ops gs))
  under_guard_fine ops gs k op h g is_ e =
      let r = guarded ops gs in
      let f = guarded_fine widths words ops gs h g in
      let x = added r.ops (op r.bit) in
      let a = added_fine widths words r.ops (op r.bit) f.typed (is_ r.ops r.bit f.grows f.bit) in
      eval_on ops r.ops (under_guard k op r) f.grows (value_fine r.ops r.guards k x f.guards (subst (λ n. Fine widths words r.ops n x) (e r.bit) a))

  no_access : (ops : List OpTree) (op : OpTree) (kind : OpKind) → AccessIsTyped widths words ops op kind None
  no_access ops op o.Load = tt
  no_access ops op o.Store = tt
  no_access ops op kind = tt

  -- a kind whose results have the width of the operation
  computed_fine : (ops : List OpTree) (gs : List Guard) (kind : OpKind) (k : CType) (at : Place) (args : List Operand) → ((n : ℕ) → result_bits kind n ≡ n) → OpsAreTyped widths words [] ops → GuardsTyped widths words ops gs → AreEarly (length ops) args
      → EvalFine ops (computed kind k at ops gs args)
  computed_fine ops gs kind k at args wide h g early = either (is_total kind (is_signed k)) where
    either : (c : Bool) → EvalFine ops (if c then with_value gs k (added ops (plain kind (width k) args)) else under_guard k (flagged kind (is_signed k) (width k) args None at) (guarded ops gs))
    either true =
        let op = plain kind (width k) args in
        value_fine ops gs k (added ops op) g (subst (λ n. Fine widths words ops n (added ops op)) (wide (width k)) (added_fine widths words ops op h (record { args = early; guard = tt; access = no_access ops op kind })))
    either false =
        under_guard_fine ops gs k (flagged kind (is_signed k) (width k) args None at) h g
        (λ ops1 bit e z. record { args = early_on ops ops1 e args early; guard = z; access = no_access ops1 (flagged kind (is_signed k) (width k) args None at bit) kind }) (λ bit. wide (width k))

  compared_fine : (ops : List OpTree) (gs : List Guard) (op : OpTree) → result_bits op.kind op.bits ≡ 1 → OpIsTyped widths words ops op → OpsAreTyped widths words [] ops → GuardsTyped widths words ops gs → EvalFine ops (with_truth gs (added ops op))
  compared_fine ops gs op e z h g = truth_fine ops gs (added ops op) g (subst (λ n. Fine widths words ops n (added ops op)) e (added_fine widths words ops op h z))

  operated_fine : (f : Binary) (ops : List OpTree) (gs : List Guard) (k : CType) (at : Place) (x y : Operand) → OpsAreTyped widths words [] ops → GuardsTyped widths words ops gs → AreEarly (length ops) (x ∷ y ∷ []) → EvalFine ops (operated f k at ops gs x y)
  operated_fine b.Lt ops gs k at x y h g e = compared_fine ops gs (defined o.Lt (is_signed k) (width k) (x ∷ y ∷ [])) refl (record { args = e; guard = tt; access = tt }) h g
  operated_fine b.Gt ops gs k at x y h g e = compared_fine ops gs (defined o.Lt (is_signed k) (width k) (y ∷ x ∷ [])) refl (record { args = (e.1.0, (e.0, tt)); guard = tt; access = tt }) h g
  operated_fine b.Le ops gs k at x y h g e = compared_fine ops gs (defined o.Le (is_signed k) (width k) (x ∷ y ∷ [])) refl (record { args = e; guard = tt; access = tt }) h g
  operated_fine b.Ge ops gs k at x y h g e = compared_fine ops gs (defined o.Le (is_signed k) (width k) (y ∷ x ∷ [])) refl (record { args = (e.1.0, (e.0, tt)); guard = tt; access = tt }) h g
  operated_fine b.Eq ops gs k at x y h g e = compared_fine ops gs (plain o.Eq (width k) (x ∷ y ∷ [])) refl (record { args = e; guard = tt; access = tt }) h g
  operated_fine b.Ne ops gs k at x y h g e = compared_fine ops gs (plain o.Ne (width k) (x ∷ y ∷ [])) refl (record { args = e; guard = tt; access = tt }) h g
  operated_fine b.Mul ops gs k at x y h g e = computed_fine ops gs o.Mul k at (x ∷ y ∷ []) (λ n. refl) h g e
  operated_fine b.Div ops gs k at x y h g e = computed_fine ops gs o.Div k at (x ∷ y ∷ []) (λ n. refl) h g e
  operated_fine b.Rem ops gs k at x y h g e = computed_fine ops gs o.Rem k at (x ∷ y ∷ []) (λ n. refl) h g e
  operated_fine b.Add ops gs k at x y h g e = computed_fine ops gs o.Add k at (x ∷ y ∷ []) (λ n. refl) h g e
  operated_fine b.Sub ops gs k at x y h g e = computed_fine ops gs o.Sub k at (x ∷ y ∷ []) (λ n. refl) h g e
  operated_fine b.Shl ops gs k at x y h g e = computed_fine ops gs o.Shl k at (x ∷ y ∷ []) (λ n. refl) h g e
  operated_fine b.Shr ops gs k at x y h g e = computed_fine ops gs o.Shr k at (x ∷ y ∷ []) (λ n. refl) h g e
  operated_fine b.And ops gs k at x y h g e = computed_fine ops gs o.And k at (x ∷ y ∷ []) (λ n. refl) h g e
  operated_fine b.Xor ops gs k at x y h g e = computed_fine ops gs o.Xor k at (x ∷ y ∷ []) (λ n. refl) h g e
  operated_fine b.Or ops gs k at x y h g e = computed_fine ops gs o.Or k at (x ∷ y ∷ []) (λ n. refl) h g e
  operated_fine b.LogAnd ops gs k at x y h g e = computed_fine ops gs o.And k at (x ∷ y ∷ []) (λ n. refl) h g e
  operated_fine b.LogOr ops gs k at x y h g e = computed_fine ops gs o.Or k at (x ∷ y ∷ []) (λ n. refl) h g e

  module _ (base : List OpTree) (first : Evaluated) (one : EvalFine base first) where
    junction_fine : (both : Bool) (second : Next) → NextFine base second → EvalFine base (junction both second first)
    unfolding junction
    junction_fine both second other =
        let x = tested first.ops first.given in
        let fx = tested_fine widths words first.ops first.given one.typed one.given in
        let g1 = grows_on base first.ops x.ops one.grows fx.grows in
        let right = second x.ops (only_where x.operand both first.guards) in
        let fr = other x.ops (only_where x.operand both first.guards) g1 fx.typed (fx.has, tt, guards_on widths words first.ops x.ops fx.grows first.guards one.guards) in
        let y = tested right.ops right.given in
        let fy = tested_fine widths words right.ops right.given fr.typed fr.given in
        let g2 = grows_on x.ops right.ops y.ops fr.grows fy.grows in
        let op = plain (if both then o.And else o.Or) 1 (x.operand ∷ y.operand ∷ []) in
        eval_on base y.ops (with_truth (outside right.guards) (added y.ops op)) (grows_on base x.ops y.ops g1 g2)
        (either both y.ops (outside right.guards) x.operand y.operand fy.typed (guards_on widths words right.ops y.ops fy.grows (outside right.guards) (outside_typed widths words right.ops right.guards fr.guards))
        (two_early widths words y.ops 1 1 x.operand y.operand (has_on widths words x.ops y.ops g2 1 x.operand.value fx.has) fy.has))
      where
        either : (both : Bool) (ops : List OpTree) (gs : List Guard) (x y : Operand) → OpsAreTyped widths words [] ops → GuardsTyped widths words ops gs → AreEarly (length ops) (x ∷ y ∷ []) → EvalFine ops (with_truth gs (added ops (plain (if both then o.And else o.Or) 1 (x ∷ y ∷ []))))
        either true ops gs x y h g e = compared_fine ops gs (plain o.And 1 (x ∷ y ∷ [])) refl (record { args = e; guard = tt; access = tt }) h g
        either false ops gs x y h g e = compared_fine ops gs (plain o.Or 1 (x ∷ y ∷ [])) refl (record { args = e; guard = tt; access = tt }) h g

    joined_fine : (f : Binary) (to to_right : CType) (at : Place) (second : Next) → NextFine base second → EvalFine base (joined f to to_right at second first)
    unfolding joined
    joined_fine f to to_right at second other =
        let x = balanced first.ops first.given to in
        let fx = balanced_fine widths words first.ops first.given to one.typed one.given in
        let g1 = grows_on base first.ops x.ops one.grows fx.grows in
        let right = second x.ops first.guards in
        let fr = other x.ops first.guards g1 fx.typed (guards_on widths words first.ops x.ops fx.grows first.guards one.guards) in
        let y = balanced right.ops right.given to_right in
        let fy = balanced_fine widths words right.ops right.given to_right fr.typed fr.given in
        let g2 = grows_on x.ops right.ops y.ops fr.grows fy.grows in
        eval_on base y.ops (operated f to at y.ops right.guards x.operand y.operand) (grows_on base x.ops y.ops g1 g2)
        (operated_fine f y.ops right.guards to at x.operand y.operand fy.typed (guards_on widths words right.ops y.ops fy.grows right.guards fr.guards)
        (two_early widths words y.ops (width to) (width to_right) x.operand y.operand (has_on widths words x.ops y.ops g2 (width to) x.operand.value fx.has) fy.has))

    choice_fine : (k : CType) (left right : Next) → NextFine base left → NextFine base right → EvalFine base (choice k left right first)
    unfolding choice
    choice_fine k left right fl fr =
        let t = tested first.ops first.given in
        let ft = tested_fine widths words first.ops first.given one.typed one.given in
        let g1 = grows_on base first.ops t.ops one.grows ft.grows in
        let a = left t.ops (only_where t.operand true first.guards) in
        let fa = fl t.ops (only_where t.operand true first.guards) g1 ft.typed (ft.has, tt, guards_on widths words first.ops t.ops ft.grows first.guards one.guards) in
        let x = balanced a.ops a.given k in
        let fx = balanced_fine widths words a.ops a.given k fa.typed fa.given in
        let g2 = grows_on t.ops a.ops x.ops fa.grows fx.grows in
        let c = right x.ops (only_where t.operand false (outside a.guards)) in
        let fc = fr x.ops (only_where t.operand false (outside a.guards)) (grows_on base t.ops x.ops g1 g2) fx.typed
        (has_on widths words t.ops x.ops g2 1 t.operand.value ft.has, tt, guards_on widths words a.ops x.ops fx.grows (outside a.guards) (outside_typed widths words a.ops a.guards fa.guards)) in
        let y = balanced c.ops c.given k in
        let fy = balanced_fine widths words c.ops c.given k fc.typed fc.given in
        let g3 = grows_on x.ops c.ops y.ops fc.grows fy.grows in
        let g4 = grows_on t.ops x.ops y.ops g2 g3 in
        let op = plain o.Select (width k) (t.operand ∷ x.operand ∷ y.operand ∷ []) in
        eval_on base y.ops (with_value (outside c.guards) k (added y.ops op)) (grows_on base t.ops y.ops g1 g4)
        (value_fine y.ops (outside c.guards) k (added y.ops op) (guards_on widths words c.ops y.ops fy.grows (outside c.guards) (outside_typed widths words c.ops c.guards fc.guards))
        (added_fine widths words y.ops op fy.typed (record {
          args = (has_early widths words y.ops 1 t.operand.value (has_on widths words t.ops y.ops g4 1 t.operand.value ft.has), two_early widths words y.ops (width k) (width k) x.operand y.operand (has_on widths words x.ops y.ops g3 (width k) x.operand.value fx.has) fy.has);
          guard = tt;
          access = tt;
        })))

    unary_fine : (f : Unary) (k : CType) (at : Place) → EvalFine base (unary f k at first)
    unary_fine f k at = eval_on base first.ops (unary f k at first) one.grows (here f) where
      bal : Fine widths words first.ops (width k) (balanced first.ops first.given k)
      bal = balanced_fine widths words first.ops first.given k one.typed one.given

      gs : GuardsTyped widths words (balanced first.ops first.given k).ops first.guards
      gs = guards_on widths words first.ops (balanced first.ops first.given k).ops bal.grows first.guards one.guards

      here : (f : Unary) → EvalFine first.ops (unary f k at first)
      here u.LogNot =
          let t = tested first.ops first.given in
          let ft = tested_fine widths words first.ops first.given one.typed one.given in
          eval_on first.ops t.ops (negated first.guards t) ft.grows
          (compared_fine t.ops first.guards (plain o.Not 1 (t.operand ∷ [])) refl (record { args = one_early widths words t.ops 1 t.operand ft.has; guard = tt; access = tt }) ft.typed (guards_on widths words first.ops t.ops ft.grows first.guards one.guards))
      here u.Plus = value_fine first.ops first.guards k (balanced first.ops first.given k) one.guards bal
      here u.Not =
          let x = balanced first.ops first.given k in
          eval_on first.ops x.ops (with_value first.guards k (added x.ops (plain o.Not (width k) (x.operand ∷ [])))) bal.grows
          (value_fine x.ops first.guards k (added x.ops (plain o.Not (width k) (x.operand ∷ []))) gs
          (added_fine widths words x.ops (plain o.Not (width k) (x.operand ∷ [])) bal.typed (record { args = one_early widths words x.ops (width k) x.operand bal.has; guard = tt; access = tt })))
      here u.Minus =
          let x = balanced first.ops first.given k in
          eval_on first.ops x.ops (computed o.Neg k at x.ops first.guards (x.operand ∷ [])) bal.grows
          (computed_fine x.ops first.guards o.Neg k at (x.operand ∷ []) (λ n. refl) bal.typed gs (one_early widths words x.ops (width k) x.operand bal.has))

    cast_fine : (to : CType) → EvalFine base (cast_to to first)
    cast_fine to = eval_on base first.ops (cast_to to first) one.grows (value_fine first.ops first.guards to (assigned first.ops first.given to) one.guards (assigned_fine widths words first.ops first.given to one.typed one.given))

    binary_fine : (f : Binary) (right k : CType) (at : Place) (second : Next) → NextFine base second → EvalFine base (binary f right k at second first)
    binary_fine b.Mul right k at second other = joined_fine b.Mul (left_type b.Mul (kind_of first.given) right k) (right_type b.Mul (kind_of first.given) right k) at second other
    binary_fine b.Div right k at second other = joined_fine b.Div (left_type b.Div (kind_of first.given) right k) (right_type b.Div (kind_of first.given) right k) at second other
    binary_fine b.Rem right k at second other = joined_fine b.Rem (left_type b.Rem (kind_of first.given) right k) (right_type b.Rem (kind_of first.given) right k) at second other
    binary_fine b.Add right k at second other = joined_fine b.Add (left_type b.Add (kind_of first.given) right k) (right_type b.Add (kind_of first.given) right k) at second other
    binary_fine b.Sub right k at second other = joined_fine b.Sub (left_type b.Sub (kind_of first.given) right k) (right_type b.Sub (kind_of first.given) right k) at second other
    binary_fine b.Shl right k at second other = joined_fine b.Shl (left_type b.Shl (kind_of first.given) right k) (right_type b.Shl (kind_of first.given) right k) at second other
    binary_fine b.Shr right k at second other = joined_fine b.Shr (left_type b.Shr (kind_of first.given) right k) (right_type b.Shr (kind_of first.given) right k) at second other
    binary_fine b.Lt right k at second other = joined_fine b.Lt (left_type b.Lt (kind_of first.given) right k) (right_type b.Lt (kind_of first.given) right k) at second other
    binary_fine b.Gt right k at second other = joined_fine b.Gt (left_type b.Gt (kind_of first.given) right k) (right_type b.Gt (kind_of first.given) right k) at second other
    binary_fine b.Le right k at second other = joined_fine b.Le (left_type b.Le (kind_of first.given) right k) (right_type b.Le (kind_of first.given) right k) at second other
    binary_fine b.Ge right k at second other = joined_fine b.Ge (left_type b.Ge (kind_of first.given) right k) (right_type b.Ge (kind_of first.given) right k) at second other
    binary_fine b.Eq right k at second other = joined_fine b.Eq (left_type b.Eq (kind_of first.given) right k) (right_type b.Eq (kind_of first.given) right k) at second other
    binary_fine b.Ne right k at second other = joined_fine b.Ne (left_type b.Ne (kind_of first.given) right k) (right_type b.Ne (kind_of first.given) right k) at second other
    binary_fine b.And right k at second other = joined_fine b.And (left_type b.And (kind_of first.given) right k) (right_type b.And (kind_of first.given) right k) at second other
    binary_fine b.Xor right k at second other = joined_fine b.Xor (left_type b.Xor (kind_of first.given) right k) (right_type b.Xor (kind_of first.given) right k) at second other
    binary_fine b.Or right k at second other = joined_fine b.Or (left_type b.Or (kind_of first.given) right k) (right_type b.Or (kind_of first.given) right k) at second other
    binary_fine b.LogAnd right k at second other = junction_fine true second other
    binary_fine b.LogOr right k at second other = junction_fine false second other

  -- ---- subscripts

  pub record RowFine (base : List OpTree) (x : Subscripts) : Type 0 where
    pub typed : OpsAreTyped widths words [] x.ops
    pub grows : Grows base x.ops
    pub guards : GuardsTyped widths words x.ops x.guards
    pub operands : AreEarly (length x.ops) x.operands

  subscript_fine : (base : List OpTree) (first : Evaluated) (rest : List OpTree → List Guard → Subscripts) → EvalFine base first
      → ((ops : List OpTree) (gs : List Guard) → Grows base ops → OpsAreTyped widths words [] ops → GuardsTyped widths words ops gs → RowFine ops (rest ops gs)) → RowFine base (subscript rest first)
  unfolding subscript
  subscript_fine base first rest one others =
      let x = valued first.ops first.given in
      let fx = valued_fine widths words first.ops first.given one.typed one.given in
      let g1 = grows_on base first.ops x.ops one.grows fx.grows in
      let r = rest x.ops first.guards in
      let fr = others x.ops first.guards g1 fx.typed (guards_on widths words first.ops x.ops fx.grows first.guards one.guards) in
      record {
        typed = fr.typed;
        grows = grows_on base x.ops r.ops g1 fr.grows;
        guards = fr.guards;
        operands = ((early_on x.ops r.ops fr.grows (x.operand ∷ []) (one_early widths words x.ops (width (kind_of first.given)) x.operand fx.has)).0, fr.operands);
      }

  loaded_fine : (base : List OpTree) (array : ArrayId) (k : CType) (at : Place) (s : Subscripts) → slice_get words array.0 ≡ Some (width k) → RowFine base s → EvalFine base (loaded array k at s)
  loaded_fine base array k at s e h =
      eval_on base s.ops (loaded array k at s) h.grows
      (under_guard_fine s.ops s.guards k (flagged o.Load false (width k) s.operands (Some array) at) h.typed h.guards (λ ops1 bit g z. record { args = early_on s.ops ops1 g s.operands h.operands; guard = z; access = e }) (λ bit. refl))

  -- ---- variables

  pub held_has : (ops : List OpTree) (outs : List Out) (variable : VarId) (n : ℕ) → slice_get widths variable.0 ≡ Some n → OutsAreTyped widths words ops outs → HasBits widths words ops n (held outs variable).value
  held_has ops [] variable n e h = e
  held_has ops (x ∷ xs) variable n e h = either (x.variable.0 == variable.0) refl (held_has ops xs variable n e h.1) where
    either : (c : Bool) → (x.variable.0 == variable.0) ≡ c → HasBits widths words ops n (held xs variable).value → HasBits widths words ops n (if c then x.value else held xs variable).value
    either true q rest = subst (λ m. HasBits widths words ops m x.value.value) (some_number (sym h.0.1 ∙ ap (slice_get widths) (same_number x.variable.0 variable.0 q) ∙ e)) h.0.2
    either false q rest = rest

-- ---- expressions

module _ (scope : Scope) where
  abbrev pub widths : List ℕ
  widths = widths_of scope

  abbrev pub words : List ℕ
  words = words_of scope

  mutual
    pub emitted_fine : (outs : List Out) (x : PureTree) (ops : List OpTree) (gs : List Guard) → PureSuits scope x → OutsAreTyped widths words ops outs → OpsAreTyped widths words [] ops → GuardsTyped widths words ops gs
        → EvalFine widths words ops (emitted outs x ops gs)
    emitted_fine outs (tree.number w k) ops gs z o h g = value_fine widths words ops gs k (record { ops = ops; operand = constant w }) g (nothing_fine widths words ops (width k) (constant w) h z)
    emitted_fine outs (tree.variable name k) ops gs z o h g =
        value_fine widths words ops gs k (record { ops = ops; operand = held outs name }) g (nothing_fine widths words ops (width k) (held outs name) h (held_has widths words ops outs name (width k) (mapped width scope.variables name.0 k z) o))
    emitted_fine outs (tree.element array subs k at) ops gs z o h g =
        loaded_fine widths words ops array k at (emitted_all outs subs ops gs) (mapped (λ a. width a.kind) scope.arrays array.0 z.0.0 z.0.1 ∙ ap (λ c. Some (width c)) z.0.2) (emitted_all_fine outs subs ops gs z.1 o h g)
    emitted_fine outs (tree.unary f arg k at) ops gs z o h g = unary_fine widths words ops (emitted outs arg ops gs) (emitted_fine outs arg ops gs z o h g) f k at
    emitted_fine outs (tree.binary f left right k at) ops gs z o h g =
        let one = emitted_fine outs left ops gs z.0 o h g in
        binary_fine widths words ops (emitted outs left ops gs) one f (kind right) k at (λ ops1 gs1. emitted outs right ops1 gs1) (λ ops1 gs1 e. emitted_fine outs right ops1 gs1 z.1 (outs_on widths words ops ops1 e outs o))
    emitted_fine outs (tree.choice test left right k) ops gs z o h g =
        choice_fine widths words ops (emitted outs test ops gs) (emitted_fine outs test ops gs z.0 o h g) k (λ ops1 gs1. emitted outs left ops1 gs1) (λ ops1 gs1. emitted outs right ops1 gs1)
        (λ ops1 gs1 e. emitted_fine outs left ops1 gs1 z.1 (outs_on widths words ops ops1 e outs o)) (λ ops1 gs1 e. emitted_fine outs right ops1 gs1 z.2 (outs_on widths words ops ops1 e outs o))
    emitted_fine outs (tree.cast to arg) ops gs z o h g = cast_fine widths words ops (emitted outs arg ops gs) (emitted_fine outs arg ops gs z o h g) to

    pub emitted_all_fine : (outs : List Out) (xs : PureTrees) (ops : List OpTree) (gs : List Guard) → EachSuits scope xs → OutsAreTyped widths words ops outs → OpsAreTyped widths words [] ops → GuardsTyped widths words ops gs
        → RowFine widths words ops (emitted_all outs xs ops gs)
    emitted_all_fine outs tree.none ops gs z o h g = record { typed = h; grows = stays ops; guards = g; operands = tt }
    emitted_all_fine outs (tree.more first rest) ops gs z o h g =
        subscript_fine widths words ops (emitted outs first ops gs) (λ ops1 gs1. emitted_all outs rest ops1 gs1) (emitted_fine outs first ops gs z.0 o h g)
        (λ ops1 gs1 e. emitted_all_fine outs rest ops1 gs1 z.1 (outs_on widths words ops ops1 e outs o))
