-- The operations of expressions: operands come before their uses.
use Rattle.std.specs.Prelude.{◌==◌}
use Rattle.std.proofs.lemmas.Bool.{false≢true}
use Rattle.std.proofs.Common.{◌≡◌, ◌≤◌, ℕ, Bool, true, false, refl, arith, List, [], ◌∷◌, length, Option, Some, None, if◌then◌else◌}
use Rattle.hls_base.specs.declared.place.Place.{Place}
use Rattle.hls_base.specs.declared.number.ArrayId.{ArrayId}
use Rattle.hls_base.specs.declared.number.VarId.{VarId}
use Rattle.c_token.specs.declared.ctype.CType.{CType}
use Rattle.c_tree.specs.declared.operator.Unary.{Unary}
use Rattle.c_tree.specs.declared.operator.Unary.TheVariants as u
use Rattle.c_tree.specs.declared.operator.Binary.{Binary}
use Rattle.c_tree.specs.declared.operator.Binary.TheVariants as b
use Rattle.c_value.specs.Values.{width, is_signed}
use Rattle.pieces.specs.Trees as tree
use Rattle.pieces.specs.Trees.{PureTree, PureTrees}
use Rattle.pieces.specs.Kind.{kind}
use Rattle.ir_core.specs.declared.body.OpKind.{OpKind}
use Rattle.ir_core.specs.declared.body.OpKind.TheVariants as o
use Rattle.ir_core.specs.declared.body.Operand.{Operand}
use Rattle.ir_core.specs.declared.body.Out.{Out}
use Rattle.ir_core.specs.Bodies.{OpTree}
use Rattle.passes.specs.Lowering.Operations.{Emitted, added, constant, plain, defined, flagged, kind_of, valued, tested, balanced, assigned}
use Rattle.passes.specs.Lowering.Outs.{held}
use Rattle.passes.specs.Lowering.Guards.{Guard, guarded, only_where, outside}
use Rattle.passes.specs.Lowering.Expressions.{Evaluated, Next, Subscripts, with_value, with_truth, under_guard, is_total, computed, operated, junction, joined, binary, unary, negated, choice, cast_to, subscript, loaded, emitted, emitted_all, left_type, right_type}
use Rattle.passes.specs.NumberRuns.Ordered as ordered
use Rattle.passes.specs.NumberRuns.Ordered.{IsEarly, AreEarly, IsEarlyIfThere, OpIsOrdered, OpsAreOrdered, OutsAreEarly}
use Rattle.pass_runs.proofs.LowerRuns.LoweredTrees.Adding.{early_more, all_early_more, Fine, added_fine, nothing_fine, GivenEarly, valued_fine, tested_fine, assigned_fine, balanced_fine, GuardsEarly, guards_more, outside_early, guarded_fine}

-- Operations were added to n of them.
pub record EvalFine (n : ℕ) (x : Evaluated) : Type 0 where
  pub ordered : OpsAreOrdered 0 x.ops
  pub more : n ≤ length x.ops
  pub guards : GuardsEarly (length x.ops) x.guards
  pub given : GivenEarly (length x.ops) x.given

eval_on : (n m : ℕ) (x : Evaluated) → n ≤ m → EvalFine m x → EvalFine n x
eval_on n m x le h = let more = h.more in record { ordered = h.ordered; more = omega (arith, le, more); guards = h.guards; given = h.given }

value_fine : (n : ℕ) (gs : List Guard) (k : CType) (x : Emitted) → GuardsEarly n gs → Fine n x → EvalFine n (with_value gs k x)
value_fine n gs k x g h = record { ordered = h.ordered; more = h.more; guards = guards_more n (length x.ops) h.more gs g; given = h.early }

truth_fine : (n : ℕ) (gs : List Guard) (x : Emitted) → GuardsEarly n gs → Fine n x → EvalFine n (with_truth gs x)
truth_fine n gs x g h = record { ordered = h.ordered; more = h.more; guards = guards_more n (length x.ops) h.more gs g; given = h.early }

-- What comes next is so behind n operations and more.
abbrev pub NextFine : ℕ → Next → Type 0
NextFine n next = (ops : List OpTree) (gs : List Guard) → n ≤ length ops → OpsAreOrdered 0 ops → GuardsEarly (length ops) gs → EvalFine (length ops) (next ops gs)

-- an operation with a flag
flagged_ordered : (n : ℕ) (kind : OpKind) (signed : Bool) (bits : ℕ) (args : List Operand) (array : Option ArrayId) (at : Place) (guard : Option Operand) → AreEarly n args → IsEarlyIfThere n guard → ordered.HasItsOperands kind args
    → OpIsOrdered n (flagged kind signed bits args array at guard)
flagged_ordered n kind signed bits args array at guard h g k = record { args = h; guard = g; flag = refl; operands = k }

under_guard_fine : (ops : List OpTree) (gs : List Guard) (k : CType) (op : Option Operand → OpTree) → OpsAreOrdered 0 ops → GuardsEarly (length ops) gs
    → ((n : ℕ) (bit : Option Operand) → length ops ≤ n → IsEarlyIfThere n bit → OpIsOrdered n (op bit)) → EvalFine (length ops) (under_guard k op (guarded ops gs))
under_guard_fine ops gs k op h g is_ =
    let r = guarded ops gs in
    let f = guarded_fine ops gs h g in
    eval_on (length ops) (length r.ops) (under_guard k op r) f.more (value_fine (length r.ops) r.guards k (added r.ops (op r.bit)) f.guards (added_fine r.ops (op r.bit) f.ordered (is_ (length r.ops) r.bit f.more f.bit)))

-- a kind that computes on two operands or one, and is total where it has no flag
abbrev pub IsPlain : OpKind → Type 0
IsPlain kind = (signed : Bool) → is_total kind signed ≡ true → ordered.is_total kind false ≡ true

computed_fine : (ops : List OpTree) (gs : List Guard) (kind : OpKind) (k : CType) (at : Place) (args : List Operand) → IsPlain kind → ordered.HasItsOperands kind args → OpsAreOrdered 0 ops → GuardsEarly (length ops) gs → AreEarly (length ops) args
    → EvalFine (length ops) (computed kind k at ops gs args)
computed_fine ops gs kind k at args plain_ operands h g early = either (is_total kind (is_signed k)) refl where
  either : (c : Bool) → is_total kind (is_signed k) ≡ c → EvalFine (length ops) (if c then with_value gs k (added ops (plain kind (width k) args)) else under_guard k (flagged kind (is_signed k) (width k) args None at) (guarded ops gs))
  either true e = value_fine (length ops) gs k (added ops (plain kind (width k) args)) g (added_fine ops (plain kind (width k) args) h (record { args = early; guard = tt; flag = plain_ (is_signed k) e; operands = operands }))
  either false e = under_guard_fine ops gs k (flagged kind (is_signed k) (width k) args None at) h g
      (λ n bit le bit_early. flagged_ordered n kind (is_signed k) (width k) args None at bit (all_early_more (length ops) n le args early) bit_early operands)

operated_fine : (f : Binary) (ops : List OpTree) (gs : List Guard) (k : CType) (at : Place) (x y : Operand) → OpsAreOrdered 0 ops → GuardsEarly (length ops) gs → IsEarly (length ops) x.value → IsEarly (length ops) y.value
    → EvalFine (length ops) (operated f k at ops gs x y)
operated_fine b.Lt ops gs k at x y h g hx hy =
    truth_fine (length ops) gs (added ops (defined o.Lt (is_signed k) (width k) (x ∷ y ∷ []))) g (added_fine ops (defined o.Lt (is_signed k) (width k) (x ∷ y ∷ [])) h (record { args = (hx, (hy, tt)); guard = tt; flag = refl; operands = tt }))
operated_fine b.Gt ops gs k at x y h g hx hy =
    truth_fine (length ops) gs (added ops (defined o.Lt (is_signed k) (width k) (y ∷ x ∷ []))) g (added_fine ops (defined o.Lt (is_signed k) (width k) (y ∷ x ∷ [])) h (record { args = (hy, (hx, tt)); guard = tt; flag = refl; operands = tt }))
operated_fine b.Le ops gs k at x y h g hx hy =
    truth_fine (length ops) gs (added ops (defined o.Le (is_signed k) (width k) (x ∷ y ∷ []))) g (added_fine ops (defined o.Le (is_signed k) (width k) (x ∷ y ∷ [])) h (record { args = (hx, (hy, tt)); guard = tt; flag = refl; operands = tt }))
operated_fine b.Ge ops gs k at x y h g hx hy =
    truth_fine (length ops) gs (added ops (defined o.Le (is_signed k) (width k) (y ∷ x ∷ []))) g (added_fine ops (defined o.Le (is_signed k) (width k) (y ∷ x ∷ [])) h (record { args = (hy, (hx, tt)); guard = tt; flag = refl; operands = tt }))
operated_fine b.Eq ops gs k at x y h g hx hy =
    truth_fine (length ops) gs (added ops (defined o.Eq false (width k) (x ∷ y ∷ []))) g (added_fine ops (defined o.Eq false (width k) (x ∷ y ∷ [])) h (record { args = (hx, (hy, tt)); guard = tt; flag = refl; operands = tt }))
operated_fine b.Ne ops gs k at x y h g hx hy =
    truth_fine (length ops) gs (added ops (defined o.Ne false (width k) (x ∷ y ∷ []))) g (added_fine ops (defined o.Ne false (width k) (x ∷ y ∷ [])) h (record { args = (hx, (hy, tt)); guard = tt; flag = refl; operands = tt }))
operated_fine b.Mul ops gs k at x y h g hx hy = computed_fine ops gs o.Mul k at (x ∷ y ∷ []) (λ s e. refl) tt h g (hx, (hy, tt))
operated_fine b.Div ops gs k at x y h g hx hy = computed_fine ops gs o.Div k at (x ∷ y ∷ []) (λ s e. absurd (false≢true e)) tt h g (hx, (hy, tt))
operated_fine b.Rem ops gs k at x y h g hx hy = computed_fine ops gs o.Rem k at (x ∷ y ∷ []) (λ s e. absurd (false≢true e)) tt h g (hx, (hy, tt))
operated_fine b.Add ops gs k at x y h g hx hy = computed_fine ops gs o.Add k at (x ∷ y ∷ []) (λ s e. refl) tt h g (hx, (hy, tt))
operated_fine b.Sub ops gs k at x y h g hx hy = computed_fine ops gs o.Sub k at (x ∷ y ∷ []) (λ s e. refl) tt h g (hx, (hy, tt))
operated_fine b.Shl ops gs k at x y h g hx hy = computed_fine ops gs o.Shl k at (x ∷ y ∷ []) (λ s e. absurd (false≢true e)) tt h g (hx, (hy, tt))
operated_fine b.Shr ops gs k at x y h g hx hy = computed_fine ops gs o.Shr k at (x ∷ y ∷ []) (λ s e. absurd (false≢true e)) tt h g (hx, (hy, tt))
operated_fine b.And ops gs k at x y h g hx hy = computed_fine ops gs o.And k at (x ∷ y ∷ []) (λ s e. refl) tt h g (hx, (hy, tt))
operated_fine b.Xor ops gs k at x y h g hx hy = computed_fine ops gs o.Xor k at (x ∷ y ∷ []) (λ s e. refl) tt h g (hx, (hy, tt))
operated_fine b.Or ops gs k at x y h g hx hy = computed_fine ops gs o.Or k at (x ∷ y ∷ []) (λ s e. refl) tt h g (hx, (hy, tt))
operated_fine b.LogAnd ops gs k at x y h g hx hy = computed_fine ops gs o.And k at (x ∷ y ∷ []) (λ s e. refl) tt h g (hx, (hy, tt))
operated_fine b.LogOr ops gs k at x y h g hx hy = computed_fine ops gs o.Or k at (x ∷ y ∷ []) (λ s e. refl) tt h g (hx, (hy, tt))

module _ (n : ℕ) (first : Evaluated) (one : EvalFine n first) where
  junction_fine : (both : Bool) (second : Next) → NextFine n second → EvalFine n (junction both second first)
  unfolding junction
  junction_fine both second other =
      let x = tested first.ops first.given in
      let fx = tested_fine first.ops first.given one.ordered one.given in
      let right = second x.ops (only_where x.operand both first.guards) in
      let fr = other x.ops (only_where x.operand both first.guards) (let m1 = one.more in let m2 = fx.more in omega (arith, m1, m2)) fx.ordered (fx.early, tt, guards_more (length first.ops) (length x.ops) fx.more first.guards one.guards) in
      let y = tested right.ops right.given in
      let fy = tested_fine right.ops right.given fr.ordered fr.given in
      let m1 = one.more in
      let m2 = fx.more in
      let m3 = fr.more in
      let m4 = fy.more in
      let le : length x.ops ≤ length y.ops = omega (arith, m3, m4) in
      let op = plain (if both then o.And else o.Or) 1 (x.operand ∷ y.operand ∷ []) in
      eval_on n (length y.ops) (with_truth (outside right.guards) (added y.ops op)) (omega (arith, m1, m2, m3, m4))
      (truth_fine (length y.ops) (outside right.guards) (added y.ops op) (guards_more (length right.ops) (length y.ops) fy.more (outside right.guards) (outside_early (length right.ops) right.guards fr.guards))
      (added_fine y.ops op fy.ordered (either both (early_more (length x.ops) (length y.ops) le x.operand.value fx.early) fy.early)))
    where
      either : (both : Bool) {m : ℕ} {x y : Operand} → IsEarly m x.value → IsEarly m y.value → OpIsOrdered m (plain (if both then o.And else o.Or) 1 (x ∷ y ∷ []))
      either true hx hy = record { args = (hx, (hy, tt)); guard = tt; flag = refl; operands = tt }
      either false hx hy = record { args = (hx, (hy, tt)); guard = tt; flag = refl; operands = tt }

  joined_fine : (f : Binary) (to to_right : CType) (at : Place) (second : Next) → NextFine n second → EvalFine n (joined f to to_right at second first)
  unfolding joined
  joined_fine f to to_right at second other =
      let x = balanced first.ops first.given to in
      let fx = balanced_fine first.ops first.given to one.ordered one.given in
      let right = second x.ops first.guards in
      let fr = other x.ops first.guards (let m1 = one.more in let m2 = fx.more in omega (arith, m1, m2)) fx.ordered (guards_more (length first.ops) (length x.ops) fx.more first.guards one.guards) in
      let y = balanced right.ops right.given to_right in
      let fy = balanced_fine right.ops right.given to_right fr.ordered fr.given in
      let m1 = one.more in
      let m2 = fx.more in
      let m3 = fr.more in
      let m4 = fy.more in
      let le : length x.ops ≤ length y.ops = omega (arith, m3, m4) in
      eval_on n (length y.ops) (operated f to at y.ops right.guards x.operand y.operand) (omega (arith, m1, m2, m3, m4))
      (operated_fine f y.ops right.guards to at x.operand y.operand fy.ordered (guards_more (length right.ops) (length y.ops) fy.more right.guards fr.guards) (early_more (length x.ops) (length y.ops) le x.operand.value fx.early) fy.early)

  choice_fine : (k : CType) (left right : Next) → NextFine n left → NextFine n right → EvalFine n (choice k left right first)
  unfolding choice
  choice_fine k left right fl fr =
      let t = tested first.ops first.given in
      let ft = tested_fine first.ops first.given one.ordered one.given in
      let a = left t.ops (only_where t.operand true first.guards) in
      let fa = fl t.ops (only_where t.operand true first.guards) (let m1 = one.more in let m2 = ft.more in omega (arith, m1, m2)) ft.ordered (ft.early, tt, guards_more (length first.ops) (length t.ops) ft.more first.guards one.guards) in
      let x = balanced a.ops a.given k in
      let fx = balanced_fine a.ops a.given k fa.ordered fa.given in
      let m1 = one.more in
      let m2 = ft.more in
      let m3 = fa.more in
      let m4 = fx.more in
      let le1 : length t.ops ≤ length x.ops = omega (arith, m3, m4) in
      let c = right x.ops (only_where t.operand false (outside a.guards)) in
      let fc = fr x.ops (only_where t.operand false (outside a.guards)) (omega (arith, m1, m2, le1)) fx.ordered
      (early_more (length t.ops) (length x.ops) le1 t.operand.value ft.early, tt, guards_more (length a.ops) (length x.ops) fx.more (outside a.guards) (outside_early (length a.ops) a.guards fa.guards)) in
      let y = balanced c.ops c.given k in
      let fy = balanced_fine c.ops c.given k fc.ordered fc.given in
      let m5 = fc.more in
      let m6 = fy.more in
      let le2 : length x.ops ≤ length y.ops = omega (arith, m5, m6) in
      let le3 : length t.ops ≤ length y.ops = omega (arith, le1, le2) in
      let op = plain o.Select (width k) (t.operand ∷ x.operand ∷ y.operand ∷ []) in
      eval_on n (length y.ops) (with_value (outside c.guards) k (added y.ops op)) (omega (arith, m1, m2, le1, le2))
      (value_fine (length y.ops) (outside c.guards) k (added y.ops op) (guards_more (length c.ops) (length y.ops) fy.more (outside c.guards) (outside_early (length c.ops) c.guards fc.guards))
      (added_fine y.ops op fy.ordered
      (record { args = (early_more (length t.ops) (length y.ops) le3 t.operand.value ft.early, (early_more (length x.ops) (length y.ops) le2 x.operand.value fx.early, (fy.early, tt))); guard = tt; flag = refl; operands = tt })))

  unary_fine : (f : Unary) (k : CType) (at : Place) → EvalFine n (unary f k at first)
  unary_fine f k at = eval_on n (length first.ops) (unary f k at first) one.more (here f) where
    bal : Fine (length first.ops) (balanced first.ops first.given k)
    bal = balanced_fine first.ops first.given k one.ordered one.given

    gs : GuardsEarly (length (balanced first.ops first.given k).ops) first.guards
    gs = guards_more (length first.ops) (length (balanced first.ops first.given k).ops) bal.more first.guards one.guards

    here : (f : Unary) → EvalFine (length first.ops) (unary f k at first)
    here u.LogNot =
        let t = tested first.ops first.given in
        let ft = tested_fine first.ops first.given one.ordered one.given in
        eval_on (length first.ops) (length t.ops) (negated first.guards t) ft.more
        (truth_fine (length t.ops) first.guards (added t.ops (plain o.Not 1 (t.operand ∷ []))) (guards_more (length first.ops) (length t.ops) ft.more first.guards one.guards)
        (added_fine t.ops (plain o.Not 1 (t.operand ∷ [])) ft.ordered (record { args = (ft.early, tt); guard = tt; flag = refl; operands = tt })))
    here u.Plus = value_fine (length first.ops) first.guards k (balanced first.ops first.given k) one.guards bal
    here u.Not =
        let x = balanced first.ops first.given k in
        eval_on (length first.ops) (length x.ops) (with_value first.guards k (added x.ops (plain o.Not (width k) (x.operand ∷ [])))) bal.more
        (value_fine (length x.ops) first.guards k (added x.ops (plain o.Not (width k) (x.operand ∷ []))) gs
        (added_fine x.ops (plain o.Not (width k) (x.operand ∷ [])) bal.ordered (record { args = (bal.early, tt); guard = tt; flag = refl; operands = tt })))
    here u.Minus =
        let x = balanced first.ops first.given k in
        eval_on (length first.ops) (length x.ops) (computed o.Neg k at x.ops first.guards (x.operand ∷ [])) bal.more
        (computed_fine x.ops first.guards o.Neg k at (x.operand ∷ []) (λ s e. refl) tt bal.ordered gs (bal.early, tt))

  cast_fine : (to : CType) → EvalFine n (cast_to to first)
  cast_fine to =
      let a = assigned_fine first.ops first.given to one.ordered one.given in
      eval_on n (length first.ops) (cast_to to first) one.more (value_fine (length first.ops) first.guards to (assigned first.ops first.given to) one.guards a)

  binary_fine : (f : Binary) (right k : CType) (at : Place) (second : Next) → NextFine n second → EvalFine n (binary f right k at second first)
  binary_fine b.Mul right k at second other = joined_fine b.Mul (left_type b.Mul (kind_of first.given) right k) (right_type b.Mul (kind_of first.given) right k) at second other
  binary_fine b.Div right k at second other = joined_fine b.Div (left_type b.Div (kind_of first.given) right k) (right_type b.Div (kind_of first.given) right k) at second other
  binary_fine b.Rem right k at second other = joined_fine b.Rem (left_type b.Rem (kind_of first.given) right k) (right_type b.Rem (kind_of first.given) right k) at second other
  binary_fine b.Add right k at second other = joined_fine b.Add (left_type b.Add (kind_of first.given) right k) (right_type b.Add (kind_of first.given) right k) at second other
  binary_fine b.Sub right k at second other = joined_fine b.Sub (left_type b.Sub (kind_of first.given) right k) (right_type b.Sub (kind_of first.given) right k) at second other
  binary_fine b.Shl right k at second other = joined_fine b.Shl (left_type b.Shl (kind_of first.given) right k) (right_type b.Shl (kind_of first.given) right k) at second other
  binary_fine b.Shr right k at second other = joined_fine b.Shr (left_type b.Shr (kind_of first.given) right k) (right_type b.Shr (kind_of first.given) right k) at second other
  binary_fine b.Lt right k at second other = joined_fine b.Lt (left_type b.Lt (kind_of first.given) right k) (right_type b.Lt (kind_of first.given) right k) at second other
  binary_fine b.Gt right k at second other = joined_fine b.Gt (left_type b.Gt (kind_of first.given) right k) (right_type b.Gt (kind_of first.given) right k) at second other
  binary_fine b.Le right k at second other = joined_fine b.Le (left_type b.Le (kind_of first.given) right k) (right_type b.Le (kind_of first.given) right k) at second other
  binary_fine b.Ge right k at second other = joined_fine b.Ge (left_type b.Ge (kind_of first.given) right k) (right_type b.Ge (kind_of first.given) right k) at second other
  binary_fine b.Eq right k at second other = joined_fine b.Eq (left_type b.Eq (kind_of first.given) right k) (right_type b.Eq (kind_of first.given) right k) at second other
  binary_fine b.Ne right k at second other = joined_fine b.Ne (left_type b.Ne (kind_of first.given) right k) (right_type b.Ne (kind_of first.given) right k) at second other
  binary_fine b.And right k at second other = joined_fine b.And (left_type b.And (kind_of first.given) right k) (right_type b.And (kind_of first.given) right k) at second other
  binary_fine b.Xor right k at second other = joined_fine b.Xor (left_type b.Xor (kind_of first.given) right k) (right_type b.Xor (kind_of first.given) right k) at second other
  binary_fine b.Or right k at second other = joined_fine b.Or (left_type b.Or (kind_of first.given) right k) (right_type b.Or (kind_of first.given) right k) at second other
  binary_fine b.LogAnd right k at second other = junction_fine true second other
  binary_fine b.LogOr right k at second other = junction_fine false second other

-- ---- subscripts

pub record RowFine (n : ℕ) (x : Subscripts) : Type 0 where
  pub ordered : OpsAreOrdered 0 x.ops
  pub more : n ≤ length x.ops
  pub guards : GuardsEarly (length x.ops) x.guards
  pub operands : AreEarly (length x.ops) x.operands

subscript_fine : (n : ℕ) (first : Evaluated) (rest : List OpTree → List Guard → Subscripts) → EvalFine n first → ((ops : List OpTree) (gs : List Guard) → n ≤ length ops → OpsAreOrdered 0 ops → GuardsEarly (length ops) gs → RowFine (length ops) (rest ops gs))
    → RowFine n (subscript rest first)
unfolding subscript
subscript_fine n first rest one others =
    let x = valued first.ops first.given in
    let fx = valued_fine first.ops first.given one.ordered one.given in
    let r = rest x.ops first.guards in
    let fr = others x.ops first.guards (let m1 = one.more in let m2 = fx.more in omega (arith, m1, m2)) fx.ordered (guards_more (length first.ops) (length x.ops) fx.more first.guards one.guards) in
    let m1 = one.more in
    let m2 = fx.more in
    let m3 = fr.more in record {
      ordered = fr.ordered;
      more = omega (arith, m1, m2, m3);
      guards = fr.guards;
      operands = (early_more (length x.ops) (length r.ops) fr.more x.operand.value fx.early, fr.operands);
    }

loaded_fine : (n : ℕ) (array : ArrayId) (k : CType) (at : Place) (s : Subscripts) → RowFine n s → EvalFine n (loaded array k at s)
loaded_fine n array k at s h =
    eval_on n (length s.ops) (loaded array k at s) h.more
    (under_guard_fine s.ops s.guards k (flagged o.Load false (width k) s.operands (Some array) at) h.ordered h.guards
    (λ m bit le bit_early. flagged_ordered m o.Load false (width k) s.operands (Some array) at bit (all_early_more (length s.ops) m le s.operands h.operands) bit_early tt))

-- ---- expressions

pub held_early : (n : ℕ) (outs : List Out) (variable : VarId) → OutsAreEarly n outs → IsEarly n (held outs variable).value
held_early n [] variable h = tt
held_early n (x ∷ xs) variable h = either (x.variable.0 == variable.0) (held_early n xs variable h.1) where
  either : (c : Bool) → IsEarly n (held xs variable).value → IsEarly n (if c then x.value else held xs variable).value
  either true rest = h.0
  either false rest = rest

pub outs_more : (m k : ℕ) → m ≤ k → (outs : List Out) → OutsAreEarly m outs → OutsAreEarly k outs
outs_more m k le [] h = tt
outs_more m k le (x ∷ xs) h = (early_more m k le x.value.value h.0, outs_more m k le xs h.1)

mutual
  pub emitted_fine : (outs : List Out) (x : PureTree) (ops : List OpTree) (gs : List Guard) → OutsAreEarly (length ops) outs → OpsAreOrdered 0 ops → GuardsEarly (length ops) gs → EvalFine (length ops) (emitted outs x ops gs)
  emitted_fine outs (tree.number w k) ops gs o h g = value_fine (length ops) gs k (record { ops = ops; operand = constant w }) g (nothing_fine ops (constant w) h tt)
  emitted_fine outs (tree.variable name k) ops gs o h g = value_fine (length ops) gs k (record { ops = ops; operand = held outs name }) g (nothing_fine ops (held outs name) h (held_early (length ops) outs name o))
  emitted_fine outs (tree.element array subs k at) ops gs o h g = loaded_fine (length ops) array k at (emitted_all outs subs ops gs) (emitted_all_fine outs subs ops gs o h g)
  emitted_fine outs (tree.unary f arg k at) ops gs o h g = unary_fine (length ops) (emitted outs arg ops gs) (emitted_fine outs arg ops gs o h g) f k at
  emitted_fine outs (tree.binary f left right k at) ops gs o h g =
      let one = emitted_fine outs left ops gs o h g in
      binary_fine (length ops) (emitted outs left ops gs) one f (kind right) k at (λ ops1 gs1. emitted outs right ops1 gs1) (λ ops1 gs1 le. emitted_fine outs right ops1 gs1 (outs_more (length ops) (length ops1) le outs o))
  emitted_fine outs (tree.choice test left right k) ops gs o h g =
      choice_fine (length ops) (emitted outs test ops gs) (emitted_fine outs test ops gs o h g) k (λ ops1 gs1. emitted outs left ops1 gs1) (λ ops1 gs1. emitted outs right ops1 gs1)
      (λ ops1 gs1 le. emitted_fine outs left ops1 gs1 (outs_more (length ops) (length ops1) le outs o)) (λ ops1 gs1 le. emitted_fine outs right ops1 gs1 (outs_more (length ops) (length ops1) le outs o))
  emitted_fine outs (tree.cast to arg) ops gs o h g = cast_fine (length ops) (emitted outs arg ops gs) (emitted_fine outs arg ops gs o h g) to

  pub emitted_all_fine : (outs : List Out) (xs : PureTrees) (ops : List OpTree) (gs : List Guard) → OutsAreEarly (length ops) outs → OpsAreOrdered 0 ops → GuardsEarly (length ops) gs → RowFine (length ops) (emitted_all outs xs ops gs)
  emitted_all_fine outs tree.none ops gs o h g = record { ordered = h; more = omega arith; guards = g; operands = tt }
  emitted_all_fine outs (tree.more first rest) ops gs o h g =
      subscript_fine (length ops) (emitted outs first ops gs) (λ ops1 gs1. emitted_all outs rest ops1 gs1) (emitted_fine outs first ops gs o h g)
      (λ ops1 gs1 le. emitted_all_fine outs rest ops1 gs1 (outs_more (length ops) (length ops1) le outs o))
