-- The operations of an expression give its value.
use Rattle.std.proofs.Common.{◌≡◌, ◌∙◌, ℕ, Bool, true, false, not, ◌&&◌, ◌||◌, refl, ap, sym, subst, ℤ, List, [], ◌∷◌, if◌then◌else◌}
use Rattle.std.proofs.lemmas.Bool.{false≢true}
use Rattle.hls_base.specs.declared.place.Place.{Place}
use Rattle.c_token.specs.declared.ctype.CType.{CType}
use Rattle.c_tree.specs.declared.operator.Unary.{Unary}
use Rattle.c_tree.specs.declared.operator.Unary.TheVariants as u
use Rattle.c_tree.specs.declared.operator.Binary.{Binary}
use Rattle.c_tree.specs.declared.operator.Binary.TheVariants as b
use Rattle.c_value.specs.Values.{IsOf, width, convert, promoted, number_of, int_type}
use Rattle.c_value.specs.Operators as c
use Rattle.c_value.specs.Operators.{truth, is_true, unary_kind, binary_kind, unary_value, binary_value}
use Rattle.pieces.specs.Trees as tree
use Rattle.pieces.specs.Trees.{PureTree, PureTrees}
use Rattle.pieces.specs.Kind.{kind}
use Rattle.ir_core.specs.declared.body.OpKind.TheVariants as o
use Rattle.ir_core.specs.declared.body.Operand.{Operand}
use Rattle.ir_core.specs.declared.body.Out.{Out}
use Rattle.ir_core.specs.Value as op
use Rattle.hls_base.specs.Valued.{Valued, is, and_then}
use Rattle.c_meaning.specs.PieceRuns.Values as m
use Rattle.c_meaning.specs.PieceRuns.Values.{Store, computed, value, values}
use Rattle.c_meaning.specs.PieceRuns.Pieces.{Frame}
use Rattle.ir_core.specs.Bodies.{OpTree, Shapes, Words, Ranged, operand}
use Rattle.passes.specs.Lowering.Operations.{Emitted, added, constant, plain, kind_of, tested, balanced, assigned}
use Rattle.passes.specs.Lowering.Outs.{held}
use Rattle.passes.specs.Lowering.Guards.{Guard}
use Rattle.passes.specs.Lowering.Expressions.{Evaluated, Next, with_truth, emitted, emitted_all, left_type, right_type, unary, unary_of, binary, joined, cast_to}
use Rattle.pass_runs.specs.LowerRuns.OperatorWords.Words.{IsType, IsWord, ConversionsAgree, OperatorsAgree, NaturalsAreWords}
use Rattle.pass_runs.specs.LowerRuns.Suits.{Suits, EachSuits, shapes_of}
use Rattle.pass_runs.proofs.LowerRuns.Growing.{grows_nothing, grows_on}
use Rattle.pass_runs.proofs.LowerRuns.Adding.{adds, adds_nothing}
use Rattle.pass_runs.proofs.LowerRuns.Converting.{bit, given_is, tested_makes, assigned_makes, balanced_makes}
use Rattle.pass_runs.proofs.LowerRuns.Guarding.{all_hold, not_bit, Under, under_grows}
use Rattle.pass_runs.proofs.LowerRuns.Operating.{operated_type, Evals, adds_value, adds_truth, computed_evals}
use Rattle.pass_runs.proofs.LowerRuns.Joining.{IsDefined, true_in, truth_of, evals_on, Follows, Both, joined_evals, and_evals, or_evals, choice_evals}
use Rattle.pass_runs.proofs.LowerRuns.Showing.{shows_grows, AreWords}
use Rattle.pass_runs.proofs.LowerRuns.Emitting.{same_value, chained, computed_as, same_number, binary_agrees, RowEvals, subscript_evals, loaded_evals}
use Rattle.pass_runs.specs.LowerRuns.Standing.{Stands, Fits}
use Rattle.pass_runs.specs.LowerRuns.Showing.{Shows}

-- ---- `&&`, `||` and choices

tested_value : (q : Valued ℤ) (v : ℤ) → and_then q (λ y. is (truth (is_true y))) ≡ is v → v ≡ truth (true_in q)
tested_value q v e =
    let h = chained q (λ y. is (truth (is_true y))) v e in sym (same_value (truth (is_true h.first)) v h.next_is) ∙ ap truth (truth_of q h.first h.first_is)

and_value : (b : Bool) (q : Valued ℤ) (v : ℤ) → (if b then and_then q (λ y. is (truth (is_true y))) else is (truth false)) ≡ is v → v ≡ truth (b && true_in q)
and_value true q v e = tested_value q v e
and_value false q v e = sym (same_value (truth false) v e)

or_value : (b : Bool) (q : Valued ℤ) (v : ℤ) → (if b then is (truth true) else and_then q (λ y. is (truth (is_true y)))) ≡ is v → v ≡ truth (b || true_in q)
or_value true q v e = sym (same_value (truth true) v e)
or_value false q v e = tested_value q v e

needed_true : (b : Bool) (x y : Valued ℤ) (v : ℤ) → b ≡ true → (if b then x else y) ≡ is v → x ≡ is v
needed_true true x y v h e = e
needed_true false x y v h e = absurd (false≢true h)

needed_false : (b : Bool) (x y : Valued ℤ) (v : ℤ) → b ≡ false → (if b then x else y) ≡ is v → y ≡ is v
needed_false true x y v h e = absurd (false≢true (sym h))
needed_false false x y v h e = e

module _ (shapes : Shapes) (t : Words) (agree : ConversionsAgree) (operators : OperatorsAgree) (ops : List OpTree) (r : Ranged) (hs : List Bool) where
  module _ (first : Evaluated) (kl : CType) (q : Valued ℤ) (tl : IsType kl) (one : Evals shapes t agree ops r hs first kl (λ v. q ≡ is v)) where
    -- ---- operators on one operand

    abbrev UnaryIs : Unary → Place → ℤ → Type 0
    UnaryIs f at v = and_then q (λ x. computed (unary_value f kl x) at) ≡ is v

    record Applied (f : Unary) (v : ℤ) : Type 0 where
      arg : ℤ
      arg_is : q ≡ is arg
      value_is : unary_value f kl arg ≡ c.defined v

    applied : (f : Unary) (at : Place) (v : ℤ) → UnaryIs f at v → Applied f v
    applied f at v e =
        let h = chained q (λ x. computed (unary_value f kl x) at) v e in record { arg = h.first; arg_is = h.first_is; value_is = computed_as (unary_value f kl h.first) at v h.next_is }

    not_evals : (at : Place) → (all_hold hs ≡ true → (v : ℤ) × UnaryIs u.LogNot at v) → Evals shapes t agree ops r hs (unary u.LogNot int_type at first) int_type (UnaryIs u.LogNot at)
    not_evals at there =
        let x = tested first.ops first.given in
        let xm = tested_makes shapes t agree first.ops one.next first.given one.stands one.fits in
        let xa = xm.1 in
        let to_x = grows_on shapes ops first.ops x.ops r one.next xa.next one.grows xa.grows in
        let new = plain o.Not 1 (x.operand ∷ []) in
        let wx = operand xa.next.words xa.next.results x.operand in
        let w = op.value o.Not false 1 0 (wx ∷ []) in
        evals_on shapes t agree ops x.ops r xa.next hs (with_truth first.guards (added x.ops new)) int_type (UnaryIs u.LogNot at) to_x
        (adds_truth shapes t agree x.ops xa.next first.guards hs xa.stands (under_grows shapes t first.ops x.ops one.next xa.next xa.grows first.guards hs one.under) (UnaryIs u.LogNot at) (added x.ops new) w
        (adds shapes t x.ops xa.next new w xa.stands (λ later. refl))
        (λ all v is_.
        let h = applied u.LogNot at v is_ in
        let b_is = is_true h.arg in (
          not b_is,
          not_bit (not b_is) wx (xa.holds ∙ xm.2 h.arg (one.has all h.arg h.arg_is) ∙ ap bit (sym (not_not b_is))),
          sym (same_number (truth (not b_is)) v h.value_is),
        ))) where
          not_not : (b : Bool) → not (not b) ≡ b
          not_not true = refl
          not_not false = refl

    abbrev Known : Unary → Ranged → Operand → ℤ → Type 0
    Known f r1 x v = (a : ℤ) × IsOf kl a × (unary_value f kl a ≡ c.defined v) × IsWord (promoted kl) (convert (promoted kl) a) (operand r1.words r1.results x)

    each : (at : Place) (f : Unary) → (f ≡ u.LogNot → ⊥) → (x : Emitted) (r1 : Ranged) → Stands shapes t x.ops r1 → Under shapes t x.ops r1 first.guards hs → Fits shapes x.ops r1 x.operand (width (promoted kl)) → (all_hold hs ≡ true → (v : ℤ) × UnaryIs f at v)
        → (all_hold hs ≡ true → (v : ℤ) → UnaryIs f at v → Known f r1 x.operand v) → Evals shapes t agree x.ops r1 hs (unary_of f (promoted kl) at first.guards x) (promoted kl) (UnaryIs f at)
    each at u.LogNot n x r1 stands below fits there known = absurd (n refl)
    each at u.Plus n x r1 stands below fits there known =
        adds_value shapes t agree x.ops r1 first.guards hs stands below (UnaryIs u.Plus at) (promoted kl) x (width (promoted kl)) (operand r1.words r1.results x.operand) refl
        (adds_nothing shapes t x.ops r1 x.operand (width (promoted kl)) stands fits)
        (λ all v is_. (let h = known all v is_ in subst (λ n. IsWord (promoted kl) n (operand r1.words r1.results x.operand)) (same_number (convert (promoted kl) h.0) v h.2) h.3))
    each at u.Minus n x r1 stands below fits there known =
        computed_evals shapes t agree x.ops r1 first.guards hs stands below (UnaryIs u.Minus at) o.Neg (promoted kl) at (x.operand ∷ []) tt (fits.early, tt) there
        (λ all v is_. (let h = known all v is_ in operators.negation (promoted kl) (convert (promoted kl) h.0) v (operand r1.words r1.results x.operand) h.3 h.2))
    each at u.Not n x r1 stands below fits there known =
        let wx = operand r1.words r1.results x.operand in
        let w = op.value o.Not false (width (promoted kl)) 0 (wx ∷ []) in
        let new = plain o.Not (width (promoted kl)) (x.operand ∷ []) in
        adds_value shapes t agree x.ops r1 first.guards hs stands below (UnaryIs u.Not at) (promoted kl) (added x.ops new) (width (promoted kl)) w refl (adds shapes t x.ops r1 new w stands (λ later. refl))
        (λ all v is_.
        (let h = known all v is_ in
        let same = agree.promotion kl tl h.0 h.1 in
        subst (λ n. IsWord (promoted kl) n w) (same_number (c.complement (promoted kl) h.0) v h.2) (subst (λ n. IsWord (promoted kl) (c.complement (promoted kl) n) w) same (operators.complement (promoted kl) (convert (promoted kl) h.0) wx h.3))))

    -- on the promoted value
    promoted_evals : (f : Unary) (at : Place) → (f ≡ u.LogNot → ⊥) → (all_hold hs ≡ true → (v : ℤ) × UnaryIs f at v)
        → Evals shapes t agree ops r hs (unary_of f (promoted kl) at first.guards (balanced first.ops first.given (promoted kl))) (promoted kl) (UnaryIs f at)
    promoted_evals f at n there =
        let k = promoted kl in
        let x = balanced first.ops first.given k in
        let xm = balanced_makes shapes t agree first.ops one.next first.given k (subst IsType (sym one.kind) tl) one.stands one.fits in
        let xa = xm.1 in
        let to_x = grows_on shapes ops first.ops x.ops r one.next xa.next one.grows xa.grows in
        let below = under_grows shapes t first.ops x.ops one.next xa.next xa.grows first.guards hs one.under in
        let wx = operand xa.next.words xa.next.results x.operand in
        let x_is : all_hold hs ≡ true → (v : ℤ) (h : Applied f v) → IsWord k (convert k h.arg) wx = λ all v h. subst (λ n. IsWord k (convert k h.arg) n) (sym xa.holds) (xm.2 h.arg (one.has all h.arg h.arg_is)) in
        let of_kl : all_hold hs ≡ true → (v : ℤ) (h : Applied f v) → IsOf kl h.arg = λ all v h. given_is shapes t agree one.next first.given kl h.arg one.kind (one.has all h.arg h.arg_is) in
        evals_on shapes t agree ops x.ops r xa.next hs (unary_of f k at first.guards x) k (UnaryIs f at) to_x (each at f n x xa.next xa.stands below xa.fits there (λ all v is_. (let h = applied f at v is_ in (h.arg, of_kl all v h, h.value_is, x_is all v h))))

    pub unary_evals : (f : Unary) (k : CType) (at : Place) → unary_kind f kl ≡ k → (all_hold hs ≡ true → (v : ℤ) × UnaryIs f at v) → Evals shapes t agree ops r hs (unary f k at first) k (UnaryIs f at)
    unary_evals u.LogNot k at e there = subst (λ k. Evals shapes t agree ops r hs (unary u.LogNot k at first) k (UnaryIs u.LogNot at)) e (not_evals at there)
    unary_evals u.Plus k at e there = subst (λ k. Evals shapes t agree ops r hs (unary u.Plus k at first) k (UnaryIs u.Plus at)) e (promoted_evals u.Plus at (λ n. cc) there)
    unary_evals u.Minus k at e there = subst (λ k. Evals shapes t agree ops r hs (unary u.Minus k at first) k (UnaryIs u.Minus at)) e (promoted_evals u.Minus at (λ n. cc) there)
    unary_evals u.Not k at e there = subst (λ k. Evals shapes t agree ops r hs (unary u.Not k at first) k (UnaryIs u.Not at)) e (promoted_evals u.Not at (λ n. cc) there)

    pub cast_evals : (to : CType) → Evals shapes t agree ops r hs (cast_to to first) to (λ v. and_then q (λ x. is (convert to x)) ≡ is v)
    cast_evals to =
        let x = assigned first.ops first.given to in
        let xm = assigned_makes shapes t agree first.ops one.next first.given to one.stands one.fits in
        let V : ℤ → Type 0 = λ v. and_then q (λ x. is (convert to x)) ≡ is v in
        evals_on shapes t agree ops first.ops r one.next hs (cast_to to first) to V one.grows
        (adds_value shapes t agree first.ops one.next first.guards hs one.stands one.under V to x (width to) xm.0 refl xm.1
        (λ all v is_.
        (let h = chained q (λ x. is (convert to x)) v is_ in subst (λ n. IsWord to n xm.0) (same_value (convert to h.first) v h.next_is) (xm.2 h.first (one.has all h.first h.first_is)))))

    -- ---- operators on two operands

    module _ (second : Next) (kr : CType) (q2 : Valued ℤ) (tr : IsType kr) (other : Follows shapes t agree ops r second kr q2) where
      abbrev BinaryIs : Binary → Place → ℤ → Type 0
      BinaryIs f at v = and_then q (λ x. and_then q2 (λ y. computed (binary_value f kl x kr y) at)) ≡ is v

      both : (f : Binary) (at : Place) (v : ℤ) → BinaryIs f at v → Both shapes t agree q q2 (BinaryIs f at)
      both f at v e =
          let h = chained q (λ x. and_then q2 (λ y. computed (binary_value f kl x kr y) at)) v e in
          let g = chained q2 (λ y. computed (binary_value f kl h.first kr y) at) v h.next_is in
          record { first = h.first; second = g.first; result = v; first_is = h.first_is; second_is = g.first_is; holds = e }

      valued_by : (f : Binary) (at : Place) (x y v : ℤ) → q ≡ is x → q2 ≡ is y → BinaryIs f at v → binary_value f kl x kr y ≡ c.defined v
      valued_by f at x y v ex ey e =
          let h = ap (λ q1. and_then q1 (λ x. and_then q2 (λ y. computed (binary_value f kl x kr y) at))) (sym ex) ∙ e in
          let g = ap (λ q2. and_then q2 (λ y. computed (binary_value f kl x kr y) at)) (sym ey) ∙ h in
          computed_as (binary_value f kl x kr y) at v g

      other_evals : (f : Binary) (k : CType) (at : Place) → (f ≡ b.LogAnd → ⊥) → (f ≡ b.LogOr → ⊥) → binary_kind f kl kr ≡ k → operated_type f (left_type f kl kr k) ≡ k → (all_hold hs ≡ true → (v : ℤ) × BinaryIs f at v)
          → Evals shapes t agree ops r hs (joined f (left_type f (kind_of first.given) kr k) (right_type f (kind_of first.given) kr k) at second first) k (BinaryIs f at)
      other_evals f k at n1 n2 e e2 there =
          subst (λ kg. Evals shapes t agree ops r hs (joined f (left_type f kg kr k) (right_type f kg kr k) at second first) k (BinaryIs f at)) (sym one.kind)
          (subst (λ k1. Evals shapes t agree ops r hs (joined f (left_type f kl kr k) (right_type f kl kr k) at second first) k1 (BinaryIs f at)) e2
          (joined_evals shapes t agree ops r hs f (left_type f kl kr k) (right_type f kl kr k) kl kr at second first q q2 (BinaryIs f at) tl tr one other (λ all. (let d = there all in both f at d.0 d.1))
          (λ all x y v wx wy ex ey ix iy is_ hx hy. binary_agrees agree operators f kl kr k n1 n2 tr e x y v wx wy ix iy (valued_by f at x y v ex ey is_) hx hy)))

      abbrev JoinedIs : Binary → Place → ℤ → Type 0
      JoinedIs f at v = and_then q (λ x. m.joined f kl x kr at q2) ≡ is v

      pub binary_evals : (f : Binary) (k : CType) (at : Place) → binary_kind f kl kr ≡ k → (all_hold hs ≡ true → (v : ℤ) × JoinedIs f at v) → Evals shapes t agree ops r hs (binary f kr k at second first) k (JoinedIs f at)
      binary_evals b.Mul k at e there = other_evals b.Mul k at (λ n. cc) (λ n. cc) e refl there
      binary_evals b.Div k at e there = other_evals b.Div k at (λ n. cc) (λ n. cc) e refl there
      binary_evals b.Rem k at e there = other_evals b.Rem k at (λ n. cc) (λ n. cc) e refl there
      binary_evals b.Add k at e there = other_evals b.Add k at (λ n. cc) (λ n. cc) e refl there
      binary_evals b.Sub k at e there = other_evals b.Sub k at (λ n. cc) (λ n. cc) e refl there
      binary_evals b.Shl k at e there = other_evals b.Shl k at (λ n. cc) (λ n. cc) e refl there
      binary_evals b.Shr k at e there = other_evals b.Shr k at (λ n. cc) (λ n. cc) e refl there
      binary_evals b.Lt k at e there = other_evals b.Lt k at (λ n. cc) (λ n. cc) e e there
      binary_evals b.Gt k at e there = other_evals b.Gt k at (λ n. cc) (λ n. cc) e e there
      binary_evals b.Le k at e there = other_evals b.Le k at (λ n. cc) (λ n. cc) e e there
      binary_evals b.Ge k at e there = other_evals b.Ge k at (λ n. cc) (λ n. cc) e e there
      binary_evals b.Eq k at e there = other_evals b.Eq k at (λ n. cc) (λ n. cc) e e there
      binary_evals b.Ne k at e there = other_evals b.Ne k at (λ n. cc) (λ n. cc) e e there
      binary_evals b.And k at e there = other_evals b.And k at (λ n. cc) (λ n. cc) e refl there
      binary_evals b.Xor k at e there = other_evals b.Xor k at (λ n. cc) (λ n. cc) e refl there
      binary_evals b.Or k at e there = other_evals b.Or k at (λ n. cc) (λ n. cc) e refl there
      binary_evals b.LogAnd k at e there =
          subst (λ k. Evals shapes t agree ops r hs (binary b.LogAnd kr k at second first) k (JoinedIs b.LogAnd at)) e
          (and_evals shapes t agree ops r hs kl kr second first q q2 (JoinedIs b.LogAnd at) one other
          (λ all. (let d = there all in let h = chained q (λ x. m.joined b.LogAnd kl x kr at q2) d.0 d.1 in (h.first, h.first_is)))
          (λ all h.
          (let d = there all in
          let g = chained q (λ x. m.joined b.LogAnd kl x kr at q2) d.0 d.1 in
          let second_is = needed_true (is_true g.first) (and_then q2 (λ y. is (truth (is_true y)))) (is (truth false)) d.0 (truth_of q g.first g.first_is ∙ h) g.next_is in
          let y = chained q2 (λ y. is (truth (is_true y))) d.0 second_is in (y.first, y.first_is)))
          (λ all v is_.
          (let g = chained q (λ x. m.joined b.LogAnd kl x kr at q2) v is_ in and_value (is_true g.first) q2 v g.next_is ∙ ap (λ b1. truth (b1 && true_in q2)) (truth_of q g.first g.first_is))))
      binary_evals b.LogOr k at e there =
          subst (λ k. Evals shapes t agree ops r hs (binary b.LogOr kr k at second first) k (JoinedIs b.LogOr at)) e
          (or_evals shapes t agree ops r hs kl kr second first q q2 (JoinedIs b.LogOr at) one other
          (λ all. (let d = there all in let h = chained q (λ x. m.joined b.LogOr kl x kr at q2) d.0 d.1 in (h.first, h.first_is)))
          (λ all h.
          (let d = there all in
          let g = chained q (λ x. m.joined b.LogOr kl x kr at q2) d.0 d.1 in
          let second_is = needed_false (is_true g.first) (is (truth true)) (and_then q2 (λ y. is (truth (is_true y)))) d.0 (truth_of q g.first g.first_is ∙ h) g.next_is in
          let y = chained q2 (λ y. is (truth (is_true y))) d.0 second_is in (y.first, y.first_is)))
          (λ all v is_.
          (let g = chained q (λ x. m.joined b.LogOr kl x kr at q2) v is_ in or_value (is_true g.first) q2 v g.next_is ∙ ap (λ b1. truth (b1 || true_in q2)) (truth_of q g.first g.first_is))))

-- ---- expressions

suits_type : (f : Frame) (hidden : ℕ → Bool) (x : PureTree) → Suits f hidden x → IsType (kind x)
suits_type f hidden (tree.number w k) h = h.0
suits_type f hidden (tree.variable name k) h = h.0
suits_type f hidden (tree.element array subs k at) h = h.0
suits_type f hidden (tree.unary op arg k at) h = h.0
suits_type f hidden (tree.binary op left right k at) h = h.0
suits_type f hidden (tree.choice test left right k) h = h.0
suits_type f hidden (tree.cast to arg) h = h.0

module _ (f : Frame) (hidden : ℕ → Bool) (t : Words) (agree : ConversionsAgree) (operators : OperatorsAgree) (natural : NaturalsAreWords) (outs : List Out) (s : Store) where
  mutual
    -- Where control comes here, an expression that has a value gives it, and none of its operations has a fault.
    pub emitted_evals : (x : PureTree) → Suits f hidden x → (ops : List OpTree) (r : Ranged) (gs : List Guard) (hs : List Bool) → Stands (shapes_of f) t ops r → Under (shapes_of f) t ops r gs hs → Shows f hidden outs ops r s
        → (all_hold hs ≡ true → IsDefined (value f.arrays x s)) → Evals (shapes_of f) t agree ops r hs (emitted outs x ops gs) (kind x) (λ v. value f.arrays x s ≡ is v)
    emitted_evals (tree.number w k) suits ops r gs hs stands below shows there =
        adds_value (shapes_of f) t agree ops r gs hs stands below (λ v. value f.arrays (tree.number w k) s ≡ is v) k (record { ops = ops; operand = constant w }) (width k) w refl
        (adds_nothing (shapes_of f) t ops r (constant w) (width k) stands (record { early = tt; wide = tt })) (λ all v is_. subst (λ n. IsWord k n w) (same_value (number_of k w) v is_) suits.1)
    emitted_evals (tree.variable name k) suits ops r gs hs stands below shows there =
        let x = held outs name in
        adds_value (shapes_of f) t agree ops r gs hs stands below (λ v. value f.arrays (tree.variable name k) s ≡ is v) k (record { ops = ops; operand = x }) (width k) (operand r.words r.results x) refl
        (adds_nothing (shapes_of f) t ops r x (width k) stands (shows.fits name k suits.1))
        (λ all v is_. subst (λ n. IsWord k n (operand r.words r.results x)) (same_value (s.variables name.0) v is_) (shows.variables name k suits.1 suits.2))
    emitted_evals (tree.element array subs k at) suits ops r gs hs stands below shows there =
        loaded_evals f t agree natural ops r hs array k at (emitted_all outs subs ops gs) s (values f.arrays subs s) suits.1
        (all_evals subs suits.2 ops r gs hs stands below shows
        (λ all. (let d = there all in let h = chained (values f.arrays subs s) (λ is_. m.element_at array.0 (m.element_number f.arrays array.0 is_) at s) d.0 d.1 in (h.first, h.first_is)))) shows.arrays there
    emitted_evals (tree.unary op arg k at) suits ops r gs hs stands below shows there =
        unary_evals (shapes_of f) t agree operators ops r hs (emitted outs arg ops gs) (kind arg) (value f.arrays arg s) (suits_type f hidden arg suits.2)
        (emitted_evals arg suits.2 ops r gs hs stands below shows
        (λ all. (let d = there all in let h = chained (value f.arrays arg s) (λ x. computed (unary_value op (kind arg) x) at) d.0 d.1 in (h.first, h.first_is)))) op k at suits.1 there
    emitted_evals (tree.binary op left right k at) suits ops r gs hs stands below shows there =
        binary_evals (shapes_of f) t agree operators ops r hs (emitted outs left ops gs) (kind left) (value f.arrays left s) (suits_type f hidden left suits.2)
        (emitted_evals left suits.2 ops r gs hs stands below shows
        (λ all. (let d = there all in let h = chained (value f.arrays left s) (λ x. m.joined op (kind left) x (kind right) at (value f.arrays right s)) d.0 d.1 in (h.first, h.first_is))))
        (λ ops1 gs1. emitted outs right ops1 gs1) (kind right) (value f.arrays right s) (suits_type f hidden right suits.3)
        (λ ops1 r1 gs1 hs1 grows stands1 below1 there1. emitted_evals right suits.3 ops1 r1 gs1 hs1 stands1 below1 (shows_grows f hidden outs ops ops1 r r1 s grows shows) there1) op k at suits.1 there
    emitted_evals (tree.choice test left right k) suits ops r gs hs stands below shows there =
        let q = value f.arrays test s in
        let q1 = value f.arrays left s in
        let q2 = value f.arrays right s in
        let V : ℤ → Type 0 = λ v. value f.arrays (tree.choice test left right k) s ≡ is v in
        let next : ℤ → Valued ℤ = λ x. and_then (if is_true x then value f.arrays left s else value f.arrays right s) (λ y. is (convert k y)) in
        choice_evals (shapes_of f) t agree ops r hs k (kind test) (kind left) (kind right) (λ ops1 gs1. emitted outs left ops1 gs1) (λ ops1 gs1. emitted outs right ops1 gs1) (emitted outs test ops gs) q q1 q2 V (suits_type f hidden left suits.2) (suits_type f hidden right suits.3) operators
        (emitted_evals test suits.1 ops r gs hs stands below shows (λ all. (let d = there all in let h = chained q next d.0 d.1 in (h.first, h.first_is))))
        (λ ops1 r1 gs1 hs1 grows stands1 below1 there1. emitted_evals left suits.2 ops1 r1 gs1 hs1 stands1 below1 (shows_grows f hidden outs ops ops1 r r1 s grows shows) there1)
        (λ ops1 r1 gs1 hs1 grows stands1 below1 there1. emitted_evals right suits.3 ops1 r1 gs1 hs1 stands1 below1 (shows_grows f hidden outs ops ops1 r r1 s grows shows) there1)
        (λ all. (let d = there all in let h = chained q next d.0 d.1 in (h.first, h.first_is)))
        (λ all e.
        (let d = there all in
        let h = chained q next d.0 d.1 in
        let g = chained (if is_true h.first then q1 else q2) (λ y. is (convert k y)) d.0 h.next_is in (g.first, needed_true (is_true h.first) q1 q2 g.first (truth_of q h.first h.first_is ∙ e) g.first_is)))
        (λ all e.
        (let d = there all in
        let h = chained q next d.0 d.1 in
        let g = chained (if is_true h.first then q1 else q2) (λ y. is (convert k y)) d.0 h.next_is in (g.first, needed_false (is_true h.first) q1 q2 g.first (truth_of q h.first h.first_is ∙ e) g.first_is)))
        (λ all v is_. (
          λ e x ex.
              (let h = chained q next v is_ in
              let g = chained (if is_true h.first then q1 else q2) (λ y. is (convert k y)) v h.next_is in
              let same = same_value x g.first (sym ex ∙ needed_true (is_true h.first) q1 q2 g.first (truth_of q h.first h.first_is ∙ e) g.first_is) in sym (same_value (convert k g.first) v g.next_is) ∙ ap (convert k) (sym same)),
          λ e y ey.
              (let h = chained q next v is_ in
              let g = chained (if is_true h.first then q1 else q2) (λ y. is (convert k y)) v h.next_is in
              let same = same_value y g.first (sym ey ∙ needed_false (is_true h.first) q1 q2 g.first (truth_of q h.first h.first_is ∙ e) g.first_is) in sym (same_value (convert k g.first) v g.next_is) ∙ ap (convert k) (sym same)),
        ))
    emitted_evals (tree.cast to arg) suits ops r gs hs stands below shows there =
        cast_evals (shapes_of f) t agree operators ops r hs (emitted outs arg ops gs) (kind arg) (value f.arrays arg s) (suits_type f hidden arg suits.1)
        (emitted_evals arg suits.1 ops r gs hs stands below shows (λ all. (let d = there all in let h = chained (value f.arrays arg s) (λ x. is (convert to x)) d.0 d.1 in (h.first, h.first_is)))) to

    pub all_evals : (xs : PureTrees) → EachSuits f hidden xs → (ops : List OpTree) (r : Ranged) (gs : List Guard) (hs : List Bool) → Stands (shapes_of f) t ops r → Under (shapes_of f) t ops r gs hs → Shows f hidden outs ops r s
        → (all_hold hs ≡ true → (vs : List ℤ) × (values f.arrays xs s ≡ is vs)) → RowEvals f t agree ops r hs (emitted_all outs xs ops gs) (λ vs. values f.arrays xs s ≡ is vs)
    all_evals tree.none suits ops r gs hs stands below shows there =
        record { next = r; stands = stands; grows = grows_nothing (shapes_of f) ops r; under = below; early = tt; has = λ all vs is_. subst (λ l. AreWords [] l) (same_value [] vs is_) tt }
    all_evals (tree.more first rest) suits ops r gs hs stands below shows there =
        subscript_evals f t agree ops r hs (kind first) (λ ops1 gs1. emitted_all outs rest ops1 gs1) (emitted outs first ops gs) (value f.arrays first s) (values f.arrays rest s)
        (emitted_evals first suits.0 ops r gs hs stands below shows
        (λ all. (let d = there all in let h = chained (value f.arrays first s) (λ x. and_then (values f.arrays rest s) (λ xs. is (x ∷ xs))) d.0 d.1 in (h.first, h.first_is))))
        (λ ops1 r1 gs1 hs1 grows stands1 below1 there1. all_evals rest suits.1 ops1 r1 gs1 hs1 stands1 below1 (shows_grows f hidden outs ops ops1 r r1 s grows shows) there1) there
