-- The operations of expressions are valid.
use Rattle.std.specs.Prelude.{◌==◌, slice_get}
use Rattle.std.proofs.Common.{◌≡◌, ◌∙◌, ℕ, zero, suc, Bool, true, false, refl, ap, sym, subst, List, [], ◌∷◌, map, length, Some, if◌then◌else◌}
use Rattle.hls_base.specs.declared.place.Place.{Place}
use Rattle.hls_base.specs.declared.number.ArrayId.{ArrayId}
use Rattle.hls_base.specs.declared.number.VarId.{VarId}
use Rattle.c_token.specs.declared.ctype.CType.{CType}
use Rattle.c_tree.specs.declared.operator.Unary.{Unary}
use Rattle.c_tree.specs.declared.operator.Unary.TheVariants as u
use Rattle.c_tree.specs.declared.operator.Binary.{Binary}
use Rattle.c_tree.specs.declared.operator.Binary.TheVariants as b
use Rattle.c_value.specs.Values.{width, is_signed, promoted}
use Rattle.pieces.specs.Trees as tree
use Rattle.pieces.specs.Trees.{PureTree, PureTrees}
use Rattle.pieces.specs.Kind.{kind}
use Rattle.ir_core.specs.declared.body.OpKind.TheVariants as o
use Rattle.ir_core.specs.declared.body.Operand.{Operand}
use Rattle.ir_core.specs.declared.body.Out.{Out}
use Rattle.ir_core.specs.declared.body.Source.{Source}
use Rattle.ir_core.specs.declared.body.Source.TheVariants as source
use Rattle.ir_core.specs.Bodies.{OpTree}
use Rattle.passes.specs.Lowering.Operations.{added, constant, plain, flagged, kind_of, valued, tested, balanced, assigned}
use Rattle.passes.specs.Lowering.Outs.{held}
use Rattle.passes.specs.Lowering.Guards.{Guard, only_where, outside}
use Rattle.passes.specs.Lowering.Blocks.{Scope}
use Rattle.passes.specs.Lowering.Expressions.{Evaluated, Next, Subscripts, with_value, with_truth, computed, operated, junction, joined, binary, unary, negated, choice, cast_to, subscript, loaded, emitted, emitted_all, left_type, right_type}
use Rattle.pass_runs.proofs.ConvertRuns.Opening.{same_number}
use Rattle.pass_runs.specs.ConvertRuns.LoweredConversions.Suiting.{PureSuits, EachSuits}
use Rattle.pass_runs.proofs.ConvertRuns.LoweredConversions.Adding.{Grows, stays, grows_on}
use Rattle.program_validity.specs.Widths.{is_width}
use Rattle.valid_trees.specs.Shapes.{MemoryShape, FrameShape}
use Rattle.valid_trees.specs.Operands.{IsSubscriptAs, IsSubscript, AreSubscripts}
use Rattle.valid_trees.specs.Bodies.{OutsAreValid}
use Rattle.valid_trees.specs.ValidLowering.Proper.{IsOfOperator, dimensions, count, PureIsProper, EachIsProper}
use Rattle.valid_trees.specs.ValidLowering.{memory_in, frame_in}
use Rattle.valid_trees.proofs.ValidLowering.Widths.{width_is, width_again}
use Rattle.valid_trees.proofs.ValidLowering.Adding.{Is, Valid, is_on, Gives, added_gives, nothing_gives, valued_gives, tested_gives, assigned_gives, balanced_gives, GuardsAre, guards_on, outside_are}
use Rattle.valid_trees.proofs.ValidLowering.Operators.{EvalIs, eval_on, value_is, truth_is, NextIs, under_guard_is, computed_is, operated_is}

some_same : {A : Type 0} {x y : A} → Some x ≡ Some y → x ≡ y
some_same e = cc

pub mapped : {A B : Type 0} (f : A → B) (xs : List A) (i : ℕ) (x : A) → slice_get xs i ≡ Some x → slice_get (map f xs) i ≡ Some (f x)
mapped f [] i x e = absurd cc
mapped f (y ∷ xs) zero x e = ap (λ z. Some (f z)) (some_same e)
mapped f (y ∷ xs) (suc i) x e = mapped f xs i x e

module _ (frame : FrameShape) where
  abbrev pub OutsAre : List OpTree → List Out → Type 0
  OutsAre = OutsAreValid frame []

  pub outs_on : (xs ys : List OpTree) → Grows xs ys → (outs : List Out) → OutsAre xs outs → OutsAre ys outs
  outs_on xs ys g [] h = tt
  outs_on xs ys g (x ∷ outs) h = (record { bits = h.0.bits; there = h.0.there; value = is_on frame xs ys g h.0.bits x.value h.0.value }, outs_on xs ys g outs h.1)

  -- ---- operators

  module _ (base : List OpTree) (first : Evaluated) (one : EvalIs frame base first) where
    junction_is : (both : Bool) (second : Next) → NextIs frame base second → EvalIs frame base (junction both second first)
    unfolding junction
    junction_is both second other =
        let x = tested first.ops first.given in
        let fx = tested_gives frame first.ops first.given one.valid one.given in
        let g1 = grows_on base first.ops x.ops one.grows fx.grows in
        let right = second x.ops (only_where x.operand both first.guards) in
        let fr = other x.ops (only_where x.operand both first.guards) g1 fx.valid (fx.is_, tt, guards_on frame first.ops x.ops fx.grows first.guards one.guards) in
        let y = tested right.ops right.given in
        let fy = tested_gives frame right.ops right.given fr.valid fr.given in
        let g2 = grows_on x.ops right.ops y.ops fr.grows fy.grows in
        let op = plain (if both then o.And else o.Or) 1 (x.operand ∷ y.operand ∷ []) in
        eval_on frame base y.ops (with_truth (outside right.guards) (added y.ops op)) (grows_on base x.ops y.ops g1 g2)
        (either both y.ops (outside right.guards) x.operand y.operand fy.valid (guards_on frame right.ops y.ops fy.grows (outside right.guards) (outside_are frame right.ops right.guards fr.guards))
        (is_on frame x.ops y.ops g2 1 x.operand fx.is_) fy.is_)
      where
        either : (both : Bool) (ops : List OpTree) (gs : List Guard) (x y : Operand) → Valid frame ops → GuardsAre frame ops gs → Is frame ops 1 x → Is frame ops 1 y
            → EvalIs frame ops (with_truth gs (added ops (plain (if both then o.And else o.Or) 1 (x ∷ y ∷ []))))
        either true ops gs x y h g nx ny = truth_is frame ops gs (plain o.And 1 (x ∷ y ∷ [])) refl h g (record { width = refl; flag = refl; guard = tt; acts = (refl, (nx, (ny, tt))) })
        either false ops gs x y h g nx ny = truth_is frame ops gs (plain o.Or 1 (x ∷ y ∷ [])) refl h g (record { width = refl; flag = refl; guard = tt; acts = (refl, (nx, (ny, tt))) })

    joined_is : (f : Binary) (to to_right : CType) (at : Place) (second : Next) → IsOfOperator f to → width to_right ≡ width to → NextIs frame base second → EvalIs frame base (joined f to to_right at second first)
    unfolding joined
    joined_is f to to_right at second s e other =
        let x = balanced first.ops first.given to in
        let fx = balanced_gives frame first.ops first.given to one.valid one.given in
        let g1 = grows_on base first.ops x.ops one.grows fx.grows in
        let right = second x.ops first.guards in
        let fr = other x.ops first.guards g1 fx.valid (guards_on frame first.ops x.ops fx.grows first.guards one.guards) in
        let y = balanced right.ops right.given to_right in
        let fy = balanced_gives frame right.ops right.given to_right fr.valid fr.given in
        let g2 = grows_on x.ops right.ops y.ops fr.grows fy.grows in
        eval_on frame base y.ops (operated f to at y.ops right.guards x.operand y.operand) (grows_on base x.ops y.ops g1 g2)
        (operated_is frame y.ops right.guards to at x.operand y.operand fy.valid (guards_on frame right.ops y.ops fy.grows right.guards fr.guards) (is_on frame x.ops y.ops g2 (width to) x.operand fx.is_)
        (subst (λ n. Is frame y.ops n y.operand) e fy.is_) f s)

    choice_is : (k : CType) (left right : Next) → NextIs frame base left → NextIs frame base right → EvalIs frame base (choice k left right first)
    unfolding choice
    choice_is k left right fl fr =
        let t = tested first.ops first.given in
        let ft = tested_gives frame first.ops first.given one.valid one.given in
        let g1 = grows_on base first.ops t.ops one.grows ft.grows in
        let a = left t.ops (only_where t.operand true first.guards) in
        let fa = fl t.ops (only_where t.operand true first.guards) g1 ft.valid (ft.is_, tt, guards_on frame first.ops t.ops ft.grows first.guards one.guards) in
        let x = balanced a.ops a.given k in
        let fx = balanced_gives frame a.ops a.given k fa.valid fa.given in
        let g2 = grows_on t.ops a.ops x.ops fa.grows fx.grows in
        let c = right x.ops (only_where t.operand false (outside a.guards)) in
        let fc = fr x.ops (only_where t.operand false (outside a.guards)) (grows_on base t.ops x.ops g1 g2) fx.valid
        (is_on frame t.ops x.ops g2 1 t.operand ft.is_, tt, guards_on frame a.ops x.ops fx.grows (outside a.guards) (outside_are frame a.ops a.guards fa.guards)) in
        let y = balanced c.ops c.given k in
        let fy = balanced_gives frame c.ops c.given k fc.valid fc.given in
        let g3 = grows_on x.ops c.ops y.ops fc.grows fy.grows in
        let g4 = grows_on t.ops x.ops y.ops g2 g3 in
        let op = plain o.Select (width k) (t.operand ∷ x.operand ∷ y.operand ∷ []) in
        eval_on frame base y.ops (with_value (outside c.guards) k (added y.ops op)) (grows_on base t.ops y.ops g1 g4)
        (value_is frame y.ops (outside c.guards) k (added y.ops op) (guards_on frame c.ops y.ops fy.grows (outside c.guards) (outside_are frame c.ops c.guards fc.guards))
        (added_gives frame y.ops op fy.valid (record {
          width = width_is k;
          flag = refl;
          guard = tt;
          acts = (refl, (is_on frame t.ops y.ops g4 1 t.operand ft.is_, (is_on frame x.ops y.ops g3 (width k) x.operand fx.is_, (fy.is_, tt))));
        })))

    unary_is : (f : Unary) (k : CType) (at : Place) → EvalIs frame base (unary f k at first)
    unary_is f k at = eval_on frame base first.ops (unary f k at first) one.grows (here f) where
      bal : Gives frame first.ops (width k) (balanced first.ops first.given k)
      bal = balanced_gives frame first.ops first.given k one.valid one.given

      gs : GuardsAre frame (balanced first.ops first.given k).ops first.guards
      gs = guards_on frame first.ops (balanced first.ops first.given k).ops bal.grows first.guards one.guards

      here : (f : Unary) → EvalIs frame first.ops (unary f k at first)
      here u.LogNot =
          let t = tested first.ops first.given in
          let ft = tested_gives frame first.ops first.given one.valid one.given in
          eval_on frame first.ops t.ops (negated first.guards t) ft.grows
          (truth_is frame t.ops first.guards (plain o.Not 1 (t.operand ∷ [])) refl ft.valid (guards_on frame first.ops t.ops ft.grows first.guards one.guards) (record { width = refl; flag = refl; guard = tt; acts = (refl, (ft.is_, tt)) }))
      here u.Plus = value_is frame first.ops first.guards k (balanced first.ops first.given k) one.guards bal
      here u.Not =
          let x = balanced first.ops first.given k in
          eval_on frame first.ops x.ops (with_value first.guards k (added x.ops (plain o.Not (width k) (x.operand ∷ [])))) bal.grows
          (value_is frame x.ops first.guards k (added x.ops (plain o.Not (width k) (x.operand ∷ []))) gs
          (added_gives frame x.ops (plain o.Not (width k) (x.operand ∷ [])) bal.valid (record { width = width_is k; flag = refl; guard = tt; acts = (refl, (bal.is_, tt)) })))
      here u.Minus =
          let x = balanced first.ops first.given k in
          eval_on frame first.ops x.ops (computed o.Neg k at x.ops first.guards (x.operand ∷ [])) bal.grows
          (computed_is frame x.ops first.guards o.Neg k at (x.operand ∷ []) tt (width_is k) bal.valid gs (λ before e. (is_on frame x.ops before e (width k) x.operand bal.is_, tt)))

    cast_is : (to : CType) → EvalIs frame base (cast_to to first)
    cast_is to = eval_on frame base first.ops (cast_to to first) one.grows (value_is frame first.ops first.guards to (assigned first.ops first.given to) one.guards (assigned_gives frame first.ops first.given to one.valid one.given))

    binary_is : (f : Binary) (right k : CType) (at : Place) (second : Next) → IsOfOperator f k → NextIs frame base second → EvalIs frame base (binary f right k at second first)
    binary_is b.LogAnd right k at second s other = junction_is true second other
    binary_is b.LogOr right k at second s other = junction_is false second other
    binary_is b.Mul right k at second s other = joined_is b.Mul k k at second s refl other
    binary_is b.Div right k at second s other = joined_is b.Div k k at second s refl other
    binary_is b.Rem right k at second s other = joined_is b.Rem k k at second s refl other
    binary_is b.Add right k at second s other = joined_is b.Add k k at second tt refl other
    binary_is b.Sub right k at second s other = joined_is b.Sub k k at second tt refl other
    binary_is b.And right k at second s other = joined_is b.And k k at second tt refl other
    binary_is b.Xor right k at second s other = joined_is b.Xor k k at second tt refl other
    binary_is b.Or right k at second s other = joined_is b.Or k k at second tt refl other
    binary_is b.Shl right k at second s other = joined_is b.Shl k (right_type b.Shl (kind_of first.given) right k) at second s (width_again (is_signed (promoted right)) k s) other
    binary_is b.Shr right k at second s other = joined_is b.Shr k (right_type b.Shr (kind_of first.given) right k) at second s (width_again (is_signed (promoted right)) k s) other
    binary_is b.Lt right k at second s other = joined_is b.Lt (left_type b.Lt (kind_of first.given) right k) (left_type b.Lt (kind_of first.given) right k) at second tt refl other
    binary_is b.Gt right k at second s other = joined_is b.Gt (left_type b.Gt (kind_of first.given) right k) (left_type b.Gt (kind_of first.given) right k) at second tt refl other
    binary_is b.Le right k at second s other = joined_is b.Le (left_type b.Le (kind_of first.given) right k) (left_type b.Le (kind_of first.given) right k) at second tt refl other
    binary_is b.Ge right k at second s other = joined_is b.Ge (left_type b.Ge (kind_of first.given) right k) (left_type b.Ge (kind_of first.given) right k) at second tt refl other
    binary_is b.Eq right k at second s other = joined_is b.Eq (left_type b.Eq (kind_of first.given) right k) (left_type b.Eq (kind_of first.given) right k) at second tt refl other
    binary_is b.Ne right k at second s other = joined_is b.Ne (left_type b.Ne (kind_of first.given) right k) (left_type b.Ne (kind_of first.given) right k) at second tt refl other

  -- ---- subscripts

  sub_is : (ops : List OpTree) (n : ℕ) (x : Operand) → is_width n ≡ true → Is frame ops n x → IsSubscript frame [] ops x
  sub_is ops n x w h = at x.value where
    at : (s : Source) → IsSubscriptAs frame [] ops x s
    at (source.Constant c) = tt
    at (source.Variable v) = (n, w, h)
    at (source.Result i) = (n, w, h)

  sub_on : (xs ys : List OpTree) → Grows xs ys → (x : Operand) → IsSubscript frame [] xs x → IsSubscript frame [] ys x
  sub_on xs ys g x h = at x.value h where
    at : (s : Source) → IsSubscriptAs frame [] xs x s → IsSubscriptAs frame [] ys x s
    at (source.Constant c) q = tt
    at (source.Variable v) q = (q.0, q.1, is_on frame xs ys g q.0 x q.2)
    at (source.Result i) q = (q.0, q.1, is_on frame xs ys g q.0 x q.2)

  abbrev pub EachIsSubscript : List OpTree → List Operand → Type 0
  EachIsSubscript ops [] = Unit {0}
  EachIsSubscript ops (x ∷ xs) = IsSubscript frame [] ops x × EachIsSubscript ops xs

  pub subs_on : (xs ys : List OpTree) → Grows xs ys → (args : List Operand) → EachIsSubscript xs args → EachIsSubscript ys args
  subs_on xs ys g [] h = tt
  subs_on xs ys g (x ∷ args) h = (sub_on xs ys g x h.0, subs_on xs ys g args h.1)

  -- one for each dimension
  pub subs_are : (ops : List OpTree) (dims : List ℕ) (args : List Operand) → length args ≡ length dims → EachIsSubscript ops args → AreSubscripts frame [] ops dims args
  subs_are ops [] [] e h = tt
  subs_are ops [] (x ∷ args) e h = absurd cc
  subs_are ops (len ∷ dims) [] e h = absurd cc
  subs_are ops (len ∷ dims) (x ∷ args) e h = (h.0, subs_are ops dims args (suc_same e) h.1) where
    suc_same : {m n : ℕ} → suc m ≡ suc n → m ≡ n
    suc_same q = cc

  pub record RowIs (base : List OpTree) (n : ℕ) (x : Subscripts) : Type 0 where
    pub valid : Valid frame x.ops
    pub grows : Grows base x.ops
    pub guards : GuardsAre frame x.ops x.guards
    pub operands : EachIsSubscript x.ops x.operands
    pub many : length x.operands ≡ n

  subscript_is : (base : List OpTree) (n : ℕ) (first : Evaluated) (rest : List OpTree → List Guard → Subscripts) → EvalIs frame base first
      → ((ops : List OpTree) (gs : List Guard) → Grows base ops → Valid frame ops → GuardsAre frame ops gs → RowIs ops n (rest ops gs)) → RowIs base (suc n) (subscript rest first)
  unfolding subscript
  subscript_is base n first rest one others =
      let x = valued first.ops first.given in
      let fx = valued_gives frame first.ops first.given one.valid one.given in
      let g1 = grows_on base first.ops x.ops one.grows fx.grows in
      let r = rest x.ops first.guards in
      let fr = others x.ops first.guards g1 fx.valid (guards_on frame first.ops x.ops fx.grows first.guards one.guards) in
      record {
        valid = fr.valid;
        grows = grows_on base x.ops r.ops g1 fr.grows;
        guards = fr.guards;
        operands = (sub_on x.ops r.ops fr.grows x.operand (sub_is x.ops (width (kind_of first.given)) x.operand (width_is (kind_of first.given)) fx.is_), fr.operands);
        many = ap suc fr.many;
      }

  -- an element of an array that is there
  loaded_is : (base : List OpTree) (array : ArrayId) (k : CType) (at : Place) (s : Subscripts) (m : MemoryShape) → slice_get frame.memories array.0 ≡ Some m → m.bits ≡ width k → RowIs base (length m.dims) s → EvalIs frame base (loaded array k at s)
  loaded_is base array k at s m e w h =
      eval_on frame base s.ops (loaded array k at s) h.grows
      (under_guard_is frame s.ops s.guards k (flagged o.Load false (width k) s.operands (Some array) at) h.valid h.guards
      (λ before bit g b. record { width = width_is k; flag = refl; guard = b; acts = (m, e, record { bits = w; args = subs_are before m.dims s.operands h.many (subs_on s.ops before g s.operands h.operands) }) }) (λ bit. refl))

  -- ---- variables

  held_is : (ops : List OpTree) (outs : List Out) (variable : VarId) (n : ℕ) → slice_get frame.widths variable.0 ≡ Some n → OutsAre ops outs → Is frame ops n (held outs variable)
  held_is ops [] variable n e h = record { has = e; distance = refl }
  held_is ops (x ∷ xs) variable n e h = either (x.variable.0 == variable.0) refl (held_is ops xs variable n e h.1) where
    either : (c : Bool) → (x.variable.0 == variable.0) ≡ c → Is frame ops n (held xs variable) → Is frame ops n (if c then x.value else held xs variable)
    either true q rest = subst (λ m. Is frame ops m x.value) (some_same (sym h.0.there ∙ ap (slice_get frame.widths) (same_number x.variable.0 variable.0 q) ∙ e)) h.0.value
    either false q rest = rest

-- ---- expressions

module _ (scope : Scope) where
  mutual
    pub emitted_is : (outs : List Out) (x : PureTree) (ops : List OpTree) (gs : List Guard) → PureSuits scope x → PureIsProper scope.arrays x → OutsAre (frame_in scope) ops outs → Valid (frame_in scope) ops → GuardsAre (frame_in scope) ops gs
        → EvalIs (frame_in scope) ops (emitted outs x ops gs)
    emitted_is outs (tree.number w k) ops gs z p o h g = value_is (frame_in scope) ops gs k (record { ops = ops; operand = constant w }) g (nothing_gives (frame_in scope) ops (width k) (constant w) h (record { has = z; distance = refl }))
    emitted_is outs (tree.variable name k) ops gs z p o h g =
        value_is (frame_in scope) ops gs k (record { ops = ops; operand = held outs name }) g (nothing_gives (frame_in scope) ops (width k) (held outs name) h (held_is (frame_in scope) ops outs name (width k) (mapped width scope.variables name.0 k z) o))
    emitted_is outs (tree.element array subs k at) ops gs z p o h g =
        let row = emitted_all_is outs subs ops gs z.1 p.1 o h g in
        let many : count subs ≡ length z.0.0.lengths = p.0 ∙ ap dimensions z.0.1 in
        loaded_is (frame_in scope) ops array k at (emitted_all outs subs ops gs) (memory_in z.0.0) (mapped memory_in scope.arrays array.0 z.0.0 z.0.1) (ap width z.0.2) (subst (λ n. RowIs (frame_in scope) ops n (emitted_all outs subs ops gs)) many row)
    emitted_is outs (tree.unary f arg k at) ops gs z p o h g = unary_is (frame_in scope) ops (emitted outs arg ops gs) (emitted_is outs arg ops gs z p o h g) f k at
    emitted_is outs (tree.binary f left right k at) ops gs z p o h g =
        binary_is (frame_in scope) ops (emitted outs left ops gs) (emitted_is outs left ops gs z.0 p.1 o h g) f (kind right) k at (λ ops1 gs1. emitted outs right ops1 gs1) p.0
        (λ ops1 gs1 e. emitted_is outs right ops1 gs1 z.1 p.2 (outs_on (frame_in scope) ops ops1 e outs o))
    emitted_is outs (tree.choice test left right k) ops gs z p o h g =
        choice_is (frame_in scope) ops (emitted outs test ops gs) (emitted_is outs test ops gs z.0 p.0 o h g) k (λ ops1 gs1. emitted outs left ops1 gs1) (λ ops1 gs1. emitted outs right ops1 gs1)
        (λ ops1 gs1 e. emitted_is outs left ops1 gs1 z.1 p.1 (outs_on (frame_in scope) ops ops1 e outs o)) (λ ops1 gs1 e. emitted_is outs right ops1 gs1 z.2 p.2 (outs_on (frame_in scope) ops ops1 e outs o))
    emitted_is outs (tree.cast to arg) ops gs z p o h g = cast_is (frame_in scope) ops (emitted outs arg ops gs) (emitted_is outs arg ops gs z p o h g) to

    pub emitted_all_is : (outs : List Out) (xs : PureTrees) (ops : List OpTree) (gs : List Guard) → EachSuits scope xs → EachIsProper scope.arrays xs → OutsAre (frame_in scope) ops outs → Valid (frame_in scope) ops → GuardsAre (frame_in scope) ops gs
        → RowIs (frame_in scope) ops (count xs) (emitted_all outs xs ops gs)
    emitted_all_is outs tree.none ops gs z p o h g = record { valid = h; grows = stays ops; guards = g; operands = tt; many = refl }
    emitted_all_is outs (tree.more first rest) ops gs z p o h g =
        subscript_is (frame_in scope) ops (count rest) (emitted outs first ops gs) (λ ops1 gs1. emitted_all outs rest ops1 gs1) (emitted_is outs first ops gs z.0 p.0 o h g)
        (λ ops1 gs1 e. emitted_all_is outs rest ops1 gs1 z.1 p.1 (outs_on (frame_in scope) ops ops1 e outs o))
