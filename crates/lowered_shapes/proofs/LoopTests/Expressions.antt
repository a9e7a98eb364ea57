-- Behind an expression each operation that stays comes before its value, or makes a bit of a guard.
use Rattle.std.proofs.Common.{◌≡◌, ◌≤◌, ℕ, Bool, true, false, arith, List, [], ◌∷◌, ◌++◌, length, length-append, Option, Some, None}
use Rattle.std.specs.Prelude.{if◌then◌else◌}
use Rattle.hls_base.specs.declared.place.Place.{Place}
use Rattle.hls_base.specs.declared.number.ArrayId.{ArrayId}
use Rattle.c_token.specs.declared.ctype.CType.{CType}
use Rattle.c_tree.specs.declared.operator.Unary.{Unary}
use Rattle.c_tree.specs.declared.operator.Unary.TheVariants as u
use Rattle.c_tree.specs.declared.operator.Binary.{Binary}
use Rattle.c_tree.specs.declared.operator.Binary.TheVariants as b
use Rattle.c_value.specs.Values.{width, is_signed}
use Rattle.pieces.specs.Trees as tree
use Rattle.pieces.specs.Trees.{PureTree, PureTrees}
use Rattle.pieces.specs.Kind.{kind}
use Rattle.ir_core.specs.declared.body.OpKind.{OpKind}
use Rattle.ir_core.specs.declared.body.OpKind.TheVariants as o
use Rattle.ir_core.specs.declared.body.Operand.{Operand}
use Rattle.ir_core.specs.Bodies.{OpTree}
use Rattle.passes.specs.Lowering.Operations.{Emitted, added, constant, entry_value, plain, defined, flagged, kind_of, valued, tested, assigned, balanced}
use Rattle.passes.specs.Lowering.Guards.{Guard, only_where, outside, Guarded, guarded}
use Rattle.passes.specs.Lowering.Expressions.{Evaluated, Next, Subscripts, with_value, with_truth, under_guard, is_total, computed, operated, left_type, right_type, junction, joined, binary, unary, choice, cast_to, subscript, emitted, emitted_all}
use Rattle.passes.specs.Numbering.{Scope, is_common}
use Rattle.passes.proofs.Equalities.{false_true}
use Rattle.passes.specs.NumberRuns.Ordered.{IsEarly, AreEarly}
use Rattle.pass_runs.proofs.LowerRuns.LoweredTrees.Adding.{early_more, all_early_more, GuardsEarly, guards_more, outside_early}
use Rattle.lowered_shapes.proofs.LoopTests.Numbers.{Grows, grows_none, grows_on}
use Rattle.lowered_shapes.proofs.LoopTests.Heights.{IsSound}
use Rattle.lowered_shapes.proofs.LoopTests.Steps.{Follows, Waits, follows_more, low_before, waits_on}
use Rattle.lowered_shapes.proofs.LoopTests.Conversions.{operand_in, valued_follows, tested_follows, assigned_follows, balanced_follows}
use Rattle.lowered_shapes.proofs.LoopTests.Guards.{Opens, opens}

module _ (scope : Scope) where
  -- what comes of an expression, behind a base
  pub record Evaluates (base : List OpTree) (e : Evaluated) : Type 0 where
    pub follows : Follows scope base e.ops (operand_in e.given)
    pub early : GuardsEarly (length e.ops) e.guards

  -- what comes next is so behind all operations
  abbrev Goes : Next → Type 0
  Goes next = (ops : List OpTree) (guards : List Guard) → IsSound scope ops → GuardsEarly (length ops) guards → Evaluates ops (next ops guards)

  -- ---- an operation on operands that wait for it

  module _ (base ops : List OpTree) (guards : List Guard) (s : IsSound scope ops) (g : Grows scope base ops) (early : GuardsEarly (length ops) guards) where
    guards_behind : (op : OpTree) → GuardsEarly (length (ops ++ op ∷ [])) guards
    guards_behind op = guards_more (length ops) (length (ops ++ op ∷ [])) (let e = length-append ops (op ∷ []) in omega (arith, e)) guards early

    module _ (op : OpTree) (all : AreEarly (length ops) op.args) (w : is_common op.kind ≡ true → Waits scope base ops op.args) where
      value_evaluates : (k : CType) → Evaluates base (with_value guards k (added ops op))
      value_evaluates k = record { follows = follows_more scope ops op s base g all w; early = guards_behind op }

      truth_evaluates : Evaluates base (with_truth guards (added ops op))
      truth_evaluates = record { follows = follows_more scope ops op s base g all w; early = guards_behind op }

  module _ (base ops : List OpTree) (guards : List Guard) (s : IsSound scope ops) (g : Grows scope base ops) (early : GuardsEarly (length ops) guards) where
    flagged_evaluates : (kind : OpKind) (signed : Bool) (bits : ℕ) (array : Option ArrayId) (k : CType) (at : Place) (args : List Operand) → AreEarly (length ops) args → (is_common kind ≡ true → Waits scope base ops args)
        → Evaluates base (under_guard k (flagged kind signed bits args array at) (guarded ops guards))
    flagged_evaluates kind signed bits array k at args all w =
        let r : Guarded = guarded ops guards in
        let opened : Opens scope ops r = opens scope ops guards s early in
        value_evaluates base r.ops r.guards opened.sound (grows_on scope base ops r.ops g opened.grows) opened.early (flagged kind signed bits args array at r.bit) (all_early_more (length ops) (length r.ops) opened.grows.count args all)
        (λ common. waits_on scope base ops r.ops opened.grows opened.bits args all (w common)) k

    computed_evaluates : (kind : OpKind) (k : CType) (at : Place) (args : List Operand) → AreEarly (length ops) args → Waits scope base ops args → Evaluates base (computed kind k at ops guards args)
    computed_evaluates kind k at args all w = by (is_total kind (is_signed k)) where
      by : (t : Bool) → Evaluates base (if t then with_value guards k (added ops (plain kind (width k) args)) else under_guard k (flagged kind (is_signed k) (width k) args None at) (guarded ops guards))
      by true = value_evaluates base ops guards s g early (plain kind (width k) args) all (λ common. w) k
      by false = flagged_evaluates kind (is_signed k) (width k) None k at args all (λ common. w)

    module _ (x y : Operand) (all : AreEarly (length ops) (x ∷ y ∷ [])) (w : Waits scope base ops (x ∷ y ∷ [])) where
      compares : (kind : OpKind) (signed : Bool) (bits : ℕ) → Evaluates base (with_truth guards (added ops (defined kind signed bits (x ∷ y ∷ []))))
      compares kind signed bits = truth_evaluates base ops guards s g early (defined kind signed bits (x ∷ y ∷ [])) all (λ common. w)

      compares_back : (kind : OpKind) (signed : Bool) (bits : ℕ) → Evaluates base (with_truth guards (added ops (defined kind signed bits (y ∷ x ∷ []))))
      compares_back kind signed bits = truth_evaluates base ops guards s g early (defined kind signed bits (y ∷ x ∷ [])) (all.1.0, (all.0, tt)) (λ common m low. w m (low.1, low.0, low.2))

      computes : (kind : OpKind) (k : CType) (at : Place) → Evaluates base (computed kind k at ops guards (x ∷ y ∷ []))
      computes kind k at = computed_evaluates kind k at (x ∷ y ∷ []) all w

      operated_evaluates : (op : Binary) (k : CType) (at : Place) → Evaluates base (operated op k at ops guards x y)
      operated_evaluates b.Lt k at = compares o.Lt (is_signed k) (width k)
      operated_evaluates b.Gt k at = compares_back o.Lt (is_signed k) (width k)
      operated_evaluates b.Le k at = compares o.Le (is_signed k) (width k)
      operated_evaluates b.Ge k at = compares_back o.Le (is_signed k) (width k)
      operated_evaluates b.Eq k at = compares o.Eq false (width k)
      operated_evaluates b.Ne k at = compares o.Ne false (width k)
      operated_evaluates b.Mul k at = computes o.Mul k at
      operated_evaluates b.Div k at = computes o.Div k at
      operated_evaluates b.Rem k at = computes o.Rem k at
      operated_evaluates b.Add k at = computes o.Add k at
      operated_evaluates b.Sub k at = computes o.Sub k at
      operated_evaluates b.Shl k at = computes o.Shl k at
      operated_evaluates b.Shr k at = computes o.Shr k at
      operated_evaluates b.And k at = computes o.And k at
      operated_evaluates b.Xor k at = computes o.Xor k at
      operated_evaluates b.Or k at = computes o.Or k at
      operated_evaluates b.LogAnd k at = computes o.And k at
      operated_evaluates b.LogOr k at = computes o.Or k at

  -- ---- two operands, and three

  module _ (base : List OpTree) (x y : Emitted) (hx : Follows scope base x.ops x.operand) (hy : Follows scope x.ops y.ops y.operand) where
    two_grow : Grows scope base y.ops
    two_grow = grows_on scope base x.ops y.ops hx.grows hy.grows

    first_early : IsEarly (length y.ops) x.operand.value
    first_early = early_more (length x.ops) (length y.ops) hy.grows.count x.operand.value hx.early

    two_early : AreEarly (length y.ops) (x.operand ∷ y.operand ∷ [])
    two_early = (first_early, (hy.early, tt))

    two_wait : Waits scope base y.ops (x.operand ∷ y.operand ∷ [])
    two_wait m low before = hy.bits m low.1 (hx.bits m (low_before scope x.ops y.ops hy.grows x.operand hx.early m low.0) before)

    module _ (z : Emitted) (hz : Follows scope y.ops z.ops z.operand) where
      three_early : AreEarly (length z.ops) (x.operand ∷ y.operand ∷ z.operand ∷ [])
      three_early = (early_more (length y.ops) (length z.ops) hz.grows.count x.operand.value first_early, (early_more (length y.ops) (length z.ops) hz.grows.count y.operand.value hy.early, (hz.early, tt)))

      three_wait : Waits scope base z.ops (x.operand ∷ y.operand ∷ z.operand ∷ [])
      three_wait m low before =
          hz.bits m low.2
          (two_wait m (low_before scope y.ops z.ops hz.grows x.operand first_early m low.0, low_before scope y.ops z.ops hz.grows y.operand hy.early m low.1, tt) before)

  -- ---- operators behind their first operand

  module _ (base : List OpTree) (first : Evaluated) (one : Evaluates base first) where
    joined_evaluates : (op : Binary) (to to_right : CType) (at : Place) (second : Next) → Goes second → Evaluates base (joined op to to_right at second first)
    unfolding joined
    joined_evaluates op to to_right at second other =
        let x = balanced first.ops first.given to in
        let hx = balanced_follows scope base first.ops first.given one.follows to in
        let right = second x.ops first.guards in
        let hr = other x.ops first.guards hx.1.sound (guards_more (length first.ops) (length x.ops) hx.0 first.guards one.early) in
        let y = balanced right.ops right.given to_right in
        let hy = balanced_follows scope x.ops right.ops right.given hr.follows to_right in
        operated_evaluates base y.ops right.guards hy.1.sound (two_grow base x y hx.1 hy.1) (guards_more (length right.ops) (length y.ops) hy.0 right.guards hr.early) x.operand y.operand (two_early base x y hx.1 hy.1) (two_wait base x y hx.1 hy.1) op to at

    junction_evaluates : (both : Bool) (second : Next) → Goes second → Evaluates base (junction both second first)
    unfolding junction
    junction_evaluates both second other =
        let x = tested first.ops first.given in
        let hx = tested_follows scope base first.ops first.given one.follows in
        let right = second x.ops (only_where x.operand both first.guards) in
        let hr = other x.ops (only_where x.operand both first.guards) hx.1.sound (hx.1.early, tt, guards_more (length first.ops) (length x.ops) hx.0 first.guards one.early) in
        let y = tested right.ops right.given in
        let hy = tested_follows scope x.ops right.ops right.given hr.follows in
        truth_evaluates base y.ops (outside right.guards) hy.1.sound (two_grow base x y hx.1 hy.1) (guards_more (length right.ops) (length y.ops) hy.0 (outside right.guards) (outside_early (length right.ops) right.guards hr.early))
        (plain (if both then o.And else o.Or) 1 (x.operand ∷ y.operand ∷ [])) (two_early base x y hx.1 hy.1) (λ common. two_wait base x y hx.1 hy.1)

    choice_evaluates : (k : CType) (left right : Next) → Goes left → Goes right → Evaluates base (choice k left right first)
    unfolding choice
    choice_evaluates k left right goes_left goes_right =
        let t = tested first.ops first.given in
        let ht = tested_follows scope base first.ops first.given one.follows in
        let a = left t.ops (only_where t.operand true first.guards) in
        let ha = goes_left t.ops (only_where t.operand true first.guards) ht.1.sound (ht.1.early, tt, guards_more (length first.ops) (length t.ops) ht.0 first.guards one.early) in
        let x = balanced a.ops a.given k in
        let hx = balanced_follows scope t.ops a.ops a.given ha.follows k in
        let c = right x.ops (only_where t.operand false (outside a.guards)) in
        let hc = goes_right x.ops (only_where t.operand false (outside a.guards)) hx.1.sound
        (first_early base t x ht.1 hx.1, tt, guards_more (length a.ops) (length x.ops) hx.0 (outside a.guards) (outside_early (length a.ops) a.guards ha.early)) in
        let y = balanced c.ops c.given k in
        let hy = balanced_follows scope x.ops c.ops c.given hc.follows k in
        value_evaluates base y.ops (outside c.guards) hy.1.sound (grows_on scope base x.ops y.ops (two_grow base t x ht.1 hx.1) hy.1.grows)
        (guards_more (length c.ops) (length y.ops) hy.0 (outside c.guards) (outside_early (length c.ops) c.guards hc.early))
        (plain o.Select (width k) (t.operand ∷ x.operand ∷ y.operand ∷ [])) (three_early base t x ht.1 hx.1 y hy.1) (λ common. three_wait base t x ht.1 hx.1 y hy.1) k

    -- an operation on one operand
    module _ (x : Emitted) (hx : (length first.ops ≤ length x.ops) × Follows scope base x.ops x.operand) where
      guards_there : GuardsEarly (length x.ops) first.guards
      guards_there = guards_more (length first.ops) (length x.ops) hx.0 first.guards one.early

      one_waits : Waits scope base x.ops (x.operand ∷ [])
      one_waits m low before = hx.1.bits m low.0 before

    unary_evaluates : (op : Unary) (k : CType) (at : Place) → Evaluates base (unary op k at first)
    unary_evaluates u.LogNot k at =
        let x = tested first.ops first.given in
        let hx = tested_follows scope base first.ops first.given one.follows in
        truth_evaluates base x.ops first.guards hx.1.sound hx.1.grows (guards_there x hx) (plain o.Not 1 (x.operand ∷ [])) (hx.1.early, tt) (λ common. one_waits x hx)
    unary_evaluates u.Plus k at =
        let x = balanced first.ops first.given k in
        let hx = balanced_follows scope base first.ops first.given one.follows k in
        record { follows = hx.1; early = guards_there x hx }
    unary_evaluates u.Not k at =
        let x = balanced first.ops first.given k in
        let hx = balanced_follows scope base first.ops first.given one.follows k in
        value_evaluates base x.ops first.guards hx.1.sound hx.1.grows (guards_there x hx) (plain o.Not (width k) (x.operand ∷ [])) (hx.1.early, tt) (λ common. one_waits x hx) k
    unary_evaluates u.Minus k at =
        let x = balanced first.ops first.given k in
        let hx = balanced_follows scope base first.ops first.given one.follows k in
        computed_evaluates base x.ops first.guards hx.1.sound hx.1.grows (guards_there x hx) o.Neg k at (x.operand ∷ []) (hx.1.early, tt) (one_waits x hx)

    cast_evaluates : (to : CType) → Evaluates base (cast_to to first)
    cast_evaluates to =
        let hx = assigned_follows scope base first.ops first.given one.follows to in
        record { follows = hx.1; early = guards_there (assigned first.ops first.given to) hx }

    binary_evaluates : (op : Binary) (right k : CType) (at : Place) (second : Next) → Goes second → Evaluates base (binary op right k at second first)
    binary_evaluates b.LogAnd right k at second other = junction_evaluates true second other
    binary_evaluates b.LogOr right k at second other = junction_evaluates false second other
    binary_evaluates b.Lt right k at second other = joined_evaluates b.Lt (left_type b.Lt (kind_of first.given) right k) (right_type b.Lt (kind_of first.given) right k) at second other
    binary_evaluates b.Gt right k at second other = joined_evaluates b.Gt (left_type b.Gt (kind_of first.given) right k) (right_type b.Gt (kind_of first.given) right k) at second other
    binary_evaluates b.Le right k at second other = joined_evaluates b.Le (left_type b.Le (kind_of first.given) right k) (right_type b.Le (kind_of first.given) right k) at second other
    binary_evaluates b.Ge right k at second other = joined_evaluates b.Ge (left_type b.Ge (kind_of first.given) right k) (right_type b.Ge (kind_of first.given) right k) at second other
    binary_evaluates b.Eq right k at second other = joined_evaluates b.Eq (left_type b.Eq (kind_of first.given) right k) (right_type b.Eq (kind_of first.given) right k) at second other
    binary_evaluates b.Ne right k at second other = joined_evaluates b.Ne (left_type b.Ne (kind_of first.given) right k) (right_type b.Ne (kind_of first.given) right k) at second other
    binary_evaluates b.Mul right k at second other = joined_evaluates b.Mul (left_type b.Mul (kind_of first.given) right k) (right_type b.Mul (kind_of first.given) right k) at second other
    binary_evaluates b.Div right k at second other = joined_evaluates b.Div (left_type b.Div (kind_of first.given) right k) (right_type b.Div (kind_of first.given) right k) at second other
    binary_evaluates b.Rem right k at second other = joined_evaluates b.Rem (left_type b.Rem (kind_of first.given) right k) (right_type b.Rem (kind_of first.given) right k) at second other
    binary_evaluates b.Add right k at second other = joined_evaluates b.Add (left_type b.Add (kind_of first.given) right k) (right_type b.Add (kind_of first.given) right k) at second other
    binary_evaluates b.Sub right k at second other = joined_evaluates b.Sub (left_type b.Sub (kind_of first.given) right k) (right_type b.Sub (kind_of first.given) right k) at second other
    binary_evaluates b.Shl right k at second other = joined_evaluates b.Shl (left_type b.Shl (kind_of first.given) right k) (right_type b.Shl (kind_of first.given) right k) at second other
    binary_evaluates b.Shr right k at second other = joined_evaluates b.Shr (left_type b.Shr (kind_of first.given) right k) (right_type b.Shr (kind_of first.given) right k) at second other
    binary_evaluates b.And right k at second other = joined_evaluates b.And (left_type b.And (kind_of first.given) right k) (right_type b.And (kind_of first.given) right k) at second other
    binary_evaluates b.Xor right k at second other = joined_evaluates b.Xor (left_type b.Xor (kind_of first.given) right k) (right_type b.Xor (kind_of first.given) right k) at second other
    binary_evaluates b.Or right k at second other = joined_evaluates b.Or (left_type b.Or (kind_of first.given) right k) (right_type b.Or (kind_of first.given) right k) at second other

  -- ---- subscripts

  record Row (base : List OpTree) (r : Subscripts) : Type 0 where
    sound : IsSound scope r.ops
    grows : Grows scope base r.ops
    early : GuardsEarly (length r.ops) r.guards
    operands : AreEarly (length r.ops) r.operands

  subscript_row : (base : List OpTree) (first : Evaluated) (rest : List OpTree → List Guard → Subscripts) → Evaluates base first
      → ((ops : List OpTree) (guards : List Guard) → IsSound scope ops → GuardsEarly (length ops) guards → Row ops (rest ops guards)) → Row base (subscript rest first)
  unfolding subscript
  subscript_row base first rest one others =
      let x = valued first.ops first.given in
      let hx = valued_follows scope base first.ops first.given one.follows in
      let r = rest x.ops first.guards in
      let hr = others x.ops first.guards hx.1.sound (guards_there base first one x hx) in record {
        sound = hr.sound;
        grows = grows_on scope base x.ops r.ops hx.1.grows hr.grows;
        early = hr.early;
        operands = (early_more (length x.ops) (length r.ops) hr.grows.count x.operand.value hx.1.early, hr.operands);
      }

  -- ---- expressions

  -- a constant, or what a variable holds at first
  nothing_follows : (ops : List OpTree) (x : Operand) → IsSound scope ops → IsEarly (length ops) x.value → Follows scope ops ops x
  nothing_follows ops x s early = record { sound = s; grows = grows_none scope ops; early = early; bits = λ m low before. before }

  mutual
    pub emitted_evaluates : (t : PureTree) (ops : List OpTree) (guards : List Guard) → IsSound scope ops → GuardsEarly (length ops) guards → Evaluates ops (emitted [] t ops guards)
    emitted_evaluates (tree.number w k) ops guards s early = record { follows = nothing_follows ops (constant w) s tt; early = early }
    emitted_evaluates (tree.variable name k) ops guards s early = record { follows = nothing_follows ops (entry_value name) s tt; early = early }
    emitted_evaluates (tree.element array subscripts k at) ops guards s early =
        let x = emitted_all [] subscripts ops guards in
        let r = emitted_all_row subscripts ops guards s early in
        flagged_evaluates ops x.ops x.guards r.sound r.grows r.early o.Load false (width k) (Some array) k at x.operands r.operands (λ common. false_true common)
    emitted_evaluates (tree.unary op arg k at) ops guards s early = unary_evaluates ops (emitted [] arg ops guards) (emitted_evaluates arg ops guards s early) op k at
    emitted_evaluates (tree.binary op left right k at) ops guards s early =
        binary_evaluates ops (emitted [] left ops guards) (emitted_evaluates left ops guards s early) op (kind right) k at (λ ops1 guards1. emitted [] right ops1 guards1) (emitted_evaluates right)
    emitted_evaluates (tree.choice test left right k) ops guards s early =
        choice_evaluates ops (emitted [] test ops guards) (emitted_evaluates test ops guards s early) k (λ ops1 guards1. emitted [] left ops1 guards1) (λ ops1 guards1. emitted [] right ops1 guards1) (emitted_evaluates left) (emitted_evaluates right)
    emitted_evaluates (tree.cast to arg) ops guards s early = cast_evaluates ops (emitted [] arg ops guards) (emitted_evaluates arg ops guards s early) to

    emitted_all_row : (ts : PureTrees) (ops : List OpTree) (guards : List Guard) → IsSound scope ops → GuardsEarly (length ops) guards → Row ops (emitted_all [] ts ops guards)
    emitted_all_row tree.none ops guards s early = record { sound = s; grows = grows_none scope ops; early = early; operands = tt }
    emitted_all_row (tree.more first rest) ops guards s early =
        subscript_row ops (emitted [] first ops guards) (λ ops1 guards1. emitted_all [] rest ops1 guards1) (emitted_evaluates first ops guards s early) (emitted_all_row rest)
