-- The operations of expressions are ready.
use Rattle.std.specs.Prelude.{◌==◌, slice_get, get_or}
use Rattle.std.proofs.Common.{◌≡◌, ◌∙◌, ◌≤◌, ℕ, zero, suc, Bool, true, false, not, refl, ap, sym, arith, List, [], ◌∷◌, map, length, Option, Some, None, if◌then◌else◌}
use Rattle.hls_base.specs.declared.place.Place.{Place}
use Rattle.hls_base.specs.declared.number.ArrayId.{ArrayId}
use Rattle.hls_base.specs.declared.number.VarId.{VarId}
use Rattle.c_token.specs.declared.ctype.CType.{CType}
use Rattle.c_tree.specs.declared.operator.Unary.{Unary}
use Rattle.c_tree.specs.declared.operator.Unary.TheVariants as u
use Rattle.c_tree.specs.declared.operator.Binary.{Binary}
use Rattle.c_tree.specs.declared.operator.Binary.TheVariants as b
use Rattle.c_value.specs.Values.{width, is_signed}
use Rattle.pieces.specs.Trees as tree
use Rattle.pieces.specs.Trees.{PureTree, PureTrees}
use Rattle.pieces.specs.Program.{ArrayTree}
use Rattle.pieces.specs.Kind.{kind}
use Rattle.c_meaning.specs.PieceRuns.Values.{lengths_in}
use Rattle.ir_core.specs.declared.body.OpKind.{OpKind}
use Rattle.ir_core.specs.declared.body.OpKind.TheVariants as o
use Rattle.ir_core.specs.declared.body.Operand.{Operand}
use Rattle.ir_core.specs.declared.body.Out.{Out}
use Rattle.ir_core.specs.Bodies.{OpTree, Shapes, dims_of}
use Rattle.passes.specs.Lowering.Operations.{Emitted, added, plain, defined, flagged, kind_of, valued, tested, assigned, balanced}
use Rattle.passes.specs.Lowering.Guards.{Guard, guarded, outside, only_where}
use Rattle.passes.specs.Lowering.Outs.{held}
use Rattle.passes.specs.Lowering.Blocks.{Scope}
use Rattle.passes.specs.Lowering.Expressions.{Evaluated, Next, Subscripts, with_value, with_truth, under_guard, is_total, computed, operated, junction, joined, binary, unary, choice, cast_to, subscript, emitted, emitted_all, left_type, right_type}
use Rattle.pass_runs.specs.ConvertRuns.Typed.{HasBits, OpsAreTyped, OutsAreTyped}
use Rattle.pass_runs.specs.ConvertRuns.LoweredConversions.Suiting.{widths_of, words_of, PureSuits, EachSuits}
use Rattle.pass_runs.proofs.ConvertRuns.LoweredConversions.Adding.{Grows, grows_on, has_on, outs_on, tested_fine, valued_fine, balanced_fine, GuardsTyped, guards_on, outside_typed, guarded_fine}
use Rattle.pass_runs.proofs.ConvertRuns.LoweredConversions.Expressions.{EvalFine, NextFine, emitted_fine, emitted_all_fine}
use Rattle.clock_runs.specs.Premises.{IsSoundAccess}
use Rattle.sound_trees.specs.Ready.{IsNear, AreNear, IsNearIf, OutsAreNear, HasFew, IsChecked, OpIsReady}
use Rattle.sound_trees.specs.Subscripts.{count, HasDimensions, SubscriptsFit, AllSubscriptsFit}
use Rattle.sound_trees.specs.Laws.{shapes_in}
use Rattle.sound_trees.proofs.Adding.{width_positive, Ready, Gives, added_gives, GivenIsNear, valued_gives, tested_gives, assigned_gives, balanced_gives, GuardsAreNear, outside_near, guarded_ready}

not_false : (c : Bool) → not c ≡ false → c ≡ true
not_false true e = refl
not_false false e = sym e

module _ (shapes : Shapes) (words : List ℕ) (stores : Bool) where
  abbrev Typed : List OpTree → Type 0
  Typed ops = OpsAreTyped shapes.widths words [] ops

  pub record EvalReady (x : Evaluated) : Type 0 where
    pub ops : Ready shapes words stores x.ops
    pub guards : GuardsAreNear shapes words stores x.guards
    pub given : GivenIsNear shapes words stores x.given

  -- What comes next is so behind these operations and more.
  abbrev NextReady : List OpTree → Next → Type 0
  NextReady base next = (ops : List OpTree) (gs : List Guard) → Grows base ops → Typed ops → GuardsTyped shapes.widths words ops gs → Ready shapes words stores ops → GuardsAreNear shapes words stores gs → EvalReady (next ops gs)

  value_ready : (gs : List Guard) (k : CType) (x : Emitted) → GuardsAreNear shapes words stores gs → Gives shapes words stores x → EvalReady (with_value gs k x)
  value_ready gs k x g h = record { ops = h.ops; guards = g; given = h.near }

  truth_ready : (gs : List Guard) (ops : List OpTree) (op : OpTree) → GuardsAreNear shapes words stores gs → Ready shapes words stores ops → OpIsReady shapes words stores ops op → EvalReady (with_truth gs (added ops op))
  truth_ready gs ops op g h k = let x = added_gives shapes words stores ops op h k in record { ops = x.ops; guards = g; given = x.near }

  -- an operation with a flag
  under_guard_ready : (ops : List OpTree) (gs : List Guard) (k : CType) (op : Option Operand → OpTree) → Typed ops → GuardsTyped shapes.widths words ops gs → Ready shapes words stores ops → GuardsAreNear shapes words stores gs
      → ((before : List OpTree) (bit : Option Operand) → Grows ops before → IsNearIf bit → OpIsReady shapes words stores before (op bit)) → EvalReady (under_guard k op (guarded ops gs))
  under_guard_ready ops gs k op t gt h g is_ =
      let r = guarded ops gs in
      let f = guarded_ready shapes words stores ops gs h g in
      value_ready r.guards k (added r.ops (op r.bit)) f.guards (added_gives shapes words stores r.ops (op r.bit) f.ops (is_ r.ops r.bit (guarded_fine shapes.widths words ops gs t gt).grows f.bit))

  -- kinds that compute, and have no other demand than on sums
  abbrev Computes : OpKind → Type 0
  Computes o.Load = ⊥
  Computes o.Store = ⊥
  Computes kind = Unit {0}

  unflagged : (before : List OpTree) (kind : OpKind) (bits : ℕ) (args : List Operand) (signed : Bool) → Computes kind → is_total kind signed ≡ true → IsChecked shapes words stores before (plain kind bits args) kind
  unflagged before o.Load bits args signed c e = absurd c
  unflagged before o.Store bits args signed c e = absurd c
  unflagged before o.Add bits args signed c e = λ q. absurd cc
  unflagged before o.Sub bits args signed c e = λ q. absurd cc
  unflagged before o.Div bits args signed c e = absurd cc
  unflagged before o.Rem bits args signed c e = absurd cc
  unflagged before kind bits args signed c e = tt

  computed_ready : (ops : List OpTree) (gs : List Guard) (kind : OpKind) (k : CType) (at : Place) (args : List Operand) → Typed ops → GuardsTyped shapes.widths words ops gs → Ready shapes words stores ops → GuardsAreNear shapes words stores gs
      → Computes kind → AreNear args → HasFew kind args
      → ((before : List OpTree) (bit : Option Operand) → Grows ops before → is_total kind (is_signed k) ≡ false → IsChecked shapes words stores before (flagged kind (is_signed k) (width k) args None at bit) kind)
      → EvalReady (computed kind k at ops gs args)
  computed_ready ops gs kind k at args t gt h g c n few checked = either (is_total kind (is_signed k)) refl where
    either : (d : Bool) → is_total kind (is_signed k) ≡ d
        → EvalReady (if d then with_value gs k (added ops (plain kind (width k) args)) else under_guard k (flagged kind (is_signed k) (width k) args None at) (guarded ops gs))
    either true e =
        value_ready gs k (added ops (plain kind (width k) args)) g (added_gives shapes words stores ops (plain kind (width k) args) h (record { args = n; guard = tt; few = few; kind = unflagged ops kind (width k) args (is_signed k) c e }))
    either false e =
        under_guard_ready ops gs k (flagged kind (is_signed k) (width k) args None at) t gt h g (λ before bit e1 b. record { args = n; guard = b; few = few; kind = checked before bit e1 e })

  -- what is asked of the operands of an operator of type k
  abbrev Suits : Binary → List OpTree → CType → Operand → Operand → Type 0
  Suits b.Add ops k x y = HasBits shapes.widths words ops (width k) x.value × HasBits shapes.widths words ops (width k) y.value
  Suits b.Sub ops k x y = HasBits shapes.widths words ops (width k) x.value × HasBits shapes.widths words ops (width k) y.value
  Suits b.Div ops k x y = HasBits shapes.widths words ops (width k) x.value × HasBits shapes.widths words ops (width k) y.value
  Suits b.Rem ops k x y = HasBits shapes.widths words ops (width k) x.value × HasBits shapes.widths words ops (width k) y.value
  Suits f ops k x y = Unit {0}

  module _ (ops : List OpTree) (gs : List Guard) (k : CType) (at : Place) (x y : Operand) (t : Typed ops) (gt : GuardsTyped shapes.widths words ops gs) (h : Ready shapes words stores ops) (g : GuardsAreNear shapes words stores gs) (nx : IsNear x) (ny : IsNear y) where
    operated_ready : (f : Binary) → Suits f ops k x y → EvalReady (operated f k at ops gs x y)
    operated_ready b.Lt s = truth_ready gs ops (defined o.Lt (is_signed k) (width k) (x ∷ y ∷ [])) g h (record { args = (nx, (ny, tt)); guard = tt; few = omega arith; kind = tt })
    operated_ready b.Gt s = truth_ready gs ops (defined o.Lt (is_signed k) (width k) (y ∷ x ∷ [])) g h (record { args = (ny, (nx, tt)); guard = tt; few = omega arith; kind = tt })
    operated_ready b.Le s = truth_ready gs ops (defined o.Le (is_signed k) (width k) (x ∷ y ∷ [])) g h (record { args = (nx, (ny, tt)); guard = tt; few = omega arith; kind = tt })
    operated_ready b.Ge s = truth_ready gs ops (defined o.Le (is_signed k) (width k) (y ∷ x ∷ [])) g h (record { args = (ny, (nx, tt)); guard = tt; few = omega arith; kind = tt })
    operated_ready b.Eq s = truth_ready gs ops (plain o.Eq (width k) (x ∷ y ∷ [])) g h (record { args = (nx, (ny, tt)); guard = tt; few = omega arith; kind = tt })
    operated_ready b.Ne s = truth_ready gs ops (plain o.Ne (width k) (x ∷ y ∷ [])) g h (record { args = (nx, (ny, tt)); guard = tt; few = omega arith; kind = tt })
    operated_ready b.Mul s = computed_ready ops gs o.Mul k at (x ∷ y ∷ []) t gt h g tt (nx, (ny, tt)) (omega arith) (λ before bit e q. tt)
    operated_ready b.Div s =
        computed_ready ops gs o.Div k at (x ∷ y ∷ []) t gt h g tt (nx, (ny, tt)) (omega arith)
        (λ before bit e q. (has_on shapes.widths words ops before e (width k) x.value s.0, (has_on shapes.widths words ops before e (width k) y.value s.1, tt)))
    operated_ready b.Rem s =
        computed_ready ops gs o.Rem k at (x ∷ y ∷ []) t gt h g tt (nx, (ny, tt)) (omega arith)
        (λ before bit e q. (has_on shapes.widths words ops before e (width k) x.value s.0, (has_on shapes.widths words ops before e (width k) y.value s.1, tt)))
    operated_ready b.Add s =
        computed_ready ops gs o.Add k at (x ∷ y ∷ []) t gt h g tt (nx, (ny, tt)) (omega arith)
        (λ before bit e q f. record { signed = not_false (is_signed k) q; some = width_positive k; widths = (has_on shapes.widths words ops before e (width k) x.value s.0, (has_on shapes.widths words ops before e (width k) y.value s.1, tt)) })
    operated_ready b.Sub s =
        computed_ready ops gs o.Sub k at (x ∷ y ∷ []) t gt h g tt (nx, (ny, tt)) (omega arith)
        (λ before bit e q f. record { signed = not_false (is_signed k) q; some = width_positive k; widths = (has_on shapes.widths words ops before e (width k) x.value s.0, (has_on shapes.widths words ops before e (width k) y.value s.1, tt)) })
    operated_ready b.Shl s = computed_ready ops gs o.Shl k at (x ∷ y ∷ []) t gt h g tt (nx, (ny, tt)) (omega arith) (λ before bit e q. tt)
    operated_ready b.Shr s = computed_ready ops gs o.Shr k at (x ∷ y ∷ []) t gt h g tt (nx, (ny, tt)) (omega arith) (λ before bit e q. tt)
    operated_ready b.And s = computed_ready ops gs o.And k at (x ∷ y ∷ []) t gt h g tt (nx, (ny, tt)) (omega arith) (λ before bit e q. tt)
    operated_ready b.Xor s = computed_ready ops gs o.Xor k at (x ∷ y ∷ []) t gt h g tt (nx, (ny, tt)) (omega arith) (λ before bit e q. tt)
    operated_ready b.Or s = computed_ready ops gs o.Or k at (x ∷ y ∷ []) t gt h g tt (nx, (ny, tt)) (omega arith) (λ before bit e q. tt)
    operated_ready b.LogAnd s = computed_ready ops gs o.And k at (x ∷ y ∷ []) t gt h g tt (nx, (ny, tt)) (omega arith) (λ before bit e q. tt)
    operated_ready b.LogOr s = computed_ready ops gs o.Or k at (x ∷ y ∷ []) t gt h g tt (nx, (ny, tt)) (omega arith) (λ before bit e q. tt)

  module _ (base : List OpTree) (first : Evaluated) (fine : EvalFine shapes.widths words base first) (one : EvalReady first) where
    junction_ready : (both : Bool) (second : Next) → NextFine shapes.widths words base second → NextReady base second → EvalReady (junction both second first)
    unfolding junction
    junction_ready both second typed other =
        let x = tested first.ops first.given in
        let fx = tested_fine shapes.widths words first.ops first.given fine.typed fine.given in
        let rx = tested_gives shapes words stores first.ops first.given one.ops one.given in
        let g1 = grows_on base first.ops x.ops fine.grows fx.grows in
        let gs = only_where x.operand both first.guards in
        let gt : GuardsTyped shapes.widths words x.ops gs = (fx.has, tt, guards_on shapes.widths words first.ops x.ops fx.grows first.guards fine.guards) in
        let right = second x.ops gs in
        let rr = other x.ops gs g1 fx.typed gt rx.ops (rx.near, tt, one.guards) in
        let y = tested right.ops right.given in
        let ry = tested_gives shapes words stores right.ops right.given rr.ops rr.given in
        either both y.ops (outside right.guards) x.operand y.operand ry.ops (outside_near shapes words stores right.guards rr.guards) rx.near ry.near
      where
        either : (both : Bool) (ops : List OpTree) (gs : List Guard) (x y : Operand) → Ready shapes words stores ops → GuardsAreNear shapes words stores gs → IsNear x → IsNear y → EvalReady (with_truth gs (added ops (plain (if both then o.And else o.Or) 1 (x ∷ y ∷ []))))
        either true ops gs x y h g nx ny = truth_ready gs ops (plain o.And 1 (x ∷ y ∷ [])) g h (record { args = (nx, (ny, tt)); guard = tt; few = omega arith; kind = tt })
        either false ops gs x y h g nx ny = truth_ready gs ops (plain o.Or 1 (x ∷ y ∷ [])) g h (record { args = (nx, (ny, tt)); guard = tt; few = omega arith; kind = tt })

    joined_ready : (f : Binary) (to to_right : CType) (at : Place) (second : Next) → NextFine shapes.widths words base second → NextReady base second
        → ((ops : List OpTree) (x y : Operand) → HasBits shapes.widths words ops (width to) x.value → HasBits shapes.widths words ops (width to_right) y.value → Suits f ops to x y) → EvalReady (joined f to to_right at second first)
    unfolding joined
    joined_ready f to to_right at second typed other suits =
        let x = balanced first.ops first.given to in
        let fx = balanced_fine shapes.widths words first.ops first.given to fine.typed fine.given in
        let rx = balanced_gives shapes words stores first.ops first.given to one.ops one.given in
        let g1 = grows_on base first.ops x.ops fine.grows fx.grows in
        let gt = guards_on shapes.widths words first.ops x.ops fx.grows first.guards fine.guards in
        let right = second x.ops first.guards in
        let fr = typed x.ops first.guards g1 fx.typed gt in
        let rr = other x.ops first.guards g1 fx.typed gt rx.ops one.guards in
        let y = balanced right.ops right.given to_right in
        let fy = balanced_fine shapes.widths words right.ops right.given to_right fr.typed fr.given in
        let ry = balanced_gives shapes words stores right.ops right.given to_right rr.ops rr.given in
        let g2 = grows_on x.ops right.ops y.ops fr.grows fy.grows in
        operated_ready y.ops right.guards to at x.operand y.operand fy.typed (guards_on shapes.widths words right.ops y.ops fy.grows right.guards fr.guards) ry.ops rr.guards rx.near ry.near f
        (suits y.ops x.operand y.operand (has_on shapes.widths words x.ops y.ops g2 (width to) x.operand.value fx.has) fy.has)

    choice_ready : (k : CType) (left right : Next) → NextFine shapes.widths words base left → NextReady base left → NextReady base right → EvalReady (choice k left right first)
    unfolding choice
    choice_ready k left right fl rl rr =
        let t = tested first.ops first.given in
        let ft = tested_fine shapes.widths words first.ops first.given fine.typed fine.given in
        let rt = tested_gives shapes words stores first.ops first.given one.ops one.given in
        let g1 = grows_on base first.ops t.ops fine.grows ft.grows in
        let ga = only_where t.operand true first.guards in
        let gt : GuardsTyped shapes.widths words t.ops ga = (ft.has, tt, guards_on shapes.widths words first.ops t.ops ft.grows first.guards fine.guards) in
        let a = left t.ops ga in
        let fa = fl t.ops ga g1 ft.typed gt in
        let ra = rl t.ops ga g1 ft.typed gt rt.ops (rt.near, tt, one.guards) in
        let x = balanced a.ops a.given k in
        let fx = balanced_fine shapes.widths words a.ops a.given k fa.typed fa.given in
        let rx = balanced_gives shapes words stores a.ops a.given k ra.ops ra.given in
        let g2 = grows_on t.ops a.ops x.ops fa.grows fx.grows in
        let gc = only_where t.operand false (outside a.guards) in
        let gu : GuardsTyped shapes.widths words x.ops gc =
        (has_on shapes.widths words t.ops x.ops g2 1 t.operand.value ft.has, tt, guards_on shapes.widths words a.ops x.ops fx.grows (outside a.guards) (outside_typed shapes.widths words a.ops a.guards fa.guards)) in
        let c = right x.ops gc in
        let rc = rr x.ops gc (grows_on base t.ops x.ops g1 g2) fx.typed gu rx.ops (rt.near, tt, outside_near shapes words stores a.guards ra.guards) in
        let y = balanced c.ops c.given k in
        let ry = balanced_gives shapes words stores c.ops c.given k rc.ops rc.given in
        let op = plain o.Select (width k) (t.operand ∷ x.operand ∷ y.operand ∷ []) in
        value_ready (outside c.guards) k (added y.ops op) (outside_near shapes words stores c.guards rc.guards)
        (added_gives shapes words stores y.ops op ry.ops (record { args = (rt.near, (rx.near, (ry.near, tt))); guard = tt; few = omega arith; kind = tt }))

    unary_ready : (f : Unary) (k : CType) (at : Place) → EvalReady (unary f k at first)
    unary_ready u.LogNot k at =
        let t = tested first.ops first.given in
        let rt = tested_gives shapes words stores first.ops first.given one.ops one.given in
        truth_ready first.guards t.ops (plain o.Not 1 (t.operand ∷ [])) one.guards rt.ops (record { args = (rt.near, tt); guard = tt; few = omega arith; kind = tt })
    unary_ready u.Plus k at = value_ready first.guards k (balanced first.ops first.given k) one.guards (balanced_gives shapes words stores first.ops first.given k one.ops one.given)
    unary_ready u.Not k at =
        let x = balanced first.ops first.given k in
        let rx = balanced_gives shapes words stores first.ops first.given k one.ops one.given in
        value_ready first.guards k (added x.ops (plain o.Not (width k) (x.operand ∷ []))) one.guards (added_gives shapes words stores x.ops (plain o.Not (width k) (x.operand ∷ [])) rx.ops (record { args = (rx.near, tt); guard = tt; few = omega arith; kind = tt }))
    unary_ready u.Minus k at =
        let x = balanced first.ops first.given k in
        let fx = balanced_fine shapes.widths words first.ops first.given k fine.typed fine.given in
        let rx = balanced_gives shapes words stores first.ops first.given k one.ops one.given in
        computed_ready x.ops first.guards o.Neg k at (x.operand ∷ []) fx.typed (guards_on shapes.widths words first.ops x.ops fx.grows first.guards fine.guards) rx.ops one.guards tt (rx.near, tt) (omega arith) (λ before bit e q. tt)

    cast_ready : (to : CType) → EvalReady (cast_to to first)
    cast_ready to = value_ready first.guards to (assigned first.ops first.given to) one.guards (assigned_gives shapes words stores first.ops first.given to one.ops one.given)

    binary_ready : (f : Binary) (right k : CType) (at : Place) (second : Next) → NextFine shapes.widths words base second → NextReady base second → EvalReady (binary f right k at second first)
    binary_ready b.LogAnd right k at second typed other = junction_ready true second typed other
    binary_ready b.LogOr right k at second typed other = junction_ready false second typed other
    binary_ready b.Add right k at second typed other = joined_ready b.Add k k at second typed other (λ ops x y p q. (p, q))
    binary_ready b.Sub right k at second typed other = joined_ready b.Sub k k at second typed other (λ ops x y p q. (p, q))
    binary_ready b.Mul right k at second typed other = joined_ready b.Mul k k at second typed other (λ ops x y p q. tt)
    binary_ready b.Div right k at second typed other = joined_ready b.Div k k at second typed other (λ ops x y p q. (p, q))
    binary_ready b.Rem right k at second typed other = joined_ready b.Rem k k at second typed other (λ ops x y p q. (p, q))
    binary_ready b.And right k at second typed other = joined_ready b.And k k at second typed other (λ ops x y p q. tt)
    binary_ready b.Xor right k at second typed other = joined_ready b.Xor k k at second typed other (λ ops x y p q. tt)
    binary_ready b.Or right k at second typed other = joined_ready b.Or k k at second typed other (λ ops x y p q. tt)
    binary_ready b.Shl right k at second typed other = joined_ready b.Shl k (right_type b.Shl (kind_of first.given) right k) at second typed other (λ ops x y p q. tt)
    binary_ready b.Shr right k at second typed other = joined_ready b.Shr k (right_type b.Shr (kind_of first.given) right k) at second typed other (λ ops x y p q. tt)
    binary_ready b.Lt right k at second typed other = joined_ready b.Lt (left_type b.Lt (kind_of first.given) right k) (right_type b.Lt (kind_of first.given) right k) at second typed other (λ ops x y p q. tt)
    binary_ready b.Gt right k at second typed other = joined_ready b.Gt (left_type b.Gt (kind_of first.given) right k) (right_type b.Gt (kind_of first.given) right k) at second typed other (λ ops x y p q. tt)
    binary_ready b.Le right k at second typed other = joined_ready b.Le (left_type b.Le (kind_of first.given) right k) (right_type b.Le (kind_of first.given) right k) at second typed other (λ ops x y p q. tt)
    binary_ready b.Ge right k at second typed other = joined_ready b.Ge (left_type b.Ge (kind_of first.given) right k) (right_type b.Ge (kind_of first.given) right k) at second typed other (λ ops x y p q. tt)
    binary_ready b.Eq right k at second typed other = joined_ready b.Eq (left_type b.Eq (kind_of first.given) right k) (right_type b.Eq (kind_of first.given) right k) at second typed other (λ ops x y p q. tt)
    binary_ready b.Ne right k at second typed other = joined_ready b.Ne (left_type b.Ne (kind_of first.given) right k) (right_type b.Ne (kind_of first.given) right k) at second typed other (λ ops x y p q. tt)

  -- ---- subscripts

  pub record RowReady (n : ℕ) (x : Subscripts) : Type 0 where
    pub ops : Ready shapes words stores x.ops
    pub guards : GuardsAreNear shapes words stores x.guards
    pub operands : AreNear x.operands
    pub many : length x.operands ≡ n

  subscript_ready : (base : List OpTree) (n : ℕ) (first : Evaluated) (rest : List OpTree → List Guard → Subscripts) → EvalFine shapes.widths words base first → EvalReady first
      → ((ops : List OpTree) (gs : List Guard) → Grows base ops → Typed ops → GuardsTyped shapes.widths words ops gs → Ready shapes words stores ops → GuardsAreNear shapes words stores gs → RowReady n (rest ops gs)) → RowReady (suc n) (subscript rest first)
  unfolding subscript
  subscript_ready base n first rest fine one others =
      let x = valued first.ops first.given in
      let fx = valued_fine shapes.widths words first.ops first.given fine.typed fine.given in
      let rx = valued_gives shapes words stores first.ops first.given one.ops one.given in
      let r = others x.ops first.guards (grows_on base first.ops x.ops fine.grows fx.grows) fx.typed (guards_on shapes.widths words first.ops x.ops fx.grows first.guards fine.guards) rx.ops one.guards in
      record { ops = r.ops; guards = r.guards; operands = (rx.near, r.operands); many = ap suc r.many }

  -- ---- variables

  pub held_near : (outs : List Out) (variable : VarId) → OutsAreNear outs → IsNear (held outs variable)
  held_near [] variable h = refl
  held_near (x ∷ xs) variable h = either (x.variable.0 == variable.0) (held_near xs variable h.1) where
    either : (c : Bool) → IsNear (held xs variable) → IsNear (if c then x.value else held xs variable)
    either true n = h.0
    either false n = n

-- ---- expressions

pub lengths_same : (arrays : List ArrayTree) (i : ℕ) → get_or (map (λ (a : ArrayTree). a.lengths) arrays) i [] ≡ lengths_in (slice_get arrays i)
lengths_same [] i = refl
lengths_same (a ∷ as_) zero = refl
lengths_same (a ∷ as_) (suc i) = lengths_same as_ i

module _ (scope : Scope) (stores : Bool) where
  abbrev At : List OpTree → List Guard → Type 0
  At ops gs = OpsAreTyped (widths_of scope) (words_of scope) [] ops × GuardsTyped (widths_of scope) (words_of scope) ops gs

  pub access_sound : (op : OpTree) (array : ArrayId) (n m : ℕ) → op.array ≡ Some array → n ≡ m → HasDimensions scope.arrays array m → (flagged_ : _) → IsSoundAccess (shapes_in scope) (record op { flag = Some flagged_ }) n
  access_sound op array n m e q has at = record {
    flagged = refl;
    subscripted = λ a p.
        let s : array ≡ a = some_same (sym e ∙ p) in
        let d : length (dims_of (shapes_in scope) a) ≡ length (lengths_in (slice_get scope.arrays array.0)) = ap length (lengths_same scope.arrays a.0) ∙ sym (ap (λ (z : ArrayId). length (lengths_in (slice_get scope.arrays z.0))) s) in
        let f : length (lengths_in (slice_get scope.arrays array.0)) ≡ length has.0.lengths = ap (λ x. length (lengths_in x)) has.1 in
        let l = has.2 in
        omega (arith, q, l, d, f);
  } where
    some_same : {A : Type 0} {x y : A} → Some x ≡ Some y → x ≡ y
    some_same h = cc

  mutual
    pub emitted_ready : (outs : List Out) (x : PureTree) (ops : List OpTree) (gs : List Guard) → PureSuits scope x → SubscriptsFit scope.arrays x → OutsAreTyped (widths_of scope) (words_of scope) ops outs → OutsAreNear outs → At ops gs
        → Ready (shapes_in scope) (words_of scope) stores ops → GuardsAreNear (shapes_in scope) (words_of scope) stores gs → EvalReady (shapes_in scope) (words_of scope) stores (emitted outs x ops gs)
    emitted_ready outs (tree.number w k) ops gs z s ot n t h g = record { ops = h; guards = g; given = refl }
    emitted_ready outs (tree.variable name k) ops gs z s ot n t h g = record { ops = h; guards = g; given = held_near (shapes_in scope) (words_of scope) stores outs name n }
    emitted_ready outs (tree.element array subs k at) ops gs z s ot n t h g =
        let r = emitted_all outs subs ops gs in
        let f = emitted_all_fine scope outs subs ops gs z.1 ot t.0 t.1 in
        let y = emitted_all_ready outs subs ops gs z.1 s.1 ot n t h g in
        under_guard_ready (shapes_in scope) (words_of scope) stores r.ops r.guards k (flagged o.Load false (width k) r.operands (Some array) at) f.typed f.guards y.ops y.guards
        (λ before bit e b. record { args = y.operands; guard = b; few = tt; kind = access_sound (flagged o.Load false (width k) r.operands (Some array) at bit) array (length r.operands) (count subs) refl y.many s.0 at })
    emitted_ready outs (tree.unary f arg k at) ops gs z s ot n t h g =
        unary_ready (shapes_in scope) (words_of scope) stores ops (emitted outs arg ops gs) (emitted_fine scope outs arg ops gs z ot t.0 t.1) (emitted_ready outs arg ops gs z s ot n t h g) f k at
    emitted_ready outs (tree.binary f left right k at) ops gs z s ot n t h g =
        binary_ready (shapes_in scope) (words_of scope) stores ops (emitted outs left ops gs) (emitted_fine scope outs left ops gs z.0 ot t.0 t.1) (emitted_ready outs left ops gs z.0 s.0 ot n t h g) f (kind right) k at (λ ops1 gs1. emitted outs right ops1 gs1)
        (λ ops1 gs1 e. emitted_fine scope outs right ops1 gs1 z.1 (outs_on (widths_of scope) (words_of scope) ops ops1 e outs ot))
        (λ ops1 gs1 e t1 gt1 h1 g1. emitted_ready outs right ops1 gs1 z.1 s.1 (outs_on (widths_of scope) (words_of scope) ops ops1 e outs ot) n (t1, gt1) h1 g1)
    emitted_ready outs (tree.choice test left right k) ops gs z s ot n t h g =
        choice_ready (shapes_in scope) (words_of scope) stores ops (emitted outs test ops gs) (emitted_fine scope outs test ops gs z.0 ot t.0 t.1) (emitted_ready outs test ops gs z.0 s.0 ot n t h g) k (λ ops1 gs1. emitted outs left ops1 gs1) (λ ops1 gs1. emitted outs right ops1 gs1)
        (λ ops1 gs1 e. emitted_fine scope outs left ops1 gs1 z.1 (outs_on (widths_of scope) (words_of scope) ops ops1 e outs ot))
        (λ ops1 gs1 e t1 gt1 h1 g1. emitted_ready outs left ops1 gs1 z.1 s.1 (outs_on (widths_of scope) (words_of scope) ops ops1 e outs ot) n (t1, gt1) h1 g1)
        (λ ops1 gs1 e t1 gt1 h1 g1. emitted_ready outs right ops1 gs1 z.2 s.2 (outs_on (widths_of scope) (words_of scope) ops ops1 e outs ot) n (t1, gt1) h1 g1)
    emitted_ready outs (tree.cast to arg) ops gs z s ot n t h g =
        cast_ready (shapes_in scope) (words_of scope) stores ops (emitted outs arg ops gs) (emitted_fine scope outs arg ops gs z ot t.0 t.1) (emitted_ready outs arg ops gs z s ot n t h g) to

    pub emitted_all_ready : (outs : List Out) (xs : PureTrees) (ops : List OpTree) (gs : List Guard) → EachSuits scope xs → AllSubscriptsFit scope.arrays xs → OutsAreTyped (widths_of scope) (words_of scope) ops outs → OutsAreNear outs → At ops gs
        → Ready (shapes_in scope) (words_of scope) stores ops → GuardsAreNear (shapes_in scope) (words_of scope) stores gs → RowReady (shapes_in scope) (words_of scope) stores (count xs) (emitted_all outs xs ops gs)
    emitted_all_ready outs tree.none ops gs z s ot n t h g = record { ops = h; guards = g; operands = tt; many = refl }
    emitted_all_ready outs (tree.more first rest) ops gs z s ot n t h g =
        subscript_ready (shapes_in scope) (words_of scope) stores ops (count rest) (emitted outs first ops gs) (λ ops1 gs1. emitted_all outs rest ops1 gs1) (emitted_fine scope outs first ops gs z.0 ot t.0 t.1) (emitted_ready outs first ops gs z.0 s.0 ot n t h g)
        (λ ops1 gs1 e t1 gt1 h1 g1. emitted_all_ready outs rest ops1 gs1 z.1 s.1 (outs_on (widths_of scope) (words_of scope) ops ops1 e outs ot) n (t1, gt1) h1 g1)
