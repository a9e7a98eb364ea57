use Rattle.std.proofs.Common.{◌≡◌, ℕ, IfOk, refl, sym, subst}
use Rattle.std.proofs.lemmas.Result.{IfOk-weaker}
use Rattle.ir_core.specs.declared.body.OpKind.{OpKind}
use Rattle.ir_core.specs.declared.body.OpKind.TheVariants as o
use Rattle.rtl_core.specs.ClockStep.{widths}
use Rattle.rtl_core.specs.Valid.{IsBetween}
use Rattle.rtl_logic.specs.Making.{circuit, IsSound}
use Rattle.rtl_logic.specs.Arguments.{AreArguments}
use Rattle.rtl_logic.proofs.Giving.{Gives, left_given, equal_given, not_given, negative_given, chosen_given, narrow_given, copy_given}
use Rattle.rtl_logic.proofs.Steps.{wide, constant_fits}
use Rattle.rtl_logic.proofs.operations.value_of.Goals as goal

pub returns-in-Shl : goal.returns-in-Shl
returns-in-Shl c = λ from sound between args.
    let d = circuit c.args.logic.now in
    let e = circuit c.two.new.self in
    let n = c.args.op.now.bits in
    let of = c.args.of in
    let signed = c.args.op.now.signed in
    subst (λ k. AreArguments (widths d) k n from of → IfOk c.two.result (Gives d e signed n from of k)) (sym c.in-Shl.is)
    (λ h. IfOk-weaker c.two.result _ _ (λ a made. left_given d e signed n from of a between.1 made) (c.two.ensures sound (wide n between) (h.0, (n, h.1)))) args

pub returns-in-Shr : goal.returns-in-Shr
returns-in-Shr c = λ from sound between args.
    let d = circuit c.args.logic.now in
    let e = circuit c.shifted_right.new.logic in
    let n = c.args.op.now.bits in
    let of = c.args.of in
    let signed = c.args.op.now.signed in
    subst (λ k. AreArguments (widths d) k n from of → IfOk c.shifted_right.result (Gives d e signed n from of k)) (sym c.in-Shr.is)
    (λ h. IfOk-weaker c.shifted_right.result _ _ (λ a made. made) (c.shifted_right.ensures n sound between h.0 h.1)) args

pub returns-in-Eq : goal.returns-in-Eq
returns-in-Eq c = λ from sound between args.
    let d = circuit c.args.logic.now in
    let e = circuit c.equal.new.self in
    let n = c.args.op.now.bits in
    let of = c.args.of in
    let signed = c.args.op.now.signed in
    subst (λ k. AreArguments (widths d) k n from of → IfOk c.equal.result (Gives d e signed n from of k)) (sym c.in-Eq.is)
    (λ h. IfOk-weaker c.equal.result _ _ (λ a made. equal_given d e signed n from of a between.1 made) (c.equal.ensures n sound h.0 h.1)) args

pub returns-in-Ne : goal.returns-in-Ne
returns-in-Ne c = λ from sound between args.
    let d = circuit c.args.logic.now in
    let e = circuit c.differs.new.logic in
    let n = c.args.op.now.bits in
    let of = c.args.of in
    let signed = c.args.op.now.signed in
    subst (λ k. AreArguments (widths d) k n from of → IfOk c.differs.result (Gives d e signed n from of k)) (sym c.in-Ne.is)
    (λ h. IfOk-weaker c.differs.result _ _ (λ a made. made) (c.differs.ensures n sound h.0 h.1)) args

pub returns-in-Not : goal.returns-in-Not
returns-in-Not c = λ from sound between args.
    let d = circuit c.args.logic.now in
    let e = circuit c.not.new.self in
    let n = c.args.op.now.bits in
    let of = c.args.of in
    let signed = c.args.op.now.signed in
    subst (λ k. AreArguments (widths d) k n from of → IfOk c.not.result (Gives d e signed n from of k)) (sym c.in-Not.is)
    (λ h. IfOk-weaker c.not.result _ _ (λ a made. not_given d e signed n from of a between.1 h made) (c.not.ensures n sound (wide n between) h)) args

pub returns-in-Neg : goal.returns-in-Neg
returns-in-Neg c = λ from sound between args.
    let d = circuit c.args.logic.now in
    let e = circuit c.two-in-Neg.new.self in
    let n = c.args.op.now.bits in
    let of = c.args.of in
    let signed = c.args.op.now.signed in
    subst (λ k. AreArguments (widths d) k n from of → IfOk c.two-in-Neg.result (Gives d e signed n from of k)) (sym c.in-Neg.is)
    (λ h. IfOk-weaker c.two-in-Neg.result _ _ (λ a made. negative_given d e signed n from of a between.1 c.constant.result c.constant.ensures h made) (c.two-in-Neg.ensures sound (wide n between) (constant_fits d n 0 c.constant.result (wide n between) c.constant.ensures, h))) args

pub returns-in-Truth : goal.returns-in-Truth
returns-in-Truth c = λ from sound between args.
    let d = circuit c.args.logic.now in
    let e = circuit c.is_true.new.logic in
    let n = c.args.op.now.bits in
    let of = c.args.of in
    let signed = c.args.op.now.signed in
    subst (λ k. AreArguments (widths d) k n from of → IfOk c.is_true.result (Gives d e signed n from of k)) (sym c.in-Truth.is)
    (λ h. IfOk-weaker c.is_true.result _ _ (λ a made. made) (c.is_true.ensures n sound between h)) args

pub returns-in-Select : goal.returns-in-Select
returns-in-Select c = λ from sound between args.
    let d = circuit c.args.logic.now in
    let e = circuit c.pick.new.self in
    let n = c.args.op.now.bits in
    let of = c.args.of in
    let signed = c.args.op.now.signed in
    subst (λ k. AreArguments (widths d) k n from of → IfOk c.pick.result (Gives d e signed n from of k)) (sym c.in-Select.is)
    (λ h. IfOk-weaker c.pick.result _ _ (λ a made. chosen_given d e signed n from of a between.1 h.0 h.1 h.2 made) (c.pick.ensures n sound (wide n between) h.0 h.1 h.2)) args

pub returns-in-Widen : goal.returns-in-Widen
returns-in-Widen c = λ from sound between args.
    let d = circuit c.args.logic.now in
    let e = circuit c.widened.new.logic in
    let n = c.args.op.now.bits in
    let of = c.args.of in
    let signed = c.args.op.now.signed in
    subst (λ k. AreArguments (widths d) k n from of → IfOk c.widened.result (Gives d e signed n from of k)) (sym c.in-Widen.is)
    (λ h. IfOk-weaker c.widened.result _ _ (λ a made. made) (c.widened.ensures h.0 from sound h.2 between h.1 h.3)) args

pub returns-in-Narrow : goal.returns-in-Narrow
returns-in-Narrow c = λ from sound between args.
    let d = circuit c.args.logic.now in
    let e = circuit c.resized.new.self in
    let n = c.args.op.now.bits in
    let of = c.args.of in
    let signed = c.args.op.now.signed in
    subst (λ k. AreArguments (widths d) k n from of → IfOk c.resized.result (Gives d e signed n from of k)) (sym c.in-Narrow.is)
    (λ h. IfOk-weaker c.resized.result _ _ (λ a made. narrow_given d e signed n from of a between.1 made) (c.resized.ensures h.0 sound h.1 (wide h.0 h.2) (wide n between))) args

pub returns-in_default : goal.returns-in_default
returns-in_default c = λ from sound between args. by from sound between c.args.op.now.kind refl args where
  by : (from : ℕ) → IsSound (circuit c.args.logic.now) → IsBetween 1 64 c.args.op.now.bits → (k : OpKind) → c.args.op.now.kind ≡ k → AreArguments (widths (circuit c.args.logic.now)) k c.args.op.now.bits from c.args.of
      → Gives (circuit c.args.logic.now) (circuit c.args.logic.now) c.args.op.now.signed c.args.op.now.bits from c.args.of k c.args.of.first
  by from sound between o.Copy e h = copy_given (circuit c.args.logic.now) c.args.op.now.signed c.args.op.now.bits from c.args.of between.1 sound h
  by from sound between o.Mul e h = absurd h
  by from sound between o.Div e h = absurd h
  by from sound between o.Rem e h = absurd h
  by from sound between o.Load e h = absurd h
  by from sound between o.Store e h = absurd h
  by from sound between o.Add e h = absurd (c.in_default.not-Add e)
  by from sound between o.Sub e h = absurd (c.in_default.not-Sub e)
  by from sound between o.And e h = absurd (c.in_default.not-And e)
  by from sound between o.Or e h = absurd (c.in_default.not-Or e)
  by from sound between o.Xor e h = absurd (c.in_default.not-Xor e)
  by from sound between o.Shl e h = absurd (c.in_default.not-Shl e)
  by from sound between o.Shr e h = absurd (c.in_default.not-Shr e)
  by from sound between o.Eq e h = absurd (c.in_default.not-Eq e)
  by from sound between o.Ne e h = absurd (c.in_default.not-Ne e)
  by from sound between o.Lt e h = absurd (c.in_default.not-Lt e)
  by from sound between o.Le e h = absurd (c.in_default.not-Le e)
  by from sound between o.Not e h = absurd (c.in_default.not-Not e)
  by from sound between o.Neg e h = absurd (c.in_default.not-Neg e)
  by from sound between o.Select e h = absurd (c.in_default.not-Select e)
  by from sound between o.Widen e h = absurd (c.in_default.not-Widen e)
  by from sound between o.Narrow e h = absurd (c.in_default.not-Narrow e)
  by from sound between o.Truth e h = absurd (c.in_default.not-Truth e)
  by from sound between (o.Fused p) e h = absurd (c.in_default.not-Fused p e)
