use Rattle.std.proofs.Common.{◌≡◌, List, sym, subst, ◌∙◌}
use Rattle.std.specs.List.{All}
use Rattle.std.proofs.lemmas.Result.{IfOk-weaker}
use Rattle.rtl_core.specs.declared.design.Atom.{Atom}
use Rattle.rtl_core.specs.ClockStep.{widths, bit_of}
use Rattle.rtl_core.specs.Valid.{HasBits}
use Rattle.rtl_logic.specs.Making.{circuit, Makes}
use Rattle.rtl_logic.specs.Choosing.{is_any}
use Rattle.circuit_context.specs.declared.wanted.role.Target.TheVariants as t
use Rattle.circuit_units.proofs.UnitsLemmas.Demands.{left_bits}
use Rattle.circuit_units.proofs.UnitsLemmas.Adding.{starts_made, choices_are, whens_fit}
use Rattle.circuit_units.proofs.units.units.starts.Goals as goal

pub returns : goal.returns
returns c = λ p names h.
    let d = circuit c.args.logic.now in
    let e = circuit c.any.new.self in
    let groups = c.args.groups.now in
    let choices = c.choices.result.now in
    let unit = c.args.unit in
    let whens = c.deref.ensures.value ∙ c.in_ok-whens.ensures in
    let fit = whens_fit d unit.bits choices (choices_are p names d groups (t.Left unit) choices unit.bits h c.choices.ensures (left_bits p unit)) in
    IfOk-weaker c.any.result _ _ (λ a made. starts_made p names d e groups unit choices a h c.choices.ensures (subst (λ (l : List Atom). Makes d e 1 a (λ v x. x ≡ bit_of (is_any v l))) whens made))
    (c.any.ensures h.begun.sound (subst (All (HasBits (widths d) 1)) (sym whens) fit))
