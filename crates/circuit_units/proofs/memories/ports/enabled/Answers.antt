use Rattle.std.proofs.Common.{◌≡◌, ◌∙◌, ◌++◌, ◌∷◌, [], None, ap, subst, arith}
use Rattle.std.specs.Prelude.{◌||◌, not}
use Rattle.std.proofs.lemmas.Result.{IfOk-weaker}
use Rattle.rtl_core.specs.declared.design.Atom.TheVariants as atom
use Rattle.rtl_logic.specs.Making.{circuit}
use Rattle.rtl_logic.specs.Choosing.{is_any_wanted}
use Rattle.rtl_logic.proofs.Making.{appended, appends_both}
use Rattle.datapath.specs.Cycles.{resets}
use Rattle.datapath.specs.CircuitWires.Carrying.{Tells, MakesTelling}
use Rattle.datapath.proofs.Combining.{carries_on, and_tells, not_tells}
use Rattle.circuit_units.specs.Memories.Places.{TellsIfAny}
use Rattle.circuit_units.proofs.MemoriesLemmas.Chosen.{whens, any_tells, any_tells_or, bits_fit, bits_fit_more, reset_tells}
use Rattle.circuit_units.proofs.MemoriesLemmas.Outer.{makes_behind}
use Rattle.circuit_units.proofs.memories.ports.enabled.Goals as goal
use Rattle.circuit_units.proofs.memories.ports.enabled.Goals.{in-Some+in_ok-push, in_default}

pub returns : goal.returns
returns c = λ p names bits writes other begun h outside.
    let d = circuit c.args.logic.now in
    let e = circuit c.any.new.self in
    let f = circuit c.not.new.self in
    let atoms = c.deref.result.now in
    let choices = c.args.choices.now in
    let any : MakesTelling p names d e c.in_ok-enable.enable (λ x. is_any_wanted (writes x) || other x) =
    elim c.match-outside.branch [
      | in-Some+in_ok-push w ↦
          let one : Tells p names d w.in-Some.enable other = subst (λ o. TellsIfAny p names d o other) w.in-Some.is outside in
          let is : atoms ≡ whens choices ++ w.in-Some.enable ∷ [] = c.deref.ensures.value ∙ (ap (λ v. v.items) w.bits-is ∙ (w.in_ok-push.ensures.items ∙ ap (λ l. l ++ w.in-Some.enable ∷ []) c.in_ok-bits.ensures)) in
          any_tells_or p names d e bits choices writes other atoms w.in-Some.enable c.in_ok-enable.enable begun h one is
          (c.in_ok-enable.ensures begun.sound (bits_fit_more d bits choices atoms w.in-Some.enable h.fit one.fits is))
      | in_default w ↦
          let none : TellsIfAny p names d None other = subst (λ o. TellsIfAny p names d o other) w.in_default.is outside in
          let is : atoms ≡ whens choices = c.deref.ensures.value ∙ (ap (λ v. v.items) w.bits-is ∙ c.in_ok-bits.ensures) in
          any_tells p names d e bits choices writes other atoms c.in_ok-enable.enable begun h none is (c.in_ok-enable.ensures begun.sound (bits_fit d bits choices atoms h.fit is))
    ] in
    let begun_e = any.begun in
    let reset = reset_tells p names e begun_e in
    let against = not_tells p names e f (atom.Input 0) c.in_ok-no_reset.no_reset resets begun_e reset (c.in_ok-no_reset.ensures 1 begun_e.sound (omega arith, omega arith) reset.fits) in
    let enable = carries_on p names e f 1 c.in_ok-enable.enable _ (appended e f against.appends) any.carries in
    IfOk-weaker c.and.result _ _ (λ a made.
    makes_behind p names d f (circuit c.and.new.self) 1 a _ (appends_both d e f any.appends against.appends)
    (and_tells p names f (circuit c.and.new.self) c.in_ok-enable.enable c.in_ok-no_reset.no_reset a (λ x. is_any_wanted (writes x) || other x) (λ x. not (resets x)) against.begun enable against.carries made))
    (c.and.ensures against.begun.sound enable.fits against.carries.fits)
