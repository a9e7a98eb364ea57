use Rattle.std.proofs.Common.{◌∙◌, false, sym, ap}
use Rattle.std.specs.Prelude.{if◌then◌else◌}
use Rattle.std.proofs.lemmas.Bool.{lt-ltb, le-ltb}
use Rattle.std.proofs.lemmas.Result.{IfOk-weaker}
use Rattle.datapath.specs.Plans.{Plan}
use Rattle.datapath.specs.Values as values
use Rattle.fsm_datapath.proofs.places.is_free.Goals as goal

pub returns-then-held-entries : goal.returns-then-held-entries
returns-then-held-entries c = λ p names h. sym (ap (λ b. if b then false else values.is_alone p c.args.held) (lt-ltb c.args.held.place c.args.entries c.if-held-entries.true))

pub returns : goal.returns
returns c = λ p names h.
    IfOk-weaker c.is_alone.result _ _
    (λ r is. is
    ∙ (sym (ap (λ (q : Plan). values.is_alone q c.args.held) h.plan) ∙ sym (ap (λ b. if b then false else values.is_alone p c.args.held) (le-ltb c.args.held.place c.args.entries c.if-held-entries.false))))
    (c.is_alone.ensures c.args.of.now.registers.now.held.items h.places_)
