use Rattle.std.proofs.Common.{Some, inl, ap, sym, ◌∙◌}
use Rattle.std.proofs.lemmas.Result.{IfOk-weaker}
use Rattle.rtl_logic.specs.Making.{circuit}
use Rattle.datapath.specs.Ports.{is_load}
use Rattle.circuit_units.proofs.DemandsLemmas.Pushing.{load_logged}
use Rattle.circuit_units.proofs.DemandsLemmas.Accessing.{load_array}
use Rattle.circuit_units.proofs.demands.accesses.give_load.Goals as goal

pub returns : goal.returns
returns c = λ p names context begun there kind.
    let port = c.port_used-port.ensures.port p names context there (inl (ap is_load kind)) c.in-Some.is in
    let first = c.in_ok-give_address.ensures p names context begun port in
    IfOk-weaker c.give_refusal.result _ _
    (λ u second.
    load_logged p names (circuit c.args.logic.now) (circuit c.give_address.new.logic) (circuit c.give_refusal.new.logic) c.args.log.now.pushes.items c.give_address.new.log.pushes.items
    c.give_refusal.new.log.pushes.items c.args.it.now c.port_used-port.result port first second)
    (c.give_refusal.ensures p names context first.begun port)

pub give_address-requires-clause-access : goal.give_address-requires-clause-access
give_address-requires-clause-access c = record { kind = inl c.requires.kind; array_ = c.in-Some.is ∙ ap Some (sym c.port_used-port.ensures.array) }

pub unreachable-requires : goal.unreachable-requires
unreachable-requires c = let there = load_array c.args.of.now c.args.it.now c.requires.program c.requires.kind in c.in_default.not-Some there.array there.named
