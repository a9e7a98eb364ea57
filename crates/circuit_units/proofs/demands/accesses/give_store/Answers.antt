use Rattle.std.proofs.Common.{◌≡◌, Option, Some, None, inr, refl, sym, ap, subst, ◌∙◌}
use Rattle.std.proofs.lemmas.Result.{IfOk-weaker}
use Rattle.rtl_logic.specs.Making.{circuit}
use Rattle.datapath.specs.Ports.{is_store}
use Rattle.circuit_units.proofs.DemandsLemmas.Pushing.{store_logged}
use Rattle.hls_base.specs.declared.number.ArrayId.{ArrayId}
use Rattle.ir_core.specs.declared.body.OpKind.TheVariants as o
use Rattle.circuit_context.specs.Wanted.Entries.{entries_as}
use Rattle.circuit_context.specs.Wanted.Logs.{Logs}
use Rattle.circuit_context.proofs.WantedLemmas.Joining.{logs_none}
use Rattle.circuit_units.specs.Demands.Placing.{placed_as}
use Rattle.circuit_units.proofs.demands.accesses.give_store.Goals as goal

pub returns : goal.returns
returns c = λ p names context begun there kind.
    let port = c.port_used-port.ensures.port p names context there (inr (ap is_store kind)) c.in-Some.is in
    let first = c.in_ok-give_address.ensures p names context begun port in
    IfOk-weaker c.give_word.result _ _
    (λ u second.
    store_logged p names (circuit c.args.logic.now) (circuit c.give_address.new.logic) (circuit c.give_word.new.logic) c.args.log.now.pushes.items c.give_address.new.log.pushes.items
    c.give_word.new.log.pushes.items c.args.it.now c.port_used-port.result port first second)
    (c.give_word.ensures p names context first.begun there port)

not_some : {A : Type 0} (x : Option A) → ((a : A) → x ≡ Some a → ⊥) → x ≡ None
not_some None h = refl
not_some (Some a) h = absurd (h a refl)

pub returns-in_default : goal.returns-in_default
returns-in_default c = λ p names context begun there kind.
    let d = circuit c.args.logic.now in
    let l = c.args.log.now.pushes.items in
    let none = not_some c.args.it.now.op.now.array c.in_default.not-Some in
    subst (λ (q : Option ArrayId). Logs p names d d l l (entries_as p o.Store q (placed_as c.args.it.now))) (sym none) (logs_none p names d l begun)

pub give_address-requires-clause-access : goal.give_address-requires-clause-access
give_address-requires-clause-access c = record { kind = inr c.requires.kind; array_ = c.in-Some.is ∙ ap Some (sym c.port_used-port.ensures.array) }

pub give_word-requires-clause-access : goal.give_word-requires-clause-access
give_word-requires-clause-access c = record { kind = inr c.requires.kind; array_ = c.in-Some.is ∙ ap Some (sym c.port_used-port.ensures.array) }
