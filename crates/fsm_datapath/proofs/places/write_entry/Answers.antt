use Rattle.std.proofs.Common.{refl, sym, subst}
use Rattle.std.proofs.lemmas.Result.{on_ok_weaker}
use Rattle.rtl_logic.specs.Making.{circuit}
use Rattle.datapath.specs.Cycles.{Cycle, Load, Variable, holds}
use Rattle.fsm_datapath.proofs.Listing.{logs_as}
use Rattle.circuit_context.specs.Wanted.Logs.{Logs}
use Rattle.circuit_context.specs.Wanted.Entries.{load_entries}
use Rattle.circuit_context.proofs.WantedLemmas.Joining.{logs_none}
use Rattle.fsm_datapath.specs.Steps.{number_of}
use Rattle.fsm_datapath.proofs.Placing.{loaded, loads_no_more}
use Rattle.fsm_datapath.proofs.Pushing.{in_bank, holds_tells, register_carries}
use Rattle.fsm_datapath.proofs.places.write_entry.Goals as goal

pub returns-in_ok-value-in-Some : goal.returns-in_ok-value-in-Some
returns-in_ok-value-in-Some c = λ p names h begun.
    let d = circuit c.args.logic.now in
    let load = Load c.args.held.node.0 in
    let variable = Variable c.in-Some.variable.0 in
    let when = holds_tells p names d c.in_ok-when-in-Some.when load begun refl (in_bank p names c.args.of.now c.in_ok-when-in-Some.when load h c.in_ok-when-in-Some.ensures) in
    let value = register_carries p names d c.in_ok-value-in-Some.value variable begun (in_bank p names c.args.of.now c.in_ok-value-in-Some.value variable h c.in_ok-value-in-Some.ensures) in
    on_ok_weaker c.take.result (logs_as p names d d _ _ _ _ (loaded c.args.held c.args.entry c.in-Some.variable c.in-Some.is c.if-held-eq0.true))
    (c.take.ensures p names (λ (x : Cycle). holds x load) (λ (x : Cycle). x.regs variable) h begun when value)

pub returns-in_default : goal.returns-in_default
returns-in_default c = λ p names h begun.
    let d = circuit c.args.logic.now in
    let l = c.args.log.now.pushes.items in
    subst (Logs p names d d l l) (sym (loads_no_more c.args.held c.args.entry c.in-Some.variable c.in-Some.is c.if-held-eq0.false)) (logs_none p names d l begun)

pub returns-in_default-2 : goal.returns-in_default-2
returns-in_default-2 c = λ p names h begun.
    let d = circuit c.args.logic.now in
    let l = c.args.log.now.pushes.items in
    subst (λ e. Logs p names d d l l (load_entries c.args.held (number_of e))) (sym c.in_default.is) (logs_none p names d l begun)
