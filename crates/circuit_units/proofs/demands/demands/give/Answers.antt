use Rattle.std.proofs.Common.{sym, subst}
use Rattle.rtl_logic.specs.Making.{circuit}
use Rattle.circuit_context.specs.Wanted.Logs.{Logs}
use Rattle.circuit_context.proofs.WantedLemmas.Joining.{logs_none}
use Rattle.circuit_units.specs.Demands.Placing.{placed_as}
use Rattle.circuit_units.proofs.DemandsLemmas.Owning.{has_wire, no_entries}
use Rattle.circuit_units.proofs.demands.demands.give.Goals as goal

pub returns-in_default : goal.returns-in_default
returns-in_default c = λ p names context begun there.
    let d = circuit c.args.logic.now in
    let l = c.args.log.now.pushes.items in
    let it = c.args.it.now in
    let none = c.in_default in
    let wire = has_wire it.op.now.kind none.not-Mul none.not-Div none.not-Rem none.not-Load none.not-Store in
    subst (Logs p names d d l l) (sym (no_entries it.op.now.kind wire p it.op.now.array (placed_as it))) (logs_none p names d l begun)
