use Rattle.std.proofs.Common.{◌<◌, ◌+◌, List, length, map, slice_index, sym, ap, ◌∙◌, subst}
use Rattle.std.specs.List.{enumerate_from}
use Rattle.std.proofs.lemmas.List.{take_all}
use Rattle.hls_base.specs.declared.number.VarId.{VarId}
use Rattle.rtl_logic.specs.Making.{circuit}
use Rattle.datapath.specs.Cycles.{Cycle}
use Rattle.datapath.specs.Control.{is_taken}
use Rattle.circuit_context.specs.Wanted.Entries.{parameter_entry}
use Rattle.circuit_context.specs.Wanted.Logs.{CarriesSome}
use Rattle.fsm_datapath.proofs.Beginning.{argument_carries}
use Rattle.fsm_datapath.proofs.Listing.{logs_as, logs_numbered}
use Rattle.fsm_datapath.proofs.beginnings.write_arguments.Goals as goal

pub loop-number-preserved : goal.loop-number-preserved
loop-number-preserved c = λ p names h begun are taken.
    let d = circuit c.args.logic.now in
    let k = c.loop-number.number in
    let low : k < length p.parameters = subst (λ (vs : List VarId). k < length vs) are c.loop-number-test.true in
    let value : CarriesSome p names d c.argument-value.result (λ (x : Cycle). slice_index x.pins (7 + k)) =
    subst (λ a. CarriesSome p names d a (λ (x : Cycle). slice_index x.pins (7 + k))) (sym c.argument-value.ensures) (argument_carries p names d k begun low) in
    logs_numbered p names d d d _ _ _ parameter_entry c.args.variables.now k _ c.loop-number-test.true (c.loop-number.invariant p names h begun are taken)
    (c.in_ok-take.ensures p names is_taken (λ (x : Cycle). slice_index x.pins (7 + k)) h begun taken value)

pub returns : goal.returns
returns c = λ p names h begun are taken.
    let d = circuit c.args.logic.now in
    logs_as p names d d _ _ _ _ (ap (λ (vs : List VarId). map parameter_entry (enumerate_from 0 vs)) (take_all c.loop-number.number c.args.variables.now c.loop-number-test.false ∙ are))
    (c.loop-number.invariant p names h begun are taken)
