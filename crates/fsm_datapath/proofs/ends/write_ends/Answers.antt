use Rattle.std.proofs.Common.{◌≡◌, ◌<◌, ◌≤◌, ℕ, List, length, get_or, slice_get, Some, None, ap, ◌∙◌, subst, arith}
use Rattle.std.specs.List.{flat_map, enumerate_from}
use Rattle.std.proofs.lemmas.List.{take_all}
use Rattle.std.proofs.lemmas.Option.{slice_get-get_or}
use Rattle.ir_core.specs.declared.cfg.End.TheVariants as end
use Rattle.clock_ir.specs.ClockRuns.{TimedNode, block}
use Rattle.rtl_logic.specs.Making.{circuit}
use Rattle.rtl_logic.proofs.Making.{appended}
use Rattle.datapath.specs.Plans.{no_body}
use Rattle.circuit_context.specs.Wanted.Entries.{end_entries}
use Rattle.circuit_context.specs.Wanted.Logs.{Logs}
use Rattle.fsm_datapath.proofs.Listing.{logs_as, logs_numbered_flat}
use Rattle.fsm_datapath.proofs.Pushing.{computed_on, answers_on}
use Rattle.fsm_datapath.proofs.Standing.{node_count}
use Rattle.fsm_datapath.proofs.ends.write_ends.Goals as goal

pub named-requires : goal.named-requires
named-requires c = omega (arith, c.loop-number-test.true, c.len-number-end.ensures, c.args.of.now.few.nodes)

pub loop-number-preserved : goal.loop-number-preserved
loop-number-preserved c = λ p names h begun computed answers.
    let d = circuit c.args.logic.now in
    let e = circuit c.loop-number.logic in
    let f = circuit c.write_node.new.logic in
    let k = c.loop-number.number in
    let nodes = p.program.nodes in
    let n : TimedNode = get_or nodes k (block no_body (end.Return None)) in
    let low : k < length nodes = omega (arith, c.loop-number-test.true, c.len-number-end.ensures, node_count p names c.args.of.now h) in
    let at : slice_get nodes k ≡ Some n = slice_get-get_or nodes k (block no_body (end.Return None)) low in
    let before = c.loop-number.invariant p names h begun computed answers in
    let longer = appended d e before.appends in
    let named : c.named.result.0 ≡ k = c.named.ensures in
    let one = c.in_ok-write_node.ensures p names n h before.begun (computed_on p names d e c.args.sources.now.computed.now longer computed) (answers_on p names d e c.args.sources.now.units.now longer answers)
    (ap (slice_get nodes) named ∙ at) in
    logs_numbered_flat p names d e f _ _ _ (end_entries p) nodes k n at before (subst (λ (j : ℕ). Logs p names e f c.loop-number.log.pushes.items c.write_node.new.log.pushes.items (end_entries p (j, n))) named one)

pub returns : goal.returns
returns c = λ p names h begun computed answers.
    let past : length p.program.nodes ≤ c.loop-number.number = omega (arith, c.loop-number-test.false, c.len-number-end.ensures, node_count p names c.args.of.now h) in
    logs_as p names _ _ _ _ _ _ (ap (λ (ns : List TimedNode). flat_map (end_entries p) (enumerate_from 0 ns)) (take_all c.loop-number.number p.program.nodes past))
    (c.loop-number.invariant p names h begun computed answers)
