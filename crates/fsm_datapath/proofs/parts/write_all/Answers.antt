use Rattle.std.proofs.Common.{◌++◌, subst}
use Rattle.std.proofs.lemmas.Result.{on_ok_weaker}
use Rattle.rtl_logic.specs.Making.{circuit}
use Rattle.rtl_logic.proofs.Making.{appended}
use Rattle.circuit_context.specs.Wanted.Entries.{moves_of, loop_entries, control_entries, named_entries, all_entries}
use Rattle.circuit_context.specs.Wanted.Logs.{Logs}
use Rattle.circuit_context.proofs.WantedLemmas.Joining.{logs_then, pushes_later}
use Rattle.fsm_datapath.proofs.Composing.{all_pushed}
use Rattle.fsm_datapath.proofs.parts.write_all.Goals as goal

pub returns : goal.returns
returns c = λ p names none context begun roles computed answers.
    let gates = c.args.of.now.bank.gates in
    let stages = c.args.of.now.bank.stages in
    let d = circuit c.args.logic.now in
    let d1 = circuit c.write_moves.new.logic in
    let d2 = circuit c.write_loops.new.logic in
    let d3 = circuit c.write_control.new.logic in
    let d4 = circuit c.write_named.new.logic in
    let l0 = c.args.log.now.pushes.items in
    let l1 = c.write_moves.new.log.pushes.items in
    let l2 = c.write_loops.new.log.pushes.items in
    let l3 = c.write_control.new.log.pushes.items in
    let l4 = c.write_named.new.log.pushes.items in
    let moves = c.in_ok-write_moves.ensures p names context begun computed answers in
    let pushed = all_pushed p names d d1 l0 l1 (moves_of p) none moves in
    let groups = c.in_ok-groups.ensures in
    let loops = c.in_ok-write_loops.ensures p names l1 context moves.begun roles pushed groups in
    let control = c.in_ok-write_control.ensures p names l1 context loops.begun (pushes_later p names d1 d2 l1 (moves_of p) (appended d1 d2 loops.appends) pushed) groups in
    on_ok_weaker c.write_named.result
    (λ host. subst (λ l. Logs p names d d4 l l4 (all_entries p gates stages)) none
    (logs_then p names d d1 d4 l0 l1 l4 (moves_of p) (loop_entries p gates stages ++ (control_entries p ++ named_entries p)) moves
    (logs_then p names d1 d2 d4 l1 l2 l4 (loop_entries p gates stages) (control_entries p ++ named_entries p) loops (logs_then p names d2 d3 d4 l2 l3 l4 (control_entries p) (named_entries p) control host))))
    (c.write_named.ensures p names context control.begun)
