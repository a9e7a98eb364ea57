use Rattle.std.proofs.Common.{◌++◌}
use Rattle.std.proofs.lemmas.Result.{on_ok_weaker}
use Rattle.rtl_logic.specs.Making.{circuit}
use Rattle.rtl_logic.proofs.Making.{appended, goes_on}
use Rattle.circuit_context.specs.Wanted.Entries.{all_exits, all_beginnings, all_places, all_ends}
use Rattle.circuit_context.proofs.WantedLemmas.Joining.{logs_then}
use Rattle.fsm_datapath.proofs.Composing.{computed_later, answers_later}
use Rattle.fsm_datapath.proofs.parts.write_moves.Goals as goal

pub returns : goal.returns
returns c = λ p names context begun computed answers.
    let d = circuit c.args.logic.now in
    let d1 = circuit c.write_exits.new.logic in
    let d2 = circuit c.write_beginnings.new.logic in
    let d3 = circuit c.write_places.new.logic in
    let d4 = circuit c.write_ends.new.logic in
    let l0 = c.args.log.now.pushes.items in
    let l1 = c.write_exits.new.log.pushes.items in
    let l2 = c.write_beginnings.new.log.pushes.items in
    let l3 = c.write_places.new.log.pushes.items in
    let l4 = c.write_ends.new.log.pushes.items in
    let exits = c.in_ok-write_exits.ensures p names context begun in
    let beginnings = c.in_ok-write_beginnings.ensures p names context exits.begun in
    let to2 = goes_on d d1 d2 (appended d d1 exits.appends) (appended d1 d2 beginnings.appends) in
    let places = c.in_ok-write_places.ensures p names context beginnings.begun (computed_later p names d d2 c.args.parts.now.computed to2 computed) (answers_later p names d d2 c.args.parts.now.units to2 answers) in
    let to3 = goes_on d d2 d3 to2 (appended d2 d3 places.appends) in
    on_ok_weaker c.write_ends.result
    (λ ends. logs_then p names d d1 d4 l0 l1 l4 (all_exits p) (all_beginnings p ++ (all_places p ++ all_ends p)) exits
    (logs_then p names d1 d2 d4 l1 l2 l4 (all_beginnings p) (all_places p ++ all_ends p) beginnings (logs_then p names d2 d3 d4 l2 l3 l4 (all_places p) (all_ends p) places ends)))
    (c.write_ends.ensures p names context places.begun (computed_later p names d d3 c.args.parts.now.computed to3 computed) (answers_later p names d d3 c.args.parts.now.units to3 answers))
