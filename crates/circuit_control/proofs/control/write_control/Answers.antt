use Rattle.std.proofs.lemmas.Result.{on_ok_weaker}
use Rattle.rtl_logic.specs.Making.{circuit}
use Rattle.rtl_logic.proofs.Making.{appended}
use Rattle.circuit_context.specs.Wanted.Entries.{moves_of, initial_entries, time_entries}
use Rattle.circuit_context.proofs.WantedLemmas.Joining.{pushes_later, logs_then}
use Rattle.circuit_control.specs.Gathered.{states_of, waiting_of}
use Rattle.circuit_control.proofs.control.write_control.Goals as goal

pub returns : goal.returns
returns c = λ p names pushes context begun are holds_.
    let d = circuit c.args.logic.now in
    let e = circuit c.write_states.new.logic in
    let f = circuit c.write_waiting.new.logic in
    let g = circuit c.write_initial.new.logic in
    let h = circuit c.write_time.new.logic in
    let first = c.args.log.now.pushes.items in
    let second = c.write_states.new.log.pushes.items in
    let third = c.write_waiting.new.log.pushes.items in
    let fourth = c.write_initial.new.log.pushes.items in
    let last = c.write_time.new.log.pushes.items in
    let states = c.in_ok-write_states.ensures p names pushes context begun are holds_ in
    let waiting = c.in_ok-write_waiting.ensures p names pushes context states.begun (pushes_later p names d e pushes (moves_of p) (appended d e states.appends) are) holds_ in
    let initial = c.in_ok-write_initial.ensures p names context waiting.begun in
    on_ok_weaker c.write_time.result
    (λ time. logs_then p names d e h first second last (states_of p) _ states
    (logs_then p names e f h second third last (waiting_of p) _ waiting (logs_then p names f g h third fourth last (initial_entries p) (time_entries p) initial time))) (c.write_time.ensures p names context initial.begun)
