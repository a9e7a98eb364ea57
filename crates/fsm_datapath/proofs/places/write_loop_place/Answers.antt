use Rattle.std.proofs.Common.{◌++◌, ◌∷◌, [], ℕ, Option, OnOk, sym, subst}
use Rattle.std.proofs.lemmas.Result.{on_ok_weaker}
use Rattle.rtl_logic.specs.Making.{circuit}
use Rattle.rtl_logic.specs.Choosing.{where_}
use Rattle.rtl_logic.proofs.Making.{appended}
use Rattle.datapath.specs.Cycles.{Cycle}
use Rattle.datapath.specs.Values as values
use Rattle.circuit_context.specs.declared.wanted.role.Role.TheVariants as role
use Rattle.circuit_context.specs.Wanted.Entries.{register_entry, load_entries}
use Rattle.circuit_context.specs.Wanted.Logs.{Logs}
use Rattle.circuit_context.proofs.WantedLemmas.Joining.{logs_then, logs_behind}
use Rattle.fsm_datapath.specs.Steps.{number_of}
use Rattle.fsm_datapath.proofs.Pushing.{computed_on, answers_on}
use Rattle.circuit_context.proofs.Named.{node_of_operation}
use Rattle.fsm_datapath.proofs.places.write_loop_place.Goals as goal

pub returns : goal.returns
returns c = λ p names h begun computed answers loop.
    let d = circuit c.args.logic.now in
    let e = circuit c.moves.new.logic in
    let held = c.args.held in
    let entry = number_of c.entry_of-entry.result in
    let first = c.in_ok-write_entry.ensures p names h begun in
    let made = c.in_ok-when.ensures p names entry h begun (sym c.entries_of.ensures) in
    let longer = appended d e made.appends in
    let value = c.in_ok-value.ensures p names e h made.begun (computed_on p names d e c.args.sources.now.computed.now longer computed) (answers_on p names d e c.args.sources.now.units.now longer answers) in
    let moves_ = λ (x : Cycle). values.moves p x held entry in
    let moved_ = λ (x : Cycle). values.moved p x held held.place in
    subst
    (λ (o : Option ℕ). OnOk c.take.result (Logs p names d e c.args.log.now.pushes.items c.take.new.log.pushes.items
    (load_entries held o ++ register_entry (role.Value held.register) (λ (x : Cycle). where_ (values.moves p x held o) (values.moved p x held held.place)) ∷ []))) (c.entry_of-entry.ensures p names h loop)
    (on_ok_weaker c.take.result (λ logs. logs_then p names d d e _ _ _ _ _ first (logs_behind p names d e e _ _ _ made.appends logs)) (c.take.ensures p names moves_ moved_ h made.begun made.carries value))

pub entry_of-entry-requires : goal.entry_of-entry-requires
entry_of-entry-requires c = node_of_operation c.args.of.now.cfg.now.nodes.items c.args.held.node.0 c.args.held.op.0 c.requires

pub moves-requires : goal.moves-requires
moves-requires c = node_of_operation c.args.of.now.cfg.now.nodes.items c.args.held.node.0 c.args.held.op.0 c.requires
