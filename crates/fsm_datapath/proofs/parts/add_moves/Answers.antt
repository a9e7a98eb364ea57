use Rattle.std.proofs.Common.{[], sym, subst, refl}
use Rattle.std.proofs.lemmas.Result.{on_ok_weaker}
use Rattle.rtl_logic.specs.Making.{circuit}
use Rattle.datapath.specs.CircuitWires.Carrying.{IsBegun}
use Rattle.circuit_context.specs.Wanted.Entries.{all_entries}
use Rattle.circuit_context.specs.Wanted.Logs.{ArePushes}
use Rattle.circuit_control.specs.Drives.{DrivesRegisters}
use Rattle.fsm_datapath.proofs.LoggedWrites.Logged.{logged_for_registers}
use Rattle.fsm_datapath.proofs.Growing.{entry_there}
use Rattle.fsm_datapath.proofs.Composing.{all_pushed, want_as_written, idle_later, drives_behind}
use Rattle.fsm_datapath.proofs.parts.add_moves.Goals as goal

pub returns : goal.returns
returns c = λ p names context begun roles idle computed answers.
    let bank = c.args.of.now.bank in
    let entries = all_entries p bank.gates bank.stages in
    let d = circuit c.args.logic.now in
    let d1 = circuit c.write_all.new.logic in
    let e = circuit c.drive_registers.new.logic in
    let pushes = c.write_all.new.log.pushes.items in
    let logs = c.in_ok-write_all.ensures p names c.new-log.ensures context begun roles computed answers in
    let pushed = all_pushed p names d d1 [] pushes entries refl logs in
    on_ok_weaker c.drive_registers.result
    (λ done. record {
      drives = drives_behind p names bank.roles.keys d d1 e logs.appends (subst (λ ns. DrivesRegisters p ns bank.roles.keys d1 e) (sym context.names_) done);
      there = λ k it at. entry_there p names d1 pushes entries k it pushed at;
    })
    (c.drive_registers.ensures p context.more pushes entries (subst (λ ns. IsBegun p ns d1) context.names_ logs.begun) (subst (λ ns. ArePushes p ns d1 pushes entries) context.names_ pushed) c.in_ok-groups.ensures
    (want_as_written p bank logged_for_registers roles) (idle_later p bank.roles.keys d d1 logs.appends idle))
