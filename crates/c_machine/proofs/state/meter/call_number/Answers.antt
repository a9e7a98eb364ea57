use Rattle.std.proofs.Common.{◌∙◌}
use Rattle.c_machine.proofs.StateLemmas.CallNumbers.{Added, added_call, found_call}
use Rattle.c_machine.proofs.state.meter.call_number.Goals as goal

pub returns-in-Some-clause-number : goal.returns-in-Some-clause-number
returns-in-Some-clause-number c = found_call c.args.calls.now.entries c.args.call c.args.path.now c.in-Some.number c.requires.table c.requires.path c.in-Some.ensures.index

added : (c : goal.Joined-branch-3) → Added c.args.calls.now.entries c.insert.new.self.entries c.len-number.result c.args.call c.args.path.now
added c =
    added_call c.args.calls.now.entries c.insert.new.self.entries c.len-number.result c.args.call c.args.path.now c.new-path.result c.requires.table c.requires.caller c.requires.path
    c.in_default.ensures.found c.len-number.ensures.len (c.new-path.ensures ∙ c.in_ok-from_slice.ensures.items) c.in_ok-insert.ensures.entries

pub returns-clause-table : goal.returns-clause-table
returns-clause-table c = (added c).table

pub returns-clause-kept : goal.returns-clause-kept
returns-clause-kept c = (added c).kept

pub returns-clause-number : goal.returns-clause-number
returns-clause-number c = (added c).number
