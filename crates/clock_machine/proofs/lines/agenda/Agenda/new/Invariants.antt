use Rattle.std.proofs.Common.{◌≡◌, ◌-◌, ◌<◌, length}
use Rattle.clock_machine.proofs.LinesLemmas.Agendas.{IsFrom}
use Rattle.clock_machine.proofs.lines.agenda.Agenda.new.Given as goal

abbrev pub invariant-loop-done : goal.invariant-loop-done
invariant-loop-done l = (length l.first.items ≡ l.interval) × (length l.next.items ≡ length l.times) × (0 < l.interval → IsFrom l.interval l.times l.first.items l.next.items (length l.times - l.done))
