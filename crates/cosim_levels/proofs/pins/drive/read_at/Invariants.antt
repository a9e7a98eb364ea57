use Rattle.std.proofs.Common.{◌≡◌, ◌++◌, drop}
use Rattle.cosim_levels.specs.Pins.ModuleRun.{read_words, behind_reads}
use Rattle.cosim_levels.proofs.pins.drive.read_at.Given as goal

abbrev pub invariant-loop-address : goal.invariant-loop-address
invariant-loop-address l =
    (l.words.items ++ read_words l.driver l.number l.bits (drop l.address-index l.addresses) ≡ read_words l.initial.driver l.number l.bits l.addresses)
    × (behind_reads l.driver l.number (drop l.address-index l.addresses) ≡ behind_reads l.initial.driver l.number l.addresses)
