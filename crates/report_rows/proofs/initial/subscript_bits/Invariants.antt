use Rattle.std.proofs.Common.{◌≡◌, ◌+◌, take}
use Rattle.std.specs.Prelude.{count_by, nat_lt}
use Rattle.report_rows.proofs.initial.subscript_bits.Given as goal

abbrev pub invariant-loop-power : goal.invariant-loop-power
invariant-loop-power l = l.bits ≡ 1 + count_by (λ power. nat_lt power l.length) (take l.power-index l.powers)
