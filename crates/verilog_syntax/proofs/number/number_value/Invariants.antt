use Rattle.std.proofs.Common.{◌≡◌, take}
use Rattle.std.specs.Prelude.{min}
use Rattle.rtl_core.specs.ModuleTokens.{number_value}
use Rattle.verilog_syntax.proofs.number.number_value.Given as goal

abbrev pub invariant-loop-digit : goal.invariant-loop-digit
invariant-loop-digit l = l.value ≡ min (number_value (take l.digit-index l.digits)) 1000000
