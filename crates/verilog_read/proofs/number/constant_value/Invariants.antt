use Rattle.std.proofs.Common.{◌≡◌, ◌<◌, ◌^◌, take}
use Rattle.rtl_core.specs.ModuleTokens.{value_behind}
use Rattle.verilog_read.proofs.number.constant_value.Given as goal

abbrev pub invariant-loop-digit : goal.invariant-loop-digit
invariant-loop-digit l = (l.value ≡ value_behind 16 0 (take l.digit-index l.digits)) × (l.value < 2 ^ 128)
