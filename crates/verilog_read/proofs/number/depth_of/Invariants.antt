use Rattle.std.proofs.Common.{◌≡◌, ◌-◌, suc}
use Rattle.rtl_core.specs.ModuleTokens.{number_value}
use Rattle.verilog_read.specs.Numbers.{log_from, depth_of}
use Rattle.verilog_read.proofs.number.depth_of.Given as goal

abbrev pub invariant-loop-k : goal.invariant-loop-k
invariant-loop-k l = depth_of l.last ≡ log_from (17 - l.k) l.k (suc (number_value l.last))
