use Rattle.std.proofs.Common.{◌≡◌, drop, length}
use Rattle.rtl_core.specs.ClockStep.{written_words}
use Rattle.verilog_cycle.specs.Inside.{value_in}
use Rattle.verilog_cycle.proofs.edge.write_ports.Given as goal

abbrev pub invariant-loop-port : goal.invariant-loop-port
invariant-loop-port l = record {
  whole : written_words (value_in l.values) (drop l.port-index l.ports) l.contents ≡ written_words (value_in l.values) l.ports l.initial.contents;
  room : length l.contents ≡ length l.initial.contents;
}
