use Rattle.std.proofs.Common.{sym, subst}
use Rattle.std.specs.List.{All}
use Rattle.rtl_core.specs.declared.design.Mem.{Mem}
use Rattle.rtl_core.specs.Netlist.{netlist_of}
use Rattle.rtl_core.specs.ClockStep.{widths}
use Rattle.rtl_core.specs.Valid.{IsBetween}
use Rattle.verilog_cycle.proofs.Powered.{memory_depths}
use Rattle.cosim_levels.proofs.pins.driver.power_up.Goals as goal

pub word_count-requires : goal.word_count-requires
word_count-requires c =
    subst (All (λ (m : Mem). IsBetween 1 16 m.depth_log)) (sym c.deref.ensures.value) (memory_depths (widths (netlist_of c.args.design.now)) c.args.design.now.mems.items c.requires.mems)
