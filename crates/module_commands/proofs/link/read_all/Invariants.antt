use Rattle.std.proofs.Common.{map, drop}
use Rattle.rtl_core.specs.Netlist.{netlist_of}
use Rattle.module_commands.specs.Outcomes.{texts_of}
use Rattle.module_commands.proofs.ReadTexts.{Between}
use Rattle.module_commands.proofs.link.read_all.Given as goal

abbrev pub invariant-loop-text : goal.invariant-loop-text
invariant-loop-text l = Between (texts_of l.texts) (texts_of (drop l.text-index l.texts)) (map netlist_of l.designs.items)
