use Rattle.std.proofs.Common.{sym, ◌∙◌, subst}
use Rattle.rtl_core.specs.Netlist.{memory_of}
use Rattle.aig_blast.specs.Literals.{IsBank}
use Rattle.aig_blast.proofs.Fresh.{bank_is}
use Rattle.aig_blast.proofs.Sizes.{depth_power}
use Rattle.aig_blast.proofs.given.fresh_bank.Goals as goal

pub returns-clause-bank : goal.returns-clause-bank
returns-clause-bank c =
    subst (IsBank (memory_of c.args.mem.now)) (sym c.new.ensures) (bank_is (memory_of c.args.mem.now) _ c.as_slice.result.now _ c.in_ok-words.ensures.lengths (c.as_slice.ensures.value ∙ c.in_ok-widths.ensures.items_if_clones_equal (λ y e. e)) (depth_power c.from.result c.args.mem.now.depth_log c.from.ensures c.requires.depth))
