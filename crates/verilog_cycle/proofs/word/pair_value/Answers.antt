use Rattle.std.proofs.Common.{◌∙◌, ◌*◌, ◌%◌, ◌^◌, ap, sym}
use Rattle.rtl_core.specs.ClockStep.{pair_value}
use Rattle.verilog_cycle.proofs.Remainders.{shorter}
use Rattle.verilog_cycle.proofs.word.pair_value.Goals as goal

pub returns-in-Left : goal.returns-in-Left
returns-in-Left c =
    c.low_bits.ensures
    ∙ (ap (λ n. n % 2 ^ c.args.bits) c.shifted_left.ensures
    ∙ (shorter 64 (c.args.x * 2 ^ c.args.y) c.args.bits c.requires.within ∙ sym (ap (λ op. pair_value op c.args.bits c.args.x c.args.y) c.in-Left.is)))
