use Rattle.std.proofs.Common.{◌∙◌, ◌+◌, ◌-◌, ◌^◌}
use Rattle.verilog_cycle.proofs.Remainders.{shorter, complement}
use Rattle.verilog_cycle.proofs.word.difference.Goals as goal

pub returns : goal.returns
returns c =
    c.low_bits.ensures
    ∙ (shorter 64 (c.args.x + (2 ^ 64 - c.args.y)) c.args.bits c.requires.within ∙ complement 64 c.args.x c.args.y c.args.bits c.requires.within c.requires.fits)
