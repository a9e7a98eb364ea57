use Rattle.std.proofs.Common.{◌∙◌}
use Rattle.verilog_cycle.specs.Inside.{value_in}
use Rattle.verilog_cycle.proofs.Passes.{output_written, outputs_written}
use Rattle.verilog_cycle.proofs.expression.show.Goals as goal

pub loop-k-preserved : goal.loop-k-preserved
loop-k-preserved c =
    record {
      whole = output_written (value_in c.args.values.now) _ c.args.outputs.now c.loop-k.outs c.loop-k.k c.word.result c.index-outputs-k.result c.loop-k-test.true
          (c.loop-k.auto.outs ∙ c.requires.count) c.word.ensures c.loop-k.invariant.whole;
    }

pub returns : goal.returns
returns c =
    outputs_written (value_in c.args.values.now) _ c.args.outputs.now c.loop-k.outs c.loop-k.k c.loop-k-test.false c.loop-k.auto.k-end (c.loop-k.auto.outs ∙ c.requires.count)
    c.loop-k.invariant.whole
