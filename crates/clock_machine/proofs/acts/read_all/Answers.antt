use Rattle.std.proofs.Common.{◌+◌, ◌<◌, length, take, ap, ◌∙◌, arith}
use Rattle.clock_machine.specs.Lines.Registers.{word_read}
use Rattle.clock_machine.proofs.Acting.{read_more, reads_at}
use Rattle.clock_machine.proofs.acts.read_all.Goals as goal

pub loop-index-preserved : goal.loop-index-preserved
loop-index-preserved c = λ long within.
    let r = c.args.registers.now in
    let lines = c.args.lines.now in
    let reads = c.args.reads.now in
    let i = c.loop-index.index in
    let room : i < length c.loop-index.into = omega (arith, long, c.loop-index.auto.into, c.loop-index-test.true) in
    ap (take (i + 1)) c.set_word.ensures
    ∙ read_more (word_read r lines) reads c.loop-index.into i c.read.result _ c.loop-index-test.true room (c.read.ensures (reads_at r lines reads i _ within c.loop-index-test.true)) (c.loop-index.invariant long within)
