use Rattle.std.proofs.Common.{◌≡◌, length, min, arith}
use Rattle.hls_base.specs.Valued.{is, faulty}
use Rattle.ir_core.specs.TreeRuns.{tested}
use Rattle.flat_programs.specs.Memory.Contents.{dims_in}
use Rattle.flat_programs.specs.Machine.Held.{shapes}
use Rattle.flat_programs.specs.Machine.States.{words_of, ranged_of}
use Rattle.flat_programs.proofs.MachineLemmas.Rounds.{front_gives, there_front, there_seen}
use Rattle.flat_programs.proofs.machine.state.State.begin_round.Goals as goal

pub returns-in-Ok-clause-does : goal.returns-in-Ok-clause-does
returns-in-Ok-clause-does c = λ h.
    let s = c.args.self.now in
    let b = c.args.body.now in
    let dims = dims_in s.memories in
    let count : c.min-tested.result ≡ min (tested b.test) (length b.ops.items) = omega (arith, c.min-tested.ensures, c.tested.ensures, c.len.ensures, b.ops.ok.0) in
    let there = there_front c.deref-2.result.now dims c.min-tested.result (there_seen c.deref-2.result.now b.ops.items dims c.deref-2.ensures.value h) in
    front_gives (shapes c.args.widths.now dims) b c.min-tested.result c.deref.result.now c.deref-2.result.now (words_of s) (is (ranged_of c.perform_all.new.self)) c.deref.ensures.value c.deref-2.ensures.value count (c.in-Ok.ensures.does there)

pub returns-in-Err-clause-does : goal.returns-in-Err-clause-does
returns-in-Err-clause-does c = λ h.
    let s = c.args.self.now in
    let b = c.args.body.now in
    let dims = dims_in s.memories in
    let count : c.min-tested.result ≡ min (tested b.test) (length b.ops.items) = omega (arith, c.min-tested.ensures, c.tested.ensures, c.len.ensures, b.ops.ok.0) in
    let there = there_front c.deref-2.result.now dims c.min-tested.result (there_seen c.deref-2.result.now b.ops.items dims c.deref-2.ensures.value h) in
    front_gives (shapes c.args.widths.now dims) b c.min-tested.result c.deref.result.now c.deref-2.result.now (words_of s) (faulty c.in-Err.broken.rule c.in-Err.broken.place) c.deref.ensures.value c.deref-2.ensures.value count (c.in-Err.ensures.does there)
