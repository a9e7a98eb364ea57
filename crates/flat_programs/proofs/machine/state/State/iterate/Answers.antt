use Rattle.std.proofs.Common.{◌≡◌, ◌+◌, true, sym, ap, ◌∙◌, arith}
use Rattle.ir_core.specs.TreeRuns.{goes_round, iteration}
use Rattle.ir_core.specs.FlatRuns.{body_of}
use Rattle.flat_programs.specs.Memory.Contents.{dims_in}
use Rattle.flat_programs.specs.Machine.Held.{shapes, found}
use Rattle.flat_programs.specs.Machine.States.{results_of, words_of, ranged_of}
use Rattle.flat_programs.proofs.MachineLemmas.Rounds.{round_fails, round_over, round_passes, rest_is, there_kept}
use Rattle.flat_programs.proofs.machine.state.State.iterate.Goals as goal

pub returns-then-goes-clause-does : goal.returns-then-goes-clause-does
returns-then-goes-clause-does c = λ h n.
    let s = c.args.self.now in
    let b = c.args.body.now in
    let mid = c.begin_round.new.self in
    let done = c.end_round.result in
    let sh = shapes c.args.widths.now (dims_in s.memories) in
    let turn : true ≡ goes_round b.test (words_of mid) (results_of mid) = sym c.if-goes.true ∙ c.in-Ok.ensures.round in
    let e = c.end_round.ensures.does (there_kept b s mid c.in-Ok.ensures.keeps h) in
    let rest = rest_is c.args.widths.now b s mid (found done e.0) c.in-Ok.ensures.keeps c.in-Ok.ensures.next e.1 in
    round_passes sh c.args.point.now b (words_of s) n (ranged_of mid) e.0 done (words_of c.end_round.new.self) (c.in-Ok.ensures.does h.1) turn rest e.2

pub returns-else-goes-clause-does : goal.returns-else-goes-clause-does
returns-else-goes-clause-does c = λ h n.
    let s = c.args.self.now in
    let b = c.args.body.now in
    let mid = c.begin_round.new.self in
    let sh = shapes c.args.widths.now (dims_in s.memories) in
    ap (iteration sh c.args.point.now (body_of b) (words_of s)) (let k : 0 + n ≡ n = omega arith in k)
    ∙ round_over sh c.args.point.now b (words_of s) n (ranged_of mid) (c.in-Ok.ensures.does h.1) (sym c.if-goes.false ∙ c.in-Ok.ensures.round)

pub returns-in-Err-clause-does : goal.returns-in-Err-clause-does
returns-in-Err-clause-does c = λ h n.
    let s = c.args.self.now in
    round_fails (shapes c.args.widths.now (dims_in s.memories)) c.args.point.now c.args.body.now (words_of s) (0 + n) c.in-Err.broken.rule c.in-Err.broken.place (c.in-Err.ensures.does h.1)
