use Rattle.std.proofs.Common.{◌≡◌, ℕ, List, map, get_or, sym, ◌∙◌, subst, arith}
use Rattle.ir_core.specs.declared.stamp.Untimed.{Untimed}
use Rattle.hls_base.specs.Valued.{is, faulty}
use Rattle.ir_core.specs.Bodies.{op_of, perform, performed}
use Rattle.flat_programs.specs.Memory.Contents.{dims_in}
use Rattle.flat_programs.specs.Machine.Held.{shapes, IsThere}
use Rattle.flat_programs.specs.Machine.States.{results_of, words_of}
use Rattle.flat_programs.proofs.MachineLemmas.Rounds.{keeps_then, stays_then, there_at, part_more, part_stops}
use Rattle.flat_programs.proofs.machine.state.State.perform_all.Goals as goal

pub loop-op-preserved : goal.loop-op-preserved
loop-op-preserved c =
    let s0 = c.args.self.now in
    let s = c.loop-op.self in
    let s1 = c.perform.new.self in
    let op = c.op-item.result in
    let widths = c.args.widths.now in
    let ops = map (op_of {S = Untimed}) c.args.ops.now in
    let p = performed (get_or s1.results.items s.position 0) (words_of s1) in
    let known = c.loop-op.invariant in
    let does : List (List ℕ) → Type 0 = λ d. perform (shapes widths d) ops (op_of op) (results_of s) (words_of s) ≡ is p in (
      omega (arith, known.0, c.in-Ok.ensures.next),
      keeps_then s0 s s1 known.1 c.in-Ok.ensures.keeps,
      stays_then s0 s s1 known.2 c.in-Ok.ensures.stays,
      λ h.
          let there = there_at c.args.part.now (dims_in s0.memories) c.loop-op.op-index op h c.loop-op-test.true c.op-item.is in
          let gives = subst does known.1.dims (c.in-Ok.ensures.does (subst (IsThere op.array) (sym known.1.dims) there)) in
          part_more (shapes widths (dims_in s0.memories)) ops c.args.part.now c.loop-op.op-index op (results_of s) (results_of s1) (words_of s) p c.loop-op-test.true c.op-item.is gives c.in-Ok.ensures.behind ∙ known.3 h,
    )

pub returns-in-Err-clause-does : goal.returns-in-Err-clause-does
returns-in-Err-clause-does c = λ h.
    let s0 = c.args.self.now in
    let s = c.loop-op.self in
    let op = c.op-item.result in
    let widths = c.args.widths.now in
    let ops = map (op_of {S = Untimed}) c.args.ops.now in
    let known = c.loop-op.invariant in
    let broken = c.in-Err.broken in
    let does : List (List ℕ) → Type 0 = λ d. perform (shapes widths d) ops (op_of op) (results_of s) (words_of s) ≡ faulty broken.rule broken.place in
    let there = there_at c.args.part.now (dims_in s0.memories) c.loop-op.op-index op h c.loop-op-test.true c.op-item.is in
    let gives = subst does known.1.dims (c.in-Err.ensures.does (subst (IsThere op.array) (sym known.1.dims) there)) in
    sym (known.3 h) ∙ part_stops (shapes widths (dims_in s0.memories)) ops c.args.part.now c.loop-op.op-index op (results_of s) (words_of s) broken.rule broken.place c.loop-op-test.true c.op-item.is gives
