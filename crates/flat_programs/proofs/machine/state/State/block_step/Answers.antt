use Rattle.std.proofs.Common.{◌≡◌, ◌<◌, List, map, get_or, length, refl, subst, arith}
use Rattle.ir_core.specs.declared.body.Op.{Op}
use Rattle.ir_core.specs.declared.stamp.Untimed.{Untimed}
use Rattle.ir_core.specs.Bodies.{op_of, perform, performed}
use Rattle.flat_programs.specs.Memory.Contents.{dims_in}
use Rattle.flat_programs.specs.Machine.Held.{shapes, found}
use Rattle.flat_programs.specs.Machine.States.{results_of, words_of}
use Rattle.flat_programs.proofs.MachineLemmas.Rounds.{stepped, there_at}
use Rattle.flat_programs.proofs.machine.state.State.block_step.Goals as goal

pub returns-then-position-len-clause-does : goal.returns-then-position-len-clause-does
returns-then-position-len-clause-does c = λ h.
    let s = c.args.self.now in
    let b = c.args.body.now in
    let mid = c.perform-done.new.self in
    let op = c.index.result.now in
    let sh = shapes c.args.widths.now (dims_in s.memories) in
    let p = performed (get_or mid.results.items s.position 0) (words_of mid) in
    let inside : s.position < length b.ops.items = omega (arith, c.if-position-len.true, c.len.ensures, b.ops.ok.0) in
    let does : List (Op Untimed) → Type 0 = λ ops. perform sh (map (op_of {S = Untimed}) ops) (op_of op) (results_of s) (words_of s) ≡ found c.perform-done.result p in
    let gives = subst does c.deref.ensures.value (c.perform-done.ensures.does (there_at b.ops.items (dims_in s.memories) s.position op h.1 inside c.index.ensures)) in
    stepped sh b c.args.end.now s mid c.settle.new.self c.perform-done.result op p inside c.index.ensures c.requires.running gives c.perform-done.ensures.next c.perform-done.ensures.behind refl c.perform-done.ensures.stays c.settle.ensures
