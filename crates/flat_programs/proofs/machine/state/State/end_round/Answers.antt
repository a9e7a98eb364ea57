use Rattle.std.proofs.Common.{◌-◌, List, length, drop, sym, ap, ◌∙◌, subst}
use Rattle.ir_core.specs.declared.body.Out.{Out}
use Rattle.hls_base.specs.Valued.{is, faulty}
use Rattle.ir_core.specs.Bodies.{with_outs}
use Rattle.flat_programs.specs.Memory.Contents.{dims_in}
use Rattle.flat_programs.specs.Machine.Held.{shapes}
use Rattle.flat_programs.specs.Machine.States.{results_of, words_of, ranged_of, VariablesThere}
use Rattle.flat_programs.proofs.MachineLemmas.Rounds.{behind_gives, there_front, there_behind, there_seen}
use Rattle.flat_programs.proofs.machine.state.State.end_round.Goals as goal

pub returns-in-Ok-clause-does : goal.returns-in-Ok-clause-does
returns-in-Ok-clause-does c = λ h.
    let s = c.args.self.now in
    let b = c.args.body.now in
    let dims = dims_in s.memories in
    let part = c.deref-2.result.now in
    let mid = c.perform_all.new.self in
    let there = there_front (drop s.position part) dims (length part - s.position) (there_behind part dims s.position (there_seen part b.ops.items dims c.deref-2.ensures.value h.1)) in
    let outs_there : VariablesThere c.deref-in-Ok.result.now (length mid.variables.items) =
    subst (λ (xs : List Out). VariablesThere xs (length mid.variables.items)) (sym c.deref-in-Ok.ensures.value) (subst (VariablesThere b.outs.items) (sym c.in-Ok.ensures.keeps.variables) h.0) in (
      ranged_of mid,
      behind_gives (shapes c.args.widths.now dims) b s.position c.deref.result.now part (results_of s) (words_of s) (is (ranged_of mid)) c.deref.ensures.value c.deref-2.ensures.value (c.in-Ok.ensures.does there),
      c.assign.ensures.does outs_there ∙ ap (λ xs. with_outs xs (ranged_of mid)) c.deref-in-Ok.ensures.value,
    )

pub returns-in-Err-clause-does : goal.returns-in-Err-clause-does
returns-in-Err-clause-does c = λ h.
    let s = c.args.self.now in
    let b = c.args.body.now in
    let dims = dims_in s.memories in
    let part = c.deref-2.result.now in
    let there = there_front (drop s.position part) dims (length part - s.position) (there_behind part dims s.position (there_seen part b.ops.items dims c.deref-2.ensures.value h.1)) in (
      ranged_of c.perform_all.new.self,
      behind_gives (shapes c.args.widths.now dims) b s.position c.deref.result.now part (results_of s) (words_of s) (faulty c.in-Err.broken.rule c.in-Err.broken.place) c.deref.ensures.value c.deref-2.ensures.value (c.in-Err.ensures.does there),
      tt,
    )
