use Rattle.std.proofs.Common.{◌≡◌, ℕ, List, refl, sym, ap, ap₂, ◌∙◌, subst}
use Rattle.std.specs.Option.{option_map}
use Rattle.flat_programs.specs.Memory.Contents.{words_in}
use Rattle.ir_core.specs.Bodies.{Words}
use Rattle.clock_ir.specs.ClockRuns.{enter, goes_to}
use Rattle.clock_machine.specs.declared.lines.program.Case.{Case}
use Rattle.clock_machine.specs.declared.lines.program.Line.{Line}
use Rattle.clock_machine.specs.Lines.Registers.{held, word_read}
use Rattle.clock_machine.specs.declared.state.Position.TheVariants as position
use Rattle.clock_machine.specs.Acts.{ReadIsWithinIf}
use Rattle.clock_machine.specs.Leaving.{CasesAreWithin, WayIsWithin, assigned, chosen_in, going_in}
use Rattle.clock_machine.specs.Standing.{KeepsRoom, StandsAt}
use Rattle.clock_machine.specs.Starts.{words_of}
use Rattle.clock_machine.proofs.Staying.{state_stays}
use Rattle.clock_machine.proofs.state.State.leave_block.Goals as goal

abbrev words : (ℕ → ℕ) → (ℕ → ℕ → ℕ) → Words
words v m = record { variables = v; memories = m }

pub returns-in-Choose : goal.returns-in-Choose
returns-in-Choose c = λ p st long within there way_within.
    let s = c.args.self.now in
    let r = s.registers in
    let g = c.args.program.now in
    let w = c.args.work.now in
    let lines = w.lines.items in
    let cases = c.in-Choose.cases.items in
    let other = c.in-Choose.other in
    let s1 = c.assign.new.self in
    let Chooses : List Line → List Case → Type 0 = λ ls xs. CasesAreWithin r ls xs → c.chosen-next.result ≡ chosen_in (word_read r ls) xs other in
    let chosen = subst (λ xs. Chooses lines xs) c.deref-in-Choose.ensures.value (subst (λ ls. Chooses ls c.deref-in-Choose.result.now) c.deref.ensures.value c.chosen-next.ensures) (subst (WayIsWithin r lines) c.in-Choose.is way_within) in
    let made = c.enter.ensures p (state_stays p g s s1 c.assign.ensures.room st) in
    let held_is = c.assign.ensures.does long within there in
    let memories = ap words_in c.assign.ensures.memories in
    subst (λ x. StandsAt p g (goes_to p.nodes (going_in (word_read r lines) x) (record { variables = assigned (word_read r lines) w.assignments.items (held r.variables.items); memories = words_in s.memories })) c.enter.new.self) (sym c.in-Choose.is)
    (subst (λ m. StandsAt p g (enter p.nodes (chosen_in (word_read r lines) cases other).0 (record { variables = assigned (word_read r lines) w.assignments.items (held r.variables.items); memories = m })) c.enter.new.self) memories
    (subst (λ v. StandsAt p g (enter p.nodes (chosen_in (word_read r lines) cases other).0 (record { variables = v; memories = words_in s1.memories })) c.enter.new.self) held_is
    (subst (λ n. StandsAt p g (enter p.nodes n.0 (words_of s1)) c.enter.new.self) chosen made)))

pub returns-in-Return : goal.returns-in-Return
returns-in-Return c = λ p st long within there way_within.
    let s = c.args.self.now in
    let r = s.registers in
    let g = c.args.program.now in
    let w = c.args.work.now in
    let lines = w.lines.items in
    let value = c.in-Return.value in
    let s1 = c.assign-in-Return.new.self in
    let new = record s1 { position = position.Ended } in
    let keeps = c.assign-in-Return.ensures.room in
    let room : KeepsRoom s new = record { registers = keeps.registers; args = keeps.args; fresh = keeps.fresh; dims = keeps.dims; first = keeps.first } in
    let Reads : List Line → Type 0 = λ ls. ReadIsWithinIf r ls value → c.result_of-self.result ≡ option_map (word_read r ls) value in
    let reads = subst Reads c.deref-in-Return.ensures.value c.result_of-self.ensures (subst (WayIsWithin r lines) c.in-Return.is way_within) in
    let held_is = c.assign-in-Return.ensures.does long within there in
    let memories = ap words_in c.assign-in-Return.ensures.memories in
    subst (λ x. StandsAt p g (goes_to p.nodes (going_in (word_read r lines) x) (record { variables = assigned (word_read r lines) w.assignments.items (held r.variables.items); memories = words_in s.memories })) new) (sym c.in-Return.is)
    (record {
      of_program = state_stays p g s new room st;
      in_phase = (refl, c.assign-in-Return.ensures.returned ∙ reads, ap₂ (λ (v : ℕ → ℕ) (m : ℕ → ℕ → ℕ). words v m) held_is memories);
    })
