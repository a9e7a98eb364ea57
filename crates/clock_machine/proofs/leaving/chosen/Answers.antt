use Rattle.std.proofs.Common.{sym, ◌∙◌}
use Rattle.clock_machine.specs.Lines.Registers.{word_read}
use Rattle.clock_machine.proofs.TakenWords.{case_within, case_holds, case_fails}
use Rattle.clock_machine.proofs.leaving.chosen.Goals as goal

pub returns-then-read-ne0 : goal.returns-then-read-ne0
returns-then-read-ne0 c = λ within.
    let r = c.args.registers.now in
    let lines = c.args.lines.now in
    let cases = c.args.cases.now in
    let i = c.loop-case.case-index in
    let is = c.read.ensures (case_within r lines cases i _ within c.loop-case-test.true) in
    case_holds (word_read r lines) cases i _ c.args.other c.loop-case-test.true (λ e. c.if-read-ne0.true (is ∙ e)) ∙ c.loop-case.invariant within

pub loop-case-preserved : goal.loop-case-preserved
loop-case-preserved c = λ within.
    let r = c.args.registers.now in
    let lines = c.args.lines.now in
    let cases = c.args.cases.now in
    let i = c.loop-case.case-index in
    let is = c.read.ensures (case_within r lines cases i _ within c.loop-case-test.true) in
    case_fails (word_read r lines) cases i _ c.args.other c.loop-case-test.true (sym is ∙ c.if-read-ne0.false) ∙ c.loop-case.invariant within
