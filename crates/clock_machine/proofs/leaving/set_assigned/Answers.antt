use Rattle.std.proofs.Common.{◌<◌, length, get_or, set, sym, ap, ◌∙◌, subst, arith}
use Rattle.clock_machine.specs.declared.lines.program.Assignment.{Assignment}
use Rattle.clock_machine.specs.declared.lines.program.Read.TheVariants as read
use Rattle.clock_machine.specs.Leaving.{AssignmentsAreThere}
use Rattle.clock_machine.proofs.TakenWords.{words_more}
use Rattle.clock_machine.proofs.leaving.set_assigned.Goals as goal

pub loop-index-preserved : goal.loop-index-preserved
loop-index-preserved c = λ long there.
    let xs = c.args.assignments.now in
    let ws = c.args.words.now in
    let i = c.loop-index.index in
    let vs = c.loop-index.variables in
    let now : AssignmentsAreThere xs (length vs) = subst (AssignmentsAreThere xs) (sym c.loop-index.auto.variables) there in
    let room : i < length ws = omega (arith, long, c.loop-index-test.true) in
    let d : Assignment = record { variable = 0; value = read.Constant 0 } in
    words_more xs ws i d vs c.set_word.new.words now c.loop-index-test.true room (c.set_word.ensures ∙ ap (set vs (get_or xs i d).variable) c.word_at.ensures) ∙ c.loop-index.invariant long there
