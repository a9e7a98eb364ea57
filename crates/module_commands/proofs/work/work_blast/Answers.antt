use Rattle.std.proofs.Common.{◌≡◌, sym, subst}
use Rattle.command_words.specs.CommandViews.{blast_view}
use Rattle.module_commands.specs.Outcomes.{IsReadAndSmall}
use Rattle.module_commands.specs.Work.{IsBlastWork}
use Rattle.module_commands.proofs.ReadFiles.{first_holds, stopped_work, on_err}
use Rattle.module_commands.proofs.work.work_blast.Goals as goal

pub returns-in_err-leave-clause-stopped : goal.returns-in_err-leave-clause-stopped
returns-in_err-leave-clause-stopped g c =
    let files = g.F.Shelf.files c.args.shelf.now in
    let command = blast_view c.args.command.now in
    let made : IsBlastWork command files c.in_ok-outcome.outcome = (c.in_ok-text.text.items, c.in_ok-text.ensures.bytes, rw c.as_slice.ensures.value at c.in_ok-outcome.ensures.outcome) in
    on_err c.from_residual-in_err-leave.result _
    (stopped_work (λ o. o ≡ c.in_ok-outcome.outcome) (IsBlastWork command files) c.args.command.now.graph.now files (g.F.Shelf.files c.leave.new.shelf)
    (λ o e. subst (IsBlastWork command files) (sym e) made) (rw c.read.ensures.files at c.in_err-leave.ensures.cut_short))

pub returns-clause-outcome : goal.returns-clause-outcome
returns-clause-outcome g c = (c.in_ok-text.text.items, c.in_ok-text.ensures.bytes, rw c.as_slice.ensures.value at c.in_ok-outcome.ensures.outcome)

pub returns-clause-complete : goal.returns-clause-complete
returns-clause-complete g c = λ can.
    c.in_ok-outcome.ensures.complete
    (first_holds IsReadAndSmall (g.F.Shelf.files c.args.shelf.now) c.args.command.now.module_file.now c.as_slice.result.now (rw c.as_slice.ensures.value c.in_ok-text.ensures.bytes) can)
