use Rattle.std.proofs.Common.{◌≡◌, ◌≤◌, ◌<◌, length, sym, subst, arith}
use Rattle.std.proofs.lemmas.List.{length-map}
use Rattle.command_words.specs.CommandViews.{link_view}
use Rattle.module_commands.specs.Outcomes.{texts_of, AreReadAsStages}
use Rattle.module_commands.specs.Work as work
use Rattle.module_commands.specs.Work.{AreFirstTexts, IsLinkWork}
use Rattle.module_commands.proofs.ReadFiles.{stages_hold, stopped_work, on_err, few_link}
use Rattle.module_commands.proofs.work.work_link.Goals as goal

pub returns-then-len-gt-MOST_STAGES-clause-complete : goal.returns-then-len-gt-MOST_STAGES-clause-complete
returns-then-len-gt-MOST_STAGES-clause-complete g c = λ can.
    let few : length (link_view c.args.command.now).stages ≤ 16 = few_link (g.F.Shelf.files c.args.shelf.now) _ can in
    let same : length (link_view c.args.command.now).stages ≡ length c.args.command.now.stages.items = length-map c.args.command.now.stages.items (λ s. s.now) in
    absurd (omega (arith, few, same, c.len.ensures, c.if-len-gt-MOST_STAGES.true))

pub returns-clause-outcome : goal.returns-clause-outcome
returns-clause-outcome g c =
    let same : length (link_view c.args.command.now).stages ≡ length c.args.command.now.stages.items = length-map c.args.command.now.stages.items (λ s. s.now) in
    work.of_texts (texts_of c.in_ok-texts.texts.items) (omega (arith, same, c.len.ensures, c.if-len-gt-MOST_STAGES.false))
    (rw c.as_slice.ensures.value at c.in_ok-texts.ensures.texts) (rw c.as_slice-2.ensures.value at c.in_ok-outcome.ensures.outcome)

pub returns-in_err-leave-clause-stopped : goal.returns-in_err-leave-clause-stopped
returns-in_err-leave-clause-stopped g c =
    let files = g.F.Shelf.files c.args.shelf.now in
    let command = link_view c.args.command.now in
    let same : length command.stages ≡ length c.args.command.now.stages.items = length-map c.args.command.now.stages.items (λ s. s.now) in
    let made : IsLinkWork command files c.in_ok-outcome.outcome =
    work.of_texts (texts_of c.in_ok-texts.texts.items) (omega (arith, same, c.len.ensures, c.if-len-gt-MOST_STAGES.false))
    (rw c.as_slice.ensures.value at c.in_ok-texts.ensures.texts) (rw c.as_slice-2.ensures.value at c.in_ok-outcome.ensures.outcome) in
    on_err c.from_residual-in_err-leave.result _
    (stopped_work (λ o. o ≡ c.in_ok-outcome.outcome) (IsLinkWork command files) c.args.command.now.chain.now files (g.F.Shelf.files c.leave.new.shelf)
    (λ o e. subst (IsLinkWork command files) (sym e) made) (rw c.read_all.ensures.files at c.in_err-leave.ensures.cut_short))

pub returns-clause-complete : goal.returns-clause-complete
returns-clause-complete g c = λ can.
    c.in_ok-outcome.ensures.complete
    (rw c.as_slice-2.ensures.value
    (stages_hold (g.F.Shelf.files c.args.shelf.now) (link_view c.args.command.now).stages (texts_of c.in_ok-texts.texts.items) (rw c.as_slice.ensures.value at c.in_ok-texts.ensures.texts) can))
