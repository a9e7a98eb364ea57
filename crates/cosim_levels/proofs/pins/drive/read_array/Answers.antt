use Rattle.std.proofs.Common.{◌≡◌, IfOk, OnOk, ap, ◌∙◌, subst}
use Rattle.hls_base.specs.ArrayAddress.{addresses}
use Rattle.cosim_levels.specs.Pins.Addresses.{in_words}
use Rattle.cosim_levels.specs.Pins.ModuleRun.{read_words, behind_reads}
use Rattle.cosim_levels.proofs.PinsLemmas.Accesses.{words-read, words-behind}
use Rattle.cosim_levels.proofs.pins.drive.read_array.Goals as goal

pub returns-clause-words : goal.returns-clause-words
returns-clause-words c =
    let at_is = c.deref-2.ensures.value ∙ (c.in_ok-addresses.ensures ∙ ap (λ l. in_words (addresses l)) c.deref.ensures.value) in
    let same = ap (read_words c.args.driver.now c.args.number c.args.array.now.bits) at_is
    ∙ words-read c.args.driver.now c.args.number c.args.array.now.bits (addresses c.args.array.now.lengths.items) c.requires in
    subst (λ x. IfOk c.read_at.result (λ w. w ≡ x)) same c.read_at.ensures.words

pub returns-clause-after : goal.returns-clause-after
returns-clause-after c =
    let at_is = c.deref-2.ensures.value ∙ (c.in_ok-addresses.ensures ∙ ap (λ l. in_words (addresses l)) c.deref.ensures.value) in
    let same = ap (behind_reads c.args.driver.now c.args.number) at_is ∙ words-behind c.args.driver.now c.args.number (addresses c.args.array.now.lengths.items) c.requires in
    subst (λ x. OnOk c.read_at.result (c.read_at.new.driver ≡ x)) same c.read_at.ensures.after
