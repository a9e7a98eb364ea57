use Rattle.std.proofs.Common.{sym, ap, ◌∙◌, subst}
use Rattle.cosim_levels.specs.Pins.Host.{Driven, HasHostInputs}
use Rattle.cosim_levels.proofs.PinsLemmas.PinCounts.{netlist-waited}
use Rattle.cosim_levels.proofs.pins.drive.finish.Goals as goal

pub shown_words-requires : goal.shown_words-requires
shown_words-requires c =
    subst HasHostInputs (sym (ap (λ (s : Driven). s.netlist) c.in-Some.ensures.after ∙ netlist-waited c.args.driver.now c.in-Some.count)) c.requires
