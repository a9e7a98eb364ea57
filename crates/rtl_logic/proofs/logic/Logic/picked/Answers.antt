use Rattle.std.proofs.lemmas.List.Elements.{All-head, All-tail}
use Rattle.rtl_core.specs.ClockStep.{widths}
use Rattle.rtl_logic.specs.declared.select.Choice.{Choice}
use Rattle.rtl_logic.specs.Making.{circuit}
use Rattle.rtl_logic.specs.Choosing.{ChoiceFits}
use Rattle.rtl_logic.proofs.Making.{appended, fits_later}
use Rattle.rtl_logic.proofs.Choices.{chooses_picked}
use Rattle.rtl_logic.proofs.logic.Logic.picked.Goals as goal
use Rattle.std.proofs.Common.{[], ◌∷◌}

pub returns : goal.returns
returns c = λ n sound between fits.
    let d = circuit c.args.self.now in
    let e = circuit c.or.new.self in
    let one : Choice = c.args.one in
    let other : Choice = c.args.other in
    let h : ChoiceFits (widths d) n one = All-head (ChoiceFits (widths d) n) one (other ∷ []) fits in
    let k : ChoiceFits (widths d) n other = All-head (ChoiceFits (widths d) n) other [] (All-tail (ChoiceFits (widths d) n) one (other ∷ []) fits) in
    let first = c.in_ok-when.ensures sound h.when k.when in
    let later = fits_later d e (appended d e first.appends) in
    let second = c.in_ok-value.ensures n first.sound between (later 1 one.when h.when) (later n one.value h.value) (later n other.value k.value) in
    chooses_picked d e (circuit c.pick.new.self) n one other c.in_ok-when.when c.in_ok-value.value h k first second
