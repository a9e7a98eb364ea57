use Rattle.std.proofs.Common.{◌≡◌, List, ◌∷◌, length}
use Rattle.hls_base.specs.declared.place.Place.{Place}
use Rattle.cycle_report.specs.Reading.{Found}
use Rattle.cycle_report.specs.Forms as forms
use Rattle.cycle_report.proofs.Reading.{Begun}
use Rattle.cycle_report.proofs.lines.path.Given as goal

abbrev pub invariant-places : goal.invariant-places
invariant-places l =
    (p : Place) × (ps : List Place) × (l.places.items ≡ p ∷ ps) × Found forms.place p l.fn.cursor l.initial.cursor × Begun 44 forms.further ps l.initial.cursor l.cursor

abbrev pub decreases-places : goal.decreases-places
decreases-places l = length l.cursor
