use Rattle.std.proofs.Common.{◌≡◌, drop, take, []}
use Rattle.c_meaning.specs.Checks.Faults.{lesser, least}
use Rattle.c_meaning.specs.Checks.Labels.{repeated_faults, is_label_among}
use Rattle.c_names.specs.Labels.Noted.{is_noted}
use Rattle.c_names.specs.Labels.Written.{label_view}
use Rattle.c_names.specs.declared.labels.Label.{Label}
use Rattle.c_names.proofs.labels.least_repeated.Given as goal

abbrev pub invariant-loop-i : goal.invariant-loop-i
invariant-loop-i l = record {
  faults : lesser l.worst (least (repeated_faults (take l.i l.labels) (drop l.i l.labels))) ≡ least (repeated_faults [] l.labels);
  noted : (label : Label) → is_noted l.noted.keys label ≡ is_label_among (label_view label) (take l.i l.labels);
}
