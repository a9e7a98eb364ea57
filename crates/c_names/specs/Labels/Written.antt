-- Labels, of the code's enum and records.
use Rattle.hls_base.specs.declared.place.Place.{Place}
use Rattle.c_meaning.specs.Checks.Labels as labels
use Rattle.c_names.specs.declared.labels.Label.{Label}
use Rattle.c_names.specs.declared.labels.Label.TheVariants as b
use Rattle.c_names.specs.declared.labels.Around.{Around}

abbrev pub label_view : Label → labels.Label
label_view (b.Case n) = labels.case_of n
label_view b.Default = labels.default
label_view b.Faulty = labels.faulty

abbrev pub label_at_view : Label → Place → labels.LabelAt
label_at_view label at = record { label = label_view label; at = at }

abbrev pub around_view : Around → labels.Around
around_view a = record { result = a.returns; breaks = a.breaks; continues = a.continues; labels = a.labels }
