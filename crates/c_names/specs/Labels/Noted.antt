-- The labels that were noted.
use Rattle.std.specs.Prelude.{Bool, List}
use Rattle.std.specs.List.{list_any}
use Rattle.c_meaning.specs.Checks.Labels as labels
use Rattle.c_names.specs.declared.labels.Label.{Label}
use Rattle.c_names.specs.Labels.Written.{label_view}

-- whether a label like this one is among them
abbrev pub is_noted : List Label → Label → Bool
is_noted noted label = list_any (λ other. labels.same_label (label_view label) (label_view other)) noted
