-- The labels that were noted.
use Rattle.std.proofs.Common.{◌≡◌, ℕ, ◌+◌, ◌<◌, ◌||◌, Bool, true, false, List, [], ◌∷◌, length, take, get_or, refl, ap, ◌∙◌}
use Rattle.std.proofs.lemmas.List.{take_more}
use Rattle.std.proofs.lemmas.List.Folds.{list_any-append}
use Rattle.c_meaning.specs.Checks.Labels.{LabelAt, is_label_among, same_label}
use Rattle.c_meaning.specs.Checks.Labels as labels
use Rattle.c_names.specs.declared.labels.Label.{Label}
use Rattle.c_names.specs.declared.labels.Label.TheVariants.{Faulty}
use Rattle.c_names.specs.Labels.Noted.{is_noted}

pub none_noted : (noted : List Label) → is_noted noted Faulty ≡ false
none_noted [] = refl
none_noted (l ∷ ls) = none_noted ls

or_false : (b : Bool) → (b || false) ≡ b
or_false true = refl
or_false false = refl

pub among_taken : (label : labels.Label) (ls : List LabelAt) (i : ℕ) (d : LabelAt) → i < length ls → is_label_among label (take (i + 1) ls) ≡ (is_label_among label (take i ls) || same_label label (get_or ls i d).label)
among_taken label ls i d lt =
    ap (is_label_among label) (take_more ls i d lt)
    ∙ list_any-append (λ l. same_label label l.label) (take i ls) (get_or ls i d ∷ [])
    ∙ ap (λ b. is_label_among label (take i ls) || b) (or_false (same_label label (get_or ls i d).label))
