use Rattle.std.proofs.Common.{◌≡◌, ◌+◌, ◌||◌, ◌++◌, ◌∷◌, [], take, drop, refl, sym, ap, ◌∙◌}
use Rattle.std.proofs.lemmas.List.{take_more}
use Rattle.c_meaning.specs.Checks.Faults.{lesser, least, fault_if}
use Rattle.c_meaning.specs.Checks.Labels.{repeated_faults, is_label_among, same_label}
use Rattle.c_names.specs.Labels.Written.{label_view}
use Rattle.c_names.proofs.DeclarationsLemmas.Least.{least_more}
use Rattle.c_names.proofs.LabelsLemmas.Noted.{among_taken}
use Rattle.c_names.proofs.labels.least_repeated.Goals as goal

pub loop-i-preserved : goal.loop-i-preserved
loop-i-preserved c =
    let labels = c.args.labels.now in
    let i = c.loop-i.i in
    let x = c.index-labels-i.result in
    let before = take i labels in
    let repeated : c.in_ok-repeated.repeated ≡ is_label_among x.label before =
    c.in_ok-repeated.ensures.found ∙ c.loop-i.invariant.noted c.here.inside.label ∙ ap (λ l. is_label_among l.label before) c.here.view_is in
    let found = c.fault_if.ensures ∙ ap (λ b. least (fault_if b 16 c.here.inside.at)) repeated ∙ ap (λ l. least (fault_if (is_label_among x.label before) 16 l.at)) c.here.view_is in
    record {
      faults =
          ap (λ ls. lesser c.lesser-worst.result (least (repeated_faults ls (drop (i + 1) labels)))) (take_more labels i x c.loop-i-test.true ∙ ap (λ y. before ++ y ∷ []) (sym c.index-labels-i.is))
          ∙ least_more (λ ls. repeated_faults before ls) labels i x (fault_if (is_label_among x.label before) 16 x.at) (repeated_faults (before ++ x ∷ []) (drop (i + 1) labels))
          _ _ _ _ c.loop-i-test.true c.index-labels-i.is refl found c.lesser-worst.ensures c.loop-i.invariant.faults;
      noted = λ other.
          c.in_ok-repeated.ensures.noted other
          ∙ ap (λ b. b || same_label (label_view other) (label_view c.here.inside.label)) (c.loop-i.invariant.noted other)
          ∙ ap (λ l. is_label_among (label_view other) before || same_label (label_view other) l.label) (c.here.view_is ∙ c.index-labels-i.is)
          ∙ sym (among_taken (label_view other) labels i x c.loop-i-test.true);
    }
