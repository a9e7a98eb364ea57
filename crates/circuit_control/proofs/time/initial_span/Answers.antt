use Rattle.std.proofs.Common.{false, [], ◌∷◌, ◌++◌, refl, sym, ap, ◌∙◌, subst}
use Rattle.datapath.specs.Plans.{initial_cycles}
use Rattle.datapath.specs.Cycles.{Cycle, Initial, holds, bit}
use Rattle.datapath.proofs.Combining.{there_already}
use Rattle.circuit_control.specs.Spans.{MakesSpans, initial_goes}
use Rattle.circuit_control.proofs.Pieces.{never_initial}
use Rattle.circuit_control.proofs.Within.{no_spans, one_span}
use Rattle.circuit_control.proofs.time.initial_span.Goals as goal

pub returns-then-span-eq0 : goal.returns-then-span-eq0
returns-then-span-eq0 c = λ p names d context begun.
    let cycles = c.initial_length-span.ensures p names context in
    subst (λ l. MakesSpans p names d d l (initial_goes p)) (sym c.new-all.ensures.items) (no_spans p names d (initial_goes p) begun (λ (x : Cycle). never_initial p x (sym cycles ∙ c.if-span-eq0.true)))

pub returns : goal.returns
returns c = λ p names d context begun.
    let cycles = c.initial_length-span.ensures p names context in
    let active = c.in_ok-active.ensures p names d context begun refl in
    let pushed = c.in_ok-push.ensures.items ∙ ap (λ l. l ++ record { span = c.initial_length-span.result; active = c.in_ok-active.active } ∷ []) c.new-all.ensures.items in
    one_span p names d d d [] c.push.new.self.items (record { span = c.initial_length-span.result; active = c.in_ok-active.active }) (λ (x : Cycle). false) (λ (x : Cycle). holds x Initial) (initial_cycles p)
    (no_spans p names d (λ (x : Cycle). false) begun (λ (x : Cycle). refl)) pushed cycles (there_already p names d 1 c.in_ok-active.active (λ (x : Cycle). bit (holds x Initial)) begun active)
