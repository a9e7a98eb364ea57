use Rattle.std.proofs.Common.{◌∙◌, [], ap, sym, subst}
use Rattle.c_tree.specs.Refusal.{refusal}
use Rattle.c_syntax.specs.Faults.{rule_at_stop}
use Rattle.c_syntax.proofs.Noting.{thins}
use Rattle.c_syntax.proofs.Faults.{Shown, shown_by, shown_same, stopped_open, Known, known_first, taken_on, stopped_on, stopped_beyond, stop_fault, ended_beyond, end_fault, end_program}
use Rattle.c_syntax.proofs.find_fault.Goals as goal

pub loop-index-init : goal.loop-index-init
loop-index-init c = ([], subst (λ gs. Known [] gs 0 []) (sym c.in_ok-stack.ensures) known_first, c.new-depths.ensures)

pub loop-index-preserved : goal.loop-index-preserved
loop-index-preserved c =
    let i = c.loop-index.invariant in
    let after = taken_on c.args.tokens.now c.loop-index.index c.index-tokens-index.result c.loop-index.stack c.take_token.new.stack c.loop-index.count i.0 c.sort_of-sort.result c.in_ok-take.field-0 c.in-Taken.take
    c.loop-index-test.true c.index-tokens-index.is c.sort_of-sort.ensures i.1 c.in-Taken.is c.in_ok-take.ensures in (
      after.0,
      after.1,
      shown_same after.2 (c.in_ok-push-in-Taken.ensures (thins i.0) i.2),
    )

pub returns-in-Some-clause-refused : goal.returns-in-Some-clause-refused
returns-in-Some-clause-refused c =
    let i = c.loop-index.invariant in let p = c.in-Some.ensures in
    let none = stopped_on c.args.tokens.now c.loop-index.index c.index-tokens-index.result c.loop-index.stack c.take_token.new.stack c.loop-index.count i.0 c.sort_of-sort.result c.in_ok-take.field-0 c.in-Stopped.open
    c.loop-index-test.true c.sort_of-sort.ensures i.1 c.in-Stopped.is c.in_ok-take.ensures in
    stopped_beyond c.args.tokens.now c.loop-index.index c.index-tokens-index.result c.loop-index.stack c.loop-index.count i.0 c.loop-index.depths.nestings.items c.loop-index.depths.beyond c.args.end c.in-Some.place
    c.loop-index-test.true c.index-tokens-index.is i.1 none (shown_by c.loop-index.depths.nestings.items c.loop-index.depths.beyond i.0 i.2) p.0 p.1

pub returns-in-Stopped-clause-refused : goal.returns-in-Stopped-clause-refused
returns-in-Stopped-clause-refused c =
    let i = c.loop-index.invariant in
    let none = stopped_on c.args.tokens.now c.loop-index.index c.index-tokens-index.result c.loop-index.stack c.take_token.new.stack c.loop-index.count i.0 c.sort_of-sort.result c.in_ok-take.field-0 c.in-Stopped.open
    c.loop-index-test.true c.sort_of-sort.ensures i.1 c.in-Stopped.is c.in_ok-take.ensures in
    stop_fault c.args.tokens.now c.loop-index.index c.index-tokens-index.result c.loop-index.stack c.loop-index.count i.0 c.loop-index.depths.nestings.items c.args.end c.stop_at.result
    c.loop-index-test.true c.index-tokens-index.is i.1 none (subst (λ b. Shown c.loop-index.depths.nestings.items b i.0) c.in_default.ensures (shown_by c.loop-index.depths.nestings.items c.loop-index.depths.beyond i.0 i.2))
    (c.stop_at.ensures ∙ ap (λ k. refusal (rule_at_stop k c.index-tokens-index.result.kind) c.index-tokens-index.result.place)
    (stopped_open c.loop-index.stack c.take_token.new.stack (record { index = c.loop-index.index; count = c.loop-index.count }) c.sort_of-sort.result c.in_ok-take.field-0 c.in-Stopped.open c.in-Stopped.is c.in_ok-take.ensures))

pub returns-in-Some-place_beyond-clause-refused : goal.returns-in-Some-place_beyond-clause-refused
returns-in-Some-place_beyond-clause-refused c =
    let i = c.loop-index.invariant in let p = c.in-Some-place_beyond.ensures in
    ended_beyond c.args.tokens.now c.loop-index.index c.loop-index.stack c.loop-index.count i.0 c.loop-index.depths.nestings.items c.loop-index.depths.beyond c.args.end c.in-Some-place_beyond.place
    c.loop-index-test.false i.1 (shown_by c.loop-index.depths.nestings.items c.loop-index.depths.beyond i.0 i.2) p.0 p.1

pub returns-then-is_complete-clause-accepted : goal.returns-then-is_complete-clause-accepted
returns-then-is_complete-clause-accepted c =
    let i = c.loop-index.invariant in
    end_program c.args.tokens.now c.loop-index.index c.loop-index.stack c.loop-index.count i.0 c.loop-index.depths.nestings.items c.args.end c.loop-index-test.false i.1
    (sym c.is_complete.ensures ∙ c.if-is_complete.true) (subst (λ b. Shown c.loop-index.depths.nestings.items b i.0) c.in_default-place_beyond.ensures (shown_by c.loop-index.depths.nestings.items c.loop-index.depths.beyond i.0 i.2))

pub returns-clause-refused : goal.returns-clause-refused
returns-clause-refused c =
    let i = c.loop-index.invariant in
    end_fault c.args.tokens.now c.loop-index.index c.loop-index.stack c.loop-index.count i.0 c.loop-index.depths.nestings.items c.args.end c.loop-index-test.false i.1
    (sym c.is_complete.ensures ∙ c.if-is_complete.false) (subst (λ b. Shown c.loop-index.depths.nestings.items b i.0) c.in_default-place_beyond.ensures (shown_by c.loop-index.depths.nestings.items c.loop-index.depths.beyond i.0 i.2))
