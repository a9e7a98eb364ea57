use Rattle.std.proofs.Common.{rules, ◌≤◌, ◌∙◌, length, sym, ap}
use Rattle.command_words.proofs.Differing.{all_met, differ_after, first_kept, first_seen, met_again, met_first, texts}
use Rattle.command_words.proofs.names.are_all_different.Goals as goal

pub loop-other-init : goal.loop-other-init
loop-other-init c =
    ap (λ seen. differ_after seen (texts c.args.others.now)) (first_kept c.args.first c.new-seen.result.keys c.insert.new.self.keys c.new-seen.ensures.empty c.in_ok-insert.ensures.keys)
    ∙ first_seen c.args.first.now (texts c.args.others.now)

pub returns-then-not-branch : goal.returns-then-not-branch
returns-then-not-branch c =
    met_again c.loop-other.seen.keys c.args.others.now c.loop-other.other-index _ c.loop-other-test.true (sym c.if-not-branch.true ∙ c.in_ok-insert-2.ensures.added) ∙ c.loop-other.invariant

pub loop-other-preserved : goal.loop-other-preserved
loop-other-preserved c =
    met_first c.loop-other.seen.keys c.args.others.now c.loop-other.other-index _ c.loop-other-test.true c.insert-in-loop-other.new.self.keys
    (sym c.if-not-branch.false ∙ c.in_ok-insert-2.ensures.added) c.in_ok-insert-2.ensures.keys ∙ c.loop-other.invariant

pub returns : goal.returns
returns c =
    let end : length c.args.others.now ≤ c.loop-other.other-index = search rules in
    all_met (texts c.loop-other.seen.keys) c.args.others.now c.loop-other.other-index end ∙ c.loop-other.invariant
