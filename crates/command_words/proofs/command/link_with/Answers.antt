use Rattle.std.proofs.Common.{rules, ℕ, List, Bor, ◌≡◌, ◌∷◌, true, sym, ap, ◌∙◌}
use Rattle.std.proofs.lemmas.List.{length-map}
use Rattle.command_words.specs.Commands.{all_differ}
use Rattle.command_words.proofs.Differing.{pairs_differ, texts}
use Rattle.command_words.proofs.command.link_with.Goals as goal

pub returns-in-Some-clause-range : goal.returns-in-Some-clause-range
returns-in-Some-clause-range c =
    let differ : all_differ (c.args.chain.now ∷ texts c.args.stages.items) ≡ true =
    ap (λ xs. all_differ (c.args.chain.now ∷ texts xs)) (sym c.deref.ensures.value) ∙ sym c.in_ok-are_all_different.ensures ∙ c.if-not-branch.false in
    let same = length-map c.args.stages.items (λ (s : Bor (List ℕ)). s.now) in
    record {
      depth_low = c.in-Some.ensures.range.0;
      depth_high = c.in-Some.ensures.range.1;
      some_stage = search (rules, same);
      differ = pairs_differ (c.args.chain.now ∷ texts c.args.stages.items) differ;
    }
