use Rattle.std.proofs.Common.{◌∙◌, sym, ap}
use Rattle.std.specs.Prelude.{if◌then◌else◌}
use Rattle.std.proofs.lemmas.Bool.{lt-ltb, le-ltb}
use Rattle.c_tree.specs.Refusal.{refusal, rule_of}
use Rattle.c_syntax.specs.Sorts.{rule_of_sort}
use Rattle.c_syntax.proofs.Rules.{rule_by_sort}
use Rattle.c_syntax.proofs.stop_at.Goals as goal
use Rattle.c_syntax.proofs.stop_at.Goals.{then-open_before-gt-NESTING_LIMIT, else-open_before-gt-NESTING_LIMIT}

pub returns : goal.returns
returns c =
    elim c.if-open_before-gt-NESTING_LIMIT.branch [
      | then-open_before-gt-NESTING_LIMIT w ↦
          ap (λ r. refusal r c.args.token.now.place) (w.rule-is ∙ sym (ap (λ b. if b then 32 else rule_of c.args.token.now.kind) (lt-ltb 64 c.args.open_before w.if-open_before-gt-NESTING_LIMIT.true)))
      | else-open_before-gt-NESTING_LIMIT w ↦
          ap (λ r. refusal r c.args.token.now.place)
          (w.rule-is ∙ w.rule_of-rule.ensures ∙ ap rule_of_sort c.requires ∙ rule_by_sort c.args.token.now.kind
          ∙ sym (ap (λ b. if b then 32 else rule_of c.args.token.now.kind) (le-ltb 64 c.args.open_before w.if-open_before-gt-NESTING_LIMIT.false)))
    ]
