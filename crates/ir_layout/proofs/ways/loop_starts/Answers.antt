use Rattle.std.proofs.Common.{◌∙◌, ◌+◌, ap, sym, get_or, Option, Box, Global}
use Rattle.std.specs.Option.{option_map}
use Rattle.ir_core.specs.declared.tree.Sequence.{Sequence}
use Rattle.ir_core.specs.Trees.{sequence_of, side_of}
use Rattle.ir_layout.specs.Layout.{body_start, step_start}
use Rattle.ir_layout.proofs.Listing.{size_here}
use Rattle.ir_layout.proofs.ways.loop_starts.Goals as goal

pub returns-in-Some-clause-body : goal.returns-in-Some-clause-body
returns-in-Some-clause-body c = λ test h. c.in_ok-behind_test.ensures ∙ ap (λ n. c.args.base + n) (size_here c.args.sizes.now c.args.base test h)

pub returns-in-Some-clause-again : goal.returns-in-Some-clause-again
returns-in-Some-clause-again c = λ test body h g.
    let start = body_start c.args.base test in
    c.in_ok-behind_body.ensures ∙ ap (λ i. i + get_or c.args.sizes.now i 0) (c.in_ok-behind_test.ensures ∙ ap (λ n. c.args.base + n) (size_here c.args.sizes.now c.args.base test h))
    ∙ ap (λ n. start + n) (size_here c.args.sizes.now start body g)
    ∙ sym (ap (λ (x : Option (Box Sequence Global)). step_start c.args.base test body (side_of (option_map (λ part. sequence_of part.value) x))) c.in-Some.is)

pub returns-in-None-clause-body : goal.returns-in-None-clause-body
returns-in-None-clause-body c = λ test h. c.in_ok-behind_test.ensures ∙ ap (λ n. c.args.base + n) (size_here c.args.sizes.now c.args.base test h)
