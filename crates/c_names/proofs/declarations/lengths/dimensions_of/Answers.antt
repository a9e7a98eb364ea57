use Rattle.std.proofs.Common.{◌++◌, ◌||◌, map, sym, ap, ◌∙◌}
use Rattle.std.specs.List.{list_any}
use Rattle.std.specs.Option.{option_map}
use Rattle.std.proofs.lemmas.List.{append-nil}
use Rattle.c_tree.specs.View.{tree_of}
use Rattle.c_meaning.specs.Checks.Lengths.{all_lengths, usable, is_out_of_range, is_no_constant}
use Rattle.c_names.proofs.DeclarationsLemmas.Lists.{drop_beyond, or_false}
use Rattle.c_names.proofs.declarations.lengths.dimensions_of.Goals as goal

pub returns-clause-usable : goal.returns-clause-usable
returns-clause-usable c =
    sym (append-nil c.loop-written.found.items)
    ∙ ap (λ ws. c.loop-written.found.items ++ map usable (all_lengths c.loop-written.items (map (option_map tree_of) ws))) (sym (drop_beyond c.loop-written.written-index c.deref-written-items.result.now c.loop-written-test.false))
    ∙ c.loop-written.invariant.usable

pub returns-clause-out_of_range : goal.returns-clause-out_of_range
returns-clause-out_of_range c =
    sym (or_false c.loop-written.out_of_range)
    ∙ ap (λ ws. c.loop-written.out_of_range || list_any is_out_of_range (all_lengths c.loop-written.items (map (option_map tree_of) ws))) (sym (drop_beyond c.loop-written.written-index c.deref-written-items.result.now c.loop-written-test.false))
    ∙ c.loop-written.invariant.out_of_range

pub returns-clause-no_constant : goal.returns-clause-no_constant
returns-clause-no_constant c =
    sym (or_false c.loop-written.no_constant)
    ∙ ap (λ ws. c.loop-written.no_constant || list_any is_no_constant (all_lengths c.loop-written.items (map (option_map tree_of) ws))) (sym (drop_beyond c.loop-written.written-index c.deref-written-items.result.now c.loop-written-test.false))
    ∙ c.loop-written.invariant.no_constant
