use Rattle.std.proofs.Common.{◌≡◌, ◌||◌, false, length, drop, sym, ap, ◌∙◌, arith}
use Rattle.std.proofs.lemmas.List.{take_rest}
use Rattle.c_tree.specs.View.{init_of, inits_of}
use Rattle.c_meaning.specs.Checks.Lengths.{overflows, is_misshapen, are_misshapen}
use Rattle.c_names.proofs.DeclarationsLemmas.Inits.{misshapen_list}
use Rattle.c_names.proofs.declarations.lengths.+shapes.Goals as goal

pub is_misshapen-returns-else-overflows : goal.is_misshapen-returns-else-overflows
is_misshapen-returns-else-overflows t c =
    let lengths = c.args.lengths.now in
    let items = c.in-List.items.items in
    let in_range : overflows lengths (length items) ≡ false = grind arith in
    c.are_misshapen.ensures
    ∙ ap (λ ns. are_misshapen ns (inits_of c.deref.result.now)) (take_rest lengths 1)
    ∙ ap (λ xs. are_misshapen (drop 1 lengths) (inits_of xs)) c.deref.ensures.value
    ∙ ap (λ b. b || are_misshapen (drop 1 lengths) (inits_of items)) (sym in_range)
    ∙ sym (misshapen_list lengths c.in-List.items c.in-List.field-1)
    ∙ ap (λ i. is_misshapen lengths (init_of i)) (sym c.in-List.is)
