use Rattle.std.proofs.Common.{◌≡◌, true, List, [], ◌∷◌, drop, refl, sym, ap, ◌∙◌}
use Rattle.c_tree.specs.Tree as tree
use Rattle.c_tree.specs.View.{trees_of}
use Rattle.c_meaning.specs.Checks.Names.{Shape, Declared}
use Rattle.c_meaning.specs.Checks.Calls.{all_fit}
use Rattle.c_names.proofs.DeclarationsLemmas.Lists.{drop_beyond}
use Rattle.c_types.proofs.calls.all_fit.Goals as goal

none_fit : (names : List Declared) (params : List Shape) → true ≡ all_fit names params tree.none
none_fit names [] = refl
none_fit names (param ∷ params) = refl

pub returns : goal.returns
returns c =
    none_fit c.args.names.now (drop c.loop-i.i c.args.params.now)
    ∙ ap (λ es. all_fit c.args.names.now (drop c.loop-i.i c.args.params.now) (trees_of es)) (sym (drop_beyond c.loop-i.i c.args.args.now c.loop-i-test.false))
    ∙ c.loop-i.invariant
