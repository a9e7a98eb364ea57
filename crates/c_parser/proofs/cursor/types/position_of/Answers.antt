use Rattle.std.proofs.Common.{◌∙◌, sym, arith, ap, take}
use Rattle.std.proofs.Math.Seq.{drop-cons}
use Rattle.c_tree.specs.Kinds.{without_one}
use Rattle.c_parser.proofs.CursorLemmas.WordLists.{prefixed, same_word}
use Rattle.c_parser.proofs.cursor.types.position_of.Goals as goal

pub returns-then-is_same : goal.returns-then-is_same
returns-then-is_same c = (
  omega arith,
  c.loop-i.invariant ∙ ap (λ x. prefixed (take c.loop-i.i c.args.words.now) (without_one c.args.wanted x)) (drop-cons c.args.words.now c.loop-i.i _ c.loop-i-test.true)
      ∙ same_word _ _ _ _ (sym (c.if-is_same.ensures)),
)
