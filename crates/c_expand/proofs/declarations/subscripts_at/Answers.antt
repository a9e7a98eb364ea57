use Rattle.std.proofs.Common.{◌+◌, ◌/◌, ◌%◌, ◌++◌, ◌∷◌, [], ℕ, List, ap, ◌∙◌, refl, map}
use Rattle.std.proofs.lemmas.List.{map_push}
use Rattle.hls_base.specs.ArrayAddress.{element_count}
use Rattle.pieces.specs.View.{pure_of}
use Rattle.pieces.specs.Trees.{PureTree}
use Rattle.c_expand.specs.Statements.{at_least_one}
use Rattle.c_expand.proofs.Subscripts.{subscript_more, subscripts_end, rest_of_lengths, number_tree}
use Rattle.c_expand.proofs.declarations.subscripts_at.Goals as goal

pub loop-i-preserved : goal.loop-i-preserved
loop-i-preserved c =
    subscript_more c.args.lengths.now c.args.number c.loop-i.i c.from.result c.max-length.result c.in_ok-inner.inner ((c.args.number / c.in_ok-inner.inner) % c.max-length.result)
    (map pure_of c.loop-i.subscripts.items) (map pure_of c.push.new.self.items) _ c.loop-i-test.true c.from.ensures c.max-length.ensures
    (c.in_ok-inner.ensures.value ∙ ap (λ (ls : List ℕ). element_count (map at_least_one ls)) (rest_of_lengths (c.loop-i.i + 1) c.args.lengths.now)) refl
    (ap (map pure_of) c.in_ok-push.ensures.items ∙ (map_push pure_of c.loop-i.subscripts.items _ ∙ ap (λ (t : PureTree). map pure_of c.loop-i.subscripts.items ++ t ∷ []) (number_tree _ _))) c.loop-i.invariant

pub returns : goal.returns
returns c = subscripts_end c.args.lengths.now c.args.number c.loop-i.i (map pure_of c.loop-i.subscripts.items) c.loop-i-test.false c.loop-i.invariant
