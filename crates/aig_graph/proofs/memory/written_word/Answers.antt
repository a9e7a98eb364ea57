use Rattle.std.proofs.Common.{length, ap, sym, ◌∙◌}
use Rattle.std.proofs.lemmas.List.Elements.{All-same}
use Rattle.aig_graph.specs.Making.{gates_of, IsLiteral}
use Rattle.aig_graph.proofs.Growing.{fits_later}
use Rattle.aig_graph.specs.Words.{constant_word}
use Rattle.aig_graph.proofs.Constants.{constant_length, constant_fits}
use Rattle.aig_graph.proofs.Memories.{named_word}
use Rattle.aig_graph.proofs.memory.written_word.Goals as goal

pub equal-requires-clause-same : goal.equal-requires-clause-same
equal-requires-clause-same c =
    sym (constant_length (length c.as_slice-address.result.now) c.args.number) ∙ (sym (ap length c.in_ok-here.ensures) ∙ sym (ap length c.as_slice.ensures.value))

pub equal-requires-clause-second : goal.equal-requires-clause-second
equal-requires-clause-second c =
    let d = gates_of c.args.graph.now in
    All-same (IsLiteral d) _ _ (c.as_slice.ensures.value ∙ c.in_ok-here.ensures) (constant_fits d (length c.as_slice-address.result.now) c.args.number)

pub returns : goal.returns
returns c =
    let e = c.in_ok-named.ensures in
    named_word _ _ _ _ c.args.write.now c.args.word.now _ _ _ _ _ _ _ c.args.number c.requires.same c.requires.small
    (c.in_ok-here.ensures ∙ ap (λ z. constant_word (length z) c.args.number) c.as_slice-address.ensures.value) c.as_slice-address.ensures.value c.as_slice.ensures.value c.as_slice-2.ensures.value e
    (c.in_ok-test.ensures e.sound (fits_later _ _ e.extends _ c.requires.write.enable) e.shows.fits) c.in_ok-picked.ensures
