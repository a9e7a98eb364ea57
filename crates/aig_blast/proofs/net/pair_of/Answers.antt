use Rattle.std.proofs.Common.{◌∙◌}
use Rattle.std.proofs.lemmas.List.Elements.{All-same}
use Rattle.aig_graph.specs.Making.{gates_of, IsLiteral}
use Rattle.aig_blast.proofs.Context.{atom_fits}
use Rattle.aig_blast.proofs.Nets.{pair_operands, pair_shown}
use Rattle.aig_blast.proofs.net.pair_of.Goals as goal

pub pair_word-requires : goal.pair_word-requires
pair_word-requires c =
    let e = gates_of c.args.graph.now in
    let t = c.args.literals.now in
    let n = c.requires.0 in
    let can = c.requires.1 in
    let X = c.as_slice.ensures.value ∙ c.in_ok-first.ensures in
    let Y = c.as_slice-2.ensures.value ∙ c.in_ok-second.ensures in
    record {
      sound = can.sound;
      first = All-same (IsLiteral e) _ _ X (atom_fits e t can.fits c.args.of.0);
      second = All-same (IsLiteral e) _ _ Y (atom_fits e t can.fits c.args.of.1);
      fits = (n, pair_operands e t n c.args.op c.args.of.0 c.args.of.1 _ _ can X Y, can.narrow);
    }

pub returns : goal.returns
returns c = λ n can.
    let X = c.as_slice.ensures.value ∙ c.in_ok-first.ensures in
    let Y = c.as_slice-2.ensures.value ∙ c.in_ok-second.ensures in
    pair_shown _ _ c.args.literals.now n c.args.op c.args.of.0 c.args.of.1 _ _ _ X Y
    (c.in_ok-word.ensures n (pair_operands _ c.args.literals.now n c.args.op c.args.of.0 c.args.of.1 _ _ can X Y))
