use Rattle.std.proofs.Common.{length, sym, ap, ◌∙◌}
use Rattle.std.proofs.lemmas.List.Elements.{All-same}
use Rattle.aig_graph.specs.Making.{gates_of, IsLiteral}
use Rattle.aig_blast.proofs.Context.{atom_length, atom_fits}
use Rattle.aig_blast.proofs.Nets.{pick_shown}
use Rattle.aig_blast.proofs.net.pick_of.Goals as goal

pub pick-requires : goal.pick-requires
pick-requires c =
    let e = gates_of c.args.graph.now in
    let t = c.args.literals.now in
    let n = c.requires.0 in
    let can = c.requires.1 in
    let T = c.as_slice.ensures.value ∙ c.in_ok-test.ensures in
    let X = c.as_slice-2.ensures.value ∙ c.in_ok-first.ensures in
    let Y = c.as_slice-3.ensures.value ∙ c.in_ok-second.ensures in
    let long = atom_length can.design can.before t can.shaped in
    record {
      test = ap length T ∙ long 1 c.args.test can.net.0;
      same = ap length X ∙ (long n c.args.of.0 can.net.1 ∙ sym (ap length Y ∙ long n c.args.of.1 can.net.2));
      sound = can.sound;
      tests = All-same (IsLiteral e) _ _ T (atom_fits e t can.fits c.args.test);
      first = All-same (IsLiteral e) _ _ X (atom_fits e t can.fits c.args.of.0);
      second = All-same (IsLiteral e) _ _ Y (atom_fits e t can.fits c.args.of.1);
    }

pub returns : goal.returns
returns c = λ n can.
    pick_shown _ _ c.args.literals.now n c.args.test c.args.of.0 c.args.of.1 _ _ _ _ can (c.as_slice.ensures.value ∙ c.in_ok-test.ensures) (c.as_slice-2.ensures.value ∙ c.in_ok-first.ensures)
    (c.as_slice-3.ensures.value ∙ c.in_ok-second.ensures) c.in_ok-picked.ensures
