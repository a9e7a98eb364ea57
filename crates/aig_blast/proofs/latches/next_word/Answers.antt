use Rattle.std.proofs.Common.{[], length, sym, ap, ◌∙◌}
use Rattle.std.proofs.lemmas.List.{get_or_default}
use Rattle.std.proofs.lemmas.List.Elements.{All-same}
use Rattle.aig_graph.specs.Making.{gates_of, IsLiteral}
use Rattle.aig_blast.proofs.Context.{atom_fits}
use Rattle.aig_blast.proofs.NextBits.{next_shown}
use Rattle.aig_blast.proofs.latches.next_word.Goals as goal

pub pick-requires : goal.pick-requires
pick-requires c =
    let e = gates_of c.args.graph.now in
    let t = c.args.literals.now in
    let T = c.as_slice.ensures.value ∙ c.in_ok-enable.ensures in
    let X = c.as_slice-2.ensures.value ∙ c.in_ok-next.ensures in
    let H = c.literals-held.ensures ∙ (c.index.ensures ∙ get_or_default t.regs.items c.args.number c.index.result.now [] c.requires.inside) in
    record {
      test = ap length T ∙ c.requires.enable;
      same = ap length X ∙ (c.requires.next ∙ sym (ap length H));
      sound = c.requires.sound;
      tests = All-same (IsLiteral e) _ _ T (atom_fits e t c.requires.fits c.args.reg.enable);
      first = All-same (IsLiteral e) _ _ X (atom_fits e t c.requires.fits c.args.reg.next);
      second = All-same (IsLiteral e) _ _ H (c.requires.fits.regs c.args.number [] c.requires.inside);
    }

pub returns : goal.returns
returns c =
    let t = c.args.literals.now in
    next_shown _ _ t c.args.number c.args.reg _ _ _ _ (c.as_slice.ensures.value ∙ c.in_ok-enable.ensures) (c.as_slice-2.ensures.value ∙ c.in_ok-next.ensures)
    (c.literals-held.ensures ∙ (c.index.ensures ∙ get_or_default t.regs.items c.args.number c.index.result.now [] c.requires.inside)) c.in_ok-picked.ensures
