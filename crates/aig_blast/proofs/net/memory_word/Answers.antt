use Rattle.std.proofs.Common.{arith, ◌≤◌, ◌^◌, [], length, sym, ap, ◌∙◌, subst}
use Rattle.std.specs.List.{All}
use Rattle.std.proofs.lemmas.List.{get_or_default}
use Rattle.std.proofs.lemmas.List.Elements.{All-same}
use Rattle.aig_graph.specs.Making.{gates_of, IsLiteral}
use Rattle.aig_graph.specs.Words.{HasLength}
use Rattle.aig_blast.proofs.Context.{atom_fits}
use Rattle.aig_blast.proofs.Nets.{selectable, select_shown}
use Rattle.aig_blast.proofs.net.memory_word.Goals as goal

pub index-requires : goal.index-requires
index-requires c =
    let s = (selectable (gates_of c.args.graph.now) c.args.literals.now c.requires.0 c.args.mem c.args.addr c.requires.1).1 in
    omega (arith, s.there, c.args.literals.now.mems.ok)

pub select-requires : goal.select-requires
select-requires c =
    let e = gates_of c.args.graph.now in
    let t = c.args.literals.now in
    let n = c.requires.0 in
    let can = c.requires.1 in
    let s = (selectable e t n c.args.mem c.args.addr can).1 in
    let B = c.words-words.ensures ∙ (c.index.ensures ∙ get_or_default t.mems.items c.args.mem c.index.result.now [] s.there) in
    let A = c.as_slice.ensures.value ∙ c.in_ok-address.ensures in
    let long = ap length A ∙ s.long in
    record {
      some = subst (λ z. 1 ≤ z) (sym long) s.some;
      count = ap length B ∙ (s.count ∙ ap (λ z. 2 ^ z) (sym long));
      sound = can.sound;
      column = All-same (All (IsLiteral e)) _ _ B s.fits;
      wide = (n, All-same (HasLength n) _ _ B s.wide);
      address = All-same (IsLiteral e) _ _ A (atom_fits e t can.fits c.args.addr);
    }

pub returns : goal.returns
returns c = λ n can.
    let t = c.args.literals.now in
    let s = (selectable (gates_of c.args.graph.now) t n c.args.mem c.args.addr can).1 in
    let B = c.words-words.ensures ∙ (c.index.ensures ∙ get_or_default t.mems.items c.args.mem c.index.result.now [] s.there) in
    let A = c.as_slice.ensures.value ∙ c.in_ok-address.ensures in
    select_shown _ _ t n c.args.mem c.args.addr _ _ _ B A (c.in_ok-word.ensures n (All-same (HasLength n) _ _ B s.wide))
