use Rattle.std.proofs.Common.{◌<◌, length, subst, ap, sym, ◌∙◌, arith}
use Rattle.std.proofs.lemmas.List.{get_or_default}
use Rattle.aig_graph.specs.Making.{gates_of}
use Rattle.aig_graph.specs.Words.{AreWords}
use Rattle.aig_blast.proofs.Growing.{of_later}
use Rattle.aig_blast.proofs.Ports.{first_written, next_written, all_written, write_fits, words_wide, count_fits}
use Rattle.aig_blast.proofs.memories.bank_after.Goals as goal

pub bounds-ports-0 : goal.bounds-ports-0
bounds-ports-0 c = c.requires.2.some

pub port_write-requires : goal.port_write-requires
port_write-requires c = (c.requires.2.ports 0 _ c.requires.2.some).enable

pub written-requires : goal.written-requires
written-requires c =
    let e = gates_of c.args.graph.now in
    let t = c.args.literals.now in
    let can = c.requires.2 in
    let wide = can.ports 0 _ can.some in
    let is = c.in_ok-first.ensures in
    record {
      sound = can.sound;
      words = words_wide e t _ _ c.args.words.now c.requires.0 c.requires.1 wide is can.words;
      write = write_fits e t _ _ can.fits wide.enable is;
      count = count_fits t _ _ _ c.requires.0 c.requires.1 wide is can.count;
    }

pub loop-i-init : goal.loop-i-init
loop-i-init c = λ n depth can. first_written _ _ c.args.literals.now c.args.ports.now _ _ c.args.words.now _ n depth can (get_or_default c.args.ports.now 0 _ _ can.some) c.in_ok-first.ensures c.in_ok-after.ensures

pub port_write-requires-in-loop-i : goal.port_write-requires-in-loop-i
port_write-requires-in-loop-i c = (c.requires.2.ports c.loop-i.i _ (omega arith)).enable

pub written-requires-in-loop-i : goal.written-requires-in-loop-i
written-requires-in-loop-i c =
    let t = c.args.literals.now in
    let can = c.requires.2 in
    let n = c.requires.0 in
    let depth = c.requires.1 in
    let h : c.loop-i.i < length c.args.ports.now = omega arith in
    let inv = c.loop-i.invariant n depth can in
    let f = gates_of c.loop-i.graph in
    let wide = can.ports c.loop-i.i _ h in
    let is = c.in_ok-write.ensures in
    record {
      sound = inv.sound;
      words = words_wide f t _ _ c.as_slice.result.now n depth wide is (subst (λ z. AreWords f n z) (sym c.as_slice.ensures.value) inv.words);
      write = write_fits f t _ _ (of_later _ f t inv.extends can.fits) wide.enable is;
      count = count_fits t _ _ _ n depth wide is (ap length c.as_slice.ensures.value ∙ (inv.count ∙ can.count));
    }

pub loop-i-preserved : goal.loop-i-preserved
loop-i-preserved c = λ n depth can.
    let h : c.loop-i.i < length c.args.ports.now = omega arith in
    next_written _ _ _ c.args.literals.now c.args.ports.now _ _ c.args.words.now _ _ _ n depth c.loop-i.i can h (get_or_default c.args.ports.now c.loop-i.i _ _ h) c.in_ok-write.ensures
    (c.loop-i.invariant n depth can) c.as_slice.ensures.value c.in_ok-after-2.ensures

pub returns : goal.returns
returns c = λ n depth can. all_written _ _ c.args.literals.now c.args.ports.now c.args.words.now _ n c.loop-i.i (omega arith) (c.loop-i.invariant n depth can)
