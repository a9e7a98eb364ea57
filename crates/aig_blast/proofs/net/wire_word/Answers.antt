use Rattle.std.proofs.Common.{◌≡◌, ◌+◌, ◌++◌, ◌<◌, Vec, ℕ, Global, length, take, drop, sym, subst}
use Rattle.aig_graph.specs.Making.{gates_of}
use Rattle.aig_graph.specs.Words.{IsNegation}
use Rattle.rtl_core.specs.declared.design.Net.{Net}
use Rattle.rtl_core.specs.declared.design.Net.TheVariants as net
use Rattle.aig_blast.specs.Literals.{CanMake, literals_of}
use Rattle.aig_blast.proofs.Context.{atom_length}
use Rattle.aig_blast.proofs.Nets.{net_returned, copy_made, not_made, join_made, part_made}
use Rattle.aig_blast.proofs.net.wire_word.Goals as goal

pub pair_of-requires : goal.pair_of-requires
pair_of-requires c = (c.args.wire.bits, subst (λ (z : Net). CanMake (gates_of c.args.graph.now) c.args.literals.now c.args.wire.bits z) c.in-Two.is c.requires)

pub returns-in-Two : goal.returns-in-Two
returns-in-Two c =
    let e = gates_of c.args.graph.now in
    let t = c.args.literals.now in
    let n = c.args.wire.bits in
    let can = subst (λ (z : Net). CanMake e t n z) c.in-Two.is c.requires in
    net_returned (λ (v : Vec ℕ Global). v.items) _ _ t n c.args.wire.net (net.Two c.in-Two.op c.in-Two.a c.in-Two.b) c.in-Two.is _ _ (c.pair_of.ensures n can) (λ ls p. p)

pub pick_of-requires : goal.pick_of-requires
pick_of-requires c = (c.args.wire.bits, subst (λ (z : Net). CanMake (gates_of c.args.graph.now) c.args.literals.now c.args.wire.bits z) c.in-Pick.is c.requires)

pub returns-in-Pick : goal.returns-in-Pick
returns-in-Pick c =
    let e = gates_of c.args.graph.now in
    let t = c.args.literals.now in
    let n = c.args.wire.bits in
    let can = subst (λ (z : Net). CanMake e t n z) c.in-Pick.is c.requires in
    net_returned (λ (v : Vec ℕ Global). v.items) _ _ t n c.args.wire.net (net.Pick c.in-Pick.test c.in-Pick.a c.in-Pick.b) c.in-Pick.is _ _ (c.pick_of.ensures n can) (λ ls p. p)

pub memory_word-requires : goal.memory_word-requires
memory_word-requires c = (c.args.wire.bits, subst (λ (z : Net). CanMake (gates_of c.args.graph.now) c.args.literals.now c.args.wire.bits z) c.in-Word.is c.requires)

pub returns-in-Word : goal.returns-in-Word
returns-in-Word c =
    let e = gates_of c.args.graph.now in
    let t = c.args.literals.now in
    let n = c.args.wire.bits in
    let can = subst (λ (z : Net). CanMake e t n z) c.in-Word.is c.requires in
    net_returned (λ (v : Vec ℕ Global). v.items) _ _ t n c.args.wire.net (net.Word c.in-Word.mem c.in-Word.addr) c.in-Word.is _ _ (c.memory_word.ensures n can) (λ ls p. p)

pub part_of-requires : goal.part_of-requires
part_of-requires c =
    let t = c.args.literals.now in
    let can = subst (λ (z : Net). CanMake (gates_of c.args.graph.now) t c.args.wire.bits z) c.in-Part.is c.requires in
    let h = can.net.1 in
    let long : length (literals_of t c.in-Part.of) ≡ h.0 = atom_length can.design can.before t can.shaped h.0 c.in-Part.of h.1 in
    let inside : c.in-Part.high < h.0 = h.2 in
    record { order = h.3; inside = subst (λ z. c.in-Part.high < z) (sym long) inside }

pub returns-in-Copy : goal.returns-in-Copy
returns-in-Copy c =
    let e = gates_of c.args.graph.now in
    let t = c.args.literals.now in
    let n = c.args.wire.bits in
    let can = subst (λ (z : Net). CanMake e t n z) c.in-Copy.is c.requires in
    net_returned (λ (v : Vec ℕ Global). v.items) e e t n c.args.wire.net (net.Copy c.in-Copy.a) c.in-Copy.is _ (λ (ls : Vec ℕ Global). ls.items ≡ literals_of t c.in-Copy.a) c.atom_word.ensures (λ ls p. copy_made e t n c.in-Copy.a ls.items can p)

pub returns-in-Not : goal.returns-in-Not
returns-in-Not c =
    let e = gates_of c.args.graph.now in
    let t = c.args.literals.now in
    let n = c.args.wire.bits in
    let can = subst (λ (z : Net). CanMake e t n z) c.in-Not.is c.requires in
    net_returned (λ (v : Vec ℕ Global). v.items) e e t n c.args.wire.net (net.Not c.in-Not.a) c.in-Not.is _ (λ (ls : Vec ℕ Global). IsNegation (literals_of t c.in-Not.a) (length (literals_of t c.in-Not.a)) ls.items) c.inverse.ensures (λ ls p. not_made e t n c.in-Not.a ls.items can p)

pub returns-in-Join : goal.returns-in-Join
returns-in-Join c =
    let e = gates_of c.args.graph.now in
    let t = c.args.literals.now in
    let n = c.args.wire.bits in
    let can = subst (λ (z : Net). CanMake e t n z) c.in-Join.is c.requires in
    net_returned (λ (v : Vec ℕ Global). v.items) e e t n c.args.wire.net (net.Join c.in-Join.high c.in-Join.low) c.in-Join.is _ (λ (ls : Vec ℕ Global). ls.items ≡ literals_of t c.in-Join.low ++ literals_of t c.in-Join.high) c.join_of.ensures (λ ls p. join_made e t n c.in-Join.high c.in-Join.low ls.items can p)

pub returns-in-Part : goal.returns-in-Part
returns-in-Part c =
    let e = gates_of c.args.graph.now in
    let t = c.args.literals.now in
    let n = c.args.wire.bits in
    let can = subst (λ (z : Net). CanMake e t n z) c.in-Part.is c.requires in
    net_returned (λ (v : Vec ℕ Global). v.items) e e t n c.args.wire.net (net.Part c.in-Part.of c.in-Part.high c.in-Part.low) c.in-Part.is _ (λ (ls : Vec ℕ Global). ls.items ≡ drop c.in-Part.low (take (c.in-Part.high + 1) (literals_of t c.in-Part.of))) c.part_of.ensures (λ ls p. part_made e t n c.in-Part.of c.in-Part.high c.in-Part.low ls.items can p)
