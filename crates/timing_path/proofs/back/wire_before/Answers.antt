use Rattle.std.proofs.Common.{◌≡◌, ◌<◌, ◌-◌, ◌∙◌, ℕ, length, sym, ap, subst, arith}
use Rattle.std.specs.Prelude.{slice_index}
use Rattle.rtl_core.specs.declared.design.Net.{Net}
use Rattle.rtl_core.specs.Netlist.{netlist_of}
use Rattle.timing_path.specs.Paths.{Names, net_of, delay_of}
use Rattle.timing_path.specs.Arrivals.{IsLeastAt}
use Rattle.timing_path.proofs.NamedWires.{names_inside, net_read, fits_read, delay_read}
use Rattle.timing_path.proofs.Going.{leads_named}
use Rattle.timing_path.proofs.back.wire_before.Goals as goal

pub net_delay-requires : goal.net_delay-requires
net_delay-requires c =
    let inside : c.args.wire < length c.args.design.now.wires.items = omega (arith, c.requires.count, c.requires.there) in
    fits_read (netlist_of c.args.design.now) c.requires.valid.wires c.args.wire c.index.result.now inside c.index.ensures

pub named_at-requires : goal.named_at-requires
named_at-requires c = λ j w.
    let d = netlist_of c.args.design.now in
    let inside : c.args.wire < length d.wires = omega (arith, c.requires.count, c.requires.there) in
    let P : Net → Type 0 = λ (e : Net). Names e j in
    let named = names_inside d c.requires.valid.wires c.args.wire j (subst P (net_read d c.args.wire c.index.result.now inside c.index.ensures) w) in
    omega (arith, named.1, c.requires.there)

pub overflow_sub-left : goal.overflow_sub-left
overflow_sub-left c =
    let d = netlist_of c.args.design.now in
    let inside : c.args.wire < length d.wires = omega (arith, c.requires.count, c.requires.there) in
    let delay = delay_read d c.args.wire c.index.result.now c.from.result c.net_delay.result inside c.index.ensures c.net_delay.ensures.value c.from.ensures in
    let arrives = c.requires.times c.args.wire c.requires.there in
    omega (arith, delay, arrives)

pub returns-then-left-eq0 : goal.returns-then-left-eq0
returns-then-left-eq0 c =
    let d = netlist_of c.args.design.now in
    let inside : c.args.wire < length d.wires = omega (arith, c.requires.count, c.requires.there) in
    let delay = delay_read d c.args.wire c.index.result.now c.from.result c.net_delay.result inside c.index.ensures c.net_delay.ensures.value c.from.ensures in
    omega (arith, delay, c.if-left-eq0.true)

pub returns-else-left-eq0 : goal.returns-else-left-eq0
returns-else-left-eq0 c =
    let d = netlist_of c.args.design.now in
    let times = c.args.times.now in
    let k = c.args.wire in
    let inside : k < length d.wires = omega (arith, c.requires.count, c.requires.there) in
    let delay = delay_read d k c.index.result.now c.from.result c.net_delay.result inside c.index.ensures c.net_delay.ensures.value c.from.ensures in
    let left = slice_index times k - c.from.result in
    let same : left ≡ slice_index times k - delay_of d k = ap (λ n. slice_index times k - n) delay in
    let P : Net → Type 0 = λ (e : Net). IsLeastAt (Names e) times left c.named_at.result in
    leads_named d times c.requires.times k left c.named_at.result c.requires.there same c.if-left-eq0.false (subst P (net_read d k c.index.result.now inside c.index.ensures) c.named_at.ensures)
