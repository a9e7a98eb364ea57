use Rattle.std.proofs.Common.{◌≡◌, ◌≤◌, ◌<◌, ◌+◌, ◌*◌, ◌∙◌, ◌∷◌, [], ℕ, List, length, get_or, sym, ap, subst, arith}
use Rattle.std.specs.Prelude.{slice_index}
use Rattle.rtl_core.specs.declared.design.Net.{Net}
use Rattle.rtl_core.specs.Netlist.{netlist_of}
use Rattle.rtl_core.specs.ClockStep.{bits_of, widths}
use Rattle.timing_path.specs.Paths.{Names, nothing, net_of, net_delay, delay_of}
use Rattle.timing_path.specs.Arrivals.{net_time}
use Rattle.timing_path.proofs.NamedWires.{names_inside, net_listed, fits_listed}
use Rattle.timing_path.proofs.Arriving.{AreFirst, none_first, net_low, first_more}
use Rattle.timing_path.proofs.arrivals.arrivals.Goals as goal

pub loop-wire-init : goal.loop-wire-init
loop-wire-init c = let P : List ℕ → Type 0 = λ ts. AreFirst (netlist_of c.args.design.now) ts 0 in subst P (sym c.in_ok-times.ensures.items) (none_first (netlist_of c.args.design.now))

pub net_time-requires : goal.net_time-requires
net_time-requires c = λ j w.
    let d = netlist_of c.args.design.now in
    let k = c.loop-wire.wire-index in
    let P : Net → Type 0 = λ (e : Net). Names e j in
    let inside = names_inside d c.requires.valid.wires k j (subst P (net_listed d c.deref-wire-items.result.now k c.deref-wire-items.ensures.value) w) in
    let count = ap length c.deref.ensures.value in
    omega (arith, inside.1, count, c.loop-wire.invariant.count)

pub net_delay-requires : goal.net_delay-requires
net_delay-requires c =
    fits_listed (netlist_of c.args.design.now) c.deref-wire-items.result.now c.requires.valid.wires c.loop-wire.wire-index c.deref-wire-items.ensures.value c.loop-wire-test.true

pub overflow_add-time : goal.overflow_add-time
overflow_add-time c =
    let P : List ℕ → Type 0 = λ ts. (j : ℕ) → slice_index ts j ≤ 510 * c.loop-wire.wire-index in
    let low = net_low c.deref.result.now (510 * c.loop-wire.wire-index) (get_or c.deref-wire-items.result.now c.loop-wire.wire-index nothing).net
    (subst P (sym c.deref.ensures.value) c.loop-wire.invariant.low) in
    omega (arith, low, c.net_time.ensures, c.from.ensures, c.net_delay.ensures.few, c.loop-wire-test.true, c.deref-wire-items.type_inv.0)

pub loop-wire-preserved : goal.loop-wire-preserved
loop-wire-preserved c =
    let d = netlist_of c.args.design.now in
    let k = c.loop-wire.wire-index in
    let same = net_listed d c.deref-wire-items.result.now k c.deref-wire-items.ensures.value in
    let time : c.net_time.result ≡ net_time c.loop-wire.times.items (net_of d k) =
    c.net_time.ensures ∙ (ap (λ ts. net_time ts (get_or c.deref-wire-items.result.now k nothing).net) c.deref.ensures.value ∙ ap (net_time c.loop-wire.times.items) same) in
    let delay : c.net_delay.result ≡ delay_of d k = c.net_delay.ensures.value ∙ ap (net_delay (bits_of (widths d))) same in
    let P : List ℕ → Type 0 = λ ts. AreFirst d ts (k + 1) in
    subst P (sym c.in_ok-push.ensures.items)
    (first_more d c.loop-wire.times.items k (c.net_time.result + c.from.result) c.requires.valid.wires c.loop-wire.invariant (omega (arith, time, delay, c.from.ensures))
    (omega (arith, delay, c.net_delay.ensures.few)))

pub returns-clause-count : goal.returns-clause-count
returns-clause-count c =
    let count = ap length c.deref-wire-items.ensures.value in
    omega (arith, count, c.loop-wire.invariant.count, c.loop-wire-test.false, c.loop-wire.auto.wire-index-end)

pub returns-clause-times : goal.returns-clause-times
returns-clause-times c = c.loop-wire.invariant.arrive
