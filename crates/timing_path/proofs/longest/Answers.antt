use Rattle.std.proofs.Common.{◌≡◌, ◌∙◌, List, ℕ, length, reverse, sym, ap, subst}
use Rattle.std.proofs.lemmas.List.{reverse-reverse}
use Rattle.rtl_core.specs.Netlist.{netlist_of}
use Rattle.timing_path.specs.Paths.{IsLongest}
use Rattle.timing_path.specs.Arrivals.{AreTimes, Within, IsLatest, IsWayBack}
use Rattle.timing_path.proofs.WayBack.{AreAll, way_is_longest}
use Rattle.timing_path.proofs.longest.Goals as goal

pub returns : goal.returns
returns c =
    let d = netlist_of c.args.design.now in
    let times = c.in_ok-times.times.items in
    let delay = c.latest-delay.result in
    let wires = c.in_ok-wires.wires.items in
    let all : AreAll d times = record { fit = c.requires.valid.wires; count = c.in_ok-times.ensures.count; arrive = c.in_ok-times.ensures.times } in
    let L : List ℕ → Type 0 = λ ts. IsLatest ts delay in
    let latest : IsLatest times delay = subst L c.deref.ensures.value c.latest-delay.ensures in
    let W : List ℕ → Type 0 = λ ts. IsWayBack d ts (Within ts) delay wires in
    let way : IsWayBack d times (Within times) delay wires = subst W c.deref-2.ensures.value c.in_ok-wires.ensures in
    let R : List ℕ → Type 0 = IsWayBack d times (Within times) delay in
    let K : List ℕ → Type 0 = IsLongest d delay in
    subst K (sym c.reverse.ensures.items) (way_is_longest d times delay (reverse wires) all latest (subst R (sym (reverse-reverse wires)) way))
