use Rattle.std.proofs.Common.{◌≡◌, ◌<◌, ◌∙◌, List, ℕ, Option, None, Some, [], ◌∷◌, ◌++◌, suc, sym, ap, subst}
use Rattle.rtl_core.specs.Netlist.{netlist_of}
use Rattle.timing_path.proofs.Going.{IsGoing, steps_left, going_first, going_more, going_end, going_inside, goes_down}
use Rattle.timing_path.proofs.back.wires_back.Goals as goal

pub loop-next-init : goal.loop-next-init
loop-next-init c =
    let d = netlist_of c.args.design.now in
    let P : List ℕ → Type 0 = λ ws. IsGoing d c.args.times.now c.args.delay ws c.last_wire-next.result in
    subst P (sym c.new-wires.ensures.items) (going_first d c.args.times.now c.args.delay c.last_wire-next.result c.last_wire-next.ensures)

pub wire_before-next-requires-clause-there : goal.wire_before-next-requires-clause-there
wire_before-next-requires-clause-there c =
    let d = netlist_of c.args.design.now in
    let P : Option ℕ → Type 0 = IsGoing d c.args.times.now c.args.delay c.loop-next.wires.items in
    going_inside d c.args.times.now c.args.delay c.loop-next.wires.items c.in-Some.wire c.requires.valid.wires c.requires.count (subst P c.in-Some.is c.loop-next.invariant)

pub loop-next-smaller : goal.loop-next-smaller
loop-next-smaller c =
    let d = netlist_of c.args.design.now in
    let P : Option ℕ → Type 0 = λ n. steps_left c.wire_before-next.result < steps_left n in
    subst P (sym c.in-Some.is) (goes_down d c.args.times.now c.in-Some.wire _ c.wire_before-next.result c.requires.valid.wires c.wire_before-next.ensures)

pub loop-next-preserved : goal.loop-next-preserved
loop-next-preserved c =
    let d = netlist_of c.args.design.now in
    let P : Option ℕ → Type 0 = IsGoing d c.args.times.now c.args.delay c.loop-next.wires.items in
    let Q : List ℕ → Type 0 = λ ws. IsGoing d c.args.times.now c.args.delay ws c.wire_before-next.result in
    subst Q (sym c.in_ok-push.ensures.items)
    (going_more d c.args.times.now c.args.delay c.loop-next.wires.items c.in-Some.wire c.wire_before-next.result (subst P c.in-Some.is c.loop-next.invariant) c.wire_before-next.ensures)

pub returns : goal.returns
returns c =
    let d = netlist_of c.args.design.now in
    let P : Option ℕ → Type 0 = IsGoing d c.args.times.now c.args.delay c.loop-next.wires.items in
    going_end d c.args.times.now c.args.delay c.loop-next.wires.items (subst P c.in_default.is c.loop-next.invariant)
