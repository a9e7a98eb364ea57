use Rattle.std.proofs.Common.{◌≡◌, ◌+◌, length, arith}
use Rattle.rtl_core.specs.Netlist.{Netlist, netlist_of}
use Rattle.rtl_logic.specs.Marking.{Search, IsIn, IsUnderWay, search_of}
use Rattle.rtl_logic.proofs.Spreading.{closed, rounds_both, none_marked, none_under_way, none_in}
use Rattle.rtl_logic.proofs.prune.marks_of.Goals as goal

pub returns-clause-closed : goal.returns-clause-closed
returns-clause-closed c =
    let design = c.args.design.now in
    let d : Netlist = netlist_of design in
    let x : Search = record { marked = record { regs = c.in_ok-vec.field-0.items; wires = c.in_ok-vec-2.field-0.items }; waiting = c.new.result.items } in
    let regs_are = c.in_ok-vec.ensures.items_if_clones_equal (λ y e. e) in
    let wires_are = c.in_ok-vec-2.ensures.items_if_clones_equal (λ y e. e) in
    let regs : length c.in_ok-vec.field-0.items ≡ length design.regs.items = omega (arith, c.in_ok-vec.ensures.len, c.len.ensures, c.in_ok-vec.field-0.ok.0, design.regs.ok.0) in
    let wires : length c.in_ok-vec-2.field-0.items ≡ length design.wires.items = omega (arith, c.in_ok-vec-2.ensures.len, c.len-2.ensures, c.in_ok-vec-2.field-0.ok.0, design.wires.ok.0) in
    let begun : IsUnderWay d x =
    none_under_way d x.marked x.waiting regs wires (none_marked x.marked.regs c.len.result regs_are) (none_marked x.marked.wires c.len-2.result wires_are) in
    closed d x (search_of c.follow_roots.new.self) (search_of c.follow_times-2.new.self) (c.len-3.result + c.len-4.result) regs wires c.new.ensures.items begun c.in_ok-follow_roots.ensures.spreads
    c.in_ok-follow_roots.ensures.marked
    (rounds_both d c.len-3.result c.len-4.result (search_of c.follow_roots.new.self) (search_of c.follow_times.new.self) (search_of c.follow_times-2.new.self) c.in_ok-follow_times.ensures.rounds c.in_ok-follow_times-2.ensures.rounds)
    (omega (arith, c.len-3.ensures, c.len-4.ensures, design.regs.ok.0, design.wires.ok.0))

pub returns-clause-least : goal.returns-clause-least
returns-clause-least c = λ n closed.
    let design = c.args.design.now in
    let x : Search = record { marked = record { regs = c.in_ok-vec.field-0.items; wires = c.in_ok-vec-2.field-0.items }; waiting = c.new.result.items } in
    let regs_are = c.in_ok-vec.ensures.items_if_clones_equal (λ y e. e) in
    let wires_are = c.in_ok-vec-2.ensures.items_if_clones_equal (λ y e. e) in
    let regs : length c.in_ok-vec.field-0.items ≡ length n.regs = omega (arith, c.in_ok-vec.ensures.len, c.len.ensures, c.in_ok-vec.field-0.ok.0, design.regs.ok.0, closed.count_regs) in
    let wires : length c.in_ok-vec-2.field-0.items ≡ length n.wires = omega (arith, c.in_ok-vec-2.ensures.len, c.len-2.ensures, c.in_ok-vec-2.field-0.ok.0, design.wires.ok.0, closed.count_wires) in
    let begun : IsIn n x = none_in x.marked n x.waiting c.new.ensures.items regs wires (none_marked x.marked.regs c.len.result regs_are) (none_marked x.marked.wires c.len-2.result wires_are) in
    (c.in_ok-follow_times-2.ensures.least n closed (c.in_ok-follow_times.ensures.least n closed (c.in_ok-follow_roots.ensures.least n closed.roots begun))).marked
