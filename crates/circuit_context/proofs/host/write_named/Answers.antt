use Rattle.std.proofs.Common.{◌≡◌, ◌-◌, ◌%◌, ◌^◌, ◌<◌, ◌∙◌, ap, arith}
use Rattle.std.specs.Prelude.{length}
use Rattle.std.proofs.lemmas.Result.{on_ok_weaker}
use Rattle.rtl_core.specs.Interface.{select_of}
use Rattle.rtl_logic.specs.Making.{circuit}
use Rattle.datapath.specs.Plans.{host_arrays, bits_of}
use Rattle.datapath.specs.Cycles.{Cycle}
use Rattle.datapath.specs.Circuits.{named_bits}
use Rattle.circuit_context.proofs.Standing.{program_of}
use Rattle.circuit_context.proofs.Widths.{some_bits}
use Rattle.circuit_context.proofs.Naming.{nothing_named, name_carries, one_named}
use Rattle.circuit_context.proofs.host.write_named.Goals as goal

pub selected-requires : goal.selected-requires
selected-requires c =
    let some = some_bits (c.host_memories-count.result - 1) (omega (arith, c.if-count-lt2.false)) in
    (omega (arith, c.bits_of.ensures.value, some), omega (arith, c.bits_of.ensures.bound))

pub returns-then-count-lt2 : goal.returns-then-count-lt2
returns-then-count-lt2 c = λ p names context begun.
    nothing_named p names (circuit c.args.logic.now) c.args.log.now.pushes.items c.host_memories-count.result
    (c.host_memories-count.ensures p (program_of p names c.args.of.now context).arrays) c.if-count-lt2.true begun

pub returns : goal.returns
returns c = λ p names context begun.
    let d = circuit c.args.logic.now in
    let e = circuit c.selected.new.logic in
    let count : c.host_memories-count.result ≡ length (host_arrays p) = c.host_memories-count.ensures p (program_of p names c.args.of.now context).arrays in
    let some : 1 < c.host_memories-count.result = omega (arith, c.if-count-lt2.false) in
    let bits : c.bits_of.result ≡ named_bits p = c.bits_of.ensures.value ∙ ap (λ n. bits_of (n - 1)) count in
    let made = c.in_ok-value.ensures p names begun in
    on_ok_weaker c.write_always.result
    (λ pushed. one_named p names d e c.args.log.now.pushes.items c.write_always.new.log.pushes.items c.host_memories-count.result count some made.appends pushed)
    (c.write_always.ensures p names e (λ (x : Cycle). select_of x.pins % 2 ^ named_bits p) context made.begun (name_carries p names d e c.bits_of.result c.in_ok-value.value bits made))
