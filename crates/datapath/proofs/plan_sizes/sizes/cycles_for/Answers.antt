use Rattle.std.proofs.Common.{◌-◌, ◌^◌, sym, ap, ◌∙◌}
use Rattle.std.specs.Prelude.{min, if◌then◌else◌}
use Rattle.hls_base.specs.ArrayAddress.{address_bits}
use Rattle.datapath.proofs.Numbers.{capped_power}
use Rattle.datapath.proofs.plan_sizes.sizes.cycles_for.Goals as goal

pub returns-then-is_kept : goal.returns-then-is_kept
returns-then-is_kept c =
    let bits = address_bits c.args.memory.now.dims.items in
    capped_power bits c.depth_log.result c.unwrap_or.result c.checked_shl.result c.depth_log.ensures c.checked_shl.ensures c.unwrap_or.ensures
    ∙ sym (ap (λ b. min (if b then 2 ^ bits else 0) (2 ^ 64 - 1)) (sym c.is_kept.ensures ∙ c.if-is_kept.true))
