use Rattle.std.proofs.Common.{◌≡◌, ℕ, ◌+◌, ◌≤◌, List, ap, drop, length, subst, arith}
use Rattle.std.specs.Prelude.{min}
use Rattle.std.proofs.lemmas.List.{drop_all}
use Rattle.hls_base.specs.ArrayAddress.{address_bits}
use Rattle.datapath.proofs.plan_sizes.sizes.depth_log.Goals as goal

at_end : (bits i : ℕ) (dims : List ℕ) → bits ≤ 255 → length dims ≤ i → min (bits + address_bits (drop i dims)) 255 ≡ min (address_bits dims) 255 → bits ≡ min (address_bits dims) 255
at_end bits i dims small all e =
    let none : address_bits (drop i dims) ≡ 0 = ap address_bits (drop_all i dims all) in
    omega (arith, none, e)

pub returns : goal.returns
returns c =
    at_end c.loop-length.bits c.loop-length.length-index c.args.memory.now.dims.items c.loop-length.invariant.1
    (subst (λ (ds : List ℕ). length ds ≤ c.loop-length.length-index) c.deref-length-items.ensures.value c.loop-length-test.false) c.loop-length.invariant.0
