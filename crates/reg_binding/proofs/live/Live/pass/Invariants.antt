use Rattle.std.proofs.Common.{◌≡◌, ℕ, ◌-◌, ◌<◌, true, false}
use Rattle.reg_binding.specs.Liveness.{Holds, HasSame, IsClosedAt, flow_of, not_live}
use Rattle.reg_binding.proofs.live.Live.pass.Given as goal

abbrev pub invariant-loop-back : goal.invariant-loop-back
invariant-loop-back g l = record {
  holds : Holds (flow_of l.cfg) l.self;
  same : l.more ≡ false → HasSame l.self l.initial.self;
  fewer : l.more ≡ true → not_live l.self < not_live l.initial.self;
  closed : l.more ≡ false → (k : ℕ) → k < l.back → IsClosedAt (flow_of l.cfg) l.initial.self (l.count - 1 - k);
}
