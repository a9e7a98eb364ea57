use Rattle.std.proofs.Common.{◌≡◌, take, replicate}
use Rattle.cosim_levels.proofs.pins.driver.lower.Given as goal

abbrev pub invariant-loop-k : goal.invariant-loop-k
invariant-loop-k l = take l.k l.pins ≡ replicate l.k 0
