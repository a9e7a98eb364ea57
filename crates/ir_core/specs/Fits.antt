-- When what one operation makes is there for a later one.
use Rattle.std.specs.Prelude.{ℕ, ◌+◌, ◌*◌, Bool, nat_le}
use Rattle.ir_core.specs.declared.timed.Timed.{Timed}

-- `latency` cycles after the one starts, and not after the later one starts, `distance` iterations further on
abbrev pub is_ready : Timed → Timed → ℕ → ℕ → ℕ → Bool
is_ready one later latency distance ii = nat_le (one.start + latency) (later.start + ii * distance)
