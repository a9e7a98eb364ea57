use Rattle.std.proofs.Common.{◌≡◌, ◌+◌, ℕ}
use Rattle.flat_programs.specs.Machine.Rest.{IsWhole, GoesOn, rest}
use Rattle.flat_programs.specs.Machine.Nearing.{IsOverWithin}
use Rattle.flat_programs.proofs.machine.machine.SeqMachine.go_on.Given as goal

abbrev pub invariant-loop : goal.invariant-loop
invariant-loop l =
    (l.self.cfg.now ≡ l.initial.self.cfg.now)
    × (IsWhole l.initial.self.cfg.now → GoesOn l.counter (rest l.initial.self.cfg.now l.initial.self.state) (rest l.self.cfg.now l.self.state))
    × (IsWhole l.initial.self.cfg.now → (most : ℕ) → IsOverWithin (l.counter + most) l.initial.self.cfg.now l.initial.self.state → IsOverWithin most l.self.cfg.now l.self.state)
