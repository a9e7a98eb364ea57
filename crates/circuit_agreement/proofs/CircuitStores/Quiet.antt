-- Nodes that are not under way do nothing.
use Rattle.std.proofs.Common.{◌≡◌, ◌≢◌, ℕ, zero, suc, ◌-◌, ◌/◌, true, false, ap}
use Rattle.std.specs.Prelude.{◌==◌}
use Rattle.std.proofs.lemmas.Bool.{and_left, and_right}
use Rattle.rtl_core.specs.Interface.{reset_of}
use Rattle.clock_ir.specs.Flows.{known}
use Rattle.clock_ir.specs.ClockRuns.{TimedNode, block, overlapped}
use Rattle.datapath.specs.Plans.{Plan, span, body_at}
use Rattle.datapath.specs.Cycles.{Register, Ready, Initial, Active, Cycle, holds, resets}
use Rattle.datapath.specs.Reading.{at, has_passed}
use Rattle.datapath.specs.Control.{has_test, is_tested, wait, leaves_loop, leaves_as}

pub off : (c : Cycle) (r : Register) → c.regs r ≡ 0 → holds c r ≡ false
off c r e = ap (λ x. x == 1) e

pub on : (c : Cycle) (r : Register) → c.regs r ≡ 1 → holds c r ≡ true
on c r e = ap (λ x. x == 1) e

pub unreset : (pins : _) → reset_of pins ≡ 0 → (reset_of pins == 1) ≡ false
unreset pins e = ap (λ r. r == 1) e

pub off_at : (p : Plan) (c : Cycle) (i t : ℕ) → c.regs (Active i) ≡ 0 → at p c i t ≡ false
off_at p c i t e = and_left _ _ (off c (Active i) e)

off_tested : (p : Plan) (c : Cycle) (i : ℕ) → c.regs (Active i) ≡ 0 → is_tested p c i ≡ false
off_tested p c i e = and_right (has_test p i) _ (and_left _ (has_passed c (known (body_at p i) / span p i)) (off_at p c i (known (body_at p i)) e))

off_loop : (p : Plan) (c : Cycle) (i n : ℕ) → c.regs (Active i) ≡ 0 → leaves_loop p c i n ≡ false
off_loop p c i zero e = and_left _ _ (off_tested p c i e)
off_loop p c i (suc n) e = and_right (has_test p i) _ (and_left _ _ (off c (Active i) e))

pub off_leaves : (p : Plan) (c : Cycle) (i : ℕ) (node : TimedNode) → c.regs (Active i) ≡ 0 → leaves_as p c i node ≡ false
off_leaves p c i (block body end_) e = off_at p c i (span p i - 1) e
off_leaves p c i (overlapped body exit next) e = off_loop p c i (wait body exit) e

-- ---- one node under way

-- in this cycle node i alone is under way
pub record Running (i : ℕ) (c : Cycle) : Type 0 where
  pub others : (j : ℕ) → j ≢ i → c.regs (Active j) ≡ 0
  pub ready : c.regs Ready ≡ 0
  pub initial : c.regs Initial ≡ 0
  pub unset : resets c ≡ false
