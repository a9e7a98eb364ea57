use Rattle.std.proofs.Common.{arith, ap, ◌≡◌, ℕ, List, length}
use Rattle.piece_making.proofs.Making.{slot_added}
use Rattle.piece_making.specs.Stocks.{stock}
use Rattle.piece_making.specs.declared.work.Slot.{Slot}
use Rattle.hls_base.specs.declared.number.ArrayId.{ArrayId}
use Rattle.std.specs.Prelude.{Option}
use Rattle.piece_making.proofs.work.Work.new_slot.Goals as goal

pub returns : goal.returns
returns c = let n : c.in_ok-number.number ≡ length c.args.self.now.slots.items = omega arith in slot_added _ _ _ (ap (λ (m : ℕ). let slot : Slot = record { 0 = m } in slot) n) (ap (λ (xs : List (Option ArrayId)). record (stock c.args.self.now) { slots = xs }) c.in_ok-push.ensures.items)
