use Rattle.std.proofs.Common.{refl, arith, ap, sym, List, length}
use Rattle.piece_making.proofs.Making.{slot_noted}
use Rattle.piece_making.specs.Stocks.{stock}
use Rattle.std.proofs.lemmas.List.{set_past}
use Rattle.std.specs.Prelude.{Option, ◌≤◌}
use Rattle.hls_base.specs.declared.number.ArrayId.{ArrayId}
use Rattle.piece_making.proofs.work.Work.note_array.Goals as goal

pub returns-then-index-len : goal.returns-then-index-len
returns-then-index-len c = let h : length c.args.self.now.slots.items ≤ c.args.slot.0 = omega arith in slot_noted _ _ _ _ (ap (λ (xs : List (Option ArrayId)). record (stock c.args.self.now) { slots = xs }) (sym (set_past _ _ _ h)))

pub returns : goal.returns
returns c = slot_noted _ _ _ _ refl
