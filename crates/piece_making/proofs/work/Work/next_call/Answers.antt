use Rattle.std.proofs.Common.{refl, ap, ℕ}
use Rattle.piece_making.proofs.Making.{call_counted}
use Rattle.piece_making.specs.Stocks.{stock}
use Rattle.piece_making.proofs.work.Work.next_call.Goals as goal

pub returns : goal.returns
returns c = call_counted _ _ _ refl (ap (λ (n : ℕ). record (stock c.args.self.now) { calls = n }) c.in_ok-next.ensures)
