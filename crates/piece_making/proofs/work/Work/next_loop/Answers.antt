use Rattle.std.proofs.Common.{refl, ap, ℕ}
use Rattle.piece_making.proofs.Making.{loop_counted}
use Rattle.piece_making.specs.Stocks.{stock}
use Rattle.piece_making.proofs.work.Work.next_loop.Goals as goal

pub returns : goal.returns
returns c = loop_counted _ _ _ refl (ap (λ (n : ℕ). record (stock c.args.self.now) { loops = n }) c.in_ok-next.ensures)
