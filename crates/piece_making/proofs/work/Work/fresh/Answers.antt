use Rattle.std.proofs.Common.{arith, ap, ◌≡◌, List, length}
use Rattle.piece_making.proofs.Making.{freshened}
use Rattle.piece_making.specs.Stocks.{stock}
use Rattle.c_token.specs.declared.ctype.CType.{CType}
use Rattle.piece_making.specs.Making.{variable_number}
use Rattle.piece_making.proofs.work.Work.fresh.Goals as goal

pub returns : goal.returns
returns c = let n : c.in_ok-number.number ≡ length c.args.self.now.variables.items = omega arith in freshened _ _ _ _ (ap variable_number n) (ap (λ (xs : List CType). record (stock c.args.self.now) { variables = xs }) c.in_ok-push.ensures.items)
