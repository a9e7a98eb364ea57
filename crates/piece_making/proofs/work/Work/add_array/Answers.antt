use Rattle.std.proofs.Common.{arith, ap, ◌∙◌, ◌≡◌, List, length, map}
use Rattle.piece_making.proofs.Making.{array_added, pushed, as_many}
use Rattle.piece_making.specs.Stocks.{stock}
use Rattle.pieces.specs.Program.{ArrayTree, array_of}
use Rattle.piece_making.specs.Making.{array_number}
use Rattle.piece_making.proofs.work.Work.add_array.Goals as goal

pub returns : goal.returns
returns c = let n : c.in_ok-number.number ≡ length (map array_of c.args.self.now.arrays.items) = omega (arith, as_many array_of c.args.self.now.arrays.items) in array_added _ _ _ _ (ap array_number n) (ap (λ (xs : List ArrayTree). record (stock c.args.self.now) { arrays = xs }) (ap (map array_of) c.in_ok-push.ensures.items ∙ pushed array_of c.args.self.now.arrays.items c.args.array))
