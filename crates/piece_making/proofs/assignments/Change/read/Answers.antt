use Rattle.std.proofs.Common.{arith, ap, sym, ◌∙◌, ◌<◌, length}
use Rattle.piece_making.proofs.AssigningLaws.{read_element}
use borrow.Author.Tests.{false-eqb}
use Rattle.pieces.specs.View.{pures_of}
use Rattle.piece_making.specs.Calls.{call_of}
use Rattle.piece_making.specs.Stocks.{stock, state_of}
use Rattle.hls_base.specs.declared.number.ArrayId.{ArrayId}
use Rattle.pieces.specs.Trees as tree
use Rattle.pieces.specs.Trees.{PureTrees}
use Rattle.piece_making.proofs.assignments.Change.read.Goals as goal

pub returns : goal.returns
returns c =
    let n = false-eqb _ _ c.if-is_empty.ensures in
    let e : 0 < length c.args.self.now.subscripts.items = omega arith in
    c.element.ensures
    ∙ (ap (λ (xs : PureTrees). tree.element c.in_ok-array.array xs c.args.self.now.target.now.kind c.args.self.now.target.now.at) c.in_ok-subscripts.ensures
    ∙ (ap (λ (a : ArrayId). tree.element a (pures_of c.args.self.now.subscripts.items) c.args.self.now.target.now.kind c.args.self.now.target.now.at) c.in_ok-array.ensures
    ∙ sym (read_element (call_of c.args.frame.now) c.args.self.now.target.now.cell c.args.self.now.target.now.kind c.args.self.now.target.now.at c.args.self.now.subscripts.items (state_of (stock c.args.work.now)) e)))
