use Rattle.std.proofs.Common.{arith, ap, sym, subst, ◌∙◌, ◌≡◌, ◌<◌, length}
use Rattle.piece_making.proofs.AssigningLaws.{store_element}
use borrow.Author.Tests.{false-eqb}
use Rattle.pieces.specs.View.{pure_of, pures_of}
use Rattle.piece_making.specs.Calls.{call_of}
use Rattle.piece_making.specs.Stocks.{stock, state_of, IsMade, IsTooHeavy}
use Rattle.piece_making.specs.Making.{Part, emit}
use Rattle.piece_making.specs.Assigning.{store_at}
use Rattle.std.specs.Prelude.{IfOk}
use Rattle.hls_base.specs.Refusals.{IfRefused}
use Rattle.hls_base.specs.declared.number.ArrayId.{ArrayId}
use Rattle.pieces.specs.Trees as tree
use Rattle.piece_making.proofs.assignments.Change.store.Goals as goal

pub returns-in_ok-array-clause-made : goal.returns-in_ok-array-clause-made
returns-in_ok-array-clause-made c =
    let n = false-eqb _ _ c.if-is_empty.ensures in
    let e : 0 < length c.args.self.subscripts.items = omega arith in
    let s = state_of (stock c.args.work.now) in
    let same : store_at (call_of c.args.frame.now) c.args.self.target.now.cell c.args.self.target.now.at (pures_of c.args.self.subscripts.items) (pure_of c.args.value) s
    ≡ emit (tree.put c.in_ok-array.array (pures_of c.args.self.subscripts.items) (pure_of c.args.value) c.args.self.target.now.at) s =
    store_element (call_of c.args.frame.now) c.args.self.target.now.cell c.args.self.target.now.at c.args.self.subscripts.items (pure_of c.args.value) s e
    ∙ ap (λ (a : ArrayId). emit (tree.put a (pures_of c.args.self.subscripts.items) (pure_of c.args.value) c.args.self.target.now.at) s) (sym c.in_ok-array.ensures) in
    subst (λ (part : Part (Unit {0})). IfOk c.put.result (λ v. IsMade (stock c.args.work.now) (stock c.put.new.self) v part)) (sym same) c.put.ensures.made

pub returns-in_ok-array-clause-refused : goal.returns-in_ok-array-clause-refused
returns-in_ok-array-clause-refused c =
    let n = false-eqb _ _ c.if-is_empty.ensures in
    let e : 0 < length c.args.self.subscripts.items = omega arith in
    let s = state_of (stock c.args.work.now) in
    let same : store_at (call_of c.args.frame.now) c.args.self.target.now.cell c.args.self.target.now.at (pures_of c.args.self.subscripts.items) (pure_of c.args.value) s
    ≡ emit (tree.put c.in_ok-array.array (pures_of c.args.self.subscripts.items) (pure_of c.args.value) c.args.self.target.now.at) s =
    store_element (call_of c.args.frame.now) c.args.self.target.now.cell c.args.self.target.now.at c.args.self.subscripts.items (pure_of c.args.value) s e
    ∙ ap (λ (a : ArrayId). emit (tree.put a (pures_of c.args.self.subscripts.items) (pure_of c.args.value) c.args.self.target.now.at) s) (sym c.in_ok-array.ensures) in
    subst (λ (part : Part (Unit {0})). IfRefused c.put.result (λ r. IsTooHeavy (stock c.args.work.now) r part)) (sym same) c.put.ensures.refused
