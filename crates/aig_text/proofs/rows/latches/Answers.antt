use Rattle.std.proofs.Common.{◌≡◌, ◌+◌, sym, subst, arith}
use Rattle.aig_text.specs.Forms as forms
use Rattle.aig_text.specs.Reading.{ReadsAs, Found}
use Rattle.aig_text.proofs.Reading.{passed}
use Rattle.aig_text.proofs.NumberedRows.{rows_none, rows_more, rows_stuck}
use Rattle.aig_text.proofs.Graphs.{unique_latch, has_latch}
use Rattle.aig_text.proofs.rows.latches.Goals as goal

pub loop-k-init : goal.loop-k-init
loop-k-init c = subst (λ xs. Found (forms.rows (forms.latch c.args.high) c.args.first 0) xs c.args.cursor.now c.args.cursor.now) (sym c.new-nexts.ensures.items) (rows_none (forms.latch c.args.high) c.args.first c.args.cursor.now)

pub returns-in_err-next : goal.returns-in_err-next
returns-in_err-next c =
    let high = c.args.high in
    passed (λ r. ReadsAs (forms.rows (forms.latch high) c.args.first c.args.count) (λ xs. xs.items) r c.args.cursor.now c.latch.new.cursor) _ c.from_residual.ensures.1 (λ y e. e) (λ y h. h) c.in_err-next.ensures
    (λ q. rows_stuck (forms.latch high) (unique_latch high) c.args.first c.loop-k.k c.args.count (λ n l. has_latch high n) _ _ _ _ c.loop-k-test.true c.loop-k.invariant q)

pub loop-k-preserved : goal.loop-k-preserved
loop-k-preserved c =
    subst (λ xs. Found (forms.rows (forms.latch c.args.high) c.args.first (c.loop-k.k + 1)) xs c.args.cursor.now c.latch.new.cursor) (sym c.in_ok-push.ensures.items)
    (rows_more (forms.latch c.args.high) c.args.first c.loop-k.k _ _ _ _ _ c.loop-k.invariant c.in_ok-next.ensures)

pub returns : goal.returns
returns c =
    let e : c.loop-k.k ≡ c.args.count = omega (arith, c.loop-k-test.false, c.loop-k.auto.k-end) in
    subst (λ n. Found (forms.rows (forms.latch c.args.high) c.args.first n) c.loop-k.nexts.items c.args.cursor.now c.loop-k.cursor) e c.loop-k.invariant
