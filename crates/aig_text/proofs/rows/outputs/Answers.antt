use Rattle.std.proofs.Common.{◌≡◌, ◌+◌, sym, subst, arith}
use Rattle.aig_text.specs.Forms as forms
use Rattle.aig_text.specs.Reading.{ReadsAs, Found}
use Rattle.aig_text.proofs.Reading.{passed, view_found, view_stuck}
use Rattle.aig_text.proofs.NumberedRows.{rows_none, rows_more, rows_stuck}
use Rattle.aig_text.proofs.Graphs.{output_view, unique_output, has_output, counted}
use Rattle.aig_text.proofs.rows.outputs.Goals as goal

pub loop-init : goal.loop-init
loop-init c = (omega arith, subst (λ xs. Found (forms.rows (forms.output c.args.high) 0 0) xs c.args.cursor.now c.args.cursor.now) (sym c.new-literals.ensures.items) (rows_none (forms.output c.args.high) 0 c.args.cursor.now))

pub returns-in_err-literal : goal.returns-in_err-literal
returns-in_err-literal c = λ n s.
    let high = c.args.high in
    passed (λ r. ReadsAs (forms.rows (forms.output high) 0 n) (λ xs. xs.items) r c.args.cursor.now c.number.new.self) _ c.from_residual.ensures.1 (λ y e. e) (λ y h. h) c.in_err-literal.ensures
    (λ q. rows_stuck (forms.output high) (unique_output high) 0 c.loop.counter n (λ i l. has_output high i) _ _ _ _ (omega (arith, s.0, c.loop-test.true)) c.loop.invariant.1 (view_stuck (output_view high c.loop.counter) q))

pub loop-preserved : goal.loop-preserved
loop-preserved c = (
  omega (arith, c.loop-test.true),
  subst (λ xs. Found (forms.rows (forms.output c.args.high) 0 (c.loop.counter + 1)) xs c.args.cursor.now c.number.new.self) (sym c.in_ok-push.ensures.items)
      (rows_more (forms.output c.args.high) 0 c.loop.counter _ _ _ _ _ c.loop.invariant.1 (view_found (output_view c.args.high c.loop.counter) c.in_ok-literal.ensures)),
)

pub returns : goal.returns
returns c = λ n s.
    let e : c.loop.counter ≡ c.args.count = omega (arith, c.loop-test.false, c.loop.invariant.0) in
    counted c.args.high c.args.count n _ _ _ s c.requires (subst (λ k. Found (forms.rows (forms.output c.args.high) 0 k) c.loop.literals.items c.args.cursor.now c.loop.cursor) e c.loop.invariant.1)
