use Rattle.std.proofs.Common.{◌≡◌, ◌+◌, ◌*◌, ◌∷◌, ◌++◌, [], subst, arith}
use Rattle.aig_text.specs.GraphText.{input_lines, number_text}
use Rattle.aig_text.specs.Forms.{input, rows}
use Rattle.aig_text.specs.Reading.{Reads, Found, Stuck, word}
use Rattle.aig_text.proofs.Reading.{passed, view_found, view_stuck}
use Rattle.aig_text.proofs.Atoms.{unique_word, has_word}
use Rattle.aig_text.proofs.NumberedRows.{rows_none, rows_more, rows_stuck, inputs_view}
use Rattle.aig_text.proofs.rows.inputs.Goals as goal

pub loop-k-init : goal.loop-k-init
loop-k-init c = ([], rows_none input 1 _)

pub returns-in_err-exactly : goal.returns-in_err-exactly
returns-in_err-exactly c =
    let i = c.loop-k.invariant in
    let k = c.loop-k.k in
    passed (λ r. Reads (word (input_lines 1 c.args.count)) r c.args.cursor.now c.exactly.new.self) _ c.from_residual.ensures.1 (λ y e. e) (λ y h. h) c.in_err-exactly.ensures
    (λ q. view_stuck (inputs_view 1 c.args.count)
    (rows_stuck input (λ n. unique_word (number_text 10 (2 * n))) 1 k c.args.count (λ n l. has_word (number_text 10 (2 * n))) i.0 _ _ _ c.loop-k-test.true i.1
    (subst (λ n. Stuck (input n) c.loop-k.cursor c.exactly.new.self) (let e : k + 1 ≡ 1 + k = omega arith in e) q)))

pub loop-k-preserved : goal.loop-k-preserved
loop-k-preserved c =
    let i = c.loop-k.invariant in
    let k = c.loop-k.k in
    (i.0 ++ (tt ∷ []), rows_more input 1 k i.0 tt _ _ _ i.1 (subst (λ n. Found (input n) tt c.loop-k.cursor c.exactly.new.self) (let e : k + 1 ≡ 1 + k = omega arith in e) c.in_ok-exactly.ensures))

pub returns : goal.returns
returns c =
    let i = c.loop-k.invariant in
    let e : c.loop-k.k ≡ c.args.count = omega (arith, c.loop-k-test.false, c.loop-k.auto.k-end) in
    view_found (inputs_view 1 c.args.count) (subst (λ n. Found (rows input 1 n) i.0 c.args.cursor.now c.loop-k.cursor) e i.1)
