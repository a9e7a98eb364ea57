use Rattle.std.proofs.Common.{◌-◌, refl, codes}
use Rattle.aig_text.specs.GraphText.{number_text}
use Rattle.aig_text.specs.Forms as forms
use Rattle.aig_text.specs.Forms.{Head}
use Rattle.aig_text.specs.Reading.{ReadsSome, AtMost, AnySize}
use Rattle.aig_text.specs.Views.{ShowsHead}
use Rattle.aig_text.proofs.Reading.{passed, view_found, view_stuck, first_stuck, later_stuck, later_found}
use Rattle.aig_text.proofs.Atoms.{unique_word, unique_number, has_word}
use Rattle.aig_text.proofs.Graphs.{head_view, has_variables, has_inputs, has_latches, has_last}
use Rattle.aig_text.proofs.read.header.Goals as goal

pub returns-in_err-word : goal.returns-in_err-word
returns-in_err-word c =
    passed (λ r. ReadsSome forms.head ShowsHead r c.args.cursor.now c.word.new.self) _ c.from_residual.ensures.1 (λ y e. e) (λ y h. h) c.in_err-word.ensures
    (λ q. view_stuck head_view (first_stuck q (λ x i. has_variables)))

pub returns-in_err-variables : goal.returns-in_err-variables
returns-in_err-variables c =
    passed (λ r. ReadsSome forms.head ShowsHead r c.args.cursor.now c.number.new.self) _ c.from_residual-in_err-variables.ensures.1 (λ y e. e) (λ y h. h) c.in_err-variables.ensures
    (λ q. view_stuck head_view (later_stuck _ (unique_word (codes "aag ")) c.in_ok-word.ensures (first_stuck q (λ m i. has_inputs m))))

pub returns-in_err-inputs : goal.returns-in_err-inputs
returns-in_err-inputs c =
    let m = c.in_ok-variables.variables in
    passed (λ r. ReadsSome forms.head ShowsHead r c.args.cursor.now c.number-2.new.self) _ c.from_residual-in_err-inputs.ensures.1 (λ y e. e) (λ y h. h) c.in_err-inputs.ensures
    (λ q. view_stuck head_view (later_stuck _ (unique_word (codes "aag ")) c.in_ok-word.ensures (later_stuck _ (unique_number (AtMost 2147483647) 32 refl) c.in_ok-variables.ensures (first_stuck q (λ i j. has_latches m i)))))

pub returns-in_err-latches : goal.returns-in_err-latches
returns-in_err-latches c =
    let m = c.in_ok-variables.variables in
    let i = c.in_ok-inputs.inputs in
    passed (λ r. ReadsSome forms.head ShowsHead r c.args.cursor.now c.number-3.new.self) _ c.from_residual-in_err-latches.ensures.1 (λ y e. e) (λ y h. h) c.in_err-latches.ensures
    (λ q. view_stuck head_view (later_stuck _ (unique_word (codes "aag ")) c.in_ok-word.ensures (later_stuck _ (unique_number (AtMost 2147483647) 32 refl) c.in_ok-variables.ensures
    (later_stuck _ (unique_number (AtMost m) 32 refl) c.in_ok-inputs.ensures (first_stuck q (λ l j. has_last m i l))))))

pub returns-in_err-outputs : goal.returns-in_err-outputs
returns-in_err-outputs c =
    let m = c.in_ok-variables.variables in
    let i = c.in_ok-inputs.inputs in
    let l = c.in_ok-latches.latches in
    passed (λ r. ReadsSome forms.head ShowsHead r c.args.cursor.now c.any_number.new.self) _ c.from_residual-in_err-outputs.ensures.1 (λ y e. e) (λ y h. h) c.in_err-outputs.ensures
    (λ q. view_stuck head_view (later_stuck _ (unique_word (codes "aag ")) c.in_ok-word.ensures (later_stuck _ (unique_number (AtMost 2147483647) 32 refl) c.in_ok-variables.ensures
    (later_stuck _ (unique_number (AtMost m) 32 refl) c.in_ok-inputs.ensures (later_stuck _ (unique_number (AtMost (m - i)) 32 refl) c.in_ok-latches.ensures (first_stuck q (λ o j. has_word (number_text 10 (m - i - l)))))))))

pub returns-in_err-exactly : goal.returns-in_err-exactly
returns-in_err-exactly c =
    let m = c.in_ok-variables.variables in
    let i = c.in_ok-inputs.inputs in
    let o = c.in_ok-outputs.ensures in
    passed (λ r. ReadsSome forms.head ShowsHead r c.args.cursor.now c.exactly.new.self) _ c.from_residual-in_err-exactly.ensures.1 (λ y e. e) (λ y h. h) c.in_err-exactly.ensures
    (λ q. view_stuck head_view (later_stuck _ (unique_word (codes "aag ")) c.in_ok-word.ensures (later_stuck _ (unique_number (AtMost 2147483647) 32 refl) c.in_ok-variables.ensures
    (later_stuck _ (unique_number (AtMost m) 32 refl) c.in_ok-inputs.ensures (later_stuck _ (unique_number (AtMost (m - i)) 32 refl) c.in_ok-latches.ensures (later_stuck _ (unique_number AnySize 32 refl) o.2 q))))))

pub returns : goal.returns
returns c =
    let m = c.in_ok-variables.variables in
    let i = c.in_ok-inputs.inputs in
    let l = c.in_ok-latches.latches in
    let o = c.in_ok-outputs.ensures in
    let x : Head = record { inputs = i; latches = l; outputs = o.0; gates = m - i - l } in
    let f = view_found head_view (later_found _ c.in_ok-word.ensures (later_found _ c.in_ok-variables.ensures (later_found _ c.in_ok-inputs.ensures (later_found _ c.in_ok-latches.ensures (later_found _ o.2 c.in_ok-exactly.ensures))))) in
    (x, record { inputs = refl; latches = refl; outputs = o.1; gates = refl }, f)
