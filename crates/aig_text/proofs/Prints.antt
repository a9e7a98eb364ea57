-- One text after another, written behind what stands there already.
use Rattle.std.proofs.Common.{◌≡◌, ℕ, zero, suc, ◌+◌, ◌*◌, ◌<◌, ◌≤◌, List, [], ◌∷◌, ◌++◌, take, length, get_or, if◌then◌else◌, Result, Ok, Err, ◌^◌, sym, ap, ◌∙◌, append_assoc, arith}
use Rattle.std.specs.Prelude.{OnOk}
use Rattle.std.specs.Result.{is_ok}
use Rattle.std.specs.Fmt.{decimal}
use Rattle.std.proofs.lemmas.List.{take_more, take_all, length-take-le}
use Rattle.aig_graph.specs.Graphs.{AndGraph}
use Rattle.aig_text.specs.GraphText.{lines_from, input_lines, number_text, graph_header, graph_text, latch_line, output_line, gate_line}
use Rattle.aig_text.proofs.Numerals.{numeral_decimal}
use Rattle.aig_text.proofs.Reading.{append_none}

pub then_text : (x y z : List ℕ) (u v : List ℕ) → y ≡ x ++ u → z ≡ y ++ v → z ≡ x ++ (u ++ v)
then_text x y z u v e f = f ∙ (ap (λ w. w ++ v) e ∙ append_assoc x u v)

lines_push : {A : Type 0} (text : ℕ → A → List ℕ) (k : ℕ) (xs : List A) (x : A) → lines_from text k (xs ++ (x ∷ [])) ≡ lines_from text k xs ++ text (k + length xs) x
lines_push text k [] x = let e : k ≡ k + 0 = omega arith in append_none (text k x) ∙ ap (λ i. text i x) e
lines_push text k (y ∷ xs) x =
    let e : suc k + length xs ≡ k + suc (length xs) = omega arith in
    ap (λ z. text k y ++ z) (lines_push text (suc k) xs x ∙ ap (λ i. lines_from text (suc k) xs ++ text i x) e)
    ∙ sym (append_assoc (text k y) (lines_from text (suc k) xs) (text (k + suc (length xs)) x))

-- one more line
pub more_lines : {A : Type 0} (text : ℕ → A → List ℕ) (k : ℕ) (rows : List A) (i n : ℕ) (d : A) (x y z : List ℕ) →
    i < length rows → n ≡ k + i → y ≡ x ++ lines_from text k (take i rows) → z ≡ y ++ text n (get_or rows i d) → z ≡ x ++ lines_from text k (take (i + 1) rows)
more_lines {A} text k rows i n d x y z h at e f =
    let row : A = get_or rows i d in
    let taken : take (i + 1) rows ≡ take i rows ++ (row ∷ []) = take_more rows i d h in
    let long : n ≡ k + length (take i rows) = at ∙ ap (λ m. k + m) (sym (length-take-le i rows (omega arith))) in
    then_text x y z _ _ e (f ∙ ap (λ m. y ++ text m row) long) ∙ ap (λ w. x ++ w) (sym (ap (lines_from text k) taken ∙ lines_push text k (take i rows) row))

pub all_lines : {A : Type 0} (text : ℕ → A → List ℕ) (k : ℕ) (rows : List A) (i : ℕ) (x y : List ℕ) → length rows ≤ i → y ≡ x ++ lines_from text k (take i rows) → y ≡ x ++ lines_from text k rows
all_lines text k rows i x y h e = e ∙ ap (λ r. x ++ lines_from text k r) (take_all i rows h)

inputs_push : (k n : ℕ) → input_lines k (suc n) ≡ input_lines k n ++ number_text 10 (2 * (k + n))
inputs_push k zero = let e : k ≡ k + 0 = omega arith in append_none (number_text 10 (2 * k)) ∙ ap (λ i. number_text 10 (2 * i)) e
inputs_push k (suc n) =
    let e : suc k + n ≡ k + suc n = omega arith in
    ap (λ z. number_text 10 (2 * k) ++ z) (inputs_push (suc k) n ∙ ap (λ i. input_lines (suc k) n ++ number_text 10 (2 * i)) e)
    ∙ sym (append_assoc (number_text 10 (2 * k)) (input_lines (suc k) n) (number_text 10 (2 * (k + suc n))))

-- one more input
pub more_inputs : (k m : ℕ) (x y z : List ℕ) → m ≡ 2 * (1 + k) → y ≡ x ++ input_lines 1 k → z ≡ y ++ number_text 10 m → z ≡ x ++ input_lines 1 (k + 1)
more_inputs k m x y z at e f =
    let next : suc k ≡ k + 1 = omega arith in
    then_text x y z _ _ e (f ∙ ap (λ i. y ++ number_text 10 i) at) ∙ (ap (λ w. x ++ w) (sym (inputs_push 1 k)) ∙ ap (λ n. x ++ input_lines 1 n) next)

-- what a call wrote that writes nothing where it fails
pub written : {A E Q : Type 0} (r : Result A E) (z u v : List ℕ) → z ≡ (if is_ok r then u else v) → (z ≡ u → Q) → OnOk r Q
written (Ok x) z u v h f = f h
written (Err e) z u v h f = tt

-- the digits and the byte behind them
pub more_number : (n end : ℕ) (x y z digits : List ℕ) → n < 2 ^ 64 → digits ≡ decimal n → y ≡ x ++ digits → z ≡ y ++ (end ∷ []) → z ≡ x ++ number_text end n
more_number n end x y z digits h d e f = then_text x y z digits (end ∷ []) e f ∙ ap (λ t. x ++ (t ++ (end ∷ []))) (d ∙ sym (numeral_decimal n h))

pub whole_text : (g : AndGraph) (o x1 x2 x3 x4 x5 t : List ℕ) → o ≡ [] → x1 ≡ o ++ graph_header g → x2 ≡ x1 ++ input_lines 1 g.inputs → x3 ≡ x2 ++ lines_from latch_line (g.inputs + 1) g.latches →
    x4 ≡ x3 ++ lines_from (λ k. output_line) 0 g.outputs → x5 ≡ x4 ++ lines_from gate_line (g.inputs + length g.latches + 1) g.ands → t ≡ x5 → t ≡ graph_text g
whole_text g o x1 x2 x3 x4 x5 t none e1 e2 e3 e4 e5 e =
    let all = then_text o x1 x5 (graph_header g) _ e1 (then_text x1 x2 x5 (input_lines 1 g.inputs) _ e2 (then_text x2 x3 x5 (lines_from latch_line (g.inputs + 1) g.latches) _ e3
    (then_text x3 x4 x5 (lines_from (λ k. output_line) 0 g.outputs) (lines_from gate_line (g.inputs + length g.latches + 1) g.ands) e4 e5))) in
    e ∙ (all ∙ ap (λ z. z ++ graph_text g) none)
