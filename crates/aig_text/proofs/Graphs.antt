-- The parts of a graph's text, each as one piece behind another.
use Rattle.std.proofs.Common.{◌≡◌, ℕ, zero, suc, ◌+◌, ◌*◌, ◌-◌, ◌^◌, ◌≤◌, ◌<◌, List, [], ◌∷◌, ◌++◌, length, codes, sym, ap, ◌∙◌, subst, refl, arith, length-append}
use Rattle.std.specs.List.{All}
use Rattle.std.proofs.lemmas.List.Elements.{All-head, All-tail, All-nil, All-cons}
use Rattle.aig_graph.specs.declared.aig.Gate.{Gate}
use Rattle.aig_graph.specs.Graphs.{AndGraph, Ordered, IsLiteralOf}
use Rattle.aig_text.specs.GraphText as text
use Rattle.aig_text.specs.GraphText.{numeral, number_text, input_lines, lines_from}
use Rattle.aig_text.specs.Reading.{Texts, Found, word, number, any_number, also, AtMost, AnySize, Saturates}
use Rattle.aig_text.specs.Forms as forms
use Rattle.aig_text.specs.Forms.{Head, variables, AreRows, rows}
use Rattle.aig_text.specs.declared.read.Counts.{Counts}
use Rattle.aig_text.specs.Views.{ShowsHead}
use Rattle.aig_text.proofs.Reading.{Unique, Has, View, has_also, unique_also, view_unique}
use Rattle.aig_text.proofs.Atoms.{unique_word, unique_number, has_word, has_number}
use Rattle.aig_text.proofs.NumberedRows.{has_rows, unique_rows, rows_long, rows_text}
use Rattle.aig_text.proofs.Numerals.{numeral_some}

-- ---- latches

abbrev pub latch_parts : ℕ → ℕ → Texts (Unit {0} × ℕ)
latch_parts high k = also (word (number_text 32 (2 * k))) (λ u. number high 10)

pub latch_view : (high k : ℕ) → View (latch_parts high k) (forms.latch high k) (λ p. p.1)
unfolding also
latch_view high k = record { is = λ b i. i.1; text = λ b i. refl; onto = λ a i. ((tt, a), (tt, i), refl) }

pub unique_latch : (high k : ℕ) → Unique (forms.latch high k)
unique_latch high k = view_unique (latch_view high k) (unique_also _ _ (unique_word (number_text 32 (2 * k))) (λ u i. unique_number (AtMost high) 10 refl))

pub has_literal : (high end : ℕ) → Has (number high end)
has_literal high end = has_number (AtMost high) end (omega arith)

pub has_latch : (high k : ℕ) → Has (forms.latch high k)
has_latch high k = record { value = 0; is = omega arith }

-- ---- outputs

pub output_view : (high k : ℕ) → View (number high 10) (forms.output high k) (λ n. n)
output_view high k = record { is = λ b i. i; text = λ b i. refl; onto = λ a i. (a, i, refl) }

pub unique_output : (high k : ℕ) → Unique (forms.output high k)
unique_output high k = view_unique (output_view high k) (unique_number (AtMost high) 10 refl)

pub has_output : (high k : ℕ) → Has (forms.output high k)
has_output high k = record { value = 0; is = omega arith }

output_long : (high k x : ℕ) → 2 ≤ length ((forms.output high k).text x)
output_long high k x =
    let s = numeral_some x in
    let l = length-append (numeral x) (10 ∷ []) in
    let m = ap length s.2 in
    omega (arith, l, m)

-- where a count of outputs was reached, it was no greater number's
pub counted : (high v n : ℕ) (ls old new : List ℕ) → Saturates v n → length old < 2 ^ 64 → Found (rows (forms.output high) 0 v) ls old new → Found (rows (forms.output high) 0 n) ls old new
counted high v n ls old new s short f =
    let l = rows_long (forms.output high) (output_long high) 0 ls in
    let m = ap length f.text ∙ length-append (rows_text (forms.output high) 0 ls) new in
    let t : v < 18446744073709551615 = omega (arith, l, m, f.is.0) in
    record { is = (f.is.0 ∙ s.1 t, f.is.1); text = f.text }

-- ---- gates

abbrev pub gate_parts : ℕ → Texts (Unit {0} × (ℕ × ℕ))
gate_parts k = also (word (number_text 32 (2 * k))) (λ u. also (number (2 * k - 1) 32) (λ l. number (2 * k - 1) 10))

abbrev pub gate_from : Unit {0} × (ℕ × ℕ) → Gate
gate_from p = record { left = p.1.0; right = p.1.1 }

pub gate_view : (k : ℕ) → 1 ≤ k → View (gate_parts k) (forms.gate k) gate_from
unfolding also
gate_view k h = record {
  is = λ b i. (omega (arith, h, i.1.0), omega (arith, h, i.1.1));
  text = λ b i. refl;
  onto = λ a i. ((tt, (a.left, a.right)), (tt, (omega (arith, i.0), omega (arith, i.1))), refl);
}

pub unique_gate : (k : ℕ) → Unique (forms.gate k)
unique_gate zero = λ x y v w i j e. let n : x.left < 2 * 0 = i.0 in absurd (omega (arith, n))
unique_gate (suc k) =
    view_unique (gate_view (suc k) (omega arith))
    (unique_also _ _ (unique_word (number_text 32 (2 * suc k))) (λ u i. unique_also _ _ (unique_number (AtMost (2 * suc k - 1)) 32 refl) (λ l j. unique_number (AtMost (2 * suc k - 1)) 10 refl)))

pub has_gate : (k : ℕ) → 1 ≤ k → Has (forms.gate k)
has_gate k h = record { value = record { left = 0; right = 0 }; is = (omega (arith, h), omega (arith, h)) }

pub has_right : (k : ℕ) → Has (also (number (2 * k - 1) 32) (λ l. number (2 * k - 1) 10))
has_right k = has_also (has_literal (2 * k - 1) 32) (λ x i. has_literal (2 * k - 1) 10)

-- ---- the header

abbrev pub last_part : ℕ → ℕ → ℕ → Texts (ℕ × Unit {0})
last_part m i l = also (any_number 32) (λ o. word (number_text 10 (m - i - l)))

abbrev pub latches_part : ℕ → ℕ → Texts (ℕ × (ℕ × Unit {0}))
latches_part m i = also (number (m - i) 32) (λ l. last_part m i l)

abbrev pub inputs_part : ℕ → Texts (ℕ × (ℕ × (ℕ × Unit {0})))
inputs_part m = also (number m 32) (λ i. latches_part m i)

abbrev pub variables_part : Texts (ℕ × (ℕ × (ℕ × (ℕ × Unit {0}))))
variables_part = also (number 2147483647 32) (λ m. inputs_part m)

abbrev pub head_parts : Texts (Unit {0} × (ℕ × (ℕ × (ℕ × (ℕ × Unit {0})))))
head_parts = also (word (codes "aag ")) (λ u. variables_part)

abbrev pub head_from : Unit {0} × (ℕ × (ℕ × (ℕ × (ℕ × Unit {0})))) → Head
head_from p = record { inputs = p.1.1.0; latches = p.1.1.1.0; outputs = p.1.1.1.1.0; gates = p.1.0 - p.1.1.0 - p.1.1.1.0 }

pub has_last : (m i l : ℕ) → Has (last_part m i l)
has_last m i l = has_also (has_number AnySize 32 tt) (λ o j. has_word (number_text 10 (m - i - l)))

pub has_latches : (m i : ℕ) → Has (latches_part m i)
has_latches m i = has_also (has_literal (m - i) 32) (λ l j. has_last m i l)

pub has_inputs : (m : ℕ) → Has (inputs_part m)
has_inputs m = has_also (has_literal m 32) (λ i j. has_latches m i)

pub has_variables : Has variables_part
has_variables = has_also (has_literal 2147483647 32) (λ m j. has_inputs m)

sum_again : (m i l : ℕ) → i ≤ m → l ≤ m - i → m ≡ i + l + (m - i - l)
sum_again m i l h k = omega arith

pub head_view : View head_parts forms.head head_from
unfolding also
head_view = record {
  is = λ b j. let s = sum_again b.1.0 b.1.1.0 b.1.1.1.0 j.1.1.0 j.1.1.1.0 in subst (λ n. n ≤ 2147483647) s j.1.0;
  text = λ b j.
      let s = sum_again b.1.0 b.1.1.0 b.1.1.1.0 j.1.1.0 j.1.1.1.0 in
      ap (λ n. codes "aag " ++ (number_text 32 n ++ ((inputs_part b.1.0).text b.1.1))) s;
  onto = λ h j.
      let n : variables h - h.inputs - h.latches ≡ h.gates = omega arith in (
        (tt, (variables h, (h.inputs, (h.latches, (h.outputs, tt))))),
        (tt, (j, (omega arith, (omega arith, (tt, tt))))),
        ap (λ g. let x : Head = record { inputs = h.inputs; latches = h.latches; outputs = h.outputs; gates = g } in x) n,
      );
}

pub unique_head : Unique forms.head
unique_head =
    view_unique head_view
    (unique_also _ _ (unique_word (codes "aag ")) (λ u a. unique_also _ _ (unique_number (AtMost 2147483647) 32 refl)
    (λ m b. unique_also _ _ (unique_number (AtMost m) 32 refl) (λ i c. unique_also _ _ (unique_number (AtMost (m - i)) 32 refl)
    (λ l d. unique_also _ _ (unique_number AnySize 32 refl) (λ o e. unique_word (number_text 10 (m - i - l))))))))

-- ---- the whole graph

abbrev pub gates_part : Head → Texts (List Gate)
gates_part h = rows forms.gate (h.inputs + h.latches + 1) h.gates

abbrev pub highest : Head → ℕ
highest h = 2 * variables h + 1

abbrev pub outputs_part : Head → Texts (List ℕ × List Gate)
outputs_part h = also (rows (forms.output (highest h)) 0 h.outputs) (λ os. gates_part h)

abbrev pub latch_rows : Head → Texts (List ℕ)
latch_rows h = rows (forms.latch (highest h)) (h.inputs + 1) h.latches

abbrev pub rows_part : Head → Texts (List ℕ × (List ℕ × List Gate))
rows_part h = also (latch_rows h) (λ ls. outputs_part h)

abbrev pub behind_head : Head → Texts (Unit {0} × (List ℕ × (List ℕ × List Gate)))
behind_head h = also (word (input_lines 1 h.inputs)) (λ u. rows_part h)

abbrev pub graph_parts : Texts (Head × (Unit {0} × (List ℕ × (List ℕ × List Gate))))
graph_parts = also forms.head (λ h. behind_head h)

abbrev pub graph_from : Head × (Unit {0} × (List ℕ × (List ℕ × List Gate))) → AndGraph
graph_from p = record { inputs = p.0.inputs; latches = p.1.1.0; outputs = p.1.1.1.0; ands = p.1.1.1.1 }

pub has_gates : (h : Head) → Has (gates_part h)
has_gates h = has_rows forms.gate (h.inputs + h.latches + 1) h.gates (λ i l. has_gate i (omega arith))

pub has_outputs : (h : Head) → Has (outputs_part h)
has_outputs h = has_also (has_rows (forms.output (highest h)) 0 h.outputs (λ i l. has_output (highest h) i)) (λ x i. has_gates h)

pub has_rows_part : (h : Head) → Has (rows_part h)
has_rows_part h = has_also (has_rows (forms.latch (highest h)) (h.inputs + 1) h.latches (λ i l. has_latch (highest h) i)) (λ x i. has_outputs h)

pub has_behind : (h : Head) → Has (behind_head h)
has_behind h = has_also (has_word (input_lines 1 h.inputs)) (λ x i. has_rows_part h)

all_latches : (P : ℕ → Type 0) (high k : ℕ) (ls : List ℕ) → ((n : ℕ) → n ≤ high → P n) → AreRows (forms.latch high) k ls → All P ls
all_latches P high k [] f i = All-nil P
all_latches P high k (l ∷ ls) f i = All-cons P l ls (f l i.0) (all_latches P high (suc k) ls f i.1)

are_latches : (P : ℕ → Type 0) (high k : ℕ) (ls : List ℕ) → ((n : ℕ) → P n → n ≤ high) → All P ls → AreRows (forms.latch high) k ls
are_latches P high k [] f i = tt
are_latches P high k (l ∷ ls) f i = (f l (All-head P l ls i), are_latches P high (suc k) ls f (All-tail P l ls i))

all_outputs : (P : ℕ → Type 0) (high k : ℕ) (ls : List ℕ) → ((n : ℕ) → n ≤ high → P n) → AreRows (forms.output high) k ls → All P ls
all_outputs P high k [] f i = All-nil P
all_outputs P high k (l ∷ ls) f i = All-cons P l ls (f l i.0) (all_outputs P high (suc k) ls f i.1)

are_outputs : (P : ℕ → Type 0) (high k : ℕ) (ls : List ℕ) → ((n : ℕ) → P n → n ≤ high) → All P ls → AreRows (forms.output high) k ls
are_outputs P high k [] f i = tt
are_outputs P high k (l ∷ ls) f i = (f l (All-head P l ls i), are_outputs P high (suc k) ls f (All-tail P l ls i))

ordered_from : (k : ℕ) (gs : List Gate) → AreRows forms.gate k gs → Ordered k gs
ordered_from k [] i = tt
ordered_from k (g ∷ gs) i = (i.0.0, i.0.1, ordered_from (suc k) gs i.1)

are_gates : (k : ℕ) (gs : List Gate) → Ordered k gs → AreRows forms.gate k gs
are_gates k [] i = tt
are_gates k (g ∷ gs) i = ((i.0, i.1), are_gates (suc k) gs i.2)

-- the text of these parts, by the counts that the header says
abbrev counted_text : ℕ → List ℕ → List ℕ → List Gate → ℕ → ℕ → ℕ → List ℕ
counted_text inputs ls os gs l o a =
    text.header (inputs + l + a) inputs l o a
    ++ (input_lines 1 inputs ++ (lines_from text.latch_line (inputs + 1) ls ++ (lines_from (λ k. text.output_line) 0 os ++ lines_from text.gate_line (inputs + l + 1) gs)))

one_more : (i l n : ℕ) → n ≡ l → i + l + 1 ≡ suc (i + n)
one_more i l n e = omega (arith, e)

pub graph_view : View graph_parts forms.graph graph_from
unfolding also
graph_view = record {
  is = λ b i.
      let l = i.1.1.0.0 in
      let a = i.1.1.1.1.0 in
      let few = i.0 in
      record {
        latches = all_latches (IsLiteralOf (graph_from b)) (highest b.0) (b.0.inputs + 1) b.1.1.0 (λ n h. omega (arith, h, l, a)) i.1.1.0.1;
        outputs = all_outputs (IsLiteralOf (graph_from b)) (highest b.0) 0 b.1.1.1.0 (λ n h. omega (arith, h, l, a)) i.1.1.1.0.1;
        ands = ordered_from (suc (b.0.inputs + length b.1.1.0)) b.1.1.1.1 (subst (λ n. AreRows forms.gate n b.1.1.1.1) (one_more b.0.inputs b.0.latches (length b.1.1.0) l) i.1.1.1.1.1);
        few = omega (arith, few, l, a);
      };
  text = λ b i.
      let h = b.0 in
      let ls = b.1.1.0 in
      let os = b.1.1.1.0 in
      let gs = b.1.1.1.1 in
      ap (λ n. counted_text h.inputs ls os gs n h.outputs h.gates) (sym i.1.1.0.0)
      ∙ (ap (λ n. counted_text h.inputs ls os gs (length ls) n h.gates) (sym i.1.1.1.0.0)
      ∙ ap (λ n. counted_text h.inputs ls os gs (length ls) (length os) n) (sym i.1.1.1.1.0));
  onto = λ g i.
      let h : Head = record { inputs = g.inputs; latches = length g.latches; outputs = length g.outputs; gates = length g.ands } in (
        (h, (tt, (g.latches, (g.outputs, g.ands)))),
        (
          i.few,
          (
            tt,
            (
              (refl, are_latches (IsLiteralOf g) (highest h) (g.inputs + 1) g.latches (λ n k. omega (arith, k)) i.latches),
              (
                (refl, are_outputs (IsLiteralOf g) (highest h) 0 g.outputs (λ n k. omega (arith, k)) i.outputs),
                (refl, subst (λ n. AreRows forms.gate n g.ands) (sym (one_more g.inputs (length g.latches) (length g.latches) refl)) (are_gates (suc (g.inputs + length g.latches)) g.ands i.ands)),
              ),
            ),
          ),
        ),
        refl,
      );
}

pub unique_latches : (h : Head) → Unique (latch_rows h)
unique_latches h = unique_rows (forms.latch (highest h)) (unique_latch (highest h)) (h.inputs + 1) h.latches

pub unique_outputs : (h : Head) → Unique (rows (forms.output (highest h)) 0 h.outputs)
unique_outputs h = unique_rows (forms.output (highest h)) (unique_output (highest h)) 0 h.outputs

pub unique_graph : Unique forms.graph
unique_graph =
    view_unique graph_view
    (unique_also _ _ unique_head (λ h a. unique_also _ _ (unique_word (input_lines 1 h.inputs)) (λ u b. unique_also _ _ (unique_latches h)
    (λ ls c. unique_also _ _ (unique_outputs h) (λ os d. unique_rows forms.gate unique_gate (h.inputs + h.latches + 1) h.gates)))))

-- ---- the header as it is read

head_of : ℕ → ℕ → ℕ → ℕ → Head
head_of i l o a = record { inputs = i; latches = l; outputs = o; gates = a }

-- the head, with the counts that the reader has
abbrev pub seen_head : Counts → Head → Head
seen_head h x = record { inputs = h.inputs; latches = h.latches; outputs = x.outputs; gates = h.gates }

pub seen_is : (h : Counts) (x : Head) → ShowsHead h x → x ≡ seen_head h x
unfolding head_of
seen_is h x s =
    ap (λ n. head_of n x.latches x.outputs x.gates) (sym s.inputs)
    ∙ (ap (λ n. head_of h.inputs n x.outputs x.gates) (sym s.latches) ∙ ap (λ n. head_of h.inputs h.latches x.outputs n) (sym s.gates))

pub seen_found : (h : Counts) (x : Head) (old new : List ℕ) → ShowsHead h x → Found forms.head x old new → Found forms.head (seen_head h x) old new
seen_found h x old new s f = subst (λ y. Found forms.head y old new) (seen_is h x s) f

-- what is left is no longer
pub found_short : {A : Type 0} {T : Texts A} {x : A} {old new : List ℕ} (most : ℕ) → Found T x old new → length old < most → length new < most
found_short {A} {T} {x} {old} {new} most f h = let l = ap length f.text ∙ length-append (T.text x) new in omega (arith, l, h)
