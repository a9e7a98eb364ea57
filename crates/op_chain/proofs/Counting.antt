-- How often operands read the result of an operation.
use Rattle.std.proofs.Common.{◌≡◌, ◌∙◌, ◌≢◌, ℕ, zero, suc, ◌+◌, ◌≤◌, Bool, true, false, List, [], ◌∷◌, ◌++◌, Some, refl, ap, arith}
use Rattle.std.specs.Prelude.{slice_get, ◌==◌, ◌||◌, if◌then◌else◌}
use Rattle.std.specs.List.{list_any}
use Rattle.std.proofs.lemmas.Bool.{eq-eqb, and_parts}
use Rattle.ir_core.specs.declared.body.Operand.{Operand}
use Rattle.ir_core.specs.declared.body.Source.{Source}
use Rattle.ir_core.specs.declared.body.Source.TheVariants as source
use Rattle.ir_core.specs.Bodies.{OpTree}
use Rattle.op_chain.specs.Reads.{op_operands, ops_operands, names_result, is_result, is_result_now, reads}
use Rattle.op_chain.proofs.Performing.{some_same, none_some}

pub reads_append : (u : ℕ) (xs ys : List Operand) → reads u (xs ++ ys) ≡ reads u xs + reads u ys
reads_append u [] ys = omega arith
reads_append u (x ∷ xs) ys = by_test (reads_append u xs ys) (is_result u x) where
  by_test : reads u (xs ++ ys) ≡ reads u xs + reads u ys → (b : Bool) → (if b then suc (reads u (xs ++ ys)) else reads u (xs ++ ys)) ≡ (if b then suc (reads u xs) else reads u xs) + reads u ys
  by_test e true = omega (arith, e)
  by_test e false = e

pub reads_at : (u w : ℕ) (ops : List OpTree) (op : OpTree) → slice_get ops w ≡ Some op → reads u (op_operands op) ≤ reads u (ops_operands ops)
reads_at u w [] op e = none_some e
reads_at u zero (o ∷ os) op e =
    let f = ap (λ x. reads u (op_operands x)) (some_same e) in let g = reads_append u (op_operands o) (ops_operands os) in omega (arith, f, g)
reads_at u (suc w) (o ∷ os) op e =
    let f = reads_at u w os op e in let g = reads_append u (op_operands o) (ops_operands os) in omega (arith, f, g)

pub reads_two : (u v w : ℕ) (ops : List OpTree) (one two : OpTree) → v ≢ w → slice_get ops v ≡ Some one → slice_get ops w ≡ Some two → reads u (op_operands one) + reads u (op_operands two) ≤ reads u (ops_operands ops)
reads_two u v w [] one two apart e f = none_some e
reads_two u zero zero (o ∷ os) one two apart e f = absurd (apart refl)
reads_two u zero (suc w) (o ∷ os) one two apart e f =
    let g = reads_at u w os two f in let h = ap (λ x. reads u (op_operands x)) (some_same e) in let k = reads_append u (op_operands o) (ops_operands os) in omega (arith, g, h, k)
reads_two u (suc v) zero (o ∷ os) one two apart e f =
    let g = reads_at u v os one e in let h = ap (λ x. reads u (op_operands x)) (some_same f) in let k = reads_append u (op_operands o) (ops_operands os) in omega (arith, g, h, k)
reads_two u (suc v) (suc w) (o ∷ os) one two apart e f =
    let g = reads_two u v w os one two (λ h. apart (ap suc h)) e f in let k = reads_append u (op_operands o) (ops_operands os) in omega (arith, g, k)

-- ---- what names an operation reads it

pub names_itself : (u : ℕ) (x : Source) → x ≡ source.Result (record { 0 = u }) → names_result u x ≡ true
names_itself u x e = ap (names_result u) e ∙ eq-eqb u u refl

pub read_once_more : (u : ℕ) (x : Operand) (xs : List Operand) → is_result u x ≡ true → reads u (x ∷ xs) ≡ suc (reads u xs)
read_once_more u x xs e = ap (λ b. if b then suc (reads u xs) else reads u xs) e

pub reads_rest : (u : ℕ) (x : Operand) (xs : List Operand) → reads u xs ≤ reads u (x ∷ xs)
reads_rest u x xs = by_test (is_result u x) where
  by_test : (b : Bool) → reads u xs ≤ (if b then suc (reads u xs) else reads u xs)
  by_test true = omega arith
  by_test false = omega arith

-- what has it among its operands reads it
pub reads_some : (u : ℕ) (xs : List Operand) → list_any (is_result_now u) xs ≡ true → 1 ≤ reads u xs
reads_some u [] e = absurd cc
reads_some u (x ∷ xs) e = by_test (λ g. reads_some u xs g) (is_result_now u x) refl e where
  by_test : (list_any (is_result_now u) xs ≡ true → 1 ≤ reads u xs) → (b : Bool) → is_result_now u x ≡ b → (b || list_any (is_result_now u) xs) ≡ true → 1 ≤ reads u (x ∷ xs)
  by_test further true f g = let h = read_once_more u x xs (and_parts (is_result u x) (x.distance == 0) f).0 in omega (arith, h)
  by_test further false f g = let h = further g in let k = reads_rest u x xs in omega (arith, h, k)
