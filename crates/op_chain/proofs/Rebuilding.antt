-- The code's loop over the operations of a body.
use Rattle.std.proofs.Common.{◌≡◌, ◌∙◌, ℕ, suc, ◌+◌, ◌<◌, ◌≤◌, true, false, List, [], ◌∷◌, ◌++◌, map, length, drop, get_or, Option, Some, inl, inr, sym, ap, ap₂, subst, arith, length-append, append_assoc}
use Rattle.std.specs.Prelude.{slice_get, if◌then◌else◌}
use Rattle.std.proofs.lemmas.Bool.{cases_lt}
use Rattle.std.proofs.lemmas.List.{length-map, get_or_append_left, get_or_at}
use Rattle.ir_core.specs.declared.body.Op.{Op}
use Rattle.ir_core.specs.declared.stamp.Untimed.{Untimed}
use Rattle.ir_core.specs.Bodies.{OpTree, op_of}
use Rattle.op_chain.specs.declared.choices.Taking.{Taking}
use Rattle.op_chain.specs.Fusing.{is_taken, new_op, emitted, Made, in_front, made}
use Rattle.op_chain.specs.Views.{IsCompact}
use Rattle.op_chain.proofs.Shown.{ops_from}

pub emits_none : (ops : List OpTree) (cs : List (Option Taking)) (now : List ℕ) (i : ℕ) (op : OpTree) → length now ≡ i → is_taken cs i ≡ true → emitted ops cs now op ≡ []
emits_none ops cs now i op place e = ap (λ b. if b then [] else new_op ops now op (slice_get cs (length now)) ∷ []) (ap (is_taken cs) place ∙ e)

pub emits_one : (ops : List OpTree) (cs : List (Option Taking)) (now : List ℕ) (i : ℕ) (op : OpTree) (choice : Option Taking) → length now ≡ i → is_taken cs i ≡ false → slice_get cs i ≡ Some choice
    → emitted ops cs now op ≡ new_op ops now op (Some choice) ∷ []
emits_one ops cs now i op choice place e f =
    ap (λ b. if b then [] else new_op ops now op (slice_get cs (length now)) ∷ []) (ap (is_taken cs) place ∙ e) ∙ ap (λ c. new_op ops now op c ∷ []) (ap (slice_get cs) place ∙ f)

compact_more : (now : List ℕ) (count : ℕ) → IsCompact now → count ≤ length now → IsCompact (now ++ count ∷ [])
compact_more now count h small k below =
    elim (cases_lt k (length now)) [
      | inl less ↦ subst (λ z. z ≤ k) (sym (get_or_append_left now (count ∷ []) 0 k less)) (h k less)
      | inr past ↦
          let e = length-append now (count ∷ []) in
          let here : k ≡ length now = omega (arith, e, below, past) in
          subst (λ z. z ≤ k) (sym (get_or_at now count [] 0 k (sym here))) (omega (arith, here, small))
    ]

one_step : (ops : List OpTree) (cs : List (Option Taking)) (now : List ℕ) (done : List OpTree) (op : OpTree) (all rest : List OpTree) (count : ℕ) → length done ≡ count → all ≡ op ∷ rest
    → in_front (done ++ emitted ops cs now op) (made ops cs (length (done ++ emitted ops cs now op)) (now ++ count ∷ []) rest) ≡ in_front done (made ops cs count now all)
one_step ops cs now done op all rest count place front =
    let new = emitted ops cs now op in
    let later = made ops cs (count + length new) (now ++ count ∷ []) rest in
    let sum : length (done ++ new) ≡ count + length new = length-append done new ∙ ap (λ n. n + length new) place in
    ap (λ n. in_front (done ++ new) (made ops cs n (now ++ count ∷ []) rest)) sum
    ∙ (ap (λ l. record { ops = l; now = later.now }) (append_assoc done new later.ops) ∙ ap (λ l. in_front done (made ops cs count now l)) (sym front))

pub record Stepped (ops : List (Op Untimed)) (cs : List (Option Taking)) (i : ℕ) (new : List (Op Untimed)) (now : List ℕ) (target : Made) : Type 0 where
  pub count : length now ≡ i + 1
  pub compact : IsCompact now
  pub below : length new ≤ i + 1
  pub made_ : in_front (map op_of new) (made (map op_of ops) cs (length new) now (map op_of (drop (i + 1) ops))) ≡ target

pub stepped : (ops : List (Op Untimed)) (cs : List (Option Taking)) (i number : ℕ) (old new : List (Op Untimed)) (now now2 : List ℕ) (x : Op Untimed) (target : Made) → length now ≡ i → IsCompact now → length old ≤ i
    → in_front (map op_of old) (made (map op_of ops) cs (length old) now (map op_of (drop i ops))) ≡ target → number ≡ length old → now2 ≡ now ++ number ∷ [] → i < length ops → x ≡ get_or ops i x → length new ≤ length old + 1
    → map op_of new ≡ map op_of old ++ emitted (map op_of ops) cs now (op_of x) → Stepped ops cs i new now2 target
stepped ops cs i number old new now now2 x target count compact below so_far is_number is_now within at small is_new =
    let all = map op_of ops in
    let done = map op_of old in
    let next : now2 ≡ now ++ length old ∷ [] = is_now ∙ ap (λ n. now ++ n ∷ []) is_number in
    let place : length done ≡ length old = length-map old op_of in
    let rest = map op_of (drop (i + 1) ops) in
    let front = ops_from ops i (i + 1) x within (let e : i + 1 ≡ suc i = omega arith in e) at in
    let step = one_step all cs now done (op_of x) (map op_of (drop i ops)) rest (length old) place front in
    let many : length new ≡ length (done ++ emitted all cs now (op_of x)) = sym (length-map new op_of) ∙ ap length is_new in
    record {
      count = ap length next ∙ (let e = length-append now (length old ∷ []) in omega (arith, e, count));
      compact = subst IsCompact (sym next) (compact_more now (length old) compact (omega (arith, below, count)));
      below = omega (arith, small, below);
      made_ = ap (λ l. in_front l (made all cs (length new) now2 rest)) is_new ∙ (ap₂ (λ n l. in_front (done ++ emitted all cs now (op_of x)) (made all cs n l rest)) many next ∙ (step ∙ so_far));
    }
