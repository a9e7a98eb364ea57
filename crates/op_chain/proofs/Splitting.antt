-- The new operations of a part of a body.
use Rattle.std.proofs.Common.{◌≡◌, ◌∙◌, ℕ, zero, suc, ◌+◌, false, List, [], ◌∷◌, ◌++◌, length, take, drop, Option, Some, refl, sym, ap, ap₂, arith, length-append, append_assoc, get_or}
use Rattle.std.specs.Prelude.{slice_get, if◌then◌else◌}
use Rattle.std.proofs.lemmas.List.{append-nil, get_or_at}
use Rattle.ir_core.specs.Bodies.{OpTree}
use Rattle.op_chain.specs.declared.choices.Taking.{Taking}
use Rattle.op_chain.specs.Fusing.{is_taken, new_op, emitted, in_front, made}
use Rattle.op_chain.proofs.Performing.{none_some}

module _ (ops : List OpTree) (cs : List (Option Taking)) where
  pub made_append : (count : ℕ) (now : List ℕ) (xs ys : List OpTree)
      → made ops cs count now (xs ++ ys) ≡ in_front (made ops cs count now xs).ops (made ops cs (count + length (made ops cs count now xs).ops) (made ops cs count now xs).now ys)
  made_append count now [] ys = ap (λ n. made ops cs n now ys) (let e : count ≡ count + 0 = omega arith in e)
  made_append count now (x ∷ xs) ys =
      let front = emitted ops cs now x in
      let first = made ops cs (count + length front) (now ++ count ∷ []) xs in
      let place : count + length front + length first.ops ≡ count + length (front ++ first.ops) = (let e = length-append front first.ops in omega (arith, e)) in
      ap (in_front front) (made_append (count + length front) (now ++ count ∷ []) xs ys)
      ∙ (ap (λ l. record { ops = l; now = (made ops cs (count + length front + length first.ops) first.now ys).now }) (sym (append_assoc front first.ops (made ops cs (count + length front + length first.ops) first.now ys).ops))
      ∙ ap (λ n. in_front (front ++ first.ops) (made ops cs n first.now ys)) place)

  -- numbers are only added
  pub now_front : (count : ℕ) (now : List ℕ) (xs : List OpTree) → (more : List ℕ) × ((made ops cs count now xs).now ≡ now ++ more)
  now_front count now [] = ([], sym (append-nil now))
  now_front count now (x ∷ xs) =
      let r = now_front (count + length (emitted ops cs now x)) (now ++ count ∷ []) xs in (count ∷ r.0, r.1 ∙ append_assoc now (count ∷ []) r.0)

  pub now_count : (count : ℕ) (now : List ℕ) (xs : List OpTree) → length (made ops cs count now xs).now ≡ length now + length xs
  now_count count now [] = omega arith
  now_count count now (x ∷ xs) = let e = now_count (count + length (emitted ops cs now x)) (now ++ count ∷ []) xs in let f = length-append now (count ∷ []) in omega (arith, e, f)

  -- an operation that is not taken in stands after those that come of the ones before it
  pub record Stands (count : ℕ) (now : List ℕ) (xs : List OpTree) (k : ℕ) : Type 0 where
    pub number : (d : ℕ) → get_or (made ops cs count now xs).now (length now + k) d ≡ count + length (made ops cs count now (take k xs)).ops
    pub one_more : length (made ops cs count now (take (suc k) xs)).ops ≡ suc (length (made ops cs count now (take k xs)).ops)

  pub stands : (count : ℕ) (now : List ℕ) (xs : List OpTree) (k : ℕ) (op : OpTree) → slice_get xs k ≡ Some op → is_taken cs (length now + k) ≡ false → Stands count now xs k
  stands count now [] k op e kept = none_some e
  stands count now (x ∷ xs) zero op e kept =
      let r = now_front (count + length (emitted ops cs now x)) (now ++ count ∷ []) xs in
      let place : length now + 0 ≡ length now = omega arith in
      record {
        number = λ d. ap₂ (λ l i. get_or l i d) (r.1 ∙ append_assoc now (count ∷ []) r.0) place ∙ (get_or_at now count r.0 d (length now) refl ∙ (let e2 : count ≡ count + 0 = omega arith in e2));
        one_more = ap (λ l. length (l ++ [])) (ap (λ b. if b then [] else new_op ops now x (slice_get cs (length now)) ∷ []) (sym (ap (is_taken cs) place) ∙ kept));
      }
  stands count now (x ∷ xs) (suc k) op e kept =
      let front = emitted ops cs now x in
      let place : length (now ++ count ∷ []) + k ≡ length now + suc k = (let f = length-append now (count ∷ []) in omega (arith, f)) in
      let s = stands (count + length front) (now ++ count ∷ []) xs k op e (ap (is_taken cs) place ∙ kept) in
      let before = made ops cs (count + length front) (now ++ count ∷ []) (take k xs) in
      let after = made ops cs (count + length front) (now ++ count ∷ []) (take (suc k) xs) in
      record {
        number = λ d.
            ap (λ i. get_or (made ops cs count now (x ∷ xs)).now i d) (sym place) ∙ (s.number d ∙ (let f = length-append front before.ops in let g : count + length front + length before.ops ≡ count + length (front ++ before.ops) = omega (arith, f) in g));
        one_more = let f = length-append front before.ops in let g = length-append front after.ops in let h = s.one_more in omega (arith, f, g, h);
      }

pub take_front : {A : Type 0} (xs ys : List A) → take (length xs) (xs ++ ys) ≡ xs
take_front [] ys = refl
take_front (x ∷ xs) ys = ap (λ l. x ∷ l) (take_front xs ys)

pub drop_front : {A : Type 0} (xs ys : List A) → drop (length xs) (xs ++ ys) ≡ ys
drop_front [] ys = refl
drop_front (x ∷ xs) ys = drop_front xs ys
