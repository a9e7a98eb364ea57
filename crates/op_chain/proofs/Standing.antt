-- Where the operations of the old body stand in the new one.
use Rattle.std.proofs.Common.{◌≡◌, ◌∙◌, ℕ, zero, suc, ◌+◌, ◌-◌, ◌<◌, ◌≤◌, Bool, true, false, List, [], ◌∷◌, ◌++◌, map, length, take, drop, Option, Some, inl, inr, refl, sym, ap, ap₂, arith, length-append, get_or}
use Rattle.std.specs.Prelude.{slice_get, if◌then◌else◌}
use Rattle.std.proofs.lemmas.Bool.{cases_lt}
use Rattle.std.proofs.lemmas.List.{take-append-drop, get_or_append_left}
use Rattle.ir_core.specs.declared.body.Operand.{Operand}
use Rattle.ir_core.specs.declared.body.Source.{Source}
use Rattle.ir_core.specs.declared.body.Source.TheVariants as source
use Rattle.ir_core.specs.Bodies.{OpTree}
use Rattle.op_chain.specs.declared.choices.Taking.{Taking}
use Rattle.op_chain.specs.Fusing.{moved_source, moved, is_taken, new_op, emitted, Made, in_front, made, made_by}
use Rattle.op_chain.proofs.Performing.{none_some, some_same}
use Rattle.op_chain.proofs.Keeping.{Kept, AllKept}
use Rattle.op_chain.proofs.Splitting.{made_append, now_front, now_count, Stands, stands}

module _ (ops : List OpTree) (cs : List (Option Taking)) where
  abbrev pub new : Made
  new = made_by ops cs

  -- how many operations come of the first n
  abbrev pub size : ℕ → ℕ
  size n = length (made ops cs 0 [] (take n ops)).ops

  -- the new numbers after the first n
  abbrev pub numbers : ℕ → List ℕ
  numbers n = (made ops cs 0 [] (take n ops)).now

  take_more : (n : ℕ) (xs : List OpTree) (k : ℕ) → take (n + k) xs ≡ take n xs ++ take k (drop n xs)
  take_more zero [] k = ap (λ m. take m []) (let e : 0 + k ≡ k = omega arith in e)
  take_more zero (x ∷ xs) k = ap (λ m. take m (x ∷ xs)) (let e : 0 + k ≡ k = omega arith in e)
  take_more (suc n) [] zero = ap (λ m. take m []) (let e : suc n + 0 ≡ suc n = omega arith in e)
  take_more (suc n) [] (suc k) = ap (λ m. take m []) (let e : suc n + suc k ≡ suc (n + suc k) = omega arith in e)
  take_more (suc n) (x ∷ xs) k = ap (λ m. take m (x ∷ xs)) (let e : suc n + k ≡ suc (n + k) = omega arith in e) ∙ ap (λ l. x ∷ l) (take_more n xs k)

  grows : (n k : ℕ) → size n ≤ size (n + k)
  grows n k =
      let first = made ops cs 0 [] (take n ops) in
      let later = made ops cs (0 + length first.ops) first.now (take k (drop n ops)) in
      let e : size (n + k) ≡ length (first.ops ++ later.ops) =
      ap (λ l. length (made ops cs 0 [] l).ops) (take_more n ops k) ∙ ap (λ (m : Made). length m.ops) (made_append ops cs 0 [] (take n ops) (take k (drop n ops))) in
      let f = length-append first.ops later.ops in
      omega (arith, e, f)

  stands_at : (n : ℕ) (op : OpTree) → slice_get ops n ≡ Some op → is_taken cs n ≡ false → Stands ops cs 0 [] ops n
  stands_at n op at kept = stands ops cs 0 [] ops n op at (ap (is_taken cs) (let e : 0 + n ≡ n = omega arith in e) ∙ kept)

  -- an operation that is kept stands after what comes of those before it
  pub number_is : (n : ℕ) (op : OpTree) (d : ℕ) → slice_get ops n ≡ Some op → is_taken cs n ≡ false → get_or new.now n d ≡ size n
  number_is n op d at kept =
      ap (λ i. get_or new.now i d) (let e : n ≡ 0 + n = omega arith in e) ∙ ((stands_at n op at kept).number d ∙ (let e : 0 + size n ≡ size n = omega arith in e))

  before_lower : (n m : ℕ) (op : OpTree) → slice_get ops n ≡ Some op → is_taken cs n ≡ false → n < m → size n < size m
  before_lower n m op at kept h =
      let a = (stands_at n op at kept).one_more in
      let b = grows (suc n) (m - suc n) in
      let c : size (suc n + (m - suc n)) ≡ size m = ap size (let e : suc n + (m - suc n) ≡ m = omega (arith, h) in e) in
      omega (arith, a, b, c)

  -- kept operations have different numbers
  pub different : (n m : ℕ) (one two : OpTree) → slice_get ops n ≡ Some one → slice_get ops m ≡ Some two → is_taken cs n ≡ false → is_taken cs m ≡ false → size n ≡ size m → n ≡ m
  different n m one two at there kept also same =
      elim (cases_lt n m) [
        | inl less ↦ absurd (let a = before_lower n m one at kept less in omega (arith, a, same))
        | inr past ↦ elim (cases_lt m n) [
          | inl less ↦ absurd (let a = before_lower m n two there also less in omega (arith, a, same))
          | inr behind ↦ omega (arith, past, behind)
        ]
      ]

  drop_at : (n : ℕ) (xs : List OpTree) (op : OpTree) → slice_get xs n ≡ Some op → drop n xs ≡ op ∷ drop (suc n) xs
  drop_at zero [] op e = none_some e
  drop_at zero (x ∷ xs) op e = let f = some_same e in ap (λ y. y ∷ xs) f
  drop_at (suc n) [] op e = none_some e
  drop_at (suc n) (x ∷ xs) op e = drop_at n xs op e

  take_size : (n : ℕ) (xs : List OpTree) (op : OpTree) → slice_get xs n ≡ Some op → length (take n xs) ≡ n
  take_size zero [] op e = none_some e
  take_size zero (x ∷ xs) op e = refl
  take_size (suc n) [] op e = none_some e
  take_size (suc n) (x ∷ xs) op e = ap suc (take_size n xs op e)

  pub numbers_count : (n : ℕ) (op : OpTree) → slice_get ops n ≡ Some op → length (numbers n) ≡ n
  numbers_count n op at = now_count ops cs 0 [] (take n ops) ∙ (let e = take_size n ops op at in omega (arith, e))

  get_behind : (xs : List OpTree) (x : OpTree) (ys : List OpTree) → slice_get (xs ++ x ∷ ys) (length xs) ≡ Some x
  get_behind [] x ys = refl
  get_behind (z ∷ zs) x ys = get_behind zs x ys

  -- all of it, split in front of operation n
  pub split_at : (n : ℕ) (op : OpTree) → slice_get ops n ≡ Some op
      → new ≡ in_front (made ops cs 0 [] (take n ops)).ops (made ops cs (0 + size n) (numbers n) (op ∷ drop (suc n) ops))
  split_at n op at =
      ap (made ops cs 0 []) (sym (take-append-drop n ops)) ∙ (made_append ops cs 0 [] (take n ops) (drop n ops)
      ∙ ap (λ l. in_front (made ops cs 0 [] (take n ops)).ops (made ops cs (0 + size n) (numbers n) l)) (drop_at n ops op at))

  pub new_at : (n : ℕ) (op : OpTree) → slice_get ops n ≡ Some op → is_taken cs n ≡ false → slice_get new.ops (size n) ≡ Some (new_op ops (numbers n) op (slice_get cs n))
  new_at n op at kept =
      let first = made ops cs 0 [] (take n ops) in
      let count = numbers_count n op at in
      let one : emitted ops cs (numbers n) op ≡ new_op ops (numbers n) op (slice_get cs n) ∷ [] =
      ap (λ b. if b then [] else new_op ops (numbers n) op (slice_get cs (length (numbers n))) ∷ []) (ap (is_taken cs) count ∙ kept)
      ∙ ap (λ c. new_op ops (numbers n) op c ∷ []) (ap (slice_get cs) count) in
      let later = made ops cs (0 + size n + length (emitted ops cs (numbers n) op)) (numbers n ++ (0 + size n) ∷ []) (drop (suc n) ops) in
      ap (λ (m : Made). slice_get m.ops (size n)) (split_at n op at)
      ∙ (ap (λ l. slice_get (first.ops ++ (l ++ later.ops)) (size n)) one ∙ get_behind first.ops (new_op ops (numbers n) op (slice_get cs n)) later.ops)

  pub extends : (n : ℕ) (op : OpTree) → slice_get ops n ≡ Some op → (more : List ℕ) × (new.now ≡ numbers n ++ more)
  extends n op at =
      let r = now_front ops cs (0 + size n) (numbers n) (op ∷ drop (suc n) ops) in (r.0, ap (λ (m : Made). m.now) (split_at n op at) ∙ r.1)

  -- an operand that names earlier ones has the same number at the end
  pub moved_same : (n : ℕ) (op : OpTree) (x : Operand) → slice_get ops n ≡ Some op → Kept ops cs n x.value → moved (numbers n) x ≡ moved new.now x
  moved_same n op x at kept = ap (λ s. record x { value = s }) (by_source x.value kept) where
    by_source : (s : Source) → Kept ops cs n s → moved_source (numbers n) s ≡ moved_source new.now s
    by_source (source.Constant w) k = refl
    by_source (source.Variable v) k = refl
    by_source (source.Result j) k =
        let r = extends n op at in
        let count = numbers_count n op at in
        ap (λ i. source.Result (record { 0 = i })) (sym (ap (λ l. get_or l j.0 j.0) r.1 ∙ get_or_append_left (numbers n) r.0 j.0 j.0 (let h = k.0 in omega (arith, h, count))))

  pub all_moved_same : (n : ℕ) (op : OpTree) (xs : List Operand) → slice_get ops n ≡ Some op → AllKept ops cs n xs → map (moved (numbers n)) xs ≡ map (moved new.now) xs
  all_moved_same n op [] at k = refl
  all_moved_same n op (x ∷ xs) at k = ap₂ (λ y ys. y ∷ ys) (moved_same n op x at k.0) (all_moved_same n op xs at k.1)

  -- ---- where an operation of the new body comes from

  pub record Origin (count : ℕ) (now : List ℕ) (rest : List OpTree) (k : ℕ) (x : OpTree) : Type 0 where
    pub j : ℕ
    pub op : OpTree
    pub at : slice_get rest j ≡ Some op
    pub kept : is_taken cs (length now + j) ≡ false
    pub place : k ≡ length (made ops cs count now (take j rest)).ops
    pub is_it : x ≡ new_op ops (made ops cs count now (take j rest)).now op (slice_get cs (length now + j))

  pub origin : (count : ℕ) (now : List ℕ) (rest : List OpTree) (k : ℕ) (x : OpTree) → slice_get (made ops cs count now rest).ops k ≡ Some x → Origin count now rest k x
  origin count now [] k x e = none_some e
  origin count now (op ∷ rest) k x e =
      by_taken (is_taken cs (length now)) refl (λ j f. origin (count + length (emitted ops cs now op)) (now ++ count ∷ []) rest j x f)
    where
      back : Made
      back = made ops cs (count + length (emitted ops cs now op)) (now ++ count ∷ []) rest

      here : length now + 0 ≡ length now
      here = omega arith

      next : (j : ℕ) → length (now ++ count ∷ []) + j ≡ length now + suc j
      next j = let f = length-append now (count ∷ []) in omega (arith, f)

      emitted_is : (b : Bool) → is_taken cs (length now) ≡ b → emitted ops cs now op ≡ (if b then [] else new_op ops now op (slice_get cs (length now)) ∷ [])
      emitted_is b f = ap (λ c. if c then [] else new_op ops now op (slice_get cs (length now)) ∷ []) f

      later : (i : ℕ) → Origin (count + length (emitted ops cs now op)) (now ++ count ∷ []) rest i x → i + length (emitted ops cs now op) ≡ k → Origin count now (op ∷ rest) k x
      later i o f = record {
        j = suc o.j;
        op = o.op;
        at = o.at;
        kept = ap (is_taken cs) (sym (next o.j)) ∙ o.kept;
        place =
            let g = o.place in
            let h = length-append (emitted ops cs now op) (made ops cs (count + length (emitted ops cs now op)) (now ++ count ∷ []) (take o.j rest)).ops in
            omega (arith, f, g, h);
        is_it = o.is_it ∙ ap (λ m. new_op ops (made ops cs count now (take (suc o.j) (op ∷ rest))).now o.op (slice_get cs m)) (next o.j);
      }

      front : is_taken cs (length now) ≡ false → 0 ≡ k → Some (new_op ops now op (slice_get cs (length now))) ≡ Some x → Origin count now (op ∷ rest) k x
      front f same g = record {
        j = zero;
        op = op;
        at = refl;
        kept = ap (is_taken cs) here ∙ f;
        place = sym same;
        is_it = sym (some_same g) ∙ ap (λ m. new_op ops now op (slice_get cs m)) (sym here);
      }

      by_place : is_taken cs (length now) ≡ false → ((j : ℕ) → slice_get back.ops j ≡ Some x → Origin (count + length (emitted ops cs now op)) (now ++ count ∷ []) rest j x) → (i : ℕ) → i ≡ k
          → slice_get (new_op ops now op (slice_get cs (length now)) ∷ back.ops) i ≡ Some x → Origin count now (op ∷ rest) k x
      by_place f again zero same g = front f same g
      by_place f again (suc i) same g = later i (again i g) (let h = ap length (emitted_is false f) in omega (arith, h, same))

      by_taken : (b : Bool) → is_taken cs (length now) ≡ b → ((j : ℕ) → slice_get back.ops j ≡ Some x → Origin (count + length (emitted ops cs now op)) (now ++ count ∷ []) rest j x) → Origin count now (op ∷ rest) k x
      by_taken true f again =
          later k (again k (sym (ap (λ l. slice_get (l ++ back.ops) k) (emitted_is true f)) ∙ e)) (let h = ap length (emitted_is true f) in omega (arith, h))
      by_taken false f again = by_place f again k refl (sym (ap (λ l. slice_get (l ++ back.ops) k) (emitted_is false f)) ∙ e)
