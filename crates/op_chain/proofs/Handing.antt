-- What reaches a subscript in the new body is what reached one in the old body.
use Rattle.std.proofs.Common.{◌≡◌, ◌∙◌, ℕ, zero, suc, ◌+◌, ◌-◌, ◌<◌, Bool, true, false, List, [], ◌∷◌, ◌++◌, map, length, take, Option, Some, None, inl, inr, refl, sym, ap, ap₂, subst, arith, length-append, append_assoc, get_or}
use Rattle.std.specs.Prelude.{slice_get, ◌||◌, if◌then◌else◌}
use Rattle.std.specs.List.{list_any}
use Rattle.std.specs.Option.{option_to_list}
use Rattle.std.proofs.lemmas.Bool.{cases_eq, eq-eqb, ne_eqb}
use Rattle.std.proofs.lemmas.List.{map-append, length-map, get_or_append_left, get_or_at}
use Rattle.std.proofs.lemmas.List.Folds.{list_any-append}
use Rattle.std.proofs.lemmas.Option.{slice_get_within, slice_get-get_or}
use Rattle.ir_core.specs.declared.body.OpKind.{OpKind}
use Rattle.ir_core.specs.declared.body.OpKind.TheVariants as o
use Rattle.ir_core.specs.declared.body.Operand.{Operand}
use Rattle.ir_core.specs.declared.body.Out.{Out}
use Rattle.ir_core.specs.declared.body.Simple.{Simple}
use Rattle.ir_core.specs.declared.body.Source.{Source}
use Rattle.ir_core.specs.declared.body.Source.TheVariants as source
use Rattle.ir_core.specs.Bodies.{OpTree}
use Rattle.op_chain.specs.declared.choices.Taking.{Taking}
use Rattle.op_chain.specs.Reads.{op_operands, names_result, names_variable, is_result, is_variable}
use Rattle.op_chain.specs.Subscripts.{subscripts, subscripts_of, op_hands, with_op, handed, outs_hand}
use Rattle.op_chain.specs.Pairs.{simple_of}
use Rattle.op_chain.specs.Fusing.{moved_source, moved, moved_op, moved_out, is_taken, new_op, emitted, Made, in_front, made}
use Rattle.op_chain.proofs.Performing.{none_some}
use Rattle.op_chain.proofs.Keeping.{Kept, AllKept, OpSuits, Suits, all_left}
use Rattle.op_chain.proofs.Splitting.{now_front}
use Rattle.op_chain.proofs.Standing.{new, size, number_is, different}

-- ---- lists

pub no_left : (p : Operand → Bool) (xs ys : List Operand) → list_any p (xs ++ ys) ≡ false → list_any p xs ≡ false
no_left p xs ys e = by_test (list_any p xs) (sym (list_any-append p xs ys) ∙ e) where
  by_test : (b : Bool) → (b || list_any p ys) ≡ false → b ≡ false
  by_test true f = f
  by_test false f = refl

pub no_right : (p : Operand → Bool) (xs ys : List Operand) → list_any p (xs ++ ys) ≡ false → list_any p ys ≡ false
no_right p xs ys e = by_test (list_any p xs) (sym (list_any-append p xs ys) ∙ e) where
  by_test : (b : Bool) → (b || list_any p ys) ≡ false → list_any p ys ≡ false
  by_test true f = absurd (let g = f in cc)
  by_test false f = f

take_map : (f : Operand → Operand) (n : ℕ) (xs : List Operand) → take n (map f xs) ≡ map f (take n xs)
take_map f zero [] = refl
take_map f zero (x ∷ xs) = refl
take_map f (suc n) [] = refl
take_map f (suc n) (x ∷ xs) = ap (λ l. f x ∷ l) (take_map f n xs)

subscripts_map : (f : Operand → Operand) (kind : OpKind) (xs : List Operand) → subscripts kind (map f xs) ≡ map f (subscripts kind xs)
subscripts_map f o.Load xs = refl
subscripts_map f o.Store xs = ap (λ n. take (n - 1) (map f xs)) (length-map xs f) ∙ take_map f (length xs - 1) xs
subscripts_map f kind xs = refl

-- an operator that may be fused has no subscripts
pub simple_none : (kind : OpKind) (f : Simple) (args : List Operand) → simple_of kind ≡ Some f → subscripts kind args ≡ []
simple_none o.Add f args e = refl
simple_none o.Sub f args e = refl
simple_none o.And f args e = refl
simple_none o.Or f args e = refl
simple_none o.Xor f args e = refl
simple_none kind f args e = none_some e

module _ (ops : List OpTree) (cs : List (Option Taking)) (suits : Suits ops cs) where
  abbrev pub now : List ℕ
  now = (new ops cs).now

  -- ---- operands keep what they name

  pub moved_named : (n : ℕ) (op : OpTree) (x : Source) → slice_get ops n ≡ Some op → is_taken cs n ≡ false → Kept ops cs (length ops) x → names_result (size ops cs n) (moved_source now x) ≡ names_result n x
  moved_named n op (source.Constant w) at free k = refl
  moved_named n op (source.Variable v) at free k = refl
  moved_named n op (source.Result j) at free k =
      let other = get_or ops j.0 op in
      let there = slice_get-get_or ops j.0 op k.0 in
      let place = number_is ops cs j.0 other j.0 there k.1 in
      elim (cases_eq j.0 n) [
        | inl same ↦ eq-eqb (get_or now j.0 j.0) (size ops cs n) (place ∙ ap (size ops cs) same) ∙ sym (eq-eqb j.0 n same)
        | inr apart ↦
            ne_eqb (get_or now j.0 j.0) (size ops cs n) (λ same. apart (different ops cs j.0 n other op there at k.1 free (sym place ∙ same)))
            ∙ sym (ne_eqb j.0 n apart)
      ]

  pub any_moved : (n : ℕ) (op : OpTree) (xs : List Operand) → slice_get ops n ≡ Some op → is_taken cs n ≡ false → AllKept ops cs (length ops) xs → list_any (is_result (size ops cs n)) (map (moved now) xs) ≡ list_any (is_result n) xs
  any_moved n op [] at free k = refl
  any_moved n op (x ∷ xs) at free k = ap₂ (λ a b. a || b) (moved_named n op x.value at free k.0) (any_moved n op xs at free k.1)

  pub later : (n : ℕ) (xs : List Operand) → n < length ops → AllKept ops cs n xs → AllKept ops cs (length ops) xs
  later n [] h k = tt
  later n (x ∷ xs) h k = (by_source x.value k.0, later n xs h k.1) where
    by_source : (s : Source) → Kept ops cs n s → Kept ops cs (length ops) s
    by_source (source.Constant w) q = tt
    by_source (source.Variable v) q = tt
    by_source (source.Result j) q = (let r = q.0 in omega (arith, r, h), q.1)

  -- ---- what is handed on

  -- nothing that is taken in, and nothing that takes another one in, is among these
  pub record Free (xs : List Operand) : Type 0 where
    pub taken : (n : ℕ) → is_taken cs n ≡ true → list_any (is_result n) xs ≡ false
    pub takers : (n : ℕ) (t : Taking) → slice_get cs n ≡ Some (Some t) → list_any (is_result n) xs ≡ false

  free_right : (xs ys : List Operand) → Free (xs ++ ys) → Free ys
  free_right xs ys h = record { taken = λ n e. no_right (is_result n) xs ys (h.taken n e); takers = λ n t e. no_right (is_result n) xs ys (h.takers n t e) }

  taken_subscripts : (n : ℕ) (op : OpTree) (c : Option (Option Taking)) → OpSuits ops cs n op c true → subscripts_of op ≡ []
  taken_subscripts n op c k = simple_none op.kind k.0 op.args k.3.kind

  taker_subscripts : (n : ℕ) (op : OpTree) (t : Taking) → OpSuits ops cs n op (Some (Some t)) false → subscripts_of op ≡ []
  taker_subscripts n op t k = simple_none op.kind t.pairing.second op.args k.kind

  sub_kept : (n : ℕ) (kind : OpKind) (args : List Operand) → AllKept ops cs n args → AllKept ops cs n (subscripts kind args)
  sub_kept n o.Load args k = k
  sub_kept n o.Store args k = some_kept (length args - 1) args k where
    some_kept : (m : ℕ) (xs : List Operand) → AllKept ops cs n xs → AllKept ops cs n (take m xs)
    some_kept zero [] h = tt
    some_kept zero (x ∷ xs) h = tt
    some_kept (suc m) [] h = tt
    some_kept (suc m) (x ∷ xs) h = (h.0, some_kept m xs h.1)
  sub_kept n kind args k = tt

  pub all_both : (n : ℕ) (xs ys : List Operand) → AllKept ops cs n xs → AllKept ops cs n ys → AllKept ops cs n (xs ++ ys)
  all_both n [] ys h k = k
  all_both n (x ∷ xs) ys h k = (h.0, all_both n xs ys h.1 k)

  plain_hands : (b : Bool) (n : ℕ) (op : OpTree) → AllKept ops cs n op.args → AllKept ops cs n (op_hands b op)
  plain_hands true n op k = k
  plain_hands false n op k = sub_kept n op.kind op.args k

  no_hands : (b : Bool) (op : OpTree) → b ≡ false → subscripts_of op ≡ [] → op_hands b op ≡ []
  no_hands true op e f = absurd (let g = e in cc)
  no_hands false op e f = f

  moved_hands : (b c : Bool) (n : ℕ) (op : OpTree) (numbers : List ℕ) → b ≡ c → map (moved numbers) op.args ≡ map (moved now) op.args → op_hands b (moved_op numbers op) ≡ map (moved now) (op_hands c op)
  moved_hands b c n op numbers e f = ap (λ d. op_hands d (moved_op numbers op)) e ∙ by_test c where
    by_test : (d : Bool) → op_hands d (moved_op numbers op) ≡ map (moved now) (op_hands d op)
    by_test true = f
    by_test false = ap (subscripts op.kind) f ∙ subscripts_map (moved now) op.kind op.args

  module _ (behind : List Operand) (behind_kept : AllKept ops cs (length ops) behind) where
    record Same (n count : ℕ) (numbers : List ℕ) (rest : List OpTree) : Type 0 where
      pub kept : AllKept ops cs (length ops) (handed n rest behind)
      pub same : handed count (made ops cs count numbers rest).ops (map (moved now) behind) ≡ map (moved now) (handed n rest behind)

    extended : (n : ℕ) (numbers more : List ℕ) (xs : List Operand) → length numbers ≡ n → now ≡ numbers ++ more → AllKept ops cs n xs → map (moved numbers) xs ≡ map (moved now) xs
    extended n numbers more [] count e k = refl
    extended n numbers more (x ∷ xs) count e k = ap₂ (λ y ys. y ∷ ys) (ap (λ s. record x { value = s }) (by_source x.value k.0)) (extended n numbers more xs count e k.1) where
      by_source : (s : Source) → Kept ops cs n s → moved_source numbers s ≡ moved_source now s
      by_source (source.Constant w) q = refl
      by_source (source.Variable v) q = refl
      by_source (source.Result j) q =
          ap (λ i. source.Result (record { 0 = i })) (sym (ap (λ l. get_or l j.0 j.0) e ∙ get_or_append_left numbers more j.0 j.0 (let h = q.0 in omega (arith, h, count))))

    -- operation n, after `count` new operations
    module _ (n count : ℕ) (numbers : List ℕ) (op : OpTree) (rest : List OpTree) (counted : length numbers ≡ n) (here : slice_get ops n ≡ Some op) (ends : now ≡ (made ops cs count numbers (op ∷ rest)).now) (free : Free (handed n (op ∷ rest) behind)) where
      abbrev back : ℕ → Made
      back count2 = made ops cs count2 (numbers ++ count ∷ []) rest

      abbrev Next : Type 0
      Next = (count2 : ℕ) → now ≡ (back count2).now → Same (suc n) count2 (numbers ++ count ∷ []) rest

      rest_free : Free (handed (suc n) rest behind)
      rest_free = free_right (op_hands (list_any (is_result n) (handed (suc n) rest behind)) op) (handed (suc n) rest behind) free

      within : n < length ops
      within = slice_get_within ops n op here

      place : is_taken cs n ≡ false → count ≡ size ops cs n
      place kept =
          let r = now_front ops cs (count + length (emitted ops cs numbers op)) (numbers ++ count ∷ []) rest in
          let e : now ≡ numbers ++ (count ∷ r.0) = ends ∙ (r.1 ∙ append_assoc numbers (count ∷ []) r.0) in
          sym (ap (λ l. get_or l n n) e ∙ get_or_at numbers count r.0 n n counted) ∙ number_is ops cs n op n here kept

      abbrev Goal : List OpTree → Type 0
      Goal emitted_ = now ≡ (in_front emitted_ (back (count + length emitted_))).now → Next
          → AllKept ops cs (length ops) (handed n (op ∷ rest) behind) × (handed count (in_front emitted_ (back (count + length emitted_))).ops (map (moved now) behind) ≡ map (moved now) (handed n (op ∷ rest) behind))

      -- where the operation hands on nothing
      none_old : subscripts_of op ≡ [] → list_any (is_result n) (handed (suc n) rest behind) ≡ false → handed n (op ∷ rest) behind ≡ handed (suc n) rest behind
      none_old f g = ap (λ l. l ++ handed (suc n) rest behind) (no_hands (list_any (is_result n) (handed (suc n) rest behind)) op g f)

      dropped : is_taken cs n ≡ true → OpSuits ops cs n op (slice_get cs n) true → Goal []
      dropped taken k ends2 next =
          let s = next (count + 0) ends2 in
          let old = none_old (taken_subscripts n op (slice_get cs n) k) (rest_free.taken n taken) in
          let renumbered : handed count (back (count + 0)).ops (map (moved now) behind) ≡ handed (count + 0) (back (count + 0)).ops (map (moved now) behind) =
          ap (λ m. handed m (back (count + 0)).ops (map (moved now) behind)) (let e : count ≡ count + 0 = omega arith in e) in
          (subst (AllKept ops cs (length ops)) (sym old) s.kept, renumbered ∙ (s.same ∙ ap (map (moved now)) (sym old)))

      fused : (t : Taking) → is_taken cs n ≡ false → slice_get cs n ≡ Some (Some t) → OpSuits ops cs n op (Some (Some t)) false → Goal (new_op ops numbers op (Some (Some t)) ∷ [])
      fused t kept chosen_ k ends2 next =
          let s = next (count + 1) ends2 in
          let up : suc count ≡ count + 1 = omega arith in
          let x = new_op ops numbers op (Some (Some t)) in
          let old = none_old (taker_subscripts n op t k) (rest_free.takers n t chosen_) in
          let behind_it : handed (suc count) (back (count + 1)).ops (map (moved now) behind) ≡ map (moved now) (handed (suc n) rest behind) = ap (λ m. handed m (back (count + 1)).ops (map (moved now) behind)) up ∙ s.same in
          let unread : list_any (is_result count) (map (moved now) (handed (suc n) rest behind)) ≡ false =
          ap (λ m. list_any (is_result m) (map (moved now) (handed (suc n) rest behind))) (place kept) ∙ (any_moved n op (handed (suc n) rest behind) here kept s.kept ∙ rest_free.takers n t chosen_) in (
            subst (AllKept ops cs (length ops)) (sym old) s.kept,
            ap (with_op count x) behind_it
                ∙ (ap (λ l. l ++ map (moved now) (handed (suc n) rest behind)) (no_hands (list_any (is_result count) (map (moved now) (handed (suc n) rest behind))) x unread refl) ∙ ap (map (moved now)) (sym old)),
          )

      stays : is_taken cs n ≡ false → AllKept ops cs n (op_operands op) → Goal (moved_op numbers op ∷ [])
      stays kept k ends2 next =
          let s = next (count + 1) ends2 in
          let up : suc count ≡ count + 1 = omega arith in
          let args = all_left ops cs n op.args (option_to_list op.guard) k in
          let h = handed (suc n) rest behind in
          let r = now_front ops cs (count + length (emitted ops cs numbers op)) (numbers ++ count ∷ []) rest in
          let e : now ≡ numbers ++ (count ∷ r.0) = ends ∙ (r.1 ∙ append_assoc numbers (count ∷ []) r.0) in
          let behind_it : handed (suc count) (back (count + 1)).ops (map (moved now) behind) ≡ map (moved now) h = ap (λ m. handed m (back (count + 1)).ops (map (moved now) behind)) up ∙ s.same in
          let reads = ap (λ m. list_any (is_result m) (map (moved now) h)) (place kept) ∙ any_moved n op h here kept s.kept in (
            all_both (length ops) (op_hands (list_any (is_result n) h) op) h (later n (op_hands (list_any (is_result n) h) op) within (plain_hands (list_any (is_result n) h) n op args)) s.kept,
            ap (with_op count (moved_op numbers op)) behind_it
                ∙ (ap (λ l. l ++ map (moved now) h) (moved_hands (list_any (is_result count) (map (moved now) h)) (list_any (is_result n) h) n op numbers reads (extended n numbers (count ∷ r.0) op.args counted e args))
                ∙ sym (map-append (moved now) (op_hands (list_any (is_result n) h) op) h)),
          )

      emitted_is : (b : Bool) (c : Option (Option Taking)) → is_taken cs n ≡ b → slice_get cs n ≡ c → emitted ops cs numbers op ≡ (if b then [] else new_op ops numbers op c ∷ [])
      emitted_is b c f g = ap₂ (λ d e. if d then [] else new_op ops numbers op e ∷ []) (ap (is_taken cs) counted ∙ f) (ap (slice_get cs) counted ∙ g)

      by_taken : (b : Bool) (c : Option (Option Taking)) → is_taken cs n ≡ b → slice_get cs n ≡ c → OpSuits ops cs n op c b → Goal (emitted ops cs numbers op)
      by_taken true c f g k = subst Goal (sym (emitted_is true c f g)) (dropped f (subst (λ d. OpSuits ops cs n op d true) (sym g) k))
      by_taken false (Some (Some t)) f g k = subst Goal (sym (emitted_is false (Some (Some t)) f g)) (fused t f g k)
      by_taken false (Some None) f g k = subst Goal (sym (emitted_is false (Some None) f g)) (stays f k)
      by_taken false None f g k = subst Goal (sym (emitted_is false None f g)) (stays f k)

    same_from : (n count : ℕ) (numbers : List ℕ) (rest : List OpTree) → length numbers ≡ n → ((k : ℕ) (op : OpTree) → slice_get rest k ≡ Some op → slice_get ops (n + k) ≡ Some op)
        → now ≡ (made ops cs count numbers rest).now → Free (handed n rest behind) → Same n count numbers rest
    same_from n count numbers [] counted there ends free = record { kept = behind_kept; same = refl }
    same_from n count numbers (op ∷ rest) counted there ends free =
        let here : slice_get ops n ≡ Some op = ap (slice_get ops) (let f : n ≡ n + 0 = omega arith in f) ∙ there 0 op refl in
        let k = suits n op here in
        let more : length (numbers ++ count ∷ []) ≡ suc n = length-append numbers (count ∷ []) ∙ (omega (arith, counted)) in
        let there2 : (j : ℕ) (x : OpTree) → slice_get rest j ≡ Some x → slice_get ops (suc n + j) ≡ Some x = λ j x f. ap (slice_get ops) (let g : suc n + j ≡ n + suc j = omega arith in g) ∙ there (suc j) x f in
        let r = by_taken n count numbers op rest counted here ends free (is_taken cs n) (slice_get cs n) refl refl k ends
        (λ count2 ends2. same_from (suc n) count2 (numbers ++ count ∷ []) rest more there2 ends2 (rest_free n count numbers op rest counted here ends free)) in
        record { kept = r.0; same = r.1 }

    pub record SameHands : Type 0 where
      pub kept : AllKept ops cs (length ops) (handed 0 ops behind)
      pub same : handed 0 (new ops cs).ops (map (moved now) behind) ≡ map (moved now) (handed 0 ops behind)

    pub same_hands : Free (handed 0 ops behind) → SameHands
    same_hands free =
        let s = same_from 0 0 [] ops refl (λ k op e. ap (slice_get ops) (let f : 0 + k ≡ k = omega arith in f) ∙ e) refl free in record { kept = s.kept; same = s.same }

pub outs_moved : (numbers : List ℕ) (marks : List Bool) (outs : List Out) → outs_hand marks (map (moved_out numbers) outs) ≡ map (moved numbers) (outs_hand marks outs)
outs_moved numbers marks [] = refl
outs_moved numbers marks (x ∷ xs) = by_test (get_or marks x.variable.0 false) (outs_moved numbers marks xs) where
  by_test : (b : Bool) → outs_hand marks (map (moved_out numbers) xs) ≡ map (moved numbers) (outs_hand marks xs)
      → (if b then moved numbers x.value ∷ outs_hand marks (map (moved_out numbers) xs) else outs_hand marks (map (moved_out numbers) xs))
      ≡ map (moved numbers) (if b then x.value ∷ outs_hand marks xs else outs_hand marks xs)
  by_test true e = ap (λ l. moved numbers x.value ∷ l) e
  by_test false e = e

pub moved_variable : (numbers : List ℕ) (v : ℕ) (xs : List Operand) → list_any (is_variable v) (map (moved numbers) xs) ≡ list_any (is_variable v) xs
moved_variable numbers v [] = refl
moved_variable numbers v (x ∷ xs) = ap₂ (λ a b. a || b) (by_source x.value) (moved_variable numbers v xs) where
  by_source : (s : Source) → names_variable v (moved_source numbers s) ≡ names_variable v s
  by_source (source.Constant w) = refl
  by_source (source.Variable y) = refl
  by_source (source.Result j) = refl
