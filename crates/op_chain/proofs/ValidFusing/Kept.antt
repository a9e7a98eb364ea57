-- An operation that is taken in is read by the one that takes it in alone: all other operands of the node name operations that are kept.
use Rattle.std.proofs.Common.{◌≡◌, ◌≢◌, ◌∙◌, ◌+◌, ◌<◌, ◌≤◌, ℕ, zero, suc, refl, sym, ap, subst, Bool, true, false, ◌&&◌, ◌||◌, List, [], ◌∷◌, ◌++◌, length, arith}
use Rattle.std.specs.Prelude.{◌==◌, slice_get, Option, Some, None, option_to_list, if◌then◌else◌}
use Rattle.std.specs.List.{list_any}
use Rattle.std.proofs.lemmas.Bool.{and_parts, eqb-true, eq-eqb, false≢true}
use Rattle.std.proofs.lemmas.Option.{slice_get_within}
use Rattle.hls_base.specs.declared.number.OpId.{OpId}
use Rattle.ir_core.specs.declared.body.Operand.{Operand}
use Rattle.ir_core.specs.declared.body.Source.TheVariants as source
use Rattle.ir_core.specs.Bodies.{OpTree}
use Rattle.op_chain.specs.declared.choices.Taking.{Taking}
use Rattle.op_chain.specs.Reads.{op_operands, ops_operands, names_result, is_result, is_result_now, reads}
use Rattle.op_chain.specs.Pairs.{Scope, are_alike, is_read_by, is_pair}
use Rattle.op_chain.specs.Fusing.{chosen, is_taken}
use Rattle.op_chain.proofs.ValidFusing.Choices as choices
use Rattle.op_chain.proofs.ValidFusing.Choices.{Takes, chosen_many}

-- ---- counts of reads

pub reads_both : (u : ℕ) (xs ys : List Operand) → reads u (xs ++ ys) ≡ reads u xs + reads u ys
reads_both u [] ys = omega arith
reads_both u (x ∷ xs) ys = by (is_result u x) (reads_both u xs ys) where
  by : (c : Bool) → reads u (xs ++ ys) ≡ reads u xs + reads u ys → (if c then suc (reads u (xs ++ ys)) else reads u (xs ++ ys)) ≡ (if c then suc (reads u xs) else reads u xs) + reads u ys
  by true more = omega (arith, more)
  by false more = more

reads_some : (u : ℕ) (xs : List Operand) → list_any (is_result u) xs ≡ true → 1 ≤ reads u xs
reads_some u [] h = absurd (false≢true h)
reads_some u (x ∷ xs) h = by (is_result u x) h (λ k. reads_some u xs k) where
  by : (c : Bool) → (c || list_any (is_result u) xs) ≡ true → (list_any (is_result u) xs ≡ true → 1 ≤ reads u xs) → 1 ≤ (if c then suc (reads u xs) else reads u xs)
  by true k further = omega arith
  by false k further = further k

result_now : (u : ℕ) (xs : List Operand) → list_any (is_result_now u) xs ≡ true → list_any (is_result u) xs ≡ true
result_now u [] h = h
result_now u (x ∷ xs) h = by (is_result u x) (x.distance == 0) h (λ k. result_now u xs k) where
  by : (c d : Bool) → ((c && d) || list_any (is_result_now u) xs) ≡ true → (list_any (is_result_now u) xs ≡ true → list_any (is_result u) xs ≡ true) → (c || list_any (is_result u) xs) ≡ true
  by true d k further = refl
  by false d k further = further k

reads_at : (u : ℕ) (ops : List OpTree) (k : ℕ) (op : OpTree) → slice_get ops k ≡ Some op → reads u (op_operands op) ≤ reads u (ops_operands ops)
reads_at u [] k op e = absurd cc
reads_at u (x ∷ ops) zero op e =
    let same : x ≡ op = cc in
    let count : reads u (op_operands x) ≡ reads u (op_operands op) = ap (λ (o : OpTree). reads u (op_operands o)) same in
    let both = reads_both u (op_operands x) (ops_operands ops) in
    omega (arith, count, both)
reads_at u (x ∷ ops) (suc k) op e =
    let further = reads_at u ops k op e in
    let both = reads_both u (op_operands x) (ops_operands ops) in
    omega (arith, further, both)

reads_two : (u : ℕ) (ops : List OpTree) (k v : ℕ) (a b : OpTree) → slice_get ops k ≡ Some a → slice_get ops v ≡ Some b → k ≢ v → reads u (op_operands a) + reads u (op_operands b) ≤ reads u (ops_operands ops)
reads_two u [] k v a b ea eb apart = absurd cc
reads_two u (x ∷ ops) zero zero a b ea eb apart = absurd (apart refl)
reads_two u (x ∷ ops) zero (suc v) a b ea eb apart =
    let same : x ≡ a = cc in
    let count : reads u (op_operands x) ≡ reads u (op_operands a) = ap (λ (o : OpTree). reads u (op_operands o)) same in
    let both = reads_both u (op_operands x) (ops_operands ops) in
    let other = reads_at u ops v b eb in
    omega (arith, count, both, other)
reads_two u (x ∷ ops) (suc k) zero a b ea eb apart =
    let same : x ≡ b = cc in
    let count : reads u (op_operands x) ≡ reads u (op_operands b) = ap (λ (o : OpTree). reads u (op_operands o)) same in
    let both = reads_both u (op_operands x) (ops_operands ops) in
    let other = reads_at u ops k a ea in
    omega (arith, count, both, other)
reads_two u (x ∷ ops) (suc k) (suc v) a b ea eb apart =
    let further = reads_two u ops k v a b ea eb (λ e. apart (ap suc e)) in
    let both = reads_both u (op_operands x) (ops_operands ops) in
    omega (arith, further, both)

-- ---- operands that are kept

-- if it names an operation, no other one takes that in
abbrev pub IsKept : List (Option Taking) → Operand → Type 0
IsKept all x = (j : OpId) → x.value ≡ source.Result j → is_taken all j.0 ≡ false

abbrev pub AllKept : List (Option Taking) → List Operand → Type 0
AllKept all [] = Unit {0}
AllKept all (x ∷ xs) = IsKept all x × AllKept all xs

-- what is taken in is not read by these
abbrev Unread : List (Option Taking) → List Operand → Type 0
Unread all xs = (u : ℕ) → is_taken all u ≡ true → reads u xs ≡ 0

reads_head : (u : ℕ) (x : Operand) (xs : List Operand) → reads u (x ∷ xs) ≡ 0 → (is_result u x ≡ false) × (reads u xs ≡ 0)
reads_head u x xs h = by (is_result u x) h where
  by : (c : Bool) → (if c then suc (reads u xs) else reads u xs) ≡ 0 → (c ≡ false) × (reads u xs ≡ 0)
  by true k = absurd (omega (arith, k))
  by false k = (refl, k)

all_kept : (all : List (Option Taking)) (xs : List Operand) → Unread all xs → AllKept all xs
all_kept all [] h = tt
all_kept all (x ∷ xs) h = (first, all_kept all xs (λ u taken. (reads_head u x xs (h u taken)).1)) where
  first : (j : OpId) → x.value ≡ source.Result j → is_taken all j.0 ≡ false
  first j names = by (is_taken all j.0) refl where
    by : (c : Bool) → is_taken all j.0 ≡ c → c ≡ false
    by false e = refl
    by true e =
        let none = (reads_head j.0 x xs (h j.0 e)).0 in
        let some_ : is_result j.0 x ≡ true = ap (names_result j.0) names ∙ eq-eqb j.0 j.0 refl in
        absurd (false≢true (sym none ∙ some_))

pub kept_both : (all : List (Option Taking)) (xs ys : List Operand) → AllKept all (xs ++ ys) → AllKept all xs × AllKept all ys
kept_both all [] ys h = (tt, h)
kept_both all (x ∷ xs) ys h = (let rest = kept_both all xs ys h.1 in ((h.0, rest.0), rest.1))

-- ---- who takes an operation in

record Taken (all : List (Option Taking)) (u : ℕ) : Type 0 where
  place : ℕ
  taking : Taking
  at : slice_get all place ≡ Some (Some taking)
  is : taking.op ≡ u

taken_by : (all : List (Option Taking)) (u : ℕ) → is_taken all u ≡ true → Taken all u
taken_by [] u h = absurd (false≢true h)
taken_by (None ∷ all) u h = (let t = taken_by all u h in record { place = suc t.place; taking = t.taking; at = t.at; is = t.is })
taken_by (Some t ∷ all) u h = by (t.op == u) refl h (λ k. taken_by all u k) where
  by : (c : Bool) → (t.op == u) ≡ c → (c || is_taken all u) ≡ true → (is_taken all u ≡ true → Taken all u) → Taken (Some t ∷ all) u
  by true e k further = record { place = 0; taking = t; at = refl; is = eqb-true t.op u e }
  by false e k further = (let r = further k in record { place = suc r.place; taking = r.taking; at = r.at; is = r.is })

pub found_at : {A : Type 0} (xs : List A) (k : ℕ) → k < length xs → (x : A) × (slice_get xs k ≡ Some x)
found_at [] k h = absurd (omega arith)
found_at (x ∷ xs) zero h = (x, refl)
found_at (x ∷ xs) (suc k) h = found_at xs k (omega (arith, h))

-- ---- an argument beside the one that is taken in

abbrev pub other_argument : Bool → Operand → Operand → Operand
other_argument left a b = if left then b else a

reads_pair : (u : ℕ) (a b : Operand) (rest : List Operand) → reads u (a ∷ b ∷ rest) ≡ (if is_result u a then 1 else 0) + (if is_result u b then 1 else 0) + reads u rest
reads_pair u a b rest = by (is_result u a) (is_result u b) where
  by : (c d : Bool) → (if c then suc (if d then suc (reads u rest) else reads u rest) else (if d then suc (reads u rest) else reads u rest)) ≡ (if c then 1 else 0) + (if d then 1 else 0) + reads u rest
  by true true = omega arith
  by true false = omega arith
  by false true = omega arith
  by false false = omega arith

abbrev counted : Bool → ℕ
counted c = if c then 1 else 0

one_of : (left : Bool) (u : ℕ) (a b : Operand) (rest : List Operand) → is_result u (other_argument left a b) ≡ true → 1 ≤ reads u (a ∷ b ∷ rest)
one_of true u a b rest h = (let pair = reads_pair u a b rest in let count : counted (is_result u b) ≡ 1 = ap counted h in omega (arith, pair, count))
one_of false u a b rest h = (let pair = reads_pair u a b rest in let count : counted (is_result u a) ≡ 1 = ap counted h in omega (arith, pair, count))

two_of : (left : Bool) (u : ℕ) (a b : Operand) (rest : List Operand) (x : Operand) → is_result u (other_argument left a b) ≡ true → slice_get (a ∷ b ∷ []) (if left then 0 else 1) ≡ Some x → is_result u x ≡ true → 2 ≤ reads u (a ∷ b ∷ rest)
two_of true u a b rest x h place is =
    let pair = reads_pair u a b rest in
    let same : a ≡ x = cc in
    let first : counted (is_result u a) ≡ 1 = ap (λ (y : Operand). counted (is_result u y)) same ∙ ap counted is in
    let second : counted (is_result u b) ≡ 1 = ap counted h in
    omega (arith, pair, first, second)
two_of false u a b rest x h place is =
    let pair = reads_pair u a b rest in
    let same : b ≡ x = cc in
    let second : counted (is_result u b) ≡ 1 = ap (λ (y : Operand). counted (is_result u y)) same ∙ ap counted is in
    let first : counted (is_result u a) ≡ 1 = ap counted h in
    omega (arith, pair, first, second)

-- ---- in a node with these operations and these other operands

module _ (scope : Scope) (ops : List OpTree) (others : List Operand) (whole : (u : ℕ) → reads u scope.operands ≡ reads u (ops_operands ops) + reads u others) where
  abbrev all : List (Option Taking)
  all = chosen scope ops [] ops

  -- the operation that takes u in reads it, and is the only one
  record Taker (u : ℕ) : Type 0 where
    place : ℕ
    two : OpTree
    taking : Taking
    there : slice_get ops place ≡ Some two
    chose : slice_get all place ≡ Some (Some taking)
    is : taking.op ≡ u
    reads_it : 1 ≤ reads u (op_operands two)
    once : reads u scope.operands ≡ 1

  pub pair_reads : (u v : ℕ) (one two : OpTree) → is_pair scope u one v two ≡ true → (reads u scope.operands ≡ 1) × (1 ≤ reads u two.args)
  pair_reads u v one two h =
      let read = (and_parts (is_read_by scope.operands u two) _ (and_parts (are_alike scope.period one two) _ h).1).0 in
      let parts = and_parts (reads u scope.operands == 1) (list_any (is_result_now u) two.args) read in
      (eqb-true (reads u scope.operands) 1 parts.0, reads_some u two.args (result_now u two.args parts.1))

  taker : (u : ℕ) → is_taken all u ≡ true → Taker u
  taker u h =
      let t = taken_by all u h in
      let many = chosen_many scope ops [] ops in
      let inside = slice_get_within all t.place (Some t.taking) t.at in
      let found = found_at ops t.place (omega (arith, many, inside)) in
      let takes_ = choices.takes scope ops t.place found.0 t.taking found.1 t.at in
      let pair = pair_reads t.taking.op t.place takes_.one found.0 takes_.pair in
      let guard = reads_both t.taking.op found.0.args (option_to_list found.0.guard) in
      record {
        place = t.place;
        two = found.0;
        taking = t.taking;
        there = found.1;
        chose = t.at;
        is = t.is;
        reads_it = subst (λ n. 1 ≤ reads n (op_operands found.0)) t.is (omega (arith, pair.1, guard));
        once = subst (λ n. reads n scope.operands ≡ 1) t.is pair.0;
      }

  -- what an operation that takes in none reads is kept
  pub stays_kept : (k : ℕ) (op : OpTree) → slice_get ops k ≡ Some op → slice_get all k ≡ Some None → AllKept all (op_operands op)
  stays_kept k op at none = all_kept all (op_operands op) unread where
    unread : (u : ℕ) → is_taken all u ≡ true → reads u (op_operands op) ≡ 0
    unread u h =
        let t = taker u h in
        let apart : k ≢ t.place = (λ e. (let both : Some None ≡ Some (Some t.taking) = sym none ∙ (ap (slice_get all) e ∙ t.chose) in cc)) in
        let two = reads_two u ops k t.place op t.two at t.there apart in
        let sum = whole u in
        omega (arith, two, sum, t.once, t.reads_it)

  -- and so are the outs, the test and the end
  pub others_kept : AllKept all others
  others_kept = all_kept all others unread where
    unread : (u : ℕ) → is_taken all u ≡ true → reads u others ≡ 0
    unread u h =
        let t = taker u h in
        let one = reads_at u ops t.place t.two t.there in
        let sum = whole u in
        omega (arith, one, sum, t.once, t.reads_it)

  -- of an operation that takes in what its first argument names, the second one is kept, and the other way round
  pub other_kept : (k : ℕ) (two : OpTree) (t : Taking) (a b : Operand) → slice_get ops k ≡ Some two → slice_get all k ≡ Some (Some t) → two.args ≡ a ∷ b ∷ [] → IsKept all (other_argument t.pairing.left a b)
  other_kept k two t a b at chose args j names = by (is_taken all j.0) refl where
    same : op_operands two ≡ a ∷ b ∷ option_to_list two.guard
    same = ap (λ (xs : List Operand). xs ++ option_to_list two.guard) args

    is : is_result j.0 (other_argument t.pairing.left a b) ≡ true
    is = ap (names_result j.0) names ∙ eq-eqb j.0 j.0 refl

    one : 1 ≤ reads j.0 (op_operands two)
    one = subst (λ (xs : List Operand). 1 ≤ reads j.0 xs) (sym same) (one_of t.pairing.left j.0 a b (option_to_list two.guard) is)

    two_ : t.op ≡ j.0 → 2 ≤ reads j.0 (op_operands two)
    two_ e =
        let h = choices.takes scope ops k two t at chose in
        let place = subst (λ (xs : List Operand). slice_get xs (if t.pairing.left then 0 else 1) ≡ Some h.argument) args h.place in
        let named : is_result j.0 h.argument ≡ true = ap (names_result j.0) h.names ∙ eq-eqb t.op j.0 e in
        subst (λ (xs : List Operand). 2 ≤ reads j.0 xs) (sym same) (two_of t.pairing.left j.0 a b (option_to_list two.guard) h.argument is place named)

    taken : (p : Taker j.0) (c : Bool) → (k == p.place) ≡ c → ⊥
    taken p true e =
        let here : k ≡ p.place = eqb-true k p.place e in
        let both : Some (Some t) ≡ Some (Some p.taking) = sym chose ∙ (ap (slice_get all) here ∙ p.chose) in
        let equal : t ≡ p.taking = cc in
        let count = two_ (ap (λ (x : Taking). x.op) equal ∙ p.is) in
        let most = reads_at j.0 ops k two at in
        let sum = whole j.0 in
        omega (arith, count, most, sum, p.once)
    taken p false e =
        let apart : k ≢ p.place = (λ same_. false≢true (sym e ∙ eq-eqb k p.place same_)) in
        let most = reads_two j.0 ops k p.place two p.two at p.there apart in
        let sum = whole j.0 in
        omega (arith, one, most, sum, p.once, p.reads_it)

    by : (c : Bool) → is_taken all j.0 ≡ c → c ≡ false
    by false e = refl
    by true e = (let p = taker j.0 e in absurd (taken p (k == p.place) refl))
