-- The choices that fusing makes suit a body whose operands name earlier operations.
use Rattle.std.proofs.Common.{◌≡◌, ◌∙◌, ◌≢◌, ℕ, zero, suc, ◌+◌, ◌<◌, ◌≤◌, Bool, true, false, List, [], ◌∷◌, ◌++◌, length, take, get_or, Option, Some, None, inl, inr, refl, sym, ap, subst, arith}
use Rattle.std.specs.Prelude.{slice_get, is_none, ◌==◌, ◌&&◌, if◌then◌else◌}
use Rattle.std.specs.Option.{option_to_list}
use Rattle.std.specs.List.{list_any}
use Rattle.std.proofs.lemmas.Bool.{cases_eq, eqb-true, and_parts}
use Rattle.std.proofs.lemmas.Option.{slice_get_within, slice_get-get_or}
use Rattle.ir_core.specs.declared.body.OpKind.TheVariants as o
use Rattle.ir_core.specs.declared.body.Operand.{Operand}
use Rattle.ir_core.specs.declared.body.Simple.{Simple}
use Rattle.ir_core.specs.declared.body.Source.{Source}
use Rattle.ir_core.specs.declared.body.Source.TheVariants as source
use Rattle.ir_core.specs.Bodies.{OpTree}
use Rattle.op_chain.specs.declared.choices.Taking.{Taking}
use Rattle.op_chain.specs.Forward.{NamesBefore, AllBefore, HasTwo, OpsForward}
use Rattle.op_chain.specs.Reads.{op_operands, ops_operands, is_result_now, reads}
use Rattle.op_chain.specs.Pairs.{Scope, simple_of, fit, are_alike, is_read_by, reaches_none, is_pair}
use Rattle.op_chain.specs.Fusing.{chosen, is_taken}
use Rattle.op_chain.proofs.Performing.{none_some, some_same}
use Rattle.op_chain.proofs.Keeping.{Kept, AllKept, IsTakenIn, SidesFit, TakesIn, OpSuits, Suits}
use Rattle.op_chain.proofs.Counting.{reads_append, reads_at, reads_two, names_itself, read_once_more, reads_rest, reads_some}
use Rattle.op_chain.proofs.Choosing.{Chose, chose, chosen_at, chosen_count, taker, taken_by, get_take, take_count}

-- ---- the parts of a pair

is_none_is : {A : Type 0} (x : Option A) → is_none x ≡ true → x ≡ None
is_none_is None e = refl
is_none_is (Some x) e = absurd cc

pub record PairParts (scope : Scope) (u : ℕ) (one : OpTree) (v : ℕ) (two : OpTree) : Type 0 where
  pub bits : one.bits ≡ two.bits
  pub first_guard : one.guard ≡ None
  pub second_guard : two.guard ≡ None
  pub fits : fit scope.period two.bits (simple_of one.kind) (simple_of two.kind) ≡ true
  pub once : reads u scope.operands ≡ 1
  pub read : list_any (is_result_now u) two.args ≡ true
  pub first_none : reaches_none scope.handed u ≡ true
  pub second_none : reaches_none scope.handed v ≡ true

pub pair_parts : (scope : Scope) (u : ℕ) (one : OpTree) (v : ℕ) (two : OpTree) → is_pair scope u one v two ≡ true → PairParts scope u one v two
pair_parts scope u one v two e =
    let a = and_parts (are_alike scope.period one two) (is_read_by scope.operands u two && (reaches_none scope.handed u && reaches_none scope.handed v)) e in
    let b = and_parts (one.bits == two.bits) ((is_none one.guard && is_none two.guard) && fit scope.period two.bits (simple_of one.kind) (simple_of two.kind)) a.0 in
    let c = and_parts (is_none one.guard && is_none two.guard) (fit scope.period two.bits (simple_of one.kind) (simple_of two.kind)) b.1 in
    let d = and_parts (is_none one.guard) (is_none two.guard) c.0 in
    let f = and_parts (is_read_by scope.operands u two) (reaches_none scope.handed u && reaches_none scope.handed v) a.1 in
    let g = and_parts (reads u scope.operands == 1) (list_any (is_result_now u) two.args) f.0 in
    let h = and_parts (reaches_none scope.handed u) (reaches_none scope.handed v) f.1 in
    record {
      bits = eqb-true one.bits two.bits b.0;
      first_guard = is_none_is one.guard d.0;
      second_guard = is_none_is two.guard d.1;
      fits = c.1;
      once = eqb-true (reads u scope.operands) 1 g.0;
      read = g.1;
      first_none = h.0;
      second_none = h.1;
    }

-- ---- forward operations, one by one

pub forward_at : (n : ℕ) (ops : List OpTree) (k : ℕ) (op : OpTree) → OpsForward n ops → slice_get ops k ≡ Some op → AllBefore (n + k) (op_operands op) × HasTwo (simple_of op.kind) op.args
forward_at n [] k op h e = none_some e
forward_at n (o ∷ ops) zero op h e =
    let place : n ≡ n + 0 = omega arith in
    subst (λ x. AllBefore (n + 0) (op_operands x) × HasTwo (simple_of x.kind) x.args) (some_same e) (subst (λ m. AllBefore m (op_operands o)) place h.0, h.1)
forward_at n (o ∷ ops) (suc k) op h e =
    let place : suc n + k ≡ n + suc k = omega arith in subst (λ m. AllBefore m (op_operands op) × HasTwo (simple_of op.kind) op.args) place (forward_at (suc n) ops k op h.2 e)

pub before_left : (n : ℕ) (xs ys : List Operand) → AllBefore n (xs ++ ys) → AllBefore n xs
before_left n [] ys h = tt
before_left n (x ∷ xs) ys h = (h.0, before_left n xs ys h.1)

pub two_args : (kind : Option Simple) (f : Simple) (args : List Operand) → kind ≡ Some f → HasTwo kind args → (x : Operand) × (y : Operand) × (args ≡ x ∷ y ∷ [])
two_args None f args e h = none_some e
two_args (Some g) f [] e h = absurd cc
two_args (Some g) f (x ∷ []) e h = absurd cc
two_args (Some g) f (x ∷ y ∷ []) e h = (x, y, refl)
two_args (Some g) f (x ∷ y ∷ z ∷ xs) e h = absurd (omega (arith, h))

module _ (scope : Scope) (ops : List OpTree) (others : List Operand) where
  abbrev pub cs : List (Option Taking)
  cs = chosen scope ops [] ops

  -- operation v takes in operation u
  pub record Taker (u v : ℕ) (t : Taking) : Type 0 where
    pub two : OpTree
    pub at : slice_get ops v ≡ Some two
    pub chosen_ : slice_get cs v ≡ Some (Some t)
    pub op : t.op ≡ u
    pub below : v < length ops
    pub chose_ : Chose scope ops (take v cs) two t
    pub parts : PairParts scope u chose_.one v two

  module _ (forward : OpsForward zero ops) (counts : (u : ℕ) → reads u scope.operands ≡ reads u (ops_operands ops) + reads u others) where
    pub taker_at : (v : ℕ) (t : Taking) → slice_get cs v ≡ Some (Some t) → Taker t.op v t
    taker_at v t e =
        let below : v < length ops = (let a = slice_get_within cs v (Some t) e in let b = chosen_count scope ops [] ops in omega (arith, a, b)) in
        let at = slice_get-get_or ops v nothing_ below in
        let two = get_or ops v nothing_ in
        let c = chose scope ops (take v cs) two t (some_same (sym (chosen_at scope ops v two at) ∙ e)) in
        let count : length (take v cs) ≡ v = take_count cs v (let b = chosen_count scope ops [] ops in omega (arith, b, below)) in
        record {
          two = two;
          at = at;
          chosen_ = e;
          op = refl;
          below = below;
          chose_ = c;
          parts = pair_parts scope t.op c.one v two (subst (λ n. is_pair scope t.op c.one n two ≡ true) count c.pair);
        }
      where
        nothing_ : OpTree
        nothing_ = record { kind = o.Add; signed = false; bits = 0; args = []; array = None; guard = None; flag = None }

    pub record AnyTaker (u : ℕ) : Type 0 where
      pub v : ℕ
      pub t : Taking
      pub it : Taker u v t

    pub taker_of : (u : ℕ) → is_taken cs u ≡ true → AnyTaker u
    taker_of u e = let r = taker cs u e in record { v = r.0; t = r.1; it = subst (λ z. Taker z r.0 r.1) r.3 (taker_at r.0 r.1 r.2) }

    -- it reads what it takes in, and so does nothing else
    takes_reads : (u v : ℕ) (t : Taking) (k : Taker u v t) → 1 ≤ reads u (op_operands k.two)
    takes_reads u v t k = let a = reads_some u k.two.args k.parts.read in let b = reads_append u k.two.args (option_to_list k.two.guard) in omega (arith, a, b)

    all_once : (u v : ℕ) (t : Taking) (k : Taker u v t) → reads u (ops_operands ops) + reads u others ≡ 1
    all_once u v t k = sym (counts u) ∙ k.parts.once

    pub others_none : (u : ℕ) → is_taken cs u ≡ true → reads u others ≡ 0
    others_none u e =
        let k = taker_of u e in let a = takes_reads u k.v k.t k.it in let b = reads_at u k.v ops k.it.two k.it.at in let c = all_once u k.v k.t k.it in omega (arith, a, b, c)

    not_read : (u v : ℕ) (t : Taking) (w : ℕ) (op : OpTree) (k : Taker u v t) → v ≢ w → slice_get ops w ≡ Some op → reads u (op_operands op) ≡ 0
    not_read u v t w op k apart e = let a = takes_reads u v t k in let b = reads_two u v w ops k.two op apart k.at e in let c = all_once u v t k in omega (arith, a, b, c)

    -- operands that read nothing that is taken in are kept
    kept_all : (n : ℕ) (xs : List Operand) → AllBefore n xs → ((u : ℕ) → is_taken cs u ≡ true → reads u xs ≡ 0) → AllKept ops cs n xs
    kept_all n [] before none = tt
    kept_all n (x ∷ xs) before none =
        (by_source x.value refl before.0, kept_all n xs before.1 (λ u e. let a = none u e in let b = reads_rest u x xs in omega (arith, a, b)))
      where
        by_source : (s : Source) → x.value ≡ s → NamesBefore n s → Kept ops cs n s
        by_source (source.Constant w) f h = tt
        by_source (source.Variable v) f h = tt
        by_source (source.Result op) f h = (h, by_test (is_taken cs op.0) refl) where
          by_test : (b : Bool) → is_taken cs op.0 ≡ b → is_taken cs op.0 ≡ false
          by_test false g = g
          by_test true g = let a = none op.0 g in let b = read_once_more op.0 x xs (names_itself op.0 x.value f) in absurd (omega (arith, a, b))

    pub others_kept : AllBefore (length ops) others → AllKept ops cs (length ops) others
    others_kept before = kept_all (length ops) others before others_none

    -- an operation that takes in none reads none that is taken in
    plain_kept : (n : ℕ) (op : OpTree) → slice_get ops n ≡ Some op → ((t : Taking) → slice_get cs n ≡ Some (Some t) → ⊥) → AllKept ops cs n (op_operands op)
    plain_kept n op at takes_none =
        kept_all n (op_operands op) (subst (λ m. AllBefore m (op_operands op)) (let e : 0 + n ≡ n = omega arith in e) (forward_at zero ops n op forward at).0)
        (λ u e. let k = taker_of u e in not_read u k.v k.t n op k.it (λ same. takes_none k.t (subst (λ m. slice_get cs m ≡ Some (Some k.t)) same k.it.chosen_)) at)

    all_first : (n : ℕ) (xs ys : List Operand) → AllKept ops cs n (xs ++ ys) → AllKept ops cs n xs
    all_first n [] ys h = tt
    all_first n (x ∷ xs) ys h = (h.0, all_first n xs ys h.1)

    -- what is taken in, by the operation that does so
    is_in : (u v : ℕ) (t : Taking) (k : Taker u v t) → (x : Operand) × (y : Operand) × IsTakenIn ops cs u k.chose_.one t.pairing.first x y
    is_in u v t k =
        let one = k.chose_.one in
        let at : slice_get ops u ≡ Some one = subst (λ n. slice_get ops n ≡ Some one) k.op k.chose_.at in
        let free = (get_take cs v u None (subst (λ n. slice_get (take v cs) n ≡ Some None) k.op k.chose_.free)).1 in
        let h = forward_at zero ops u one forward at in
        let r = two_args (simple_of one.kind) t.pairing.first one.args k.chose_.first h.1 in
        let kept = all_first u one.args (option_to_list one.guard) (plain_kept u one at (λ x e. none_some (some_same (sym free ∙ e)))) in
        let pair = subst (AllKept ops cs u) r.2 kept in
        (r.0, r.1, record { kind = k.chose_.first; guard = k.parts.first_guard; args = r.2; first = pair.0; second = pair.1.0 })

    taken_suits : (n : ℕ) (op : OpTree) (choice_ : Option (Option Taking)) → slice_get ops n ≡ Some op → is_taken cs n ≡ true → OpSuits ops cs n op choice_ true
    taken_suits n op choice_ at e =
        let k = taker_of n e in
        let r = is_in n k.v k.t k.it in
        let same : k.it.chose_.one ≡ op = some_same (sym (subst (λ m. slice_get ops m ≡ Some k.it.chose_.one) k.it.op k.it.chose_.at) ∙ at) in
        (k.t.pairing.first, r.0, r.1, subst (λ o. IsTakenIn ops cs n o k.t.pairing.first r.0 r.1) same r.2)

    -- the two sides of an operation that takes in another one
    two_sides : (left : Bool) (n u : ℕ) (a b : Operand) → (x : Operand) → slice_get (a ∷ b ∷ []) (if left then 0 else 1) ≡ Some x → x.value ≡ source.Result (record { 0 = u }) → AllBefore n (a ∷ b ∷ [])
        → reads u (a ∷ b ∷ []) ≤ 1 → ((j : ℕ) → is_taken cs j ≡ true → j ≢ u → reads j (a ∷ b ∷ []) ≡ 0) → SidesFit ops cs left u n a.value b.value
    two_sides true n u a b x place named before once none =
        let is_a : a.value ≡ source.Result (record { 0 = u }) = ap (λ (y : Operand). y.value) (some_same place) ∙ named in (
          is_a,
          (kept_all n (b ∷ []) before.1 (λ j e. elim (cases_eq j u) [
            | inl same ↦ subst (λ z. reads z (b ∷ []) ≡ 0) (sym same) (let f = read_once_more u a (b ∷ []) (names_itself u a.value is_a) in omega (arith, f, once))
            | inr apart ↦ (let f = none j e apart in let g = reads_rest j a (b ∷ []) in omega (arith, f, g))
          ])).0,
        )
    two_sides false n u a b x place named before once none =
        let is_b : b.value ≡ source.Result (record { 0 = u }) = ap (λ (y : Operand). y.value) (some_same place) ∙ named in
        let f = read_once_more u b [] (names_itself u b.value is_b) in
        let first : (j : ℕ) → reads j (a ∷ b ∷ []) ≡ reads j (a ∷ []) + reads j (b ∷ []) = λ j. reads_append j (a ∷ []) (b ∷ []) in (
          is_b,
          (kept_all n (a ∷ []) (before.0, tt) (λ j e. elim (cases_eq j u) [
            | inl same ↦ subst (λ z. reads z (a ∷ []) ≡ 0) (sym same) (let g = first u in omega (arith, f, g, once))
            | inr apart ↦ (let h = none j e apart in let g = first j in omega (arith, h, g))
          ])).0,
        )

    takes_suits : (n : ℕ) (op : OpTree) (t : Taking) → slice_get ops n ≡ Some op → slice_get cs n ≡ Some (Some t) → TakesIn ops cs n op t
    takes_suits n op t at e =
        let k = taker_at n t e in
        let r = is_in t.op n t k in
        let same : k.two ≡ op = some_same (sym k.at ∙ at) in
        let h = forward_at zero ops n op forward at in
        let kind : simple_of op.kind ≡ Some t.pairing.second = ap (λ (o : OpTree). simple_of o.kind) (sym same) ∙ k.chose_.second in
        let args = two_args (simple_of op.kind) t.pairing.second op.args kind h.1 in
        let place : 0 + n ≡ n = omega arith in
        let before = before_left n op.args (option_to_list op.guard) (subst (λ m. AllBefore m (op_operands op)) place h.0) in
        let shorter : (u : ℕ) → reads u op.args ≤ reads u (op_operands op) = λ u. (let f = reads_append u op.args (option_to_list op.guard) in omega (arith, f)) in
        record {
          one = k.chose_.one;
          x = r.0;
          y = r.1;
          a = args.0;
          b = args.1;
          at = k.chose_.at;
          below = (get_take cs n t.op None k.chose_.free).0;
          is_in = taken_by cs n t e;
          taken = r.2;
          kind = kind;
          bits = k.parts.bits ∙ ap (λ (o : OpTree). o.bits) same;
          guard = ap (λ (o : OpTree). o.guard) (sym same) ∙ k.parts.second_guard;
          args = args.2;
          sides =
              two_sides t.pairing.left n t.op args.0 args.1 k.chose_.x (ap (λ xs. slice_get xs (if t.pairing.left then 0 else 1)) (sym args.2 ∙ ap (λ (o : OpTree). o.args) (sym same)) ∙ k.chose_.place) k.chose_.named
              (subst (AllBefore n) args.2 before) (let f = reads_at t.op n ops op at in let g = all_once t.op n t k in let d = shorter t.op in let w = ap (reads t.op) (sym args.2) in omega (arith, f, g, d, w))
              (λ j taken apart.
              let q = taker_of j taken in
              let z = not_read j q.v q.t n op q.it (λ here. apart (sym q.it.op ∙ ap (λ (x : Taking). x.op) (some_same (some_same (sym (subst (λ m. slice_get cs m ≡ Some (Some q.t)) here q.it.chosen_) ∙ e))))) at in
              let d = shorter j in
              let w = ap (reads j) (sym args.2) in omega (arith, z, d, w));
        }

    pub suits : Suits ops cs
    suits n op at = by_taken (is_taken cs n) (slice_get cs n) refl refl where
      by_taken : (b : Bool) (c : Option (Option Taking)) → is_taken cs n ≡ b → slice_get cs n ≡ c → OpSuits ops cs n op c b
      by_taken true c f g = taken_suits n op c at f
      by_taken false (Some (Some t)) f g = takes_suits n op t at g
      by_taken false (Some None) f g = plain_kept n op at (λ t e. none_some (some_same (sym g ∙ e)))
      by_taken false None f g = plain_kept n op at (λ t e. none_some (sym g ∙ e))
