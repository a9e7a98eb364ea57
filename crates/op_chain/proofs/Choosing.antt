-- What the choices of a body are, one by one.
use Rattle.std.proofs.Common.{◌≡◌, ◌∙◌, ℕ, zero, suc, ◌+◌, ◌<◌, Bool, true, false, List, [], ◌∷◌, ◌++◌, length, take, Option, Some, None, refl, sym, ap, ap₂, subst, arith, length-append, append_assoc}
use Rattle.std.specs.Prelude.{slice_get, ◌==◌, ◌||◌, if◌then◌else◌}
use Rattle.std.proofs.lemmas.Bool.{eqb-true, eq-eqb}
use Rattle.std.proofs.lemmas.List.{append-nil}
use Rattle.ir_core.specs.declared.body.Operand.{Operand}
use Rattle.ir_core.specs.declared.body.Simple.{Simple}
use Rattle.ir_core.specs.declared.body.Source.{Source}
use Rattle.ir_core.specs.declared.body.Source.TheVariants as source
use Rattle.ir_core.specs.Bodies.{OpTree}
use Rattle.op_chain.specs.declared.choices.Taking.{Taking}
use Rattle.op_chain.specs.Pairs.{Scope, simple_of, is_pair}
use Rattle.op_chain.specs.Fusing.{paired, taking, taking_by, taking_through, or_else, choice, chosen, takes, is_taken}
use Rattle.op_chain.proofs.Performing.{none_some, some_same}

-- ---- one choice

record Paired (u : ℕ) (left : Bool) (f g : Option Simple) (t : Taking) : Type 0 where
  pub op : t.op ≡ u
  pub side : t.pairing.left ≡ left
  pub first : f ≡ Some t.pairing.first
  pub second : g ≡ Some t.pairing.second

paired_is : (u : ℕ) (left : Bool) (f g : Option Simple) (t : Taking) → paired u left f g ≡ Some t → Paired u left f g t
paired_is u left (Some f) (Some g) t e =
    let same = some_same e in
    record {
      op = ap (λ (x : Taking). x.op) (sym same);
      side = ap (λ (x : Taking). x.pairing.left) (sym same);
      first = ap (λ (x : Taking). Some x.pairing.first) same;
      second = ap (λ (x : Taking). Some x.pairing.second) same;
    }
paired_is u left (Some f) None t e = none_some e
paired_is u left None g t e = none_some e

-- operation v takes in operation u
record Takes (scope : Scope) (o : Option OpTree) (c : Option (Option Taking)) (left : Bool) (u v : ℕ) (two : OpTree) (t : Taking) : Type 0 where
  pub one : OpTree
  pub at : o ≡ Some one
  pub free : c ≡ Some None
  pub pair : is_pair scope u one v two ≡ true
  pub names : Paired u left (simple_of one.kind) (simple_of two.kind) t

taking_is : (scope : Scope) (left : Bool) (u : ℕ) (o : Option OpTree) (c : Option (Option Taking)) (v : ℕ) (two : OpTree) (t : Taking) → taking scope left u o c v two ≡ Some t → Takes scope o c left u v two t
taking_is scope left u None c v two t e = none_some e
taking_is scope left u (Some one) None v two t e = none_some e
taking_is scope left u (Some one) (Some (Some x)) v two t e = none_some e
taking_is scope left u (Some one) (Some None) v two t e = by_test (is_pair scope u one v two) refl e where
  by_test : (b : Bool) → is_pair scope u one v two ≡ b → (if b then paired u left (simple_of one.kind) (simple_of two.kind) else None) ≡ Some t → Takes scope (Some one) (Some None) left u v two t
  by_test true f g = record { one = one; at = refl; free = refl; pair = f; names = paired_is u left (simple_of one.kind) (simple_of two.kind) t g }
  by_test false f g = none_some g

-- what an operation takes in stands among its arguments
pub record Chose (scope : Scope) (ops : List OpTree) (choices : List (Option Taking)) (two : OpTree) (t : Taking) : Type 0 where
  pub one : OpTree
  pub x : Operand
  pub place : slice_get two.args (if t.pairing.left then 0 else 1) ≡ Some x
  pub named : x.value ≡ source.Result (record { 0 = t.op })
  pub at : slice_get ops t.op ≡ Some one
  pub free : slice_get choices t.op ≡ Some None
  pub pair : is_pair scope t.op one (length choices) two ≡ true
  pub first : simple_of one.kind ≡ Some t.pairing.first
  pub second : simple_of two.kind ≡ Some t.pairing.second

through_is : (scope : Scope) (ops : List OpTree) (choices : List (Option Taking)) (two : OpTree) (left : Bool) (place : ℕ) (arg : Option Operand) (t : Taking) → slice_get two.args place ≡ arg → (if left then 0 else 1) ≡ place
    → taking_through scope ops choices two left arg ≡ Some t → Chose scope ops choices two t
through_is scope ops choices two left place None t at side e = none_some e
through_is scope ops choices two left place (Some x) t at side e = by_source x.value refl e where
  by_source : (s : Source) → x.value ≡ s → taking_by scope ops choices two left s ≡ Some t → Chose scope ops choices two t
  by_source (source.Constant w) f g = none_some g
  by_source (source.Variable v) f g = none_some g
  by_source (source.Result op) f g =
      let k = taking_is scope left op.0 (slice_get ops op.0) (slice_get choices op.0) (length choices) two t g in
      let here = sym k.names.op in
      record {
        one = k.one;
        x = x;
        place = ap (slice_get two.args) (ap (λ b. if b then 0 else 1) k.names.side ∙ side) ∙ at;
        named = f ∙ ap (λ n. source.Result (record { 0 = n })) here;
        at = subst (λ n. slice_get ops n ≡ Some k.one) here k.at;
        free = subst (λ n. slice_get choices n ≡ Some None) here k.free;
        pair = subst (λ n. is_pair scope n k.one (length choices) two ≡ true) here k.pair;
        first = k.names.first;
        second = k.names.second;
      }

pub chose : (scope : Scope) (ops : List OpTree) (choices : List (Option Taking)) (two : OpTree) (t : Taking) → choice scope ops choices two ≡ Some t → Chose scope ops choices two t
chose scope ops choices two t e = by_first (taking_through scope ops choices two true (slice_get two.args 0)) refl e where
  by_first : (x : Option Taking) → taking_through scope ops choices two true (slice_get two.args 0) ≡ x → or_else x (taking_through scope ops choices two false (slice_get two.args 1)) ≡ Some t → Chose scope ops choices two t
  by_first None f g = through_is scope ops choices two false 1 (slice_get two.args 1) t refl refl g
  by_first (Some x) f g = through_is scope ops choices two true 0 (slice_get two.args 0) t refl refl (f ∙ g)

-- ---- all choices

front : (scope : Scope) (ops : List OpTree) (done : List (Option Taking)) (rest : List OpTree) → (more : List (Option Taking)) × (chosen scope ops done rest ≡ done ++ more)
front scope ops done [] = ([], sym (append-nil done))
front scope ops done (op ∷ rest) =
    let c = choice scope ops done op in
    let r = front scope ops (done ++ c ∷ []) rest in
    (c ∷ r.0, r.1 ∙ append_assoc done (c ∷ []) r.0)

get_behind : {A : Type 0} (xs : List A) (x : A) (ys : List A) → slice_get (xs ++ x ∷ ys) (length xs) ≡ Some x
get_behind [] x ys = refl
get_behind (z ∷ zs) x ys = get_behind zs x ys

take_front : {A : Type 0} (xs ys : List A) → take (length xs) (xs ++ ys) ≡ xs
take_front [] ys = refl
take_front (x ∷ xs) ys = ap (λ l. x ∷ l) (take_front xs ys)

at_place : (scope : Scope) (ops : List OpTree) (done : List (Option Taking)) (rest : List OpTree) (k : ℕ) (op : OpTree) → slice_get rest k ≡ Some op
    → slice_get (chosen scope ops done rest) (length done + k) ≡ Some (choice scope ops (take (length done + k) (chosen scope ops done rest)) op)
at_place scope ops done [] k op e = none_some e
at_place scope ops done (o ∷ rest) zero op e =
    let c = choice scope ops done o in
    let r = front scope ops (done ++ c ∷ []) rest in
    let all : chosen scope ops done (o ∷ rest) ≡ done ++ (c ∷ r.0) = r.1 ∙ append_assoc done (c ∷ []) r.0 in
    let place : length done + 0 ≡ length done = omega arith in
    ap₂ slice_get all place ∙ (get_behind done c r.0 ∙ ap₂ (λ cs x. Some (choice scope ops cs x)) (sym (ap₂ take place all ∙ take_front done (c ∷ r.0))) (some_same e))
at_place scope ops done (o ∷ rest) (suc k) op e =
    let c = choice scope ops done o in
    let place : length (done ++ c ∷ []) + k ≡ length done + suc k = (let n = length-append done (c ∷ []) in omega (arith, n)) in
    let all = chosen scope ops done (o ∷ rest) in
    subst (λ n. slice_get all n ≡ Some (choice scope ops (take n all) op)) place (at_place scope ops (done ++ c ∷ []) rest k op e)

pub chosen_at : (scope : Scope) (ops : List OpTree) (v : ℕ) (op : OpTree) → slice_get ops v ≡ Some op → slice_get (chosen scope ops [] ops) v ≡ Some (choice scope ops (take v (chosen scope ops [] ops)) op)
chosen_at scope ops v op e =
    let place : 0 + v ≡ v = omega arith in
    subst (λ n. slice_get (chosen scope ops [] ops) n ≡ Some (choice scope ops (take n (chosen scope ops [] ops)) op)) place (at_place scope ops [] ops v op e)

pub chosen_count : (scope : Scope) (ops : List OpTree) (done : List (Option Taking)) (rest : List OpTree) → length (chosen scope ops done rest) ≡ length done + length rest
chosen_count scope ops done [] = omega arith
chosen_count scope ops done (op ∷ rest) =
    let e = chosen_count scope ops (done ++ choice scope ops done op ∷ []) rest in let n = length-append done (choice scope ops done op ∷ []) in omega (arith, e, n)

-- ---- what is taken in

pub taker : (cs : List (Option Taking)) (u : ℕ) → is_taken cs u ≡ true → (v : ℕ) × (t : Taking) × (slice_get cs v ≡ Some (Some t)) × (t.op ≡ u)
taker [] u e = absurd cc
taker (None ∷ cs) u e = let r = taker cs u e in (suc r.0, r.1, r.2, r.3)
taker (Some t ∷ cs) u e = by_test (λ g. taker cs u g) (t.op == u) refl e where
  by_test : (is_taken cs u ≡ true → (v : ℕ) × (x : Taking) × (slice_get cs v ≡ Some (Some x)) × (x.op ≡ u)) → (b : Bool) → (t.op == u) ≡ b → (b || is_taken cs u) ≡ true
      → (v : ℕ) × (x : Taking) × (slice_get (Some t ∷ cs) v ≡ Some (Some x)) × (x.op ≡ u)
  by_test further true f g = (0, t, refl, eqb-true t.op u f)
  by_test further false f g = let r = further g in (suc r.0, r.1, r.2, r.3)

or_true : (b : Bool) → (b || true) ≡ true
or_true true = refl
or_true false = refl

pub taken_by : (cs : List (Option Taking)) (v : ℕ) (t : Taking) → slice_get cs v ≡ Some (Some t) → is_taken cs t.op ≡ true
taken_by [] v t e = none_some e
taken_by (c ∷ cs) zero t e = ap (λ x. takes t.op x || is_taken cs t.op) (some_same e) ∙ ap (λ b. b || is_taken cs t.op) (eq-eqb t.op t.op refl)
taken_by (c ∷ cs) (suc v) t e = ap (λ b. takes t.op c || b) (taken_by cs v t e) ∙ or_true (takes t.op c)

pub get_take : {A : Type 0} (xs : List A) (n k : ℕ) (x : A) → slice_get (take n xs) k ≡ Some x → (k < n) × (slice_get xs k ≡ Some x)
get_take [] zero k x e = none_some e
get_take [] (suc n) k x e = none_some e
get_take (y ∷ ys) zero k x e = none_some e
get_take (y ∷ ys) (suc n) zero x e = (omega arith, e)
get_take (y ∷ ys) (suc n) (suc k) x e = let r = get_take ys n k x e in (let h = r.0 in omega (arith, h), r.1)

pub take_count : {A : Type 0} (xs : List A) (n : ℕ) → n < length xs → length (take n xs) ≡ n
take_count [] n h = absurd (omega (arith, h))
take_count (x ∷ xs) zero h = refl
take_count (x ∷ xs) (suc n) h = ap suc (take_count xs n (omega (arith, h)))
