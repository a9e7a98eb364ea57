-- Cases compared one after another, and each with all behind it.
use Rattle.std.proofs.Common.{◌≡◌, ◌≢◌, ℕ, zero, suc, ◌+◌, ◌<◌, ◌≤◌, ◌&&◌, ◌||◌, not, Bool, true, false, List, [], ◌∷◌, ◌++◌, map, length, drop, get_or, drop-cons, slice_get, Option, Some, None, is_some, refl, sym, ap, ◌∙◌, arith}
use Rattle.std.specs.Prelude.{◌==◌, nat_eq, if◌then◌else◌}
use Rattle.std.specs.List.{list_any, list_all}
use Rattle.std.proofs.lemmas.Bool.{false≢true}
use Rattle.std.proofs.lemmas.Bool.Decides.{Decides-eqb}
use Rattle.std.proofs.lemmas.List.{drop_all, length-map}
use Rattle.std.proofs.lemmas.List.Folds.{list_any-append, list_all-map}
use Rattle.hls_base.specs.declared.number.NodeId.{NodeId}
use Rattle.hls_base.specs.declared.number.OpId.{OpId}
use Rattle.indexmap.specs.IndexSet.{insert_key}
use Rattle.ir_core.specs.declared.body.Body.{Body}
use Rattle.ir_core.specs.declared.body.Op.{Op}
use Rattle.ir_core.specs.declared.body.OpKind.{OpKind}
use Rattle.ir_core.specs.declared.body.OpKind.TheVariants as o
use Rattle.ir_core.specs.declared.body.Operand.{Operand}
use Rattle.ir_core.specs.declared.body.Source.{Source}
use Rattle.ir_core.specs.declared.body.Source.TheVariants as source
use Rattle.ir_core.specs.declared.timed.Timed.{Timed}
use Rattle.clock_ir.specs.Flows.{TimedBody, timed_op, timed_body}
use Rattle.passes.specs.Numbering.Equal.{operand_eq}
use Rattle.passes.proofs.Equalities.{operand_same}
use Rattle.reg_binding.proofs.LiveVariables.Elements.{got_of, map_at, past}
use Rattle.datapath.specs.LeftOut.{with_number, arguments_compared, compared_by, compared_if, compared_in, compared, differ_as, differ, all_differ}
use Rattle.circuit_control.specs.Savings.Cases.{is_other, number_in, all_others}

abbrev pub Comparison : Type 0
Comparison = Option (Operand × ℕ)

-- ---- what a test compares

pub no_kind : (kind : OpKind) (args : List Operand) → (kind ≡ o.Eq → ⊥) → None ≡ compared_by kind args
no_kind o.Eq args ne = absurd (ne refl)
no_kind kind args ne = refl

pub no_result : (body : TimedBody) (v : Source) → ((op : OpId) → v ≡ source.Result op → ⊥) → None ≡ compared_in body v
no_result body (source.Result op) ne = absurd (ne op refl)
no_result body v ne = refl

pub result_past : (interval : ℕ) (body : Body Timed) (v : Source) (op : OpId) → v ≡ source.Result op → length body.ops.items ≤ op.0 → None ≡ compared_in (timed_body interval body) v
result_past interval body v op is l =
    let mapped = length-map body.ops.items timed_op in
    sym (ap (compared_in (timed_body interval body)) is ∙ ap compared_if (past (map timed_op body.ops.items) op.0 (omega arith)))

pub result_at : (interval : ℕ) (body : Body Timed) (v : Source) (op : OpId) (it : Op Timed) → v ≡ source.Result op → op.0 < length body.ops.items → it ≡ get_or body.ops.items op.0 it
    → compared_by it.kind it.args.items ≡ compared_in (timed_body interval body) v
result_at interval body v op it is l at =
    sym (ap (compared_in (timed_body interval body)) is ∙ ap compared_if (map_at timed_op body.ops.items op.0 it (got_of body.ops.items op.0 it l at)))

-- ---- one case more

pub other_no : (x : Operand) (numbers : List ℕ) (it : Comparison) → it ≡ None → false ≡ is_other x numbers it
other_no x numbers it is = sym (ap (is_other x numbers) is)

pub other_value : (x : Operand) (numbers : List ℕ) (it : Comparison) (y : Operand) (n : ℕ) → it ≡ Some (y, n) → operand_eq x y ≡ false → false ≡ is_other x numbers it
other_value x numbers it y n is ne = sym (ap (is_other x numbers) is ∙ ap (λ b. b && not (list_any (nat_eq n) numbers)) ne)

pub other_number : (x : Operand) (numbers : List ℕ) (it : Comparison) (y : Operand) (n : ℕ) (b : Bool) → it ≡ Some (y, n) → operand_eq x y ≡ true → b ≡ not (list_any (nat_eq n) numbers)
    → b ≡ is_other x numbers it
other_number x numbers it y n b is same added = added ∙ sym (ap (is_other x numbers) is ∙ ap (λ c. c && not (list_any (nat_eq n) numbers)) same)

pub number_more : (numbers more : List ℕ) (it : Comparison) (y : Operand) (n : ℕ) (b : Bool) → it ≡ Some (y, n) → b ≡ not (list_any (nat_eq n) numbers) → b ≡ true → more ≡ insert_key nat_eq numbers n
    → more ≡ numbers ++ number_in it
number_more numbers more it y n b is added new keys = keys ∙ by (list_any (nat_eq n) numbers) (sym added ∙ new) ∙ ap (λ c. numbers ++ number_in c) (sym is) where
  by : (c : Bool) → not c ≡ true → (if c then numbers else numbers ++ n ∷ []) ≡ numbers ++ n ∷ []
  by true h = absurd (false≢true h)
  by false h = refl

-- ---- cases in turn

next_is : (n : ℕ) → suc n ≡ n + 1
next_is n = omega arith

module _ {C : Type 0} (f : C → Comparison) (x : Operand) (cases : List C) where
  in_turn : (numbers : List ℕ) (i : ℕ) (d : C) → i < length cases
      → all_others x numbers (map f (drop i cases)) ≡ (is_other x numbers (f (get_or cases i d)) && all_others x (numbers ++ number_in (f (get_or cases i d))) (map f (drop (i + 1) cases)))
  in_turn numbers i d l = ap (λ l. all_others x numbers (map f l)) (drop-cons cases i d l ∙ ap (λ m. get_or cases i d ∷ drop m cases) (next_is i))

  pub others_more : (numbers more : List ℕ) (i : ℕ) (d : C) (b whole : Bool) → i < length cases → b ≡ is_other x numbers (f (get_or cases i d)) → b ≡ true
      → more ≡ numbers ++ number_in (f (get_or cases i d)) → all_others x numbers (map f (drop i cases)) ≡ whole → all_others x more (map f (drop (i + 1) cases)) ≡ whole
  others_more numbers more i d b whole l is e grown before =
      ap (λ ns. all_others x ns (map f (drop (i + 1) cases))) grown
      ∙ sym (in_turn numbers i d l ∙ ap (λ c. c && all_others x (numbers ++ number_in (f (get_or cases i d))) (map f (drop (i + 1) cases))) (sym is ∙ e))
      ∙ before

  pub others_stop : (numbers : List ℕ) (i : ℕ) (d : C) (b whole : Bool) → i < length cases → b ≡ is_other x numbers (f (get_or cases i d)) → b ≡ false
      → all_others x numbers (map f (drop i cases)) ≡ whole → false ≡ whole
  others_stop numbers i d b whole l is e before =
      sym (in_turn numbers i d l ∙ ap (λ c. c && all_others x (numbers ++ number_in (f (get_or cases i d))) (map f (drop (i + 1) cases))) (sym is ∙ e)) ∙ before

  pub others_end : (numbers : List ℕ) (i : ℕ) (whole : Bool) → length cases ≤ i → all_others x numbers (map f (drop i cases)) ≡ whole → true ≡ whole
  others_end numbers i whole l before = sym (ap (λ c. all_others x numbers (map f c)) (drop_all i cases l)) ∙ before

-- ---- in turn, and each with all behind it

turned : (a b : ℕ) → (a == b) ≡ (b == a)
turned a b = by (a == b) refl (b == a) refl where
  by : (p : Bool) → (a == b) ≡ p → (q : Bool) → (b == a) ≡ q → p ≡ q
  by true e true f = refl
  by false e false f = refl
  by true e false f = absurd (false≢true (sym f ∙ (Decides-eqb b a).1 (sym ((Decides-eqb a b).0 e))))
  by false e true f = absurd (false≢true (sym e ∙ (Decides-eqb a b).1 (sym ((Decides-eqb b a).0 f))))

one_number : (a l c : Bool) → (a && not (l || (c || false))) ≡ ((a && not l) && (a && not c))
one_number true true c = refl
one_number true false true = refl
one_number true false false = refl
one_number false l c = refl

other_both : (x y : Operand) (n : ℕ) (numbers : List ℕ) → operand_eq x y ≡ true → (it : Comparison)
    → is_other x (numbers ++ n ∷ []) it ≡ (is_other x numbers it && differ_as (Some (y, n)) it)
other_both x y n numbers same None = refl
other_both x y n numbers same (Some it) =
    ap (λ b. operand_eq x it.0 && not b) (list_any-append (nat_eq it.1) numbers (n ∷ []))
    ∙ one_number (operand_eq x it.0) (list_any (nat_eq it.1) numbers) (it.1 == n)
    ∙ ap (λ b. (operand_eq x it.0 && not (list_any (nat_eq it.1) numbers)) && (operand_eq x it.0 && not b)) (turned it.1 n)
    ∙ ap (λ z. (operand_eq x it.0 && not (list_any (nat_eq it.1) numbers)) && (operand_eq z it.0 && not (n == it.1))) (operand_same x y same)

regrouped : (a b c d : Bool) → ((a && b) && (c && d)) ≡ ((a && c) && (b && d))
regrouped true true c d = refl
regrouped true false true d = refl
regrouped true false false d = refl
regrouped false b c d = refl

all_both : {A : Type 0} (r p q : A → Bool) → ((x : A) → r x ≡ (p x && q x)) → (xs : List A) → list_all r xs ≡ (list_all p xs && list_all q xs)
all_both r p q same [] = refl
all_both r p q same (x ∷ xs) =
    ap (λ b. b && list_all r xs) (same x) ∙ ap (λ b. (p x && q x) && b) (all_both r p q same xs) ∙ regrouped (p x) (q x) (list_all p xs) (list_all q xs)

all_same : {A : Type 0} (p q : A → Bool) → ((x : A) → p x ≡ q x) → (xs : List A) → list_all p xs ≡ list_all q xs
all_same p q same [] = refl
all_same p q same (x ∷ xs) = ap (λ b. b && list_all p xs) (same x) ∙ ap (λ b. q x && b) (all_same p q same xs)

abbrev all_apart : List Comparison → Bool
all_apart [] = true
all_apart (it ∷ rest) = is_some it && (list_all (differ_as it) rest && all_apart rest)

three : (a b c : Bool) → ((a && b) && c) ≡ (a && (b && c))
three true b c = refl
three false b c = refl

others_are : (x : Operand) (numbers : List ℕ) (all : List Comparison) → all_others x numbers all ≡ (list_all (is_other x numbers) all && all_apart all)
others_are x numbers [] = refl
others_are x numbers (None ∷ rest) = refl
others_are x numbers (Some it ∷ rest) = by (operand_eq x it.0) refl (list_any (nat_eq it.1) numbers) (others_are x (numbers ++ it.1 ∷ []) rest) where
  by : (a : Bool) → operand_eq x it.0 ≡ a → (l : Bool) → all_others x (numbers ++ it.1 ∷ []) rest ≡ (list_all (is_other x (numbers ++ it.1 ∷ [])) rest && all_apart rest)
      → ((a && not l) && all_others x (numbers ++ it.1 ∷ []) rest) ≡ (((a && not l) && list_all (is_other x numbers) rest) && (list_all (differ_as (Some it)) rest && all_apart rest))
  by true same false more =
      more ∙ ap (λ b. b && all_apart rest) (all_both (is_other x (numbers ++ it.1 ∷ [])) (is_other x numbers) (differ_as (Some it)) (other_both x it.0 it.1 numbers same) rest)
      ∙ three (list_all (is_other x numbers) rest) (list_all (differ_as (Some it)) rest) (all_apart rest)
  by true same true more = refl
  by false same l more = refl

apart_as : (body : TimedBody) (cases : List (Operand × NodeId)) → all_apart (map (compared body) cases) ≡ all_differ body cases
apart_as body [] = refl
apart_as body (case ∷ cases) =
    ap (λ b. is_some (compared body case) && (b && all_apart (map (compared body) cases))) (list_all-map (differ_as (compared body case)) (compared body) cases)
    ∙ ap (λ b. is_some (compared body case) && (list_all (differ body case) cases && b)) (apart_as body cases)

first_as : (x : Operand) (n : ℕ) (it : Comparison) → is_other x (n ∷ []) it ≡ differ_as (Some (x, n)) it
first_as x n None = refl
first_as x n (Some it) = ap (λ b. operand_eq x it.0 && not b) (or_nothing (it.1 == n) ∙ turned it.1 n) where
  or_nothing : (b : Bool) → (b || false) ≡ b
  or_nothing true = refl
  or_nothing false = refl

-- the first case compares x with this number
pub exclusive_as : (body : TimedBody) (all : List (Operand × NodeId)) (case : Operand × NodeId) (rest : List (Operand × NodeId)) (r : Comparison) (x : Operand) (n : ℕ)
    → all ≡ case ∷ rest → r ≡ compared body case → r ≡ Some (x, n) → all_others x (n ∷ []) (map (compared body) rest) ≡ all_differ body all
exclusive_as body all case rest r x n whole is at =
    let first : compared body case ≡ Some (x, n) = sym is ∙ at in
    others_are x (n ∷ []) (map (compared body) rest)
    ∙ ap (λ b. b && all_apart (map (compared body) rest)) (all_same (is_other x (n ∷ [])) (differ_as (Some (x, n))) (first_as x n) (map (compared body) rest))
    ∙ ap (λ it. is_some it && (list_all (differ_as it) (map (compared body) rest) && all_apart (map (compared body) rest))) (sym first)
    ∙ apart_as body (case ∷ rest) ∙ ap (all_differ body) (sym whole)

-- the first case compares nothing with a number
pub not_exclusive : (body : TimedBody) (all : List (Operand × NodeId)) (case : Operand × NodeId) (rest : List (Operand × NodeId)) (r : Comparison)
    → all ≡ case ∷ rest → r ≡ compared body case → r ≡ None → false ≡ all_differ body all
not_exclusive body all case rest r whole is at =
    sym (ap (all_differ body) whole ∙ ap (λ it. is_some it && (list_all (λ other. differ_as it (compared body other)) rest && all_differ body rest)) (sym is ∙ at))
