-- The ports of operations in order.
use Rattle.std.proofs.Common.{◌≡◌, ◌<◌, inl, inr, ℕ, zero, suc, ◌+◌, Bool, true, false, cond, List, [], ◌∷◌, ◌++◌, length, take, get_or, slice_get, Option, Some, None, Result, Ok, Err, arith, refl, sym, ap, ap₂, ◌∙◌, append_assoc}
use Rattle.std.specs.Prelude.{◌==◌, ◌%◌, ◌&&◌, ◌||◌, count_by, if◌then◌else◌, OnOk}
use Rattle.std.proofs.lemmas.Bool.{cases_Bool, and_parts, cond-true, cond-false}
use Rattle.std.proofs.lemmas.List.Sums.{fold-append}
use Rattle.indexmap.specs.IndexMap.{IndexMap, get}
use Rattle.hls_base.specs.declared.number.ArrayId.{ArrayId}
use Rattle.datapath.specs.Ports.{is_load, is_store, is_array}
use Rattle.circuit_context.specs.declared.loads.Moment.{Moment}
use Rattle.std.proofs.lemmas.Bool.Decides.{Decides-eqb}
use Rattle.std.proofs.lemmas.List.{append-nil, take_more}
use Rattle.std.proofs.lemmas.Option.{none-some, same_Some}
use Rattle.ir_core.specs.declared.body.Op.{Op}
use Rattle.ir_core.specs.declared.timed.Timed.{Timed}
use Rattle.circuit_context.specs.Counting.{array_if, accessed_by, moment_eq, count_at, loads_at, port_if, ports_from, is_store_at, first_store, noted_first, AreStores, Counts}

pub number_same : (x y : ℕ) → (x == y) ≡ true → x ≡ y
number_same x y e = (Decides-eqb x y).0 e

pub ports_more : (tables : ℕ → Bool) (span : ℕ) (all before xs : List (Op Timed)) (op : Op Timed)
    → ports_from tables span all before (xs ++ op ∷ []) ≡ ports_from tables span all before xs ++ port_if tables span all (before ++ xs) op ∷ []
ports_more tables span all before [] op = ap (λ l. port_if tables span all l op ∷ []) (sym (append-nil before))
ports_more tables span all before (x ∷ xs) op =
    ap (λ l. port_if tables span all before x ∷ l)
    (ports_more tables span all (before ++ x ∷ []) xs op ∙ ap (λ l. ports_from tables span all (before ++ x ∷ []) xs ++ port_if tables span all l op ∷ []) (append_assoc before (x ∷ []) xs))

pub ports_get : (tables : ℕ → Bool) (span : ℕ) (all before ops : List (Op Timed)) (k : ℕ) (op : Op Timed) → slice_get ops k ≡ Some op
    → slice_get (ports_from tables span all before ops) k ≡ Some (port_if tables span all (before ++ take k ops) op)
ports_get tables span all before [] k op at = absurd (none-some op at)
ports_get tables span all before (x ∷ ops) zero op at = ap₂ (λ l y. Some (port_if tables span all l y)) (sym (append-nil before)) (same_Some x op at)
ports_get tables span all before (x ∷ ops) (suc k) op at =
    ports_get tables span all (before ++ x ∷ []) ops k op at ∙ ap (λ l. Some (port_if tables span all l op)) (append_assoc before (x ∷ []) (take k ops))

pub ports_length : (tables : ℕ → Bool) (span : ℕ) (all before ops : List (Op Timed)) → length (ports_from tables span all before ops) ≡ length ops
ports_length tables span all before [] = refl
ports_length tables span all before (op ∷ ops) = ap suc (ports_length tables span all (before ++ op ∷ []) ops)

-- ---- one operation more

pub ops_more : (ops : List (Op Timed)) (k : ℕ) (op : Op Timed) → k < length ops → op ≡ get_or ops k op → take (k + 1) ops ≡ take k ops ++ op ∷ []
ops_more ops k op within is = take_more ops k op within ∙ ap (λ o. take k ops ++ o ∷ []) (sym is)

pub row_more : (tables : ℕ → Bool) (span : ℕ) (ops : List (Op Timed)) (row after : List ℕ) (k n : ℕ) (op : Op Timed) → k < length ops → op ≡ get_or ops k op → row ≡ ports_from tables span ops [] (take k ops)
    → n ≡ port_if tables span ops (take k ops) op → after ≡ row ++ n ∷ [] → after ≡ ports_from tables span ops [] (take (k + 1) ops)
row_more tables span ops row after k n op within is was port pushed =
    pushed ∙ (ap₂ (λ l m. l ++ m ∷ []) was port ∙ sym (ap (ports_from tables span ops []) (ops_more ops k op within is) ∙ ports_more tables span ops [] (take k ops) op))

-- ---- the first store of a moment

pub first_more : (span a time : ℕ) (before : List (Op Timed)) (op : Op Timed)
    → first_store span a time (before ++ op ∷ []) ≡ noted_first (first_store span a time before) (is_store_at span a time op) op.stamp.bound
first_more span a time [] op = refl
first_more span a time (x ∷ before) op = either (is_store_at span a time x) (first_more span a time before op) where
  either : (b : Bool) → first_store span a time (before ++ op ∷ []) ≡ noted_first (first_store span a time before) (is_store_at span a time op) op.stamp.bound
      → (if b then Some x.stamp.bound else first_store span a time (before ++ op ∷ [])) ≡ noted_first (if b then Some x.stamp.bound else first_store span a time before) (is_store_at span a time op) op.stamp.bound
  either true later = refl
  either false later = later

-- where nothing comes, what is noted stays
pub none_noted : (noted : Option ℕ) (unit : ℕ) → noted_first noted false unit ≡ noted
none_noted None unit = refl
none_noted (Some n) unit = refl

-- ---- accesses

array_named : (b : Bool) (o : Option ArrayId) (array : ArrayId) → array_if b o ≡ Some array → o ≡ Some array
array_named true o array e = e
array_named false o array e = absurd (none-some array e)

-- what has no array stores to none
unnamed : (b : Bool) (o : Option ArrayId) (a : ℕ) (rest : Bool) → array_if b o ≡ None → (b && (is_array a o && rest)) ≡ false
unnamed true None a rest e = refl
unnamed true (Some array) a rest e = absurd (none-some array (sym e))
unnamed false o a rest e = refl

abbrev added : Bool → ℕ
added b = cond b 1 0

-- one load more, at its moment
pub counted_more : {S : Type 0} (span : ℕ) (before : List (Op Timed)) (op : Op Timed) (array : ArrayId) (old new : IndexMap Moment ℕ S) (m : Moment) → accessed_by op ≡ Some array → Counts span before old
    → count_at new m ≡ (if is_load op.kind && moment_eq (record { array = array; time = op.stamp.start % span }) m then count_at old (record { array = array; time = op.stamp.start % span }) + 1 else count_at old m)
    → count_at new m ≡ count_by (loads_at span m.array.0 m.time) (before ++ op ∷ [])
counted_more span before op array old new m accessed counts noted =
    let at : Moment = record { array = array; time = op.stamp.start % span } in
    let f : Op Timed → Bool = loads_at span m.array.0 m.time in
    let more : count_by f (before ++ op ∷ []) ≡ count_by f before + added (f op) = fold-append (λ (n : ℕ) (x : Op Timed). n + cond (f x) 1 0) 0 before (op ∷ []) in
    let same : f op ≡ (is_load op.kind && moment_eq at m) =
    ap (λ (o : Option ArrayId). is_load op.kind && (is_array m.array.0 o && (op.stamp.start % span == m.time))) (array_named (is_load op.kind || is_store op.kind) op.array array accessed) in
    elim (cases_Bool (is_load op.kind && moment_eq at m)) [
      | inl here ↦
          let parts = and_parts (array.0 == m.array.0) (op.stamp.start % span == m.time) (and_parts (is_load op.kind) (moment_eq at m) here).1 in
          let first : count_at new m ≡ count_at old at + 1 = noted ∙ cond-true _ _ _ here in
          let counted : count_at old at ≡ count_by f before =
          counts at ∙ ap₂ (λ (a t : ℕ). count_by (loads_at span a t) before) (number_same array.0 m.array.0 parts.0) (number_same (op.stamp.start % span) m.time parts.1) in
          let one : added (f op) ≡ 1 = cond-true _ _ _ (same ∙ here) in
          omega (arith, first, counted, more, one)
      | inr there ↦
          let first : count_at new m ≡ count_at old m = noted ∙ cond-false _ _ _ there in
          let counted : count_at old m ≡ count_by f before = counts m in
          let none : added (f op) ≡ 0 = cond-false _ _ _ (same ∙ there) in
          omega (arith, first, counted, more, none)
    ]

-- an operation more that is no store
pub stores_same : {S : Type 0} (span : ℕ) (before : List (Op Timed)) (op : Op Timed) (stores : IndexMap Moment ℕ S) → array_if (is_store op.kind) op.array ≡ None → AreStores span before stores
    → AreStores span (before ++ op ∷ []) stores
stores_same span before op stores none h m =
    h m
    ∙ sym (first_more span m.array.0 m.time before op
    ∙ (ap (λ (b : Bool). noted_first (first_store span m.array.0 m.time before) b op.stamp.bound) (unnamed (is_store op.kind) op.array m.array.0 (op.stamp.start % span == m.time) none)
    ∙ none_noted (first_store span m.array.0 m.time before) op.stamp.bound))

-- and one that is
pub stores_more : {S : Type 0} (span : ℕ) (before : List (Op Timed)) (op : Op Timed) (array : ArrayId) (old new : IndexMap Moment ℕ S) → array_if (is_store op.kind) op.array ≡ Some array → AreStores span before old
    → ((m : Moment) → get moment_eq new m ≡ noted_first (get moment_eq old m) (moment_eq (record { array = array; time = op.stamp.start % span }) m) op.stamp.bound)
    → AreStores span (before ++ op ∷ []) new
stores_more span before op array old new named h noted m =
    let store : is_store op.kind ≡ true = storing (is_store op.kind) op.array named in
    let is : is_store_at span m.array.0 m.time op ≡ moment_eq (record { array = array; time = op.stamp.start % span }) m =
    ap₂ (λ (b : Bool) (o : Option ArrayId). b && (is_array m.array.0 o && (op.stamp.start % span == m.time))) store (array_named (is_store op.kind) op.array array named) in
    noted m
    ∙ (ap₂ (λ (o : Option ℕ) (b : Bool). noted_first o b op.stamp.bound) (h m) (sym is) ∙ sym (first_more span m.array.0 m.time before op))
  where
    storing : (b : Bool) (o : Option ArrayId) → array_if b o ≡ Some array → b ≡ true
    storing true o e = refl
    storing false o e = absurd (none-some array e)

pub on_ok : {X E P Q : Type 0} (r : Result X E) → (P → Q) → OnOk r P → OnOk r Q
on_ok (Ok x) f h = f h
on_ok (Err e) f h = tt
