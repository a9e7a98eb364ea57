-- One row more in the tables of places.
use Rattle.std.proofs.Common.{◌≡◌, ℕ, zero, suc, ◌+◌, ◌&&◌, Bool, true, false, not, cond, List, [], ◌∷◌, ◌++◌, Option, Some, None, is_some, refl, sym, ap, ◌∙◌, arith}
use Rattle.std.specs.Prelude.{◌==◌, nat_le, find, count_by}
use Rattle.std.specs.Map.{lookup}
use Rattle.std.specs.Option.{option_or}
use Rattle.std.proofs.lemmas.Bool.{false≢true, lt-leb}
use Rattle.std.proofs.lemmas.Bool.Decides.{Decides-eqb}
use Rattle.std.proofs.lemmas.List.Folds.{find-append}
use Rattle.std.proofs.lemmas.List.Sums.{sum_by_push}
use Rattle.reg_binding.specs.declared.registers.Held.{Held}
use Rattle.datapath.specs.declared.places.Place.{Place}
use Rattle.datapath.specs.declared.places.Holder.{Holder}
use Rattle.datapath.specs.Held.{IsHeldBy, holds_one}
use Rattle.datapath.specs.Tables.{place_eq, holder_eq, tells_of, is_held, register_of, HaveRegisters, shared_by, AreShared}

first : (a b : Bool) → (a && b) ≡ true → a ≡ true
first true b e = refl
first false b e = e

second : (a b : Bool) → (a && b) ≡ true → b ≡ true
second true b e = e
second false b e = absurd (false≢true e)

number_is : (x y : ℕ) → (x == y) ≡ true → x ≡ y
number_is x y e = (Decides-eqb x y).0 e

-- ---- registers

abbrev pub place_of : Held → Place
place_of row = record { node = row.node; op = row.op; place = row.place }

same_place : (q : Place) (row : Held) → tells_of q row ≡ true → place_of row ≡ q
same_place q row e =
    let rest = second (row.node.0 == q.node.0) ((row.op.0 == q.op.0) && (row.place == q.place)) e in
    let n = number_is row.node.0 q.node.0 (first (row.node.0 == q.node.0) ((row.op.0 == q.op.0) && (row.place == q.place)) e) in
    let o = number_is row.op.0 q.op.0 (first (row.op.0 == q.op.0) (row.place == q.place) rest) in
    let p = number_is row.place q.place (second (row.op.0 == q.op.0) (row.place == q.place) rest) in
    λ i. record { node = record { 0 = n i }; op = record { 0 = o i }; place = p i }

abbrev pub Registers : Type 0
Registers = List (Place × ℕ)

-- whether the table has the place of a row that tells of this one
there_as : (held : List Held) (row : Held) (entries : Registers) (q : Place) (o : Option Held) → HaveRegisters held entries → tells_of q row ≡ true → find (tells_of q) held ≡ o
    → is_some (lookup (place_eq (place_of row)) entries) ≡ is_some (register_of o)
there_as held row entries q o h tells e = ap (λ s. is_some (lookup (place_eq s) entries)) (same_place q row tells) ∙ ap is_some (h q ∙ ap register_of e)

-- a row before tells of the place
pub registers_kept : (held : List Held) (row : Held) (entries : Registers) → HaveRegisters held entries → is_some (lookup (place_eq (place_of row)) entries) ≡ true
    → HaveRegisters (held ++ row ∷ []) entries
registers_kept held row entries h there = λ q.
    h q ∙ by q (find (tells_of q) held) refl (tells_of q row) refl ∙ ap register_of (sym (find-append (tells_of q) held (row ∷ []))) where
      by : (q : Place) (o : Option Held) → find (tells_of q) held ≡ o → (b : Bool) → tells_of q row ≡ b
          → register_of (find (tells_of q) held) ≡ register_of (option_or o (cond b (Some row) None))
      by q (Some x) e b p = ap register_of e
      by q None e false p = ap register_of e
      by q None e true p = absurd (false≢true (sym (there_as held row entries q None h p e) ∙ there))

-- no row before does
pub registers_more : (held : List Held) (row : Held) (old new : Registers) → HaveRegisters held old → is_some (lookup (place_eq (place_of row)) old) ≡ false
    → ((q : Place) → lookup (place_eq q) new ≡ cond (place_eq (place_of row) q) (Some row.register) (lookup (place_eq q) old))
    → HaveRegisters (held ++ row ∷ []) new
registers_more held row old new h absent news = λ q.
    news q ∙ by q (find (tells_of q) held) refl (tells_of q row) refl ∙ ap register_of (sym (find-append (tells_of q) held (row ∷ []))) where
      by : (q : Place) (o : Option Held) → find (tells_of q) held ≡ o → (b : Bool) → tells_of q row ≡ b
          → cond b (Some row.register) (lookup (place_eq q) old) ≡ register_of (option_or o (cond b (Some row) None))
      by q (Some x) e false p = h q ∙ ap register_of e
      by q None e false p = h q ∙ ap register_of e
      by q None e true p = refl
      by q (Some x) e true p = absurd (false≢true (sym absent ∙ there_as held row old q (Some x) h p e))

held_of : (o : Option Held) (r : ℕ) → register_of o ≡ Some r → (row : Held) × (o ≡ Some row) × (row.register ≡ r)
held_of None r e = (cc)
held_of (Some row) r e = (row, refl, (cc))

pub held_by_found : (held : List Held) (entries : Registers) (q : Place) (r : ℕ) → HaveRegisters held entries → lookup (place_eq q) entries ≡ Some r → IsHeldBy held q.node.0 q.op.0 q.place r
held_by_found held entries q r h e = let found = held_of (find (tells_of q) held) r (sym (h q) ∙ e) in record { row = found.0; found = found.1; register_ = found.2 }

-- ---- what registers hold

abbrev pub holder_of : Held → Holder
holder_of row = record { node = row.node; register = row.register }

same_holder : (q : Holder) (row : Held) → is_held q row ≡ true → holder_of row ≡ q
same_holder q row e =
    let n = number_is row.node.0 q.node.0 (first (row.node.0 == q.node.0) (row.register == q.register) e) in
    let r = number_is row.register q.register (second (row.node.0 == q.node.0) (row.register == q.register) e) in
    λ i. record { node = record { 0 = n i }; register = r i }

abbrev pub Shares : Type 0
Shares = List (Holder × Bool)

one_more : (n m : ℕ) → m ≡ n + 1 → Some (is_some (shared_by n)) ≡ shared_by m
one_more zero zero e = absurd (omega arith)
one_more zero (suc zero) e = refl
one_more zero (suc (suc m)) e = absurd (omega arith)
one_more (suc zero) zero e = absurd (omega arith)
one_more (suc zero) (suc zero) e = absurd (omega arith)
one_more (suc zero) (suc (suc m)) e = refl
one_more (suc (suc n)) zero e = absurd (omega arith)
one_more (suc (suc n)) (suc zero) e = absurd (omega arith)
one_more (suc (suc n)) (suc (suc m)) e = refl

pub shares_more : (held : List Held) (row : Held) (old new : Shares) (known : Bool) → AreShared held old → known ≡ is_some (lookup (holder_eq (holder_of row)) old)
    → ((q : Holder) → lookup (holder_eq q) new ≡ cond (holder_eq (holder_of row) q) (Some known) (lookup (holder_eq q) old))
    → AreShared (held ++ row ∷ []) new
shares_more held row old new known h is news = λ q.
    news q ∙ by q (is_held q row) refl ∙ ap shared_by (sym (sum_by_push (λ g. cond (is_held q g) 1 0) held row)) where
      by : (q : Holder) (b : Bool) → is_held q row ≡ b → cond b (Some known) (lookup (holder_eq q) old) ≡ shared_by (count_by (is_held q) held + cond b 1 0)
      by q false p = h q ∙ ap shared_by (omega arith)
      by q true p =
          ap (λ k. Some k) (is ∙ ap (λ s. is_some (lookup (holder_eq s) old)) (same_holder q row p) ∙ ap is_some (h q))
          ∙ one_more (count_by (is_held q) held) (count_by (is_held q) held + 1) refl

two_or_more : (n : ℕ) → nat_le (suc (suc n)) 1 ≡ false
two_or_more n = lt-leb (suc (suc n)) 1 (omega arith)

known_is : (a b : Bool) → Some a ≡ Some b → a ≡ b
known_is a b s = (cc)

one_as : (n : ℕ) (known : Bool) → shared_by n ≡ Some known → not known ≡ nat_le n 1
one_as zero known e = (cc)
one_as (suc zero) known e = ap (λ o. not o) (sym (known_is false known e))
one_as (suc (suc n)) known e = ap (λ o. not o) (sym (known_is true known e)) ∙ sym (two_or_more n)

none_as : (n : ℕ) → shared_by n ≡ None → true ≡ nat_le n 1
none_as zero e = refl
none_as (suc zero) e = (cc)
none_as (suc (suc n)) e = (cc)

pub alone_known : (held : List Held) (entries : Shares) (q : Holder) (known : Bool) → AreShared held entries → lookup (holder_eq q) entries ≡ Some known
    → not known ≡ holds_one held q.node.0 q.register
alone_known held entries q known h e = one_as (count_by (is_held q) held) known (sym (h q) ∙ e)

pub alone_unknown : (held : List Held) (entries : Shares) (q : Holder) → AreShared held entries → lookup (holder_eq q) entries ≡ None → true ≡ holds_one held q.node.0 q.register
alone_unknown held entries q h e = none_as (count_by (is_held q) held) (sym (h q) ∙ e)
