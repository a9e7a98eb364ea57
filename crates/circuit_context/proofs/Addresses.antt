-- Addresses, one subscript after another.
use Rattle.std.proofs.Common.{◌≡◌, ◌<◌, ◌≤◌, ℕ, ◌+◌, ◌*◌, ◌%◌, ◌^◌, List, [], ◌∷◌, ◌++◌, length, map, take, get_or, Option, Some, None, refl, sym, ap, ◌∙◌, subst, arith}
use Rattle.std.specs.Prelude.{min, slice_get, MatchOption}
use Rattle.std.proofs.lemmas.List.{map-append, take_more, length-map, length-take-le, take_all}
use Rattle.std.proofs.lemmas.Nat.{pow-add}
use Rattle.std.proofs.lemmas.Option.{none-some, same_Some}
use Rattle.std.proofs.Math.Nat.{mul_assoc}
use Rattle.hls_base.specs.ArrayAddress.{subscript_bits, address_bits}
use Rattle.rtl_core.specs.declared.design.Atom.{Atom}
use Rattle.rtl_core.specs.Netlist.{Netlist}
use Rattle.rtl_core.proofs.Stability.{Extends}
use Rattle.rtl_core.specs.ClockStep.{seen}
use Rattle.rtl_core.specs.Valid.{IsBetween}
use Rattle.ir_core.specs.declared.body.Operand.{Operand}
use Rattle.ir_core.specs.declared.cfg.Frame.{Frame}
use Rattle.ir_core.specs.declared.cfg.Memory.{Memory}
use Rattle.ir_core.specs.declared.body.Source.TheVariants as source
use Rattle.ir_core.specs.Bodies.{address_of}
use Rattle.rtl_logic.specs.Making.{Makes}
use Rattle.rtl_logic.proofs.Making.{appended, appends_both, appends_none}
use Rattle.datapath.specs.Plans.{Plan, array_at, depth}
use Rattle.datapath.specs.Cycles.{Register, Cycle, in_cycle}
use Rattle.datapath.specs.Reading.{operand}
use Rattle.datapath.specs.CircuitWires.Carrying.{IsBegun, Carries, MakesCarrying}
use Rattle.datapath.proofs.Combining.{carries_on, carries_as, there_already, made_carries}
use Rattle.circuit_context.specs.Contexts.{HasDimensions, MayCarry, MakesAddress, subscripted}
use Rattle.circuit_context.proofs.Telling.{same_carries}

-- ---- numbers side by side

plus_none : (n : ℕ) → n + 0 ≡ 0 + n
plus_none n = omega arith

plus_all : (a b c : ℕ) → a + (b + c) ≡ (a + b) + c
plus_all a b c = omega arith

only_low : (x w : ℕ) → x * 2 ^ 0 + 0 ≡ 0 * w + x
only_low x w = omega arith

pub bits_behind : (dims : List ℕ) (d : ℕ) → address_bits (dims ++ d ∷ []) ≡ address_bits dims + subscript_bits d
bits_behind [] d = plus_none (subscript_bits d)
bits_behind (x ∷ dims) d = ap (λ n. subscript_bits x + n) (bits_behind dims d) ∙ plus_all (subscript_bits x) (address_bits dims) (subscript_bits d)

moved : (y a l b s : ℕ) → y * 2 ^ (b + s) + (a * 2 ^ s + l) ≡ (y * 2 ^ b + a) * 2 ^ s + l
moved y a l b s =
    let split : y * 2 ^ (b + s) ≡ y * 2 ^ b * 2 ^ s = ap (λ n. y * n) (pow-add 2 b s) ∙ sym (mul_assoc y (2 ^ b) (2 ^ s)) in
    ap (λ n. n + (a * 2 ^ s + l)) split ∙ gathered (y * 2 ^ b) a l (2 ^ s) where
      gathered : (x a l w : ℕ) → x * w + (a * w + l) ≡ (x + a) * w + l
      gathered x a l w = omega arith

pub address_behind : (dims is_ : List ℕ) (d i : ℕ) → length dims ≡ length is_
    → address_of (dims ++ d ∷ []) (is_ ++ i ∷ []) ≡ address_of dims is_ * 2 ^ subscript_bits d + i % 2 ^ subscript_bits d
address_behind [] [] d i h = only_low (i % 2 ^ subscript_bits d) (2 ^ subscript_bits d)
address_behind [] (y ∷ is_) d i h = absurd (omega (arith, h))
address_behind (x ∷ dims) [] d i h = absurd (omega (arith, h))
address_behind (x ∷ dims) (y ∷ is_) d i h =
    let same : length dims ≡ length is_ = omega (arith, h) in
    let high = y % 2 ^ subscript_bits x in
    ap (λ n. high * 2 ^ n + address_of (dims ++ d ∷ []) (is_ ++ i ∷ [])) (bits_behind dims d)
    ∙ (ap (λ n. high * 2 ^ (address_bits dims + subscript_bits d) + n) (address_behind dims is_ d i same)
    ∙ moved high (address_of dims is_) (i % 2 ^ subscript_bits d) (address_bits dims) (subscript_bits d))

-- an operand that is not there
abbrev nothing : Operand
nothing = record { value = source.Constant 0; distance = 0 }

pub bits_more : (dims : List ℕ) (k : ℕ) → k < length dims → address_bits (take (k + 1) dims) ≡ address_bits (take k dims) + subscript_bits (get_or dims k 0)
bits_more dims k h = ap address_bits (take_more dims k 0 h) ∙ bits_behind (take k dims) (get_or dims k 0)

pub address_more : (f : Operand → ℕ) (dims : List ℕ) (xs : List Operand) (k : ℕ) → length dims ≡ length xs → k < length dims
    → address_of (take (k + 1) dims) (map f (take (k + 1) xs))
    ≡ address_of (take k dims) (map f (take k xs)) * 2 ^ subscript_bits (get_or dims k 0) + f (get_or xs k nothing) % 2 ^ subscript_bits (get_or dims k 0)
address_more f dims xs k same h =
    let n = get_or dims k 0 in
    let x = get_or xs k nothing in
    let inside : k < length xs = omega (arith, same, h) in
    let right : map f (take (k + 1) xs) ≡ map f (take k xs) ++ f x ∷ [] = ap (map f) (take_more xs k nothing inside) ∙ map-append f (take k xs) (x ∷ []) in
    let count : length (take k dims) ≡ length (map f (take k xs)) =
    length-take-le k dims (omega (arith, h)) ∙ sym (length-map (take k xs) f ∙ length-take-le k xs (omega (arith, inside))) in
    ap (λ l. address_of l (map f (take (k + 1) xs))) (take_more dims k 0 h)
    ∙ (ap (address_of (take k dims ++ n ∷ [])) right ∙ address_behind (take k dims) (map f (take k xs)) n (f x) count)

-- ---- atoms side by side

pub may_on : (p : Plan) (names : List Register) (d e : Netlist) (bits : ℕ) (o : Option Atom) (value : Cycle → ℕ) → Extends d e → MayCarry p names d bits o value → MayCarry p names e bits o value
may_on p names d e bits None value longer h = h
may_on p names d e bits (Some a) value longer h = carries_on p names d e bits a value longer h

pub no_address : (p : Plan) (names : List Register) (d : Netlist) (i time : ℕ) (dims : List ℕ) (xs : List Operand) → IsBegun p names d → MakesAddress p names d d i time (take 0 dims) (take 0 xs) None
no_address p names d i time dims xs begun = record { appends = appends_none d; begun = begun; carries = (refl, λ c. refl) }

-- one subscript more
pub more_address : (p : Plan) (names : List Register) (d e f g : Netlist) (i time k : ℕ) (dims : List ℕ) (xs : List Operand) (o : Option Atom) (low a : Atom) → length dims ≡ length xs → k < length dims
    → MakesAddress p names d e i time (take k dims) (take k xs) o
    → (IsBegun p names e → MakesCarrying p names e f (subscript_bits (get_or dims k 0)) low (λ c. operand p c i time (get_or xs k nothing) % 2 ^ subscript_bits (get_or dims k 0)))
    → ((m n : ℕ) (H L : Cycle → ℕ) → IsBegun p names f → MayCarry p names f m o H → Carries p names f n low L → MakesCarrying p names f g (m + n) a (λ c. H c * 2 ^ n + L c))
    → MakesAddress p names d g i time (take (k + 1) dims) (take (k + 1) xs) (Some a)
more_address p names d e f g i time k dims xs o low a same h before makes joins =
    let n = subscript_bits (get_or dims k 0) in
    let m = address_bits (take k dims) in
    let H : Cycle → ℕ = λ c. address_of (take k dims) (map (operand p c i time) (take k xs)) in
    let L : Cycle → ℕ = λ c. operand p c i time (get_or xs k nothing) % 2 ^ n in
    let value : Cycle → ℕ = λ c. address_of (take (k + 1) dims) (map (operand p c i time) (take (k + 1) xs)) in
    let one = makes before.begun in
    let made = joins m n H L one.begun (may_on p names e f m o H (appended e f one.appends) before.carries) one.carries in
    record {
      appends = appends_both d e g before.appends (appends_both e f g one.appends made.appends);
      begun = made.begun;
      carries = subst (λ bits. Carries p names g bits a value) (sym (bits_more dims k h))
          (same_carries p names g (m + n) a (λ c. H c * 2 ^ n + L c) value (λ c. sym (address_more (operand p c i time) dims xs k same h)) made.carries);
    }

pub whole_address : (p : Plan) (names : List Register) (d e : Netlist) (i time k : ℕ) (dims : List ℕ) (xs : List Operand) (o : Option Atom) → length dims ≡ length xs → length dims ≤ k
    → MakesAddress p names d e i time (take k dims) (take k xs) o → MakesAddress p names d e i time dims xs o
whole_address p names d e i time k dims xs o same all h =
    subst (λ l. MakesAddress p names d e i time l xs o) (take_all k dims all)
    (subst (λ l. MakesAddress p names d e i time (take k dims) l o) (take_all k xs (subst (λ n. n ≤ k) same all)) h)

-- ---- one number above another

pub within : (m k l r bits : ℕ) → l ≡ m → r ≡ k → bits ≡ min (l + r) 255 → (bits ≡ 0 → ⊥) → bits ≤ 128 → IsBetween 1 128 (m + k)
within m k l r bits left right is some few = (omega (arith, left, right, is, some), omega (arith, left, right, is, few))

none_above : (l w : ℕ) → l ≡ 0 * w + l
none_above l w = omega arith

pub first_number : (p : Plan) (names : List Register) (d : Netlist) (m k : ℕ) (low : Atom) (H L : Cycle → ℕ) → IsBegun p names d → MayCarry p names d m None H → Carries p names d k low L
    → MakesCarrying p names d d (m + k) low (λ c. H c * 2 ^ k + L c)
first_number p names d m k low H L begun none carries =
    let bits : k ≡ m + k = omega (arith, none.0) in
    let value : (c : Cycle) → L c ≡ H c * 2 ^ k + L c = λ c. none_above (L c) (2 ^ k) ∙ ap (λ n. n * 2 ^ k + L c) (sym (none.1 c)) in
    subst (λ n. MakesCarrying p names d d n low (λ c. H c * 2 ^ k + L c)) bits
    (carries_as p names d d k low L (λ c. H c * 2 ^ k + L c) value (there_already p names d k low L begun carries))

pub next_number : (p : Plan) (names : List Register) (d e : Netlist) (m k : ℕ) (high low a : Atom) (H L : Cycle → ℕ) → IsBegun p names d → Carries p names d m high H → Carries p names d k low L
    → Makes d e (m + k) a (λ v x. x ≡ v high * 2 ^ k + v low) → MakesCarrying p names d e (m + k) a (λ c. H c * 2 ^ k + L c)
next_number p names d e m k high low a H L begun left right made =
    made_carries p names d e (m + k) a (λ v x. x ≡ v high * 2 ^ k + v low) (λ c. H c * 2 ^ k + L c) begun made (λ f s pins x signals moment is.
    is ∙ (ap (λ n. n * 2 ^ k + seen f s pins low) (left.value_ f s pins x signals moment) ∙ ap (λ n. H (in_cycle x signals pins) * 2 ^ k + n) (right.value_ f s pins x signals moment)))

-- ---- low bits

pub some_bits : (len : ℕ) → 1 ≤ subscript_bits len
some_bits len = omega arith

pub low_made : (p : Plan) (names : List Register) (d e : Netlist) (n m k : ℕ) (of a : Atom) (X : Cycle → ℕ) → IsBegun p names d → Carries p names d n of X → m ≡ k → Makes d e m a (λ v x. x ≡ v of % 2 ^ m)
    → MakesCarrying p names d e k a (λ c. X c % 2 ^ k)
low_made p names d e n m k of a X begun carries same made =
    subst (λ b. MakesCarrying p names d e b a (λ c. X c % 2 ^ b)) same
    (made_carries p names d e m a (λ v x. x ≡ v of % 2 ^ m) (λ c. X c % 2 ^ m) begun made (λ f s pins x signals moment is. is ∙ ap (λ y. y % 2 ^ m) (carries.value_ f s pins x signals moment)))

-- ---- the array

-- the array that stands at this number
pub array_there : (f : Frame) (a n : ℕ) (m : Memory) → HasDimensions f a n → slice_get f.memories.items a ≡ Some m → length m.dims.items ≡ n
array_there f a n m has at = ap (λ (x : Memory). length x.dims.items) (same_Some m has.memory (sym at ∙ has.stands)) ∙ has.length_

pub not_found : {A : Type 0} (o : Option A) (P : Type 0) (Q : A → Type 0) → MatchOption o P Q → ((x : A) → o ≡ Some x → ⊥) → P
not_found None P Q h never = h
not_found (Some x) P Q h never = absurd (never x refl)

pub array_missing : (f : Frame) (a n : ℕ) → HasDimensions f a n → slice_get f.memories.items a ≡ None → ⊥
array_missing f a n has none = none-some has.memory (sym none ∙ has.stands)

pub array_address : (p : Plan) (names : List Register) (d e : Netlist) (i time k : ℕ) (dims : List ℕ) (xs : List Operand) (o : Option Atom) (a : Atom) → MakesAddress p names d e i time dims xs o
    → dims ≡ (array_at p k).dims → o ≡ Some a → MakesCarrying p names d e (depth p k) a (subscripted p i time k xs)
array_address p names d e i time k dims xs o a h same is =
    let whole : Carries p names e (address_bits dims) a (λ c. address_of dims (map (operand p c i time) xs)) =
    subst (λ o. MayCarry p names e (address_bits dims) o (λ c. address_of dims (map (operand p c i time) xs))) is h.carries in
    record {
      appends = h.appends;
      begun = h.begun;
      carries = subst (λ ds. Carries p names e (address_bits ds) a (λ c. address_of ds (map (operand p c i time) xs))) same whole;
    }
