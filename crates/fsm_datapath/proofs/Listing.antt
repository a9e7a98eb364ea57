-- Lists that grow by one, and the logs of their elements.
use Rattle.std.proofs.Common.{◌≡◌, ◌<◌, ℕ, zero, suc, ◌+◌, List, [], ◌∷◌, ◌++◌, length, take, map, slice_get, get_or, Bool, true, false, Some, refl, sym, ap, ◌∙◌, subst, arith}
use Rattle.std.specs.Prelude.{filter, cond}
use Rattle.std.proofs.lemmas.Option.{slice_get-get_or}
use Rattle.std.specs.List.{flat_map, enumerate_from}
use Rattle.std.proofs.lemmas.List.{take_more, append-nil, map-append}
use Rattle.std.proofs.lemmas.List.Elements.{filter-append}
use Rattle.std.proofs.lemmas.List.Concat.{flat_map-append}
use Rattle.std.proofs.lemmas.Option.{slice_get_within, get_or_from_slice_get}
use Rattle.rtl_core.specs.Netlist.{Netlist}
use Rattle.rtl_logic.specs.Making.{Appends}
use Rattle.rtl_logic.proofs.Making.{appended, appends_both}
use Rattle.datapath.specs.CircuitWires.Carrying.{IsBegun}
use Rattle.datapath.specs.Plans.{Plan}
use Rattle.datapath.specs.Cycles.{Register}
use Rattle.circuit_context.specs.declared.wanted.log.Push.{Push}
use Rattle.circuit_context.specs.Wanted.Entries.{Entry}
use Rattle.circuit_context.specs.Wanted.Logs.{Logs}
use Rattle.circuit_context.proofs.WantedLemmas.Joining.{logs_then, pushes_later}

-- one element more
pub one_more : {X : Type 0} (xs : List X) (k : ℕ) (x : X) → slice_get xs k ≡ Some x → take (k + 1) xs ≡ take k xs ++ x ∷ []
one_more xs k x at = take_more xs k x (slice_get_within xs k x at) ∙ ap (λ y. take k xs ++ y ∷ []) (get_or_from_slice_get xs k x x at)

pub map_more : {X Y : Type 0} (f : X → Y) (xs : List X) (k : ℕ) (x : X) → slice_get xs k ≡ Some x → map f (take (k + 1) xs) ≡ map f (take k xs) ++ f x ∷ []
map_more f xs k x at = ap (map f) (one_more xs k x at) ∙ map-append f (take k xs) (x ∷ [])

pub flat_more : {X Y : Type 0} (f : X → List Y) (xs : List X) (k : ℕ) (x : X) → slice_get xs k ≡ Some x → flat_map f (take (k + 1) xs) ≡ flat_map f (take k xs) ++ f x
flat_more f xs k x at = ap (flat_map f) (one_more xs k x at) ∙ (flat_map-append f (take k xs) (x ∷ []) ∙ ap (λ l. flat_map f (take k xs) ++ l) (append-nil (f x)))

number_one : {X : Type 0} (n : ℕ) (xs : List X) (x : X) → enumerate_from n (xs ++ x ∷ []) ≡ enumerate_from n xs ++ (n + length xs, x) ∷ []
number_one n [] x = let e : n ≡ n + 0 = omega arith in ap (λ m. (m, x) ∷ []) e
number_one {X} n (y ∷ ys) x =
    let e : n + 1 + length ys ≡ n + suc (length ys) = omega arith in
    ap (λ l. (n, y) ∷ l) (number_one (n + 1) ys x ∙ ap (λ m. enumerate_from (n + 1) ys ++ (m, x) ∷ []) e)

take_length : {X : Type 0} (xs : List X) (k : ℕ) (x : X) → slice_get xs k ≡ Some x → length (take k xs) ≡ k
take_length [] k x at = absurd (omega (arith, slice_get_within [] k x at))
take_length (y ∷ ys) zero x at = refl
take_length (y ∷ ys) (suc k) x at = ap suc (take_length ys k x at)

pub numbered_more : {X : Type 0} (xs : List X) (k : ℕ) (x : X) → slice_get xs k ≡ Some x → enumerate_from 0 (take (k + 1) xs) ≡ enumerate_from 0 (take k xs) ++ (k, x) ∷ []
numbered_more xs k x at =
    let e : 0 + length (take k xs) ≡ k = omega (arith, take_length xs k x at) in
    ap (enumerate_from 0) (one_more xs k x at) ∙ (number_one 0 (take k xs) x ∙ ap (λ m. enumerate_from 0 (take k xs) ++ (m, x) ∷ []) e)

filter_more : {X : Type 0} (f : X → Bool) (xs : List X) (k : ℕ) (x : X) → slice_get xs k ≡ Some x → filter f (take (k + 1) xs) ≡ filter f (take k xs) ++ filter f (x ∷ [])
filter_more f xs k x at = ap (filter f) (one_more xs k x at) ∙ filter-append f (take k xs) (x ∷ [])

-- an element that passes the test
pub filter_with : {X : Type 0} (f : X → Bool) (xs : List X) (k : ℕ) (x : X) → slice_get xs k ≡ Some x → f x ≡ true → filter f (take (k + 1) xs) ≡ filter f (take k xs) ++ x ∷ []
filter_with f xs k x at passes = filter_more f xs k x at ∙ ap (λ b. filter f (take k xs) ++ cond b (x ∷ []) []) passes

-- one that does not
pub filter_without : {X : Type 0} (f : X → Bool) (xs : List X) (k : ℕ) (x : X) → slice_get xs k ≡ Some x → f x ≡ false → filter f (take (k + 1) xs) ≡ filter f (take k xs)
filter_without f xs k x at fails = filter_more f xs k x at ∙ (ap (λ b. filter f (take k xs) ++ cond b (x ∷ []) []) fails ∙ append-nil (filter f (take k xs)))

-- one more element is looked at, which stays or not
pub kept_one : {X : Type 0} (f : X → Bool) (xs : List X) (k : ℕ) (x : X) (before after : List X) → k < length xs → before ≡ filter f (take k xs) → after ≡ before ++ get_or xs k x ∷ [] → f (get_or xs k x) ≡ true
    → after ≡ filter f (take (k + 1) xs)
kept_one f xs k x before after low is pushed passes =
    pushed ∙ (ap (λ l. l ++ get_or xs k x ∷ []) is ∙ sym (filter_with f xs k (get_or xs k x) (slice_get-get_or xs k x low) passes))

pub left_one : {X : Type 0} (f : X → Bool) (xs : List X) (k : ℕ) (x : X) (before after : List X) → k < length xs → before ≡ filter f (take k xs) → after ≡ before → f (get_or xs k x) ≡ false
    → after ≡ filter f (take (k + 1) xs)
left_one f xs k x before after low is same fails = same ∙ (is ∙ sym (filter_without f xs k (get_or xs k x) (slice_get-get_or xs k x low) fails))

pub filter_same : {X : Type 0} (f g : X → Bool) (xs : List X) → ((x : X) → f x ≡ g x) → filter f xs ≡ filter g xs
filter_same f g [] same = refl
filter_same f g (x ∷ xs) same = ap (λ b. cond b (x ∷ filter f xs) (filter f xs)) (same x) ∙ ap (λ l. cond (g x) (x ∷ l) l) (filter_same f g xs same)

-- the logs of one more
pub logs_as : (p : Plan) (names : List Register) (d e : Netlist) (a b : List Push) (es fs : List Entry) → es ≡ fs → Logs p names d e a b es → Logs p names d e a b fs
logs_as p names d e a b es fs same h = subst (Logs p names d e a b) same h

pub logs_more : (p : Plan) (names : List Register) (d e f : Netlist) (a b c : List Push) (before now all : List Entry) → all ≡ before ++ now → Logs p names d e a b before → Logs p names e f b c now
    → Logs p names d f a c all
logs_more p names d e f a b c before now all same h k = subst (Logs p names d f a c) (sym same) (logs_then p names d e f a b c before now h k)

-- wires are made behind
pub logs_ahead : (p : Plan) (names : List Register) (d e f : Netlist) (a b : List Push) (es : List Entry) → Logs p names d e a b es → Appends e f → IsBegun p names f → Logs p names d f a b es
logs_ahead p names d e f a b es h more begun = record {
  more = h.more;
  is = h.is;
  appends = appends_both d e f h.appends more;
  begun = begun;
  are = pushes_later p names e f h.more es (appended e f more) h.are;
}

-- the logs of the elements of a list, one after another
pub logs_mapped : {X : Type 0} (p : Plan) (names : List Register) (d e f : Netlist) (a b c : List Push) (g : X → Entry) (xs : List X) (k : ℕ) (x : X) → k < length xs → Logs p names d e a b (map g (take k xs))
    → Logs p names e f b c (g (get_or xs k x) ∷ []) → Logs p names d f a c (map g (take (k + 1) xs))
logs_mapped p names d e f a b c g xs k x low before now =
    logs_more p names d e f a b c (map g (take k xs)) (g (get_or xs k x) ∷ []) (map g (take (k + 1) xs)) (map_more g xs k (get_or xs k x) (slice_get-get_or xs k x low)) before now

pub logs_flat : {X : Type 0} (p : Plan) (names : List Register) (d e f : Netlist) (a b c : List Push) (g : X → List Entry) (xs : List X) (k : ℕ) (x : X) → k < length xs
    → Logs p names d e a b (flat_map g (take k xs)) → Logs p names e f b c (g (get_or xs k x)) → Logs p names d f a c (flat_map g (take (k + 1) xs))
logs_flat p names d e f a b c g xs k x low before now =
    logs_more p names d e f a b c (flat_map g (take k xs)) (g (get_or xs k x)) (flat_map g (take (k + 1) xs)) (flat_more g xs k (get_or xs k x) (slice_get-get_or xs k x low)) before now

pub logs_numbered : {X : Type 0} (p : Plan) (names : List Register) (d e f : Netlist) (a b c : List Push) (g : ℕ × X → Entry) (xs : List X) (k : ℕ) (x : X) → k < length xs
    → Logs p names d e a b (map g (enumerate_from 0 (take k xs))) → Logs p names e f b c (g (k, get_or xs k x) ∷ []) → Logs p names d f a c (map g (enumerate_from 0 (take (k + 1) xs)))
logs_numbered p names d e f a b c g xs k x low before now =
    logs_more p names d e f a b c (map g (enumerate_from 0 (take k xs))) (g (k, get_or xs k x) ∷ []) (map g (enumerate_from 0 (take (k + 1) xs)))
    (ap (map g) (numbered_more xs k (get_or xs k x) (slice_get-get_or xs k x low)) ∙ map-append g (enumerate_from 0 (take k xs)) ((k, get_or xs k x) ∷ [])) before now

pub logs_numbered_flat : {X : Type 0} (p : Plan) (names : List Register) (d e f : Netlist) (a b c : List Push) (g : ℕ × X → List Entry) (xs : List X) (k : ℕ) (x : X) → slice_get xs k ≡ Some x
    → Logs p names d e a b (flat_map g (enumerate_from 0 (take k xs))) → Logs p names e f b c (g (k, x)) → Logs p names d f a c (flat_map g (enumerate_from 0 (take (k + 1) xs)))
logs_numbered_flat p names d e f a b c g xs k x at before now =
    logs_more p names d e f a b c (flat_map g (enumerate_from 0 (take k xs))) (g (k, x)) (flat_map g (enumerate_from 0 (take (k + 1) xs)))
    (ap (flat_map g) (numbered_more xs k x at) ∙ (flat_map-append g (enumerate_from 0 (take k xs)) ((k, x) ∷ []) ∙ ap (λ l. flat_map g (enumerate_from 0 (take k xs)) ++ l) (append-nil (g (k, x))))) before now
