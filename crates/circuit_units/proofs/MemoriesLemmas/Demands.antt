-- What is wanted of a port, and no more, is wanted by the operations there.
use Rattle.std.proofs.Common.{◌≡◌, ℕ, Bool, true, false, List, [], ◌∷◌, ◌++◌, map, refl, sym, ap, ap₂, ◌∙◌, subst, inl, inr}
use Rattle.std.specs.Prelude.{◌==◌, ◌&&◌, ◌||◌, not, cond, filter, flat_map, Option, Some, None, is_some}
use Rattle.std.specs.List.{list_any}
use Rattle.std.proofs.lemmas.List.{map-append}
use Rattle.std.proofs.lemmas.List.Elements.{All-nil, All-cons, filter-append}
use Rattle.std.proofs.lemmas.Bool.{false≢true, eqb-true, eq-eqb}
use Rattle.std.proofs.lemmas.Bool.Decides.{eqb_tells}
use Rattle.hls_base.specs.declared.number.ArrayId.{ArrayId}
use Rattle.ir_core.specs.declared.body.OpKind.{OpKind}
use Rattle.ir_core.specs.declared.body.OpKind.TheVariants as o
use Rattle.rtl_core.specs.Netlist.{Netlist}
use Rattle.rtl_core.specs.Valid.{HasBits}
use Rattle.rtl_core.specs.ClockStep.{State, widths, seen}
use Rattle.rtl_logic.specs.declared.select.Choice.{Choice}
use Rattle.rtl_logic.specs.Choosing.{Write, where_, is_any_wanted, ChoiceFits, write_in}
use Rattle.ir_core.specs.Bodies.{stored}
use Rattle.datapath.specs.Plans.{Plan, Placed, array_at, depth, all_ops}
use Rattle.datapath.specs.Cycles.{Register, Contents, Signal, Cycle, in_cycle}
use Rattle.datapath.specs.Reading.{is_starting, is_true, arguments}
use Rattle.ir_core.specs.declared.body.Operand.{Operand}
use Rattle.datapath.specs.Ports.{is_load, is_store, is_array, port_of, loads, element_address, address_writes, is_storing, stored_writes, is_refused}
use Rattle.datapath.specs.CircuitWires.Carrying.{IsMoment}
use Rattle.datapath.proofs.Combining.{bit_is}
use Rattle.circuit_context.specs.declared.wanted.role.Target.{Target}
use Rattle.circuit_context.specs.declared.wanted.role.Target.TheVariants as t
use Rattle.circuit_context.specs.declared.wanted.log.Push.{Push}
use Rattle.circuit_context.specs.Wanted.Roles.{same_target, choices_of}
use Rattle.circuit_context.specs.Wanted.Entries.{Entry, entries_as, access_entries, address_entry, demands_of, all_demands}
use Rattle.circuit_context.specs.Wanted.Logs.{target_bits, IsPush, ArePushes}
use Rattle.circuit_units.specs.Memories.Places.{AreChoices, AreRefused}

-- ---- the choices of a target are what its entries want

abbrev wants : Target → Entry → Bool
wants target it = same_target target it.target

abbrev writes_of : Cycle → List Entry → List Write
writes_of c entries = map (λ (it : Entry). it.write c) entries

-- the choice that one push is
push_writes : (p : Plan) (names : List Register) (d e : Netlist) (s : State) (pins : List ℕ) (x : Contents) (signals : Signal → ℕ) (push : Push) (it : Entry) → IsMoment p names d e s pins x
    → IsPush p names d push it → write_in (seen e s pins) push.choice ≡ it.write (in_cycle x signals pins)
push_writes p names d e s pins x signals push it m h =
    let w : Write = it.write (in_cycle x signals pins) in
    ap (λ b. where_ b (seen e s pins push.choice.value)) (ap (λ k. k == 1) (h.when.value_ e s pins x signals m) ∙ bit_is w.wanted)
    ∙ ap (where_ w.wanted) (h.value.value_ e s pins x signals m)

abbrev chosen_of : List Push → List Choice
chosen_of pushes = map (λ (push : Push). push.choice) pushes

-- one push more, of this target or not
push_more : (p : Plan) (names : List Register) (d : Netlist) (bits : ℕ) (push : Push) (it : Entry) (pushes : List Push) (entries : List Entry) (b : Bool)
    → (b ≡ true → target_bits p it.target ≡ bits) → IsPush p names d push it → AreChoices p names d bits (chosen_of pushes) (λ c. writes_of c entries)
    → AreChoices p names d bits (chosen_of (cond b (push ∷ pushes) pushes)) (λ c. writes_of c (cond b (it ∷ entries) entries))
push_more p names d bits push it pushes entries false wide h rest = rest
push_more p names d bits push it pushes entries true wide h rest = record {
  fit = All-cons (ChoiceFits (widths d) bits) push.choice (chosen_of pushes) (record { when = h.when.fits; value = subst (λ n. HasBits (widths d) n push.choice.value) (wide refl) h.value.fits }) rest.fit;
  are = λ e s pins x signals m. ap₂ (λ w ws. w ∷ ws) (push_writes p names d e s pins x signals push it m h) (rest.are e s pins x signals m);
}

pub choices_are : (p : Plan) (names : List Register) (d : Netlist) (target : Target) (bits : ℕ) → ((other : Target) → same_target target other ≡ true → target_bits p other ≡ bits)
    → (pushes : List Push) (entries : List Entry) → ArePushes p names d pushes entries → AreChoices p names d bits (choices_of target pushes) (λ c. writes_of c (filter (wants target) entries))
choices_are p names d target bits wide [] [] h = record { fit = All-nil (ChoiceFits (widths d) bits); are = λ e s pins x signals m. refl }
choices_are p names d target bits wide (push ∷ pushes) (it ∷ entries) h =
    let rest = choices_are p names d target bits wide pushes entries h.1 in
    let more = push_more p names d bits push it (filter (λ (q : Push). same_target target q.target) pushes) (filter (wants target) entries) (same_target target it.target) (wide it.target) h.0 rest in
    subst (λ (u : Target). AreChoices p names d bits (chosen_of (cond (same_target target u) (push ∷ filter (λ (q : Push). same_target target q.target) pushes) (filter (λ (q : Push). same_target target q.target) pushes)))
    (λ c. writes_of c (filter (wants target) (it ∷ entries)))) (sym h.0.target) more
choices_are p names d target bits wide [] (it ∷ entries) h = absurd h
choices_are p names d target bits wide (push ∷ pushes) [] h = absurd h

-- ---- targets at a port

first_holds : (x y : Bool) → (x && y) ≡ true → x ≡ true
first_holds true y h = refl
first_holds false y h = h

address_wide : (p : Plan) (a : ArrayId) (n : ℕ) (other : Target) → same_target (t.Address a n) other ≡ true → target_bits p other ≡ depth p a.0
address_wide p a n (t.Register r) h = absurd (false≢true h)
address_wide p a n (t.Left unit) h = absurd (false≢true h)
address_wide p a n (t.Right unit) h = absurd (false≢true h)
address_wide p a n (t.Signed unit) h = absurd (false≢true h)
address_wide p a n (t.Address b m) h = ap (depth p) (sym (eqb-true a.0 b.0 (first_holds (a.0 == b.0) (n == m) h)))
address_wide p a n (t.Stored b m) h = absurd (false≢true h)
address_wide p a n (t.Refused b m) h = absurd (false≢true h)
address_wide p a n (t.Entered node) h = absurd (false≢true h)
address_wide p a n t.Ended h = absurd (false≢true h)
address_wide p a n t.Tested h = absurd (false≢true h)

stored_wide : (p : Plan) (a : ArrayId) (n : ℕ) (other : Target) → same_target (t.Stored a n) other ≡ true → target_bits p other ≡ (array_at p a.0).bits
stored_wide p a n (t.Register r) h = absurd (false≢true h)
stored_wide p a n (t.Left unit) h = absurd (false≢true h)
stored_wide p a n (t.Right unit) h = absurd (false≢true h)
stored_wide p a n (t.Signed unit) h = absurd (false≢true h)
stored_wide p a n (t.Address b m) h = absurd (false≢true h)
stored_wide p a n (t.Stored b m) h = ap (λ k. (array_at p k).bits) (sym (eqb-true a.0 b.0 (first_holds (a.0 == b.0) (n == m) h)))
stored_wide p a n (t.Refused b m) h = absurd (false≢true h)
stored_wide p a n (t.Entered node) h = absurd (false≢true h)
stored_wide p a n t.Ended h = absurd (false≢true h)
stored_wide p a n t.Tested h = absurd (false≢true h)

refused_wide : (p : Plan) (a : ArrayId) (n : ℕ) (other : Target) → same_target (t.Refused a n) other ≡ true → target_bits p other ≡ 1
refused_wide p a n (t.Register r) h = absurd (false≢true h)
refused_wide p a n (t.Left unit) h = absurd (false≢true h)
refused_wide p a n (t.Right unit) h = absurd (false≢true h)
refused_wide p a n (t.Signed unit) h = absurd (false≢true h)
refused_wide p a n (t.Address b m) h = absurd (false≢true h)
refused_wide p a n (t.Stored b m) h = absurd (false≢true h)
refused_wide p a n (t.Refused b m) h = refl
refused_wide p a n (t.Entered node) h = absurd (false≢true h)
refused_wide p a n t.Ended h = absurd (false≢true h)
refused_wide p a n t.Tested h = absurd (false≢true h)

-- ---- lists

abbrev one_if : Bool → Write → List Write
one_if b w = cond b (w ∷ []) []

one_more : (b : Bool) (w : Placed → Write) (x : Placed) (xs : List Placed) → one_if b (w x) ++ map w xs ≡ map w (cond b (x ∷ xs) xs)
one_more true w x xs = refl
one_more false w x xs = refl

-- what each operation wants of a target, all operations want together
wanted_of : (p : Plan) (c : Cycle) (target : Target) (w : Placed → Write) (q : Placed → Bool) → ((x : Placed) → writes_of c (filter (wants target) (demands_of p x)) ≡ one_if (q x) (w x)) → (xs : List Placed)
    → writes_of c (filter (wants target) (flat_map (demands_of p) xs)) ≡ map w (filter q xs)
wanted_of p c target w q each [] = refl
wanted_of p c target w q each (x ∷ xs) =
    ap (writes_of c) (filter-append (wants target) (demands_of p x) (flat_map (demands_of p) xs))
    ∙ (map-append (λ (it : Entry). it.write c) (filter (wants target) (demands_of p x)) (filter (wants target) (flat_map (demands_of p) xs))
    ∙ (ap₂ (λ ws vs. ws ++ vs) (each x) (wanted_of p c target w q each xs) ∙ one_more (q x) w x (filter q xs)))

filter_step : (f g : Placed → Bool) (x : Placed) (xs : List Placed) (b : Bool) → filter f (cond b (x ∷ filter g xs) (filter g xs)) ≡ cond (b && f x) (x ∷ filter f (filter g xs)) (filter f (filter g xs))
filter_step f g x xs true = refl
filter_step f g x xs false = refl

filter_both : (f g : Placed → Bool) (xs : List Placed) → filter f (filter g xs) ≡ filter (λ x. g x && f x) xs
filter_both f g [] = refl
filter_both f g (x ∷ xs) = filter_step f g x xs (g x) ∙ ap (λ (ys : List Placed). cond (g x && f x) (x ∷ ys) ys) (filter_both f g xs)

-- ---- one operation

abbrev is_access : ℕ → OpKind → Option ArrayId → Bool
is_access a kind array = is_array a array && (is_load kind || is_store kind)

abbrev is_there : Plan → ℕ → ℕ → Placed → Bool
is_there p a n x = is_access a x.op.op.kind x.op.op.array && (port_of p a x == n)

abbrev address_write : Plan → Cycle → ℕ → Placed → Write
address_write p c a x = where_ (is_starting p c x) (element_address p c a x)

abbrev stored_write : Plan → Cycle → Placed → Write
stored_write p c x = where_ (is_storing p c x) (stored (arguments p c x))

abbrev refused_write : Plan → Cycle → Placed → Write
refused_write p c x = where_ (is_refused p c x) 1

none_there : (x y : Bool) (w : Write) → [] ≡ one_if ((x && false) && y) w
none_there true y w = refl
none_there false y w = refl

none_behind : (x y : Bool) (w : Write) → [] ≡ one_if (((x && true) && y) && false) w
none_behind true true w = refl
none_behind true false w = refl
none_behind false y w = refl

none_here : (x y z : Bool) (w : Write) → [] ≡ one_if (((x && false) && y) && z) w
none_here true y z w = refl
none_here false y z w = refl

-- an operation's array is this one, and its port this one, or not
at_same : (a m n : ℕ) (f : ℕ → Write) (q : ℕ → ℕ) → one_if ((a == m) && (n == q m)) (f m) ≡ one_if (((m == a) && true) && (q a == n)) (f a)
at_same a m n f q = elim (eqb_tells a m) [
  | inl same ↦ subst (λ (k : ℕ). one_if ((a == k) && (n == q k)) (f k) ≡ one_if (((k == a) && true) && (q a == n)) (f a)) same.1 (ap (λ b. one_if b (f a)) (here (a == a) n (q a)))
  | inr other ↦ ap (λ b. one_if (b && (n == q m)) (f m)) other.0 ∙ sym (ap (λ b. one_if ((b && true) && (q a == n)) (f a)) (apart m a (λ e. other.1 (sym e))))
] where
  apart : (a b : ℕ) → (a ≡ b → ⊥) → (a == b) ≡ false
  apart a b h = elim (eqb_tells a b) [ inl same ↦ absurd (h same.1) | inr other ↦ other.0 ]

  sides : (n m : ℕ) → (n == m) ≡ (m == n)
  sides n m = elim (eqb_tells n m) [ inl same ↦ same.0 ∙ sym (eq-eqb m n (sym same.1)) | inr other ↦ other.0 ∙ sym (apart m n (λ e. other.1 (sym e))) ]

  here : (b : Bool) (n m : ℕ) → (b && (n == m)) ≡ ((b && true) && (m == n))
  here true n m = sides n m
  here false n m = refl

behind_true : (b : Bool) (w : Write) → one_if b w ≡ one_if (b && true) w
behind_true true w = refl
behind_true false w = refl

mapped_if : (c : Cycle) (b : Bool) (it : Entry) → writes_of c (cond b (it ∷ []) []) ≡ one_if b (it.write c)
mapped_if c true it = refl
mapped_if c false it = refl

no_refusal : (target : Target) (b : ArrayId) (k : ℕ) (g : Bool) (write : Cycle → Write) → same_target target (t.Refused b k) ≡ false
    → filter (wants target) (cond g (record { target = t.Refused b k; write = write } ∷ []) []) ≡ []
no_refusal target b k false write h = refl
no_refusal target b k true write h = ap (λ x. cond x (record { target = t.Refused b k; write = write } ∷ []) []) h

-- the address of a load, and of a store
address_loaded : (p : Plan) (c : Cycle) (id : ArrayId) (n : ℕ) (x : Placed) (b : ArrayId) → writes_of c (filter (wants (t.Address id n)) (access_entries p o.Load b x))
    ≡ one_if (((b.0 == id.0) && true) && (port_of p id.0 x == n)) (address_write p c id.0 x)
address_loaded p c id n x b =
    let it : Entry = address_entry p b x in
    let there : Bool = (id.0 == b.0) && (n == port_of p b.0 x) in
    ap (λ es. writes_of c (cond there (it ∷ es) es)) (no_refusal (t.Address id n) b (port_of p b.0 x) (is_some x.op.op.guard) (λ c. where_ (is_refused p c x) 1) refl)
    ∙ (mapped_if c there it ∙ at_same id.0 b.0 n (λ k. address_write p c k x) (λ k. port_of p k x))

address_stored : (p : Plan) (c : Cycle) (id : ArrayId) (n : ℕ) (x : Placed) (b : ArrayId) → writes_of c (filter (wants (t.Address id n)) (access_entries p o.Store b x))
    ≡ one_if (((b.0 == id.0) && true) && (port_of p id.0 x == n)) (address_write p c id.0 x)
address_stored p c id n x b =
    mapped_if c ((id.0 == b.0) && (n == port_of p b.0 x)) (address_entry p b x) ∙ at_same id.0 b.0 n (λ k. address_write p c k x) (λ k. port_of p k x)

address_as : (p : Plan) (c : Cycle) (id : ArrayId) (n : ℕ) (x : Placed) (kind : OpKind) (array : Option ArrayId) → writes_of c (filter (wants (t.Address id n)) (entries_as p kind array x))
    ≡ one_if (is_access id.0 kind array && (port_of p id.0 x == n)) (address_write p c id.0 x)
address_as p c id n x o.Add None = refl
address_as p c id n x o.Add (Some b) = none_there (is_array id.0 (Some b)) (port_of p id.0 x == n) (address_write p c id.0 x)
address_as p c id n x o.Sub None = refl
address_as p c id n x o.Sub (Some b) = none_there (is_array id.0 (Some b)) (port_of p id.0 x == n) (address_write p c id.0 x)
address_as p c id n x o.And None = refl
address_as p c id n x o.And (Some b) = none_there (is_array id.0 (Some b)) (port_of p id.0 x == n) (address_write p c id.0 x)
address_as p c id n x o.Or None = refl
address_as p c id n x o.Or (Some b) = none_there (is_array id.0 (Some b)) (port_of p id.0 x == n) (address_write p c id.0 x)
address_as p c id n x o.Xor None = refl
address_as p c id n x o.Xor (Some b) = none_there (is_array id.0 (Some b)) (port_of p id.0 x == n) (address_write p c id.0 x)
address_as p c id n x o.Shl None = refl
address_as p c id n x o.Shl (Some b) = none_there (is_array id.0 (Some b)) (port_of p id.0 x == n) (address_write p c id.0 x)
address_as p c id n x o.Shr None = refl
address_as p c id n x o.Shr (Some b) = none_there (is_array id.0 (Some b)) (port_of p id.0 x == n) (address_write p c id.0 x)
address_as p c id n x o.Eq None = refl
address_as p c id n x o.Eq (Some b) = none_there (is_array id.0 (Some b)) (port_of p id.0 x == n) (address_write p c id.0 x)
address_as p c id n x o.Ne None = refl
address_as p c id n x o.Ne (Some b) = none_there (is_array id.0 (Some b)) (port_of p id.0 x == n) (address_write p c id.0 x)
address_as p c id n x o.Lt None = refl
address_as p c id n x o.Lt (Some b) = none_there (is_array id.0 (Some b)) (port_of p id.0 x == n) (address_write p c id.0 x)
address_as p c id n x o.Le None = refl
address_as p c id n x o.Le (Some b) = none_there (is_array id.0 (Some b)) (port_of p id.0 x == n) (address_write p c id.0 x)
address_as p c id n x o.Not None = refl
address_as p c id n x o.Not (Some b) = none_there (is_array id.0 (Some b)) (port_of p id.0 x == n) (address_write p c id.0 x)
address_as p c id n x o.Neg None = refl
address_as p c id n x o.Neg (Some b) = none_there (is_array id.0 (Some b)) (port_of p id.0 x == n) (address_write p c id.0 x)
address_as p c id n x o.Select None = refl
address_as p c id n x o.Select (Some b) = none_there (is_array id.0 (Some b)) (port_of p id.0 x == n) (address_write p c id.0 x)
address_as p c id n x o.Widen None = refl
address_as p c id n x o.Widen (Some b) = none_there (is_array id.0 (Some b)) (port_of p id.0 x == n) (address_write p c id.0 x)
address_as p c id n x o.Narrow None = refl
address_as p c id n x o.Narrow (Some b) = none_there (is_array id.0 (Some b)) (port_of p id.0 x == n) (address_write p c id.0 x)
address_as p c id n x o.Truth None = refl
address_as p c id n x o.Truth (Some b) = none_there (is_array id.0 (Some b)) (port_of p id.0 x == n) (address_write p c id.0 x)
address_as p c id n x o.Copy None = refl
address_as p c id n x o.Copy (Some b) = none_there (is_array id.0 (Some b)) (port_of p id.0 x == n) (address_write p c id.0 x)
address_as p c id n x (o.Fused pairing) None = refl
address_as p c id n x (o.Fused pairing) (Some b) = none_there (is_array id.0 (Some b)) (port_of p id.0 x == n) (address_write p c id.0 x)
address_as p c id n x o.Mul array = none_there (is_array id.0 array) (port_of p id.0 x == n) (address_write p c id.0 x)
address_as p c id n x o.Div array = none_there (is_array id.0 array) (port_of p id.0 x == n) (address_write p c id.0 x)
address_as p c id n x o.Rem array = none_there (is_array id.0 array) (port_of p id.0 x == n) (address_write p c id.0 x)
address_as p c id n x o.Load None = refl
address_as p c id n x o.Load (Some b) = address_loaded p c id n x b
address_as p c id n x o.Store None = refl
address_as p c id n x o.Store (Some b) = address_stored p c id n x b

-- the word of a store
stored_loaded : (p : Plan) (c : Cycle) (id : ArrayId) (n : ℕ) (x : Placed) (b : ArrayId) → writes_of c (filter (wants (t.Stored id n)) (access_entries p o.Load b x))
    ≡ one_if ((((b.0 == id.0) && true) && (port_of p id.0 x == n)) && false) (stored_write p c x)
stored_loaded p c id n x b =
    ap (writes_of c) (no_refusal (t.Stored id n) b (port_of p b.0 x) (is_some x.op.op.guard) (λ c. where_ (is_refused p c x) 1) refl)
    ∙ none_behind (b.0 == id.0) (port_of p id.0 x == n) (stored_write p c x)

stored_stored : (p : Plan) (c : Cycle) (id : ArrayId) (n : ℕ) (x : Placed) (b : ArrayId) → writes_of c (filter (wants (t.Stored id n)) (access_entries p o.Store b x))
    ≡ one_if ((((b.0 == id.0) && true) && (port_of p id.0 x == n)) && true) (stored_write p c x)
stored_stored p c id n x b =
    mapped_if c ((id.0 == b.0) && (n == port_of p b.0 x)) (record { target = t.Stored b (port_of p b.0 x); write = λ c. stored_write p c x })
    ∙ (at_same id.0 b.0 n (λ k. stored_write p c x) (λ k. port_of p k x) ∙ behind_true (((b.0 == id.0) && true) && (port_of p id.0 x == n)) (stored_write p c x))

stored_as : (p : Plan) (c : Cycle) (id : ArrayId) (n : ℕ) (x : Placed) (kind : OpKind) (array : Option ArrayId) → writes_of c (filter (wants (t.Stored id n)) (entries_as p kind array x))
    ≡ one_if ((is_access id.0 kind array && (port_of p id.0 x == n)) && is_store kind) (stored_write p c x)
stored_as p c id n x o.Add None = refl
stored_as p c id n x o.Add (Some b) = none_here (is_array id.0 (Some b)) (port_of p id.0 x == n) false (stored_write p c x)
stored_as p c id n x o.Sub None = refl
stored_as p c id n x o.Sub (Some b) = none_here (is_array id.0 (Some b)) (port_of p id.0 x == n) false (stored_write p c x)
stored_as p c id n x o.And None = refl
stored_as p c id n x o.And (Some b) = none_here (is_array id.0 (Some b)) (port_of p id.0 x == n) false (stored_write p c x)
stored_as p c id n x o.Or None = refl
stored_as p c id n x o.Or (Some b) = none_here (is_array id.0 (Some b)) (port_of p id.0 x == n) false (stored_write p c x)
stored_as p c id n x o.Xor None = refl
stored_as p c id n x o.Xor (Some b) = none_here (is_array id.0 (Some b)) (port_of p id.0 x == n) false (stored_write p c x)
stored_as p c id n x o.Shl None = refl
stored_as p c id n x o.Shl (Some b) = none_here (is_array id.0 (Some b)) (port_of p id.0 x == n) false (stored_write p c x)
stored_as p c id n x o.Shr None = refl
stored_as p c id n x o.Shr (Some b) = none_here (is_array id.0 (Some b)) (port_of p id.0 x == n) false (stored_write p c x)
stored_as p c id n x o.Eq None = refl
stored_as p c id n x o.Eq (Some b) = none_here (is_array id.0 (Some b)) (port_of p id.0 x == n) false (stored_write p c x)
stored_as p c id n x o.Ne None = refl
stored_as p c id n x o.Ne (Some b) = none_here (is_array id.0 (Some b)) (port_of p id.0 x == n) false (stored_write p c x)
stored_as p c id n x o.Lt None = refl
stored_as p c id n x o.Lt (Some b) = none_here (is_array id.0 (Some b)) (port_of p id.0 x == n) false (stored_write p c x)
stored_as p c id n x o.Le None = refl
stored_as p c id n x o.Le (Some b) = none_here (is_array id.0 (Some b)) (port_of p id.0 x == n) false (stored_write p c x)
stored_as p c id n x o.Not None = refl
stored_as p c id n x o.Not (Some b) = none_here (is_array id.0 (Some b)) (port_of p id.0 x == n) false (stored_write p c x)
stored_as p c id n x o.Neg None = refl
stored_as p c id n x o.Neg (Some b) = none_here (is_array id.0 (Some b)) (port_of p id.0 x == n) false (stored_write p c x)
stored_as p c id n x o.Select None = refl
stored_as p c id n x o.Select (Some b) = none_here (is_array id.0 (Some b)) (port_of p id.0 x == n) false (stored_write p c x)
stored_as p c id n x o.Widen None = refl
stored_as p c id n x o.Widen (Some b) = none_here (is_array id.0 (Some b)) (port_of p id.0 x == n) false (stored_write p c x)
stored_as p c id n x o.Narrow None = refl
stored_as p c id n x o.Narrow (Some b) = none_here (is_array id.0 (Some b)) (port_of p id.0 x == n) false (stored_write p c x)
stored_as p c id n x o.Truth None = refl
stored_as p c id n x o.Truth (Some b) = none_here (is_array id.0 (Some b)) (port_of p id.0 x == n) false (stored_write p c x)
stored_as p c id n x o.Copy None = refl
stored_as p c id n x o.Copy (Some b) = none_here (is_array id.0 (Some b)) (port_of p id.0 x == n) false (stored_write p c x)
stored_as p c id n x (o.Fused pairing) None = refl
stored_as p c id n x (o.Fused pairing) (Some b) = none_here (is_array id.0 (Some b)) (port_of p id.0 x == n) false (stored_write p c x)
stored_as p c id n x o.Mul array = none_here (is_array id.0 array) (port_of p id.0 x == n) false (stored_write p c x)
stored_as p c id n x o.Div array = none_here (is_array id.0 array) (port_of p id.0 x == n) false (stored_write p c x)
stored_as p c id n x o.Rem array = none_here (is_array id.0 array) (port_of p id.0 x == n) false (stored_write p c x)
stored_as p c id n x o.Load None = refl
stored_as p c id n x o.Load (Some b) = stored_loaded p c id n x b
stored_as p c id n x o.Store None = refl
stored_as p c id n x o.Store (Some b) = stored_stored p c id n x b

-- a load with a guard may be refused
none_last : (x y g : Bool) (w : Write) → [] ≡ one_if ((((x && false) && y) && false) && g) w
none_last true y g w = refl
none_last false y g w = refl

refused_stored : (x y g : Bool) (w : Write) → [] ≡ one_if ((((x && true) && y) && false) && g) w
refused_stored true true g w = refl
refused_stored true false g w = refl
refused_stored false y g w = refl

no_guard : (x y : Bool) (w : Write) → [] ≡ one_if ((((x && true) && y) && true) && false) w
no_guard true true w = refl
no_guard true false w = refl
no_guard false y w = refl

refused_loaded : (p : Plan) (c : Cycle) (id : ArrayId) (n : ℕ) (x : Placed) (b : ArrayId) (g : Bool)
    → writes_of c (filter (wants (t.Refused id n)) (cond g (record { target = t.Refused b (port_of p b.0 x); write = λ c. refused_write p c x } ∷ []) []))
    ≡ one_if (((((b.0 == id.0) && true) && (port_of p id.0 x == n)) && true) && g) (refused_write p c x)
refused_loaded p c id n x b false = no_guard (b.0 == id.0) (port_of p id.0 x == n) (refused_write p c x)
refused_loaded p c id n x b true =
    mapped_if c ((id.0 == b.0) && (n == port_of p b.0 x)) (record { target = t.Refused b (port_of p b.0 x); write = λ c. refused_write p c x })
    ∙ (at_same id.0 b.0 n (λ k. refused_write p c x) (λ k. port_of p k x)
    ∙ (behind_true (((b.0 == id.0) && true) && (port_of p id.0 x == n)) (refused_write p c x)
    ∙ behind_true ((((b.0 == id.0) && true) && (port_of p id.0 x == n)) && true) (refused_write p c x)))

refused_as : (p : Plan) (c : Cycle) (id : ArrayId) (n : ℕ) (x : Placed) (kind : OpKind) (array : Option ArrayId) → writes_of c (filter (wants (t.Refused id n)) (entries_as p kind array x))
    ≡ one_if (((is_access id.0 kind array && (port_of p id.0 x == n)) && is_load kind) && is_some x.op.op.guard) (refused_write p c x)
refused_as p c id n x o.Add None = refl
refused_as p c id n x o.Add (Some b) = none_last (is_array id.0 (Some b)) (port_of p id.0 x == n) (is_some x.op.op.guard) (refused_write p c x)
refused_as p c id n x o.Sub None = refl
refused_as p c id n x o.Sub (Some b) = none_last (is_array id.0 (Some b)) (port_of p id.0 x == n) (is_some x.op.op.guard) (refused_write p c x)
refused_as p c id n x o.And None = refl
refused_as p c id n x o.And (Some b) = none_last (is_array id.0 (Some b)) (port_of p id.0 x == n) (is_some x.op.op.guard) (refused_write p c x)
refused_as p c id n x o.Or None = refl
refused_as p c id n x o.Or (Some b) = none_last (is_array id.0 (Some b)) (port_of p id.0 x == n) (is_some x.op.op.guard) (refused_write p c x)
refused_as p c id n x o.Xor None = refl
refused_as p c id n x o.Xor (Some b) = none_last (is_array id.0 (Some b)) (port_of p id.0 x == n) (is_some x.op.op.guard) (refused_write p c x)
refused_as p c id n x o.Shl None = refl
refused_as p c id n x o.Shl (Some b) = none_last (is_array id.0 (Some b)) (port_of p id.0 x == n) (is_some x.op.op.guard) (refused_write p c x)
refused_as p c id n x o.Shr None = refl
refused_as p c id n x o.Shr (Some b) = none_last (is_array id.0 (Some b)) (port_of p id.0 x == n) (is_some x.op.op.guard) (refused_write p c x)
refused_as p c id n x o.Eq None = refl
refused_as p c id n x o.Eq (Some b) = none_last (is_array id.0 (Some b)) (port_of p id.0 x == n) (is_some x.op.op.guard) (refused_write p c x)
refused_as p c id n x o.Ne None = refl
refused_as p c id n x o.Ne (Some b) = none_last (is_array id.0 (Some b)) (port_of p id.0 x == n) (is_some x.op.op.guard) (refused_write p c x)
refused_as p c id n x o.Lt None = refl
refused_as p c id n x o.Lt (Some b) = none_last (is_array id.0 (Some b)) (port_of p id.0 x == n) (is_some x.op.op.guard) (refused_write p c x)
refused_as p c id n x o.Le None = refl
refused_as p c id n x o.Le (Some b) = none_last (is_array id.0 (Some b)) (port_of p id.0 x == n) (is_some x.op.op.guard) (refused_write p c x)
refused_as p c id n x o.Not None = refl
refused_as p c id n x o.Not (Some b) = none_last (is_array id.0 (Some b)) (port_of p id.0 x == n) (is_some x.op.op.guard) (refused_write p c x)
refused_as p c id n x o.Neg None = refl
refused_as p c id n x o.Neg (Some b) = none_last (is_array id.0 (Some b)) (port_of p id.0 x == n) (is_some x.op.op.guard) (refused_write p c x)
refused_as p c id n x o.Select None = refl
refused_as p c id n x o.Select (Some b) = none_last (is_array id.0 (Some b)) (port_of p id.0 x == n) (is_some x.op.op.guard) (refused_write p c x)
refused_as p c id n x o.Widen None = refl
refused_as p c id n x o.Widen (Some b) = none_last (is_array id.0 (Some b)) (port_of p id.0 x == n) (is_some x.op.op.guard) (refused_write p c x)
refused_as p c id n x o.Narrow None = refl
refused_as p c id n x o.Narrow (Some b) = none_last (is_array id.0 (Some b)) (port_of p id.0 x == n) (is_some x.op.op.guard) (refused_write p c x)
refused_as p c id n x o.Truth None = refl
refused_as p c id n x o.Truth (Some b) = none_last (is_array id.0 (Some b)) (port_of p id.0 x == n) (is_some x.op.op.guard) (refused_write p c x)
refused_as p c id n x o.Copy None = refl
refused_as p c id n x o.Copy (Some b) = none_last (is_array id.0 (Some b)) (port_of p id.0 x == n) (is_some x.op.op.guard) (refused_write p c x)
refused_as p c id n x (o.Fused pairing) None = refl
refused_as p c id n x (o.Fused pairing) (Some b) = none_last (is_array id.0 (Some b)) (port_of p id.0 x == n) (is_some x.op.op.guard) (refused_write p c x)
refused_as p c id n x o.Mul array = none_last (is_array id.0 array) (port_of p id.0 x == n) (is_some x.op.op.guard) (refused_write p c x)
refused_as p c id n x o.Div array = none_last (is_array id.0 array) (port_of p id.0 x == n) (is_some x.op.op.guard) (refused_write p c x)
refused_as p c id n x o.Rem array = none_last (is_array id.0 array) (port_of p id.0 x == n) (is_some x.op.op.guard) (refused_write p c x)
refused_as p c id n x o.Load None = refl
refused_as p c id n x o.Load (Some b) = refused_loaded p c id n x b (is_some x.op.op.guard)
refused_as p c id n x o.Store None = refl
refused_as p c id n x o.Store (Some b) = refused_stored (b.0 == id.0) (port_of p id.0 x == n) (is_some x.op.op.guard) (refused_write p c x)

-- ---- a port

pub addresses_wanted : (p : Plan) (names : List Register) (d : Netlist) (pushes : List Push) (choices : List Choice) (id : ArrayId) (n : ℕ) → ArePushes p names d pushes (all_demands p)
    → choices ≡ choices_of (t.Address id n) pushes → AreChoices p names d (depth p id.0) choices (λ c. address_writes p c id.0 n)
addresses_wanted p names d pushes choices id n are is =
    let target : Target = t.Address id n in
    let h = choices_are p names d target (depth p id.0) (address_wide p id n) pushes (all_demands p) are in
    let same : (c : Cycle) → writes_of c (filter (wants target) (all_demands p)) ≡ address_writes p c id.0 n = λ c.
    wanted_of p c target (address_write p c id.0) (is_there p id.0 n) (λ x. address_as p c id n x x.op.op.kind x.op.op.array) (all_ops p)
    ∙ sym (ap (map (address_write p c id.0)) (filter_both (λ (x : Placed). port_of p id.0 x == n) (λ (x : Placed). is_access id.0 x.op.op.kind x.op.op.array) (all_ops p))) in
    subst (λ cs. AreChoices p names d (depth p id.0) cs (λ c. address_writes p c id.0 n)) (sym is)
    (record { fit = h.fit; are = λ e s pins x signals m. h.are e s pins x signals m ∙ same (in_cycle x signals pins) })

pub stores_wanted : (p : Plan) (names : List Register) (d : Netlist) (pushes : List Push) (choices : List Choice) (id : ArrayId) (n : ℕ) → ArePushes p names d pushes (all_demands p)
    → choices ≡ choices_of (t.Stored id n) pushes → AreChoices p names d (array_at p id.0).bits choices (λ c. stored_writes p c id.0 n)
stores_wanted p names d pushes choices id n are is =
    let target : Target = t.Stored id n in
    let bits = (array_at p id.0).bits in
    let h = choices_are p names d target bits (stored_wide p id n) pushes (all_demands p) are in
    let same : (c : Cycle) → writes_of c (filter (wants target) (all_demands p)) ≡ stored_writes p c id.0 n = λ c.
    wanted_of p c target (stored_write p c) (λ x. is_there p id.0 n x && is_store x.op.op.kind) (λ x. stored_as p c id n x x.op.op.kind x.op.op.array) (all_ops p)
    ∙ sym (ap (map (stored_write p c)) (ap (filter (λ (x : Placed). is_store x.op.op.kind))
    (filter_both (λ (x : Placed). port_of p id.0 x == n) (λ (x : Placed). is_access id.0 x.op.op.kind x.op.op.array) (all_ops p))
    ∙ filter_both (λ (x : Placed). is_store x.op.op.kind) (is_there p id.0 n) (all_ops p))) in
    subst (λ cs. AreChoices p names d bits cs (λ c. stored_writes p c id.0 n)) (sym is)
    (record { fit = h.fit; are = λ e s pins x signals m. h.are e s pins x signals m ∙ same (in_cycle x signals pins) })

-- a load without a guard is not refused
allowed_without : (p : Plan) (c : Cycle) (x : Placed) (g : Option Operand) → is_some g ≡ false → (is_starting p c x && not (is_true p c x.node x.op.start g)) ≡ false
allowed_without p c x None h = off (is_starting p c x) where
  off : (b : Bool) → (b && false) ≡ false
  off true = refl
  off false = refl
allowed_without p c x (Some guard) h = absurd (false≢true (sym h))

refused_guarded : (p : Plan) (c : Cycle) (x : Placed) (xs : List Placed) (g : Bool) → is_some x.op.op.guard ≡ g
    → is_any_wanted (map (refused_write p c) (cond g (x ∷ filter (λ (y : Placed). is_some y.op.op.guard) xs) (filter (λ (y : Placed). is_some y.op.op.guard) xs)))
    ≡ (is_refused p c x || is_any_wanted (map (refused_write p c) (filter (λ (y : Placed). is_some y.op.op.guard) xs)))
refused_guarded p c x xs true is = refl
refused_guarded p c x xs false is = sym (ap (λ b. b || is_any_wanted (map (refused_write p c) (filter (λ (y : Placed). is_some y.op.op.guard) xs))) (allowed_without p c x x.op.op.guard is))

any_refused : (p : Plan) (c : Cycle) (xs : List Placed) → is_any_wanted (map (refused_write p c) (filter (λ (x : Placed). is_some x.op.op.guard) xs)) ≡ list_any (is_refused p c) xs
any_refused p c [] = refl
any_refused p c (x ∷ xs) = refused_guarded p c x xs (is_some x.op.op.guard) refl ∙ ap (λ b. is_refused p c x || b) (any_refused p c xs)

pub refusals_wanted : (p : Plan) (names : List Register) (d : Netlist) (pushes : List Push) (choices : List Choice) (id : ArrayId) (n : ℕ) → ArePushes p names d pushes (all_demands p)
    → choices ≡ choices_of (t.Refused id n) pushes → AreRefused p names d id.0 n choices
refusals_wanted p names d pushes choices id n are is =
    let target : Target = t.Refused id n in
    let h = choices_are p names d target 1 (refused_wide p id n) pushes (all_demands p) are in
    let loaded : Placed → Bool = λ x. is_there p id.0 n x && is_load x.op.op.kind in
    let guarded : Placed → Bool = λ x. is_some x.op.op.guard in
    let same : (c : Cycle) → is_any_wanted (writes_of c (filter (wants target) (all_demands p))) ≡ list_any (is_refused p c) (loads p id.0 n) = λ c.
    ap is_any_wanted (wanted_of p c target (refused_write p c) (λ x. loaded x && guarded x) (λ x. refused_as p c id n x x.op.op.kind x.op.op.array) (all_ops p)
    ∙ sym (ap (map (refused_write p c)) (filter_both guarded loaded (all_ops p))))
    ∙ (any_refused p c (filter loaded (all_ops p))
    ∙ sym (ap (list_any (is_refused p c)) (ap (filter (λ (x : Placed). is_load x.op.op.kind))
    (filter_both (λ (x : Placed). port_of p id.0 x == n) (λ (x : Placed). is_access id.0 x.op.op.kind x.op.op.array) (all_ops p))
    ∙ filter_both (λ (x : Placed). is_load x.op.op.kind) (is_there p id.0 n) (all_ops p)))) in
    subst (AreRefused p names d id.0 n) (sym is)
    (record { fit = h.fit; any = λ e s pins x signals m. ap is_any_wanted (h.are e s pins x signals m) ∙ same (in_cycle x signals pins) })

-- whether anything is stored
pub any_stored : (p : Plan) (c : Cycle) (xs : List Placed) → is_any_wanted (map (stored_write p c) xs) ≡ list_any (is_storing p c) xs
any_stored p c [] = refl
any_stored p c (x ∷ xs) = ap (λ b. is_storing p c x || b) (any_stored p c xs)
