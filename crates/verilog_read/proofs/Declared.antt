-- What the names of a module stand for, where no name is declared twice.
use Rattle.std.proofs.Common.{◌≡◌, ◌≢◌, ◌⊎◌, inl, inr, ℕ, zero, suc, ◌+◌, Bool, true, false, not, cond, List, [], ◌∷◌, ◌++◌, map, Option, Some, None, refl, sym, ap, ◌∙◌, subst, arith}
use Rattle.std.specs.Prelude.{slice_get, bytes_eq, is_some}
use Rattle.std.specs.List.{All}
use Rattle.std.proofs.lemmas.Bool.{cases_Bool, false≢true, both_ways}
use Rattle.std.proofs.lemmas.List.Elements.{All-nil, All-cons, All-head, All-tail}
use Rattle.std.proofs.lemmas.Option.{none-some, same_Some}
use Rattle.std.proofs.lemmas.Slice.Eq.{bytes_eq-Decides}
use Rattle.rtl_core.specs.Valid.{AreDistinct}
use Rattle.verilog_read.specs.declared.names.Sort.{Sort}
use Rattle.verilog_read.specs.declared.names.Sort.TheVariants as sort
use Rattle.verilog_read.specs.declared.names.Entry.{Entry}
use Rattle.verilog_read.specs.Numbers.{declared_bits, depth_of}
use Rattle.verilog_syntax.specs.PlacedSyntax.{PlacedDeclared, PlacedMemory, PlacedWire, PlacedModule}
use Rattle.verilog_read.specs.Scope.{Scope, Declaration, declared_from, memories_from, wires_from, pins, declarations, with_entry, first_of, scope_of}
use Rattle.verilog_read.specs.Faults.{unless, allowed, declaration_faults, declared_faults, no_scope}
use Rattle.verilog_read.proofs.NoFaults.{none_left, none_right, unless_true}

abbrev pub In : Declaration → List Declaration → Type 0
In d [] = ⊥
In d (x ∷ xs) = (x ≡ d) ⊎ In d xs

in_split : (d : Declaration) (xs ys : List Declaration) → In d (xs ++ ys) → In d xs ⊎ In d ys
in_split d [] ys h = inr h
in_split d (x ∷ xs) ys (inl e) = inl (inl e)
in_split d (x ∷ xs) ys (inr h) = elim (in_split d xs ys h) [ inl k ↦ inl (inr k) | inr k ↦ inr k ]

in_left : (d : Declaration) (xs ys : List Declaration) → In d xs → In d (xs ++ ys)
in_left d [] ys h = elim h [ ]
in_left d (x ∷ xs) ys (inl e) = inl e
in_left d (x ∷ xs) ys (inr h) = inr (in_left d xs ys h)

in_right : (d : Declaration) (xs ys : List Declaration) → In d ys → In d (xs ++ ys)
in_right d [] ys h = h
in_right d (x ∷ xs) ys h = inr (in_right d xs ys h)

pub same_bytes : (x y : List ℕ) → bytes_eq x y ≡ true → x ≡ y
same_bytes x y e = (bytes_eq-Decides x y).0 e

pub bytes_same : (x y : List ℕ) → x ≡ y → bytes_eq x y ≡ true
bytes_same x y e = (bytes_eq-Decides x y).1 e

first_in : (ds : List Declaration) (name : List ℕ) (e : Entry) → first_of ds name ≡ Some e → (d : Declaration) × In d ds × (d.name.text ≡ name) × (d.entry ≡ e)
first_in [] name e h = absurd (none-some e h)
first_in (d ∷ ds) name e h =
    elim (cases_Bool (bytes_eq name d.name.text)) [
      | inl t ↦ (d, inl refl, sym (same_bytes name d.name.text t), same_Some d.entry e (sym (ap (λ b. cond b (Some d.entry) (first_of ds name)) t) ∙ h))
      | inr f ↦
          let r = first_in ds name e (sym (ap (λ b. cond b (Some d.entry) (first_of ds name)) f) ∙ h) in (r.0, inr r.1, r.2, r.3)
    ]

abbrev pub names_of : List Declaration → List (List ℕ)
names_of ds = map (λ (d : Declaration). d.name.text) ds

in_names : (P : List ℕ → Type 0) (d : Declaration) (ds : List Declaration) → All P (names_of ds) → In d ds → P d.name.text
in_names P d [] all h = elim h [ ]
in_names P d (x ∷ xs) all (inl e) = subst (λ (y : Declaration). P y.name.text) e (All-head P x.name.text (names_of xs) all)
in_names P d (x ∷ xs) all (inr h) = in_names P d xs (All-tail P x.name.text (names_of xs) all) h

in_first : (d : Declaration) (ds : List Declaration) → AreDistinct (names_of ds) → In d ds → first_of ds d.name.text ≡ Some d.entry
in_first d [] distinct h = elim h [ ]
in_first d (x ∷ xs) distinct (inl e) =
    ap (λ b. cond b (Some x.entry) (first_of xs d.name.text)) (bytes_same d.name.text x.name.text (ap (λ (y : Declaration). y.name.text) (sym e))) ∙ ap (λ (y : Declaration). Some y.entry) e
in_first d (x ∷ xs) distinct (inr h) =
    elim (cases_Bool (bytes_eq d.name.text x.name.text)) [
      | inl t ↦ absurd (in_names (λ y. x.name.text ≢ y) d xs distinct.0 h (sym (same_bytes d.name.text x.name.text t)))
      | inr f ↦ ap (λ b. cond b (Some x.entry) (first_of xs d.name.text)) f ∙ in_first d xs distinct.1 h
    ]

-- ---- what is declared

-- the entry of a name is that of the element of its sort and number
pub data Stands (m : PlacedModule) (name : List ℕ) (e : Entry) : Type 0 where
  an_input : (x : PlacedDeclared) → slice_get m.inputs e.number ≡ Some x → x.name.text ≡ name → e.sort ≡ sort.Input → e.bits ≡ declared_bits x.high → e.depth ≡ None → Stands m name e
  an_output : (x : PlacedDeclared) → slice_get m.outputs e.number ≡ Some x → x.name.text ≡ name → e.sort ≡ sort.Output → e.bits ≡ declared_bits x.high → e.depth ≡ None → Stands m name e
  a_register : (x : PlacedDeclared) → slice_get m.regs e.number ≡ Some x → x.name.text ≡ name → e.sort ≡ sort.Register → e.bits ≡ declared_bits x.high → e.depth ≡ None → Stands m name e
  a_memory : (x : PlacedMemory) → slice_get m.mems e.number ≡ Some x → x.name.text ≡ name → e.sort ≡ sort.Memory → e.bits ≡ declared_bits x.high → e.depth ≡ depth_of x.last → Stands m name e
  a_wire : (x : PlacedWire) → slice_get m.wires e.number ≡ Some x → x.name.text ≡ name → e.sort ≡ sort.Wire → e.bits ≡ declared_bits x.high → e.depth ≡ None → Stands m name e

record FromDeclared (s : Sort) (j : ℕ) (xs : List PlacedDeclared) (d : Declaration) : Type 0 where
  place : ℕ
  x : PlacedDeclared
  found : slice_get xs place ≡ Some x
  named : x.name.text ≡ d.name.text
  sort_is : d.entry.sort ≡ s
  number : d.entry.number ≡ j + place
  bits : d.entry.bits ≡ declared_bits x.high
  depth : d.entry.depth ≡ None

from_declared : (s : Sort) (j : ℕ) (xs : List PlacedDeclared) (d : Declaration) → In d (declared_from s j xs) → FromDeclared s j xs d
from_declared s j [] d h = elim h [ ]
from_declared s j (x ∷ xs) d (inl e) = record {
  place = 0;
  x = x;
  found = refl;
  named = ap (λ (y : Declaration). y.name.text) e;
  sort_is = sym (ap (λ (y : Declaration). y.entry.sort) e);
  number = sym (ap (λ (y : Declaration). y.entry.number) e) ∙ (let same : j ≡ j + 0 = omega arith in same);
  bits = sym (ap (λ (y : Declaration). y.entry.bits) e);
  depth = sym (ap (λ (y : Declaration). y.entry.depth) e);
}
from_declared s j (x ∷ xs) d (inr h) =
    let r = from_declared s (j + 1) xs d h in
    record { place = suc r.place; x = r.x; found = r.found; named = r.named; sort_is = r.sort_is; number = r.number ∙ (let same : j + 1 + r.place ≡ j + suc r.place = omega arith in same); bits = r.bits; depth = r.depth }

record FromMemory (j : ℕ) (xs : List PlacedMemory) (d : Declaration) : Type 0 where
  place : ℕ
  x : PlacedMemory
  found : slice_get xs place ≡ Some x
  named : x.name.text ≡ d.name.text
  sort_is : d.entry.sort ≡ sort.Memory
  number : d.entry.number ≡ j + place
  bits : d.entry.bits ≡ declared_bits x.high
  depth : d.entry.depth ≡ depth_of x.last

from_memory : (j : ℕ) (xs : List PlacedMemory) (d : Declaration) → In d (memories_from j xs) → FromMemory j xs d
from_memory j [] d h = elim h [ ]
from_memory j (x ∷ xs) d (inl e) = record {
  place = 0;
  x = x;
  found = refl;
  named = ap (λ (y : Declaration). y.name.text) e;
  sort_is = sym (ap (λ (y : Declaration). y.entry.sort) e);
  number = sym (ap (λ (y : Declaration). y.entry.number) e) ∙ (let same : j ≡ j + 0 = omega arith in same);
  bits = sym (ap (λ (y : Declaration). y.entry.bits) e);
  depth = sym (ap (λ (y : Declaration). y.entry.depth) e);
}
from_memory j (x ∷ xs) d (inr h) =
    let r = from_memory (j + 1) xs d h in
    record { place = suc r.place; x = r.x; found = r.found; named = r.named; sort_is = r.sort_is; number = r.number ∙ (let same : j + 1 + r.place ≡ j + suc r.place = omega arith in same); bits = r.bits; depth = r.depth }

record FromWire (j : ℕ) (xs : List PlacedWire) (d : Declaration) : Type 0 where
  place : ℕ
  x : PlacedWire
  found : slice_get xs place ≡ Some x
  named : x.name.text ≡ d.name.text
  sort_is : d.entry.sort ≡ sort.Wire
  number : d.entry.number ≡ j + place
  bits : d.entry.bits ≡ declared_bits x.high
  depth : d.entry.depth ≡ None

from_wire : (j : ℕ) (xs : List PlacedWire) (d : Declaration) → In d (wires_from j xs) → FromWire j xs d
from_wire j [] d h = elim h [ ]
from_wire j (x ∷ xs) d (inl e) = record {
  place = 0;
  x = x;
  found = refl;
  named = ap (λ (y : Declaration). y.name.text) e;
  sort_is = sym (ap (λ (y : Declaration). y.entry.sort) e);
  number = sym (ap (λ (y : Declaration). y.entry.number) e) ∙ (let same : j ≡ j + 0 = omega arith in same);
  bits = sym (ap (λ (y : Declaration). y.entry.bits) e);
  depth = sym (ap (λ (y : Declaration). y.entry.depth) e);
}
from_wire j (x ∷ xs) d (inr h) =
    let r = from_wire (j + 1) xs d h in
    record { place = suc r.place; x = r.x; found = r.found; named = r.named; sort_is = r.sort_is; number = r.number ∙ (let same : j + 1 + r.place ≡ j + suc r.place = omega arith in same); bits = r.bits; depth = r.depth }

-- a list at a number that is a place
at_number : {X : Type 0} (xs : List X) (n k : ℕ) (x : X) → n ≡ 0 + k → slice_get xs k ≡ Some x → slice_get xs n ≡ Some x
at_number xs n k x e h = let same : n ≡ k = omega (arith, e) in ap (slice_get xs) same ∙ h

stands_in : (m : PlacedModule) (d : Declaration) → In d (declarations m) → Stands m d.name.text d.entry
stands_in m d h =
    let rest = declared_from sort.Register 0 m.regs ++ (memories_from 0 m.mems ++ wires_from 0 m.wires) in
    elim (in_split d (pins m) rest h) [
      | inl p ↦
          elim (in_split d (declared_from sort.Input 0 m.inputs) (declared_from sort.Output 0 m.outputs) p) [
            | inl k ↦
                let r = from_declared sort.Input 0 m.inputs d k in an_input r.x (at_number m.inputs d.entry.number r.place r.x r.number r.found) r.named r.sort_is r.bits r.depth
            | inr k ↦
                let r = from_declared sort.Output 0 m.outputs d k in an_output r.x (at_number m.outputs d.entry.number r.place r.x r.number r.found) r.named r.sort_is r.bits r.depth
          ]
      | inr p ↦
          elim (in_split d (declared_from sort.Register 0 m.regs) (memories_from 0 m.mems ++ wires_from 0 m.wires) p) [
            | inl k ↦
                let r = from_declared sort.Register 0 m.regs d k in a_register r.x (at_number m.regs d.entry.number r.place r.x r.number r.found) r.named r.sort_is r.bits r.depth
            | inr q ↦
                elim (in_split d (memories_from 0 m.mems) (wires_from 0 m.wires) q) [
                  | inl k ↦ let r = from_memory 0 m.mems d k in a_memory r.x (at_number m.mems d.entry.number r.place r.x r.number r.found) r.named r.sort_is r.bits r.depth
                  | inr k ↦ let r = from_wire 0 m.wires d k in a_wire r.x (at_number m.wires d.entry.number r.place r.x r.number r.found) r.named r.sort_is r.bits r.depth
                ]
          ]
    ]

pub entry_stands : (m : PlacedModule) (name : List ℕ) (e : Entry) → scope_of m name ≡ Some e → Stands m name e
entry_stands m name e h =
    let r = first_in (declarations m) name e h in
    subst (λ n. Stands m n e) r.2 (subst (Stands m r.0.name.text) r.3 (stands_in m r.0 r.1))

-- ---- no declaration has a fault

not_some : (o : Option Entry) → not (is_some o) ≡ true → o ≡ None
not_some None h = refl
not_some (Some e) h = absurd (false≢true h)

later_none : (o : Option Entry) (b : Bool) (e : Entry) → cond (is_some o) o (cond b (Some e) None) ≡ None → (o ≡ None) × (b ≡ false)
later_none None true e h = absurd (none-some e (sym h))
later_none None false e h = (refl, refl)
later_none (Some x) b e h = absurd (none-some x (sym h))

abbrev pub IsAllowed : Declaration → Type 0
IsAllowed d = allowed d.entry.sort d.entry.bits d.entry.depth ≡ true

record Undoubled (scope : Scope) (ds : List Declaration) : Type 0 where
  free : All (λ name. scope name ≡ None) (names_of ds)
  distinct : AreDistinct (names_of ds)
  allowed : All IsAllowed ds

apart : (scope : Scope) (name : List ℕ) (e : Entry) (q : List ℕ) → with_entry scope name e q ≡ None → (scope q ≡ None) × (name ≢ q)
apart scope name e q h =
    let p = later_none (scope q) (bytes_eq q name) e h in (p.0, λ same. both_ways (bytes_eq q name) p.1 (bytes_same q name (sym same)))

undoubled : (scope : Scope) (ds : List Declaration) → declared_faults scope ds ≡ [] → Undoubled scope ds
undoubled scope [] h = record { free = All-nil (λ name. scope name ≡ None); distinct = tt; allowed = All-nil IsAllowed }
undoubled scope (d ∷ ds) h =
    let one = none_left (declaration_faults scope d) (declared_faults (with_entry scope d.name.text d.entry) ds) h in
    let rest = undoubled (with_entry scope d.name.text d.entry) ds (none_right (declaration_faults scope d) (declared_faults (with_entry scope d.name.text d.entry) ds) h) in
    let twice = unless (not (is_some (scope d.name.text))) 52 d.name.place in
    let wide = unless (allowed d.entry.sort d.entry.bits d.entry.depth) 53 d.name.place in
    record {
      free = All-cons (λ name. scope name ≡ None) d.name.text (names_of ds) (not_some (scope d.name.text) (unless_true _ 52 d.name.place (none_left twice wide one)))
          (λ k q lt. (apart scope d.name.text d.entry _ (rest.free k q lt)).0);
      distinct = ((λ k q lt. (apart scope d.name.text d.entry _ (rest.free k q lt)).1), rest.distinct);
      allowed = All-cons IsAllowed d ds (unless_true _ 53 d.name.place (none_right twice wide one)) rest.allowed;
    }

pub declared_apart : (m : PlacedModule) → declared_faults no_scope (declarations m) ≡ [] → AreDistinct (names_of (declarations m))
declared_apart m h = (undoubled no_scope (declarations m) h).distinct

in_all : (P : Declaration → Type 0) (d : Declaration) (ds : List Declaration) → All P ds → In d ds → P d
in_all P d [] all h = elim h [ ]
in_all P d (x ∷ xs) all (inl e) = subst P e (All-head P x xs all)
in_all P d (x ∷ xs) all (inr h) = in_all P d xs (All-tail P x xs all) h

-- ---- each declared name has its entry

abbrev entry_of : Sort → ℕ → ℕ → Option ℕ → Entry
entry_of s k bits depth = record { sort = s; number = k; bits = bits; depth = depth }

declared_in : (s : Sort) (j k : ℕ) (xs : List PlacedDeclared) (x : PlacedDeclared) → slice_get xs k ≡ Some x → In (record { name = x.name; entry = entry_of s (j + k) (declared_bits x.high) None }) (declared_from s j xs)
declared_in s j k [] x e = absurd (none-some x e)
declared_in s j zero (y ∷ xs) x e =
    let same : j ≡ j + 0 = omega arith in
    inl (ap (λ (z : PlacedDeclared). record { name = z.name; entry = entry_of s j (declared_bits z.high) None }) (same_Some y x e) ∙ ap (λ n. record { name = x.name; entry = entry_of s n (declared_bits x.high) None }) same)
declared_in s j (suc k) (y ∷ xs) x e =
    let same : j + 1 + k ≡ j + suc k = omega arith in
    inr (subst (λ n. In (record { name = x.name; entry = entry_of s n (declared_bits x.high) None }) (declared_from s (j + 1) xs)) same (declared_in s (j + 1) k xs x e))

memory_in : (j k : ℕ) (xs : List PlacedMemory) (x : PlacedMemory) → slice_get xs k ≡ Some x → In (record { name = x.name; entry = entry_of sort.Memory (j + k) (declared_bits x.high) (depth_of x.last) }) (memories_from j xs)
memory_in j k [] x e = absurd (none-some x e)
memory_in j zero (y ∷ xs) x e =
    let same : j ≡ j + 0 = omega arith in
    inl (ap (λ (z : PlacedMemory). record { name = z.name; entry = entry_of sort.Memory j (declared_bits z.high) (depth_of z.last) }) (same_Some y x e) ∙ ap (λ n. record { name = x.name; entry = entry_of sort.Memory n (declared_bits x.high) (depth_of x.last) }) same)
memory_in j (suc k) (y ∷ xs) x e =
    let same : j + 1 + k ≡ j + suc k = omega arith in
    inr (subst (λ n. In (record { name = x.name; entry = entry_of sort.Memory n (declared_bits x.high) (depth_of x.last) }) (memories_from (j + 1) xs)) same (memory_in (j + 1) k xs x e))

wire_in : (j k : ℕ) (xs : List PlacedWire) (x : PlacedWire) → slice_get xs k ≡ Some x → In (record { name = x.name; entry = entry_of sort.Wire (j + k) (declared_bits x.high) None }) (wires_from j xs)
wire_in j k [] x e = absurd (none-some x e)
wire_in j zero (y ∷ xs) x e =
    let same : j ≡ j + 0 = omega arith in
    inl (ap (λ (z : PlacedWire). record { name = z.name; entry = entry_of sort.Wire j (declared_bits z.high) None }) (same_Some y x e) ∙ ap (λ n. record { name = x.name; entry = entry_of sort.Wire n (declared_bits x.high) None }) same)
wire_in j (suc k) (y ∷ xs) x e =
    let same : j + 1 + k ≡ j + suc k = omega arith in
    inr (subst (λ n. In (record { name = x.name; entry = entry_of sort.Wire n (declared_bits x.high) None }) (wires_from (j + 1) xs)) same (wire_in (j + 1) k xs x e))

no_start : (k : ℕ) → 0 + k ≡ k
no_start k = omega arith

module _ (m : PlacedModule) where
  input_there : (k : ℕ) (x : PlacedDeclared) → slice_get m.inputs k ≡ Some x → In (record { name = x.name; entry = entry_of sort.Input k (declared_bits x.high) None }) (declarations m)
  input_there k x e =
      in_left _ (pins m) _ (in_left _ (declared_from sort.Input 0 m.inputs) _
      (subst (λ n. In (record { name = x.name; entry = entry_of sort.Input n (declared_bits x.high) None }) (declared_from sort.Input 0 m.inputs)) (no_start k) (declared_in sort.Input 0 k m.inputs x e)))

  output_there : (k : ℕ) (x : PlacedDeclared) → slice_get m.outputs k ≡ Some x → In (record { name = x.name; entry = entry_of sort.Output k (declared_bits x.high) None }) (declarations m)
  output_there k x e =
      in_left _ (pins m) _ (in_right _ (declared_from sort.Input 0 m.inputs) _
      (subst (λ n. In (record { name = x.name; entry = entry_of sort.Output n (declared_bits x.high) None }) (declared_from sort.Output 0 m.outputs)) (no_start k) (declared_in sort.Output 0 k m.outputs x e)))

  register_there : (k : ℕ) (x : PlacedDeclared) → slice_get m.regs k ≡ Some x → In (record { name = x.name; entry = entry_of sort.Register k (declared_bits x.high) None }) (declarations m)
  register_there k x e =
      in_right _ (pins m) _ (in_left _ (declared_from sort.Register 0 m.regs) _
      (subst (λ n. In (record { name = x.name; entry = entry_of sort.Register n (declared_bits x.high) None }) (declared_from sort.Register 0 m.regs)) (no_start k) (declared_in sort.Register 0 k m.regs x e)))

  memory_there : (k : ℕ) (x : PlacedMemory) → slice_get m.mems k ≡ Some x → In (record { name = x.name; entry = entry_of sort.Memory k (declared_bits x.high) (depth_of x.last) }) (declarations m)
  memory_there k x e =
      in_right _ (pins m) _ (in_right _ (declared_from sort.Register 0 m.regs) _ (in_left _ (memories_from 0 m.mems) _
      (subst (λ n. In (record { name = x.name; entry = entry_of sort.Memory n (declared_bits x.high) (depth_of x.last) }) (memories_from 0 m.mems)) (no_start k) (memory_in 0 k m.mems x e))))

  wire_there : (k : ℕ) (x : PlacedWire) → slice_get m.wires k ≡ Some x → In (record { name = x.name; entry = entry_of sort.Wire k (declared_bits x.high) None }) (declarations m)
  wire_there k x e =
      in_right _ (pins m) _ (in_right _ (declared_from sort.Register 0 m.regs) _ (in_right _ (memories_from 0 m.mems) _
      (subst (λ n. In (record { name = x.name; entry = entry_of sort.Wire n (declared_bits x.high) None }) (wires_from 0 m.wires)) (no_start k) (wire_in 0 k m.wires x e))))

  allowed_there : declared_faults no_scope (declarations m) ≡ [] → (d : Declaration) → In d (declarations m) → IsAllowed d
  allowed_there h d k = in_all IsAllowed d (declarations m) (undoubled no_scope (declarations m) h).allowed k

  pub input_allowed : declared_faults no_scope (declarations m) ≡ [] → (k : ℕ) (x : PlacedDeclared) → slice_get m.inputs k ≡ Some x → allowed sort.Input (declared_bits x.high) None ≡ true
  input_allowed h k x e = allowed_there h _ (input_there k x e)

  pub output_allowed : declared_faults no_scope (declarations m) ≡ [] → (k : ℕ) (x : PlacedDeclared) → slice_get m.outputs k ≡ Some x → allowed sort.Output (declared_bits x.high) None ≡ true
  output_allowed h k x e = allowed_there h _ (output_there k x e)

  pub register_allowed : declared_faults no_scope (declarations m) ≡ [] → (k : ℕ) (x : PlacedDeclared) → slice_get m.regs k ≡ Some x → allowed sort.Register (declared_bits x.high) None ≡ true
  register_allowed h k x e = allowed_there h _ (register_there k x e)

  pub memory_allowed : declared_faults no_scope (declarations m) ≡ [] → (k : ℕ) (x : PlacedMemory) → slice_get m.mems k ≡ Some x → allowed sort.Memory (declared_bits x.high) (depth_of x.last) ≡ true
  memory_allowed h k x e = allowed_there h _ (memory_there k x e)

  pub wire_allowed : declared_faults no_scope (declarations m) ≡ [] → (k : ℕ) (x : PlacedWire) → slice_get m.wires k ≡ Some x → allowed sort.Wire (declared_bits x.high) None ≡ true
  wire_allowed h k x e = allowed_there h _ (wire_there k x e)

  pub input_entry : AreDistinct (names_of (declarations m)) → (k : ℕ) (x : PlacedDeclared) → slice_get m.inputs k ≡ Some x → scope_of m x.name.text ≡ Some (entry_of sort.Input k (declared_bits x.high) None)
  input_entry distinct k x e = in_first _ (declarations m) distinct (input_there k x e)

  pub output_entry : AreDistinct (names_of (declarations m)) → (k : ℕ) (x : PlacedDeclared) → slice_get m.outputs k ≡ Some x → scope_of m x.name.text ≡ Some (entry_of sort.Output k (declared_bits x.high) None)
  output_entry distinct k x e = in_first _ (declarations m) distinct (output_there k x e)

  pub register_entry : AreDistinct (names_of (declarations m)) → (k : ℕ) (x : PlacedDeclared) → slice_get m.regs k ≡ Some x → scope_of m x.name.text ≡ Some (entry_of sort.Register k (declared_bits x.high) None)
  register_entry distinct k x e = in_first _ (declarations m) distinct (register_there k x e)

  pub memory_entry : AreDistinct (names_of (declarations m)) → (k : ℕ) (x : PlacedMemory) → slice_get m.mems k ≡ Some x → scope_of m x.name.text ≡ Some (entry_of sort.Memory k (declared_bits x.high) (depth_of x.last))
  memory_entry distinct k x e = in_first _ (declarations m) distinct (memory_there k x e)

  pub wire_entry : AreDistinct (names_of (declarations m)) → (k : ℕ) (x : PlacedWire) → slice_get m.wires k ≡ Some x → scope_of m x.name.text ≡ Some (entry_of sort.Wire k (declared_bits x.high) None)
  wire_entry distinct k x e = in_first _ (declarations m) distinct (wire_there k x e)
