-- What the log wants of units.
use Rattle.std.proofs.Common.{◌≡◌, ◌⊎◌, inl, inr, ℕ, Bool, true, false, List, [], ◌∷◌, ◌++◌, map, filter, refl, sym, ap, ◌∙◌, subst}
use Rattle.std.specs.Prelude.{◌==◌, ◌&&◌, ◌||◌, flat_map, Option, Some, None, is_some, if◌then◌else◌}
use Rattle.std.specs.List.{All, list_any}
use Rattle.std.proofs.lemmas.Bool.{false≢true, true≢false, eqb-true, eq-eqb}
use Rattle.std.proofs.lemmas.List.Elements.{All-nil, All-cons, filter-append}
use Rattle.std.proofs.lemmas.List.{map-append}
use Rattle.std.proofs.lemmas.List.Folds.{list_any-append}
use Rattle.hls_base.specs.declared.number.ArrayId.{ArrayId}
use Rattle.ir_core.specs.declared.body.OpKind.{OpKind}
use Rattle.ir_core.specs.declared.body.OpKind.TheVariants as o
use Rattle.ir_core.specs.declared.timing.UnitClass.TheVariants as u
use Rattle.rtl_core.specs.declared.design.Atom.{Atom}
use Rattle.rtl_core.specs.Netlist.{Netlist}
use Rattle.rtl_core.specs.ClockStep.{State, seen, widths}
use Rattle.rtl_core.specs.Valid.{HasBits}
use Rattle.rtl_logic.specs.Choosing.{Write, where_, is_any_wanted, write_in, writes_in, ChoiceFits}
use Rattle.rtl_logic.specs.declared.select.Choice.{Choice}
use Rattle.datapath.specs.Plans.{Plan, Placed, all_ops, unit_of}
use Rattle.datapath.specs.Cycles.{Register, Contents, Signal, Cycle, in_cycle, bit}
use Rattle.datapath.specs.Reading.{is_starting, arguments}
use Rattle.datapath.specs.Ports.{port_of, is_storing, is_refused}
use Rattle.ir_core.specs.Bodies.{stored}
use Rattle.datapath.specs.Units.{is_of_class, is_dividing, users, argument_write, argument_writes, signed_writes}
use Rattle.datapath.specs.CircuitWires.Carrying.{IsMoment}
use Rattle.datapath.proofs.Combining.{bit_is}
use Rattle.circuit_context.specs.declared.wanted.role.UnitKind.{UnitKind}
use Rattle.circuit_context.specs.declared.wanted.role.UnitKind.TheVariants as kind
use Rattle.circuit_context.specs.declared.wanted.role.SharedUnit.{SharedUnit}
use Rattle.circuit_context.specs.declared.wanted.role.Target.{Target}
use Rattle.circuit_context.specs.declared.wanted.role.Target.TheVariants as t
use Rattle.circuit_context.specs.declared.wanted.log.Push.{Push}
use Rattle.circuit_context.specs.Wanted.Roles.{class_as, class_of, same_kind, same_unit, same_target, choices_of}
use Rattle.circuit_context.specs.Wanted.Entries.{Entry, entry, bit_entry, unit_at, shared_entries, address_entry, refusal_entries, entries_as, demands_of, all_demands}
use Rattle.circuit_context.specs.Wanted.Logs.{target_bits, ArePushes}
use Rattle.circuit_units.specs.declared.units.uses.UnitUse.{UnitUse}
use Rattle.circuit_units.specs.Units.{used_as}
use Rattle.circuit_units.specs.Units.Uses.{use_with, uses_as, has_signed}
use Rattle.circuit_units.specs.Units.Adding.{wanted_in, AreBits}

-- ---- what is pushed for a target

-- what the choices for a target show is what the entries for it want
pub choices_show : (p : Plan) (names : List Register) (d e : Netlist) (s : State) (pins : List ℕ) (x : Contents) (signals : Signal → ℕ) (target : Target) → IsMoment p names d e s pins x
    → (pushes : List Push) (entries : List Entry) → ArePushes p names d pushes entries
    → writes_in (seen e s pins) (choices_of target pushes) ≡ wanted_in target entries (in_cycle x signals pins)
choices_show p names d e s pins x signals target m [] [] h = refl
choices_show p names d e s pins x signals target m [] (it ∷ entries) h = absurd h
choices_show p names d e s pins x signals target m (push ∷ pushes) [] h = absurd h
choices_show p names d e s pins x signals target m (push ∷ pushes) (it ∷ entries) h =
    by (same_target target push.target) (same_target target it.target) (ap (same_target target) h.0.target) (choices_show p names d e s pins x signals target m pushes entries h.1) where
      v : Atom → ℕ
      v = seen e s pins

      c : Cycle
      c = in_cycle x signals pins

      ps : List Push
      ps = filter (λ (q : Push). same_target target q.target) pushes

      es : List Entry
      es = filter (λ (i : Entry). same_target target i.target) entries

      first : write_in v push.choice ≡ it.write c
      first = ap (λ n. where_ (n == 1) (v push.choice.value)) (h.0.when.value_ e s pins x signals m)
          ∙ (ap (λ b. where_ b (v push.choice.value)) (bit_is (it.write c).wanted) ∙ ap (where_ (it.write c).wanted) (h.0.value.value_ e s pins x signals m))

      by : (a b : Bool) → a ≡ b → writes_in v (map (λ (q : Push). q.choice) ps) ≡ map (λ (i : Entry). i.write c) es
          → writes_in v (map (λ (q : Push). q.choice) (if a then push ∷ ps else ps)) ≡ map (λ (i : Entry). i.write c) (if b then it ∷ es else es)
      by true true e rest = ap (λ w. w ∷ writes_in v (map (λ (q : Push). q.choice) ps)) first ∙ ap (λ ws. it.write c ∷ ws) rest
      by false false e rest = rest
      by true false e rest = absurd (true≢false e)
      by false true e rest = absurd (true≢false (sym e))

-- and they have so many bits
pub choices_fit : (p : Plan) (names : List Register) (d : Netlist) (target : Target) (bits : ℕ) → AreBits p target bits → (pushes : List Push) (entries : List Entry)
    → ArePushes p names d pushes entries → All (ChoiceFits (widths d) bits) (choices_of target pushes)
choices_fit p names d target bits wide [] [] h = All-nil (ChoiceFits (widths d) bits)
choices_fit p names d target bits wide [] (it ∷ entries) h = absurd h
choices_fit p names d target bits wide (push ∷ pushes) [] h = absurd h
choices_fit p names d target bits wide (push ∷ pushes) (it ∷ entries) h = by (same_target target push.target) refl (choices_fit p names d target bits wide pushes entries h.1) where
  F : Choice → Type 0
  F = ChoiceFits (widths d) bits

  ps : List Push
  ps = filter (λ (q : Push). same_target target q.target) pushes

  by : (b : Bool) → same_target target push.target ≡ b → All F (map (λ (q : Push). q.choice) ps) → All F (map (λ (q : Push). q.choice) (if b then push ∷ ps else ps))
  by false e rest = rest
  by true e rest =
      let same : target_bits p it.target ≡ bits = subst (λ (u : Target). target_bits p u ≡ bits) h.0.target (wide push.target e) in
      All-cons F push.choice (map (λ (q : Push). q.choice) ps) (record { when = h.0.when.fits; value = subst (λ n. HasBits (widths d) n push.choice.value) same h.0.value.fits }) rest

-- ---- the bits of the operands of a unit

-- both hold
pub both_true : (a b : Bool) → (a && b) ≡ true → (a ≡ true) × (b ≡ true)
both_true true b e = (refl, e)
both_true false b e = absurd (false≢true e)

same_bits : (a b : SharedUnit) → same_unit a b ≡ true → b.bits ≡ a.bits
same_bits a b e =
    let numbers : ((a.bits == b.bits) && (a.number == b.number)) ≡ true = (both_true (same_kind a.kind b.kind) ((a.bits == b.bits) && (a.number == b.number)) e).1 in
    sym (eqb-true a.bits b.bits (both_true (a.bits == b.bits) (a.number == b.number) numbers).0)

pub left_bits : (p : Plan) (unit : SharedUnit) → AreBits p (t.Left unit) unit.bits
left_bits p unit (t.Left b) e = same_bits unit b e
left_bits p unit (t.Register r) e = absurd (false≢true e)
left_bits p unit (t.Right b) e = absurd (false≢true e)
left_bits p unit (t.Signed b) e = absurd (false≢true e)
left_bits p unit (t.Address a n) e = absurd (false≢true e)
left_bits p unit (t.Stored a n) e = absurd (false≢true e)
left_bits p unit (t.Refused a n) e = absurd (false≢true e)
left_bits p unit (t.Entered a) e = absurd (false≢true e)
left_bits p unit t.Ended e = absurd (false≢true e)
left_bits p unit t.Tested e = absurd (false≢true e)

pub right_bits : (p : Plan) (unit : SharedUnit) → AreBits p (t.Right unit) unit.bits
right_bits p unit (t.Right b) e = same_bits unit b e
right_bits p unit (t.Register r) e = absurd (false≢true e)
right_bits p unit (t.Left b) e = absurd (false≢true e)
right_bits p unit (t.Signed b) e = absurd (false≢true e)
right_bits p unit (t.Address a n) e = absurd (false≢true e)
right_bits p unit (t.Stored a n) e = absurd (false≢true e)
right_bits p unit (t.Refused a n) e = absurd (false≢true e)
right_bits p unit (t.Entered a) e = absurd (false≢true e)
right_bits p unit t.Ended e = absurd (false≢true e)
right_bits p unit t.Tested e = absurd (false≢true e)

pub signed_bits : (p : Plan) (unit : SharedUnit) → AreBits p (t.Signed unit) 1
signed_bits p unit (t.Signed b) e = refl
signed_bits p unit (t.Register r) e = absurd (false≢true e)
signed_bits p unit (t.Left b) e = absurd (false≢true e)
signed_bits p unit (t.Right b) e = absurd (false≢true e)
signed_bits p unit (t.Address a n) e = absurd (false≢true e)
signed_bits p unit (t.Stored a n) e = absurd (false≢true e)
signed_bits p unit (t.Refused a n) e = absurd (false≢true e)
signed_bits p unit (t.Entered a) e = absurd (false≢true e)
signed_bits p unit t.Ended e = absurd (false≢true e)
signed_bits p unit t.Tested e = absurd (false≢true e)

-- ---- what the operations want of a unit

abbrev pub if_one : {A : Type 0} → Bool → A → List A
if_one b x = if b then x ∷ [] else []

-- what each operation wants of a target, all together
wanted_by : (p : Plan) (target : Target) (c : Cycle) (W : Placed → Write) (test : Placed → Bool) → ((x : Placed) → wanted_in target (demands_of p x) c ≡ if_one (test x) (W x))
    → (xs : List Placed) → wanted_in target (flat_map (demands_of p) xs) c ≡ map W (filter test xs)
wanted_by p target c W test each [] = refl
wanted_by p target c W test each (x ∷ xs) =
    let es : List Entry = flat_map (demands_of p) xs in
    let f : Entry → Bool = λ (it : Entry). same_target target it.target in
    ap (map (λ (it : Entry). it.write c)) (filter-append f (demands_of p x) es)
    ∙ (map-append (λ (it : Entry). it.write c) (filter f (demands_of p x)) (filter f es)
    ∙ (ap (λ l. l ++ wanted_in target es c) (each x) ∙ (ap (λ l. if_one (test x) (W x) ++ l) (wanted_by p target c W test each xs) ∙ joined (test x)))) where
      joined : (b : Bool) → if_one b (W x) ++ map W (filter test xs) ≡ map W (if b then x ∷ filter test xs else filter test xs)
      joined true = refl
      joined false = refl

-- a target that is a unit's
pub record IsOfUnit (target : Target) : Type 0 where
  pub address : (a : ArrayId) (n : ℕ) → same_target target (t.Address a n) ≡ false
  pub stored : (a : ArrayId) (n : ℕ) → same_target target (t.Stored a n) ≡ false
  pub refused : (a : ArrayId) (n : ℕ) → same_target target (t.Refused a n) ≡ false

-- a target of which no entry is
skipped : (target : Target) (it : Entry) (es : List Entry) (c : Cycle) → same_target target it.target ≡ false → wanted_in target (it ∷ es) c ≡ wanted_in target es c
skipped target it es c e = ap (λ b. map (λ (i : Entry). i.write c) (if b then it ∷ rest else rest)) e where
  rest : List Entry
  rest = filter (λ (i : Entry). same_target target i.target) es

no_refusals : (p : Plan) (target : Target) (c : Cycle) (a : ArrayId) (x : Placed) (b : Bool) → IsOfUnit target → wanted_in target (if b then bit_entry (t.Refused a (port_of p a.0 x)) (λ c. is_refused p c x) ∷ [] else []) c ≡ []
no_refusals p target c a x true u = skipped target (bit_entry (t.Refused a (port_of p a.0 x)) (λ c. is_refused p c x)) [] c (u.refused a (port_of p a.0 x))
no_refusals p target c a x false u = refl

no_load : (p : Plan) (target : Target) (c : Cycle) (x : Placed) (array : Option ArrayId) → IsOfUnit target → wanted_in target (entries_as p o.Load array x) c ≡ []
no_load p target c x None u = refl
no_load p target c x (Some a) u =
    skipped target (address_entry p a x) (refusal_entries p a x) c (u.address a (port_of p a.0 x)) ∙ no_refusals p target c a x (is_some x.op.op.guard) u

no_store : (p : Plan) (target : Target) (c : Cycle) (x : Placed) (array : Option ArrayId) → IsOfUnit target → wanted_in target (entries_as p o.Store array x) c ≡ []
no_store p target c x None u = refl
no_store p target c x (Some a) u =
    let value : Entry = entry (t.Stored a (port_of p a.0 x)) (λ c. where_ (is_storing p c x) (stored (arguments p c x))) in
    skipped target (address_entry p a x) (value ∷ []) c (u.address a (port_of p a.0 x)) ∙ skipped target value [] c (u.stored a (port_of p a.0 x))

for_kinds : (P : UnitKind → Type 0) → P kind.Multiplier → P kind.Divider → (k : UnitKind) → P k
for_kinds P m d kind.Multiplier = m
for_kinds P m d kind.Divider = d

for_arrays : (P : Option ArrayId → Type 0) → P None → ((a : ArrayId) → P (Some a)) → (array : Option ArrayId) → P array
for_arrays P n s None = n
for_arrays P n s (Some a) = s a

-- an operation of this kind uses no unit
pub record IsApart (p : Plan) (x : Placed) (k : OpKind) : Type 0 where
  pub uses : (bits number : ℕ) (signed : Bool) → uses_as k bits number signed ≡ []
  pub used : used_as p k x ≡ None
  pub class : (w bits : ℕ) (uk : UnitKind) → is_of_class (class_as uk w) k bits ≡ false
  pub entries : (target : Target) (c : Cycle) → IsOfUnit target → (array : Option ArrayId) → wanted_in target (entries_as p k array x) c ≡ []

-- an operation of this kind uses a unit
pub record IsShared (p : Plan) (x : Placed) (k : OpKind) : Type 0 where
  pub of : UnitKind
  pub uses : (bits number : ℕ) (signed : Bool) → uses_as k bits number signed ≡ use_with of bits number signed ∷ []
  pub used : used_as p k x ≡ Some (unit_at p of x)
  pub class : (w bits : ℕ) (uk : UnitKind) → is_of_class (class_as uk w) k bits ≡ (same_kind uk of && (w == bits))
  pub entries : (array : Option ArrayId) → entries_as p k array x ≡ shared_entries p (unit_at p of x) x

apart : (p : Plan) (x : Placed) (k : OpKind) → ((bits number : ℕ) (signed : Bool) → uses_as k bits number signed ≡ []) → used_as p k x ≡ None
    → ((w bits : ℕ) → is_of_class (u.Multiplier w) k bits ≡ false) → ((w bits : ℕ) → is_of_class (u.Divider w) k bits ≡ false)
    → ((target : Target) (c : Cycle) → wanted_in target (entries_as p k None x) c ≡ [])
    → ((target : Target) (c : Cycle) → IsOfUnit target → (a : ArrayId) → wanted_in target (entries_as p k (Some a) x) c ≡ []) → IsApart p x k
apart p x k uses used m d none some = record {
  uses = uses;
  used = used;
  class = λ w bits. for_kinds (λ uk. is_of_class (class_as uk w) k bits ≡ false) (m w bits) (d w bits);
  entries = λ target c it. for_arrays (λ array. wanted_in target (entries_as p k array x) c ≡ []) (none target c) (some target c it);
}

pub how_used : (p : Plan) (x : Placed) (k : OpKind) → IsApart p x k ⊎ IsShared p x k
how_used p x o.Add = inl (apart p x o.Add (λ bits number signed. refl) refl (λ w bits. refl) (λ w bits. refl) (λ target c. refl) (λ target c it a. refl))
how_used p x o.Sub = inl (apart p x o.Sub (λ bits number signed. refl) refl (λ w bits. refl) (λ w bits. refl) (λ target c. refl) (λ target c it a. refl))
how_used p x o.And = inl (apart p x o.And (λ bits number signed. refl) refl (λ w bits. refl) (λ w bits. refl) (λ target c. refl) (λ target c it a. refl))
how_used p x o.Or = inl (apart p x o.Or (λ bits number signed. refl) refl (λ w bits. refl) (λ w bits. refl) (λ target c. refl) (λ target c it a. refl))
how_used p x o.Xor = inl (apart p x o.Xor (λ bits number signed. refl) refl (λ w bits. refl) (λ w bits. refl) (λ target c. refl) (λ target c it a. refl))
how_used p x o.Shl = inl (apart p x o.Shl (λ bits number signed. refl) refl (λ w bits. refl) (λ w bits. refl) (λ target c. refl) (λ target c it a. refl))
how_used p x o.Shr = inl (apart p x o.Shr (λ bits number signed. refl) refl (λ w bits. refl) (λ w bits. refl) (λ target c. refl) (λ target c it a. refl))
how_used p x o.Eq = inl (apart p x o.Eq (λ bits number signed. refl) refl (λ w bits. refl) (λ w bits. refl) (λ target c. refl) (λ target c it a. refl))
how_used p x o.Ne = inl (apart p x o.Ne (λ bits number signed. refl) refl (λ w bits. refl) (λ w bits. refl) (λ target c. refl) (λ target c it a. refl))
how_used p x o.Lt = inl (apart p x o.Lt (λ bits number signed. refl) refl (λ w bits. refl) (λ w bits. refl) (λ target c. refl) (λ target c it a. refl))
how_used p x o.Le = inl (apart p x o.Le (λ bits number signed. refl) refl (λ w bits. refl) (λ w bits. refl) (λ target c. refl) (λ target c it a. refl))
how_used p x o.Not = inl (apart p x o.Not (λ bits number signed. refl) refl (λ w bits. refl) (λ w bits. refl) (λ target c. refl) (λ target c it a. refl))
how_used p x o.Neg = inl (apart p x o.Neg (λ bits number signed. refl) refl (λ w bits. refl) (λ w bits. refl) (λ target c. refl) (λ target c it a. refl))
how_used p x o.Select = inl (apart p x o.Select (λ bits number signed. refl) refl (λ w bits. refl) (λ w bits. refl) (λ target c. refl) (λ target c it a. refl))
how_used p x o.Widen = inl (apart p x o.Widen (λ bits number signed. refl) refl (λ w bits. refl) (λ w bits. refl) (λ target c. refl) (λ target c it a. refl))
how_used p x o.Narrow = inl (apart p x o.Narrow (λ bits number signed. refl) refl (λ w bits. refl) (λ w bits. refl) (λ target c. refl) (λ target c it a. refl))
how_used p x o.Truth = inl (apart p x o.Truth (λ bits number signed. refl) refl (λ w bits. refl) (λ w bits. refl) (λ target c. refl) (λ target c it a. refl))
how_used p x o.Copy = inl (apart p x o.Copy (λ bits number signed. refl) refl (λ w bits. refl) (λ w bits. refl) (λ target c. refl) (λ target c it a. refl))
how_used p x o.Load = inl (apart p x o.Load (λ bits number signed. refl) refl (λ w bits. refl) (λ w bits. refl) (λ target c. refl) (λ target c it a. no_load p target c x (Some a) it))
how_used p x o.Store = inl (apart p x o.Store (λ bits number signed. refl) refl (λ w bits. refl) (λ w bits. refl) (λ target c. refl) (λ target c it a. no_store p target c x (Some a) it))
how_used p x (o.Fused pairing) = inl (apart p x (o.Fused pairing) (λ bits number signed. refl) refl (λ w bits. refl) (λ w bits. refl) (λ target c. refl) (λ target c it a. refl))
how_used p x o.Mul = inr (record {
  of = kind.Multiplier;
  uses = λ bits number signed. refl;
  used = refl;
  class = λ w bits. for_kinds (λ uk. is_of_class (class_as uk w) o.Mul bits ≡ (same_kind uk kind.Multiplier && (w == bits))) refl refl;
  entries = for_arrays (λ array. entries_as p o.Mul array x ≡ shared_entries p (unit_at p kind.Multiplier x) x) refl (λ a. refl);
})
how_used p x o.Div = inr (record {
  of = kind.Divider;
  uses = λ bits number signed. refl;
  used = refl;
  class = λ w bits. for_kinds (λ uk. is_of_class (class_as uk w) o.Div bits ≡ (same_kind uk kind.Divider && (w == bits))) refl refl;
  entries = for_arrays (λ array. entries_as p o.Div array x ≡ shared_entries p (unit_at p kind.Divider x) x) refl (λ a. refl);
})
how_used p x o.Rem = inr (record {
  of = kind.Divider;
  uses = λ bits number signed. refl;
  used = refl;
  class = λ w bits. for_kinds (λ uk. is_of_class (class_as uk w) o.Rem bits ≡ (same_kind uk kind.Divider && (w == bits))) refl refl;
  entries = for_arrays (λ array. entries_as p o.Rem array x ≡ shared_entries p (unit_at p kind.Divider x) x) refl (λ a. refl);
})

same_number : (a b : ℕ) → (a == b) ≡ (b == a)
same_number a b = by (a == b) refl (b == a) refl where
  by : (x : Bool) → (a == b) ≡ x → (y : Bool) → (b == a) ≡ y → x ≡ y
  by true e true f = refl
  by false e false f = refl
  by true e false f = absurd (false≢true (sym f ∙ eq-eqb b a (sym (eqb-true a b e))))
  by false e true f = absurd (false≢true (sym e ∙ eq-eqb a b (sym (eqb-true b a f))))

and_joined : (a b c : Bool) → (a && (b && c)) ≡ ((a && b) && c)
and_joined true b c = refl
and_joined false b c = refl

-- the operation uses this unit
abbrev pub is_user : Plan → SharedUnit → Placed → Bool
is_user p unit x = is_of_class (class_of unit) x.op.op.kind x.op.op.bits && (unit_of p x == unit.number)

pub same_user : (p : Plan) (unit : SharedUnit) (x : Placed) (s : IsShared p x x.op.op.kind) → same_unit unit (unit_at p s.of x) ≡ is_user p unit x
same_user p unit x s =
    and_joined (same_kind unit.kind s.of) (unit.bits == x.op.op.bits) (unit.number == unit_of p x)
    ∙ (ap (λ b. b && (unit.number == unit_of p x)) (sym (s.class unit.bits x.op.op.bits unit.kind))
    ∙ ap (λ b. is_of_class (class_of unit) x.op.op.kind x.op.op.bits && b) (same_number unit.number (unit_of p x)))

-- what an operation wants of a target, where it is told what it wants of its own unit
wanted_of : (p : Plan) (unit : SharedUnit) (target : Target) (c : Cycle) (W : Placed → Write) → IsOfUnit target
    → ((k : UnitKind) (x : Placed) → wanted_in target (shared_entries p (unit_at p k x) x) c ≡ if_one (same_unit unit (unit_at p k x)) (W x))
    → (x : Placed) → wanted_in target (demands_of p x) c ≡ if_one (is_user p unit x) (W x)
wanted_of p unit target c W it shared x = by (how_used p x x.op.op.kind) where
  by : IsApart p x x.op.op.kind ⊎ IsShared p x x.op.op.kind → wanted_in target (demands_of p x) c ≡ if_one (is_user p unit x) (W x)
  by (inl a) = a.entries target c it x.op.op.array ∙ sym (ap (λ b. if_one (b && (unit_of p x == unit.number)) (W x)) (a.class unit.bits x.op.op.bits unit.kind))
  by (inr s) = ap (λ es. wanted_in target es c) (s.entries x.op.op.array) ∙ (shared s.of x ∙ ap (λ b. if_one b (W x)) (same_user p unit x s))

-- one entry of three
kept_one : (b : Bool) (it : Entry) (c : Cycle) → map (λ (i : Entry). i.write c) (if_one b it) ≡ if_one b (it.write c)
kept_one true it c = refl
kept_one false it c = refl

pub wanted_left : (p : Plan) (unit : SharedUnit) (c : Cycle) → wanted_in (t.Left unit) (all_demands p) c ≡ argument_writes p c (class_of unit) unit.number 0
wanted_left p unit c =
    wanted_by p (t.Left unit) c (argument_write p c 0) (is_user p unit)
    (wanted_of p unit (t.Left unit) c (argument_write p c 0) (record { address = λ a n. refl; stored = λ a n. refl; refused = λ a n. refl }) (λ k x.
    kept_one (same_unit unit (unit_at p k x)) (entry (t.Left (unit_at p k x)) (λ c. argument_write p c 0 x)) c))
    (all_ops p)

pub wanted_right : (p : Plan) (unit : SharedUnit) (c : Cycle) → wanted_in (t.Right unit) (all_demands p) c ≡ argument_writes p c (class_of unit) unit.number 1
wanted_right p unit c =
    wanted_by p (t.Right unit) c (argument_write p c 1) (is_user p unit)
    (wanted_of p unit (t.Right unit) c (argument_write p c 1) (record { address = λ a n. refl; stored = λ a n. refl; refused = λ a n. refl }) (λ k x.
    kept_one (same_unit unit (unit_at p k x)) (entry (t.Right (unit_at p k x)) (λ c. argument_write p c 1 x)) c))
    (all_ops p)

pub wanted_signed : (p : Plan) (unit : SharedUnit) (c : Cycle) → wanted_in (t.Signed unit) (all_demands p) c ≡ signed_writes p c (class_of unit) unit.number
wanted_signed p unit c =
    wanted_by p (t.Signed unit) c (λ x. where_ (is_starting p c x) (bit x.op.op.signed)) (is_user p unit)
    (wanted_of p unit (t.Signed unit) c (λ x. where_ (is_starting p c x) (bit x.op.op.signed)) (record { address = λ a n. refl; stored = λ a n. refl; refused = λ a n. refl }) (λ k x.
    kept_one (same_unit unit (unit_at p k x)) (entry (t.Signed (unit_at p k x)) (λ c. where_ (is_starting p c x) (bit x.op.op.signed))) c))
    (all_ops p)

-- ---- who uses a unit, and how

-- the use by an operation of the plan
abbrev pub uses_by : Plan → Placed → List UnitUse
uses_by p x = uses_as x.op.op.kind x.op.op.bits (unit_of p x) x.op.op.signed

and_or : (a b : Bool) → ((a && b) || false) ≡ (a && b)
and_or true true = refl
and_or true false = refl
and_or false b = refl

signed_by : (p : Plan) (unit : SharedUnit) (x : Placed) → has_signed unit (uses_by p x) ≡ (is_user p unit x && x.op.op.signed)
signed_by p unit x = by (how_used p x x.op.op.kind) where
  by : IsApart p x x.op.op.kind ⊎ IsShared p x x.op.op.kind → has_signed unit (uses_by p x) ≡ (is_user p unit x && x.op.op.signed)
  by (inl a) =
      ap (has_signed unit) (a.uses x.op.op.bits (unit_of p x) x.op.op.signed)
      ∙ sym (ap (λ b. (b && (unit_of p x == unit.number)) && x.op.op.signed) (a.class unit.bits x.op.op.bits unit.kind))
  by (inr s) =
      ap (has_signed unit) (s.uses x.op.op.bits (unit_of p x) x.op.op.signed)
      ∙ (and_or (same_unit unit (unit_at p s.of x)) x.op.op.signed ∙ ap (λ b. b && x.op.op.signed) (same_user p unit x s))

pub signed_users : (p : Plan) (unit : SharedUnit) (xs : List Placed) → has_signed unit (flat_map (uses_by p) xs) ≡ list_any (λ (x : Placed). x.op.op.signed) (filter (is_user p unit) xs)
signed_users p unit [] = refl
signed_users p unit (x ∷ xs) =
    let f : UnitUse → Bool = λ (u : UnitUse). same_unit unit u.unit && u.signed in
    list_any-append f (uses_by p x) (flat_map (uses_by p) xs)
    ∙ (ap (λ b. b || has_signed unit (flat_map (uses_by p) xs)) (signed_by p unit x)
    ∙ (ap (λ b. (is_user p unit x && x.op.op.signed) || b) (signed_users p unit xs) ∙ joined (is_user p unit x))) where
      rest : List Placed
      rest = filter (is_user p unit) xs

      joined : (b : Bool) → ((b && x.op.op.signed) || list_any (λ (x : Placed). x.op.op.signed) rest) ≡ list_any (λ (x : Placed). x.op.op.signed) (if b then x ∷ rest else rest)
      joined true = refl
      joined false = refl

-- a division begins where some operation gives operands
pub dividing_is : (p : Plan) (c : Cycle) (bits n : ℕ) → is_any_wanted (argument_writes p c (u.Divider bits) n 0) ≡ is_dividing p c bits n
dividing_is p c bits n = any_wanted (users p (u.Divider bits) n) where
  any_wanted : (xs : List Placed) → is_any_wanted (map (argument_write p c 0) xs) ≡ list_any (is_starting p c) xs
  any_wanted [] = refl
  any_wanted (x ∷ xs) = ap (λ b. is_starting p c x || b) (any_wanted xs)
