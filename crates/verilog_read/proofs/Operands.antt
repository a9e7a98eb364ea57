-- What an operand means whose name is known, and its width.
use Rattle.std.proofs.Common.{◌≡◌, ℕ, ◌-◌, ◌^◌, ◌<◌, ◌≤◌, Bool, true, false, ◌&&◌, eqb, ltb, List, map, min, length, Option, Some, None, cond, [], refl, sym, ap, ◌∙◌, subst, arith}
use Rattle.std.specs.Prelude.{slice_get, is_some}
use Rattle.std.specs.Option.{option_map, option_map_or, option_and_then}
use Rattle.std.proofs.Math.Pow.{pow_mono}
use Rattle.std.proofs.lemmas.Bool.{false≢true, and_parts, ltb-true, lt-ltb, eqb-true}
use Rattle.std.proofs.lemmas.Option.{none-some, same_Some, slice_get_within}
use Rattle.rtl_core.specs.declared.design.Atom.{Atom}
use Rattle.rtl_core.specs.declared.design.Atom.TheVariants as atom
use Rattle.rtl_core.specs.ClockStep.{Widths}
use Rattle.rtl_core.specs.Valid.{IsBetween, HasBits}
use Rattle.rtl_core.specs.ModuleSyntax.{Operand, Named, Fixed, DeclaredMemory, DeclaredWire}
use Rattle.rtl_core.specs.ModuleText.{Names, names_in, declared_name, OperandMeans}
use Rattle.verilog_read.specs.declared.names.Sort.{Sort}
use Rattle.verilog_read.specs.declared.names.Sort.TheVariants as sort
use Rattle.verilog_read.specs.declared.names.Entry.{Entry}
use Rattle.verilog_read.specs.declared.names.Meaning.{Meaning}
use Rattle.verilog_read.specs.Numbers.{declared_bits, depth_of}
use Rattle.verilog_syntax.specs.PlacedSyntax.{PlacedOperand, PlacedDeclared, PlacedMemory, PlacedWire, PlacedModule}
use Rattle.verilog_read.specs.Scope.{scope_of, same_sort, of_sort, find_sort, atom_of, entry_meaning, named, meaning, atom_in}
use Rattle.verilog_read.specs.Faults.{is_in_range, may_have, known_faults, atom_before, is_before, source_faults, bits_faults}
use Rattle.verilog_syntax.proofs.Places.{get_map}
use Rattle.verilog_read.proofs.NoFaults.{none_left, none_right, unless_true}
use Rattle.verilog_syntax.proofs.Unplaced.{declared_plain, memory_plain, wire_plain, syntax_of}
use Rattle.verilog_read.proofs.Declared.{Stands, an_input, an_output, a_register, a_memory, a_wire, entry_stands}

-- ---- options

pub some_of : {A : Type 0} (o : Option A) → is_some o ≡ true → (x : A) × (o ≡ Some x)
some_of None h = absurd (false≢true h)
some_of (Some x) h = (x, refl)

pub then_some : {A B : Type 0} (f : A → Option B) (o : Option A) (y : B) → option_and_then f o ≡ Some y → (x : A) × (o ≡ Some x) × (f x ≡ Some y)
then_some f None y h = absurd (none-some y h)
then_some f (Some x) y h = (x, refl, h)

-- ---- entries of one sort

sorted : (w : Sort) (e : Entry) (b : Bool) (f : Entry) → same_sort e.sort w ≡ b → of_sort w e ≡ Some f → (same_sort e.sort w ≡ true) × (e ≡ f)
sorted w e true f s h = (s, same_Some e f (sym (ap (λ t. cond t (Some e) None) s) ∙ h))
sorted w e false f s h = absurd (none-some f (sym (ap (λ t. cond t (Some e) None) s) ∙ h))

pub found_sort : (m : PlacedModule) (name : List ℕ) (w : Sort) (e : Entry) → find_sort (scope_of m) name w ≡ Some e → Stands m name e × (same_sort e.sort w ≡ true)
found_sort m name w e h =
    let r = then_some (of_sort w) (scope_of m name) e h in
    let s = sorted w r.0 (same_sort r.0.sort w) e refl r.2 in
    (entry_stands m name e (r.1 ∙ ap Some s.1), subst (λ (x : Entry). same_sort x.sort w ≡ true) s.1 s.0)

wrong_sort : (s t w : Sort) → same_sort s w ≡ true → s ≡ t → same_sort t w ≡ false → ⊥
wrong_sort s t w h e f = false≢true (sym f ∙ (ap (λ x. same_sort x w) (sym e) ∙ h))

pub record IsDeclared (xs : List PlacedDeclared) (name : List ℕ) (e : Entry) : Type 0 where
  pub x : PlacedDeclared
  pub found : slice_get xs e.number ≡ Some x
  pub named : x.name.text ≡ name
  pub bits : e.bits ≡ declared_bits x.high

pub record IsMemory (xs : List PlacedMemory) (name : List ℕ) (e : Entry) : Type 0 where
  pub x : PlacedMemory
  pub found : slice_get xs e.number ≡ Some x
  pub named : x.name.text ≡ name
  pub bits : e.bits ≡ declared_bits x.high
  pub depth : e.depth ≡ depth_of x.last

as_output : (m : PlacedModule) (name : List ℕ) (e : Entry) → Stands m name e → same_sort e.sort sort.Output ≡ true → IsDeclared m.outputs name e
as_output m name e (an_output x found named s bits depth) h = record { x = x; found = found; named = named; bits = bits }
as_output m name e (an_input x found named s bits depth) h = absurd (wrong_sort e.sort sort.Input sort.Output h s refl)
as_output m name e (a_register x found named s bits depth) h = absurd (wrong_sort e.sort sort.Register sort.Output h s refl)
as_output m name e (a_memory x found named s bits depth) h = absurd (wrong_sort e.sort sort.Memory sort.Output h s refl)
as_output m name e (a_wire x found named s bits depth) h = absurd (wrong_sort e.sort sort.Wire sort.Output h s refl)

as_register : (m : PlacedModule) (name : List ℕ) (e : Entry) → Stands m name e → same_sort e.sort sort.Register ≡ true → IsDeclared m.regs name e
as_register m name e (a_register x found named s bits depth) h = record { x = x; found = found; named = named; bits = bits }
as_register m name e (an_input x found named s bits depth) h = absurd (wrong_sort e.sort sort.Input sort.Register h s refl)
as_register m name e (an_output x found named s bits depth) h = absurd (wrong_sort e.sort sort.Output sort.Register h s refl)
as_register m name e (a_memory x found named s bits depth) h = absurd (wrong_sort e.sort sort.Memory sort.Register h s refl)
as_register m name e (a_wire x found named s bits depth) h = absurd (wrong_sort e.sort sort.Wire sort.Register h s refl)

as_memory : (m : PlacedModule) (name : List ℕ) (e : Entry) → Stands m name e → same_sort e.sort sort.Memory ≡ true → IsMemory m.mems name e
as_memory m name e (a_memory x found named s bits depth) h = record { x = x; found = found; named = named; bits = bits; depth = depth }
as_memory m name e (an_input x found named s bits depth) h = absurd (wrong_sort e.sort sort.Input sort.Memory h s refl)
as_memory m name e (an_output x found named s bits depth) h = absurd (wrong_sort e.sort sort.Output sort.Memory h s refl)
as_memory m name e (a_register x found named s bits depth) h = absurd (wrong_sort e.sort sort.Register sort.Memory h s refl)
as_memory m name e (a_wire x found named s bits depth) h = absurd (wrong_sort e.sort sort.Wire sort.Memory h s refl)

pub found_output : (m : PlacedModule) (name : List ℕ) (e : Entry) → find_sort (scope_of m) name sort.Output ≡ Some e → IsDeclared m.outputs name e
found_output m name e h = let r = found_sort m name sort.Output e h in as_output m name e r.0 r.1

pub found_register : (m : PlacedModule) (name : List ℕ) (e : Entry) → find_sort (scope_of m) name sort.Register ≡ Some e → IsDeclared m.regs name e
found_register m name e h = let r = found_sort m name sort.Register e h in as_register m name e r.0 r.1

pub found_memory : (m : PlacedModule) (name : List ℕ) (e : Entry) → find_sort (scope_of m) name sort.Memory ≡ Some e → IsMemory m.mems name e
found_memory m name e h = let r = found_sort m name sort.Memory e h in as_memory m name e r.0 r.1

-- ---- values of names

pub data Value (m : PlacedModule) (name : List ℕ) (v : Meaning) : Type 0 where
  of_input : (k : ℕ) (x : PlacedDeclared) → slice_get m.inputs k ≡ Some x → x.name.text ≡ name → v ≡ record { atom = atom.Input k; bits = declared_bits x.high } → Value m name v
  of_register : (k : ℕ) (x : PlacedDeclared) → slice_get m.regs k ≡ Some x → x.name.text ≡ name → v ≡ record { atom = atom.Reg k; bits = declared_bits x.high } → Value m name v
  of_wire : (k : ℕ) (x : PlacedWire) → slice_get m.wires k ≡ Some x → x.name.text ≡ name → v ≡ record { atom = atom.Wire k; bits = declared_bits x.high } → Value m name v

abbrev with_bits : ℕ → Atom → Meaning
with_bits bits a = record { atom = a; bits = bits }

-- the value of an entry of this sort
by_sort : (e : Entry) (s : Sort) (v : Meaning) → e.sort ≡ s → entry_meaning e ≡ Some v → option_map (with_bits e.bits) (atom_of s e.number) ≡ Some v
by_sort e s v same h = ap (λ t. option_map (with_bits e.bits) (atom_of t e.number)) (sym same) ∙ h

of_atom : (a : Atom) (bits wide : ℕ) (v : Meaning) → Some (with_bits bits a) ≡ Some v → bits ≡ wide → v ≡ with_bits wide a
of_atom a bits wide v h e = sym (same_Some (with_bits bits a) v h) ∙ ap (λ b. with_bits b a) e

entry_value : (m : PlacedModule) (name : List ℕ) (e : Entry) (v : Meaning) → Stands m name e → entry_meaning e ≡ Some v → Value m name v
entry_value m name e v (an_input x found named s bits depth) h = of_input e.number x found named (of_atom (atom.Input e.number) e.bits (declared_bits x.high) v (by_sort e sort.Input v s h) bits)
entry_value m name e v (a_register x found named s bits depth) h = of_register e.number x found named (of_atom (atom.Reg e.number) e.bits (declared_bits x.high) v (by_sort e sort.Register v s h) bits)
entry_value m name e v (a_wire x found named s bits depth) h = of_wire e.number x found named (of_atom (atom.Wire e.number) e.bits (declared_bits x.high) v (by_sort e sort.Wire v s h) bits)
entry_value m name e v (an_output x found named s bits depth) h = absurd (none-some v (by_sort e sort.Output v s h))
entry_value m name e v (a_memory x found named s bits depth) h = absurd (none-some v (by_sort e sort.Memory v s h))

pub named_value : (m : PlacedModule) (name : List ℕ) (v : Meaning) → named (scope_of m) name ≡ Some v → Value m name v
named_value m name v h =
    let r = then_some entry_meaning (scope_of m name) v h in entry_value m name r.0 v (entry_stands m name r.0 r.1) r.2

-- the names of what a module says
abbrev pub names_here : PlacedModule → Names
names_here m = names_in (syntax_of m)

pub input_name : (m : PlacedModule) (k : ℕ) (x : PlacedDeclared) → slice_get m.inputs k ≡ Some x → slice_get (names_here m).inputs k ≡ Some x.name.text
input_name m k x e = get_map declared_name (map declared_plain m.inputs) k (declared_plain x) (get_map declared_plain m.inputs k x e)

pub register_name : (m : PlacedModule) (k : ℕ) (x : PlacedDeclared) → slice_get m.regs k ≡ Some x → slice_get (names_here m).regs k ≡ Some x.name.text
register_name m k x e = get_map declared_name (map declared_plain m.regs) k (declared_plain x) (get_map declared_plain m.regs k x e)

pub wire_name : (m : PlacedModule) (k : ℕ) (x : PlacedWire) → slice_get m.wires k ≡ Some x → slice_get (names_here m).wires k ≡ Some x.name.text
wire_name m k x e = get_map (λ (y : DeclaredWire). y.name) (map wire_plain m.wires) k (wire_plain x) (get_map wire_plain m.wires k x e)

pub memory_name : (m : PlacedModule) (k : ℕ) (x : PlacedMemory) → slice_get m.mems k ≡ Some x → slice_get (names_here m).mems k ≡ Some x.name.text
memory_name m k x e = get_map (λ (y : DeclaredMemory). y.name) (map memory_plain m.mems) k (memory_plain x) (get_map memory_plain m.mems k x e)

pub value_means : (m : PlacedModule) (name : List ℕ) (v : Meaning) → Value m name v → OperandMeans (names_here m) (Named name) v.atom
value_means m name v (of_input k x found named e) =
    subst (λ (u : Meaning). OperandMeans (names_here m) (Named name) u.atom) (sym e) (input_name m k x found ∙ ap Some named)
value_means m name v (of_register k x found named e) =
    subst (λ (u : Meaning). OperandMeans (names_here m) (Named name) u.atom) (sym e) (register_name m k x found ∙ ap Some named)
value_means m name v (of_wire k x found named e) =
    subst (λ (u : Meaning). OperandMeans (names_here m) (Named name) u.atom) (sym e) (wire_name m k x found ∙ ap Some named)

-- ---- widths of names

-- the widths of the inputs, the registers and the first j wires
pub record Wide (m : PlacedModule) (j : ℕ) (w : Widths) : Type 0 where
  pub inputs : (k : ℕ) (x : PlacedDeclared) → slice_get m.inputs k ≡ Some x → slice_get w.inputs k ≡ Some (declared_bits x.high)
  pub regs : (k : ℕ) (x : PlacedDeclared) → slice_get m.regs k ≡ Some x → slice_get w.regs k ≡ Some (declared_bits x.high)
  pub wires : (k : ℕ) (x : PlacedWire) → k < j → slice_get m.wires k ≡ Some x → slice_get w.wires k ≡ Some (declared_bits x.high)

pub value_bits : (m : PlacedModule) (name : List ℕ) (v : Meaning) (j : ℕ) (w : Widths) → Value m name v → atom_before j v.atom ≡ true → Wide m j w → HasBits w v.bits v.atom
value_bits m name v j w (of_input k x found named e) before wide = subst (λ (u : Meaning). HasBits w u.bits u.atom) (sym e) (wide.inputs k x found)
value_bits m name v j w (of_register k x found named e) before wide = subst (λ (u : Meaning). HasBits w u.bits u.atom) (sym e) (wide.regs k x found)
value_bits m name v j w (of_wire k x found named e) before wide =
    let low : k < j = ltb-true k j (subst (λ (u : Meaning). atom_before j u.atom ≡ true) e before) in
    subst (λ (u : Meaning). HasBits w u.bits u.atom) (sym e) (wide.wires k x low found)

pub value_before : (m : PlacedModule) (name : List ℕ) (v : Meaning) → Value m name v → atom_before (length m.wires) v.atom ≡ true
value_before m name v (of_input k x found named e) = subst (λ (u : Meaning). atom_before (length m.wires) u.atom ≡ true) (sym e) refl
value_before m name v (of_register k x found named e) = subst (λ (u : Meaning). atom_before (length m.wires) u.atom ≡ true) (sym e) refl
value_before m name v (of_wire k x found named e) =
    subst (λ (u : Meaning). atom_before (length m.wires) u.atom ≡ true) (sym e) (lt-ltb k (length m.wires) (slice_get_within m.wires k x found))

-- ---- operands

-- a constant has 1 to 128 bits
abbrev pub Sized : Operand → Type 0
Sized (Named name) = Unit {0}
Sized (Fixed bits value) = IsBetween 1 128 bits

-- the operand has a value of so many bits, which stands before so many wires
pub record Fits (m : PlacedModule) (x : Operand) (j n : ℕ) : Type 0 where
  pub value : Meaning
  pub is : meaning (scope_of m) x ≡ Some value
  pub bits : value.bits ≡ n
  pub range : is_in_range x ≡ true
  pub before : atom_before j value.atom ≡ true
  pub sized : Sized x

small : (v t : ℕ) → v < t → min v (t - 1) ≡ v
small v t h = omega arith

within_bits : (bits value : ℕ) → IsBetween 1 128 bits → ltb value (2 ^ min bits 128) ≡ true → (value < 2 ^ bits) × (min value (2 ^ 128 - 1) ≡ value)
within_bits bits value between h =
    let same : min bits 128 ≡ bits = omega (arith, between.1) in
    let low : value < 2 ^ bits = subst (λ b. value < 2 ^ b) same (ltb-true value (2 ^ min bits 128) h) in
    let grows : 2 ^ bits ≤ 2 ^ 128 = pow_mono {i = bits} {j = 128} between.1 in
    (low, small value (2 ^ 128) (omega (arith, low, grows)))

fixed_value : (m : PlacedModule) (bits value : ℕ) (v : Meaning) → meaning (scope_of m) (Fixed bits value) ≡ Some v → is_in_range (Fixed bits value) ≡ true → IsBetween 1 128 bits → v ≡ with_bits bits (atom.Constant bits value)
fixed_value m bits value v h range between =
    sym (same_Some (with_bits bits (atom.Constant bits (min value (2 ^ 128 - 1)))) v h) ∙ ap (λ n. with_bits bits (atom.Constant bits n)) (within_bits bits value between range).1

operand_means : (m : PlacedModule) (x : Operand) (v : Meaning) → meaning (scope_of m) x ≡ Some v → is_in_range x ≡ true → Sized x → OperandMeans (names_here m) x v.atom
operand_means m (Named name) v h range sized = value_means m name v (named_value m name v h)
operand_means m (Fixed bits value) v h range sized = ap (λ (u : Meaning). u.atom) (fixed_value m bits value v h range sized)

operand_bits : (m : PlacedModule) (x : Operand) (v : Meaning) (j : ℕ) (w : Widths) → meaning (scope_of m) x ≡ Some v → is_in_range x ≡ true → Sized x → atom_before j v.atom ≡ true → Wide m j w → HasBits w v.bits v.atom
operand_bits m (Named name) v j w h range sized before wide = value_bits m name v j w (named_value m name v h) before wide
operand_bits m (Fixed bits value) v j w h range sized before wide =
    subst (λ (u : Meaning). HasBits w u.bits u.atom) (sym (fixed_value m bits value v h range sized)) (refl, sized, (within_bits bits value sized range).0)

operand_before : (m : PlacedModule) (x : Operand) (v : Meaning) → meaning (scope_of m) x ≡ Some v → atom_before (length m.wires) v.atom ≡ true
operand_before m (Named name) v h = value_before m name v (named_value m name v h)
operand_before m (Fixed bits value) v h = subst (λ (u : Meaning). atom_before (length m.wires) u.atom ≡ true) (same_Some (with_bits bits (atom.Constant bits (min value (2 ^ 128 - 1)))) v h) refl

pub atom_is : (m : PlacedModule) (x : Operand) (v : Meaning) → meaning (scope_of m) x ≡ Some v → atom_in (scope_of m) x ≡ v.atom
atom_is m x v h = ap (λ o. option_map_or (λ (u : Meaning). u.atom) o (atom.Constant 1 0)) h

pub fits_means : (m : PlacedModule) (x : Operand) (j n : ℕ) → Fits m x j n → OperandMeans (names_here m) x (atom_in (scope_of m) x)
fits_means m x j n f = subst (OperandMeans (names_here m) x) (sym (atom_is m x f.value f.is)) (operand_means m x f.value f.is f.range f.sized)

pub fits_bits : (m : PlacedModule) (x : Operand) (j n : ℕ) (w : Widths) → Fits m x j n → Wide m j w → HasBits w n (atom_in (scope_of m) x)
fits_bits m x j n w f wide =
    subst (λ b. HasBits w b (atom_in (scope_of m) x)) f.bits (subst (HasBits w f.value.bits) (sym (atom_is m x f.value f.is)) (operand_bits m x f.value j w f.is f.range f.sized f.before wide))

-- ---- operands without a fault

pub known_value : (m : PlacedModule) (x : PlacedOperand) → known_faults (scope_of m) x ≡ [] → (v : Meaning) × (meaning (scope_of m) x.operand ≡ Some v)
known_value m x h = some_of (meaning (scope_of m) x.operand) (unless_true (is_some (meaning (scope_of m) x.operand)) 52 x.place h)

-- the answer of a test of a value that is there
pub at_value : {A : Type 0} (test : A → Bool) (o : Option A) (v : A) → o ≡ Some v → option_map_or test o true ≡ true → test v ≡ true
at_value test o v e h = sym (ap (λ p. option_map_or test p true) e) ∙ h

pub width_is : (m : PlacedModule) (x : Operand) (v : Meaning) (n : ℕ) → meaning (scope_of m) x ≡ Some v → may_have (scope_of m) x n ≡ true → (v.bits ≡ n) × (is_in_range x ≡ true)
width_is m x v n e h =
    let p = and_parts (eqb v.bits n) (is_in_range x) (at_value (λ (u : Meaning). eqb u.bits n && is_in_range x) (meaning (scope_of m) x) v e h) in (eqb-true v.bits n p.0, p.1)

-- an operand of a net, of its own width
pub source_own : (m : PlacedModule) (x : PlacedOperand) (j : ℕ) → source_faults (scope_of m) j x ≡ [] → is_in_range x.operand ≡ true → Sized x.operand → (n : ℕ) × Fits m x.operand j n
source_own m x j h range sized =
    let k = known_value m x (none_left (known_faults (scope_of m) x) _ h) in
    let b = unless_true (is_before (scope_of m) x.operand j) 55 x.place (none_right (known_faults (scope_of m) x) _ h) in
    (k.0.bits, record { value = k.0; is = k.1; bits = refl; range = range; before = at_value (λ (u : Meaning). atom_before j u.atom) (meaning (scope_of m) x.operand) k.0 k.1 b; sized = sized })

-- an operand of a net, of a width that is asked for
pub source_fits : (m : PlacedModule) (x : PlacedOperand) (j n : ℕ) → source_faults (scope_of m) j x ≡ [] → may_have (scope_of m) x.operand n ≡ true → Sized x.operand → Fits m x.operand j n
source_fits m x j n h may sized =
    let k = known_value m x (none_left (known_faults (scope_of m) x) _ h) in
    let w = width_is m x.operand k.0 n k.1 may in
    let b = unless_true (is_before (scope_of m) x.operand j) 55 x.place (none_right (known_faults (scope_of m) x) _ h) in
    record { value = k.0; is = k.1; bits = w.0; range = w.1; before = at_value (λ (u : Meaning). atom_before j u.atom) (meaning (scope_of m) x.operand) k.0 k.1 b; sized = sized }

-- any other operand
pub known_fits : (m : PlacedModule) (x : PlacedOperand) (n : ℕ) → known_faults (scope_of m) x ≡ [] → may_have (scope_of m) x.operand n ≡ true → Sized x.operand → Fits m x.operand (length m.wires) n
known_fits m x n h may sized =
    let k = known_value m x h in
    let w = width_is m x.operand k.0 n k.1 may in
    record { value = k.0; is = k.1; bits = w.0; range = w.1; before = operand_before m x.operand k.0 k.1; sized = sized }

pub bits_fits : (m : PlacedModule) (x : PlacedOperand) (n : ℕ) → bits_faults (scope_of m) x n ≡ [] → Sized x.operand → Fits m x.operand (length m.wires) n
bits_fits m x n h sized =
    known_fits m x n (none_left (known_faults (scope_of m) x) _ h) (unless_true (may_have (scope_of m) x.operand n) 53 x.place (none_right (known_faults (scope_of m) x) _ h)) sized
