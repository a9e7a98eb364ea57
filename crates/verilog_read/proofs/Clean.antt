-- What holds of a module that has no fault.
use Rattle.std.proofs.Common.{◌≡◌, ℕ, zero, suc, ◌+◌, ◌^◌, ◌<◌, ◌≤◌, true, false, ◌&&◌, eqb, ltb, leb, cond, List, [], ◌∷◌, ◌++◌, map, length, Option, Some, None, append_assoc, refl, sym, ap, ◌∙◌, subst, arith, inl, inr}
use Rattle.std.specs.Prelude.{bytes_eq, is_some}
use Rattle.std.proofs.lemmas.Bool.{false≢true, and_parts, cases_Bool, leb-true, eqb-true}
use Rattle.std.proofs.lemmas.List.{map-append}
use Rattle.std.proofs.lemmas.Option.{none-some, same_Some}
use Rattle.rtl_core.specs.Valid.{IsBetween, AreDistinct}
use Rattle.rtl_core.specs.ModuleTokens.{number_value}
use Rattle.rtl_core.specs.ModuleSyntax.{DeclaredMemory, DeclaredWire}
use Rattle.rtl_core.specs.ModuleText.{names_in, output_names, all_names, declared_name}
use Rattle.verilog_read.specs.declared.names.Sort.{Sort}
use Rattle.verilog_read.specs.declared.names.Sort.TheVariants as sort
use Rattle.verilog_read.specs.Numbers.{declared_bits, log_from, depth_of}
use Rattle.verilog_syntax.specs.PlacedSyntax.{PlacedName, PlacedDeclared, PlacedMemory, PlacedWire, PlacedModule}
use Rattle.verilog_read.specs.Scope.{Declaration, declared_from, memories_from, wires_from, pins, declarations, scope_of}
use Rattle.verilog_read.specs.Faults.{unless, allowed, declared_faults, no_scope, turn_faults, lacking_faults, header_faults, wire_faults, assign_faults, after_assigns, drive_faults, after_drives, never_faults, declared_names, memory_names, no_slots, undriven, port_addresses, module_faults}
use Rattle.verilog_read.proofs.NoFaults.{none_left, none_right, unless_true}
use Rattle.verilog_syntax.proofs.Unplaced.{declared_plain, memory_plain, wire_plain, name_plain, syntax_of}
use Rattle.verilog_read.proofs.Declared.{names_of, same_bytes, declared_apart}

pub record Clean (m : PlacedModule) : Type 0 where
  pub header : header_faults m.header (pins m) ≡ []
  pub declared : declared_faults no_scope (declarations m) ≡ []
  pub wires : wire_faults (scope_of m) (port_addresses (scope_of m) m.drives) 0 m.wires ≡ []
  pub assigns : assign_faults (scope_of m) (no_slots m.outputs) 0 m.assigns ≡ []
  pub drives : drive_faults (scope_of m) (undriven m) 0 m.drives ≡ []
  pub outputs : never_faults (after_assigns (scope_of m) (no_slots m.outputs) 0 m.assigns) 0 (declared_names m.outputs) ≡ []
  pub regs : never_faults (after_drives (scope_of m) (undriven m) 0 m.drives).regs 0 (declared_names m.regs) ≡ []
  pub mems : never_faults (after_drives (scope_of m) (undriven m) 0 m.drives).ports 0 (memory_names m.mems) ≡ []

pub clean : (m : PlacedModule) → module_faults m ≡ [] → Clean m
clean m h =
    let top = none_left (header_faults m.header (pins m) ++ declared_faults no_scope (declarations m)) _ h in
    let content = none_right (header_faults m.header (pins m) ++ declared_faults no_scope (declarations m)) _ h in
    let wires = wire_faults (scope_of m) (port_addresses (scope_of m) m.drives) 0 m.wires in
    let slots = none_right wires _ content in
    let assigns = assign_faults (scope_of m) (no_slots m.outputs) 0 m.assigns in
    let behind = none_right assigns _ slots in
    let drives = drive_faults (scope_of m) (undriven m) 0 m.drives in
    let never = none_right drives _ behind in
    let outputs = never_faults (after_assigns (scope_of m) (no_slots m.outputs) 0 m.assigns) 0 (declared_names m.outputs) in
    let later = none_right outputs _ never in
    let regs = never_faults (after_drives (scope_of m) (undriven m) 0 m.drives).regs 0 (declared_names m.regs) in
    record {
      header = none_left (header_faults m.header (pins m)) _ top;
      declared = none_right (header_faults m.header (pins m)) _ top;
      wires = none_left wires _ content;
      assigns = none_left assigns _ slots;
      drives = none_left drives _ behind;
      outputs = none_left outputs _ never;
      regs = none_left regs _ later;
      mems = none_right regs _ later;
    }

-- ---- names

declared_names_are : (s : Sort) (j : ℕ) (xs : List PlacedDeclared) → names_of (declared_from s j xs) ≡ map declared_name (map declared_plain xs)
declared_names_are s j [] = refl
declared_names_are s j (x ∷ xs) = ap (λ ns. x.name.text ∷ ns) (declared_names_are s (j + 1) xs)

memory_names_are : (j : ℕ) (xs : List PlacedMemory) → names_of (memories_from j xs) ≡ map (λ (x : DeclaredMemory). x.name) (map memory_plain xs)
memory_names_are j [] = refl
memory_names_are j (x ∷ xs) = ap (λ ns. x.name.text ∷ ns) (memory_names_are (j + 1) xs)

wire_names_are : (j : ℕ) (xs : List PlacedWire) → names_of (wires_from j xs) ≡ map (λ (x : DeclaredWire). x.name) (map wire_plain xs)
wire_names_are j [] = refl
wire_names_are j (x ∷ xs) = ap (λ ns. x.name.text ∷ ns) (wire_names_are (j + 1) xs)

names_append : (xs ys : List Declaration) (us vs : List (List ℕ)) → names_of xs ≡ us → names_of ys ≡ vs → names_of (xs ++ ys) ≡ us ++ vs
names_append xs ys us vs e f = map-append (λ (d : Declaration). d.name.text) xs ys ∙ (ap (λ z. z ++ names_of ys) e ∙ ap (λ z. us ++ z) f)

pub pin_names_are : (m : PlacedModule) → names_of (pins m) ≡ (names_in (syntax_of m)).inputs ++ output_names (syntax_of m)
pin_names_are m = names_append (declared_from sort.Input 0 m.inputs) (declared_from sort.Output 0 m.outputs) _ _ (declared_names_are sort.Input 0 m.inputs) (declared_names_are sort.Output 0 m.outputs)

pub all_names_are : (m : PlacedModule) → names_of (declarations m) ≡ all_names (syntax_of m)
all_names_are m =
    let s = syntax_of m in
    let n = names_in s in
    names_append (pins m) (declared_from sort.Register 0 m.regs ++ (memories_from 0 m.mems ++ wires_from 0 m.wires)) (n.inputs ++ output_names s) (n.regs ++ (n.mems ++ n.wires)) (pin_names_are m)
    (names_append (declared_from sort.Register 0 m.regs) (memories_from 0 m.mems ++ wires_from 0 m.wires) n.regs (n.mems ++ n.wires) (declared_names_are sort.Register 0 m.regs)
    (names_append (memories_from 0 m.mems) (wires_from 0 m.wires) n.mems n.wires (memory_names_are 0 m.mems) (wire_names_are 0 m.wires)))
    ∙ append_assoc n.inputs (output_names s) (n.regs ++ (n.mems ++ n.wires))

pub all_apart : (m : PlacedModule) → Clean m → AreDistinct (all_names (syntax_of m))
all_apart m c = subst AreDistinct (all_names_are m) (declared_apart m c.declared)

headers_equal : (xs : List PlacedName) (ds : List Declaration) → turn_faults xs ds ≡ [] → lacking_faults xs ds ≡ [] → map name_plain xs ≡ names_of ds
headers_equal [] [] t l = refl
headers_equal [] (d ∷ ds) t l = absurd (false≢true (unless_true false 52 d.name.place (none_left (unless false 52 d.name.place) _ l)))
headers_equal (x ∷ xs) [] t l = absurd (false≢true (unless_true false 52 x.place (none_left (unless false 52 x.place) _ t)))
headers_equal (x ∷ xs) (d ∷ ds) t l =
    let turn = unless_true (bytes_eq d.name.text x.text) 52 x.place (none_left (unless (bytes_eq d.name.text x.text) 52 x.place) _ t) in
    ap (λ n. n ∷ map name_plain xs) (sym (same_bytes d.name.text x.text turn))
    ∙ ap (λ ns. d.name.text ∷ ns) (headers_equal xs ds (none_right (unless (bytes_eq d.name.text x.text) 52 x.place) _ t) (none_right (unless (ltb 0 (length (x ∷ xs))) 52 d.name.place) _ l))

pub header_is : (m : PlacedModule) → Clean m → map name_plain m.header ≡ (names_in (syntax_of m)).inputs ++ output_names (syntax_of m)
header_is m c =
    headers_equal m.header (pins m) (none_left (turn_faults m.header (pins m)) _ c.header) (none_right (turn_faults m.header (pins m)) _ c.header) ∙ pin_names_are m

-- ---- widths and depths

pub width_exact : (high : List ℕ) → declared_bits high ≤ 128 → declared_bits high ≡ suc (number_value high)
width_exact high h = omega (arith, h)

between : (low high n : ℕ) → (leb low n && leb n high) ≡ true → IsBetween low high n
between low high n h = let p = and_parts (leb low n) (leb n high) h in (leb-true low n p.0, leb-true n high p.1)

pub pin_between : (s : Sort) (bits : ℕ) (depth : Option ℕ) → allowed s bits depth ≡ true → IsBetween 1 128 bits
pin_between sort.Input bits depth h = let b = between 1 64 bits h in (b.0, omega (arith, b.1))
pin_between sort.Output bits depth h = let b = between 1 64 bits h in (b.0, omega (arith, b.1))
pin_between sort.Register bits depth h = let b = between 1 64 bits h in (b.0, omega (arith, b.1))
pin_between sort.Memory bits depth h = let b = between 1 64 bits (and_parts (leb 1 bits && leb bits 64) (is_some depth) h).0 in (b.0, omega (arith, b.1))
pin_between sort.Wire bits depth h = between 1 128 bits h

pub input_between : (bits : ℕ) (depth : Option ℕ) → allowed sort.Input bits depth ≡ true → IsBetween 1 64 bits
input_between bits depth h = between 1 64 bits h

pub output_between : (bits : ℕ) (depth : Option ℕ) → allowed sort.Output bits depth ≡ true → IsBetween 1 64 bits
output_between bits depth h = between 1 64 bits h

pub register_between : (bits : ℕ) (depth : Option ℕ) → allowed sort.Register bits depth ≡ true → IsBetween 1 64 bits
register_between bits depth h = between 1 64 bits h

log_is : (n k depth r : ℕ) → log_from n k depth ≡ Some r → (depth ≡ 2 ^ r) × (k ≤ r) × (r < k + n)
log_is zero k depth r h = absurd (none-some r h)
log_is (suc n) k depth r h =
    elim (cases_Bool (eqb depth (2 ^ k))) [
      | inl t ↦
          let same : k ≡ r = same_Some k r (sym (ap (λ b. cond b (Some k) (log_from n (k + 1) depth)) t) ∙ h) in
          (eqb-true depth (2 ^ k) t ∙ ap (λ x. 2 ^ x) same, omega (arith, same), omega (arith, same))
      | inr f ↦
          let r2 = log_is n (k + 1) depth r (sym (ap (λ b. cond b (Some k) (log_from n (k + 1) depth)) f) ∙ h) in (r2.0, omega (arith, r2.1), omega (arith, r2.2))
    ]

-- a memory's width, and the logarithm of its depth
pub record MemoryAllowed (x : PlacedMemory) : Type 0 where
  pub bits : IsBetween 1 64 (declared_bits x.high)
  pub log : ℕ
  pub is : depth_of x.last ≡ Some log
  pub words : suc (number_value x.last) ≡ 2 ^ log
  pub between : IsBetween 1 16 log

some_log : (o : Option ℕ) → is_some o ≡ true → (k : ℕ) × (o ≡ Some k)
some_log None h = absurd (false≢true h)
some_log (Some k) h = (k, refl)

pub memory_is_allowed : (x : PlacedMemory) → allowed sort.Memory (declared_bits x.high) (depth_of x.last) ≡ true → MemoryAllowed x
memory_is_allowed x h =
    let p = and_parts (leb 1 (declared_bits x.high) && leb (declared_bits x.high) 64) (is_some (depth_of x.last)) h in
    let k = some_log (depth_of x.last) p.1 in
    let l = log_is 16 1 (suc (number_value x.last)) k.0 k.1 in
    record { bits = between 1 64 (declared_bits x.high) p.0; log = k.0; is = k.1; words = l.0; between = (l.1, omega (arith, l.2)) }
