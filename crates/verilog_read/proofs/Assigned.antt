-- Assignments and edges without a fault.
use Rattle.std.proofs.Common.{◌≡◌, ◌⊎◌, inl, inr, ℕ, zero, suc, ◌+◌, ◌<◌, Bool, true, false, ◌||◌, not, List, [], ◌∷◌, ◌++◌, length, map, drop, Option, Some, None, refl, sym, ap, subst, arith}
use Rattle.std.specs.Prelude.{slice_get, is_some, bytes_eq}
use Rattle.std.proofs.lemmas.Bool.{false≢true, and_parts}
use Rattle.std.proofs.lemmas.Option.{none-some, same_Some}
use Rattle.verilog_read.specs.declared.names.Entry.{Entry}
use Rattle.verilog_syntax.specs.PlacedSyntax.{PlacedName, PlacedOperand, PlacedAssign, PlacedWrite, Drive, register, first, further}
use Rattle.verilog_read.specs.Scope.{Scope}
use Rattle.verilog_syntax.specs.Marks.{opens, goes_on, in_blocks}
use Rattle.verilog_read.specs.Faults.{Slots, slot, is_free, filled_by, unless, known_faults, bits_faults, may_have, target_faults, output_of, assign_faults, Driven, memory_of, register_of, write_faults, begin_faults, drive_faults_one, after_drive, drive_faults, never_faults}
use Rattle.verilog_read.specs.Circuit.{port_of, further_ports}
use Rattle.verilog_read.proofs.NoFaults.{none_left, none_right, unless_true}
use Rattle.verilog_read.proofs.Declared.{same_bytes}
use Rattle.verilog_read.proofs.Slots.{IsFree, AreFree, register_target, block_target}

-- ---- targets

pub record TargetFits (scope : Scope) (slots : Slots) (x : PlacedOperand) (o : Option Entry) : Type 0 where
  pub entry : Entry
  pub is : o ≡ Some entry
  pub may : may_have scope x.operand entry.bits ≡ true
  pub free : IsFree slots o

pub target_fits : (scope : Scope) (slots : Slots) (name : PlacedName) (x : PlacedOperand) (o : Option Entry) → target_faults scope slots name x o ≡ [] → TargetFits scope slots x o
target_fits scope slots name x None h = absurd (false≢true (unless_true false 52 name.place h))
target_fits scope slots name x (Some e) h = record {
  entry = e;
  is = refl;
  may = unless_true (may_have scope x.operand e.bits) 53 x.place (none_left (unless (may_have scope x.operand e.bits) 53 x.place) _ h);
  free = unless_true (is_free slots e.number) 54 name.place (none_right (unless (may_have scope x.operand e.bits) 53 x.place) _ h);
}

-- an assignment that has its output
pub record AssignFits (scope : Scope) (x : PlacedAssign) : Type 0 where
  pub entry : Entry
  pub is : output_of scope x ≡ Some entry
  pub may : may_have scope x.from.operand entry.bits ≡ true
  pub known : known_faults scope x.from ≡ []

assign_one : (scope : Scope) (slots : Slots) (x : PlacedAssign) → known_faults scope x.from ++ target_faults scope slots x.name x.from (output_of scope x) ≡ [] → AssignFits scope x × IsFree slots (output_of scope x)
assign_one scope slots x h =
    let t = target_fits scope slots x.name x.from (output_of scope x) (none_right (known_faults scope x.from) _ h) in
    (record { entry = t.entry; is = t.is; may = t.may; known = none_left (known_faults scope x.from) _ h }, t.free)

pub assigns_fit : (scope : Scope) (slots : Slots) (i : ℕ) (xs : List PlacedAssign) → assign_faults scope slots i xs ≡ []
    → ((j : ℕ) (x : PlacedAssign) → slice_get xs j ≡ Some x → AssignFits scope x) × AreFree slots i (map (output_of scope) xs)
assigns_fit scope slots i [] h = (λ j x e. absurd (none-some x e), tt)
assigns_fit scope slots i (y ∷ ys) h =
    let faults = known_faults scope y.from ++ target_faults scope slots y.name y.from (output_of scope y) in
    let one = assign_one scope slots y (none_left faults _ h) in
    let rest = assigns_fit scope (filled_by slots (output_of scope y) i) (i + 1) ys (none_right faults _ h) in
    (by_place one.0 rest.0, (one.1, rest.1))
  where
    by_place : AssignFits scope y → ((j : ℕ) (x : PlacedAssign) → slice_get ys j ≡ Some x → AssignFits scope x) → (j : ℕ) (x : PlacedAssign) → slice_get (y ∷ ys) j ≡ Some x → AssignFits scope x
    by_place one rest zero x e = subst (AssignFits scope) (same_Some y x e) one
    by_place one rest (suc j) x e = rest j x e

-- ---- edges

-- each edge has no fault, where it stands behind some others
pub drives_fit : (scope : Scope) (s : Driven) (i : ℕ) (ds : List Drive) → drive_faults scope s i ds ≡ [] → (j : ℕ) (d : Drive) → slice_get ds j ≡ Some d
    → (t : Driven) × (k : ℕ) × (drive_faults_one scope t d ≡ []) × (drive_faults scope (after_drive scope t k d) (k + 1) (drop (suc j) ds) ≡ [])
drives_fit scope s i [] h j d e = absurd (none-some d e)
drives_fit scope s i (x ∷ xs) h zero d e =
    let same : x ≡ d = same_Some x d e in (
      s,
      i,
      subst (λ y. drive_faults_one scope s y ≡ []) same (none_left (drive_faults_one scope s x) _ h),
      subst (λ y. drive_faults scope (after_drive scope s i y) (i + 1) xs ≡ []) same (none_right (drive_faults_one scope s x) _ h),
    )
drives_fit scope s i (x ∷ xs) h (suc j) d e = drives_fit scope (after_drive scope s i x) (i + 1) xs (none_right (drive_faults_one scope s x) _ h) j d e

register_free : (scope : Scope) (s : Driven) (d : Drive) → drive_faults_one scope s d ≡ [] → IsFree s.regs (register_target scope d)
register_free scope s (register enable name next) h =
    (target_fits scope s.regs name next (register_of scope name) (none_right (known_faults scope next) _ (none_right (bits_faults scope enable 1) _ h))).free
register_free scope s (first x) h = tt
register_free scope s (further x) h = tt

begin_free : (blocks : Slots) (name : PlacedName) (o : Option Entry) → begin_faults blocks name o ≡ [] → IsFree blocks o
begin_free blocks name None h = tt
begin_free blocks name (Some e) h = unless_true (is_free blocks e.number) 54 name.place h

block_free : (scope : Scope) (s : Driven) (d : Drive) → drive_faults_one scope s d ≡ [] → IsFree s.blocks (block_target scope d)
block_free scope s (register enable name next) h = tt
block_free scope s (first x) h = begin_free s.blocks x.memory (memory_of scope x.memory) (none_right (write_faults scope x) _ h)
block_free scope s (further x) h = tt

regs_same : (scope : Scope) (s : Driven) (i : ℕ) (d : Drive) → filled_by s.regs (register_target scope d) i ≡ (after_drive scope s i d).regs
regs_same scope s i (register enable name next) = refl
regs_same scope s i (first x) = refl
regs_same scope s i (further x) = refl

blocks_same : (scope : Scope) (s : Driven) (i : ℕ) (d : Drive) → filled_by s.blocks (block_target scope d) i ≡ (after_drive scope s i d).blocks
blocks_same scope s i (register enable name next) = refl
blocks_same scope s i (first x) = refl
blocks_same scope s i (further x) = refl

pub registers_free : (scope : Scope) (s : Driven) (i : ℕ) (ds : List Drive) → drive_faults scope s i ds ≡ [] → AreFree s.regs i (map (register_target scope) ds)
registers_free scope s i [] h = tt
registers_free scope s i (d ∷ ds) h = (
  register_free scope s d (none_left (drive_faults_one scope s d) _ h),
  subst (λ x. AreFree x (i + 1) (map (register_target scope) ds)) (sym (regs_same scope s i d)) (registers_free scope (after_drive scope s i d) (i + 1) ds (none_right (drive_faults_one scope s d) _ h)),
)

pub blocks_free : (scope : Scope) (s : Driven) (i : ℕ) (ds : List Drive) → drive_faults scope s i ds ≡ [] → AreFree s.blocks i (map (block_target scope) ds)
blocks_free scope s i [] h = tt
blocks_free scope s i (d ∷ ds) h = (
  block_free scope s d (none_left (drive_faults_one scope s d) _ h),
  subst (λ x. AreFree x (i + 1) (map (block_target scope) ds)) (sym (blocks_same scope s i d)) (blocks_free scope (after_drive scope s i d) (i + 1) ds (none_right (drive_faults_one scope s d) _ h)),
)

-- ---- further ports

-- the block that a further port goes on with
pub record Leads (scope : Scope) (ds : List Drive) (x : PlacedWrite) : Type 0 where
  pub place : ℕ
  pub write : PlacedWrite
  pub at : slice_get ds place ≡ Some (first write)
  pub same : x.memory.text ≡ write.memory.text
  pub port : ℕ
  pub found : slice_get (further_ports scope (drop (suc place) ds)) port ≡ Some (port_of scope x)

-- it goes on with the block that is open before
record GoesOn (scope : Scope) (is_open : Bool) (block : List ℕ) (ds : List Drive) (x : PlacedWrite) : Type 0 where
  opened : is_open ≡ true
  same : x.memory.text ≡ block
  port : ℕ
  found : slice_get (further_ports scope ds) port ≡ Some (port_of scope x)

pub further_same : (scope : Scope) (s : Driven) (x : PlacedWrite) → drive_faults_one scope s (further x) ≡ [] → x.memory.text ≡ s.block
further_same scope s x h = same_bytes x.memory.text s.block (unless_true (bytes_eq x.memory.text s.block) 54 x.memory.place (none_right (write_faults scope x) _ h))

open_true : (b : Bool) → (b || false) ≡ true → b ≡ true
open_true true h = refl
open_true false h = absurd (false≢true h)

later_leads : (scope : Scope) (d : Drive) (ds : List Drive) (x : PlacedWrite) → Leads scope ds x → Leads scope (d ∷ ds) x
later_leads scope d ds x l = record { place = suc l.place; write = l.write; at = l.at; same = l.same; port = l.port; found = l.found }

step_leads : (scope : Scope) (is_open : Bool) (s : Driven) (i : ℕ) (d : Drive) (ds : List Drive) (x : PlacedWrite) → in_blocks is_open (d ∷ ds) ≡ true → drive_faults_one scope s d ≡ []
    → GoesOn scope (opens d) (after_drive scope s i d).block ds x ⊎ Leads scope ds x → GoesOn scope is_open s.block (d ∷ ds) x ⊎ Leads scope (d ∷ ds) x
step_leads scope is_open s i d ds x b h (inr l) = inr (later_leads scope d ds x l)
step_leads scope is_open s i (register enable name next) ds x b h (inl g) = absurd (false≢true g.opened)
step_leads scope is_open s i (first y) ds x b h (inl g) = inr (record { place = 0; write = y; at = refl; same = g.same; port = g.port; found = g.found })
step_leads scope is_open s i (further y) ds x b h (inl g) =
    inl (record { opened = open_true is_open (and_parts (is_open || false) (in_blocks true ds) b).0; same = g.same; port = suc g.port; found = g.found })

leads_from : (scope : Scope) (is_open : Bool) (s : Driven) (i : ℕ) (ds : List Drive) → in_blocks is_open ds ≡ true → drive_faults scope s i ds ≡ [] → (j : ℕ) (x : PlacedWrite) → slice_get ds j ≡ Some (further x)
    → GoesOn scope is_open s.block ds x ⊎ Leads scope ds x
leads_from scope is_open s i [] b h j x e = absurd (none-some (further x) e)
leads_from scope is_open s i (d ∷ ds) b h zero x e =
    let same : d ≡ further x = same_Some d (further x) e in
    let one : drive_faults_one scope s (further x) ≡ [] = subst (λ y. drive_faults_one scope s y ≡ []) same (none_left (drive_faults_one scope s d) _ h) in
    let may : in_blocks is_open (further x ∷ ds) ≡ true = subst (λ y. in_blocks is_open (y ∷ ds) ≡ true) same b in
    let ports : further_ports scope (d ∷ ds) ≡ port_of scope x ∷ further_ports scope ds = ap (λ y. further_ports scope (y ∷ ds)) same in
    inl (record { opened = open_true is_open (and_parts (is_open || false) (in_blocks true ds) may).0; same = further_same scope s x one; port = 0; found = ap (λ ps. slice_get ps 0) ports })
leads_from scope is_open s i (d ∷ ds) b h (suc j) x e =
    step_leads scope is_open s i d ds x b (none_left (drive_faults_one scope s d) _ h)
    (leads_from scope (opens d) (after_drive scope s i d) (i + 1) ds (and_parts (is_open || not (goes_on d)) (in_blocks (opens d) ds) b).1 (none_right (drive_faults_one scope s d) _ h) j x e)

pub leads : (scope : Scope) (s : Driven) (ds : List Drive) → in_blocks false ds ≡ true → drive_faults scope s 0 ds ≡ [] → (j : ℕ) (x : PlacedWrite) → slice_get ds j ≡ Some (further x) → Leads scope ds x
leads scope s ds b h j x e = elim (leads_from scope false s 0 ds b h j x e) [ inl g ↦ absurd (false≢true g.opened) | inr l ↦ l ]

-- ---- nothing is left out

pub never_none : (slots : Slots) (i : ℕ) (xs : List PlacedName) → never_faults slots i xs ≡ [] → (k : ℕ) → k < length xs → is_some (slot slots (i + k)) ≡ true
never_none slots i [] h k low = absurd (omega arith)
never_none slots i (x ∷ xs) h zero low =
    let sum : i ≡ i + 0 = omega arith in subst (λ n. is_some (slot slots n) ≡ true) sum (unless_true (is_some (slot slots i)) 54 x.place (none_left _ (never_faults slots (i + 1) xs) h))
never_none slots i (x ∷ xs) h (suc k) low =
    let sum : i + 1 + k ≡ i + suc k = omega arith in
    subst (λ n. is_some (slot slots n) ≡ true) sum (never_none slots (i + 1) xs (none_right (unless (is_some (slot slots i)) 54 x.place) _ h) k (omega arith))
