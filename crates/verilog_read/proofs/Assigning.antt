-- Assignments and edges, one after another.
use Rattle.std.proofs.Common.{◌≡◌, ℕ, zero, suc, ◌+◌, ◌<◌, Bool, List, [], ◌∷◌, ◌++◌, length, map, drop, get_or, Option, None, refl, sym, ap, ◌∙◌, arith}
use Rattle.std.specs.Option.{is_some}
use Rattle.hls_base.specs.declared.refusal.Refusal.{Refusal}
use Rattle.rtl_core.proofs.Checks.{map_drop}
use Rattle.verilog_syntax.specs.declared.module.Declared.{Declared}
use Rattle.verilog_syntax.specs.declared.module.DeclaredMemory.{DeclaredMemory}
use Rattle.verilog_syntax.specs.ModuleViews.{declared_view, memory_view}
use Rattle.verilog_syntax.specs.PlacedSyntax.{PlacedAssign, Drive}
use Rattle.verilog_read.specs.Scope.{Scope}
use Rattle.verilog_read.specs.Earliest.{noted}
use Rattle.verilog_read.specs.Faults.{unless, Slots, slot, free_slots, never_faults, declared_names, memory_names, known_faults, target_faults, output_of, filled_by, assign_faults, after_assigns, Driven, drive_faults_one, after_drive, drive_faults, after_drives}
use Rattle.verilog_read.proofs.Loops.{noted_rest}

pub assign_on : (scope : Scope) (slots new : Slots) (i : ℕ) (x : PlacedAssign) (all rest : List PlacedAssign) (old next whole : Option Refusal) → all ≡ x ∷ rest → new ≡ filled_by slots (output_of scope x) i
    → next ≡ noted old (known_faults scope x.from ++ target_faults scope slots x.name x.from (output_of scope x)) → noted old (assign_faults scope slots i all) ≡ whole
    → noted next (assign_faults scope new (i + 1) rest) ≡ whole
assign_on scope slots new i x all rest old next whole e f g h =
    ap (λ s. noted next (assign_faults scope s (i + 1) rest)) f
    ∙ noted_rest old next whole (assign_faults scope slots i all) (known_faults scope x.from ++ target_faults scope slots x.name x.from (output_of scope x))
    (assign_faults scope (filled_by slots (output_of scope x) i) (i + 1) rest) (ap (assign_faults scope slots i) e) g h

pub assigns_on : (scope : Scope) (slots new : Slots) (i : ℕ) (x : PlacedAssign) (all rest : List PlacedAssign) (whole : Slots) → all ≡ x ∷ rest → new ≡ filled_by slots (output_of scope x) i
    → after_assigns scope slots i all ≡ whole → after_assigns scope new (i + 1) rest ≡ whole
assigns_on scope slots new i x all rest whole e f h = ap (λ s. after_assigns scope s (i + 1) rest) f ∙ (sym (ap (after_assigns scope slots i) e) ∙ h)

pub drive_on : (scope : Scope) (s new : Driven) (i : ℕ) (x : Drive) (all rest : List Drive) (old next whole : Option Refusal) → all ≡ x ∷ rest → new ≡ after_drive scope s i x
    → next ≡ noted old (drive_faults_one scope s x) → noted old (drive_faults scope s i all) ≡ whole → noted next (drive_faults scope new (i + 1) rest) ≡ whole
drive_on scope s new i x all rest old next whole e f g h =
    ap (λ z. noted next (drive_faults scope z (i + 1) rest)) f
    ∙ noted_rest old next whole (drive_faults scope s i all) (drive_faults_one scope s x) (drive_faults scope (after_drive scope s i x) (i + 1) rest) (ap (drive_faults scope s i) e) g h

pub drives_on : (scope : Scope) (s new : Driven) (i : ℕ) (x : Drive) (all rest : List Drive) (whole : Driven) → all ≡ x ∷ rest → new ≡ after_drive scope s i x → after_drives scope s i all ≡ whole
    → after_drives scope new (i + 1) rest ≡ whole
drives_on scope s new i x all rest whole e f h = ap (λ z. after_drives scope z (i + 1) rest) f ∙ (sym (ap (after_drives scope s i) e) ∙ h)

pub free_more : (n : ℕ) → free_slots n ++ None ∷ [] ≡ free_slots (n + 1)
free_more zero = refl
free_more (suc n) = let e : suc (n + 1) ≡ suc n + 1 = omega arith in ap (λ x. None ∷ x) (free_more n) ∙ ap free_slots e

pub never_on : (slots : Slots) (xs : List Declared) (i : ℕ) (d : Declared) (old new whole : Option Refusal) (is_met : Bool) → i < length xs → is_met ≡ is_some (slot slots i)
    → new ≡ noted old (unless is_met 54 (get_or xs i d).name.place) → noted old (never_faults slots i (declared_names (map declared_view (drop i xs)))) ≡ whole
    → noted new (never_faults slots (i + 1) (declared_names (map declared_view (drop (i + 1) xs)))) ≡ whole
never_on slots xs i d old new whole is_met below met is so_far =
    let place = (get_or xs i d).name.place in
    noted_rest old new whole (never_faults slots i (declared_names (map declared_view (drop i xs)))) (unless (is_some (slot slots i)) 54 place)
    (never_faults slots (i + 1) (declared_names (map declared_view (drop (i + 1) xs)))) (ap (λ y. never_faults slots i (declared_names y)) (map_drop declared_view xs i d below))
    (is ∙ ap (λ b. noted old (unless b 54 place)) met) so_far

pub never_written_on : (slots : Slots) (xs : List DeclaredMemory) (i : ℕ) (d : DeclaredMemory) (old new whole : Option Refusal) (is_met : Bool) → i < length xs → is_met ≡ is_some (slot slots i)
    → new ≡ noted old (unless is_met 54 (get_or xs i d).name.place) → noted old (never_faults slots i (memory_names (map memory_view (drop i xs)))) ≡ whole
    → noted new (never_faults slots (i + 1) (memory_names (map memory_view (drop (i + 1) xs)))) ≡ whole
never_written_on slots xs i d old new whole is_met below met is so_far =
    let place = (get_or xs i d).name.place in
    noted_rest old new whole (never_faults slots i (memory_names (map memory_view (drop i xs)))) (unless (is_some (slot slots i)) 54 place)
    (never_faults slots (i + 1) (memory_names (map memory_view (drop (i + 1) xs)))) (ap (λ y. never_faults slots i (memory_names y)) (map_drop memory_view xs i d below))
    (is ∙ ap (λ b. noted old (unless b 54 place)) met) so_far
