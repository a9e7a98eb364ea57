-- The names of the header and the pins, one after another.
use Rattle.std.proofs.Common.{◌≡◌, ℕ, suc, ◌+◌, ◌-◌, ◌<◌, ◌≤◌, inl, inr, List, [], ◌∷◌, ◌++◌, length, map, take, drop, get_or, Option, Bool, ltb, refl, sym, ap, ◌∙◌, arith}
use Rattle.std.proofs.lemmas.Bool.{cases_lt, lt-ltb, le-ltb}
use Rattle.std.proofs.lemmas.List.{drop_all, length-drop, length-append, take-map, take_at}
use Rattle.hls_base.specs.declared.refusal.Refusal.{Refusal}
use Rattle.rtl_core.proofs.Checks.{map_drop}
use Rattle.verilog_read.specs.declared.declarations.Declaration.{Declaration as CodeDeclaration}
use Rattle.verilog_read.specs.declared.names.Sort.{Sort}
use Rattle.verilog_read.specs.declared.names.Sort.TheVariants as sort
use Rattle.verilog_syntax.specs.PlacedSyntax.{PlacedDeclared, PlacedModule}
use Rattle.verilog_read.specs.Scope.{declared_from, memories_from, wires_from, pins, declarations}
use Rattle.verilog_syntax.specs.declared.module.Name.{Name}
use Rattle.verilog_syntax.specs.ModuleViews.{name_view}
use Rattle.verilog_read.specs.DeclarationViews.{declaration_view, declaration_views}
use Rattle.verilog_read.specs.Earliest.{noted}
use Rattle.verilog_read.specs.Faults.{unless, is_turn, turn_faults, lacking_faults, behind_first}
use Rattle.verilog_read.proofs.Loops.{noted_rest}

behind_drop : {A B : Type 0} (view : A → B) (xs : List A) (i : ℕ) → map view (drop (i + 1) xs) ≡ behind_first (map view (drop i xs))
behind_drop view [] i = ap (map view) (drop_all (i + 1) [] (omega arith)) ∙ sym (ap (λ y. behind_first (map view y)) (drop_all i [] (omega arith)))
behind_drop view (x ∷ xs) i =
    elim (cases_lt i (length (x ∷ xs))) [
      | inl h ↦ sym (ap behind_first (map_drop view (x ∷ xs) i x h))
      | inr h ↦ ap (map view) (drop_all (i + 1) (x ∷ xs) (omega (arith, h))) ∙ sym (ap (λ y. behind_first (map view y)) (drop_all i (x ∷ xs) h))
    ]

pub long_map : {A B : Type 0} (view : A → B) (xs : List A) → length (map view xs) ≡ length xs
long_map view [] = refl
long_map view (x ∷ xs) = ap suc (long_map view xs)

pub turn_on : (header : List Name) (pins : List CodeDeclaration) (i : ℕ) (d : Name) (old new whole : Option Refusal) (is_met : Bool) → i < length header
    → is_met ≡ is_turn (map declaration_view (drop i pins)) (get_or header i d).text.now → new ≡ noted old (unless is_met 52 (get_or header i d).place)
    → noted old (turn_faults (map name_view (drop i header)) (map declaration_view (drop i pins))) ≡ whole
    → noted new (turn_faults (map name_view (drop (i + 1) header)) (map declaration_view (drop (i + 1) pins))) ≡ whole
turn_on header pins i d old new whole is_met below met is so_far =
    let x = get_or header i d in
    let ds = map declaration_view (drop i pins) in
    ap (λ y. noted new (turn_faults (map name_view (drop (i + 1) header)) y)) (behind_drop declaration_view pins i)
    ∙ noted_rest old new whole (turn_faults (map name_view (drop i header)) ds) (unless (is_turn ds x.text.now) 52 x.place) (turn_faults (map name_view (drop (i + 1) header)) (behind_first ds))
    (ap (λ y. turn_faults y ds) (map_drop name_view header i d below)) (is ∙ ap (λ b. noted old (unless b 52 x.place)) met) so_far

pub lacking_on : (header : List Name) (pins : List CodeDeclaration) (i : ℕ) (d : CodeDeclaration) (old new whole : Option Refusal) → i < length pins
    → new ≡ noted old (unless (ltb i (length header)) 52 (get_or pins i d).name.place)
    → noted old (lacking_faults (map name_view (drop i header)) (map declaration_view (drop i pins))) ≡ whole
    → noted new (lacking_faults (map name_view (drop (i + 1) header)) (map declaration_view (drop (i + 1) pins))) ≡ whole
lacking_on header pins i d old new whole below is so_far =
    let x = get_or pins i d in
    let hs = map name_view (drop i header) in
    let size : length hs ≡ length header - i = long_map name_view (drop i header) ∙ length-drop i header in
    let same : ltb i (length header) ≡ ltb 0 (length hs) = (elim (cases_lt i (length header)) [
      | inl h ↦ lt-ltb i (length header) h ∙ sym (lt-ltb 0 (length hs) (omega (arith, size, h)))
      | inr h ↦ le-ltb i (length header) h ∙ sym (le-ltb 0 (length hs) (omega (arith, size, h)))
    ]) in
    ap (λ y. noted new (lacking_faults y (map declaration_view (drop (i + 1) pins)))) (behind_drop name_view header i)
    ∙ noted_rest old new whole (lacking_faults hs (map declaration_view (drop i pins))) (unless (ltb 0 (length hs)) 52 x.name.place) (lacking_faults (behind_first hs) (map declaration_view (drop (i + 1) pins)))
    (ap (lacking_faults hs) (map_drop declaration_view pins i d below)) (is ∙ ap (λ b. noted old (unless b 52 x.name.place)) same) so_far

-- ---- the pins among the declarations

pins_long : (s : Sort) (k : ℕ) (xs : List PlacedDeclared) → length (declared_from s k xs) ≡ length xs
pins_long s k [] = refl
pins_long s k (x ∷ xs) = ap suc (pins_long s (k + 1) xs)

all_long : (m : PlacedModule) → length (pins m) ≡ length m.inputs + length m.outputs
all_long m =
    omega (arith, length-append (declared_from sort.Input 0 m.inputs) (declared_from sort.Output 0 m.outputs), pins_long sort.Input 0 m.inputs, pins_long sort.Output 0 m.outputs)

pub pins_taken : (m : PlacedModule) (ds : List CodeDeclaration) (n : ℕ) → declaration_views ds ≡ declarations m → n ≡ length m.inputs + length m.outputs
    → (n ≤ length ds) × (declaration_views (take n ds) ≡ pins m)
pins_taken m ds n e h =
    let rest = declared_from sort.Register 0 m.regs ++ (memories_from 0 m.mems ++ wires_from 0 m.wires) in
    let long : length (pins m) ≡ n = all_long m ∙ sym h in
    let whole : length ds ≡ length (pins m) + length rest = sym (long_map declaration_view ds) ∙ (ap length e ∙ length-append (pins m) rest) in
    (omega (arith, long, whole), sym (take-map declaration_view n ds) ∙ (ap (take n) e ∙ take_at (pins m) rest n long))
