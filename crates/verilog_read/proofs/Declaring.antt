-- Declarations, one after another.
use Rattle.std.proofs.Common.{◌≡◌, ℕ, ◌+◌, ◌<◌, List, [], ◌∷◌, ◌++◌, length, map, drop, get_or, Option, Some, None, Bool, true, false, not, cond, refl, sym, ap, ◌∙◌}
use Rattle.std.specs.Prelude.{bytes_eq}
use Rattle.std.specs.Option.{is_some}
use Rattle.std.proofs.lemmas.List.{map-append}
use Rattle.hls_base.specs.declared.refusal.Refusal.{Refusal}
use Rattle.rtl_core.proofs.Checks.{map_drop}
use Rattle.verilog_read.specs.declared.declarations.Declaration.{Declaration as CodeDeclaration}
use Rattle.verilog_read.specs.declared.names.Entry.{Entry}
use Rattle.verilog_read.specs.declared.names.Sort.{Sort}
use Rattle.verilog_read.specs.declared.names.Sort.TheVariants as sort
use Rattle.verilog_syntax.specs.declared.module.Declared.{Declared}
use Rattle.verilog_syntax.specs.declared.module.DeclaredMemory.{DeclaredMemory}
use Rattle.verilog_syntax.specs.declared.module.DeclaredWire.{DeclaredWire}
use Rattle.verilog_read.specs.Numbers.{declared_bits, depth_of}
use Rattle.verilog_syntax.specs.ModuleViews.{declared_view, memory_view, wire_view, name_view}
use Rattle.verilog_read.specs.Scope.{Scope, Declaration, declared_from, memories_from, wires_from, first_of, with_entry}
use Rattle.verilog_read.specs.Earliest.{noted}
use Rattle.verilog_read.specs.Faults.{unless, allowed, declaration_faults, declared_faults, no_scope}
use Rattle.verilog_read.specs.DeclarationViews.{declaration_view, declaration_views}
use Rattle.verilog_read.proofs.Loops.{grown_by, noted_rest, noted_two}

pub declared_more : (s : Sort) (xs : List Declared) (i : ℕ) (d : Declared) (items new : List CodeDeclaration) (whole : List Declaration) (bits : ℕ) → i < length xs → bits ≡ declared_bits (get_or xs i d).high.now
    → new ≡ items ++ record { name = (get_or xs i d).name; entry = record { sort = s; number = i; bits = bits; depth = None } } ∷ []
    → declaration_views items ++ declared_from s i (map declared_view (drop i xs)) ≡ whole → declaration_views new ++ declared_from s (i + 1) (map declared_view (drop (i + 1) xs)) ≡ whole
declared_more s xs i d items new whole bits below width more so_far =
    let x = get_or xs i d in
    let one : Declaration = record { name = name_view x.name; entry = record { sort = s; number = i; bits = declared_bits x.high.now; depth = None } } in
    let all : declared_from s i (map declared_view (drop i xs)) ≡ one ∷ declared_from s (i + 1) (map declared_view (drop (i + 1) xs)) = ap (declared_from s i) (map_drop declared_view xs i d below) in
    let grown : declaration_views new ≡ declaration_views items ++ one ∷ [] =
    ap declaration_views more ∙ (map-append declaration_view items (record { name = x.name; entry = record { sort = s; number = i; bits = bits; depth = None } } ∷ [])
    ∙ ap (λ b. declaration_views items ++ record { name = name_view x.name; entry = record { sort = s; number = i; bits = b; depth = None } } ∷ []) width) in
    grown_by (declaration_views items) (declaration_views new) whole (declared_from s i (map declared_view (drop i xs))) (declared_from s (i + 1) (map declared_view (drop (i + 1) xs))) one all grown so_far

pub memory_more : (xs : List DeclaredMemory) (i : ℕ) (d : DeclaredMemory) (items new : List CodeDeclaration) (whole : List Declaration) (bits : ℕ) (depth : Option ℕ) → i < length xs → bits ≡ declared_bits (get_or xs i d).high.now
    → depth ≡ depth_of (get_or xs i d).last.now → new ≡ items ++ record { name = (get_or xs i d).name; entry = record { sort = sort.Memory; number = i; bits = bits; depth = depth } } ∷ []
    → declaration_views items ++ memories_from i (map memory_view (drop i xs)) ≡ whole → declaration_views new ++ memories_from (i + 1) (map memory_view (drop (i + 1) xs)) ≡ whole
memory_more xs i d items new whole bits depth below width deep more so_far =
    let x = get_or xs i d in
    let one : Declaration = record { name = name_view x.name; entry = record { sort = sort.Memory; number = i; bits = declared_bits x.high.now; depth = depth_of x.last.now } } in
    let all : memories_from i (map memory_view (drop i xs)) ≡ one ∷ memories_from (i + 1) (map memory_view (drop (i + 1) xs)) = ap (memories_from i) (map_drop memory_view xs i d below) in
    let grown : declaration_views new ≡ declaration_views items ++ one ∷ [] =
    ap declaration_views more ∙ (map-append declaration_view items (record { name = x.name; entry = record { sort = sort.Memory; number = i; bits = bits; depth = depth } } ∷ [])
    ∙ (ap (λ b. declaration_views items ++ record { name = name_view x.name; entry = record { sort = sort.Memory; number = i; bits = b; depth = depth } } ∷ []) width ∙ ap (λ o. declaration_views items ++ record { name = name_view x.name; entry = record { sort = sort.Memory; number = i; bits = declared_bits x.high.now; depth = o } } ∷ []) deep)) in
    grown_by (declaration_views items) (declaration_views new) whole (memories_from i (map memory_view (drop i xs))) (memories_from (i + 1) (map memory_view (drop (i + 1) xs))) one all grown so_far

pub wire_more : (xs : List DeclaredWire) (i : ℕ) (d : DeclaredWire) (items new : List CodeDeclaration) (whole : List Declaration) (bits : ℕ) → i < length xs → bits ≡ declared_bits (get_or xs i d).high.now
    → new ≡ items ++ record { name = (get_or xs i d).name; entry = record { sort = sort.Wire; number = i; bits = bits; depth = None } } ∷ []
    → declaration_views items ++ wires_from i (map wire_view (drop i xs)) ≡ whole → declaration_views new ++ wires_from (i + 1) (map wire_view (drop (i + 1) xs)) ≡ whole
wire_more xs i d items new whole bits below width more so_far =
    let x = get_or xs i d in
    let one : Declaration = record { name = name_view x.name; entry = record { sort = sort.Wire; number = i; bits = declared_bits x.high.now; depth = None } } in
    let all : wires_from i (map wire_view (drop i xs)) ≡ one ∷ wires_from (i + 1) (map wire_view (drop (i + 1) xs)) = ap (wires_from i) (map_drop wire_view xs i d below) in
    let grown : declaration_views new ≡ declaration_views items ++ one ∷ [] =
    ap declaration_views more ∙ (map-append declaration_view items (record { name = x.name; entry = record { sort = sort.Wire; number = i; bits = bits; depth = None } } ∷ [])
    ∙ ap (λ b. declaration_views items ++ record { name = name_view x.name; entry = record { sort = sort.Wire; number = i; bits = b; depth = None } } ∷ []) width) in
    grown_by (declaration_views items) (declaration_views new) whole (wires_from i (map wire_view (drop i xs))) (wires_from (i + 1) (map wire_view (drop (i + 1) xs))) one all grown so_far

-- ---- names

-- two scopes in which each name stands for the same
abbrev pub Agrees : Scope → Scope → Type 0
Agrees x y = (q : List ℕ) → x q ≡ y q

pub declared_agree : (x y : Scope) (ds : List Declaration) → Agrees x y → declared_faults x ds ≡ declared_faults y ds
declared_agree x y [] h = refl
declared_agree x y (d ∷ ds) h =
    ap (λ o. (unless (not (is_some o)) 52 d.name.place ++ unless (allowed d.entry.sort d.entry.bits d.entry.depth) 53 d.name.place) ++ declared_faults (with_entry x d.name.text d.entry) ds) (h d.name.text)
    ∙ ap (λ fs. (unless (not (is_some (y d.name.text))) 52 d.name.place ++ unless (allowed d.entry.sort d.entry.bits d.entry.depth) 53 d.name.place) ++ fs) (declared_agree (with_entry x d.name.text d.entry) (with_entry y d.name.text d.entry) ds (λ q. ap (λ o. cond (is_some o) o (cond (bytes_eq q d.name.text) (Some d.entry) None)) (h q)))

-- the entries of the declarations behind those of a scope
abbrev behind : Scope → List Declaration → Scope
behind scope ds q = cond (is_some (scope q)) (scope q) (first_of ds q)

behind_more : (o f : Option Entry) (b : Bool) (e : Entry) → (let n = cond (is_some o) o (cond b (Some e) None) in cond (is_some n) n f) ≡ cond (is_some o) o (cond b (Some e) f)
behind_more (Some x) f b e = refl
behind_more None f true e = refl
behind_more None f false e = refl

-- what is known while the names are declared
pub record Naming (all : List Declaration) (left : List Declaration) (scope : Scope) (start found : Option Refusal) : Type 0 where
  pub names : (q : List ℕ) → behind scope left q ≡ first_of all q
  pub faults : noted found (declared_faults scope left) ≡ noted start (declared_faults no_scope all)

pub naming_begun : (all : List Declaration) (scope : Scope) (start : Option Refusal) → ((q : List ℕ) → scope q ≡ None) → Naming all all scope start start
naming_begun all scope start none = record {
  names = λ q. ap (λ o. cond (is_some o) o (first_of all q)) (none q);
  faults = ap (noted start) (declared_agree scope no_scope all none);
}

pub naming_on : (all left rest : List Declaration) (d : Declaration) (scope new : Scope) (start found middle next : Option Refusal) (is_new is_allowed : Bool) → left ≡ d ∷ rest
    → is_new ≡ not (is_some (scope d.name.text)) → ((q : List ℕ) → new q ≡ with_entry scope d.name.text d.entry q) → is_allowed ≡ allowed d.entry.sort d.entry.bits d.entry.depth
    → middle ≡ noted found (unless is_new 52 d.name.place) → next ≡ noted middle (unless is_allowed 53 d.name.place) → Naming all left scope start found → Naming all rest new start next
naming_on all left rest d scope new start found middle next is_new is_allowed e first scope_is second one two n = record {
  names = λ q.
      let more = ap (λ o. cond (is_some o) o (first_of rest q)) (scope_is q) in
      more ∙ (behind_more (scope q) (first_of rest q) (bytes_eq q d.name.text) d.entry ∙ (ap (λ ds. behind scope ds q) (sym e) ∙ n.names q));
  faults =
      let here : next ≡ noted found (declaration_faults scope d) =
      noted_two found middle next (unless (not (is_some (scope d.name.text))) 52 d.name.place) (unless (allowed d.entry.sort d.entry.bits d.entry.depth) 53 d.name.place)
      (one ∙ ap (λ b. noted found (unless b 52 d.name.place)) first) (two ∙ ap (λ b. noted middle (unless b 53 d.name.place)) second) in
      ap (noted next) (declared_agree new (with_entry scope d.name.text d.entry) rest scope_is)
      ∙ noted_rest found next (noted start (declared_faults no_scope all)) (declared_faults scope left) (declaration_faults scope d) (declared_faults (with_entry scope d.name.text d.entry) rest)
      (ap (declared_faults scope) e) here n.faults;
}

pub naming_ends : (all left : List Declaration) (scope : Scope) (start found : Option Refusal) → left ≡ [] → Naming all left scope start found
    → ((q : List ℕ) → scope q ≡ first_of all q) × (found ≡ noted start (declared_faults no_scope all))
naming_ends all left scope start found e n = (
  λ q. sym (none_behind (scope q)) ∙ (ap (λ ds. behind scope ds q) (sym e) ∙ n.names q),
  ap (λ ds. noted found (declared_faults scope ds)) (sym e) ∙ n.faults,
)
  where
    none_behind : (o : Option Entry) → cond (is_some o) o None ≡ o
    none_behind None = refl
    none_behind (Some x) = refl
