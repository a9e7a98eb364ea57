-- All names of a printed text are names, and none stands twice.
use Rattle.std.proofs.Common.{◌≡◌, ◌≢◌, inl, inr, ℕ, suc, ◌≤◌, ◌∙◌, sym, refl, ap, subst, List, [], ◌∷◌, ◌++◌, map, get_or, append_assoc, arith}
use Rattle.std.specs.Prelude.{codes}
use Rattle.std.specs.List.{All, Contains}
use Rattle.std.proofs.lemmas.List.Elements.{All-append, All-weaker}
use Rattle.rtl_core.specs.declared.design.Pin.{Pin}
use Rattle.rtl_core.specs.declared.design.OutPin.{OutPin}
use Rattle.rtl_core.specs.Netlist.{Netlist}
use Rattle.rtl_core.specs.Valid.{IsName, AreDistinct, pin_names, IsValid}
use Rattle.rtl_core.specs.ModuleSyntax.{DeclaredMemory, DeclaredWire}
use Rattle.rtl_core.specs.ModuleText.{names_in, output_names, all_names, declared_name}
use Rattle.verilog_print.specs.PrintedSyntax.{register_name, memory_name, wire_name, numbered, output_of, register_of, memory_at, wire_of, syntax_of}
use Rattle.verilog_print.specs.PrintableNames.{IsNumbered, HasPrintableNames}
use Rattle.verilog_print.proofs.Lists.{All-left, All-right, map_map, distinct_append, all_apart}
use Rattle.verilog_print.proofs.Names.{name_is_name, IsNameFrom, names_by_number, names_from, names_distinct, letters_differ, pins_differ}
use Rattle.verilog_print.proofs.Meaning.{AreCounted, input_names}

-- ---- the printed names

abbrev pub inputs_of : Netlist → List (List ℕ)
inputs_of d = map (λ (p : Pin). p.name) d.inputs

abbrev pub outputs_of : Netlist → List (List ℕ)
outputs_of d = map (λ (o : OutPin). o.name) d.outputs

abbrev registers_of : Netlist → List (List ℕ)
registers_of d = names_by_number 114 0 d.regs

abbrev memories_of : Netlist → List (List ℕ)
memories_of d = names_by_number 109 0 d.mems

abbrev wires_of : Netlist → List (List ℕ)
wires_of d = names_by_number 119 0 d.wires

pub output_names_are : (d : Netlist) → output_names (syntax_of d) ≡ outputs_of d
output_names_are d = map_map declared_name output_of (λ (o : OutPin). o.name) (λ o. refl) d.outputs

named_by : {X Y : Type 0} (g : Y → List ℕ) (f : ℕ → X → Y) (name : ℕ → List ℕ) → ((k : ℕ) (x : X) → g (f k x) ≡ name k) → (j : ℕ) (xs : List X) → map g (numbered f j xs) ≡ numbered (λ k x. name k) j xs
named_by g f name e j [] = refl
named_by g f name e j (x ∷ xs) = ap (λ y. y ∷ map g (numbered f (suc j) xs)) (e j x) ∙ ap (λ ys. name j ∷ ys) (named_by g f name e (suc j) xs)

all_names_are : (d : Netlist) → all_names (syntax_of d) ≡ inputs_of d ++ (outputs_of d ++ (registers_of d ++ (memories_of d ++ wires_of d)))
all_names_are d =
    let s = syntax_of d in
    let i = input_names d in
    let o = output_names_are d in
    let r = named_by declared_name register_of register_name (λ k x. refl) 0 d.regs in
    let m = named_by (λ (x : DeclaredMemory). x.name) memory_at memory_name (λ k x. refl) 0 d.mems in
    let w = named_by (λ (x : DeclaredWire). x.name) (wire_of d.inputs) wire_name (λ k x. refl) 0 d.wires in
    let names = names_in s in
    ap (λ xs. xs ++ (output_names s ++ (names.regs ++ (names.mems ++ names.wires)))) i
    ∙ ap (λ xs. inputs_of d ++ (xs ++ (names.regs ++ (names.mems ++ names.wires)))) o
    ∙ ap (λ xs. inputs_of d ++ (outputs_of d ++ (xs ++ (names.mems ++ names.wires)))) r
    ∙ ap (λ xs. inputs_of d ++ (outputs_of d ++ (registers_of d ++ (xs ++ names.wires)))) m
    ∙ ap (λ xs. inputs_of d ++ (outputs_of d ++ (registers_of d ++ (memories_of d ++ xs)))) w

r_letter : Contains (codes "rmw") 114
r_letter = (0, omega arith, refl)

m_letter : Contains (codes "rmw") 109
m_letter = (1, omega arith, refl)

w_letter : Contains (codes "rmw") 119
w_letter = (2, omega arith, refl)

module _ (d : Netlist) (v : IsValid d) (free : HasPrintableNames d) (counted : AreCounted d) where
  from_r : All (IsNameFrom 114 0) (registers_of d)
  from_r = names_from 114 0 0 d.regs (omega arith) (omega (arith, counted.regs))

  from_m : All (IsNameFrom 109 0) (memories_of d)
  from_m = names_from 109 0 0 d.mems (omega arith) (omega (arith, counted.mems))

  from_w : All (IsNameFrom 119 0) (wires_of d)
  from_w = names_from 119 0 0 d.wires (omega arith) (omega (arith, counted.wires))

  are_names : (c : ℕ) → (97 ≤ c) × (c ≤ 122) → (names : List (List ℕ)) → All (IsNameFrom c 0) names → All IsName names
  are_names c letter names h =
      All-weaker (IsNameFrom c 0) IsName (λ y n. subst IsName (sym n.3) (name_is_name c n.0 (inr (inl letter)) n.2)) names h

  pub all_are_names : All IsName (all_names (syntax_of d))
  all_are_names =
      subst (All IsName) (sym (all_names_are d))
      (All-append IsName (inputs_of d) _ (All-left IsName (inputs_of d) (outputs_of d) v.names)
      (All-append IsName (outputs_of d) _ (All-right IsName (inputs_of d) (outputs_of d) v.names)
      (All-append IsName (registers_of d) _ (are_names 114 (omega arith, omega arith) (registers_of d) from_r)
      (All-append IsName (memories_of d) (wires_of d) (are_names 109 (omega arith, omega arith) (memories_of d) from_m) (are_names 119 (omega arith, omega arith) (wires_of d) from_w)))))

  pins_apart : (c : ℕ) → Contains (codes "rmw") c → (names : List (List ℕ)) → All (IsNameFrom c 0) names → All (λ x. All (λ y. x ≢ y) names) (pin_names d)
  pins_apart c letter names h = all_apart (λ x. ¬ IsNumbered x) (IsNameFrom c 0) (pins_differ c letter) (pin_names d) names free h

  letters_apart : (b c : ℕ) → b ≢ c → (xs ys : List (List ℕ)) → All (IsNameFrom b 0) xs → All (IsNameFrom c 0) ys → All (λ x. All (λ y. x ≢ y) ys) xs
  letters_apart b c differ xs ys hx hy = all_apart (IsNameFrom b 0) (IsNameFrom c 0) (letters_differ b c differ) xs ys hx hy

  -- apart from two lists is apart from both
  from_both : (zs xs ys : List (List ℕ)) → All (λ z. All (λ y. z ≢ y) xs) zs → All (λ z. All (λ y. z ≢ y) ys) zs → All (λ z. All (λ y. z ≢ y) (xs ++ ys)) zs
  from_both zs xs ys hx hy k z lt = All-append (λ y. get_or zs k z ≢ y) xs ys (hx k z lt) (hy k z lt)

  pub all_distinct : AreDistinct (all_names (syntax_of d))
  all_distinct =
      let r = registers_of d in
      let m = memories_of d in
      let w = wires_of d in
      let mw = distinct_append m w (names_distinct 109 0 d.mems (omega (arith, counted.mems))) (names_distinct 119 0 d.wires (omega (arith, counted.wires))) (letters_apart 109 119 (λ e. absurd (omega arith)) m w from_m from_w) in
      let rmw =
      distinct_append r (m ++ w) (names_distinct 114 0 d.regs (omega (arith, counted.regs))) mw
      (from_both r m w (letters_apart 114 109 (λ e. absurd (omega arith)) r m from_r from_m) (letters_apart 114 119 (λ e. absurd (omega arith)) r w from_r from_w)) in
      let all =
      distinct_append (pin_names d) (r ++ (m ++ w)) v.distinct rmw
      (from_both (pin_names d) r (m ++ w) (pins_apart 114 r_letter r from_r)
      (from_both (pin_names d) m w (pins_apart 109 m_letter m from_m) (pins_apart 119 w_letter w from_w))) in
      subst AreDistinct (append_assoc (inputs_of d) (outputs_of d) (r ++ (m ++ w)) ∙ sym (all_names_are d)) all
