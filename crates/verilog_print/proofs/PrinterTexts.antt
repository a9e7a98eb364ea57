-- The parts of the printed text, put together.
use Rattle.std.proofs.Common.{◌≡◌, ℕ, ◌≤◌, ◌∙◌, sym, refl, ap, List, [], ◌∷◌, ◌++◌, map, append_assoc, arith}
use Rattle.std.specs.Prelude.{Result, Ok, Err, OnOk}
use Rattle.std.specs.List.{All, flat_map}
use Rattle.std.proofs.lemmas.Grind.{flat_map-append}
use Rattle.std.proofs.lemmas.List.{length-map}
use Rattle.std.proofs.lemmas.List.Elements.{All-nil, All-cons, All-head, All-tail}
use Rattle.rtl_core.specs.declared.design.Mem.{Mem}
use Rattle.rtl_core.specs.declared.design.Design.{Design}
use Rattle.rtl_core.specs.Netlist.{memory_of, netlist_of}
use Rattle.rtl_core.specs.ClockStep.{Widths}
use Rattle.rtl_core.specs.Valid.{MemoryFits}
use Rattle.verilog_print.proofs.Meaning.{AreCounted}

-- what follows if a call succeeds
pub succeeded : {T E P Q : Type 0} (r : Result T E) → (P → Q) → OnOk r P → OnOk r Q
succeeded (Ok x) f p = f p
succeeded (Err x) f p = tt

-- the items of two lists, appended in turn
pub two_lists : {A : Type 0} (f : A → List ℕ) (old middle new : List ℕ) (xs ys : List A) → middle ≡ old ++ flat_map f xs → new ≡ middle ++ flat_map f ys → new ≡ old ++ flat_map f (xs ++ ys)
two_lists f old middle new xs ys e g =
    g ∙ ap (λ text. text ++ flat_map f ys) e ∙ append_assoc old (flat_map f xs) (flat_map f ys) ∙ ap (λ text. old ++ text) (sym (flat_map-append f xs ys))

-- the five parts of the text are the whole
pub five_parts : (m name k header t i o r ms w a b end o0 o1 o2 o3 o4 o5 : List ℕ) → o0 ≡ [] → o1 ≡ o0 ++ (m ++ (name ++ (k ++ (header ++ t)))) → o2 ≡ o1 ++ (i ++ o) → o3 ≡ o2 ++ (r ++ (ms ++ w)) → o4 ≡ o3 ++ (a ++ b) → o5 ≡ o4 ++ end → o5 ≡ m ++ (name ++ (k ++ (header ++ (t ++ (i ++ (o ++ (r ++ (ms ++ (w ++ (a ++ (b ++ end)))))))))))
five_parts m name k header t i o r ms w a b end o0 o1 o2 o3 o4 o5 e0 e1 e2 e3 e4 e5 =
    let h1 : o1 ≡ m ++ (name ++ (k ++ (header ++ t))) = e1 ∙ ap (λ x. x ++ (m ++ (name ++ (k ++ (header ++ t))))) e0 in
    let h2 = e2 ∙ ap (λ x. x ++ (i ++ o)) h1 in
    let h3 = e3 ∙ ap (λ x. x ++ (r ++ (ms ++ w))) h2 in
    let h4 = e4 ∙ ap (λ x. x ++ (a ++ b)) h3 in
    let h5 = e5 ∙ ap (λ x. x ++ end) h4 in
    h5 ∙ simp append_assoc refl

-- the memories of a valid circuit are no deeper than a number of 16 bits tells
pub shallow : (w : Widths) (ms : List Mem) → All (MemoryFits w) (map memory_of ms) → All (λ (m : Mem). m.depth_log ≤ 16) ms
shallow w [] h = All-nil (λ (m : Mem). m.depth_log ≤ 16)
shallow w (m ∷ ms) h =
    All-cons (λ (m : Mem). m.depth_log ≤ 16) m ms (let fits = All-head (MemoryFits w) (memory_of m) (map memory_of ms) h in fits.depth.1)
    (shallow w ms (All-tail (MemoryFits w) (memory_of m) (map memory_of ms) h))

-- a `Vec` holds less than 64 bits can number
pub counted : (d : Design) → AreCounted (netlist_of d)
counted d = record {
  regs = omega (arith, d.regs.ok.0, d.regs.ok.1, d.regs.small);
  mems = omega (arith, d.mems.ok.0, d.mems.ok.1, d.mems.small, length-map d.mems.items memory_of);
  wires = omega (arith, d.wires.ok.0, d.wires.ok.1, d.wires.small);
}
