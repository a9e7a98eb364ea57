-- A circuit of what is marked is the same circuit, and as valid, where what is marked reads only what is marked.
use Rattle.std.proofs.Common.{◌≡◌, ◌<◌, ◌≤◌, ◌⊎◌, inl, inr, ◌+◌, ℕ, zero, suc, Bool, true, false, cond, List, [], ◌∷◌, ◌++◌, map, set, length, Some, refl, sym, ap, ap₂, ◌∙◌, subst, arith}
use Rattle.std.specs.Prelude.{◌==◌, ◌&&◌, slice_get, count_by}
use Rattle.std.specs.List.{All}
use Rattle.std.proofs.lemmas.Bool.{cases_Bool, or_left, or_right}
use Rattle.std.proofs.lemmas.List.{length-map}
use Rattle.std.proofs.lemmas.List.Elements.{All-nil, All-cons, All-head, All-tail}
use Rattle.std.proofs.lemmas.List.Sums.{sum_by-cons}
use Rattle.std.proofs.lemmas.Nat.{pow_pos}
use Rattle.std.proofs.lemmas.Option.{slice_get_within, get_or_from_slice_get}
use Rattle.rtl_core.specs.declared.design.Atom.{Atom}
use Rattle.rtl_core.specs.declared.design.Atom.TheVariants as atom
use Rattle.rtl_core.specs.declared.design.Net.{Net}
use Rattle.rtl_core.specs.declared.design.Net.TheVariants as net
use Rattle.rtl_core.specs.declared.design.Pair.{Pair}
use Rattle.rtl_core.specs.declared.design.Pair.TheVariants as pair
use Rattle.rtl_core.specs.declared.design.Wire.{Wire}
use Rattle.rtl_core.specs.declared.design.Reg.{Reg}
use Rattle.rtl_core.specs.declared.design.Port.{Port}
use Rattle.rtl_core.specs.declared.design.Pin.{Pin}
use Rattle.rtl_core.specs.declared.design.OutPin.{OutPin}
use Rattle.rtl_core.specs.Netlist.{Netlist, Memory}
use Rattle.rtl_core.specs.Interface.{outer}
use Rattle.rtl_core.specs.ClockStep.{State, register_widths, widths, value_of, values_behind, seen, wire_values, outputs, clocked_registers, written_words, clocked_memories, stepped, Fit, fit_none, fit_one, AreMemories, no_memory, one_memory, IsState, ArePins}
use Rattle.rtl_core.specs.Valid.{HasBits, WiresFit, RegisterFits, PortFits, MemoryFits, OutputFits, IsValid, AreDistinct, IsName, pin_names}
use Rattle.rtl_core.specs.Resources.{is_product, is_difference}
use Rattle.rtl_core.proofs.Fits.{fit_length, fit_parts, fit_apart, step_is_state}
use Rattle.rtl_core.proofs.Stability.{wire_values_length}
use Rattle.rtl_logic.specs.Reducing.{kept_registers, sized, IsReducedBy}
use Rattle.rtl_logic.specs.Pruning.{Marked, marks_in, IsMarked, PortIsMarked, is_unit, IsClosed, kept, renamed, renamed_net, renamed_wire, renamed_reg, renamed_port, renamed_memory, renamed_output, reduced, marked_places, IsPruned}
use Rattle.rtl_logic.specs.Marking.{Covers}
use Rattle.rtl_logic.proofs.Spreading.{fewer_marks}
use Rattle.rtl_logic.proofs.Keeping.{kept_count, kept_none, at_places, places_below, all_kept, map_twice, mark_at}
use Rattle.rtl_logic.proofs.Equalities.{first, second}
use Rattle.rtl_logic.proofs.Fewer.{Fewer, fits_fewer, register_widths_kept, fewer_after, Split, wires_fewer, kept_state, atoms_fewer, values_fewer}

-- ---- what registers hold

-- what may be held where only the marked registers are known
abbrev filled : List Bool → List ℕ → List ℕ
filled [] xs = []
filled (true ∷ bs) [] = 0 ∷ filled bs []
filled (true ∷ bs) (x ∷ xs) = x ∷ filled bs xs
filled (false ∷ bs) xs = 0 ∷ filled bs xs

filled_fits : (bs : List Bool) (ws xs : List ℕ) → length bs ≡ length ws → Fit (kept bs ws) xs → Fit ws (filled bs xs)
filled_fits [] [] xs h fit = fit_none
filled_fits [] (w ∷ ws) xs h fit = absurd (omega (arith, h))
filled_fits (b ∷ bs) [] xs h fit = absurd (omega (arith, h))
filled_fits (true ∷ bs) (w ∷ ws) [] h fit = absurd (fit_apart w (kept bs ws) fit)
filled_fits (true ∷ bs) (w ∷ ws) (x ∷ xs) h fit =
    let parts = fit_parts w x (kept bs ws) xs fit in fit_one w x ws (filled bs xs) parts.0 (filled_fits bs ws xs (omega (arith, h)) parts.1)
filled_fits (false ∷ bs) (w ∷ ws) xs h fit = fit_one w 0 ws (filled bs xs) (pow_pos w) (filled_fits bs ws xs (omega (arith, h)) fit)

filled_kept : (bs : List Bool) (ws xs : List ℕ) → length bs ≡ length ws → Fit (kept bs ws) xs → kept bs (filled bs xs) ≡ xs
filled_kept [] ws xs h fit = none xs fit
  where
    none : (xs : List ℕ) → Fit [] xs → [] ≡ xs
    none [] fit = refl
    none (x ∷ xs) fit = let n = fit_length [] (x ∷ xs) fit in absurd (omega (arith, n))
filled_kept (b ∷ bs) [] xs h fit = absurd (omega (arith, h))
filled_kept (true ∷ bs) (w ∷ ws) [] h fit = absurd (fit_apart w (kept bs ws) fit)
filled_kept (true ∷ bs) (w ∷ ws) (x ∷ xs) h fit = ap (λ l. x ∷ l) (filled_kept bs ws xs (omega (arith, h)) (fit_parts w x (kept bs ws) xs fit).1)
filled_kept (false ∷ bs) (w ∷ ws) xs h fit = filled_kept bs ws xs (omega (arith, h)) fit

memories_back : (m : Marked) (ms : List Memory) (mems : List (List ℕ)) → AreMemories (map (renamed_memory m) ms) mems → AreMemories ms mems
memories_back m [] _ no_memory = no_memory
memories_back m (x ∷ ms) _ (one_memory y words ns mems here rest) = one_memory x words ms mems (record { count = here.count; fit = here.fit }) (memories_back m ms mems rest)

-- ---- the edge

registers_kept : (m : Marked) (value value2 : Atom → ℕ) (bs : List Bool) (rs : List Reg) (xs : List ℕ) → length rs ≡ length xs
    → ((k : ℕ) (r : Reg) → slice_get bs k ≡ Some true → slice_get rs k ≡ Some r → (value2 (renamed m r.enable) ≡ value r.enable) × (value2 (renamed m r.next) ≡ value r.next))
    → clocked_registers value2 (map (renamed_reg m) (kept bs rs)) (kept bs xs) ≡ kept bs (clocked_registers value rs xs)
registers_kept m value value2 [] rs xs h same = refl
registers_kept m value value2 (b ∷ bs) [] [] h same = refl
registers_kept m value value2 (b ∷ bs) [] (x ∷ xs) h same = absurd (omega (arith, h))
registers_kept m value value2 (b ∷ bs) (r ∷ rs) [] h same = absurd (omega (arith, h))
registers_kept m value value2 (true ∷ bs) (r ∷ rs) (x ∷ xs) h same =
    let here = same 0 r refl refl in
    ap₂ (λ y l. y ∷ l) (ap₂ (λ e n. cond (e == 1) n x) here.0 here.1) (registers_kept m value value2 bs rs xs (omega (arith, h)) (λ k q e g. same (suc k) q e g))
registers_kept m value value2 (false ∷ bs) (r ∷ rs) (x ∷ xs) h same = registers_kept m value value2 bs rs xs (omega (arith, h)) (λ k q e g. same (suc k) q e g)

words_kept : (m : Marked) (value value2 : Atom → ℕ) (ps : List Port) (words : List ℕ)
    → All (λ (p : Port). (value2 (renamed m p.addr) ≡ value p.addr) × (value2 (renamed m p.enable) ≡ value p.enable) × (value2 (renamed m p.value) ≡ value p.value)) ps
    → written_words value2 (map (renamed_port m) ps) words ≡ written_words value ps words
words_kept m value value2 [] words all = refl
words_kept m value value2 (p ∷ ps) words all =
    let P : Port → Type 0 = λ p. (value2 (renamed m p.addr) ≡ value p.addr) × (value2 (renamed m p.enable) ≡ value p.enable) × (value2 (renamed m p.value) ≡ value p.value) in
    let here = All-head P p ps all in
    let written : cond (value2 (renamed m p.enable) == 1) (set words (value2 (renamed m p.addr)) (value2 (renamed m p.value))) words ≡ cond (value p.enable == 1) (set words (value p.addr) (value p.value)) words =
    ap (λ e. cond (e == 1) (set words (value2 (renamed m p.addr)) (value2 (renamed m p.value))) words) here.1
    ∙ ap₂ (λ a x. cond (value p.enable == 1) (set words a x) words) here.0 here.2 in
    ap (written_words value2 (map (renamed_port m) ps)) written ∙ words_kept m value value2 ps (cond (value p.enable == 1) (set words (value p.addr) (value p.value)) words) (All-tail P p ps all)

memories_kept : (m : Marked) (value value2 : Atom → ℕ) (ms : List Memory) (mems : List (List ℕ))
    → All (λ (x : Memory). All (λ (p : Port). (value2 (renamed m p.addr) ≡ value p.addr) × (value2 (renamed m p.enable) ≡ value p.enable) × (value2 (renamed m p.value) ≡ value p.value)) x.ports) ms
    → clocked_memories value2 (map (renamed_memory m) ms) mems ≡ clocked_memories value ms mems
memories_kept m value value2 [] mems all = refl
memories_kept m value value2 (x ∷ ms) [] all = refl
memories_kept m value value2 (x ∷ ms) (words ∷ mems) all =
    let P : Memory → Type 0 =
    λ x. All (λ (p : Port). (value2 (renamed m p.addr) ≡ value p.addr) × (value2 (renamed m p.enable) ≡ value p.enable) × (value2 (renamed m p.value) ≡ value p.value)) x.ports in
    ap₂ (λ w l. w ∷ l) (words_kept m value value2 x.ports words (All-head P x ms all)) (memories_kept m value value2 ms mems (All-tail P x ms all))

-- ---- lists in step

all_from : {A B : Type 0} (f : A → B) (P Q : A → Type 0) (R : B → Type 0) (xs : List A) → ((x : A) → P x → Q x → R (f x)) → All P xs → All Q xs → All R (map f xs)
all_from f P Q R [] turn p q = All-nil R
all_from f P Q R (x ∷ xs) turn p q =
    All-cons R (f x) (map f xs) (turn x (All-head P x xs p) (All-head Q x xs q)) (all_from f P Q R xs turn (All-tail P x xs p) (All-tail Q x xs q))

all_here : {A : Type 0} (P Q R : A → Type 0) (xs : List A) → ((x : A) → P x → Q x → R x) → All P xs → All Q xs → All R xs
all_here P Q R [] turn p q = All-nil R
all_here P Q R (x ∷ xs) turn p q = All-cons R x xs (turn x (All-head P x xs p) (All-head Q x xs q)) (all_here P Q R xs turn (All-tail P x xs p) (All-tail Q x xs q))

map_same : {A B C : Type 0} (f : A → B) (g : B → C) (h : A → C) (xs : List A) → All (λ x. g (f x) ≡ h x) xs → map g (map f xs) ≡ map h xs
map_same f g h [] all = refl
map_same f g h (x ∷ xs) all = ap₂ (λ y l. y ∷ l) (All-head (λ x. g (f x) ≡ h x) x xs all) (map_same f g h xs (All-tail (λ x. g (f x) ≡ h x) x xs all))

all_at : {A : Type 0} (P : A → Type 0) (xs : List A) → All P xs → (k : ℕ) (x : A) → slice_get xs k ≡ Some x → P x
all_at P [] all k x e = absurd (cc)
all_at P (y ∷ xs) all zero x e = let same : y ≡ x = cc in subst P same (All-head P y xs all)
all_at P (y ∷ xs) all (suc k) x e = all_at P xs (All-tail P y xs all) k x e

-- ---- the number of wires of a kind

count_kept : (p : Wire → Bool) (m : Marked) (bs : List Bool) (ws : List Wire) → ((w : Wire) → p (renamed_wire m w) ≡ p w) → length bs ≡ length ws
    → ((k : ℕ) (w : Wire) → slice_get ws k ≡ Some w → p w ≡ true → slice_get bs k ≡ Some true) → count_by p (map (renamed_wire m) (kept bs ws)) ≡ count_by p ws
count_kept p m [] [] same h marked = refl
count_kept p m [] (w ∷ ws) same h marked = absurd (omega (arith, h))
count_kept p m (b ∷ bs) [] same h marked = absurd (omega (arith, h))
count_kept p m (true ∷ bs) (w ∷ ws) same h marked =
    sum_by-cons (λ x. cond (p x) 1 0) (renamed_wire m w) (map (renamed_wire m) (kept bs ws))
    ∙ (ap₂ (λ t n. cond t 1 0 + n) (same w) (count_kept p m bs ws same (omega (arith, h)) (λ k x e t. marked (suc k) x e t)) ∙ sym (sum_by-cons (λ x. cond (p x) 1 0) w ws))
count_kept p m (false ∷ bs) (w ∷ ws) same h marked =
    let none : p w ≡ false =
    elim (cases_Bool (p w)) [
      | inl yes_ ↦ let clash : Some false ≡ Some true = marked 0 w refl yes_ in absurd (cc)
      | inr no_ ↦ no_
    ] in
    let nothing_more : 0 + count_by p ws ≡ count_by p ws = omega arith in
    let rest : count_by p (w ∷ ws) ≡ count_by p ws = sum_by-cons (λ x. cond (p x) 1 0) w ws ∙ (ap (λ t. cond t 1 0 + count_by p ws) none ∙ nothing_more) in
    count_kept p m bs ws same (omega (arith, h)) (λ k x e t. marked (suc k) x e t) ∙ sym rest

product_same : (m : Marked) (e : Net) → is_product (renamed_net m e) ≡ is_product e
product_same m (net.Copy a) = refl
product_same m (net.Not a) = refl
product_same m (net.Two op a b) = two op
  where
    two : (op : Pair) → is_product (net.Two op (renamed m a) (renamed m b)) ≡ is_product (net.Two op a b)
    two pair.Add = refl
    two pair.Sub = refl
    two pair.Mul = refl
    two pair.And = refl
    two pair.Or = refl
    two pair.Xor = refl
    two pair.Equal = refl
    two pair.Below = refl
    two pair.Left = refl
    two pair.Right = refl
product_same m (net.Pick test a b) = refl
product_same m (net.Join high low) = refl
product_same m (net.Part a high low) = refl
product_same m (net.Word mem address) = refl

difference_same : (m : Marked) (e : Net) → is_difference (renamed_net m e) ≡ is_difference e
difference_same m (net.Copy a) = refl
difference_same m (net.Not a) = refl
difference_same m (net.Two op a b) = two op
  where
    two : (op : Pair) → is_difference (net.Two op (renamed m a) (renamed m b)) ≡ is_difference (net.Two op a b)
    two pair.Add = refl
    two pair.Sub = refl
    two pair.Mul = refl
    two pair.And = refl
    two pair.Or = refl
    two pair.Xor = refl
    two pair.Equal = refl
    two pair.Below = refl
    two pair.Left = refl
    two pair.Right = refl
difference_same m (net.Pick test a b) = refl
difference_same m (net.Join high low) = refl
difference_same m (net.Part a high low) = refl
difference_same m (net.Word mem address) = refl

product_unit : (bits : ℕ) (w : Wire) → ((w.bits == bits) && is_product w.net) ≡ true → is_unit w ≡ true
product_unit bits w h = or_left (is_product w.net) _ (second (w.bits == bits) (is_product w.net) h)

difference_unit : (bits : ℕ) (w : Wire) → (bits ≡ 32) ⊎ (bits ≡ 64) → ((w.bits == bits + 1) && is_difference w.net) ≡ true → is_unit w ≡ true
difference_unit bits w (inl e) h =
    let wide : (w.bits == 33) ≡ true = ap (λ b. w.bits == b + 1) (sym e) ∙ first (w.bits == bits + 1) (is_difference w.net) h in
    or_right (is_product w.net) _ (ap₂ (λ x y. x && y) (second (w.bits == bits + 1) (is_difference w.net) h) (or_left (w.bits == 33) (w.bits == 65) wide))
difference_unit bits w (inr e) h =
    let wide : (w.bits == 65) ≡ true = ap (λ b. w.bits == b + 1) (sym e) ∙ first (w.bits == bits + 1) (is_difference w.net) h in
    or_right (is_product w.net) _ (ap₂ (λ x y. x && y) (second (w.bits == bits + 1) (is_difference w.net) h) (or_right (w.bits == 33) (w.bits == 65) wide))

-- ---- the whole

module _ (d : Netlist) (m : Marked) (valid : IsValid d) (closed : IsClosed d m) where
  abbrev less : Netlist
  less = reduced m d

  abbrev keep : List ℕ
  keep = marked_places 0 m.regs

  regs_most : length d.regs ≤ length m.regs
  regs_most = let h = closed.count_regs in omega (arith, h)

  wires_most : length d.wires ≤ length m.wires
  wires_most = let h = closed.count_wires in omega (arith, h)

  fewer : Fewer m (widths d) (widths less)
  fewer = fewer_after m d d.wires regs_most wires_most

  -- the marks of all wires
  split : Split m [] d.wires [] m.wires
  split = record {
    whole = refl;
    behind = refl;
    ahead = closed.count_wires;
    marked = λ k w e g. closed.wires k w g (get_or_from_slice_get m.wires k true true e);
  }

  widths_count : length m.regs ≡ length (register_widths d)
  widths_count = closed.count_regs ∙ sym (length-map d.regs (λ (r : Reg). r.bits))

  regs_count : (s : State) → IsState d s → length d.regs ≡ length s.regs
  regs_count s is = sym (length-map d.regs (λ (r : Reg). r.bits)) ∙ fit_length (register_widths d) s.regs is.regs

  -- the values that stay
  values_here : (s : State) (pins : List ℕ) → IsState d s → wire_values less (kept_state m s) pins ≡ kept m.wires (wire_values d s pins)
  values_here s pins is =
      ap₂ (λ b l. values_behind less (kept_state m s) pins (map (renamed_wire m) b) l (map (renamed_wire m) (kept m.wires d.wires))) (sym (kept_none m.wires)) (sym (kept_none m.wires))
      ∙ values_fewer m d s pins regs_most (regs_count s is) [] [] d.wires [] m.wires split refl valid.wires

  seen_here : (s : State) (pins : List ℕ) → IsState d s → (n : ℕ) (a : Atom) → HasBits (widths d) n a → IsMarked m a → seen less (kept_state m s) pins (renamed m a) ≡ seen d s pins a
  seen_here s pins is n a h mark =
      ap (λ l. value_of pins (kept m.regs s.regs) l (renamed m a)) (values_here s pins is)
      ∙ atoms_fewer m d s pins d.wires (wire_values d s pins) regs_most (regs_count s is) wires_most (sym (wire_values_length d s pins)) n a h mark

  -- the registers by their numbers
  state_is : (s : State) → IsState d s → kept_registers keep s ≡ kept_state m s
  state_is s is = ap (λ (l : List ℕ). record { regs = l; mems = s.mems }) (at_places m.regs s.regs (closed.count_regs ∙ regs_count s is))

  port_here : (s : State) (pins : List ℕ) → IsState d s → (x : Memory) (p : Port) → PortFits (widths d) x p → PortIsMarked m p
      → (seen less (kept_state m s) pins (renamed m p.addr) ≡ seen d s pins p.addr) × (seen less (kept_state m s) pins (renamed m p.enable) ≡ seen d s pins p.enable)
      × (seen less (kept_state m s) pins (renamed m p.value) ≡ seen d s pins p.value)
  port_here s pins is x p f k =
      (seen_here s pins is x.depth_log p.addr f.addr k.0, seen_here s pins is 1 p.enable f.enable k.1, seen_here s pins is x.bits p.value f.value k.2)

  stepped_here : (s : State) (pins : List ℕ) → IsState d s → stepped less (kept_state m s) pins ≡ kept_state m (stepped d s pins)
  stepped_here s pins is =
      let value = seen d s pins in
      let value2 = seen less (kept_state m s) pins in
      ap₂ (λ (r : List ℕ) (x : List (List ℕ)). record { regs = r; mems = x })
      (registers_kept m value value2 m.regs d.regs s.regs (regs_count s is) (λ k r e g.
      let f : RegisterFits (widths d) r = all_at (RegisterFits (widths d)) d.regs valid.regs k r g in
      let marks = closed.regs k r g (get_or_from_slice_get m.regs k true true e) in
      (seen_here s pins is 1 r.enable f.enable marks.0, seen_here s pins is r.bits r.next f.next marks.1)))
      (memories_kept m value value2 d.mems s.mems
      (all_here (MemoryFits (widths d)) (λ (x : Memory). All (PortIsMarked m) x.ports) _ d.mems
      (λ (x : Memory) (f : MemoryFits (widths d) x) g. all_here (PortFits (widths d) x) (PortIsMarked m) _ x.ports (λ p h k. port_here s pins is x p h k) f.ports g) valid.mems closed.roots.ports))

  step_fits : (s : State) (pins : List ℕ) → IsState d s → ArePins d pins → kept_registers keep (stepped d s pins) ≡ kept_state m (stepped d s pins)
  step_fits s pins is are = state_is (stepped d s pins) (step_is_state d s pins valid is are)

  pub same_circuit : IsReducedBy keep d less
  same_circuit = record {
    inputs = refl;
    pins = map_twice outer (renamed_output m) d.outputs;
    memories = map_twice sized (renamed_memory m) d.mems;
    below = places_below m.regs (length d.regs) closed.count_regs;
    widths = register_widths_kept m d ∙ sym (at_places m.regs (register_widths d) widths_count);
    begins = λ t is.
        let fit : Fit (kept m.regs (register_widths d)) t.regs = subst (λ l. Fit l t.regs) (register_widths_kept m d) is.regs in
        let whole : State = record { regs = filled m.regs t.regs; mems = t.mems } in
        let whole_is : IsState d whole = record { regs = filled_fits m.regs (register_widths d) t.regs widths_count fit; mems = memories_back m d.mems t.mems is.mems } in
        let back : kept_state m whole ≡ t = ap (λ (l : List ℕ). record { regs = l; mems = t.mems }) (filled_kept m.regs (register_widths d) t.regs widths_count fit) in
        (whole, (whole_is, state_is whole whole_is ∙ back));
    shows = λ s pins is are.
        ap (λ z. outputs less z pins) (state_is s is)
        ∙ map_same (renamed_output m) (λ (o : OutPin). seen less (kept_state m s) pins o.from) (λ (o : OutPin). seen d s pins o.from) d.outputs
        (all_here (OutputFits (widths d)) (λ (o : OutPin). IsMarked m o.from) _ d.outputs (λ (o : OutPin) (f : OutputFits (widths d) o) k. seen_here s pins is o.bits o.from f.from k) valid.outputs closed.roots.outputs);
    steps = λ s pins is are. ap (λ z. stepped less z pins) (state_is s is) ∙ (stepped_here s pins is ∙ sym (step_fits s pins is are));
  }

  atom_fits : (n : ℕ) (a : Atom) → HasBits (widths d) n a → IsMarked m a → HasBits (widths less) n (renamed m a)
  atom_fits n a h k = fits_fewer m (widths d) (widths less) fewer n a h k

  names_same : pin_names less ≡ pin_names d
  names_same = ap (λ l. map (λ (p : Pin). p.name) d.inputs ++ l) (map_twice (λ (o : OutPin). o.name) (renamed_output m) d.outputs)

  pub stays_valid : IsValid less
  stays_valid = record {
    name = valid.name;
    names = subst (All IsName) (sym names_same) valid.names;
    distinct = subst AreDistinct (sym names_same) valid.distinct;
    inputs = valid.inputs;
    wires = subst (λ b. WiresFit less (map (renamed_wire m) b) (map (renamed_wire m) (kept m.wires d.wires))) (kept_none m.wires) (wires_fewer m d regs_most [] d.wires [] m.wires split valid.wires);
    regs = all_kept (renamed_reg m) (RegisterFits (widths less)) m.regs d.regs (λ k r e g.
        let f : RegisterFits (widths d) r = all_at (RegisterFits (widths d)) d.regs valid.regs k r g in
        let marks = closed.regs k r g (get_or_from_slice_get m.regs k true true e) in
        record { bits = f.bits; enable = atom_fits 1 r.enable f.enable marks.0; next = atom_fits r.bits r.next f.next marks.1 });
    mems = all_from (renamed_memory m) (MemoryFits (widths d)) (λ (x : Memory). All (PortIsMarked m) x.ports) (MemoryFits (widths less)) d.mems (λ (x : Memory) (f : MemoryFits (widths d) x) g.
        record {
          bits = f.bits;
          depth = f.depth;
          some = subst (λ n. 0 < n) (sym (length-map x.ports (renamed_port m))) f.some;
          ports = all_from (renamed_port m) (PortFits (widths d) x) (PortIsMarked m) (PortFits (widths less) (renamed_memory m x)) x.ports (λ (p : Port) (h : PortFits (widths d) x p) k.
              record { addr = atom_fits x.depth_log p.addr h.addr k.0; enable = atom_fits 1 p.enable h.enable k.1; value = atom_fits x.bits p.value h.value k.2 }) f.ports g;
        }) valid.mems closed.roots.ports;
    outputs = all_from (renamed_output m) (OutputFits (widths d)) (λ (o : OutPin). IsMarked m o.from) (OutputFits (widths less)) d.outputs (λ (o : OutPin) (f : OutputFits (widths d) o) k.
        record { bits = f.bits; from = atom_fits o.bits o.from f.from k }) valid.outputs closed.roots.outputs;
  }

  units_at : (k : ℕ) (w : Wire) → slice_get d.wires k ≡ Some w → is_unit w ≡ true → slice_get m.wires k ≡ Some true
  units_at k w e u = let lt = slice_get_within d.wires k w e in let h = closed.count_wires in mark_at m.wires k (omega (arith, lt, h)) (closed.roots.units k w e u)

  -- the marks of a choice that covers these are no fewer
  fewest : (n : Marked) → IsClosed d n → Covers n m → (length less.regs ≤ marks_in n.regs) × (length less.wires ≤ marks_in n.wires)
  fewest n c covers =
      let regs = length-map (kept m.regs d.regs) (renamed_reg m) ∙ kept_count m.regs d.regs closed.count_regs in
      let wires = length-map (kept m.wires d.wires) (renamed_wire m) ∙ kept_count m.wires d.wires closed.count_wires in (
        subst (λ l. l ≤ marks_in n.regs) (sym regs) (fewer_marks m.regs n.regs (closed.count_regs ∙ sym c.count_regs) (λ k. covers (atom.Reg k))),
        subst (λ l. l ≤ marks_in n.wires) (sym wires) (fewer_marks m.wires n.wires (closed.count_wires ∙ sym c.count_wires) (λ k. covers (atom.Wire k))),
      )

  pub pruned : ((n : Marked) → IsClosed d n → Covers n m) → IsPruned d less
  pruned covered = record {
    keep = keep;
    reduced_by = same_circuit;
    valid = stays_valid;
    products = λ bits. count_kept (λ (w : Wire). (w.bits == bits) && is_product w.net) m m.wires d.wires (λ w. ap (λ t. (w.bits == bits) && t) (product_same m w.net)) closed.count_wires
        (λ k w e t. units_at k w e (product_unit bits w t));
    differences = λ bits which. count_kept (λ (w : Wire). (w.bits == bits + 1) && is_difference w.net) m m.wires d.wires (λ w. ap (λ t. (w.bits == bits + 1) && t) (difference_same m w.net)) closed.count_wires
        (λ k w e t. units_at k w e (difference_unit bits w which t));
    least = λ n c. fewest n c (covered n c);
  }
