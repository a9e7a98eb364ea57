-- Atoms, expressions and wires of the circuit of what is marked.
use Rattle.std.proofs.Common.{◌≡◌, ◌<◌, ◌≤◌, ◌+◌, ◌-◌, ◌*◌, ◌/◌, ◌%◌, ◌^◌, ℕ, suc, Bool, true, false, cond, List, [], ◌∷◌, ◌++◌, map, length, slice_index, Some, refl, sym, ap, ap₂, ◌∙◌, subst, append_assoc, length-append, arith}
use Rattle.std.specs.Prelude.{◌==◌, slice_get, slice_index_or}
use Rattle.std.proofs.lemmas.List.{map-append, length-map}
use Rattle.std.proofs.lemmas.Option.{slice_get_within, slice_get-get_or, get_or_from_slice_get, slice_get-map}
use Rattle.std.specs.Option.{option_map}
use Rattle.rtl_core.specs.declared.design.Atom.{Atom}
use Rattle.rtl_core.specs.declared.design.Atom.TheVariants as atom
use Rattle.rtl_core.specs.declared.design.Net.{Net}
use Rattle.rtl_core.specs.declared.design.Net.TheVariants as net
use Rattle.rtl_core.specs.declared.design.Wire.{Wire}
use Rattle.rtl_core.specs.declared.design.Reg.{Reg}
use Rattle.rtl_core.specs.Netlist.{Netlist, Memory}
use Rattle.rtl_core.specs.ClockStep.{State, Widths, bits_of, value_of, pair_value, word_at, net_value, register_widths, wire_widths, widths_after, values_behind}
use Rattle.rtl_core.specs.Valid.{HasBits, NetFits, WiresFit, IsConstant}
use Rattle.rtl_core.proofs.Stability.{net_kept}
use Rattle.rtl_core.proofs.Fits.{width_is}
use Rattle.rtl_logic.specs.Pruning.{Marked, is_marked, IsMarked, NetIsMarked, kept, place_in, renamed, renamed_net, renamed_wire, renamed_reg, renamed_port, renamed_memory, reduced}
use Rattle.rtl_logic.proofs.Folds.{operands_as}
use Rattle.rtl_logic.proofs.Keeping.{place_is, mark_at, kept_at, kept_map, kept_push, kept_skip, map_twice}

-- the entry of what is marked
pub entry : {A : Type 0} (bs : List Bool) (xs : List A) → length xs ≤ length bs → (k : ℕ) (x : A) → slice_get xs k ≡ Some x → slice_index_or bs k true ≡ true → slice_get (kept bs xs) (place_in bs k) ≡ Some x
entry bs xs le k x h mark =
    let within : k < length bs = let lt = slice_get_within xs k x h in omega (arith, lt, le) in
    ap (λ p. slice_get (kept bs xs) p) (place_is bs k within) ∙ kept_at bs xs k x (mark_at bs k within mark) h

index_kept : (bs : List Bool) (xs : List ℕ) → length xs ≤ length bs → (k : ℕ) → k < length xs → slice_index_or bs k true ≡ true → slice_index (kept bs xs) (place_in bs k) ≡ slice_index xs k
index_kept bs xs le k h mark = get_or_from_slice_get (kept bs xs) (place_in bs k) (slice_index xs k) 0 (entry bs xs le k (slice_index xs k) (slice_get-get_or xs k 0 h) mark)

module _ (m : Marked) where
  -- the widths of what is marked
  pub record Fewer (w v : Widths) : Type 0 where
    pub inputs : v.inputs ≡ w.inputs
    pub regs : v.regs ≡ kept m.regs w.regs
    pub wires : v.wires ≡ kept m.wires w.wires
    pub count_regs : length w.regs ≤ length m.regs
    pub count_wires : length w.wires ≤ length m.wires

  pub fits_fewer : (w v : Widths) → Fewer w v → (n : ℕ) (a : Atom) → HasBits w n a → IsMarked m a → HasBits v n (renamed m a)
  fits_fewer w v f n (atom.Constant bits value) h mark = h
  fits_fewer w v f n (atom.Input k) h mark = ap (λ l. slice_get l k) f.inputs ∙ h
  fits_fewer w v f n (atom.Reg k) h mark = ap (λ l. slice_get l (place_in m.regs k)) f.regs ∙ entry m.regs w.regs f.count_regs k n h mark
  fits_fewer w v f n (atom.Wire k) h mark = ap (λ l. slice_get l (place_in m.wires k)) f.wires ∙ entry m.wires w.wires f.count_wires k n h mark

  pub value_fewer : (w : Widths) (pins regs wires : List ℕ) → length w.regs ≡ length regs → length w.wires ≡ length wires → length w.regs ≤ length m.regs → length w.wires ≤ length m.wires
      → (n : ℕ) (a : Atom) → HasBits w n a → IsMarked m a → value_of pins (kept m.regs regs) (kept m.wires wires) (renamed m a) ≡ value_of pins regs wires a
  value_fewer w pins regs wires r f more_r more_f n (atom.Constant bits value) h mark = refl
  value_fewer w pins regs wires r f more_r more_f n (atom.Input k) h mark = refl
  value_fewer w pins regs wires r f more_r more_f n (atom.Reg k) h mark =
      index_kept m.regs regs (subst (λ l. l ≤ length m.regs) r more_r) k (subst (λ l. k < l) r (slice_get_within w.regs k n h)) mark
  value_fewer w pins regs wires r f more_r more_f n (atom.Wire k) h mark =
      index_kept m.wires wires (subst (λ l. l ≤ length m.wires) f more_f) k (subst (λ l. k < l) f (slice_get_within w.wires k n h)) mark

  -- ---- expressions

  -- the value at the new name, where the atom is marked
  abbrev through : (Atom → ℕ) → (Atom → ℕ) → Atom → ℕ
  through new old a = cond (is_marked m a) (new (renamed m a)) (old a)

  through_new : (new old : Atom → ℕ) (a : Atom) → IsMarked m a → new (renamed m a) ≡ through new old a
  through_new new old a mark = ap (λ b. cond b (new (renamed m a)) (old a)) (sym mark)

  through_old : (b : Bool) (x y : ℕ) → (b ≡ true → x ≡ y) → cond b x y ≡ y
  through_old true x y h = h refl
  through_old false x y h = refl

  -- an expression under new names
  net_renamed : (width width2 value value2 : Atom → ℕ) (mems : List (List ℕ)) (n : ℕ) (e : Net) → NetIsMarked m e
      → net_value width2 value2 mems n (renamed_net m e) ≡ net_value (through width2 width) (through value2 value) mems n e
  net_renamed width width2 value value2 mems n (net.Copy a) h = through_new value2 value a h
  net_renamed width width2 value value2 mems n (net.Not a) h = ap (λ x. 2 ^ n - 1 - x) (through_new value2 value a h)
  net_renamed width width2 value value2 mems n (net.Two op a b) h = ap₂ (λ x y. pair_value op n x y) (through_new value2 value a h.0) (through_new value2 value b h.1)
  net_renamed width width2 value value2 mems n (net.Pick test a b) h =
      ap (λ t. cond (t == 1) (value2 (renamed m a)) (value2 (renamed m b))) (through_new value2 value test h.0)
      ∙ ap₂ (λ x y. cond (through value2 value test == 1) x y) (through_new value2 value a h.1) (through_new value2 value b h.2)
  net_renamed width width2 value value2 mems n (net.Join high low) h =
      ap₂ (λ x y. x * 2 ^ y + value2 (renamed m low)) (through_new value2 value high h.0) (through_new width2 width low h.1)
      ∙ ap (λ z. through value2 value high * 2 ^ through width2 width low + z) (through_new value2 value low h.1)
  net_renamed width width2 value value2 mems n (net.Part a high low) h = ap (λ x. x / 2 ^ low % 2 ^ (high + 1 - low)) (through_new value2 value a h)
  net_renamed width width2 value value2 mems n (net.Word mem address) h = ap (λ x. word_at mems mem x) (through_new value2 value address h)

  pub net_fewer_value : (w : Widths) (ms : List Memory) (mems : List (List ℕ)) (width width2 value value2 : Atom → ℕ) → ((n : ℕ) (a : Atom) → HasBits w n a → IsMarked m a → width2 (renamed m a) ≡ width a)
      → ((n : ℕ) (a : Atom) → HasBits w n a → IsMarked m a → value2 (renamed m a) ≡ value a) → (n : ℕ) (e : Net) → NetFits w ms n e → NetIsMarked m e
      → net_value width2 value2 mems n (renamed_net m e) ≡ net_value width value mems n e
  net_fewer_value w ms mems width width2 value value2 ws vs n e fits marked =
      net_renamed width width2 value value2 mems n e marked
      ∙ net_kept w ms mems mems width (through width2 width) value (through value2 value) (λ k a h. through_old (is_marked m a) (width2 (renamed m a)) (width a) (ws k a h))
      (λ k a h. through_old (is_marked m a) (value2 (renamed m a)) (value a) (vs k a h)) (λ k x e. refl) n e fits

  not_constant : (a : Atom) → ¬ IsConstant a → ¬ IsConstant (renamed m a)
  not_constant (atom.Constant bits value) h c = h c
  not_constant (atom.Input k) h c = c
  not_constant (atom.Reg k) h c = c
  not_constant (atom.Wire k) h c = c

  pub net_fewer : (w v : Widths) (ms : List Memory) → Fewer w v → (n : ℕ) (e : Net) → NetFits w ms n e → NetIsMarked m e → NetFits v (map (renamed_memory m) ms) n (renamed_net m e)
  net_fewer w v ms f n (net.Copy a) h k = fits_fewer w v f n a h k
  net_fewer w v ms f n (net.Not a) h k = fits_fewer w v f n a h k
  net_fewer w v ms f n (net.Two op a b) h k =
      operands_as op n (λ b_. HasBits w b_ a) (λ b_. HasBits w b_ b) (λ b_. HasBits v b_ (renamed m a)) (λ b_. HasBits v b_ (renamed m b)) (λ b_ g. fits_fewer w v f b_ a g k.0)
      (λ b_ g. fits_fewer w v f b_ b g k.1) h
  net_fewer w v ms f n (net.Pick test a b) h k = (fits_fewer w v f 1 test h.0 k.0, fits_fewer w v f n a h.1 k.1, fits_fewer w v f n b h.2 k.2)
  net_fewer w v ms f n (net.Join high low) h k = (h.0, h.1, fits_fewer w v f h.0 high h.2 k.0, fits_fewer w v f h.1 low h.3 k.1, h.4)
  net_fewer w v ms f n (net.Part a high low) h k = (not_constant a h.0, (h.1.0, fits_fewer w v f h.1.0 a h.1.1 k, h.1.2, h.1.3, h.1.4))
  net_fewer w v ms f n (net.Word mem address) h k = (
    renamed_memory m h.0,
    slice_get-map (renamed_memory m) ms mem ∙ ap (option_map (renamed_memory m)) h.1,
    record {
      bits = h.2.bits;
      wide = fits_fewer w v f h.0.depth_log address h.2.wide k;
      port = (
        h.2.port.0,
        renamed_port m h.2.port.1,
        slice_get-map (renamed_port m) h.0.ports h.2.port.0 ∙ ap (option_map (renamed_port m)) h.2.port.2,
        ap (renamed m) h.2.port.3,
      );
    },
  )

  -- ---- wires

  -- the wires before that stay
  abbrev pub kept_wires : List Wire → List Wire
  kept_wires before = map (renamed_wire m) (kept m.wires before)

  pub register_widths_kept : (d : Netlist) → register_widths (reduced m d) ≡ kept m.regs (register_widths d)
  register_widths_kept d = map_twice (λ (r : Reg). r.bits) (renamed_reg m) (kept m.regs d.regs) ∙ sym (kept_map (λ (r : Reg). r.bits) m.regs d.regs)

  wire_widths_kept : (ws : List Wire) → wire_widths (kept_wires ws) ≡ kept m.wires (wire_widths ws)
  wire_widths_kept ws = map_twice (λ (w : Wire). w.bits) (renamed_wire m) (kept m.wires ws) ∙ sym (kept_map (λ (w : Wire). w.bits) m.wires ws)

  pub fewer_after : (d : Netlist) (before : List Wire) → length d.regs ≤ length m.regs → length before ≤ length m.wires → Fewer (widths_after d before) (widths_after (reduced m d) (kept_wires before))
  fewer_after d before regs wires = record {
    inputs = refl;
    regs = register_widths_kept d;
    wires = wire_widths_kept before;
    count_regs = subst (λ l. l ≤ length m.regs) (sym (length-map d.regs (λ (r : Reg). r.bits))) regs;
    count_wires = subst (λ l. l ≤ length m.wires) (sym (length-map before (λ (w : Wire). w.bits))) wires;
  }

  -- the marks of the wires: those before, and those that follow
  pub record Split (before ws : List Wire) (bs cs : List Bool) : Type 0 where
    pub whole : m.wires ≡ bs ++ cs
    pub behind : length bs ≡ length before
    pub ahead : length cs ≡ length ws
    pub marked : (k : ℕ) (w : Wire) → slice_get cs k ≡ Some true → slice_get ws k ≡ Some w → NetIsMarked m w.net

  split_next : (before ws : List Wire) (bs cs : List Bool) (b : Bool) (w : Wire) → Split before (w ∷ ws) bs (b ∷ cs) → Split (before ++ w ∷ []) ws (bs ++ b ∷ []) cs
  split_next before ws bs cs b w s = record {
    whole = s.whole ∙ sym (append_assoc bs (b ∷ []) cs);
    behind = length-append bs (b ∷ []) ∙ (ap (λ n. n + 1) s.behind ∙ sym (length-append before (w ∷ [])));
    ahead = let h = s.ahead in omega (arith, h);
    marked = λ k x e g. s.marked (suc k) x e g;
  }

  split_room : (before ws : List Wire) (bs cs : List Bool) → Split before ws bs cs → length before ≤ length m.wires
  split_room before ws bs cs s = let whole = ap length s.whole ∙ length-append bs cs in let behind = s.behind in omega (arith, whole, behind)

  kept_more : {A : Type 0} (bs cs : List Bool) (xs : List A) (x : A) → m.wires ≡ bs ++ true ∷ cs → length bs ≡ length xs → kept m.wires (xs ++ x ∷ []) ≡ kept m.wires xs ++ x ∷ []
  kept_more bs cs xs x e h = ap (λ l. kept l (xs ++ x ∷ [])) e ∙ (kept_push bs cs xs x h ∙ ap (λ l. kept l xs ++ x ∷ []) (sym e))

  kept_same : {A : Type 0} (bs cs : List Bool) (xs : List A) (x : A) → m.wires ≡ bs ++ false ∷ cs → length bs ≡ length xs → kept m.wires (xs ++ x ∷ []) ≡ kept m.wires xs
  kept_same bs cs xs x e h = ap (λ l. kept l (xs ++ x ∷ [])) e ∙ (kept_skip bs cs xs x h ∙ ap (λ l. kept l xs) (sym e))

  wires_more : (before : List Wire) (w : Wire) (bs cs : List Bool) → m.wires ≡ bs ++ true ∷ cs → length bs ≡ length before → kept_wires (before ++ w ∷ []) ≡ kept_wires before ++ renamed_wire m w ∷ []
  wires_more before w bs cs e h = ap (map (renamed_wire m)) (kept_more bs cs before w e h) ∙ map-append (renamed_wire m) (kept m.wires before) (w ∷ [])

  pub wires_fewer : (d : Netlist) → length d.regs ≤ length m.regs → (before ws : List Wire) (bs cs : List Bool) → Split before ws bs cs → WiresFit d before ws
      → WiresFit (reduced m d) (kept_wires before) (map (renamed_wire m) (kept cs ws))
  wires_fewer d r before [] bs [] s h = tt
  wires_fewer d r before [] bs (b ∷ cs) s h = absurd (let e = s.ahead in omega (arith, e))
  wires_fewer d r before (w ∷ ws) bs [] s h = absurd (let e = s.ahead in omega (arith, e))
  wires_fewer d r before (w ∷ ws) bs (true ∷ cs) s h = (
    h.0,
    net_fewer (widths_after d before) (widths_after (reduced m d) (kept_wires before)) d.mems (fewer_after d before r (split_room before (w ∷ ws) bs (true ∷ cs) s)) w.bits w.net h.1 (s.marked 0 w refl refl),
    subst (λ b. WiresFit (reduced m d) b (map (renamed_wire m) (kept cs ws))) (wires_more before w bs cs s.whole s.behind)
        (wires_fewer d r (before ++ w ∷ []) ws (bs ++ true ∷ []) cs (split_next before ws bs cs true w s) h.2),
  )
  wires_fewer d r before (w ∷ ws) bs (false ∷ cs) s h =
      subst (λ b. WiresFit (reduced m d) b (map (renamed_wire m) (kept cs ws))) (ap (map (renamed_wire m)) (kept_same bs cs before w s.whole s.behind))
      (wires_fewer d r (before ++ w ∷ []) ws (bs ++ false ∷ []) cs (split_next before ws bs cs false w s) h.2)

  -- the registers that stay
  abbrev pub kept_state : State → State
  kept_state s = record { regs = kept m.regs s.regs; mems = s.mems }

  -- the value of an atom of so many wires
  pub atoms_fewer : (d : Netlist) (s : State) (pins : List ℕ) (before : List Wire) (values : List ℕ) → length d.regs ≤ length m.regs → length d.regs ≡ length s.regs → length before ≤ length m.wires
      → length before ≡ length values → (n : ℕ) (a : Atom) → HasBits (widths_after d before) n a → IsMarked m a
      → value_of pins (kept m.regs s.regs) (kept m.wires values) (renamed m a) ≡ value_of pins s.regs values a
  atoms_fewer d s pins before values r count room same =
      value_fewer (widths_after d before) pins s.regs values (length-map d.regs (λ (q : Reg). q.bits) ∙ count) (length-map before (λ (w : Wire). w.bits) ∙ same)
      (subst (λ l. l ≤ length m.regs) (sym (length-map d.regs (λ (q : Reg). q.bits))) r) (subst (λ l. l ≤ length m.wires) (sym (length-map before (λ (w : Wire). w.bits))) room)

  width_fewer : (w v : Widths) → Fewer w v → (n : ℕ) (a : Atom) → HasBits w n a → IsMarked m a → bits_of v (renamed m a) ≡ bits_of w a
  width_fewer w v f n a h mark = width_is v n (renamed m a) (fits_fewer w v f n a h mark) ∙ sym (width_is w n a h)

  pub values_fewer : (d : Netlist) (s : State) (pins : List ℕ) → length d.regs ≤ length m.regs → length d.regs ≡ length s.regs → (before : List Wire) (values : List ℕ) (ws : List Wire) (bs cs : List Bool)
      → Split before ws bs cs → length before ≡ length values → WiresFit d before ws
      → values_behind (reduced m d) (kept_state s) pins (kept_wires before) (kept m.wires values) (map (renamed_wire m) (kept cs ws)) ≡ kept m.wires (values_behind d s pins before values ws)
  values_fewer d s pins r count before values [] bs [] p same h = refl
  values_fewer d s pins r count before values [] bs (b ∷ cs) p same h = absurd (let e = p.ahead in omega (arith, e))
  values_fewer d s pins r count before values (w ∷ ws) bs [] p same h = absurd (let e = p.ahead in omega (arith, e))
  values_fewer d s pins r count before values (w ∷ ws) bs (true ∷ cs) p same h =
      let e : Netlist = reduced m d in
      let room = split_room before (w ∷ ws) bs (true ∷ cs) p in
      let old : Widths = widths_after d before in
      let new : Widths = widths_after e (kept_wires before) in
      let v : ℕ = net_value (bits_of old) (value_of pins s.regs values) s.mems w.bits w.net in
      let u : ℕ = net_value (bits_of new) (value_of pins (kept m.regs s.regs) (kept m.wires values)) s.mems w.bits (renamed_net m w.net) in
      let here : u ≡ v =
      net_fewer_value old d.mems s.mems (bits_of old) (bits_of new) (value_of pins s.regs values) (value_of pins (kept m.regs s.regs) (kept m.wires values))
      (width_fewer old new (fewer_after d before r room)) (atoms_fewer d s pins before values r count room same) w.bits w.net h.1 (p.marked 0 w refl refl) in
      let rest : List Wire = map (renamed_wire m) (kept cs ws) in
      let longer : length (before ++ w ∷ []) ≡ length (values ++ v ∷ []) = length-append before (w ∷ []) ∙ (ap (λ n. n + 1) same ∙ sym (length-append values (v ∷ []))) in
      ap (λ x. values_behind e (kept_state s) pins (kept_wires before ++ renamed_wire m w ∷ []) (kept m.wires values ++ x ∷ []) rest) here
      ∙ (ap (λ b. values_behind e (kept_state s) pins b (kept m.wires values ++ v ∷ []) rest) (sym (wires_more before w bs cs p.whole p.behind))
      ∙ (ap (λ l. values_behind e (kept_state s) pins (kept_wires (before ++ w ∷ [])) l rest) (sym (kept_more bs cs values v p.whole (p.behind ∙ same)))
      ∙ values_fewer d s pins r count (before ++ w ∷ []) (values ++ v ∷ []) ws (bs ++ true ∷ []) cs (split_next before ws bs cs true w p) longer h.2))
  values_fewer d s pins r count before values (w ∷ ws) bs (false ∷ cs) p same h =
      let e : Netlist = reduced m d in
      let v : ℕ = net_value (bits_of (widths_after d before)) (value_of pins s.regs values) s.mems w.bits w.net in
      let rest : List Wire = map (renamed_wire m) (kept cs ws) in
      let longer : length (before ++ w ∷ []) ≡ length (values ++ v ∷ []) = length-append before (w ∷ []) ∙ (ap (λ n. n + 1) same ∙ sym (length-append values (v ∷ []))) in
      ap (λ b. values_behind e (kept_state s) pins b (kept m.wires values) rest) (ap (map (renamed_wire m)) (sym (kept_same bs cs before w p.whole p.behind)))
      ∙ (ap (λ l. values_behind e (kept_state s) pins (kept_wires (before ++ w ∷ [])) l rest) (sym (kept_same bs cs values v p.whole (p.behind ∙ same)))
      ∙ values_fewer d s pins r count (before ++ w ∷ []) (values ++ v ∷ []) ws (bs ++ false ∷ []) cs (split_next before ws bs cs false w p) longer h.2)
