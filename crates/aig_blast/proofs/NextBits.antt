-- The bits that registers take and that outputs show, one word after another.
use Rattle.std.proofs.Common.{◌≡◌, ◌<◌, ◌≤◌, ◌+◌, ◌==◌, ℕ, suc, Bool, List, [], ◌∷◌, ◌++◌, cond, length, take, get_or, refl, sym, ap, ◌∙◌, subst, arith}
use Rattle.std.proofs.lemmas.List.{append-nil, append_assoc, map-append, length-map, length-take-le, take_more, take_all, get_or-map}
use Rattle.std.proofs.lemmas.List.Elements.{All-append, All-nil}
use Rattle.aig_graph.specs.Graphs.{literal}
use Rattle.aig_graph.specs.Making.{Gates, IsSound, IsLiteral, Extends}
use Rattle.aig_graph.proofs.Growing.{stays, goes_on}
use Rattle.aig_graph.specs.Words.{Computes, bits, worded, numbers, word_at}
use Rattle.aig_graph.proofs.Making.{Constants, both, anyway, so, all_later}
use Rattle.rtl_core.specs.declared.design.Atom.{Atom}
use Rattle.rtl_core.specs.declared.design.Reg.{Reg}
use Rattle.rtl_core.specs.declared.design.OutPin.{OutPin}
use Rattle.rtl_core.specs.Netlist.{Netlist}
use Rattle.rtl_core.specs.ClockStep.{widths, register_widths, clocked_registers, seen, value_of, outputs, wire_values}
use Rattle.rtl_core.specs.Valid.{HasBits, IsValid, RegisterFits, OutputFits}
use Rattle.aig_blast.specs.declared.literals.Literals.{Literals}
use Rattle.aig_blast.specs.Encoding.{word_bits, encoded, output_widths, output_bits}
use Rattle.aig_blast.specs.Literals.{literals_of, shown, state_shown, pins_shown, IsBlasted, Shows}
use Rattle.aig_blast.proofs.Context.{atom_length, atom_fits, atom_value}
use Rattle.aig_blast.proofs.Bits.{bits_are}

-- the value of an atom in the circuit is what its literals show
pub seen_shown : (d : Netlist) (e : Gates) (t : Literals) (w : List Bool) (n : ℕ) (a : Atom) → Constants w → HasBits (widths d) n a
    → numbers w t.wires.items ≡ wire_values d (state_shown t w) (pins_shown t w) → shown t w a ≡ seen d (state_shown t w) (pins_shown t w) a
seen_shown d e t w n a c h same = atom_value w c t (widths d) n a h ∙ ap (λ z. value_of (pins_shown t w) (numbers w t.regs.items) z a) same

encoded_push : (ws xs : List ℕ) (n y : ℕ) → length ws ≡ length xs → encoded (ws ++ n ∷ []) (xs ++ y ∷ []) ≡ encoded ws xs ++ word_bits n y
encoded_push [] [] n y h = append-nil (word_bits n y)
encoded_push [] (x ∷ xs) n y h = absurd (omega arith)
encoded_push (v ∷ ws) [] n y h = absurd (omega arith)
encoded_push (v ∷ ws) (x ∷ xs) n y h =
    let same : length ws ≡ length xs = omega arith in
    ap (λ z. word_bits v x ++ z) (encoded_push ws xs n y same) ∙ sym (append_assoc (word_bits v x) (encoded ws xs) (word_bits n y))

clocked_push : (v : Atom → ℕ) (rs : List Reg) (xs : List ℕ) (r : Reg) (x : ℕ) → length rs ≡ length xs → clocked_registers v (rs ++ r ∷ []) (xs ++ x ∷ []) ≡ clocked_registers v rs xs ++ cond (v r.enable == 1) (v r.next) x ∷ []
clocked_push v [] [] r x h = refl
clocked_push v [] (y ∷ xs) r x h = absurd (omega arith)
clocked_push v (s ∷ rs) [] r x h = absurd (omega arith)
clocked_push v (s ∷ rs) (y ∷ xs) r x h =
    let same : length rs ≡ length xs = omega arith in
    ap (λ z. cond (v s.enable == 1) (v s.next) y ∷ z) (clocked_push v rs xs r x same)

clocked_length : (v : Atom → ℕ) (rs : List Reg) (xs : List ℕ) → length rs ≡ length xs → length (clocked_registers v rs xs) ≡ length rs
clocked_length v [] [] h = refl
clocked_length v [] (y ∷ xs) h = absurd (omega arith)
clocked_length v (s ∷ rs) [] h = absurd (omega arith)
clocked_length v (s ∷ rs) (y ∷ xs) h = let same : length rs ≡ length xs = omega arith in ap suc (clocked_length v rs xs same)

-- the literals of a word after others
pub shows_more : (d e f : Gates) (ls ms after : List ℕ) (n : ℕ) (V U : List Bool → List Bool) (N : List Bool → ℕ) → Shows d e ls V → Computes e f ms n N → after ≡ ls ++ ms
    → ((w : List Bool) → Constants w → U w ≡ V w ++ word_bits n (N w)) → Shows d f after U
shows_more d e f ls ms after n V U N a b is h = subst (λ z. Shows d f z U) (sym is) (record {
  extends = goes_on d e f a.extends b.extends;
  sound = b.sound;
  fits = All-append (IsLiteral f) ls ms (all_later e f b.extends ls a.fits) b.fits;
  value = both e f (λ w. bits w ls ≡ V w) (λ w. worded w ms ≡ N w) (λ w. bits w (ls ++ ms) ≡ U w) b.extends a.value b.value
      (λ w c p q. map-append (literal w) ls ms ∙ (ap (λ z. z ++ bits w ms) p ∙ (ap (λ z. V w ++ z) (bits_are w ms n b.count ∙ ap (word_bits n) q) ∙ sym (h w c))));
})

pub shows_none : (d : Gates) (ls : List ℕ) (V : List Bool → List Bool) → ls ≡ [] → IsSound d → ((w : List Bool) → [] ≡ V w) → Shows d d ls V
shows_none d ls V is sound h = subst (λ z. Shows d d z V) (sym is) (record { extends = stays d; sound = sound; fits = All-nil (IsLiteral d); value = anyway d (λ w. [] ≡ V w) (λ w c. h w) })

-- ---- registers

abbrev pub registers_so_far : Netlist → Literals → ℕ → List Bool → List Bool
registers_so_far d t k w = encoded (take k (register_widths d)) (clocked_registers (seen d (state_shown t w) (pins_shown t w)) (take k d.regs) (take k (state_shown t w).regs))

-- ---- outputs

abbrev pub outputs_so_far : Netlist → Literals → ℕ → List Bool → List Bool
outputs_so_far d t k w = encoded (take k (output_widths d)) (take k (outputs d (state_shown t w) (pins_shown t w)))

pub held_length : (d : Netlist) (e : Gates) (t : Literals) → IsBlasted d d.wires e t → length t.regs.items ≡ length d.regs
held_length d e t b = sym (length-map t.regs.items length) ∙ (ap length b.shaped.regs ∙ length-map d.regs (λ (r : Reg). r.bits))

pub held_width : (d : Netlist) (e : Gates) (t : Literals) (k : ℕ) (r : Reg) → IsBlasted d d.wires e t → k < length d.regs → r ≡ get_or d.regs k r → length (word_at t.regs.items k) ≡ r.bits
held_width d e t k r b h is =
    let there : k < length t.regs.items = omega (arith, held_length d e t b) in
    sym (get_or-map length t.regs.items k [] 0 there) ∙ (ap (λ z. get_or z k 0) b.shaped.regs ∙ (get_or-map (λ (r : Reg). r.bits) d.regs k r 0 h ∙ ap (λ (z : Reg). z.bits) (sym is)))

registers_step : (d : Netlist) (t : Literals) (w : List Bool) (k : ℕ) (r : Reg) → k < length d.regs → length t.regs.items ≡ length d.regs → r ≡ get_or d.regs k r
    → registers_so_far d t (k + 1) w ≡ registers_so_far d t k w
    ++ word_bits r.bits (cond (seen d (state_shown t w) (pins_shown t w) r.enable == 1) (seen d (state_shown t w) (pins_shown t w) r.next) (get_or (numbers w t.regs.items) k 0))
registers_step d t w k r h long is =
    let v = seen d (state_shown t w) (pins_shown t w) in
    let ws = register_widths d in
    let xs = numbers w t.regs.items in
    let ws_long : length ws ≡ length d.regs = length-map d.regs (λ (r : Reg). r.bits) in
    let xs_long : length xs ≡ length d.regs = length-map t.regs.items (worded w) ∙ long in
    let in_ws : k < length ws = omega arith in
    let in_xs : k < length xs = omega arith in
    let width : get_or ws k 0 ≡ r.bits = get_or-map (λ (r : Reg). r.bits) d.regs k r 0 h ∙ ap (λ (z : Reg). z.bits) (sym is) in
    let a : take (k + 1) ws ≡ take k ws ++ r.bits ∷ [] = take_more ws k 0 in_ws ∙ ap (λ z. take k ws ++ z ∷ []) width in
    let b : take (k + 1) d.regs ≡ take k d.regs ++ r ∷ [] = take_more d.regs k r h ∙ ap (λ z. take k d.regs ++ z ∷ []) (sym is) in
    let c : take (k + 1) xs ≡ take k xs ++ get_or xs k 0 ∷ [] = take_more xs k 0 in_xs in
    let rs_taken : length (take k d.regs) ≡ k = length-take-le k d.regs (omega arith) in
    let xs_taken : length (take k xs) ≡ k = length-take-le k xs (omega arith) in
    let ws_taken : length (take k ws) ≡ k = length-take-le k ws (omega arith) in
    let y = cond (v r.enable == 1) (v r.next) (get_or xs k 0) in
    ap (λ z. encoded z (clocked_registers v (take (k + 1) d.regs) (take (k + 1) xs))) a
    ∙ (ap (λ z. encoded (take k ws ++ r.bits ∷ []) (clocked_registers v z (take (k + 1) xs))) b
    ∙ (ap (λ z. encoded (take k ws ++ r.bits ∷ []) (clocked_registers v (take k d.regs ++ r ∷ []) z)) c
    ∙ (ap (λ z. encoded (take k ws ++ r.bits ∷ []) z) (clocked_push v (take k d.regs) (take k xs) r (get_or xs k 0) (rs_taken ∙ sym xs_taken))
    ∙ encoded_push (take k ws) (clocked_registers v (take k d.regs) (take k xs)) r.bits y
    (ws_taken ∙ sym (clocked_length v (take k d.regs) (take k xs) (rs_taken ∙ sym xs_taken) ∙ rs_taken)))))

-- what one register takes
register_value : (d : Netlist) (e f g : Gates) (t : Literals) (k : ℕ) (r : Reg) (ms : List ℕ) → IsValid d → IsBlasted d d.wires e t → Extends e g → k < length d.regs → r ≡ get_or d.regs k r
    → Computes f g ms r.bits (λ w. cond (shown t w r.enable == 1) (shown t w r.next) (worded w (word_at t.regs.items k)))
    → Computes f g ms r.bits (λ w. cond (seen d (state_shown t w) (pins_shown t w) r.enable == 1) (seen d (state_shown t w) (pins_shown t w) r.next) (get_or (numbers w t.regs.items) k 0))
register_value d e f g t k r ms valid b x h is m =
    let there : k < length t.regs.items = omega (arith, held_length d e t b) in
    let fit = subst (RegisterFits (widths d)) (sym is) (valid.regs k r h) in
    record {
      extends = m.extends;
      sound = m.sound;
      count = m.count;
      fits = m.fits;
      value = both e g (λ w. numbers w t.wires.items ≡ wire_values d (state_shown t w) (pins_shown t w))
          (λ w. worded w ms ≡ cond (shown t w r.enable == 1) (shown t w r.next) (worded w (word_at t.regs.items k)))
          (λ w. worded w ms ≡ cond (seen d (state_shown t w) (pins_shown t w) r.enable == 1) (seen d (state_shown t w) (pins_shown t w) r.next) (get_or (numbers w t.regs.items) k 0)) x b.value m.value
          (λ w c p q.
          let v = seen d (state_shown t w) (pins_shown t w) in
          q ∙ (ap (λ z. cond (z == 1) (shown t w r.next) (worded w (word_at t.regs.items k))) (seen_shown d e t w 1 r.enable c fit.enable p)
          ∙ (ap (λ z. cond (v r.enable == 1) z (worded w (word_at t.regs.items k))) (seen_shown d e t w r.bits r.next c fit.next p)
          ∙ ap (λ z. cond (v r.enable == 1) (v r.next) z) (sym (get_or-map (worded w) t.regs.items k [] 0 there)))));
    }

pub registers_more : (d : Netlist) (e f g : Gates) (t : Literals) (ls ms now after : List ℕ) (k : ℕ) (r : Reg) → IsValid d → IsBlasted d d.wires e t → k < length d.regs → r ≡ get_or d.regs k r
    → Shows e f ls (registers_so_far d t k) → Computes f g ms (length (literals_of t r.next)) (λ w. cond (shown t w r.enable == 1) (shown t w r.next) (worded w (word_at t.regs.items k)))
    → now ≡ ms → after ≡ ls ++ now → Shows e g after (registers_so_far d t (k + 1))
registers_more d e f g t ls ms now after k r valid b h is a m' now_is is_after =
    let fit = subst (RegisterFits (widths d)) (sym is) (valid.regs k r h) in
    let m = subst (λ z. Computes f g ms z (λ w. cond (shown t w r.enable == 1) (shown t w r.next) (worded w (word_at t.regs.items k)))) (atom_length d d.wires t b.shaped r.bits r.next fit.next) m' in
    shows_more e f g ls ms after r.bits (registers_so_far d t k) (registers_so_far d t (k + 1)) _ a
    (register_value d e f g t k r ms valid b (goes_on e f g a.extends m.extends) h is m) (is_after ∙ ap (λ z. ls ++ z) now_is) (λ w c. registers_step d t w k r h (held_length d e t b) is)

pub registers_all : (d : Netlist) (e f : Gates) (t : Literals) (ls : List ℕ) (k : ℕ) → length d.regs ≤ k → IsBlasted d d.wires e t → Shows e f ls (registers_so_far d t k)
    → Shows e f ls (λ w. encoded (register_widths d) (clocked_registers (seen d (state_shown t w) (pins_shown t w)) d.regs (state_shown t w).regs))
registers_all d e f t ls k h b a =
    let ws_long : length (register_widths d) ≡ length d.regs = length-map d.regs (λ (r : Reg). r.bits) in
    record {
      extends = a.extends;
      sound = a.sound;
      fits = a.fits;
      value = so f (λ w. bits w ls ≡ registers_so_far d t k w) (λ w. bits w ls ≡ encoded (register_widths d) (clocked_registers (seen d (state_shown t w) (pins_shown t w)) d.regs (state_shown t w).regs)) a.value
          (λ w c p.
          let v = seen d (state_shown t w) (pins_shown t w) in
          let xs = numbers w t.regs.items in
          let xs_long : length xs ≡ length d.regs = length-map t.regs.items (worded w) ∙ held_length d e t b in
          p ∙ (ap (λ z. encoded z (clocked_registers v (take k d.regs) (take k xs))) (take_all k (register_widths d) (omega arith))
          ∙ (ap (λ z. encoded (register_widths d) (clocked_registers v z (take k xs))) (take_all k d.regs h) ∙ ap (λ z. encoded (register_widths d) (clocked_registers v d.regs z)) (take_all k xs (omega arith)))));
    }

outputs_step : (d : Netlist) (t : Literals) (w : List Bool) (k : ℕ) (o : OutPin) → k < length d.outputs → o ≡ get_or d.outputs k o
    → outputs_so_far d t (k + 1) w ≡ outputs_so_far d t k w ++ word_bits o.bits (seen d (state_shown t w) (pins_shown t w) o.from)
outputs_step d t w k o h is =
    let v = seen d (state_shown t w) (pins_shown t w) in
    let ws = output_widths d in
    let xs = outputs d (state_shown t w) (pins_shown t w) in
    let ws_long : length ws ≡ length d.outputs = length-map d.outputs (λ (o : OutPin). o.bits) in
    let xs_long : length xs ≡ length d.outputs = length-map d.outputs (λ (o : OutPin). v o.from) in
    let in_ws : k < length ws = omega arith in
    let in_xs : k < length xs = omega arith in
    let width : get_or ws k 0 ≡ o.bits = get_or-map (λ (o : OutPin). o.bits) d.outputs k o 0 h ∙ ap (λ (z : OutPin). z.bits) (sym is) in
    let value : get_or xs k 0 ≡ v o.from = get_or-map (λ (o : OutPin). v o.from) d.outputs k o 0 h ∙ ap (λ (z : OutPin). v z.from) (sym is) in
    let ws_taken : length (take k ws) ≡ k = length-take-le k ws (omega arith) in
    let xs_taken : length (take k xs) ≡ k = length-take-le k xs (omega arith) in
    ap (λ z. encoded z (take (k + 1) xs)) (take_more ws k 0 in_ws ∙ ap (λ z. take k ws ++ z ∷ []) width)
    ∙ (ap (λ z. encoded (take k ws ++ o.bits ∷ []) z) (take_more xs k 0 in_xs ∙ ap (λ z. take k xs ++ z ∷ []) value)
    ∙ encoded_push (take k ws) (take k xs) o.bits (v o.from) (ws_taken ∙ sym xs_taken))

pub outputs_more : (d : Netlist) (e : Gates) (t : Literals) (ls ms now after : List ℕ) (k : ℕ) (o : OutPin) → IsValid d → IsBlasted d d.wires e t → k < length d.outputs → o ≡ get_or d.outputs k o
    → Shows e e ls (outputs_so_far d t k) → ms ≡ literals_of t o.from → now ≡ ms → after ≡ ls ++ now → Shows e e after (outputs_so_far d t (k + 1))
outputs_more d e t ls ms now after k o valid b h is a ms_is now_is is_after =
    let from : HasBits (widths d) o.bits o.from = (subst (OutputFits (widths d)) (sym is) (valid.outputs k o h)).from in
    let A = literals_of t o.from in
    shows_more e e e ls A after o.bits (outputs_so_far d t k) (outputs_so_far d t (k + 1)) (λ w. seen d (state_shown t w) (pins_shown t w) o.from) a
    (record {
      extends = stays e;
      sound = b.sound;
      count = atom_length d d.wires t b.shaped o.bits o.from from;
      fits = atom_fits e t b.fits o.from;
      value = so e (λ w. numbers w t.wires.items ≡ wire_values d (state_shown t w) (pins_shown t w)) (λ w. worded w A ≡ seen d (state_shown t w) (pins_shown t w) o.from) b.value (λ w c p. seen_shown d e t w o.bits o.from c from p);
    }) (is_after ∙ ap (λ z. ls ++ z) (now_is ∙ ms_is)) (λ w c. outputs_step d t w k o h is)

pub outputs_all : (d : Netlist) (e : Gates) (t : Literals) (ls : List ℕ) (k : ℕ) → length d.outputs ≤ k → Shows e e ls (outputs_so_far d t k) → Shows e e ls (λ w. output_bits d (outputs d (state_shown t w) (pins_shown t w)))
outputs_all d e t ls k h a =
    let ws_long : length (output_widths d) ≡ length d.outputs = length-map d.outputs (λ (o : OutPin). o.bits) in
    record {
      extends = a.extends;
      sound = a.sound;
      fits = a.fits;
      value = so e (λ w. bits w ls ≡ outputs_so_far d t k w) (λ w. bits w ls ≡ output_bits d (outputs d (state_shown t w) (pins_shown t w))) a.value
          (λ w c p.
          let xs = outputs d (state_shown t w) (pins_shown t w) in
          let xs_long : length xs ≡ length d.outputs = length-map d.outputs (λ (o : OutPin). seen d (state_shown t w) (pins_shown t w) o.from) in
          p ∙ (ap (λ z. encoded z (take k xs)) (take_all k (output_widths d) (omega arith)) ∙ ap (λ z. encoded (output_widths d) z) (take_all k xs (omega arith))));
    }

pub next_shown : (d e : Gates) (t : Literals) (k : ℕ) (r : Reg) (T X H ls : List ℕ) → T ≡ literals_of t r.enable → X ≡ literals_of t r.next → H ≡ word_at t.regs.items k
    → Computes d e ls (length X) (λ w. cond (worded w T == 1) (worded w X) (worded w H))
    → Computes d e ls (length (literals_of t r.next)) (λ w. cond (shown t w r.enable == 1) (shown t w r.next) (worded w (word_at t.regs.items k)))
next_shown d e t k r T X H ls is_t is_x is_h m =
    subst (λ z. Computes d e ls (length z) (λ w. cond (shown t w r.enable == 1) (worded w z) (worded w (word_at t.regs.items k)))) is_x
    (subst (λ z. Computes d e ls (length X) (λ w. cond (worded w z == 1) (worded w X) (worded w (word_at t.regs.items k)))) is_t
    (subst (λ z. Computes d e ls (length X) (λ w. cond (worded w T == 1) (worded w X) (worded w z))) is_h m))
