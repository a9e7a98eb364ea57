-- Registers that are to be, one after another.
use Rattle.std.proofs.Common.{◌≡◌, ◌<◌, ℕ, suc, ◌+◌, Bool, List, [], ◌∷◌, ◌++◌, length, map, take, get_or, slice_get, Some, refl, sym, ap, ◌∙◌, subst, append_assoc, arith}
use Rattle.std.specs.Prelude.{nat_lt}
use Rattle.std.specs.List.{enumerate_from, flat_map, range_with_len}
use Rattle.std.proofs.lemmas.List.{append-nil, map-append, length-map, length-take-le, take_more}
use Rattle.std.proofs.lemmas.Grind.{flat_map-append}
use Rattle.std.proofs.lemmas.List.FromFn.{map-range_with_len_more, get_or-map-range_with_len}
use Rattle.std.proofs.lemmas.Option.{slice_get-get_or}
use Rattle.hls_base.specs.declared.number.ArrayId.{ArrayId}
use Rattle.ir_core.specs.declared.cfg.Memory.{Memory}
use Rattle.ir_core.specs.declared.cfg.Node.{Node}
use Rattle.ir_core.specs.declared.timed.Timed.{Timed}
use Rattle.clock_ir.specs.ClockRuns.{TimedNode, timed_node}
use Rattle.rtl_core.specs.Netlist.{Netlist}
use Rattle.datapath.specs.Plans.{Plan, Array, array_of, array_at, initial_cycles, numbered}
use Rattle.datapath.specs.Cycles.{Register}
use Rattle.datapath.specs.Circuits.{width}
use Rattle.datapath.specs.Control.{is_loop, time_bits}
use Rattle.datapath.specs.Ports.{port_count}
use Rattle.datapath.proofs.Programs.{memory_array}
use Rattle.datapath.specs.CircuitWires.Carrying.{IsBegun, idle}
use Rattle.datapath.proofs.Combining.{appends_named}
use Rattle.circuit_context.specs.declared.wanted.role.Role.{Role}
use Rattle.circuit_context.specs.Wanted.Roles.{named}
use Rattle.circuit_context.specs.declared.wanted.role.Role.TheVariants as role
use Rattle.circuit_context.specs.Wanted.Entries.{all_roles, control_roles, loop_roles, node_of, node_roles, port_roles, roles_if, value_roles, variable_of, word_roles}
use Rattle.circuit_context.specs.Wanted.Driving.{AreDistinct}
use Rattle.circuit_context.specs.declared.bank.bank.Bank.{Bank}
use Rattle.circuit_context.specs.declared.bank.slots.Slot.{Slot}
use Rattle.circuit_context.specs.Bank.Banks.{names_of, ArePortCounts, IsAllotted}
use Rattle.circuit_context.specs.Bank.Slots.{slot, Adds, AreRegistered}

-- ---- lists of what is to be

pub adds_none : (p : Plan) (xs : List Slot) → Adds p xs xs []
adds_none p xs = sym (append-nil xs)

pub adds_then : (p : Plan) (xs ys zs : List Slot) (a b : List Role) → Adds p xs ys a → Adds p ys zs b → Adds p xs zs (a ++ b)
adds_then p xs ys zs a b h k =
    k ∙ (ap (λ l. l ++ map (slot p) b) h ∙ (append_assoc xs (map (slot p) a) (map (slot p) b) ∙ ap (λ l. xs ++ l) (sym (map-append (slot p) a b))))

-- ---- lines of roles

pub enumerate_more : {X : Type 0} (n : ℕ) (xs : List X) (x : X) → enumerate_from n (xs ++ x ∷ []) ≡ enumerate_from n xs ++ (n + length xs, x) ∷ []
enumerate_more n [] x = let e : n ≡ n + 0 = omega arith in ap (λ k. (k, x) ∷ []) e
enumerate_more n (y ∷ xs) x =
    let e : n + 1 + length xs ≡ n + suc (length xs) = omega arith in
    ap (λ l. (n, y) ∷ l) (enumerate_more (n + 1) xs x ∙ ap (λ k. enumerate_from (n + 1) xs ++ (k, x) ∷ []) e)

-- one more of a line
pub adds_numbered : (p : Plan) (f : ℕ → Role) (from n k : ℕ) (xs ys zs : List Slot) → from + n ≡ k → Adds p xs ys (map f (range_with_len from n)) → Adds p ys zs (f k ∷ [])
    → Adds p xs zs (map f (range_with_len from (n + 1)))
adds_numbered p f from n k xs ys zs at_ h more =
    subst (Adds p xs zs) (sym (map-range_with_len_more f from n k at_)) (adds_then p xs ys zs (map f (range_with_len from n)) (f k ∷ []) h more)

range_more : (from n : ℕ) → range_with_len from (n + 1) ≡ range_with_len from n ++ (from + n) ∷ []
range_more from n = sym (same (range_with_len from (n + 1))) ∙ (map-range_with_len_more (λ k. k) from n (from + n) refl ∙ ap (λ l. l ++ (from + n) ∷ []) (same (range_with_len from n))) where
  same : (xs : List ℕ) → map (λ k. k) xs ≡ xs
  same [] = refl
  same (x ∷ xs) = ap (λ l. x ∷ l) (same xs)

-- the roles of one more number
pub adds_group : (p : Plan) (f : ℕ → List Role) (n : ℕ) (xs ys zs : List Slot) → Adds p xs ys (flat_map f (range_with_len 0 n)) → Adds p ys zs (f n) → Adds p xs zs (flat_map f (range_with_len 0 (n + 1)))
adds_group p f n xs ys zs h more =
    let number : 0 + n ≡ n = omega arith in
    let longer : range_with_len 0 (n + 1) ≡ range_with_len 0 n ++ n ∷ [] = range_more 0 n ∙ ap (λ k. range_with_len 0 n ++ k ∷ []) number in
    subst (Adds p xs zs) (sym (ap (flat_map f) longer ∙ (flat_map-append f (range_with_len 0 n) (n ∷ []) ∙ ap (λ l. flat_map f (range_with_len 0 n) ++ l) (append-nil (f n)))))
    (adds_then p xs ys zs (flat_map f (range_with_len 0 n)) (f n) h more)

-- the roles of one more element, with its number
pub adds_element : {X : Type 0} (p : Plan) (f : ℕ × X → List Role) (k : ℕ) (before : List X) (x : X) (xs ys zs : List Slot) → length before ≡ k → Adds p xs ys (flat_map f (enumerate_from 0 before)) → Adds p ys zs (f (k, x))
    → Adds p xs zs (flat_map f (enumerate_from 0 (before ++ x ∷ [])))
adds_element p f k before x xs ys zs count h more =
    let number : 0 + length before ≡ k = omega (arith, count) in
    let all = ap (flat_map f) (enumerate_more 0 before x ∙ ap (λ n. enumerate_from 0 before ++ (n, x) ∷ []) number)
    ∙ (flat_map-append f (enumerate_from 0 before) ((k, x) ∷ []) ∙ ap (λ l. flat_map f (enumerate_from 0 before) ++ l) (append-nil (f (k, x)))) in
    subst (Adds p xs zs) (sym all) (adds_then p xs ys zs (flat_map f (enumerate_from 0 before)) (f (k, x)) h more)

-- ---- groups

abbrev numbered_in : List (Node Timed) → ℕ → List (ℕ × TimedNode)
numbered_in nodes k = enumerate_from 0 (map timed_node (take k nodes))

pub adds_node : (p : Plan) (nodes : List (Node Timed)) (k : ℕ) (n : Node Timed) (xs ys zs : List Slot) → k < length nodes → n ≡ get_or nodes k n → Adds p xs ys (flat_map node_roles (numbered_in nodes k))
    → Adds p ys zs (node_roles (k, timed_node n)) → Adds p xs zs (flat_map node_roles (numbered_in nodes (k + 1)))
adds_node p nodes k n xs ys zs within is h more =
    let count : length (map timed_node (take k nodes)) ≡ k = length-map (take k nodes) timed_node ∙ length-take-le k nodes (omega (arith, within)) in
    let longer : take (k + 1) nodes ≡ take k nodes ++ n ∷ [] = take_more nodes k n within ∙ ap (λ m. take k nodes ++ m ∷ []) (sym is) in
    subst (λ l. Adds p xs zs (flat_map node_roles (enumerate_from 0 l))) (sym (ap (map timed_node) longer ∙ map-append timed_node (take k nodes) (n ∷ [])))
    (adds_element p node_roles k (map timed_node (take k nodes)) (timed_node n) xs ys zs count h more)

pub node_added : (p : Plan) (xs ys zs : List Slot) (i j : ℕ) (b : Bool) (n : TimedNode) → j ≡ i → b ≡ is_loop (Some n) → Adds p xs ys (role.Active (node_of j) ∷ []) → Adds p ys zs (roles_if b (role.Load (node_of j)))
    → Adds p xs zs (node_roles (i, n))
node_added p xs ys zs i j b n at_ loop h more =
    subst (λ (k : ℕ). Adds p xs zs (role.Active (node_of k) ∷ roles_if (is_loop (Some n)) (role.Load (node_of k)))) at_
    (subst (λ (t : Bool). Adds p xs zs (role.Active (node_of j) ∷ roles_if t (role.Load (node_of j)))) loop (adds_then p xs ys zs (role.Active (node_of j) ∷ []) (roles_if b (role.Load (node_of j))) h more))

pub control_added : (p : Plan) (nodes : List (Node Timed)) (a b c d e f : List Slot) (cycles bits : ℕ) → cycles ≡ initial_cycles p → bits ≡ time_bits p → p.program.nodes ≡ map timed_node nodes
    → Adds p a b (role.Ready ∷ []) → Adds p b c (role.Done ∷ []) → Adds p c d (roles_if (nat_lt 0 cycles) role.Initial) → Adds p d e (roles_if (nat_lt 0 bits) role.Time)
    → Adds p e f (flat_map node_roles (enumerate_from 0 (map timed_node nodes))) → Adds p a f (control_roles p)
control_added p nodes a b c d e f cycles bits first second same one two three four five =
    let initial : Adds p c d (roles_if (nat_lt 0 (initial_cycles p)) role.Initial) = subst (λ (n : ℕ). Adds p c d (roles_if (nat_lt 0 n) role.Initial)) first three in
    let time : Adds p d e (roles_if (nat_lt 0 (time_bits p)) role.Time) = subst (λ (n : ℕ). Adds p d e (roles_if (nat_lt 0 n) role.Time)) second four in
    let states : Adds p e f (flat_map node_roles (numbered p)) = subst (λ (l : List TimedNode). Adds p e f (flat_map node_roles (enumerate_from 0 l))) (sym same) five in
    let last : List Role = roles_if (nat_lt 0 (time_bits p)) role.Time ++ flat_map node_roles (numbered p) in
    let rest : List Role = roles_if (nat_lt 0 (initial_cycles p)) role.Initial ++ last in
    adds_then p a b f (role.Ready ∷ []) (role.Done ∷ rest) one
    (adds_then p b c f (role.Done ∷ []) rest two
    (adds_then p c d f (roles_if (nat_lt 0 (initial_cycles p)) role.Initial) last initial (adds_then p d e f (roles_if (nat_lt 0 (time_bits p)) role.Time) (flat_map node_roles (numbered p)) time states)))

pub three_added : (p : Plan) (a b c d : List Slot) (xs ys zs : List Role) → Adds p a b xs → Adds p b c ys → Adds p c d zs → Adds p a d (xs ++ (ys ++ zs))
three_added p a b c d xs ys zs one two three = adds_then p a b d xs (ys ++ zs) one (adds_then p b c d ys zs two three)

pub results_added : (p : Plan) (a b c d : List Slot) (vs ws : List ℕ) (bits : ℕ) → p.program.shapes.widths ≡ vs → p.widths ≡ ws → bits ≡ p.result
    → Adds p a b (map (λ (v : ℕ). role.Variable (variable_of v)) (range_with_len 0 (length vs))) → Adds p b c (map role.Value (range_with_len 0 (length ws))) → Adds p c d (roles_if (nat_lt 0 bits) role.Result)
    → Adds p a d (value_roles p)
results_added p a b c d vs ws bits variables values result one two three =
    three_added p a b c d (map (λ (v : ℕ). role.Variable (variable_of v)) (range_with_len 0 (length p.program.shapes.widths))) (map role.Value (range_with_len 0 (length p.widths))) (roles_if (nat_lt 0 p.result) role.Result)
    (subst (λ (l : List ℕ). Adds p a b (map (λ (v : ℕ). role.Variable (variable_of v)) (range_with_len 0 (length l)))) (sym variables) one)
    (subst (λ (l : List ℕ). Adds p b c (map role.Value (range_with_len 0 (length l)))) (sym values) two) (subst (λ (n : ℕ). Adds p c d (roles_if (nat_lt 0 n) role.Result)) result three)

pub all_added : (p : Plan) (a b c d e : List Slot) (gates stages : ℕ) → a ≡ [] → Adds p a b (control_roles p) → Adds p b c (loop_roles p gates stages) → Adds p c d (value_roles p) → Adds p d e (port_roles p)
    → e ≡ map (slot p) (all_roles p gates stages)
all_added p a b c d e gates stages none one two three four =
    adds_then p a b e (control_roles p) (loop_roles p gates stages ++ (value_roles p ++ port_roles p)) one (three_added p b c d e (loop_roles p gates stages) (value_roles p) (port_roles p) two three four)
    ∙ ap (λ l. l ++ map (slot p) (all_roles p gates stages)) none

pub words_added : (p : Plan) (memories : List Memory) (ports : List ℕ) (k count : ℕ) (array : ArrayId) (xs ys zs : List Slot) → map array_of memories ≡ p.arrays → ArePortCounts p ports → k < length memories
    → array.0 ≡ k → count ≡ get_or ports k 0 → Adds p xs ys (flat_map (word_roles p) (range_with_len 0 k)) → Adds p ys zs (map (λ (n : ℕ). role.Word array n) (range_with_len 0 count))
    → Adds p xs zs (flat_map (word_roles p) (range_with_len 0 (k + 1)))
words_added p memories ports k count array xs ys zs arrays counts within at_ is h more =
    let many : length memories ≡ length p.arrays = sym (length-map memories array_of) ∙ ap length arrays in
    let own : count ≡ port_count p k = is ∙ (ap (λ l. get_or l k 0) counts ∙ get_or-map-range_with_len (port_count p) 0 (length p.arrays) k k 0 (omega (arith, within, many)) (omega arith)) in
    adds_group p (word_roles p) k xs ys zs h
    (subst (λ (a : ℕ). Adds p ys zs (map (λ (n : ℕ). role.Word (record { 0 = a }) n) (range_with_len 0 (port_count p k)))) at_
    (subst (λ (m : ℕ). Adds p ys zs (map (λ (n : ℕ). role.Word array n) (range_with_len 0 m))) own more))

-- a memory has the bits of its array
pub word_bits : (p : Plan) (memories : List Memory) (k a : ℕ) (m : Memory) → map array_of memories ≡ p.arrays → k < length memories → m ≡ get_or memories k m → a ≡ k → m.bits ≡ (array_at p a).bits
word_bits p memories k a m arrays within is at_ =
    let there : slice_get memories k ≡ Some m = slice_get-get_or memories k m within ∙ ap (λ n. Some n) (sym is) in
    sym (ap (λ (x : Array). x.bits) (ap (array_at p) at_ ∙ memory_array p memories k m arrays there))

-- ---- registers that are appended

pub registered_none : (d : Netlist) → AreRegistered d d [] []
registered_none d = record { are = refl; distinct = λ j k r at at_too. absurd cc; is = ap (λ regs. record d { regs = regs }) (sym (append-nil d.regs)) }

pub registered_more : (d e f : Netlist) (slots : List Slot) (roles after : List Role) (s : Slot) → AreRegistered d e slots roles → after ≡ roles ++ s.role ∷ [] → AreDistinct (map named after)
    → f ≡ record e { regs = e.regs ++ idle s.bits ∷ [] } → AreRegistered d f (slots ++ s ∷ []) after
registered_more d e f slots roles after s h is apart pushed =
    record {
      are = is ∙ (ap (λ l. l ++ s.role ∷ []) h.are ∙ sym (map-append (λ (t : Slot). t.role) slots (s ∷ [])));
      distinct = apart;
      is = pushed
          ∙ (ap (λ (n : Netlist). record n { regs = n.regs ++ idle s.bits ∷ [] }) h.is
          ∙ ap (λ regs. record d { regs = regs }) (append_assoc d.regs (map (λ (t : Slot). idle t.bits) slots) (idle s.bits ∷ []) ∙ ap (λ l. d.regs ++ l) (sym (map-append (λ (t : Slot). idle t.bits) slots (s ∷ [])))));
    }

roles_back : (p : Plan) (rs : List Role) → map (λ (s : Slot). s.role) (map (slot p) rs) ≡ rs
roles_back p [] = refl
roles_back p (r ∷ rs) = ap (λ l. r ∷ l) (roles_back p rs)

idle_back : (p : Plan) (rs : List Role) → map (λ (s : Slot). idle s.bits) (map (slot p) rs) ≡ map (λ (r : Register). idle (width p r)) (map named rs)
idle_back p [] = refl
idle_back p (r ∷ rs) = ap (λ l. idle (width p (named r)) ∷ l) (idle_back p rs)

-- all registers of a plan
pub allotted : (p : Plan) (d e : Netlist) (slots : List Slot) (bank : Bank) → IsBegun p [] d → slots ≡ map (slot p) (all_roles p bank.gates bank.stages) → AreRegistered d e slots bank.roles.keys
    → IsAllotted p d e bank
allotted p d e slots bank begun are h =
    let all : List Role = all_roles p bank.gates bank.stages in
    let roles : bank.roles.keys ≡ all = h.are ∙ (ap (map (λ (s : Slot). s.role)) are ∙ roles_back p all) in
    record {
      names = ap (map named) roles;
      distinct = h.distinct;
      appends = appends_named p [] (names_of bank) d e begun
          (h.is ∙ ap (λ regs. record d { regs = d.regs ++ regs }) (ap (map (λ (s : Slot). idle s.bits)) are ∙ (idle_back p all ∙ ap (λ rs. map (λ (r : Register). idle (width p r)) (map named rs)) (sym roles))));
    }
