-- What is appended part by part, and stage by stage.
use Rattle.std.proofs.Common.{◌≡◌, ◌<◌, ◌+◌, ℕ, List, [], ◌∷◌, ◌++◌, map, drop, get_or, length, refl, sym, ap, ◌∙◌, append_assoc}
use Rattle.std.specs.List.{flat_map}
use Rattle.std.proofs.lemmas.List.{append-nil}
use Rattle.rtl_core.specs.declared.design.Wire.{Wire}
use Rattle.rtl_core.specs.declared.design.Reg.{Reg}
use Rattle.rtl_core.specs.declared.design.Design.{Design}
use Rattle.rtl_core.specs.Netlist.{Netlist, Memory, netlist_of}
use Rattle.chain_box.specs.StageEmbedding.Placing.{Place, Part, renamed_wires, part_wires, part_registers, part_memories, wires_of, registers_of, memories_of}
use Rattle.chain_link.specs.declared.numbers.Sizes.{Sizes}
use Rattle.chain_link.specs.declared.numbers.Queue.{Queue}
use Rattle.chain_link.specs.Linking.{sizes_behind, queue_behind, stage_parts, owned_stage, chain_parts, owned_parts, last_queue}
use Rattle.chain_link.proofs.StagePins.{next_stage}

pub part_pushed : (old new ws : List Wire) (x : Place) (q : Part) → new ≡ old ++ renamed_wires x ws → x ≡ q.place → ws ≡ q.circuit.wires → new ≡ old ++ part_wires q
part_pushed old new ws x q e f g = e ∙ (ap (λ z. old ++ renamed_wires z ws) f ∙ ap (λ z. old ++ renamed_wires q.place z) g)

pub two_pushed : (a b c : List Wire) (p q : Part) → b ≡ a ++ part_wires p → c ≡ b ++ part_wires q → c ≡ a ++ wires_of (p ∷ q ∷ [])
two_pushed a b c p q e f = f ∙ (ap (λ z. z ++ part_wires q) e ∙ (append_assoc a (part_wires p) (part_wires q) ∙ ap (λ z. a ++ (part_wires p ++ z)) (sym (append-nil (part_wires q)))))

pub three_pushed : (a b c d : List Wire) (p q r : Part) → b ≡ a ++ part_wires p → c ≡ b ++ part_wires q → d ≡ c ++ part_wires r → d ≡ a ++ wires_of (p ∷ q ∷ r ∷ [])
three_pushed a b c d p q r e f g =
    two_pushed b c d q r f g ∙ (ap (λ z. z ++ wires_of (q ∷ r ∷ [])) e ∙ append_assoc a (part_wires p) (wires_of (q ∷ r ∷ [])))

-- a part, three more, and a last one
pub five_pushed : (a b c d : List Wire) (p q r s t : Part) → b ≡ a ++ part_wires p → c ≡ b ++ wires_of (q ∷ r ∷ s ∷ []) → d ≡ c ++ part_wires t → d ≡ a ++ wires_of (p ∷ q ∷ r ∷ s ∷ t ∷ [])
five_pushed a b c d p q r s t e f g =
    let three = wires_of (q ∷ r ∷ s ∷ []) in
    g
    ∙ (ap (λ z. z ++ part_wires t) f
    ∙ (ap (λ z. (z ++ three) ++ part_wires t) e
    ∙ (append_assoc (a ++ part_wires p) three (part_wires t)
    ∙ (append_assoc a (part_wires p) (three ++ part_wires t)
    ∙ ap (λ z. a ++ (part_wires p ++ z)) (inner (part_wires q) (part_wires r) (part_wires s) (part_wires t)))))) where
      inner : (w x y z : List Wire) → (w ++ (x ++ (y ++ []))) ++ z ≡ w ++ (x ++ (y ++ (z ++ [])))
      inner w x y z =
          append_assoc w (x ++ (y ++ [])) z
          ∙ ap (λ l. w ++ l) (append_assoc x (y ++ []) z ∙ ap (λ l. x ++ l) (append_assoc y [] z ∙ ap (λ l. y ++ l) (sym (append-nil z))))

-- ---- stages

pieces_apart : {A : Type 0} (f : Part → List A) (xs ys : List Part) → flat_map f (xs ++ ys) ≡ flat_map f xs ++ flat_map f ys
pieces_apart f [] ys = refl
pieces_apart f (x ∷ xs) ys = ap (λ z. f x ++ z) (pieces_apart f xs ys) ∙ sym (append_assoc (f x) (flat_map f xs) (flat_map f ys))

-- the first of what is to come has been appended
moved : {A : Type 0} (have more total block rest whole : List A) → have ++ whole ≡ total → more ≡ have ++ block → whole ≡ block ++ rest → more ++ rest ≡ total
moved have more total block rest whole e f g = ap (λ z. z ++ rest) f ∙ (append_assoc have block rest ∙ (ap (λ z. have ++ z) (sym g) ∙ e))

module _ (stages : List Design) (k : ℕ) (x : Design) (lt : k < length stages) (is : x ≡ get_or stages k x) (s s2 : Sizes) (q q2 : Queue) (es : s2 ≡ sizes_behind s (netlist_of x)) (eq : q2 ≡ queue_behind s (netlist_of x)) where
  abbrev d : Netlist
  d = netlist_of x

  abbrev here : List Netlist
  here = map netlist_of (drop k stages)

  abbrev later : List Netlist
  later = map netlist_of (drop (k + 1) stages)

  splits : here ≡ d ∷ later
  splits = ap (map netlist_of) (next_stage stages k x lt is)

  pub wires_moved : (depth log depth2 log2 : ℕ) (have more total : List Wire) → depth2 ≡ depth → log2 ≡ log → have ++ wires_of (chain_parts depth log s q here) ≡ total
      → more ≡ have ++ wires_of (stage_parts depth2 log2 s q d) → more ++ wires_of (chain_parts depth log s2 q2 later) ≡ total
  wires_moved depth log depth2 log2 have more total ed el e f =
      moved have more total (wires_of (stage_parts depth log s q d)) (wires_of (chain_parts depth log s2 q2 later)) (wires_of (chain_parts depth log s q here)) e
      (f ∙ (ap (λ z. have ++ wires_of (stage_parts z log2 s q d)) ed ∙ ap (λ z. have ++ wires_of (stage_parts depth z s q d)) el))
      (ap (λ z. wires_of (chain_parts depth log s q z)) splits
      ∙ (pieces_apart part_wires (stage_parts depth log s q d) (chain_parts depth log (sizes_behind s d) (queue_behind s d) later)
      ∙ (ap (λ z. wires_of (stage_parts depth log s q d) ++ wires_of (chain_parts depth log z (queue_behind s d) later)) (sym es)
      ∙ ap (λ z. wires_of (stage_parts depth log s q d) ++ wires_of (chain_parts depth log s2 z later)) (sym eq))))

  owned_splits : {A : Type 0} (f : Part → List A) (log : ℕ) → flat_map f (owned_parts log s q here) ≡ flat_map f (owned_stage log s q d) ++ flat_map f (owned_parts log s2 q2 later)
  owned_splits f log =
      ap (λ z. flat_map f (owned_parts log s q z)) splits
      ∙ (pieces_apart f (owned_stage log s q d) (owned_parts log (sizes_behind s d) (queue_behind s d) later)
      ∙ (ap (λ z. flat_map f (owned_stage log s q d) ++ flat_map f (owned_parts log z (queue_behind s d) later)) (sym es)
      ∙ ap (λ z. flat_map f (owned_stage log s q d) ++ flat_map f (owned_parts log s2 z later)) (sym eq)))

  pub registers_moved : (log log2 : ℕ) (have more total : List Reg) → log2 ≡ log → have ++ registers_of (owned_parts log s q here) ≡ total → more ≡ have ++ registers_of (owned_stage log2 s q d)
      → more ++ registers_of (owned_parts log s2 q2 later) ≡ total
  registers_moved log log2 have more total el e f =
      moved have more total (registers_of (owned_stage log s q d)) (registers_of (owned_parts log s2 q2 later)) (registers_of (owned_parts log s q here)) e
      (f ∙ ap (λ z. have ++ registers_of (owned_stage z s q d)) el) (owned_splits part_registers log)

  pub memories_moved : (log log2 : ℕ) (have more total : List Memory) → log2 ≡ log → have ++ memories_of (owned_parts log s q here) ≡ total → more ≡ have ++ memories_of (owned_stage log2 s q d)
      → more ++ memories_of (owned_parts log s2 q2 later) ≡ total
  memories_moved log log2 have more total el e f =
      moved have more total (memories_of (owned_stage log s q d)) (memories_of (owned_parts log s2 q2 later)) (memories_of (owned_parts log s q here)) e
      (f ∙ ap (λ z. have ++ memories_of (owned_stage z s q d)) el) (owned_splits part_memories log)

  pub queue_moved : (last : Queue) → last_queue s q here ≡ last → last_queue s2 q2 later ≡ last
  queue_moved last e = ap (λ z. last_queue z q2 later) es ∙ (ap (λ z. last_queue (sizes_behind s d) z later) eq ∙ (sym (ap (λ z. last_queue s q z) splits) ∙ e))
