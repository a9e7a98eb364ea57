-- Valid programs are sound, where each loop sets a variable by one out.
use Rattle.std.proofs.Common.{◌≡◌, ◌≢◌, ◌∙◌, ap, ◌<◌, ℕ, zero, suc, ◌≤◌, sym, refl, Bool, true, false, ◌&&◌, List, [], ◌∷◌, length, map}
use Rattle.std.specs.Prelude.{◌==◌, nat_lt, nat_le, slice_get, Some}
use Rattle.std.specs.List.{list_all}
use Rattle.std.proofs.lemmas.Bool.{leb-true, ltb-true, or_from, eqb-true}
use Rattle.ir_core.specs.declared.body.Op.{Op}
use Rattle.ir_core.specs.declared.body.Operand.{Operand}
use Rattle.ir_core.specs.declared.body.Out.{Out}
use Rattle.ir_core.specs.declared.cfg.End.{End}
use Rattle.ir_core.specs.declared.cfg.End.TheVariants as end
use Rattle.ir_core.specs.declared.cfg.Frame.{Frame}
use Rattle.ir_core.specs.declared.cfg.Memory.{Memory}
use Rattle.ir_core.specs.declared.cfg.Node.{Node}
use Rattle.ir_core.specs.declared.cfg.Node.TheVariants as node
use Rattle.ir_core.specs.declared.stamp.Untimed.{Untimed}
use Rattle.ir_core.specs.Bodies.{Shapes}
use Rattle.ir_core.specs.FlatRuns.{shapes_of}
use Rattle.passes.specs.Conversion.Outs as outs
use Rattle.pass_runs.specs.ConvertRuns.Blocks.{Once}
use Rattle.program_validity.specs.Widths.{is_width}
use Rattle.program_validity.specs.Frames.{are_dims, is_memory}
use Rattle.program_validity.specs.Programs.{is_returned, is_end, is_consistent}
use Rattle.program_validity.specs.Bodies.{is_block_body}
use Rattle.program_validity.proofs.Parts.{first_of_both, second_of_both, node_valid, frame_valid, memories_valid}
use Rattle.clock_runs.specs.Premises.{Each, AreApart, IsSoundNode}
use Rattle.sound_trees.specs.ValidPrograms.{SetsOnce, ValidProgramsAreSound, SoundProgramsSetOnce, ValidProgramsReturnResults}
use Rattle.sound_trees.proofs.ValidPrograms.Nodes.{node_sound}

-- ---- dimensions

lengths_short : (dims : List ℕ) → list_all (λ len. nat_le 1 len && nat_le len 65536) dims ≡ true → Each (λ len. len ≤ 65536) dims
lengths_short [] h = tt
lengths_short (len ∷ dims) h = (leb-true len 65536 (second_of_both (nat_le 1 len) _ (first_of_both (nat_le 1 len && nat_le len 65536) _ h)), lengths_short dims (second_of_both (nat_le 1 len && nat_le len 65536) _ h))

memory_short : (m : Memory) → is_memory m ≡ true → Each (λ len. len ≤ 65536) m.dims.items
memory_short m h =
    let dims = first_of_both (are_dims m.dims.items) _ (second_of_both (is_width m.bits) _ h) in
    lengths_short m.dims.items (first_of_both _ _ (second_of_both (nat_lt 0 (length m.dims.items)) _ dims))

memories_short : (ms : List Memory) → list_all is_memory ms ≡ true → Each (λ (dims : List ℕ). Each (λ len. len ≤ 65536) dims) (map (λ (m : Memory). m.dims.items) ms)
memories_short [] h = tt
memories_short (m ∷ ms) h = (memory_short m (first_of_both (is_memory m) _ h), memories_short ms (second_of_both (is_memory m) _ h))

-- ---- all nodes

each_sound : (shapes : Shapes) (nodes : List (Node Untimed)) → Each SetsOnce nodes → ((i : ℕ) (n : Node Untimed) → slice_get nodes i ≡ Some n → SetsOnce n → IsSoundNode shapes n) → Each (IsSoundNode shapes) nodes
each_sound shapes [] once sound = tt
each_sound shapes (n ∷ nodes) once sound = (sound zero n refl once.0, each_sound shapes nodes once.1 (λ i m at. sound (suc i) m at))

pub valid_sound : ValidProgramsAreSound
valid_sound cfg valid once =
    let h : is_consistent cfg ≡ true = first_of_both (is_consistent cfg) _ valid in
    record {
      dims = memories_short cfg.frame.memories.items (memories_valid cfg.frame (frame_valid cfg h));
      nodes = each_sound (shapes_of cfg.frame) cfg.nodes.items once (node_sound cfg h);
    }

-- ---- the other way

set_by_none : (x : Out) (ys : List Out) → Each (λ (y : Out). (y.variable.0 ≢ x.variable.0) × (y.value.value ≢ x.value.value)) ys → outs.is_set ys x.variable ≡ false
set_by_none x [] h = refl
set_by_none x (y ∷ ys) h = or_from (x.variable.0 == y.variable.0) (outs.is_set ys x.variable) (other (x.variable.0 == y.variable.0) refl) (set_by_none x ys h.1) where
  other : (c : Bool) → (x.variable.0 == y.variable.0) ≡ c → c ≡ false
  other false e = refl
  other true e = absurd (h.0.0 (sym (eqb-true x.variable.0 y.variable.0 e)))

pub apart_once : (xs : List Out) → AreApart xs → Once xs
apart_once [] h = tt
apart_once (x ∷ xs) h = (set_by_none x xs h.0, apart_once xs h.1)

node_once : (shapes : Shapes) (n : Node Untimed) → IsSoundNode shapes n → SetsOnce n
node_once shapes (node.Plain block) h = tt
node_once shapes (node.Looped region) h = apart_once region.body.outs.items h.apart

each_once : (shapes : Shapes) (nodes : List (Node Untimed)) → Each (IsSoundNode shapes) nodes → Each SetsOnce nodes
each_once shapes [] h = tt
each_once shapes (n ∷ nodes) h = (node_once shapes n h.0, each_once shapes nodes h.1)

pub sound_once : SoundProgramsSetOnce
sound_once cfg sound = each_once (shapes_of cfg.frame) cfg.nodes.items sound.nodes

-- ---- results

returned : (f : Frame) (ops : List (Op Untimed)) (count : ℕ) (e : End) (word : Operand) → e ≡ end.Return (Some word) → is_end f ops count e ≡ true → 0 < f.ret
returned f ops count e word is h =
    let there : is_returned f ops word ≡ true = ap (is_end f ops count) (sym is) ∙ h in
    ltb-true 0 f.ret (first_of_both (nat_lt 0 f.ret) _ there)

pub results_returned : ValidProgramsReturnResults
results_returned cfg valid i block word at is =
    let sound = node_valid cfg i (node.Plain block) (first_of_both (is_consistent cfg) _ valid) at in
    returned cfg.frame block.body.ops.items (length cfg.nodes.items) block.end word is (second_of_both (is_block_body cfg.frame block.body) _ sound)
