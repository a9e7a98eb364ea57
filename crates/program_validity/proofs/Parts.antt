-- What holds of the parts of a consistent program.
use Rattle.std.proofs.Common.{◌≡◌, ℕ, zero, suc, ◌<◌, ◌≤◌, ◌^◌, ◌∙◌, sym, ap, Bool, true, ◌&&◌, List, [], ◌∷◌, length}
use Rattle.std.specs.Prelude.{nat_lt, slice_get, Some, None}
use Rattle.std.specs.List.{list_all}
use Rattle.std.proofs.lemmas.Bool.{and_parts, ltb-true, leb-true}
use Rattle.hls_base.specs.ArrayAddress.{address_bits}
use Rattle.ir_core.specs.declared.cfg.Cfg.{Cfg}
use Rattle.ir_core.specs.declared.cfg.Frame.{Frame}
use Rattle.ir_core.specs.declared.cfg.Memory.{Memory}
use Rattle.ir_core.specs.declared.cfg.Node.{Node}
use Rattle.program_validity.specs.Widths.{is_width}
use Rattle.program_validity.specs.Frames.{is_result_width, are_params, are_kept, are_dims, is_frame, is_memory}
use Rattle.program_validity.specs.Programs.{is_valid_node, is_consistent}

-- ---- tests that hold

pub first_of_both : (x y : Bool) → (x && y) ≡ true → x ≡ true
first_of_both x y h = (and_parts x y h).0

pub second_of_both : (x y : Bool) → (x && y) ≡ true → y ≡ true
second_of_both x y h = (and_parts x y h).1

some_same : {A : Type 0} {x y : A} → Some x ≡ Some y → x ≡ y
some_same e = (cc)

no_some : {A : Type 0} {x : A} → None ≡ Some x → ⊥
no_some e = (cc)

-- what is true of all is true of each
pub holds_at : {A : Type 0} (p : A → Bool) (xs : List A) (k : ℕ) (x : A) → list_all p xs ≡ true → slice_get xs k ≡ Some x → p x ≡ true
holds_at p [] k x h e = absurd (no_some e)
holds_at p (y ∷ ys) zero x h e = ap p (sym (some_same e)) ∙ (and_parts (p y) (list_all p ys) h).0
holds_at p (y ∷ ys) (suc k) x h e = holds_at p ys k x (and_parts (p y) (list_all p ys) h).1 e

-- ---- nodes

pub few_nodes : {S : Type 0} (cfg : Cfg S) → is_consistent cfg ≡ true → length cfg.nodes.items < 2 ^ 32
few_nodes cfg h = ltb-true _ _ (first_of_both _ _ (first_of_both _ _ h))

pub node_valid : {S : Type 0} (cfg : Cfg S) (i : ℕ) (n : Node S) → is_consistent cfg ≡ true → slice_get cfg.nodes.items i ≡ Some n
    → is_valid_node cfg.frame (length cfg.nodes.items) n ≡ true
node_valid cfg i n h at =
    holds_at (is_valid_node cfg.frame (length cfg.nodes.items)) cfg.nodes.items i n (second_of_both _ _ (second_of_both _ _ h)) at

-- ---- frames

pub frame_valid : {S : Type 0} (cfg : Cfg S) → is_consistent cfg ≡ true → is_frame cfg.frame ≡ true
frame_valid cfg h = second_of_both _ _ (first_of_both _ _ h)

pub few_variables : (f : Frame) → is_frame f ≡ true → length f.variables.items < 2 ^ 32
few_variables f h = ltb-true _ _ (first_of_both _ _ (first_of_both _ _ h))

pub few_memories : (f : Frame) → is_frame f ≡ true → length f.memories.items < 2 ^ 32
few_memories f h = ltb-true _ _ (second_of_both _ _ (first_of_both _ _ h))

-- ---- memories

pub memories_valid : (f : Frame) → is_frame f ≡ true → list_all is_memory f.memories.items ≡ true
memories_valid f h =
    let few = nat_lt (length f.variables.items) (2 ^ 32) && nat_lt (length f.memories.items) (2 ^ 32) in
    let widths = list_all is_width f.variables.items && is_result_width f.ret in
    second_of_both (are_params f && are_kept f) (list_all is_memory f.memories.items) (second_of_both widths _ (second_of_both few _ h))

pub short_address : (m : Memory) → is_memory m ≡ true → address_bits m.dims.items ≤ 16
short_address m h =
    let dims = first_of_both (are_dims m.dims.items) _ (second_of_both (is_width m.bits) _ h) in
    leb-true _ _ (second_of_both _ _ (second_of_both (nat_lt 0 (length m.dims.items)) _ dims))
