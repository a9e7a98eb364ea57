-- Frames with the same view are valid alike.
use Rattle.std.proofs.Common.{◌≡◌, ◌∙◌, ◌^◌, ℕ, zero, suc, refl, sym, ap, Bool, not, ◌&&◌, List, [], ◌∷◌, length, map, Option, Some, None}
use Rattle.std.specs.Prelude.{◌||◌, nat_lt, slice_get, is_some}
use Rattle.std.specs.List.{list_all}
use Rattle.std.specs.Option.{option_map}
use Rattle.hls_base.specs.declared.number.ArrayId.{ArrayId}
use Rattle.hls_base.specs.declared.number.Kept.{Kept}
use Rattle.ir_core.specs.declared.cfg.Frame.{Frame}
use Rattle.ir_core.specs.declared.cfg.Memory.{Memory}
use Rattle.ir_lower.specs.Frames.{MemoryView, FrameView, memory_view, frame_view}
use Rattle.program_validity.specs.Widths.{is_width, is_word_of}
use Rattle.program_validity.specs.Frames.{is_among, are_different, are_variables, keep_different, are_dims, are_elements_if, is_memory, is_result_width, is_frame}
use Rattle.program_validity.specs.Operations.{memory_of}
use Rattle.timed_pieces.proofs.TimedValidity.Lists.{both_same, all_mapped, same_length}

-- ---- memories

abbrev views_memory : MemoryView → Bool
views_memory m =
    is_width m.bits
    && (are_dims m.dims && ((not (m.host && (is_some m.table || is_some m.initial)) && not (is_some m.table && is_some m.initial)) && (are_elements_if m.dims m.bits m.table && are_elements_if m.dims m.bits m.initial)))

memories_same : (ms ns : List Memory) → map memory_view ms ≡ map memory_view ns → list_all is_memory ms ≡ list_all is_memory ns
memories_same ms ns e =
    all_mapped is_memory views_memory memory_view (λ m. refl) ms ∙ (ap (list_all views_memory) e ∙ sym (all_mapped is_memory views_memory memory_view (λ m. refl) ns))

view_at : (ms : List Memory) (k : ℕ) → option_map memory_view (slice_get ms k) ≡ slice_get (map memory_view ms) k
view_at [] k = refl
view_at (m ∷ ms) zero = refl
view_at (m ∷ ms) (suc k) = view_at ms k

-- an array is the same memory in both
pub array_same : (ms ns : List Memory) → map memory_view ms ≡ map memory_view ns → (x : Option ArrayId) → option_map memory_view (memory_of ms x) ≡ option_map memory_view (memory_of ns x)
array_same ms ns e None = refl
array_same ms ns e (Some array) = view_at ms array.0 ∙ (ap (λ (l : List MemoryView). slice_get l array.0) e ∙ sym (view_at ns array.0))

-- ---- frames

abbrev views_kept : FrameView → Kept → Bool
views_kept f k = is_word_of (slice_get f.variables k.variable.0) k.value && not (is_among k.variable f.params)

pub frame_same : (f g : Frame) → frame_view f ≡ frame_view g → is_frame f ≡ is_frame g
frame_same f g e =
    let memories : map memory_view f.memories.items ≡ map memory_view g.memories.items = ap (λ (v : FrameView). v.memories) e in
    let few : nat_lt (length f.memories.items) (2 ^ 32) ≡ nat_lt (length g.memories.items) (2 ^ 32) =
    ap (λ n. nat_lt n (2 ^ 32)) (same_length memory_view memory_view f.memories.items g.memories.items memories) in
    both_same (both_same (ap (λ (v : FrameView). nat_lt (length v.variables) (2 ^ 32)) e) few)
    (both_same (ap (λ (v : FrameView). list_all is_width v.variables && is_result_width v.ret) e)
    (both_same (both_same (ap (λ (v : FrameView). are_variables v.variables v.params && are_different v.params) e) (ap (λ (v : FrameView). list_all (views_kept v) v.kept && keep_different v.kept) e))
    (memories_same f.memories.items g.memories.items memories)))
