-- The blocks of a program have what the expanded program has beside its pieces.
use Rattle.std.proofs.Common.{◌≡◌, ℕ, ◌<◌, List, [], ◌∷◌, map, length, refl, sym, ap, subst, ◌∙◌, arith}
use Rattle.std.proofs.lemmas.List.{length-map, get_or-map}
use Rattle.std.specs.Prelude.{max, min}
use Rattle.std.specs.List.{All}
use Rattle.hls_base.specs.ArrayAddress.{address_bits}
use Rattle.c_value.specs.Values.{width}
use Rattle.pieces.specs.declared.expanded.Expanded.{Expanded}
use Rattle.pieces.specs.Program.{array_of, expanded_of}
use Rattle.ir_core.specs.declared.cfg.Frame.{Frame}
use Rattle.ir_lower.specs.Frames.{MemoryView, FrameView, memory_view, memory_of, frame_view, frame_of, result_width}
use Rattle.report_rows.specs.Initial as initial
use Rattle.report_rows.specs.Initial.{greatest, initial_cycles, AreAddressed}
use Rattle.compile_steps.specs.Resets.{array_memory, expanded_frame, filling, reset_cycles, AreAddressable}

mapped : {X Y Z : Type 0} (g : Y → Z) (f : X → Y) (h : X → Z) → ((x : X) → g (f x) ≡ h x) → (xs : List X) → map g (map f xs) ≡ map h xs
mapped g f h e [] = refl
mapped g f h e (x ∷ xs) = ap (λ y. y ∷ map g (map f xs)) (e x) ∙ ap (λ ys. h x ∷ ys) (mapped g f h e xs)

unmapped : {X Y : Type 0} (P : Y → Type 0) (f : X → Y) (xs : List X) → All P (map f xs) → All (λ x. P (f x)) xs
unmapped P f xs h k d lt = subst P (get_or-map f xs k d (f d) lt) (h k (f d) (omega (arith, lt, length-map xs f)))

pub frame_is : (e : Expanded) → frame_of e ≡ expanded_frame (expanded_of e)
frame_is e =
    let With : List MemoryView → FrameView =
    λ memories. record { name = e.name; params = e.params.items; variables = map width e.variables.items; memories = memories; kept = e.kept.items; ret = result_width e.ret } in
    ap With (sym (mapped array_memory array_of memory_of (λ a. refl) e.arrays.items))

cycles_are : (f : Frame) → initial_cycles f ≡ reset_cycles (frame_view f)
cycles_are f = ap (λ cycles. max (min 1 (length f.kept.items)) (greatest cycles)) (sym (mapped filling memory_view initial.filling (λ m. refl) f.memories.items))

are_addressed : (f : Frame) → AreAddressable (frame_view f) → AreAddressed f.memories.items
are_addressed f h = unmapped (λ (m : MemoryView). address_bits m.dims < 32) memory_view f.memories.items h

-- the cycles that a report names are those of the frame that its program has
pub reset_is : (f : Frame) (e : FrameView) (init : ℕ) → frame_view f ≡ e → (AreAddressed f.memories.items → init ≡ initial_cycles f) → AreAddressable e → init ≡ reset_cycles e
reset_is f e init same is h = is (are_addressed f (subst AreAddressable (sym same) h)) ∙ (cycles_are f ∙ ap reset_cycles same)
