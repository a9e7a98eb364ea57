-- Programs that were scheduled are well timed, and keep their runs.
use Rattle.std.proofs.Common.{◌≡◌, List, [], ◌∷◌, map, refl, ap, ◌∙◌, sym}
use Rattle.ir_core.specs.declared.cfg.Frame.{Frame}
use Rattle.ir_core.specs.declared.cfg.Memory.{Memory}
use Rattle.ir_lower.specs.Frames.{FrameView, MemoryView, memory_view, frame_view}
use Rattle.ir_core.specs.Bodies.{Shapes}
use Rattle.ir_core.specs.FlatRuns.{shapes_of}
use Rattle.clock_runs.proofs.Whole.{times_keep}
use Rattle.timed_pieces.specs.ScheduleRuns.{ScheduledIsWellTimed, ScheduledKeepsRuns}
use Rattle.timed_pieces.proofs.ScheduleRuns.Nodes.{nodes_well}

-- the widths of variables and the lengths of memories, from what is seen of a frame
seen : FrameView → Shapes
seen v = record { widths = v.variables; dims = map (λ (m : MemoryView). m.dims) v.memories }

dims_seen : (ms : List Memory) → map (λ (m : MemoryView). m.dims) (map memory_view ms) ≡ map (λ (m : Memory). m.dims.items) ms
dims_seen [] = refl
dims_seen (m ∷ ms) = ap (λ ds. m.dims.items ∷ ds) (dims_seen ms)

shapes_seen : (f : Frame) → seen (frame_view f) ≡ shapes_of f
unfolding seen
shapes_seen f = (λ i. record { widths = f.variables.items; dims = dims_seen f.memories.items i })

pub scheduled_well : ScheduledIsWellTimed
scheduled_well units cfg timed rows frame first nodes = record {
  frame = sym (shapes_seen timed.frame) ∙ ap seen frame ∙ shapes_seen cfg.frame;
  first = first;
  nodes = nodes_well cfg.frame.memories.items units cfg.nodes.items timed.nodes.items nodes.found nodes.each;
}

pub scheduled_keeps : ScheduledKeepsRuns
scheduled_keeps units cfg timed rows frame first nodes sound t = times_keep cfg timed sound (scheduled_well units cfg timed rows frame first nodes) t
