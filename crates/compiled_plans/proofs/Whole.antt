-- Plans of compiled programs are compiled.
use Rattle.std.proofs.Common.{◌≡◌, ℕ, ◌<◌, true, refl, sym, ap, ◌∙◌, subst, List, [], ◌∷◌, map, length, Option, Some, None}
use Rattle.std.specs.Prelude.{slice_get}
use Rattle.hls_base.specs.declared.number.Kept.{Kept}
use Rattle.c_value.specs.Values.{width}
use Rattle.ir_core.specs.declared.cfg.Cfg.{Cfg}
use Rattle.ir_core.specs.declared.cfg.Memory.{Memory}
use Rattle.ir_core.specs.declared.cfg.Node.{Node}
use Rattle.ir_core.specs.declared.stamp.Untimed.{Untimed}
use Rattle.ir_lower.specs.Frames.{MemoryView, FrameView, memory_view, frame_view}
use Rattle.ir_core.specs.declared.timed.Timed.{Timed}
use Rattle.timed_pieces.proofs.ScheduleRuns.Programs.{scheduled_well}
use Rattle.timed_pieces.proofs.SoundPrograms.Whole as programs
use Rattle.sound_trees.proofs.Renamed.{length_map}
use Rattle.ir_core.specs.Bodies.{Shapes}
use Rattle.datapath.specs.Plans.{Array, Savings, array_of, plan_of}
use Rattle.datapath.specs.Savings.{StaysForNextRun}
use Rattle.hls_base.specs.declared.number.VarId.{VarId}
use Rattle.c_token.specs.declared.ctype.CType.{CType}
use Rattle.timed_pieces.specs.StartedWords.Contents.{ResultIsThere}
use Rattle.c_meaning.specs.PieceRuns.Runs.{frame_of}
use Rattle.ir_layout.specs.Nodes.{node_of}
use Rattle.pass_runs.specs.LowerRuns.Suits.{scope_of}
use Rattle.pass_runs.specs.ConvertRuns.LoweredConversions.Suiting.{widths_of, words_of}
use Rattle.clock_ir.specs.WellTimed.{IsWellTimed}
use Rattle.compiled_plans.specs.Operations.{NodeNamed, NodeDivides}
use Rattle.clock_runs.proofs.Lists.{some_same, no_some}
use Rattle.datapath.specs.LeftOut.{behind_if, is_exclusive, savings_of}
use Rattle.pieces.specs.Program.{ExpandedTree}
use Rattle.reg_binding.specs.declared.registers.Registers.{Registers}
use Rattle.compiled_plans.specs.Frames.{plan_array, HasFrame}
use Rattle.compiled_plans.specs.Laws.{SavingsAreSafe, PlansAreCompiled}
use Rattle.compiled_plans.proofs.Safe as safe
use Rattle.compiled_plans.proofs.Safe.{within}
use Rattle.compiled_plans.proofs.Exclusive.{end_exclusive}
use Rattle.compiled_plans.proofs.Sound.{sound}
use Rattle.compiled_plans.proofs.Greatest.{counts, waits}
use Rattle.ir_core.specs.declared.cfg.Frame.{Frame}
use Rattle.program_validity.specs.Programs.{is_valid, body_in}
use Rattle.op_chain.proofs.ValidFusing.Whole.{keeps_validity}
use Rattle.timed_pieces.proofs.FusedPrograms.Nodes.{same_variables, once_alike, nodes_alike, fused_alike}
use Rattle.compiled_plans.specs.ValidNodes.{NodesSetOnce}
use Rattle.compiled_plans.proofs.ValidNodes.{valid_named, valid_divide, dividing_once}
use Rattle.compiled_plans.proofs.Divisions.{nodes_divide}
use Rattle.compiled_plans.proofs.PlanNames.{names_variables, names_arrays, fits_units, outs_apart}

-- ---- savings

pub savings_safe : SavingsAreSafe
savings_safe e timed registers live liveness frame kept many names = record {
  behind = safe.behind_safe timed registers live liveness small names;
  read = safe.read_safe timed registers live liveness small names;
  exclusive = λ i body end_ at is. end_exclusive body end_ (ap is_exclusive (sym at) ∙ is);
} where
  small : (v : ℕ) → StaysForNextRun (plan_of timed registers (savings_of timed live)) v → v < length timed.frame.variables.items
  small v s =
      let there = kept s.number s.kept (ap (λ (l : List Kept). slice_get l s.number) (sym frame.kept) ∙ s.stands) in
      subst (λ n. v < n) (sym many) (subst (λ n. n < length e.variables) s.variable (within e.variables s.kept.variable.0 there.0 there.1))

-- ---- memories

-- the array of a plan that is this memory
abbrev pub from_view : MemoryView → Array
from_view m = record { bits = m.bits; dims = m.dims; table = m.table; first = m.initial; host = m.host }

arrays_viewed : (ms : List Memory) → map array_of ms ≡ map from_view (map memory_view ms)
arrays_viewed [] = refl
arrays_viewed (m ∷ ms) = ap (λ l. array_of m ∷ l) (arrays_viewed ms)

same_memories : (timed : Cfg Timed) (cfg : Cfg Untimed) → frame_view timed.frame ≡ frame_view cfg.frame → map array_of timed.frame.memories.items ≡ map array_of cfg.frame.memories.items
same_memories timed cfg e = arrays_viewed timed.frame.memories.items ∙ ap (λ (f : FrameView). map from_view f.memories) e ∙ sym (arrays_viewed cfg.frame.memories.items)

-- a plan has the frame of an expanded program, where its program has it
pub has_frame : (e : ExpandedTree) (timed : Cfg Timed) (registers : Registers) (saved : Savings) (view : FrameView) → frame_view timed.frame ≡ view → view.params ≡ e.params → view.kept ≡ e.kept → map from_view view.memories ≡ map plan_array e.arrays
    → HasFrame e (plan_of timed registers saved)
has_frame e timed registers saved view is params kept arrays = record {
  parameters = ap (λ (f : FrameView). f.params) is ∙ params;
  kept = ap (λ (f : FrameView). f.kept) is ∙ kept;
  arrays = arrays_viewed timed.frame.memories.items ∙ ap (λ (f : FrameView). map from_view f.memories) is ∙ arrays;
}

-- ---- the whole

result_there : (variables : List CType) (ret : Option CType) (result : Option VarId) → ResultIsThere variables ret result → (v : VarId) → result ≡ Some v → v.0 < length variables
result_there variables None None h v e = absurd (no_some e)
result_there variables (Some k) (Some w) h v e = subst (λ (z : VarId). z.0 < length variables) (some_same e) (within variables w.0 k h)
result_there variables None (Some w) h v e = absurd h
result_there variables (Some k) None h v e = absurd h

pub compiled : PlansAreCompiled
compiled e choice kept point cfg fine subscripts laid units timed rows times small addressed live registers assigned frame contents hosts there result puts = record {
  untimed = cfg;
  timed = timed;
  registers = registers;
  live = live;
  plan = refl;
  sound = programs.sound (frame_of e) choice kept e.pieces point e.result cfg fine subscripts laid;
  memories = same_memories timed cfg times.frame;
  well_timed = well;
  liveness = assigned.liveness;
  assigned = assigned.assigned;
  behind = λ i v node at. ap (λ (o : Option (Node Timed)). behind_if live o v) at;
  safe = savings_safe e timed registers live assigned.liveness frame there many (names_variables e cfg timed registers (savings_of timed live) well words frame many named divided);
  arrays = names_arrays e cfg timed registers (savings_of timed live) well words frame many named divided;
  fits = fits_units e cfg timed registers (savings_of timed live) well words frame many named divided;
  counts = counts timed registers (savings_of timed live) small addressed;
  waits = waits timed registers (savings_of timed live) small addressed;
  frame = sound e (plan_of timed registers (savings_of timed live)) frame contents hosts (subst (λ n. n < 18446744073709551616) few small.few);
  outs_apart = outs_apart e cfg timed registers (savings_of timed live) well words frame many named divided;
} where
  well : IsWellTimed cfg timed
  well = scheduled_well units cfg timed rows times.frame times.first times.nodes

  words : List ℕ
  words = words_of (scope_of (frame_of e))

  few : length timed.frame.memories.items ≡ length e.arrays
  few = sym (length_map array_of timed.frame.memories.items) ∙ ap length frame.arrays ∙ length_map plan_array e.arrays

  valid : is_valid cfg ≡ true
  valid = keeps_validity choice.period laid.unfused cfg laid.valid laid.fused

  unfused_widths : laid.unfused.frame.variables.items ≡ widths_of (scope_of (frame_of e))
  unfused_widths = ap (λ (s : Shapes). s.widths) laid.laid.shapes

  own_widths : cfg.frame.variables.items ≡ widths_of (scope_of (frame_of e))
  own_widths = ap (λ (f : Frame). f.variables.items) laid.fused.frame ∙ unfused_widths

  widths : timed.frame.variables.items ≡ widths_of (scope_of (frame_of e))
  widths = ap (λ (f : FrameView). f.variables) times.frame ∙ own_widths

  many : length timed.frame.variables.items ≡ length e.variables
  many = ap length widths ∙ length_map width e.variables

  named : (i : ℕ) (n : Node Untimed) → slice_get cfg.nodes.items i ≡ Some n → NodeNamed (length e.variables) e.arrays (node_of n)
  named i n at =
      subst (λ (m : ℕ). NodeNamed m e.arrays (node_of n)) (ap length own_widths ∙ length_map width e.variables)
      (valid_named cfg e.arrays valid (sym (same_memories timed cfg times.frame) ∙ frame.arrays) i n at)

  unfused_divided : (i : ℕ) (n : Node Untimed) → slice_get laid.unfused.nodes.items i ≡ Some n → NodeDivides (widths_of (scope_of (frame_of e))) words (node_of n)
  unfused_divided = nodes_divide (scope_of (frame_of e)) choice.apart choice.loops e.pieces point e.result laid.unfused.nodes.items fine.typed subscripts laid.laid.nodes

  once : NodesSetOnce cfg
  once i n at =
      let p = nodes_alike laid.unfused.nodes.items cfg.nodes.items (fused_alike choice.period laid.unfused cfg laid.fused) i n at in
      once_alike (body_in p.other).outs.items (body_in n).outs.items (same_variables p.other n p.same) (dividing_once laid.unfused (widths_of (scope_of (frame_of e))) words unfused_divided i p.other p.there)

  divided : (i : ℕ) (n : Node Untimed) → slice_get cfg.nodes.items i ≡ Some n → NodeDivides timed.frame.variables.items words (node_of n)
  divided i n at = subst (λ (l : List ℕ). NodeDivides l words (node_of n)) (sym (ap (λ (f : FrameView). f.variables) times.frame)) (valid_divide cfg words valid once i n at)
