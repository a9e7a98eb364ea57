-- Compiled programs have what a clock machine takes for granted.
use Rattle.std.proofs.Common.{◌≡◌, ℕ, zero, suc, sym, subst, List, [], ◌∷◌, map, Some}
use Rattle.std.specs.Prelude.{slice_get}
use Rattle.ir_core.specs.declared.cfg.Cfg.{Cfg}
use Rattle.ir_core.specs.declared.cfg.Memory.{Memory}
use Rattle.ir_core.specs.declared.cfg.Node.{Node}
use Rattle.ir_core.specs.declared.stamp.Untimed.{Untimed}
use Rattle.ir_core.specs.declared.timed.Timed.{Timed}
use Rattle.ir_core.specs.Bodies.{Shapes}
use Rattle.ir_core.specs.FlatRuns.{shapes_of}
use Rattle.clock_ir.specs.ClockRuns.{TimedNode, timed_node}
use Rattle.clock_ir.specs.WellTimed.{AreWellTimed, IsWellTimed}
use Rattle.clock_machine.specs.Lines.Regions.{IsOrderlyProgram}
use Rattle.clock_machine.proofs.LinesLemmas.Orderly.{orderly_at}
use Rattle.clock_machine.specs.Standing.{IsWholeBody, body_at}
use Rattle.clock_machine.proofs.Orderly.{steady_of}
use Rattle.clock_runs.specs.Premises.{Each, IsSoundNode, IsSoundProgram}
use Rattle.clock_runs.proofs.Lists.{each_get}
use Rattle.timed_pieces.proofs.ScheduleRuns.Programs.{scheduled_well}
use Rattle.timed_pieces.proofs.SoundPrograms.Whole.{sound}
use Rattle.source_validity.specs.SourceMachines.WholePrograms.{IsReady, WellTimedIsReady, ScheduledIsReady}
use Rattle.source_validity.proofs.SourceMachines.WholePrograms.Bodies.{NodeThere, whole_node, untested}
use Rattle.source_validity.proofs.SourceMachines.WholePrograms.LaidOut.{laid_there}

whole_nodes : (shapes : Shapes) (memories : List Memory) (ns : List (Node Untimed)) (ts : List (Node Timed)) → AreWellTimed memories ns ts → Each (IsSoundNode shapes) ns → ((i : ℕ) (n : Node Untimed) → slice_get ns i ≡ Some n → NodeThere shapes n)
    → (i : ℕ) (t : TimedNode) → slice_get (map timed_node ts) i ≡ Some t → IsWholeBody shapes (body_at t)
whole_nodes shapes memories [] [] h sound there i t is = absurd (cc)
whole_nodes shapes memories [] (y ∷ ys) h sound there i t is = absurd h
whole_nodes shapes memories (x ∷ xs) [] h sound there i t is = absurd h
whole_nodes shapes memories (x ∷ xs) (y ∷ ys) h sound there zero t is =
    subst (λ u. IsWholeBody shapes (body_at u)) (let z : timed_node y ≡ t = (cc) in z) (whole_node shapes memories x y h.0 sound.0 (there 0 x (cc)))
whole_nodes shapes memories (x ∷ xs) (y ∷ ys) h sound there (suc i) t is = whole_nodes shapes memories xs ys h.1 sound.1 (λ k n at. there (suc k) n at) i t is

module _ (cfg : Cfg Untimed) (timed : Cfg Timed) (sound : IsSoundProgram cfg) (well : IsWellTimed cfg timed) where
  orderly : IsOrderlyProgram timed
  orderly = orderly_at cfg.frame.memories.items cfg.nodes.items timed.nodes.items well.nodes (λ k it is. untested (shapes_of cfg.frame) it (each_get (IsSoundNode (shapes_of cfg.frame)) cfg.nodes.items k it sound.nodes is))

  ready_of : ((i : ℕ) (n : Node Untimed) → slice_get cfg.nodes.items i ≡ Some n → NodeThere (shapes_of cfg.frame) n) → IsReady timed
  ready_of there = record {
    orderly = orderly;
    whole = λ i t is. subst (λ s. IsWholeBody s (body_at t)) (sym well.frame) (whole_nodes (shapes_of cfg.frame) cfg.frame.memories.items cfg.nodes.items timed.nodes.items well.nodes sound.nodes there i t is);
    steady = steady_of timed orderly;
  }

pub well_timed_ready : WellTimedIsReady
well_timed_ready cfg timed whole sound well = ready_of cfg timed sound well (λ i n is. (whole.outs i n is, whole.arrays i n is))

pub scheduled_ready : ScheduledIsReady
scheduled_ready f choice kept pieces point returned cfg fine subscripts laid units timed rows times =
    ready_of cfg timed (sound f choice kept pieces point returned cfg fine subscripts laid) (scheduled_well units cfg timed rows times.frame times.first times.nodes) (laid_there f choice pieces point returned cfg laid)
