-- Which nodes, and the initial sequence, are in one of their cycles and not in the last one.
use Rattle.std.specs.Prelude.{◌≡◌, ◌==◌, ◌&&◌, ℕ, Bool, List, map}
use Rattle.std.specs.List.{All, list_any}
use Rattle.rtl_core.specs.declared.design.Atom.{Atom}
use Rattle.rtl_core.specs.Netlist.{Netlist}
use Rattle.rtl_core.specs.ClockStep.{State, widths, seen}
use Rattle.rtl_core.specs.Valid.{HasBits}
use Rattle.rtl_logic.specs.Making.{Appends}
use Rattle.rtl_logic.specs.Choosing.{is_any}
use Rattle.clock_ir.specs.ClockRuns.{TimedNode}
use Rattle.datapath.specs.Plans.{Plan, span, initial_cycles}
use Rattle.datapath.specs.Cycles.{Register, Initial, Contents, Signal, Cycle, in_cycle, holds}
use Rattle.datapath.specs.Control.{stays_as, is_within}
use Rattle.datapath.specs.CircuitWires.Carrying.{IsMoment, IsBegun}
use Rattle.circuit_control.specs.declared.time.Spanned.{Spanned}
use Rattle.circuit_control.specs.declared.time.SpanGroup.{SpanGroup}

-- a bit of the cycles of a span is 1, and this is not its last cycle
abbrev pub goes_within : (Atom → ℕ) → Cycle → Spanned → Bool
goes_within v c s = (v s.active == 1) && is_within c s.span

abbrev pub some_within : (Atom → ℕ) → Cycle → List Spanned → Bool
some_within v c all = list_any (goes_within v c) all

-- what a group stands for
abbrev pub members : SpanGroup → List Spanned
members group = map (λ (b : Atom). record { span = group.span; active = b }) group.active.items

abbrev pub group_within : (Atom → ℕ) → Cycle → SpanGroup → Bool
group_within v c group = is_any v group.active.items && is_within c group.span

-- bits of spans of which in each cycle one goes on where this holds; they are made by appending wires
pub record MakesSpans (p : Plan) (names : List Register) (d e : Netlist) (all : List Spanned) (holds_ : Cycle → Bool) : Type 0 where
  pub appends : Appends d e
  pub begun : IsBegun p names e
  pub fits : All (λ (s : Spanned). HasBits (widths e) 1 s.active) all
  pub some : (f : Netlist) (s : State) (pins : List ℕ) (x : Contents) (signals : Signal → ℕ) → IsMoment p names e f s pins x
      → some_within (seen f s pins) (in_cycle x signals pins) all ≡ holds_ (in_cycle x signals pins)

-- bits of which one is 1 where one of the groups goes on
pub record MakesGoing (p : Plan) (names : List Register) (d e : Netlist) (bits : List Atom) (groups : List SpanGroup) : Type 0 where
  pub appends : Appends d e
  pub begun : IsBegun p names e
  pub fits : All (HasBits (widths e) 1) bits
  pub any : (f : Netlist) (s : State) (pins : List ℕ) (x : Contents) (signals : Signal → ℕ) → IsMoment p names e f s pins x
      → is_any (seen f s pins) bits ≡ list_any (group_within (seen f s pins) (in_cycle x signals pins)) groups

-- the bits of a group are bits
abbrev pub GroupsFit : Netlist → List SpanGroup → Type 0
GroupsFit d groups = All (λ (group : SpanGroup). All (HasBits (widths d) 1) group.active.items) groups

abbrev pub initial_goes : Plan → Cycle → Bool
initial_goes p c = holds c Initial && is_within c (initial_cycles p)

abbrev pub node_goes : Plan → Cycle → ℕ × TimedNode → Bool
node_goes p c n = stays_as p c n.0 n.1 && is_within c (span p n.0)
