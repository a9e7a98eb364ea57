-- What is written for one place, and for some of the cases of a block's end.
use Rattle.std.specs.Prelude.{ℕ, ◌&&◌, List, [], ◌∷◌, ◌++◌, map, Bool, Option, Some, None, if◌then◌else◌}
use Rattle.hls_base.specs.declared.number.NodeId.{NodeId}
use Rattle.hls_base.specs.declared.number.VarId.{VarId}
use Rattle.ir_core.specs.declared.body.Operand.{Operand}
use Rattle.ir_core.specs.declared.body.Out.{Out}
use Rattle.clock_ir.specs.ClockRuns.{TimedNode}
use Rattle.clock_ir.specs.Flows.{is_result}
use Rattle.reg_binding.specs.declared.registers.Held.{Held}
use Rattle.rtl_logic.specs.Choosing.{where_}
use Rattle.rtl_core.specs.declared.design.Atom.{Atom}
use Rattle.rtl_core.specs.Netlist.{Netlist}
use Rattle.datapath.specs.Plans.{Plan}
use Rattle.datapath.specs.Cycles.{Register, Cycle}
use Rattle.datapath.specs.Control.{leaves_as}
use Rattle.datapath.specs.CircuitWires.Carrying.{Tells}
use Rattle.datapath.specs.Values.{entry_of, moves, moved}
use Rattle.circuit_context.specs.declared.wanted.role.Role.TheVariants as role
use Rattle.circuit_context.specs.Wanted.Entries.{Entry, register_entry, load_entries, way, case_holds, no_case_holds}

-- the variable of which an operation makes the value
abbrev pub made_first : List Out → ℕ → Option VarId
made_first [] k = None
made_first (x ∷ xs) k = if is_result k x.value.value then Some x.variable else made_first xs k

abbrev pub number_of : Option VarId → Option ℕ
number_of None = None
number_of (Some v) = Some v.0

-- how many places of a chain hold what was there before the first iteration
abbrev pub entry_count : Option ℕ → ℕ
entry_count None = 0
entry_count (Some v) = 1

-- a variable that is read
abbrev pub if_read : Plan → Option VarId → Option ℕ
if_read p None = None
if_read p (Some v) = if p.savings.read v.0 then Some v.0 else None

-- what a place of a loop takes
abbrev pub loop_entries : Plan → Held → List Entry
loop_entries p h =
    load_entries h (entry_of p h) ++ register_entry (role.Value h.register) (λ c. where_ (moves p c h (entry_of p h)) (moved p c h h.place)) ∷ []

-- the first of these cases that holds, behind those before
abbrev pub ordered_cases : Plan → ℕ × TimedNode → List (Operand × NodeId) → List (Operand × NodeId) → List Entry
ordered_cases p n before [] = []
ordered_cases p n before (case ∷ cases) =
    way p n case.1 (λ c. no_case_holds p n.0 before c && case_holds p n.0 case c) ∷ ordered_cases p n (before ++ case ∷ []) cases

abbrev pub exclusive_cases : Plan → ℕ × TimedNode → List (Operand × NodeId) → List Entry
exclusive_cases p n cases = map (λ (case : Operand × NodeId). way p n case.1 (case_holds p n.0 case)) cases

abbrev pub choice_cases : Plan → ℕ × TimedNode → Bool → List (Operand × NodeId) → List Entry
choice_cases p n exclusive cases = if exclusive then exclusive_cases p n cases else ordered_cases p n [] cases

-- the node is left, and none of the cases holds
abbrev pub none_left : Plan → ℕ × TimedNode → List (Operand × NodeId) → Cycle → Bool
none_left p n cases c = leaves_as p c n.0 n.1 && no_case_holds p n.0 cases c

-- the bits tell, in order, whether the cases hold
abbrev pub TellCases : Plan → List Register → Netlist → ℕ → List (Operand × NodeId) → List Atom → Type 0
TellCases p names d i [] [] = Unit {0}
TellCases p names d i (case ∷ cases) (a ∷ atoms) = Tells p names d a (case_holds p i case) × TellCases p names d i cases atoms
TellCases p names d i cases atoms = ⊥
