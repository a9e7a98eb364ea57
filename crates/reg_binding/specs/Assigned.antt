-- Which register holds which value of which node.
use Rattle.std.specs.Prelude.{◌≡◌, ℕ, ◌==◌, ◌<◌, ◌≤◌, Bool, List, ◌++◌, length, map, slice_get, filter, Option, Some}
use Rattle.std.specs.List.{zip}
use Rattle.std.specs.List.Sorted.{IsPermutation}
use Rattle.ir_core.specs.declared.timed.Timed.{Timed}
use Rattle.ir_core.specs.declared.cfg.Cfg.{Cfg}
use Rattle.ir_core.specs.declared.cfg.Node.{Node}
use Rattle.reg_binding.specs.declared.live.Live.{Live}
use Rattle.reg_binding.specs.Liveness.{IsLiveness, flow_of, summary_of, is_behind}
use Rattle.reg_binding.specs.declared.life.Life.{Life}
use Rattle.reg_binding.specs.declared.registers.Held.{Held}
use Rattle.reg_binding.specs.declared.registers.Registers.{Registers}
use Rattle.reg_binding.specs.Lives.{node_lives, node_period}
use Rattle.reg_binding.specs.Sharing.{IsShared}

-- that this register holds a value of node i
abbrev pub row : ℕ → Life × ℕ → Held
row i x = record { node = record { 0 = i }; op = record { 0 = x.0.op }; place = x.0.place; register = x.1 }

abbrev pub is_of : ℕ → Held → Bool
is_of i held = held.node.0 == i

-- the register holds some value
abbrev pub IsUsed : List Held → ℕ → Type 0
IsUsed held r = (k : ℕ) × (told : Held) × (slice_get held k ≡ Some told) × (told.register ≡ r)

-- The rows of node i: its values, taken in some order, share the registers of these widths.
pub record AreRows (i : ℕ) (lives : List Life) (period : Option ℕ) (widths : List ℕ) (rows : List Held) : Type 0 where
  pub order : List Life
  pub choices : List ℕ
  pub same : IsPermutation lives order
  pub shared : IsShared period order (length order) widths choices
  pub rows_ : rows ≡ map (row i) (zip order choices)

-- The values of node i get registers that are there and some more, and are told in more rows.
pub record AddsRows (i : ℕ) (lives : List Life) (period : Option ℕ) (before after : Registers) : Type 0 where
  pub more : List ℕ
  pub told : List Held
  pub widths : after.widths.items ≡ before.widths.items ++ more
  pub held : after.held.items ≡ before.held.items ++ told
  pub rows : AreRows i lives period after.widths.items told
  pub used : (r : ℕ) → length before.widths.items ≤ r → r < length after.widths.items → IsUsed told r

-- Each value of the first n nodes has its register, and each register holds some value. Which variables are read again behind a node is given.
pub record IsAssigned (behind : Node Timed → ℕ → Bool) (nodes : List (Node Timed)) (n : ℕ) (registers : Registers) : Type 0 where
  pub rows : (i : ℕ) (node : Node Timed) → i < n → slice_get nodes i ≡ Some node
      → AreRows i (node_lives (behind node) node) (node_period node) registers.widths.items (filter (is_of i) registers.held.items)
  pub within : (k : ℕ) (told : Held) → slice_get registers.held.items k ≡ Some told → told.node.0 < n
  pub used : (r : ℕ) → r < length registers.widths.items → IsUsed registers.held.items r

-- The values of all nodes have their registers, where the live variables are those that are read again.
pub record IsAssignment (cfg : Cfg Timed) (live : Live) (registers : Registers) : Type 0 where
  pub liveness : IsLiveness (flow_of cfg) live
  pub assigned : IsAssigned (λ node. is_behind live (summary_of node)) cfg.nodes.items (length cfg.nodes.items) registers
