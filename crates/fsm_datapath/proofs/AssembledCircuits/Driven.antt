-- What each register takes, and what stands at the ports of memories, with all signals.
use Rattle.std.proofs.Common.{◌≡◌, ℕ, ◌+◌, List, [], ◌++◌, length, map, get_or, Some, inl, inr, sym, subst, arith}
use Rattle.std.specs.Prelude.{slice_get}
use Rattle.std.specs.List.{All}
use Rattle.std.proofs.lemmas.Option.{slice_get-get_or, get_or_from_slice_get, slice_get_within}
use Rattle.rtl_core.specs.declared.design.Port.{Port}
use Rattle.rtl_core.specs.Netlist.{Netlist, Memory}
use Rattle.rtl_core.specs.ClockStep.{seen}
use Rattle.reg_binding.specs.Pools.{Has}
use Rattle.reg_binding.proofs.Members.{none}
use Rattle.datapath.specs.Plans.{Plan}
use Rattle.datapath.specs.Cycles.{Register, Word, AddressOf, StoredOf}
use Rattle.circuit_context.specs.declared.wanted.role.Role.{Role}
use Rattle.circuit_context.specs.declared.wanted.role.Role.TheVariants as role
use Rattle.circuit_context.specs.Wanted.Roles.{named}
use Rattle.circuit_context.specs.Wanted.Driving.{Seen, IsDriven, AreDriven, ShowsSignal, IsPort, IsMemory}
use Rattle.circuit_control.specs.Drives.{IsNoWord}
use Rattle.fsm_datapath.proofs.LoggedWrites.Members.{in_left, in_right}
use Rattle.fsm_datapath.proofs.AssembledCircuits.Lists.{get_either, get_map, from_get_map}

-- all that holds of a list holds of a part of it
all_of : {A : Type 0} (P : A → Type 0) (part whole : List A) → ((x : A) → Has part x → Has whole x) → All P whole → All P part
all_of P part whole inc h = λ k z low.
    let has = inc (get_or part k z) (k, slice_get-get_or part k z low) in
    subst P (get_or_from_slice_get whole has.0 (get_or part k z) z has.1) (h has.0 z (slice_get_within whole has.0 (get_or part k z) has.1))

-- what is driven by some signals is driven by all
pub driven_with : (p : Plan) (names : List Register) (part whole : List Seen) (d : Netlist) (k : ℕ) (r : Register) → ((x : Seen) → Has part x → Has whole x) → IsDriven p names part d k r
    → IsDriven p names whole d k r
driven_with p names part whole d k r inc h = record {
  reg = h.reg;
  stands = h.stands;
  takes = λ e s pins x signals moment follow. h.takes e s pins x signals moment (all_of (λ (y : Seen). signals y.0 ≡ seen e s pins y.1) part whole inc follow);
}

port_with : (p : Plan) (names : List Register) (part whole : List Seen) (d : Netlist) (a n : ℕ) (port : Port) → ((x : Seen) → Has part x → Has whole x) → IsPort p names part d a n port
    → IsPort p names whole d a n port
port_with p names part whole d a n port inc h = record {
  address = inc (AddressOf a n, port.addr) h.address;
  value = inc (StoredOf a n, port.value) h.value;
  enable = h.enable;
}

pub memory_with : (p : Plan) (names : List Register) (part whole : List Seen) (d : Netlist) (a : ℕ) (m : Memory) → ((x : Seen) → Has part x → Has whole x) → IsMemory p names part d a m
    → IsMemory p names whole d a m
memory_with p names part whole d a m inc h = record {
  stands = h.stands;
  bits = h.bits;
  depth_log = h.depth_log;
  count = h.count;
  ports = λ n port at_. port_with p names part whole d a n port inc (h.ports n port at_);
}

-- ---- registers of a bank, and those of units behind them

module _ (p : Plan) (names : List Register) (units ports : List Seen) (d : Netlist) where
  of_role : (keys : List Role) (k : ℕ) (q : Role) → slice_get keys k ≡ Some q
      → ((k : ℕ) (r : Role) → slice_get keys k ≡ Some r → IsNoWord r → IsDriven p names [] d k (named r))
      → ((k a n : ℕ) → slice_get (map named keys) k ≡ Some (Word a n) → IsDriven p names ports d k (Word a n)) → IsDriven p names (units ++ ports) d k (named q)
  of_role keys k (role.Word a n) at_ driven words = driven_with p names ports (units ++ ports) d k (Word a.0 n) (λ x has. in_right units ports x has) (words k a.0 n (get_map named keys k (role.Word a n) at_))
  of_role keys k q at_ driven words = driven_with p names [] (units ++ ports) d k (named q) (λ x has. absurd (none x has)) (driven k q at_ (λ word. absurd word))

  pub all_driven : (keys : List Role) (more : List Register) → ((k : ℕ) (r : Role) → slice_get keys k ≡ Some r → IsNoWord r → IsDriven p names [] d k (named r))
      → ((k a n : ℕ) → slice_get (map named keys) k ≡ Some (Word a n) → IsDriven p names ports d k (Word a n)) → AreDriven p names units d (length (map named keys)) more
      → AreDriven p names (units ++ ports) d 0 (map named keys ++ more)
  all_driven keys more driven words behind k r at_ =
      let here : k ≡ 0 + k = omega arith in
      subst (λ (j : ℕ). IsDriven p names (units ++ ports) d j r) here (elim (get_either (map named keys) more k r at_) [ inl of_bank ↦ in_bank of_bank | inr of_unit ↦ in_unit of_unit ])
    where
      in_bank : slice_get (map named keys) k ≡ Some r → IsDriven p names (units ++ ports) d k r
      in_bank found =
          let q = from_get_map named keys k r found in
          subst (λ (x : Register). IsDriven p names (units ++ ports) d k x) (sym q.1.1) (of_role keys k q.0 q.1.0 driven words)

      in_unit : (j : ℕ) × ((k ≡ length (map named keys) + j) × (slice_get more j ≡ Some r)) → IsDriven p names (units ++ ports) d k r
      in_unit found =
          subst (λ (m : ℕ). IsDriven p names (units ++ ports) d m r) (sym found.1.0)
          (driven_with p names units (units ++ ports) d (length (map named keys) + found.0) r (λ x has. in_left units ports x has) (behind found.0 r found.1.1))

  pub all_shown : ((k : ℕ) (x : Seen) → slice_get units k ≡ Some x → ShowsSignal p names d x) → ((k : ℕ) (x : Seen) → slice_get ports k ≡ Some x → ShowsSignal p names d x)
      → (k : ℕ) (x : Seen) → slice_get (units ++ ports) k ≡ Some x → ShowsSignal p names d x
  all_shown of_units of_ports k x at_ = elim (get_either units ports k x at_) [ inl first ↦ of_units k x first | inr later ↦ of_ports later.0 x later.1.1 ]
