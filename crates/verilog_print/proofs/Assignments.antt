-- What the printed assignments and blocks mean, and that they can be written.
use Rattle.std.proofs.Common.{◌≡◌, ℕ, suc, ◌<◌, ◌∙◌, sym, refl, ap, subst, List, [], ◌∷◌, ◌++◌, map, length, Some, arith}
use Rattle.std.specs.Prelude.{slice_get}
use Rattle.std.specs.List.{All}
use Rattle.std.proofs.lemmas.Option.{slice_get_within}
use Rattle.std.proofs.lemmas.List.{map-append}
use Rattle.std.proofs.lemmas.List.Elements.{All-nil, All-cons, All-head, All-tail, All-append, All-map, All-weaker}
use Rattle.rtl_core.specs.declared.design.OutPin.{OutPin}
use Rattle.rtl_core.specs.declared.design.Reg.{Reg}
use Rattle.rtl_core.specs.declared.design.Port.{Port}
use Rattle.rtl_core.specs.Netlist.{Netlist, Memory}
use Rattle.rtl_core.specs.ClockStep.{widths}
use Rattle.rtl_core.specs.Valid.{IsName, RegisterFits, OutputFits, IsValid}
use Rattle.rtl_core.specs.ModuleSyntax.{DeclaredMemory, Always, Writes}
use Rattle.rtl_core.specs.ModuleText.{declared_name, target, InOrder, AssignMeans, WriteMeans, BlockMeans}
use Rattle.verilog_print.specs.PrintedSyntax.{memory_name, numbered, register_of, memory_at, assign_of, register_block, write_of, ports_block, memory_blocks, syntax_of}
use Rattle.verilog_print.proofs.Items.{CanAssign, CanWritePort, CanWriteBlock}
use Rattle.verilog_print.proofs.Lists.{All-right, All-place, Behind, Behind-first, Behind-next, Behind-whole, by_places, numbered_all, in_order_map, map_numbered}
use Rattle.verilog_print.proofs.Fitting.{atom_there, PortIsThere, MemoryIsThere, all_memories_there}
use Rattle.verilog_print.proofs.Meaning.{AreCounted, printed_names, register_named, memory_named, operand_means, register_identifier, memory_identifier, can_write}

-- ---- which registers and memories have a block

memory_targets : (d : Netlist) (j : ℕ) (ms : List Memory) → All (MemoryIsThere d) ms → map target (memory_blocks d.inputs j ms) ≡ map (λ (x : DeclaredMemory). x.name) (numbered memory_at j ms)
memory_targets d j [] h = refl
memory_targets d j (m ∷ ms) h = go m.ports (All-head (MemoryIsThere d) m ms h).some (memory_targets d (suc j) ms (All-tail (MemoryIsThere d) m ms h))
  where
    go : (ports : List Port) → 0 < length ports → map target (memory_blocks d.inputs (suc j) ms) ≡ map (λ (x : DeclaredMemory). x.name) (numbered memory_at (suc j) ms) → map target (ports_block d.inputs j ports ++ memory_blocks d.inputs (suc j) ms) ≡ memory_name j ∷ map (λ (x : DeclaredMemory). x.name) (numbered memory_at (suc j) ms)
    go [] some later = absurd (omega arith)
    go (p ∷ ps) some later = ap (λ names. memory_name j ∷ names) later

pub targets : (d : Netlist) → IsValid d → map target (syntax_of d).blocks ≡ (printed_names d).regs ++ (printed_names d).mems
targets d v =
    let regs = numbered (register_block d.inputs) 0 d.regs in
    map-append target regs (memory_blocks d.inputs 0 d.mems)
    ∙ ap (λ xs. xs ++ map target (memory_blocks d.inputs 0 d.mems)) (map_numbered target (register_block d.inputs) declared_name register_of (λ k r. refl) 0 d.regs)
    ∙ ap (λ xs. (printed_names d).regs ++ xs) (memory_targets d 0 d.mems (all_memories_there d v))

-- ---- outputs

assign_means : (d : Netlist) → IsValid d → (k : ℕ) (o : OutPin) → slice_get d.outputs k ≡ Some o → AssignMeans (printed_names d) d.outputs (assign_of d.inputs o)
assign_means d v k o found =
    let fits = All-place (OutputFits (widths d)) d.outputs k o v.outputs found in
    record { place = k; output = o; found = found; named = refl; from = operand_means d o.from (atom_there d o.bits o.from fits.from) }

pub assigns_mean : (d : Netlist) → IsValid d → All (AssignMeans (printed_names d) d.outputs) (syntax_of d).assigns
assigns_mean d v =
    All-map (AssignMeans (printed_names d) d.outputs) (assign_of d.inputs) d.outputs
    (by_places (λ o. AssignMeans (printed_names d) d.outputs (assign_of d.inputs o)) d.outputs (assign_means d v))

-- ---- registers

register_fits : (d : Netlist) → IsValid d → (k : ℕ) (r : Reg) → slice_get d.regs k ≡ Some r → RegisterFits (widths d) r
register_fits d v k r found = All-place (RegisterFits (widths d)) d.regs k r v.regs found

register_block_means : (d : Netlist) → IsValid d → (k : ℕ) (r : Reg) → slice_get d.regs k ≡ Some r → BlockMeans (printed_names d) d (register_block d.inputs k r)
register_block_means d v k r found =
    let fits = register_fits d v k r found in
    record {
      place = k;
      register = r;
      found = found;
      named = register_named d k (slice_get_within d.regs k r found);
      enable_is = operand_means d r.enable (atom_there d 1 r.enable fits.enable);
      next_is = operand_means d r.next (atom_there d r.bits r.next fits.next);
    }

-- ---- memories

write_means : (d : Netlist) (k : ℕ) (p : Port) → PortIsThere d p → WriteMeans (printed_names d) (memory_name k) (write_of d.inputs k p) p
write_means d k p h =
    record { target = refl; enable = operand_means d p.enable h.enable; address = operand_means d p.addr h.addr; value = operand_means d p.value h.value }

ports_mean : (d : Netlist) (k : ℕ) (m : Memory) → slice_get d.mems k ≡ Some m → (ports : List Port) → m.ports ≡ ports → All (PortIsThere d) ports → All (BlockMeans (printed_names d) d) (ports_block d.inputs k ports)
ports_mean d k m found [] e h = All-nil (BlockMeans (printed_names d) d)
ports_mean d k m found (p ∷ ps) e h =
    let block = Writes (write_of d.inputs k p) (map (write_of d.inputs k) ps) in
    let order : InOrder (WriteMeans (printed_names d) (memory_name k)) (map (write_of d.inputs k) (p ∷ ps)) (p ∷ ps) = in_order_map (WriteMeans (printed_names d) (memory_name k)) (PortIsThere d) (write_of d.inputs k) (write_means d k) (p ∷ ps) h in
    let means : BlockMeans (printed_names d) d block = record {
      place = k;
      memory = m;
      found = found;
      named = memory_named d k (slice_get_within d.mems k m found);
      ports = subst (InOrder (WriteMeans (printed_names d) (memory_name k)) (map (write_of d.inputs k) (p ∷ ps))) (sym e) order;
    } in
    All-cons (BlockMeans (printed_names d) d) block [] means (All-nil (BlockMeans (printed_names d) d))

-- what holds of the block of each memory
memory_blocks_all : (d : Netlist) (Q : Always → Type 0) → ((k : ℕ) (m : Memory) → slice_get d.mems k ≡ Some m → All Q (ports_block d.inputs k m.ports)) → (j : ℕ) (ms : List Memory) → Behind d.mems j ms → All Q (memory_blocks d.inputs j ms)
memory_blocks_all d Q h j [] b = All-nil Q
memory_blocks_all d Q h j (m ∷ ms) b =
    All-append Q (ports_block d.inputs j m.ports) (memory_blocks d.inputs (suc j) ms) (h j m (Behind-first d.mems j m ms b))
    (memory_blocks_all d Q h (suc j) ms (Behind-next d.mems j m ms b))

pub blocks_mean : (d : Netlist) → IsValid d → All (BlockMeans (printed_names d) d) (syntax_of d).blocks
blocks_mean d v =
    let Q = BlockMeans (printed_names d) d in
    All-append Q (numbered (register_block d.inputs) 0 d.regs) (memory_blocks d.inputs 0 d.mems)
    (numbered_all Q (register_block d.inputs) d.regs (register_block_means d v))
    (memory_blocks_all d Q (λ k m found. ports_mean d k m found m.ports refl (All-place (MemoryIsThere d) d.mems k m (all_memories_there d v) found).ports) 0 d.mems (Behind-whole d.mems))

-- ---- what can be written

module _ (d : Netlist) (v : IsValid d) (counted : AreCounted d) where
  can_assign : (k : ℕ) (o : OutPin) → slice_get d.outputs k ≡ Some o → CanAssign (assign_of d.inputs o)
  can_assign k o found =
      let fits = All-place (OutputFits (widths d)) d.outputs k o v.outputs found in
      let name = All-place (λ (o : OutPin). IsName o.name) d.outputs k o (outputs_named d.outputs (All-right IsName _ (map (λ (o : OutPin). o.name) d.outputs) v.names)) found in
      (name.identifier, can_write d v counted o.from (atom_there d o.bits o.from fits.from))
    where
      outputs_named : (os : List OutPin) → All IsName (map (λ (o : OutPin). o.name) os) → All (λ (o : OutPin). IsName o.name) os
      outputs_named [] h = All-nil (λ (o : OutPin). IsName o.name)
      outputs_named (o ∷ os) h =
          All-cons (λ (o : OutPin). IsName o.name) o os (All-head IsName o.name (map (λ (o : OutPin). o.name) os) h)
          (outputs_named os (All-tail IsName o.name (map (λ (o : OutPin). o.name) os) h))

  pub can_write_assigns : All CanAssign (syntax_of d).assigns
  can_write_assigns = All-map CanAssign (assign_of d.inputs) d.outputs (by_places (λ o. CanAssign (assign_of d.inputs o)) d.outputs can_assign)

  can_write_register : (k : ℕ) (r : Reg) → slice_get d.regs k ≡ Some r → CanWriteBlock (register_block d.inputs k r)
  can_write_register k r found =
      let fits = register_fits d v k r found in (
        can_write d v counted r.enable (atom_there d 1 r.enable fits.enable),
        register_identifier k (omega (arith, slice_get_within d.regs k r found, counted.regs)),
        can_write d v counted r.next (atom_there d r.bits r.next fits.next),
      )

  can_write_port : (k : ℕ) → k < length d.mems → (p : Port) → PortIsThere d p → CanWritePort (write_of d.inputs k p)
  can_write_port k few p h =
      (can_write d v counted p.enable h.enable, memory_identifier k (omega (arith, few, counted.mems)), can_write d v counted p.addr h.addr, can_write d v counted p.value h.value)

  can_write_ports : (k : ℕ) → k < length d.mems → (ports : List Port) → All (PortIsThere d) ports → All CanWriteBlock (ports_block d.inputs k ports)
  can_write_ports k few [] h = All-nil CanWriteBlock
  can_write_ports k few (p ∷ ps) h =
      let first = can_write_port k few p (All-head (PortIsThere d) p ps h) in
      let others =
      All-map CanWritePort (write_of d.inputs k) ps
      (All-weaker (PortIsThere d) (λ p. CanWritePort (write_of d.inputs k p)) (can_write_port k few) ps (All-tail (PortIsThere d) p ps h)) in
      All-cons CanWriteBlock (Writes (write_of d.inputs k p) (map (write_of d.inputs k) ps)) [] (first, others) (All-nil CanWriteBlock)

  pub can_write_blocks : All CanWriteBlock (syntax_of d).blocks
  can_write_blocks =
      All-append CanWriteBlock (numbered (register_block d.inputs) 0 d.regs) (memory_blocks d.inputs 0 d.mems)
      (numbered_all CanWriteBlock (register_block d.inputs) d.regs can_write_register)
      (memory_blocks_all d CanWriteBlock (λ k m found. can_write_ports k (slice_get_within d.mems k m found) m.ports (All-place (MemoryIsThere d) d.mems k m (all_memories_there d v) found).ports) 0 d.mems (Behind-whole d.mems))
