-- The text of a module without a fault is the text of its circuit, and of no other.
use Rattle.std.proofs.Common.{◌≡◌, ℕ, ◌≤◌, List, [], length, refl, sym, ◌∙◌, subst, None}
use Rattle.rtl_core.specs.Netlist.{Netlist}
use Rattle.rtl_core.specs.ModuleText.{Means, IsModuleText}
use Rattle.hls_base.specs.TextPlaces.{text_start}
use Rattle.verilog_syntax.specs.Lexemes.{tokens_of}
use Rattle.verilog_syntax.specs.PlacedSyntax.{PlacedModule}
use Rattle.verilog_read.specs.Earliest.{first_fault}
use Rattle.verilog_read.specs.Faults.{module_faults}
use Rattle.verilog_read.specs.Circuit.{circuit_of}
use Rattle.verilog_syntax.specs.TextSyntax.{limit, Says}
use Rattle.verilog_read.proofs.NoFaults.{no_faults}
use Rattle.verilog_syntax.proofs.Unplaced.{syntax_of}
use Rattle.verilog_read.proofs.SizedConstants.{IsSizedModule, sized_module}
use Rattle.verilog_read.proofs.Clean.{clean}
use Rattle.verilog_read.proofs.Meaning.{means}
use Rattle.verilog_read.proofs.Validity.{valid}
use Rattle.verilog_syntax.proofs.OneReading.{spells, read_all}
use Rattle.verilog_syntax.proofs.OneSyntax.{same_syntax}
use Rattle.verilog_read.proofs.OneCircuit.{one_circuit}
use Rattle.verilog_syntax.proofs.OneFront.{said_tokens}

pub said_sized : (bytes : List ℕ) (m : PlacedModule) → length bytes ≤ limit → Says bytes m → IsSizedModule m
said_sized bytes m few said = sized_module bytes text_start said.end said.lexemes m few said.reads said.stand

-- any circuit whose text the bytes are is meant by what is said
pub said_means : (bytes : List ℕ) (m : PlacedModule) (e : Netlist) → Says bytes m → IsModuleText bytes e → Means (syntax_of m) e
said_means bytes m e said is =
    let tokens = read_all bytes text_start said.lexemes said.end is.tokens said.reads is.spelled in
    let same : is.syntax ≡ syntax_of m = same_syntax is.syntax (syntax_of m) (sym is.derived ∙ (tokens ∙ said_tokens bytes m said)) in
    subst (λ s. Means s e) same is.means

pub related : (bytes : List ℕ) (m : PlacedModule) → length bytes ≤ limit → Says bytes m → first_fault (module_faults m) ≡ None → IsModuleText bytes (circuit_of m)
related bytes m few said none =
    let c = clean m (no_faults (module_faults m) none) in
    let sized = said_sized bytes m few said in
    record {
      tokens = tokens_of said.lexemes;
      syntax = syntax_of m;
      spelled = spells bytes text_start said.lexemes [] said.end said.reads refl;
      derived = said_tokens bytes m said;
      means = means m said.named said.blocks sized c;
      valid = valid m said.named said.blocks sized c;
    }

pub only_related : (bytes : List ℕ) (m : PlacedModule) (e : Netlist) → length bytes ≤ limit → Says bytes m → first_fault (module_faults m) ≡ None → IsModuleText bytes e → e ≡ circuit_of m
only_related bytes m e few said none is =
    let c = clean m (no_faults (module_faults m) none) in
    let sized = said_sized bytes m few said in
    one_circuit (syntax_of m) e (circuit_of m) (said_means bytes m e said is) (means m said.named said.blocks sized c)
