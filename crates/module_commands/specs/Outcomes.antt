-- What the commands `timing`, `blast` and `link` give for the texts of modules: a status, a line, and the bytes of the file that is written, if any.
use Rattle.std.specs.Prelude.{◌≡◌, ◌≤◌, ◌⊎◌, ℕ, List, [], ◌∷◌, map, length, None, Some, Result, Ok, Err}
use Rattle.std.specs.declared.vec.Vec.{Vec}
use Rattle.std.specs.declared.alloc.Global.{Global}
use Rattle.hls_base.specs.declared.refusal.Fail.{Fail}
use Rattle.hls_base.specs.declared.refusal.Fail.TheVariants.{Refused, Memory}
use Rattle.hls_base.specs.declared.refusal.Refusal.{Refusal}
use Rattle.rtl_core.specs.Netlist.{Netlist}
use Rattle.rtl_core.specs.ModuleText.{IsModuleText}
use Rattle.verilog_syntax.specs.TextSyntax.{limit}
use Rattle.verilog_read.specs.TextFaults as text_faults
use Rattle.timing_path.specs.Paths.{IsLongest}
use Rattle.aig_graph.specs.Graphs.{AndGraph}
use Rattle.aig_text.specs.TextForm.{IsText}
use Rattle.aig_blast.specs.Encoding.{IsGraphOf}
use Rattle.aig_blast.specs.Weight.{IsBlastFault, IsSmall}
use Rattle.chain_link.specs.Faults.{AreFew, AreStages, IsLinkFault}
use Rattle.chain_link.specs.Laws.{IsLinked}
use Rattle.module_commands.specs.declared.outcome.Outcome.{Outcome}
use Rattle.module_commands.specs.Lines.{path_line, blasted_line, linked_line, module_refusal_line}

-- ---- texts

-- a text of at most 67,108,864 bytes, of this circuit
pub record IsModule (text : List ℕ) (d : Netlist) : Type 0 where
  pub within : length text ≤ limit
  pub is : IsModuleText text d

-- the bytes of each text
abbrev pub texts_of : List (Vec ℕ Global) → List (List ℕ)
texts_of texts = map (λ (text : Vec ℕ Global). text.items) texts

-- one circuit for each text, in order
abbrev pub AreModules : List (List ℕ) → List Netlist → Type 0
AreModules [] [] = Unit {0}
AreModules [] (d ∷ ds) = ⊥
AreModules (t ∷ ts) [] = ⊥
AreModules (t ∷ ts) (d ∷ ds) = IsModule t d × AreModules ts ds

-- the fault of the first text that has one
abbrev pub IsFirstFault : List (List ℕ) → Refusal → Type 0
IsFirstFault [] r = ⊥
IsFirstFault (t ∷ ts) r = text_faults.IsFirstFault t r ⊎ (((d : Netlist) × IsModule t d) × IsFirstFault ts r)

-- ---- outcomes

-- a module is refused: nothing is written, and the line names the rule
pub record IsRefusal (r : Refusal) (o : Outcome) : Type 0 where
  pub status : o.status ≡ 8
  pub line : o.line ≡ module_refusal_line r
  pub written : o.written ≡ None

-- the outcome of work that is either done or ends with a refusal
abbrev pub IsSettled : Result Outcome Fail → Outcome → Type 0
IsSettled (Ok done) o = o ≡ done
IsSettled (Err (Refused r)) o = IsRefusal r o
IsSettled (Err Memory) o = ⊥

-- the longest path of the circuit
pub record IsPathOf (d : Netlist) (o : Outcome) : Type 0 where
  pub delay : ℕ
  pub wires : List ℕ
  pub longest : IsLongest d delay wires
  pub status : o.status ≡ 0
  pub line : o.line ≡ path_line delay wires
  pub written : o.written ≡ None

-- a graph of the circuit is written
pub record IsGraphFileOf (d : Netlist) (o : Outcome) : Type 0 where
  pub graph : AndGraph
  pub is : IsGraphOf d graph
  pub text : List ℕ
  pub text_is : IsText text graph
  pub status : o.status ≡ 0
  pub line : o.line ≡ blasted_line graph
  pub written : o.written ≡ Some text

-- the text of the linked circuit of the stages is written
pub record IsChainFileOf (stages : List Netlist) (depth : ℕ) (o : Outcome) : Type 0 where
  pub chain : Netlist
  pub linked : IsLinked stages depth chain
  pub text : List ℕ
  pub text_is : IsModuleText text chain
  pub status : o.status ≡ 0
  pub line : o.line ≡ linked_line (length stages)
  pub written : o.written ≡ Some text

-- ---- refusals

-- the text is refused, or the graph of its circuit would be too large
abbrev pub IsBlastRefusal : List ℕ → Refusal → Type 0
IsBlastRefusal text r = text_faults.IsFirstFault text r ⊎ ((d : Netlist) × IsModule text d × IsBlastFault d r)

-- a text is refused, or the circuits cannot be linked
abbrev pub IsLinkRefusal : List (List ℕ) → Refusal → Type 0
IsLinkRefusal texts r = IsFirstFault texts r ⊎ ((ds : List Netlist) × AreModules texts ds × IsLinkFault ds r)

-- ---- the commands

pub data IsTiming (text : List ℕ) (o : Outcome) : Type 0 where
  done : (d : Netlist) → IsModule text d → IsPathOf d o → IsTiming text o
  refused : (r : Refusal) → text_faults.IsFirstFault text r → IsRefusal r o → IsTiming text o

pub data IsBlast (text : List ℕ) (o : Outcome) : Type 0 where
  done : (d : Netlist) → IsModule text d → IsSmall d → IsGraphFileOf d o → IsBlast text o
  refused : (r : Refusal) → text_faults.IsFirstFault text r → IsRefusal r o → IsBlast text o
  too_large : (d : Netlist) (r : Refusal) → IsModule text d → IsBlastFault d r → IsRefusal r o → IsBlast text o

-- Where there are more than 16 texts, rule 82 is reported before any is read, so this is said of at most 16.
pub data IsLink (texts : List (List ℕ)) (depth : ℕ) (o : Outcome) : Type 0 where
  done : (ds : List Netlist) → AreModules texts ds → AreFew ds → AreStages None ds → IsChainFileOf ds depth o → IsLink texts depth o
  refused : (r : Refusal) → IsFirstFault texts r → IsRefusal r o → IsLink texts depth o
  unlinked : (ds : List Netlist) (r : Refusal) → AreModules texts ds → IsLinkFault ds r → IsRefusal r o → IsLink texts depth o

-- ---- what is done unless memory is wanting

abbrev pub IsRead : List ℕ → Type 0
IsRead text = (d : Netlist) × IsModule text d

abbrev pub IsReadAndSmall : List ℕ → Type 0
IsReadAndSmall text = (d : Netlist) × IsModule text d × IsSmall d

abbrev pub AreReadAsStages : List (List ℕ) → Type 0
AreReadAsStages texts = (ds : List Netlist) × AreModules texts ds × AreFew ds × AreStages None ds
