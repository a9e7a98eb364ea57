-- Bytes that have a fault are the text of no circuit, unless they are too many.
use Rattle.std.proofs.Common.{◌≡◌, ℕ, ◌≤◌, List, [], ◌∷◌, ◌++◌, length, append_assoc, sym, ap, ◌∙◌, subst, arith}
use Rattle.std.specs.Prelude.{Result, Ok, Err}
use Rattle.std.proofs.lemmas.Option.{none-some}
use Rattle.std.proofs.lemmas.List.{map-append}
use Rattle.hls_base.specs.declared.refusal.Refusal.{Refusal}
use Rattle.hls_base.specs.declared.refusal.Fail.{Fail}
use Rattle.hls_base.specs.declared.refusal.Fail.TheVariants.{Refused, Memory}
use Rattle.hls_base.specs.Refusals.{IfRefused}
use Rattle.rtl_core.specs.Netlist.{Netlist}
use Rattle.rtl_core.specs.Valid.{IsName}
use Rattle.rtl_core.specs.ModuleText.{IsModuleText}
use Rattle.hls_base.specs.TextPlaces.{text_start}
use Rattle.verilog_syntax.specs.Lexemes.{Lexeme, tokens_of}
use Rattle.verilog_syntax.specs.Forms.{IsModule}
use Rattle.verilog_read.specs.Earliest.{first_fault}
use Rattle.verilog_syntax.specs.TextSyntax.{limit, FrontFault, unknown, misplaced, early}
use Rattle.verilog_read.specs.TextFaults.{IsFirstFault, too_long, at_front, in_module}
use Rattle.verilog_syntax.proofs.OneReading.{read_first, read_all, nothing_spelled}
use Rattle.verilog_syntax.proofs.Grammar.{proper, syntax_is_module}
use Rattle.verilog_read.proofs.Refuted.{faultless}
use Rattle.verilog_read.proofs.Relation.{said_means}

-- the tokens of a circuit's text are those of a module
module_tokens : (bytes : List ℕ) (d : Netlist) (is : IsModuleText bytes d) → IsModule is.tokens
module_tokens bytes d is =
    subst IsModule (sym is.derived) (syntax_is_module is.syntax (proper is.syntax d is.means (subst IsName is.means.name is.valid.name)))

front_none : (bytes : List ℕ) (fault : Refusal) (d : Netlist) → FrontFault bytes fault → IsModuleText bytes d → ⊥
front_none bytes _ d (unknown ls rest place reads nothing begins) is =
    let r = read_first bytes text_start ls rest place is.tokens reads is.spelled in nothing_spelled rest r.0 nothing r.2
front_none bytes _ d (misplaced before wrong after rest end reads begins stops) is =
    let r = read_first bytes text_start (before ++ wrong ∷ after) rest end is.tokens reads is.spelled in
    let parts : tokens_of (before ++ wrong ∷ after) ≡ tokens_of (before ++ wrong ∷ []) ++ tokens_of after =
    ap tokens_of (sym (append_assoc before (wrong ∷ []) after)) ∙ map-append (λ (l : Lexeme). l.token) (before ++ wrong ∷ []) after in
    let whole : is.tokens ≡ tokens_of (before ++ wrong ∷ []) ++ (tokens_of after ++ r.0) =
    r.1 ∙ (ap (λ t. t ++ r.0) parts ∙ append_assoc (tokens_of (before ++ wrong ∷ [])) (tokens_of after) r.0) in
    stops (tokens_of after ++ r.0, subst IsModule whole (module_tokens bytes d is))
front_none bytes _ d (early ls end reads begins not_module) is =
    not_module (subst IsModule (read_all bytes text_start ls end is.tokens reads is.spelled) (module_tokens bytes d is))

pub no_text : (bytes : List ℕ) (fault : Refusal) → IsFirstFault bytes fault → length bytes ≤ limit → (d : Netlist) → IsModuleText bytes d → ⊥
no_text bytes _ (too_long h) few d is = omega (arith, h, few)
no_text bytes _ (at_front fault few2 f) few d is = front_none bytes fault d f is
no_text bytes _ (in_module m fault few2 said h) few d is =
    none-some fault (sym (ap first_fault (faultless m d (said_means bytes m d said is) is.valid said.blocks)) ∙ h)

pub refused_no_text : {A : Type 0} (bytes : List ℕ) (r : Result A Fail) → IfRefused r (λ x. IsFirstFault bytes x) → IfRefused r (λ x. length bytes ≤ limit → (d : Netlist) → IsModuleText bytes d → ⊥)
refused_no_text bytes (Ok d) h = tt
refused_no_text bytes (Err (Refused x)) h = no_text bytes x h
refused_no_text bytes (Err Memory) h = tt
