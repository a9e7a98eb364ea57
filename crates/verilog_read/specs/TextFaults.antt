-- The first fault of a text.
use Rattle.std.specs.Prelude.{◌≡◌, ℕ, ◌<◌, ◌≤◌, List, length, Some}
use Rattle.hls_base.specs.declared.refusal.Refusal.{Refusal}
use Rattle.hls_base.specs.TextPlaces.{text_start}
use Rattle.verilog_syntax.specs.PlacedSyntax.{PlacedModule}
use Rattle.verilog_read.specs.Earliest.{first_fault}
use Rattle.verilog_read.specs.Faults.{module_faults}
use Rattle.verilog_syntax.specs.TextSyntax.{limit, Says, FrontFault}

-- the first fault of a text: its length, then its tokens, and only then what it says
pub data IsFirstFault (bytes : List ℕ) : Refusal → Type 0 where
  too_long : limit < length bytes → IsFirstFault bytes (record { rule = 56; place = text_start })
  at_front : (fault : Refusal) → length bytes ≤ limit → FrontFault bytes fault → IsFirstFault bytes fault
  in_module : (m : PlacedModule) (fault : Refusal) → length bytes ≤ limit → Says bytes m → first_fault (module_faults m) ≡ Some fault → IsFirstFault bytes fault
