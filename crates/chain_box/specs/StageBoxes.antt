-- The box of a stage: one scalar parameter, no arrays, and a result. It is stated for arbitrary answers to a start.
use Rattle.std.specs.Prelude.{◌≡◌, ℕ, Bool, true, false, List, [], ◌∷◌, Option, Some, None, unwrap_or}
use Rattle.hls_base.specs.FileScope.{FileScope}
use Rattle.rtl_core.specs.ClockStep.{bit_of}
use Rattle.rtl_core.specs.Interface.{Interface}
use Rattle.rtl_core.specs.Box.{Answer, Ended, Undefined, Endless, Answers, Phase, Init, Idle, Busy, Done, Forever, Broken, Box, BoxStep, initial}

-- The possible answers to a start, by number; a number may have none. Answers are countable, so every set of answers can be given in this way.
abbrev pub Numbered : Type 0
Numbered = FileScope → List ℕ → List (List ℕ) → ℕ → Option Answer

abbrev pub answers_of : Numbered → Answers
answers_of numbered file_scope arguments arrays answer = (n : ℕ) × (numbered file_scope arguments arrays n ≡ Some answer)

-- the widths of the parameter and of the result, the cycles of the initial sequence, the initial file-scope contents, and the answers
pub record StageBox : Type 0 where
  pub argument : ℕ
  pub result : ℕ
  pub init : ℕ
  pub file_scope : FileScope
  pub answers : Numbered

-- one scalar parameter and a result, of these widths
abbrev pub stage_interface : ℕ → ℕ → Interface
stage_interface argument result = record { scalars = argument ∷ []; arrays = []; result = Some result }

abbrev pub interface_of : StageBox → Interface
interface_of b = stage_interface b.argument b.result

-- the box after a reset
abbrev pub begun_box : StageBox → Box
begun_box b = record { phase = initial b.init; arrays = []; file_scope = b.file_scope; shown = None }

-- the values of a stage's pins in a cycle; reset and the host's pins are low
abbrev pub stage_pins : Bool → ℕ → List ℕ
stage_pins start x = 0 ∷ bit_of start ∷ 0 ∷ 0 ∷ 0 ∷ 0 ∷ 0 ∷ x ∷ []

-- one cycle, with or without a start; x is the argument
abbrev pub StageStep : StageBox → Box → Bool → ℕ → Box → Type 0
StageStep b old start x new = BoxStep (interface_of b) (answers_of b.answers) old (stage_pins start x) new

abbrev pub is_ready : Phase → Bool
is_ready (Init cycles) = false
is_ready Idle = true
is_ready (Busy cycles result arrays file_scope) = false
is_ready (Done result) = true
is_ready Forever = false
is_ready Broken = false

abbrev pub is_done : Phase → Bool
is_done (Init cycles) = false
is_done Idle = false
is_done (Busy cycles result arrays file_scope) = false
is_done (Done result) = true
is_done Forever = false
is_done Broken = false

-- the result of a box that is done, or 0 if it has none
abbrev pub given_result : Phase → ℕ
given_result (Init cycles) = 0
given_result Idle = 0
given_result (Busy cycles result arrays file_scope) = 0
given_result (Done result) = unwrap_or result 0
given_result Forever = 0
given_result Broken = 0

-- ---- properties of answers

abbrev pub HasResult : Answer → Type 0
HasResult (Ended cycles result arrays file_scope) = (x : ℕ) × (result ≡ Some x)
HasResult Undefined = Unit {0}
HasResult Endless = Unit {0}

-- every run that ends has a result
abbrev pub HasResults : StageBox → Type 0
HasResults b = (file_scope : FileScope) (arguments : List ℕ) (arrays : List (List ℕ)) (answer : Answer) → answers_of b.answers file_scope arguments arrays answer → HasResult answer

-- the result of a run, if it ends
abbrev pub answer_value : Answer → Option ℕ
answer_value (Ended cycles result arrays file_scope) = Some (unwrap_or result 0)
answer_value Undefined = None
answer_value Endless = None

-- The result of a start depends on the item alone, and not on the file-scope contents.
abbrev pub ComesTo : StageBox → (ℕ → Option ℕ) → Type 0
ComesTo b results = (file_scope : FileScope) (x : ℕ) (arrays : List (List ℕ)) (answer : Answer) → answers_of b.answers file_scope (x ∷ []) arrays answer → answer_value answer ≡ results x

abbrev pub IsMeaningful : Answer → Type 0
IsMeaningful (Ended cycles result arrays file_scope) = Unit {0}
IsMeaningful Undefined = ⊥
IsMeaningful Endless = Unit {0}

-- every start has a meaningful answer
abbrev pub AlwaysAnswers : StageBox → Type 0
AlwaysAnswers b = (file_scope : FileScope) (arguments : List ℕ) (arrays : List (List ℕ)) → (answer : Answer) × answers_of b.answers file_scope arguments arrays answer × IsMeaningful answer
