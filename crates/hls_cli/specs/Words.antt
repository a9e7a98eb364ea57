-- What words ask for.
use Rattle.std.specs.Prelude.{◌≡◌, ◌⊎◌, ℕ, List, Some, None}
use Rattle.hls_base.specs.declared.settings.Settings.{Settings}
use Rattle.command_words.specs.Commands as command
use Rattle.command_words.specs.Commands.{Synth, Cosim, Blast, Link}
use Rattle.command_words.specs.Reading.{command_of}

-- the words are `synth` with these files and options
abbrev pub IsSynth : List (List ℕ) → Synth → Type 0
IsSynth words c = command_of words ≡ Some (command.synth c)

abbrev pub IsCosim : List (List ℕ) → Cosim → Type 0
IsCosim words c = command_of words ≡ Some (command.cosim c)

abbrev pub IsSoak : List (List ℕ) → ℕ → Type 0
IsSoak words n = command_of words ≡ Some (command.soak n)

abbrev pub IsTimingOf : List (List ℕ) → List ℕ → Type 0
IsTimingOf words m = command_of words ≡ Some (command.timing m)

abbrev pub IsBlastOf : List (List ℕ) → Blast → Type 0
IsBlastOf words c = command_of words ≡ Some (command.blast c)

abbrev pub IsLinkOf : List (List ℕ) → Link → Type 0
IsLinkOf words c = command_of words ≡ Some (command.link c)

-- the words are no command, or two of its files are one
abbrev pub IsUsage : List (List ℕ) → Type 0
IsUsage words = command_of words ≡ None

-- the words are a comparison, which changes no file
abbrev pub IsComparison : List (List ℕ) → Type 0
IsComparison words = ((c : Cosim) × IsCosim words c) ⊎ ((n : ℕ) × IsSoak words n)

-- the words are a command on modules
abbrev pub IsOnModules : List (List ℕ) → Type 0
IsOnModules words = ((m : List ℕ) × IsTimingOf words m) ⊎ (((c : Blast) × IsBlastOf words c) ⊎ ((c : Link) × IsLinkOf words c))

abbrev pub settings_of : Synth → Settings
settings_of c = record { top = c.top; mul = c.mul; div = c.div; ports = c.ports; plain = c.plain; period = c.period }
