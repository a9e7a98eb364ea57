-- The options of a command: in any order, and each at most once. The value of an option is the word behind its name.
use Rattle.std.specs.Prelude.{ℕ, Bool, true, false, List, [], ◌∷◌, Option, Some, None, codes, if◌then◌else◌}
use Rattle.std.specs.Str.{bytes_eq}
use Rattle.command_words.specs.Words.{is_plain}

-- the values of the options, each where it is there
pub record Options : Type 0 where
  pub top : Option (List ℕ)
  pub mul : Option (List ℕ)
  pub div : Option (List ℕ)
  pub ports : Option (List ℕ)
  pub period : Option (List ℕ)
  pub points : Option (List ℕ)
  pub cycles : Option (List ℕ)
  pub plain : Bool

abbrev pub no_options : Options
no_options = record { top = None; mul = None; div = None; ports = None; period = None; points = None; cycles = None; plain = false }

-- an option that has a value takes no other
abbrev pub filled : Option (List ℕ) → Options → Option Options
filled None o = Some o
filled (Some old) o = None

-- the options where the one of this name gets this value
abbrev pub given : Options → List ℕ → List ℕ → Option Options
given o name value =
    if bytes_eq name (codes "--top") then filled o.top (record o { top = Some value })
    else (if bytes_eq name (codes "--mul") then filled o.mul (record o { mul = Some value })
    else (if bytes_eq name (codes "--div") then filled o.div (record o { div = Some value })
    else (if bytes_eq name (codes "--ports") then filled o.ports (record o { ports = Some value })
    else (if bytes_eq name (codes "--period") then filled o.period (record o { period = Some value })
    else (if bytes_eq name (codes "--points") then filled o.points (record o { points = Some value })
    else (if bytes_eq name (codes "--cycles") then filled o.cycles (record o { cycles = Some value })
    else None))))))

abbrev pub flagged : Options → Option Options
flagged o = if o.plain then None else Some (record o { plain = true })

-- the options that words give behind others, where the name of an option may wait for its value
abbrev pub options_behind : Option Options → Option (List ℕ) → List (List ℕ) → Option Options
options_behind None name ws = None
options_behind (Some o) None [] = Some o
options_behind (Some o) (Some name) [] = None
options_behind (Some o) None (w ∷ ws) = if bytes_eq w (codes "--plain") then options_behind (flagged o) None ws else options_behind (Some o) (Some w) ws
options_behind (Some o) (Some name) (w ∷ ws) = if is_plain w then options_behind (given o name w) None ws else None

-- the options that these words give
abbrev pub options_of : List (List ℕ) → Option Options
options_of ws = options_behind (Some no_options) None ws
