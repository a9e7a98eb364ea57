-- The `clap` command of the program. It has a subcommand for each command, and nothing that is not written here: no help and no version.
use Rattle.std.specs.Prelude.{List, [], ◌∷◌, Some, true, fold, codes}
use Rattle.clap.specs.Words.{App, Rule, Shape, Text, new_app, new_rule, with_rule, with_subcommand}
use Rattle.clap.specs.Simple.{on_top}
use Rattle.clap.specs.Lexer.{usize_max}
use Rattle.clap.specs.declared.builder.action.ArgAction.TheVariants.{Set, SetTrue}

-- a file name or a number at its place
abbrev pub positional : Text → Rule
positional name = record (new_rule name) { action = Some Set; required = true }

-- one or more file names behind the other positional arguments
abbrev pub one_or_more : Text → Rule
one_or_more name = record (positional name) { range = Some (record { start_inclusive = 1; end_inclusive = usize_max }) }

-- an option with one value
abbrev pub option : Text → Rule
option name = record (new_rule name) { long = Some name; action = Some Set }

abbrev pub required_option : Text → Rule
required_option name = record (option name) { required = true }

abbrev pub flag : Text → Rule
flag name = record (new_rule name) { long = Some name; action = Some SetTrue }

abbrev pub with_rules : Text → List Rule → App
with_rules name rules = fold with_rule (new_app name) rules

abbrev pub synth_app : App
synth_app = with_rules (codes "synth")
    (positional (codes "source") ∷ positional (codes "module") ∷ positional (codes "report")
    ∷ required_option (codes "top") ∷ option (codes "mul") ∷ option (codes "div") ∷ option (codes "ports") ∷ option (codes "period") ∷ flag (codes "plain") ∷ [])

abbrev pub cosim_app : App
cosim_app = with_rules (codes "cosim")
    (positional (codes "source") ∷ positional (codes "module") ∷ positional (codes "report") ∷ positional (codes "run")
    ∷ required_option (codes "top") ∷ option (codes "points") ∷ option (codes "cycles") ∷ [])

abbrev pub soak_app : App
soak_app = with_rules (codes "soak") (positional (codes "number") ∷ [])

abbrev pub timing_app : App
timing_app = with_rules (codes "timing") (positional (codes "module") ∷ [])

abbrev pub blast_app : App
blast_app = with_rules (codes "blast") (positional (codes "module") ∷ positional (codes "graph") ∷ [])

abbrev pub link_app : App
link_app = with_rules (codes "link") (positional (codes "chain") ∷ positional (codes "depth") ∷ one_or_more (codes "stages") ∷ [])

-- the words begin behind the program's name
abbrev pub bare : Shape → Shape
bare s = record s { no_binary_name = true; disable_help_flag = true; disable_help_subcommand = true }

unfoldable pub hls_app : App
hls_app = fold (λ app sub. with_subcommand app sub.top) (on_top bare (new_app (codes "hls"))) (synth_app ∷ cosim_app ∷ soak_app ∷ timing_app ∷ blast_app ∷ link_app ∷ [])
