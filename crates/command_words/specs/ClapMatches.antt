-- The command that words are by their matches of the `clap` command.
use Rattle.std.specs.Prelude.{◌^◌, ◌-◌, Bool, false, List, [], ◌∷◌, Option, Some, None, codes, if◌then◌else◌}
use Rattle.std.specs.Option.{option_and_then, option_map, option_map_or}
use Rattle.std.specs.Str.{bytes_eq}
use Rattle.clap.specs.Words.{Kinds, Row, Text, all_of, fault_of, first_of, subcommand_of}
use Rattle.command_words.specs.Words.{number_in}
use Rattle.command_words.specs.Options.{Options}
use Rattle.command_words.specs.Commands.{Command, soak, timing, synth_with, cosim_with, blast_with, link_with, all_differ}
use Rattle.command_words.specs.ClapCommand.{hls_app}

-- what words give that have these faults
abbrev pub unless_faulty : Kinds → Option (Text × List Row) → Option (Text × List Row)
unless_faulty [] matches = matches
unless_faulty (kind ∷ kinds) matches = None

-- the subcommand that the words name, and its matches
unfoldable pub matches_of_words : List Text → Option (Text × List Row)
matches_of_words ws = unless_faulty (fault_of hls_app ws) (subcommand_of hls_app ws)

-- a flag has one of the values `true` and `false`
abbrev pub is_set : Text → List Row → Bool
is_set name rows = option_map_or (λ value. bytes_eq value (codes "true")) (first_of name rows) false

abbrev pub options_in : List Row → Options
options_in rows = record {
  top = first_of (codes "top") rows;
  mul = first_of (codes "mul") rows;
  div = first_of (codes "div") rows;
  ports = first_of (codes "ports") rows;
  period = first_of (codes "period") rows;
  points = first_of (codes "points") rows;
  cycles = first_of (codes "cycles") rows;
  plain = is_set (codes "plain") rows;
}

abbrev pub synth_of_files : Options → Option Text → Option Text → Option Text → Option Command
synth_of_files o (Some s) (Some m) (Some r) = if all_differ (s ∷ m ∷ r ∷ []) then synth_with s m r o else None
synth_of_files o _ _ _ = None

abbrev pub synth_in : List Row → Option Command
synth_in rows = synth_of_files (options_in rows) (first_of (codes "source") rows) (first_of (codes "module") rows) (first_of (codes "report") rows)

abbrev pub cosim_of_files : Options → Option Text → Option Text → Option Text → Option Text → Option Command
cosim_of_files o (Some s) (Some m) (Some r) (Some u) = if all_differ (s ∷ m ∷ r ∷ u ∷ []) then cosim_with s m r u o else None
cosim_of_files o _ _ _ _ = None

abbrev pub cosim_in : List Row → Option Command
cosim_in rows = cosim_of_files (options_in rows) (first_of (codes "source") rows) (first_of (codes "module") rows) (first_of (codes "report") rows) (first_of (codes "run") rows)

abbrev pub soak_in : List Row → Option Command
soak_in rows = option_and_then (λ number. option_map soak (number_in 0 (2 ^ 64 - 1) number)) (first_of (codes "number") rows)

abbrev pub timing_in : List Row → Option Command
timing_in rows = option_map timing (first_of (codes "module") rows)

abbrev pub blast_of_files : Option Text → Option Text → Option Command
blast_of_files (Some m) (Some g) = blast_with m g
blast_of_files _ _ = None

abbrev pub blast_in : List Row → Option Command
blast_in rows = blast_of_files (first_of (codes "module") rows) (first_of (codes "graph") rows)

abbrev pub link_of_values : Option Text → Option Text → Option (List Text) → Option Command
link_of_values (Some o) (Some d) (Some ms) = link_with o d ms
link_of_values _ _ _ = None

abbrev pub link_in : List Row → Option Command
link_in rows = link_of_values (first_of (codes "chain") rows) (first_of (codes "depth") rows) (all_of (codes "stages") rows)

-- the command of a subcommand other than `link` with these matches
abbrev pub fixed_command_in : Text → List Row → Option Command
fixed_command_in name rows =
    if bytes_eq name (codes "synth") then synth_in rows
    else (if bytes_eq name (codes "cosim") then cosim_in rows
    else (if bytes_eq name (codes "soak") then soak_in rows
    else (if bytes_eq name (codes "timing") then timing_in rows
    else (if bytes_eq name (codes "blast") then blast_in rows
    else None))))

-- the command of a subcommand with these matches
abbrev pub command_in : Text → List Row → Option Command
command_in name rows = if bytes_eq name (codes "link") then link_in rows else fixed_command_in name rows

abbrev pub clap_command_of : List Text → Option Command
clap_command_of ws = option_and_then (λ p. command_in p.0 p.1) (matches_of_words ws)
