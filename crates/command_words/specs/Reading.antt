-- Which words are a command.
use Rattle.std.specs.Prelude.{ℕ, List, Option}
use Rattle.std.specs.Option.{option_or}
use Rattle.command_words.specs.Commands.{Command, plain_command_of}
use Rattle.command_words.specs.ClapMatches.{clap_command_of}

-- the command that words are, in the plain form or else by `clap`
abbrev pub command_of : List (List ℕ) → Option Command
command_of ws = option_or (plain_command_of ws) (clap_command_of ws)
