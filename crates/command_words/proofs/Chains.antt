-- What a command becomes by one argument or one subcommand more.
use Rattle.std.proofs.Common.{◌≡◌, ◌∙◌, true, false, ◌||◌, ap, ap₂}
use Rattle.clap.specs.Words.{App, Rule, AddsArg, AddsSubcommand, app_of, rule_of, with_rule, with_subcommand}
use Rattle.clap.specs.Simple.{app_of_fields, on_top}
use Rattle.clap.specs.declared.builder.arg.Arg.{Arg}
use Rattle.clap.specs.declared.builder.command.Command.{Command}
use Rattle.clap.specs.declared.builder.command.Command.TheViews.{out-Command}
use Rattle.command_words.specs.ClapCommand.{bare}

pub rule_added : (old new : Command) (a : Arg) (app : App) (rule : Rule) → AddsArg old a new → a.global ≡ false → rule_of a ≡ rule → app_of old ≡ app
    → app_of new ≡ with_rule app rule
rule_added old new a app rule added local is before = added.shape local ∙ ap₂ with_rule before is

pub stays_local : (old new : Command) (a : Arg) → AddsArg old a new → a.global ≡ false → (out-Command old).has_globals ≡ false → (out-Command new).has_globals ≡ false
stays_local old new a added local before = added.globals ∙ ap₂ (λ x y. x || y) before local

pub subcommand_added : (old sub new : Command) (app below : App) → AddsSubcommand old sub new → (out-Command sub).has_globals ≡ false → app_of sub ≡ below → app_of old ≡ app
    → app_of new ≡ with_subcommand app below.top
subcommand_added old sub new app below added local is before = added.shape local ∙ ap₂ with_subcommand before (ap (λ (a : App). a.top) is)

-- a command with these settings
pub made_bare : (a b c d : Command) (app : App) → app_of a ≡ app → out-Command b ≡ record (out-Command a) { no_binary_name = true } → out-Command c ≡ record (out-Command b) { disable_help_flag = true }
    → out-Command d ≡ record (out-Command c) { disable_help_subcommand = true } → app_of d ≡ on_top bare app
made_bare a b c d app is first second third =
    ap app_of_fields third ∙ ap (λ (x : App). on_top (λ s. record s { disable_help_subcommand = true }) x) (ap app_of_fields second
    ∙ ap (λ (x : App). on_top (λ s. record s { disable_help_flag = true }) x) (ap app_of_fields first ∙ ap (λ (x : App). on_top (λ s. record s { no_binary_name = true }) x) is))
