use Rattle.std.proofs.lemmas.Result.{IfOk-weaker}
use Rattle.command_words.specs.ClapCommand.{hls_app}
use Rattle.command_words.proofs.Chains.{made_bare, subcommand_added}
use Rattle.command_words.proofs.clap_command.hls_app.Goals as goal

pub returns : goal.returns
unfolding hls_app
returns c =
    let start = made_bare _ _ _ _ _ c.new.ensures.app c.no_binary_name.ensures c.disable_help_flag.ensures c.disable_help_subcommand.ensures in
    let first = subcommand_added _ _ _ _ _ c.in_ok-subcommand.ensures c.in_ok-synth_app.ensures.local c.in_ok-synth_app.ensures.app start in
    let second = subcommand_added _ _ _ _ _ c.in_ok-subcommand-2.ensures c.in_ok-cosim_app.ensures.local c.in_ok-cosim_app.ensures.app first in
    let third = subcommand_added _ _ _ _ _ c.in_ok-subcommand-3.ensures c.in_ok-soak_app.ensures.local c.in_ok-soak_app.ensures.app second in
    let fourth = subcommand_added _ _ _ _ _ c.in_ok-subcommand-4.ensures c.in_ok-timing_app.ensures.local c.in_ok-timing_app.ensures.app third in
    let fifth = subcommand_added _ _ _ _ _ c.in_ok-subcommand-5.ensures c.in_ok-blast_app.ensures.local c.in_ok-blast_app.ensures.app fourth in
    IfOk-weaker c.subcommand-6.result _ _ (λ last added. subcommand_added _ _ last _ _ added c.in_ok-link_app.ensures.local c.in_ok-link_app.ensures.app fifth) c.subcommand-6.ensures
