use Rattle.std.proofs.Common.{◌∙◌, map}
use Rattle.std.specs.String.{string_bytes}
use Rattle.command_words.proofs.Parses.{is_exact, matched, unmatched}
use Rattle.command_words.proofs.clap_matches.matches_of.Goals as goal

pub returns-in-Ok : goal.returns-in-Ok
returns-in-Ok c = matched _ (map string_bytes c.args.words.now) c.in-Ok.matches c.in_ok-hls_app.ensures (c.in-Ok.ensures.kinds (is_exact _ c.in_ok-hls_app.ensures)) c.in-Ok.ensures.matches

pub returns : goal.returns
returns c =
    unmatched _ (map string_bytes c.args.words.now) c.in-Err.error c.in_ok-hls_app.ensures (c.in-Err.ensures.kinds (is_exact _ c.in_ok-hls_app.ensures))
    (λ e. c.in_default.not-OutOfMemory (c.kind.ensures ∙ e))
