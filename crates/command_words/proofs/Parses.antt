-- What a parse of the program's `clap` command says of the words.
use Rattle.std.proofs.Common.{◌≡◌, ◌≢◌, ◌∙◌, inl, inr, true, List, [], ◌∷◌, Option, None, refl, sym, ap, subst}
use Rattle.clap.specs.Words.{App, Kinds, Row, Text, HasKind, HasMatchesOf, IsAmong, fault_of, is_simple, is_simple_and_free, kind_of, subcommand_of, subcommand_rows_of}
use Rattle.clap.specs.declared.error.Error.{Error}
use Rattle.clap.specs.declared.error.kind.ErrorKind.{ErrorKind}
use Rattle.clap.specs.declared.error.kind.ErrorKind.TheVariants as kind
use Rattle.clap.specs.declared.parser.matches.ArgMatches.{ArgMatches}
use Rattle.clap.proofs.OnLiterals.{clap_on_literals}
use Rattle.command_words.specs.ClapCommand.{hls_app}
use Rattle.command_words.specs.ClapMatches.{matches_of_words, unless_faulty}

is_simple_here : is_simple hls_app ≡ true
unfolding clap_on_literals hls_app
is_simple_here = refl

is_free_here : is_simple_and_free hls_app ≡ true
unfolding clap_on_literals hls_app
is_free_here = refl

pub is_exact : (a : App) → a ≡ hls_app → is_simple_and_free a ≡ true
is_exact a e = ap is_simple_and_free e ∙ is_free_here

taken : (faults : Kinds) (found : Option (Text × List Row)) → faults ≡ [] → unless_faulty faults found ≡ found
taken [] found e = refl
taken (k ∷ ks) found e = absurd cc

-- the matches of a parse that succeeds
pub matched : (a : App) (ws : List Text) (m : ArgMatches) → a ≡ hls_app → fault_of a ws ≡ [] → HasMatchesOf a ws m → subcommand_rows_of m ≡ matches_of_words ws
unfolding matches_of_words
matched a ws m e none has =
    (has (ap is_simple e ∙ is_simple_here)).1 ∙ (ap (λ x. subcommand_of x ws) e ∙ sym (taken (fault_of hls_app ws) (subcommand_of hls_app ws) (sym (ap (λ x. fault_of x ws) e) ∙ none)))

refused : (faults : Kinds) (found : Option (Text × List Row)) (k : ErrorKind) → IsAmong k faults → None ≡ unless_faulty faults found
refused [] found k h = absurd h
refused (x ∷ xs) found k h = refl

-- a parse that fails, and not for want of memory, refuses the words
pub unmatched : (a : App) (ws : List Text) (x : Error) → a ≡ hls_app → HasKind (fault_of a ws) x → kind_of x ≢ kind.OutOfMemory → None ≡ matches_of_words ws
unfolding matches_of_words
unmatched a ws x e (inl memory) other = absurd (other memory)
unmatched a ws x e (inr among) other =
    refused (fault_of hls_app ws) (subcommand_of hls_app ws) (kind_of x) (subst (λ b. IsAmong (kind_of x) (fault_of b ws)) e among)
