-- Words in the plain form, which `clap` reads as they stand: each `soak` and each `timing`, and an example of each other command.
use Rattle.std.proofs.Common.{◌≡◌, ◌==◌, ◌∷◌, [], List, ℕ, Bool, true, false, not, codes, refl}
use Rattle.clap.proofs.OnLiterals.{clap_on_literals}
use Rattle.command_words.specs.Words.{is_plain}
use Rattle.command_words.specs.Commands.{plain_command_of}
use Rattle.command_words.specs.ClapCommand.{hls_app}
use Rattle.command_words.specs.ClapMatches.{clap_command_of, matches_of_words}

is_other_byte : (b : Bool) → not b ≡ true → b ≡ false
is_other_byte true e = absurd cc
is_other_byte false e = refl

same_soak : (n : List ℕ) → is_plain n ≡ true → clap_command_of (codes "soak" ∷ n ∷ []) ≡ plain_command_of (codes "soak" ∷ n ∷ [])
unfolding clap_on_literals hls_app matches_of_words
same_soak [] plain = absurd cc
same_soak (c ∷ cs) plain = let e = is_other_byte (c == 45) plain in rw (e, e) refl

abbrev synth_words : List (List ℕ)
synth_words = codes "synth" ∷ codes "c" ∷ codes "v" ∷ codes "r" ∷ codes "--plain" ∷ codes "--mul" ∷ codes "8" ∷ codes "--top" ∷ codes "f" ∷ []

same_synth : clap_command_of synth_words ≡ plain_command_of synth_words
unfolding clap_on_literals hls_app matches_of_words
same_synth = refl

abbrev cosim_words : List (List ℕ)
cosim_words = codes "cosim" ∷ codes "c" ∷ codes "v" ∷ codes "r" ∷ codes "x" ∷ codes "--cycles" ∷ codes "10" ∷ codes "--top" ∷ codes "f" ∷ []

same_cosim : clap_command_of cosim_words ≡ plain_command_of cosim_words
unfolding clap_on_literals hls_app matches_of_words
same_cosim = refl

same_timing : (m : List ℕ) → is_plain m ≡ true → clap_command_of (codes "timing" ∷ m ∷ []) ≡ plain_command_of (codes "timing" ∷ m ∷ [])
unfolding clap_on_literals hls_app matches_of_words
same_timing [] plain = absurd cc
same_timing (c ∷ cs) plain = let e = is_other_byte (c == 45) plain in rw (e, e) refl

abbrev blast_words : List (List ℕ)
blast_words = codes "blast" ∷ codes "v" ∷ codes "a" ∷ []

same_blast : clap_command_of blast_words ≡ plain_command_of blast_words
unfolding clap_on_literals hls_app matches_of_words
same_blast = refl

abbrev link_words : List (List ℕ)
link_words = codes "link" ∷ codes "o" ∷ codes "16" ∷ codes "v" ∷ codes "w" ∷ codes "x" ∷ []

same_link : clap_command_of link_words ≡ plain_command_of link_words
unfolding clap_on_literals hls_app matches_of_words
same_link = refl
