-- Whether a text is among some words.
use Rattle.std.proofs.Common.{◌≡◌, ℕ, suc, ◌+◌, ◌<◌, Bool, true, false, List, [], length, map, drop, get_or, ap, sym, ◌∙◌, arith, Bor}
use Rattle.std.specs.Prelude.{bytes_eq, ◌||◌}
use Rattle.std.proofs.Math.Seq.{drop-cons}
use Rattle.std.proofs.lemmas.List.{get_or-map, length-map}
use Rattle.c_token.specs.Replacement.{is_in}

abbrev now : Bor (List ℕ) → List ℕ
now w = w.now

at_word : (text : List ℕ) (words : List (Bor (List ℕ))) (i : ℕ) (d : Bor (List ℕ)) → i < length words
    → is_in text (drop i (map now words)) ≡ (bytes_eq text (get_or words i d).now || is_in text (drop (i + 1) (map now words)))
at_word text words i d below =
    let same = length-map words now in
    let within : i < length (map now words) = omega (arith, below, same) in
    ap (is_in text) (drop-cons (map now words) i [] within)
    ∙ ap (λ w. bytes_eq text w || is_in text (drop (suc i) (map now words))) (get_or-map now words i d [] below)
    ∙ ap (λ k. bytes_eq text (get_or words i d).now || is_in text (drop k (map now words))) (let e : suc i ≡ i + 1 = omega arith in e)

pub found : (text : List ℕ) (words : List (Bor (List ℕ))) (i : ℕ) (d : Bor (List ℕ)) (r : Bool) → i < length words → is_in text (map now words) ≡ is_in text (drop i (map now words))
    → r ≡ bytes_eq text (get_or words i d).now → r ≡ true → true ≡ is_in text (map now words)
found text words i d r below e f g = sym (e ∙ at_word text words i d below ∙ ap (λ b. b || is_in text (drop (i + 1) (map now words))) (sym f ∙ g))

pub passed : (text : List ℕ) (words : List (Bor (List ℕ))) (i : ℕ) (d : Bor (List ℕ)) (r : Bool) → i < length words → is_in text (map now words) ≡ is_in text (drop i (map now words))
    → r ≡ bytes_eq text (get_or words i d).now → r ≡ false → is_in text (map now words) ≡ is_in text (drop (i + 1) (map now words))
passed text words i d r below e f g = e ∙ at_word text words i d below ∙ ap (λ b. b || is_in text (drop (i + 1) (map now words))) (sym f ∙ g)
