-- What is known of the bytes where something begins.
use Rattle.std.proofs.Common.{◌≡◌, ℕ, ◌<◌, ◌≤◌, ◌∙◌, sym, ap, subst, true, List, [], ◌∷◌, length, take, get_or, arith}
use Rattle.std.specs.Prelude.{slice_index, nat_eq, ◌==◌}
use Rattle.std.specs.List.{starts_with}
use Rattle.std.proofs.lemmas.Bool.{cond_both, eqb-true, eqb-false, eq-eqb}
use Rattle.std.proofs.lemmas.List.{length-take, get_or-take}
use Rattle.std.proofs.lemmas.Slice.Eq.{bytes_eq-Decides}
use Rattle.c_token.specs.Characters.{Opening, at_end, at_line_end, at_space, at_line_comment, at_block_comment, at_token, opening, is_blank, splice, splice_with_return}
use Rattle.c_token.specs.Spelling.{in_line_comment}

abbrev pub Opens : Opening → List ℕ → Type 0
Opens at_end bytes = length bytes ≡ 0
Opens at_line_end bytes = (0 < length bytes) × (slice_index bytes 0 ≡ 10)
Opens (at_space n) bytes = (0 < n) × (n ≤ length bytes)
Opens at_line_comment bytes = (0 < length bytes) × (slice_index bytes 0 ≡ 47)
Opens at_block_comment bytes = (0 < length bytes) × (starts_with nat_eq bytes (47 ∷ 42 ∷ []) ≡ true)
Opens at_token bytes = 0 < length bytes

front_of : (bytes front : List ℕ) → starts_with nat_eq bytes front ≡ true → front ≡ take (length front) bytes
front_of bytes front e = (bytes_eq-Decides front (take (length front) bytes)).0 e

front-fits : (bytes front : List ℕ) → starts_with nat_eq bytes front ≡ true → length front ≤ length bytes
front-fits bytes front e = omega (arith, ap length (front_of bytes front e), length-take (length front) bytes)

slash_first : (bytes : List ℕ) → starts_with nat_eq bytes (47 ∷ 47 ∷ []) ≡ true → slice_index bytes 0 ≡ 47
slash_first bytes e =
    sym (ap (λ x. get_or x 0 0) (front_of bytes (47 ∷ 47 ∷ []) e) ∙ get_or-take 2 bytes 0 0 (omega arith))

opens_so : (bytes : List ℕ) → Opens (opening bytes) bytes
unfolding opening
opens_so bytes =
    cond_both (length bytes == 0) _ _ (λ o. Opens o bytes) (λ e. eqb-true _ _ e) (λ some.
    let long : 0 < length bytes = omega (arith, eqb-false (length bytes) 0 some) in
    cond_both (slice_index bytes 0 == 10) _ _ (λ o. Opens o bytes) (λ e. (long, eqb-true _ _ e)) (λ n1.
    cond_both (is_blank (slice_index bytes 0)) _ _ (λ o. Opens o bytes) (λ e. (omega arith, omega arith)) (λ n2.
    cond_both (starts_with nat_eq bytes splice) _ _ (λ o. Opens o bytes) (λ e. (omega arith, front-fits bytes splice e)) (λ n3.
    cond_both (starts_with nat_eq bytes splice_with_return) _ _ (λ o. Opens o bytes) (λ e. (omega arith, front-fits bytes splice_with_return e)) (λ n4.
    cond_both (starts_with nat_eq bytes (47 ∷ 47 ∷ [])) _ _ (λ o. Opens o bytes) (λ e. (long, slash_first bytes e)) (λ n5.
    cond_both (starts_with nat_eq bytes (47 ∷ 42 ∷ [])) _ _ (λ o. Opens o bytes) (λ e. (long, e)) (λ n6. long)))))))

pub opens : (bytes : List ℕ) (o : Opening) → opening bytes ≡ o → Opens o bytes
opens bytes o e = subst (λ x. Opens x bytes) e (opens_so bytes)

pub line_comment_here : (bytes : List ℕ) → slice_index bytes 0 ≡ 47 → in_line_comment bytes 0 ≡ true
unfolding in_line_comment
line_comment_here bytes e = eq-eqb _ _ e
