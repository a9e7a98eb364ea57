-- A comment in `/*` and `*/` ends at the first `*/` behind its first two bytes.
use Rattle.std.proofs.Common.{◌≡◌, ℕ, suc, ◌+◌, ◌-◌, ◌≤◌, ◌∙◌, sym, ap, true, List, [], ◌∷◌, ◌++◌, length, take, drop, get_or, Some, None, arith, inl, inr, append_assoc}
use Rattle.std.specs.Prelude.{slice_index, ◌==◌, nat_eq}
use Rattle.std.specs.List.{starts_with}
use Rattle.std.proofs.lemmas.Bool.{both_ways, cases_lt, and_parts, and_from, eqb-true, eq-eqb}
use Rattle.std.proofs.lemmas.List.{take_more, length-append, get_or_at, get_or-drop, length-drop, take-append-drop, length-take-le}
use Rattle.std.proofs.lemmas.Slice.Eq.{bytes_eq-Decides}
use Rattle.c_token.specs.Longest.{IsShortest, NoneBegins}
use Rattle.c_token.specs.Spelling.{IsBlockComment}
use Rattle.c_lexer.specs.Runs.{closes, IsFirstClose}

-- ---- the text up to a `*/`
closed_text : (tail : List ℕ) (j : ℕ) → j + 2 ≤ length tail → get_or tail j 0 ≡ 42 → get_or tail (j + 1) 0 ≡ 47 → take (j + 2) tail ≡ take j tail ++ 42 ∷ (47 ∷ [])
closed_text tail j fits star slash =
    let e : j + 2 ≡ j + 1 + 1 = omega arith in
    let last : take (j + 1 + 1) tail ≡ take (j + 1) tail ++ get_or tail (j + 1) 0 ∷ [] = take_more tail (j + 1) 0 (omega arith) in
    let before : take (j + 1) tail ≡ take j tail ++ get_or tail j 0 ∷ [] = take_more tail j 0 (omega arith) in
    ap (λ n. take n tail) e ∙ (last ∙ (ap (λ x. x ++ get_or tail (j + 1) 0 ∷ []) before
    ∙ (ap (λ x. (take j tail ++ x ∷ []) ++ get_or tail (j + 1) 0 ∷ []) star
    ∙ (ap (λ x. (take j tail ++ 42 ∷ []) ++ x ∷ []) slash ∙ append_assoc (take j tail) (42 ∷ []) (47 ∷ [])))))

comment_text : (bytes : List ℕ) (k n : ℕ) → starts_with nat_eq bytes (47 ∷ 42 ∷ []) ≡ true → 2 ≤ k → n ≡ k + 2 → n ≤ length bytes → closes bytes k ≡ true → IsBlockComment (take n bytes)
comment_text bytes k n begins low is fits closed =
    let parts = and_parts (slice_index bytes k == 42) (slice_index bytes (k + 1) == 47) closed in
    let at_star : 2 + (k - 2) ≡ k = omega arith in
    let at_slash : 2 + (k - 2 + 1) ≡ k + 1 = omega arith in
    let star : get_or (drop 2 bytes) (k - 2) 0 ≡ 42 =
    get_or-drop 2 bytes (k - 2) 0 ∙ (ap (λ x. get_or bytes x 0) at_star ∙ eqb-true _ _ parts.0) in
    let slash : get_or (drop 2 bytes) (k - 2 + 1) 0 ≡ 47 =
    get_or-drop 2 bytes (k - 2 + 1) 0 ∙ (ap (λ x. get_or bytes x 0) at_slash ∙ eqb-true _ _ parts.1) in
    let same : 47 ∷ (42 ∷ []) ≡ take 2 bytes = (bytes_eq-Decides (47 ∷ (42 ∷ [])) (take 2 bytes)).0 begins in
    let split : bytes ≡ 47 ∷ (42 ∷ drop 2 bytes) = sym (take-append-drop 2 bytes) ∙ ap (λ x. x ++ drop 2 bytes) (sym same) in
    let size : n ≡ suc (suc (k - 2 + 2)) = omega arith in
    let text : take n bytes ≡ 47 ∷ (42 ∷ take (k - 2 + 2) (drop 2 bytes)) =
    ap (λ x. take n x) split ∙ ap (λ m. take m (47 ∷ (42 ∷ drop 2 bytes))) size in (
      take (k - 2) (drop 2 bytes),
      text ∙ ap (λ x. 47 ∷ (42 ∷ x)) (closed_text (drop 2 bytes) (k - 2) (omega (arith, length-drop 2 bytes)) star slash),
    )

-- ---- the place of a `*/` that ends a comment
pub closed_at : (bytes rest body : List ℕ) → bytes ≡ (47 ∷ (42 ∷ (body ++ 42 ∷ (47 ∷ [])))) ++ rest → closes bytes (length body + 2) ≡ true
closed_at bytes rest body e =
    let star : get_or bytes (length body + 2) 0 ≡ 42 =
    ap (λ x. get_or x (length body + 2) 0) (e ∙ ap (λ x. 47 ∷ (42 ∷ x)) (append_assoc body (42 ∷ (47 ∷ [])) rest))
    ∙ get_or_at (47 ∷ (42 ∷ body)) 42 (47 ∷ rest) 0 (length body + 2) (omega arith) in
    let slash : get_or bytes (length body + 2 + 1) 0 ≡ 47 =
    ap (λ x. get_or x (length body + 2 + 1) 0) (e ∙ ap (λ x. 47 ∷ (42 ∷ x)) (append_assoc body (42 ∷ (47 ∷ [])) rest ∙ sym (append_assoc body (42 ∷ []) (47 ∷ rest))))
    ∙ get_or_at (47 ∷ (42 ∷ (body ++ 42 ∷ []))) 47 rest 0 (length body + 2 + 1) (omega (arith, length-append body (42 ∷ []))) in
    and_from _ _ (eq-eqb _ _ star) (eq-eqb _ _ slash)

comment-long : (body : List ℕ) → length (47 ∷ (42 ∷ (body ++ 42 ∷ (47 ∷ [])))) ≡ length body + 4
comment-long body = omega (arith, length-append body (42 ∷ (47 ∷ [])))

pub first_close : (bytes : List ℕ) (n : ℕ) → starts_with nat_eq bytes (47 ∷ 42 ∷ []) ≡ true → IsFirstClose bytes (Some n) → IsShortest IsBlockComment bytes (take n bytes) (drop n bytes)
first_close bytes n begins (k, low, is, fits, closed, none) =
    let l : length (take n bytes) ≡ n = length-take-le n bytes fits in (
      sym (take-append-drop n bytes),
      comment_text bytes k n begins low is fits closed,
      λ other rest whole comment.
          let long : length other ≡ length comment.0 + 4 = ap length comment.1 ∙ comment-long comment.0 in
          elim (cases_lt (length comment.0 + 2) k) [
            | inl earlier ↦ absurd (both_ways _ (none (length comment.0 + 2) (omega arith) earlier)
                (closed_at bytes rest comment.0 (whole ∙ ap (λ x. x ++ rest) comment.1)))
            | inr later ↦ omega arith
          ],
    )

pub no_close : (bytes : List ℕ) → IsFirstClose bytes None → NoneBegins IsBlockComment bytes
no_close bytes none = λ text rest whole comment.
    let long : length text ≡ length comment.0 + 4 = ap length comment.1 ∙ comment-long comment.0 in
    let fits : length text + length rest ≡ length bytes = sym (ap length whole ∙ length-append text rest) in
    both_ways _ (none (length comment.0 + 2) (omega arith) (omega arith))
    (closed_at bytes rest comment.0 (whole ∙ ap (λ x. x ++ rest) comment.1))
