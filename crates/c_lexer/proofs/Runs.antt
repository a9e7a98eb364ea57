-- A row of bytes that goes no further is the longest one.
use Rattle.std.proofs.Common.{◌≡◌, ℕ, ◌-◌, ◌<◌, ◌≤◌, ◌∙◌, sym, ap, Bool, List, ◌++◌, length, take, drop, arith, inl, inr}
use Rattle.std.specs.Prelude.{slice_index}
use Rattle.std.proofs.lemmas.Bool.{both_ways, cases_lt}
use Rattle.std.proofs.lemmas.List.{length-take-le, take-append-drop, length-append, get_or_append_left}
use Rattle.c_token.specs.Longest.{IsLongest, IsRowOf}
use Rattle.c_token.specs.Spelling.{in_word, in_number, in_line_comment}
use Rattle.c_lexer.specs.Runs.{IsRun}

-- whether a byte may stand in its place is told by the bytes up to it
abbrev pub IsLocal : (List ℕ → ℕ → Bool) → Type 0
IsLocal may_stand = (text rest : List ℕ) (i : ℕ) → i < length text → may_stand (text ++ rest) i ≡ may_stand text i

pub run_bound : (may_stand : List ℕ → ℕ → Bool) → IsLocal may_stand → (bytes : List ℕ) (n : ℕ) → IsRun may_stand bytes n → (other rest : List ℕ) → bytes ≡ other ++ rest → IsRowOf may_stand other → length other ≤ n
run_bound may_stand local bytes n run other rest is row =
    elim (cases_lt n (length other)) [
      | inl long ↦
          let within : n < length bytes = omega (arith, ap length is, length-append other rest) in
          absurd (both_ways _ (run.2 within) (ap (λ x. may_stand x n) is ∙ (local other rest n long ∙ row.1 n long)))
      | inr short ↦ short
    ]

pub run_longest : (may_stand : List ℕ → ℕ → Bool) → IsLocal may_stand → (bytes : List ℕ) (n : ℕ) → 0 < n → IsRun may_stand bytes n → IsLongest (IsRowOf may_stand) bytes (take n bytes) (drop n bytes)
run_longest may_stand local bytes n some run =
    let l : length (take n bytes) ≡ n = length-take-le n bytes run.0 in
    let e : take n bytes ++ drop n bytes ≡ bytes = take-append-drop n bytes in (
      sym e,
      (omega arith, λ i below. sym (local (take n bytes) (drop n bytes) i below) ∙ (ap (λ x. may_stand x i) e ∙ run.1 i (omega arith))),
      λ other rest is row. let b : length other ≤ n = run_bound may_stand local bytes n run other rest is row in omega arith,
    )

at_front : (text rest : List ℕ) (i j : ℕ) → i < length text → j ≤ i → slice_index (text ++ rest) j ≡ slice_index text j
at_front text rest i j below up = get_or_append_left text rest 0 j (omega arith)

pub in_word-local : IsLocal in_word
unfolding in_word
in_word-local text rest i below = rw (at_front text rest i i below (omega arith))

pub in_number-local : IsLocal in_number
unfolding in_number
in_number-local text rest i below =
    rw (at_front text rest i i below (omega arith), at_front text rest i (i - 1) below (omega arith))

pub in_line_comment-local : IsLocal in_line_comment
unfolding in_line_comment
in_line_comment-local text rest i below =
    rw (at_front text rest i i below (omega arith), at_front text rest i (i - 1) below (omega arith), at_front text rest i (i - 2) below (omega arith))
