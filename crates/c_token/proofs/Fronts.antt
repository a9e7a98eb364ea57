-- Longest and shortest fronts are unique.
use Rattle.std.proofs.Common.{◌≡◌, ℕ, ◌≤◌, ◌∙◌, sym, refl, ap, List, ◌++◌, length, take, arith}
use Rattle.std.proofs.lemmas.List.{take_at}
use Rattle.c_token.specs.Longest.{IsLongest, IsShortest}

-- two fronts of one list that are equally long
pub same_front : (text rest other after : List ℕ) → text ++ rest ≡ other ++ after → length text ≡ length other → text ≡ other
same_front text rest other after e l =
    sym (take_at text rest (length text) refl) ∙ (ap (λ x. take (length text) x) e ∙ take_at other after (length text) (sym l))

pub longest_unique : (P : List ℕ → Type 0) (bytes text rest other after : List ℕ) → IsLongest P bytes text rest → IsLongest P bytes other after → text ≡ other
longest_unique P bytes text rest other after a b =
    let long : length other ≤ length text = a.2 other after b.0 b.1 in
    let short : length text ≤ length other = b.2 text rest a.0 a.1 in
    same_front text rest other after (sym a.0 ∙ b.0) (omega arith)

pub shortest_unique : (P : List ℕ → Type 0) (bytes text rest other after : List ℕ) → IsShortest P bytes text rest → IsShortest P bytes other after → text ≡ other
shortest_unique P bytes text rest other after a b =
    let long : length text ≤ length other = a.2 other after b.0 b.1 in
    let short : length other ≤ length text = b.2 text rest a.0 a.1 in
    same_front text rest other after (sym a.0 ∙ b.0) (omega arith)
