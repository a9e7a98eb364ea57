-- There is only one longest path.
use Rattle.std.proofs.Common.{◌≡◌, ◌⊎◌, inl, inr, ◌<◌, ◌≤◌, ℕ, ◌+◌, List, [], ◌∷◌, reverse, refl, sym, ap, ◌∙◌, arith}
use Rattle.std.proofs.lemmas.List.{reverse-reverse}
use Rattle.std.proofs.lemmas.List.Sums.{sum_by-cons}
use Rattle.rtl_core.specs.Netlist.{Netlist}
use Rattle.timing_path.specs.Paths.{delay_of, IsPath, path_delay, IsAtMost, IsLongest}
use Rattle.timing_path.specs.Laws.{LongestIsUnique, NoDelayGivesNoWires}

both_at_most : (xs ys : List ℕ) → IsAtMost xs ys → IsAtMost ys xs → xs ≡ ys
both_at_most [] [] h k = refl
both_at_most [] (y ∷ ys) h k = absurd k
both_at_most (x ∷ xs) [] h k = absurd h
both_at_most (x ∷ xs) (y ∷ ys) (inl h) (inl k) = absurd (omega arith)
both_at_most (x ∷ xs) (y ∷ ys) (inl h) (inr k) = let e = k.0 in absurd (omega arith)
both_at_most (x ∷ xs) (y ∷ ys) (inr h) (inl k) = let e = h.0 in absurd (omega arith)
both_at_most (x ∷ xs) (y ∷ ys) (inr h) (inr k) = let e = h.0 in let es = both_at_most xs ys h.1 k.1 in cc

pub longest_is_unique : LongestIsUnique
longest_is_unique d m n ks js h k =
    let le = h.greatest js k.path in
    let ge = k.greatest ks h.path in
    let p = h.delay in
    let q = k.delay in
    let same : m ≡ n = omega arith in
    let back = both_at_most (reverse ks) (reverse js) (h.least js k.path (k.delay ∙ sym same) k.begins) (k.least ks h.path (h.delay ∙ same) h.begins) in
    (same, sym (reverse-reverse ks) ∙ (ap reverse back ∙ reverse-reverse js))

pub no_delay_gives_no_wires : NoDelayGivesNoWires
no_delay_gives_no_wires d n [] h none = (sym h.delay ∙ none [] tt, refl)
no_delay_gives_no_wires d n (k ∷ ks) h none =
    let some : 0 < delay_of d k = h.begins in
    let sum = sum_by-cons (delay_of d) k ks in
    let e = none (k ∷ ks) h.path in
    absurd (omega arith)
