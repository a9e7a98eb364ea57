-- The bytes at the front of a text that pass a test, and the byte behind them.
use Rattle.std.proofs.Common.{◌≡◌, inl, inr, Some, ℕ, suc, ◌+◌, ◌<◌, ◌≤◌, Bool, true, false, cond, ◌&&◌, List, [], ◌∷◌, ◌++◌, length, take, drop, get_or, append_assoc, refl, sym, ap, ◌∙◌, subst, arith, drop-cons}
use Rattle.std.specs.List.{prefix_len}
use Rattle.std.proofs.lemmas.Bool.{cases_Bool, cases_lt}
use Rattle.std.proofs.lemmas.List.{take-append-drop, length-take-le, length-append, drop_all, get_or_at}
use Rattle.std.proofs.lemmas.List.Sums.{prefix_len_stops, prefix_len-le-length}
use Rattle.rtl_core.proofs.Tokens.{every, Ends}
use Rattle.verilog_syntax.specs.Fronts.{Closes, ClosesFirst}

pub front_every : (p : ℕ → Bool) (xs : List ℕ) → every p (take (prefix_len p xs) xs) ≡ true
front_every p [] = refl
front_every p (x ∷ xs) =
    elim (cases_Bool (p x)) [
      | inl t ↦
          let one : 1 + prefix_len p xs ≡ suc (prefix_len p xs) = omega arith in
          let n : prefix_len p (x ∷ xs) ≡ suc (prefix_len p xs) = ap (λ b. cond b (1 + prefix_len p xs) 0) t ∙ one in
          ap (λ k. every p (take k (x ∷ xs))) n ∙ (ap (λ b. b && every p (take (prefix_len p xs) xs)) t ∙ front_every p xs)
      | inr f ↦ (let n : prefix_len p (x ∷ xs) ≡ 0 = ap (λ b. cond b (1 + prefix_len p xs) 0) f in ap (λ k. every p (take k (x ∷ xs))) n)
    ]

pub ends_at : (P : ℕ → Type 0) (xs : List ℕ) (n : ℕ) → (n < length xs → P (get_or xs n 0)) → Ends P (drop n xs)
ends_at P xs n f =
    elim (cases_lt n (length xs)) [
      | inl h ↦ subst (Ends P) (sym (drop-cons xs n 0 h)) (f h)
      | inr h ↦ subst (Ends P) (sym (drop_all n xs h)) tt
    ]

pub front_ends : (p : ℕ → Bool) (xs : List ℕ) → Ends (λ c. p c ≡ false) (drop (prefix_len p xs) xs)
front_ends p xs = ends_at (λ c. p c ≡ false) xs (prefix_len p xs) (λ h. prefix_len_stops p xs 0 h)

pub front_size : (p : ℕ → Bool) (xs : List ℕ) → length (take (prefix_len p xs) xs) ≡ prefix_len p xs
front_size p xs = length-take-le (prefix_len p xs) xs (prefix_len-le-length p xs)

pub front_some : (p : ℕ → Bool) (xs : List ℕ) → 0 < length xs → p (get_or xs 0 0) ≡ true → 0 < prefix_len p xs
front_some p [] h e = absurd (omega (arith, h))
front_some p (x ∷ xs) h e = let n : prefix_len p (x ∷ xs) ≡ 1 + prefix_len p xs = ap (λ b. cond b (1 + prefix_len p xs) 0) e in omega arith

-- ---- the front of a comment's body

pub begins_with : (c : ℕ) (bytes : List ℕ) → 0 < length bytes → get_or bytes 0 0 ≡ c → bytes ≡ c ∷ drop 1 bytes
begins_with c bytes h e = drop-cons bytes 0 0 h ∙ ap (λ x. x ∷ drop 1 bytes) e

pub begins_with_two : (c d : ℕ) (bytes : List ℕ) → 2 ≤ length bytes → get_or bytes 0 0 ≡ c → get_or bytes 1 0 ≡ d → bytes ≡ c ∷ d ∷ drop 2 bytes
begins_with_two c d bytes h e f =
    begins_with c bytes (omega arith) e ∙ ap (λ x. c ∷ x) (drop-cons bytes 1 0 (omega arith) ∙ ap (λ x. x ∷ drop 2 bytes) f)

-- the body up to a `*/`
pub closed_split : (body : List ℕ) (n : ℕ) → Closes body n → body ≡ take n body ++ (42 ∷ 47 ∷ drop (n + 2) body)
closed_split body n closes =
    let one : suc n ≡ n + 1 = omega arith in
    let two : suc (n + 1) ≡ n + 2 = omega arith in
    let star : drop n body ≡ 42 ∷ drop (n + 1) body = drop-cons body n 0 (omega (arith, closes.0)) ∙ (ap (λ x. x ∷ drop (suc n) body) closes.1 ∙ ap (λ k. 42 ∷ drop k body) one) in
    let slash : drop (n + 1) body ≡ 47 ∷ drop (n + 2) body = drop-cons body (n + 1) 0 closes.0 ∙ (ap (λ x. x ∷ drop (suc (n + 1)) body) closes.2 ∙ ap (λ k. 47 ∷ drop k body) two) in
    sym (take-append-drop n body) ∙ ap (λ x. take n body ++ x) (star ∙ ap (λ x. 42 ∷ x) slash)

-- a `*/` in a list stands at the length of what is before it
pub closes_at : (bytes before after : List ℕ) → bytes ≡ before ++ (42 ∷ 47 ∷ after) → Closes bytes (length before)
closes_at bytes before after e =
    let long : length bytes ≡ length before + (suc (suc (length after))) = ap length e ∙ length-append before (42 ∷ 47 ∷ after) in
    let next : bytes ≡ (before ++ 42 ∷ []) ++ (47 ∷ after) = e ∙ sym (append_assoc before (42 ∷ []) (47 ∷ after)) in (
      omega arith,
      ap (λ x. get_or x (length before) 0) e ∙ get_or_at before 42 (47 ∷ after) 0 (length before) refl,
      ap (λ x. get_or x (length before + 1) 0) next ∙ get_or_at (before ++ 42 ∷ []) 47 after 0 (length before + 1) (length-append before (42 ∷ [])),
    )

-- in a body and its end there is no `*/` before the end, if there is none in the bytes that it is the front of
pub no_end_before : (body : List ℕ) (n : ℕ) → ClosesFirst body (Some n) → (before after : List ℕ) → take n body ++ (42 ∷ 47 ∷ []) ≡ before ++ (42 ∷ 47 ∷ after) → after ≡ []
no_end_before body n first before [] e = refl
no_end_before body n first before (a ∷ es) e =
    let size : length (take n body) ≡ n = length-take-le n body (omega (arith, first.0.0)) in
    let whole : length (take n body) + 2 ≡ length before + suc (suc (suc (length es))) =
    sym (length-append (take n body) (42 ∷ 47 ∷ [])) ∙ (ap length e ∙ length-append before (42 ∷ 47 ∷ a ∷ es)) in
    let small : length before < n = omega arith in
    let split : body ≡ before ++ (42 ∷ 47 ∷ (a ∷ es ++ drop (n + 2) body)) =
    closed_split body n first.0 ∙ (sym (append_assoc (take n body) (42 ∷ 47 ∷ []) (drop (n + 2) body))
    ∙ (ap (λ x. x ++ drop (n + 2) body) e ∙ append_assoc before (42 ∷ 47 ∷ a ∷ es) (drop (n + 2) body))) in
    absurd (first.1 (length before) small (closes_at body before (a ∷ es ++ drop (n + 2) body) split))
