-- The pins of the arguments, one after another.
use Rattle.std.proofs.Common.{◌≡◌, ◌<◌, ℕ, suc, ◌+◌, List, [], ◌∷◌, ◌++◌, length, take, map, get_or, refl, sym, ap, ◌∙◌, arith, append_assoc}
use Rattle.std.specs.Prelude.{codes, decimal, slice_index}
use Rattle.std.proofs.lemmas.List.{take_more, map-append, length-map, length-take-le}
use Rattle.hls_base.specs.declared.number.VarId.{VarId}
use Rattle.rtl_core.specs.declared.design.Pin.{Pin}
use Rattle.rtl_core.specs.Interface.{pin, argument_pins}
use Rattle.rtl_core.specs.FramePins.{scalar_bits}

-- one more argument stands behind the others
one_more : (k : ℕ) (xs : List ℕ) (x : ℕ) → argument_pins k (xs ++ (x ∷ [])) ≡ argument_pins k xs ++ (pin (codes "arg_" ++ decimal (k + length xs)) x ∷ [])
one_more k [] x = ap (λ n. pin (codes "arg_" ++ decimal n) x ∷ []) (omega arith)
one_more k (y ∷ xs) x =
    ap (λ l. pin (codes "arg_" ++ decimal k) y ∷ l)
    (one_more (suc k) xs x ∙ ap (λ n. argument_pins (suc k) xs ++ (pin (codes "arg_" ++ decimal n) x ∷ [])) (omega arith))

pub more_pins : (variables : List ℕ) (params : List VarId) (k : ℕ) (d : VarId) (bits : ℕ) (p : Pin) (old all new : List Pin) → k < length params
    → all ≡ old ++ argument_pins 0 (scalar_bits variables (take k params)) → bits ≡ slice_index variables (get_or params k d).0 → p ≡ pin (codes "arg_" ++ decimal k) bits
    → new ≡ all ++ (p ∷ []) → new ≡ old ++ argument_pins 0 (scalar_bits variables (take (k + 1) params))
more_pins variables params k d bits p old all new h e b is f =
    let width : VarId → ℕ = λ v. slice_index variables v.0 in
    let before = scalar_bits variables (take k params) in
    let count : length before ≡ k = length-map (take k params) width ∙ length-take-le k params (omega (arith, h)) in
    let taken : scalar_bits variables (take (k + 1) params) ≡ before ++ (width (get_or params k d) ∷ []) =
    ap (map width) (take_more params k d h) ∙ map-append width (take k params) (get_or params k d ∷ []) in
    let place : 0 + length before ≡ k = omega (arith, count) in
    let whole : argument_pins 0 (scalar_bits variables (take (k + 1) params)) ≡ argument_pins 0 before ++ (p ∷ []) =
    ap (argument_pins 0) taken
    ∙ (one_more 0 before (width (get_or params k d))
    ∙ (ap (λ n. argument_pins 0 before ++ (pin (codes "arg_" ++ decimal n) (width (get_or params k d)) ∷ [])) place
    ∙ ap (λ q. argument_pins 0 before ++ (q ∷ [])) (ap (λ n. pin (codes "arg_" ++ decimal k) n) (sym b) ∙ sym is))) in
    f ∙ (ap (λ l. l ++ (p ∷ [])) e ∙ (append_assoc old (argument_pins 0 before) (p ∷ []) ∙ ap (λ l. old ++ l) (sym whole)))
