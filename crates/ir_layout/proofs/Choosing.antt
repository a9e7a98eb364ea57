-- Cases one by one.
use Rattle.std.proofs.Common.{◌≡◌, ◌∙◌, ◌+◌, ◌<◌, ◌≤◌, ℕ, refl, ap, sym, arith, List, [], ◌∷◌, ◌++◌, length, map, drop, get_or, append_assoc}
use Rattle.std.proofs.Math.ListN.{drop_of_length-le}
use Rattle.std.proofs.lemmas.List.{map-append, drop_more}
use Rattle.std.specs.List.{zip}
use Rattle.hls_base.specs.declared.number.NodeId.{NodeId}
use Rattle.ir_core.specs.declared.body.Operand.{Operand}
use Rattle.ir_layout.specs.Nodes.{case_of}
use Rattle.ir_layout.specs.Views.{number}

module _ (tests : List Operand) (cases : List NodeId) (i : ℕ) (within : i < length tests) where
  pub case_pushed : (xs new : List (Operand × NodeId)) (x : Operand) (y : NodeId) (all : List (Operand × ℕ)) → i < length cases → new ≡ xs ++ (get_or tests i x, get_or cases i y) ∷ []
      → map case_of xs ++ zip (drop i tests) (map number (drop i cases)) ≡ all → map case_of new ++ zip (drop (i + 1) tests) (map number (drop (i + 1) cases)) ≡ all
  case_pushed xs new x y all below is h =
      let more = zip (drop (i + 1) tests) (map number (drop (i + 1) cases)) in
      ap (λ l. map case_of l ++ more) is
      ∙ ap (λ l. l ++ more) (map-append case_of xs ((get_or tests i x, get_or cases i y) ∷ []))
      ∙ append_assoc (map case_of xs) (case_of (get_or tests i x, get_or cases i y) ∷ []) more
      ∙ ap (λ l. map case_of xs ++ l) (sym (ap (λ l. zip l (map number (drop i cases))) (drop_more tests i x within) ∙ ap (λ l. zip (get_or tests i x ∷ drop (i + 1) tests) (map number l)) (drop_more cases i y below)))
      ∙ h

  nothing : (ts : List Operand) → zip ts (map number []) ≡ []
  nothing [] = refl
  nothing (t ∷ ts) = refl

  zip_past : (j : ℕ) → length cases ≤ j → zip (drop j tests) (map number (drop j cases)) ≡ []
  zip_past j past = ap (λ l. zip (drop j tests) (map number l)) (drop_of_length-le cases past) ∙ nothing (drop j tests)

  pub case_past : (xs : List (Operand × NodeId)) (all : List (Operand × ℕ)) → length cases ≤ i → map case_of xs ++ zip (drop i tests) (map number (drop i cases)) ≡ all
      → map case_of xs ++ zip (drop (i + 1) tests) (map number (drop (i + 1) cases)) ≡ all
  case_past xs all past h = ap (λ l. map case_of xs ++ l) (zip_past (i + 1) (omega (arith, past)) ∙ sym (zip_past i past)) ∙ h
