-- The places in parts, from the last part to the first.
use Rattle.std.proofs.Common.{◌≡◌, ◌∙◌, ◌+◌, ◌-◌, ◌≤◌, ◌<◌, ℕ, refl, ap, sym, arith, List, [], ◌∷◌, ◌++◌, map, take, drop, get_or, length}
use Rattle.std.proofs.lemmas.List.{take_more, drop_more}
use Rattle.ir_core.specs.declared.tree.Part.{Part}
use Rattle.ir_core.specs.Trees.{part_of, part_row, shape_of}
use Rattle.ir_layout.specs.Sizes.{parts_size, shape_size}
use Rattle.ir_layout.specs.Layout.{Landing, lands_in, with_land, behind_shape}
use Rattle.ir_layout.specs.Listing.{ends_of}
use Rattle.ir_layout.proofs.Listing.{ends_at}
use Rattle.ir_layout.proofs.Parts.{row_more, size_pushed}

module _ (parts : List Part) (left base place count : ℕ) (p : Part) (some : 0 < left) (within : left ≤ length parts) (at : p ≡ get_or parts (left - 1) p)
    (counted : count ≡ shape_size (shape_of p.shape)) (here : place ≡ base + parts_size (part_row (map part_of (take left parts)))) where
  one_less : take left parts ≡ take (left - 1) parts ++ p ∷ []
  one_less =
      ap (λ i. take i parts) (let e : left ≡ left - 1 + 1 = omega (arith, some) in e)
      ∙ take_more parts (left - 1) p (omega (arith, some, within))
      ∙ ap (λ x. take (left - 1) parts ++ x ∷ []) (sym at)

  size_less : place ≡ base + (parts_size (part_row (map part_of (take (left - 1) parts))) + count + 1)
  size_less =
      here
      ∙ ap (λ l. base + parts_size (part_row (map part_of l))) one_less
      ∙ ap (λ n. base + n) (size_pushed (take (left - 1) parts) p)
      ∙ ap (λ n. base + (parts_size (part_row (map part_of (take (left - 1) parts))) + n + 1)) (sym counted)

  pub note_fits : count ≤ place - 1
  note_fits = omega (arith, size_less)

  pub note_place : place - 1 - count ≡ base + parts_size (part_row (map part_of (take (left - 1) parts)))
  note_place = omega (arith, size_less)

  pub note_lands : (outer s0 s1 : List Landing) → s0 ≡ lands_in place (part_row (map part_of (drop left parts))) outer → s1 ≡ with_land (place - 1) (shape_of p.shape) s0
      → s1 ≡ lands_in (place - 1 - count) (part_row (map part_of (drop (left - 1) parts))) outer
  note_lands outer s0 s1 h0 h1 =
      let q = place - 1 - count in
      let shape = shape_of p.shape in
      let rest = part_row (map part_of (drop left parts)) in
      let e1 : place - 1 ≡ behind_shape q shape = omega (arith, size_less, counted) in
      let e2 : place ≡ behind_shape q shape + 1 = omega (arith, size_less, counted) in
      let dropped : drop (left - 1) parts ≡ p ∷ drop left parts =
      drop_more parts (left - 1) p (omega (arith, some, within)) ∙ ap (λ x. x ∷ drop (left - 1 + 1) parts) (sym at) ∙ ap (λ i. p ∷ drop i parts) (let e : left - 1 + 1 ≡ left = omega (arith, some) in e) in
      h1
      ∙ ap (λ i. with_land i shape s0) e1
      ∙ ap (λ s. with_land (behind_shape q shape) shape s) (h0 ∙ ap (λ i. lands_in i rest outer) e2)
      ∙ ap (λ r. lands_in q r outer) (sym (ap (λ l. part_row (map part_of l)) dropped ∙ row_more p (drop left parts)))

pub noted : (parts : List Part) (left base behind : ℕ) (p : Part) → 0 < left → left ≤ length parts → p ≡ get_or parts (left - 1) p → behind ≡ get_or (ends_of base (part_row (map part_of parts))) (left - 1) 0
    → (outer s0 s1 : List Landing) → s0 ≡ lands_in (base + parts_size (part_row (map part_of (take left parts)))) (part_row (map part_of (drop left parts))) outer → s1 ≡ with_land behind (shape_of p.shape) s0
    → s1 ≡ lands_in (base + parts_size (part_row (map part_of (take (left - 1) parts)))) (part_row (map part_of (drop (left - 1) parts))) outer
noted parts left base behind p some within at e outer s0 s1 h0 h1 =
    let place = base + parts_size (part_row (map part_of (take left parts))) in
    let count = shape_size (shape_of p.shape) in
    let here : behind ≡ place - 1 =
    let f = ends_at parts base (left - 1) p (omega (arith, some, within)) at in omega (arith, e, f, size_less parts left base place count p some within at refl refl) in
    note_lands parts left base place count p some within at refl refl outer s0 s1 h0 (h1 ∙ ap (λ i. with_land i (shape_of p.shape) s0) here)
    ∙ ap (λ i. lands_in i (part_row (map part_of (drop (left - 1) parts))) outer) (note_place parts left base place count p some within at refl refl)
