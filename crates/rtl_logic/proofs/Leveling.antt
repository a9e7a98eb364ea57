-- Levels of picks, one after another.
use Rattle.std.proofs.Common.{◌≡◌, ◌<◌, ◌≤◌, inl, inr, ℕ, zero, suc, ◌+◌, ◌-◌, ◌*◌, ◌/◌, ◌%◌, ◌^◌, List, [], ◌∷◌, ◌++◌, length, map, get_or, refl, sym, ap, ◌∙◌, subst, length-append, arith}
use Rattle.std.specs.Prelude.{◌==◌, if◌then◌else◌}
use Rattle.std.specs.List.{All}
use Rattle.std.proofs.Math.Nat.{mod-eq_of_lt}
use Rattle.std.proofs.Math.Seq.{get_or-append_seam}
use Rattle.std.proofs.lemmas.Bool.{cases_lt}
use Rattle.std.proofs.lemmas.List.{length-map, get_or-map, get_or_append_left}
use Rattle.std.proofs.lemmas.List.Elements.{All-push, All-map, All-weaker, All-get_or}
use Rattle.std.proofs.lemmas.Nat.{mod-pow-add, pow-add, pow_below}
use Rattle.rtl_core.specs.declared.design.Atom.{Atom}
use Rattle.rtl_core.specs.Netlist.{Netlist}
use Rattle.rtl_core.specs.ClockStep.{widths, seen}
use Rattle.rtl_core.specs.Valid.{HasBits, IsBetween}
use Rattle.rtl_logic.specs.Making.{IsSound, Makes}
use Rattle.rtl_logic.proofs.Making.{appended, appends_none, appends_both, goes_on, fits_later}
use Rattle.rtl_logic.proofs.Showing.{bound}
use Rattle.rtl_logic.specs.Levels.{no_atom, constant_of, at_place, Halves, IsLevel}

-- ---- numbers

even_place : (k p r : ℕ) → 2 * k * p + r ≡ k * (p * 2) + (0 * p + r)
even_place k p r = omega arith

odd_place : (k p r : ℕ) → (2 * k + 1) * p + r ≡ k * (p * 2) + (1 * p + r)
odd_place k p r = omega arith

-- a place with one more bit of the address
longer_place : (b k low n : ℕ) → b ≡ n / 2 ^ low % 2 → k * (2 ^ low * 2) + (b * 2 ^ low + n % 2 ^ low) ≡ k * 2 ^ (low + 1) + n % 2 ^ (low + 1)
longer_place b k low n is =
    let twice : 2 ^ (low + 1) ≡ 2 ^ low * 2 = pow-add 2 low 1 in
    let order : 1 + low ≡ low + 1 = omega arith in
    let split : n % 2 ^ (low + 1) ≡ b * 2 ^ low + n % 2 ^ low =
    ap (λ j. n % 2 ^ j) (sym order) ∙ (mod-pow-add n 1 low ∙ ap (λ (c : ℕ). c * 2 ^ low + n % 2 ^ low) (sym is)) in
    ap (λ (c : ℕ). k * c + (b * 2 ^ low + n % 2 ^ low)) (sym twice) ∙ ap (λ (c : ℕ). k * 2 ^ (low + 1) + c) (sym split)

cases_bit : (P : ℕ → Type 0) → P 0 → P 1 → (b : ℕ) → b < 2 → P b
cases_bit P none one zero small = none
cases_bit P none one (suc zero) small = one
cases_bit P none one (suc (suc b)) small = absurd (omega (arith, small))

halves_word : (bit x y : ℕ) (words : List ℕ) (k low n : ℕ) → bit < 2 → bit ≡ n / 2 ^ low % 2 → x ≡ get_or words ((2 * k + 1) * 2 ^ low + n % 2 ^ low) 0 → y ≡ get_or words (2 * k * 2 ^ low + n % 2 ^ low) 0
    → (if bit == 1 then x else y) ≡ get_or words (k * 2 ^ (low + 1) + n % 2 ^ (low + 1)) 0
halves_word bit x y words k low n small is one other =
    cases_bit (λ (b : ℕ). b ≡ n / 2 ^ low % 2 → (if b == 1 then x else y) ≡ get_or words (k * 2 ^ (low + 1) + n % 2 ^ (low + 1)) 0)
    (λ e. other ∙ ap (λ i. get_or words i 0) (even_place k (2 ^ low) (n % 2 ^ low) ∙ longer_place 0 k low n e))
    (λ e. one ∙ ap (λ i. get_or words i 0) (odd_place k (2 ^ low) (n % 2 ^ low) ∙ longer_place 1 k low n e)) bit small is

-- a list has fewer than 2^64 words
pub most_bits : (words : List ℕ) (depth : ℕ) → length words ≡ 2 ^ depth → length words < 2 ^ 64 → depth ≤ 64
most_bits words depth many few = elim (cases_lt 64 depth) [
  | inl more ↦ absurd (omega (arith, many, few, pow_below 64 depth more))
  | inr most ↦ most
]

-- ---- the first level

pub level_first : (d : Netlist) (depth bits : ℕ) (addr : Atom) (words : List ℕ) (level : List Atom) → IsSound d → IsBetween 1 64 bits → length words ≡ 2 ^ depth → All (λ w. w < 2 ^ bits) words
    → level ≡ map (constant_of bits) words → IsLevel d d depth bits addr words 0 level
level_first d depth bits addr words level sound between many small is =
    let whole : depth ≡ depth - 0 = omega arith in
    subst (IsLevel d d depth bits addr words 0) (sym is) (record {
      appends = appends_none d;
      sound = sound;
      fits = All-map (HasBits (widths d) bits) (constant_of bits) words
          (All-weaker (λ w. w < 2 ^ bits) (λ w. HasBits (widths d) bits (constant_of bits w))
          (λ w h. (refl, (between.0, omega (arith, between.1)), subst (λ n. n < 2 ^ bits) (sym (mod-eq_of_lt h)) h)) words small);
      count = length-map words (constant_of bits) ∙ (many ∙ ap (λ n. 2 ^ n) whole);
      value = λ e s pins x se is_ are k within.
          let inside : k < length words = omega (arith, within, length-map words (constant_of bits)) in
          let place : k ≡ k * 2 ^ 0 + seen e s pins addr % 2 ^ 0 = omega arith in
          ap (seen e s pins) (get_or-map (constant_of bits) words k 0 no_atom inside)
          ∙ (mod-eq_of_lt (All-get_or (λ w. w < 2 ^ bits) words k 0 inside small) ∙ ap (λ i. get_or words i 0) place);
    })

-- ---- pairs

pub halves_more : (d e f : Netlist) (bits : ℕ) (test : Atom) (level above after : List Atom) (k : ℕ) (a : Atom) → 2 * k + 1 < length level → after ≡ above ++ a ∷ [] → HasBits (widths d) 1 test
    → All (HasBits (widths d) bits) level → Halves d e bits test level k above
    → (IsSound e → HasBits (widths e) 1 test → HasBits (widths e) bits (get_or level (2 * k + 1) no_atom) → HasBits (widths e) bits (get_or level (2 * k) no_atom)
    → Makes e f bits a (λ v x. x ≡ (if v test == 1 then v (get_or level (2 * k + 1) no_atom) else v (get_or level (2 * k) no_atom))))
    → Halves d f bits test level (k + 1) after
halves_more d e f bits test level above after k a within is test_fits fits h make =
    let later = fits_later d e (appended d e h.appends) in
    let low : 2 * k < length level = omega (arith, within) in
    let one_fits = later bits (get_or level (2 * k + 1) no_atom) (All-get_or (HasBits (widths d) bits) level (2 * k + 1) no_atom within fits) in
    let other_fits = later bits (get_or level (2 * k) no_atom) (All-get_or (HasBits (widths d) bits) level (2 * k) no_atom low fits) in
    let m = make h.sound (later 1 test test_fits) one_fits other_fits in
    let more = appended e f m.appends in
    subst (Halves d f bits test level (k + 1)) (sym is) (record {
      appends = appends_both d e f h.appends m.appends;
      sound = m.sound;
      fits = All-push (HasBits (widths f) bits) above a (All-weaker (HasBits (widths e) bits) (HasBits (widths f) bits) (fits_later e f more bits) above h.fits) m.shows.fits;
      count = omega (arith, length-append above (a ∷ []), h.count);
      value = λ g s pins x se is_ are j inside. elim (cases_lt j k) [
        | inl small ↦ ap (seen g s pins) (get_or_append_left above (a ∷ []) no_atom j (omega (arith, small, h.count))) ∙ h.value g s pins (goes_on e f g more x) se is_ are j small
        | inr high ↦
            let last : j ≡ length above = omega (arith, high, inside, h.count) in
            let own : k ≡ j = omega (arith, high, inside) in
            ap (at_place (seen g s pins) (above ++ a ∷ [])) last
            ∙ (ap (seen g s pins) (get_or-append_seam above a [] no_atom)
            ∙ (m.shows.value g s pins x se is_ are
            ∙ ap (λ (n : ℕ). if seen g s pins test == 1 then at_place (seen g s pins) level (2 * n + 1) else at_place (seen g s pins) level (2 * n)) own))
      ];
    })

-- ---- one bit more

pub level_next : (d e f g : Netlist) (depth bits : ℕ) (addr : Atom) (words : List ℕ) (low : ℕ) (level above : List Atom) (test : Atom) → low < depth → IsLevel d e depth bits addr words low level
    → Makes e f (low + 1 - low) test (λ v x. x ≡ v addr / 2 ^ low % 2 ^ (low + 1 - low)) → Halves f g bits test level (length level / 2) above → IsLevel d g depth bits addr words (low + 1) above
level_next d e f g depth bits addr words low level above test within l m h =
    let left : depth - low ≡ depth - (low + 1) + 1 = omega (arith, within) in
    let twice : length level ≡ 2 ^ (depth - (low + 1)) * 2 = l.count ∙ (ap (λ n. 2 ^ n) left ∙ pow-add 2 (depth - (low + 1)) 1) in
    let one : low + 1 - low ≡ 1 = omega arith in
    record {
      appends = appends_both d f g (appends_both d e f l.appends m.appends) h.appends;
      sound = h.sound;
      fits = h.fits;
      count = omega (arith, h.count, twice);
      value = λ z s pins x se is_ are k inside.
          let v = seen z s pins in
          let from_f = goes_on f g z (appended f g h.appends) x in
          let from_e = goes_on e f z (appended e f m.appends) from_f in
          let pair : k < length level / 2 = omega (arith, inside, h.count) in
          let bit : v test ≡ v addr / 2 ^ low % 2 = m.shows.value z s pins from_f se is_ are ∙ ap (λ n. v addr / 2 ^ low % 2 ^ n) one in
          h.value z s pins x se is_ are k pair
          ∙ halves_word (v test) (at_place v level (2 * k + 1)) (at_place v level (2 * k)) words k low (v addr) (omega (arith, bit)) bit (l.value z s pins from_e se is_ are (2 * k + 1) (omega (arith, pair)))
          (l.value z s pins from_e se is_ are (2 * k) (omega (arith, pair)));
    }

-- ---- the word

pub some_left : (d e : Netlist) (depth bits : ℕ) (addr : Atom) (words : List ℕ) (level : List Atom) → IsLevel d e depth bits addr words depth level → 0 < length level
some_left d e depth bits addr words level l = let none : depth - depth ≡ 0 = omega arith in let one : length level ≡ 1 = l.count ∙ ap (λ n. 2 ^ n) none in omega (arith, one)

pub word_is : (d e : Netlist) (depth bits : ℕ) (addr : Atom) (words : List ℕ) (level : List Atom) (a : Atom) → HasBits (widths d) depth addr → IsLevel d e depth bits addr words depth level → a ≡ get_or level 0 no_atom
    → Makes d e bits a (λ v x. x ≡ get_or words (v addr) 0)
word_is d e depth bits addr words level a fits l is =
    let first = some_left d e depth bits addr words level l in
    subst (λ b. Makes d e bits b (λ v x. x ≡ get_or words (v addr) 0)) (sym is) (record {
      appends = l.appends;
      sound = l.sound;
      shows = record {
        fits = All-get_or (HasBits (widths e) bits) level 0 no_atom first l.fits;
        value = λ g s pins x se is_ are.
            let small : seen g s pins addr < 2 ^ depth = bound d depth addr fits g s pins (goes_on d e g (appended d e l.appends) x) se is_ are in
            let place : 0 * 2 ^ depth + seen g s pins addr % 2 ^ depth ≡ seen g s pins addr = omega (arith, mod-eq_of_lt small) in
            l.value g s pins x se is_ are 0 first ∙ ap (λ i. get_or words i 0) place;
      };
    })
