-- The host writes and reads elements one after another.
use Rattle.std.proofs.Common.{◌≡◌, ◌<◌, ◌≤◌, ℕ, suc, ◌+◌, ◌%◌, ◌^◌, List, [], ◌∷◌, ◌++◌, length, replicate, Option, Some, refl, sym, ap, ◌∙◌, subst, append_assoc, arith}
use Rattle.std.specs.Prelude.{slice_index, slice_set}
use Rattle.std.specs.Option.{option_map, option_and_then}
use Rattle.std.proofs.lemmas.List.{length-append}
use Rattle.std.proofs.Math.Nat.{mod-eq_of_lt, pow-le-pow_right}
use Rattle.hls_base.specs.FileScope.{FileScope}
use Rattle.hls_base.specs.ArrayAddress.{addresses, address_bits}
use Rattle.ir_core.specs.AddressWords.{AreShort}
use Rattle.rtl_core.specs.Interface.{ArrayShape, Interface, read_data_of}
use Rattle.rtl_core.specs.Box.{Answers, Idle, Done, Box, BoxStep, Element, element_in, named, elements_of, with_element, accessed, served}
use Rattle.cosim_levels.specs.Pins.Host.{Driven, clocked, clocked_all, write_row, read_row, asked}
use Rattle.cosim_levels.specs.Pins.ModuleRun.{write_rows, all_write_rows, read_words, behind_reads, read_arrays}
use Rattle.driven_circuits.specs.Fitting.{WordsFit, AreArrays}
use Rattle.driven_circuits.proofs.Places.{there, set_there, got_there, one_longer, element_there, address_below, address_count}
use Rattle.driven_circuits.proofs.Rows.{write_fits, read_fits}
use Rattle.driven_circuits.proofs.Standing.{Stands, Goes, goes}
use Rattle.driven_circuits.proofs.Waiting.{at_phase, goes_low}

-- ---- arrays that the pins reach

pub record HasRoom (a : ArrayShape) : Type 0 where
  pub bits : a.bits ≤ 64
  pub depth : address_bits a.dims ≤ 16
  pub short : AreShort a.dims

abbrev pub AllHaveRoom : List ArrayShape → Type 0
AllHaveRoom [] = Unit {0}
AllHaveRoom (a ∷ arrays) = HasRoom a × AllHaveRoom arrays

-- as many words for each array as it has addresses
abbrev pub HaveCounts : List ArrayShape → List (List ℕ) → Type 0
HaveCounts [] [] = Unit {0}
HaveCounts [] (words ∷ old) = ⊥
HaveCounts (a ∷ arrays) [] = ⊥
HaveCounts (a ∷ arrays) (words ∷ old) = (length words ≡ length (addresses a.dims)) × HaveCounts arrays old

-- the low bits of words from number j on, one for each of these addresses
abbrev pub words_from : ℕ → List ℕ → ℕ → List ℕ → List ℕ
words_from bits words j [] = []
words_from bits words j (a ∷ at) = slice_index words j % 2 ^ bits ∷ words_from bits words (suc j) at

-- the elements of the arrays from number k on, as their pins show them
abbrev pub arrays_from : List (List ℕ) → ℕ → List ArrayShape → List (List ℕ)
arrays_from arrays k [] = []
arrays_from arrays k (shape ∷ shapes) = words_from shape.bits (elements_of arrays k) 0 (addresses shape.dims) ∷ arrays_from arrays (suc k) shapes

-- ---- one element

module _ (i : Interface) (answers : Answers) (few : length i.arrays ≤ 32) (fronts : List ArrayShape) (shape : ArrayShape) (rests : List ArrayShape) (k : ℕ) (stands_in : i.arrays ≡ fronts ++ shape ∷ rests) (number : length fronts ≡ k) (room : HasRoom shape) where
  below : k < 32
  below =
      let all : length i.arrays ≡ length fronts + length (shape ∷ rests) = ap length stands_in ∙ length-append fronts (shape ∷ rests) in
      omega (arith, all, number, few)

  module _ (front rest : List ℕ) (a : ℕ) (is : addresses shape.dims ≡ front ++ a ∷ rest) where
    abbrev it : Element
    it = record { array = k; index = length front; bits = shape.bits }

    near : a < 2 ^ 16
    near =
        let low = address_below shape.dims front rest a room.short is in
        let power : 2 ^ address_bits shape.dims ≤ 2 ^ 16 = pow-le-pow_right (omega arith) room.depth in
        omega (arith, low, power)

    named_it : (reset start enable write word : ℕ) (arguments : List ℕ) → named i (reset ∷ start ∷ enable ∷ write ∷ k ∷ a ∷ word ∷ arguments) ≡ Some it
    named_it reset start enable write word arguments =
        ap (option_and_then (element_in k a)) (got_there i.arrays fronts rests shape k stands_in number)
        ∙ ap (option_map (λ index. record { array = k; index = index; bits = shape.bits })) (element_there shape.dims front rest a room.short is)

    module _ (scope : FileScope) where
      -- a write sets the element
      element_written : (s : Driven) (before after : List (List ℕ)) (done todo : List ℕ) (old w : ℕ) → length before ≡ k → length done ≡ length front → w < 2 ^ shape.bits
          → Stands i answers s (at_phase i answers (before ++ (done ++ old ∷ todo) ∷ after) scope Idle)
          → Stands i answers (clocked s (write_row (length i.scalars) k a w)) (at_phase i answers (before ++ (done ++ w ∷ todo) ∷ after) scope Idle)
      element_written s before after done todo old w count place fits stands =
          let arrays = before ++ (done ++ old ∷ todo) ∷ after in
          let b : Box = at_phase i answers arrays scope Idle in
          let next : Box = at_phase i answers (before ++ (done ++ w ∷ todo) ∷ after) scope Idle in
          let row = write_row (length i.scalars) k a w in
          let power : 2 ^ shape.bits ≤ 2 ^ 64 = pow-le-pow_right (omega arith) room.bits in
          let word : w < 2 ^ 64 = omega (arith, fits, power) in
          let set : with_element arrays it (w % 2 ^ shape.bits) ≡ before ++ (done ++ w ∷ todo) ∷ after =
          ap (λ x. with_element arrays it x) (mod-eq_of_lt fits)
          ∙ ap (λ l. slice_set arrays k (slice_set l (length front) w)) (there before after (done ++ old ∷ todo) [] k count)
          ∙ ap (slice_set arrays k) (set_there done todo old w (length front) place)
          ∙ set_there before after (done ++ old ∷ todo) (done ++ w ∷ todo) k count in
          let step : next ≡ served i b row = sym (ap (accessed b row) (named_it 0 0 1 1 w (replicate (length i.scalars) 0)) ∙ ap (λ l. at_phase i answers l scope Idle) set) in
          let takes : BoxStep i answers b row next = record { taken = λ (e : 0 ≡ 1). absurd (omega (arith, e)); kept = λ h. step } in
          (goes i answers s b next row stands (λ x. x) (write_fits i (length i.scalars) refl k a w below near word) refl takes).stands

      -- a read shows it
      element_read : (s : Driven) (arrays : List (List ℕ)) (result : Option ℕ) → Stands i answers s (at_phase i answers arrays scope (Done result))
          → (read_data_of (asked s k a).outs ≡ slice_index (elements_of arrays k) (length front)) × Stands i answers (asked s k a) (at_phase i answers arrays scope (Done result))
      element_read s arrays result stands =
          let b : Box = at_phase i answers arrays scope (Done result) in
          let next : Box = record { phase = Done result; arrays = arrays; file_scope = scope; shown = Some (slice_index (elements_of arrays k) (length front)) } in
          let row = read_row s.arguments k a in
          let step : next ≡ served i b row = sym (ap (accessed b row) (named_it 0 0 1 0 0 (replicate s.arguments 0))) in
          let takes : BoxStep i answers b row next = record { taken = λ (e : 0 ≡ 1). absurd (omega (arith, e)); kept = λ h. step } in
          let read = goes i answers s b next row stands (λ x. x) (read_fits i s.arguments stands.arguments k a below near) refl takes in
          let low : Goes i answers (asked s k a) next b =
          goes_low i answers (clocked s row) next b read.stands (λ x. x) (record { taken = λ (e : 0 ≡ 1). absurd (omega (arith, e)); kept = λ h. refl }) in
          (low.shows.element, low.stands)

  -- ---- one array

  module _ (scope : FileScope) where
    -- the elements from a place on are written
    array_written : (at : List ℕ) (s : Driven) (words old front done : List ℕ) (before after : List (List ℕ)) → addresses shape.dims ≡ front ++ at → length before ≡ k → length done ≡ length front
        → length words ≡ length at → length old ≡ length at → WordsFit shape.bits words → Stands i answers s (at_phase i answers (before ++ (done ++ old) ∷ after) scope Idle)
        → Stands i answers (clocked_all s (write_rows (length i.scalars) k at words)) (at_phase i answers (before ++ (done ++ words) ∷ after) scope Idle)
    array_written [] s [] [] front done before after is count place given kept fit stands = stands
    array_written [] s [] (o ∷ old) front done before after is count place given kept fit stands = absurd (omega (arith, kept))
    array_written [] s (w ∷ words) old front done before after is count place given kept fit stands = absurd (omega (arith, given))
    array_written (a ∷ at) s [] old front done before after is count place given kept fit stands = absurd (omega (arith, given))
    array_written (a ∷ at) s (w ∷ words) [] front done before after is count place given kept fit stands = absurd (omega (arith, kept))
    array_written (a ∷ at) s (w ∷ words) (o ∷ old) front done before after is count place given kept fit stands =
        let first = element_written front at a is scope s before after done old o w count place fit.0 stands in
        let moved = subst (λ l. Stands i answers (clocked s (write_row (length i.scalars) k a w)) (at_phase i answers (before ++ l ∷ after) scope Idle)) (sym (append_assoc done (w ∷ []) old)) first in
        let longer : length (done ++ w ∷ []) ≡ length (front ++ a ∷ []) = one_longer done w ∙ ap suc place ∙ sym (one_longer front a) in
        subst (λ l. Stands i answers (clocked_all s (write_rows (length i.scalars) k (a ∷ at) (w ∷ words))) (at_phase i answers (before ++ l ∷ after) scope Idle)) (append_assoc done (w ∷ []) words)
        (array_written at (clocked s (write_row (length i.scalars) k a w)) words old (front ++ a ∷ []) (done ++ w ∷ []) before after (is ∙ sym (append_assoc front (a ∷ []) at)) count longer
        (omega (arith, given)) (omega (arith, kept)) fit.1 moved)

    -- the elements from a place on are read
    array_read : (at : List ℕ) (s : Driven) (front : List ℕ) (arrays : List (List ℕ)) (result : Option ℕ) → addresses shape.dims ≡ front ++ at → Stands i answers s (at_phase i answers arrays scope (Done result))
        → (read_words s k shape.bits at ≡ words_from shape.bits (elements_of arrays k) (length front) at) × Stands i answers (behind_reads s k at) (at_phase i answers arrays scope (Done result))
    array_read [] s front arrays result is stands = (refl, stands)
    array_read (a ∷ at) s front arrays result is stands =
        let first = element_read front at a is scope s arrays result stands in
        let rest = array_read at (asked s k a) (front ++ a ∷ []) arrays result (is ∙ sym (append_assoc front (a ∷ []) at)) first.1 in (
          ap (λ x. x % 2 ^ shape.bits ∷ read_words (asked s k a) k shape.bits at) first.0
              ∙ ap (λ l. slice_index (elements_of arrays k) (length front) % 2 ^ shape.bits ∷ l) (rest.0 ∙ ap (λ n. words_from shape.bits (elements_of arrays k) n at) (one_longer front a)),
          rest.1,
        )

-- ---- all arrays

clocked_all_append : (s : Driven) (xs ys : List (List ℕ)) → clocked_all s (xs ++ ys) ≡ clocked_all (clocked_all s xs) ys
clocked_all_append s [] ys = refl
clocked_all_append s (x ∷ xs) ys = clocked_all_append (clocked s x) xs ys

module _ (i : Interface) (answers : Answers) (few : length i.arrays ≤ 32) (scope : FileScope) where
  pub arrays_written : (shapes : List ArrayShape) (s : Driven) (k : ℕ) (fronts : List ArrayShape) (done old given : List (List ℕ)) → i.arrays ≡ fronts ++ shapes → length fronts ≡ k → length done ≡ k → AllHaveRoom shapes → HaveCounts shapes old
      → AreArrays shapes given → Stands i answers s (at_phase i answers (done ++ old) scope Idle)
      → Stands i answers (clocked_all s (all_write_rows (length i.scalars) k shapes given)) (at_phase i answers (done ++ given) scope Idle)
  arrays_written [] s k fronts done [] [] is number count room counts fit stands = stands
  arrays_written [] s k fronts done (o ∷ old) given is number count room counts fit stands = absurd counts
  arrays_written [] s k fronts done [] (words ∷ given) is number count room counts fit stands = absurd fit
  arrays_written (shape ∷ shapes) s k fronts done [] given is number count room counts fit stands = absurd counts
  arrays_written (shape ∷ shapes) s k fronts done (o ∷ old) [] is number count room counts fit stands = absurd fit
  arrays_written (shape ∷ shapes) s k fronts done (o ∷ old) (words ∷ given) is number count room counts fit stands =
      let n = length i.scalars in
      let rows = write_rows n k (addresses shape.dims) words in
      let rest = all_write_rows n (suc k) shapes given in
      let first : Stands i answers (clocked_all s rows) (at_phase i answers (done ++ words ∷ old) scope Idle) =
      array_written i answers few fronts shape shapes k is number room.0 scope (addresses shape.dims) s words o [] [] done old refl count refl
      (fit.0.count ∙ sym (address_count shape.dims)) counts.0 fit.0.fit stands in
      let moved = subst (λ l. Stands i answers (clocked_all s rows) (at_phase i answers l scope Idle)) (sym (append_assoc done (words ∷ []) old)) first in
      let all : Stands i answers (clocked_all (clocked_all s rows) rest) (at_phase i answers ((done ++ words ∷ []) ++ given) scope Idle) =
      arrays_written shapes (clocked_all s rows) (suc k) (fronts ++ shape ∷ []) (done ++ words ∷ []) old given (is ∙ sym (append_assoc fronts (shape ∷ []) shapes)) (one_longer fronts shape ∙ ap suc number) (one_longer done words ∙ ap suc count)
      room.1 counts.1 fit.1 moved in
      subst (λ x. Stands i answers x (at_phase i answers (done ++ words ∷ given) scope Idle)) (sym (clocked_all_append s rows rest))
      (subst (λ l. Stands i answers (clocked_all (clocked_all s rows) rest) (at_phase i answers l scope Idle)) (append_assoc done (words ∷ []) given) all)

  pub arrays_read : (shapes : List ArrayShape) (s : Driven) (k : ℕ) (fronts : List ArrayShape) (arrays : List (List ℕ)) (result : Option ℕ) → i.arrays ≡ fronts ++ shapes → length fronts ≡ k → AllHaveRoom shapes
      → Stands i answers s (at_phase i answers arrays scope (Done result)) → read_arrays s k shapes ≡ arrays_from arrays k shapes
  arrays_read [] s k fronts arrays result is number room stands = refl
  arrays_read (shape ∷ shapes) s k fronts arrays result is number room stands =
      let first = array_read i answers few fronts shape shapes k is number room.0 scope (addresses shape.dims) s [] arrays result refl stands in
      let rest = arrays_read shapes (behind_reads s k (addresses shape.dims)) (suc k) (fronts ++ shape ∷ []) arrays result (is ∙ sym (append_assoc fronts (shape ∷ []) shapes)) (one_longer fronts shape ∙ ap suc number) room.1 first.1 in
      ap (λ l. l ∷ read_arrays (behind_reads s k (addresses shape.dims)) (suc k) shapes) first.0 ∙ ap (λ l. words_from shape.bits (elements_of arrays k) 0 (addresses shape.dims) ∷ l) rest
