-- The host's access to arrays while nothing runs.
use Rattle.std.proofs.Common.{◌≡◌, ◌≢◌, ℕ, ◌-◌, ◌%◌, ◌^◌, ◌<◌, Bool, true, false, not, List, [], map, length, get_or, Option, Some, None, is_some, refl, sym, ap, ◌∙◌, subst, inl, inr, arith, mod-eq_of_lt}
use Rattle.std.specs.Prelude.{slice_get, slice_index, slice_set, nat_lt, ◌==◌, ◌&&◌}
use Rattle.std.specs.Option.{option_and_then, option_map}
use Rattle.std.proofs.lemmas.Option.{slice_get_within, slice_get_past}
use Rattle.std.proofs.lemmas.List.{length-map}
use Rattle.std.proofs.Math.ListN.{get_or-eq_default}
use Rattle.std.proofs.lemmas.Bool.{cases_Bool, cases_eq, cases_lt, and_from, and_left, and_right, and_parts, or_right, not_from_false, eq-eqb, eqb-true, ne_eqb, lt-ltb, ltb-true, cond-true, cond-false, false≢true}
use Rattle.hls_base.specs.ArrayAddress.{addresses, element_at}
use Rattle.hls_base.specs.FileScope.{FileScope}
use Rattle.rtl_core.specs.Interface.{ArrayShape, reset_of, start_of, enable_of, write_of, select_of, address_of, data_of, read_data_of}
use Rattle.rtl_core.specs.Box.{Box, Element, element_in, named, elements_of, with_element, accessed, served}
use Rattle.rtl_core.specs.Agreement.{ShowsValue}
use Rattle.ir_core.specs.Bodies.{with_word}
use Rattle.clock_runs.proofs.Lists.{some_same, no_some}
use Rattle.datapath.specs.Plans.{Plan, Array, array_at, depth, host_arrays, interface}
use Rattle.datapath.specs.Cycles.{Ready, Initial, Variable, Word, Named, AddressOf, Contents, Cycle, in_cycle, holds, starts}
use Rattle.rtl_logic.specs.Choosing.{Takes}
use Rattle.datapath.specs.Control.{is_taken}
use Rattle.datapath.specs.Ports.{loads, port_count, host_writes, outside_writes, is_enabled, is_refused, is_reading, read_word}
use Rattle.datapath.specs.Circuits.{Step, Shows, named_bits, always}
use Rattle.datapath.specs.Standing.{IsWaiting}
use Rattle.datapath.specs.Answers.{elements, file_number, HoldsArrays}
use Rattle.circuit_agreement.specs.CircuitFlow.Compiled.{IsCompiled}
use Rattle.circuit_agreement.specs.CircuitStores.HeldWords.{words_in}
use Rattle.circuit_agreement.specs.CircuitStores.{Serves, HostsAreServed}
use Rattle.circuit_agreement.proofs.UnitResults.Loading.{taken_where}
use Rattle.circuit_agreement.proofs.CircuitStores.Lists.{none_there, same_map}
use Rattle.circuit_agreement.proofs.CircuitStores.Quiet.{off, on, unreset}
use Rattle.circuit_agreement.proofs.CircuitStores.Elements.{position_found, position_none, rising_within, rising_once, elements_without, elements_with, set_same, set_other, get_within, mapped_get}
use Rattle.circuit_agreement.proofs.CircuitStores.Hosts.{rising, HostArray, host_array, file_array}
use Rattle.circuit_agreement.proofs.CircuitStores.Outside.{IsResting, unchanged, changed, outside_address_is, not_refused, port_off}
use Rattle.circuit_agreement.proofs.CircuitStores.Shown.{shown_plain, words_kept}
use Rattle.circuit_agreement.proofs.CircuitStores.Variables.{stays, none_kept, no_arguments}
use Rattle.circuit_agreement.proofs.CircuitStores.Bits.{below_bits}

-- ---- the box

-- the elements behind an access
abbrev arrays_by : Box → List ℕ → Bool → Bool → Option Element → List (List ℕ)
arrays_by b pins true true (Some e) = with_element b.arrays e (data_of pins % 2 ^ e.bits)
arrays_by b pins enabled writes e = b.arrays

abbrev shown_by : Box → Bool → Bool → Option Element → Option ℕ
shown_by b true false (Some e) = Some (slice_index (elements_of b.arrays e.array) e.index)
shown_by b enabled writes e = None

-- the box is served like that
record ServedBy (b : Box) (after : Box) (pins : List ℕ) (enabled writes : Bool) (e : Option Element) : Type 0 where
  arrays : after.arrays ≡ arrays_by b pins enabled writes e
  file_scope : after.file_scope ≡ b.file_scope
  shown : after.shown ≡ shown_by b enabled writes e

access_by : (b : Box) (pins : List ℕ) (e : Option Element) (writes : Bool) → (write_of pins == 1) ≡ writes → ServedBy b (accessed b pins e) pins true writes e
access_by b pins None true w = record { arrays = refl; file_scope = refl; shown = refl }
access_by b pins None false w = record { arrays = refl; file_scope = refl; shown = refl }
access_by b pins (Some e) true w = record { arrays = ap (λ (z : Box). z.arrays) (cond-true _ _ _ w); file_scope = ap (λ (z : Box). z.file_scope) (cond-true _ _ _ w); shown = ap (λ (z : Box). z.shown) (cond-true _ _ _ w) }
access_by b pins (Some e) false w = record { arrays = ap (λ (z : Box). z.arrays) (cond-false _ _ _ w); file_scope = ap (λ (z : Box). z.file_scope) (cond-false _ _ _ w); shown = ap (λ (z : Box). z.shown) (cond-false _ _ _ w) }

served_by : (p : Plan) (b : Box) (pins : List ℕ) (enabled writes : Bool) → (enable_of pins == 1) ≡ enabled → (write_of pins == 1) ≡ writes
    → ServedBy b (served (interface p) b pins) pins enabled writes (named (interface p) pins)
served_by p b pins true writes e w =
    let a = access_by b pins (named (interface p) pins) writes w in
    let is : served (interface p) b pins ≡ accessed b pins (named (interface p) pins) = cond-true _ _ _ e in
    record { arrays = ap (λ (z : Box). z.arrays) is ∙ a.arrays; file_scope = ap (λ (z : Box). z.file_scope) is ∙ a.file_scope; shown = ap (λ (z : Box). z.shown) is ∙ a.shown }
served_by p b pins false writes e w =
    record { arrays = ap (λ (z : Box). z.arrays) (cond-false _ _ _ e); file_scope = ap (λ (z : Box). z.file_scope) (cond-false _ _ _ e); shown = ap (λ (z : Box). z.shown) (cond-false _ _ _ e) }

-- ---- the element that is named

abbrev shape_of : Array → ArrayShape
shape_of z = record { bits = z.bits; dims = z.dims }

module _ (p : Plan) (k : IsCompiled p) (pins : List ℕ) where
  abbrev element : ℕ → Option ℕ → Option Element
  element a place = option_map (λ (index : ℕ). record { array = select_of pins; index = index; bits = (array_at p a).bits }) place

  named_is : (a : ℕ) → a < length (host_arrays p) → select_of pins ≡ a → named (interface p) pins ≡ element a (element_at (array_at p a).dims (address_of pins))
  named_is a low e =
      let shape : slice_get (interface p).arrays (select_of pins) ≡ Some (shape_of (array_at p a)) =
      ap (slice_get (interface p).arrays) e
      ∙ mapped_get shape_of (host_arrays p) a (array_at p a) (host_array p k a low).in_hosts in
      ap (option_and_then (element_in (select_of pins) (address_of pins))) shape

  -- the host names an element of an array that it reaches
  record NamesElement (e : Element) : Type 0 where
    low : select_of pins < length (host_arrays p)
    array : e.array ≡ select_of pins
    bits : e.bits ≡ (array_at p (select_of pins)).bits
    stands : slice_get (addresses (array_at p (select_of pins)).dims) e.index ≡ Some (address_of pins)

  names_at : (a : ℕ) (place : Option ℕ) (e : Element) → element a place ≡ Some e → (index : ℕ) × ((place ≡ Some index) × (record { array = select_of pins; index = index; bits = (array_at p a).bits } ≡ e))
  names_at a None e is = absurd (no_some is)
  names_at a (Some index) e is = (index, (refl, some_same is))

  none_beyond : (o : Option ArrayShape) → o ≡ None → option_and_then (element_in (select_of pins) (address_of pins)) o ≡ None
  none_beyond o is = ap (option_and_then (element_in (select_of pins) (address_of pins))) is

  names : (e : Element) → named (interface p) pins ≡ Some e → NamesElement e
  names e is =
      elim (cases_lt (select_of pins) (length (host_arrays p))) [
        | inl low ↦
            let r = names_at (select_of pins) (element_at (array_at p (select_of pins)).dims (address_of pins)) e (sym (named_is (select_of pins) low refl) ∙ is) in
            record {
              low = low;
              array = ap (λ (z : Element). z.array) (sym r.1.1);
              bits = ap (λ (z : Element). z.bits) (sym r.1.1);
              stands = ap (slice_get (addresses (array_at p (select_of pins)).dims)) (ap (λ (z : Element). z.index) (sym r.1.1))
                  ∙ position_found (addresses (array_at p (select_of pins)).dims) (address_of pins) r.0 r.1.0;
            }
        | inr high ↦
            let none : slice_get (interface p).arrays (select_of pins) ≡ None =
            slice_get_past (interface p).arrays (select_of pins) (let n = length-map (host_arrays p) shape_of in omega (arith, n, high)) in
            absurd (no_some (sym (none_beyond _ none) ∙ is))
      ]

  address_low : (e : Element) → NamesElement e → address_of pins < 2 ^ depth p (select_of pins)
  address_low e n =
      (rising_within 0 (2 ^ depth p (select_of pins)) (addresses (array_at p (select_of pins)).dims) e.index (address_of pins) (rising p k (select_of pins)) n.stands).1

  module _ (b : Box) (x y : Contents) (step : Step p x pins y) (done : Bool) (waiting : IsWaiting done x) (unset : reset_of pins ≡ 0) (unstarted : start_of pins ≢ 1)
      (h : HoldsArrays p b.file_scope b.arrays (words_in p x)) where
    abbrev c : Cycle
    c = in_cycle x step.signals pins

    rest : IsResting c
    rest = record { active = waiting.still.active; unset = unreset pins unset }

    quiet : starts c ≡ false
    quiet = ne_eqb (start_of pins) 1 unstarted

    untaken : is_taken c ≡ false
    untaken = and_right (holds c Ready) _ quiet

    waits_ : (holds c Ready && not (starts c)) ≡ true
    waits_ = and_from _ _ (on c Ready waiting.ready) (not_from_false _ quiet)

    uninitial : holds c Initial ≡ false
    uninitial = off c Initial waiting.initial

    variables : (v : ℕ) → y.regs (Variable v) ≡ x.regs (Variable v)
    variables v =
        stays p c step.is_cycle rest y step.is_after v (no_arguments p c step.is_cycle rest y step.is_after v untaken) (none_kept p c step.is_cycle rest y step.is_after v uninitial)

    words_stay : (a : ℕ) → outside_writes p c a 0 ≡ false → (address : ℕ) → y.memories a address ≡ x.memories a address
    words_stay a none address = step.is_after.memories a address ∙ unchanged p c step.is_cycle rest a none address

    elements_stay : (a : ℕ) → outside_writes p c a 0 ≡ false → elements (array_at p a) ((words_in p y).memories a) ≡ elements (array_at p a) ((words_in p x).memories a)
    elements_stay a none = same_map (addresses (array_at p a).dims) ((words_in p y).memories a) ((words_in p x).memories a) (words_kept p x y a (words_stay a none))

    is : ServedBy b (served (interface p) b pins) pins (enable_of pins == 1) (write_of pins == 1) (named (interface p) pins)
    is = served_by p b pins (enable_of pins == 1) (write_of pins == 1) refl refl

    -- ---- arrays of file scope

    file_quiet : (a : ℕ) (first : List ℕ) → (array_at p a).first ≡ Some first → outside_writes p c a 0 ≡ false
    file_quiet a first e = cond-false _ _ _ (file_array p k a first e).unreached ∙ and_right (is_some (array_at p a).first) _ uninitial

    -- ---- arrays that the host does not write

    unwritten : (a : ℕ) → host_writes p c a ≡ false → (enabled writes : Bool) (o : Option Element) → (enable_of pins == 1) ≡ enabled → (write_of pins == 1) ≡ writes
        → named (interface p) pins ≡ o → get_or (arrays_by b pins enabled writes o) a [] ≡ get_or b.arrays a []
    unwritten a none true true None e w n = refl
    unwritten a none true false o e w n = refl
    unwritten a none false writes o e w n = refl
    unwritten a none true true (Some it) e w n =
        let r = names it n in
        elim (cases_eq it.array a) [
          | inr other ↦ set_other b.arrays it.array a (slice_set (elements_of b.arrays it.array) it.index (data_of pins % 2 ^ it.bits)) [] other
          | inl same ↦
              let select : select_of pins ≡ a = sym r.array ∙ same in
              let low : address_of pins < 2 ^ depth p a = subst (λ q. address_of pins < 2 ^ depth p q) select (address_low it r) in
              absurd (false≢true (sym none ∙ and_from _ _ waits_ (and_from _ _ (and_from _ _ e w) (and_from _ _ (eq-eqb (select_of pins) a select) (lt-ltb _ _ low)))))
        ]

    -- ---- the array that it writes

    record HostWrites (a : ℕ) : Type 0 where
      enabled : (enable_of pins == 1) ≡ true
      writes : (write_of pins == 1) ≡ true
      select : select_of pins ≡ a
      under : address_of pins < 2 ^ depth p a

    host_access : (a : ℕ) → host_writes p c a ≡ true → HostWrites a
    host_access a e =
        let both = and_parts (holds c Ready && not (starts c)) (((enable_of pins == 1) && (write_of pins == 1)) && ((select_of pins == a) && nat_lt (address_of pins) (2 ^ depth p a))) e in
        let access = and_parts ((enable_of pins == 1) && (write_of pins == 1)) ((select_of pins == a) && nat_lt (address_of pins) (2 ^ depth p a)) both.1 in
        let ways = and_parts (enable_of pins == 1) (write_of pins == 1) access.0 in
        let names_it = and_parts (select_of pins == a) (nat_lt (address_of pins) (2 ^ depth p a)) access.1 in
        record { enabled = ways.0; writes = ways.1; select = eqb-true (select_of pins) a names_it.0; under = ltb-true (address_of pins) (2 ^ depth p a) names_it.1 }

    written : (a : ℕ) → a < length (host_arrays p) → host_writes p c a ≡ true → HostWrites a → (o : Option ℕ) → element_at (array_at p a).dims (address_of pins) ≡ o
        → elements (array_at p a) ((words_in p y).memories a) ≡ get_or (served (interface p) b pins).arrays a []
    written a low on_ host o at_ = with_place o at_
      where
        it : HostArray p k a
        it = host_array p k a low

        word : ℕ
        word = data_of pins % 2 ^ (array_at p a).bits

        places : List ℕ
        places = addresses (array_at p a).dims

        becomes : (q : ℕ) → (words_in p y).memories a q ≡ with_word (x.memories a) (address_of pins) word q
        becomes q =
            shown_plain p y a q it.plain
            ∙ (step.is_after.memories a q
            ∙ (changed p c step.is_cycle rest a (address_of pins % 2 ^ depth p a) word (cond-true _ _ _ it.host ∙ on_) (cond-true _ _ _ it.host) (cond-true _ _ _ it.host) q
            ∙ ap (λ z. with_word (x.memories a) z word q) (mod-eq_of_lt host.under)))

        before : map (x.memories a) places ≡ get_or b.arrays a []
        before = same_map places (x.memories a) ((words_in p x).memories a) (λ q. sym (shown_plain p x a q it.plain)) ∙ h.host a low

        served_so : (place : Option ℕ) → element_at (array_at p a).dims (address_of pins) ≡ place → (served (interface p) b pins).arrays ≡ arrays_by b pins true true (element a place)
        served_so place e =
            (served_by p b pins true true host.enabled host.writes).arrays ∙ ap (arrays_by b pins true true) (named_is a low host.select ∙ ap (element a) e)

        many : (index : ℕ) → slice_get places index ≡ Some (address_of pins) → a < length b.arrays
        many index e =
            elim (cases_lt a (length b.arrays)) [
              | inl some ↦ some
              | inr beyond ↦
                  let none : map (x.memories a) places ≡ [] = before ∙ get_or-eq_default b.arrays [] beyond in
                  absurd (no_some (ap (λ (l : List ℕ). slice_get l index) (sym none) ∙ mapped_get (x.memories a) places index (address_of pins) e))
            ]

        with_place : (place : Option ℕ) → element_at (array_at p a).dims (address_of pins) ≡ place → elements (array_at p a) ((words_in p y).memories a) ≡ get_or (served (interface p) b pins).arrays a []
        with_place None e =
            same_map places ((words_in p y).memories a) (with_word (x.memories a) (address_of pins) word) becomes
            ∙ (elements_without places (x.memories a) (address_of pins) word (position_none places (address_of pins) e)
            ∙ (before ∙ ap (λ (l : List (List ℕ)). get_or l a []) (sym (served_so None e))))
        with_place (Some index) e =
            let stands = position_found places (address_of pins) index e in
            same_map places ((words_in p y).memories a) (with_word (x.memories a) (address_of pins) word) becomes
            ∙ (elements_with places (x.memories a) (address_of pins) word index stands (λ l g. rising_once 0 (2 ^ depth p a) places l index (address_of pins) (rising p k a) g stands)
            ∙ (ap (λ (l : List ℕ). slice_set l index word) before
            ∙ (sym (set_same b.arrays a (slice_set (get_or b.arrays a []) index word) [] (many index stands))
            ∙ (ap (λ q. get_or (slice_set b.arrays q (slice_set (get_or b.arrays q []) index word)) a []) (sym host.select)
            ∙ ap (λ (l : List (List ℕ)). get_or l a []) (sym (served_so (Some index) e))))))

    hosts_hold : (a : ℕ) → a < length (host_arrays p) → elements (array_at p a) ((words_in p y).memories a) ≡ get_or (served (interface p) b pins).arrays a []
    hosts_hold a low =
        elim (cases_Bool (host_writes p c a)) [
          | inl on_ ↦ written a low on_ (host_access a on_) (element_at (array_at p a).dims (address_of pins)) refl
          | inr off_ ↦
              elements_stay a (cond-true _ _ _ (host_array p k a low).host ∙ off_)
              ∙ (h.host a low
              ∙ (sym (unwritten a off_ (enable_of pins == 1) (write_of pins == 1) (named (interface p) pins) refl refl refl) ∙ ap (λ (l : List (List ℕ)). get_or l a []) (sym is.arrays)))
        ]

    -- ---- the element that is read

    always_taken : (v w : ℕ) (other : Option ℕ) → Takes (always v) other w → w ≡ v
    always_taken v w other t = t.wanted v refl ((λ e. refl), _)

    few_hosts : length (host_arrays p) - 1 < 2 ^ 64
    few_hosts =
        elim (cases_lt 0 (length (host_arrays p))) [
          | inl some ↦
              let last = host_array p k (length (host_arrays p) - 1) (omega (arith, some)) in
              let within = slice_get_within p.arrays (length (host_arrays p) - 1) (array_at p (length (host_arrays p) - 1)) last.there in
              let few = k.frame.few in
              omega (arith, within, few)
          | inr none ↦ omega (arith, none)
        ]

    named_now : select_of pins < length (host_arrays p) → y.regs Named ≡ select_of pins
    named_now low =
        let bits = below_bits (length (host_arrays p) - 1) few_hosts in
        let fits : select_of pins < 2 ^ named_bits p = omega (arith, bits, low) in
        always_taken _ _ _ (step.is_after.regs Named) ∙ mod-eq_of_lt fits

    read_now : (e : Element) → NamesElement e → (write_of pins == 1) ≡ false → y.regs (Word (select_of pins) 0) ≡ slice_index (elements_of b.arrays e.array) e.index
    read_now e n read_only =
        let s : ℕ = select_of pins in
        let it : HostArray p k s = host_array p k s n.low in
        let places : List ℕ = addresses (array_at p s).dims in
        let at_ : c.signals (AddressOf s 0) ≡ address_of pins =
        outside_address_is p c step.is_cycle rest s (address_of pins % 2 ^ depth p s) (cond-true _ _ _ it.host) ∙ mod-eq_of_lt (address_low e n) in
        let read : read_word p c s 0 ≡ x.memories s (address_of pins) =
        cond-false _ _ _ (none_there (is_refused p c) (loads p s 0) (λ z g. not_refused p c step.is_cycle rest z))
        ∙ (cond-false _ _ _ (ap is_some it.plain) ∙ ap (x.memories s) at_) in
        let shown : slice_index (elements_of b.arrays e.array) e.index ≡ x.memories s (address_of pins) =
        ap (λ q. slice_index (elements_of b.arrays q) e.index) n.array
        ∙ (ap (λ (l : List ℕ). slice_index l e.index) (sym (h.host s n.low))
        ∙ (get_within (map ((words_in p x).memories s) places) e.index 0 ((words_in p x).memories s (address_of pins)) (mapped_get ((words_in p x).memories s) places e.index (address_of pins) n.stands)
        ∙ shown_plain p x s (address_of pins) it.plain)) in
        let unwritten_ : host_writes p c s ≡ false = and_right (holds c Ready && not (starts c)) _ (and_left _ _ (and_right (enable_of pins == 1) (write_of pins == 1) read_only)) in
        let off_ : is_enabled p c s 0 ≡ false = port_off p c step.is_cycle rest s (cond-true _ _ _ it.host ∙ unwritten_) in
        let reading : is_reading p c s 0 ≡ true =
        or_right (is_some (array_at p s).table) (not ((port_count p s == 1) && is_enabled p c s 0))
        (not_from_false ((port_count p s == 1) && is_enabled p c s 0) (and_right (port_count p s == 1) (is_enabled p c s 0) off_)) in
        taken_where (is_reading p c s 0) (read_word p c s 0) (y.regs (Word s 0)) _ reading (step.is_after.regs (Word s 0)) ∙ (read ∙ sym shown)

    shows_by : (outs : List ℕ) → Shows p y outs → (enabled writes : Bool) (o : Option Element) → named (interface p) pins ≡ o → (write_of pins == 1) ≡ writes
        → ShowsValue (shown_by b enabled writes o) (read_data_of outs)
    shows_by outs s true true o n w = tt
    shows_by outs s true false None n w = tt
    shows_by outs s false writes o n w = tt
    shows_by outs s true false (Some e) n w =
        let r = names e n in
        let now = named_now r.low in
        s.element (subst (λ q. q < length (host_arrays p)) (sym now) r.low) ∙ (ap (λ q. y.regs (Word q 0)) now ∙ read_now e r w)

    serves : Serves p b pins y
    serves = record {
      holds = record {
        scalars = λ n s at_. variables s.variable.0 ∙ (h.scalars n s at_ ∙ ap (λ (z : FileScope). slice_index z.scalars n) (sym is.file_scope));
        host = hosts_hold;
        file = λ a first e. elements_stay a (file_quiet a first e) ∙ (h.file a first e ∙ ap (λ (z : FileScope). get_or z.arrays (file_number p a) []) (sym is.file_scope));
      };
      element = λ outs s.
          subst (λ (z : Option ℕ). ShowsValue z (read_data_of outs)) (sym is.shown) (shows_by outs s (enable_of pins == 1) (write_of pins == 1) (named (interface p) pins) refl refl);
    }

pub hosts_are_served : HostsAreServed
hosts_are_served p done b x y pins k unset unstarted waiting h step = serves p k pins b x y step done waiting unset unstarted h
