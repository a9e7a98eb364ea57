-- What reaches a memory from outside of a run, and the words of tables.
use Rattle.std.proofs.Common.{◌≡◌, ◌<◌, ◌≤◌, inl, inr, ℕ, zero, suc, ◌+◌, ◌-◌, ◌*◌, ◌/◌, ◌%◌, ◌^◌, Bool, true, false, List, [], ◌∷◌, length, map, get_or, slice_get, slice_index, Some, None, refl, sym, ap, ◌∙◌, subst, arith}
use Rattle.std.specs.Prelude.{◌==◌, ◌&&◌, nat_lt, is_some, if◌then◌else◌}
use Rattle.std.proofs.Math.Nat.{mod-eq_of_lt, div-eq_of_lt, lt-div-mul-add, div-lt_iff_lt-mul, zero-mod}
use Rattle.std.proofs.lemmas.Nat.{pow_pos, pow-add}
use Rattle.std.proofs.lemmas.Bool.{cases_lt, cases_Bool, false≢true, ltb-true, lt-ltb}
use Rattle.std.proofs.lemmas.Bool.Decides.{eqb_tells}
use Rattle.std.proofs.lemmas.Option.{get_or_from_slice_get, slice_get-map, slice_get_within}
use Rattle.std.specs.List.{All}
use Rattle.std.specs.Option.{option_map}
use Rattle.std.proofs.lemmas.List.Elements.{All-head, All-tail}
use Rattle.std.proofs.lemmas.Grind.{get_or_default_zero}
use Rattle.hls_base.specs.ArrayAddress.{addresses}
use Rattle.ir_core.specs.FirstContents.{given_at, elements_or_none}
use Rattle.ir_core.specs.declared.cfg.Memory.{Memory}
use Rattle.rtl_core.specs.declared.design.Atom.{Atom}
use Rattle.rtl_core.specs.declared.design.Atom.TheVariants as atom
use Rattle.rtl_core.specs.Netlist.{Netlist}
use Rattle.rtl_core.specs.ClockStep.{State, bit_of, widths, input_widths, seen}
use Rattle.rtl_core.specs.Interface.{select_of, address_of, data_of}
use Rattle.rtl_core.specs.Valid.{HasBits}
use Rattle.rtl_core.proofs.Fits.{fit_get}
use Rattle.rtl_core.proofs.Stability.{get_same}
use Rattle.rtl_logic.specs.Making.{Appends, Makes}
use Rattle.rtl_logic.specs.Choosing.{Takes}
use Rattle.rtl_logic.proofs.Making.{appended, appends_both, goes_on, fits_later}
use Rattle.datapath.specs.Plans.{Plan, Array, array_at, no_array, array_of, depth}
use Rattle.datapath.specs.Cycles.{Register, Contents, Time, Initial, Cycle, in_cycle, holds, bit}
use Rattle.datapath.specs.Ports.{outside_address, outside_word, host_writes, first_word, stored_writes}
use Rattle.datapath.specs.CircuitWires.Carrying.{IsRegister, IsMoment, IsBegun, Carries, Tells, CarriesWanted, MakesCarrying, MakesTelling}
use Rattle.datapath.proofs.Combining.{moment_same, begun_after, made_carries, carries_on, bit_same, there_already}
use Rattle.circuit_context.specs.declared.context.Context.{Context}
use Rattle.circuit_context.specs.Contexts.{IsContext}
use Rattle.circuit_context.specs.Bank.Banks.{names_of}
use Rattle.program_validity.specs.Frames.{is_memory}
use Rattle.program_validity.proofs.Memories.{memory_valid}
use Rattle.circuit_units.specs.declared.memories.places.Outside.{Outside}
use Rattle.circuit_units.specs.declared.memories.places.Place.{Place}
use Rattle.circuit_units.specs.Memories.Places.{IsPlace, IsOtherAtom, IsInside, MakesOutside, ReadsWord, AreWordsOf}
use Rattle.circuit_units.proofs.MemoriesLemmas.Chosen.{carried_other}

-- ---- registers and arrays of a context

pub bank_register : (p : Plan) (names : List Register) (of : Context) (a : Atom) (r : Register) → IsContext p names of → IsRegister (names_of of.bank) a r → IsRegister names a r
bank_register p names of a r context is = record {
  number = is.number;
  is = is.is;
  named = get_same (names_of of.bank) names context.more is.number r context.names_ is.named;
}

pub array_there : (p : Plan) (a : ℕ) (array : Array) → slice_get p.arrays a ≡ Some array → array_at p a ≡ array
array_there p a array at = get_or_from_slice_get p.arrays a array no_array at

pub array_within : (p : Plan) (a : ℕ) (array : Array) → slice_get p.arrays a ≡ Some array → a < length p.arrays
array_within p a array at = slice_get_within p.arrays a array at

pub arrays_of : (p : Plan) (names : List Register) (of : Context) → IsContext p names of → p.arrays ≡ map array_of of.cfg.now.frame.memories.items
arrays_of p names of context = ap (λ (q : Plan). q.arrays) context.plan

pub memory_of_array : (p : Plan) (names : List Register) (of : Context) (a : ℕ) (m : Memory) → IsContext p names of → slice_get of.cfg.now.frame.memories.items a ≡ Some m → slice_get p.arrays a ≡ Some (array_of m)
memory_of_array p names of a m context at =
    ap (λ l. slice_get l a) (arrays_of p names of context) ∙ (slice_get-map array_of of.cfg.now.frame.memories.items a ∙ ap (option_map array_of) at)

-- each memory of a context's program is valid
pub valid_there : (of : Context) (a : ℕ) (m : Memory) → slice_get of.cfg.now.frame.memories.items a ≡ Some m → is_memory m ≡ true
valid_there of a m at = memory_valid of.cfg.now a m of.buildable.valid at

-- ---- what is made one after another

pub makes_behind : (p : Plan) (names : List Register) (d e f : Netlist) (bits : ℕ) (a : Atom) (value : Cycle → ℕ) → Appends d e → MakesCarrying p names e f bits a value → MakesCarrying p names d f bits a value
makes_behind p names d e f bits a value first h = record { appends = appends_both d e f first h.appends; begun = h.begun; carries = h.carries }

-- ---- the host's address

over_is : (x k : ℕ) → k < 16 → x < 2 ^ 16 → 2 ^ k ≤ x → (x / 2 ^ k % 2 ^ (15 + 1 - k) == 0) ≡ false
over_is x k small low high =
    let whole : 2 ^ (15 + 1 - k) * 2 ^ k ≡ 2 ^ 16 = sym (pow-add 2 (15 + 1 - k) k) ∙ ap (λ n. 2 ^ n) (let e : 15 + 1 - k + k ≡ 16 = omega (arith, small) in e) in
    let below : x / 2 ^ k < 2 ^ (15 + 1 - k) = (div-lt_iff_lt-mul (pow_pos k)).1 (subst (λ n. x < n) (sym whole) low) in
    let same : x / 2 ^ k % 2 ^ (15 + 1 - k) ≡ x / 2 ^ k = mod-eq_of_lt below in
    elim (eqb_tells (x / 2 ^ k % 2 ^ (15 + 1 - k)) 0) [
      | inl none ↦
          let nothing : x / 2 ^ k ≡ 0 = sym same ∙ none.1 in
          let past : x < 0 * 2 ^ k + 2 ^ k = subst (λ q. x < q * 2 ^ k + 2 ^ k) nothing (lt-div-mul-add (pow_pos k)) in
          absurd (omega (arith, past, high))
      | inr some ↦ some.0
    ]

pub within_is : (x k : ℕ) → k < 16 → x < 2 ^ 16 → (x / 2 ^ k % 2 ^ (15 + 1 - k) == 0) ≡ nat_lt x (2 ^ k)
within_is x k small low = elim (cases_lt x (2 ^ k)) [
  | inl under ↦
      ap (λ n. n == 0) (ap (λ n. n % 2 ^ (15 + 1 - k)) (div-eq_of_lt under) ∙ zero-mod (2 ^ (15 + 1 - k))) ∙ sym (lt-ltb x (2 ^ k) under)
  | inr over ↦ over_is x k small low over ∙ sym (not_below x (2 ^ k) over)
] where
  not_below : (a b : ℕ) → b ≤ a → nat_lt a b ≡ false
  not_below a b h = elim (cases_Bool (nat_lt a b)) [ inl yes_ ↦ absurd (omega (arith, h, ltb-true a b yes_)) | inr no_ ↦ no_ ]

-- an address is below 2^16
address_low : (p : Plan) (names : List Register) (d e : Netlist) (s : State) (pins : List ℕ) (x : Contents) (k bits : ℕ) → slice_get (input_widths d) k ≡ Some bits → IsMoment p names d e s pins x → slice_index pins k < 2 ^ bits
address_low p names d e s pins x k bits is m = fit_get (input_widths e) pins m.pins_ k bits (ap (λ l. slice_get l k) m.extends.inputs ∙ is)

pub within_tells : (p : Plan) (names : List Register) (d e f : Netlist) (depth_ : ℕ) (high zero_ a : Atom) → IsBegun p names d → slice_get (input_widths d) 5 ≡ Some 16 → depth_ < 16
    → Makes d e (15 + 1 - depth_) high (λ v x. x ≡ v (atom.Input 5) / 2 ^ depth_ % 2 ^ (15 + 1 - depth_)) → zero_ ≡ atom.Constant (16 - depth_) (0 % 2 ^ (16 - depth_))
    → Makes e f 1 a (λ v x. x ≡ bit_of (v high == v zero_)) → MakesTelling p names d f a (λ (c : Cycle). nat_lt (address_of c.pins) (2 ^ depth_))
within_tells p names d e f depth_ high zero_ a begun pin small made none equal =
    let begun_e = begun_after p names d e begun made.appends made.sound in
    let first = appended d e made.appends in
    makes_behind p names d e f 1 a (λ c. bit (nat_lt (address_of c.pins) (2 ^ depth_))) made.appends
    (made_carries p names e f 1 a (λ v x. x ≡ bit_of (v high == v zero_)) (λ c. bit (nat_lt (address_of c.pins) (2 ^ depth_))) begun_e equal (λ g s pins x signals m shown.
    let on_d = moment_same p names d e g s pins x first m in
    let value : seen g s pins high ≡ slice_index pins 5 / 2 ^ depth_ % 2 ^ (15 + 1 - depth_) = made.shows.value g s pins m.extends m.sound m.state m.pins_ in
    let nothing : seen g s pins zero_ ≡ 0 = ap (seen g s pins) none ∙ zero-mod (2 ^ (16 - depth_)) in
    shown ∙ (ap (λ k. bit_of (k == seen g s pins zero_)) value ∙ (ap (λ k. bit_of (slice_index pins 5 / 2 ^ depth_ % 2 ^ (15 + 1 - depth_) == k)) nothing
    ∙ (ap bit_of (within_is (slice_index pins 5) depth_ small (address_low p names d g s pins x 5 16 pin on_d)) ∙ bit_same (nat_lt (slice_index pins 5) (2 ^ depth_)))))))

-- all addresses are within a memory of 2^16 words
pub all_within_tells : (p : Plan) (names : List Register) (d : Netlist) (depth_ : ℕ) (a : Atom) → IsBegun p names d → slice_get (input_widths d) 5 ≡ Some 16 → 16 ≤ depth_ → depth_ ≤ 16
    → a ≡ atom.Constant 1 (1 % 2 ^ 1) → MakesTelling p names d d a (λ (c : Cycle). nat_lt (address_of c.pins) (2 ^ depth_))
all_within_tells p names d depth_ a begun pin low high is =
    let full : depth_ ≡ 16 = omega (arith, low, high) in
    let one : Tells p names d (atom.Constant 1 1) (λ (c : Cycle). nat_lt (address_of c.pins) (2 ^ depth_)) = record {
      fits = (refl, (omega arith, omega arith), omega arith);
      value_ = λ e s pins x signals m.
          sym (ap bit (lt-ltb (slice_index pins 5) (2 ^ depth_) (subst (λ n. slice_index pins 5 < 2 ^ n) (sym full) (address_low p names d e s pins x 5 16 pin m))));
    } in
    there_already p names d 1 a (λ c. bit (nat_lt (address_of c.pins) (2 ^ depth_))) begun (subst (λ b. Tells p names d b (λ (c : Cycle). nat_lt (address_of c.pins) (2 ^ depth_))) (sym is) one)

-- ---- resized

pub resized_carries : (p : Plan) (names : List Register) (d e : Netlist) (n bits : ℕ) (of a : Atom) (value : Cycle → ℕ) → IsBegun p names d → Carries p names d n of value → Makes d e bits a (λ v x. x ≡ v of % 2 ^ bits)
    → MakesCarrying p names d e bits a (λ c. value c % 2 ^ bits)
resized_carries p names d e n bits of a value begun h made =
    made_carries p names d e bits a (λ v x. x ≡ v of % 2 ^ bits) (λ c. value c % 2 ^ bits) begun made (λ f s pins x signals m shown. shown ∙ ap (λ k. k % 2 ^ bits) (h.value_ f s pins x signals m))

-- the host cannot name an array behind the first 32
pub never_named : (p : Plan) (names : List Register) (d : Netlist) (array : ℕ) (a : Atom) → IsBegun p names d → slice_get (input_widths d) 4 ≡ Some 5 → 32 ≤ array → a ≡ atom.Constant 1 (0 % 2 ^ 1)
    → MakesTelling p names d d a (λ (c : Cycle). select_of c.pins == array)
never_named p names d array a begun pin high is =
    let none : Tells p names d (atom.Constant 1 0) (λ (c : Cycle). select_of c.pins == array) = record {
      fits = (refl, (omega arith, omega arith), omega arith);
      value_ = λ e s pins x signals m. sym (ap bit (apart (slice_index pins 4) (address_low p names d e s pins x 4 5 pin m)));
    } in
    there_already p names d 1 a (λ c. bit (select_of c.pins == array)) begun (subst (λ b. Tells p names d b (λ (c : Cycle). select_of c.pins == array)) (sym is) none) where
      apart : (n : ℕ) → n < 2 ^ 5 → (n == array) ≡ false
      apart n low = elim (eqb_tells n array) [ inl same ↦ absurd (omega (arith, low, high, same.1)) | inr other ↦ other.0 ]

-- ---- an access from outside

-- the host's
pub host_outside : (p : Plan) (names : List Register) (d e f g : Netlist) (a bits depth_ : ℕ) (o : Outside) → (array_at p a).host ≡ true → bits ≡ (array_at p a).bits → depth_ ≡ depth p a
    → MakesTelling p names d e o.enable (λ c. host_writes p c a) → MakesCarrying p names e f depth_ o.addr (λ c. address_of c.pins % 2 ^ depth_)
    → MakesCarrying p names f g bits o.value (λ c. data_of c.pins % 2 ^ bits) → MakesOutside p names d g a o
host_outside p names d e f g a bits depth_ o host wide deep enable addr value =
    let second = appended e f addr.appends in
    let third = appended f g value.appends in
    record {
      appends = appends_both d e g enable.appends (appends_both e f g addr.appends value.appends);
      begun = value.begun;
      is = record {
        addr = subst (λ n. IsOtherAtom p names g n o.addr (λ c. outside_address p c a 0)) deep
            (carried_other p names g depth_ o.addr (λ c. address_of c.pins % 2 ^ depth_) (λ c. outside_address p c a 0)
            (λ c. ap (λ h. if h then Some (address_of c.pins % 2 ^ depth p a) else (if is_some (array_at p a).first then Some (c.regs Time % 2 ^ depth p a) else None)) host
            ∙ ap (λ n. Some (address_of c.pins % 2 ^ n)) (sym deep)) (carries_on p names f g depth_ o.addr _ third addr.carries));
        value = subst (λ n. IsOtherAtom p names g n o.value (λ c. outside_word p c a 0)) wide
            (carried_other p names g bits o.value (λ c. data_of c.pins % 2 ^ bits) (λ c. outside_word p c a 0)
            (λ c. ap (λ h. if h then Some (data_of c.pins % 2 ^ (array_at p a).bits) else (if is_some (array_at p a).first then Some (first_word p c a) else None)) host
            ∙ ap (λ n. Some (data_of c.pins % 2 ^ n)) (sym wide)) value.carries);
        enable =
            let told : Tells p names g o.enable (λ c. host_writes p c a) = carries_on p names e g 1 o.enable _ (goes_on e f g second third) enable.carries in
            record {
              fits = told.fits;
              value_ = λ h s pins x signals m.
                  let c : Cycle = in_cycle x signals pins in
                  told.value_ h s pins x signals m ∙ sym (ap (λ b. bit (if b then host_writes p c a else is_some (array_at p a).first && holds c Initial)) host);
            };
      };
    }

-- the first contents
pub first_outside : (p : Plan) (names : List Register) (d e f : Netlist) (a bits depth_ : ℕ) (elements words : List ℕ) (o : Outside) → (array_at p a).host ≡ false → (array_at p a).first ≡ Some elements
    → bits ≡ (array_at p a).bits → depth_ ≡ depth p a → Tells p names d o.enable (λ c. holds c Initial) → MakesCarrying p names d e depth_ o.addr (λ (c : Cycle). c.regs Time % 2 ^ depth_) → AreWordsOf p a elements words
    → Makes e f bits o.value (λ v x. x ≡ get_or words (v o.addr) 0) → MakesOutside p names d f a o
first_outside p names d e f a bits depth_ elements words o host first wide deep enable addr are made =
    let one = appended d e addr.appends in
    let two = appended e f made.appends in
    record {
      appends = appends_both d e f addr.appends made.appends;
      begun = begun_after p names e f addr.begun made.appends made.sound;
      is = record {
        addr = subst (λ n. IsOtherAtom p names f n o.addr (λ c. outside_address p c a 0)) deep
            (carried_other p names f depth_ o.addr (λ (c : Cycle). c.regs Time % 2 ^ depth_) (λ c. outside_address p c a 0)
            (λ c. ap (λ h. if h then Some (address_of c.pins % 2 ^ depth p a) else (if is_some (array_at p a).first then Some (c.regs Time % 2 ^ depth p a) else None)) host
            ∙ (ap (λ o. if is_some o then Some (c.regs Time % 2 ^ depth p a) else None) first ∙ ap (λ n. Some (c.regs Time % 2 ^ n)) (sym deep))) (carries_on p names e f depth_ o.addr _ two addr.carries));
        value = subst (λ n. IsOtherAtom p names f n o.value (λ c. outside_word p c a 0)) wide (record {
          fits = made.shows.fits;
          value_ = λ h s pins x signals m.
              let c : Cycle = in_cycle x signals pins in
              let on_e = moment_same p names e f h s pins x two m in
              let t = c.regs Time % 2 ^ depth p a in
              let at : seen h s pins o.addr ≡ t = addr.carries.value_ h s pins x signals on_e ∙ ap (λ n. c.regs Time % 2 ^ n) deep in
              let word : seen h s pins o.value ≡ given_at (addresses (array_at p a).dims) elements t 0 =
              made.shows.value h s pins m.extends m.sound m.state m.pins_ ∙ (ap (λ k. get_or words k 0) at ∙ are.are t) in
              ap (λ h. if h then Some (data_of c.pins % 2 ^ (array_at p a).bits) else (if is_some (array_at p a).first then Some (first_word p c a) else None)) host
              ∙ (ap (λ o. if is_some o then Some (given_at (addresses (array_at p a).dims) (elements_or_none o) t 0) else None) first ∙ ap Some (sym word));
        });
        enable = record {
          fits = fits_later d f (goes_on d e f one two) 1 o.enable enable.fits;
          value_ = λ h s pins x signals m.
              let c : Cycle = in_cycle x signals pins in
              let on_d = moment_same p names d e h s pins x one (moment_same p names e f h s pins x two m) in
              enable.value_ h s pins x signals on_d
              ∙ sym (ap (λ b. bit (if b then host_writes p c a else is_some (array_at p a).first && holds c Initial)) host ∙ ap (λ o. bit (is_some o && holds c Initial)) first);
        };
      };
    }

-- none
pub none_outside : (p : Plan) (a : ℕ) → (array_at p a).host ≡ false → (array_at p a).first ≡ None → IsInside p a 0
none_outside p a host first = record {
  addr = λ c. ap (λ h. if h then Some (address_of c.pins % 2 ^ depth p a) else (if is_some (array_at p a).first then Some (c.regs Time % 2 ^ depth p a) else None)) host
      ∙ ap (λ o. if is_some o then Some (c.regs Time % 2 ^ depth p a) else None) first;
  value = λ c. ap (λ h. if h then Some (data_of c.pins % 2 ^ (array_at p a).bits) else (if is_some (array_at p a).first then Some (first_word p c a) else None)) host
      ∙ ap (λ o. if is_some o then Some (given_at (addresses (array_at p a).dims) (elements_or_none o) (c.regs Time % 2 ^ depth p a) 0) else None) first;
  enable = λ c. ap (λ b. if b then host_writes p c a else is_some (array_at p a).first && holds c Initial) host ∙ ap (λ o. is_some o && holds c Initial) first;
}

-- at all ports but the first there is none
pub inside_later : (p : Plan) (a n : ℕ) → 0 < n → IsInside p a n
inside_later p a zero h = absurd (omega (arith, h))
inside_later p a (suc n) h = record { addr = λ c. refl; value = λ c. refl; enable = λ c. refl }

-- ---- words of an array

given_below : (n : ℕ) (places xs : List ℕ) (address : ℕ) → 0 < n → All (λ w. w < n) xs → given_at places xs address 0 < n
given_below n [] [] address some h = some
given_below n [] (x ∷ xs) address some h = some
given_below n (q ∷ places) [] address some h = some
given_below n (q ∷ places) (x ∷ xs) address some h = chosen (q == address) (All-head (λ w. w < n) x xs h) (given_below n places xs address some (All-tail (λ w. w < n) x xs h)) where
  chosen : (b : Bool) → x < n → given_at places xs address 0 < n → (if b then x else given_at places xs address 0) < n
  chosen true this rest = this
  chosen false this rest = rest

-- elements that fit stand at their addresses
pub words_placed : (p : Plan) (place : Place) (m : Memory) (elements words : List ℕ) → IsPlace p place → slice_get p.arrays place.array.0 ≡ Some (array_of m) → All (λ w. w < 2 ^ m.bits) elements
    → length words ≡ 2 ^ place.depth → ((i : ℕ) → get_or words i 0 ≡ given_at (addresses m.dims.items) elements i 0) → AreWordsOf p place.array.0 elements words
words_placed p place m elements words is at fit count are =
    let there = array_there p place.array.0 (array_of m) at in
    let small : All (λ w. w < 2 ^ m.bits) words =
    λ k d inside. subst (λ w. w < 2 ^ m.bits) (sym (are k) ∙ sym (get_or_default_zero words k d inside)) (given_below (2 ^ m.bits) (addresses m.dims.items) elements k (pow_pos m.bits) fit) in
    record {
      count = count ∙ ap (λ k. 2 ^ k) is.depth_;
      fit = subst (λ (x : Array). All (λ w. w < 2 ^ x.bits) words) (sym there) small;
      are = λ i. are i ∙ ap (λ (x : Array). given_at (addresses x.dims) elements i 0) (sym there);
    }

-- ---- tables

-- the word at a table's port
pub table_read : (p : Plan) (names : List Register) (d e : Netlist) (a bits : ℕ) (elements words : List ℕ) (address word : Atom) → bits ≡ (array_at p a).bits → (array_at p a).table ≡ Some elements → AreWordsOf p a elements words
    → Makes d e bits word (λ v x. x ≡ get_or words (v address) 0) → ReadsWord p names e a address word
table_read p names d e a bits elements words address word wide is are made = record {
  fits = subst (λ n. HasBits (widths e) n word) wide made.shows.fits;
  value_ = λ f s pins x signals m.
      made.shows.value f s pins m.extends m.sound m.state m.pins_ ∙ (are.are (seen f s pins address)
      ∙ sym (ap (λ o. if is_some o then given_at (addresses (array_at p a).dims) (elements_or_none o) (seen f s pins address) 0 else x.memories a (seen f s pins address)) is));
}

-- nothing is stored at a port
pub nothing_stored : (p : Plan) (names : List Register) (d : Netlist) (a n bits : ℕ) (other : Atom) → ((c : Cycle) → stored_writes p c a n ≡ []) → ((c : Cycle) → outside_word p c a n ≡ None)
    → bits ≡ (array_at p a).bits → HasBits (widths d) bits other → CarriesWanted p names d (array_at p a).bits other (λ c. stored_writes p c a n) (λ c. outside_word p c a n)
nothing_stored p names d a n bits other h none wide fits = record {
  fits = subst (λ k. HasBits (widths d) k other) wide fits;
  value_ = λ e s pins x signals m.
      let c : Cycle = in_cycle x signals pins in
      subst (λ ws. Takes ws (outside_word p c a n) (seen e s pins other)) (sym (h c))
      (subst (λ o. Takes [] o (seen e s pins other)) (sym (none c)) (record { wanted = λ y any all. absurd (false≢true any); else_ = λ e. tt }));
}

-- at a table there is none
pub inside_of_table : (p : Plan) (a n : ℕ) → (array_at p a).host ≡ false → (array_at p a).first ≡ None → IsInside p a n
inside_of_table p a zero host first = none_outside p a host first
inside_of_table p a (suc n) host first = inside_later p a (suc n) (omega arith)
