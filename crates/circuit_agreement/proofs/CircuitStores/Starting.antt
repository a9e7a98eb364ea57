-- The cycle of a start, and the initial sequence.
use Rattle.std.proofs.Common.{◌≡◌, ℕ, zero, suc, ◌+◌, ◌%◌, ◌^◌, ◌<◌, ◌≤◌, true, false, List, [], ◌∷◌, map, length, get_or, Option, Some, is_some, min, sym, ap, ap₂, ◌∙◌, inl, inr, arith, mod-eq_of_lt}
use Rattle.std.specs.Prelude.{slice_get, filter, take, cond, count_by, ◌==◌}
use Rattle.std.proofs.lemmas.Bool.{cases_Bool, cases_eq, and_from, and_left, and_right, not_from_true, eq-eqb, ne_eqb, cond-true, cond-false, false≢true}
use Rattle.std.proofs.lemmas.Option.{slice_get_within}
use Rattle.std.proofs.lemmas.List.Sums.{sum_by-cons}
use Rattle.hls_base.specs.ArrayAddress.{addresses}
use Rattle.hls_base.specs.declared.number.Kept.{Kept}
use Rattle.ir_core.specs.FirstContents.{given_at, elements_or_none}
use Rattle.clock_runs.proofs.Lists.{no_some}
use Rattle.datapath.specs.Plans.{Plan, Array, no_array, array_at, depth, cycles_for, initial_cycles}
use Rattle.datapath.specs.Cycles.{Ready, Initial, Time, Variable, Contents, Cycle, in_cycle, holds, resets, starts}
use Rattle.datapath.specs.Control.{is_taken}
use Rattle.datapath.specs.Ports.{first_word, outside_address, outside_word, outside_writes, port_count}
use Rattle.datapath.specs.Answers.{HoldsArrays}
use Rattle.circuit_agreement.specs.CircuitFlow.Compiled.{IsCompiled}
use Rattle.circuit_agreement.specs.CircuitStores.HeldWords.{words_in}
use Rattle.circuit_agreement.specs.CircuitStores.{RunsBegin, FillingBegins, FillingGoesOn, FillingEnds}
use Rattle.circuit_agreement.proofs.CircuitStores.Lists.{first_most, each_most, same_map}
use Rattle.circuit_agreement.proofs.CircuitStores.Quiet.{off, on, unreset}
use Rattle.circuit_agreement.proofs.CircuitStores.Elements.{given_elements, get_within, mapped_get}
use Rattle.circuit_agreement.proofs.CircuitStores.Hosts.{rising, host_array, file_array}
use Rattle.circuit_agreement.proofs.CircuitStores.Outside.{IsResting, unchanged, changed}
use Rattle.circuit_agreement.proofs.CircuitStores.Ports.{none_writes}
use Rattle.circuit_agreement.proofs.CircuitStores.Shown.{shown_plain, same_elements, words_kept, no_writes}
use Rattle.circuit_agreement.proofs.CircuitStores.Variables.{stays, none_kept, no_parameter, takes_argument, takes_first}

-- ---- a start

pub same_contents : (p : Plan) (file_scope : _) (arrays : List (List ℕ)) (x y : Contents) → ((k : ℕ) (s : Kept) → slice_get p.kept k ≡ Some s → y.regs (Variable s.variable.0) ≡ x.regs (Variable s.variable.0))
    → ((a address : ℕ) → y.memories a address ≡ x.memories a address) → HoldsArrays p file_scope arrays (words_in p x) → HoldsArrays p file_scope arrays (words_in p y)
same_contents p file_scope arrays x y kept same h = record {
  scalars = λ k s at_. kept k s at_ ∙ h.scalars k s at_;
  host = λ a low. same_map (addresses (array_at p a).dims) ((words_in p y).memories a) ((words_in p x).memories a) (words_kept p x y a (same a)) ∙ h.host a low;
  file = λ a first is. same_map (addresses (array_at p a).dims) ((words_in p y).memories a) ((words_in p x).memories a) (words_kept p x y a (same a)) ∙ h.file a first is;
}

pub runs_begin : RunsBegin
runs_begin p done file_scope arrays x y pins k unset start waiting h step =
    let c : Cycle = in_cycle x step.signals pins in
    let rest : IsResting c = record { active = waiting.still.active; unset = unreset pins unset } in
    let started : starts c ≡ true = ap (λ n. n == 1) start in
    let taken : is_taken c ≡ true = and_from _ _ (on c Ready waiting.ready) started in
    let uninitial : holds c Initial ≡ false = off c Initial waiting.initial in
    let none : (a : ℕ) → outside_writes p c a 0 ≡ false = λ a. no_writes p c a (and_right (holds c Ready) _ (not_from_true _ started)) uninitial in
    record {
      arguments = λ n v at_. takes_argument p c step.is_cycle rest y step.is_after k uninitial taken n v at_;
      holds = same_contents p file_scope arrays x y
          (λ n s at_. stays p c step.is_cycle rest y step.is_after s.variable.0
          (no_parameter p c step.is_cycle rest y step.is_after s.variable.0 (λ m v there. k.frame.apart m n v s there at_))
          (none_kept p c step.is_cycle rest y step.is_after s.variable.0 uninitial))
          (λ a address. step.is_after.memories a address ∙ unchanged p c step.is_cycle rest a (none a) address) h;
    }

-- ---- the initial sequence

pub filling_begins : FillingBegins
filling_begins p arrays x y pins set h step =
    let c : Cycle = in_cycle x step.signals pins in
    let set_ : resets c ≡ true = ap (λ r. r == 1) set in
    let same : (a address : ℕ) → y.memories a address ≡ x.memories a address = λ a address.
    step.is_after.memories a address
    ∙ none_writes p c a address 0 (port_count p a) (c.memories a) (λ m low high w. false≢true (sym (and_right _ _ (not_from_true _ set_)) ∙ w.enabled)) in
    record {
      hosts = λ a low. same_map (addresses (array_at p a).dims) ((words_in p y).memories a) ((words_in p x).memories a) (words_kept p x y a (same a)) ∙ h a low;
      files = λ a address first is low under. absurd (omega (arith, low));
      kept = λ low n s at_. absurd (omega (arith, low));
    }

pub filling_goes_on : FillingGoesOn
filling_goes_on p arrays time x y pins k unset seq h step =
    let c : Cycle = in_cycle x step.signals pins in
    let rest : IsResting c = record { active = seq.active; unset = unreset pins unset } in
    let initial : holds c Initial ≡ true = on c Initial seq.initial in
    let unready : holds c Ready ≡ false = off c Ready seq.ready in
    record {
      hosts = λ a low.
          let host = (host_array p k a low).host in
          let none : outside_writes p c a 0 ≡ false = cond-true _ _ _ host ∙ and_left _ _ (and_left _ _ unready) in
          same_map (addresses (array_at p a).dims) ((words_in p y).memories a) ((words_in p x).memories a)
          (words_kept p x y a (λ address. step.is_after.memories a address ∙ unchanged p c step.is_cycle rest a none address))
          ∙ h.hosts a low;
      files = λ a address first is low under.
          let it = file_array p k a first is in
          let some : is_some (array_at p a).first ≡ true = ap is_some is in
          let size : ℕ = 2 ^ depth p a in
          let at_ : ℕ = c.regs Time % size in
          let writes : outside_writes p c a 0 ≡ true = cond-false _ _ _ it.unreached ∙ and_from _ _ some initial in
          let address_ : outside_address p c a 0 ≡ Some at_ = cond-false _ _ _ it.unreached ∙ cond-true _ _ _ some in
          let word_ : outside_word p c a 0 ≡ Some (first_word p c a) = cond-false _ _ _ it.unreached ∙ cond-true _ _ _ some in
          let now : at_ ≡ time % size = ap (λ t. t % size) seq.time in
          step.is_after.memories a address
          ∙ (changed p c step.is_cycle rest a at_ (first_word p c a) writes address_ word_ address
          ∙ elim (cases_eq at_ address) [
            | inl here ↦
                cond-true _ _ _ (eq-eqb at_ address here)
                ∙ (ap (λ (o : Option (List ℕ)). given_at (addresses (array_at p a).dims) (elements_or_none o) at_ 0) is ∙ ap (λ q. given_at (addresses (array_at p a).dims) first q 0) here)
            | inr other ↦
                cond-false _ _ _ (ne_eqb at_ address other)
                ∙ elim (cases_eq address time) [
                  | inl last ↦ absurd (other (now ∙ (ap (λ t. t % size) (sym last) ∙ mod-eq_of_lt under)))
                  | inr before ↦ h.files a address first is (omega (arith, low, before)) under
                ]
          ]);
      kept = λ low n s at_. takes_first p c step.is_cycle rest y step.is_after k initial (and_left _ _ unready) n s at_;
    }

-- ---- behind the sequence

-- the arrays of file scope, by number
file_at : (xs : List Array) (a : ℕ) (first : List ℕ) → (get_or xs a no_array).first ≡ Some first
    → get_or (map (λ (b : Array). elements_or_none b.first) (filter (λ (b : Array). is_some b.first) xs)) (count_by (λ (b : Array). is_some b.first) (take a xs)) [] ≡ first
file_at [] a first e = absurd (no_some e)
file_at (x ∷ xs) zero first e =
    ap (λ (l : List Array). get_or (map (λ (b : Array). elements_or_none b.first) l) 0 []) (cond-true _ _ _ (ap is_some e)) ∙ ap elements_or_none e
file_at (x ∷ xs) (suc a) first e =
    elim (cases_Bool (is_some x.first)) [
      | inl yes_ ↦
          let count : count_by (λ (b : Array). is_some b.first) (take (suc a) (x ∷ xs)) ≡ suc (count_by (λ (b : Array). is_some b.first) (take a xs)) =
          sum_by-cons (λ (b : Array). cond (is_some b.first) 1 0) x (take a xs) ∙ (ap (λ n. n + count_by (λ (b : Array). is_some b.first) (take a xs)) (cond-true (is_some x.first) 1 0 yes_) ∙ (let z : 1 + count_by (λ (b : Array). is_some b.first) (take a xs) ≡ suc (count_by (λ (b : Array). is_some b.first) (take a xs)) = omega arith in z)) in
          ap₂ (λ (l : List Array) (n : ℕ). get_or (map (λ (b : Array). elements_or_none b.first) l) n []) (cond-true _ _ _ yes_) count ∙ file_at xs a first e
      | inr no_ ↦
          let count : count_by (λ (b : Array). is_some b.first) (take (suc a) (x ∷ xs)) ≡ count_by (λ (b : Array). is_some b.first) (take a xs) =
          sum_by-cons (λ (b : Array). cond (is_some b.first) 1 0) x (take a xs) ∙ (ap (λ n. n + count_by (λ (b : Array). is_some b.first) (take a xs)) (cond-false (is_some x.first) 1 0 no_) ∙ (let z : 0 + count_by (λ (b : Array). is_some b.first) (take a xs) ≡ count_by (λ (b : Array). is_some b.first) (take a xs) = omega arith in z)) in
          ap₂ (λ (l : List Array) (n : ℕ). get_or (map (λ (b : Array). elements_or_none b.first) l) n []) (cond-false _ _ _ no_) count ∙ file_at xs a first e
    ]

some_kept : (p : Plan) (n : ℕ) (s : Kept) → slice_get p.kept n ≡ Some s → 0 < initial_cycles p
some_kept p n s at_ =
    let within = slice_get_within p.kept n s at_ in
    let one : 1 ≤ min 1 (length p.kept) = omega (arith, within) in
    let more = first_most cycles_for (min 1 (length p.kept)) p.arrays in
    omega (arith, one, more)

all_filled : (p : Plan) (k : IsCompiled p) (a : ℕ) (first : List ℕ) → (array_at p a).first ≡ Some first → 2 ^ depth p a ≤ initial_cycles p
all_filled p k a first is =
    let it = file_array p k a first is in
    let own : cycles_for (array_at p a) ≡ 2 ^ depth p a = cond-true _ _ _ (ap is_some is) in
    let more = each_most cycles_for (min 1 (length p.kept)) p.arrays (array_at p a) (record { place = a; there = it.there }) in
    omega (arith, own, more)

pub filling_ends : FillingEnds
filling_ends p arrays x k h = record {
  scalars = λ n s at_. h.kept (some_kept p n s at_) n s at_ ∙ sym (get_within (map (λ (z : Kept). z.value) p.kept) n 0 s.value (mapped_get (λ (z : Kept). z.value) p.kept n s at_));
  host = h.hosts;
  file = λ a first is.
      let it = file_array p k a first is in
      let enough = all_filled p k a first is in
      same_elements p k a ((words_in p x).memories a) (λ (q : ℕ). given_at (addresses (array_at p a).dims) first q 0)
      (λ address under. shown_plain p x a address it.plain ∙ h.files a address first is (omega (arith, under, enough)) under)
      ∙ (given_elements 0 (2 ^ depth p a) (addresses (array_at p a).dims) first (rising p k a) it.full ∙ sym (file_at p.arrays a first is));
}
