-- Contents as they are shown while no node is under way.
use Rattle.std.proofs.Common.{◌≡◌, ℕ, ◌^◌, ◌<◌, Bool, true, false, not, List, Option, Some, None, is_some, sym, ap, ◌∙◌}
use Rattle.std.specs.Prelude.{◌&&◌, if◌then◌else◌}
use Rattle.std.proofs.lemmas.Bool.{and_left, and_right, cond-true, cond-false}
use Rattle.hls_base.specs.ArrayAddress.{addresses}
use Rattle.ir_core.specs.FirstContents.{given_at, elements_or_none}
use Rattle.datapath.specs.Plans.{Plan, array_at, depth}
use Rattle.datapath.specs.Cycles.{Ready, Initial, Contents, Cycle, in_cycle, holds, starts}
use Rattle.datapath.specs.Ports.{host_writes, outside_writes}
use Rattle.datapath.specs.Answers.{elements}
use Rattle.circuit_agreement.specs.CircuitFlow.Compiled.{IsCompiled}
use Rattle.circuit_agreement.specs.CircuitStores.HeldWords.{words_in}
use Rattle.circuit_agreement.specs.CircuitStores.{LoadingKeepsArrays, WordsAreHeld, ContentsAreShown}
use Rattle.circuit_agreement.proofs.CircuitStores.Lists.{map_same}
use Rattle.circuit_agreement.proofs.CircuitStores.Quiet.{off, unreset}
use Rattle.circuit_agreement.proofs.CircuitStores.Elements.{rising_within}
use Rattle.circuit_agreement.proofs.CircuitStores.Hosts.{rising, host_array, file_array}
use Rattle.circuit_agreement.proofs.CircuitStores.Outside.{IsResting, unchanged}

-- ---- words

pub shown_plain : (p : Plan) (x : Contents) (a address : ℕ) → (array_at p a).table ≡ None → (words_in p x).memories a address ≡ x.memories a address
shown_plain p x a address plain = cond-false _ _ _ (ap is_some plain)

pub shown_table : (p : Plan) (x : Contents) (a address : ℕ) (words : List ℕ) → (array_at p a).table ≡ Some words
    → (words_in p x).memories a address ≡ given_at (addresses (array_at p a).dims) words address 0
shown_table p x a address words is =
    cond-true _ _ _ (ap is_some is) ∙ ap (λ (o : Option (List ℕ)). given_at (addresses (array_at p a).dims) (elements_or_none o) address 0) is

pub words_are_held : WordsAreHeld
words_are_held p x = record { words = λ a address plain low. sym (shown_plain p x a address plain); tables = λ a address words is low. shown_table p x a address words is }

-- elements stand at addresses that the array has
pub same_elements : (p : Plan) (k : IsCompiled p) (a : ℕ) (f g : ℕ → ℕ) → ((address : ℕ) → address < 2 ^ depth p a → f address ≡ g address) → elements (array_at p a) f ≡ elements (array_at p a) g
same_elements p k a f g h =
    map_same f g (addresses (array_at p a).dims) (λ address at_. h address (rising_within 0 (2 ^ depth p a) (addresses (array_at p a).dims) at_.place address (rising p k a) at_.there).1)

pub contents_are_shown : ContentsAreShown
contents_are_shown p file_scope arrays t x k words kept h = record {
  scalars = λ n s at_. kept n s at_ ∙ h.scalars n s at_;
  host = λ a low.
      same_elements p k a ((words_in p x).memories a) (t.memories a) (λ address under.
      shown_plain p x a address (host_array p k a low).plain ∙ words.words a address (host_array p k a low).plain under)
      ∙ h.host a low;
  file = λ a first is.
      same_elements p k a ((words_in p x).memories a) (t.memories a) (λ address under.
      shown_plain p x a address (file_array p k a first is).plain ∙ words.words a address (file_array p k a first is).plain under)
      ∙ h.file a first is;
}

-- ---- cycles in which nothing is written

same_shown : (b : Bool) (w u v : ℕ) → u ≡ v → (if b then w else u) ≡ (if b then w else v)
same_shown b w u v e = ap (λ z. if b then w else z) e

pub words_kept : (p : Plan) (x y : Contents) (a : ℕ) → ((address : ℕ) → y.memories a address ≡ x.memories a address) → (address : ℕ) → (words_in p y).memories a address ≡ (words_in p x).memories a address
words_kept p x y a h address = same_shown (is_some (array_at p a).table) _ (y.memories a address) (x.memories a address) (h address)

pub no_writes : (p : Plan) (c : Cycle) (a : ℕ) → (holds c Ready && not (starts c)) ≡ false → holds c Initial ≡ false → outside_writes p c a 0 ≡ false
no_writes p c a unready uninitial = by_host (array_at p a).host
  where
    by_host : (b : Bool) → (if b then host_writes p c a else is_some (array_at p a).first && holds c Initial) ≡ false
    by_host true = and_left _ _ unready
    by_host false = and_right (is_some (array_at p a).first) _ uninitial

pub loading_keeps : LoadingKeepsArrays
loading_keeps p i memories x y pins unset loading h step =
    let c : Cycle = in_cycle x step.signals pins in
    let rest : IsResting c = record { active = loading.active; unset = unreset pins unset } in
    let none : (a : ℕ) → outside_writes p c a 0 ≡ false = λ a. no_writes p c a (and_left _ _ (off c Ready loading.busy.ready)) (off c Initial loading.busy.initial) in
    record {
      words = λ a address plain low. step.is_after.memories a address ∙ (unchanged p c step.is_cycle rest a (none a) address ∙ h.words a address plain low);
      tables = h.tables;
    }
