-- A linked circuit keeps what is promised of it.
use Rattle.std.proofs.Common.{◌≡◌, ℕ, List, [], ◌∷◌, map, None, Option, refl, sym, subst}
use Rattle.std.specs.List.{All, AllByRecursion}
use Rattle.std.proofs.lemmas.List.Elements.{All-nil, All-cons, All-head, All-tail}
use Rattle.rtl_core.specs.declared.design.Mem.{Mem}
use Rattle.rtl_core.specs.declared.design.Design.{Design}
use Rattle.rtl_core.specs.Netlist.{Netlist, memory_of, netlist_of}
use Rattle.rtl_core.specs.Valid.{IsValid}
use Rattle.chain_box.proofs.Composing.{agreeing_composes}
use Rattle.chain_box.proofs.Meaning.{agreeing_always_composes}
use Rattle.chain_link.specs.Queues.{HasLog}
use Rattle.chain_link.specs.Linking.{linked}
use Rattle.chain_link.specs.Faults.{AreFew, AreStages}
use Rattle.chain_link.specs.Laws.{IsLinked}
use Rattle.chain_link.proofs.Shaped.{stages_shaped, first_bits}
use Rattle.chain_link.proofs.Whole.{linked_pins, linked_valid}
use Rattle.chain_link.proofs.Following.{agrees}

keeps_all : (depth log : ℕ) (ds : List Netlist) → HasLog depth log → AreFew ds → AreStages None ds → AllByRecursion IsValid ds → IsLinked ds depth (linked depth log ds)
keeps_all depth log ds has few stages valid =
    let shapes = stages_shaped ds stages valid in
    let bits = first_bits ds few.0 stages valid in
    record {
      valid = linked_valid depth log has ds bits shapes;
      name = refl;
      pins = linked_pins depth log ds bits;
      agrees = agrees depth log has ds bits shapes;
      composes = λ boxes results are come. agreeing_composes (linked depth log ds) depth boxes results (agrees depth log has ds bits shapes boxes are) come;
      always = λ boxes results are come answers. agreeing_always_composes (linked depth log ds) depth boxes results (agrees depth log has ds bits shapes boxes are) come answers;
    }

all_valid : (stages : List Design) → All (λ (d : Design). IsValid (netlist_of d)) stages → AllByRecursion IsValid (map netlist_of stages)
all_valid [] h = tt
all_valid (d ∷ ds) h = let P : Design → Type 0 = λ x. IsValid (netlist_of x) in (All-head P d ds h, all_valid ds (All-tail P d ds h))

pub is_linked : (depth : ℕ) (stages : List Design) (d : Netlist) → All (λ (d : Design). IsValid (netlist_of d)) stages → AreFew (map netlist_of stages) → AreStages None (map netlist_of stages)
    → (log : ℕ) × HasLog depth log × (d ≡ linked depth log (map netlist_of stages)) → IsLinked (map netlist_of stages) depth d
is_linked depth stages d valid few are h = subst (λ x. IsLinked (map netlist_of stages) depth x) (sym h.2) (keeps_all depth h.0 (map netlist_of stages) h.1 few are (all_valid stages valid))

no_memories : (ms : List Mem) → map memory_of ms ≡ [] → ms ≡ []
no_memories [] e = refl
no_memories (m ∷ ms) e = absurd (cc)

pub without_memories : (before : Option ℕ) (stages : List Design) → AreStages before (map netlist_of stages) → All (λ (d : Design). d.mems.items ≡ []) stages
without_memories before [] h = All-nil (λ (d : Design). d.mems.items ≡ [])
without_memories before (d ∷ ds) h = All-cons (λ (d : Design). d.mems.items ≡ []) d ds (no_memories d.mems.items h.0.mems) (without_memories _ ds h.1)
