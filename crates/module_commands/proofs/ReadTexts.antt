-- Texts that are read one after another: what is known between two of them.
use Rattle.std.proofs.Common.{◌≡◌, inr, ℕ, suc, ◌+◌, ◌<◌, ◌≤◌, List, [], ◌∷◌, ◌++◌, length, map, drop, get_or, refl, sym, ap, subst, ◌∙◌, append_assoc, append-nil, add-one, drop-cons}
use Rattle.std.specs.List.{All}
use Rattle.std.specs.declared.vec.Vec.{Vec}
use Rattle.std.specs.declared.alloc.Global.{Global}
use Rattle.std.proofs.lemmas.List.{drop_all, map-append}
use Rattle.std.proofs.lemmas.List.Elements.{All-cons, All-nil}
use Rattle.hls_base.specs.declared.refusal.Refusal.{Refusal}
use Rattle.rtl_core.specs.declared.design.Design.{Design}
use Rattle.rtl_core.specs.Netlist.{Netlist, netlist_of}
use Rattle.rtl_core.specs.Valid.{IsValid}
use Rattle.rtl_core.specs.ModuleText.{IsModuleText}
use Rattle.verilog_syntax.specs.TextSyntax.{limit}
use Rattle.module_commands.specs.Outcomes.{texts_of, IsModule, AreModules, IsFirstFault}

-- The texts behind `rest` have these circuits and no others.
pub record Between (whole rest : List (List ℕ)) (circuits : List Netlist) : Type 0 where
  pub modules : (ds : List Netlist) → AreModules rest ds → AreModules whole (circuits ++ ds)
  pub only : (ds : List Netlist) → AreModules whole ds → (others : List Netlist) × (ds ≡ circuits ++ others) × AreModules rest others
  pub refused : (r : Refusal) → IsFirstFault rest r → IsFirstFault whole r

pub at_start : (whole : List (List ℕ)) → Between whole whole []
at_start whole = record { modules = λ ds are. are; only = λ ds are. (ds, refl, are); refused = λ r fault. fault }

only_next : (rest : List (List ℕ)) (text : List ℕ) (circuits : List Netlist) (d : Netlist) (ds others : List Netlist)
    → ((e : Netlist) → IsModuleText text e → e ≡ d) → ds ≡ circuits ++ others → AreModules (text ∷ rest) others
    → (others : List Netlist) × (ds ≡ (circuits ++ d ∷ []) ++ others) × AreModules rest others
only_next rest text circuits d ds [] one same are = absurd are
only_next rest text circuits d ds (e ∷ es) one same are =
    (es, same ∙ (ap (λ x. circuits ++ x ∷ es) (one e are.0.is) ∙ sym (append_assoc circuits (d ∷ []) es)), are.1)

pub one_more : (whole rest : List (List ℕ)) (text : List ℕ) (circuits : List Netlist) (d : Netlist)
    → IsModule text d → ((e : Netlist) → IsModuleText text e → e ≡ d) → Between whole (text ∷ rest) circuits → Between whole rest (circuits ++ d ∷ [])
one_more whole rest text circuits d is one b = record {
  modules = λ ds are. subst (AreModules whole) (sym (append_assoc circuits (d ∷ []) ds)) (b.modules (d ∷ ds) (is, are));
  only = λ ds are. let found = b.only ds are in only_next rest text circuits d ds found.0 one found.1 found.2;
  refused = λ r fault. b.refused r (inr ((d, is), fault));
}

-- ---- texts by their index

rest_is : (texts : List (Vec ℕ Global)) (i : ℕ) (x : Vec ℕ Global) → i < length texts → x ≡ get_or texts i x → texts_of (drop i texts) ≡ x.items ∷ texts_of (drop (i + 1) texts)
rest_is texts i x lt is =
    ap texts_of (drop-cons texts i x lt) ∙ (ap (λ (y : Vec ℕ Global). y.items ∷ texts_of (drop (suc i) texts)) (sym is) ∙ ap (λ k. x.items ∷ texts_of (drop k texts)) (sym (add-one i)))

-- the text at the index, and those behind it
pub at_text : (texts : List (Vec ℕ Global)) (i : ℕ) (x : Vec ℕ Global) (text : List ℕ) (circuits : List Netlist)
    → i < length texts → x ≡ get_or texts i x → text ≡ x.items → Between (texts_of texts) (texts_of (drop i texts)) circuits → Between (texts_of texts) (text ∷ texts_of (drop (i + 1) texts)) circuits
at_text texts i x text circuits lt is same b =
    subst (λ rest. Between (texts_of texts) rest circuits) (rest_is texts i x lt is ∙ ap (λ y. y ∷ texts_of (drop (i + 1) texts)) (sym same)) b

pub next_text : (texts : List (Vec ℕ Global)) (i : ℕ) (text : List ℕ) (old new : List Design) (d : Design)
    → IsModule text (netlist_of d) → ((e : Netlist) → IsModuleText text e → e ≡ netlist_of d) → new ≡ old ++ d ∷ []
    → Between (texts_of texts) (text ∷ texts_of (drop (i + 1) texts)) (map netlist_of old) → Between (texts_of texts) (texts_of (drop (i + 1) texts)) (map netlist_of new)
next_text texts i text old new d is one grown b =
    let all = texts_of texts in
    let rest = texts_of (drop (i + 1) texts) in
    subst (Between all rest) (sym (ap (map netlist_of) grown ∙ map-append netlist_of old (d ∷ []))) (one_more all rest text (map netlist_of old) (netlist_of d) is one b)

pub at_end : (texts : List (Vec ℕ Global)) (i : ℕ) (circuits : List Netlist) → length texts ≤ i → Between (texts_of texts) (texts_of (drop i texts)) circuits → Between (texts_of texts) [] circuits
at_end texts i circuits le b = subst (λ rest. Between (texts_of texts) rest circuits) (ap texts_of (drop_all i texts le)) b

-- ---- all texts

pub all_read : (whole : List (List ℕ)) (circuits : List Netlist) → Between whole [] circuits → AreModules whole circuits
all_read whole circuits b = subst (AreModules whole) (append-nil circuits) (b.modules [] tt)

none_left : (circuits ds others : List Netlist) → ds ≡ circuits ++ others → AreModules [] others → ds ≡ circuits
none_left circuits ds [] same are = same ∙ append-nil circuits
none_left circuits ds (d ∷ others) same are = absurd are

pub only_read : (whole : List (List ℕ)) (circuits : List Netlist) → Between whole [] circuits → (ds : List Netlist) → AreModules whole ds → ds ≡ circuits
only_read whole circuits b ds are = let found = b.only ds are in none_left circuits ds found.0 found.1 found.2

pub no_text : (whole rest : List (List ℕ)) (text : List ℕ) (circuits : List Netlist)
    → Between whole (text ∷ rest) circuits → (length text ≤ limit → (d : Netlist) → IsModuleText text d → ⊥) → (ds : List Netlist) → AreModules whole ds → ⊥
no_text whole rest text circuits b none ds are = let found = b.only ds are in unread found.0 found.2
  where
    unread : (others : List Netlist) → AreModules (text ∷ rest) others → ⊥
    unread [] h = h
    unread (e ∷ es) h = none h.0.within e h.0.is

pub all_valid : (texts : List (List ℕ)) (designs : List Design) → AreModules texts (map netlist_of designs) → All (λ (d : Design). IsValid (netlist_of d)) designs
all_valid texts [] are = All-nil _
all_valid [] (d ∷ ds) are = absurd are
all_valid (text ∷ texts) (d ∷ ds) are = All-cons (λ (x : Design). IsValid (netlist_of x)) d ds are.0.is.valid (all_valid texts ds are.1)
