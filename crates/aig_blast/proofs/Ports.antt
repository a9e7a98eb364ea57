-- The words of a memory after the writes of its ports.
use Rattle.std.proofs.Common.{◌≡◌, ◌<◌, ◌≤◌, ◌+◌, ◌^◌, ◌==◌, ℕ, Bool, true, false, List, [], ◌∷◌, ◌++◌, cond, length, take, get_or, set, refl, sym, ap, ◌∙◌, subst, arith}
use Rattle.std.proofs.lemmas.List.{take_more, take_all, length-map, length-set}
use Rattle.std.proofs.lemmas.List.Elements.{All-same, All-get_or}
use Rattle.aig_graph.specs.Graphs.{literal, values}
use Rattle.aig_graph.specs.Making.{Gates, IsLiteral}
use Rattle.aig_graph.proofs.Growing.{goes_on}
use Rattle.aig_graph.specs.declared.memory.Write.{Write}
use Rattle.aig_graph.specs.Words.{MakesWords, AreWords, IsWrite, Writes, numbers, worded, words_after}
use Rattle.aig_graph.proofs.Making.{both}
use Rattle.rtl_core.specs.declared.design.Atom.{Atom}
use Rattle.rtl_core.specs.declared.design.Port.{Port}
use Rattle.rtl_core.specs.ClockStep.{written_words}
use Rattle.aig_blast.specs.declared.literals.Literals.{Literals}
use Rattle.aig_blast.specs.Literals.{literals_of, shown, AreOf}
use Rattle.aig_blast.specs.Ports.{IsWriteOf, PortIsWide, CanWrite, WritesAll}
use Rattle.aig_blast.proofs.Context.{atom_fits}
use Rattle.aig_blast.proofs.Nets.{single}

written_push : (v : Atom → ℕ) (ps : List Port) (p : Port) (xs : List ℕ)
    → written_words v (ps ++ p ∷ []) xs ≡ cond (v p.enable == 1) (set (written_words v ps xs) (v p.addr) (v p.value)) (written_words v ps xs)
written_push v [] p xs = refl
written_push v (q ∷ ps) p xs = written_push v ps p (cond (v q.enable == 1) (set xs (v q.addr) (v q.value)) xs)

after_shown : (w : List Bool) (t : Literals) (p : Port) (x : Write) (xs : List ℕ) → length (literals_of t p.enable) ≡ 1 → IsWriteOf t p x
    → words_after w x xs ≡ cond (shown t w p.enable == 1) (set xs (shown t w p.addr) (shown t w p.value)) xs
after_shown w t p x xs one is =
    ap (λ z. cond (literal w z) (set xs (worded w x.address.items) (worded w x.value.items)) xs) is.enable
    ∙ (ap (λ z. cond z (set xs (worded w x.address.items) (worded w x.value.items)) xs) (sym (single w (literals_of t p.enable) one))
    ∙ (ap (λ z. cond (shown t w p.enable == 1) (set xs (worded w z) (worded w x.value.items)) xs) is.address
    ∙ ap (λ z. cond (shown t w p.enable == 1) (set xs (shown t w p.addr) (worded w z)) xs) is.value))

after_length : (w : List Bool) (x : Write) (xs : List ℕ) → length (words_after w x xs) ≡ length xs
after_length w x xs = by (literal w x.enable) where
  by : (b : Bool) → length (cond b (set xs (worded w x.address.items) (worded w x.value.items)) xs) ≡ length xs
  by b = elim b as (λ z. length (cond z (set xs (worded w x.address.items) (worded w x.value.items)) xs) ≡ length xs) [ true ↦ length-set xs (worded w x.address.items) (worded w x.value.items) | false ↦ refl ]

-- the literals of a write are those of the graph
pub write_fits : (e : Gates) (t : Literals) (p : Port) (x : Write) → AreOf e t → length (literals_of t p.enable) ≡ 1 → IsWriteOf t p x → IsWrite e x
write_fits e t p x fits one is = record {
  enable = subst (IsLiteral e) (sym is.enable) (All-get_or (IsLiteral e) (literals_of t p.enable) 0 0 (omega arith) (atom_fits e t fits p.enable));
  address = All-same (IsLiteral e) x.address.items (literals_of t p.addr) is.address (atom_fits e t fits p.addr);
  value = All-same (IsLiteral e) x.value.items (literals_of t p.value) is.value (atom_fits e t fits p.value);
}

-- one port's write as that of the circuit
write_step : (d e : Gates) (t : Literals) (p : Port) (x : Write) (words lss : List (List ℕ)) (n : ℕ) → length x.value.items ≡ n → length (literals_of t p.enable) ≡ 1 → IsWriteOf t p x → Writes d e words x (length words) lss
    → MakesWords d e lss (length words) n (λ w lss. numbers w lss ≡ cond (shown t w p.enable == 1) (set (numbers w words) (shown t w p.addr) (shown t w p.value)) (numbers w words))
write_step d e t p x words lss n wide one is m = record {
  extends = m.extends;
  sound = m.sound;
  count = m.count;
  words = subst (λ z. AreWords e z lss) wide m.words;
  value = λ g bs y same.
      (let w = values (false ∷ bs) g.ands in
      m.value g bs y same ∙ (take_all (length words) (words_after w x (numbers w words)) (let a = after_length w x (numbers w words) in let b = length-map words (worded w) in omega arith)
      ∙ after_shown w t p x (numbers w words) one is));
}

pub first_written : (d e : Gates) (t : Literals) (ports : List Port) (p : Port) (x : Write) (words lss : List (List ℕ)) (n depth : ℕ) → CanWrite d t ports words n depth → p ≡ get_or ports 0 p → IsWriteOf t p x
    → Writes d e words x (length words) lss → WritesAll d e t (take 1 ports) words n lss
first_written d e t ports p x words lss n depth can is w_is m =
    let some : 0 < length ports = can.some in
    let wide = subst (PortIsWide t n depth) (sym is) (can.ports 0 p some) in
    let one : take 1 ports ≡ p ∷ [] = take_more ports 0 p some ∙ ap (λ z. z ∷ []) (sym is) in
    subst (λ z. WritesAll d e t z words n lss) (sym one) (write_step d e t p x words lss n (ap length w_is.value ∙ wide.value) wide.enable w_is m)

pub next_written : (d e f : Gates) (t : Literals) (ports : List Port) (p : Port) (x : Write) (words left now lss : List (List ℕ)) (n depth i : ℕ) → CanWrite d t ports words n depth → i < length ports → p ≡ get_or ports i p
    → IsWriteOf t p x → WritesAll d e t (take i ports) words n left → now ≡ left → Writes e f now x (length now) lss → WritesAll d f t (take (i + 1) ports) words n lss
next_written d e f t ports p x words left now lss n depth i can h is w_is inv now_is m' =
    let m = subst (λ z. Writes e f z x (length z) lss) now_is m' in
    let wide = subst (PortIsWide t n depth) (sym is) (can.ports i p h) in
    let more : take (i + 1) ports ≡ take i ports ++ p ∷ [] = take_more ports i p h ∙ ap (λ z. take i ports ++ z ∷ []) (sym is) in
    let s = write_step e f t p x left lss n (ap length w_is.value ∙ wide.value) wide.enable w_is m in
    record {
      extends = goes_on d e f inv.extends s.extends;
      sound = s.sound;
      count = s.count ∙ inv.count;
      words = s.words;
      value = both e f (λ w. numbers w left ≡ written_words (shown t w) (take i ports) (numbers w words))
          (λ w. numbers w lss ≡ cond (shown t w p.enable == 1) (set (numbers w left) (shown t w p.addr) (shown t w p.value)) (numbers w left))
          (λ w. numbers w lss ≡ written_words (shown t w) (take (i + 1) ports) (numbers w words)) s.extends inv.value s.value
          (λ w c a b. b ∙ (ap (λ z. cond (shown t w p.enable == 1) (set z (shown t w p.addr) (shown t w p.value)) z) a
          ∙ (sym (written_push (shown t w) (take i ports) p (numbers w words)) ∙ ap (λ z. written_words (shown t w) z (numbers w words)) (sym more))));
    }

pub all_written : (d e : Gates) (t : Literals) (ports : List Port) (words lss : List (List ℕ)) (n i : ℕ) → length ports ≤ i → WritesAll d e t (take i ports) words n lss → WritesAll d e t ports words n lss
all_written d e t ports words lss n i h m = subst (λ z. WritesAll d e t z words n lss) (take_all i ports h) m

pub words_wide : (e : Gates) (t : Literals) (p : Port) (x : Write) (words : List (List ℕ)) (n depth : ℕ) → PortIsWide t n depth p → IsWriteOf t p x → AreWords e n words → AreWords e (length x.value.items) words
words_wide e t p x words n depth wide is h = subst (λ z. AreWords e z words) (sym (ap length is.value ∙ wide.value)) h

pub count_fits : (t : Literals) (p : Port) (x : Write) (m n depth : ℕ) → PortIsWide t n depth p → IsWriteOf t p x → m ≡ 2 ^ depth → m ≤ 2 ^ length x.address.items
count_fits t p x m n depth wide is h = subst (λ z. m ≤ 2 ^ z) (sym (ap length is.address ∙ wide.address)) (omega arith)
