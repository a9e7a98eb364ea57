-- Words of variables that follow one another.
use Rattle.std.proofs.Common.{◌≡◌, ◌<◌, ◌≤◌, ◌+◌, ◌*◌, ◌^◌, ℕ, suc, zero, List, [], ◌∷◌, ◌++◌, Vec, Global, map, length, take, sum, replicate, get_or, sym, ap, ◌∙◌, subst, arith}
use Rattle.std.specs.List.{All, flat_map, sum_by}
use Rattle.std.proofs.lemmas.List.Elements.{All-nil, All-cons, All-head, All-tail, All-from_get_or}
use Rattle.std.proofs.lemmas.List.{append-nil, map_push, take_more, take_all, length-map, get_or-map, get_or-replicate, length-replicate, nil_from_length}
use Rattle.std.proofs.lemmas.List.Sums.{sum_by_more, sum_by_more_le}
use Rattle.std.proofs.lemmas.Grind.{flat_map-append}
use Rattle.aig_graph.specs.Making.{Gates, IsLiteral, no_gates}
use Rattle.aig_graph.specs.Words.{HasLength, numbers}
use Rattle.rtl_core.specs.declared.design.Mem.{Mem}
use Rattle.rtl_core.specs.Netlist.{Netlist, Memory, memory_of}
use Rattle.rtl_core.specs.ClockStep.{input_widths, register_widths}
use Rattle.aig_blast.specs.declared.literals.Literals.{Literals}
use Rattle.aig_blast.specs.Weight.{memory_size, bit_count}
use Rattle.aig_blast.specs.Literals.{literals_from, joined, all_words, IsBank, AreBanks, AreGiven, IsBlasted}
use Rattle.aig_blast.proofs.Bits.{from_length}
use Rattle.aig_blast.proofs.Sizes.{mem_size, mapped_sum}

pub literals_append : (n k m : ℕ) → literals_from n (k + m) ≡ literals_from n k ++ literals_from (n + k) m
literals_append n zero m =
    let a : zero + m ≡ m = omega arith in
    let b : n ≡ n + 0 = omega arith in
    ap (literals_from n) a ∙ ap (λ z. literals_from z m) b
literals_append n (suc k) m =
    let a : suc k + m ≡ suc (k + m) = omega arith in
    let b : suc n + k ≡ n + suc k = omega arith in
    ap (literals_from n) a ∙ ap (λ z. 2 * n ∷ z) (literals_append (suc n) k m ∙ ap (λ z. literals_from (suc n) k ++ literals_from z m) b)

pub literal_more : (n k : ℕ) (before after : List ℕ) → before ≡ literals_from n k → after ≡ before ++ 2 * (n + k) ∷ [] → after ≡ literals_from n (k + 1)
literal_more n k before after e f = f ∙ (ap (λ z. z ++ 2 * (n + k) ∷ []) e ∙ sym (literals_append n k 1))

pub record AreFresh (first : ℕ) (widths : List ℕ) (k next : ℕ) (lss : List (List ℕ)) : Type 0 where
  pub at : next ≡ first + sum (take k widths)
  pub lengths : map length lss ≡ take k widths
  pub all : joined lss ≡ literals_from first (sum (take k widths))

pub fresh_more : (first : ℕ) (widths : List ℕ) (k next : ℕ) (lss mss : List (List ℕ)) (ls : List ℕ) (later : ℕ) → AreFresh first widths k next lss → k < length widths → ls ≡ literals_from next (get_or widths k 0) → mss ≡ lss ++ ls ∷ []
    → later ≡ next + get_or widths k 0 → AreFresh first widths (k + 1) later mss
fresh_more first widths k next lss mss ls later inv h is pushed grown =
    let n = get_or widths k 0 in
    let s = sum (take k widths) in
    let more : sum (take (k + 1) widths) ≡ s + n = sum_by_more (λ z. z) widths k 0 h in
    let at : next ≡ first + s = inv.at in
    record {
      at = (omega (arith, more, at, grown));
      lengths = ap (map length) pushed ∙ (map_push length lss ls ∙ (ap (λ z. z ++ length ls ∷ []) inv.lengths ∙ (ap (λ z. take k widths ++ z ∷ []) (ap length is ∙ from_length next n) ∙ sym (take_more widths k 0 h))));
      all =
          ap joined pushed ∙ (flat_map-append (λ (z : List ℕ). z) lss (ls ∷ []) ∙ (ap (λ z. joined lss ++ z) (append-nil ls ∙ (is ∙ ap (λ z. literals_from z n) at))
          ∙ (ap (λ z. z ++ literals_from (first + s) n) inv.all ∙ (sym (literals_append first s n) ∙ ap (literals_from first) (sym more)))));
    }

pub fresh_begins : (first : ℕ) (widths : List ℕ) (lss : List (List ℕ)) → lss ≡ [] → AreFresh first widths 0 first lss
fresh_begins first widths lss e = record { at = (omega arith); lengths = ap (map length) e; all = ap joined e }

pub lengths_whole : (first : ℕ) (widths : List ℕ) (k next : ℕ) (lss : List (List ℕ)) → length widths ≤ k → AreFresh first widths k next lss → map length lss ≡ widths
lengths_whole first widths k next lss h f = f.lengths ∙ take_all k widths h

pub joined_whole : (first : ℕ) (widths : List ℕ) (k next : ℕ) (lss : List (List ℕ)) → length widths ≤ k → AreFresh first widths k next lss → joined lss ≡ literals_from first (sum widths)
joined_whole first widths k next lss h f = f.all ∙ ap (λ z. literals_from first (sum z)) (take_all k widths h)

-- ---- widths

pub widths_more : (X : Type 0) (f : X → ℕ) (xs : List X) (k : ℕ) (x : X) (ws after : List ℕ) → ws ≡ map f (take k xs) → k < length xs → after ≡ ws ++ f (get_or xs k x) ∷ [] → after ≡ map f (take (k + 1) xs)
widths_more X f xs k x ws after e h pushed = pushed ∙ (ap (λ z. z ++ f (get_or xs k x) ∷ []) e ∙ (sym (map_push f (take k xs) (get_or xs k x)) ∙ ap (map f) (sym (take_more xs k x h))))

pub widths_whole : (X : Type 0) (f : X → ℕ) (xs : List X) (k : ℕ) (ws : List ℕ) → length xs ≤ k → ws ≡ map f (take k xs) → ws ≡ map f xs
widths_whole X f xs k ws h e = e ∙ ap (map f) (take_all k xs h)

-- ---- memories

pub bank_is : (m : Memory) (n : ℕ) (ws : List ℕ) (lss : List (List ℕ)) → map length lss ≡ ws → ws ≡ replicate n m.bits → n ≡ 2 ^ m.depth_log → IsBank m lss
bank_is m n ws lss lengths alike depth =
    let same : map length lss ≡ replicate n m.bits = lengths ∙ alike in
    let count : length lss ≡ n = sym (length-map lss length) ∙ (ap length same ∙ length-replicate {A = ℕ} n m.bits) in
    record {
      count = count ∙ depth;
      wide =
          All-from_get_or (HasLength m.bits) lss [] (λ i l.
          let inside : i < n = omega arith in
          sym (get_or-map length lss i [] 0 l) ∙ (ap (λ z. get_or z i 0) same ∙ get_or-replicate n i m.bits 0 inside));
    }

banks_push : (ms : List Memory) (bs : List (List (List ℕ))) (m : Memory) (b : List (List ℕ)) → AreBanks ms bs → IsBank m b → AreBanks (ms ++ m ∷ []) (bs ++ b ∷ [])
banks_push [] [] m b h is = (is, tt)
banks_push [] (x ∷ bs) m b h is = absurd h
banks_push (y ∷ ms) [] m b h is = absurd h
banks_push (y ∷ ms) (x ∷ bs) m b h is = (h.0, banks_push ms bs m b h.1 is)

-- the words of the first k memories
pub record AreBanksSoFar (first : ℕ) (ms : List Mem) (k next : ℕ) (bs : List (List (List ℕ))) : Type 0 where
  pub at : next ≡ first + sum_by mem_size (take k ms)
  pub banks : AreBanks (map memory_of (take k ms)) bs
  pub all : joined (all_words bs) ≡ literals_from first (sum_by mem_size (take k ms))

pub banks_begin : (first : ℕ) (ms : List Mem) (bs : List (List (List ℕ))) → bs ≡ [] → AreBanksSoFar first ms 0 first bs
banks_begin first ms bs e = record { at = (omega arith); banks = subst (AreBanks []) (sym e) tt; all = ap (λ z. joined (all_words z)) e }

pub banks_more : (first : ℕ) (ms : List Mem) (k : ℕ) (x : Mem) (next later : ℕ) (bs after : List (List (List ℕ))) (b : List (List ℕ)) → AreBanksSoFar first ms k next bs → k < length ms → x ≡ get_or ms k x → IsBank (memory_of x) b
    → joined b ≡ literals_from next (mem_size x) → after ≡ bs ++ b ∷ [] → later ≡ next + mem_size x → AreBanksSoFar first ms (k + 1) later after
banks_more first ms k x next later bs after b inv h is bank words pushed grown =
    let s = sum_by mem_size (take k ms) in
    let n = mem_size x in
    let more : sum_by mem_size (take (k + 1) ms) ≡ s + n = sum_by_more mem_size ms k x h ∙ ap (λ z. s + z) (ap mem_size (sym is)) in
    let at : next ≡ first + s = inv.at in
    let taken : take (k + 1) ms ≡ take k ms ++ x ∷ [] = take_more ms k x h ∙ ap (λ z. take k ms ++ z ∷ []) (sym is) in
    record {
      at = (omega (arith, more, at, grown));
      banks =
          subst (AreBanks (map memory_of (take (k + 1) ms))) (sym pushed)
          (subst (λ z. AreBanks z (bs ++ b ∷ [])) (sym (ap (map memory_of) taken ∙ map_push memory_of (take k ms) x)) (banks_push (map memory_of (take k ms)) bs (memory_of x) b inv.banks bank));
      all =
          ap (λ z. joined (all_words z)) pushed ∙ (ap joined (flat_map-append (λ (z : List (List ℕ)). z) bs (b ∷ []) ∙ ap (λ z. all_words bs ++ z) (append-nil b))
          ∙ (flat_map-append (λ (z : List ℕ). z) (all_words bs) b ∙ (ap (λ z. joined (all_words bs) ++ z) (words ∙ ap (λ z. literals_from z n) at)
          ∙ (ap (λ z. z ++ literals_from (first + s) n) inv.all ∙ (sym (literals_append first s n) ∙ ap (literals_from first) (sym more))))));
    }

-- the variables of one memory more are within those of all
pub banks_within : (first : ℕ) (ms : List Mem) (k : ℕ) (x : Mem) (next : ℕ) (bs : List (List (List ℕ))) → AreBanksSoFar first ms k next bs → k < length ms → x ≡ get_or ms k x → first + sum_by memory_size (map memory_of ms) ≤ 65537
    → next + mem_size x ≤ 65537
banks_within first ms k x next bs inv h is few =
    let e : sum_by memory_size (map memory_of ms) ≡ sum_by mem_size ms = mapped_sum Mem Memory memory_size memory_of ms in
    let m : sum_by mem_size (take k ms) + mem_size x ≤ sum_by mem_size ms = subst (λ (z : Mem). sum_by mem_size (take k ms) + mem_size z ≤ sum_by mem_size ms) (sym is) (sum_by_more_le mem_size ms k x h) in
    omega (arith, e, m, inv.at, few)

pub banks_whole : (first : ℕ) (ms : List Mem) (k next : ℕ) (bs : List (List (List ℕ))) → length ms ≤ k → AreBanksSoFar first ms k next bs → AreBanks (map memory_of ms) bs
banks_whole first ms k next bs h f = subst (λ z. AreBanks (map memory_of z) bs) (take_all k ms h) f.banks

pub banks_joined : (first : ℕ) (ms : List Mem) (k next : ℕ) (bs : List (List (List ℕ))) → length ms ≤ k → AreBanksSoFar first ms k next bs → joined (all_words bs) ≡ literals_from first (sum_by memory_size (map memory_of ms))
banks_joined first ms k next bs h f = f.all ∙ ap (literals_from first) (ap (sum_by mem_size) (take_all k ms h) ∙ sym (mapped_sum Mem Memory memory_size memory_of ms))

-- ---- the whole circuit

pub given_whole : (d : Netlist) (xs ys : List (List ℕ)) (bs : List (List (List ℕ))) (first second : ℕ) → joined xs ≡ literals_from 1 (sum (input_widths d)) → first ≡ 1 + sum (input_widths d) → joined ys ≡ literals_from first (sum (register_widths d))
    → second ≡ first + sum (register_widths d) → joined (all_words bs) ≡ literals_from second (sum_by memory_size d.mems) → joined xs ++ (joined ys ++ joined (all_words bs)) ≡ literals_from 1 (bit_count d)
given_whole d xs ys bs first second X at Y then B =
    let a = sum (input_widths d) in
    let b = sum (register_widths d) in
    let c = sum_by memory_size d.mems in
    let later : joined ys ++ joined (all_words bs) ≡ literals_from (1 + a) (b + c) =
    ap (λ z. z ++ joined (all_words bs)) Y ∙ (ap (λ z. literals_from first b ++ z) (B ∙ ap (λ z. literals_from z c) then) ∙ (sym (literals_append first b c) ∙ ap (λ z. literals_from z (b + c)) at)) in
    ap (λ z. z ++ (joined ys ++ joined (all_words bs))) X ∙ (ap (λ z. literals_from 1 a ++ z) later ∙ sym (literals_append 1 a (b + c)))

pub given_is : (d : Netlist) (inputs regs : Vec (List ℕ) Global) (mems : Vec (List (List ℕ)) Global) (wires : Vec (List ℕ) Global) (ws vs : List ℕ) (ms : List Memory) (first second : ℕ)
    → map length inputs.items ≡ ws → ws ≡ input_widths d → joined inputs.items ≡ literals_from 1 (sum ws)
    → map length regs.items ≡ vs → vs ≡ register_widths d → joined regs.items ≡ literals_from first (sum vs)
    → ms ≡ d.mems → AreBanks ms mems.items → joined (all_words mems.items) ≡ literals_from second (sum_by memory_size ms)
    → first ≡ 1 + sum (input_widths d) → second ≡ first + sum (register_widths d) → wires.items ≡ []
    → AreGiven d (record { inputs = inputs; regs = regs; mems = mems; wires = wires })
given_is d inputs regs mems wires ws vs ms first second X W A Y V B M banks C at then none = record {
  shaped = record { inputs = X ∙ W; regs = Y ∙ V; wires = ap (map length) none; mems = subst (λ z. AreBanks z mems.items) M banks };
  given =
      given_whole d inputs.items regs.items mems.items first second (A ∙ ap (λ z. literals_from 1 (sum z)) W) at (B ∙ ap (λ z. literals_from first (sum z)) V) then
      (C ∙ ap (λ z. literals_from second (sum_by memory_size z)) M);
}

literals_fit : (e : Gates) (n k : ℕ) → n + k ≤ suc e.given → All (IsLiteral e) (literals_from n k)
literals_fit e n zero h = All-nil (IsLiteral e)
literals_fit e n (suc k) h = All-cons (IsLiteral e) (2 * n) (literals_from (suc n) k) (omega arith) (literals_fit e (suc n) k (omega arith))

module _ {X : Type 0} (P : X → Type 0) where
  both_parts : (a b : List X) → All P (a ++ b) → All P a × All P b
  both_parts [] b h = (All-nil P, h)
  both_parts (x ∷ a) b h = let r = both_parts a b (All-tail P x (a ++ b) h) in (All-cons P x a (All-head P x (a ++ b) h) r.0, r.1)

  all_parts : (xs : List (List X)) → All P (flat_map (λ (z : List X). z) xs) → All (All P) xs
  all_parts [] h = All-nil (All P)
  all_parts (x ∷ xs) h = let r = both_parts x (flat_map (λ (z : List X). z) xs) h in All-cons (All P) x xs r.0 (all_parts xs r.1)

pub blasted_begins : (d : Netlist) (t : Literals) (e : Gates) → AreGiven d t → bit_count d ≤ 65536 → e ≡ no_gates (bit_count d) → IsBlasted d [] e t
blasted_begins d t e g few is = subst (λ z. IsBlasted d [] z t) (sym is) begun where
  none : t.wires.items ≡ []
  none = nil_from_length t.wires.items (sym (length-map t.wires.items length) ∙ ap length g.shaped.wires)

  fit : All (IsLiteral (no_gates (bit_count d))) (joined t.inputs.items ++ (joined t.regs.items ++ joined (all_words t.mems.items)))
  fit = subst (All (IsLiteral (no_gates (bit_count d)))) (sym g.given) (literals_fit (no_gates (bit_count d)) 1 (bit_count d) (omega arith))

  after : All (IsLiteral (no_gates (bit_count d))) (joined t.inputs.items) × All (IsLiteral (no_gates (bit_count d))) (joined t.regs.items ++ joined (all_words t.mems.items))
  after = both_parts (IsLiteral (no_gates (bit_count d))) (joined t.inputs.items) (joined t.regs.items ++ joined (all_words t.mems.items)) fit

  last : All (IsLiteral (no_gates (bit_count d))) (joined t.regs.items) × All (IsLiteral (no_gates (bit_count d))) (joined (all_words t.mems.items))
  last = both_parts (IsLiteral (no_gates (bit_count d))) (joined t.regs.items) (joined (all_words t.mems.items)) after.1

  begun : IsBlasted d [] (no_gates (bit_count d)) t
  begun = record {
    sound = record { ordered = tt; few = (omega arith) };
    shaped = g.shaped;
    fits = record {
      inputs = all_parts (IsLiteral (no_gates (bit_count d))) t.inputs.items after.0;
      regs = all_parts (IsLiteral (no_gates (bit_count d))) t.regs.items last.0;
      mems = all_parts (All (IsLiteral (no_gates (bit_count d)))) t.mems.items (all_parts (IsLiteral (no_gates (bit_count d))) (all_words t.mems.items) last.1);
      wires = subst (All (All (IsLiteral (no_gates (bit_count d))))) (sym none) (All-nil (All (IsLiteral (no_gates (bit_count d)))));
    };
    given = g.given;
    value = λ f bs x long. ap (numbers _) none;
  }
