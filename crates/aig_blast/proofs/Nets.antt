-- Words of expressions.
use Rattle.std.proofs.Common.{◌≡◌, ◌<◌, ◌≤◌, ◌+◌, ◌-◌, ◌*◌, ◌/◌, ◌%◌, ◌^◌, ◌==◌, ℕ, suc, zero, Bool, true, false, not, cond, List, [], ◌∷◌, ◌++◌, map, length, get_or, take, drop, refl, sym, ap, ◌∙◌, subst, arith, length-append, length-drop}
use Rattle.std.specs.Prelude.{slice_index, slice_index_or, slice_get, Some, Result, IfOk}
use Rattle.std.proofs.lemmas.Option.{same_Some, get_or_from_slice_get, slice_get_within}
use Rattle.std.specs.List.{All}
use Rattle.std.proofs.lemmas.List.{length-take-le, drop-map, map-append}
use Rattle.std.proofs.lemmas.List.Elements.{All-take, All-drop, All-append}
use Rattle.std.proofs.lemmas.Nat.{field_of}
use Rattle.std.proofs.Math.Nat.{pow-suc, mul_assoc}
use Rattle.std.proofs.Math.ListN.{get_or-map}
use Rattle.aig_graph.specs.Graphs.{literal}
use Rattle.aig_graph.specs.Making.{Gates, IsLiteral}
use Rattle.aig_graph.proofs.Growing.{stays}
use Rattle.aig_graph.specs.Words.{Computes, HasLength, Picks, Selects, IsNegation, number, numbers, bits, worded}
use Rattle.aig_graph.proofs.Numbers.{bits_length, take_whole}
use Rattle.aig_graph.proofs.Shifts.{number_take, map_take}
use Rattle.aig_graph.proofs.Lowering.{number_drop}
use Rattle.aig_graph.proofs.Making.{anyway, word_so}
use Rattle.aig_graph.proofs.Constants.{number_not}
use Rattle.aig_graph.proofs.Totals.{picks_whole}
use Rattle.aig_graph.proofs.Memories.{cond_number}
use Rattle.rtl_core.specs.declared.design.Atom.{Atom}
use Rattle.rtl_core.specs.declared.design.Net.{Net}
use Rattle.rtl_core.specs.declared.design.Net.TheVariants as net
use Rattle.rtl_core.specs.declared.design.Pair.{Pair}
use Rattle.rtl_core.specs.Netlist.{Memory}
use Rattle.rtl_core.specs.ClockStep.{widths_after, pair_value}
use Rattle.rtl_core.specs.Valid.{HasBits, OperandsFit}
use Rattle.aig_blast.specs.declared.literals.Literals.{Literals}
use Rattle.aig_blast.specs.Literals.{literals_of, shown, net_shown, AreBanks, IsBank, CanMake}
use Rattle.aig_blast.proofs.Context.{atom_length, atom_fits}
use Rattle.aig_blast.proofs.Pairs.{if_ok, operands_map}

-- ---- choices

test_bit : (x : Bool) → (cond x 1 0 + 2 * 0 == 1) ≡ x
test_bit true = refl
test_bit false = refl

pub single : (w : List Bool) (test : List ℕ) → length test ≡ 1 → (worded w test == 1) ≡ literal w (get_or test 0 0)
single w [] h = absurd (omega arith)
single w (l ∷ []) h = test_bit (literal w l)
single w (l ∷ (m ∷ ls)) h = absurd (omega arith)

pub pick_made : (d e : Gates) (test xs ys ls : List ℕ) → length test ≡ 1 → length xs ≡ length ys → Picks d e (get_or test 0 0) xs ys (length xs) ls
    → Computes d e ls (length xs) (λ w. cond (worded w test == 1) (worded w xs) (worded w ys))
pick_made d e test xs ys ls one same p =
    word_so d e ls (length xs) _ _ (picks_whole d e (get_or test 0 0) xs ys ls (length xs) refl (sym same) p)
    (λ w k h. cond_number (literal w (get_or test 0 0)) (bits w ls) (bits w xs) (bits w ys) h ∙ ap (λ z. cond z (worded w xs) (worded w ys)) (sym (single w test one)))

-- ---- expressions that need no gates

pub copy_made : (e : Gates) (t : Literals) (n : ℕ) (a : Atom) (ls : List ℕ) → CanMake e t n (net.Copy a) → ls ≡ literals_of t a → Computes e e ls n (λ w. net_shown t w n (net.Copy a))
copy_made e t n a ls c is = subst (λ z. Computes e e z n (λ w. net_shown t w n (net.Copy a))) (sym is) (record {
  extends = stays e;
  sound = c.sound;
  count = atom_length c.design c.before t c.shaped n a c.net;
  fits = atom_fits e t c.fits a;
  value = anyway e (λ w. worded w (literals_of t a) ≡ shown t w a) (λ w k. refl);
})

inverse_number : (N M P : ℕ) → N + M + 1 ≡ P → N ≡ P - 1 - M
inverse_number N M P h = omega arith

pub not_made : (e : Gates) (t : Literals) (n : ℕ) (a : Atom) (ls : List ℕ) → CanMake e t n (net.Not a) → IsNegation (literals_of t a) (length (literals_of t a)) ls → Computes e e ls n (λ w. net_shown t w n (net.Not a))
not_made e t n a ls c neg =
    let xs = literals_of t a in
    let long : length xs ≡ n = atom_length c.design c.before t c.shaped n a c.net in
    record {
      extends = stays e;
      sound = c.sound;
      count = neg.count ∙ long;
      fits = neg.fits e (atom_fits e t c.fits a);
      value = anyway e _
          (λ w k. inverse_number (worded w ls) (worded w xs) (2 ^ n)
          (ap (λ z. number z + worded w xs + 1) (neg.value w ∙ ap (map not) (take_whole w xs)) ∙ (number_not (bits w xs) ∙ ap (λ z. 2 ^ z) (bits_length w xs ∙ long))));
    }

number_append : (bs cs : List Bool) → number (bs ++ cs) ≡ number cs * 2 ^ length bs + number bs
number_append [] cs = (let e : number cs ≡ number cs * 1 + 0 = omega arith in e)
number_append (b ∷ bs) cs =
    let h : number (bs ++ cs) ≡ number cs * 2 ^ length bs + number bs = number_append bs cs in
    let e : number cs * 2 ^ suc (length bs) ≡ 2 * (number cs * 2 ^ length bs) = double (number cs) (length bs) in
    let v = cond b 1 0 in
    ap (λ z. v + 2 * z) h ∙ sum v (number cs * 2 ^ length bs) (number bs) (number cs * 2 ^ suc (length bs)) e where
      double : (x n : ℕ) → x * 2 ^ suc n ≡ 2 * (x * 2 ^ n)
      double x n = (let p : 2 ^ suc n ≡ 2 ^ n * 2 = pow-suc 2 n in let q : x * (2 ^ n * 2) ≡ x * 2 ^ n * 2 = sym (mul_assoc x (2 ^ n) 2) in let r = ap (λ z. x * z) p in omega arith)

      sum : (v a b c : ℕ) → c ≡ 2 * a → v + 2 * (a + b) ≡ c + (v + 2 * b)
      sum v a b c e = omega arith

pub join_made : (e : Gates) (t : Literals) (n : ℕ) (high low : Atom) (ls : List ℕ) → CanMake e t n (net.Join high low) → ls ≡ literals_of t low ++ literals_of t high
    → Computes e e ls n (λ w. net_shown t w n (net.Join high low))
join_made e t n high low ls c is =
    let xs = literals_of t low in
    let ys = literals_of t high in
    let h = c.net in
    let upper = atom_length c.design c.before t c.shaped h.0 high h.2 in
    let lower = atom_length c.design c.before t c.shaped h.1 low h.3 in
    let total : n ≡ h.0 + h.1 = h.4 in
    subst (λ z. Computes e e z n (λ w. net_shown t w n (net.Join high low))) (sym is) (record {
      extends = stays e;
      sound = c.sound;
      count = length-append xs ys ∙ (let s : length xs + length ys ≡ n = omega arith in s);
      fits = All-append (IsLiteral e) xs ys (atom_fits e t c.fits low) (atom_fits e t c.fits high);
      value = anyway e _ (λ w k. ap number (map-append (literal w) xs ys) ∙ (number_append (bits w xs) (bits w ys) ∙ ap (λ z. worded w ys * 2 ^ z + worded w xs) (bits_length w xs)));
    })

map_drop_take : (w : List Bool) (low m : ℕ) (xs : List ℕ) → bits w (drop low (take m xs)) ≡ drop low (take m (bits w xs))
map_drop_take w low m xs = sym (drop-map (literal w) low (take m xs)) ∙ ap (drop low) (map_take (literal w) m xs)

-- the bits from low on, of the lowest low + n
field_number : (x low n m : ℕ) → m ≡ n + low → x % 2 ^ m / 2 ^ low ≡ x / 2 ^ low % 2 ^ n
field_number x low n m e = ap (λ z. x % 2 ^ z / 2 ^ low) e ∙ field_of x n low

pub part_made : (e : Gates) (t : Literals) (n : ℕ) (a : Atom) (high low : ℕ) (ls : List ℕ) → CanMake e t n (net.Part a high low) → ls ≡ drop low (take (high + 1) (literals_of t a))
    → Computes e e ls n (λ w. net_shown t w n (net.Part a high low))
part_made e t n a high low ls c is =
    let xs = literals_of t a in
    let h = c.net.1 in
    let long : length xs ≡ h.0 = atom_length c.design c.before t c.shaped h.0 a h.1 in
    let below : high < h.0 = h.2 in
    let total : n + low ≡ high + 1 = h.4 in
    let bits_of_part : high + 1 - low ≡ n = omega arith in
    subst (λ z. Computes e e z n (λ w. net_shown t w n (net.Part a high low))) (sym is) (record {
      extends = stays e;
      sound = c.sound;
      count = length-drop low (take (high + 1) xs) ∙ (ap (λ z. z - low) (length-take-le (high + 1) xs (omega arith)) ∙ bits_of_part);
      fits = All-drop (IsLiteral e) low (take (high + 1) xs) (All-take (IsLiteral e) (high + 1) xs (atom_fits e t c.fits a));
      value = anyway e _
          (λ w k. ap number (map_drop_take w low (high + 1) xs) ∙ (number_drop low (take (high + 1) (bits w xs)) ∙ (ap (λ z. z / 2 ^ low) (number_take (high + 1) (bits w xs))
          ∙ (field_number (worded w xs) low n (high + 1) (sym total) ∙ ap (λ z. worded w xs / 2 ^ low % 2 ^ z) (sym bits_of_part)))));
    })

-- ---- words of memories

pub bank_at : (ms : List Memory) (bs : List (List (List ℕ))) → AreBanks ms bs → (k : ℕ) (m : Memory) → slice_get ms k ≡ Some m → (k < length bs) × IsBank m (slice_index_or bs k [])
bank_at [] bs h k m e = absurd (cc e)
bank_at (x ∷ ms) [] h k m e = absurd h
bank_at (x ∷ ms) (b ∷ bs) h zero m e = (omega arith, subst (λ z. IsBank z b) (same_Some x m e) h.0)
bank_at (x ∷ ms) (b ∷ bs) h (suc k) m e = let r = bank_at ms bs h.1 k m e in (omega (arith, r.0), r.1)

-- the value of a word by its literals
pub select_made : (d e : Gates) (t : Literals) (n : ℕ) (mem : ℕ) (address : Atom) (ls : List ℕ) → Selects d e (slice_index_or t.mems.items mem []) (literals_of t address) n ls
    → Computes d e ls n (λ w. net_shown t w n (net.Word mem address))
select_made d e t n mem address ls s =
    word_so d e ls n _ _ s
    (λ w k h. ap number h
    ∙ (sym (get_or-map (worded w) (slice_index_or t.mems.items mem []) (shown t w address) []) ∙ ap (λ z. slice_index z (shown t w address)) (sym (get_or-map (numbers w) t.mems.items mem []))))

pub net_returned : {A E : Type 0} (items : A → List ℕ) (d e : Gates) (t : Literals) (n : ℕ) (x y : Net) → x ≡ y → (r : Result A E) (P : A → Type 0) → IfOk r P → ((ls : A) → P ls → Computes d e (items ls) n (λ w. net_shown t w n y))
    → IfOk r (λ ls. Computes d e (items ls) n (λ w. net_shown t w n x))
net_returned items d e t n x y is r P p h =
    if_ok r P (λ ls. Computes d e (items ls) n (λ w. net_shown t w n x)) p (λ ls g. subst (λ z. Computes d e (items ls) n (λ w. net_shown t w n z)) (sym is) (h ls g))

pub pick_shown : (d e : Gates) (t : Literals) (n : ℕ) (test a b : Atom) (T X Y ls : List ℕ) → CanMake d t n (net.Pick test a b) → T ≡ literals_of t test → X ≡ literals_of t a → Y ≡ literals_of t b
    → Computes d e ls (length X) (λ w. cond (worded w T == 1) (worded w X) (worded w Y)) → Computes d e ls n (λ w. net_shown t w n (net.Pick test a b))
pick_shown d e t n test a b T X Y ls c is_t is_x is_y h =
    let long : length (literals_of t a) ≡ n = atom_length c.design c.before t c.shaped n a c.net.1 in
    subst (λ z. Computes d e ls z (λ w. cond (shown t w test == 1) (shown t w a) (shown t w b))) long
    (subst (λ z. Computes d e ls (length (literals_of t a)) (λ w. cond (worded w z == 1) (shown t w a) (shown t w b))) is_t
    (subst (λ z. Computes d e ls (length z) (λ w. cond (worded w T == 1) (worded w z) (shown t w b))) is_x
    (subst (λ z. Computes d e ls (length X) (λ w. cond (worded w T == 1) (worded w X) (worded w z))) is_y h)))

pub pair_operands : (d : Gates) (t : Literals) (n : ℕ) (op : Pair) (a b : Atom) (X Y : List ℕ) → CanMake d t n (net.Two op a b) → X ≡ literals_of t a → Y ≡ literals_of t b → OperandsFit op n (λ m. HasLength m X) (λ m. HasLength m Y)
pair_operands d t n op a b X Y c is_x is_y =
    operands_map op n (λ m. HasBits (widths_after c.design c.before) m a) (λ m. HasBits (widths_after c.design c.before) m b) (λ m. HasLength m X) (λ m. HasLength m Y)
    (λ m h. ap length is_x ∙ atom_length c.design c.before t c.shaped m a h) (λ m h. ap length is_y ∙ atom_length c.design c.before t c.shaped m b h) c.net

pub pair_shown : (d e : Gates) (t : Literals) (n : ℕ) (op : Pair) (a b : Atom) (X Y ls : List ℕ) → X ≡ literals_of t a → Y ≡ literals_of t b
    → Computes d e ls n (λ w. pair_value op n (worded w X) (worded w Y)) → Computes d e ls n (λ w. net_shown t w n (net.Two op a b))
pair_shown d e t n op a b X Y ls is_x is_y h =
    subst (λ z. Computes d e ls n (λ w. pair_value op n (worded w z) (shown t w b))) is_x (subst (λ z. Computes d e ls n (λ w. pair_value op n (worded w X) (worded w z))) is_y h)

-- what the literals of a memory's words have to be where one is selected
pub record Selectable (d : Gates) (t : Literals) (mem : ℕ) (n depth : ℕ) (address : Atom) : Type 0 where
  pub there : mem < length t.mems.items
  pub count : length (slice_index_or t.mems.items mem []) ≡ 2 ^ depth
  pub wide : All (HasLength n) (slice_index_or t.mems.items mem [])
  pub fits : All (All (IsLiteral d)) (slice_index_or t.mems.items mem [])
  pub long : length (literals_of t address) ≡ depth
  pub some : 1 ≤ depth

pub selectable : (d : Gates) (t : Literals) (n mem : ℕ) (address : Atom) → CanMake d t n (net.Word mem address) → (depth : ℕ) × Selectable d t mem n depth address
selectable d t n mem address c =
    let m : Memory = c.net.0 in
    let at : slice_get c.design.mems mem ≡ Some m = c.net.1 in
    let b = bank_at c.design.mems t.mems.items c.shaped.mems mem m at in
    let inside : mem < length c.design.mems = slice_get_within c.design.mems mem m at in
    let here : m ≡ get_or c.design.mems mem m = sym (get_or_from_slice_get c.design.mems mem m m at) in (
      m.depth_log,
      record {
        there = b.0;
        count = b.1.count;
        wide = subst (λ z. All (HasLength z) (slice_index_or t.mems.items mem [])) c.net.2.bits b.1.wide;
        fits = c.fits.mems mem [] b.0;
        long = atom_length c.design c.before t c.shaped m.depth_log address c.net.2.wide;
        some = subst (λ (z : Memory). 1 ≤ z.depth_log) (sym here) (c.deep mem m inside);
      },
    )

pub select_shown : (d e : Gates) (t : Literals) (n mem : ℕ) (address : Atom) (B : List (List ℕ)) (A ls : List ℕ) → B ≡ slice_index_or t.mems.items mem [] → A ≡ literals_of t address → Selects d e B A n ls
    → Computes d e ls n (λ w. net_shown t w n (net.Word mem address))
select_shown d e t n mem address B A ls is_b is_a h =
    select_made d e t n mem address ls (subst (λ z. Selects d e z (literals_of t address) n ls) is_b (subst (λ z. Selects d e B z n ls) is_a h))
