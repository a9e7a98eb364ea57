-- The words of a memory after a write through one port.
use Rattle.std.proofs.Common.{◌≡◌, ℕ, ◌+◌, ◌<◌, ◌==◌, ◌&&◌, inl, inr, Bool, true, false, cond, ◌^◌, List, [], ◌∷◌, ◌++◌, length, get_or, take, set, refl, sym, ap, ◌∙◌, subst, arith}
use Rattle.std.proofs.lemmas.Bool.{cases_eq, eq-eqb, ne_eqb}
use Rattle.std.proofs.lemmas.List.{map_push, take_more, length-map, length-set, get_or-map, get_or-set_same, get_or-set_other, get_or_default}
use Rattle.std.proofs.Math.Nat.{mod-eq_of_lt}
use Rattle.aig_graph.specs.Graphs.{literal}
use Rattle.aig_graph.specs.Making.{Gates, Makes}
use Rattle.aig_graph.proofs.Growing.{goes_on}
use Rattle.aig_graph.specs.declared.memory.Write.{Write}
use Rattle.aig_graph.specs.Words.{worded, numbers, number, bits, words_after, word_at, constant_word, IsEqualSoFar, Picks, Computes, Writes, AreWords}
use Rattle.aig_graph.proofs.Making.{both, words_more}
use Rattle.aig_graph.proofs.Constants.{number_constant, constant_length}
use Rattle.aig_graph.proofs.Totals.{whole_at, picks_whole}

-- what one word holds
word_written : (on : Bool) (xs : List ℕ) (A V k : ℕ) → k < length xs → get_or (cond on (set xs A V) xs) k 0 ≡ cond (on && (A == k)) V (get_or xs k 0)
word_written true xs A V k h = elim (cases_eq A k) [
  | inl e ↦ ap (λ z. get_or (set xs A V) z 0) (sym e) ∙ (get_or-set_same xs A V 0 (subst (λ z. z < length xs) (sym e) h) ∙ ap (λ z. cond z V (get_or xs k 0)) (sym (eq-eqb A k e)))
  | inr f ↦ get_or-set_other xs A k V 0 (λ e. f (sym e)) ∙ ap (λ z. cond z V (get_or xs k 0)) (sym (ne_eqb A k f))
]
word_written false xs A V k h = refl

long_after : (on : Bool) (xs : List ℕ) (A V : ℕ) → length (cond on (set xs A V) xs) ≡ length xs
long_after true xs A V = length-set xs A V
long_after false xs A V = refl

pub written_more : (w : List Bool) (p : Write) (words lss : List (List ℕ)) (ls : List ℕ) (k : ℕ) → k < length words → numbers w lss ≡ take k (words_after w p (numbers w words))
    → worded w ls ≡ cond (literal w p.enable && (worded w p.address.items == k)) (worded w p.value.items) (worded w (word_at words k))
    → numbers w (lss ++ ls ∷ []) ≡ take (k + 1) (words_after w p (numbers w words))
written_more w p words lss ls k h before now =
    let xs = numbers w words in
    let on = literal w p.enable in
    let A = worded w p.address.items in
    let V = worded w p.value.items in
    let long : length xs ≡ length words = length-map words (worded w) in
    let there : k < length xs = omega arith in
    let after : k < length (words_after w p xs) = omega (arith, long_after on xs A V) in
    let held : get_or xs k 0 ≡ worded w (word_at words k) = get_or-map (worded w) words k [] 0 h in
    map_push (worded w) lss ls ∙ (ap (λ z. z ++ worded w ls ∷ []) before
    ∙ (ap (λ z. take k (words_after w p xs) ++ z ∷ []) (now ∙ (ap (λ z. cond (on && (A == k)) V z) (sym held) ∙ sym (word_written on xs A V k there)))
    ∙ sym (take_more (words_after w p xs) k 0 after)))

pub cond_number : (t : Bool) (bs xs ys : List Bool) → bs ≡ cond t xs ys → number bs ≡ cond t (number xs) (number ys)
cond_number true bs xs ys e = ap number e
cond_number false bs xs ys e = ap number e

pub named_word : (d e f g : Gates) (p : Write) (word here a h v ls : List ℕ) (named test k : ℕ) → length p.value.items ≡ length word → k < 2 ^ length p.address.items → here ≡ constant_word (length p.address.items) k
    → a ≡ p.address.items → h ≡ here → v ≡ p.value.items → IsEqualSoFar d e a h (length a) named → Makes e f test (λ w x. x ≡ (literal w p.enable && literal w named)) → Picks f g test v word (length v) ls
    → Computes d g ls (length word) (λ w. cond (literal w p.enable && (worded w p.address.items == k)) (worded w p.value.items) (worded w word))
named_word d e f g p word here a h v ls named test k same small is_here is_a is_h is_v q' both_ picks' =
    let A = p.address.items in
    let V = p.value.items in
    let n = length A in
    let m = length word in
    let C = constant_word n k in
    let q = subst (λ z. IsEqualSoFar d e A z n named) (is_h ∙ is_here) (subst (λ z. IsEqualSoFar d e z h (length z) named) is_a q') in
    let picks = picks_whole f g test V word ls m same refl (subst (λ z. Picks f g test V word z ls) same (subst (λ z. Picks f g test z word (length z) ls) is_v picks')) in
    let tests = both e f (λ w. literal w named ≡ (number (bits w (take n A)) == number (bits w (take n C)))) (λ w. literal w test ≡ (literal w p.enable && literal w named)) (λ w. literal w test ≡ (literal w p.enable && (worded w A == k))) both_.extends q.shows.value both_.shows.value
    (λ w c x y.
    let constant : number (bits w (take n C)) ≡ k = ap number (whole_at w C n (sym (constant_length n k))) ∙ (number_constant w n k c ∙ mod-eq_of_lt small) in
    y ∙ ap (λ z. literal w p.enable && z) (x ∙ (ap (λ z. number z == number (bits w (take n C))) (whole_at w A n refl) ∙ ap (λ z. worded w A == z) constant))) in
    record {
      extends = goes_on d f g (goes_on d e f q.extends both_.extends) picks.extends;
      sound = picks.sound;
      count = picks.count;
      fits = picks.fits;
      value = both f g (λ w. literal w test ≡ (literal w p.enable && (worded w A == k))) (λ w. bits w ls ≡ cond (literal w test) (bits w V) (bits w word)) (λ w. worded w ls ≡ cond (literal w p.enable && (worded w A == k)) (worded w V) (worded w word)) picks.extends tests picks.value (λ w c x y. cond_number (literal w test) (bits w ls) (bits w V) (bits w word) y ∙ ap (λ z. cond z (worded w V) (worded w word)) x);
    }

-- a word more is written
pub writes_more : (d e f : Gates) (p : Write) (words lss mss : List (List ℕ)) (o now ls : List ℕ) (k : ℕ) → Writes d e words p k lss → k < length words → AreWords d (length p.value.items) words → o ≡ get_or words k o → now ≡ o
    → mss ≡ lss ++ ls ∷ [] → Computes e f ls (length now) (λ w. cond (literal w p.enable && (worded w p.address.items == k)) (worded w p.value.items) (worded w now)) → Writes d f words p (k + 1) mss
writes_more d e f p words lss mss o now ls k inv h wide o_is now_is is m' =
    let W = word_at words k in
    let at : now ≡ W = now_is ∙ (o_is ∙ get_or_default words k o [] h) in
    let m = subst (λ z. Computes e f ls z (λ w. cond (literal w p.enable && (worded w p.address.items == k)) (worded w p.value.items) (worded w W))) (wide.wide k [] h)
    (subst (λ z. Computes e f ls (length z) (λ w. cond (literal w p.enable && (worded w p.address.items == k)) (worded w p.value.items) (worded w z))) at m') in
    words_more d e f lss mss ls k (length p.value.items) _ _ _ inv is m (λ w c a b. written_more w p words lss ls k h a b)
