-- Words that are made bit by bit.
use Rattle.std.proofs.Common.{◌≡◌, ℕ, ◌+◌, Bool, true, false, List, [], ◌∷◌, ◌++◌, refl, sym, ap, ◌∙◌, subst, length-append}
use Rattle.std.specs.List.{All}
use Rattle.std.proofs.lemmas.List.Elements.{All-push, All-weaker, All-nil}
use Rattle.aig_graph.specs.Graphs.{literal, values}
use Rattle.aig_graph.specs.Making.{Gates, IsSound, IsLiteral, Extends, Always}
use Rattle.aig_graph.proofs.Growing.{goes_on, fits_later, always_later, stays, literal_false, literal_true}
use Rattle.aig_graph.specs.Words.{MakesWord, MakesWords, AreWords, HasLength, bits}
use Rattle.aig_graph.proofs.Numbers.{bits_push}

pub all_later : (d e : Gates) → Extends d e → (ls : List ℕ) → All (IsLiteral d) ls → All (IsLiteral e) ls
all_later d e x ls h = All-weaker (IsLiteral d) (IsLiteral e) (λ l k. fits_later d e x l k) ls h

-- no bits
pub no_word : (d : Gates) (ls : List ℕ) (P : List Bool → List Bool → Type 0) → ls ≡ [] → IsSound d → ((w : List Bool) → P w []) → MakesWord d d ls 0 P
no_word d ls P e sound h = subst (λ z. MakesWord d d z 0 P) (sym e) (record {
  extends = stays d;
  sound = sound;
  count = refl;
  fits = All-nil (IsLiteral d);
  value = λ f bs x same. h (values (_) f.ands);
})

-- a bit more
pub word_more : (d e f : Gates) (ls ms : List ℕ) (l n : ℕ) (P Q : List Bool → List Bool → Type 0) (R : List Bool → Type 0) → MakesWord d e ls n P → ms ≡ ls ++ l ∷ [] → Extends e f → IsSound f → IsLiteral f l
    → Always f R → ((w : List Bool) → P w (bits w ls) → R w → Q w (bits w ls ++ literal w l ∷ [])) → MakesWord d f ms (n + 1) Q
word_more d e f ls ms l n P Q R m is x sound fits r h = subst (λ z. MakesWord d f z (n + 1) Q) (sym is) (record {
  extends = goes_on d e f m.extends x;
  sound = sound;
  count = length-append ls (l ∷ []) ∙ ap (λ z. z + 1) m.count;
  fits = All-push (IsLiteral f) ls l (all_later e f x ls m.fits) fits;
  value = λ g bs y same.
      subst (Q (values _ g.ands)) (sym (bits_push (values _ g.ands) ls l)) (h (values _ g.ands) (always_later e f (λ w. P w (bits w ls)) x m.value g bs y same) (r g bs y same));
})

-- ---- facts about later values

-- the literals of constants
abbrev pub Constants : List Bool → Type 0
Constants w = (literal w 0 ≡ false) × (literal w 1 ≡ true)

pub both : (e f : Gates) (P Q R : List Bool → Type 0) → Extends e f → Always e P → Always f Q → ((w : List Bool) → Constants w → P w → Q w → R w) → Always f R
both e f P Q R x p q h = λ g bs y same. h (values (false ∷ bs) g.ands) (literal_false bs g.ands, literal_true bs g.ands) (always_later e f P x p g bs y same) (q g bs y same)

pub so : (e : Gates) (P R : List Bool → Type 0) → Always e P → ((w : List Bool) → Constants w → P w → R w) → Always e R
so e P R p h = λ g bs y same. h (values (false ∷ bs) g.ands) (literal_false bs g.ands, literal_true bs g.ands) (p g bs y same)

pub anyway : (e : Gates) (R : List Bool → Type 0) → ((w : List Bool) → Constants w → R w) → Always e R
anyway e R h = λ g bs y same. h (values (false ∷ bs) g.ands) (literal_false bs g.ands, literal_true bs g.ands)

-- the same word shows something else
pub word_so : (d e : Gates) (ls : List ℕ) (n : ℕ) (P Q : List Bool → List Bool → Type 0) → MakesWord d e ls n P → ((w : List Bool) → Constants w → P w (bits w ls) → Q w (bits w ls)) → MakesWord d e ls n Q
word_so d e ls n P Q m h = record { extends = m.extends; sound = m.sound; count = m.count; fits = m.fits; value = so e (λ w. P w (bits w ls)) (λ w. Q w (bits w ls)) m.value h }

-- a word that is made from another
pub word_then : (d e f : Gates) (ms ls : List ℕ) (m n : ℕ) (P Q R : List Bool → List Bool → Type 0) → MakesWord d e ms m P → MakesWord e f ls n Q
    → ((w : List Bool) → Constants w → P w (bits w ms) → Q w (bits w ls) → R w (bits w ls)) → MakesWord d f ls n R
word_then d e f ms ls m n P Q R a b h = record {
  extends = goes_on d e f a.extends b.extends;
  sound = b.sound;
  count = b.count;
  fits = b.fits;
  value = both e f (λ w. P w (bits w ms)) (λ w. Q w (bits w ls)) (λ w. R w (bits w ls)) b.extends a.value b.value h;
}

-- ---- lists of words

pub words_later : (d e : Gates) → Extends d e → (n : ℕ) (lss : List (List ℕ)) → AreWords d n lss → AreWords e n lss
words_later d e x n lss h = record { wide = h.wide; fits = All-weaker (All (IsLiteral d)) (All (IsLiteral e)) (λ ls k. all_later d e x ls k) lss h.fits }

pub no_words : (d : Gates) (lss : List (List ℕ)) (n : ℕ) (P : List Bool → List (List ℕ) → Type 0) → lss ≡ [] → IsSound d → ((w : List Bool) → P w []) → MakesWords d d lss 0 n P
no_words d lss n P e sound h = subst (λ z. MakesWords d d z 0 n P) (sym e) (record {
  extends = stays d;
  sound = sound;
  count = refl;
  words = record { wide = All-nil (HasLength n); fits = All-nil (All (IsLiteral d)) };
  value = λ f bs x same. h (values (_) f.ands);
})

-- a word more
pub words_more : (d e f : Gates) (lss mss : List (List ℕ)) (ls : List ℕ) (m n : ℕ) (P Q : List Bool → List (List ℕ) → Type 0) (R : List Bool → List Bool → Type 0) → MakesWords d e lss m n P → mss ≡ lss ++ ls ∷ []
    → MakesWord e f ls n R → ((w : List Bool) → Constants w → P w lss → R w (bits w ls) → Q w (lss ++ ls ∷ [])) → MakesWords d f mss (m + 1) n Q
words_more d e f lss mss ls m n P Q R a is b h = subst (λ z. MakesWords d f z (m + 1) n Q) (sym is) (record {
  extends = goes_on d e f a.extends b.extends;
  sound = b.sound;
  count = length-append lss (ls ∷ []) ∙ ap (λ z. z + 1) a.count;
  words = (let before = words_later e f b.extends n lss a.words in record {
    wide = All-push (HasLength n) lss ls before.wide b.count;
    fits = All-push (All (IsLiteral f)) lss ls before.fits b.fits;
  });
  value = both e f (λ w. P w lss) (λ w. R w (bits w ls)) (λ w. Q w (lss ++ ls ∷ [])) b.extends a.value b.value h;
})
