-- What goes on behind a form, and where it stops.
use Rattle.std.proofs.Common.{◌≡◌, ◌⊎◌, inl, inr, ℕ, zero, suc, ◌≤◌, Bool, true, false, not, ◌||◌, eqb, List, [], ◌∷◌, ◌++◌, length, take, drop, get_or, codes, refl, sym, ap, ◌∙◌, subst, arith}
use Rattle.std.specs.List.{Contains}
use Rattle.std.proofs.lemmas.Bool.{false≢true, or_cases, eqb-true}
use Rattle.std.proofs.lemmas.List.Elements.{All-contains}
use Rattle.rtl_core.specs.ModuleTokens.{Token}
use Rattle.rtl_core.specs.declared.design.Pair.{Pair}
use Rattle.rtl_core.specs.declared.design.Pair.TheVariants as pair
use Rattle.rtl_core.specs.ModuleSyntax.{operator}
use Rattle.rtl_core.proofs.Tokens.{every, every_true, same_text, has_text, differs_true}
use Rattle.verilog_syntax.proofs.Classes.{name_no_keyword, word_text, sign_token_text}
use Rattle.verilog_syntax.specs.declared.form.Class.{Class}
use Rattle.verilog_syntax.specs.declared.form.Class.TheVariants as c
use Rattle.verilog_syntax.specs.declared.form.Form.{Form}
use Rattle.verilog_syntax.specs.declared.form.Form.TheVariants as f
use Rattle.verilog_syntax.specs.Signs.{keyword_text, sign_text}
use Rattle.verilog_syntax.specs.Parsing.{Common}
use Rattle.verilog_syntax.specs.Forms.{FitsClass, FitsAll, classes_of, followers_of, Goes, ended, goes}

-- ---- how far tokens fit a form

-- the next token is the same, or there is none in both
abbrev pub Agree : List Token → List Token → Type 0
Agree [] [] = Unit {0}
Agree [] (u ∷ us) = ⊥
Agree (t ∷ ts) [] = ⊥
Agree (t ∷ ts) (u ∷ us) = t ≡ u

cons_head : {A : Type 0} (x y : A) (xs ys : List A) → x ∷ xs ≡ y ∷ ys → x ≡ y
cons_head x y xs ys e = cc

cons_tail : {A : Type 0} (x y : A) (xs ys : List A) → x ∷ xs ≡ y ∷ ys → xs ≡ ys
cons_tail x y xs ys e = cc

-- no row of tokens of these classes goes on where they stop to fit
pub stops : (cs : List Class) (left : List Token) (m n : ℕ) (taken rest after : List Token) → Common cs left m → m ≤ n → n ≤ length left → (m ≡ length cs → ⊥) → FitsAll cs taken
    → taken ++ rest ≡ take n left ++ after → Agree (drop n left) after → ⊥
stops [] left m n taken rest after common le fits other all e agree = other common
stops (c ∷ cs) left m n [] rest after common le fits other all e agree = all
stops (c ∷ cs) [] m n (t ∷ ts) rest [] common le fits other all e agree = let z : n ≡ 0 = omega (arith, fits) in absurd (no_cons t (ts ++ rest) (e ∙ ap (λ k. take k [] ++ []) z))
  where
    no_cons : (t : Token) (ts : List Token) → t ∷ ts ≡ [] → ⊥
    no_cons t ts e = cc
stops (c ∷ cs) [] m n (t ∷ ts) rest (a ∷ after) common le fits other all e agree = let z : n ≡ 0 = omega (arith, fits) in subst (λ k. Agree (drop k []) (a ∷ after)) z agree
stops (c ∷ cs) (l ∷ ls) m zero (t ∷ ts) rest [] common le fits other all e agree = agree
stops (c ∷ cs) (l ∷ ls) m zero (t ∷ ts) rest (a ∷ after) (inl (fit, r)) le fits other all e agree = omega (arith, r.1, le)
stops (c ∷ cs) (l ∷ ls) m zero (t ∷ ts) rest (a ∷ after) (inr (none, is)) le fits other all e agree =
    none (subst (FitsClass c) (cons_head t a (ts ++ rest) after e ∙ sym agree) all.0)
stops (c ∷ cs) (l ∷ ls) m (suc n) (t ∷ ts) rest after (inl (fit, r)) le fits other all e agree =
    stops cs ls r.0 n ts rest after r.2 (omega (arith, r.1, le)) (omega (arith, fits)) (λ same. other (r.1 ∙ ap suc same)) all.1 (cons_tail t l (ts ++ rest) (take n ls ++ after) e) agree
stops (c ∷ cs) (l ∷ ls) m (suc n) (t ∷ ts) rest after (inr (none, is)) le fits other all e agree =
    none (subst (FitsClass c) (cons_head t l (ts ++ rest) (take n ls ++ after) e) all.0)

pub fits_whole : (cs : List Class) (left : List Token) (n : ℕ) → Common cs left n → n ≡ length cs → FitsAll cs (take n left)
fits_whole [] left n common e = subst (λ k. FitsAll [] (take k left)) (sym e) tt
fits_whole (c ∷ cs) [] n common e = absurd (omega (arith, common, e))
fits_whole (c ∷ cs) (l ∷ ls) n (inl (fit, r)) e =
    subst (λ j. FitsAll (c ∷ cs) (take j (l ∷ ls))) (sym r.1) (fit, fits_whole cs ls r.0 r.2 (omega (arith, r.1, e)))
fits_whole (c ∷ cs) (l ∷ ls) n (inr (none, is)) e = absurd (omega (arith, is, e))

pub common_within : (cs : List Class) (left : List Token) (n : ℕ) → Common cs left n → (n ≤ length cs) × (n ≤ length left)
common_within [] left n e = (omega (arith, e), omega (arith, e))
common_within (c ∷ cs) [] n e = (omega (arith, e), omega (arith, e))
common_within (c ∷ cs) (l ∷ ls) n (inl (fit, r)) = let w = common_within cs ls r.0 r.2 in (omega (arith, r.1, w.0), omega (arith, r.1, w.1))
common_within (c ∷ cs) (l ∷ ls) n (inr (none, is)) = (omega (arith, is), omega (arith, is))

-- ---- classes and forms that have no token in common

-- no token is of both classes
abbrev operator_texts : List (List ℕ)
operator_texts = codes "+" ∷ codes "-" ∷ codes "*" ∷ codes "&" ∷ codes "|" ∷ codes "^" ∷ codes "==" ∷ codes "<" ∷ codes "<<" ∷ codes ">>" ∷ []

no_operator_text : (text : List ℕ) (op : Pair) → not (has_text operator_texts text) ≡ true → text ≡ operator op → ⊥
no_operator_text text pair.Add e h = false≢true (sym (ap (λ y. not (has_text operator_texts y)) h) ∙ e)
no_operator_text text pair.Sub e h = false≢true (sym (ap (λ y. not (has_text operator_texts y)) h) ∙ e)
no_operator_text text pair.Mul e h = false≢true (sym (ap (λ y. not (has_text operator_texts y)) h) ∙ e)
no_operator_text text pair.And e h = false≢true (sym (ap (λ y. not (has_text operator_texts y)) h) ∙ e)
no_operator_text text pair.Or e h = false≢true (sym (ap (λ y. not (has_text operator_texts y)) h) ∙ e)
no_operator_text text pair.Xor e h = false≢true (sym (ap (λ y. not (has_text operator_texts y)) h) ∙ e)
no_operator_text text pair.Equal e h = false≢true (sym (ap (λ y. not (has_text operator_texts y)) h) ∙ e)
no_operator_text text pair.Below e h = false≢true (sym (ap (λ y. not (has_text operator_texts y)) h) ∙ e)
no_operator_text text pair.Left e h = false≢true (sym (ap (λ y. not (has_text operator_texts y)) h) ∙ e)
no_operator_text text pair.Right e h = false≢true (sym (ap (λ y. not (has_text operator_texts y)) h) ∙ e)

abbrev apart : Class → Class → Bool
apart (c.Word k) (c.Word j) = not (same_text (keyword_text k) (keyword_text j))
apart (c.Word k) (c.Mark j) = true
apart (c.Word k) c.Name = true
apart (c.Word k) c.Number = true
apart (c.Word k) c.Zero = true
apart (c.Word k) c.Operand = true
apart (c.Word k) c.Operator = true
apart (c.Mark k) (c.Word j) = true
apart (c.Mark k) (c.Mark j) = not (same_text (sign_text k) (sign_text j))
apart (c.Mark k) c.Name = true
apart (c.Mark k) c.Number = true
apart (c.Mark k) c.Zero = true
apart (c.Mark k) c.Operand = true
apart (c.Mark k) c.Operator = not (has_text operator_texts (sign_text k))
apart c.Name (c.Word j) = true
apart c.Name (c.Mark j) = true
apart c.Name c.Name = false
apart c.Name c.Number = true
apart c.Name c.Zero = true
apart c.Name c.Operand = false
apart c.Name c.Operator = true
apart c.Number (c.Word j) = true
apart c.Number (c.Mark j) = true
apart c.Number c.Name = true
apart c.Number c.Number = false
apart c.Number c.Zero = false
apart c.Number c.Operand = true
apart c.Number c.Operator = true
apart c.Zero (c.Word j) = true
apart c.Zero (c.Mark j) = true
apart c.Zero c.Name = true
apart c.Zero c.Number = false
apart c.Zero c.Zero = false
apart c.Zero c.Operand = true
apart c.Zero c.Operator = true
apart c.Operand (c.Word j) = true
apart c.Operand (c.Mark j) = true
apart c.Operand c.Name = false
apart c.Operand c.Number = true
apart c.Operand c.Zero = true
apart c.Operand c.Operand = false
apart c.Operand c.Operator = true
apart c.Operator (c.Word j) = true
apart c.Operator (c.Mark j) = not (has_text operator_texts (sign_text j))
apart c.Operator c.Name = true
apart c.Operator c.Number = true
apart c.Operator c.Zero = true
apart c.Operator c.Operand = true
apart c.Operator c.Operator = false

apart_true : (c d : Class) (t : Token) → apart c d ≡ true → FitsClass c t → FitsClass d t → ⊥
apart_true (c.Word k) (c.Word j) t e h q = differs_true (keyword_text k) (keyword_text j) e (word_text (keyword_text k) (keyword_text j) (sym h ∙ q))
apart_true (c.Word k) (c.Mark j) t e h q = absurd cc
apart_true (c.Word k) c.Name t e h (uq, q, zq) = name_no_keyword uq k zq (word_text uq (keyword_text k) (sym q ∙ h))
apart_true (c.Word k) c.Number t e h (uq, q) = absurd cc
apart_true (c.Word k) c.Zero t e h q = absurd cc
apart_true (c.Word k) c.Operand t e h (inl (uq, q, zq)) = name_no_keyword uq k zq (word_text uq (keyword_text k) (sym q ∙ h))
apart_true (c.Word k) c.Operand t e h (inr (uq, yq, q)) = absurd cc
apart_true (c.Word k) c.Operator t e h (uq, q) = absurd cc
apart_true (c.Mark k) (c.Word j) t e h q = absurd cc
apart_true (c.Mark k) (c.Mark j) t e h q = differs_true (sign_text k) (sign_text j) e (sign_token_text (sign_text k) (sign_text j) (sym h ∙ q))
apart_true (c.Mark k) c.Name t e h (uq, q, zq) = absurd cc
apart_true (c.Mark k) c.Number t e h (uq, q) = absurd cc
apart_true (c.Mark k) c.Zero t e h q = absurd cc
apart_true (c.Mark k) c.Operand t e h (inl (uq, q, zq)) = absurd cc
apart_true (c.Mark k) c.Operand t e h (inr (uq, yq, q)) = absurd cc
apart_true (c.Mark k) c.Operator t e h (uq, q) = no_operator_text (sign_text k) uq e (sign_token_text (sign_text k) (operator uq) (sym h ∙ q))
apart_true c.Name (c.Word j) t e (uh, h, zh) q = name_no_keyword uh j zh (word_text uh (keyword_text j) (sym h ∙ q))
apart_true c.Name (c.Mark j) t e (uh, h, zh) q = absurd cc
apart_true c.Name c.Name t e h q = absurd (false≢true e)
apart_true c.Name c.Number t e (uh, h, zh) (uq, q) = absurd cc
apart_true c.Name c.Zero t e (uh, h, zh) q = absurd cc
apart_true c.Name c.Operand t e h q = absurd (false≢true e)
apart_true c.Name c.Operator t e (uh, h, zh) (uq, q) = absurd cc
apart_true c.Number (c.Word j) t e (uh, h) q = absurd cc
apart_true c.Number (c.Mark j) t e (uh, h) q = absurd cc
apart_true c.Number c.Name t e (uh, h) (uq, q, zq) = absurd cc
apart_true c.Number c.Number t e h q = absurd (false≢true e)
apart_true c.Number c.Zero t e h q = absurd (false≢true e)
apart_true c.Number c.Operand t e (uh, h) (inl (uq, q, zq)) = absurd cc
apart_true c.Number c.Operand t e (uh, h) (inr (uq, yq, q)) = absurd cc
apart_true c.Number c.Operator t e (uh, h) (uq, q) = absurd cc
apart_true c.Zero (c.Word j) t e h q = absurd cc
apart_true c.Zero (c.Mark j) t e h q = absurd cc
apart_true c.Zero c.Name t e h (uq, q, zq) = absurd cc
apart_true c.Zero c.Number t e h q = absurd (false≢true e)
apart_true c.Zero c.Zero t e h q = absurd (false≢true e)
apart_true c.Zero c.Operand t e h (inl (uq, q, zq)) = absurd cc
apart_true c.Zero c.Operand t e h (inr (uq, yq, q)) = absurd cc
apart_true c.Zero c.Operator t e h (uq, q) = absurd cc
apart_true c.Operand (c.Word j) t e (inl (uh, h, zh)) q = name_no_keyword uh j zh (word_text uh (keyword_text j) (sym h ∙ q))
apart_true c.Operand (c.Word j) t e (inr (uh, yh, h)) q = absurd cc
apart_true c.Operand (c.Mark j) t e (inl (uh, h, zh)) q = absurd cc
apart_true c.Operand (c.Mark j) t e (inr (uh, yh, h)) q = absurd cc
apart_true c.Operand c.Name t e h q = absurd (false≢true e)
apart_true c.Operand c.Number t e (inl (uh, h, zh)) (uq, q) = absurd cc
apart_true c.Operand c.Number t e (inr (uh, yh, h)) (uq, q) = absurd cc
apart_true c.Operand c.Zero t e (inl (uh, h, zh)) q = absurd cc
apart_true c.Operand c.Zero t e (inr (uh, yh, h)) q = absurd cc
apart_true c.Operand c.Operand t e h q = absurd (false≢true e)
apart_true c.Operand c.Operator t e (inl (uh, h, zh)) (uq, q) = absurd cc
apart_true c.Operand c.Operator t e (inr (uh, yh, h)) (uq, q) = absurd cc
apart_true c.Operator (c.Word j) t e (uh, h) q = absurd cc
apart_true c.Operator (c.Mark j) t e (uh, h) q = no_operator_text (sign_text j) uh e (sign_token_text (sign_text j) (operator uh) (sym q ∙ h))
apart_true c.Operator c.Name t e (uh, h) (uq, q, zq) = absurd cc
apart_true c.Operator c.Number t e (uh, h) (uq, q) = absurd cc
apart_true c.Operator c.Zero t e (uh, h) q = absurd cc
apart_true c.Operator c.Operand t e (uh, h) (inl (uq, q, zq)) = absurd cc
apart_true c.Operator c.Operand t e (uh, h) (inr (uq, yq, q)) = absurd cc
apart_true c.Operator c.Operator t e h q = absurd (false≢true e)

-- at some place the classes have no token in common
abbrev clash : List Class → List Class → Bool
clash [] ds = false
clash (c ∷ cs) [] = false
clash (c ∷ cs) (d ∷ ds) = apart c d || clash cs ds

clash_true : (cs ds : List Class) (taken taken2 rest rest2 : List Token) → clash cs ds ≡ true → FitsAll cs taken → FitsAll ds taken2 → taken ++ rest ≡ taken2 ++ rest2 → ⊥
clash_true [] ds taken taken2 rest rest2 e h k same = false≢true e
clash_true (c ∷ cs) [] taken taken2 rest rest2 e h k same = false≢true e
clash_true (c ∷ cs) (d ∷ ds) [] taken2 rest rest2 e h k same = h
clash_true (c ∷ cs) (d ∷ ds) (t ∷ ts) [] rest rest2 e h k same = k
clash_true (c ∷ cs) (d ∷ ds) (t ∷ ts) (u ∷ us) rest rest2 e h k same =
    elim (or_cases (apart c d) (clash cs ds) e) [
      | inl b ↦ apart_true c d t b h.0 (subst (FitsClass d) (sym (cons_head t u (ts ++ rest) (us ++ rest2) same)) k.0)
      | inr b ↦ clash_true cs ds ts us rest rest2 b h.1 k.1 (cons_tail t u (ts ++ rest) (us ++ rest2) same)
    ]

same_taken : (cs : List Class) (taken taken2 rest rest2 : List Token) → FitsAll cs taken → FitsAll cs taken2 → taken ++ rest ≡ taken2 ++ rest2 → rest ≡ rest2
same_taken [] [] [] rest rest2 h k e = e
same_taken [] [] (u ∷ us) rest rest2 h k e = absurd k
same_taken [] (t ∷ ts) taken2 rest rest2 h k e = absurd h
same_taken (c ∷ cs) [] taken2 rest rest2 h k e = absurd h
same_taken (c ∷ cs) (t ∷ ts) [] rest rest2 h k e = absurd k
same_taken (c ∷ cs) (t ∷ ts) (u ∷ us) rest rest2 h k e = same_taken cs ts us rest rest2 h.1 k.1 (cons_tail t u (ts ++ rest) (us ++ rest2) e)

abbrev form_number : Form → ℕ
form_number f.Start = 0
form_number f.Head = 1
form_number f.HeaderName = 2
form_number f.Clock = 3
form_number f.Input = 4
form_number f.Output = 5
form_number f.Register = 6
form_number f.Memory = 7
form_number f.CopyWire = 8
form_number f.NotWire = 9
form_number f.PairWire = 10
form_number f.PickWire = 11
form_number f.JoinWire = 12
form_number f.PartWire = 13
form_number f.WordWire = 14
form_number f.Assign = 15
form_number f.RegisterBlock = 16
form_number f.MemoryBlock = 17
form_number f.Port = 18
form_number f.BlockEnd = 19
form_number f.ModuleEnd = 20

abbrev all_forms : List Form
all_forms = f.Start ∷ f.Head ∷ f.HeaderName ∷ f.Clock ∷ f.Input ∷ f.Output ∷ f.Register ∷ f.Memory ∷ f.CopyWire ∷ f.NotWire ∷ f.PairWire ∷ f.PickWire ∷ f.JoinWire ∷ f.PartWire ∷ f.WordWire ∷ f.Assign ∷ f.RegisterBlock ∷ f.MemoryBlock ∷ f.Port ∷ f.BlockEnd ∷ f.ModuleEnd ∷ []

form_back : (x : Form) → get_or all_forms (form_number x) f.Start ≡ x
form_back f.Start = refl
form_back f.Head = refl
form_back f.HeaderName = refl
form_back f.Clock = refl
form_back f.Input = refl
form_back f.Output = refl
form_back f.Register = refl
form_back f.Memory = refl
form_back f.CopyWire = refl
form_back f.NotWire = refl
form_back f.PairWire = refl
form_back f.PickWire = refl
form_back f.JoinWire = refl
form_back f.PartWire = refl
form_back f.WordWire = refl
form_back f.Assign = refl
form_back f.RegisterBlock = refl
form_back f.MemoryBlock = refl
form_back f.Port = refl
form_back f.BlockEnd = refl
form_back f.ModuleEnd = refl

same_form : (x y : Form) → form_number x ≡ form_number y → x ≡ y
same_form x y e = sym (form_back x) ∙ (ap (λ n. get_or all_forms n f.Start) e ∙ form_back y)

-- two forms that may follow one form are one, or their tokens differ
abbrev tell_apart : List Form → Bool
tell_apart forms = every (λ x. every (λ y. eqb (form_number x) (form_number y) || clash (classes_of x) (classes_of y)) forms) forms

all_told : (form : Form) → tell_apart (followers_of form) ≡ true
all_told f.Start = refl
all_told f.Head = refl
all_told f.HeaderName = refl
all_told f.Clock = refl
all_told f.Input = refl
all_told f.Output = refl
all_told f.Register = refl
all_told f.Memory = refl
all_told f.CopyWire = refl
all_told f.NotWire = refl
all_told f.PairWire = refl
all_told f.PickWire = refl
all_told f.JoinWire = refl
all_told f.PartWire = refl
all_told f.WordWire = refl
all_told f.Assign = refl
all_told f.RegisterBlock = refl
all_told f.MemoryBlock = refl
all_told f.Port = refl
all_told f.BlockEnd = refl
all_told f.ModuleEnd = refl

told : (form x y : Form) → Contains (followers_of form) x → Contains (followers_of form) y → (x ≡ y) ⊎ (clash (classes_of x) (classes_of y) ≡ true)
told form x y hx hy =
    let fs = followers_of form in
    let row = All-contains (λ x. every (λ y. eqb (form_number x) (form_number y) || clash (classes_of x) (classes_of y)) fs ≡ true) fs x
    (every_true (λ x. every (λ y. eqb (form_number x) (form_number y) || clash (classes_of x) (classes_of y)) fs) fs (all_told form)) hx in
    let here = All-contains (λ y. (eqb (form_number x) (form_number y) || clash (classes_of x) (classes_of y)) ≡ true) fs y
    (every_true (λ y. eqb (form_number x) (form_number y) || clash (classes_of x) (classes_of y)) fs row) hy in
    elim (or_cases _ _ here) [ inl e ↦ inl (same_form x y (eqb-true _ _ e)) | inr e ↦ inr e ]

-- ---- what goes on behind a form

abbrev pub End : Form → List Token → Type 0
End form tokens = (form ≡ f.ModuleEnd) × (tokens ≡ [])

pub record Step (form : Form) (tokens : List Token) : Type 0 where
  pub next : Form
  pub taken : List Token
  pub rest : List Token
  pub whole : tokens ≡ taken ++ rest
  pub may : Contains (followers_of form) next
  pub fits : FitsAll (classes_of next) taken
  pub on : Goes next rest

pub opened : (form : Form) (tokens : List Token) → Goes form tokens → End form tokens ⊎ Step form tokens
opened _ _ ended = inl (refl, refl)
opened form _ (goes form2 next taken rest may fits on) = inr (record { next = next; taken = taken; rest = rest; whole = refl; may = may; fits = fits; on = on })

pub no_follower : (x : Form) → Contains [] x → ⊥
no_follower x h = omega (arith, h.1)

pub step_back : (form next : Form) (taken after : List Token) → Contains (followers_of form) next → FitsAll (classes_of next) taken → Goes form (taken ++ after) → Goes next after
step_back form next taken after may fits on =
    elim (opened form (taken ++ after) on) [
      | inl e ↦ absurd (no_follower next (subst (λ x. Contains (followers_of x) next) e.0 may))
      | inr s ↦
          elim (told form next s.next may s.may) [
            | inl same ↦
                let fits2 : FitsAll (classes_of next) s.taken = subst (λ x. FitsAll (classes_of x) s.taken) (sym same) s.fits in
                let rest : after ≡ s.rest = same_taken (classes_of next) taken s.taken after s.rest fits fits2 s.whole in
                subst (λ x. Goes x after) (sym same) (subst (Goes s.next) (sym rest) s.on)
            | inr c ↦ absurd (clash_true (classes_of next) (classes_of s.next) taken s.taken after s.rest c fits s.fits s.whole)
          ]
    ]
