-- What the reader of a whole text answers, and the place where it stops.
use Rattle.std.proofs.Common.{◌≡◌, ℕ, suc, ◌+◌, ◌-◌, ◌<◌, ◌≤◌, List, [], ◌∷◌, ◌++◌, length, take, sym, ap, ◌∙◌, subst, refl, append_assoc, arith, length-append, Bool, true, false, ◌==◌, inl, inr}
use Rattle.std.specs.Prelude.{Result, Ok, Err, IfOk}
use Rattle.hls_base.specs.Refusals.{IfRefused}
use Rattle.hls_base.specs.declared.refusal.Fail.{Fail}
use Rattle.hls_base.specs.declared.refusal.Fail.TheVariants.{Refused, Memory}
use Rattle.hls_base.specs.declared.refusal.Refusal.{Refusal}
use Rattle.std.proofs.Math.Seq.{take-append_seam}
use Rattle.std.proofs.lemmas.Bool.Decides.{eqb_tells}
use Rattle.hls_base.specs.declared.place.Place.{Place}
use Rattle.hls_base.specs.TextPlaces.{place_after, text_start}
use Rattle.aig_graph.specs.Graphs.{AndGraph, IsValid}
use Rattle.aig_text.specs.GraphText.{graph_text}
use Rattle.aig_text.specs.TextForm.{IsTail, IsText, BeginsText, IsFirstBadByte, IsRefusedAs, capped_place}
use Rattle.aig_text.specs.Reading.{Found, Stuck, SameNext}
use Rattle.aig_text.specs.Forms as forms
use Rattle.aig_text.specs.Views.{StopsTail, StopsText}
use Rattle.aig_text.proofs.Numerals.{true_false}
use Rattle.aig_text.proofs.Reading.{append_none, same_next}
use Rattle.aig_text.proofs.Graphs.{unique_graph}
use Rattle.aig_text.proofs.Tails.{tail_empty}

-- Bytes are the text of at most one graph.
pub one_text : (bytes : List ℕ) (x y : AndGraph) → IsText bytes x → IsText bytes y → x ≡ y
one_text bytes x y i j = (unique_graph x y i.tail j.tail i.valid j.valid (sym i.whole ∙ j.whole)).0

pub printed : (g : AndGraph) (bytes : List ℕ) → IsValid g → bytes ≡ graph_text g → IsText bytes g
printed g bytes v e = record { valid = v; tail = []; dropped = tail_empty; whole = e ∙ sym (append_none (graph_text g)) }

pub whole_found : (g : AndGraph) (old mid : List ℕ) → Found forms.graph g old mid → IsTail mid → IsText old g
whole_found g old mid f t = record { valid = f.is; tail = mid; dropped = t; whole = f.text }

pub whole_stuck : (old new : List ℕ) → Stuck forms.graph old new → StopsText old new
whole_stuck old new s = record {
  front = s.front;
  cut = s.cut;
  goes = record { graph = s.value; rest = s.rest; is = printed s.value (s.front ++ s.rest) s.is (sym s.goes) };
  stops = λ g w i n. s.stops g i.tail w i.valid (sym i.whole) n;
}

pub whole_trailing : (g : AndGraph) (old mid new : List ℕ) → Found forms.graph g old mid → StopsTail mid new → StopsText old new
whole_trailing g old mid new f s =
    let text = graph_text g in
    record {
      front = text ++ s.front;
      cut = f.text ∙ (ap (λ z. text ++ z) s.cut ∙ sym (append_assoc text s.front new));
      goes = record { graph = g; rest = s.rest; is = record { valid = f.is; tail = s.front ++ s.rest; dropped = s.goes; whole = append_assoc text s.front s.rest } };
      stops = λ h w i n.
          let r = unique_graph h g i.tail (s.front ++ w) i.valid f.is (sym i.whole ∙ append_assoc text s.front w) in
          s.stops w (subst IsTail r.1 i.dropped) n;
    }

-- ---- the first bad byte

take_suc : (front : List ℕ) (c : ℕ) (new : List ℕ) → take (suc (length front)) (front ++ (c ∷ new)) ≡ front ++ (c ∷ [])
take_suc [] c new = refl
take_suc (d ∷ front) c new = ap (λ z. d ∷ z) (take_suc front c new)

take_next : (front : List ℕ) (c : ℕ) (new : List ℕ) → take (length front + 1) (front ++ (c ∷ new)) ≡ front ++ (c ∷ [])
take_next front c new = let e : length front + 1 ≡ suc (length front) = omega arith in ap (λ m. take m (front ++ (c ∷ new))) e ∙ take_suc front c new

no_more : (front new : List ℕ) → length front ≡ length (front ++ new) → new ≡ []
no_more [] [] h = refl
no_more [] (c ∷ new) h = absurd (omega (arith, h))
no_more (d ∷ front) new h = no_more front new (omega (arith, h))

front_longer : (front new : List ℕ) → length front < length (front ++ new) → (c : ℕ) × (rest : List ℕ) × (new ≡ c ∷ rest)
front_longer [] [] h = absurd (omega (arith, h))
front_longer [] (c ∷ new) h = (c, new, refl)
front_longer (d ∷ front) new h = front_longer front new (omega (arith, h))

first_bad : (front new : List ℕ) → BeginsText front → ((g : AndGraph) (w : List ℕ) → IsText (front ++ w) g → SameNext w new → ⊥) → IsFirstBadByte (front ++ new) (length front)
first_bad front new goes stops = record {
  inside = let e = length-append front new in omega (arith, e);
  before = subst BeginsText (sym (take-append_seam front new)) goes;
  at_byte = λ h b.
      let s = front_longer front new h in
      let t : take (length front + 1) (front ++ new) ≡ front ++ (s.0 ∷ []) = ap (λ z. take (length front + 1) (front ++ z)) s.2 ∙ take_next front s.0 s.1 in
      let text : take (length front + 1) (front ++ new) ++ b.rest ≡ front ++ (s.0 ∷ b.rest) = ap (λ z. z ++ b.rest) t ∙ append_assoc front (s.0 ∷ []) b.rest in
      stops b.graph (s.0 ∷ b.rest) (subst (λ z. IsText z b.graph) text b.is) (subst (SameNext (s.0 ∷ b.rest)) (sym s.2) refl);
  at_end = λ g h i.
      let e = no_more front new h in
      stops g new i (subst (λ z. SameNext z z) (sym e) tt);
}

pub refused_place : (bytes new front' : List ℕ) (place : Place) → StopsText bytes new → front' ≡ take (length bytes - length new) bytes → place ≡ capped_place (place_after text_start front') → IsRefusedAs bytes (record { rule = 71; place = place })
refused_place bytes new front' place s cut at =
    let k = length s.front in
    let n : length bytes - length new ≡ k = let e = ap length s.cut ∙ length-append s.front new in omega (arith, e) in
    let bad : IsFirstBadByte bytes k = subst (λ z. IsFirstBadByte z k) (sym s.cut) (first_bad s.front new s.goes s.stops) in
    (refl, (k, bad, at ∙ ap (λ z. capped_place (place_after text_start z)) (cut ∙ ap (λ m. take m bytes) n)))

pub within : (bytes new : List ℕ) → StopsText bytes new → length new ≤ length bytes
within bytes new s = let e = ap length s.cut ∙ length-append s.front new in omega (arith, e)

pub not_empty : (left rest : List ℕ) (b : Bool) → left ≡ rest → b ≡ (length left == 0) → b ≡ false → rest ≡ [] → ⊥
not_empty left rest b e f g h = true_false b (f ∙ ap (λ z. length z == 0) (e ∙ h)) g

empty_length : (xs : List ℕ) → (length xs == 0) ≡ true → xs ≡ []
empty_length [] h = refl
empty_length (x ∷ xs) h =
    elim (eqb_tells (length (x ∷ xs)) 0) [
      | inl e ↦ let t : length (x ∷ xs) ≡ 0 = e.1 in absurd (omega (arith, t))
      | inr n ↦ true_false (length (x ∷ xs) == 0) h n.0
    ]

pub is_empty : (left rest : List ℕ) (b : Bool) → left ≡ rest → b ≡ (length left == 0) → b ≡ true → rest ≡ []
is_empty left rest b e f g = sym e ∙ empty_length left (sym f ∙ g)

pub some_length : (xs : List ℕ) → (xs ≡ [] → ⊥) → 1 ≤ length xs
some_length [] h = absurd (h refl)
some_length (x ∷ xs) h = omega arith

-- no bytes at which the reader stops are a text
pub no_text : (bytes new : List ℕ) (g : AndGraph) → StopsText bytes new → IsText bytes g → ⊥
no_text bytes new g s i = s.stops g new (subst (λ z. IsText z g) s.cut i) (same_next new)

pub if_ok : {A E : Type 0} {P Q : A → Type 0} (r : Result A E) → IfOk r P → ((x : A) → P x → Q x) → IfOk r Q
if_ok (Ok x) h f = f x h
if_ok (Err e) h f = tt

pub if_refused : {A : Type 0} {P Q : Refusal → Type 0} (r : Result A Fail) → IfRefused r P → ((x : Refusal) → P x → Q x) → IfRefused r Q
if_refused (Ok x) h f = tt
if_refused (Err (Refused x)) h f = f x h
if_refused (Err Memory) h f = tt
