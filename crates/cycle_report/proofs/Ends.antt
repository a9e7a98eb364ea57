-- What the reader of a whole text answers, and the place where it stops.
use Rattle.std.proofs.Common.{◌≡◌, ℕ, suc, ◌+◌, ◌-◌, ◌<◌, ◌≤◌, List, [], ◌∷◌, ◌++◌, length, take, sym, ap, ◌∙◌, subst, refl, append_assoc, arith, Result, Ok, Err, inl, inr, length-append, Bool, true, false, ◌==◌}
use Rattle.std.specs.Result.{IsErrAnd}
use Rattle.std.proofs.Math.Seq.{take-append_seam}
use Rattle.hls_base.specs.declared.place.Place.{Place}
use Rattle.cycle_report.specs.declared.cursor.Stop.{Stop}
use Rattle.cycle_report.specs.declared.cursor.Stop.TheVariants.{Refused, Memory}
use Rattle.cycle_report.specs.declared.report.Report.{Report}
use Rattle.cycle_report.specs.PlainReport.{PlainReport, plain_of}
use Rattle.cycle_report.specs.ReportForm.{IsReport, BeginsReport, IsFirstBadByte, IsRefusedAs, largest_report}
use Rattle.hls_base.specs.TextPlaces.{place_after, text_start}
use Rattle.cycle_report.specs.Reading.{Found, Stuck, ReadsAs, SameNext}
use Rattle.cycle_report.specs.Forms as forms
use Rattle.cycle_report.specs.Views.{StopsReport, ReadsWhole}
use Rattle.cycle_report.proofs.Appends.{append_none}
use Rattle.std.proofs.lemmas.Bool.Decides.{eqb_tells}
use Rattle.cycle_report.proofs.Reading.{next_ends, true_false}

whole_stuck : (old new : List ℕ) → Stuck forms.report old new → StopsReport old new
whole_stuck old new s = record {
  front = s.front;
  cut = s.cut;
  goes = record { report = s.value; rest = s.rest; is = record { form = s.is.0; fits = s.is.1; text = sym s.goes } };
  stops = λ r w i n. s.stops r [] w (i.form, i.fits) tt (append_none (forms.report.text r) ∙ sym i.text) n;
}

pub whole_found : (x : PlainReport) (old new : List ℕ) → Found forms.report x old new → new ≡ [] → IsReport old x
whole_found x old new f e = record { form = f.is.0; fits = f.is.1; text = f.text ∙ (ap (λ z. forms.report.text x ++ z) e ∙ append_none (forms.report.text x)) }

pub whole_trailing : (x : PlainReport) (old new : List ℕ) → Found forms.report x old new → (new ≡ [] → ⊥) → StopsReport old new
whole_trailing x old new f some = record {
  front = forms.report.text x;
  cut = f.text;
  goes = record { report = x; rest = []; is = record { form = f.is.0; fits = f.is.1; text = append_none (forms.report.text x) } };
  stops = λ r w i n.
      let o = f.only r [] w (i.form, i.fits) tt (append_none (forms.report.text r) ∙ sym i.text) n in
      some (next_ends new (subst (λ z. SameNext z new) (sym o.1) n));
}

whole_err : (e : Stop) (old new : List ℕ) → ReadsAs forms.report plain_of (Err e) old new → ReadsWhole (Err e) old new
whole_err Refused old new h = whole_stuck old new h
whole_err Memory old new h = tt

pub whole_passed : {Q : Stop → Type 0} {e : Stop} (r : Result Report Stop) (old new : List ℕ) → IsErrAnd r Q → ((y : Stop) → Q y → y ≡ e) → ReadsAs forms.report plain_of (Err e) old new → ReadsWhole r old new
whole_passed {Q} {e} r old new is same h =
    elim r as (λ z. IsErrAnd z Q → ReadsWhole z old new) [
      | Ok x ↦ λ i. absurd i
      | Err y ↦ λ i. subst (λ z. ReadsWhole (Err z) old new) (sym (same y i)) (whole_err e old new h)
    ] is

-- ---- the first bad byte

take_front : (front new : List ℕ) → take (length front) (front ++ new) ≡ front
take_front front new = take-append_seam front new

take_suc : (front : List ℕ) (c : ℕ) (new : List ℕ) → take (suc (length front)) (front ++ (c ∷ new)) ≡ front ++ (c ∷ [])
take_suc [] c new = refl
take_suc (d ∷ front) c new = ap (λ z. d ∷ z) (take_suc front c new)

take_next : (front : List ℕ) (c : ℕ) (new : List ℕ) → take (length front + 1) (front ++ (c ∷ new)) ≡ front ++ (c ∷ [])
take_next front c new = let e : length front + 1 ≡ suc (length front) = omega arith in ap (λ m. take m (front ++ (c ∷ new))) e ∙ take_suc front c new

no_more : (front new : List ℕ) → length front ≡ length (front ++ new) → new ≡ []
no_more [] [] h = refl
no_more [] (c ∷ new) h = absurd (omega (arith, h))
no_more (d ∷ front) new h = no_more front new (omega (arith, h))

front_longer : (front new : List ℕ) → length front < length (front ++ new) → (c : ℕ) × (rest : List ℕ) × (new ≡ c ∷ rest)
front_longer [] [] h = absurd (omega (arith, h))
front_longer [] (c ∷ new) h = (c, new, refl)
front_longer (d ∷ front) new h = front_longer front new (omega (arith, h))

first_bad : (front new : List ℕ) → BeginsReport front → ((r : PlainReport) (w : List ℕ) → IsReport (front ++ w) r → SameNext w new → ⊥) → IsFirstBadByte (front ++ new) (length front)
first_bad front new goes stops = record {
  inside = let e = length-append front new in omega (arith, e);
  before = subst BeginsReport (sym (take_front front new)) goes;
  at_byte = λ h b.
      let s = front_longer front new h in
      let t : take (length front + 1) (front ++ new) ≡ front ++ (s.0 ∷ []) = ap (λ z. take (length front + 1) (front ++ z)) s.2 ∙ take_next front s.0 s.1 in
      let text : take (length front + 1) (front ++ new) ++ b.rest ≡ front ++ (s.0 ∷ b.rest) = ap (λ z. z ++ b.rest) t ∙ append_assoc front (s.0 ∷ []) b.rest in
      stops b.report (s.0 ∷ b.rest) (subst (λ z. IsReport z b.report) text b.is) (subst (SameNext (s.0 ∷ b.rest)) (sym s.2) refl);
  at_end = λ r h i.
      let e = no_more front new h in
      stops r new i (subst (λ z. SameNext z z) (sym e) tt);
}

pub refused_place : (bytes new front' : List ℕ) (place : Place) → StopsReport bytes new → front' ≡ take (length bytes - length new) bytes → length bytes ≤ largest_report → place ≡ place_after text_start front' → IsRefusedAs bytes (record { rule = 60; place = place })
refused_place bytes new front' place s cut small at =
    let k = length s.front in
    let n : length bytes - length new ≡ k = let e = ap length s.cut ∙ length-append s.front new in omega (arith, e) in
    let bad : IsFirstBadByte bytes k = subst (λ z. IsFirstBadByte z k) (sym s.cut) (first_bad s.front new s.goes s.stops) in
    (refl, inr (small, (k, bad, at ∙ ap (place_after text_start) (cut ∙ ap (λ m. take m bytes) n))))

pub within : (bytes new : List ℕ) → StopsReport bytes new → length new ≤ length bytes
within bytes new s = let e = ap length s.cut ∙ length-append s.front new in omega (arith, e)

pub not_empty : (left rest : List ℕ) (b : Bool) → left ≡ rest → b ≡ (length left == 0) → b ≡ false → rest ≡ [] → ⊥
not_empty left rest b e f g h = true_false b (f ∙ ap (λ z. length z == 0) (e ∙ h)) g

empty_length : (xs : List ℕ) → (length xs == 0) ≡ true → xs ≡ []
empty_length [] h = refl
empty_length (x ∷ xs) h =
    elim (eqb_tells (length (x ∷ xs)) 0) [
      | inl e ↦ let t : length (x ∷ xs) ≡ 0 = e.1 in absurd (omega (arith, t))
      | inr n ↦ true_false (length (x ∷ xs) == 0) h n.0
    ]

pub is_empty : (left rest : List ℕ) (b : Bool) → left ≡ rest → b ≡ (length left == 0) → b ≡ true → rest ≡ []
is_empty left rest b e f g = sym e ∙ empty_length left (sym f ∙ g)
