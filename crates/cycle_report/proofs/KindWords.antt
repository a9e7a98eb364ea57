-- Of the words of the kinds of points, the one that stands next, or how far the longest goes.
use Rattle.std.proofs.Common.{◌≡◌, ℕ, ◌+◌, ◌≤◌, ◌<◌, cond, eqb, List, [], ◌∷◌, ◌++◌, length, drop, get_or, max, sym, ap, ◌∙◌, subst, refl, append_assoc, arith, ◌⊎◌, inl, inr, length-append}
use Rattle.hls_base.specs.declared.point.PointKind.{PointKind}
use Rattle.hls_base.specs.declared.point.PointKind.TheVariants as kind
use Rattle.cycle_report.specs.ReportText.{kind_text}
use Rattle.cycle_report.specs.Reading.{Found, Stuck, SameNext, IsShared}
use Rattle.cycle_report.specs.Forms as forms
use Rattle.cycle_report.proofs.Reading.{next_behind}
use Rattle.cycle_report.proofs.Atoms.{same_front, part_next, length_append, shared_right, word_found}

-- ---- a kind's word is no other's front

kind_at : ℕ → ℕ → PointKind
kind_at a b = cond (eqb a 116) kind.Test (cond (eqb a 115) kind.Step (cond (eqb a 97) kind.Arm (cond (eqb b 110) kind.End (cond (eqb b 101) kind.Begin kind.Body))))

kind_in : List ℕ → PointKind
kind_in [] = kind.Arm
kind_in (a ∷ []) = kind.Arm
kind_in (a ∷ (b ∷ bs)) = kind_at a b

kind_back : (k : PointKind) (w : List ℕ) → kind_in (kind_text k ++ w) ≡ k
unfolding kind_in kind_at
kind_back kind.Begin w = refl
kind_back kind.Test w = refl
kind_back kind.Body w = refl
kind_back kind.Step w = refl
kind_back kind.End w = refl
kind_back kind.Arm w = refl

one_kind : (j k : PointKind) (v w : List ℕ) → kind_text j ++ v ≡ kind_text k ++ w → (j ≡ k) × (v ≡ w)
one_kind j k v w e =
    let s : j ≡ k = sym (kind_back j v) ∙ (ap kind_in e ∙ kind_back k w) in
    (s, same_front (kind_text k) v w (ap (λ i. kind_text i ++ v) (sym s) ∙ e))

pub kind_found : (k : PointKind) (w old : List ℕ) (n : ℕ) (new : List ℕ) → w ≡ kind_text k → IsShared w old n → new ≡ drop n old → n ≡ length w → Found forms.kind k old new
kind_found k w old n new is s e h =
    let f = word_found w old n new s e (omega (arith, h)) in
    record { is = tt; text = f.text ∙ ap (λ z. z ++ new) is; only = λ y v u i g m next. one_kind y k v u m }

-- ---- no kind's word goes on

pub record Missed (w left : List ℕ) (most : ℕ) : Type 0 where
  pub n : ℕ
  pub shared : IsShared w left n
  pub short : n < length w
  pub low : n ≤ most

pub record Longest (left : List ℕ) (most : ℕ) : Type 0 where
  pub point : PointKind
  pub front : List ℕ
  pub rest : List ℕ
  pub right : List ℕ
  pub goes : kind_text point ≡ front ++ rest
  pub cut : left ≡ front ++ right
  pub long : length front ≡ most

-- these kinds' words do not stand next, and the longest front of one that does is so long
pub record Tried (left : List ℕ) (kinds : List PointKind) (done most : ℕ) : Type 0 where
  pub missed : (k : ℕ) → k < done → Missed (kind_text (get_or kinds k kind.Begin)) left most
  pub longest : Longest left most

pub tried_none : (left : List ℕ) (kinds : List PointKind) → Tried left kinds 0 0
tried_none left kinds = record {
  missed = λ k h. absurd (omega (arith, h));
  longest = record { point = kind.Arm; front = []; rest = kind_text kind.Arm; right = left; goes = refl; cut = refl; long = refl };
}

missed_more : (w left : List ℕ) (a b : ℕ) → a ≤ b → Missed w left a → Missed w left b
missed_more w left a b h m = record { n = m.n; shared = m.shared; short = m.short; low = omega (arith, m.low) }

shared_short : (w left : List ℕ) (n : ℕ) → IsShared w left n → n ≤ length w
shared_short w left n s = let e = ap length s.here ∙ length-append s.front s.left in omega (arith, e, s.long)

last_or_before : (k n : ℕ) → k < n + 1 → (k < n) ⊎ (k ≡ n)
last_or_before k n h = grind arith

pub tried_more : (left w : List ℕ) (kinds : List PointKind) (k : PointKind) (done most n next : ℕ) → Tried left kinds done most → get_or kinds done kind.Begin ≡ k → w ≡ kind_text k → IsShared w left n → (n ≡ length w → ⊥) →
    (most ≤ next) → (n ≤ next) → (next ≡ most) ⊎ (next ≡ n) → Tried left kinds (done + 1) next
tried_more left w kinds k done most n next t is text s miss low high which =
    let short = shared_short w left n s in
    record {
      missed = λ i h. elim (last_or_before i done h) [
        | inl b ↦ missed_more _ left most next low (t.missed i b)
        | inr b ↦
            let same : w ≡ kind_text (get_or kinds i kind.Begin) = text ∙ ap kind_text (sym is ∙ ap (λ j. get_or kinds j kind.Begin) (sym b)) in
            subst (λ z. Missed z left next) same (record { n = n; shared = s; short = grind (arith, miss, short); low = high })
      ];
      longest = elim which [
        | inl e ↦ subst (Longest left) (sym e) t.longest
        | inr e ↦ record { point = k; front = s.front; rest = s.left; right = s.right; goes = sym text ∙ s.here; cut = s.there; long = s.long ∙ sym e }
      ];
    }

-- of two fronts of one list the shorter begins the other
shorter_front : (x a y b : List ℕ) → x ++ a ≡ y ++ b → length x ≤ length y → (g : List ℕ) × (y ≡ x ++ g) × (a ≡ g ++ b)
shorter_front [] a y b e h = (y, refl, e)
shorter_front (c ∷ x) a [] b e h = absurd (omega arith)
shorter_front (c ∷ x) a (d ∷ y) b e h =
    let p : c ≡ d = cc in
    let f : x ++ a ≡ y ++ b = cc in
    let r = shorter_front x a y b f (omega (arith, h)) in
    (r.0, ap (λ z. d ∷ z) r.1 ∙ ap (λ z. z ∷ (x ++ r.0)) (sym p), r.2)

missed_stops : (w left front new v u : List ℕ) (most : ℕ) → Missed w left most → left ≡ front ++ new → length front ≡ most → w ++ v ≡ front ++ u → SameNext u new → ⊥
missed_stops w left front new v u most m cut long e next =
    let s = m.shared in
    let r = shorter_front s.front s.right front new (sym s.there ∙ cut) (omega (arith, s.long, m.low, long)) in
    let f : s.front ++ (s.left ++ v) ≡ s.front ++ (r.0 ++ u) =
    sym (append_assoc s.front s.left v) ∙ (ap (λ z. z ++ v) (sym s.here) ∙ (e ∙ (ap (λ z. z ++ u) r.1 ∙ append_assoc s.front r.0 u))) in
    let g : s.left ++ v ≡ r.0 ++ u = same_front s.front (s.left ++ v) (r.0 ++ u) f in
    let some : 0 < length s.left = length_append s.front s.left (subst (λ z. length s.front < length z) s.here (omega (arith, s.long, m.short))) in
    part_next s.left s.right v (r.0 ++ u) s.part some g (subst (SameNext (r.0 ++ u)) (sym r.2) (next_behind r.0 u new next))

abbrev pub all_kinds : List PointKind
all_kinds = kind.Begin ∷ kind.Test ∷ kind.Body ∷ kind.Step ∷ kind.End ∷ kind.Arm ∷ []

kind_number : (k : PointKind) → (i : ℕ) × (i < 6) × (get_or all_kinds i kind.Begin ≡ k)
kind_number kind.Begin = (0, omega arith, refl)
kind_number kind.Test = (1, omega arith, refl)
kind_number kind.Body = (2, omega arith, refl)
kind_number kind.Step = (3, omega arith, refl)
kind_number kind.End = (4, omega arith, refl)
kind_number kind.Arm = (5, omega arith, refl)

pub tried_within : (left : List ℕ) (kinds : List PointKind) (done most : ℕ) → Tried left kinds done most → most ≤ length left
tried_within left kinds done most t = let e = ap length t.longest.cut ∙ length-append t.longest.front t.longest.right in omega (arith, e, t.longest.long)

pub kind_stuck : (left : List ℕ) (done most : ℕ) (new : List ℕ) → Tried left all_kinds done most → 6 ≤ done → new ≡ drop most left → Stuck forms.kind left new
kind_stuck left done most new t h e =
    let l = t.longest in
    let right : new ≡ l.right = e ∙ (ap (drop most) l.cut ∙ shared_right l.front l.right most l.long) in
    let cut : left ≡ l.front ++ new = l.cut ∙ ap (λ z. l.front ++ z) (sym right) in
    record {
      front = l.front;
      cut = cut;
      value = l.point;
      is = tt;
      rest = l.rest;
      goes = l.goes;
      stops = λ y v w i f g n.
          let k = kind_number y in
          let m = subst (λ z. Missed (kind_text z) left most) k.2 (t.missed k.0 (omega (arith, k.1, h))) in
          missed_stops (kind_text y) left l.front new v w most m cut l.long g n;
    }

pub max_which : (m n k : ℕ) → k ≡ max m n → (k ≡ m) ⊎ (k ≡ n)
max_which m n k e = grind arith
