-- The parts of a report, each as one piece behind another.
use Rattle.std.proofs.Common.{◌≡◌, ℕ, zero, suc, ◌^◌, ◌≤◌, ◌<◌, Bool, true, false, ◌||◌, ◌==◌, IsTrue, List, [], ◌∷◌, ◌++◌, codes, sym, ap, ◌∙◌, subst, refl, append_assoc, arith, inl, inr, ◌⊎◌}
use Rattle.std.specs.Fmt.{decimal, digits}
use Rattle.std.specs.List.{All, list_all}
use Rattle.std.proofs.lemmas.Bool.Decides.{eqb_tells}
use Rattle.std.proofs.lemmas.List.Elements.{All-head, All-tail, All-nil, All-cons}
use Rattle.hls_base.specs.declared.place.Place.{Place}
use Rattle.hls_base.specs.declared.point.PointKind.{PointKind}
use Rattle.hls_base.specs.declared.point.PointKind.TheVariants.{Body, Arm}
use Rattle.hls_base.specs.declared.settings.Settings.{Settings}
use Rattle.hls_base.specs.PlaceText.{place_text, part_text}
use Rattle.cycle_report.specs.declared.report.Cost.{Cost}
use Rattle.cycle_report.specs.declared.report.Edge4.{Edge4}
use Rattle.cycle_report.specs.declared.report.MemoryRow.{MemoryRow}
use Rattle.cycle_report.specs.PlainReport.{PlainLoop, PlainUnits, PlainReport}
use Rattle.cycle_report.specs.ReportText.{lines_of, path_text, kind_text, flag_text, some_number, init_line, edge_line}
use Rattle.cycle_report.specs.ReportForm.{is_digit, FitsPlace}
use Rattle.cycle_report.specs.Reading.{Texts, SameNext, Follows, begins, word, count, name, both, many}
use Rattle.cycle_report.specs.Forms as forms
use Rattle.cycle_report.specs.Forms.{in_place, in_path}
use Rattle.cycle_report.proofs.Cuts.{decimal_digits, and_left, not_true}
use Rattle.cycle_report.proofs.Texts.{head_flat, last_flat}
use Rattle.cycle_report.proofs.Reading.{View, Apart, Fits, Has, Heads, any_follows, begins_next, begins_itself, follows_begins, true_false, or_false}
use Rattle.cycle_report.proofs.Atoms.{some_count, some_word, decimal_some}

abbrev pub max8 : ℕ
max8 = 255

abbrev pub max32 : ℕ
max32 = 4294967295

abbrev pub max64 : ℕ
max64 = 18446744073709551615

pub some32 : (w : List ℕ) → Has (count w 0 max32)
some32 w = some_count w 0 max32 (omega arith)

-- ---- which texts cannot go on

-- it begins with another byte
apart_head : {A : Type 0} (S : Texts A) (a : A) (h : ℕ) (r old : List ℕ) → S.text a ≡ h ∷ r → begins h old ≡ false → Apart S a old
apart_head S a h r old e k v f n =
    true_false (begins h old) (sym (begins_next h (S.text a ++ v) old n) ∙ (ap (λ t. begins h (t ++ v)) e ∙ begins_itself h (r ++ v))) k

-- it is empty, and the next byte never stands behind it
apart_none : {A : Type 0} (S : Texts A) (a : A) (h : ℕ) (old : List ℕ) → S.text a ≡ [] → S.never h ≡ true → begins h old ≡ true → Apart S a old
apart_none S a h old e k b v f n =
    true_false (begins h v) (begins_next h v old (subst (λ t. SameNext (t ++ v) old) e n) ∙ b) (follows_begins S.never h v k f)

after_or : (f g : ℕ → Bool) (v : List ℕ) → Follows (λ c. f c || g c) v → Follows g v
after_or f g [] h = tt
after_or f g (c ∷ v) h = (or_false (f c) (g c) h).1

-- ---- places

pub part_none : (old : List ℕ) → begins 46 old ≡ false → View (word []) forms.part (λ x. 0) old
part_none old h = record {
  is = λ b i. omega arith;
  text = λ b i. refl;
  onto = λ a. elim a as (λ n. n < 2 ^ 32 → ((b : Unit {0}) × (Unit {0}) × (0 ≡ n)) ⊎ Apart forms.part n old) [
    | zero ↦ λ i. inl (tt, tt, refl)
    | suc n ↦ λ i. inr (apart_head forms.part (suc n) 46 (decimal (suc n)) old refl h)
  ];
  ends = λ v f. any_follows v;
}

pub part_some : (old : List ℕ) → begins 46 old ≡ true → View (count (codes ".") 1 max32) forms.part (λ n. n) old
part_some old h = record {
  is = λ b i. omega (arith, i.1);
  text = λ b. elim b as (λ n. (1 ≤ n) × (n ≤ max32) → codes "." ++ decimal n ≡ part_text n) [
    | zero ↦ λ i. absurd (omega (arith, i.0))
    | suc n ↦ λ i. refl
  ];
  onto = λ a. elim a as (λ n. n < 2 ^ 32 → ((b : ℕ) × ((1 ≤ b) × (b ≤ max32)) × (b ≡ n)) ⊎ Apart forms.part n old) [
    | zero ↦ λ i. inr (apart_none forms.part 0 46 old refl refl h)
    | suc n ↦ λ i. inl (suc n, (omega arith, omega (arith, i)), refl)
  ];
  ends = λ v f. after_or (λ c. c == 46) is_digit v f;
}

abbrev pub place_of : ℕ × (ℕ × ℕ) → Place
place_of p = record { line = p.0; column = p.1.0; part = p.1.1 }

pub place_view : (old : List ℕ) → View (both (count [] 0 max32) (both (count (codes ":") 0 max32) forms.part)) forms.place place_of old
place_view old = record {
  is = λ b i. record { line = omega (arith, i.0.1); column = omega (arith, i.1.0.1); part = i.1.1 };
  text = λ b i. refl;
  onto = λ a i. inl ((a.line, (a.column, a.part)), ((omega arith, omega (arith, i.line)), ((omega arith, omega (arith, i.column)), i.part)), refl);
  ends = λ v f. f;
}

pub part_follows : Fits (count (codes ":") 0 max32) forms.part
part_follows zero v i f = after_or (λ c. c == 46) is_digit v f
part_follows (suc n) v i f = refl

pub some_part : Has forms.part
some_part = record { value = 0; is = omega arith }

pub some_place : Has forms.place
some_place = record { value = record { line = 0; column = 0; part = 0 }; is = record { line = omega arith; column = omega arith; part = omega arith } }

pub further_view : (old : List ℕ) → View (both (word (codes ",")) forms.place) forms.further (λ p. p.1) old
further_view old = record { is = λ b i. i.1; text = λ b i. refl; onto = λ a i. inl ((tt, a), (tt, i), refl); ends = λ v f. f }

pub further_heads : Heads 44 forms.further
further_heads y i = (place_text y, refl)

-- ---- paths

-- a place begins with a digit
apart_place : (p : Place) (rest old : List ℕ) → FitsPlace p → begins 45 old ≡ true → (v : List ℕ) → SameNext ((place_text p ++ rest) ++ v) old → ⊥
apart_place p rest old fits h v n =
    let s = decimal_some p.line (omega (arith, fits.line)) in
    let d = and_left (is_digit s.0) _ (subst (λ z. IsTrue (list_all is_digit z)) s.2 (decimal_digits p.line (omega (arith, fits.line)))) in
    let e : begins 45 ((place_text p ++ rest) ++ v) ≡ (s.0 == 45) = ap (λ z. begins 45 (((z ++ (58 ∷ (decimal p.column ++ part_text p.part))) ++ rest) ++ v)) s.2 in
    let f : (s.0 == 45) ≡ true = sym e ∙ (begins_next 45 ((place_text p ++ rest) ++ v) old n ∙ h) in
    elim (eqb_tells s.0 45) [
      | inl g ↦ not_true (subst (λ c. IsTrue (is_digit c)) g.1 d)
      | inr g ↦ true_false (s.0 == 45) f g.0
    ]

pub path_none : (old : List ℕ) → begins 45 old ≡ true → View (word (codes "-")) forms.path (λ x. []) old
path_none old h = record {
  is = λ b i. All-nil FitsPlace;
  text = λ b i. refl;
  onto = λ a. elim a as (λ ps. All FitsPlace ps → ((b : Unit {0}) × (Unit {0}) × ([] ≡ ps)) ⊎ Apart forms.path ps old) [
    | [] ↦ λ i. inl (tt, tt, refl)
    | p ∷ ps ↦ λ i. inr (λ v f n. apart_place p (lines_of forms.further.text ps) old (All-head FitsPlace p ps i) h v n)
  ];
  ends = λ v f. any_follows v;
}

abbrev pub places_of : Place × List Place → List Place
places_of p = p.0 ∷ p.1

pub path_some : (old : List ℕ) → begins 45 old ≡ false → View (both forms.place (many 44 forms.further)) forms.path places_of old
path_some old h = record {
  is = λ b i. All-cons FitsPlace b.0 b.1 i.0 i.1;
  text = λ b i. refl;
  onto = λ a. elim a as (λ ps. All FitsPlace ps → ((b : Place × List Place) × (FitsPlace b.0 × All FitsPlace b.1) × (b.0 ∷ b.1 ≡ ps)) ⊎ Apart forms.path ps old) [
    | [] ↦ λ i. inr (apart_head forms.path [] 45 [] old refl h)
    | p ∷ ps ↦ λ i. inl ((p, ps), (All-head FitsPlace p ps i, All-tail FitsPlace p ps i), refl)
  ];
  ends = λ v f. f;
}

pub further_follows : Fits forms.place (many 44 forms.further)
further_follows [] v i f = after_or (λ c. c == 44) in_place v f
further_follows (p ∷ ps) v i f = refl

pub some_further : Has (many 44 forms.further)
some_further = record { value = []; is = All-nil FitsPlace }

pub some_path : Has forms.path
some_path = record { value = []; is = All-nil FitsPlace }

abbrev pub site_of : Place × ((Unit {0}) × List Place) → Place × List Place
site_of p = (p.0, p.1.1)

pub site_view : (old : List ℕ) → View (both forms.place (both (word (codes " ")) forms.path)) forms.site site_of old
site_view old = record { is = λ b i. (i.0, i.1.1); text = λ b i. refl; onto = λ a i. inl ((a.0, (tt, a.1)), (i.0, (tt, i.1)), refl); ends = λ v f. f }

pub some_site : Has forms.site
some_site = record { value = (some_place.value, []); is = (some_place.is, All-nil FitsPlace) }

pub some_kind : Has forms.kind
some_kind = record { value = Arm; is = tt }

-- ---- rows

pub cost_heads : Heads 99 forms.cost
cost_heads y i = (_, refl)

pub edge_heads : Heads 101 forms.edge
edge_heads y i = (_, refl)

pub loop_heads : Heads 108 forms.loop
loop_heads y i = (_, refl)

pub memory_heads : Heads 109 forms.memory
memory_heads y i = (_, refl)

abbrev cost_texts : Texts (ℕ × ((Unit {0}) × (PointKind × ((Unit {0}) × ((Place × List Place) × (Unit {0}))))))
cost_texts = both (count (codes "cost ") 0 max64) (both (word (codes " ")) (both forms.kind (both (word (codes " ")) (both forms.site (word (codes "\n"))))))

abbrev pub cost_of : ℕ × ((Unit {0}) × (PointKind × ((Unit {0}) × ((Place × List Place) × (Unit {0}))))) → Cost
cost_of p = record { point = record { path = p.1.1.1.1.0.1; at = p.1.1.1.1.0.0; kind = p.1.1.0 }; cost = p.0 }

pub cost_view : (old : List ℕ) → View cost_texts forms.cost cost_of old
cost_view old = record {
  is = λ b i. record { point = record { at = i.1.1.1.1.0.0; path = i.1.1.1.1.0.1 }; cost = omega (arith, i.0.1) };
  text = λ b i. ap (λ z. codes "cost " ++ (decimal b.0 ++ (codes " " ++ (kind_text b.1.1.0 ++ (codes " " ++ z))))) (append_assoc (place_text b.1.1.1.1.0.0) (codes " " ++ path_text b.1.1.1.1.0.1) (codes "\n"));
  onto = λ a i. inl ((a.cost, (tt, (a.point.kind, (tt, ((a.point.at, a.point.path), tt))))), ((omega arith, omega (arith, i.cost)), (tt, (tt, (tt, ((i.point.at, i.point.path), tt))))), refl);
  ends = λ v f. any_follows v;
}

abbrev edge_texts : Texts (ℕ × (ℕ × (ℕ × (ℕ × (Unit {0})))))
edge_texts = both (count (codes "edge ") 0 max32) (both (count (codes " ") 0 max32) (both (count (codes " ") 0 max32) (both (count (codes " ") 0 max32) (word (codes "\n")))))

abbrev pub edge_of : ℕ × (ℕ × (ℕ × (ℕ × (Unit {0})))) → Edge4
edge_of p = record { from = p.0; to = p.1.0; latency = p.1.1.0; distance = p.1.1.1.0 }

pub edge_view : (old : List ℕ) → View edge_texts forms.edge edge_of old
edge_view old = record {
  is = λ b i. record { from = omega (arith, i.0.1); to = omega (arith, i.1.0.1); latency = omega (arith, i.1.1.0.1); distance = omega (arith, i.1.1.1.0.1) };
  text = λ b i. refl;
  onto = λ a i. inl ((a.from, (a.to, (a.latency, (a.distance, tt)))), ((omega arith, omega (arith, i.from)), ((omega arith, omega (arith, i.to)), ((omega arith, omega (arith, i.latency)), ((omega arith, omega (arith, i.distance)), tt)))), refl);
  ends = λ v f. any_follows v;
}

abbrev loop_texts : Texts ((Unit {0}) × ((Place × List Place) × (ℕ × (ℕ × ((Unit {0}) × List Edge4)))))
loop_texts = both (word (codes "loop ")) (both forms.site (both (count (codes " ii ") 0 max32) (both (count (codes " exit ") 0 max32) (both (word (codes "\n")) (many 101 forms.edge)))))

abbrev pub loop_form_of : (Unit {0}) × ((Place × List Place) × (ℕ × (ℕ × ((Unit {0}) × List Edge4)))) → PlainLoop
loop_form_of p = record { point = record { path = p.1.0.1; at = p.1.0.0; kind = Body }; ii = p.1.1.0; exit = p.1.1.1.0; cycle = p.1.1.1.1.1 }

loop_flat : (a b s t p q i x e n : List ℕ) → a ++ ((p ++ (b ++ q)) ++ ((s ++ i) ++ ((t ++ x) ++ (n ++ e)))) ≡ (a ++ (p ++ (b ++ (q ++ (s ++ (i ++ (t ++ (x ++ n)))))))) ++ e
loop_flat a b s t p q i x e n = simp append_assoc

pub loop_view : (old : List ℕ) → View loop_texts forms.loop loop_form_of old
loop_view old = record {
  is = λ b i. (refl, record { point = record { at = i.1.0.0; path = i.1.0.1 }; ii = omega (arith, i.1.1.0.1); exit = omega (arith, i.1.1.1.0.1); cycle = i.1.1.1.1.1 });
  text = λ b i.
      loop_flat (codes "loop ") (codes " ") (codes " ii ") (codes " exit ") (place_text b.1.0.0) (path_text b.1.0.1) (decimal b.1.1.0) (decimal b.1.1.1.0) (lines_of edge_line b.1.1.1.1.1) (codes "\n");
  onto = λ a i. inl (
    (tt, ((a.point.at, a.point.path), (a.ii, (a.exit, (tt, a.cycle))))),
    (tt, ((i.1.point.at, i.1.point.path), ((omega arith, omega (arith, i.1.ii)), ((omega arith, omega (arith, i.1.exit)), (tt, i.1.cycle))))),
    ap (λ k. let l : PlainLoop = record { point = record { path = a.point.path; at = a.point.at; kind = k }; ii = a.ii; exit = a.exit; cycle = a.cycle } in l) (sym i.0),
  );
  ends = λ v f. f;
}

abbrev memory_texts : Texts ((Unit {0}) × (List ℕ × (ℕ × (ℕ × (ℕ × (Unit {0}))))))
memory_texts = both (word (codes "memory ")) (both name (both (count (codes " bits ") 0 max8) (both (count (codes " depth ") 0 max32) (both (count (codes " ports ") 0 max8) (word (codes "\n"))))))

abbrev pub memory_of : (Unit {0}) × (List ℕ × (ℕ × (ℕ × (ℕ × (Unit {0}))))) → MemoryRow
memory_of p = record { name = p.1.0; bits = p.1.1.0; depth = p.1.1.1.0; ports = p.1.1.1.1.0 }

pub memory_view : (old : List ℕ) → View memory_texts forms.memory memory_of old
memory_view old = record {
  is = λ b i. (i.1.0, record { bits = omega (arith, i.1.1.0.1); depth = omega (arith, i.1.1.1.0.1); ports = omega (arith, i.1.1.1.1.0.1) });
  text = λ b i. refl;
  onto = λ a i. inl ((tt, (a.name, (a.bits, (a.depth, (a.ports, tt))))), (tt, (i.0, ((omega arith, omega (arith, i.1.bits)), ((omega arith, omega (arith, i.1.depth)), ((omega arith, omega (arith, i.1.ports)), tt))))), refl);
  ends = λ v f. any_follows v;
}

pub some8 : (w : List ℕ) → Has (count w 0 max8)
some8 w = some_count w 0 max8 (omega arith)

pub newline : Has (word (codes "\n"))
newline = some_word (codes "\n")

pub blank : Has (word (codes " "))
blank = some_word (codes " ")

pub some_edges : Has (many 101 forms.edge)
some_edges = record { value = []; is = All-nil forms.edge.Is }

-- ---- the settings and the base

pub plain_view : (old : List ℕ) → View (count (codes " plain ") 0 1) forms.plain (λ n. n == 1) old
unfolding digits
plain_view old = record {
  is = λ b i. tt;
  text = λ b. elim b as (λ n. (0 ≤ n) × (n ≤ 1) → codes " plain " ++ decimal n ≡ codes " plain " ++ flag_text (n == 1)) [
    | zero ↦ λ i. refl
    | suc n ↦ λ i. let e : n ≡ 0 = omega (arith, i.1) in subst (λ m. codes " plain " ++ decimal (suc m) ≡ codes " plain " ++ flag_text (suc m == 1)) (sym e) refl
  ];
  onto = λ a. elim a as (λ b. (Unit {0}) → ((n : ℕ) × ((0 ≤ n) × (n ≤ 1)) × ((n == 1) ≡ b)) ⊎ Apart forms.plain b old) [
    | false ↦ λ i. inl (0, (omega arith, omega arith), refl)
    | true ↦ λ i. inl (1, (omega arith, omega arith), refl)
  ];
  ends = λ v f. f;
}

pub period_none : (old : List ℕ) → begins 32 old ≡ false → View (word []) forms.period (λ x. 0) old
period_none old h = record {
  is = λ b i. omega arith;
  text = λ b i. refl;
  onto = λ a. elim a as (λ n. n ≤ 1000 → ((b : Unit {0}) × (Unit {0}) × (0 ≡ n)) ⊎ Apart forms.period n old) [
    | zero ↦ λ i. inl (tt, tt, refl)
    | suc n ↦ λ i. inr (apart_head forms.period (suc n) 32 (codes "period " ++ decimal (suc n)) old refl h)
  ];
  ends = λ v f. any_follows v;
}

pub period_some : (old : List ℕ) → begins 32 old ≡ true → View (count (codes " period ") 1 1000) forms.period (λ n. n) old
period_some old h = record {
  is = λ b i. i.1;
  text = λ b. elim b as (λ n. (1 ≤ n) × (n ≤ 1000) → codes " period " ++ decimal n ≡ some_number (codes " period ") n) [
    | zero ↦ λ i. absurd (omega (arith, i.0))
    | suc n ↦ λ i. refl
  ];
  onto = λ a. elim a as (λ n. n ≤ 1000 → ((b : ℕ) × ((1 ≤ b) × (b ≤ 1000)) × (b ≡ n)) ⊎ Apart forms.period n old) [
    | zero ↦ λ i. inr (apart_none forms.period 0 32 old refl refl h)
    | suc n ↦ λ i. inl (suc n, (omega arith, i), refl)
  ];
  ends = λ v f. after_or (λ c. c == 32) is_digit v f;
}

abbrev base_texts : Texts (ℕ × (Unit {0}))
base_texts = both (count (codes "\nbase ") 0 max64) (word (codes "\n"))

abbrev head_texts : Texts ((Unit {0}) × (List ℕ × (ℕ × (ℕ × (ℕ × (Bool × (ℕ × (ℕ × (Unit {0})))))))))
head_texts = both (word (codes "hls-report 1\ntop ")) (both name (both (count (codes "\nsettings mul ") 1 8) (both (count (codes " div ") 1 4) (both (count (codes " ports ") 1 2) (both forms.plain (both forms.period base_texts))))))

abbrev pub head_of : (Unit {0}) × (List ℕ × (ℕ × (ℕ × (ℕ × (Bool × (ℕ × (ℕ × (Unit {0})))))))) → Settings × ℕ
head_of p = (record { top = p.1.0; mul = p.1.1.0; div = p.1.1.1.0; ports = p.1.1.1.1.0; plain = p.1.1.1.1.1.0; period = p.1.1.1.1.1.1.0 }, p.1.1.1.1.1.1.1.0)

pub head_view : (old : List ℕ) → View head_texts forms.head head_of old
head_view old = record {
  is = λ b i. (
    record { top = i.1.0; mul_low = i.1.1.0.0; mul_high = i.1.1.0.1; div_low = i.1.1.1.0.0; div_high = i.1.1.1.0.1; ports_low = i.1.1.1.1.0.0; ports_high = i.1.1.1.1.0.1; period_high = i.1.1.1.1.1.1.0 },
    omega (arith, i.1.1.1.1.1.1.1.0.1),
  );
  text = λ b i. sym (head_flat (head_of b).0 (head_of b).1);
  onto = λ a i. inl (
    (tt, (a.0.top, (a.0.mul, (a.0.div, (a.0.ports, (a.0.plain, (a.0.period, (a.1, tt)))))))),
    (tt, (i.0.top, ((i.0.mul_low, i.0.mul_high), ((i.0.div_low, i.0.div_high), ((i.0.ports_low, i.0.ports_high), (tt, (i.0.period_high, ((omega arith, omega (arith, i.1)), tt)))))))),
    refl,
  );
  ends = λ v f. any_follows v;
}

period_first : (n : ℕ) (r v : List ℕ) → Follows is_digit ((some_number (codes " period ") n ++ (10 ∷ r)) ++ v)
period_first zero r v = refl
period_first (suc n) r v = refl

pub plain_follows : Fits forms.plain (both forms.period base_texts)
plain_follows y v i f = period_first y.0 _ v

pub some_base : Has base_texts
some_base = record { value = (0, tt); is = ((omega arith, omega arith), tt) }

pub some_period : Has forms.period
some_period = record { value = 0; is = omega arith }

pub some_plain : Has forms.plain
some_plain = record { value = false; is = tt }

pub some_range : (w : List ℕ) (high : ℕ) → 1 ≤ high → Has (count w 1 high)
some_range w high h = some_count w 1 high h

-- ---- the initial sequence

pub init_none : (old : List ℕ) → begins 105 old ≡ false → View (word []) forms.init (λ x. 0) old
init_none old h = record {
  is = λ b i. omega arith;
  text = λ b i. refl;
  onto = λ a. elim a as (λ n. n < 2 ^ 32 → ((b : Unit {0}) × (Unit {0}) × (0 ≡ n)) ⊎ Apart forms.init n old) [
    | zero ↦ λ i. inl (tt, tt, refl)
    | suc n ↦ λ i. inr (apart_head forms.init (suc n) 105 _ old refl h)
  ];
  ends = λ v f. any_follows v;
}

pub init_some : (old : List ℕ) → begins 105 old ≡ true → View (both (count (codes "init ") 1 max32) (word (codes "\n"))) forms.init (λ p. p.0) old
init_some old h = record {
  is = λ b i. omega (arith, i.0.1);
  text = λ b. elim b.0 as (λ n. ((1 ≤ n) × (n ≤ max32)) × (Unit {0}) → (codes "init " ++ decimal n) ++ codes "\n" ≡ init_line n) [
    | zero ↦ λ i. absurd (omega (arith, i.0.0))
    | suc n ↦ λ i. refl
  ];
  onto = λ a. elim a as (λ n. n < 2 ^ 32 → ((b : ℕ × (Unit {0})) × (((1 ≤ b.0) × (b.0 ≤ max32)) × (Unit {0})) × (b.0 ≡ n)) ⊎ Apart forms.init n old) [
    | zero ↦ λ i. inr (apart_none forms.init 0 105 old refl refl h)
    | suc n ↦ λ i. inl ((suc n, tt), ((omega arith, omega (arith, i)), tt), refl)
  ];
  ends = λ v f. any_follows v;
}

-- ---- the units and the last lines

abbrev units_texts : Texts (ℕ × (ℕ × (ℕ × (ℕ × (Unit {0})))))
units_texts = both (count (codes "units mul32 ") 0 max32) (both (count (codes " mul64 ") 0 max32) (both (count (codes " div32 ") 0 max32) (both (count (codes " div64 ") 0 max32) (word (codes "\n")))))

abbrev pub units_form_of : ℕ × (ℕ × (ℕ × (ℕ × (Unit {0})))) → PlainUnits
units_form_of p = record { mul32 = p.0; mul64 = p.1.0; div32 = p.1.1.0; div64 = p.1.1.1.0 }

pub units_view : (old : List ℕ) → View units_texts forms.units units_form_of old
units_view old = record {
  is = λ b i. record { mul32 = omega (arith, i.0.1); mul64 = omega (arith, i.1.0.1); div32 = omega (arith, i.1.1.0.1); div64 = omega (arith, i.1.1.1.0.1) };
  text = λ b i. refl;
  onto = λ a i. inl ((a.mul32, (a.mul64, (a.div32, (a.div64, tt)))), ((omega arith, omega (arith, i.mul32)), ((omega arith, omega (arith, i.mul64)), ((omega arith, omega (arith, i.div32)), ((omega arith, omega (arith, i.div64)), tt)))), refl);
  ends = λ v f. any_follows v;
}

pub last_view : (old : List ℕ) → View (both (count (codes "registers ") 0 max64) (word (codes "\nend\n"))) forms.last (λ p. p.0) old
last_view old = record {
  is = λ b i. omega (arith, i.0.1);
  text = λ b i. sym (last_flat b.0);
  onto = λ a i. inl ((a, tt), ((omega arith, omega (arith, i)), tt), refl);
  ends = λ v f. any_follows v;
}

pub the_end : Has (word (codes "\nend\n"))
the_end = some_word (codes "\nend\n")

-- ---- the whole

abbrev from_memories : Texts (List MemoryRow × ℕ)
from_memories = both (many 109 forms.memory) forms.last

abbrev from_units : Texts (PlainUnits × (List MemoryRow × ℕ))
from_units = both forms.units from_memories

abbrev from_loops : Texts (List PlainLoop × (PlainUnits × (List MemoryRow × ℕ)))
from_loops = both (many 108 forms.loop) from_units

abbrev from_costs : Texts (List Cost × (List PlainLoop × (PlainUnits × (List MemoryRow × ℕ))))
from_costs = both (many 99 forms.cost) from_loops

abbrev report_texts : Texts ((Settings × ℕ) × (ℕ × (List Cost × (List PlainLoop × (PlainUnits × (List MemoryRow × ℕ))))))
report_texts = both forms.head (both forms.init from_costs)

abbrev pub report_of : (Settings × ℕ) × (ℕ × (List Cost × (List PlainLoop × (PlainUnits × (List MemoryRow × ℕ))))) → PlainReport
report_of p = record { settings = p.0.0; base = p.0.1; init = p.1.0; rows = p.1.1.0; loops = p.1.1.1.0; units = p.1.1.1.1.0; memories = p.1.1.1.1.1.0; registers = p.1.1.1.1.1.1 }

pub report_view : (old : List ℕ) → View report_texts forms.report report_of old
report_view old = record {
  is = λ b i. (
    record { settings = i.0.0; loops = λ k d h. (i.1.1.1.0 k d h).0; memories = λ k d h. (i.1.1.1.1.1.0 k d h).0 },
    record { base = i.0.1; init = i.1.0; rows = i.1.1.0; loops = λ k d h. (i.1.1.1.0 k d h).1; units = i.1.1.1.1.0; memories = λ k d h. (i.1.1.1.1.1.0 k d h).1; registers = i.1.1.1.1.1.1 },
  );
  text = λ b i. refl;
  onto = λ a i. inl (
    ((a.settings, a.base), (a.init, (a.rows, (a.loops, (a.units, (a.memories, a.registers)))))),
    ((i.0.settings, i.1.base), (i.1.init, (i.1.rows, ((λ k d h. (i.0.loops k d h, i.1.loops k d h)), (i.1.units, ((λ k d h. (i.0.memories k d h, i.1.memories k d h)), i.1.registers)))))),
    refl,
  );
  ends = λ v f. any_follows v;
}

rows_then : {A : Type 0} (f : ℕ → Bool) (head : ℕ) (T : Texts A) (zs : List A) (r v : List ℕ) → Heads head T → f head ≡ false → All T.Is zs → Follows f (r ++ v) → Follows f ((lines_of T.text zs ++ r) ++ v)
rows_then f head T [] r v heads k i g = g
rows_then f head T (z ∷ zs) r v heads k i g =
    let s = heads z (All-head T.Is z zs i) in
    subst (λ t. Follows f (((t ++ lines_of T.text zs) ++ r) ++ v)) (sym s.1) k

pub init_follows : Fits forms.init from_costs
init_follows y v i g =
    rows_then forms.init.never 99 forms.cost y.0 (from_loops.text y.1) v cost_heads refl i.0
    (rows_then forms.init.never 108 forms.loop y.1.0 (from_units.text y.1.1) v loop_heads refl i.1.0 refl)

pub costs_follow : Fits (many 99 forms.cost) from_loops
costs_follow y v i g = rows_then (many 99 forms.cost).never 108 forms.loop y.0 (from_units.text y.1) v loop_heads refl i.0 refl

pub some_init : Has forms.init
some_init = record { value = 0; is = omega arith }

pub some_costs : Has (many 99 forms.cost)
some_costs = record { value = []; is = All-nil forms.cost.Is }

pub some_loops : Has (many 108 forms.loop)
some_loops = record { value = []; is = All-nil forms.loop.Is }

pub some_units : Has forms.units
some_units = record { value = record { mul32 = 0; mul64 = 0; div32 = 0; div64 = 0 }; is = record { mul32 = omega arith; mul64 = omega arith; div32 = omega arith; div64 = omega arith } }

pub some_memories : Has (many 109 forms.memory)
some_memories = record { value = []; is = All-nil forms.memory.Is }

pub some_last : Has forms.last
some_last = record { value = 0; is = omega arith }
