-- A point that is counted.
use Rattle.std.proofs.Common.{◌≡◌, ℕ, ◌+◌, ◌<◌, ◌≤◌, ◌∙◌, sym, refl, ap, subst, inl, inr, List, [], ◌∷◌, true, false, Option, arith, true≢false, if◌then◌else◌, ◌-◌}
use Rattle.std.specs.Prelude.{sum_by, unwrap_or, OnErr, Result, Ok, Err}
use Rattle.c_machine.specs.State.Reading.{Reading}
use Rattle.std.specs.Map.{lookup}
use Rattle.std.proofs.lemmas.Bool.{cases_Bool}
use Rattle.std.proofs.lemmas.List.Elements.{All-nil, All-cons, All-head, All-tail}
use Rattle.std.proofs.lemmas.List.Sums.{sum_by-cons}
use Rattle.indexmap.specs.IndexMap.{insert_entry}
use Rattle.hls_base.specs.declared.point.Point.{Point}
use Rattle.hls_base.specs.Tallies.{HasDistinctPoints}
use Rattle.c_machine.specs.declared.state.meter.NumberedPoint.{NumberedPoint}
use Rattle.hls_base.specs.Tallies.{same_point}
use Rattle.hls_base.proofs.SamePoints.{same_point-Decides}
use Rattle.c_meaning.specs.Points.{count_point}
use Rattle.c_machine.specs.State.PassedPaths.{PathTable, IsNumber, IsPathTable, Extends}
use Rattle.c_machine.specs.State.Metering.{point_of, counts_of, HaveNumbers, AreSound}
use Rattle.c_machine.proofs.StateLemmas.SameKeys.{point_eq, point_eq-Decides}
use Rattle.c_machine.proofs.StateLemmas.PathNumbers.{number-extends, path_of-extends, same_number}
use Rattle.c_meaning.proofs.Tallies.{distinct-count}

abbrev Row : Type 0
Row = NumberedPoint × ℕ

abbrev HasNumber : PathTable → Row → Type 0
HasNumber calls row = IsNumber calls row.0.path

abbrev times : Row → ℕ
times row = row.1

-- ---- more calls

numbers-extends : (old new : PathTable) (rows : List Row) → Extends old new → HaveNumbers old rows → HaveNumbers new rows
numbers-extends old new [] e h = All-nil (HasNumber new)
numbers-extends old new (row ∷ rows) e h =
    All-cons (HasNumber new) row rows (number-extends old new row.0.path e (All-head (HasNumber old) row rows h)) (numbers-extends old new rows e (All-tail (HasNumber old) row rows h))

point_of-extends : (old new : PathTable) (p : NumberedPoint) → Extends old new → IsNumber old p.path → point_of new p ≡ point_of old p
point_of-extends old new p e h = ap (λ path. record { path = path; at = p.at; kind = p.kind }) (path_of-extends old new p.path e h)

counts_of-extends : (old new : PathTable) (rows : List Row) → Extends old new → HaveNumbers old rows → counts_of new rows ≡ counts_of old rows
counts_of-extends old new [] e h = refl
counts_of-extends old new (row ∷ rows) e h =
    let first = point_of-extends old new row.0 e (All-head (HasNumber old) row rows h) in
    let rest = counts_of-extends old new rows e (All-tail (HasNumber old) row rows h) in
    λ i. (first i, row.1) ∷ rest i

pub record SameCounts (left passed : ℕ) (old new : PathTable) (rows : List Row) : Type 0 where
  pub sound : AreSound left passed new rows
  pub same : counts_of new rows ≡ counts_of old rows

pub more_calls : (left passed : ℕ) (old new : PathTable) (rows : List Row) → AreSound left passed old rows → IsPathTable new → Extends old new → SameCounts left passed old new rows
more_calls left passed old new rows sound table e =
    let same = counts_of-extends old new rows e sound.numbers in
    record {
      sound = record {
        calls_known = table;
        numbers = numbers-extends old new rows e sound.numbers;
        sum = sound.sum;
        fits = sound.fits;
        distinct = subst HasDistinctPoints (sym same) sound.distinct;
      };
      same = same;
    }

-- ---- a point more

before : List Row → NumberedPoint → ℕ
before rows p = unwrap_or (lookup (point_eq p) rows) 0

pub before-le : (rows : List Row) (p : NumberedPoint) → unwrap_or (lookup (point_eq p) rows) 0 ≤ sum_by times rows
before-le [] p = omega arith
before-le (row ∷ rows) p =
    elim (cases_Bool (point_eq p row.0)) [
      | inl t ↦ rw t (omega (arith, sum_by-cons times row rows))
      | inr f ↦ rw f (omega (arith, before-le rows p, sum_by-cons times row rows))
    ]

-- the rows after a point was counted
abbrev counted : List Row → NumberedPoint → List Row
counted rows p = insert_entry point_eq rows p (unwrap_or (lookup (point_eq p) rows) 0 + 1)

counted-here : (row : Row) (rows : List Row) (p : NumberedPoint) → point_eq p row.0 ≡ true → counted (row ∷ rows) p ≡ (row.0, row.1 + 1) ∷ rows
counted-here row rows p t = rw t refl

counted-later : (row : Row) (rows : List Row) (p : NumberedPoint) → point_eq p row.0 ≡ false → counted (row ∷ rows) p ≡ row ∷ counted rows p
counted-later row rows p f = rw f refl

sum-counted : (rows : List Row) (p : NumberedPoint) → sum_by times (counted rows p) ≡ sum_by times rows + 1
sum-counted [] p = refl
sum-counted (row ∷ rows) p =
    elim (cases_Bool (point_eq p row.0)) [
      | inl t ↦ ap (sum_by times) (counted-here row rows p t) ∙ omega (arith, sum_by-cons times (row.0, row.1 + 1) rows, sum_by-cons times row rows)
      | inr f ↦ ap (sum_by times) (counted-later row rows p f) ∙ omega (arith, sum-counted rows p, sum_by-cons times row (counted rows p), sum_by-cons times row rows)
    ]

numbers-counted : (calls : PathTable) (rows : List Row) (p : NumberedPoint) → HaveNumbers calls rows → IsNumber calls p.path → HaveNumbers calls (counted rows p)
numbers-counted calls [] p h n = All-cons (HasNumber calls) (p, 1) [] n (All-nil (HasNumber calls))
numbers-counted calls (row ∷ rows) p h n =
    elim (cases_Bool (point_eq p row.0)) [
      | inl t ↦ subst (HaveNumbers calls) (sym (counted-here row rows p t)) (All-cons (HasNumber calls) (row.0, row.1 + 1) rows (All-head (HasNumber calls) row rows h) (All-tail (HasNumber calls) row rows h))
      | inr f ↦ subst (HaveNumbers calls) (sym (counted-later row rows p f))
          (All-cons (HasNumber calls) row (counted rows p) (All-head (HasNumber calls) row rows h) (numbers-counted calls rows p (All-tail (HasNumber calls) row rows h) n))
    ]

same_numbered : (calls : PathTable) (p q : NumberedPoint) → IsPathTable calls → IsNumber calls p.path → IsNumber calls q.path → point_of calls p ≡ point_of calls q → p ≡ q
same_numbered calls p q table hp hq e =
    let paths = same_number calls table p.path q.path hp hq (ap (λ (r : Point). r.path) e) in
    let places = ap (λ (r : Point). r.at) e in
    let kinds = ap (λ (r : Point). r.kind) e in
    λ i. record { path = paths i; at = places i; kind = kinds i }

counts-counted : (calls : PathTable) (rows : List Row) (p : NumberedPoint) → IsPathTable calls → HaveNumbers calls rows → IsNumber calls p.path
    → counts_of calls (counted rows p) ≡ count_point (point_of calls p) (counts_of calls rows)
counts-counted calls [] p table h n = refl
counts-counted calls (row ∷ rows) p table h n =
    elim (cases_Bool (point_eq p row.0)) [
      | inl t ↦
          let same : p ≡ row.0 = (point_eq-Decides p row.0).0 t in
          let yes : same_point (point_of calls row.0) (point_of calls p) ≡ true = (same_point-Decides (point_of calls row.0) (point_of calls p)).1 (ap (point_of calls) (sym same)) in
          ap (counts_of calls) (counted-here row rows p t)
          ∙ ap (λ b. if b then (point_of calls row.0, row.1 + 1) ∷ counts_of calls rows else (point_of calls row.0, row.1) ∷ count_point (point_of calls p) (counts_of calls rows)) (sym yes)
      | inr f ↦
          let other : same_point (point_of calls row.0) (point_of calls p) ≡ false =
          elim (cases_Bool (same_point (point_of calls row.0) (point_of calls p))) [
            | inl u ↦
                let same = same_numbered calls row.0 p table (All-head (HasNumber calls) row rows h) n ((same_point-Decides (point_of calls row.0) (point_of calls p)).0 u) in
                absurd (true≢false (sym ((point_eq-Decides p row.0).1 (sym same)) ∙ f))
            | inr g ↦ g
          ] in
          ap (counts_of calls) (counted-later row rows p f)
          ∙ (ap (λ cs. (point_of calls row.0, row.1) ∷ cs) (counts-counted calls rows p table (All-tail (HasNumber calls) row rows h) n)
          ∙ ap (λ b. if b then (point_of calls row.0, row.1 + 1) ∷ counts_of calls rows else (point_of calls row.0, row.1) ∷ count_point (point_of calls p) (counts_of calls rows)) (sym other))
    ]

pub record Counted (left passed : ℕ) (calls : PathTable) (old new : List Row) (p : Point) : Type 0 where
  pub sound : AreSound left passed calls new
  pub counts : counts_of calls new ≡ count_point p (counts_of calls old)

pub one_more : (left left' passed passed' : ℕ) (calls : PathTable) (old new : List Row) (p : NumberedPoint) (n : ℕ) (at : Point) → AreSound left passed calls old → IsNumber calls p.path
    → point_of calls p ≡ at → n ≡ unwrap_or (lookup (point_eq p) old) 0 → new ≡ insert_entry point_eq old p (n + 1) → left' + 1 ≡ left → passed' ≡ passed + 1 → Counted left' passed' calls old new at
one_more left left' passed passed' calls old new p n at sound number is_at known inserted less more =
    let whole : new ≡ counted old p = inserted ∙ ap (λ k. insert_entry point_eq old p (k + 1)) known in
    let counts : counts_of calls new ≡ count_point at (counts_of calls old) =
    ap (counts_of calls) whole ∙ (counts-counted calls old p sound.calls_known sound.numbers number ∙ ap (λ q. count_point q (counts_of calls old)) is_at) in
    record {
      sound = record {
        calls_known = sound.calls_known;
        numbers = subst (HaveNumbers calls) (sym whole) (numbers-counted calls old p sound.numbers number);
        sum = ap (sum_by times) whole ∙ omega (arith, sum-counted old p, sound.sum, more);
        fits = omega (arith, sound.fits, less, more);
        distinct = subst HasDistinctPoints (sym counts) (distinct-count at (counts_of calls old) sound.distinct);
      };
      counts = counts;
    }

pub same_rows : (left passed : ℕ) (calls : PathTable) (old new : List Row) → AreSound left passed calls old → new ≡ old → AreSound left passed calls new
same_rows left passed calls old new sound e = subst (λ rows. AreSound left passed calls rows) (sym e) sound

-- ---- what the clauses say of the meter

pub count_before : (rows : List Row) (p : NumberedPoint) (n : ℕ) (copied : Option ℕ) → n ≡ unwrap_or copied 0 → copied ≡ lookup (point_eq p) rows → n ≡ unwrap_or (lookup (point_eq p) rows) 0
count_before rows p n copied e f = e ∙ ap (λ o. unwrap_or o 0) f

pub same_view : (left passed : ℕ) (new old : List (Point × ℕ)) (now : Reading) → new ≡ old → record { left = left; passed = passed; counts = old } ≡ now → record { left = left; passed = passed; counts = new } ≡ now
same_view left passed new old now e f = ap (λ counts. record { left = left; passed = passed; counts = counts }) e ∙ f

pub on_err : {A E : Type 0} (r : Result A E) (P : Type 0) → P → OnErr r P
on_err (Ok x) P p = tt
on_err (Err e) P p = p

pub less_one : (left now : ℕ) → left ≡ now → 0 < now → left - 1 + 1 ≡ left
less_one left now e h = omega (arith, e, h)
