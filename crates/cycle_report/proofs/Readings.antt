-- A text is that of one report alone.
use Rattle.std.proofs.Common.{◌≡◌, ℕ, zero, suc, ◌^◌, ◌<◌, Bool, true, false, ◌&&◌, ◌||◌, ◌==◌, IsTrue, nat_le, cond, eqb, List, [], ◌∷◌, ◌++◌, codes, length, sym, ap, ◌∙◌, refl, arith}
use Rattle.std.specs.Fmt.{decimal}
use Rattle.std.specs.List.{All, list_all}
use Rattle.std.proofs.lemmas.Fmt.{decimal_injective}
use Rattle.std.proofs.lemmas.List.Elements.{All-head, All-tail}
use Rattle.hls_base.specs.declared.place.Place.{Place}
use Rattle.hls_base.specs.declared.point.PointKind.{PointKind}
use Rattle.hls_base.specs.declared.point.PointKind.TheVariants as kind
use Rattle.hls_base.specs.PlaceText.{place_text, part_text}
use Rattle.cycle_report.specs.declared.report.Cost.{Cost}
use Rattle.cycle_report.specs.declared.report.Edge4.{Edge4}
use Rattle.cycle_report.specs.declared.report.MemoryRow.{MemoryRow}
use Rattle.cycle_report.specs.PlainReport.{PlainUnits}
use Rattle.cycle_report.specs.ReportText.{lines_of, kind_text, path_text, flag_text, period_words, cost_line, edge_line, units_line, memory_line}
use Rattle.cycle_report.specs.ReportForm.{is_digit, is_letter, is_word_byte, IsName, FitsPlace, FitsCost, FitsEdge, FitsUnits, FitsMemory}
use Rattle.std.specs.Str.{bytes_eq}
use Rattle.cycle_report.proofs.Cuts.{not_true, and_left, and_right, and_both, Stops, cut, stops_none, stops_at, all_append, all_weaker, is_plain, plain_from, decimal_digits, decimal_plain, ArePlain, same_line}

-- ---- words

pub name_plain : (name : List ℕ) → IsName name → IsTrue (list_all is_plain name)
name_plain [] h = not_true h
name_plain (c ∷ cs) h =
    and_both (is_plain c) (list_all is_plain cs)
    (plain_from is_letter not_true not_true c (and_left (is_letter c) (list_all is_word_byte cs && nat_le (length cs) 63) h))
    (all_weaker is_word_byte is_plain (plain_from is_word_byte not_true not_true) cs (and_left (list_all is_word_byte cs) (nat_le (length cs) 63) (and_right (is_letter c) (list_all is_word_byte cs && nat_le (length cs) 63) h)))

pub is_place_byte : ℕ → Bool
is_place_byte c = is_digit c || ((c == 58) || (c == 46))

or_left : (a b : Bool) → IsTrue a → IsTrue (a || b)
or_left true b h = refl
or_left false b h = not_true h

digit_place : (c : ℕ) → IsTrue (is_digit c) → IsTrue (is_place_byte c)
unfolding is_place_byte
digit_place c h = or_left (is_digit c) ((c == 58) || (c == 46)) h

decimal_place : (n : ℕ) → n < 2 ^ 32 → IsTrue (list_all is_place_byte (decimal n))
decimal_place n h = all_weaker is_digit is_place_byte digit_place (decimal n) (decimal_digits n (omega arith))

part_place : (n : ℕ) → n < 2 ^ 32 → IsTrue (list_all is_place_byte (part_text n))
unfolding is_place_byte
part_place zero h = refl
part_place (suc n) h = decimal_place (suc n) h

place_bytes : (p : Place) → FitsPlace p → IsTrue (list_all is_place_byte (place_text p))
unfolding is_place_byte
place_bytes p f =
    all_append is_place_byte (decimal p.line) (58 ∷ (decimal p.column ++ part_text p.part)) (decimal_place p.line f.line)
    (all_append is_place_byte (decimal p.column) (part_text p.part) (decimal_place p.column f.column) (part_place p.part f.part))

pub place_plain : (p : Place) → FitsPlace p → IsTrue (list_all is_plain (place_text p))
unfolding is_place_byte
place_plain p f = all_weaker is_place_byte is_plain (plain_from is_place_byte not_true not_true) (place_text p) (place_bytes p f)

stops_part : (n : ℕ) → Stops is_digit (part_text n)
stops_part zero = stops_none is_digit
stops_part (suc n) = stops_at is_digit 46 (decimal (suc n)) not_true

same_part : (m n : ℕ) → m < 2 ^ 32 → n < 2 ^ 32 → part_text m ≡ part_text n → m ≡ n
same_part zero zero h k e = refl
same_part zero (suc n) h k e = absurd (cc)
same_part (suc m) zero h k e = absurd (cc)
same_part (suc m) (suc n) h k e =
    let f : decimal (suc m) ≡ decimal (suc n) = cc in
    decimal_injective (suc m) (suc n) (omega arith) (omega arith) f

pub place_of : ℕ → ℕ → ℕ → Place
place_of l c p = record { line = l; column = c; part = p }

pub same_place : (p q : Place) → FitsPlace p → FitsPlace q → place_text p ≡ place_text q → p ≡ q
unfolding place_of
same_place p q f g e =
    let a = cut is_digit (decimal p.line) (decimal q.line) (58 ∷ (decimal p.column ++ part_text p.part)) (58 ∷ (decimal q.column ++ part_text q.part))
    (decimal_digits p.line (omega (arith, f.line))) (decimal_digits q.line (omega (arith, g.line))) (stops_at is_digit 58 _ not_true) (stops_at is_digit 58 _ not_true) e in
    let t : 58 ∷ (decimal p.column ++ part_text p.part) ≡ 58 ∷ (decimal q.column ++ part_text q.part) = a.1 in
    let d : decimal p.column ++ part_text p.part ≡ decimal q.column ++ part_text q.part = cc in
    let b = cut is_digit (decimal p.column) (decimal q.column) (part_text p.part) (part_text q.part)
    (decimal_digits p.column (omega (arith, f.column))) (decimal_digits q.column (omega (arith, g.column))) (stops_part p.part) (stops_part q.part) d in
    let l : p.line ≡ q.line = decimal_injective p.line q.line (omega (arith, f.line)) (omega (arith, g.line)) a.0 in
    let c : p.column ≡ q.column = decimal_injective p.column q.column (omega (arith, f.column)) (omega (arith, g.column)) b.0 in
    let r : p.part ≡ q.part = same_part p.part q.part f.part g.part b.1 in
    ap (λ x. place_of x p.column p.part) l ∙ (ap (λ x. place_of q.line x p.part) c ∙ ap (λ x. place_of q.line q.column x) r)

abbrev further : List Place → List ℕ
further places = lines_of (λ p. codes "," ++ place_text p) places

stops_further : (ps : List Place) → Stops is_place_byte (further ps)
unfolding is_place_byte
stops_further [] = stops_none is_place_byte
stops_further (p ∷ ps) = stops_at is_place_byte 44 _ not_true

same_further : (ps qs : List Place) → All FitsPlace ps → All FitsPlace qs → further ps ≡ further qs → ps ≡ qs
same_further [] [] a b e = refl
same_further [] (q ∷ qs) a b e = absurd (cc)
same_further (p ∷ ps) [] a b e = absurd (cc)
same_further (p ∷ ps) (q ∷ qs) a b e =
    let t : 44 ∷ ((place_text p) ++ further ps) ≡ 44 ∷ ((place_text q) ++ further qs) = e in
    let f : place_text p ++ further ps ≡ place_text q ++ further qs = cc in
    let r = cut is_place_byte (place_text p) (place_text q) (further ps) (further qs) (place_bytes p (All-head FitsPlace p ps a)) (place_bytes q (All-head FitsPlace q qs b)) (stops_further ps) (stops_further qs) f in
    let s = same_further ps qs (All-tail FitsPlace p ps a) (All-tail FitsPlace q qs b) r.1 in
    ap (λ x. x ∷ ps) (same_place p q (All-head FitsPlace p ps a) (All-head FitsPlace q qs b) r.0) ∙ ap (λ xs. q ∷ xs) s

dash_apart : {A : Type 0} (ps : List Place) → 45 ∷ [] ≡ further ps → A
dash_apart [] e = absurd (cc)
dash_apart (p ∷ ps) e =
    let t : 45 ∷ [] ≡ 44 ∷ (place_text p ++ further ps) = e in
    let n : 45 ≡ 44 = cc in
    not_true (sym (ap (eqb 45) n))

pub same_path : (ps qs : List Place) → All FitsPlace ps → All FitsPlace qs → path_text ps ≡ path_text qs → ps ≡ qs
unfolding is_place_byte
same_path [] [] a b e = refl
same_path [] (q ∷ qs) a b e =
    let r = cut is_place_byte [] (place_text q) (45 ∷ []) (further qs) refl (place_bytes q (All-head FitsPlace q qs b)) (stops_at is_place_byte 45 [] not_true) (stops_further qs) e in
    dash_apart qs r.1
same_path (p ∷ ps) [] a b e =
    let r = cut is_place_byte [] (place_text p) (45 ∷ []) (further ps) refl (place_bytes p (All-head FitsPlace p ps a)) (stops_at is_place_byte 45 [] not_true) (stops_further ps) (sym e) in
    dash_apart ps r.1
same_path (p ∷ ps) (q ∷ qs) a b e =
    let r = cut is_place_byte (place_text p) (place_text q) (further ps) (further qs) (place_bytes p (All-head FitsPlace p ps a)) (place_bytes q (All-head FitsPlace q qs b)) (stops_further ps) (stops_further qs) e in
    let s = same_further ps qs (All-tail FitsPlace p ps a) (All-tail FitsPlace q qs b) r.1 in
    ap (λ x. x ∷ ps) (same_place p q (All-head FitsPlace p ps a) (All-head FitsPlace q qs b) r.0) ∙ ap (λ xs. q ∷ xs) s

further_plain : (ps : List Place) → All FitsPlace ps → IsTrue (list_all is_plain (further ps))
further_plain [] a = refl
further_plain (p ∷ ps) a = all_append is_plain (place_text p) (further ps) (place_plain p (All-head FitsPlace p ps a)) (further_plain ps (All-tail FitsPlace p ps a))

pub path_plain : (ps : List Place) → All FitsPlace ps → IsTrue (list_all is_plain (path_text ps))
path_plain [] a = refl
path_plain (p ∷ ps) a = all_append is_plain (place_text p) (further ps) (place_plain p (All-head FitsPlace p ps a)) (further_plain ps (All-tail FitsPlace p ps a))

pub kind_of : List ℕ → PointKind
kind_of word =
    cond (bytes_eq word (codes "begin")) kind.Begin (cond (bytes_eq word (codes "test")) kind.Test (cond (bytes_eq word (codes "body")) kind.Body
    (cond (bytes_eq word (codes "step")) kind.Step (cond (bytes_eq word (codes "end")) kind.End kind.Arm))))

kind_back : (k : PointKind) → kind_of (kind_text k) ≡ k
unfolding kind_of
kind_back kind.Begin = refl
kind_back kind.Test = refl
kind_back kind.Body = refl
kind_back kind.Step = refl
kind_back kind.End = refl
kind_back kind.Arm = refl

same_kind : (j k : PointKind) → kind_text j ≡ kind_text k → j ≡ k
same_kind j k e = sym (kind_back j) ∙ (ap kind_of e ∙ kind_back k)

kind_plain : (k : PointKind) → IsTrue (list_all is_plain (kind_text k))
kind_plain kind.Begin = refl
kind_plain kind.Test = refl
kind_plain kind.Body = refl
kind_plain kind.Step = refl
kind_plain kind.End = refl
kind_plain kind.Arm = refl

pub flag_plain : (b : Bool) → IsTrue (list_all is_plain (flag_text b))
flag_plain true = refl
flag_plain false = refl

pub flag_of : List ℕ → Bool
flag_of word = bytes_eq word (codes "1")

flag_back : (b : Bool) → flag_of (flag_text b) ≡ b
unfolding flag_of
flag_back true = refl
flag_back false = refl

pub same_flag : (a b : Bool) → flag_text a ≡ flag_text b → a ≡ b
same_flag a b e = sym (flag_back a) ∙ (ap flag_of e ∙ flag_back b)

pub same_period : (m n : ℕ) → m < 2 ^ 64 → n < 2 ^ 64 → period_words m ≡ period_words n → m ≡ n
same_period zero zero h k e = refl
same_period zero (suc n) h k e = absurd (cc)
same_period (suc m) zero h k e = absurd (cc)
same_period (suc m) (suc n) h k e =
    let f : decimal (suc m) ≡ decimal (suc n) = cc in
    decimal_injective (suc m) (suc n) h k f

pub period_plain : (n : ℕ) → n < 2 ^ 64 → ArePlain (period_words n)
period_plain zero h = tt
period_plain (suc n) h = (refl, (decimal_plain (suc n) h, tt))

-- ---- lines

pub cost_of : List Place → Place → PointKind → ℕ → Cost
cost_of path at k cost = record { point = record { path = path; at = at; kind = k }; cost = cost }

pub same_cost : (x y : Cost) (v w : List ℕ) → FitsCost x → FitsCost y → cost_line x ++ v ≡ cost_line y ++ w → (x ≡ y) × (v ≡ w)
unfolding cost_of
same_cost x y v w f g e =
    let r = same_line (codes "cost") (codes "cost") (decimal x.cost ∷ kind_text x.point.kind ∷ place_text x.point.at ∷ path_text x.point.path ∷ [])
    (decimal y.cost ∷ kind_text y.point.kind ∷ place_text y.point.at ∷ path_text y.point.path ∷ []) v w
    (refl, (decimal_plain x.cost f.cost, (kind_plain x.point.kind, (place_plain x.point.at f.point.at, (path_plain x.point.path f.point.path, tt)))))
    (refl, (decimal_plain y.cost g.cost, (kind_plain y.point.kind, (place_plain y.point.at g.point.at, (path_plain y.point.path g.point.path, tt))))) e in
    let t = r.0 in
    let a : decimal x.cost ≡ decimal y.cost = cc in
    let b : kind_text x.point.kind ≡ kind_text y.point.kind = cc in
    let c : place_text x.point.at ≡ place_text y.point.at = cc in
    let d : path_text x.point.path ≡ path_text y.point.path = cc in
    let a' = decimal_injective x.cost y.cost f.cost g.cost a in
    let b' = same_kind x.point.kind y.point.kind b in
    let c' = same_place x.point.at y.point.at f.point.at g.point.at c in
    let d' = same_path x.point.path y.point.path f.point.path g.point.path d in (
      ap (λ z. cost_of z x.point.at x.point.kind x.cost) d' ∙ (ap (λ z. cost_of y.point.path z x.point.kind x.cost) c'
          ∙ (ap (λ z. cost_of y.point.path y.point.at z x.cost) b' ∙ ap (λ z. cost_of y.point.path y.point.at y.point.kind z) a')),
      r.1,
    )

pub edge_of : ℕ → ℕ → ℕ → ℕ → Edge4
edge_of a b c d = record { from = a; to = b; latency = c; distance = d }

pub u32 : (m n : ℕ) → m < 2 ^ 32 → n < 2 ^ 32 → decimal m ≡ decimal n → m ≡ n
u32 m n h k e = decimal_injective m n (omega arith) (omega arith) e

pub p32 : (n : ℕ) → n < 2 ^ 32 → IsTrue (list_all is_plain (decimal n))
p32 n h = decimal_plain n (omega arith)

pub same_edge : (x y : Edge4) (v w : List ℕ) → FitsEdge x → FitsEdge y → edge_line x ++ v ≡ edge_line y ++ w → (x ≡ y) × (v ≡ w)
unfolding edge_of
same_edge x y v w f g e =
    let r = same_line (codes "edge") (codes "edge") (decimal x.from ∷ decimal x.to ∷ decimal x.latency ∷ decimal x.distance ∷ []) (decimal y.from ∷ decimal y.to ∷ decimal y.latency ∷ decimal y.distance ∷ []) v w
    (refl, (p32 x.from f.from, (p32 x.to f.to, (p32 x.latency f.latency, (p32 x.distance f.distance, tt)))))
    (refl, (p32 y.from g.from, (p32 y.to g.to, (p32 y.latency g.latency, (p32 y.distance g.distance, tt))))) e in
    let t = r.0 in
    let a : decimal x.from ≡ decimal y.from = cc in
    let b : decimal x.to ≡ decimal y.to = cc in
    let c : decimal x.latency ≡ decimal y.latency = cc in
    let d : decimal x.distance ≡ decimal y.distance = cc in (
      ap (λ z. edge_of z x.to x.latency x.distance) (u32 x.from y.from f.from g.from a) ∙ (ap (λ z. edge_of y.from z x.latency x.distance) (u32 x.to y.to f.to g.to b)
          ∙ (ap (λ z. edge_of y.from y.to z x.distance) (u32 x.latency y.latency f.latency g.latency c) ∙ ap (λ z. edge_of y.from y.to y.latency z) (u32 x.distance y.distance f.distance g.distance d))),
      r.1,
    )

pub units_from : ℕ → ℕ → ℕ → ℕ → PlainUnits
units_from a b c d = record { mul32 = a; mul64 = b; div32 = c; div64 = d }

pub same_units : (x y : PlainUnits) (v w : List ℕ) → FitsUnits x → FitsUnits y → units_line x ++ v ≡ units_line y ++ w → (x ≡ y) × (v ≡ w)
unfolding units_from
same_units x y v w f g e =
    let r = same_line (codes "units") (codes "units")
    (codes "mul32" ∷ decimal x.mul32 ∷ codes "mul64" ∷ decimal x.mul64 ∷ codes "div32" ∷ decimal x.div32 ∷ codes "div64" ∷ decimal x.div64 ∷ [])
    (codes "mul32" ∷ decimal y.mul32 ∷ codes "mul64" ∷ decimal y.mul64 ∷ codes "div32" ∷ decimal y.div32 ∷ codes "div64" ∷ decimal y.div64 ∷ []) v w
    (refl, (refl, (p32 x.mul32 f.mul32, (refl, (p32 x.mul64 f.mul64, (refl, (p32 x.div32 f.div32, (refl, (p32 x.div64 f.div64, tt)))))))))
    (refl, (refl, (p32 y.mul32 g.mul32, (refl, (p32 y.mul64 g.mul64, (refl, (p32 y.div32 g.div32, (refl, (p32 y.div64 g.div64, tt))))))))) e in
    let t = r.0 in
    let a : decimal x.mul32 ≡ decimal y.mul32 = cc in
    let b : decimal x.mul64 ≡ decimal y.mul64 = cc in
    let c : decimal x.div32 ≡ decimal y.div32 = cc in
    let d : decimal x.div64 ≡ decimal y.div64 = cc in (
      ap (λ z. units_from z x.mul64 x.div32 x.div64) (u32 x.mul32 y.mul32 f.mul32 g.mul32 a) ∙ (ap (λ z. units_from y.mul32 z x.div32 x.div64) (u32 x.mul64 y.mul64 f.mul64 g.mul64 b)
          ∙ (ap (λ z. units_from y.mul32 y.mul64 z x.div64) (u32 x.div32 y.div32 f.div32 g.div32 c) ∙ ap (λ z. units_from y.mul32 y.mul64 y.div32 z) (u32 x.div64 y.div64 f.div64 g.div64 d))),
      r.1,
    )

pub memory_of : List ℕ → ℕ → ℕ → ℕ → MemoryRow
memory_of a b c d = record { name = a; bits = b; depth = c; ports = d }

unfoldable pub IsMemory : MemoryRow → Type 0
IsMemory m = IsName m.name × FitsMemory m

pub same_memory : (x y : MemoryRow) (v w : List ℕ) → IsMemory x → IsMemory y → memory_line x ++ v ≡ memory_line y ++ w → (x ≡ y) × (v ≡ w)
unfolding memory_of IsMemory
same_memory x y v w f g e =
    let xb : x.bits < 2 ^ 32 = omega (arith, f.1.bits) in
    let yb : y.bits < 2 ^ 32 = omega (arith, g.1.bits) in
    let xp : x.ports < 2 ^ 32 = omega (arith, f.1.ports) in
    let yp : y.ports < 2 ^ 32 = omega (arith, g.1.ports) in
    let r = same_line (codes "memory") (codes "memory")
    (x.name ∷ codes "bits" ∷ decimal x.bits ∷ codes "depth" ∷ decimal x.depth ∷ codes "ports" ∷ decimal x.ports ∷ [])
    (y.name ∷ codes "bits" ∷ decimal y.bits ∷ codes "depth" ∷ decimal y.depth ∷ codes "ports" ∷ decimal y.ports ∷ []) v w
    (refl, (name_plain x.name f.0, (refl, (p32 x.bits xb, (refl, (p32 x.depth f.1.depth, (refl, (p32 x.ports xp, tt))))))))
    (refl, (name_plain y.name g.0, (refl, (p32 y.bits yb, (refl, (p32 y.depth g.1.depth, (refl, (p32 y.ports yp, tt)))))))) e in
    let t = r.0 in
    let a : x.name ≡ y.name = cc in
    let b : decimal x.bits ≡ decimal y.bits = cc in
    let c : decimal x.depth ≡ decimal y.depth = cc in
    let d : decimal x.ports ≡ decimal y.ports = cc in (
      ap (λ z. memory_of z x.bits x.depth x.ports) a ∙ (ap (λ z. memory_of y.name z x.depth x.ports) (u32 x.bits y.bits xb yb b)
          ∙ (ap (λ z. memory_of y.name y.bits z x.ports) (u32 x.depth y.depth f.1.depth g.1.depth c) ∙ ap (λ z. memory_of y.name y.bits y.depth z) (u32 x.ports y.ports xp yp d))),
      r.1,
    )
