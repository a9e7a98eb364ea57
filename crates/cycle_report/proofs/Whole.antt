-- Two reports with one text are the same report.
use Rattle.std.proofs.Common.{◌≡◌, ℕ, zero, suc, ◌^◌, ◌<◌, Bool, true, IsTrue, eqb, List, [], ◌∷◌, ◌++◌, codes, sym, ap, ◌∙◌, subst, refl, append_assoc, arith}
use Rattle.std.specs.Fmt.{decimal}
use Rattle.std.specs.List.{All}
use Rattle.std.proofs.lemmas.Fmt.{decimal_injective}
use Rattle.std.proofs.lemmas.Bool.{eq-eqb}
use Rattle.std.proofs.lemmas.List.Elements.{All-head, All-tail}
use Rattle.hls_base.specs.declared.place.Place.{Place}
use Rattle.hls_base.specs.declared.point.PointKind.{PointKind}
use Rattle.hls_base.specs.declared.point.PointKind.TheVariants.{Body}
use Rattle.hls_base.specs.declared.settings.Settings.{Settings}
use Rattle.hls_base.specs.PlaceText.{place_text}
use Rattle.cycle_report.specs.declared.report.Cost.{Cost}
use Rattle.cycle_report.specs.declared.report.Edge4.{Edge4}
use Rattle.cycle_report.specs.declared.report.MemoryRow.{MemoryRow}
use Rattle.cycle_report.specs.PlainReport.{PlainLoop, PlainUnits, PlainReport}
use Rattle.cycle_report.specs.ReportText.{line, lines_of, path_text, flag_text, period_words, settings_line, init_line, cost_line, edge_line, loop_lines, units_line, memory_line, head_lines, last_lines}
use Rattle.cycle_report.specs.ReportForm.{IsName, IsSettings, FitsCost, FitsEdge, FitsLoop, FitsMemory, IsReport}
use Rattle.cycle_report.proofs.Cuts.{not_true, decimal_plain, ArePlain, same_line, BeginsWith, same_rows}
use Rattle.cycle_report.proofs.Readings.{IsMemory, u32, p32, name_plain, place_plain, path_plain, flag_plain, period_plain, same_place, same_path, same_flag, same_period, same_cost, same_edge, same_units, same_memory}

-- ---- first bytes

begins_twice : (b c : ℕ) (xs : List ℕ) → BeginsWith b xs → BeginsWith c xs → b ≡ c
begins_twice b c xs s t =
    let e : b ∷ s.0 ≡ c ∷ t.0 = sym s.1 ∙ t.1 in
    cc

begins_front : (h : ℕ) (xs ys : List ℕ) → BeginsWith h xs → BeginsWith h (xs ++ ys)
begins_front h xs ys b = (b.0 ++ ys, ap (λ t. t ++ ys) b.1)

same_eqb : (b : ℕ) → eqb b b ≡ true
same_eqb b = eq-eqb b b refl

-- a text that begins with b does not begin with c
begins_other : (b c : ℕ) (xs : List ℕ) → (IsTrue (eqb b c) → ⊥) → BeginsWith b xs → BeginsWith c xs → ⊥
begins_other b c xs n s t = n (sym (ap (eqb b) (begins_twice b c xs s t)) ∙ same_eqb b)

rows_other : {A : Type 0} (text : A → List ℕ) (h c : ℕ) → ((x : A) → BeginsWith h (text x)) → (IsTrue (eqb h c) → ⊥) → (rows : List A) (v : List ℕ) → (BeginsWith c v → ⊥) → BeginsWith c (lines_of text rows ++ v) → ⊥
rows_other text h c heads n [] v a b = a b
rows_other text h c heads n (x ∷ xs) v a b =
    begins_other h c ((text x ++ lines_of text xs) ++ v) n (begins_front h (text x ++ lines_of text xs) v (begins_front h (text x) (lines_of text xs) (heads x))) b

cost_head : (x : Cost) → BeginsWith 99 (cost_line x)
cost_head x = (_, refl)

edge_head : (x : Edge4) → BeginsWith 101 (edge_line x)
edge_head x = (_, refl)

loop_head : (x : PlainLoop) → BeginsWith 108 (loop_lines x)
loop_head x = (_, refl)

memory_head : (x : MemoryRow) → BeginsWith 109 (memory_line x)
memory_head x = (_, refl)

units_head : (u : PlainUnits) (v : List ℕ) → BeginsWith 117 (units_line u ++ v)
units_head u v = (_, refl)

last_head : (n : ℕ) → BeginsWith 114 (last_lines n)
last_head n = (_, refl)

-- ---- loops

IsLoop : PlainLoop → Type 0
IsLoop l = (l.point.kind ≡ Body) × FitsLoop l

loop_of : List Place → Place → PointKind → ℕ → ℕ → List Edge4 → PlainLoop
loop_of path at kind ii exit cycle = record { point = record { path = path; at = at; kind = kind }; ii = ii; exit = exit; cycle = cycle }

abbrev loop_words : PlainLoop → List (List ℕ)
loop_words l = place_text l.point.at ∷ path_text l.point.path ∷ codes "ii" ∷ decimal l.ii ∷ codes "exit" ∷ decimal l.exit ∷ []

loop_words_plain : (l : PlainLoop) → FitsLoop l → ArePlain (codes "loop" ∷ loop_words l)
loop_words_plain l f = (refl, (place_plain l.point.at f.point.at, (path_plain l.point.path f.point.path, (refl, (p32 l.ii f.ii, (refl, (p32 l.exit f.exit, tt)))))))

same_loop : (x y : PlainLoop) (v w : List ℕ) → IsLoop x → IsLoop y → (BeginsWith 101 v → ⊥) → (BeginsWith 101 w → ⊥) → loop_lines x ++ v ≡ loop_lines y ++ w → (x ≡ y) × (v ≡ w)
unfolding IsLoop loop_of
same_loop x y v w i j a b e =
    let f = i.1 in
    let g = j.1 in
    let lx = line (codes "loop" ∷ loop_words x) in
    let ly = line (codes "loop" ∷ loop_words y) in
    let r = same_line (codes "loop") (codes "loop") (loop_words x) (loop_words y) (lines_of edge_line x.cycle ++ v) (lines_of edge_line y.cycle ++ w) (loop_words_plain x f) (loop_words_plain y g)
    (sym (append_assoc lx (lines_of edge_line x.cycle) v) ∙ (e ∙ append_assoc ly (lines_of edge_line y.cycle) w)) in
    let t = r.0 in
    let p : place_text x.point.at ≡ place_text y.point.at = cc in
    let q : path_text x.point.path ≡ path_text y.point.path = cc in
    let m : decimal x.ii ≡ decimal y.ii = cc in
    let n : decimal x.exit ≡ decimal y.exit = cc in
    let s = same_rows FitsEdge edge_line 101 edge_head same_edge x.cycle y.cycle v w f.cycle g.cycle a b r.1 in
    let p' = same_place x.point.at y.point.at f.point.at g.point.at p in
    let q' = same_path x.point.path y.point.path f.point.path g.point.path q in
    let m' = u32 x.ii y.ii f.ii g.ii m in
    let n' = u32 x.exit y.exit f.exit g.exit n in (
      ap (λ z. loop_of z x.point.at x.point.kind x.ii x.exit x.cycle) q' ∙ (ap (λ z. loop_of y.point.path z x.point.kind x.ii x.exit x.cycle) p'
          ∙ (ap (λ z. loop_of y.point.path y.point.at z x.ii x.exit x.cycle) (i.0 ∙ sym j.0) ∙ (ap (λ z. loop_of y.point.path y.point.at y.point.kind z x.exit x.cycle) m'
          ∙ (ap (λ z. loop_of y.point.path y.point.at y.point.kind y.ii z x.cycle) n' ∙ ap (λ z. loop_of y.point.path y.point.at y.point.kind y.ii y.exit z) s.0)))),
      s.1,
    )

same_loops : (xs ys : List PlainLoop) (v w : List ℕ) → All IsLoop xs → All IsLoop ys → (BeginsWith 101 v → ⊥) → (BeginsWith 101 w → ⊥) → (BeginsWith 108 v → ⊥) → (BeginsWith 108 w → ⊥) →
    lines_of loop_lines xs ++ v ≡ lines_of loop_lines ys ++ w → (xs ≡ ys) × (v ≡ w)
same_loops [] [] v w p q a b c d e = (refl, e)
same_loops [] (y ∷ ys) v w p q a b c d e =
    absurd (c (subst (BeginsWith 108) (sym e) (begins_front 108 (loop_lines y ++ lines_of loop_lines ys) w (begins_front 108 (loop_lines y) (lines_of loop_lines ys) (loop_head y)))))
same_loops (x ∷ xs) [] v w p q a b c d e =
    absurd (d (subst (BeginsWith 108) e (begins_front 108 (loop_lines x ++ lines_of loop_lines xs) v (begins_front 108 (loop_lines x) (lines_of loop_lines xs) (loop_head x)))))
same_loops (x ∷ xs) (y ∷ ys) v w p q a b c d e =
    let f = sym (append_assoc (loop_lines x) (lines_of loop_lines xs) v) ∙ (e ∙ append_assoc (loop_lines y) (lines_of loop_lines ys) w) in
    let r = same_loop x y (lines_of loop_lines xs ++ v) (lines_of loop_lines ys ++ w) (All-head IsLoop x xs p) (All-head IsLoop y ys q)
    (rows_other loop_lines 108 101 loop_head not_true xs v a) (rows_other loop_lines 108 101 loop_head not_true ys w b) f in
    let s = same_loops xs ys v w (All-tail IsLoop x xs p) (All-tail IsLoop y ys q) a b c d r.1 in
    (ap (λ z. z ∷ xs) r.0 ∙ ap (λ zs. y ∷ zs) s.0, s.1)

-- ---- the lines before the costs

settings_of : List ℕ → ℕ → ℕ → ℕ → Bool → ℕ → Settings
settings_of top mul div ports plain period = record { top = top; mul = mul; div = div; ports = ports; plain = plain; period = period }

abbrev settings_words : Settings → List (List ℕ)
settings_words s = codes "mul" ∷ decimal s.mul ∷ codes "div" ∷ decimal s.div ∷ codes "ports" ∷ decimal s.ports ∷ codes "plain" ∷ flag_text s.plain ∷ period_words s.period

settings_plain : (s : Settings) → IsSettings s → ArePlain (codes "settings" ∷ settings_words s)
settings_plain s f =
    (refl, (refl, (p32 s.mul (omega (arith, f.mul_high)), (refl, (p32 s.div (omega (arith, f.div_high)), (refl, (p32 s.ports (omega (arith, f.ports_high)), (refl, (flag_plain s.plain, period_plain s.period (omega (arith, f.period_high)))))))))))

same_head : (x y : Settings) (m n : ℕ) (v w : List ℕ) → IsSettings x → IsSettings y → m < 2 ^ 64 → n < 2 ^ 64 → head_lines x m ++ v ≡ head_lines y n ++ w → (x ≡ y) × (m ≡ n) × (v ≡ w)
unfolding settings_of
same_head x y m n v w f g h k e =
    let first = line (codes "hls-report" ∷ codes "1" ∷ []) in
    let tx = line (codes "top" ∷ x.top ∷ []) in
    let ty = line (codes "top" ∷ y.top ∷ []) in
    let bx = line (codes "base" ∷ decimal m ∷ []) in
    let by' = line (codes "base" ∷ decimal n ∷ []) in
    let e1 = sym (append_assoc first (tx ++ (settings_line x ++ bx)) v) ∙ (e ∙ append_assoc first (ty ++ (settings_line y ++ by')) w) in
    let r1 = same_line (codes "hls-report") (codes "hls-report") (codes "1" ∷ []) (codes "1" ∷ []) ((tx ++ (settings_line x ++ bx)) ++ v) ((ty ++ (settings_line y ++ by')) ++ w) (refl, (refl, tt)) (refl, (refl, tt)) e1 in
    let e2 = sym (append_assoc tx (settings_line x ++ bx) v) ∙ (r1.1 ∙ append_assoc ty (settings_line y ++ by') w) in
    let r2 = same_line (codes "top") (codes "top") (x.top ∷ []) (y.top ∷ []) ((settings_line x ++ bx) ++ v) ((settings_line y ++ by') ++ w) (refl, (name_plain x.top f.top, tt)) (refl, (name_plain y.top g.top, tt)) e2 in
    let e3 = sym (append_assoc (settings_line x) bx v) ∙ (r2.1 ∙ append_assoc (settings_line y) by' w) in
    let r3 = same_line (codes "settings") (codes "settings") (settings_words x) (settings_words y) (bx ++ v) (by' ++ w) (settings_plain x f) (settings_plain y g) e3 in
    let r4 = same_line (codes "base") (codes "base") (decimal m ∷ []) (decimal n ∷ []) v w (refl, (decimal_plain m h, tt)) (refl, (decimal_plain n k, tt)) r3.1 in
    let t2 = r2.0 in
    let t3 = r3.0 in
    let t4 = r4.0 in
    let a : x.top ≡ y.top = cc in
    let b : decimal x.mul ≡ decimal y.mul = cc in
    let c : decimal x.div ≡ decimal y.div = cc in
    let d : decimal x.ports ≡ decimal y.ports = cc in
    let p : flag_text x.plain ≡ flag_text y.plain = cc in
    let q : period_words x.period ≡ period_words y.period = cc in
    let z : decimal m ≡ decimal n = cc in
    let b' = u32 x.mul y.mul (omega (arith, f.mul_high)) (omega (arith, g.mul_high)) b in
    let c' = u32 x.div y.div (omega (arith, f.div_high)) (omega (arith, g.div_high)) c in
    let d' = u32 x.ports y.ports (omega (arith, f.ports_high)) (omega (arith, g.ports_high)) d in
    let p' = same_flag x.plain y.plain p in
    let q' = same_period x.period y.period (omega (arith, f.period_high)) (omega (arith, g.period_high)) q in (
      ap (λ i. settings_of i x.mul x.div x.ports x.plain x.period) a ∙ (ap (λ i. settings_of y.top i x.div x.ports x.plain x.period) b'
          ∙ (ap (λ i. settings_of y.top y.mul i x.ports x.plain x.period) c' ∙ (ap (λ i. settings_of y.top y.mul y.div i x.plain x.period) d'
          ∙ (ap (λ i. settings_of y.top y.mul y.div y.ports i x.period) p' ∙ ap (λ i. settings_of y.top y.mul y.div y.ports y.plain i) q')))),
      decimal_injective m n h k z,
      r4.1,
    )

same_init : (m n : ℕ) (v w : List ℕ) → m < 2 ^ 32 → n < 2 ^ 32 → (BeginsWith 105 v → ⊥) → (BeginsWith 105 w → ⊥) → init_line m ++ v ≡ init_line n ++ w → (m ≡ n) × (v ≡ w)
same_init zero zero v w h k a b e = (refl, e)
same_init zero (suc n) v w h k a b e = absurd (a (_, e))
same_init (suc m) zero v w h k a b e = absurd (b (_, sym e))
same_init (suc m) (suc n) v w h k a b e =
    let r = same_line (codes "init") (codes "init") (decimal (suc m) ∷ []) (decimal (suc n) ∷ []) v w (refl, (p32 (suc m) h, tt)) (refl, (p32 (suc n) k, tt)) e in
    let t = r.0 in
    let z : decimal (suc m) ≡ decimal (suc n) = cc in
    (u32 (suc m) (suc n) h k z, r.1)

same_last : (m n : ℕ) → m < 2 ^ 64 → n < 2 ^ 64 → last_lines m ≡ last_lines n → m ≡ n
same_last m n h k e =
    let r = same_line (codes "registers") (codes "registers") (decimal m ∷ []) (decimal n ∷ []) (line (codes "end" ∷ [])) (line (codes "end" ∷ [])) (refl, (decimal_plain m h, tt)) (refl, (decimal_plain n k, tt)) e in
    let t = r.0 in
    let z : decimal m ≡ decimal n = cc in
    decimal_injective m n h k z

-- ---- the whole

both_sorts : (rows : List MemoryRow) → All (λ m. IsName m.name) rows → All FitsMemory rows → All IsMemory rows
unfolding IsMemory
both_sorts rows p q = λ k d h. (p k d h, q k d h)

loops_sorts : (rows : List PlainLoop) → All (λ l. l.point.kind ≡ Body) rows → All FitsLoop rows → All IsLoop rows
unfolding IsLoop
loops_sorts rows p q = λ k d h. (p k d h, q k d h)

report_of : Settings → ℕ → ℕ → List Cost → List PlainLoop → PlainUnits → List MemoryRow → ℕ → PlainReport
report_of settings base init rows loops units memories registers =
    record { settings = settings; base = base; init = init; rows = rows; loops = loops; units = units; memories = memories; registers = registers }

abbrev from_memories : PlainReport → List ℕ
from_memories r = lines_of memory_line r.memories ++ last_lines r.registers

abbrev from_units : PlainReport → List ℕ
from_units r = units_line r.units ++ from_memories r

abbrev from_loops : PlainReport → List ℕ
from_loops r = lines_of loop_lines r.loops ++ from_units r

abbrev from_costs : PlainReport → List ℕ
from_costs r = lines_of cost_line r.rows ++ from_loops r

units_not : (c : ℕ) (r : PlainReport) → (IsTrue (eqb 117 c) → ⊥) → BeginsWith c (from_units r) → ⊥
units_not c r n b = begins_other 117 c (from_units r) n (units_head r.units (from_memories r)) b

loops_not : (c : ℕ) (r : PlainReport) → (IsTrue (eqb 108 c) → ⊥) → (IsTrue (eqb 117 c) → ⊥) → BeginsWith c (from_loops r) → ⊥
loops_not c r n m b = rows_other loop_lines 108 c loop_head n r.loops (from_units r) (units_not c r m) b

costs_not : (c : ℕ) (r : PlainReport) → (IsTrue (eqb 99 c) → ⊥) → (IsTrue (eqb 108 c) → ⊥) → (IsTrue (eqb 117 c) → ⊥) → BeginsWith c (from_costs r) → ⊥
costs_not c r l n m b = rows_other cost_line 99 c cost_head l r.rows (from_loops r) (loops_not c r n m) b

last_not : (c : ℕ) (r : PlainReport) → (IsTrue (eqb 114 c) → ⊥) → BeginsWith c (last_lines r.registers) → ⊥
last_not c r n b = begins_other 114 c (last_lines r.registers) n (last_head r.registers) b

-- Bytes are related to at most one report.
pub one_report : (bytes : List ℕ) (x y : PlainReport) → IsReport bytes x → IsReport bytes y → x ≡ y
unfolding report_of
one_report bytes x y i j =
    let f = i.fits in
    let g = j.fits in
    let a = same_head x.settings y.settings x.base y.base (init_line x.init ++ from_costs x) (init_line y.init ++ from_costs y) i.form.settings j.form.settings f.base g.base (sym i.text ∙ j.text) in
    let b = same_init x.init y.init (from_costs x) (from_costs y) f.init g.init (costs_not 105 x not_true not_true not_true) (costs_not 105 y not_true not_true not_true) a.2 in
    let c = same_rows FitsCost cost_line 99 cost_head same_cost x.rows y.rows (from_loops x) (from_loops y) f.rows g.rows (loops_not 99 x not_true not_true) (loops_not 99 y not_true not_true) b.1 in
    let d = same_loops x.loops y.loops (from_units x) (from_units y) (loops_sorts x.loops i.form.loops f.loops) (loops_sorts y.loops j.form.loops g.loops)
    (units_not 101 x not_true) (units_not 101 y not_true) (units_not 108 x not_true) (units_not 108 y not_true) c.1 in
    let e = same_units x.units y.units (from_memories x) (from_memories y) f.units g.units d.1 in
    let m = same_rows IsMemory memory_line 109 memory_head same_memory x.memories y.memories (last_lines x.registers) (last_lines y.registers) (both_sorts x.memories i.form.memories f.memories) (both_sorts y.memories j.form.memories g.memories)
    (last_not 109 x not_true) (last_not 109 y not_true) e.1 in
    let n = same_last x.registers y.registers f.registers g.registers m.1 in
    ap (λ z. report_of z x.base x.init x.rows x.loops x.units x.memories x.registers) a.0
    ∙ (ap (λ z. report_of y.settings z x.init x.rows x.loops x.units x.memories x.registers) a.1
    ∙ (ap (λ z. report_of y.settings y.base z x.rows x.loops x.units x.memories x.registers) b.0
    ∙ (ap (λ z. report_of y.settings y.base y.init z x.loops x.units x.memories x.registers) c.0
    ∙ (ap (λ z. report_of y.settings y.base y.init y.rows z x.units x.memories x.registers) d.0
    ∙ (ap (λ z. report_of y.settings y.base y.init y.rows y.loops z x.memories x.registers) e.0
    ∙ (ap (λ z. report_of y.settings y.base y.init y.rows y.loops y.units z x.registers) m.0
    ∙ ap (λ z. report_of y.settings y.base y.init y.rows y.loops y.units y.memories z) n))))))
