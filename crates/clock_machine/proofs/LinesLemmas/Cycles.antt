-- What lines show behind a cycle.
use Rattle.std.proofs.Common.{◌≡◌, ◌≢◌, ℕ, zero, suc, ◌+◌, ◌-◌, ◌*◌, ◌/◌, ◌%◌, ◌<◌, ◌≤◌, true, false, leb, eqb, List, slice_get, Some, sym, ap, ◌∙◌, arith, div-add-mod', suc-mul, mul-le-mul_right, lt_of_mul-lt-mul_right}
use Rattle.std.proofs.lemmas.Bool.{and_from, and_parts, le-leb, leb-true, eq-eqb, eqb-true}
use Rattle.std.proofs.lemmas.Nat.{div-mul-add}
use Rattle.clock_ir.specs.Flows.{is_at, pushed}
use Rattle.clock_machine.specs.declared.lines.program.Line.{Line}
use Rattle.clock_machine.specs.declared.lines.registers.Registers.{Registers}
use Rattle.clock_machine.specs.Lines.Registers.{value_in, AreApart, HasPushed}
use Rattle.clock_machine.specs.Lines.Showing.{HasLines, ShowsChain, ShowsMade}

-- ---- which iteration is at its time

pub is_at_true : (w t time : ℕ) → is_at w t time ≡ true → (i : ℕ) × (time ≡ t + i * w)
is_at_true w t time h =
    let parts = and_parts (leb t time) (eqb ((time - t) % w) 0) h in
    let low = leb-true t time parts.0 in
    let none = eqb-true ((time - t) % w) 0 parts.1 in
    let d = div-add-mod' (time - t) w in
    ((time - t) / w, omega arith)

pub is_at_sure : (w : ℕ) → 0 < w → (i t time : ℕ) → time ≡ t + i * w → is_at w t time ≡ true
is_at_sure w h i t time e =
    let q : (time - t) / w ≡ i = ap (λ y. y / w) (let z : time - t ≡ i * w + 0 = omega arith in z) ∙ div-mul-add i w 0 h in
    let d = div-add-mod' (time - t) w in
    let d' : i * w + (time - t) % w ≡ time - t = ap (λ x. x * w + (time - t) % w) (sym q) ∙ d in
    and_from _ _ (le-leb t time (omega arith)) (eq-eqb ((time - t) % w) 0 (omega arith))

-- one iteration comes before another
turns : (w i j : ℕ) → i * w < suc j * w → i ≤ j
turns w i j h = (let e = lt_of_mul-lt-mul_right w h in omega (arith, e))

-- ---- other lines

module _ (old new : Registers) (lines : List Line) (rooms : HasLines old lines) (apart : (k n : ℕ) (line other : Line) → k ≢ n → slice_get lines n ≡ Some line → slice_get lines k ≡ Some other → AreApart line other)
    (number word : ℕ) (there : (line : Line) × (slice_get lines number ≡ Some line)) (p : HasPushed old new lines number word) where
  pub rooms_stay : HasLines new lines
  rooms_stay k other is = p.lines_stay there.0 other k (rooms number there.0 there.1) (rooms k other is)

  stays : (k back : ℕ) (line : Line) → k ≢ number → slice_get lines k ≡ Some line → back < line.length → value_in new (Some line) k back ≡ value_in old (Some line) k back
  stays k back line differ is lt =
      let room = rooms k line is in
      p.others there.0 line k back (rooms number there.0 there.1) differ (apart k number there.0 line differ there.1 is)
      (record { in_words = room.in_words; head_in_line = room.head_in_line; deep_enough = lt })

  pub chain_stays : (k : ℕ) (chain : ℕ → ℕ) → k ≢ number → ShowsChain old lines k chain → ShowsChain new lines k chain
  chain_stays k chain differ h j line is lt = stays k j line differ is lt ∙ h j line is lt

  pub made_stays : (k w start time : ℕ) (under_way : ℕ → ℕ) → k ≢ number → ShowsMade old lines k w start time under_way → ShowsMade new lines k w start time under_way
  made_stays k w start time under_way differ h i j line is lt low high = stays k j line differ is lt ∙ h i j line is lt low high

  -- ---- the line itself

  pub chain_pushed : (chain : ℕ → ℕ) → ShowsChain old lines number chain → ShowsChain new lines number (pushed word chain)
  chain_pushed chain h zero line is lt = p.last line (rooms number line is)
  chain_pushed chain h (suc j) line is lt = ap (λ m. value_in new (Some line) number m) (let z : suc j ≡ j + 1 = omega arith in z) ∙ p.earlier line j (rooms number line is) (omega arith) ∙ h j line is (omega arith)

  pub made_pushed : (w start time i0 : ℕ) (under_way : ℕ → ℕ) → 0 < w → time ≡ start + i0 * w → ShowsMade old lines number w start time under_way → ShowsMade new lines number w start (suc time) (pushed word under_way)
  made_pushed w start time i0 under_way some is_ h i zero line is lt low high =
      let low' : (i + 0) * w < suc i0 * w = (let e = suc-mul i0 w in omega arith) in
      let high' : i0 * w < suc (i + 0) * w = omega arith in
      let one = turns w (i + 0) i0 low' in
      let two = turns w i0 (i + 0) high' in
      let same : i ≡ i0 = omega arith in
      p.last line (rooms number line is) ∙ ap (pushed word under_way) (let z : 0 ≡ suc time - 1 - (start + i * w) = (let e = ap (λ x. x * w) same in omega arith) in z)
  made_pushed w start time i0 under_way some is_ h i (suc j) line is lt low high =
      let low' : (i + suc j) * w < suc i0 * w = (let e = suc-mul i0 w in omega arith) in
      let high' : i0 * w < suc (i + suc j) * w = omega arith in
      let one = turns w (i + suc j) i0 low' in
      let two = turns w i0 (i + suc j) high' in
      let same : i0 ≡ suc (i + j) = omega arith in
      let turn = ap (λ x. x * w) same in
      let e = suc-mul (i + j) w in
      let under : i * w ≤ (i + j) * w = mul-le-mul_right w (omega arith) in
      ap (λ m. value_in new (Some line) number m) (let z : suc j ≡ j + 1 = omega arith in z) ∙ p.earlier line j (rooms number line is) (omega arith)
      ∙ h i j line is (omega arith) (omega arith) (omega arith)
      ∙ ap (pushed word under_way) (let z : suc (time - 1 - (start + i * w)) ≡ suc time - 1 - (start + i * w) = omega arith in z)

-- ---- an operation that does not start

pub made_rests : (r : Registers) (lines : List Line) (number w start time x : ℕ) (under_way : ℕ → ℕ) → 0 < w → is_at w start time ≡ false → ShowsMade r lines number w start time under_way → ShowsMade r lines number w start (suc time) (pushed x under_way)
made_rests r lines number w start time x under_way some off h i j line is lt low high =
    let other : start + (i + j) * w ≢ time = λ e. absurd (let on = is_at_sure w some (i + j) start time (sym e) in cc) in
    let before : start + (i + j) * w < time = omega (arith, other) in
    let under : i * w ≤ (i + j) * w = mul-le-mul_right w (omega arith) in
    h i j line is lt before (omega arith)
    ∙ ap (pushed x under_way) (let z : suc (time - 1 - (start + i * w)) ≡ suc time - 1 - (start + i * w) = omega arith in z)

-- ---- a value that is there

-- it stands so many places back
pub made_ready : (r : Registers) (lines : List Line) (number w start latency time : ℕ) (line : Line) (made : ℕ → ℕ) → 0 < w → 0 < latency → is_at w (start + latency) time ≡ true
    → slice_get lines number ≡ Some line → (latency - 1) / w < line.length → ShowsMade r lines number w start time made → value_in r (Some line) number ((latency - 1) / w) ≡ made (latency - 1)
made_ready r lines number w start latency time line made some long on is lt h =
    let at = is_at_true w (start + latency) time on in
    let i = at.0 in
    let q = (latency - 1) / w in
    let d = div-add-mod' (latency - 1) w in
    let small : (latency - 1) % w < w = omega arith in
    let sum : (i + q) * w ≡ i * w + q * w = omega arith in
    let next = suc-mul (i + q) w in
    h i q line is lt (omega arith) (omega arith) ∙ ap made (let z : time - 1 - (start + i * w) ≡ latency - 1 = omega arith in z)
