-- What operations give has their widths.
use Rattle.std.proofs.Common.{◌≡◌, ◌∙◌, ◌<◌, ◌⊎◌, inl, inr, ℕ, zero, suc, ◌*◌, ◌^◌, ◌%◌, ◌-◌, Bool, true, false, not, ℤ, pos, negsuc, refl, ap, sym, subst, arith, List, [], ◌∷◌, ◌++◌, map, length, length-append, append-nil, append_assoc, Option, Some, None}
use Rattle.std.specs.Prelude.{◌==◌, if◌then◌else◌, slice_get, get_or, nat_lt, nat_eq, bit_and, bit_or, bit_xor, ◌+ℤ◌, ◌-ℤ◌, neg_ℤ, int_lt, int_le, int_div, int_rem}
use Rattle.std.specs.Int.{int_shr}
use Rattle.std.specs.Ordering.{int_eq}
use Rattle.std.proofs.lemmas.Nat.{mod_below}
use Rattle.std.proofs.lemmas.List.{get_or_append_left}
use Rattle.std.proofs.Math.Seq.{get_or-append_seam}
use Rattle.ir_core.specs.declared.body.OpKind.{OpKind}
use Rattle.ir_core.specs.declared.body.OpKind.TheVariants as o
use Rattle.ir_core.specs.declared.body.Operand.{Operand}
use Rattle.ir_core.specs.declared.body.Out.{Out}
use Rattle.ir_core.specs.declared.body.Simple.TheVariants as s
use Rattle.ir_core.specs.declared.body.Source.{Source}
use Rattle.ir_core.specs.declared.body.Source.TheVariants as source
use Rattle.ir_core.specs.Value as v
use Rattle.ir_core.specs.Value.{count_of, pattern, value}
use Rattle.ir_core.specs.Timing.{result_bits}
use Rattle.hls_base.specs.Valued.{Valued, is, faulty, and_then}
use Rattle.ir_core.specs.Bodies.{OpTree, Shapes, Words, Performed, performed, Ranged, word, operand, with_word, with_memory_word, loaded, with_stored, stored, subscripts, address_of, dims_of, effect, fault, fault_if, is_allowed, first_bits, perform, operations, outs, with_outs}
use Rattle.pass_runs.specs.ConvertRuns.Typed.{HasBits, LastHas, AccessIsTyped, OpIsTyped, OpsAreTyped, OutsAreTyped, Fits}
use Rattle.pass_runs.proofs.ConvertRuns.Lists.{last_or, within}
use Rattle.pass_runs.proofs.ConvertRuns.Opening.{same_number}

some_same : {x y : ℕ} → Some x ≡ Some y → x ≡ y
some_same e = cc

-- ---- values

power_positive : (n : ℕ) → 0 < 2 ^ n
power_positive zero = omega arith
power_positive (suc n) = let h = power_positive n in omega (arith, h)

count_positive : (bits : ℕ) → 0 < count_of bits
count_positive bits = by (nat_lt bits 64) where
  by : (b : Bool) → 0 < (if b then 2 ^ bits else 2 ^ 64)
  by true = power_positive bits
  by false = power_positive 64

pattern_fits : (bits : ℕ) (n : ℤ) → pattern bits n < count_of bits
pattern_fits bits (pos a) = mod_below a (count_of bits) (count_positive bits)
pattern_fits bits (negsuc a) = let h = count_positive bits in let c = count_of bits in let r = a % c in let q : c - 1 - r < c = omega (arith, h) in q

if_fits : (b : Bool) (x y n : ℕ) → x < n → y < n → (if b then x else y) < n
if_fits true x y n h k = h
if_fits false x y n h k = k

truth_fits : (b : Bool) → v.truth b < count_of 1
truth_fits b = if_fits b 1 0 (count_of 1) (omega arith) (omega arith)

simple_fits : (op : _) (bits x y : ℕ) → v.simple op bits x y < count_of bits
simple_fits s.Add bits x y = pattern_fits bits (pos x +ℤ pos y)
simple_fits s.Sub bits x y = pattern_fits bits (pos x -ℤ pos y)
simple_fits s.And bits x y = pattern_fits bits (pos (bit_and x y))
simple_fits s.Or bits x y = pattern_fits bits (pos (bit_or x y))
simple_fits s.Xor bits x y = pattern_fits bits (pos (bit_xor x y))

product_fits : (bits x y : ℕ) → v.product bits x y < count_of bits
product_fits bits x y = mod_below (x * y) (count_of bits) (count_positive bits)

abbrev pub is_access : OpKind → Bool
is_access o.Load = true
is_access o.Store = true
is_access kind = false

quotient_fits : (bits : ℕ) (x y : ℤ) → v.quotient bits x y < count_of bits
quotient_fits bits x y =
    if_fits (int_eq y (pos 0)) (if int_lt x (pos 0) then pattern bits (pos 1) else pattern bits (neg_ℤ (pos 1))) (pattern bits (int_div x y)) (count_of bits)
    (if_fits (int_lt x (pos 0)) (pattern bits (pos 1)) (pattern bits (neg_ℤ (pos 1))) (count_of bits) (pattern_fits bits (pos 1)) (pattern_fits bits (neg_ℤ (pos 1)))) (pattern_fits bits (int_div x y))

remainder_fits : (bits : ℕ) (x y : ℤ) → v.remainder bits x y < count_of bits
remainder_fits bits x y = if_fits (int_eq y (pos 0)) (pattern bits x) (pattern bits (int_rem x y)) (count_of bits) (pattern_fits bits x) (pattern_fits bits (int_rem x y))

left_fits : (bits x count : ℕ) → v.shifted_left bits x count < count_of bits
left_fits bits x count = if_fits (nat_lt count (v.width bits)) (v.product bits x (2 ^ count)) 0 (count_of bits) (product_fits bits x (2 ^ count)) (count_positive bits)

right_fits : (bits : ℕ) (x : ℤ) (count : ℕ) → v.shifted_right bits x count < count_of bits
right_fits bits x count =
    if_fits (nat_lt count (v.width bits)) (pattern bits (int_shr x count)) (if int_lt x (pos 0) then pattern bits (neg_ℤ (pos 1)) else 0) (count_of bits) (pattern_fits bits (int_shr x count))
    (if_fits (int_lt x (pos 0)) (pattern bits (neg_ℤ (pos 1))) 0 (count_of bits) (pattern_fits bits (neg_ℤ (pos 1))) (count_positive bits))

chosen_fits : (bits test x y : ℕ) → v.chosen bits test x y < count_of bits
chosen_fits bits test x y = if_fits (nat_eq test 0) (pattern bits (pos y)) (pattern bits (pos x)) (count_of bits) (pattern_fits bits (pos y)) (pattern_fits bits (pos x))

fused_fits : (p : _) (bits x y z : ℕ) → v.fused p bits x y z < count_of bits
fused_fits p bits x y z =
    if_fits p.left (v.simple p.second bits (v.simple p.first bits x y) z) (v.simple p.second bits z (v.simple p.first bits x y)) (count_of bits)
    (simple_fits p.second bits (v.simple p.first bits x y) z) (simple_fits p.second bits z (v.simple p.first bits x y))

at_fits : (kind : OpKind) (signed : Bool) (bits from x y z : ℕ) → is_access kind ≡ false → v.value_at kind signed bits from x y z < count_of (result_bits kind bits)
at_fits o.Add signed bits from x y z h = simple_fits s.Add bits x y
at_fits o.Sub signed bits from x y z h = simple_fits s.Sub bits x y
at_fits o.Mul signed bits from x y z h = product_fits bits x y
at_fits o.Div signed bits from x y z h = quotient_fits bits (v.number_of signed bits x) (v.number_of signed bits y)
at_fits o.Rem signed bits from x y z h = remainder_fits bits (v.number_of signed bits x) (v.number_of signed bits y)
at_fits o.And signed bits from x y z h = simple_fits s.And bits x y
at_fits o.Or signed bits from x y z h = simple_fits s.Or bits x y
at_fits o.Xor signed bits from x y z h = simple_fits s.Xor bits x y
at_fits o.Shl signed bits from x y z h = left_fits bits x y
at_fits o.Shr signed bits from x y z h = right_fits bits (v.number_of signed bits x) y
at_fits o.Eq signed bits from x y z h = truth_fits (nat_eq x y)
at_fits o.Ne signed bits from x y z h = truth_fits (not (nat_eq x y))
at_fits o.Lt signed bits from x y z h = truth_fits (int_lt (v.number_of signed bits x) (v.number_of signed bits y))
at_fits o.Le signed bits from x y z h = truth_fits (int_le (v.number_of signed bits x) (v.number_of signed bits y))
at_fits o.Not signed bits from x y z h = pattern_fits bits (neg_ℤ (pos 1) -ℤ pos x)
at_fits o.Neg signed bits from x y z h = pattern_fits bits (neg_ℤ (pos x))
at_fits o.Select signed bits from x y z h = chosen_fits bits x y z
at_fits o.Widen signed bits from x y z h = pattern_fits bits (v.number_of signed from x)
at_fits o.Narrow signed bits from x y z h = pattern_fits bits (pos x)
at_fits o.Truth signed bits from x y z h = truth_fits (not (nat_eq x 0))
at_fits o.Copy signed bits from x y z h = pattern_fits bits (pos x)
at_fits o.Load signed bits from x y z h = absurd cc
at_fits o.Store signed bits from x y z h = absurd cc
at_fits (o.Fused p) signed bits from x y z h = fused_fits p bits x y z

pub value_fits : (kind : OpKind) (signed : Bool) (bits from : ℕ) (args : List ℕ) → is_access kind ≡ false → value kind signed bits from args < count_of (result_bits kind bits)
value_fits kind signed bits from args h = at_fits kind signed bits from (get_or args 0 0) (get_or args 1 0) (get_or args 2 0) h

-- ---- operands

abbrev pub ResultsFit : List OpTree → List ℕ → Type 0
ResultsFit ops results = (i : ℕ) (op : OpTree) → slice_get ops i ≡ Some op → get_or results i 0 < count_of (result_bits op.kind op.bits)

module _ (widths words : List ℕ) where
  pub word_fits : (t : Words) (ops : List OpTree) (results : List ℕ) → Fits widths words t → ResultsFit ops results → (x : Source) (n : ℕ) → HasBits widths words ops n x → word t results x < count_of n
  word_fits t ops results f r (source.Constant w) n h = h
  word_fits t ops results f r (source.Variable u) n h = f.variables u.0 n h
  word_fits t ops results f r (source.Result i) n h = subst (λ m. get_or results i.0 0 < count_of m) h.2 (r i.0 h.0 h.1)

  last_fits : (t : Words) (ops : List OpTree) (results : List ℕ) → Fits widths words t → ResultsFit ops results → (xs : List Operand) (n : ℕ) → LastHas widths words ops n xs → stored (map (operand t results) xs) < count_of n
  last_fits t ops results f r [] n h = count_positive n
  last_fits t ops results f r (x ∷ []) n h = word_fits t ops results f r x.value n h
  last_fits t ops results f r (x ∷ y ∷ ys) n h =
      let w = map (operand t results) ys in
      let q : length (operand t results x ∷ operand t results y ∷ w) - 1 ≡ suc (length (operand t results y ∷ w) - 1) = omega arith in
      subst (λ i. get_or (operand t results x ∷ operand t results y ∷ w) i 0 < count_of n) (sym q) (last_fits t ops results f r (y ∷ ys) n h)

  pub results_more : (ops : List OpTree) (results : List ℕ) (op : OpTree) (r : ℕ) → length ops ≡ length results → ResultsFit ops results → r < count_of (result_bits op.kind op.bits) → ResultsFit (ops ++ op ∷ []) (results ++ r ∷ [])
  results_more ops results op r count h k i x e = by (last_or ops op i x e) where
    by : (slice_get ops i ≡ Some x) ⊎ ((i ≡ length ops) × (op ≡ x)) → get_or (results ++ r ∷ []) i 0 < count_of (result_bits x.kind x.bits)
    by (inl q) =
        let p = within ops i x q in
        let l : i < length results = omega (arith, p, count) in
        subst (λ w. w < count_of (result_bits x.kind x.bits)) (sym (get_or_append_left results (r ∷ []) 0 i l)) (h i x q)
    by (inr q) =
        subst (λ (y : OpTree). get_or (results ++ r ∷ []) i 0 < count_of (result_bits y.kind y.bits)) q.1
        (subst (λ w. w < count_of (result_bits op.kind op.bits)) (sym (ap (λ j. get_or (results ++ r ∷ []) j 0) (q.0 ∙ count) ∙ get_or-append_seam results r [] 0)) k)

  -- ---- an operation

  -- what it gives, and what stays
  pub record Gives (op : OpTree) (t : Words) (p : Performed) : Type 0 where
    pub result : p.result < count_of (result_bits op.kind op.bits)
    pub fits : Fits widths words p.words
    pub variables : p.words.variables ≡ t.variables

  stored_fits : (t : Words) (m address w : ℕ) (bits : ℕ) → slice_get words m ≡ Some bits → w < count_of bits → Fits widths words t → Fits widths words (with_memory_word m address w t)
  stored_fits t m address w bits e l f = record { variables = f.variables; memories = λ k n h a. by k n h a (m == k) refl (address == a) } where
    by_address : (k n a : ℕ) → slice_get words k ≡ Some n → m ≡ k → (c : Bool) → (if c then w else t.memories k a) < count_of n
    by_address k n a h p true = let q : bits ≡ n = some_same (sym e ∙ ap (slice_get words) p ∙ h) in subst (λ x. w < count_of x) q l
    by_address k n a h p false = f.memories k n h a

    by : (k n : ℕ) → slice_get words k ≡ Some n → (a : ℕ) (c : Bool) → (m == k) ≡ c → (d : Bool) → (if c then with_word (t.memories k) address w else t.memories k) a < count_of n
    by k n h a true q d = by_address k n a h (same_number m k q) (address == a)
    by k n h a false q d = f.memories k n h a

  module _ (shapes : Shapes) (ops : List OpTree) (results : List ℕ) (t : Words) (f : Fits widths words t) (r : ResultsFit ops results) (op : OpTree) (h : OpIsTyped widths words ops op) where
    plain_gives : (from : ℕ) (args : List ℕ) → is_access op.kind ≡ false → Gives op t (performed (value op.kind op.signed op.bits from args) t)
    plain_gives from args k = record { result = value_fits op.kind op.signed op.bits from args k; fits = f; variables = refl }

    load_gives : (kind : OpKind) → op.kind ≡ kind → kind ≡ o.Load → (allowed : Bool) (from : ℕ) (args : List ℕ) → Gives op t (effect shapes op o.Load allowed from args t)
    load_gives kind e k allowed from args = record { result = by allowed; fits = words_fit allowed; variables = same allowed } where
      bits : result_bits op.kind op.bits ≡ op.bits
      bits = ap (λ x. result_bits x op.bits) (e ∙ k)

      access : AccessIsTyped widths words ops op o.Load op.array
      access = subst (λ x. AccessIsTyped widths words ops op x op.array) (e ∙ k) h.access

      there_ : (a : Option _) → AccessIsTyped widths words ops op o.Load a → loaded shapes a args t < count_of op.bits
      there_ None z = count_positive op.bits
      there_ (Some a) z = f.memories a.0 op.bits z (address_of (dims_of shapes a) args)

      by : (c : Bool) → (effect shapes op o.Load c from args t).result < count_of (result_bits op.kind op.bits)
      by true = subst (λ n. loaded shapes op.array args t < count_of n) (sym bits) (there_ op.array access)
      by false = count_positive (result_bits op.kind op.bits)

      words_fit : (c : Bool) → Fits widths words (effect shapes op o.Load c from args t).words
      words_fit true = f
      words_fit false = f

      same : (c : Bool) → (effect shapes op o.Load c from args t).words.variables ≡ t.variables
      same true = refl
      same false = refl

    store_gives : op.kind ≡ o.Store → (allowed : Bool) (from : ℕ) → Gives op t (effect shapes op o.Store allowed from (map (operand t results) op.args) t)
    store_gives e allowed from = record { result = by allowed; fits = words_fit allowed; variables = same allowed } where
      access : AccessIsTyped widths words ops op o.Store op.array
      access = subst (λ x. AccessIsTyped widths words ops op x op.array) e h.access

      args : List ℕ
      args = map (operand t results) op.args

      by : (c : Bool) → (effect shapes op o.Store c from (map (operand t results) op.args) t).result < count_of (result_bits op.kind op.bits)
      by true = count_positive (result_bits op.kind op.bits)
      by false = count_positive (result_bits op.kind op.bits)

      there_ : (a : Option _) → AccessIsTyped widths words ops op o.Store a → Fits widths words (with_stored shapes a (map (operand t results) op.args) t)
      there_ None z = f
      there_ (Some a) z =
          stored_fits t a.0 (address_of (dims_of shapes a) (subscripts (map (operand t results) op.args))) (stored (map (operand t results) op.args)) z.0 z.1 (last_fits t ops results f r op.args z.0 z.2) f

      words_fit : (c : Bool) → Fits widths words (effect shapes op o.Store c from (map (operand t results) op.args) t).words
      words_fit true = there_ op.array access
      words_fit false = f

      at : (a : Option _) → (with_stored shapes a (map (operand t results) op.args) t).variables ≡ t.variables
      at None = refl
      at (Some a) = refl

      same : (c : Bool) → (effect shapes op o.Store c from (map (operand t results) op.args) t).words.variables ≡ t.variables
      same true = at op.array
      same false = refl

    effect_gives : (kind : OpKind) → op.kind ≡ kind → (allowed : Bool) (from : ℕ) → Gives op t (effect shapes op kind allowed from (map (operand t results) op.args) t)
    effect_gives o.Load e allowed from = load_gives o.Load e refl allowed from (map (operand t results) op.args)
    effect_gives o.Store e allowed from = store_gives e allowed from
    effect_gives kind e allowed from =
        subst (λ x. Gives op t (performed (value x op.signed op.bits from (map (operand t results) op.args)) t)) e (plain_gives from (map (operand t results) op.args) (ap is_access e))

  -- where an operation is not at fault, it gives its effect
  pub no_fault : (allowed : Bool) (flag : _) (rule : _) (q p : Performed) → fault_if allowed flag rule q ≡ is p → q ≡ p
  no_fault true None rule q p e = cc
  no_fault true (Some at) None q p e = cc
  no_fault true (Some at) (Some rule) q p e = absurd cc
  no_fault false flag rule q p e = cc

  pub perform_gives : (shapes : Shapes) (whole ops : List OpTree) (results : List ℕ) (t : Words) → Fits widths words t → ResultsFit ops results → (op : OpTree) → OpIsTyped widths words ops op
      → (p : Performed) → perform shapes whole op results t ≡ is p → Gives op t p
  perform_gives shapes whole ops results t f r op h p e =
      let a = is_allowed t results op.guard in
      let m = first_bits shapes.widths whole op op.args in
      subst (Gives op t) (no_fault a op.flag (fault shapes op (map (operand t results) op.args)) (effect shapes op op.kind a m (map (operand t results) op.args) t) p e)
      (effect_gives shapes ops results t f r op h op.kind refl a m)

  -- ---- operations one after another

  pub record GivesAll (ops : List OpTree) (t : Words) (q : Ranged) : Type 0 where
    pub count : length ops ≡ length q.results
    pub results : ResultsFit ops q.results
    pub fits : Fits widths words q.words
    pub variables : q.words.variables ≡ t.variables

  pub operations_give : (shapes : Shapes) (whole ops rest : List OpTree) (results : List ℕ) (t : Words) → length ops ≡ length results → Fits widths words t → ResultsFit ops results → OpsAreTyped widths words ops rest
      → (q : Ranged) → operations shapes whole rest results t ≡ is q → GivesAll (ops ++ rest) t q
  operations_give shapes whole ops [] results t c f r h q e =
      let p : record { results = results; words = t } ≡ q = cc in
      subst (λ (x : Ranged). GivesAll (ops ++ []) t x) p (record { count = ap length (append-nil ops) ∙ c; results = subst (λ l. ResultsFit l results) (sym (append-nil ops)) r; fits = f; variables = refl })
  operations_give shapes whole ops (op ∷ rest) results t c f r h q e =
      by (perform shapes whole op results t) refl e (λ p g k. operations_give shapes whole (ops ++ op ∷ []) rest (results ++ p.result ∷ []) p.words
      (more_count p) g.fits (results_more ops results op p.result c r g.result) h.1 q k) where
        more_count : (p : Performed) → length (ops ++ op ∷ []) ≡ length (results ++ p.result ∷ [])
        more_count p = let a = length-append ops (op ∷ []) in let d = length-append results (p.result ∷ []) in omega (arith, a, d, c)

        by : (x : Valued Performed) → perform shapes whole op results t ≡ x → and_then x (λ p. operations shapes whole rest (results ++ p.result ∷ []) p.words) ≡ is q
            → ((p : Performed) → Gives op t p → operations shapes whole rest (results ++ p.result ∷ []) p.words ≡ is q → GivesAll ((ops ++ op ∷ []) ++ rest) p.words q) → GivesAll (ops ++ op ∷ rest) t q
        by (is p) u k further =
            let g = perform_gives shapes whole ops results t f r op h.0 p u in
            let z = further p g k in
            subst (λ l. GivesAll l t q) (append_assoc ops (op ∷ []) rest) (record { count = z.count; results = z.results; fits = z.fits; variables = z.variables ∙ g.variables })
        by (faulty rule at) u k further = absurd cc

  -- ---- what a block leaves

  outs_fit : (ops : List OpTree) (t : Words) (results : List ℕ) → Fits widths words t → ResultsFit ops results → (xs : List Out) → OutsAreTyped widths words ops xs → (f : ℕ → ℕ) → ((u n : ℕ) → slice_get widths u ≡ Some n → f u < count_of n)
      → (u n : ℕ) → slice_get widths u ≡ Some n → outs xs t results f u < count_of n
  outs_fit ops t results g r [] h f k u n e = k u n e
  outs_fit ops t results g r (x ∷ xs) h f k u n e =
      outs_fit ops t results g r xs h.1 (with_word f x.variable.0 (operand t results x.value)) (λ i m q. by i m q (x.variable.0 == i) refl) u n e where
        by : (i m : ℕ) → slice_get widths i ≡ Some m → (c : Bool) → (x.variable.0 == i) ≡ c → (if c then operand t results x.value else f i) < count_of m
        by i m q true z =
            let d = h.0 in
            let p : d.0 ≡ m = some_same (sym d.1 ∙ ap (slice_get widths) (same_number x.variable.0 i z) ∙ q) in
            subst (λ y. operand t results x.value < count_of y) p (word_fits t ops results g r x.value.value d.0 d.2)
        by i m q false z = k i m q

  pub leaves_fit : (ops : List OpTree) (r : Ranged) → Fits widths words r.words → ResultsFit ops r.results → (xs : List Out) → OutsAreTyped widths words ops xs → Fits widths words (with_outs xs r)
  leaves_fit ops r f g xs h = record { variables = outs_fit ops r.words r.results f g xs h r.words.variables f.variables; memories = f.memories }
