-- A block behind another one does the same where it is joined to it.
use Rattle.std.proofs.Common.{◌≡◌, ◌∙◌, ◌<◌, ◌≤◌, ◌⊎◌, inl, inr, ℕ, zero, suc, ◌+◌, Bool, true, false, not, refl, ap, ap₂, sym, subst, arith, List, [], ◌∷◌, ◌++◌, append_assoc, append-nil, map, length, length-append, Option, Some, None}
use Rattle.std.specs.Prelude.{slice_get, get_or, ◌==◌, if◌then◌else◌}
use Rattle.std.specs.Option.{option_map}
use Rattle.std.proofs.lemmas.List.{get_or_append_left}
use Rattle.std.proofs.Math.Seq.{get_or-append_seam}
use Rattle.hls_base.specs.declared.number.VarId.{VarId}
use Rattle.hls_base.specs.declared.place.Place.{Place}
use Rattle.hls_base.specs.declared.refusal.UbRule.{UbRule}
use Rattle.ir_core.specs.declared.body.OpKind.{OpKind}
use Rattle.ir_core.specs.declared.body.OpKind.TheVariants as o
use Rattle.ir_core.specs.declared.body.Operand.{Operand}
use Rattle.ir_core.specs.declared.body.Out.{Out}
use Rattle.ir_core.specs.declared.body.Source.{Source}
use Rattle.ir_core.specs.declared.body.Source.TheVariants as source
use Rattle.ir_core.specs.Value.{value}
use Rattle.ir_core.specs.Timing.{result_bits}
use Rattle.hls_base.specs.Valued.{Valued, is, faulty, and_then}
use Rattle.ir_core.specs.Bodies as b
use Rattle.ir_core.specs.Bodies.{OpTree, Shapes, Words, Performed, performed, Ranged, word, operand, bits_in, operand_bits, first_bits, loaded, with_stored, with_element, effect, fault, fault_if, is_allowed, perform, operations}
use Rattle.passes.specs.Numbering as n
use Rattle.passes.specs.Numbering.{Value, constant, result_of, operand_or, source_bits}
use Rattle.passes.specs.Numbering.Constants.{word_of}
use Rattle.passes.specs.Conversion.Outs.{entry_value, held}
use Rattle.passes.specs.Conversion.Joining.{Joined, standing_for, renamed, renamed_op, is_conversion, converted, first_word, by_word, joined_ops, with_value, with_op}
use Rattle.pass_runs.specs.ConvertRuns.Typed.{IsEarly, AreEarly, HasBits, GuardIsTyped, OpsAreTyped}
use Rattle.pass_runs.proofs.ConvertRuns.Lists.{there, within, left_of, last_or}
use Rattle.pass_runs.proofs.ConvertRuns.Joining.{has_early, Sound, joined_sound, all_sound}

-- ---- operations one after another

pub ops_append : (shapes : Shapes) (w xs ys : List OpTree) (results : List ℕ) (t : Words) → operations shapes w (xs ++ ys) results t ≡ and_then (operations shapes w xs results t) (λ q. operations shapes w ys q.results q.words)
ops_append shapes w [] ys results t = refl
ops_append shapes w (x ∷ xs) ys results t = by (perform shapes w x results t) (λ p. ops_append shapes w xs ys (results ++ p.result ∷ []) p.words) where
  by : (z : Valued Performed) → ((p : Performed) → operations shapes w (xs ++ ys) (results ++ p.result ∷ []) p.words ≡ and_then (operations shapes w xs (results ++ p.result ∷ []) p.words) (λ q. operations shapes w ys q.results q.words))
      → and_then z (λ p. operations shapes w (xs ++ ys) (results ++ p.result ∷ []) p.words) ≡ and_then (and_then z (λ p. operations shapes w xs (results ++ p.result ∷ []) p.words)) (λ q. operations shapes w ys q.results q.words)
  by (is p) h = h p
  by (faulty rule at) h = refl

-- the first operand's width where more operations follow
first_whole : (widths : List ℕ) (v w : List OpTree) (op : OpTree) (k : ℕ) → k ≤ length v → ((i : ℕ) (x : OpTree) → slice_get v i ≡ Some x → slice_get w i ≡ Some x) → (xs : List Operand) → AreEarly k xs → first_bits widths v op xs ≡ first_bits widths w op xs
first_whole widths v w op k le h [] z = refl
first_whole widths v w op k le h (x ∷ xs) z = by x.value z.0 where
  by : (s : Source) → IsEarly k s → operand_bits widths v op.bits s ≡ operand_bits widths w op.bits s
  by (source.Constant c) q = refl
  by (source.Variable u) q = refl
  by (source.Result i) q =
      let l : i.0 < length v = omega (arith, q, le) in
      let x = there v i.0 l in
      ap (λ c. bits_in c op.bits) (x.1 ∙ sym (h i.0 x.0 x.1))

pub whole_more : (shapes : Shapes) (words : List ℕ) (v w : List OpTree) → ((i : ℕ) (x : OpTree) → slice_get v i ≡ Some x → slice_get w i ≡ Some x) → (before xs : List OpTree) → OpsAreTyped shapes.widths words before xs → length before + length xs ≤ length v
    → (results : List ℕ) (t : Words) → operations shapes v xs results t ≡ operations shapes w xs results t
whole_more shapes words v w h before [] z le results t = refl
whole_more shapes words v w h before (x ∷ xs) z le results t =
    let l : length before ≤ length v = omega (arith, le) in
    let a = length-append before (x ∷ []) in
    let m : length (before ++ x ∷ []) + length xs ≤ length v = omega (arith, a, le) in
    let f = first_whole shapes.widths v w x (length before) l h x.args z.0.args in
    let d = is_allowed t results x.guard in
    let e : perform shapes v x results t ≡ perform shapes w x results t = ap (λ b. fault_if d x.flag (fault shapes x (map (operand t results) x.args)) (effect shapes x x.kind d b (map (operand t results) x.args) t)) f in
    λ i. and_then (e i) (λ p. whole_more shapes words v w h (before ++ x ∷ []) xs z.1 m (results ++ p.result ∷ []) p.words i)

-- ---- more results

pub word_more : (t : Words) (results more : List ℕ) (s : Source) → IsEarly (length results) s → word t (results ++ more) s ≡ word t results s
word_more t results more (source.Constant w) h = refl
word_more t results more (source.Variable v) h = refl
word_more t results more (source.Result i) h = get_or_append_left results more 0 i.0 h

pub word_apart : (t u : Words) (results : List ℕ) (s : Source) → t.variables ≡ u.variables → word t results s ≡ word u results s
word_apart t u results (source.Constant w) e = refl
word_apart t u results (source.Variable v) e = ap (λ (f : ℕ → ℕ). f v.0) e
word_apart t u results (source.Result i) e = refl

-- ---- one operation over two stores with the same memories

-- what they give is the same, and the variables stay
abbrev pub Alike : Words → Words → Valued Performed → Valued Performed → Type 0
Alike v t (is p) (is q) = (p.result ≡ q.result) × (p.words.memories ≡ q.words.memories) × (p.words.variables ≡ v.variables) × (q.words.variables ≡ t.variables)
Alike v t (faulty rule at) (faulty other place) = (rule ≡ other) × (at ≡ place)
Alike v t x y = ⊥

abbrev pub AlikeEffect : Words → Words → Performed → Performed → Type 0
AlikeEffect v t p q = (p.result ≡ q.result) × (p.words.memories ≡ q.words.memories) × (p.words.variables ≡ v.variables) × (q.words.variables ≡ t.variables)

module _ (shapes : Shapes) (v t : Words) (same : v.memories ≡ t.memories) (op other : OpTree) (array : op.array ≡ other.array) (signed : op.signed ≡ other.signed) (bits : op.bits ≡ other.bits) (args : List ℕ) where
  loaded_same : (a : Option _) → loaded shapes a args v ≡ loaded shapes a args t
  loaded_same None = refl
  loaded_same (Some a) = ap (λ (m : ℕ → ℕ → ℕ). loaded shapes (Some a) args (record t { memories = m })) same

  stored_same : (a : Option _) → (with_stored shapes a args v).memories ≡ (with_stored shapes a args t).memories
  stored_same None = same
  stored_same (Some a) = ap (λ (m : ℕ → ℕ → ℕ). (with_stored shapes (Some a) args (record t { memories = m })).memories) same

  stored_stays : (u : Words) (a : Option _) → (with_stored shapes a args u).variables ≡ u.variables
  stored_stays u None = refl
  stored_stays u (Some a) = refl

  pub effect_alike : (kind : OpKind) (allowed : Bool) (from new_from : ℕ) → value kind op.signed op.bits from args ≡ value kind op.signed op.bits new_from args → AlikeEffect v t (effect shapes op kind allowed from args v) (effect shapes other kind allowed new_from args t)
  effect_alike o.Load true from new_from e = (loaded_same op.array ∙ ap (λ a. loaded shapes a args t) array, same, refl, refl)
  effect_alike o.Load false from new_from e = (refl, same, refl, refl)
  effect_alike o.Store true from new_from e = (refl, stored_same op.array ∙ ap (λ a. (with_stored shapes a args t).memories) array, stored_stays v op.array, stored_stays t other.array)
  effect_alike o.Store false from new_from e = (refl, same, refl, refl)
  effect_alike kind allowed from new_from e = (e ∙ (λ i. value kind (signed i) (bits i) new_from args), same, refl, refl)

pub fault_alike : (v t : Words) (allowed : Bool) (flag : _) (rule : _) (p q : Performed) → AlikeEffect v t p q → Alike v t (fault_if allowed flag rule p) (fault_if allowed flag rule q)
fault_alike v t true None rule p q h = h
fault_alike v t true (Some at) None p q h = h
fault_alike v t true (Some at) (Some rule) p q h = (refl, refl)
fault_alike v t false flag rule p q h = h

get_of : (xs : List ℕ) (i x d : ℕ) → slice_get xs i ≡ Some x → get_or xs i d ≡ x
get_of [] i x d e = absurd cc
get_of (y ∷ xs) zero x d e = cc
get_of (y ∷ xs) (suc i) x d e = get_of xs i x d e

-- ---- values of conversions

abbrev pub is_widen : OpKind → Bool
is_widen o.Widen = true
is_widen kind = false

widens : (kind : OpKind) → is_widen kind ≡ true → kind ≡ o.Widen
widens o.Widen e = refl
widens kind e = absurd cc

from_free : (kind : OpKind) (signed : Bool) (bits m k : ℕ) (args : List ℕ) → is_widen kind ≡ false → value kind signed bits m args ≡ value kind signed bits k args
from_free o.Widen signed bits m k args e = absurd cc
from_free kind signed bits m k args e = refl

some_word : {x y : ℕ} → Some x ≡ Some y → x ≡ y
some_word e = cc

-- a conversion is never at fault, and takes its first operand alone
pub converts : (shapes : Shapes) (op : OpTree) (kind : OpKind) → op.kind ≡ kind → is_conversion kind ≡ true → (allowed : Bool) (from w : ℕ) (ws : List ℕ) (t : Words)
    → fault_if allowed op.flag (fault shapes op (w ∷ ws)) (effect shapes op op.kind allowed from (w ∷ ws) t) ≡ is (performed (value op.kind op.signed op.bits from (w ∷ [])) t)
converts shapes op kind e c allowed from w ws t = subst (λ k. fault_if allowed op.flag (fault_as k) (effect shapes op k allowed from (w ∷ ws) t) ≡ is (performed (value k op.signed op.bits from (w ∷ [])) t)) (sym e) (by kind c allowed op.flag) where
  fault_as : OpKind → Option UbRule
  fault_as k = b.fault_of shapes op k (w ∷ ws)

  by : (k : OpKind) → is_conversion k ≡ true → (a : Bool) (flag : Option Place) → fault_if a flag (b.fault_of shapes op k (w ∷ ws)) (effect shapes op k a from (w ∷ ws) t) ≡ is (performed (value k op.signed op.bits from (w ∷ [])) t)
  by o.Widen h true None = refl
  by o.Widen h true (Some at) = refl
  by o.Widen h false flag = refl
  by o.Narrow h true None = refl
  by o.Narrow h true (Some at) = refl
  by o.Narrow h false flag = refl
  by o.Truth h true None = refl
  by o.Truth h true (Some at) = refl
  by o.Truth h false flag = refl
  by k h a flag = absurd cc

-- ---- joined operations, behind those of a block

module _ (shapes : Shapes) (words : List ℕ) (outs_ : List Out) (base block w : List OpTree) (t0 : Words) where
  abbrev pub widths : List ℕ
  widths = shapes.widths

  abbrev pub IsSound : List OpTree → Joined → Type 0
  IsSound done s = Sound widths words outs_ None base done s.ops s.values s.guards

  -- The block did so far what these operations do.
  pub record Shows (done : List OpTree) (s : Joined) (results : List ℕ) (v : Words) (others : List ℕ) (t : Words) : Type 0 where
    pub runs : operations shapes w s.ops [] t0 ≡ is (record { results = others; words = t })
    pub count : length s.ops ≡ length others
    pub done_count : length done ≡ length results
    pub reads : (u : VarId) → v.variables u.0 ≡ operand t others (held outs_ u)
    pub stand : (j : ℕ) (x : Value) → slice_get s.values j ≡ Some x → get_or results j 0 ≡ operand t others x.operand
    pub memories : v.memories ≡ t.memories
    pub stays : t.variables ≡ t0.variables

  module _ (done : List OpTree) (s : Joined) (results : List ℕ) (v : Words) (others : List ℕ) (t : Words) (sound : IsSound done s) (h : Shows done s results v others t) where
    value_at : (i : ℕ) → i < length done → (x : Value) × (slice_get s.values i ≡ Some x)
    value_at i l = let c = sound.count in there s.values i (omega (arith, l, c))

    standing_same : (x : Operand) (q : Source) → x.value ≡ q → IsEarly (length done) q → word v results q ≡ operand t others (standing_for outs_ s.values x q)
    standing_same x (source.Constant c) e z = ap (word t others) (sym e)
    standing_same x (source.Variable u) e z = h.reads u
    standing_same x (source.Result i) e z = let y = value_at i.0 z in h.stand i.0 y.0 y.1 ∙ ap (λ c. operand t others (operand_or c x)) (sym y.1)

    pub renamed_same : (x : Operand) → IsEarly (length done) x.value → operand v results x ≡ operand t others (renamed outs_ s.values x)
    renamed_same x z = standing_same x x.value refl z

    pub args_same : (xs : List Operand) → AreEarly (length done) xs → map (operand v results) xs ≡ map (operand t others) (map (renamed outs_ s.values) xs)
    args_same [] z = refl
    args_same (x ∷ xs) z = ap₂ (λ a as_. a ∷ as_) (renamed_same x z.0) (args_same xs z.1)

    pub guard_early : (g : Option Operand) → GuardIsTyped widths words done g → is_allowed v results g ≡ is_allowed t others (option_map (renamed outs_ s.values) g)
    guard_early None z = refl
    guard_early (Some x) z = ap (λ c. not (c == 0)) (renamed_same x (has_early widths words done 1 x.value z))

    -- ---- widths

    module _ (prefix : (i : ℕ) (x : OpTree) → slice_get done i ≡ Some x → slice_get block i ≡ Some x) where
      source_same : (d : ℕ) (q : Source) → IsEarly (length done) q → operand_bits widths block d q ≡ source_bits widths s.values d q
      source_same d (source.Constant c) z = refl
      source_same d (source.Variable u) z = refl
      source_same d (source.Result i) z =
          let x = there done i.0 z in
          let y = value_at i.0 z in
          ap (λ c. bits_in c d) (prefix i.0 x.0 x.1) ∙ sym (sound.bits i.0 x.0 y.0 x.1 y.1) ∙ ap (λ c. n.bits_or c d) (sym y.1)

      pub from_same : (op : OpTree) (xs : List Operand) → AreEarly (length done) xs → first_bits widths block op xs ≡ n.first_bits widths s.values op.bits xs
      from_same op [] z = refl
      from_same op (x ∷ xs) z = source_same op.bits x.value z.0

    -- where what stands for an operand is no constant
    has_bits : (bits d : ℕ) (q : Source) → HasBits widths words s.ops bits q → word_of q ≡ None → ((i : ℕ) (x : OpTree) → slice_get s.ops i ≡ Some x → slice_get w i ≡ Some x) → operand_bits widths w d q ≡ bits
    has_bits bits d (source.Constant c) z k p = absurd cc
    has_bits bits d (source.Variable u) z k p = get_of widths u.0 bits d z
    has_bits bits d (source.Result i) z k p = ap (λ c. bits_in c d) (p i.0 z.0 z.1) ∙ z.2

    module _ (begins : (i : ℕ) (x : OpTree) → slice_get s.ops i ≡ Some x → slice_get w i ≡ Some x) where
      standing_bits : (d : ℕ) (x : Operand) (q : Source) → x.value ≡ q → IsEarly (length done) q → word_of (standing_for outs_ s.values x q).value ≡ None → source_bits widths s.values d q ≡ operand_bits widths w d (standing_for outs_ s.values x q).value
      standing_bits d x (source.Constant c) e z k = absurd (ap_none (ap word_of (sym e) ∙ k)) where
        ap_none : Some c ≡ None → ⊥
        ap_none r = cc
      standing_bits d x (source.Variable u) e z k = by (sound.holds u) where
        by : (held outs_ u ≡ entry_value u) ⊎ ((m : ℕ) × (slice_get widths u.0 ≡ Some m) × HasBits widths words s.ops m (held outs_ u).value) → get_or widths u.0 d ≡ operand_bits widths w d (held outs_ u).value
        by (inl r) = ap (λ (y : Operand). operand_bits widths w d y.value) (sym r)
        by (inr r) = get_of widths u.0 r.0 d r.1 ∙ sym (has_bits r.0 d (held outs_ u).value r.2 k begins)
      standing_bits d x (source.Result i) e z k =
          let y = value_at i.0 z in
          let f = λ (c : Option Value). (operand_or c x).value in
          ap (λ c. n.bits_or c d) y.1 ∙ sym (has_bits y.0.bits d y.0.operand.value (sound.has i.0 y.0 y.1) (ap (λ c. word_of (f c)) (sym y.1) ∙ k) begins) ∙ ap (λ c. operand_bits widths w d (f c)) (sym y.1)

      not_constant : (op : OpTree) (from : ℕ) (x : Operand) → is_conversion op.kind ≡ true → (c : Option ℕ) → word_of x.value ≡ c → converted op from c ≡ None → c ≡ None
      not_constant op from x k None e q = refl
      not_constant op from x k (Some y) e q = absurd (no (ap (λ b. if b then Some (value op.kind op.signed op.bits from (y ∷ [])) else None) (sym k) ∙ q)) where
        no : Some (value op.kind op.signed op.bits from (y ∷ [])) ≡ None → ⊥
        no r = cc

      widen_converts : (kind : OpKind) → is_widen kind ≡ true → is_conversion kind ≡ true
      widen_converts o.Widen e = refl
      widen_converts kind e = absurd cc

      -- the width of the first operand counts for a conversion alone
      pub value_kept : (op : OpTree) (args : List ℕ) (xs : List Operand) → AreEarly (length done) xs
          → converted op (n.first_bits widths s.values op.bits xs) (first_word (map (renamed outs_ s.values) xs)) ≡ None
          → (c : Bool) → is_widen op.kind ≡ c → value op.kind op.signed op.bits (n.first_bits widths s.values op.bits xs) args ≡ value op.kind op.signed op.bits (first_bits widths w op (map (renamed outs_ s.values) xs)) args
      value_kept op args xs z k false e = from_free op.kind op.signed op.bits _ _ args e
      value_kept op args [] z k true e = refl
      value_kept op args (x ∷ xs) z k true e =
          ap (λ m. value op.kind op.signed op.bits m args)
          (standing_bits op.bits x x.value refl z.0 (not_constant op (n.first_bits widths s.values op.bits (x ∷ xs)) (renamed outs_ s.values x) (widen_converts op.kind e) (word_of (renamed outs_ s.values x).value) refl k))

  -- ---- runs

  abbrev pub Related : List OpTree → Joined → Words → Valued Ranged → Valued Ranged → Type 0
  Related done s v (is q) (is r) = Shows done s q.results q.words r.results r.words × (q.words.variables ≡ v.variables)
  Related done s v (faulty rule at) (faulty other place) = (rule ≡ other) × (at ≡ place)
  Related done s v x y = ⊥

  abbrev pub Begins : List OpTree → Type 0
  Begins ops = (i : ℕ) (x : OpTree) → slice_get ops i ≡ Some x → slice_get w i ≡ Some x

  abbrev pub RunsAll : List OpTree → Type 0
  RunsAll rest = (done : List OpTree) (s : Joined) (results : List ℕ) (v : Words) (others : List ℕ) (t : Words) → IsSound done s → Shows done s results v others t → OpsAreTyped widths words done rest → block ≡ done ++ rest
      → Begins (joined_ops widths outs_ None s rest).ops
      → Related (done ++ rest) (joined_ops widths outs_ None s rest) v (operations shapes block rest results v) (operations shapes w (joined_ops widths outs_ None s rest).ops [] t0)

  module _ (op : OpTree) (rest : List OpTree) (further : RunsAll rest) (done : List OpTree) (s : Joined) (results : List ℕ) (v : Words) (others : List ℕ) (t : Words) (sound : IsSound done s) (h : Shows done s results v others t)
      (typed : OpsAreTyped widths words done (op ∷ rest)) (at : block ≡ done ++ op ∷ rest) where
    abbrev new : OpTree
    new = renamed_op outs_ s.values op

    abbrev from : ℕ
    from = n.first_bits widths s.values op.bits op.args

    abbrev args : List ℕ
    args = map (operand t others) new.args

    abbrev allowed : Bool
    allowed = is_allowed t others new.guard

    abbrev target : Joined → Valued Ranged → Type 0
    target q x = Related ((done ++ op ∷ []) ++ rest) (joined_ops widths outs_ None q rest) v x (operations shapes w (joined_ops widths outs_ None q rest).ops [] t0)

    next_at : block ≡ (done ++ op ∷ []) ++ rest
    next_at = at ∙ sym (append_assoc done (op ∷ []) rest)

    prefix : (i : ℕ) (x : OpTree) → slice_get done i ≡ Some x → slice_get block i ≡ Some x
    prefix i x e = ap (λ l. slice_get l i) at ∙ left_of done (op ∷ rest) i x e

    more_done : (r : ℕ) → length (done ++ op ∷ []) ≡ length (results ++ r ∷ [])
    more_done r = let a = length-append done (op ∷ []) in let c = length-append results (r ∷ []) in let d = h.done_count in omega (arith, a, c, d)

    before : perform shapes block op results v ≡ fault_if allowed op.flag (fault shapes op args) (effect shapes op op.kind allowed from args v)
    before =
        let p = args_same done s results v others t sound h op.args typed.0.args in
        let a = guard_early done s results v others t sound h op.guard typed.0.guard in
        let f = from_same done s results v others t sound h prefix op op.args typed.0.args in
        λ i. fault_if (a i) op.flag (fault shapes op (p i)) (effect shapes op op.kind (a i) (f i) (p i) v)

    -- results before the last one
    stands_before : (values : List Value) (more : List ℕ) (r : ℕ) (j : ℕ) (x : Value) → length values ≡ length results → slice_get values j ≡ Some x → get_or results j 0 ≡ operand t (others ++ more) x.operand → get_or (results ++ r ∷ []) j 0 ≡ operand t (others ++ more) x.operand
    stands_before values more r j x c e q =
        let l = within values j x e in
        let m : j < length results = omega (arith, l, c) in
        get_or_append_left results (r ∷ []) 0 j m ∙ q

    -- an operation that is computed
    by_constant : (c : ℕ) → converted new from (first_word new.args) ≡ Some c → IsSound (done ++ op ∷ []) (with_value s new (constant c)) → Begins (joined_ops widths outs_ None (with_value s new (constant c)) rest).ops
        → target (with_value s new (constant c)) (operations shapes block (op ∷ rest) results v)
    by_constant c e z k =
        let done_so = before ∙ constant_done new.args refl e in
        subst (target (with_value s new (constant c))) (sym (ap (λ (x : Valued Performed). and_then x (λ p. operations shapes block rest (results ++ p.result ∷ []) p.words)) done_so))
        (further (done ++ op ∷ []) (with_value s new (constant c)) (results ++ c ∷ []) v others t z
        (record {
          runs = h.runs;
          count = h.count;
          done_count = more_done c;
          reads = h.reads;
          memories = h.memories;
          stays = h.stays;
          stand = λ j x q. stand_at j x (last_or s.values last j x q);
        }) typed.1 next_at k) where
          last : Value
          last = record { operand = constant c; bits = result_bits op.kind op.bits }

          counts : length s.values ≡ length results
          counts = let a = sound.count in let d = h.done_count in omega (arith, a, d)

          stand_at : (j : ℕ) (x : Value) → (slice_get s.values j ≡ Some x) ⊎ ((j ≡ length s.values) × (last ≡ x)) → get_or (results ++ c ∷ []) j 0 ≡ operand t others x.operand
          stand_at j x (inl q) = let l = within s.values j x q in let m : j < length results = omega (arith, l, counts) in get_or_append_left results (c ∷ []) 0 j m ∙ h.stand j x q
          stand_at j x (inr q) = ap (λ i. get_or (results ++ c ∷ []) i 0) (q.0 ∙ counts) ∙ get_or-append_seam results c [] 0 ∙ ap (λ (y : Value). operand t others y.operand) q.1

          conversion_of : (d : Option ℕ) → converted new from d ≡ Some c → (y : ℕ) × (d ≡ Some y) × (is_conversion op.kind ≡ true) × (value op.kind op.signed op.bits from (y ∷ []) ≡ c)
          conversion_of None q = absurd cc
          conversion_of (Some y) q = by (is_conversion op.kind) refl q where
            by : (b : Bool) → is_conversion op.kind ≡ b → (if b then Some (value op.kind op.signed op.bits from (y ∷ [])) else None) ≡ Some c → (u : ℕ) × (Some y ≡ Some u) × (is_conversion op.kind ≡ true) × (value op.kind op.signed op.bits from (u ∷ []) ≡ c)
            by true k q = (y, refl, k, some_word q)
            by false k q = absurd cc

          word_is : (x : Source) (y : ℕ) → word_of x ≡ Some y → word t others x ≡ y
          word_is (source.Constant d) y q = some_word q
          word_is (source.Variable u) y q = absurd cc
          word_is (source.Result i) y q = absurd cc

          constant_done : (xs : List Operand) → new.args ≡ xs → converted new from (first_word new.args) ≡ Some c
              → fault_if allowed op.flag (fault shapes op args) (effect shapes op op.kind allowed from args v) ≡ is (performed c v)
          constant_done [] p q = absurd (no (ap (λ l. converted new from (first_word l)) (sym p) ∙ q)) where
            no : None ≡ Some c → ⊥
            no r = cc
          constant_done (x ∷ xs) p q =
              let d = conversion_of (first_word new.args) q in
              let y = word_is x.value d.0 (sym (ap first_word p) ∙ d.1) in
              ap (λ l. fault_if allowed op.flag (fault shapes op (map (operand t others) l)) (effect shapes op op.kind allowed from (map (operand t others) l) v)) p
              ∙ converts shapes op op.kind refl d.2 allowed from (operand t others x) (map (operand t others) xs) v
              ∙ ap (λ u. is (performed (value op.kind op.signed op.bits from (u ∷ [])) v)) y ∙ ap (λ u. is (performed u v)) d.3

    -- an operation that stays
    abbrev kept : Joined
    kept = with_op s new new.guard

    begins_s : Begins (joined_ops widths outs_ None kept rest).ops → (more : List OpTree) → (joined_ops widths outs_ None kept rest).ops ≡ kept.ops ++ more → Begins s.ops
    begins_s k more e i x q = k i x (ap (λ l. slice_get l i) e ∙ left_of kept.ops more i x (left_of s.ops (new ∷ []) i x q))

    alike : converted new from (first_word new.args) ≡ None → Begins s.ops → Alike v t (perform shapes block op results v) (perform shapes w new others t)
    alike e b =
        let k = value_kept done s results v others t sound h b op args op.args typed.0.args e (is_widen op.kind) refl in
        subst (λ x. Alike v t x (perform shapes w new others t)) (sym before)
        (fault_alike v t allowed op.flag (fault shapes op args) (effect shapes op op.kind allowed from args v) (effect shapes new op.kind allowed (first_bits widths w new new.args) args t)
        (effect_alike shapes v t h.memories op new refl refl refl args op.kind allowed from (first_bits widths w new new.args) k))

    kept_runs : (x : Valued Performed) → perform shapes w new others t ≡ x → operations shapes w kept.ops [] t0 ≡ and_then x (λ p. is (record { results = others ++ p.result ∷ []; words = p.words }))
    kept_runs x e =
        ops_append shapes w s.ops (new ∷ []) [] t0 ∙ ap (λ (y : Valued Ranged). and_then y (λ q. operations shapes w (new ∷ []) q.results q.words)) h.runs
        ∙ ap (λ (y : Valued Performed). and_then y (λ p. is (record { results = others ++ p.result ∷ []; words = p.words }))) e

    by_result : (x y : Valued Performed) → perform shapes block op results v ≡ x → perform shapes w new others t ≡ y → Alike v t x y → IsSound (done ++ op ∷ []) kept → Begins (joined_ops widths outs_ None kept rest).ops
        → (more : List OpTree) → (joined_ops widths outs_ None kept rest).ops ≡ kept.ops ++ more
        → target kept (and_then x (λ p. operations shapes block rest (results ++ p.result ∷ []) p.words))
    by_result (faulty rule place) (faulty other there_) e q a z k more m =
        subst (λ (y : Valued Ranged). Related ((done ++ op ∷ []) ++ rest) (joined_ops widths outs_ None kept rest) v (faulty rule place) y)
        (sym (ap (λ l. operations shapes w l [] t0) m ∙ ops_append shapes w kept.ops more [] t0 ∙ ap (λ (y : Valued Ranged). and_then y (λ r. operations shapes w more r.results r.words)) (kept_runs (faulty other there_) q))) a
    by_result (is p) (is r) e q a z k more m = over (further (done ++ op ∷ []) kept (results ++ p.result ∷ []) p.words (others ++ r.result ∷ []) r.words z shows typed.1 next_at k) where
      counts : length s.values ≡ length results
      counts = let c = sound.count in let d = h.done_count in omega (arith, c, d)

      last : Value
      last = record { operand = result_of (length s.ops); bits = result_bits op.kind op.bits }

      same_operand : (y : Operand) → IsEarly (length others) y.value → operand r.words (others ++ r.result ∷ []) y ≡ operand t others y
      same_operand y l = word_apart r.words t (others ++ r.result ∷ []) y.value a.3 ∙ word_more t others (r.result ∷ []) y.value l

      held_early : (u : VarId) → IsEarly (length others) (held outs_ u).value
      held_early u = by (sound.holds u) where
        by : (held outs_ u ≡ entry_value u) ⊎ ((j : ℕ) × (slice_get widths u.0 ≡ Some j) × HasBits widths words s.ops j (held outs_ u).value) → IsEarly (length others) (held outs_ u).value
        by (inl g) = subst (λ (y : Operand). IsEarly (length others) y.value) (sym g) tt
        by (inr g) = subst (λ j. IsEarly j (held outs_ u).value) h.count (has_early widths words s.ops g.0 (held outs_ u).value g.2)

      stand_at : (j : ℕ) (x : Value) → (slice_get s.values j ≡ Some x) ⊎ ((j ≡ length s.values) × (last ≡ x)) → get_or (results ++ p.result ∷ []) j 0 ≡ operand r.words (others ++ r.result ∷ []) x.operand
      stand_at j x (inl g) =
          let l = within s.values j x g in
          let i : j < length results = omega (arith, l, counts) in
          get_or_append_left results (p.result ∷ []) 0 j i ∙ h.stand j x g
          ∙ sym (same_operand x.operand (subst (λ d. IsEarly d x.operand.value) h.count (has_early widths words s.ops x.bits x.operand.value (sound.has j x g))))
      stand_at j x (inr g) =
          ap (λ i. get_or (results ++ p.result ∷ []) i 0) (g.0 ∙ counts) ∙ get_or-append_seam results p.result [] 0 ∙ a.0
          ∙ sym (ap (λ i. get_or (others ++ r.result ∷ []) i 0) h.count ∙ get_or-append_seam others r.result [] 0) ∙ ap (λ (y : Value). operand r.words (others ++ r.result ∷ []) y.operand) g.1

      shows : Shows (done ++ op ∷ []) kept (results ++ p.result ∷ []) p.words (others ++ r.result ∷ []) r.words
      shows = record {
        runs = kept_runs (is r) q;
        count = let c = length-append s.ops (new ∷ []) in let d = length-append others (r.result ∷ []) in let i = h.count in omega (arith, c, d, i);
        done_count = more_done p.result;
        reads = λ u. ap (λ (f : ℕ → ℕ). f u.0) a.2 ∙ h.reads u ∙ sym (same_operand (held outs_ u) (held_early u));
        stand = λ j x g. stand_at j x (last_or s.values last j x g);
        memories = a.1;
        stays = a.3 ∙ h.stays;
      }

      over : Related ((done ++ op ∷ []) ++ rest) (joined_ops widths outs_ None kept rest) p.words (operations shapes block rest (results ++ p.result ∷ []) p.words) (operations shapes w (joined_ops widths outs_ None kept rest).ops [] t0)
          → target kept (operations shapes block rest (results ++ p.result ∷ []) p.words)
      over = by (operations shapes block rest (results ++ p.result ∷ []) p.words) (operations shapes w (joined_ops widths outs_ None kept rest).ops [] t0) where
        by : (x y : Valued Ranged) → Related ((done ++ op ∷ []) ++ rest) (joined_ops widths outs_ None kept rest) p.words x y → Related ((done ++ op ∷ []) ++ rest) (joined_ops widths outs_ None kept rest) v x y
        by (is g) (is d) c = (c.0, c.1 ∙ a.2)
        by (faulty rule place) (faulty other there_) c = c
        by (is g) (faulty rule place) c = c
        by (faulty rule place) (is g) c = c
    by_result (is p) (faulty rule place) e q a z k more m = absurd a
    by_result (faulty rule place) (is p) e q a z k more m = absurd a

    by_word_ : (c : Option ℕ) → converted new from (first_word new.args) ≡ c → IsSound (done ++ op ∷ []) (by_word None s new c) → Begins (joined_ops widths outs_ None (by_word None s new c) rest).ops
        → target (by_word None s new c) (operations shapes block (op ∷ rest) results v)
    by_word_ (Some c) e z k = by_constant c e z k
    by_word_ None e z k =
        let g = all_sound widths words outs_ None kept.ops rest (done ++ op ∷ []) kept (rebased z) typed.1 in
        by_result (perform shapes block op results v) (perform shapes w new others t) refl refl (alike e (begins_s k g.begins.0 g.begins.1)) z k g.begins.0 g.begins.1 where
          rebased : IsSound (done ++ op ∷ []) kept → Sound widths words outs_ None kept.ops (done ++ op ∷ []) kept.ops kept.values kept.guards
          rebased y = record { begins = ([], sym (append-nil kept.ops)); ops_typed = y.ops_typed; holds = y.holds; tests = y.tests; count = y.count; has = y.has; bits = y.bits; guard_has = y.guard_has }

  pub runs_all : (rest : List OpTree) → RunsAll rest
  runs_all [] done s results v others t sound h typed at begins =
      subst (λ (y : Valued Ranged). Related (done ++ []) s v (is (record { results = results; words = v })) y) (sym h.runs)
      (subst (λ l. Shows l s results v others t) (sym (append-nil done)) h, refl)
  runs_all (op ∷ rest) done s results v others t sound h typed at begins =
      subst (λ l. Related l (joined_ops widths outs_ None s (op ∷ rest)) v (operations shapes block (op ∷ rest) results v) (operations shapes w (joined_ops widths outs_ None s (op ∷ rest)).ops [] t0)) (append_assoc done (op ∷ []) rest)
      (by_word_ op rest (runs_all rest) done s results v others t sound h typed at (converted (renamed_op outs_ s.values op) (n.first_bits widths s.values op.bits op.args) (first_word (map (renamed outs_ s.values) op.args))) refl
      (joined_sound widths words outs_ None base done s op sound typed.0) begins)
