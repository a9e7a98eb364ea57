-- A numbering that shows one of the definition goes on showing it.
use Rattle.std.proofs.Common.{◌≡◌, ◌∙◌, ◌<◌, ◌≤◌, ℕ, zero, suc, ◌+◌, Bool, true, false, ◌&&◌, ◌||◌, not, refl, ap, ap₂, sym, arith, List, [], ◌∷◌, ◌++◌, map, length, Option, Some, None}
use Rattle.std.specs.Prelude.{is_some, slice_get, slice_set, if◌then◌else◌}
use Rattle.std.specs.Option.{option_map}
use Rattle.std.proofs.lemmas.List.{map-append}
use Rattle.std.proofs.lemmas.Option.{slice_get-map, slice_get_within}
use Rattle.indexmap.specs.IndexMap.{get}
use Rattle.ir_core.specs.declared.body.Op.{Op}
use Rattle.ir_core.specs.declared.body.Operand.{Operand}
use Rattle.ir_core.specs.declared.stamp.Untimed.{Untimed}
use Rattle.ir_core.specs.Bodies.{OpTree, op_of}
use Rattle.passes.specs.Numbering.Equal.{is_equal}
use Rattle.passes.specs.Numbering as n
use Rattle.passes.specs.Numbering.{Kept, Numbered, First, first_equal, is_common}
use Rattle.passes.proofs.Equalities.{false_true, equal_alike, alike_equal, alike_back, equal_back}
use Rattle.passes.proofs.Growing.{or_else, equal_at, first_more, with_out_stays, first_marked, flags_of}
use Rattle.value_number.specs.declared.block.Value as code
use Rattle.value_number.specs.declared.block.Numbering.{Numbering}
use Rattle.value_number.specs.Views.{key_of, key_eq, value_of, kept_of, noted, number_of, Shows}

-- what stands for the result of an operation that is there
pub named : (values : List code.Value) (i : ℕ) (x : Operand) (v : code.Value) → slice_get values i ≡ Some v → n.operand_or (slice_get (map value_of values) i) x ≡ v.operand
named values i x v e = ap (λ c. n.operand_or c x) (slice_get-map value_of values i ∙ ap (option_map value_of) e)

pub named_bits : (values : List code.Value) (i d : ℕ) (v : code.Value) → slice_get values i ≡ Some v → n.bits_or (slice_get (map value_of values) i) d ≡ v.bits
named_bits values i d v e = ap (λ c. n.bits_or c d) (slice_get-map value_of values i ∙ ap (option_map value_of) e)

-- ---- one value more

pub stands : (c d : Numbering) (s : Numbered) (v : code.Value) → d.ops ≡ c.ops → d.makes_out ≡ c.makes_out → d.firsts ≡ c.firsts → d.values.items ≡ c.values.items ++ v ∷ [] → Shows c s
    → Shows d (record s { values = s.values ++ value_of v ∷ [] })
stands c d s v ops flags firsts values h = record {
  ops = ap (λ (xs : _). map op_of xs.items) ops ∙ h.ops;
  makes_out = ap (λ (xs : _). xs.items) flags ∙ h.makes_out;
  values = ap (map value_of) values ∙ map-append value_of c.values.items (v ∷ []) ∙ ap (λ l. l ++ value_of v ∷ []) h.values;
  firsts = λ op k. ap (λ m. get key_eq m (key_of op)) firsts ∙ h.firsts op k;
}

-- ---- one operation more

none_equal : (op : OpTree) (k : Kept) (j : ℕ) (b : Bool) → (not (is_some k.op.guard) && is_equal op k.op) ≡ b → b ≡ false → equal_at op k j ≡ None
none_equal op k j b e f = ap (λ t. if t then Some (record { op = j; makes_out = k.makes_out }) else None) (e ∙ f)

or_none : (x : Option First) → or_else x None ≡ x
or_none None = refl
or_none (Some x) = refl

-- an operation that is none to become one with
pub not_noted : (s : Numbered) (k : Kept) (op : OpTree) → (not (is_some k.op.guard) && is_equal op k.op) ≡ false
    → option_map number_of (first_equal op (s.ops ++ k ∷ []) 0) ≡ option_map number_of (first_equal op s.ops 0)
not_noted s k op e =
    ap (option_map number_of) (first_more op s.ops k 0 ∙ ap (or_else (first_equal op s.ops 0)) (none_equal op k (length s.ops + 0) (not (is_some k.op.guard) && is_equal op k.op) refl e) ∙ or_none (first_equal op s.ops 0))

pub guarded_apart : (guard : Option Operand) (b : Bool) → is_some guard ≡ true → (not (is_some guard) && b) ≡ false
guarded_apart (Some x) b e = refl
guarded_apart None b e = false_true e

pub access_apart : (op k : OpTree) → is_common op.kind ≡ true → is_common k.kind ≡ false → is_equal op k ≡ false
access_apart op k c d = by_test (is_equal op k) refl where
  by_test : (b : Bool) → is_equal op k ≡ b → b ≡ false
  by_test false e = refl
  by_test true e = false_true (sym d ∙ ap is_common (sym (equal_alike op k e).kind) ∙ c)

noted_false : (key : Option ℕ) (index : ℕ) (old : Option ℕ) → noted key false index old ≡ old
noted_false None index old = refl
noted_false (Some x) index old = refl

pub and_false : (b : Bool) → (b && false) ≡ false
and_false true = refl
and_false false = refl

-- what a map that notes an operation has
pub noted_first : (s : Numbered) (op other : OpTree) (is_out : Bool) (old key : Option ℕ) → op.guard ≡ None
    → old ≡ option_map number_of (first_equal other s.ops 0) → key ≡ option_map number_of (first_equal op s.ops 0) → (key_of op ≡ key_of other → old ≡ key)
    → noted key (key_eq (key_of op) (key_of other)) (length s.ops) old ≡ option_map number_of (first_equal other (s.ops ++ record { op = op; makes_out = is_out } ∷ []) 0)
noted_first s op other is_out old key open_ e f same = by_test (is_equal other op) refl where
  k : Kept
  k = record { op = op; makes_out = is_out }

  place : length s.ops + 0 ≡ length s.ops
  place = omega arith

  by_found : (x : Option First) → first_equal other s.ops 0 ≡ x → is_equal other op ≡ true → key_eq (key_of op) (key_of other) ≡ true → old ≡ key
      → noted key true (length s.ops) old ≡ option_map number_of (or_else x (Some (record { op = length s.ops + 0; makes_out = is_out })))
  by_found None g t u h =
      let old_none = e ∙ ap (option_map number_of) g in
      ap (λ z. noted z true (length s.ops) old) (sym h ∙ old_none) ∙ ap (λ j. Some j) (sym place)
  by_found (Some x) g t u h =
      let old_some = e ∙ ap (option_map number_of) g in
      ap (λ z. noted z true (length s.ops) old) (sym h ∙ old_some) ∙ old_some

  by_test : (b : Bool) → is_equal other op ≡ b
      → noted key (key_eq (key_of op) (key_of other)) (length s.ops) old ≡ option_map number_of (first_equal other (s.ops ++ record { op = op; makes_out = is_out } ∷ []) 0)
  by_test false t =
      ap (λ b. noted key b (length s.ops) old) (equal_back other op t) ∙ noted_false key (length s.ops) old ∙ e
      ∙ sym (not_noted s k other (ap (λ b. not (is_some op.guard) && b) t ∙ and_false (not (is_some op.guard))))
  by_test true t =
      let alike = equal_alike other op t in
      let u = alike_equal op other (alike_back other op alike) in
      let keys : key_of op ≡ key_of other = λ i. record { kind = sym alike.kind i; signed = sym alike.signed i; bits = sym alike.bits i; first = sym alike.first i; second = sym alike.second i; third = sym alike.third i } in
      let at = ap₂ (λ g b. if not (is_some g) && b then Some (record { op = length s.ops + 0; makes_out = is_out }) else None) open_ t in
      ap (λ b. noted key b (length s.ops) old) u ∙ by_found (first_equal other s.ops 0) refl t u (same keys)
      ∙ ap (option_map number_of) (ap (or_else (first_equal other s.ops 0)) (sym at) ∙ sym (first_more other s.ops k 0))

pub adds : (c d : Numbering) (s : Numbered) (op : Op Untimed) (is_out : Bool) → d.ops.items ≡ c.ops.items ++ op ∷ [] → d.makes_out.items ≡ c.makes_out.items ++ is_out ∷ [] → d.values ≡ c.values
    → ((other : OpTree) → is_common other.kind ≡ true → get key_eq d.firsts (key_of other) ≡ option_map number_of (first_equal other (s.ops ++ kept_of op is_out ∷ []) 0)) → Shows c s
    → Shows d (record s { ops = s.ops ++ kept_of op is_out ∷ [] })
adds c d s op is_out ops flags values firsts h = record {
  ops = ap (map op_of) ops ∙ map-append op_of c.ops.items (op ∷ []) ∙ ap (λ l. l ++ op_of op ∷ []) h.ops ∙ sym (map-append (λ (k : Kept). k.op) s.ops (kept_of op is_out ∷ []));
  makes_out = flags ∙ ap (λ l. l ++ is_out ∷ []) h.makes_out ∙ sym (map-append (λ (k : Kept). k.makes_out) s.ops (kept_of op is_out ∷ []));
  values = ap (λ (xs : _). map value_of xs.items) values ∙ h.values;
  firsts = firsts;
}

-- ---- an operation that makes an out too

pub marks : (c d : Numbering) (s : Numbered) (is_out : Bool) (j : ℕ) → d.ops ≡ c.ops → d.values ≡ c.values → d.firsts ≡ c.firsts → d.makes_out.items ≡ flags_of (n.with_out is_out s.ops j) → Shows c s
    → Shows d (record s { ops = n.with_out is_out s.ops j })
marks c d s is_out j ops values firsts flags h = record {
  ops = ap (λ (xs : _). map op_of xs.items) ops ∙ h.ops ∙ sym (with_out_stays is_out s.ops j);
  makes_out = flags;
  values = ap (λ (xs : _). map value_of xs.items) values ∙ h.values;
  firsts = λ op k. ap (λ m. get key_eq m (key_of op)) firsts ∙ h.firsts op k ∙ sym (first_marked op is_out s.ops j 0);
}

-- ---- the first equal operation

-- its flag stands at its number
flag_at : (op : OpTree) (kept : List Kept) (i : ℕ) (f : First) → first_equal op kept i ≡ Some f → (m : ℕ) × (f.op ≡ m + i) × (slice_get (flags_of kept) m ≡ Some f.makes_out)
flag_at op [] i f e = absurd cc
flag_at op (k ∷ ks) i f e = by_test (λ h. flag_at op ks (i + 1) f h) (not (is_some k.op.guard) && is_equal op k.op) e where
  here : (x : First) → Some x ≡ Some f → x.op ≡ i → (f.op ≡ 0 + i) × (Some x.makes_out ≡ Some f.makes_out)
  here x h p = let q : x ≡ f = cc in (sym (ap (λ (y : First). y.op) q) ∙ p ∙ omega arith, ap (λ (y : First). Some y.makes_out) q)

  later : (m : ℕ) × (f.op ≡ m + (i + 1)) × (slice_get (flags_of ks) m ≡ Some f.makes_out) → (m : ℕ) × (f.op ≡ m + i) × (slice_get (flags_of (k ∷ ks)) m ≡ Some f.makes_out)
  later r = let p = r.1 in (suc r.0, omega (arith, p), r.2)

  by_test : (first_equal op ks (i + 1) ≡ Some f → (m : ℕ) × (f.op ≡ m + (i + 1)) × (slice_get (flags_of ks) m ≡ Some f.makes_out)) → (b : Bool)
      → (if b then Some (record { op = i; makes_out = k.makes_out }) else first_equal op ks (i + 1)) ≡ Some f → (m : ℕ) × (f.op ≡ m + i) × (slice_get (flags_of (k ∷ ks)) m ≡ Some f.makes_out)
  by_test further true h = let r = here (record { op = i; makes_out = k.makes_out }) h refl in (0, r.0, r.1)
  by_test further false h = later (further h)

or_true : (b : Bool) → (b || true) ≡ true
or_true true = refl
or_true false = refl

pub flags_set : (kept : List Kept) (j : ℕ) → flags_of (n.with_out true kept j) ≡ slice_set (flags_of kept) j true
flags_set [] j = refl
flags_set (k ∷ ks) zero = ap (λ b. b ∷ flags_of ks) (or_true k.makes_out)
flags_set (k ∷ ks) (suc j) = ap (λ l. k.makes_out ∷ l) (flags_set ks j)

pub flags_beyond : (is_out : Bool) (kept : List Kept) (j : ℕ) → length kept ≤ j → flags_of (n.with_out is_out kept j) ≡ flags_of kept
flags_beyond is_out [] j h = refl
flags_beyond is_out (k ∷ ks) zero h = absurd (omega (arith, h))
flags_beyond is_out (k ∷ ks) (suc j) h = ap (λ l. k.makes_out ∷ l) (flags_beyond is_out ks j (omega (arith, h)))

pub none_there : (guard : Option Operand) → is_some guard ≡ false → guard ≡ None
none_there None e = refl
none_there (Some x) e = false_true (sym e)

-- the earlier operation, whose flag this is
pub earlier_is : (s : Numbered) (op : OpTree) (apart flag : Bool) (i : ℕ) → op.guard ≡ None → is_common op.kind ≡ true → option_map number_of (first_equal op s.ops 0) ≡ Some i
    → slice_get (flags_of s.ops) i ≡ Some flag → n.earlier apart op s.ops ≡ (if apart && flag then None else Some i)
earlier_is s op apart flag i open_ common e f =
    ap₂ (λ g b. if not (is_some g) && b then n.joined apart (first_equal op s.ops 0) else None) open_ common ∙ by_first (first_equal op s.ops 0) refl e where
      the_same : (x y : Bool) → Some x ≡ Some y → x ≡ y
      the_same x y h = cc

      number_same : (x y : ℕ) → Some x ≡ Some y → x ≡ y
      number_same x y h = cc

      by_first : (x : Option First) → first_equal op s.ops 0 ≡ x → option_map number_of x ≡ Some i → n.joined apart x ≡ (if apart && flag then None else Some i)
      by_first None g h = absurd cc
      by_first (Some x) g h =
          let r = flag_at op s.ops 0 x g in
          let k = number_same x.op i h in
          let p = r.1 in
          let m : r.0 ≡ i = omega (arith, p, k) in
          let b = the_same x.makes_out flag (sym r.2 ∙ ap (slice_get (flags_of s.ops)) m ∙ f) in
          ap₂ (λ t j. if apart && t then None else Some j) b k

pub first_within : (s : Numbered) (op : OpTree) (i : ℕ) → option_map number_of (first_equal op s.ops 0) ≡ Some i → i < length (flags_of s.ops)
first_within s op i e = by_first (first_equal op s.ops 0) refl e where
  number_same : (x y : ℕ) → Some x ≡ Some y → x ≡ y
  number_same x y h = cc

  by_first : (x : Option First) → first_equal op s.ops 0 ≡ x → option_map number_of x ≡ Some i → i < length (flags_of s.ops)
  by_first None g h = absurd cc
  by_first (Some x) g h =
      let r = flag_at op s.ops 0 x g in
      let k = number_same x.op i h in
      let p = r.1 in
      let w = slice_get_within (flags_of s.ops) r.0 x.makes_out r.2 in
      omega (arith, p, k, w)
