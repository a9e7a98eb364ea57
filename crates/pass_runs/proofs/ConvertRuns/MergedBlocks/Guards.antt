-- What the bits of guards hold in a branch that is taken or not.
use Rattle.std.proofs.Common.{◌≡◌, ◌∙◌, ◌<◌, ◌⊎◌, inl, inr, ℕ, Bool, true, false, not, ◌&&◌, refl, ap, sym, subst, List, [], ◌∷◌, ◌++◌, append_assoc, append-nil, length, Option, Some, None}
use Rattle.std.specs.Prelude.{get_or, ◌==◌, if◌then◌else◌, is_some}
use Rattle.std.specs.Bool.{beq}
use Rattle.std.specs.Option.{option_eq}
use Rattle.std.proofs.Math.Seq.{get_or-append_seam}
use Rattle.ir_core.specs.declared.body.OpKind.TheVariants as o
use Rattle.ir_core.specs.declared.body.Operand.{Operand}
use Rattle.ir_core.specs.declared.body.Out.{Out}
use Rattle.ir_core.specs.Value.{count_of, value}
use Rattle.hls_base.specs.Valued.{Valued, is, and_then}
use Rattle.ir_core.specs.Bodies.{OpTree, Shapes, Words, Performed, performed, Ranged, operand, first_bits, is_allowed, perform, operations}
use Rattle.passes.specs.Numbering.Equal.{operand_eq, kind_eq, has_same}
use Rattle.passes.specs.Numbering.{result_of}
use Rattle.passes.proofs.Equalities.{operand_same, option_same, alike_equal, first, second}
use Rattle.passes.specs.Conversion.Joining.{Guard, Joined, plain, bit_for, or_constant, bit_in, with_guard, with_taken, with_both, with_bit}
use Rattle.pass_runs.specs.ConvertRuns.Typed.{IsEarly, HasBits, GuardIsTyped, OpsAreTyped, Fits}
use Rattle.pass_runs.proofs.ConvertRuns.Fitting.{word_fits, GivesAll, operations_give}
use Rattle.pass_runs.proofs.ConvertRuns.Joining.{has_more, has_early, Sound, bit_has, taken_sound, both_sound}
use Rattle.pass_runs.proofs.ConvertRuns.Behind.{ops_append, word_more, word_apart}
use Rattle.pass_runs.proofs.ConvertRuns.MergedBlocks.Bits.{not_bit, and_bits}

-- an operand is found equal to itself
itself : (x : Operand) → operand_eq x x ≡ true
itself x =
    let op = plain o.Not 1 (x ∷ []) in
    let third = has_same 2 op.args op.args in
    let rest = has_same 1 op.args op.args && third in
    let at_bits = op.bits == op.bits && (has_same 0 op.args op.args && rest) in
    let e = alike_equal op op (record { kind = refl; signed = refl; bits = refl; first = refl; second = refl; third = refl }) in
    first (has_same 0 op.args op.args) rest (second (op.bits == op.bits) (has_same 0 op.args op.args && rest) (second (beq op.signed op.signed) at_bits (second (kind_eq op.kind op.kind) (beq op.signed op.signed && at_bits) e)))

-- ---- bits that are found

some_same : {A : Type 0} {x y : A} → Some x ≡ Some y → x ≡ y
some_same e = cc

own_same : (x y : Option Operand) → option_eq operand_eq x y ≡ true → x ≡ y
own_same x y e = option_same operand_eq operand_same x y e

-- among bits of which the last one is this
found_last : (gs : List Guard) (g : Guard) (own : Option Operand) (b : Operand) → bit_for (gs ++ g ∷ []) own ≡ Some b → (bit_for gs own ≡ Some b) ⊎ ((own ≡ g.own) × (g.bit ≡ b))
found_last [] g own b e = by (option_eq operand_eq own g.own) refl e where
  by : (c : Bool) → option_eq operand_eq own g.own ≡ c → (if c then Some g.bit else None) ≡ Some b → (bit_for [] own ≡ Some b) ⊎ ((own ≡ g.own) × (g.bit ≡ b))
  by true q h = inr (own_same own g.own q, some_same h)
  by false q h = absurd cc
found_last (x ∷ gs) g own b e = by (option_eq operand_eq own x.own) (found_last gs g own b) e where
  by : (c : Bool) → (bit_for (gs ++ g ∷ []) own ≡ Some b → (bit_for gs own ≡ Some b) ⊎ ((own ≡ g.own) × (g.bit ≡ b))) → (if c then Some x.bit else bit_for (gs ++ g ∷ []) own) ≡ Some b
      → ((if c then Some x.bit else bit_for gs own) ≡ Some b) ⊎ ((own ≡ g.own) × (g.bit ≡ b))
  by true further h = inl h
  by false further h = further h

not_found : (gs : List Guard) (g : Guard) (own : Option Operand) → bit_for (gs ++ g ∷ []) own ≡ None → bit_for gs own ≡ None
not_found [] g own e = refl
not_found (x ∷ gs) g own e = by (option_eq operand_eq own x.own) (not_found gs g own) e where
  by : (c : Bool) → (bit_for (gs ++ g ∷ []) own ≡ None → bit_for gs own ≡ None) → (if c then Some x.bit else bit_for (gs ++ g ∷ []) own) ≡ None → (if c then Some x.bit else bit_for gs own) ≡ None
  by true further h = absurd cc
  by false further h = further h

abbrev Found : List Guard → Option Operand → Type 0
Found gs own = (b : Operand) × (bit_for gs own ≡ Some b)

found_more : (gs : List Guard) (g : Guard) (own : Option Operand) → Found gs own → Found (gs ++ g ∷ []) own
found_more [] g own h = absurd (no h.1) where
  no : None ≡ Some h.0 → ⊥
  no e = cc
found_more (x ∷ gs) g own h = by (option_eq operand_eq own x.own) (found_more gs g own) h.1 where
  by : (c : Bool) → (Found gs own → Found (gs ++ g ∷ []) own) → (if c then Some x.bit else bit_for gs own) ≡ Some h.0 → (b : Operand) × ((if c then Some x.bit else bit_for (gs ++ g ∷ []) own) ≡ Some b)
  by true further e = (x.bit, refl)
  by false further e = further (h.0, e)

found_new : (gs : List Guard) (own : Option Operand) (b : Operand) → option_eq operand_eq own own ≡ true → Found (gs ++ record { own = own; bit = b } ∷ []) own
found_new [] own b e = (b, ap (λ c. if c then Some b else None) e)
found_new (x ∷ gs) own b e = by (option_eq operand_eq own x.own) (found_new gs own b e) where
  by : (c : Bool) → Found (gs ++ record { own = own; bit = b } ∷ []) own → (y : Operand) × ((if c then Some x.bit else bit_for (gs ++ record { own = own; bit = b } ∷ []) own) ≡ Some y)
  by true h = (x.bit, refl)
  by false h = h

-- ---- what they hold

module _ (shapes : Shapes) (words : List ℕ) (outs_ : List Out) (test : Operand) (base w : List OpTree) (t0 : Words) (fits : Fits shapes.widths words t0) where
  abbrev widths : List ℕ
  widths = shapes.widths

  abbrev pub IsSound : List OpTree → Joined → Type 0
  IsSound done s = Sound widths words outs_ (Some test) base done s.ops s.values s.guards

  abbrev pub Runs : List OpTree → List ℕ → Words → Type 0
  Runs ops others t = operations shapes w ops [] t0 ≡ is (record { results = others; words = t })

  abbrev made : List ℕ → Words → Ranged
  made others t = record { results = others; words = t }

  pub gives : (ops : List OpTree) (others : List ℕ) (t : Words) → OpsAreTyped widths words [] ops → Runs ops others t → GivesAll widths words ops t0 (made others t)
  gives ops others t h e = operations_give widths words shapes w [] ops [] t0 refl fits (λ i op q. absurd cc) h (made others t) e

  pub runs_more : (ops : List OpTree) (others : List ℕ) (t : Words) (op : OpTree) (p : Performed) → Runs ops others t → perform shapes w op others t ≡ is p → Runs (ops ++ op ∷ []) (others ++ p.result ∷ []) p.words
  runs_more ops others t op p h e =
      ops_append shapes w ops (op ∷ []) [] t0 ∙ ap (λ (y : Valued Ranged). and_then y (λ q. operations shapes w (op ∷ []) q.results q.words)) h
      ∙ ap (λ (y : Valued Performed). and_then y (λ q. is (record { results = others ++ q.result ∷ []; words = q.words }))) e

  -- ---- operands behind further operations

  pub operand_more : (ops : List OpTree) (others more : List ℕ) (t u : Words) (n : ℕ) (x : Operand) → length ops ≡ length others → u.variables ≡ t.variables → HasBits widths words ops n x.value → operand u (others ++ more) x ≡ operand t others x
  operand_more ops others more t u n x count e h =
      word_apart u t (others ++ more) x.value e ∙ word_more t others more x.value (subst (λ d. IsEarly d x.value) count (has_early widths words ops n x.value h))

  pub allowed_more : (ops : List OpTree) (others more : List ℕ) (t u : Words) (own : Option Operand) → length ops ≡ length others → u.variables ≡ t.variables → GuardIsTyped widths words ops own → is_allowed u (others ++ more) own ≡ is_allowed t others own
  allowed_more ops others more t u None count e h = refl
  allowed_more ops others more t u (Some x) count e h = ap (λ c. not (c == 0)) (operand_more ops others more t u 1 x count e h)

  pub guard_more : (ops more : List OpTree) (own : Option Operand) → GuardIsTyped widths words ops own → GuardIsTyped widths words (ops ++ more) own
  guard_more ops more None h = tt
  guard_more ops more (Some x) h = has_more widths words ops more 1 x.value h

  module _ (c : Bool) where
    -- Where the branch is taken, each bit is that of its guard, and else 0. Where none is made for the branch yet, it is the one for 0.
    pub record Bits (ops : List OpTree) (guards : List Guard) (others : List ℕ) (t : Words) : Type 0 where
      pub shows : (own : Option Operand) (b : Operand) → bit_for guards own ≡ Some b → is_allowed t others (Some b) ≡ (c && is_allowed t others own)
      pub own_typed : (own : Option Operand) (b : Operand) → bit_for guards own ≡ Some b → GuardIsTyped widths words ops own
      pub missing : bit_for guards None ≡ None → not (is_allowed t others (Some test)) ≡ c

    pub bits_more : (ops extra : List OpTree) (guards : List Guard) (others more : List ℕ) (t u : Words) → length ops ≡ length others → u.variables ≡ t.variables
        → ((own : Option Operand) (b : Operand) → bit_for guards own ≡ Some b → HasBits widths words ops 1 b.value) → HasBits widths words ops 1 test.value → Bits ops guards others t → Bits (ops ++ extra) guards (others ++ more) u
    bits_more ops extra guards others more t u count e has test_has h = record {
      shows = λ own b q. allowed_more ops others more t u (Some b) count e (has own b q) ∙ h.shows own b q ∙ ap (λ x. c && x) (sym (allowed_more ops others more t u own count e (h.own_typed own b q)));
      own_typed = λ own b q. guard_more ops extra own (h.own_typed own b q);
      missing = λ q. ap not (allowed_more ops others more t u (Some test) count e test_has) ∙ h.missing q;
    }

    -- one bit more
    bits_with : (ops : List OpTree) (op : OpTree) (guards : List Guard) (others : List ℕ) (r : ℕ) (t : Words) (own : Option Operand) → length ops ≡ length others
        → ((x : Option Operand) (b : Operand) → bit_for guards x ≡ Some b → HasBits widths words ops 1 b.value) → HasBits widths words ops 1 test.value → GuardIsTyped widths words ops own → not (r == 0) ≡ (c && is_allowed t others own)
        → Bits ops guards others t → Bits (ops ++ op ∷ []) (guards ++ record { own = own; bit = result_of (length ops) } ∷ []) (others ++ r ∷ []) t
    bits_with ops op guards others r t own count has test_has typed e h = record { shows = shows; own_typed = own_typed; missing = λ q. all.missing (not_found guards new None q) } where
      new : Guard
      new = record { own = own; bit = result_of (length ops) }

      all : Bits (ops ++ op ∷ []) guards (others ++ r ∷ []) t
      all = bits_more ops (op ∷ []) guards others (r ∷ []) t t count refl has test_has h

      last : get_or (others ++ r ∷ []) (length ops) 0 ≡ r
      last = ap (λ i. get_or (others ++ r ∷ []) i 0) count ∙ get_or-append_seam others r [] 0

      shows : (x : Option Operand) (b : Operand) → bit_for (guards ++ new ∷ []) x ≡ Some b → is_allowed t (others ++ r ∷ []) (Some b) ≡ (c && is_allowed t (others ++ r ∷ []) x)
      shows x b q = by (found_last guards new x b q) where
        by : (bit_for guards x ≡ Some b) ⊎ ((x ≡ own) × (result_of (length ops) ≡ b)) → is_allowed t (others ++ r ∷ []) (Some b) ≡ (c && is_allowed t (others ++ r ∷ []) x)
        by (inl z) = all.shows x b z
        by (inr z) =
            ap (λ y. is_allowed t (others ++ r ∷ []) (Some y)) (sym z.1) ∙ ap (λ y. not (y == 0)) last ∙ e ∙ ap (λ y. c && y) (sym (allowed_more ops others (r ∷ []) t t own count refl typed))
            ∙ ap (λ y. c && is_allowed t (others ++ r ∷ []) y) (sym z.0)

      own_typed : (x : Option Operand) (b : Operand) → bit_for (guards ++ new ∷ []) x ≡ Some b → GuardIsTyped widths words (ops ++ op ∷ []) x
      own_typed x b q = by (found_last guards new x b q) where
        by : (bit_for guards x ≡ Some b) ⊎ ((x ≡ own) × (result_of (length ops) ≡ b)) → GuardIsTyped widths words (ops ++ op ∷ []) x
        by (inl z) = all.own_typed x b z
        by (inr z) = subst (GuardIsTyped widths words (ops ++ op ∷ [])) (sym z.0) (guard_more ops (op ∷ []) own typed)

    -- ---- bits that are made

    -- the operations with those that make bits
    pub record Grown (done : List OpTree) (s u : Joined) (others : List ℕ) (t : Words) : Type 0 where
      pub more : List ℕ
      pub extra : List OpTree
      pub ops : u.ops ≡ s.ops ++ extra
      pub values : u.values ≡ s.values
      pub runs : Runs u.ops (others ++ more) t
      pub sound : IsSound done u
      pub bits : Bits u.ops u.guards (others ++ more) t

    -- what is known of a part of a branch
    pub record Goes (done : List OpTree) (s : Joined) (others : List ℕ) (t : Words) : Type 0 where
      pub sound : IsSound done s
      pub runs : Runs s.ops others t
      pub bits : Bits s.ops s.guards others t

    same_grown : (done : List OpTree) (s : Joined) (others : List ℕ) (t : Words) → Goes done s others t → Grown done s s others t
    same_grown done s others t h = record {
      more = [];
      extra = [];
      ops = sym (append-nil s.ops);
      values = refl;
      runs = subst (λ l. Runs s.ops l t) (sym (append-nil others)) h.runs;
      sound = h.sound;
      bits = subst (λ l. Bits s.ops s.guards l t) (sym (append-nil others)) h.bits;
    }

    pub grown_goes : (done : List OpTree) (s u : Joined) (others : List ℕ) (t : Words) → (g : Grown done s u others t) → Goes done u (others ++ g.more) t
    grown_goes done s u others t g = record { sound = g.sound; runs = g.runs; bits = g.bits }

    both_grown : (done : List OpTree) (s u v : Joined) (others : List ℕ) (t : Words) → (g : Grown done s u others t) → Grown done u v (others ++ g.more) t → Grown done s v others t
    both_grown done s u v others t g h = record {
      more = g.more ++ h.more;
      extra = g.extra ++ h.extra;
      ops = h.ops ∙ ap (λ l. l ++ h.extra) g.ops ∙ append_assoc s.ops g.extra h.extra;
      values = h.values ∙ g.values;
      runs = subst (λ l. Runs v.ops l t) (append_assoc others g.more h.more) h.runs;
      sound = h.sound;
      bits = subst (λ l. Bits v.ops v.guards l t) (append_assoc others g.more h.more) h.bits;
    }

    module _ (done : List OpTree) (s : Joined) (others : List ℕ) (t : Words) (h : Goes done s others t) where
      all : GivesAll widths words s.ops t0 (made others t)
      all = gives s.ops others t h.sound.ops_typed h.runs

      bit_fits : (x : Operand) → HasBits widths words s.ops 1 x.value → operand t others x < count_of 1
      bit_fits x z = word_fits widths words t s.ops others all.fits all.results x.value 1 z

      guard_grown : (own : Option Operand) (op : OpTree) (r : ℕ) → GuardIsTyped widths words s.ops own → perform shapes w op others t ≡ is (performed r t) → not (r == 0) ≡ (c && is_allowed t others own)
          → IsSound done (with_guard s own op) → Grown done s (with_guard s own op) others t
      guard_grown own op r typed e q sound = record {
        more = r ∷ [];
        extra = op ∷ [];
        ops = refl;
        values = refl;
        runs = runs_more s.ops others t op (performed r t) h.runs e;
        sound = sound;
        bits = bits_with s.ops op s.guards others r t own all.count h.sound.guard_has h.sound.tests typed q h.bits;
      }

    abbrev Taken : List OpTree → Joined → List ℕ → Words → Joined → Type 0
    Taken done s others t u = Grown done s u others t × Found u.guards None

    taken_grown : (done : List OpTree) (s : Joined) (others : List ℕ) (t : Words) → Goes done s others t → Taken done s others t (with_taken test s)
    taken_grown done s others t h = by (bit_for s.guards None) refl (taken_sound widths words outs_ (Some test) base done s test h.sound.tests h.sound) where
      op : OpTree
      op = plain o.Not 1 (test ∷ [])

      by : (x : Option Operand) → bit_for s.guards None ≡ x → IsSound done (if is_some x then s else with_guard s None op) → Taken done s others t (if is_some x then s else with_guard s None op)
      by (Some b) e z = (same_grown done s others t h, (b, e))
      by None e z =
          let x = operand t others test in
          let from = first_bits widths w op op.args in
          let q : not (value o.Not false 1 from (x ∷ []) == 0) ≡ (c && true) = not_bit from x (bit_fits done s others t h test h.sound.tests) ∙ twice (x == 0) ∙ h.bits.missing e ∙ sym (and_true c) in
          (guard_grown done s others t h None op (value o.Not false 1 from (x ∷ [])) tt refl q z, found_new s.guards None (result_of (length s.ops)) refl) where
            twice : (b : Bool) → b ≡ not (not b)
            twice true = refl
            twice false = refl

            and_true : (b : Bool) → (b && true) ≡ b
            and_true true = refl
            and_true false = refl

    with_both_grown : (done : List OpTree) (s : Joined) (others : List ℕ) (t : Words) (own : Operand) → Goes done s others t → HasBits widths words s.ops 1 own.value → Found s.guards None → Grown done s (with_both s own) others t × Found (with_both s own).guards (Some own)
    with_both_grown done s others t own h z f =
        let op = plain o.And 1 (bit_in s None ∷ own ∷ []) in
        let x = operand t others (bit_in s None) in
        let y = operand t others own in
        let from = first_bits widths w op op.args in
        let has : HasBits widths words s.ops 1 (bit_in s None).value = bit_has widths words outs_ (Some test) base done s.ops s.values s.guards h.sound None (bit_for s.guards None) refl in
        let first : not (x == 0) ≡ c = ap (λ b. not (operand t others (or_constant b) == 0)) f.1 ∙ h.bits.shows None f.0 f.1 ∙ and_true c in
        let q : not (value o.And false 1 from (x ∷ y ∷ []) == 0) ≡ (c && is_allowed t others (Some own)) =
        and_bits from x y (bit_fits done s others t h (bit_in s None) has) (bit_fits done s others t h own z) ∙ ap (λ b. b && not (y == 0)) first in
        (guard_grown done s others t h (Some own) op (value o.And false 1 from (x ∷ y ∷ [])) z refl q (both_sound widths words outs_ (Some test) base done s own z h.sound), found_new s.guards (Some own) (result_of (length s.ops)) (itself own)) where
          and_true : (b : Bool) → (b && true) ≡ b
          and_true true = refl
          and_true false = refl

    -- the bit of a guard in the branch
    pub bit_grown : (done : List OpTree) (s : Joined) (others : List ℕ) (t : Words) (own : Option Operand) → Goes done s others t → GuardIsTyped widths words s.ops own → Grown done s (with_bit test s own) others t × Found (with_bit test s own).guards own
    bit_grown done s others t None h z = taken_grown done s others t h
    bit_grown done s others t (Some own) h z = by (bit_for s.guards (Some own)) refl where
      by : (x : Option Operand) → bit_for s.guards (Some own) ≡ x
          → Grown done s (if is_some x then s else with_both (with_taken test s) own) others t × Found (if is_some x then s else with_both (with_taken test s) own).guards (Some own)
      by (Some b) e = (same_grown done s others t h, (b, e))
      by None e =
          let u = taken_grown done s others t h in
          let has = subst (λ l. HasBits widths words l 1 own.value) (sym u.0.ops) (has_more widths words s.ops u.0.extra 1 own.value z) in
          let v = with_both_grown done (with_taken test s) (others ++ u.0.more) t own (grown_goes done s (with_taken test s) others t u.0) has u.1 in
          (both_grown done s (with_taken test s) (with_both (with_taken test s) own) others t u.0 v.0, v.1)

    -- it says whether an operation of this guard may run
    pub bit_allows : (done : List OpTree) (u : Joined) (others : List ℕ) (t : Words) (own : Option Operand) → Goes done u others t → Found u.guards own → is_allowed t others (Some (bit_in u own)) ≡ (c && is_allowed t others own)
    bit_allows done u others t own h f = ap (λ b. is_allowed t others (Some (or_constant b))) f.1 ∙ h.bits.shows own f.0 f.1
