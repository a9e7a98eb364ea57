-- A block in a branch that is taken does what it did.
use Rattle.std.proofs.Common.{◌≡◌, ◌∙◌, ◌<◌, ◌⊎◌, inl, inr, ℕ, Bool, true, false, refl, ap, sym, subst, arith, List, [], ◌∷◌, ◌++◌, append_assoc, append-nil, map, length, length-append, Option, Some, None}
use Rattle.std.specs.Prelude.{slice_get, get_or, if◌then◌else◌}
use Rattle.std.proofs.lemmas.List.{get_or_append_left}
use Rattle.std.proofs.Math.Seq.{get_or-append_seam}
use Rattle.hls_base.specs.declared.number.VarId.{VarId}
use Rattle.ir_core.specs.declared.body.Operand.{Operand}
use Rattle.ir_core.specs.declared.body.Out.{Out}
use Rattle.ir_core.specs.declared.body.Source.{Source}
use Rattle.ir_core.specs.declared.body.Source.TheVariants as source
use Rattle.ir_core.specs.Value.{value}
use Rattle.ir_core.specs.Timing.{result_bits}
use Rattle.hls_base.specs.Valued.{Valued, is, faulty, and_then}
use Rattle.ir_core.specs.Bodies.{OpTree, Shapes, Words, Performed, performed, Ranged, word, operand, first_bits, effect, fault, fault_if, is_allowed, perform, operations}
use Rattle.passes.specs.Numbering as n
use Rattle.passes.specs.Numbering.{Value, constant, result_of}
use Rattle.passes.specs.Numbering.Constants.{word_of}
use Rattle.passes.specs.Conversion.Outs.{entry_value, held}
use Rattle.passes.specs.Conversion.Joining.{Joined, renamed_op, bit_in, with_bit, needs_guard, is_conversion, converted, first_word, by_word, with_value, with_op, guarded, joined_op, joined_ops}
use Rattle.pass_runs.specs.ConvertRuns.Typed.{HasBits, OpIsTyped, OpsAreTyped, Fits}
use Rattle.pass_runs.proofs.ConvertRuns.Lists.{within, left_of, last_or}
use Rattle.pass_runs.proofs.ConvertRuns.Joining.{Sound, joined_sound, all_sound, guard_renamed}
use Rattle.pass_runs.proofs.ConvertRuns.Behind.{ops_append, Alike, fault_alike, effect_alike, is_widen, converts, Shows, args_same, guard_early, from_same, value_kept}
use Rattle.pass_runs.proofs.ConvertRuns.MergedBlocks.Guards.{IsSound, gives, runs_more, operand_more, allowed_more, bits_more, Grown, Goes, grown_goes, bit_grown, bit_allows}

some_word : {x y : ℕ} → Some x ≡ Some y → x ≡ y
some_word e = cc

-- what is known without the test
pub loose : (widths words : List ℕ) (outs_ : List Out) (test : Operand) (base done ops : List OpTree) (values : List Value) (guards : List _) → Sound widths words outs_ (Some test) base done ops values guards → Sound widths words outs_ None base done ops values guards
loose widths words outs_ test base done ops values guards h =
    record { begins = h.begins; ops_typed = h.ops_typed; holds = h.holds; tests = tt; count = h.count; has = h.has; bits = h.bits; guard_has = h.guard_has }

module _ (shapes : Shapes) (words : List ℕ) (outs_ : List Out) (test : Operand) (base block w : List OpTree) (t0 : Words) (fits : Fits shapes.widths words t0) where
  abbrev widths : List ℕ
  widths = shapes.widths

  abbrev In : List OpTree → Joined → List ℕ → Words → Type 0
  In done s others t = Goes shapes words outs_ test base w t0 fits true done s others t

  abbrev pub Shown : List OpTree → Joined → List ℕ → Words → List ℕ → Words → Type 0
  Shown done s results v others t = Shows shapes words outs_ base block w t0 done s results v others t

  abbrev pub Begins : List OpTree → Type 0
  Begins ops = (i : ℕ) (x : OpTree) → slice_get ops i ≡ Some x → slice_get w i ≡ Some x

  -- Both did the same, or are at fault at the same place.
  abbrev pub Both : List OpTree → Joined → Words → Valued Ranged → Valued Ranged → Type 0
  Both done s v (is q) (is r) = Shown done s q.results q.words r.results r.words × (q.words.variables ≡ v.variables) × In done s r.results r.words
  Both done s v (faulty rule at) (faulty other place) = (rule ≡ other) × (at ≡ place)
  Both done s v x y = ⊥

  -- ---- more bits

  grown_shown : (done : List OpTree) (s u : Joined) (results : List ℕ) (v : Words) (others : List ℕ) (t : Words) → Shown done s results v others t → In done s others t → (g : Grown shapes words outs_ test base w t0 fits true done s u others t)
      → Shown done u results v (others ++ g.more) t
  grown_shown done s u results v others t h i g = record {
    runs = g.runs;
    count = (gives shapes words outs_ test base w t0 fits u.ops (others ++ g.more) t g.sound.ops_typed g.runs).count;
    done_count = h.done_count;
    reads = λ x. h.reads x ∙ sym (held_same x);
    stand = λ j x e.
        let q = ap (λ l. slice_get l j) (sym g.values) ∙ e in
        h.stand j x q ∙ sym (operand_more shapes words outs_ test base w t0 fits s.ops others g.more t t x.bits x.operand h.count refl (i.sound.has j x q));
    memories = h.memories;
    stays = h.stays;
  } where
    held_same : (x : VarId) → operand t (others ++ g.more) (held outs_ x) ≡ operand t others (held outs_ x)
    held_same x = by (i.sound.holds x) where
      by : (held outs_ x ≡ entry_value x) ⊎ ((k : ℕ) × (slice_get widths x.0 ≡ Some k) × HasBits widths words s.ops k (held outs_ x).value) → operand t (others ++ g.more) (held outs_ x) ≡ operand t others (held outs_ x)
      by (inl e) = ap (operand t (others ++ g.more)) e ∙ ap (operand t others) (sym e)
      by (inr e) = operand_more shapes words outs_ test base w t0 fits s.ops others g.more t t e.0 (held outs_ x) h.count refl e.2

  -- ---- one operation

  module _ (done : List OpTree) (op : OpTree) (typed : OpIsTyped widths words done op) (prefix : (i : ℕ) (x : OpTree) → slice_get done i ≡ Some x → slice_get block i ≡ Some x) (results : List ℕ) (v : Words) where
    abbrev single : Valued Ranged
    single = operations shapes block (op ∷ []) results v

    module _ (s : Joined) (others : List ℕ) (t : Words) (h : Shown done s results v others t) (i : In done s others t) where
      abbrev new : OpTree
      new = renamed_op outs_ s.values op

      abbrev args : List ℕ
      args = map (operand t others) new.args

      abbrev from : ℕ
      from = n.first_bits widths s.values op.bits op.args

      known : Sound widths words outs_ None base done s.ops s.values s.guards
      known = loose widths words outs_ test base done s.ops s.values s.guards i.sound

      more_done : (r : ℕ) → length (done ++ op ∷ []) ≡ length (results ++ r ∷ [])
      more_done r = let a = length-append done (op ∷ []) in let c = length-append results (r ∷ []) in let d = h.done_count in omega (arith, a, c, d)

      counts : length s.values ≡ length results
      counts = let a = i.sound.count in let d = h.done_count in omega (arith, a, d)

      pub allowed_same : is_allowed v results op.guard ≡ is_allowed t others new.guard
      allowed_same = guard_early shapes words outs_ base block w t0 done s results v others t known h op.guard typed.guard

      before : perform shapes block op results v ≡ fault_if (is_allowed v results op.guard) op.flag (fault shapes op args) (effect shapes op op.kind (is_allowed v results op.guard) from args v)
      before =
          let p = args_same shapes words outs_ base block w t0 done s results v others t known h op.args typed.args in
          let a = is_allowed v results op.guard in
          let f = from_same shapes words outs_ base block w t0 done s results v others t known h prefix op op.args typed.args in
          λ k. fault_if a op.flag (fault shapes op (p k)) (effect shapes op op.kind a (f k) (p k) v)

      stand_with : (more : List ℕ) (u : Words) (r : ℕ) (last : Value) → u.variables ≡ t.variables → r ≡ operand u (others ++ more) last.operand
          → (j : ℕ) (x : Value) → slice_get (s.values ++ last ∷ []) j ≡ Some x → get_or (results ++ r ∷ []) j 0 ≡ operand u (others ++ more) x.operand
      stand_with more u r last e q j x z = by (last_or s.values last j x z) where
        by : (slice_get s.values j ≡ Some x) ⊎ ((j ≡ length s.values) × (last ≡ x)) → get_or (results ++ r ∷ []) j 0 ≡ operand u (others ++ more) x.operand
        by (inl g) =
            let l = within s.values j x g in
            let m : j < length results = omega (arith, l, counts) in
            get_or_append_left results (r ∷ []) 0 j m ∙ h.stand j x g ∙ sym (operand_more shapes words outs_ test base w t0 fits s.ops others more t u x.bits x.operand h.count e (i.sound.has j x g))
        by (inr g) = ap (λ k. get_or (results ++ r ∷ []) k 0) (g.0 ∙ counts) ∙ get_or-append_seam results r [] 0 ∙ q ∙ ap (λ (y : Value). operand u (others ++ more) y.operand) g.1

      -- one that is computed
      constant_done : (c : ℕ) (a : Bool) (xs : List Operand) → converted new from (first_word xs) ≡ Some c
          → fault_if a op.flag (fault shapes op (map (operand t others) xs)) (effect shapes op op.kind a from (map (operand t others) xs) v) ≡ is (performed c v)
      constant_done c a [] e = absurd cc
      constant_done c a (x ∷ xs) e =
          let d = conversion_of (word_of x.value) e in
          let y = word_is x.value d.0 d.1 in
          converts shapes op op.kind refl d.2 a from (operand t others x) (map (operand t others) xs) v ∙ ap (λ u. is (performed (value op.kind op.signed op.bits from (u ∷ [])) v)) y ∙ ap (λ u. is (performed u v)) d.3 where
            conversion_of : (d : Option ℕ) → converted new from d ≡ Some c → (y : ℕ) × (d ≡ Some y) × (is_conversion op.kind ≡ true) × (value op.kind op.signed op.bits from (y ∷ []) ≡ c)
            conversion_of None q = absurd cc
            conversion_of (Some y) q = by (is_conversion op.kind) refl q where
              by : (b : Bool) → is_conversion op.kind ≡ b → (if b then Some (value op.kind op.signed op.bits from (y ∷ [])) else None) ≡ Some c
                  → (u : ℕ) × (Some y ≡ Some u) × (is_conversion op.kind ≡ true) × (value op.kind op.signed op.bits from (u ∷ []) ≡ c)
              by true k r = (y, refl, k, some_word r)
              by false k r = absurd cc

            word_is : (q : Source) (y : ℕ) → word_of q ≡ Some y → word t others q ≡ y
            word_is (source.Constant d) y q = some_word q
            word_is (source.Variable u) y q = absurd cc
            word_is (source.Result k) y q = absurd cc

      pub computed : (c : ℕ) → converted new from (first_word new.args) ≡ Some c → IsSound shapes words outs_ test base w t0 fits (done ++ op ∷ []) (with_value s new (constant c))
          → Both (done ++ op ∷ []) (with_value s new (constant c)) v single (operations shapes w s.ops [] t0)
      computed c e z =
          subst (λ x. Both (done ++ op ∷ []) (with_value s new (constant c)) v x (operations shapes w s.ops [] t0))
          (sym (ap (λ (x : Valued Performed). and_then x (λ p. is (record { results = results ++ p.result ∷ []; words = p.words }))) (before ∙ constant_done c (is_allowed v results op.guard) new.args e)))
          (subst (Both (done ++ op ∷ []) (with_value s new (constant c)) v (is (record { results = results ++ c ∷ []; words = v }))) (sym h.runs) (
            record {
              runs = h.runs;
              count = h.count;
              done_count = more_done c;
              reads = h.reads;
              stand = λ j x q. subst (λ l. get_or (results ++ c ∷ []) j 0 ≡ operand t l x.operand) (append-nil others) (stand_with [] t c (record { operand = constant c; bits = result_bits op.kind op.bits }) refl refl j x q);
              memories = h.memories;
              stays = h.stays;
            },
            refl,
            record { sound = z; runs = i.runs; bits = i.bits },
          ))

      -- one that stays, with a guard that says the same
      module _ (guard : Option Operand) (same : is_allowed v results op.guard ≡ is_allowed t others guard) (z : IsSound shapes words outs_ test base w t0 fits (done ++ op ∷ []) (with_op s new guard)) where
        abbrev put : OpTree
        put = record new { guard = guard }

        alike : converted new from (first_word new.args) ≡ None → Begins s.ops → Alike v t (perform shapes block op results v) (perform shapes w put others t)
        alike e b =
            let a = is_allowed v results op.guard in
            let k = value_kept shapes words outs_ base block w t0 done s results v others t known h b op args op.args typed.args e (is_widen op.kind) refl in
            let q = fault_alike v t a op.flag (fault shapes op args) (effect shapes op op.kind a from args v) (effect shapes put op.kind a (first_bits widths w put put.args) args t)
            (effect_alike shapes v t h.memories op put refl refl refl args op.kind a from (first_bits widths w put put.args) k) in
            subst (λ x. Alike v t x (perform shapes w put others t)) (sym before)
            (subst (λ x. Alike v t (fault_if a op.flag (fault shapes op args) (effect shapes op op.kind a from args v)) (fault_if x op.flag (fault shapes op args) (effect shapes put op.kind x (first_bits widths w put put.args) args t))) same q)

        held_same : (u : Words) (r : ℕ) → u.variables ≡ t.variables → (x : VarId) → operand u (others ++ r ∷ []) (held outs_ x) ≡ operand t others (held outs_ x)
        held_same u r e x = by (i.sound.holds x) where
          by : (held outs_ x ≡ entry_value x) ⊎ ((k : ℕ) × (slice_get widths x.0 ≡ Some k) × HasBits widths words s.ops k (held outs_ x).value) → operand u (others ++ r ∷ []) (held outs_ x) ≡ operand t others (held outs_ x)
          by (inl q) = ap (operand u (others ++ r ∷ [])) q ∙ ap (λ (f : ℕ → ℕ). f x.0) e ∙ ap (operand t others) (sym q)
          by (inr q) = operand_more shapes words outs_ test base w t0 fits s.ops others (r ∷ []) t u q.0 (held outs_ x) h.count e q.2

        by_result : (x y : Valued Performed) → perform shapes w put others t ≡ y → Alike v t x y
            → Both (done ++ op ∷ []) (with_op s new guard) v (and_then x (λ p. is (record { results = results ++ p.result ∷ []; words = p.words }))) (and_then y (λ p. is (record { results = others ++ p.result ∷ []; words = p.words })))
        by_result (faulty rule at) (faulty other place) e a = a
        by_result (is p) (is r) e a =
            let runs = runs_more shapes words outs_ test base w t0 fits s.ops others t put r i.runs e in
            let last : get_or (others ++ r.result ∷ []) (length s.ops) 0 ≡ r.result = ap (λ k. get_or (others ++ r.result ∷ []) k 0) h.count ∙ get_or-append_seam others r.result [] 0 in (
              record {
                runs = runs;
                count = (gives shapes words outs_ test base w t0 fits (s.ops ++ put ∷ []) (others ++ r.result ∷ []) r.words z.ops_typed runs).count;
                done_count = more_done p.result;
                reads = λ u. ap (λ (f : ℕ → ℕ). f u.0) a.2 ∙ h.reads u ∙ sym (held_same r.words r.result a.3 u);
                stand = stand_with (r.result ∷ []) r.words p.result (record { operand = result_of (length s.ops); bits = result_bits op.kind op.bits }) a.3 (a.0 ∙ sym last);
                memories = a.1;
                stays = a.3 ∙ h.stays;
              },
              a.2,
              record { sound = z; runs = runs; bits = bits_more shapes words outs_ test base w t0 fits true s.ops (put ∷ []) s.guards others (r.result ∷ []) t r.words h.count a.3 i.sound.guard_has i.sound.tests i.bits },
            )
        by_result (is p) (faulty rule at) e a = absurd a
        by_result (faulty rule at) (is p) e a = absurd a

        pub kept : converted new from (first_word new.args) ≡ None → Begins s.ops → Both (done ++ op ∷ []) (with_op s new guard) v single (operations shapes w (with_op s new guard).ops [] t0)
        kept e b =
            subst (Both (done ++ op ∷ []) (with_op s new guard) v single)
            (sym (ops_append shapes w s.ops (put ∷ []) [] t0 ∙ ap (λ (y : Valued Ranged). and_then y (λ q. operations shapes w (put ∷ []) q.results q.words)) i.runs))
            (by_result (perform shapes block op results v) (perform shapes w put others t) refl (alike e b))

    module _ (s : Joined) (others : List ℕ) (t : Words) (h : Shown done s results v others t) (i : In done s others t) where
      abbrev fresh : OpTree
      fresh = renamed_op outs_ s.values op

      abbrev Into : Joined → Type 0
      Into u = Both (done ++ op ∷ []) u v single (operations shapes w u.ops [] t0)

      -- behind the bits that are made for it
      behind_bits : (u : Joined) → u.values ≡ s.values → (others2 : List ℕ) → Shown done u results v others2 t → In done u others2 t → (guard : Option Operand) → is_allowed v results op.guard ≡ is_allowed t others2 guard
          → IsSound shapes words outs_ test base w t0 fits (done ++ op ∷ []) (with_op u fresh guard) → converted fresh (n.first_bits widths s.values op.bits op.args) (first_word fresh.args) ≡ None → Begins u.ops → Into (with_op u fresh guard)
      behind_bits u e others2 h2 i2 guard same z c b =
          subst (λ l. Into (with_op u (renamed_op outs_ l op) guard)) e
          (kept u others2 t h2 i2 guard same (subst (λ l. IsSound shapes words outs_ test base w t0 fits (done ++ op ∷ []) (with_op u (renamed_op outs_ l op) guard)) (sym e) z)
          (subst (λ l. converted (renamed_op outs_ l op) (n.first_bits widths l op.bits op.args) (first_word (renamed_op outs_ l op).args) ≡ None) (sym e) c) b)

      staying_ : (b : Bool) → needs_guard fresh ≡ b → converted fresh (n.first_bits widths s.values op.bits op.args) (first_word fresh.args) ≡ None
          → IsSound shapes words outs_ test base w t0 fits (done ++ op ∷ []) (if b then guarded (with_bit test s fresh.guard) fresh else with_op s fresh fresh.guard)
          → Begins (if b then guarded (with_bit test s fresh.guard) fresh else with_op s fresh fresh.guard).ops
          → Into (if b then guarded (with_bit test s fresh.guard) fresh else with_op s fresh fresh.guard)
      staying_ true e c z b =
          let typed_guard = guard_renamed widths words outs_ (Some test) base done s.ops s.values s.guards i.sound op.guard typed.guard in
          let g = bit_grown shapes words outs_ test base w t0 fits true done s others t fresh.guard i typed_guard in
          let u = with_bit test s fresh.guard in
          let goes = grown_goes shapes words outs_ test base w t0 fits true done s u others t g.0 in
          let bit = bit_in u fresh.guard in
          let shown = grown_shown done s u results v others t h i g.0 in
          let same : is_allowed v results op.guard ≡ is_allowed t (others ++ g.0.more) (Some bit) =
          allowed_same s others t h i ∙ sym (allowed_more shapes words outs_ test base w t0 fits s.ops others g.0.more t t fresh.guard h.count refl typed_guard)
          ∙ sym (bit_allows shapes words outs_ test base w t0 fits true done u (others ++ g.0.more) t fresh.guard goes g.1) in
          behind_bits u g.0.values (others ++ g.0.more) shown goes (Some bit) same z c (λ k x q. b k x (left_of u.ops (record fresh { guard = Some bit } ∷ []) k x q))
      staying_ false e c z b = behind_bits s refl others h i fresh.guard (allowed_same s others t h i) z c (λ k x q. b k x (left_of s.ops (fresh ∷ []) k x q))

      pub op_taken : Begins (joined_op widths outs_ (Some test) s op).ops → Into (joined_op widths outs_ (Some test) s op)
      op_taken b =
          by (converted fresh (n.first_bits widths s.values op.bits op.args) (first_word fresh.args)) refl (joined_sound widths words outs_ (Some test) base done s op i.sound typed) b where
            by : (c : Option ℕ) → converted fresh (n.first_bits widths s.values op.bits op.args) (first_word fresh.args) ≡ c → IsSound shapes words outs_ test base w t0 fits (done ++ op ∷ []) (by_word (Some test) s fresh c)
                → Begins (by_word (Some test) s fresh c).ops → Into (by_word (Some test) s fresh c)
            by (Some c) e z k = computed s others t h i c e z
            by None e z k = staying_ (needs_guard fresh) refl e z k

  -- ---- all operations

  pub all_taken : (rest done : List OpTree) (s : Joined) (results : List ℕ) (v : Words) (others : List ℕ) (t : Words) → Shown done s results v others t → In done s others t → OpsAreTyped widths words done rest → block ≡ done ++ rest
      → Begins (joined_ops widths outs_ (Some test) s rest).ops
      → Both (done ++ rest) (joined_ops widths outs_ (Some test) s rest) v (operations shapes block rest results v) (operations shapes w (joined_ops widths outs_ (Some test) s rest).ops [] t0)
  all_taken [] done s results v others t h i typed at begins =
      subst (λ l. Both l s v (is (record { results = results; words = v })) (operations shapes w s.ops [] t0)) (sym (append-nil done))
      (subst (Both done s v (is (record { results = results; words = v }))) (sym h.runs) (h, refl, i))
  all_taken (op ∷ rest) done s results v others t h i typed at begins =
      subst (λ l. Both l last v (operations shapes block (op ∷ rest) results v) (operations shapes w last.ops [] t0)) (append_assoc done (op ∷ []) rest)
      (subst (λ x. Both ((done ++ op ∷ []) ++ rest) last v x (operations shapes w last.ops [] t0)) (sym (ops_append shapes block (op ∷ []) rest results v))
      (over (operations shapes block (op ∷ []) results v) (operations shapes w u.ops [] t0) refl (op_taken done op typed.0 prefix results v s others t h i (λ k x q. begins k x (ap (λ l. slice_get l k) more.1 ∙ left_of u.ops more.0 k x q)))
      (λ q r b. all_taken rest (done ++ op ∷ []) u q.results q.words r.results r.words b.0 b.2 typed.1 next_at begins))) where
        u : Joined
        u = joined_op widths outs_ (Some test) s op

        last : Joined
        last = joined_ops widths outs_ (Some test) u rest

        prefix : (k : ℕ) (x : OpTree) → slice_get done k ≡ Some x → slice_get block k ≡ Some x
        prefix k x e = ap (λ l. slice_get l k) at ∙ left_of done (op ∷ rest) k x e

        next_at : block ≡ (done ++ op ∷ []) ++ rest
        next_at = at ∙ sym (append_assoc done (op ∷ []) rest)

        sound : IsSound shapes words outs_ test base w t0 fits (done ++ op ∷ []) u
        sound = joined_sound widths words outs_ (Some test) base done s op i.sound typed.0

        more : (l : List OpTree) × (last.ops ≡ u.ops ++ l)
        more = (all_sound widths words outs_ (Some test) u.ops rest (done ++ op ∷ []) u
            (record { begins = ([], sym (append-nil u.ops)); ops_typed = sound.ops_typed; holds = sound.holds; tests = sound.tests; count = sound.count; has = sound.has; bits = sound.bits; guard_has = sound.guard_has }) typed.1).begins

        ran : (y : Valued Ranged) → operations shapes w u.ops [] t0 ≡ y → operations shapes w last.ops [] t0 ≡ and_then y (λ q. operations shapes w more.0 q.results q.words)
        ran y e = ap (λ l. operations shapes w l [] t0) more.1 ∙ ops_append shapes w u.ops more.0 [] t0 ∙ ap (λ (x : Valued Ranged). and_then x (λ q. operations shapes w more.0 q.results q.words)) e

        from_before : (q : Ranged) → q.words.variables ≡ v.variables → (x y : Valued Ranged) → Both ((done ++ op ∷ []) ++ rest) last q.words x y → Both ((done ++ op ∷ []) ++ rest) last v x y
        from_before q e (is x) (is y) b = (b.0, b.1 ∙ e, b.2)
        from_before q e (faulty rule at) (faulty other place) b = b
        from_before q e (is x) (faulty rule at) b = b
        from_before q e (faulty rule at) (is x) b = b

        over : (x y : Valued Ranged) → operations shapes w u.ops [] t0 ≡ y → Both (done ++ op ∷ []) u v x y
            → ((q r : Ranged) → Both (done ++ op ∷ []) u v (is q) (is r) → Both ((done ++ op ∷ []) ++ rest) last q.words (operations shapes block rest q.results q.words) (operations shapes w last.ops [] t0))
            → Both ((done ++ op ∷ []) ++ rest) last v (and_then x (λ q. operations shapes block rest q.results q.words)) (operations shapes w last.ops [] t0)
        over (is q) (is r) e b further = from_before q b.1 (operations shapes block rest q.results q.words) (operations shapes w last.ops [] t0) (further q r b)
        over (faulty rule at) (faulty other place) e b further = subst (Both ((done ++ op ∷ []) ++ rest) last v (faulty rule at)) (sym (ran (faulty other place) e)) b
        over (is q) (faulty rule at) e b further = absurd b
        over (faulty rule at) (is r) e b further = absurd b
