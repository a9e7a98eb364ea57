-- What is known between two operations, and that it stays as an operation is performed.
use Rattle.std.proofs.Common.{◌≡◌, ◌∙◌, ◌<◌, ℕ, ◌+◌, Bool, true, refl, ap, sym, subst, arith, inl, inr, ◌⊎◌, List, [], ◌∷◌, ◌++◌, map, length, length-append, Some, None}
use Rattle.std.specs.Prelude.{slice_get, get_or}
use Rattle.std.proofs.lemmas.List.{get_or_append_left}
use Rattle.std.proofs.Math.Seq.{get_or-append_seam}
use Rattle.std.proofs.lemmas.Option.{slice_get_within}
use Rattle.ir_core.specs.declared.body.Source.{Source}
use Rattle.ir_core.specs.declared.body.Source.TheVariants as source
use Rattle.ir_core.specs.Timing.{result_bits}
use Rattle.ir_core.specs.Value.{value, is_defined}
use Rattle.ir_core.specs.Bodies.{OpTree, Words, operand, first_bits, bits_in}
use Rattle.passes.specs.Numbering.{Value, Kept, Numbered, result_of, ops_of, is_common, with_value}
use Rattle.passes.specs.NumberRuns.Ordered.{IsEarly, AreEarly}
use Rattle.passes.proofs.NumberRuns.Lists.{left_of, seam, last_or, length_map, map_more}
use Rattle.passes.proofs.NumberRuns.Operands.{Names, Stands, AllStand, word_more, words_more, early_more}

-- of a block, the operations before and after, and what the variables hold
module _ (widths : List ℕ) (ops new : List OpTree) (variables : ℕ → ℕ) where
  -- what an operation without a guard gives, which C gives it, if it is no load and no store
  abbrev pub Gives : List ℕ → ℕ → OpTree → Type 0
  Gives others w k = k.guard ≡ None → is_common k.kind ≡ true → (t : Words) → t.variables ≡ variables
      → (is_defined k.kind k.signed k.bits (map (operand t others) k.args) ≡ true) × (value k.kind k.signed k.bits (first_bits widths new k k.args) (map (operand t others) k.args) ≡ w)

  pub record Keeps (others : List ℕ) (w : ℕ) (k : OpTree) : Type 0 where
    pub early : AreEarly (length others) k.args
    pub gives : Gives others w k

  pub record Known (s : Numbered) (results others : List ℕ) : Type 0 where
    pub count : length s.values ≡ length results
    pub kept_count : length (ops_of s.ops) ≡ length others
    pub stand : AllStand ops (ops_of s.ops) results others s.values
    pub keep : (j : ℕ) (k : OpTree) → slice_get (ops_of s.ops) j ≡ Some k → Keeps others (get_or others j 0) k

  module _ (s : Numbered) (results others : List ℕ) (known : Known s results others) where
    pub counted : (j : ℕ) (k : OpTree) → slice_get (ops_of s.ops) j ≡ Some k → j < length others
    counted j k e = let h = slice_get_within (ops_of s.ops) j k e in omega (arith, h, known.kept_count)

    valued_in : (j : ℕ) (v : Value) → slice_get s.values j ≡ Some v → j < length results
    valued_in j v e = let h = slice_get_within s.values j v e in omega (arith, h, known.count)

    count_more : {A : Type 0} (xs : List A) (x : A) → length (xs ++ x ∷ []) ≡ length xs + 1
    count_more xs x = length-append xs (x ∷ [])

    -- ---- an operation that does not stay

    gone_stands : (r : ℕ) (j : ℕ) (v : Value) → slice_get s.values j ≡ Some v → Stands ops (ops_of s.ops) (results ++ r ∷ []) others j v
    gone_stands r j v e =
        let old = known.stand j v e in
        record { same = λ t. get_or_append_left results (r ∷ []) 0 j (valued_in j v e) ∙ old.same t; bits = old.bits; names = old.names }

    pub gone : (kept : List Kept) → ops_of kept ≡ ops_of s.ops → (r : ℕ) (v : Value) → ((t : Words) → r ≡ operand t others v.operand)
        → ((d : ℕ) → bits_in (slice_get ops (length results)) d ≡ v.bits) → Names (ops_of s.ops) v.bits v.operand.value
        → Known (record { ops = kept; values = s.values ++ v ∷ [] }) (results ++ r ∷ []) others
    gone kept e r v same bits names = record {
      count = count_more s.values v ∙ ap (λ n. n + 1) known.count ∙ sym (count_more results r);
      kept_count = ap length e ∙ known.kept_count;
      stand = λ j u h. subst (λ l. Stands ops l (results ++ r ∷ []) others j u) (sym e) (stand_at j u (last_or s.values v j u h));
      keep = λ j k h. known.keep j k (sym (ap (λ l. slice_get l j) e) ∙ h);
    } where
      last_stands : Stands ops (ops_of s.ops) (results ++ r ∷ []) others (length results) v
      last_stands = record { same = λ t. get_or-append_seam results r [] 0 ∙ same t; bits = bits; names = names }

      stand_at : (j : ℕ) (u : Value) → (slice_get s.values j ≡ Some u) ⊎ ((j ≡ length s.values) × (v ≡ u)) → Stands ops (ops_of s.ops) (results ++ r ∷ []) others j u
      stand_at j u (inl h) = gone_stands r j u h
      stand_at j u (inr h) = subst (λ x. Stands ops (ops_of s.ops) (results ++ r ∷ []) others j x) h.1
          (subst (λ i. Stands ops (ops_of s.ops) (results ++ r ∷ []) others i v) (sym (h.0 ∙ known.count)) last_stands)

    -- ---- an operation that stays

    names_more : (op : OpTree) (bits : ℕ) (x : Source) → Names (ops_of s.ops) bits x → Names (ops_of s.ops ++ op ∷ []) bits x
    names_more op bits (source.Constant w) h = tt
    names_more op bits (source.Variable v) h = h
    names_more op bits (source.Result i) h = (h.0, left_of (ops_of s.ops) (op ∷ []) i.0 h.0 h.1, h.2)

    names_early : (bits : ℕ) (x : Source) → Names (ops_of s.ops) bits x → IsEarly (length others) x
    names_early bits (source.Constant w) h = tt
    names_early bits (source.Variable v) h = tt
    names_early bits (source.Result i) h = counted i.0 h.0 h.1

    stays_stands : (op : OpTree) (r : ℕ) (j : ℕ) (v : Value) → slice_get s.values j ≡ Some v → Stands ops (ops_of s.ops ++ op ∷ []) (results ++ r ∷ []) (others ++ r ∷ []) j v
    stays_stands op r j v e =
        let old = known.stand j v e in
        record {
          same = λ t. get_or_append_left results (r ∷ []) 0 j (valued_in j v e) ∙ old.same t ∙ sym (word_more t others (r ∷ []) v.operand.value (names_early v.bits v.operand.value old.names));
          bits = old.bits;
          names = names_more op v.bits v.operand.value old.names;
        }

    keeps_more : (r w : ℕ) (k : OpTree) → Keeps others w k → Keeps (others ++ r ∷ []) w k
    keeps_more r w k h = record {
      early = early_more (length others) (length (others ++ r ∷ [])) (omega (arith, count_more others r)) k.args h.early;
      gives = λ g c t e. let old = h.gives g c t e in let p = words_more t others (r ∷ []) k.args h.early in
          (ap (λ l. is_defined k.kind k.signed k.bits l) p ∙ old.0, ap (λ l. value k.kind k.signed k.bits (first_bits widths new k k.args) l) p ∙ old.1);
    }

    pub stays : (op : OpTree) (is_out : Bool) (r : ℕ) → ((d : ℕ) → bits_in (slice_get ops (length results)) d ≡ result_bits op.kind op.bits) → AreEarly (length others) op.args → Gives others r op
        → Known (with_value s (s.ops ++ record { op = op; makes_out = is_out } ∷ []) op (result_of (length s.ops))) (results ++ r ∷ []) (others ++ r ∷ [])
    stays op is_out r bits early gives = record {
      count = count_more s.values last ∙ ap (λ n. n + 1) known.count ∙ sym (count_more results r);
      kept_count = ap length grown ∙ count_more (ops_of s.ops) op ∙ ap (λ n. n + 1) known.kept_count ∙ sym (count_more others r);
      stand = λ j u h. subst (λ l. Stands ops l (results ++ r ∷ []) (others ++ r ∷ []) j u) (sym grown) (stand_at j u (last_or s.values last j u h));
      keep = λ j k h. keep_at j k (last_or (ops_of s.ops) op j k (sym (ap (λ l. slice_get l j) grown) ∙ h));
    } where
      last : Value
      last = record { operand = result_of (length s.ops); bits = result_bits op.kind op.bits }

      grown : ops_of (s.ops ++ record { op = op; makes_out = is_out } ∷ []) ≡ ops_of s.ops ++ op ∷ []
      grown = map_more (λ (k : Kept). k.op) s.ops (record { op = op; makes_out = is_out })

      place : length s.ops ≡ length others
      place = sym (length_map (λ (k : Kept). k.op) s.ops) ∙ known.kept_count

      here : length s.ops ≡ length (ops_of s.ops)
      here = sym (length_map (λ (k : Kept). k.op) s.ops)

      last_stands : Stands ops (ops_of s.ops ++ op ∷ []) (results ++ r ∷ []) (others ++ r ∷ []) (length results) last
      last_stands = record {
        same = λ t. get_or-append_seam results r [] 0 ∙ sym (ap (λ i. get_or (others ++ r ∷ []) i 0) place ∙ get_or-append_seam others r [] 0);
        bits = bits;
        names = (op, ap (λ i. slice_get (ops_of s.ops ++ op ∷ []) i) here ∙ seam (ops_of s.ops) [] op, refl);
      }

      stand_at : (j : ℕ) (u : Value) → (slice_get s.values j ≡ Some u) ⊎ ((j ≡ length s.values) × (last ≡ u)) → Stands ops (ops_of s.ops ++ op ∷ []) (results ++ r ∷ []) (others ++ r ∷ []) j u
      stand_at j u (inl h) = stays_stands op r j u h
      stand_at j u (inr h) = subst (λ x. Stands ops (ops_of s.ops ++ op ∷ []) (results ++ r ∷ []) (others ++ r ∷ []) j x) h.1
          (subst (λ i. Stands ops (ops_of s.ops ++ op ∷ []) (results ++ r ∷ []) (others ++ r ∷ []) i last) (sym (h.0 ∙ known.count)) last_stands)

      keep_at : (j : ℕ) (k : OpTree) → (slice_get (ops_of s.ops) j ≡ Some k) ⊎ ((j ≡ length (ops_of s.ops)) × (op ≡ k)) → Keeps (others ++ r ∷ []) (get_or (others ++ r ∷ []) j 0) k
      keep_at j k (inl h) = subst (λ w. Keeps (others ++ r ∷ []) w k) (sym (get_or_append_left others (r ∷ []) 0 j (counted j k h))) (keeps_more r (get_or others j 0) k (known.keep j k h))
      keep_at j k (inr h) = subst (λ x. Keeps (others ++ r ∷ []) (get_or (others ++ r ∷ []) j 0) x) h.1
          (subst (λ w. Keeps (others ++ r ∷ []) w op) (sym (ap (λ i. get_or (others ++ r ∷ []) i 0) (h.0 ∙ known.kept_count) ∙ get_or-append_seam others r [] 0)) (keeps_more r r op (record { early = early; gives = gives })))
