-- What the lives of a node's results are: for each a result that is read, and its last read.
use Rattle.std.proofs.Common.{◌≡◌, ℕ, zero, suc, ◌+◌, ◌-◌, ◌*◌, ◌/◌, ◌<◌, ◌≤◌, ◌==◌, nat_le, max, Bool, true, false, if◌then◌else◌, List, [], ◌∷◌, map, Option, Some, None, inl, inr, refl, sym, ap, ◌∙◌, subst, arith, div-add-mod'}
use Rattle.std.specs.Prelude.{slice_get}
use Rattle.std.specs.List.{range_with_len}
use Rattle.std.proofs.lemmas.Bool.{cases_Bool, cond-true, cond-false, eq-eqb, le-leb, leb-true}
use Rattle.std.proofs.lemmas.Nat.{le-div}
use Rattle.ir_core.specs.declared.timed.Timed.{Timed}
use Rattle.ir_core.specs.declared.body.Op.{Op}
use Rattle.ir_core.specs.declared.body.Out.{Out}
use Rattle.ir_core.specs.Timing.{result_bits}
use Rattle.reg_binding.specs.declared.life.Life.{Life}
use Rattle.reg_binding.specs.declared.life.Read.{Read}
use Rattle.reg_binding.specs.Lives.{later, last_from, last_read, ready, block_life, lives_from, is_taken_over, place_life, with_entry, chain_life, chain_lives}
use Rattle.reg_binding.specs.Pools.{Has}
use Rattle.reg_binding.proofs.Members.{none, first_or_later, at_first}
use Rattle.clock_runs.proofs.Numbers.{later_turn}
use Rattle.circuit_agreement.proofs.HeldResults.Lists.{in_left, in_right, in_either, in_map, from_map, in_range, from_range}

-- ---- the last read

pub record LastRead (reads : List Read) (k t : ℕ) : Type 0 where
  pub last : ℕ
  pub is : last_read reads k ≡ Some last
  pub late : t ≤ last

record LastFrom (known : Option ℕ) (reads : List Read) (k t : ℕ) : Type 0 where
  last : ℕ
  is : last_from known reads k ≡ Some last
  late : t ≤ last

later_known : (m : ℕ) (reads : List Read) (k : ℕ) → LastFrom (Some m) reads k m
later_known m [] k = record { last = m; is = refl; late = omega arith }
later_known m (r ∷ rs) k = elim (cases_Bool (r.op == k)) [
  | inl same ↦
      let f = later_known (max m r.time) rs k in
      record { last = f.last; is = ap (λ (o : Option ℕ). last_from o rs k) (cond-true _ _ _ same) ∙ f.is; late = (let h = f.late in omega (arith, h)) }
  | inr other ↦
      let f = later_known m rs k in
      record { last = f.last; is = ap (λ (o : Option ℕ). last_from o rs k) (cond-false _ _ _ other) ∙ f.is; late = f.late }
]

up_to_later : (known : Option ℕ) (t : ℕ) → (m : ℕ) × ((Some (later known t) ≡ Some m) × (t ≤ m))
up_to_later None t = (t, (refl, omega arith))
up_to_later (Some b) t = (max b t, (refl, omega arith))

read_from : (known : Option ℕ) (reads : List Read) (k t : ℕ) → Has reads (record { op = k; time = t }) → LastFrom known reads k t
read_from known [] k t h = absurd (none _ h)
read_from known (r ∷ rs) k t h = elim (first_or_later r rs (record { op = k; time = t }) h) [
  | inl e ↦
      let same : (r.op == k) ≡ true = eq-eqb r.op k (ap (λ (x : Read). x.op) (sym e)) in
      let up = up_to_later known r.time in
      let f = later_known up.0 rs k in
      let at : t ≡ r.time = ap (λ (x : Read). x.time) e in
      record { last = f.last; is = ap (λ (o : Option ℕ). last_from o rs k) (cond-true _ _ _ same ∙ up.1.0) ∙ f.is; late = (let g = f.late in let u = up.1.1 in omega (arith, g, u, at)) }
  | inr behind ↦
      let f = read_from (if r.op == k then Some (later known r.time) else known) rs k t behind in
      record { last = f.last; is = f.is; late = f.late }
]

-- what is read has a last read, which is no earlier
pub last_of : (reads : List Read) (k t : ℕ) → Has reads (record { op = k; time = t }) → LastRead reads k t
last_of reads k t h = (let f = read_from None reads k t h in record { last = f.last; is = f.is; late = f.late })

-- ---- the lives of each operation

pub record LifeFrom (lives_of : ℕ → Op Timed → Option ℕ → List Life) (reads : List Read) (k : ℕ) (ops : List (Op Timed)) (life : Life) : Type 0 where
  pub number : ℕ
  pub op : Op Timed
  pub there : slice_get ops number ≡ Some op
  pub lives : Has (lives_of (k + number) op (last_read reads (k + number))) life

module _ (lives_of : ℕ → Op Timed → Option ℕ → List Life) (reads : List Read) where
  pub from_lives : (k : ℕ) (ops : List (Op Timed)) (life : Life) → Has (lives_from lives_of reads k ops) life → LifeFrom lives_of reads k ops life
  from_lives k [] life h = absurd (none life h)
  from_lives k (o ∷ os) life h = elim (in_either (lives_of k o (last_read reads k)) (lives_from lives_of reads (suc k) os) life h) [
    | inl here ↦ record { number = 0; op = o; there = refl; lives = subst (λ (n : ℕ). Has (lives_of n o (last_read reads n)) life) (let z : k ≡ k + 0 = omega arith in z) here }
    | inr behind ↦
        let f = from_lives (suc k) os life behind in
        record { number = suc f.number; op = f.op; there = f.there; lives = subst (λ (n : ℕ). Has (lives_of n f.op (last_read reads n)) life) (let z : suc k + f.number ≡ k + suc f.number = omega arith in z) f.lives }
  ]

  pub in_lives : (k n : ℕ) (ops : List (Op Timed)) (op : Op Timed) (life : Life) → slice_get ops n ≡ Some op → Has (lives_of (k + n) op (last_read reads (k + n))) life → Has (lives_from lives_of reads k ops) life
  in_lives k n [] op life e h = absurd (cc)
  in_lives k zero (o ∷ os) op life e h =
      let same : o ≡ op = cc in
      in_left (lives_of k o (last_read reads k)) (lives_from lives_of reads (suc k) os) life
      (subst (λ (z : Op Timed). Has (lives_of k z (last_read reads k)) life) (sym same) (subst (λ (n : ℕ). Has (lives_of n op (last_read reads n)) life) (let z : k + 0 ≡ k = omega arith in z) h))
  in_lives k (suc n) (o ∷ os) op life e h =
      in_right (lives_of k o (last_read reads k)) (lives_from lives_of reads (suc k) os) life
      (in_lives (suc k) n os op life e (subst (λ (m : ℕ). Has (lives_of m op (last_read reads m)) life) (let z : k + suc n ≡ suc k + n = omega arith in z) h))

-- ---- blocks

abbrev pub held_once : ℕ → Op Timed → ℕ → Life
held_once k op last = record { first = ready op; op = k; place = 0; width = result_bits op.kind op.bits; start = ready op; length = last - ready op + 1; entry = 0 }

-- a result that is read, and is there by its last read
pub record BlockLife (ops : List (Op Timed)) (reads : List Read) (life : Life) : Type 0 where
  pub op : Op Timed
  pub there : slice_get ops life.op ≡ Some op
  pub last : ℕ
  pub read : last_read reads life.op ≡ Some last
  pub soon : ready op ≤ last
  pub is : life ≡ held_once life.op op last

once : (k : ℕ) (op : Op Timed) (found : Option ℕ) (life : Life) → Has (block_life k op found) life → (last : ℕ) × ((found ≡ Some last) × ((ready op ≤ last) × (life ≡ held_once k op last)))
once k op None life h = absurd (none life h)
once k op (Some last) life h = elim (cases_Bool (nat_le (ready op) last)) [
  | inl soon ↦
      let there : Has (held_once k op last ∷ []) life = subst (λ l. Has l life) (cond-true _ _ _ soon) h in
      elim (first_or_later (held_once k op last) [] life there) [
        | inl e ↦ (last, (refl, (leb-true (ready op) last soon, e)))
        | inr behind ↦ absurd (none life behind)
      ]
  | inr late ↦ absurd (none life (subst (λ l. Has l life) (cond-false _ _ _ late) h))
]

pub block_life_of : (ops : List (Op Timed)) (reads : List Read) (life : Life) → Has (lives_from block_life reads 0 ops) life → BlockLife ops reads life
block_life_of ops reads life h =
    let f = from_lives block_life reads 0 ops life h in
    let o = once (0 + f.number) f.op (last_read reads (0 + f.number)) life f.lives in
    let same : f.number ≡ life.op = (let z : f.number ≡ 0 + f.number = omega arith in z) ∙ sym (ap (λ (l : Life). l.op) o.1.1.1) in
    let zero_more : 0 + f.number ≡ life.op = (let z : 0 + f.number ≡ f.number = omega arith in z) ∙ same in
    record {
      op = f.op;
      there = subst (λ (n : ℕ). slice_get ops n ≡ Some f.op) same f.there;
      last = o.0;
      read = subst (λ (n : ℕ). last_read reads n ≡ Some o.0) zero_more o.1.0;
      soon = o.1.1.0;
      is = o.1.1.1 ∙ ap (λ (n : ℕ). held_once n f.op o.0) zero_more;
    }

pub in_block_lives : (ops : List (Op Timed)) (reads : List Read) (k last : ℕ) (op : Op Timed) → slice_get ops k ≡ Some op → last_read reads k ≡ Some last → ready op ≤ last
    → Has (lives_from block_life reads 0 ops) (held_once k op last)
in_block_lives ops reads k last op there read soon =
    let zero_more : k ≡ 0 + k = omega arith in
    let one : block_life k op (last_read reads k) ≡ held_once k op last ∷ [] = ap (block_life k op) read ∙ cond-true _ _ _ (le-leb (ready op) last soon) in
    in_lives block_life reads 0 k ops op (held_once k op last) there
    (subst (λ (n : ℕ). Has (block_life n op (last_read reads n)) (held_once k op last)) zero_more
    (subst (λ l. Has l (held_once k op last)) (sym one) (at_first (held_once k op last) [])))

-- ---- loops

-- a place through which a result passes up to its last read
pub record LoopLife (ops : List (Op Timed)) (outs : List Out) (w : ℕ) (reads : List Read) (life : Life) : Type 0 where
  pub op : Op Timed
  pub there : slice_get ops life.op ≡ Some op
  pub last : ℕ
  pub read : last_read reads life.op ≡ Some last
  pub soon : ready op + life.place * w ≤ last
  pub is : life ≡ chain_life outs w life.op op last life.place

pub chain_op : (outs : List Out) (w k : ℕ) (op : Op Timed) (last j : ℕ) → ((chain_life outs w k op last j).op ≡ k) × ((chain_life outs w k op last j).place ≡ j)
chain_op outs w k op last j = go (is_taken_over outs k) (j == 0)
  where
    go : (taken first : Bool) → ((if taken then with_entry w (place_life w k op last j) else place_life w k op last j).op ≡ k) × ((if taken then with_entry w (place_life w k op last j) else place_life w k op last j).place ≡ j)
    go false first = (refl, refl)
    go true first = both (j == 0)
      where
        both : (b : Bool)
            → ((if b then record (place_life w k op last j) { first = 0; entry = max 1 ((place_life w k op last j).start + (place_life w k op last j).length - w) } else record (place_life w k op last j) { first = (place_life w k op last j).start - w; start = (place_life w k op last j).start - w }).op ≡ k)
            × ((if b then record (place_life w k op last j) { first = 0; entry = max 1 ((place_life w k op last j).start + (place_life w k op last j).length - w) } else record (place_life w k op last j) { first = (place_life w k op last j).start - w; start = (place_life w k op last j).start - w }).place ≡ j)
        both true = (refl, refl)
        both false = (refl, refl)

places : (w a last j : ℕ) → 0 < w → a ≤ last → j < (last - a) / w + 1 → a + j * w ≤ last
places w a last j some soon lt =
    let d : (last - a) / w * w + _ ≡ last - a = div-add-mod' (last - a) w in
    let l = later_turn w j ((last - a) / w) (omega arith) in
    omega (arith, d, l, soon)

placed_within : (w a last j : ℕ) → 0 < w → a + j * w ≤ last → j < (last - a) / w + 1
placed_within w a last j some h = (let l = le-div j (last - a) w some (omega arith) in omega (arith, l))

chained : (outs : List Out) (w k : ℕ) (op : Op Timed) (found : Option ℕ) (life : Life) → 0 < w → Has (chain_lives outs w k op found) life
    → (last : ℕ) × ((found ≡ Some last) × ((j : ℕ) × ((ready op + j * w ≤ last) × (life ≡ chain_life outs w k op last j))))
chained outs w k op None life some h = absurd (none life h)
chained outs w k op (Some last) life some h = elim (cases_Bool (nat_le (ready op) last)) [
  | inl soon ↦
      let there : Has (map (chain_life outs w k op last) (range_with_len 0 ((last - ready op) / w + 1))) life = subst (λ l. Has l life) (cond-true _ _ _ soon) h in
      let m = from_map (chain_life outs w k op last) (range_with_len 0 ((last - ready op) / w + 1)) life there in
      let r = from_range 0 ((last - ready op) / w + 1) m.0 m.1.0 in
      (last, (refl, (m.0, (places w (ready op) last m.0 some (leb-true (ready op) last soon) (omega (arith, r.1)), m.1.1))))
  | inr late ↦ absurd (none life (subst (λ l. Has l life) (cond-false _ _ _ late) h))
]

pub loop_life_of : (ops : List (Op Timed)) (outs : List Out) (w : ℕ) (reads : List Read) (life : Life) → 0 < w → Has (lives_from (chain_lives outs w) reads 0 ops) life
    → LoopLife ops outs w reads life
loop_life_of ops outs w reads life some h =
    let f = from_lives (chain_lives outs w) reads 0 ops life h in
    let o = chained outs w (0 + f.number) f.op (last_read reads (0 + f.number)) life some f.lives in
    let j = o.1.1.0 in
    let is = o.1.1.1.1 in
    let parts = chain_op outs w (0 + f.number) f.op o.0 j in
    let zero_more : 0 + f.number ≡ life.op = sym (ap (λ (l : Life). l.op) is ∙ parts.0) in
    let same : f.number ≡ life.op = (let z : f.number ≡ 0 + f.number = omega arith in z) ∙ zero_more in
    let at : j ≡ life.place = sym (ap (λ (l : Life). l.place) is ∙ parts.1) in
    record {
      op = f.op;
      there = subst (λ (n : ℕ). slice_get ops n ≡ Some f.op) same f.there;
      last = o.0;
      read = subst (λ (n : ℕ). last_read reads n ≡ Some o.0) zero_more o.1.0;
      soon = subst (λ (n : ℕ). ready f.op + n * w ≤ o.0) at o.1.1.1.0;
      is = is ∙ (ap (λ (n : ℕ). chain_life outs w n f.op o.0 j) zero_more ∙ ap (λ (n : ℕ). chain_life outs w life.op f.op o.0 n) at);
    }

pub in_loop_lives : (ops : List (Op Timed)) (outs : List Out) (w : ℕ) (reads : List Read) (k last j : ℕ) (op : Op Timed) → 0 < w → slice_get ops k ≡ Some op → last_read reads k ≡ Some last
    → ready op + j * w ≤ last → Has (lives_from (chain_lives outs w) reads 0 ops) (chain_life outs w k op last j)
in_loop_lives ops outs w reads k last j op some there read soon =
    let n : ℕ = (last - ready op) / w + 1 in
    let zero_more : k ≡ 0 + k = omega arith in
    let all : chain_lives outs w k op (last_read reads k) ≡ map (chain_life outs w k op last) (range_with_len 0 n) =
    ap (chain_lives outs w k op) read ∙ cond-true _ _ _ (le-leb (ready op) last (omega arith)) in
    let one : Has (map (chain_life outs w k op last) (range_with_len 0 n)) (chain_life outs w k op last j) =
    in_map (chain_life outs w k op last) (range_with_len 0 n) j
    (subst (λ (m : ℕ). Has (range_with_len 0 n) m) (let z : 0 + j ≡ j = omega arith in z) (in_range 0 n j (placed_within w (ready op) last j some soon))) in
    in_lives (chain_lives outs w) reads 0 k ops op (chain_life outs w k op last j) there
    (subst (λ (m : ℕ). Has (chain_lives outs w m op (last_read reads m)) (chain_life outs w k op last j)) zero_more
    (subst (λ l. Has l (chain_life outs w k op last j)) (sym all) one))
