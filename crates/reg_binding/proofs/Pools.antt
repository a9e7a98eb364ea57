-- What a pool of registers keeps.
use Rattle.std.proofs.Common.{◌≡◌, ℕ, ◌+◌, ◌-◌, ◌<◌, ◌≤◌, ◌⊎◌, List, [], ◌∷◌, ◌++◌, length, slice_index, None, inl, inr, refl, sym, ap, subst, ◌∙◌, arith}
use Rattle.std.specs.BTreeSet.{BTreeSet, insert_key}
use Rattle.std.specs.Ordering.{nat_cmp}
use Rattle.std.proofs.lemmas.Bool.{cases_eq, cases_lt}
use Rattle.std.proofs.lemmas.List.{append-nil, length-append}
use Rattle.reg_binding.specs.declared.life.Life.{Life}
use Rattle.reg_binding.specs.declared.pool.Pool.{Pool}
use Rattle.reg_binding.specs.Sharing.{Meet, life_at, IsShared}
use Rattle.reg_binding.specs.Pools.{Has, Precedes, IsOver, Ends, AreInOrder, IsLasting, IsPool, PicksFree, PicksNew, Takes}
use Rattle.reg_binding.proofs.Sharing.{before, behind, IsShared-more}
use Rattle.reg_binding.proofs.Members.{first_or_later, at_first, at_later, no_member, inserted_from, kept_there, inserted_there, level, pair_cmp, same_pair}

-- ---- registers that become free

module _ (lives : List Life) (n : ℕ) (choices widths : List ℕ) where
  pub IsPool-later : (a b : ℕ) (pool : Pool) → a ≤ b → IsPool lives n choices widths a pool → IsPool lives n choices widths b pool
  IsPool-later a b pool le p = record {
    inside = p.inside;
    all = p.all;
    used = p.used;
    free = λ r found. (let f = p.free r found in (f.0, f.1, λ i lt is. omega (arith, f.2 i lt is, le)));
    busy = p.busy;
  }

  pub IsPool-freed : (time end_ r : ℕ) (old new : Pool) → new.width ≡ old.width → new.next ≡ old.next → old.busy.keys ≡ (end_, r) ∷ new.busy.keys
      → new.free.keys ≡ insert_key nat_cmp old.free.keys r → end_ ≤ time → IsPool lives n choices widths time old → IsPool lives n choices widths time new
  IsPool-freed time end_ r old new width next first freed le p =
      let in_old : (x : ℕ × ℕ) → Has ((end_, r) ∷ new.busy.keys) x → Has old.busy.keys x = λ x found. subst (λ (ks : List (ℕ × ℕ)). Has ks x) (sym first) found in
      let in_new : (x : ℕ) → Has (insert_key nat_cmp old.free.keys r) x → Has new.free.keys x = λ x found. subst (λ (ks : List ℕ). Has ks x) (sym freed) found in
      let gone = p.busy r end_ (in_old (end_, r) (at_first (end_, r) new.busy.keys)) in
      record {
        inside = omega (arith, p.inside, next);
        all = λ k lt w. elim (p.all k (omega (arith, next)) (w ∙ width)) [
          | inl found ↦ inl (in_new k (kept_there nat_cmp r old.free.keys k found))
          | inr found ↦ elim (first_or_later (end_, r) new.busy.keys (found.0, k) (subst (λ (ks : List (ℕ × ℕ)). Has ks (found.0, k)) first found.1)) [
            | inl e ↦ inl (in_new k (subst (λ (j : ℕ). Has (insert_key nat_cmp old.free.keys r) j) (sym (ap (λ (x : ℕ × ℕ). x.1) e)) (inserted_there nat_cmp r (level r) old.free.keys)))
            | inr later ↦ inr (found.0, later)
          ]
        ];
        used = λ i lt w. omega (arith, p.used i lt (w ∙ width), next);
        free = λ k found. elim (inserted_from nat_cmp r old.free.keys k (subst (λ (ks : List ℕ). Has ks k) freed found)) [
          | inl e ↦ (omega (arith, gone.0, next, e), ap (slice_index widths) e ∙ gone.1 ∙ sym width, λ i lt is. omega (arith, gone.2.over i lt (is ∙ e), le))
          | inr old_one ↦ (let f = p.free k old_one in (omega (arith, f.0, next), f.1 ∙ sym width, f.2))
        ];
        busy = λ k e found. (let f = p.busy k e (in_old (e, k) (at_later (end_, r) new.busy.keys (e, k) found)) in (omega (arith, f.0, next), f.1 ∙ sym width, f.2));
      }

-- ---- a register for the next value

-- register r, which may be a new one, is the first of its width that is free
module _ (lives : List Life) (n : ℕ) (choices widths more : List ℕ) (old new : Pool) (r : ℕ)
    (order : AreInOrder lives (n + 1)) (width : old.width ≡ (life_at lives n).width) (shared : IsShared None lives n widths choices)
    (p : IsPool lives n choices widths (life_at lives n).start old)
    (later : (k end_ : ℕ) → Has old.busy.keys (end_, k) → (life_at lives n).start < end_)
    (r_most : r ≤ length widths) (r_in : r < length (widths ++ more)) (r_fits : slice_index (widths ++ more) r ≡ old.width)
    (over : IsOver lives n choices r (life_at lives n).start)
    (first : (k : ℕ) → k < r → slice_index widths k ≡ old.width → (k < old.next) × (Has old.free.keys k → ⊥))
    (same_width : new.width ≡ old.width) (next : (old.next ≤ new.next) × (r < new.next) × (new.next ≤ length (widths ++ more)))
    (next_only : (k : ℕ) → k < new.next → (k < old.next) ⊎ (k ≤ r))
    (left : (k : ℕ) → Has new.free.keys k → Has old.free.keys k × (k ≡ r → ⊥)) (kept : (k : ℕ) → Has old.free.keys k → (k ≡ r → ⊥) → Has new.free.keys k)
    (busy : new.busy.keys ≡ insert_key pair_cmp old.busy.keys ((life_at lives n).start + (life_at lives n).length, r)) where
  longer : length (widths ++ more) ≡ length widths + length more
  longer = length-append widths more

  apart : (i : ℕ) → i < n → slice_index choices i ≡ r → Meet None (life_at lives i) (life_at lives n) → ⊥
  apart i lt is meet = omega (arith, over i lt is, meet.there.1, meet.there_too.0)

  not_before : (i : ℕ) → i < n → (life_at lives i).width ≡ (life_at lives n).width → (life_at lives i).start ≤ (life_at lives n).start
  not_before i lt same = elim (order.order i n lt (omega arith)) [ inl less ↦ absurd (omega (arith, less, same)) | inr equal ↦ equal.1 ]

  meets : (k end_ : ℕ) → k < length widths → slice_index widths k ≡ (life_at lives n).width → Ends lives n choices k end_ → (life_at lives n).start < end_
      → (i : ℕ) × (i < n) × (slice_index choices i ≡ k) × Meet None (life_at lives i) (life_at lives n)
  meets k end_ lt same ends lasts =
      let i = ends.last.0 in
      let i_in = ends.last.1 in
      let is = ends.last.2 in
      let width_is : (life_at lives i).width ≡ (life_at lives n).width = sym (shared.fits i i_in) ∙ ap (slice_index widths) is ∙ same in
      let start = not_before i i_in width_is in
      let some = (order.lasting n (omega arith)).0 in
      (i, i_in, is, record { time = (life_at lives n).start; there = (start, omega (arith, ends.last.3, lasts)); there_too = (omega arith, omega (arith, some)) })

  low : (k : ℕ) → k < r → slice_index (widths ++ more) k ≡ (life_at lives n).width → (i : ℕ) × (i < n) × (slice_index choices i ≡ k) × Meet None (life_at lives i) (life_at lives n)
  low k lt same =
      let old_width : slice_index widths k ≡ old.width = sym (before widths more k (omega (arith, r_most))) ∙ same ∙ sym width in
      let looked = first k lt old_width in
      elim (p.all k looked.0 old_width) [
        | inl free ↦ absurd (looked.1 free)
        | inr held ↦ meets k held.0 (omega (arith, r_most)) (old_width ∙ width) ((p.busy k held.0 held.1).2) (later k held.0 held.1)
      ]

  pub shared_more : IsShared None lives (n + 1) (widths ++ more) (choices ++ r ∷ [])
  shared_more = IsShared-more None lives n widths choices more r shared r_in (r_fits ∙ width) apart low

  old_choice : (i : ℕ) → i < n → slice_index (choices ++ r ∷ []) i ≡ slice_index choices i
  old_choice i lt = before choices (r ∷ []) i (omega (arith, shared.count))

  new_choice : slice_index (choices ++ r ∷ []) n ≡ r
  new_choice = behind choices r n (sym shared.count)

  still_over : (k time : ℕ) → (k ≡ r → ⊥) → IsOver lives n choices k time → IsOver lives (n + 1) (choices ++ r ∷ []) k time
  still_over k time ne is_over i lt is = elim (cases_eq i n) [
    | inl e ↦ absurd (ne (sym is ∙ ap (slice_index (choices ++ r ∷ [])) e ∙ new_choice))
    | inr old_one ↦ is_over i (omega arith) (sym (old_choice i (omega arith)) ∙ is)
  ]

  now_over : IsOver lives (n + 1) (choices ++ r ∷ []) r ((life_at lives n).start + (life_at lives n).length)
  now_over i lt is = elim (cases_eq i n) [
    | inl e ↦ (let same : (life_at lives i).start + (life_at lives i).length ≡ (life_at lives n).start + (life_at lives n).length = ap (λ k. (life_at lives k).start + (life_at lives k).length) e in omega (arith, same))
    | inr old_one ↦ omega (arith, over i (omega arith) (sym (old_choice i (omega arith)) ∙ is))
  ]

  width_kept : (k : ℕ) → k < old.next → slice_index (widths ++ more) k ≡ slice_index widths k
  width_kept k lt = before widths more k (omega (arith, p.inside))

  busy_from : (k end_ : ℕ) → Has new.busy.keys (end_, k) → (k < new.next) × (slice_index (widths ++ more) k ≡ new.width) × Ends lives (n + 1) (choices ++ r ∷ []) k end_
  busy_from k end_ found = elim (inserted_from pair_cmp ((life_at lives n).start + (life_at lives n).length, r) old.busy.keys (end_, k) (subst (λ (ks : List (ℕ × ℕ)). Has ks (end_, k)) busy found)) [
    | inl e ↦
        let k_is : k ≡ r = ap (λ (x : ℕ × ℕ). x.1) e in
        let end_is : end_ ≡ (life_at lives n).start + (life_at lives n).length = ap (λ (x : ℕ × ℕ). x.0) e in (
          omega (arith, next.1, k_is),
          ap (slice_index (widths ++ more)) k_is ∙ r_fits ∙ sym same_width,
          record {
            over = λ i lt is. omega (arith, now_over i lt (is ∙ k_is), end_is);
            last = (n, omega arith, new_choice ∙ sym k_is, sym end_is);
          },
        )
    | inr held ↦
        let f = p.busy k end_ held in
        let ne : k ≡ r → ⊥ = λ e. omega (arith, over f.2.last.0 f.2.last.1 (f.2.last.2 ∙ e), f.2.last.3, later k end_ held) in (
          omega (arith, f.0, next.0),
          width_kept k f.0 ∙ f.1 ∙ sym same_width,
          record {
            over = still_over k end_ ne f.2.over;
            last = (f.2.last.0, omega (arith, f.2.last.1), old_choice f.2.last.0 f.2.last.1 ∙ f.2.last.2, f.2.last.3);
          },
        )
  ]

  all_there : (k : ℕ) → k < new.next → slice_index (widths ++ more) k ≡ new.width → Has new.free.keys k ⊎ ((end_ : ℕ) × Has new.busy.keys (end_, k))
  all_there k lt is = elim (cases_eq k r) [
    | inl e ↦ inr (
      (life_at lives n).start + (life_at lives n).length,
      subst (λ (ks : List (ℕ × ℕ)). Has ks ((life_at lives n).start + (life_at lives n).length, k)) (sym busy)
          (subst (λ (j : ℕ). Has (insert_key pair_cmp old.busy.keys ((life_at lives n).start + (life_at lives n).length, r)) ((life_at lives n).start + (life_at lives n).length, j)) (sym e)
          (inserted_there pair_cmp ((life_at lives n).start + (life_at lives n).length, r) (same_pair ((life_at lives n).start + (life_at lives n).length, r)) old.busy.keys)),
    )
    | inr ne ↦
        let looked : (k < old.next) ⊎ (k ≤ r) = next_only k lt in
        let in_ : k < length widths = elim looked [ inl old_one ↦ omega (arith, p.inside, old_one) | inr le ↦ omega (arith, le, r_most) ] in
        let old_width : slice_index widths k ≡ old.width = sym (before widths more k in_) ∙ is ∙ same_width in
        let low_one : k < old.next = elim looked [ inl old_one ↦ old_one | inr le ↦ (first k (omega arith) old_width).0 ] in
        elim (p.all k low_one old_width) [
          | inl free ↦ inl (kept k free ne)
          | inr held ↦ inr (held.0, subst (λ (ks : List (ℕ × ℕ)). Has ks (held.0, k)) (sym busy) (kept_there pair_cmp ((life_at lives n).start + (life_at lives n).length, r) old.busy.keys (held.0, k) held.1))
        ]
  ]

  pub pool_more : IsPool lives (n + 1) (choices ++ r ∷ []) (widths ++ more) (life_at lives n).start new
  pool_more = record {
    inside = next.2;
    all = all_there;
    used = λ i lt is. elim (cases_eq i n) [
      | inl e ↦ omega (arith, ap (slice_index (choices ++ r ∷ [])) e ∙ new_choice, next.1)
      | inr old_one ↦ omega (arith, old_choice i (omega arith), p.used i (omega arith) (is ∙ same_width), next.0)
    ];
    free = λ k found. (let was = left k found in let f = p.free k was.0 in (omega (arith, f.0, next.0), width_kept k f.0 ∙ f.1 ∙ sym same_width, still_over k (life_at lives n).start was.1 f.2));
    busy = busy_from;
  }

-- ---- by the register that was picked

module _ (lives : List Life) (n : ℕ) (choices widths : List ℕ) (old mid : Pool) (b : BTreeSet (ℕ × ℕ)) (r : ℕ)
    (order : AreInOrder lives (n + 1)) (width : old.width ≡ (life_at lives n).width) (shared : IsShared None lives n widths choices)
    (p : IsPool lives n choices widths (life_at lives n).start old)
    (later : (k end_ : ℕ) → Has old.busy.keys (end_, k) → (life_at lives n).start < end_)
    (same_width : mid.width ≡ old.width)
    (busy : b.keys ≡ insert_key pair_cmp old.busy.keys ((life_at lives n).start + (life_at lives n).length, r)) where
  abbrev final : Pool
  final = record { width = mid.width; free = mid.free; busy = b; next = mid.next }

  no_more : length (widths ++ []) ≡ length widths
  no_more = ap length (append-nil widths)

  in_free : PicksFree old mid r → Has old.free.keys r
  in_free q = subst (λ (ks : List ℕ). Has ks r) (sym q.first) (at_first r mid.free.keys)

  free_first : (q : PicksFree old mid r) → (k : ℕ) → k < r → slice_index widths k ≡ old.width → (k < old.next) × (Has old.free.keys k → ⊥)
  free_first q k lt is = (
    omega (arith, (p.free r (in_free q)).0),
    λ found. elim (first_or_later r mid.free.keys k (subst (λ (ks : List ℕ). Has ks k) q.first found)) [
      | inl e ↦ omega (arith, e)
      | inr rest ↦ omega (arith, q.least k rest)
    ],
  )

  free_left : (q : PicksFree old mid r) → (k : ℕ) → Has mid.free.keys k → Has old.free.keys k × (k ≡ r → ⊥)
  free_left q k found = (subst (λ (ks : List ℕ). Has ks k) (sym q.first) (at_later r mid.free.keys k found), λ e. omega (arith, q.least k found, e))

  free_kept : (q : PicksFree old mid r) → (k : ℕ) → Has old.free.keys k → (k ≡ r → ⊥) → Has mid.free.keys k
  free_kept q k found ne = elim (first_or_later r mid.free.keys k (subst (λ (ks : List ℕ). Has ks k) q.first found)) [ inl e ↦ absurd (ne e) | inr rest ↦ rest ]

  pub takes_free : (q : PicksFree old mid r) → Takes lives n choices widths widths final r
  takes_free q =
      let f = p.free r (in_free q) in
      let most : r ≤ length widths = omega (arith, f.0, p.inside) in
      let r_in : r < length (widths ++ []) = omega (arith, f.0, p.inside, no_more) in
      let r_fits : slice_index (widths ++ []) r ≡ old.width = before widths [] r (omega (arith, f.0, p.inside)) ∙ f.1 in
      let nexts : (old.next ≤ final.next) × (r < final.next) × (final.next ≤ length (widths ++ [])) = (omega (arith, q.next), omega (arith, q.next, f.0), omega (arith, q.next, p.inside, no_more)) in
      subst (λ (ws : List ℕ). Takes lives n choices widths ws final r) (append-nil widths) (record {
        shared = shared_more lives n choices widths [] old final r order width shared p later most r_in r_fits f.2 (free_first q) same_width nexts (λ k lt. inl (omega (arith, q.next, lt))) (free_left q) (free_kept q) busy;
        pool_ = pool_more lives n choices widths [] old final r order width shared p later most r_in r_fits f.2 (free_first q) same_width nexts (λ k lt. inl (omega (arith, q.next, lt))) (free_left q) (free_kept q) busy;
        grown = inl (append-nil widths);
      })

  new_over : PicksNew widths old mid r → IsOver lives n choices r (life_at lives n).start
  new_over q i lt is = elim (cases_lt r (length widths)) [
    | inr out ↦ absurd (omega (arith, shared.inside i lt, is, out))
    | inl in_ ↦
        let width_is : (life_at lives i).width ≡ old.width = sym (shared.fits i lt) ∙ ap (slice_index widths) is ∙ q.fits in_ in
        absurd (omega (arith, p.used i lt width_is, is, q.behind p.inside))
  ]

  new_first : (q : PicksNew widths old mid r) → (k : ℕ) → k < r → slice_index widths k ≡ old.width → (k < old.next) × (Has old.free.keys k → ⊥)
  new_first q k lt is =
      let looked : k < old.next = elim (cases_lt k old.next) [ inl yes_ ↦ yes_ | inr out ↦ absurd (q.first k out lt is) ] in
      (looked, λ found. no_member old.free.keys k q.none found)

  new_left : (q : PicksNew widths old mid r) → (k : ℕ) → Has mid.free.keys k → Has old.free.keys k × (k ≡ r → ⊥)
  new_left q k found = absurd (no_member mid.free.keys k q.free found)

  new_kept : (q : PicksNew widths old mid r) → (k : ℕ) → Has old.free.keys k → (k ≡ r → ⊥) → Has mid.free.keys k
  new_kept q k found ne = absurd (no_member old.free.keys k q.none found)

  new_takes : (q : PicksNew widths old mid r) (more : List ℕ) → r < length (widths ++ more) → slice_index (widths ++ more) r ≡ old.width
      → ((widths ++ more ≡ widths) ⊎ ((widths ++ more ≡ widths ++ (life_at lives n).width ∷ []) × (r ≡ length widths))) → Takes lives n choices widths (widths ++ more) final r
  new_takes q more r_in r_fits grown =
      let nexts : (old.next ≤ final.next) × (r < final.next) × (final.next ≤ length (widths ++ more)) = (omega (arith, q.next, q.behind p.inside), omega (arith, q.next), omega (arith, q.next, r_in)) in
      record {
        shared = shared_more lives n choices widths more old final r order width shared p later q.most r_in r_fits (new_over q) (new_first q) same_width nexts (λ k lt. inr (omega (arith, q.next, lt))) (new_left q) (new_kept q) busy;
        pool_ = pool_more lives n choices widths more old final r order width shared p later q.most r_in r_fits (new_over q) (new_first q) same_width nexts (λ k lt. inr (omega (arith, q.next, lt))) (new_left q) (new_kept q) busy;
        grown = grown;
      }

  -- where there is one
  pub takes_there : (PicksFree old mid r ⊎ PicksNew widths old mid r) → r < length widths → Takes lives n choices widths widths final r
  takes_there (inl q) lt = takes_free q
  takes_there (inr q) lt =
      let r_in : r < length (widths ++ []) = omega (arith, lt, no_more) in
      subst (λ (ws : List ℕ). Takes lives n choices widths ws final r) (append-nil widths)
      (new_takes q [] r_in (before widths [] r lt ∙ q.fits lt) (inl (append-nil widths)))

  pub takes_new : (PicksFree old mid r ⊎ PicksNew widths old mid r) → length widths ≤ r → Takes lives n choices widths (widths ++ (life_at lives n).width ∷ []) final r
  takes_new (inl q) le = absurd (omega (arith, (p.free r (in_free q)).0, p.inside, le))
  takes_new (inr q) le =
      let last : r ≡ length widths = omega (arith, q.most, le) in
      let longer : length (widths ++ (life_at lives n).width ∷ []) ≡ length widths + 1 = length-append widths ((life_at lives n).width ∷ []) in
      new_takes q ((life_at lives n).width ∷ []) (omega (arith, longer, last)) (behind widths (life_at lives n).width r last ∙ sym width) (inr (refl, last))

-- ---- values in order

precedes_all : (a b c : Life) → Precedes a b → Precedes b c → Precedes a c
precedes_all a b c (inl x) (inl y) = inl (omega arith)
precedes_all a b c (inl x) (inr y) = inl (omega (arith, y.0))
precedes_all a b c (inr x) (inl y) = inl (omega (arith, x.0))
precedes_all a b c (inr x) (inr y) = inr (x.0 ∙ y.0, omega (arith, x.1, y.1))

pub in_order_none : (lives : List Life) → AreInOrder lives 0
in_order_none lives = record { lasting = λ i lt. absurd (omega arith); order = λ i j lt in_. absurd (omega arith) }

pub in_order_more : (lives : List Life) (n : ℕ) → AreInOrder lives n → IsLasting (life_at lives n) → ((k : ℕ) → k + 1 ≡ n → Precedes (life_at lives k) (life_at lives n))
    → AreInOrder lives (n + 1)
in_order_more lives n a lasting follows = record {
  lasting = λ i lt. elim (cases_eq i n) [
    | inl e ↦ subst (λ (k : ℕ). IsLasting (life_at lives k)) (sym e) lasting
    | inr ne ↦ a.lasting i (omega arith)
  ];
  order = λ i j lt in_. elim (cases_eq j n) [
    | inr ne ↦ a.order i j lt (omega arith)
    | inl e ↦ subst (λ (k : ℕ). Precedes (life_at lives i) (life_at lives k)) (sym e) (elim (cases_eq (i + 1) n) [
      | inl next ↦ follows i next
      | inr far ↦ precedes_all (life_at lives i) (life_at lives (n - 1)) (life_at lives n) (a.order i (n - 1) (omega arith) (omega arith)) (follows (n - 1) (omega arith))
    ])
  ];
}

pub in_order_less : (lives : List Life) (n m : ℕ) → m ≤ n → AreInOrder lives n → AreInOrder lives m
in_order_less lives n m le a = record { lasting = λ i lt. a.lasting i (omega arith); order = λ i j lt in_. a.order i j lt (omega arith) }

-- ---- the pool of the next value's width

pub IsPool-empty : (lives : List Life) (n : ℕ) (choices widths : List ℕ) (time : ℕ) (pool : Pool) → pool.free.keys ≡ [] → pool.busy.keys ≡ [] → pool.next ≡ 0
    → ((i : ℕ) → i < n → (life_at lives i).width ≡ pool.width → ⊥) → IsPool lives n choices widths time pool
IsPool-empty lives n choices widths time pool free busy next other = record {
  inside = omega (arith, next);
  all = λ r lt is. absurd (omega (arith, next));
  used = λ i lt is. absurd (other i lt is);
  free = λ r found. absurd (no_member pool.free.keys r free found);
  busy = λ r end_ found. absurd (no_member pool.busy.keys (end_, r) busy found);
}

module _ (lives : List Life) (n : ℕ) (choices widths : List ℕ) (time : ℕ) (old new : Pool) (in_ : n < length lives) (order : AreInOrder lives (length lives))
    (p : IsPool lives n choices widths time old)
    (waits : (i : ℕ) → n ≤ i → i < length lives → (life_at lives i).width ≡ old.width → time ≤ (life_at lives i).start)
    (last : (i : ℕ) → i + 1 ≡ n → (life_at lives i).width ≡ old.width)
    (width : new.width ≡ (life_at lives n).width) (same : old.width ≡ (life_at lives n).width → new ≡ old)
    (fresh : (old.width ≡ (life_at lives n).width → ⊥) → (new.free.keys ≡ []) × (new.busy.keys ≡ []) × (new.next ≡ 0)) where
  narrower : (old.width ≡ (life_at lives n).width → ⊥) → (i : ℕ) → i < n → (life_at lives i).width ≡ new.width → ⊥
  narrower ne i lt is =
      let k = n - 1 in
      let last_width : (life_at lives k).width ≡ old.width = last k (omega arith) in
      let below : old.width < (life_at lives n).width = elim (order.order k n (omega arith) in_) [ inl less ↦ omega (arith, less, last_width) | inr equal ↦ absurd (ne (sym last_width ∙ equal.0)) ] in
      elim (cases_eq i k) [
        | inl e ↦ omega (arith, below, last_width, ap (λ m. (life_at lives m).width) e, is, width)
        | inr far ↦ elim (order.order i k (omega arith) (omega arith)) [
          | inl less ↦ omega (arith, less, below, last_width, is, width)
          | inr equal ↦ omega (arith, equal.0, below, last_width, is, width)
        ]
      ]

  pub turned_pool : (before : ℕ) × (before ≤ (life_at lives n).start) × IsPool lives n choices widths before new
  turned_pool = elim (cases_eq old.width (life_at lives n).width) [
    | inl e ↦ (time, waits n (omega arith) in_ (sym e), subst (λ (q : Pool). IsPool lives n choices widths time q) (sym (same e)) p)
    | inr ne ↦ (let f = fresh ne in (0, omega arith, IsPool-empty lives n choices widths 0 new f.0 f.1 f.2 (narrower ne)))
  ]
