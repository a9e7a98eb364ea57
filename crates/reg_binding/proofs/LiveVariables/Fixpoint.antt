-- Sets in which one step more finds nothing have all live variables.
use Rattle.std.proofs.Common.{◌≡◌, ℕ, zero, suc, ◌<◌, Bool, true, false, not, ◌&&◌, ◌||◌, List, [], ◌∷◌, length, set, slice_get, Some, inl, inr, sym, ap, subst, ◌∙◌, arith}
use Rattle.std.specs.Prelude.{nat_lt}
use Rattle.std.specs.List.{list_any}
use Rattle.std.proofs.lemmas.Bool.{false≢true, and_parts, and_from, or_cases, or_left, or_right, not-true, not_from_false, ltb-true, lt-ltb}
use Rattle.hls_base.specs.declared.number.NodeId.{NodeId}
use Rattle.reg_binding.specs.declared.live.Live.{Live}
use Rattle.reg_binding.specs.declared.var_set.VarSet.{VarSet}
use Rattle.reg_binding.specs.Sets.{has, has_bit, has_in, Gains}
use Rattle.std.proofs.lemmas.List.{length-set}
use Rattle.reg_binding.proofs.LiveVariables.Elements.{any_found, any_at, any_same, some_at, within, set_found}
use Rattle.reg_binding.specs.Liveness as spec
use Rattle.reg_binding.specs.Liveness.{Summary, Flow, IsLive, IsLiveBehind, Holds, IsClosedAt, IsSized, is_among, is_set, is_entered, is_behind, entered_at, goes_by, reads, goes, passes, leads, stays, IsLiveness, HasSame, free_in, not_live}

has_within : (sets : List VarSet) (i n : ℕ) → has_in (slice_get sets i) n ≡ true → i < length sets
has_within [] i n e = absurd (false≢true e)
has_within (s ∷ sets) zero n e = omega arith
has_within (s ∷ sets) (suc i) n e = let l = has_within sets i n e in omega arith

pub step_sound : (flow : Flow) (summary : Summary) (b : ℕ → Bool) (n : ℕ) → ((m : ℕ) → b m ≡ true → (m < flow.variables) × IsLiveBehind flow summary m) →
    is_entered summary b n ≡ true → IsLive flow summary n
step_sound flow summary b n behind e =
    elim (or_cases ((b n && not (is_set summary.outs n)) || list_any (goes_by b n) summary.outs) (is_among n summary.reads) e) [
      | inl found ↦ elim (or_cases (b n && not (is_set summary.outs n)) (list_any (goes_by b n) summary.outs) found) [
        | inl both ↦ let parts = and_parts (b n) (not (is_set summary.outs n)) both in passes (not-true (is_set summary.outs n) parts.1) (behind n parts.0).1
        | inr some ↦
            let r = any_found (goes_by b n) summary.outs some in
            let parts = and_parts (b r.1.variable.0) (is_among n (spec.out_reads r.1)) r.3 in
            let live = behind r.1.variable.0 parts.0 in
            goes r.0 r.1 r.2 parts.1 live.0 live.1
      ]
      | inr read ↦ reads read
    ]

pub behind_sound : (flow : Flow) (live : Live) (summary : Summary) (n : ℕ) → Holds flow live → is_behind live summary n ≡ true → (n < flow.variables) × IsLiveBehind flow summary n
behind_sound flow live summary n h e =
    let next_has = list_any (λ (next : NodeId). entered_at live next.0 n) summary.next in
    let parts = and_parts (nat_lt n live.variables) (next_has || (summary.returns && has live.kept n)) e in
    let below : n < live.variables = ltb-true n live.variables parts.0 in
    let small : n < flow.variables = omega (arith, h.count) in (
      small,
      elim (or_cases next_has (summary.returns && has live.kept n) parts.1) [
        | inl some ↦
            let r = any_found (λ (next : NodeId). entered_at live next.0 n) summary.next some in
            let inside = has_within live.entered.items r.1.0 n r.3 in
            let after = some_at flow.summaries r.1.0 (omega (arith, h.long)) in
            leads r.0 r.1 after.0 r.2 after.1 (h.sound r.1.0 n after.0 after.1 r.3)
        | inr both ↦ let both_parts = and_parts summary.returns (has live.kept n) both in stays both_parts.0 (sym (h.kept n small) ∙ both_parts.1)
      ],
    )

module _ (flow : Flow) (live : Live) (count : live.variables ≡ flow.variables) (kept : (n : ℕ) → n < flow.variables → has live.kept n ≡ is_among n flow.kept)
    (closed : (i : ℕ) → i < length flow.summaries → IsClosedAt flow live i) where
  mutual
    pub entered_complete : (summary : Summary) (n : ℕ) → IsLive flow summary n → n < flow.variables → is_entered summary (is_behind live summary) n ≡ true
    entered_complete summary n (reads r) l =
        or_right ((is_behind live summary n && not (is_set summary.outs n)) || list_any (goes_by (is_behind live summary) n) summary.outs) (is_among n summary.reads) r
    entered_complete summary n (goes k out at r small b) l =
        or_left ((is_behind live summary n && not (is_set summary.outs n)) || list_any (goes_by (is_behind live summary) n) summary.outs) (is_among n summary.reads)
        (or_right (is_behind live summary n && not (is_set summary.outs n)) (list_any (goes_by (is_behind live summary) n) summary.outs)
        (any_at (goes_by (is_behind live summary) n) summary.outs k out at
        (and_from (is_behind live summary out.variable.0) (is_among n (spec.out_reads out)) (behind_complete summary out.variable.0 b small) r)))
    entered_complete summary n (passes e b) l =
        or_left ((is_behind live summary n && not (is_set summary.outs n)) || list_any (goes_by (is_behind live summary) n) summary.outs) (is_among n summary.reads)
        (or_left (is_behind live summary n && not (is_set summary.outs n)) (list_any (goes_by (is_behind live summary) n) summary.outs)
        (and_from (is_behind live summary n) (not (is_set summary.outs n)) (behind_complete summary n b l) (not_from_false (is_set summary.outs n) e)))

    pub behind_complete : (summary : Summary) (n : ℕ) → IsLiveBehind flow summary n → n < flow.variables → is_behind live summary n ≡ true
    behind_complete summary n (leads k next after at found b) l =
        let small : n < live.variables = omega (arith, count) in
        and_from (nat_lt n live.variables) (list_any (λ (next : NodeId). entered_at live next.0 n) summary.next || (summary.returns && has live.kept n)) (lt-ltb n live.variables small)
        (or_left (list_any (λ (next : NodeId). entered_at live next.0 n) summary.next) (summary.returns && has live.kept n)
        (any_at (λ (next : NodeId). entered_at live next.0 n) summary.next k next at
        (closed next.0 (within flow.summaries next.0 after found) after n found l (entered_complete after n b l))))
    behind_complete summary n (stays r k) l =
        let small : n < live.variables = omega (arith, count) in
        and_from (nat_lt n live.variables) (list_any (λ (next : NodeId). entered_at live next.0 n) summary.next || (summary.returns && has live.kept n)) (lt-ltb n live.variables small)
        (or_right (list_any (λ (next : NodeId). entered_at live next.0 n) summary.next) (summary.returns && has live.kept n)
        (and_from summary.returns (has live.kept n) r (kept n l ∙ k)))

-- ---- empty sets

module _ (sets : List VarSet) (variables : ℕ)
    (empty : (i : ℕ) (s : VarSet) → slice_get sets i ≡ Some s → (s.variables ≡ variables) × ((n : ℕ) → n < variables → has s n ≡ false)) where
  pub empty_at : (i n : ℕ) → has_in (slice_get sets i) n ≡ true → ⊥
  empty_at i n e =
      let r = some_at sets i (has_within sets i n e) in
      let f = empty i r.0 r.1 in
      let has_it : has r.0 n ≡ true = sym (ap (λ o. has_in o n) r.1) ∙ e in
      let small = ltb-true n r.0.variables (and_parts (nat_lt n r.0.variables) (has_bit r.0.words.items n) has_it).0 in
      let same = f.0 in
      false≢true (sym (f.1 n (omega arith)) ∙ has_it)

pub liveness_closed : (flow : Flow) (live : Live) → Holds flow live → ((i : ℕ) → i < length flow.summaries → IsClosedAt flow live i) → IsLiveness flow live
liveness_closed flow live h closed = record {
  count = h.count;
  sized = h.sized;
  all = λ s n l b. behind_complete flow live h.count h.kept closed s n b l;
  only = λ s n e. (behind_sound flow live s n h e).1;
}

-- ---- one node again

some_same : {A : Type 0} (x y : A) → Some x ≡ Some y → x ≡ y
some_same x y e = (cc)

pub same_entered : (s : Summary) (f g : ℕ → Bool) (n : ℕ) → ((m : ℕ) → f m ≡ g m) → is_entered s f n ≡ is_entered s g n
same_entered s f g n same =
    ap (λ b. ((b && not (is_set s.outs n)) || list_any (goes_by f n) s.outs) || is_among n s.reads) (same n)
    ∙ ap (λ b. ((g n && not (is_set s.outs n)) || b) || is_among n s.reads)
    (any_same (goes_by f n) (goes_by g n) s.outs (λ out. ap (λ b. b && is_among n (spec.out_reads out)) (same out.variable.0)))

pub set_sound : (flow : Flow) (live : Live) (s : Summary) (behind new : VarSet) → Holds flow live → ((m : ℕ) → has behind m ≡ is_behind live s m) →
    new.variables ≡ live.variables → ((n : ℕ) → n < live.variables → has new n ≡ is_entered s (has behind) n) → (n : ℕ) → has new n ≡ true → IsLive flow s n
set_sound flow live s behind new h same count members n e =
    let small = ltb-true n new.variables (and_parts (nat_lt n new.variables) (has_bit new.words.items n) e).0 in
    step_sound flow s (has behind) n (λ m t. behind_sound flow live s m h (sym (same m) ∙ t)) (sym (members n (omega arith)) ∙ e)

pub updated_holds : (flow : Flow) (live after : Live) (k : ℕ) (new : VarSet) (s : Summary) → Holds flow live → after.variables ≡ live.variables → after.kept ≡ live.kept →
    after.entered.items ≡ set live.entered.items k new → new.variables ≡ live.variables → slice_get flow.summaries k ≡ Some s → ((n : ℕ) → has new n ≡ true → IsLive flow s n) → Holds flow after
updated_holds flow live after k new s h variables kept entered count at sound = record {
  count = variables ∙ h.count;
  sized = (
    ap (λ v. v.variables) kept ∙ h.sized.0 ∙ sym variables,
    λ i x g.
        elim (set_found live.entered.items k new i x (sym (ap (λ xs. slice_get xs i) entered) ∙ g)) [
          | inl both ↦ ap (λ v. v.variables) both.1 ∙ count ∙ sym variables
          | inr found ↦ h.sized.1 i x found ∙ sym variables
        ],
  );
  long = ap (λ xs. length xs) entered ∙ length-set live.entered.items k new ∙ h.long;
  kept = λ n l. ap (λ v. has v n) kept ∙ h.kept n l;
  sound = λ i n summary g e.
      let r = some_at after.entered.items i (has_within after.entered.items i n e) in
      let has_it : has r.0 n ≡ true = sym (ap (λ o. has_in o n) r.1) ∙ e in
      elim (set_found live.entered.items k new i r.0 (sym (ap (λ xs. slice_get xs i) entered) ∙ r.1)) [
        | inl both ↦
            let same : s ≡ summary = some_same s summary (sym at ∙ sym (ap (λ j. slice_get flow.summaries j) both.0) ∙ g) in
            subst (λ x. IsLive flow x n) same (sound n (sym (ap (λ v. has v n) both.1) ∙ has_it))
        | inr found ↦ h.sound i n summary g (ap (λ o. has_in o n) found ∙ has_it)
      ];
}

-- a set gains those that are live as the node is entered
pub gained_sound : (flow : Flow) (live : Live) (s : Summary) (k : ℕ) (old behind new after : VarSet) → Holds flow live → slice_get flow.summaries k ≡ Some s → slice_get live.entered.items k ≡ Some old →
    ((m : ℕ) → has behind m ≡ is_behind live s m) → new.variables ≡ live.variables → ((n : ℕ) → n < live.variables → has new n ≡ is_entered s (has behind) n) → Gains old after (has new) → (n : ℕ) → has after n ≡ true → IsLive flow s n
gained_sound flow live s k old behind new after h at found same count members gains n e =
    let small = ltb-true n after.variables (and_parts (nat_lt n after.variables) (has_bit after.words.items n) e).0 in
    let within_old : n < old.variables = (let c = gains.count in omega arith) in
    elim (or_cases (has old n) (has new n) (sym (gains.members n within_old) ∙ e)) [
      | inl had ↦ h.sound k n s at (ap (λ o. has_in o n) found ∙ had)
      | inr has_it ↦ set_sound flow live s behind new h same count members n has_it
    ]

-- ---- the same members

pub same_turned : (a b : Live) → HasSame a b → HasSame b a
same_turned a b s = record { variables = sym s.variables; entered = sym s.entered; kept = sym s.kept }

pub same_twice : (a b c : Live) → HasSame a b → HasSame b c → HasSame a c
same_twice a b c s t = record { variables = s.variables ∙ t.variables; entered = s.entered ∙ t.entered; kept = s.kept ∙ t.kept }

pub same_not_live : (a b : Live) → HasSame a b → not_live a ≡ not_live b
same_not_live a b s = ap free_in s.entered

-- Sets with the same members are closed where the others are.
pub closed_same : (flow : Flow) (live other : Live) (i : ℕ) → HasSame live other → IsClosedAt flow other i → IsClosedAt flow live i
closed_same flow live other i same closed summary n at l e =
    ap (λ xs. has_in (slice_get xs i) n) same.entered
    ∙ closed summary n at l (sym (same_entered summary (is_behind live summary) (is_behind other summary) n behind) ∙ e)
  where
    behind : (m : ℕ) → is_behind live summary m ≡ is_behind other summary m
    behind m =
        ap (λ v. nat_lt m v && (list_any (λ (next : NodeId). entered_at live next.0 m) summary.next || (summary.returns && has live.kept m))) same.variables
        ∙ ap (λ xs. nat_lt m other.variables && (list_any (λ (next : NodeId). has_in (slice_get xs next.0) m) summary.next || (summary.returns && has live.kept m))) same.entered
        ∙ ap (λ v. nat_lt m other.variables && (list_any (λ (next : NodeId). entered_at other next.0 m) summary.next || (summary.returns && has v m))) same.kept
