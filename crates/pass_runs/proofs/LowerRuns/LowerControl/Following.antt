-- One run follows another one part by part.
use Rattle.std.proofs.Common.{◌≡◌, ◌∙◌, ℕ, zero, suc, ◌+◌, ◌-◌, ◌<◌, sym, refl, ap, subst, inl, inr, arith, List, [], ◌∷◌, ◌++◌, append_assoc, length, length-append, Bool, true, false, filter, if◌then◌else◌}
use Rattle.std.proofs.lemmas.Bool.{cases_lt}
use Rattle.std.proofs.lemmas.List.{append-nil}
use Rattle.hls_base.specs.declared.point.Point.{Point}
use Rattle.hls_base.specs.Steps.{Outcome, went, undefined, waiting, Ran, ran, goes, fails, waits, after, then_, reached}
use Rattle.pass_runs.specs.LowerRuns.Following.{beyond, Comes, Follows}

pub filter_more : {X : Type 0} (p : X → Bool) (xs ys : List X) → filter p (xs ++ ys) ≡ filter p xs ++ filter p ys
filter_more p [] ys = refl
filter_more p (x ∷ xs) ys = by (p x) (filter_more p xs ys) where
  by : (b : Bool) → filter p (xs ++ ys) ≡ filter p xs ++ filter p ys → (if b then x ∷ filter p (xs ++ ys) else filter p (xs ++ ys)) ≡ (if b then x ∷ filter p xs else filter p xs) ++ filter p ys
  by true h = ap (λ l. x ∷ l) h
  by false h = h

pub filter_keeps : (kept : Point → Bool) (p : Point) (ps : List Point) → kept p ≡ true → filter kept (p ∷ ps) ≡ p ∷ filter kept ps
filter_keeps kept p ps e = ap (λ b. if b then p ∷ filter kept ps else filter kept ps) e

pub filter_drops : (kept : Point → Bool) (p : Point) (ps : List Point) → kept p ≡ false → filter kept (p ∷ ps) ≡ filter kept ps
filter_drops kept p ps e = ap (λ b. if b then p ∷ filter kept ps else filter kept ps) e

-- ---- parts one after another

pub then_assoc : {S A B C : Type 0} (r : Ran S A) (f : A → S → ℕ → Ran S B) (g : B → S → ℕ → Ran S C) → then_ (then_ r f) g ≡ then_ r (λ v s n. then_ (f v s n) g)
then_assoc {S} {A} {B} {C} r f g = by r.outcome where
  by : (o : Outcome S A) → ran ((r.trace ++ (after o f).trace) ++ (after (after o f).outcome g).trace) (after (after o f).outcome g).outcome
      ≡ ran (r.trace ++ (after o (λ v s n. then_ (f v s n) g)).trace) (after o (λ v s n. then_ (f v s n) g)).outcome
  by (went v s n) = ap (λ l. ran l (after (f v s n).outcome g).outcome) (append_assoc r.trace (f v s n).trace (after (f v s n).outcome g).trace)
  by (undefined rule at) = ap (λ l. ran l (undefined rule at)) (append_assoc r.trace [] [])
  by waiting = ap (λ l. ran l waiting) (append_assoc r.trace [] [])

pub beyond_then : {S A B : Type 0} (trace : List Point) (r : Ran S A) (next : A → S → ℕ → Ran S B) → then_ (beyond trace r) next ≡ beyond trace (then_ r next)
beyond_then trace r next = ap (λ l. ran l (after r.outcome next).outcome) (append_assoc trace r.trace (after r.outcome next).trace)

-- ---- how far a run comes

pub comes_here : {T B : Type 0} (r : ℕ → Ran T B) → Comes r [] r
comes_here r = record {
  along = λ k. ap r (let e : 0 + k ≡ k = omega arith in e);
  short = λ k lt. absurd (omega (arith, lt));
}

pub comes_then : {T B : Type 0} (r q p : ℕ → Ran T B) (trace more : List Point) → Comes r trace q → Comes q more p → Comes r (trace ++ more) p
comes_then r q p trace more h g = record {
  along = λ k.
      (ap r (let l = length-append trace more in let e : length (trace ++ more) + k ≡ length trace + (length more + k) = omega (arith, l) in e)
      ∙ h.along (length more + k) ∙ ap (beyond trace) (g.along k)
      ∙ ap (λ l. ran l (p k).outcome) (sym (append_assoc trace more (p k).trace)));
  short = λ k lt.
      elim (cases_lt k (length trace)) [
        | inl before ↦ h.short k before
        | inr le ↦
            let l = length-append trace more in
            let j = k - length trace in
            let e : length trace + j ≡ k = omega (arith, le) in
            ap (λ i. (r i).outcome) (sym e) ∙ ap (λ (x : Ran _ _). x.outcome) (h.along j) ∙ g.short j (omega (arith, l, lt, le))
      ];
}

pub comes_next : {T B C : Type 0} (r q : ℕ → Ran T B) (trace : List Point) (next : B → T → ℕ → Ran T C) → Comes r trace q → Comes (λ k. then_ (r k) next) trace (λ k. then_ (q k) next)
comes_next r q trace next h = record {
  along = λ k. (ap (λ x. then_ x next) (h.along k) ∙ beyond_then trace (q k) next);
  short = λ k lt. ap (λ o. (after o next).outcome) (h.short k lt);
}

-- a point, and then a run
pub record Passes {T B : Type 0} (p : Point) (r q : ℕ → Ran T B) : Type 0 where
  pub none : (r 0).outcome ≡ waiting
  pub one : (k : ℕ) → r (suc k) ≡ beyond (p ∷ []) (q k)

pub comes_by : {T B : Type 0} (p : Point) (r q s : ℕ → Ran T B) (trace : List Point) → Passes p r q → Comes q trace s → Comes r (p ∷ trace) s
comes_by p r q s trace h g = record {
  along = λ k.
      (ap r (let e : length (p ∷ trace) + k ≡ suc (length trace + k) = omega arith in e)
      ∙ h.one (length trace + k) ∙ ap (beyond (p ∷ [])) (g.along k));
  short = λ k lt. at k lt;
} where
  at : (k : ℕ) → k < length (p ∷ trace) → (r k).outcome ≡ waiting
  at zero lt = h.none
  at (suc k) lt = ap (λ (x : Ran _ _). x.outcome) (h.one k) ∙ g.short k (omega (arith, lt))

-- ---- what follows what

module _ {T B : Type 0} (kept : Point → Bool) where
  abbrev pub Follow : {S A : Type 0} → (A → S → (ℕ → Ran T B) → Type 0) → Ran S A → (ℕ → Ran T B) → Type 0
  Follow known r g = Follows kept known r.trace r.outcome g

  pub follows_goes : {S A : Type 0} (known : A → S → (ℕ → Ran T B) → Type 0) (v : A) (s : S) (n : ℕ) (g : ℕ → Ran T B) → known v s g → Follow known (goes v s n) g
  follows_goes known v s n g h = (g, comes_here g, h)

  pub follows_fails : {S A : Type 0} (known : A → S → (ℕ → Ran T B) → Type 0) (rule : _) (at : _) (g : ℕ → Ran T B) → Follow {S = S} known (fails rule at) g
  follows_fails known rule at g = (g, comes_here g, tt)

  pub follows_waits : {S A : Type 0} (known : A → S → (ℕ → Ran T B) → Type 0) (g : ℕ → Ran T B) → Follow {S = S} known waits g
  follows_waits known g = (g, comes_here g, tt)

  pub follows_then : {S A C : Type 0} (known : A → S → (ℕ → Ran T B) → Type 0) (known' : C → S → (ℕ → Ran T B) → Type 0) (trace : List Point) (o : Outcome S A) (next : A → S → ℕ → Ran S C) (g : ℕ → Ran T B)
      → Follows kept known trace o g → ((v : A) (s : S) (n : ℕ) (q : ℕ → Ran T B) → known v s q → Follow known' (next v s n) q)
      → Follow known' (then_ (ran trace o) next) g
  follows_then known known' trace (went v s n) next g h f =
      let x = f v s n h.0 h.2 in
      (x.0, subst (λ l. Comes g l x.0) (sym (filter_more kept trace (next v s n).trace)) (comes_then g h.0 x.0 (filter kept trace) (filter kept (next v s n).trace) h.1 x.1), x.2)
  follows_then known known' trace (undefined rule at) next g h f = (h.0, subst (λ l. Comes g (filter kept l) h.0) (sym (append-nil trace)) h.1, tt)
  follows_then known known' trace waiting next g h f = (h.0, subst (λ l. Comes g (filter kept l) h.0) (sym (append-nil trace)) h.1, tt)

  pub follows_weaker : {S A : Type 0} (known known' : A → S → (ℕ → Ran T B) → Type 0) (trace : List Point) (o : Outcome S A) (g : ℕ → Ran T B) → ((v : A) (s : S) (q : ℕ → Ran T B) → known v s q → known' v s q)
      → Follows kept known trace o g → Follows kept known' trace o g
  follows_weaker known known' trace (went v s n) g f h = (h.0, h.1, f v s h.0 h.2)
  follows_weaker known known' trace (undefined rule at) g f h = (h.0, h.1, tt)
  follows_weaker known known' trace waiting g f h = (h.0, h.1, tt)

  -- the same run in other words
  pub follows_same : {S A : Type 0} (known : A → S → (ℕ → Ran T B) → Type 0) (r : Ran S A) (g q : ℕ → Ran T B) → ((k : ℕ) → g k ≡ q k) → Follow known r q → Follow known r g
  follows_same known r g q e h = subst (λ x. Follow known r x) (λ i k. sym (e k) i) h

  pub follows_behind_kept : {S A : Type 0} (known : A → S → (ℕ → Ran T B) → Type 0) (p : Point) (trace : List Point) (o : Outcome S A) (g q : ℕ → Ran T B) → kept p ≡ true → Passes p g q
      → Follows kept known trace o q → Follows kept known (p ∷ trace) o g
  follows_behind_kept known p trace o g q e h f = (f.0, subst (λ l. Comes g l f.0) (sym (filter_keeps kept p trace e)) (comes_by p g q f.0 (filter kept trace) h f.1), f.2)

  pub follows_behind_dropped : {S A : Type 0} (known : A → S → (ℕ → Ran T B) → Type 0) (p : Point) (trace : List Point) (o : Outcome S A) (g : ℕ → Ran T B) → kept p ≡ false
      → Follows kept known trace o g → Follows kept known (p ∷ trace) o g
  follows_behind_dropped known p trace o g e f = (f.0, subst (λ l. Comes g l f.0) (sym (filter_drops kept p trace e)) f.1, f.2)

  -- a point that both pass
  pub follows_kept : {S A : Type 0} (known : A → S → (ℕ → Ran T B) → Type 0) (p : Point) (part : S → ℕ → Ran S A) (s : S) (n : ℕ) (g q : ℕ → Ran T B) → kept p ≡ true → Passes p g q
      → ((m : ℕ) → Follow known (part s m) q) → Follow known (reached p part s n) g
  follows_kept known p part s zero g q e h f = follows_waits known g
  follows_kept known p part s (suc n) g q e h f = follows_behind_kept known p (part s n).trace (part s n).outcome g q e h (f n)

  pub follows_dropped : {S A : Type 0} (known : A → S → (ℕ → Ran T B) → Type 0) (p : Point) (part : S → ℕ → Ran S A) (s : S) (n : ℕ) (g : ℕ → Ran T B) → kept p ≡ false
      → ((m : ℕ) → Follow known (part s m) g) → Follow known (reached p part s n) g
  follows_dropped known p part s zero g e f = follows_waits known g
  follows_dropped known p part s (suc n) g e f = follows_behind_dropped known p (part s n).trace (part s n).outcome g e (f n)

-- what comes behind the run that follows
pub follows_next : {S T A B C : Type 0} (kept : Point → Bool) (known : A → S → (ℕ → Ran T B) → Type 0) (known' : A → S → (ℕ → Ran T C) → Type 0) (trace : List Point) (o : Outcome S A) (g : ℕ → Ran T B) (next : B → T → ℕ → Ran T C)
    → Follows kept known trace o g → ((v : A) (s : S) (q : ℕ → Ran T B) → known v s q → known' v s (λ k. then_ (q k) next)) → Follows kept known' trace o (λ k. then_ (g k) next)
follows_next kept known known' trace (went v s n) g next h f = ((λ k. then_ (h.0 k) next), comes_next g h.0 (filter kept trace) next h.1, f v s h.0 h.2)
follows_next kept known known' trace (undefined rule at) g next h f = ((λ k. then_ (h.0 k) next), comes_next g h.0 (filter kept trace) next h.1, tt)
follows_next kept known known' trace waiting g next h f = ((λ k. then_ (h.0 k) next), comes_next g h.0 (filter kept trace) next h.1, tt)

-- both runs go on, each in its own way
pub follows_both : {S T A B C D : Type 0} (kept : Point → Bool) (known : A → S → (ℕ → Ran T B) → Type 0) (known' : C → S → (ℕ → Ran T D) → Type 0) (trace : List Point) (o : Outcome S A) (next : A → S → ℕ → Ran S C)
    (g : ℕ → Ran T B) (following : B → T → ℕ → Ran T D) → Follows kept known trace o g
    → ((v : A) (s : S) (n : ℕ) (q : ℕ → Ran T B) → known v s q → Follow kept known' (next v s n) (λ k. then_ (q k) following))
    → Follow kept known' (then_ (ran trace o) next) (λ k. then_ (g k) following)
follows_both kept known known' trace (went v s n) next g following h f =
    let x = f v s n h.0 h.2 in (
      x.0,
      subst (λ l. Comes (λ k. then_ (g k) following) l x.0) (sym (filter_more kept trace (next v s n).trace))
          (comes_then (λ k. then_ (g k) following) (λ k. then_ (h.0 k) following) x.0 (filter kept trace) (filter kept (next v s n).trace) (comes_next g h.0 (filter kept trace) following h.1) x.1),
      x.2,
    )
follows_both kept known known' trace (undefined rule at) next g following h f =
    ((λ k. then_ (h.0 k) following), subst (λ l. Comes (λ k. then_ (g k) following) (filter kept l) (λ k. then_ (h.0 k) following)) (sym (append-nil trace)) (comes_next g h.0 (filter kept trace) following h.1), tt)
follows_both kept known known' trace waiting next g following h f =
    ((λ k. then_ (h.0 k) following), subst (λ l. Comes (λ k. then_ (g k) following) (filter kept l) (λ k. then_ (h.0 k) following)) (sym (append-nil trace)) (comes_next g h.0 (filter kept trace) following h.1), tt)
