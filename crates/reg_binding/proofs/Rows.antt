-- The rows that tell the registers of nodes.
use Rattle.std.proofs.Common.{◌≡◌, ℕ, zero, suc, ◌+◌, ◌<◌, ◌≤◌, Bool, List, [], ◌∷◌, ◌++◌, length, map, filter, drop, slice_index, Option, Some, inl, inr, refl, sym, ap, subst, ◌∙◌, eq-eqb, arith}
use Rattle.std.specs.Prelude.{slice_get}
use Rattle.std.specs.List.{zip}
use Rattle.std.specs.List.Sorted.{IsPermutation}
use Rattle.std.proofs.lemmas.Bool.{cases_eq, cases_lt, ne_eqb}
use Rattle.std.proofs.lemmas.List.{append-nil}
use Rattle.std.proofs.lemmas.List.Elements.{filter-append}
use Rattle.std.proofs.lemmas.Option.{slice_get_within}
use Rattle.ir_core.specs.declared.timed.Timed.{Timed}
use Rattle.ir_core.specs.declared.cfg.Node.{Node}
use Rattle.reg_binding.specs.declared.life.Life.{Life}
use Rattle.reg_binding.specs.declared.registers.Held.{Held}
use Rattle.reg_binding.specs.declared.registers.Registers.{Registers}
use Rattle.reg_binding.specs.Lives.{node_lives, node_period}
use Rattle.reg_binding.specs.Sharing.{life_at, IsShared}
use Rattle.reg_binding.specs.Assigned.{row, is_of, IsUsed, AreRows, AddsRows, IsAssigned}
use Rattle.reg_binding.proofs.Sharing.{IsShared-grown}

-- ---- one row more

pub rows_more : (i : ℕ) (lives : List Life) (choices : List ℕ) (n : ℕ) → n < length lives → length choices ≡ length lives →
    map (row i) (zip (drop n lives) (drop n choices)) ≡ row i (life_at lives n, slice_index choices n) ∷ map (row i) (zip (drop (n + 1) lives) (drop (n + 1) choices))
rows_more i [] rs n lt e = absurd (omega arith)
rows_more i (x ∷ xs) [] n lt e = absurd (omega arith)
rows_more i (x ∷ xs) (r ∷ rs) zero lt e = refl
rows_more i (x ∷ xs) (r ∷ rs) (suc n) lt e = (let next : suc n + 1 ≡ suc (n + 1) = omega arith in rw next (rows_more i xs rs n (omega arith) (omega arith)))

pub row_at : (i : ℕ) (lives : List Life) (choices : List ℕ) (n : ℕ) → n < length lives → length choices ≡ length lives →
    slice_get (map (row i) (zip lives choices)) n ≡ Some (row i (life_at lives n, slice_index choices n))
row_at i [] rs n lt e = absurd (omega arith)
row_at i (x ∷ xs) [] n lt e = absurd (omega arith)
row_at i (x ∷ xs) (r ∷ rs) zero lt e = refl
row_at i (x ∷ xs) (r ∷ rs) (suc n) lt e = row_at i xs rs n (omega arith) (omega arith)

-- ---- the rows of a node among others

of_node : (i : ℕ) (xs : List (Life × ℕ)) (k : ℕ) (told : Held) → slice_get (map (row i) xs) k ≡ Some told → told.node.0 ≡ i
of_node i [] k told e = absurd (omega (arith, slice_get_within [] k told e))
of_node i (x ∷ xs) zero told e = (let is : row i x ≡ told = cc in sym (ap (λ (h : Held). h.node.0) is))
of_node i (x ∷ xs) (suc k) told e = of_node i xs k told e

all_of : (i : ℕ) (xs : List (Life × ℕ)) → filter (is_of i) (map (row i) xs) ≡ map (row i) xs
all_of i [] = refl
all_of i (x ∷ xs) = rw (eq-eqb i i refl) (ap (λ (rows : List Held). row i x ∷ rows) (all_of i xs))

none_of : (i n : ℕ) (xs : List (Life × ℕ)) → (n ≡ i → ⊥) → filter (is_of i) (map (row n) xs) ≡ []
none_of i n [] ne = refl
none_of i n (x ∷ xs) ne = rw (ne_eqb n i ne) (none_of i n xs ne)

none_yet : (i n : ℕ) (held : List Held) → ((k : ℕ) (told : Held) → slice_get held k ≡ Some told → told.node.0 < n) → n ≤ i → filter (is_of i) held ≡ []
none_yet i n [] within le = refl
none_yet i n (h ∷ hs) within le =
    let lt : h.node.0 < n = within 0 h refl in
    rw (ne_eqb h.node.0 i (λ e. omega (arith, e))) (none_yet i n hs (λ k. within (suc k)) le)

each_of : (P : Held → Type 0) (xs ys : List Held) → ((k : ℕ) (told : Held) → slice_get xs k ≡ Some told → P told) → ((k : ℕ) (told : Held) → slice_get ys k ≡ Some told → P told)
    → (k : ℕ) (told : Held) → slice_get (xs ++ ys) k ≡ Some told → P told
each_of P [] ys a b k told e = b k told e
each_of P (x ∷ xs) ys a b zero told e = a zero told e
each_of P (x ∷ xs) ys a b (suc k) told e = each_of P xs ys (λ m. a (suc m)) b k told e

-- ---- registers that hold some value

used_before : (xs ys : List Held) (r k : ℕ) (told : Held) → slice_get xs k ≡ Some told → told.register ≡ r → IsUsed (xs ++ ys) r
used_before [] ys r k told e is = absurd (omega (arith, slice_get_within [] k told e))
used_before (x ∷ xs) ys r zero told e is = (zero, told, e, is)
used_before (x ∷ xs) ys r (suc k) told e is = (let found = used_before xs ys r k told e is in (suc found.0, found.1, found.2, found.3))

used_behind : (xs ys : List Held) (r : ℕ) → IsUsed ys r → IsUsed (xs ++ ys) r
used_behind [] ys r used = used
used_behind (x ∷ xs) ys r used = (let found = used_behind xs ys r used in (suc found.0, found.1, found.2, found.3))

-- ---- one node more

AreRows-grown : (i : ℕ) (lives : List Life) (period : Option ℕ) (widths more : List ℕ) (rows : List Held) → AreRows i lives period widths rows
    → AreRows i lives period (widths ++ more) rows
AreRows-grown i lives period widths more rows a =
    record { order = a.order; choices = a.choices; same = a.same; shared = IsShared-grown period a.order (length a.order) widths a.choices more a.shared; rows_ = a.rows_ }

pub IsAssigned-none : (behind : Node Timed → ℕ → Bool) (nodes : List (Node Timed)) (registers : Registers) → registers.widths.items ≡ [] → registers.held.items ≡ []
    → IsAssigned behind nodes 0 registers
IsAssigned-none behind nodes registers no_widths no_rows = record {
  rows = λ i node lt. absurd (omega arith);
  within = λ k told e. (let none : slice_get [] k ≡ Some told = rw no_rows at e in absurd (omega (arith, slice_get_within [] k told none)));
  used = λ r lt. (let none : r < 0 = rw no_widths at lt in absurd (omega (arith, none)));
}

pub adds_rows : (i : ℕ) (all : List Life) (period : Option ℕ) (lives : List Life) (choices : List ℕ) (before after : Registers)
    → IsPermutation all lives → IsShared period lives (length lives) after.widths.items choices
    → (more : List ℕ) × (after.widths.items ≡ before.widths.items ++ more)
    → ((r : ℕ) → length before.widths.items ≤ r → r < length after.widths.items → (k : ℕ) × (k < length lives) × (slice_index choices k ≡ r))
    → after.held.items ≡ before.held.items ++ map (row i) (zip lives choices) → AddsRows i all period before after
adds_rows i all period lives choices before after same shared grown used held = record {
  more = grown.0;
  told = map (row i) (zip lives choices);
  widths = grown.1;
  held = held;
  rows = record { order = lives; choices = choices; same = same; shared = shared; rows_ = refl };
  used = λ r low lt. (let found = used r low lt in (found.0, row i (life_at lives found.0, slice_index choices found.0), row_at i lives choices found.0 found.1 shared.count, found.2));
}

module _ (behind : Node Timed → ℕ → Bool) (nodes : List (Node Timed)) (n : ℕ) (node : Node Timed) (before after : Registers)
    (a : IsAssigned behind nodes n before) (is : slice_get nodes n ≡ Some node)
    (adds : AddsRows n (node_lives (behind node) node) (node_period node) before after) where
  abbrev told_rows : List (Life × ℕ)
  told_rows = zip adds.rows.order adds.rows.choices

  told_is : adds.told ≡ map (row n) told_rows
  told_is = adds.rows.rows_

  among : (i : ℕ) → filter (is_of i) after.held.items ≡ filter (is_of i) before.held.items ++ filter (is_of i) adds.told
  among i = ap (filter (is_of i)) adds.held ∙ filter-append (is_of i) before.held.items adds.told

  old_rows : (i : ℕ) → i < n → filter (is_of i) after.held.items ≡ filter (is_of i) before.held.items
  old_rows i lt =
      let none : filter (is_of i) adds.told ≡ [] = ap (filter (is_of i)) told_is ∙ none_of i n told_rows (λ e. omega (arith, e)) in
      among i ∙ ap (λ (xs : List Held). filter (is_of i) before.held.items ++ xs) none ∙ append-nil (filter (is_of i) before.held.items)

  new_rows : filter (is_of n) after.held.items ≡ adds.told
  new_rows =
      let none : filter (is_of n) before.held.items ≡ [] = none_yet n n before.held.items a.within (omega arith) in
      let all : filter (is_of n) adds.told ≡ adds.told = ap (filter (is_of n)) told_is ∙ all_of n told_rows ∙ sym told_is in
      among n ∙ ap (λ (xs : List Held). xs ++ filter (is_of n) adds.told) none ∙ all

  rows_of : (i : ℕ) (x : Node Timed) → i < n + 1 → slice_get nodes i ≡ Some x → AreRows i (node_lives (behind x) x) (node_period x) after.widths.items (filter (is_of i) after.held.items)
  rows_of i x lt e = elim (cases_eq i n) [
    | inl same ↦
        let there : slice_get nodes n ≡ Some x = subst (λ (k : ℕ). slice_get nodes k ≡ Some x) same e in
        let node_is : node ≡ x = cc in
        let at_n : AreRows n (node_lives (behind x) x) (node_period x) after.widths.items adds.told =
        subst (λ (y : Node Timed). AreRows n (node_lives (behind y) y) (node_period y) after.widths.items adds.told) node_is adds.rows in
        subst (λ (k : ℕ). AreRows k (node_lives (behind x) x) (node_period x) after.widths.items (filter (is_of k) after.held.items)) (sym same)
        (subst (λ (rows : List Held). AreRows n (node_lives (behind x) x) (node_period x) after.widths.items rows) (sym new_rows) at_n)
    | inr ne ↦
        let earlier : i < n = omega arith in
        let old : AreRows i (node_lives (behind x) x) (node_period x) (before.widths.items ++ adds.more) (filter (is_of i) before.held.items) =
        AreRows-grown i (node_lives (behind x) x) (node_period x) before.widths.items adds.more (filter (is_of i) before.held.items) (a.rows i x earlier e) in
        subst (λ (rows : List Held). AreRows i (node_lives (behind x) x) (node_period x) after.widths.items rows) (sym (old_rows i earlier))
        (subst (λ (widths : List ℕ). AreRows i (node_lives (behind x) x) (node_period x) widths (filter (is_of i) before.held.items)) (sym adds.widths) old)
  ]

  within_told : (k : ℕ) (told : Held) → slice_get adds.told k ≡ Some told → told.node.0 < n + 1
  within_told k told e = (let at : told.node.0 ≡ n = of_node n told_rows k told (ap (λ (rows : List Held). slice_get rows k) (sym told_is) ∙ e) in omega (arith, at))

  within_all : (k : ℕ) (told : Held) → slice_get after.held.items k ≡ Some told → told.node.0 < n + 1
  within_all k told e =
      each_of (λ (h : Held). h.node.0 < n + 1) before.held.items adds.told (λ m h f. omega (arith, a.within m h f)) within_told k told
      (ap (λ (rows : List Held). slice_get rows k) (sym adds.held) ∙ e)

  used_all : (r : ℕ) → r < length after.widths.items → IsUsed after.held.items r
  used_all r lt = subst (λ (rows : List Held). IsUsed rows r) (sym adds.held) (elim (cases_lt r (length before.widths.items)) [
    | inl old ↦ (let found = a.used r old in used_before before.held.items adds.told r found.0 found.1 found.2 found.3)
    | inr new ↦ used_behind before.held.items adds.told r (adds.used r new lt)
  ])

  pub IsAssigned-more : IsAssigned behind nodes (n + 1) after
  IsAssigned-more = record { rows = rows_of; within = within_all; used = used_all }
