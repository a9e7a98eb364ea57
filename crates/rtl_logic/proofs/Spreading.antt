-- Marks spread from what is marked to all that it reads.
use Rattle.std.proofs.Common.{◌≡◌, ◌<◌, ◌≤◌, ◌⊎◌, inl, inr, ◌+◌, ℕ, zero, suc, Bool, true, ltb, false, List, [], ◌∷◌, ◌++◌, set, take, length, get_or, Some, refl, sym, ap, ◌∙◌, subst, length-append, length-set, replicate, arith}
use Rattle.std.specs.Prelude.{slice_get, slice_index_or, not, Result, Ok, Err, OnOk}
use Rattle.std.specs.List.{All, Contains}
use Rattle.std.proofs.lemmas.Bool.{false≢true, true≢false, cases_Bool, ltb-true, ltb-false}
use Rattle.std.proofs.lemmas.Option.{slice_get_within, get_or_from_slice_get}
use Rattle.std.proofs.lemmas.List.Elements.{All-weaker, All-more, All-map, Contains-append_left, Contains-push, Contains-push_cases}
use Rattle.std.proofs.Math.Nat.{eq-or-lt_of_le}
use Rattle.std.proofs.lemmas.List.{get_or-replicate, length-replicate, get_or_past}
use Rattle.rtl_core.specs.declared.design.Atom.{Atom}
use Rattle.rtl_core.specs.declared.design.Atom.TheVariants as atom
use Rattle.rtl_core.specs.declared.design.Net.{Net}
use Rattle.rtl_core.specs.declared.design.Net.TheVariants as net
use Rattle.rtl_core.specs.declared.design.Wire.{Wire}
use Rattle.rtl_core.specs.declared.design.Reg.{Reg}
use Rattle.rtl_core.specs.declared.design.Port.{Port}
use Rattle.rtl_core.specs.declared.design.OutPin.{OutPin}
use Rattle.rtl_core.specs.declared.design.Mem.{Mem}
use Rattle.rtl_core.specs.declared.design.Design.{Design}
use Rattle.rtl_core.specs.Netlist.{Netlist, Memory, memory_of, netlist_of}
use Rattle.rtl_logic.specs.Pruning.{Marked, marks_in, is_marked, IsMarked, NetIsMarked, PortIsMarked, is_unit, RootsAreMarked, IsClosed}
use Rattle.rtl_logic.specs.Marking.{Search, with_mark, mark_count, MarksMore, IsIn, StaysIn, Spreads, ReadsMarked, IsUnderWay, IsSpent, Rounds}

-- ---- one mark

pub mark_kept : (bs : List Bool) (k : ℕ) → slice_index_or bs k true ≡ true → bs ≡ set bs k true
mark_kept [] k h = refl
mark_kept (b ∷ bs) zero h = ap (λ t. t ∷ bs) h
mark_kept (b ∷ bs) (suc k) h = ap (λ l. b ∷ l) (mark_kept bs k h)

set_there : (bs : List Bool) (k : ℕ) → slice_index_or (set bs k true) k true ≡ true
set_there [] k = refl
set_there (b ∷ bs) zero = refl
set_there (b ∷ bs) (suc k) = set_there bs k

set_stays : (bs : List Bool) (k j : ℕ) → slice_index_or bs j true ≡ true → slice_index_or (set bs k true) j true ≡ true
set_stays [] k j h = refl
set_stays (b ∷ bs) zero zero h = refl
set_stays (b ∷ bs) zero (suc j) h = h
set_stays (b ∷ bs) (suc k) zero h = h
set_stays (b ∷ bs) (suc k) (suc j) h = set_stays bs k j h

set_fresh : (bs : List Bool) (k j : ℕ) → slice_index_or (set bs k true) j true ≡ true → (slice_index_or bs j true ≡ true) ⊎ (k ≡ j)
set_fresh [] k j h = inl refl
set_fresh (b ∷ bs) zero zero h = inr refl
set_fresh (b ∷ bs) zero (suc j) h = inl h
set_fresh (b ∷ bs) (suc k) zero h = inl h
set_fresh (b ∷ bs) (suc k) (suc j) h = elim (set_fresh bs k j h) [ inl e ↦ inl e | inr e ↦ inr (ap suc e) ]

set_count : (bs : List Bool) (k : ℕ) → slice_index_or bs k true ≡ false → marks_in (set bs k true) ≡ marks_in bs + 1
set_count [] k h = absurd (true≢false h)
set_count (b ∷ bs) zero h = ap (λ t. marks_in (true ∷ bs)) h ∙ (first (marks_in bs) ∙ ap (λ t. marks_in (t ∷ bs) + 1) (sym h))
  where
    first : (n : ℕ) → suc n ≡ n + 1
    first n = omega arith
set_count (true ∷ bs) (suc k) h = let rest = set_count bs k h in omega (arith, rest)
set_count (false ∷ bs) (suc k) h = set_count bs k h

marks_most : (bs : List Bool) → marks_in bs ≤ length bs
marks_most [] = omega arith
marks_most (true ∷ bs) = let rest = marks_most bs in omega (arith, rest)
marks_most (false ∷ bs) = let rest = marks_most bs in omega (arith, rest)

-- ---- more marks

more_none : (m : Marked) → MarksMore m m
more_none m = record { regs = refl; wires = refl; stays = λ a h. h }

pub more_both : (l m n : Marked) → MarksMore l m → MarksMore m n → MarksMore l n
more_both l m n x y = record { regs = y.regs ∙ x.regs; wires = y.wires ∙ x.wires; stays = λ a h. y.stays a (x.stays a h) }

pub net_stays : (m n : Marked) → MarksMore m n → (e : Net) → NetIsMarked m e → NetIsMarked n e
net_stays m n x (net.Copy a) h = x.stays a h
net_stays m n x (net.Not a) h = x.stays a h
net_stays m n x (net.Two op a b) h = (x.stays a h.0, x.stays b h.1)
net_stays m n x (net.Pick test a b) h = (x.stays test h.0, x.stays a h.1, x.stays b h.2)
net_stays m n x (net.Join high low) h = (x.stays high h.0, x.stays low h.1)
net_stays m n x (net.Part a high low) h = x.stays a h
net_stays m n x (net.Word mem address) h = x.stays address h

pub port_stays : (m n : Marked) → MarksMore m n → (p : Port) → PortIsMarked m p → PortIsMarked n p
port_stays m n x p h = (x.stays p.addr h.0, x.stays p.enable h.1, x.stays p.value h.2)

pub ports_stay : (m n : Marked) → MarksMore m n → (ps : List Port) → All (PortIsMarked m) ps → All (PortIsMarked n) ps
ports_stay m n x ps h = All-weaker (PortIsMarked m) (PortIsMarked n) (port_stays m n x) ps h

pub reads_stay : (d : Netlist) (m n : Marked) → MarksMore m n → (a : Atom) → ReadsMarked d m a → ReadsMarked d n a
reads_stay d m n x (atom.Constant bits value) h = tt
reads_stay d m n x (atom.Input k) h = tt
reads_stay d m n x (atom.Reg k) h = λ r e. (x.stays r.enable (h r e).0, x.stays r.next (h r e).1)
reads_stay d m n x (atom.Wire k) h = λ w e. net_stays m n x w.net (h w e)

pub roots_stay : (d : Netlist) (m n : Marked) → MarksMore m n → RootsAreMarked d m → RootsAreMarked d n
roots_stay d m n x h = record {
  outputs = All-weaker (λ (o : OutPin). IsMarked m o.from) (λ (o : OutPin). IsMarked n o.from) (λ (o : OutPin) k. x.stays o.from k) d.outputs h.outputs;
  ports = All-weaker (λ (y : Memory). All (PortIsMarked m) y.ports) (λ (y : Memory). All (PortIsMarked n) y.ports) (λ (y : Memory) k. ports_stay m n x y.ports k) d.mems h.ports;
  units = λ k w e u. x.stays (atom.Wire k) (h.units k w e u);
}

-- ---- marks that spread

pub spreads_none : (x : Search) → Spreads x x
spreads_none x = record { more = more_none x.marked; fresh = λ a h. inl h; waits = λ a h. h; once = refl }

pub spreads_both : (x y z : Search) → Spreads x y → Spreads y z → Spreads x z
spreads_both x y z s t = record {
  more = more_both x.marked y.marked z.marked s.more t.more;
  fresh = λ a h. elim (t.fresh a h) [
    | inl k ↦ elim (s.fresh a k) [ inl e ↦ inl e | inr e ↦ inr (t.waits a e) ]
    | inr k ↦ inr k
  ];
  waits = λ a h. t.waits a (s.waits a h);
  once = let a = s.once in let b = t.once in omega (arith, a, b);
}

-- nothing changes where the atom is marked
pub already : (x y : Search) (a : Atom) → is_marked x.marked a ≡ true → y.marked ≡ with_mark x.marked a → y.waiting ≡ x.waiting → y ≡ x
already x y a h m o = λ i. record { marked = ((m ∙ same x.marked a h) i); waiting = o i }
  where
    same : (m : Marked) (a : Atom) → is_marked m a ≡ true → with_mark m a ≡ m
    same m (atom.Constant bits value) h = refl
    same m (atom.Input k) h = refl
    same m (atom.Reg k) h = ap (λ l. record { regs = l; wires = m.wires }) (sym (mark_kept m.regs k h))
    same m (atom.Wire k) h = ap (λ l. record { regs = m.regs; wires = l }) (sym (mark_kept m.wires k h))

marked_there : (m : Marked) (a : Atom) → IsMarked (with_mark m a) a
marked_there m (atom.Constant bits value) = refl
marked_there m (atom.Input k) = refl
marked_there m (atom.Reg k) = set_there m.regs k
marked_there m (atom.Wire k) = set_there m.wires k

marked_more : (m : Marked) (a : Atom) → MarksMore m (with_mark m a)
marked_more m (atom.Constant bits value) = more_none m
marked_more m (atom.Input k) = more_none m
marked_more m (atom.Reg k) = record {
  regs = length-set m.regs k true;
  wires = refl;
  stays = λ a h. stays_reg a h;
}
  where
    stays_reg : (a : Atom) → IsMarked m a → IsMarked (with_mark m (atom.Reg k)) a
    stays_reg (atom.Constant bits value) h = refl
    stays_reg (atom.Input j) h = refl
    stays_reg (atom.Reg j) h = set_stays m.regs k j h
    stays_reg (atom.Wire j) h = h
marked_more m (atom.Wire k) = record {
  regs = refl;
  wires = length-set m.wires k true;
  stays = λ a h. stays_wire a h;
}
  where
    stays_wire : (a : Atom) → IsMarked m a → IsMarked (with_mark m (atom.Wire k)) a
    stays_wire (atom.Constant bits value) h = refl
    stays_wire (atom.Input j) h = refl
    stays_wire (atom.Reg j) h = h
    stays_wire (atom.Wire j) h = set_stays m.wires k j h

marked_fresh : (m : Marked) (a b : Atom) → IsMarked (with_mark m a) b → IsMarked m b ⊎ (a ≡ b)
marked_fresh m (atom.Constant bits value) b h = inl h
marked_fresh m (atom.Input k) b h = inl h
marked_fresh m (atom.Reg k) (atom.Constant bits value) h = inl refl
marked_fresh m (atom.Reg k) (atom.Input j) h = inl refl
marked_fresh m (atom.Reg k) (atom.Reg j) h = elim (set_fresh m.regs k j h) [ inl e ↦ inl e | inr e ↦ inr (ap (λ n. atom.Reg n) e) ]
marked_fresh m (atom.Reg k) (atom.Wire j) h = inl h
marked_fresh m (atom.Wire k) (atom.Constant bits value) h = inl refl
marked_fresh m (atom.Wire k) (atom.Input j) h = inl refl
marked_fresh m (atom.Wire k) (atom.Reg j) h = inl h
marked_fresh m (atom.Wire k) (atom.Wire j) h = elim (set_fresh m.wires k j h) [ inl e ↦ inl e | inr e ↦ inr (ap (λ n. atom.Wire n) e) ]

marked_count : (m : Marked) (a : Atom) → is_marked m a ≡ false → mark_count (with_mark m a) ≡ mark_count m + 1
marked_count m (atom.Constant bits value) h = absurd (true≢false h)
marked_count m (atom.Input k) h = absurd (true≢false h)
marked_count m (atom.Reg k) h = let e = set_count m.regs k h in omega (arith, e)
marked_count m (atom.Wire k) h = let e = set_count m.wires k h in omega (arith, e)

-- the atom is marked, and still to be followed if it was not
pub spreads_fresh : (x : Search) (a : Atom) → is_marked x.marked a ≡ false → Spreads x (record { marked = with_mark x.marked a; waiting = x.waiting ++ a ∷ [] })
spreads_fresh x a h = record {
  more = marked_more x.marked a;
  fresh = λ b k. elim (marked_fresh x.marked a b k) [
    | inl e ↦ inl e
    | inr e ↦ inr (subst (Contains (x.waiting ++ a ∷ [])) e (Contains-push x.waiting a))
  ];
  waits = λ b k. Contains-append_left x.waiting (a ∷ []) b k;
  once = let n = marked_count x.marked a h in let l = length-append x.waiting (a ∷ []) in omega (arith, n, l);
}

pub pushed : (x z : Search) (a : Atom) → is_marked x.marked a ≡ false → z.marked ≡ with_mark x.marked a → z.waiting ≡ x.waiting ++ a ∷ [] → Spreads x z
pushed x z a h m o = subst (Spreads x) (λ i. record { marked = (sym m) i; waiting = (sym o) i }) (spreads_fresh x a h)

pub kept_as_is : (x z : Search) (a : Atom) → is_marked x.marked a ≡ true → z.marked ≡ with_mark x.marked a → z.waiting ≡ x.waiting → Spreads x z
kept_as_is x z a h m o = subst (Spreads x) (sym (already x z a h m o)) (spreads_none x)

pub marked_now : (x z : Search) (a : Atom) → z.marked ≡ with_mark x.marked a → IsMarked z.marked a
marked_now x z a m = subst (λ n. IsMarked n a) (sym m) (marked_there x.marked a)

-- the search stays in marks that mark the atom
pub pushed_in : (x z : Search) (a : Atom) → z.marked ≡ with_mark x.marked a → z.waiting ≡ x.waiting ++ a ∷ [] → (n : Marked) → IsMarked n a → StaysIn n x z
pushed_in x z a m o n h i = record {
  marked = λ b k. elim (marked_fresh x.marked a b (subst (λ q. IsMarked q b) m k)) [ inl e ↦ i.marked b e | inr e ↦ subst (IsMarked n) e h ];
  waiting = λ b k. elim (Contains-push_cases x.waiting a b (subst (λ l. Contains l b) o k)) [ inl e ↦ i.waiting b e | inr e ↦ subst (IsMarked n) e h ];
}

pub same_in : (x z : Search) (a : Atom) → is_marked x.marked a ≡ true → z.marked ≡ with_mark x.marked a → z.waiting ≡ x.waiting → (n : Marked) → StaysIn n x z
same_in x z a h m o n i = subst (IsIn n) (sym (already x z a h m o)) i

-- one more of a list, where the marks of those before stay
pub all_more : {X : Type 0} (P Q : X → Type 0) (xs : List X) (i : ℕ) (d : X) → ((x : X) → P x → Q x) → i < length xs → All P (take i xs) → Q (get_or xs i d) → All Q (take (i + 1) xs)
all_more P Q xs i d turn h all here = All-more Q xs i d h (All-weaker P Q turn (take i xs) all) here

-- ---- rounds

pub rounds_none : (d : Netlist) (x : Search) → Rounds d 0 x x
rounds_none d x = record { more = more_none x.marked; under_way = λ h. h; spent = λ k h. let same : k ≡ k + 0 = omega arith in subst (λ n. IsSpent n x) same h }

pub rounds_both : (d : Netlist) (n k : ℕ) (x y z : Search) → Rounds d n x y → Rounds d k y z → Rounds d (n + k) x z
rounds_both d n k x y z s t = record {
  more = more_both x.marked y.marked z.marked s.more t.more;
  under_way = λ h. t.under_way (s.under_way h);
  spent = λ j h. let far : j + n + k ≡ j + (n + k) = omega arith in subst (λ i. IsSpent i z) far (t.spent (j + n) (s.spent j h));
}

-- marks that spread keep what is under way
pub spreads_under_way : (d : Netlist) (x y : Search) → Spreads x y → IsUnderWay d x → IsUnderWay d y
spreads_under_way d x y s u a h =
    elim (s.fresh a h) [
      | inl k ↦ elim (u a k) [ inl e ↦ inl (s.waits a e) | inr e ↦ inr (reads_stay d x.marked y.marked s.more a e) ]
      | inr k ↦ inl k
    ]

-- one that is still to be followed is followed
pub round : (d : Netlist) (x p y : Search) (a : Atom) → p.marked ≡ x.marked → x.waiting ≡ p.waiting ++ a ∷ [] → Spreads p y → ReadsMarked d y.marked a → Rounds d 1 x y
round d x p y a same popped s reads =
    let more : MarksMore x.marked y.marked = subst (λ m. MarksMore m y.marked) same s.more in
    let count : length x.waiting ≡ length p.waiting + 1 = ap length popped ∙ length-append p.waiting (a ∷ []) in
    let once = s.once in
    let marks : mark_count p.marked ≡ mark_count x.marked = ap mark_count same in
    record {
      more = more;
      under_way = λ u b h. elim (s.fresh b h) [
        | inl k ↦ elim (u b (subst (λ m. IsMarked m b) same k)) [
          | inl e ↦ elim (Contains-push_cases p.waiting a b (subst (λ l. Contains l b) popped e)) [
            | inl w ↦ inl (s.waits b w)
            | inr is ↦ inr (subst (ReadsMarked d y.marked) is reads)
          ]
          | inr e ↦ inr (reads_stay d x.marked y.marked more b e)
        ]
        | inr k ↦ inl k
      ];
      spent = λ k h. omega (arith, h, count, once, marks);
    }

-- nothing is left to be followed
pub round_idle : (d : Netlist) (x y : Search) → y ≡ x → length x.waiting ≡ 0 → Rounds d 1 x y
round_idle d x y same none = subst (Rounds d 1 x) (sym same) (record { more = more_none x.marked; under_way = λ h. h; spent = λ k h. omega (arith, none) })

-- ---- the whole

-- at first nothing is marked
pub none_marked : (bs : List Bool) (n : ℕ) → bs ≡ replicate n false → (k : ℕ) → k < length bs → slice_index_or bs k true ≡ false
none_marked bs n is k h =
    let within : k < n = subst (λ m. k < m) (ap length is ∙ length-replicate n false) h in ap (λ l. slice_index_or l k true) is ∙ get_or-replicate n k false true within

pub none_under_way : (d : Netlist) (m : Marked) (o : List Atom) → length m.regs ≡ length d.regs → length m.wires ≡ length d.wires → ((k : ℕ) → k < length m.regs → slice_index_or m.regs k true ≡ false)
    → ((k : ℕ) → k < length m.wires → slice_index_or m.wires k true ≡ false) → IsUnderWay d (record { marked = m; waiting = o })
none_under_way d m o r w rs ws (atom.Constant bits value) h = inr tt
none_under_way d m o r w rs ws (atom.Input k) h = inr tt
none_under_way d m o r w rs ws (atom.Reg k) h =
    inr (λ q e. let lt = slice_get_within d.regs k q e in absurd (true≢false (sym h ∙ rs k (omega (arith, lt, r)))))
none_under_way d m o r w rs ws (atom.Wire k) h =
    inr (λ q e. let lt = slice_get_within d.wires k q e in absurd (true≢false (sym h ∙ ws k (omega (arith, lt, w)))))

-- after as many rounds as there are registers and wires nothing is left
pub closed : (d : Netlist) (x y z : Search) (n : ℕ) → length x.marked.regs ≡ length d.regs → length x.marked.wires ≡ length d.wires → x.waiting ≡ [] → IsUnderWay d x → Spreads x y → RootsAreMarked d y.marked
    → Rounds d n y z → length d.regs + length d.wires ≤ n → IsClosed d z.marked
closed d x y z n r w none u s roots t most =
    let regs : length z.marked.regs ≡ length d.regs = t.more.regs ∙ (s.more.regs ∙ r) in
    let wires : length z.marked.wires ≡ length d.wires = t.more.wires ∙ (s.more.wires ∙ w) in
    let once = s.once in
    let empty_ : length x.waiting ≡ 0 = ap length none in
    let begun : IsSpent 0 y = omega (arith, once, empty_) in
    let spent = t.spent 0 begun in
    let some_regs = marks_most z.marked.regs in
    let some_wires = marks_most z.marked.wires in
    let left : length z.waiting ≤ 0 = omega (arith, spent, some_regs, some_wires, regs, wires, most) in
    let way : IsUnderWay d z = t.under_way (spreads_under_way d x y s u) in
    let reads : (a : Atom) → IsMarked z.marked a → ReadsMarked d z.marked a =
    λ a h. elim (way a h) [ inl e ↦ absurd (let lt = e.1 in omega (arith, lt, left)) | inr e ↦ e ] in
    record {
      count_regs = regs;
      count_wires = wires;
      roots = roots_stay d y.marked z.marked t.more roots;
      regs = λ k q e h. reads (atom.Reg k) h q e;
      wires = λ k q e h. reads (atom.Wire k) h q e;
    }

pub not_true : (b : Bool) → not b ≡ true → b ≡ false
not_true true h = absurd (false≢true h)
not_true false h = refl

-- two facts of one result
pub both_ok : {X E : Type 0} (r : Result X E) (P Q R : Type 0) → (P → Q → R) → OnOk r P → OnOk r Q → OnOk r R
both_ok (Ok x) P Q R turn p q = turn p q
both_ok (Err e) P Q R turn p q = tt

-- ---- what must stay

abbrev pub no_port : Port
no_port = record { addr = atom.Constant 0 0; enable = atom.Constant 0 0; value = atom.Constant 0 0 }

pub units_more : (m n : Marked) → MarksMore m n → (wires : List Wire) (k : ℕ) (d : Wire) → k < length wires
    → ((j : ℕ) (w : Wire) → j < k → slice_get wires j ≡ Some w → is_unit w ≡ true → IsMarked m (atom.Wire j)) → (is_unit (get_or wires k d) ≡ true → IsMarked n (atom.Wire k))
    → (j : ℕ) (w : Wire) → j < k + 1 → slice_get wires j ≡ Some w → is_unit w ≡ true → IsMarked n (atom.Wire j)
units_more m n more wires k d h before here j w lt at_ unit =
    let most : j ≤ k = omega (arith, lt) in
    elim (eq-or-lt_of_le most) [
      | inl same ↦
          let found : get_or wires k d ≡ w = get_or_from_slice_get wires k w d (ap (slice_get wires) (sym same) ∙ at_) in
          subst (λ i. IsMarked n (atom.Wire i)) (sym same) (here (ap is_unit found ∙ unit))
      | inr less ↦ more.stays (atom.Wire j) (before j w less at_ unit)
    ]

pub roots_of : (design : Design) (x y z : Marked) → MarksMore x y → MarksMore y z → (outputs : List OutPin) → outputs ≡ design.outputs.items → All (λ (o : OutPin). IsMarked x o.from) outputs
    → (mems : List Mem) → mems ≡ design.mems.items → All (λ (q : Mem). All (PortIsMarked y) q.ports.items) mems → (wires : List Wire) → wires ≡ design.wires.items
    → ((k : ℕ) (w : Wire) → slice_get wires k ≡ Some w → is_unit w ≡ true → IsMarked z (atom.Wire k)) → RootsAreMarked (netlist_of design) z
roots_of design x y z xy yz outputs os o mems ms m wires ws u = record {
  outputs = subst (All (λ (q : OutPin). IsMarked z q.from)) os (All-weaker (λ (q : OutPin). IsMarked x q.from) (λ (q : OutPin). IsMarked z q.from) (λ (q : OutPin) h. yz.stays q.from (xy.stays q.from h)) outputs o);
  ports = All-map (λ (q : Memory). All (PortIsMarked z) q.ports) memory_of design.mems.items
      (subst (All (λ (q : Mem). All (PortIsMarked z) q.ports.items)) ms
      (All-weaker (λ (q : Mem). All (PortIsMarked y) q.ports.items) (λ (q : Mem). All (PortIsMarked z) q.ports.items) (λ (q : Mem) h. ports_stay y z yz q.ports.items h) mems m));
  units = λ k w e unit. u k w (ap (λ l. slice_get l k) ws ∙ e) unit;
}

-- what stands behind the end of a list
abbrev pub no_reg : Reg
no_reg = record { bits = 0; enable = atom.Constant 0 0; next = atom.Constant 0 0 }

abbrev pub no_wire : Wire
no_wire = record { bits = 0; net = net.Copy (atom.Constant 0 0) }

-- ---- no fewer marks

-- at first the search is in any marks of the circuit
pub none_in : (m n : Marked) (o : List Atom) → o ≡ [] → length m.regs ≡ length n.regs → length m.wires ≡ length n.wires → ((k : ℕ) → k < length m.regs → slice_index_or m.regs k true ≡ false)
    → ((k : ℕ) → k < length m.wires → slice_index_or m.wires k true ≡ false) → IsIn n (record { marked = m; waiting = o })
none_in m n o none r w rs ws = record { marked = there; waiting = λ a h. let lt = h.1 in let empty_ : length o ≡ 0 = ap length none in absurd (omega (arith, lt, empty_)) }
  where
    place : (bs cs : List Bool) (k : ℕ) → length bs ≡ length cs → ((j : ℕ) → j < length bs → slice_index_or bs j true ≡ false) → slice_index_or bs k true ≡ true → slice_index_or cs k true ≡ true
    place bs cs k same none h =
        elim (cases_Bool (ltb k (length bs))) [
          | inl yes_ ↦ absurd (true≢false (sym h ∙ none k (ltb-true k (length bs) yes_)))
          | inr no_ ↦ let far = ltb-false k (length bs) no_ in get_or_past cs k true (omega (arith, far, same))
        ]

    there : (a : Atom) → IsMarked m a → IsMarked n a
    there (atom.Constant bits value) h = refl
    there (atom.Input k) h = refl
    there (atom.Reg k) h = place m.regs n.regs k r rs h
    there (atom.Wire k) h = place m.wires n.wires k w ws h

pub closed_reads : (d : Netlist) (n : Marked) → IsClosed d n → (a : Atom) → IsMarked n a → ReadsMarked d n a
closed_reads d n c (atom.Constant bits value) h = tt
closed_reads d n c (atom.Input k) h = tt
closed_reads d n c (atom.Reg k) h = λ r e. c.regs k r e h
closed_reads d n c (atom.Wire k) h = λ w e. c.wires k w e h

-- one that waits is taken
pub taken_in : (n : Marked) (x p : Search) (a : Atom) → p.marked ≡ x.marked → x.waiting ≡ p.waiting ++ a ∷ [] → IsIn n x → IsIn n p × IsMarked n a
taken_in n x p a same popped i = (
  record {
    marked = λ b h. i.marked b (subst (λ m. IsMarked m b) same h);
    waiting = λ b h. i.waiting b (subst (λ l. Contains l b) (sym popped) (Contains-append_left p.waiting (a ∷ []) b h));
  },
  i.waiting a (subst (λ l. Contains l a) (sym popped) (Contains-push p.waiting a)),
)

-- what is covered is no more
pub fewer_marks : (bs cs : List Bool) → length bs ≡ length cs → ((k : ℕ) → slice_index_or bs k true ≡ true → slice_index_or cs k true ≡ true) → marks_in bs ≤ marks_in cs
fewer_marks [] [] h covers = omega arith
fewer_marks [] (c ∷ cs) h covers = absurd (omega (arith, h))
fewer_marks (b ∷ bs) [] h covers = absurd (omega (arith, h))
fewer_marks (true ∷ bs) (true ∷ cs) h covers = let rest = fewer_marks bs cs (omega (arith, h)) (λ k. covers (suc k)) in omega (arith, rest)
fewer_marks (true ∷ bs) (false ∷ cs) h covers = absurd (false≢true (covers 0 refl))
fewer_marks (false ∷ bs) (true ∷ cs) h covers = let rest = fewer_marks bs cs (omega (arith, h)) (λ k. covers (suc k)) in omega (arith, rest)
fewer_marks (false ∷ bs) (false ∷ cs) h covers = fewer_marks bs cs (omega (arith, h)) (λ k. covers (suc k))

pub not_false : (b : Bool) → not b ≡ false → b ≡ true
not_false true h = refl
not_false false h = absurd (true≢false h)
