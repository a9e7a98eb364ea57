-- Bits of spans, in groups, and whether one of them goes on.
use Rattle.std.proofs.Common.{◌≡◌, ◌<◌, ◌≤◌, ℕ, zero, suc, ◌-◌, ◌^◌, ◌%◌, Bool, true, false, List, [], ◌∷◌, ◌++◌, map, set, length, get_or, refl, sym, ap, ap₂, ◌∙◌, subst, append_assoc, arith}
use Rattle.std.specs.Prelude.{◌==◌, ◌&&◌, ◌||◌, not, bit_and, flat_map}
use Rattle.std.specs.List.{All, list_any}
use Rattle.std.specs.List.Sorted.{IsPermutation}
use Rattle.std.proofs.Math.Bool.{or-false}
use Rattle.std.proofs.lemmas.Bool.{lt-ltb, le-ltb}
use Rattle.std.proofs.lemmas.List.{map-append, append-nil}
use Rattle.std.proofs.lemmas.List.Concat.{flat_map-cons}
use Rattle.std.proofs.lemmas.List.Elements.{All-nil, All-cons, All-head, All-tail, All-append, All-push, All-weaker}
use Rattle.std.proofs.lemmas.List.Folds.{list_any-append}
use Rattle.std.proofs.lemmas.List.Sorted.{All-permutation, list_any-IsPermutation, IsPermutation-sym, IsPermutation-trans, IsPermutation-middle, IsPermutation-append_right, IsPermutation-to_front}
use Rattle.std.proofs.lemmas.Grind.{flat_map-append}
use Rattle.rtl_core.specs.declared.design.Atom.{Atom}
use Rattle.rtl_core.specs.declared.design.Atom.TheVariants as atom
use Rattle.rtl_core.specs.Netlist.{Netlist}
use Rattle.rtl_core.specs.ClockStep.{bit_of, widths, seen}
use Rattle.rtl_core.specs.Valid.{HasBits}
use Rattle.rtl_logic.specs.Making.{Appends, Makes}
use Rattle.rtl_logic.specs.Choosing.{is_any}
use Rattle.rtl_logic.proofs.Making.{appended, appends_none, appends_both, fits_later}
use Rattle.datapath.specs.Plans.{Plan}
use Rattle.datapath.specs.Cycles.{Register, Time, Cycle, in_cycle, bit}
use Rattle.datapath.specs.Control.{is_within}
use Rattle.datapath.specs.CircuitWires.Carrying.{IsMoment, IsBegun, MakesTelling}
use Rattle.datapath.proofs.Combining.{begun_after, moment_same, bit_is, bit_same, bit_and_tells}
use Rattle.circuit_control.specs.declared.time.Spanned.{Spanned}
use Rattle.circuit_control.specs.declared.time.SpanGroup.{SpanGroup}
use Rattle.circuit_control.specs.Gathered.{TellTogether}
use Rattle.circuit_control.specs.Spans.{goes_within, some_within, members, group_within, MakesSpans, MakesGoing, GroupsFit}

-- ---- what goes on, by groups

group_goes : (v : Atom → ℕ) (c : Cycle) (group : SpanGroup) → some_within v c (members group) ≡ group_within v c group
group_goes v c group = over group.active.items
  where
    shared : (a b w : Bool) → ((a && w) || (b && w)) ≡ ((a || b) && w)
    shared true true true = refl
    shared true true false = refl
    shared true false true = refl
    shared true false false = refl
    shared false b w = refl

    over : (bits : List Atom) → some_within v c (map (λ (b : Atom). record { span = group.span; active = b }) bits) ≡ (is_any v bits && is_within c group.span)
    over [] = refl
    over (b ∷ bits) = ap (λ r. ((v b == 1) && is_within c group.span) || r) (over bits) ∙ shared (v b == 1) (is_any v bits) (is_within c group.span)

groups_go : (v : Atom → ℕ) (c : Cycle) (groups : List SpanGroup) → some_within v c (flat_map members groups) ≡ list_any (group_within v c) groups
groups_go v c [] = refl
groups_go v c (group ∷ groups) =
    list_any-append (goes_within v c) (members group) (flat_map members groups) ∙ ap₂ (λ a b. a || b) (group_goes v c group) (groups_go v c groups)

-- the groups hold the bits of all
pub grouped : (all : List Spanned) (groups : List SpanGroup) → IsPermutation all (flat_map members groups) → (v : Atom → ℕ) (c : Cycle) → list_any (group_within v c) groups ≡ some_within v c all
grouped all groups same v c = sym (list_any-IsPermutation (goes_within v c) all (flat_map members groups) same ∙ groups_go v c groups)

abbrev SpanFits : Netlist → Spanned → Type 0
SpanFits d s = HasBits (widths d) 1 s.active

members_fit : (d : Netlist) (span : ℕ) (bits : List Atom) (rest : List Spanned) → All (SpanFits d) (map (λ (b : Atom). record { span = span; active = b }) bits ++ rest)
    → All (HasBits (widths d) 1) bits × All (SpanFits d) rest
members_fit d span [] rest h = (All-nil (HasBits (widths d) 1), h)
members_fit d span (b ∷ bits) rest h =
    let tail = map (λ (b : Atom). record { span = span; active = b }) bits ++ rest in
    let more = members_fit d span bits rest (All-tail (SpanFits d) (record { span = span; active = b }) tail h) in
    (All-cons (HasBits (widths d) 1) b bits (All-head (SpanFits d) (record { span = span; active = b }) tail h) more.0, more.1)

abbrev GroupFits : Netlist → SpanGroup → Type 0
GroupFits d group = All (HasBits (widths d) 1) group.active.items

groups_fit : (d : Netlist) (groups : List SpanGroup) → All (SpanFits d) (flat_map members groups) → GroupsFit d groups
groups_fit d [] h = All-nil (GroupFits d)
groups_fit d (group ∷ groups) h =
    let parts = members_fit d group.span group.active.items (flat_map members groups) h in
    All-cons (GroupFits d) group groups parts.0 (groups_fit d groups parts.1)

pub grouped_fit : (d : Netlist) (all : List Spanned) (groups : List SpanGroup) → IsPermutation all (flat_map members groups) → All (λ (s : Spanned). HasBits (widths d) 1 s.active) all → GroupsFit d groups
grouped_fit d all groups same h = groups_fit d groups (All-permutation (SpanFits d) all (flat_map members groups) same h)

-- ---- bits put into groups

-- what stands at one place is the same
pub at_one_place : {X : Type 0} (xs : List X) (k : ℕ) (a b : X) → k < length xs → a ≡ get_or xs k a → b ≡ get_or xs k b → b ≡ a
at_one_place [] k a b h e f = absurd (omega (arith, h))
at_one_place (x ∷ xs) zero a b h e f = f ∙ sym e
at_one_place (x ∷ xs) (suc k) a b h e f = at_one_place xs k a b (omega (arith, h)) e f

extended_is : (old new : SpanGroup) (s : Spanned) → new.active.items ≡ old.active.items ++ s.active ∷ [] → new.span ≡ old.span → old.span ≡ s.span → members new ≡ members old ++ s ∷ []
extended_is old new s items same span =
    let f : ℕ → Atom → Spanned = λ n b. record { span = n; active = b } in
    ap (λ l. map (f new.span) l) items ∙ (ap (λ n. map (f n) (old.active.items ++ s.active ∷ [])) same
    ∙ (map-append (f old.span) old.active.items (s.active ∷ []) ∙ ap (λ n. members old ++ f n s.active ∷ []) span))

-- a group with one bit more
pub extended : (groups : List SpanGroup) (k : ℕ) (old new : SpanGroup) (s : Spanned) → k < length groups → old ≡ get_or groups k old → new.active.items ≡ old.active.items ++ s.active ∷ [] → new.span ≡ old.span
    → old.span ≡ s.span → IsPermutation (s ∷ flat_map members groups) (flat_map members (set groups k new))
extended [] k old new s h is items same span = absurd (omega (arith, h))
extended (g ∷ groups) zero old new s h is items same span =
    let rest : List Spanned = flat_map members groups in
    let more : members new ≡ members g ++ s ∷ [] = extended_is old new s items same span ∙ ap (λ (z : SpanGroup). members z ++ s ∷ []) is in
    let behind : members g ++ s ∷ rest ≡ flat_map members (new ∷ groups) =
    sym (append_assoc (members g) (s ∷ []) rest) ∙ (ap (λ l. l ++ rest) (sym more) ∙ sym (flat_map-cons members new groups)) in
    subst (λ l. IsPermutation (s ∷ l) (flat_map members (new ∷ groups))) (sym (flat_map-cons members g groups))
    (subst (IsPermutation (s ∷ (members g ++ rest))) behind (IsPermutation-sym _ _ (IsPermutation-middle (members g) s rest)))
extended (g ∷ groups) (suc k) old new s h is items same span =
    let rest : List Spanned = flat_map members groups in
    let after : List Spanned = flat_map members (set groups k new) in
    let tail : IsPermutation (s ∷ rest) after = extended groups k old new s (omega (arith, h)) is items same span in
    let moved : IsPermutation (s ∷ (members g ++ rest)) (members g ++ after) =
    IsPermutation-trans _ _ _ (IsPermutation-sym _ _ (IsPermutation-middle (members g) s rest)) (IsPermutation-append_right (members g) _ _ tail) in
    subst (λ l. IsPermutation (s ∷ l) (flat_map members (g ∷ set groups k new))) (sym (flat_map-cons members g groups))
    (subst (IsPermutation (s ∷ (members g ++ rest))) (sym (flat_map-cons members g (set groups k new))) moved)

-- a new group of one bit
pub added : (groups after : List SpanGroup) (new : SpanGroup) (s : Spanned) → after ≡ groups ++ new ∷ [] → new.active.items ≡ s.active ∷ [] → new.span ≡ s.span
    → IsPermutation (s ∷ flat_map members groups) (flat_map members after)
added groups after new s is items span =
    let f : ℕ → Atom → Spanned = λ n b. record { span = n; active = b } in
    let single : members new ≡ s ∷ [] = ap (λ l. map (f new.span) l) items ∙ ap (λ n. f n s.active ∷ []) span in
    let whole : flat_map members after ≡ flat_map members groups ++ s ∷ [] =
    ap (flat_map members) is ∙ (flat_map-append members groups (new ∷ [])
    ∙ ap (λ l. flat_map members groups ++ l) (flat_map-cons members new [] ∙ (append-nil (members new) ∙ single))) in
    subst (IsPermutation (s ∷ flat_map members groups)) (sym whole) (IsPermutation-sym _ _ (IsPermutation-to_front (flat_map members groups) s))

-- ---- all bits of spans, one after another

pub no_spans : (p : Plan) (names : List Register) (d : Netlist) (holds_ : Cycle → Bool) → IsBegun p names d → ((c : Cycle) → false ≡ holds_ c) → MakesSpans p names d d [] holds_
no_spans p names d holds_ begun none = record {
  appends = appends_none d;
  begun = begun;
  fits = All-nil (SpanFits d);
  some = λ f s pins x signals m. none (in_cycle x signals pins);
}

pub one_span : (p : Plan) (names : List Register) (d e f : Netlist) (all after : List Spanned) (s : Spanned) (before stays : Cycle → Bool) (n : ℕ) → MakesSpans p names d e all before → after ≡ all ++ s ∷ [] → s.span ≡ n
    → MakesTelling p names e f s.active stays → MakesSpans p names d f after (λ c. before c || (stays c && is_within c n))
one_span p names d e f all after s before stays n h pushed span made = subst (λ l. MakesSpans p names d f l (λ c. before c || (stays c && is_within c n))) (sym pushed) (record {
  appends = appends_both d e f h.appends made.appends;
  begun = made.begun;
  fits = All-push (SpanFits f) all s (All-weaker (SpanFits e) (SpanFits f) (λ (r : Spanned). fits_later e f (appended e f made.appends) 1 r.active) all h.fits) made.carries.fits;
  some = λ g t pins x signals m.
      let v = seen g t pins in
      let c : Cycle = in_cycle x signals pins in
      let is : (v s.active == 1) ≡ stays c = ap (λ k. k == 1) (made.carries.value_ g t pins x signals m) ∙ bit_is (stays c) in
      list_any-append (goes_within v c) all (s ∷ [])
      ∙ ap₂ (λ a b. a || b) (h.some g t pins x signals (moment_same p names e f g t pins x (appended e f made.appends) m)) (or-false (goes_within v c s) ∙ ap₂ (λ a k. a && is_within c k) is span);
})

pub spans_as : (p : Plan) (names : List Register) (d e : Netlist) (all : List Spanned) (one other : Cycle → Bool) → ((c : Cycle) → one c ≡ other c) → MakesSpans p names d e all one → MakesSpans p names d e all other
spans_as p names d e all one other same h = record { appends = h.appends; begun = h.begun; fits = h.fits; some = λ f s pins x signals m. h.some f s pins x signals m ∙ same (in_cycle x signals pins) }

-- ---- the bits of groups

never_within : (v : Atom → ℕ) (c : Cycle) (group : SpanGroup) → group.span ≤ 1 → (group_within v c group || false) ≡ false
never_within v c group short = or-false (group_within v c group) ∙ (ap (λ b. is_any v group.active.items && (b && not (c.regs Time == group.span - 1))) (le-ltb 1 group.span short) ∙ none (is_any v group.active.items))
  where
    none : (b : Bool) → (b && false) ≡ false
    none true = refl
    none false = refl

pub short_group : (p : Plan) (names : List Register) (d : Netlist) (a : Atom) (group : SpanGroup) → IsBegun p names d → group.span ≤ 1 → a ≡ atom.Constant 1 (0 % 2 ^ 1) → MakesGoing p names d d (a ∷ []) (group ∷ [])
short_group p names d a group begun short is = subst (λ b. MakesGoing p names d d (b ∷ []) (group ∷ [])) (sym is) (record {
  appends = appends_none d;
  begun = begun;
  fits = All-cons (HasBits (widths d) 1) (atom.Constant 1 0) [] (refl, (omega arith, omega arith), omega arith) (All-nil (HasBits (widths d) 1));
  any = λ f s pins x signals m. sym (never_within (seen f s pins) (in_cycle x signals pins) group short);
})

-- one of the bits of a group is 1, and this is not the last cycle
pub long_group : (p : Plan) (names : List Register) (d e f g h : Netlist) (group : SpanGroup) (active last before a : Atom) → IsBegun p names d → 1 < group.span
    → Makes d e 1 active (λ v x. x ≡ bit_of (is_any v group.active.items)) → MakesTelling p names e f last (λ (c : Cycle). c.regs Time == group.span - 1)
    → MakesTelling p names f g before (λ (c : Cycle). not (c.regs Time == group.span - 1)) → Makes g h 1 a (λ v x. x ≡ bit_and (v active) (v before)) → MakesGoing p names d h (a ∷ []) (group ∷ [])
long_group p names d e f g h group active last before a begun long some time against made =
    let first : Appends d g = appends_both d e g some.appends (appends_both e f g time.appends against.appends) in
    let behind : Appends e h = appends_both e f h time.appends (appends_both f g h against.appends made.appends) in
    record {
      appends = appends_both d g h first made.appends;
      begun = begun_after p names g h against.begun made.appends made.sound;
      fits = All-cons (HasBits (widths h) 1) a [] made.shows.fits (All-nil (HasBits (widths h) 1));
      any = λ k s pins x signals m.
          let v = seen k s pins in
          let c : Cycle = in_cycle x signals pins in
          let early : IsMoment p names e k s pins x = moment_same p names e h k s pins x (appended e h behind) m in
          let middle : IsMoment p names g k s pins x = moment_same p names g h k s pins x (appended g h made.appends) m in
          let one : v active ≡ bit (is_any v group.active.items) = some.shows.value k s pins early.extends early.sound early.state early.pins_ ∙ bit_same (is_any v group.active.items) in
          let other : v before ≡ bit (not (c.regs Time == group.span - 1)) = against.carries.value_ k s pins x signals middle in
          let both : v a ≡ bit (is_any v group.active.items && not (c.regs Time == group.span - 1)) =
          made.shows.value k s pins m.extends m.sound m.state m.pins_ ∙ (ap₂ bit_and one other ∙ bit_and_tells (is_any v group.active.items) (not (c.regs Time == group.span - 1))) in
          ap (λ b. b || false) (ap (λ n. n == 1) both ∙ (bit_is (is_any v group.active.items && not (c.regs Time == group.span - 1))
          ∙ ap (λ b. is_any v group.active.items && (b && not (c.regs Time == group.span - 1))) (sym (lt-ltb 1 group.span long))));
    }

pub no_groups : (p : Plan) (names : List Register) (d : Netlist) → IsBegun p names d → MakesGoing p names d d [] []
no_groups p names d begun = record { appends = appends_none d; begun = begun; fits = All-nil (HasBits (widths d) 1); any = λ f s pins x signals m. refl }

pub one_group : (p : Plan) (names : List Register) (d e f : Netlist) (bits after : List Atom) (groups : List SpanGroup) (a : Atom) (group : SpanGroup) → MakesGoing p names d e bits groups → after ≡ bits ++ a ∷ []
    → MakesGoing p names e f (a ∷ []) (group ∷ []) → MakesGoing p names d f after (groups ++ group ∷ [])
one_group p names d e f bits after groups a group h pushed made = subst (λ l. MakesGoing p names d f l (groups ++ group ∷ [])) (sym pushed) (record {
  appends = appends_both d e f h.appends made.appends;
  begun = made.begun;
  fits = All-append (HasBits (widths f) 1) bits (a ∷ []) (All-weaker (HasBits (widths e) 1) (HasBits (widths f) 1) (fits_later e f (appended e f made.appends) 1) bits h.fits) made.fits;
  any = λ g s pins x signals m.
      let v = seen g s pins in
      let c : Cycle = in_cycle x signals pins in
      list_any-append (λ b. v b == 1) bits (a ∷ [])
      ∙ (ap₂ (λ l r. l || r) (h.any g s pins x signals (moment_same p names e f g s pins x (appended e f made.appends) m)) (made.any g s pins x signals m) ∙ sym (list_any-append (group_within v c) groups (group ∷ [])));
})

pub groups_later : (d e : Netlist) (groups : List SpanGroup) → Appends d e → GroupsFit d groups → GroupsFit e groups
groups_later d e groups more h =
    All-weaker (GroupFits d) (GroupFits e) (λ (group : SpanGroup) fits. All-weaker (HasBits (widths d) 1) (HasBits (widths e) 1) (fits_later d e (appended d e more) 1) group.active.items fits) groups h

-- together: the bits of all groups of all spans
pub groups_tell : (p : Plan) (names : List Register) (d e f : Netlist) (all : List Spanned) (groups : List SpanGroup) (bits : List Atom) (holds_ : Cycle → Bool) → MakesSpans p names d e all holds_
    → IsPermutation all (flat_map members groups) → MakesGoing p names e f bits groups → TellTogether p names f bits holds_
groups_tell p names d e f all groups bits holds_ spans same going = record {
  fits = going.fits;
  any = λ g s pins x signals m.
      going.any g s pins x signals m
      ∙ (grouped all groups same (seen g s pins) (in_cycle x signals pins) ∙ spans.some g s pins x signals (moment_same p names e f g s pins x (appended e f going.appends) m));
}

-- what stands behind the end of a list
abbrev pub no_span : Spanned
no_span = record { span = 0; active = atom.Constant 0 0 }
