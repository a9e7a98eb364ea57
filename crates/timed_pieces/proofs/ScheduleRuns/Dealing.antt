-- Operations of one class that have one unit stand in one order.
use Rattle.std.proofs.Common.{◌≡◌, ◌≢◌, ℕ, ◌+◌, ◌<◌, ◌≤◌, inl, inr, Bool, true, false, true≢false, List, [], ◌∷◌, length, refl, sym, ap, subst, ◌∙◌, arith, length-set, get_or-set_same, get_or-set_other}
use Rattle.std.specs.Prelude.{nat_lt, if◌then◌else◌, slice_index, Option, Some, None}
use Rattle.hls_base.specs.declared.settings.Units.{Units}
use Rattle.ir_core.specs.declared.timing.UnitClass.{UnitClass}
use Rattle.unit_binding.specs.declared.bind.Request.{Request}
use Rattle.unit_binding.specs.declared.bind.Turn.{Turn}
use Rattle.unit_binding.specs.Binding.{Order, Dealt, is_class, unit_count, next_unit, opened, given, dealt, first_turn, none_dealt}
use Rattle.timed_pieces.proofs.ScheduleRuns.Serving.{Has}
use Rattle.timed_pieces.proofs.ScheduleRuns.Classes.{held_by, Upto, upto_own, upto_trans, upto_both, class_is, class_own}
use Rattle.timed_pieces.proofs.ScheduleRuns.Orders.{ops_at, held_at, within, IsServed, served_is}

-- two operations of one order
pub record StandTogether (orders : List Order) (r s : Request) : Type 0 where
  pub at : ℕ
  pub first : Has r.op (ops_at orders at)
  pub second : Has s.op (ops_at orders at)
  pub held : held_at orders at ≡ held_by r.class

abbrev pub AreTogether : List Request → Dealt → Type 0
AreTogether done d = (r s : Request) → Has r done → Has s done → r.class ≡ s.class → slice_index d.unit_of r.op ≡ slice_index d.unit_of s.op → StandTogether d.orders r s

-- what holds when these requests are dealt out, the last one first, and the turn is at this class and unit
record IsDealing (done : List Request) (d : Dealt) (turn : Turn) : Type 0 where
  next : turn.first + turn.unit ≤ length d.orders
  here : (r : Request) → Has r done → turn.class ≡ Some r.class → Has r.op (ops_at d.orders (turn.first + slice_index d.unit_of r.op))
  held : (i : ℕ) (c : UnitClass) → turn.class ≡ Some c → turn.first ≤ i → i < length d.orders → held_at d.orders i ≡ held_by c
  together : AreTogether done d
  before : (r : Request) → Has r done → (c : UnitClass) × (turn.class ≡ Some c) × Upto r.class c

-- a request that comes next
pub record IsNext (count : ℕ) (done : List Request) (class : Option UnitClass) (q : Request) : Type 0 where
  pub inside : q.op < count
  pub other : (r : Request) → Has r done → r.op ≢ q.op
  pub rises : (c : UnitClass) → class ≡ Some c → Upto c q.class
  pub held : q.occupancy ≡ held_by q.class

some_same : (c d : UnitClass) (p : Option UnitClass) → p ≡ Some c → p ≡ Some d → c ≡ d
some_same c d p e f = (let g : Some c ≡ Some d = sym e ∙ f in cc)

-- ---- turning to a class

module _ (count : ℕ) (done : List Request) (d : Dealt) (turn : Turn) (q : Request) (deal : IsDealing done d turn) (next : IsNext count done turn.class q) where
  abbrev turned : Bool → Turn
  turned b = if b then turn else record { class = Some q.class; first = length d.orders; unit = 0 }

  none_yet : is_class turn.class q.class ≡ false → (r : Request) → Has r done → r.class ≡ q.class → ⊥
  none_yet e r h same =
      let c = deal.before r h in
      let up : Upto c.0 q.class = next.rises c.0 c.1 in
      let down : Upto q.class c.0 = subst (λ x. Upto x c.0) same c.2 in
      let is : c.0 ≡ q.class = upto_both c.0 q.class up down in
      true≢false (sym (ap (λ p. is_class p q.class) c.1 ∙ ap (λ x. is_class (Some x) q.class) is ∙ class_own q.class) ∙ e)

  turned_deal : (b : Bool) → is_class turn.class q.class ≡ b → IsDealing done d (turned b)
  turned_deal true e = deal
  turned_deal false e = record {
    next = omega arith;
    here = λ r h same. absurd (none_yet e r h (some_same r.class q.class (Some q.class) same refl));
    held = λ i c same le lt. absurd (omega arith);
    together = deal.together;
    before = λ r h. (let c = deal.before r h in (q.class, refl, upto_trans r.class c.0 q.class c.2 (next.rises c.0 c.1)));
  }

  turned_class : (b : Bool) → is_class turn.class q.class ≡ b → (turned b).class ≡ Some q.class
  turned_class true e = class_is turn.class q.class e
  turned_class false e = refl

  opened_deal : IsDealing done d (opened turn q.class (length d.orders))
  opened_deal = turned_deal (is_class turn.class q.class) refl

  opened_class : (opened turn q.class (length d.orders)).class ≡ Some q.class
  opened_class = turned_class (is_class turn.class q.class) refl

-- ---- one more request

module _ (count : ℕ) (done : List Request) (d : Dealt) (now : Turn) (q : Request) (deal : IsDealing done d now) (is : now.class ≡ Some q.class) (long : length d.unit_of ≡ count) (inside : q.op < count) (other : (r : Request) → Has r done → r.op ≢ q.op) (held : q.occupancy ≡ held_by q.class) where
  abbrev index : ℕ
  index = now.first + now.unit

  abbrev new : Dealt
  new = given d now q

  serves : IsServed d.orders new.orders index q
  serves = served_is d.orders index now.unit q deal.next

  own_unit : slice_index new.unit_of q.op ≡ now.unit
  own_unit = get_or-set_same d.unit_of q.op now.unit 0 (omega arith)

  old_unit : (r : Request) → Has r done → slice_index new.unit_of r.op ≡ slice_index d.unit_of r.op
  old_unit r h = get_or-set_other d.unit_of q.op r.op now.unit 0 (other r h)

  here_now : (r : Request) → Has r (q ∷ done) → now.class ≡ Some r.class → Has r.op (ops_at new.orders (now.first + slice_index new.unit_of r.op))
  here_now r h e = elim h [
    | inl same ↦ subst (λ (x : Request). Has x.op (ops_at new.orders (now.first + slice_index new.unit_of x.op))) (sym same) (subst (λ i. Has q.op (ops_at new.orders (now.first + i))) (sym own_unit) serves.has)
    | inr old ↦ subst (λ i. Has r.op (ops_at new.orders (now.first + i))) (sym (old_unit r old)) (serves.keeps (now.first + slice_index d.unit_of r.op) r.op (deal.here r old e))
  ]

  held_now : (i : ℕ) (c : UnitClass) → now.class ≡ Some c → now.first ≤ i → i < length new.orders → held_at new.orders i ≡ held_by c
  held_now i c e le lt = elim (serves.grows i lt) [
    | inl old ↦ serves.held i old ∙ deal.held i c e le old
    | inr made ↦ made.1 ∙ held ∙ ap held_by (some_same q.class c now.class is e)
  ]

  -- requests of the class that is served now
  together_here : (r s : Request) → Has r (q ∷ done) → Has s (q ∷ done) → r.class ≡ s.class → now.class ≡ Some r.class → slice_index new.unit_of r.op ≡ slice_index new.unit_of s.op → StandTogether new.orders r s
  together_here r s h g same e units =
      let at = now.first + slice_index new.unit_of r.op in
      let first : Has r.op (ops_at new.orders (now.first + slice_index new.unit_of r.op)) = here_now r h e in
      let second : Has s.op (ops_at new.orders (now.first + slice_index new.unit_of s.op)) = here_now s g (e ∙ ap Some same) in
      record {
        at = at;
        first = first;
        second = subst (λ i. Has s.op (ops_at new.orders (now.first + i))) (sym units) second;
        held = held_now at r.class e (omega arith) (within new.orders at r.op first);
      }

  class_of : (r : Request) → r ≡ q → now.class ≡ Some r.class
  class_of r e = is ∙ ap (λ (x : Request). Some x.class) (sym e)

  together_now : AreTogether (q ∷ done) new
  together_now r s h g same units = elim h [
    | inl own ↦ together_here r s (inl own) g same (class_of r own) units
    | inr old ↦ elim g [
      | inl own ↦ together_here r s (inr old) (inl own) same (class_of s own ∙ ap Some (sym same)) units
      | inr older ↦
          (let t = deal.together r s old older same (sym (old_unit r old) ∙ units ∙ old_unit s older) in
          record {
            at = t.at;
            first = serves.keeps t.at r.op t.first;
            second = serves.keeps t.at s.op t.second;
            held = serves.held t.at (within d.orders t.at r.op t.first) ∙ t.held;
          })
    ]
  ]

  before_now : (r : Request) → Has r (q ∷ done) → (c : UnitClass) × (now.class ≡ Some c) × Upto r.class c
  before_now r h = elim h [
    | inl own ↦ (q.class, is, subst (λ (x : Request). Upto x.class q.class) (sym own) (upto_own q.class))
    | inr old ↦ deal.before r old
  ]

  given_deal : (unit : ℕ) → unit ≤ now.unit + 1 → IsDealing (q ∷ done) new (record { class = now.class; first = now.first; unit = unit })
  given_deal unit le = record {
    next = (let z = within new.orders index q.op serves.has in omega arith);
    here = here_now;
    held = held_now;
    together = together_now;
    before = before_now;
  }

  given_long : length new.unit_of ≡ count
  given_long = length-set d.unit_of q.op now.unit ∙ long

-- ---- all requests

next_near : (units : Units) (class : UnitClass) (unit : ℕ) → next_unit units class unit ≤ unit + 1
next_near units class unit = near (nat_lt (unit + 1) (unit_count units class))
  where
    near : (b : Bool) → (if b then unit + 1 else 0) ≤ unit + 1
    near true = omega arith
    near false = omega arith

-- these requests come one after another
abbrev pub Follow : ℕ → List Request → Option UnitClass → List Request → Type 0
Follow count done class [] = Unit {0}
Follow count done class (q ∷ qs) = IsNext count done class q × Follow count (q ∷ done) (Some q.class) qs

-- the first list, with the second one before it, turned round
abbrev pub onto : List Request → List Request → List Request
onto done [] = done
onto done (q ∷ qs) = onto (q ∷ done) qs

all_dealt : (units : Units) (count : ℕ) (requests done : List Request) (d : Dealt) (turn : Turn) → IsDealing done d turn → length d.unit_of ≡ count → Follow count done turn.class requests
    → AreTogether (onto done requests) (dealt units d turn requests)
all_dealt units count [] done d turn deal long follow = deal.together
all_dealt units count (q ∷ qs) done d turn deal long follow =
    let next = follow.0 in
    let now = opened turn q.class (length d.orders) in
    let is : now.class ≡ Some q.class = opened_class count done d turn q deal next in
    let open_deal : IsDealing done d now = opened_deal count done d turn q deal next in
    all_dealt units count qs (q ∷ done) (given d now q) (record { class = now.class; first = now.first; unit = next_unit units q.class now.unit })
    (given_deal count done d now q open_deal is long next.inside next.other next.held (next_unit units q.class now.unit) (next_near units q.class now.unit))
    (given_long count done d now q open_deal is long next.inside next.other next.held)
    (subst (λ p. Follow count (q ∷ done) p qs) (sym is) follow.1)

onto_old : (r : Request) (done qs : List Request) → Has r done → Has r (onto done qs)
onto_old r done [] h = h
onto_old r done (q ∷ qs) h = onto_old r (q ∷ done) qs (inr h)

onto_new : (r : Request) (done qs : List Request) → Has r qs → Has r (onto done qs)
onto_new r done [] h = absurd h
onto_new r done (q ∷ qs) h = elim h [ inl e ↦ onto_old r (q ∷ done) qs (inl e) | inr t ↦ onto_new r (q ∷ done) qs t ]

none_done : (count : ℕ) → IsDealing [] (none_dealt count) first_turn
none_done count = record {
  next = omega arith;
  here = λ r h e. absurd h;
  held = λ i c e le lt. absurd (omega arith);
  together = λ r s h g e f. absurd h;
  before = λ r h. absurd h;
}

-- two requests of one class that are given one unit stand in one order
pub dealt_together : (units : Units) (count : ℕ) (requests : List Request) → length (none_dealt count).unit_of ≡ count → Follow count [] None requests → AreTogether requests (dealt units (none_dealt count) first_turn requests)
dealt_together units count requests long follow r s h g =
    all_dealt units count requests [] (none_dealt count) first_turn (none_done count) long follow r s (onto_new r [] requests h) (onto_new s [] requests g)
