-- The way back, wire by wire.
use Rattle.std.proofs.Common.{◌≡◌, ◌⊎◌, inl, inr, ◌<◌, ◌≤◌, ℕ, zero, suc, ◌+◌, ◌-◌, max, List, [], ◌∷◌, ◌++◌, length, Option, None, Some, refl, sym, ap, ◌∙◌, subst, append_assoc, arith}
use Rattle.std.specs.Prelude.{slice_index}
use Rattle.std.proofs.lemmas.Bool.{cases_lt}
use Rattle.std.proofs.lemmas.List.{append-nil}
use Rattle.rtl_core.specs.declared.design.Atom.{Atom}
use Rattle.rtl_core.specs.declared.design.Atom.TheVariants as atom
use Rattle.rtl_core.specs.declared.design.Net.{Net}
use Rattle.rtl_core.specs.Netlist.{Netlist}
use Rattle.rtl_core.specs.Valid.{WiresFit}
use Rattle.timing_path.specs.Paths.{IsWire, Names, net_of, delay_of}
use Rattle.timing_path.specs.Arrivals.{atom_time, operands, net_time, AreTimes, Within, IsLatest, IsLeastAt, LeadsBack, IsWayBack}
use Rattle.timing_path.proofs.NamedWires.{names_inside}
use Rattle.timing_path.proofs.Arriving.{AreWires, found_named}

-- ---- where the way goes on

-- an arrival other than 0 is that of a wire among C
abbrev ComesFrom : (ℕ → Type 0) → List ℕ → ℕ → Type 0
ComesFrom C times time = (time ≡ 0) ⊎ ((j : ℕ) × C j × (slice_index times j ≡ time))

from_atom : (times : List ℕ) (a : Atom) → ComesFrom (IsWire a) times (atom_time times a)
from_atom times (atom.Constant bits value) = inl refl
from_atom times (atom.Input k) = inl refl
from_atom times (atom.Reg k) = inl refl
from_atom times (atom.Wire k) = inr (k, refl, refl)

from_left : (C D : ℕ → Type 0) (times : List ℕ) (m n : ℕ) → n ≡ m → ComesFrom C times m → ComesFrom (λ j. C j ⊎ D j) times n
from_left C D times m n e (inl z) = inl (e ∙ z)
from_left C D times m n e (inr s) = inr (s.0, inl s.1, s.2 ∙ sym e)

from_right : (C D : ℕ → Type 0) (times : List ℕ) (m n : ℕ) → n ≡ m → ComesFrom D times m → ComesFrom (λ j. C j ⊎ D j) times n
from_right C D times m n e (inl z) = inl (e ∙ z)
from_right C D times m n e (inr s) = inr (s.0, inr s.1, s.2 ∙ sym e)

from_either : (C D : ℕ → Type 0) (times : List ℕ) (m n : ℕ) → ComesFrom C times m → ComesFrom D times n → ComesFrom (λ j. C j ⊎ D j) times (max m n)
from_either C D times m n c d =
    elim (cases_lt m n) [
      | inl l ↦ let e : max m n ≡ n = omega arith in from_right C D times n (max m n) e d
      | inr l ↦ let e : max m n ≡ m = omega arith in from_left C D times m (max m n) e c
    ]

from_operands : (times : List ℕ) (o : Atom × Atom × Atom) → ComesFrom (AreWires o) times (max (atom_time times o.0) (max (atom_time times o.1) (atom_time times o.2)))
from_operands times o =
    from_either (IsWire o.0) (λ j. IsWire o.1 j ⊎ IsWire o.2 j) times (atom_time times o.0) (max (atom_time times o.1) (atom_time times o.2)) (from_atom times o.0)
    (from_either (IsWire o.1) (IsWire o.2) times (atom_time times o.1) (atom_time times o.2) (from_atom times o.1) (from_atom times o.2))

-- what is left behind a wire of these times
left_there : (d : Netlist) (times : List ℕ) → AreTimes d times → (k : ℕ) → k < length times → slice_index times k - delay_of d k ≡ net_time times (net_of d k)
left_there d times arrive k h = let e = arrive k h in omega arith

-- some named wire arrives just then, if there is delay left
pub none_left : (d : Netlist) (times : List ℕ) → AreTimes d times → (k left : ℕ) → k < length times → left ≡ slice_index times k - delay_of d k → IsLeastAt (Names (net_of d k)) times left None → left ≡ 0
none_left d times arrive k left h e none =
    let o = operands (net_of d k) in
    let there = left_there d times arrive k h in
    elim (from_operands times o) [
      | inl z ↦ omega arith
      | inr s ↦ absurd (none s.0 (found_named (net_of d k) o refl s.0 s.1) (s.2 ∙ sym (e ∙ there)))
    ]

-- where it goes on, as the answer of the search for the least wire
pub leads_named : (d : Netlist) (times : List ℕ) → AreTimes d times → (k left : ℕ) (r : Option ℕ) → k < length times → left ≡ slice_index times k - delay_of d k → (left ≡ 0 → ⊥)
    → IsLeastAt (Names (net_of d k)) times left r → LeadsBack (Names (net_of d k)) times (slice_index times k - delay_of d k) r
leads_named d times arrive k left None h e some least = absurd (some (none_left d times arrive k left h e least))
leads_named d times arrive k left (Some j) h e some least =
    let P : ℕ → Type 0 = λ x. (0 < x) × IsLeastAt (Names (net_of d k)) times x (Some j) in
    let above : 0 < left = omega arith in
    subst P e (above, least)

-- from all wires, the last of them
pub leads_last : (times : List ℕ) (last : ℕ) (r : Option ℕ) → IsLatest times last → (last ≡ 0 → ⊥) → IsLeastAt (Within times) times last r → LeadsBack (Within times) times last r
leads_last times last None latest some least = elim latest.some [ inl z ↦ absurd (some z) | inr s ↦ absurd (least s.0 s.1 s.2) ]
leads_last times last (Some k) latest some least = let above : 0 < last = omega arith in (above, least)

-- ---- the way so far

-- all wires, or those that a wire names
abbrev pub Among : Netlist → List ℕ → Option ℕ → ℕ → Type 0
Among d times None = Within times
Among d times (Some k) = Names (net_of d k)

-- the way goes on at `next`, and what goes on from there completes it
pub record IsGoing (d : Netlist) (times : List ℕ) (total : ℕ) (wires : List ℕ) (next : Option ℕ) : Type 0 where
  pub behind : Option ℕ
  pub left : ℕ
  pub leads : LeadsBack (Among d times behind) times left next
  pub goes : (ks : List ℕ) → IsWayBack d times (Among d times behind) left ks → IsWayBack d times (Within times) total (wires ++ ks)

pub going_first : (d : Netlist) (times : List ℕ) (total : ℕ) (next : Option ℕ) → LeadsBack (Within times) times total next → IsGoing d times total [] next
going_first d times total next leads = record { behind = None; left = total; leads = leads; goes = λ ks way. way }

pub going_more : (d : Netlist) (times : List ℕ) (total : ℕ) (wires : List ℕ) (k : ℕ) (next : Option ℕ) → IsGoing d times total wires (Some k)
    → LeadsBack (Names (net_of d k)) times (slice_index times k - delay_of d k) next → IsGoing d times total (wires ++ (k ∷ [])) next
going_more d times total wires k next g leads = record {
  behind = Some k;
  left = slice_index times k - delay_of d k;
  leads = leads;
  goes = λ ks way.
      let P : List ℕ → Type 0 = IsWayBack d times (Within times) total in
      let Q : ℕ → Type 0 = λ left. IsWayBack d times (Names (net_of d k)) (left - delay_of d k) ks in
      let here : slice_index times k ≡ g.left = g.leads.1.1 in
      subst P (sym (append_assoc wires (k ∷ []) ks)) (g.goes (k ∷ ks) (g.leads, subst Q here way));
}

pub going_end : (d : Netlist) (times : List ℕ) (total : ℕ) (wires : List ℕ) → IsGoing d times total wires None → IsWayBack d times (Within times) total wires
going_end d times total wires g = let P : List ℕ → Type 0 = IsWayBack d times (Within times) total in subst P (append-nil wires) (g.goes [] g.leads)

among_inside : (d : Netlist) (times : List ℕ) → WiresFit d [] d.wires → length times ≡ length d.wires → (behind : Option ℕ) (k : ℕ) → Among d times behind k → k < length times
among_inside d times fit count None k h = h
among_inside d times fit count (Some i) k h = let inside = names_inside d fit i k h in omega (arith, inside.0, inside.1, count)

pub going_inside : (d : Netlist) (times : List ℕ) (total : ℕ) (wires : List ℕ) (k : ℕ) → WiresFit d [] d.wires → length times ≡ length d.wires → IsGoing d times total wires (Some k)
    → k < length times
going_inside d times total wires k fit count g = among_inside d times fit count g.behind k g.leads.1.0

-- ---- the way ends

abbrev pub steps_left : Option ℕ → ℕ
steps_left None = 0
steps_left (Some k) = suc k

pub goes_down : (d : Netlist) (times : List ℕ) (k left : ℕ) (next : Option ℕ) → WiresFit d [] d.wires → LeadsBack (Names (net_of d k)) times left next → steps_left next < suc k
goes_down d times k left None fit leads = omega arith
goes_down d times k left (Some j) fit leads = let inside = names_inside d fit k j leads.1.0 in omega (arith, inside.1)
