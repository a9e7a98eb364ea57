-- Gates that are appended leave the values of literals as they are.
use Rattle.std.proofs.Common.{◌≡◌, ◌⊎◌, inl, inr, zero, true, ◌≤◌, slice_get, Option, Some, None, if◌then◌else◌, ℕ, suc, ◌+◌, ◌*◌, ◌/◌, ◌%◌, ◌<◌, ◌==◌, Bool, true, false, not, ◌&&◌, cond, List, [], ◌∷◌, ◌++◌, length, get_or, refl, sym, ap, ◌∙◌, subst, append_assoc, length-append, arith}
use Rattle.std.proofs.lemmas.List.{append-nil, get_or_append_left, get_or_at}
use Rattle.std.proofs.lemmas.Bool.{eqb-true}
use Rattle.std.specs.List.{list_any}
use Rattle.indexmap.specs.IndexSet.{insert_key}
use Rattle.aig_graph.specs.contracts.aig.GatePartialEq.TheImpl as gate_impl
use Rattle.aig_graph.specs.declared.aig.Gate.{Gate}
use Rattle.aig_graph.proofs.Bits.{first_true, second_true}
use Rattle.aig_graph.specs.Graphs.{literal, gate_value, values, Ordered}
use Rattle.aig_graph.specs.Making.{Gates, IsSound, IsLiteral, Extends, Always, Shows, Makes}

pub values_extend : (w : List Bool) (gs : List Gate) → (more : List Bool) × (values w gs ≡ w ++ more) × (length more ≡ length gs)
values_extend w [] = ([], sym (append-nil w), refl)
values_extend w (g ∷ gs) =
    let r = values_extend (w ++ gate_value w g ∷ []) gs in
    (gate_value w g ∷ r.0, r.1 ∙ append_assoc w (gate_value w g ∷ []) r.0, ap suc r.2)

pub values_append : (w : List Bool) (gs hs : List Gate) → values w (gs ++ hs) ≡ values (values w gs) hs
values_append w [] hs = refl
values_append w (g ∷ gs) hs = values_append (w ++ gate_value w g ∷ []) gs hs

pub values_length : (w : List Bool) (gs : List Gate) → length (values w gs) ≡ length w + length gs
values_length w gs = let r = values_extend w gs in ap length r.1 ∙ (length-append w r.0 ∙ ap (λ n. length w + n) r.2)

-- a literal of a variable that is there
pub literal_kept : (w more : List Bool) (l : ℕ) → l < 2 * length w → literal (w ++ more) l ≡ literal w l
literal_kept w more l h =
    let below : l / 2 < length w = omega arith in
    ap (λ b. cond (l % 2 == 1) (not b) b) (get_or_append_left w more false (l / 2) below)

-- the same in a longer graph
pub literal_later : (w : List Bool) (gs : List Gate) (l : ℕ) → l < 2 * length w → literal (values w gs) l ≡ literal w l
literal_later w gs l h = let r = values_extend w gs in ap (λ z. literal z l) r.1 ∙ literal_kept w r.0 l h

-- the literals of constants
pub literal_false : (bits : List Bool) (gs : List Gate) → literal (values (false ∷ bits) gs) 0 ≡ false
literal_false bits gs = literal_later (false ∷ bits) gs 0 (omega arith)

pub literal_true : (bits : List Bool) (gs : List Gate) → literal (values (false ∷ bits) gs) 1 ≡ true
literal_true bits gs = literal_later (false ∷ bits) gs 1 (omega arith)

-- ---- graphs that go on

pub stays : (d : Gates) → Extends d d
stays d = record { given = refl; more = []; ands = sym (append-nil d.ands) }

pub goes_on : (d e f : Gates) → Extends d e → Extends e f → Extends d f
goes_on d e f x y = record {
  given = y.given ∙ x.given;
  more = x.more ++ y.more;
  ands = y.ands ∙ (ap (λ l. l ++ y.more) x.ands ∙ append_assoc d.ands x.more y.more);
}

pub fits_later : (d e : Gates) → Extends d e → (l : ℕ) → IsLiteral d l → IsLiteral e l
fits_later d e x l h =
    let g : e.given ≡ d.given = x.given in
    let n : length e.ands ≡ length d.ands + length x.more = ap length x.ands ∙ length-append d.ands x.more in
    omega arith

pub always_later : (d e : Gates) (P : List Bool → Type 0) → Extends d e → Always d P → Always e P
always_later d e P x h = λ f bits y same. h f bits (goes_on d e f x y) (same ∙ x.given)

pub shows_later : (d e : Gates) (l : ℕ) (P : List Bool → Bool → Type 0) → Extends d e → Shows d l P → Shows e l P
shows_later d e l P x h = record { fits = fits_later d e x l h.fits; value = always_later d e (λ w. P w (literal w l)) x h.value }

-- ---- one gate

ordered_append : (n m : ℕ) (gs : List Gate) (g : Gate) → Ordered n gs → m ≡ n + length gs → g.left < 2 * m → g.right < 2 * m → Ordered n (gs ++ g ∷ [])
ordered_append n m [] g h e l r =
    let same : m ≡ n = omega arith in
    (subst (λ z. g.left < 2 * z) same l, subst (λ z. g.right < 2 * z) same r, tt)
ordered_append n m (x ∷ gs) g h e l r = (h.0, h.1, ordered_append (suc n) m gs g h.2 (omega arith) l r)

-- the gate at a place names variables before it
ordered_at : (n : ℕ) (before : List Gate) (g : Gate) (after : List Gate) → Ordered n (before ++ g ∷ after) → (g.left < 2 * (n + length before)) × (g.right < 2 * (n + length before))
ordered_at n [] g after h = let same : n ≡ n + 0 = omega arith in (subst (λ z. g.left < 2 * z) same h.0, subst (λ z. g.right < 2 * z) same h.1)
ordered_at n (x ∷ before) g after h =
    let r = ordered_at (suc n) before g after h.2 in
    let same : suc n + length before ≡ n + suc (length before) = omega arith in
    (subst (λ z. g.left < 2 * z) same r.0, subst (λ z. g.right < 2 * z) same r.1)

abbrev value_or : Gate → Option Gate → Gate
value_or x (Some y) = y
value_or x None = x

split_at : (gs : List Gate) (i : ℕ) (g : Gate) → slice_get gs i ≡ Some g → (before : List Gate) × (after : List Gate) × (gs ≡ before ++ g ∷ after) × (length before ≡ i)
split_at [] i g h = absurd (cc h)
split_at (x ∷ gs) zero g h = ([], gs, ap (λ z. z ∷ gs) (ap (value_or x) h), refl)
split_at (x ∷ gs) (suc i) g h = let r = split_at gs i g h in (x ∷ r.0, r.1, ap (λ z. x ∷ z) r.2, ap suc r.3)

-- a gate that is there has a literal
pub gate_there : (d : Gates) (g : Gate) (i l : ℕ) → IsSound d → slice_get d.ands i ≡ Some g → l ≡ 2 * (suc d.given + i) → Shows d l (λ w x. x ≡ (literal w g.left && literal w g.right))
gate_there d g i l sound at place =
    let split = split_at d.ands i g at in
    let before = split.0 in
    let after = split.1 in
    let below = ordered_at (suc d.given) before g after (subst (Ordered (suc d.given)) split.2 sound.ordered) in
    record {
      fits = (omega (arith, ap length split.2, length-append before (g ∷ after), split.3));
      value = λ f bits x same.
          let w = values (false ∷ bits) before in
          let all = values (false ∷ bits) f.ands in
          let count : length w ≡ suc d.given + i = values_length (false ∷ bits) before ∙ (ap (λ n. suc n + length before) same ∙ ap (λ n. suc d.given + n) split.3) in
          let ands : f.ands ≡ before ++ (g ∷ (after ++ x.more)) = x.ands ∙ (ap (λ z. z ++ x.more) split.2 ∙ append_assoc before (g ∷ after) x.more) in
          let first : all ≡ values w (g ∷ (after ++ x.more)) = ap (values (false ∷ bits)) ands ∙ values_append (false ∷ bits) before (g ∷ (after ++ x.more)) in
          let next = values_extend (w ++ gate_value w g ∷ []) (after ++ x.more) in
          let whole : all ≡ w ++ (gate_value w g ∷ next.0) = first ∙ (next.1 ∙ append_assoc w (gate_value w g ∷ []) next.0) in
          let even : l % 2 ≡ 0 = omega arith in
          let half : l / 2 ≡ length w = omega arith in
          let here : literal all l ≡ gate_value w g =
          ap (λ z. cond (z == 1) (not (get_or all (l / 2) false)) (get_or all (l / 2) false)) even
          ∙ (ap (λ z. get_or all z false) half ∙ (ap (λ z. get_or z (length w) false) whole ∙ get_or_at w (gate_value w g) next.0 false (length w) refl)) in
          let kept : (m : ℕ) → m < 2 * (suc d.given + length before) → literal all m ≡ literal w m =
          λ m h. ap (λ z. literal z m) whole ∙ literal_kept w (gate_value w g ∷ next.0) m (subst (λ n. m < 2 * n) (ap (λ n. suc d.given + n) split.3 ∙ sym count) h) in
          here ∙ (ap (λ b. b && literal w g.right) (sym (kept g.left below.0)) ∙ ap (λ b. literal all g.left && b) (sym (kept g.right below.1)));
    }

abbrev gate_eq : Gate → Gate → Bool
gate_eq = gate_impl.eq-value.it

gate_is : (g h : Gate) → gate_eq g h ≡ true → h ≡ g
gate_is g h e = let p = eqb-true g.left h.left (first_true (g.left == h.left) (g.right == h.right) e) in
    let q = eqb-true g.right h.right (second_true (g.left == h.left) (g.right == h.right) e) in λ i. record { left = sym p i; right = sym q i }

with_gate : (d e : Gates) (gs : List Gate) (g : Gate) → e.given ≡ d.given → e.ands ≡ gs → (gs ≡ d.ands) ⊎ (gs ≡ d.ands ++ g ∷ []) → IsSound d → d.given + length d.ands < 2147483647
    → IsLiteral d g.left → IsLiteral d g.right → Extends d e × IsSound e
with_gate d e gs g given is (inl same) sound room left right =
    let ands : e.ands ≡ d.ands = is ∙ same in (
      record { given = given; more = []; ands = ands ∙ sym (append-nil d.ands) },
      record { ordered = subst (λ z. Ordered (suc z) e.ands) (sym given) (subst (Ordered (suc d.given)) (sym ands) sound.ordered); few = (omega (arith, ap length ands, sound.few)) },
    )
with_gate d e gs g given is (inr more) sound room left right =
    let ands : e.ands ≡ d.ands ++ g ∷ [] = is ∙ more in (
      record { given = given; more = g ∷ []; ands = ands },
      record {
        ordered = subst (λ z. Ordered (suc z) e.ands) (sym given) (subst (Ordered (suc d.given)) (sym ands) (ordered_append (suc d.given) (suc d.given + length d.ands) d.ands g sound.ordered refl left right));
        few = (omega (arith, ap length ands, length-append d.ands (g ∷ [])));
      },
    )

-- whether it was there before or is appended, the gate has a literal
pub gate_made : (d e : Gates) (g h : Gate) (i l : ℕ) → e.given ≡ d.given → e.ands ≡ insert_key gate_eq d.ands g → slice_get e.ands i ≡ Some h → gate_eq g h ≡ true → l ≡ 2 * (d.given + 1 + i)
    → d.given + length d.ands < 2147483647 → IsSound d → IsLiteral d g.left → IsLiteral d g.right → Makes d e l (λ w x. x ≡ (literal w g.left && literal w g.right))
gate_made d e g h i l given is at same place room sound left right =
    let both = with_gate d e _ g given is (by (list_any (gate_eq g) d.ands)) sound room left right in
    record {
      extends = both.0;
      sound = both.1;
      shows = gate_there e g i l both.1 (at ∙ ap Some (gate_is g h same)) (omega arith);
    } where
      by : (b : Bool) → ((if b then d.ands else d.ands ++ g ∷ []) ≡ d.ands) ⊎ ((if b then d.ands else d.ands ++ g ∷ []) ≡ d.ands ++ g ∷ [])
      by true = inl refl
      by false = inr refl

-- nothing is made where the literal is there
pub made_before : (d : Gates) (l : ℕ) (P : List Bool → Bool → Type 0) → IsSound d → IsLiteral d l
    → ((bits : List Bool) (gs : List Gate) → P (values (false ∷ bits) gs) (literal (values (false ∷ bits) gs) l)) → Makes d d l P
made_before d l P sound fits h = record { extends = stays d; sound = sound; shows = record { fits = fits; value = λ f bits x same. h bits f.ands } }

-- one after another
pub then_made : (d e f : Gates) (a b : ℕ) (P Q R : List Bool → Bool → Type 0) → Makes d e a P → Makes e f b Q
    → ((w : List Bool) → P w (literal w a) → Q w (literal w b) → R w (literal w b)) → Makes d f b R
then_made d e f a b P Q R m n h = record {
  extends = goes_on d e f m.extends n.extends;
  sound = n.sound;
  shows = record {
    fits = n.shows.fits;
    value = λ g bits x same.
        h (values (false ∷ bits) g.ands)
        ((always_later e f (λ w. P w (literal w a)) n.extends m.shows.value) g bits x same)
        (n.shows.value g bits x same);
  };
}

-- another literal, which shows something by this one
pub made_by : (d e : Gates) (a b : ℕ) (P Q : List Bool → Bool → Type 0) → Makes d e a P → (IsLiteral e a → IsLiteral e b)
    → ((w : List Bool) → P w (literal w a) → Q w (literal w b)) → Makes d e b Q
made_by d e a b P Q m fits h = record {
  extends = m.extends;
  sound = m.sound;
  shows = record { fits = fits m.shows.fits; value = λ g bits x same. h (values (false ∷ bits) g.ands) (m.shows.value g bits x same) };
}

-- what a literal shows, in a later graph
pub shown : (d e : Gates) (l : ℕ) (P : List Bool → Bool → Type 0) → Extends d e → Shows d l P → (f : Gates) (bits : List Bool) → Extends e f → length bits ≡ e.given → P (values (false ∷ bits) f.ands) (literal (values (false ∷ bits) f.ands) l)
shown d e l P x h = always_later d e (λ w. P w (literal w l)) x h.value
