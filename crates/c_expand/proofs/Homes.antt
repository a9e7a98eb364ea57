-- Objects one by one, as all of them.
use Rattle.std.specs.Prelude.{if◌then◌else◌}
use Rattle.std.proofs.Common.{◌≡◌, ℕ, ◌+◌, ◌<◌, ◌≤◌, Bool, true, false, List, [], ◌∷◌, ◌++◌, length, get_or, drop, take, map, refl, sym, ap, ◌∙◌, Some}
use Rattle.std.proofs.lemmas.List.{drop-map, take-map, length-append, length-drop, nil_from_length}
use Rattle.std.proofs.Math.Seq.{take-length}
use Rattle.std.proofs.Common.{◌-◌}
use Rattle.std.proofs.lemmas.Option.{slice_get_within, get_or_from_slice_get}
use Rattle.std.specs.Prelude.{slice_get}
use Rattle.hls_base.specs.declared.refusal.Refusal.{Refusal}
use Rattle.hls_base.specs.declared.number.Kept.{Kept}
use Rattle.hls_base.specs.declared.number.VarId.{VarId}
use Rattle.pieces.specs.declared.resolved.program.CoreObject.{CoreObject}
use Rattle.pieces.specs.declared.resolved.program.FileObject.{FileObject}
use Rattle.pieces.specs.Resolved.Core.{CoreObjectTree}
use Rattle.pieces.specs.Resolved.CoreView.{core_object_of, file_object_of}
use Rattle.piece_making.specs.declared.frame.Home.{Home}
use Rattle.piece_making.specs.Making.{State, Part, gives, then_}
use Rattle.piece_making.specs.Objects.{local}
use Rattle.piece_making.specs.Stocks.{Stock, state_of, IsMade, IsTooHeavy}
use Rattle.piece_making.proofs.EffectLaws.{first_dropped}
use Rattle.c_expand.specs.declared.calls.Given as declared
use Rattle.c_expand.specs.Callees.{given_of}
use Rattle.c_expand.specs.Expressions.{Given}
use Rattle.c_expand.specs.Expansion.{parameter, parameters, locals, is_kept, kept_scalar, kept_scalars, file_home, file_homes, kept_behind, top_parameter, top_parameters}
use Rattle.c_expand.proofs.Leading.{Leads, leads_as, goes_on, stops, ends, none_left}

-- ---- local objects

locals_next : (os : List CoreObject) (i : ℕ) (o : CoreObject) (homes : List Home) (old mid : Stock) (whole : Part (List Home))
    → i < length os → o ≡ get_or os i o
    → Leads old mid (locals (map core_object_of (drop i os)) homes (state_of mid)) whole
    → Leads old mid (locals (map core_object_of (o ∷ drop (i + 1) os)) homes (state_of mid)) whole
locals_next os i o homes old mid whole lt at l =
    leads_as _ _ _ _ _ (ap (λ (xs : List CoreObject). locals (map core_object_of xs) homes (state_of mid)) (first_dropped os i o lt at)) l

pub locals_turn : (os : List CoreObject) (i : ℕ) (o : CoreObject) (homes after : List Home) (h : Home) (old mid new : Stock) (whole : Part (List Home))
    → i < length os → o ≡ get_or os i o → IsMade mid new h (local (core_object_of o) (state_of mid)) → after ≡ homes ++ h ∷ []
    → Leads old mid (locals (map core_object_of (drop i os)) homes (state_of mid)) whole
    → Leads old new (locals (map core_object_of (drop (i + 1) os)) after (state_of new)) whole
locals_turn os i o homes after h old mid new whole lt at made pushed l =
    leads_as _ _ _ _ _ (ap (λ (hs : List Home). locals (map core_object_of (drop (i + 1) os)) hs (state_of new)) (sym pushed))
    (goes_on _ _ _ _ _ _ _ made (locals_next os i o homes old mid whole lt at l))

pub locals_end : (os : List CoreObject) (i : ℕ) (homes : List Home) (old mid : Stock) (whole : Part (List Home))
    → length os ≤ i → Leads old mid (locals (map core_object_of (drop i os)) homes (state_of mid)) whole → IsMade old mid homes whole
locals_end os i homes old mid whole le l =
    ends _ _ _ _ _ refl (leads_as _ _ _ _ _ (ap (λ (xs : List CoreObject). locals (map core_object_of xs) homes (state_of mid)) (none_left os i le)) l)

-- ---- the parameters of the top function

top_next : (os : List CoreObject) (i : ℕ) (o : CoreObject) (homes : List Home) (old mid : Stock) (whole : Part (List Home))
    → i < length os → o ≡ get_or os i o
    → Leads old mid (top_parameters (map core_object_of (drop i os)) homes (state_of mid)) whole
    → Leads old mid (top_parameters (map core_object_of (o ∷ drop (i + 1) os)) homes (state_of mid)) whole
top_next os i o homes old mid whole lt at l =
    leads_as _ _ _ _ _ (ap (λ (xs : List CoreObject). top_parameters (map core_object_of xs) homes (state_of mid)) (first_dropped os i o lt at)) l

pub top_turn : (os : List CoreObject) (i : ℕ) (o : CoreObject) (homes after : List Home) (h : Home) (old mid new : Stock) (whole : Part (List Home))
    → i < length os → o ≡ get_or os i o → IsMade mid new h (top_parameter (core_object_of o) (state_of mid)) → after ≡ homes ++ h ∷ []
    → Leads old mid (top_parameters (map core_object_of (drop i os)) homes (state_of mid)) whole
    → Leads old new (top_parameters (map core_object_of (drop (i + 1) os)) after (state_of new)) whole
top_turn os i o homes after h old mid new whole lt at made pushed l =
    leads_as _ _ _ _ _ (ap (λ (hs : List Home). top_parameters (map core_object_of (drop (i + 1) os)) hs (state_of new)) (sym pushed))
    (goes_on _ _ _ _ _ _ _ made (top_next os i o homes old mid whole lt at l))

pub top_end : (os : List CoreObject) (i : ℕ) (homes : List Home) (old mid : Stock) (whole : Part (List Home))
    → length os ≤ i → Leads old mid (top_parameters (map core_object_of (drop i os)) homes (state_of mid)) whole → IsMade old mid homes whole
top_end os i homes old mid whole le l =
    ends _ _ _ _ _ refl (leads_as _ _ _ _ _ (ap (λ (xs : List CoreObject). top_parameters (map core_object_of xs) homes (state_of mid)) (none_left os i le)) l)

-- ---- the parameters of a call

no_more_given : (os : List CoreObjectTree) (homes : List Home) (s : State) → parameters os [] homes s ≡ gives homes s
no_more_given [] homes s = refl
no_more_given (o ∷ os) homes s = refl

pub parameters_turn : (os : List CoreObjectTree) (i : ℕ) (o : CoreObjectTree) (g : Given) (rest : List Given) (homes after : List Home) (h : Home) (old mid new : Stock) (whole : Part (List Home))
    → drop i os ≡ o ∷ drop (i + 1) os → IsMade mid new h (parameter o g (state_of mid)) → after ≡ homes ++ h ∷ []
    → Leads old mid (parameters (drop i os) (g ∷ rest) homes (state_of mid)) whole
    → Leads old new (parameters (drop (i + 1) os) rest after (state_of new)) whole
parameters_turn os i o g rest homes after h old mid new whole at made pushed l =
    leads_as _ _ _ _ _ (ap (λ (hs : List Home). parameters (drop (i + 1) os) rest hs (state_of new)) (sym pushed))
    (goes_on _ _ _ _ _ _ _ made (leads_as _ _ _ _ _ (ap (λ (xs : List CoreObjectTree). parameters xs (g ∷ rest) homes (state_of mid)) at) l))

pub parameters_heavy : (os : List CoreObjectTree) (i : ℕ) (o : CoreObjectTree) (g : Given) (rest : List Given) (homes : List Home) (old mid : Stock) (r : Refusal) (whole : Part (List Home))
    → drop i os ≡ o ∷ drop (i + 1) os
    → Leads old mid (parameters (drop i os) (g ∷ rest) homes (state_of mid)) whole
    → IsTooHeavy mid r (parameter o g (state_of mid)) → IsTooHeavy old r whole
parameters_heavy os i o g rest homes old mid r whole at l h =
    stops _ _ _ _ _ _ (leads_as _ _ _ _ _ (ap (λ (xs : List CoreObjectTree). parameters xs (g ∷ rest) homes (state_of mid)) at) l) h

pub parameters_end : (os : List CoreObjectTree) (homes : List Home) (old mid : Stock) (whole : Part (List Home))
    → Leads old mid (parameters os [] homes (state_of mid)) whole → IsMade old mid homes whole
parameters_end os homes old mid whole l = ends _ _ _ _ _ refl (leads_as _ _ _ _ _ (no_more_given os homes (state_of mid)) l)

found_at : (os : List CoreObjectTree) (i : ℕ) (o : CoreObjectTree) → slice_get os i ≡ Some o → drop i os ≡ o ∷ drop (i + 1) os
found_at os i o is = first_dropped os i o (slice_get_within os i o is) (sym (get_or_from_slice_get os i o o is))

pub given_turn : (os : List CoreObjectTree) (o : CoreObjectTree) (one : declared.Given) (left rest : List declared.Given) (homes after : List Home) (h : Home) (old mid new : Stock) (whole : Part (List Home))
    → left ≡ one ∷ rest → slice_get os (length homes) ≡ Some o → IsMade mid new h (parameter o (given_of one) (state_of mid)) → after ≡ homes ++ h ∷ []
    → Leads old mid (parameters (drop (length homes) os) (map given_of left) homes (state_of mid)) whole
    → Leads old new (parameters (drop (length after) os) (map given_of rest) after (state_of new)) whole
given_turn os o one left rest homes after h old mid new whole first is made pushed l =
    let count : length after ≡ length homes + 1 = ap length pushed ∙ length-append homes (h ∷ []) in
    let l1 = leads_as _ _ _ _ _ (ap (λ (gs : List declared.Given). parameters (drop (length homes) os) (map given_of gs) homes (state_of mid)) first) l in
    leads_as _ _ _ _ _ (ap (λ (n : ℕ). parameters (drop n os) (map given_of rest) after (state_of new)) (sym count))
    (parameters_turn os (length homes) o (given_of one) (map given_of rest) homes after h old mid new whole (found_at os (length homes) o is) made pushed l1)

pub given_heavy : (os : List CoreObjectTree) (o : CoreObjectTree) (one : declared.Given) (left rest : List declared.Given) (homes : List Home) (old mid : Stock) (r : Refusal) (whole : Part (List Home))
    → left ≡ one ∷ rest → slice_get os (length homes) ≡ Some o
    → Leads old mid (parameters (drop (length homes) os) (map given_of left) homes (state_of mid)) whole
    → IsTooHeavy mid r (parameter o (given_of one) (state_of mid)) → IsTooHeavy old r whole
given_heavy os o one left rest homes old mid r whole first is l h =
    let l1 = leads_as _ _ _ _ _ (ap (λ (gs : List declared.Given). parameters (drop (length homes) os) (map given_of gs) homes (state_of mid)) first) l in
    parameters_heavy os (length homes) o (given_of one) (map given_of rest) homes old mid r whole (found_at os (length homes) o is) l1 h

pub given_end : (os : List CoreObjectTree) (left : List declared.Given) (homes : List Home) (old mid : Stock) (whole : Part (List Home))
    → length left ≡ 0 → Leads old mid (parameters (drop (length homes) os) (map given_of left) homes (state_of mid)) whole → IsMade old mid homes whole
given_end os left homes old mid whole none l =
    parameters_end (drop (length homes) os) homes old mid whole
    (leads_as _ _ _ _ _ (ap (λ (gs : List declared.Given). parameters (drop (length homes) os) (map given_of gs) homes (state_of mid)) (nil_from_length left none)) l)

-- ---- objects of file scope

module _ (os : List FileObject) (i : ℕ) (o : FileObject) (old mid : Stock) (lt : i < length os) (at : o ≡ get_or os i o) where
  module _ (kept : List Kept) (whole : Part (List Kept)) (l : Leads old mid (kept_scalars (map file_object_of (drop i os)) kept (state_of mid)) whole) where
    kept_next : Leads old mid (kept_scalars (map file_object_of (o ∷ drop (i + 1) os)) kept (state_of mid)) whole
    kept_next = leads_as _ _ _ _ _ (ap (λ (xs : List FileObject). kept_scalars (map file_object_of xs) kept (state_of mid)) (first_dropped os i o lt at)) l

    pub kept_turn : (new : Stock) (k : Kept) (after : List Kept) → is_kept (file_object_of o) ≡ true → IsMade mid new k (kept_scalar (file_object_of o) (state_of mid)) → after ≡ kept ++ k ∷ []
        → Leads old new (kept_scalars (map file_object_of (drop (i + 1) os)) after (state_of new)) whole
    kept_turn new k after is h pushed =
        leads_as _ _ _ _ _ (ap (λ (ks : List Kept). kept_scalars (map file_object_of (drop (i + 1) os)) ks (state_of new)) (sym pushed))
        (goes_on _ _ _ _ _ _ _ h (leads_as _ _ _ _ _ (ap (λ (b : Bool). if b then then_ (kept_scalar (file_object_of o) (state_of mid)) (λ k s1. kept_scalars (map file_object_of (drop (i + 1) os)) (kept ++ k ∷ []) s1) else kept_scalars (map file_object_of (drop (i + 1) os)) kept (state_of mid)) is) kept_next))

    pub kept_skip : is_kept (file_object_of o) ≡ false → Leads old mid (kept_scalars (map file_object_of (drop (i + 1) os)) kept (state_of mid)) whole
    kept_skip is =
        leads_as _ _ _ _ _ (ap (λ (b : Bool). if b then then_ (kept_scalar (file_object_of o) (state_of mid)) (λ k s1. kept_scalars (map file_object_of (drop (i + 1) os)) (kept ++ k ∷ []) s1) else kept_scalars (map file_object_of (drop (i + 1) os)) kept (state_of mid)) is) kept_next

    pub kept_heavy : (r : Refusal) → is_kept (file_object_of o) ≡ true → IsTooHeavy mid r (kept_scalar (file_object_of o) (state_of mid)) → IsTooHeavy old r whole
    kept_heavy r is h =
        stops _ _ _ _ _ _ (leads_as _ _ _ _ _ (ap (λ (b : Bool). if b then then_ (kept_scalar (file_object_of o) (state_of mid)) (λ k s1. kept_scalars (map file_object_of (drop (i + 1) os)) (kept ++ k ∷ []) s1) else kept_scalars (map file_object_of (drop (i + 1) os)) kept (state_of mid)) is) kept_next) h

  module _ (kept : List Kept) (homes : List Home) (whole : Part (List Home)) (l : Leads old mid (file_homes (map file_object_of (drop i os)) kept homes (state_of mid)) whole) where
    homes_next : Leads old mid (file_homes (map file_object_of (o ∷ drop (i + 1) os)) kept homes (state_of mid)) whole
    homes_next = leads_as _ _ _ _ _ (ap (λ (xs : List FileObject). file_homes (map file_object_of xs) kept homes (state_of mid)) (first_dropped os i o lt at)) l

    pub homes_turn : (new : Stock) (h : Home) (kept1 : List Kept) (after : List Home) → IsMade mid new h (file_home (file_object_of o) kept (state_of mid)) → kept1 ≡ kept_behind (file_object_of o) kept → after ≡ homes ++ h ∷ []
        → Leads old new (file_homes (map file_object_of (drop (i + 1) os)) kept1 after (state_of new)) whole
    homes_turn new h kept1 after made behind pushed =
        leads_as _ _ _ _ _ (ap (λ (ks : List Kept). file_homes (map file_object_of (drop (i + 1) os)) ks (homes ++ h ∷ []) (state_of new)) (sym behind) ∙ ap (λ (hs : List Home). file_homes (map file_object_of (drop (i + 1) os)) kept1 hs (state_of new)) (sym pushed))
        (goes_on _ _ _ _ _ _ _ made homes_next)

    pub homes_heavy : (r : Refusal) → IsTooHeavy mid r (file_home (file_object_of o) kept (state_of mid)) → IsTooHeavy old r whole
    homes_heavy r h = stops _ _ _ _ _ _ homes_next h

pub kept_end : (os : List FileObject) (i : ℕ) (kept : List Kept) (old mid : Stock) (whole : Part (List Kept))
    → length os ≤ i → Leads old mid (kept_scalars (map file_object_of (drop i os)) kept (state_of mid)) whole → IsMade old mid kept whole
kept_end os i kept old mid whole le l =
    ends _ _ _ _ _ refl (leads_as _ _ _ _ _ (ap (λ (xs : List FileObject). kept_scalars (map file_object_of xs) kept (state_of mid)) (none_left os i le)) l)

pub homes_end : (os : List FileObject) (i : ℕ) (kept : List Kept) (homes : List Home) (old mid : Stock) (whole : Part (List Home))
    → length os ≤ i → Leads old mid (file_homes (map file_object_of (drop i os)) kept homes (state_of mid)) whole → IsMade old mid homes whole
homes_end os i kept homes old mid whole le l =
    ends _ _ _ _ _ refl (leads_as _ _ _ _ _ (ap (λ (xs : List FileObject). file_homes (map file_object_of xs) kept homes (state_of mid)) (none_left os i le)) l)

-- a scalar with this first value
pub first_is : (own : VarId) (n m : ℕ) → n ≡ m → (let k : Kept = record { variable = own; value = n } in k) ≡ record { variable = own; value = m }
first_is own n m e = ap (λ (x : ℕ). let k : Kept = record { variable = own; value = x } in k) e

pub dropped_objects : (n : ℕ) (os : List CoreObject) → map core_object_of (drop n os) ≡ drop n (map core_object_of os)
dropped_objects n os = sym (drop-map core_object_of n os)

pub taken_objects : (n : ℕ) (os : List CoreObject) → map core_object_of (take n os) ≡ take n (map core_object_of os)
taken_objects n os = sym (take-map core_object_of n os)

pub rest_of_objects : (n : ℕ) (os : List CoreObject) → map core_object_of (take (length os - n) (drop n os)) ≡ drop n (map core_object_of os)
rest_of_objects n os = ap (map core_object_of) (ap (λ (k : ℕ). take k (drop n os)) (sym (length-drop n os)) ∙ take-length (drop n os)) ∙ dropped_objects n os
