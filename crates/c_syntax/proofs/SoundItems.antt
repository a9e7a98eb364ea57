-- A goal reads a token and what the goals read that it leaves: functions and items.
use Rattle.std.proofs.Common.{◌≡◌, ℕ, Bool, true, false, List, [], ◌∷◌, ◌++◌, codes, Some, None, refl, ap, sym, ◌∙◌, subst, append_assoc}
use Rattle.hls_base.specs.declared.place.Place.{Place}
use Rattle.c_token.specs.declared.punct.Punct.TheVariants as p
use Rattle.c_token.specs.declared.token.TokenKind.TheVariants as k
use Rattle.c_tree.specs.declared.specifier.Specifier.TheVariants as s
use Rattle.c_tree.specs.Terminals.{Terminal, terminal, sign, word, is_keyword}
use Rattle.c_tree.specs.Tree as tree
use Rattle.c_tree.specs.Kinds.{DerivesKind}
use Rattle.c_tree.specs.Grammar as g
use Rattle.c_tree.proofs.Firsts.{kind_first, first_begins}
use Rattle.c_syntax.specs.declared.steps.goal.Goal.TheVariants as G
use Rattle.c_syntax.specs.declared.steps.goal.Spot.{Spot}
use Rattle.c_syntax.specs.declared.sorts.sort.Sort.{Sort}
use Rattle.c_syntax.specs.declared.sorts.words.Words.{Words}
use Rattle.c_syntax.specs.Steps.{deeper, item, items, function_name, declarator, after_declarator, definition, params, more_params, param_goals, optional_name, kind}
use Rattle.c_syntax.specs.Sorts.Words.{starting}
use Rattle.c_syntax.proofs.Seen.{Seen, specifier_spelled}
use Rattle.c_syntax.proofs.Seen as seen
use Rattle.c_syntax.proofs.TypeWords.{is_words}
use Rattle.c_syntax.proofs.Reading.{IsSign, the_sign, IsOptionalName, no_name, a_name, IsKind, IsResult, HasWords, AreConst, IsObject, AreObjects, AreLengths, IsInitialiser, IsParam, IsParamList, AreParams, IsDefinition, IsItem, AreItems, Behind, BehindName, Reads, ReadsAll}
use Rattle.c_syntax.proofs.Sound.{Sound, at_end, one, two, split, behind_sound, other_sound}
use Rattle.c_syntax.proofs.SoundTypes.{one_const_more, has_started, name_started, has_read, value_kind, no_const, sound_kind, lengths_read}
use Rattle.c_syntax.proofs.SoundStatements.{block_read}

-- ---- the type of an item

abbrev ConstItem : List Terminal → Type 0
ConstItem ts = Behind AreConst IsItem ts

flat : (us : List Terminal) (t : Terminal) (ks ds : List Terminal) → ((us ++ t ∷ []) ++ ks) ++ ds ≡ us ++ t ∷ (ks ++ ds)
flat us t ks ds = append_assoc (us ++ t ∷ []) ks ds ∙ append_assoc us (t ∷ []) (ks ++ ds)

valued : (us ts : List Terminal) (words : Words) (t : Terminal) → is_words words ≡ true → HasWords words (us ++ t ∷ []) → {d : ℕ} → ReadsAll (G.KindWords words d ∷ G.Declarator ∷ []) ts → IsItem (us ++ t ∷ ts)
valued us ts words t e h r =
    two (λ x. IsItem (us ++ t ∷ x)) r (λ ks ds f d.
    subst IsItem (flat us t ks ds) (one d ((us ++ t ∷ []) ++ ks) (value_kind words ((us ++ t ∷ []) ++ ks) e (f (us ++ t ∷ []) (has_read words (us ++ t ∷ []) e h)))))

sound_const_item : (spot : Spot) (sort : Sort) (t : Terminal) → Seen sort t → Sound ConstItem (item spot true sort) t
sound_const_item spot _ _ (seen.const_ at) = λ ts r us c. subst IsItem (append_assoc us (word (codes "const") at ∷ []) ts) (one r (us ++ word (codes "const") at ∷ []) (one_const_more us at c))
sound_const_item spot _ _ (seen.type_name type at) = λ ts r us c.
    let t = terminal (k.TypeWord type) at in
    two (λ x. IsItem (us ++ t ∷ x)) r (λ ks ds f d. subst IsItem (flat us t ks ds) (one d ((us ++ t ∷ []) ++ ks) (f (us ++ t ∷ []) (name_started us type at c))))
sound_const_item spot _ _ (seen.specifier s.Void text at e) = λ ts r us c.
    let t = word text at in
    two (λ x. IsItem (us ++ t ∷ x)) r (λ ks ds f d. subst IsItem (flat us t ks ds) (one d ((us ++ t ∷ []) ++ ks) (f (us ++ t ∷ []) (has_started us text s.Void at e c))))
sound_const_item spot _ _ (seen.specifier s.Bool text at e) = λ ts r us c. valued us ts (starting s.Bool) (word text at) refl (has_started us text s.Bool at e c) r
sound_const_item spot _ _ (seen.specifier s.Char text at e) = λ ts r us c. valued us ts (starting s.Char) (word text at) refl (has_started us text s.Char at e c) r
sound_const_item spot _ _ (seen.specifier s.Short text at e) = λ ts r us c. valued us ts (starting s.Short) (word text at) refl (has_started us text s.Short at e c) r
sound_const_item spot _ _ (seen.specifier s.Int text at e) = λ ts r us c. valued us ts (starting s.Int) (word text at) refl (has_started us text s.Int at e c) r
sound_const_item spot _ _ (seen.specifier s.Long text at e) = λ ts r us c. valued us ts (starting s.Long) (word text at) refl (has_started us text s.Long at e c) r
sound_const_item spot _ _ (seen.specifier s.Signed text at e) = λ ts r us c. valued us ts (starting s.Signed) (word text at) refl (has_started us text s.Signed at e c) r
sound_const_item spot _ _ (seen.specifier s.Unsigned text at e) = λ ts r us c. valued us ts (starting s.Unsigned) (word text at) refl (has_started us text s.Unsigned at e c) r
sound_const_item spot _ _ _ = tt

sound_plain_item : (spot : Spot) (sort : Sort) (t : Terminal) → Seen sort t → Sound IsItem (item spot false sort) t
sound_plain_item spot _ _ (seen.static_ at) = λ ts r. let i = one r in (i.0, g.a_static at ts i.0 i.1)
sound_plain_item spot _ _ (seen.inline_ at) = λ ts r. let i = one r in (i.0, g.an_inline at ts i.0 i.1)
sound_plain_item spot sort t s = other_sound ConstItem IsItem (item spot true sort) t (sound_const_item spot sort t s) (λ us f. f [] no_const)

pub sound_item : (spot : Spot) (constant : Bool) (sort : Sort) (t : Terminal) → Seen sort t → Sound (Reads (G.Item constant)) (item spot constant sort) t
sound_item spot true sort t s = sound_const_item spot sort t s
sound_item spot false sort t s = sound_plain_item spot sort t s

pub sound_items : (spot : Spot) (sort : Sort) (t : Terminal) → Seen sort t → Sound AreItems (items spot sort) t
sound_items spot sort t s =
    behind_sound IsItem AreItems (G.Items ∷ []) (item spot false sort) t (sound_plain_item spot sort t s) (λ us vs i r. let l = one r in (i.0 ∷ l.0, g.more_items (t ∷ us) vs i.0 l.0 i.1 l.1))

-- ---- functions

function_read : (us : List Terminal) → IsResult us → (text : List ℕ) (at : Place) → is_keyword text ≡ false → {os : List Terminal} → IsSign p.LeftParen os → (ps : List Terminal) → AreParams ps
    → {cs : List Terminal} → IsSign p.RightParen cs → (bs : List Terminal) → IsDefinition bs → IsItem (us ++ word text at ∷ (os ++ (ps ++ (cs ++ bs))))
function_read us u text at free (the_sign opens) ps a (the_sign closes) bs b =
    (tree.function (record { name = text; at = at; result = u.0; params = a.0; body = b.0 }), g.a_function u.0 u.1 us ps bs text at opens closes a.0 b.0 u.2 free a.1 b.1)

pub sound_function_name : (spot : Spot) (sort : Sort) (t : Terminal) → Seen sort t → Sound (Behind IsResult IsItem) (function_name spot sort) t
sound_function_name spot _ _ (seen.name text at free) = λ ts r us u.
    two (λ x. IsItem (us ++ word text at ∷ x)) r (λ os x o a. two (λ x. IsItem (us ++ word text at ∷ (os ++ x))) a (λ ps x y b.
    two (λ x. IsItem (us ++ word text at ∷ (os ++ (ps ++ x)))) b (λ cs bs c d. function_read us u text at free o ps y c bs (one d))))
sound_function_name spot _ _ _ = tt

pub sound_declarator : (spot : Spot) (sort : Sort) (t : Terminal) → Seen sort t → Sound (Behind IsKind IsItem) (declarator spot sort) t
sound_declarator spot _ _ (seen.name text at free) = λ ts r us u. one r us u text at free
sound_declarator spot _ _ _ = tt

-- ---- objects of an item

named_object : (us : List Terminal) (u : IsKind us) (text : List ℕ) (at : Place) → is_keyword text ≡ false → (ls : List Terminal) → AreLengths ls → (is : List Terminal) → IsInitialiser is
    → IsObject u.0 u.1 (word text at ∷ (ls ++ is))
named_object us u text at free ls l is i = (
  record { name = text; at = at; kind = u.0; constant = u.1; lengths = l.0; init = i.0 },
  g.an_object u.0 u.1 text at ls is l.0 i.0 free l.1 i.1,
)

objects_read : (us : List Terminal) (u : IsKind us) (os : List Terminal) → AreObjects u.0 u.1 os → {cs : List Terminal} → IsSign p.Semicolon cs → IsItem (us ++ (os ++ cs))
objects_read us u os o (the_sign ends) = (tree.objects o.0, g.some_objects (us ++ (os ++ sign p.Semicolon ends ∷ [])) o.0 (g.a_declaration u.0 u.1 us os o.0 ends u.2 o.1))

-- an object, more of them, and the semicolon
objects_end : (us : List Terminal) (u : IsKind us) (os : List Terminal) → IsObject u.0 u.1 os → {d e : ℕ} {ts : List Terminal} → ReadsAll (G.MoreObjects d ∷ G.Semicolon e ∷ []) ts → IsItem (us ++ (os ++ ts))
objects_end us u os o r = two (λ x. IsItem (us ++ (os ++ x))) r (λ ms cs f c. subst (λ x. IsItem (us ++ x)) (append_assoc os ms cs) (objects_read us u (os ++ ms) (f u.0 u.1 os o) (one c)))

abbrev AfterName : List Terminal → Type 0
AfterName ts = (us : List Terminal) → IsKind us → BehindName (λ vs. IsItem (us ++ vs)) ts

no_lengths : AreLengths []
no_lengths = ([], g.no_length)

no_init : IsInitialiser []
no_init = (None, g.no_initialiser)

pub sound_after_declarator : (spot : Spot) (sort : Sort) (t : Terminal) → Seen sort t → Sound AfterName (after_declarator spot sort) t
sound_after_declarator spot _ _ (seen.left_paren opens) = λ ts r us u text at free.
    two (λ x. IsItem (us ++ word text at ∷ sign p.LeftParen opens ∷ x)) r (λ ps x y b. two (λ x. IsItem (us ++ word text at ∷ sign p.LeftParen opens ∷ (ps ++ x))) b (λ cs bs c d.
    function_read us (Some u.0, u.1, u.2) text at free (the_sign opens) ps y c bs (one d)))
sound_after_declarator spot _ _ (seen.semicolon ends) = λ ts r us u text at free.
    at_end (λ x. IsItem (us ++ word text at ∷ sign p.Semicolon ends ∷ x)) r
    (let o = named_object us u text at free [] no_lengths [] no_init in
    objects_read us u (word text at ∷ []) (o.0 ∷ [], g.last_object u.0 u.1 (word text at ∷ []) o.0 o.1) (the_sign ends))
sound_after_declarator spot _ _ (seen.left_bracket opens) = λ ts r us u text at free.
    let x = split (G.OptionalChoice (deeper 0) ∷ G.CloseBracket 0 0 ∷ G.Lengths 0 ∷ []) (G.Initialiser 0 ∷ G.MoreObjects 0 ∷ G.Semicolon 0 ∷ []) r in
    subst (λ y. IsItem (us ++ word text at ∷ sign p.LeftBracket opens ∷ y)) (sym x.shape)
    (two (λ y. IsItem (us ++ word text at ∷ sign p.LeftBracket opens ∷ (x.front ++ y))) x.second (λ is ms i m.
    subst (λ y. IsItem (us ++ word text at ∷ sign p.LeftBracket opens ∷ y)) (append_assoc x.front is ms)
    (objects_end us u (word text at ∷ sign p.LeftBracket opens ∷ (x.front ++ is))
    (named_object us u text at free (sign p.LeftBracket opens ∷ x.front) (lengths_read opens x.first) is i) m)))
sound_after_declarator spot _ _ (seen.equal to) = λ ts r us u text at free.
    two (λ x. IsItem (us ++ word text at ∷ sign p.Equal to ∷ x)) r (λ is ms i m.
    objects_end us u (word text at ∷ sign p.Equal to ∷ is) (named_object us u text at free [] no_lengths (sign p.Equal to ∷ is) (Some i.0, g.an_initialiser to is i.0 i.1)) m)
sound_after_declarator spot _ _ (seen.comma to) = λ ts r us u text at free.
    two (λ x. IsItem (us ++ word text at ∷ sign p.Comma to ∷ x)) r (λ os x o m. two (λ x. IsItem (us ++ word text at ∷ sign p.Comma to ∷ (os ++ x))) m (λ ms cs f c.
    let first = named_object us u text at free [] no_lengths [] no_init in
    let l = f u.0 u.1 os (o u.0 u.1) in
    subst (λ y. IsItem (us ++ word text at ∷ sign p.Comma to ∷ y)) (append_assoc os ms cs)
    (objects_read us u (word text at ∷ sign p.Comma to ∷ (os ++ ms)) (first.0 ∷ l.0, g.more_objects u.0 u.1 to (word text at ∷ []) (os ++ ms) first.0 l.0 first.1 l.1) (one c))))
sound_after_declarator spot _ _ _ = tt

pub sound_definition : (spot : Spot) (sort : Sort) (t : Terminal) → Seen sort t → Sound IsDefinition (definition spot sort) t
sound_definition spot _ _ (seen.semicolon ends) = λ ts r. at_end (λ x. IsDefinition (sign p.Semicolon ends ∷ x)) r (None, g.declared_only ends)
sound_definition spot _ _ (seen.left_brace at) = λ ts r. let b = block_read at (one r) in (Some b.0, g.defined (sign p.LeftBrace at ∷ ts) b.0 b.1)
sound_definition spot _ _ _ = tt

-- ---- parameters

param_with : (t : Terminal) (ks : List Terminal) → IsKind (t ∷ ks) → {ns : List Terminal} → IsOptionalName ns → (ls : List Terminal) → AreLengths ls → IsParam (t ∷ (ks ++ (ns ++ ls)))
param_with t ks i no_name ls l = (
  record { object = record { name = []; at = t.at; kind = i.0; constant = i.1; lengths = l.0; init = None }; named = false },
  g.unnamed_param i.0 i.1 t ks ls l.0 i.2 l.1,
)
param_with t ks i (a_name text at free) ls l = (
  record { object = record { name = text; at = at; kind = i.0; constant = i.1; lengths = l.0; init = None }; named = true },
  g.named_param i.0 i.1 (t ∷ ks) ls text at l.0 i.2 free l.1,
)

params_read : (t : Terminal) (ks : List Terminal) → IsKind (t ∷ ks) → {d e : ℕ} {ts : List Terminal} → ReadsAll (G.OptionalName d ∷ G.Lengths e ∷ G.MoreParams ∷ []) ts → IsParamList (t ∷ (ks ++ ts))
params_read t ks i r =
    two (λ x. IsParamList (t ∷ (ks ++ x))) r (λ ns x n a. two (λ x. IsParamList (t ∷ (ks ++ (ns ++ x)))) a (λ ls ms l f.
    subst (λ x. IsParamList (t ∷ x)) (append_assoc ks (ns ++ ls) ms ∙ ap (λ x. ks ++ x) (append_assoc ns ls ms)) (one f (t ∷ (ks ++ (ns ++ ls))) (param_with t ks i n ls l))))

some_first : (ks : List Terminal) → first_begins ks ≡ true → (t : Terminal) × (us : List Terminal) × (ks ≡ t ∷ us)
some_first [] e = absurd cc
some_first (t ∷ us) e = (t, us, refl)

any_params : (ks : List Terminal) → IsKind ks → {d e : ℕ} {ts : List Terminal} → ReadsAll (G.OptionalName d ∷ G.Lengths e ∷ G.MoreParams ∷ []) ts → IsParamList (ks ++ ts)
any_params ks i {ts = ts} r =
    let f = some_first ks (kind_first i.2) in
    subst (λ x. IsParamList (x ++ ts)) (sym f.2) (params_read f.0 f.1 (i.0, i.1, subst (λ x. DerivesKind x (Some i.0) i.1) f.2 i.2) r)

pub sound_params : (spot : Spot) (sort : Sort) (t : Terminal) → Seen sort t → Sound AreParams (params spot sort) t
sound_params spot _ _ (seen.specifier s.Void text at e) = λ ts r.
    at_end (λ x. AreParams (word text at ∷ x)) r (subst (λ x. AreParams (word x at ∷ [])) (sym (specifier_spelled text s.Void e)) ([], g.void_alone at))
sound_params spot sort t s =
    behind_sound (Behind AreConst IsKind) AreParams param_goals (kind spot (deeper 0) sort) t (sound_kind spot (deeper 0) sort t s)
    (λ us vs i r. let l = params_read t us (i [] no_const) r in (l.0, g.params (t ∷ (us ++ vs)) l.0 l.1))

pub sound_more_params : (spot : Spot) (sort : Sort) (t : Terminal) → Seen sort t → Sound (Behind IsParam IsParamList) (more_params spot sort) t
sound_more_params spot _ _ (seen.comma at) = λ ts r us u.
    two (λ x. IsParamList (us ++ sign p.Comma at ∷ x)) r (λ ks vs i f. let l = any_params ks (i [] no_const) f in (u.0 ∷ l.0, g.more_params at us (ks ++ vs) u.0 l.0 u.1 l.1))
sound_more_params spot _ _ _ = tt

pub sound_optional_name : (spot : Spot) (depth : ℕ) (sort : Sort) (t : Terminal) → Seen sort t → Sound IsOptionalName (optional_name spot depth sort) t
sound_optional_name spot depth _ _ (seen.name text at free) = λ ts r. at_end (λ x. IsOptionalName (word text at ∷ x)) r (a_name text at free)
sound_optional_name spot depth _ _ _ = tt
