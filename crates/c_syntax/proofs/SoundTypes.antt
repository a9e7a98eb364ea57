-- A goal reads a token and what the goals read that it leaves: types and objects.
use Rattle.std.proofs.Common.{◌≡◌, ℕ, Bool, true, false, List, [], ◌∷◌, ◌++◌, codes, Option, Some, None, refl, ap, sym, ◌∙◌, subst, arith, append_assoc, append-nil}
use Rattle.std.specs.Prelude.{◌||◌}
use Rattle.hls_base.specs.declared.place.Place.{Place}
use Rattle.c_token.specs.declared.ctype.CType.{CType}
use Rattle.c_token.specs.declared.punct.Punct.TheVariants as p
use Rattle.c_token.specs.declared.token.TokenKind.TheVariants as k
use Rattle.c_tree.specs.declared.specifier.Specifier.{Specifier}
use Rattle.c_tree.specs.declared.specifier.Specifier.TheVariants as s
use Rattle.c_tree.specs.Terminals.{Terminal, terminal, sign, word}
use Rattle.c_tree.specs.Tree as tree
use Rattle.c_tree.specs.Kinds.{DerivesWords, DerivesKind, type_of_words, specifier_of}
use Rattle.c_tree.specs.Kinds as kinds
use Rattle.c_tree.specs.Grammar as g
use Rattle.c_tree.specs.Grammar.{unary_level, choice_level, assign_level, comma_level}
use Rattle.c_syntax.specs.declared.steps.goal.Goal.TheVariants as G
use Rattle.c_syntax.specs.declared.steps.goal.Spot.{Spot}
use Rattle.c_syntax.specs.declared.sorts.sort.Sort.{Sort}
use Rattle.c_syntax.specs.declared.sorts.words.Words.{Words}
use Rattle.c_syntax.specs.declared.sorts.words.Words.TheVariants as w
use Rattle.c_syntax.specs.Sorts.{begins_kind}
use Rattle.c_syntax.specs.Steps.{behind, fresh, deeper, typed_if, kind, kind_words, group, object, more_objects, lengths, initialiser, init, more_inits, optional_init, object_goals, declaration, expression, assign}
use Rattle.c_syntax.specs.Sorts.Words.{with_word, starting}
use Rattle.c_syntax.proofs.Seen.{Seen}
use Rattle.c_syntax.proofs.Seen as seen
use Rattle.c_syntax.proofs.TypeWords.{Same, words_of, is_words, grows, grown, starts, type_of-Same, value_type, same_more, same_trans}
use Rattle.c_syntax.proofs.Attach.{Is, is_looser}
use Rattle.c_syntax.proofs.Reading.{IsSign, the_sign, IsKind, IsResult, HasWords, HasName, HasRead, IsType, AreConst, IsObject, AreObjects, IsDeclaration, IsInit, AreInits, AreLengths, IsInitialiser, IsOptional, Behind, ReadsAll}
use Rattle.c_syntax.proofs.Sound.{Sound, one, two, behind_sound, other_sound, either_sound, sound_expression, sound_assign}

-- ---- words one after another

pub record Joined (ts us : List Terminal) (vs ws : List Specifier) : Type 0 where
  pub constant : Bool
  pub derives : DerivesWords (ts ++ us) (vs ++ ws) constant

pub join_words : {ts : List Terminal} {vs : List Specifier} {c : Bool} → DerivesWords ts vs c → {us : List Terminal} {ws : List Specifier} {d : Bool} → DerivesWords us ws d → Joined ts us vs ws
join_words kinds.no_word {us} {ws} {d} e = record { constant = d; derives = e }
join_words (kinds.a_const at ts words c d) {us} {ws} e =
    let j = join_words d e in record { constant = true; derives = kinds.a_const at (ts ++ us) (words ++ ws) j.constant j.derives }
join_words (kinds.a_specifier text v at ts words c f d) {us} {ws} e =
    let j = join_words d e in record { constant = j.constant; derives = kinds.a_specifier text v at (ts ++ us) (words ++ ws) j.constant f j.derives }

const_alone : (at : Place) → DerivesWords (word (codes "const") at ∷ []) [] true
const_alone at = kinds.a_const at [] [] false kinds.no_word

pub one_const_more : (us : List Terminal) (at : Place) → AreConst us → AreConst (us ++ word (codes "const") at ∷ [])
one_const_more us at c = let j = join_words c.1 (const_alone at) in (j.constant, j.derives)

specifier_alone : (text : List ℕ) (v : Specifier) (at : Place) → specifier_of text ≡ Some v → DerivesWords (word text at ∷ []) (v ∷ []) false
specifier_alone text v at e = kinds.a_specifier text v at [] [] false e kinds.no_word

-- the first word of a type
pub has_started : (us : List Terminal) (text : List ℕ) (v : Specifier) (at : Place) → specifier_of text ≡ Some v → AreConst us → HasWords (starting v) (us ++ word text at ∷ [])
has_started us text v at e c =
    let j = join_words c.1 (specifier_alone text v at e) in let st = starts v in
    record { state = st.1; all = v ∷ []; constant = j.constant; derives = j.derives; same = st.0 }

-- one word more
pub has_grown : (us : List Terminal) (words new : Words) (text : List ℕ) (v : Specifier) (at : Place) → specifier_of text ≡ Some v → with_word words v ≡ Some new → HasWords words us
    → HasWords new (us ++ word text at ∷ [])
has_grown us words new text v at e f h =
    let j = join_words h.derives (specifier_alone text v at e) in let gr = grows words new v h.state f in
    record { state = gr.1; all = h.all ++ v ∷ []; constant = j.constant; derives = j.derives; same = same_trans (h.all ++ v ∷ []) (v ∷ words_of words) (words_of new) (same_more h.all (words_of words) v h.same) gr.0 }

pub has_const : (us : List Terminal) (words : Words) (at : Place) → HasWords words us → HasWords words (us ++ word (codes "const") at ∷ [])
has_const us words at h =
    let j = join_words h.derives (const_alone at) in
    record { state = h.state; all = h.all ++ []; constant = j.constant; derives = j.derives; same = subst (λ x. Same x (words_of words)) (sym (append-nil h.all)) h.same }

name_const : (us : List Terminal) (at : Place) → HasName us → HasName (us ++ word (codes "const") at ∷ [])
name_const us at h =
    let j = join_words h.derives_behind (const_alone at) in
    record {
      before = h.before;
      behind = h.behind ++ word (codes "const") at ∷ [];
      kind = h.kind;
      at = h.at;
      const_before = h.const_before;
      const_behind = j.constant;
      shape = ap (λ x. x ++ word (codes "const") at ∷ []) h.shape ∙ append_assoc h.before (terminal (k.TypeWord h.kind) h.at ∷ h.behind) (word (codes "const") at ∷ []);
      derives_before = h.derives_before;
      derives_behind = j.derives;
    }

pub name_started : (us : List Terminal) (type : CType) (at : Place) → AreConst us → HasName (us ++ terminal (k.TypeWord type) at ∷ [])
name_started us type at c = record {
  before = us;
  behind = [];
  kind = type;
  at = at;
  const_before = c.0;
  const_behind = false;
  shape = refl;
  derives_before = c.1;
  derives_behind = kinds.no_word;
}

pub read_const : (words : Words) (us : List Terminal) (at : Place) → HasRead words us → HasRead words (us ++ word (codes "const") at ∷ [])
read_const w.Named us at h = name_const us at h
read_const w.Void us at h = has_const us w.Void at h
read_const w.Bool us at h = has_const us w.Bool at h
read_const (w.Char sign) us at h = has_const us (w.Char sign) at h
read_const (w.Short sign int) us at h = has_const us (w.Short sign int) at h
read_const (w.Int sign int) us at h = has_const us (w.Int sign int) at h
read_const (w.Long sign int) us at h = has_const us (w.Long sign int) at h
read_const (w.LongLong sign int) us at h = has_const us (w.LongLong sign int) at h

-- words of a value
pub has_read : (words : Words) (us : List Terminal) → is_words words ≡ true → HasWords words us → HasRead words us
has_read w.Named us e h = absurd cc
has_read w.Void us e h = h
has_read w.Bool us e h = h
has_read (w.Char sign) us e h = h
has_read (w.Short sign int) us e h = h
has_read (w.Int sign int) us e h = h
has_read (w.Long sign int) us e h = h
has_read (w.LongLong sign int) us e h = h

pub read_words : (words : Words) (us : List Terminal) → is_words words ≡ true → HasRead words us → HasWords words us
read_words w.Named us e h = absurd cc
read_words w.Void us e h = h
read_words w.Bool us e h = h
read_words (w.Char sign) us e h = h
read_words (w.Short sign int) us e h = h
read_words (w.Int sign int) us e h = h
read_words (w.Long sign int) us e h = h
read_words (w.LongLong sign int) us e h = h

pub value_kind : (words : Words) (us : List Terminal) → is_words words ≡ true → IsType words us → IsKind us
value_kind w.Named us e h = h
value_kind w.Void us e h = absurd cc
value_kind w.Bool us e h = h
value_kind (w.Char sign) us e h = h
value_kind (w.Short sign int) us e h = h
value_kind (w.Int sign int) us e h = h
value_kind (w.Long sign int) us e h = h
value_kind (w.LongLong sign int) us e h = h

kind_type : (words : Words) (us : List Terminal) → is_words words ≡ true → IsKind us → IsType words us
kind_type w.Named us e h = h
kind_type w.Void us e h = absurd cc
kind_type w.Bool us e h = h
kind_type (w.Char sign) us e h = h
kind_type (w.Short sign int) us e h = h
kind_type (w.Int sign int) us e h = h
kind_type (w.Long sign int) us e h = h
kind_type (w.LongLong sign int) us e h = h

-- ---- the end of a type

name_type : (us : List Terminal) → HasName us → IsKind us
name_type us h = (
  h.kind,
  h.const_before || h.const_behind,
  subst (λ x. DerivesKind x (Some h.kind) (h.const_before || h.const_behind)) (sym h.shape)
      (kinds.of_name h.before h.behind h.kind h.at h.const_before h.const_behind h.derives_before h.derives_behind),
)

words_type : (words : Words) (us : List Terminal) → is_words words ≡ true → HasWords words us → IsKind us
words_type words us e h =
    let t = value_type words e h.state in (t.0, h.constant, kinds.of_words us h.all (Some t.0) h.constant h.derives (type_of-Same h.all (words_of words) h.same ∙ t.1))

void_type : (us : List Terminal) → HasWords w.Void us → IsResult us
void_type us h = (None, h.constant, kinds.of_words us h.all None h.constant h.derives (type_of-Same h.all (s.Void ∷ []) h.same ∙ refl))

pub read_type : (words : Words) (us : List Terminal) → HasRead words us → IsType words us
read_type w.Named us h = name_type us h
read_type w.Void us h = void_type us h
read_type w.Bool us h = words_type w.Bool us refl h
read_type (w.Char sign) us h = words_type (w.Char sign) us refl h
read_type (w.Short sign int) us h = words_type (w.Short sign int) us refl h
read_type (w.Int sign int) us h = words_type (w.Int sign int) us refl h
read_type (w.Long sign int) us h = words_type (w.Long sign int) us refl h
read_type (w.LongLong sign int) us h = words_type (w.LongLong sign int) us refl h

-- ---- types

started : (us ts : List Terminal) (words : Words) (t : Terminal) → is_words words ≡ true → HasWords words (us ++ t ∷ []) → Behind (HasRead words) (IsType words) ts → IsKind (us ++ t ∷ ts)
started us ts words t e h f =
    subst IsKind (append_assoc us (t ∷ []) ts) (value_kind words ((us ++ t ∷ []) ++ ts) e (f (us ++ t ∷ []) (has_read words (us ++ t ∷ []) e h)))

pub sound_kind : (spot : Spot) (depth : ℕ) (sort : Sort) (t : Terminal) → Seen sort t → Sound (Behind AreConst IsKind) (kind spot depth sort) t
sound_kind spot depth _ _ (seen.const_ at) = λ ts r us c. subst IsKind (append_assoc us (word (codes "const") at ∷ []) ts) (one r (us ++ word (codes "const") at ∷ []) (one_const_more us at c))
sound_kind spot depth _ _ (seen.type_name type at) = λ ts r us c.
    subst IsKind (append_assoc us (terminal (k.TypeWord type) at ∷ []) ts) (one r (us ++ terminal (k.TypeWord type) at ∷ []) (name_started us type at c))
sound_kind spot depth _ _ (seen.specifier s.Void text at e) = tt
sound_kind spot depth _ _ (seen.specifier s.Bool text at e) = λ ts r us c. started us ts (starting s.Bool) (word text at) refl (has_started us text s.Bool at e c) (one r)
sound_kind spot depth _ _ (seen.specifier s.Char text at e) = λ ts r us c. started us ts (starting s.Char) (word text at) refl (has_started us text s.Char at e c) (one r)
sound_kind spot depth _ _ (seen.specifier s.Short text at e) = λ ts r us c. started us ts (starting s.Short) (word text at) refl (has_started us text s.Short at e c) (one r)
sound_kind spot depth _ _ (seen.specifier s.Int text at e) = λ ts r us c. started us ts (starting s.Int) (word text at) refl (has_started us text s.Int at e c) (one r)
sound_kind spot depth _ _ (seen.specifier s.Long text at e) = λ ts r us c. started us ts (starting s.Long) (word text at) refl (has_started us text s.Long at e c) (one r)
sound_kind spot depth _ _ (seen.specifier s.Signed text at e) = λ ts r us c. started us ts (starting s.Signed) (word text at) refl (has_started us text s.Signed at e c) (one r)
sound_kind spot depth _ _ (seen.specifier s.Unsigned text at e) = λ ts r us c. started us ts (starting s.Unsigned) (word text at) refl (has_started us text s.Unsigned at e c) (one r)
sound_kind spot depth _ _ _ = tt

sound_with : (spot : Spot) (depth : ℕ) (words : Words) (text : List ℕ) (v : Specifier) (at : Place) (new : Option Words) → specifier_of text ≡ Some v → with_word words v ≡ new
    → Sound (Behind (HasRead words) (IsType words)) (typed_if spot depth new) (word text at)
sound_with spot depth words text v at None e f = tt
sound_with spot depth words text v at (Some new) e f = λ ts r us h.
    let gr = grown words new v f in
    kind_type words (us ++ word text at ∷ ts) gr.0
    (started us ts new (word text at) gr.1 (has_grown us words new text v at e f (read_words words us gr.0 h)) (one r))

pub sound_kind_words : (spot : Spot) (words : Words) (depth : ℕ) (sort : Sort) (t : Terminal) → Seen sort t → Sound (Behind (HasRead words) (IsType words)) (kind_words spot words depth sort) t
sound_kind_words spot words depth _ _ (seen.const_ at) = λ ts r us h.
    subst (IsType words) (append_assoc us (word (codes "const") at ∷ []) ts) (one r (us ++ word (codes "const") at ∷ []) (read_const words us at h))
sound_kind_words spot words depth _ _ (seen.specifier v text at e) = sound_with spot depth words text v at (with_word words v) e refl
sound_kind_words spot words depth _ _ _ = tt

pub no_const : AreConst []
no_const = (false, kinds.no_word)

-- ---- behind a parenthesis

casted : (at : Place) (ks : List Terminal) → IsKind ks → {cs : List Terminal} → IsSign p.RightParen cs → (os : List Terminal) → Is unary_level os → Is unary_level (sign p.LeftParen at ∷ (ks ++ (cs ++ os)))
casted at ks i (the_sign closes) os o = (tree.cast i.0 o.0 at, g.a_cast at closes ks os i.0 i.1 o.0 i.2 o.1)

grouped : (at : Place) (es : List Terminal) → Is comma_level es → {cs : List Terminal} → IsSign p.RightParen cs → Is unary_level (sign p.LeftParen at ∷ (es ++ cs))
grouped at es i (the_sign closes) = is_looser 2 0 (sign p.LeftParen at ∷ (es ++ sign p.RightParen closes ∷ [])) (omega arith) (i.0, g.a_group at closes es i.0 i.1)

pub sound_group : (spot : Spot) (depth : ℕ) (sort : Sort) (t : Terminal) → Seen sort t → Sound (λ ts. (at : Place) → Is unary_level (sign p.LeftParen at ∷ ts)) (group spot depth sort) t
sound_group spot depth sort t s =
    let P : List Terminal → Type 0 = λ ts. (at : Place) → Is unary_level (sign p.LeftParen at ∷ ts) in
    either_sound P (begins_kind sort) (behind (G.CloseParen depth spot.count ∷ G.Operand (deeper depth) ∷ []) (kind spot (deeper depth) sort))
    (behind (G.CloseParen depth spot.count ∷ []) (expression (fresh spot) (deeper depth) sort)) t
    (behind_sound (Behind AreConst IsKind) P (G.CloseParen depth spot.count ∷ G.Operand (deeper depth) ∷ []) (kind spot (deeper depth) sort) t (sound_kind spot (deeper depth) sort t s)
    (λ us vs i r at. two (λ x. Is unary_level (sign p.LeftParen at ∷ t ∷ (us ++ x))) r (λ cs os c o. casted at (t ∷ us) (i [] no_const) c os (one o))))
    (behind_sound (Is comma_level) P (G.CloseParen depth spot.count ∷ []) (expression (fresh spot) (deeper depth) sort) t (sound_expression (fresh spot) (deeper depth) sort t s)
    (λ us vs i r at. grouped at (t ∷ us) i (one r)))

-- ---- objects

pub sound_object : (spot : Spot) (depth : ℕ) (sort : Sort) (t : Terminal) → Seen sort t → Sound (λ ts. (type : CType) (constant : Bool) → IsObject type constant ts) (object spot depth sort) t
sound_object spot depth _ _ (seen.name text at free) = λ ts r type constant.
    two (λ x. IsObject type constant (word text at ∷ x)) r (λ us vs l i.
    let init = one i in (
      record { name = text; at = at; kind = type; constant = constant; lengths = l.0; init = init.0 },
      g.an_object type constant text at us vs l.0 init.0 free l.1 init.1,
    ))
sound_object spot depth _ _ _ = tt

pub sound_more_objects : (spot : Spot) (depth : ℕ) (sort : Sort) (t : Terminal) → Seen sort t
    → Sound (λ ts. (type : CType) (constant : Bool) → Behind (IsObject type constant) (AreObjects type constant) ts) (more_objects spot depth sort) t
sound_more_objects spot depth _ _ (seen.comma at) = λ ts r type constant us u.
    two (λ x. AreObjects type constant (us ++ sign p.Comma at ∷ x)) r (λ vs rest v f.
    let l = one f type constant vs (v type constant) in (u.0 ∷ l.0, g.more_objects type constant at us (vs ++ rest) u.0 l.0 u.1 l.1))
sound_more_objects spot depth _ _ _ = tt

length_read : (at : Place) (es : List Terminal) → IsOptional choice_level es → {cs : List Terminal} → IsSign p.RightBracket cs → (ls : List Terminal) → AreLengths ls → AreLengths (sign p.LeftBracket at ∷ (es ++ (cs ++ ls)))
length_read at es e (the_sign closes) ls l = (e.0 ∷ l.0, g.a_length at closes es ls e.0 l.0 e.1 l.1)

pub lengths_read : (at : Place) {d e f count : ℕ} {ts : List Terminal} → ReadsAll (G.OptionalChoice d ∷ G.CloseBracket e count ∷ G.Lengths f ∷ []) ts → AreLengths (sign p.LeftBracket at ∷ ts)
lengths_read at r = two (λ x. AreLengths (sign p.LeftBracket at ∷ x)) r (λ es vs e c. two (λ x. AreLengths (sign p.LeftBracket at ∷ (es ++ x))) c (λ cs ls b l. length_read at es e b ls (one l)))

pub sound_lengths : (spot : Spot) (depth : ℕ) (sort : Sort) (t : Terminal) → Seen sort t → Sound AreLengths (lengths spot depth sort) t
sound_lengths spot depth _ _ (seen.left_bracket at) = λ ts r. lengths_read at r
sound_lengths spot depth _ _ _ = tt

pub sound_initialiser : (spot : Spot) (depth : ℕ) (sort : Sort) (t : Terminal) → Seen sort t → Sound IsInitialiser (initialiser spot depth sort) t
sound_initialiser spot depth _ _ (seen.equal at) = λ ts r. let i = one r in (Some i.0, g.an_initialiser at ts i.0 i.1)
sound_initialiser spot depth _ _ _ = tt

braced : (at : Place) (is : List Terminal) → AreInits is → {cs : List Terminal} → IsSign p.RightBrace cs → IsInit (sign p.LeftBrace at ∷ (is ++ cs))
braced at is i (the_sign closes) = (tree.braced i.0 at, g.a_braced at closes is i.0 i.1)

pub sound_init : (spot : Spot) (depth : ℕ) (sort : Sort) (t : Terminal) → Seen sort t → Sound IsInit (init spot depth sort) t
sound_init spot depth _ _ (seen.left_brace at) = λ ts r.
    two (λ x. IsInit (sign p.LeftBrace at ∷ x)) r (λ us vs i m. two (λ x. IsInit (sign p.LeftBrace at ∷ (us ++ x))) m (λ ms cs f c.
    subst (λ x. IsInit (sign p.LeftBrace at ∷ x)) (append_assoc us ms cs) (braced at (us ++ ms) (f us i) (one c))))
sound_init spot depth sort t s = other_sound (Is assign_level) IsInit (assign spot depth sort) t (sound_assign spot depth sort t s) (λ us i. (tree.single i.0, g.a_single (t ∷ us) i.0 i.1))

pub sound_more_inits : (spot : Spot) (depth : ℕ) (sort : Sort) (t : Terminal) → Seen sort t → Sound (Behind IsInit AreInits) (more_inits spot depth sort) t
sound_more_inits spot depth _ _ (seen.comma at) = λ ts r us u. one r us at u
sound_more_inits spot depth _ _ _ = tt

pub sound_optional_init : (spot : Spot) (depth : ℕ) (sort : Sort) (t : Terminal) → Seen sort t
    → Sound (λ ts. (us : List Terminal) (at : Place) → IsInit us → AreInits (us ++ sign p.Comma at ∷ ts)) (optional_init spot depth sort) t
sound_optional_init spot depth sort t s =
    behind_sound IsInit (λ ts. (us : List Terminal) (at : Place) → IsInit us → AreInits (us ++ sign p.Comma at ∷ ts)) (G.MoreInits depth ∷ []) (init spot depth sort) t (sound_init spot depth sort t s)
    (λ us vs i r front at u. let l = one r (t ∷ us) i in (tree.more_inits u.0 l.0, g.another_init at front (t ∷ (us ++ vs)) u.0 l.0 u.1 l.1))

-- ---- declarations

declared : (ks os : List Terminal) (i : IsKind ks) → AreObjects i.0 i.1 os → {cs : List Terminal} → IsSign p.Semicolon cs → IsDeclaration (ks ++ (os ++ cs))
declared ks os i o (the_sign ends) = (o.0, g.a_declaration i.0 i.1 ks os o.0 ends i.2 o.1)

-- a type with its objects behind it
pub declaration_read : (ks : List Terminal) → IsKind ks → {d e f : ℕ} {ts : List Terminal} → ReadsAll (G.Object d ∷ G.MoreObjects e ∷ G.Semicolon f ∷ []) ts → IsDeclaration (ks ++ ts)
declaration_read ks i r =
    two (λ x. IsDeclaration (ks ++ x)) r (λ us vs o m. two (λ x. IsDeclaration (ks ++ (us ++ x))) m (λ ms cs f c.
    subst (λ x. IsDeclaration (ks ++ x)) (append_assoc us ms cs) (declared ks (us ++ ms) i (f i.0 i.1 us (o i.0 i.1)) (one c))))

pub sound_declaration : (spot : Spot) (depth : ℕ) (sort : Sort) (t : Terminal) → Seen sort t → Sound IsDeclaration (declaration spot depth sort) t
sound_declaration spot depth sort t s =
    behind_sound (Behind AreConst IsKind) IsDeclaration (object_goals depth) (kind spot depth sort) t (sound_kind spot depth sort t s) (λ us vs i r. declaration_read (t ∷ us) (i [] no_const) r)
