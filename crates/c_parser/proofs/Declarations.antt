-- Objects and declarations.
use Rattle.std.proofs.Common.{◌≡◌, ◌∙◌, ℕ, sym, refl, ap, subst, Bool, true, false, List, [], ◌∷◌, ◌++◌, Option, append_assoc, arith}
use Rattle.std.specs.Prelude.{is_some}
use Rattle.hls_base.specs.declared.place.Place.{Place}
use Rattle.c_token.specs.declared.ctype.CType.{CType}
use Rattle.c_token.specs.declared.punct.Punct.TheVariants as p
use Rattle.c_tree.specs.Tree.{Tree, InitTree, ObjectTree}
use Rattle.c_tree.specs.Terminals.{Terminal, sign, word, is_keyword}
use Rattle.c_tree.specs.Grammar.{DerivesObject, DerivesObjects, DerivesDeclaration}
use Rattle.c_tree.specs.Grammar as g
use Rattle.c_parser.specs.Cursor.Readings.{Reads, Found, Never, Anywhere, Ends, Sequence, Closed, Sign, Lacks, Listed, joins, snd}
use Rattle.c_parser.specs.Cursor.Readings as r
use Rattle.c_parser.specs.declared.cursor.types.ValueKind.{ValueKind}
use Rattle.c_parser.specs.Cursor.Types.{AValueKind, KindEnds, kind_word_of_text, starts_kind}
use Rattle.c_parser.specs.Cursor.Tokens.{Name}
use Rattle.c_parser.specs.Objects.{Lengths, AnInitialiser, AnObject, ADeclaration}
use Rattle.c_parser.proofs.CursorLemmas.Readings.{words, Step}
use Rattle.c_parser.proofs.ExpressionForms.{Opened}
use Rattle.c_parser.proofs.CursorLemmas.TypeWords.{value_starts}
use Rattle.c_parser.proofs.Beginnings.{kind_text_keyword}

-- ---- an object

abbrev pub object_with : CType → Bool → List ℕ → Place → List (Option Tree) → Option InitTree → ObjectTree
object_with kind constant text at lengths init = record { name = text; at = at; kind = kind; constant = constant; lengths = lengths; init = init }

-- behind its name
abbrev pub ObjectBehind : CType → Bool → List ℕ → Place → List Terminal → ObjectTree → List Terminal → Type 0
ObjectBehind kind constant text at = Sequence Lengths (λ lengths. AnInitialiser) (object_with kind constant text at)

pub record ObjectForm (kind : CType) (constant : Bool) (tokens : List Terminal) (o : ObjectTree) (rest : List Terminal) : Type 0 where
  pub text : List ℕ
  pub at : Place
  pub behind : List Terminal
  pub named : tokens ≡ word text at ∷ behind
  pub free : is_keyword text ≡ false
  pub parts : ObjectBehind kind constant text at behind o rest

pub object_form : (kind : ValueKind) (tokens rest : List Terminal) (o : ObjectTree) → AnObject kind tokens o rest → ObjectForm kind.kind kind.constant tokens o rest
object_form kind tokens rest o d = go d.split d.derives
  where
    go : {c : CType} {b : Bool} {ts : List Terminal} {x : ObjectTree} → tokens ≡ ts ++ rest → DerivesObject c b ts x → ObjectForm c b tokens x rest
    go f (g.an_object c b text at ts us lengths init kw l i) = record {
      text = text;
      at = at;
      behind = (ts ++ us) ++ rest;
      named = f;
      free = kw;
      parts = record {
        first = lengths;
        second = init;
        middle = us ++ rest;
        begins = record { taken = ts; split = append_assoc ts us rest; derives = l };
        goes_on = record { taken = us; split = refl; derives = i };
        whole = refl;
      };
    }

object_back : (kind : ValueKind) (text : List ℕ) (at : Place) (tokens behind rest : List Terminal) (o : ObjectTree) → tokens ≡ word text at ∷ behind → is_keyword text ≡ false → ObjectBehind kind.kind kind.constant text at behind o rest → AnObject kind tokens o rest
object_back kind text at tokens behind rest o f kw s =
    let l = s.begins in
    let i = s.goes_on in
    let ts = word text at ∷ (l.taken ++ i.taken) in
    record {
      taken = ts;
      split = f ∙ ap (λ y. word text at ∷ y) (l.split ∙ ap (λ y. l.taken ++ y) i.split ∙ sym (append_assoc l.taken i.taken rest));
      derives = subst (λ y. DerivesObject kind.kind kind.constant ts y) (sym s.whole) (g.an_object kind.kind kind.constant text at l.taken i.taken s.first s.second kw l.derives i.derives);
    }

pub object_step : (kind : ValueKind) (text : List ℕ) (at : Place) (tokens behind : List Terminal) → Name tokens (text, at) behind → Step (AnObject kind) (Ends 14) tokens (ObjectBehind kind.kind kind.constant text at) (Ends 14) behind (λ o. o)
object_step kind text at tokens behind n = record {
  into = λ others o end same d ends.
      let h = object_form kind tokens end o (subst (λ y. AnObject kind y o end) same d) in
      let s = words h.text text h.at at h.behind behind (sym h.named ∙ n.0) in
      (o, refl, subst (λ y. ObjectBehind kind.kind kind.constant text at y o end) s.2 (subst (λ y. ObjectBehind kind.kind kind.constant text y h.behind o end) s.1 (subst (λ y. ObjectBehind kind.kind kind.constant y h.at h.behind o end) s.0 h.parts)), ends);
  back = λ o end s. object_back kind text at tokens behind end o n.0 n.1 s;
}

pub nameless_never : (kind : ValueKind) (tokens : List Terminal) → ((n : List ℕ × Place) (rest : List Terminal) → Name tokens n rest → ⊥) → Never (AnObject kind) (Ends 14) tokens
nameless_never kind tokens none = record {
  none = λ others o end same d ends.
      let h = object_form kind tokens end o (subst (λ y. AnObject kind y o end) same d) in none (h.text, h.at) h.behind (h.named, h.free);
}

-- ---- objects and their type

pub listed_of_objects : {kind : CType} {constant : Bool} {ts : List Terminal} {all : List ObjectTree} (ends : Place) (rest : List Terminal) → DerivesObjects kind constant ts all → Listed (AnObject (record { kind = kind; constant = constant })) p.Semicolon (ts ++ sign p.Semicolon ends ∷ rest) all rest
listed_of_objects ends rest (g.last_object kind constant ts object d) = r.last _ object ends rest (record { taken = ts; split = refl; derives = d })
listed_of_objects ends rest (g.more_objects kind constant at ts us object others d ds) =
    r.more _ object at (us ++ sign p.Semicolon ends ∷ rest) others rest (record { taken = ts; split = append_assoc ts (sign p.Comma at ∷ us) (sign p.Semicolon ends ∷ rest); derives = d }) (listed_of_objects ends rest ds)

abbrev pub DerivesObjectsOf : ValueKind → List Terminal → List ObjectTree → Type 0
DerivesObjectsOf kind = DerivesObjects kind.kind kind.constant

pub objects_of_listed : (kind : ValueKind) {tokens : List Terminal} {all : List ObjectTree} {rest : List Terminal} → Listed (AnObject kind) p.Semicolon tokens all rest → Opened (DerivesObjectsOf kind) p.Semicolon tokens all rest
objects_of_listed kind (r.last tokens a at rest d) = record {
  ts = d.taken;
  at = at;
  split = d.split ∙ sym (append_assoc d.taken (sign p.Semicolon at ∷ []) rest);
  derives = g.last_object kind.kind kind.constant d.taken a d.derives;
}
objects_of_listed kind (r.more tokens a at middle others rest d l) =
    let o = objects_of_listed kind l in
    record {
      ts = d.taken ++ sign p.Comma at ∷ o.ts;
      at = o.at;
      split = d.split ∙ ap (λ y. d.taken ++ sign p.Comma at ∷ y) o.split ∙ sym (append_assoc d.taken (sign p.Comma at ∷ (o.ts ++ sign p.Semicolon o.at ∷ [])) rest)
          ∙ ap (λ y. y ++ rest) (sym (append_assoc d.taken (sign p.Comma at ∷ o.ts) (sign p.Semicolon o.at ∷ [])));
      derives = g.more_objects kind.kind kind.constant at d.taken o.ts a others d.derives o.derives;
    }

abbrev pub DeclarationParts : List Terminal → List ObjectTree → List Terminal → Type 0
DeclarationParts = Sequence AValueKind (λ kind. Listed (AnObject kind) p.Semicolon) snd

pub declaration_form : (tokens rest : List Terminal) (all : List ObjectTree) → ADeclaration tokens all rest → DeclarationParts tokens all rest
declaration_form tokens rest all d = go d.split d.derives
  where
    go : {ts : List Terminal} {os : List ObjectTree} → tokens ≡ ts ++ rest → DerivesDeclaration ts os → DeclarationParts tokens os rest
    go f (g.a_declaration kind constant ks ts objects ends dk dos) = record {
      first = record { kind = kind; constant = constant };
      second = objects;
      middle = (ts ++ sign p.Semicolon ends ∷ []) ++ rest;
      begins = record { taken = ks; split = f ∙ append_assoc ks (ts ++ sign p.Semicolon ends ∷ []) rest; derives = dk };
      goes_on = subst (λ y. Listed (AnObject (record { kind = kind; constant = constant })) p.Semicolon y objects rest) (sym (append_assoc ts (sign p.Semicolon ends ∷ []) rest)) (listed_of_objects ends rest dos);
      whole = refl;
    }

declaration_back : (tokens rest : List Terminal) (all : List ObjectTree) → DeclarationParts tokens all rest → ADeclaration tokens all rest
declaration_back tokens rest all s =
    let k = s.begins in
    let o = objects_of_listed s.first s.goes_on in
    let ts = k.taken ++ (o.ts ++ sign p.Semicolon o.at ∷ []) in
    record {
      taken = ts;
      split = k.split ∙ ap (λ y. k.taken ++ y) o.split ∙ sym (append_assoc k.taken (o.ts ++ sign p.Semicolon o.at ∷ []) rest);
      derives = subst (λ y. DerivesDeclaration ts y) (sym s.whole) (g.a_declaration s.first.kind s.first.constant k.taken o.ts s.second o.at k.derives o.derives);
    }

pub declaration_step : (tokens : List Terminal) → Step ADeclaration Anywhere tokens DeclarationParts Anywhere tokens (λ all. all)
declaration_step tokens = record {
  into = λ others all end same d ends. (all, refl, declaration_form tokens end all (subst (λ y. ADeclaration y all end) same d), tt);
  back = λ all end s. declaration_back tokens end all s;
}

-- a name is no word of a type
pub name_no_kind : (text : List ℕ) (at : Place) (rest here : List Terminal) → here ≡ word text at ∷ rest → is_keyword text ≡ false → starts_kind here ≡ false
name_no_kind text at rest here f kw = ap starts_kind f ∙ go (is_some (kind_word_of_text text)) refl
  where
    go : (b : Bool) → is_some (kind_word_of_text text) ≡ b → is_some (kind_word_of_text text) ≡ false
    go true e = absurd (let both : false ≡ true = sym kw ∙ kind_text_keyword text e in cc)
    go false e = e

objects_name : (kind : ValueKind) {here : List Terminal} {all : List ObjectTree} {end : List Terminal} → Listed (AnObject kind) p.Semicolon here all end → starts_kind here ≡ false
objects_name kind (r.last here a at end d) = let h = object_form kind here (sign p.Semicolon at ∷ end) a d in name_no_kind h.text h.at h.behind here h.named h.free
objects_name kind (r.more here a at middle others end d l) = let h = object_form kind here (sign p.Comma at ∷ middle) a d in name_no_kind h.text h.at h.behind here h.named h.free

pub objects_apart : (kind : ValueKind) (all : List ObjectTree) (here end : List Terminal) → Listed (AnObject kind) p.Semicolon here all end → KindEnds kind here
objects_apart kind all here end l = objects_name kind l

pub declaration_starts : (tokens rest : List Terminal) (all : List ObjectTree) → ADeclaration tokens all rest → starts_kind tokens ≡ true
declaration_starts tokens rest all d = let s = declaration_form tokens rest all d in value_starts tokens s.first s.middle s.begins

pub semicolon_ends : {A : Type 0} (a : A) (at : Place) (rest : List Terminal) → Ends 14 a (sign p.Semicolon at ∷ rest)
semicolon_ends a at rest = omega arith

pub semicolon_no_comma : p.Comma ≡ p.Semicolon → ⊥
semicolon_no_comma e = cc
