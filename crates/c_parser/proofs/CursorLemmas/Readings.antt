-- How readings of parts make a reading of the whole.
use Rattle.std.proofs.Common.{◌≡◌, ℕ, ◌<◌, ◌∙◌, sym, refl, ap, subst, List, [], ◌∷◌, ◌++◌, append_assoc, arith, map, Result, Ok, Err}
use Rattle.hls_base.specs.declared.place.Place.{Place}
use Rattle.c_token.specs.declared.punct.Punct.{Punct}
use Rattle.c_token.specs.declared.punct.Punct.TheVariants as p
use Rattle.c_token.specs.declared.token.TokenKind.TheVariants as k
use Rattle.c_tree.specs.Terminals.{Terminal, sign, word}
use Rattle.c_parser.specs.Cursor.Readings.{Reads, Found, Never, Anywhere, Sign, Word, Sequence, fst, Closed, Listed, Repeated, Lacks, Ends, sign_level, joins}
use Rattle.c_parser.specs.Cursor.Readings as r
use Rattle.c_parser.specs.declared.cursor.stop.Stop.{Stop}
use Rattle.c_parser.specs.Cursor.Stops.{IfAbsent}
use Rattle.c_parser.proofs.CursorLemmas.Exits.{IfAbsent-weaker}
use Rattle.std.specs.Prelude.{IfOk}

-- ---- tokens

-- the parts of equal lists
pub heads : (a b : Terminal) (xs ys : List Terminal) → a ∷ xs ≡ b ∷ ys → (a.kind ≡ b.kind) × (a.at ≡ b.at) × (xs ≡ ys)
heads a b xs ys e = let h : a ≡ b = cc in let t : xs ≡ ys = cc in (ap (λ x. x.kind) h, ap (λ x. x.at) h, t)

pub signs : (p q : Punct) (a b : Place) (xs ys : List Terminal) → sign p a ∷ xs ≡ sign q b ∷ ys → (p ≡ q) × (a ≡ b) × (xs ≡ ys)
signs p q a b xs ys e = let h = heads (sign p a) (sign q b) xs ys e in (let kinds : k.Punct p ≡ k.Punct q = h.0 in cc, h.1, h.2)

pub words : (v w : List ℕ) (a b : Place) (xs ys : List Terminal) → word v a ∷ xs ≡ word w b ∷ ys → (v ≡ w) × (a ≡ b) × (xs ≡ ys)
words v w a b xs ys e = let h = heads (word v a) (word w b) xs ys e in (let kinds : k.Word v ≡ k.Word w = h.0 in cc, h.1, h.2)

pub sign_no_word : {P : Type 0} (p : Punct) (w : List ℕ) (a b : Place) (xs ys : List Terminal) → sign p a ∷ xs ≡ word w b ∷ ys → P
sign_no_word p w a b xs ys e = let h = heads (sign p a) (word w b) xs ys e in absurd (let kinds : k.Punct p ≡ k.Word w = h.0 in cc)

-- ---- one step

-- Every A that the tokens begin with is a B that these begin with, and the other way round.
pub record Step {A B : Type 0} (R : List Terminal → A → List Terminal → Type 0) (E : A → List Terminal → Type 0) (tokens : List Terminal) (S : List Terminal → B → List Terminal → Type 0) (F : B → List Terminal → Type 0) (here : List Terminal) (f : B → A) : Type 0 where
  pub into : (others : List Terminal) (a : A) (end : List Terminal) → others ≡ tokens → R others a end → E a end → (b : B) × (a ≡ f b) × S here b end × F b end
  pub back : (b : B) (end : List Terminal) → S here b end → R tokens (f b) end

pub step_found : {A B : Type 0} {R : List Terminal → A → List Terminal → Type 0} {E : A → List Terminal → Type 0} {S : List Terminal → B → List Terminal → Type 0} {F : B → List Terminal → Type 0} {f : B → A} (tokens here rest : List Terminal) (b : B) (a : A) → a ≡ f b → Step R E tokens S F here f → Found S F here b rest → Found R E tokens a rest
step_found {R = R} {E} {f = f} tokens here rest b a is s q = subst (λ x. Found R E tokens x rest) (sym is) (record {
  reads = s.back b rest q.reads;
  only = λ others x end e r ends. let i = s.into others x end e r ends in let o = q.only here i.0 end refl i.2 i.3 in (o.0, i.1 ∙ ap f o.1);
})

pub step_never : {A B : Type 0} {R : List Terminal → A → List Terminal → Type 0} {E : A → List Terminal → Type 0} {S : List Terminal → B → List Terminal → Type 0} {F : B → List Terminal → Type 0} {f : B → A} (tokens here : List Terminal) → Step R E tokens S F here f → Never S F here → Never R E tokens
step_never tokens here s q = record { none = λ others x end e r ends. let i = s.into others x end e r ends in q.none here i.0 end refl i.2 i.3 }

-- nothing is read yet
pub step_none : {A : Type 0} {R : List Terminal → A → List Terminal → Type 0} {E : A → List Terminal → Type 0} {f : A → A} (tokens here : List Terminal) → here ≡ tokens → ((a : A) → f a ≡ a) → Step R E tokens R E here f
step_none {R = R} tokens here same is = record {
  into = λ others a end e r ends. (a, sym (is a), subst (λ x. R x a end) (e ∙ sym same) r, ends);
  back = λ a end r. subst (λ x. R tokens x end) (sym (is a)) (subst (λ x. R x a end) same r);
}

-- one step, and then another
pub step_more : {A B C : Type 0} {R : List Terminal → A → List Terminal → Type 0} {E : A → List Terminal → Type 0} {S : List Terminal → B → List Terminal → Type 0} {F : B → List Terminal → Type 0} {T : List Terminal → C → List Terminal → Type 0} {G : C → List Terminal → Type 0} {f : B → A} {g : C → B} {h : C → A} (tokens here next : List Terminal) → ((c : C) → h c ≡ f (g c)) → Step R E tokens S F here f → Step S F here T G next g → Step R E tokens T G next h
step_more {R = R} {f = f} {g} tokens here next is s u = record {
  into = λ others a end e r ends.
      let i = s.into others a end e r ends in
      let j = u.into here i.0 end refl i.2 i.3 in
      (j.0, i.1 ∙ ap f j.1 ∙ sym (is j.0), j.2, j.3);
  back = λ c end t. subst (λ x. R tokens x end) (sym (is c)) (s.back (g c) end (u.back c end t));
}

-- ---- signs

pub sign_found : (punct : Punct) (tokens : List Terminal) (at : Place) (rest : List Terminal) → tokens ≡ sign punct at ∷ rest → Found (Sign punct) Anywhere tokens at rest
sign_found punct tokens at rest e = record {
  reads = e;
  only = λ others b end same r ends. let s = signs punct punct b at end rest (sym r ∙ same ∙ e) in (s.2, s.1);
}

pub sign_never : (punct : Punct) (tokens : List Terminal) → Lacks punct tokens → Never (Sign punct) Anywhere tokens
sign_never punct tokens lacks = record { none = λ others b end same r ends. lacks b end (sym same ∙ r) }

-- ---- sequences

module _ {A B C : Type 0} {R : List Terminal → A → List Terminal → Type 0} {F : A → List Terminal → Type 0} {S : A → List Terminal → B → List Terminal → Type 0} {f : A → B → C} {E : C → List Terminal → Type 0} where
  -- behind the first part
  sequence_step : (tokens middle : List Terminal) (a : A) → ((x : A) (y : B) (here end : List Terminal) → S x here y end → E (f x y) end → F x here) → Found R F tokens a middle → Step (Sequence R S f) E tokens (S a) (λ b. E (f a b)) middle (f a)
  sequence_step tokens middle a apart q = record {
    into = λ others c end e r ends.
        let o = q.only others r.first r.middle e r.begins (apart r.first r.second r.middle end r.goes_on (subst (λ x. E x end) r.whole ends)) in
        let is : c ≡ f a r.second = r.whole ∙ ap (λ x. f x r.second) o.1 in
        (r.second, is, subst (λ x. S x middle r.second end) o.1 (subst (λ m. S r.first m r.second end) o.0 r.goes_on), subst (λ x. E x end) is ends);
    back = λ b end s. record { first = a; second = b; middle = middle; begins = q.reads; goes_on = s; whole = refl };
  }

  pub loose_step : (tokens middle : List Terminal) (a : A) → ((x : A) (y : B) (here end : List Terminal) → S x here y end → E (f x y) end → F x here) → Found R F tokens a middle → Step (Sequence R S f) E tokens (S a) (λ b. E (f a b)) middle (f a)
  loose_step tokens middle a apart q = sequence_step tokens middle a apart q

  pub loose_found : (tokens middle rest : List Terminal) (a : A) (b : B) (c : C) → ((x : A) (y : B) (here end : List Terminal) → S x here y end → E (f x y) end → F x here) → c ≡ f a b → Found R F tokens a middle → Found (S a) (λ b. E (f a b)) middle b rest → Found (Sequence R S f) E tokens c rest
  loose_found tokens middle rest a b c apart is q u = step_found tokens middle rest b c is (sequence_step tokens middle a apart q) u

  pub loose_stuck : (tokens middle : List Terminal) (a : A) → ((x : A) (y : B) (here end : List Terminal) → S x here y end → E (f x y) end → F x here) → Found R F tokens a middle → Never (S a) (λ b. E (f a b)) middle → Never (Sequence R S f) E tokens
  loose_stuck tokens middle a apart q u = step_never tokens middle (sequence_step tokens middle a apart q) u

  pub loose_never : (tokens : List Terminal) → ((x : A) (y : B) (here end : List Terminal) → S x here y end → E (f x y) end → F x here) → Never R F tokens → Never (Sequence R S f) E tokens
  loose_never tokens apart q = record { none = λ others c end e r ends. q.none others r.first r.middle e r.begins (apart r.first r.second r.middle end r.goes_on (subst (λ x. E x end) r.whole ends)) }

  pub apart_found : (tokens middle rest : List Terminal) (a : A) (b : B) (c : C) → ((x : A) (y : B) (here end : List Terminal) → S x here y end → F x here) → c ≡ f a b → Found R F tokens a middle → Found (S a) (λ b. E (f a b)) middle b rest → Found (Sequence R S f) E tokens c rest
  apart_found tokens middle rest a b c apart is q u = loose_found tokens middle rest a b c (λ x y here end s e. apart x y here end s) is q u

  pub apart_stuck : (tokens middle : List Terminal) (a : A) → ((x : A) (y : B) (here end : List Terminal) → S x here y end → F x here) → Found R F tokens a middle → Never (S a) (λ b. E (f a b)) middle → Never (Sequence R S f) E tokens
  apart_stuck tokens middle a apart q u = loose_stuck tokens middle a (λ x y here end s e. apart x y here end s) q u

  pub apart_step : (tokens middle : List Terminal) (a : A) → ((x : A) (y : B) (here end : List Terminal) → S x here y end → F x here) → Found R F tokens a middle → Step (Sequence R S f) E tokens (S a) (λ b. E (f a b)) middle (f a)
  apart_step tokens middle a apart q = sequence_step tokens middle a (λ x y here end s e. apart x y here end s) q

  pub apart_never : (tokens : List Terminal) → ((x : A) (y : B) (here end : List Terminal) → S x here y end → F x here) → Never R F tokens → Never (Sequence R S f) E tokens
  apart_never tokens apart q = loose_never tokens (λ x y here end s e. apart x y here end s) q

-- the same, where anything may follow the first part
module _ {A B C : Type 0} {R : List Terminal → A → List Terminal → Type 0} {S : A → List Terminal → B → List Terminal → Type 0} {f : A → B → C} {E : C → List Terminal → Type 0} where
  pub then_found : (tokens middle rest : List Terminal) (a : A) (b : B) (c : C) → c ≡ f a b → Found R Anywhere tokens a middle → Found (S a) (λ b. E (f a b)) middle b rest → Found (Sequence R S f) E tokens c rest
  then_found tokens middle rest a b c is q u = apart_found tokens middle rest a b c (λ x y here end s. tt) is q u

  pub then_stuck : (tokens middle : List Terminal) (a : A) → Found R Anywhere tokens a middle → Never (S a) (λ b. E (f a b)) middle → Never (Sequence R S f) E tokens
  then_stuck tokens middle a q u = apart_stuck tokens middle a (λ x y here end s. tt) q u

  pub then_never : (tokens : List Terminal) → Never R Anywhere tokens → Never (Sequence R S f) E tokens
  then_never tokens q = apart_never tokens (λ x y here end s. tt) q

-- ---- lists

-- The tokens so far are these, and all that the tokens begin with go on from them.
pub record Grows {A : Type 0} (L : List Terminal → List A → List Terminal → Type 0) (tokens : List Terminal) (so_far : List A) (here : List Terminal) : Type 0 where
  pub into : (others : List Terminal) (all : List A) (end : List Terminal) → others ≡ tokens → L others all end → (more : List A) × (all ≡ so_far ++ more) × L here more end
  pub back : (more : List A) (end : List Terminal) → L here more end → L tokens (so_far ++ more) end

module _ {A : Type 0} {L : List Terminal → List A → List Terminal → Type 0} where
  pub grows_none : (tokens here : List Terminal) (none : List A) → none ≡ [] → here ≡ tokens → Grows L tokens none here
  grows_none tokens here none is same = subst (λ x. Grows L tokens x here) (sym is) (record {
    into = λ others all end e l. (all, refl, subst (λ x. L x all end) (e ∙ sym same) l);
    back = λ more end l. subst (λ x. L x more end) same l;
  })

  pub grows_more : (tokens here next : List Terminal) (so_far now all : List A) → all ≡ so_far ++ now → Grows L tokens so_far here → Grows L here now next → Grows L tokens all next
  grows_more tokens here next so_far now all is g h = subst (λ x. Grows L tokens x next) (sym is) (record {
    into = λ others all end e l.
        let i = g.into others all end e l in
        let j = h.into here i.0 end refl i.2 in
        (j.0, i.1 ∙ ap (λ x. so_far ++ x) j.1 ∙ sym (append_assoc so_far now j.0), j.2);
    back = λ more end l. subst (λ x. L tokens x end) (sym (append_assoc so_far now more)) (g.back (now ++ more) end (h.back more end l));
  })

  pub grows_last : (tokens here rest : List Terminal) (so_far now all : List A) → all ≡ so_far ++ now → Grows L tokens so_far here → Found L Anywhere here now rest → Found L Anywhere tokens all rest
  grows_last tokens here rest so_far now all is g q = subst (λ x. Found L Anywhere tokens x rest) (sym is) (record {
    reads = g.back now rest q.reads;
    only = λ others all end e l ends. let i = g.into others all end e l in let o = q.only here i.0 end refl i.2 tt in (o.0, i.1 ∙ ap (λ x. so_far ++ x) o.1);
  })

  pub grows_never : (tokens here : List Terminal) (so_far : List A) → Grows L tokens so_far here → Never L Anywhere here → Never L Anywhere tokens
  grows_never tokens here so_far g q = record { none = λ others all end e l ends. let i = g.into others all end e l in q.none here i.0 end refl i.2 tt }

-- ---- lists with commas

module _ {A : Type 0} {R : List Terminal → A → List Terminal → Type 0} {F : A → List Terminal → Type 0} (closer : Punct) (other : p.Comma ≡ closer → ⊥)
    (comma : (a : A) (at : Place) (rest : List Terminal) → F a (sign p.Comma at ∷ rest)) (close : (a : A) (at : Place) (rest : List Terminal) → F a (sign closer at ∷ rest)) where
  listed_into : (tokens here middle next : List Terminal) (a : A) (at : Place) {others : List Terminal} {all : List A} {end : List Terminal} → Found R F here a middle → middle ≡ sign p.Comma at ∷ next → others ≡ here → Listed R closer others all end → (more : List A) × (all ≡ a ∷ more) × Listed R closer next more end
  listed_into tokens here middle next a at q m e (r.last ts b c end r) =
      let o = q.only ts b (sign closer c ∷ end) e r (close b c end) in
      absurd (other (signs p.Comma closer at c next end (sym m ∙ sym o.0)).0)
  listed_into tokens here middle next a at q m e (r.more ts b c mid others end r l) =
      let o = q.only ts b (sign p.Comma c ∷ mid) e r (comma b c mid) in
      let s = signs p.Comma p.Comma c at mid next (o.0 ∙ m) in
      (others, ap (λ x. x ∷ others) o.1, subst (λ x. Listed R closer x others end) s.2 l)

  pub listed_more : (here middle next : List Terminal) (a : A) (at : Place) → Found R F here a middle → middle ≡ sign p.Comma at ∷ next → Grows (Listed R closer) here (a ∷ []) next
  listed_more here middle next a at q m = record {
    into = λ others all end e l. listed_into here here middle next a at q m e l;
    back = λ more end l. r.more here a at next more end (subst (λ x. R here a x) m q.reads) l;
  }

  closed_only : (here middle rest : List Terminal) (a : A) (at : Place) {others : List Terminal} {all : List A} {end : List Terminal} → Found R F here a middle → middle ≡ sign closer at ∷ rest → others ≡ here → Listed R closer others all end → (end ≡ rest) × (all ≡ a ∷ [])
  closed_only here middle rest a at q m e (r.last ts b c end r) =
      let o = q.only ts b (sign closer c ∷ end) e r (close b c end) in
      ((signs closer closer c at end rest (o.0 ∙ m)).2, ap (λ x. x ∷ []) o.1)
  closed_only here middle rest a at q m e (r.more ts b c mid others end r l) =
      let o = q.only ts b (sign p.Comma c ∷ mid) e r (comma b c mid) in
      absurd (other (signs p.Comma closer c at mid rest (o.0 ∙ m)).0)

  pub listed_last : (here middle rest : List Terminal) (a : A) (at : Place) → Found R F here a middle → middle ≡ sign closer at ∷ rest → Found (Listed R closer) Anywhere here (a ∷ []) rest
  listed_last here middle rest a at q m = record {
    reads = r.last here a at rest (subst (λ x. R here a x) m q.reads);
    only = λ others all end e l ends. closed_only here middle rest a at q m e l;
  }

  stuck_none : (here middle : List Terminal) (a : A) {others : List Terminal} {all : List A} {end : List Terminal} → Found R F here a middle → Lacks p.Comma middle → Lacks closer middle → others ≡ here → Listed R closer others all end → ⊥
  stuck_none here middle a q no_comma no_close e (r.last ts b c end r) = no_close c end (sym (q.only ts b (sign closer c ∷ end) e r (close b c end)).0)
  stuck_none here middle a q no_comma no_close e (r.more ts b c mid others end r l) = no_comma c mid (sym (q.only ts b (sign p.Comma c ∷ mid) e r (comma b c mid)).0)

  pub listed_stuck : (here middle : List Terminal) (a : A) → Found R F here a middle → Lacks p.Comma middle → Lacks closer middle → Never (Listed R closer) Anywhere here
  listed_stuck here middle a q no_comma no_close = record { none = λ others all end e l ends. stuck_none here middle a q no_comma no_close e l }

  first_none : (here : List Terminal) {others : List Terminal} {all : List A} {end : List Terminal} → Never R F here → others ≡ here → Listed R closer others all end → ⊥
  first_none here q e (r.last ts b c end r) = q.none ts b (sign closer c ∷ end) e r (close b c end)
  first_none here q e (r.more ts b c mid others end r l) = q.none ts b (sign p.Comma c ∷ mid) e r (comma b c mid)

  pub listed_never : (here : List Terminal) → Never R F here → Never (Listed R closer) Anywhere here
  listed_never here q = record { none = λ others all end e l ends. first_none here q e l }

-- ---- lists without commas

module _ {A : Type 0} {R : List Terminal → A → List Terminal → Type 0} {F : A → List Terminal → Type 0} {Stops : List Terminal → List Terminal → Type 0}
    (apart : (a : A) (here : List Terminal) (all : List A) (end : List Terminal) → Repeated R Stops here all end → F a here) where
  repeated_into : (here next : List Terminal) (a : A) {others : List Terminal} {all : List A} {end : List Terminal} → ((rest : List Terminal) → Stops here rest → ⊥) → Found R F here a next → others ≡ here → Repeated R Stops others all end → (more : List A) × (all ≡ a ∷ more) × Repeated R Stops next more end
  repeated_into here next a on q e (r.stop ts end s) = absurd (on end (subst (λ x. Stops x end) e s))
  repeated_into here next a on q e (r.more ts b mid others end r l) =
      let o = q.only ts b mid e r (apart b mid others end l) in
      (others, ap (λ x. x ∷ others) o.1, subst (λ x. Repeated R Stops x others end) o.0 l)

  pub repeated_more : (here next : List Terminal) (a : A) → ((rest : List Terminal) → Stops here rest → ⊥) → Found R F here a next → Grows (Repeated R Stops) here (a ∷ []) next
  repeated_more here next a on q = record {
    into = λ others all end e l. repeated_into here next a on q e l;
    back = λ more end l. r.more here a next more end q.reads l;
  }

  first_no : (here : List Terminal) {others : List Terminal} {all : List A} {end : List Terminal} → ((rest : List Terminal) → Stops here rest → ⊥) → Never R F here → others ≡ here → Repeated R Stops others all end → ⊥
  first_no here on q e (r.stop ts end s) = on end (subst (λ x. Stops x end) e s)
  first_no here on q e (r.more ts b mid others end r l) = q.none ts b mid e r (apart b mid others end l)

  pub repeated_never : (here : List Terminal) → ((rest : List Terminal) → Stops here rest → ⊥) → Never R F here → Never (Repeated R Stops) Anywhere here
  repeated_never here on q = record { none = λ others all end e l ends. first_no here on q e l }

module _ {A : Type 0} {R : List Terminal → A → List Terminal → Type 0} {Stops : List Terminal → List Terminal → Type 0} where
  stops_only : (here rest : List Terminal) {others : List Terminal} {all : List A} {end : List Terminal} → ((end : List Terminal) → Stops here end → end ≡ rest) → ((a : A) (middle : List Terminal) → R here a middle → ⊥) → others ≡ here → Repeated R Stops others all end → (end ≡ rest) × (all ≡ [])
  stops_only here rest one bare e (r.stop ts end s) = (one end (subst (λ x. Stops x end) e s), refl)
  stops_only here rest one bare e (r.more ts b mid others end r l) = absurd (bare b mid (subst (λ x. R x b mid) e r))

  pub repeated_last : (here rest : List Terminal) → Stops here rest → ((end : List Terminal) → Stops here end → end ≡ rest) → ((a : A) (middle : List Terminal) → R here a middle → ⊥) → Found (Repeated R Stops) Anywhere here [] rest
  repeated_last here rest s one bare = record {
    reads = r.stop here rest s;
    only = λ others all end e l ends. stops_only here rest one bare e l;
  }

-- ---- what the code has at hand

pub pushed : {A B : Type 0} (f : A → B) (xs : List A) (x : A) → map f (xs ++ x ∷ []) ≡ map f xs ++ f x ∷ []
pushed f [] x = refl
pushed f (y ∷ xs) x = ap (λ ys. f y ∷ ys) (pushed f xs x)

pub lacks_of_never : (punct : Punct) (tokens : List Terminal) → Never (Sign punct) Anywhere tokens → Lacks punct tokens
lacks_of_never punct tokens q at rest e = q.none tokens at rest refl e tt

pub sign_apart : (n : ℕ) (punct : Punct) → n < sign_level punct → {A B C : Type 0} (S : A → Place → List Terminal → B → List Terminal → Type 0) (f : A → Place → B → C) (a : A) (c : C) (here end : List Terminal) → Sequence (Sign punct) (S a) (f a) here c end → Ends n a here
sign_apart n punct h S f a c here end s = omega (arith, ap joins s.begins)

-- a call at the end
pub tail_found : {A X : Type 0} {R : List Terminal → A → List Terminal → Type 0} {E : A → List Terminal → Type 0} {S : List Terminal → A → List Terminal → Type 0} {F : A → List Terminal → Type 0} (view : X → A) (tokens here rest : List Terminal) (result : Result X Stop) → Step R E tokens S F here (λ a. a) → IfOk result (λ x. Found S F here (view x) rest) → IfOk result (λ x. Found R E tokens (view x) rest)
tail_found view tokens here rest (Ok x) s q = step_found tokens here rest (view x) (view x) refl s q
tail_found view tokens here rest (Err e) s q = tt

pub tail_absent : {A B X : Type 0} {R : List Terminal → A → List Terminal → Type 0} {E : A → List Terminal → Type 0} {S : List Terminal → B → List Terminal → Type 0} {F : B → List Terminal → Type 0} {f : B → A} (tokens here : List Terminal) (result : Result X Stop) → Step R E tokens S F here f → IfAbsent result (Never S F here) → IfAbsent result (Never R E tokens)
tail_absent tokens here result s q = IfAbsent-weaker result _ _ (λ n. step_never tokens here s n) q

module _ {A : Type 0} {R : List Terminal → A → List Terminal → Type 0} {F : A → List Terminal → Type 0} (closer : Punct) (other : p.Comma ≡ closer → ⊥)
    (comma : (a : A) (at : Place) (rest : List Terminal) → F a (sign p.Comma at ∷ rest)) (close : (a : A) (at : Place) (rest : List Terminal) → F a (sign closer at ∷ rest)) where
  pub listed_closed : (here middle after rest : List Terminal) (a : A) (at : Place) → Found R F here a middle → after ≡ middle → Found (Sign closer) Anywhere after at rest → Found (Listed R closer) Anywhere here (a ∷ []) rest
  listed_closed here middle after rest a at q is s = listed_last closer other comma close here middle rest a at q (sym is ∙ s.reads)

  pub listed_unclosed : (here middle after : List Terminal) (a : A) → Found R F here a middle → after ≡ middle → Lacks p.Comma middle → Never (Sign closer) Anywhere after → Never (Listed R closer) Anywhere here
  listed_unclosed here middle after a q is lacks s = listed_stuck closer other comma close here middle a q lacks (subst (λ y. Lacks closer y) is (lacks_of_never closer after s))
