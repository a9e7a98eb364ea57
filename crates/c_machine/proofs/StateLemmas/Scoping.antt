-- Names and calls that are added leave the outer environments as they are.
use Rattle.std.proofs.Common.{◌≡◌, ◌∙◌, ℕ, ◌+◌, ◌^◌, ◌≤◌, sym, refl, ap, List, [], ◌∷◌, ◌++◌, length, take, drop, Option, Result, Ok, Err, OnErr, ◌-◌, arith}
use Rattle.std.proofs.lemmas.List.{take-take, take-append-le, drop-append-le, length-take, length-take-le, length-append, drop-take}
use Rattle.std.proofs.Math.Seq.{take-length}
use Rattle.std.proofs.Math.ListN.{drop_of_length-le}
use Rattle.hls_base.specs.declared.place.Place.{Place}
use Rattle.c_meaning.specs.declared.names.Binding.{Binding}
use Rattle.c_machine.specs.declared.state.scopes.Scope.{Scope}
use Rattle.c_token.specs.declared.ctype.CType.{CType}
use Rattle.c_meaning.specs.Names.{begun}
use Rattle.c_machine.specs.State.Scopes.{Environments, environment_of, environments_of, are_nested}

pub environments-kept : (file names names1 : List Binding) (calls calls1 : List Place) (n p : ℕ) (scopes : List Scope) → are_nested n p scopes
    → ((k : ℕ) → k ≤ n → take k names1 ≡ take k names) → ((k : ℕ) → k ≤ p → take k calls1 ≡ take k calls)
    → environments_of file names1 calls1 scopes ≡ environments_of file names calls scopes
environments-kept file names names1 calls calls1 n p [] h e1 e2 = refl
environments-kept file names names1 calls calls1 n p (s ∷ scopes) h e1 e2 =
    let here : environment_of file names1 calls1 s ≡ environment_of file names calls s =
    ap (λ xs. record { file = file; names = drop s.from xs; path = take s.depth calls1; result = s.kind; next = s.next }) (e1 s.to h.0.to)
    ∙ ap (λ xs. record { file = file; names = drop s.from (take s.to names); path = xs; result = s.kind; next = s.next }) (e2 s.depth h.0.depth) in
    ap (λ e. e ∷ environments_of file names1 calls1 scopes) here
    ∙ ap (λ es. environment_of file names calls s ∷ es)
    (environments-kept file names names1 calls calls1 s.to s.depth scopes h.1
    (λ k le. e1 k (omega (arith, le, h.0.to))) (λ k le. e2 k (omega (arith, le, h.0.depth))))

-- the first ones are the same where some are put behind others of them
pub take-put : {A : Type 0} (xs ys : List A) (k n : ℕ) → k ≤ n → n ≤ length xs → take k (take n xs ++ ys) ≡ take k xs
take-put xs ys k n le inside =
    take-append-le k (take n xs) ys (omega (arith, length-take n xs)) ∙ take-take k n xs le

pub nested_up : (n n1 p p1 : ℕ) (scopes : List Scope) → n ≤ n1 → p ≤ p1 → are_nested n p scopes → are_nested n1 p1 scopes
nested_up n n1 p p1 [] le le' h = tt
nested_up n n1 p p1 (s ∷ scopes) le le' h =
    (record { from = h.0.from; to = omega (arith, h.0.to); depth = omega (arith, h.0.depth); next = h.0.next }, h.1)

abbrev pub shown : List Binding → List Binding → List Place → Scope → List Scope → Environments
shown file names calls here outer = record { file = file; environment = environment_of file names calls here; outer = environments_of file names calls outer }

length_put : {A : Type 0} (xs : List A) (x : A) (n : ℕ) → n ≤ length xs → length (take n xs ++ x ∷ []) ≡ n + 1
length_put xs x n le = omega (arith, length-append (take n xs) (x ∷ []), length-take-le n xs le)

put_all : {A : Type 0} (xs : List A) (x : A) (n : ℕ) → n ≤ length xs → take (n + 1) (take n xs ++ x ∷ []) ≡ take n xs ++ x ∷ []
put_all xs x n le = ap (λ k. take k (take n xs ++ x ∷ [])) (sym (length_put xs x n le)) ∙ take-length (take n xs ++ x ∷ [])

-- a name more
pub name-put : (file names : List Binding) (calls : List Place) (here : Scope) (outer : List Scope) (b : Binding) (next : ℕ) → are_nested (length names) (length calls) (here ∷ outer)
    → shown file (take here.to names ++ b ∷ []) calls (record here { to = here.to + 1; next = next }) outer
    ≡ record (shown file names calls here outer) { environment = record (environment_of file names calls here) { names = (environment_of file names calls here).names ++ b ∷ []; next = next } }
name-put file names calls here outer b next h =
    let kept = environments-kept file names (take here.to names ++ b ∷ []) calls calls here.to here.depth outer h.1 (λ k le. take-put names (b ∷ []) k here.to le h.0.to) (λ k le. refl) in
    let e : drop here.from (take (here.to + 1) (take here.to names ++ b ∷ [])) ≡ drop here.from (take here.to names) ++ b ∷ [] =
    ap (λ xs. drop here.from xs) (put_all names b here.to h.0.to)
    ∙ drop-append-le here.from (take here.to names) (b ∷ []) (omega (arith, h.0.from, length-take-le here.to names h.0.to)) in
    ap (λ es. record { file = file; environment = environment_of file (take here.to names ++ b ∷ []) calls (record here { to = here.to + 1; next = next }); outer = es }) kept
    ∙ ap (λ xs. record { file = file; environment = record { file = file; names = xs; path = take here.depth calls; result = here.kind; next = next }; outer = environments_of file names calls outer }) e

-- names behind the first ones are gone
pub names-cut : (file names : List Binding) (calls : List Place) (here : Scope) (outer : List Scope) → are_nested (length names) (length calls) (here ∷ outer)
    → shown file (take here.to names) calls here outer ≡ shown file names calls here outer
names-cut file names calls here outer h =
    let kept = environments-kept file names (take here.to names) calls calls here.to here.depth outer h.1 (λ k le. take-take k here.to names le) (λ k le. refl) in
    ap (λ es. record { file = file; environment = environment_of file (take here.to names) calls here; outer = es }) kept
    ∙ ap (λ xs. record {
      file = file;
      environment = record { file = file; names = drop here.from xs; path = take here.depth calls; result = here.kind; next = here.next };
      outer = environments_of file names calls outer;
    }) (take-take here.to here.to names (omega arith))

pub nested-name : (names : List Binding) (calls : List Place) (here : Scope) (outer : List Scope) (b : Binding) (next : ℕ) → next ≤ 2 ^ 63 + (here.to + 1)
    → are_nested (length names) (length calls) (here ∷ outer)
    → are_nested (length (take here.to names ++ b ∷ [])) (length calls) (record here { to = here.to + 1; next = next } ∷ outer)
nested-name names calls here outer b next le h = (
  record { from = omega (arith, h.0.from); to = omega (arith, length_put names b here.to h.0.to); depth = h.0.depth; next = le },
  nested_up here.to (here.to + 1) here.depth here.depth outer (omega arith) (omega arith) h.1,
)

pub nested-cut : (names : List Binding) (calls : List Place) (here : Scope) (outer : List Scope) → are_nested (length names) (length calls) (here ∷ outer)
    → are_nested (length (take here.to names)) (length calls) (here ∷ outer)
nested-cut names calls here outer h =
    (record { from = h.0.from; to = omega (arith, length-take-le here.to names h.0.to); depth = h.0.depth; next = h.0.next }, h.1)

-- a call more
pub call-put : (file names : List Binding) (calls : List Place) (here : Scope) (outer : List Scope) (at : Place) (kind : Option CType) → are_nested (length names) (length calls) (here ∷ outer)
    → shown file names (take here.depth calls ++ at ∷ []) (record { from = here.to; to = here.to; depth = here.depth + 1; kind = kind; next = 0 }) (here ∷ outer)
    ≡ record { file = file; environment = begun file ((environment_of file names calls here).path ++ at ∷ []) kind; outer = environment_of file names calls here ∷ environments_of file names calls outer }
call-put file names calls here outer at kind h =
    let kept = environments-kept file names names calls (take here.depth calls ++ at ∷ []) here.to here.depth outer h.1 (λ k le. refl) (λ k le. take-put calls (at ∷ []) k here.depth le h.0.depth) in
    let path1 : take here.depth (take here.depth calls ++ at ∷ []) ≡ take here.depth calls = take-put calls (at ∷ []) here.depth here.depth (omega arith) h.0.depth in
    let none : drop here.to (take here.to names) ≡ [] = drop_of_length-le (take here.to names) (omega (arith, length-take-le here.to names h.0.to)) in
    ap (λ es. record {
      file = file;
      environment = environment_of file names (take here.depth calls ++ at ∷ []) (record { from = here.to; to = here.to; depth = here.depth + 1; kind = kind; next = 0 });
      outer = environment_of file names (take here.depth calls ++ at ∷ []) here ∷ es;
    }) kept
    ∙ ap (λ xs. record {
      file = file;
      environment = environment_of file names (take here.depth calls ++ at ∷ []) (record { from = here.to; to = here.to; depth = here.depth + 1; kind = kind; next = 0 });
      outer = record { file = file; names = drop here.from (take here.to names); path = xs; result = here.kind; next = here.next } ∷ environments_of file names calls outer;
    }) path1
    ∙ ap (λ xs. record {
      file = file;
      environment = record { file = file; names = drop here.to (take here.to names); path = xs; result = kind; next = 0 };
      outer = environment_of file names calls here ∷ environments_of file names calls outer;
    }) (put_all calls at here.depth h.0.depth)
    ∙ ap (λ xs. record {
      file = file;
      environment = record { file = file; names = xs; path = take here.depth calls ++ at ∷ []; result = kind; next = 0 };
      outer = environment_of file names calls here ∷ environments_of file names calls outer;
    }) none

-- calls behind the first ones do not matter
calls-same : (file names : List Binding) (calls calls1 : List Place) (here : Scope) (outer : List Scope) → ((k : ℕ) → k ≤ here.depth → take k calls1 ≡ take k calls)
    → are_nested (length names) (length calls) (here ∷ outer) → shown file names calls1 here outer ≡ shown file names calls here outer
calls-same file names calls calls1 here outer e h =
    let kept = environments-kept file names names calls calls1 here.to here.depth outer h.1 (λ k le. refl) e in
    ap (λ es. record { file = file; environment = environment_of file names calls1 here; outer = es }) kept
    ∙ ap (λ xs. record {
      file = file;
      environment = record { file = file; names = drop here.from (take here.to names); path = xs; result = here.kind; next = here.next };
      outer = environments_of file names calls outer;
    }) (e here.depth (omega arith))

pub calls-cut : (file names : List Binding) (calls : List Place) (here : Scope) (outer : List Scope) → are_nested (length names) (length calls) (here ∷ outer)
    → shown file names (take here.depth calls) here outer ≡ shown file names calls here outer
calls-cut file names calls here outer h = calls-same file names calls (take here.depth calls) here outer (λ k le. take-take k here.depth calls le) h

pub calls-put : (file names : List Binding) (calls : List Place) (here : Scope) (outer : List Scope) (at : Place) → are_nested (length names) (length calls) (here ∷ outer)
    → shown file names (take here.depth calls ++ at ∷ []) here outer ≡ shown file names calls here outer
calls-put file names calls here outer at h = calls-same file names calls (take here.depth calls ++ at ∷ []) here outer (λ k le. take-put calls (at ∷ []) k here.depth le h.0.depth) h

pub nested-call : (names : List Binding) (calls : List Place) (here : Scope) (outer : List Scope) (at : Place) (kind : Option CType) → are_nested (length names) (length calls) (here ∷ outer)
    → are_nested (length names) (length (take here.depth calls ++ at ∷ [])) (record { from = here.to; to = here.to; depth = here.depth + 1; kind = kind; next = 0 } ∷ here ∷ outer)
nested-call names calls here outer at kind h = (
  record { from = omega arith; to = h.0.to; depth = omega (arith, length_put calls at here.depth h.0.depth); next = omega arith },
  (record { from = h.0.from; to = omega arith; depth = omega arith; next = h.0.next }, h.1),
)

pub slice-names : (names : List Binding) (from to : ℕ) → from ≤ to → take (to - from) (drop from names) ≡ drop from (take to names)
slice-names names from to le =
    let e : from + (to - from) ≡ to = omega arith in
    sym (ap (λ n. drop from (take n names)) (sym e) ∙ drop-take from (to - from) names)

-- what holds whatever the error is
pub anyway : {A E : Type 0} (r : Result A E) (P : Type 0) → P → OnErr r P
anyway (Ok x) P h = tt
anyway (Err e) P h = h
