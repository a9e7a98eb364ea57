-- Parts of a function: the names that are visible behind them, and the objects that they add.
use Rattle.std.proofs.Common.{◌≡◌, ℕ, ◌+◌, ◌-◌, ◌<◌, ◌≤◌, List, Result, Ok, Err, IfOk, OnOk, [], ◌∷◌, ◌++◌, length, map, drop, get_or, refl, sym, ap, subst, ◌∙◌, append_assoc, append-nil, arith}
use Rattle.std.proofs.Math.Seq.{drop-append_seam}
use Rattle.std.proofs.Math.ListN.{drop_of_length-le}
use Rattle.std.proofs.lemmas.List.{length-append, length-map, map-append}
use Rattle.c_tree.specs.Tree.{ObjectTree}
use Rattle.c_elaborate.specs.declared.names.Binding.{Binding}
use Rattle.c_elaborate.specs.declared.blocks.Mark.{Mark}
use Rattle.c_elaborate.specs.declared.blocks.Scene.{Scene}
use Rattle.pieces.specs.declared.resolved.expression.Scope.TheVariants as scope
use Rattle.c_elaborate.specs.Names.{binding_of, cell_of}
use Rattle.c_elaborate.specs.Scenes.{opened, declared, all_declared, returned}

-- ---- names

-- the names of one scene are the last of another's
abbrev pub IsOuter : Scene → Scene → Type 0
IsOuter outer inner = (front : List Binding) × (inner.names ≡ front ++ outer.names)

pub outer_itself : (s : Scene) → IsOuter s s
outer_itself s = ([], refl)

pub outer_declared : (outer inner : Scene) (os : List ObjectTree) → IsOuter outer inner → IsOuter outer (all_declared inner os)
outer_declared outer inner [] h = h
outer_declared outer inner (o ∷ os) h = outer_declared outer (declared inner o) os (one h)
  where
    one : IsOuter outer inner → IsOuter outer (declared inner o)
    one (front, is) = (binding_of o (cell_of scope.Call inner.next) ∷ front, ap (λ names. binding_of o (cell_of scope.Call inner.next) ∷ names) is)

behind_front : {A : Type 0} (xs ys : List A) → drop (length (xs ++ ys) - length ys) (xs ++ ys) ≡ ys
behind_front xs ys = ap (λ n. drop n (xs ++ ys)) count ∙ drop-append_seam xs ys
  where
    count : length (xs ++ ys) - length ys ≡ length xs
    count = let e = length-append xs ys in omega arith

-- behind a part everything is as it was before
pub left_again : (outer inner : Scene) (mark : Mark) → mark.names ≡ length outer.names → mark.next ≡ outer.next → mark.labels ≡ outer.labels → IsOuter outer inner → returned mark inner ≡ outer
left_again outer inner mark names next labels (front, is) = by same
  where
    same : drop (length inner.names - mark.names) inner.names ≡ outer.names
    same =
        ap (λ n. drop (length inner.names - n) inner.names) names
        ∙ ap (λ l. drop (length l - length outer.names) l) is
        ∙ behind_front front outer.names

    by : drop (length inner.names - mark.names) inner.names ≡ outer.names → returned mark inner ≡ outer
    by e = rw e (rw next (rw labels refl))

pub declared_both : (s : Scene) (os more : List ObjectTree) → all_declared s (os ++ more) ≡ all_declared (all_declared s os) more
declared_both s [] more = refl
declared_both s (o ∷ os) more = declared_both (declared s o) os more

-- behind a function, whose parameters and whose block are declared
pub left_function : (outer middle inner new : Scene) (mark : Mark) (params os : List ObjectTree) (n : ℕ)
    → new ≡ returned mark inner → inner ≡ all_declared (opened middle n) os → middle ≡ all_declared outer params
    → mark.names ≡ length outer.names → mark.next ≡ outer.next → mark.labels ≡ outer.labels → new ≡ outer
left_function outer middle inner new mark params os n leaves block enters names next labels =
    leaves ∙ (ap (returned mark) block ∙ left_again outer (all_declared (opened middle n) os) mark names next labels
    (outer_declared outer (opened middle n) os (subst (IsOuter outer) (sym enters) (outer_declared outer outer params ([], refl)))))

-- ---- objects

module _ {A B C : Type 0} (f : A → C) (g : B → C) where
  -- a part adds what its tree declares
  pub grown : (old new : List A) (xs : List B) → map f new ≡ map f old ++ map g xs → length new ≡ length old + length xs
  grown old new xs h =
      let a = length-map new f in
      let b = ap (λ l. length l) h in
      let c = length-append (map f old) (map g xs) in
      let d = length-map old f in
      let e = length-map xs g in
      omega arith

  -- one part and then another
  pub both : (old middle new : List A) (xs ys : List B) → map f middle ≡ map f old ++ map g xs → map f new ≡ map f middle ++ map g ys → map f new ≡ map f old ++ map g (xs ++ ys)
  both old middle new xs ys first second =
      second ∙ (ap (λ l. l ++ map g ys) first ∙ (append_assoc (map f old) (map g xs) (map g ys) ∙ ap (λ l. map f old ++ l) (sym (map-append g xs ys))))

  -- nothing is added
  pub nothing : (old : List A) → map f old ≡ map f old ++ map g []
  nothing old = sym (append-nil (map f old))

-- ---- results

pub ok_same : {A C E : Type 0} (f : A → C) (r : Result A E) (x y : C) → x ≡ y → IfOk r (λ s. f s ≡ x) → IfOk r (λ s. f s ≡ y)
ok_same f (Ok s) x y e h = h ∙ e
ok_same f (Err err) x y e h = tt

pub ok_always : {A E : Type 0} (r : Result A E) (P : Type 0) → P → OnOk r P
ok_always (Ok s) P p = p
ok_always (Err err) P p = tt
