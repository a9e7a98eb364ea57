-- The numbers of the calls that end among pieces and within them.
use Rattle.std.proofs.Common.{◌≡◌, ◌∙◌, ◌⊎◌, inl, inr, ℕ, ◌+◌, Bool, true, false, List, [], ◌∷◌, ◌++◌, refl, ap, sym, subst, if◌then◌else◌}
use Rattle.std.proofs.lemmas.Bool.{cases_Bool}
use Rattle.std.proofs.lemmas.Bool.Decides.{eqb_tells}
use Rattle.pieces.specs.declared.piece.Label.{Label}
use Rattle.pieces.specs.Trees as tree
use Rattle.pieces.specs.Trees.{PieceTree, PieceTrees, piece_row}
use Rattle.ir_layout.specs.WellFormed.{has_number}
use Rattle.passes.specs.Lowering.{is_named}
use Rattle.pass_runs.specs.LowerRuns.LoweredTrees.Fitting.{ends_in, ends_before_arm}
use Rattle.pass_runs.specs.LowerRuns.Suiting.{IsApart, AreApart}

-- something of the number of each call that ends in a piece
abbrev mutual
  pub EachEnd : (ℕ → Type 0) → PieceTree → Type 0
  EachEnd P (tree.land call end) = P call.0
  EachEnd P (tree.fork test first second end) = AllEnds P first × AllEnds P second
  EachEnd P (tree.repeat_ id post before test body step end) = AllEnds P before × AllEnds P body × AllEnds P step
  EachEnd P (tree.pick test labels body end) = AllEnds P body
  EachEnd P piece = Unit {0}

  pub AllEnds : (ℕ → Type 0) → PieceTrees → Type 0
  AllEnds P tree.no_pieces = Unit {0}
  AllEnds P (tree.then_ piece rest) = EachEnd P piece × AllEnds P rest

module _ (P Q : ℕ → Type 0) (f : (j : ℕ) → P j → Q j) where
  mutual
    pub each_end : (x : PieceTree) → EachEnd P x → EachEnd Q x
    each_end (tree.land call end) h = f call.0 h
    each_end (tree.fork test first second end) h = (all_ends first h.0, all_ends second h.1)
    each_end (tree.repeat_ id post before test body step end) h = (all_ends before h.0, all_ends body h.1, all_ends step h.2)
    each_end (tree.pick test labels body end) h = all_ends body h
    each_end x h = tt

    pub all_ends : (xs : PieceTrees) → AllEnds P xs → AllEnds Q xs
    all_ends tree.no_pieces h = tt
    all_ends (tree.then_ x xs) h = (each_end x h.0, all_ends xs h.1)

pub ends_append : (P : ℕ → Type 0) (xs ys : List PieceTree) → AllEnds P (piece_row xs) → AllEnds P (piece_row ys) → AllEnds P (piece_row (xs ++ ys))
ends_append P [] ys h g = g
ends_append P (x ∷ xs) ys h g = (h.0, ends_append P xs ys h.1 g)

-- ---- of the pieces themselves

abbrev pub OwnEnd : (ℕ → Type 0) → PieceTree → Type 0
OwnEnd P (tree.land call end) = P call.0
OwnEnd P piece = Unit {0}

abbrev pub OwnEnds : (ℕ → Type 0) → List PieceTree → Type 0
OwnEnds P [] = Unit {0}
OwnEnds P (x ∷ xs) = OwnEnd P x × OwnEnds P xs

own_end : (P : ℕ → Type 0) (x : PieceTree) → EachEnd P x → OwnEnd P x
own_end P (tree.land call end) h = h
own_end P x h = tt

pub own_ends : (P : ℕ → Type 0) (xs : List PieceTree) → AllEnds P (piece_row xs) → OwnEnds P xs
own_ends P [] h = tt
own_ends P (x ∷ xs) h = (own_end P x h.0, own_ends P xs h.1)

own_map : (P Q : ℕ → Type 0) → ((j : ℕ) → P j → Q j) → (x : PieceTree) → OwnEnd P x → OwnEnd Q x
own_map P Q f (tree.land call end) h = f call.0 h
own_map P Q f x h = tt

pub own_all : (P Q : ℕ → Type 0) → ((j : ℕ) → P j → Q j) → (xs : List PieceTree) → OwnEnds P xs → OwnEnds Q xs
own_all P Q f [] h = tt
own_all P Q f (x ∷ xs) h = (own_map P Q f x h.0, own_all P Q f xs h.1)

pub own_append : (P : ℕ → Type 0) (xs ys : List PieceTree) → OwnEnds P xs → OwnEnds P ys → OwnEnds P (xs ++ ys)
own_append P [] ys h g = g
own_append P (x ∷ xs) ys h g = (h.0, own_append P xs ys h.1 g)

-- ---- calls that end in a list

-- no call of these numbers ends in the piece
abbrev pub IsNot : ℕ → ℕ → Type 0
IsNot j i = i ≡ j → ⊥

abbrev pub Apart : List ℕ → PieceTree → Type 0
Apart lands x = (j : ℕ) → has_number lands j ≡ true → EachEnd (IsNot j) x

abbrev pub AllApart : List ℕ → PieceTrees → Type 0
AllApart lands xs = (j : ℕ) → has_number lands j ≡ true → AllEnds (IsNot j) xs

found_cases : (x : ℕ) (xs : List ℕ) (j : ℕ) → has_number (x ∷ xs) j ≡ true → (x ≡ j) ⊎ (has_number xs j ≡ true)
found_cases x xs j e = elim (eqb_tells j x) [
  | inl h ↦ inl (sym h.1)
  | inr h ↦ inr (sym (ap (λ b. if b then true else has_number xs j) h.0) ∙ e)
]

-- what holds of the ends of pieces and of those behind them holds of all
module _ (P : ℕ → Type 0) (lands : List ℕ) (others : (j : ℕ) → has_number lands j ≡ true → P j) where
  pub each_in : (xs : List PieceTree) → OwnEnds P xs → (j : ℕ) → has_number (ends_in (piece_row xs) lands) j ≡ true → P j
  each_in [] h j e = others j e
  each_in (tree.land call end ∷ xs) h j e = elim (found_cases call.0 (ends_in (piece_row xs) lands) j e) [
    | inl same ↦ subst P same h.0
    | inr more ↦ each_in xs h.1 j more
  ]
  each_in (x ∷ xs) h j e = each_in xs h.1 j e

  -- of those up to the next arm
  module _ (labels : List Label) where
    named_or : (b : Bool) (more : List ℕ) (j : ℕ) → has_number (if b then lands else more) j ≡ true → (has_number more j ≡ true → P j) → P j
    named_or true more j e next = others j e
    named_or false more j e next = next e

    pub each_before_arm : (i : ℕ) (xs : List PieceTree) → OwnEnds P xs → (j : ℕ) → has_number (ends_before_arm labels i (piece_row xs) lands) j ≡ true → P j
    each_before_arm i [] h j e = others j e
    each_before_arm i (tree.land call end ∷ xs) h j e = named_or (is_named labels i) (call.0 ∷ ends_before_arm labels (i + 1) (piece_row xs) lands) j e
        (λ f. elim (found_cases call.0 (ends_before_arm labels (i + 1) (piece_row xs) lands) j f) [
          | inl same ↦ subst P same h.0
          | inr more ↦ each_before_arm (i + 1) xs h.1 j more
        ])
    each_before_arm i (x ∷ xs) h j e = named_or (is_named labels i) (ends_before_arm labels (i + 1) (piece_row xs) lands) j e (λ f. each_before_arm (i + 1) xs h.1 j f)

-- ---- pieces that do not end calls of a list

not_found : (lands : List ℕ) (n : ℕ) → (has_number lands n ≡ true → IsNot n n) → has_number lands n ≡ false
not_found lands n h = elim (cases_Bool (has_number lands n)) [ inl t ↦ absurd (h t refl) | inr f ↦ f ]

pub is_apart : (lands : List ℕ) (x : PieceTree) → Apart lands x → IsApart lands x
is_apart lands (tree.land call end) h = not_found lands call.0 (λ e. h call.0 e)
is_apart lands x h = tt

pub are_apart : (lands : List ℕ) (xs : PieceTrees) → AllApart lands xs → AreApart lands xs
are_apart lands tree.no_pieces h = tt
are_apart lands (tree.then_ x xs) h = (is_apart lands x (λ j e. (h j e).0), are_apart lands xs (λ j e. (h j e).1))
