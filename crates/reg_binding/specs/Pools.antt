-- Sharing registers by going through values of a block in order: which registers are free from a cycle on.
use Rattle.std.specs.Prelude.{◌≡◌, ℕ, ◌+◌, ◌^◌, ◌<◌, ◌≤◌, ◌⊎◌, List, [], ◌∷◌, ◌++◌, length, slice_get, slice_index, Some, None}
use Rattle.reg_binding.specs.declared.life.Life.{Life}
use Rattle.reg_binding.specs.declared.pool.Pool.{Pool}
use Rattle.reg_binding.specs.Sharing.{life_at, IsShared}

-- of less width, or of the same width and there from no later cycle on
abbrev pub Precedes : Life → Life → Type 0
Precedes one other = (one.width < other.width) ⊎ ((one.width ≡ other.width) × (one.start ≤ other.start))

-- the value is there in some cycle, and the cycle after it is a number of 64 bits
abbrev pub IsLasting : Life → Type 0
IsLasting life = (0 < life.length) × (life.start + life.length < 2 ^ 64)

-- the first n values stand in the order of their widths, and of their first cycles where these are equal
pub record AreInOrder (lives : List Life) (n : ℕ) : Type 0 where
  pub lasting : (i : ℕ) → i < n → IsLasting (life_at lives i)
  pub order : (i j : ℕ) → i < j → j < n → Precedes (life_at lives i) (life_at lives j)

abbrev pub Has : {A : Type 0} → List A → A → Type 0
Has xs x = (k : ℕ) × (slice_get xs k ≡ Some x)

-- all values of the register are gone by this cycle
abbrev pub IsOver : List Life → ℕ → List ℕ → ℕ → ℕ → Type 0
IsOver lives n choices r time = (i : ℕ) → i < n → slice_index choices i ≡ r → (life_at lives i).start + (life_at lives i).length ≤ time

-- the last of them is gone by this cycle, and not before
pub record Ends (lives : List Life) (n : ℕ) (choices : List ℕ) (r time : ℕ) : Type 0 where
  pub over : IsOver lives n choices r time
  pub last : (i : ℕ) × (i < n) × (slice_index choices i ≡ r) × ((life_at lives i).start + (life_at lives i).length ≡ time)

-- The pool has the registers of its width below `next`: in order of their numbers those that are free by this cycle, and the others in order of the cycles by which they are.
pub record IsPool (lives : List Life) (n : ℕ) (choices widths : List ℕ) (time : ℕ) (pool : Pool) : Type 0 where
  pub inside : pool.next ≤ length widths
  pub all : (r : ℕ) → r < pool.next → slice_index widths r ≡ pool.width → Has pool.free.keys r ⊎ ((end_ : ℕ) × Has pool.busy.keys (end_, r))
  pub used : (i : ℕ) → i < n → (life_at lives i).width ≡ pool.width → slice_index choices i < pool.next
  pub free : (r : ℕ) → Has pool.free.keys r → (r < pool.next) × (slice_index widths r ≡ pool.width) × IsOver lives n choices r time
  pub busy : (r end_ : ℕ) → Has pool.busy.keys (end_, r) → (r < pool.next) × (slice_index widths r ≡ pool.width) × Ends lives n choices r end_

-- the first register that is free
pub record PicksFree (before after : Pool) (r : ℕ) : Type 0 where
  pub first : before.free.keys ≡ r ∷ after.free.keys
  pub least : (k : ℕ) → Has after.free.keys k → r < k
  pub next : after.next ≡ before.next

-- the first register of the width that was not looked at, or, if there is none, their number
pub record PicksNew (widths : List ℕ) (before after : Pool) (r : ℕ) : Type 0 where
  pub none : before.free.keys ≡ []
  pub free : after.free.keys ≡ []
  pub next : after.next ≡ r + 1
  pub behind : before.next ≤ length widths → before.next ≤ r
  pub most : r ≤ length widths
  pub fits : r < length widths → slice_index widths r ≡ before.width
  pub first : (k : ℕ) → before.next ≤ k → k < r → slice_index widths k ≡ before.width → ⊥

-- value n gets register r, which may be a new one
pub record Takes (lives : List Life) (n : ℕ) (choices before after : List ℕ) (pool : Pool) (r : ℕ) : Type 0 where
  pub shared : IsShared None lives (n + 1) after (choices ++ r ∷ [])
  pub pool_ : IsPool lives (n + 1) (choices ++ r ∷ []) after (life_at lives n).start pool
  pub grown : (after ≡ before) ⊎ ((after ≡ before ++ (life_at lives n).width ∷ []) × (r ≡ length before))
