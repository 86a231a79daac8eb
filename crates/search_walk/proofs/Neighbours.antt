-- The changes of a flag that a mask asks for are flags, and so is all that a search finds.
-- Assumes nothing.
use mathlib.Core.Path.{refl, sym, ◌∙◌}
use mathlib.Core.Bool.{Bool}
use mathlib.Core.Logic.{inl, inr, ⊎_elim}
use mathlib.Core.List.Memᴰ
use mathlib.Core.List.{List, [], ◌∷◌, Memᴰ}
use Prim.Native.Nat.{ℕ, ◌<◌}
use native.Mathlib.Omega.{arith}
use lib.ListN.{length}
use Rattle.order.specs.Lists.{In}
use Rattle.listing.specs.Listing.{Listing, Limits, rank}
use Rattle.valid.specs.Closed.{Closed}
use Rattle.flag_change.specs.Flags.{IsFlag}
use Rattle.flag_change.specs.Change.{change_at}
use Rattle.flag_change.proofs.Changes.{changes}
use Rattle.search_theory.specs.Search.{State, meet, meet_all}
use Rattle.search_theory.proofs.Once.{mem_at, at_in}
use Rattle.search_theory.proofs.Step.{meet_cases}
use Rattle.search_index.specs.Rows.{rows}
use Rattle.search_index.proofs.Rows.{rows_length, rows_at}
use Rattle.search_masks.specs.Masks.{InnerRanks, ranks_of}
use Rattle.search_masks.proofs.Ranks.{ranks_exact}
use Rattle.search_walk.specs.Searched.{mask_changes}
use Rattle.search_walk.specs.Ready.{AllFlags}

-- a member, as the lists of numbers have it
pub mem_in : (x : ℕ) (l : List ℕ) → Memᴰ x l → In x l
unfolding In
mem_in x l (Memᴰ.head e) = inl e
mem_in x l (Memᴰ.tail {xs = m} h) = inr (mem_in x m h)

module _ {m : Limits} (L : Listing) (C : Closed m L) (mask : ℕ) (W : InnerRanks (rank L) mask) (f : List ℕ)
    (F : IsFlag L f)
  where
    pub neighbour_flag : (y : List ℕ) → Memᴰ y (mask_changes L mask f) → IsFlag L y
    unfolding mask_changes
    neighbour_flag y m =
        let t = Memᴰ.of_map (λ r. change_at L r f) (ranks_of mask) m in
        let b = W t.0 ((ranks_exact mask t.0).0 (mem_in t.0 (ranks_of mask) t.1)) in
        rw t.2 at (changes L C t.0 b.0 b.1 f F).is_flag

pub in_mem : (x : ℕ) (l : List ℕ) → In x l → Memᴰ x l
unfolding In
in_mem x [] h = absurd h
in_mem x (y ∷ l) (inl e) = Memᴰ.head e
in_mem x (y ∷ l) (inr h) = Memᴰ.tail (in_mem x l h)

-- ---- what holds of each thing met holds of each thing found

-- it holds of all members of a list
abbrev pub All : {A : Type 0} → (A → Type 0) → List A → Type 0
All {A} P l = (x : A) → Memᴰ x l → P x

module _ {A : Type 0} (same : A → A → Bool) (room b : ℕ) (P : A → Type 0) where
  pub meet_all_lem : (S : State A) (y : A) → All P S.found → P y → All P (meet same room b S y).found
  meet_all_lem S y h p =
      meet_cases same room b S y (λ T. All P T.found) (λ o. h) (λ o i. h)
      (λ o i r x m. ⊎_elim (h x) (last x) (Memᴰ.append_cases S.found m)) (λ o i r. h)
    where
      last : All P (y ∷ [])
      last x m = rw (Memᴰ.eq_of_singleton m) p

  pub meets_all : (S : State A) (l : List A) → All P S.found → All P l → All P (meet_all same room b S l).found
  unfolding meet_all
  meets_all S [] h p = h
  meets_all S (y ∷ l) h p =
      meets_all (meet same room b S y) l (meet_all_lem S y h (p y (Memᴰ.head refl))) (λ x m. p x (Memᴰ.tail m))

-- ---- the rows of a table, as a list and one by one

module _ (L : Listing) (table : List ℕ) (n : ℕ) where
  pub rows_flags : All (IsFlag L) (rows (length L.counts) table n) → AllFlags L table n
  rows_flags h k i =
      let w = length L.counts in
      rw (rows_at w table n k [] i) at (h _ (mem_at (rows w table n) [] k (omega (arith, rows_length w table n))))

  pub flags_rows : AllFlags L table n → All (IsFlag L) (rows (length L.counts) table n)
  flags_rows h y m =
      let w = length L.counts in
      let t = at_in (rows w table n) [] y m in
      let i : t.0 < n = omega (arith, rows_length w table n, t.1) in
      rw (sym (rows_at w table n t.0 [] i) ∙ t.2) at (h t.0 i)
