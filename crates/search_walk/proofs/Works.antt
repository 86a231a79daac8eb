-- The changes of one flag are met, from the lowest rank upward.
-- Assumes nothing.
use mathlib.Core.Path.{◌≡◌, refl, sym, ap, ◌∙◌}
use mathlib.Core.Bool.{Bool, true}
use mathlib.Core.Logic.{inl, inr}
use mathlib.Core.List.{List, ◌∷◌, map}
use Prim.Native.Nat.{ℕ, ◌-◌, ◌^◌, ◌<◌}
use native.Mathlib.Omega.{arith}
use borrow.Author.Tests.{ltb-true}
use lib.Dec.{ltb}
use lib.Count.{count_trailing_zeros}
use lib.ListN.{length}
use Rattle.std.specs.Prelude.{Ok, Err}
use Rattle.order.specs.Lists.{In}
use Rattle.listing.specs.Listing.{width, Listing, limits, rank}
use Rattle.flag_change.specs.Change.{change_at}
use Rattle.search_theory.specs.Search.{State, meet, meet_all}
use Rattle.search_theory.proofs.Step.{meets_overflow}
use Rattle.search_store.specs.declared.Found.{Found}
use Rattle.search_store.specs.declared.Full.{Full}
use Rattle.search_store.specs.declared.Store.{Store}
use Rattle.search_index.specs.Rows.{same_list}
use Rattle.search_store.specs.Held.{state_in, Held, Moved}
use Rattle.search_store.proofs.Meets.{moved_none, moved_trans, moved_to, moved_over}
use Rattle.search_masks.specs.Masks.{InMask, InnerRanks}
use Rattle.search_masks.proofs.Ranks.{ranks_exact, ranks_next, ranks_none}
use Rattle.search_walk.specs.Searched.{mask_changes}

-- ---- the walk over a mask

-- on the way from s₀ the ranks below the lowest that is left were met: what is left leads to the same state W
pub record Working (L : Listing) (t₀ : Store) (s₀ : Found) (byte : ℕ) (f : List ℕ) (W : State (List ℕ)) (t : Store)
    (left : ℕ) (s : Found) : Type 0 where
  pub moved : Moved (length L.counts) t₀ s₀ t (Ok s) (state_in (length L.counts) t s)
  pub small : left < width
  pub inner : InnerRanks (rank L) left
  pub whole : W ≡ meet_all same_list t₀.room byte (state_in (length L.counts) t s) (mask_changes L left f)

pub working_start : (L : Listing) (byte : ℕ) (f : List ℕ) {t : Store} {s : Found} (mask : ℕ)
    → Held (length L.counts) t s.count → mask < width → InnerRanks (rank L) mask
    → Working L t s byte f
    (meet_all same_list t.room byte (state_in (length L.counts) t s) (mask_changes L mask f)) t mask s
working_start L byte f mask H m w =
    record { moved = moved_none _ _ _ H refl refl; small = m; inner = w; whole = refl }

-- a change is left
pub some_left : {left : ℕ} {any : Bool} → any ≡ ltb 0 left → any ≡ true → 0 < left
some_left e h = ltb-true 0 _ (sym e ∙ h)

-- the lowest rank that is left, and those after it
module _ (left : ℕ) (m : left < width) (p : 0 < left) (r : ℕ) (e : r ≡ count_trailing_zeros limits.ranks left) where
  first_left : InMask left r
  unfolding In
  first_left = (ranks_exact left r).0 (rw (ranks_next left r p m e) (inl refl))

  rest_left : (k : ℕ) → InMask (left - 2 ^ r) k → InMask left k
  unfolding In
  rest_left k i = (ranks_exact left k).0 (rw (ranks_next left r p m e) (inr ((ranks_exact (left - 2 ^ r) k).1 i)))

  changes_next : (L : Listing) (f : List ℕ) → mask_changes L left f ≡ change_at L r f ∷ mask_changes L (left - 2 ^ r) f
  unfolding mask_changes
  changes_next L f = ap (map (λ k. change_at L k f)) (ranks_next left r p m e)

module _ {L : Listing} {t₀ : Store} {s₀ : Found} {byte : ℕ} {f : List ℕ} {W : State (List ℕ)} {t : Store} {left : ℕ}
    {s : Found} (K : Working L t₀ s₀ byte f W t left s) where
  -- the state that the code has come to
  abbrev S : State (List ℕ)
  S = state_in (length L.counts) t s

  module _ (p : 0 < left) (r : ℕ) (e : r ≡ count_trailing_zeros limits.ranks left) where
    pub working_rank : (0 < r) × (r < rank L)
    working_rank = K.inner r (first_left left K.small p r e)

    -- the state after the change at rank r, and what is left of the whole
    abbrev T : State (List ℕ)
    T = meet same_list t.room byte S (change_at L r f)

    rest_whole : W ≡ meet_all same_list t₀.room byte T (mask_changes L (left - 2 ^ r) f)
    unfolding meet_all
    rest_whole =
        K.whole ∙ ap (meet_all same_list t₀.room byte S) (changes_next left K.small p r e L f)
        ∙ ap (λ n. meet_all same_list t₀.room byte (meet same_list n byte S (change_at L r f))
        (mask_changes L (left - 2 ^ r) f)) (sym K.moved.same.room)

    pub working_next : {t' : Store} {s' : Found} (left' : ℕ) → left' ≡ left - 2 ^ r
        → Moved (length L.counts) t s t' (Ok s') T → Working L t₀ s₀ byte f W t' left' s'
    working_next left' d M =
        rw d (record {
          moved = moved_to (moved_trans K.moved M) (sym M.state);
          small = omega (arith, K.small);
          inner = λ k i. K.inner k (rest_left left K.small p r e k i);
          whole =
              rest_whole
              ∙ ap (λ z. meet_all same_list t₀.room byte z (mask_changes L (left - 2 ^ r) f)) (sym M.state);
        })

    pub working_stop : {t' : Store} {d : Full} → Moved (length L.counts) t s t' (Err d) T
        → Moved (length L.counts) t₀ s₀ t' (Err d) W
    working_stop M =
        moved_to (moved_trans K.moved M)
        (sym (rest_whole
        ∙ meets_overflow same_list t₀.room byte T (mask_changes L (left - 2 ^ r) f) (moved_over M)))

  pub working_end : left ≡ 0 → Moved (length L.counts) t₀ s₀ t (Ok s) W
  unfolding mask_changes meet_all
  working_end z = moved_to K.moved (sym (K.whole ∙ rw (z, ranks_none) refl))
