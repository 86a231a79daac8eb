-- The flags are worked in the order found.
-- Assumes nothing.
use mathlib.Core.Path.{◌≡◌, refl, sym, ap, ap₂, ◌∙◌}
use mathlib.Core.List.{List}
use Prim.Native.Nat.{ℕ, ◌+◌, ◌-◌, ◌≤◌, ◌<◌}
use native.Mathlib.Omega.{arith}
use lib.ListN.{length, get_or}
use lib.Seq.{get_or-take}
use Rattle.std.specs.Prelude.{Ok, Err}
use Rattle.listing.specs.Listing.{Listing, limits, rank}
use Rattle.valid.specs.Closed.{Closed}
use Rattle.flag_change.specs.Flags.{IsFlag}
use Rattle.search_theory.specs.Search.{State, meet_all, work, run}
use Rattle.search_theory.proofs.Run.{run_next, run_stop, run_end}
use Rattle.search_store.specs.declared.Found.{Found}
use Rattle.search_store.specs.declared.Full.{Full}
use Rattle.search_store.specs.declared.Store.{Store}
use Rattle.search_index.specs.Rows.{row_of, same_list}
use Rattle.search_store.specs.Held.{state_of, state_in, Held, Moved}
use Rattle.search_index.proofs.Rows.{rows_at}
use Rattle.search_store.proofs.Meets.{count_is, moved_none, moved_trans, moved_to, moved_over}
use Rattle.search_masks.specs.Masks.{InnerRanks}
use Rattle.search_walk.specs.Searched.{mask_changes}
use Rattle.search_walk.specs.Ready.{AllFlags}
use Rattle.search_walk.proofs.Neighbours.{meets_all, neighbour_flag, rows_flags, flags_rows}

module _ (L : Listing) (mask : ℕ) where
  abbrev w : ℕ
  w = length L.counts

  -- the state after the changes of the kth flag were met
  abbrev pub worked : Store → Found → ℕ → State (List ℕ)
  worked t s k =
      meet_all same_list t.room (1 - get_or t.bytes.now k 0) (state_in w t s)
      (mask_changes L mask (row_of w t.table.now k))

  -- the state after all flags from the kth on were worked
  abbrev ran : ℕ → List ℕ → ℕ → State (List ℕ) → State (List ℕ)
  ran room a k S = run same_list room (mask_changes L mask) a k S

  -- on the way from s₀ the flags before the kth were worked: what is left leads to the same state
  pub record Running (t₀ : Store) (s₀ : Found) (t : Store) (s : Found) (k : ℕ) : Type 0 where
    pub moved : Moved w t₀ s₀ t (Ok s) (state_in w t s)
    pub flags : AllFlags L t.table.now s.count
    pub whole : (a : List ℕ) → ran t₀.room a 0 (state_in w t₀ s₀) ≡ ran t₀.room a k (state_in w t s)

  -- what the code does at the kth flag is what the search does there
  work_is : (t : Store) (s : Found) (k : ℕ) (a : List ℕ) → k < s.count
      → work same_list t.room (mask_changes L mask) a k (state_in w t s) ≡ worked t s k
  unfolding work state_of
  work_is t s k a h =
      ap₂ (λ c f. meet_all same_list t.room (1 - c) (state_in w t s) (mask_changes L mask f))
      (get_or-take s.count t.bytes.now k 0 h) (rows_at w t.table.now s.count k a h)

  pub running_start : {t : Store} {s : Found} → Held w t s.count → AllFlags L t.table.now s.count
      → Running t s t s 0
  running_start H f = record { moved = moved_none _ _ _ H refl refl; flags = f; whole = λ a. refl }

  module _ (C : Closed limits L) (A : InnerRanks (rank L) mask) where
    -- the flags after the kth was worked
    flags_next : {t t' : Store} {s s' : Found} (k : ℕ) → AllFlags L t.table.now s.count → k < s.count
        → Moved w t s t' (Ok s') (worked t s k) → AllFlags L t'.table.now s'.count
    unfolding state_of
    flags_next {t} {t'} {s} {s'} k f i M =
        rows_flags L t'.table.now s'.count
        (rw (ap (λ S. S.found) M.state)
        (meets_all same_list t.room (1 - get_or t.bytes.now k 0) (IsFlag L) (state_in w t s)
        (mask_changes L mask (row_of w t.table.now k)) (flags_rows L t.table.now s.count f)
        (neighbour_flag L C mask A (row_of w t.table.now k) (f k i))))

    module _ {t₀ : Store} {s₀ : Found} {t : Store} {s : Found} {k : ℕ} (K : Running t₀ s₀ t s k) where
      next_whole : k < s.count → (a : List ℕ)
          → ran t₀.room a 0 (state_in w t₀ s₀) ≡ ran t₀.room a (k + 1) (worked t s k)
      unfolding state_of
      next_whole i a =
          let c = count_is w t.table.now t.bytes.now s in
          run_next same_list t₀.room (mask_changes L mask) a _ k (state_in w t s) (K.whole a) refl
          (omega (arith, c)) (omega (arith, c, K.moved.held.fits, K.moved.same.room))
          ∙ ap (λ n. ran t₀.room a (k + 1) (work same_list n (mask_changes L mask) a k (state_in w t s)))
          (sym K.moved.same.room)
          ∙ ap (ran t₀.room a (k + 1)) (work_is t s k a i)

      pub running_next : {t' : Store} {s' : Found} → k < s.count → Moved w t s t' (Ok s') (worked t s k)
          → Running t₀ s₀ t' s' (k + 1)
      running_next i M = record {
        moved = moved_to (moved_trans K.moved M) (sym M.state);
        flags = flags_next k K.flags i M;
        whole = λ a. next_whole i a ∙ ap (ran t₀.room a (k + 1)) (sym M.state);
      }

      pub running_stop : {t' : Store} {d : Full} → k < s.count → Moved w t s t' (Err d) (worked t s k)
          → (a : List ℕ) → Moved w t₀ s₀ t' (Err d) (ran t₀.room a 0 (state_in w t₀ s₀))
      running_stop i M a =
          moved_to (moved_trans K.moved M)
          (sym (run_stop same_list t₀.room (mask_changes L mask) a _ (k + 1) (worked t s k) (next_whole i a)
          (moved_over M)))

      pub running_end : s.count ≤ k → (a : List ℕ) → Moved w t₀ s₀ t (Ok s) (ran t₀.room a 0 (state_in w t₀ s₀))
      running_end i a =
          moved_to K.moved
          (sym (run_end same_list t₀.room (mask_changes L mask) a _ k (state_in w t s) (K.whole a)
          (omega (arith, count_is w t.table.now t.bytes.now s))))
