-- The start of a search: nothing is found, the first flag is met, and then all are worked.
-- Assumes nothing.
use mathlib.Core.Path.{◌≡◌, refl, sym, ap, subst, ◌∙◌}
use mathlib.Core.List.Memᴰ
use mathlib.Core.List.{List}
use Prim.Native.Nat.{ℕ, ◌*◌, ◌%◌, ◌≤◌}
use native.Mathlib.Omega.{arith}
use lib.ListN.{length, replicate, length-replicate, get_or-replicate}
use Rattle.std.specs.Prelude.{Result, Ok, Err}
use Rattle.listing.specs.Listing.{Listing, limits}
use Rattle.flag_change.specs.Flags.{IsFlag}
use Rattle.search_theory.specs.Search.{State, unbegun, Once, meet, run, search}
use Rattle.search_theory.proofs.Run.{run_stop}
use Rattle.search_index.specs.Chain.{latest}
use Rattle.search_store.specs.declared.Found.{Found}
use Rattle.search_store.specs.declared.Full.{Full}
use Rattle.search_store.specs.declared.Store.{Store}
use Rattle.search_index.specs.declared.index.Chains.{Chains}
use Rattle.search_index.specs.Rows.{rows, same_list}
use Rattle.search_index.specs.Hash.{hashes, sum_from, hash_of}
use Rattle.search_index.specs.Index.{Indexed}
use Rattle.search_store.specs.Held.{state_of, state_in, Held, Moved}
use Rattle.search_store.proofs.Meets.{moved_trans, moved_to, moved_over}
use Rattle.search_walk.specs.Searched.{mask_changes, found_by}
use Rattle.search_walk.specs.Ready.{nothing, Ended, AllFlags}
use Rattle.search_walk.proofs.Neighbours.{meet_all_lem, rows_flags}

abbrev pub unchained : Chains
unchained = record { heads = replicate hashes 0; next = replicate limits.flags 0 }

-- ---- nothing is found

indexed_none : (w : ℕ) (table : List ℕ) → Indexed w 0 table unchained
unfolding Once rows latest
indexed_none w table = record {
  all_heads = length-replicate {A = ℕ} hashes 0;
  all_next = length-replicate {A = ℕ} limits.flags 0;
  few = omega arith;
  fits = omega arith;
  once = tt;
  head = λ h i. get_or-replicate hashes h 0 0 i;
  chain = λ k i. absurd (omega arith);
}

module _ (w : ℕ) (t : Store) where
  pub held_none : t.chains ≡ unchained
      → (t.room * w ≤ length t.table.now) × (t.room ≤ length t.bytes.now) × (t.room ≤ limits.flags) → Held w t 0
  held_none e p = record {
    room_rows = p.0;
    room_bytes = p.1;
    room_few = p.2;
    fits = omega arith;
    indexed = rw e (indexed_none w t.table.now);
  }

  none_is : state_in w t nothing ≡ unbegun
  unfolding state_of rows
  none_is = refl

-- the search has come to its end, and its slices are told
pub ended : {w : ℕ} {t u : Store} {s : Found} {q : Result Found Full} {S : State (List ℕ)} → Moved w t s u q S
    → (table bytes : List ℕ) → table ≡ u.table.now → bytes ≡ u.bytes.now
    → Ended w t.room t.table.now t.bytes.now table bytes q S
ended {w} {t} {u} {s} {q} {S} M table bytes e d =
    rw (e, d)
    (subst (λ n. Ended w n t.table.now t.bytes.now u.table.now u.bytes.now q S) M.same.room
    (record { state = M.state; fits = M.held.fits; rest = M.rest }))

-- ---- the first flag is met

pub first_hash : (f : List ℕ) {sum : ℕ} → sum ≡ sum_from 0 f → sum % hashes ≡ hash_of f
unfolding hash_of
first_hash f e = ap (λ n. n % hashes) e

-- it has as many numbers as there are ranks
pub first_held : {L : Listing} {f : List ℕ} {t : Store} → IsFlag L f → Held (length L.counts) t 0 → Held (length f) t 0
first_held {t = t} F H = subst (λ n. Held n t 0) (sym F.one_each) H

pub first_met : {L : Listing} {f : List ℕ} {t u : Store} {q : Result Found Full} → IsFlag L f
    → Moved (length f) t nothing u q (meet same_list t.room 0 (state_in (length f) t nothing) f)
    → Moved (length L.counts) t nothing u q (meet same_list t.room 0 (state_in (length L.counts) t nothing) f)
first_met {f = f} {t} {u} {q} F M =
    subst (λ n. Moved n t nothing u q (meet same_list t.room 0 (state_in n t nothing) f)) F.one_each M

module _ (L : Listing) (mask : ℕ) (t : Store) (f : List ℕ) where
  abbrev w : ℕ
  w = length L.counts

  -- the state after it
  abbrev pub begun : State (List ℕ)
  begun = meet same_list t.room 0 (state_in w t nothing) f

  begun_is : begun ≡ meet same_list t.room 0 unbegun f
  begun_is = ap (λ S. meet same_list t.room 0 S f) (none_is w t)

  -- there is no room for it
  pub first_full : {u : Store} {d : Full} → Moved w t nothing u (Err d) begun
      → Moved w t nothing u (Err d) (found_by L f mask t.room)
  unfolding found_by search
  first_full M =
      moved_to M
      (sym (run_stop same_list t.room (mask_changes L mask) f _ 0 begun
      (ap (run same_list t.room (mask_changes L mask) f 0) (sym begun_is)) (moved_over M)))

  module _ {u : Store} {s : Found} (M : Moved w t nothing u (Ok s) begun) where
    pub first_flags : IsFlag L f → AllFlags L u.table.now s.count
    unfolding state_of
    first_flags F =
        rows_flags L u.table.now s.count
        (rw (ap (λ S. S.found) (M.state ∙ begun_is))
        (meet_all_lem same_list t.room 0 (IsFlag L) unbegun f (λ y m. absurd (Memᴰ.not-nil m)) F))

    -- and then all are worked
    pub all_found : {v : Store} {q : Result Found Full}
        → ((a : List ℕ) → Moved w u s v q (run same_list u.room (mask_changes L mask) a 0 (state_in w u s)))
        → Moved w t nothing v q (found_by L f mask t.room)
    unfolding found_by search
    all_found N =
        moved_to (moved_trans M (N f))
        (ap (λ n. run same_list n (mask_changes L mask) f 0 (state_in w u s)) M.same.room
        ∙ ap (run same_list t.room (mask_changes L mask) f 0) (M.state ∙ begun_is))
