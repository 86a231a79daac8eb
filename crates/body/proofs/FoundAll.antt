-- The search with every change from a flag: its steps are the single changes, and it finds all flags exactly if these
-- are in one piece. The flag of first sups is one such flag.
-- Assumes nothing.
use mathlib.Core.Path.{◌≡◌, refl, sym}
use mathlib.Core.Bool.{Bool, true, false}
use mathlib.Core.Logic.{◌↔◌, ⊎_elim}
use mathlib.Core.List.Memᴰ
use mathlib.Core.List.{List, ◌∷◌, Memᴰ}
use Prim.Native.Nat.{ℕ, suc, ◌≤◌, ◌<◌}
use native.Mathlib.Decide.{dec_lt}
use native.Mathlib.Omega.{arith}
use lib.ListN.{length}
use Rattle.order.specs.Steps.{Reach}
use Rattle.order.proofs.Steps.{Reach-kept, Reach-map}
use Rattle.std.specs.Prelude.{Result}
use Rattle.listing.specs.declared.Slices.{Slices}
use Rattle.listing.specs.Listing.{Listing, held, limits, rank}
use Rattle.valid.specs.Closed.{Closed}
use Rattle.valid.specs.Tests.{closed}
use Rattle.valid.proofs.InClosed.{is_closed, shaped}
use Rattle.flag_change.specs.Flags.{IsFlag}
use Rattle.search_theory.specs.Search.{State, Once, AtLeast, Neighbour, Proper, index_in}
use Rattle.search_theory.proofs.Once.{mem_at, once_fits}
use Rattle.search_theory.proofs.Lookup.{index_at, index_in_lem}
use Rattle.search_theory.proofs.Proper.{search_proper}
use Rattle.search_theory.proofs.Found.{found_exact}
use Rattle.search_store.specs.declared.Found.{Found}
use Rattle.search_store.specs.declared.Full.{Full}
use Rattle.search_index.specs.Rows.{same_list}
use Rattle.search_index.proofs.Rows.{same_decides}
use Rattle.search_masks.specs.Masks.{InnerRanks, every_rank}
use Rattle.search_walk.specs.Searched.{mask_changes, found_by}
use Rattle.search_walk.specs.Ready.{Ended}
use Rattle.search.specs.Exact.{Searchable, Leads}
use Rattle.search.proofs.Leads.{to_reach, of_reach, reach_flag, overflow_more}
use Rattle.search.proofs.EveryChange.{every_asked, every_searchable}
use Rattle.body_theory.specs.Pieces.{OneChange, OnePiece}
use Rattle.body_theory.specs.InAll.{flags_in_all, ManyFlags}
use Rattle.body_theory.specs.First.{sups_flag}
use Rattle.body_theory.proofs.First.{sups_flag_lem}
use Rattle.body_theory.proofs.Pieces.{one_piece_from, change_inner}
use Rattle.body_theory.proofs.InAll.{all_flags, all_flags_lem, all_once, all_many, flags_exact}
use Rattle.body.specs.Body.{whole_search}

module _ {L : Listing} (C : Closed limits L) {start : List ℕ} (F : IsFlag L start) where
  abbrev mask : ℕ
  mask = every_rank (rank L)

  searchable : Searchable limits L start mask
  searchable = every_searchable C F

  -- ---- its steps are the single changes

  lead_change : (f g : List ℕ) → Leads L mask f g → OneChange L f g
  lead_change f g l = record { at = l.at; is_flag = l.is_flag; changed = l.changed }

  change_lead : (f g : List ℕ) → IsFlag L f → OneChange L f g → Leads L mask f g
  change_lead f g G c = record {
    at = c.at;
    in_mask = every_asked C (change_inner C G c);
    is_flag = c.is_flag;
    changed = c.changed;
  }

  leads_changes : {f : List ℕ} → Reach (Leads L mask) start f → Reach (OneChange L) start f
  leads_changes q = Reach-map (λ f. f) lead_change q

  changes_leads : {f : List ℕ} → Reach (OneChange L) start f → Reach (Leads L mask) start f
  changes_leads q =
      Reach-map (λ f. f) (λ f g c. change_lead f g c.0 c.1) (Reach-kept (λ f g c. c.is_flag) F q)

  -- ---- what it finds

  module _ (room : ℕ) where
    abbrev S : State (List ℕ)
    S = found_by L start mask room

    proper : Proper room (Neighbour (mask_changes L mask)) start S
    unfolding found_by
    proper = search_proper same_list same_decides room (mask_changes L mask) start

    found_flag : (f : List ℕ) → Memᴰ f S.found → IsFlag L f
    found_flag f i = reach_flag searchable (proper.reached f i)

    -- It found no more flags than there are.
    pub found_few : length S.found ≤ flags_in_all L
    found_few =
        let h = once_fits S.found (all_flags C) proper.once (λ f i. (all_flags_lem C f).1 (found_flag f i)) in
        omega (arith, all_many C)

    module _ (fits : flags_in_all L ≤ room) where
      -- with room for all there is no overflow
      pub no_overflow : S.overflow ≡ false
      no_overflow = go S.overflow refl
        where
          more : AtLeast (suc room) (Leads L mask) start → ManyFlags (suc room) L
          more q = record {
            flags = q.things;
            many = q.many;
            once = q.once;
            each = λ f i. reach_flag searchable (of_reach searchable (q.reached f i));
          }

          go : (b : Bool) → S.overflow ≡ b → S.overflow ≡ false
          go true o =
              let h = (flags_exact C (suc room)).0 (more ((overflow_more searchable room).0 o)) in
              absurd (omega arith)
          go false o = o

      found_reached : (f : List ℕ) → Memᴰ f S.found ↔ Reach (OneChange L) start f
      unfolding found_by
      found_reached f =
          let e = found_exact same_list same_decides room (mask_changes L mask) start no_overflow f in (
            λ i. leads_changes (to_reach searchable (e.0 i)),
            λ q. e.1 (of_reach searchable (changes_leads q)),
          )

      -- if it found as many as there are, it found each
      found_each : flags_in_all L ≤ length S.found → (f : List ℕ) → IsFlag L f → Memᴰ f S.found
      unfolding Once
      found_each h f G = go (dec_lt (index_in same_list S.found f) (length S.found))
        where
          one_more : ¬ Memᴰ f S.found → ManyFlags (suc (length S.found)) L
          one_more n = record {
            flags = f ∷ S.found;
            many = refl;
            once = (n, proper.once);
            each = λ g i. ⊎_elim (λ e. rw e G) (found_flag g) (Memᴰ.cases_cons i);
          }

          go : Dec (index_in same_list S.found f < length S.found) → Memᴰ f S.found
          go (yes l) = Memᴰ.cast (sym (index_at same_list same_decides S.found f f l)) (mem_at S.found f _ l)
          go (no l) =
              absurd (omega (
                arith,
                (flags_exact C (suc (length S.found))).0
                    (one_more (λ i. l (index_in_lem same_list same_decides S.found f i))),
              ))

      -- It found as many flags as there are exactly if they are in one piece.
      pub found_piece : (flags_in_all L ≤ length S.found) ↔ OnePiece L
      unfolding OnePiece
      found_piece = (
        λ h. one_piece_from L F (λ g G. (found_reached g).0 (found_each h g G)),
        λ o.
            let each : (f : List ℕ) → Memᴰ f (all_flags C) → Memᴰ f S.found =
            λ f i. (found_reached f).1 (o start f F ((all_flags_lem C f).0 i)) in
            omega (arith, all_many C, once_fits (all_flags C) S.found (all_once C) each),
      )

      -- Then it found each of them.
      pub found_all : OnePiece L → (f : List ℕ) → IsFlag L f → Memᴰ f S.found
      found_all o f G = found_each (found_piece.1 o) f G

-- A closed listing can be searched from the flag of first sups.
pub whole_searchable : {L : Listing} → Closed limits L → Searchable limits L (sups_flag L) (every_rank (rank L))
whole_searchable C = every_searchable C (sups_flag_lem C)

-- ---- the same as the code meets it

module _ (s : Slices) (e : (closed limits (held s)).no ≡ 0) where
  abbrev searched : Searchable limits (held s) (sups_flag (held s)) (every_rank (rank (held s)))
  searched = whole_searchable (is_closed s e)

  pub first_flag : (first : List ℕ) → first ≡ sups_flag (held s) → IsFlag (held s) first
  first_flag first k = rw k searched.is_flag

  pub every_inner : (mask : ℕ) → mask ≡ every_rank (rank (held s)) → InnerRanks (rank (held s)) mask
  every_inner mask k = rw k searched.inner

-- a search from what is the flag of first sups, by what is every change, has come to its end
pub whole_ended : (L : Listing) {w room mask : ℕ} {first table bytes table' bytes' : List ℕ}
    {r : Result Found Full} → first ≡ sups_flag L → mask ≡ every_rank (rank L)
    → Ended w room table bytes table' bytes' r (found_by L first mask room)
    → Ended w room table bytes table' bytes' r (whole_search L room)
whole_ended L e k E = rw (e, k) at E

pub ruleset whole = (shaped, first_flag, every_inner, whole_ended)
