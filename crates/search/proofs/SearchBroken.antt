-- A search answers the number of the first rule that is broken, and its other numbers are then 0.
-- Assumes nothing.
use mathlib.Core.Path.{◌≡◌, refl, sym, ap, ◌∙◌}
use mathlib.Core.Logic.{◌≢◌, ⊎_elim}
use mathlib.Core.Bool.{Bool, true, false, true≢false}
use mathlib.Core.List.{List}
use Prim.Native.Nat.{ℕ, suc, ◌≤◌}
use native.Mathlib.Omega.{arith}
use Rattle.listing.specs.declared.Answer.{Answer}
use Rattle.listing.specs.Refusals.{outside_ranks, more_flags}
use Rattle.listing.specs.Answers.{plain, on}
use Rattle.listing.specs.Listing.{Listing, Limits, rank}
use Rattle.listing.specs.Rules.{FirstBroken}
use Rattle.listing.proofs.Broken.{Tests, zero_or, broken_last, broken_step, tests_on, tests_not}
use Rattle.flag_change.proofs.StartBroken.{start_then}
use Rattle.search_theory.specs.Search.{State, AtLeast}
use Rattle.search_masks.specs.Masks.{mask_fits}
use Rattle.search_masks.proofs.Ranks.{fits_exact}
use Rattle.search_walk.specs.Searched.{found_by}
use Rattle.search.specs.SearchedBy.{refused_as, search_test, searched_of, searched_by}
use Rattle.search.specs.Exact.{Searchable, Leads}
use Rattle.search.specs.Rules.{search_rules}
use Rattle.search.specs.Promised.{room_in}
use Rattle.search.proofs.Leads.{overflow_more}
use Rattle.search.proofs.Cases.{answer_none, answer_some}
use Rattle.search.proofs.Numbers.{Most, broken_most}

-- the answer of a search is the first refusal
pub answer_of : (a : Answer) (s : State (List ℕ)) → (searched_of a s).answer ≡ a
answer_of a s =
    ⊎_elim (λ z. ap (λ r. r.answer) (sym (answer_some a s z))) (λ h. ap (λ r. r.answer) (sym (answer_none a s h)))
    (zero_or a.no)

module _ (m : Limits) (L : Listing) (first : List ℕ) (mask : ℕ) where
  -- 22 exactly if more flags are reachable than there is room for
  pub overflow_tested : (room : ℕ) → Searchable m L first mask
      → Tests more_flags more_flags (¬ AtLeast (suc room) (Leads L mask) first)
      (on (found_by L first mask room).overflow (plain more_flags))
  overflow_tested room T =
      tests_on (found_by L first mask room).overflow more_flags (omega arith)
      (λ f q. true≢false (sym ((overflow_more T room).1 q) ∙ f))
      (λ n. back n (found_by L first mask room).overflow refl)
    where
      back : (¬ AtLeast (suc room) (Leads L mask) first) → (b : Bool) → (found_by L first mask room).overflow ≡ b
          → (found_by L first mask room).overflow ≡ false
      back n true o = absurd (n ((overflow_more T room).0 o))
      back n false o = o

  -- The number that a search answers is that of the first rule that is broken.
  pub search_broken : (room : ℕ) → FirstBroken (search_rules m L first mask room) (search_test m L first mask room).no
  unfolding search_test
  search_broken room =
      start_then m L first _ _ (λ C F. broken_step _
      (tests_not (mask_fits (rank L) mask) outside_ranks (omega arith) (fits_exact (rank L) mask).0
      (fits_exact (rank L) mask).1)
      (on (found_by L first mask room).overflow (plain more_flags))
      (λ I. broken_last (overflow_tested room (record { closed = C; is_flag = F; inner = I }))))

  -- It is at most 22.
  pub search_most : (room : ℕ) → (search_test m L first mask room).no ≤ more_flags
  unfolding Most
  search_most room =
      broken_most more_flags (search_test m L first mask room).no (search_rules m L first mask room) (omega arith)
      (search_broken room)

  module _ (table bytes : List ℕ) where
    pub said : (searched_by m L first mask table bytes).answer ≡ search_test m L first mask (room_in m L table bytes)
    unfolding searched_by
    said =
        let room = room_in m L table bytes in
        answer_of (search_test m L first mask room) (found_by L first mask room)

    -- Where it is refused, all other numbers are 0.
    pub refused_numbers : (searched_by m L first mask table bytes).answer.no ≢ 0
        → searched_by m L first mask table bytes ≡ refused_as (searched_by m L first mask table bytes).answer
    unfolding searched_by
    refused_numbers h =
        let room = room_in m L table bytes in
        rw said
        (sym (answer_none (search_test m L first mask room) (found_by L first mask room) (rw said at h)))
