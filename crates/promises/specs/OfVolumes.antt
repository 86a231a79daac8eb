-- What is promised of volumes.
--
-- VolumeSays      what six_volume answers and leaves, said of its listing, first flag, coordinates, table and bytes,
--                 before and after
-- VolumesTaken    any slices are taken
-- VolumesRefuse   which refusal comes exactly when, what is written, and what is answered where there is none
-- VolumesNamed    the number of a refusal is that of the closed test or of the search where these refuse
-- VolumesAnswer   what two calls answer; the numbers of an answer
-- VolumesOnce     no second answer fits
use Rattle.std.specs.Prelude.{◌≡◌, ◌≢◌, List, ℕ, ◌≤◌, ◌<◌, Float}
use Rattle.listing.specs.Refusals.{not_rank_four}
use Rattle.listing.specs.Listing.{Listing, limits, rank}
use Rattle.flag_change.specs.Change.{change_at}
use Rattle.search_masks.specs.Masks.{every_rank}
use Rattle.volume_metres.specs.Points.{Site}
use Rattle.volume_theory.specs.Six.{cell_rank, Shifted}
use Rattle.volume.specs.declared.Measured.{Measured}
use Rattle.volume.specs.Volumes.{unmeasured, told_volume}
use Rattle.volume.specs.Promised.{VolumePromised, Negated}
use Rattle.volume.proofs.MeasuredFromResultF64Refusal.from.Reads as numbers
use Rattle.flumedrac.proofs.fd_closed.Reads as closed
use Rattle.flumedrac.proofs.fd_search.Reads as search
use Rattle.flumedrac.proofs.fd_six_volume.Reads as six_volume
use Rattle.promises.specs.Entries.{Takes, Says, SaysOfTwo, OneAnswer, OneOutcome}
use Rattle.promises.specs.Entries.{lent, flag, asked, metres, tables}

abbrev pub VolumeSays : (Listing → List ℕ → List Float → List ℕ → List ℕ → Measured → List ℕ → List ℕ → Type 0)
    → Type 0
VolumeSays Q = Says six_volume.Post
    (λ a r x. Q (lent a) (flag a) (metres a) (tables a).0 (tables a).1 r (tables x).0 (tables x).1)

pub record VolumesTaken : Type 0 where
  pub six_volume : Takes six_volume.Asked
  pub numbers : Takes numbers.Asked

pub record VolumesRefuse : Type 0 where
  -- it refuses as closed does, then with 20, 22, 50, 51, 52, 53; the search with every change stands in the slices; and
  -- where nothing is refused, the answer is what the even flags in the table add, no step of it rounded
  pub six_volume_tests : VolumeSays (VolumePromised limits)

pub record VolumesNamed : Type 0 where
  -- where closed refuses, it has closed's number
  pub six_volume_as_closed : SaysOfTwo closed.Post six_volume.Post
      (λ a r x c s y. lent c ≡ lent a → r.no ≢ 0 → s.no ≡ r.no)
  -- a search of the same listing with every change from the same flag, lent the same slices, leaves the same in them;
  -- its number is the volume's below 50, and from 50 on it was answered
  pub six_volume_as_search : SaysOfTwo six_volume.Post search.Post
      (λ a r x c s y. lent c ≡ lent a → flag c ≡ flag a → asked c ≡ every_rank (rank (lent a))
      → (tables c).0 ≡ (tables a).0 → (tables c).1 ≡ (tables a).1
      → ((tables y).0 ≡ (tables x).0) × ((tables y).1 ≡ (tables x).1)
      × (r.no < not_rank_four → r.no ≡ s.answer.no) × (not_rank_four ≤ r.no → s.answer.no ≡ 0))

pub record VolumesAnswer : Type 0 where
  -- with the first flag changed once, and both answered: negated, and where it is 0 both are the positive zero
  pub six_volume_negated : SaysOfTwo six_volume.Post six_volume.Post
      (λ a r x c s y. (q : ℕ) → 0 < q → q < cell_rank → lent c ≡ lent a → flag c ≡ change_at (lent a) q (flag a)
      → metres c ≡ metres a → r.no ≡ 0 → s.no ≡ 0 → Negated r s)
  -- with all vertices moved by the same whole metres, and both answered: the same
  pub six_volume_moved : SaysOfTwo six_volume.Post six_volume.Post
      (λ a r x c s y. (t : Site) → lent c ≡ lent a → flag c ≡ flag a → Shifted (lent a) t (metres a) (metres c)
      → r.no ≡ 0 → s.no ≡ 0 → s ≡ r)
  -- an answer is told by two numbers: 0 and the volume, or the refusal's and 0.0
  pub volume_told : Says numbers.Post (λ a r x. r ≡ told_volume a.0)
  -- so what six_volume answers: 0.0 stands beside each refusal
  pub volume_by_numbers : Says six_volume.Post (λ a r x. r.no ≢ 0 → r ≡ unmeasured r.no)

pub record VolumesOnce : Type 0 where
  pub one_six_volume : OneOutcome six_volume.Post tables
  pub one_volume_numbers : OneAnswer numbers.Post
