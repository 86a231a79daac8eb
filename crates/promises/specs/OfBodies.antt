-- What is promised of the test for one body.
--
-- BodySays       what it answers and leaves, said of its listing, table and bytes, before and after
-- BodiesTaken    any slices are taken
-- BodiesRefuse   which refusal comes exactly when, and what is written
-- BodiesNamed    what each refusal says
-- BodiesAnswer   when it answers which number; what it leaves is what a search leaves
-- BodiesOnce     no second answer fits
use Rattle.std.specs.Prelude.{◌≡◌, ◌≢◌, ◌↔◌, List, ℕ, ◌≤◌}
use Rattle.listing.specs.Answers.{fine}
use Rattle.listing.specs.Listing.{Listing, limits, rank}
use Rattle.flag_change.specs.Flags.{IsFlag}
use Rattle.search_masks.specs.Masks.{every_rank}
use Rattle.search.specs.declared.Searched.{Searched}
use Rattle.search.specs.Promised.{room_in}
use Rattle.body_theory.specs.First.{sups_flag}
use Rattle.body.specs.Exact.{BodyExact}
use Rattle.body.specs.Promised.{BodyPromised}
use Rattle.flumedrac.proofs.fd_closed.Reads as closed
use Rattle.flumedrac.proofs.fd_search.Reads as search
use Rattle.flumedrac.proofs.fd_one_body.Reads as one_body
use Rattle.promises.specs.Entries.{Takes, Says, SaysOfTwo, OneOutcome, lent, flag, asked, tables, body_tables}
use Rattle.promises.specs.Named.{Named}

abbrev pub BodySays : (Listing → List ℕ → List ℕ → Searched → List ℕ → List ℕ → Type 0) → Type 0
BodySays Q = Says one_body.Post
    (λ a r x. Q (lent a) (body_tables a).0 (body_tables a).1 r (body_tables x).0 (body_tables x).1)

pub record BodiesTaken : Type 0 where
  pub one_body : Takes one_body.Asked

pub record BodiesRefuse : Type 0 where
  -- it refuses as closed does, and then nothing is written; then with 22 and 25, and in the slices stands the search
  -- with every change from the flag of first sups, as it does where it is answered
  pub one_body_tests : BodySays (BodyPromised limits)
  -- answered, it carries nothing but 0s beside what the search found
  pub one_body_fine : Says one_body.Post (λ a r x. r.answer.no ≡ 0 ↔ r.answer ≡ fine)

pub record BodiesNamed : Type 0 where
  -- it answers the refusal of closed, with its fields
  pub one_body_as_closed : SaysOfTwo closed.Post one_body.Post
      (λ a r x c s y. lent c ≡ lent a → r.no ≢ 0 → s.answer ≡ r)
  -- what closed refuses with, and 25, is true of the listing; 22 and 25 carry nothing
  pub one_body_names : Says one_body.Post (λ a r x. r.answer.no ≢ 0 → Named (rank (lent a)) (lent a) r.answer)

pub record BodiesAnswer : Type 0 where
  -- 0 exactly for one body with not more flags than room; 22 exactly if closed, and one flag more than room exists; 25
  -- exactly if closed, with room for all flags, and these are not in one piece
  pub one_body_by_the_book : BodySays
      (λ L t b r t' b'. BodyExact limits L (room_in limits L t b) r.answer.no)
  -- a search of the same listing with every change from the flag of first sups, lent the same slices, leaves the same
  -- in them; and where one_body is answered, it answers the same
  pub one_body_as_search : SaysOfTwo one_body.Post search.Post
      (λ a r x c s y. lent c ≡ lent a → flag c ≡ sups_flag (lent a) → asked c ≡ every_rank (rank (lent a))
      → (tables c).0 ≡ (body_tables a).0 → (tables c).1 ≡ (body_tables a).1
      → ((tables y).0 ≡ (body_tables x).0) × ((tables y).1 ≡ (body_tables x).1) × (r.answer.no ≡ 0 → r ≡ s))
  -- a search of it with every change from any of its flags, with room for as many, finds as many: all that there are
  pub one_body_from_any_flag : SaysOfTwo one_body.Post search.Post
      (λ a r x c s y. lent c ≡ lent a → r.answer.no ≡ 0 → IsFlag (lent a) (flag c)
      → asked c ≡ every_rank (rank (lent a)) → r.count ≤ room_in limits (lent a) (tables c).0 (tables c).1
      → (s.answer.no ≡ 0) × (s.count ≡ r.count))

pub record BodiesOnce : Type 0 where
  pub one_one_body : OneOutcome one_body.Post body_tables
