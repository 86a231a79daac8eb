-- Flags of a listing.
--
-- flag_at      at rank r stands an index that exists, and what stands below it is one of its subs
-- flag_test    whether a list of numbers is a flag, by looking
-- start_test   what a change or a search asks before all else: the closed test, then 20
-- IsFlag       a flag: one existing index per rank, no fewer and no more, each a sub of the next
use Rattle.std.specs.Prelude.{◌≡◌, Bool, not, ◌&&◌, ◌||◌, List, ℕ, ◌+◌, ◌-◌, ◌<◌, ltb, eqb, length, get_or}
use Rattle.order.specs.Lists.{In, has}
use Rattle.order.specs.Tests.{every}
use Rattle.listing.specs.declared.Answer.{Answer}
use Rattle.listing.specs.Refusals.{not_a_flag}
use Rattle.listing.specs.Answers.{plain, on, ◌or_else◌}
use Rattle.listing.specs.Listing.{Listing, Limits, count, subs}
use Rattle.valid.specs.Tests.{closed}

unfoldable pub flag_at : Listing → List ℕ → ℕ → Bool
flag_at L f r = ltb (get_or f r 0) (count L r) && (eqb r 0 || has (subs L r (get_or f r 0)) (get_or f (r - 1) 0))

unfoldable pub flag_test : Listing → List ℕ → Bool
flag_test L f = eqb (length f) (length L.counts) && every (flag_at L f) (length L.counts)

unfoldable pub start_test : Limits → Listing → List ℕ → Answer
start_test m L f = closed m L or_else on (not (flag_test L f)) (plain not_a_flag)

pub record IsFlag (L : Listing) (f : List ℕ) : Type 0 where
  pub one_each : length f ≡ length L.counts
  pub exists : (r : ℕ) → r < length f → get_or f r 0 < count L r
  pub under : (r : ℕ) → r + 1 < length f → In (get_or f r 0) (subs L (r + 1) (get_or f (r + 1) 0))
