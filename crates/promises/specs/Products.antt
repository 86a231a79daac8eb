-- What is promised of a product of A and B, whose output slices held `old` and hold `new`, and that answered r. min and
-- max tell which of the four it is.
--
-- room_rules   the rules of a product whose output slices are as long as those of old
-- Produces     which refusal comes when, and what is then in the output slices
-- Kept         what an answered product keeps: it is closed where its factors are closed and high enough, and one body
--              where both are one body and high enough for that; it is made of the pairs in use, a pair directly under
--              another exactly if one member is equal and the other directly under, with the ends added; and its lists
--              stand in their order, as Arranged says
-- SameRoom     the output slices of two calls are equally long
-- Exchange     of two calls, of A and B and of B and A: with as much room they answer the same where the factors are
--              valid, and so one is answered if the other is; where both are, the second wrote the pairs of the first,
--              swapped
use Rattle.std.specs.Prelude.{◌≡◌, ◌≢◌, ◌↔◌, Bool, true, false, List, ◌+◌, ◌-◌, length}
use Rattle.listing.specs.declared.Built.{Built}
use Rattle.listing.specs.Listing.{Listing, limits, rank}
use Rattle.listing.specs.Cells.{nullitope}
use Rattle.listing.specs.Rules.{Rule, FirstBroken}
use Rattle.listing_outputs.specs.Output.{Untouched, Wrote}
use Rattle.valid.specs.Closed.{Closed}
use Rattle.valid.specs.Tests.{bounded, check_incidences, is_valid}
use Rattle.product_pairs.specs.Trimmed.{bit}
use Rattle.product_closure.specs.Result.{first_factor, second_factor, null_case, result_of, HighEnough}
use Rattle.product_closure.specs.Pairs.{Matched, LowEnd, HighEnd, Swapped}
use Rattle.product_closure.specs.Lists.{Arranged}
use Rattle.product.specs.Rules.{product_rules}
use Rattle.body_theory.specs.Pieces.{OneBody}
use Rattle.body_theory.specs.High.{HighForOne}

abbrev pub room_rules : Bool → Bool → Listing → Listing → Listing → List Rule
room_rules min max A B old =
    product_rules limits min max A B (length old.counts) (length old.ends) (length old.inc)

pub record Produces (min max : Bool) (A B old new : Listing) (r : Built) : Type 0 where
  pub refusals : FirstBroken (room_rules min max A B old) r.answer.no
  pub untouched : r.answer.no ≢ 0 → Untouched old new r
  pub written : r.answer.no ≡ 0 → Wrote (result_of min max A B) old new r

pub record Kept (min max : Bool) (A B : Listing) (R : Listing) : Type 0 where
  pub closed : Closed limits A → Closed limits B → HighEnough min max (rank A) (rank B) → Closed limits R
  pub one_body : OneBody limits A → OneBody limits B → HighForOne min max (rank A) (rank B) → OneBody limits R
  pub null_closed : null_case min max A B ≡ true → Closed limits R
  pub framed : ((bounded limits R).no ≡ 0) × ((check_incidences limits R).no ≡ 0)
  pub ranks : null_case min max A B ≡ false → rank R ≡ rank A + rank B - bit min - bit max
  pub matched : null_case min max A B ≡ false → Matched min max (first_factor min A B) (second_factor min A B) R
  pub low : min ≡ true → null_case min max A B ≡ false → LowEnd max A B R
  pub high : max ≡ true → null_case min max A B ≡ false → HighEnd min (first_factor min A B) (second_factor min A B) R
  pub arranged : null_case min max A B ≡ false → Arranged min max (first_factor min A B) (second_factor min A B) R
  pub null : null_case min max A B ≡ true → R ≡ nullitope

abbrev pub SameRoom : Listing → Listing → Type 0
SameRoom old other =
    (length old.counts ≡ length other.counts) × (length old.ends ≡ length other.ends)
    × (length old.inc ≡ length other.inc)

pub record Exchange (min max : Bool) (A B old other R Q : Listing) (r s : Built) : Type 0 where
  pub same : SameRoom old other → (is_valid limits A).no ≡ 0 → (is_valid limits B).no ≡ 0 → r ≡ s
  pub both : SameRoom old other → r.answer.no ≡ 0 ↔ s.answer.no ≡ 0
  pub swapped : r.answer.no ≡ 0 → s.answer.no ≡ 0 → null_case min max A B ≡ false
      → Swapped min max (first_factor min A B) (second_factor min A B) R Q
