-- The four counts, which look at the counts slice alone.
--
-- counted          the number asked for, or refusal 1 where there are no ranks
-- rank_of          the rank
-- el_count_of      the elements of a rank, 0 for a rank that is not there
-- vertex_count_of the elements of rank 1
-- facets           the elements of the rank below the top; the nullitope has none
-- facet_count_of   the same, as an answer
-- count_rules      1, of a count
use Rattle.std.specs.Prelude.{ℕ, ◌-◌, ◌<◌, cond, List, [], ◌∷◌, length, ◌==◌, nat_le, slice_index}
use Rattle.listing.specs.declared.Number.{Number}
use Rattle.listing.specs.Refusals.{no_ranks}
use Rattle.listing.specs.Rules.{Rule, rule}

unfoldable pub counted : List ℕ → ℕ → Number
counted counts n = cond (length counts == 0) (record { no = no_ranks; value = 0 }) (record { no = 0; value = n })

unfoldable pub rank_of : List ℕ → Number
rank_of counts = counted counts (length counts - 1)

unfoldable pub el_count_of : List ℕ → ℕ → Number
el_count_of counts r = counted counts (slice_index counts r)

unfoldable pub vertex_count_of : List ℕ → Number
unfolding el_count_of
vertex_count_of counts = el_count_of counts 1

unfoldable pub facets : List ℕ → ℕ
facets counts = cond (nat_le 2 (length counts)) (slice_index counts (length counts - 2)) 0

unfoldable pub facet_count_of : List ℕ → Number
unfolding facets
facet_count_of counts = counted counts (facets counts)

abbrev pub count_rules : List ℕ → List Rule
count_rules counts = rule no_ranks (0 < length counts) ∷ []
