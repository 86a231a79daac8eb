-- The refusals of the five tests, in their order.
--
-- bounded_rule     10
-- incident_rule    11 to 16, by the place of the first breach
-- ascent_rule      19
-- below_top_rule   17 and 18 below the top: each index that a walk meets is met twice
-- up_to_top_rule   17 and 18 up to the top: the diamond
-- bounded_rules, incident_rules, dyadic_rules, valid_rules, closed_rules    the five tests
use Rattle.std.specs.Prelude.{List, [], ◌∷◌, ◌++◌, ◌-◌}
use Rattle.listing.specs.Refusals.{not_bounded, no_subs, sup_missing, third_between, lone_between, not_ascending}
use Rattle.listing.specs.Listing.{Listing, Limits, rank}
use Rattle.listing.specs.Rules.{Rule, rules, rule, shape_rules}
use Rattle.valid_incidence.specs.Incidence.{Incident}
use Rattle.valid_diamond.specs.Dyadic.{MetTwice, DiamondUpTo}
use Rattle.valid.specs.Bounds.{Bounded}
use Rattle.valid.specs.Ascent.{Ascends}

module _ (L : Listing) where
  abbrev pub bounded_rule : Rule
  bounded_rule = rule not_bounded (Bounded L)

  abbrev pub incident_rule : Rule
  incident_rule = rules no_subs sup_missing (Incident L)

  abbrev pub ascent_rule : Rule
  ascent_rule = rule not_ascending (Ascends L)

  abbrev pub below_top_rule : Rule
  below_top_rule = rules third_between lone_between (MetTwice L (rank L - 1))

  abbrev pub up_to_top_rule : Rule
  up_to_top_rule = rules third_between lone_between (DiamondUpTo L (rank L))

module _ (m : Limits) (L : Listing) where
  abbrev pub bounded_rules : List Rule
  bounded_rules = shape_rules m L ++ bounded_rule L ∷ []

  abbrev pub incident_rules : List Rule
  incident_rules = shape_rules m L ++ incident_rule L ∷ []

  abbrev pub dyadic_rules : List Rule
  dyadic_rules = shape_rules m L ++ incident_rule L ∷ below_top_rule L ∷ []

  abbrev pub valid_rules : List Rule
  valid_rules = shape_rules m L ++ bounded_rule L ∷ incident_rule L ∷ below_top_rule L ∷ []

  abbrev pub closed_rules : List Rule
  closed_rules = shape_rules m L ++ bounded_rule L ∷ incident_rule L ∷ ascent_rule L ∷ up_to_top_rule L ∷ []
