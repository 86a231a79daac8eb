-- What the fact that a closed cell carries gives: the listing is closed, and all that this is.
-- Assumes nothing.
use mathlib.Core.Path.{◌≡◌}
use Rattle.listing.specs.declared.Slices.{Slices}
use Rattle.listing.specs.Listing.{held, limits}
use Rattle.listing.specs.Shape.{Shaped}
use Rattle.valid_incidence.specs.Incidence.{Incident, incidences_test}
use Rattle.valid_incidence.proofs.IncidenceExact.{incidences_exact}
use Rattle.valid.specs.Ascent.{Ascends}
use Rattle.valid.specs.Closed.{Closed}
use Rattle.valid.specs.Tests.{closed}
use Rattle.valid.proofs.ClosedExact.{closed_exact}

module _ (s : Slices) (e : (closed limits (held s)).no ≡ 0) where
  pub is_closed : Closed limits (held s)
  is_closed = (closed_exact limits (held s)).0 e

  pub shaped : Shaped limits (held s)
  shaped = is_closed.shaped

  pub incident : Incident (held s)
  incident = is_closed.incident

  pub matched : (incidences_test (held s)).no ≡ 0
  matched = (incidences_exact (held s)).1 incident

  pub ascends : Ascends (held s)
  ascends = is_closed.ascends

pub ruleset facts = (is_closed, shaped, incident, matched, ascends)
