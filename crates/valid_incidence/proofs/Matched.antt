-- The fact that a matched cell carries gives the book's rule of its listing.
-- Assumes nothing.
use mathlib.Core.Path.{◌≡◌}
use Rattle.listing.specs.declared.Slices.{Slices}
use Rattle.listing.specs.Listing.{held}
use Rattle.valid_incidence.specs.Incidence.{incidences_test, Incident}
use Rattle.valid_incidence.proofs.IncidenceExact.{incidences_exact}

pub incident : (s : Slices) → (incidences_test (held s)).no ≡ 0 → Incident (held s)
incident s e = (incidences_exact (held s)).0 e
