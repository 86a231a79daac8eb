-- Where there is no rank the facets are refused as it is; else the rank less one wraps for the nullitope alone.
use mathlib.Core.Path.{sym, ap, ◌∙◌}
use native.Mathlib.Omega.{arith}
use Rattle.std.proofs.lemmas.Result.{err_from_is_err_and}
use Rattle.listing.specs.declared.Number.{Number}
use Rattle.listing.proofs.Told.{refuses}
use Rattle.listing_shape.proofs.Counts.{facets_wrapped, no_facets}
use Rattle.listing_shape.proofs.facet_count.Goals as goal

pub returns-in_err-rank : goal.returns-in_err-rank
returns-in_err-rank c =
    let p = err_from_is_err_and c.from_residual.result c.from_residual.ensures.1 in
    rw (p.1, p.2) (no_facets _ _ c.in_err-rank.ensures (refuses _))

pub returns : goal.returns
returns c =
    let v = ap (λ (n : Number). n.value) (sym c.in_ok-rank.ensures) in
    c.el_count.ensures ∙ facets_wrapped _ _ _ v (omega arith) (omega arith) (omega arith)
