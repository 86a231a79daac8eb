-- All ranks that there can be pass the test, one after another.
-- Assumes nothing.
use mathlib.Core.Path.{refl, ◌∙◌}
use Rattle.std.proofs.Common.{rules, tests}
use Rattle.std.proofs.lemmas.Iterator.{YieldsList-from_range}
use Rattle.std.proofs.lemmas.Iterator.Search.{all_from_yields_List}
use Rattle.listing.specs.Listing.{limits}
use Rattle.search_masks.specs.Masks.{mask_fits}
use Rattle.search_masks.proofs.Ranks.{test, all_every}
use Rattle.search_masks.proofs.mask.fits.Goals as goal

pub returns : goal.returns
unfolding mask_fits
returns c =
    all_from_yields_List (test c.args.rank c.args.mask) _ _ c.all.result c.all.ensures.ran
    (YieldsList-from_range 0 limits.ranks limits.ranks (cc) refl) (λ x b q k. search (rules, tests))
    ∙ all_every (test c.args.rank c.args.mask) limits.ranks
