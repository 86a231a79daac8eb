-- The three parts, each where the one before ended, are the counts.
use Rattle.product_building.proofs.CountsLaid.{counts_laid}
use Rattle.product_building.proofs.build.put_counts.Goals as goal

pub returns-clause-laid_list : goal.returns-clause-laid_list
returns-clause-laid_list c =
    let x = c.put_if-a.ensures in
    let y = c.put_sizes-b.ensures in
    counts_laid _ _ _ _ _ _ _ _ _ _ x.value y.value x.laid y.laid c.put_if.ensures.laid
