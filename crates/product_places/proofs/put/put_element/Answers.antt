-- `put_element`: the three parts, each where the one before ended, are the subs.
-- Assumes nothing.
use Rattle.product_places.proofs.Parts.{left_small, right_small, subs_laid}
use Rattle.product_places.proofs.put.put_element.Goals as goal

pub put_scaled-b-requires-clause-by_index : goal.put_scaled-b-requires-clause-by_index
put_scaled-b-requires-clause-by_index c = left_small _ _ _ c.requires.by_index

pub put_scaled-c-requires-clause-by_index : goal.put_scaled-c-requires-clause-by_index
put_scaled-c-requires-clause-by_index c = right_small _ _ _ c.requires.by_index

pub returns-clause-laid_list : goal.returns-clause-laid_list
returns-clause-laid_list c =
    let x = c.put_if-a.ensures in
    let y = c.put_scaled-b.ensures in
    let z = c.put_scaled-c.ensures in
    subs_laid _ _ _ _ _ _ _ _ _ _ x.value y.value x.laid y.laid z.laid
