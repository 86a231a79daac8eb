use Rattle.product.proofs.Made.{need_small}
use Rattle.product.proofs.make.check_room.Goals as goal

pub lengths-requires : goal.lengths-requires
lengths-requires c = need_small _ _ _ c.need_of.ensures c.in_ok-check_sizes.ensures
