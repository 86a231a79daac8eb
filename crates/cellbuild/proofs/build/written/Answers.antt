-- `written`. What was written lies inside the room. Assumes nothing.
use Rattle.cellbuild.proofs.Written.{inside, taken}
use Rattle.cellbuild.proofs.build.written.Goals as goal

pub slice_bounds-text-end : goal.slice_bounds-text-end
slice_bounds-text-end g c = inside _ c.in-Ok.is c.write_text.ensures

pub slice_bounds-write_all-end : goal.slice_bounds-write_all-end
slice_bounds-write_all-end g c = taken _ c.in-Ok.is c.write_text.ensures
