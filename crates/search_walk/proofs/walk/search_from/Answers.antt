-- Nothing is found in a new store, and what stands in it at the end stands in the slices lent to it.
use mathlib.Core.Path.{refl}
use Rattle.std.proofs.Common.{rules}
use Rattle.search_walk.proofs.Starts.{held_none, ended}
use Rattle.search_walk.proofs.walk.search_from.Goals as goal

pub search_in-requires-clause-held : goal.search_in-requires-clause-held
search_in-requires-clause-held c = held_none _ _ refl c.requires.room_fits

pub returns : goal.returns
returns c = ended c.search_in.ensures _ _ (search rules) (search rules)
