-- The first flag is met, and then all are worked.
use Rattle.search_store.proofs.Meets.{moved_err}
use Rattle.search_walk.proofs.Starts.{first_hash, first_held, first_met, first_full, first_flags, all_found}
use Rattle.search_walk.proofs.walk.search_in.Goals as goal

pub meet-requires-clause-hash : goal.meet-requires-clause-hash
meet-requires-clause-hash c = first_hash _ c.sum_of-h.ensures.0

pub meet-requires-clause-held : goal.meet-requires-clause-held
meet-requires-clause-held c = first_held c.requires.flag c.requires.held

pub returns-in_err-s : goal.returns-in_err-s
returns-in_err-s c =
    moved_err _ _ c.from_residual.ensures.1 (first_full _ _ _ _ (first_met c.requires.flag c.in_err-s.ensures))

pub run-requires : goal.run-requires
run-requires c =
    let M = first_met c.requires.flag c.in_ok-s.ensures in
    record {
      ready = c.requires.ready;
      inner = c.requires.inner_ranks;
      rows = M.held;
      flags = first_flags _ c.args.mask _ _ M c.requires.flag;
    }

pub returns : goal.returns
returns c = all_found _ c.args.mask _ _ (first_met c.requires.flag c.in_ok-s.ensures) c.run.ensures
