-- Three ways out: the search refuses, a test after it does, or what the search left is summed. In each the slices hold
-- what a search with every change leaves.
use mathlib.Core.Path.{refl, ◌∙◌}
use Rattle.volume.proofs.Cases.{ends_every, volume_err, search_halts, test_halts, passes, is_closed, asks, summed}
use Rattle.volume.proofs.six_volume.Goals as goal

pub returns-in_err-found : goal.returns-in_err-found
returns-in_err-found c =
    let left = c.in_err-found.ensures in
    let E = ends_every _ _ _ _ _ c.every_change-mask.ensures left.value left.table_after left.bytes_after in record {
      value = volume_err _ _ c.from_residual.ensures.1 ∙ search_halts E c.args.coordinates.now _ refl;
      table_after = E.flags;
      orientations_after = E.turns;
    }

pub returns-in_err-check_cell : goal.returns-in_err-check_cell
returns-in_err-check_cell c =
    let left = c.in_ok-found.ensures in
    let E = ends_every _ _ _ _ _ c.every_change-mask.ensures left.value left.table_after left.bytes_after in record {
      value = volume_err _ _ c.from_residual-in_err-check_cell.ensures.1 ∙ test_halts E _ _ c.in_err-check_cell.ensures;
      table_after = E.flags;
      orientations_after = E.turns;
    }

pub invariant_of-cell : goal.invariant_of-cell
invariant_of-cell c =
    let left = c.in_ok-found.ensures in
    let E = ends_every _ _ _ _ _ c.every_change-mask.ensures left.value left.table_after left.bytes_after in
    record { closed = is_closed E _ c.in_ok-check_cell.ensures }

pub six_of-requires : goal.six_of-requires
six_of-requires c =
    let left = c.in_ok-found.ensures in
    let E = ends_every _ _ _ _ _ c.every_change-mask.ensures left.value left.table_after left.bytes_after in
    let A = passes E _ c.in_ok-check_cell.ensures in
    let q = asks E _ c.in_ok-check_cell.ensures in
    record { rank_value = A.is_cell; coordinates_len = A.three_each; counts_in_bounds = q.0; all_flags = q.1 }

pub returns : goal.returns
returns c =
    let left = c.in_ok-found.ensures in
    let E = ends_every _ _ _ _ _ c.every_change-mask.ensures left.value left.table_after left.bytes_after in record {
      value = summed E _ c.in_ok-check_cell.ensures _ c.six_of.ensures;
      table_after = E.flags;
      orientations_after = E.turns;
    }
