-- The listings to try whose answers are known.
-- Assumes nothing.
use mathlib.Core.Path.{◌≡◌, refl}
use mathlib.Core.List.{map}
use native.Mathlib.Decide.{dec_lt}
use Rattle.order.specs.Lists.{has, occurs}
use Rattle.order.specs.Sums.{choose, sum, sum_over, part_at}
use Rattle.listing.specs.Answers.{◌or_else◌, first_in, first_for, first_of}
use Rattle.listing.specs.Listing.{before, entries}
use Rattle.listing.specs.Shape.{fills, shape_test}
use Rattle.listing.specs.Layers.{gather, derived}
use Rattle.listing.specs.Written.{joined, tabulated, list_at, nth, written}
use Rattle.valid_incidence.specs.Ways.{entry_test, along_test, list_test}
use Rattle.valid_incidence.specs.Incidence.{element_test, incidences_test}
use Rattle.valid_diamond.specs.Dyadic.{subs_of_all, third_test, seen_after, lone_test, sections_test, dyadic_test}
use Rattle.valid.specs.Bounds.{bounded_test}
use Rattle.valid.specs.Ascent.{climbs, element_ascent, ascent_test}
use Rattle.valid.specs.Tests.{is_valid, closed}
use Rattle.product_pairs.specs.Trimmed.{trim_size, trim_under}
use Rattle.product_pairs.specs.Paired.{block, offset, position, pair_of, pair_at, left_subs, right_subs}
use Rattle.product_pairs.specs.Grown.{up_to, min_size, min_under, max_size, max_under}
use Rattle.product_pairs.specs.Product.{layer_product, product_of}
use Rattle.product_closure.specs.Result.{null_case, comb_case, result_of}
use Rattle.product_sizes.specs.Sizing.{size_test}
use Rattle.listing_outputs.specs.Output.{short_test}
use Rattle.product_factors.specs.Factors.{factors_test}
use Rattle.product.specs.Outcome.{rest_test, product_test}
use Rattle.text_theory.specs.Text.{spelled, numeral, parted, commas, line_bytes, line_of, spot}
use Rattle.text_theory.specs.Text.{line_at, line_count, text_to}
use Rattle.text_theory.specs.Said.{after_line, from_line, values_from, values, count_line, said, begins, numbers_fit}
use Rattle.text_theory.specs.Said.{form_test, below_in, size_below, incidences_of, incidences_to}
use Rattle.text_theory.specs.Said.{bound_of, bound_at, text_test}
use Rattle.text.specs.Texts.{read_test, check_test}
use Rattle.text.specs.WrittenTexts.{length_test, write_test}
use Rattle.order.specs.Tests.{every}
use Rattle.flag_change.specs.Flags.{flag_at, flag_test, start_test}
use Rattle.flag_change.specs.Change.{common, other, between, replaced_at, change_at, padded}
use Rattle.flag.specs.Changed.{change_test, changed_as, changed_of}
use Rattle.search_theory.specs.Search.{place_after, waits, index_in, meet, meet_all, work, run_for, run, search}
use Rattle.search_index.specs.Rows.{same_list}
use Rattle.search_masks.specs.Masks.{bits_in}
use Rattle.search_walk.specs.Searched.{mask_changes, found_by}
use Rattle.body_theory.specs.InAll.{chains_to}
use Rattle.body_theory.specs.First.{sup_at}
use Rattle.body.specs.Body.{parts_test, body_test}
use Rattle.dual_theory.specs.Dual.{dual_size, dual_of}
use Rattle.dual.specs.Duals.{dual_test}
use Rattle.promises.specs.Starred.{quoted, answered, tried}

-- Computing each row of the table gives the answers that stand in it.
pub starred : map answered tried ≡ tried
unfolding dec_lt has occurs choose sum part_at ◌or_else◌ first_in first_for first_of before entries fills shape_test
    gather derived joined tabulated list_at nth written bounded_test entry_test along_test list_test element_test
    incidences_test climbs element_ascent ascent_test subs_of_all third_test seen_after lone_test sections_test
    dyadic_test is_valid closed trim_size trim_under block offset position pair_of pair_at left_subs right_subs up_to
    min_size min_under max_size max_under layer_product product_of null_case comb_case result_of short_test size_test
    factors_test rest_test product_test every flag_at flag_test start_test common other between replaced_at change_at
    padded change_test changed_as changed_of spelled numeral parted commas line_bytes line_of spot line_at line_count
    after_line from_line values_from values count_line said begins numbers_fit form_test below_in size_below
    incidences_of incidences_to bound_of bound_at text_test read_test check_test sum_over place_after waits index_in
    meet meet_all work run_for run search same_list bits_in mask_changes found_by chains_to sup_at parts_test body_test
    text_to length_test write_test dual_size dual_of dual_test quoted answered
starred = refl
