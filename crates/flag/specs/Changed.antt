-- What a change answers.
--
-- change_test   the refusals of a change: those of start_test, then 21
-- changed_as    the answer of a change that is made: the new flag, and what was taken out and put in
-- unchanged_as  the answer of a change that is refused: all numbers beside it are 0
-- changed_of    the answer: that of the change, or a refusal's
-- told_changed  what the result of a change answers to callers that have no enum
use Rattle.std.specs.Prelude.{not, ◌&&◌, List, ℕ, ltb, replicate, Result, Ok, Err}
use Rattle.listing.specs.declared.Answer.{Answer}
use Rattle.listing.specs.Refusals.{outside_ranks}
use Rattle.listing.specs.declared.Refusal.{Refusal}
use Rattle.listing.specs.Answers.{plain, fine, on, ◌or_else◌, if_zero}
use Rattle.listing.specs.Listing.{Listing, Limits, limits, rank}
use Rattle.listing.specs.Told.{answer_of}
use Rattle.flag_change.specs.Flags.{start_test}
use Rattle.flag_change.specs.Change.{replaced_at, change_at, padded}
use Rattle.flag.specs.declared.made.Change.{Change}
use Rattle.flag.specs.declared.Changed.{Changed}

unfoldable pub change_test : Limits → Listing → List ℕ → ℕ → Answer
change_test m L f r = start_test m L f or_else on (not (ltb 0 r && ltb r (rank L))) (plain outside_ranks)

unfoldable pub changed_as : Answer → Listing → List ℕ → ℕ → Changed
changed_as a L f r =
    let p = replaced_at L r f in
    record { answer = a; flag = padded (change_at L r f); taken = p.taken; put = p.put }

abbrev pub unchanged_as : Answer → Changed
unchanged_as a = record { answer = a; flag = replicate limits.ranks 0; taken = 0; put = 0 }

unfoldable pub changed_of : Limits → Listing → List ℕ → ℕ → Changed
changed_of m L f r =
    let a = change_test m L f r in
    if_zero a.no (changed_as a L f r) (unchanged_as a)

abbrev pub told_changed : Result Change Refusal → Changed
told_changed (Ok c) = record { answer = fine; flag = c.flag; taken = c.taken; put = c.put }
told_changed (Err e) = unchanged_as (answer_of e)
