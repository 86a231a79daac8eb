-- The text of a closed listing written into a lent slice: which refusal comes, what is answered, what the slice holds
-- then. m are the limits, L is the listing; the slice held `old` and holds `new`; r is what is answered.
--
-- length_test   44, 42: a text of n bytes is too long for a slice of a length, or for the limit
-- write_test    the refusals of write_text in their order: the closed test's, then 44 and 42, for a slice of a length
-- written_of    the answer with the bytes written; 0 where it is a refusal
-- told_written  what a function that writes a text answers, to callers that have no enum: its refusal and 0, or 0 and
--               the bytes
-- TextMade      what is answered and left where the test t decides and the bytes s are to be written
use Rattle.std.specs.Prelude.{◌≡◌, List, ℕ, ltb, length, Result, Ok, Err}
use Rattle.listing.specs.declared.Answer.{Answer}
use Rattle.listing.specs.Refusals.{bytes_short, long_text}
use Rattle.listing.specs.declared.Refusal.{Refusal}
use Rattle.listing.specs.Told.{answer_of}
use Rattle.listing.specs.Answers.{plain, fine, if_zero, on, ◌or_else◌}
use Rattle.listing.specs.Listing.{Listing, Limits}
use Rattle.listing.specs.Layers.{layers}
use Rattle.listing_outputs.specs.Output.{after}
use Rattle.valid.specs.Tests.{closed}
use Rattle.text_theory.specs.Text.{text_of}
use Rattle.text.specs.declared.Written.{Written}

unfoldable pub length_test : Limits → ℕ → ℕ → Answer
length_test m n room = on (ltb room n) (plain bytes_short) or_else on (ltb m.text n) (plain long_text)

unfoldable pub write_test : Limits → Listing → ℕ → Answer
write_test m L room = closed m L or_else length_test m (length (text_of (layers L))) room

unfoldable pub written_of : Answer → ℕ → Written
written_of a n = record { answer = a; length = if_zero a.no n 0 }

abbrev pub told_written : Result ℕ Refusal → Written
told_written (Ok n) = record { answer = fine; length = n }
told_written (Err d) = record { answer = answer_of d; length = 0 }

pub record TextMade (t : Answer) (s old new : List ℕ) (r : Written) : Type 0 where
  pub answer : r ≡ written_of t (length s)
  pub text : new ≡ after t s old
