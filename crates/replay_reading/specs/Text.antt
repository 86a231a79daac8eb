-- What stands in a line of text.
--
-- until         the bytes of a text before the first that is b
-- opened        what follows the opening bracket (91) number k, the first being 0; nothing where there is none
-- bracketed     the text of list k: from its opening bracket to the next closing one (93)
-- closes        whether a byte closes a list, or what stands in quotes (34)
-- after_closing  what follows the last byte of a text that closes something; the text is given twice
-- spaced        what follows that from a space (32) on: the numbers outside of lists
-- largest       the largest number that is read; any above it is taken for it
-- with_digit     a number with one digit (48 to 57) more
-- goes_on        whether a number goes on with a byte: a digit or a star (42)
-- gap           no number is being read
-- with_byte      the number that is being read, with one byte more: after a star the digits say how often it stands
-- pending       what it stands for, m at most
-- read          the numbers of a text, after one that is being read
-- numbers_in     the numbers of a text, each m at most
-- Stored        numbers stored from a place on, as far as there is room: what a slice held and holds, where they end
use Rattle.std.specs.Prelude.{◌≡◌, Bool, true, false, cond, ◌&&◌, ◌||◌, List, [], ◌∷◌, ◌++◌, ℕ, ◌+◌, ◌-◌, ◌*◌, min, leb, eqb, length, drop, replicate}
use Rattle.std.proofs.lemmas.List.Edits.{sets}
use Rattle.replay_reading.specs.declared.text.Item.{Item}

unfoldable pub until : ℕ → List ℕ → List ℕ
until b [] = []
until b (x ∷ t) = cond (eqb x b) [] (x ∷ until b t)

unfoldable pub opened : ℕ → List ℕ → List ℕ
opened k [] = []
opened k (x ∷ t) = cond (eqb x 91) (cond (eqb k 0) t (opened (k - 1) t)) (opened k t)

abbrev pub bracketed : ℕ → List ℕ → List ℕ
bracketed k t = until 93 (opened k t)

unfoldable pub closes : ℕ → Bool
closes b = eqb b 93 || eqb b 34

unfoldable pub after_closing : List ℕ → List ℕ → List ℕ
after_closing last [] = last
after_closing last (x ∷ t) = cond (closes x) (after_closing t t) (after_closing last t)

abbrev pub spaced : List ℕ → List ℕ
spaced t = drop (length (until 32 (after_closing t t))) (after_closing t t)

abbrev pub largest : ℕ
largest = 4294967295

abbrev pub with_digit : ℕ → ℕ → ℕ
with_digit n b = min (n * 10 + (b - 48)) largest

unfoldable pub goes_on : ℕ → Bool
goes_on b = eqb b 42 || (leb 48 b && leb b 57)

abbrev pub gap : Item
gap = record { value = 0; times = 0; star = false }

unfoldable pub with_byte : Item → ℕ → Item
with_byte s b =
    cond (eqb b 42) (record { value = s.value; times = 0; star = true })
    (cond s.star (record { value = s.value; times = with_digit s.times b; star = true })
    (record { value = with_digit s.value b; times = 1; star = false }))

abbrev pub pending : ℕ → Item → List ℕ
pending m s = replicate s.times (min s.value m)

unfoldable pub read : ℕ → Item → List ℕ → List ℕ
read m s [] = pending m s
read m s (x ∷ t) = cond (goes_on x) (read m (with_byte s x) t) (pending m s ++ read m gap t)

abbrev pub numbers_in : ℕ → List ℕ → List ℕ
numbers_in m t = read m gap t

pub record Stored (new : List ℕ) (from : ℕ) (old held : List ℕ) (r : ℕ) : Type 0 where
  pub up_to : r ≡ min (from + length new) (length old)
  pub holds : held ≡ sets old from new
