-- Two texts, one after another.
--
-- ends_text     whether the first byte ends a text before another: a newline after which one begins
-- first_of_two   how many bytes belong to the first text: those up to such a newline; all where there is none
use Rattle.std.specs.Prelude.{Bool, false, cond, ◌&&◌, List, [], ◌∷◌, ℕ, suc, eqb}
use Rattle.text_theory.specs.Text.{newline, rank_key}
use Rattle.text_theory.specs.Said.{begins}

unfoldable pub ends_text : List ℕ → Bool
ends_text [] = false
ends_text (x ∷ t) = eqb x newline && begins rank_key t

unfoldable pub first_of_two : List ℕ → ℕ
first_of_two [] = 0
first_of_two (x ∷ t) = cond (ends_text (x ∷ t)) 1 (suc (first_of_two t))
