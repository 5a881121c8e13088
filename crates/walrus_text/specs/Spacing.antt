-- `IsSameButForSpace`: two texts are the same but for spaces and lines without words. It says
-- nothing of words, so that the law of `laws` ties what counts as words to the bytes.
use Rattle.std.specs.Prelude.{ℕ, List, [], ◌∷◌, ◌++◌}

-- t becomes u where, time and again, a space beside a space, or a space or a line feed beside a
-- line feed, goes out
pub data ShortensTo (u : List ℕ) : List ℕ → Type 0 where
  as_it_is : ShortensTo u u
  space_by_space : (a b : List ℕ) → ShortensTo u (a ++ 32 ∷ b) → ShortensTo u (a ++ 32 ∷ 32 ∷ b)
  space_after_feed : (a b : List ℕ) → ShortensTo u (a ++ 10 ∷ b) → ShortensTo u (a ++ 10 ∷ 32 ∷ b)
  space_before_feed : (a b : List ℕ) → ShortensTo u (a ++ 10 ∷ b) → ShortensTo u (a ++ 32 ∷ 10 ∷ b)
  feed_by_feed : (a b : List ℕ) → ShortensTo u (a ++ 10 ∷ b) → ShortensTo u (a ++ 10 ∷ 10 ∷ b)

-- a text between two line feeds, so that spaces at its ends stand beside one too
abbrev pub between_line_feeds : List ℕ → List ℕ
between_line_feeds text = 10 ∷ (text ++ 10 ∷ [])

-- the two can be shortened to one
abbrev pub IsSameButForSpace : List ℕ → List ℕ → Type 0
IsSameButForSpace t u =
    (v : List ℕ) × ShortensTo v (between_line_feeds t) × ShortensTo v (between_line_feeds u)
