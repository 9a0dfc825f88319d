-- Patterns for names: a star stands for any letters, also none (this project's profile).
use Rattle.std.specs.Prelude.{◌≡◌, ℕ, ◌==◌, List, [], ◌∷◌, ◌++◌, if◌then◌else◌}

-- the first text, empty where there is none
abbrev pub first_text : List (List ℕ) → List ℕ
first_text [] = []
first_text (text ∷ texts) = text

abbrev pub next_texts : List (List ℕ) → List (List ℕ)
next_texts [] = []
next_texts (text ∷ texts) = texts

-- the pattern with the texts in the places of its stars, in order
abbrev pub filled : List ℕ → List (List ℕ) → List ℕ
filled [] texts = []
filled (c ∷ pattern) texts = if c == 42 then first_text texts ++ filled pattern (next_texts texts) else c ∷ filled pattern texts

-- there are texts for the stars with which the pattern is the name
abbrev pub IsMatch : List ℕ → List ℕ → Type 0
IsMatch pattern name = (texts : List (List ℕ)) × (filled pattern texts ≡ name)
