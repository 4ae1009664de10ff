-- Lines as sequences of texts.
use Rattle.std.specs.Prelude.{List, [], ℕ, ◌++◌, ◌∷◌}

-- the texts one after another, following what was written
-- before
abbrev pub joined : List ℕ → List (List ℕ) → List ℕ
joined before [] = before
joined before (text ∷ texts) = joined (before ++ text) texts
