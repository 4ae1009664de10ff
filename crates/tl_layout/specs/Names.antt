-- The name of a feature, 38 bytes.
use Rattle.std.specs.Prelude.{List, [], ℕ, ◌+◌, ◌∷◌}
use Rattle.tl_layout.specs.Bytes.{IsText, columns}
use Rattle.tl_layout.specs.declared.name.FeatureName.{FeatureName}

-- each field of the name has its width
pub record FitsName (name : FeatureName) : Type 0 where
  pub fedirp : IsText 2 name.fedirp
  pub fename : IsText 30 name.fename
  pub fetype : IsText 4 name.fetype
  pub fedirs : IsText 2 name.fedirs

-- the name that begins at this column of a line
abbrev pub feature_name_at : ℕ → List ℕ → FeatureName
feature_name_at first line =
    record {
      fedirp = columns first (first + 1) line;
      fename = columns (first + 2) (first + 31) line;
      fetype = columns (first + 32) (first + 35) line;
      fedirs = columns (first + 36) (first + 37) line;
    }

-- the texts of a name
abbrev pub name_texts : FeatureName → List (List ℕ)
name_texts name = name.fedirp ∷ name.fename ∷ name.fetype ∷ name.fedirs ∷ []
