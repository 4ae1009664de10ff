-- The fingerprint of a set: SHA-256 of its canonical text.
use Rattle.std.specs.Prelude.{List, [], ℕ, ◌++◌, ◌∷◌, ◌≡◌}
use Rattle.hex.specs.Hex.{encode_lower}
use Rattle.sha2.specs.Sha256.{sha256}
use Rattle.county_chart.specs.County.{County}
use Rattle.canonical_form.specs.CountyViews.{plain}
use Rattle.tigercanon.specs.Normalising.{IsOnlyTextInView}
use Rattle.tigercanon.specs.Sets.{IsCanonicalTextInView}

-- these bytes are the hash of the canonical text of the parts in this view, and no other text is canonical for what the view
-- shows of their map
pub record IsFingerprintInView (view : County → County) (parts : List (List ℕ)) (bytes : List ℕ) : Type 0 where
  pub text : List ℕ
  pub canonical : IsCanonicalTextInView view parts text
  pub only : IsOnlyTextInView view parts text
  pub bytes_are : bytes ≡ sha256 text

-- these bytes are the hash of the canonical text of the parts, and no other text is canonical for their map
abbrev pub IsFingerprint : List (List ℕ) → List ℕ → Type 0
IsFingerprint = IsFingerprintInView plain

-- the text is the line of the fingerprint of the parts in this view, in lowercase hexadecimal digits
pub record SaysFingerprintInView (view : County → County) (parts : List (List ℕ)) (text : List ℕ) : Type 0 where
  pub bytes : List ℕ
  pub fingerprint : IsFingerprintInView view parts bytes
  pub text_is : text ≡ encode_lower bytes ++ 10 ∷ []
