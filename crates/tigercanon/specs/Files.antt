-- What the files of a set hold.
use Rattle.std.below.core.specs.declared.int.u64.TheConstants.{MAX}
use Rattle.std.specs.Prelude.{All, Bool, IfSome, List, None, Option, Some, [], false, map, slice_get, true, ℕ, ◌<◌, ◌||◌, ◌∷◌, ◌≡◌}
use Rattle.std.specs.List.{list_any}
use Rattle.tigercanon.specs.declared.program.files.Opened.{Opened}
use Rattle.tigercanon.specs.declared.program.files.Opened.TheVariants.{Absent, Failed, Found}
use Rattle.tl_load.specs.declared.source.Counted.{Counted}

-- whether there is a file and it is absent
abbrev pub is_absent : {R : Type 0} → Option (Opened R) → Bool
is_absent (Some Absent) = true
is_absent _ = false

-- whether a file couldn't be opened
abbrev pub is_failed : {R : Type 0} → Opened R → Bool
is_failed Failed = true
is_failed (Found reader) = false
is_failed Absent = false

-- how each of these files was opened
abbrev pub opened_of : {R : Type 0} → List (Counted (Opened R)) → List (Opened R)
opened_of files = map (λ file. file.inner) files

-- files that count their failures can be read again
pub record AreReadable {R : Type 0} (files : List (Counted (Opened R))) : Type 0 where
  pub below : All (λ file. file.failures < MAX) files

-- whether a set lacks a file that it needs: the first is absent, or one couldn't be opened
abbrev pub lacks_file : {R : Type 0} → List (Opened R) → Bool
lacks_file files = is_absent (slice_get files 0) || list_any is_failed files

-- the bytes that a file holds, if they are known; an absent file is an empty part
abbrev pub bytes_of : {R : Type 0} → (R → Option (List ℕ)) → Opened R → Option (List ℕ)
bytes_of remaining (Found reader) = remaining reader
bytes_of remaining Absent = Some []
bytes_of remaining Failed = None

-- each part is what its file holds, if that is known
abbrev pub AreHeld : {R : Type 0} → (R → Option (List ℕ)) → List (Opened R) → List (List ℕ) → Type 0
AreHeld remaining [] [] = Unit
AreHeld remaining [] (part ∷ parts) = ⊥
AreHeld remaining (file ∷ files) [] = ⊥
AreHeld remaining (file ∷ files) (part ∷ parts) = IfSome (bytes_of remaining file) (λ bytes. part ≡ bytes) × AreHeld remaining files parts

-- each source gives what its file holds, if that is known
abbrev pub AreSourcesOf : {S R : Type 0} → (S → Option (List ℕ)) → List S → (R → Option (List ℕ)) → List (Opened R) → Type 0
AreSourcesOf left sources remaining files = map left sources ≡ map (bytes_of remaining) files

-- these sources are the files, in order, and none has failed
abbrev pub AreCounted : {R : Type 0} → List (Counted (Opened R)) → List (Opened R) → Type 0
AreCounted sources files = (opened_of sources ≡ files) × All (λ source. source.failures ≡ 0) sources
