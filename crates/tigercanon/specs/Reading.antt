-- What was read from the sources that give the parts of a set.
use Rattle.std.specs.Prelude.{List, Option, [], map, ℕ, ◌++◌, ◌+◌, ◌-◌, ◌^◌, ◌∷◌, ◌≡◌, ◌⊎◌}
use Rattle.std.specs.Io.KnownBytes.{IsAtEnd}
use Rattle.tl_layout.specs.Limits.{most_records}
use Rattle.tl_layout.specs.declared.record_type.Record.{Record}
use Rattle.tl_load.specs.Keeping.{LoadedInto, WasFedInto}
use Rattle.tl_load.specs.Loaded.{IsFaultHowever, IsWellSoFar}
use Rattle.tl_load.specs.Sources.{Gave, RoseBy}
use Rattle.tl_load.specs.declared.fault.LoadFault.{LoadFault}

-- this holds for the next source, and the sources after it are unchanged
abbrev pub IsNext : {R : Type 0} → (R → R → Type 0) → List R → List R → Type 0
IsNext holds (b ∷ bs) (n ∷ ns) = holds b n × (ns ≡ bs)
IsNext holds _ _ = ⊥

module _ {R : Type 0} (remaining : R → Option (List ℕ)) (given : R → ℕ) where
  -- the sources were read to their ends, and gave these parts
  abbrev pub AreRead : List R → List R → List (List ℕ) → Type 0
  AreRead [] [] [] = Unit
  AreRead (b ∷ bs) (n ∷ ns) (part ∷ parts) = Gave remaining given b n part × IsAtEnd (remaining n) × AreRead bs ns parts
  AreRead _ _ _ = ⊥

  -- the first sources were read to their ends and gave these parts, and this holds for the other sources
  abbrev pub AreReadFirst : (List R → List R → Type 0) → List R → List R → List (List ℕ) → Type 0
  AreReadFirst others before after [] = others before after
  AreReadFirst others (b ∷ bs) (n ∷ ns) (part ∷ parts) = Gave remaining given b n part × IsAtEnd (remaining n) × AreReadFirst others bs ns parts
  AreReadFirst others _ _ _ = ⊥

  -- the first sources were read to their ends and gave these parts, and no other was read, or the next one alone gave these bytes
  abbrev pub AreReadUpTo : List R → List R → List (List ℕ) → List ℕ → Type 0
  AreReadUpTo before after parts bytes = (AreReadFirst (λ bs ns. ns ≡ bs) before after parts × (bytes ≡ []))
      ⊎ AreReadFirst (IsNext (λ b n. Gave remaining given b n bytes)) before after parts

module _ {R : Type 0} (remaining : R → Option (List ℕ)) (given reads : R → ℕ) where
  -- the first sources were read to their ends and gave these parts, the next one gave these bytes before its last read, and the
  -- sources after it are unchanged
  abbrev pub AreReadButOnce : List R → List R → List (List ℕ) → List ℕ → Type 0
  AreReadButOnce before after parts bytes = AreReadFirst remaining given
      (IsNext (λ b n. (last : R) × Gave remaining given b last bytes × RoseBy 1 (reads last) (reads n))) before after parts

  -- no line was faulty before the last read
  abbrev pub WasWellBefore : List R → List R → Type 0
  WasWellBefore before after = (closed : List (List ℕ)) × (bytes : List ℕ) × AreReadButOnce before after closed bytes
      × IsWellSoFar most_records closed bytes

  -- every set that begins with what was read has this fault, and the read that brought it was the last
  abbrev pub IsFaultOfRead : List R → List R → LoadFault → Type 0
  IsFaultOfRead before after fault = (closed : List (List ℕ)) × (bytes : List ℕ) × AreReadUpTo remaining given before after closed bytes
      × IsFaultHowever most_records closed bytes fault × WasWellBefore before after

-- no source has failed
abbrev pub NoneFailed : {R : Type 0} → (R → ℕ) → List R → List R → Type 0
NoneFailed failed before after = map failed after ≡ map failed before

-- one source has failed, once, and no other
abbrev pub OneFailed : {R : Type 0} → (R → ℕ) → List R → List R → Type 0
OneFailed failed (b ∷ bs) (n ∷ ns) = ((failed n ≡ failed b + 1) × NoneFailed failed bs ns) ⊎
    ((failed n ≡ failed b) × OneFailed failed bs ns)
OneFailed failed _ _ = ⊥

-- the source failed, once, or it has no end: 2 ^ 64 - 1 reads reached none
abbrev pub IsUnread : {R : Type 0} → (R → ℕ) → (R → ℕ) → R → R → Type 0
IsUnread failed reads before after = (failed after ≡ failed before + 1) ⊎ RoseBy (2 ^ 64 - 1) (reads before) (reads after)

-- one of the sources couldn't be read
abbrev pub SomeUnread : {R : Type 0} → (R → ℕ) → (R → ℕ) → List R → List R → Type 0
SomeUnread failed reads (b ∷ bs) (n ∷ ns) = IsUnread failed reads b n ⊎ SomeUnread failed reads bs ns
SomeUnread failed reads _ _ = ⊥

-- if a loader had been fed closed parts, it has now been fed this part after them, closed too
abbrev pub TakesPart : {K : Type 0} → (K → List Record → Type 0) → LoadedInto K → LoadedInto K → List ℕ → Type 0
TakesPart holds before after part = (closed : List (List ℕ)) → WasFedInto holds most_records before closed []
    → WasFedInto holds most_records after (closed ++ part ∷ []) []
