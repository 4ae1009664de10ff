-- The faults of a loader that was fed closed parts.
use Rattle.tigercanon.proofs.Common.{AreKept, HasLoaded, IsFaultHowever, IsFirstFault, IsOfLines, List, LoadFault, LoadedInto, MatchOption, None, Option, Record, Some, SpellsWithin, WasFedInto, [], accepted_no_fault, ap, empty_fault, if◌then◌else◌, is_device_fault, most_records, refl, seen, subst, tiger, tiger_is_sound, with_line_feeds, ℕ, ◌++◌, ◌+◌, ◌∙◌, ◌∷◌, ◌≡◌}
use Rattle.tigercanon.proofs.FileParts.{no_device_reported}
use Rattle.tl_load.specs.declared.fault.LoadFault.TheVariants as faults

module _ {K : Type 0} (holds : K → List Record → Type 0) (l : LoadedInto K) where
  Comes : List (List ℕ) → List ℕ → Option LoadFault → Type 0
  Comes closed bytes fault = MatchOption fault
      ((records : List Record) × AreKept holds l records × HasLoaded most_records (seen l records) closed bytes)
      (λ f. IsOfLines f → IsFaultHowever most_records closed bytes f)

  -- a recorded fault of a line is the fault of every set that continues
  pub recorded_fault : (f : LoadFault) (closed : List (List ℕ)) (bytes : List ℕ) → l.fault ≡ Some f
      → WasFedInto holds most_records l closed bytes → IsOfLines f → IsFaultHowever most_records closed bytes f
  unfolding Comes
  recorded_fault f closed bytes e w = let known : Comes closed bytes (Some f) = subst (Comes closed bytes) e w.comes in known

  nothing_before : (xs ys : List ℕ) → [] ≡ xs ++ ys → xs ≡ []
  nothing_before [] ys e = refl
  nothing_before (x ∷ xs) ys e = absurd cc

  -- if no fault is recorded, the closed parts have none
  pub none_recorded : (f : LoadFault) (closed : List (List ℕ)) → l.fault ≡ None → WasFedInto holds most_records l closed []
      → IsFirstFault closed f → ⊥
  unfolding Comes
  none_recorded f closed e w at = go (subst (Comes closed []) e w.comes)
    where
      go : ((records : List Record) × AreKept holds l records × HasLoaded most_records (seen l records) closed []) → ⊥
      go h =
          let none : with_line_feeds h.2.ended ≡ [] = nothing_before (with_line_feeds h.2.ended) l.unfinished h.2.lines_are.bytes_are in
          accepted_no_fault tiger tiger_is_sound most_records (closed ++ [] ∷ []) h.0 f
          (subst (λ (last : List ℕ). SpellsWithin tiger most_records (closed ++ last ∷ []) h.0) none h.2.accepts)
          ((empty_fault tiger most_records closed f).1 at)

-- a device's fault is counted, and no other fault is
pub counted_device : (f : LoadFault) (was now : ℕ) → now ≡ (if is_device_fault f then was + 1 else was) → f ≡ faults.Device
    → now ≡ was + 1
counted_device f was now reported e =
    subst (λ (g : LoadFault). now ≡ (if is_device_fault g then was + 1 else was)) e reported

pub counted_none : (f : LoadFault) (was now : ℕ) → now ≡ (if is_device_fault f then was + 1 else was) → (f ≡ faults.Device → ⊥)
    → now ≡ was
counted_none f was now reported other = reported ∙ ap (λ b. if b then was + 1 else was) (no_device_reported f other)
