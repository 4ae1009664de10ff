-- The canonical text of records that were read, and why there may be none.
use Rattle.tigercanon.proofs.Common.{Carries, CarriesSetInView, County, Err, GoesOut, IfErr, IfOk, IsAcceptedSet, IsCanonSetInView, IsCanonicalTextInView, IsCounty, IsOneCanonicalTextInView, IsOnlyTextInView, List, Mask, MatchResult, Ok, Record, Renumbering, Result, StopsShort, WriteFault, [], county_of, if◌then◌else◌, is_ok, length, masked, masked_view, packed, packed_county, subst, sym, take, text_of, ℕ, ◌++◌, ◌+◌, ◌<◌, ◌∙◌, ◌∷◌, ◌≡◌}
use Rattle.tigercanon.proofs.Sets.{one_text, only_text, text_accepted, text_itself}

-- the outcome of writing a text to a sink
pub goes_out : {W : Type 0} (failed : W → ℕ) (holds : W → List ℕ → Type 0) (old new : W) (text : List ℕ) (r : Result ℕ WriteFault)
    → IfOk r (λ n. n ≡ length text) → IfErr r (λ f. f.written < length text)
    → failed new ≡ (if is_ok r then failed old else failed old + 1)
    → ((held : List ℕ) → holds old held
    → MatchResult r (λ _. holds new (held ++ text)) (λ f. holds new (held ++ take f.written text)))
    → MatchResult r (λ count. GoesOut holds old new text count × (failed new ≡ failed old))
    (λ fault. StopsShort holds old new text fault.written × (failed new ≡ failed old + 1))
goes_out failed holds old new text (Ok n) long short failures bytes = ((long, bytes), failures)
goes_out failed holds old new text (Err f) long short failures bytes = ((short, bytes), failures)

-- canonical texts under a mask
module _ (mask : Mask) where
  -- a canonical text is its own canonical text
  pub again : (parts : List (List ℕ)) (answer : List ℕ) → IsCanonicalTextInView (masked mask) parts answer → (text : List ℕ)
      → IsOneCanonicalTextInView (masked mask) parts text → answer ≡ text
  again parts answer h text one =
      one_text (masked mask) (masked_view mask) parts answer text h
      (subst (λ ps. IsCanonicalTextInView (masked mask) ps text) (sym one.parts_are)
      (text_itself (masked mask) (masked_view mask) one.whole text one.canonical))

  -- and is accepted
  pub one_text_accepted : (parts : List (List ℕ)) (text : List ℕ) → IsOneCanonicalTextInView (masked mask) parts text
      → (records : List Record) × IsAcceptedSet parts records
  one_text_accepted parts text one = (
    one.canonical.canonical,
    subst (λ ps. IsAcceptedSet ps one.canonical.canonical) (sym one.parts_are)
        (text_accepted (masked mask) (masked_view mask) one.whole text one.canonical),
  )

  -- products of a set's canonical county
  module _ (parts : List (List ℕ)) (a canon : County) (set : IsCanonSetInView (masked mask) parts a canon) where
    abbrev pub text_of_set : (text : List ℕ) → text ≡ text_of (packed canon) → IsCanonicalTextInView (masked mask) parts text
    text_of_set text e = record {
      records = set.records;
      canonical = packed canon;
      spelled = set.accepted.spelled;
      canonical_of = set.canonical;
      text_is = sym e;
    }

    pub only_of_set : (text : List ℕ) → text ≡ text_of (packed canon) → IsOnlyTextInView (masked mask) parts text
    only_of_set text e = only_text (masked mask) (masked_view mask) parts text (text_of_set text e)

    -- the renaming onto the canonical county carries the set onto its text
    pub carried_of_set : IsCounty canon → (text : List ℕ) → text ≡ text_of (packed canon) → (renaming : Renumbering)
        → Carries renaming a canon → CarriesSetInView (masked mask) renaming parts (text ∷ [])
    carried_of_set is text e renaming carries = record {
      records = set.records;
      other_records = packed canon;
      accepted = set.accepted;
      other_accepted = text_accepted (masked mask) (masked_view mask) parts text (text_of_set text e);
      carries = subst (Carries renaming (masked mask (county_of set.records))) (sym (set.canonical.own ∙ packed_county canon is))
          (subst (λ c. Carries renaming c canon) set.county_is carries);
    }
