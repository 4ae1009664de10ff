-- Each set is accepted or has one refusal; two sets have one canonical text exactly if their counties are the same.
use Rattle.tigercanon.proofs.Common.{All, AllByRecursion, AreSame, County, Fault, FaultAt, FitsRecord, IsAccepted, IsAcceptedSet, IsCanonicalText, IsCanonicalTextInView, IsFaulty, IsOnlyTextInView, IsRecordsRefusal, IsRefusal, IsSetRefusal, IsSpelled, IsStrictInView, IsView, IsWithinLimit, Link, List, Load, LoadFault, Memory, OutOfProfile, Profile, Record, RecordsRefusal, Spells, SpellsWithin, Unlinked, Write, [], accepted_no_fault, accepted_within, ap, canonical_exists, canonical_within, county_of, inl, inr, lit≤, most_records, one_canonical_same, one_verdict, recursion_from_All, refl, same-reflexive, spelled_fit, spelled_once, strict_in_view, subst, sym, text_of, text_spells, text_spells_only, tiger_is_sound, ℕ, ◌∙◌, ◌∷◌, ◌≡◌, ◌⊎◌}
use Rattle.std.proofs.lemmas.List.Elements.{All-from_recursion}
use Rattle.tl_load.specs.Choice.{tiger}
use Rattle.canonical_form.proofs.CanonicalLists.Accepted.{accepted_not_refused, accepted_or_refused, canonical_accepted, canonical_as_it_is, canonical_of_itself, one_refusal, same_canonical_text}

pub set_accepted_or_refused : (parts : List (List ℕ))
    → ((records : List Record) × IsAcceptedSet parts records) ⊎ ((refusal : Fault) × IsSetRefusal parts refusal)
set_accepted_or_refused parts = go (one_verdict tiger tiger_is_sound most_records parts)
  where
    judged : (records : List Record) → SpellsWithin tiger most_records parts records
        → IsAccepted records ⊎ ((refusal : RecordsRefusal) × IsRefusal records refusal)
        → ((records : List Record) × IsAcceptedSet parts records) ⊎ ((refusal : Fault) × IsSetRefusal parts refusal)
    judged records spelled (inl accepted) = inl (records, record { spelled = spelled; accepted = accepted })
    judged records spelled (inr (Unlinked f, h)) = inr (Link f, (records, spelled, h))
    judged records spelled (inr (OutOfProfile f, h)) = inr (Profile f, (records, spelled, h))

    go : IsSpelled tiger most_records parts ⊎ IsFaulty tiger most_records parts
        → ((records : List Record) × IsAcceptedSet parts records) ⊎ ((refusal : Fault) × IsSetRefusal parts refusal)
    go (inl s) = judged s.records s.accepts (accepted_or_refused s.records)
    go (inr f) = inr (Load f.fault, f.at)

-- the records that accepted parts spell are one list, and then no line is faulty
pub one_list : (parts : List (List ℕ)) (records others : List Record) → SpellsWithin tiger most_records parts records
    → SpellsWithin tiger most_records parts others → records ≡ others
one_list parts records others a b = spelled_once tiger tiger_is_sound parts records others a.spells b.spells

spelled_not_faulty : (parts : List (List ℕ)) (records : List Record) (fault : LoadFault) → SpellsWithin tiger most_records parts records
    → FaultAt tiger most_records parts fault → ⊥
spelled_not_faulty = accepted_no_fault tiger tiger_is_sound most_records

-- the refusal of the records that the parts spell
refusal_of : (parts : List (List ℕ)) (records : List Record) → SpellsWithin tiger most_records parts records → (f : RecordsRefusal)
    → IsRecordsRefusal parts f → IsRefusal records f
refusal_of parts records spelled f h = subst (λ rs. IsRefusal rs f) (one_list parts h.0 records h.1 spelled) h.2

pub accepted_set_not_refused : (parts : List (List ℕ)) (records : List Record) (refusal : Fault) → IsAcceptedSet parts records
    → IsSetRefusal parts refusal → ⊥
accepted_set_not_refused parts records (Load fault) a h = spelled_not_faulty parts records fault a.spelled h
accepted_set_not_refused parts records (Link fault) a h =
    accepted_not_refused records (Unlinked fault) a.accepted (refusal_of parts records a.spelled (Unlinked fault) h)
accepted_set_not_refused parts records (Profile fault) a h =
    accepted_not_refused records (OutOfProfile fault) a.accepted (refusal_of parts records a.spelled (OutOfProfile fault) h)
accepted_set_not_refused parts records (Write fault) a h = h
accepted_set_not_refused parts records Memory a h = h

one_fault : (parts : List (List ℕ)) (f g : LoadFault) → FaultAt tiger most_records parts f → FaultAt tiger most_records parts g → f ≡ g
one_fault parts f g h k = go (one_verdict tiger tiger_is_sound most_records parts)
  where
    go : IsSpelled tiger most_records parts ⊎ IsFaulty tiger most_records parts → f ≡ g
    go (inl s) = absurd (s.none f h)
    go (inr t) = t.only f h ∙ sym (t.only g k)

one_spelled_refusal : (parts : List (List ℕ)) (f g : RecordsRefusal) → IsRecordsRefusal parts f → IsRecordsRefusal parts g → f ≡ g
one_spelled_refusal parts f g h k = one_refusal k.0 f g (refusal_of parts k.0 k.1 f h) k.2

pub one_set_refusal : (parts : List (List ℕ)) (f g : Fault) → IsSetRefusal parts f → IsSetRefusal parts g → f ≡ g
one_set_refusal parts (Load f) (Load g) h k = ap Load (one_fault parts f g h k)
one_set_refusal parts (Load f) (Link g) h k = absurd (spelled_not_faulty parts k.0 f k.1 h)
one_set_refusal parts (Load f) (Profile g) h k = absurd (spelled_not_faulty parts k.0 f k.1 h)
one_set_refusal parts (Link f) (Load g) h k = absurd (spelled_not_faulty parts h.0 g h.1 k)
one_set_refusal parts (Link f) (Link g) h k = let e = one_spelled_refusal parts (Unlinked f) (Unlinked g) h k in cc
one_set_refusal parts (Link f) (Profile g) h k = let e = one_spelled_refusal parts (Unlinked f) (OutOfProfile g) h k in cc
one_set_refusal parts (Profile f) (Load g) h k = absurd (spelled_not_faulty parts h.0 g h.1 k)
one_set_refusal parts (Profile f) (Link g) h k = let e = one_spelled_refusal parts (OutOfProfile f) (Unlinked g) h k in cc
one_set_refusal parts (Profile f) (Profile g) h k = let e = one_spelled_refusal parts (OutOfProfile f) (OutOfProfile g) h k in cc
one_set_refusal parts (Write f) g h k = absurd h
one_set_refusal parts Memory g h k = absurd h
one_set_refusal parts f (Write g) h k = absurd k
one_set_refusal parts f Memory h k = absurd k

-- canonical texts in a view
module _ (view : County → County) (view_laws : IsView view) where
  -- the printed records of a canonical list fit their columns and keep the limit
  fitting : (parts : List (List ℕ)) (text : List ℕ) (h : IsCanonicalTextInView view parts text)
      → All FitsRecord h.canonical × IsWithinLimit most_records h.canonical
  fitting parts text h =
      let read : AllByRecursion FitsRecord h.records =
      recursion_from_All FitsRecord h.records (spelled_fit parts h.records h.spelled.spells) in
      let kept = canonical_within view view_laws h.records h.canonical_of.accepted h.canonical h.canonical_of read most_records (lit≤ tt)
      (accepted_within most_records parts h.records h.spelled) in
      (All-from_recursion FitsRecord h.canonical kept.0, kept.1)

  module _ (p q : List (List ℕ)) (t u : List ℕ) (h : IsCanonicalTextInView view p t) (k : IsCanonicalTextInView view q u) where
    pub same_one_text : AreSame (view (county_of h.records)) (view (county_of k.records)) → t ≡ u
    same_one_text s = sym h.text_is
        ∙ same_canonical_text view view_laws h.records k.records h.canonical k.canonical h.canonical_of k.canonical_of s
        ∙ k.text_is

    -- lists that fit are one list if their texts are
    pub one_text_one_list : t ≡ u → h.canonical ≡ k.canonical
    one_text_one_list e =
        let texts : text_of k.canonical ≡ text_of h.canonical = k.text_is ∙ sym e ∙ sym h.text_is in
        let spelled : Spells tiger (text_of h.canonical ∷ []) k.canonical =
        subst (λ bytes. Spells tiger (bytes ∷ []) k.canonical) texts (text_spells k.canonical (fitting q u k).0) in
        sym (text_spells_only h.canonical k.canonical (fitting p t h).0 spelled)

    pub one_text_same : t ≡ u → AreSame (view (county_of h.records)) (view (county_of k.records))
    one_text_same e =
        one_canonical_same view view_laws h.records k.records h.canonical k.canonical h.canonical_of k.canonical_of (one_text_one_list e)

  -- an accepted set has one canonical text
  pub canonical_text : (parts : List (List ℕ)) (records : List Record) → IsAcceptedSet parts records
      → (text : List ℕ) × IsCanonicalTextInView view parts text
  canonical_text parts records a =
      let found = canonical_exists view view_laws records a.accepted in (
        text_of found.0,
        record { records = records; canonical = found.0; spelled = a.spelled; canonical_of = found.1; text_is = refl },
      )

  pub one_text : (parts : List (List ℕ)) (t u : List ℕ) → IsCanonicalTextInView view parts t → IsCanonicalTextInView view parts u
      → t ≡ u
  one_text parts t u h k =
      same_one_text parts parts t u h k
      (subst (λ (rs : List Record). AreSame (view (county_of h.records)) (view (county_of rs)))
      (one_list parts h.records k.records h.spelled k.spelled) (same-reflexive (view (county_of h.records))))

  -- as one part it is accepted, describes the same map, and is its own canonical text, in the view and without one
  module _ (parts : List (List ℕ)) (text : List ℕ) (h : IsCanonicalTextInView view parts text) where
    pub text_accepted : IsAcceptedSet (text ∷ []) h.canonical
    unfolding tiger
    text_accepted = record {
      spelled = record {
        spells = subst (λ bytes. Spells tiger (bytes ∷ []) h.canonical) h.text_is (text_spells h.canonical (fitting parts text h).0);
        within = (fitting parts text h).1;
      };
      accepted = canonical_accepted view view_laws h.records h.canonical h.canonical_of;
    }

    pub text_itself : IsCanonicalTextInView view (text ∷ []) text
    text_itself = record {
      records = h.canonical;
      canonical = h.canonical;
      spelled = text_accepted.spelled;
      canonical_of = canonical_of_itself view view_laws h.records h.canonical h.canonical_of;
      text_is = h.text_is;
    }

    pub text_as_it_is : IsCanonicalText (text ∷ []) text
    text_as_it_is = record {
      records = h.canonical;
      canonical = h.canonical;
      spelled = text_accepted.spelled;
      canonical_of = canonical_as_it_is view view_laws h.records h.canonical h.canonical_of;
      text_is = h.text_is;
    }

  -- no canonical list of the same map has another text
  pub only_text : (parts : List (List ℕ)) (text : List ℕ) → IsCanonicalTextInView view parts text → IsOnlyTextInView view parts text
  only_text parts text h records canonical accepted is own same = one_text parts (text_of canonical) text
      (record {
        records = records;
        canonical = canonical;
        spelled = accepted.spelled;
        canonical_of = record { accepted = accepted.accepted; canonical = is; own = own; same = same };
        text_is = refl;
      }) h

  -- the text of a strict list is the only one
  module _ (parts : List (List ℕ)) (records answer : List Record) (spelled : SpellsWithin tiger most_records parts records)
      (h : IsStrictInView view records answer) where
    pub strict_text : IsCanonicalTextInView view parts (text_of answer)
    strict_text = record {
      records = records;
      canonical = answer;
      spelled = spelled;
      canonical_of = strict_in_view view records answer h;
      text_is = refl;
    }

    pub only_strict_text : (text : List ℕ) → IsCanonicalTextInView view parts text → text ≡ text_of answer
    only_strict_text text k = one_text parts text (text_of answer) k strict_text
