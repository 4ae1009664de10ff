-- Sets with the same lines are accepted alike, refused alike except for a faulty line's part and line, and have one canonical text.
use Rattle.tigercanon.proofs.Common.{County, Fault, HaveSameLines, IsAcceptedSet, IsCanonicalTextInView, IsSetRefusal, Link, List, Load, Memory, Profile, Record, SpellsWithin, Write, ap, fault_elsewhere, most_records, refl, refusal_without_place, spells_as, tiger, ℕ, ◌≡◌}

module _ (parts others : List (List ℕ)) (same : HaveSameLines parts others) where
  spelled_alike : (records : List Record) → SpellsWithin tiger most_records parts records → SpellsWithin tiger most_records others records
  spelled_alike records h = record { spells = spells_as tiger parts others records same h.spells; within = h.within }

  pub accepted_alike : (records : List Record) → IsAcceptedSet parts records → IsAcceptedSet others records
  accepted_alike records h = record { spelled = spelled_alike records h.spelled; accepted = h.accepted }

  pub text_alike : (view : County → County) (text : List ℕ) → IsCanonicalTextInView view parts text → IsCanonicalTextInView view others text
  text_alike view text h = record {
    records = h.records;
    canonical = h.canonical;
    spelled = spelled_alike h.records h.spelled;
    canonical_of = h.canonical_of;
    text_is = h.text_is;
  }

  pub refused_alike : (refusal : Fault) → IsSetRefusal parts refusal
      → (reported : Fault) × IsSetRefusal others reported × (refusal_without_place reported ≡ refusal_without_place refusal)
  refused_alike (Load fault) h =
      let found = fault_elsewhere tiger most_records parts others fault same h in
      (Load found.0, found.1, ap Load found.2)
  refused_alike (Link fault) h = (Link fault, (h.0, spelled_alike h.0 h.1, h.2), refl)
  refused_alike (Profile fault) h = (Profile fault, (h.0, spelled_alike h.0 h.1, h.2), refl)
  refused_alike (Write fault) h = absurd h
  refused_alike Memory h = absurd h
