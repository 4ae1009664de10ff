-- Two sets with the same canonical text, and the renaming from the first set to the second through it.
use Rattle.county_chart.specs.Renumbering.{Carries, Renumbering}
use Rattle.county_chart.specs.County.{County, county_of}
use Rattle.tigercanon.specs.Sets.{CarriesSet, IsAcceptedSet}
use Rattle.county_chart.specs.CountyRules.{IsCounty}
use Rattle.county_chart.specs.LinkRules.{IsLinked}
use Rattle.std.proofs.Common.{List, [], inl, inr, subst, sym, ℕ, ◌∙◌, ◌∷◌, ◌≡◌, ◌⊎◌}
use Rattle.tl_layout.specs.declared.record_type.Record.{Record}
use Rattle.tl_load.specs.Outcome.{IsFaulty, IsSpelled, SpellsWithin}
use Rattle.tl_layout.specs.Limits.{most_records}
use Rattle.tl_load.specs.Choice.{tiger}

-- the laws of the libraries about sets and linked records
module _ (spelled_or_one_fault : (limit : ℕ) (parts : List (List ℕ)) → IsSpelled tiger limit parts ⊎ IsFaulty tiger limit parts)
    (well_formed : (records : List Record) → IsLinked records → IsCounty (county_of records)) where
  one_list : (parts : List (List ℕ)) (records others : List Record) → SpellsWithin tiger most_records parts records
      → SpellsWithin tiger most_records parts others → records ≡ others
  one_list parts records others a b = go (spelled_or_one_fault most_records parts)
    where
      go : IsSpelled tiger most_records parts ⊎ IsFaulty tiger most_records parts → records ≡ others
      go (inl s) = s.only records a.spells ∙ sym (s.only others b.spells)
      go (inr f) = absurd (f.none records a)

  -- a renaming from the first county to the canonical one, followed by one from there back to the second, carries the first county
  -- onto the second
  pub carried_through : (parts others : List (List ℕ)) (text other_text : List ℕ) → text ≡ other_text → (there back through : Renumbering)
      → CarriesSet there parts (text ∷ []) → CarriesSet back others (other_text ∷ [])
      → ((a b c : County) → IsCounty a → IsCounty b → IsCounty c → Carries there a b → Carries back c b → Carries through a c)
      → CarriesSet through parts others
  carried_through parts others text other_text same there back through first second composed =
      let kept : IsAcceptedSet (text ∷ []) second.other_records =
      subst (λ t. IsAcceptedSet (t ∷ []) second.other_records) (sym same) second.other_accepted in
      let one = one_list (text ∷ []) second.other_records first.other_records kept.spelled first.other_accepted.spelled in
      record {
        records = first.records;
        other_records = second.records;
        accepted = first.accepted;
        other_accepted = second.accepted;
        carries = composed (county_of first.records) (county_of first.other_records) (county_of second.records)
            (well_formed first.records first.accepted.accepted.linked)
            (well_formed first.other_records first.other_accepted.accepted.linked)
            (well_formed second.records second.accepted.accepted.linked) first.carries
            (subst (λ (records : List Record). Carries back (county_of second.records) (county_of records)) one second.carries);
      }
