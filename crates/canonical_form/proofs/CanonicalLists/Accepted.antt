-- Each list of records is accepted or has one refusal. Lists of two accepted lists that are canonical in a view have the same
-- text if the view shows the same map of both counties, and are equal only then.
use Rattle.canonical_form.proofs.Common.{AreSame, County, IsAccepted, IsCanonicalInView, IsCanonicalOf, IsCounty, IsFirstBrokenClause, IsFirstBrokenRule, IsInProfile, IsLinked, IsRefusal, IsView, LinkFault, List, OutOfProfile, ProfileFault, Record, RecordsRefusal, Unlinked, ap, county-is_county, county_of, inl, inr, linked_has_none, linked_or_first, one_first_clause, one_first_rule, plain, profile_has_none, profile_or_first, refl, same-reflexive, same-symmetric, same-transitive, same_in_profile, subst, sym, text_of, ◌≡◌, ◌⊎◌}
use Rattle.canonical_form.proofs.CanonicalLists.TidyLists.{canonical_texts_equal}

pub accepted_or_refused : (records : List Record) → IsAccepted records ⊎ ((refusal : RecordsRefusal) × IsRefusal records refusal)
accepted_or_refused records = go (linked_or_first records)
  where
    profile : IsLinked records → IsInProfile (county_of records) ⊎ ((fault : ProfileFault) × IsFirstBrokenClause (county_of records) fault)
        → IsAccepted records ⊎ ((refusal : RecordsRefusal) × IsRefusal records refusal)
    profile linked (inl within) = inl (record { linked = linked; profile = within })
    profile linked (inr f) = inr (OutOfProfile f.0, (linked, f.1))

    go : IsLinked records ⊎ ((fault : LinkFault) × IsFirstBrokenRule records fault)
        → IsAccepted records ⊎ ((refusal : RecordsRefusal) × IsRefusal records refusal)
    go (inl linked) = profile linked (profile_or_first (county_of records))
    go (inr f) = inr (Unlinked f.0, f.1)

pub accepted_not_refused : (records : List Record) (refusal : RecordsRefusal) → IsAccepted records → IsRefusal records refusal → ⊥
accepted_not_refused records (Unlinked f) a h = linked_has_none records f a.linked h
accepted_not_refused records (OutOfProfile f) a h = profile_has_none (county_of records) f a.profile h.1

pub one_refusal : (records : List Record) (f g : RecordsRefusal) → IsRefusal records f → IsRefusal records g → f ≡ g
one_refusal records (Unlinked f) (Unlinked g) h k = ap Unlinked (one_first_rule records f g h k)
one_refusal records (Unlinked f) (OutOfProfile g) h k = absurd (linked_has_none records f k.0 h)
one_refusal records (OutOfProfile f) (Unlinked g) h k = absurd (linked_has_none records g h.0 k)
one_refusal records (OutOfProfile f) (OutOfProfile g) h k = ap OutOfProfile (one_first_clause (county_of records) f g h.1 k.1)

-- viewing the county itself is a view
pub plain_view : IsView plain
plain_view = record {
  is_county = λ county h. h;
  profile = λ county h. h;
  limits = λ limit county h. h;
  once = λ county. refl;
  carried = λ r old new carries own. refl;
}

-- canonical lists in a view
module _ (view : County → County) (view_laws : IsView view) where
  view_county : (records : List Record) → IsAccepted records → IsCounty (view (county_of records))
  view_county records accepted = view_laws.is_county (county_of records) (county-is_county records accepted.linked)

  module _ (xs ys c d : List Record) (h : IsCanonicalInView view xs c) (k : IsCanonicalInView view ys d) where
    pub same_canonical_text : AreSame (view (county_of xs)) (view (county_of ys)) → text_of c ≡ text_of d
    same_canonical_text s =
        let old : County = view (county_of xs) in
        let other : County = view (county_of ys) in
        let back : AreSame (county_of c) old =
        same-symmetric old (county_of c) (view_county xs h.accepted) (county-is_county c h.canonical.in_form.linked) h.same in
        let there : AreSame (county_of c) other =
        same-transitive (county_of c) old other (county-is_county c h.canonical.in_form.linked) (view_county xs h.accepted) back s in
        canonical_texts_equal c d h.canonical k.canonical (same-transitive (county_of c) other (county_of d)
        (county-is_county c h.canonical.in_form.linked) (view_county ys k.accepted) there k.same)

    pub one_canonical_same : c ≡ d → AreSame (view (county_of xs)) (view (county_of ys))
    one_canonical_same e =
        let old : County = view (county_of xs) in
        let other : County = view (county_of ys) in
        let back : AreSame (county_of d) other =
        same-symmetric other (county_of d) (view_county ys k.accepted) (county-is_county d k.canonical.in_form.linked) k.same in
        let there : AreSame old (county_of d) = subst (λ l. AreSame old (county_of l)) e h.same in
        same-transitive old (county_of d) other (view_county xs h.accepted) (county-is_county d k.canonical.in_form.linked) there back

  -- a canonical list of an accepted one is accepted
  pub canonical_accepted : (xs c : List Record) → IsCanonicalInView view xs c → IsAccepted c
  canonical_accepted xs c h = record {
    linked = h.canonical.in_form.linked;
    profile = same_in_profile (view (county_of xs)) (county_of c) h.same (view_laws.profile (county_of xs) h.accepted.profile);
  }

  -- it is its own canonical list in the view
  pub canonical_of_itself : (xs c : List Record) → IsCanonicalInView view xs c → IsCanonicalInView view c c
  canonical_of_itself xs c h = record {
    accepted = canonical_accepted xs c h;
    canonical = h.canonical;
    own = h.own;
    same = subst (λ old. AreSame old (county_of c)) (sym h.own) (same-reflexive (county_of c));
  }

  -- and without the view
  pub canonical_as_it_is : (xs c : List Record) → IsCanonicalInView view xs c → IsCanonicalOf c c
  canonical_as_it_is xs c h = record {
    accepted = canonical_accepted xs c h;
    canonical = h.canonical;
    own = refl;
    same = same-reflexive (county_of c);
  }
