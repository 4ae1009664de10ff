-- Sets under a mask: the view of a set's county, and the mask that leaves nothing out.
use Rattle.tigercanon.proofs.Common.{County, IsViewedSet, List, Mask, county_of, masked, masked_by_none, no_mask, plain, subst, sym, ℕ, ◌∙◌, ◌≡◌}

-- a mask that leaves nothing out shows counties as they are
pub none_is_plain : masked no_mask ≡ plain
none_is_plain = λ i county. masked_by_none county i

-- a property holds under it exactly if it holds without a mask
pub as_it_is : (P : (County → County) → Type 0) → P (masked no_mask) → P plain
as_it_is P = subst P none_is_plain

pub under_none : (P : (County → County) → Type 0) → P plain → P (masked no_mask)
under_none P = subst P (sym none_is_plain)

module _ (mask : Mask) (parts : List (List ℕ)) where
  -- if the mask leaves nothing out, the county under it is the county itself
  pub viewed_by_none : mask ≡ no_mask → (county : County) → IsViewedSet plain parts county → IsViewedSet (masked mask) parts county
  viewed_by_none none county set = record {
    records = set.records;
    accepted = set.accepted;
    county_is = subst (λ (m : Mask). county ≡ masked m (county_of set.records)) (sym none)
        (set.county_is ∙ sym (masked_by_none (county_of set.records)));
  }
