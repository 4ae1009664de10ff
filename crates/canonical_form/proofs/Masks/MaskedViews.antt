-- Each mask is a view, and never takes more records than the whole county.
use Rattle.canonical_form.proofs.Common.{HasWithin, IsView, Mask, ShowsNoMore, arith, by_type_keeps, by_type_of, count_of_type, counts_masked, masked, masked_is_county, masked_within_limits, packed, packed_by_type, packed_keeps, subst, ℕ}
use Rattle.canonical_form.proofs.Masks.MaskedCounties.{carried_masked, masked_twice}
use Rattle.canonical_form.proofs.Masks.MaskedProfile.{masked_in_profile}

pub masked_view : (mask : Mask) → IsView (masked mask)
masked_view mask = record {
  is_county = masked_is_county mask;
  profile = masked_in_profile mask;
  limits = masked_within_limits mask;
  once = masked_twice mask;
  carried = carried_masked mask;
}

pub masked_shows_no_more : (mask : Mask) → ShowsNoMore (masked mask)
masked_shows_no_more mask county =
    let limits : ℕ → ℕ = λ n. count_of_type n (packed county) in
    packed_keeps limits (masked mask county)
    (counts_masked mask limits county
    (subst (HasWithin limits) (by_type_of (packed_by_type county)) (by_type_keeps limits (packed county) (λ n. omega arith))))
