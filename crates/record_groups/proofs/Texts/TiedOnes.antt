-- The type 1 records of two arrangements, compared only at open places.
use Rattle.record_groups.proofs.Common.{AreTiedAt, AreTiedBelow, AreWhole, Bool, County, DirectedChain, Equal, Greater, IsCounty, Less, List, Record, Some, [], ap, ap₂, arith, arranged_by, false, get_or, length, ltb-false, ltb-true, nat_lt, one_at, ones_of, option_cmp, ordering_then, records_cmp, refl, slice_get, slice_get-get_or, slice_get_past, spelling_cmp, suc, sym, true, zero, ℕ, ◌∙◌, ◌∷◌, ◌≡◌, ◌≢◌, ◌≤◌}
use Rattle.record_groups.proofs.Texts.GroupOrders.{decided}
use Rattle.record_groups.proofs.Texts.TypeOnes.{length-ones_arranged_by, ones_arranged_by, same_one}

-- the first place where two lists aren't tied decides
pub first_untied : (rs ss : List Record) (place : ℕ) → AreTiedBelow place rs ss
    → option_cmp spelling_cmp (slice_get rs place) (slice_get ss place) ≢ Equal
    → option_cmp spelling_cmp (slice_get rs place) (slice_get ss place) ≡ records_cmp rs ss
first_untied [] [] place below ne = absurd (ne refl)
first_untied [] (s ∷ ss) zero below ne = refl
first_untied (r ∷ rs) [] zero below ne = refl
first_untied (r ∷ rs) (s ∷ ss) zero below ne = sym (decided (spelling_cmp r s) (records_cmp rs ss) ne)
first_untied [] (s ∷ ss) (suc place) below ne = let e : Less ≡ Equal = below 0 (omega arith) in absurd (cc)
first_untied (r ∷ rs) [] (suc place) below ne = let e : Greater ≡ Equal = below 0 (omega arith) in absurd (cc)
first_untied (r ∷ rs) (s ∷ ss) (suc place) below ne =
    first_untied rs ss place (λ k l. below (suc k) (omega (arith, l))) ne
    ∙ sym (ap (λ o. ordering_then o (records_cmp rs ss)) (below 0 (omega arith)))

-- lists that are tied everywhere are spelled alike
pub all_tied : (rs ss : List Record) → ((place : ℕ) → AreTiedAt rs ss place) → Equal ≡ records_cmp rs ss
all_tied [] [] tied = refl
all_tied [] (s ∷ ss) tied = let e : Less ≡ Equal = tied 0 in absurd (cc)
all_tied (r ∷ rs) [] tied = let e : Greater ≡ Equal = tied 0 in absurd (cc)
all_tied (r ∷ rs) (s ∷ ss) tied =
    all_tied rs ss (λ place. tied (suc place)) ∙ sym (ap (λ o. ordering_then o (records_cmp rs ss)) (tied 0))

-- if two arrangements have the same directed chain at a place, their records are tied
module _ (county : County) (is : IsCounty county) (one other : List DirectedChain) (whole : AreWhole county one) (other_whole : AreWhole county other)
    (count : length one ≡ length other) where
  pub same_tied : (place : ℕ) → slice_get one place ≡ slice_get other place
      → AreTiedAt (ones_of (arranged_by county one)) (ones_of (arranged_by county other)) place
  same_tied place same = go (nat_lt place (length one)) refl
    where
      none : DirectedChain
      none = record { place = 0; turned = false }

      go : (b : Bool) → nat_lt place (length one) ≡ b → AreTiedAt (ones_of (arranged_by county one)) (ones_of (arranged_by county other)) place
      go true e =
          let directed = get_or one place none in
          let there : slice_get one place ≡ Some directed = slice_get-get_or one place none (ltb-true place (length one) e) in
          ap₂ (option_cmp spelling_cmp) (ones_arranged_by county one is whole place directed there)
          (ones_arranged_by county other is other_whole place directed (sym same ∙ there))
          ∙ sym (same_one (one_at county directed place))
      go false e =
          let past : length one ≤ place = ltb-false place (length one) e in
          ap₂ (option_cmp spelling_cmp)
          (slice_get_past (ones_of (arranged_by county one)) place (omega (arith, past, length-ones_arranged_by county one is whole)))
          (slice_get_past (ones_of (arranged_by county other)) place (omega (arith, past, count, length-ones_arranged_by county other is other_whole)))
