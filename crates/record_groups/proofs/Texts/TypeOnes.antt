-- The type 1 records of a county in an arrangement.
use Rattle.record_groups.proofs.Common.{AreWhole, Bool, Chain, County, DirectedChain, Equal, IsCounty, IsWithinLimits, List, None, One, Option, Record, Some, ap, arith, arranged_by, arranged_tlids, arrangement_of, arranges, bodies_read, chain_there, chains, chains_arranged, chains_arranged_by, directed_chain, false, kept_entry, length, length-map, length-reverse, length_permutation, map, most_records, nat_list_cmp_total, numbered_at, one_at, ones_of, option_cmp, option_map, packed_one, placed, read_there, refl, renaming_of, slice_get, slice_get-map, spelling_cmp, spelling_of, subst, sym, tied_itself, tlid_at, tlids, true, turned_if, ℕ, ◌+◌, ◌<◌, ◌∙◌, ◌≡◌, ◌≤◌}
use Rattle.record_groups.proofs.Records.PackedGroups.{ones}

-- a record compared with itself, if there is one
pub same_one : (r : Option Record) → Equal ≡ option_cmp spelling_cmp r r
same_one None = refl
same_one (Some r) = sym (tied_itself nat_list_cmp_total (spelling_of r))

-- A directed chain.
pub record StepThere (county : County) (directed : DirectedChain) : Type 0 where
  pub chain : Chain
  pub there : directed_chain county directed ≡ Some chain
  pub two : 2 ≤ length chain.points

pub directed_there : (county : County) → IsCounty county → IsWithinLimits most_records county → (directed : DirectedChain)
    → directed.place < length county.chains → StepThere county directed
directed_there county is within directed h =
    let at = chain_there county is within directed.place h in
    let there : directed_chain county directed ≡ Some (turned_if directed.turned at.entry.1) = ap (option_map (turned_if directed.turned)) at.chain in
    record {
      chain = turned_if directed.turned at.entry.1;
      there = there;
      two = either directed.turned at.entry.1 at.two;
    }
  where
    either : (turned : Bool) (chain : Chain) → 2 ≤ length chain.points → 2 ≤ length (turned_if turned chain).points
    either true chain two = subst (λ n. 2 ≤ n) (sym (length-reverse chain.points)) two
    either false chain two = two

pub length-ones : (county : County) → length (ones_of county) ≡ length county.chains
length-ones county = ap length (ones county) ∙ length-map (map packed_one county.chains) One ∙ length-map county.chains packed_one

module _ (county : County) (arrangement : List DirectedChain) (is : IsCounty county) (whole : AreWhole county arrangement) where
  pub length-ones_arranged_by : length (ones_of (arranged_by county arrangement)) ≡ length arrangement
  length-ones_arranged_by = length-ones (arranged_by county arrangement) ∙ chains_arranged_by county arrangement is whole

  pub length_whole : length arrangement ≡ length county.chains
  length_whole =
      let order = arrangement_of county arrangement in
      let stated : length order ≡ length arrangement = length-map arrangement (λ (s : DirectedChain). (tlid_at county s.place, s.turned)) in
      let named : length (arranged_tlids order) ≡ length order = length-map order (λ (s : ℕ × Bool). s.0) in
      let all : length (tlids county) ≡ length county.chains = length-map county.chains (λ (e : ℕ × Chain). e.0) in
      let same = length_permutation (arranged_tlids order) (tlids county) (arranges county arrangement is whole) in
      omega (arith, stated, named, all, same)

  -- the record at a place belongs to the directed chain
  pub ones_arranged_by : (i : ℕ) (directed : DirectedChain) → slice_get arrangement i ≡ Some directed → slice_get (ones_of (arranged_by county arrangement)) i ≡ one_at county directed i
  ones_arranged_by i directed e =
      let order = arrangement_of county arrangement in
      let r = renaming_of county order in
      let c = read_there (directed_chain county) arrangement (chains county arrangement is whole) (bodies_read county arrangement is whole arrangement whole.there) i directed e in
      ap (λ rs. slice_get rs i) (ones (arranged_by county arrangement)
      ∙ ap (λ es. map One (map packed_one es)) (chains_arranged county order is (arranges county arrangement is whole)))
      ∙ slice_get-map One (map packed_one (map (kept_entry r) (placed county order))) i
      ∙ ap (option_map One) (slice_get-map packed_one (map (kept_entry r) (placed county order)) i
      ∙ ap (option_map packed_one) (slice_get-map (kept_entry r) (placed county order) i
      ∙ ap (option_map (kept_entry r)) (numbered_at 1 (chains county arrangement is whole) i ∙ ap (option_map (λ x. (1 + i, x))) c.1)))
      ∙ ap (λ n. Some (One (packed_one (n, c.0)))) (let m : 1 + i ≡ i + 1 = omega arith in m)
      ∙ sym (ap (option_map (λ chain. One (packed_one (i + 1, chain)))) c.2)
