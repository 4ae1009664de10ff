-- The records of a chain in a packed county: each belongs to a chain of the county, and no RTSQ occurs twice.
use Rattle.canonical_form.proofs.Common.{AllByRecursion, Chain, County, IsCounty, Known, LinkedType, List, Ranges, SequencedType, [], all_everywhere, all_joined, all_map, all_weaker, among_known, ap, apart_from_sorted, each_from, false, flat_map, four_rtsq, four_tlid, has_repeat, has_repeat-apart, in_pieces, inner_points, keys_known, linked_tlids, map, nat_cmp, nat_keys, numbered_from, of_number, packed, packed_fours, packed_sixes, packed_twos, refl, rtsqs, rules, six_rtsq, six_tlid, subst, sym, tlids, two_rtsq, two_tlid, ℕ, ◌∙◌, ◌≡◌}
use Rattle.canonical_form.proofs.Packing.PackedGroups.{group_holds}
use Rattle.canonical_form.proofs.Packing.PackedNumbers.{four_own, fours, link_numbers, numbered_strict, rtsqs_made, six_own, sixes, tlids_apart, two_own, twos}
use Rattle.county_chart.specs.declared.fault.LinkedType.TheVariants.{Four, I, Six, Two}
use Rattle.county_chart.specs.declared.fault.SequencedType.TheVariants as sequenced

module _ (c : County) (is : IsCounty c) where
  linked_known : {X : Type 0} (tlid : X → ℕ) (pack : ℕ × Chain → List X) → ((e : ℕ × Chain) → AllByRecursion (λ x. tlid x ≡ e.0) (pack e))
      → AllByRecursion (Known nat_cmp (tlids c)) (map tlid (flat_map pack c.chains))
  linked_known tlid pack own = all_map (Known nat_cmp (tlids c)) tlid (flat_map pack c.chains)
      (all_joined (λ x. Known nat_cmp (tlids c) (tlid x)) pack c.chains
      (all_weaker (λ e. Known nat_cmp (tlids c) e.0) (λ e. AllByRecursion (λ x. Known nat_cmp (tlids c) (tlid x)) (pack e))
      (λ e k. all_weaker (λ x. tlid x ≡ e.0) (λ x. Known nat_cmp (tlids c) (tlid x)) (λ x f. subst (Known nat_cmp (tlids c)) (sym f) k)
      (pack e) (own e)) c.chains (keys_known nat_keys c.chains)))

  pub all_linked : (t : LinkedType) → AllByRecursion (Known nat_cmp (tlids c)) (linked_tlids t (packed c))
  all_linked Two = search (rules, twos, linked_known, two_own)
  all_linked Four = search (rules, fours, linked_known, four_own)
  all_linked Six = search (rules, sixes, linked_known, six_own)
  all_linked I = search (rules, link_numbers, each_from, among_known, nat_keys)

  -- what holds for the records of each chain holds for the records of each TLID
  pub in_group : {X : Type 0} (number : X → ℕ) (pack : ℕ × Chain → List X) → ((e : ℕ × Chain) → AllByRecursion (λ x. number x ≡ e.0) (pack e))
      → (P : List X → Type 0) → P [] → ((e : ℕ × Chain) → P (pack e)) → (xs : List X) → xs ≡ flat_map pack c.chains → (tlid : ℕ)
      → P (of_number number tlid xs)
  in_group number pack own P none each xs same tlid = subst (λ ys. P (of_number number tlid ys)) (sym same)
      (group_holds number pack own P none c.chains (tlids_apart c is) (all_everywhere (λ e. P (pack e)) each c.chains) tlid)

  -- records with the RTSQs 1, 2, 3, .. repeat none
  no_repeat : {X Y : Type 0} (rtsq : X → ℕ) (make : ℕ × Y → X) → ((piece : ℕ × Y) → rtsq (make piece) ≡ piece.0) → (ys : List Y)
      → has_repeat nat_cmp (map rtsq (map make (numbered_from 1 ys))) ≡ false
  no_repeat {X} {Y} rtsq make stated ys =
      ap (has_repeat nat_cmp) (rtsqs_made rtsq make stated ys)
      ∙ has_repeat-apart nat_keys (map (λ (piece : ℕ × Y). piece.0) (numbered_from 1 ys))
      (apart_from_sorted nat_keys (map (λ (piece : ℕ × Y). piece.0) (numbered_from 1 ys)) (numbered_strict 1 ys))

  pub sequence : (t : SequencedType) (tlid : ℕ) → has_repeat nat_cmp (rtsqs t tlid (packed c)) ≡ false
  sequence sequenced.Two tlid = in_group two_tlid packed_twos two_own (λ xs. has_repeat nat_cmp (map two_rtsq xs) ≡ false) refl
      (λ e. no_repeat two_rtsq (λ (piece : ℕ × List _). record { tlid = e.0; rtsq = piece.0; points = piece.1 }) (λ piece. refl)
      (in_pieces 10 (inner_points e.1.points))) _ (twos c is) tlid
  sequence sequenced.Four tlid = in_group four_tlid packed_fours four_own (λ xs. has_repeat nat_cmp (map four_rtsq xs) ≡ false) refl
      (λ e. no_repeat four_rtsq (λ (piece : ℕ × List ℕ). record { tlid = e.0; rtsq = piece.0; feats = piece.1 }) (λ piece. refl)
      (in_pieces 5 e.1.feats)) _ (fours c is) tlid
  sequence sequenced.Six tlid = in_group six_tlid packed_sixes six_own (λ xs. has_repeat nat_cmp (map six_rtsq xs) ≡ false) refl
      (λ e. no_repeat six_rtsq (λ (piece : ℕ × Ranges). record { tlid = e.0; rtsq = piece.0; ranges = piece.1 })
      (λ piece. refl) e.1.ranges) _ (sixes c is) tlid
