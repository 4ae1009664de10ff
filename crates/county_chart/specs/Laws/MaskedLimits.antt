-- Under a mask a county is within the same limits: blanks fit wherever a text does, and there are as many records of each type.
use Rattle.std.proofs.Common.{Bool, List, [], cond, false, flat_map, length, length-append, map, refl, rules, subst, sym, true, ℕ, ◌∙◌, ◌∷◌, ◌≡◌, ◌≤◌}
use Rattle.std.proofs.lemmas.List.{length-map}
use Rattle.std.specs.List.{AllByRecursion}
use Rattle.tl_layout.specs.Bytes.{IsText, blanks_if}
use Rattle.tl_layout.specs.Laws.ByteLaws.{blanks_are_text}
use Rattle.tl_layout.specs.Masked.{masked_body_1, masked_body_7, masked_body_i}
use Rattle.tl_layout.specs.Numbers.{IsNumber}
use Rattle.tl_layout.specs.RecordTypes.{FitsFields}
use Rattle.tl_layout.specs.Type1Groups.{FitsBody1}
use Rattle.tl_layout.specs.declared.mask.Mask.{Mask}
use Rattle.tl_layout.specs.declared.type1.fields.Body1Fields.{Body1Fields}
use Rattle.tl_layout.specs.declared.type7.Body7.{Body7}
use Rattle.tl_layout.specs.declared.type_i.BodyI.{BodyI}
use Rattle.tl_shape.specs.Chain.{Chain}
use Rattle.county_chart.specs.Limits.{ContentsFit, FitsChain, FitsLandmark, FitsLinkContent, FitsNumbers, IsWithinLimits, ListsFit, NumbersFit}
use Rattle.county_chart.specs.Packing.{packed, packed_by_type, packed_fours, packed_i, packed_one, packed_sevens, packed_sixes, packed_twos}
use Rattle.county_chart.specs.MaskedCounty.{masked, masked_bodies, masked_chain}
use Rattle.county_chart.specs.Laws.MaskedCounties.{all_chains_masked, all_landmarks_masked, length_masked_bodies}
use Rattle.county_chart.specs.Laws.TypeCounts.{HasAtMost, HasWithin, by_type_within, packed_within}
use Rattle.county_chart.specs.BodyOrder.{landmark_body_cmp}
use Rattle.county_chart.specs.County.{County}
use Rattle.county_chart.specs.Laws.PackedTypes.{by_type_of}
use Rattle.ordered_lists.specs.Orders.{in_order}
use Rattle.ordered_lists.proofs.ByKey.Numbers.{all-in_order}
use Rattle.ordered_lists.proofs.Lists.Elements.{all_map, all_weaker, flat_map-map}

-- blanks fit wherever a text does
hidden_fits : (hidden : Bool) (width : ℕ) (text : List ℕ) → IsText width text → IsText width (blanks_if hidden width text)
hidden_fits true width text t = blanks_are_text width
hidden_fits false width text t = t

module _ (mask : Mask) where
  body_1_fits : (body : Body1Fields) → FitsBody1 body → FitsBody1 (masked_body_1 mask body)
  body_1_fits body f = search (rules, hidden_fits)

  -- FILE, LAND, SOURCE, and the fields after it
  body_7_fits : (body : Body7) → FitsLandmark body → FitsLandmark (masked_body_7 mask body)
  unfolding FitsFields
  body_7_fits body f = (f.0, (f.1.0, (hidden_fits mask.sources 1 body.source f.1.1.0, f.1.1.1)))

  -- FILE, TLID, the nodes, the sides, and then SOURCE, FTSEG, RS_I1, RS_I2, RS_I3
  body_i_fits : (body : BodyI) (left right : List ℕ) → FitsLinkContent body left right
      → FitsLinkContent (masked_body_i mask body) left right
  unfolding FitsFields
  body_i_fits body left right f = search (rules, hidden_fits)

  chain_fits : (c : Chain) → FitsChain c → FitsChain (masked_chain mask c)
  chain_fits c f = search (rules, body_1_fits, body_i_fits)

  hidden_landmark_fits : (hidden : Bool) (bodies : List Body7) → AllByRecursion FitsLandmark bodies
      → AllByRecursion FitsLandmark (cond hidden (in_order landmark_body_cmp (map (masked_body_7 mask) bodies)) bodies)
  hidden_landmark_fits true bodies a = search (rules, all-in_order, all_map, all_weaker, body_7_fits)
  hidden_landmark_fits false bodies a = a

  contents_masked : (county : County) → ContentsFit county → ContentsFit (masked mask county)
  contents_masked county f = record {
    chains = all_chains_masked mask (λ entry. FitsChain entry.1) county.chains
        (all_weaker (λ entry. FitsChain entry.1) (λ entry. FitsChain (masked_chain mask entry.1)) (λ entry. chain_fits entry.1)
        county.chains f.chains);
    names = f.names;
    cenids = f.cenids;
    polygons = f.polygons;
    landmarks = all_landmarks_masked mask (λ entry. AllByRecursion FitsLandmark entry.1) (λ entry. AllByRecursion FitsLandmark entry.1)
        (λ entry. hidden_landmark_fits mask.sources entry.1) county.landmarks f.landmarks;
    links = f.links;
  }

  numbers_masked : (county : County) → NumbersFit county → NumbersFit (masked mask county)
  numbers_masked county f = record {
    chains = all_chains_masked mask (λ entry. IsNumber 10 entry.0) county.chains f.chains;
    named = all_chains_masked mask (λ entry. FitsNumbers entry.1) county.chains
        (all_weaker (λ entry. FitsNumbers entry.1) (λ entry. FitsNumbers (masked_chain mask entry.1))
        (λ entry n. record {
          feats = n.feats;
          start_node = n.start_node;
          end_node = n.end_node;
          left = n.left;
          right = n.right;
        }) county.chains f.named);
    names = f.names;
    polygons = f.polygons;
    landmarks = all_landmarks_masked mask (λ entry. IsNumber 10 entry.0) (λ entry. IsNumber 10 entry.0) (λ entry n. n)
        county.landmarks f.landmarks;
    link_polygons = f.link_polygons;
    link_lands = f.link_lands;
  }

  abbrev mask_entry : ℕ × Chain → ℕ × Chain
  mask_entry entry = (entry.0, masked_chain mask entry.1)

  -- there are as many contents of landmarks
  sevens_masked : (landmarks : List (ℕ × List Body7))
      → length (flat_map packed_sevens (map (λ entry. (entry.0, masked_bodies mask entry.1)) landmarks)) ≡ length
      (flat_map packed_sevens landmarks)
  sevens_masked [] = refl
  sevens_masked (entry ∷ entries) = search (rules, length-append, length-map, length_masked_bodies, sevens_masked entries)

  -- there are no more records of any type
  pub counts_masked : (limits : ℕ → ℕ) (county : County) → HasWithin limits (packed_by_type county)
      → HasWithin limits (packed_by_type (masked mask county))
  counts_masked limits county few =
      let as_many : length (map mask_entry county.chains) ≡ length county.chains = length-map county.chains mask_entry in
      record {
        of_type_1 = subst (λ n. n ≤ limits 49) (sym (length-map (map mask_entry county.chains) packed_one ∙ as_many
            ∙ sym (length-map county.chains packed_one))) few.of_type_1;
        of_type_2 = subst (λ rs. length rs ≤ limits 50) (sym (flat_map-map packed_twos mask_entry county.chains)) few.of_type_2;
        of_type_4 = subst (λ rs. length rs ≤ limits 52) (sym (flat_map-map packed_fours mask_entry county.chains)) few.of_type_4;
        of_type_5 = few.of_type_5;
        of_type_6 = subst (λ rs. length rs ≤ limits 54) (sym (flat_map-map packed_sixes mask_entry county.chains)) few.of_type_6;
        of_type_7 = subst (λ n. n ≤ limits 55) (sym (sevens_masked county.landmarks)) few.of_type_7;
        of_type_8 = few.of_type_8;
        of_type_i = subst (λ n. n ≤ limits 73) (sym (length-map (map mask_entry county.chains) packed_i ∙ as_many
            ∙ sym (length-map county.chains packed_i))) few.of_type_i;
        of_type_p = few.of_type_p;
      }

  -- a county under a mask is within the same limits
  pub masked_within_limits : (limit : ℕ) (county : County) → IsWithinLimits limit county → IsWithinLimits limit (masked mask county)
  masked_within_limits limit county w = record {
    contents = contents_masked county w.contents;
    numbers = numbers_masked county w.numbers;
    lists = all_chains_masked mask (λ entry. ListsFit entry.1) county.chains
        (all_weaker (λ entry. ListsFit entry.1) (λ entry. ListsFit (masked_chain mask entry.1))
        (λ entry r. record { points = r.points; feats = r.feats; ranges = r.ranges }) county.chains w.lists);
    counts = packed_within limit (masked mask county)
        (counts_masked (λ _. limit) county
        (subst (HasAtMost limit) (by_type_of (packed_by_type county)) (by_type_within limit (packed county) w.counts)));
  }
