-- Sameness is an equivalence: the identity carries, and so do inverses and compositions of renamings that carry.
use Rattle.county_chart.proofs.Common.{AllByRecursion, AllContained, AllKeysContained, ArePaired, AreSame, Bool, Carries, Chain, County, Fields8, IsApart, IsClosed, IsCounty, IsKeyOrder, IsPermutation, IsPermutation-map, IsPermutation-sym, IsPermutation-trans, IsTrue, Known, List, None, Option, Ordering, PolygonKey, Renumbering, Some, [], all_filter, all_known, all_left, all_map, all_pieces, all_right, all_unmap, all_weaker, ap, apart-distinct, apart_from_sorted, carried_chain, carried_landmark, carried_link, carried_name, carried_polygon, chain_nodes, chain_polygons, composed, contains, exactly_one, false, feats, filter, has_repeat, has_repeat-apart, identity, image, inverse, is_named, key_cmp, key_keys, key_on, key_under, known-distinct, lands, link_key, lt-ltb, ltb-true, map, map-id, map-map, map_agree_all, map_itself, nat_cmp, nat_keys, nat_lt, nodes, nodes_along, option_map, option_to_list, polygon_keys, refl, renumbered, renumbered_polygon, renumbered_side, rules, same_or_not, subst, swapped, sym, then, times, tlids, to_itself, true, turned-turned, turned_if, turns, ℕ, ◌∙◌, ◌∷◌, ◌≡◌}
use Rattle.ordered_lists.proofs.ByKey.Keys.{apart-filter, apart-permutation, contains-filter, filter_all, followed, has_repeat-images, image-back, image-followed, image-known, image-no, image-to_itself, image-yes, images-lefts, joined-followed, known-permutation, known-permutation_to, lefts, lefts-followed, lefts-swapped, lefts-to_itself, rights, rights-followed, rights-swapped, rights-to_itself, times-images}

-- renaming and turning a chain commute
pub renumbered-turned_if : (r : Renumbering) (b : Bool) (c : Chain) → renumbered r (turned_if b c) ≡ turned_if b (renumbered r c)
renumbered-turned_if r true c = refl
renumbered-turned_if r false c = refl

pub turned_if-twice : (a b : Bool) (c : Chain) → turned_if b (turned_if a c) ≡ turned_if (exactly_one a b) c
turned_if-twice true true c = turned-turned c
turned_if-twice true false c = refl
turned_if-twice false true c = refl
turned_if-twice false false c = refl

-- a renaming that changes nothing
abbrev pub nothing : Renumbering
nothing = record { chains = []; names = []; polygons = []; lands = []; nodes = []; turned = [] }

renumbered-nothing_side : (cenid : List ℕ) (polyid : Option ℕ)
    → renumbered_polygon nothing cenid polyid ≡ record { cenid = cenid; polyid = polyid }
renumbered-nothing_side cenid None = refl
renumbered-nothing_side cenid (Some polyid) = refl

option_map-itself : (o : Option ℕ) → option_map (λ n. n) o ≡ o
option_map-itself None = refl
option_map-itself (Some n) = refl

pub renumbered-nothing : (c : Chain) → renumbered nothing c ≡ c
renumbered-nothing c = search (rules, map-id, option_map-itself, renumbered-nothing_side)

-- r and then q act as p on the numbers of the county a
pub record Follows (q r p : Renumbering) (a : County) : Type 0 where
  pub chains : (n : ℕ) → Known nat_cmp (tlids a) n → image nat_cmp q.chains (image nat_cmp r.chains n) ≡ image nat_cmp p.chains n
  pub names : (n : ℕ) → Known nat_cmp (feats a) n → image nat_cmp q.names (image nat_cmp r.names n) ≡ image nat_cmp p.names n
  pub polygons : (k : PolygonKey) → Known key_cmp (polygon_keys a) k
      → image key_cmp q.polygons (image key_cmp r.polygons k) ≡ image key_cmp p.polygons k
  pub lands : (n : ℕ) → Known nat_cmp (lands a) n → image nat_cmp q.lands (image nat_cmp r.lands n) ≡ image nat_cmp p.lands n
  pub nodes : (n : ℕ) → Known nat_cmp (nodes a) n → image nat_cmp q.nodes (image nat_cmp r.nodes n) ≡ image nat_cmp p.nodes n
  pub turned : (n : ℕ) → Known nat_cmp (tlids a) n → exactly_one (turns r n) (turns q (image nat_cmp r.chains n)) ≡ turns p n

-- a chain whose numbers are the county's
pub record IsChainOf (a : County) (entry : ℕ × Chain) : Type 0 where
  pub tlid : Known nat_cmp (tlids a) entry.0
  pub names : AllByRecursion (Known nat_cmp (feats a)) entry.1.feats
  pub sides : AllByRecursion (Known key_cmp (polygon_keys a)) (chain_polygons entry.1)
  pub nodes : AllByRecursion (Known nat_cmp (nodes a)) (chain_nodes entry.1)

module _ (q r p : Renumbering) (a : County) (f : Follows q r p a) where
  follow_node : (o : Option ℕ) → AllByRecursion (Known nat_cmp (nodes a)) (option_to_list o)
      → option_map (image nat_cmp q.nodes) (option_map (image nat_cmp r.nodes) o) ≡ option_map (image nat_cmp p.nodes) o
  follow_node None h = refl
  follow_node (Some n) h = ap Some (f.nodes n h.0)

  follow_polygon : (cenid : List ℕ) (polyid : Option ℕ) → AllByRecursion (Known key_cmp (polygon_keys a)) (key_under cenid polyid)
      → renumbered_side q (renumbered_polygon r cenid polyid) ≡ renumbered_polygon p cenid polyid
  follow_polygon cenid None h = refl
  follow_polygon cenid (Some polyid) h = search rules

  pub follow_chain : (x : ℕ) (c : Chain) → IsChainOf a (x, c) → renumbered q (renumbered r c) ≡ renumbered p c
  follow_chain x c h = λ i. record c {
    feats = (map-map (image nat_cmp q.names) (image nat_cmp r.names) c.feats
        ∙ map_agree_all (λ n. image nat_cmp q.names (image nat_cmp r.names n)) (image nat_cmp p.names)
        (Known nat_cmp (feats a)) f.names c.feats h.names) i;
    start_node = follow_node c.start_node (all_left (Known nat_cmp (nodes a)) (option_to_list c.start_node)
        (option_to_list c.end_node) h.nodes) i;
    end_node = follow_node c.end_node (all_right (Known nat_cmp (nodes a)) (option_to_list c.start_node)
        (option_to_list c.end_node) h.nodes) i;
    left = follow_polygon c.left.cenid c.left.polyid (all_left (Known key_cmp (polygon_keys a)) (key_on c.left) (key_on c.right) h.sides) i;
    right = follow_polygon c.right.cenid c.right.polyid
        (all_right (Known key_cmp (polygon_keys a)) (key_on c.left) (key_on c.right) h.sides) i;
  }

  pub follow_entry : (entry : ℕ × Chain) → IsChainOf a entry → carried_chain q (carried_chain r entry) ≡ carried_chain p entry
  follow_entry entry h =
      let x : ℕ = entry.0 in
      let c : Chain = entry.1 in
      let y : ℕ = image nat_cmp r.chains x in
      let both : turned_if (turns q y) (turned_if (turns r x) c) ≡ turned_if (turns p x) c = turned_if-twice (turns r x) (turns q y) c
      ∙ ap (λ b. turned_if b c) (f.turned x h.tlid) in
      let one : renumbered q (turned_if (turns q y) (renumbered r (turned_if (turns r x) c))) ≡ turned_if (turns q y)
      (renumbered q (renumbered r (turned_if (turns r x) c))) = search (rules, renumbered-turned_if) in
      let two : renumbered q (renumbered r (turned_if (turns r x) c)) ≡ turned_if (turns r x) (renumbered q (renumbered r c)) =
      search (rules, renumbered-turned_if) in
      let all : renumbered q (turned_if (turns q y) (renumbered r (turned_if (turns r x) c))) ≡ renumbered p (turned_if (turns p x) c) =
      one ∙ ap (turned_if (turns q y)) two
      ∙ ap (λ d. turned_if (turns q y) (turned_if (turns r x) d)) (follow_chain x c h)
      ∙ turned_if-twice (turns r x) (turns q y) (renumbered p c)
      ∙ ap (λ b. turned_if b (renumbered p c)) (f.turned x h.tlid)
      ∙ sym (renumbered-turned_if p (turns p x) c) in
      λ i. (f.chains x h.tlid i, all i)

-- a number on the left of entries is known among those numbers
pub keys_known : {K V : Type 0} {cmp : K → K → Ordering} → IsKeyOrder cmp → (es : List (K × V))
    → AllByRecursion (λ e. Known cmp (map (λ d. d.0) es) e.0) es
keys_known {K} {V} {cmp} o es =
    all_unmap (Known cmp (map (λ d. d.0) es)) (λ (e : K × V). e.0) es
    (all_known o (Known cmp (map (λ d. d.0) es)) (map (λ d. d.0) es) (λ k l. l))

all_chains : (a : County) (es : List (ℕ × Chain)) → AllByRecursion (λ e. Known nat_cmp (tlids a) e.0) es
    → AllByRecursion (λ e. AllContained (feats a) e.1.feats) es
    → AllByRecursion (λ e. AllKeysContained (polygon_keys a) (chain_polygons e.1)) es
    → AllByRecursion (λ e. AllByRecursion (Known nat_cmp (nodes a)) (chain_nodes e.1)) es → AllByRecursion (IsChainOf a) es
all_chains a [] t n s d = tt
all_chains a (e ∷ es) t n s d = search (rules, all_weaker, ltb-true, all_chains a es t.1 n.1 s.1 d.1)

-- the chains of a county have its numbers
pub chains_are : (a : County) → IsClosed a → AllByRecursion (IsChainOf a) a.chains
chains_are a h = all_chains a a.chains (keys_known nat_keys a.chains) h.names h.sides
    (all_pieces (Known nat_cmp (nodes a)) (λ e. chain_nodes e.1) a.chains
    (all_known nat_keys (Known nat_cmp (nodes a)) (nodes_along a.chains) (λ k l. known-distinct nat_keys (nodes_along a.chains) k l)))

-- a link whose polygon and landmark are the county's
pub record IsLinkOf (a : County) (link : Fields8) : Type 0 where
  pub land : Known nat_cmp (lands a) link.land
  pub polygon : Known key_cmp (polygon_keys a) (link_key link)

all_links : (a : County) (ls : List Fields8) → AllByRecursion (λ l. IsTrue (contains nat_cmp l.land (lands a))) ls
    → AllByRecursion (λ l. IsTrue (contains key_cmp (link_key l) (polygon_keys a))) ls → AllByRecursion (IsLinkOf a) ls
all_links a [] g h = tt
all_links a (l ∷ ls) g h = search (rules, ltb-true, all_links a ls g.1 h.1)

pub links_are : (a : County) → IsClosed a → AllByRecursion (IsLinkOf a) a.links
links_are a h = all_links a a.links h.link_lands h.link_polygons

-- each part of a carried by r and then by q is carried by p
pub record PartsFollow (q r p : Renumbering) (a : County) : Type 0 where
  pub chains : map (carried_chain q) (map (carried_chain r) a.chains) ≡ map (carried_chain p) a.chains
  pub names : map (carried_name q) (map (carried_name r) a.names) ≡ map (carried_name p) a.names
  pub polygons : map (carried_polygon q) (map (carried_polygon r) a.polygons) ≡ map (carried_polygon p) a.polygons
  pub landmarks : map (carried_landmark q) (map (carried_landmark r) a.landmarks) ≡ map (carried_landmark p) a.landmarks
  pub links : map (carried_link q) (map (carried_link r) a.links) ≡ map (carried_link p) a.links

pub parts_follow : (q r p : Renumbering) (a : County) → IsClosed a → Follows q r p a → PartsFollow q r p a
parts_follow q r p a closed f = record {
  chains = search (rules, map-map, map_agree_all, follow_entry, chains_are);
  names = map-map (carried_name q) (carried_name r) a.names
      ∙ map_agree_all (λ e. carried_name q (carried_name r e)) (carried_name p) (λ e. Known nat_cmp (feats a) e.0)
      (λ e h i. (f.names e.0 h i, e.1)) a.names (keys_known nat_keys a.names);
  polygons = map-map (carried_polygon q) (carried_polygon r) a.polygons
      ∙ map_agree_all (λ e. carried_polygon q (carried_polygon r e)) (carried_polygon p) (λ e. Known key_cmp (polygon_keys a) e.0)
      (λ e h i. (f.polygons e.0 h i, e.1)) a.polygons (keys_known key_keys a.polygons);
  landmarks = map-map (carried_landmark q) (carried_landmark r) a.landmarks
      ∙ map_agree_all (λ e. carried_landmark q (carried_landmark r e)) (carried_landmark p) (λ e. Known nat_cmp (lands a) e.0)
      (λ e h i. (f.lands e.0 h i, e.1)) a.landmarks (keys_known nat_keys a.landmarks);
  links = map-map (carried_link q) (carried_link r) a.links
      ∙ map_agree_all (λ l. carried_link q (carried_link r l)) (carried_link p) (IsLinkOf a)
      (λ l h i. record l {
        cenid = (f.polygons (link_key l) h.polygon i).0;
        polyid = (f.polygons (link_key l) h.polygon i).1;
        land =
            f.lands l.land h.land i;
      }) a.links (links_are a closed);
}

-- a renaming that changes nothing leaves each part as it is
pub carried-nothing : (e : ℕ × Chain) → carried_chain nothing e ≡ e
carried-nothing e = λ i. (e.0, renumbered-nothing e.1 i)

back : {X : Type 0} (f g : X → X) (xs ys : List X) → map g (map f xs) ≡ xs → IsPermutation (map f xs) ys → IsPermutation (map g ys) xs
back f g xs ys e h = IsPermutation-sym xs (map g ys) (subst (λ zs. IsPermutation zs (map g ys)) e (IsPermutation-map g (map f xs) ys h))

forth : {X : Type 0} (f g h : X → X) (xs ys zs : List X) → map g (map f xs) ≡ map h xs → IsPermutation (map f xs) ys
    → IsPermutation (map g ys) zs → IsPermutation (map h xs) zs
forth f g h xs ys zs e m n =
    IsPermutation-trans (map h xs) (map g ys) zs (subst (λ ws. IsPermutation ws (map g ys)) e (IsPermutation-map g (map f xs) ys m)) n

cenids-itself : (ks : List PolygonKey) → AllByRecursion (λ p. p.0.0 ≡ p.1.0) (to_itself ks)
cenids-itself [] = tt
cenids-itself (k ∷ ks) = (refl, cenids-itself ks)

-- reflexive: the identity carries a county onto itself
pub identity_carries : (a : County) → Carries (identity a) a a
identity_carries a = search (rules, nat_keys, key_keys, cenids-itself, image-to_itself, lefts-to_itself, rights-to_itself, map_itself)

-- symmetric: the inverse carries back
pub paired_back : {K : Type 0} {cmp : K → K → Ordering} → IsKeyOrder cmp → (ps : List (K × K)) (olds news : List K) → ArePaired ps olds news
    → ArePaired (swapped ps) news olds
paired_back o ps olds news h = search (rules, lefts-swapped, rights-swapped)

cenids_back : (ps : List (PolygonKey × PolygonKey)) → AllByRecursion (λ p. p.0.0 ≡ p.1.0) ps
    → AllByRecursion (λ p. p.0.0 ≡ p.1.0) (swapped ps)
cenids_back [] h = tt
cenids_back (p ∷ ps) h = (sym h.0, cenids_back ps h.1)

-- if pairs name all old and all new numbers, images go there and back
pub there_and_back : {K : Type 0} {cmp : K → K → Ordering} (o : IsKeyOrder cmp) (ps : List (K × K)) (olds news : List K)
    → ArePaired ps olds news → IsApart cmp news → (k : K) → Known cmp olds k → image cmp (swapped ps) (image cmp ps k) ≡ k
there_and_back o ps olds news h a k l = search (rules, image-back, apart-permutation, known-permutation)

exactly_one-both : (b : Bool) → exactly_one b b ≡ false
exactly_one-both true = refl
exactly_one-both false = refl

module _ (r : Renumbering) (a b : County) (ca : IsCounty a) (cb : IsCounty b) (h : Carries r a b) where
  named_turned : AllByRecursion (Known nat_cmp (lefts r.chains)) r.turned
  named_turned = search (rules, all_weaker, known-permutation, nat_keys, ltb-true)

  apart_chains : IsApart nat_cmp (rights r.chains)
  apart_chains = search (rules, apart-permutation, nat_keys, apart_from_sorted)

  all_named : filter (is_named nat_cmp r.chains) r.turned ≡ r.turned
  all_named = search (rules, filter_all, all_weaker, lt-ltb, known-permutation, nat_keys, ltb-true)

  turned_back : (n : ℕ) → Known nat_cmp (tlids a) n → turns (inverse r) (image nat_cmp r.chains n) ≡ turns r n
  turned_back n k =
      ap (λ ts. contains nat_cmp (image nat_cmp r.chains n) (map (image nat_cmp r.chains) ts)) all_named
      ∙ ap (nat_lt 0) (times-images nat_keys r.chains n apart_chains
      (known-permutation nat_keys n (lefts r.chains) (tlids a) h.numbers.chains.left k) r.turned named_turned)

  pub inverse_follows : Follows (inverse r) r nothing a
  inverse_follows = record {
    chains = search (rules, there_and_back, nat_keys, apart_from_sorted);
    names = there_and_back nat_keys r.names (feats a) (feats b) h.numbers.names (apart_from_sorted nat_keys (feats b) cb.ascending.names);
    polygons = search (rules, there_and_back, key_keys, apart_from_sorted);
    lands = there_and_back nat_keys r.lands (lands a) (lands b) h.numbers.lands
        (apart_from_sorted nat_keys (lands b) cb.ascending.landmarks);
    nodes = there_and_back nat_keys r.nodes (nodes a) (nodes b) h.numbers.nodes (apart-distinct nat_keys (nodes_along b.chains));
    turned = λ n k. ap (exactly_one (turns r n)) (turned_back n k) ∙ exactly_one-both (turns r n);
  }

  turned_known_back : AllByRecursion (λ t. IsTrue (contains nat_cmp t (tlids b)))
      (map (image nat_cmp r.chains) (filter (is_named nat_cmp r.chains) r.turned))
  turned_known_back = subst (λ ts. AllByRecursion (λ t. IsTrue (contains nat_cmp t (tlids b))) (map (image nat_cmp r.chains) ts))
      (sym all_named)
      (all_map (λ t. IsTrue (contains nat_cmp t (tlids b))) (image nat_cmp r.chains) r.turned
      (all_weaker (Known nat_cmp (lefts r.chains)) (λ t. IsTrue (contains nat_cmp (image nat_cmp r.chains t) (tlids b)))
      (λ t k. lt-ltb 0 (times nat_cmp (image nat_cmp r.chains t) (tlids b))
      (known-permutation_to nat_keys (image nat_cmp r.chains t) (rights r.chains) (tlids b) h.numbers.chains.right
      (image-known nat_keys r.chains t k)))
      r.turned named_turned))

  pub inverse_carries : Carries (inverse r) b a
  inverse_carries =
      let f : PartsFollow (inverse r) r nothing a = parts_follow (inverse r) r nothing a ca.closed inverse_follows in
      record {
        numbers = record {
          chains = paired_back nat_keys r.chains (tlids a) (tlids b) h.numbers.chains;
          names = paired_back nat_keys r.names (feats a) (feats b) h.numbers.names;
          polygons = paired_back key_keys r.polygons (polygon_keys a) (polygon_keys b) h.numbers.polygons;
          lands = paired_back nat_keys r.lands (lands a) (lands b) h.numbers.lands;
          nodes = paired_back nat_keys r.nodes (nodes a) (nodes b) h.numbers.nodes;
          cenids = cenids_back r.polygons h.numbers.cenids;
          turned_known = turned_known_back;
          turned_once = ap (λ ts. has_repeat nat_cmp (map (image nat_cmp r.chains) ts)) all_named
              ∙ has_repeat-images nat_keys r.chains apart_chains r.turned named_turned ∙ h.numbers.turned_once;
        };
        chains = back (carried_chain r) (carried_chain (inverse r)) a.chains b.chains (f.chains
            ∙ map_itself (carried_chain nothing) carried-nothing a.chains) h.chains;
        names = back (carried_name r) (carried_name (inverse r)) a.names b.names (f.names ∙ map-id a.names) h.names;
        polygons = back (carried_polygon r) (carried_polygon (inverse r)) a.polygons b.polygons (f.polygons ∙ map-id a.polygons) h.polygons;
        landmarks = back (carried_landmark r) (carried_landmark (inverse r)) a.landmarks b.landmarks (f.landmarks
            ∙ map-id a.landmarks) h.landmarks;
        links = back (carried_link r) (carried_link (inverse r)) a.links b.links (f.links ∙ map-id a.links) h.links;
      }

-- transitive: two renamings, one after the other, carry as one
pub paired_on : {K : Type 0} {cmp : K → K → Ordering} (o : IsKeyOrder cmp) (ps qs : List (K × K)) (olds mids news : List K)
    → IsApart cmp mids → ArePaired ps olds mids → ArePaired qs mids news → ArePaired (composed cmp ps qs) olds news
paired_on {K} {cmp} o ps qs olds mids news a g h =
    let next : (k : K) → Known cmp (rights ps) k → Known cmp (lefts qs) k = search (rules, known-permutation, known-permutation_to) in
    let e : composed cmp ps qs ≡ followed o ps qs = joined-followed o ps qs next in
    let middle : IsPermutation (rights ps) (lefts qs) =
    IsPermutation-trans (rights ps) mids (lefts qs) g.right (IsPermutation-sym (lefts qs) mids h.left) in
    let images : IsPermutation (map (image cmp qs) (rights ps)) (rights qs) =
    subst (λ ys. IsPermutation (map (image cmp qs) (rights ps)) ys) (images-lefts o qs (apart-permutation o (lefts qs) mids h.left a))
    (IsPermutation-map (image cmp qs) (rights ps) (lefts qs) middle) in
    record {
      left = subst (λ l. IsPermutation l olds) (sym (ap lefts e ∙ lefts-followed o ps qs)) g.left;
      right = subst (λ l. IsPermutation l news) (sym (ap rights e ∙ rights-followed o ps qs))
          (IsPermutation-trans (map (image cmp qs) (rights ps)) (rights qs) news images h.right);
    }

-- and so do the images
pub images_on : {K : Type 0} {cmp : K → K → Ordering} (o : IsKeyOrder cmp) (ps qs : List (K × K)) (olds mids news : List K)
    → ArePaired ps olds mids → ArePaired qs mids news → (k : K) → Known cmp olds k
    → image cmp qs (image cmp ps k) ≡ image cmp (composed cmp ps qs) k
images_on {K} {cmp} o ps qs olds mids news g h k l =
    search (rules, known-permutation, known-permutation_to, joined-followed, image-followed)

pub image-keeps : (qs : List (PolygonKey × PolygonKey)) → AllByRecursion (λ p. p.0.0 ≡ p.1.0) qs → (k : PolygonKey)
    → (image key_cmp qs k).0 ≡ k.0
image-keeps [] h k = refl
image-keeps (q ∷ qs) h k = search (rules, same_or_not, key_keys, image-yes, image-no, image-keeps qs h.1 k)

cenids_on : (ps qs : List (PolygonKey × PolygonKey)) → AllByRecursion (λ p. p.0.0 ≡ p.1.0) ps → AllByRecursion (λ p. p.0.0 ≡ p.1.0) qs
    → AllByRecursion (λ p. p.0.0 ≡ p.1.0) (followed key_keys ps qs)
cenids_on [] qs g h = tt
cenids_on (p ∷ ps) qs g h = (g.0 ∙ sym (image-keeps qs h p.1), cenids_on ps qs g.1 h)

module _ (r q : Renumbering) (a b c : County) (ca : IsCounty a) (cb : IsCounty b) (h : Carries r a b) (k : Carries q b c) where
  g_turned : ℕ → Bool
  g_turned t = exactly_one (turns r t) (turns q (image nat_cmp r.chains t))

  next_named : (n : ℕ) → Known nat_cmp (rights r.chains) n → Known nat_cmp (lefts q.chains) n
  next_named n l = search (rules, known-permutation, nat_keys, known-permutation_to)

  turned_of_then : (then r q).turned ≡ filter g_turned (lefts r.chains)
  unfolding g_turned
  turned_of_then = ap (filter g_turned) (ap lefts (joined-followed nat_keys r.chains q.chains next_named)
      ∙ lefts-followed nat_keys r.chains q.chains)

  turned_on : (n : ℕ) → Known nat_cmp (tlids a) n → exactly_one (turns r n) (turns q (image nat_cmp r.chains n)) ≡ turns (then r q) n
  unfolding g_turned
  turned_on n l = sym (ap (contains nat_cmp n) turned_of_then
      ∙ contains-filter nat_keys g_turned n (lefts r.chains)
      (known-permutation nat_keys n (lefts r.chains) (tlids a) h.numbers.chains.left l))

  pub then_follows : Follows q r (then r q) a
  then_follows = record {
    chains = images_on nat_keys r.chains q.chains (tlids a) (tlids b) (tlids c) h.numbers.chains k.numbers.chains;
    names = images_on nat_keys r.names q.names (feats a) (feats b) (feats c) h.numbers.names k.numbers.names;
    polygons = search (rules, images_on, key_keys);
    lands = images_on nat_keys r.lands q.lands (lands a) (lands b) (lands c) h.numbers.lands k.numbers.lands;
    nodes = images_on nat_keys r.nodes q.nodes (nodes a) (nodes b) (nodes c) h.numbers.nodes k.numbers.nodes;
    turned = turned_on;
  }

  key_named : (n : PolygonKey) → Known key_cmp (rights r.polygons) n → Known key_cmp (lefts q.polygons) n
  key_named n l = search (rules, known-permutation, key_keys, known-permutation_to)

  pub then_carries : Carries (then r q) a c
  then_carries =
      let f : PartsFollow q r (then r q) a = parts_follow q r (then r q) a ca.closed then_follows in
      record {
        numbers = record {
          chains = search (rules, paired_on, nat_keys, apart_from_sorted);
          names = search (rules, paired_on, nat_keys, apart_from_sorted);
          polygons = search (rules, paired_on, key_keys, apart_from_sorted);
          lands = paired_on nat_keys r.lands q.lands (lands a) (lands b) (lands c)
              (apart_from_sorted nat_keys (lands b) cb.ascending.landmarks) h.numbers.lands k.numbers.lands;
          nodes = paired_on nat_keys r.nodes q.nodes (nodes a) (nodes b) (nodes c)
              (apart-distinct nat_keys (nodes_along b.chains)) h.numbers.nodes k.numbers.nodes;
          cenids = subst (AllByRecursion (λ p. p.0.0 ≡ p.1.0)) (sym (joined-followed key_keys r.polygons q.polygons key_named))
              (cenids_on r.polygons q.polygons h.numbers.cenids k.numbers.cenids);
          turned_known = subst (AllByRecursion (λ t. IsTrue (contains nat_cmp t (tlids a)))) (sym turned_of_then)
              (all_filter (λ t. IsTrue (contains nat_cmp t (tlids a))) g_turned (lefts r.chains)
              (all_known nat_keys (λ t. IsTrue (contains nat_cmp t (tlids a))) (lefts r.chains)
              (λ t l. lt-ltb 0 (times nat_cmp t (tlids a))
              (known-permutation_to nat_keys t (lefts r.chains) (tlids a) h.numbers.chains.left l))));
          turned_once = ap (has_repeat nat_cmp) turned_of_then
              ∙ has_repeat-apart nat_keys (filter g_turned (lefts r.chains))
              (apart-filter nat_keys g_turned (lefts r.chains)
              (apart-permutation nat_keys (lefts r.chains) (tlids a) h.numbers.chains.left
              (apart_from_sorted nat_keys (tlids a) ca.ascending.chains)));
        };
        chains = forth (carried_chain r) (carried_chain q) (carried_chain (then r q)) a.chains b.chains c.chains f.chains h.chains k.chains;
        names = forth (carried_name r) (carried_name q) (carried_name (then r q)) a.names b.names c.names f.names h.names k.names;
        polygons = search (rules, forth);
        landmarks = search (rules, forth);
        links = forth (carried_link r) (carried_link q) (carried_link (then r q)) a.links b.links c.links f.links h.links k.links;
      }

-- the three laws of sameness
pub same-reflexive : (a : County) → AreSame a a
same-reflexive a = record { by = identity a; carries = identity_carries a }

pub same-symmetric : (a b : County) → IsCounty a → IsCounty b → AreSame a b → AreSame b a
same-symmetric a b ca cb s = record { by = inverse s.by; carries = inverse_carries s.by a b ca cb s.carries }

pub same-transitive : (a b c : County) → IsCounty a → IsCounty b → AreSame a b → AreSame b c → AreSame a c
same-transitive a b c ca cb s t = record { by = then s.by t.by; carries = then_carries s.by t.by a b c ca cb s.carries t.carries }

-- the three laws, for the function that states them
pub ruleset laws_of_sameness = (same-reflexive, same-symmetric, same-transitive)
