-- Records of type 4 in two choices of a county, and of the county whose chains have only wanted names, compare alike.
use Rattle.tl_number.proofs.Common.{AllByRecursion, Among, Bool, Chain, Equal, FieldsOf, Four, Greater, IfSome, Known, Less, List, None, Option, Ordering, Some, Type4, [], all_append, all_at, all_in_pieces, all_known, all_unmap, all_weaker, among_known, ap, ap₂, arith, chain_feats, cmp-append, drop, false, feats, filter, filter_all, fours_fit, groups_cmp, groups_from, in_pieces, is_open, length, length-append, length-map, map, min, nat_cmp, nat_cmp_is, nat_cmp_total, nat_keys, numbered_from, option_map, ordering_then, pieces, refl, rights-numbered_from, slice_cmp, slice_get, slice_get-map, subst, suc, sym, table_4, take, tied_itself, true, type_4_by_chain, unwrap_or, wanted_feats, zero, ℕ, ◌++◌, ◌<◌, ◌∙◌, ◌∷◌, ◌≡◌, ◌≢◌, ◌≤◌}
use Rattle.std.proofs.lemmas.List.{length-drop, length-take, take-append-drop}
use Rattle.tl_number.proofs.Ties.Columns.{place_number, places_alike, places_cmp, rows_cmp}
use Rattle.tl_number.proofs.Ties.KeyKinds.{chain_seen, name_kind, new_name, opened_in}
use Rattle.tl_number.proofs.Ties.Narrowed.{narrow_chain}
use Rattle.tl_number.proofs.Ties.NarrowedChoices.{is_wanted, narrow, numbered_narrow, there_narrow}
use Rattle.tl_number.proofs.Ties.ComparedChoices.{ComparedChoices, chains_at, choice, new_in, same_at}
use Rattle.tl_number.proofs.Ties.ListsAlike.{among_filtered}
use Rattle.tl_number.proofs.Ties.Ranks.{wanted_decide}
use Rattle.tl_number.proofs.Ties.SmallKeys.{AreWanted, four, fours, fours_made, wanted_pair}
use Rattle.tl_number.proofs.Ties.SmallRecords.{as_many_in, by_tlid, choices_decide, first_twice, groups_are, images_in_order, keyed, lengths, made_at, made_if, made_in, tlid_first, tlids_decide}

-- ---- records of one chain compare as the numbers of its names do

-- a last comparison that finds both equal decides nothing
then_none : (o : Ordering) → ordering_then o Equal ≡ o
then_none Less = refl
then_none Equal = refl
then_none Greater = refl

-- numbers in equally many places compare as lists do
places_order : (count : ℕ) (us vs : List ℕ) → length us ≡ length vs → length us ≤ count → places_cmp count (place_number us) (place_number vs) ≡ slice_cmp nat_cmp us vs
places_order zero [] [] e l = refl
places_order zero [] (v ∷ vs) e l = absurd (omega (arith, e))
places_order zero (u ∷ us) vs e l = absurd (omega (arith, l))
places_order (suc count) [] [] e l = ap (λ o. ordering_then o (places_cmp count (place_number []) (place_number []))) (tied_itself nat_cmp_total 0)
    ∙ places_order count [] [] refl (omega arith)
places_order (suc count) [] (v ∷ vs) e l = absurd (omega (arith, e))
places_order (suc count) (u ∷ us) [] e l = absurd (omega (arith, e))
places_order (suc count) (u ∷ us) (v ∷ vs) e l = ap (ordering_then (nat_cmp u v)) (places_order count us vs (omega (arith, e)) (omega (arith, l)))

module _ (tlid : ℕ) where
  -- two records with the same numbers
  record_order : (number : ℕ) (us vs : List ℕ) → length us ≡ length vs → length us ≤ 5
      → by_tlid fours (four tlid (number, us)) (four tlid (number, vs)) ≡ slice_cmp nat_cmp us vs
  record_order number us vs e l =
      (λ i. ordering_then (tied_itself nat_cmp_total tlid i) (ordering_then (tied_itself nat_cmp_total tlid i)
      (ordering_then (tied_itself nat_cmp_total number i) (then_none (places_cmp 5 (place_number us) (place_number vs)) i))))
      ∙ places_order 5 us vs e l

  pieces_order : (most number : ℕ) (us vs : List ℕ) → length us ≡ length vs → length us ≤ most
      → slice_cmp (by_tlid fours) (map (four tlid) (numbered_from number (pieces 5 most us))) (map (four tlid) (numbered_from number (pieces 5 most vs)))
      ≡ slice_cmp nat_cmp us vs
  pieces_order zero number [] [] e l = refl
  pieces_order zero number [] (v ∷ vs) e l = absurd (omega (arith, e))
  pieces_order zero number (u ∷ us) vs e l = absurd (omega (arith, l))
  pieces_order (suc most) number [] [] e l = refl
  pieces_order (suc most) number [] (v ∷ vs) e l = absurd (omega (arith, e))
  pieces_order (suc most) number (u ∷ us) [] e l = absurd (omega (arith, e))
  pieces_order (suc most) number (u ∷ us) (v ∷ vs) e l =
      let one : List ℕ = u ∷ us in
      let other : List ℕ = v ∷ vs in
      let first : length (take 5 one) ≡ length (take 5 other) = length-take 5 one ∙ ap (min 5) e ∙ sym (length-take 5 other) in
      ap₂ ordering_then (record_order number (take 5 one) (take 5 other) first (omega (arith, length-take 5 one)))
      (pieces_order most (suc number) (drop 5 one) (drop 5 other) (omega (arith, e, length-drop 5 one, length-drop 5 other))
      (omega (arith, l, length-drop 5 one)))
      ∙ sym (cmp-append nat_cmp (take 5 one) (take 5 other) (drop 5 one) (drop 5 other) first)
      ∙ ap₂ (slice_cmp nat_cmp) (take-append-drop 5 one) (take-append-drop 5 other)

  names_order : (us vs : List ℕ) → length us ≡ length vs
      → slice_cmp (by_tlid fours) (map (four tlid) (numbered_from 1 (in_pieces 5 us))) (map (four tlid) (numbered_from 1 (in_pieces 5 vs)))
      ≡ slice_cmp nat_cmp us vs
  names_order us vs e =
      ap (λ most. slice_cmp (by_tlid fours) (map (four tlid) (numbered_from 1 (in_pieces 5 us))) (map (four tlid) (numbered_from 1 (pieces 5 most vs)))) (sym e)
      ∙ pieces_order (length us) 1 us vs e (omega arith)

-- ---- two pairs of lists of records in groups by a key, which decides if it differs

module _ {X : Type 0} (cmp : X → X → Ordering) (key : X → ℕ) (by_key : (x y : X) → key x ≢ key y → cmp x y ≡ nat_cmp (key x) (key y)) where
  abbrev IsLater : ℕ → X → Type 0
  IsLater n x = n < key x

  greater_first : (n : ℕ) (xs : List X) (y : X) (ys : List X) → key y ≡ n → AllByRecursion (IsLater n) xs → 0 < length xs
      → slice_cmp cmp xs (y ∷ ys) ≡ Greater
  greater_first n [] y ys e later some = absurd (omega (arith, some))
  greater_first n (x ∷ xs) y ys e later some =
      let more = later.0 in
      ap (λ o. ordering_then o (slice_cmp cmp xs ys))
      (by_key x y (λ f. absurd (omega (arith, e, f, more))) ∙ sym (nat_cmp_is (key x) (key y) Greater (omega (arith, e, more))))

  less_first : (n : ℕ) (x : X) (xs ys : List X) → key x ≡ n → AllByRecursion (IsLater n) ys → 0 < length ys → slice_cmp cmp (x ∷ xs) ys ≡ Less
  less_first n x xs [] e later some = absurd (omega (arith, some))
  less_first n x xs (y ∷ ys) e later some =
      let more = later.0 in
      ap (λ o. ordering_then o (slice_cmp cmp xs ys))
      (by_key x y (λ f. absurd (omega (arith, e, f, more))) ∙ sym (nat_cmp_is (key x) (key y) Less (omega (arith, e, more))))

  -- Two groups whose records compare alike one by one, each followed by other records. If one group has fewer records, a greater key
  -- follows it.
  module _ {V W : Type 0} (n : ℕ) (f h : V → X) (g k : W → X) (keyed : (v : V) → (key (f v) ≡ n) × (key (h v) ≡ n))
      (keyed_too : (w : W) → (key (g w) ≡ n) × (key (k w) ≡ n)) (P : V → Type 0) (Q : W → Type 0)
      (alike : (v : V) (w : W) → P v → Q w → cmp (f v) (g w) ≡ cmp (h v) (k w)) where
    pairs_decide : (vs : List V) (ws : List W) → AllByRecursion P vs → AllByRecursion Q ws → (xs ys us zs : List X)
        → AllByRecursion (IsLater n) xs → AllByRecursion (IsLater n) ys → AllByRecursion (IsLater n) us → AllByRecursion (IsLater n) zs
        → length (map f vs ++ xs) ≡ length (map g ws ++ ys) → length (map h vs ++ us) ≡ length (map k ws ++ zs)
        → (length xs ≡ length ys → length us ≡ length zs → slice_cmp cmp xs ys ≡ slice_cmp cmp us zs)
        → slice_cmp cmp (map f vs ++ xs) (map g ws ++ ys) ≡ slice_cmp cmp (map h vs ++ us) (map k ws ++ zs)
    pairs_decide [] [] p q xs ys us zs a b c d many some rest = rest many some
    pairs_decide [] (w ∷ ws) p q xs ys us zs a b c d many some rest =
        greater_first n xs (g w) (map g ws ++ ys) (keyed_too w).0 a (omega (arith, many))
        ∙ sym (greater_first n us (k w) (map k ws ++ zs) (keyed_too w).1 c (omega (arith, some)))
    pairs_decide (v ∷ vs) [] p q xs ys us zs a b c d many some rest =
        less_first n (f v) (map f vs ++ xs) ys (keyed v).0 b (omega (arith, many))
        ∙ sym (less_first n (h v) (map h vs ++ us) zs (keyed v).1 d (omega (arith, some)))
    pairs_decide (v ∷ vs) (w ∷ ws) p q xs ys us zs a b c d many some rest =
        ap₂ ordering_then (alike v w p.0 q.0)
        (pairs_decide vs ws p.1 q.1 xs ys us zs a b c d (omega (arith, many)) (omega (arith, some)) rest)

  -- The groups from a place on: the first of them, and those after it.
  abbrev IsKeyed : (ℕ → List X) → Type 0
  IsKeyed F = (place : ℕ) → AllByRecursion (λ x. key x ≡ suc place) (F place)

  all_later : (F : ℕ → List X) → IsKeyed F → (n place count : ℕ) → n ≤ place → AllByRecursion (IsLater n) (groups_from F place count)
  all_later F is n place zero l = tt
  all_later F is n place (suc count) l = all_append (IsLater n) (F place) (groups_from F (suc place) count)
      (all_weaker (λ x. key x ≡ suc place) (IsLater n) (λ x e. omega (arith, e, l)) (F place) (is place))
      (all_later F is n (suc place) count (omega (arith, l)))

-- ---- two choices of a county, and of the county whose chains have only wanted names

module _ (c : ComparedChoices) (n k : ℕ) where
  abbrev by : FieldsOf Type4 → FieldsOf Type4 → Ordering
  by = by_tlid fours

  abbrev keeps : ℕ → Bool
  keeps = is_wanted c

  abbrev thin : ComparedChoices
  thin = narrow c

  abbrev number : ComparedChoices → ℕ → ℕ → ℕ
  number of i = new_name (new_in of i)

  -- a wanted name of the county
  abbrev IsWantedName : ℕ → Type 0
  IsWantedName j = (keeps j ≡ true) × Known nat_cmp (feats c.county) j

  abbrev are : AreWanted name_kind c thin (λ place. true)
  are = record {
    wanted = wanted_feats c.county c.still;
    alike = numbered_narrow c;
    opened = opened_in name_kind c (wanted_feats c.county c.still) (λ j h. h);
    kept = λ place e. refl;
  }

  -- a name of a chain is one of the county
  name_there : (i place : ℕ) (x : Chain) → slice_get (chains_at c i) place ≡ Some x → (j : ℕ) → Known nat_cmp x.feats j → Known nat_cmp (feats c.county) j
  name_there i place x e j h = name_kind.in_all c i j (chain_seen nat_keys c i chain_feats j place x e h)

  -- ---- a fixed place

  module _ (place : ℕ) (x : Chain) (e : slice_get (chains_at c n) place ≡ Some x) where
    abbrev own_tlid : ℕ
    own_tlid = suc place

    abbrev all : List ℕ
    all = x.feats

    abbrev some : List ℕ
    some = filter keeps x.feats

    stays : (j : ℕ) → Among j all → keeps j ≡ false → nat_cmp (number c n j) (number c k j) ≡ Equal
    stays j m out = ap (nat_cmp (number c n j)) (sym ((numbered_narrow c n k).stay j out (name_there n place x e j (among_known nat_keys j all m))))
        ∙ tied_itself nat_cmp_total (number c n j)

    pair : (j l : ℕ) → Among j some → Among l some → nat_cmp (number c n j) (number c k l) ≡ nat_cmp (number thin n j) (number thin k l)
    pair j l m o =
        let one = among_filtered keeps j all m in
        let other = among_filtered keeps l all o in
        (numbered_narrow c n k).wanted_alike j l one.1 other.1 (name_there n place x e j (among_known nat_keys j all one.0))
        (name_there n place x e l (among_known nat_keys l all other.0))

    -- its names compare as its wanted names do
    chain_alike : slice_cmp by (made_in fours c n own_tlid x) (made_in fours c k own_tlid x)
        ≡ slice_cmp by (made_in fours thin n own_tlid (narrow_chain keeps c.county x)) (made_in fours thin k own_tlid (narrow_chain keeps c.county x))
    chain_alike =
        sym (ap₂ (slice_cmp by) (fours_made (number c n) own_tlid all) (fours_made (number c k) own_tlid all))
        ∙ names_order own_tlid (map (number c n) all) (map (number c k) all) (length-map all (number c n) ∙ sym (length-map all (number c k)))
        ∙ wanted_decide keeps nat_cmp (number c n) (number c k) all all refl stays
        ∙ images_in_order nat_cmp (number c n) (number thin n) (number c k) (number thin k) some some pair
        ∙ sym (names_order own_tlid (map (number thin n) some) (map (number thin k) some) (length-map some (number thin n) ∙ sym (length-map some (number thin k))))
        ∙ ap₂ (slice_cmp by) (fours_made (number thin n) own_tlid some) (fours_made (number thin k) own_tlid some)

  fixed_alike : (place : ℕ) → is_open c.still.places place ≡ false
      → slice_cmp by (made_at fours c n place) (made_at fours c k place) ≡ slice_cmp by (made_at fours thin n place) (made_at fours thin k place)
  fixed_alike place fixed =
      ap (slice_cmp by (made_at fours c n place)) (ap (made_if fours c k place) (same_at c k n place fixed))
      ∙ go (slice_get (chains_at c n) place) refl
      ∙ sym (ap₂ (slice_cmp by) (ap (made_if fours thin n place) (there_narrow c n place))
      (ap (made_if fours thin k place) (there_narrow c k place ∙ ap (option_map (narrow_chain keeps c.county)) (same_at c k n place fixed))))
    where
      go : (o : Option Chain) → slice_get (chains_at c n) place ≡ o → slice_cmp by (made_if fours c n place o) (made_if fours c k place o)
          ≡ slice_cmp by (made_if fours thin n place (option_map (narrow_chain keeps c.county) o)) (made_if fours thin k place (option_map (narrow_chain keeps c.county) o))
      go None e = refl
      go (Some x) e = chain_alike place x e

  -- ---- an open place, whose chain has only wanted names

  -- the pieces of a chain's names, with their numbers
  abbrev pieces_of : Option Chain → List (ℕ × List ℕ)
  pieces_of chain = unwrap_or (option_map (λ x. numbered_from 1 (in_pieces 5 x.feats)) chain) []

  abbrev made_of : ComparedChoices → ℕ → ℕ → ℕ × List ℕ → FieldsOf Type4
  made_of of i tlid piece = four tlid (piece.0, map (number of i) piece.1)

  pieces_made : (of : ComparedChoices) (i place : ℕ) (chain : Option Chain) → made_if fours of i place chain ≡ map (made_of of i (suc place)) (pieces_of chain)
  pieces_made of i place None = refl
  pieces_made of i place (Some x) = refl

  module _ (place : ℕ) (opened : is_open c.still.places place ≡ true) (i : ℕ) where
    wanted_there : (chain : Option Chain) → slice_get (chains_at c i) place ≡ chain → IfSome chain (λ x. AllByRecursion IsWantedName x.feats)
    wanted_there None e = tt
    wanted_there (Some x) e = all_known nat_keys IsWantedName x.feats (λ j h. (are.opened i place x opened e j h, name_there i place x e j h))

    pieces_narrow : (chain : Option Chain) → IfSome chain (λ x. AllByRecursion IsWantedName x.feats)
        → pieces_of (option_map (narrow_chain keeps c.county) chain) ≡ pieces_of chain
    pieces_narrow None h = refl
    pieces_narrow (Some x) h = ap (λ names. numbered_from 1 (in_pieces 5 names))
        (filter_all keeps x.feats (all_weaker IsWantedName (λ j. keeps j ≡ true) (λ j both. both.0) x.feats h))

    pieces_wanted : (chain : Option Chain) → IfSome chain (λ x. AllByRecursion IsWantedName x.feats)
        → AllByRecursion (λ piece. AllByRecursion IsWantedName piece.1) (pieces_of chain)
    pieces_wanted None h = tt
    pieces_wanted (Some x) h =
        let parts : List (List ℕ) = in_pieces 5 x.feats in
        all_unmap (AllByRecursion IsWantedName) (λ (piece : ℕ × List ℕ). piece.1) (numbered_from 1 parts)
        (subst (AllByRecursion (AllByRecursion IsWantedName)) (sym (rights-numbered_from 1 parts)) (all_in_pieces IsWantedName 5 (length x.feats) x.feats h))

    abbrev pieces_there : List (ℕ × List ℕ)
    pieces_there = pieces_of (slice_get (chains_at c i) place)

    all_wanted : AllByRecursion (λ piece. AllByRecursion IsWantedName piece.1) pieces_there
    all_wanted = pieces_wanted (slice_get (chains_at c i) place) (wanted_there (slice_get (chains_at c i) place) refl)

    made_whole : made_at fours c i place ≡ map (made_of c i (suc place)) pieces_there
    made_whole = pieces_made c i place (slice_get (chains_at c i) place)

    made_thin : made_at fours thin i place ≡ map (made_of thin i (suc place)) pieces_there
    made_thin = pieces_made thin i place (slice_get (chains_at thin i) place)
        ∙ ap (λ chain. map (made_of thin i (suc place)) (pieces_of chain)) (there_narrow c i place)
        ∙ ap (map (made_of thin i (suc place))) (pieces_narrow (slice_get (chains_at c i) place) (wanted_there (slice_get (chains_at c i) place) refl))

  -- records of wanted names compare alike
  wanted_alike : (tlid : ℕ) (v w : ℕ × List ℕ) → AllByRecursion IsWantedName v.1 → AllByRecursion IsWantedName w.1
      → by (made_of c n tlid v) (made_of c k tlid w) ≡ by (made_of thin n tlid v) (made_of thin k tlid w)
  wanted_alike tlid v w p q =
      ap (λ o. ordering_then (nat_cmp tlid tlid) (ordering_then (nat_cmp tlid tlid) (ordering_then (nat_cmp v.0 w.0) (ordering_then o Equal))))
      (places_alike 5 (place_number (map (number c n) v.1)) (place_number (map (number c k) w.1)) (place_number (map (number thin n) v.1))
      (place_number (map (number thin k) w.1)) (λ l. ap₂ nat_cmp (named (number c n) v.1 l) (named (number c k) w.1 l)
      ∙ wanted_pair name_kind are n k (slice_get v.1 l) (slice_get w.1 l) (those v.1 p l) (those w.1 q l)
      ∙ sym (ap₂ nat_cmp (named (number thin n) v.1 l) (named (number thin k) w.1 l))))
    where
      named : (f : ℕ → ℕ) (piece : List ℕ) (l : ℕ) → place_number (map f piece) l ≡ unwrap_or (option_map f (slice_get piece l)) 0
      named f piece l = ap (λ o. unwrap_or o 0) (slice_get-map f piece l)

      those : (piece : List ℕ) → AllByRecursion IsWantedName piece → (l j : ℕ) → slice_get piece l ≡ Some j
          → (keeps j ≡ true) × (Known nat_cmp (feats c.county) j × Known nat_cmp (feats c.county) j)
      those piece h l j e = let own : IsWantedName j = subst (λ o. IfSome o IsWantedName) e (all_at IsWantedName piece h l) in (own.0, (own.1, own.1))

  -- ---- all places

  -- records of the places from one on
  abbrev from_place : ComparedChoices → ℕ → ℕ → ℕ → List (FieldsOf Type4)
  from_place of i place count = groups_from (made_at fours of i) place count

  later : (of : ComparedChoices) (i place count : ℕ) → AllByRecursion (IsLater by fours.tlid (tlids_decide fours) (suc place)) (from_place of i (suc place) count)
  later of i place count = all_later by fours.tlid (tlids_decide fours) (made_at fours of i) (keyed fours of i) (suc place) (suc place) count (omega arith)

  open_next : (place count : ℕ) → is_open c.still.places place ≡ true
      → length (from_place c n place (suc count)) ≡ length (from_place c k place (suc count))
      → length (from_place thin n place (suc count)) ≡ length (from_place thin k place (suc count))
      → (length (from_place c n (suc place) count) ≡ length (from_place c k (suc place) count)
      → length (from_place thin n (suc place) count) ≡ length (from_place thin k (suc place) count)
      → slice_cmp by (from_place c n (suc place) count) (from_place c k (suc place) count)
      ≡ slice_cmp by (from_place thin n (suc place) count) (from_place thin k (suc place) count))
      → slice_cmp by (from_place c n place (suc count)) (from_place c k place (suc count))
      ≡ slice_cmp by (from_place thin n place (suc count)) (from_place thin k place (suc count))
  open_next place count opened many some rest =
      let whole_n = ap (λ rs. rs ++ from_place c n (suc place) count) (made_whole place opened n) in
      let whole_k = ap (λ rs. rs ++ from_place c k (suc place) count) (made_whole place opened k) in
      let thin_n = ap (λ rs. rs ++ from_place thin n (suc place) count) (made_thin place opened n) in
      let thin_k = ap (λ rs. rs ++ from_place thin k (suc place) count) (made_thin place opened k) in
      ap₂ (slice_cmp by) whole_n whole_k
      ∙ pairs_decide by fours.tlid (tlids_decide fours) (suc place) (made_of c n (suc place)) (made_of thin n (suc place)) (made_of c k (suc place))
      (made_of thin k (suc place)) (λ v. (refl, refl)) (λ w. (refl, refl)) (λ v. AllByRecursion IsWantedName v.1) (λ w. AllByRecursion IsWantedName w.1)
      (wanted_alike (suc place)) (pieces_there place opened n) (pieces_there place opened k) (all_wanted place opened n) (all_wanted place opened k)
      (from_place c n (suc place) count) (from_place c k (suc place) count) (from_place thin n (suc place) count) (from_place thin k (suc place) count)
      (later c n place count) (later c k place count) (later thin n place count) (later thin k place count)
      (sym (ap length whole_n) ∙ many ∙ ap length whole_k) (sym (ap length thin_n) ∙ some ∙ ap length thin_k) rest
      ∙ sym (ap₂ (slice_cmp by) thin_n thin_k)

  all_places : (place count : ℕ) → length (from_place c n place count) ≡ length (from_place c k place count)
      → length (from_place thin n place count) ≡ length (from_place thin k place count)
      → slice_cmp by (from_place c n place count) (from_place c k place count) ≡ slice_cmp by (from_place thin n place count) (from_place thin k place count)
  all_places place zero many some = refl
  all_places place (suc count) many some = go (is_open c.still.places place) refl (all_places (suc place) count)
    where
      here : ComparedChoices → ℕ → List (FieldsOf Type4)
      here of i = made_at fours of i place

      rest : ComparedChoices → ℕ → List (FieldsOf Type4)
      rest of i = from_place of i (suc place) count

      go : (b : Bool) → is_open c.still.places place ≡ b → (length (rest c n) ≡ length (rest c k) → length (rest thin n) ≡ length (rest thin k)
          → slice_cmp by (rest c n) (rest c k) ≡ slice_cmp by (rest thin n) (rest thin k))
          → slice_cmp by (here c n ++ rest c n) (here c k ++ rest c k) ≡ slice_cmp by (here thin n ++ rest thin n) (here thin k ++ rest thin k)
      go true e next = open_next place count e many some next
      go false e next =
          let same = lengths fours c n k place e in
          let same_too = lengths fours thin n k place e in
          cmp-append by (here c n) (here c k) (rest c n) (rest c k) same
          ∙ ap₂ ordering_then (fixed_alike place e) (next
          (omega (arith, many, same, length-append (here c n) (rest c n), length-append (here c k) (rest c k)))
          (omega (arith, some, same_too, length-append (here thin n) (rest thin n), length-append (here thin k) (rest thin k))))
          ∙ sym (cmp-append by (here thin n) (here thin k) (rest thin n) (rest thin k) same_too)

  -- The records of type 4 compare alike.
  pub fours_narrow : groups_cmp Four (type_4_by_chain (choice c n)) (type_4_by_chain (choice c k))
      ≡ groups_cmp Four (type_4_by_chain (choice thin n)) (type_4_by_chain (choice thin k))
  fours_narrow = by_place c ∙ all_places 0 (length c.still.by_shape) (as_many_in fours c n k) (as_many_in fours thin n k) ∙ sym (by_place thin)
    where
      by_place : (of : ComparedChoices) → groups_cmp Four (type_4_by_chain (choice of n)) (type_4_by_chain (choice of k))
          ≡ slice_cmp by (from_place of n 0 (length of.still.by_shape)) (from_place of k 0 (length of.still.by_shape))
      by_place of = choices_decide Type4 type_4_by_chain fours_fit of n k
          ∙ tlid_first fours (λ r s. first_twice (nat_cmp r.tlid s.tlid) (rows_cmp (drop 1 table_4) r s)) n k of
          ∙ ap₂ (slice_cmp by) (groups_are fours of n) (groups_are fours of k)
