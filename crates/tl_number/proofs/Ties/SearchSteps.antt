-- Finding the open keys and the kept chains, step by step.
use Rattle.tl_number.proofs.Common.{Bool, Chain, County, IsKeyOrder, IsSearchAt, List, OpenPlace, Option, OrderOfShapes, Ordering, Some, [], ap, append-nil, append_assoc, ap₂, arith, at_places, cond, cons_option, contains, contains_alike, directed_chain, drop, drop_more, earlier_keys, false, filter, filter-append, first_seen, first_seen_after, fixed_keys, flat_map, from_first_seen, get_or, group_at, grouped, has_new, has_new_at, is_open, keys_along, keys_at_open, length, list_any, map-at_places, map-id, nat_lt, newly_seen, not, open_among, open_keys, option_to_list, range_with_len, refl, seen_append, slice_get, sym, times, times-filter, to_first_seen, true, unwrap_or, unwrap_or-slice_get, ℕ, ◌&&◌, ◌++◌, ◌+◌, ◌<◌, ◌∙◌, ◌∷◌, ◌≡◌}
use Rattle.std.proofs.lemmas.List.Elements.{filter_map-append}
use Rattle.std.proofs.lemmas.List.FromFn.{filter_of_map_range_with_len_more}
use Rattle.tl_number.proofs.Ties.Keys.{fixed_more, groups_at, newly_append, seen_newly}
use Rattle.tl_number.proofs.Ties.PartTables.{seen_known}

-- the elements from a place on, the first of them apart
pub one_dropped : {Y : Type 0} (ys : List Y) (i : ℕ) (y : Y) → i < length ys → y ≡ get_or ys i y → drop i ys ≡ y ∷ drop (i + 1) ys
one_dropped ys i y within is = drop_more ys i y within ∙ ap (λ z. z ∷ drop (i + 1) ys) (sym is)

-- and of groups
pub group_dropped : {Y : Type 0} (groups : List (List Y)) (i : ℕ) (group : List Y) → i < length groups → group ≡ group_at groups i
    → drop i groups ≡ group ∷ drop (i + 1) groups
group_dropped groups i group within is = drop_more groups i [] within ∙ ap (λ g. g ∷ drop (i + 1) groups) (sym (is ∙ unwrap_or-slice_get groups i []))

-- the keys of one list, and of the lists after it
pub seen_more : {K : Type 0} (cmp : K → K → Ordering) (keys rest all before after whole : List K) → all ≡ keys ++ rest → after ≡ first_seen_after cmp before keys
    → first_seen_after cmp before all ≡ whole → first_seen_after cmp after rest ≡ whole
seen_more cmp keys rest all before after whole split put is =
    ap (λ seen. first_seen_after cmp seen rest) put ∙ sym (seen_append cmp before keys rest) ∙ ap (first_seen_after cmp before) (sym split) ∙ is

-- the same for the chosen ones of these keys
pub chosen_more : {K : Type 0} (cmp : K → K → Ordering) (is_chosen : K → Bool) (keys rest all before after whole : List K) → all ≡ keys ++ rest
    → after ≡ first_seen_after cmp before (filter is_chosen keys) → first_seen_after cmp before (filter is_chosen all) ≡ whole
    → first_seen_after cmp after (filter is_chosen rest) ≡ whole
chosen_more cmp is_chosen keys rest all before after whole split =
    seen_more cmp (filter is_chosen keys) (filter is_chosen rest) (filter is_chosen all) before after whole
    (ap (filter is_chosen) split ∙ filter-append is_chosen keys rest)

-- Keys that are seen, and the open ones of them.
module _ {K : Type 0} {cmp : K → K → Ordering} (o : IsKeyOrder cmp) where
  -- the new keys of one list, if its place is open, and of the lists after it
  pub new_more : (b : Bool) (keys rest all before after opened next whole : List K) → all ≡ keys ++ rest → after ≡ first_seen_after cmp before keys
      → next ≡ opened ++ cond b (newly_seen cmp before keys) [] → opened ++ cond b (newly_seen cmp before all) [] ≡ whole
      → next ++ cond b (newly_seen cmp after rest) [] ≡ whole
  new_more b keys rest all before after opened next whole split seen put is =
      ap₂ (λ l k. l ++ cond b (newly_seen cmp k rest) []) put (seen ∙ seen_newly o before keys)
      ∙ append_assoc opened (cond b (newly_seen cmp before keys) []) _
      ∙ ap (λ l. opened ++ l) (go b ∙ ap (λ l. cond b l []) (sym (newly_append o before keys rest) ∙ ap (newly_seen cmp before) (sym split)))
      ∙ is
    where
      go : (d : Bool) → cond d (newly_seen cmp before keys) [] ++ cond d (newly_seen cmp (before ++ newly_seen cmp before keys) rest) []
          ≡ cond d (newly_seen cmp before keys ++ newly_seen cmp (before ++ newly_seen cmp before keys) rest) []
      go true = refl
      go false = refl

  -- one chain more
  pub opened_more : (is_open : ℕ → Bool) (groups rest : List (List K)) (keys : List K) (i : ℕ) → groups ≡ keys ∷ rest → (b : Bool) → b ≡ is_open i
      → (before after opened next whole : List K) → after ≡ first_seen_after cmp before keys
      → next ≡ opened ++ cond b (newly_seen cmp before keys) []
      → opened ++ open_keys cmp is_open before i groups ≡ whole → next ++ open_keys cmp is_open after (i + 1) rest ≡ whole
  opened_more is_open groups rest keys i split b at before after opened next whole seen put is =
      ap₂ (λ l k. l ++ open_keys cmp is_open k (i + 1) rest) put (seen ∙ seen_newly o before keys)
      ∙ append_assoc opened (cond b (newly_seen cmp before keys) []) _
      ∙ (λ j. opened ++ (cond (at j) (newly_seen cmp before keys) [] ++ open_keys cmp is_open (before ++ newly_seen cmp before keys) (i + 1) rest))
      ∙ ap (λ gs. opened ++ open_keys cmp is_open before i gs) (sym split) ∙ is

-- ---- finding the places with new keys, one by one

module _ {K : Type 0} {cmp : K → K → Ordering} (o : IsKeyOrder cmp) where
  -- a list of keys tells as much as the open ones of them
  new_alike : (opened earlier fixed keys : List K) → earlier ≡ first_seen cmp (filter (λ k. contains cmp k opened) fixed) → has_new cmp opened earlier keys ≡ has_new cmp opened fixed keys
  new_alike opened earlier fixed keys is = λ i. list_any (λ k. one k (contains cmp k opened) refl i) keys
    where
      one : (k : K) (b : Bool) → contains cmp k opened ≡ b → (b && not (contains cmp k earlier)) ≡ (b && not (contains cmp k fixed))
      one k false e = refl
      one k true e =
          let chosen = filter (λ j. contains cmp j opened) fixed in
          ap not (ap (contains cmp k) is ∙ contains_alike o (first_seen cmp chosen) chosen k (from_first_seen o chosen k) (to_first_seen o chosen k)
          ∙ ap (nat_lt 0) (times-filter o (λ j. contains cmp j opened) k fixed ∙ ap (λ b. cond b (times cmp k fixed) 0) e))

  module _ (places : List OpenPlace) (opened : List K) (along : List (List K)) where
    abbrev of_opened : List K → List K
    of_opened keys = filter (λ k. contains cmp k opened) keys

    -- the keys of one more place
    pub new_here : (place : ℕ) (keys earlier : List K) → slice_get along place ≡ Some keys → earlier ≡ first_seen cmp (of_opened (fixed_keys places along place))
        → has_new cmp opened earlier keys ≡ has_new_at cmp places opened along place
    new_here place keys earlier there is =
        new_alike opened earlier (fixed_keys places along place) keys is
        ∙ ap (has_new cmp opened (fixed_keys places along place)) (sym (ap (λ (g : Option (List K)). unwrap_or g []) there))

    pub earlier_more : (place : ℕ) (keys earlier next : List K) → slice_get along place ≡ Some keys → earlier ≡ first_seen cmp (of_opened (fixed_keys places along place))
        → next ≡ first_seen_after cmp earlier (cond (is_open places place) [] (of_opened keys))
        → next ≡ first_seen cmp (of_opened (fixed_keys places along (place + 1)))
    earlier_more place keys earlier next there is step =
        let before = of_opened (fixed_keys places along place) in
        step ∙ ap (λ l. first_seen_after cmp l (cond (is_open places place) [] (of_opened keys))) is
        ∙ sym (seen_append cmp [] before (cond (is_open places place) [] (of_opened keys)))
        ∙ ap (first_seen cmp) (ap (λ l. before ++ l) (go (is_open places place))
        ∙ sym (filter-append (λ k. contains cmp k opened) (fixed_keys places along place) (cond (not (is_open places place)) (group_at along place) []))
        ∙ ap of_opened (sym (fixed_more places along place)))
      where
        go : (b : Bool) → cond b [] (of_opened keys) ≡ of_opened (cond (not b) (group_at along place) [])
        go true = refl
        go false = ap of_opened (sym (ap (λ (g : Option (List K)). unwrap_or g []) there))

-- ---- finding the kept chains of a county

-- ---- walking along places

-- the places that pass, with one place more
next_place : (test : ℕ → Bool) (place : ℕ)
    → filter test (range_with_len 0 (place + 1)) ≡ filter test (range_with_len 0 place) ++ cond (test place) (place ∷ []) []
next_place test place = simp map-id at (filter_of_map_range_with_len_more test (λ i. i) 0 place place (omega arith))

pub place_taken : (test : ℕ → Bool) (place : ℕ) → test place ≡ true
    → filter test (range_with_len 0 (place + 1)) ≡ filter test (range_with_len 0 place) ++ (place ∷ [])
place_taken test place passes = next_place test place ∙ ap (λ b. filter test (range_with_len 0 place) ++ cond b (place ∷ []) []) passes

pub place_passed : (test : ℕ → Bool) (place : ℕ) → test place ≡ false
    → filter test (range_with_len 0 (place + 1)) ≡ filter test (range_with_len 0 place)
place_passed test place fails = next_place test place ∙ ap (λ b. filter test (range_with_len 0 place) ++ cond b (place ∷ []) []) fails
    ∙ append-nil (filter test (range_with_len 0 place))

module _ {X : Type 0} (xs : List X) (test : ℕ → Bool) where
  abbrev read_to : ℕ → List X
  read_to place = at_places xs (filter test (range_with_len 0 place))

  -- what is read at one more place
  next_read : (place : ℕ) → read_to (place + 1) ≡ read_to place ++ at_places xs (cond (test place) (place ∷ []) [])
  next_read place = ap (at_places xs) (next_place test place)
      ∙ filter_map-append (slice_get xs) (filter test (range_with_len 0 place)) (cond (test place) (place ∷ []) [])

  -- if it passes, and if it doesn't
  pub next_taken : (place : ℕ) (x : X) → test place ≡ true → slice_get xs place ≡ Some x → read_to (place + 1) ≡ read_to place ++ (x ∷ [])
  next_taken place x passes there = next_read place ∙ (λ i. read_to place ++ at_places xs (cond (passes i) (place ∷ []) []))
      ∙ ap (λ o. read_to place ++ cons_option o []) there

  pub next_passed : (place : ℕ) → test place ≡ false → read_to (place + 1) ≡ read_to place
  next_passed place fails = next_read place ∙ ap (λ b. read_to place ++ at_places xs (cond b (place ∷ []) [])) fails
      ∙ append-nil (read_to place)

-- ---- searching keys

module _ {K : Type 0} {cmp : K → K → Ordering} (o : IsKeyOrder cmp) where
  module _ {places : List OpenPlace} {keys : List K} {along : List (List K)} where
    -- a search begins with no earlier keys
    pub search_starts : (seen : List K) {wanted earlier : List K} → wanted ≡ first_seen cmp seen
        → ((k : K) → contains cmp k seen ≡ contains cmp k keys) → earlier ≡ [] → IsSearchAt cmp places keys along 0 wanted earlier
    search_starts seen is same none = record { same = λ k. ap (contains cmp k) is ∙ seen_known o seen k ∙ same k; before = none }

    -- a search of the same places and keys:
    module _ {place : ℕ} {wanted earlier : List K} (at : IsSearchAt cmp places keys along place wanted earlier) {places_too : List OpenPlace}
        {along_too : List (List K)} (p : places_too ≡ places) (a : along_too ≡ along) where
      -- its earlier keys are the ones before its place,
      pub search_earlier : earlier ≡ earlier_keys cmp places_too wanted along_too place
      search_earlier = at.before ∙ sym (λ i. earlier_keys cmp (p i) wanted (a i) place)

      -- it finds the places with new keys,
      pub search_finds : {found : Bool} → found ≡ has_new_at cmp places_too wanted along_too place → found ≡ has_new_at cmp places keys along place
      search_finds is = is ∙ (λ i. has_new_at cmp (p i) wanted (a i) place)
          ∙ (λ i. list_any (λ k. at.same k i && not (contains cmp k (fixed_keys places along place))) (group_at along place))

      -- and it goes on to the next place
      pub search_next : {wanted_too earlier_too : List K} → wanted_too ≡ wanted → earlier_too ≡ earlier_keys cmp places_too wanted along_too (place + 1)
          → IsSearchAt cmp places keys along (place + 1) wanted_too earlier_too
      search_next w m = record {
        same = λ k. ap (contains cmp k) w ∙ at.same k;
        before = m ∙ (λ i. earlier_keys cmp (p i) (sym w i) (a i) (place + 1));
      }

-- the keys of the chains at open places
pub keys_open : {K : Type 0} (keys : Chain → List K) (county : County) (shapes : OrderOfShapes)
    → grouped (keys_along keys county (at_places shapes.by_shape (open_among shapes.places (length shapes.by_shape)))) ≡ keys_at_open keys county shapes
keys_open keys county shapes =
    let opened : List ℕ = open_among shapes.places (length shapes.by_shape) in
    ap grouped (map-at_places (λ directed. flat_map keys (option_to_list (directed_chain county directed))) shapes.by_shape opened)
    ∙ groups_at (keys_along keys county shapes.by_shape) opened
