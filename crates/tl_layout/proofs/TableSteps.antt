-- If tables hold a list, they hold the longer list after a record was added.
use Rattle.tl_layout.proofs.Common.{AddsRecord, HoldsByType, List, None, Option, Record, Some, Tables, Type1, Type2, Type4, Type5, Type6, Type7, Type8, TypeI, TypeP, [], and_then_one, ap, append-nil, as_type, cons_option, filter_map, filter_map-append, refl, sym, ◌++◌, ◌∙◌, ◌∷◌, ◌≡◌}

last_of : {Y : Type 0} (o : Option Y) (ys : List Y) → ys ++ cons_option o [] ≡ and_then_one ys o
last_of None ys = append-nil ys
last_of (Some y) ys = refl

table_with : {X Y : Type 0} (f : X → Option Y) (xs : List X) (x : X) (before after : List Y) → before ≡ filter_map f xs
    → after ≡ and_then_one before (f x) → after ≡ filter_map f (xs ++ x ∷ [])
table_with {X} {Y} f xs x before after held added =
    added ∙ ap (λ (ys : List Y). and_then_one ys (f x)) held ∙ sym (last_of (f x) (filter_map f xs)) ∙ sym (filter_map-append f xs (x ∷ []))

pub holds_with : (before after : Tables) (records : List Record) (added : Record) → HoldsByType before records
    → AddsRecord before added after → HoldsByType after (records ++ added ∷ [])
holds_with before after records added held adds = record {
  type_1 = table_with (as_type Type1) records added _ _ held.type_1 adds.type_1;
  type_2 = table_with (as_type Type2) records added _ _ held.type_2 adds.type_2;
  type_4 = table_with (as_type Type4) records added _ _ held.type_4 adds.type_4;
  type_5 = table_with (as_type Type5) records added _ _ held.type_5 adds.type_5;
  type_6 = table_with (as_type Type6) records added _ _ held.type_6 adds.type_6;
  type_7 = table_with (as_type Type7) records added _ _ held.type_7 adds.type_7;
  type_8 = table_with (as_type Type8) records added _ _ held.type_8 adds.type_8;
  type_i = table_with (as_type TypeI) records added _ _ held.type_i adds.type_i;
  type_p = table_with (as_type TypeP) records added _ _ held.type_p adds.type_p;
}
