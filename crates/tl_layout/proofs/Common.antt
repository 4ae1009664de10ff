-- The names from below that the proofs of this crate cite, passed on from one place. Declares nothing.
pub use Rattle.std.proofs.Common.{All, Bool, Err, IfErr, IfSome, IsErrAnd, List, None, Ok, Option, Result, Some, [], add-one, ap, append_assoc, arith, bit_and, codes, cond, drop, eqb, false, get_or, if◌then◌else◌, inl, inr, leb, length, length-set, lit<, lit≤, ltb, map, nat_eq, refl, replicate, rules, slice_get, slice_set, subst, suc, sym, take, take-take, true, unwrap_or, w8, zero, ℕ, ℤ, ◌%◌, ◌*◌, ◌++◌, ◌+◌, ◌-◌, ◌/◌, ◌<◌, ◌==◌, ◌^◌, ◌∙◌, ◌∷◌, ◌≡◌, ◌≤◌, ◌⊎◌}
pub use Rattle.std.proofs.Math.Nat.{pow-le-pow_right, pow-succ', suc-mul}
pub use Rattle.std.proofs.lemmas.Bool.{and_from, and_parts, cases_lt, eqb-true, le-leb, leb-true, lt-ltb, ltb-true, ne_eqb}
pub use Rattle.std.proofs.lemmas.Bool.Decides.{same_from_decides}
pub use Rattle.std.proofs.lemmas.List.{append-nil, drop-drop, drop-take, drop_all, drop_more, length-map, length_push, take_all}
pub use Rattle.std.proofs.lemmas.List.Elements.{All-push, filter_map-append}
pub use Rattle.std.proofs.lemmas.Nat.{and_block, and_mask, le_bytes_8}
pub use Rattle.std.proofs.lemmas.Result.{err_from_is_err_and}
pub use Rattle.std.proofs.lemmas.Simd.{Each1-get_or, bitmask_splat, length-zip2, map-map, mask_l-lt, tops_compared, zip2_splat}
pub use Rattle.std.proofs.lemmas.Slice.{take-put_mid}
pub use Rattle.std.proofs.lemmas.Slice.Eq.{slice_eq-Decides}
pub use Rattle.std.specs.Cmp.{unsigned_Decides}
pub use Rattle.std.specs.Cmp.Rules.{comparing}
pub use Rattle.std.specs.Int.{to_le_bytes, w64}
pub use Rattle.std.specs.Int.Bits.{and_self}
pub use Rattle.std.specs.List.{cons_option, filter_map}
pub use Rattle.tl_layout.specs.AddressRanges.{ranges_texts}
pub use Rattle.tl_layout.specs.Bytes.{AreAllowed, blanks, columns}
pub use Rattle.tl_layout.specs.Columns.{joined}
pub use Rattle.tl_layout.specs.CoordinateReading.{minus_of, plus_of}
pub use Rattle.tl_layout.specs.Coordinates.{IsOnMap, most_latitude, most_longitude}
pub use Rattle.tl_layout.specs.FieldFaults.{gap}
pub use Rattle.tl_layout.specs.FieldReading.{coordinates_of, places_reading}
pub use Rattle.tl_layout.specs.FieldTexts.{digits_text, lat_text, long_text, number_text, places_text, point_place_text, text_behind}
pub use Rattle.tl_layout.specs.Laws.ByteLaws.{blanks_are_text}
pub use Rattle.tl_layout.specs.Laws.ColumnLaws.{columns_of_width, joined-before}
pub use Rattle.tl_layout.specs.Laws.FieldLaws.{number_read_in_range, reads_on}
pub use Rattle.tl_layout.specs.Laws.PlaceLaws.{pair_of_texts}
pub use Rattle.tl_layout.specs.Laws.TurnedFits.{body_turned_fits}
pub use Rattle.tl_layout.specs.Laws.Type1ColumnLaws.{columns_are_text, content_behind, fields_again, text_of_columns}
pub use Rattle.tl_layout.specs.Laws.Type1Laws.{type_1_reading_is_short}
pub use Rattle.tl_layout.specs.Names.{name_texts}
pub use Rattle.tl_layout.specs.NumberReading.{drop_blanks, number_after}
pub use Rattle.tl_layout.specs.RecordText.{FitsRecord}
pub use Rattle.tl_layout.specs.RecordTypes.{Type1, Type2, Type4, Type5, Type6, Type7, Type8, TypeI, TypeP, as_type}
pub use Rattle.tl_layout.specs.Tables.{AddsRecord, HoldsByType, and_then_one}
pub use Rattle.tl_layout.specs.Turned.{turned_body}
pub use Rattle.tl_layout.specs.Type1Columns.{body_1_of, body_1_text}
pub use Rattle.tl_layout.specs.Type1Groups.{body_1_at, body_1_texts, point_texts}
pub use Rattle.tl_layout.specs.declared.coordinate.Coordinate.TheVariants.{Value}
pub use Rattle.tl_layout.specs.declared.fault.FieldFault.{FieldFault}
pub use Rattle.tl_layout.specs.declared.record_type.Record.{Record}
pub use Rattle.tl_layout.specs.declared.tables.Tables.{Tables}
pub use Rattle.tl_layout.specs.declared.writing.TheConstants.{ZEROS}
pub use lib.Lanes.{chunk}
