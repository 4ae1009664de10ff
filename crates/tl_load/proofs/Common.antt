-- The names from below that the proofs of this crate cite, passed on from one place. Declares nothing.
pub use Rattle.canonical_lines.specs.SpeltLine.{with_version}
pub use Rattle.std.proofs.Common.{All, Bool, Err, Global, IfErr, IfSome, List, None, Ok, Option, Result, Some, Vec, [], ap, append_assoc, arith, cond, drop, eqb, false, get_or, inl, inr, leb, length, length-set, lit<, lit≤, ltb, map, refl, replicate, rules, set, subst, suc, sym, take, true, w8, ℕ, ◌%◌, ◌*◌, ◌++◌, ◌+◌, ◌-◌, ◌<◌, ◌^◌, ◌↔◌, ◌∙◌, ◌∷◌, ◌≡◌, ◌≤◌, ◌⊎◌}
pub use Rattle.std.proofs.Math.Nat.{mod-add-mod}
pub use Rattle.std.proofs.Math.Seq.{get_or-append_seam, take-append_seam}
pub use Rattle.std.proofs.lemmas.Bool.{cases_eq, cases_lt, cond_both, eq-eqb, eqb-false, eqb-true, false_from_ne_true, le-leb, le-ltb, leb-false, leb-true, lt-leb, lt-ltb, ltb-false, ltb-true, ne_eqb, not-false, not-true, not_from_true}
pub use Rattle.std.proofs.lemmas.Grind.{common_steps, flat_map-append}
pub use Rattle.std.proofs.lemmas.List.{append-nil, drop-replicate, drop_all, drop_more, get_or-map, get_or-replicate, get_or-set_other, get_or-set_same, get_or-take, get_or_default, length-append, length-drop, length-map, length-replicate, length-take, map-append, take-append-drop, take_all, take_at, take_more, take_rest}
pub use Rattle.std.proofs.lemmas.List.Elements.{All-append, All-cons, All-nil}
pub use Rattle.std.proofs.lemmas.List.Sums.{fails_before_first, passes_at_first, position_or_len_is, sum_by-append}
pub use Rattle.std.proofs.lemmas.Result.{err_from_is_err_and}
pub use Rattle.std.proofs.lemmas.Simd.{Each1-get_or, bitmask_splat, get_or-chunk, length-chunk, length-zip2, tops_compared, zip2_of_maps, zip2_splat}
pub use Rattle.std.specs.Io.KnownBytes.{Consumes, IsAtEnd}
pub use Rattle.std.specs.List.{AllByRecursion, flat_map, slice_split}
pub use Rattle.std.specs.Prelude.{IfOk, IsOk, IsTrue, MatchOption, MatchResult, OnOk, not, position, ◌||◌}
pub use Rattle.std.specs.Result.{IsErr}
pub use Rattle.tl_layout.proofs.TableSteps.{holds_with}
pub use Rattle.tl_layout.specs.Bytes.{IsLine, is_allowed, longest_line}
pub use Rattle.tl_layout.specs.FieldFaults.{IsLeftmostFault}
pub use Rattle.tl_layout.specs.Laws.RecordLaws.{spelling_is_line}
pub use Rattle.tl_layout.specs.Laws.RecordTypeLaws.{every_record, fitting_record, record_exact, type_of_record}
pub use Rattle.tl_layout.specs.Laws.TypeLaws.{layout_laws}
pub use Rattle.tl_layout.specs.Limits.{IsWithinLimit, most_records}
pub use Rattle.tl_layout.specs.RecordText.{FitsRecord, spelling_of, text_of, type_of}
pub use Rattle.tl_layout.specs.RecordTypes.{RecordType, Type1, Type2, Type4, Type5, Type6, Type7, Type8, TypeI, TypeP, byte_of, line_length, reading_of, table_of}
pub use Rattle.tl_layout.specs.Tables.{AddsRecord, HoldsByType}
pub use Rattle.tl_layout.specs.declared.fault.FieldFault.{FieldFault}
pub use Rattle.tl_layout.specs.declared.fault.FieldKind.{FieldKind}
pub use Rattle.tl_layout.specs.declared.record_type.Record.{Record}
pub use Rattle.tl_layout.specs.declared.record_type.Record.TheVariants.{Eight, Five, Four, I, One, P, Seven, Six, Two}
pub use Rattle.tl_layout.specs.declared.tables.Tables.{Tables}
pub use Rattle.tl_load.specs.Choice.{as_record, judged, tiger}
pub use Rattle.tl_load.specs.Keeping.{AreCounted, AreKept, IsLoader, IsSamePart, Lifts, LoadedInto, WasFedInto, bytes_used, seen, total}
pub use Rattle.tl_load.specs.LineOf.{IsFaultIn, IsLineOf, filled}
pub use Rattle.tl_load.specs.Lines.{HaveSameLines, IsFeedAfter, IsLineEnd, IsWithoutLineFeed, is_line_feed, lines, most_unfinished, without_return}
pub use Rattle.tl_load.specs.Loaded.{HasLoaded, IsFaultHowever, IsNotDevice, IsOfLines, IsWellAfter, IsWellSoFar, Loaded, WasFed, all_parts}
pub use Rattle.tl_load.specs.Outcome.{AreLinesSpelled, FaultAt, IsFaultOf, Spells, SpellsWithin, after_verdict, count_of, of_limit, of_line, outcome, ◌then_with◌}
pub use Rattle.tl_load.specs.Places.{PlacedLine, lines_from_part, placed_lines}
pub use Rattle.tl_load.specs.RecordLine.{BeginsWith, IsFaultOfLine, of_its_type, of_no_type}
pub use Rattle.tl_load.specs.Sources.{Gave, RoseBy, StopsThere, most_taken}
pub use Rattle.tl_load.specs.Steps.{Closes, Ends, IsPartClosed, JudgesAs, LeavesRest, LeavesRestOnOk, ReadsPart, Takes, TakesLines, TakesWell, next_place, to_end, with_fault}
pub use Rattle.tl_load.specs.Verdicts.{fault_at, without_place}
pub use Rattle.tl_load.specs.declared.fault.LineFault.{LineFault}
pub use Rattle.tl_load.specs.declared.fault.LoadFault.{LoadFault}
pub use Rattle.tl_load.specs.declared.loader_for.LoaderFor.TheInside.{Inside}
pub use lib.Lanes.{Each1, chunk, mask_l, zip2}
