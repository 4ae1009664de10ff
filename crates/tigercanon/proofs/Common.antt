-- The names from below that the proofs of this crate cite, passed on from one place. Declares nothing.
pub use Rattle.arranged_county.specs.Views.{arrangement_in}
pub use Rattle.canonical_form.proofs.Arrangements.ArrangedNumbers.{canonical_within}
pub use Rattle.canonical_form.proofs.CanonicalLists.Accepted.{one_canonical_same, plain_view}
pub use Rattle.canonical_form.proofs.CanonicalLists.Ascending.{canonical_exists, choice_is_canonical}
pub use Rattle.canonical_form.proofs.CanonicalLists.StrictLists.{strict_in_view}
pub use Rattle.canonical_form.proofs.Masks.MaskedCounties.{masked_by_none}
pub use Rattle.canonical_form.proofs.Masks.MaskedViews.{masked_view}
pub use Rattle.canonical_form.proofs.Packing.PackedCounty.{packed_county}
pub use Rattle.canonical_form.specs.Accepted.{IsAccepted, IsCanonicalInView, IsRefusal, OutOfProfile, RecordsRefusal, Unlinked}
pub use Rattle.canonical_form.specs.Arrangement.{arranged}
pub use Rattle.canonical_form.specs.CountyViews.{IsView, plain}
pub use Rattle.canonical_form.specs.Strict.{IsStrictInView}
pub use Rattle.canonical_form.specs.Tidy.{IsLeastChoice}
pub use Rattle.canonical_form.specs.WholeArrangements.{arranged_by}
pub use Rattle.command_line.specs.declared.plans.Job.{Job}
pub use Rattle.command_line.specs.declared.plans.Job.TheVariants.{Check, Compare, Fingerprint, Normalise, Respell}
pub use Rattle.county_chart.proofs.Sameness.Equivalence.{same-reflexive}
pub use Rattle.county_chart.specs.County.{County, county_of}
pub use Rattle.county_chart.specs.CountyRules.{IsCounty, is_without_chain}
pub use Rattle.county_chart.specs.Limits.{HoldsWithinLimits}
pub use Rattle.county_chart.specs.MaskedCounty.{masked}
pub use Rattle.county_chart.specs.Packing.{packed}
pub use Rattle.county_chart.specs.PolygonKeys.{key_cmp}
pub use Rattle.county_chart.specs.Profile.{IsFirstBrokenClause}
pub use Rattle.county_chart.specs.Renumbering.{AreSame, Carries, Renumbering}
pub use Rattle.std.below.core.specs.declared.int.u64.TheConstants.{MAX}
pub use Rattle.std.proofs.Common.{Bool, Bor, Contains, Err, IfErr, IfSome, List, None, Ok, Option, Result, Some, [], ap, append-nil, append_assoc, arith, cond, drop, false, get_or, if◌then◌else◌, inl, inr, length, length-append, lit<, lit≤, map, refl, rules, subst, suc, sym, take, take-append-drop, tests, true, zero, ℕ, ◌++◌, ◌+◌, ◌<◌, ◌||◌, ◌∙◌, ◌∷◌, ◌≡◌, ◌≢◌, ◌≤◌, ◌⊎◌}
pub use Rattle.std.proofs.Math.ListN.{set}
pub use Rattle.std.proofs.Math.Nat.{mod-add-mod}
pub use Rattle.std.proofs.Math.Seq.{drop-cons, map-set_same, take-length}
pub use Rattle.std.proofs.lemmas.Iterator.{YieldsList-from_map_by, YieldsList-from_slice}
pub use Rattle.std.proofs.lemmas.Iterator.Adapters.{YieldsList-from_vec}
pub use Rattle.std.proofs.lemmas.Iterator.Consumers.{map_from_collect}
pub use Rattle.std.proofs.lemmas.Iterator.Search.{any_from_yields_List}
pub use Rattle.std.proofs.lemmas.List.{length-take, map-append, take_more}
pub use Rattle.std.proofs.lemmas.List.Elements.{All-cons, recursion_from_All}
pub use Rattle.std.proofs.lemmas.Result.{IfErr-at_err, IfErr-weaker, IfOk-at_ok, IfOk-weaker, MatchResult-at_err, MatchResult-at_ok, MatchResult-from_both, err_from_is_err_and}
pub use Rattle.std.specs.Io.KnownBytes.{Appends, Consumes, IsAtEnd, Keeps}
pub use Rattle.std.specs.List.{AllByRecursion, list_any}
pub use Rattle.std.specs.Prelude.{All, IfOk, MatchOption, MatchResult, OnOk, is_ok, slice_index_or}
pub use Rattle.tigercanon.specs.Comparing.{AreDifferentInView, AreOneMapInView, ReportsMemoryOfAccepted, ReportsRefusalOfOne, ReportsRefusalOfOneRead}
pub use Rattle.tigercanon.specs.Devices.{DeviceFailed, IsRefusalBy, PrintsTo, ReportsNoDevice, set_of_sources, to_sink}
pub use Rattle.tigercanon.specs.Faults.{IsOfNoLines, IsWantOfMemory, RefusesBy, RefusesSpelled, ReportsRefusal, ReportsRefusalOfRead}
pub use Rattle.tigercanon.specs.Files.{AreCounted, AreHeld, AreSourcesOf, bytes_of, is_failed, opened_of}
pub use Rattle.tigercanon.specs.Findings.{Finding, IsFound, IsFoundOfCounties}
pub use Rattle.tigercanon.specs.Lending.{HoldsUnderName}
pub use Rattle.tigercanon.specs.LentParts.{bytes_of_parts}
pub use Rattle.tigercanon.specs.Normalising.{AreRefusedParts, GoesOut, IsCutOffInView, IsOnlyTextInView, ReportsRead, StopsShort, Took, is_of_sink}
pub use Rattle.tigercanon.specs.Outcomes.{GivenOutput, GivenSet, HoldsAccepted, IsReportedBy, ReportsLine, ReportsLineTo, ReportsSet}
pub use Rattle.tigercanon.specs.Reading.{AreRead, AreReadFirst, AreReadUpTo, IsFaultOfRead, IsNext, IsUnread, NoneFailed, OneFailed, SomeUnread, WasWellBefore}
pub use Rattle.tigercanon.specs.Refusals.{fault_line}
pub use Rattle.tigercanon.specs.Respelling.{IsFirstFault}
pub use Rattle.tigercanon.specs.Running.{AreRefused, IsUnopened, set_of_files, to_writer}
pub use Rattle.tigercanon.specs.Sets.{CarriesSetInView, IsAcceptedSet, IsCanonSetInView, IsCanonicalText, IsCanonicalTextInView, IsOneCanonicalTextInView, IsRecordsRefusal, IsSetRefusal, IsViewedSet, refusal_without_place}
pub use Rattle.tigercanon.specs.Statuses.{set_of_job, status_of, status_of_outcome, stopped_by}
pub use Rattle.tigercanon.specs.TwoSets.{Does, HasRun, IsDifferent, IsDone, IsPartOnly, IsReportedWhy, IsTextOf, LeavesStopped, OfTwoSets, RefusesOne, ReportsFor, ReportsOne}
pub use Rattle.tigercanon.specs.declared.fault.Fault.{Fault}
pub use Rattle.tigercanon.specs.declared.fault.Fault.TheVariants.{Link, Load, Memory, Profile, Write}
pub use Rattle.tigercanon.specs.declared.library.comparing.CompareFault.{CompareFault}
pub use Rattle.tigercanon.specs.declared.program.ending.Ending.{Ending}
pub use Rattle.tigercanon.specs.declared.program.ending.Ending.TheVariants.{Different, Done}
pub use Rattle.tigercanon.specs.declared.program.ending.Stopped.{Stopped}
pub use Rattle.tigercanon.specs.declared.program.files.Opened.{Opened}
pub use Rattle.tl_layout.proofs.Exits.{exit_with}
pub use Rattle.tl_layout.specs.Limits.{IsWithinLimit, most_records}
pub use Rattle.tl_layout.specs.Masked.{no_mask}
pub use Rattle.tl_layout.specs.RecordText.{FitsRecord, text_of}
pub use Rattle.tl_layout.specs.Tables.{HoldsByType}
pub use Rattle.tl_layout.specs.declared.mask.Mask.{Mask}
pub use Rattle.tl_layout.specs.declared.record_type.Record.{Record}
pub use Rattle.tl_layout.specs.declared.tables.Tables.{Tables}
pub use Rattle.tl_load.proofs.CutParts.{empty_fault, fault_elsewhere, spells_as}
pub use Rattle.tl_load.proofs.ReadSteps.{gave_more}
pub use Rattle.tl_load.proofs.Reading.{accepted_no_fault, one_verdict, spelled_once}
pub use Rattle.tl_load.proofs.RecordLines.{accepted_within, spelled_fit, tiger_is_sound}
pub use Rattle.tl_load.proofs.TextLemmas.{text_spells, text_spells_only}
pub use Rattle.tl_load.specs.Choice.{tiger}
pub use Rattle.tl_load.specs.Keeping.{AreKept, LoadedInto, WasFedInto, seen}
pub use Rattle.tl_load.specs.Lines.{HaveSameLines}
pub use Rattle.tl_load.specs.Loaded.{HasLoaded, IsFaultHowever, IsNotDevice, IsOfLines, is_device_fault, with_line_feeds}
pub use Rattle.tl_load.specs.Outcome.{FaultAt, IsFaulty, IsSpelled, Spells, SpellsWithin}
pub use Rattle.tl_load.specs.Sources.{Gave, RoseBy}
pub use Rattle.tl_load.specs.declared.fault.LoadFault.{LoadFault}
pub use Rattle.tl_load.specs.declared.fault.LoadFault.TheVariants.{Device}
pub use Rattle.tl_load.specs.declared.source.Counted.{Counted}
pub use Rattle.tl_write.specs.declared.fault.WriteFault.{WriteFault}
