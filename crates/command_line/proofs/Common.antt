-- The names from below that the proofs of this crate cite, passed on from one place. Declares nothing.
pub use Rattle.clap.proofs.FaultLemmas.{stopped_fault}
pub use Rattle.clap.proofs.WalkLemmas.{first_value-rows, one_text-rows, walk_stopped}
pub use Rattle.clap.specs.Faults.{built_fault, level_fault, step_fault}
pub use Rattle.clap.specs.Kinds.{Kinds, or_else}
pub use Rattle.clap.specs.Lexer.{long_of, short_of}
pub use Rattle.clap.specs.Simple.{Shape}
pub use Rattle.clap.specs.Values.{reading_of}
pub use Rattle.clap.specs.Walk.{Held, Walk, answers_to, arg_by_index, finished, idle, nothing_held, rows_after, settled, to_positional, value, walk, walk_from, walked}
pub use Rattle.clap.specs.Words.{App, HasMatchesOf, Row, Text, app_of, fault_of, first_of, first_value, found_of, is_simple, is_simple_and_free, kind_of, one_of, one_text, rows_of, subcommand_name_of, subcommand_of, with_rule}
pub use Rattle.clap.specs.declared.error.Error.{Error}
pub use Rattle.clap.specs.declared.error.kind.ErrorKind.{ErrorKind}
pub use Rattle.clap.specs.declared.error.kind.ErrorKind.TheVariants.{OutOfMemory, UnknownArgument}
pub use Rattle.clap.specs.declared.parser.matches.ArgMatches.TheViews.{out-ArgMatches, out-SubCommand}
pub use Rattle.clap.specs.declared.parser.matches.Found.{Found}
pub use Rattle.clap.specs.declared.parser.matches.SubCommand.{SubCommand}
pub use Rattle.clap.specs.declared.parser.matches.ValueSource.TheVariants.{CommandLine}
pub use Rattle.command_line.specs.Grammar.{over_one_set, over_two_sets, understood, with_mask}
pub use Rattle.command_line.specs.Names.{AreSecondOf, AreUnderstood, AreUsualWordsPlanned, HasFilesOf, IsFlagGiven, IsMaskGiven, IsPlain, IsPlanOf, MayLeaveOut, NamesItsSets, TakesNoMask, mask_words, reserved_words, second_files, set_words, source_words, stem_words}
pub use Rattle.command_line.specs.Words.{word_of}
pub use Rattle.command_line.specs.declared.plans.Job.{Job}
pub use Rattle.command_line.specs.declared.plans.Job.TheVariants.{Check, Compare, Fingerprint, Normalise, Respell}
pub use Rattle.command_line.specs.declared.plans.Plan.{Plan}
pub use Rattle.std.proofs.Common.{Bool, Bor, Err, List, None, Ok, Option, Result, Some, [], ap, ap₂, arith, codes, false, inl, inr, map, option_map, refl, string_bytes, subst, sym, true, unwrap_or, ℕ, ◌++◌, ◌==◌, ◌∙◌, ◌∷◌, ◌≡◌}
pub use Rattle.std.proofs.lemmas.Bool.{ne_eqb}
pub use Rattle.std.proofs.lemmas.Iterator.{items_from_collect}
pub use Rattle.std.proofs.lemmas.Iterator.Adapters.{YieldsList-from_skip, YieldsList-from_vec}
pub use Rattle.std.proofs.lemmas.Result.{IfOk-weaker}
pub use Rattle.std.specs.Box.{box_value}
pub use Rattle.std.specs.Prelude.{Box, IfOk, OnOk, find, fold, slice_index}
pub use Rattle.std.specs.Str.{bytes_eq}
pub use Rattle.std.specs.Vec.Iter.{into_iter_items}
pub use Rattle.tl_layout.specs.declared.mask.Mask.{Mask}
