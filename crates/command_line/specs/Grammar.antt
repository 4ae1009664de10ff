-- The command-line grammar: the subcommands and their arguments, as clap parses them.
use Rattle.std.specs.Prelude.{Some, [], codes, true}
use Rattle.clap.specs.Words.{App, Rule, Text, new_app, new_rule, with_rule, with_subcommand}
use Rattle.clap.specs.declared.builder.action.ArgAction.TheVariants.{Set, SetTrue}

-- a flag: two hyphens and its name
abbrev pub flag_named : Text → Rule
flag_named name = record (new_rule name) { long = Some name; action = Some SetTrue }

-- the flag to name sets by their stems
abbrev pub stem_flag : Rule
stem_flag = flag_named (codes "stem")

-- a required argument that names a set
abbrev pub set_argument : Text → Rule
set_argument id = record (new_rule id) { required = true; action = Some Set; value_names = 1 }

-- a subcommand that reads one set, and a subcommand that reads two
abbrev pub over_one_set : Text → App
over_one_set name = with_rule (with_rule (new_app name) stem_flag) (set_argument (codes "FIRST"))

abbrev pub over_two_sets : Text → App
over_two_sets name = with_rule (over_one_set name) (set_argument (codes "SECOND"))

-- the flags to leave fields out, for the subcommands that print or compare maps
abbrev pub sources_flag : Rule
sources_flag = flag_named (codes "no-sources")

abbrev pub reserved_flag : Rule
reserved_flag = flag_named (codes "no-reserved")

abbrev pub with_mask : App → App
with_mask app = with_rule (with_rule app sources_flag) reserved_flag

-- the program: its arguments must begin with a subcommand
abbrev pub program_alone : App
program_alone = record {
  top = record (new_app (codes "tigercanon")).top { has_version = true; no_binary_name = true; subcommand_required = true };
  subs = [];
}

-- the grammar: the program with its five subcommands
abbrev pub understood : App
understood =
    with_subcommand (with_subcommand (with_subcommand (with_subcommand (with_subcommand program_alone
    (over_one_set (codes "respell")).top) (with_mask (over_one_set (codes "normalise"))).top) (over_one_set (codes "check")).top)
    (with_mask (over_one_set (codes "fingerprint"))).top) (with_mask (over_two_sets (codes "compare"))).top
