-- The parsed form of the arguments after a subcommand.
use Rattle.command_line.proofs.Common.{Bool, Check, CommandLine, Compare, IsPlain, Job, List, None, Option, Respell, Row, Some, Text, [], bytes_eq, codes, false, first_of, long_of, ne_eqb, one_of, reading_of, refl, short_of, true, ◌==◌, ◌∷◌, ◌≡◌}
use Rattle.clap.specs.declared.builder.value_parser.ValueParser.TheVariants as parser

-- a text that isn't a flag, as clap tests it
pub record IsNoFlag (text : Text) : Type 0 where
  pub not_end : bytes_eq text (45 ∷ 45 ∷ []) ≡ false
  pub not_long : long_of text ≡ None
  pub not_short : short_of text ≡ None

pub no_flag : (text : Text) → IsPlain text → IsNoFlag text
no_flag [] plain = record { not_end = refl; not_long = refl; not_short = refl }
no_flag (x ∷ xs) plain =
    let e : (x == 45) ≡ false = ne_eqb x 45 plain in
    record { not_end = rw e refl; not_long = rw e refl; not_short = rw e refl }

-- what was parsed of a subcommand's arguments: the names of the sets, and the flags
abbrev pub Read : Type 0
Read = Option Text × Option Text × Option Text × Option Text × Option Text

abbrev pub read : List Row → Read
read rows = (
  first_of (codes "FIRST") rows,
  first_of (codes "SECOND") rows,
  one_of (codes "stem") rows,
  one_of (codes "no-sources") rows,
  one_of (codes "no-reserved") rows,
)

abbrev pub flag : Bool → Text
flag true = codes "true"
flag false = codes "false"

abbrev pub second_of : Job → Text → Option Text
second_of Compare second = Some second
second_of job second = None

-- the parsed form of a flag that only some jobs have
abbrev pub mask_flag : Job → Bool → Option Text
mask_flag Respell given = None
mask_flag Check given = None
mask_flag job given = Some (flag given)

-- what is found for a flag, if it was given
abbrev pub flag_rows : Text → Bool → List Row
flag_rows id false = []
flag_rows id true = record {
  id = id;
  values = codes "true" ∷ [];
  count = None;
  source = Some CommandLine;
  reading = reading_of parser.Bool;
} ∷ []

-- what is found for the name of a set
abbrev pub value_rows : Text → Text → List Row
value_rows id name = record {
  id = id;
  values = name ∷ [];
  count = None;
  source = Some CommandLine;
  reading = reading_of parser.String;
} ∷ []
