-- The file names of a set, and the plan for a command line.
use Rattle.std.specs.Prelude.{Bool, List, None, Option, Some, [], codes, false, map, slice_index, string_bytes, true, ℕ, ◌++◌, ◌∷◌, ◌≡◌, ◌≢◌}
use Rattle.clap.specs.Words.{Row, Text, fault_of, first_of, one_of, subcommand_of}
use Rattle.command_line.specs.declared.plans.Job.TheVariants.{Check, Compare, Fingerprint, Normalise, Respell}
use Rattle.command_line.specs.Grammar.{understood}
use Rattle.command_line.specs.Words.{word_of}
use Rattle.command_line.specs.declared.plans.Job.{Job}
use Rattle.command_line.specs.declared.plans.Plan.{Plan}
use Rattle.tl_layout.specs.Masked.{no_mask}
use Rattle.tl_layout.specs.declared.mask.Mask.{Mask}

-- the suffixes of the file names of a set, in the order of its parts
abbrev pub suffixes : List (List ℕ)
suffixes = codes ".RT1" ∷ codes ".RT2" ∷ codes ".RT4" ∷ codes ".RT5" ∷ codes ".RT6" ∷ codes ".RT7" ∷ codes ".RT8" ∷ codes ".RTI"
    ∷ codes ".RTP" ∷ []

-- the file names of a set that is named by its only file, or by the stem of its file names
abbrev pub files_named : Bool → List ℕ → List (List ℕ)
files_named false file = file ∷ []
files_named true stem = map (λ suffix. stem ++ suffix) suffixes

-- these are the file names of the set that an argument names; clap found these values of the arguments
pub record AreFilesOf (rows : List Row) (argument : Text) (is_stem : Bool) (names : List Text) : Type 0 where
  pub name : Text
  pub given : first_of argument rows ≡ Some name
  pub named : names ≡ files_named is_stem name

-- the file names of a second set, which only one job has
abbrev pub AreSecondOf : List Row → Job → Bool → List Text → Type 0
AreSecondOf rows Compare is_stem names = AreFilesOf rows (codes "SECOND") is_stem names
AreSecondOf rows Respell is_stem names = names ≡ []
AreSecondOf rows Normalise is_stem names = names ≡ []
AreSecondOf rows Check is_stem names = names ≡ []
AreSecondOf rows Fingerprint is_stem names = names ≡ []

-- whether a flag was given, by what clap found for it; for a subcommand without such a flag it finds nothing
pub record IsFlagGiven (flag : Option Text) (is_given : Bool) : Type 0 where
  pub given : flag ≡ Some (codes "true") → is_given ≡ true
  pub left_out : flag ≡ Some (codes "false") → is_given ≡ false
  pub unknown : flag ≡ None → is_given ≡ false

-- the mask leaves out the fields that the flags name
pub record IsMaskGiven (rows : List Row) (mask : Mask) : Type 0 where
  pub sources : IsFlagGiven (one_of (codes "no-sources") rows) mask.sources
  pub reserved : IsFlagGiven (one_of (codes "no-reserved") rows) mask.reserved

-- the plan has the files of as many sets as its job has, all of them named in the same way, and leaves out what the flags name
pub record NamesItsSets (rows : List Row) (plan : Plan) : Type 0 where
  pub is_stem : Bool
  pub flag : IsFlagGiven (one_of (codes "stem") rows) is_stem
  pub mask : IsMaskGiven rows plan.mask
  pub first : AreFilesOf rows (codes "FIRST") is_stem (map string_bytes plan.first.items)
  pub second : AreSecondOf rows plan.job is_stem (map string_bytes plan.second.items)

-- the plan does the job that a subcommand names, with the files that its arguments name
abbrev pub IsPlanOf : Option (Text × List Row) → Plan → Type 0
IsPlanOf None plan = ⊥
IsPlanOf (Some (name, rows)) plan = (name ≡ word_of plan.job) × NamesItsSets rows plan

-- the arguments are a valid command line: parsing them finds no fault, and none of them asks for help
abbrev pub AreUnderstood : List Text → Type 0
AreUnderstood words = fault_of understood words ≡ []

-- the plan belongs to the command line: the arguments name its job and its files
abbrev pub IsPlanned : List Text → Plan → Type 0
IsPlanned words plan = IsPlanOf (subcommand_of understood words) plan

-- the text doesn't begin with a hyphen
abbrev pub IsPlain : Text → Type 0
IsPlain text = slice_index text 0 ≢ 45

-- the flag for stems, the flags to leave fields out, and the names of sets, as they are given
abbrev pub stem_words : Bool → List Text
stem_words false = []
stem_words true = codes "--stem" ∷ []

abbrev pub source_words : Bool → List Text
source_words false = []
source_words true = codes "--no-sources" ∷ []

abbrev pub reserved_words : Bool → List Text
reserved_words false = []
reserved_words true = codes "--no-reserved" ∷ []

abbrev pub mask_words : Job → Mask → List Text
mask_words Respell mask = []
mask_words Check mask = []
mask_words job mask = source_words mask.sources ++ reserved_words mask.reserved

abbrev pub set_words : Job → Text → Text → List Text
set_words Compare first second = first ∷ second ∷ []
set_words job first second = first ∷ []

-- The arguments of a job as in its help: the job's name, `--stem` if sets are named by their stems, for a job that prints or
-- compares maps a flag for each kind of field that is left out, and the name of each set.
abbrev pub usual_words : Job → Bool → Mask → Text → Text → List Text
usual_words job is_stem mask first second =
    word_of job ∷ (stem_words is_stem ++ (mask_words job mask ++ set_words job first second))

-- the file names of the second set, if the job has one
abbrev pub second_files : Job → Bool → Text → List Text
second_files Compare is_stem second = files_named is_stem second
second_files job is_stem second = []

-- the plan has the files of the sets with these names
pub record HasFilesOf (is_stem : Bool) (first second : Text) (plan : Plan) : Type 0 where
  pub first_files : map string_bytes plan.first.items ≡ files_named is_stem first
  pub second_files_too : map string_bytes plan.second.items ≡ second_files plan.job is_stem second

-- jobs that neither print nor compare maps leave nothing out
abbrev pub MayLeaveOut : Job → Mask → Type 0
MayLeaveOut Respell mask = mask ≡ no_mask
MayLeaveOut Check mask = mask ≡ no_mask
MayLeaveOut job mask = Unit {0}

-- a plan for sets whose names don't begin with hyphens is the plan of the usual arguments
abbrev pub AreUsualWordsPlanned : Type 0
AreUsualWordsPlanned = (plan : Plan) (is_stem : Bool) (first second : Text) → IsPlain first → IsPlain second
    → HasFilesOf is_stem first second plan → MayLeaveOut plan.job plan.mask
    → AreUnderstood (usual_words plan.job is_stem plan.mask first second)
    × IsPlanned (usual_words plan.job is_stem plan.mask first second) plan

-- a job that takes no flag for fields to leave out: its name, perhaps --stem, one or both of these flags and a plain name aren't a
-- valid command line
abbrev pub TakesNoMask : Job → Type 0
TakesNoMask job = (is_stem : Bool) (mask : Mask) (first : Text) → IsPlain first
    → AreUnderstood (word_of job ∷ (stem_words is_stem ++ (source_words mask.sources ++ (reserved_words mask.reserved ++ first ∷ []))))
    → mask ≡ no_mask
