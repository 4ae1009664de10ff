-- The names of jobs on the command line.
use Rattle.std.specs.Prelude.{List, codes, ℕ}
use Rattle.command_line.specs.declared.plans.Job.{Job}
use Rattle.command_line.specs.declared.plans.Job.TheVariants.{Check, Compare, Fingerprint, Normalise, Respell}

-- the argument that names a job
abbrev pub word_of : Job → List ℕ
word_of Respell = codes "respell"
word_of Normalise = codes "normalise"
word_of Check = codes "check"
word_of Fingerprint = codes "fingerprint"
word_of Compare = codes "compare"
