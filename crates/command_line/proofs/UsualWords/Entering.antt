-- The words after the name of a job are left to the job's subcommand.
use Rattle.command_line.proofs.Common.{App, Check, Compare, Fingerprint, Job, Kinds, List, Normalise, Respell, Shape, Some, Text, [], answers_to, ap, built_fault, codes, false, fault_of, find, finished, level_fault, nothing_held, or_else, over_one_set, over_two_sets, refl, rows_after, settled, stopped_fault, subcommand_of, sym, true, understood, walk, walk_from, walk_stopped, walked, with_mask, word_of, ◌∷◌, ◌≡◌}
use Rattle.clap.proofs.OnLiterals.{clap_on_literals}
use Rattle.clap.specs.Faults.{check_fault, defaults_fault, settle_fault, turn_fault, walk_fault}
use Rattle.clap.specs.Simple.{built, built_leaf, entered, inherited, label_of, marked_built, names_of, with_leaf_noted}

-- a subcommand with this grammar, as the parser prepares it
abbrev pub prepared : App → Shape
prepared a = built_leaf (inherited (with_leaf_noted (marked_built understood.top)) a.top)

abbrev pub grammar_of : Job → App
grammar_of Respell = over_one_set (codes "respell")
grammar_of Normalise = with_mask (over_one_set (codes "normalise"))
grammar_of Check = over_one_set (codes "check")
grammar_of Fingerprint = with_mask (over_one_set (codes "fingerprint"))
grammar_of Compare = with_mask (over_two_sets (codes "compare"))

-- what the parser finds wrong with the arguments after a subcommand's name
abbrev pub words_fault : Shape → List Text → Kinds
words_fault sub words = level_fault sub [] nothing_held words false []

-- the fault that is found after all words, if the program itself was given nothing
abbrev late_fault : App → Kinds
late_fault a =
    or_else (settle_fault a.top.rules a.top.args_override_self nothing_held)
    (or_else (defaults_fault (settled a.top.rules nothing_held).rows a.top.rules) (check_fault a.top (finished a.top.rules nothing_held) true))

-- the program with these commands enters a subcommand at this word
record Enters (a : App) (word : Text) (sub : Shape) : Type 0 where
  steps : walked a.top.rules (names_of a) (walk_from nothing_held) word ≡ record (walk_from nothing_held) { stopped = Some (word, []) }
  quiet : turn_fault a.top (names_of a) (walk_from nothing_held) word ≡ []
  found : find (λ s. answers_to word (label_of s)) a.subs ≡ Some sub
  late : late_fault a ≡ []
  named : sub.name ≡ word

-- the walk leaves the arguments to the subcommand
left : (a : App) (word : Text) (sub : Shape) (rest : List Text) → Enters a word sub
    → walk a.top.rules (names_of a) nothing_held (word ∷ rest) ≡ record (walk_from nothing_held) { stopped = Some (word, rest) }
left a word sub rest enters = rw enters.steps (sym (walk_stopped a.top.rules (names_of a) (walk_from nothing_held) word [] rest))

or_nothing : (k : Kinds) → or_else k [] ≡ k
or_nothing [] = refl
or_nothing (x ∷ xs) = refl

fault_is : (a : App) (word : Text) (sub : Shape) (rest : List Text) → Enters a word sub
    → built_fault a nothing_held (word ∷ rest) ≡ words_fault sub rest
unfolding walk_fault
fault_is a word sub rest enters =
    rw (left a word sub rest enters, enters.quiet, enters.steps) (rw (stopped_fault a.top (names_of a) (walk_from nothing_held) (word, []) rest, enters.found, enters.late) (or_nothing _))

subcommand_is : (a : App) (word : Text) (sub : Shape) (rest : List Text) → Enters a word sub
    → entered a (walk a.top.rules (names_of a) nothing_held (word ∷ rest)).stopped ≡ Some (word, rows_after sub.rules [] rest)
subcommand_is a word sub rest enters = rw (left a word sub rest enters) (rw enters.found (ap (λ name. Some (name, rows_after sub.rules [] rest)) enters.named))

each_enters : (job : Job) → Enters (built understood) (word_of job) (prepared (grammar_of job))
unfolding clap_on_literals
each_enters Respell = record { steps = refl; quiet = refl; found = refl; late = refl; named = refl }
each_enters Normalise = record { steps = refl; quiet = refl; found = refl; late = refl; named = refl }
each_enters Check = record { steps = refl; quiet = refl; found = refl; late = refl; named = refl }
each_enters Fingerprint = record { steps = refl; quiet = refl; found = refl; late = refl; named = refl }
each_enters Compare = record { steps = refl; quiet = refl; found = refl; late = refl; named = refl }

pub job_fault : (job : Job) (rest : List Text) → fault_of understood (word_of job ∷ rest) ≡ words_fault (prepared (grammar_of job)) rest
job_fault job rest = fault_is (built understood) (word_of job) (prepared (grammar_of job)) rest (each_enters job)

pub job_subcommand : (job : Job) (rest : List Text)
    → subcommand_of understood (word_of job ∷ rest) ≡ Some (word_of job, rows_after (prepared (grammar_of job)).rules [] rest)
job_subcommand job rest = subcommand_is (built understood) (word_of job) (prepared (grammar_of job)) rest (each_enters job)
