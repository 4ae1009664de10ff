-- The usual arguments of the jobs over one set are parsed as intended.
use Rattle.command_line.proofs.Common.{Bool, None, Shape, Some, Text, [], codes, false, over_one_set, refl, reserved_words, source_words, stem_words, true, ◌++◌, ◌∷◌}
use Rattle.command_line.proofs.UsualWords.Walking.{Reads, Steps, before_word, plain_step, step_then}
use Rattle.command_line.proofs.UsualWords.Words.{IsNoFlag, Read, flag, flag_rows}
use Rattle.command_line.proofs.UsualWords.Entering.{prepared}
use Rattle.command_line.proofs.UsualWords.Flags.{after_flags, found, map_job}
use Rattle.clap.proofs.OnLiterals.{clap_on_literals}

abbrev pub set_job : Text → Shape
set_job name = prepared (over_one_set name)

set_ends : (name : Text) (is_stem : Bool) (first : Text)
    → Reads (set_job name) (before_word (flag_rows (codes "stem") is_stem) (Some (codes "FIRST", first ∷ [])) 2) []
    (Some first, None, Some (flag is_stem), None, None)
unfolding clap_on_literals
set_ends name false first = record { taken = refl; met = refl }
set_ends name true first = record { taken = refl; met = refl }

set_first : (name : Text) (is_stem : Bool) (first : Text) → IsNoFlag first
    → Reads (set_job name) (before_word (flag_rows (codes "stem") is_stem) None 1) (first ∷ [])
    (Some first, None, Some (flag is_stem), None, None)
set_first name is_stem first f =
    step_then (set_job name) _ _ first [] _ (plain_step (set_job name) (flag_rows (codes "stem") is_stem) None 1 first _ f refl refl) (set_ends name is_stem first)

pub set_stem : (name : Text) → Steps (set_job name) (before_word [] None 1) (codes "--stem") (before_word (flag_rows (codes "stem") true) None 1)
unfolding clap_on_literals
set_stem name = record { passes = refl; steps = refl }

pub set_is_read : (name : Text) (is_stem : Bool) (first : Text) → IsNoFlag first
    → Reads (set_job name) (before_word [] None 1) (stem_words is_stem ++ first ∷ []) (Some first, None, Some (flag is_stem), None, None)
set_is_read name false first f = set_first name false first f
set_is_read name true first f = step_then (set_job name) _ _ _ (first ∷ []) _ (set_stem name) (set_first name true first f)

-- what the parser reads from the arguments of a job over one map
abbrev map_read : Bool → Bool → Bool → Text → Read
map_read is_stem sources reserved first = (Some first, None, Some (flag is_stem), Some (flag sources), Some (flag reserved))

map_ends : (name : Text) (is_stem sources reserved : Bool) (first : Text)
    → Reads (map_job false name) (before_word (found is_stem sources reserved) (Some (codes "FIRST", first ∷ [])) 2) []
    (map_read is_stem sources reserved first)
unfolding clap_on_literals
map_ends name false false false first = record { taken = refl; met = refl }
map_ends name false false true first = record { taken = refl; met = refl }
map_ends name false true false first = record { taken = refl; met = refl }
map_ends name false true true first = record { taken = refl; met = refl }
map_ends name true false false first = record { taken = refl; met = refl }
map_ends name true false true first = record { taken = refl; met = refl }
map_ends name true true false first = record { taken = refl; met = refl }
map_ends name true true true first = record { taken = refl; met = refl }

pub map_is_read : (name : Text) (is_stem sources reserved : Bool) (first : Text) → IsNoFlag first
    → Reads (map_job false name) (before_word [] None 1) (stem_words is_stem ++ ((source_words sources ++ reserved_words reserved) ++ first ∷ []))
    (map_read is_stem sources reserved first)
map_is_read name is_stem sources reserved first f =
    after_flags false name (first ∷ []) _ is_stem sources reserved
    (step_then (map_job false name) _ _ first [] _ (plain_step (map_job false name) (found is_stem sources reserved) None 1 first _ f refl refl)
    (map_ends name is_stem sources reserved first))
