-- The usual arguments of compare are parsed as intended.
use Rattle.command_line.proofs.Common.{Bool, None, Some, Text, [], codes, false, refl, reserved_words, source_words, stem_words, true, ◌++◌, ◌∷◌}
use Rattle.command_line.proofs.UsualWords.Flags.{after_flags, found, map_job}
use Rattle.command_line.proofs.UsualWords.Walking.{Reads, Steps, before_word, plain_step, step_then}
use Rattle.command_line.proofs.UsualWords.Words.{IsNoFlag, Read, flag, value_rows}
use Rattle.clap.proofs.OnLiterals.{clap_on_literals}

-- what the parser reads from the arguments of compare
abbrev maps_read : Bool → Bool → Bool → Text → Text → Read
maps_read is_stem sources reserved first second = (Some first, Some second, Some (flag is_stem), Some (flag sources), Some (flag reserved))

maps_end : (name : Text) (is_stem sources reserved : Bool) (first second : Text)
    → Reads (map_job true name) (before_word (found is_stem sources reserved ++ value_rows (codes "FIRST") first) (Some (codes "SECOND", second ∷ [])) 3) []
    (maps_read is_stem sources reserved first second)
unfolding clap_on_literals
maps_end name false false false first second = record { taken = refl; met = refl }
maps_end name false false true first second = record { taken = refl; met = refl }
maps_end name false true false first second = record { taken = refl; met = refl }
maps_end name false true true first second = record { taken = refl; met = refl }
maps_end name true false false first second = record { taken = refl; met = refl }
maps_end name true false true first second = record { taken = refl; met = refl }
maps_end name true true false first second = record { taken = refl; met = refl }
maps_end name true true true first second = record { taken = refl; met = refl }

second_step : (name : Text) (is_stem sources reserved : Bool) (first second : Text) → IsNoFlag second
    → Steps (map_job true name) (before_word (found is_stem sources reserved) (Some (codes "FIRST", first ∷ [])) 2) second
    (before_word (found is_stem sources reserved ++ value_rows (codes "FIRST") first) (Some (codes "SECOND", second ∷ [])) 3)
second_step name false false false first second s = plain_step (map_job true name) (found false false false) _ 2 second _ s refl refl
second_step name false false true first second s = plain_step (map_job true name) (found false false true) _ 2 second _ s refl refl
second_step name false true false first second s = plain_step (map_job true name) (found false true false) _ 2 second _ s refl refl
second_step name false true true first second s = plain_step (map_job true name) (found false true true) _ 2 second _ s refl refl
second_step name true false false first second s = plain_step (map_job true name) (found true false false) _ 2 second _ s refl refl
second_step name true false true first second s = plain_step (map_job true name) (found true false true) _ 2 second _ s refl refl
second_step name true true false first second s = plain_step (map_job true name) (found true true false) _ 2 second _ s refl refl
second_step name true true true first second s = plain_step (map_job true name) (found true true true) _ 2 second _ s refl refl

pub maps_are_read : (name : Text) (is_stem sources reserved : Bool) (first second : Text) → IsNoFlag first → IsNoFlag second
    → Reads (map_job true name) (before_word [] None 1) (stem_words is_stem ++ ((source_words sources ++ reserved_words reserved) ++ first ∷ second ∷ []))
    (maps_read is_stem sources reserved first second)
maps_are_read name is_stem sources reserved first second f s =
    after_flags true name (first ∷ second ∷ []) _ is_stem sources reserved
    (step_then (map_job true name) _ _ first (second ∷ []) _ (plain_step (map_job true name) (found is_stem sources reserved) None 1 first _ f refl refl)
    (step_then (map_job true name) _ _ second [] _ (second_step name is_stem sources reserved first second s)
    (maps_end name is_stem sources reserved first second)))
