-- The flags of a subcommand that prints or compares maps.
use Rattle.command_line.proofs.Common.{App, Bool, List, None, Row, Shape, Text, [], codes, false, over_one_set, over_two_sets, refl, reserved_words, source_words, stem_words, true, with_mask, ◌++◌}
use Rattle.command_line.proofs.UsualWords.Walking.{Reads, Steps, before_word, step_then}
use Rattle.command_line.proofs.UsualWords.Entering.{prepared}
use Rattle.command_line.proofs.UsualWords.Words.{Read, flag_rows}
use Rattle.clap.proofs.OnLiterals.{clap_on_literals}

-- a subcommand over two sets, or over one
abbrev over : Bool → Text → App
over false = over_one_set
over true = over_two_sets

abbrev pub map_job : Bool → Text → Shape
map_job two name = prepared (with_mask (over two name))

-- what is found of the flags
abbrev pub found : Bool → Bool → Bool → List Row
found is_stem sources reserved = flag_rows (codes "stem") is_stem ++ (flag_rows (codes "no-sources") sources ++ flag_rows (codes "no-reserved") reserved)

stem_step : (two : Bool) (name : Text) → Steps (map_job two name) (before_word [] None 1) (codes "--stem") (before_word (found true false false) None 1)
unfolding clap_on_literals
stem_step false name = record { passes = refl; steps = refl }
stem_step true name = record { passes = refl; steps = refl }

sources_step : (two is_stem : Bool) (name : Text)
    → Steps (map_job two name) (before_word (found is_stem false false) None 1) (codes "--no-sources") (before_word (found is_stem true false) None 1)
unfolding clap_on_literals
sources_step false false name = record { passes = refl; steps = refl }
sources_step false true name = record { passes = refl; steps = refl }
sources_step true false name = record { passes = refl; steps = refl }
sources_step true true name = record { passes = refl; steps = refl }

reserved_step : (two is_stem sources : Bool) (name : Text)
    → Steps (map_job two name) (before_word (found is_stem sources false) None 1) (codes "--no-reserved") (before_word (found is_stem sources true) None 1)
unfolding clap_on_literals
reserved_step false false false name = record { passes = refl; steps = refl }
reserved_step false false true name = record { passes = refl; steps = refl }
reserved_step false true false name = record { passes = refl; steps = refl }
reserved_step false true true name = record { passes = refl; steps = refl }
reserved_step true false false name = record { passes = refl; steps = refl }
reserved_step true false true name = record { passes = refl; steps = refl }
reserved_step true true false name = record { passes = refl; steps = refl }
reserved_step true true true name = record { passes = refl; steps = refl }

-- the flags are read, and then the remaining arguments
module _ (two : Bool) (name : Text) (rest : List Text) (wanted : Read) where
  after_reserved : (is_stem sources reserved : Bool) → Reads (map_job two name) (before_word (found is_stem sources reserved) None 1) rest wanted
      → Reads (map_job two name) (before_word (found is_stem sources false) None 1) (reserved_words reserved ++ rest) wanted
  after_reserved is_stem sources false reads = reads
  after_reserved is_stem sources true reads = step_then (map_job two name) _ _ _ rest wanted (reserved_step two is_stem sources name) reads

  after_sources : (is_stem sources reserved : Bool) → Reads (map_job two name) (before_word (found is_stem sources reserved) None 1) rest wanted
      → Reads (map_job two name) (before_word (found is_stem false false) None 1) ((source_words sources ++ reserved_words reserved) ++ rest) wanted
  after_sources is_stem false reserved reads = after_reserved is_stem false reserved reads
  after_sources is_stem true reserved reads =
      step_then (map_job two name) _ _ _ (reserved_words reserved ++ rest) wanted (sources_step two is_stem name) (after_reserved is_stem true reserved reads)

  pub after_flags : (is_stem sources reserved : Bool) → Reads (map_job two name) (before_word (found is_stem sources reserved) None 1) rest wanted
      → Reads (map_job two name) (before_word [] None 1) (stem_words is_stem ++ ((source_words sources ++ reserved_words reserved) ++ rest)) wanted
  after_flags false sources reserved reads = after_sources false sources reserved reads
  after_flags true sources reserved reads =
      step_then (map_job two name) _ _ _ ((source_words sources ++ reserved_words reserved) ++ rest) wanted (stem_step two name) (after_sources true sources reserved reads)
