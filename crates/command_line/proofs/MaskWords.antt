-- Arguments with a flag that leaves fields out, for a job that has no such flag.
use Rattle.command_line.proofs.Common.{Bool, Check, None, Respell, TakesNoMask, Text, UnknownArgument, [], codes, false, refl, reserved_words, source_words, stem_words, sym, true, ◌++◌, ◌∙◌, ◌∷◌, ◌≡◌}
use Rattle.command_line.proofs.UsualWords.Walking.{before_word, fault_after, fault_from, refused}
use Rattle.command_line.proofs.UsualWords.Entering.{job_fault}
use Rattle.command_line.proofs.UsualWords.OverOneSet.{set_job, set_stem}
use Rattle.command_line.proofs.UsualWords.Words.{flag_rows}
use Rattle.clap.proofs.OnLiterals.{clap_on_literals}
use Rattle.clap.specs.Faults.{turn_fault}

-- the subcommand knows neither flag
unknown_sources : (name : Text) (is_stem : Bool)
    → turn_fault (set_job name) [] (before_word (flag_rows (codes "stem") is_stem) None 1) (codes "--no-sources") ≡ UnknownArgument ∷ []
unfolding clap_on_literals
unknown_sources name false = refl
unknown_sources name true = refl

unknown_reserved : (name : Text) (is_stem : Bool)
    → turn_fault (set_job name) [] (before_word (flag_rows (codes "stem") is_stem) None 1) (codes "--no-reserved") ≡ UnknownArgument ∷ []
unfolding clap_on_literals
unknown_reserved name false = refl
unknown_reserved name true = refl

-- if a subcommand without these flags takes the arguments, none of the flags is among them
refuses_after : (name : Text) (is_stem sources reserved : Bool) (first : Text)
    → fault_from (set_job name) (before_word (flag_rows (codes "stem") is_stem) None 1) (source_words sources ++ (reserved_words reserved ++ first ∷ [])) ≡ []
    → (sources ≡ false) × (reserved ≡ false)
refuses_after name is_stem false false first taken = (refl, refl)
refuses_after name is_stem false true first taken = absurd (refused (set_job name) _ _ _ _ (unknown_reserved name is_stem) taken)
refuses_after name is_stem true reserved first taken = absurd (refused (set_job name) _ _ _ _ (unknown_sources name is_stem) taken)

refuses : (name : Text) (is_stem sources reserved : Bool) (first : Text)
    → fault_from (set_job name) (before_word [] None 1) (stem_words is_stem ++ (source_words sources ++ (reserved_words reserved ++ first ∷ []))) ≡ []
    → (sources ≡ false) × (reserved ≡ false)
refuses name false sources reserved first taken = refuses_after name false sources reserved first taken
refuses name true sources reserved first taken =
    refuses_after name true sources reserved first (sym (fault_after (set_job name) _ _ _ _ (set_stem name)) ∙ taken)

pub respell_takes_no_mask : TakesNoMask Respell
respell_takes_no_mask is_stem mask first plain taken =
    let none = refuses (codes "respell") is_stem mask.sources mask.reserved first (sym (job_fault Respell _) ∙ taken) in
    λ i. record { sources = none.0 i; reserved = none.1 i }

pub check_takes_no_mask : TakesNoMask Check
check_takes_no_mask is_stem mask first plain taken =
    let none = refuses (codes "check") is_stem mask.sources mask.reserved first (sym (job_fault Check _) ∙ taken) in
    λ i. record { sources = none.0 i; reserved = none.1 i }
