-- The usual command lines are valid, and their plans are as they describe them.
use Rattle.command_line.proofs.Common.{AreSecondOf, AreUsualWordsPlanned, Bool, Check, Compare, Fingerprint, HasFilesOf, IsFlagGiven, IsMaskGiven, IsPlanOf, Job, List, Mask, MayLeaveOut, NamesItsSets, None, Normalise, Option, Plan, Respell, Row, Some, Text, [], ap, arith, codes, false, first_of, map, mask_words, one_of, refl, second_files, set_words, slice_index, stem_words, string_bytes, subst, sym, true, unwrap_or, ◌++◌, ◌∙◌, ◌≡◌}
use Rattle.command_line.proofs.UsualWords.Words.{IsNoFlag, Read, flag, mask_flag, no_flag, read, second_of}
use Rattle.command_line.proofs.UsualWords.Comparing.{maps_are_read}
use Rattle.command_line.proofs.UsualWords.Entering.{grammar_of, job_fault, job_subcommand, prepared}
use Rattle.command_line.proofs.UsualWords.OverOneSet.{map_is_read, set_is_read}
use Rattle.command_line.proofs.UsualWords.Walking.{Reads, before_word}

-- a flag that was given and one that wasn't have different values
values_apart : Some (codes "true") ≡ Some (codes "false") → ⊥
values_apart same =
    let first : 116 ≡ 102 = ap (λ (t : Option Text). slice_index (unwrap_or t []) 0) same in
    absurd (omega (arith, first))

-- whether a flag was given
flag_read : (o : Option Text) (is_given : Bool) → o ≡ Some (flag is_given) → IsFlagGiven o is_given
flag_read o true e = record { given = λ h. refl; left_out = λ h. absurd (values_apart (sym e ∙ h)); unknown = λ h. absurd cc }
flag_read o false e = record { given = λ h. absurd (values_apart (sym h ∙ e)); left_out = λ h. refl; unknown = λ h. absurd cc }

no_flag_read : (o : Option Text) → o ≡ None → IsFlagGiven o false
no_flag_read o e = record { given = λ h. absurd cc; left_out = λ h. refl; unknown = λ h. refl }

mask_read : (rows : List Row) (job : Job) (mask : Mask) → MayLeaveOut job mask
    → one_of (codes "no-sources") rows ≡ mask_flag job mask.sources → one_of (codes "no-reserved") rows ≡ mask_flag job mask.reserved
    → IsMaskGiven rows mask
mask_read rows Respell mask none e e' = subst (IsMaskGiven rows) (sym none) (record { sources = no_flag_read _ e; reserved = no_flag_read _ e' })
mask_read rows Check mask none e e' = subst (IsMaskGiven rows) (sym none) (record { sources = no_flag_read _ e; reserved = no_flag_read _ e' })
mask_read rows Normalise mask may e e' = record { sources = flag_read _ mask.sources e; reserved = flag_read _ mask.reserved e' }
mask_read rows Fingerprint mask may e e' = record { sources = flag_read _ mask.sources e; reserved = flag_read _ mask.reserved e' }
mask_read rows Compare mask may e e' = record { sources = flag_read _ mask.sources e; reserved = flag_read _ mask.reserved e' }

second_read : (rows : List Row) (job : Job) (is_stem : Bool) (second : Text) (names : List Text)
    → first_of (codes "SECOND") rows ≡ second_of job second → names ≡ second_files job is_stem second → AreSecondOf rows job is_stem names
second_read rows Compare is_stem second names given named = record { name = second; given = given; named = named }
second_read rows Respell is_stem second names given named = named
second_read rows Normalise is_stem second names given named = named
second_read rows Check is_stem second names given named = named
second_read rows Fingerprint is_stem second names given named = named

-- the arguments after the name of the job, as the parser reads them
abbrev arguments : Job → Bool → Mask → Text → Text → List Text
arguments job is_stem mask first second = stem_words is_stem ++ (mask_words job mask ++ set_words job first second)

abbrev reported : Job → Bool → Mask → Text → Text → Read
reported job is_stem mask first second =
    (Some first, second_of job second, Some (flag is_stem), mask_flag job mask.sources, mask_flag job mask.reserved)

are_read : (job : Job) (is_stem : Bool) (mask : Mask) (first second : Text) → IsNoFlag first → IsNoFlag second
    → Reads (prepared (grammar_of job)) (before_word [] None 1) (arguments job is_stem mask first second) (reported job is_stem mask first second)
are_read Respell is_stem mask first second f s = set_is_read (codes "respell") is_stem first f
are_read Check is_stem mask first second f s = set_is_read (codes "check") is_stem first f
are_read Normalise is_stem mask first second f s = map_is_read (codes "normalise") is_stem mask.sources mask.reserved first f
are_read Fingerprint is_stem mask first second f s = map_is_read (codes "fingerprint") is_stem mask.sources mask.reserved first f
are_read Compare is_stem mask first second f s = maps_are_read (codes "compare") is_stem mask.sources mask.reserved first second f s

names_sets : (rows : List Row) (plan : Plan) (is_stem : Bool) (first second : Text)
    → read rows ≡ reported plan.job is_stem plan.mask first second → HasFilesOf is_stem first second plan → MayLeaveOut plan.job plan.mask
    → NamesItsSets rows plan
names_sets rows plan is_stem first second e files may = record {
  is_stem = is_stem;
  flag = flag_read _ is_stem (ap (λ r. r.2) e);
  mask = mask_read rows plan.job plan.mask may (ap (λ r. r.3) e) (ap (λ r. r.4) e);
  first = record { name = first; given = ap (λ r. r.0) e; named = files.first_files };
  second = second_read rows plan.job is_stem second (map string_bytes plan.second.items) (ap (λ r. r.1) e) files.second_files_too;
}

pub usual_words_planned : AreUsualWordsPlanned
usual_words_planned plan is_stem first second f s files may =
    let words = arguments plan.job is_stem plan.mask first second in
    let are = are_read plan.job is_stem plan.mask first second (no_flag first f) (no_flag second s) in (
      job_fault plan.job words ∙ are.taken,
      subst (λ o. IsPlanOf o plan) (sym (job_subcommand plan.job words)) (refl, names_sets _ plan is_stem first second are.met files may),
    )
