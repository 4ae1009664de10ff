-- The results of clap's getters, by the values that clap found.
use Rattle.command_line.proofs.Common.{App, AreUnderstood, Bool, Bor, Box, Err, Error, Found, HasMatchesOf, IsFlagGiven, Job, List, None, Ok, OnOk, Option, OutOfMemory, Result, Row, Some, SubCommand, Text, [], ap, box_value, codes, false, fault_of, first_of, first_value, first_value-rows, found_of, inl, inr, is_simple, is_simple_and_free, kind_of, one_of, one_text, one_text-rows, option_map, out-ArgMatches, out-SubCommand, refl, rows_of, subcommand_name_of, subcommand_of, subst, sym, true, understood, ◌∙◌, ◌≡◌}
use Rattle.clap.specs.Simple.{subcommand_rows, subcommand_rows_of}
use Rattle.clap.specs.Words.{HasKind}
use Rattle.clap.specs.declared.parser.matches.ArgMatches.{ArgMatches}

-- the value of an argument
pub value_given : (found : Found) (id : Text) (r : Option (Bor Text)) (value : Bor Text)
    → option_map (λ (s : Bor Text). s.now) r ≡ first_value found id → r ≡ Some value → first_of id (rows_of found) ≡ Some value.now
value_given found id r value e is = sym (first_value-rows found id) ∙ sym e ∙ ap (option_map (λ (s : Bor Text). s.now)) is

-- an argument without a value
pub none_given : (found : Found) (id : Text) (r : Option (Bor Text)) (value : Text)
    → option_map (λ (s : Bor Text). s.now) r ≡ first_value found id → r ≡ None → first_of id (rows_of found) ≡ Some value → ⊥
none_given found id r value e is given =
    let same : option_map (λ (s : Bor Text). s.now) r ≡ Some value = e ∙ first_value-rows found id ∙ given in
    let none : None ≡ Some value = sym (ap (option_map (λ (s : Bor Text). s.now)) is) ∙ same in
    absurd cc

-- clap parses this grammar exactly
simple : is_simple_and_free understood ≡ true
simple = refl

-- for a valid command line, running out of memory is the only error
pub memory_alone : (app : App) (words : List Text) (e : Error) → app ≡ understood
    → (is_simple_and_free app ≡ true → HasKind (fault_of app words) e) → AreUnderstood words → kind_of e ≡ OutOfMemory
memory_alone app words e is kinds none =
    go (subst (λ k. HasKind k e) (ap (λ a. fault_of a words) is ∙ none) (kinds (ap is_simple_and_free is ∙ simple)))
  where
    go : HasKind [] e → kind_of e ≡ OutOfMemory
    go (inl h) = h
    go (inr h) = absurd h

-- arguments that were parsed without error are a valid command line
pub read_well : {T P : Type 0} (app : App) (words : List Text) (r : Result T P) → app ≡ understood
    → (is_simple_and_free app ≡ true → fault_of app words ≡ []) → OnOk r (AreUnderstood words)
read_well app words (Ok done) is kinds = sym (ap (λ a. fault_of a words) is) ∙ kinds (ap is_simple_and_free is ∙ simple)
read_well app words (Err e) is kinds = tt

pub one_job : (a b : Job) → Some a ≡ Some b → b ≡ a
one_job a b e = cc

-- a flag
pub flag_given : (found : Found) (id : Text) (b : Bool) → (one_text found id ≡ None → b ≡ false)
    → (one_text found id ≡ Some (codes "true") → b ≡ true) → (one_text found id ≡ Some (codes "false") → b ≡ false)
    → IsFlagGiven (one_of id (rows_of found)) b
flag_given found id b none on off =
    subst (λ flag. IsFlagGiven flag b) (one_text-rows found id) (record { given = on; left_out = off; unknown = none })

-- the subcommand that was found, in two parts, is the subcommand that the parser met
module _ {Z : Type 0} where
  met_in : (sub : Option (Box SubCommand Z)) (name : Text) (rows : List Row)
      → option_map (λ (b : Box SubCommand Z). (out-SubCommand (box_value b)).name.now) sub ≡ Some name
      → option_map (λ (p : Text × List Row). p.1) (subcommand_rows sub) ≡ Some rows → subcommand_rows sub ≡ Some (name, rows)
  met_in None name rows e f = absurd cc
  met_in (Some b) name rows e f =
      let same : (out-SubCommand (box_value b)).name.now ≡ name = cc in
      let found : rows_of (found_of (out-SubCommand (box_value b)).matches) ≡ rows = cc in
      λ i. Some (same i, found i)

pub met_of : (m : ArgMatches) (name : Bor Text) (given : Bor ArgMatches) (r : Option (Bor Text × Bor ArgMatches)) → r ≡ Some (name, given)
    → option_map (λ (p : Bor Text × Bor ArgMatches). p.0.now) r ≡ subcommand_name_of m
    → option_map (λ (p : Bor Text × Bor ArgMatches). rows_of (found_of p.1.now)) r
    ≡ option_map (λ (p : Text × List Row). p.1) (subcommand_rows_of m)
    → subcommand_rows_of m ≡ Some (name.now, rows_of (found_of given.now))
met_of m name given r found names rows =
    met_in (out-ArgMatches m).subcommand name.now (rows_of (found_of given.now))
    (sym names ∙ ap (option_map (λ (p : Bor Text × Bor ArgMatches). p.0.now)) found)
    (sym rows ∙ ap (option_map (λ (p : Bor Text × Bor ArgMatches). rows_of (found_of p.1.now))) found)

-- the subcommand that the parser met is the one in the arguments
pub met_in_words : (app : App) (words : List Text) (m : ArgMatches) → app ≡ understood → HasMatchesOf app words m
    → subcommand_rows_of m ≡ subcommand_of understood words
met_in_words app words m is has = (has (ap is_simple is ∙ refl)).1 ∙ ap (λ a. subcommand_of a words) is
