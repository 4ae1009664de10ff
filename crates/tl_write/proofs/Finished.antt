-- A text that was written completely, or a beginning of it, with nothing in the buffer before.
use Rattle.std.proofs.Common.{Err, List, Ok, Result, [], ap, append-nil, arith, length, length-append, refl, subst, sym, take, ℕ, ◌++◌, ◌+◌, ◌-◌, ◌<◌, ◌^◌, ◌∙◌, ◌∷◌, ◌≡◌}
use Rattle.std.specs.Result.{IfErr, IfOk, MatchResult}
use Rattle.tl_write.specs.GoingOut.{HasCounted, HoldsBeginning, IsGoingOut, Waiting, up_to_most}
use Rattle.tl_write.specs.declared.fault.WriteFault.{WriteFault}

abbrev pub nothing_yet : Waiting
nothing_yet = record { waiting = []; sent = 0 }

taken_front : {X : Type 0} (xs ys : List X) → take (length xs) (xs ++ ys) ≡ xs
taken_front [] ys = refl
taken_front (x ∷ xs) ys = ap (λ zs. x ∷ zs) (taken_front xs ys)

module _ {W : Type 0} (holds : W → List ℕ → Type 0) where
  pub at_the_start : (held : List ℕ) (sink : W) → holds sink held → IsGoingOut holds held [] nothing_yet sink
  at_the_start held sink h = record {
    sent = [];
    text_is = refl;
    count = omega arith;
    arrived = subst (holds sink) (sym (append-nil held)) h;
  }

  pub none_counted : HasCounted 0 nothing_yet
  none_counted = record { sent = 0; count = omega arith; all = refl }

  -- the written bytes are counted, if they aren't too many to count
  pub begun : (held text : List ℕ) (written : ℕ) (sink : W) → length text < 2 ^ 64 - 1 → HoldsBeginning holds held text written sink
      → holds sink (held ++ take written text)
  begun held text written sink few h =
      let both : length text ≡ length h.sent + length h.rest = ap length h.text_is ∙ length-append h.sent h.rest in
      let count : written ≡ length h.sent = let c = h.count in omega (arith, c, both, few) in
      let front : take written text ≡ h.sent = ap (λ n. take n text) count ∙ ap (take (length h.sent)) h.text_is ∙ taken_front h.sent h.rest
      in
      subst (λ t. holds sink (held ++ t)) (sym front) h.arrived

  -- for a finished text
  pub whole_length : (text : List ℕ) → length text < 2 ^ 64 - 1 → (result : Result ℕ WriteFault)
      → MatchResult result (λ n. n ≡ up_to_most (length text)) (λ f. f.written < length text) → IfOk result (λ n. n ≡ length text)
  whole_length text few (Ok n) h = omega (arith, h, few)
  whole_length text few (Err f) h = tt

  pub whole_short : (text : List ℕ) (result : Result ℕ WriteFault)
      → MatchResult result (λ n. n ≡ up_to_most (length text)) (λ f. f.written < length text) → IfErr result (λ f. f.written < length text)
  whole_short text (Ok n) h = tt
  whole_short text (Err f) h = h

  pub whole_bytes : (held text : List ℕ) (sink : W) → length text < 2 ^ 64 - 1 → (result : Result ℕ WriteFault)
      → MatchResult result (λ n. holds sink (held ++ text) × (n ≡ up_to_most (length text)))
      (λ f. HoldsBeginning holds held text f.written sink)
      → MatchResult result (λ _. holds sink (held ++ text)) (λ f. holds sink (held ++ take f.written text))
  whole_bytes held text sink few (Ok n) h = h.0
  whole_bytes held text sink few (Err f) h = begun held text f.written sink few h
