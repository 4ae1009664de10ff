-- Taking records one after another is taking them together.
use Rattle.std.proofs.Common.{Err, List, Ok, Result, [], ap, append-nil, append_assoc, arith, length, length-append, refl, subst, sym, ℕ, ◌++◌, ◌+◌, ◌<◌, ◌∙◌, ◌∷◌, ◌≡◌}
use Rattle.tl_layout.specs.RecordText.{spelling_of, text_of}
use Rattle.tl_layout.specs.declared.record_type.Record.{Record}
use Rattle.tl_write.specs.GoingOut.{HasCounted, HoldsBeginning, IsGoingOut, Waiting}
use Rattle.tl_write.specs.Taking.{ListsRecords, PutsText}
use Rattle.tl_write.specs.declared.fault.WriteFault.{WriteFault}

-- the text of one list after another
pub text_of-append : (xs ys : List Record) → text_of (xs ++ ys) ≡ text_of xs ++ text_of ys
text_of-append [] ys = refl
text_of-append (x ∷ xs) ys = ap (λ t. (spelling_of x ++ 10 ∷ []) ++ t) (text_of-append xs ys)
    ∙ sym (append_assoc (spelling_of x ++ 10 ∷ []) (text_of xs) (text_of ys))

-- a sink that holds the beginning of a text holds the beginning of any continuation
longer : {W : Type 0} (holds : W → List ℕ → Type 0) (held text more : List ℕ) (written : ℕ) (sink : W)
    → HoldsBeginning holds held text written sink → HoldsBeginning holds held (text ++ more) written sink
longer holds held text more written sink h = record {
  sent = h.sent;
  rest = h.rest ++ more;
  text_is = ap (λ t. t ++ more) h.text_is ∙ append_assoc h.sent h.rest more;
  some_left = more_left h.rest h.some_left;
  count = h.count;
  arrived = h.arrived;
}
  where
    more_left : (rest : List ℕ) → 0 < length rest → 0 < length (rest ++ more)
    more_left [] l = absurd (omega (arith, l))
    more_left (x ∷ xs) l = omega arith

module _ {W : Type 0} (failed : W → ℕ) (holds : W → List ℕ → Type 0) where
  -- appending two texts one after another is appending both together
  behind_both : (xs ys : List Record) (text : List ℕ) → (text ++ text_of xs) ++ text_of ys ≡ text ++ text_of (xs ++ ys)
  behind_both xs ys text = append_assoc text (text_of xs) (text_of ys) ∙ ap (λ t. text ++ t) (sym (text_of-append xs ys))

  both_lengths : (xs ys : List Record) → length (text_of (xs ++ ys)) ≡ length (text_of xs) + length (text_of ys)
  both_lengths xs ys = ap length (text_of-append xs ys) ∙ length-append (text_of xs) (text_of ys)

  pub puts_none : (a : Waiting) (d : W) → PutsText failed holds (text_of []) a d (Ok tt) a d
  puts_none a d = record {
    failures = refl;
    counted = λ total h. subst (λ n. HasCounted n a) (let e : total ≡ total + length (text_of []) = omega arith in e) h;
    bytes = λ held text h. subst (λ t. IsGoingOut holds held t a d) (sym (append-nil text)) h;
  }

  pub puts_then : (xs ys : List Record) (a b c : Waiting) (d e f : W) (result : Result (Unit {0}) WriteFault)
      → PutsText failed holds (text_of xs) a d (Ok tt) b e → PutsText failed holds (text_of ys) b e result c f
      → PutsText failed holds (text_of (xs ++ ys)) a d result c f
  puts_then xs ys a b c d e f (Ok t) first next = record {
    failures = next.failures ∙ first.failures;
    counted = λ total h. subst (λ n. HasCounted n c)
        (let g : (total + length (text_of xs)) + length (text_of ys) ≡ total + length (text_of (xs ++ ys)) =
        omega (arith, both_lengths xs ys) in g)
        (next.counted (total + length (text_of xs)) (first.counted total h));
    bytes = λ held text h. subst (λ t. IsGoingOut holds held t c f) (behind_both xs ys text)
        (next.bytes held (text ++ text_of xs) (first.bytes held text h));
  }
  puts_then xs ys a b c d e f (Err fault) first next = record {
    failures = next.failures ∙ ap (λ n. n + 1) first.failures;
    counted = λ total h. omega (arith, both_lengths xs ys, next.counted (total + length (text_of xs)) (first.counted total h));
    bytes = λ held text h. subst (λ t. HoldsBeginning holds held t fault.written f) (behind_both xs ys text)
        (next.bytes held (text ++ text_of xs) (first.bytes held text h));
  }

  pub puts_stops : (xs ys : List Record) (a b : Waiting) (d e : W) (fault : WriteFault)
      → PutsText failed holds (text_of xs) a d (Err fault) b e → PutsText failed holds (text_of (xs ++ ys)) a d (Err fault) b e
  puts_stops xs ys a b d e fault stopped = record {
    failures = stopped.failures;
    counted = λ total h. omega (arith, both_lengths xs ys, stopped.counted total h);
    bytes = λ held text h. subst (λ t. HoldsBeginning holds held t fault.written e) (behind_both xs ys text)
        (longer holds held (text ++ text_of xs) (text_of ys) fault.written e (stopped.bytes held text h));
  }

  -- the sink failed before the line of a record
  pub puts_nothing : (r : Record) (a b : Waiting) (d e : W) (fault : WriteFault) → failed e ≡ failed d + 1
      → ((total : ℕ) → HasCounted total a → fault.written < total)
      → ((held text : List ℕ) → IsGoingOut holds held text a d → HoldsBeginning holds held text fault.written e)
      → PutsText failed holds (text_of (r ∷ [])) a d (Err fault) b e
  puts_nothing r a b d e fault failures counted sent = record {
    failures = failures;
    counted = λ total h. omega (arith, counted total h);
    bytes = λ held text h. longer holds held text (text_of (r ∷ [])) fault.written e (sent held text h);
  }

  -- the line of one record, after the waiting bytes were sent if there wasn't enough space for it
  pub puts_line : (r : Record) (spelling : List ℕ) → spelling_of r ≡ spelling → (a b c : Waiting) (d e : W) → failed e ≡ failed d
      → ((total : ℕ) → HasCounted total a → HasCounted total b)
      → ((held text : List ℕ) → IsGoingOut holds held text a d → IsGoingOut holds held text b e)
      → c ≡ record { waiting = b.waiting ++ (spelling ++ 10 ∷ []); sent = b.sent }
      → PutsText failed holds (text_of (r ∷ [])) a d (Ok tt) c e
  puts_line r spelling same a b c d e failures counted sent appended = record {
    failures = failures;
    counted = λ total h. let k = counted total h in record {
      sent = k.sent;
      count = sent_is ∙ k.count;
      all = omega (arith, k.all, ap length waiting_is, length-append b.waiting line, ap length line_is);
    };
    bytes = λ held text h. let k = sent held text h in record {
      sent = k.sent;
      text_is = (λ i. k.text_is i ++ line_is i) ∙ append_assoc k.sent b.waiting line ∙ ap (λ w. k.sent ++ w) (sym waiting_is);
      count = sent_is ∙ k.count;
      arrived = k.arrived;
    };
  }
    where
      line : List ℕ
      line = spelling ++ 10 ∷ []

      line_is : text_of (r ∷ []) ≡ line
      line_is = append-nil (spelling_of r ++ 10 ∷ []) ∙ ap (λ s. s ++ 10 ∷ []) same

      sent_is : c.sent ≡ b.sent
      sent_is = ap (λ (w : Waiting). w.sent) appended

      waiting_is : c.waiting ≡ b.waiting ++ line
      waiting_is = ap (λ (w : Waiting). w.waiting) appended

pub lists_then : (E : Type 0) (xs ys a b c : List Record) (result : Result (Unit {0}) E) → ListsRecords {E = E} xs a (Ok tt) b
    → ListsRecords ys b result c → ListsRecords (xs ++ ys) a result c
lists_then E xs ys a b c (Ok t) one two = two ∙ ap (λ l. l ++ ys) one ∙ append_assoc a xs ys
lists_then E xs ys a b c (Err e) one two = tt
