-- Places: reading them fails exactly at the leftmost faulty place.
use Rattle.std.proofs.Common.{Bool, Err, List, None, Ok, Option, Result, Some, [], ap, arith, cond, false, inl, inr, length, refl, subst, suc, sym, true, zero, ℕ, ◌*◌, ◌+◌, ◌<◌, ◌∷◌, ◌≡◌, ◌⊎◌}
use Rattle.tl_layout.specs.FieldFaults.{IsGap, IsPlaceFault, gap}
use Rattle.tl_layout.specs.FieldMeaning.{SpellsPlaces}
use Rattle.tl_layout.specs.FieldReading.{and_then, at_place, places_reading}
use Rattle.tl_layout.specs.Laws.FieldLaws.{reads_on}
use Rattle.tl_layout.specs.Laws.ValueLaws.{err_value, fails, fails_first}
use Rattle.tl_layout.specs.declared.fault.FieldFault.{FieldFault}

next_column : (column width before : ℕ) → column + width + width * before ≡ column + width * suc before
next_column column width before = grind arith

-- with no unused place before all places, one of them is unused if there are fewer items
fewer_items : (items before : ℕ) → (false ≡ true) ⊎ (items < before) → items < before
fewer_items items before (inl e) = absurd (cc)
fewer_items items before (inr h) = h

-- ---- faults of places with possibly an unused place before all of them

module _ {A : Type 0} (Spells : ℕ → Option A → Type 0) (Form : ℕ → FieldFault → Type 0) (width : ℕ) where
  -- the place is used after an unused one, which can be before all these places
  record IsGapBehind (after_unused : Bool) (column before : ℕ) (items : List A) (fault : FieldFault) : Type 0 where
    item : A
    used : Spells column (Some item)
    unused_before : (after_unused ≡ true) ⊎ (length items < before)
    reported : fault ≡ gap column

  abbrev IsAtFault : Bool → ℕ → ℕ → List A → FieldFault → Type 0
  IsAtFault after_unused column before items fault = Form column fault ⊎ IsGapBehind after_unused column before items fault

  -- the leftmost faulty place
  record IsFaultBehind (after_unused : Bool) (count column : ℕ) (fault : FieldFault) : Type 0 where
    before : ℕ
    is_place : before < count
    items : List A
    none_behind : after_unused ≡ true → items ≡ []
    spelled : SpellsPlaces Spells width before column items
    at_fault : IsAtFault after_unused (column + width * before) before items fault

  -- a fault stays one if an unused place is before it either way
  fault_still : {first_unused later_unused : Bool} {column before later : ℕ} {items more : List A} {fault : FieldFault}
      → ((first_unused ≡ true) ⊎ (length items < before) → (later_unused ≡ true) ⊎ (length more < later))
      → IsAtFault first_unused column before items fault → IsAtFault later_unused column later more fault
  fault_still unused (inl form) = inl form
  fault_still unused (inr g) =
      inr (record { item = g.item; used = g.used; unused_before = unused g.unused_before; reported = g.reported })

  -- the first place is at fault
  first_faulty : (after_unused : Bool) (count column : ℕ) (fault : FieldFault) → IsAtFault after_unused column 0 [] fault
      → IsFaultBehind after_unused (suc count) column fault
  first_faulty after_unused count column fault h =
      let here : column ≡ column + width * 0 = omega arith in
      record {
        before = 0;
        is_place = omega arith;
        items = [];
        none_behind = λ _. refl;
        spelled = tt;
        at_fault = subst (λ (c : ℕ). IsAtFault after_unused c 0 [] fault) here h;
      }

  -- a fault after an unused place
  behind_unused : (after_unused : Bool) (count column : ℕ) (fault : FieldFault) → Spells column None
      → IsFaultBehind true count (column + width) fault → IsFaultBehind after_unused (suc count) column fault
  behind_unused after_unused count column fault s f =
      let none : f.items ≡ [] = f.none_behind refl in
      record {
        before = suc f.before;
        is_place = (let h = f.is_place in omega arith);
        items = [];
        none_behind = λ _. refl;
        spelled = (s, subst (SpellsPlaces Spells width f.before (column + width)) none f.spelled);
        at_fault = subst (λ (c : ℕ). IsAtFault after_unused c (suc f.before) [] fault) (next_column column width f.before)
            (fault_still (λ _. inr (omega arith)) f.at_fault);
      }

  -- a fault after a used place
  behind_used : (count column : ℕ) (fault : FieldFault) (x : A) → Spells column (Some x)
      → IsFaultBehind false count (column + width) fault → IsFaultBehind false (suc count) column fault
  behind_used count column fault x s f =
      record {
        before = suc f.before;
        is_place = (let h = f.is_place in omega arith);
        items = x ∷ f.items;
        none_behind = λ e. (cc);
        spelled = (s, f.spelled);
        at_fault = subst (λ (c : ℕ). IsAtFault false c (suc f.before) (x ∷ f.items) fault) (next_column column width f.before)
            (fault_still (λ u. let fewer = fewer_items (length f.items) f.before u in inr (omega arith)) f.at_fault);
      }

  -- the fault of reading from a used place on
  used_fails : (count column : ℕ) (fault : FieldFault) (x : A) (after_unused : Bool) (rest : Result (List A) FieldFault)
      → Spells column (Some x) → (rest ≡ Err fault → IsFaultBehind false count (column + width) fault)
      → cond after_unused (Err (gap column)) (and_then rest (λ xs. Ok (x ∷ xs))) ≡ Err fault
      → IsFaultBehind after_unused (suc count) column fault
  used_fails count column fault x true rest s later h =
      first_faulty true count column fault
      (inr (record { item = x; used = s; unused_before = inl refl; reported = sym (err_value (gap column) fault h) }))
  used_fails count column fault x false rest s later h =
      behind_used count column fault x s (go (fails rest (λ xs. Ok (x ∷ xs)) fault h))
    where
      go : (rest ≡ Err fault) ⊎ ((xs : List A) × (rest ≡ Ok xs) × (◌≡◌ {A = Result (List A) FieldFault} (Ok (x ∷ xs)) (Err fault)))
          → IsFaultBehind false count (column + width) fault
      go (inl e) = later e
      go (inr r) = let differ : ◌≡◌ {A = Result (List A) FieldFault} (Ok (x ∷ r.0)) (Err fault) = r.2 in absurd (cc)

  place_fails : (count column : ℕ) (fault : FieldFault) (place : Option A) (after_unused : Bool) (unused used : Result (List A) FieldFault)
      → Spells column place → (unused ≡ Err fault → IsFaultBehind true count (column + width) fault)
      → (used ≡ Err fault → IsFaultBehind false count (column + width) fault)
      → at_place place unused (λ x. cond after_unused (Err (gap column)) (and_then used (λ xs. Ok (x ∷ xs)))) ≡ Err fault
      → IsFaultBehind after_unused (suc count) column fault
  place_fails count column fault None after_unused unused used s none some h = behind_unused after_unused count column fault s (none h)
  place_fails count column fault (Some x) after_unused unused used s none some h = used_fails count column fault x after_unused used s some h

-- ---- if reading fails, a place is at fault

module _ {A : Type 0} (reading : ℕ → Result (Option A) FieldFault) (Spells : ℕ → Option A → Type 0) (Form : ℕ → FieldFault → Type 0)
    (found : (column : ℕ) (place : Option A) → reading column ≡ Ok place → Spells column place)
    (form : (column : ℕ) (fault : FieldFault) → reading column ≡ Err fault → Form column fault) (width : ℕ) where
  fault_behind_found : (after_unused : Bool) (count column : ℕ) (fault : FieldFault)
      → places_reading reading width after_unused count column ≡ Err fault → IsFaultBehind Spells Form width after_unused count column fault
  unfolding places_reading
  fault_behind_found after_unused zero column fault h = absurd (cc)
  fault_behind_found after_unused (suc count) column fault h =
      elim (fails (reading column) _ fault h) [
        | inl e ↦ first_faulty Spells Form width after_unused count column fault (inl (form column fault e))
        | inr r ↦ place_fails Spells Form width count column fault r.0 after_unused _ _ (found column r.0 r.1)
            (fault_behind_found true count (column + width) fault) (fault_behind_found false count (column + width) fault) r.2
      ]

  -- the same with no unused place before all of them
  pub places_fault_found : (count first : ℕ) (fault : FieldFault) → places_reading reading width false count first ≡ Err fault
      → IsPlaceFault Spells Form width count first fault
  places_fault_found count first fault h =
      let f = fault_behind_found false count first fault h in
      record { before = f.before; is_place = f.is_place; items = f.items; spelled = f.spelled; at_fault = at _ f.before f.items f.at_fault }
    where
      at : (column before : ℕ) (items : List A) → IsAtFault Spells Form width false column before items fault
          → Form column fault ⊎ IsGap Spells column before items fault
      at column before items (inl f) = inl f
      at column before items (inr g) =
          inr (record { item = g.item; used = g.used; fewer = fewer_items _ before g.unused_before; reported = g.reported })

-- ---- if a place is at fault, reading fails

module _ {A : Type 0} (reading : ℕ → Result (Option A) FieldFault) (Spells : ℕ → Option A → Type 0) (Form : ℕ → FieldFault → Type 0)
    (only : (column : ℕ) (place : Option A) → Spells column place → reading column ≡ Ok place)
    (form : (column : ℕ) (fault : FieldFault) → Form column fault → reading column ≡ Err fault) (width : ℕ) where
  -- the first place is at fault
  at_first : (after_unused : Bool) (count column : ℕ) (fault : FieldFault) → IsAtFault Spells Form width after_unused column 0 [] fault
      → places_reading reading width after_unused (suc count) column ≡ Err fault
  unfolding places_reading
  at_first after_unused count column fault (inl f) = fails_first (reading column) _ fault (form column fault f)
  at_first true count column fault (inr g) =
      reads_on (reading column) _ (Some g.item) _ (only column (Some g.item) g.used) (ap (λ (f : FieldFault). Err f) (sym g.reported))
  at_first false count column fault (inr g) = let fewer = fewer_items 0 0 g.unused_before in absurd (omega arith)

  fault_behind_only : (after_unused : Bool) (count column before : ℕ) (items : List A) (fault : FieldFault) → before < count
      → (after_unused ≡ true → items ≡ []) → SpellsPlaces Spells width before column items
      → IsAtFault Spells Form width after_unused (column + width * before) before items fault
      → places_reading reading width after_unused count column ≡ Err fault
  unfolding places_reading
  fault_behind_only after_unused zero column before items fault lt none s f = absurd (omega arith)
  fault_behind_only after_unused (suc count) column zero [] fault lt none s f =
      let here : column + width * 0 ≡ column = omega arith in
      at_first after_unused count column fault (subst (λ (c : ℕ). IsAtFault Spells Form width after_unused c 0 [] fault) here f)
  fault_behind_only after_unused (suc count) column zero (x ∷ items) fault lt none s f = absurd s
  fault_behind_only after_unused (suc count) column (suc before) [] fault lt none s f =
      reads_on (reading column) _ None _ (only column None s.0)
      (fault_behind_only true count (column + width) before [] fault (omega arith) (λ _. refl) s.1
      (subst (λ (c : ℕ). IsAtFault Spells Form width true c before [] fault) (sym (next_column column width before))
      (fault_still Spells Form width (λ _. inl refl) f)))
  fault_behind_only true (suc count) column (suc before) (x ∷ items) fault lt none s f =
      let empty : x ∷ items ≡ [] = none refl in absurd (cc)
  fault_behind_only false (suc count) column (suc before) (x ∷ items) fault lt none s f =
      reads_on (reading column) _ (Some x) _ (only column (Some x) s.0)
      (fails_first _ _ fault (fault_behind_only false count (column + width) before items fault (omega arith) (λ e. (cc)) s.1
      (subst (λ (c : ℕ). IsAtFault Spells Form width false c before items fault) (sym (next_column column width before))
      (fault_still Spells Form width (λ u. let fewer = fewer_items _ _ u in inr (omega arith)) f))))

  pub places_fault_only : (count first : ℕ) (fault : FieldFault) → IsPlaceFault Spells Form width count first fault
      → places_reading reading width false count first ≡ Err fault
  places_fault_only count first fault f =
      fault_behind_only false count first f.before f.items fault f.is_place (λ e. (cc)) f.spelled (go f.at_fault)
    where
      go : Form (first + width * f.before) fault ⊎ IsGap Spells (first + width * f.before) f.before f.items fault
          → IsAtFault Spells Form width false (first + width * f.before) f.before f.items fault
      go (inl form) = inl form
      go (inr g) = inr (record { item = g.item; used = g.used; unused_before = inr g.fewer; reported = g.reported })
