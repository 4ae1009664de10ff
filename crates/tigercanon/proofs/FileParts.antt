-- The bytes of a source that was read to its end, and the fault that is then recorded.
use Rattle.tigercanon.proofs.Common.{Consumes, Err, IfErr, IfSome, IsAtEnd, IsNotDevice, List, LoadFault, None, Ok, OnOk, Option, Result, RoseBy, Some, ap, append-nil, false, is_device_fault, mod-add-mod, refl, rules, subst, sym, ℕ, ◌++◌, ◌+◌, ◌∙◌, ◌∷◌, ◌≡◌}
use Rattle.tl_load.specs.declared.fault.LoadFault.TheVariants as faults

-- bytes taken to the end are all bytes
pub taken_all : (known left : Option (List ℕ)) (taken : List ℕ) → Consumes known left taken → IsAtEnd left
    → IfSome known (λ bytes. taken ≡ bytes)
taken_all None left taken c e = tt
taken_all (Some all) None taken c e = absurd c
taken_all (Some all) (Some rest) taken c e = sym (c ∙ ap (λ (l : List ℕ). taken ++ l) e ∙ append-nil taken)

-- equal lists have equal firsts and equal rests
pub head_of : {A : Type 0} (x y : A) (xs ys : List A) → x ∷ xs ≡ y ∷ ys → x ≡ y
head_of x y xs ys e = cc

pub tail_of : {A : Type 0} (x y : A) (xs ys : List A) → x ∷ xs ≡ y ∷ ys → xs ≡ ys
tail_of x y xs ys e = cc

-- ---- faults of devices

pub no_device_reported : (f : LoadFault) → (f ≡ faults.Device → ⊥) → is_device_fault f ≡ false
no_device_reported faults.Device h = absurd (h refl)
no_device_reported f h = refl

pub none_device : (o : Option LoadFault) → o ≡ None → IfSome o IsNotDevice
none_device None e = tt
none_device (Some f) e = absurd cc

-- the fault recorded after a step is not a device's: it was recorded before, or the step reported it
pub still_no_device : {L : Type 0} (fault_of : L → Option LoadFault) (before after : L) (r : Result (Unit {0}) LoadFault)
    → IfSome (fault_of before) IsNotDevice → OnOk r (fault_of after ≡ None) → IfErr r (λ f. fault_of after ≡ Some f)
    → (fault_of before ≡ None → IfErr r IsNotDevice) → IfSome (fault_of before) (λ f. (r ≡ Err f) × (after ≡ before))
    → IfSome (fault_of after) IsNotDevice
still_no_device fault_of before after (Ok x) was ok reported device stood = none_device (fault_of after) ok
still_no_device fault_of before after (Err f) was ok reported device stood =
    subst (λ o. IfSome o IsNotDevice) (sym reported) (go (fault_of before) refl was stood)
  where
    go : (o : Option LoadFault) → fault_of before ≡ o → IfSome o IsNotDevice
        → IfSome o (λ g. (◌≡◌ {A = Result (Unit {0}) LoadFault} (Err f) (Err g)) × (after ≡ before)) → IsNotDevice f
    go None e was stood = device e
    go (Some g) e was stood = let same : f ≡ g = cc in subst IsNotDevice (sym same) was

-- ---- counts of reads

pub rose_again : (a b c m n : ℕ) → RoseBy m a b → RoseBy n b c → RoseBy (m + n) a c
rose_again a b c m n p q = search (rules, mod-add-mod)
