-- A loader of a list of records is a loader over a collector that holds that list.
use Rattle.tl_load.proofs.Common.{AreCounted, Err, Global, IfOk, IfSome, List, LoadFault, Loaded, LoadedInto, None, Ok, Option, Record, Result, Some, Vec, WasFed, WasFedInto, rules, seen, subst, sym, ℕ, ◌≡◌}

abbrev pub Records : Type 0
Records = Vec Record Global

abbrev pub holds_list : Records → List Record → Type 0
holds_list kept records = kept.items ≡ records

abbrev pub listed : LoadedInto Records → Loaded
listed l = seen l l.kept.items

-- if there is no recorded fault, the list is counted
abbrev pub IsListed : LoadedInto Records → Type 0
IsListed l = l.fault ≡ None → AreCounted l.counts l.kept.items

pub into_of : (limit : ℕ) (l : LoadedInto Records) (closed : List (List ℕ)) (open_part : List ℕ) → IsListed l
    → WasFed limit (listed l) closed open_part → WasFedInto holds_list limit l closed open_part
into_of limit l closed open_part counted w = search rules

pub of_into : (limit : ℕ) (l : LoadedInto Records) (closed : List (List ℕ)) (open_part : List ℕ)
    → WasFedInto holds_list limit l closed open_part → WasFed limit (listed l) closed open_part
of_into limit l closed open_part w = search rules

pub at_fault : {A : Type 0} (P : A → Type 0) (o : Option A) (x : A) → o ≡ Some x → IfSome o P → P x
at_fault P None x e h = absurd cc
at_fault P (Some y) x e h = let same : y ≡ x = cc in subst P same h

-- ---- the results of whole calls

pub found_list : (P : List Record → Type 0) (r : Result Records LoadFault)
    → IfOk r (λ kept. (records : List Record) × holds_list kept records × P records) → IfOk r (λ kept. P kept.items)
found_list P (Ok kept) h = subst P (sym h.1) h.2
found_list P (Err f) h = tt

pub also : (P Q : List Record → Type 0) (r : Result Records LoadFault) → ((records : List Record) → P records → Q records)
    → IfOk r (λ kept. P kept.items) → IfOk r (λ kept. Q kept.items)
also P Q (Ok kept) step h = step kept.items h
also P Q (Err f) step h = tt
