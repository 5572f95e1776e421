-- What is found at a kind's number: document 01's number and the kind of each case. Assumes nothing.
use Rattle.std.specs.Prelude.{ℕ, ◌<◌, ◌≡◌, true, false, cond, List, ◌⊎◌, length}
use Rattle.std.proofs.Common.{arith, inl, inr, ltb-false, sym}
use Rattle.std.proofs.Math.ListN.{get_or-eq_default}
use Rattle.std.proofs.lemmas.Bool.{lt-leb}
use Rattle.std.specs.Prelude.{Result, Ok, Err}
use Rattle.machine.specs.declared.part.Kind.{Kind}
use Rattle.machine.specs.declared.part.UnknownKind.{UnknownKind}
use Rattle.machine.specs.declared.part.Kind.TheVariants.{Constant}
use Rattle.machine.specs.declared.part.Component.{Component}
use Rattle.machine.specs.Kind.{KindFound, kinds, kind_known, kind_of}
use Rattle.machine.specs.Model.{most_parts}
use Rattle.machine.specs.Load.{part_refusal}
use Rattle.laws.specs.Bools.{either}

-- the number of each case: 0 for a kind, which is no refusal; "kind .. unknown" is 5
abbrev pub found_number : Result Kind UnknownKind → ℕ
found_number (Ok k) = 0
found_number (Err unknown) = 5

-- the number is the one that loading refuses a Part of an unknown kind with, where there is room for it
pub unknown_refused : (cs : List Component) (n : ℕ) (c : Component) → length cs < most_parts → kind_known n ≡ false →
    part_refusal cs n c ≡ found_number (Err (record { 0 = n }))
unfolding part_refusal
unknown_refused cs n c room unknown = rw (lt-leb most_parts (length cs) room, unknown)

-- the kind of each case; where none is found, the one that `kind_of` has for a number without a kind
abbrev pub found_kind : Result Kind UnknownKind → Kind
found_kind (Ok k) = k
found_kind (Err unknown) = Constant

-- what is found at a number: its refusal, and the kind with that number
pub record KindMeant (n : ℕ) (r : Result Kind UnknownKind) : Type 0 where
  pub number : found_number r ≡ cond (kind_known n) 0 5
  pub kind : found_kind r ≡ kind_of n

-- a number that no kind has means the first kind
pub none_has : (n : ℕ) → kind_known n ≡ false → kind_of n ≡ Constant
unfolding kind_known kind_of
none_has n unknown = get_or-eq_default kinds Constant (ltb-false n 13 unknown)

-- by cases: the kind with that number, or that there is none
abbrev pub KindCases : ℕ → Result Kind UnknownKind → Type 0
KindCases n (Ok k) = (kind_known n ≡ true) × (k ≡ kind_of n)
KindCases n (Err unknown) = kind_known n ≡ false

-- what the conversion finds means that
pub kind_meant : {n : ℕ} {r : Result Kind UnknownKind} → KindFound n r → KindMeant n r
kind_meant {n} {r = Ok k} h = record { number = rw h.0; kind = h.1 }
kind_meant {n} {r = Err unknown} h = record { number = rw h.0; kind = sym (none_has n h.0) }

-- by the number: 0 where there is a kind, 5 where there is none
kind_there : (n : ℕ) → ◌≡◌ {A = ℕ} 0 (cond (kind_known n) 0 5) → kind_known n ≡ true
kind_there n h = by_test (either (kind_known n))
  where
    by_test : (kind_known n ≡ true) ⊎ (kind_known n ≡ false) → kind_known n ≡ true
    by_test (inl e) = e
    by_test (inr e) = absurd (omega (arith, rw e at h))

none_there : (n : ℕ) → ◌≡◌ {A = ℕ} 5 (cond (kind_known n) 0 5) → kind_known n ≡ false
none_there n h = by_test (either (kind_known n))
  where
    by_test : (kind_known n ≡ true) ⊎ (kind_known n ≡ false) → kind_known n ≡ false
    by_test (inl e) = absurd (omega (arith, rw e at h))
    by_test (inr e) = e

-- the other way round, by cases
pub kind_cases : {n : ℕ} {r : Result Kind UnknownKind} → KindMeant n r → KindCases n r
kind_cases {n} {r = Ok k} h = (kind_there n h.number, h.kind)
kind_cases {n} {r = Err unknown} h = none_there n h.number
