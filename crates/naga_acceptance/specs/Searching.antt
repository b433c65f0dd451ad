-- How a first fault is looked for: test by test, and item by item.
--
-- Throughout, fault is what is told of an item that fails its test, further is what is found
-- further on, h is a handle, and p an item with its handle (ps are several).
use Rattle.std.specs.Prelude.{ℕ, Bool, true, false, List, [], ◌∷◌, Option, Some, None}

-- the fault where the test fails, and else what is found further on
abbrev pub unless : {F : Type 0} → (test : Bool) → (fault : F) → (further : Option F) → Option F
unless true fault further = further
unless false fault further = Some fault

-- the handle of the first item that fails
abbrev pub first_unfit : {X : Type 0} → (ℕ → X → Bool) → List (ℕ × X) → Option ℕ
first_unfit test [] = None
first_unfit test (p ∷ ps) = unless (test p.0 p.1) p.0 (first_unfit test ps)

-- the handle with the fault of what it names, if there is one, and else what is found further on
abbrev pub or_further : {F : Type 0} → Option F → (h : ℕ) → Option (ℕ × F) → Option (ℕ × F)
or_further None h further = further
or_further (Some fault) h further = Some (h, fault)

-- the first item of which there is a fault, with the fault
abbrev pub first_faulty : {X F : Type 0} → (ℕ → X → Option F) → List (ℕ × X) → Option (ℕ × F)
first_faulty test [] = None
first_faulty test (p ∷ ps) = or_further (test p.0 p.1) p.0 (first_faulty test ps)
