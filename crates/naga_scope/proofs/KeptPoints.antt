-- Points of a function that follow one another.
-- Serves `check_emit` and `walk`.
use Rattle.std.proofs.Common.{◌≡◌, ℕ, true, List, [], get_or, refl, ap, ◌∙◌, length}
use Rattle.std.specs.Prelude.{IsTrue}
use Rattle.module_semantics.specs.Names.{numbered_name}
use Rattle.naga_scope.specs.Availabilities.{TextPoint, availability_of}
use Rattle.naga_scope.specs.KnownFunctions.{IsPointOf, handles_at}
use Rattle.naga_scope.specs.Log.{Extends, grows}
use Rattle.naga_scope.specs.declared.known_function.KnownFunction.{KnownFunction}
use Rattle.naga_scope.specs.declared.points.Availability.{Availability}
use Rattle.naga_scope.specs.declared.points.Availability.TheVariants.{Absent, Barred, Everywhere, Inline, Bound}
use Rattle.naga_scope.proofs.Logs.{extends_grows}
use Rattle.shader_runs.specs.Scope as runs

-- what grows stays in scope
grown_present : (named : ℕ → List ℕ) (numbered : List ℕ) (was now : Availability) → IsTrue (grows was now) →
    runs.is_present (availability_of named numbered was) ≡ true →
    runs.is_present (availability_of named numbered now) ≡ true
grown_present named numbered Absent now grown is = absurd cc
grown_present named numbered Barred now grown is = absurd cc
grown_present named numbered Everywhere Absent grown is = absurd cc
grown_present named numbered Everywhere Barred grown is = absurd cc
grown_present named numbered Inline Absent grown is = absurd cc
grown_present named numbered Inline Barred grown is = absurd cc
grown_present named numbered (Bound x) Absent grown is = absurd cc
grown_present named numbered (Bound x) Barred grown is = absurd cc
grown_present named numbered was Everywhere grown is = refl
grown_present named numbered was Inline grown is = refl
grown_present named numbered was (Bound y) grown is = refl

pub point_kept : {k : KnownFunction} {a b : TextPoint} → IsPointOf k a → Extends a b → IsPointOf k b
point_kept {k} {a} {b} p x = record {
  ordered = p.ordered;
  size = x.size ∙ p.size;
  held = λ h first. grown_present (λ number. []) (numbered_name h) (get_or a.table h Absent)
      (get_or b.table h Absent) (extends_grows x h) (p.held h first);
}

-- what is forgotten stays in scope as it was
forgotten_present : (o n : runs.Availability) → runs.is_present o ≡ true →
    runs.is_present (runs.forgotten_one o n) ≡ true
forgotten_present runs.Absent n is = absurd cc
forgotten_present runs.Barred n is = absurd cc
forgotten_present runs.Inline n is = refl
forgotten_present (runs.Bound x) n is = refl
forgotten_present runs.Everywhere runs.Absent is = refl
forgotten_present runs.Everywhere runs.Barred is = refl
forgotten_present runs.Everywhere runs.Everywhere is = refl
forgotten_present runs.Everywhere runs.Inline is = refl
forgotten_present runs.Everywhere (runs.Bound x) is = refl

pub point_forgotten : {k : KnownFunction} (a b c : TextPoint) → IsPointOf k a → length c.table
    ≡ length a.table → handles_at c ≡ runs.forgotten_handles (handles_at a) (handles_at b) → IsPointOf k c
point_forgotten {k} a b c p size says = record {
  ordered = p.ordered;
  size = size ∙ p.size;
  held = λ h first. ap (λ (s : runs.Handles). runs.is_present (s h)) says ∙ forgotten_present (handles_at a h)
      (handles_at b h) (p.held h first);
}
