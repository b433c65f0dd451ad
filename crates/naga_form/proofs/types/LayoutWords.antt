-- Scalars, vectors, matrices and atomic numbers are laid out by their words as they are by themselves.
--
-- Throughout, s is a scalar, n a vector's number of components, w a word, and f tells how the struct of a
-- name is laid out.
use Rattle.std.proofs.Common.{◌≡◌, ℕ, Bool, true, false, List, [], ◌∷◌, Option, Some, None}
use Rattle.std.proofs.Common.{refl, sym, ap, ◌∙◌, codes}
use Rattle.std.specs.Prelude.{if◌then◌else◌}
use Rattle.std.specs.List.{list_all}
use Rattle.std.specs.Option.{option_and_then}
use Rattle.std.specs.Str.{bytes_eq}
use Rattle.std.proofs.lemmas.Bool.{and_parts, false≢true}
use Rattle.std.proofs.lemmas.Slice.Eq.{bytes_eq-Decides}
use Rattle.naga_ir.specs.declared.types.Scalar.{Scalar}
use Rattle.naga_ir.specs.declared.types.ScalarKind.{ScalarKind}
use Rattle.naga_ir.specs.declared.types.ScalarKind.TheVariants as kind
use Rattle.naga_ir.specs.declared.types.VectorSize.{VectorSize}
use Rattle.naga_ir.specs.declared.types.VectorSize.TheVariants as vector
use Rattle.naga_layout.proofs.Widths.{atomic_width_is, width_is}
use Rattle.naga_layout.specs.Capped.{IsWidth, Two, Four, Eight}
use Rattle.naga_layout.specs.Types.{component_number, has_atomic_size, has_size, is_number, is_wide}
use Rattle.naga_spelling.specs.Words.{matrix_word, vector_word}
use Rattle.text_semantics.specs.Layout.{among, scalar_size, type_layout_by, vector_or_other}
use Rattle.text_semantics.specs.Layout.{vector_size}
use Rattle.wgsl_layout.specs.Rules.{matrix_layout, scalar_layout, vector_layout}
use Rattle.wgsl_layout.specs.declared.layouts.Layout.{Layout}
use Rattle.wgsl_text.specs.Keywords.{builtin_words}
use Rattle.wgsl_text.specs.Types.{Named, of_one}
use Rattle.wgsl_text.specs.Words.{IsIdentifier, is_builtin}
use Rattle.wgsl_words.specs.Words.{scalar_word}

-- ---- scalars
-- a number with a size has a word, which says how many bytes it has
pub record IsScalarRead (s : Scalar) : Type 0 where
  pub word : List ℕ
  pub spelled : scalar_word s ≡ Some word
  pub size : scalar_size word ≡ Some s.width

by_width : (k : ScalarKind) (w : ℕ) → is_number k ≡ true → IsWidth w →
    IsScalarRead (record { kind = k; width = w })
by_width kind.Sint w is Two = record { word = codes "i16"; spelled = refl; size = refl }
by_width kind.Sint w is Four = record { word = codes "i32"; spelled = refl; size = refl }
by_width kind.Sint w is Eight = record { word = codes "i64"; spelled = refl; size = refl }
by_width kind.Uint w is Two = record { word = codes "u16"; spelled = refl; size = refl }
by_width kind.Uint w is Four = record { word = codes "u32"; spelled = refl; size = refl }
by_width kind.Uint w is Eight = record { word = codes "u64"; spelled = refl; size = refl }
by_width kind.Float w is Two = record { word = codes "f16"; spelled = refl; size = refl }
by_width kind.Float w is Four = record { word = codes "f32"; spelled = refl; size = refl }
by_width kind.Float w is Eight = record { word = codes "f64"; spelled = refl; size = refl }
by_width kind.Bool w is width = absurd (false≢true is)
by_width kind.AbstractInt w is width = absurd (false≢true is)
by_width kind.AbstractFloat w is width = absurd (false≢true is)

pub scalar_is_read : (s : Scalar) → has_size s ≡ true → IsScalarRead s
scalar_is_read s has = by_width s.kind s.width (and_parts (is_number s.kind) _ has).0 (width_is s has)

pub atomic_is_read : (s : Scalar) → has_atomic_size s ≡ true → IsScalarRead s
atomic_is_read s has =
    by_width s.kind s.width (and_parts (is_number s.kind) _ has).0 (atomic_width_is s has)

-- ---- over scalars
pub vector_over : (f : List ℕ → Option Layout) (n : VectorSize) (s : Scalar) (w : List ℕ) →
    scalar_size w ≡ Some s.width →
    type_layout_by f (of_one (vector_word n) (Named w)) ≡
    Some (vector_layout (component_number n) s.width)
vector_over f vector.Bi s w is =
    ap (option_and_then (λ s. vector_or_other (codes "vec2") s (vector_size (codes "vec2")))) is
vector_over f vector.Tri s w is =
    ap (option_and_then (λ s. vector_or_other (codes "vec3") s (vector_size (codes "vec3")))) is
vector_over f vector.Quad s w is =
    ap (option_and_then (λ s. vector_or_other (codes "vec4") s (vector_size (codes "vec4")))) is

pub matrix_over : (f : List ℕ → Option Layout) (columns rows : VectorSize) (s : Scalar) (w : List ℕ) →
    scalar_size w ≡ Some s.width →
    type_layout_by f (of_one (matrix_word columns rows) (Named w)) ≡
    matrix_layout (component_number columns) (component_number rows) s.width
matrix_over f vector.Bi vector.Bi s w is =
    ap (option_and_then (λ s. vector_or_other (codes "mat2x2") s (vector_size (codes "mat2x2")))) is
matrix_over f vector.Bi vector.Tri s w is =
    ap (option_and_then (λ s. vector_or_other (codes "mat2x3") s (vector_size (codes "mat2x3")))) is
matrix_over f vector.Bi vector.Quad s w is =
    ap (option_and_then (λ s. vector_or_other (codes "mat2x4") s (vector_size (codes "mat2x4")))) is
matrix_over f vector.Tri vector.Bi s w is =
    ap (option_and_then (λ s. vector_or_other (codes "mat3x2") s (vector_size (codes "mat3x2")))) is
matrix_over f vector.Tri vector.Tri s w is =
    ap (option_and_then (λ s. vector_or_other (codes "mat3x3") s (vector_size (codes "mat3x3")))) is
matrix_over f vector.Tri vector.Quad s w is =
    ap (option_and_then (λ s. vector_or_other (codes "mat3x4") s (vector_size (codes "mat3x4")))) is
matrix_over f vector.Quad vector.Bi s w is =
    ap (option_and_then (λ s. vector_or_other (codes "mat4x2") s (vector_size (codes "mat4x2")))) is
matrix_over f vector.Quad vector.Tri s w is =
    ap (option_and_then (λ s. vector_or_other (codes "mat4x3") s (vector_size (codes "mat4x3")))) is
matrix_over f vector.Quad vector.Quad s w is =
    ap (option_and_then (λ s. vector_or_other (codes "mat4x4") s (vector_size (codes "mat4x4")))) is

pub atomic_over : (f : List ℕ → Option Layout) (s : Scalar) (w : List ℕ) →
    scalar_size w ≡ Some s.width → is_wide s.width ≡ true →
    type_layout_by f (of_one (codes "atomic") (Named w)) ≡ Some (scalar_layout s.width)
atomic_over f s w is wide =
    ap (option_and_then (λ s. vector_or_other (codes "atomic") s (vector_size (codes "atomic")))) is
    ∙ ap (λ b. if b then Some (scalar_layout s.width) else None) wide

-- ---- words of structs
none_among : {X : Type 0} (rows : List (List ℕ × X)) (w : List ℕ) →
    list_all (λ row. is_builtin row.0) rows ≡ true → is_builtin w ≡ false → among rows w ≡ None
none_among [] w all own = refl
none_among {X = X} (row ∷ rows) w all own =
    let parts = and_parts (is_builtin row.0) (list_all (λ row. is_builtin row.0) rows) all in
    by (bytes_eq row.0 w) refl parts.0 (none_among rows w parts.1 own)
  where
    by : (b : Bool) → bytes_eq row.0 w ≡ b → is_builtin row.0 ≡ true → among rows w ≡ None →
        (if b then Some row.1 else among rows w) ≡ None
    by true same here left =
        absurd (false≢true (sym own ∙ (sym (ap is_builtin ((bytes_eq-Decides row.0 w).0 same)) ∙ here)))
    by false other here left = left

abbrev scalar_rows : List (List ℕ × ℕ)
scalar_rows =
    (codes "i16", 2) ∷ (codes "u16", 2) ∷ (codes "f16", 2) ∷ (codes "i32", 4) ∷ (codes "u32", 4) ∷ (codes "f32", 4)
    ∷ (codes "i64", 8) ∷ (codes "u64", 8) ∷ (codes "f64", 8) ∷ []

all_builtin : list_all (λ row. is_builtin row.0) scalar_rows ≡ true
unfolding is_builtin builtin_words
all_builtin = refl

-- an identifier is no scalar
pub no_scalar : (w : List ℕ) → IsIdentifier w → scalar_size w ≡ None
no_scalar w is = none_among scalar_rows w all_builtin is.own
