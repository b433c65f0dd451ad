-- The text of enables, line by line.
-- Serves `write`, `write_enables` and `write_line`.
use Rattle.std.proofs.Common.{◌≡◌, ◌∙◌, ◌++◌, ℕ, Bool, true, false, List, [], ◌∷◌, ap, append_assoc}
use Rattle.std.proofs.Common.{codes, cond, drop, map, refl, sym}
use Rattle.std.proofs.Math.Bool.{or-false, or_assoc}
use Rattle.std.specs.Prelude.{◌||◌, if◌then◌else◌}
use Rattle.std.specs.List.{filter, list_any}
use Rattle.wgsl_text.specs.Declarations.{enables_pieces}
use Rattle.wgsl_text.specs.Functions.{group_end}
use Rattle.wgsl_text.specs.Text.{text}
use Rattle.naga_words.specs.Output.{joined_texts}
use Rattle.module_semantics.specs.Enables.{Extension, extensions}
use Rattle.naga_wgsl_out.specs.declared.enables.Enables.{Enables}
use Rattle.naga_wgsl_out.specs.Enables.{enables_of, enables_text, end_text, is_any, line_text}
use Rattle.naga_wgsl_out.specs.Enables.{is_any_after, words_among, words_found}

pub line_row : (word : List ℕ) → line_text true word ≡ joined_texts (codes "enable ") (joined_texts word (codes ";\n"))
unfolding joined_texts
line_row word = refl

-- the lines of these, and what stands after them
lines_text : (rows : List (Bool × List ℕ)) → (following : List ℕ) → List ℕ
lines_text [] following = following
lines_text (row ∷ rows) following = joined_texts (line_text row.0 row.1) (lines_text rows following)

lines_are : (rows : List (Bool × List ℕ)) (following : List ℕ) →
    text (enables_pieces (words_among rows)) ++ following ≡ lines_text rows following
unfolding lines_text joined_texts
lines_are [] following = refl
lines_are (row ∷ rows) following = by row.0 (lines_are rows following)
  where
    by : (found : Bool) → text (enables_pieces (words_among rows)) ++ following ≡ lines_text rows following →
        text (enables_pieces (if found then row.1 ∷ words_among rows else words_among rows)) ++ following ≡
        line_text found row.1 ++ lines_text rows following
    by true is =
        let more = text (enables_pieces (words_among rows)) in
        ap (λ t. codes "enable " ++ t)
        (append_assoc row.1 (codes ";\n" ++ more) following
        ∙ (ap (λ t. row.1 ++ (codes ";\n" ++ t)) is
        ∙ sym (append_assoc row.1 (codes ";\n") (lines_text rows following))))
    by false is = is

end_is : (rows : List (Bool × List ℕ)) → text (group_end (words_among rows)) ≡ end_text (list_any (λ row. row.0) rows)
end_is [] = refl
end_is (row ∷ rows) = by row.0 (end_is rows)
  where
    by : (found : Bool) →
        text (group_end (words_among rows)) ≡ end_text (list_any (λ row. row.0) rows) →
        text (group_end (if found then row.1 ∷ words_among rows else words_among rows)) ≡
        end_text (found || list_any (λ row. row.0) rows)
    by true is = refl
    by false is = is

-- that there is some among them, asked from the left
any_is : (one : Bool) (rows : List (Bool × List ℕ)) →
    is_any_after one rows ≡ (one || list_any (λ row. row.0) rows)
any_is one [] = sym (or-false one)
any_is one (row ∷ rows) = any_is (one || row.0) rows ∙ or_assoc one row.0 (list_any (λ row. row.0) rows)

pub enables_row : (e : Enables) → enables_text (words_among (words_found e)) ≡
    joined_texts (line_text e.f16 (codes "f16"))
    (joined_texts (line_text e.int16 (codes "wgpu_int16"))
    (joined_texts (line_text e.dual_source_blending (codes "dual_source_blending"))
    (joined_texts (line_text e.clip_distances (codes "clip_distances"))
    (joined_texts (line_text e.mesh_shader (codes "wgpu_mesh_shader"))
    (joined_texts (line_text e.binding_array (codes "wgpu_binding_array"))
    (joined_texts (line_text e.draw_index (codes "draw_index"))
    (joined_texts (line_text e.primitive_index (codes "primitive_index"))
    (joined_texts (line_text e.cooperative_matrix (codes "wgpu_cooperative_matrix"))
    (joined_texts (line_text e.ray_tracing_pipeline (codes "wgpu_ray_tracing_pipeline"))
    (joined_texts (line_text e.per_vertex (codes "wgpu_per_vertex"))
    (joined_texts (line_text e.subgroups (codes "subgroups")) (end_text (is_any e)))))))))))))
unfolding lines_text
enables_row e =
    ap (λ t. text (enables_pieces (words_among (words_found e))) ++ t)
    (end_is (words_found e) ∙ ap end_text (sym (any_is e.f16 (drop 1 (words_found e)))))
    ∙ lines_are (words_found e) (end_text (is_any e))

-- those that a test finds have the words of those that pass it
words_are : (test : Extension → Bool) (xs : List Extension) →
    words_among (map (λ x. (test x, x.word)) xs) ≡ map (λ x. x.word) (filter test xs)
words_are test [] = refl
words_are test (x ∷ xs) = by (test x) (words_are test xs)
  where
    by : (found : Bool) →
        words_among (map (λ x. (test x, x.word)) xs) ≡ map (λ x. x.word) (filter test xs) →
        (if found then x.word ∷ words_among (map (λ x. (test x, x.word)) xs)
        else words_among (map (λ x. (test x, x.word)) xs)) ≡
        map (λ x. x.word) (cond found (x ∷ filter test xs) (filter test xs))
    by true is = ap (λ words. x.word ∷ words) is
    by false is = is

pub words_needed : (test : Extension → Bool) →
    words_among (words_found (enables_of test)) ≡ map (λ x. x.word) (filter test extensions)
words_needed test = words_are test extensions
