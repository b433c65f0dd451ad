-- The words of operators that are called: a text may call each that WGSL has.
use Rattle.std.proofs.Common.{◌≡◌, ℕ, Bool, true, false, List, [], refl, sym, ap, ◌∙◌, codes, ◌&&◌}
use Rattle.std.proofs.Common.{◌||◌, not}
use Rattle.std.specs.List.{AllByRecursion, list_all}
use Rattle.std.specs.Option.{is_some}
use Rattle.std.proofs.lemmas.Bool.{and_from}
use Rattle.module_semantics.specs.OperatorTable.{Operator, BinarySign, UnarySign, Sample, Gather}
use Rattle.module_semantics.specs.OperatorTable.{Texel, OnlyTexel, Barrier, StorageOrdered}
use Rattle.module_semantics.specs.OperatorTable.{WorkgroupOrdered, SubgroupOrdered, TextureOrdered, has_word}
use Rattle.module_semantics.specs.OperatorTable.{is_untyped, one_word, run_word}
use Rattle.shader_runs.specs.Program.{BarrierBits}
use Rattle.shader_runs.specs.ProgramRun.{barrier_words, word_if}
use Rattle.wgsl_text.specs.Expressions.{IsCallee}
use Rattle.wgsl_text.specs.Keywords.{builtin_words}
use Rattle.wgsl_text.specs.Types.{Named}
use Rattle.wgsl_text.specs.Words.{is_builtin}
use Rattle.wgsl_text.proofs.Building.{called_words}
use Rattle.naga_form.proofs.operators.OperatorEvents.{keeps_text}
use Rattle.naga_form.proofs.operators.OperatorTable.{by_table, mathematical, others}

-- a built-in word may be called
pub callee_of : (w : List ℕ) → is_builtin w ≡ true → IsCallee (Named w)
callee_of w is = called_words.builtin w is

-- it is called by its word alone: it is no sign, and no sampling
abbrev pub is_called : Operator → Bool
is_called (BinarySign op) = false
is_called (UnarySign op) = false
is_called (Sample level compares clamped arrayed offset) = false
is_called (Gather component level compares clamped arrayed offset) = false
is_called _ = true

keeps_called : (o : Operator) → is_called o ≡ true → is_called (one_word o) ≡ true
keeps_called (UnarySign op) is = absurd cc
keeps_called (Texel arrayed OnlyTexel) is = refl
keeps_called (Texel arrayed _) is = refl
keeps_called _ is = is

-- where it is, a text has its word as a built-in one, or has none for it
may_be_called : Operator → Bool
may_be_called o = not (is_called o && has_word o) || is_builtin (run_word o)

others_may : list_all may_be_called others ≡ true
unfolding may_be_called is_builtin builtin_words
others_may = refl

mathematical_may : list_all may_be_called mathematical ≡ true
unfolding may_be_called is_builtin builtin_words
mathematical_may = refl

builtin_if : (o : Operator) → is_called o ≡ true → has_word o ≡ true → may_be_called o ≡ true →
    is_builtin (run_word o) ≡ true
unfolding may_be_called
builtin_if o called has may =
    sym (ap (λ b. not b || is_builtin (run_word o)) (and_from (is_called o) (has_word o) called has))
    ∙ may

-- so its word may be called
pub word_is_called : (o : Operator) → is_untyped o ≡ true → is_called o ≡ true →
    has_word o ≡ true → IsCallee (Named (run_word o))
word_is_called o u called has =
    let at = by_table may_be_called others_may mathematical_may o u in
    callee_of (run_word o)
    (ap is_builtin at.0
    ∙ builtin_if (one_word o) (keeps_called o called) (ap is_some (keeps_text o) ∙ has) at.1)

-- ---- barriers
abbrev pub AreCalled : List (List ℕ) → Type 0
AreCalled words = AllByRecursion (λ w. IsCallee (Named w)) words

one_called : (b : Bool) (w : List ℕ) (ws : List (List ℕ)) → IsCallee (Named w) → AreCalled ws →
    AreCalled (word_if b w ws)
one_called true w ws one more = (one, more)
one_called false w ws one more = more

pub barriers_called : (bits : BarrierBits) → AreCalled (barrier_words bits)
barriers_called bits =
    one_called bits.storage (codes "storageBarrier") _
    (word_is_called (Barrier true StorageOrdered) refl refl refl)
    (one_called bits.work_group (codes "workgroupBarrier") _
    (word_is_called (Barrier true WorkgroupOrdered) refl refl refl)
    (one_called bits.sub_group (codes "subgroupBarrier") _
    (word_is_called (Barrier true SubgroupOrdered) refl refl refl)
    (one_called bits.texture (codes "textureBarrier") []
    (word_is_called (Barrier true TextureOrdered) refl refl refl) tt)))
