-- No word of an operator begins as the free names do, and one test of words tells those that ask
-- for events, also among the words that no text has.
use Rattle.naga_form.proofs.operators.TypedWords.{head_text, head_is, no_blank}
use Rattle.naga_form.proofs.operators.OperatorEvents.{keeps_asking, asks_as_distinguished}
use Rattle.std.proofs.Common.{◌≡◌, ℕ, Bool, true, false, not, ◌&&◌, ◌||◌, List, [], ◌∷◌, refl, sym}
use Rattle.std.proofs.Common.{ap, ◌∙◌, nat_eq, codes, true≢false}
use Rattle.std.specs.List.{list_all}
use Rattle.std.proofs.lemmas.Bool.{false≢true, and_parts, not-true, eqb-true}
use Rattle.wgsl_text.specs.Requests.{is_request, word_before_arguments}
use Rattle.wgsl_text.specs.Words.{is_word_text}
use Rattle.module_semantics.specs.OperatorTable.{Operator, CooperativeLoad, MakeSpelled, Convert}
use Rattle.module_semantics.specs.OperatorTable.{Reinterpret, WithoutForm, Unsupported, Cast}
use Rattle.module_semantics.specs.OperatorTable.{with_type, run_word, one_word, asks, is_untyped}
use Rattle.module_semantics.specs.OperatorTable.{SpellsAType, TypeIsSound, unsupported_word}
use Rattle.module_semantics.specs.OperatorTable.{unsupported_asks}
use Rattle.naga_form.proofs.names.FreeNames.{begins_free}
use Rattle.naga_form.proofs.operators.OperatorTable.{by_table, mathematical, others}

-- the words with a blank in front that ask for events, by their second letter: steps and scans, and
-- texels
abbrev own_request : List ℕ → Bool
own_request (b ∷ c ∷ w) =
    nat_eq b 32 && (nat_eq c 115 || nat_eq c 116)
own_request _ = false

-- a word that asks for an event, whether a text has it or not
unfoldable pub free_request : List ℕ → Bool
free_request w = is_request w || own_request w

-- what is said of an operator's word
pub record WordIsDistinguished (o : Operator) : Type 0 where
  pub free : begins_free (run_word o) ≡ false
  pub asking : free_request (run_word o) ≡ asks o

-- ---- operators without types
abbrev alike : Bool → Bool → Bool
alike true b = b
alike false b = not b

alike_is : (a b : Bool) → alike a b ≡ true → a ≡ b
alike_is true true e = refl
alike_is true false e = absurd (false≢true e)
alike_is false true e = absurd (false≢true e)
alike_is false false e = refl

-- the test of the whole table
is_distinguished : Operator → Bool
is_distinguished o = not (begins_free (run_word o)) && alike (free_request (run_word o)) (asks o)

others_distinguished : list_all is_distinguished others ≡ true
unfolding is_distinguished free_request is_request
others_distinguished = refl

mathematical_distinguished : list_all is_distinguished mathematical ≡ true
unfolding is_distinguished free_request is_request
mathematical_distinguished = refl

distinguished_parts : (o : Operator) → is_distinguished o ≡ true → (begins_free (run_word o) ≡ false)
    × (free_request (run_word o) ≡ asks o)
unfolding is_distinguished
distinguished_parts o e =
    let parts = and_parts (not (begins_free (run_word o))) (alike (free_request (run_word o)) (asks o)) e in
    (not-true (begins_free (run_word o)) parts.0, alike_is (free_request (run_word o)) (asks o) parts.1)

untyped_is_distinguished : (o : Operator) → is_untyped o ≡ true → WordIsDistinguished o
untyped_is_distinguished o u =
    let at = by_table is_distinguished others_distinguished mathematical_distinguished o u in
    let parts = distinguished_parts (one_word o) at.1 in record {
      free = ap begins_free at.0 ∙ parts.0;
      asking = ap free_request at.0 ∙ (parts.1 ∙ keeps_asking o);
    }

-- ---- operators with types
no_number : (w : List ℕ) → is_word_text (word_before_arguments w) ≡ true → begins_free w ≡ false
no_number [] e = refl
no_number (b ∷ bytes) e = by (nat_eq b 1) refl
  where
    by : (x : Bool) → nat_eq b 1 ≡ x → x ≡ false
    by true is = absurd
        (false≢true (ap (λ c. is_word_text (word_before_arguments (c ∷ bytes))) (sym (eqb-true b 1 is)) ∙ e))
    by false is = refl

type_begins : (w : List ℕ) → SpellsAType w → is_word_text (word_before_arguments w) ≡ true
type_begins w is =
    ap (λ v. is_word_text (word_before_arguments v)) (sym is.1.1)
    ∙ (ap is_word_text (head_is is.0 is.1.0.part) ∙ head_text is.0 is.1.0.part)

no_own_request : (w : List ℕ) → SpellsAType w → own_request w ≡ false
no_own_request [] is = refl
no_own_request (b ∷ []) is = refl
no_own_request (b ∷ c ∷ w) is = by (nat_eq b 32) refl
  where
    by : (x : Bool) → nat_eq b 32 ≡ x → (x && (nat_eq c 115 || nat_eq c 116)) ≡ false
    by true at = absurd (no_blank (b ∷ c ∷ w) (c ∷ w) is (ap (λ a. a ∷ c ∷ w) (eqb-true b 32 at)))
    by false at = refl

-- what is no word of its own asks as a text's word does
by_text : (w : List ℕ) (a : Bool) → is_request w ≡ a → own_request w ≡ false → free_request w ≡ a
unfolding free_request
by_text w true is not_own = λ i. is i || own_request w
by_text w false is not_own = λ i. is i || not_own i

spelling_is_distinguished : (w : List ℕ) → SpellsAType w → (begins_free w ≡ false) ×
    (free_request w ≡ false)
spelling_is_distinguished w is = (
  no_number w (type_begins w is),
  by_text w false (asks_as_distinguished (Convert w) w is refl)
      (no_own_request w is),
)

unsupported_distinguished : (x : Unsupported) → free_request (unsupported_word x) ≡ unsupported_asks x
unfolding free_request is_request
unsupported_distinguished (Cast kind width) = refl
unsupported_distinguished _ = refl

unsupported_is_free : (x : Unsupported) → begins_free (unsupported_word x) ≡ false
unsupported_is_free (Cast kind width) = refl
unsupported_is_free _ = refl

typed_is_distinguished : (o : Operator) → is_untyped o ≡ false → TypeIsSound o →
    WordIsDistinguished o
typed_is_distinguished (MakeSpelled w n) u is = let parts = spelling_is_distinguished w is in
    record { free = parts.0; asking = parts.1 }
typed_is_distinguished (Convert w) u is = let parts = spelling_is_distinguished w is in
    record { free = parts.0; asking = parts.1 }
typed_is_distinguished (Reinterpret w) u is = record {
  free = refl;
  asking = by_text (with_type (codes "bitcast") w) false
      (asks_as_distinguished (Reinterpret w) (with_type (codes "bitcast") w) is refl) refl;
}
typed_is_distinguished (CooperativeLoad false w) u is = record {
  free = refl;
  asking = by_text (with_type (codes "coopLoad") w) true
      (asks_as_distinguished (CooperativeLoad false w) (with_type (codes "coopLoad") w) is refl) refl;
}
typed_is_distinguished (CooperativeLoad true w) u is = record {
  free = refl;
  asking = by_text (with_type (codes "coopLoadT") w) true
      (asks_as_distinguished (CooperativeLoad true w) (with_type (codes "coopLoadT") w) is refl) refl;
}
typed_is_distinguished (WithoutForm x) u is =
    record { free = unsupported_is_free x; asking = unsupported_distinguished x }
typed_is_distinguished _ u is = absurd (true≢false u)

pub word_is_distinguished : (o : Operator) → TypeIsSound o → WordIsDistinguished o
word_is_distinguished o is = by (is_untyped o) refl
  where
    by : (b : Bool) → is_untyped o ≡ b → WordIsDistinguished o
    by true u = untyped_is_distinguished o u
    by false u = typed_is_distinguished o u is
