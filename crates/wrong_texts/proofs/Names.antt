-- A label that is no word of WGSL's own, and the first of its stem, is its own name.
use Rattle.std.proofs.Common.{◌≡◌, ℕ, Bool, false, List, ◌∙◌, codes, refl}
use Rattle.std.specs.Prelude.{◌||◌, ◌&&◌, not, ◌++◌, if◌then◌else◌}
use Rattle.std.specs.Cmp.Lexicographic.{nat_list_cmp_total, slice_cmp}
use Rattle.std.specs.FinSet.{contains-empty, contains-from_list}
use Rattle.std.specs.List.{list_any}
use Rattle.std.specs.Ordering.{eq_by_cmp, nat_cmp}
use Rattle.naga_ir.specs.declared.module.Module.{Module}
use Rattle.naga_keywords.specs.Plain.{has_plain_end}
use Rattle.naga_keywords.specs.Words.{in_lower_case}
use Rattle.naga_naming.specs.Naming.{ends_in_digit, first_name, is_numbered, is_taken}
use Rattle.module_semantics.specs.Names.{wgsl_names}
use Rattle.wgsl_text.specs.Keywords.{builtin_words, reserved_words}

-- the word is among these, as sets of words find it
abbrev is_among : List (List ℕ) → List ℕ → Bool
is_among words w = list_any (eq_by_cmp (slice_cmp nat_cmp) w) words

is_untaken : (m : Module) (w : List ℕ) → is_among reserved_words w ≡ false → is_among builtin_words w ≡ false →
    is_taken (wgsl_names m) w ≡ false
unfolding wgsl_names
is_untaken m w reserved builtin =
    let keyword = contains-from_list nat_list_cmp_total reserved_words w ∙ reserved in
    let own = contains-from_list nat_list_cmp_total builtin_words w ∙ builtin in
    let caseless = contains-empty (slice_cmp nat_cmp) (in_lower_case w) in
    λ i. keyword i || own i || caseless i

pub stays : (m : Module) (w : List ℕ) → ends_in_digit w ≡ false → is_among reserved_words w ≡ false →
    is_among builtin_words w ≡ false → first_name (wgsl_names m) w ≡ w
stays m w digit reserved builtin =
    let free = is_untaken m w reserved builtin in
    λ i. if (digit i && (not (wgsl_names m).keeps_digits || (not (has_plain_end w) || is_numbered w))) || free i
    then w ++ codes "_" else w

-- the letters that are labels here
pub f_stays : (m : Module) → first_name (wgsl_names m) (codes "f") ≡ codes "f"
unfolding reserved_words builtin_words
f_stays m = stays m (codes "f") refl refl refl

pub c_stays : (m : Module) → first_name (wgsl_names m) (codes "c") ≡ codes "c"
unfolding reserved_words builtin_words
c_stays m = stays m (codes "c") refl refl refl

pub x_stays : (m : Module) → first_name (wgsl_names m) (codes "x") ≡ codes "x"
unfolding reserved_words builtin_words
x_stays m = stays m (codes "x") refl refl refl

pub y_stays : (m : Module) → first_name (wgsl_names m) (codes "y") ≡ codes "y"
unfolding reserved_words builtin_words
y_stays m = stays m (codes "y") refl refl refl

pub p_stays : (m : Module) → first_name (wgsl_names m) (codes "p") ≡ codes "p"
unfolding reserved_words builtin_words
p_stays m = stays m (codes "p") refl refl refl

pub v_stays : (m : Module) → first_name (wgsl_names m) (codes "v") ≡ codes "v"
unfolding reserved_words builtin_words
v_stays m = stays m (codes "v") refl refl refl

pub a_stays : (m : Module) → first_name (wgsl_names m) (codes "a") ≡ codes "a"
unfolding reserved_words builtin_words
a_stays m = stays m (codes "a") refl refl refl
