-- The names of a module's items: identifiers of WGSL, no two alike, and none that a handle has.
use Rattle.std.proofs.Common.{◌≡◌, ℕ, ◌<◌, suc, Bool, true, false, not, List, [], ◌∷◌, ◌++◌, length}
use Rattle.std.proofs.Common.{take, drop, refl, sym, ap, subst, ◌∙◌, ◌||◌, zero, codes, nat_lt, map}
use Rattle.std.proofs.Common.{Some, None, ◌^◌, decimal, nat_eq, true≢false, ◌≢◌, replicate, arith}
use Rattle.std.specs.Prelude.{slice_get, string_bytes, ◌==◌, unwrap_or}
use Rattle.std.specs.FinSet as set
use Rattle.std.specs.Bool.{one_answer}
use Rattle.std.specs.Char.{is_ascii_digit, is_ascii_uppercase, is_ascii_lowercase}
use Rattle.std.specs.List.{list_all, list_any}
use Rattle.std.specs.Str.{bytes_eq}
use Rattle.std.proofs.lemmas.Bool.{and_from, and_parts, ltb-true}
use Rattle.std.proofs.lemmas.Fmt.{decimal_injective}
use Rattle.std.proofs.lemmas.Slice.Eq.{bytes_eq-Decides}
use Rattle.naga_ir.specs.declared.module.Function as ir_function
use Rattle.naga_ir.specs.declared.module.FunctionArgument.{FunctionArgument}
use Rattle.naga_ir.specs.declared.module.Module.{Module}
use Rattle.naga_naming.specs.Naming.{Names as NamerNames, label_or, name_after}
use Rattle.naga_keywords.specs.Plain.{HasPlainEnds, is_identifier_char, is_word}
use Rattle.naga_naming.specs.Reset.{LabelledItem, labelled_items, labels_of, named_items, PutsInto}
use Rattle.naga_keywords.specs.declared.keywords.TheConstants.{RESERVED, BUILTIN_IDENTIFIERS}
use Rattle.naga_naming.specs.declared.key.NameKey.TheVariants as key
use Rattle.naga_keywords.proofs.Plains.{words_are}
use Rattle.naga_keywords.proofs.SetLemmas.{texts_of, contains-texts_of}
use Rattle.naga_naming.proofs.NameShapes.{name_after_is_word, name_after_no_keyword}
use Rattle.naga_naming.proofs.NameShapes.{name_after_no_builtin, plain_ends, name_after_not_numbered}
use Rattle.naga_naming.proofs.Keys.{items_apart}
use Rattle.naga_naming.proofs.NamedItems.{Stands, put_at, item_names_tell, function_stands}
use Rattle.naga_naming.proofs.NamedItems.{argument_stands, entry_argument_stands}
use Rattle.naga_naming.proofs.NamedItems.{entry_local_stands, entry_point_stands, local_stands}
use Rattle.wgsl_text.specs.Keywords.{builtin_words, reserved_words}
use Rattle.wgsl_text.specs.Words.{stands_in, is_builtin, IsIdentifier, IsWord, is_letter, is_word_byte}
use Rattle.wgsl_text.specs.Words.{all_word_bytes, is_word_text, is_reserved}
use Rattle.shader_runs.proofs.Update.{and_left, and_right}
use Rattle.module_semantics.specs.FunctionNumbers.{all_functions, function_number, function_type}
use Rattle.module_semantics.specs.Names.{module_names, wgsl_names, numbered_text, function_name}
use Rattle.module_semantics.specs.Names.{numbered_name, name_in}
use Rattle.module_semantics.proofs.FunctionNumbers.{IsNumbered, OfEntryPoint, OfFunction}
use Rattle.module_semantics.proofs.FunctionNumbers.{function_keys_tell, one_number, which_function}
use Rattle.naga_back.specs.FunctionContext.{argument_key, function_key, local_key}
use Rattle.naga_back.specs.declared.context.FunctionType.{FunctionType}
use Rattle.naga_back.specs.declared.context.FunctionType.TheVariants as item
use Rattle.naga_ir.specs.declared.module.LocalVariable.{LocalVariable}
use Rattle.std.specs.Option.{option_map_or}

-- ---- words
letter_of : (d u l s : Bool) → (((d || u) || l) || s) ≡ true → not d ≡ true → (l || (u || s)) ≡ true
letter_of true u l s e n = absurd (cc)
letter_of false u true s e n = refl
letter_of false true false s e n = refl
letter_of false false false s e n = e

byte_of : (d u l s : Bool) → (((d || u) || l) || s) ≡ true → ((l || (u || s)) || d) ≡ true
byte_of d u true s e = refl
byte_of d true false s e = refl
byte_of d false false true e = refl
byte_of true false false false e = refl
byte_of false false false false e = e

all_bytes : (w : List ℕ) → list_all is_identifier_char w ≡ true → all_word_bytes w ≡ true
all_bytes [] e = refl
all_bytes (c ∷ w) e =
    and_from (is_word_byte c) (all_word_bytes w)
    (byte_of (is_ascii_digit c) (is_ascii_uppercase c) (is_ascii_lowercase c) (c == 95)
    (and_left (is_identifier_char c) (list_all is_identifier_char w) e))
    (all_bytes w (and_right (is_identifier_char c) (list_all is_identifier_char w) e))

word_text : (w : List ℕ) → is_word w ≡ true → is_word_text w ≡ true
word_text [] e = absurd (cc)
word_text (c ∷ w) e =
    let chars = list_all is_identifier_char (c ∷ w) in
    let each = and_left chars (not (is_ascii_digit c)) e in
    and_from (is_letter c) (all_word_bytes w)
    (letter_of (is_ascii_digit c) (is_ascii_uppercase c) (is_ascii_lowercase c) (c == 95)
    (and_left (is_identifier_char c) (list_all is_identifier_char w) each)
    (and_right chars (not (is_ascii_digit c)) e))
    (all_bytes w (and_right (is_identifier_char c) (list_all is_identifier_char w) each))

-- a letter is such a character, and no digit
char_of : (d u l s : Bool) → (l || (u || s)) ≡ true → (((d || u) || l) || s) ≡ true
char_of true u l s e = refl
char_of false true l s e = refl
char_of false false true s e = refl
char_of false false false s e = e

any_char_of : (d u l s : Bool) → ((l || (u || s)) || d) ≡ true → (((d || u) || l) || s) ≡ true
any_char_of true u l s e = refl
any_char_of false true l s e = refl
any_char_of false false true s e = refl
any_char_of false false false true e = refl
any_char_of false false false false e = e

letter_no_digit : (c : ℕ) → is_letter c ≡ true → not (is_ascii_digit c) ≡ true
letter_no_digit c e = grind arith

all_chars : (w : List ℕ) → all_word_bytes w ≡ true → list_all is_identifier_char w ≡ true
all_chars [] e = refl
all_chars (c ∷ w) e =
    let both = and_parts (is_word_byte c) (all_word_bytes w) e in
    and_from (is_identifier_char c) (list_all is_identifier_char w)
    (any_char_of (is_ascii_digit c) (is_ascii_uppercase c) (is_ascii_lowercase c) (c == 95) both.0)
    (all_chars w both.1)

text_is_word : (w : List ℕ) → is_word_text w ≡ true → is_word w ≡ true
text_is_word [] e = e
text_is_word (c ∷ w) e =
    let both = and_parts (is_letter c) (all_word_bytes w) e in
    and_from (list_all is_identifier_char (c ∷ w)) (not (is_ascii_digit c))
    (and_from (is_identifier_char c) (list_all is_identifier_char w)
    (char_of (is_ascii_digit c) (is_ascii_uppercase c) (is_ascii_lowercase c) (c == 95) both.0)
    (all_chars w both.1))
    (letter_no_digit c both.0)

-- ---- the two tables
same_either_way : (a b : List ℕ) → bytes_eq a b ≡ bytes_eq b a
same_either_way a b = one_answer (bytes_eq a b) (bytes_eq b a) (bytes_eq-Decides a b)
    ((λ e. sym ((bytes_eq-Decides b a).0 e)), (λ e. (bytes_eq-Decides b a).1 (sym e)))

stands_as_any : {K : Type 0} (read : K → List ℕ) (ks : List K) (w : List ℕ) →
    list_any (λ k. bytes_eq w (read k)) ks ≡ stands_in (map read ks) w
stands_as_any read [] w = refl
stands_as_any read (k ∷ ks) w = λ i. same_either_way w (read k) i || stands_as_any read ks w i

contains_words : {K : Type 0} (read : K → List ℕ) (ks : List K) (w : List ℕ) → set.contains (texts_of read ks) w
    ≡ stands_in (map read ks) w
contains_words read ks w = contains-texts_of read ks w ∙ stands_as_any read ks w

-- names that keep off these words do, of items and of members
keeps_off_reserved : (m : Module) (start : NamerNames) → start.keywords ≡ (wgsl_names m).keywords →
    (earlier : List (List ℕ)) (label : List ℕ) → is_reserved (name_after start earlier label) ≡ false
unfolding wgsl_names reserved_words is_reserved
keeps_off_reserved m start same earlier label =
    let plain = plain_ends (map (λ word. word.now) RESERVED.now)
    (words_are (map (λ word. word.now) RESERVED.now) refl) in
    sym (contains_words (λ word. word.now) RESERVED.now (name_after start earlier label))
    ∙ ap (λ words. set.contains words (name_after start earlier label)) (sym same)
    ∙ name_after_no_keyword start earlier label (subst HasPlainEnds (sym same) plain)

keeps_off_builtin : (m : Module) (earlier : List (List ℕ)) (label : List ℕ) →
    is_builtin (name_after (wgsl_names m) earlier label) ≡ false
unfolding wgsl_names builtin_words is_builtin
keeps_off_builtin m earlier label =
    sym (contains_words (λ word. word.now) BUILTIN_IDENTIFIERS.now (name_after (wgsl_names m) earlier label))
    ∙ name_after_no_builtin (wgsl_names m) earlier label
    (plain_ends (map (λ word. word.now) BUILTIN_IDENTIFIERS.now)
    (words_are (map (λ word. word.now) BUILTIN_IDENTIFIERS.now) refl))

-- they are words of the grammar
pub is_word_after : (m : Module) (start : NamerNames) → start.keywords ≡ (wgsl_names m).keywords →
    (earlier : List (List ℕ)) (label : List ℕ) → IsWord (name_after start earlier label)
is_word_after m start same earlier label = record {
  text = word_text (name_after start earlier label) (name_after_is_word start earlier label);
  free = keeps_off_reserved m start same earlier label;
}

pub is_identifier : (m : Module) (earlier : List (List ℕ)) (label : List ℕ) →
    IsIdentifier (name_after (wgsl_names m) earlier label)
is_identifier m earlier label = record {
  word = is_word_after m (wgsl_names m) refl earlier label;
  own = keeps_off_builtin m earlier label;
}

-- what is no word, or one of WGSL's own, is no identifier
pub identifier_is_another : (name w : List ℕ) → IsIdentifier name →
    (not (is_word w) || is_builtin w) ≡ true → name ≢ w
identifier_is_another name w is other e =
    by (is_word w) (is_builtin w) (sym (ap is_word e) ∙ text_is_word name is.word.text)
    (sym (ap is_builtin e) ∙ is.own) other
  where
    by : (a b : Bool) → a ≡ true → b ≡ false → (not a || b) ≡ true → ⊥
    by true false one two other = absurd (cc)
    by true true one two other = absurd (cc)
    by false b one two other = absurd (cc)

-- ---- numbered names
no_blanks : (w : List ℕ) (h : ℕ) → is_word w ≡ true → w ≡ replicate h 32 → ⊥
no_blanks w zero word e = absurd (no (sym (ap is_word e) ∙ word))
  where
    no : false ≡ true → ⊥
    no q = cc
no_blanks w (suc h) word e = absurd (no (sym (ap is_word e) ∙ word))
  where
    no : false ≡ true → ⊥
    no q = cc

not_text : (w : List ℕ) (b : Bool) (h : ℕ) → is_word w ≡ true → (w ≡ codes "_e" ++ decimal h → ⊥) →
    w ≡ numbered_text b h → ⊥
not_text w true h word not_so is = not_so is
not_text w false h word not_so is = no_blanks w h word is

pub unnumbered : (w : List ℕ) (h : ℕ) → is_word w ≡ true → (w ≡ codes "_e" ++ decimal h → ⊥) → w ≡ numbered_name h → ⊥
unfolding numbered_name
unnumbered w h word not_so is = not_text w (nat_lt h (2 ^ 64)) h word not_so is

length-replicate : (n : ℕ) → length {A = ℕ} (replicate n 32) ≡ n
length-replicate zero = refl
length-replicate (suc n) = ap suc (length-replicate n)

-- the first byte is a `_`
abbrev begins : List ℕ → Bool
begins [] = false
begins (b ∷ bytes) = nat_eq b 95

no_blank : (k : ℕ) (w : List ℕ) → codes "_e" ++ w ≡ replicate k 32 → ⊥
no_blank zero w e = true≢false (ap begins e)
no_blank (suc k) w e = true≢false (ap begins e)

texts_distinct : (a b : Bool) (h k : ℕ) → (a ≡ true → h < 2 ^ 64) → (b ≡ true → k < 2 ^ 64) → numbered_text a h
    ≡ numbered_text b k → h ≡ k
texts_distinct true true h k p q e = decimal_injective h k (p refl) (q refl) (ap (drop 2) e)
texts_distinct true false h k p q e = absurd (no_blank k (decimal h) e)
texts_distinct false true h k p q e = absurd (no_blank h (decimal k) (sym e))
texts_distinct false false h k p q e = sym (length-replicate h) ∙ ap length e ∙ length-replicate k

pub numbered_distinct : (h k : ℕ) → numbered_name h ≡ numbered_name k → h ≡ k
unfolding numbered_name
numbered_distinct h k e = texts_distinct (nat_lt h (2 ^ 64)) (nat_lt k (2 ^ 64)) h k (ltb-true h (2 ^ 64))
    (ltb-true k (2 ^ 64)) e

-- ---- the items of a module
module _ (m : Module) where
  puts : PutsInto (λ _. None) (named_items (wgsl_names m) (labelled_items (wgsl_names m) m)) (module_names m)
  unfolding module_names
  puts = record { finds = λ key. refl }

  -- an item's name is that of its label after those before it
  pub name_there : (item : LabelledItem) (s : Stands (labelled_items (wgsl_names m) m) item) →
      module_names m item.0 ≡
      Some (name_after (wgsl_names m) (labels_of (take s.index (labelled_items (wgsl_names m) m))) item.1)
  name_there item s = put_at (wgsl_names m) (λ _. None) (module_names m) (labelled_items (wgsl_names m) m) puts
      (items_apart (wgsl_names m) m) s.index item s.there s.outside

  pub name_is : (item : LabelledItem) (s : Stands (labelled_items (wgsl_names m) m) item) →
      name_in (module_names m) item.0 ≡ name_after (wgsl_names m)
      (labels_of (take s.index (labelled_items (wgsl_names m) m))) item.1
  name_is item s = ap (λ o. unwrap_or o []) (name_there item s)

  pub item_is_identifier : (item : LabelledItem) → Stands (labelled_items (wgsl_names m) m) item →
      IsIdentifier (name_in (module_names m) item.0)
  item_is_identifier item s =
      subst IsIdentifier (sym (name_is item s))
      (is_identifier m (labels_of (take s.index (labelled_items (wgsl_names m) m))) item.1)

  pub item_not_numbered : (item : LabelledItem) (h : ℕ) → Stands (labelled_items (wgsl_names m) m) item →
      name_in (module_names m) item.0 ≢ numbered_name h
  item_not_numbered item h s e =
      let earlier = labels_of (take s.index (labelled_items (wgsl_names m) m)) in
      unnumbered (name_after (wgsl_names m) earlier item.1) h (name_after_is_word (wgsl_names m) earlier item.1)
      (name_after_not_numbered (wgsl_names m) earlier item.1 h) (sym (name_is item s) ∙ e)

  pub items_tell : (a b : LabelledItem) → Stands (labelled_items (wgsl_names m) m) a →
      Stands (labelled_items (wgsl_names m) m) b → name_in (module_names m) a.0 ≡ name_in (module_names m) b.0 → a ≡ b
  items_tell a b s t e =
      let index = item_names_tell (wgsl_names m) (labelled_items (wgsl_names m) m) s.index t.index a b s.there t.there
      s.outside t.outside (sym (name_is a s) ∙ e ∙ name_is b t) in
      ap (λ o. unwrap_or o a) (sym s.there ∙ ap (slice_get (labelled_items (wgsl_names m) m)) index ∙ t.there)

  -- the label of a function, or of an entry point
  abbrev pub function_label : ir_function.Function → FunctionType → List ℕ
  function_label f (item.Function handle) = label_or f.name (codes "function")
  function_label f (item.EntryPoint index) =
      option_map_or (λ p. string_bytes p.name) (slice_get m.entry_points.items index) []

  -- the items of functions, arguments and locals
  abbrev pub function_item : ℕ → ir_function.Function → LabelledItem
  function_item g f = (function_key (function_type m g), function_label f (function_type m g))

  abbrev pub argument_item : ℕ → ℕ → FunctionArgument → LabelledItem
  argument_item g n a = (argument_key (function_type m g) n, label_or a.name (codes "param"))

  abbrev pub local_item : ℕ → ℕ → LocalVariable → LabelledItem
  local_item g l v = (local_key (function_type m g) l, label_or v.name (codes "local"))

  pub function_there : (g : ℕ) (f : ir_function.Function) → slice_get (all_functions m) g ≡ Some f →
      Stands (labelled_items (wgsl_names m) m) (function_item g f)
  function_there g f found = by (which_function m g f found)
    where
      stands : FunctionType → Type 0
      stands ty = Stands (labelled_items (wgsl_names m) m) (function_key ty, function_label f ty)

      by : IsNumbered m g f → stands (function_type m g)
      by (OfFunction here ty) = subst stands (sym ty) (function_stands (wgsl_names m) m g f here)
      by (OfEntryPoint j p at here same ty) =
          subst stands (sym ty)
          (subst (λ label. Stands (labelled_items (wgsl_names m) m) (key.EntryPoint j, label))
          (sym (ap (λ o. option_map_or (λ p. string_bytes p.name) o []) here))
          (entry_point_stands (wgsl_names m) m j p here))

  pub argument_there : (g : ℕ) (f : ir_function.Function) (n : ℕ) (a : FunctionArgument) →
      slice_get (all_functions m) g ≡ Some f → slice_get f.arguments.items n ≡ Some a →
      Stands (labelled_items (wgsl_names m) m) (argument_item g n a)
  argument_there g f n a found there = by (which_function m g f found)
    where
      stands : FunctionType → Type 0
      stands ty =
          Stands (labelled_items (wgsl_names m) m) (argument_key ty n, label_or a.name (codes "param"))

      by : IsNumbered m g f → stands (function_type m g)
      by (OfFunction here ty) =
          subst stands (sym ty) (argument_stands (wgsl_names m) m g f n a here there)
      by (OfEntryPoint j p at here same ty) =
          subst stands (sym ty) (entry_argument_stands (wgsl_names m) m j p n a here
          (ap (λ f. slice_get f.arguments.items n) same ∙ there))

  pub local_there : (g : ℕ) (f : ir_function.Function) (l : ℕ) (v : LocalVariable) →
      slice_get (all_functions m) g ≡ Some f → slice_get f.local_variables l ≡ Some v →
      Stands (labelled_items (wgsl_names m) m) (local_item g l v)
  local_there g f l v found there = by (which_function m g f found)
    where
      stands : FunctionType → Type 0
      stands ty =
          Stands (labelled_items (wgsl_names m) m) (local_key ty l, label_or v.name (codes "local"))

      by : IsNumbered m g f → stands (function_type m g)
      by (OfFunction here ty) = subst stands (sym ty) (local_stands (wgsl_names m) m g f l v here there)
      by (OfEntryPoint j p at here same ty) =
          subst stands (sym ty) (entry_local_stands (wgsl_names m) m j p l v here
          (ap (λ f. slice_get f.local_variables l) same ∙ there))

  -- functions with one name have one number
  pub one_function : (g k : ℕ) (f h : ir_function.Function) → slice_get (all_functions m) g ≡ Some f →
      slice_get (all_functions m) k ≡ Some h →
      function_name m (module_names m) g ≡ function_name m (module_names m) k → g ≡ k
  one_function g k f h at there e =
      let same =
      items_tell (function_item g f) (function_item k h) (function_there g f at)
      (function_there k h there) e in
      let ty =
      function_keys_tell (function_type m g) (function_type m k) (ap (λ item. item.0) same) in
      sym (one_number m g) ∙ ap (function_number m) ty ∙ one_number m k
