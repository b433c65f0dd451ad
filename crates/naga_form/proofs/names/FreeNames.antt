-- Names that stand free of every word of a program of shapes: each begins with the number 1, with
-- which no word of an operator, of a request or of a type begins, and after it are the kind of the
-- item and its number. What is proved of a module's run under some names holds under these, and
-- what is said of the run alone holds whatever the names of the module's text are.
use Rattle.std.proofs.Common.{◌≡◌, ◌≢◌, ℕ, ◌<◌, Bool, true, false, List, [], ◌∷◌, length, refl, sym, ap, ◌∙◌}
use Rattle.std.proofs.Common.{nat_eq, true≢false}
use Rattle.std.specs.Prelude.{get_or}
use Rattle.shader_runs.specs.Value.{Bytes}
use Rattle.shader_runs.specs.Program.{Function, Module}
use Rattle.shader_runs.specs.Scope.{ModuleNames, Names, Naming}
use Rattle.shader_runs.specs.Form.{functions_of}
use Rattle.shader_runs.specs.Premises.{ArgumentName, LocalName, ConstantName, GlobalName}
use Rattle.shader_runs.specs.Premises.{NameKey, FixedKey, NumberedKey, NamedKey, name_at, IsNoName}
use Rattle.shader_runs.specs.Premises.{StandsFree, AsksBy, OperatesBy, AreDistinct, OperatesOutside}
use Rattle.shader_runs.specs.Premises.{ModuleNamesAreDistinct}

-- the name of the item of a kind with this number
abbrev pub free_name : (kind : ℕ) → ℕ → Bytes
free_name kind i = 1 ∷ kind ∷ i ∷ []

-- it may be such a name
abbrev pub begins_free : Bytes → Bool
begins_free [] = false
begins_free (b ∷ bytes) = nat_eq b 1

-- the names of a module's items, where these words ask for events, and all others are operators'
abbrev pub free_names : (asks : Bytes → Bool) → ModuleNames
free_names asks = record {
  constant = free_name 0;
  global = free_name 1;
  function = free_name 2;
  vocabulary = record { is_request = asks; is_operator = λ word. true };
}

-- the names in a function after so many others
abbrev pub free_within : (asks : Bytes → Bool) → (earlier : ℕ) → Names
free_within asks earlier = record {
  outer = free_names asks;
  argument = free_name 3;
  local_ = free_name 4;
  named = free_name 5;
  numbered = free_name 6;
  earlier = earlier;
}

-- the function under these names
abbrev pub freely_named : (asks : Bytes → Bool) → (earlier : ℕ) → Function → Naming
freely_named asks earlier f = record { function = f; names = free_within asks earlier }

-- functions, each after those that follow in the list
abbrev pub free_naming : (asks : Bytes → Bool) → List Function → List Naming
free_naming asks [] = []
free_naming asks (f ∷ fs) = freely_named asks (length fs) f ∷ free_naming asks fs

pub free_functions : (asks : Bytes → Bool) (fs : List Function) → functions_of (free_naming asks fs) ≡ fs
free_functions asks [] = refl
free_functions asks (f ∷ fs) = ap (λ gs. f ∷ gs) (free_functions asks fs)

-- ---- no name comes twice
-- the number in a name
abbrev number_of : Bytes → ℕ
number_of w = get_or w 2 0

-- what has this name in a function
abbrev key_numbered : (kind number : ℕ) → NameKey
key_numbered kind i =
    get_or
    (FixedKey (ConstantName i) ∷ FixedKey (GlobalName i) ∷ NumberedKey i
    ∷ FixedKey (ArgumentName i) ∷ FixedKey (LocalName i) ∷ NamedKey i ∷ [])
    kind (NumberedKey i)

abbrev key_of : Bytes → NameKey
key_of w = key_numbered (get_or w 1 0) (number_of w)

key_distinguished : (asks : Bytes → Bool) (earlier : ℕ) (a : NameKey) →
    key_of (name_at (free_within asks earlier) a) ≡ a
key_distinguished asks earlier (FixedKey (ArgumentName i)) = refl
key_distinguished asks earlier _ = refl

pub free_distinct : (asks : Bytes → Bool) (p : Module) (earlier : ℕ) (f : Function) →
    AreDistinct p (freely_named asks earlier f)
free_distinct asks p earlier f a b is_a is_b e = sym (key_distinguished asks earlier a)
    ∙ (ap key_of e ∙ key_distinguished asks earlier b)

pub free_functions_distinct : (asks : Bytes → Bool) (p : Module) → ModuleNamesAreDistinct p (free_names asks)
free_functions_distinct asks p = record { functions = λ g k lg lk e. ap number_of e }

pub free_constants_distinct : (asks : Bytes → Bool) (p : Module) (i k : ℕ) →
    i < length p.constant_types → k < length p.constant_types →
    (free_names asks).constant i ≡ (free_names asks).constant k → i ≡ k
free_constants_distinct asks p i k li lk e = ap number_of e

-- ---- no word is a name
-- every name begins so
all_begin_free : (asks : Bytes → Bool) (earlier : ℕ) (a : NameKey) →
    begins_free (name_at (free_within asks earlier) a) ≡ true
all_begin_free asks earlier (FixedKey (ArgumentName i)) = refl
all_begin_free asks earlier _ = refl

-- what begins otherwise is no such name
apart : (v w : Bytes) → begins_free v ≡ true → begins_free w ≡ false → v ≢ w
apart v w is not_so e = true≢false (sym is ∙ (ap begins_free e ∙ not_so))

pub word_stands_free : (asks : Bytes → Bool) (p : Module) (earlier : ℕ) (f : Function) (w : Bytes) →
    begins_free w ≡ false → StandsFree p (freely_named asks earlier f) w
word_stands_free asks p earlier f w not_so = (
  λ g lt. apart (free_name 2 g) w refl not_so,
  λ a is. apart (name_at (free_within asks earlier) a) w (all_begin_free asks earlier a) not_so,
)

-- nor is a function's name hidden
abbrev kind_in : Bytes → ℕ
kind_in w = get_or w 1 0

abbrev is_functions : Bytes → Bool
is_functions w = nat_eq (kind_in w) 2

none_is_functions : (asks : Bytes → Bool) (earlier : ℕ) (a : NameKey) →
    is_functions (name_at (free_within asks earlier) a) ≡ false
none_is_functions asks earlier (FixedKey (ArgumentName i)) = refl
none_is_functions asks earlier _ = refl

pub function_not_hidden : (asks : Bytes → Bool) (p : Module) (earlier : ℕ) (f : Function) (g : ℕ) →
    IsNoName p (freely_named asks earlier f) ((free_names asks).function g)
function_not_hidden asks p earlier f g a is e = true≢false (sym (ap is_functions e) ∙ none_is_functions asks earlier a)

-- ---- words that ask and words that don't
pub asks_freely : (asks : Bytes → Bool) (p : Module) (earlier : ℕ) (f : Function) (w : Bytes) →
    begins_free w ≡ false → asks w ≡ true → AsksBy p (freely_named asks earlier f) w
asks_freely asks p earlier f w not_so does = (does, word_stands_free asks p earlier f w not_so)

pub operates_freely : (asks : Bytes → Bool) (p : Module) (earlier : ℕ) (f : Function) (w : Bytes) →
    begins_free w ≡ false → asks w ≡ false → OperatesBy p (freely_named asks earlier f) w
operates_freely asks p earlier f w not_so does = (does, refl, word_stands_free asks p earlier f w not_so)

pub operates_outside : (asks : Bytes → Bool) (p : Module) (w : Bytes) → begins_free w ≡ false → asks w ≡ false →
    OperatesOutside p (free_names asks) w
operates_outside asks p w not_so does = record {
  asks_nothing = does;
  operates = refl;
  functions = λ g lt. apart (free_name 2 g) w refl not_so;
  constants = λ i lt. apart (free_name 0 i) w refl not_so;
  globals = λ i lt. apart (free_name 1 i) w refl not_so;
}
