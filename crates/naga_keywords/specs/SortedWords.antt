-- Words in ascending order, and where one stands among them.
--
-- Throughout, ks are the keys that members are compared by, and w is that of the wanted word.
use Rattle.std.specs.Prelude.{◌≡◌, ℕ, ◌<◌, ◌≤◌, ◌^◌, List, map, length, get_or}
use Rattle.std.specs.Prelude.{MatchOption, MatchResult, Option, Result}
use Rattle.std.specs.Cmp.Lexicographic.{slice_cmp}
use Rattle.std.specs.FinSet as set
use Rattle.std.specs.Ordering.{nat_cmp}
use Rattle.std.specs.declared.cmp.Ordering.{Ordering}
use Rattle.std.specs.declared.cmp.Ordering.TheVariants.{Less, Greater}
use Rattle.naga_keywords.specs.Words.{Words, in_lower_case}
use Rattle.naga_keywords.specs.declared.sorted.Case.{Case}
use Rattle.naga_keywords.specs.declared.sorted.Case.TheVariants.{Sensitive, Insensitive}
use Rattle.std.specs.Coded.{Coded, codes, coded_ℕ, coded_list}
use denote.Ref.{Bor}

-- what a word is compared by: its bytes, with the ASCII letters in lower case where case is ignored
abbrev pub comparison_key : Case → List ℕ → List ℕ
comparison_key Sensitive word = word
comparison_key Insensitive word = in_lower_case word

-- texts are in the order of their bytes
abbrev pub word_cmp : List ℕ → List ℕ → Ordering
word_cmp = slice_cmp nat_cmp

-- what the members are compared by
abbrev pub keys_of : Case → List (Bor (List ℕ)) → List (List ℕ)
keys_of case members = map (λ member. comparison_key case member.now) members

-- all keys before the index come before the wanted one, and those from there on after it
pub record IsIndexOf (ks : List (List ℕ)) (w : List ℕ) (index : ℕ) : Type 0 where
  pub within : index ≤ length ks
  pub before : (i : ℕ) (d : List ℕ) → i < index → word_cmp (get_or ks i d) w ≡ Less
  pub following : (i : ℕ) (d : List ℕ) → index ≤ i → i < length ks →
      word_cmp (get_or ks i d) w ≡ Greater

-- the wanted one stands at the index
pub record StandsAt (ks : List (List ℕ)) (w : List ℕ) (index : ℕ) : Type 0 where
  pub within : index < length ks
  pub is : (d : List ℕ) → get_or ks index d ≡ w

-- where the wanted one stands, or where it would be put
abbrev pub IsFoundAt : List (List ℕ) → List ℕ → Result ℕ ℕ → Type 0
IsFoundAt ks w found = MatchResult found (StandsAt ks w) (IsIndexOf ks w)

-- No more comparisons than the number of members has binary digits, which are the least k for which
-- it is below 2 ^ k.
abbrev pub IsWithinDigits : (comparisons members : ℕ) → Type 0
IsWithinDigits comparisons members = (k : ℕ) → members < 2 ^ k → comparisons ≤ k

-- where the wanted one is to be put, if it isn't there
abbrev pub IsIndexFor : List (List ℕ) → List ℕ → Option ℕ → Type 0
IsIndexFor ks w found = MatchOption found ((index : ℕ) × StandsAt ks w index) (IsIndexOf ks w)

-- what contracts see of a set: how its words are read, and these as they are read
pub record SetView : Type 0 where
  pub case : Case
  pub words : Words

abbrev pub view_of_words : Case → List (Bor (List ℕ)) → SetView
view_of_words case members = record { case = case; words = set.from_list (keys_of case members) }

pub view_code : Coded SetView
view_code = Prim.hlevel (codes, set.code {R = word_cmp} (coded_list coded_ℕ))
