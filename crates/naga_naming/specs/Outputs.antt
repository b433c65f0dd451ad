-- The table by which structs without a name are labelled: by the index of a type, the word for
-- what entry points give that return it.
use Rattle.std.specs.Prelude.{ℕ, List, Option, nat_eq, ◌∷◌, unwrap_or, if◌then◌else◌, codes}
use denote.Ref.{Bor}
use Rattle.std.specs.HashMap as hash
use Rattle.std.specs.Option.{option_map}
use Rattle.naga_ir.specs.declared.types.Type_.{Type_}
use Rattle.naga_ir.specs.declared.types.TypeInner.{TypeInner}
use Rattle.naga_naming.specs.declared.key.NameKey.TheVariants as key
use Rattle.naga_naming.specs.Naming.{label_or}
use Rattle.naga_naming.specs.Reset.{LabelledItem, is_struct, members_of, labelled_members}

abbrev pub words_in : {S : Type 0} → hash.HashMap ℕ (Bor (List ℕ)) S → ℕ → Option (List ℕ)
words_in words t = option_map (λ word. word.now) (hash.get nat_eq words t)

-- what a type without a label is labelled
abbrev pub unnamed_label_by : (ℕ → Option (List ℕ)) → ℕ → TypeInner → List ℕ
unnamed_label_by words t inner =
    if is_struct inner then unwrap_or (words t) (codes "type") else codes "type"

abbrev pub type_label_by : (ℕ → Option (List ℕ)) → ℕ → Type_ → List ℕ
type_label_by words t ty = label_or ty.name (unnamed_label_by words t ty.inner)

-- a type and then its members, by these words
abbrev pub labelled_type_by : (ℕ → Option (List ℕ)) → ℕ → Type_ → List LabelledItem
labelled_type_by words t ty =
    (key.Type_ t, type_label_by words t ty) ∷ labelled_members t (members_of ty.inner)
