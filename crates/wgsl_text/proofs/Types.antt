-- Types: the machine reads back what their pieces write, and no token of these runs into the
-- next; and the text of each row.
use Rattle.std.proofs.Common.{◌≡◌, ℕ, Bool, true, false, ◌&&◌, List, [], ◌∷◌, ◌++◌, refl, sym, ◌∙◌}
use Rattle.wgsl_text.specs.Token.{NoSuffix, Number, Piece}
use Rattle.wgsl_text.specs.Types.{TypeSpecifier, Named, Template, TemplateArguments}
use Rattle.wgsl_text.specs.Types.{NoTemplateArguments, TypeArgument, SizeArgument, has_gaps, gap_if}
use Rattle.wgsl_text.specs.Types.{type_pieces, template_pieces, more_template_pieces, TemplateRule}
use Rattle.wgsl_text.specs.Types.{TakesNone, TakesScalar, TakesSampled, TakesElements, TakesPointee}
use Rattle.wgsl_text.specs.Types.{TakesFormat, TakesVertexReturn, TakesRole, TakesType, rule_among}
use Rattle.wgsl_text.specs.Types.{type_templates, fits, IsTemplateArgument, AreTemplateArguments}
use Rattle.wgsl_text.specs.Words.{stands_in, is_builtin, IsWord, is_reserved}
use Rattle.wgsl_text.proofs.Chain.{◌$◌}
use Rattle.wgsl_text.proofs.Runs.{Runs, ◌onward◌, reads, over_gap, at_end}
use Rattle.wgsl_text.proofs.Spacing.{Spaced, Ends, end, part, tok, free, number_of_plain, size, gap}
use Rattle.wgsl_text.proofs.Spacing.{Opens, opens_first, word_opens, number_opens}
use Rattle.wgsl_text.proofs.Text.{ends, text-append}
use Rattle.wgsl_text.proofs.Words.{all_words, passes, is_free, free_word}
use Rattle.wgsl_text.proofs.Machine.{Stack, InTemplate, Reader, ExpectType, GotType, AfterPart}
use Rattle.wgsl_text.proofs.Machine.{unwind_parts}
use Rattle.std.specs.Prelude.{codes, ⊤, IsTrue, cond}
use Rattle.std.proofs.lemmas.Bool.{false≢true, and_parts}
use Rattle.wgsl_text.specs.Text.{text}
use Rattle.std.proofs.lemmas.List.{append-nil}
use Rattle.wgsl_text.specs.Reading.{printed_type}

gap_runs : (gaps : Bool) {qs : List Piece} {s s' : Reader} → Runs qs s s' → Runs (gap_if gaps ++ qs) s s'
gap_runs true b = over_gap b
gap_runs false b = b

part_done : (more : TemplateArguments) (gaps : Bool) {t : TypeSpecifier} {w : List ℕ}
    {done : TemplateArguments} {s : Stack} {s' : Reader} →
    Runs (more_template_pieces more gaps) (AfterPart w (TypeArgument t done) s) s' →
    Runs (more_template_pieces more gaps) (GotType t (InTemplate w done s)) s'
part_done NoTemplateArguments gaps a = record { to = a.to }
part_done (TypeArgument t more) gaps a = record { to = a.to }
part_done (SizeArgument n more) gaps a = record { to = a.to }

mutual
  pub type_runs : (t : TypeSpecifier) → IsTemplateArgument t → (s : Stack) →
      Runs (type_pieces t) (ExpectType s) (GotType t s)
  type_runs (Named w) is s = at_end
  type_runs (Template w args) is s = reads $ reads $ parts_run args is.1 (has_gaps w) w s

  pub parts_run : (args : TemplateArguments) → AreTemplateArguments args →
      (gaps : Bool) (w : List ℕ) (s : Stack) →
      Runs (template_pieces args gaps) (ExpectType (InTemplate w NoTemplateArguments s))
      (GotType (Template w args) s)
  parts_run NoTemplateArguments is gaps w s = at_end
  parts_run (TypeArgument t more) is gaps w s = type_runs t is.0 _ onward part_done more gaps
      (more_parts_run more is.1 gaps _ w s)
  parts_run (SizeArgument n more) is gaps w s =
      reads $ more_parts_run more is.1 gaps (SizeArgument n NoTemplateArguments) w s

  pub more_parts_run : (args : TemplateArguments) → AreTemplateArguments args →
      (gaps : Bool) (done : TemplateArguments) (w : List ℕ) (s : Stack) →
      Runs (more_template_pieces args gaps) (AfterPart w done s)
      (GotType (Template w (unwind_parts done args)) s)
  more_parts_run NoTemplateArguments is gaps done w s = at_end
  more_parts_run (TypeArgument t more) is gaps done w s = reads $ gap_runs gaps $
      type_runs t is.0 _ onward part_done more gaps (more_parts_run more is.1 gaps (TypeArgument t done) w s)
  more_parts_run (SizeArgument n more) is gaps done w s = reads $ gap_runs gaps $ reads $
      more_parts_run more is.1 gaps (SizeArgument n done) w s

-- Words that take parts.

-- a word that parts follow in angle brackets
pub record IsTemplateWord (w : List ℕ) : Type 0 where
  pub word : IsWord w
  pub builtin : is_builtin w ≡ true

abbrev pub is_template : List ℕ → Bool
is_template w = is_free w && is_builtin w

abbrev pub all_rows : (List ℕ → Bool) → List (List (List ℕ) × TemplateRule) → Bool
all_rows p [] = true
all_rows p (row ∷ rows) = all_words p row.0 && all_rows p rows

pub fits_none : (parts : TemplateArguments) → fits TakesNone parts ≡ false
fits_none NoTemplateArguments = refl
fits_none _ = refl

-- A word whose parts fit stands in a row.
pub row_word : (p : List ℕ → Bool) (rows : List (List (List ℕ) × TemplateRule)) (w : List ℕ)
    (parts : TemplateArguments) → all_rows p rows ≡ true → IsTrue (fits (rule_among rows w) parts) → p w ≡ true
row_word p [] w parts all fit = absurd (false≢true (sym (fits_none parts) ∙ fit))
row_word p (row ∷ rows) w parts all fit =
    let h = and_parts (all_words p row.0) (all_rows p rows) all in
    found (stands_in row.0 w) refl h.0 (row_word p rows w parts h.1) fit
  where
    found : (b : Bool) → stands_in row.0 w ≡ b → all_words p row.0 ≡ true →
        (IsTrue (fits (rule_among rows w) parts) → p w ≡ true) →
        IsTrue (fits (cond b row.1 (rule_among rows w)) parts) → p w ≡ true
    found true at each later fit = passes p row.0 w each at
    found false at each later fit = later fit

types_are_templates : all_rows is_template type_templates ≡ true
unfolding is_reserved is_builtin
types_are_templates = refl

pub template_of : (w : List ℕ) → is_template w ≡ true → IsTemplateWord w
template_of w e = let h = and_parts (is_free w) (is_builtin w) e in record { word = free_word w h.0; builtin = h.1 }

pub type_template : (w : List ℕ) (parts : TemplateArguments) →
    IsTrue (fits (rule_among type_templates w) parts) → IsTemplateWord w
type_template w parts fit = template_of w (row_word is_template type_templates w parts types_are_templates fit)

-- No rule takes no parts.
abbrev pub HasParts : TemplateArguments → Type 0
HasParts NoTemplateArguments = ⊥
HasParts _ = ⊤

pub parts_of_fit : (rule : TemplateRule) (parts : TemplateArguments) → IsTrue (fits rule parts) → HasParts parts
parts_of_fit TakesNone NoTemplateArguments fit = absurd (false≢true fit)
parts_of_fit TakesScalar NoTemplateArguments fit = absurd (false≢true fit)
parts_of_fit TakesSampled NoTemplateArguments fit = absurd (false≢true fit)
parts_of_fit TakesElements NoTemplateArguments fit = absurd (false≢true fit)
parts_of_fit TakesPointee NoTemplateArguments fit = absurd (false≢true fit)
parts_of_fit TakesFormat NoTemplateArguments fit = absurd (false≢true fit)
parts_of_fit TakesVertexReturn NoTemplateArguments fit = absurd (false≢true fit)
parts_of_fit TakesRole NoTemplateArguments fit = absurd (false≢true fit)
parts_of_fit TakesType NoTemplateArguments fit = absurd (false≢true fit)
parts_of_fit _ _ fit = tt

-- calls

abbrev pub takes_none : TemplateRule → Bool
takes_none TakesNone = true
takes_none _ = false

pub fits_nothing : (rule : TemplateRule) (parts : TemplateArguments) → takes_none rule ≡ true → fits rule parts ≡ false
fits_nothing TakesNone parts e = fits_none parts
fits_nothing TakesScalar parts e = absurd (false≢true e)
fits_nothing TakesSampled parts e = absurd (false≢true e)
fits_nothing TakesElements parts e = absurd (false≢true e)
fits_nothing TakesPointee parts e = absurd (false≢true e)
fits_nothing TakesFormat parts e = absurd (false≢true e)
fits_nothing TakesVertexReturn parts e = absurd (false≢true e)
fits_nothing TakesRole parts e = absurd (false≢true e)
fits_nothing TakesType parts e = absurd (false≢true e)

-- In their pieces no token runs into the next.

part_opens : (t : TypeSpecifier) → IsTemplateArgument t → Opens (type_pieces t)
part_opens (Named w) is = word_opens w is
part_opens (Template w parts) is = word_opens w (type_template w parts is.0).word

pub parts_open : (parts : TemplateArguments) → HasParts parts → AreTemplateArguments parts → (gaps : Bool) →
    Opens (template_pieces parts gaps)
parts_open NoTemplateArguments some is gaps = absurd some
parts_open (TypeArgument t more) some is gaps = opens_first _ (part_opens t is.0)
parts_open (SizeArgument n more) some is gaps =
    number_opens false n NoSuffix (number_of_plain n is.0)

gap_spaced : (gaps : Bool) {qs : List Piece} → Spaced qs → Spaced (gap_if gaps ++ qs)
gap_spaced true b = gap b
gap_spaced false b = b

more_parts_end : (args : TemplateArguments) (gaps : Bool) → Ends (more_template_pieces args gaps)
more_parts_end NoTemplateArguments gaps more e = refl
more_parts_end _ gaps more e = refl

number_end : (args : TemplateArguments) (gaps : Bool) (n : ℕ) (more : List Piece) →
    ends (Number false n NoSuffix) (text (more_template_pieces args gaps ++ more)) ≡ true
number_end NoTemplateArguments gaps n more = refl
number_end _ gaps n more = refl

mutual
  pub type_spaced : (t : TypeSpecifier) → IsTemplateArgument t → Spaced (type_pieces t)
  type_spaced (Named w) is = free is (λ more e. e) end
  type_spaced (Template w parts) is =
      free (type_template w parts is.0).word (λ more e. refl) $
      tok tt (λ more e. (parts_open parts (parts_of_fit _ parts is.0) is.1 (has_gaps w)).at more) $
      parts_spaced parts is.1 (has_gaps w)

  pub parts_spaced : (parts : TemplateArguments) → AreTemplateArguments parts → (gaps : Bool) →
      Spaced (template_pieces parts gaps)
  parts_spaced NoTemplateArguments is gaps = tok tt (λ more e. refl) end
  parts_spaced (TypeArgument t more) is gaps = part (type_spaced t is.0) (more_parts_end more gaps) $
      more_parts_spaced more is.1 gaps
  parts_spaced (SizeArgument n more) is gaps = size is.0 (λ ps e. number_end more gaps n ps) $
      more_parts_spaced more is.1 gaps

  more_parts_spaced : (parts : TemplateArguments) → AreTemplateArguments parts → (gaps : Bool) →
      Spaced (more_template_pieces parts gaps)
  more_parts_spaced NoTemplateArguments is gaps = tok tt (λ more e. refl) end
  more_parts_spaced (TypeArgument t more) is gaps = tok tt (λ ps e. refl) $ gap_spaced gaps $
      part (type_spaced t is.0) (more_parts_end more gaps) $ more_parts_spaced more is.1 gaps
  more_parts_spaced (SizeArgument n more) is gaps = tok tt (λ ps e. refl) $ gap_spaced gaps $
      size is.0 (λ ps e. number_end more gaps n ps) $ more_parts_spaced more is.1 gaps

-- The text of each row, from the texts of its parts.

pub named_text : (w : List ℕ) → printed_type (Named w) ≡ w
named_text w = append-nil w

pub type_part_text : (t : TypeSpecifier) (more : TemplateArguments) (gaps : Bool) →
    text (template_pieces (TypeArgument t more) gaps) ≡ printed_type t ++ text (more_template_pieces more gaps)
type_part_text t more gaps = simp text-append

pub next_part_text : (t : TypeSpecifier) (more : TemplateArguments) →
    text (more_template_pieces (TypeArgument t more) true)
    ≡ codes ", " ++ (printed_type t ++ text (more_template_pieces more true))
next_part_text t more = simp text-append
