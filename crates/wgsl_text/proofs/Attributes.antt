-- Attributes: the machine reads back what their pieces write, and no token of these runs into the
-- next; and the text of each row.
use Rattle.std.proofs.Common.{◌≡◌, ℕ, true, false, List, [], ◌∷◌, ◌++◌, refl, ap, ◌∙◌}
use Rattle.std.specs.Prelude.{codes}
use Rattle.wgsl_text.specs.Attributes.{PlainAttribute, Invariant, PerPrimitive, Coherent, Volatile}
use Rattle.wgsl_text.specs.Attributes.{Vertex, Fragment, Compute, Task, RayGeneration, AnyHit}
use Rattle.wgsl_text.specs.Attributes.{ClosestHit, Miss, NumberedAttribute, Location, BlendSource}
use Rattle.wgsl_text.specs.Attributes.{Id, Group, Binding, Size, Align, WordedAttribute, Builtin}
use Rattle.wgsl_text.specs.Attributes.{Interpolate, Mesh, Payload, IncomingPayload, Attribute}
use Rattle.wgsl_text.specs.Attributes.{Plain, Numbered, Worded, Interpolated, WorkgroupSize}
use Rattle.wgsl_text.specs.Attributes.{plain_attribute_word, numbered_attribute_word}
use Rattle.wgsl_text.specs.Attributes.{worded_attribute_word, attribute_pieces, attributes_pieces}
use Rattle.wgsl_text.specs.Attributes.{IsAttribute, IsAttributes, SizePart, FixedSize, NamedSize}
use Rattle.wgsl_text.specs.Attributes.{IsSizePart, size_piece, size_token}
use Rattle.wgsl_text.specs.Declarations.{StructMember, Program}
use Rattle.wgsl_text.specs.Functions.{Parameter}
use Rattle.wgsl_text.specs.Token.{At, Fixed, Number, NoSuffix, Piece}
use Rattle.wgsl_text.specs.Words.{is_builtin, IsWord, is_reserved}
use Rattle.wgsl_text.proofs.Machine.{Stack, Reader, Expect, step, InProgram, InParameters, InResult}
use Rattle.wgsl_text.proofs.Machine.{InMembers, ExpectParameter, ExpectResult, AttributeName}
use Rattle.wgsl_text.proofs.Machine.{ExpectMemberName, PlainKind, NumberedKind, WordedKind, kind_of}
use Rattle.wgsl_text.proofs.Machine.{attribute_named, turned, add_attribute, AttributePart, SizeKind}
use Rattle.wgsl_text.proofs.Machine.{NumberPart, WordPart, ExpectAttributePart, AfterAttributePart}
use Rattle.wgsl_text.proofs.Machine.{size_of_part}
use Rattle.wgsl_text.proofs.Chain.{◌$◌}
use Rattle.wgsl_text.proofs.Closing.{Closed, none, gap, tok, free, size, sign, ◌then◌}
use Rattle.wgsl_text.proofs.Runs.{Runs, ◌onward◌, reads, over_gap, as_reader, at_end}
use Rattle.wgsl_text.proofs.Text.{IsWordToken, ends, ends_word}
use Rattle.wgsl_text.proofs.Words.{table_word, builtin_values_free, interpolations_free}
use Rattle.wgsl_text.proofs.Words.{samplings_free}
use Rattle.wgsl_text.specs.Tables.{builtin_value_words, interpolation_words, sampling_words}
use Rattle.wgsl_text.specs.Text.{text}

-- attributes

plain_kind : (a : PlainAttribute) → kind_of (plain_attribute_word a) ≡ PlainKind a
plain_kind Invariant = refl
plain_kind PerPrimitive = refl
plain_kind Coherent = refl
plain_kind Volatile = refl
plain_kind Vertex = refl
plain_kind Fragment = refl
plain_kind Compute = refl
plain_kind Task = refl
plain_kind RayGeneration = refl
plain_kind AnyHit = refl
plain_kind ClosestHit = refl
plain_kind Miss = refl

numbered_kind : (a : NumberedAttribute) → kind_of (numbered_attribute_word a) ≡ NumberedKind a
numbered_kind Location = refl
numbered_kind BlendSource = refl
numbered_kind Id = refl
numbered_kind Group = refl
numbered_kind Binding = refl
numbered_kind Size = refl
numbered_kind Align = refl

worded_kind : (a : WordedAttribute) → kind_of (worded_attribute_word a) ≡ WordedKind a
worded_kind Builtin = refl
worded_kind Interpolate = refl
worded_kind Mesh = refl
worded_kind Payload = refl
worded_kind IncomingPayload = refl

-- a part of a workgroup's size
part_of_size : SizePart → AttributePart
part_of_size (FixedSize n) = NumberPart n
part_of_size (NamedSize w) = WordPart w

size_read : (x : SizePart) (done : List AttributePart) (s : Stack) →
    step is_builtin (ExpectAttributePart SizeKind done s) (size_token x) ≡
    AfterAttributePart SizeKind (part_of_size x ∷ done) s
unfolding part_of_size
size_read (FixedSize n) done s = refl
size_read (NamedSize w) done s = refl

size_kept : (x : SizePart) → size_of_part (part_of_size x) ≡ x
unfolding part_of_size
size_kept (FixedSize n) = refl
size_kept (NamedSize w) = refl

sizes_kept : (x y z : SizePart) → WorkgroupSize (size_of_part (part_of_size x)) (size_of_part (part_of_size y))
    (size_of_part (part_of_size z)) ≡ WorkgroupSize x y z
sizes_kept x y z =
    ap (λ v. WorkgroupSize v (size_of_part (part_of_size y)) (size_of_part (part_of_size z))) (size_kept x) ∙
    (ap (λ v. WorkgroupSize x v (size_of_part (part_of_size z))) (size_kept y) ∙
    ap (WorkgroupSize x y) (size_kept z))

-- an attribute, from a state where `@` may stand
pub attribute_runs : (a : Attribute) {at : Reader} {s : Stack} → step is_builtin at (Fixed At)
    ≡ AttributeName s → Runs (attribute_pieces a) at (add_attribute a s)
attribute_runs (Plain a) {s = s} e = reads $ as_reader e $ reads $
    as_reader (ap (λ k. attribute_named k s) (plain_kind a)) $ over_gap at_end
attribute_runs (Numbered a n) {s = s} e = reads $ as_reader e $ reads $
    as_reader (ap (λ k. attribute_named k s) (numbered_kind a)) at_end
attribute_runs (Worded a w) {s = s} e = reads $ as_reader e $ reads $
    as_reader (ap (λ k. attribute_named k s) (worded_kind a)) at_end
attribute_runs (Interpolated i w) e = reads $ as_reader e at_end
attribute_runs (WorkgroupSize x y z) {s = s} e = reads $ as_reader e $ reads $ reads $ reads $
    as_reader (size_read x _ s) $ reads $ over_gap $ reads $ as_reader (size_read y _ s) $ reads $ over_gap $
    reads $ as_reader (size_read z _ s) $ reads $ as_reader (ap (λ a. add_attribute a s) (sizes_kept x y z)) $
    over_gap at_end

pub attributes_run : (list attributes : List Attribute) (p : Program) →
    Runs (attributes_pieces list) (Expect (InProgram attributes p)) (Expect (InProgram (turned list attributes) p))
attributes_run [] attributes p = at_end
attributes_run (a ∷ more) attributes p = attribute_runs a refl onward attributes_run more (a ∷ attributes) p

pub member_attributes_run : (list : List Attribute) (w : List ℕ) (done : List StructMember)
    (attributes : List Attribute) (s : Stack) →
    Runs (attributes_pieces list) (ExpectMemberName (InMembers w done attributes s))
    (ExpectMemberName (InMembers w done (turned list attributes) s))
member_attributes_run [] w done attributes s = at_end
member_attributes_run (a ∷ more) w done attributes s =
    attribute_runs a refl onward member_attributes_run more w done (a ∷ attributes) s

pub parameter_attributes_run : (list : List Attribute) (f : List ℕ) (done : List Parameter)
    (attributes : List Attribute) (s : Stack) →
    Runs (attributes_pieces list) (ExpectParameter (InParameters f done attributes s))
    (ExpectParameter (InParameters f done (turned list attributes) s))
parameter_attributes_run [] f done attributes s = at_end
parameter_attributes_run (a ∷ more) f done attributes s =
    attribute_runs a refl onward parameter_attributes_run more f done (a ∷ attributes) s

pub result_attributes_run : (list : List Attribute) (f : List ℕ) (ps : List Parameter)
    (attributes : List Attribute) (s : Stack) →
    Runs (attributes_pieces list) (ExpectResult (InResult f ps attributes s))
    (ExpectResult (InResult f ps (turned list attributes) s))
result_attributes_run [] f ps attributes s = at_end
result_attributes_run (a ∷ more) f ps attributes s =
    attribute_runs a refl onward result_attributes_run more f ps (a ∷ attributes) s

-- In their pieces no token runs into the next.

-- attributes

plain_word : (a : PlainAttribute) → IsWordToken (plain_attribute_word a)
unfolding is_reserved
plain_word Invariant = record { text = refl; token = refl }
plain_word PerPrimitive = record { text = refl; token = refl }
plain_word Coherent = record { text = refl; token = refl }
plain_word Volatile = record { text = refl; token = refl }
plain_word Vertex = record { text = refl; token = refl }
plain_word Fragment = record { text = refl; token = refl }
plain_word Compute = record { text = refl; token = refl }
plain_word Task = record { text = refl; token = refl }
plain_word RayGeneration = record { text = refl; token = refl }
plain_word AnyHit = record { text = refl; token = refl }
plain_word ClosestHit = record { text = refl; token = refl }
plain_word Miss = record { text = refl; token = refl }

numbered_word : (a : NumberedAttribute) → IsWordToken (numbered_attribute_word a)
unfolding is_reserved
numbered_word Location = record { text = refl; token = refl }
numbered_word BlendSource = record { text = refl; token = refl }
numbered_word Id = record { text = refl; token = refl }
numbered_word Group = record { text = refl; token = refl }
numbered_word Binding = record { text = refl; token = refl }
numbered_word Size = record { text = refl; token = refl }
numbered_word Align = record { text = refl; token = refl }

worded_word : (a : WordedAttribute) → IsWordToken (worded_attribute_word a)
unfolding is_reserved
worded_word Builtin = record { text = refl; token = refl }
worded_word Interpolate = record { text = refl; token = refl }
worded_word Mesh = record { text = refl; token = refl }
worded_word Payload = record { text = refl; token = refl }
worded_word IncomingPayload = record { text = refl; token = refl }

interpolate_word : IsWordToken (codes "interpolate")
unfolding is_reserved
interpolate_word = record { text = refl; token = refl }

size_word : IsWordToken (codes "workgroup_size")
unfolding is_reserved
size_word = record { text = refl; token = refl }

-- the word in an attribute
attribute_word : (a : WordedAttribute) (w : List ℕ) → IsAttribute (Worded a w) → IsWord w
attribute_word Builtin w is = table_word builtin_value_words w builtin_values_free is
attribute_word Interpolate w is = table_word interpolation_words w interpolations_free is
attribute_word Mesh w is = is.word
attribute_word Payload w is = is.word
attribute_word IncomingPayload w is = is.word

size_closed : (x : SizePart) {qs : List Piece} → IsSizePart x →
    ((more : List Piece) → ends (Number false 0 NoSuffix) (text (qs ++ more)) ≡ true) →
    ((more : List Piece) → ends_word (text (qs ++ more)) ≡ true) → Closed qs → Closed (size_piece x ∷ qs)
size_closed (FixedSize n) is number word b = size is number b
size_closed (NamedSize w) is number word b = free is.word word b

pub attribute_closed : (a : Attribute) → IsAttribute a → Closed (attribute_pieces a)
attribute_closed (Plain a) is = sign (λ _. refl) $ tok (plain_word a) (λ _. refl) $ gap none
attribute_closed (Numbered a n) is = sign (λ _. refl) $ tok (numbered_word a) (λ _. refl) $ sign (λ _. refl) $
    size is (λ _. refl) $ sign (λ _. refl) $ gap none
attribute_closed (Worded a w) is =
    sign (λ _. refl) $ tok (worded_word a) (λ _. refl) $ sign (λ _. refl) $ free (attribute_word a w is)
    (λ _. refl) $ sign (λ _. refl) $ gap none
attribute_closed (Interpolated i s) is =
    sign (λ _. refl) $ tok interpolate_word (λ _. refl) $ sign (λ _. refl) $
    free (table_word interpolation_words i interpolations_free is.0) (λ _. refl) $ sign (λ _. refl) $ gap $
    free (table_word sampling_words s samplings_free is.1) (λ _. refl) $ sign (λ _. refl) $ gap none
attribute_closed (WorkgroupSize x y z) is =
    sign (λ _. refl) $ tok size_word (λ _. refl) $ sign (λ _. refl) $ size_closed x is.0 (λ _. refl) (λ _. refl) $
    sign (λ _. refl) $ gap $ size_closed y is.1 (λ _. refl) (λ _. refl) $ sign (λ _. refl) $ gap $
    size_closed z is.2 (λ _. refl) (λ _. refl) $ sign (λ _. refl) $ gap none

pub attributes_closed : (list : List Attribute) → IsAttributes list → Closed (attributes_pieces list)
attributes_closed [] is = none
attributes_closed (a ∷ more) is = attribute_closed a is.0 then attributes_closed more is.1

-- The text of each row, from the texts of its parts.
