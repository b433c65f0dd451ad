-- What a typing rule is spelled as.
--
-- Throughout, c is the context, r is what an argument has
-- for a type (rs are several), and p a predeclared type.
use Rattle.std.specs.Prelude.{ℕ, List, [], ◌∷◌, ◌++◌, ⊤, codes}
use Rattle.naga_info.specs.declared.info.TypeResolution.{TypeResolution}
use Rattle.naga_info.specs.declared.rules.Conclusion.{Conclusion}
use Rattle.naga_info.specs.declared.rules.Conclusion.TheVariants.{Value, Predeclared}
use Rattle.naga_info.specs.declared.rules.Rule.{Rule}
use Rattle.naga_spelling.specs.Segments.{Segment, Word}
use Rattle.naga_words.specs.Predeclared.{predeclared_name}
use Rattle.naga_spelling.specs.Spelling.{Context, Fits, FitsResolution, inner_segments}
use Rattle.naga_spelling.specs.Spelling.{resolution_segments}

-- the types after the first
abbrev pub more_arguments_segments : Context → List TypeResolution → List Segment
more_arguments_segments c [] = []
more_arguments_segments c (r ∷ rs) =
    Word (codes ", ") ∷ (resolution_segments c r ++ more_arguments_segments c rs)

-- the types of arguments, joined by commas
abbrev pub arguments_segments : Context → List TypeResolution → List Segment
arguments_segments c [] = []
arguments_segments c (r ∷ rs) = resolution_segments c r ++ more_arguments_segments c rs

-- what a function gives
abbrev pub conclusion_segments : Context → Conclusion → List Segment
conclusion_segments c (Value it) = inner_segments c it
conclusion_segments c (Predeclared p) = Word (predeclared_name p) ∷ []

-- a rule, by the function's name: `fn dot(vec3<f32>, vec3<f32>) -> f32`
abbrev pub rule_segments : Context → List ℕ → Rule → List Segment
rule_segments c name rule =
    Word (codes "fn ") ∷ Word name ∷ Word (codes "(") ∷
    (arguments_segments c rule.arguments.items ++
    (Word (codes ") -> ") ∷ conclusion_segments c rule.conclusion))

-- What the arguments name is known to the context.
abbrev pub AllFit : Context → List TypeResolution → Type 0
AllFit c [] = ⊤
AllFit c (r ∷ rs) = FitsResolution c r × AllFit c rs

abbrev pub FitsConclusion : Context → Conclusion → Type 0
FitsConclusion c (Value it) = Fits c it
FitsConclusion c (Predeclared p) = ⊤
