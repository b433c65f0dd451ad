-- The operands of a sample of an image, as those that are there of eight.
use Rattle.std.proofs.Common.{◌≡◌, ℕ, List, [], ◌∷◌, ◌++◌, Option, Some, ap, sym, ◌∙◌}
use Rattle.std.proofs.Common.{append_assoc, append-nil}
use Rattle.std.specs.List.{flat_map}
use Rattle.std.specs.Option.{option_to_list}

joined : (a b c d e : List ℕ) →
    a ++ (b ++ (c ++ (d ++ (e ++ [])))) ≡ a ++ b ++ (c ++ d) ++ e
joined a b c d e =
    ap (λ xs. a ++ (b ++ (c ++ (d ++ xs)))) (append-nil e)
    ∙ ap (λ xs. a ++ (b ++ xs)) (sym (append_assoc c d e))
    ∙ sym (append_assoc a b (c ++ d ++ e))
    ∙ sym (append_assoc (a ++ b) (c ++ d) e)

pub sampled : (level : List ℕ) (image sampler coordinate : ℕ)
    (array_index depth_ref first second offset : Option ℕ) →
    option_to_list first ++ option_to_list second ≡ level →
    flat_map option_to_list
    (Some image ∷ Some sampler ∷ Some coordinate ∷ array_index ∷ depth_ref ∷ first ∷ second ∷
    offset ∷ []) ≡
    image ∷ sampler ∷ coordinate ∷ option_to_list array_index ++ option_to_list depth_ref ++
    level ++ option_to_list offset
sampled level image sampler coordinate array_index depth_ref first second offset held =
    ap (λ xs. image ∷ sampler ∷ coordinate ∷ xs)
    (joined (option_to_list array_index) (option_to_list depth_ref) (option_to_list first)
    (option_to_list second) (option_to_list offset))
    ∙ ap
    (λ xs. image ∷ sampler ∷ coordinate ∷ option_to_list array_index ++ option_to_list depth_ref ++
    xs ++ option_to_list offset)
    held
