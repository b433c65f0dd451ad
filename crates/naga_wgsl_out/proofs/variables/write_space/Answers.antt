use Rattle.std.proofs.Common.{◌∙◌, Bor, List, ℕ, ap, sym}
use Rattle.std.specs.Option.{option_map}
use Rattle.naga_words.proofs.Writing.{writes_as, writes_nothing}
use Rattle.naga_wgsl_out.proofs.VariableRows.{no_space, space_alone, space_and_access}
use Rattle.naga_wgsl_out.proofs.variables.write_space.Goals as goal

pub returns-in-Some-Some : goal.returns-in-Some-Some
returns-in-Some-Some g c =
    let words = c.address_space_str.ensures in
    writes_as
    (space_and_access c.args.space c.in-Some-Some.space.now c.in-Some-Some.access.now
    (sym words.space ∙ ap (option_map (λ (s : Bor (List ℕ)). s.now)) c.in-Some-Some.is-0)
    (sym words.access ∙ ap (option_map (λ (s : Bor (List ℕ)). s.now)) c.in-Some-Some.is-1))
    c.write_space_and_access.ensures

pub returns-in-Some-None : goal.returns-in-Some-None
returns-in-Some-None g c =
    let words = c.address_space_str.ensures in
    writes_as
    (space_alone c.args.space c.in-Some-None.space.now
    (sym words.space ∙ ap (option_map (λ (s : Bor (List ℕ)). s.now)) c.in-Some-None.is-0)
    (sym words.access ∙ ap (option_map (λ (s : Bor (List ℕ)). s.now)) c.in-Some-None.is-1))
    c.write_space_alone.ensures

pub returns-in-None-default : goal.returns-in-None-default
returns-in-None-default g c =
    let words = c.address_space_str.ensures in
    writes_as
    (no_space c.args.space
    (sym words.space ∙ ap (option_map (λ (s : Bor (List ℕ)). s.now)) c.in-None-default.is-0))
    (writes_nothing _)
