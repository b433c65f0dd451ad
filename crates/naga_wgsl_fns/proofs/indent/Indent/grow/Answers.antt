use Rattle.std.proofs.Common.{rules, ◌≡◌, ◌∙◌, ◌++◌, ◌/◌, arith, ap, codes, length, suc}
use Rattle.std.specs.String.{string_bytes}
use Rattle.naga_back.specs.Indentation.{indentation}
use Rattle.naga_wgsl_fns.proofs.Blanks.{grown, length_is}
use Rattle.naga_wgsl_fns.proofs.indent.Indent.grow.Goals as goal

pub invariant_of-self-2 : goal.invariant_of-self-2
invariant_of-self-2 c =
    let is : string_bytes c.push_str.new.self ≡ indentation (suc c.self.inside.level) =
    c.in_ok-push_str.ensures.bytes ∙ (ap (λ t. t ++ codes "    ") c.self.invariant ∙ grown c.self.inside.level) in
    let long = length_is (string_bytes c.push_str.new.self) (suc c.self.inside.level) is in
    let wide : c.len.result ≡ length (string_bytes c.push_str.new.self) = search rules in
    let at : suc c.self.inside.level ≡ c.len.result / 4 = omega (arith, long, wide) in
    is ∙ ap indentation at

pub returns-clause-ok : goal.returns-clause-ok
returns-clause-ok c =
    let is : string_bytes c.push_str.new.self ≡ indentation (suc c.self.inside.level) =
    c.in_ok-push_str.ensures.bytes ∙ (ap (λ t. t ++ codes "    ") c.self.invariant ∙ grown c.self.inside.level) in
    let long = length_is (string_bytes c.push_str.new.self) (suc c.self.inside.level) is in
    let wide : c.len.result ≡ length (string_bytes c.push_str.new.self) = search rules in
    let at : c.len.result / 4 ≡ suc c.self.inside.level = omega (arith, long, wide) in
    at ∙ ap suc c.self.view_is
