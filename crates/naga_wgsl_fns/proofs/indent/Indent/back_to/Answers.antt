use Rattle.std.proofs.Common.{rules, arith, length, ◌≡◌, ◌≤◌, ◌*◌, ◌-◌, ◌∙◌}
use Rattle.std.specs.String.{string_bytes}
use Rattle.naga_wgsl_fns.proofs.Blanks.{cut_at, cut_is, length_is}
use Rattle.naga_wgsl_fns.proofs.indent.Indent.back_to.Goals as goal

pub overflow_mul-self-inside : goal.overflow_mul-self-inside
overflow_mul-self-inside c =
    let long = length_is _ _ c.self.invariant in
    let wide : c.len-width.result ≡ length (string_bytes c.self.inside.blanks) = search rules in
    let few = c.len-width.type_inv in
    omega (arith, long, wide, few)

pub overflow_sub-width : goal.overflow_sub-width
overflow_sub-width c =
    let long = length_is _ _ c.self.invariant in
    let wide : c.len-width.result ≡ length (string_bytes c.self.inside.blanks) = search rules in
    omega (arith, long, wide)

pub truncate-requires : goal.truncate-requires
truncate-requires c within =
    let long = length_is _ _ c.self.invariant in
    let wide : c.len-width.result ≡ length (string_bytes c.self.inside.blanks) = search rules in
    let less : c.args.level ≤ c.self.inside.level = omega (arith, c.self.view_is, c.requires) in
    let at : c.len-width.result - (c.self.inside.level - c.args.level) * 4 ≡ 4 * c.args.level =
    omega (arith, long, wide, less) in
    cut_at _ _ _ _ c.self.invariant less at

pub invariant_of-self : goal.invariant_of-self
invariant_of-self c =
    let long = length_is _ _ c.self.invariant in
    let wide : c.len-width.result ≡ length (string_bytes c.self.inside.blanks) = search rules in
    let less : c.args.level ≤ c.self.inside.level = omega (arith, c.self.view_is, c.requires) in
    let at : c.len-width.result - (c.self.inside.level - c.args.level) * 4 ≡ 4 * c.args.level =
    omega (arith, long, wide, less) in
    c.truncate.ensures.bytes ∙ cut_is _ _ _ _ c.self.invariant less at
