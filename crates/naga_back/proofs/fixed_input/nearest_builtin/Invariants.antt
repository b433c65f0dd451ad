use Rattle.std.proofs.Common.{◌≡◌, ◌-◌, length}
use Rattle.std.specs.Option.{option_and_then}
use Rattle.naga_back.specs.FixedInput.{member_binding, way_of, first_builtin}
use Rattle.naga_back.proofs.FixedInputs.{rest_of_walk}
use Rattle.naga_back.proofs.fixed_input.nearest_builtin.Given as goal

abbrev pub invariant-loop-step : goal.invariant-loop-step
invariant-loop-step l =
    option_and_then first_builtin (way_of l.fn.arguments (member_binding l.fn.info l.fn.types) l.fn.expressions
    (length l.fn.expressions) l.fn.handle)
    ≡ rest_of_walk l.fn.arguments (member_binding l.fn.info l.fn.types) l.fn.expressions
    (length l.fn.expressions - l._step) l.handle l.nearest
