use Rattle.std.proofs.Common.{◌≡◌, ap, length, slice_set, subst, sym, take, ◌∙◌}
use Rattle.std.specs.Prelude.{IsTrue, get_or}
use Rattle.std.specs.Option.{is_some}
use Rattle.module_semantics.specs.ExpressionLabels.{label_of}
use Rattle.module_semantics.specs.FunctionShapes.{function_shape}
use Rattle.shader_runs.specs.Program.{expression_of, is_pure, operands_of}
use Rattle.shader_runs.specs.Scope.{usable_all}
use Rattle.naga_scope.specs.Availabilities.{TextPoint, emitted_availability, handles_of, next_name}
use Rattle.naga_scope.specs.Log.{Extends, grows}
use Rattle.naga_scope.specs.declared.points.Availability.TheVariants.{Absent}
use Rattle.naga_scope.proofs.Emitting.{any_emitted}
use Rattle.naga_scope.proofs.Logs.{extends_named}
use Rattle.naga_scope.proofs.points.Scope.emit.Goals as goal

pub stand-requires-clause-grows : goal.stand-requires-clause-grows
stand-requires-clause-grows c =
    subst (λ (p : TextPoint). IsTrue
    (grows (get_or p.table c.args.handle Absent) c.emitted-availability.result))
    (sym c.self.view_is) c.emitted-availability.ensures.grows

pub returns-clause-kept : goal.returns-clause-kept
returns-clause-kept c =
    let point : TextPoint = record {
      table = c.self.inside.availabilities.items;
      named = c.self.inside.named;
      log = take c.self.inside.used c.self.inside.log.items;
      room = length c.self.inside.log.items;
    } in
    subst (λ (p : TextPoint). Extends p c.stand.new.self) c.self.view_is
    (extends_named point c.named_following-self-inside.result c.stand.new.self c.stand.ensures.kept)

pub returns-clause-handles : goal.returns-clause-handles
returns-clause-handles c names m known es named g bound =
    let shape = function_shape m known c.args.function.now es in
    let evaluated = expression_of shape c.args.handle in
    ap (handles_of named) c.stand.ensures.table
    ∙ ap (λ (p : TextPoint). handles_of named
    (slice_set p.table c.args.handle c.emitted-availability.result)) c.self.view_is
    ∙ any_emitted names m known named g c.args.function.now es c.args.handle c.args.self.now.named
    c.args.self.now.table c.emitted-availability.result c.requires.size
    (subst (λ b. c.emitted-availability.result ≡ emitted_availability b (is_pure evaluated)
    (usable_all shape (handles_of named c.args.self.now.table) (operands_of evaluated))
    (next_name (is_some (label_of c.args.function.now c.args.handle)) c.args.self.now.named)
    (get_or c.args.self.now.table c.args.handle Absent)) bound
    (c.emitted-availability.ensures.emitted named m known es))
