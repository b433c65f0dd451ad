use Rattle.std.proofs.Common.{◌≡◌, ◌+◌, ◌-◌, ℕ, List, IsTrue, refl, subst, sym, ap, ◌∙◌, arith}
use Rattle.std.proofs.Common.{length}
use Rattle.std.specs.List.{filter}
use Rattle.shader_runs.specs.Program.{from}
use Rattle.shader_runs.specs.Scope.{after_emit, after_one, named_after, named_after_all}
use Rattle.module_semantics.specs.Names.{module_names}
use Rattle.naga_scope.proofs.Emitting.{range_more, range_none}
use Rattle.naga_scope.proofs.Logs.{extends_refl, extends_then}
use Rattle.naga_words.proofs.Writing.{leaves_more, leaves_none, leaves_start, writes_as}
use Rattle.naga_wgsl_fns.specs.FunctionText.{named_in, AreInText, AreLets, IsInText, IsLet, bound}
use Rattle.naga_wgsl_fns.specs.FunctionText.{callees, handles_in, naming, number}
use Rattle.naga_wgsl_fns.proofs.TextHandles.{first_of, others_of}
use Rattle.naga_wgsl_fns.proofs.StatementRows.{emit_row, emit_within, emitted_after, emitted_named}
use Rattle.naga_wgsl_fns.proofs.StatementRows.{lets_more, lets_none}
use Rattle.naga_wgsl_fns.proofs.Preconditions.{named_after_one}
use Rattle.naga_wgsl_fns.specs.Statements.{emitted_text}
use Rattle.naga_wgsl_fns.proofs.functions.FunctionText.write_emit.Goals as goal

pub loop-index-init : goal.loop-index-init
loop-index-init g c = record {
  leaves = leaves_start _ _;
  after = refl;
  named = refl;
  kept = extends_refl c.args.at.now.scope;
  counted = omega arith;
  names = omega arith;
  written = c.requires.statement.written;
  lets = c.requires.statement.lets;
  indent = refl;
}

pub write_emitted-requires-clause-bound : goal.write_emitted-requires-clause-bound
write_emitted-requires-clause-bound g c =
    let self = c.args.self.now in c.binds-is_bound.ensures self.known.shader.now self.known.info.now refl

pub write_emitted-requires-clause-handle : goal.write_emitted-requires-clause-handle
write_emitted-requires-clause-handle g c =
    let self = c.args.self.now in
    let within = emit_within (callees self) (length self.function.now.expressions) c.args.range.first
    c.args.range.end c.requires.statement.in_range in
    let here = c.from_index-handle.ensures in
    let more = c.loop-index-test.true in
    omega (arith, within, here, more)

pub write_emitted-requires-clause-in_text : goal.write_emitted-requires-clause-in_text
write_emitted-requires-clause-in_text g c =
    let self = c.args.self.now in
    subst (λ h. IsTrue (bound self h) → IsInText self h) (sym c.from_index-handle.ensures)
    (first_of (IsInText self) (bound self c.loop-index.index) c.loop-index.index
    (filter (bound self) (from (c.loop-index.index + 1) (c.args.range.end - (c.loop-index.index + 1))))
    (subst (λ hs. AreInText self (filter (bound self) hs))
    (range_more c.loop-index.index c.args.range.end c.loop-index-test.true) c.loop-index.invariant.written))

pub write_emitted-requires-clause-named : goal.write_emitted-requires-clause-named
write_emitted-requires-clause-named g c =
    let self = c.args.self.now in
    subst (λ h. IsTrue (bound self h) → IsLet self h) (sym c.from_index-handle.ensures)
    (first_of (IsLet self) (bound self c.loop-index.index) c.loop-index.index
    (filter (bound self) (from (c.loop-index.index + 1) (c.args.range.end - (c.loop-index.index + 1))))
    (subst (λ hs. AreLets self (filter (bound self) hs))
    (range_more c.loop-index.index c.args.range.end c.loop-index-test.true) c.loop-index.invariant.lets))

pub emit-requires-clause-size : goal.emit-requires-clause-size
emit-requires-clause-size g c = c.loop-index.invariant.kept.size ∙ c.requires.scope.size

pub emit-requires-clause-room : goal.emit-requires-clause-room
emit-requires-clause-room g c =
    let i = c.loop-index.invariant in
    let log = i.counted in
    let names = i.names in
    let room = i.kept.room in
    let has = c.requires.scope.room.log in
    let few = c.requires.scope.room.names in
    let more = c.loop-index-test.true in
    record { log = omega (arith, log, room, has, more); names = omega (arith, names, few, more) }

pub loop-index-preserved : goal.loop-index-preserved
loop-index-preserved g c =
    let self = c.args.self.now in
    let h = c.from_index-handle.result in
    let i = c.loop-index.invariant in
    let lt = c.loop-index-test.true in
    let here = c.from_index-handle.ensures in
    let k = c.loop-index.at.scope.named in
    let one : handles_in self c.emit.new.self.table ≡ after_one (naming self) k h
    (handles_in self c.loop-index.at.scope.table) =
    c.emit.ensures.handles (module_names self.known.shader.now) self.known.shader.now self.known.info.now self.info.now
    (named_in self) (number self) (c.binds-is_bound.ensures self.known.shader.now self.known.info.now refl) in
    let given : c.emit.new.self.named ≡ named_after (naming self).function h k = c.emit.ensures.named
    ∙ sym (named_after_one self c.requires.can h k) in
    let log = i.counted in
    let names = i.names in
    let more = c.emit.ensures.counted.log in
    let named = c.emit.ensures.counted.names in
    record {
      leaves = leaves_more _ _ _ _ _ _ _ i.leaves
          (lets_more self k c.emit.new.self.named (handles_in self c.loop-index.at.scope.table)
          (handles_in self c.emit.new.self.table) c.args.at.now.indent
          c.loop-index.index c.args.range.end h lt here given one)
          (writes_as (ap (λ j. emitted_text self k (handles_in self c.loop-index.at.scope.table) j h)
          i.indent) c.write_emitted.ensures);
      after = sym (emitted_after self k c.emit.new.self.named (handles_in self c.loop-index.at.scope.table)
          (handles_in self c.emit.new.self.table)
          c.loop-index.index c.args.range.end h lt here given one) ∙ i.after;
      named = sym (emitted_named self k c.emit.new.self.named c.loop-index.index c.args.range.end h lt here
          given) ∙ i.named;
      kept = extends_then i.kept c.emit.ensures.kept;
      indent = i.indent;
      counted = omega (arith, log, more, lt);
      names = omega (arith, names, named, lt);
      written = others_of (IsInText self) (bound self c.loop-index.index) c.loop-index.index
          (filter (bound self) (from (c.loop-index.index + 1) (c.args.range.end - (c.loop-index.index + 1))))
          (subst (λ hs. AreInText self (filter (bound self) hs))
          (range_more c.loop-index.index c.args.range.end lt) i.written);
      lets = others_of (IsLet self) (bound self c.loop-index.index) c.loop-index.index
          (filter (bound self) (from (c.loop-index.index + 1) (c.args.range.end - (c.loop-index.index + 1))))
          (subst (λ hs. AreLets self (filter (bound self) hs))
          (range_more c.loop-index.index c.args.range.end lt) i.lets);
    }

pub returns-clause-text : goal.returns-clause-text
returns-clause-text g c =
    let self = c.args.self.now in
    writes_as (emit_row self c.args.at.now.scope.named (handles_in self c.args.at.now.scope.table)
    c.args.at.now.indent c.args.range.first c.args.range.end)
    (leaves_none _ _ _ _ c.loop-index.invariant.leaves
    (lets_none self c.loop-index.at.scope.named (handles_in self c.loop-index.at.scope.table)
    c.args.at.now.indent c.loop-index.index c.args.range.end c.loop-index-test.false))

pub returns-clause-after : goal.returns-clause-after
returns-clause-after g c =
    let self = c.args.self.now in
    ap (λ (hs : List ℕ). after_emit (naming self) c.loop-index.at.scope.named hs
    (handles_in self c.loop-index.at.scope.table))
    (sym (range_none c.loop-index.index c.args.range.end c.loop-index-test.false))
    ∙ c.loop-index.invariant.after

pub returns-clause-passed : goal.returns-clause-passed
returns-clause-passed g c =
    let log = c.loop-index.invariant.counted in
    let names = c.loop-index.invariant.names in
    record {
      named =
          ap (λ (hs : List ℕ). named_after_all (naming c.args.self.now).function hs c.loop-index.at.scope.named)
          (sym (range_none c.loop-index.index c.args.range.end c.loop-index-test.false))
          ∙ c.loop-index.invariant.named;
      counted = record { log = omega (arith, log); names = omega (arith, names) };
      indent = c.loop-index.invariant.indent;
    }

pub returns-clause-kept : goal.returns-clause-kept
returns-clause-kept g c = c.loop-index.invariant.kept
