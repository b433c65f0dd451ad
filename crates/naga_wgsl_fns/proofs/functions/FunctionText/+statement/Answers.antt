use Rattle.naga_ir.specs.declared.statement.Statement.{Statement}
use Rattle.naga_wgsl_fns.proofs.Passing.{both_passed, level_back, passed_back}
use Rattle.std.proofs.Common.{List, sym, ap, arith, codes, ◌∙◌, ◌≡◌, [], drop, length, subst, ◌+◌}
use Rattle.std.proofs.lemmas.List.{drop_all}
use Rattle.naga_ir.specs.StatementTree.{block_size, cases_size}
use Rattle.naga_ir.specs.StatementViews.{block_of, cases_of, tree_of}
use Rattle.naga_ir.proofs.Listed.{first_case, first_of}
use Rattle.naga_scope.proofs.Logs.{extends_then, reverts, reverts_then}
use Rattle.naga_scope.proofs.Turns.{body_leaves, body_named}
use Rattle.naga_scope.specs.Changes.{block_changes, cases_changes}
use Rattle.naga_words.proofs.Writing.{leaves_more, leaves_none, writes_as, writes_then}
use Rattle.naga_wgsl_fns.specs.FunctionText.{CanWriteCases, context, handles_in, named_in, naming}
use Rattle.naga_form.specs.Statements.{case_value_form}
use Rattle.naga_wgsl_fns.specs.BodyStates.{PassesBlock}
use Rattle.naga_wgsl_fns.specs.declared.lines.BodyState.{BodyState}
use Rattle.naga_wgsl_fns.specs.Statements.{after_statements, block_text, case_text, cases_text}
use Rattle.naga_wgsl_fns.specs.Statements.{last_text, line_start, named_following}
use Rattle.naga_wgsl_fns.specs.Statements.{named_after_cases, statement_text, turn_text}
use Rattle.naga_wgsl_fns.proofs.ActRows.{control_row, memory_row}
use Rattle.naga_wgsl_fns.proofs.LoopRows.{body_row, break_if_row, continuing_row}
use Rattle.naga_wgsl_fns.proofs.StatementParts.{back_inside, case_inside, falling_is_empty}
use Rattle.naga_wgsl_fns.proofs.StatementParts.{front_inside, others_inside, rest_at}
use Rattle.naga_wgsl_fns.proofs.SwitchRows.{cases_more, cases_none, first_within}
use Rattle.naga_wgsl_fns.proofs.SwitchRows.{case_values_between, switch_row}
use Rattle.naga_wgsl_fns.proofs.StatementRows.{lines_more}
use Rattle.naga_wgsl_fns.proofs.functions.FunctionText.+statement.Goals as goal

pub write_lines-loop-statement-preserved : goal.write_lines-loop-statement-preserved
write_lines-loop-statement-preserved g t c =
    let self = c.args.self.now in
    let items = c.args.statements.now in
    let n = c.loop-statement.statement-index in
    let x = c.statement-item.result in
    let k = c.loop-statement.at.scope.named in
    let s = handles_in self c.loop-statement.at.scope.table in
    let rest = block_of (drop (n + 1) items) in
    let next : block_of (drop n items) ≡ _ = first_of items n x c.loop-statement-test.true c.statement-item.is in
    record {
      leaves = leaves_more _ _ _ _ _ _ _ c.loop-statement.invariant.leaves
          (lines_more self k c.write_statement.new.at.scope.named s
          (handles_in self c.write_statement.new.at.scope.table) c.args.at.now.indent
          items n x c.loop-statement-test.true c.statement-item.is c.write_statement.ensures.passed.named
          c.write_statement.ensures.after)
          (writes_as (ap (λ i. statement_text self k s i (tree_of x))
          c.loop-statement.invariant.indent) c.write_statement.ensures.text);
      block = rest_at self items n x c.loop-statement-test.true c.statement-item.is c.loop-statement.invariant.block;
      following = (λ i. after_statements self (c.write_statement.ensures.passed.named i) rest
          (c.write_statement.ensures.after i))
          ∙ (ap (λ b. after_statements self k b s) (sym next) ∙ c.loop-statement.invariant.following);
      named = ap (named_following self rest) c.write_statement.ensures.passed.named
          ∙ (ap (λ b. named_following self b k) (sym next) ∙ c.loop-statement.invariant.named);
      kept = extends_then c.loop-statement.invariant.kept c.write_statement.ensures.kept;
      counted = omega (arith, ap block_changes next);
      names = omega (arith, ap block_changes next);
      smaller = omega (arith, ap block_size next);
      indent = c.write_statement.ensures.passed.indent ∙ c.loop-statement.invariant.indent;
    }

pub write_loop_body-returns-clause-text : goal.write_loop_body-returns-clause-text
write_loop_body-returns-clause-text g t c =
    let self = c.args.self.now in
    let back = block_of c.split_at_continue.result.1.now in
    let k1 = c.write_lines.new.at.scope.named in
    let s1 = handles_in self c.write_lines.new.at.scope.table in
    writes_as
    (sym (body_row self c.args.body.now _ back c.args.at.now.scope.named k1
    (handles_in self c.args.at.now.scope.table) s1 c.args.at.now.indent
    c.split_at_continue.ensures.before c.split_at_continue.ensures.from c.write_lines.ensures.passed.named
    c.write_lines.ensures.after))
    (writes_then c.write_lines.ensures.text
    (writes_as (ap (λ i. block_text self k1 s1 i back) c.write_lines.ensures.passed.indent)
    c.write_lines-2.ensures.text))

pub write_loop_body-returns-clause-after : goal.write_loop_body-returns-clause-after
write_loop_body-returns-clause-after g t c =
    let self = c.args.self.now in
    body_leaves (naming self) (context self) c.args.body.now _ _ c.args.at.now.scope.named
    c.write_lines.new.at.scope.named _ _ _ _ c.split_at_continue.ensures.before c.split_at_continue.ensures.from
    c.write_lines.ensures.passed.named c.write_lines.ensures.after c.write_lines-2.ensures.after
    (c.forget_from.ensures.forgets _ (named_in self) c.mark-mark.ensures c.write_lines-2.ensures.kept)

pub write_loop_body-returns-clause-passed : goal.write_loop_body-returns-clause-passed
write_loop_body-returns-clause-passed g t c =
    let self = c.args.self.now in
    let one = c.write_lines.ensures.passed in
    let other = c.write_lines-2.ensures.passed in
    let changes = c.split_at_continue.ensures.changes in
    let log = one.counted.log in
    let logs = other.counted.log in
    let names = one.counted.names in
    let more = other.counted.names in
    let left = c.forget_from.ensures.counted in
    let kept = c.forget_from.ensures.named in
    record {
      named = kept
          ∙ body_named (naming self) (context self) c.args.body.now _ _ c.args.at.now.scope.named
          c.write_lines.new.at.scope.named c.write_lines-2.new.at.scope.named
          c.split_at_continue.ensures.before c.split_at_continue.ensures.from one.named other.named;
      counted = record {
        log = omega (arith, changes, log, logs, left);
        names = omega (arith, changes, names, more, kept);
      };
      indent = other.indent ∙ one.indent;
    }

pub write_loop_body-returns-clause-kept : goal.write_loop_body-returns-clause-kept
write_loop_body-returns-clause-kept g t c = reverts_then (reverts c.write_lines.ensures.kept)
    (c.forget_from.ensures.reverts _ c.mark-mark.ensures c.write_lines-2.ensures.kept)

-- ---- what has been passed
pub write_lines-returns-clause-passed : goal.write_lines-returns-clause-passed
write_lines-returns-clause-passed g t c =
    let self = c.args.self.now in
    let inv = c.loop-statement.invariant in
    let n = c.loop-statement.statement-index in
    let k = c.loop-statement.at.scope.named in
    let none : drop n c.args.statements.now ≡ [] = drop_all n c.args.statements.now c.loop-statement-test.false in
    let changes = ap (λ (ss : List Statement). block_changes (block_of ss)) none in
    let log = inv.counted in
    let names = inv.names in
    record {
      named = ap (λ (ss : List Statement). named_following self (block_of ss) k) (sym none) ∙ inv.named;
      counted = record { log = omega (arith, log); names = omega (arith, names) };
      indent = inv.indent;
    }

pub write_here-returns-clause-passed : goal.write_here-returns-clause-passed
write_here-returns-clause-passed g t c =
    let after : BodyState = record { scope = c.back_to.new.self; indent = c.write_lines.new.at.indent } in
    subst (PassesBlock c.args.self.now c.args.at.now after) c.as_slice.ensures
    (passed_back c.back_to.new.self c.write_lines.ensures.passed
    (c.back_to.ensures.restores _ c.mark-mark.ensures (reverts c.write_lines.ensures.kept)) c.back_to.ensures.named)

pub write_if-returns-clause-passed : goal.write_if-returns-clause-passed
write_if-returns-clause-passed g t c =
    both_passed c.args.self.now c.args.accept.now c.args.reject.now c.write_inner.ensures.passed
    c.write_else.ensures.passed

pub write_turn_here-returns-clause-passed : goal.write_turn_here-returns-clause-passed
write_turn_here-returns-clause-passed g t c =
    both_passed c.args.self.now c.args.body.now c.args.continuing.now c.write_loop_body.ensures.passed
    c.write_continuing.ensures.passed

pub write_cases-returns-clause-passed : goal.write_cases-returns-clause-passed
write_cases-returns-clause-passed g t c =
    let self = c.args.self.now in
    let inv = c.loop-index.invariant in
    let none = ap cases_of (drop_all c.loop-index.index c.args.cases.now c.loop-index-test.false) in
    let log = ap length inv.same.log in
    let names = inv.names in
    record {
      named = ap (λ cs. named_after_cases self cs c.loop-index.at.scope.named) (sym none) ∙ inv.named;
      counted = record { log = omega (arith, log); names = omega (arith, names) };
      indent = inv.indent;
    }

-- ---- one level deeper
pub write_inner-returns-clause-passed : goal.write_inner-returns-clause-passed
write_inner-returns-clause-passed g t c = level_back c.args.at.now _ c.back_to.new.self c.write_here.ensures.passed (cc)

pub write_inner-returns-clause-text : goal.write_inner-returns-clause-text
write_inner-returns-clause-text g t c =
    let self = c.args.self.now in
    c.deepen.ensures.text (λ i. block_text self c.args.at.now.scope.named
    (handles_in self c.args.at.now.scope.table) i c.args.body.now) _ c.write_here.ensures.text

pub write_turn-returns-clause-passed : goal.write_turn-returns-clause-passed
write_turn-returns-clause-passed g t c =
    passed_back c.back_to-2.new.self
    (level_back c.args.at.now _ c.back_to.new.self c.write_turn_here.ensures.passed (cc))
    (c.back_to-2.ensures.restores _ c.mark-mark.ensures c.write_turn_here.ensures.kept) c.back_to-2.ensures.named

pub write_turn-returns-clause-text : goal.write_turn-returns-clause-text
write_turn-returns-clause-text g t c =
    let self = c.args.self.now in
    c.deepen.ensures.text (λ i. turn_text self c.args.at.now.scope.named
    (handles_in self c.args.at.now.scope.table) i c.args.body.now c.args.continuing.now c.args.break_if) _
    c.write_turn_here.ensures.text

pub write_switch-returns-clause-passed : goal.write_switch-returns-clause-passed
write_switch-returns-clause-passed g t c =
    level_back c.args.at.now _ c.back_to.new.self c.write_cases.ensures.passed (cc)

pub write_switch-returns-clause-text : goal.write_switch-returns-clause-text
write_switch-returns-clause-text g t c =
    let self = c.args.self.now in
    let k = c.args.at.now.scope.named in
    let s = handles_in self c.args.at.now.scope.table in
    let level : c.back_to.new.self ≡ c.args.at.now.indent = cc in
    writes_as (sym (switch_row self k s c.args.at.now.indent c.args.selector (cases_of c.args.cases.now)))
    (writes_then c.write_around.ensures
    (writes_then (c.deepen.ensures.text (λ i. cases_text self k s i [] (cases_of c.args.cases.now)) _
    c.write_cases.ensures.text)
    (writes_as (ap (λ i. line_start i (codes "}\n")) level) c.write_start.ensures)))

-- ---- what stands last in a loop
pub write_break_if-returns-clause-passed : goal.write_break_if-returns-clause-passed
write_break_if-returns-clause-passed g t c =
    level_back c.args.at.now _ c.back_to.new.self c.write_last.ensures.passed (cc)

pub write_break_if-returns-clause-text : goal.write_break_if-returns-clause-text
write_break_if-returns-clause-text g t c =
    let self = c.args.self.now in
    let k = c.args.at.now.scope.named in
    let s = handles_in self c.args.at.now.scope.table in
    let level : c.back_to.new.self ≡ c.args.at.now.indent = cc in
    writes_as (sym (break_if_row self k s c.args.at.now.indent c.args.continuing.now c.args.condition))
    (writes_then c.write_start.ensures
    (writes_then (c.deepen.ensures.text (λ i. last_text self k s i c.args.continuing.now c.args.condition) _
    c.write_last.ensures.text)
    (writes_as (ap (λ i. line_start i (codes "}\n")) level) c.write_start-2.ensures)))

pub write_plain_continuing-returns-clause-text : goal.write_plain_continuing-returns-clause-text
write_plain_continuing-returns-clause-text g t c =
    let self = c.args.self.now in
    writes_as (sym (continuing_row self c.args.at.now.scope.named (handles_in self c.args.at.now.scope.table)
    c.args.at.now.indent c.args.continuing.now (sym c.is_empty.ensures ∙ c.if-is_empty.false)))
    c.write_braces.ensures.text

-- ---- barriers
pub write_statement-returns-in-ControlBarrier-clause-text : goal.write_statement-returns-in-ControlBarrier-clause-text
write_statement-returns-in-ControlBarrier-clause-text g t c =
    let self = c.args.self.now in
    let k = c.args.at.now.scope.named in
    let s = handles_in self c.args.at.now.scope.table in
    let i = c.args.at.now.indent in
    writes_as (control_row self k s i c.in-ControlBarrier.kept
    ∙ ap (λ st. statement_text self k s i (tree_of st)) (sym c.in-ControlBarrier.is)) c.write_barrier.ensures

pub write_statement-returns-in-MemoryBarrier-clause-text : goal.write_statement-returns-in-MemoryBarrier-clause-text
write_statement-returns-in-MemoryBarrier-clause-text g t c =
    let self = c.args.self.now in
    let k = c.args.at.now.scope.named in
    let s = handles_in self c.args.at.now.scope.table in
    let i = c.args.at.now.indent in
    writes_as (memory_row self k s i c.in-MemoryBarrier.kept ∙ ap (λ st. statement_text self k s i (tree_of st))
    (sym c.in-MemoryBarrier.is)) c.write_barrier-in-MemoryBarrier.ensures

-- ---- cases
pub write_cases-write_case-requires : goal.write_cases-write_case-requires
write_cases-write_case-requires g t c κs within =
    let self = c.args.self.now in
    let items = c.args.cases.now in
    let n = c.loop-index.index in
    let x = c.index-cases-index.result in
    let inv = c.loop-index.invariant in
    let rest = cases_of (drop (n + 1) items) in
    let next = first_case items n x c.loop-index-test.true c.index-cases-index.is in
    let inside = subst (CanWriteCases self) next inv.cases in
    let changes = ap cases_changes next in
    let sizes = ap cases_size next in
    let log = ap length inv.same.log in
    let room = inv.same.room in
    let names = inv.names in
    let fewer = inv.fewer in
    let smaller = inv.smaller in
    let has = c.requires.scope.room.log in
    let few = c.requires.scope.room.names in (
      omega (arith, sizes, smaller, c.decreases),
      (
        within,
        (
          c.requires.can,
          (
            case_inside self x.value x.body x.fall_through rest inside,
            (
              falling_is_empty self x.value x.body x.fall_through rest inside,
              record {
                size = ap length inv.same.table ∙ c.requires.scope.size;
                room = record {
                  log = omega (arith, changes, log, room, fewer, has);
                  names = omega (arith, changes, names, few);
                };
              },
            ),
          ),
        ),
      ),
    )

pub write_cases-loop-index-preserved : goal.write_cases-loop-index-preserved
write_cases-loop-index-preserved g t c =
    let self = c.args.self.now in
    let items = c.args.cases.now in
    let n = c.loop-index.index in
    let x = c.index-cases-index.result in
    let inv = c.loop-index.invariant in
    let k = c.loop-index.at.scope.named in
    let s = handles_in self c.args.at.now.scope.table in
    let rest = cases_of (drop (n + 1) items) in
    let next = first_case items n x c.loop-index-test.true c.index-cases-index.is in
    let changes = ap cases_changes next in
    let sizes = ap cases_size next in
    record {
      leaves = leaves_more _ _ _ _ _ _ _ inv.leaves
          (cases_more self k c.write_case.new.at.scope.named s c.args.at.now.indent c.loop-index.first
          c.first_waiting-first.result n items x inv.first
          c.loop-index-test.true c.index-cases-index.is c.first_waiting-first.ensures c.write_case.ensures.passed.named)
          (writes_as
          (λ j. case_text self k (handles_in self (inv.same.table j)) (inv.indent j)
          (case_values_between c.loop-index.first n items) (case_value_form x.value) x.fall_through x.body)
          c.write_case.ensures.text);
      cases = others_inside self x.value x.body x.fall_through rest (subst (CanWriteCases self) next inv.cases);
      first = first_within x.fall_through c.loop-index.first c.first_waiting-first.result n
          inv.first c.first_waiting-first.ensures;
      named = ap (named_after_cases self rest) c.write_case.ensures.passed.named
          ∙ (ap (λ cs. named_after_cases self cs k) (sym next) ∙ inv.named);
      same = record {
        table = c.write_case.ensures.same.table ∙ inv.same.table;
        log = c.write_case.ensures.same.log ∙ inv.same.log;
        room = c.write_case.ensures.same.room ∙ inv.same.room;
      };
      names = (let one = inv.names in let more = c.write_case.ensures.passed.counted.names in omega
          (arith, changes, one, more));
      fewer = (let one = inv.fewer in omega (arith, changes, one));
      smaller = (let one = inv.smaller in omega (arith, sizes, one));
      indent = c.write_case.ensures.passed.indent ∙ inv.indent;
    }

pub write_cases-returns-clause-text : goal.write_cases-returns-clause-text
write_cases-returns-clause-text g t c =
    let self = c.args.self.now in
    let items = c.args.cases.now in
    let n = c.loop-index.index in
    let k = c.loop-index.at.scope.named in
    let s = handles_in self c.args.at.now.scope.table in
    let case_values = case_values_between c.loop-index.first n items in
    leaves_none _ _ _ _ c.loop-index.invariant.leaves
    (ap (cases_text self k s c.args.at.now.indent case_values)
    (ap cases_of (drop_all n items c.loop-index-test.false)) ∙ cases_none self k s c.args.at.now.indent case_values)

-- ---- a body in two parts
pub write_loop_body-write_lines-requires : goal.write_loop_body-write_lines-requires
write_loop_body-write_lines-requires g t c κs within =
    let parts = c.split_at_continue.ensures in
    let sizes = parts.sizes in
    let changes = parts.changes in
    let log = c.requires.scope.room.log in
    let names = c.requires.scope.room.names in (
      omega (arith, sizes, c.decreases),
      (
        within,
        (
          c.requires.can,
          (
            front_inside c.args.self.now c.args.body.now (block_of c.split_at_continue.result.0.now)
                parts.before c.requires.body,
            record {
              size = c.requires.scope.size;
              room = record { log = omega (arith, changes, log); names = omega (arith, changes, names) };
            },
          ),
        ),
      ),
    )

pub write_loop_body-write_lines-requires-2 : goal.write_loop_body-write_lines-requires-2
write_loop_body-write_lines-requires-2 g t c κs within =
    let parts = c.split_at_continue.ensures in
    let sizes = parts.sizes in
    let changes = parts.changes in
    let log = c.requires.scope.room.log in
    let names = c.requires.scope.room.names in
    let logged = c.write_lines.ensures.passed.counted.log in
    let named = c.write_lines.ensures.passed.counted.names in
    let room = c.write_lines.ensures.kept.room in (
      omega (arith, sizes, c.decreases),
      (
        within,
        (
          c.requires.can,
          (
            back_inside c.args.self.now c.args.body.now (block_of c.split_at_continue.result.1.now)
                parts.from c.requires.body,
            record {
              size = c.write_lines.ensures.kept.size ∙ c.requires.scope.size;
              room = record {
                log = omega (arith, changes, log, logged, room);
                names = omega (arith, changes, names, named);
              };
            },
          ),
        ),
      ),
    )
