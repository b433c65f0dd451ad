use Rattle.std.proofs.Common.{sym, ◌∙◌}
use Rattle.naga_words.proofs.Writing.{writes_as, writes_then}
use Rattle.naga_wgsl_fns.proofs.SwitchRows.{default_row, case_values_row}
use Rattle.naga_wgsl_fns.proofs.switches.write_group_start.Goals as goal

pub returns-then-is_default_alone : goal.returns-then-is_default_alone
returns-then-is_default_alone g c =
    writes_as (sym (default_row _ _ (sym c.is_default_alone.ensures ∙ c.if-is_default_alone.true))) c.put.ensures

pub returns : goal.returns
returns g c =
    writes_as (sym (case_values_row _ _ (sym c.is_default_alone.ensures ∙ c.if-is_default_alone.false)))
    (writes_then c.put-2.ensures (writes_then c.write_waiting.ensures
    (writes_then c.write_case_value.ensures c.put-3.ensures)))
