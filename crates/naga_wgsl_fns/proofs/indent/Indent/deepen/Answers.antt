use Rattle.std.proofs.Common.{suc, subst, sym}
use Rattle.naga_words.specs.Output.{OutputView, Wrote, output_view}
use Rattle.naga_wgsl_fns.proofs.Blanks.{wanting_stays, wants_after}
use Rattle.naga_wgsl_fns.proofs.indent.Indent.deepen.Goals as goal

pub returns-in-Err-clause-text : goal.returns-in-Err-clause-text
returns-in-Err-clause-text g c text after w =
    let level = suc c.args.self.now in
    subst (λ (o : OutputView). Wrote (output_view g.W.TextSink.text g.W.TextSink.failures c.args.out.now) o
    (text level))
    (sym (wanting_stays _ _ _ (wants_after _ _ c.remember.ensures.text) w))
    (c.remember.ensures.text (text level))
