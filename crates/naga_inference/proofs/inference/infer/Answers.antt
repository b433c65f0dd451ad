use Rattle.std.proofs.Common.{subst}
use Rattle.std.specs.Prelude.{IfOk, Result}
use Rattle.naga_info.specs.declared.info.ModuleInfo.{ModuleInfo}
use Rattle.naga_inference.specs.Inferred.{IsTyped}
use Rattle.naga_inference.specs.declared.errors.Untyped.{Untyped}
use Rattle.naga_inference.proofs.Typed.{typed_follows}
use Rattle.naga_inference.proofs.inference.infer.Goals as goal

pub returns-in-Some-clause-refused : goal.returns-in-Some-clause-refused
returns-in-Some-clause-refused c =
    let P : Result ModuleInfo Untyped → Type 0 = λ found. IfOk found (IsTyped c.args.module.now) in
    let typed : IsTyped c.args.module.now c.in-Ok.info = subst P c.in-Ok.is c.in_ok-info.ensures.typed in
    (c.in-Ok.info, typed, c.in-Some.ensures.fault)

pub returns-in-None-clause-follows : goal.returns-in-None-clause-follows
returns-in-None-clause-follows c =
    let P : Result ModuleInfo Untyped → Type 0 = λ found. IfOk found (IsTyped c.args.module.now) in
    let typed : IsTyped c.args.module.now c.in-Ok.info = subst P c.in-Ok.is c.in_ok-info.ensures.typed in
    typed_follows c.args.module.now c.in-Ok.info typed
