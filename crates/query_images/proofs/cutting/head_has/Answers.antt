-- By `Scanning`.
use Rattle.std.proofs.Common.{rules, ◌≡◌, refl, subst}
use Rattle.vocabulary.specs.Lists.{In}
use Rattle.queries.specs.declared.query.Arg.TheVariants.{Var}
use Rattle.query_images.proofs.Scanning.{among, none_all, none_more, none_start}
use Rattle.query_images.proofs.cutting.head_has.Goals as goal

pub loop-arg-init : goal.loop-arg-init
loop-arg-init c = none_start (λ x. x ≡ Var c.args.var) c.args.head.now

pub returns-then-is_var : goal.returns-then-is_var
returns-then-is_var c =
    let i = among (λ x. x ≡ Var c.args.var) c.args.head.now c.loop-arg.arg-index c.arg-item.result c.loop-arg-test.true c.arg-item.is in
    ((λ t. subst (λ z. In z c.args.head.now) (c.if-is_var.ensures.0 t) i), (λ m. search rules))

pub loop-arg-preserved : goal.loop-arg-preserved
loop-arg-preserved c = none_more (λ x. x ≡ Var c.args.var) c.args.head.now c.loop-arg.arg-index c.arg-item.result c.loop-arg-test.true c.arg-item.is c.loop-arg.invariant (λ p. let no = c.if-is_var.ensures.1 p in search rules)

pub returns : goal.returns
returns c =
    let none = none_all (λ x. x ≡ Var c.args.var) c.args.head.now c.loop-arg.arg-index c.loop-arg-test.false c.loop-arg.invariant in
    ((λ t. search rules), (λ m. absurd (none (Var c.args.var) m refl)))
