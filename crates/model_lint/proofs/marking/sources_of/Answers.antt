-- By `Marked`.
use Rattle.model_lint.proofs.Marked.{none_of_func, none_of_identified}
use Rattle.model_lint.proofs.marking.sources_of.Goals as goal

pub returns-in-Func : goal.returns-in-Func
returns-in-Func c = λ b. rw (c.new.ensures, c.in-Func.is) (none_of_func c.args.downs.now.axioms c.in-Func.field-0 c.in-Func.field-1 b)

pub returns-in-Identified : goal.returns-in-Identified
returns-in-Identified c = λ b. rw (c.new-in-Identified.ensures, c.in-Identified.is) (none_of_identified c.args.downs.now.axioms c.in-Identified.field-0 c.in-Identified.field-1 b)
