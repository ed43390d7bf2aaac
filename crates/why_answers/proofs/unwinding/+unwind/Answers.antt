-- By `Unwound`.
use Rattle.std.proofs.Common.{subst, ◌∙◌, ap, arith}
use Rattle.why_answers.specs.Showing.{Read, mark_facts}
use Rattle.why_answers.proofs.Searching.{member_head}
use Rattle.why_answers.proofs.Unwound.{from_none, from_some, place_low}
use Rattle.why_answers.proofs.unwinding.+unwind.Goals as goal

pub from_at-requires : goal.from_at-requires
from_at-requires t c = place_low c.args.nodes.now c.args.at c.requires.node.0 c.requires.node.1

pub settled-requires-clause-read : goal.settled-requires-clause-read
settled-requires-clause-read t c =
    subst (λ r. Read r.atoms (mark_facts c.args.shown.marks)) (from_none c.args.downs.now.axioms c.args.query.now c.args.nodes.now c.args.at c.requires.node.0 c.requires.nodes c.requires.node.1 c.from_at.result (c.from_at.ensures c.requires.node.0 c.requires.node.1) c.in_default.is) c.requires.node.2

pub back-requires-clause-head : goal.back-requires-clause-head
back-requires-clause-head t c =
    let n = c.requires.node in
    let w = from_some c.args.downs.now.axioms c.args.query.now c.args.nodes.now c.args.at n.0 c.requires.nodes n.1 c.from_at.result (c.from_at.ensures n.0 n.1) c.in-Some.from c.in-Some.step c.in-Some.is in
    ap (λ q. q.head) (c.query_at.ensures w.1.0 w.1.1) ∙ member_head c.args.downs.now.axioms c.args.query.now c.args.nodes.now c.in-Some.from w.1.0 c.requires.nodes c.requires.head w.1.1

pub unwind-requires : goal.unwind-requires
unwind-requires t c =
    let n = c.requires.node in
    let w = from_some c.args.downs.now.axioms c.args.query.now c.args.nodes.now c.args.at n.0 c.requires.nodes n.1 c.from_at.result (c.from_at.ensures n.0 n.1) c.in-Some.from c.in-Some.step c.in-Some.is in (
      let fall = c.decreases in let low = w.0 in omega (arith, fall, low),
      (
        c.requires.axioms,
        (
          c.requires.few,
          (
            c.requires.within,
            (
              c.requires.head,
              (
                c.requires.nodes,
                (
                  w.1.0,
                  w.1.1,
                  subst (λ q. Read q.atoms (mark_facts c.in_ok-shown.shown.marks)) (c.query_at.ensures w.1.0 w.1.1) c.in_ok-shown.ensures.read,
                ),
              ),
            ),
          ),
        ),
      ),
    )
