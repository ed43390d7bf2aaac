-- The facts so far are marked.
use Rattle.std.proofs.Common.{◌≡◌, take}
use Rattle.why_answers.specs.Showing.{IsShown, mark_facts}
use Rattle.why_answers.proofs.unwinding.known_marks.Given as goal

abbrev pub invariant-loop-fact : goal.invariant-loop-fact
invariant-loop-fact l = (mark_facts l.shown.marks ≡ take l.fact-index l.facts) × IsShown l.downs.axioms l.mappings l.tables l.shown
