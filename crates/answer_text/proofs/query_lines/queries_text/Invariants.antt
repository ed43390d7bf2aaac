use Rattle.std.proofs.Common.{◌≡◌, take}
use Rattle.answer_text.specs.Queries.{queries_text}
use Rattle.answer_text.proofs.query_lines.queries_text.Given as goal

abbrev pub invariant-loop-query : goal.invariant-loop-query
invariant-loop-query l = l.out.items ≡ queries_text l.names.variables.now l.names.classes.now l.names.links.now (take l.query-index l.asked)
