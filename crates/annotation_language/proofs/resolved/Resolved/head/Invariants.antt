-- The variables so far.
use Rattle.std.proofs.Common.{◌≡◌, map, take}
use Rattle.annotation_language.specs.Lines.{variable}
use Rattle.annotation_language.specs.Shown.{shown_query}
use Rattle.annotation_language.specs.Resolved.{texts}
use Rattle.annotation_language.proofs.resolved.Resolved.head.Given as goal

abbrev pub invariant-loop-v : goal.invariant-loop-v
invariant-loop-v l = l.head.items ≡ map (variable (shown_query l.self.query.now)) (texts (take l.v-index l.self.query.now.head.items))
