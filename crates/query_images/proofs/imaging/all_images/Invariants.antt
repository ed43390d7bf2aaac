-- The images of the queries so far.
use Rattle.std.proofs.Common.{List, ◌↔◌, take}
use Rattle.vocabulary.specs.declared.term.Term.{Term}
use Rattle.vocabulary.specs.Lists.{In}
use Rattle.mapping_facts.specs.Facts.{mapped_facts}
use Rattle.query_images.specs.Images.{IsImageOfOne}
use Rattle.query_images.proofs.imaging.all_images.Given as goal

abbrev pub invariant-loop-query : goal.invariant-loop-query
invariant-loop-query l = (ts : List Term) → In ts l.found.items ↔ IsImageOfOne (mapped_facts l.mappings l.tables) (take l.query-index l.queries) ts
