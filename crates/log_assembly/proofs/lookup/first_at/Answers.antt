use Rattle.std.proofs.Common.{rules}
use Rattle.std.specs.Ordering.{is_lt}
use Rattle.std.proofs.lemmas.List.Sorted.{IsPartitionPoint-from_clause}
use Rattle.queries.specs.Order.{tuple_cmp}
use Rattle.log_assembly.specs.Found.{first_cmp}
use Rattle.log_assembly.proofs.Neighbours.{first_is}
use Rattle.log_assembly.proofs.Runs.{parted_before}
use Rattle.log_assembly.proofs.Tuples.{first_rises}
use Rattle.log_assembly.proofs.lookup.first_at.Goals as goal

pub returns-in-Some-clause-first : goal.returns-in-Some-clause-first
returns-in-Some-clause-first c = first_is c.args.term.now c.args.tuples.now c.in-Some.at c.requires c.in-Some.ensures

pub returns-in-None-clause-first : goal.returns-in-None-clause-first
returns-in-None-clause-first c =
    IsPartitionPoint-from_clause (λ y. is_lt (first_cmp c.args.term.now y)) c.args.tuples.now c.partition_point.result c.partition_point.ensures.partitioned
    (parted_before tuple_cmp (first_cmp c.args.term.now) (first_rises c.args.term.now) c.args.tuples.now c.requires) (λ a r q k. search rules)
